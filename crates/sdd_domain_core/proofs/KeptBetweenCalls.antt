-- What holds of a participant between two calls holds still, where little of its seat is new
use Rattle.std.proofs.Common.{◌≡◌, ℕ, ◌<◌, List, sym, ap, ◌∙◌, subst}
use Rattle.std.specs.Prelude.{Option}
use base.Stored.{Gv}
use Rattle.atomic_table.specs.declared.shared.Seat.{Seat}
use Rattle.sdd_atomics.specs.TableFacts.{TableFacts}
use Rattle.sdd_participants.specs.declared.participant.Participant.{Participant}
use Rattle.sdd_participants.specs.declared.tally.Tally.{Tally}
use Rattle.sdd_shared_values.specs.declared.value_fraction.ValueFraction.{ValueFraction}
use Rattle.sdd_rights.specs.declared.views.View.{View}
use Rattle.sdd_shared_values.specs.CarriedFractions.{OnlyLends}
use Rattle.sdd_domain_steps.specs.BetweenCalls.{AreLentTo, IsBetweenCalls, AgreesWithView}
use Rattle.sdd_domain_steps.specs.DueItems.{Pending}
use Rattle.sdd_domain_steps.specs.InBags.{known_waiting}
use Rattle.sdd_domain_steps.specs.Receipt.{IsTallied}
use Rattle.sdd_domain_steps.proofs.InPlace.{between_calls_noted}
use Rattle.sdd_domain_steps.proofs.BetweenCalls.{HasSeen, between_calls_shows}

module _ {J A B : Type 0} (b : TableFacts) (p : ℕ) (own : Participant) (lifetime : ℕ) (due : Pending) (free : ℕ) (jobs : List (Option J))
    (privates : List (Option ℕ)) (tally : Tally) (l : Seat ValueFraction View)
    (i : IsBetweenCalls b p own l × A × B × AreLentTo lifetime l.me.1 × AgreesWithView b own due free jobs privates (known_waiting l.me.0.slots)
    × IsTallied 0 tally l.me.0.fractions.counts) where
  -- its note of words is new
  pub noted_on : (t : Seat ValueFraction View) → t ≡ l → (u : Seat ValueFraction View) (words : List ℕ)
      → u.table_id ≡ t.table_id → u.me.1 ≡ t.me.1 → u.me.0 ≡ record t.me.0 { words = words }
      → IsBetweenCalls b p own u × A × B × AreLentTo lifetime u.me.1 × AgreesWithView b own due free jobs privates (known_waiting u.me.0.slots)
      × IsTallied 0 tally u.me.0.fractions.counts
  noted_on t same u words table others view =
      let row = others ∙ ap (λ (x : Seat ValueFraction View). x.me.1) same in
      let here = view ∙ ap (λ (x : Seat ValueFraction View). record x.me.0 { words = words }) same in (
        between_calls_noted b p own l i.0 u words (table ∙ ap (λ (x : Seat ValueFraction View). x.table_id) same) row here,
        i.1,
        i.2,
        subst (AreLentTo lifetime) (sym row) i.3,
        subst (AgreesWithView b own due free jobs privates) (sym (ap (λ (v : View). known_waiting v.slots) here)) i.4,
        subst (IsTallied 0 tally) (sym (ap (λ (v : View). v.fractions.counts) here)) i.5,
      )

  -- a slot was seen, and a fraction of it may be lent to the section
  pub shown_on : (t : ℕ) → t ≡ lifetime → (slot : ℕ) (value : Gv) (f u : Seat ValueFraction View) → 0 < own.guards → f.table_id ≡ l.table_id
      → HasSeen b p t slot value l f → u ≡ record f { me = (f.me.0, u.me.1) } → OnlyLends t f.me.1 u.me.1
      → IsBetweenCalls b p own u × A × B × AreLentTo lifetime u.me.1 × AgreesWithView b own due free jobs privates (known_waiting u.me.0.slots)
      × IsTallied 0 tally u.me.0.fractions.counts
  shown_on t section slot value f u some_open table seen is lends =
      let between_calls = between_calls_shows b p own t slot value l f u i.0 some_open table seen is lends in
      let view = ap (λ (x : Seat ValueFraction View). x.me.0) is ∙ seen.view in (
        between_calls.0,
        i.1,
        i.2,
        subst (λ (k : ℕ). AreLentTo k u.me.1) section between_calls.1,
        subst (AgreesWithView b own due free jobs privates) (sym (ap (λ (v : View). known_waiting v.slots) view)) i.4,
        subst (IsTallied 0 tally) (sym (ap (λ (v : View). v.fractions.counts) view)) i.5,
      )
