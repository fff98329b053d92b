-- A participant is between calls, and what is in its bags and due is what it knows to wait, once its first private item was claimed, or let go of
use Rattle.std.proofs.Common.{◌≡◌, ◌≢◌, ℕ, ◌+◌, ◌<◌, ◌∷◌, ◌++◌, [], List, Option, None, slice_set, sym, ap, ◌∙◌, subst, arith}
use Rattle.std.proofs.lemmas.List.{set-set}
use mathlib.Core.Logic.{dite}
use native.Mathlib.Decide.{ℕ_discrete}
use base.Stored.{Gv}
use Rattle.atomic_table.specs.declared.shared.Seat.{Seat}
use Rattle.sdd_participants.specs.declared.participant.Participant.{Participant}
use Rattle.sdd_participants.specs.declared.waiting.LimboEntry.{LimboEntry}
use Rattle.sdd_participants.specs.declared.waiting.LimboEntry.TheVariants.{Item}
use Rattle.sdd_participants.specs.Waiting.{Waiting}
use Rattle.sdd_shared_values.specs.declared.value_fraction.ValueFraction.{ValueFraction}
use Rattle.sdd_rights.specs.declared.views.WaitingItem.{WaitingItem}
use Rattle.sdd_rights.specs.declared.views.View.{View}
use Rattle.sdd_domain_invariant.specs.Codes.{free_word, waiting_word}
use Rattle.sdd_domain_invariant.specs.Collectors.{private_in}
use Rattle.sdd_domain_invariant.specs.Collectors.CollectorWordSteps.{without_private}
use Rattle.sdd_domain_invariant.specs.Slots.SlotSteps.{behind, noted, without_item}
use Rattle.sdd_domain_invariant.specs.Sums.{total}
use Rattle.sdd_domain_invariant.specs.Slots.{waits_in}
use Rattle.sdd_domain_invariant.proofs.Sums.{is_same, is_other, total_has, total_snoc}
use Rattle.sdd_atomics.specs.TableFacts.{TableFacts, slots_of}
use Rattle.sdd_domain_steps.specs.BetweenCalls.{IsBetweenCalls}
use Rattle.sdd_domain_steps.specs.InBags.{AreInBags, KnownWaiting, is_closed, known_waiting}
use Rattle.sdd_domain_steps.specs.PrivateItems.{ClaimsBack, EmptiesOwn, LetsGoOf}
use Rattle.sdd_domain_steps.proofs.InBags.{first_private_out, turned_plain, without_last}
use Rattle.sdd_domain_steps.proofs.BetweenCalls.{between_calls_waits}

-- it was claimed for its bag
module _ (b : TableFacts) (p : ℕ) (own : Participant) (slot : ℕ) (s u : Seat ValueFraction View) (claims : ClaimsBack slot s u) where
  abbrev x : WaitingItem
  x = claims.item.item

  abbrev waits : List WaitingItem
  waits = s.me.0.slots.waits

  there_too : (i : ℕ) → total (waits_in i) (waits ++ x ∷ []) ≡ total (waits_in i) waits + waits_in i x
  there_too i = total_snoc (waits_in i) waits x

  pub claimed_waits : u.me.0.slots.waits ≡ s.me.0.slots.waits ++ claims.item.item ∷ []
  claimed_waits = ap (λ (v : View). v.slots.waits) claims.seat.view

  pub claimed_privates : u.me.0.slots.privates ≡ without_private slot s.me.0.slots.privates
  claimed_privates = ap (λ (v : View). v.slots.privates) claims.seat.view

  pub claimed_between_calls : IsBetweenCalls b p own s → slot < slots_of b → IsBetweenCalls b p own u
  claimed_between_calls q low = between_calls_waits b p own s u (waits ++ x ∷ []) (without_private slot s.me.0.slots.privates)
      (claims.shown ∷ s.me.0.fractions.waits)
      s.me.0.fractions.counts (noted slot (waiting_word 0) s.me.0) q claims.seat.table claims.seat.others claims.seat.view
      (λ i some_wait. let t = there_too i in dite (ℕ_discrete slot i) (λ e. omega arith)
      (λ ne. let o = is_other i x.slot (λ same. ne (sym claims.here ∙ same)) in q.waiting i (omega arith)))

  pub claimed_bags : (waiting : List Waiting) (taken : List LimboEntry) → AreInBags (slots_of b) (known_waiting s.me.0.slots) waiting taken
      → s.me.0.slots.closes ≡ None → AreInBags (slots_of b) (known_waiting u.me.0.slots) waiting taken
  claimed_bags waiting taken t none = let known : KnownWaiting = known_waiting s.me.0.slots in
      subst (λ (k : KnownWaiting). AreInBags (slots_of b) k waiting taken) (sym (ap (λ (v : View). known_waiting v.slots) claims.seat.view))
      (subst (λ (i : ℕ). AreInBags (slots_of b) (record known { plain = waits ++ x ∷ []; private = without_private i s.me.0.slots.privates }) waiting taken)
      claims.here (turned_plain (slots_of b) known waiting taken t claims.there.0 claims.item claims.there.1
      (ap (λ (o : Option ℕ). is_closed o claims.item.collector) none)))

  -- as many wait in each other slot, or place of a job
  pub claimed_others : (i : ℕ) → i ≢ slot → total (waits_in i) u.me.0.slots.waits ≡ total (waits_in i) s.me.0.slots.waits
  claimed_others i ne = ap (total (waits_in i)) claimed_waits ∙ (let t = there_too i in
      let o = is_other i x.slot (λ same. ne (sym same ∙ claims.here)) in omega arith)

  -- one waits in its own
  pub claimed_once : total (waits_in slot) s.me.0.slots.waits ≡ 0 → total (waits_in slot) u.me.0.slots.waits ≡ 1
  claimed_once none = ap (total (waits_in slot)) claimed_waits ∙ (let t = there_too slot in let o = is_same slot x.slot claims.here in omega arith)

  pub claimed_goes : without_item slot u.me.0.slots.waits ≡ without_item slot s.me.0.slots.waits
  claimed_goes = ap (without_item slot) claimed_waits ∙ without_last slot s.me.0.slots.waits x claims.here

  pub claimed_words : slice_set u.me.0.words (behind s.me.0.sizes slot) (free_word 0) ≡ slice_set s.me.0.words (behind s.me.0.sizes slot) (free_word 0)
  claimed_words = ap (λ (v : View). slice_set v.words (behind s.me.0.sizes slot) (free_word 0)) claims.seat.view
      ∙ set-set s.me.0.words (behind s.me.0.sizes slot) (waiting_word 0) (free_word 0)

  pub claimed_there : 0 < total (private_in slot) s.me.0.slots.privates
  claimed_there = let h = total_has (private_in slot) s.me.0.slots.privates claims.there.0 claims.item claims.there.1 in
      let o = is_same slot claims.item.item.slot claims.here in omega arith

-- it was let go of, as a close had claimed it
module _ (b : TableFacts) (p : ℕ) (own : Participant) (collector slot : ℕ) (s u : Seat ValueFraction View) (lets : LetsGoOf collector slot s u) where
  pub lost_between_calls : IsBetweenCalls b p own s → IsBetweenCalls b p own u
  lost_between_calls q = between_calls_waits b p own s u s.me.0.slots.waits
      (without_private slot s.me.0.slots.privates) s.me.0.fractions.waits s.me.0.fractions.counts lets.words q
      lets.seat.table lets.seat.others lets.seat.view q.waiting

  pub lost_bags : (waiting : List Waiting) (taken rest : List LimboEntry) → AreInBags (slots_of b) (known_waiting s.me.0.slots) waiting taken
      → taken ≡ Item slot ∷ rest → 0 < total (private_in slot) s.me.0.slots.privates → AreInBags (slots_of b) (known_waiting u.me.0.slots) waiting rest
  lost_bags waiting taken rest t first there =
      subst (λ (k : KnownWaiting). AreInBags (slots_of b) k waiting rest) (sym (ap (λ (v : View). known_waiting v.slots) lets.seat.view))
      (first_private_out (slots_of b) (known_waiting s.me.0.slots) waiting taken t (Item slot) rest first there)

-- its value was moved out for a close of its own
module _ (b : TableFacts) (p : ℕ) (own : Participant) (slot : ℕ) (value : Gv) (s u : Seat ValueFraction View) (empties : EmptiesOwn slot value s u) where
  pub emptied_between_calls : IsBetweenCalls b p own s → IsBetweenCalls b p own u
  emptied_between_calls q = between_calls_waits b p own s u s.me.0.slots.waits (without_private slot s.me.0.slots.privates) s.me.0.fractions.waits
      (record s.me.0.fractions.counts { gone = s.me.0.fractions.counts.gone + 1 }) (noted slot (free_word 0) s.me.0) q
      empties.seat.table empties.seat.others empties.seat.view q.waiting

  pub emptied_bags : (waiting : List Waiting) (taken rest : List LimboEntry) → AreInBags (slots_of b) (known_waiting s.me.0.slots) waiting taken
      → taken ≡ Item slot ∷ rest → 0 < total (private_in slot) s.me.0.slots.privates → AreInBags (slots_of b) (known_waiting u.me.0.slots) waiting rest
  emptied_bags waiting taken rest t first there =
      subst (λ (k : KnownWaiting). AreInBags (slots_of b) k waiting rest) (sym (ap (λ (v : View). known_waiting v.slots) empties.seat.view))
      (first_private_out (slots_of b) (known_waiting s.me.0.slots) waiting taken t (Item slot) rest first there)
