-- A participant after an item of its own went out as raw, and after a look at one that is out
use Rattle.std.proofs.Common.{◌≡◌, ℕ, not, List, [], ◌∷◌, sym, refl, ap, ◌∙◌, subst, eq-eqb}
use Rattle.std.specs.Prelude.{false}
use mathlib.Core.Bool.{Bool, cond}
use base.Stored.{Gv}
use Rattle.atomic_table.specs.declared.shared.Seat.{Seat}
use Rattle.sdd_participants.specs.declared.participant.Participant.{Participant}
use Rattle.sdd_shared_values.specs.declared.value_fraction.ValueFraction.{ValueFraction}
use Rattle.sdd_rights.specs.declared.views.View.{View}
use Rattle.sdd_rights.specs.Views.{owner_of}
use Rattle.sdd_domain_invariant.specs.Slots.SlotSteps.{noted, without, turned_raw}
use Rattle.sdd_domain_invariant.specs.Fractions.FractionsAtHome.{CarriedFractions}
use Rattle.sdd_domain_invariant.specs.Fractions.FractionSteps.{regained, undrawing, untold}
use Rattle.sdd_atomics.specs.TableFacts.{TableFacts, gamma_of, places_of}
use Rattle.sdd_atomics.specs.DomainSeat.{view, Taught, Moved}
use Rattle.sdd_domain_steps.specs.BetweenCalls.{CarriesSeenOnly, IsBetweenCalls}
use Rattle.sdd_domain_steps.specs.RawItems.{PutsOut}

-- what is known once the item of an owner that was taken in is out as raw
out_view : (slot : ℕ) (value : Gv) (v : View) → v.slots.owns ≡ [] → v.fractions.owns ≡ []
    → untold (turned_raw slot 2 (undrawing (regained v (owner_of slot false value)))) ≡ record v { words = noted slot 2 v }
out_view slot value v owns told =
    let none : without slot (slot ∷ v.slots.owns) ≡ v.slots.owns = ap (λ (l : List ℕ). without slot (slot ∷ l)) owns
    ∙ (ap (λ (c : Bool). cond (not c) (slot ∷ []) []) (eq-eqb slot slot refl) ∙ sym owns) in
    λ d. record v { slots = record v.slots { owns = none d }; fractions = record v.fractions { owns = sym told d }; words = noted slot 2 v }

module _ (b : TableFacts) (p : ℕ) (own : Participant) (slot : ℕ) (value : Gv) (s t u : Seat ValueFraction View) (q : IsBetweenCalls b p own s)
    (took : Taught (λ v _ w. w ≡ regained v (owner_of slot false value)) s 0 t) (put : Moved (PutsOut slot) t 2 u) where
  -- where it is, what it knows, and what it has out
  pub put_home : u.table_id ≡ s.table_id
  put_home = put.0 ∙ took.0

  pub put_view : view u ≡ record (view s) { words = noted slot 2 (view s) }
  put_view = put.2.0 ∙ (ap (λ (w : View). untold (turned_raw slot 2 (undrawing w))) took.3 ∙ out_view slot value (view s) q.quiet.owns q.seen.owns)

  pub put_others : u.me.1 ≡ s.me.1
  put_others = put.2.1 ∙ took.2

  -- it is between two calls
  pub between_calls_out : IsBetweenCalls b p own u
  between_calls_out = subst (λ (w : View). IsBetweenCalls b p own (record u { me = (w, u.me.1) })) (sym put_view) record {
    home = put_home ∙ q.home;
    carries = subst (λ (xs : CarriedFractions). CarriesSeenOnly (gamma_of b) (places_of b) p s.me.0.fractions.sees xs) (sym put_others) q.carries;
    seen = record { owns = q.seen.owns; sees = q.seen.sees; once = q.seen.once };
    unseen = q.unseen;
    rests = q.rests;
    all = q.all;
    place = q.place;
    inside = q.inside;
    count = q.count;
    closed = q.closed;
    opened = q.opened;
    near = q.near;
    lone = q.lone;
    free = q.free;
    knows = q.knows;
    found = q.found;
    quiet = record {
      owns = q.quiet.owns;
      drawn = q.quiet.drawn;
      holds = q.quiet.holds;
      looked = q.quiet.looked;
      over = q.quiet.over;
      emptied = q.quiet.emptied;
      empties = q.quiet.empties;
      left = q.quiet.left;
    };
    pledges = q.pledges;
    rights = q.rights;
    waiting = q.waiting;
    room = q.room;
    pace = q.pace;
    idle = q.idle;
  }
