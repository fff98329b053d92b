-- What each call of the table asks for that a collector's close makes, or a bag on what waits for collectors
use Rattle.std.proofs.Common.{◌≡◌, ℕ, ◌<◌, ◌≤◌, ◌^◌, false, eqb, List, [], ◌∷◌, get_or, refl, sym, ap, ◌∙◌, subst, arith}
use Rattle.std.specs.Prelude.{None}
use prog.Atomic.{either}
use Rattle.atomic_table.specs.Table.{Allows, carried_after}
use Rattle.atomic_table.specs.declared.shared.Seat.{Seat}
use Rattle.sdd_witness.specs.Ledger.{Pledge}
use Rattle.sdd_witness.specs.Steps.{AllowsAlone}
use Rattle.sdd_shared_values.specs.declared.value_fraction.ValueFraction.{ValueFraction}
use Rattle.sdd_rights.specs.declared.views.CellKind.TheVariants.{Raw, Collector}
use Rattle.sdd_rights.specs.declared.views.CellRight.{CellRight}
use Rattle.sdd_rights.specs.declared.views.WaitingItem.{WaitingItem}
use Rattle.sdd_rights.specs.declared.views.View.{View}
use Rattle.sdd_rights.specs.declared.views.Sizes.{Sizes}
use Rattle.sdd_rights.specs.contracts.views.View.{the_row}
use Rattle.sdd_rights.specs.Views.{right_to}
use Rattle.sdd_domain_invariant.specs.Words.{slot_word}
use Rattle.sdd_domain_invariant.specs.Codes.{free_word, private_word, emptying_word, left_word}
use Rattle.sdd_domain_invariant.specs.Collectors.{Closes, FoundEmptied}
use Rattle.sdd_domain_invariant.specs.Collectors.CollectorWordSteps.{collected, WaitsFor, HasWaiting}
use Rattle.sdd_domain_invariant.specs.Epoch.{HasPlace}
use Rattle.sdd_domain_invariant.specs.Collectors.CollectorSteps.{CollectsOne, LeavesOneToClose, GivesOnePrivateBack, ClosesOne, ClosesNone, EmptiesOne, EmptiesOwnOne}
use Rattle.sdd_domain_invariant.specs.DomainInvariant.{DomainInvariant}
use Rattle.sdd_domain_invariant.specs.Fractions.FractionSteps.{SeatState, forgetting, OfSlot}
use Rattle.sdd_domain_invariant.specs.Fractions.PledgesInvariant.{pledging, freeing}
use Rattle.sdd_domain_invariant.proofs.Collectors.CollectorSteps as steps
use Rattle.sdd_atomics.specs.DomainSeat.{Moved}
use Rattle.sdd_atomics.specs.Emptying.{collector_named}
use Rattle.sdd_atomics.specs.Collectors.{ClosesOwn, EndsOwn, LeavesWaiting, CollectsBy}
use Rattle.sdd_atomics.proofs.Allowed.{moved_at}
use Rattle.sdd_atomics.proofs.Allowed as allowed
use Rattle.sdd_atomics.proofs.PrivateItemsAllowed.{collector_told}

-- the seat after a slot was claimed for a close, or wasn't
pub claimed_at : (s t : Seat ValueFraction View) (r : ℕ) → t.table_id ≡ s.table_id → t.id ≡ s.id → (collector word : ℕ) → word ≡ private_word collector
    → (i slot : ℕ) (sizes : Sizes) → i ≡ slot_word sizes slot → s.me.0.sizes ≡ sizes → OfSlot (EmptiesOne (collector_named word)) i s.me r t.me
    → Moved (EmptiesOne collector slot) s r t
claimed_at s t r home number collector word this i slot sizes is same e =
    subst (λ (k : ℕ). Moved (EmptiesOne k slot) s r t) (collector_told collector word this)
    (moved_at s t r home number (EmptiesOne (collector_named word)) i slot sizes is same e)

-- the same of an item of its own bag
pub own_claimed_at : (s t : Seat ValueFraction View) (r : ℕ) → t.table_id ≡ s.table_id → t.id ≡ s.id → (collector word : ℕ) → word ≡ private_word collector
    → (i slot : ℕ) (sizes : Sizes) → i ≡ slot_word sizes slot → s.me.0.sizes ≡ sizes → OfSlot (EmptiesOwnOne (collector_named word)) i s.me r t.me
    → Moved (EmptiesOwnOne collector slot) s r t
own_claimed_at s t r home number collector word this i slot sizes is same e =
    subst (λ (k : ℕ). Moved (EmptiesOwnOne k slot) s r t) (collector_told collector word this)
    (moved_at s t r home number (EmptiesOwnOne (collector_named word)) i slot sizes is same e)

abbrev first_cell_of : ℕ → List CellRight → ℕ
first_cell_of k [] = k
first_cell_of k (r ∷ rs) = r.cell

module _ (γ : ℕ) (sizes : Sizes) (slots id : ℕ) (me : SeatState) (same : me.0.sizes ≡ sizes) (gamma : me.0.fractions.gamma ≡ γ)
    (live : HasPlace me.0.epoch) where
  alone_known : (told : SeatState → Type 0) → AllowsAlone (DomainInvariant me.0.fractions.gamma me.0.sizes) slots id me told
      → AllowsAlone (DomainInvariant γ sizes) slots id me told
  alone_known told = subst (λ (t : ℕ × Sizes). AllowsAlone (DomainInvariant t.0 t.1) slots id me told) (λ d. (gamma d, same d))

  -- it has one right, to the collector's cell
  pub may_begin_close : (collector : ℕ) → me.0.cells.rights ≡ record { cell = collector; kind = Raw } ∷ [] → me.0.slots.closes ≡ None
      → AllowsAlone (DomainInvariant γ sizes) slots id me (ClosesOwn me)
  may_begin_close collector mine idle = alone_known (ClosesOwn me) (λ s h long at.
      let a = steps.closes slots id me live collector mine idle s h long at in (
        a.0,
        a.1,
        a.2,
        a.3,
        λ other had. subst (λ (c : ℕ). ClosesOne c me (a.0, carried_after me.1 a.1)) (ap (first_cell_of collector) (sym mine ∙ had)) a.4,
      ))

  pub may_end_close : (collector : ℕ) → me.0.cells.rights ≡ record { cell = collector; kind = Collector } ∷ [] → Closes me.0 collector
      → AllowsAlone (DomainInvariant γ sizes) slots id me (EndsOwn me)
  may_end_close collector mine shuts = alone_known (EndsOwn me) (λ s h long at.
      let a = steps.closes_none slots id me live collector mine shuts s h long at in (
        a.0,
        a.1,
        a.2,
        a.3,
        λ other had. subst (λ (c : ℕ). ClosesNone c me (a.0, carried_after me.1 a.1)) (ap (first_cell_of collector) (sym mine ∙ had)) a.4,
      ))

  module _ (i slot : ℕ) (is : i ≡ slot_word sizes slot) (inside : slot < sizes.slots) (rests : me.0.fractions.moves ≡ None) where
    abbrev May : (ℕ → ℕ) → (ℕ → SeatState → Type 0) → Type 0
    May = Allows (DomainInvariant γ sizes) slots id me i

    within : slot < me.0.sizes.slots
    within = allowed.within γ sizes slots id me same gamma live i slot is inside

    at_slot : (f : ℕ → ℕ) (told : ℕ → ℕ → SeatState → Type 0) → Allows (DomainInvariant me.0.fractions.gamma me.0.sizes) slots id me
        (slot_word me.0.sizes slot) f
        (told (slot_word me.0.sizes slot)) → May f (told i)
    at_slot = allowed.at_slot γ sizes slots id me same gamma live i slot is inside

    pub may_claim_private : (collector : ℕ) → collector < 2 ^ 32 → Closes me.0 collector → sizes.participants ≤ me.0.slots.looked
        → me.0.slots.empties ≡ None → me.0.slots.left ≡ false → (word : ℕ) → word ≡ private_word collector
        → May (λ x. either (eqb x word) emptying_word x) (OfSlot (EmptiesOne (collector_named word)) i me)
    may_claim_private collector fits shuts all idle fresh word this =
        subst (λ (w : ℕ × ℕ). May (λ x. either (eqb x w.0) emptying_word x) (OfSlot (EmptiesOne w.1) i me))
        (λ d. (sym this d, sym (collector_told collector word this) d))
        (at_slot (λ x. either (eqb x (private_word collector)) emptying_word x) (λ j. OfSlot (EmptiesOne collector) j me)
        (steps.empties slots id me live slot within rests collector (omega arith) shuts
        (allowed.all_looked γ sizes slots id me same gamma live i slot is inside all) idle fresh))

    pub may_claim_own_private : (collector : ℕ) → WaitsFor collector me.0 slot → collector < 2 ^ 32 → Closes me.0 collector
        → sizes.participants ≤ me.0.slots.looked → me.0.slots.empties ≡ None → me.0.slots.left ≡ false → (word : ℕ) → word ≡ private_word collector
        → May (λ x. either (eqb x word) emptying_word x) (OfSlot (EmptiesOwnOne (collector_named word)) i me)
    may_claim_own_private collector has fits shuts all idle fresh word this =
        subst (λ (w : ℕ × ℕ). May (λ x. either (eqb x w.0) emptying_word x) (OfSlot (EmptiesOwnOne w.1) i me))
        (λ d. (sym this d, sym (collector_told collector word this) d))
        (at_slot (λ x. either (eqb x (private_word collector)) emptying_word x) (λ j. OfSlot (EmptiesOwnOne collector) j me)
        (steps.empties_own slots id me live slot within rests collector has (omega arith) shuts
        (allowed.all_looked γ sizes slots id me same gamma live i slot is inside all) idle fresh))

    pub may_leave_to_close : (collector : ℕ) → WaitsFor collector me.0 slot
        → May (λ x. either (eqb x emptying_word) left_word x) (LeavesWaiting i me)
    may_leave_to_close collector has = at_slot (λ x. either (eqb x emptying_word) left_word x) (λ j. LeavesWaiting j me) (λ s h long at small.
        let a = steps.leaves_to_close slots id me live slot within rests collector has s h long at small in (
          a.0,
          a.1,
          a.2,
          a.3,
          λ other k where_is had. let this : slot ≡ other = omega arith in
              subst (λ (c : ℕ). LeavesOneToClose c other me (get_or s.words (slot_word me.0.sizes slot) 0) (a.0, carried_after me.1 a.1))
              (steps.one_collector slots id me live slot within rests s h at collector k has (subst (WaitsFor k me.0) (sym this) had)) (a.4 other where_is),
        ))

    pub may_give_private_back : FoundEmptied me.0 slot
        → May (λ _. free_word 0) (λ _. OfSlot GivesOnePrivateBack i me (free_word 0))
    may_give_private_back was = at_slot (λ _. free_word 0) (λ j _. OfSlot GivesOnePrivateBack j me (free_word 0))
        (steps.gives_private_back slots id me live slot within rests was)

    pub may_collect : (collector : ℕ) → collector < 2 ^ 32 → (p : Pledge) → me.0.pledges.own ≡ p ∷ []
        → p.view ≡ the_row.coded.code (right_to collector Raw) → (item : WaitingItem) → HasWaiting me.0 slot item → (word : ℕ)
        → word ≡ private_word collector → May (λ _. word) (CollectsBy word i me)
    may_collect collector fits p own shows item has word this =
        subst (λ (w : ℕ × ℕ). May (λ _. w.0) (λ _. OfSlot (CollectsOne w.1) i me w.0)) (λ d. (sym this d, sym (collector_told collector word this) d))
        (at_slot (λ _. private_word collector) (λ j _. OfSlot (CollectsOne collector) j me (private_word collector))
        (steps.collects slots id me live slot within rests collector p own shows item has (omega arith)))

-- what the pledge makes possible, and what it leaves
module _ (me : SeatState) (p : Pledge) (word collector slot i : ℕ) (this : word ≡ private_word collector) (where_is : i ≡ slot_word me.0.sizes slot) where
  abbrev pledged : SeatState
  pledged = (pledging me.0 p, me.1)

  abbrev pledging_these : List Pledge → View
  pledging_these own = record me.0 { pledges = record me.0.pledges { own = own } }

  pub collect_stays : (n : ℕ) (u : SeatState) → CollectsBy word i pledged n u → u.0.pledges.own ≡ p ∷ []
  collect_stays n u done = let c = done slot where_is in ap (λ (v : View). v.pledges.own) (c.2 ∙ ap (forgetting slot) c.1.2)

  pub collected_then : me.0.pledges.own ≡ [] → (n : ℕ) (u after : SeatState) → CollectsBy word i pledged n u → after ≡ (freeing u.0, u.1)
      → CollectsOne collector slot me (private_word collector) after
  collected_then bare n u after done freed = let c = done slot where_is in let item : WaitingItem = c.1.0 in
      subst (λ (w : ℕ × ℕ). CollectsOne w.1 slot me w.0 after) (λ d. (this d, collector_told collector word this d)) (
        collected slot (collector_named word) item word me.0,
        (item, c.1.1, refl),
        ap (λ (m : SeatState). m.0) freed ∙ (ap freeing (c.2 ∙ ap (forgetting slot) c.1.2)
            ∙ ap (λ (own : List Pledge). forgetting slot (collected slot (collector_named word) item word (pledging_these own))) (sym bare)),
        ap (λ (m : SeatState). m.1) freed ∙ c.3,
      )
