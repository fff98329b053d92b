-- What each call of the table asks for that is made on a private item
use Rattle.std.proofs.Common.{◌≡◌, ℕ, ◌<◌, ◌^◌, true, eqb, sym, ap, ◌∙◌, subst, arith}
use Rattle.std.specs.Prelude.{None}
use prog.Atomic.{either}
use Rattle.atomic_table.specs.Table.{Allows}
use Rattle.atomic_table.specs.declared.shared.Seat.{Seat}
use Rattle.sdd_shared_values.specs.SharedValues.{IsNoValueCode}
use Rattle.sdd_shared_values.specs.declared.value_fraction.ValueFraction.{ValueFraction}
use Rattle.sdd_shared_values.specs.Bank.{Leaves, AllowsDeal}
use Rattle.sdd_rights.specs.declared.views.View.{View}
use Rattle.sdd_rights.specs.declared.views.Sizes.{Sizes}
use Rattle.sdd_domain_invariant.specs.Words.{slot_word}
use Rattle.sdd_domain_invariant.specs.Codes.{free_word, waiting_word, private_word, emptying_word, emptied_word}
use Rattle.sdd_domain_invariant.specs.Epoch.{HasPlace}
use Rattle.sdd_rights.specs.declared.views.PrivateItem.{PrivateItem}
use Rattle.sdd_domain_invariant.specs.Collectors.{Empties, HasPrivate}
use Rattle.sdd_domain_invariant.specs.Collectors.CollectorWordSteps.{WaitsFor}
use Rattle.sdd_domain_invariant.specs.Fractions.BankInvariant.{IsBank, banked}
use Rattle.sdd_domain_invariant.specs.Fractions.FractionsAtHome.{CarriedFractions, Moves}
use Rattle.sdd_domain_invariant.specs.DomainInvariant.{DomainInvariant}
use Rattle.sdd_domain_invariant.specs.Fractions.FractionSteps.{SeatState, CarriesAll, IsDeposit, OfSlot}
use Rattle.sdd_domain_invariant.specs.Collectors.CollectorSteps.{ReclaimsOne, TakesPrivate, EmptiedOne, GivesOneEmptyBack, GivesOneOwnBack}
use Rattle.sdd_domain_invariant.proofs.Collectors.PrivateItemSteps as steps
use Rattle.sdd_atomics.specs.DomainSeat.{Moved}
use Rattle.sdd_atomics.specs.Emptying.{collector_named}
use Rattle.sdd_atomics.proofs.Allowed.{moved_at}

-- the word of a private item tells its collector
pub collector_told : (collector word : ℕ) → word ≡ private_word collector → collector_named word ≡ collector
collector_told collector word is = omega arith

-- the seat after a private item was claimed for its bag, or wasn't
pub reclaimed_at : (s t : Seat ValueFraction View) (r : ℕ) → t.table_id ≡ s.table_id → t.id ≡ s.id → (collector word : ℕ) → word ≡ private_word collector
    → (i slot : ℕ) (sizes : Sizes) → i ≡ slot_word sizes slot → s.me.0.sizes ≡ sizes → OfSlot (ReclaimsOne (collector_named word)) i s.me r t.me
    → Moved (ReclaimsOne collector slot) s r t
reclaimed_at s t r home number collector word this i slot sizes is same e =
    subst (λ (k : ℕ). Moved (ReclaimsOne k slot) s r t) (collector_told collector word this)
    (moved_at s t r home number (ReclaimsOne (collector_named word)) i slot sizes is same e)

module _ (γ : ℕ) (sizes : Sizes) (slots id : ℕ) (me : SeatState) (same : me.0.sizes ≡ sizes) (gamma : me.0.fractions.gamma ≡ γ) (live : HasPlace me.0.epoch)
    (slot : ℕ) (inside : slot < sizes.slots) where
  -- where the slot is, by the sizes that the participant knows
  within : slot < me.0.sizes.slots
  within = let e = ap (λ (z : Sizes). z.slots) same in omega arith

  pub may_take_private : (bd : ℕ) → me.0.fractions.moves ≡ None → Empties me.0 slot
      → AllowsDeal (DomainInvariant γ sizes) Leaves IsBank banked slots id me bd (λ _. Unit {0}) (λ l me'. TakesPrivate slot me me' × IsDeposit slot me l)
  may_take_private bd rests mine = subst (λ (t : ℕ × Sizes). AllowsDeal (DomainInvariant t.0 t.1) Leaves IsBank banked slots id me bd (λ _. Unit {0})
      (λ l me'. TakesPrivate slot me me' × IsDeposit slot me l)) (λ d. (gamma d, same d)) (steps.takes_private slots id me live slot within bd rests mine)

  -- on its word
  module _ (i : ℕ) (is : i ≡ slot_word sizes slot) where
    abbrev May : (ℕ → ℕ) → (ℕ → SeatState → Type 0) → Type 0
    May = Allows (DomainInvariant γ sizes) slots id me i

    at_slot : (f : ℕ → ℕ) (told : ℕ → ℕ → SeatState → Type 0) → Allows (DomainInvariant me.0.fractions.gamma me.0.sizes) slots id me
        (slot_word me.0.sizes slot) f
        (told (slot_word me.0.sizes slot)) → May f (told i)
    at_slot f told = let there : slot_word me.0.sizes slot ≡ i = ap (λ (z : Sizes). slot_word z slot) same ∙ sym is in
        subst (λ (t : ℕ × Sizes × ℕ). Allows (DomainInvariant t.0 t.1) slots id me t.2 f (told t.2)) (λ d. (gamma d, same d, there d))

    pub may_reclaim : (collector : ℕ) → WaitsFor collector me.0 slot → collector < 2 ^ 32 → me.0.fractions.moves ≡ None → (word : ℕ)
        → word ≡ private_word collector → May (λ x. either (eqb x word) (waiting_word 0) x) (OfSlot (ReclaimsOne (collector_named word)) i me)
    may_reclaim collector has fits rests word this = subst (λ (w : ℕ × ℕ). May (λ x. either (eqb x w.0) (waiting_word 0) x) (OfSlot (ReclaimsOne w.1) i me))
        (λ d. (sym this d, sym (collector_told collector word this) d))
        (at_slot (λ x. either (eqb x (private_word collector)) (waiting_word 0) x) (λ j. OfSlot (ReclaimsOne collector) j me)
        (steps.reclaims slots id me live slot within collector has (omega arith) rests))

    module _ (moved : Moves me.0 slot) (mine : Empties me.0 slot) (rest : CarriedFractions)
        (row : CarriesAll γ slot sizes.participants 0 IsNoValueCode rest me.1) where
      row_known : CarriesAll me.0.fractions.gamma slot me.0.sizes.participants 0 IsNoValueCode rest me.1
      row_known = subst (λ (t : ℕ × Sizes). CarriesAll t.0 slot t.1.participants 0 IsNoValueCode rest me.1) (λ d. (sym gamma d, sym same d)) row

      pub may_finish_emptying : May (λ x. either (eqb x emptying_word) emptied_word x) (OfSlot EmptiedOne i me)
      may_finish_emptying = at_slot (λ x. either (eqb x emptying_word) emptied_word x) (λ j. OfSlot EmptiedOne j me)
          (steps.has_emptied slots id me live slot within moved mine rest row_known)

      pub may_give_empty_back : me.0.slots.left ≡ true → May (λ _. free_word 0) (λ _. OfSlot GivesOneEmptyBack i me (free_word 0))
      may_give_empty_back late = at_slot (λ _. free_word 0) (λ j _. OfSlot GivesOneEmptyBack j me (free_word 0))
          (steps.gives_empty_back slots id me live slot within moved mine rest row_known late)

      pub may_give_own_back : (item : PrivateItem) → HasPrivate me.0 item → item.item.slot ≡ slot
          → May (λ _. free_word 0) (λ _. OfSlot GivesOneOwnBack i me (free_word 0))
      may_give_own_back item has of = at_slot (λ _. free_word 0) (λ j _. OfSlot GivesOneOwnBack j me (free_word 0))
          (steps.gives_own_back slots id me live slot within moved mine rest row_known item has of)
