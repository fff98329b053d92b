-- What the steps on the words of cells' pointers ask for, and what they leave
use Rattle.std.proofs.Common.{◌≡◌, ℕ, ◌<◌, None, eqb, sym, ap, ◌∙◌, subst, arith}
use prog.Atomic.{either}
use Rattle.atomic_table.specs.Table.{Allows}
use Rattle.atomic_table.specs.declared.shared.Seat.{Seat}
use Rattle.sdd_shared_values.specs.declared.value_fraction.ValueFraction.{ValueFraction}
use Rattle.sdd_rights.specs.declared.views.View.{View}
use Rattle.sdd_rights.specs.declared.views.Sizes.{Sizes}
use Rattle.sdd_domain_invariant.specs.Words.{pointer_word}
use Rattle.sdd_domain_invariant.specs.Codes.{pointers_end}
use Rattle.sdd_domain_invariant.specs.Cells.CellWordSteps.{LooksAtPointer, SwapsPointer, ExchangesPointer}
use Rattle.sdd_domain_invariant.specs.Epoch.{HasPlace}
use Rattle.sdd_domain_invariant.specs.DomainInvariant.{DomainInvariant}
use Rattle.sdd_domain_invariant.specs.Fractions.FractionSteps.{SeatState}
use Rattle.sdd_domain_invariant.specs.Cells.CellSteps.{FindsPointer, OfPointer}
use Rattle.sdd_domain_invariant.proofs.Raw.PointerSteps as steps
use Rattle.sdd_atomics.specs.DomainSeat.{Moved}

module _ (γ : ℕ) (sizes : Sizes) (slots id : ℕ) (me : SeatState) (same : me.0.sizes ≡ sizes) (gamma : me.0.fractions.gamma ≡ γ) (live : HasPlace me.0.epoch)
    (rests : me.0.fractions.moves ≡ None) (cell : ℕ) (inside : cell < sizes.cells) (i : ℕ) (is : i ≡ pointer_word sizes cell) where
  abbrev May : (ℕ → ℕ) → (ℕ → SeatState → Type 0) → Type 0
  May = Allows (DomainInvariant γ sizes) slots id me i

  within : cell < me.0.sizes.cells
  within = let e = ap (λ (z : Sizes). z.cells) same in omega arith

  -- by the sizes that the participant knows
  as_known : (f : ℕ → ℕ) (told : ℕ → ℕ → SeatState → Type 0)
      → Allows (DomainInvariant me.0.fractions.gamma me.0.sizes) slots id me (pointer_word me.0.sizes cell) f (told (pointer_word me.0.sizes cell))
      → May f (told i)
  as_known f told = let there : pointer_word me.0.sizes cell ≡ i = ap (λ (z : Sizes). pointer_word z cell) same ∙ sym is in
      subst (λ (t : ℕ × Sizes × ℕ). Allows (DomainInvariant t.0 t.1) slots id me t.2 f (told t.2)) (λ d. (gamma d, same d, there d))

  pub may_look_at : May (λ x. x) (OfPointer (FindsPointer LooksAtPointer) i me)
  may_look_at = as_known (λ x. x) (λ j. OfPointer (FindsPointer LooksAtPointer) j me) (steps.looks_at slots id me live rests cell within)

  module _ (y : ℕ) (small : y < pointers_end) where
    pub may_swap : May (λ _. y) (OfPointer (FindsPointer (SwapsPointer y)) i me)
    may_swap = as_known (λ _. y) (λ j. OfPointer (FindsPointer (SwapsPointer y)) j me) (steps.swaps slots id me live rests cell within y small)

    pub may_exchange : (old : ℕ) → May (λ x. either (eqb x old) y x) (OfPointer (FindsPointer (ExchangesPointer old y)) i me)
    may_exchange old = as_known (λ x. either (eqb x old) y x) (λ j. OfPointer (FindsPointer (ExchangesPointer old y)) j me)
        (steps.exchanges slots id me live rests cell within y small old)

-- the seat after a step on the word of a pointer
pub pointer_moved : (s t : Seat ValueFraction View) (r : ℕ) → t.table_id ≡ s.table_id → t.id ≡ s.id → (R : ℕ → SeatState → ℕ → SeatState → Type 0)
    (i cell : ℕ) (sizes : Sizes) → i ≡ pointer_word sizes cell → s.me.0.sizes ≡ sizes → OfPointer R i s.me r t.me → Moved (R cell) s r t
pointer_moved s t r home number R i cell sizes is same e = (home, number, e cell (is ∙ ap (λ (z : Sizes). pointer_word z cell) (sym same)))
