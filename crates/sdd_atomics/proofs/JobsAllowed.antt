-- What each call of the table asks for that is made on a place of the table of jobs
use Rattle.std.proofs.Common.{◌≡◌, ℕ, ◌<◌, ◌≤◌, eqb, sym, ap, ◌∙◌, subst}
use Rattle.std.specs.Prelude.{None}
use prog.Atomic.{either}
use Rattle.atomic_table.specs.Table.{Allows}
use Rattle.sdd_rights.specs.declared.views.Sizes.{Sizes}
use Rattle.sdd_domain_invariant.specs.Words.{slot_word, most_waiting}
use Rattle.sdd_domain_invariant.specs.Codes.{free_word, waiting_word}
use Rattle.sdd_domain_invariant.specs.Epoch.{HasPlace}
use Rattle.sdd_domain_invariant.specs.Slots.SlotSteps.{IsDue, LooksAtSlot, AtSlot}
use Rattle.sdd_domain_invariant.specs.DomainInvariant.{DomainInvariant}
use Rattle.sdd_domain_invariant.specs.Fractions.FractionSteps.{SeatState, DefersJob, GivesPlace, OfSlot}
use Rattle.sdd_domain_invariant.proofs.Jobs.JobSteps as steps
use Rattle.sdd_atomics.specs.DomainSeat.{Told}

module _ (γ : ℕ) (sizes : Sizes) (slots id : ℕ) (me : SeatState) (same : me.0.sizes ≡ sizes) (gamma : me.0.fractions.gamma ≡ γ) (live : HasPlace me.0.epoch)
    (i place : ℕ) (is : i ≡ slot_word sizes place) (inside : (sizes.slots ≤ place) × (place < most_waiting sizes)) (rests : me.0.fractions.moves ≡ None) where
  abbrev May : (ℕ → ℕ) → (ℕ → SeatState → Type 0) → Type 0
  May = Allows (DomainInvariant γ sizes) slots id me i

  -- where the place is, by the sizes that the participant knows
  within : (me.0.sizes.slots ≤ place) × (place < most_waiting me.0.sizes)
  within = subst (λ (z : Sizes). (z.slots ≤ place) × (place < most_waiting z)) (sym same) inside

  at_place : (f : ℕ → ℕ) (told : ℕ → ℕ → SeatState → Type 0) → Allows (DomainInvariant me.0.fractions.gamma me.0.sizes) slots id me
      (slot_word me.0.sizes place) f
      (told (slot_word me.0.sizes place)) → May f (told i)
  at_place f told = let there : slot_word me.0.sizes place ≡ i = ap (λ (z : Sizes). slot_word z place) same ∙ sym is in
      subst (λ (t : ℕ × Sizes × ℕ). Allows (DomainInvariant t.0 t.1) slots id me t.2 f (told t.2)) (λ d. (gamma d, same d, there d))

  pub may_look : May (λ x. x) (Told (AtSlot LooksAtSlot i) me)
  may_look = at_place (λ x. x) (λ j. Told (AtSlot LooksAtSlot j) me) (steps.looks slots id me live place within.0 within.1 rests)

  pub may_defer : May (λ x. either (eqb x (free_word 0)) (waiting_word 0) x) (OfSlot (λ slot. DefersJob slot (free_word 0) (waiting_word 0)) i me)
  may_defer = at_place (λ x. either (eqb x (free_word 0)) (waiting_word 0) x) (λ j. OfSlot (λ slot. DefersJob slot (free_word 0) (waiting_word 0)) j me)
      (steps.defers slots id me live place within.0 within.1 rests)

  pub may_give_place : IsDue me.0 place → May (λ _. free_word 0) (λ _. OfSlot GivesPlace i me (free_word 0))
  may_give_place due = at_place (λ _. free_word 0) (λ j _. OfSlot GivesPlace j me (free_word 0))
      (steps.gives_place slots id me live place within.0 within.1 rests due)
