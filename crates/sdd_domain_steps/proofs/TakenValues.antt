-- What is known once the value of an item is to be moved out, and all units of its place but the place's own have come together
use Rattle.std.proofs.Common.{◌≡◌, ℕ, sym, ◌∙◌, subst}
use base.Stored.{Gv}
use Rattle.atomic_table.specs.declared.shared.Seat.{Seat}
use Rattle.sdd_shared_values.specs.ValueFractions.{FractionContent}
use Rattle.sdd_shared_values.specs.SharedValues.{content}
use Rattle.sdd_shared_values.specs.declared.value_fraction.ValueFraction.{ValueFraction}
use Rattle.sdd_rights.specs.declared.views.Sizes.{Sizes}
use Rattle.sdd_rights.specs.declared.views.View.{View}
use Rattle.sdd_domain_invariant.specs.Fractions.FractionsAtHome.{CarriedFractions, spare}
use Rattle.sdd_domain_invariant.specs.Fractions.FractionSteps.{CarriesAll, IsValue, TakesOut, IsDeposit, moving, forgetting}
use Rattle.sdd_atomics.proofs.Sitting.{KnowsAsBefore}
use Rattle.sdd_atomics.specs.TableFacts.{TableFacts, gamma_of, places_of}
use Rattle.sdd_atomics.specs.DomainSeat.{view, Knows}

-- what comes together as a seat tells that knows of its table what another one knew
pub rows_from : (slot : ℕ) (s t u : Seat ValueFraction View) → KnowsAsBefore s.me.0 t.me.0
    → ((value : Gv) (others : CarriedFractions)
    → CarriesAll t.me.0.fractions.gamma slot t.me.0.sizes.participants (spare t.me.0.sizes.participants) (IsValue value) others t.me.1
    → CarriesAll t.me.0.fractions.gamma slot t.me.0.sizes.participants 0 (IsValue value) others u.me.1)
    → (value : Gv) (others : CarriedFractions)
    → CarriesAll s.me.0.fractions.gamma slot s.me.0.sizes.participants (spare s.me.0.sizes.participants) (IsValue value) others t.me.1
    → CarriesAll s.me.0.fractions.gamma slot s.me.0.sizes.participants 0 (IsValue value) others u.me.1
rows_from slot s t u same rows value others row =
    subst (λ (k : ℕ × Sizes). CarriesAll k.0 slot k.1.participants 0 (IsValue value) others u.me.1) (λ d. (same.1 d, same.0 d))
    (rows value others (subst (λ (k : ℕ × Sizes). CarriesAll k.0 slot k.1.participants (spare k.1.participants) (IsValue value) others t.me.1)
    (λ d. (sym same.1 d, sym same.0 d)) row))

-- the seat before, with all fractions in the slot out, and with what the bank had joined to the last of them
module _ (b : TableFacts) (slot : ℕ) (s t u : Seat ValueFraction View) (knows : Knows b s) where
  abbrev γ : ℕ
  γ = gamma_of b

  abbrev n : ℕ
  n = places_of b

  pub deposit_known : (l : FractionContent) → IsDeposit slot s.me l → l ≡ content γ slot l.lifetime l.shown (spare n)
  deposit_known l is = subst (λ (k : ℕ × Sizes). l ≡ content k.0 slot l.lifetime l.shown (spare k.1.participants)) (λ d. (knows.1 d, knows.0 d)) is

  module _ (out : TakesOut slot s.me t.me) where
    pub row_taken : CarriesAll γ slot n (spare n) (IsValue out.value) s.me.1 t.me.1
    row_taken = subst (λ (k : ℕ × Sizes). CarriesAll k.0 slot k.1.participants (spare k.1.participants) (IsValue out.value) s.me.1 t.me.1)
        (λ d. (knows.1 d, knows.0 d)) out.fractions

    module _ (joined : (u.table_id ≡ t.table_id) × (u.id ≡ t.id) × (view u ≡ view t))
        (rows : (value : Gv) (others : CarriedFractions) → CarriesAll γ slot n (spare n) (IsValue value) others t.me.1
        → CarriesAll γ slot n 0 (IsValue value) others u.me.1) where
      pub row_joined : CarriesAll γ slot n 0 (IsValue out.value) s.me.1 u.me.1
      row_joined = rows out.value s.me.1 row_taken

      pub view_joined : view u ≡ moving slot (forgetting slot (view s))
      view_joined = joined.2 ∙ out.view
