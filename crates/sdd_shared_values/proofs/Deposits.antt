-- What a bank has, as one deposit a number: units go out of it and come to it, and the deposits of other numbers stay.
use Rattle.std.proofs.Common.{inl, inr, ◌≡◌, ◌≢◌, ℕ, ◌+◌, ◌-◌, ◌<◌, List, [], ◌∷◌, sym, refl, ap, ◌∙◌, arith, eq-eqb, ne_eqb, eqb}
use Rattle.std.specs.Prelude.{None}
use mathlib.Core.Logic.{dite}
use native.Mathlib.Decide.{ℕ_discrete}
use prog.Atomic.{either}
use Rattle.sdd_shared_values.specs.ValueFractions.{FractionContent}
use Rattle.sdd_shared_values.specs.Bank.{Leaves, Comes}
use Rattle.sdd_shared_values.specs.Deposits.{of_number, units_at, AreDeposits}

of_same : (i : ℕ) (h : FractionContent) → h.number ≡ i → of_number i h ≡ h.units
of_same i h e = ap (λ (b : _). either b h.units 0) (eq-eqb h.number i e)

of_other : (i : ℕ) (h : FractionContent) → h.number ≢ i → of_number i h ≡ 0
of_other i h ne = ap (λ (b : _). either b h.units 0) (ne_eqb h.number i ne)

at_number : (hs : List FractionContent) (i j : ℕ) → i ≡ j → units_at i hs ≡ units_at j hs
at_number hs i j e = ap (λ (k : ℕ). units_at k hs) e

-- what goes out: one unit of the deposit, of which there is more
pub record Draws (γ i : ℕ) (ls : List FractionContent) (l : FractionContent) (rest : List FractionContent) : Type 0 where
  pub goes : Leaves ls l rest
  pub gamma : l.gamma ≡ γ
  pub number : l.number ≡ i
  pub free : l.lent ≡ None
  pub deposits : AreDeposits γ rest
  pub less : units_at i rest + l.units ≡ units_at i ls
  pub others : (j : ℕ) → j ≢ i → units_at j rest ≡ units_at j ls

-- so many units of the deposit go out, and at least one stays
pub draws : (γ i units : ℕ) (ls : List FractionContent) → AreDeposits γ ls → 0 < units → units < units_at i ls
    → (l : FractionContent) × (rest : List FractionContent) × (l.units ≡ units) × Draws γ i ls l rest
draws γ i units [] are some more = absurd (omega arith)
draws γ i units (h ∷ hs) are some more = dite (ℕ_discrete h.number i)
    (λ e. let l : FractionContent = record h { units = units } in let h' : FractionContent = record h { units = h.units - units } in
    let o = of_same i h e in let o' = of_same i h' e in let none = at_number hs h.number i e in let z = are.3 in (
      l,
      h' ∷ hs,
      refl,
      record {
        goes = inr (inl (h', record { free = are.1; some = some; fewer = omega arith; same = refl; stays = refl }, refl));
        gamma = are.0;
        number = e;
        free = are.1;
        deposits = (are.0, are.1, omega arith, are.3, are.4);
        less = omega arith;
        others = λ j ne. let a = of_other j h (λ x. ne (sym x ∙ e)) in let b = of_other j h' (λ x. ne (sym x ∙ e)) in omega arith;
      },
    ))
    (λ ne. let o = of_other i h ne in let t = draws γ i units hs are.4 some (omega arith) in let d = t.3 in let dl = d.less in (
      t.0,
      h ∷ t.1,
      t.2,
      record {
        goes = inr (inr (t.1, d.goes, refl));
        gamma = d.gamma;
        number = d.number;
        free = d.free;
        deposits = (are.0, are.1, are.2, d.others h.number ne ∙ are.3, d.deposits);
        less = omega arith;
        others = λ j n. let s = d.others j n in omega arith;
      },
    ))

-- the whole deposit goes out
pub draws_all : (γ i : ℕ) (ls : List FractionContent) → AreDeposits γ ls → 0 < units_at i ls
    → (l : FractionContent) × (rest : List FractionContent) × (l.units ≡ units_at i ls) × Draws γ i ls l rest
draws_all γ i [] are some = absurd (omega arith)
draws_all γ i (h ∷ hs) are some = dite (ℕ_discrete h.number i)
    (λ e. let o = of_same i h e in let none = at_number hs h.number i e in let z = are.3 in (
      h,
      hs,
      omega arith,
      record {
        goes = inl (refl, refl);
        gamma = are.0;
        number = e;
        free = are.1;
        deposits = are.4;
        less = omega arith;
        others = λ j ne. let a = of_other j h (λ x. ne (sym x ∙ e)) in omega arith;
      },
    ))
    (λ ne. let o = of_other i h ne in let t = draws_all γ i hs are.4 (omega arith) in let d = t.3 in let dl = d.less in let tl = t.2 in (
      t.0,
      h ∷ t.1,
      omega arith,
      record {
        goes = inr (inr (t.1, d.goes, refl));
        gamma = d.gamma;
        number = d.number;
        free = d.free;
        deposits = (are.0, are.1, are.2, d.others h.number ne ∙ are.3, d.deposits);
        less = omega arith;
        others = λ j n. let s = d.others j n in omega arith;
      },
    ))

pub record Brings (γ : ℕ) (ls : List FractionContent) (l : FractionContent) (more : List FractionContent) : Type 0 where
  pub comes : Comes ls l more
  pub deposits : AreDeposits γ more
  pub sum : units_at l.number more ≡ units_at l.number ls + l.units
  pub others : (j : ℕ) → j ≢ l.number → units_at j more ≡ units_at j ls

-- units come to the deposit of their number, or are the first of it
pub brings : (γ : ℕ) (ls : List FractionContent) (l : FractionContent) → AreDeposits γ ls → l.gamma ≡ γ → l.lent ≡ None → 0 < l.units
    → (more : List FractionContent) × Brings γ ls l more
brings γ [] l are gamma free some = let o = of_same l.number l refl in (
  l ∷ [],
  record { comes = refl; deposits = (gamma, free, some, refl, tt); sum = omega arith; others = λ j ne. let a = of_other j l (λ x. ne (sym x)) in omega arith },
)
brings γ (h ∷ hs) l are gamma free some = dite (ℕ_discrete h.number l.number)
    (λ e. let h' : FractionContent = record h { units = h.units + l.units } in let o = of_same l.number h e in let o' = of_same l.number h' e in (
      h' ∷ hs,
      record {
        comes = inr (inl (h', record { gamma = gamma ∙ sym are.0; number = sym e; free = are.1; others = free; sum = refl }, refl));
        deposits = (are.0, are.1, omega arith, are.3, are.4);
        sum = omega arith;
        others = λ j ne. let a = of_other j h (λ x. ne (sym x ∙ e)) in let b = of_other j h' (λ x. ne (sym x ∙ e)) in omega arith;
      },
    ))
    (λ ne. let o = of_other l.number h ne in let t = brings γ hs l are.4 gamma free some in let b = t.1 in let bs = b.sum in (
      h ∷ t.0,
      record {
        comes = inr (inr (t.0, b.comes, refl));
        deposits = (are.0, are.1, are.2, b.others h.number ne ∙ are.3, b.deposits);
        sum = omega arith;
        others = λ j n. let s = b.others j n in omega arith;
      },
    ))
