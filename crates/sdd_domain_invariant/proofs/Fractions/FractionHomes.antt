-- Where the homes are: no two fractions have one, and each is one of the table's.
use Rattle.std.proofs.Common.{◌≡◌, ℕ, suc, ◌+◌, ◌*◌, ◌<◌, ◌≤◌, refl, mul-le-mul_right, suc-mul, arith}
use mathlib.Core.Logic.{dite}
use native.Mathlib.Decide.{dec_lt, ℕ_discrete}
use Rattle.sdd_domain_invariant.specs.Fractions.FractionsAtHome.{fraction_at, homes_for}

further : (x y n : ℕ) → x < y → x * n + n ≤ y * n
further x y n h = let a : suc x * n ≤ y * n = mul-le-mul_right n h in omega (arith, suc-mul x n)

before : (a b n i j p q : ℕ) → a ≡ i * suc n → b ≡ j * suc n → i < j → p ≤ n → a + p < b + q
before a b n i j p q ea eb low near = let f = further i j (suc n) low in omega arith

-- each is one of them
pub inside : (n m i p : ℕ) → i < m → p ≤ n → fraction_at n i p < homes_for n m
unfolding fraction_at homes_for
inside n m i p low near = let f = further i m (suc n) low in omega arith

-- no two fractions have one home
pub one_slot : (n i j p q : ℕ) → p ≤ n → q ≤ n → fraction_at n i p ≡ fraction_at n j q → i ≡ j
unfolding fraction_at
one_slot n i j p q near near' e = dite (ℕ_discrete i j) (λ same. same)
    (λ ne. absurd (dite (dec_lt i j)
    (λ l. let b = before (i * suc n) (j * suc n) n i j p q refl refl l near in omega arith)
    (λ nl. let b = before (j * suc n) (i * suc n) n j i q p refl refl (omega arith) near' in omega arith)))

pub one_fraction : (n i p q : ℕ) → fraction_at n i p ≡ fraction_at n i q → p ≡ q
unfolding fraction_at
one_fraction n i p q e = omega arith
