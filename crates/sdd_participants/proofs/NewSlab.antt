-- A table of empty places lists each of them
use Rattle.std.proofs.Common.{cond, ◌*◌, List, ◌≡◌, ℕ, zero, suc, ◌+◌, ◌<◌, ◌≤◌, [], ◌∷◌, ◌++◌, replicate, slice_index, None, Option, sym, ap, ◌∙◌, arith, subst}
use Rattle.std.specs.Prelude.{count_by, is_none}
use Rattle.std.specs.List.{range_with_len}
use Rattle.std.proofs.lemmas.List.FromFn.{get_or-range_with_len, length-range_with_len}
use Rattle.std.proofs.lemmas.List.{length-replicate, get_or-replicate}
use Rattle.std.proofs.lemmas.List.Folds.{sum_by-replicate}
use Rattle.sdd_participants.specs.Slab.{IsListed}

-- the numbers from a on, and one more
from : (a n : ℕ) → range_with_len a (n + 1) ≡ range_with_len a n ++ (a + n) ∷ []
from a zero = let e : a ≡ a + 0 = omega arith in ap (λ x. x ∷ []) e
from a (suc n) =
    let size : suc n + 1 ≡ suc (n + 1) = omega arith in let last : a + 1 + n ≡ a + suc n = omega arith in
    ap (λ m. range_with_len a m) size ∙ ap (λ xs. a ∷ xs) (from (a + 1) n) ∙ ap (λ x. a ∷ (range_with_len (a + 1) n ++ x ∷ [])) last

pub one_more : (n : ℕ) → range_with_len 0 (n + 1) ≡ range_with_len 0 n ++ n ∷ []
one_more n = let e : 0 + n ≡ n = omega arith in from 0 n ∙ ap (λ x. range_with_len 0 n ++ x ∷ []) e

all-empty : (E : Type 0) (n : ℕ) → count_by {X = Option E} is_none (replicate n None) ≡ n
all-empty E n = let once : n * 1 ≡ n = omega arith in sum_by-replicate (λ (e : Option E). cond (is_none e) 1 0) n None ∙ once

module _ {E : Type 0} where
  pub fresh : (n room : ℕ) → n ≤ room → IsListed {E = E} (replicate n None) (range_with_len 0 n) room
  fresh n room fits = let size = length-range_with_len 0 n in let places = length-replicate {A = Option E} n None in record {
    each = λ i h. let lt : i < n = omega (arith, size, h) in let is = get_or-range_with_len 0 n i 0 lt in
        let inside : slice_index (range_with_len 0 n) i < n = omega (arith, is, lt) in
        (omega (arith, places, inside), get_or-replicate n (slice_index (range_with_len 0 n) i) None None inside);
    once = λ i j h k e. let lt : j < n = omega (arith, size, k) in let a = get_or-range_with_len 0 n i 0 (omega (arith, h, lt)) in
        let b = get_or-range_with_len 0 n j 0 lt in absurd (omega (arith, a, b, e, h));
    all = size ∙ sym (all-empty E n);
    reserved = omega (arith, places, fits);
  }

  -- the same of lists that are these
  pub fresh-as : (n room : ℕ) (entries : List (Option E)) (empty : List ℕ) → entries ≡ replicate n None → empty ≡ range_with_len 0 n → n ≤ room →
      IsListed entries empty room
  fresh-as n room entries empty all numbers fits =
      subst (λ xs. IsListed {E = E} xs empty room) (sym all)
      (subst (λ ks. IsListed {E = E} (replicate n None) ks room) (sym numbers) (fresh n room fits))
