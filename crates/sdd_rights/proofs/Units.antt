-- A share as a number of units, of which the whole has 2 ^ 63.
use Rattle.std.proofs.Common.{◌≡◌, ℕ, zero, suc, ◌+◌, ◌-◌, ◌^◌, ◌<◌, ◌≤◌, arith, refl, sym, subst}
use native.Mathlib.Decide.{dec_le, dec_lt}
use mathlib.Mathlib.Data.Part.{Part, ◌∈◌, mem_unique, mem-bind_iff}
use base.Fraction.{full_share}
use base.FractionLaws.{Counts, counts_some, Counts-op, Counts-all, not-OpDef-full_share}
use base.Fml.{Share}
use base.Share

-- no share has no unit
pub counts-pos : (q : Share) (k : ℕ) → Counts 63 q k → 0 < k
counts-pos q zero c = absurd (Share.Share-not-Idem q (Counts-op 63 q q q 0 0 0 c c c refl))
counts-pos q (suc k) c = omega arith

-- all units are the whole
pub counts-whole : (q : Share) → Counts 63 q (2 ^ 63) → q ≡ full_share
counts-whole q c = let a = counts_some 63 1 (omega arith) (omega arith) in let b = counts_some 63 (2 ^ 63 - 1) (omega arith) (omega arith) in
    let sum = λ (s : Share) (n : Counts 63 s (2 ^ 63)). Counts-op 63 a.0 b.0 s 1 (2 ^ 63 - 1) (2 ^ 63) a.1 b.1 n refl in
    mem_unique (Share.op a.0 b.0) (sum q c) (sum full_share (Counts-all 63))

-- a sum with a share that is two is a sum with the one and then the other
regrouped : (q a b r s t : Share) → r ∈ Share.op a b → s ∈ Share.op q r → t ∈ Share.op q a → s ∈ Share.op t b
regrouped q a b r s t cut sum first = let whole = (mem-bind_iff (Share.op a b) (λ x. Share.op q x)).1 (r, cut, sum) in
    let moved = subst (λ (P : Part {0, 0} Share). s ∈ P) (sym (Share.Share-pcs.op_assoc q a b)) whole in
    let m = (mem-bind_iff (Share.op q a) (λ x. Share.op x b)).0 moved in
    subst (λ (x : Share). s ∈ Share.op x b) (mem_unique (Share.op q a) m.1 first) m.2

-- nothing is beside the whole
alone : (q r s : Share) → q ≡ full_share → s ∈ Share.op q r → ⊥
alone q r s e sum = not-OpDef-full_share r (subst (λ (x : Share). s ∈ Share.op x r) e sum).0

over : (q r s : Share) (m n : ℕ) → Counts 63 q m → Counts 63 r n → n ≤ 2 ^ 63 → m < 2 ^ 63 → 2 ^ 63 < m + n → s ∈ Share.op q r → ⊥
over q r s m n c d fits less much sum = let a = counts_some 63 (2 ^ 63 - m) (omega arith) (omega arith) in
    let b = counts_some 63 (m + n - 2 ^ 63) (omega arith) (omega arith) in
    let cut = Counts-op 63 a.0 b.0 r (2 ^ 63 - m) (m + n - 2 ^ 63) n a.1 b.1 d (omega arith) in
    let first = Counts-op 63 q a.0 full_share m (2 ^ 63 - m) (2 ^ 63) c a.1 (Counts-all 63) (omega arith) in
    alone full_share b.0 s refl (regrouped q a.0 b.0 r s full_share cut sum first)

-- two shares that have a sum have no more units than there are
pub counts-fits : (q r s : Share) (m n : ℕ) → Counts 63 q m → Counts 63 r n → m ≤ 2 ^ 63 → n ≤ 2 ^ 63 → s ∈ Share.op q r → m + n ≤ 2 ^ 63
counts-fits q r s m n c d low fits sum = by_sum (dec_le (m + n) (2 ^ 63)) (dec_lt m (2 ^ 63))
  where
    by_sum : Dec (m + n ≤ 2 ^ 63) → Dec (m < 2 ^ 63) → m + n ≤ 2 ^ 63
    by_sum (yes h) _ = h
    by_sum (no h) (yes l) = absurd (over q r s m n c d fits l (omega arith) sum)
    by_sum (no h) (no l) = absurd (alone q r s (counts-whole q (subst (λ (k : ℕ). Counts 63 q k) (omega arith) c)) sum)
