-- Walks along links
use Rattle.std.proofs.Common.{◌≡◌, ◌≢◌, ℕ, ◌+◌, ◌-◌, ◌<◌, ◌≤◌, Bool, false, cond, ltb, nat_eq, List, [], ◌∷◌, ◌++◌, length, get_or, set, zero, suc, refl, sym, ap, ◌∙◌, ⊎_elim, arith, get_or-set_same, get_or-set_other}
use Rattle.std.proofs.lemmas.Bool.{ne_eqb, eq-eqb, cases_eq, cases_lt, lt-ltb, le-ltb, or_from}
use Rattle.std.specs.Ordering.{nat_cmp}
use Rattle.std.specs.Cmp.{nat_cmp_total}
use Rattle.std.specs.FinSet as set
use Rattle.std.specs.List.{list_any}
use Rattle.std.proofs.lemmas.List.{length-append, get_or-append-add}
use Rattle.sdd_machine.specs.Chains.{walk, items_of, occ, IsChain}
use Rattle.sdd_machine.specs.declared.machine.chains.Chain.{Chain}

-- it occurs at the head
pub at_head : (i x : ℕ) (xs : List ℕ) → x ≡ i → occ i (x ∷ xs) ≡ 1 + occ i xs
at_head i x xs e = ap (λ (b : Bool). cond b 1 0 + occ i xs) (eq-eqb i x (sym e))

pub occ-append : (i : ℕ) (xs ys : List ℕ) → occ i (xs ++ ys) ≡ occ i xs + occ i ys
occ-append i [] ys = omega arith
occ-append i (x ∷ xs) ys = let rest = occ-append i xs ys in omega arith

pub length-walk : (links : List ℕ) (n x : ℕ) → length (walk links n x) ≡ n
length-walk links zero x = refl
length-walk links (suc n) x = ap suc (length-walk links n (get_or links x 0))

-- a link that a chain doesn't go through may be written
pub walk-set : (links : List ℕ) (l v n x : ℕ) → occ l (walk links n x) ≡ 0 → walk (set links l v) n x ≡ walk links n x
walk-set links l v zero x none = refl
walk-set links l v (suc n) x none =
    let apart : x ≢ l = λ e. absurd (let h = at_head l x (walk links n (get_or links x 0)) e in omega (arith, h, none)) in
    let rest : occ l (walk links n (get_or links x 0)) ≡ 0 = omega arith in
    ap (λ (y : ℕ). x ∷ walk (set links l v) n y) (get_or-set_other links l x v 0 apart)
    ∙ ap (λ (ys : List ℕ). x ∷ ys) (walk-set links l v n (get_or links x 0) rest)

pub occurs_at : (xs : List ℕ) (i l : ℕ) → i < length xs → get_or xs i 0 ≡ l → 0 < occ l xs
occurs_at [] i l lt e = absurd (omega arith)
occurs_at (x ∷ xs) zero l lt e = let h = at_head l x xs e in omega (arith, h)
occurs_at (x ∷ xs) (suc i) l lt e = let r = occurs_at xs i l (omega arith) e in omega arith

-- Linking a second chain behind the last item of a first one that goes through each item once: the join
pub walk_join : (links : List ℕ) (l v n k x : ℕ) → l < length links → get_or (walk links (suc n) x) n 0 ≡ l → occ l (walk links (suc n) x) ≤ 1 →
    walk (set links l v) (suc n + k) x ≡ walk links (suc n) x ++ walk (set links l v) k v
walk_join links l v zero k x lt e once =
    ap (λ (m : ℕ). walk (set links l v) m x) (let s : suc zero + k ≡ suc k = omega arith in s)
    ∙ ap (λ (y : ℕ). x ∷ walk (set links l v) k y) (ap (λ (y : ℕ). get_or (set links l v) y 0) e ∙ get_or-set_same links l v 0 lt)
walk_join links l v (suc n) k x lt e once =
    let y = get_or links x 0 in
    let again : 0 < occ l (walk links (suc n) y) = occurs_at (walk links (suc n) y) n l (let z = length-walk links (suc n) y in omega arith) e in
    let apart : x ≢ l = λ s. absurd (let h = at_head l x (walk links (suc n) y) s in omega (arith, h, once, again)) in
    let rest = walk_join links l v n k y lt e (omega arith) in
    ap (λ (m : ℕ). walk (set links l v) m x) (let s : suc (suc n) + k ≡ suc (suc n + k) = omega arith in s)
    ∙ (ap (λ (z : ℕ). x ∷ walk (set links l v) (suc n + k) z) (get_or-set_other links l x v 0 apart)
    ∙ ap (λ (ys : List ℕ). x ∷ ys) rest)

absent : (xs : List ℕ) (i : ℕ) → occ i xs ≡ 0 → list_any (λ y. nat_eq y i) xs ≡ false
absent [] i e = refl
absent (x ∷ xs) i e =
    let apart : x ≡ i → ⊥ = λ s. absurd (let h = at_head i x xs s in omega (arith, h, e)) in
    or_from (nat_eq x i) (list_any (λ y. nat_eq y i) xs) (ne_eqb x i apart) (absent xs i (omega arith))

-- a list without repeats has as many members as items
pub len-from_list : (xs : List ℕ) → ((i : ℕ) → occ i xs ≤ 1) → set.len (set.from_list {R = nat_cmp} xs) ≡ length xs
len-from_list [] once = set.len-empty nat_cmp
len-from_list (x ∷ xs) once =
    let rest = len-from_list xs (λ i. let a = once i in omega arith) in
    let none : occ x xs ≡ 0 = (let h = at_head x x xs refl in let a = once x in omega (arith, h, a)) in
    let new : set.contains (set.from_list {R = nat_cmp} xs) x ≡ false = set.contains-from_list_nat xs x ∙ absent xs x none in
    set.len-insert nat_cmp_total (set.from_list xs) x
    ∙ (ap (λ (b : Bool). cond b (set.len (set.from_list {R = nat_cmp} xs)) (set.len (set.from_list {R = nat_cmp} xs) + 1)) new ∙ (omega arith))

-- and no more than the numbers that it is made of
abbrev pub below : ℕ → List ℕ → ℕ
below zero xs = 0
below (suc n) xs = below n xs + occ n xs

abbrev one_if : Bool → ℕ
one_if b = cond b 1 0

below-cons : (n x : ℕ) (xs : List ℕ) → below n (x ∷ xs) ≡ cond (ltb x n) 1 0 + below n xs
below-cons zero x xs = sym (ap (λ (b : Bool). cond b 1 0 + 0) (le-ltb x 0 (omega arith)))
below-cons (suc n) x xs =
    let rest = below-cons n x xs in
    ⊎_elim
    (λ e. let a = at_head n x xs e in let b = ap one_if (le-ltb x n (omega arith)) in
    let c = ap one_if (lt-ltb x (suc n) (omega arith)) in omega (arith, rest, a, b, c))
    (λ ne. let a = ap one_if (ne_eqb n x (λ e. ne (sym e))) in
    ⊎_elim
    (λ l. let b = ap one_if (lt-ltb x n l) in let c = ap one_if (lt-ltb x (suc n) (omega arith)) in omega (arith, rest, a, b, c))
    (λ g. let b = ap one_if (le-ltb x n g) in let c = ap one_if (le-ltb x (suc n) (omega arith)) in omega (arith, rest, a, b, c))
    (cases_lt x n))
    (cases_eq x n)

below-nil : (n : ℕ) → below n [] ≡ 0
below-nil zero = refl
below-nil (suc n) = let rest = below-nil n in omega arith

pub below_all : (n : ℕ) (xs : List ℕ) → ((i : ℕ) → 0 < occ i xs → i < n) → below n xs ≡ length xs
below_all n [] h = below-nil n
below_all n (x ∷ xs) h =
    let rest = below_all n xs (λ i o. h i (omega (arith, o))) in
    let lt : x < n = h x (let a = at_head x x xs refl in omega (arith, a)) in
    let one = ap one_if (lt-ltb x n lt) in
    let all = below-cons n x xs in
    omega (arith, rest, one, all)

pub below-le : (n : ℕ) (xs : List ℕ) → ((i : ℕ) → occ i xs ≤ 1) → below n xs ≤ n
below-le zero xs once = omega arith
below-le (suc n) xs once = let rest = below-le n xs once in let a = once n in omega arith

-- distinct numbers below n are at most n
pub pigeons : (n : ℕ) (xs : List ℕ) → ((i : ℕ) → occ i xs ≤ 1) → ((i : ℕ) → 0 < occ i xs → i < n) → length xs ≤ n
pigeons n xs once inside = let a = below_all n xs inside in let b = below-le n xs once in omega arith

pub occ-occ : (xs ys : List ℕ) (i : ℕ) → occ i (xs ++ ys) ≤ 1 → (occ i xs ≤ 1) × (occ i ys ≤ 1) × (0 < occ i xs → occ i ys ≡ 0)
occ-occ xs ys i h = let a = occ-append i xs ys in (omega (arith, a, h), omega (arith, a, h), λ o. omega (arith, a, h, o))

pub lengths_fit : (links : List ℕ) (c d : Chain) → IsChain links c → IsChain links d →
    ((i : ℕ) → occ i (items_of links c ++ items_of links d) ≤ 1) → c.len + d.len ≤ length links
lengths_fit links c d one two once =
    let xs = items_of links c in let ys = items_of links d in
    let all = pigeons (length links) (xs ++ ys) once (λ i o.
    ⊎_elim (λ none. two.inside i (let a = occ-append i xs ys in omega (arith, a, o, none)))
    (λ some. one.inside i (let z : 0 < occ i xs = omega arith in z)) (cases_eq (occ i xs) 0)) in
    let a = length-walk links c.len c.first in let b = length-walk links d.len d.first in let e = length-append xs ys in
    omega (arith, all, a, b, e)

-- the join
pub joined_walk : (links : List ℕ) (c d : Chain) → 0 < c.len → IsChain links c → ((i : ℕ) → occ i (items_of links c ++ items_of links d) ≤ 1) →
    walk (set links c.last d.first) (c.len + d.len) c.first ≡ items_of links c ++ items_of links d
joined_walk links c d some one once = joins links c.last c.first c.len d some (one.last some) (λ i. once i) one.inside
  where
    joins : (links : List ℕ) (l x n : ℕ) (d : Chain) → 0 < n → get_or (walk links n x) (n - 1) 0 ≡ l →
        ((i : ℕ) → occ i (walk links n x ++ items_of links d) ≤ 1) → ((i : ℕ) → 0 < occ i (walk links n x) → i < length links) →
        walk (set links l d.first) (n + d.len) x ≡ walk links n x ++ items_of links d
    joins links l x zero d some e once inside = absurd (omega arith)
    joins links l x (suc n) d some e once inside =
        let same : suc n - 1 ≡ n = omega arith in
        let at : get_or (walk links (suc n) x) n 0 ≡ l = ap (λ (k : ℕ). get_or (walk links (suc n) x) k 0) (sym same) ∙ e in
        let there : 0 < occ l (walk links (suc n) x) = occurs_at (walk links (suc n) x) n l (let z = length-walk links (suc n) x in omega arith) at in
        let parts = occ-occ (walk links (suc n) x) (items_of links d) l (once l) in
        walk_join links l d.first n d.len x (inside l there) at parts.0
        ∙ ap (λ (ys : List ℕ). walk links (suc n) x ++ ys) (walk-set links l d.first d.len d.first (parts.2 there))

pub joined_last : (links : List ℕ) (xs : List ℕ) (d : Chain) → 0 < d.len → IsChain links d → get_or (xs ++ items_of links d) (length xs + d.len - 1) 0 ≡ d.last
joined_last links xs d some two =
    ap (λ (k : ℕ). get_or (xs ++ items_of links d) k 0) (let e : length xs + d.len - 1 ≡ length xs + (d.len - 1) = omega arith in e)
    ∙ (get_or-append-add xs (items_of links d) (d.len - 1) 0 ∙ two.last some)
