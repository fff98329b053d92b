-- Bags by threes
use Rattle.std.proofs.Common.{◌≡◌, ℕ, ◌+◌, ◌*◌, ◌<◌, Bool, true, false, ◌||◌, List, [], ◌∷◌, length, set as list_set, zero, suc, refl, sym, ap, ◌∙◌, arith, replicate, get_or-set_same}
use Rattle.std.proofs.lemmas.Bool.{or_parts}
use Rattle.std.proofs.lemmas.List.{length-set, set-set}
use Rattle.std.specs.Ordering.{nat_cmp}
use Rattle.std.specs.Cmp.{nat_cmp_total}
use Rattle.std.specs.FinSet as set
use Rattle.sdd_machine.specs.Table.{Items}
use Rattle.sdd_machine.specs.Bags.{ThreeBags, trio_at, no_items, has, put, rotated, all_of, joined, trios_of, AreTrios}
use Rattle.sdd_machine.specs.Chains.{bag_at}

-- where the bags of a place begin
abbrev at : ℕ → ℕ
at zero = 0
at (suc p) = suc (suc (suc (at p)))

at_is : (p : ℕ) → at p ≡ 3 * p
at_is zero = refl
at_is (suc p) = let rest = at_is p in omega arith

-- one bag moved into another
abbrev pub moved : ℕ → ℕ → List Items → List Items
moved to from bs = list_set (list_set bs from set.empty) to (set.union (bag_at bs to) (bag_at bs from))

length-trios_of-set : (bs : List Items) (k : ℕ) (x : Items) → length (trios_of (list_set bs k x)) ≡ length (trios_of bs)
length-trios_of-set [] k x = refl
length-trios_of-set (a ∷ []) zero x = refl
length-trios_of-set (a ∷ []) (suc k) x = refl
length-trios_of-set (a ∷ b ∷ []) zero x = refl
length-trios_of-set (a ∷ b ∷ []) (suc zero) x = refl
length-trios_of-set (a ∷ b ∷ []) (suc (suc k)) x = refl
length-trios_of-set (a ∷ b ∷ c ∷ bs) zero x = refl
length-trios_of-set (a ∷ b ∷ c ∷ bs) (suc zero) x = refl
length-trios_of-set (a ∷ b ∷ c ∷ bs) (suc (suc zero)) x = refl
length-trios_of-set (a ∷ b ∷ c ∷ bs) (suc (suc (suc k))) x = ap suc (length-trios_of-set bs k x)

pub trios_set : (bs : List Items) (k : ℕ) (x : Items) → AreTrios bs → AreTrios (list_set bs k x)
trios_set bs k x are = let a = length-set bs k x in let b = length-trios_of-set bs k x in omega (arith, a, b, are)

pub trios_moved : (to from : ℕ) (bs : List Items) → AreTrios bs → AreTrios (moved to from bs)
trios_moved to from bs are = trios_set (list_set bs from set.empty) to (set.union (bag_at bs to) (bag_at bs from)) (trios_set bs from set.empty are)

-- what no place has is in no bag
pub in_no_bag : (bs : List Items) (i : ℕ) → AreTrios bs → ((q : ℕ) → has (trio_at (trios_of bs) q) i ≡ false) → (k : ℕ) → set.contains (bag_at bs k) i ≡ false
in_no_bag [] i are none k = set.contains-empty nat_cmp i
in_no_bag (a ∷ []) i are none k = absurd (omega arith)
in_no_bag (a ∷ b ∷ []) i are none k = absurd (omega arith)
in_no_bag (a ∷ b ∷ c ∷ bs) i are none zero =
    let e = or_parts (set.contains a i || set.contains b i) (set.contains c i) (none 0) in (or_parts (set.contains a i) (set.contains b i) e.0).0
in_no_bag (a ∷ b ∷ c ∷ bs) i are none (suc zero) =
    let e = or_parts (set.contains a i || set.contains b i) (set.contains c i) (none 0) in (or_parts (set.contains a i) (set.contains b i) e.0).1
in_no_bag (a ∷ b ∷ c ∷ bs) i are none (suc (suc zero)) = (or_parts (set.contains a i || set.contains b i) (set.contains c i) (none 0)).1
in_no_bag (a ∷ b ∷ c ∷ bs) i are none (suc (suc (suc k))) = in_no_bag bs i (omega arith) (λ q. none (suc q)) k

-- the bags of a place
current-at : (bs : List Items) (p : ℕ) → p < length (trios_of bs) → bag_at bs (at p) ≡ (trio_at (trios_of bs) p).current
current-at [] p l = absurd (omega arith)
current-at (a ∷ []) p l = absurd (omega arith)
current-at (a ∷ b ∷ []) p l = absurd (omega arith)
current-at (a ∷ b ∷ c ∷ bs) zero l = refl
current-at (a ∷ b ∷ c ∷ bs) (suc p) l = current-at bs p (omega arith)

next-at : (bs : List Items) (p : ℕ) → p < length (trios_of bs) → bag_at bs (suc (suc (at p))) ≡ (trio_at (trios_of bs) p).next
next-at [] p l = absurd (omega arith)
next-at (a ∷ []) p l = absurd (omega arith)
next-at (a ∷ b ∷ []) p l = absurd (omega arith)
next-at (a ∷ b ∷ c ∷ bs) zero l = refl
next-at (a ∷ b ∷ c ∷ bs) (suc p) l = next-at bs p (omega arith)

-- the current bag of a place replaced
current-set : (bs : List Items) (p : ℕ) (x : Items) → p < length (trios_of bs) →
    trios_of (list_set bs (at p) x) ≡ list_set (trios_of bs) p (record (trio_at (trios_of bs) p) { current = x })
current-set [] p x l = absurd (omega arith)
current-set (a ∷ []) p x l = absurd (omega arith)
current-set (a ∷ b ∷ []) p x l = absurd (omega arith)
current-set (a ∷ b ∷ c ∷ bs) zero x l = refl
current-set (a ∷ b ∷ c ∷ bs) (suc p) x l = ap (λ (ts : List ThreeBags). record { current = a; prev = b; next = c } ∷ ts) (current-set bs p x (omega arith))

pub put_trios : (bs : List Items) (p k i : ℕ) → k ≡ 3 * p → p < length (trios_of bs) →
    trios_of (list_set bs k (set.insert (bag_at bs k) i)) ≡ list_set (trios_of bs) p (put i (trio_at (trios_of bs) p))
put_trios bs p k i e l =
    ap (λ (j : ℕ). trios_of (list_set bs j (set.insert (bag_at bs j) i))) (e ∙ sym (at_is p))
    ∙ (current-set bs p (set.insert (bag_at bs (at p)) i) l
    ∙ ap (λ (x : Items). list_set (trios_of bs) p (record (trio_at (trios_of bs) p) { current = set.insert x i })) (current-at bs p l))

-- ROTATION

union-empty : (x : Items) → set.union set.empty x ≡ x
union-empty x =
    set.same_set nat_cmp_total set.nat_cmp-IsAntisymmetric _ _
    (λ i. set.contains-union nat_cmp_total set.empty x i ∙ ap (λ (b : Bool). b || set.contains x i) (set.contains-empty nat_cmp i))

abbrev pub turned : ℕ → ℕ → ℕ → List Items → List Items
turned first second third bs = moved second first (moved third second (list_set bs third set.empty))

turned_at : (bs : List Items) (p : ℕ) → p < length (trios_of bs) →
    trios_of (turned (at p) (suc (at p)) (suc (suc (at p))) bs) ≡ list_set (trios_of bs) p (rotated (trio_at (trios_of bs) p))
turned_at [] p l = absurd (omega arith)
turned_at (a ∷ []) p l = absurd (omega arith)
turned_at (a ∷ b ∷ []) p l = absurd (omega arith)
turned_at (a ∷ b ∷ c ∷ bs) zero l =
    ap (λ (x : Items). record { current = set.empty; prev = x; next = set.union set.empty b } ∷ trios_of bs) (union-empty a)
    ∙ ap (λ (x : Items). record { current = set.empty; prev = a; next = x } ∷ trios_of bs) (union-empty b)
turned_at (a ∷ b ∷ c ∷ bs) (suc p) l = ap (λ (ts : List ThreeBags). record { current = a; prev = b; next = c } ∷ ts) (turned_at bs p (omega arith))

pub turned_trios : (bs : List Items) (p first second third : ℕ) → first ≡ 3 * p → second ≡ 3 * p + 1 → third ≡ 3 * p + 2 → p < length (trios_of bs) →
    trios_of (turned first second third bs) ≡ list_set (trios_of bs) p (rotated (trio_at (trios_of bs) p))
turned_trios bs p first second third e f g l =
    let k = at_is p in
    let e' : first ≡ at p = omega arith in let f' : second ≡ suc (at p) = omega arith in let g' : third ≡ suc (suc (at p)) = omega arith in
    ap (λ (j : ℕ). trios_of (turned j second third bs)) e'
    ∙ (ap (λ (j : ℕ). trios_of (turned (at p) j third bs)) f' ∙ (ap (λ (j : ℕ). trios_of (turned (at p) (suc (at p)) j bs)) g' ∙ turned_at bs p l))

pub taken_trios : (bs : List Items) (p third : ℕ) → third ≡ 3 * p + 2 → p < length (trios_of bs) →
    set.len (bag_at bs third) ≡ set.len (trio_at (trios_of bs) p).next
taken_trios bs p third g l =
    let k = at_is p in
    let g' : third ≡ suc (suc (at p)) = omega arith in
    ap (λ (j : ℕ). set.len (bag_at bs j)) g' ∙ ap (λ (x : Items). set.len x) (next-at bs p l)

-- JOINING

abbrev pub taken_in : ℕ → ℕ → ℕ → ℕ → List Items → List Items
taken_in to first second third bs = moved to third (moved to second (moved to first bs))

union-three : (a x y z : Items) → set.union (set.union (set.union a x) y) z ≡ set.union a (set.union x (set.union y z))
union-three a x y z =
    set.same_set nat_cmp_total set.nat_cmp-IsAntisymmetric _ _
    (λ i. both (set.union (set.union a x) y) z i
    ∙ (ap (λ (b : Bool). b || set.contains z i) (both (set.union a x) y i ∙ ap (λ (b : Bool). b || set.contains y i) (both a x i))
    ∙ (or_assoc3 (set.contains a i) (set.contains x i) (set.contains y i) (set.contains z i)
    ∙ sym (both a (set.union x (set.union y z)) i
    ∙ ap (λ (b : Bool). set.contains a i || b) (both x (set.union y z) i ∙ ap (λ (b : Bool). set.contains x i || b) (both y z i))))))
  where
    both : (s t : Items) (i : ℕ) → set.contains (set.union s t) i ≡ (set.contains s i || set.contains t i)
    both s t i = set.contains-union nat_cmp_total s t i

    or_assoc3 : (p q r s : Bool) → (((p || q) || r) || s) ≡ (p || (q || (r || s)))
    or_assoc3 true q r s = refl
    or_assoc3 false true r s = refl
    or_assoc3 false false r s = refl

-- the bags of a place emptied one after another
abbrev emptied : ℕ → List Items → List Items
emptied r bs = list_set (list_set (list_set bs (at r) set.empty) (suc (at r)) set.empty) (suc (suc (at r))) set.empty

emptied_trios : (bs : List Items) (r : ℕ) → r < length (trios_of bs) → trios_of (emptied r bs) ≡ list_set (trios_of bs) r no_items
emptied_trios [] r l = absurd (omega arith)
emptied_trios (a ∷ []) r l = absurd (omega arith)
emptied_trios (a ∷ b ∷ []) r l = absurd (omega arith)
emptied_trios (a ∷ b ∷ c ∷ bs) zero l = refl
emptied_trios (a ∷ b ∷ c ∷ bs) (suc r) l = ap (λ (ts : List ThreeBags). record { current = a; prev = b; next = c } ∷ ts) (emptied_trios bs r (omega arith))

-- what is taken from them on the way
taken_away : (bs : List Items) (r : ℕ) (a : Items) → r < length (trios_of bs) →
    set.union (set.union (set.union a (bag_at bs (at r))) (bag_at (list_set bs (at r) set.empty) (suc (at r))))
    (bag_at (list_set (list_set bs (at r) set.empty) (suc (at r)) set.empty) (suc (suc (at r))))
    ≡ set.union a (all_of (trio_at (trios_of bs) r))
taken_away [] r a l = absurd (omega arith)
taken_away (x ∷ []) r a l = absurd (omega arith)
taken_away (x ∷ y ∷ []) r a l = absurd (omega arith)
taken_away (x ∷ y ∷ z ∷ bs) zero a l = union-three a x y z
taken_away (x ∷ y ∷ z ∷ bs) (suc r) a l = taken_away bs r a (omega arith)

taken_at : (bs : List Items) (p r : ℕ) → p < length (trios_of bs) → r < length (trios_of bs) → (p ≡ r → ⊥) →
    trios_of (taken_in (at p) (at r) (suc (at r)) (suc (suc (at r))) bs) ≡ joined p r (trios_of bs)
taken_at [] p r lp lr ne = absurd (omega arith)
taken_at (a ∷ []) p r lp lr ne = absurd (omega arith)
taken_at (a ∷ b ∷ []) p r lp lr ne = absurd (omega arith)
taken_at (a ∷ b ∷ c ∷ bs) zero zero lp lr ne = absurd (ne refl)
taken_at (a ∷ b ∷ c ∷ bs) zero (suc r) lp lr ne =
    ap (λ (x : Items). record { current = x; prev = b; next = c } ∷ trios_of (emptied r bs)) (taken_away bs r a (omega arith))
    ∙ ap (λ (ts : List ThreeBags). record { current = set.union a (all_of (trio_at (trios_of bs) r)); prev = b; next = c } ∷ ts)
    (emptied_trios bs r (omega arith))
taken_at (a ∷ b ∷ c ∷ bs) (suc p) zero lp lr ne =
    let l : p < length (trios_of bs) = omega arith in
    ap (λ (ds : List Items). no_items ∷ trios_of ds) (three bs p a b c l)
    ∙ (ap (λ (ts : List ThreeBags). no_items ∷ ts) (current-set bs p (set.union (set.union (set.union (bag_at bs (at p)) a) b) c) l)
    ∙ ap (λ (x : Items). no_items ∷ list_set (trios_of bs) p (record (trio_at (trios_of bs) p) { current = x }))
    (ap (λ (x : Items). set.union (set.union (set.union x a) b) c) (current-at bs p l) ∙ union-three (trio_at (trios_of bs) p).current a b c))
  where
    inside : (bs : List Items) (p : ℕ) → p < length (trios_of bs) → at p < length bs
    inside [] p l = absurd (omega arith)
    inside (a ∷ []) p l = absurd (omega arith)
    inside (a ∷ b ∷ []) p l = absurd (omega arith)
    inside (a ∷ b ∷ c ∷ bs) zero l = omega arith
    inside (a ∷ b ∷ c ∷ bs) (suc p) l = let rest = inside bs p (omega arith) in omega arith

    three : (bs : List Items) (p : ℕ) (a b c : Items) → p < length (trios_of bs) →
        (let one = list_set bs (at p) (set.union (bag_at bs (at p)) a) in
        let two = list_set one (at p) (set.union (bag_at one (at p)) b) in list_set two (at p) (set.union (bag_at two (at p)) c))
        ≡ list_set bs (at p) (set.union (set.union (set.union (bag_at bs (at p)) a) b) c)
    three bs p a b c l =
        let k = at p in let x = set.union (bag_at bs k) a in let one = list_set bs k x in
        let two = list_set one k (set.union (bag_at one k) b) in
        let e : bag_at one k ≡ x = get_or-set_same bs k x set.empty (inside bs p l) in
        let f : two ≡ list_set bs k (set.union x b) = set-set bs k x (set.union (bag_at one k) b) ∙ ap (λ (y : Items). list_set bs k (set.union y b)) e in
        ap (λ (ds : List Items). list_set ds k (set.union (bag_at ds k) c)) f
        ∙ (set-set bs k (set.union x b) (set.union (bag_at (list_set bs k (set.union x b)) k) c)
        ∙ ap (λ (y : Items). list_set bs k (set.union y c)) (get_or-set_same bs k (set.union x b) set.empty (inside bs p l)))
taken_at (a ∷ b ∷ c ∷ bs) (suc p) (suc r) lp lr ne =
    ap (λ (ts : List ThreeBags). record { current = a; prev = b; next = c } ∷ ts) (taken_at bs p r (omega arith) (omega arith) (λ e. ne (ap suc e)))

pub taken_trios_in : (bs : List Items) (p r to first second third : ℕ) → to ≡ 3 * p → first ≡ 3 * r → second ≡ 3 * r + 1 → third ≡ 3 * r + 2 →
    p < length (trios_of bs) → r < length (trios_of bs) → (p ≡ r → ⊥) →
    trios_of (taken_in to first second third bs) ≡ joined p r (trios_of bs)
taken_trios_in bs p r to first second third d e f g lp lr ne =
    let j = at_is p in let k = at_is r in
    let d' : to ≡ at p = omega arith in
    let e' : first ≡ at r = omega arith in
    let f' : second ≡ suc (at r) = omega arith in
    let g' : third ≡ suc (suc (at r)) = omega arith in
    ap (λ (m : ℕ). trios_of (taken_in m first second third bs)) d'
    ∙ (ap (λ (m : ℕ). trios_of (taken_in (at p) m second third bs)) e' ∙ (ap (λ (m : ℕ). trios_of (taken_in (at p) (at r) m third bs)) f'
    ∙ (ap (λ (m : ℕ). trios_of (taken_in (at p) (at r) (suc (at r)) m bs)) g' ∙ taken_at bs p r lp lr ne)))

-- new bags are empty
new_at : (n : ℕ) → trios_of (replicate (at n) set.empty) ≡ replicate n no_items
new_at zero = refl
new_at (suc n) = ap (λ (ts : List ThreeBags). no_items ∷ ts) (new_at n)

pub new_trios : (n k : ℕ) → k ≡ 3 * n → trios_of (replicate k set.empty) ≡ replicate n no_items
new_trios n k e = ap (λ (j : ℕ). trios_of (replicate j set.empty)) (e ∙ sym (at_is n)) ∙ new_at n
