-- Chains through links that others share
use Rattle.std.proofs.Common.{◌≡◌, ℕ, ◌+◌, ◌-◌, ◌<◌, ◌≤◌, ◌^◌, Bool, false, cond, ◌||◌, nat_eq, List, [], ◌∷◌, ◌++◌, length, map, get_or, set as list_set, zero, suc, refl, sym, ap, subst, ◌∙◌, ⊎_elim, arith, replicate, get_or-set_same, get_or-set_other}
use Rattle.std.proofs.lemmas.Bool.{ne_eqb, cases_eq, or_parts, true≢false, eq-eqb}
use Rattle.std.proofs.lemmas.List.{length-set, length-map, set-set, map-set}
use Rattle.std.proofs.Math.ListN.{get_or-map}
use Rattle.std.proofs.lemmas.List.Folds.{list_any-append}
use Rattle.std.specs.Ordering.{nat_cmp}
use Rattle.std.specs.Cmp.{nat_cmp_total}
use Rattle.std.specs.FinSet as set
use Rattle.std.specs.List.{list_any}
use Rattle.sdd_machine.specs.declared.machine.chains.Chain.{Chain}
use Rattle.sdd_machine.specs.Table.{Items}
use Rattle.sdd_machine.specs.Chains.{ChainedBags, walk, items_of, occ, IsChain, no_chain, all_items, bag_of, AreChains}
use Rattle.sdd_machine.proofs.Walks.{occ-append, at_head, occurs_at, length-walk, len-from_list}

-- links that agree where a walk goes give the same walk
walk-agree : (links links' : List ℕ) (n x : ℕ) → ((i : ℕ) → 0 < occ i (walk links n x) → get_or links' i 0 ≡ get_or links i 0) →
    walk links' n x ≡ walk links n x
walk-agree links links' zero x agree = refl
walk-agree links links' (suc n) x agree =
    let y = get_or links x 0 in
    let here : get_or links' x 0 ≡ y = agree x (let a = at_head x x (walk links n y) refl in omega (arith, a)) in
    ap (λ (z : ℕ). x ∷ walk links' n z) here ∙ ap (λ (ys : List ℕ). x ∷ ys) (walk-agree links links' n y (λ i o. agree i (omega (arith, o))))

-- and where all chains go, the same chains
abbrev Agree : List ℕ → List ℕ → List ℕ → Type 0
Agree links links' items = (i : ℕ) → 0 < occ i items → get_or links' i 0 ≡ get_or links i 0

all_items-agree : (links links' : List ℕ) (cs : List Chain) → Agree links links' (all_items links cs) → all_items links' cs ≡ all_items links cs
all_items-agree links links' [] agree = refl
all_items-agree links links' (c ∷ cs) agree =
    ap (λ (ys : List ℕ). ys ++ all_items links' cs)
    (walk-agree links links' c.len c.first (λ i o. agree i (let a = occ-append i (items_of links c) (all_items links cs) in omega (arith, a, o))))
    ∙ ap (λ (ys : List ℕ). items_of links c ++ ys)
    (all_items-agree links links' cs (λ i o. agree i (let a = occ-append i (items_of links c) (all_items links cs) in omega (arith, a, o))))

bags-agree : (links links' : List ℕ) (cs : List Chain) → Agree links links' (all_items links cs) → map (bag_of links') cs ≡ map (bag_of links) cs
bags-agree links links' [] agree = refl
bags-agree links links' (c ∷ cs) agree =
    ap (λ (ys : List ℕ). set.from_list ys ∷ map (bag_of links') cs)
    (walk-agree links links' c.len c.first (λ i o. agree i (let a = occ-append i (items_of links c) (all_items links cs) in omega (arith, a, o))))
    ∙ ap (λ (ys : List Items). bag_of links c ∷ ys)
    (bags-agree links links' cs (λ i o. agree i (let a = occ-append i (items_of links c) (all_items links cs) in omega (arith, a, o))))

-- one of the chains
pub occ-at : (links : List ℕ) (cs : List Chain) (k i : ℕ) → occ i (items_of links (get_or cs k no_chain)) ≤ occ i (all_items links cs)
occ-at links [] k i = omega arith
occ-at links (c ∷ cs) zero i = let a = occ-append i (items_of links c) (all_items links cs) in omega (arith, a)
occ-at links (c ∷ cs) (suc k) i = let a = occ-append i (items_of links c) (all_items links cs) in let rest = occ-at links cs k i in omega (arith, a, rest)

-- another chain in its place
pub occ-set : (links : List ℕ) (cs : List Chain) (k : ℕ) (c : Chain) (i : ℕ) → k < length cs →
    occ i (all_items links (list_set cs k c)) + occ i (items_of links (get_or cs k no_chain)) ≡ occ i (all_items links cs) + occ i (items_of links c)
occ-set links [] k c i l = absurd (omega arith)
occ-set links (d ∷ cs) zero c i l =
    let a = occ-append i (items_of links c) (all_items links cs) in let b = occ-append i (items_of links d) (all_items links cs) in omega (arith, a, b)
occ-set links (d ∷ cs) (suc k) c i l =
    let rest = occ-set links cs k c i (omega arith) in
    let a = occ-append i (items_of links d) (all_items links (list_set cs k c)) in
    let b = occ-append i (items_of links d) (all_items links cs) in omega (arith, a, b, rest)

IsChain-agree : (links links' : List ℕ) (c : Chain) → length links' ≡ length links → items_of links' c ≡ items_of links c → IsChain links c → IsChain links' c
IsChain-agree links links' c size same is = record {
  last = λ some. ap (λ (ys : List ℕ). get_or ys (c.len - 1) 0) same ∙ is.last some;
  inside = λ i o. let l = is.inside i (subst (λ (ys : List ℕ). 0 < occ i ys) same o) in omega (arith, l, size);
}

pub no_chain_is : (links : List ℕ) → IsChain links no_chain
no_chain_is links = record { last = λ some. absurd (omega arith); inside = λ i o. absurd (omega arith) }

-- chains that are all so, with one of them replaced
pub each-set : (P : Chain → Type 0) (cs : List Chain) (k : ℕ) (c : Chain) → k < length cs → ((j : ℕ) → P (get_or cs j no_chain)) → P c → (j : ℕ) →
    P (get_or (list_set cs k c) j no_chain)
each-set P cs k c l all here j =
    ⊎_elim
    (λ e. subst (λ (m : ℕ). P (get_or (list_set cs k c) m no_chain)) (sym e) (subst P (sym (get_or-set_same cs k c no_chain l)) here))
    (λ ne. subst P (sym (get_or-set_other cs k j c no_chain ne)) (all j))
    (cases_eq j k)

-- A chain is put where there was an empty one, and no link of the others was written.
relinked : (links links' : List ℕ) (cs : List Chain) (k : ℕ) (c : Chain) → AreChains links cs → k < length cs → length links' ≡ length links →
    Agree links links' (all_items links cs) → IsChain links' c →
    ((i : ℕ) → occ i (all_items links cs) + occ i (items_of links' c) ≤ 1) → AreChains links' (list_set cs k c)
relinked links links' cs k c are l size agree is once = record {
  small = (let s = are.small in omega (arith, s, size));
  chain = each-set (IsChain links') cs k c l
      (λ j. IsChain-agree links links' (get_or cs j no_chain) size
      (walk-agree links links' (get_or cs j no_chain).len (get_or cs j no_chain).first
      (λ i o. agree i (let a = occ-at links cs j i in omega (arith, a, o)))) (are.chain j))
      is;
  once = λ i. let a = occ-set links' cs k c i l in
      let b = ap (λ (ys : List ℕ). occ i ys) (all_items-agree links links' cs agree) in
      let d = once i in omega (arith, a, b, d);
}

-- without one of them they are still chains
pub emptied : (links : List ℕ) (cs : List Chain) (k : ℕ) → AreChains links cs → k < length cs → AreChains links (list_set cs k no_chain)
emptied links cs k are l = record {
  small = are.small;
  chain = each-set (IsChain links) cs k no_chain l are.chain (no_chain_is links);
  once = λ i. let a = occ-set links cs k no_chain i l in let d = are.once i in omega (arith, a, d);
}

pub bags-set : (links : List ℕ) (cs : List Chain) (k : ℕ) (c : Chain) →
    map (bag_of links) (list_set cs k c) ≡ list_set (map (bag_of links) cs) k (bag_of links c)
bags-set links cs k c = map-set (bag_of links) cs k c

abbrev pub linked_of : List ℕ → List Chain → ChainedBags
linked_of links cs = record { items = length links; bags = map (bag_of links) cs }

-- the number of a bag is that of a chain
pub within_chains : (links : List ℕ) (cs : List Chain) (b : ChainedBags) (k : ℕ) → linked_of links cs ≡ b → k < length b.bags → k < length cs
within_chains links cs b k v l =
    let a : k < length (map (bag_of links) cs) = subst (λ (d : ChainedBags). k < length d.bags) (sym v) l in
    let z = length-map cs (bag_of links) in
    omega (arith, a, z)

pub bag-at : (links : List ℕ) (cs : List Chain) (k : ℕ) → get_or (map (bag_of links) cs) k set.empty ≡ bag_of links (get_or cs k no_chain)
bag-at links cs k = get_or-map (bag_of links) cs k no_chain

abbrev one_if : Bool → ℕ
one_if b = cond b 1 0

-- what is in no bag is in no chain
absent_of : (xs : List ℕ) (i : ℕ) → list_any (λ y. nat_eq y i) xs ≡ false → occ i xs ≡ 0
absent_of [] i e = refl
absent_of (x ∷ xs) i e =
    let parts = or_parts (nat_eq x i) (list_any (λ y. nat_eq y i) xs) e in
    let rest = absent_of xs i parts.1 in
    let apart : i ≡ x → ⊥ = λ s. true≢false (sym (eq-eqb x i (sym s)) ∙ parts.0) in
    let none = ap one_if (ne_eqb i x apart) in
    omega (arith, none, rest)

pub nowhere : (links : List ℕ) (cs : List Chain) (i : ℕ) → ((k : ℕ) → set.contains (get_or (map (bag_of links) cs) k set.empty) i ≡ false) →
    occ i (all_items links cs) ≡ 0
nowhere links [] i none = refl
nowhere links (c ∷ cs) i none =
    let here = absent_of (items_of links c) i (sym (set.contains-from_list_nat (items_of links c) i) ∙ none 0) in
    let rest = nowhere links cs i (λ k. none (suc k)) in
    let a = occ-append i (items_of links c) (all_items links cs) in
    omega (arith, a, here, rest)

-- an item put into a bag
pub put_chains : (links links' : List ℕ) (cs : List Chain) (k item : ℕ) (c : Chain) → AreChains links cs → k < length cs →
    length links' ≡ length links → occ item (all_items links cs) ≡ 0 →
    items_of links' c ≡ item ∷ items_of links (get_or cs k no_chain) → IsChain links' c →
    ((i : ℕ) → (i ≡ item → ⊥) → get_or links' i 0 ≡ get_or links i 0) → AreChains links' (list_set cs k c)
put_chains links links' cs k item c are l size none items is others =
    subst (λ (ds : List Chain). AreChains links' ds) (set-set cs k no_chain c)
    (relinked links links' (list_set cs k no_chain) k c (emptied links cs k are l) (let a = length-set cs k no_chain in omega (arith, a, l)) size
    (λ i o. others i (λ e. absurd (let a = occ-set links cs k no_chain i l in
    let z : occ i (all_items links cs) ≡ 0 = ap (λ (j : ℕ). occ j (all_items links cs)) e ∙ none in omega (arith, a, o, z)))) is
    (λ i. let a = occ-set links cs k no_chain i l in let b = ap (λ (ys : List ℕ). occ i ys) items in let d = are.once i in
    ⊎_elim
    (λ e. let z : occ i (all_items links cs) ≡ 0 = ap (λ (j : ℕ). occ j (all_items links cs)) e ∙ none in
    let h = at_head i item (items_of links (get_or cs k no_chain)) (sym e) in omega (arith, a, b, z, h))
    (λ ne. let h = ap one_if (ne_eqb i item ne) in omega (arith, a, b, d, h))
    (cases_eq i item)))

pub put_bags : (links links' : List ℕ) (cs : List Chain) (k item : ℕ) (c : Chain) → k < length cs → occ item (all_items links cs) ≡ 0 →
    items_of links' c ≡ item ∷ items_of links (get_or cs k no_chain) → ((i : ℕ) → (i ≡ item → ⊥) → get_or links' i 0 ≡ get_or links i 0) →
    map (bag_of links') (list_set cs k c) ≡ list_set (map (bag_of links) cs) k (set.insert (get_or (map (bag_of links) cs) k set.empty) item)
put_bags links links' cs k item c l none items others =
    let ds = list_set cs k no_chain in
    ap (λ (es : List Chain). map (bag_of links') es) (sym (set-set cs k no_chain c))
    ∙ (bags-set links' ds k c
    ∙ (ap (λ (bs : List Items). list_set bs k (bag_of links' c))
    (bags-agree links links' ds (λ i o. others i (λ e. absurd (let a = occ-set links cs k no_chain i l in
    let z : occ i (all_items links cs) ≡ 0 = ap (λ (j : ℕ). occ j (all_items links cs)) e ∙ none in omega (arith, a, o, z)))))
    ∙ (ap (λ (bs : List Items). list_set bs k (bag_of links' c)) (bags-set links cs k no_chain)
    ∙ (set-set (map (bag_of links) cs) k (bag_of links no_chain) (bag_of links' c)
    ∙ ap (λ (b : Items). list_set (map (bag_of links) cs) k b)
    (ap (λ (ys : List ℕ). set.from_list ys) items ∙ ap (λ (b : Items). set.insert b item) (sym (bag-at links cs k)))))))

from_list-both : (xs ys : List ℕ) → set.from_list {R = nat_cmp} (xs ++ ys) ≡ set.union (set.from_list xs) (set.from_list ys)
from_list-both xs ys =
    set.same_set nat_cmp_total set.nat_cmp-IsAntisymmetric _ _
    (λ i. set.contains-from_list_nat (xs ++ ys) i ∙ (list_any-append (λ y. nat_eq y i) xs ys
    ∙ (ap (λ (b : Bool). b || list_any (λ y. nat_eq y i) ys) (sym (set.contains-from_list_nat xs i))
    ∙ (ap (λ (b : Bool). set.contains (set.from_list {R = nat_cmp} xs) i || b) (sym (set.contains-from_list_nat ys i))
    ∙ sym (set.contains-union nat_cmp_total (set.from_list xs) (set.from_list ys) i)))))

-- one chain linked behind another: what is known of the join
pub record Joins (links links' : List ℕ) (cs : List Chain) (to from : ℕ) (c : Chain) : Type 0 where
  pub are : AreChains links cs
  pub to_is : to < length cs
  pub from_is : from < length cs
  pub apart : to ≡ from → ⊥
  pub size : length links' ≡ length links
  pub items : items_of links' c ≡ items_of links (get_or cs to no_chain) ++ items_of links (get_or cs from no_chain)
  pub is : IsChain links' c
  pub others : (i : ℕ) → occ i (items_of links (get_or cs to no_chain)) ≡ 0 → get_or links' i 0 ≡ get_or links i 0

-- how often an item occurs in the others
occ-others : (links : List ℕ) (cs : List Chain) (to from i : ℕ) → to < length cs → from < length cs → (to ≡ from → ⊥) →
    occ i (all_items links (list_set (list_set cs from no_chain) to no_chain)) + occ i
    (items_of links (get_or cs to no_chain)) + occ i (items_of links (get_or cs from no_chain)) ≡ occ i (all_items links cs)
occ-others links cs to from i lt lf ne =
    let ds = list_set cs from no_chain in
    let a = occ-set links cs from no_chain i lf in
    let b = occ-set links ds to no_chain i (let z = length-set cs from no_chain in omega (arith, z, lt)) in
    let e : occ i (items_of links (get_or ds to no_chain)) ≡ occ i (items_of links (get_or cs to no_chain)) =
    ap (λ (c : Chain). occ i (items_of links c)) (get_or-set_other cs from to no_chain no_chain ne) in
    omega (arith, a, b, e)

agree_others : (links links' : List ℕ) (cs : List Chain) (to from : ℕ) (c : Chain) → Joins links links' cs to from c →
    Agree links links' (all_items links (list_set (list_set cs from no_chain) to no_chain))
agree_others links links' cs to from c j i o =
    j.others i (let a = occ-others links cs to from i j.to_is j.from_is j.apart in let d = j.are.once i in omega (arith, a, d, o))

-- two chains of all have no item twice
pub both_once : (links : List ℕ) (cs : List Chain) (to from i : ℕ) → AreChains links cs → to < length cs → from < length cs → (to ≡ from → ⊥) →
    occ i (items_of links (get_or cs to no_chain) ++ items_of links (get_or cs from no_chain)) ≤ 1
both_once links cs to from i are lt lf ne =
    let a = occ-others links cs to from i lt lf ne in let d = are.once i in
    let b = occ-append i (items_of links (get_or cs to no_chain)) (items_of links (get_or cs from no_chain)) in
    omega (arith, a, b, d)

pub join_chains : (links links' : List ℕ) (cs : List Chain) (to from : ℕ) (c : Chain) → Joins links links' cs to from c →
    AreChains links' (list_set (list_set cs from no_chain) to c)
join_chains links links' cs to from c j =
    let ds = list_set cs from no_chain in
    let ld : to < length ds = (let z = length-set cs from no_chain in let l = j.to_is in omega (arith, z, l)) in
    subst (λ (es : List Chain). AreChains links' es) (set-set ds to no_chain c)
    (relinked links links' (list_set ds to no_chain) to c (emptied links ds to (emptied links cs from j.are j.from_is) ld) (let z =
    length-set ds to no_chain in omega (arith, z, ld)) j.size
    (agree_others links links' cs to from c j) j.is
    (λ i. let a = occ-others links cs to from i j.to_is j.from_is j.apart in let d = j.are.once i in
    let b = ap (λ (ys : List ℕ). occ i ys) j.items in
    let e = occ-append i (items_of links (get_or cs to no_chain)) (items_of links (get_or cs from no_chain)) in
    omega (arith, a, b, d, e)))

pub join_bags : (links links' : List ℕ) (cs : List Chain) (to from : ℕ) (c : Chain) → Joins links links' cs to from c →
    map (bag_of links') (list_set (list_set cs from no_chain) to c)
    ≡ list_set (list_set (map (bag_of links) cs) from set.empty) to
    (set.union (get_or (map (bag_of links) cs) to set.empty) (get_or (map (bag_of links) cs) from set.empty))
join_bags links links' cs to from c j =
    let ds = list_set cs from no_chain in
    let bs = map (bag_of links) cs in
    let union : bag_of links' c ≡ set.union (get_or bs to set.empty) (get_or bs from set.empty) =
    ap (λ (ys : List ℕ). set.from_list ys) j.items
    ∙ (from_list-both (items_of links (get_or cs to no_chain)) (items_of links (get_or cs from no_chain))
    ∙ (ap (λ (b : Items). set.union b (bag_of links (get_or cs from no_chain))) (sym (bag-at links cs to))
    ∙ ap (λ (b : Items). set.union (get_or bs to set.empty) b) (sym (bag-at links cs from)))) in
    ap (λ (es : List Chain). map (bag_of links') es) (sym (set-set ds to no_chain c))
    ∙ (bags-set links' (list_set ds to no_chain) to c
    ∙ (ap (λ (xs : List Items). list_set xs to (bag_of links' c))
    (bags-agree links links' (list_set ds to no_chain) (agree_others links links' cs to from c j)
    ∙ (bags-set links ds to no_chain ∙ ap (λ (xs : List Items). list_set xs to (bag_of links no_chain)) (bags-set links cs from no_chain)))
    ∙ (set-set (list_set bs from set.empty) to (bag_of links no_chain) (bag_of links' c)
    ∙ ap (λ (b : Items). list_set (list_set bs from set.empty) to b) union)))

-- the last item of a chain that has one is in it
last_occurs : (links : List ℕ) (c : Chain) → IsChain links c → 0 < c.len → 0 < occ c.last (items_of links c)
last_occurs links c is some = occurs_at (items_of links c) (c.len - 1) c.last (let z = length-walk links c.len c.first in omega (arith, z)) (is.last some)

-- what the join of two of the chains gives
pub joins_of : (links links' lent : List ℕ) (cs : List Chain) (to from : ℕ) (first second c : Chain) → AreChains links cs → to < length cs →
    from < length cs → (to ≡ from → ⊥) →
    lent ≡ links → first ≡ get_or cs to no_chain → second ≡ get_or cs from no_chain → length links' ≡ length links →
    items_of links' c ≡ items_of lent first ++ items_of lent second → IsChain links' c →
    ((i : ℕ) → (0 < first.len → i ≡ first.last → ⊥) → get_or links' i 0 ≡ get_or lent i 0) → Joins links links' cs to from c
joins_of links links' lent cs to from first second c are lt lf ne same one two size items is others = record {
  are = are;
  to_is = lt;
  from_is = lf;
  apart = ne;
  size = size;
  items = items ∙ (ap (λ (ls : List ℕ). items_of ls first ++ items_of ls second) same
      ∙ (ap (λ (a : Chain). items_of links a ++ items_of links second) one
      ∙ ap (λ (b : Chain). items_of links (get_or cs to no_chain) ++ items_of links b) two));
  is = is;
  others = λ i none.
      others i (λ some e.
      let chain : IsChain links first = subst (IsChain links) (sym one) (are.chain to) in
      let last : 0 < occ first.last (items_of links (get_or cs to no_chain)) =
      subst (λ (a : Chain). 0 < occ first.last (items_of links a)) one (last_occurs links first chain some) in
      let there : 0 < occ i (items_of links (get_or cs to no_chain)) = subst (λ (j : ℕ). 0 < occ j (items_of links (get_or cs to no_chain))) (sym e) last in
      absurd (omega (arith, none, there)))
      ∙ ap (λ (ls : List ℕ). get_or ls i 0) same;
}

-- an item and a chain that it isn't in
pub put_once : (links lent : List ℕ) (cs : List Chain) (k item i : ℕ) (first second : Chain) → AreChains links cs →
    occ item (all_items links cs) ≡ 0 → lent ≡ links →
    first ≡ record { first = item; last = item; len = 1 } → second ≡ get_or cs k no_chain → occ i (items_of lent first ++ items_of lent second) ≤ 1
put_once links lent cs k item i first second are none same one two =
    let all : items_of lent first ++ items_of lent second ≡ item ∷ items_of links (get_or cs k no_chain) =
    put_items links lent cs k item first second same one two in
    let b = ap (λ (ys : List ℕ). occ i ys) all in let d = are.once i in let l = occ-at links cs k i in
    ⊎_elim
    (λ e. let z : occ i (all_items links cs) ≡ 0 = ap (λ (j : ℕ). occ j (all_items links cs)) e ∙ none in
    let h = at_head i item (items_of links (get_or cs k no_chain)) (sym e) in omega (arith, b, z, h, l))
    (λ ne. let h = ap one_if (ne_eqb i item ne) in omega (arith, b, d, h, l))
    (cases_eq i item)
  where
    put_items : (links lent : List ℕ) (cs : List Chain) (k item : ℕ) (first second : Chain) → lent ≡ links →
        first ≡ record { first = item; last = item; len = 1 } → second ≡ get_or cs k no_chain →
        items_of lent first ++ items_of lent second ≡ item ∷ items_of links (get_or cs k no_chain)
    put_items links lent cs k item first second same one two =
        ap (λ (a : Chain). items_of lent a ++ items_of lent second) one
        ∙ (ap (λ (ls : List ℕ). item ∷ items_of ls second) same ∙ ap (λ (b : Chain). item ∷ items_of links b) two)

-- how many items are in one of the bags
pub len-bag : (links : List ℕ) (cs : List Chain) (k : ℕ) → AreChains links cs →
    (get_or cs k no_chain).len ≡ set.len (get_or (map (bag_of links) cs) k set.empty)
len-bag links cs k are =
    let c = get_or cs k no_chain in
    sym (length-walk links c.len c.first)
    ∙ (sym (len-from_list (items_of links c) (λ i. let a = occ-at links cs k i in let d = are.once i in omega (arith, a, d)))
    ∙ ap (λ (b : Items). set.len b) (sym (bag-at links cs k)))

-- new chains are empty
new_items : (n : ℕ) (links : List ℕ) → all_items links (replicate n no_chain) ≡ []
new_items zero links = refl
new_items (suc n) links = new_items n links

new_at : (n k : ℕ) → get_or (replicate n no_chain) k no_chain ≡ no_chain
new_at zero k = refl
new_at (suc n) zero = refl
new_at (suc n) (suc k) = new_at n k

pub new_chains : (n : ℕ) (links : List ℕ) → length links < 2 ^ 32 → AreChains links (replicate n no_chain)
new_chains n links small = record {
  small = small;
  chain = λ k. subst (λ (c : Chain). IsChain links c) (sym (new_at n k)) (no_chain_is links);
  once = λ i. let a = ap (λ (ys : List ℕ). occ i ys) (new_items n links) in omega (arith, a);
}

pub new_bags : (n : ℕ) (links : List ℕ) → map (bag_of links) (replicate n no_chain) ≡ replicate n set.empty
new_bags zero links = refl
new_bags (suc n) links = ap (λ (bs : List Items). set.empty ∷ bs) (new_bags n links)
