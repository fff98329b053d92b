-- What is shown of a container's entries
use Rattle.sdd_interpreter.proofs.Words.{◌≡◌, ℕ, List, [], ◌∷◌, ◌++◌, Bool, true, false, Option, Some, None, map, refl, sym, ap, ◌∙◌, subst, drop, append-nil, PtrIsShown, shown_by, slot_named, World, value_at, Ptr, AreLinked, Entry, first_slot, first_value, left, shown_of, AreNumbers, IsNumber, Val, body_of, link_of, Body, Number, HasEntries, AnyList, Begins, if◌then◌else◌, is_deleted, linked-left, list_cell, slice_get}
use Rattle.sdd_interpreter.specs.declared.holding.AnyList.TheVariants as any

-- the list of a container begins in its first cell
pub begun-list : (w : World Val) (x : AnyList) (es : List (Entry Val)) (second : Option ℕ) → HasEntries w x es second → Begins w (list_cell x) es
begun-list w (any.Queue queue) es second has = has.list
begun-list w (any.Stack stack) es second has = has

-- a pointer to the first entry that isn't deleted shows its value
module _ (w : World Val) (shows : ℕ → Val → Type 0) (value : (k : ℕ) (v : Val) → shows k v → value_at w k ≡ Some v) (ptr : Ptr Val)
    (shown : PtrIsShown shows ptr) where
  pub points-first : (es : List (Entry Val)) → AreLinked link_of w es → slot_named ptr ≡ first_slot es → shown_by ptr ≡ first_value es
  points-first [] linked named = shown.null named
  points-first (e ∷ es) linked named =
      let there = shown.full e.slot named in
      there.1 ∙ sym (value e.slot there.0 there.2) ∙ linked.0.there

  pub points-left : (v : World Val) (x : AnyList) (es : List (Entry Val)) (second : Option ℕ) → w ≡ v → HasEntries v x es second →
      slot_named ptr ≡ first_slot (left es) → shown_by ptr ≡ first_value (left es)
  points-left v x es second same has named =
      let linked = subst (λ (u : World Val). AreLinked link_of u es) (sym same) (begun-list v x es second has).linked in
      points-first (left es) (linked-left link_of w es linked) named

-- the first entry that isn't deleted is a number, where all are
first-by : (e : Entry Val) (es : List (Entry Val)) (v : Val) → IsNumber (body_of e.value) → (first_value (left es) ≡ Some v → IsNumber (body_of v)) →
    (b : Bool) → first_value (if b then left es else e ∷ es) ≡ Some v → IsNumber (body_of v)
first-by e es v here more true is = more is
first-by e es v here more false is = let same : e.value ≡ v = cc in subst (λ (x : Val). IsNumber (body_of x)) same here

pub first-number : (es : List (Entry Val)) (v : Val) → AreNumbers es → first_value (left es) ≡ Some v → IsNumber (body_of v)
first-number [] v numbers is = absurd (cc)
first-number (e ∷ es) v numbers is = first-by e es v numbers.0 (first-number es v numbers.1) (is_deleted e) is

-- so is each that is shown
abbrev pub AreAllNumbers : List Body → Type 0
AreAllNumbers [] = Unit {0}
AreAllNumbers (v ∷ vs) = IsNumber v × AreAllNumbers vs

shown-by : (e : Entry Val) (es : List (Entry Val)) → IsNumber (body_of e.value) → AreAllNumbers (shown_of es) → (b : Bool) → is_deleted e ≡ b →
    AreAllNumbers (shown_of (e ∷ es))
shown-by e es here more true is = rw is more
shown-by e es here more false is = rw is (here, more)

pub shown-numbers : (es : List (Entry Val)) → AreNumbers es → AreAllNumbers (shown_of es)
shown-numbers [] numbers = tt
shown-numbers (e ∷ es) numbers = shown-by e es numbers.0 (shown-numbers es numbers.1) (is_deleted e) refl

pub number-behind : (ns : List ℕ) (v : Body) (vs : List Body) → AreAllNumbers (map Number ns ++ v ∷ vs) → IsNumber v
number-behind [] v vs all = all.0
number-behind (n ∷ ns) v vs all = number-behind ns v vs all.1

-- ---- one number after another

first-of : (vs : List Body) (v : Body) → Some v ≡ slice_get vs 0 → vs ≡ v ∷ drop 1 vs
first-of [] v is = absurd (cc)
first-of (x ∷ vs) v is = let same : v ≡ x = cc in ap (λ (y : Body). y ∷ vs) (sym same)

one-more : (ns : List ℕ) (n : ℕ) (vs : List Body) → map Number ns ++ Number n ∷ vs ≡ map Number (ns ++ n ∷ []) ++ vs
one-more [] n vs = refl
one-more (m ∷ ns) n vs = ap (λ (xs : List Body). Number m ∷ xs) (one-more ns n vs)

module _ (es : List (Entry Val)) (ns : List ℕ) (vs : List Body) (shown : shown_of es ≡ map Number ns ++ vs) where
  begun : (v : Body) → Some v ≡ slice_get vs 0 → shown_of es ≡ map Number ns ++ v ∷ drop 1 vs
  begun v first = shown ∙ ap (λ (xs : List Body). map Number ns ++ xs) (first-of vs v first)

  pub shown-more : (n : ℕ) (v : Body) (ms : List ℕ) → Some v ≡ slice_get vs 0 → v ≡ Number n → ms ≡ ns ++ n ∷ [] → shown_of es ≡ map Number ms ++ drop 1 vs
  shown-more n v ms first is more =
      begun v first ∙ ap (λ (x : Body). map Number ns ++ x ∷ drop 1 vs) is ∙ one-more ns n (drop 1 vs)
      ∙ ap (λ (xs : List ℕ). map Number xs ++ drop 1 vs) (sym more)

  pub next-number : (v : Body) → AreNumbers es → Some v ≡ slice_get vs 0 → (n : ℕ) × (v ≡ Number n)
  next-number v numbers first = is-number v (number-behind ns v (drop 1 vs) (subst AreAllNumbers (begun v first) (shown-numbers es numbers))) where
    is-number : (x : Body) → IsNumber x → (n : ℕ) × (x ≡ Number n)
    is-number (Number n) its = (n, refl)
    is-number x never = absurd never

  pub shown-all : None ≡ slice_get vs 0 → shown_of es ≡ map Number ns
  shown-all none = shown ∙ ap (λ (xs : List Body). map Number ns ++ xs) (none-left vs none) ∙ append-nil (map Number ns) where
    none-left : (xs : List Body) → None ≡ slice_get xs 0 → xs ≡ []
    none-left [] is = refl
    none-left (x ∷ xs) is = absurd (cc)
