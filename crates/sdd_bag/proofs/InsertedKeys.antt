-- What the keys say, when one comes out and goes back, or new ones go in
use Rattle.std.proofs.Common.{◌≡◌, ℕ, zero, suc, ◌<◌, List, [], ◌∷◌, ◌++◌, Option, Some, None, length, map, slice_get, slice_set, take, drop, refl, sym, ap, ◌∙◌, subst, arith}
use Rattle.core.specs.Mem.{manually_drop_value}
use Rattle.core.specs.declared.mem.ManuallyDrop.{ManuallyDrop}
use Rattle.sdd_bag.specs.KeyedPlaces.{PlaceName}
use Rattle.sdd_bag.specs.KeptValues.{KeptValue, kept_as, inserted, without_at}
use Rattle.sdd_bag.specs.Storage.{KeptPlace, kept_place, names_of, value_at, with_value_at}

abbrev got : {A : Type 0} → A → Option A → A
got d None = d
got d (Some x) = x

abbrev IsThere : {A : Type 0} → Option A → Type 0
IsThere None = ⊥
IsThere (Some x) = Unit {0}

module _ {A : Type 0} where
  pub not-there : (x : A) → None ≡ Some x → ⊥
  not-there x e = subst IsThere (sym e) tt

  pub same-there : (x y : A) → Some x ≡ Some y → x ≡ y
  same-there x y e = ap (got x) e

  pub inserted-first : (xs : List A) (y : A) → inserted xs zero y ≡ y ∷ xs
  inserted-first [] y = refl
  inserted-first (x ∷ xs) y = refl

  pub inserted-behind : (xs ys : List A) (y : A) → inserted (xs ++ ys) (length xs) y ≡ xs ++ y ∷ ys
  inserted-behind [] ys y = inserted-first ys y
  inserted-behind (x ∷ xs) ys y = ap (λ (zs : List A). x ∷ zs) (inserted-behind xs ys y)

  pub get-inside : (xs : List A) (k : ℕ) (x : A) → slice_get xs k ≡ Some x → k < length xs
  get-inside [] k x e = absurd (not-there x e)
  get-inside (y ∷ xs) zero x e = omega arith
  get-inside (y ∷ xs) (suc k) x e = omega (arith, get-inside xs k x e)

  pub get-front : (xs ys : List A) (k : ℕ) (x : A) → slice_get xs k ≡ Some x → slice_get (xs ++ ys) k ≡ Some x
  get-front [] ys k x e = absurd (not-there x e)
  get-front (y ∷ xs) ys zero x e = e
  get-front (y ∷ xs) ys (suc k) x e = get-front xs ys k x e

  pub map-inserted : {B : Type 0} (f : A → B) (xs : List A) (k : ℕ) (x : A) → map f (inserted xs k x) ≡ inserted (map f xs) k (f x)
  map-inserted f [] k x = refl
  map-inserted f (y ∷ xs) zero x = refl
  map-inserted {B = B} f (y ∷ xs) (suc k) x = ap (λ (zs : List B). f y ∷ zs) (map-inserted f xs k x)

pub map-drop : {A B : Type 0} (f : A → B) (n : ℕ) (xs : List A) → map f (drop n xs) ≡ drop n (map f xs)
map-drop f zero xs = refl
map-drop f (suc n) [] = refl
map-drop f (suc n) (x ∷ xs) = map-drop f n xs

pub drop-next : {A : Type 0} (n m : ℕ) (xs : List A) → m ≡ suc n → without_at (drop n xs) zero ≡ drop m xs
drop-next zero m [] next = ap (λ (k : ℕ). drop k []) (sym next)
drop-next zero m (x ∷ xs) next = ap (λ (k : ℕ). drop k (x ∷ xs)) (sym next)
drop-next (suc n) m [] next = ap (λ (k : ℕ). drop k []) (sym next)
drop-next (suc n) m (x ∷ xs) next = drop-next n (suc n) xs refl ∙ ap (λ (k : ℕ). drop k (x ∷ xs)) (sym next)

abbrev pub Key : Type 0 → Type 0
Key T = KeptValue (ManuallyDrop (Option T))

module _ {T : Type 0} where
  abbrev pub places : List (Key T) → List (KeptPlace T)
  places ks = map kept_place ks

  pub name-there : (ks : List (Key T)) (at : ℕ) (k : Key T) → slice_get ks at ≡ Some k → slice_get (names_of (places ks)) at ≡ Some k.name
  name-there [] at k e = absurd (not-there k e)
  name-there (x ∷ ks) zero k e = ap (λ (o : Key T). Some o.name) (same-there x k e)
  name-there (x ∷ ks) (suc at) k e = name-there ks at k e

  pub value-there : (ks : List (Key T)) (at : ℕ) (k : Key T) → slice_get ks at ≡ Some k → value_at (places ks) at ≡ manually_drop_value k.value
  value-there [] at k e = absurd (not-there k e)
  value-there (x ∷ ks) zero k e = ap (λ (o : Key T). manually_drop_value o.value) (same-there x k e)
  value-there (x ∷ ks) (suc at) k e = value-there ks at k e

  pub put-back : (ks : List (Key T)) (at : ℕ) (k : Key T) (v : ManuallyDrop (Option T)) → slice_get ks at ≡ Some k
      → places (inserted (without_at ks at) at (kept_as k.name v)) ≡ with_value_at (places ks) at (manually_drop_value v)
  put-back [] at k v e = absurd (not-there k e)
  put-back (x ∷ ks) zero k v e =
      ap (λ (zs : List (Key T)). places zs) (inserted-first ks (kept_as k.name v))
      ∙ ap (λ (o : Key T). record { name = o.name; value = manually_drop_value v } ∷ places ks) (sym (same-there x k e))
  put-back (x ∷ ks) (suc at) k v e = ap (λ (zs : List (KeptPlace T)). kept_place x ∷ zs) (put-back ks at k v e)

  pub new-behind : (e : PlaceName → KeptPlace T) (names : List PlaceName) (bs : List (KeptPlace T)) (at n : ℕ) (x : PlaceName) → at < length names → n ≡ suc at
      → inserted (map e (take at names) ++ bs) at (e x) ≡ map e (take n (slice_set names at x)) ++ bs
  new-behind e [] bs at n x inside next = absurd (omega (arith, inside))
  new-behind e (y ∷ names) bs zero n x inside next =
      inserted-first bs (e x) ∙ ap (λ (m : ℕ). map e (take m (x ∷ names)) ++ bs) (sym next)
  new-behind e (y ∷ names) bs (suc at) n x inside next =
      ap (λ (zs : List (KeptPlace T)). e y ∷ zs) (new-behind e names bs at (suc at) x (omega (arith, inside)) refl)
      ∙ ap (λ (m : ℕ). map e (take m (y ∷ slice_set names at x)) ++ bs) (sym next)
