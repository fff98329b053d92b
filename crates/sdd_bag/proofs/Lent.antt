-- The storages of a bag, one after another, and the keys of their places
use Rattle.std.proofs.Common.{◌≡◌, ℕ, zero, suc, ◌+◌, ◌≤◌, List, [], ◌∷◌, ◌++◌, Option, None, Some, length, drop, is_some, slice_get, refl, sym, ap, ◌∙◌, subst, arith}
use Rattle.std.proofs.Math.Seq.{drop-append_seam}
use Rattle.std.proofs.lemmas.List.{length-drop, length-map}
use Rattle.sdd_world_model.specs.World.{World}
use Rattle.sdd_lists.specs.declared.linked_entry.LinkedEntry.{LinkedEntry}
use Rattle.sdd_lists.specs.Entries.{value_of}
use Rattle.sdd_lists.specs.Lists.{Entry}
use Rattle.sdd_lists.specs.Walk.{shown_of}
use Rattle.sdd_lists.specs.declared.stack.Stack.{Stack}
use Rattle.sdd_lists.specs.Stack.{IsStack, cell_in}
use Rattle.sdd_lists.proofs.WalkPositions.{shown-first, shown-left}
use Rattle.sdd_bag.specs.KeyedPlaces.{PlaceName}
use Rattle.sdd_bag.specs.Storage.{KeptPlace, names_of, value_at}
use Rattle.sdd_bag.specs.Storages.{StorageName}
use Rattle.sdd_bag.specs.Overflow.{AreShelves, KeepsPlaces, LiesOn, OverflowParts}
use Rattle.sdd_bag.proofs.InsertedKeys.{map-drop, not-there, same-there}
use Rattle.sdd_bag.proofs.StackStorages.{plain-left}
use Rattle.sdd_bag.proofs.Prefixes.{as-long}

module _ {A : Type 0} where
  drop-none : (n : ℕ) → drop {A = A} n [] ≡ []
  drop-none zero = refl
  drop-none (suc n) = refl

  drop-twice : (n m : ℕ) (xs : List A) → drop m (drop n xs) ≡ drop (n + m) xs
  drop-twice zero m xs = let same : m ≡ 0 + m = omega arith in ap (λ (k : ℕ). drop k xs) same
  drop-twice (suc n) m [] = drop-none m ∙ sym (drop-none (suc n + m))
  drop-twice (suc n) m (x ∷ xs) = let same : suc (n + m) ≡ suc n + m = omega arith in drop-twice n m xs ∙ ap (λ (k : ℕ). drop k (x ∷ xs)) same

  -- the first of what is behind are gone too
  pub drop-further : (n m : ℕ) (xs here rest : List A) → length here ≡ m → drop n xs ≡ here ++ rest → drop (n + m) xs ≡ rest
  drop-further n m xs here rest long front =
      sym (drop-twice n m xs) ∙ ap (λ (ys : List A). drop m ys) front ∙ ap (λ (k : ℕ). drop k (here ++ rest)) (sym long) ∙ drop-append_seam here rest

  pub get-drop : (n : ℕ) (xs : List A) (k : ℕ) → slice_get (drop n xs) k ≡ slice_get xs (n + k)
  get-drop zero xs k = let same : k ≡ 0 + k = omega arith in ap (λ (j : ℕ). slice_get xs j) same
  get-drop (suc n) [] k = let same : suc (n + k) ≡ suc n + k = omega arith in ap (λ (j : ℕ). slice_get {X = A} [] j) same
  get-drop (suc n) (x ∷ xs) k = let same : suc (n + k) ≡ suc n + k = omega arith in get-drop n xs k ∙ ap (λ (j : ℕ). slice_get (x ∷ xs) j) same

module _ {T : Type 0} (ps : List (KeptPlace T)) where
  names-drop : (n : ℕ) → names_of (drop n ps) ≡ drop n (names_of ps)
  names-drop n = map-drop (λ (p : KeptPlace T). p.name) n ps

  -- the key of a place of the storage that is next
  pub key-next : (start : ℕ) (names : List PlaceName) → names_of (drop start ps) ≡ names → (k : ℕ) → slice_get names k ≡ slice_get (names_of ps) (start + k)
  key-next start names are k =
      ap (λ (ns : List PlaceName). slice_get ns k) (sym are ∙ names-drop start) ∙ get-drop start (names_of ps) k

  -- the keys behind those of its places
  pub keys-behind : (qs : List (KeptPlace T)) (start len : ℕ) (here rest : List PlaceName) → names_of qs ≡ names_of ps → length here ≡ len
      → names_of (drop start ps) ≡ here ++ rest → names_of (drop (start + len) qs) ≡ rest
  keys-behind qs start len here rest same long are =
      map-drop (λ (p : KeptPlace T). p.name) (start + len) qs ∙ ap (λ (ns : List PlaceName). drop (start + len) ns) same
      ∙ drop-further start len (names_of ps) here rest long (sym (names-drop start) ∙ are)

  -- where there are no keys behind, there are no places
  pub none-behind : (start : ℕ) → names_of (drop start ps) ≡ [] → length ps ≤ start
  none-behind start none =
      let nothing : length (names_of (drop start ps)) ≡ 0 = ap length none in
      omega (arith, nothing, length-map (drop start ps) (λ (p : KeptPlace T). p.name), length-drop start ps)

module _ {B : Type 0} (shown : B → Option StorageName) (len : ℕ) (w : World (LinkedEntry B)) where
  -- the entry that is next, and the others
  pub record Next (es : List (Entry (LinkedEntry B))) (x : B) : Type 0 where
    pub first : Entry (LinkedEntry B)
    pub rest : List (Entry (LinkedEntry B))
    pub entries : es ≡ first ∷ rest
    pub value : value_of first.value ≡ x
    pub behind : drop 1 (shown_of es) ≡ shown_of rest

  shown-shelf : (e : Entry (LinkedEntry B)) (rest : List (Entry (LinkedEntry B))) → AreShelves shown len w (e ∷ rest)
      → shown_of (e ∷ rest) ≡ value_of e.value ∷ shown_of rest
  shown-shelf e rest are =
      shown-first e rest (plain-left shown len w (e ∷ rest) are) ∙ ap (λ (vs : List B). value_of e.value ∷ vs) (shown-left rest)

  pub next-shelf : (es : List (Entry (LinkedEntry B))) (x : B) → AreShelves shown len w es → Some x ≡ slice_get (shown_of es) 0 → Next es x
  next-shelf [] x are is = absurd (not-there x (sym is))
  next-shelf (e ∷ rest) x are is = record {
    first = e;
    rest = rest;
    entries = refl;
    value = same-there (value_of e.value) x (ap (λ (vs : List B). slice_get vs 0) (sym (shown-shelf e rest are)) ∙ sym is);
    behind = ap (λ (vs : List B). drop 1 vs) (shown-shelf e rest are);
  }

  pub none-next : (es : List (Entry (LinkedEntry B))) → AreShelves shown len w es → None ≡ slice_get (shown_of es) 0 → es ≡ []
  none-next [] are is = refl
  none-next (e ∷ rest) are is = absurd (not-there (value_of e.value) (is ∙ ap (λ (vs : List B). slice_get vs 0) (shown-shelf e rest are)))

  -- where other values are in the same places, the storages lie as before
  pub lies-lent : {T : Type 0} (es : List (Entry (LinkedEntry B))) (o o' : OverflowParts T B) → KeepsPlaces o o'
      → ((k : ℕ) → is_some (value_at o'.places k) ≡ is_some (value_at o.places k)) → LiesOn shown len w es o → LiesOn shown len w es o'
  lies-lent es o o' keeps same lies = record {
    stack = subst (λ (st : Stack B). IsStack w (cell_in st) es) (sym keeps.stack) lies.stack;
    shelves = lies.shelves;
    keys = keeps.names ∙ lies.keys;
    full = λ k far near. same k ∙ lies.full k far (omega (arith, near, as-long o.places o'.places keeps.names));
  }
