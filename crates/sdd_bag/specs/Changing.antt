-- What calls of a closure, each of which is lent a value, leave of values in their places
use Rattle.std.specs.Prelude.{ℕ, zero, suc, ◌≡◌, List, [], ◌∷◌, Option, None, Some}
use Rattle.core.specs.Fn.{CalledAtMut, Mut}
use Rattle.std.specs.Borrow.{MutBor}
use Rattle.sdd_bag.specs.Storage.{KeptPlace}

module _ {F T : Type 0} (calls : Mut F (MutBor T × Unit {0}) (Unit {0} × (MutBor T × Unit {0}))) where
  -- calls of f, one for each of the old values, in order, leave the new ones in their places, and g of f
  abbrev pub ChangesEach : F → List T → List T → F → Type 0
  ChangesEach f [] [] g = f ≡ g
  ChangesEach f [] (w ∷ ws) g = ⊥
  ChangesEach f (v ∷ vs) [] g = ⊥
  ChangesEach f (v ∷ vs) (w ∷ ws) g = (then : F) × CalledAtMut calls f v tt then w × ChangesEach then vs ws g

  -- a call of f leaves another value, if there is one
  abbrev pub ChangesIfSome : F → Option T → Option T → F → Type 0
  ChangesIfSome f None now g = (now ≡ None) × (f ≡ g)
  ChangesIfSome f (Some v) now g = (w : T) × (now ≡ Some w) × CalledAtMut calls f v tt g w

  -- calls of f leave other values in those of the first so many places that have one; the places behind them are as before
  abbrev pub ChangesFirst : ℕ → F → List (KeptPlace T) → List (KeptPlace T) → F → Type 0
  ChangesFirst n f [] qs g = (qs ≡ []) × (f ≡ g)
  ChangesFirst zero f (p ∷ ps) qs g = (qs ≡ p ∷ ps) × (f ≡ g)
  ChangesFirst (suc n) f (p ∷ ps) qs g =
      (now : Option T) × (rest : List (KeptPlace T)) × (qs ≡ record p { value = now } ∷ rest) × (then : F) × ChangesIfSome f p.value now then ×
      ChangesFirst n then ps rest g

  -- where calls have left the old values in the first so many places, calls leave the new ones in those before the end
  abbrev pub ChangesOn : (from end : ℕ) → F → List (KeptPlace T) → List (KeptPlace T) → F → Type 0
  ChangesOn from end f ps qs g = (first : F) (before : List (KeptPlace T)) → ChangesFirst from first before ps f → ChangesFirst end first before qs g
