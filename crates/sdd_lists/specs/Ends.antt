-- The end of a list, and what is put there
use Rattle.std.specs.Prelude.{ℕ, ◌≡◌, ◌⊎◌, Bool, true, false, List, [], ◌∷◌, Option, None, Some, if◌then◌else◌}
use Rattle.sdd_core.specs.declared.tag.Tag.{Tag}
use Rattle.sdd_world_model.specs.World.{World}
use Rattle.sdd_lists.specs.Lists.{Entry, is_deleted, linked_in, trimmed}

-- a cell and its tag, and the entries that begin there
pub record End (T : Type 0) : Type 0 where
  pub cell : ℕ
  pub tag : Tag
  pub behind : List (Entry T)

module _ {T : Type 0} where
  -- each of these is deleted
  abbrev pub is_spent : List (Entry T) → Bool
  is_spent [] = true
  is_spent (e ∷ es) = if is_deleted e then is_spent es else false

  -- the list through its last entry that isn't deleted
  abbrev pub through_last : List (Entry T) → List (Entry T)
  through_last [] = []
  through_last (e ∷ es) = if is_spent (e ∷ es) then [] else e ∷ through_last es

  -- the value of the last entry that isn't deleted, if there is one
  abbrev pub last_value : List (Entry T) → Option T
  last_value [] = None
  last_value (e ∷ es) = if is_spent es then (if is_deleted e then None else Some e.value) else last_value es

  -- the list ends with e, and rest behind it
  abbrev pub EndsWith : List (Entry T) → Entry T → List (Entry T) → Type 0
  EndsWith [] e rest = ⊥
  EndsWith (x ∷ xs) e rest = (x ∷ xs ≡ e ∷ rest) ⊎ EndsWith xs e rest

  -- the last entry that isn't deleted is e, and the deleted ones behind it are rest
  pub record IsLastOf (es : List (Entry T)) (e : Entry T) (rest : List (Entry T)) : Type 0 where
    pub ends : EndsWith es e rest
    pub stays : is_deleted e ≡ false
    pub spent : is_spent rest ≡ true

  -- one of these is in the slot
  abbrev pub IsAmong : ℕ → List (Entry T) → Type 0
  IsAmong k [] = ⊥
  IsAmong k (e ∷ es) = (e.slot ≡ k) ⊎ IsAmong k es

module _ {T : Type 0} (link : T → ℕ) where
  -- where a list that begins in a cell goes on: in the link of its last entry that isn't deleted, or in that cell; and the deleted ones behind
  abbrev pub end_of : ℕ → Tag → List (Entry T) → End T
  end_of c t [] = record { cell = c; tag = t; behind = [] }
  end_of c t (e ∷ es) = if is_spent (e ∷ es) then record { cell = c; tag = t; behind = e ∷ es } else end_of (link e.value) e.tag es

  -- p lets go of the deleted entries there, and the entry in slot k, whose link is l, comes in their place
  abbrev pub put_at : World T → ℕ → End T → (l k : ℕ) → World T
  put_at w p at l k = linked_in (trimmed link w p at.cell at.tag at.behind) at.cell at.tag l k None

  -- the entry in slot k, whose link is l, comes behind the last one that isn't deleted, and p lets go of those that were there
  abbrev pub appended : World T → (p c : ℕ) → Tag → List (Entry T) → (l k : ℕ) → World T
  appended w p c t es l k = put_at w p (end_of c t es) l k
