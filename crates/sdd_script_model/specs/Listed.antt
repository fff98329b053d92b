-- Lists of numbers that begin in known cells, and those that begin in links elsewhere
use Rattle.std.specs.Prelude.{ℕ, ◌≡◌, ◌≢◌, ◌⊎◌, List, [], ◌∷◌, Option, None, Some}
use Rattle.sdd_core.specs.declared.tag.Tag.{Tag}
use Rattle.sdd_core.specs.declared.tag.Tag.TheVariants.{None as no_tag, Both}
use Rattle.sdd_participants.specs.Slab.{entry_at}
use Rattle.sdd_world_model.specs.World.{World, value_at}
use Rattle.sdd_world_model.specs.WorldChanges.{held_in}
use Rattle.sdd_lists.specs.Ends.{IsAmong}
use Rattle.sdd_lists.specs.Lists.{Entry, IsList}
use Rattle.sdd_lists.specs.Queue.{IsSecond}
use Rattle.sdd_script_model.specs.declared.val.Body.{Body}
use Rattle.sdd_script_model.specs.declared.val.Body.TheVariants.{Number, Owned, Shared, Storage}
use Rattle.sdd_script_model.specs.Val.{Val, body_of, link_of}

-- it is a number, and no owner or storage
abbrev pub IsNumber : Body → Type 0
IsNumber (Number n) = Unit {0}
IsNumber (Owned o) = ⊥
IsNumber (Shared o) = ⊥
IsNumber (Storage s) = ⊥

-- each entry has a number
abbrev pub AreNumbers : List (Entry Val) → Type 0
AreNumbers [] = Unit {0}
AreNumbers (e ∷ es) = IsNumber (body_of e.value) × AreNumbers es

-- the list that begins in cell c has these entries
abbrev pub Begins : World Val → (c : ℕ) → List (Entry Val) → Type 0
Begins w c es = IsList link_of w c no_tag es

-- cell b holds nothing, or an entry of these, or one that the list has let go of
pub record HoldsEntry (w : World Val) (b : ℕ) (es : List (Entry Val)) : Type 0 where
  pub second : Option ℕ
  pub holds : entry_at w.cells b ≡ Some (record { held = second; tag = no_tag })
  pub among : IsSecond link_of w second es

-- a list begins in each of these cells
module _ (begins : ℕ → Type 0) where
  -- the item in slot s is an entry of one of the lists
  pub record IsListed (w : World Val) (s : ℕ) : Type 0 where
    pub cell : ℕ
    pub entries : List (Entry Val)
    pub begun : begins cell
    pub list : Begins w cell entries
    pub among : IsAmong s entries

  -- the list that begins in cell c has numbers, and no entry in common with one of the lists
  pub record IsLoose (w : World Val) (c : ℕ) : Type 0 where
    pub tag : Tag
    -- no line gives this tag to a link
    pub plain : tag ≢ Both
    pub entries : List (Entry Val)
    pub list : IsList link_of w c tag entries
    pub numbers : AreNumbers entries
    pub free : (s : ℕ) → IsAmong s entries → ¬ (IsListed w s)

  -- and of some a second cell holds an entry of the list; the slots of storages are spoken of elsewhere
  pub record HasLists (seconds : (c b : ℕ) → Type 0) (stored : ℕ → Type 0) (w : World Val) : Type 0 where
    pub lists : (c : ℕ) → begins c → (es : List (Entry Val)) × Begins w c es × AreNumbers es
    -- no entry is in two
    pub apart : (b c s : ℕ) (es fs : List (Entry Val)) → begins b → begins c → Begins w b es → Begins w c fs → IsAmong s es → IsAmong s fs → b ≡ c
    -- a link holds nothing, or is that of an entry of one, or begins a list elsewhere
    pub linked : (s : ℕ) (v : Val) → value_at w s ≡ Some v → ¬ (stored s) →
        (held_in (entry_at w.cells (link_of v)) ≡ None) ⊎ (IsListed w s ⊎ IsLoose w (link_of v))
    -- a second cell is that of a list, and holds one of its entries, or one that it has let go of, or nothing
    pub second : (c b : ℕ) → seconds c b → begins c × ((es : List (Entry Val)) → Begins w c es → HoldsEntry w b es)
