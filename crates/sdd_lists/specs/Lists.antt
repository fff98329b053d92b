-- Lists of entries in the slots of a world
use Rattle.std.specs.Prelude.{ℕ, ◌≡◌, ◌≢◌, ◌<◌, ◌+◌, ◌^◌, Bool, true, false, List, [], ◌∷◌, Option, None, Some, Result, Ok, Err, filter, not, if◌then◌else◌}
use Rattle.sdd_core.specs.declared.tag.Tag.{Tag}
use Rattle.sdd_core.specs.declared.tag.Tag.TheVariants as tag
use Rattle.sdd_world_model.specs.World.{World, standing_at, value_at}
use Rattle.sdd_world_model.specs.Slots.{IsSharedBy}
use Rattle.sdd_participants.specs.Slab.{IsEmptyAt, entry_at}
use Rattle.sdd_space.specs.Shared.{slot_of}
use Rattle.sdd_participants.specs.declared.standing.Standing.TheVariants.{Shared as shared_by}
use Rattle.sdd_world_model.specs.WorldChanges.{made_as, owner_given, with_cell, with_standing}
use Rattle.sdd_space.specs.Shared.{Shared}
use Rattle.sdd_core.specs.declared.refused.Refused.{Refused}
use Rattle.sdd_core.specs.declared.refused.Refused.TheVariants.{TooManyOwners}

-- an entry of a list: its slot and value, and the tag of its link
pub record Entry (T : Type 0) : Type 0 where
  pub slot : ℕ
  pub value : T
  pub tag : Tag

-- a deletion sets the tag where it is this
abbrev pub may_delete : Tag → Bool
may_delete tag.None = true
may_delete tag.First = true
may_delete tag.Second = false
may_delete tag.Both = false

-- the tag of the link of a deleted entry
abbrev pub is_deleting : Tag → Bool
is_deleting tag.None = false
is_deleting tag.First = false
is_deleting tag.Second = true
is_deleting tag.Both = false

module _ {T : Type 0} where
  abbrev pub is_deleted : Entry T → Bool
  is_deleted e = is_deleting e.tag

  -- the slot of the first entry, if there is one
  abbrev pub first_slot : List (Entry T) → Option ℕ
  first_slot [] = None
  first_slot (e ∷ es) = Some e.slot

  -- the value of the first entry, if there is one
  abbrev pub first_value : List (Entry T) → Option T
  first_value [] = None
  first_value (e ∷ es) = Some e.value

  -- from the first entry on that isn't deleted
  abbrev pub left : List (Entry T) → List (Entry T)
  left [] = []
  left (e ∷ es) = if is_deleted e then left es else e ∷ es

  -- the entries that aren't deleted, in order
  abbrev pub content : List (Entry T) → List (Entry T)
  content es = filter (λ e. not (is_deleted e)) es

  -- the link, cell l, of what cell c holds first lets go of what follows it, which c holds instead; p is given the owner of the first one, in slot k
  abbrev pub let_go_first : World T → (p c : ℕ) → Tag → (k l : ℕ) → Option ℕ → World T
  let_go_first w p c t k l next =
      owner_given (with_cell (with_cell w l (record { held = None; tag = tag.Second })) c (record { held = next; tag = t })) p k (standing_at w k)

  -- as many own the entry as may, and nothing has changed
  pub record IsCrowded (w : World T) (e : Entry T) (refused : Refused) (new : World T) : Type 0 where
    pub why : refused ≡ TooManyOwners
    pub full : IsSharedBy (2 ^ 62) (standing_at w e.slot)
    pub same : new ≡ w

  -- there is one owner more of the entry, and nothing else has changed
  pub record IsKept (w : World T) (e : Entry T) (owner : Shared T) (new : World T) : Type 0 where
    pub slot : slot_of owner ≡ e.slot
    pub owners : ℕ
    pub shared : IsSharedBy owners (standing_at w e.slot)
    pub few : owners < 2 ^ 62
    pub world : new ≡ with_standing w e.slot (shared_by (owners + 1))

  -- the entry in slot k, whose link is l, goes between cell c and what that held
  abbrev pub linked_in : World T → (c : ℕ) → Tag → (l k : ℕ) → (next : Option ℕ) → World T
  linked_in w c t l k next = with_cell (with_cell w l (record { held = next; tag = tag.None })) c (record { held = Some k; tag = t })

  module _ (link : T → ℕ) where
    -- the entry is in its slot, and its link has its tag and holds this
    pub record IsEntry (w : World T) (e : Entry T) (next : Option ℕ) : Type 0 where
      pub there : value_at w e.slot ≡ Some e.value
      pub linked : entry_at w.cells (link e.value) ≡ Some (record { held = next; tag = e.tag })
      -- no call on lists gives this tag
      pub plain : e.tag ≢ tag.Both

    -- the link of each entry holds the one behind it, and the last one's holds nothing
    abbrev pub AreLinked : World T → List (Entry T) → Type 0
    AreLinked w [] = Unit {0}
    AreLinked w (e ∷ es) = IsEntry w e (first_slot es) × AreLinked w es

    -- no entry of these has cell l as its link
    abbrev pub Apart : ℕ → List (Entry T) → Type 0
    Apart l [] = Unit {0}
    Apart l (e ∷ es) = (link e.value ≢ l) × Apart l es

    -- the list that begins in cell c, which has this tag
    pub record IsList (w : World T) (c : ℕ) (t : Tag) (es : List (Entry T)) : Type 0 where
      pub begins : entry_at w.cells c ≡ Some (record { held = first_slot es; tag = t })
      pub linked : AreLinked w es

    -- p lets go of the deleted entries in front, one after another
    abbrev pub trimmed : World T → (p c : ℕ) → Tag → List (Entry T) → World T
    trimmed w p c t [] = w
    trimmed w p c t (e ∷ es) =
        if is_deleted e then trimmed (let_go_first w p c t e.slot (link e.value) (first_slot es)) p c t es else w

    -- p lets go of each entry, one after another
    abbrev pub emptied : World T → (p c : ℕ) → Tag → List (Entry T) → World T
    emptied w p c t [] = w
    emptied w p c t (e ∷ es) = emptied (let_go_first w p c t e.slot (link e.value) (first_slot es)) p c t es

    -- the entry e, behind deleted ones alone and before rest, is deleted, and all these are let go of
    abbrev pub removed : World T → (p c : ℕ) → Tag → (es : List (Entry T)) → Entry T → (rest : List (Entry T)) → World T
    removed w p c t es e rest =
        let freed : World T = trimmed w p c t es in
        let deleted : World T = with_cell freed (link e.value) (record { held = first_slot rest; tag = tag.Second }) in
        let_go_first deleted p c t e.slot (link e.value) (first_slot rest)

    -- p has one owner more of the entry, too
    abbrev pub popped : World T → (p c : ℕ) → Tag → (es : List (Entry T)) → Entry T → (rest : List (Entry T)) → (owners : ℕ) → World T
    popped w p c t es e rest owners = removed (with_standing w e.slot (shared_by (owners + 1))) p c t es e rest

    -- p took the entry e out of the list es in cell c, which is then rest, and has an owner of it
    pub record IsTaken (w : World T) (p c : ℕ) (t : Tag) (es : List (Entry T)) (e : Entry T) (rest : List (Entry T)) (owner : Shared T)
        (new : World T) : Type 0 where
      pub slot : slot_of owner ≡ e.slot
      pub owners : ℕ
      pub shared : IsSharedBy owners (standing_at w e.slot)
      pub few : owners < 2 ^ 62
      pub world : new ≡ popped w p c t es e rest owners
      pub list : IsList new c t rest

    -- p let go of the list es in cell c, whose entries were deleted all
    pub record IsDrained (w : World T) (p c : ℕ) (t : Tag) (es : List (Entry T)) (new : World T) : Type 0 where
      pub none : left es ≡ []
      pub world : new ≡ trimmed w p c t es
      pub list : IsList new c t []

    -- what a pop answers of the list es in cell c, and what is there then
    abbrev pub Pops : World T → (p c : ℕ) → Tag → List (Entry T) → Result (Option (Shared T)) Refused → World T → Type 0
    Pops w p c t es (Ok None) new = IsDrained w p c t es new
    Pops w p c t es (Ok (Some owner)) new =
        (e : Entry T) × (rest : List (Entry T)) × (left es ≡ e ∷ rest) × IsTaken w p c t es e rest owner new
    Pops w p c t es (Err why) new = (e : Entry T) × (rest : List (Entry T)) × (left es ≡ e ∷ rest) × IsCrowded w e why new

    -- p pushed the value in front of the list es in cell c: it is in slot k, which was free, and has two owners, the list and one more
    pub record IsPushed (w : World T) (p c : ℕ) (t : Tag) (es : List (Entry T)) (k : ℕ) (value : T) (new : World T) : Type 0 where
      pub free : IsEmptyAt w.standings k
      pub world : new ≡ linked_in (trimmed (made_as w k value (shared_by 2)) p c t es) c t (link value) k (first_slot (left es))
      pub list : IsList new c t (record { slot = k; value = value; tag = tag.None } ∷ left es)
