-- Cells: what a participant knows of them, and what its calls make of it
use Rattle.std.specs.Prelude.{◌≡◌, ◌⊎◌, ℕ, ◌<◌, ◌≤◌, Bool, true, List, [], ◌∷◌, Option, Some, None, IfSome, MatchOption, option_map, slice_index, slice_set}
use base.Stored.{Gv}
use Rattle.atomic_table.specs.declared.shared.Seat.{Seat}
use Rattle.sdd_shared_values.specs.declared.value_fraction.ValueFraction.{ValueFraction}
use Rattle.sdd_shared_values.specs.SharedValues.{IsValueCode}
use Rattle.sdd_rights.specs.declared.views.ShownValue.{ShownValue}
use Rattle.sdd_rights.specs.declared.views.View.{View}
use Rattle.sdd_rights.specs.Owner.{witness_of_owner}
use Rattle.sdd_rights.specs.declared.right.StandingKind.{StandingKind}
use Rattle.sdd_rights.specs.declared.right.Right.{Right}
use Rattle.sdd_rights.specs.Right.{home_of_table, number_of, views_of}
use Rattle.sdd_rights.specs.Units.{GhostName}
use Rattle.sdd_world_model.specs.Cells.{MayHold, cell_with, slot_held}
use Rattle.sdd_core.specs.declared.tag.Tag.{Tag}
use Rattle.sdd_participants.specs.declared.standing.RawCellContents.{RawCellContents}
use Rattle.sdd_domain_invariant.specs.Slots.Records.{IsIn}
use Rattle.sdd_domain_steps.specs.SeenSlots.{IsOnce}
use Rattle.sdd_domain_steps.specs.CellWords.{listed}
use Rattle.sdd_domain_steps.specs.Local.{contents_of, pointer_by}
use Rattle.sdd_core.specs.declared.tag.Tag.TheVariants.{None as Untagged}
use Rattle.sdd_domain_invariant.specs.Codes.{alive, counted, held_slots, most_owners, null_word}
use Rattle.sdd_domain_invariant.specs.Fractions.BankInvariant.{one_where}
use Rattle.sdd_atomics.specs.TableFacts.{TableFacts, id_of, gamma_of, slots_of}
use Rattle.sdd_atomics.specs.ReadFractions.{IsUnitOf}
use Rattle.sdd_core.specs.declared.refused.Refused.{Refused}
use Rattle.sdd_core.specs.declared.refused.Refused.TheVariants.{NoSlot, NoCell, TooManyOwners, Contended}
use Rattle.sdd_domain_steps.specs.declared.cells.values.LooseOwner.{LooseOwner}
use Rattle.sdd_domain_invariant.specs.Epoch.{IsLone}
use Rattle.sdd_domain_invariant.specs.Cells.CellWordSteps.{cell_noted, pointer_behind}
use Rattle.sdd_domain_invariant.specs.Cells.CellSteps.{put_in}
use Rattle.sdd_domain_steps.specs.Claims.{IsBefore, IsUnmoved}
use Rattle.sdd_domain_steps.specs.LocalState.{LocalState, AddsAt, IsLone as IsAlone, IsUsedUp, KnowsOwner, LooksAt, MakesAt, cell_word_of, pointer_word_of, word_of}
use Rattle.sdd_world_model.specs.OwnerOrCell.{OwnerOrCell, AreOf}
use Rattle.sdd_space.specs.Ptr.{shown_by, slot_named}
use Rattle.sdd_space.specs.declared.ptr.Ptr.{Ptr}
use Rattle.sdd_domain_steps.specs.SpaceIds.{home_in}

-- ---- as its callers see it
module _ {J : Type 0} where
  -- the word of a cell was found to be this, and is that now
  pub record WritesAt (cell found word : ℕ) (old new : LocalState J) : Type 0 where
    pub member : new ≡ record old { words = slice_set old.words cell word }
    pub inside : cell < old.sizes.cells
    pub lone : IsAlone old → found ≡ cell_word_of old cell

  -- the same of a cell that was in use
  pub record ChangesCell (cell found word : ℕ) (old new : LocalState J) : Type 0 where
    pub writes : WritesAt cell found word old new
    pub full : IsAlone old → 0 < found

  -- a cell that was in use, whose word was this, is free
  abbrev pub FreesAt : ℕ → ℕ → LocalState J → LocalState J → Type 0
  FreesAt cell found = ChangesCell cell found 0

  -- no cell is free
  abbrev pub AllCellsTaken : LocalState J → Type 0
  AllCellsTaken m = (cell : ℕ) → cell < m.limits.cells → 0 < cell_word_of m cell

  -- why no cell was claimed
  abbrev pub ClaimsNone : Refused → LocalState J → Type 0
  ClaimsNone why m = ((why ≡ NoCell) × (IsAlone m → AllCellsTaken m)) ⊎ ((why ≡ Contended) × ¬ (IsAlone m))

  -- a cell that was free holds an owner of an item from now on that was made in this slot, shows this, and has one owner that may be one of several
  pub record MakesInCell (cell slot : ℕ) (shared : Bool) (value : Gv) (old new : LocalState J) : Type 0 where
    pub reserved : LocalState J
    pub made : LocalState J
    pub first : ℕ
    pub word : ℕ
    pub reserves : WritesAt cell 0 first old reserved
    pub makes : MakesAt slot shared value reserved made
    pub full : 0 < word
    pub holds : contents_of word ≡ record { held = Some slot; tag = Untagged }
    pub filled : new ≡ record made { words = slice_set made.words cell word }

  -- no item was made in a cell: no slot was found free, or no cell was, or exchanges were lost; what a lone participant knows is as it was
  pub record MakesNone (why : Refused) (old new : LocalState J) : Type 0 where
    pub same : new ≡ record old { words = new.words }
    pub words : IsAlone old → new.words ≡ old.words
    pub cause : (why ≡ NoSlot) ⊎ ((why ≡ NoCell) ⊎ (why ≡ Contended))
    pub lone : IsAlone old → ((why ≡ NoSlot) × IsUsedUp old) ⊎ ((why ≡ NoCell) × ¬ (IsUsedUp old) × AllCellsTaken old)

  -- a cell was found to have this word
  pub record FindsAt (cell word : ℕ) (m : LocalState J) : Type 0 where
    pub inside : cell < m.sizes.cells
    pub found : IsAlone m → word ≡ cell_word_of m cell
    pub full : IsAlone m → 0 < word

  -- a raw cell was found to point to this, and points to that now
  pub record PointsAt (cell : ℕ) (found now : RawCellContents) (old new : LocalState J) : Type 0 where
    pub word : ℕ
    pub tells : pointer_by word ≡ now
    pub member : new ≡ record old { words = slice_set old.words (pointer_behind old.sizes cell) word }
    pub inside : cell < old.sizes.cells
    pub lone : IsAlone old → pointer_by (pointer_word_of old cell) ≡ found

  -- a raw cell was found to point to this
  pub record FindsPointer (cell : ℕ) (found : RawCellContents) (m : LocalState J) : Type 0 where
    pub inside : cell < m.sizes.cells
    pub lone : IsAlone m → pointer_by (pointer_word_of m cell) ≡ found

  -- a cell that was free is a raw one, and points to this
  pub record MakesRaw (cell : ℕ) (pointer : RawCellContents) (old new : LocalState J) : Type 0 where
    pub reserved : LocalState J
    pub last : RawCellContents
    pub reserves : WritesAt cell 0 (null_word 0) old reserved
    pub points : PointsAt cell last pointer reserved new

  -- its guards see what they saw, and more, and nothing else that callers see is other
  pub record SeesMore (old new : LocalState J) : Type 0 where
    pub member : new ≡ record old { slots = new.slots; shown = new.shown }
    pub waits : new.slots.waits ≡ old.slots.waits
    pub privates : new.slots.privates ≡ old.slots.privates
    pub closes : new.slots.closes ≡ old.slots.closes
    pub keeps : (slot : ℕ) (value : Gv) → IsIn old.shown slot value → IsIn new.shown slot value
    pub once : (new ≡ old) ⊎ IsOnce new.shown

  -- what a cell of shared owners was found to hold is copied: of the item that it names, of whose owner a lone participant knows, one owner more came
  abbrev pub Copies : ℕ → Option Right → Tag → LocalState J → LocalState J → Type 0
  Copies cell copy tag old new = (word : ℕ) × (contents_of word ≡ cell_with copy tag) × FindsAt cell word old × MatchOption copy (SeesMore old new)
      (λ right. (mid : LocalState J) × (owners : ℕ) × SeesMore old mid × AddsAt (number_of right) owners mid new
      × (IsAlone mid → (value : Gv) × KnowsOwner mid (number_of right) true value))

  -- why it wasn't copied
  pub record CopiesNone (cell : ℕ) (why : Refused) (old new : LocalState J) : Type 0 where
    pub sees : SeesMore old new
    pub cause : ((why ≡ TooManyOwners) × (IsAlone old → (slot : ℕ) × ((contents_of (cell_word_of old cell)).held ≡ Some slot)
        × (counted (word_of old slot) ≡ 1) × (most_owners ≤ alive (word_of old slot))))
        ⊎ ((why ≡ Contended) × ¬ (IsAlone old))

  -- another cell, which was free, holds a copy of what a cell of shared owners holds, with its tag
  pub record ClonesTo (cell other : ℕ) (old new : LocalState J) : Type 0 where
    pub copy : Option Right
    pub tag : Tag
    pub reserved : LocalState J
    pub copied : LocalState J
    pub first : ℕ
    pub word : ℕ
    pub reserves : WritesAt other 0 first old reserved
    pub copies : Copies cell copy tag reserved copied
    pub full : 0 < word
    pub holds : contents_of word ≡ cell_with copy tag
    pub filled : new ≡ record copied { words = slice_set copied.words other word }

  -- a cell was reserved, and is free again, as what a cell holds wasn't copied
  pub record ClonesNone (cell : ℕ) (why : Refused) (old new : LocalState J) : Type 0 where
    pub other : ℕ
    pub reserved : LocalState J
    pub missed : LocalState J
    pub first : ℕ
    pub reserves : WritesAt other 0 first old reserved
    pub fails : CopiesNone cell why reserved missed
    pub freed : new ≡ record missed { words = slice_set missed.words other 0 }

  -- a lone participant knows that the owner of this slot, which a cell holds, is one of several that there may be, or not
  pub record IsOwnedThere (slot : ℕ) (shared : Bool) (m : LocalState J) : Type 0 where
    pub alive : 0 < alive (word_of m slot)
    pub kind : counted (word_of m slot) ≡ one_where shared

-- what a pointer shows
module _ {T J : Type 0} (shown : T → Gv) (holds : T → List OwnerOrCell) where
  -- its guards see the item of a slot, if they didn't before, which has this value, and whose owner a lone participant knows
  pub record SeesItem (slot : ℕ) (value : T) (old new : LocalState J) : Type 0 where
    pub shared : Bool
    pub looks : LooksAt slot shared (shown value) old new
    pub recalled : IsAlone old → KnowsOwner old slot shared (shown value)
    pub once : IsOnce new.shown
    pub home : AreOf (home_in old) (holds value)

  -- a pointer shows what its guards see there; a null one shows nothing, and nothing has changed
  abbrev pub LooksThrough : Ptr T → LocalState J → LocalState J → Type 0
  LooksThrough ptr old new = MatchOption (slot_named ptr) ((shown_by ptr ≡ None) × (new ≡ old))
      (λ slot. (value : T) × (shown_by ptr ≡ Some value) × SeesItem slot value old new)

-- ---- the seat
-- the word of a cell was found to be this, and is that now, and all else is as it was
pub record Writes (cell found word : ℕ) (s s' : Seat ValueFraction View) : Type 0 where
  pub table : s'.table_id ≡ s.table_id
  pub number : s'.id ≡ s.id
  pub others : s'.me.1 ≡ s.me.1
  pub view : s'.me.0 ≡ record s.me.0 { words = cell_noted cell word s.me.0 }
  pub inside : cell < s.me.0.sizes.cells
  pub knew : IsLone s.me.0.epoch → (found ≡ slice_index s.me.0.words cell) × (0 < found)

-- none of these cells was found free, and nothing has changed
pub record MissesCells (P : ℕ → Type 0) (s s' : Seat ValueFraction View) : Type 0 where
  pub same : IsUnmoved s s'
  pub taken : IsLone s.me.0.epoch → (cell : ℕ) → P cell → 0 < slice_index s.me.0.words cell

-- a lone participant knows each of these cells to be taken
abbrev pub AreCellsTaken : (ℕ → Type 0) → Seat ValueFraction View → Type 0
AreCellsTaken P s = IsLone s.me.0.epoch → (cell : ℕ) → P cell → 0 < slice_index s.me.0.words cell

-- of so many cells it knows those to be taken that come before this one in a walk once round that begins there
abbrev pub CellComesFirst : ℕ → ℕ → ℕ → Seat ValueFraction View → Type 0
CellComesFirst cells next cell = AreCellsTaken (λ k. (k < cells) × IsBefore next cell k)

-- a cell that was free has this word, and the owner that the participant had is in it, if it had one
pub record Claims (word cell : ℕ) (s s' : Seat ValueFraction View) : Type 0 where
  pub table : s'.table_id ≡ s.table_id
  pub number : s'.id ≡ s.id
  pub others : s'.me.1 ≡ s.me.1
  pub view : s'.me.0 ≡ put_in cell word s.me.0
  pub inside : cell < s.me.0.sizes.cells
  pub free : IsLone s.me.0.epoch → slice_index s.me.0.words cell ≡ 0

-- a cell that was free has this word, and all else is as it was
pub record Fills (word cell : ℕ) (s s' : Seat ValueFraction View) : Type 0 where
  pub table : s'.table_id ≡ s.table_id
  pub number : s'.id ≡ s.id
  pub others : s'.me.1 ≡ s.me.1
  pub view : s'.me.0 ≡ record s.me.0 { words = cell_noted cell word s.me.0 }
  pub inside : cell < s.me.0.sizes.cells
  pub free : IsLone s.me.0.epoch → slice_index s.me.0.words cell ≡ 0

-- why no cell was claimed of so many, as far as is known
abbrev pub MissedAll : ℕ → Refused → View → Type 0
MissedAll cells why v = ((why ≡ NoCell) × (IsLone v.epoch → (cell : ℕ) → cell < cells → 0 < slice_index v.words cell))
    ⊎ ((why ≡ Contended) × ¬ (IsLone v.epoch))

-- ---- an owner in hand
-- its slot, if there is one
abbrev pub slots_in : Option LooseOwner → List ℕ
slots_in None = []
slots_in (Some o) = o.slot ∷ []

-- what is told of it
abbrev pub told_of : Bool → Option LooseOwner → List ShownValue
told_of shared None = []
told_of shared (Some o) = record { slot = o.slot; shared = shared; value = o.read_fraction.shown } ∷ []

-- it is an owner of an item of this domain, one of several or not, with a unit of the place's number
pub record IsLoose (b : TableFacts) (shared : Bool) (o : LooseOwner) : Type 0 where
  pub inside : o.slot < slots_of b
  pub table : o.owner.table_id ≡ id_of b
  pub views : o.owner.views ≡ witness_of_owner o.slot shared o.read_fraction.shown
  pub unit : IsUnitOf (gamma_of b) o.slot o.read_fraction

abbrev pub AreLoose : TableFacts → Bool → Option LooseOwner → Type 0
AreLoose b shared held = IfSome held (IsLoose b shared)

-- the participant has these owners, of which this is told
abbrev pub holding : List ℕ → List ShownValue → View → View
holding owns told v = record v { slots = record v.slots { owns = owns }; fractions = record v.fractions { owns = told } }

-- what a cell of this kind with this word would hold the participant has
pub record HasHeld (word : ℕ) (shared : Bool) (v : View) : Type 0 where
  pub owns : v.slots.owns ≡ held_slots word
  pub none : held_slots word ≡ [] → v.fractions.owns ≡ []
  pub one : (slot : ℕ) → held_slots word ≡ slot ∷ [] → (value : Gv) × (slot < v.sizes.slots) × IsValueCode value
      × (v.fractions.owns ≡ record { slot = slot; shared = shared; value = value } ∷ [])

-- where it is, and all that it has out, are as before
pub record IsWith (v : View) (s s' : Seat ValueFraction View) : Type 0 where
  pub table : s'.table_id ≡ s.table_id
  pub number : s'.id ≡ s.id
  pub others : s'.me.1 ≡ s.me.1
  pub view : s'.me.0 ≡ v

-- it has this owner in hand, if there is one
abbrev pub TakesUp : Bool → Option LooseOwner → Seat ValueFraction View → Seat ValueFraction View → Type 0
TakesUp shared new s s' = IsWith (holding (slots_in new) (told_of shared new) s.me.0) s s'

-- it has none in hand any more
abbrev pub PutsDown : Seat ValueFraction View → Seat ValueFraction View → Type 0
PutsDown s s' = IsWith (holding [] [] s.me.0) s s'

-- ---- the right of an owner in hand
-- the rights of a domain's owners are to the slots of its table
abbrev pub table_home : TableFacts → GhostName
table_home b = home_of_table (id_of b) (gamma_of b) (slots_of b)

-- the owner of this right, or none, is this one, of the same kind of this table's
pub record IsBoundTo (b : TableFacts) (kind : StandingKind) (held : Option Right) (loose : Option LooseOwner) : Type 0 where
  pub home : MayHold (table_home b) kind held
  pub slots : listed (slot_held held) ≡ slots_in loose
  pub views : option_map views_of held ≡ option_map (λ (o : LooseOwner). o.owner.views) loose
