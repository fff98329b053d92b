-- What the names of a script stand for
use Rattle.std.specs.Prelude.{ℕ, ◌≡◌, ◌<◌, ◌≤◌, Bool, false, IsSome, IsTrue, List, [], ◌∷◌, ◌++◌, Option, Some, None, length, slice_index, slice_index_or, slice_set, if◌then◌else◌}
use Rattle.std.specs.Option.{option_map}
use Rattle.sdd_world_model.specs.Slots.{is_waiting}
use Rattle.sdd_world_model.specs.OwnerOrCell.{OwnerOrCell}
use Rattle.sdd_world_model.specs.World.{World, standing_at}
use Rattle.sdd_script_text.specs.declared.name.ItemName.{ItemName}
use Rattle.sdd_script_text.specs.declared.name.OwnerName.{OwnerName}
use Rattle.sdd_script_text.specs.declared.call.Value.{Value}
use Rattle.sdd_script_text.specs.declared.call.Value.TheVariants.{Number, Of}
use Rattle.sdd_script_text.specs.declared.answer.Reply.{Reply}
use Rattle.sdd_world.specs.Place.{index_of}
use Rattle.sdd_script_model.specs.declared.val.Body.{Body}
use Rattle.sdd_script_model.specs.Val.{Val, owner_in}
use Rattle.sdd_script_model.specs.ScriptState.{OpenSince, opening_at, holding_at, place_in, sole_slot, shared_slot}
use Rattle.sdd_script_model.specs.Script.{IsOf, owners_put}
use Rattle.sdd_script_model.specs.declared.owner_kind.OwnerKind.{OwnerKind}
use Rattle.sdd_interpreter.specs.declared.holding.AnyOwner.{AnyOwner}
use Rattle.sdd_interpreter.specs.declared.holding.CellOwner.{CellOwner}
use Rattle.sdd_interpreter.specs.declared.participants.NamedParticipant.{NamedParticipant}
use Rattle.sdd_interpreter.specs.declared.participants.NamedGuard.{NamedGuard}
use Rattle.sdd_interpreter.specs.Owners.{owner_holding, filling_holding, filling_kind}
use Rattle.sdd_script_text.specs.declared.answer.Reply.TheVariants as reply
use Rattle.sdd_space.specs.Owned as owned
use Rattle.sdd_space.specs.Shared as shared
use Rattle.sdd_script_model.specs.declared.val.Body.TheVariants as body
use Rattle.sdd_script_model.specs.declared.owner_kind.OwnerKind.TheVariants as ownership

abbrev pub open_since : Option NamedParticipant → Option OpenSince
open_since None = None
open_since (Some x) = Some (record { place = index_of x.place; since = x.since })

abbrev pub guarding : Option NamedGuard → Option OpenSince
guarding None = None
guarding (Some x) = Some (record { place = x.place; since = x.since })

-- the participant n is there, and g is the name of one of its open guards
abbrev pub AreOpen : List (Option OpenSince) → List (Option OpenSince) → (n g : ℕ) → Type 0
AreOpen places guards n g = IsSome (opening_at places n) × IsOf (place_in (opening_at places n)) (opening_at guards g)

-- the outermost opening of participant n was in this line
abbrev pub opened_since : List (Option OpenSince) → (n line : ℕ) → List (Option OpenSince)
opened_since places n line = slice_set places n (option_map (λ (x : OpenSince). record x { since = line }) (opening_at places n))

-- what fills a cell for such owners is none, or the name of one of them
abbrev pub FitsIn : List (Option OwnerOrCell) → OwnerKind → Option OwnerName → Type 0
FitsIn owners kind None = Unit {0}
FitsIn owners ownership.Sole (Some o) = IsSome (sole_slot (holding_at owners o.0))
FitsIn owners ownership.Shared (Some o) = IsSome (shared_slot (holding_at owners o.0))

-- the owner of this name, or none
abbrev pub named_owner : List (Option OwnerOrCell) → Option OwnerName → Option OwnerOrCell
named_owner owners None = None
named_owner owners (Some o) = holding_at owners o.0

-- this fills a cell for such owners: none, or the owner of this name, which is spent by it
pub record Fills (owners : List (Option OwnerOrCell)) (kind : OwnerKind) (x : Option OwnerName) (new : List (Option OwnerOrCell)) (f : CellOwner) : Type 0 where
  pub of_kind : filling_kind f ≡ kind
  pub holding : filling_holding f ≡ named_owner owners x
  pub left : new ≡ owners_put owners x

-- an owner, if there is one, is given the next name
abbrev pub IsGiven : List (Option OwnerOrCell) → Option OwnerOrCell → List (Option OwnerOrCell) → Option OwnerName → Type 0
IsGiven owners None new name = (new ≡ owners) × (name ≡ None)
IsGiven owners (Some h) new name = (new ≡ owners ++ Some h ∷ []) × (name ≡ Some (record { 0 = length owners }))

-- the reply that tells it
abbrev pub given_back : Option OwnerName → Reply
given_back None = reply.Nothing
given_back (Some o) = reply.Owner o

-- an owner, if there is one, whose name was spent, stands under it again
abbrev pub CanPutBack : List (Option OwnerOrCell) → Option OwnerName → Option OwnerOrCell → Type 0
CanPutBack owners None h = h ≡ None
CanPutBack owners (Some o) h = (o.0 < length owners) × (holding_at owners o.0 ≡ None) × IsSome h

abbrev pub owners_back : List (Option OwnerOrCell) → Option OwnerName → Option OwnerOrCell → List (Option OwnerOrCell)
owners_back owners None h = owners
owners_back owners (Some o) h = slice_set owners o.0 h

-- if the item in this slot waits now, it began to do so in this line
abbrev pub dated_if_waiting : World Val → Option ℕ → (line : ℕ) → List ℕ → List ℕ
dated_if_waiting w None line dates = dates
dated_if_waiting w (Some k) line dates = if is_waiting (standing_at w k) then slice_set dates k line else dates

-- the line in which the item of slot s began to wait, where these waited before
abbrev pub date_now : World Val → (waited : List Bool) → (line : ℕ) → List ℕ → ℕ → ℕ
date_now w waited line dates s =
    if is_waiting (standing_at w s) then (if slice_index_or waited s false then slice_index dates s else line) else slice_index dates s

-- the slot of the owner that a body is has an item with a name
abbrev pub IsOfNamed : List (Option ℕ) → Body → Type 0
IsOfNamed names (body.Number n) = Unit {0}
IsOfNamed names (body.Owned o) = IsSome (slice_index_or names (owned.slot_of o) None)
IsOfNamed names (body.Shared o) = IsSome (slice_index_or names (shared.slot_of o) None)
IsOfNamed names (body.Storage s) = Unit {0}

-- what a value takes of these owners is not there
abbrev pub IsMissing : List (Option AnyOwner) → Value → Type 0
IsMissing owners (Number n) = ⊥
IsMissing owners (Of o) = slice_index_or owners o.0 None ≡ None

-- it is this, and the name of an owner is spent by it
abbrev pub BecomesBody : List (Option AnyOwner) → Value → List (Option AnyOwner) → Body → Type 0
BecomesBody owners (Number n) new b = (b ≡ body.Number n) × (new ≡ owners)
BecomesBody owners (Of o) new b =
    (owner : AnyOwner) × (slice_index_or owners o.0 None ≡ Some owner) × (owner_in b ≡ owner_holding owner ∷ []) × (new ≡ slice_set owners o.0 None)

-- an item is there, and did not begin to wait before this line
pub record CanPointAt (w : World Val) (slots : List ℕ) (names : List (Option ℕ)) (dates : List ℕ) (i since : ℕ) : Type 0 where
  pub last : slice_index_or names (slice_index_or slots i 0) None ≡ Some i
  pub taken : IsSome (standing_at w (slice_index_or slots i 0))
  pub fresh : IsTrue (is_waiting (standing_at w (slice_index_or slots i 0))) → since ≤ slice_index dates (slice_index_or slots i 0)

-- an item that an exchange compares with is so; to null anybody can point
abbrev pub CanCompareAt : World Val → (slots : List ℕ) (names : List (Option ℕ)) (dates : List ℕ) → Option ItemName → (since : ℕ) → Type 0
CanCompareAt w slots names dates None since = Unit {0}
CanCompareAt w slots names dates (Some i) since = CanPointAt w slots names dates i.0 since
