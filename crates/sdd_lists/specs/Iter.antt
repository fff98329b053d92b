-- Where an iterator over a queue or a stack is, and what it gives
use Rattle.std.specs.Prelude.{ℕ, ◌≡◌, ◌≤◌, List, Option, IfSome, drop, length, option_copied, slice_get}
use Rattle.std.specs.Borrow.{Bor}
use Rattle.sdd_rights.specs.Right.{home_of}
use Rattle.sdd_rights.specs.Units as units
use Rattle.sdd_world_model.specs.Cells.{slot_held}
use Rattle.sdd_space.specs.CallerId.{CallerId, IsExact}
use Rattle.sdd_world_model.specs.World.{World}
use Rattle.sdd_lists.specs.declared.iter.Iter.{Iter}
use Rattle.sdd_lists.specs.declared.linked_entry.LinkedEntry.{LinkedEntry}
use Rattle.sdd_lists.specs.Entries.{link_of}
use Rattle.sdd_lists.specs.Lists.{AreLinked, Entry, first_slot}
use Rattle.sdd_lists.specs.Walk.{shown_of}

module _ {T S : Type 0} where
  -- the space that it looks at
  abbrev pub space_of : Iter T S → S
  space_of it = it.space.now

  -- how many values it gives at most
  abbrev pub values_left : Iter T S → ℕ
  values_left it = it.most

  -- the entry that is next, if there is one, is in one of these slots
  abbrev pub IsIterOf : units.GhostName → Iter T S → Type 0
  IsIterOf home it = IfSome it.next.now (λ owner. home_of owner ≡ home)

  -- it is before these entries, of which some may be deleted
  pub record IsBefore (w : World (LinkedEntry T)) (it : Iter T S) (es : List (Entry (LinkedEntry T))) : Type 0 where
    pub linked : AreLinked link_of w es
    pub next : slot_held it.next.now ≡ first_slot es
    pub few : length es ≤ it.most
    pub within : length es ≤ it.reach

  -- it gives these values, in order
  pub record GivesInOrder (w : World (LinkedEntry T)) (it : Iter T S) (vs : List T) : Type 0 where
    pub entries : List (Entry (LinkedEntry T))
    pub before : IsBefore w it entries
    pub values : vs ≡ shown_of entries

  module _ (caller : S → CallerId) (world : S → World (LinkedEntry T)) where
    -- it looks at the same space, in which it gives what is first, and then what is behind that; at the end it stays, and may be asked again
    pub record GoesInOrder (it : Iter T S) (given : Option (Bor T)) (after : Iter T S) : Type 0 where
      pub space : after.space ≡ it.space
      pub home : IsIterOf (caller it.space.now).home.slots it → IsIterOf (caller after.space.now).home.slots after
      pub gives : IsExact (caller it.space.now) → (vs : List T) → GivesInOrder (world it.space.now) it vs →
          (option_copied given ≡ slice_get vs 0) × GivesInOrder (world it.space.now) after (drop 1 vs)
