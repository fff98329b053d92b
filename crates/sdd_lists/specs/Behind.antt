-- What comes behind an entry, and what is reached from it
use Rattle.std.specs.Prelude.{ℕ, ◌+◌, ◌^◌, ◌≡◌, ◌≢◌, ◌<◌, ◌==◌, Bool, true, false, List, [], ◌∷◌, Option, None, Some, Result, Ok, Err, if◌then◌else◌}
use Rattle.sdd_core.specs.declared.tag.Tag.{Tag}
use Rattle.sdd_core.specs.declared.tag.Tag.TheVariants as tag
use Rattle.sdd_core.specs.declared.refused.Refused.{Refused}
use Rattle.sdd_participants.specs.Slab.{entry_at}
use Rattle.sdd_participants.specs.declared.standing.Standing.TheVariants.{Shared as shared_by}
use Rattle.sdd_world_model.specs.World.{World, standing_at, value_at}
use Rattle.sdd_space.specs.Shared.{slot_of}
use Rattle.sdd_world_model.specs.WorldChanges.{with_standing}
use Rattle.sdd_space.specs.Shared.{Shared}
use Rattle.sdd_world_model.specs.Slots.{IsSharedBy}
use Rattle.sdd_lists.specs.Ends.{EndsWith}
use Rattle.sdd_lists.specs.Lists.{Apart, Entry, IsCrowded, IsDrained, IsList, first_slot, left, linked_in, trimmed}
use Rattle.sdd_lists.specs.Queue.{IsQueue, QueueCells}

-- the tag of the link of an entry that is marked, or has no mark
abbrev pub mark_tag : Bool → Tag
mark_tag true = tag.First
mark_tag false = tag.None

module _ {T : Type 0} where
  -- these entries, but from the one in slot k on others
  abbrev pub spliced : ℕ → List (Entry T) → List (Entry T) → List (Entry T)
  spliced k others [] = []
  spliced k others (e ∷ es) = if e.slot == k then others else e ∷ spliced k others es

  -- an entry that is neither marked nor deleted
  abbrev pub entry_made : ℕ → T → Entry T
  entry_made k v = record { slot = k; value = v; tag = tag.None }

module _ {T : Type 0} (link : T → ℕ) where
  -- slot k has this value, whose link is clear, and is neither cell c nor the link of one of these
  pub record IsFresh (w : World T) (k : ℕ) (v : T) (c : ℕ) (es : List (Entry T)) : Type 0 where
    pub there : value_at w k ≡ Some v
    pub clear : entry_at w.cells (link v) ≡ Some (record { held = None; tag = tag.None })
    pub far : c ≢ link v
    pub apart : Apart link (link v) es

  -- the value in slot k came between cell c, which has this tag then, and these entries
  pub record IsLinkedBehind (w : World T) (c : ℕ) (t : Tag) (es : List (Entry T)) (k : ℕ) (v : T) (new : World T) : Type 0 where
    pub world : new ≡ linked_in w c t (link v) k (first_slot es)
    pub list : IsList link new c t (entry_made k v ∷ es)
    -- so it came into each list that has the entry e, whose link that cell is
    pub around : (d : ℕ) (u : Tag) (xs : List (Entry T)) (e : Entry T) → IsList link w d u xs → EndsWith xs e es → link e.value ≡ c → t ≢ tag.Both →
        IsFresh w k v d xs → IsList link new d u (spliced e.slot (record e { tag = t } ∷ entry_made k v ∷ es) xs)
    pub queue : (q : QueueCells) (xs : List (Entry T)) (second : Option ℕ) (e : Entry T) → IsQueue link w q xs second → EndsWith xs e es →
        link e.value ≡ c → t ≢ tag.Both → IsFresh w k v q.oldest xs → q.newest ≢ link v →
        IsQueue link new q (spliced e.slot (record e { tag = t } ∷ entry_made k v ∷ es) xs) second

  -- p let go of the deleted entries before e, and has one owner more of that
  pub record IsReached (w : World T) (p c : ℕ) (t : Tag) (es : List (Entry T)) (e : Entry T) (rest : List (Entry T)) (owner : Shared T)
      (new : World T) : Type 0 where
    pub slot : slot_of owner ≡ e.slot
    pub owners : ℕ
    pub shared : IsSharedBy owners (standing_at w e.slot)
    pub few : owners < 2 ^ 62
    pub world : new ≡ trimmed link (with_standing w e.slot (shared_by (owners + 1))) p c t es
    pub list : IsList link new c t (e ∷ rest)

  -- what a call answers that looks for the first entry that isn't deleted, and what is there then
  abbrev pub Reaches : World T → (p c : ℕ) → Tag → List (Entry T) → Result (Option (Shared T)) Refused → World T → Type 0
  Reaches w p c t es (Ok None) new = IsDrained link w p c t es new
  Reaches w p c t es (Ok (Some owner)) new =
      (e : Entry T) × (rest : List (Entry T)) × (left es ≡ e ∷ rest) × IsReached w p c t es e rest owner new
  Reaches w p c t es (Err why) new = (e : Entry T) × (rest : List (Entry T)) × (left es ≡ e ∷ rest) × IsCrowded w e why new
