-- What a call leaves alone that changes no cell and no value beside a queue or stack
use Rattle.std.proofs.Common.{◌≡◌, ◌≢◌, ℕ, List, [], ◌∷◌, Some, None, sym, ap, ◌∙◌}
use Rattle.sdd_core.specs.declared.tag.Tag.{Tag}
use Rattle.sdd_participants.specs.Slab.{entry_at}
use Rattle.sdd_participants.specs.declared.standing.CellContents.{CellContents}
use Rattle.sdd_world_model.specs.World.{World, value_at}
use Rattle.sdd_lists.specs.declared.linked_entry.LinkedEntry.{LinkedEntry}
use Rattle.sdd_lists.specs.declared.walk.Walk.{Walk}
use Rattle.sdd_lists.specs.Cloning.{AreBeside, IsBeside}
use Rattle.sdd_lists.specs.Entries.{link_of}
use Rattle.sdd_lists.specs.Lists.{AreLinked, Entry, IsList, first_slot}
use Rattle.sdd_lists.specs.Queue.{QueueCells}
use Rattle.sdd_lists.specs.Walk.{StandsBefore}

module _ {T : Type 0} (w new : World (LinkedEntry T)) (l : ℕ) (q : QueueCells) (fs gs : List (Entry (LinkedEntry T)))
    (other : (d : ℕ) → IsBeside d q fs → d ≢ l → entry_at new.cells d ≡ entry_at w.cells d)
    (kept : (j : ℕ) (v : LinkedEntry T) → value_at w j ≡ Some v → value_at new j ≡ Some v) (free : entry_at w.cells l ≡ None)
    (grown : (d : ℕ) → IsBeside d q fs → d ≢ l → IsBeside d q gs) where
  taken-far : (d : ℕ) (cell : CellContents) → entry_at w.cells d ≡ Some cell → d ≢ l
  taken-far d cell there = λ same.
      let never : Some cell ≡ None = sym there ∙ ap (λ (k : ℕ). entry_at w.cells k) same ∙ free in absurd (cc)

  pub cell-still : (d : ℕ) (cell : CellContents) → entry_at w.cells d ≡ Some cell → IsBeside d q fs → entry_at new.cells d ≡ Some cell
  cell-still d cell there beside = other d beside (taken-far d cell there) ∙ there

  pub beside-still : (d : ℕ) (cell : CellContents) → entry_at w.cells d ≡ Some cell → IsBeside d q fs → IsBeside d q gs
  beside-still d cell there beside = grown d beside (taken-far d cell there)

  pub linked-still : (es : List (Entry (LinkedEntry T))) → AreLinked link_of w es → AreBeside es q fs → AreLinked link_of new es
  linked-still [] linked beside = tt
  linked-still (e ∷ es) linked beside =
      let cell : CellContents = record { held = first_slot es; tag = e.tag } in (
        record {
          there = kept e.slot e.value linked.0.there;
          linked = cell-still (link_of e.value) cell linked.0.linked beside.0;
          plain = linked.0.plain;
        },
        linked-still es linked.1 beside.1,
      )

  pub links-still : (es : List (Entry (LinkedEntry T))) → AreLinked link_of w es → AreBeside es q fs → AreBeside es q gs
  links-still [] linked beside = tt
  links-still (e ∷ es) linked beside =
      let cell : CellContents = record { held = first_slot es; tag = e.tag } in
      (beside-still (link_of e.value) cell linked.0.linked beside.0, links-still es linked.1 beside.1)

  pub list-still : (c : ℕ) (t : Tag) (es : List (Entry (LinkedEntry T))) → IsList link_of w c t es → IsBeside c q fs → AreBeside es q fs →
      IsList link_of new c t es
  list-still c t es list begins links =
      let first : CellContents = record { held = first_slot es; tag = t } in
      record { begins = cell-still c first list.begins begins; linked = linked-still es list.linked links }

  pub standing-still : (walk : Walk T) (es : List (Entry (LinkedEntry T))) → StandsBefore w walk es → AreBeside es q fs →
      StandsBefore new walk es × AreBeside es q gs
  standing-still walk es stood beside = (
    record { linked = linked-still es stood.linked beside; front = stood.front; next = stood.next; few = stood.few },
    links-still es stood.linked beside,
  )
