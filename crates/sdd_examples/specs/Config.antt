-- What a configuration is set to, and what its replacement makes of a world
use Rattle.std.specs.Prelude.{ℕ, ◌≡◌, Option, Some, None, MatchOption}
use Rattle.sdd_core.specs.declared.tag.Tag.TheVariants.{None as no_tag}
use Rattle.sdd_rights.specs.Units.{GhostName}
use Rattle.sdd_participants.specs.Slab.{entry_at}
use Rattle.sdd_participants.specs.declared.standing.CellContents.{CellContents}
use Rattle.sdd_participants.specs.declared.standing.Standing.TheVariants.{Shared}
use Rattle.sdd_world_model.specs.World.{World, standing_at, value_at}
use Rattle.sdd_world_model.specs.WorldChanges.{made_shared, owner_given, spilled, with_cell}
use Rattle.sdd_space.specs.Shared as shared
use Rattle.sdd_examples.specs.declared.config.Config.{Config}

module _ {T : Type 0} where
  -- the cell of a configuration, and where cells are numbered
  abbrev pub cell_of : Config T → ℕ
  cell_of c = shared.cell_of c.cell

  abbrev pub cells_home : Config T → GhostName
  cells_home c = shared.cells_home c.cell

  -- what a look at the cell finds: what the slot shows whose owner it holds, and nothing where it holds none
  abbrev pub IsFound : World T → ℕ → Option T → Type 0
  IsFound w cell found =
      (held : CellContents) × (entry_at w.cells cell ≡ Some held) × MatchOption held.held (found ≡ None) (λ slot. found ≡ value_at w slot)

  -- the cell holds one of so many owners of the item in a slot, which shows this value
  pub record IsSetTo (w : World T) (cell slot owners : ℕ) (value : T) : Type 0 where
    pub held : entry_at w.cells cell ≡ Some (record { held = Some slot; tag = no_tag })
    pub owned : standing_at w slot ≡ Some (Shared owners)
    pub shown : value_at w slot ≡ Some value

  -- the value is in a slot that was free, the cell holds its owner, and p is given the owner that the cell held
  abbrev pub replaced : World T → (p cell slot owners next : ℕ) → T → World T
  replaced w p cell slot owners next value =
      owner_given (with_cell (made_shared w next value) cell (record { held = Some next; tag = no_tag })) p slot (Some (Shared owners))

  -- the value is in a slot that was free, the cell holds its owner with the tag that it had, and p is given what the cell held before
  abbrev pub exchanged : World T → (p cell : ℕ) → CellContents → (next : ℕ) → T → World T
  exchanged w p cell before next value = spilled (with_cell (made_shared w next value) cell (record before { held = Some next })) p before.held

  -- the value was in a slot that was free, and p is given its only owner at once
  abbrev pub given_up : World T → (p next : ℕ) → T → World T
  given_up w p next value = spilled (made_shared w next value) p (Some next)
