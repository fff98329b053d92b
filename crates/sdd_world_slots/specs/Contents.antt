-- What cells hold, by their tags and the rights that they keep
use Rattle.std.specs.Prelude.{List, [], ◌∷◌, Option, None, Some}
use Rattle.sdd_core.specs.declared.tag.Tag.{Tag}
use Rattle.sdd_rights.specs.declared.right.Right.{Right}
use Rattle.sdd_participants.specs.Slab.{Entries}
use Rattle.sdd_participants.specs.declared.standing.CellContents.{CellContents}
use Rattle.sdd_world_model.specs.Cells.{cell_with}

-- a cell that has a tag is taken, and holds the owner whose right it keeps
abbrev pub contents_with : Option Tag → Option Right → Option CellContents
contents_with None right = None
contents_with (Some t) right = Some (cell_with right t)

-- the same for each; where no right is listed none is kept
abbrev pub contents_of : Entries Tag → List (Option Right) → Entries CellContents
contents_of [] rights = []
contents_of (t ∷ tags) [] = contents_with t None ∷ contents_of tags []
contents_of (t ∷ tags) (right ∷ rights) = contents_with t right ∷ contents_of tags rights
