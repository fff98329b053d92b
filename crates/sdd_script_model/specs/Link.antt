-- The link of an item's entry, and how its tag changes
use Rattle.std.specs.Prelude.{ℕ, ◌≡◌, Bool, List, Some, if◌then◌else◌}
use Rattle.sdd_core.specs.declared.tag.Tag.{Tag}
use Rattle.sdd_core.specs.declared.tag.Tag.TheVariants.{None as no_tag, First, Second}
use Rattle.sdd_participants.specs.declared.standing.CellContents.{CellContents}
use Rattle.sdd_participants.specs.Slab.{entry_at}
use Rattle.sdd_world_model.specs.World.{World, value_at}
use Rattle.sdd_world_model.specs.WorldChanges.{with_cell}
use Rattle.sdd_lists.specs.Lists.{Entry, IsList, may_delete}
use Rattle.sdd_lists.specs.Marks.{says_clear, says_marked}
use Rattle.sdd_script_model.specs.declared.link_change.LinkChange.{LinkChange}
use Rattle.sdd_script_model.specs.declared.link_change.LinkChange.TheVariants.{Mark, Unmark, Delete}
use Rattle.sdd_script_model.specs.Val.{Val, link_of}
use Rattle.sdd_script_model.specs.ScriptState.{ScriptState, Leaves, in_world, slot_at}

-- the link of item i is cell k, which holds this
pub record IsLink (d : ScriptState) (i k : ℕ) (cell : CellContents) : Type 0 where
  pub entry : Val
  pub there : value_at d.world (slot_at d i) ≡ Some entry
  pub link : link_of entry ≡ k
  pub holds : entry_at d.world.cells k ≡ Some cell

-- the link of item i is cell k, which has this tag, and behind the item come these entries
pub record IsBehind (d : ScriptState) (i k : ℕ) (t : Tag) (es : List (Entry Val)) : Type 0 where
  pub entry : Val
  pub there : value_at d.world (slot_at d i) ≡ Some entry
  pub link : link_of entry ≡ k
  pub list : IsList link_of d.world k t es

-- a link with this tag changes it: a clear one is marked, a marked one is clear again, either is deleted
abbrev pub may_change : LinkChange → Tag → Bool
may_change Mark tag = says_clear tag
may_change Unmark tag = says_marked tag
may_change Delete tag = may_delete tag

abbrev pub tag_after : LinkChange → Tag
tag_after Mark = First
tag_after Unmark = no_tag
tag_after Delete = Second

-- cell k, which holds this, changes its tag so, or doesn't
abbrev pub retagged : World Val → (k : ℕ) → CellContents → LinkChange → Bool → World Val
retagged w k cell change b = if b then with_cell w k (record cell { tag = tag_after change }) else w

-- it is told whether the link of item i changes its tag so
abbrev pub Retags : ScriptState → ℕ → LinkChange → Bool → ScriptState → Type 0
Retags d i change b new =
    (k : ℕ) × (cell : CellContents) × IsLink d i k cell × (b ≡ may_change change cell.tag) × Leaves (in_world d (retagged d.world k cell change b)) new
