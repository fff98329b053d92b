-- What a list makes of two cells that moves from one to the other, which was free
use Rattle.std.proofs.Common.{◌≡◌, ℕ, ◌<◌, List, [], length, Some, None, refl, sym, ap, ◌∙◌, arith}
use Rattle.std.proofs.lemmas.List.{get_or-set_same, get_or-set_other, length-set}
use Rattle.sdd_core.specs.declared.tag.Tag.TheVariants as tag
use Rattle.sdd_world_model.specs.World.{World}
use Rattle.sdd_participants.specs.declared.standing.CellContents.{CellContents}
use Rattle.sdd_participants.specs.Slab.{Entries, IsEmptyAt}
use Rattle.sdd_world_model.specs.WorldChanges.{nulled, with_cell}
use Rattle.sdd_lists.specs.Lists.{Entry, first_slot, IsList}
use Rattle.sdd_lists.proofs.FreshLinks.{fresh-apart, fresh-far}
use Rattle.sdd_lists.proofs.Lists.{apart, inside, linked-set, thrice}

module _ {T : Type 0} (link : T → ℕ) (w : World T) (c l : ℕ) (es : List (Entry T)) (list : IsList link w c tag.None es) (free : IsEmptyAt w.cells l) where
  abbrev nothing : CellContents
  nothing = record { held = None; tag = tag.None }

  abbrev first : CellContents
  first = record { held = first_slot es; tag = tag.None }

  here : c < length w.cells
  here = inside w.cells c first list.begins

  pub drained : IsList link (with_cell (nulled w c) l (record { held = first_slot es; tag = tag.None })) c tag.None []
  drained = record {
    begins =
        get_or-set_other (nulled w c).cells l c (Some first) None (fresh-far link w l free c tag.None es list)
        ∙ get_or-set_same w.cells c (Some nothing) None here;
    linked = tt;
  }

  pub filled : IsList link (with_cell (nulled w c) l (record { held = first_slot es; tag = tag.None })) l tag.None es
  filled =
      let u : World T = nulled w c in
      let from_cell = apart link w c first es es list.begins refl list.linked list.linked (omega arith) in
      let in_u = linked-set link w u c (Some nothing) es refl refl from_cell list.linked in
      record {
        begins = get_or-set_same u.cells l (Some first) None (omega (arith, free.0, length-set w.cells c (Some nothing)));
        linked = linked-set link u (with_cell u l first) l (Some first) es refl refl (fresh-apart link w l free es list.linked) in_u;
      }

  -- the cell that was free is set before the other and after it
  pub poured-is : with_cell (with_cell (nulled w l) c nothing) l first ≡ with_cell (nulled w c) l first
  poured-is =
      ap (λ (cs : Entries CellContents). record w { cells = cs })
      (thrice link w.cells l c nothing nothing first (λ same. fresh-far link w l free c tag.None es list (sym same)))
