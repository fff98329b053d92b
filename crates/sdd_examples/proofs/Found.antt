-- What a pointer shows that was loaded from a cell is what a look at the cell finds
use Rattle.std.proofs.Common.{◌≡◌, ℕ, sym, ◌∙◌, refl, Option, Some, None}
use Rattle.std.specs.Prelude.{MatchOption}
use Rattle.sdd_participants.specs.Slab.{entry_at}
use Rattle.sdd_space.specs.declared.ptr.Ptr.{Ptr}
use Rattle.sdd_space.specs.Ptr.{PtrIsShown, cell_seen, shown_by, slot_named}
use Rattle.sdd_world_model.specs.World.{World, value_at}
use Rattle.sdd_examples.specs.Config.{IsFound}

module _ {T : Type 0} (w : World T) (shows : ℕ → T → Type 0) (p : Ptr T) (is : PtrIsShown shows p)
    (values : (k : ℕ) (value : T) → shows k value → value_at w k ≡ Some value) where
  shown_at : (o : Option ℕ) → slot_named p ≡ o → MatchOption o (shown_by p ≡ None) (λ slot. shown_by p ≡ value_at w slot)
  shown_at None e = is.null e
  shown_at (Some k) e = let at = is.full k e in at.1 ∙ sym (values k at.0 at.2)

  pub found_by : (cell : ℕ) → entry_at w.cells cell ≡ Some (cell_seen p) → IsFound w cell (shown_by p)
  found_by cell held = (cell_seen p, held, shown_at (slot_named p) refl)
