-- What a cell holds is taken out and put back
use Rattle.sdd_interpreter.proofs.Words.{◌≡◌, ℕ, Some, None, slice_set, ap, ◌∙◌, entry_at, CellContents, nulled, World, Entries, set-get_or, set-set, with_cell}
use Rattle.sdd_core.specs.declared.tag.Tag.TheVariants.{None as no_tag}

module _ {T : Type 0} (old mid : World T) (k : ℕ) (was : CellContents) (there : entry_at old.cells k ≡ Some was) (out : mid ≡ nulled old k) where
  -- then all is as before
  pub as-before : (new : World T) → new ≡ with_cell mid k was → new ≡ old
  as-before new back =
      let cells : slice_set (slice_set old.cells k (Some (record { held = None; tag = no_tag }))) k (Some was) ≡ old.cells =
      set-set old.cells k _ (Some was) ∙ (rw there at (set-get_or old.cells k None)) in
      back ∙ ap (λ (w : World T). with_cell w k was) out ∙ ap (λ (cells : Entries CellContents). record old { cells = cells }) cells
