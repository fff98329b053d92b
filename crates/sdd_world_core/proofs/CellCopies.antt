-- A cell that is copied
use Rattle.std.proofs.Common.{◌≡◌, ℕ, ◌+◌, ◌^◌, ◌<◌, Option, Some, None, ap, sym, ◌∙◌, subst}
use Rattle.std.specs.Prelude.{MatchOption}
use Rattle.sdd_participants.specs.Slab.{IsEmptyAt}
use Rattle.sdd_participants.specs.declared.standing.CellContents.{CellContents}
use Rattle.sdd_participants.specs.declared.standing.Standing.TheVariants.{Shared}
use Rattle.sdd_world_model.specs.Slots.{IsSharedBy}
use Rattle.sdd_world_model.specs.WorldChanges.{with_cell, with_standing}
use Rattle.sdd_world_model.specs.World.{standing_at}
use Rattle.sdd_world_core.specs.WorldCore.{WorldCore}

module _ {T J : Type 0} (v m n : WorldCore T J) (k : ℕ) (old : CellContents) (new : n ≡ record m { world = with_cell m.world k old })
    (free : IsEmptyAt m.world.cells k) where
  -- there is one owner more of what was held, if anything was
  abbrev Shares : Option ℕ → Type 0
  Shares held = MatchOption held (m ≡ v)
      (λ slot. (owners : ℕ) × IsSharedBy owners (standing_at v.world slot) × (owners < 2 ^ 62) ×
      (m ≡ record v { world = with_standing v.world slot (Shared (owners + 1)) }))

  -- and another cell holds it too
  abbrev Holds : Option ℕ → Type 0
  Holds held = MatchOption held (n ≡ record v { world = with_cell v.world k old })
      (λ slot. (owners : ℕ) × IsSharedBy owners (standing_at v.world slot) × (owners < 2 ^ 62) ×
      (n ≡ record v { world = with_cell (with_standing v.world slot (Shared (owners + 1))) k old }))

  holds : (held : Option ℕ) → Shares held → IsEmptyAt v.world.cells k × Holds held
  holds None same = (
    subst (λ (x : WorldCore T J). IsEmptyAt x.world.cells k) same free,
    new ∙ ap (λ (x : WorldCore T J). record x { world = with_cell x.world k old }) same,
  )
  holds (Some slot) (owners, shared, few, more) = (
    subst (λ (x : WorldCore T J). IsEmptyAt x.world.cells k) more free,
    (owners, shared, few, new ∙ ap (λ (x : WorldCore T J). record x { world = with_cell x.world k old }) more),
  )

  pub copied : (held : Option ℕ) → old.held ≡ held → Shares held → IsEmptyAt v.world.cells k × Holds old.held
  copied held is shares =
      let after = holds held shares in
      (after.0, subst Holds (sym is) after.1)
