-- One owner more of what a cell holds
use Rattle.std.proofs.Common.{◌≡◌, ℕ, ◌+◌, ◌<◌, ◌^◌, Option, Some, None, sym, ◌∙◌, ap, refl, subst}
use Rattle.std.specs.Prelude.{MatchOption, option_map}
use Rattle.sdd_rights.specs.declared.right.Right.{Right}
use Rattle.sdd_participants.specs.declared.standing.Standing.TheVariants.{Shared as shared_by}
use Rattle.sdd_world_model.specs.Cells.{slot_held}
use Rattle.sdd_world_model.specs.Slots.{IsSharedBy}
use Rattle.sdd_world_model.specs.World.{World, standing_at}
use Rattle.sdd_world_model.specs.WorldChanges.{with_standing}
use Rattle.sdd_space.specs.Shared.{Shared, right_of, slot_of}

module _ {T : Type 0} (w new : World T) where
  -- it came, by its right
  abbrev Comes : Option Right → Type 0
  Comes held = MatchOption (slot_held held) (new ≡ w)
      (λ slot. (owners : ℕ) × IsSharedBy owners (standing_at w slot) × (owners < 2 ^ 62) × (new ≡ with_standing w slot (shared_by (owners + 1))))

  -- and by the owner that has the right
  abbrev Shares : Option (Shared T) → Option ℕ → Type 0
  Shares o held = (option_map slot_of o ≡ held) × MatchOption o (new ≡ w)
      (λ owner. (owners : ℕ) × IsSharedBy owners (standing_at w (slot_of owner)) × (owners < 2 ^ 62) ×
      (new ≡ with_standing w (slot_of owner) (shared_by (owners + 1))))

  of_right : (o : Option (Shared T)) (held : Option ℕ) → slot_held (option_map right_of o) ≡ held → Comes (option_map right_of o) → Shares o held
  of_right None held same came = (same, came)
  of_right (Some owner) held same came = (same, came)

  pub shares : (o : Option (Shared T)) (right : Option Right) (held : Option ℕ) → option_map right_of o ≡ right → slot_held right ≡ held → Comes right
      → Shares o held
  shares o right held is same came = of_right o held (ap slot_held is ∙ same) (subst (λ (r : Option Right). Comes r) (sym is) came)
