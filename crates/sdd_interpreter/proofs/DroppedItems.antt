-- A shared owner's item that is dropped in its place, or its owner that goes
use Rattle.sdd_interpreter.proofs.Words.{◌≡◌, ℕ, ◌<◌, Some, Bool, true, false, ap, ◌∙◌, IsSharedBy, World, standing_at, with_standing, Val, holdings_of, AnyGuardOpen, Drops, MatchBool, dropped, ◌-◌}
use Rattle.sdd_participants.specs.declared.standing.Standing.TheVariants.{Shared}
use Rattle.sdd_world_model.specs.OwnerOrCell as holding
use Rattle.sdd_rights.specs.Units as units
use Rattle.sdd_script_text.specs.declared.answer.Reply.TheVariants as reply

pub drops-shared : (w new : World Val) (p k owners : ℕ) (home : units.GhostName) (last : Bool) → IsSharedBy owners (standing_at w k)
    → MatchBool last ((owners ≡ 1) × ¬ (AnyGuardOpen w) × (new ≡ dropped holdings_of w p k)) ((1 < owners) × (new ≡ with_standing w k (Shared (owners - 1))))
    → Drops w p (holding.shared k home) (reply.Truth last) new
drops-shared w new p k owners home true is went = (is.shared ∙ ap (λ (n : ℕ). Some (Shared n)) went.0, went.1, went.2)
drops-shared w new p k owners home false is went = (owners, is, went.0, went.1)
