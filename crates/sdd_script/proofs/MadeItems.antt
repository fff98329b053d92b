-- How an item of a script is made: what goes into it, and its owner
use Rattle.sdd_script.proofs.Words.{get_or-map, IsThereToPut, state_of, ◌≡◌, ℕ, List, [], ◌∷◌, ◌++◌, Option, None, Some, length, map, option_map, Share, Val, owner_holding, IsWhole, Value, Of, Body, owner_in, OwnerKind, AnyOwner, Environment, slot_of, IsTied, BecomesBody, holding_first, AreOf, IsMissing, arith, common_steps}
use Rattle.sdd_space.specs.Shared.{Shared}
use Rattle.sdd_rights.specs.Units.{GhostName}
use Rattle.sdd_world_model.specs.OwnerOrCell as holding
use Rattle.sdd_space.specs.Shared as shared
use Rattle.sdd_interpreter.proofs.EnvironmentAnswers.{owner-home}
use Rattle.sdd_script_text.specs.declared.call.Value.TheVariants.{Number}

-- the slot of the first owner of an item
pub first-slot : (own : OwnerKind) (k : ℕ) (home : GhostName) (s : ℕ) → slot_of (Some (holding_first own k home)) ≡ Some s → k ≡ s
first-slot own k home s h = grind (arith, common_steps)

-- what goes in spends one name at most
pub becomes-long : (owners new : List (Option AnyOwner)) (value : Value) (b : Body) → BecomesBody owners value new b → length new ≡ length owners
becomes-long owners new value b h = grind (arith, common_steps)

-- what goes in is of the world's home
pub body-home : (h : Environment) → IsTied h → IsWhole h.world → (value : Value) (new : List (Option AnyOwner)) (b : Body) →
    BecomesBody h.owners.entries.items value new b → AreOf h.world.home (owner_in b)
body-home h t whole (Number n) new b becomes = rw becomes.0 tt
body-home h t whole (Of o) new b becomes = rw becomes.2 (owner-home h t o.0 becomes.0 becomes.1, tt)

-- what a value takes is there, where it is not missing
pub there-to-put : (h : Environment) (value : Value) → ¬ (IsMissing h.owners.entries.items value) → IsThereToPut (state_of h) value
there-to-put h (Number n) there = tt
there-to-put h (Of o) there = (let entry = get_or-map (option_map owner_holding) h.owners.entries.items o.0 None in grind (arith, there))

-- one owner more has the next name
pub shared-more : (xs ys : List (Option AnyOwner)) (x : Shared Val) (k : ℕ) (home : GhostName) → ys ≡ xs ++ Some (Share x) ∷ [] → shared.slot_of x ≡ k →
    shared.slots_home x ≡ home → map (option_map owner_holding) ys ≡ map (option_map owner_holding) xs ++ Some (holding.shared k home) ∷ []
shared-more xs ys x k home pushed slot at = grind (arith, common_steps)
