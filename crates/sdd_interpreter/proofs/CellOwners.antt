-- What comes out of a cell, as it is held, and its slot
use Rattle.sdd_interpreter.proofs.Words.{◌≡◌, Option, Some, None, refl, ap, option_map, slot_of, Val, held_as}
use Rattle.sdd_space.specs.Shared.{Shared}
use Rattle.sdd_space.specs.Owned.{Owned}
use Rattle.sdd_rights.specs.Units as units
use Rattle.sdd_world_model.specs.OwnerOrCell as holding
use Rattle.sdd_space.specs.Owned as owned
use Rattle.sdd_space.specs.Shared as shared
use Rattle.sdd_script_model.specs.declared.owner_kind.OwnerKind.TheVariants as ownership

pub sole-out : (home : units.GhostName) (o : Option (Owned Val)) → owned.IsOfSlots home o →
    option_map owned.holding_of o ≡ held_as ownership.Sole (option_map owned.slot_of o) home
sole-out home None of = refl
sole-out home (Some x) of = ap (λ z. Some (holding.owned (owned.slot_of x) z)) of

pub share-out : (home : units.GhostName) (o : Option (Shared Val)) → shared.IsOfSlots home o →
    option_map shared.holding_of o ≡ held_as ownership.Shared (option_map shared.slot_of o) home
share-out home None of = refl
share-out home (Some x) of = ap (λ z. Some (holding.shared (shared.slot_of x) z)) of

pub sole-slot : (o : Option (Owned Val)) → option_map owned.slot_of o ≡ slot_of (option_map owned.holding_of o)
sole-slot None = refl
sole-slot (Some x) = refl

pub share-slot : (o : Option (Shared Val)) → option_map shared.slot_of o ≡ slot_of (option_map shared.holding_of o)
share-slot None = refl
share-slot (Some x) = refl
