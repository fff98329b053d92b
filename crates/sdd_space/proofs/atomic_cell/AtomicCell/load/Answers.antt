use Rattle.std.proofs.Common.{ℕ, ◌≡◌, Option, None, Some, ap, refl, sym, subst}
use Rattle.std.specs.Prelude.{IfSome}
use Rattle.sdd_participants.specs.declared.standing.Standing.{Standing}
use Rattle.sdd_rights.specs.declared.right.StandingKind.{StandingKind}
use Rattle.sdd_rights.specs.declared.right.StandingKind.TheVariants as kind
use Rattle.sdd_space.specs.Owner.{StandsAs}
use Rattle.sdd_space.specs.Ptr.{slot_named}
use Rattle.sdd_world_model.specs.Slots.{IsOwnedBy}
use Rattle.sdd_space.proofs.atomic_cell.AtomicCell.load.Goals as goal

stands : (k : StandingKind) (s : Option Standing) → IsOwnedBy k s → StandsAs k s
stands kind.Free s is = tt
stands kind.Owned s is = is.alone refl
stands kind.Raw s is = tt
stands kind.Shared s is = is.together refl
stands kind.Retired s is = tt

named : (k k' : StandingKind) → k ≡ k' → (standing_of : ℕ → Option Standing) (slot : Option ℕ) → IfSome slot (λ n. IsOwnedBy k (standing_of n))
    → IfSome slot (λ n. StandsAs k' (standing_of n))
named k k' same standing_of None is = tt
named k k' same standing_of (Some n) is = stands k' (standing_of n) (subst (λ (x : StandingKind). IsOwnedBy x (standing_of n)) same is)

pub returns-clause-owned : goal.returns-clause-owned
returns-clause-owned g c = λ exact.
    named _ _ c.right.ensures.kind _ (slot_named c.load.result) (c.load.ensures.owned exact)
