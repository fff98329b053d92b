use Rattle.std.proofs.Common.{inl, inr, ℕ, refl}
use Rattle.sdd_rights.specs.Right.{number_of}
use Rattle.sdd_rights.specs.declared.right.StandingKind.{StandingKind}
use Rattle.sdd_rights.specs.declared.right.StandingKind.TheVariants as kind
use Rattle.sdd_world_model.specs.Slots.{first_standing}
use Rattle.sdd_world_model.specs.WorldStep.{IsFirst}
use Rattle.sdd_world_model.specs.WorldStep.WorldStep.{makes}
use Rattle.sdd_world_model.proofs.PlacesMatchStates.{Whole-made_as, items}
use Rattle.sdd_world_model.proofs.WorldInvariant.{made-keeps}
use Rattle.sdd_world_core.proofs.Lending.{lent-call, readers-as}
use Rattle.sdd_world_core.proofs.world_core.WorldCore.new_item.Goals as goal

first : (k : StandingKind) → IsFirst (first_standing k)
first kind.Free = inl refl
first kind.Owned = inl refl
first kind.Raw = inl refl
first kind.Shared = inr refl
first kind.Retired = inl refl

pub returns-clause-whole : goal.returns-clause-whole
returns-clause-whole g c =
    let kind = c.args.kind in
    rw (← c.self.view_is, c.in_ok-right.ensures.made, c.count_made.ensures)
    (λ i. Whole-made_as _ (number_of c.in_ok-right.right) c.args.value (first_standing kind) (first kind) c.in_ok-right.ensures.free i)

pub returns-clause-keeps : goal.returns-clause-keeps
returns-clause-keeps g c =
    rw (← c.self.view_is, c.in_ok-right.ensures.made)
    (λ i. made-keeps _ (number_of c.in_ok-right.right) c.args.value (first_standing c.args.kind) (items i) c.in_ok-right.ensures.free.1)

pub returns-clause-lent : goal.returns-clause-lent
returns-clause-lent g c =
    let kind = c.args.kind in
    let slot : ℕ = number_of c.in_ok-right.right in
    rw (← c.self.view_is, c.in_ok-right.ensures.made, c.count_made.ensures)
    (λ i k. lent-call g.T.Item.holds _ _ _ (makes _ slot c.args.value (first_standing kind) (first kind) c.in_ok-right.ensures.free) i
    (λ h. readers-as _ _ refl refl h) (λ q. refl) k)
