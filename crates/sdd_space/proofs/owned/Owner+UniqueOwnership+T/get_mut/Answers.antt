use Rattle.std.proofs.Common.{◌≡◌, ℕ, Some, rules}
use Rattle.std.proofs.lemmas.Result.{IfErr-weaker, MatchResult-weaker}
use Rattle.sdd_participants.specs.declared.standing.Standing.TheVariants.{Owned}
use Rattle.sdd_space.specs.Owned.{slot_of}
use Rattle.sdd_world_model.specs.World.{standing_at}
use Rattle.sdd_world_model.proofs.InPlace.{refused-sole}
use Rattle.sdd_space.proofs.SameOwner.{same-owner}
use Rattle.sdd_space.proofs.owned.Owner+UniqueOwnership+T.get_mut.Goals as goal

pub returns-clause-same : goal.returns-clause-same
returns-clause-same g c = IfErr-weaker c.get_mut.result _ _ (λ e same. same-owner c.args.self.now c.get_mut.new.right _ same) c.get_mut.ensures.same

pub returns-clause-kept : goal.returns-clause-kept
returns-clause-kept g c = λ keeps. same-owner c.args.self.now c.get_mut.new.right _ (c.get_mut.ensures.kept keeps)

pub returns-clause-exact : goal.returns-clause-exact
returns-clause-exact g c = λ is_exact.
    let slot : ℕ = slot_of c.args.self.now in
    let w = g.S.Caller.world c.args.s.now in
    let found = c.get_mut.ensures.owned is_exact in
    let sole : standing_at w slot ≡ Some Owned = found.alone (search rules) in
    MatchResult-weaker c.get_mut.result (c.get_mut.ensures.exact is_exact) (λ r h. (h.0.quiet, h.1))
    (λ e h. let why = refused-sole w slot e.1 sole h.0 in (why.0, why.1, h.1))
