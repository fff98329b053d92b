use Rattle.std.proofs.Common.{ℕ, rules}
use Rattle.std.proofs.lemmas.Result.{IfErr-weaker, MatchResult-weaker}
use Rattle.sdd_space.specs.Shared.{slot_of}
use Rattle.sdd_world_model.specs.World.{standing_at}
use Rattle.sdd_world_model.proofs.InPlace.{alone-one, refused-shared}
use Rattle.sdd_space.proofs.SameOwner.{same-owner}
use Rattle.sdd_space.proofs.shared.Owner+SharedOwnership+T.get_mut.Goals as goal

pub returns-clause-same : goal.returns-clause-same
returns-clause-same g c = IfErr-weaker c.get_mut.result _ _ (λ e same. same-owner c.args.self.now c.get_mut.new.right _ same) c.get_mut.ensures.same

pub returns-clause-kept : goal.returns-clause-kept
returns-clause-kept g c = λ keeps. same-owner c.args.self.now c.get_mut.new.right _ (c.get_mut.ensures.kept keeps)

pub returns-clause-exact : goal.returns-clause-exact
returns-clause-exact g c = λ is_exact.
    let slot : ℕ = slot_of c.args.self.now in
    let w = g.S.Caller.world c.args.s.now in
    let found = c.get_mut.ensures.owned is_exact in
    let several = found.together (search rules) in (
      several.0,
      several.1,
      MatchResult-weaker c.get_mut.result (c.get_mut.ensures.exact is_exact)
          (λ r h. (alone-one several.0 (standing_at w slot) several.1 h.0.alone, h.0.quiet, h.1))
          (λ e h. (refused-shared w slot several.0 e.1 several.1 h.0, h.1)),
    )
