use Rattle.std.proofs.Common.{refl}
use Rattle.sdd_lists.proofs.IterPositions.{gives-all}
use Rattle.sdd_lists.proofs.iter.iter_in.Goals as goal

pub returns-clause-exact : goal.returns-clause-exact
returns-clause-exact g c = λ e t es list.
    gives-all (g.S.Caller.world c.args.s.now) _ _ t es list (c.right_in.ensures.exact e) (c.reach-reach.ensures e es list.linked) refl
