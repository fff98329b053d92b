use Rattle.sdd_space.specs.Shared.{slot_of}
use Rattle.sdd_bench.proofs.Waiting.{let-go-guards}
use Rattle.sdd_bench.proofs.lists.kept.Goals as goal

pub returns-in-Ok-clause-guards : goal.returns-in-Ok-clause-guards
returns-in-Ok-clause-guards g c =
    let own = g.S.Caller.own in
    let-go-guards c.release.result (slot_of c.in-Ok.owner) (own c.args.space.now) (own c.release.new.s) c.release.ensures.own
