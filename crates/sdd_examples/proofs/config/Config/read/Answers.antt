use Rattle.std.proofs.Common.{sym, subst, Option}
use Rattle.sdd_examples.specs.Config.{IsFound, cell_of}
use Rattle.sdd_examples.proofs.config.Config.read.Goals as goal

pub returns-clause-found : goal.returns-clause-found
returns-clause-found g c = λ exact.
    subst (λ (found : Option _). IsFound (g.S.Caller.world c.load.new.s) (cell_of c.args.self.now) found) (sym c.as_ref.ensures.shown)
    (c.load.ensures.found exact)
