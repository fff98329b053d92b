use Rattle.std.proofs.Common.{sym}
use Rattle.sdd_bag.proofs.Cursors.{whole-old}
use Rattle.sdd_bag.proofs.iter_mut.IterMut.close.Goals as goal

pub returns-in-None-clause-bag : goal.returns-in-None-clause-bag
returns-in-None-clause-bag g c =
    sym (whole-old g.B.Shelf.shown g.S.Caller.caller g.S.Caller.world c.args.self c.requires.cursor c.in-None.is)
