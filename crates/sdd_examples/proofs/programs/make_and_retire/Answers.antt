use Rattle.std.proofs.Common.{refl}
use Rattle.sdd_examples.proofs.programs.make_and_retire.Goals as goal

pub unreachable-requires : goal.unreachable-requires
unreachable-requires g c = (c.counts_what_is_out.ensures c.args.world.now).room c.requires.room (rw c.at-turn.ensures.world at (c.in-Err.ensures.exact refl).0)
