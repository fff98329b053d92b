use Rattle.std.proofs.Common.{arith}
use Rattle.sdd_part_examples.proofs.Steps.{halves}
use Rattle.sdd_part_examples.proofs.counted_owners.Owners.participant.Goals as goal

pub split_seat-requires : goal.split_seat-requires
split_seat-requires c = let r = c.requires in (r.home, (let w = c.args.self.now.home.1 in omega arith), halves _ _ r.free)
