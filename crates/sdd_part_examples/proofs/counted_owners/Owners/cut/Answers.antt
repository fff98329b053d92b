use Rattle.sdd_part_examples.proofs.Steps.{parts}
use Rattle.sdd_part_examples.proofs.counted_owners.Owners.cut.Goals as goal

pub part-requires : goal.part-requires
part-requires c = let r = c.requires in (r.home, parts _ _ r.free r.one)
