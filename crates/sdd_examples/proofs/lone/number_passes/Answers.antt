use Rattle.sdd_domain.specs.Local.{world_of}
use Rattle.sdd_examples.proofs.lone.number_passes.Goals as goal

pub unreachable-requires : goal.unreachable-requires
unreachable-requires c = (c.counts_what_is_out.ensures (world_of c.args.local.now)).room c.requires.room c.in_default.ensures.exact.0

pub returns-clause-passed : goal.returns-clause-passed
returns-clause-passed c = let item = c.in-Ok.ensures.exact in
    rw item.2 (c.items_pass.ensures.one _ _ item.0 7 c.is_whole.ensures.place item.1 c.requires.few)
