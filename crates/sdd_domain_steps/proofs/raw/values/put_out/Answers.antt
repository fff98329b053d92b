use Rattle.std.proofs.Common.{sym, subst}
use Rattle.sdd_domain_invariant.specs.Slots.Records.{IsIn}
use Rattle.sdd_domain_steps.proofs.raw.values.put_out.Goals as goal

pub enter_unit-requires-clause-told : goal.enter_unit-requires-clause-told
enter_unit-requires-clause-told c = subst (IsIn c.args.seat.now.me.0.fractions.owns c.args.slot) (sym c.unit_of-unit.ensures.shown) c.requires.shows
