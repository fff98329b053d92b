use Rattle.sdd_part_examples.proofs.GuardOpened.{opened-open}
use Rattle.sdd_part_examples.proofs.looks.made_and_seen.Goals as goal

pub made_and_seen_under-seen-requires-clause-open : goal.made_and_seen_under-seen-requires-clause-open
made_and_seen_under-seen-requires-clause-open g c = opened-open _ _ c.in_ok-guard.ensures.own.1
