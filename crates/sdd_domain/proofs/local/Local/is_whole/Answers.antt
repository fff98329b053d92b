use Rattle.sdd_domain_core.proofs.Sound.{lives, shut_there}
use Rattle.sdd_domain.proofs.local.Local.is_whole.Goals as goal

pub returns-clause-place : goal.returns-clause-place
returns-clause-place g c = lives c.args.self.now

pub returns-clause-shut : goal.returns-clause-shut
returns-clause-shut g c = shut_there c.args.self.now
