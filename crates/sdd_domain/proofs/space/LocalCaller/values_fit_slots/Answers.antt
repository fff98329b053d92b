use Rattle.sdd_domain.proofs.FreeSlots.{as_many, bare}
use Rattle.sdd_domain.proofs.space.LocalCaller.values_fit_slots.Goals as goal

pub returns-clause-many : goal.returns-clause-many
returns-clause-many g c = λ _. as_many c.args.self.now

pub returns-clause-bare : goal.returns-clause-bare
returns-clause-bare g c = λ _. bare c.args.self.now
