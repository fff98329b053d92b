use Rattle.sdd_machine.proofs.Gather.{Gathers}
use Rattle.sdd_machine.proofs.machine.gather.Given as goal

abbrev pub invariant-loop-number : goal.invariant-loop-number
invariant-loop-number l = Gathers l.place l.posts l.fn.bags l.bags l.number
