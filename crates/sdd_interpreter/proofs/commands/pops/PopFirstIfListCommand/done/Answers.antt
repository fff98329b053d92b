use Rattle.sdd_interpreter.proofs.Words.{ℕ, ◌≡◌}
use Rattle.sdd_interpreter.proofs.AskedEntries.{queue-pops-if, stack-pops-if}
use Rattle.sdd_interpreter.proofs.commands.pops.PopFirstIfListCommand.done.Goals as goal

pub returns-in-Queue-clause-done : goal.returns-in-Queue-clause-done
returns-in-Queue-clause-done g c es second list =
    let captured = λ (x : record { 0 : ℕ }). x ≡ record { 0 = c.args.self.first } in
    let did = c.pop_if.ensures in
    let has = rw c.in-Queue.is at list in
    rw c.in-Queue.is (queue-pops-if _ _ _ es second c.args.self.first captured c.in-Queue.queue _ _ (did.list c.requires.exact es second has) did.owner)

pub returns-in-Stack-clause-done : goal.returns-in-Stack-clause-done
returns-in-Stack-clause-done g c es second list =
    let captured = λ (x : record { 0 : ℕ }). x ≡ record { 0 = c.args.self.first } in
    let did = c.pop_if-in-Stack.ensures in
    let has = rw c.in-Stack.is at list in
    rw c.in-Stack.is (stack-pops-if _ _ _ es second c.args.self.first captured c.in-Stack.stack _ _ (did.list c.requires.exact es has) did.owner)
