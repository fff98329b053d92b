use Rattle.std.proofs.Common.{ap}
use Rattle.sdd_participants.proofs.AgedBags.{adopted-waiting}
use Rattle.sdd_participants.proofs.bags.Bags.adopt.Goals as goal

pub returns-clause-adopted : goal.returns-clause-adopted
returns-clause-adopted c =
    let own = c.self.inside in
    let left = c.left.inside in
    rw (← c.self.view_is, ← c.left.view_is, c.pour-3.ensures.poured, c.pour-2.ensures.poured, c.pour.ensures.poured)
    (ap (λ w. record { waiting = w; room = own.room })
    (adopted-waiting own.next.items own.previous.items own.current.items left.next.items left.previous.items left.current.items))
