use Rattle.std.proofs.Common.{sym, ap}
use Rattle.sdd_participants.proofs.AgedBags.{left-aged, due-aged, length-left-due}
use Rattle.sdd_participants.proofs.bags.Bags.rotate.Goals as goal

pub returns-clause-kept : goal.returns-clause-kept
returns-clause-kept c =
    rw (
      ← c.self.view_is,
      c.swap-3.ensures.y_after,
      c.swap-2.ensures.y_after,
      c.swap-2.ensures.x_after,
      c.swap.ensures.y_after,
      c.swap.ensures.x_after,
      c.requires.empty,
    )
    (ap (λ w. record { waiting = w; room = c.self.inside.room })
    (sym (left-aged c.self.inside.next.items c.self.inside.previous.items c.self.inside.current.items)))

pub returns-clause-taken : goal.returns-clause-taken
returns-clause-taken c =
    rw (← c.self.view_is, c.swap-3.ensures.x_after) (sym (due-aged c.self.inside.next.items c.self.inside.previous.items c.self.inside.current.items))

pub returns-clause-count : goal.returns-clause-count
returns-clause-count c =
    rw (
      ← c.self.view_is,
      c.swap-3.ensures.y_after,
      c.swap-3.ensures.x_after,
      c.swap-2.ensures.y_after,
      c.swap-2.ensures.x_after,
      c.swap.ensures.y_after,
      c.swap.ensures.x_after,
      c.requires.empty,
    )
    (length-left-due c.self.inside.next.items c.self.inside.previous.items c.self.inside.current.items)
