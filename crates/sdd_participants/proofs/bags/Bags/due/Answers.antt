use Rattle.std.proofs.Common.{sym}
use Rattle.sdd_participants.proofs.AgedBags.{due-aged}
use Rattle.sdd_participants.proofs.bags.Bags.due.Goals as goal

pub returns : goal.returns
returns c = rw (← c.self.view_is, c.as_slice.ensures.value) (sym (due-aged c.self.inside.next.items c.self.inside.previous.items c.self.inside.current.items))
