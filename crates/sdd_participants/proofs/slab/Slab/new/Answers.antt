use Rattle.sdd_participants.proofs.NewSlab.{fresh-as}
use Rattle.sdd_participants.proofs.ShownEntries.{but-all}
use Rattle.sdd_participants.proofs.slab.Slab.new.Goals as goal

pub invariant_of-result : goal.invariant_of-result
invariant_of-result g c = let entries = c.in_ok-entries in let empty = c.in_ok-empty in
    fresh-as c.args.size _ _ empty.empty.items
    (but-all c.args.size c.args.blank entries.entries.items empty.empty.items entries.ensures (empty.ensures.items)) (empty.ensures.items)
    (empty.ensures.room)

pub returns : goal.returns
returns g c = let entries = c.in_ok-entries in let empty = c.in_ok-empty in
    but-all c.args.size c.args.blank entries.entries.items empty.empty.items entries.ensures (empty.ensures.items)
