use Rattle.sdd_world_slots.proofs.SlotsKept.{all-free}
use Rattle.sdd_world_slots.proofs.slots.WorldSlots.new.Goals as goal

pub invariant_of-result : goal.invariant_of-result
invariant_of-result g c = rw (c.in_ok-rights.ensures.kept, c.in_ok-standings.ensures, c.in_ok-places.ensures.values)
    (all-free c.in_ok-rights.rights.home c.args.size c.in_ok-rights.ensures.size)
