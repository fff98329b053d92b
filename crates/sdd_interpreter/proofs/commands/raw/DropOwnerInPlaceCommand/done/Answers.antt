use Rattle.sdd_space.specs.Shared as shared
use Rattle.sdd_interpreter.proofs.DroppedItems.{drops-shared}
use Rattle.sdd_interpreter.proofs.commands.raw.DropOwnerInPlaceCommand.done.Goals as goal

pub returns-in-Ok-drop_in_place-clause-done : goal.returns-in-Ok-drop_in_place-clause-done
returns-in-Ok-drop_in_place-clause-done g c =
    let went = c.drop_in_place-in-Share.ensures.exact c.requires.exact in
    let told = rw c.in-Ok-drop_in_place.is at went.2 in
    rw c.in-Share.is
    (drops-shared (g.S.Caller.world c.args.s.now) (g.S.Caller.world c.drop_in_place-in-Share.new.s) (g.S.Caller.caller c.args.s.now).place
    (shared.slot_of c.in-Share.held) went.0 (shared.slots_home c.in-Share.held) c.in-Ok-drop_in_place.was_last went.1 told)
