use Rattle.sdd_interpreter.proofs.Words.{refl, ap, ◌∙◌, CallerId, link_of}
use Rattle.sdd_world_model.specs.OwnerOrCell as holding
use Rattle.sdd_space.specs.Owned as owned
use Rattle.sdd_space.specs.Shared as shared
use Rattle.sdd_interpreter.proofs.commands.items.MakeItemItemCommand.done.Goals as goal

pub returns-in-Ok-new-clause-done : goal.returns-in-Ok-new-clause-done
returns-in-Ok-new-clause-done g c =
    let caller = c.new.ensures.undisturbed.caller in
    let entry = c.in-Ok.ensures.exact c.requires.exact in
    let made = rw entry.1 at (c.in-Ok-new.ensures.exact (rw caller c.requires.exact)) in
    let k = owned.slot_of c.in-Ok-new.owner in
    let home = c.in-Ok-new.ensures.home ∙ ap (λ (s : CallerId). s.home.slots) caller in
    rw c.in-Sole.is (
      k,
      link_of c.in-Ok.value,
      c.in-Ok.value,
      ap (holding.owned k) home,
      entry.0,
      made.0,
      c.in-Ok.ensures.value,
      refl,
      c.in-Ok.ensures.home,
      made.1,
    )

pub returns-in-Ok-new-2-clause-done : goal.returns-in-Ok-new-2-clause-done
returns-in-Ok-new-2-clause-done g c =
    let caller = c.new.ensures.undisturbed.caller in
    let entry = c.in-Ok.ensures.exact c.requires.exact in
    let made = rw entry.1 at (c.in-Ok-new-2.ensures.exact (rw caller c.requires.exact)) in
    let k = shared.slot_of c.in-Ok-new-2.owner in
    let home = c.in-Ok-new-2.ensures.home ∙ ap (λ (s : CallerId). s.home.slots) caller in
    rw c.in-Shared.is (
      k,
      link_of c.in-Ok.value,
      c.in-Ok.value,
      ap (holding.shared k) home,
      entry.0,
      made.0,
      c.in-Ok.ensures.value,
      refl,
      c.in-Ok.ensures.home,
      made.1,
    )
