use Rattle.sdd_interpreter.proofs.Words.{false, true, ◌∙◌, ◌≡◌}
use Rattle.sdd_interpreter.proofs.commands.links.NextEntryListCommand.done.Goals as goal

pub unreachable-requires : goal.unreachable-requires
unreachable-requires g c =
    let behind = c.requires.asked.2 in
    let cut = c.in-Err.ensures.list c.requires.exact behind.0 behind.1 behind.2 in
    absurd (let never : false ≡ true = cut.0 in cc)

pub returns-clause-done : goal.returns-clause-done
returns-clause-done g c = λ t es list.
    let cut = c.in-Ok.ensures.list c.requires.exact t es list in (c.slot_of_ptr.ensures ∙ cut.1, cut.3)
