use Rattle.std.proofs.Common.{◌≡◌, ℕ, ap, ◌∙◌}
use Rattle.sdd_machine.specs.Table.{State, place_at, with_place, rotated}
use Rattle.std.proofs.Common.{not, eqb}
use Rattle.sdd_machine.specs.declared.machine.steps.Did.TheVariants.{Opened}
use Rattle.sdd_machine.specs.Table.{read_of}
use Rattle.sdd_machine.proofs.Views.{with_published, none_taken}
use Rattle.sdd_machine.proofs.machine.Machine.publish.Goals as goal

pub returns-then-changed-clause-new : goal.returns-then-changed-clause-new
returns-then-changed-clause-new c =
    let place = c.args.place in
    c.rotate-reclaimed.ensures.moved ∙ (ap (λ (s : State). with_place s place rotated) c.set_post.ensures
    ∙ with_published c.args.self.now place c.read-count.result c.found.result c.requires
    (c.read-count.ensures ∙ ap read_of c.phase.ensures) c.found.ensures c.if-changed.true)

pub returns-else-changed-clause-did : goal.returns-else-changed-clause-did
returns-else-changed-clause-did c =
    let x = place_at c.args.self.now c.args.place in
    let read : c.read-count.result ≡ read_of x.phase = c.read-count.ensures ∙ ap read_of c.phase.ensures in
    ap (λ (k : ℕ). Opened k (not (eqb k c.found.result)) 0) read
    ∙ (ap (λ (k : ℕ). Opened (read_of x.phase) (not (eqb (read_of x.phase) k)) 0) c.found.ensures
    ∙ ap (λ (k : ℕ). Opened (read_of x.phase) (not (eqb (read_of x.phase) x.found)) k)
    (none_taken x c.read-count.result c.found.result read c.found.ensures c.if-changed.false))
