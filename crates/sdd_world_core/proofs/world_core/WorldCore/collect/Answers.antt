use Rattle.std.proofs.Common.{ℕ, refl}
use Rattle.sdd_rights.specs.Right.{number_of}
use Rattle.sdd_participants.specs.declared.standing.Standing.TheVariants.{Private}
use Rattle.sdd_world_model.specs.Loans.{Loans}
use Rattle.sdd_world_core.proofs.Sound.{item-room, last-waits, sound-item}
use Rattle.sdd_world_core.proofs.ReleasedOwner.{found, found-out, none-else, some-else, whole-collected, whole-fewer, lent-collected, lent-fewer, gone-fewer, waits-fewer}
use Rattle.sdd_participants.specs.Jobs.{places_of}
use Rattle.sdd_world_core.proofs.world_core.WorldCore.collect.Goals as goal

pub returns-clause-whole : goal.returns-clause-whole
returns-clause-whole g c =
    let slot : ℕ = number_of c.args.right in
    let there = rw (← c.self.view_is) at c.requires.place in
    let e = c.retire.ensures in
    rw (← c.self.view_is, e.gone, c.wait.ensures, c.name-slot.ensures)
    (λ i. whole-collected _ c.args.place c.args.collector slot there _ refl (found _ _ c.args.right.owner e.owned)
    (none-else _ _ c.has_others.ensures.others c.if-has_others.false) i)

pub returns-clause-lent : goal.returns-clause-lent
returns-clause-lent g c =
    let slot : ℕ = number_of c.args.right in
    let there = rw (← c.self.view_is) at c.requires.place in
    let e = c.retire.ensures in
    rw (← c.self.view_is, e.gone, c.wait.ensures, c.name-slot.ensures)
    (λ _ l. lent-collected _ c.args.place c.args.collector slot there _ refl (found _ _ c.args.right.owner e.owned) g.T.Item.holds _ l
    (none-else _ _ c.has_others.ensures.others c.if-has_others.false))

pub returns-then-has_others-clause-whole : goal.returns-then-has_others-clause-whole
returns-then-has_others-clause-whole g c =
    let slot : ℕ = number_of c.args.right in
    let there = rw (← c.self.view_is) at c.requires.place in
    let e = c.release.ensures in
    rw (← c.self.view_is, e.gone)
    (λ i. whole-fewer _ c.args.place c.args.collector slot there _ refl (found _ _ c.args.right.owner e.owned)
    (some-else _ _ c.has_others.ensures.others c.if-has_others.true) i)

pub returns-then-has_others-clause-lent : goal.returns-then-has_others-clause-lent
returns-then-has_others-clause-lent g c =
    let slot : ℕ = number_of c.args.right in
    let there = rw (← c.self.view_is) at c.requires.place in
    let e = c.release.ensures in
    rw (← c.self.view_is, e.gone)
    (λ _ l. lent-fewer _ c.args.place c.args.collector slot there _ refl (found _ _ c.args.right.owner e.owned) g.T.Item.holds _ l
    (some-else _ _ c.has_others.ensures.others c.if-has_others.true))

pub wait-requires-clause-room : goal.wait-requires-clause-room
wait-requires-clause-room g c =
    let slot : ℕ = number_of c.args.right in
    let there = rw (← c.self.view_is) at c.requires.place in
    let e = c.retire.ensures in
    let i = c.self.inside in
    item-room g.T.Item.holds i.time i.slots i.cells (places_of i.jobs) i.sections c.args.place there.0 c.self.invariant slot
    (found-out _ (found _ _ c.args.right.owner e.owned))

pub invariant_of-self-2 : goal.invariant_of-self-2
invariant_of-self-2 g c =
    let slot : ℕ = number_of c.args.right in
    let there = rw (← c.self.view_is) at c.requires.place in
    let e = c.retire.ensures in
    let i = c.self.inside in
    let by = found _ _ c.args.right.owner e.owned in
    rw (e.gone, c.wait.ensures, c.name-slot.ensures)
    (sound-item g.T.Item.holds i.time i.slots i.cells (places_of i.jobs) i.sections c.args.place there.0 c.self.invariant slot (found-out _ by) _
    (last-waits (Private c.args.collector) refl _ by (none-else _ _ c.has_others.ensures.others c.if-has_others.false)))

pub returns-then-has_others-clause-gone : goal.returns-then-has_others-clause-gone
returns-then-has_others-clause-gone g c =
    let slot : ℕ = number_of c.args.right in
    let there = rw (← c.self.view_is) at c.requires.place in
    let e = c.release.ensures in
    let i = c.self.inside in
    let lending : Loans = record { fractions = i.slots.fractions; sections = i.sections } in
    rw (← c.self.view_is, e.gone)
    (gone-fewer _ c.args.place c.args.collector slot there _ refl (found _ _ c.args.right.owner e.owned)
    (λ w. record { world = w; lending = lending; deferred = i.jobs }) (some-else _ _ c.has_others.ensures.others c.if-has_others.true))

pub returns-then-has_others-clause-waits : goal.returns-then-has_others-clause-waits
returns-then-has_others-clause-waits g c =
    let slot : ℕ = number_of c.args.right in
    let there = rw (← c.self.view_is) at c.requires.place in
    let e = c.release.ensures in
    rw (← c.self.view_is, e.gone)
    (waits-fewer _ c.args.place c.args.collector slot there _ refl (found _ _ c.args.right.owner e.owned)
    (some-else _ _ c.has_others.ensures.others c.if-has_others.true))
