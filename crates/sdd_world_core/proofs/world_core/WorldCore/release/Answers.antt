use Rattle.std.proofs.Common.{ℕ, refl}
use Rattle.sdd_rights.specs.Right.{number_of}
use Rattle.sdd_participants.specs.declared.standing.Standing.TheVariants.{Retired}
use Rattle.sdd_world_core.proofs.Sound.{item-room, last-waits, sound-item}
use Rattle.sdd_world_core.proofs.ReleasedOwner.{found, found-out, none-else, some-else, whole-last, whole-other, lent-last, lent-other}
use Rattle.sdd_participants.specs.Jobs.{places_of}
use Rattle.sdd_world_core.proofs.world_core.WorldCore.release.Goals as goal

pub returns-clause-whole : goal.returns-clause-whole
returns-clause-whole g c =
    let slot : ℕ = number_of c.args.right in
    let there = rw (← c.self.view_is) at c.requires.place in
    let e = c.retire.ensures in
    rw (← c.self.view_is, e.gone, c.wait.ensures, c.name-slot.ensures)
    (λ some i. whole-last _ c.args.place slot _ refl there some i (found _ _ c.args.right.owner e.owned)
    (none-else _ _ c.has_others.ensures.others c.if-has_others.false))

pub returns-clause-lent : goal.returns-clause-lent
returns-clause-lent g c =
    let slot : ℕ = number_of c.args.right in
    let there = rw (← c.self.view_is) at c.requires.place in
    let e = c.retire.ensures in
    rw (← c.self.view_is, e.gone, c.wait.ensures, c.name-slot.ensures)
    (λ l. lent-last _ c.args.place slot g.T.Item.holds _ _ refl there l (found _ _ c.args.right.owner e.owned)
    (none-else _ _ c.has_others.ensures.others c.if-has_others.false))

pub returns-then-has_others-clause-whole : goal.returns-then-has_others-clause-whole
returns-then-has_others-clause-whole g c =
    let slot : ℕ = number_of c.args.right in
    let there = rw (← c.self.view_is) at c.requires.place in
    let e = c.release.ensures in
    rw (← c.self.view_is, e.gone)
    (λ some i. whole-other _ c.args.place slot _ refl there some i (found _ _ c.args.right.owner e.owned)
    (some-else _ _ c.has_others.ensures.others c.if-has_others.true))

pub returns-then-has_others-clause-lent : goal.returns-then-has_others-clause-lent
returns-then-has_others-clause-lent g c =
    let slot : ℕ = number_of c.args.right in
    let there = rw (← c.self.view_is) at c.requires.place in
    let e = c.release.ensures in
    rw (← c.self.view_is, e.gone)
    (λ l. lent-other _ c.args.place slot g.T.Item.holds _ _ refl there l (found _ _ c.args.right.owner e.owned)
    (some-else _ _ c.has_others.ensures.others c.if-has_others.true))

pub wait-requires-clause-room : goal.wait-requires-clause-room
wait-requires-clause-room g c =
    let slot : ℕ = number_of c.args.right in
    let there = rw (← c.self.view_is) at c.requires.place in
    let e = c.retire.ensures in
    let i = c.self.inside in
    item-room g.T.Item.holds i.time i.slots i.cells (places_of i.jobs) i.sections c.args.place there c.self.invariant slot
    (found-out _ (found _ _ c.args.right.owner e.owned))

pub invariant_of-self-2 : goal.invariant_of-self-2
invariant_of-self-2 g c =
    let slot : ℕ = number_of c.args.right in
    let there = rw (← c.self.view_is) at c.requires.place in
    let e = c.retire.ensures in
    let i = c.self.inside in
    let by = found _ _ c.args.right.owner e.owned in
    rw (e.gone, c.wait.ensures, c.name-slot.ensures)
    (sound-item g.T.Item.holds i.time i.slots i.cells (places_of i.jobs) i.sections c.args.place there c.self.invariant slot (found-out _ by) _
    (last-waits Retired refl _ by (none-else _ _ c.has_others.ensures.others c.if-has_others.false)))
