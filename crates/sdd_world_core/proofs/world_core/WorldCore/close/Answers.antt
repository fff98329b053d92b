use Rattle.std.proofs.Common.{sym, ◌∙◌, lt-ltb}
use Rattle.sdd_world_model.proofs.PlacesMatchStates.{Whole-closed}
use Rattle.sdd_world_core.proofs.Lending.{joins, free-joined, reader-there, guard-there, sizes-closed, lent-closed, lent-left}
use Rattle.sdd_world_core.proofs.world_core.WorldCore.close.Goals as goal

pub close-requires-clause-open : goal.close-requires-clause-open
close-requires-clause-open g c =
    let lent = rw (← c.self.view_is) at c.requires.lent in
    lt-ltb 0 _ (guard-there _ _ lent c.args.place c.args.section.units c.requires.section.units c.join.ensures.fits)

pub settle_loans-requires-clause-lent : goal.settle_loans-requires-clause-lent
settle_loans-requires-clause-lent g c =
    let p = c.args.place in
    let lent = rw (← c.self.view_is) at c.requires.lent in
    let live = rw (← c.self.view_is) at c.requires.place in
    let joined = joins c.self.inside.sections c.join.new.self p c.args.section.units c.join.ensures.home c.requires.section.units c.join.ensures.kept in
    rw joined (free-joined _ _ lent p (reader-there _ _ lent (sym c.self.invariant.sections) p live.0))

pub returns-then-not-is_open-clause-whole : goal.returns-then-not-is_open-clause-whole
returns-then-not-is_open-clause-whole g c =
    let p = c.args.place in
    let joined = joins c.self.inside.sections c.join.new.self p c.args.section.units c.join.ensures.home c.requires.section.units c.join.ensures.kept in
    rw (c.settle_loans.ensures.1, c.close.ensures.closed, joined)
    (Whole-closed _ p (rw (← c.self.view_is) at c.requires.place) (rw (← c.self.view_is) at c.requires.whole))

pub returns-else-not-is_open-clause-whole : goal.returns-else-not-is_open-clause-whole
returns-else-not-is_open-clause-whole g c =
    let p = c.args.place in
    let joined = joins c.self.inside.sections c.join.new.self p c.args.section.units c.join.ensures.home c.requires.section.units c.join.ensures.kept in
    rw (c.close.ensures.closed, joined)
    (Whole-closed _ p (rw (← c.self.view_is) at c.requires.place) (rw (← c.self.view_is) at c.requires.whole))

pub returns-then-not-is_open-clause-lent : goal.returns-then-not-is_open-clause-lent
returns-then-not-is_open-clause-lent g c =
    let p = c.args.place in
    let live = rw (← c.self.view_is) at c.requires.place in
    let whole = rw (← c.self.view_is) at c.requires.whole in
    let lent = rw (← c.self.view_is) at c.requires.lent in
    let near = reader-there _ _ lent (sym c.self.invariant.sections) p live.0 in
    let some = guard-there _ _ lent p c.args.section.units c.requires.section.units c.join.ensures.fits in
    let joined = joins c.self.inside.sections c.join.new.self p c.args.section.units c.join.ensures.home c.requires.section.units c.join.ensures.kept in
    let sizes = sizes-closed _ p (rw c.close.ensures.closed at c.close.ensures.kept) in
    let shut = sym (rw c.close.ensures.closed at c.is_open.ensures) ∙ c.if-not-is_open.true in
    rw (c.settle_loans.ensures.1, c.close.ensures.closed, joined)
    (lent-left g.T.Item.holds _ _ p live near some whole sizes lent shut c.settle_loans.ensures.0)

pub returns-else-not-is_open-clause-lent : goal.returns-else-not-is_open-clause-lent
returns-else-not-is_open-clause-lent g c =
    let p = c.args.place in
    let live = rw (← c.self.view_is) at c.requires.place in
    let whole = rw (← c.self.view_is) at c.requires.whole in
    let lent = rw (← c.self.view_is) at c.requires.lent in
    let near = reader-there _ _ lent (sym c.self.invariant.sections) p live.0 in
    let some = guard-there _ _ lent p c.args.section.units c.requires.section.units c.join.ensures.fits in
    let joined = joins c.self.inside.sections c.join.new.self p c.args.section.units c.join.ensures.home c.requires.section.units c.join.ensures.kept in
    let sizes = sizes-closed _ p (rw c.close.ensures.closed at c.close.ensures.kept) in
    let still = sym (rw c.close.ensures.closed at c.is_open.ensures) ∙ c.if-not-is_open.false in
    rw (c.close.ensures.closed, joined) (lent-closed g.T.Item.holds _ _ p live near some whole sizes lent still)
