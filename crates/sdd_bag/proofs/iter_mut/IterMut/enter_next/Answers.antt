use Rattle.std.proofs.Common.{Option, sym, subst}
use Rattle.sdd_bag.specs.declared.behind.Behind.{Behind}
use Rattle.sdd_bag.specs.IterMut.{HasHere, Rests}
use Rattle.sdd_bag.proofs.Cursors.{ends, enters, has-here, stepped}
use Rattle.sdd_bag.proofs.NextStorage.{there-is}
use Rattle.sdd_bag.proofs.iter_mut.IterMut.enter_next.Goals as goal

pub returns-in_default-clause-rests : goal.returns-in_default-clause-rests
returns-in_default-clause-rests g c =
    (ends g.B.Shelf.shown g.S.Caller.caller g.S.Caller.world c.args.self.now c.requires.cursor c.requires.none c.next.new.self c.requires.passed
    c.in_default.ensures.steps).0

pub returns-in_default-clause-all : goal.returns-in_default-clause-all
returns-in_default-clause-all g c = λ no.
    (ends g.B.Shelf.shown g.S.Caller.caller g.S.Caller.world c.args.self.now c.requires.cursor c.requires.none c.next.new.self c.requires.passed
    c.in_default.ensures.steps).1

pub returns-clause-rests : goal.returns-clause-rests
returns-clause-rests g c =
    let shown = g.B.Shelf.shown in let caller = g.S.Caller.caller in let world = g.S.Caller.world in let old = c.args.self.now in let after = c.next.new.self in
    let there = there-is c.go_on.new.behind c.go_on.ensures.some c.go_on.ensures.next in
    subst (λ (b : Option (Behind g.row.B.Denot)). Rests shown caller world old (stepped shown caller world old after b 0 old.held)) (sym there.1)
    (enters shown caller world old c.requires.cursor c.requires.none after c.requires.passed c.in-Some.shelf c.in-Some.ensures.steps there.0 there.2)

pub returns-clause-first : goal.returns-clause-first
returns-clause-first g c = λ yes.
    let shown = g.B.Shelf.shown in let caller = g.S.Caller.caller in let world = g.S.Caller.world in let old = c.args.self.now in let after = c.next.new.self in
    let there = there-is c.go_on.new.behind c.go_on.ensures.some c.go_on.ensures.next in
    subst (λ (b : Option (Behind g.row.B.Denot)). HasHere (stepped shown caller world old after b 0 old.held)) (sym there.1)
    (has-here shown caller world old c.requires.cursor c.requires.none after c.requires.passed c.in-Some.shelf c.in-Some.ensures.steps there.0 there.2)
