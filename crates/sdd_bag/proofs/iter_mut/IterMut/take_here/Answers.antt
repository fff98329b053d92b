use Rattle.std.proofs.Common.{rules, ◌+◌, Option, Some, is_some, refl, sym, ap, ◌∙◌, subst}
use Rattle.sdd_bag.specs.Bag.{BagParts}
use Rattle.sdd_bag.specs.IterMut.{Lends, passed}
use Rattle.sdd_bag.specs.Spots.{places_of, start_of}
use Rattle.sdd_bag.specs.Storage.{value_at}
use Rattle.sdd_bag.proofs.Cursors.{first-old, lends, rests-held, whole-old}
use Rattle.sdd_bag.proofs.iter_mut.IterMut.take_here.Goals as goal

pub take_at-requires : goal.take_at-requires
take_at-requires g c =
    let is = c.requires.cursor in
    (search rules, (is.stands, first-old g.B.Shelf.shown g.S.Caller.caller g.S.Caller.world c.args.self.now is c.requires.none))

pub returns-in-Some-clause-lent : goal.returns-in-Some-clause-lent
returns-in-Some-clause-lent g c = λ yes.
    let shown = g.B.Shelf.shown in let caller = g.S.Caller.caller in let world = g.S.Caller.world in let old = c.args.self.now in
    let told = c.in-Some.ensures in let v = c.in-Some.value in (
      v,
      ap (λ q. q.held) c.hold.ensures,
      λ w. subst (λ q. Lends shown caller world v w old (record q { held = Some w })) (sym c.hold.ensures)
          (lends shown caller world old c.requires.cursor c.requires.none _ c.in-Some.gap v c.tell.new.self refl told.rest told.names told.few told.out.0
          told.out.1 w),
    )

pub returns-in-None-clause-passed : goal.returns-in-None-clause-passed
returns-in-None-clause-passed g c = λ no.
    let b = c.args.self.now.behind in let out = c.in-None.ensures.out in (
      out.1,
      λ k far near. ap (λ (x : BagParts g.row.T.Denot g.row.B.Denot). is_some (value_at (places_of b x) (start_of b + k))) out.0 ∙ out.1 k far near,
    )

pub returns-in-None-clause-rests : goal.returns-in-None-clause-rests
returns-in-None-clause-rests g c = λ no.
    let shown = g.B.Shelf.shown in let caller = g.S.Caller.caller in let world = g.S.Caller.world in let old = c.args.self.now in
    let none = c.requires.none in let is = c.requires.cursor in
    rests-held shown caller world old _ old.gap old.at old.held c.tell.new.self is refl
    (c.in-None.ensures.out.0 ∙ sym (whole-old shown caller world old is none)) (ap (λ (h : Option g.row.T.Denot). passed old.at h) (sym none)) none
