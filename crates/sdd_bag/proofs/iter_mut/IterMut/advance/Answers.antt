use Rattle.std.proofs.Common.{rules, refl}
use Rattle.sdd_bag.proofs.Cursors.{given-all, moves-lent, moves-none, moves-second, rests-on}
use Rattle.sdd_bag.proofs.iter_mut.IterMut.advance.Goals as goal

pub returns-then-take_here : goal.returns-then-take_here
returns-then-take_here g c =
    record {
      moved = moves-lent g.B.Shelf.shown g.S.Caller.caller g.S.Caller.world c.args.self.now c.put_back.new.self c.take_here.new.self c.put_back.ensures.rests
          (c.if-take_here.ensures.lent refl);
    }

pub enter_next-requires : goal.enter_next-requires
enter_next-requires g c =
    let rests = c.if-take_here.ensures.rests refl in
    (search rules, (rests.same.cursor, (rests.none, (c.if-take_here.ensures.few, (c.if-take_here.ensures.passed refl).1))))

pub returns-then-enter_next : goal.returns-then-enter_next
returns-then-enter_next g c =
    let shown = g.B.Shelf.shown in let caller = g.S.Caller.caller in let world = g.S.Caller.world in let old = c.args.self.now in
    let whole = c.put_back.new.self in let passed = c.take_here.new.self in let there = c.enter_next.new.self in
    let last = c.take_here-then-enter_next.new.self in let second = c.take_here-then-enter_next in
    record {
      moved = moves-second shown caller world old there last second.result
          (rests-on shown caller world old whole there c.put_back.ensures.rests
          (rests-on shown caller world whole passed there (c.if-take_here.ensures.rests refl) c.if-enter_next.ensures.rests))
          (c.if-enter_next.ensures.first refl) (λ yes. second.ensures.lent yes) (λ no. (second.ensures.passed no).0);
    }

pub returns-else-enter_next : goal.returns-else-enter_next
returns-else-enter_next g c =
    let shown = g.B.Shelf.shown in let caller = g.S.Caller.caller in let world = g.S.Caller.world in let old = c.args.self.now in
    let whole = c.put_back.new.self in let passed = c.take_here.new.self in let there = c.enter_next.new.self in
    let before = rests-on shown caller world old whole passed c.put_back.ensures.rests (c.if-take_here.ensures.rests refl) in
    record {
      moved = moves-none shown caller world old there (rests-on shown caller world old passed there before c.if-enter_next.ensures.rests)
          (given-all shown caller world old passed before (c.if-enter_next.ensures.all refl));
    }
