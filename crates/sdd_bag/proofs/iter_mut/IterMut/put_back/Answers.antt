use Rattle.std.proofs.Common.{◌≡◌, ◌+◌, suc, Option, None, refl, sym, ap, ◌∙◌, arith}
use Rattle.sdd_bag.specs.IterMut.{passed}
use Rattle.sdd_bag.specs.Spots.{whole_at}
use Rattle.sdd_bag.proofs.Cursors.{rests-held, whole-old}
use Rattle.sdd_bag.proofs.iter_mut.IterMut.put_back.Goals as goal

pub returns : goal.returns
returns g c =
    let old = c.args.self.now in let T = g.row.T.Denot in
    let next : old.at + 1 ≡ suc old.at = omega arith in
    record {
      rests = rests-held g.B.Shelf.shown g.S.Caller.caller g.S.Caller.world old _ old.gap (old.at + 1) c.take.new.self c.tell.new.self c.requires.cursor refl
          (c.put_at.ensures ∙ ap (λ (h : Option T). whole_at old.behind old.gap old.at h old.bag.now) c.in-Some.ensures.value)
          (next ∙ ap (λ (h : Option T). passed old.at h) c.in-Some.ensures.value) c.take.ensures.after;
    }

pub returns-in_default : goal.returns-in_default
returns-in_default g c =
    let old = c.args.self.now in let T = g.row.T.Denot in let shown = g.B.Shelf.shown in let caller = g.S.Caller.caller in let world = g.S.Caller.world in
    let none : old.held ≡ None = sym c.in_default.ensures.value in
    record {
      rests = rests-held shown caller world old old.bag old.gap old.at c.take.new.self old.fits c.requires.cursor refl
          (sym (whole-old shown caller world old c.requires.cursor none)) (ap (λ (h : Option T). passed old.at h) (sym none)) c.take.ensures.after;
    }
