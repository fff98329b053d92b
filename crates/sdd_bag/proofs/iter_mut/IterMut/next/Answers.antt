use Rattle.std.proofs.Common.{◌≡◌, Some, length, slice_get, refl}
use Rattle.sdd_bag.specs.Bag.{values_of}
use Rattle.sdd_bag.specs.IterMut.{Ends, Lends, given, whole}
use Rattle.sdd_bag.proofs.CursorAnswers.{ended-of, lent-of, value-of}
use Rattle.sdd_bag.proofs.iter_mut.IterMut.next.Goals as goal

pub returns : goal.returns
returns g c =
    let shown = g.B.Shelf.shown in let caller = g.S.Caller.caller in let world = g.S.Caller.world in let T = g.row.T.Denot in
    let old = c.args.self.now in let new = c.advance.new.self in
    let E : Type 0 = Ends shown caller world old new in
    let L : T → T → Type 0 = λ v w. Lends shown caller world v w old (record new { held = Some w }) in
    let r = c.as_mut.result in let held = new.held in let same = c.as_mut.ensures.value in let moved = c.advance.ensures.moved in (
      (refl, lent-of E L r held same moved, ended-of E L r held same moved),
      record {
        lends = tt;
        value = value-of E L (given old ≡ length (values_of (whole old))) (λ v. slice_get (values_of (whole old)) (given old) ≡ Some v) r held same moved
            (λ ends. ends.all) (λ v w lends. lends.was);
      },
    )
