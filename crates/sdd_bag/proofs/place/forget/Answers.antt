use Rattle.std.proofs.Common.{◌+◌, List, map, drop, ap, ◌∙◌, arith, zero}
use Rattle.sdd_bag.specs.KeptValues.{without_at}
use Rattle.sdd_bag.specs.Storage.{kept_place}
use Rattle.sdd_bag.proofs.InsertedKeys.{Key, drop-next, map-drop}
use Rattle.sdd_bag.proofs.place.forget.Goals as goal

pub loop-done-preserved : goal.loop-done-preserved
loop-done-preserved g c =
    ap (λ (ks : _). ks.kept) c.take.ensures.rest
    ∙ ap (λ (ks : List (Key g.row.T.Denot)). without_at ks zero) c.loop-done.invariant
    ∙ drop-next c.loop-done.done (c.loop-done.done + 1) c.args.keys.now.kept (omega arith)

pub returns : goal.returns
returns g c =
    ap (λ (ks : List (Key g.row.T.Denot)). map kept_place ks) c.loop-done.invariant
    ∙ map-drop kept_place c.loop-done.done c.args.keys.now.kept
    ∙ ap (λ n. drop n (map kept_place c.args.keys.now.kept)) (omega (arith, c.loop-done-test.false, c.loop-done.auto.done-end))
