use Rattle.sdd_script.proofs.Words.{refl}
use Rattle.sdd_script.proofs.ContainerEnd.{bag-kept, ends-bag}
use Rattle.sdd_script.proofs.ScriptEnd.{goes-same, goes-start, goes-then, live-in, reader-still, spends-next, spends-none, still-spent}
use Rattle.sdd_script.proofs.acts.leaving.spend_bags.Goals as goal

pub loop-bag-init : goal.loop-bag-init
loop-bag-init c = spends-none (goes-start _ _ c.requires.ending) refl

pub bag_closed_at-requires-clause-place : goal.bag_closed_at-requires-clause-place
bag_closed_at-requires-clause-place c = live-in c.loop-bag.environment _ c.loop-bag.invariant.goes.ending

pub bag_closed_at-requires-clause-home : goal.bag_closed_at-requires-clause-home
bag_closed_at-requires-clause-home c = (bag-kept c.loop-bag.environment _ c.loop-bag.invariant.goes.ending c.loop-bag.bag _ c.in-Some.ensures.taken).home

pub bag_closed_at-requires-clause-bag : goal.bag_closed_at-requires-clause-bag
bag_closed_at-requires-clause-bag c = (bag-kept c.loop-bag.environment _ c.loop-bag.invariant.goes.ending c.loop-bag.bag _ c.in-Some.ensures.taken).bag

pub bag_closed_at-requires-clause-reader : goal.bag_closed_at-requires-clause-reader
bag_closed_at-requires-clause-reader c = reader-still c.loop-bag.invariant.goes _ c.requires.reader

pub loop-bag-preserved-in_default : goal.loop-bag-preserved-in_default
loop-bag-preserved-in_default c =
    let now = c.in_default.ensures in
    spends-next (λ u v. refl) c.loop-bag.invariant (record c.loop-bag.environment { lists = record c.loop-bag.environment.lists { bags = c.take.new.self } })
    (goes-then c.loop-bag.invariant.goes (goes-same _ _ c.loop-bag.invariant.goes.ending _ (rw (still-spent _ _ _ now.spent now.taken) refl))) now.spent refl

pub loop-bag-preserved : goal.loop-bag-preserved
loop-bag-preserved c =
    let now = c.in-Some.ensures in
    let gone = ends-bag c.loop-bag.environment _ c.loop-bag.invariant.goes.ending c.is_whole.ensures _ _ _ now.taken _ now.spent c.bag_closed_at.ensures.closed in
    spends-next (λ u v. refl) c.loop-bag.invariant _ (goes-then c.loop-bag.invariant.goes gone) now.spent refl
