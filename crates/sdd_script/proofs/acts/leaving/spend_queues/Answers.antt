use Rattle.sdd_script.proofs.Words.{refl}
use Rattle.sdd_script.proofs.ContainerEnd.{ends-queue, queue-home}
use Rattle.sdd_script.proofs.ScriptEnd.{goes-same, goes-start, goes-then, live-in, reader-still, spends-next, spends-none, still-spent}
use Rattle.sdd_script.proofs.acts.leaving.spend_queues.Goals as goal

pub loop-queue-init : goal.loop-queue-init
loop-queue-init c = spends-none (goes-start _ _ c.requires.ending) refl

pub at-requires-clause-place : goal.at-requires-clause-place
at-requires-clause-place c = live-in c.loop-queue.environment _ c.loop-queue.invariant.goes.ending

pub at-requires-clause-asked : goal.at-requires-clause-asked
at-requires-clause-asked c = (
  queue-home c.loop-queue.environment _ c.loop-queue.invariant.goes.ending c.loop-queue.queue _ c.in-Some.ensures.taken,
  reader-still c.loop-queue.invariant.goes _ c.requires.reader,
)

pub loop-queue-preserved-in_default : goal.loop-queue-preserved-in_default
loop-queue-preserved-in_default c =
    let was = c.loop-queue.invariant in
    let now = c.in_default.ensures in
    spends-next (λ u v. refl) was (record c.loop-queue.environment { lists = record c.loop-queue.environment.lists { queues = c.take.new.self } })
    (goes-then was.goes (goes-same c.loop-queue.environment _ was.goes.ending _ (rw (still-spent _ _ _ now.spent now.taken) refl))) now.spent refl

pub loop-queue-preserved : goal.loop-queue-preserved
loop-queue-preserved c =
    let now = c.in-Some.ensures in
    let gone = ends-queue c.loop-queue.environment _ c.loop-queue.invariant.goes.ending c.is_whole.ensures _ _ _ now.taken _ now.spent c.at.ensures.done in
    spends-next (λ u v. refl) c.loop-queue.invariant _ (goes-then c.loop-queue.invariant.goes gone) now.spent refl
