use Rattle.sdd_script.proofs.Words.{refl}
use Rattle.sdd_script.proofs.ContainerEnd.{ends-stack, stack-home}
use Rattle.sdd_script.proofs.ScriptEnd.{goes-same, goes-start, goes-then, live-in, reader-still, spends-next, spends-none, still-spent}
use Rattle.sdd_script.proofs.acts.leaving.spend_stacks.Goals as goal

pub loop-stack-init : goal.loop-stack-init
loop-stack-init c = spends-none (goes-start _ _ c.requires.ending) refl

pub at-requires-clause-place : goal.at-requires-clause-place
at-requires-clause-place c = live-in c.loop-stack.environment _ c.loop-stack.invariant.goes.ending

pub at-requires-clause-asked : goal.at-requires-clause-asked
at-requires-clause-asked c = (
  stack-home c.loop-stack.environment _ c.loop-stack.invariant.goes.ending c.loop-stack.stack _ c.in-Some.ensures.taken,
  reader-still c.loop-stack.invariant.goes _ c.requires.reader,
)

pub loop-stack-preserved-in_default : goal.loop-stack-preserved-in_default
loop-stack-preserved-in_default c =
    let was = c.loop-stack.invariant in
    let now = c.in_default.ensures in
    spends-next (λ u v. refl) was (record c.loop-stack.environment { lists = record c.loop-stack.environment.lists { stacks = c.take.new.self } })
    (goes-then was.goes (goes-same c.loop-stack.environment _ was.goes.ending _ (rw (still-spent _ _ _ now.spent now.taken) refl))) now.spent refl

pub loop-stack-preserved : goal.loop-stack-preserved
loop-stack-preserved c =
    let now = c.in-Some.ensures in
    let gone = ends-stack c.loop-stack.environment _ c.loop-stack.invariant.goes.ending c.is_whole.ensures _ _ _ now.taken _ now.spent c.at.ensures.done in
    spends-next (λ u v. refl) c.loop-stack.invariant _ (goes-then c.loop-stack.invariant.goes gone) now.spent refl
