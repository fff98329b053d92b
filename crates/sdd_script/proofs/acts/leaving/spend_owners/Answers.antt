use Rattle.sdd_script.proofs.Words.{refl}
use Rattle.sdd_script.proofs.ScriptEnd.{ends-owner, goes-same, goes-start, goes-then, live-in, owner-home, spends-next, spends-none, still-spent}
use Rattle.sdd_script.proofs.acts.leaving.spend_owners.Goals as goal

pub loop-owner-init : goal.loop-owner-init
loop-owner-init c = spends-none (goes-start _ _ c.requires) refl

pub give_up-requires-clause-place : goal.give_up-requires-clause-place
give_up-requires-clause-place c = live-in c.loop-owner.environment _ c.loop-owner.invariant.goes.ending

pub give_up-requires-clause-home : goal.give_up-requires-clause-home
give_up-requires-clause-home c = owner-home c.loop-owner.environment _ c.loop-owner.invariant.goes.ending c.loop-owner.owner _ c.in-Some.ensures.taken

pub loop-owner-preserved-in_default : goal.loop-owner-preserved-in_default
loop-owner-preserved-in_default c =
    let was = c.loop-owner.invariant in
    let now = c.in_default.ensures in
    spends-next (λ u v. refl) was (record c.loop-owner.environment { owners = c.take.new.self })
    (goes-then was.goes (goes-same c.loop-owner.environment _ was.goes.ending _ (rw (still-spent _ _ _ now.spent now.taken) refl))) now.spent refl

pub loop-owner-preserved : goal.loop-owner-preserved
loop-owner-preserved c =
    let now = c.in-Some.ensures in
    let gone = ends-owner c.loop-owner.environment _ c.loop-owner.invariant.goes.ending c.is_whole.ensures _ _ _ now.spent _ now.taken c.give_up.ensures in
    spends-next (λ u v. refl) c.loop-owner.invariant _ (goes-then c.loop-owner.invariant.goes gone) now.spent refl
