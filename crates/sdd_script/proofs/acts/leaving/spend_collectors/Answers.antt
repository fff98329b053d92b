use Rattle.sdd_script.proofs.Words.{refl}
use Rattle.sdd_script.proofs.ScriptEnd.{collector-home, ends-collector, spends-next, spends-none, still-spent}
use Rattle.sdd_script.proofs.acts.leaving.spend_collectors.Goals as goal

pub loop-collector-init : goal.loop-collector-init
loop-collector-init c = spends-none (c.requires.sound, (refl, refl, refl)) refl

pub leave_collector-requires : goal.leave_collector-requires
leave_collector-requires c =
    let was = c.loop-collector.invariant in
    record { home = collector-home c.loop-collector.environment was.goes.0 (rw was.rest c.requires.shut) c.loop-collector.collector _ c.in-Some.ensures.taken }

pub loop-collector-preserved-in_default : goal.loop-collector-preserved-in_default
loop-collector-preserved-in_default c =
    let was = c.loop-collector.invariant in
    let now = c.in_default.ensures in
    spends-next (λ u v. refl) was (record c.loop-collector.environment { collectors = c.take.new.self })
    (rw (still-spent _ _ _ now.spent now.taken) was.goes.0, was.goes.1) now.spent refl

pub loop-collector-preserved : goal.loop-collector-preserved
loop-collector-preserved c =
    let was = c.loop-collector.invariant in
    let now = c.in-Some.ensures in
    let left = c.leave_collector.ensures in
    spends-next (λ u v. refl) was (record c.loop-collector.environment { world = c.leave_collector.new.world; collectors = c.take.new.self }) (
      ends-collector c.loop-collector.environment was.goes.0 (rw was.rest c.requires.shut) c.is_whole.ensures _ _ now.taken c.leave_collector.new.world
          c.take.new.self.entries left.null left.left now.spent,
      rw left.left was.goes.1,
    )
    now.spent refl
