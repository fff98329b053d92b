use Rattle.sdd_rights.specs.declared.views.Sizes.{Sizes}
use Rattle.std.proofs.Common.{ℕ, sym, ap, ◌∙◌, subst, true≢false}
use Rattle.atomic_table.specs.declared.shared.Seat.{Seat}
use Rattle.sdd_rights.specs.declared.views.EpochView.{EpochView}
use Rattle.sdd_shared_values.specs.declared.value_fraction.ValueFraction.{ValueFraction}
use Rattle.sdd_rights.specs.declared.views.View.{View}
use Rattle.sdd_domain_invariant.specs.Epoch.{IsLone}
use Rattle.sdd_domain_invariant.specs.Epoch.EpochSteps.{Reads, Locks, unlocked}
use Rattle.sdd_domain_steps.specs.declared.epoch.scan.ScanEnd.{ScanEnd}
use Rattle.sdd_domain_steps.specs.Scan.{Scanned, Tells}
use Rattle.sdd_domain_steps.proofs.Scans.{failed, passed}
use Rattle.sdd_domain_steps.proofs.epoch.scan.scan.Goals.{then-all_pass, else-all_pass}
use Rattle.sdd_domain_steps.proofs.epoch.scan.scan.Goals as goal

-- once the lock was had: what is known after a whole scan, and what its end tells
whole : (c : goal.After-unlock) → Scanned c.args.seat.now.me.0.epoch c.unlock.new.seat.me.0.epoch
    × Tells c.if-all_pass.end (IsLone c.args.seat.now.me.0.epoch) c.args.seat.now.me.0.epoch.count c.unlock.new.seat.me.0.epoch.known
whole c =
    let v : EpochView = c.args.seat.now.me.0.epoch in let u : EpochView = c.unlock.new.seat.me.0.epoch in
    let a : EpochView = c.read.new.seat.me.0.epoch in
    let reads : Reads v v.count a = subst (λ (r : ℕ). Reads v r a) (c.if-read-count.false ∙ c.requires.count) c.read.ensures.1 in
    let locks : Locks a 0 c.try_lock.new.seat.me.0.epoch = subst (λ (r : ℕ). Locks a r c.try_lock.new.seat.me.0.epoch) c.if-try_lock-ne0.false
    c.try_lock.ensures.1 in
    let told : ScanEnd → Type 0 = λ (end : ScanEnd). Scanned v u × Tells end (IsLone v) v.count u.known in
    elim c.if-all_pass.branch [
      | then-all_pass w ↦ subst told (sym w.end-is) (passed w.raise-end.result v a _ _ w.raise-end.new.seat.me.0.epoch u _ reads locks
          c.all_pass.ensures.looked.1 w.raise-end.ensures.raised
          (c.unlock.ensures.1 ∙ ap (λ (z : Seat ValueFraction View). unlocked z.me.0.epoch) w.seat-is))
      | else-all_pass w ↦ subst told (sym w.end-is) (failed v a _ _ u _ reads locks c.all_pass.ensures.looked.1
          (c.unlock.ensures.1 ∙ ap (λ (z : Seat ValueFraction View). unlocked z.me.0.epoch) w.seat-is)
          (λ one. true≢false (sym (c.all_pass.ensures.lone (ap (λ (z : Sizes). z.participants) (c.try_lock.ensures.0.0.3 ∙ c.read.ensures.0.0.3)
          ∙ (sym c.requires.sized ∙ one))) ∙ w.if-all_pass.false)))
    ]

pub returns-clause-scanned : goal.returns-clause-scanned
returns-clause-scanned c = (whole c).0

pub returns-clause-told : goal.returns-clause-told
returns-clause-told c = (whole c).1
