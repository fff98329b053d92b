use Rattle.std.proofs.Common.{arith, ℕ, Option, ◌≡◌, ◌≢◌, ◌⊎◌, None, Some, sym, subst, ap, ◌∙◌}
use Rattle.sdd_domain_steps.specs.LocalState.{LocalState, IsLone}
use Rattle.sdd_domain_steps.specs.Scan.{Tells}
use Rattle.sdd_domain_steps.specs.declared.epoch.scan.ScanEnd.{ScanEnd}
use Rattle.sdd_domain_core.specs.ScanAtClose.{TellsScan}
use Rattle.sdd_domain_core.proofs.local_core.LocalCore.close_guard.Goals.{then-self-gt1, else-self-gt1+else-self-ne0}
use Rattle.sdd_domain_core.proofs.local_core.LocalCore.close_guard.Goals as goal

-- under another guard there is no scan
unscanned : {J : Type 0} {told : Option ScanEnd} {own old new : LocalState J} → own.own.guards ≢ 1 → told ≡ None → own ≡ old → TellsScan told old new
unscanned {told = told} {own = own} {new = new} nested none same = subst (λ (m : LocalState _). TellsScan told m new) same (record {
  tried = λ one zero. absurd {0} (nested one);
  none = λ other. none;
})

-- what a scan tells, of the same by other names
scanned : {J : Type 0} {said told : Option ScanEnd} {own old new : LocalState J} (now : LocalState J) →
    (own.own.guards ≡ 1 → own.own.countdown ≡ 0 → (end : ScanEnd) × (said ≡ Some end) × Tells end (IsLone own) own.own.found now.known) →
    ((own.own.guards ≢ 1) ⊎ (own.own.countdown ≢ 0) → said ≡ None) → told ≡ said → own ≡ old → new.known ≡ now.known → TellsScan told old new
scanned {told = told} {own = own} {new = new} now tried none is same known = subst (λ (m : LocalState _). TellsScan told m new) same (record {
  tried = λ one zero. (let end = tried one zero in
      (end.0, is ∙ end.1, subst (λ (k : ℕ). Tells end.0 (IsLone own) own.own.found k) (sym known) end.2));
  none = λ other. is ∙ none other;
})

pub returns-clause-told : goal.returns-clause-told
returns-clause-told g c = elim c.if-self-gt1.branch [
  | else-self-gt1+else-self-ne0 w ↦ (let told = w.close_last_after_scan.ensures.told in
      scanned w.close_last_after_scan.new.self told.tried told.none (ap (λ (p : ℕ × Option ScanEnd). p.1) w.left-is) c.self.view_is
      (ap (λ (m : LocalState _). m.known) (c.self-2.view_is ∙ w.self-is)))
  | then-self-gt1 w ↦ unscanned (λ one. omega (arith, one, w.if-self-gt1.true)) (ap (λ (p : ℕ × Option ScanEnd). p.1) w.left-is) c.self.view_is
]
