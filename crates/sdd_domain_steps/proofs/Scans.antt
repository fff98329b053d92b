-- A whole scan, of what is known before and after each step
use Rattle.std.proofs.Common.{◌≡◌, ℕ, ◌+◌, ◌<◌, ◌≤◌, ◌^◌, sym, refl, ap, ◌∙◌, subst, arith}
use Rattle.sdd_rights.specs.declared.views.EpochView.{EpochView}
use Rattle.sdd_domain_invariant.specs.Epoch.{IsLone}
use Rattle.sdd_domain_invariant.specs.Epoch.EpochSteps.{knowing, scanning, unlocked, Reads, Locks, Unlocks}
use Rattle.sdd_domain_steps.specs.Scan.{Raises, Scanned, Tells, looked_to}
use Rattle.sdd_domain_steps.specs.declared.epoch.scan.ScanEnd.{ScanEnd}
use Rattle.sdd_domain_steps.specs.declared.epoch.scan.ScanEnd.TheVariants.{Raised, Outdated, Locked, Held, Overtaken, Last}

-- what is known after the lock was had and k places were looked at
abbrev held : EpochView → ℕ → EpochView
held v k = looked_to (scanning (knowing v v.count)) k

looked : (v a b d : EpochView) (k : ℕ) → Reads v v.count a → Locks a 0 b → d ≡ looked_to b k → d ≡ held v k
looked v a b d k reads locks looks = looks ∙ ap (λ (t : EpochView). looked_to t k) (locks.0 refl ∙ ap scanning reads.0)

-- nothing was raised: a look failed, or the count was the last
stays : (v : EpochView) (k : ℕ) → v.known ≤ v.count → (IsLone v → v.count + 1 < 2 ^ 64 → ⊥) → Scanned v (unlocked (held v k))
stays v k low none = record {
  all = refl;
  place = refl;
  state = refl;
  count = refl;
  since = refl;
  found = refl;
  free = λ z. omega arith;
  rises = low;
  near = λ _ below. omega arith;
  raised = λ one _ few. absurd (none one few);
  last = λ _ same _. sym same;
}

-- the count was raised
rises : (v : EpochView) (k : ℕ) → v.known ≤ v.count → v.count + 1 < 2 ^ 64 → Scanned v (unlocked (knowing (held v k) (v.count + 1)))
rises v k low few = record {
  all = refl;
  place = refl;
  state = refl;
  count = refl;
  since = refl;
  found = refl;
  free = λ z. omega arith;
  rises = omega arith;
  near = λ _ below. omega arith;
  raised = λ _ _ _. refl;
  last = λ _ _ z. absurd (omega arith);
}

-- the lock was had, and a look failed
pub failed : (v a b d u : EpochView) (k : ℕ) → Reads v v.count a → Locks a 0 b → d ≡ looked_to b k → Unlocks d 0 u → ¬ (IsLone v)
    → Scanned v u × Tells Held (IsLone v) v.count u.known
failed v a b d u k reads locks looks unlocks many =
    let e : u ≡ unlocked (held v k) = unlocks ∙ ap unlocked (looked v a b d k reads locks looks) in
    (subst (Scanned v) (sym e) (stays v k reads.1 (λ one _. many one)), (many, ap (λ (w : EpochView). w.known) e))

-- all passed, and an exchange was tried unless the count is the last one
ended : (end : ScanEnd) (v f u : EpochView) (k : ℕ) → v.known ≤ v.count → Raises end (held v k) f → u ≡ unlocked f
    → Scanned v u × Tells end (IsLone v) v.count u.known
ended Raised v f u k low raises is = let e : u ≡ unlocked (knowing (held v k) (v.count + 1)) = is ∙ ap unlocked raises.1 in
    (subst (Scanned v) (sym e) (rises v k low raises.0), (raises.0, ap (λ (w : EpochView). w.known) e))
ended Overtaken v f u k low raises is = let e : u ≡ unlocked (held v k) = is ∙ ap unlocked raises.1 in
    let many : ¬ (IsLone v) = λ one. raises.0 one refl in
    (subst (Scanned v) (sym e) (stays v k low (λ one _. many one)), (many, ap (λ (w : EpochView). w.known) e))
ended Last v f u k low raises is = let e : u ≡ unlocked (held v k) = is ∙ ap unlocked raises.1 in let last : v.count + 1 ≡ 2 ^ 64 = raises.0 in
    (subst (Scanned v) (sym e) (stays v k low (λ _ few. omega arith)), (last, ap (λ (w : EpochView). w.known) e))
ended Outdated v f u k low raises is = absurd raises
ended Locked v f u k low raises is = absurd raises
ended Held v f u k low raises is = absurd raises

-- all passed
pub passed : (end : ScanEnd) (v a b d f u : EpochView) (k : ℕ) → Reads v v.count a → Locks a 0 b → d ≡ looked_to b k → Raises end d f → Unlocks f 0 u
    → Scanned v u × Tells end (IsLone v) v.count u.known
passed end v a b d f u k reads locks looks raises unlocks =
    ended end v f u k reads.1 (subst (λ (t : EpochView). Raises end t f) (looked v a b d k reads locks looks) raises) unlocks
