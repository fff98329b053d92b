-- An owner that was taken in goes, once its unit is in the bank
use Rattle.std.proofs.Common.{◌≡◌, ◌≢◌, ℕ, ◌+◌, ◌-◌, eqb, Bool, true, sym, subst, eq-eqb, ne_eqb, arith}
use mathlib.Core.Logic.{dite}
use native.Mathlib.Decide.{ℕ_discrete}
use Rattle.sdd_domain_invariant.specs.Codes.{shared_base, retired_word, alive}
use Rattle.sdd_domain_invariant.specs.Slots.SlotSteps.{Knew}
use Rattle.sdd_domain_invariant.proofs.Codes.{shared, counted_is}
use Rattle.sdd_domain_invariant.specs.Fractions.FractionSteps.{SeatState, EntersUnit, ReleasesOne, RetiresOne, undrawing}
use Rattle.sdd_domain_steps.specs.Values.{LetsWait, LeavesOthers, LetsOneGo}

-- the word of a slot with one owner that is counted
abbrev pub one_left : ℕ
one_left = shared_base + 1

pub lets_one_go : (slot x : ℕ) (me mid me' : SeatState) → EntersUnit me mid → ReleasesOne slot mid x me' → LetsOneGo slot true (eqb x one_left) me me'
lets_one_go slot x me mid me' entered e = let is : mid ≡ (undrawing me.0, me.1) = λ d. (entered.0 d, entered.1 d) in
    let r = subst (λ (m : SeatState). ReleasesOne slot m x me') is e in let low = counted_is x r.0 in let so_many = (shared x low).0 in let some = r.1 in
    dite (ℕ_discrete x one_left)
    (λ hit. let waits : RetiresOne slot (undrawing me.0, me.1) (x - 1) me' = r.2 (omega arith) in
    let less : x - 1 ≡ retired_word true = omega arith in
    subst (λ (b : Bool). LetsOneGo slot true b me me') (sym (eq-eqb x one_left hit))
    (subst (λ (y : ℕ). LetsWait slot me y me') less waits, (λ _. subst (Knew slot me.0) hit r.4)))
    (λ miss. let more : alive x ≢ 1 = (λ one. miss (omega arith)) in
    let left : LeavesOthers slot me me' = record { word = x; counted = r.0; several = omega arith; seat = r.3 more; knew = r.4 } in
    subst (λ (b : Bool). LetsOneGo slot true b me me') (sym (ne_eqb x one_left miss)) left)
