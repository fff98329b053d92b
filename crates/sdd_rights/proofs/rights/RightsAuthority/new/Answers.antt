use Rattle.std.proofs.Common.{◌≡◌, ℕ, ◌+◌, arith, ap, replicate, ◌∙◌}
use Rattle.sdd_rights.specs.Units.{GhostName}
use Rattle.sdd_rights.specs.RightsAuthority.{whole}
use Rattle.sdd_rights.specs.declared.fraction.GhostKeys.{GhostKeys}
use Rattle.sdd_rights.specs.declared.right.StandingKind.{StandingKind}
use Rattle.sdd_rights.proofs.IssuedFractions.{each-issued, kept-issued}
use Rattle.sdd_rights.proofs.rights.RightsAuthority.new.Goals as goal

pub loop-number-preserved : goal.loop-number-preserved
loop-number-preserved c =
    let was = c.loop-number.invariant in
    let issued = c.issue.ensures in
    let pushed = c.push_reserved.ensures in
    let home = ap (λ (b : GhostKeys StandingKind). b.home) issued.keys in
    record {
      size = ap (λ (h : GhostName). h.size) home ∙ was.size;
      tables = ap (λ (h : GhostName). h.tables) home ∙ was.tables;
      next = ap (λ (b : GhostKeys StandingKind). b.next) issued.keys ∙ ap (λ (n : ℕ). n + 1) was.next;
      len = omega (arith, was.len, pushed.len);
      room = omega (arith, was.room, pushed.capacity);
      kept = kept-issued _ _ _ _ _ pushed.items was.kept issued.kind issued.units;
      each = each-issued _ _ _ _ _ c.loop-number._number pushed.items home (omega (arith, was.len, pushed.len)) (omega (arith, was.len)) was.each issued.home
          (issued.number ∙ was.next);
    }

pub invariant_of-result : goal.invariant_of-result
invariant_of-result c =
    let was = c.loop-number.invariant in
    record { tables = was.tables; size = omega (arith, was.len, was.size, c.loop-number-test.false, c.loop-number.auto._number-end); each = was.each }

pub returns : goal.returns
returns c =
    let was = c.loop-number.invariant in
    let all : c.loop-number._number ≡ c.args.size = omega (arith, c.loop-number-test.false, c.loop-number.auto._number-end) in
    record { size = was.size; kept = was.kept ∙ ap (λ (n : ℕ). replicate n (whole c.args.kind)) all }
