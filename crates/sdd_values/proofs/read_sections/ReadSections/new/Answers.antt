use Rattle.std.proofs.Common.{ℕ, ◌+◌, ◌<◌, length, arith, ap, ◌∙◌}
use Rattle.std.proofs.lemmas.List.{get_or-map}
use Rattle.core.proofs.slice.Lists.{hd}
use Rattle.sdd_rights.specs.Units.{GhostName}
use Rattle.sdd_rights.specs.declared.fraction.Fraction.{Fraction}
use Rattle.sdd_rights.specs.declared.fraction.GhostKeys.{GhostKeys}
use Rattle.sdd_values.specs.declared.read_sections.SectionState.{SectionState}
use Rattle.sdd_values.specs.declared.read_sections.SectionState.TheVariants.{Closed}
use Rattle.sdd_values.specs.ReadSections.{Kept, whole, kept_of}
use Rattle.sdd_values.proofs.IssuedSections.{each-issued, closed-issued}
use Rattle.sdd_values.proofs.read_sections.ReadSections.new.Goals as goal

pub loop-number-preserved : goal.loop-number-preserved
loop-number-preserved c =
    let was = c.loop-number.invariant in
    let issued = c.issue.ensures in
    let pushed = c.push_reserved.ensures in
    let home = ap (λ (b : GhostKeys SectionState). b.home) issued.keys in
    record {
      size = ap (λ (h : GhostName). h.size) home ∙ was.size;
      next = ap (λ (b : GhostKeys SectionState). b.next) issued.keys ∙ ap (λ (n : ℕ). n + 1) was.next;
      len = omega (arith, was.len, pushed.len);
      room = omega (arith, was.room, pushed.capacity);
      closed = closed-issued _ _ _ _ pushed.items (omega (arith, was.len)) was.closed issued.kind issued.units;
      each = each-issued _ _ _ _ _ c.loop-number._number pushed.items home (omega (arith, was.len, pushed.len)) (omega (arith, was.len)) was.each issued.home
          (issued.number ∙ was.next);
    }

pub invariant_of-result : goal.invariant_of-result
invariant_of-result c =
    let was = c.loop-number.invariant in
    record { size = omega (arith, was.len, was.size, c.loop-number-test.false, c.loop-number.auto._number-end); each = was.each }

pub returns-clause-closed : goal.returns-clause-closed
returns-clause-closed c k near =
    let inv = c.loop-number.invariant in let sections = c.loop-number.sections.items in
    let len = c.loop-number.sections.ok.0 in let inside : k < length sections = omega (arith, len, inv.len, c.loop-number-test.false, near) in
    let d : Fraction SectionState = hd sections (omega arith) in let is = get_or-map kept_of sections k d (whole Closed 0) inside in
    let below : k < c.loop-number._number = omega (arith, len, inv.len, inside) in let said = inv.closed k d below in
    (ap (λ (x : Kept). x.kind) is ∙ said.0, ap (λ (x : Kept). x.units) is ∙ said.1)
