use Rattle.std.proofs.Common.{◌≡◌, ◌<◌, List, length, slice_index_or, arith, sym, ap, ◌∙◌}
use Rattle.std.specs.Prelude.{map}
use Rattle.sdd_values.specs.declared.read_sections.SectionState.TheVariants.{Closed}
use Rattle.sdd_values.specs.ReadSections.{Kept, whole, kept_of}
use Rattle.sdd_rights.specs.declared.fraction.Fraction.{Fraction}
use Rattle.sdd_values.specs.declared.read_sections.SectionState.{SectionState}
use Rattle.sdd_values.proofs.KeptSections.{kept-changed, another-lifetime}
use Rattle.sdd_values.proofs.read_sections.ReadSections.end.Goals as goal

pub returns-clause-kept : goal.returns-clause-kept
returns-clause-kept c =
    let size = c.self.invariant.size in
    let sizes : c.self.inside.keys.home.size ≡ c.args.self.now.home.size = (λ i. (c.self.view_is i).home.size) in
    let inside : c.args.reader < length c.self.inside.sections.items = omega (arith, size, sizes, c.requires.inside) in
    let kepts : map kept_of c.self.inside.sections.items ≡ c.args.self.now.kept = (λ i. (c.self.view_is i).kept) in
    let units = ap (λ (ks : List Kept). (slice_index_or ks c.args.reader (whole Closed 0)).units) kepts ∙ c.requires.whole in (
      c.end_section.new.section.lifetime,
      rw (← c.self.view_is) (kept-changed _ _ _ _ _ inside c.index_mut-kept.ensures.value (λ e. let all = ap (λ (k : Kept). k.units) (sym e) ∙ units in
          let next = c.end_section.ensures.next in let set = c.set.ensures in
          (λ i. record { kind = (next i).kind; lifetime = c.end_section.new.section.lifetime; units = (next i).units })
          ∙ (λ i. record { kind = (set i).kind; lifetime = c.end_section.new.section.lifetime; units = (set i).units })
          ∙ (λ i. record { kind = Closed; lifetime = c.end_section.new.section.lifetime; units = all i }))),
    )

pub returns-clause-another : goal.returns-clause-another
returns-clause-another c =
    let size = c.self.invariant.size in
    let sizes : c.self.inside.keys.home.size ≡ c.args.self.now.home.size = (λ i. (c.self.view_is i).home.size) in
    let inside : c.args.reader < length c.self.inside.sections.items = omega (arith, size, sizes, c.requires.inside) in
    rw (← c.self.view_is) (another-lifetime _ _ _ _ inside c.index_mut-kept.ensures.value (λ same.
    c.end_section.ensures.another (same ∙ sym (ap (λ (p : Fraction SectionState). p.lifetime) c.set.ensures))))
