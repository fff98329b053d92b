use Rattle.std.proofs.Common.{◌≡◌, ◌<◌, List, length, slice_index_or, arith, sym, ap, ◌∙◌}
use Rattle.std.specs.Prelude.{map}
use Rattle.sdd_values.specs.declared.read_sections.SectionState.TheVariants.{Closed, Open}
use Rattle.sdd_values.specs.ReadSections.{Kept, whole, kept_of}
use Rattle.sdd_values.proofs.KeptSections.{kept-changed}
use Rattle.sdd_values.proofs.read_sections.ReadSections.begin.Goals as goal

pub returns-clause-kept : goal.returns-clause-kept
returns-clause-kept c =
    let size = c.self.invariant.size in
    let sizes : c.self.inside.keys.home.size ≡ c.args.self.now.home.size = (λ i. (c.self.view_is i).home.size) in
    let inside : c.args.reader < length c.self.inside.sections.items = omega (arith, size, sizes, c.requires.inside) in
    let kepts : map kept_of c.self.inside.sections.items ≡ c.args.self.now.kept = (λ i. (c.self.view_is i).kept) in
    let units = ap (λ (ks : List Kept). (slice_index_or ks c.args.reader (whole Closed 0)).units) kepts ∙ c.requires.whole in
    rw (← c.self.view_is) (kept-changed _ _ _ _ _ inside c.index_mut.ensures.value (λ e. let all = ap (λ (k : Kept). k.units) (sym e) ∙ units in
    rw (c.set.ensures) (λ i. record { kind = Open; lifetime = (sym e i).lifetime; units = all i })))
