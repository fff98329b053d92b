use Rattle.std.proofs.Common.{ℕ, ◌+◌, ◌-◌, ◌^◌, ◌%◌, sym, ◌∙◌, subst}
use Rattle.atomic_table.specs.Table.{Allows}
use Rattle.sdd_domain_invariant.specs.DomainInvariant.{DomainInvariant}
use Rattle.sdd_domain_invariant.specs.Fractions.FractionSteps.{TakesOneBack, OfSlot}
use Rattle.sdd_atomics.proofs.clones.AddOwnerDeedValueFractionViewTableLayoutDomainRule.act.Goals as goal

pub fetch_sub-requires : goal.fetch_sub-requires
fetch_sub-requires c = let r = c.requires in let e = c.fetch_add-found.ensures in let key = c.args.table.now.key in let i : ℕ = c.args.self.now.word in
    let u = c.fetch_add-found.new.seat.me in (
      e.0 ∙ r.0,
      r.1.0,
      subst (λ (k : ℕ). Allows (DomainInvariant key.values_name.gamma key.sizes) c.args.table.now.table_id.slots k u i (λ n. (n + (2 ^ 64 - 1)) % 2 ^ 64)
          (OfSlot TakesOneBack i u)) (sym e.1) (r.1.2 c.fetch_add-found.result u e.2 c.if-found-ge-MOST_SHARED.true),
    )
