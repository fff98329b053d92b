use Rattle.std.proofs.Common.{◌≡◌, ℕ, ◌-◌, List, length, sym, ap, subst, vec_len, arith}
use Rattle.sdd_shared_values.specs.ValueFractions.{FractionContent}
use Rattle.sdd_shared_values.specs.SharedValues.{AreVacant}
use Rattle.sdd_domain_invariant.specs.Fractions.FractionsAtHome.{fraction_at, none_away, all_vacant, AreLaidTo}
use Rattle.sdd_domain_invariant.proofs.Fractions.FractionNumbers.{first_home, all_homes, vacant_more}
use Rattle.sdd_domain_invariant.proofs.gather.gather_all.Goals as goal

pub loop-slot-init : goal.loop-slot-init
loop-slot-init c = let γ : ℕ = c.args.values_name.now.gamma in let n : ℕ = c.args.participants in let m : ℕ = c.args.slots in record {
  laid = subst (λ (k : ℕ). AreLaidTo γ n k none_away all_vacant c.args.laid.items) (all_homes n m) c.requires.laid;
  fraction_list = subst (λ (t : ℕ × List FractionContent). AreVacant γ m t.0 t.1) (λ d. (
    let e : 0 ≡ m - m = omega arith in
        e d,
    sym c.new-fraction_list.ensures d,
  )) tt;
  low = omega arith;
}

pub loop-slot-preserved : goal.loop-slot-preserved
loop-slot-preserved c = let γ : ℕ = c.args.values_name.now.gamma in let m : ℕ = c.args.slots in let i : ℕ = c.loop-slot.slot in
    let inv = c.loop-slot.invariant in
    let low = inv.low in record {
      laid = c.gather_slot.ensures.laid;
      fraction_list = subst (AreVacant γ (i - 1) (m - (i - 1))) (sym c.redeem.ensures)
          (vacant_more γ (i - 1) i (m - i) (m - (i - 1)) c.gather_slot.result.content c.loop-slot.fraction_list.contents (omega arith) (omega arith)
          c.gather_slot.ensures.whole c.gather_slot.ensures.vacant inv.fraction_list);
      low = omega arith;
    }

pub destroy_empty-requires : goal.destroy_empty-requires
destroy_empty-requires c = let n : ℕ = c.args.participants in let long = c.loop-slot.invariant.laid.long in
    let d : vec_len c.loop-slot.laid ≡ length c.loop-slot.laid.items = c.loop-slot.laid.ok.0 in
    let none : c.loop-slot.slot ≡ 0 = omega arith in let e = ap (λ (i : ℕ). fraction_at n i 0) none in let f = first_home n in omega arith
