use Rattle.std.proofs.Common.{◌≡◌, ℕ, ◌-◌, List, sym, refl, ap, ◌∙◌, subst, arith}
use Rattle.core.specs.Mem.Slots.{slots_items, slots_counts}
use Rattle.sdd_shared_values.specs.ValueFractions.{FractionContent}
use Rattle.sdd_shared_values.specs.SharedValues.{AreVacant}
use Rattle.sdd_domain_invariant.specs.Codes.{full}
use Rattle.sdd_domain_invariant.specs.Slots.{slot_at}
use Rattle.sdd_domain_invariant.specs.Fractions.FractionsAtHome.{fraction_at, AreHome}
use Rattle.sdd_domain_invariant.proofs.Fractions.FractionNumbers.{all_homes, first_home, vacant_more}
use Rattle.sdd_domain_core.proofs.closing.gather_all_fractions.Goals as goal

pub loop-slot-init : goal.loop-slot-init
loop-slot-init c = let z = c.args.sizes.now in let γ : ℕ = c.args.values_name.now.gamma in let m : ℕ = z.slots in let home = c.requires.home in
    let count = c.slot_count-left.ensures in record {
      home = subst (λ (k : ℕ). AreHome γ z k c.args.closed.now) (sym count) home;
      left = count ∙ ((slots_counts c.args.closed.now.slots).0 ∙ (home.laid.long ∙ all_homes z.participants m));
      low = omega arith;
      fraction_list = subst (λ (t : ℕ × List FractionContent). AreVacant γ m t.0 t.1) (λ d. (
        let e : 0 ≡ m - m = omega arith in
            e d,
        sym c.new-fraction_list.ensures d,
      )) tt;
      words = refl;
    }

pub gather_home-requires-clause-free : goal.gather_home-requires-clause-free
gather_home-requires-clause-free c = let z = c.args.sizes.now in let i : ℕ = c.loop-slot.slot - 1 in let low = c.loop-slot.invariant.low in
    ap (λ (w : _). full (slot_at z (slots_items w) i)) c.loop-slot.invariant.words ∙ c.requires.free i (omega arith)

pub loop-slot-preserved : goal.loop-slot-preserved
loop-slot-preserved c = let z = c.args.sizes.now in let γ : ℕ = c.args.values_name.now.gamma in let i : ℕ = c.loop-slot.slot - 1 in
    let inv = c.loop-slot.invariant in let low = inv.low in let gather = c.gather_home in record {
      home = gather.ensures.home;
      left = gather.ensures.left;
      low = omega arith;
      fraction_list = subst (AreVacant γ i (z.slots - i)) (sym c.redeem.ensures)
          (vacant_more γ i c.loop-slot.slot (z.slots - c.loop-slot.slot) (z.slots - i) gather.result.content c.loop-slot.fraction_list.contents
          (omega arith) (omega arith)
          gather.ensures.whole gather.ensures.vacant inv.fraction_list);
      words = gather.ensures.words ∙ inv.words;
    }

pub returns-clause-emptied : goal.returns-clause-emptied
returns-clause-emptied c k low = let n : ℕ = c.args.sizes.now.participants in let inv = c.loop-slot.invariant in let left = inv.left in
    let none : c.loop-slot.slot ≡ 0 = omega arith in let e = ap (λ (i : ℕ). fraction_at n i 0) none in let f = first_home n in
    inv.home.gone k (omega arith)
