use Rattle.std.proofs.Common.{◌≡◌, ℕ, ◌+◌, ◌-◌, length, sym, refl, ap, ◌∙◌, subst, vec_len, arith}
use Rattle.sdd_shared_values.specs.ValueFractions.{FractionContent}
use Rattle.sdd_shared_values.specs.SharedValues.{AreVacant}
use Rattle.sdd_domain_invariant.specs.Fractions.FractionsAtHome.{fraction_at, none_away, all_vacant, AreLaidTo}
use Rattle.sdd_domain_invariant.proofs.Fractions.FractionHomes.{inside}
use Rattle.sdd_domain_invariant.proofs.Fractions.FractionNumbers.{row_ends, all_homes, none_laid, vacant_first}
use Rattle.sdd_domain_invariant.proofs.lay.lay_all.Goals as goal

pub loop-slot-init : goal.loop-slot-init
loop-slot-init c = record {
  laid = subst (AreLaidTo c.args.values_name.now.gamma c.args.participants (fraction_at c.args.participants 0 0) none_away all_vacant) (sym c.requires.empty)
      (none_laid c.args.values_name.now.gamma c.args.participants none_away all_vacant);
  fraction_list = subst (λ (k : ℕ). AreVacant c.args.values_name.now.gamma 0 k c.args.fraction_list.contents)
      (let e : c.args.slots ≡ c.args.slots - 0 = omega arith in e)
      c.requires.fraction_list;
  capacity = refl;
}

pub lay_slot-requires-clause-laid : goal.lay_slot-requires-clause-laid
lay_slot-requires-clause-laid c = let γ : ℕ = c.args.values_name.now.gamma in let n : ℕ = c.args.participants in let i : ℕ = c.loop-slot.slot in
    let inv = c.loop-slot.invariant in
    let first = vacant_first γ i (i + 1) (c.args.slots - (i + 1))
    (c.args.slots - i) c.loop-slot.fraction_list.contents c.issue.result.content c.issue.new.self.contents refl
    (omega arith) c.issue.ensures inv.fraction_list in
    subst (λ (b : ℕ). AreLaidTo b n (fraction_at n i 0) none_away all_vacant c.loop-slot.laid.items) (sym (ap (λ
    (h : FractionContent). h.gamma) first.0)) inv.laid

pub lay_slot-requires-clause-room : goal.lay_slot-requires-clause-room
lay_slot-requires-clause-room c = let n : ℕ = c.args.participants in let i : ℕ = c.loop-slot.slot in let inv = c.loop-slot.invariant in
    let long = inv.laid.long in let a = inside n c.args.slots i n c.loop-slot-test.true (omega arith) in let b = row_ends n i in
    let d : vec_len c.loop-slot.laid ≡ length c.loop-slot.laid.items = c.loop-slot.laid.ok.0 in let e = c.requires.room in let f = inv.capacity in omega arith

pub returns : goal.returns
returns c = let n : ℕ = c.args.participants in
    subst (λ (k : ℕ). AreLaidTo c.args.values_name.now.gamma n k none_away all_vacant c.loop-slot.laid.items)
    (ap (λ (i : ℕ). fraction_at n i 0) (let e : c.loop-slot.slot ≡ c.args.slots = omega arith in e) ∙ sym (all_homes n c.args.slots)) c.loop-slot.invariant.laid
