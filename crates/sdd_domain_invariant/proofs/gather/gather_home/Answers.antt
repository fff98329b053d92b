use Rattle.std.proofs.Common.{◌≡◌, ℕ, ◌+◌, ◌-◌, refl, sym, ap, ◌∙◌, arith}
use base.Stored.{Gv}
use Rattle.core.specs.Mem.Slots.{slots_items}
use Rattle.sdd_shared_values.specs.ValueFractions.{FractionContent}
use Rattle.sdd_shared_values.specs.SharedValues.{most}
use Rattle.sdd_domain_invariant.specs.Slots.{slot_at}
use Rattle.sdd_domain_invariant.proofs.Codes.{sound}
use Rattle.sdd_domain_invariant.specs.Fractions.FractionsAtHome.{fraction_at, homes_for, away, full_at, MatchesSlotWord}
use Rattle.sdd_domain_invariant.proofs.Fractions.FractionHomes.{inside}
use Rattle.sdd_domain_invariant.proofs.Fractions.FractionNumbers.{next_fraction, next_slot, found, one_joined, unit_of, rest_of}
use Rattle.sdd_domain_invariant.proofs.gather.gather_home.Goals as goal

pub take_last_home-whole-requires-clause-some : goal.take_last_home-whole-requires-clause-some
take_last_home-whole-requires-clause-some g c = let n : ℕ = c.args.sizes.now.participants in let left = c.requires.left in
    let e = next_slot n c.args.slot (c.args.slot + 1) n refl refl in omega arith

pub loop-place-init : goal.loop-place-init
loop-place-init g c = let γ : ℕ = c.args.values_name.now.gamma in let z = c.args.sizes.now in let n : ℕ = z.participants in let i : ℕ = c.args.slot in
    let t = c.take_last_home-whole in let before = c.requires.left in let one = t.ensures.one in
    let e = next_slot n i (i + 1) (n - 0) refl (omega arith) in let left : t.new.left ≡ fraction_at n i (n - 0) = omega arith in
    let words = t.ensures.same.0 in
    let Is : ℕ → Gv → Type 0 = λ j. MatchesSlotWord (full_at z (slots_items c.args.closed.now.words) j) in
    let own : ℕ → ℕ = λ j. away n (full_at z (slots_items c.args.closed.now.words) j) in
    let free = sound.empty (slot_at z (slots_items c.args.closed.now.words) i) c.requires.free in
    let none : own i ≡ 0 = ap (away n) free in
    let has = found γ n own Is i (n - 0) (homes_for n z.slots) t.new.left (slots_items c.args.closed.now.slots) t.result (omega arith)
    (inside n z.slots i (n - 0) c.requires.inside (omega arith)) left t.ensures.fraction c.requires.home.laid in record {
      home = t.ensures.home;
      left = left;
      whole = rest_of γ i n (own i) (Is i) (n - 0) (most - n + 0) t.result (omega arith) (omega arith) has;
      vacant = has.1.1 free;
      words = words;
    }

pub take_last_home-requires-clause-some : goal.take_last_home-requires-clause-some
take_last_home-requires-clause-some g c = let n : ℕ = c.args.sizes.now.participants in let p : ℕ = c.loop-place._place in
    let left = c.loop-place.invariant.left in let e = next_fraction n c.args.slot (n - (p + 1)) (n - p) (omega arith) in omega arith

pub join-requires-clause-gamma : goal.join-requires-clause-gamma
join-requires-clause-gamma g c = let γ : ℕ = c.args.values_name.now.gamma in let z = c.args.sizes.now in let n : ℕ = z.participants in
    let i : ℕ = c.args.slot in
    let p : ℕ = c.loop-place._place in let inv = c.loop-place.invariant in let t = c.take_last_home in let before = inv.left in let one = t.ensures.one in
    let e = next_fraction n i (n - (p + 1)) (n - p) (omega arith) in let left : t.new.left ≡ fraction_at n i (n - (p + 1)) = omega arith in
    let Is : ℕ → Gv → Type 0 = λ j. MatchesSlotWord (full_at z (slots_items c.loop-place.closed.words) j) in
    let own : ℕ → ℕ = λ j. away n (full_at z (slots_items c.loop-place.closed.words) j) in
    let unit = unit_of γ i n (own i) (Is i) (n - (p + 1)) t.result (omega arith) (found γ n own Is i (n - (p + 1)) (homes_for n z.slots) t.new.left
    (slots_items c.loop-place.closed.slots) t.result (omega arith) (inside n z.slots i (n - (p + 1)) c.requires.inside (omega arith)) left t.ensures.fraction
    inv.home.laid) in
    ap (λ (h : FractionContent). h.gamma) unit ∙ sym (ap (λ (h : FractionContent). h.gamma) inv.whole)

pub join-requires-clause-number : goal.join-requires-clause-number
join-requires-clause-number g c = let γ : ℕ = c.args.values_name.now.gamma in let z = c.args.sizes.now in let n : ℕ = z.participants in
    let i : ℕ = c.args.slot in
    let p : ℕ = c.loop-place._place in let inv = c.loop-place.invariant in let t = c.take_last_home in let before = inv.left in let one = t.ensures.one in
    let e = next_fraction n i (n - (p + 1)) (n - p) (omega arith) in let left : t.new.left ≡ fraction_at n i (n - (p + 1)) = omega arith in
    let Is : ℕ → Gv → Type 0 = λ j. MatchesSlotWord (full_at z (slots_items c.loop-place.closed.words) j) in
    let own : ℕ → ℕ = λ j. away n (full_at z (slots_items c.loop-place.closed.words) j) in
    let unit = unit_of γ i n (own i) (Is i) (n - (p + 1)) t.result (omega arith) (found γ n own Is i (n - (p + 1)) (homes_for n z.slots) t.new.left
    (slots_items c.loop-place.closed.slots) t.result (omega arith) (inside n z.slots i (n - (p + 1)) c.requires.inside (omega arith)) left t.ensures.fraction
    inv.home.laid) in
    ap (λ (h : FractionContent). h.number) unit ∙ sym (ap (λ (h : FractionContent). h.number) inv.whole)

pub join-requires-clause-free : goal.join-requires-clause-free
join-requires-clause-free g c = let γ : ℕ = c.args.values_name.now.gamma in let z = c.args.sizes.now in let n : ℕ = z.participants in let i : ℕ = c.args.slot in
    let p : ℕ = c.loop-place._place in let inv = c.loop-place.invariant in let t = c.take_last_home in let before = inv.left in let one = t.ensures.one in
    let e = next_fraction n i (n - (p + 1)) (n - p) (omega arith) in let left : t.new.left ≡ fraction_at n i (n - (p + 1)) = omega arith in
    let Is : ℕ → Gv → Type 0 = λ j. MatchesSlotWord (full_at z (slots_items c.loop-place.closed.words) j) in
    let own : ℕ → ℕ = λ j. away n (full_at z (slots_items c.loop-place.closed.words) j) in
    let unit = unit_of γ i n (own i) (Is i) (n - (p + 1)) t.result (omega arith) (found γ n own Is i (n - (p + 1)) (homes_for n z.slots) t.new.left
    (slots_items c.loop-place.closed.slots) t.result (omega arith) (inside n z.slots i (n - (p + 1)) c.requires.inside (omega arith)) left t.ensures.fraction
    inv.home.laid) in
    (ap (λ (h : FractionContent). h.lent) inv.whole, ap (λ (h : FractionContent). h.lent) unit)

pub loop-place-preserved : goal.loop-place-preserved
loop-place-preserved g c = let γ : ℕ = c.args.values_name.now.gamma in let z = c.args.sizes.now in let n : ℕ = z.participants in let i : ℕ = c.args.slot in
    let p : ℕ = c.loop-place._place in let inv = c.loop-place.invariant in let t = c.take_last_home in let before = inv.left in let one = t.ensures.one in
    let e = next_fraction n i (n - (p + 1)) (n - p) (omega arith) in let left : t.new.left ≡ fraction_at n i (n - (p + 1)) = omega arith in
    let Is : ℕ → Gv → Type 0 = λ j. MatchesSlotWord (full_at z (slots_items c.loop-place.closed.words) j) in
    let own : ℕ → ℕ = λ j. away n (full_at z (slots_items c.loop-place.closed.words) j) in
    let unit = unit_of γ i n (own i) (Is i) (n - (p + 1)) t.result (omega arith) (found γ n own Is i (n - (p + 1)) (homes_for n z.slots) t.new.left
    (slots_items c.loop-place.closed.slots) t.result (omega arith) (inside n z.slots i (n - (p + 1)) c.requires.inside (omega arith)) left t.ensures.fraction
    inv.home.laid) in
    let words = t.ensures.same.0 in record {
      home = t.ensures.home;
      left = left;
      whole = one_joined γ i n c.loop-place.whole.content t.result.content c.join.new.self.content (most - n + p) (most - n + (p + 1))
          (omega arith) inv.whole unit
          c.join.ensures.joined;
      vacant = ap (λ (h : FractionContent). h.shown) c.join.ensures.joined ∙ inv.vacant;
      words = words ∙ inv.words;
    }
