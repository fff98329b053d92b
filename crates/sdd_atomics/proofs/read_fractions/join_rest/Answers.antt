use Rattle.std.proofs.Common.{sym, ◌∷◌, ◌≡◌, ℕ, ◌+◌, ◌-◌, refl, ap, subst, arith}
use Rattle.atomic_table.specs.Table as table
use Rattle.sdd_rights.specs.declared.views.Sizes.{Sizes}
use Rattle.sdd_shared_values.specs.ValueFractions.{FractionContent}
use Rattle.sdd_shared_values.specs.SharedValues.{most, content}
use Rattle.sdd_domain_invariant.specs.Fractions.FractionsAtHome.{spare}
use Rattle.sdd_domain_invariant.specs.Fractions.FractionSteps.{CarriesAll, IsValue}
use Rattle.sdd_atomics.specs.SeatAtTable.{DomainSeat}
use Rattle.sdd_atomics.specs.DomainTable.{gamma_of, places_of}
use Rattle.sdd_atomics.proofs.LastFractions.{all_start, all_has, content_last, last_else}
use Rattle.sdd_atomics.proofs.Sitting.{row_back, spared_at, facts_same, numbers, sits}
use Rattle.sdd_atomics.proofs.read_fractions.join_rest.Goals as goal

pub slot_mut-last-requires : goal.slot_mut-last-requires
slot_mut-last-requires c = let k = sits _ _ _ c.seat.view_is c.seat.invariant in let n = numbers k in
    rw c.seat.view_is (let r = c.requires in let b = c.seat.inside.table.now in
    let s = all_start (gamma_of b) c.args.slot (places_of b) (spare (places_of b)) (IsValue r.row.0) r.row.1 c.last_home-home.result
    c.args.seat.now.me.1 c.last_home-home.ensures (subst (λ (t : ℕ × Sizes). CarriesAll t.0 c.args.slot t.1.participants (spare t.1.participants) (IsValue
    r.row.0) r.row.1 c.args.seat.now.me.1)
    (facts_same k) r.row.2) in (k.home, (s.last, s.there)))

pub returns-clause-row : goal.returns-clause-row
returns-clause-row c value others row =
    let at = sits _ _ _ c.seat.view_is c.seat.invariant in let b = c.seat.inside.table.now in let γ : ℕ = gamma_of b in let n : ℕ = places_of b in
    let slot : ℕ = c.args.slot in let k : ℕ = c.last_home-home.result in let last = c.slot_mut-last in let few = b.sized.0.participants in
    let here = subst (λ (s : DomainSeat). CarriesAll γ slot n (spare n) (IsValue value) others s.me.1) (sym c.seat.view_is)
    (spared_at at slot (IsValue value) others c.args.seat.now.me.1 row) in
    let has = all_has γ slot n (spare n) (IsValue value) others k last.result.now c.seat.inside.seat.me.1 last.ensures.value here in
    let one = ap (λ (l : FractionContent). l.units) (content_last γ slot n (spare n) (IsValue value) last.result.now has) in
    let units = ap (λ (l : FractionContent). l.units)
    (subst (λ (t : ℕ × Sizes). c.args.rest.content ≡ content t.0 slot c.args.rest.content.lifetime c.args.rest.content.shown (spare t.1.participants))
    (facts_same at) c.requires.rest) in
    let more : last.result.now.content.units + c.args.rest.content.units ≡ most - n - 0 = omega arith in
    row_back at slot 0 (IsValue value) others ((
      k,
      c.join.new.self,
    ) ∷ table.rest c.seat.inside.seat.me.1) (last_else γ slot n (spare n) 0 (last.result.now.content.units + c.args.rest.content.units)
    (IsValue value) others k
    _ _ _ _ last.ensures.value refl more c.join.ensures.joined here)
