use Rattle.std.proofs.Common.{◌∷◌, sym, subst, ◌≡◌, ℕ, ◌-◌, refl, ap, ◌∙◌, arith}
use Rattle.atomic_table.specs.Table as table
use Rattle.sdd_shared_values.specs.ValueFractions.{FractionContent}
use Rattle.sdd_shared_values.specs.SharedValues.{most}
use Rattle.sdd_domain_invariant.specs.Fractions.FractionsAtHome.{spare}
use Rattle.sdd_domain_invariant.specs.Fractions.FractionSteps.{CarriesAll, IsValue}
use Rattle.sdd_atomics.specs.SeatAtTable.{DomainSeat}
use Rattle.sdd_atomics.specs.DomainTable.{gamma_of, places_of}
use Rattle.sdd_atomics.specs.ReadFractions.{IsReadFractionOf}
use Rattle.sdd_atomics.proofs.LastFractions.{all_start, all_has, content_last, last_else, cut_read_fractions}
use Rattle.sdd_atomics.proofs.Sitting.{spared_back, row_at, numbers, sits}
use Rattle.sdd_atomics.proofs.read_fractions.cut_rest.Goals as goal

pub slot_mut-last-requires : goal.slot_mut-last-requires
slot_mut-last-requires c = let k = sits _ _ _ c.seat.view_is c.seat.invariant in let n = numbers k in
    rw c.seat.view_is (let r = c.requires in let b = c.seat.inside.table.now in
    let s = all_start (gamma_of b) c.args.slot (places_of b) 0 (IsValue r.row.0) r.row.1 c.last_home-home.result c.args.seat.now.me.1
    c.last_home-home.ensures (row_at k _ _ _ _ _ r.row.2) in (k.home, (s.last, s.there)))

pub returns-clause-row : goal.returns-clause-row
returns-clause-row c value others row =
    let at = sits _ _ _ c.seat.view_is c.seat.invariant in let b = c.seat.inside.table.now in let γ : ℕ = gamma_of b in let n : ℕ = places_of b in
    let slot : ℕ = c.args.slot in let k : ℕ = c.last_home-home.result in let last = c.slot_mut-last in let few = b.sized.0.participants in
    let here = subst (λ (s : DomainSeat). CarriesAll γ slot n 0 (IsValue value) others s.me.1) (sym c.seat.view_is)
    (row_at at slot 0 (IsValue value) others c.args.seat.now.me.1 row) in
    let has = all_has γ slot n 0 (IsValue value) others k last.result.now c.seat.inside.seat.me.1 last.ensures.value here in
    let whole = content_last γ slot n 0 (IsValue value) last.result.now has in let units = ap (λ (l : FractionContent). l.units) whole in
    let less : last.result.now.content.units - c.spare.result ≡ most - n - spare n = (let s = c.spare.ensures in omega arith) in (
      spared_back at slot (IsValue value) others ((
        k,
        c.split-rest.new.self,
      ) ∷ table.rest c.seat.inside.seat.me.1) (last_else γ slot n 0 (spare n) (last.result.now.content.units - c.spare.result) (IsValue
          value) others k _ _ _ _
          last.ensures.value refl less c.split-rest.ensures.rest here),
      subst (λ (g : ℕ). IsReadFractionOf g slot value c.into_read_fraction-read_fraction.result) (sym at.gamma)
          (cut_read_fractions γ slot _ value last.result.now c.split.result.content c.into_read_fraction-read_fraction.result has
          (c.split.ensures.part ∙ ap (λ (l : FractionContent). record l { units = 1 }) c.split-rest.ensures.part) c.into_read_fraction-read_fraction.ensures),
      ap (λ (l : FractionContent). l.shown) c.split.ensures.rest ∙ (ap (λ (l : FractionContent). l.shown) c.split-rest.ensures.part ∙ has.1.1),
    )
