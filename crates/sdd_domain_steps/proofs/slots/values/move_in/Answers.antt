use Rattle.sdd_shared_values.specs.declared.value_fraction.ValueFraction.{ValueFraction}
use Rattle.atomic_table.specs.declared.shared.Seat.{Seat}
use Rattle.sdd_shared_values.specs.ValueFractions.{FractionContent}
use Rattle.sdd_rights.specs.declared.read_fraction.ReadFraction.{ReadFraction}
use Rattle.sdd_atomics.specs.ReadFractions.{IsReadFractionOf}
use Rattle.sdd_domain_invariant.specs.Fractions.FractionSteps.{CarriesAll, IsValue}
use Rattle.sdd_atomics.specs.SeatAtTable.{facts_at}
use Rattle.std.proofs.Common.{ℕ, ◌+◌, ◌-◌, ap, sym, refl, ◌∙◌, subst, arith, ◌<◌, ◌≡◌}
use Rattle.atomic_table.specs.Seated.{TableId}
use Rattle.sdd_world_model.specs.OwnerOrCell.{AreOf}
use Rattle.sdd_domain_steps.specs.SpaceIds.{home_of_slots}
use base.Stored.{Gv}
use Rattle.sdd_shared_values.specs.SharedValues.{IsNoValueCode, content, showing}
use Rattle.sdd_rights.specs.declared.views.View.{View}
use Rattle.sdd_domain_invariant.specs.Sums.{times}
use Rattle.sdd_domain_invariant.specs.Codes.{counted}
use Rattle.sdd_domain_invariant.specs.Slots.KindsInvariant.{written}
use Rattle.sdd_domain_invariant.proofs.Sums.{is_same}
use Rattle.sdd_domain_invariant.specs.Fractions.FractionsAtHome.{spare, CarriedFractions}
use Rattle.sdd_atomics.specs.TableFacts.{gamma_of, places_of}
use Rattle.sdd_domain_steps.proofs.MovedValues.{may_move}
use Rattle.sdd_domain_steps.proofs.Owners.{row_put, view_cut, moves_cut, furnished}
use Rattle.sdd_domain_steps.proofs.slots.values.move_in.Goals as goal

pub put-requires-clause-whole : goal.put-requires-clause-whole
put-requires-clause-whole g c = let b = (facts_at c.args.seat.now) in let few = c.places-count.ensures.few in let r = c.requires in
    may_move (gamma_of b) c.args.slot (places_of b) (c.places-count.result + 1) (ap (λ (k : ℕ). k + 1) c.places-count.ensures.places) IsNoValueCode
    c.args.values.now.gamma r.values.gamma (omega arith) r.row.0 c.args.seat.now.me.1 r.row.1

pub put-requires-clause-fits : goal.put-requires-clause-fits
put-requires-clause-fits g c = let s = c.requires.values in subst (λ (t : TableId × ℕ × ℕ). AreOf (home_of_slots t.0 t.1 t.2) (g.T.Item.holds c.args.value))
    (λ d. (sym s.table d, sym s.gamma d, sym s.size d)) c.requires.fits

pub cut_rest-read_fraction-requires-clause-row : goal.cut_rest-read_fraction-requires-clause-row
cut_rest-read_fraction-requires-clause-row g c = let b = facts_at c.args.seat.now in let r = c.requires in let put = c.put.ensures.seat in (
  showing g.row.T c.args.value,
  r.row.0,
  subst (λ (v : View). CarriesAll v.fractions.gamma c.args.slot v.sizes.participants 0 (IsValue (showing g.row.T c.args.value)) r.row.0 c.put.new.seat.me.1)
      (sym (ap (λ (q : Seat ValueFraction View). q.me.0) put.1))
      (row_put b c.args.slot (c.places-count.result + 1) c.args.shared (showing g.row.T c.args.value) c.args.seat.now c.put.new.seat c.put.new.seat
      c.put.new.seat (refl, refl) (ap (λ (k : ℕ). k + 1) c.places-count.ensures.places) r.own.0 r.row.0 r.row.1 put.0 tt put.1),
)

-- what the cut leaves, by what the seat knew of its table before the value was put
cut_row : (slot : ℕ) (v w : View) (xs ys : CarriedFractions) (u : ReadFraction) (l : FractionContent) → w ≡ v → ((value : Gv) (others : CarriedFractions)
    → CarriesAll w.fractions.gamma slot w.sizes.participants 0 (IsValue value) others xs
    → CarriesAll w.fractions.gamma slot w.sizes.participants (spare w.sizes.participants) (IsValue value) others ys
    × IsReadFractionOf w.fractions.gamma slot value u × (l.shown ≡ value))
    → (value : Gv) (others : CarriedFractions) → CarriesAll v.fractions.gamma slot v.sizes.participants 0 (IsValue value) others xs
    → CarriesAll v.fractions.gamma slot v.sizes.participants (spare v.sizes.participants) (IsValue value) others ys
    × IsReadFractionOf v.fractions.gamma slot value u × (l.shown ≡ value)
cut_row slot v w xs ys u l same rows value others = subst (λ (z : View). CarriesAll z.fractions.gamma slot z.sizes.participants 0 (IsValue value) others xs
    → CarriesAll z.fractions.gamma slot z.sizes.participants (spare z.sizes.participants) (IsValue value) others ys
    × IsReadFractionOf z.fractions.gamma slot value u × (l.shown ≡ value)) same (rows value others)

pub house-requires-clause-row : goal.house-requires-clause-row
house-requires-clause-row g c = let b = (facts_at c.args.seat.now) in let r = c.requires in let put = c.put.ensures.seat in let slot : ℕ = c.args.slot in
    let value : Gv = showing g.row.T c.args.value in let one = is_same slot slot refl in let all = ap (λ (k : ℕ). k + 1) c.places-count.ensures.places in
    let cut = c.cut_rest-read_fraction in
    let cut_at = cut_row slot c.args.seat.now.me.0 c.put.new.seat.me.0 c.put.new.seat.me.1 cut.new.seat.me.1 cut.result.0 cut.result.1.content
    (ap (λ (q : Seat ValueFraction View). q.me.0) put.1) cut.ensures.row in
    let row = row_put b slot (c.places-count.result + 1) c.args.shared value c.args.seat.now c.put.new.seat c.put.new.seat c.put.new.seat (refl, refl)
    all r.own.0 r.row.0 r.row.1 put.0 tt put.1 in
    let same = view_cut b slot (c.places-count.result + 1) c.args.shared value c.args.seat.now c.put.new.seat cut.new.seat cut.new.seat (refl, refl) all r.own.0
    r.row.0 r.row.1 put.0 tt put.1 cut.ensures.seat in (
      slot,
      value,
      subst (λ (v : View). slot < v.sizes.slots) (sym same) r.inside,
      moves_cut b slot (c.places-count.result + 1) c.args.shared value c.args.seat.now c.put.new.seat cut.new.seat cut.new.seat (refl, refl) all r.own.0 r.row.0
          r.row.1
          put.0 tt put.1 cut.ensures.seat,
      (let e = ap (λ (v : View). times slot v.slots.owns) same in let o = r.own.1 in omega arith),
      (λ free. ap (λ (v : View). counted (written v slot)) same ∙ r.kind (λ held. free (ap (λ (v : View). v.slots.holds) same ∙ held))),
      (
        r.row.0,
        subst (λ (v : View). CarriesAll v.fractions.gamma slot v.sizes.participants (spare v.sizes.participants) (IsValue value) r.row.0 cut.new.seat.me.1)
            (sym same) (cut_at value r.row.0 row).0,
      ),
      subst (λ (t : View × Gv). cut.result.1.content ≡ content t.0.fractions.gamma slot cut.result.1.content.lifetime t.1 (spare t.0.sizes.participants - 1))
          (λ d. (((ap (λ (q : Seat ValueFraction View). q.me.0) put.1) ∙ sym same) d, (cut_at value r.row.0 row).2 d)) cut.ensures.rest,
    )

pub returns : goal.returns
returns g c =
    let b = facts_at c.args.seat.now in let r = c.requires in let put = c.put.ensures.seat in let slot : ℕ = c.args.slot in
    let value : Gv = showing g.row.T c.args.value in let all = ap (λ (k : ℕ). k + 1) c.places-count.ensures.places in
    let cut = c.cut_rest-read_fraction in
    let cut_at = cut_row slot c.args.seat.now.me.0 c.put.new.seat.me.0 c.put.new.seat.me.1 cut.new.seat.me.1 cut.result.0 cut.result.1.content
    (ap (λ (q : Seat ValueFraction View). q.me.0) put.1) cut.ensures.row in
    let row = row_put b slot (c.places-count.result + 1) c.args.shared value c.args.seat.now c.put.new.seat c.put.new.seat c.put.new.seat (refl, refl)
    all r.own.0 r.row.0 r.row.1 put.0 tt put.1 in
    let same = view_cut b slot (c.places-count.result + 1) c.args.shared value c.args.seat.now c.put.new.seat cut.new.seat cut.new.seat (refl, refl) all r.own.0
    r.row.0 r.row.1 put.0 tt put.1 cut.ensures.seat in
    let f = furnished b slot (c.places-count.result + 1) c.args.shared value c.args.seat.now c.put.new.seat cut.new.seat c.house.new.seat (refl, refl) all
    r.own.0 r.row.0 r.row.1 put.0 tt put.1 cut.ensures.seat (cut_at value r.row.0 row).0
    (λ k g others moves xs. c.house.ensures k g others moves
    (subst (λ (v : View). CarriesAll v.fractions.gamma k v.sizes.participants (spare v.sizes.participants) (IsValue g) others cut.new.seat.me.1) (sym same) xs))
    in record {
      home = (f.table, f.number);
      view = f.view;
      given = f.given;
      read_fraction = (cut_at value r.row.0 row).1;
    }
