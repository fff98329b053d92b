use Rattle.sdd_domain_steps.specs.SpaceIds.{home_of_slots}
use Rattle.sdd_world_model.specs.OwnerOrCell.{AreOf}
use Rattle.sdd_atomics.proofs.Sitting.{viewed_facts}
use Rattle.sdd_atomics.specs.SeatAtTable.{facts_at}
use Rattle.std.proofs.Common.{◌≡◌, ℕ, ◌<◌, List, ◌∷◌, refl, sym, ap, ◌∙◌, subst, arith, rules}
use Rattle.std.specs.Prelude.{Bool}
use base.Stored.{Gv}
use lib.ListN.{get_elem?}
use Rattle.atomic_table.specs.declared.shared.Seat.{Seat}
use Rattle.sdd_shared_values.specs.declared.value_fraction.ValueFraction.{ValueFraction}
use Rattle.sdd_shared_values.specs.SharedValues.{showing}
use Rattle.sdd_rights.specs.Owner.{one-shown, witness_of_owner}
use Rattle.sdd_rights.specs.declared.views.ShownValue.{ShownValue}
use Rattle.sdd_rights.specs.declared.views.View.{View}
use Rattle.sdd_domain_invariant.specs.Epoch.{IsLone}
use Rattle.sdd_domain_invariant.specs.Slots.SlotSteps.{Knew, discarded}
use Rattle.sdd_domain_invariant.specs.Fractions.FractionSteps.{dropping, moving, undrawing, untold}
use Rattle.sdd_atomics.specs.TableFacts.{gamma_of, places_of, TableFacts}
use Rattle.sdd_atomics.specs.ReadFractions.{IsReadFractionOf}
use Rattle.sdd_domain_steps.specs.Claims.{IsUnmoved}
use Rattle.sdd_domain_steps.specs.InPlace.{IsHindered}
use Rattle.sdd_domain_steps.specs.declared.slots.holding.Hindrance.{Hindrance}
use Rattle.sdd_domain_steps.proofs.HeldSlots.{dropped_view, only, tells_only, read_at}
use Rattle.sdd_domain_steps.proofs.InPlace.{unmoved_same}
use Rattle.sdd_domain_steps.proofs.slots.holding.try_to_go.Goals as goal

pub drop_alone-requires : goal.drop_alone-requires
drop_alone-requires g c =
    let b = (facts_at c.args.seat.now) in let r = c.requires in let value : Gv = r.owner.1.0 in let s = c.args.seat.now in
    let held = c.in-Ok.ensures value r.owner.1.1 in record {
      ready = record {
        place = subst (λ (k : ℕ). 0 < k) (sym (ap (λ (v : View). v.epoch.state) held.view)) r.place.0;
        rests = ap (λ (v : View). v.fractions.moves) held.view ∙ r.bare.rests;
      };
      values = search rules;
      inside = search rules;
      held = (
        ap (λ (v : View). v.slots.holds) held.view,
        ap (λ (v : View). v.slots.owns) held.view ∙ ap (λ (l : List ℕ). c.args.slot ∷ l) r.bare.quiet.owns,
        ap (λ (v : View). v.slots.drawn) held.view ∙ ap (λ (l : List ℕ). c.args.slot ∷ l) r.bare.quiet.drawn,
      );
      looked = let e = ap (λ (v : View). v.slots.looked) held.view in omega (arith, e, ap (λ (v : View). v.sizes.participants) held.view);
      unit = search rules;
      shows = (0, only c.args.slot c.args.shared value, ap (λ (v : View). get_elem? v.fractions.owns 0) held.view, refl, sym r.owner.1.2.shows);
    }

pub returns-in-Ok : goal.returns-in-Ok
returns-in-Ok g c = let b = (facts_at c.args.seat.now) in let r = c.requires in let value : Gv = r.owner.1.0 in let s = c.args.seat.now in
    let held = c.in-Ok.ensures value r.owner.1.1 in let did = c.drop_alone.ensures in (
      record {
        table = did.home.0 ∙ held.table;
        number = did.home.1 ∙ held.number;
        others = did.home.2 ∙ held.others;
        view = did.view ∙ (ap (λ (v : View). dropping (discarded c.args.slot 0 (moving c.args.slot (untold (undrawing v))))) held.view
            ∙ dropped_view c.args.slot c.args.shared value s.me.0 r.bare r.closes (places_of b));
        quiet = held.quiet;
        unique = held.unique;
        told = r.owner.1.1 ∙ ap (witness_of_owner c.args.slot c.args.shared) (tells_only c.args.slot c.args.shared value
            (showing g.row.T c.drop_alone.result) c.hold_alone.new.seat.me.0
            (ap (λ (v : View). v.fractions.owns) held.view ∙ ap (λ (l : List ShownValue). only c.args.slot c.args.shared value ∷ l) r.bare.untold) did.value);
      },
      subst (λ (t : TableFacts). AreOf (home_of_slots t.id t.gamma t.sizes.slots) (g.T.Item.holds c.drop_alone.result))
          (viewed_facts s c.hold_alone.new.seat _ held.table held.view (refl, refl)) did.fits,
    )

pub returns-in-Guarded : goal.returns-in-Guarded
returns-in-Guarded g c = let b = (facts_at c.args.seat.now) in let r = c.requires in let value : Gv = r.owner.1.0 in let s = c.args.seat.now in (
  c.in-Err.ensures.1,
  c.in-Err.ensures.2,
  (λ other is. subst (λ (x : Gv). IsReadFractionOf (gamma_of b) c.args.slot x c.args.read_fraction)
      (one-shown c.args.slot c.args.shared value other (sym r.owner.1.1 ∙ is)) r.owner.1.2),
  (refl, subst (λ (h : Hindrance). IsHindered c.args.slot c.args.shared h s c.hold_alone.new.seat) c.in-Guarded.is c.in-Err.ensures.0),
)

pub returns-in-Err-leave_beside : goal.returns-in-Err-leave_beside
returns-in-Err-leave_beside g c = let b = (facts_at c.args.seat.now) in let s = c.args.seat.now in let h = c.hold_alone.new.seat in
    let slot : ℕ = c.args.slot in
    let hindered = subst (λ (x : Hindrance). IsHindered slot c.args.shared x s h) c.in-Others.is c.in-Err.ensures.0 in let several = hindered.1.several in
    let same : h ≡ s = unmoved_same s h hindered.0 in let back = c.in-Err-leave_beside.ensures in let word = c.in-Others.word in (
      back.1 ∙ ap (λ (x : Seat ValueFraction View). x.table_id) same,
      back.2 ∙ c.in-Err.ensures.2,
      (λ value is. read_at s h same _ _ _ (back.3 value (c.in-Err.ensures.2 ∙ (is ∙ ap (λ (x : Bool). witness_of_owner slot x value) several)))),
      (
        subst (λ (x : Seat ValueFraction View). IsUnmoved x c.leave_beside.new.seat) same back.0,
        several,
        (λ lone. subst (λ (x : Seat ValueFraction View). ¬ (IsLone x.me.0.epoch × Knew slot x.me.0 word)) same back.4 (lone, hindered.1.knew)),
      ),
    )
