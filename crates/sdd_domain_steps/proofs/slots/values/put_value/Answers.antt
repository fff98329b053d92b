use Rattle.std.proofs.Common.{ℕ, List, [], ◌∷◌, refl, ap, sym, ◌∙◌, subst, arith, ◌<◌}
use Rattle.sdd_shared_values.specs.SharedValues.{showing}
use Rattle.sdd_rights.specs.declared.views.View.{View}
use Rattle.sdd_rights.specs.contracts.views.View.{the_row}
use Rattle.sdd_domain_invariant.specs.Sums.{times}
use Rattle.sdd_domain_invariant.proofs.Sums.{is_same}
use Rattle.sdd_domain_invariant.specs.Fractions.FractionSteps.{parting, departing}
use Rattle.sdd_domain_steps.proofs.Owners.{parted_view, departed_view}
use Rattle.sdd_domain_steps.proofs.slots.values.put_value.Goals as goal

pub move_in-read_fraction-requires-clause-own : goal.move_in-read_fraction-requires-clause-own
move_in-read_fraction-requires-clause-own g c = let r = c.requires in
    (r.own.0, (let e = ap (times c.args.slot) r.own.1 in let one = is_same c.args.slot c.args.slot refl in omega arith))

pub cut-requires : goal.cut-requires
cut-requires g c =
    let f = c.move_in-read_fraction.ensures in let r = c.requires in record {
      ready = record {
        place = subst (λ (k : ℕ). 0 < k) (sym (ap (λ (v : View). v.epoch.state) c.move_in-read_fraction.ensures.view)) c.requires.place;
        rests = ap (λ (v : View). v.fractions.moves) c.move_in-read_fraction.ensures.view;
      };
      one = (
        c.args.slot,
        ap (λ (v : View). v.slots.owns) f.view ∙ r.own.1,
        ap (λ (v : View). v.slots.drawn) f.view ∙ ap (λ (l : List ℕ). c.args.slot ∷ l) r.free.1,
      );
      free = ap (λ (v : View). v.slots.holds) c.move_in-read_fraction.ensures.view ∙ c.requires.free.0;
    }

pub returns : goal.returns
returns g c = let f = c.move_in-read_fraction.ensures in let r = c.requires in let part = c.cut.ensures.participant in
    let shown = showing g.row.T c.args.value in record {
      home = (part.0 ∙ f.home.0, part.1 ∙ f.home.1);
      view = part.3 ∙ (ap parting f.view ∙ parted_view c.args.slot c.args.shared shown c.args.seat.now.me.0 r.own.1 r.own.2);
      given = part.2 ∙ f.given;
      owner = (
        c.cut.ensures.owner.0 ∙ f.home.0,
        c.cut.ensures.owner.1 ∙ ap (λ (v : View). the_row.coded.code v ∷ [])
            (ap departing f.view ∙ departed_view c.args.slot c.args.shared shown c.args.seat.now.me.0 r.own.1 r.own.2),
      );
      read_fraction = f.read_fraction;
    }
