use Rattle.std.proofs.Common.{Bool, sym, ap, ◌∙◌, subst}
use Rattle.sdd_rights.specs.declared.views.View.{View}
use Rattle.sdd_domain_invariant.specs.Epoch.{HasPlace}
use Rattle.sdd_rights.specs.declared.views.EpochView.{EpochView}
use Rattle.sdd_rights.specs.Owner.{cell_kind}
use Rattle.sdd_domain_invariant.specs.Fractions.FractionSteps.{SeatState}
use Rattle.sdd_domain_steps.specs.Cells.{HasHeld}
use Rattle.sdd_domain_steps.proofs.CellValues.{brought, rights_now}
use Rattle.sdd_domain_steps.proofs.cells.values.free.Goals as goal

pub put_down-requires : goal.put_down-requires
put_down-requires c =
    let q = c.requires.right.1 in let shared : Bool = q.0 in let s = c.args.seat.now in let a = c.recall_cell.ensures c.args.cell shared q.1 in
    let took = c.take_in_right.ensures c.args.cell (cell_kind shared) q.1 in
    let freed = c.free_cell-word.ensures shared
    (rights_now c.args.cell shared s c.recall_cell.new.seat c.take_in_right.new.seat c.requires.rights a.2.0 took.3) in
    let out = brought 0 c.args.cell c.free_cell-word.result shared c.take_in_right.new.seat.me freed.2.0.0 freed.2.0.1 in record {
      ready = record {
        place = subst (λ (e : EpochView). HasPlace e) (sym (ap (λ (m : SeatState). m.0.epoch) freed.2.0.2 ∙ (ap (λ (m : SeatState). m.0.epoch) out.1
            ∙ (ap (λ (v : View). v.epoch) took.3 ∙ ap (λ (m : SeatState). m.0.epoch) a.2.0)))) c.requires.place;
        rests = ap (λ (m : SeatState). m.0.fractions.moves) freed.2.0.2 ∙ (ap (λ (m : SeatState). m.0.fractions.moves) out.1
            ∙ (ap (λ (v : View). v.fractions.moves) took.3 ∙ ap (λ (m : SeatState). m.0.fractions.moves) a.2.0)) ∙ c.requires.bare.rests;
      };
      named = c.held_slot.ensures.held;
      quiet = (
        ap (λ (m : SeatState). m.0.slots.drawn) freed.2.0.2 ∙ (ap (λ (m : SeatState). m.0.slots.drawn) out.1
            ∙ (ap (λ (v : View). v.slots.drawn) took.3 ∙ ap (λ (m : SeatState). m.0.slots.drawn) a.2.0)) ∙ c.requires.bare.quiet.drawn,
        ap (λ (m : SeatState). m.0.slots.holds) freed.2.0.2 ∙ (ap (λ (m : SeatState). m.0.slots.holds) out.1
            ∙ (ap (λ (v : View). v.slots.holds) took.3 ∙ ap (λ (m : SeatState). m.0.slots.holds) a.2.0)) ∙ c.requires.bare.quiet.holds,
      );
      held = (
        shared,
        subst (λ (m : SeatState). HasHeld c.free_cell-word.result shared m.0) (sym freed.2.0.2)
            record { owns = out.2.owns; none = out.2.none; one = out.2.one },
      );
    }
