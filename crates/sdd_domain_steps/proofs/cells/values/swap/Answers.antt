use Rattle.sdd_atomics.specs.SeatAtTable.{facts_at}
use Rattle.std.proofs.Common.{Bool, sym, ap, ◌∙◌, subst, refl}
use Rattle.sdd_rights.specs.declared.views.View.{View}
use Rattle.sdd_domain_invariant.specs.Epoch.{HasPlace}
use Rattle.sdd_domain_invariant.specs.Fractions.FractionSteps.{SeatState}
use Rattle.sdd_domain_invariant.specs.Slots.FilledInvariant.{HasRecord}
use Rattle.sdd_domain_steps.proofs.CellValues.{brought, new_kind, loose_at}
use Rattle.sdd_domain_steps.proofs.cells.values.swap.Goals as goal

pub swap_cell-found-requires-clause-right : goal.swap_cell-found-requires-clause-right
swap_cell-found-requires-clause-right c = let q = c.requires.right.1 in let shared : Bool = q.0 in let b = (facts_at c.args.seat.now) in
    let s = c.args.seat.now in
    let a = c.recall_cell.ensures c.args.cell shared q.1 in
    let t = c.take_up.ensures shared (loose_at c.args.seat.now c.recall_cell.new.seat shared c.args.new a.0 a.2.0 q.2) in (
      c.requires.right.0 ∙ sym (t.table ∙ a.0),
      (shared, q.1, λ r has. new_kind b s.me.0 refl shared c.args.new r (subst (λ (v : View). HasRecord v.fractions.owns r) t.view has)),
    )

pub put_down-requires : goal.put_down-requires
put_down-requires c =
    let q = c.requires.right.1 in let shared : Bool = q.0 in let a = c.recall_cell.ensures c.args.cell shared q.1 in
    let t = c.take_up.ensures shared (loose_at c.args.seat.now c.recall_cell.new.seat shared c.args.new a.0 a.2.0 q.2) in
    let step = c.swap_cell-found.ensures shared q.1 in
    let out = brought c.args.word c.args.cell c.swap_cell-found.result shared c.take_up.new.seat.me c.swap_cell-found.new.seat.me step.2.0 in record {
      ready = record {
        place = subst (λ (e : _). HasPlace e)
            (sym (ap (λ (m : SeatState). m.0.epoch) out.1 ∙ (ap (λ (v : View). v.epoch) t.view ∙ ap (λ (m : SeatState). m.0.epoch) a.2.0))) c.requires.place;
        rests = ap (λ (m : SeatState). m.0.fractions.moves) out.1
            ∙ (ap (λ (v : View). v.fractions.moves) t.view ∙ (ap (λ (m : SeatState). m.0.fractions.moves) a.2.0 ∙ c.requires.bare.rests));
      };
      named = c.held_slot.ensures.held;
      quiet = (
        ap (λ (m : SeatState). m.0.slots.drawn) out.1
            ∙ (ap (λ (v : View). v.slots.drawn) t.view ∙ (ap (λ (m : SeatState). m.0.slots.drawn) a.2.0 ∙ c.requires.bare.quiet.drawn)),
        ap (λ (m : SeatState). m.0.slots.holds) out.1
            ∙ (ap (λ (v : View). v.slots.holds) t.view ∙ (ap (λ (m : SeatState). m.0.slots.holds) a.2.0 ∙ c.requires.bare.quiet.holds)),
      );
      held = (shared, (brought c.args.word c.args.cell c.swap_cell-found.result shared c.take_up.new.seat.me c.swap_cell-found.new.seat.me step.2.0).2);
    }
