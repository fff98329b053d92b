use Rattle.sdd_atomics.specs.SeatAtTable.{facts_at}
use Rattle.std.proofs.Common.{ℕ, Bool, sym, ap, ◌∙◌, subst, refl}
use Rattle.sdd_rights.specs.declared.views.View.{View}
use Rattle.sdd_domain_invariant.specs.Epoch.{HasPlace}
use Rattle.sdd_domain_invariant.specs.Fractions.FractionSteps.{SeatState}
use Rattle.sdd_domain_invariant.specs.Slots.FilledInvariant.{HasRecord}
use Rattle.sdd_domain_invariant.specs.Cells.CellSteps.{BringsOut}
use Rattle.sdd_domain_steps.proofs.CellValues.{brought, new_kind, loose_at}
use Rattle.sdd_domain_steps.proofs.cells.values.exchange.Goals as goal

pub exchange_cell-requires-clause-right : goal.exchange_cell-requires-clause-right
exchange_cell-requires-clause-right c = let q = c.requires.right.1 in let shared : Bool = q.0 in let b = (facts_at c.args.seat.now) in
    let s = c.args.seat.now in
    let a = c.recall_cell.ensures c.args.cell shared q.1 in
    let t = c.take_up.ensures shared (loose_at c.args.seat.now c.recall_cell.new.seat shared c.args.new a.0 a.2.0 q.2) in (
      c.requires.right.0 ∙ sym (t.table ∙ a.0),
      (shared, q.1, λ r has. new_kind b s.me.0 refl shared c.args.new r (subst (λ (v : View). HasRecord v.fractions.owns r) t.view has)),
    )

pub put_down-requires : goal.put_down-requires
put_down-requires c =
    let q = c.requires.right.1 in let shared : Bool = q.0 in let a = c.recall_cell.ensures c.args.cell shared q.1 in
    let t = c.take_up.ensures shared (loose_at c.args.seat.now c.recall_cell.new.seat shared c.args.new a.0 a.2.0 q.2) in
    let step = c.exchange_cell.ensures shared q.1 in let hit = c.if-exchange_cell-old.true in
    let out = brought c.args.word c.args.cell c.args.old shared c.take_up.new.seat.me c.exchange_cell.new.seat.me
    (subst (λ (x : ℕ). BringsOut c.args.word shared c.args.cell c.take_up.new.seat.me x c.exchange_cell.new.seat.me) hit (step.2.0 hit)) in record {
      ready = record {
        place = subst (λ (e : _). HasPlace e)
            (sym (ap (λ (m : SeatState). m.0.epoch) out.1 ∙ (ap (λ (v : View). v.epoch) t.view ∙ ap (λ (m : SeatState). m.0.epoch) a.2.0))) c.requires.place;
        rests = ap (λ (m : SeatState). m.0.fractions.moves) out.1
            ∙ (ap (λ (v : View). v.fractions.moves) t.view ∙ (ap (λ (m : SeatState). m.0.fractions.moves) a.2.0 ∙ c.requires.bare.rests));
      };
      named = c.requires.named;
      quiet = (
        ap (λ (m : SeatState). m.0.slots.drawn) out.1
            ∙ (ap (λ (v : View). v.slots.drawn) t.view ∙ (ap (λ (m : SeatState). m.0.slots.drawn) a.2.0 ∙ c.requires.bare.quiet.drawn)),
        ap (λ (m : SeatState). m.0.slots.holds) out.1
            ∙ (ap (λ (v : View). v.slots.holds) t.view ∙ (ap (λ (m : SeatState). m.0.slots.holds) a.2.0 ∙ c.requires.bare.quiet.holds)),
      );
      held = (shared, out.2);
    }
