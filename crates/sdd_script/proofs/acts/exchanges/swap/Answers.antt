use Rattle.sdd_script.proofs.Words.{refl, sym, At, state_of, Does, here, nobody}
use Rattle.sdd_script_text.specs.Actions as call
use Rattle.sdd_script_text.specs.declared.answer.Reply.TheVariants as reply
use Rattle.sdd_script.proofs.CellActs.{named-home}
use Rattle.sdd_script.proofs.ExchangeActs.{acts-swapped, room-kept}
use Rattle.sdd_interpreter.proofs.EnvironmentAnswers.{cell-home}
use Rattle.sdd_script.proofs.acts.exchanges.swap.Goals as goal

pub returns-in_default : goal.returns-in_default
returns-in_default c = record {
  acts = rw (← c.interpreter.view_is) (nobody c.interpreter.inside.environment c.args.name _ c.in_default.ensures
      (λ valid. valid.0));
}

pub at-old-requires-clause-asked : goal.at-old-requires-clause-asked
at-old-requires-clause-asked c =
    let fills = rw (c.make_room.ensures.kept, c.ownership-2.ensures) at c.take_filling-next.ensures.filled in (
      cell-home c.interpreter.inside.environment c.interpreter.invariant c.args.cell.0 _ (sym c.in-Some-get.ensures),
      fills.of_kind,
      rw fills.holding (named-home c.interpreter.inside.environment c.interpreter.invariant c.args.owner),
    )

pub give_filling-name-requires : goal.give_filling-name-requires
give_filling-name-requires c =
    let next = c.take_filling-next in
    record {
      room = rw (
        room-kept c.make_room.new.self.entries.items next.new.owners.entries.items c.args.owner next.ensures.filled.left,
        next.ensures.room,
      ) c.in_ok-make_room.ensures.room;
    }

swapped : (c : goal.After-give_filling-name) → Does (state_of c.interpreter.inside.environment) (At c.args.name (call.Swap c.args.cell c.args.owner c.args.tag))
    (reply.Swapped c.give_filling-name.result c.at-old.result.1)
    (record c.interpreter.inside.environment { world = c.at-old.new.world; owners = c.give_filling-name.new.owners })
swapped c =
    let out = c.at-old.ensures.done in
    let fits = rw c.ownership.ensures at c.if-not-fits.ensures in
    let fills = rw (c.make_room.ensures.kept, c.ownership-2.ensures) at c.take_filling-next.ensures.filled in
    acts-swapped c.args.name (here c.args.name.0 c.interpreter.invariant c.is_whole.ensures c.in-Some.ensures) c.args.cell c.in-Some-get.holder.now
    out.0 (sym c.in-Some-get.ensures) out.1 c.args.owner c.args.tag (fits.0 refl) _ c.give_filling-name.new.owners.entries _ c.take_filling-next.result _
    c.give_filling-name.result fills out.3 c.give_filling-name.ensures out.4 c.at-old.result.1 out.2

pub invariant_of-interpreter-2 : goal.invariant_of-interpreter-2
invariant_of-interpreter-2 c = (swapped c).0

pub returns : goal.returns
returns c = record { acts = rw (← c.interpreter.view_is) (swapped c).1 }
