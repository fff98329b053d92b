use Rattle.sdd_script.proofs.Words.{◌≡◌, refl, sym, ◌∙◌, At, cell_kind, state_of, Does, goes, still-as, under, invalid}
use Rattle.sdd_script_text.specs.Actions as call
use Rattle.sdd_script_text.specs.declared.answer.Reply.TheVariants as reply
use Rattle.sdd_script.proofs.CellActs.{named-home}
use Rattle.sdd_script.proofs.ExchangeActs.{room-kept, can-put-back, same-back, compares, slot-compared, compared-stays, seen-as, seen-named, acts-exchanged, differs}
use Rattle.sdd_script.proofs.acts.exchanges.exchange.Goals as goal

pub returns-in_default : goal.returns-in_default
returns-in_default c = record { acts = rw (← c.interpreter.view_is) (invalid _ _ _ (λ valid. c.in_default.ensures.valid valid.0)) }

pub exchange_at-requires-clause-stays : goal.exchange_at-requires-clause-stays
exchange_at-requires-clause-stays c =
    let h = c.interpreter.inside.environment in
    let at = under c.args.name.0 c.interpreter.invariant c.is_whole.ensures c.in-Some.ensures.found.0 in
    let compared = c.in-Some-slot_compared.ensures in
    rw (compared.1 ∙ slot-compared h c.args.item) (compared-stays c.args.name at c.args.guard.0 _
    c.in-Some.ensures.found.1 c.in-Some.ensures.found.2 c.args.item
    (compares c.args.name at c.args.item compared.0))

pub exchange_at-requires-clause-owner : goal.exchange_at-requires-clause-owner
exchange_at-requires-clause-owner c =
    let fills = rw c.make_room.ensures.kept at c.take_filling-next.ensures.filled in
    rw fills.holding (named-home c.interpreter.inside.environment c.interpreter.invariant c.args.owner)

pub give_filling-name-requires : goal.give_filling-name-requires
give_filling-name-requires c =
    let next = c.take_filling-next in
    record {
      room = rw (
        room-kept c.make_room.new.self.entries.items next.new.owners.entries.items c.args.owner next.ensures.filled.left,
        next.ensures.room,
      ) c.in_ok-make_room.ensures.room;
    }

exchanged : (c : goal.After-give_filling-name) → Does (state_of c.interpreter.inside.environment)
    (At c.args.name (call.Exchange c.args.cell c.args.guard c.args.item c.args.was c.args.owner c.args.tag)) (reply.Exchanged c.give_filling-name.result)
    (record c.interpreter.inside.environment { world = c.exchange_at.new.world; owners = c.give_filling-name.new.owners })
exchanged c =
    let h = c.interpreter.inside.environment in
    let at = under c.args.name.0 c.interpreter.invariant c.is_whole.ensures c.in-Some.ensures.found.0 in
    let compared = c.in-Some-slot_compared.ensures in
    let same = seen-as _ _ _ c.args.was refl (compared.1 ∙ slot-compared h c.args.item) in
    let out = c.in-Ok.ensures.exchanged in
    let fits = rw c.ownership.ensures at c.if-not-fits.ensures in
    let fills = rw (c.make_room.ensures.kept, c.ownership-2.ensures) at c.take_filling-next.ensures.filled in
    acts-exchanged c.args.name at c.args.cell c.in-Some-get.holder.now
    _ (sym c.in-Some-get.ensures) out.0 c.args.owner c.args.tag (fits.0 refl) _
    c.give_filling-name.new.owners.entries _ c.take_filling-next.result _ c.give_filling-name.result fills out.1 c.give_filling-name.ensures out.2
    c.args.guard c.args.item c.args.was c.in-Some.ensures.valid (compares c.args.name at c.args.item compared.0) same

pub invariant_of-interpreter-in-Ok : goal.invariant_of-interpreter-in-Ok
invariant_of-interpreter-in-Ok c = (exchanged c).0

pub put_back-requires : goal.put_back-requires
put_back-requires c =
    let out = c.in-Err.ensures.exchanged in
    let fits = rw c.ownership.ensures at c.if-not-fits.ensures in
    let fills = rw (c.make_room.ensures.kept, c.ownership-2.ensures) at c.take_filling-next.ensures.filled in
    record { spent = rw (out.0, fills.holding, fills.left) (can-put-back _ (cell_kind c.in-Some-get.holder.now) c.args.owner (fits.0 refl)) }

pub item_seen-requires : goal.item_seen-requires
item_seen-requires c =
    let out = c.in-Err.ensures.exchanged in
    record {
      named = seen-named c.args.name (under c.args.name.0 c.interpreter.invariant c.is_whole.ensures c.in-Some.ensures.found.0) c.args.cell c.in-Some-get.holder.now
          c.in-Err.seen (sym c.in-Some-get.ensures) out.1 c.in-Err.seen.held refl;
    }

-- where it differs, the state is as it was
back : (c : goal.After-item_seen) → state_of (record c.interpreter.inside.environment { world = c.exchange_at.new.world; owners = c.put_back.new.owners })
    ≡ state_of c.interpreter.inside.environment
back c =
    let out = c.in-Err.ensures.exchanged in
    let fills = rw (c.make_room.ensures.kept, c.ownership-2.ensures) at c.take_filling-next.ensures.filled in
    same-back c.interpreter.inside.environment c.exchange_at.new.world c.put_back.new.owners.entries (cell_kind c.in-Some-get.holder.now) c.args.owner _
    c.take_filling-next.result _ out.3 fills out.0 c.put_back.ensures

pub invariant_of-interpreter-in-Err : goal.invariant_of-interpreter-in-Err
invariant_of-interpreter-in-Err c = (goes (back c) c.interpreter.invariant.sound c.interpreter.invariant.guards).tied

pub returns-in-Ok : goal.returns-in-Ok
returns-in-Ok c = record { acts = rw (← c.interpreter.view_is) (exchanged c).1 }

pub returns-in-Err : goal.returns-in-Err
returns-in-Err c =
    let h = c.interpreter.inside.environment in
    let at = under c.args.name.0 c.interpreter.invariant c.is_whole.ensures c.in-Some.ensures.found.0 in
    let compared = c.in-Some-slot_compared.ensures in
    let same = seen-as _ _ _ c.args.was refl (compared.1 ∙ slot-compared h c.args.item) in
    let out = c.in-Err.ensures.exchanged in
    let fits = rw c.ownership.ensures at c.if-not-fits.ensures in
    record {
      acts = rw (← c.interpreter.view_is) (still-as h (record h { world = c.exchange_at.new.world; owners = c.put_back.new.owners }) _ _ (back c)
          (differs c.args.name at c.args.cell c.in-Some-get.holder.now c.in-Err.seen
          (sym c.in-Some-get.ensures) out.1 c.args.owner c.args.tag (fits.0 refl) c.args.guard c.args.item c.args.was c.item_seen.result
          c.in-Some.ensures.valid (compares c.args.name at c.args.item compared.0) (λ e. out.2 (e ∙ sym same))
          c.item_seen.ensures));
    }
