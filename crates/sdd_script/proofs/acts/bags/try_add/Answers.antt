use Rattle.sdd_script.proofs.Words.{Some, slice_set, refl, ap, ◌∙◌, HasSameCells, At, NumberBag, state_of, Does, got, invalid, nobody}
use Rattle.sdd_script_text.specs.Actions as call
use Rattle.sdd_script_text.specs.declared.answer.Reply.TheVariants as reply
use Rattle.sdd_script.proofs.BagActs.{acts-as-before, acts-kept, acts-tried, no-bag, put-so}
use Rattle.sdd_script.proofs.acts.bags.try_add.Goals as goal
use Rattle.sdd_script.proofs.acts.bags.try_add.Goals.{in-Ok, in-Err}

pub returns-in_default : goal.returns-in_default
returns-in_default c = record {
  acts = rw (← c.interpreter.view_is)
      (nobody c.interpreter.inside.environment c.args.name (call.Try c.args.bag c.args.number) c.in_default.ensures (λ valid. valid.0));
}

pub returns-in_default-get : goal.returns-in_default-get
returns-in_default-get c = record {
  acts = rw (← c.interpreter.view_is) (invalid _ _ _ (λ valid. no-bag c.interpreter.inside.environment c.args.bag.0 c.in_default-get.ensures valid.1));
}

tried : (c : goal.Joined-pushed) → Does (state_of c.interpreter.inside.environment) (At c.args.name (call.Try c.args.bag c.args.number)) c.match-pushed.result
    (record c.interpreter.inside.environment { lists = record c.interpreter.inside.environment.lists { bags = c.put_back.new.self } })
tried c =
    let h = c.interpreter.inside.environment in let new = c.try_push-pushed.new.self in
    let there = got h.places c.args.name.0 _ c.in-Some.ensures in let mine = c.in-Some-take.ensures.taken in
    let put = put-so h.lists.bags.entries.items c.take.new.self.entries.items c.put_back.new.self.entries.items c.args.bag.0 new c.in-Some-take.ensures.spent
    c.put_back.ensures.back in
    elim c.match-pushed.branch [
      | in-Ok w ↦
          (let did = w.in-Ok.ensures in
          let cells : HasSameCells c.in-Some-take.taken new = record { storage = did.storage; stack = ap (λ o. o.stack) did.overflow } in
          rw w.result-is (acts-tried h c.interpreter.invariant c.is_whole.ensures c.args.name _ there c.args.bag _ mine new cells c.put_back.new.self.entries put
          c.args.number (record { room = did.pushed.0; more = did.pushed.1; others = did.overflow })))
      | in-Err w ↦
          (let back = w.in-Err.ensures.pushed in
          let same = put ∙ ap (λ (x : NumberBag). slice_set h.lists.bags.entries.items c.args.bag.0 (Some x)) back.2 in
          rw w.result-is (acts-as-before h c.interpreter.invariant c.is_whole.ensures c.args.name _ there c.args.bag _ mine h.world c.put_back.new.self.entries
          refl same (At c.args.name (call.Try c.args.bag c.args.number)) (reply.Kept _)
          (acts-kept h c.interpreter.invariant c.is_whole.ensures c.args.name _ there c.args.bag _ mine c.args.number _ back.0 back.1)))
    ]

pub invariant_of-interpreter : goal.invariant_of-interpreter
invariant_of-interpreter c = (tried c).0

pub returns : goal.returns
returns c = record { acts = rw (← c.interpreter.view_is) (tried c).1 }
