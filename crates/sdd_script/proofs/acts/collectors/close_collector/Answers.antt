use Rattle.sdd_script.proofs.Words.{◌≡◌, ℕ, Option, None, Some, [], Vec, World, slice_index_or, slice_set, is_some, refl, sym, ap, ◌∙◌, PrivateCollector, Val, At, Answers, Environment, IsTied, collector_holding, state_of, number-is, answers-plain, attends, goes, invalid, here, restored, still-as, with_dates}
use Rattle.sdd_space.specs.Collector.{collector_of}
use Rattle.sdd_script_model.proofs.WaitingFor.{found-inside}
use Rattle.sdd_script_text.specs.Actions as call
use Rattle.sdd_script_text.specs.declared.answer.Reply.TheVariants as reply
use Rattle.sdd_script.proofs.CollectorActs.{answers-closed, no-collector}
use Rattle.sdd_script.proofs.acts.collectors.close_collector.Goals as goal

-- a name stands for one collector
one : (x y : PrivateCollector Val) (o : Option (PrivateCollector Val)) → Some x ≡ o → Some y ≡ o → x ≡ y
one x y o e f = let both : Some x ≡ Some y = e ∙ sym f in cc

pub items_for-requires : goal.items_for-requires
items_for-requires c =
    let s = c.interpreter.invariant.sound.stocked in
    record {
      small = s.few;
      named = rw c.number_of_collector-collected.ensures
          (found-inside (state_of c.interpreter.inside.environment) s c.is_whole.ensures (collector_of c.in-Some-get.held.now));
    }

pub returns-in_default-get : goal.returns-in_default-get
returns-in_default-get c = record {
  answers = rw (c.answer-in_default-get.ensures, ← c.interpreter.view_is) (answers-plain (At c.args.name (call.CloseCollector c.args.collector)) _
      (invalid (state_of c.interpreter.inside.environment) _ _
      (λ valid. no-collector c.interpreter.inside.environment c.args.collector.0 c.in_default-get.ensures valid.1))
      (λ s e. e) (λ k e. e));
}

-- where it is refused, the state is as it was
again : (h : Environment) (k : ℕ) (x y : PrivateCollector Val) (w : World Val) (between after : Vec (Option (PrivateCollector Val))) →
    Some x ≡ slice_index_or h.collectors.entries.items k None → between.items ≡ slice_set h.collectors.entries.items k None →
    after.items ≡ slice_set between.items k (Some y) → y ≡ x → w ≡ h.world →
    state_of (record h { world = w; collectors = record { entries = after } }) ≡ state_of h
again h k x y w between after mine taken back same world =
    let told = restored collector_holding h.collectors.entries.items k (sym mine) taken back (ap collector_holding same) in cc (world, told)

pub invariant_of-interpreter : goal.invariant_of-interpreter
invariant_of-interpreter c =
    (goes (again c.interpreter.inside.environment c.args.collector.0 _ _ c.at.new.world c.take.new.self.entries c.put_back.new.self.entries
    c.in-Some-take.ensures.taken c.in-Some-take.ensures.spent c.put_back.ensures.back c.in-Err.ensures.done.0 c.in-Err.ensures.done.1.2)
    c.interpreter.invariant.sound c.interpreter.invariant.guards).tied

pub returns-in-Err : goal.returns-in-Err
returns-in-Err c =
    let h = c.interpreter.inside.environment in
    let refused = c.in-Err.ensures.done.1 in
    let took = c.in-Some-take.ensures in
    let at = here c.args.name.0 c.interpreter.invariant c.is_whole.ensures c.in-Some.ensures in
    record {
      answers = rw (c.answer-in-Err.ensures, refused.1, ← c.interpreter.view_is) (answers-plain (At c.args.name (call.CloseCollector c.args.collector)) _
          (still-as h (record h { world = c.at.new.world; collectors = c.put_back.new.self }) _ _
          (again h c.args.collector.0 _ _ c.at.new.world c.take.new.self.entries c.put_back.new.self.entries took.taken took.spent
          c.put_back.ensures.back c.in-Err.ensures.done.0 refused.2)
          ((attends at, ap is_some (number-is h at.tied c.args.collector.0 _ took.taken)), (refused.0, refl)))
          (λ s e. e) (λ k e. e));
    }

abbrev left : goal.After-drop-waited-2 → Environment
left c = record (with_dates c.interpreter.inside.environment c.date_new.new.dates) { world = c.at.new.world; collectors = c.take.new.self }

closed : (c : goal.After-drop-waited-2) → IsTied (left c) × Answers (state_of c.interpreter.inside.environment) (At c.args.name
    (call.CloseCollector c.args.collector))
    (record { reply = reply.Done; reclaimed = c.in_ok-gone.gone.items; ran = [] }) (state_of (left c))
closed c =
    let took = c.in-Some-take.ensures in
    let same = one c.in-Some-get.held.now c.in-Some-take.held _ c.in-Some-get.ensures took.taken in
    let moved = rw (c.number_of_collector-collected.ensures, same) at c.in_ok-gone.ensures.items in
    let closed = c.in_default-at.ensures.done.1 in
    answers-closed c.args.name (here c.args.name.0 c.interpreter.invariant c.is_whole.ensures c.in-Some.ensures) c.args.collector c.in-Some-take.held took.taken
    closed.0 closed.1 c.at.new.world c.take.new.self.entries c.date_new.new.dates closed.2 took.spent _
    c.in_ok-waited.ensures.each
    (rw c.as_slice.ensures.value at c.date_new.ensures.dated, c.date_new.ensures.long) c.in_ok-gone.gone.items moved c.in_ok-gone.ensures.ascending

pub invariant_of-interpreter-2 : goal.invariant_of-interpreter-2
invariant_of-interpreter-2 c = (closed c).0

pub returns : goal.returns
returns c = record { answers = rw (← c.interpreter.view_is, c.of.ensures, c.new.ensures) (closed c).1 }
