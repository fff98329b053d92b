use Rattle.sdd_interpreter.proofs.Words.{ℕ, List, ◌++◌, sym, ap, subst, ◌∙◌, drop, CallerId, IsExact, IsWalkOf, shown_of, Number, map}
use Rattle.sdd_interpreter.proofs.ShownEntries.{next-number, shown-all, shown-more}
use Rattle.sdd_interpreter.proofs.commands.containers.ListNumbersListCommand.done.Goals as goal

pub loop-body-init : goal.loop-body-init
loop-body-init g c = record {
  caller = c.walk-walk.ensures.undisturbed.caller;
  world = c.walk-walk.ensures.world c.requires.exact;
  walk = c.walk-walk.ensures.home;
  shown = λ es second list. (
    shown_of es,
    c.walk-walk.ensures.list c.requires.exact es second list,
    ap (λ (ns : List ℕ). map Number ns ++ shown_of es) (sym c.new-numbers.ensures),
  );
}

pub loop-body-preserved : goal.loop-body-preserved
loop-body-preserved g c =
    let before = c.loop-body.invariant in
    let exact : IsExact (g.S.Caller.caller c.loop-body.s) = subst (λ (s : CallerId). IsExact s) (sym before.caller) c.requires.exact in
    record {
      caller = c.in-Some.ensures.undisturbed.caller ∙ before.caller;
      world = c.in-Some.ensures.world exact ∙ before.world;
      walk = subst (λ (s : CallerId). IsWalkOf s.home.cells c.next.new.self) before.caller c.in-Some.ensures.home;
      shown = λ es second list.
          (let shows = before.shown es second list in
          let next = c.in-Some.ensures.list exact shows.0 shows.1 in (
            drop 1 shows.0,
            next.1,
            shown-more es c.loop-body.numbers shows.0 shows.2 c.in-Number.number c.in-Some.body.now c.push.new.self next.0 c.in-Number.is
                c.in_ok-push-in-Number.ensures.ok,
          ));
    }

pub unreachable-requires : goal.unreachable-requires
unreachable-requires g c =
    let before = c.loop-body.invariant in
    let exact : IsExact (g.S.Caller.caller c.loop-body.s) = subst (λ (s : CallerId). IsExact s) (sym before.caller) c.requires.exact in
    let shows = before.shown c.requires.asked.2.0 c.requires.asked.2.1 c.requires.asked.2.2 in
    let next = c.in-Some.ensures.list exact shows.0 shows.1 in
    let is = next-number c.requires.asked.2.0 c.loop-body.numbers shows.0 shows.2 c.in-Some.body.now c.requires.asked.2.3 next.0 in
    c.in_default-body.not-Number is.0 is.1

pub returns-clause-done : goal.returns-clause-done
returns-clause-done g c =
    let before = c.loop-body.invariant in
    let exact : IsExact (g.S.Caller.caller c.loop-body.s) = subst (λ (s : CallerId). IsExact s) (sym before.caller) c.requires.exact in (
      c.in_default.ensures.world exact ∙ before.world,
      (λ es second list.
          let shows = before.shown es second list in
          shown-all es c.loop-body.numbers shows.0 shows.2 (c.in_default.ensures.list exact shows.0 shows.1).0),
    )
