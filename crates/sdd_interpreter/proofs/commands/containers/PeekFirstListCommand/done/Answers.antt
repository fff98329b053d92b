use Rattle.sdd_interpreter.proofs.Words.{ℕ, Option, sym, subst, ◌∙◌, CallerId, IsExact, HasNumber, Val}
use Rattle.sdd_interpreter.proofs.ShownEntries.{first-number, points-left}
use Rattle.sdd_interpreter.proofs.commands.containers.PeekFirstListCommand.done.Goals as goal

pub unreachable-requires : goal.unreachable-requires
unreachable-requires g c =
    let exact : IsExact (g.S.Caller.caller c.peek-first.new.s) =
    subst (λ (s : CallerId). IsExact s) (sym c.peek-first.ensures.undisturbed.caller) c.requires.exact in
    let value = λ (k : ℕ) (v : Val). (g.met.S.Caller.shows_is_value c.peek-first.new.s exact k v).0 in
    let es = c.requires.asked.2.0 in
    let second = c.requires.asked.2.1 in
    let list = c.requires.asked.2.2 in
    let first = points-left _ _ value _ c.peek-first.ensures.shown _ c.args.self.list es second (c.peek-first.ensures.world c.requires.exact) list
    (c.peek-first.ensures.list c.requires.exact es second list) in
    c.in-None-number_of.ensures (first-number es c.in-Some.value.now c.requires.asked.2.3 (sym first ∙ sym c.in-Some.ensures.shown))

pub returns-in-Some-number_of-clause-done : goal.returns-in-Some-number_of-clause-done
returns-in-Some-number_of-clause-done g c =
    let exact : IsExact (g.S.Caller.caller c.peek-first.new.s) =
    subst (λ (s : CallerId). IsExact s) (sym c.peek-first.ensures.undisturbed.caller) c.requires.exact in
    let value = λ (k : ℕ) (v : Val). (g.met.S.Caller.shows_is_value c.peek-first.new.s exact k v).0 in (
      c.peek-first.ensures.world c.requires.exact,
      (λ es second list.
          let first = points-left _ _ value _ c.peek-first.ensures.shown _ c.args.self.list es second (c.peek-first.ensures.world c.requires.exact) list
          (c.peek-first.ensures.list c.requires.exact es second list) in
          subst (λ (v : Option Val). HasNumber v c.in-Some-number_of.number) (c.in-Some.ensures.shown ∙ first) c.in-Some-number_of.ensures),
    )

pub returns-in-None-clause-done : goal.returns-in-None-clause-done
returns-in-None-clause-done g c =
    let exact : IsExact (g.S.Caller.caller c.peek-first.new.s) =
    subst (λ (s : CallerId). IsExact s) (sym c.peek-first.ensures.undisturbed.caller) c.requires.exact in
    let value = λ (k : ℕ) (v : Val). (g.met.S.Caller.shows_is_value c.peek-first.new.s exact k v).0 in (
      c.peek-first.ensures.world c.requires.exact,
      (λ es second list.
          let first = points-left _ _ value _ c.peek-first.ensures.shown _ c.args.self.list es second (c.peek-first.ensures.world c.requires.exact) list
          (c.peek-first.ensures.list c.requires.exact es second list) in
          sym first ∙ sym c.in-None.ensures.shown),
    )
