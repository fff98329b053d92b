use Rattle.sdd_script.proofs.Words.{◌≡◌, [], length, take, get_or, refl, sym, ap, ◌∙◌, arith, take_more, take_all, length_push, did, size_for, state, history, taken_more}
use Rattle.sdd_machine.specs.declared.machine.steps.Step.TheVariants.{Register}
use Rattle.sdd_script.proofs.ScheduleTaken.{answered_more, are_answers, always_safe, always_exact}
use Rattle.sdd_script.proofs.schedules.taking.take_all.Goals as goal

pub returns-in_err-machine-clause-safe : goal.returns-in_err-machine-clause-safe
returns-in_err-machine-clause-safe c = always_safe c.args.steps.now

pub returns-in_err-machine-clause-exact : goal.returns-in_err-machine-clause-exact
returns-in_err-machine-clause-exact c = always_exact c.args.steps.now

pub returns-in_err-answers-clause-safe : goal.returns-in_err-answers-clause-safe
returns-in_err-answers-clause-safe c = always_safe c.args.steps.now

pub returns-in_err-answers-clause-exact : goal.returns-in_err-answers-clause-exact
returns-in_err-answers-clause-exact c = always_exact c.args.steps.now

pub loop-step-preserved : goal.loop-step-preserved
loop-step-preserved c =
    let steps = c.args.steps.now in
    let size = size_for steps in
    let i = c.loop-step.step-index in
    let step = get_or steps i (Register 0) in
    let before = c.loop-step.invariant in
    let pushed = c.push_reserved.ensures.items in
    let told : c.step.result ≡ did (state size (history size (take i steps))) step = c.step.ensures.did ∙ ap (λ m. did m step) before.machine in record {
      machine = c.step.ensures.new ∙ taken_more size steps i _ _ c.loop-step.machine c.loop-step-test.true before.machine refl;
      answers = rw (take_more steps i (Register 0) c.loop-step-test.true)
          (pushed ∙ rw (before.answers, told) (sym (answered_more size [] (take i steps) step)));
      answered = omega (arith, ap length pushed, length_push c.loop-step.answers.items c.step.result, before.answered);
      room = omega (arith, before.room, c.push_reserved.ensures.capacity);
    }

pub returns-clause-answers : goal.returns-clause-answers
returns-clause-answers c =
    let all = take_all c.loop-step.step-index c.args.steps.now (omega (arith, c.loop-step-test.false)) in
    rw (rw all at c.loop-step.invariant.answers) (are_answers c.args.steps.now)

pub returns-clause-safe : goal.returns-clause-safe
returns-clause-safe c = always_safe c.args.steps.now

pub returns-clause-exact : goal.returns-clause-exact
returns-clause-exact c = always_exact c.args.steps.now
