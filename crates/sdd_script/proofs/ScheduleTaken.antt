-- What the steps of a list are answered, one by one
use Rattle.sdd_script.proofs.Words.{◌≡◌, ◌≢◌, ℕ, Bool, true, false, List, [], ◌∷◌, ◌++◌, length, Some, refl, sym, ap, subst, suc, ◌∙◌, Step, did, size_for, state, history, AreAnswers, Exact, IsSomeAnd, Publish, Safe, Size, Tells, at_each, did_possible, exact, goes_on, goes_on-append, goes_on_is, if◌then◌else◌, possible, safe, slice_get}
use Rattle.sdd_machine.specs.declared.machine.steps.Did.{Did}
use Rattle.sdd_machine.specs.declared.machine.steps.Did.TheVariants.{NotPossible}
use Rattle.sdd_machine.specs.Laws.{AtEachMoment}
use Rattle.sdd_script.specs.Schedule.{Answers}

-- the answers to steps behind others
abbrev pub answers_behind : Size → List Step → List Step → List Did
answers_behind size past [] = []
answers_behind size past (step ∷ steps) = did (state size past) step ∷ answers_behind size (goes_on size past (step ∷ [])) steps

-- one step more
pub answered_more : (size : Size) (past steps : List Step) (step : Step) →
    answers_behind size past (steps ++ step ∷ []) ≡ answers_behind size past steps ++ did (state size (goes_on size past steps)) step ∷ []
answered_more size past [] step = refl
answered_more size past (s ∷ steps) step = ap (λ l. did (state size past) s ∷ l) (answered_more size (goes_on size past (s ∷ [])) steps step)

as_many : (size : Size) (past steps : List Step) → length (answers_behind size past steps) ≡ length steps
as_many size past [] = refl
as_many size past (s ∷ steps) = ap suc (as_many size (goes_on size past (s ∷ [])) steps)

-- the answer to a step behind others
answer_at : (size : Size) (past before after : List Step) (step : Step) →
    slice_get (answers_behind size past (before ++ step ∷ after)) (length before) ≡ Some (did (state size (goes_on size past before)) step)
answer_at size past [] after step = refl
answer_at size past (s ∷ before) after step = answer_at size (goes_on size past (s ∷ [])) before after step

-- a publish that is possible tells what is due at it
tells : (size : Size) (before : List Step) (place : ℕ) → possible (state size (history size before)) (Publish place) ≡ true
    → Tells size place (history size before)
tells size before place can =
    let moment = goes_on-append size [] before (Publish place ∷ []) ∙ ap (λ b. if b then Publish place ∷ history size before else history size before) can in
    (exact size (history size (before ++ Publish place ∷ [])) (goes_on_is size [] (before ++ Publish place ∷ []) tt)).told place (history size before) moment

tells_then : (size : Size) (before : List Step) (step : Step) (place : ℕ) (can : Bool) → possible (state size (history size before)) step ≡ can →
    step ≡ Publish place → did (state size (history size before)) step ≢ NotPossible → Tells size place (history size before)
tells_then size before step place true can is done = tells size before place (subst (λ s. possible (state size (history size before)) s ≡ true) is can)
tells_then size before step place false can is done =
    let s = state size (history size before) in
    absurd (done (ap (λ b. if b then did_possible s step else NotPossible) can))

answered : (size : Size) (before : List Step) (step : Step) → Answers size (history size before) step (did (state size (history size before)) step)
answered size before step = record { does = refl; tells = λ place is done. tells_then size before step place _ refl is done }

pub are_answers : (steps : List Step) → AreAnswers steps (answers_behind (size_for steps) [] steps)
are_answers steps = let size = size_for steps in record {
  as_many = as_many size [] steps;
  each = λ before after step e.
      subst (λ o. IsSomeAnd o (Answers size (history size before) step))
      (sym (ap (λ l. slice_get (answers_behind size [] l) (length before)) (sym e) ∙ answer_at size [] before after step)) (answered size before step);
}

-- what is kept by every history is kept after each beginning of a list
pub always_safe : (steps : List Step) → AtEachMoment steps Safe
always_safe = at_each Safe safe

pub always_exact : (steps : List Step) → AtEachMoment steps Exact
always_exact = at_each Exact exact
