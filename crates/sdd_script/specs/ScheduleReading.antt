-- Reading a verb. Only private functions cite this: what a line is, `ScheduleLine` says by the steps' own texts.
use Rattle.std.specs.Prelude.{ℕ, List, [], ◌∷◌, Option, Some, None, if◌then◌else◌}
use Rattle.std.specs.Str.{bytes_eq}
use Rattle.sdd_machine.specs.declared.machine.steps.Step.{Step}
use Rattle.sdd_machine.specs.declared.machine.steps.Step.TheVariants.{Register, Read, Publish, Lock, Adopt, Look, Advance, Unlock, Close, End}
use Rattle.sdd_script.specs.ScheduleLine.{verb_of}

-- the steps that name a place alone
abbrev pub steps_at : ℕ → List Step
steps_at place = Register place ∷ Read place ∷ Publish place ∷ Lock place ∷ Adopt place ∷ Look place ∷ Advance place ∷ Unlock place ∷ Close place ∷ End place
    ∷ []

-- the first of the steps with this verb
abbrev pub called : List ℕ → List Step → Option Step
called verb [] = None
called verb (step ∷ steps) = if bytes_eq verb (verb_of step) then Some step else called verb steps
