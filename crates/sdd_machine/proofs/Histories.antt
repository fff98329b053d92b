-- Lists of steps that are histories
use Rattle.std.proofs.Common.{List, [], ◌∷◌}
use Rattle.std.specs.Prelude.{IsTrue}
use Rattle.sdd_machine.specs.declared.machine.steps.Step.{Step}
use Rattle.sdd_machine.specs.Table.{Size, possible}
use Rattle.sdd_machine.specs.History.{state}

-- each step was possible when it was taken
abbrev pub IsHistory : Size → List Step → Type 0
IsHistory size [] = Unit {0}
IsHistory size (step ∷ past) = IsTrue (possible (state size past) step) × IsHistory size past
