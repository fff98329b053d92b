-- The number of each refusal
use Rattle.std.specs.Prelude.{ℕ}
use Rattle.sdd_core.specs.declared.refused.Refused.{Refused}
use Rattle.sdd_core.specs.declared.refused.Refused.TheVariants.{NoSlot, NoCell, NoJob, NoPlace, NoMemory, TooManyGuards, GuardOpen, NotAlone, OwnerOut, Contended, TooManyOwners, BadLimits}

abbrev pub number_of : Refused → ℕ
number_of NoSlot = 1
number_of NoCell = 2
number_of NoJob = 3
number_of NoPlace = 4
number_of NoMemory = 5
number_of TooManyGuards = 6
number_of GuardOpen = 7
number_of NotAlone = 8
number_of OwnerOut = 9
number_of Contended = 10
number_of TooManyOwners = 11
number_of BadLimits = 12
