use Rattle.std.proofs.Common.{ℕ, ◌+◌}
use mathlib.Core.Bool.{Bool, true, false}
use base.Fraction.{full_share}
use base.Shift.{Keyless}
use denote.RattleType.{RattleType}
use denote.Param.Send.{IsSend, IsSync, part_keyless}
use Rattle.core.proofs.atomic.Sent.{chain-Keyless}
use Rattle.sdd_bag.specs.KeyedPlaces.{PlaceName, Loan, start, state}
use Rattle.sdd_bag.specs.contracts.keyed_place.KeyedPlace.{the_row}

state_keyless : (R : RattleType) → IsSend R → (n : PlaceName) (b o : ℕ) (t : Loan) (here : Bool) → Keyless (state R n b o t here)
state_keyless R s n b o t true = ((tt, tt), λ x. (part_keyless R s full_share x b (o + start R), tt))
state_keyless R s n b o t false = (tt, tt)

pub sync : (T : RattleType) → IsSend T → IsSync (the_row T)
sync T s = record { shared = λ d b o κ t. ((λ νs. chain-Keyless νs κ t.0), λ here. state_keyless T s d b o t here) }
