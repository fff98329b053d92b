-- How far a lone participant reclaims what waits with it
use Rattle.std.specs.Prelude.{◌≡◌, ◌⊎◌, ℕ, ◌+◌, ◌*◌, ◌^◌, ◌<◌, ◌≤◌, false}
use Rattle.sdd_participants.specs.EpochState.{due_next}
use Rattle.sdd_domain_steps.specs.LocalState.{LocalState, waits}
use Rattle.sdd_domain_steps.specs.WaitingItems.{items_in}

-- until nothing waits any more, or more items than are left are due next, or the count of epochs rose four times for each slot and four times more, or is the
-- last one
abbrev pub IsDrained : {J : Type 0} → ℕ → LocalState J → LocalState J → Type 0
IsDrained left old new = (waits new ≡ false) ⊎ ((left < items_in (due_next new.own))
    ⊎ ((old.known + 4 * (old.limits.slots + 1) ≤ new.known) ⊎ (2 ^ 64 ≤ new.known + 1)))
