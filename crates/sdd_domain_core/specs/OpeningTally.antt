-- What an opening changes of a participant's tally
use Rattle.std.specs.Prelude.{◌≡◌, ◌⊎◌, ℕ, ◌≤◌, []}
use Rattle.sdd_domain_steps.specs.LocalState.{LocalState, HasOpenGuard, IsLone}
use Rattle.sdd_domain_steps.specs.Receipt.{with_reclaimed}
use Rattle.sdd_domain_steps.specs.WaitingItems.{items_in, due_at}

-- of so many items that were due some were reclaimed, and are counted: all, but for private ones that the close of another had claimed
pub record CountsGone {J : Type 0} (items : ℕ) (old new : LocalState J) : Type 0 where
  pub gone : ℕ
  pub few : gone ≤ items
  pub tally : new.tally ≡ with_reclaimed gone old.tally
  pub all : IsLone old ⊎ (old.slots.privates ≡ []) → gone ≡ items
  pub privates : old.slots.privates ≡ [] → new.slots.privates ≡ []

-- beside an open guard nothing is reclaimed. An outermost opening that finds another count reclaims what is due then: it counts the items among it that it
-- reclaims, and no job
pub record CountsReclaimed {J : Type 0} (old new : LocalState J) : Type 0 where
  pub inner : HasOpenGuard old → new.tally ≡ old.tally
  pub outermost : ¬ (HasOpenGuard old) → CountsGone (items_in (due_at new.own.found old.own)) old new
