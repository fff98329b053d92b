-- What a scan leaves, and what its end tells
use Rattle.std.specs.Prelude.{◌≡◌, ◌≢◌, ℕ, ◌+◌, ◌^◌, ◌<◌, ◌≤◌}
use Rattle.atomic_table.specs.declared.shared.Seat.{Seat}
use Rattle.sdd_shared_values.specs.declared.value_fraction.ValueFraction.{ValueFraction}
use Rattle.sdd_rights.specs.declared.views.EpochView.{EpochView}
use Rattle.sdd_rights.specs.declared.views.View.{View}
use Rattle.sdd_domain_invariant.specs.Epoch.{IsOpen, Scans, IsLone}
use Rattle.sdd_domain_invariant.specs.Epoch.EpochSteps.{knowing}
use Rattle.sdd_domain_invariant.specs.Slots.SlotSteps.{ClosesAll}
use Rattle.sdd_domain_invariant.specs.Fractions.FractionSteps.{unsighted}
use Rattle.sdd_atomics.specs.DomainSeat.{view, epoch, IsSameBut}
use Rattle.sdd_domain_steps.specs.declared.epoch.scan.ScanEnd.{ScanEnd}
use Rattle.sdd_domain_steps.specs.declared.epoch.scan.ScanEnd.TheVariants.{Raised, Outdated, Locked, Held, Overtaken, Last}

-- the looks went on to the place k
abbrev pub looked_to : EpochView → ℕ → EpochView
looked_to v k = record v { looked = k }

-- where every place passed: an exchange raises the count, or finds another one; but the last one stays
abbrev pub Raises : ScanEnd → EpochView → EpochView → Type 0
Raises Raised v w = (v.count + 1 < 2 ^ 64) × (w ≡ knowing v (v.count + 1))
Raises Overtaken v w = (IsLone v → v.known ≢ v.count) × (w ≡ v)
Raises Last v w = (v.count + 1 ≡ 2 ^ 64) × (w ≡ v)
Raises Outdated v w = ⊥
Raises Locked v w = ⊥
Raises Held v w = ⊥

-- what a participant, whose count is this one, knows by how its scan ended: the greatest count that it knows then. That another one scans, or that a place
-- is behind, is so at one moment and tells nothing of the next; a lone participant finds neither
abbrev pub Tells : ScanEnd → Type 0 → ℕ → ℕ → Type 0
Tells Raised lone count known = (count + 1 < 2 ^ 64) × (known ≡ count + 1)
Tells Outdated lone count known = known ≢ count
Tells Locked lone count known = (¬ lone) × (known ≡ count)
Tells Held lone count known = (¬ lone) × (known ≡ count)
Tells Overtaken lone count known = (¬ lone) × (known ≡ count)
Tells Last lone count known = (count + 1 ≡ 2 ^ 64) × (known ≡ count)

-- after a scan only the count that is known may have risen, to one more than it was at the publish at most;
-- a lone participant that knew its own count has raised it, unless it was the last
pub record Scanned (v w : EpochView) : Type 0 where
  pub all : w.all ≡ v.all
  pub place : w.place ≡ v.place
  pub state : w.state ≡ v.state
  pub count : w.count ≡ v.count
  pub since : w.since ≡ v.since
  pub found : w.found ≡ v.found
  pub free : ¬ (Scans w)
  pub rises : v.known ≤ w.known
  pub near : IsOpen v → v.count ≤ v.since → w.known ≤ v.since + 1
  pub raised : IsLone v → v.known ≡ v.count → v.count + 1 < 2 ^ 64 → w.known ≡ v.count + 1
  pub last : IsLone v → v.known ≡ v.count → v.count + 1 ≡ 2 ^ 64 → w.known ≡ v.known

-- a scan that ended so, and then the last close: there is a seat between the two
pub record ClosedAfterScan (end : ScanEnd) (old new : Seat ValueFraction View) : Type 0 where
  pub between : Seat ValueFraction View
  pub same : IsSameBut old between
  pub scanned : Scanned (epoch old) (epoch between)
  pub told : Tells end (IsLone (epoch old)) (epoch old).count (epoch between).known
  pub closed : (v : View) × ClosesAll (view between) 1 v × (view new ≡ unsighted v)
