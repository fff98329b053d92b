-- What the close of a guard tells of its scan
use Rattle.std.specs.Prelude.{◌≡◌, ◌≢◌, ◌⊎◌, Option, Some, None}
use Rattle.sdd_domain_steps.specs.declared.epoch.scan.ScanEnd.{ScanEnd}
use Rattle.sdd_domain_steps.specs.LocalState.{LocalState, IsLone}
use Rattle.sdd_domain_steps.specs.Scan.{Tells}

-- the last close at countdown 0 tries a scan, and tells how that ended; no other close tries one
pub record TellsScan {J : Type 0} (told : Option ScanEnd) (old new : LocalState J) : Type 0 where
  pub tried : old.own.guards ≡ 1 → old.own.countdown ≡ 0 → (end : ScanEnd) × (told ≡ Some end) × Tells end (IsLone old) old.own.found new.known
  pub none : (old.own.guards ≢ 1) ⊎ (old.own.countdown ≢ 0) → told ≡ None
