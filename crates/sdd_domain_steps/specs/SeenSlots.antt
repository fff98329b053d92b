-- What a participant's guards see, and what that shows
use Rattle.std.specs.Prelude.{◌≡◌, ℕ, List}
use base.Stored.{Gv}
use Rattle.sdd_rights.specs.declared.views.ShownValue.{ShownValue}
use Rattle.sdd_domain_invariant.specs.Slots.Records.{IsIn}

-- of each slot one value is known
abbrev pub IsOnce : List ShownValue → Type 0
IsOnce rs = (i : ℕ) (g h : Gv) → IsIn rs i g → IsIn rs i h → g ≡ h
