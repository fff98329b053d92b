-- Why a call may be refused, in any space
use Rattle.std.specs.Prelude.{◌≡◌, ◌⊎◌}
use Rattle.sdd_core.specs.declared.refused.Refused.{Refused}
use Rattle.sdd_core.specs.declared.refused.Refused.TheVariants.{Contended}
use Rattle.sdd_space.specs.CallerId.{CallerId, IsLone}

-- as many exchanges were lost as the limits allow, to others: a lone participant loses none
abbrev pub IsContended : CallerId → Refused → Type 0
IsContended s e = (e ≡ Contended) × ¬ (IsLone s)

-- for this reason, or since others won too often
abbrev pub IsRefusedBy : CallerId → Refused → Refused → Type 0
IsRefusedBy s why e = (e ≡ why) ⊎ IsContended s e
