-- A participant's giver, as its caller sees it and as it is inside
use Rattle.std.proofs.Common.{◌≡◌, ap}
use Rattle.sdd_domain.specs.declared.local.Local.TheInside.{Inside}

abbrev pub same_giver : {T J : Type 0} {x y : Inside T J} → x ≡ y → x.giver ≡ y.giver
same_giver e = ap (λ (i : Inside _ _). i.giver) e
