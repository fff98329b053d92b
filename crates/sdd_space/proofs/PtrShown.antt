-- What a pointer shows, while each slot shows what it showed
use Rattle.std.proofs.Common.{ℕ}
use Rattle.sdd_space.specs.declared.ptr.Ptr.{Ptr}
use Rattle.sdd_space.specs.Ptr.{KeepsShown, PtrIsShown}

-- it shows that still
pub shown_still : {T : Type 0} (shows after : ℕ → T → Type 0) (p : Ptr T) → KeepsShown shows after → PtrIsShown shows p → PtrIsShown after p
shown_still shows after p keeps is = record {
  full = λ k names. let full = is.full k names in (full.0, full.1, keeps k full.0 full.2);
  null = is.null;
}
