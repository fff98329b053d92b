-- What a closure that is called again, as long as others win, was asked last
use Rattle.std.specs.Prelude.{List}
use Rattle.std.specs.List.{FoldsTo}

-- after some calls in a row, each of which was one to go on after, the closure was called at x, and answered r
abbrev pub WasAsked : {F A R : Type 0} → (F → A → F → Type 0) → (F → A → R → Type 0) → F → A → R → Type 0
WasAsked {F} {A} goes_on answers f x r = (earlier : List A) × (last : F) × FoldsTo goes_on f earlier last × answers last x r
