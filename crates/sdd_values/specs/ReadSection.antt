-- What shows that a lifetime has ended
use Rattle.std.specs.Prelude.{ℕ, [], ◌∷◌}
use base.Fml.{Lft, Fml, fdead}
use denote.Sharing.{said}

abbrev pub ended_owns : ℕ → Fml
ended_owns t = fdead (t ∷ [])

abbrev pub ended_shares : ℕ → Lft → Fml
ended_shares t = said (fdead (t ∷ []))
