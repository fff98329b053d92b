-- What a read fraction owns: one unit of a full place's number.
use Rattle.std.specs.Prelude.{ℕ, [], ◌∷◌}
use base.Stored.{Gv, gnil, gnum, gcons}
use base.Fml.{Lft, Fml, fsep, flft}
use denote.Sharing.{one, beside}
use Rattle.sdd_rights.specs.Units.{share_of, units, tokens}

-- the code of a value, and not of nothing
abbrev pub IsValueCode : Gv → Type 0
IsValueCode gnil = ⊥
IsValueCode (gnum n) = ⊥
IsValueCode (gcons a b) = Unit {0}

pub IsFull-prop : (g : Gv) → IsProp (IsValueCode g)
IsFull-prop gnil = λ x y. absurd x
IsFull-prop (gnum n) = λ x y. absurd x
IsFull-prop (gcons a b) = λ x y i. x

-- the units of a place's number agree on a lifetime and on what they show
abbrev pub agreed_on : ℕ → Gv → Gv
agreed_on a g = gcons (gnum a) g

-- one unit of the number i of the ghost map γ, with as much of the lifetime's token
abbrev pub read_fraction_owns : ℕ → ℕ → ℕ → Gv → Fml
read_fraction_owns γ i a g = fsep (units γ i (agreed_on a g) 1) (tokens a 1)

abbrev pub read_fraction_shares : ℕ → ℕ → ℕ → Gv → Lft → Fml
read_fraction_shares γ i a g = beside (one (share_of γ i (agreed_on a g))) (one (λ q. flft (a ∷ []) q))
