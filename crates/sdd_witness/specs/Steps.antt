-- A step of a seat that changes no word.
use Rattle.core.specs.Prelude.{◌≡◌, ℕ, List, length, slice_set}
use mathlib.Core.Option.{some}
use lib.ListN.{get_elem?}
use Rattle.atomic_table.specs.Table.{State, Me, Act, Valid, homes_after, carried_after}

module _ {S V : Type 0} where
  -- the words stay; the seat id has the view w, and takes and gives slots
  abbrev pub moved : State S V → ℕ → List (ℕ × S) → V → Act S → State S V
  moved s id c w a = record { words = s.words; homes = homes_after s.homes c a; views = slice_set s.views id w }

  -- Whatever the table is, the seat has a new view and an act that keep the rule, and `then` holds of the seat after
  abbrev pub AllowsAlone : (State S V → Type 0) → ℕ → ℕ → Me S V → (Me S V → Type 0) → Type 0
  AllowsAlone holds slots id me then = (s : State S V) → holds s → length s.homes ≡ slots → get_elem? s.views id ≡ some me.0
      → (w : V) × (a : Act S) × Valid s.homes me.1 a × holds (moved s id me.1 w a) × then (w, carried_after me.1 a)

  -- the same where the seat jd has the view v
  abbrev pub AllowsBeside : (State S V → Type 0) → ℕ → ℕ → Me S V → ℕ → V → (Me S V → Type 0) → Type 0
  AllowsBeside holds slots id me jd v then = (s : State S V) → holds s → length s.homes ≡ slots → get_elem? s.views id ≡ some me.0
      → get_elem? s.views jd ≡ some v → (w : V) × (a : Act S) × Valid s.homes me.1 a × holds (moved s id me.1 w a) × then (w, carried_after me.1 a)
