-- That no guard of a participant has a name
use Rattle.sdd_interpreter.proofs.Words.{◌≡◌, ◌≢◌, ℕ, List, Option, Some, None, map, slice_index_or, refl, sym, ap, ◌∙◌, subst, get_or-map, index_of, opening_at, place_in, NamedParticipant, NamedGuard, open_since, guarding, AreOpen}
use Rattle.sdd_script_model.specs.Script.{IsOf}

pub none-open : (places : List (Option NamedParticipant)) (guards : List (Option NamedGuard)) (n : ℕ) (a : NamedParticipant) →
    Some a ≡ slice_index_or places n None →
    ((g : ℕ) (held : NamedGuard) → slice_index_or guards g None ≡ Some held → held.place ≢ index_of a.place) →
    (g : ℕ) → ¬ (AreOpen (map open_since places) (map guarding guards) n g)
none-open places guards n a there none g is = by (slice_index_or guards g None) refl where
  home : ℕ
  home = place_in (opening_at (map open_since places) n)

  here : home ≡ index_of a.place
  here = ap place_in (get_or-map open_since places n None ∙ ap open_since (sym there))

  by : (x : Option NamedGuard) → slice_index_or guards g None ≡ x → ⊥
  by None e = subst (IsOf home) (get_or-map guarding guards g None ∙ ap guarding e) is.1
  by (Some held) e = none g held e (subst (IsOf home) (get_or-map guarding guards g None ∙ ap guarding e) is.1 ∙ here)
