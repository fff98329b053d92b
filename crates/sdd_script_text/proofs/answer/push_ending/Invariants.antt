use Rattle.sdd_script_text.proofs.Words.{◌≡◌, ℕ, List, ◌∷◌, ◌++◌, Some, string_bytes, take, map, flat_map}
use Rattle.sdd_script_text.proofs.answer.push_ending.Given as goal

-- the heading and the names so far are written, each after a space
abbrev pub invariant-loop-name : goal.invariant-loop-name
invariant-loop-name g l =
    (shown : g.row.N.Denot → List ℕ) → ((name : g.row.N.Denot) → g.N.Display.output name ≡ Some (shown name))
    → string_bytes l.text ≡ string_bytes l.fn.text ++ flat_map (λ word. 32 ∷ word) (l.heading ∷ map shown (take l.name-index l.names))
