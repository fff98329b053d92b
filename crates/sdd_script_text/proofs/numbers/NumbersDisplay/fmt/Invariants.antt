use Rattle.sdd_script_text.proofs.Words.{◌∷◌, take, decimal, flat_map, HasWritten, IsPlainFormatter}
use Rattle.sdd_script_text.proofs.numbers.NumbersDisplay.fmt.Given as goal

-- the numbers so far are written behind the first, each after a space
abbrev pub invariant-loop-number : goal.invariant-loop-number
invariant-loop-number g l =
    IsPlainFormatter l.initial.f → HasWritten g.W.Write.write_str_gives l.initial.f (flat_map (λ n. 32 ∷ decimal n) (take l.number-index l.others)) l.f
