-- What a play read, from what its parts did
use Rattle.sdd_script_text.proofs.Words.{◌≡◌, ℕ, List, ◌++◌, Option, None, Some, IfSome, sym, ap, ◌∙◌, append-nil, IsAtEnd, ConsumesSome}
use Rattle.sdd_script_text.specs.Play.{ReadsAll}

-- a reader that is at its end and told its bytes gave them all
pub reads_all : (old new : Option (List ℕ)) (text : List ℕ) → IfSome old (λ all. text ≡ all) → ConsumesSome old new → IsAtEnd new → ReadsAll old new text
reads_all None new text h c e = record { read = tt; ended = e }
reads_all (Some all) None text h c e = absurd c.1
reads_all (Some all) (Some rest) text h c e = record { read = sym h ∙ sym (append-nil text) ∙ ap (λ l. text ++ l) (sym e); ended = e }
