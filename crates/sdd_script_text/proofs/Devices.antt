-- Bytes that were written or read a part at a time
use Rattle.sdd_script_text.proofs.Words.{ℕ, ◌+◌, ◌-◌, List, ◌++◌, length, take, drop, take-add, Option, Appends, Consumes, take_rest, ConsumesSome}
use Rattle.std.proofs.KnownBytes.{Appends-kept, Appends-trans, Consumes-trans}

pub written_more : (a b c : Option (List ℕ)) (bytes : List ℕ) (n k : ℕ) → Appends a b (take n bytes) →
    Appends b c (take k (take (length bytes - n) (drop n bytes))) → Appends a c (take (n + k) bytes)
written_more a b c bytes n k p q = rw take-add (Appends-trans a b c _ _ p (rw take_rest at q))

pub consumed : (a b c : Option (List ℕ)) (xs ys : List ℕ) → Consumes a b xs → Consumes b c ys → ConsumesSome a c
consumed a b c xs ys p q = (xs ++ ys, Consumes-trans a b c xs ys p q)

pub ruleset parts = (written_more, consumed, Appends-kept)
