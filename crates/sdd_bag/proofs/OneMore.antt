-- One value more among others
use Rattle.std.proofs.Common.{◌≡◌, ◌+◌, List, ◌∷◌, ◌++◌, length, append_assoc, sym, ap, ◌∙◌, arith}
use Rattle.std.proofs.lemmas.List.{length-append}
use Rattle.sdd_bag.specs.Values.{HasOneMore}

module _ {T : Type 0} (v : T) (few many : List T) (one : HasOneMore v few many) where
  pub more-behind : (vs : List T) → HasOneMore v (vs ++ few) (vs ++ many)
  more-behind vs = record {
    before = vs ++ one.before;
    behind = one.behind;
    fewer = ap (λ (xs : List T). vs ++ xs) one.fewer ∙ sym (append_assoc vs one.before one.behind);
    more = ap (λ (xs : List T). vs ++ xs) one.more ∙ sym (append_assoc vs one.before (v ∷ one.behind));
  }

  pub more-before : (vs : List T) → HasOneMore v (few ++ vs) (many ++ vs)
  more-before vs = record {
    before = one.before;
    behind = one.behind ++ vs;
    fewer = ap (λ (xs : List T). xs ++ vs) one.fewer ∙ append_assoc one.before one.behind vs;
    more = ap (λ (xs : List T). xs ++ vs) one.more ∙ append_assoc one.before (v ∷ one.behind) vs;
  }

  pub one-longer : length many ≡ length few + 1
  one-longer =
      omega (
        arith,
        ap (λ (xs : List T). length xs) one.fewer,
        ap (λ (xs : List T). length xs) one.more,
        length-append one.before one.behind,
        length-append one.before (v ∷ one.behind),
      )
