-- Values in no said order
use Rattle.std.specs.Prelude.{◌≡◌, List, [], ◌∷◌, ◌++◌}

-- the second has one value more than the first, somewhere among them, and is the same else
pub record HasOneMore {T : Type 0} (value : T) (few many : List T) : Type 0 where
  pub before : List T
  pub behind : List T
  pub fewer : few ≡ before ++ behind
  pub more : many ≡ before ++ value ∷ behind

-- the first are the values, in some order
abbrev pub AreInSomeOrder : {T : Type 0} → List T → List T → Type 0
AreInSomeOrder [] values = values ≡ []
AreInSomeOrder {T} (v ∷ vs) values = (others : List T) × HasOneMore v others values × AreInSomeOrder vs others
