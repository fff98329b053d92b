-- Values made of values: each part gives up what it holds, one after another.
use Rattle.std.proofs.Common.{◌≡◌, ℕ, List, [], ◌∷◌, ◌++◌, refl, sym, ap, ◌∙◌, subst}
use Rattle.sdd_world_model.specs.OwnerOrCell.{SpaceId, OwnerOrCell, AreOf}
use Rattle.sdd_space.specs.CallerId.{CallerId, IsExact}
use Rattle.sdd_world_model.specs.World.{World}
use Rattle.sdd_world_model.specs.WorldChanges.{given, given_all}

pub first-of : (home : SpaceId) (hs js : List OwnerOrCell) → AreOf home (hs ++ js) → AreOf home hs
first-of home [] js are = tt
first-of home (h ∷ hs) js are = (are.0, first-of home hs js are.1)

pub rest-of : (home : SpaceId) (hs js : List OwnerOrCell) → AreOf home (hs ++ js) → AreOf home js
rest-of home [] js are = are
rest-of home (h ∷ hs) js are = rest-of home hs js are.1

pub given-both : {T : Type 0} (w : World T) (p : ℕ) (hs js : List OwnerOrCell) → given_all w p (hs ++ js) ≡ given_all (given_all w p hs) p js
given-both w p [] js = refl
given-both w p (h ∷ hs) js = given-both (given w p h) p hs js

-- after the first parts the giver has the same caller
pub rest-home : (s t : CallerId) (hs js : List OwnerOrCell) → t ≡ s → AreOf s.home (hs ++ js) → AreOf t.home js
rest-home s t hs js same are = subst (λ (x : CallerId). AreOf x.home js) (sym same) (rest-of s.home hs js are)

pub gives-both : {T : Type 0} (w v u : World T) (s t : CallerId) (hs js : List OwnerOrCell) → t ≡ s → (IsExact s → v ≡ given_all w s.place hs)
    → (IsExact t → u ≡ given_all v t.place js) → IsExact s → u ≡ given_all w s.place (hs ++ js)
gives-both w v u s t hs js same first second exact = second (subst IsExact (sym same) exact)
    ∙ (ap (λ (x : CallerId). given_all v x.place js) same ∙ (ap (λ x. given_all x s.place js) (first exact) ∙ sym (given-both w s.place hs js)))
