-- What calls of a closure make of values, one after another
use Rattle.std.specs.Prelude.{◌≡◌, List, [], ◌∷◌, ◌++◌}
use Rattle.sdd_bag.specs.Values.{AreInSomeOrder}

-- calls of f, one for each of these values in order, make the result of what is made so far
abbrev pub Folds : {F R T : Type 0} → (F → R → T → R → F → Type 0) → F → R → List T → R → Type 0
Folds step f made [] result = made ≡ result
Folds {F} {R} step f made (v ∷ vs) result = (next : R) × (then : F) × step f made v next then × Folds step then next vs result

-- calls of f for some of the old values leave g and what is made next, with the new values: what g makes of these, whatever others there are, f makes of
-- the old ones
abbrev pub FoldsOn : {F R T : Type 0} → (F → R → T → R → F → Type 0) → F → R → List T → F → R → List T → Type 0
FoldsOn {F} {R} {T} step f made old g next new = (others vs : List T) (result : R) → AreInSomeOrder vs (others ++ new) → Folds step g next vs result
    → (us : List T) × AreInSomeOrder us (others ++ old) × Folds step f made us result
