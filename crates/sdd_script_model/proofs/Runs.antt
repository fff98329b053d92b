-- A run, line by line
use Rattle.sdd_script_model.proofs.Words.{List, [], ◌∷◌, ◌++◌, refl, subst, Call, Answer, holdings_of, ScriptState, LineStep, Runs}
use Rattle.sdd_world_model.specs.ReclaimBound.{GoesInTime}

-- one line more
pub runs-push : (start : ScriptState) (calls : List Call) (answers : List Answer) (mid : ScriptState) (call : Call) (answer : Answer) (new : ScriptState) →
    Runs start calls answers mid → LineStep mid call answer new → GoesInTime holdings_of new.world
    → Runs start (calls ++ call ∷ []) (answers ++ answer ∷ []) new
runs-push start [] [] mid call answer new same step time = (new, subst (λ d. LineStep d call answer new) same step, time, refl)
runs-push start [] (a ∷ answers) mid call answer new none step time = absurd none
runs-push start (c ∷ calls) [] mid call answer new none step time = absurd none
runs-push start (c ∷ calls) (a ∷ answers) mid call answer new (next, first, kept, rest) step time =
    (next, first, kept, runs-push next calls answers mid call answer new rest step time)
