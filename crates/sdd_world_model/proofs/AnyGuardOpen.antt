-- Where some guard is open
use Rattle.std.proofs.Common.{◌≡◌, ◌⊎◌, inl, inr, ℕ, ◌<◌, ◌≤◌, List, [], ◌∷◌, length, refl, arith, zero, suc, slice_index_or, IsTrue, subst}
use Rattle.std.specs.Prelude.{Any}
use Rattle.std.proofs.lemmas.List.{get_or_past}
use Rattle.sdd_participants.specs.EpochState.{nobody, is_open}
use Rattle.sdd_participants.specs.declared.participant.Participant.{Participant}
use Rattle.sdd_world_model.specs.World.{World, AnyGuardOpen, place_at}
use Rattle.sdd_world_model.proofs.WorldInvariant.{below-or-past}

pub whichever : (ps : List Participant) (k : ℕ) (d e : Participant) → k < length ps → slice_index_or ps k d ≡ slice_index_or ps k e
whichever [] k d e l = absurd (omega (arith, l))
whichever (x ∷ ps) zero d e l = refl
whichever (x ∷ ps) (suc k) d e l = whichever ps k d e (omega (arith, l))

pub open-inside : (ps : List Participant) (q : ℕ) → (q < length ps) ⊎ (length ps ≤ q) → IsTrue (is_open (slice_index_or ps q nobody)) →
    Any (λ p. IsTrue (is_open p)) ps
open-inside ps q (inl l) o = (q, slice_index_or ps q nobody, l, whichever ps q (slice_index_or ps q nobody) nobody l, o)
open-inside ps q (inr past) o =
    let never : IsTrue (is_open nobody) = subst (λ (x : Participant). IsTrue (is_open x)) (get_or_past ps q nobody past) o in absurd (cc)

-- whose guard is open is there
pub guarded : {T : Type 0} (w : World T) (p : ℕ) → IsTrue (is_open (place_at w p)) → AnyGuardOpen w
guarded w p o = open-inside w.time.places p (below-or-past p (length w.time.places)) o
