-- What is given up waits with the participant
use Rattle.std.proofs.Common.{◌≡◌, ℕ, List, [], ◌∷◌, ◌++◌, refl, ap, ◌∙◌, arith}
use Rattle.sdd_participants.specs.declared.waiting.LimboEntry.{LimboEntry}
use Rattle.sdd_participants.specs.declared.waiting.LimboEntry.TheVariants.{Item}
use Rattle.sdd_participants.specs.declared.participant.Participant.{Participant}
use Rattle.sdd_participants.specs.EpochState.{awaiting}
use Rattle.sdd_world_model.specs.KnownEpochs.{KnownEpochs, KnowsOn}
use Rattle.sdd_world_model.specs.ParticipantChanges.{all_awaiting, KeepsMoreWaiting}

one_more : (ks : List ℕ) (k : ℕ) (p : Participant) → awaiting (Item k) (all_awaiting ks p) ≡ all_awaiting (ks ++ k ∷ []) p
one_more [] k p = refl
one_more (j ∷ ks) k p = one_more ks k (awaiting (Item j) p)

pub grows_by : (k : ℕ) (old new : Participant) → new ≡ awaiting (Item k) old → KeepsMoreWaiting old new
grows_by k old new e start grown = (grown.0 ++ k ∷ [], e ∙ (ap (awaiting (Item k)) grown.1 ∙ one_more grown.0 k start))

pub grows_not : (old new : Participant) → new ≡ old → KeepsMoreWaiting old new
grows_not old new e start grown = (grown.0, e ∙ grown.1)

-- what was given up of what was due, of which nothing is where nothing was due
pub given_of : (due : List LimboEntry) (old new : Participant) → KeepsMoreWaiting old new → (due ≡ [] → new ≡ old)
    → (given : List ℕ) × (new ≡ all_awaiting given old) × (due ≡ [] → given ≡ [])
given_of [] old new grows none = ([], none refl, λ _. refl)
given_of (x ∷ xs) old new grows none = let g = grows old ([], refl) in (g.0, g.1, λ e. absurd cc)

pub knows_more : (a b c : KnownEpochs) → KnowsOn a b → KnowsOn b c → KnowsOn a c
knows_more a b c u v = let t = u.told in let s = v.told in record { told = omega arith; since = v.since ∙ u.since }
