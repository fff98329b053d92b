-- What waits with a participant grows, whether an owner that it gives up was the last or not, and it forgets nothing
use Rattle.std.proofs.Common.{◌≡◌, ℕ, List, [], ◌∷◌, ◌++◌, Bool, true, false, Some, None, refl, ap, ◌∙◌, arith}
use Rattle.std.specs.Prelude.{if◌then◌else◌}
use Rattle.sdd_participants.specs.declared.waiting.LimboEntry.TheVariants.{Item}
use Rattle.sdd_participants.specs.declared.participant.Participant.{Participant}
use Rattle.sdd_participants.specs.EpochState.{awaiting}
use Rattle.sdd_world_model.specs.KnownEpochs.{KnownEpochs, KnowsOn}
use Rattle.sdd_world_model.specs.ParticipantChanges.{all_awaiting, KeepsMoreWaiting, HasContentsGivenUp}

one-more : (ks : List ℕ) (k : ℕ) (p : Participant) → awaiting (Item k) (all_awaiting ks p) ≡ all_awaiting (ks ++ k ∷ []) p
one-more [] k p = refl
one-more (j ∷ ks) k p = one-more ks k (awaiting (Item j) p)

pub grows-not : (old new : Participant) → new ≡ old → KeepsMoreWaiting old new
grows-not old new e start grown = (grown.0, e ∙ grown.1)

pub grows-if : (last : Bool) (k : ℕ) (old new : Participant) → new ≡ (if last then awaiting (Item k) old else old) → KeepsMoreWaiting old new
grows-if true k old new e start grown = (grown.0 ++ k ∷ [], e ∙ (ap (awaiting (Item k)) grown.1 ∙ one-more grown.0 k start))
grows-if false k old new e start grown = (grown.0, e ∙ grown.1)

pub knows-same : (k : KnownEpochs) → KnowsOn k k
knows-same k = record { told = omega arith; since = refl }

-- it forgets nothing in two calls either
pub knows-on : {u v w : KnownEpochs} → KnowsOn u v → KnowsOn v w → KnowsOn u w
knows-on a b = record { told = omega (arith, a.told, b.told); since = b.since ∙ a.since }

-- or what a cell that it closes held
pub grows-spilled : (old new : Participant) → HasContentsGivenUp old new → KeepsMoreWaiting old new
grows-spilled old new (None, e) start grown = (grown.0, e ∙ grown.1)
grows-spilled old new (Some k, e) start grown = (grown.0 ++ k ∷ [], e ∙ (ap (awaiting (Item k)) grown.1 ∙ one-more grown.0 k start))
