-- What leaves as many guards open
use Rattle.std.proofs.Common.{◌≡◌, ◌∙◌, ℕ, zero, suc, [], ◌∷◌, ◌++◌, List, Bool, true, false, Some, length, nat_lt, slice_set, slice_index_or, refl, ap, arith}
use Rattle.std.specs.Prelude.{if◌then◌else◌}
use Rattle.std.proofs.lemmas.Bool.{le-ltb}
use Rattle.sdd_participants.specs.EpochState.{EpochState, awaiting, newcomer, nobody, place_at, registered}
use Rattle.sdd_participants.specs.Slab.{with_entry}
use Rattle.sdd_participants.specs.declared.participant.Participant.{Participant}
use Rattle.sdd_participants.specs.declared.place_states.PlaceState.TheVariants.{Live}
use Rattle.sdd_participants.specs.declared.waiting.LimboEntry.TheVariants.{Item}
use Rattle.sdd_space.specs.CallerId.{CallerId, MayNest}
use Rattle.sdd_world_model.specs.ParticipantChanges.{KeepsMoreWaiting}
use Rattle.sdd_world_model.proofs.WorldInvariant.{all_awaiting-guards}
use Rattle.sdd_lists.proofs.MoreWaiting.{grows-if}
use Rattle.sdd_bench.proofs.Leaving.{as-many}

-- what waits with a participant is under no guard
pub more-guards : (old new : Participant) → KeepsMoreWaiting old new → new.guards ≡ old.guards
more-guards old new more = let grown = more old ([], refl) in as-many grown.1 ∙ all_awaiting-guards grown.0 old

pub let-go-guards : (last : Bool) (k : ℕ) (old new : Participant) → new ≡ (if last then awaiting (Item k) old else old) → new.guards ≡ old.guards
let-go-guards last k old new is = more-guards old new (grows-if last k old new is)

-- and as many as before may still be opened
pub nests-on : (s r : CallerId) (p q : Participant) → r ≡ s → q.guards ≡ p.guards → MayNest s p → MayNest r q
nests-on s r p q caller guards may = let same = ap (λ (x : CallerId). x.nesting) caller in omega (arith, guards, same, may)

-- who registers in a new world has no guard open
alone : (room p : ℕ) → (slice_index_or (newcomer room ∷ []) p nobody).guards ≡ 0
alone room zero = refl
alone room (suc p) = refl

fresh : (t : EpochState) (p : ℕ) (again : Bool) → again ≡ false → t.places ≡ [] →
    (place_at (if again then record t { places = slice_set t.places p (newcomer t.room); phases = with_entry t.phases p Live }
    else record t { places = t.places ++ newcomer t.room ∷ []; phases = t.phases ++ Some Live ∷ [] }) p).guards ≡ 0
fresh t p true is none = absurd (cc)
fresh t p false is none = ap (λ (ps : List Participant). (slice_index_or (ps ++ newcomer t.room ∷ []) p nobody).guards) none ∙ alone t.room p

pub registered-guards : (t : EpochState) (p : ℕ) → t.places ≡ [] → (place_at (registered t p) p).guards ≡ 0
registered-guards t p none =
    let new : nat_lt p (length t.places) ≡ false = ap (λ (ps : List Participant). nat_lt p (length ps)) none ∙ le-ltb p 0 (omega arith) in
    fresh t p (nat_lt p (length t.places)) new none
