-- Why a push is refused
use Rattle.std.proofs.Common.{◌≡◌, ◌⊎◌, inl, inr, Option, Some, None, refl, true, false}
use Rattle.std.specs.Prelude.{IsSome, slice_index_or}
use Rattle.sdd_space.specs.Refusals.{IsRefusedBy}
use Rattle.sdd_space.specs.CallerId.{CallerId}
use Rattle.sdd_core.specs.declared.refused.Refused.{Refused}
use Rattle.sdd_core.specs.declared.refused.Refused.TheVariants.{NoCell, NoSlot}
use Rattle.sdd_participants.specs.Slab.{Entries, IsFull}

some-of : {E : Type 0} (o : Option E) → ¬ (¬ (IsSome o)) → IsSome o
some-of (Some x) twice = refl
some-of None twice = absurd (twice (λ is. let never : false ≡ true = is in absurd (cc)))

-- where it isn't so that some place is empty, none is
pub full-of : {E : Type 0} (t : Entries E) → ¬ (¬ (IsFull t)) → IsFull t
full-of t twice = λ k d l. some-of (slice_index_or t k d) (λ no. twice (λ full. no (full k d l)))

pub no-cell-or : (s : CallerId) (e : Refused) → IsRefusedBy s NoSlot e → (e ≡ NoSlot) ⊎ IsRefusedBy s NoCell e
no-cell-or s e (inl is) = inl is
no-cell-or s e (inr lost) = inr (inr lost)
