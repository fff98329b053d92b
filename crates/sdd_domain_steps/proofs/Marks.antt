-- What is marked once one more is
use Rattle.std.proofs.Common.{ℕ, ◌<◌, Some, None, length, sym, refl, subst, get_or-set_other, get_or-set_same}
use Rattle.std.specs.Prelude.{Bool, Option, IsSome, slice_set}
use mathlib.Core.Logic.{dite}
use native.Mathlib.Decide.{ℕ_discrete}
use base.Stored.{Gv}
use Rattle.sdd_domain_steps.specs.Sightings.{IsMarked, Marks}

pub is_marked : (marks : Marks) (k : ℕ) (x : Bool × Gv) → k < length marks → IsMarked (slice_set marks k (Some x)) k
is_marked marks k x inside = subst (λ (o : Option (Bool × Gv)). IsSome o) (sym (get_or-set_same marks k (Some x) None inside)) refl

pub still_marked : (marks : Marks) (k : ℕ) (x : Bool × Gv) → k < length marks → (j : ℕ) → IsMarked marks j → IsMarked (slice_set marks k (Some x)) j
still_marked marks k x inside j was = dite (ℕ_discrete j k)
    (λ e. subst (λ (i : ℕ). IsMarked (slice_set marks k (Some x)) i) (sym e) (is_marked marks k x inside))
    (λ ne. subst (λ (o : Option (Bool × Gv)). IsSome o) (sym (get_or-set_other marks k j (Some x) None ne)) was)
