-- Several owners of a new item at once
use Rattle.std.proofs.Common.{◌≡◌, ℕ, List, Some, None, inr, refl, ap, subst}
use Rattle.std.proofs.lemmas.List.{set-set, get_or-set_same}
use Rattle.sdd_participants.specs.Slab.{Entries, IsEmptyAt}
use Rattle.sdd_participants.specs.declared.standing.Standing.{Standing}
use Rattle.sdd_participants.specs.declared.standing.Standing.TheVariants.{Shared}
use Rattle.sdd_world_model.specs.Loans.{Loans}
use Rattle.sdd_world_model.specs.OwnerOrCell.{OwnerOrCell}
use Rattle.sdd_world_model.specs.World.{World, standing_at}
use Rattle.sdd_world_model.specs.WorldChanges.{made_as, with_standing}
use Rattle.sdd_world_model.specs.WorldInvariant.{IsWhole}
use Rattle.sdd_world_model.specs.WorldStep.WorldStep.{makes}
use Rattle.sdd_world_model.proofs.PlacesMatchStates.{Whole-made_as, Whole-shared}
use Rattle.sdd_world_core.specs.Lending.{AreLentOf}
use Rattle.sdd_world_core.proofs.Lending.{lent-call, lent-shared, readers-as}

module _ {T : Type 0} (w : World T) (k : ℕ) (v : T) (owners : ℕ) (free : IsEmptyAt w.standings k) where
  -- an item with so many owners stands as one that was made with one, and was shared by more then
  made-several : with_standing (made_as w k v (Shared 1)) k (Shared owners) ≡ made_as w k v (Shared owners)
  made-several =
      ap (λ (ss : Entries Standing). record (made_as w k v (Shared owners)) { standings = ss }) (set-set w.standings k (Some (Shared 1)) (Some (Shared owners)))

  made-one : standing_at (made_as w k v (Shared 1)) k ≡ Some (Shared 1)
  made-one = get_or-set_same w.standings k (Some (Shared 1)) None free.0

  pub whole-several : IsWhole w → IsWhole (made_as w k v (Shared owners))
  whole-several i = subst (λ (u : World T). IsWhole u) made-several (Whole-shared _ k 1 owners made-one (Whole-made_as w k v (Shared 1) (inr refl) free i))

  pub lent-several : (holds : T → List OwnerOrCell) (l : Loans) → IsWhole w → AreLentOf w l → AreLentOf (made_as w k v (Shared owners)) l
  lent-several holds l i lent =
      subst (λ (u : World T). AreLentOf u l) made-several
      (lent-shared _ l k 1 owners made-one (lent-call holds w _ l (makes _ k v (Shared 1) (inr refl) free) i (λ h. readers-as _ _ refl refl h)
      (λ q. refl) lent))
