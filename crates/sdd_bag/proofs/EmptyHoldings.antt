-- What is so of values that hold nothing
use Rattle.std.proofs.Common.{ℕ, List, sym, subst}
use Rattle.std.specs.Prelude.{All}
use Rattle.sdd_world_model.specs.Out.{HoldsNothing}
use Rattle.sdd_world_model.specs.OwnerOrCell.{AreOf, OwnerOrCell, SpaceId}
use Rattle.sdd_world_model.specs.World.{World}
use Rattle.sdd_lists.specs.declared.linked_entry.LinkedEntry.{LinkedEntry}
use Rattle.sdd_lists.specs.Lists.{Entry}
use Rattle.sdd_bag.specs.Closing.{AreBeside}

module _ {T : Type 0} (holds : T → List OwnerOrCell) (nothing : HoldsNothing holds) where
  -- it is of any home
  pub nothing-of : (home : SpaceId) (vs : List T) → All (λ v. AreOf home (holds v)) vs
  nothing-of home vs k d near = subst (λ (hs : List OwnerOrCell). AreOf home hs) (sym (nothing _)) tt

  -- it is beside any storages
  pub nothing-beside : {B : Type 0} (w : World (LinkedEntry B)) (c : ℕ) (es : List (Entry (LinkedEntry B))) (vs : List T)
      → All (λ v. AreBeside w c es (holds v)) vs
  nothing-beside w c es vs k d near = subst (λ (hs : List OwnerOrCell). AreBeside w c es hs) (sym (nothing _)) tt
