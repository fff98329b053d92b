-- What is given up changes nothing that raw cells point to, and makes and loses no place of the table of jobs
use Rattle.std.proofs.Common.{◌≡◌, ℕ, List, [], ◌∷◌, length, refl, ◌∙◌, Some, None, Option}
use Rattle.sdd_participants.specs.declared.waiting.LimboEntry.{LimboEntry}
use Rattle.sdd_participants.specs.declared.waiting.LimboEntry.TheVariants.{Item, Job}
use Rattle.sdd_participants.specs.EpochState.{due_next}
use Rattle.sdd_world_model.specs.OwnerOrCell.{OwnerOrCell}
use Rattle.sdd_world_model.specs.World.{World, place_at, standing_at}
use Rattle.sdd_world_model.specs.WorldChanges.{given_all, freed, taken_out, waiting_value, reclaimed, all_reclaimed}
use Rattle.sdd_world_model.specs.WorldChanges as steps
use Rattle.sdd_world_model.proofs.GuardOpened.{keeps-given_all}
use Rattle.sdd_world_model.proofs.Jobs.{length-all_reclaimed}
use Rattle.sdd_world.specs.Closing.{aged_out, all_aged_out}

module _ {T : Type 0} (holds : T → List OwnerOrCell) where
  given-pointers : (w : World T) (p : ℕ) (hs : List OwnerOrCell) → (given_all w p hs).pointers ≡ w.pointers
  given-pointers w p hs =
      keeps-given_all p (λ (u : World T). u.pointers ≡ w.pointers) (λ u k out e. e) (λ u c e. e) (λ u k n m is e. e) w hs refl

  taken-pointers : (w : World T) (p k : ℕ) (v : Option T) → (taken_out holds w p k v).pointers ≡ w.pointers
  taken-pointers w p k None = refl
  taken-pointers w p k (Some v) = given-pointers (freed w k) p (holds v)

  reclaimed-pointers : (w : World T) (p : ℕ) (x : LimboEntry) → (reclaimed holds w p x).pointers ≡ w.pointers
  reclaimed-pointers w p (Item k) = taken-pointers w p k (waiting_value w k (standing_at w k))
  reclaimed-pointers w p (Job j) = refl

  all-pointers : (xs : List LimboEntry) (w : World T) (p : ℕ) → (all_reclaimed holds w p xs).pointers ≡ w.pointers
  all-pointers [] w p = refl
  all-pointers (x ∷ xs) w p = all-pointers xs (reclaimed holds w p x) p ∙ reclaimed-pointers w p x

  aged_out-pointers : (w : World T) (p : ℕ) → (aged_out holds w p).pointers ≡ w.pointers
  aged_out-pointers w p = all-pointers (due_next (place_at w p)) (steps.rotated w p) p

  pub all_aged_out-pointers : (ps : List ℕ) (w : World T) → (all_aged_out holds w ps).pointers ≡ w.pointers
  all_aged_out-pointers [] w = refl
  all_aged_out-pointers (p ∷ ps) w = all_aged_out-pointers ps (aged_out holds w p) ∙ aged_out-pointers w p

  pub all_aged_out-jobs : (ps : List ℕ) (w : World T) → length (all_aged_out holds w ps).jobs ≡ length w.jobs
  all_aged_out-jobs [] w = refl
  all_aged_out-jobs (p ∷ ps) w =
      all_aged_out-jobs ps (aged_out holds w p) ∙ length-all_reclaimed holds (steps.rotated w p) p (due_next (place_at w p))
