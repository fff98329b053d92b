-- Working guards of a participant, one after another
use Rattle.std.proofs.Common.{◌≡◌, ℕ, ◌+◌, ◌≤◌, List, Bool, length, refl, sym, ◌∙◌, arith, false, IsTrue, slice_index_or, subst}
use Rattle.sdd_participants.specs.EpochState.{lives}
use Rattle.sdd_world_model.specs.OwnerOrCell.{OwnerOrCell}
use Rattle.sdd_world_model.specs.World.{World, AnyGuardOpen, IsPlaceOf}
use Rattle.sdd_world_model.specs.WorkingGuards.{PassesWork, WorkLaws, WorksThrough}
use Rattle.sdd_world_model.specs.WorkingGuards.WorksThrough.{starts}

module _ {T : Type 0} (holds : T → List OwnerOrCell) (q : ℕ) where
  -- so many have passed
  pub record HavePassedWork (n : ℕ) (old new : World T) : Type 0 where
    pub way : WorksThrough holds q n old new
    pub quiet : ¬ (AnyGuardOpen new)
    pub place : IsPlaceOf new q
    pub places : length new.time.places ≡ length old.time.places
    pub live : lives new.time ≡ lives old.time
    pub nesting : new.time.nesting ≡ old.time.nesting
    pub count : new.time.count ≤ old.time.count + n

  pub none-passed : (w : World T) → IsPlaceOf w q → ¬ (AnyGuardOpen w) → HavePassedWork 0 w w
  none-passed w place quiet = record {
    way = starts w;
    quiet = quiet;
    place = place;
    places = refl;
    live = refl;
    nesting = refl;
    count = omega arith;
  }

  pub one-more : WorkLaws holds → (n : ℕ) (u v w : World T) → HavePassedWork n u v → PassesWork holds q v w → HavePassedWork (n + 1) u w
  one-more laws n u v w before passes = record {
    way = laws.ways q n 1 u v w before.way passes.one;
    quiet = passes.quiet;
    place = passes.place;
    places = passes.places ∙ before.places;
    live = passes.live ∙ before.live;
    nesting = passes.nesting ∙ before.nesting;
    count = omega (arith, passes.count, before.count);
  }

  -- any other participant is one still
  pub still-place : (n : ℕ) (u w : World T) (r : ℕ) → HavePassedWork n u w → IsPlaceOf u r → IsPlaceOf w r
  still-place n u w r passed live =
      (omega (arith, passed.places, live.0), subst (λ (bs : List Bool). IsTrue (slice_index_or bs r false)) (sym passed.live) live.1)
