-- An owner that is let go
use Rattle.std.proofs.Common.{◌≡◌, ℕ, ◌<◌, Bool, true, false, IsTrue, Option, Some, None, List, length, refl, sym, ap, ◌∙◌, subst}
use Rattle.std.specs.Prelude.{◌↔◌, IsSome, is_some}
use Rattle.sdd_rights.specs.StandingKind.{IsOwner}
use Rattle.sdd_rights.specs.declared.right.StandingKind.{StandingKind}
use Rattle.sdd_rights.specs.declared.right.StandingKind.TheVariants as kind
use Rattle.sdd_participants.specs.EpochState.{EpochState, phase_at}
use Rattle.sdd_participants.specs.EpochState as time
use Rattle.sdd_participants.specs.Slab.{with_entry}
use Rattle.sdd_participants.specs.declared.waiting.LimboEntry.TheVariants.{Item}
use Rattle.sdd_participants.specs.declared.standing.Standing.{Standing}
use Rattle.sdd_participants.specs.declared.standing.Standing.TheVariants.{Owned, Raw, Shared, Retired, Private as privately}
use Rattle.sdd_world_model.specs.Slots.{IsOwnedBy, has_others, released_standing, released_to}
use Rattle.sdd_world_model.specs.OwnerOrCell.{OwnerOrCell}
use Rattle.sdd_world_model.specs.Loans.{Loans}
use Rattle.sdd_world_model.specs.World.{World, IsPlaceOf, standing_at}
use Rattle.sdd_world_model.specs.WorldInvariant.{IsWhole}
use Rattle.sdd_world_model.specs.WorldChanges.{with_standing, owner_given}
use Rattle.sdd_world_model.specs.Collecting.{collected, owner_collected}
use Rattle.sdd_world_model.specs.Out.{is_out}
use Rattle.sdd_world_model.proofs.PlacesMatchStates.{IsTaken, Whole-owner_given, Whole-waits, live-taken}
use Rattle.sdd_world_core.specs.Lending.{AreLentOf}
use Rattle.sdd_world_core.proofs.Lending.{lent-owner_given, lent-waiting}

-- an owner finds its slot owned or shared
pub data Found : Option Standing → Type 0 where
  sole : Found (Some Owned)
  several : (n : ℕ) → Found (Some (Shared n))

pub found : (k : StandingKind) (s : Option Standing) → IsOwner k → IsOwnedBy k s → Found s
found kind.Free s h o = absurd (cc)
found kind.Owned s h o = rw (o.alone refl) sole
found kind.Raw s h o = absurd (cc)
found kind.Shared s h o = let n = o.together refl in rw n.1.shared (several n.0)
found kind.Retired s h o = absurd (cc)

-- its item is out
pub found-out : (s : Option Standing) → Found s → is_out s ≡ true
found-out None f = elim f [ ]
found-out (Some Raw) f = elim f [ ]
found-out (Some Retired) f = elim f [ ]
found-out (Some (privately d)) f = elim f [ ]
found-out (Some Owned) f = refl
found-out (Some (Shared n)) f = refl

-- what a test for others that answered tells of them
pub some-else : (r b : Bool) → (IsTrue r ↔ IsTrue b) → IsTrue r → b ≡ true
some-else r b e h = e.0 h

pub none-else : (r b : Bool) → (IsTrue r ↔ IsTrue b) → r ≡ false → b ≡ false
none-else r true e h = let never : false ≡ true = sym h ∙ e.1 refl in absurd (cc)
none-else r false e h = refl

-- a place that isn't free
pub taken-place : (t : EpochState) (p : ℕ) → p < length t.places → IsSome (phase_at t p) → IsTaken t p
taken-place t p there some = record { there = there; taken = λ none. let never : false ≡ true = sym (ap is_some none) ∙ some in cc }

-- an owner that is collected
module _ {T : Type 0} (w : World T) (p c k : ℕ) where
  -- the last one goes
  collect-last : (s : Option Standing) → Found s → has_others s ≡ false →
      record w { time = time.awaiting_at w.time p (Item k); standings = with_entry w.standings k (released_to (privately c) s) } ≡ owner_collected w p c k s
  collect-last None f h = elim f [ ]
  collect-last (Some Raw) f h = elim f [ ]
  collect-last (Some Retired) f h = elim f [ ]
  collect-last (Some (privately d)) f h = elim f [ ]
  collect-last (Some Owned) sole last = refl
  collect-last (Some (Shared n)) (several _) last = rw last refl

  -- another one goes
  collect-other : (s : Option Standing) → Found s → has_others s ≡ true → with_standing w k (released_standing s) ≡ owner_collected w p c k s
  collect-other None f h = elim f [ ]
  collect-other (Some Raw) f h = elim f [ ]
  collect-other (Some Retired) f h = elim f [ ]
  collect-other (Some (privately d)) f h = elim f [ ]
  collect-other (Some Owned) sole others = absurd (cc)
  collect-other (Some (Shared n)) (several _) others = rw others refl

  -- for whomever the last one is collected
  fewer-collected : (s : Option Standing) → Found s → has_others s ≡ true → with_standing w k (released_to (privately c) s) ≡ with_standing w k
      (released_standing s)
  fewer-collected None f h = elim f [ ]
  fewer-collected (Some Raw) f h = elim f [ ]
  fewer-collected (Some Retired) f h = elim f [ ]
  fewer-collected (Some (privately d)) f h = elim f [ ]
  fewer-collected (Some Owned) sole others = absurd (cc)
  fewer-collected (Some (Shared n)) (several _) others = rw others refl

  last-collected : (s : Option Standing) → Found s → has_others s ≡ false → owner_collected w p c k s ≡ collected w p c k
  last-collected None f h = elim f [ ]
  last-collected (Some Raw) f h = elim f [ ]
  last-collected (Some Retired) f h = elim f [ ]
  last-collected (Some (privately d)) f h = elim f [ ]
  last-collected (Some Owned) sole last = refl
  last-collected (Some (Shared n)) (several _) last = rw last refl

  -- one of several goes as any other
  other-given : (s : Option Standing) → Found s → has_others s ≡ true → owner_collected w p c k s ≡ owner_given w p k s
  other-given None f h = elim f [ ]
  other-given (Some Raw) f h = elim f [ ]
  other-given (Some Retired) f h = elim f [ ]
  other-given (Some (privately d)) f h = elim f [ ]
  other-given (Some Owned) sole others = absurd (cc)
  other-given (Some (Shared n)) (several _) others = rw others refl

  module _ (there : IsPlaceOf w p) (s : Option Standing) (is : standing_at w k ≡ s) (f : Found s) where
    out : is_out (standing_at w k) ≡ true
    out = ap is_out is ∙ found-out s f

    -- what is made of the world is the same
    pub gone-fewer : {X : Type 0} (made : World T → X) → has_others s ≡ true → made (with_standing w k (released_standing s)) ≡ made (owner_collected w p c k s)
    gone-fewer made others = ap made (collect-other s f others)

    pub waits-fewer : has_others s ≡ true → with_standing w k (released_to (privately c) s) ≡ with_standing w k (released_standing s)
    waits-fewer others = fewer-collected s f others

    pub whole-collected : has_others s ≡ false → IsWhole w →
        IsWhole (record w { time = time.awaiting_at w.time p (Item k); standings = with_entry w.standings k (released_to (privately c) s) })
    whole-collected last i =
        subst (λ (u : World T). IsWhole u) (sym (collect-last s f last ∙ last-collected s f last))
        (Whole-waits w p k (privately c) refl (live-taken w.time p there) out i)

    pub whole-fewer : has_others s ≡ true → IsWhole w → IsWhole (with_standing w k (released_standing s))
    whole-fewer others i =
        subst (λ (u : World T). IsWhole u) (sym (collect-other s f others ∙ other-given s f others))
        (Whole-owner_given w p k (live-taken w.time p there) s is i)

    module _ (holds : T → List OwnerOrCell) (l : Loans) (i : AreLentOf w l) where
      pub lent-collected : has_others s ≡ false →
          AreLentOf (record w { time = time.awaiting_at w.time p (Item k); standings = with_entry w.standings k (released_to (privately c) s) }) l
      lent-collected last =
          subst (λ (u : World T). AreLentOf u l) (sym (collect-last s f last ∙ last-collected s f last))
          (lent-waiting holds w l p k (privately c) refl there.0 out i)

      pub lent-fewer : has_others s ≡ true → AreLentOf (with_standing w k (released_standing s)) l
      lent-fewer others =
          subst (λ (u : World T). AreLentOf u l) (sym (collect-other s f others ∙ other-given s f others))
          (lent-owner_given holds w l p k there.0 s is i)

module _ {T : Type 0} (w : World T) (p k : ℕ) where
  -- the last owner goes
  pub let-last : (s : Option Standing) → Found s → has_others s ≡ false →
      record w { time = time.awaiting_at w.time p (Item k); standings = with_entry w.standings k (released_standing s) } ≡ owner_given w p k s
  let-last None f h = elim f [ ]
  let-last (Some Raw) f h = elim f [ ]
  let-last (Some Retired) f h = elim f [ ]
  let-last (Some (privately c)) f h = elim f [ ]
  let-last (Some Owned) sole last = refl
  let-last (Some (Shared n)) (several _) last = rw last refl

  -- another one goes
  pub let-other : (s : Option Standing) → Found s → has_others s ≡ true → with_standing w k (released_standing s) ≡ owner_given w p k s
  let-other None f h = elim f [ ]
  let-other (Some Raw) f h = elim f [ ]
  let-other (Some Retired) f h = elim f [ ]
  let-other (Some (privately c)) f h = elim f [ ]
  let-other (Some Owned) sole others = absurd (cc)
  let-other (Some (Shared n)) (several _) others = rw others refl

  module _ (s : Option Standing) (is : standing_at w k ≡ s) (there : p < length w.time.places) (some : IsSome (phase_at w.time p)) (i : IsWhole w) where
    pub whole-last : Found s → has_others s ≡ false →
        IsWhole (record w { time = time.awaiting_at w.time p (Item k); standings = with_entry w.standings k (released_standing s) })
    whole-last f last = subst (λ (u : World T). IsWhole u) (sym (let-last s f last)) (Whole-owner_given w p k (taken-place w.time p there some) s is i)

    pub whole-other : Found s → has_others s ≡ true → IsWhole (with_standing w k (released_standing s))
    whole-other f others = subst (λ (u : World T). IsWhole u) (sym (let-other s f others)) (Whole-owner_given w p k (taken-place w.time p there some) s is i)

  module _ (holds : T → List OwnerOrCell) (l : Loans) (s : Option Standing) (is : standing_at w k ≡ s) (there : p < length w.time.places)
      (i : AreLentOf w l) where
    pub lent-last : Found s → has_others s ≡ false →
        AreLentOf (record w { time = time.awaiting_at w.time p (Item k); standings = with_entry w.standings k (released_standing s) }) l
    lent-last f last = subst (λ (u : World T). AreLentOf u l) (sym (let-last s f last)) (lent-owner_given holds w l p k there s is i)

    pub lent-other : Found s → has_others s ≡ true → AreLentOf (with_standing w k (released_standing s)) l
    lent-other f others = subst (λ (u : World T). AreLentOf u l) (sym (let-other s f others)) (lent-owner_given holds w l p k there s is i)
