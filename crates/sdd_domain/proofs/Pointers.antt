-- Pointers to what a participant's guards see, and what cells hold that they were loaded from
use Rattle.std.proofs.Common.{◌≡◌, ℕ, IsTrue, List, Some, None, slice_index_or, sym, ap, ◌∙◌, subst}
use Rattle.std.specs.Prelude.{IfSome, MatchOption, Option}
use base.Stored.{Gv}
use denote.RattleType.{RattleType}
use Rattle.sdd_participants.specs.Slab.{entry_at}
use Rattle.sdd_participants.specs.declared.standing.CellContents.{CellContents}
use Rattle.sdd_rights.specs.declared.right.StandingKind.{StandingKind}
use Rattle.sdd_rights.specs.StandingKind.{is_shared}
use Rattle.sdd_shared_values.specs.SharedValues.{showing}
use Rattle.sdd_world_model.specs.Slots.{IsOwnedBy}
use Rattle.sdd_domain_invariant.specs.Codes.{alive}
use Rattle.sdd_world_model.specs.OwnerOrCell.{OwnerOrCell}
use Rattle.sdd_space.specs.Ptr.{KeepsShown, PtrIsShown, shown_by, slot_named}
use Rattle.sdd_space.specs.declared.ptr.Ptr.{Ptr}
use Rattle.sdd_world_model.specs.World.{standing_at}
use Rattle.sdd_domain_steps.specs.Cells.{FindsAt, IsOwnedThere, LooksThrough, SeesItem, SeesMore}
use Rattle.sdd_domain_core.specs.Laws.{same_value}
use Rattle.sdd_domain_steps.specs.Local.{LocalModel, contents_of, world_of}
use Rattle.sdd_domain_steps.specs.LocalState.{IsLone, LocalState, word_of}
use Rattle.sdd_domain_core.specs.Space.{Shows, is_lone}
use Rattle.sdd_domain_steps.specs.WordsAndValues.{WordsMatchValues}
use Rattle.sdd_domain_core.proofs.CellWorld.{full_cell}
use Rattle.sdd_domain_core.proofs.OwnerLooks.{few_alive, owned_by, owned_value, shows_it, stands_alive}
use Rattle.sdd_domain_core.proofs.SeesMore.{looks_more, same_sees}
use Rattle.sdd_domain.proofs.Steps.{IsStep, lone_begun, sees_step, sees_world}

-- ---- a pointer that was made
-- it shows still what it showed, where slots do
pub keeps_pointer : {T : Type 0} (shows shows_after : ℕ → T → Type 0) (ptr : Ptr T) → PtrIsShown shows ptr → KeepsShown shows shows_after
    → PtrIsShown shows_after ptr
keeps_pointer shows shows_after ptr is keeps = record {
  full = λ k named. let f = is.full k named in (f.0, f.1, keeps k f.0 f.2);
  null = is.null;
}

-- ---- what a look through it is for the participant
module _ {J : Type 0} (R : RattleType) (holds : R.Denot → List OwnerOrCell) (v : LocalModel R.Denot J) (m : LocalState J) where
  abbrev after : LocalModel R.Denot J
  after = record { member = m; entries = v.entries }

  abbrev Through : Option ℕ → Option R.Denot → Type 0
  Through named seen = MatchOption named ((seen ≡ None) × (m ≡ v.member))
      (λ slot. (value : R.Denot) × (seen ≡ Some value) × SeesItem (showing R) holds slot value v.member m)

  more_by : (named : Option ℕ) (seen : Option R.Denot) → Through named seen → SeesMore v.member m
  more_by None seen t = same_sees v.member m t.1
  more_by (Some slot) seen t = (looks_more v.member m slot t.2.shared (showing R t.0) t.2.looks t.2.once).0

  module _ (ptr : Ptr R.Denot) (looks : LooksThrough (showing R) holds ptr v.member m) where
    pub through_more : SeesMore v.member m
    through_more = more_by (slot_named ptr) (shown_by ptr) looks

    pub through_step : IsStep (showing R) holds v after
    through_step = sees_step (showing R) holds v m through_more

    pub through_world : world_of after ≡ world_of v
    through_world = sees_world v m through_more

  module _ (tied : WordsMatchValues v.member v.entries)
      (codes : (place : ℕ) (y : R.Denot) (g : Gv) → slice_index_or v.entries place None ≡ Some (y, g) → g ≡ showing R y) where
    full_by : (named : Option ℕ) (seen : Option R.Denot) → Through named seen → (k : ℕ) → named ≡ Some k
        → (value : R.Denot) × (seen ≡ Some value) × Shows (showing R) holds after k value
    full_by None seen t k is = absurd cc
    full_by (Some slot) seen t k is = subst (λ (j : ℕ). (value : R.Denot) × (seen ≡ Some value) × Shows (showing R) holds after j value)
        (same_value slot k is) (
          t.0,
          t.1,
          shows_it R v m slot t.2.shared t.0 t.2.looks
              (owned_value R v slot t.2.shared t.0 tied codes t.2.recalled) holds t.2.home t.2.once,
        )

    null_by : (named : Option ℕ) (seen : Option R.Denot) → Through named seen → named ≡ None → seen ≡ None
    null_by None seen t is = t.0
    null_by (Some slot) seen t is = absurd cc

    pub through_shown : (ptr : Ptr R.Denot) → LooksThrough (showing R) holds ptr v.member m → PtrIsShown (Shows (showing R) holds after) ptr
    through_shown ptr looks = record {
      full = full_by (slot_named ptr) (shown_by ptr) looks;
      null = null_by (slot_named ptr) (shown_by ptr) looks;
    }

-- ---- what a cell was found to hold
module _ {T J : Type 0} (v : LocalModel T J) (cell word : ℕ) (finds : FindsAt cell word v.member) (tied : WordsMatchValues v.member v.entries)
    (p : LocalModel T J) (same : v ≡ p) (exact : IsTrue (is_lone p.member)) where
  lone_here : IsLone v.member
  lone_here = lone_begun v p same exact

  pub finds_exact : (contents : CellContents) → contents_of word ≡ contents → entry_at (world_of p).cells cell ≡ Some contents
  finds_exact contents tells = subst (λ (q : LocalModel T J). entry_at (world_of q).cells cell ≡ Some contents) same
      (full_cell v (tied lone_here) cell word finds.inside (finds.found lone_here) (finds.full lone_here) ∙ ap Some tells)

  -- the owner there is of the cell's kind
  owned_at : (kind : StandingKind) (slot : ℕ) → IsOwnedThere slot (is_shared kind) v.member → IsOwnedBy kind (standing_at (world_of p) slot)
  owned_at kind slot is = subst (λ (q : LocalModel T J). IsOwnedBy kind (standing_at (world_of q) slot)) same
      (subst (λ (s : _). IsOwnedBy kind s) (sym (stands_alive v (tied lone_here) slot is.alive (is_shared kind) is.kind))
      (owned_by kind (alive (word_of v.member slot)) is.alive (few_alive v (tied lone_here) slot is.alive (is_shared kind) is.kind)))

  owned_by_each : (kind : StandingKind) (o : Option ℕ) → IfSome o (λ slot. IsOwnedThere slot (is_shared kind) v.member)
      → IfSome o (λ slot. IsOwnedBy kind (standing_at (world_of p) slot))
  owned_by_each kind None is = tt
  owned_by_each kind (Some slot) is = owned_at kind slot is

  pub finds_owned : (kind : StandingKind) (ptr : Ptr T) → (IsLone v.member → IfSome (slot_named ptr) (λ slot. IsOwnedThere slot (is_shared kind) v.member))
      → IfSome (slot_named ptr) (λ slot. IsOwnedBy kind (standing_at (world_of p) slot))
  finds_owned kind ptr owned = owned_by_each kind (slot_named ptr) (owned lone_here)
