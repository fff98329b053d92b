-- An owner that is alone with its item changes its value; or it goes, and its item is dropped in its place where it was the last
use Rattle.std.specs.Prelude.{◌≡◌, ℕ, ◌<◌, Bool, true, List, Option, Some, None}
use base.Stored.{Gv}
use denote.RattleType.{RattleType}
use Rattle.atomic_table.specs.declared.shared.Seat.{Seat}
use Rattle.sdd_rights.specs.declared.views.View.{View}
use Rattle.sdd_shared_values.specs.SharedValues.{showing}
use Rattle.sdd_shared_values.specs.declared.value_fraction.ValueFraction.{ValueFraction}
use Rattle.sdd_domain_invariant.specs.Codes.{alive, counted}
use Rattle.sdd_domain_invariant.specs.Epoch.{IsOpen}
use Rattle.sdd_domain_invariant.specs.Slots.SlotSteps.{release_hold}
use Rattle.sdd_domain_invariant.specs.Fractions.FractionSteps.{moving, resting, undrawing, untold}
use Rattle.sdd_atomics.specs.DomainSeat.{epoch}
use Rattle.sdd_atomics.specs.Owner.{disowned}
use Rattle.sdd_rights.specs.Owner.{witness_of_owner}
use Rattle.sdd_domain_steps.specs.InPlace.{KnewUnique, IsGoneBeside, with_dropped}
use Rattle.sdd_domain_steps.specs.LocalState.{unique_words}
use Rattle.sdd_domain_steps.specs.Values.{with_filled}

-- the value of a slot that is held was moved out and another one in, the slot was let go of, and its owner is a seat of its own
abbrev pub changed_by : ℕ → Bool → Gv → View → View
changed_by slot shared value v = record (disowned (resting (with_filled slot shared value (release_hold (moving slot (untold (undrawing v))))))) {
  words = unique_words shared slot v.sizes v.words;
}

-- it was the last: its item was dropped in its place, with this value, as no guard was open
pub record DropsLast (slot : ℕ) (shared : Bool) (value : Gv) (views : List Gv) (s s' : Seat ValueFraction View) : Type 0 where
  pub table : s'.table_id ≡ s.table_id
  pub number : s'.id ≡ s.id
  pub others : s'.me.1 ≡ s.me.1
  pub view : s'.me.0 ≡ with_dropped slot s.me.0
  pub quiet : ¬ (IsOpen (epoch s))
  pub unique : KnewUnique slot shared s.me.0
  pub told : views ≡ witness_of_owner slot shared value

-- others stay, as many as the word tells that was found
pub record StaysBeside (slot : ℕ) (shared : Bool) (s s' : Seat ValueFraction View) : Type 0 where
  pub word : ℕ
  pub gone : IsGoneBeside slot word s s'
  pub several : shared ≡ true
  pub counted : counted word ≡ 1
  pub more : 1 < alive word

-- an owner goes, as the last one, whose value comes out, or beside others
abbrev pub Goes : (R : RattleType) → ℕ → Bool → List Gv → Option R.Denot → Seat ValueFraction View → Seat ValueFraction View → Type 0
Goes R slot shared views (Some value) s s' = DropsLast slot shared (showing R value) views s s'
Goes R slot shared views None s s' = StaysBeside slot shared s s'
