-- An item that is changed, or dropped, in its place
use Rattle.std.proofs.Common.{◌≡◌, ℕ, ◌<◌, List, [], ◌∷◌, length, Option, Some, None, zero, suc, slice_index_or, slice_set, refl, ap, ◌∙◌, subst}
use Rattle.std.specs.Prelude.{IsSome}
use Rattle.sdd_participants.specs.EpochState.{EpochState, phase_at}
use Rattle.sdd_participants.specs.EpochState as time
use Rattle.sdd_values.specs.ReadSections.{ReadSections}
use Rattle.sdd_world_model.specs.Slots.{Slots}
use Rattle.sdd_world_model.specs.Cells.{Cells}
use Rattle.sdd_participants.specs.Slab.{Entries}
use Rattle.sdd_world_model.specs.OwnerOrCell.{OwnerOrCell, SpaceId, AreOf, ValueIsOf, ValuesAreOf}
use Rattle.sdd_world_model.specs.Loans.{Loans}
use Rattle.sdd_world_model.specs.World.{World, KeepsSizes, place_at, standing_at, value_at}
use Rattle.sdd_world_model.specs.InPlace.{MayInPlace}
use Rattle.sdd_world_model.specs.ParticipantChanges.{all_awaiting}
use Rattle.sdd_world_model.specs.WorldChanges.{with_value, given_all, vacated, dropped_out, dropped}
use Rattle.sdd_world_model.specs.WorldInvariant.{IsWhole}
use Rattle.sdd_world_model.proofs.PlacesMatchStates.{Whole-dropped}
use Rattle.sdd_world_model.proofs.ParticipantChanges.{Gives-dropped}
use Rattle.sdd_world_model.proofs.Standings.{alone-out}
use Rattle.sdd_world_model.proofs.WaitingCounts.{SameSize-dropped, SameSize-sizes}
use Rattle.sdd_world_model.proofs.WorldInvariant.{all_awaiting-guards}
use Rattle.sdd_world_core.specs.WorldCore.{IsSound}
use Rattle.sdd_world_core.specs.Lending.{AreLentOf}
use Rattle.sdd_world_core.proofs.Lending.{SameGuards, guards-placed, readers-keep}
use Rattle.sdd_world_core.proofs.ReleasedOwner.{taken-place}
use Rattle.sdd_world_core.proofs.NoGuards.{lent-quiet}

module _ {T : Type 0} (holds : T → List OwnerOrCell) where
  -- one value is another
  values-set : (home : SpaceId) (vs : List (Option T)) (k : ℕ) (v : Option T) → ValueIsOf holds home v → ValuesAreOf holds home vs →
      ValuesAreOf holds home (slice_set vs k v)
  values-set home [] k v of all j = all j
  values-set home (x ∷ vs) zero v of all zero = of
  values-set home (x ∷ vs) zero v of all (suc j) = all (suc j)
  values-set home (x ∷ vs) (suc k) v of all zero = all zero
  values-set home (x ∷ vs) (suc k) v of all (suc j) = values-set home vs k v of (λ i. all (suc i)) j

  -- what the value in a slot holds is of its home
  pub value-of_home : (home : SpaceId) (vs : List (Option T)) (k : ℕ) (v : T) → ValuesAreOf holds home vs → slice_index_or vs k None ≡ Some v →
      AreOf home (holds v)
  value-of_home home vs k v all e = subst (λ (o : Option T). ValueIsOf holds home o) e (all k)

  pub sound-edited : (t : EpochState) (s : Slots T) (c : Cells) (jobs : Entries (Unit {0})) (r : ReadSections) (k : ℕ) (v : T) → IsSound holds t s c jobs r →
      AreOf (record { slots = s.home; cells = c.home; readers = r.home }) (holds v) →
      IsSound holds t (record s { values = slice_set s.values k (Some v) }) c jobs r
  sound-edited t s c jobs r k v i of = record {
    counted = i.counted;
    reserved = i.reserved;
    held = i.held;
    homes = values-set (record { slots = s.home; cells = c.home; readers = r.home }) s.values k (Some v) of i.homes;
    participants = i.participants;
    sections = i.sections;
    readers = i.readers;
  }

  pub lent-edited : (w : World T) (l : Loans) (k : ℕ) (v : T) → MayInPlace w k → AreLentOf w l → AreLentOf (with_value w k v) l
  lent-edited w l k v may i =
      lent-quiet w (with_value w k v) l (record { places = i.readers.places; nesting = i.readers.nesting }) (λ q. refl) may.quiet i

  -- what is taken out and given up is dropped
  dropped-as : (w : World T) (p k : ℕ) (v : T) → value_at w k ≡ Some v → dropped holds w p k ≡ given_all (vacated w k) p (holds v)
  dropped-as w p k v is = ap (λ (o : Option T). dropped_out holds w p k o) is

  guards-dropped : (w : World T) (p k : ℕ) → p < length w.time.places → SameGuards w (dropped holds w p k)
  guards-dropped w p k l q =
      let g = Gives-dropped holds w p k l in
      ap (λ (t : EpochState). (time.place_at t q).guards) g.time
      ∙ guards-placed w p (all_awaiting g.slots (place_at w p)) l (all_awaiting-guards g.slots (place_at w p)) q

  lent-dropped : (w : World T) (l : Loans) (p k : ℕ) → p < length w.time.places → MayInPlace w k → AreLentOf w l → AreLentOf (dropped holds w p k) l
  lent-dropped w l p k there may i =
      let sizes = SameSize-sizes (SameSize-dropped holds w p k there (alone-out (standing_at w k) may.alone)) in
      lent-quiet w (dropped holds w p k) l (readers-keep w (dropped holds w p k) sizes i.readers) (guards-dropped w p k there) may.quiet i

  -- what a core is in which an item was dropped in its place
  module _ (w : World T) (p k : ℕ) (v : T) (is : value_at w k ≡ Some v) (there : p < length w.time.places) (may : MayInPlace w k) where
    pub drop-sizes : KeepsSizes w (given_all (vacated w k) p (holds v))
    drop-sizes =
        subst (λ (u : World T). KeepsSizes w u) (dropped-as w p k v is)
        (SameSize-sizes (SameSize-dropped holds w p k there (alone-out (standing_at w k) may.alone)))

    pub drop-whole : IsSome (phase_at w.time p) → IsWhole w → IsWhole (given_all (vacated w k) p (holds v))
    drop-whole some i =
        subst (λ (u : World T). IsWhole u) (dropped-as w p k v is)
        (Whole-dropped holds w p k (taken-place w.time p there some) (alone-out (standing_at w k) may.alone) i)

    pub drop-lent : (l : Loans) → AreLentOf w l → AreLentOf (given_all (vacated w k) p (holds v)) l
    drop-lent l i = subst (λ (u : World T). AreLentOf u l) (dropped-as w p k v is) (lent-dropped w l p k there may i)
