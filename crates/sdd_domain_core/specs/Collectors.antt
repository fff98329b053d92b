-- Private items: what a participant's calls make of what its callers see
use Rattle.std.specs.Prelude.{◌≡◌, ◌≢◌, ℕ, ◌+◌, ◌<◌, ◌≤◌, Bool, true, false, List, ◌∷◌, [], ◌++◌, All, Option, Some, None, MatchOption, slice_set}
use base.Stored.{Gv}
use Rattle.sdd_participants.specs.Slab.{entry_at, with_entry, without_entry}
use Rattle.sdd_participants.specs.Collecting.{is_kept_for, chosen_of, without}
use Rattle.sdd_participants.specs.EpochState.{awaiting}
use Rattle.sdd_participants.specs.Tally.{one_reclaimed}
use Rattle.sdd_participants.specs.declared.waiting.LimboEntry.{LimboEntry}
use Rattle.sdd_participants.specs.declared.waiting.LimboEntry.TheVariants.{Item}
use Rattle.sdd_domain_invariant.specs.Codes.{claimed_word, free_word, private_word, shared_base}
use Rattle.sdd_domain_invariant.specs.Slots.SlotSteps.{behind, retired_now, without_item}
use Rattle.sdd_domain_invariant.specs.Slots.{waits_in}
use Rattle.sdd_domain_invariant.specs.Sums.{total}
use Rattle.sdd_domain_invariant.specs.Collectors.{private_in}
use Rattle.sdd_domain_invariant.specs.Collectors.CollectorWordSteps.{for_collector, without_private}
use Rattle.sdd_domain_steps.specs.PrivateTable.{standings_of}
use Rattle.sdd_domain_steps.specs.LocalState.{LocalState, IsLone, HasOpenGuard, LeavesAt, Reclaims, word_of}

module _ {J : Type 0} where
  -- the item of a slot waits with it for a collector from now on, retired at the count of this moment, as its last owner has gone, which was one of several or
  -- not; a slot's word can tell of the collector
  pub record CollectsAt (collector slot : ℕ) (shared : Bool) (count : ℕ) (old new : LocalState J) : Type 0 where
    pub member : new ≡ record old {
      own = awaiting (Item slot) old.own;
      known = count;
      slots = record old.slots { privates = old.slots.privates ++ for_collector collector (retired_now slot count) ∷ [] };
      words = slice_set old.words (behind old.sizes slot) (private_word collector);
      collectors = with_entry old.collectors slot collector;
    }
    pub knew : old.known ≤ count
    pub lone : IsLone old → count ≡ old.known
    pub last : IsLone old → shared ≡ true → word_of old slot ≡ claimed_word true
    pub fits : private_word collector < shared_base

  -- an owner of a slot went, which was one of several or not: as the last one, whose item waits for the collector then, or beside others
  abbrev pub OwnerCollected : ℕ → ℕ → Bool → Bool → LocalState J → LocalState J → Type 0
  OwnerCollected collector slot shared true old new = (count : ℕ) × CollectsAt collector slot shared count old new
  OwnerCollected collector slot shared false old new = (word : ℕ) × LeavesAt slot word old new

  -- which of its items wait for the collector
  abbrev pub waits_for : LocalState J → ℕ → LimboEntry → Bool
  waits_for m collector = is_kept_for collector (standings_of m.collectors)

  -- all of these do
  abbrev pub AllWaitFor : LocalState J → ℕ → List LimboEntry → Type 0
  AllWaitFor m collector = All (λ what. waits_for m collector what ≡ true)

  -- it closes the collector, and has looked at each place: no guard is open that sees what waits for it
  pub record IsClosing (collector : ℕ) (m : LocalState J) : Type 0 where
    pub closes : m.slots.closes ≡ Some collector
    pub looked : m.limits.participants ≤ m.slots.looked
    pub shut : ¬ (HasOpenGuard m)

  -- what waits with it for the collector is due at once
  abbrev pub takes_for : ℕ → LocalState J → LocalState J
  takes_for collector m = record m { own = without (waits_for m collector) m.own; due = chosen_of (waits_for m collector) m.own.bags.waiting }

  -- it closes the collector from now on, and what waits with it for that is due at once
  pub record BeginsClose (collector : ℕ) (old new : LocalState J) : Type 0 where
    pub member : new ≡ takes_for collector (record old { slots = record old.slots { closes = Some collector; looked = new.slots.looked } })
    pub closing : IsClosing collector new

  -- the item of the slot, which was due before all others, waits for no collector any more, if it did, and may be taken out
  pub record ClaimsFirst (slot : ℕ) (old new : LocalState J) : Type 0 where
    pub member : new ≡ record old {
      slots = record old.slots { waits = new.slots.waits; privates = without_private slot old.slots.privates };
      words = new.words;
      collectors = without_entry old.collectors slot;
    }
    pub others : without_item slot new.slots.waits ≡ without_item slot old.slots.waits
    pub words : slice_set new.words (behind old.sizes slot) (free_word 0) ≡ slice_set old.words (behind old.sizes slot) (free_word 0)
    pub once : total (waits_in slot) new.slots.waits ≡ 1
    pub was : total (waits_in slot) old.slots.waits + total (private_in slot) old.slots.privates ≡ 1

  -- the item of the slot was due before all others, and waited for a collector whose close had claimed it: it waits no more, and was reclaimed by another. A
  -- lone
  -- participant knew its word, which was that of no item that waits for the collector
  pub record LosesItem (slot : ℕ) (old new : LocalState J) : Type 0 where
    pub first : old.due ≡ Item slot ∷ new.due
    pub member : new ≡ record old {
      slots = record old.slots { privates = without_private slot old.slots.privates };
      words = new.words;
      due = new.due;
      collectors = without_entry old.collectors slot;
    }
    pub collector : ℕ
    pub kept : entry_at old.collectors slot ≡ Some collector
    pub claimed : IsLone old → word_of old slot ≢ private_word collector

  -- the item of the slot was due before all others; it is reclaimed, and its value shows this, or another's close had claimed it
  abbrev pub GoesFirst : ℕ → Option Gv → LocalState J → LocalState J → Type 0
  GoesFirst slot value old new = MatchOption value (LosesItem slot old new) (λ g. Reclaims slot g old new)

  -- the item of a slot waited for the collector with another, and its value was moved out, whoever gives the slot back
  pub record EmptiesAt (collector slot : ℕ) (old new : LocalState J) : Type 0 where
    pub member : new ≡ record old { tally = one_reclaimed old.tally; words = new.words }
    pub inside : slot < old.limits.slots
    pub lone : IsLone old → word_of old slot ≡ private_word collector

  -- it closes the collector no more
  abbrev pub ends_close : LocalState J → LocalState J
  ends_close m = record m { slots = record m.slots { closes = None; looked = 0 } }
