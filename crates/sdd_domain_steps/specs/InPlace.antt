-- The owner of a slot that is alone with its item: it was taken in, and its slot is held while each place is looked at
use Rattle.std.specs.Prelude.{◌≡◌, ℕ, ◌+◌, ◌-◌, ◌<◌, Bool, true, false, List, [], None, slice_set}
use base.Stored.{Gv}
use Rattle.atomic_table.specs.declared.shared.Seat.{Seat}
use Rattle.sdd_rights.specs.declared.views.Sizes.{Sizes}
use Rattle.sdd_rights.specs.declared.views.View.{View}
use Rattle.sdd_rights.specs.Views.{owner_of}
use Rattle.sdd_shared_values.specs.declared.value_fraction.ValueFraction.{ValueFraction}
use Rattle.sdd_domain_invariant.specs.Epoch.{IsLone, IsOpen}
use Rattle.sdd_domain_invariant.specs.Codes.{alive, counted, free_word, held_word, claimed_word}
use Rattle.sdd_domain_invariant.specs.Slots.SlotSteps.{Knew, behind, held, noted, release_hold}
use Rattle.sdd_domain_invariant.specs.Fractions.FractionSteps.{regained}
use Rattle.sdd_atomics.specs.DomainSeat.{view, epoch}
use Rattle.sdd_domain_steps.specs.BetweenCalls.{IsQuiet}
use Rattle.sdd_domain_steps.specs.Claims.{IsUnmoved}
use Rattle.sdd_domain_steps.specs.LocalState.{unique_words}
use Rattle.sdd_core.specs.declared.refused.Refused.{Refused}
use Rattle.sdd_core.specs.declared.refused.Refused.TheVariants.{NotAlone, GuardOpen}
use Rattle.sdd_domain_steps.specs.declared.slots.holding.Hindrance.{Hindrance}
use Rattle.sdd_domain_steps.specs.declared.slots.holding.Hindrance.TheVariants.{Others, Guarded}

-- so many places were looked at
abbrev pub looked_to : ℕ → View → View
looked_to k v = record v { slots = record v.slots { looked = k } }

-- a look at each of n places while a slot is held: none has a guard open, the own one neither, or one has
pub record LooksAround (n : ℕ) (none_open : Bool) (s s' : Seat ValueFraction View) : Type 0 where
  pub table : s'.table_id ≡ s.table_id
  pub number : s'.id ≡ s.id
  pub others : s'.me.1 ≡ s.me.1
  pub looked : (k : ℕ) × (view s' ≡ looked_to k (view s)) × (none_open ≡ true → k ≡ n)
  pub quiet : none_open ≡ true → ¬ (IsOpen (epoch s))
  pub met : none_open ≡ false → IsLone (epoch s) → IsOpen (epoch s)

-- it has no owner, holds no slot, and moves no value
pub record IsBare (v : View) : Type 0 where
  pub quiet : IsQuiet v.slots
  pub untold : v.fractions.owns ≡ []
  pub rests : v.fractions.moves ≡ None

-- what is noted of words while a slot is held, whose owners are counted at other times or not
abbrev pub held_words : Bool → ℕ → Sizes → List ℕ → List ℕ
held_words true slot z words = slice_set words (behind z slot) held_word
held_words false slot z words = words

-- a slot is held, whose owners are counted at other times or not
abbrev pub grasped : Bool → ℕ → View → View
grasped shared slot v = record (held slot v) { words = held_words shared slot v.sizes v.words }

-- and no longer
abbrev pub let_go_of : Bool → ℕ → View → View
let_go_of shared slot v = record (release_hold v) { words = unique_words shared slot v.sizes v.words }

-- where its owners are counted, a lone participant knew that its word counts one
abbrev pub KnewUnique : ℕ → Bool → View → Type 0
KnewUnique slot shared v = shared ≡ true → Knew slot v (claimed_word true)

-- its word counts others too, as a lone participant knew
pub record CountsOthers (slot : ℕ) (shared : Bool) (word : ℕ) (v : View) : Type 0 where
  pub several : shared ≡ true
  pub counted : counted word ≡ 1
  pub more : 1 < alive word
  pub knew : Knew slot v word

-- the slot's owner, which shows this, was taken in, the slot is held, and n places were looked at
abbrev pub holding : ℕ → Bool → Gv → ℕ → View → View
holding slot shared value n v = looked_to n (grasped shared slot (regained v (owner_of slot shared value)))

-- no guard is open at any of n places, and the slot is held
pub record IsHeldBy (slot : ℕ) (shared : Bool) (value : Gv) (n : ℕ) (s s' : Seat ValueFraction View) : Type 0 where
  pub table : s'.table_id ≡ s.table_id
  pub number : s'.id ≡ s.id
  pub others : s'.me.1 ≡ s.me.1
  pub view : s'.me.0 ≡ holding slot shared value n s.me.0
  pub quiet : ¬ (IsOpen (epoch s))
  pub unique : KnewUnique slot shared s.me.0

-- a guard is open at some place, so that the slot was let go of
pub record IsLetGoOf (slot : ℕ) (shared : Bool) (s s' : Seat ValueFraction View) : Type 0 where
  pub table : s'.table_id ≡ s.table_id
  pub number : s'.id ≡ s.id
  pub others : s'.me.1 ≡ s.me.1
  pub view : s'.me.0 ≡ record s.me.0 { words = unique_words shared slot s.me.0.sizes s.me.0.words }
  pub guarded : IsLone (epoch s) → IsOpen (epoch s)
  pub unique : KnewUnique slot shared s.me.0

-- what an owner is answered whom this hinders
abbrev pub refused_by : Hindrance → Refused
refused_by (Others word) = NotAlone
refused_by Guarded = GuardOpen

-- what hinders an owner: others, or a guard
abbrev pub IsHindered : ℕ → Bool → Hindrance → Seat ValueFraction View → Seat ValueFraction View → Type 0
IsHindered slot shared (Others word) s s' = IsUnmoved s s' × CountsOthers slot shared word s.me.0
IsHindered slot shared Guarded s s' = IsLetGoOf slot shared s s'

-- an owner went beside others, as many as the word tells that was found
pub record IsGoneBeside (slot word : ℕ) (s s' : Seat ValueFraction View) : Type 0 where
  pub table : s'.table_id ≡ s.table_id
  pub number : s'.id ≡ s.id
  pub others : s'.me.1 ≡ s.me.1
  pub view : s'.me.0 ≡ record s.me.0 { words = noted slot (word - 1) s.me.0 }
  pub knew : Knew slot s.me.0 word

-- an item of its own was dropped in its place, whose slot is free
abbrev pub with_dropped : ℕ → View → View
with_dropped slot v = record v {
  fractions = record v.fractions { counts = record v.fractions.counts { gone = v.fractions.counts.gone + 1; in_place = v.fractions.counts.in_place + 1 } };
  words = noted slot (free_word 0) v;
}
