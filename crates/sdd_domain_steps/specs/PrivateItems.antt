-- Private items: what claiming one, letting it go and emptying it make of what a participant knows
use Rattle.std.specs.Prelude.{◌≡◌, ◌≢◌, ◌⊎◌, ℕ, List, [], ◌∷◌, Bool, true, false, Some}
use base.Stored.{Gv}
use Rattle.atomic_table.specs.declared.shared.Seat.{Seat}
use Rattle.sdd_shared_values.specs.declared.value_fraction.ValueFraction.{ValueFraction}
use Rattle.sdd_rights.specs.declared.views.PrivateItem.{PrivateItem}
use Rattle.sdd_rights.specs.declared.views.ShownValue.{ShownValue}
use Rattle.sdd_rights.specs.declared.views.View.{View}
use Rattle.sdd_domain_invariant.specs.Codes.{free_word, private_word, waiting_word, emptied_word, emptying_word, left_word}
use Rattle.sdd_domain_invariant.specs.Epoch.{IsLone, IsOpen}
use Rattle.sdd_domain_invariant.specs.Collectors.{HasPrivate}
use Rattle.sdd_domain_invariant.specs.Collectors.CollectorWordSteps.{WaitsFor, no_collector, reclaimed, without_private}
use Rattle.sdd_domain_invariant.specs.Slots.SlotSteps.{Knew, noted}
use Rattle.sdd_domain_invariant.specs.Fractions.FractionSteps.{with_gone}
use Rattle.sdd_domain_invariant.specs.Collectors.CollectorSteps.{ShowsPrivate, recollecting}
use Rattle.sdd_atomics.specs.DomainSeat.{epoch}
use Rattle.sdd_domain_steps.specs.Cells.{IsWith}
use Rattle.sdd_domain_steps.specs.Values.{WasFilled}

-- a view that has no private item of the slot any more, and these words
abbrev pub without_kept : ℕ → View → View
without_kept slot v = record v { slots = record v.slots { privates = without_private slot v.slots.privates } }

-- of all words only the slot's is noted anew: it is free, or has this one
abbrev pub NotesOf : ℕ → ℕ → View → List ℕ → Type 0
NotesOf slot word v words = (words ≡ noted slot (free_word 0) v) ⊎ (words ≡ noted slot word v)

-- the slot's private item was claimed by a close, as the word says that was found: the close has emptied it, or empties it, and it waits for no collector
abbrev pub IsLost : ℕ → ℕ → View → Type 0
IsLost slot found v = ((found ≡ emptied_word) × (v.slots.emptied ≡ slot ∷ []))
    ⊎ ((found ≡ emptying_word) × (v.slots.emptied ≡ []) × WaitsFor no_collector v slot)

-- its slot is found emptied
abbrev pub FindsEmptied : ℕ → Seat ValueFraction View → Seat ValueFraction View → Type 0
FindsEmptied slot s s' = IsWith (record s.me.0 { slots = record s.me.0.slots { emptied = slot ∷ [] } }) s s'

-- one that was lost so is private with the participant no more, whoever gives the slot back
pub record GivesUpLost (slot : ℕ) (s s' : Seat ValueFraction View) : Type 0 where
  pub words : List ℕ
  pub seat : IsWith (record s.me.0 {
    slots = record s.me.0.slots { privates = without_private slot s.me.0.slots.privates; emptied = [] };
    words = words;
  }) s s'
  pub notes : NotesOf slot left_word s.me.0 words

-- the slot's private item was let go of, since a close had claimed it
pub record LetsGoOf (collector slot : ℕ) (s s' : Seat ValueFraction View) : Type 0 where
  pub words : List ℕ
  pub seat : IsWith (record (without_kept slot s.me.0) { words = words }) s s'
  pub notes : NotesOf slot left_word s.me.0 words
  pub word : ℕ
  pub knew : Knew slot s.me.0 word
  pub claimed : word ≢ private_word collector

-- it waits as any other from now on, and it is known what it shows
pub record ClaimsBack (slot : ℕ) (s s' : Seat ValueFraction View) : Type 0 where
  pub item : PrivateItem
  pub there : HasPrivate s.me.0 item
  pub here : item.item.slot ≡ slot
  pub shown : ShownValue
  pub shows : ShowsPrivate slot shown s.me.0
  pub seat : IsWith (recollecting shown (reclaimed slot item.item (waiting_word 0) s.me.0)) s s'

-- a private item was claimed for its bag, or let go of
abbrev pub IsClaimedBack : ℕ → ℕ → Bool → Seat ValueFraction View → Seat ValueFraction View → Type 0
IsClaimedBack collector slot true s s' = ClaimsBack slot s s'
IsClaimedBack collector slot false s s' = LetsGoOf collector slot s s'

-- a private item of its own was emptied, and its slot is free; a lone participant moved its value in
pub record EmptiesOwn (slot : ℕ) (value : Gv) (s s' : Seat ValueFraction View) : Type 0 where
  pub seat : IsWith (with_gone (record (without_kept slot s.me.0) { words = noted slot (free_word 0) s.me.0 })) s s'
  pub lone : IsLone s.me.0.epoch → WasFilled slot value s.me.0

-- one of another was emptied for the collector, whoever gives its slot back
pub record EmptiesAnothers (collector slot : ℕ) (s s' : Seat ValueFraction View) : Type 0 where
  pub words : List ℕ
  pub seat : IsWith (with_gone (record s.me.0 { words = words })) s s'
  pub notes : NotesOf slot emptied_word s.me.0 words
  pub knew : Knew slot s.me.0 (private_word collector)

-- it closes the collector from now on, and has looked at each of so many places: no guard is open, the own one neither
pub record BeginsWhereShut (collector places : ℕ) (s s' : Seat ValueFraction View) : Type 0 where
  pub seat : IsWith (record s.me.0 { slots = record s.me.0.slots { closes = Some collector; looked = places } }) s s'
  pub shut : ¬ (IsOpen (epoch s))
