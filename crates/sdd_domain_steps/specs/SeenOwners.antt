-- One owner more of an item whose value nobody moves
use Rattle.std.specs.Prelude.{◌≡◌, ◌⊎◌, ℕ, ◌+◌, ◌<◌, ◌≤◌, true, Option, Some, None, Result, Ok, Err}
use base.Stored.{Gv}
use Rattle.atomic_table.specs.declared.shared.Seat.{Seat}
use Rattle.sdd_atomics.specs.TableFacts.{TableFacts}
use Rattle.sdd_shared_values.specs.declared.value_fraction.ValueFraction.{ValueFraction}
use Rattle.sdd_rights.specs.declared.views.View.{View}
use Rattle.sdd_domain_invariant.specs.Codes.{alive, counted, held_word, most_owners}
use Rattle.sdd_domain_invariant.specs.Epoch.{IsLone}
use Rattle.sdd_domain_invariant.specs.Slots.SlotSteps.{noted}
use Rattle.sdd_domain_invariant.specs.Slots.Records.{IsIn}
use Rattle.sdd_domain_invariant.specs.Slots.FilledInvariant.{newest}
use Rattle.sdd_domain_invariant.specs.Fractions.FractionSteps.{ShowsSeen}
use Rattle.sdd_domain_invariant.specs.Slots.KindsInvariant.{written}
use Rattle.sdd_core.specs.declared.refused.Refused.{Refused}
use Rattle.sdd_core.specs.declared.refused.Refused.TheVariants.{TooManyOwners, Contended}
use Rattle.sdd_domain_steps.specs.declared.cells.values.LooseOwner.{LooseOwner}
use Rattle.sdd_domain_steps.specs.declared.slots.seen_owners.Tried.{Tried}
use Rattle.sdd_domain_steps.specs.declared.slots.seen_owners.Tried.TheVariants.{Came, Gone, Most, Lost}
use Rattle.sdd_domain_steps.specs.LocalState.{LocalState, IsLone as IsAlone, word_of}
use Rattle.sdd_domain_steps.specs.Cells.{IsLoose, IsWith}

-- ---- as its callers see it
module _ {J : Type 0} (m : LocalState J) (slot : ℕ) where
  -- nobody moves the value of the slot, as far as it knows: a guard of its own sees the slot, or no other participant may be
  abbrev pub KnowsStill : Type 0
  KnowsStill = ((value : Gv) × IsIn m.shown slot value) ⊎ IsAlone m

  -- an item shows this: each sight of it says so, and a lone participant moved it in last, for one of several owners that there may be
  pub record ShowsTo (value : Gv) : Type 0 where
    pub seen : (g : Gv) → IsIn m.shown slot g → value ≡ g
    pub newest : IsAlone m → newest slot m.filled ≡ Some (record { slot = slot; shared = true; value = value })

  -- a lone participant knows that no owner of its item is counted
  abbrev pub HasNoOwner : Type 0
  HasNoOwner = IsAlone m → slot < m.limits.slots → (counted (word_of m slot) ≡ 0) ⊎ (alive (word_of m slot) ≡ 0)

  -- why no owner came: a lone participant knows that as many own the item as may, or that one holds it
  abbrev pub OwnsNoMore : Refused → Type 0
  OwnsNoMore why = (slot < m.limits.slots)
      × (((why ≡ TooManyOwners) × (IsAlone m → (counted (word_of m slot) ≡ 1) × (most_owners ≤ alive (word_of m slot))))
      ⊎ ((why ≡ Contended) × (IsAlone m → word_of m slot ≡ held_word)))

-- ---- the seat
-- an owner came of the item of a slot, whose word was this
pub record Comes (b : TableFacts) (slot : ℕ) (owner : LooseOwner) (s s' : Seat ValueFraction View) : Type 0 where
  pub word : ℕ
  pub counted : counted word ≡ 1
  pub left : 0 < alive word
  pub few : alive word < most_owners
  pub after : IsWith (record s.me.0 { words = noted slot (word + 1) s.me.0 }) s s'
  pub knew : IsLone s.me.0.epoch → word ≡ written s.me.0 slot
  pub loose : IsLoose b true owner
  pub of_slot : owner.slot ≡ slot
  pub shows : ShowsSeen slot owner.read_fraction.shown s.me.0

-- what a try came to
abbrev pub Tries : TableFacts → ℕ → Tried → Seat ValueFraction View → Seat ValueFraction View → Type 0
Tries b slot (Came owner) s s' = Comes b slot owner s s'
Tries b slot Gone s s' = IsWith s.me.0 s s' × (IsLone s.me.0.epoch → (counted (written s.me.0 slot) ≡ 0) ⊎ (alive (written s.me.0 slot) ≡ 0))
Tries b slot Most s s' = IsWith s.me.0 s s' × (IsLone s.me.0.epoch → (counted (written s.me.0 slot) ≡ 1) × (most_owners ≤ alive (written s.me.0 slot)))
Tries b slot Lost s s' = IsWith s.me.0 s s' × (IsLone s.me.0.epoch → written s.me.0 slot ≡ held_word)

-- what so many tries came to
abbrev pub Ends : TableFacts → ℕ → Result (Option LooseOwner) Refused → Seat ValueFraction View → Seat ValueFraction View → Type 0
Ends b slot (Ok None) s s' = Tries b slot Gone s s'
Ends b slot (Ok (Some owner)) s s' = Comes b slot owner s s'
Ends b slot (Err why) s s' = ((why ≡ TooManyOwners) × Tries b slot Most s s') ⊎ ((why ≡ Contended) × Tries b slot Lost s s')
