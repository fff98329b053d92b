-- An owner came beside another, by one addition, or none did, as as many own the item as may: what is known then
use Rattle.std.proofs.Common.{◌≡◌, ℕ, ◌+◌, ◌<◌, ◌≤◌, List, [], ◌∷◌, refl, sym, ap, ◌∙◌, subst, arith}
use Rattle.std.specs.Prelude.{true, None}
use base.Stored.{Gv}
use lib.ListN.{get_elem?}
use Rattle.atomic_table.specs.declared.shared.Seat.{Seat}
use Rattle.sdd_shared_values.specs.ValueFractions.{FractionContent}
use Rattle.sdd_shared_values.specs.SharedValues.{content}
use Rattle.sdd_shared_values.specs.ReadFractions.{content_of}
use Rattle.sdd_shared_values.specs.declared.value_fraction.ValueFraction.{ValueFraction}
use Rattle.sdd_rights.specs.declared.read_fraction.ReadFraction.{ReadFraction}
use Rattle.sdd_rights.specs.Owner.{witness_of_owner}
use Rattle.sdd_rights.specs.declared.views.ShownValue.{ShownValue}
use Rattle.sdd_rights.specs.declared.views.View.{View}
use Rattle.sdd_rights.specs.contracts.views.View.{the_row}
use Rattle.sdd_rights.specs.Views.{owner_seat, at_rest}
use Rattle.sdd_domain_invariant.specs.Codes.{alive, counted, most_owners, shared_base}
use Rattle.sdd_domain_invariant.specs.Epoch.{HasPlace, IsLone}
use Rattle.sdd_domain_invariant.specs.Slots.{Holds}
use Rattle.sdd_domain_invariant.specs.Slots.SlotSteps.{noted, one_more}
use Rattle.sdd_domain_invariant.proofs.Codes.{counted_is, shared}
use Rattle.sdd_domain_invariant.specs.Slots.FilledInvariant.{HasRecord}
use Rattle.sdd_domain_invariant.specs.Fractions.FractionSteps.{SeatState, DrawsUnit, departing, drawing, owning_more, parting}
use Rattle.sdd_atomics.specs.TableFacts.{TableFacts, gamma_of}
use Rattle.sdd_atomics.specs.Clones.{ClonesOne}
use Rattle.sdd_atomics.specs.DomainSeat.{Knows, Moved, MovedAlone, Taught, epoch, slots, view}
use Rattle.sdd_atomics.specs.ReadFractions.{IsReadFractionOf}
use Rattle.sdd_atomics.specs.Owner.{IsCutOff}
use Rattle.sdd_domain_steps.specs.InPlace.{IsBare}

-- a word that counts as many owners as may be is so great
pub counts_most : (x : ℕ) → counted x ≡ 1 → shared_base + most_owners ≤ x → most_owners ≤ alive x
counts_most x several great = let so_many = (shared x (counted_is x several)).0 in omega arith

pub counts_fewer : (x : ℕ) → counted x ≡ 1 → x < shared_base + most_owners → alive x < most_owners
counts_fewer x several small = let so_many = (shared x (counted_is x several)).0 in omega arith

module _ (b : TableFacts) (slot : ℕ) (value : Gv) (s t : Seat ValueFraction View) (found : ℕ) (adds : Moved (ClonesOne value slot) s found t) where
  -- none came: its note of the word alone may be new
  pub full_view : most_owners ≤ alive found → (z : ℕ) × (t.me.0 ≡ record s.me.0 { words = noted slot z s.me.0 }) × (t.me.1 ≡ s.me.1)
  full_view many = let r = adds.2.refused many in (r.0, ap (λ (m : SeatState). m.0) r.1, ap (λ (m : SeatState). m.1) r.1)

  pub full_same : most_owners ≤ alive found → IsLone (epoch s) → t ≡ s
  full_same many lone = let same = adds.2.lone many lone in λ d. record t { table_id = adds.0 d; id = adds.1 d; me = same d }

  module _ (few : alive found < most_owners) (bare : IsBare (view s)) where
    abbrev came : View → View
    came v = owning_more slot value (one_more slot (found + 1) None v)

    abbrev owner_record : ShownValue
    owner_record = record { slot = slot; shared = true; value = value }

    seat : t.me ≡ (came s.me.0, s.me.1)
    seat = adds.2.comes few

    came_view : view t ≡ came (view s)
    came_view = ap (λ (m : SeatState). m.0) seat

    pub came_knows : Knows b s → Knows b t
    came_knows knows = (ap (λ (v : View). v.sizes) came_view ∙ knows.0, ap (λ (v : View). v.fractions.gamma) came_view ∙ knows.1)

    pub came_place : HasPlace (epoch s) → HasPlace (epoch t)
    came_place place = subst (λ (k : ℕ). 0 < k) (sym (ap (λ (v : View). v.epoch.state) came_view)) place

    pub came_rests : (view t).fractions.moves ≡ None
    came_rests = ap (λ (v : View). v.fractions.moves) came_view ∙ bare.rests

    pub came_told : HasRecord (view t).fractions.owns owner_record
    came_told = (0, ap (λ (v : View). get_elem? v.fractions.owns 0) came_view)

    pub came_free : ¬ (Holds (view t) slot) × ((slots t).drawn ≡ [])
    came_free = (
      (λ held. let none = ap (λ (v : View). v.slots.holds) came_view ∙ bare.quiet.holds in cc),
      ap (λ (v : View). v.slots.drawn) came_view ∙ bare.quiet.drawn,
    )

    module _ (unit : FractionContent) (d : Seat ValueFraction View) (drawn : MovedAlone (λ me. DrawsUnit slot me unit) t d) (knows : Knows b s) where
      pub unit_is : unit ≡ content (gamma_of b) slot unit.lifetime value 1
      unit_is = drawn.2.2 value (came_told.0, owner_record, came_told.1, refl, refl)
          ∙ ap (λ (k : ℕ). content k slot unit.lifetime value 1) (came_knows knows).1

      pub drawn_view : view d ≡ drawing slot (came (view s))
      drawn_view = drawn.2.0 ∙ ap (drawing slot) came_view

      pub drawn_home : d.table_id ≡ s.table_id
      drawn_home = drawn.0 ∙ adds.0

      pub drawn_owns : ((slots d).owns ≡ slot ∷ []) × ((slots d).drawn ≡ slot ∷ [])
      drawn_owns = (
        ap (λ (v : View). v.slots.owns) drawn_view ∙ ap (λ (k : List ℕ). slot ∷ k) bare.quiet.owns,
        ap (λ (v : View). v.slots.drawn) drawn_view ∙ ap (λ (k : List ℕ). slot ∷ k) bare.quiet.drawn,
      )

      pub drawn_rests : (view d).fractions.moves ≡ None
      drawn_rests = ap (λ (v : View). v.fractions.moves) drawn_view ∙ bare.rests

      -- the new owner cut off, it is as it was, but for its note of the word
      pub left_view : (u : Seat ValueFraction View) → Taught (λ v _ w. w ≡ parting v) d 0 u
          → (u.table_id ≡ s.table_id) × (u.me.1 ≡ s.me.1) × (view u ≡ record (view s) { words = noted slot (found + 1) (view s) })
      left_view u cut = (
        cut.0 ∙ drawn_home,
        cut.2 ∙ (drawn.2.1 ∙ ap (λ (m : SeatState). m.1) seat),
        cut.3 ∙ (ap parting drawn_view ∙ (λ i. record (view s) {
          slots = record (view s).slots { over = sym bare.quiet.over i };
          fractions = record (view s).fractions { owns = sym bare.untold i };
          words = noted slot (found + 1) (view s);
        })),
      )

      pub other_shows : (views : List Gv) → IsCutOff (view d) views → views ≡ witness_of_owner slot true value
      other_shows views is = is ∙ ap (λ (v : View). the_row.coded.code v ∷ [])
          (ap departing drawn_view ∙ (λ i. record (owner_seat (slot ∷ [])) { fractions = record (at_rest 0) { owns = owner_record ∷ bare.untold i } }))

      pub other_read_fraction : (read_fraction : ReadFraction) → content_of read_fraction ≡ unit → IsReadFractionOf (gamma_of b) slot value read_fraction
      other_read_fraction read_fraction is = let all = is ∙ unit_is in record {
        unit = record { gamma_is = ap (λ (k : FractionContent). k.gamma) all; number_is = ap (λ (k : FractionContent). k.number) all };
        shows = ap (λ (k : FractionContent). k.shown) all;
      }
