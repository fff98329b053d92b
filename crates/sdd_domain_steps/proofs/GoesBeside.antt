-- An owner that was taken in and goes beside others; and where it doesn't, as the word is another one by then, it has its unit again
use Rattle.std.proofs.Common.{◌≡◌, ◌≢◌, ℕ, ◌-◌, ◌<◌, List, [], ◌∷◌, refl, sym, ap, ◌∙◌, subst}
use Rattle.std.specs.Prelude.{true, None}
use base.Stored.{Gv}
use lib.ListN.{get_elem?}
use Rattle.atomic_table.specs.declared.shared.Seat.{Seat}
use Rattle.sdd_shared_values.specs.ValueFractions.{FractionContent}
use Rattle.sdd_shared_values.specs.SharedValues.{content}
use Rattle.sdd_shared_values.specs.ReadFractions.{content_of}
use Rattle.sdd_shared_values.specs.declared.value_fraction.ValueFraction.{ValueFraction}
use Rattle.sdd_rights.specs.declared.read_fraction.ReadFraction.{ReadFraction}
use Rattle.sdd_rights.specs.Owner.{witness_of_owner}
use Rattle.sdd_rights.specs.declared.views.ShownValue.{ShownValue}
use Rattle.sdd_rights.specs.declared.views.View.{View}
use Rattle.sdd_rights.specs.contracts.views.View.{the_row}
use Rattle.sdd_rights.specs.Views.{owner_of, owner_seat, at_rest}
use Rattle.sdd_domain_invariant.specs.Epoch.{HasPlace, IsLone}
use Rattle.sdd_domain_invariant.specs.Slots.{Holds}
use Rattle.sdd_domain_invariant.specs.Slots.SlotSteps.{Knew, noted, one_less}
use Rattle.sdd_domain_invariant.specs.Slots.FilledInvariant.{HasRecord}
use Rattle.sdd_domain_invariant.specs.Fractions.FractionSteps.{SeatState, DrawsUnit, EntersUnit, LeavesOne, departing, drawing, parting, regained, undrawing, untold}
use Rattle.sdd_atomics.specs.TableFacts.{TableFacts, gamma_of}
use Rattle.sdd_atomics.specs.DomainSeat.{Knows, Moved, MovedAlone, Taught, epoch, slots, view}
use Rattle.sdd_atomics.specs.ReadFractions.{IsReadFractionOf}
use Rattle.sdd_atomics.specs.Owner.{IsCutOff}
use Rattle.sdd_domain_steps.specs.Claims.{IsUnmoved}
use Rattle.sdd_domain_steps.specs.InPlace.{IsBare, IsGoneBeside}

module _ (b : TableFacts) (slot : ℕ) (value : Gv) (s t e : Seat ValueFraction View) (bare : IsBare (view s))
    (took : Taught (λ v _ w. w ≡ regained v (owner_of slot true value)) s 0 t) (entered : MovedAlone EntersUnit t e) where
  -- the owner was taken in, and its unit is in the bank
  abbrev within : View → View
  within v = undrawing (regained v (owner_of slot true value))

  abbrev owner_record : ShownValue
  owner_record = record { slot = slot; shared = true; value = value }

  pub entered_view : view e ≡ within (view s)
  entered_view = entered.2.0 ∙ ap undrawing took.3

  pub entered_home : e.table_id ≡ s.table_id
  entered_home = entered.0 ∙ took.0

  pub entered_owns : ((slots e).owns ≡ slot ∷ []) × ¬ (Holds (view e) slot) × ((slots e).drawn ≡ [])
  entered_owns = (
    ap (λ (v : View). v.slots.owns) entered_view ∙ ap (λ (l : List ℕ). slot ∷ l) bare.quiet.owns,
    (λ held. let none = ap (λ (v : View). v.slots.holds) entered_view ∙ bare.quiet.holds in cc),
    ap (λ (v : View). v.slots.drawn) entered_view ∙ bare.quiet.drawn,
  )

  pub entered_told : HasRecord (view e).fractions.owns owner_record
  entered_told = (0, ap (λ (v : View). get_elem? v.fractions.owns 0) entered_view)

  module _ (word found : ℕ) (l : Seat ValueFraction View) (leaves : Moved (LeavesOne word slot) e found l) where
    -- it is gone
    pub gone : found ≡ word → IsGoneBeside slot word s l
    gone hit = let seat = leaves.2.2 hit in record {
      table = leaves.0 ∙ entered_home;
      number = leaves.1 ∙ (entered.1 ∙ took.1);
      others = ap (λ (m : SeatState). m.1) seat ∙ (entered.2.1 ∙ took.2);
      view = ap (λ (m : SeatState). m.0) seat ∙ (ap (λ (v : View). untold (one_less slot (word - 1) v)) entered_view
          ∙ (λ d. record (view s) { fractions = record (view s).fractions { owns = sym bare.untold d }; words = noted slot (word - 1) (view s) }));
      knew = λ lone. sym hit ∙ subst (λ (v : View). Knew slot v found) entered_view leaves.2.4 lone;
    }

    module _ (miss : found ≢ word) where
      pub still : l.me ≡ e.me
      still = leaves.2.3 miss

      still_view : view l ≡ within (view s)
      still_view = ap (λ (m : SeatState). m.0) still ∙ entered_view

      pub still_home : l.table_id ≡ s.table_id
      still_home = leaves.0 ∙ entered_home

      pub still_knows : Knows b s → Knows b l
      still_knows knows = (ap (λ (v : View). v.sizes) still_view ∙ knows.0, ap (λ (v : View). v.fractions.gamma) still_view ∙ knows.1)

      pub still_place : HasPlace (epoch s) → HasPlace (epoch l)
      still_place place = subst (λ (k : ℕ). 0 < k) (sym (ap (λ (v : View). v.epoch.state) still_view)) place

      pub still_rests : (view l).fractions.moves ≡ None
      still_rests = ap (λ (v : View). v.fractions.moves) still_view ∙ bare.rests

      pub still_told : HasRecord (view l).fractions.owns owner_record
      still_told = (0, ap (λ (v : View). get_elem? v.fractions.owns 0) still_view)

      pub still_owns : ¬ (Holds (view l) slot) × ((slots l).drawn ≡ [])
      still_owns = (
        (λ held. let none = ap (λ (v : View). v.slots.holds) still_view ∙ bare.quiet.holds in cc),
        ap (λ (v : View). v.slots.drawn) still_view ∙ bare.quiet.drawn,
      )

      -- a lone participant finds the word that it knew
      pub never_lone : ¬ (IsLone (epoch s) × Knew slot (view s) word)
      never_lone both = miss (subst (λ (v : View). Knew slot v found) entered_view leaves.2.4 both.0 ∙ sym (both.1 both.0))

      module _ (unit : FractionContent) (d : Seat ValueFraction View) (drawn : MovedAlone (λ me. DrawsUnit slot me unit) l d) (knows : Knows b s) where
        pub unit_is : unit ≡ content (gamma_of b) slot unit.lifetime value 1
        unit_is = drawn.2.2 value (still_told.0, owner_record, still_told.1, refl, refl)
            ∙ ap (λ (k : ℕ). content k slot unit.lifetime value 1) (still_knows knows).1

        drawn_view : view d ≡ regained (view s) (owner_of slot true value)
        drawn_view = drawn.2.0 ∙ (ap (drawing slot) still_view
            ∙ (λ i. record (regained (view s) (owner_of slot true value))
            { slots = record (view s).slots { owns = slot ∷ (view s).slots.owns; drawn = slot ∷ (view s).slots.drawn } }))

        pub drawn_home : d.table_id ≡ s.table_id
        drawn_home = drawn.0 ∙ still_home

        pub drawn_knows : Knows b d
        drawn_knows = (ap (λ (v : View). v.sizes) drawn_view ∙ knows.0, ap (λ (v : View). v.fractions.gamma) drawn_view ∙ knows.1)

        pub drawn_place : HasPlace (epoch s) → HasPlace (epoch d)
        drawn_place place = subst (λ (k : ℕ). 0 < k) (sym (ap (λ (v : View). v.epoch.state) drawn_view)) place

        pub drawn_owns : ((slots d).owns ≡ slot ∷ []) × ((slots d).drawn ≡ slot ∷ [])
        drawn_owns = (
          ap (λ (v : View). v.slots.owns) drawn_view ∙ ap (λ (k : List ℕ). slot ∷ k) bare.quiet.owns,
          ap (λ (v : View). v.slots.drawn) drawn_view ∙ ap (λ (k : List ℕ). slot ∷ k) bare.quiet.drawn,
        )

        pub drawn_free : ((slots d).holds ≡ None) × ((view d).fractions.moves ≡ None)
        drawn_free = (ap (λ (v : View). v.slots.holds) drawn_view ∙ bare.quiet.holds, ap (λ (v : View). v.fractions.moves) drawn_view ∙ bare.rests)

        pub back_unmoved : (u : Seat ValueFraction View) → Taught (λ v _ w. w ≡ parting v) d 0 u → IsUnmoved s u
        back_unmoved u cut = record {
          table = cut.0 ∙ drawn_home;
          number = cut.1 ∙ (drawn.1 ∙ (leaves.1 ∙ (entered.1 ∙ took.1)));
          others = cut.2 ∙ (drawn.2.1 ∙ (ap (λ (m : SeatState). m.1) still ∙ (entered.2.1 ∙ took.2)));
          view = cut.3 ∙ (ap parting drawn_view ∙ (λ i. record (view s) { fractions = record (view s).fractions { owns = sym bare.untold i } }));
        }

        pub back_shows : (views : List Gv) → IsCutOff (view d) views → views ≡ witness_of_owner slot true value
        back_shows views is = is ∙ ap (λ (v : View). the_row.coded.code v ∷ [])
            (ap departing drawn_view ∙ (λ i. record (owner_seat (slot ∷ [])) { fractions = record (at_rest 0) { owns = owner_record ∷ bare.untold i } }))

        pub back_read_fraction : (read_fraction : ReadFraction) → content_of read_fraction ≡ unit → IsReadFractionOf (gamma_of b) slot value read_fraction
        back_read_fraction read_fraction is = let all = is ∙ unit_is in record {
          unit = record { gamma_is = ap (λ (k : FractionContent). k.gamma) all; number_is = ap (λ (k : FractionContent). k.number) all };
          shows = ap (λ (k : FractionContent). k.shown) all;
        }
