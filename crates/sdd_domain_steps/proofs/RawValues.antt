-- An item that was out as raw comes back: what is known once its owner has its unit, and has left its participant
use Rattle.std.proofs.Common.{◌≡◌, ℕ, [], ◌∷◌, List, sym, refl, ap, ◌∙◌, subst}
use Rattle.std.specs.Prelude.{None, false}
use base.Stored.{Gv}
use Rattle.atomic_table.specs.declared.shared.Seat.{Seat}
use Rattle.sdd_shared_values.specs.ValueFractions.{FractionContent}
use Rattle.sdd_shared_values.specs.SharedValues.{IsValueCode, content}
use Rattle.sdd_shared_values.specs.ReadFractions.{content_of}
use Rattle.sdd_shared_values.specs.declared.value_fraction.ValueFraction.{ValueFraction}
use Rattle.sdd_rights.specs.declared.read_fraction.ReadFraction.{ReadFraction}
use Rattle.sdd_rights.specs.declared.views.View.{View}
use Rattle.sdd_rights.specs.contracts.views.View.{the_row}
use Rattle.sdd_rights.specs.Views.{owner_of, owner_seat, at_rest}
use Rattle.sdd_domain_invariant.specs.Slots.SlotSteps.{noted}
use Rattle.sdd_domain_invariant.specs.Slots.Records.{IsIn}
use Rattle.sdd_domain_invariant.specs.Fractions.FractionSteps.{SeatState, DrawsUnit, parting, departing, drawing}
use Rattle.sdd_domain_invariant.specs.Raw.RawSteps.{RegainsOne, regaining}
use Rattle.sdd_rights.specs.Owner.{witness_of_owner}
use Rattle.sdd_atomics.specs.TableFacts.{TableFacts, gamma_of}
use Rattle.sdd_atomics.specs.DomainSeat.{view, slots, Knows, Moved, MovedAlone, Taught}
use Rattle.sdd_atomics.specs.ReadFractions.{IsReadFractionOf}
use Rattle.sdd_atomics.specs.Owner.{IsCutOff}
use Rattle.sdd_domain_steps.specs.RawItems.{TakesBack}

module _ (slot : ℕ) (value : Gv) (v : View) (told : v.fractions.owns ≡ []) where
  -- what the owner's seat tells, and what is left with the participant
  departed_view : departing (drawing slot (regaining slot 1 value v)) ≡ owner_of slot false value
  departed_view = λ d. record (owner_seat (slot ∷ [])) {
    fractions = record (at_rest 0) { owns = record { slot = slot; shared = false; value = value } ∷ told d };
  }

  parted_view : parting (drawing slot (regaining slot 1 value v)) ≡ record v { words = noted slot 1 v }
  parted_view = λ d. record v { fractions = record v.fractions { owns = sym told d }; words = noted slot 1 v }

module _ (b : TableFacts) (slot found : ℕ) (s r t : Seat ValueFraction View) (l : FractionContent) (knows : Knows b s)
    (quiet : ((slots s).owns ≡ []) × ((slots s).drawn ≡ []) × ((slots s).holds ≡ None) × ((view s).fractions.owns ≡ []))
    (back : Moved (RegainsOne slot 2 1) s found r) (hit : found ≡ 2) (drawn : MovedAlone (λ me. DrawsUnit slot me l) r t) where
  -- what the slot shows, as the exchange told it
  abbrev pub value : Gv
  value = (back.2.0 hit).0

  pub is_value : IsValueCode value
  is_value = (back.2.0 hit).1

  -- the seat after the exchange
  regained : r.me ≡ (regaining slot 1 value s.me.0, s.me.1)
  regained = (back.2.0 hit).2

  -- the unit shows what the slot does
  unit : l ≡ content (gamma_of b) slot l.lifetime value 1
  unit = drawn.2.2 value (subst (λ (m : SeatState). IsIn m.0.fractions.owns slot value) (sym regained)
      (0, record { slot = slot; shared = false; value = value }, refl, refl, refl))
      ∙ ap (λ (k : ℕ). content k slot l.lifetime value 1) (ap (λ (m : SeatState). m.0.fractions.gamma) regained ∙ knows.1)

  -- so it can be an owner's read fraction
  pub unit_shows : IsValueCode l.shown
  unit_shows = subst IsValueCode (sym (ap (λ (k : FractionContent). k.shown) unit)) is_value

  pub unit_single : l.units ≡ 1
  unit_single = ap (λ (k : FractionContent). k.units) unit

  pub unit_free : l.lent ≡ None
  unit_free = ap (λ (k : FractionContent). k.lent) unit

  pub read_fraction_shows : (read_fraction : ReadFraction) → content_of read_fraction ≡ l → IsReadFractionOf (gamma_of b) slot value read_fraction
  read_fraction_shows read_fraction is = let e = is ∙ unit in record {
    unit = record { gamma_is = ap (λ (k : FractionContent). k.gamma) e; number_is = ap (λ (k : FractionContent). k.number) e };
    shows = ap (λ (k : FractionContent). k.shown) e;
  }

  -- the seat once the unit is drawn, and once the owner has left it
  view_drawn : t.me.0 ≡ drawing slot (regaining slot 1 value s.me.0)
  view_drawn = drawn.2.0 ∙ ap (λ (m : SeatState). drawing slot m.0) regained

  pub owns_one : ((slots t).owns ≡ slot ∷ []) × ((slots t).drawn ≡ slot ∷ [])
  owns_one = (
    ap (λ (v : View). v.slots.owns) view_drawn ∙ ap (λ (l : List ℕ). slot ∷ l) quiet.0,
    ap (λ (v : View). v.slots.drawn) view_drawn ∙ ap (λ (l : List ℕ). slot ∷ l) quiet.1,
  )

  pub takes_back : (u : Seat ValueFraction View) → Taught (λ v _ w. w ≡ parting v) t 0 u → TakesBack slot value s u
  takes_back u cut = record {
    table = cut.0 ∙ (drawn.0 ∙ back.0);
    number = cut.1 ∙ (drawn.1 ∙ back.1);
    others = cut.2 ∙ (drawn.2.1 ∙ ap (λ (m : SeatState). m.1) regained);
    view = cut.3 ∙ (ap parting view_drawn ∙ parted_view slot value s.me.0 quiet.3);
    out = λ lone. sym (back.2.2 lone) ∙ hit;
    knew = (back.2.0 hit).3;
  }

  pub owner_shows : (views : List Gv) → IsCutOff (view t) views → views ≡ witness_of_owner slot false value
  owner_shows views is = is ∙ ap (λ (v : View). the_row.coded.code v ∷ []) (ap departing view_drawn ∙ departed_view slot value s.me.0 quiet.3)
