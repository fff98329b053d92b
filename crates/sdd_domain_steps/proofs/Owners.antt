-- What is known once a value was moved into a slot, and the slot's owner has left its participant
use Rattle.std.proofs.Common.{◌≡◌, ℕ, suc, ◌+◌, [], ◌∷◌, drop, refl, sym, ap, ◌∙◌}
use Rattle.std.specs.Prelude.{Bool, None}
use base.Stored.{Gv}
use Rattle.atomic_table.specs.declared.shared.Seat.{Seat}
use Rattle.sdd_shared_values.specs.declared.value_fraction.ValueFraction.{ValueFraction}
use Rattle.sdd_shared_values.specs.SharedValues.{IsValueCode, IsNoValueCode, all_turned}
use Rattle.sdd_rights.specs.declared.views.Sizes.{Sizes}
use Rattle.sdd_rights.specs.declared.views.View.{View}
use Rattle.sdd_domain_invariant.specs.Slots.SlotSteps.{first, others}
use Rattle.sdd_rights.specs.Views.{owner_of, owner_seat, at_rest}
use Rattle.sdd_domain_invariant.specs.Fractions.FractionsAtHome.{CarriedFractions, Moves, spare}
use Rattle.sdd_domain_invariant.specs.Fractions.FractionSteps.{CarriesAll, IsValue, FillsSlot, parting, departing, resting, telling, drawing}
use Rattle.sdd_atomics.specs.TableFacts.{TableFacts, gamma_of, places_of}
use Rattle.sdd_atomics.specs.Owner.{disowned}
use Rattle.sdd_atomics.specs.DomainSeat.{view, Knows, MovedAlone}
use Rattle.sdd_domain_steps.specs.Values.{with_filled}
use Rattle.sdd_domain_steps.proofs.MovedValues.{row_after, rest_out}

module _ (slot : ℕ) (shared : Bool) (value : Gv) (v : View) (owns : v.slots.owns ≡ slot ∷ []) (told : v.fractions.owns ≡ []) where
  pub parted_view : parting (resting (telling slot shared value (drawing slot v))) ≡ disowned (resting (with_filled slot shared value v))
  parted_view = λ d. record v {
    slots = record v.slots { owns = ap others owns d };
    fractions = record v.fractions { moves = None; owns = sym told d; filled = record { slot = slot; shared = shared; value = value } ∷ v.fractions.filled };
  }

  pub departed_view : departing (resting (telling slot shared value (drawing slot v))) ≡ owner_of slot shared value
  departed_view = λ d. record (owner_seat (ap first owns d)) {
    fractions = record (at_rest 0) { owns = record { slot = slot; shared = shared; value = value } ∷ told d };
  }

-- the value lies in its place, and the fractions in it are at home
pub record IsFurnished (n slot : ℕ) (shared : Bool) (value : Gv) (s t : Seat ValueFraction View) : Type 0 where
  pub table : t.table_id ≡ s.table_id
  pub number : t.id ≡ s.id
  pub view : t.me.0 ≡ resting (telling slot shared value (drawing slot s.me.0))
  pub given : t.me.1 ≡ drop (suc n) s.me.1

-- so it is after the value was moved in, all units but those of the fractions were cut off, and the step that tells of it
module _ (b : TableFacts) (slot count : ℕ) (shared : Bool) (value : Gv) (s p c t : Seat ValueFraction View) (knows : Knows b s) (all : count ≡ places_of b + 1)
    (moves : Moves (view s) slot)
    (rest : CarriedFractions) (row : CarriesAll (gamma_of b) slot (places_of b) 0 IsNoValueCode rest s.me.1) (a : ℕ) (full : IsValueCode value)
    (put : p ≡ record s { me = (s.me.0, all_turned a value count s.me.1) }) where
  pub row_put : CarriesAll (gamma_of b) slot (places_of b) 0 (IsValue value) rest p.me.1
  row_put = row_after (gamma_of b) slot (places_of b) count all IsNoValueCode (IsValue value) value a rest s.me.1 p.me.1 (full, refl) row
      (ap (λ (s : Seat ValueFraction View). s.me.1) put)

  module _ (cut : (c.table_id ≡ p.table_id) × (c.id ≡ p.id) × (view c ≡ view p)) where
    pub view_cut : view c ≡ view s
    view_cut = cut.2 ∙ ap (λ (s : Seat ValueFraction View). s.me.0) put

    pub moves_cut : Moves (view c) slot
    moves_cut = ap (λ (v : View). v.fractions.moves) view_cut ∙ moves

    module _ (left : CarriesAll (gamma_of b) slot (places_of b) (spare (places_of b)) (IsValue value) rest c.me.1) where
      pub furnished : ((slot : ℕ) (g : Gv) (rest : CarriedFractions) → Moves (view c) slot
          → CarriesAll (gamma_of b) slot (places_of b) (spare (places_of b)) (IsValue g) rest c.me.1 → MovedAlone (FillsSlot slot shared g) c t)
          → IsFurnished (places_of b) slot shared value s t
      furnished housed = let h = housed slot value rest moves_cut left in record {
        table = h.0 ∙ (cut.0 ∙ ap (λ (s : Seat ValueFraction View). s.table_id) put);
        number = h.1 ∙ (cut.1 ∙ ap (λ (s : Seat ValueFraction View). s.id) put);
        view = h.2.0 ∙ ap (λ (v : View). resting (telling slot shared value (drawing slot v))) view_cut;
        given = rest_out (gamma_of b) slot (places_of b) c.me.0.sizes.participants (spare (places_of b)) (IsValue value) rest c.me.1 t.me.1
            (ap (λ (v : View). v.sizes.participants) view_cut ∙ ap (λ (z : Sizes). z.participants) knows.0) left h.2.1
            ∙ sym (rest_out (gamma_of b) slot (places_of b) (places_of b) 0 IsNoValueCode rest s.me.1 (drop (suc (places_of b)) s.me.1) refl row refl);
      }
