-- An owner goes into a cell and another one comes out: what is known between the steps, and after them
use Rattle.sdd_atomics.specs.SeatAtTable.{DomainSeat, facts_at}
use Rattle.sdd_atomics.proofs.Sitting.{same_facts}
use Rattle.std.proofs.Common.{◌≡◌, ℕ, ◌<◌, Bool, [], ◌∷◌, List, None, Some, Option, sym, refl, ap, ◌∙◌, subst, ⊎_elim}
use base.Stored.{Gv}
use Rattle.atomic_table.specs.declared.shared.Seat.{Seat}
use Rattle.sdd_shared_values.specs.SharedValues.{IsValueCode}
use Rattle.sdd_shared_values.specs.declared.value_fraction.ValueFraction.{ValueFraction}
use Rattle.sdd_rights.specs.declared.views.ShownValue.{ShownValue}
use Rattle.sdd_rights.specs.declared.views.View.{View}
use Rattle.sdd_rights.specs.declared.views.CellsView.{CellsView}
use Rattle.sdd_rights.specs.Views.{right_to, no_rights}
use Rattle.sdd_rights.specs.Owner.{cell_kind}
use Rattle.sdd_domain_invariant.specs.Codes.{held_slots}
use Rattle.sdd_domain_invariant.specs.Cells.CellWordSteps.{noting}
use Rattle.sdd_domain_invariant.proofs.Codes.{held_which}
use Rattle.sdd_domain_invariant.specs.Fractions.FractionSteps.{SeatState}
use Rattle.sdd_domain_invariant.specs.Slots.FilledInvariant.{HasRecord}
use Rattle.sdd_domain_invariant.specs.Cells.CellSteps.{BringsOut, righted}
use Rattle.sdd_domain_invariant.proofs.Slots.FilledInvariant.{has_none}
use Rattle.sdd_domain_invariant.proofs.Slots.KindSteps.{has_first}
use Rattle.sdd_atomics.specs.TableFacts.{TableFacts, sizes_of}
use Rattle.sdd_domain_steps.specs.declared.cells.values.LooseOwner.{LooseOwner}
use Rattle.sdd_domain_steps.specs.Cells.{AreLoose, HasHeld, holding, told_of}

-- the first slot and the first record of a list
abbrev first_slot : ℕ → List ℕ → ℕ
first_slot k [] = k
first_slot k (m ∷ ms) = m

-- what came out of a cell whose word was found is in hand
module _ (y cell found : ℕ) (shared : Bool) (me me' : SeatState) (brings : BringsOut y shared cell me found me') where
  pub brought : (told : List ShownValue) × (me' ≡ (holding (held_slots found) told (noting cell y me.0), me.1)) × HasHeld found shared me'.0
  brought = ⊎_elim
      (λ (c : (slot : ℕ) × (held_slots found ≡ slot ∷ [])). let slot : ℕ = c.0 in let one = c.1 in let b = brings.1 slot one in let value : Gv = b.0 in
      let r : ShownValue = record { slot = slot; shared = shared; value = value } in (
        r ∷ [],
        b.3 ∙ (λ d. (holding (sym one d) (r ∷ []) (noting cell y me.0), me.1)),
        record {
          owns = ap (λ (m : SeatState). m.0.slots.owns) b.3 ∙ sym one;
          none = λ none. absurd (let no : ◌≡◌ {A = List ℕ} (slot ∷ []) [] = sym one ∙ none in cc);
          one = λ other is. let same : slot ≡ other = ap (first_slot slot) (sym one ∙ is) in
              subst (λ (k : ℕ). (v : Gv) × (k < me'.0.sizes.slots) × IsValueCode v
              × (me'.0.fractions.owns ≡ record { slot = k; shared = shared; value = v } ∷ [])) same (
                value,
                subst (λ (m : SeatState). slot < m.0.sizes.slots) (sym b.3) b.1,
                b.2,
                ap (λ (m : SeatState). m.0.fractions.owns) b.3,
              );
        },
      ))
      (λ (none : held_slots found ≡ []). let is = brings.0 none in (
        [],
        is ∙ (λ d. (holding (sym none d) [] (noting cell y me.0), me.1)),
        record {
          owns = ap (λ (m : SeatState). m.0.slots.owns) is ∙ sym none;
          none = λ _. ap (λ (m : SeatState). m.0.fractions.owns) is;
          one = λ slot one. absurd (let no : ◌≡◌ {A = List ℕ} (slot ∷ []) [] = sym one ∙ none in cc);
        },
      )) (held_which found)

-- the right that was taken in is the only one that it has
pub rights_now : (cell : ℕ) (shared : Bool) (s a r : Seat ValueFraction View) → s.me.0.cells ≡ no_rights → a.me ≡ s.me
    → r.me.0 ≡ righted a.me.0 (right_to cell (cell_kind shared)) → r.me.0.cells.rights ≡ record { cell = cell; kind = cell_kind shared } ∷ []
rights_now cell shared s a r rights same took = ap (λ (v : View). v.cells.rights) took
    ∙ ap (λ (c : CellsView). record { cell = cell; kind = cell_kind shared } ∷ c.rights) (ap (λ (m : SeatState). m.0.cells) same ∙ rights)

-- an owner of an item of the seat's table is one still where the seat knows what it knew
pub loose_at : (s t : DomainSeat) (shared : Bool) (new : Option LooseOwner) → t.table_id ≡ s.table_id → t.me ≡ s.me → AreLoose (facts_at s) shared new
    → AreLoose (facts_at t) shared new
loose_at s t shared new home same = subst (λ (b : TableFacts). AreLoose b shared new) (sym (same_facts s t home (
  ap (λ (m : SeatState). m.0.sizes) same,
  ap (λ (m : SeatState). m.0.fractions.gamma) same,
)))

-- the owner that was taken up, of a domain whose table is this
module _ (b : TableFacts) (v : View) (knows : v.sizes ≡ sizes_of b) (shared : Bool) where
  pub new_kind : (new : Option LooseOwner) (r : ShownValue) → HasRecord (told_of shared new) r → r.shared ≡ shared
  new_kind None r has = absurd (has_none r [] refl has)
  new_kind (Some o) r has = let first : ShownValue = record { slot = o.slot; shared = shared; value = o.read_fraction.shown } in
      ⊎_elim (λ (e : first ≡ r). ap (λ (x : ShownValue). x.shared) (sym e)) (λ (no : HasRecord [] r). absurd (has_none r [] refl no)) (has_first first [] r has)
