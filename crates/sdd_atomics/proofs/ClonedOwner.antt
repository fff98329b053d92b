-- One owner more beside the seat of one of several: what it asks for, and what it leaves
use Rattle.std.proofs.Common.{◌≡◌, ℕ, zero, suc, ◌+◌, ◌-◌, ◌^◌, ◌%◌, ◌<◌, ◌≤◌, Bool, true, List, [], ◌∷◌, length, get_or, set, sym, refl, ap, ◌∙◌, subst, arith, get_or-set_same}
use Rattle.std.proofs.lemmas.List.{set-set, set-get_or}
use Rattle.std.specs.Prelude.{Some, None}
use mathlib.Core.Logic.{dite}
use native.Mathlib.Decide.{dec_lt}
use base.Stored.{Gv}
use Rattle.atomic_table.specs.Table.{Allows, carried_after}
use Rattle.sdd_shared_values.specs.Bank.{Leaves, AllowsDeal}
use Rattle.sdd_witness.specs.Ledger.{Pledge}
use Rattle.sdd_rights.specs.declared.views.View.{View}
use Rattle.sdd_rights.specs.declared.views.Sizes.{Sizes}
use Rattle.sdd_rights.specs.contracts.views.View.{the_row}
use Rattle.sdd_rights.specs.Views.{owner_of}
use Rattle.sdd_domain_invariant.specs.Words.{slot_word}
use Rattle.sdd_domain_invariant.specs.Codes.{alive, counted, shared_base}
use Rattle.sdd_domain_invariant.specs.Epoch.{HasPlace, IsLone}
use Rattle.sdd_domain_invariant.specs.Slots.{Holds}
use Rattle.sdd_domain_invariant.specs.Slots.SlotSteps.{one_more, taken_back, behind, noted}
use Rattle.sdd_domain_invariant.proofs.Codes.{shared, counted_is}
use Rattle.sdd_domain_invariant.specs.Fractions.BankInvariant.{IsBank, banked}
use Rattle.sdd_domain_invariant.specs.DomainInvariant.{DomainInvariant}
use Rattle.sdd_domain_invariant.specs.Slots.FilledInvariant.{HasRecord}
use Rattle.sdd_domain_invariant.specs.Fractions.PledgesInvariant.{pledging, freeing}
use Rattle.sdd_domain_invariant.specs.Fractions.FractionSteps.{SeatState, AddsOne, TakesOneBack, DrawsUnit, OfSlot, owning_more, untold}
use Rattle.sdd_domain_invariant.proofs.Slots.ClonedOwners as cloning
use Rattle.sdd_atomics.specs.Clones.{most_word, HasPledged, AddsPledged, HasAdded, ClonesOne}
use Rattle.sdd_atomics.proofs.Allowed.{owner_told}

abbrev first_of : Pledge → List Pledge → Pledge
first_of p [] = p
first_of p (q ∷ qs) = q

-- a pledge is of one owner's view
one_pledge : (v : View) (slot other : ℕ) (value another : Gv) → HasPledged v slot value → HasPledged v other another
    → owner_of slot true value ≡ owner_of other true another
one_pledge v slot other value another a b = let same : a.0 ≡ b.0 = ap (first_of a.0) (sym a.1 ∙ b.1) in
    the_row.coded.inj (owner_of slot true value) (owner_of other true another) (sym a.2 ∙ (ap (λ (p : Pledge). p.view) same ∙ b.2))

-- a count is at the bound or past it as its word is
counts_at : (x : ℕ) → counted x ≡ 1 → alive x + shared_base ≡ x
counts_at x several = let a = counted_is x several in let c = (shared x a).0 in omega arith

-- what is written past the end isn't there
set_past : (l : List ℕ) (i y : ℕ) → length l ≤ i → set l i y ≡ l
set_past [] i y low = refl
set_past (x ∷ xs) zero y low = absurd (omega arith)
set_past (x ∷ xs) (suc i) y low = ap (λ (l : List ℕ). x ∷ l) (set_past xs i y (omega arith))

module _ (γ : ℕ) (sizes : Sizes) (slots id : ℕ) (me : SeatState) (same : me.0.sizes ≡ sizes) (gamma : me.0.fractions.gamma ≡ γ) (live : HasPlace me.0.epoch)
    (rests : me.0.fractions.moves ≡ None) (places : sizes.participants ≤ 1024) (slot : ℕ) (inside : slot < sizes.slots) where
  few_places : me.0.sizes.participants ≤ 1024
  few_places = let e = ap (λ (z : Sizes). z.participants) same in omega arith

  within : slot < me.0.sizes.slots
  within = let e = ap (λ (z : Sizes). z.slots) same in omega arith

  module _ (i : ℕ) (is : i ≡ slot_word sizes slot) where
    there : i ≡ slot_word me.0.sizes slot
    there = is ∙ ap (λ (z : Sizes). slot_word z slot) (sym same)

    as_known : (f : ℕ → ℕ) (told : ℕ → ℕ → SeatState → Type 0)
        → Allows (DomainInvariant me.0.fractions.gamma me.0.sizes) slots id me (slot_word me.0.sizes slot) f (told (slot_word me.0.sizes slot))
        → Allows (DomainInvariant γ sizes) slots id me i f (told i)
    as_known f told = subst (λ (t : ℕ × Sizes × ℕ). Allows (DomainInvariant t.0 t.1) slots id me t.2 f (told t.2)) (λ d. (gamma d, same d, sym there d))

    pub may_add : (value : Gv) → HasPledged me.0 slot value → me.0.slots.over ≡ None
        → Allows (DomainInvariant γ sizes) slots id me i (λ n. (n + 1) % 2 ^ 64) (AddsPledged i me)
    may_add value has none = as_known (λ n. (n + 1) % 2 ^ 64) (λ j. AddsPledged j me) (λ s h long at small.
        let a = cloning.adds slots id me live slot within rests few_places value has.0 has.1 has.2 none s h long at small in (
          a.0,
          a.1,
          a.2,
          a.3,
          λ other another where_is had. let e = one_pledge me.0 slot other value another has had in
              owner_told slot other true true value another e
              (λ k _ g. AddsOne g k me (get_or s.words (slot_word me.0.sizes slot) 0) (a.0, carried_after me.1 a.1))
              (a.4 slot refl),
        ))

    pub may_take_back : (value : Gv) → HasPledged me.0 slot value → me.0.slots.owns ≡ slot ∷ [] → me.0.slots.drawn ≡ [] → me.0.slots.over ≡ Some slot
        → Allows (DomainInvariant γ sizes) slots id me i (λ n. (n + (2 ^ 64 - 1)) % 2 ^ 64) (OfSlot TakesOneBack i me)
    may_take_back value has owns empty over = as_known (λ n. (n + (2 ^ 64 - 1)) % 2 ^ 64) (λ j. OfSlot TakesOneBack j me)
        (cloning.takes_back slots id me live slot within rests few_places value has.0 has.1 has.2 owns empty over)

  pub may_draw : (bd : ℕ) (shared : Bool) (value : Gv) → HasRecord me.0.fractions.owns (record { slot = slot; shared = shared; value = value })
      → ¬ (Holds me.0 slot) → me.0.slots.drawn ≡ []
      → AllowsDeal (DomainInvariant γ sizes) Leaves IsBank banked slots id me bd (λ _. Unit {0}) (DrawsUnit slot me)
  may_draw bd shared value told free empty =
      subst (λ (t : ℕ × Sizes). AllowsDeal (DomainInvariant t.0 t.1) Leaves IsBank banked slots id me bd (λ _. Unit {0}) (DrawsUnit slot me))
      (λ d. (gamma d, same d)) (cloning.draws_unit slots id me live slot within rests few_places shared value told free empty bd)

-- what the pledge makes possible, and what it leaves
module _ (me : SeatState) (p : Pledge) (slot : ℕ) (value : Gv) (is : p.view ≡ the_row.coded.code (owner_of slot true value)) where
  abbrev with_pledge : SeatState
  with_pledge = (pledging me.0 p, me.1)

  has_it : HasPledged with_pledge.0 slot value
  has_it = (p, refl, is)

  -- past the bound it has one owner of the slot, to be taken back
  pub passed : (i : ℕ) → i ≡ slot_word me.0.sizes slot → (n : ℕ) (u : SeatState) → AddsPledged i with_pledge n u → most_word ≤ n
      → u ≡ (owning_more slot value (one_more slot (n + 1) (Some slot) with_pledge.0), me.1)
  passed i where_is n u adds many = let a = adds slot value where_is has_it in let c = counts_at n a.0 in a.3 (omega arith)

  pub stays : (i : ℕ) → i ≡ slot_word me.0.sizes slot → (n : ℕ) (u : SeatState) → HasAdded i with_pledge n u → u.0.pledges.own ≡ p ∷ []
  stays i where_is n u done = dite (dec_lt n most_word)
      (λ fewer. let a = done.0 fewer slot value where_is has_it in let c = counts_at n a.0 in ap (λ (m : SeatState). m.0.pledges.own) (a.2 (omega arith)))
      (λ many. let d = done.1 (omega arith) in let e = passed i where_is n d.0 d.2 (omega arith) in
      let t = d.3 slot (where_is ∙ ap (λ (m : SeatState). slot_word m.0.sizes slot) (sym e)) in
      ap (λ (m : SeatState). m.0.pledges.own) t.0 ∙ ap (λ (m : SeatState). m.0.pledges.own) e)

  -- once the pledge is taken out, there is one owner more, or it is as it was
  module _ (bare : me.0.pledges.own ≡ []) (over : me.0.slots.over ≡ None) (told : me.0.fractions.owns ≡ []) where
    pub cloned : (i : ℕ) → i ≡ slot_word me.0.sizes slot → (n : ℕ) (u after : SeatState) → HasAdded i with_pledge n u → after ≡ (freeing u.0, u.1)
        → ClonesOne value slot me n after
    cloned i where_is n u after done freed = dite (dec_lt n most_word)
        (λ fewer. let a = done.0 fewer slot value where_is has_it in let c = counts_at n a.0 in let e = a.2 (omega arith) in record {
          several = a.0;
          left = a.1;
          comes = λ _. freed ∙ (ap (λ (m : SeatState). (freeing m.0, m.1)) e
              ∙ ap (λ (l : List Pledge). (
                owning_more slot value (one_more slot (n + 1) None (record me.0 { pledges = record me.0.pledges { own = l } })),
                me.1,
              )) (sym bare));
          refused = λ many. absurd (omega arith);
          lone = λ many. absurd (omega arith);
          knew = a.4;
        })
        (λ many. let d = done.1 (omega arith) in let e = passed i where_is n d.0 d.2 (omega arith) in
        let a = d.2 slot value where_is has_it in let c = counts_at n a.0 in
        let t = d.3 slot (where_is ∙ ap (λ (m : SeatState). slot_word m.0.sizes slot) (sym e)) in
        let k : ℕ = behind me.0.sizes slot in let z : ℕ = d.1 - 1 in
        let before : SeatState → SeatState = λ m. (untold (taken_back slot z m.0), m.1) in
        let back : u ≡ before (owning_more slot value (one_more slot (n + 1) (Some slot) with_pledge.0), me.1) = t.0 ∙ ap before e in
        let after_is : after ≡ (record me.0 { words = noted slot z me.0 }, me.1) = freed ∙ (ap (λ (m : SeatState). (freeing m.0, m.1)) back ∙ (λ j. (
          record me.0 {
            fractions = record me.0.fractions { owns = sym told j };
            slots = record me.0.slots { over = sym over j };
            pledges = record me.0.pledges { own = sym bare j };
            words = set-set me.0.words k (n + 1) z j;
          },
          me.1,
        ))) in record {
          several = a.0;
          left = a.1;
          comes = λ fewer. absurd (omega arith);
          refused = λ _. (z, after_is);
          lone = λ _ one. let x = a.4 one in dite (dec_lt k (length me.0.words))
              (λ low. let y : d.1 ≡ n + 1 = t.1 (subst (λ (m : SeatState). IsLone m.0.epoch) (sym e) one)
              ∙ (ap (λ (m : SeatState). get_or m.0.words (behind m.0.sizes slot) 0) e ∙ get_or-set_same me.0.words k (n + 1) 0 low) in
              let w : noted slot z me.0 ≡ me.0.words = ap (λ (m : ℕ). set me.0.words k m) (let q : z ≡ n = omega arith in q ∙ x) ∙ set-get_or me.0.words k 0 in
              after_is ∙ ap (λ (l : List ℕ). (record me.0 { words = l }, me.1)) w)
              (λ high. after_is ∙ ap (λ (l : List ℕ). (record me.0 { words = l }, me.1)) (set_past me.0.words k z (omega arith)));
          knew = a.4;
        })

-- past the bound it may be taken back
pub may_undo : (γ : ℕ) (sizes : Sizes) (slots id : ℕ) (me : SeatState) → me.0.sizes ≡ sizes → me.0.fractions.gamma ≡ γ → HasPlace me.0.epoch
    → me.0.fractions.moves ≡ None → sizes.participants ≤ 1024 → (slot : ℕ) → slot < sizes.slots → (i : ℕ) → i ≡ slot_word sizes slot → (value : Gv) (p : Pledge)
    → p.view ≡ the_row.coded.code (owner_of slot true value) → me.0.slots.owns ≡ [] → me.0.slots.drawn ≡ [] → (n : ℕ) (u : SeatState)
    → AddsPledged i (pledging me.0 p, me.1) n u → most_word ≤ n
    → Allows (DomainInvariant γ sizes) slots id u i (λ k. (k + (2 ^ 64 - 1)) % 2 ^ 64) (OfSlot TakesOneBack i u)
may_undo γ sizes slots id me same gamma live rests places slot inside i is value p shows owns drawn n u adds many =
    let then : SeatState = (owning_more slot value (one_more slot (n + 1) (Some slot) (pledging me.0 p)), me.1) in
    let e : u ≡ then = passed me p slot value shows i (is ∙ ap (λ (z : Sizes). slot_word z slot) (sym same)) n u adds many in
    subst (λ (m : SeatState). Allows (DomainInvariant γ sizes) slots id m i (λ k. (k + (2 ^ 64 - 1)) % 2 ^ 64) (OfSlot TakesOneBack i m)) (sym e)
    (may_take_back γ sizes slots id then same gamma live rests places slot inside i is value (p, refl, shows) (ap (λ (l : List ℕ). slot ∷ l) owns) drawn refl)
