-- Once all places have ended, all fractions lie in their homes.
use Rattle.std.proofs.Common.{ℕ, suc, ◌*◌, ◌<◌, ◌≤◌, List, false, sym, ◌∙◌, subst, mul-le-mul_right, arith}
use Rattle.std.proofs.lemmas.List.{get_or_past}
use mathlib.Core.Logic.{dite}
use native.Mathlib.Decide.{dec_lt}
use Rattle.core.specs.Mem.Slots.{slots_items, slots_filled, slots_len, slots_counts, IsFull}
use Rattle.atomic_table.specs.Table.{State, Final, Seen}
use Rattle.atomic_table.specs.declared.owned.Closed.{Closed}
use Rattle.sdd_shared_values.specs.declared.value_fraction.ValueFraction.{ValueFraction}
use Rattle.sdd_rights.specs.declared.views.View.{View}
use Rattle.sdd_rights.specs.declared.views.Sizes.{Sizes}
use Rattle.sdd_domain_invariant.specs.Fractions.FractionsAtHome.{fraction_at, homes_for, share, away, full_at, Has, MatchesSlotWord, AreHome}
use Rattle.sdd_domain_invariant.specs.DomainInvariant.{DomainInvariant}
use Rattle.sdd_domain_invariant.proofs.Seats.{all_home}

slot_low : (n m i p : ℕ) → fraction_at n i p < homes_for n m → i < m
unfolding fraction_at homes_for
slot_low n m i p low = dite (dec_lt i m) (λ l. l) (λ past. let le : m ≤ i = omega arith in let a : m * suc n ≤ i * suc n = mul-le-mul_right (suc n) le in
    absurd (omega arith))

pub home_at_end : (γ : ℕ) (sizes : Sizes) {A : Type 0} (closed : Closed ValueFraction A) (id : ℕ) (v : View) → sizes.participants ≤ v.places.ended
    → Final (Seen (DomainInvariant γ sizes) id v) (slots_items closed.words) (slots_items closed.slots) → IsFull closed.slots
    → AreHome γ sizes (slots_len closed.slots) closed
home_at_end γ sizes closed id v all fin full = let n : ℕ = sizes.participants in let s : State ValueFraction View = fin.0 in let h = fin.1.0 in
    let long = fin.3 in
    let deep = h.homes.deep in record {
      laid = record {
        long = sym long ∙ deep;
        each = λ i p near low. let inside = slot_low n sizes.slots i p low in let a = all_home γ sizes s h id v fin.1.1 all i p inside near in (
          a.0,
          fin.4 (fraction_at n i p) a.0 a.1,
          subst (λ (ws : List ℕ). Has γ i (share n (away n (full_at sizes ws i)) p) (MatchesSlotWord
              (full_at sizes ws i)) a.0) fin.2 a.2,
        );
      };
      low = omega arith;
      here = λ j low. full j (omega arith) low;
      gone = λ j past. get_or_past (slots_filled closed.slots) j false (let c = (slots_counts closed.slots).1 in omega arith);
    }
