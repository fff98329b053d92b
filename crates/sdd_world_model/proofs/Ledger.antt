-- Each call keeps the ledger, and what a ledger tells
use Rattle.std.proofs.Common.{◌≡◌, ◌≢◌, inl, inr, ℕ, ◌+◌, ◌<◌, ◌≤◌, Bool, true, false, List, length, Option, Some, None, IsSome, is_some, cond, sum_by, refl, sym, ap, ◌∙◌, arith}
use Rattle.std.specs.Prelude.{◌==◌, ◌-◌, IfSome}
use Rattle.std.proofs.lemmas.List.{length-set, get_or-set_other}
use Rattle.std.proofs.lemmas.List.Sums.{sum_by-set}
use Rattle.std.proofs.lemmas.Bool.Decides.{nat_tests}
use Rattle.sdd_participants.proofs.Adoptions.{same-or-not}
use Rattle.sdd_participants.specs.Slab.{Entries, IsEmptyAt, entry_at, with_entry, without_entry}
use Rattle.sdd_participants.specs.EpochState.{EpochState}
use Rattle.sdd_participants.specs.EpochState as time
use Rattle.sdd_participants.specs.declared.standing.CellContents.{CellContents}
use Rattle.sdd_participants.specs.declared.standing.Standing.{Standing}
use Rattle.sdd_participants.specs.declared.standing.Standing.TheVariants.{Owned, Raw, Shared, Retired, Private as privately}
use Rattle.sdd_participants.specs.declared.waiting.LimboEntry.TheVariants.{Item}
use Rattle.sdd_world_model.specs.OwnerCounts.{IsAccounted, owner_count, holds_slot, is_of, times_held}
use Rattle.sdd_world_model.specs.WorldStep.{WorldStep}
use Rattle.sdd_world_model.specs.Collecting.{collector_closed, waiting_for, without_collector}
use Rattle.sdd_world_model.specs.OwnerOrCell.{OwnerOrCell}
use Rattle.sdd_world_model.specs.InPlace.{IsAlone, MayInPlace}
use Rattle.sdd_world_model.specs.Ledger.{Claim, owner_of, right_to, nothing, owner_held, claims, times_kept, needed, inside, IsLedger, Moves, Sets, put, Keeps, CallsBeside, IsStill, StaysMine, Tells, HasOwners, LedgerLaws}
use Rattle.sdd_world_model.specs.Ledger.CallsBeside.{no_call, one_call}
use Rattle.sdd_world_model.specs.Ledger.Moves.{registers, ends, opens, closes, stirs, accelerates, defers, changes_pointers, makes, shares, retires, releases, collects, drops, puts_out_raw, takes_back_raw, edits, makes_cell, changes_cell, spends_cell, closes_cell, closes_collector}
use Rattle.sdd_world_model.specs.Out.{IsNullCell}
use Rattle.sdd_world_model.specs.WorldChanges.{held_in, with_cell, with_value}
use Rattle.sdd_world_model.specs.WorldInvariant.{IsWhole, once_if}
use Rattle.sdd_world_model.specs.World.{World, IsBlank, standing_at, value_at}
use Rattle.sdd_world_model.proofs.OwnerCounts.{none-filled, filled-inside, blank-at, blank-sum, fewer, cell-inner, sum-out, accounted-out, accounted-blank, accounted-owner_given, accounted-with_cell, accounted-without_cell, accounted-cell_closed, accounted-all_reclaimed, accounted-opened, accounted-dropped, accounted-with_value, accounted-made_as, accounted-shared, accounted-put_out_raw, accounted-taken_back_raw}
use Rattle.sdd_world_model.proofs.ReclaimBound.{Whole-called}
use Rattle.sdd_world_model.proofs.CellRights.{AreHeld, once-where, there-inside, held-as, held-cell_made, held-cell_changed, held-cell_spent, held-owner_given, held-cell_closed, held-dropped_out, held-all_reclaimed, held-opened, held-with_value}
use Rattle.sdd_world_model.proofs.SameOrGone.{Sheds, sheds-same, sheds-cell, sheds-owner_given, sheds-cell_closed, sheds-dropped, sheds-opened, sheds-collector_closed, sheds-inside}
use Rattle.sdd_world_model.proofs.Standings.{out-some, alone-out, out-inside}
use Rattle.sdd_world_model.proofs.WorldInvariant.{one_where, filled-there}

-- what a cell holds, as slot j and as cell c count it
held-where : (j : ℕ) (held : Option ℕ) → owner_held held (owner_of j) ≡ one_where (is_of j held)
held-where j None = refl
held-where j (Some k) = once-where (k == j)

held-no_right : (c : ℕ) (held : Option ℕ) → owner_held held (right_to c) ≡ 0
held-no_right c None = refl
held-no_right c (Some k) = refl

once-some : (b : Bool) → 1 ≤ once_if b → b ≡ true
once-some true l = refl
once-some false l = absurd (omega (arith, l))

same-count : (k : ℕ) → once_if (k == k) ≡ 1
same-count k = grind (arith, nat_tests)

alone-count : (s : Option Standing) → IsAlone s → owner_count s ≡ 1
alone-count s (inl e) = ap owner_count e
alone-count s (inr e) = ap owner_count e

has-owners : (n : ℕ) (s : Option Standing) → 1 ≤ n → n ≡ owner_count s → HasOwners n s
has-owners n None l e = absurd (omega (arith, l, e))
has-owners n (Some Owned) l e = inl (refl, e)
has-owners n (Some Raw) l e = absurd (omega (arith, l, e))
has-owners n (Some (Shared m)) l e = inr (m, refl, e)
has-owners n (Some Retired) l e = absurd (omega (arith, l, e))
has-owners n (Some (privately c)) l e = absurd (omega (arith, l, e))

some-value : {T : Type 0} (v : Option T) → is_some v ≡ true → (u : T) × (v ≡ Some u)
some-value None e = absurd (cc)
some-value (Some u) e = (u, refl)

module _ {T : Type 0} (holds : T → List OwnerOrCell) where
  -- ---- what is so before a call
  there-value : (w : World T) (k : ℕ) → IsWhole w → is_some (standing_at w k) ≡ true → (u : T) × (value_at w k ≡ Some u)
  there-value w k i some = some-value (value_at w k) (filled-there w k i.filled ∙ some)

  alone-value : (w : World T) (k : ℕ) → IsWhole w → MayInPlace w k → (u : T) × (value_at w k ≡ Some u)
  alone-value w k i may = there-value w k i (out-some (standing_at w k) (alone-out (standing_at w k) may.alone))

  alone-within : (w : World T) (k : ℕ) → IsWhole w → MayInPlace w k → k < length w.values
  alone-within w k i may =
      filled-inside w.values w.standings k i.filled (out-inside w.standings k (alone-out (standing_at w k) may.alone))

  free-value : (w : World T) (k : ℕ) → IsWhole w → IsEmptyAt w.standings k → value_at w k ≡ None
  free-value w k i empty = none-filled (value_at w k) (filled-there w k i.filled ∙ ap is_some empty.1)

  -- a move is a call
  called : {v w : World T} {ins outs : Claim → ℕ} → Moves holds v ins w outs → WorldStep holds v w
  called (registers w p vacant) = WorldStep.registers w p vacant
  called (ends w p l shut) = WorldStep.ends w p l shut
  called (opens w p l) = WorldStep.opens w p l
  called (closes w p l) = WorldStep.closes w p l
  called (stirs w p l) = WorldStep.stirs w p l
  called (accelerates w p l) = WorldStep.accelerates w p l
  called (defers w p j l empty) = WorldStep.defers w p j l empty
  called (changes_pointers w pointers same) = WorldStep.changes_pointers w pointers same
  called (makes w k value s first empty) = WorldStep.makes w k value s first empty
  called (shares w k n is) = WorldStep.shares w k n is.shared
  called (retires w p k l is) = WorldStep.retires w p k l is
  called (releases w p k n l is) = WorldStep.releases w p k n l is
  called (collects w p c k l alone) = WorldStep.collects w p c k l alone
  called (drops w p k l may) = WorldStep.drops w p k l may
  called (puts_out_raw w k is) = WorldStep.puts_out_raw w k is
  called (takes_back_raw w k is) = WorldStep.takes_back_raw w k is
  called (edits w k old value may is) = WorldStep.edits w k value may
  called (makes_cell w c cell free) = WorldStep.changes_cells w (with_entry w.cells c cell) (length-set w.cells c (Some cell))
  called (changes_cell w c old cell is) = WorldStep.changes_cells w (with_entry w.cells c cell) (length-set w.cells c (Some cell))
  called (spends_cell w c old is) = WorldStep.changes_cells w (without_entry w.cells c) (length-set w.cells c None)
  called (closes_cell w p c l) = WorldStep.closes_cell w p c l
  called (closes_collector w p c l quiet null) = WorldStep.closes_collector w p c l quiet

  -- ---- the ledger of owners
  null-none : (w : World T) (c j : ℕ) → IsNullCell w c → one_where (holds_slot j (entry_at w.cells c)) ≡ 0
  null-none w c j null = ap (λ (x : Option CellContents). one_where (holds_slot j x)) null.1 ∙ ap (λ (h : Option ℕ). one_where (is_of j h)) null.2

  owners-collector_closed : (w : World T) (p c : ℕ) (outside : ℕ → ℕ) → IsNullCell w c → IsAccounted holds outside w →
      IsAccounted holds outside (collector_closed holds w p c)
  owners-collector_closed w p c outside null a =
      accounted-all_reclaimed holds p outside (without_collector w c) (waiting_for w c)
      (accounted-without_cell holds w c outside outside (λ j. omega (arith, null-none w c j null)) a)

  owners : {v w : World T} {ins outs : Claim → ℕ} → Moves holds v ins w outs → IsWhole v → (others : ℕ → ℕ) →
      IsAccounted holds (λ k. others k + ins (owner_of k)) v → IsAccounted holds (λ k. others k + outs (owner_of k)) w
  owners (registers w p vacant) i others a = a
  owners (ends w p l shut) i others a = a
  owners (opens w p l) i others a = accounted-opened holds p (λ k. others k + 0) w a
  owners (closes w p l) i others a = a
  owners (stirs w p l) i others a = a
  owners (accelerates w p l) i others a = a
  owners (defers w p j l empty) i others a = a
  owners (changes_pointers w pointers same) i others a = a
  owners (makes w k value s first empty) i others a =
      accounted-made_as holds w k value s _ _ i.filled empty first (λ j. omega (arith, once-where (k == j))) a
  owners (shares w k n is) i others a = accounted-shared holds w k n _ _ is.shared is.some (λ j. omega (arith, once-where (k == j))) a
  owners (retires w p k l is) i others a =
      accounted-owner_given holds w p k _ _ (λ j. omega (arith, once-where (k == j))) a (Some Owned) is
  owners (releases w p k n l is) i others a =
      accounted-owner_given holds w p k _ _ (λ j. omega (arith, once-where (k == j))) a (Some (Shared n)) is
  owners (collects w p c k l alone) i others a =
      fewer holds w (time.awaiting_at w.time p (Item k)) k (Some (privately c)) _ _
      (out-inside w.standings k (alone-out (standing_at w k) alone)) (alone-count (standing_at w k) alone) (λ j. omega (arith, once-where (k == j))) a
  owners (drops w p k l may) i others a =
      let value = alone-value w k i may in
      accounted-dropped holds w p k value.0 _ _ (alone-count (standing_at w k) may.alone) value.1 (λ j. omega (arith, once-where (k == j))) a
  owners (puts_out_raw w k is) i others a = accounted-put_out_raw holds w k _ _ is (λ j. omega (arith, once-where (k == j))) a
  owners (takes_back_raw w k is) i others a = accounted-taken_back_raw holds w k _ _ is (λ j. omega (arith, once-where (k == j))) a
  owners (edits w k old value may is) i others a =
      accounted-with_value holds w k value _ _ (alone-within w k i may) (λ j. omega (arith, ap (times_held holds j) is)) a
  owners (makes_cell w c cell free) i others a =
      accounted-with_cell holds w c cell _ _ free.0
      (λ j. omega (arith, held-where j cell.held, ap (λ (x : Option CellContents). one_where (holds_slot j x)) free.1)) a
  owners (changes_cell w c old cell is) i others a =
      accounted-with_cell holds w c cell _ _ (there-inside w.cells c (ap is_some is))
      (λ j. omega (arith, held-where j cell.held, held-where j old.held, ap (λ (x : Option CellContents). one_where (holds_slot j x)) is)) a
  owners (spends_cell w c old is) i others a =
      accounted-without_cell holds w c _ _ (λ j. omega (arith, held-where j old.held, ap (λ (x : Option CellContents). one_where (holds_slot j x)) is)) a
  owners (closes_cell w p c l) i others a = accounted-cell_closed holds w p c (λ k. others k + 0) a
  owners (closes_collector w p c l quiet null) i others a = owners-collector_closed w p c (λ k. others k + 0) null a

  -- ---- the ledger of rights
  rights : {v w : World T} {ins outs : Claim → ℕ} → Moves holds v ins w outs → IsWhole v → (others : ℕ → ℕ) →
      AreHeld holds (λ c. others c + ins (right_to c)) v → AreHeld holds (λ c. others c + outs (right_to c)) w
  rights (registers w p vacant) i others a = a
  rights (ends w p l shut) i others a = a
  rights (opens w p l) i others a = held-opened holds p (λ c. others c + 0) w a
  rights (closes w p l) i others a = a
  rights (stirs w p l) i others a = a
  rights (accelerates w p l) i others a = a
  rights (defers w p j l empty) i others a = a
  rights (changes_pointers w pointers same) i others a = a
  rights (makes w k value s first empty) i others a =
      held-with_value holds w k value _ _ (filled-inside w.values w.standings k i.filled empty.0)
      (λ j. omega (arith, ap (times_kept holds j) (free-value w k i empty))) a
  rights (shares w k n is) i others a = a
  rights (retires w p k l is) i others a = a
  rights (releases w p k n l is) i others a = held-owner_given holds w p k (Some (Shared n)) (λ c. others c + 0) is a
  rights (collects w p c k l alone) i others a = a
  rights (drops w p k l may) i others a = held-dropped_out holds p (λ c. others c + 0) w k (value_at w k) refl a
  rights (puts_out_raw w k is) i others a = a
  rights (takes_back_raw w k is) i others a = a
  rights (edits w k old value may is) i others a =
      held-with_value holds w k value _ _ (alone-within w k i may) (λ j. omega (arith, ap (times_kept holds j) is)) a
  rights (makes_cell w c cell free) i others a = held-cell_made holds w c cell _ _ free (λ j. omega (arith, held-no_right j cell.held)) a
  rights (changes_cell w c old cell is) i others a =
      held-as holds _ _ (with_cell w c cell) (λ j. omega (arith, held-no_right j old.held, held-no_right j cell.held))
      (held-cell_changed holds w c cell _ (ap is_some is) a)
  rights (spends_cell w c old is) i others a = held-cell_spent holds w c _ _ (λ j. omega (arith, held-no_right j old.held)) a
  rights (closes_cell w p c l) i others a = held-cell_closed holds w p c _ _ (λ j. omega arith) a
  rights (closes_collector w p c l quiet null) i others a =
      held-all_reclaimed holds p (λ d. others d + 0) (without_collector w c) (waiting_for w c)
      (held-cell_spent holds w c _ (λ d. others d + 0) (λ j. omega arith) a)

  ledger-kept : {v w : World T} {ins outs : Claim → ℕ} → Moves holds v ins w outs → IsWhole v → (others : Claim → ℕ) →
      IsLedger holds (λ u. others u + ins u) v → IsLedger holds (λ u. others u + outs u) w
  ledger-kept move i others a (owner_of k) = owners move i (λ j. others (owner_of j)) (λ j. a (owner_of j)) k
  ledger-kept move i others a (right_to c) = rights move i (λ d. others (right_to d)) (λ d. a (right_to d)) c

  -- ---- what a ledger tells
  -- an item with an owner has its value
  owned-there : (w : World T) (outside : Claim → ℕ) (k : ℕ) → IsWhole w → IsLedger holds outside w → 1 ≤ outside (owner_of k) + inside holds w (owner_of k) →
      value_at w k ≢ None
  owned-there w outside k i a some none =
      let out = accounted-out holds w k (λ j. outside (owner_of j)) (λ j. a (owner_of j)) some in
      let there = filled-there w k i.filled ∙ out-some (standing_at w k) out in
      let never : false ≡ true = sym (ap is_some none) ∙ there in absurd (cc)

  -- a cell to which there is a right is taken
  right-there : (w : World T) (outside : Claim → ℕ) (c : ℕ) → IsLedger holds outside w → 1 ≤ outside (right_to c) + inside holds w (right_to c) →
      IsSome (entry_at w.cells c)
  right-there w outside c a some = once-some (is_some (entry_at w.cells c)) (omega (arith, a (right_to c), some))

  in-cell : (w : World T) (c k : ℕ) → held_in (entry_at w.cells c) ≡ Some k → 1 ≤ inside holds w (owner_of k)
  in-cell w c k is = omega (arith, cell-inner holds w c k is)

  in-value : (w : World T) (k : ℕ) (value : T) → value_at w k ≡ Some value → (u : Claim) → claims (holds value) u ≤ inside holds w u
  in-value w k value is (owner_of j) =
      omega (arith, ap (times_held holds j) is, sum-out (times_held holds j) refl w.values k)
  in-value w k value is (right_to c) = omega (arith, ap (times_kept holds c) is, sum-out (times_kept holds c) refl w.values k)

  ledger-tells : (w : World T) (outside : Claim → ℕ) → IsLedger holds outside w → Tells holds outside w
  ledger-tells w outside a = record {
    alone = λ c some.
        let there = right-there w outside c a (omega (arith, some)) in
        let needs : once_if (is_some (entry_at w.cells c)) ≡ 1 = ap once_if there in
        (there, omega (arith, needs, some, a (right_to c)), omega (arith, needs, some, a (right_to c)));
    shared = λ k n is. omega (arith, a (owner_of k), ap owner_count is.shared, is.some);
    stands = λ k some. has-owners _ (standing_at w k) some (sym (a (owner_of k)));
    owned = λ k is. omega (arith, a (owner_of k), ap owner_count is);
    free = λ k is.
        let none : owner_count (standing_at w k) ≡ 0 = ap owner_count is in
        (omega (arith, none, a (owner_of k)), omega (arith, none, a (owner_of k)));
    in_cell = λ c k is. in-cell w c k is;
    in_value = λ k value is u. in-value w k value is u;
  }

  -- a world without items
  ledger-blank : (w : World T) (t : EpochState) (slots cells jobs : ℕ) → IsBlank t slots cells jobs w → IsLedger holds nothing w
  ledger-blank w t slots cells jobs blank (owner_of k) = accounted-blank holds w t slots cells jobs blank k
  ledger-blank w t slots cells jobs blank (right_to c) =
      let free = ap (λ (cs : Entries CellContents). once_if (is_some (entry_at cs c))) blank.cells
      ∙ ap (λ (x : Option CellContents). once_if (is_some x)) (blank-at cells c) in
      let none = blank-sum (times_kept holds c) refl slots in
      let values = ap (λ (vs : List (Option T)). sum_by (times_kept holds c) vs) blank.values ∙ none in
      omega (arith, free, values)

  -- ---- what comes inside
  set-inside : (w : World T) (k : ℕ) (value : T) → k < length w.values → (u : Claim) →
      inside holds (with_value w k value) u ≤ inside holds w u + claims (holds value) u
  set-inside w k value l (owner_of j) = omega (arith, sum_by-set (times_held holds j) w.values k (Some value) None l)
  set-inside w k value l (right_to c) = omega (arith, sum_by-set (times_kept holds c) w.values k (Some value) None l)

  cell-inside : (w : World T) (c : ℕ) (cell : CellContents) → c < length w.cells → (u : Claim) →
      inside holds (with_cell w c cell) u ≤ inside holds w u + owner_held cell.held u
  cell-inside w c cell l (owner_of j) =
      omega (arith, held-where j cell.held, sum_by-set (λ (x : Option CellContents). cond (holds_slot j x) 1 0) w.cells c (Some cell) None l)
  cell-inside w c cell l (right_to d) = omega arith

  put-taken : {v w : World T} {ins outs : Claim → ℕ} (move : Moves holds v ins w outs) (u : Claim) → put holds move u ≤ ins u
  put-taken (makes w k value s first empty) u = omega arith
  put-taken (edits w k old value may is) u = omega arith
  put-taken (makes_cell w c cell free) u = omega arith
  put-taken (changes_cell w c old cell is) u = omega arith
  put-taken other u = omega arith

  -- ---- each call keeps it
  module _ {v w : World T} {ins outs : Claim → ℕ} (move : Moves holds v ins w outs) (i : IsWhole v) where
    whole : IsWhole w
    whole = Whole-called holds (called move) i

    -- a call that gives something up, or nothing
    shed : Sheds v w → Keeps holds move
    shed s = record {
      whole = whole;
      ledger = λ others a. ledger-kept move i others a;
      no_more = λ u. omega (arith, sheds-inside holds v w s u);
      taken = put-taken move;
      values = λ others a k some. elim (s.values k) [
        | inl same ↦ same
        | inr gone ↦ absurd (owned-there w (λ u. others u + outs u) k whole (ledger-kept move i others a) (omega (arith, some)) gone)
      ];
      cells = λ others a c some free. elim (s.cells c) [
        | inl same ↦ same
        | inr gone ↦ absurd (
            let there = right-there w (λ u. others u + outs u) c (ledger-kept move i others a) (omega (arith, some)) in
            let never : false ≡ true = sym (ap is_some gone) ∙ there in cc)
      ];
    }

  keeps : {v w : World T} {ins outs : Claim → ℕ} → (move : Moves holds v ins w outs) → IsWhole v → Keeps holds move
  keeps (registers w p vacant) i = shed (registers w p vacant) i (sheds-same w _ refl refl)
  keeps (ends w p l shut) i = shed (ends w p l shut) i (sheds-same w _ refl refl)
  keeps (opens w p l) i = shed (opens w p l) i (sheds-opened holds p w)
  keeps (closes w p l) i = shed (closes w p l) i (sheds-same w _ refl refl)
  keeps (stirs w p l) i = shed (stirs w p l) i (sheds-same w _ refl refl)
  keeps (accelerates w p l) i = shed (accelerates w p l) i (sheds-same w _ refl refl)
  keeps (defers w p j l empty) i = shed (defers w p j l empty) i (sheds-same w _ refl refl)
  keeps (changes_pointers w pointers same) i = shed (changes_pointers w pointers same) i (sheds-same w _ refl refl)
  keeps (shares w k n is) i = shed (shares w k n is) i (sheds-same w _ refl refl)
  keeps (retires w p k l is) i = shed (retires w p k l is) i (sheds-same w _ refl refl)
  keeps (releases w p k n l is) i = shed (releases w p k n l is) i (sheds-owner_given w p k (Some (Shared n)) is)
  keeps (collects w p c k l alone) i = shed (collects w p c k l alone) i (sheds-same w _ refl refl)
  keeps (drops w p k l may) i = shed (drops w p k l may) i (sheds-dropped holds p w k)
  keeps (puts_out_raw w k is) i = shed (puts_out_raw w k is) i (sheds-same w _ refl refl)
  keeps (takes_back_raw w k is) i = shed (takes_back_raw w k is) i (sheds-same w _ refl refl)
  keeps (spends_cell w c old is) i = shed (spends_cell w c old is) i (sheds-cell w c)
  keeps (closes_cell w p c l) i = shed (closes_cell w p c l) i (sheds-cell_closed w p c)
  keeps (closes_collector w p c l quiet null) i = shed (closes_collector w p c l quiet null) i (sheds-collector_closed holds p w c)
  keeps (makes w k value s first empty) i =
      let move = makes w k value s first empty in
      let more = set-inside w k value (filled-inside w.values w.standings k i.filled empty.0) in
      record {
        whole = whole move i;
        ledger = λ others a. ledger-kept move i others a;
        no_more = more;
        taken = put-taken move;
        values = λ others a j some. elim (same-or-not j k) [
          | inl e ↦ absurd (
              let free : owner_count (standing_at w j) ≡ 0 = rw e (ap owner_count empty.1) in
              omega (arith, free, a (owner_of j), more (owner_of j), some))
          | inr apart ↦ get_or-set_other w.values k j (Some value) None apart
        ];
        cells = λ others a c some free. refl;
      }
  keeps (edits w k old value may is) i =
      let move = edits w k old value may is in
      record {
        whole = whole move i;
        ledger = λ others a. ledger-kept move i others a;
        no_more = set-inside w k value (alone-within w k i may);
        taken = put-taken move;
        values = λ others a j some. elim (same-or-not j k) [
          | inl e ↦ absurd (
              let needs : owner_count (standing_at w j) ≡ 1 = rw e (alone-count (standing_at w k) may.alone) in
              let own : once_if (k == j) ≡ 1 = rw e (same-count k) in
              omega (arith, needs, own, ledger-kept move i others a (owner_of j), some))
          | inr apart ↦ get_or-set_other w.values k j (Some value) None apart
        ];
        cells = λ others a c some free. refl;
      }
  keeps (makes_cell w c cell empty) i =
      let move = makes_cell w c cell empty in
      record {
        whole = whole move i;
        ledger = λ others a. ledger-kept move i others a;
        no_more = cell-inside w c cell empty.0;
        taken = put-taken move;
        values = λ others a k some. refl;
        cells = λ others a d some free. elim (same-or-not d c) [
          | inl e ↦ absurd (
              let none : once_if (is_some (entry_at w.cells d)) ≡ 0 = rw e (ap (λ (x : Option CellContents). once_if (is_some x)) empty.1) in
              omega (arith, none, a (right_to d), some))
          | inr apart ↦ get_or-set_other w.cells c d (Some cell) None apart
        ];
      }
  keeps (changes_cell w c old cell is) i =
      let move = changes_cell w c old cell is in
      record {
        whole = whole move i;
        ledger = λ others a. ledger-kept move i others a;
        no_more = cell-inside w c cell (there-inside w.cells c (ap is_some is));
        taken = put-taken move;
        values = λ others a k some. refl;
        cells = λ others a d some free. elim (same-or-not d c) [
          | inl e ↦ absurd (free (ap right_to e))
          | inr apart ↦ get_or-set_other w.cells c d (Some cell) None apart
        ];
      }

  -- ---- calls of others, one after another
  record IsKept (mine theirs : Claim → ℕ) (old new : World T) (u : Claim) : Type 0 where
    whole : IsWhole new
    stays : StaysMine holds mine theirs old new u

  held-still : (old v w : World T) (held : Option ℕ) → ((k : ℕ) → held ≡ Some k → value_at w k ≡ value_at v k) →
      IfSome held (λ k. value_at v k ≡ value_at old k) → IfSome held (λ k. value_at w k ≡ value_at old k)
  held-still old v w None same was = was
  held-still old v w (Some k) same was = same k refl ∙ was

  held-same : (w : World T) (held : Option ℕ) → IfSome held (λ k. value_at w k ≡ value_at w k)
  held-same w None = tt
  held-same w (Some k) = refl

  still-same : (w : World T) (u : Claim) → IsStill w w u
  still-same w (owner_of k) = (refl, refl)
  still-same w (right_to c) = (refl, held-same w (held_in (entry_at w.cells c)))

  still-on : (old v w : World T) (others ins outs : Claim → ℕ) (u : Claim) (move : Moves holds v ins w outs) → Keeps holds move →
      IsLedger holds (λ x. others x + ins x) v → 1 ≤ others u → ¬ (Sets holds move u) → needed w u ≡ needed v u → IsStill old v u → IsStill old w u
  still-on old v w others ins outs (owner_of k) move keeps a some free as_many was =
      (as_many ∙ was.0, keeps.values others a k (omega (arith, some)) ∙ was.1)
  still-on old v w others ins outs (right_to c) move keeps a some free as_many was =
      let same = keeps.cells others a c (omega (arith, some)) free ∙ was.0 in (
        same,
        held-still old v w (held_in (entry_at old.cells c))
            (λ k is. keeps.values others a k (omega (arith, in-cell w c k (ap held_in same ∙ is)))) was.1,
      )

  stays : (mine : Claim → ℕ) (u : Claim) → 1 ≤ mine u → {old new : World T} {first theirs : Claim → ℕ} → CallsBeside holds u old first new theirs →
      IsWhole old → IsLedger holds (λ x. mine x + first x) old → first u ≡ 0 → inside holds old u ≡ 0 → IsKept mine theirs old new u
  stays mine u some (no_call w theirs) i a none inner =
      record { whole = i; stays = record { ledger = a; none_theirs = none; none_inside = inner; still = still-same w u } }
  stays mine u some (one_call t v w first theirs now ins outs calls move have get none_out free) i a none inner =
      let was = stays mine u some calls i a none inner in
      let s = was.stays in
      let others : Claim → ℕ = λ x. mine x + (theirs x - ins x) in
      let before : IsLedger holds (λ x. others x + ins x) v = λ x. omega (arith, s.ledger x, have x) in
      let kept = keeps move was.whole in
      let after : IsLedger holds (λ x. mine x + now x) w = λ x. omega (arith, kept.ledger others before x, have x, get x) in
      let gone : now u ≡ 0 = omega (arith, have u, get u, none_out, s.none_theirs) in
      let inner_none : inside holds w u ≡ 0 = omega (arith, kept.no_more u, kept.taken u, s.none_inside, have u, s.none_theirs) in
      let as_many : needed w u ≡ needed v u = omega (arith, after u, s.ledger u, gone, inner_none, s.none_inside, s.none_theirs) in
      record {
        whole = kept.whole;
        stays = record {
          ledger = after;
          none_theirs = gone;
          none_inside = inner_none;
          still = still-on t v w others ins outs u move kept before (omega (arith, some)) free as_many s.still;
        };
      }

  pub ledger-laws : (w : World T) → LedgerLaws holds w
  ledger-laws w = record {
    blank = λ t slots cells jobs blank. ledger-blank w t slots cells jobs blank;
    kept = λ i ins outs new move. keeps move i;
    tells = λ outside a. ledger-tells w outside a;
    stays = λ i u mine first theirs new a some none inner calls. (stays mine u some calls i a none inner).stays;
  }
