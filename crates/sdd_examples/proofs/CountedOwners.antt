-- What the ledger tells two owners of an item, and who has a cell, over calls of others
use Rattle.std.proofs.Common.{◌≡◌, ◌∙◌, ℕ, List, IsTrue, refl, sym, ap, subst, arith, ◌+◌, ◌≤◌, true, Option, None, Some, nat_lt, inr}
use Rattle.sdd_world_model.specs.OwnerOrCell.{OwnerOrCell}
use Rattle.sdd_world_model.specs.Ledger.{Claim, nothing, CallsBeside, owner_of, right_to, one, claims, inside, IsLedger, LedgerLaws, IsStill}
use Rattle.sdd_world_model.specs.Ledger.CallsBeside.{no_call, one_call}
use Rattle.sdd_world_model.specs.Ledger.Moves.{opens, closes, makes, shares, releases}
use Rattle.sdd_world_model.specs.WorldChanges.{opened, closed, made_shared, owner_given, with_standing, held_in}
use Rattle.sdd_world_model.specs.World.{World, IsPlaceOf, standing_at, value_at}
use Rattle.std.specs.Prelude.{◌==◌, IfSome}
use Rattle.std.proofs.Math.Seq.{lt-length-set}
use Rattle.std.proofs.lemmas.Bool.Decides.{nat_tests}
use Rattle.std.proofs.lemmas.List.{get_or-set_same}
use Rattle.sdd_participants.specs.Slab.{IsEmptyAt, entry_at}
use Rattle.sdd_participants.specs.declared.standing.Standing.{Standing}
use Rattle.sdd_participants.specs.declared.standing.Standing.TheVariants.{Shared}
use Rattle.sdd_world_model.specs.Slots.{has_others}
use Rattle.sdd_world_model.specs.OwnerCounts.{owner_count}
use Rattle.sdd_space.specs.Ptr.{PtrIsShown, cell_seen, shown_by, slot_named}
use Rattle.sdd_space.specs.declared.ptr.Ptr.{Ptr}
use Rattle.sdd_world_model.specs.WorldInvariant.{IsWhole, once_if}

module _ {T : Type 0} (holds : T → List OwnerOrCell) (w : World T) (u : Claim) (theirs : Claim → ℕ) where
  -- nothing is called
  pub no-call : (new : World T) → new ≡ w → CallsBeside holds u w theirs new theirs
  no-call new same = subst (λ (z : World T). CallsBeside holds u w theirs z theirs) (sym same) (no_call w theirs)

  -- a guard is opened and closed
  pub passes : (o new : World T) (p : ℕ) → IsPlaceOf w p → o ≡ opened holds w p → IsPlaceOf o p → new ≡ closed o p → CallsBeside holds u w theirs new theirs
  passes o new p live opening live_then closing =
      let open_ = opened holds w p in
      let first = one_call w w open_ theirs theirs theirs nothing nothing (no_call w theirs) (opens w p live) (λ x. omega arith) (λ x. refl) refl (λ e. e) in
      subst (λ (z : World T). CallsBeside holds u w theirs z theirs) (sym (closing ∙ ap (λ (z : World T). closed z p) opening))
      (one_call w open_ (closed open_ p) theirs theirs theirs nothing nothing first
      (closes open_ p (subst (λ (z : World T). IsPlaceOf z p) opening live_then)) (λ x. omega arith) (λ x. refl) refl (λ e. e))

one-itself : (k : ℕ) → once_if (k == k) ≡ 1
one-itself k = grind (arith, nat_tests)

last-one : (s : Option Standing) → owner_count s ≡ 1 → IsTrue (has_others s) → ⊥
last-one (Some (Shared n)) e h = let more : nat_lt 1 n ≡ true = h in grind (arith, nat_tests, more)
last-one s e h = cc

with-none : (n o i : ℕ) → n ≡ o + i → n ≡ o + 0 + i
with-none n o i e = omega arith

turned : (n o m i : ℕ) → n ≡ o + m + 0 + i → n ≡ m + o + i
turned n o m i e = omega arith

both-mine : (o m i : ℕ) → m ≡ 1 → 2 ≡ o + m + m + i → (o ≡ 0) × (i ≡ 0)
both-mine o m i one two = (omega arith, omega arith)

still-none : (i j : ℕ) → i ≤ j + 0 → j ≡ 0 → i ≡ 0
still-none i j most none = omega arith

some-one : (m : ℕ) → m ≡ 1 → 1 ≤ m
some-one m e = omega arith

one-alone : (n m o i : ℕ) → n ≡ m + o + i → m ≡ 1 → o ≡ 0 → i ≡ 0 → n ≡ 1
one-alone n m o i e a b c = omega arith

none-else : (m o : ℕ) → m + o ≡ 1 → m ≡ 1 → o ≡ 0
none-else m o e a = omega arith

module _ {T : Type 0} where
  -- two pointers show the same value
  same-shown : (v z w now : World T) (first second : Ptr T) (o : Option ℕ) → v ≡ w → z ≡ now → slot_named first ≡ o → slot_named second ≡ o →
      IfSome o (λ k. value_at now k ≡ value_at w k) → PtrIsShown (λ k x. value_at v k ≡ Some x) first →
      PtrIsShown (λ k x. value_at z k ≡ Some x) second → shown_by second ≡ shown_by first
  same-shown v z w now first second None vw zn a b e p q = q.null b ∙ sym (p.null a)
  same-shown v z w now first second (Some k) vw zn a b e p q =
      let f = p.full k a in
      let g = q.full k b in
      g.1 ∙ sym g.2 ∙ ap (λ (y : World T). value_at y k) zn ∙ e ∙ ap (λ (y : World T). value_at y k) (sym vw) ∙ f.2 ∙ sym f.1

module _ {T : Type 0} (holds : T → List OwnerOrCell) (laws : (w : World T) → LedgerLaws holds w) where
  -- a cell is as it was, and so is the value of what it holds
  pub cell-still : (w v now : World T) (c : ℕ) (others : Claim → ℕ) → IsWhole w → IsLedger holds (λ x. one (right_to c) x + others x) w →
      CallsBeside holds (right_to c) v others now others → v ≡ w → IsStill w now (right_to c)
  cell-still w v now c others i a calls same =
      let u = right_to c in
      let alone = ((laws w).tells (λ x. one u x + others x) a).alone c (omega (arith, one-itself c)) in
      ((laws w).stays i u (one u) others others now a (some-one (one u u) (one-itself c)) (none-else (one u u) (others u) alone.1 (one-itself c)) alone.2
      (subst (λ (z : World T). CallsBeside holds u z others now others) same calls)).still

  -- what a pointer to it shows
  pub finds : (w now v0 v1 z0 z1 : World T) (c : ℕ) (first second : Ptr T) → IsStill w now (right_to c) → v0 ≡ w → v1 ≡ w → z0 ≡ now → z1 ≡ now →
      entry_at v0.cells c ≡ Some (cell_seen first) → PtrIsShown (λ k x. value_at v1 k ≡ Some x) first →
      entry_at z0.cells c ≡ Some (cell_seen second) → PtrIsShown (λ k x. value_at z1 k ≡ Some x) second → shown_by second ≡ shown_by first
  finds w now v0 v1 z0 z1 c first second still v0w v1w z0n z1n a p b q =
      let held = λ (y : World T). held_in (entry_at y.cells c) in
      same-shown v1 z1 w now first second (held w) v1w z1n (sym (ap held_in a) ∙ ap held v0w) (sym (ap held_in b) ∙ ap held z0n ∙ ap held_in still.0)
      still.1 p q

  -- the second of two owners is the last, whatever others called since the first was released
  pub last-of-two : (w a two b left v now x : World T) (value : T) (k j p : ℕ) (others : Claim → ℕ) → IsWhole w →
      IsLedger holds (λ x. others x + claims (holds value) x) w → IsPlaceOf w p → a ≡ w → IsEmptyAt a.standings k →
      two ≡ with_standing (made_shared a k value) k (Shared 2) → left ≡ owner_given b p k (standing_at b k) →
      CallsBeside holds (owner_of k) v others now others → x ≡ now → j ≡ k → b ≡ two → v ≡ left → IsTrue (has_others (standing_at x j)) → ⊥
  last-of-two w a two b left v now x value k j p others i ledger live aw free make release calls xn jk bt vl =
      let u = owner_of k in
      let mine = λ (x : Claim). others x + one u x in
      let made = made_shared w k value in
      let both = with_standing made k (Shared 2) in
      let after = with_standing both k (Shared 1) in
      let empty : IsEmptyAt w.standings k = subst (λ (z : World T). IsEmptyAt z.standings k) aw free in
      let one_is : standing_at made k ≡ Some (Shared 1) = get_or-set_same w.standings k (Some (Shared 1)) None empty.0 in
      let two_is : standing_at both k ≡ Some (Shared 2) =
      get_or-set_same made.standings k (Some (Shared 2)) None (lt-length-set w.standings k (Some (Shared 1)) empty.0) in
      let first = (laws w).kept i (claims (holds value)) (one u) made (makes w k value (Shared 1) (inr refl) empty) in
      let second = (laws made).kept first.whole nothing (one u) both
      (shares made k 1 (record { shared = one_is; some = omega arith; most = omega arith })) in
      let third = (laws both).kept second.whole (one u) nothing after (releases both p k 2 live two_is) in
      let c = second.ledger mine (λ y. with-none _ _ _ (first.ledger others ledger y)) in
      let counts = both-mine (others u) (one u u) (inside holds both u) (one-itself k) (sym (ap owner_count two_is) ∙ c u) in
      let bw : b ≡ both = bt ∙ make ∙ ap (λ (z : World T). with_standing (made_shared z k value) k (Shared 2)) aw in
      let is : v ≡ after = vl ∙ release ∙ ap (λ (z : World T). owner_given z p k (standing_at z k)) bw ∙ ap (owner_given both p k) two_is in
      let stays = (laws after).stays third.whole u (one u) others others now (λ y. turned _ _ _ _ (third.ledger mine c y))
      (some-one (one u u) (one-itself k)) counts.0 (still-none (inside holds after u) (inside holds both u) (third.no_more u) counts.1)
      (subst (λ (z : World T). CallsBeside holds u z others now others) is calls) in
      let last = last-one (standing_at now k) (one-alone _ (one u u) (others u) (inside holds now u) (stays.ledger u)
      (one-itself k) stays.none_theirs stays.none_inside) in
      λ h. last (subst (λ (s : Option Standing). IsTrue (has_others s)) (λ d. standing_at (xn d) (jk d)) h)
