-- What is retired while a guard is open stays while it is
use Rattle.std.proofs.Common.{◌≡◌, ◌≢◌, ◌⊎◌, inl, inr, ℕ, ◌+◌, ◌<◌, List, [], ◌∷◌, length, Bool, refl, sym, ap, ◌∙◌, arith, true, false, Some, None, Option, IsTrue, subst}
use Rattle.std.specs.Prelude.{◌-◌, Contains, min}
use Rattle.std.proofs.lemmas.List.{get_or-set_same, get_or-set_other}
use Rattle.std.proofs.lemmas.List.Elements.{Contains-push}
use Rattle.std.proofs.lemmas.Bool.Decides.{nat_tests}
use Rattle.sdd_participants.specs.Waiting.{Waiting, fresh, having_seen}
use Rattle.sdd_participants.specs.declared.waiting.LimboEntry.TheVariants.{Item, Job}
use Rattle.sdd_participants.specs.EpochState.{EpochState, with_place, nobody, due_next, is_open, phase_at, IsLive}
use Rattle.sdd_participants.specs.PlaceStates.{is_ended}
use Rattle.sdd_participants.specs.EpochState as time
use Rattle.sdd_participants.specs.declared.participant.Participant.{Participant}
use Rattle.sdd_participants.specs.declared.standing.Standing.{Standing}
use Rattle.sdd_participants.specs.declared.standing.Standing.TheVariants.{Owned, Raw, Shared, Retired, Private as privately}
use Rattle.sdd_world_model.specs.Slots.{is_waiting, IsWaiting}
use Rattle.sdd_world_model.specs.World.{World, standing_at, value_at, place_at, IsPlaceOf}
use Rattle.sdd_world_model.specs.WorldChanges.{made_as, with_standing, waiting_as, owner_given, cell_closed, deferred, opened, closed, registered, ended, reclaims}
use Rattle.sdd_world_model.specs.OwnerOrCell.{OwnerOrCell}
use Rattle.sdd_world_model.specs.ParticipantChanges.{all_awaiting}
use Rattle.sdd_world_model.specs.WorldInvariant.{IsWhole}
use Rattle.sdd_world_model.specs.ReclaimBound.{Waits}
use Rattle.sdd_world_model.specs.Out.{is_out}
use Rattle.sdd_world_model.specs.UnderGuards.{more, IsUnder, StaysUnder, CallsUnder, KeepsUnderGuards, KeepsCollectedUnderGuards, KeepsFreshUnderGuards}
use Rattle.sdd_world_model.specs.WorldStep.{WorldStep}
use Rattle.sdd_world_model.specs.WorldStep.WorldStep.{registers, ends, opens, closes, stirs, accelerates, makes, shares, retires, releases, defers, collects, closes_collector, edits, drops, puts_out_raw, takes_back_raw, changes_cells, closes_cell, changes_pointers}
use Rattle.sdd_world_model.specs.UnderGuards.CallsUnder.{none, more_calls}
use Rattle.sdd_world_model.proofs.ParticipantChanges.{Gives, Gives-owner_given, Gives-cell_closed}
use Rattle.sdd_world_model.proofs.ParticipantChanges as own
use Rattle.sdd_world_model.proofs.AnyGuardOpen.{guarded}
use Rattle.sdd_world_model.proofs.Standings.{alone-out, out-inside, out-apart, waits-out-not}
use Rattle.sdd_world_model.proofs.WorldInvariant.{times_among}
use Rattle.sdd_world_model.proofs.PlacesMatchStates.{Whole-opened, Whole-closed, Whole-stirred, Whole-accelerated, Whole-made_as, Whole-shared, Whole-restands, Whole-retires, Whole-waits, Whole-deferred, Whole-owner_given, Whole-cells, Whole-pointers, Whole-cell_closed, Whole-registered, Whole-ended, IsTaken, live-taken, registered-keeps, waits-taken, guard-taken}
use Rattle.sdd_world_model.proofs.GuardClosed.{how-closed}
use Rattle.sdd_participants.proofs.Adoptions.{same-or-not}
use Rattle.sdd_world_model.proofs.GuardOpened.{how, Nests, IsChange, Stands, opened-stays, opened-other, shared-apart, owner_given-stands, closed-stands, all_awaiting-waiting, still-waits}
use Rattle.sdd_world_model.proofs.WaitingEntries.{waits-standing, other-due, young-due, change-waits}

-- the same participant, as far as its changes go
pub record Persists (x y : Participant) : Type 0 where
  pub found : y.found ≡ x.found
  pub waits : (w : Waiting) → Contains x.bags.waiting w → Contains y.bags.waiting w

pub Persists-same : (x y : Participant) → y ≡ x → Persists x y
Persists-same x y e = record { found = ap (λ (z : Participant). z.found) e; waits = λ w h. subst (λ (z : Participant). Contains z.bags.waiting w) (sym e) h }

-- one place changes, and goes on as it was
persists-at : (t : EpochState) (p q : ℕ) (x : Participant) → p < length t.places → Persists (time.place_at t p) x → (q ≡ p) ⊎ (q ≢ p) →
    Persists (time.place_at t q) (time.place_at (with_place t p x) q)
persists-at t p q x l on (inl e) =
    subst (λ (n : ℕ). Persists (time.place_at t n) (time.place_at (with_place t p x) n)) (sym e)
    (subst (λ (z : Participant). Persists (time.place_at t p) z) (sym (get_or-set_same t.places p x nobody l)) on)
persists-at t p q x l on (inr apart) = Persists-same (time.place_at t q) (time.place_at (with_place t p x) q) (get_or-set_other t.places p q x nobody apart)

pub persists-place : (t : EpochState) (p q : ℕ) (x : Participant) → p < length t.places → Persists (time.place_at t p) x →
    Persists (time.place_at t q) (time.place_at (with_place t p x) q)
persists-place t p q x l on = persists-at t p q x l on (same-or-not q p)

waits-still : {A B : Type 0} {b : Bool} → A ⊎ ((b ≡ true) × B) → b ≡ false → A
waits-still (inl h) on = h
waits-still (inr h) on = absurd (let never : true ≡ false = sym h.0 ∙ on in cc)

-- a close changes nobody's found count, and only takes away what an ended participant left
pub closed-persists : (t : EpochState) (p q : ℕ) → IsLive t p → is_ended (phase_at t q) ≡ false
    → Persists (time.place_at t q) (time.place_at (time.closed t p) q)
closed-persists t p q l on =
    let c = how-closed t p l in
    record { found = c.found q; waits = λ w h. waits-still (c.waits q w h) on }

module _ {T : Type 0} where
  -- the item goes on waiting with its holder, and no change is made
  moves : (v w : World T) (p k : ℕ) → (u : IsUnder v p k) → IsTrue (is_open (place_at w p)) → IsWaiting (standing_at w k) →
      Persists (place_at v p) (place_at w p) → Persists (place_at v u.holder) (place_at w u.holder) → IsUnder w p k
  moves v w p k u o s on_p on_q =
      let same : more w p u.holder ≡ more v p u.holder =
      ap (λ (n : ℕ). min 2 (n + 1 - (place_at w u.holder).found)) on_p.found ∙ ap (λ (n : ℕ). min 2 ((place_at v p).found + 1 - n)) on_q.found in
      record {
        guarded = o;
        waiting = s;
        holder = u.holder;
        seen = u.seen;
        waits = on_q.waits (having_seen u.seen (Item k)) u.waits;
        safe = omega (arith, u.safe, same);
      }

  module _ (holds : T → List OwnerOrCell) where
    pub nests-persists : (w : World T) (r q : ℕ) → r < length w.time.places → Nests holds w r → Persists (place_at w q) (place_at (opened holds w r) q)
    nests-persists w r q l n =
        subst (λ (v : World T). Persists (place_at w q) (place_at v q)) (sym n.nests)
        (persists-place w.time r q (time.nested (place_at w r)) l (record { found = refl; waits = λ w h. h }))

    open-nested : (x : Participant) → IsTrue (is_open (time.nested x))
    open-nested x = grind (arith, nat_tests)

    still-open : (w : World T) (p r : ℕ) → r < length w.time.places → IsTrue (is_open (place_at w p)) → (p ≡ r) ⊎ (p ≢ r) →
        Nests holds w r ⊎ IsChange holds w r → IsTrue (is_open (place_at (opened holds w r) p))
    still-open w p r l o (inr apart) how = subst (λ (x : Participant). IsTrue (is_open x)) (sym (opened-other holds w r l p apart)) o
    still-open w p r l o (inl e) (inl n) =
        let here : place_at (opened holds w r) r ≡ time.nested (place_at w r) =
        ap (λ (u : World T). place_at u r) n.nests ∙ get_or-set_same w.time.places r (time.nested (place_at w r)) nobody l in
        subst (λ (m : ℕ). IsTrue (is_open (place_at (opened holds w r) m))) (sym e)
        (subst (λ (x : Participant). IsTrue (is_open x)) (sym here) (open-nested (place_at w r)))
    still-open w p r l o (inl e) (inr c) = let shut : false ≡ true = sym c.closed_before ∙ subst (λ (m : ℕ). IsTrue (is_open (place_at w m))) e o in absurd (cc)

    -- what r reclaims is not the item
    not-due : (w : World T) (k r holder seen : ℕ) → IsWhole w → Waits w holder k seen → (r ≡ holder) ⊎ (r ≢ holder) → (r ≡ holder → seen < 2) →
        due_next (place_at w r) ≡ reclaims w r → times_among k (reclaims w r) ≡ 0
    not-due w k r holder seen i waits (inr apart) young due = subst (λ xs. times_among k xs ≡ 0) due (other-due w holder k seen i waits r apart)
    not-due w k r holder seen i waits (inl e) young due =
        subst (λ xs. times_among k xs ≡ 0) due (subst (λ (m : ℕ). times_among k (due_next (place_at w m)) ≡ 0) (sym e)
        (young-due w holder k seen i waits (young e)))

    holder-young : (w : World T) (p k : ℕ) → (u : IsUnder w p k) → IsWhole w → IsChange holds w u.holder → u.seen < 2
    holder-young w p k u i c =
        let near = (i.abreast p).near u.guarded in
        omega (arith, u.safe, near, (i.abreast p).found, (i.abreast u.holder).found, c.another)

    -- the holder makes a change: that was one of those that it could make
    holder-changes : (w : World T) (p k : ℕ) → (u : IsUnder w p k) → IsWhole w → (c : IsChange holds w u.holder) → u.holder < length w.time.places →
        p ≢ u.holder →
        IsWaiting (standing_at (opened holds w u.holder) k) → IsTrue (is_open (place_at (opened holds w u.holder) p)) → IsUnder (opened holds w u.holder) p k
    holder-changes w p k u i c l apart s o =
        let q = u.holder in
        let new = opened holds w q in
        let a = i.abreast p in
        let b = i.abreast q in
        let near = a.near u.guarded in
        let young : u.seen < 2 = holder-young w p k u i c in
        let found : (place_at new q).found ≡ w.time.count =
        (own.opens holds w q l (is_open (place_at w q)) refl).found (λ o. let never : false ≡ true = sym c.closed_before ∙ o in absurd (cc)) in
        let before : (place_at new p).found ≡ (place_at w p).found = ap (λ (x : Participant). x.found) (opened-other holds w q l p apart) in
        record {
          guarded = o;
          waiting = s;
          holder = q;
          seen = u.seen + 1;
          waits = change-waits holds w q k u.seen l c young u.waits;
          safe = omega (arith, u.safe, near, a.found, b.found, c.another, found, before);
        }

    -- the item is under the guard, stands as it stood, and has its value
    abbrev KeptUnder : World T → World T → ℕ → ℕ → Type 0
    KeptUnder v w p k = StaysUnder v w p k (standing_at v k)

    -- a slot as it is
    abbrev AsItWas : World T → ℕ → World T → Type 0
    AsItWas v k w = Stands k (standing_at v k) (value_at v k) w

    as-it-is : (w : World T) (k : ℕ) → AsItWas w k w
    as-it-is w k = record { standing = refl; value = refl }

    still-waiting : (v w : World T) (k : ℕ) → IsWaiting (standing_at v k) → AsItWas v k w → IsWaiting (standing_at w k)
    still-waiting v w k waits s = ap is_waiting s.standing ∙ waits

    kept : (v w : World T) (p k : ℕ) → (u : IsUnder v p k) → IsTrue (is_open (place_at w p)) → AsItWas v k w →
        Persists (place_at v p) (place_at w p) → Persists (place_at v u.holder) (place_at w u.holder) → KeptUnder v w p k
    kept v w p k u o s on_p on_q = record {
      under = moves v w p k u o (still-waiting v w k u.waiting s) on_p on_q;
      standing = s.standing;
      value = s.value;
    }

    idle : (w : World T) (p k : ℕ) → IsUnder w p k → is_out (standing_at w k) ≡ false
    idle w p k u = waits-out-not (standing_at w k) u.waiting

    under-nests : (w : World T) (p k r : ℕ) → r < length w.time.places → (u : IsUnder w p k) → (n : Nests holds w r) → KeptUnder w (opened holds w r) p k
    under-nests w p k r l u n =
        let none : times_among k (reclaims w r) ≡ 0 = ap (λ xs. times_among k xs) n.none in
        let s = opened-stays holds w r l k (standing_at w k) (value_at w k) (idle w p k u) none (as-it-is w k) in
        kept w (opened holds w r) p k u (still-open w p r l u.guarded (same-or-not p r) (inl n)) s (nests-persists w r p l n) (nests-persists w r u.holder l n)

    under-changes : (w : World T) (p k r : ℕ) → r < length w.time.places → IsWhole w → (u : IsUnder w p k) → (c : IsChange holds w r) → p ≢ r →
        (r ≡ u.holder) ⊎ (r ≢ u.holder) → KeptUnder w (opened holds w r) p k
    under-changes w p k r l i u c apart (inr other) =
        let none = not-due w k r u.holder u.seen i u.waits (inr other) (λ e. absurd (other e)) (sym c.due) in
        let s = opened-stays holds w r l k (standing_at w k) (value_at w k) (idle w p k u) none (as-it-is w k) in
        let on_p = Persists-same (place_at w p) (place_at (opened holds w r) p) (opened-other holds w r l p apart) in
        let on_q = Persists-same (place_at w u.holder) (place_at (opened holds w r) u.holder) (opened-other holds w r l u.holder (λ e. other (sym e))) in
        kept w (opened holds w r) p k u (still-open w p r l u.guarded (same-or-not p r) (inr c)) s on_p on_q
    under-changes w p k r l i u c apart (inl e) =
        let young : u.seen < 2 = holder-young w p k u i (subst (λ (m : ℕ). IsChange holds w m) e c) in
        let none = not-due w k r u.holder u.seen i u.waits (inl e) (λ _. young) (sym c.due) in
        let s = opened-stays holds w r l k (standing_at w k) (value_at w k) (idle w p k u) none (as-it-is w k) in
        let o = still-open w p r l u.guarded (same-or-not p r) (inr c) in
        record {
          under = subst (λ (m : ℕ). IsUnder (opened holds w m) p k) (sym e)
              (holder-changes w p k u i (subst (λ (m : ℕ). IsChange holds w m) e c) (subst (λ (m : ℕ). m < length w.time.places) e l)
              (λ same. apart (same ∙ sym e))
              (subst (λ (m : ℕ). IsWaiting (standing_at (opened holds w m) k)) e (still-waiting w (opened holds w r) k u.waiting s))
              (subst (λ (m : ℕ). IsTrue (is_open (place_at (opened holds w m) p))) e o));
          standing = s.standing;
          value = s.value;
        }

    under-opens : (w : World T) (p k r : ℕ) → r < length w.time.places → IsWhole w → (u : IsUnder w p k) → Nests holds w r ⊎ IsChange holds w r →
        KeptUnder w (opened holds w r) p k
    under-opens w p k r l i u (inl n) = under-nests w p k r l u n
    under-opens w p k r l i u (inr c) =
        let apart : p ≢ r =
        λ e. let never : false ≡ true = sym c.closed_before ∙ subst (λ (m : ℕ). IsTrue (is_open (place_at w m))) e u.guarded in absurd (cc) in
        under-changes w p k r l i u c apart (same-or-not r u.holder)

    -- what a call does to one place only
    under-place : (w : World T) (p k r : ℕ) (x : Participant) → r < length w.time.places → (u : IsUnder w p k) → Persists (place_at w r) x →
        IsTrue (is_open (place_at (record w { time = with_place w.time r x }) p)) →
        KeptUnder w (record w { time = with_place w.time r x }) p k
    under-place w p k r x l u on o =
        kept w (record w { time = with_place w.time r x }) p k u o (record { standing = refl; value = refl }) (persists-place w.time r p x l on)
        (persists-place w.time r u.holder x l on)

    pub persists-given : (ks : List ℕ) (x : Participant) → Persists x (all_awaiting ks x)
    persists-given ks x = record { found = own.all_awaiting-found ks x; waits = λ w h. all_awaiting-waiting ks x w h }

    -- a close: the item goes on to wait with its holder, or waits anew with who adopted it
    under-closes : (v : World T) (p k r : ℕ) → IsPlaceOf v r → IsTrue (is_open (place_at (closed v r) p)) → (u : IsUnder v p k) →
        Waits (closed v r) u.holder k u.seen ⊎ ((is_ended (phase_at v.time u.holder) ≡ true) × Waits (closed v r) r k 0) → KeptUnder v (closed v r) p k
    under-closes v p k r l o u (inl h) =
        let c = how-closed v.time r l in
        let same : more (closed v r) p u.holder ≡ more v p u.holder =
        ap (λ (n : ℕ). min 2 (n + 1 - (place_at (closed v r) u.holder).found)) (c.found p)
        ∙ ap (λ (n : ℕ). min 2 ((place_at v p).found + 1 - n)) (c.found u.holder) in
        record {
          under = record { guarded = o; waiting = u.waiting; holder = u.holder; seen = u.seen; waits = h; safe = omega (arith, u.safe, same) };
          standing = refl;
          value = refl;
        }
    under-closes v p k r l o u (inr h) =
        record {
          under = record { guarded = o; waiting = u.waiting; holder = r; seen = 0; waits = h.1; safe = omega arith };
          standing = refl;
          value = refl;
        }

    -- another item begins to wait, with a place that is there
    pub under-waits : (v : World T) (p k r j : ℕ) (s : Standing) → r < length v.time.places → is_out (standing_at v j) ≡ true → (u : IsUnder v p k) →
        IsTrue (is_open (place_at (waiting_as v r j s) p)) → KeptUnder v (waiting_as v r j s) p k
    under-waits v p k r j s l out u o =
        let apart : k ≢ j = out-apart v.standings j k out (idle v p k u) in
        let on = persists-given (j ∷ []) (place_at v r) in
        kept v (waiting_as v r j s) p k u o (record { standing = get_or-set_other v.standings j k (Some s) None apart; value = refl })
        (persists-place v.time r p (time.awaiting (Item j) (place_at v r)) l on)
        (persists-place v.time r u.holder (time.awaiting (Item j) (place_at v r)) l on)

    -- other items are given up to a place
    under-gives : (v w : World T) (p k r : ℕ) → r < length v.time.places → Gives r v w → (u : IsUnder v p k) → AsItWas v k w →
        IsTrue (is_open (place_at w p)) → KeptUnder v w p k
    under-gives v w p k r l g u s o =
        let on = persists-given g.slots (place_at v r) in
        let at : (q : ℕ) → Persists (place_at v q) (place_at w q) =
        λ q. subst (λ (t : EpochState). Persists (place_at v q) (time.place_at t q)) (sym g.time)
        (persists-place v.time r q (all_awaiting g.slots (place_at v r)) l on) in
        kept v w p k u o s (at p) (at u.holder)

    -- an owner of another item is given up
    pub under-owner_given : (v : World T) (p k r j : ℕ) → r < length v.time.places → (s : Option Standing) → standing_at v j ≡ s → (u : IsUnder v p k) →
        IsTrue (is_open (place_at (owner_given v r j s) p)) → KeptUnder v (owner_given v r j s) p k
    under-owner_given v p k r j l s is u o =
        under-gives v (owner_given v r j s) p k r l (Gives-owner_given v r j s is) u
        (owner_given-stands r k (standing_at v k) (value_at v k) (idle v p k u) v j s is (as-it-is v k)) o

    -- what changes no place
    under-still : (v w : World T) (p k : ℕ) → (u : IsUnder v p k) → w.time ≡ v.time → AsItWas v k w →
        IsTrue (is_open (place_at w p)) → KeptUnder v w p k
    under-still v w p k u e s o =
        let at : (q : ℕ) → Persists (place_at v q) (place_at w q) =
        λ q. Persists-same (place_at v q) (place_at w q) (ap (λ (t : EpochState). time.place_at t q) e) in
        kept v w p k u o s (at p) (at u.holder)

    -- another item that is out stands otherwise
    under-restands : (v : World T) (p k j : ℕ) (s : Standing) → is_out (standing_at v j) ≡ true → (u : IsUnder v p k) →
        IsTrue (is_open (place_at (with_standing v j s) p)) → KeptUnder v (with_standing v j s) p k
    under-restands v p k j s out u o =
        let apart : k ≢ j = out-apart v.standings j k out (idle v p k u) in
        under-still v (with_standing v j s) p k u refl
        (record { standing = get_or-set_other v.standings j k (Some s) None apart; value = refl }) o

    -- what is under a guard is among nobody's due
    pub under-not-due : (w : World T) (p k r : ℕ) → r < length w.time.places → IsWhole w → (u : IsUnder w p k) → times_among k (reclaims w r) ≡ 0
    under-not-due w p k r l i u = elim (how holds w r l) [
      | inl n ↦ ap (λ xs. times_among k xs) n.none
      | inr c ↦ elim (same-or-not r u.holder) [
        | inl e ↦ not-due w k r u.holder u.seen i u.waits (inl e) (λ _. holder-young w p k u i (subst (λ (m : ℕ). IsChange holds w m) e c)) (sym c.due)
        | inr apart ↦ not-due w k r u.holder u.seen i u.waits (inr apart) (λ e. absurd (apart e)) (sym c.due)
      ]
    ]

    pub one-call : (p k : ℕ) {v w : World T} → WorldStep holds v w → IsWhole v → IsUnder v p k → IsTrue (is_open (place_at w p)) → IsWhole w × KeptUnder v w p k
    one-call p k (registers v r vacant) i u o =
        let same : (q : ℕ) → IsTaken v.time q → Persists (place_at v q) (place_at (registered v r) q) =
        λ q taken. Persists-same (place_at v q) (place_at (registered v r) q) (registered-keeps v.time r q taken vacant) in (
          Whole-registered v r vacant i,
          kept v (registered v r) p k u o (record { standing = refl; value = refl }) (same p (guard-taken v p i u.guarded))
              (same u.holder (waits-taken v u.holder k u.seen i u.waits)),
        )
    one-call p k (ends v r l shut) i u o = (
      Whole-ended v r l shut i,
      kept v (ended v r) p k u o (record { standing = refl; value = refl }) (record { found = refl; waits = λ w h. h })
          (record { found = refl; waits = λ w h. h }),
    )
    one-call p k (opens v r l) i u o = (Whole-opened holds v r l i, under-opens v p k r l.0 i u (how holds v r l.0))
    one-call p k (closes v r l) i u o =
        (Whole-closed v r l i, under-closes v p k r l o u ((how-closed v.time r l).waits u.holder (having_seen u.seen (Item k)) u.waits))
    one-call p k (stirs v r l) i u o =
        (Whole-stirred v r l i, under-place v p k r (time.with_garbage (place_at v r)) l.0 u (record { found = refl; waits = λ w h. h }) o)
    one-call p k (accelerates v r l) i u o =
        (Whole-accelerated v r l i, under-place v p k r (time.accelerated (place_at v r)) l.0 u (record { found = refl; waits = λ w h. h }) o)
    one-call p k (makes v j value s first empty) i u o =
        let apart : k ≢ j = λ e. let never : true ≡ false = sym u.waiting ∙ ap (λ (n : ℕ). is_waiting (standing_at v n)) e ∙ ap is_waiting empty.1 in absurd
        (cc) in (
          Whole-made_as v j value s first empty i,
          under-still v (made_as v j value s) p k u refl
              (record {
                standing = get_or-set_other v.standings j k (Some s) None apart;
                value = get_or-set_other v.values j k (Some value) None apart;
              }) o,
        )
    one-call p k (shares v j n is) i u o =
        let apart : k ≢ j = out-apart v.standings j k (ap is_out is) (idle v p k u) in (
          Whole-shared v j n (n + 1) is i,
          under-still v (with_standing v j (Shared (n + 1))) p k u refl
              (shared-apart v j (n + 1) k (standing_at v k) (value_at v k) apart (as-it-is v k)) o,
        )
    one-call p k (retires v r j l there) i u o =
        (Whole-retires v r j (live-taken v.time r l) (ap is_out there) i, under-waits v p k r j Retired l.0 (ap is_out there) u o)
    one-call p k (releases v r j n l is) i u o =
        (Whole-owner_given v r j (live-taken v.time r l) (Some (Shared n)) is i, under-owner_given v p k r j l.0 (Some (Shared n)) is u o)
    one-call p k (defers v r j l free) i u o =
        let x = place_at v r in
        let y : Participant = time.awaiting (Job j) x in
        let on : Persists x y = record { found = refl; waits = still-waits (Job j) x } in (
          Whole-deferred v r j (live-taken v.time r l) free i,
          kept v (deferred v r j) p k u o (record { standing = refl; value = refl }) (persists-place v.time r p y l.0 on)
              (persists-place v.time r u.holder y l.0 on),
        )
    one-call p k (collects v r c j l alone) i u o =
        let out = alone-out (standing_at v j) alone in
        (Whole-waits v r j (privately c) refl (live-taken v.time r l) out i, under-waits v p k r j (privately c) l.0 out u o)
    one-call p k (closes_collector v r c l quiet) i u o = absurd (quiet (guarded v p u.guarded))
    one-call p k (edits v j value may) i u o = absurd (may.quiet (guarded v p u.guarded))
    one-call p k (drops v r j l may) i u o = absurd (may.quiet (guarded v p u.guarded))
    one-call p k (puts_out_raw v j is) i u o =
        (Whole-restands v j Raw (ap is_out is) refl i, under-restands v p k j Raw (ap is_out is) u o)
    one-call p k (takes_back_raw v j is) i u o =
        (Whole-restands v j Owned (ap is_out is) refl i, under-restands v p k j Owned (ap is_out is) u o)
    one-call p k (changes_cells v cells same) i u o =
        (Whole-cells v cells i, under-still v (record v { cells = cells }) p k u refl (record { standing = refl; value = refl }) o)
    one-call p k (closes_cell v r c l) i u o = (
      Whole-cell_closed v r c l i,
      under-gives v (cell_closed v r c) p k r l.0 (Gives-cell_closed v r c l.0) u
          (closed-stands r k (standing_at v k) (value_at v k) (idle v p k u) v c (as-it-is v k)) o,
    )
    one-call p k (changes_pointers v pointers same) i u o = (
      Whole-pointers v pointers i,
      under-still v (record v { pointers = pointers }) p k u refl (record { standing = refl; value = refl }) o,
    )

    all-calls : (p k : ℕ) {v w : World T} → CallsUnder holds p v w → IsWhole v → IsUnder v p k → IsWhole w × KeptUnder v w p k
    all-calls p k (none v o) i u = (i, record { under = u; standing = refl; value = refl })
    all-calls p k (more_calls u v w path call o) i under =
        let there = all-calls p k path i under in
        let end = one-call p k call there.0 there.1.under o in
        (end.0, record { under = end.1.under; standing = end.1.standing ∙ there.1.standing; value = end.1.value ∙ there.1.value })

    awaiting-open : (w : World T) (p q k : ℕ) (s : Standing) → q < length w.time.places → IsTrue (is_open (place_at w p)) → (p ≡ q) ⊎ (p ≢ q) →
        IsTrue (is_open (place_at (waiting_as w q k s) p))
    awaiting-open w p q k s l o (inl e) =
        let x : Participant = time.awaiting (Item k) (place_at w q) in
        let here : place_at (waiting_as w q k s) q ≡ x = get_or-set_same w.time.places q x nobody l in
        subst (λ (m : ℕ). IsTrue (is_open (place_at (waiting_as w q k s) m))) (sym e)
        (subst (λ (z : Participant). IsTrue (is_open z)) (sym here) (subst (λ (m : ℕ). IsTrue (is_open (place_at w m))) e o))
    awaiting-open w p q k s l o (inr apart) =
        subst (λ (z : Participant). IsTrue (is_open z)) (sym (get_or-set_other w.time.places q p (time.awaiting (Item k) (place_at w q)) nobody apart)) o

    -- an item that begins to wait while a guard is open is under it
    stands-there : (w : World T) (q k : ℕ) (s : Standing) → is_out (standing_at w k) ≡ true → standing_at (waiting_as w q k s) k ≡ Some s
    stands-there w q k s out = get_or-set_same w.standings k (Some s) None (out-inside w.standings k out)

    under-waiting : (w : World T) (p q k : ℕ) (s : Standing) → is_waiting (Some s) ≡ true → IsTrue (is_open (place_at w p)) →
        q < length w.time.places → is_out (standing_at w k) ≡ true → IsUnder (waiting_as w q k s) p k
    under-waiting w p q k s waits o l out =
        let x : Participant = time.awaiting (Item k) (place_at w q) in
        let here : place_at (waiting_as w q k s) q ≡ x = get_or-set_same w.time.places q x nobody l in
        record {
          guarded = awaiting-open w p q k s l o (same-or-not p q);
          waiting = ap is_waiting (stands-there w q k s out) ∙ waits;
          holder = q;
          seen = 0;
          waits =
              subst (λ (z : Participant). Contains z.bags.waiting (having_seen 0 (Item k))) (sym here)
              (Contains-push (place_at w q).bags.waiting (fresh (Item k)));
          safe = omega arith;
        }

    keeps-waiting : (w : World T) (p q k : ℕ) (s : Standing) → is_waiting (Some s) ≡ true → IsWhole w → IsTrue (is_open (place_at w p)) →
        IsPlaceOf w q → is_out (standing_at w k) ≡ true → (new : World T) → CallsUnder holds p (waiting_as w q k s) new →
        StaysUnder w new p k (Some s)
    keeps-waiting w p q k s waits i o l out new path =
        let under = under-waiting w p q k s waits o l.0 out in
        let end = (all-calls p k path (Whole-waits w q k s waits (live-taken w.time q l) out i) under).1 in
        record { under = end.under; standing = end.standing ∙ stands-there w q k s out; value = end.value }

    pub keeps-under-guards : (w : World T) → IsWhole w → KeepsUnderGuards holds w
    keeps-under-guards w i = λ p q k o l out new path. keeps-waiting w p q k Retired refl i o l out new path

    pub keeps-collected-under-guards : (w : World T) → IsWhole w → KeepsCollectedUnderGuards holds w
    keeps-collected-under-guards w i = λ p q c k o l out new path. keeps-waiting w p q k (privately c) refl i o l out new path

    pub keeps-fresh-under-guards : (w : World T) → IsWhole w → KeepsFreshUnderGuards holds w
    keeps-fresh-under-guards w i = λ p q k o waits new path.
        let there : is_waiting (standing_at w k) ≡ true = waits-standing w q k 0 i waits in
        let under : IsUnder w p k = record { guarded = o; waiting = there; holder = q; seen = 0; waits = waits; safe = omega arith } in
        (all-calls p k path i under).1
