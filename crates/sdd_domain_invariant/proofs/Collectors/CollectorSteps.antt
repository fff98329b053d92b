-- The steps on private items keep the whole invariant: a collector's close begins, claims what waits for it and ends, and an item that waits is collected, left
-- to its close, and its slot given back.
use Rattle.std.proofs.Common.{◌≡◌, ◌≢◌, ◌⊎◌, inl, inr, ℕ, ◌<◌, ◌≤◌, Bool, false, eqb, List, [], ◌∷◌, length, map, get_or, set, sym, refl, ap, ◌∙◌, subst, ⊎_elim, arith}
use Rattle.std.specs.Prelude.{Option, Some, None}
use mathlib.Core.Option.{some, some-injective}
use mathlib.Core.Logic.{dite}
use native.Mathlib.Decide.{ℕ_discrete, dec_lt}
use lib.ListN.{get_elem?}
use lib.Seq.{set-get_or}
use Rattle.std.proofs.lemmas.List.{set-set}
use prog.Atomic.{either}
use Rattle.atomic_table.specs.Table.{State, keeps}
use Rattle.atomic_table.proofs.Lists.{at_map, at_set, set_here, exchanged}
use Rattle.sdd_witness.specs.Ledger.{Pledge}
use Rattle.sdd_witness.specs.Steps.{AllowsAlone}
use Rattle.sdd_shared_values.specs.declared.value_fraction.ValueFraction.{ValueFraction}
use Rattle.sdd_rights.specs.declared.views.CellKind.{CellKind}
use Rattle.sdd_rights.specs.declared.views.CellKind.TheVariants.{Raw, Collector}
use Rattle.sdd_rights.specs.declared.views.CellRight.{CellRight}
use Rattle.sdd_rights.specs.declared.views.PrivateItem.{PrivateItem}
use Rattle.sdd_rights.specs.declared.views.ShownValue.{ShownValue}
use Rattle.sdd_rights.specs.declared.views.WaitingItem.{WaitingItem}
use Rattle.sdd_rights.specs.declared.views.View.{View}
use Rattle.sdd_rights.specs.declared.views.Sizes.{Sizes}
use Rattle.sdd_rights.specs.contracts.views.View.{the_row}
use Rattle.sdd_rights.specs.Views.{no_rights, right_to}
use Rattle.sdd_domain_invariant.specs.Words.{slot_word, words_behind}
use Rattle.sdd_domain_invariant.specs.Codes.{codes, alive, waiting, valued, private, emptying, shared_base, free_word, private_word, emptying_word, emptied_word, left_word, raw_word}
use Rattle.sdd_domain_invariant.specs.Collectors.{private_in, one_in, Closes, FoundEmptied}
use Rattle.sdd_domain_invariant.specs.Collectors.CollectorWordSteps.{closing, closed_none, collected, left_to_close, private_given_back, found_emptied, orphan, orphaned, empties_now, WaitsFor, HasWaiting, Collects, LeavesToClose, GivesPrivateBack, EmptiesSlot, EmptiesOwn}
use Rattle.sdd_domain_invariant.specs.Epoch.{HasPlace}
use Rattle.sdd_domain_invariant.specs.Slots.{slot_at, waits_in, items_at, Owns}
use Rattle.sdd_domain_invariant.specs.Slots.SlotSteps.{noted, AtSlot}
use Rattle.sdd_domain_invariant.specs.WordInvariant.{epoch_of, Parts}
use Rattle.sdd_domain_invariant.proofs.Codes.{sound, private_is, emptied_is, emptying_is, left_is, free_is}
use Rattle.sdd_domain_invariant.proofs.Collectors.{privates_in}
use Rattle.sdd_domain_invariant.proofs.Collectors.CollectorWordSteps as words
use Rattle.sdd_domain_invariant.proofs.Epoch.{at_length}
use Rattle.sdd_domain_invariant.proofs.Frame.{each_set}
use Rattle.sdd_domain_invariant.proofs.WordsWithoutFractions.{blind_seats}
use Rattle.sdd_domain_invariant.proofs.Slots.OwnerSteps.{item_gone, item_kept}
use Rattle.sdd_domain_invariant.proofs.Collectors.PrivateSlots.{with_privates}
use Rattle.sdd_domain_invariant.proofs.Slots.SlotWords.{owner_in, waiter_in}
use Rattle.sdd_domain_invariant.proofs.Sums.{is_same, total_set, total_has, total_two}
use Rattle.sdd_domain_invariant.specs.Sums.{total}
use Rattle.sdd_domain_invariant.specs.Cells.CellsInvariant.{is_right, rights_at, IsTaken, is_closing_right}
use Rattle.sdd_domain_invariant.specs.Cells.CellSteps.{IsBare}
use Rattle.sdd_domain_invariant.specs.Collectors.CollectorSteps.{with_right, CollectsOne, LeavesOneToClose, GivesOnePrivateBack, ClosesOne, ClosesNone, EmptiesOne, EmptiesOwnOne}
use Rattle.sdd_domain_invariant.specs.DomainInvariant.{DomainInvariant}
use Rattle.sdd_domain_invariant.specs.Slots.FilledInvariant.{newest, HasRecord}
use Rattle.sdd_domain_invariant.specs.Fractions.FractionSteps.{SeatState, forgetting, OfSlot}
use Rattle.sdd_domain_invariant.specs.Fractions.FractionsAtHome.{full_at}
use Rattle.sdd_domain_invariant.specs.Slots.KindsInvariant.{KnowsKinds, KindsInvariant}
use Rattle.sdd_domain_invariant.specs.Fractions.LastFractions.{IsStored, HidesItem}
use Rattle.sdd_domain_invariant.specs.Slots.Records.{IsTelling}
use Rattle.sdd_domain_invariant.proofs.Banks as banks
use Rattle.sdd_domain_invariant.proofs.Cells.{KeepsClosing, first_or, no_right, one_right, closing_right, closers, cells_slot}
use Rattle.sdd_domain_invariant.proofs.Cells.CellSteps.{right_beside}
use Rattle.sdd_domain_invariant.proofs.Counts.{as_full, uncounted, uncounted_alone}
use Rattle.sdd_domain_invariant.proofs.Slots.FilledInvariant.{has_old, filled_same}
use Rattle.sdd_domain_invariant.proofs.Slots.KindSteps.{knows_alike, bound_kept, no_participants, pledges_spent}
use Rattle.sdd_domain_invariant.proofs.Slots.KindSteps as kind_steps
use Rattle.sdd_domain_invariant.proofs.Fractions.LastFractions.{empty_shows, stored_as_is, stored_same, stored_by, stored_other, stored_hid, AllKnow, lasts_fewer, lasts_out}
use Rattle.sdd_domain_invariant.proofs.TableSteps.{Follows, IsCalm, lift_whole, lift_calm, stands}
use Rattle.sdd_domain_invariant.proofs.Fractions.FractionsInvariant.{none_out}
use Rattle.sdd_domain_invariant.proofs.Fractions.FractionsInvariant as part
use Rattle.sdd_domain_invariant.proofs.Slots.Records.{in_others, in_kept, known_by}
use Rattle.sdd_domain_invariant.proofs.Slots.Records as records
use Rattle.sdd_domain_invariant.proofs.Fractions.FractionSteps as steps
use Rattle.sdd_domain_invariant.proofs.Slots.RecordSteps.{none_moved}

-- while a close empties it its value counts as there
emptying_valued : valued emptying_word ≡ 1
emptying_valued = (sound.emptying emptying_word (let e = emptying_is.4 in omega arith)).3

left_valued : valued left_word ≡ 1
left_valued = (sound.emptying left_word (let e = left_is.4 in omega arith)).3

-- what waits has no owner
waiting_dead : (x : ℕ) → 0 < waiting x → alive x ≡ 0
waiting_dead x waits = dite (dec_lt 0 (alive x)) (λ l. absurd (let q = (sound.lives x l).0 in omega arith)) (λ none. omega arith)

-- an item of a slot no longer waits with it, nor is it remembered what that shows
collected_tells : (m : ℕ) (v : View) → IsTelling m v → (slot collector y : ℕ) (x : WaitingItem) → IsTelling m (forgetting slot (collected slot collector x y v))
collected_tells m v t slot collector y x = let w : View = forgetting slot (collected slot collector x y v) in record {
  owns = t.owns;
  owned = t.owned;
  sees = t.sees;
  waits = λ i g a. let o = in_others slot v.fractions.waits i g a in let b = t.waits i g o.1 in
      (subst (λ (k : ℕ). 0 < k) (sym (item_kept slot i o.0 v.slots.waits)) b.0, b.1);
  waiting = λ i low o still. dite (ℕ_discrete i slot)
      (λ e. absurd (let z = item_gone slot v.slots.waits in let q = ap (λ (k : ℕ). items_at k w) e in omega arith))
      (λ ne. let b = t.waiting i low (subst (λ (k : ℕ). 0 < k) (item_kept slot i ne v.slots.waits) o) still in in_kept slot v.fractions.waits i b.0 ne b.1);
  inside = λ i g k. t.inside i g (known_by w i g (λ a. inl a) (λ a. inr (inl a)) (λ a. inr (inr (in_others slot v.fractions.waits i g a).1)) k);
}

module _ (slots id : ℕ) (me : SeatState) (live : HasPlace me.0.epoch) where
  abbrev v : View
  v = me.0

  abbrev γ : ℕ
  γ = me.0.fractions.gamma

  abbrev sizes : Sizes
  sizes = me.0.sizes

  abbrev n : ℕ
  n = me.0.sizes.participants

  abbrev May : ℕ → (ℕ → ℕ) → (ℕ → SeatState → Type 0) → Type 0
  May = steps.May slots id me live

  abbrev MayAlone : (SeatState → Type 0) → Type 0
  MayAlone = AllowsAlone (DomainInvariant γ sizes) slots id me

  -- ---- on no word
  -- it closes another collector, or none, and has looked at no place yet; and the right that it has is of another kind
  abbrev reclosed : Option ℕ → View
  reclosed closes = record v { slots = record v.slots { closes = closes; looked = 0 } }

  module _ (collector : ℕ) (was kind : CellKind) (mine : v.cells.rights ≡ record { cell = collector; kind = was } ∷ []) (closes : Option ℕ) where
    abbrev the_right : CellRight
    the_right = record { cell = collector; kind = was }

    abbrev turned : View
    turned = with_right collector kind (reclosed closes)

    module _ (s : State ValueFraction View) (h : DomainInvariant γ sizes s) (at : get_elem? s.views id ≡ some v) where
      recloses : Parts sizes (set s.words 0 (get_or s.words 0 0)) (set s.views id (reclosed closes))
          → (IsTaken sizes s.words the_right → IsTaken sizes s.words (record { cell = collector; kind = kind })) → KeepsClosing v turned
          → DomainInvariant γ sizes record { words = s.words; homes = s.homes; views = set s.views id turned }
      recloses parts taken even = let w : View = turned in let base : View = reclosed closes in
          let near = (h.kept.parts.epoch.each id v.epoch (at_map epoch_of s.views id v at)).inside live in
          let there = set_here s.views id base (at_length s.views id v at) in
          let now : Parts sizes s.words (set s.views id w) = subst (λ (l : List View). Parts sizes s.words l) (set-set s.views id base w)
          (blind_seats sizes s.words (set s.views id base) id base there
          (subst (λ (ws : List ℕ). Parts sizes ws (set s.views id base)) (set-get_or s.words 0 0) parts) v.pledges w.cells) in
          stands γ sizes id v s h at w refl now s.homes
          (part.calm γ sizes s.words s.views s.homes h.homes id v at s.words w (λ j q out. out) (λ j _. refl) (h.homes.moving id v at))
          (records.calm sizes s.views s.homes h.records id v at w (refl, refl, refl, (λ _. refl), refl))
          (uncounted_alone sizes s.words s.views h.counts id v at w refl refl)
          (filled_same sizes s.views h.filled id v at w refl refl refl (λ l. l))
          (banks.alike γ sizes s.words s.views h.bank id v at s.words w (refl, refl, refl, (λ _. refl), refl) (λ _ _. refl))
          (lasts_fewer sizes s.words s.views s.homes h.lasts id v at s.words w s.homes (λ _ _ _ _ l. l) (λ b. (b, refl)) refl (λ _ l. inl l)
          (stored_as_is sizes s.words))
          record {
            each = each_set (KnowsKinds sizes s.words) (KnowsKinds sizes s.words) s.views id w
                (knows_alike sizes s.words v w (h.kinds.each id v at) refl refl (λ i m. m) (λ i o. o) (λ r a. a) (λ i a. a)) (λ j u _ e. h.kinds.each j u e);
            bound = bound_kept sizes s.words s.views h.kinds.bound id v at s.words w (λ i m. inr (m, (omega arith))) refl (inl (λ l. l));
            pledges = pledges_spent s.views h.kinds.pledges id v w at refl (no_participants s.views h.kinds.pledges id v at (omega arith));
            cells = record {
              inside = h.kinds.cells.inside;
              single = λ d. let a = total_set (rights_at d) s.views id v w at in let e = ap (total (is_right d)) mine in
                  let o = h.kinds.cells.single d in omega arith;
              taken = λ j u r e has. ⊎_elim
                  (λ (b : (j ≡ id) × (w ≡ u)). ⊎_elim
                  (λ (first : record { cell = collector; kind = kind } ≡ r). subst (IsTaken sizes s.words) first
                  (taken (h.kinds.cells.taken id v the_right at (0, ap (λ (l : List CellRight). get_elem? l 0) mine))))
                  (λ (no : (m : ℕ) × (get_elem? [] m ≡ some r)). absurd (no_right (record v { cells = no_rights }) refl r no))
                  (first_or (record { cell = collector; kind = kind }) [] r has.0 (ap (λ (q : View). get_elem? q.cells.rights has.0) b.1 ∙ has.1)))
                  (λ (b : (j ≢ id) × (get_elem? s.views j ≡ some u)). h.kinds.cells.taken j u r b.1 has) (at_set s.views id j w u e);
              closing = closers sizes s.words s.views h.kinds.cells id v w at even;
              pointers = h.kinds.cells.pointers;
            };
          }

  -- a participant that has the right to a collector's cell, and closes none, begins to close it
  pub closes : (collector : ℕ) → v.cells.rights ≡ record { cell = collector; kind = Raw } ∷ [] → v.slots.closes ≡ None → MayAlone (ClosesOne collector me)
  closes collector mine idle s h _ at = (
    with_right collector Collector (closing collector v),
    keeps,
    tt,
    recloses collector Raw Collector mine (Some collector) s h at (words.closes id v live s.words s.views h.kept.parts at collector 0)
        (λ t. record { inside = t.inside; full = t.full; kind = t.kind })
        (λ k. let e = ap (total (is_closing_right k)) mine in let c = ap (one_in k) idle in omega arith),
    refl,
  )

  -- and ends that
  pub closes_none : (collector : ℕ) → v.cells.rights ≡ record { cell = collector; kind = Collector } ∷ [] → Closes v collector
      → MayAlone (ClosesNone collector me)
  closes_none collector mine shuts s h _ at = (
    with_right collector Raw (closed_none v),
    keeps,
    tt,
    recloses collector Collector Raw mine None s h at (words.closes_none id v live s.words s.views h.kept.parts at 0)
        (λ t. record { inside = t.inside; full = t.full; kind = t.kind })
        (λ k. let e = ap (total (is_closing_right k)) mine in let c = ap (one_in k) shuts in omega arith),
    refl,
  )

  -- ---- on the word of a slot
  module _ (slot : ℕ) (inside : slot < sizes.slots) (rests : v.fractions.moves ≡ None) where
    abbrev i : ℕ
    i = slot_word sizes slot

    -- it knows other things of private items
    abbrev knowing : List PrivateItem → List ℕ → Option ℕ → Bool → View
    knowing privates emptied empties left = with_privates v privates emptied empties left v.slots.closes v.slots.looked

    module _ (s : State ValueFraction View) (h : DomainInvariant γ sizes s) (at : get_elem? s.views id ≡ some v) where
      -- nobody owns an item where its word says so
      none_own : alive (slot_at sizes s.words slot) ≡ 0 → (j : ℕ) (u : View) → get_elem? s.views j ≡ some u → ¬ (Owns u slot)
      none_own dead j u e o = let a = owner_in codes sound sizes s.words s.views h.kept.parts.slots j slot u e in absurd (omega arith)

      -- the slots are as full as before where this one is
      as_before : (y : ℕ) → valued y ≡ valued (slot_at sizes s.words slot) → (j : ℕ) → j < sizes.slots
          → full_at sizes (set s.words i y) j ≡ full_at sizes s.words j
      as_before y same j low = dite (ℕ_discrete j slot)
          (λ e. subst (λ (k : ℕ). full_at sizes (set s.words i y) k ≡ full_at sizes s.words k) (sym e)
          (ap valued (steps.here slots id me live slot inside s.words y (steps.within slots id me live slot inside s h)) ∙ same))
          (λ ne. steps.others slots id me live slot inside s.words y j low ne)

      -- the kinds' part, where the slot has no owner before and after, and its participant tells of owners what it told
      kinds_then : (y : ℕ) → alive (slot_at sizes s.words slot) ≡ 0 → alive y ≡ 0 → (w : View) → length w.words ≡ words_behind w.sizes
          → w.fractions.moves ≡ None
          → w.fractions.owns ≡ v.fractions.owns → w.slots.holds ≡ v.slots.holds → kind_steps.KeepsPost v w
          → KindsInvariant sizes (set s.words i y) (set s.views id w)
      kinds_then y dead none w long still tells holds post = kind_steps.one_slot sizes s.words s.views h.kinds h.records.each id v at slot inside y w
          (kind_steps.lets_be sizes s.words s.views h.kinds h.records.each id v at slot inside y w
          long still
          (λ r a. let b = subst (λ (l : List ShownValue). HasRecord l r) tells a in (
            b,
            λ e. none_own dead id v at (subst (Owns v) e ((h.records.each id v at).owns r.slot r.value (b.0, r, b.1, refl, refl)).0),
          ))
          (λ k _ o. holds ∙ o))
          (λ j u _ e. inl (none_own dead j u e))
          (steps.here slots id me live slot inside s.words y (steps.within slots id me live slot inside s h)) (λ _. inl (omega arith))
          (λ c. absurd (steps.in_no_cell slots id me live slot inside s h dead c)) post

      module _ (f : ℕ → ℕ) (privates : List PrivateItem) (emptied : List ℕ) (empties : Option ℕ) (left : Bool) where
        -- where a slot without owners has another word, and is as full as before
        rewritten : (y : ℕ) → alive (slot_at sizes s.words slot) ≡ 0 → alive y ≡ 0 → valued y ≡ valued (slot_at sizes s.words slot) → y ≢ raw_word 0
            → (HidesItem y → HidesItem (slot_at sizes s.words slot))
            → IsCalm γ sizes slots id me i f s y (record (knowing privates emptied empties left) { words = noted slot y v })
        rewritten y dead none same apart hid = let w : View = record (knowing privates emptied empties left) { words = noted slot y v } in record {
          more = λ j p out. out;
          same = as_before y same;
          mover = none_out w rests;
          alike = (refl, refl, refl, (λ _. refl), refl);
          counts = refl;
          lives = λ l. l;
          had = λ _ l. inl l;
          stored = stored_hid sizes s.words slot y (steps.within slots id me live slot inside s h) apart hid
              (λ c. absurd (steps.in_no_cell slots id me live slot inside s h dead c));
          kinds = kinds_then y dead none w (steps.wrote_long slots id me live slot inside s h at y) rests refl refl
              (steps.post slots id me live s h at w refl refl refl refl (λ l. l));
        }

        -- where no word changes
        looked_at : IsCalm γ sizes slots id me i f s (get_or s.words i 0) (knowing privates emptied empties left)
        looked_at = let w : View = knowing privates emptied empties left in record {
          more = λ j p out. out;
          same = λ j _. steps.same_words slots id me live slot inside s h j;
          mover = none_out w rests;
          alike = (refl, refl, refl, (λ _. refl), refl);
          counts = refl;
          lives = λ l. l;
          had = λ _ l. inl l;
          stored = stored_same sizes s.words i;
          kinds = kind_steps.calm sizes s.words s.views h.kinds h.records.each id v at (set s.words i (get_or s.words i 0)) w
              (steps.same_slots slots id me live slot inside s h) (refl, refl, refl, (λ _. refl), refl) refl refl (λ _ o. o)
              (steps.post slots id me live s h at w refl refl refl refl (λ l. l));
        }

    -- a close claims what waits for its collector, once it has looked at all places
    pub empties : (collector : ℕ) → private_word collector < shared_base → Closes v collector → n ≤ v.slots.looked → v.slots.empties ≡ None
        → v.slots.left ≡ false → May i (λ x. either (eqb x (private_word collector)) emptying_word x) (OfSlot (EmptiesOne collector) i me)
    empties collector fits shuts all idle fresh = let old : ℕ = private_word collector in let f : ℕ → ℕ = λ x. either (eqb x old) emptying_word x in
        let then = AtSlot (EmptiesSlot collector) i v in lift_calm γ sizes slots id me i f then (OfSlot (EmptiesOne collector) i me)
        (steps.spares slots id me live slot inside f then (λ r w t. let c = t slot refl in dite (ℕ_discrete r old) (λ e. ap (λ (u : View). u.places) (c.0 e))
        (λ ne. ap (λ (u : View). u.places) (c.1 ne))))
        (words.empties id v live slot inside collector fits shuts all idle fresh)
        (λ r w t. steps.at_once slots id me live slot inside (EmptiesOne collector) r (w, me.1) (t slot refl, refl))
        (λ s w h at t. let x : ℕ = get_or s.words i 0 in let c = t slot refl in let is = private_is collector fits in
        let waits = sound.for_one collector old (let o = is.4 in omega arith) in
        exchanged x old emptying_word (λ z. IsCalm γ sizes slots id me i f s z w)
        (λ hit. subst (IsCalm γ sizes slots id me i f s emptying_word) (sym (c.0 hit))
        (rewritten s h at f v.slots.privates v.slots.emptied (Some slot) v.slots.left emptying_word (ap alive hit ∙ is.0) emptying_is.0
        (emptying_valued ∙ sym (ap valued hit ∙ waits.1)) (λ e. absurd (omega arith))
        (λ _. let one = ap private hit ∙ is.3 in (omega arith, ap valued hit ∙ waits.1))))
        (λ miss. subst (IsCalm γ sizes slots id me i f s x) (sym (c.1 miss))
        (looked_at s h at f v.slots.privates v.slots.emptied v.slots.empties v.slots.left)))

    -- what becomes of a private item of its own bag whose word is the one or the other
    module _ (collector : ℕ) (P : View → Type 0) (x : ℕ) (w one : View) (hit : x ≡ private_word collector → w ≡ one)
        (done : x ≡ emptied_word → w ≡ found_emptied slot v) (busy : x ≡ emptying_word → w ≡ orphaned slot v) where
      by_word : (x ≡ private_word collector) ⊎ ((x ≡ emptied_word) ⊎ (x ≡ emptying_word)) → P one → P (found_emptied slot v) → P (orphaned slot v) → P w
      by_word which a b c = ⊎_elim (λ (e : x ≡ private_word collector). subst P (sym (hit e)) a)
          (λ (t : (x ≡ emptied_word) ⊎ (x ≡ emptying_word)). ⊎_elim (λ (e : x ≡ emptied_word). subst P (sym (done e)) b)
          (λ (e : x ≡ emptying_word). subst P (sym (busy e)) c) t) which

    -- a close claims an item of its own bag, of which it knows for whom it waits
    pub empties_own : (collector : ℕ) → WaitsFor collector v slot → private_word collector < shared_base → Closes v collector → n ≤ v.slots.looked
        → v.slots.empties ≡ None → v.slots.left ≡ false
        → May i (λ x. either (eqb x (private_word collector)) emptying_word x) (OfSlot (EmptiesOwnOne collector) i me)
    empties_own collector has fits shuts all idle fresh = let old : ℕ = private_word collector in
        let f : ℕ → ℕ = λ x. either (eqb x old) emptying_word x in let one : View = empties_now slot emptying_word v in
        let then = AtSlot (EmptiesOwn collector) i v in lift_calm γ sizes slots id me i f then (OfSlot (EmptiesOwnOne collector) i me)
        (steps.spares slots id me live slot inside f then (λ r w t. let c = t slot refl in
        by_word collector (λ (u : View). u.places ≡ v.places) r w one c.0 c.1 c.2 c.3 refl refl refl))
        (words.empties_own id v live slot inside collector has fits shuts all idle fresh)
        (λ r w t. steps.at_once slots id me live slot inside (EmptiesOwnOne collector) r (w, me.1) (t slot refl, refl))
        (λ s w h at t. let x : ℕ = get_or s.words i 0 in let c = t slot refl in let is = private_is collector fits in
        let waits = sound.for_one collector old (let o = is.4 in omega arith) in let calm : ℕ → View → Type 0 = IsCalm γ sizes slots id me i f s in
        exchanged x old emptying_word (λ z. calm z w)
        (λ hit. subst (calm emptying_word) (sym (c.0 hit))
        (rewritten s h at f v.slots.privates v.slots.emptied (Some slot) v.slots.left emptying_word (ap alive hit ∙ is.0) emptying_is.0
        (emptying_valued ∙ sym (ap valued hit ∙ waits.1)) (λ e. absurd (omega arith))
        (λ _. let one = ap private hit ∙ is.3 in (omega arith, ap valued hit ∙ waits.1))))
        (λ miss. ⊎_elim (λ (e : x ≡ old). absurd (miss e)) (λ (o : (x ≡ emptied_word) ⊎ (x ≡ emptying_word)). ⊎_elim
        (λ (e : x ≡ emptied_word). subst (calm x) (sym (c.1 e)) (looked_at s h at f v.slots.privates (slot ∷ v.slots.emptied) v.slots.empties v.slots.left))
        (λ (e : x ≡ emptying_word). subst (calm x) (sym (c.2 e))
        (looked_at s h at f (map (orphan slot) v.slots.privates) v.slots.emptied v.slots.empties v.slots.left)) o) c.3))

    -- what it has of a slot waits for one collector
    pub one_collector : (s : State ValueFraction View) → DomainInvariant γ sizes s → get_elem? s.views id ≡ some v → (a b : ℕ) → WaitsFor a v slot
        → WaitsFor b v slot → a ≡ b
    one_collector s h at a b has has' = let c = h.kept.parts.collectors in let x : PrivateItem = has.0 in let y : PrivateItem = has'.0 in
        let there = has.1 in let there' = has'.1 in let few = privates_in codes sound sizes s.words s.views c id slot v at in
        let one = is_same slot x.item.slot has.2 in let two = is_same slot y.item.slot has'.2 in
        let mine = total_has (private_in slot) v.slots.privates there.0 x there.1 in
        let single = (sound.private (slot_at sizes s.words slot) (omega arith)).0 in dite (ℕ_discrete there.0 there'.0)
        (λ same. let is : x ≡ y = some-injective x y (sym there.1 ∙ (ap (get_elem? v.slots.privates) same ∙ there'.1)) in
        sym has.3 ∙ (ap (λ (p : PrivateItem). p.collector) is ∙ has'.3))
        (λ ne. absurd (let both = total_two (private_in slot) v.slots.privates there.0 there'.0 x y ne there.1 there'.1 in omega arith))

    -- a private item is left to the close that empties it
    pub leaves_to_close : (collector : ℕ) → WaitsFor collector v slot
        → May i (λ x. either (eqb x emptying_word) left_word x) (OfSlot (LeavesOneToClose collector) i me)
    leaves_to_close collector has = let f : ℕ → ℕ = λ x. either (eqb x emptying_word) left_word x in
        let then = AtSlot (LeavesToClose collector) i v in
        let which : (P : View → Type 0) (x : ℕ) (w : View) → LeavesToClose collector slot v x w → P (left_to_close slot left_word v) → P (found_emptied slot v)
        → P v → P w
        = λ P x w c one two three. ⊎_elim (λ (e : x ≡ private_word collector). subst P (sym (c.2 e)) three)
        (λ (t : (x ≡ emptied_word) ⊎ (x ≡ emptying_word)). ⊎_elim (λ (e : x ≡ emptied_word). subst P (sym (c.1 e)) two)
        (λ (e : x ≡ emptying_word). subst P (sym (c.0 e)) one) t) c.3 in
        lift_calm γ sizes slots id me i f then (OfSlot (LeavesOneToClose collector) i me)
        (steps.spares slots id me live slot inside f then (λ r w t. which (λ (u : View). u.places ≡ v.places) r w (t slot refl) refl refl refl))
        (words.leaves_to_close id v live slot inside collector has)
        (λ r w t. steps.at_once slots id me live slot inside (LeavesOneToClose collector) r (w, me.1) (t slot refl, refl))
        (λ s w h at t. let x : ℕ = get_or s.words i 0 in let c = t slot refl in
        let calm : ℕ → View → Type 0 = IsCalm γ sizes slots id me i f s in
        exchanged x emptying_word left_word (λ z. calm z w)
        (λ hit. subst (calm left_word) (sym (c.0 hit))
        (rewritten s h at f (left_to_close slot left_word v).slots.privates v.slots.emptied v.slots.empties v.slots.left left_word
        (ap alive hit ∙ emptying_is.0) left_is.0 (left_valued ∙ sym (ap valued hit ∙ emptying_valued)) (λ e. absurd (omega arith))
        (λ _. let one = ap emptying hit ∙ emptying_is.4 in (omega arith, ap valued hit ∙ emptying_valued))))
        (λ miss. ⊎_elim
        (λ (e : x ≡ private_word collector). subst (calm x) (sym (c.2 e)) (looked_at s h at f v.slots.privates v.slots.emptied v.slots.empties v.slots.left))
        (λ (t : (x ≡ emptied_word) ⊎ (x ≡ emptying_word)). ⊎_elim
        (λ (e : x ≡ emptied_word). subst (calm x) (sym (c.1 e)) (looked_at s h at f v.slots.privates (slot ∷ v.slots.emptied) v.slots.empties v.slots.left))
        (λ (e : x ≡ emptying_word). absurd (miss e)) t) c.3))

    -- the slot of one that was found emptied is free
    pub gives_private_back : FoundEmptied v slot → May i (λ _. free_word 0) (λ _. OfSlot GivesOnePrivateBack i me (free_word 0))
    gives_private_back was = let y : ℕ = free_word 0 in let f : ℕ → ℕ = λ _. y in let then : ℕ → View → Type 0 = λ _. AtSlot GivesPrivateBack i v y in
        let now : View = private_given_back slot y v in
        lift_calm γ sizes slots id me i f then (λ _. OfSlot GivesOnePrivateBack i me y)
        (steps.spares slots id me live slot inside f then (λ r w t. ap (λ (u : View). u.places) (t slot refl)))
        (words.gives_private_back id v live slot inside was)
        (λ r w t. steps.at_once slots id me live slot inside GivesOnePrivateBack y (w, me.1) (t slot refl, refl))
        (λ s w h at t. let is = ((h.kept.parts.collectors.each id v at).found slot was).0 in let free = free_is 0 (omega arith) in
        subst (IsCalm γ sizes slots id me i f s y) (sym (t slot refl))
        (rewritten s h at f now.slots.privates now.slots.emptied v.slots.empties v.slots.left y (ap alive is ∙ emptied_is.0) free.0
        (sound.empty y free.2 ∙ sym (ap valued is ∙ emptied_is.5)) (λ e. absurd (omega arith)) (λ hides. absurd (empty_shows y (sound.empty y free.2) hides))))

    -- an item that waits is collected, beside the right to the cell of an open collector, of which a share is pledged
    module _ (collector : ℕ) (p : Pledge) (own : v.pledges.own ≡ p ∷ []) (is : p.view ≡ the_row.coded.code (right_to collector Raw)) where
      -- so nobody closes the collector
      none_closes : (s : State ValueFraction View) (h : DomainInvariant γ sizes s) → get_elem? s.views id ≡ some v → (j : ℕ) (u : View)
          → get_elem? s.views j ≡ some u → ¬ (Closes u collector)
      none_closes s h at j u e shuts = let r : CellRight = record { cell = collector; kind = Raw } in let cells = h.kinds.cells in
          let b = right_beside s.views p collector Raw is (h.kinds.pledges.backed id v p at own).beside in
          let c = closing_right sizes s.words s.views cells j collector u e shuts in let q : CellRight = c.2 in
          let same : r ≡ q = one_right sizes s.words s.views cells p.seat c.0 b.owner c.1 r q b.there c.3 b.has c.4 (sym c.5.0) in
          subst IsBare (ap (λ (x : CellRight). x.kind) same ∙ c.5.1) tt

      -- what an item shows that waits with it is known to whoever has the only place
      known : (s : State ValueFraction View) (h : DomainInvariant γ sizes s) (at : get_elem? s.views id ≡ some v) (x : WaitingItem) → HasWaiting v slot x
          → (shared : Bool) × AllKnow sizes s.words s.views s.homes h.lasts id v at slot shared
      known s h at x has = let one = total_has (waits_in slot) v.slots.waits has.1.0 x has.1.1 in let same = is_same slot x.slot has.0 in
          let b = ((h.records.each id v at).waiting slot inside (omega arith) (none_moved v slot rests)).1 in let r : ShownValue = b.1 in (
            r.shared,
            λ single j u e placed z last. let shows : r.value ≡ z.content.shown = sym (h.records.home slot n r.value z inside (omega arith)
                (records.mine sizes s.views s.homes h.records id v at slot r.value (inr (inr (b.0, r, b.2, b.3, refl)))) last) in
                ap (λ (k : ℕ). newest k u.fractions.filled) (sym b.3) ∙ (h.filled.knows single j id u v r e placed at (inr (b.0, b.2))
                ∙ (λ d. Some (record { slot = b.3 d; shared = r.shared; value = shows d }))),
          )

      pub collects : (item : WaitingItem) → HasWaiting v slot item → private_word collector < shared_base
          → May i (λ _. private_word collector) (λ _. OfSlot (CollectsOne collector) i me (private_word collector))
      collects item has fits = let y : ℕ = private_word collector in let told : ℕ → SeatState → Type 0 = λ _. OfSlot (CollectsOne collector) i me y in
          let then : ℕ → View → Type 0 = λ _. AtSlot (Collects collector) i v y in let code = private_is collector fits in
          let will = sound.for_one collector y (let o = code.4 in omega arith) in
          lift_whole γ sizes slots id me i (λ _. y) then told
          (steps.spares slots id me live slot inside (λ _. y) then (λ r w t. ap (λ (u : View). u.places) (t slot refl).2))
          (λ s h at small. words.collects id v live slot inside collector item has fits s.words s.views h.kept.parts at (none_closes s h at))
          (λ s w h at t. let c = t slot refl in let x : WaitingItem = c.0 in let now : View = forgetting slot (collected slot collector x y v) in
          let r = h.records in let mine = records.mine sizes s.views s.homes r id v at in
          let waits : 0 < waiting (slot_at sizes s.words slot)
          = subst (λ (d : ℕ). 0 < waiting (slot_at sizes s.words d)) c.1.0
          (waiter_in codes sound sizes s.words s.views h.kept.parts.slots id c.1.1.0 v x at c.1.1.1) in
          let dead : alive (slot_at sizes s.words slot) ≡ 0 = waiting_dead (slot_at sizes s.words slot) waits in
          let same = as_before s h at y (will.1 ∙ sym (sound.waits (slot_at sizes s.words slot) waits).2) in
          let outside = steps.in_no_cell slots id me live slot inside s h dead in
          subst (Follows γ sizes id i me told s y) (sym c.2) record {
            fractions = now.fractions;
            act = keeps;
            valid = tt;
            homes = part.calm γ sizes s.words s.views s.homes h.homes id v at (set s.words i y) now (λ j q out. out) same (none_out now rests);
            records = records.no_more sizes s.views s.homes r id v at now (λ b. r.deposits id v at b) s.homes
                (collected_tells sizes.slots v (r.each id v at) slot collector y x)
                (λ j g k. known_by now j g (λ a. mine j g (inl a)) (λ a. mine j g (inr (inl a)))
                (λ a. mine j g (inr (inr (in_others slot v.fractions.waits j g a).1))) k)
                (λ j q z _ _ lies. inl lies) (λ j m. m) (λ j a. a);
            counts = uncounted sizes s.words s.views h.counts id v at (set s.words i y) now refl (λ l. l) (as_full sizes s.words (set s.words i y) same)
                (steps.over_slot slots id me live slot inside s h y);
            filled = steps.filled_by slots id me live s h at now refl
                (steps.tells_old_by slots id me live s h at now (λ q a. inl a) (λ q a. inr (has_old slot v.fractions.waits q a)));
            bank = banks.calm γ sizes s.words s.views h.bank id v at (set s.words i y) now
                record { bank = refl; founds = refl; gamma = refl; banked = refl; drawn = refl } refl (h.bank.low id v at) same;
            lasts = lasts_out sizes s.words s.views s.homes h.lasts id v at (set s.words i y) now (λ b. (b, refl)) refl (λ l. l)
                (λ j other near is. inl (dite (ℕ_discrete j slot)
                (λ e. subst (λ (k : ℕ). IsStored sizes s.words k other) (sym e)
                (stored_by sizes s.words (set s.words i y) (cells_slot sizes s.words slot y) slot other
                (λ raw. absurd (let d = sym (steps.here slots id me live slot inside s.words y (steps.within slots id me live slot inside s h)) ∙ raw in
                omega arith))
                (λ d. absurd (outside d)) (subst (λ (k : ℕ). IsStored sizes (set s.words i y) k other) e is)))
                (λ ne. (stored_other sizes s.words slot y j near ne).0 other is)))
                (λ j near is. dite (ℕ_discrete j slot)
                (λ e. let b = known s h at x c.1 in inr (b.0, subst (λ (k : ℕ). AllKnow sizes s.words s.views s.homes h.lasts id v at k b.0) (sym e) b.1))
                (λ ne. inl ((stored_other sizes s.words slot y j near ne).1 is)));
            kinds = kinds_then s h at y dead code.0 now (steps.wrote_long slots id me live slot inside s h at y) rests refl refl
                (steps.post slots id me live s h at now refl refl refl refl (λ l. l));
            tells = steps.at_once slots id me live slot inside (CollectsOne collector) y (now, me.1)
                (collected slot collector x y v, (x, c.1, refl), refl, refl);
          })
