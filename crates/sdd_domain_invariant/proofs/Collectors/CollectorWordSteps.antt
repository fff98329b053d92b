-- The steps on private items keep all parts of the words' rule.
use Rattle.std.proofs.Common.{◌≡◌, ◌≢◌, ◌⊎◌, inl, inr, ℕ, ◌+◌, ◌<◌, ◌≤◌, eqb, eq-eqb, ne_eqb, Bool, true, false, List, [], ◌∷◌, ◌++◌, length, map, get_or, set, sym, refl, ap, ◌∙◌, subst, ⊎_elim, arith, get_or-set_other, get_or-set_same}
use Rattle.std.proofs.lemmas.List.{set-set}
use Rattle.std.specs.Prelude.{Option, None, Some, not, if◌then◌else◌}
use mathlib.Core.Option.{some}
use mathlib.Core.Logic.{dite}
use native.Mathlib.Decide.{ℕ_discrete}
use lib.ListN.{get_elem?}
use prog.Atomic.{either}
use Rattle.atomic_table.proofs.Lists.{at_map, at_snoc, set_here, exchanged}
use Rattle.sdd_rights.specs.declared.views.EpochView.{EpochView}
use Rattle.sdd_rights.specs.declared.views.PrivateItem.{PrivateItem}
use Rattle.sdd_rights.specs.declared.views.WaitingItem.{WaitingItem}
use Rattle.sdd_rights.specs.declared.views.View.{View}
use Rattle.sdd_rights.specs.declared.views.Sizes.{Sizes}
use Rattle.sdd_domain_invariant.specs.Words.{slot_word}
use Rattle.sdd_domain_invariant.specs.Sums.{total, is as is_at, times}
use Rattle.sdd_domain_invariant.specs.Codes.{WordReading, codes, waiting, shared_base, free_word, waiting_word, private_word, emptying_word, emptied_word, left_word}
use Rattle.sdd_domain_invariant.specs.Epoch.{HasPlace, EpochInvariant}
use Rattle.sdd_domain_invariant.specs.Epoch.EpochSteps.{Steps}
use Rattle.sdd_domain_invariant.specs.Slots.{slot_at, waits_in, Sees, IsTimed, SlotsInvariant}
use Rattle.sdd_domain_invariant.specs.Slots.SlotSteps.{noted, without, without_item, AtSlot}
use Rattle.sdd_domain_invariant.specs.Collectors.{private_in, privates_at, one_in, empties_at, Empties, Closes, FoundEmptied, HasPrivate, HasValue, KnowsPrivates, SeenBeforeClosed, CollectorsInvariant}
use Rattle.sdd_domain_invariant.specs.Collectors.CollectorWordSteps.{without_private, for_collector, collected, reclaimed, no_collector, orphan, orphaned, found_emptied, left_to_close, private_given_back, closing, closed_none, empties_now, emptied_now, finds_left, empty_given_back, own_given_back, WaitsFor, HasWaiting, Collects, Reclaims, LeavesToClose, GivesPrivateBack, EmptiesSlot, EmptiesOwn, HasEmptied, GivesEmptyBack, GivesOwnBack}
use Rattle.sdd_domain_invariant.specs.WordInvariant.{epoch_of, Parts}
use Rattle.sdd_domain_invariant.proofs.Frame.{each_set}
use Rattle.sdd_domain_invariant.proofs.Sums.{total_set, total_snoc, total_has, total_map, total_some, total_two, at_filter, both_set, is_same, is_other, without_same, without_other}
use Rattle.sdd_domain_invariant.proofs.Codes.{sound, private_is, emptied_is, emptying_is, left_is, free_is, waiting_is, which_private, which_emptying, waits_privately}
use Rattle.sdd_domain_invariant.proofs.Slots.SlotWords.{waiter_in}
use Rattle.sdd_domain_invariant.proofs.Slots.SlotEpochs.{of_map}
use Rattle.sdd_domain_invariant.proofs.Epoch.{at_length}
use Rattle.sdd_domain_invariant.proofs.Collectors.{plain_waiting, plain_free, plain_has, none_for, private_at, privates_in, emptying_at}
use Rattle.sdd_domain_invariant.proofs.Collectors.PrivateSlots.{private_gone, private_kept, with_privates, blind_privates, turns, waits_no_more, comes_to_wait}
use Rattle.sdd_domain_invariant.proofs.Slots.SlotSteps as steps

-- what others know of the slot i stays so, where its word is y from now on
pub record SparesOthers (z : WordReading) (vs : List View) (id i y : ℕ) : Type 0 where
  pub names : (j : ℕ) (u : View) → j ≢ id → get_elem? vs j ≡ some u → (x : PrivateItem) → HasPrivate u x → x.item.slot ≡ i → (k : ℕ) → 0 < z.waits_for k y
      → k ≡ x.collector
  pub found : (j : ℕ) (u : View) → j ≢ id → get_elem? vs j ≡ some u → FoundEmptied u i → y ≡ emptied_word
  pub left : (j : ℕ) (u : View) → j ≢ id → get_elem? vs j ≡ some u → Empties u i → y ≡ left_word
  pub seen : (j : ℕ) (u : View) → j ≢ id → get_elem? vs j ≡ some u → Sees u i → HasValue z y

module _ (z : WordReading) (sizes : Sizes) (ws : List ℕ) (vs : List View) (c : CollectorsInvariant z sizes ws vs) (id : ℕ) (v : View)
    (at : get_elem? vs id ≡ some v) (i y : ℕ) (low : slot_word sizes i < length ws) where
  abbrev after : List ℕ
  after = set ws (slot_word sizes i) y

  now : (j : ℕ) → j ≡ i → slot_at sizes after j ≡ y
  now j e = ap (slot_at sizes after) e ∙ get_or-set_same ws (slot_word sizes i) y 0 low

  there : (j : ℕ) → j ≢ i → slot_at sizes after j ≡ slot_at sizes ws j
  there j ne = get_or-set_other ws (slot_word sizes i) (slot_word sizes j) y 0 (λ e. ne (omega arith))

  -- a private item that it has after the step it had, or it comes to have it, and each guard that sees its slot published before its retirement
  abbrev pub Comes : View → Type 0
  Comes w = (x : PrivateItem) → HasPrivate w x
      → HasPrivate v x ⊎ ((j : ℕ) (u : View) → get_elem? vs j ≡ some u → Sees u x.item.slot → u.epoch.since ≤ x.item.retired_at)

  -- what the word tells of collectors it told before, or nobody closes these
  abbrev pub Asks : Type 0
  Asks = (k : ℕ) → 0 < z.waits_for k y → (0 < z.waits_for k (slot_at sizes ws i)) ⊎ ((j : ℕ) (u : View) → get_elem? vs j ≡ some u → ¬ (Closes u k))

  -- a step on the word of one slot
  pub private_step : (w : View) → z.private y + privates_at i v ≡ z.private (slot_at sizes ws i) + privates_at i w
      → ((j : ℕ) → j ≢ i → privates_at j v ≡ privates_at j w)
      → z.emptying y + empties_at i v ≡ z.emptying (slot_at sizes ws i) + empties_at i w → ((j : ℕ) → j ≢ i → empties_at j v ≡ empties_at j w)
      → Asks → KnowsPrivates z sizes after w → SparesOthers z vs id i y
      → w.slots.sees ≡ v.slots.sees → w.epoch ≡ v.epoch → w.slots.closes ≡ v.slots.closes → w.slots.looked ≡ v.slots.looked → Comes w
      → CollectorsInvariant z sizes after (set vs id w)
  private_step w private private' emptied emptied' asks mine others sees epoch closes looked comes =
      let saw : (k : ℕ) → Sees w k → Sees v k = λ k h. subst (λ (l : List ℕ). 0 < times k l) sees h in
      let still : (l : ℕ) (a b : View) → get_elem? vs l ≡ some b → SeenBeforeClosed z sizes ws a b → SeenBeforeClosed z sizes after a b
      = λ l a b eb g. record {
        since = g.since;
        looked = λ d k seen shuts h. dite (ℕ_discrete d i)
            (λ e. ⊎_elim (λ (old : 0 < z.waits_for k (slot_at sizes ws i)).
            g.looked d k seen shuts (subst (λ (q : ℕ). 0 < z.waits_for k (slot_at sizes ws q)) (sym e) old))
            (λ (none : (j : ℕ) (u : View) → get_elem? vs j ≡ some u → ¬ (Closes u k)). absurd (none l b eb shuts))
            (asks k (subst (λ (x : ℕ). 0 < z.waits_for k x) (now d e) h)))
            (λ ne. g.looked d k seen shuts (subst (λ (x : ℕ). 0 < z.waits_for k x) (there d ne) h));
      } in
      let guards : (l : ℕ) (u : View) → get_elem? vs l ≡ some u → SeenBeforeClosed z sizes after w u
      = λ l u e. let g = still l v u e (c.two id l v u at e) in record {
        since = λ d x h has same. let o = g.since d x (saw d h) has same in let q = ap (λ (t : EpochView). t.since) epoch in omega arith;
        looked = λ d k h shuts for. let o = g.looked d k (saw d h) shuts for in let q = ap (λ (t : EpochView). t.place) epoch in omega arith;
      } in
      let closers : (j : ℕ) (u : View) → get_elem? vs j ≡ some u → SeenBeforeClosed z sizes after u w
      = λ j u e. let g = still id u v at (c.two j id u v e at) in record {
        since = λ d x h has same. ⊎_elim (λ (old : HasPrivate v x). g.since d x h old same)
            (λ (new : (j : ℕ) (u : View) → get_elem? vs j ≡ some u → Sees u x.item.slot → u.epoch.since ≤ x.item.retired_at).
            new j u e (subst (Sees u) (sym same) h)) (comes x has);
        looked = λ d k h shuts for. let o = g.looked d k h (sym closes ∙ shuts) for in omega arith;
      } in record {
        private = λ j. let t = total_set (privates_at j) vs id v w at in let s = c.private j in dite (ℕ_discrete j i)
            (λ e. let n = ap z.private (now j e) in let o = ap (λ (k : ℕ). z.private (slot_at sizes ws k)) e in
            let a = ap (λ (k : ℕ). privates_at k v) e in let b = ap (λ (k : ℕ). privates_at k w) e in omega arith)
            (λ ne. let n = ap z.private (there j ne) in let o = private' j ne in omega arith);
        emptied = λ j. let t = total_set (empties_at j) vs id v w at in let s = c.emptied j in dite (ℕ_discrete j i)
            (λ e. let n = ap z.emptying (now j e) in let o = ap (λ (k : ℕ). z.emptying (slot_at sizes ws k)) e in
            let a = ap (λ (k : ℕ). empties_at k v) e in let b = ap (λ (k : ℕ). empties_at k w) e in omega arith)
            (λ ne. let n = ap z.emptying (there j ne) in let o = emptied' j ne in omega arith);
        each = each_set (KnowsPrivates z sizes ws) (KnowsPrivates z sizes after) vs id w mine (λ j u apart e. let f = c.each j u e in record {
          timed = f.timed;
          names = λ x has k h. dite (ℕ_discrete x.item.slot i)
              (λ same. others.names j u apart e x has same k (subst (λ (q : ℕ). 0 < z.waits_for k q) (now x.item.slot same) h))
              (λ ne. f.names x has k (subst (λ (q : ℕ). 0 < z.waits_for k q) (there x.item.slot ne) h));
          found = λ d h. let g = f.found d h in (
            dite (ℕ_discrete d i)
                (λ same. now d same ∙ others.found j u apart e (subst (FoundEmptied u) same h)) (λ ne. there d ne ∙ g.0),
            g.1,
          );
          left = λ l d h. dite (ℕ_discrete d i)
              (λ same. now d same ∙ others.left j u apart e (subst (Empties u) same h)) (λ ne. there d ne ∙ f.left l d h);
          seen = λ d h. dite (ℕ_discrete d i)
              (λ same. subst (HasValue z) (sym (now d same)) (others.seen j u apart e (subst (Sees u) same h)))
              (λ ne. subst (HasValue z) (sym (there d ne)) (f.seen d h));
        });
        two = both_set (SeenBeforeClosed z sizes after) vs id w (λ j k a b ea eb. still k a b eb (c.two j k a b ea eb))
            (record {
              since = λ d x h has same. let o = (closers id v at).since d x (saw d h) has same in let q = ap (λ (t : EpochView). t.since) epoch in omega arith;
              looked = λ d k h shuts for. let o = (closers id v at).looked d k (saw d h) shuts for in
                  let q = ap (λ (t : EpochView). t.place) epoch in omega arith;
            })
            (λ j u _ e. (guards j u e, closers j u e));
      }

module _ (z : WordReading) (sizes : Sizes) (ws : List ℕ) (vs : List View) (c : CollectorsInvariant z sizes ws vs) (id : ℕ) (v : View)
    (at : get_elem? vs id ≡ some v) where
  -- no word changes, and it has the private items that it had
  pub private_view : (w : View) → w.slots.privates ≡ v.slots.privates → w.slots.empties ≡ v.slots.empties → w.slots.sees ≡ v.slots.sees
      → w.epoch ≡ v.epoch
      → ((d : ℕ) → FoundEmptied w d → (slot_at sizes ws d ≡ emptied_word) × (0 < privates_at d v))
      → (w.slots.left ≡ true → (d : ℕ) → Empties v d → slot_at sizes ws d ≡ left_word)
      → ((j : ℕ) (u : View) → get_elem? vs j ≡ some u → (d k : ℕ) → Sees u d → Closes w k → 0 < z.waits_for k (slot_at sizes ws d)
      → w.slots.looked ≤ u.epoch.place)
      → CollectorsInvariant z sizes ws (set vs id w)
  private_view w privates empties sees epoch found left looked = let f = c.each id v at in
      let saw : (k : ℕ) → Sees w k → Sees v k = λ k h. subst (λ (l : List ℕ). 0 < times k l) sees h in
      let had : (x : PrivateItem) → HasPrivate w x → HasPrivate v x
      = λ x has. (has.0, ap (λ (l : List PrivateItem). get_elem? l has.0) (sym privates) ∙ has.1) in
      let guards : (u : View) → SeenBeforeClosed z sizes ws v u → SeenBeforeClosed z sizes ws w u = λ u g. record {
        since = λ d x h has same. let o = g.since d x (saw d h) has same in let q = ap (λ (t : EpochView). t.since) epoch in omega arith;
        looked = λ d k h shuts for. let o = g.looked d k (saw d h) shuts for in let q = ap (λ (t : EpochView). t.place) epoch in omega arith;
      } in
      let closers : (j : ℕ) (u : View) → get_elem? vs j ≡ some u → SeenBeforeClosed z sizes ws u w = λ j u e. record {
        since = λ d x h has same. (c.two j id u v e at).since d x h (had x has) same;
        looked = looked j u e;
      } in record {
        private = λ j. let t = total_set (privates_at j) vs id v w at in let s = c.private j in let e = ap (total (private_in j)) privates in omega arith;
        emptied = λ j. let t = total_set (empties_at j) vs id v w at in let s = c.emptied j in let e = ap (one_in j) empties in omega arith;
        each = each_set (KnowsPrivates z sizes ws) (KnowsPrivates z sizes ws) vs id w
            record {
              timed = λ x has. subst (λ (e : EpochView). IsTimed e x.item) (sym epoch) (f.timed x (had x has));
              names = λ x has. f.names x (had x has);
              found = λ d h. let g = found d h in let e = ap (total (private_in d)) privates in let g1 = g.1 in (g.0, omega arith);
              left = λ l d h. left l d (sym empties ∙ h);
              seen = λ d h. f.seen d (saw d h);
            }
            (λ j u _ e. c.each j u e);
        two = both_set (SeenBeforeClosed z sizes ws) vs id w c.two
            (record {
              since = λ d x h has same. let o = (closers id v at).since d x (saw d h) has same in let q = ap (λ (t : EpochView). t.since) epoch in omega arith;
              looked = λ d k h shuts for. let o = (closers id v at).looked d k (saw d h) shuts for in
                  let q = ap (λ (t : EpochView). t.place) epoch in omega arith;
            })
            (λ j u _ e. (guards u (c.two id j v u at e), closers j u e));
      }

-- what waits is the same where it waits for no collector from now on, and other slots' items are as they were
orphan_here : (b : Bool) (x : PrivateItem) → (if b then record x { collector = no_collector } else x).item ≡ x.item
orphan_here true x = refl
orphan_here false x = refl

orphan_item : (slot : ℕ) (x : PrivateItem) → (orphan slot x).item ≡ x.item
orphan_item slot x = orphan_here (eqb x.item.slot slot) x

orphan_other : (slot : ℕ) (x : PrivateItem) → x.item.slot ≢ slot → orphan slot x ≡ x
orphan_other slot x ne = ap (λ (b : Bool). if b then record x { collector = no_collector } else x) (ne_eqb x.item.slot slot ne)

module _ (z : WordReading) (sizes : Sizes) (ws : List ℕ) (vs : List View) (c : CollectorsInvariant z sizes ws vs) (id : ℕ) (v : View)
    (at : get_elem? vs id ≡ some v) (slot : ℕ) (silent : (k : ℕ) → ¬ (0 < z.waits_for k (slot_at sizes ws slot))) where
  -- no word changes, and an item whose word tells of no collector waits for none
  private_orphaned : CollectorsInvariant z sizes ws (set vs id (orphaned slot v))
  private_orphaned = let w : View = orphaned slot v in let f = c.each id v at in
      let young : (x : PrivateItem) → HasPrivate w x → (y : PrivateItem) × HasPrivate v y × (orphan slot y ≡ x)
      = λ x has. let p = of_map (orphan slot) v.slots.privates has.0 x has.1 in (p.0, (has.0, p.1), p.2) in
      let item_of : (x y : PrivateItem) → orphan slot y ≡ x → y.item ≡ x.item
      = λ x y e. sym (orphan_item slot y) ∙ ap (λ (q : PrivateItem). q.item) e in
      let same : (j : ℕ) → privates_at j w ≡ privates_at j v
      = λ j. total_map (private_in j) (orphan slot) (λ x. ap (waits_in j) (orphan_item slot x)) v.slots.privates in
      let closers : (j : ℕ) (u : View) → get_elem? vs j ≡ some u → SeenBeforeClosed z sizes ws u w = λ j u e. let g = c.two j id u v e at in record {
        since = λ d x h has is. let p = young x has in let i = item_of x p.0 p.2 in
            subst (λ (t : WaitingItem). u.epoch.since ≤ t.retired_at) i (g.since d p.0 h p.1 (ap (λ (t : WaitingItem). t.slot) i ∙ is));
        looked = g.looked;
      } in record {
        private = λ j. let t = total_set (privates_at j) vs id v w at in let s = c.private j in let e = same j in omega arith;
        emptied = λ j. let t = total_set (empties_at j) vs id v w at in let s = c.emptied j in omega arith;
        each = each_set (KnowsPrivates z sizes ws) (KnowsPrivates z sizes ws) vs id w
            record {
              timed = λ x has. let p = young x has in subst (IsTimed v.epoch) (item_of x p.0 p.2) (f.timed p.0 p.1);
              names = λ x has k for. let p = young x has in let y : PrivateItem = p.0 in dite (ℕ_discrete y.item.slot slot)
                  (λ e. absurd (silent k (subst (λ (d : ℕ). 0 < z.waits_for k (slot_at sizes ws d))
                  (sym (ap (λ (t : WaitingItem). t.slot) (item_of x y p.2)) ∙ e) for)))
                  (λ ne. let is : y ≡ x = sym (orphan_other slot y ne) ∙ p.2 in subst (λ (q : PrivateItem). k ≡ q.collector) is
                  (f.names y p.1 k (subst (λ (q : PrivateItem). 0 < z.waits_for k (slot_at sizes ws q.item.slot)) (sym is) for)));
              found = λ d h. let g = f.found d h in let e = same d in let g1 = g.1 in (g.0, omega arith);
              left = f.left;
              seen = f.seen;
            }
            (λ j u _ e. c.each j u e);
        two = both_set (SeenBeforeClosed z sizes ws) vs id w c.two
            (record { since = (closers id v at).since; looked = (c.two id id v v at at).looked })
            (λ j u _ e. (let g = c.two id j v u at e in record { since = g.since; looked = g.looked }, closers j u e));
      }

module _ (id : ℕ) (v : View) (live : HasPlace v.epoch) where
  abbrev sizes : Sizes
  sizes = v.sizes

  module _ (ws : List ℕ) (vs : List View) (p : Parts sizes ws vs) (at : get_elem? vs id ≡ some v) where
    -- no word changes
    stays : (w : View) → w.epoch ≡ v.epoch → w.words ≡ v.words → SlotsInvariant codes sizes ws (set vs id w) → CollectorsInvariant codes sizes ws (set vs id w)
        → (i : ℕ) → Parts sizes (set ws i (get_or ws i 0)) (set vs id w)
    stays w epoch words slots collectors i = steps.loaded id v live ws vs p at i w epoch words slots collectors

    -- it begins to close a collector, or closes none
    closes_next : (closes : Option ℕ)
        → CollectorsInvariant codes sizes ws (set vs id (record v { slots = record v.slots { closes = closes; looked = 0 } }))
    closes_next closes = let f = p.collectors.each id v at in
        private_view codes sizes ws vs p.collectors id v at (record v { slots = record v.slots { closes = closes; looked = 0 } })
        refl refl refl refl f.found f.left (λ _ _ _ _ _ _ _ _. omega arith)

    pub closes : (collector i : ℕ) → Parts sizes (set ws i (get_or ws i 0)) (set vs id (closing collector v))
    closes collector = stays (closing collector v) refl refl
        (blind_privates codes sound sizes ws vs p.slots id v at v.slots.privates v.slots.emptied v.slots.empties v.slots.left (Some collector) 0 (omega arith))
        (closes_next (Some collector))

    pub closes_none : (i : ℕ) → Parts sizes (set ws i (get_or ws i 0)) (set vs id (closed_none v))
    closes_none = stays (closed_none v) refl refl
        (blind_privates codes sound sizes ws vs p.slots id v at v.slots.privates v.slots.emptied v.slots.empties v.slots.left None 0 (omega arith))
        (closes_next None)

  module _ (slot : ℕ) (inside : slot < sizes.slots) where
    abbrev i : ℕ
    i = slot_word sizes slot

    -- the word tells which slot it is
    at_slot : (R : ℕ → View → ℕ → View → Type 0) (x : ℕ) (w : View) → R slot v x w → AtSlot R i v x w
    at_slot R x w r other is = subst (λ (k : ℕ). R k v x w) (steps.same_slot id v live slot other is) r

    module _ (ws : List ℕ) (vs : List View) (p : Parts sizes ws vs) (at : get_elem? vs id ≡ some v) where
      abbrev x : ℕ
      x = slot_at sizes ws slot

      low : i < length ws
      low = let l = p.slots.long in omega arith

      -- the slots' part, whatever it knows of private items then
      blinded : (y : ℕ) (w : View) → SlotsInvariant codes sizes (set ws i y) (set vs id w) → (privates : List PrivateItem)
          (emptied : List ℕ) (empties : Option ℕ)
          (left : _) → SlotsInvariant codes sizes (set ws i y) (set vs id (with_privates w privates emptied empties left w.slots.closes w.slots.looked))
      blinded y w s privates emptied empties left =
          let w' : View = with_privates w privates emptied empties left w.slots.closes w.slots.looked in
          subst (λ (l : List View). SlotsInvariant codes sizes (set ws i y) l) (set-set vs id w w')
          (blind_privates codes sound sizes (set ws i y) (set vs id w) s id w (set_here vs id w (at_length vs id v at)) privates emptied empties left
          w.slots.closes w.slots.looked (omega arith))

      -- the word after the step, of this slot and of others
      here : (y d : ℕ) → d ≡ slot → slot_at sizes (set ws i y) d ≡ y
      here y = now codes sizes ws vs p.collectors id v at slot y low

      beside : (y d : ℕ) → d ≢ slot → slot_at sizes (set ws i y) d ≡ slot_at sizes ws d
      beside y = there codes sizes ws vs p.collectors id v at slot y low

      -- it is the only one with a private item of the slot
      alone : (r : PrivateItem) → HasPrivate v r → r.item.slot ≡ slot
          → (privates_at slot v ≡ 1) × (codes.private x ≡ 1) × ((j : ℕ) (u : View) → j ≢ id → get_elem? vs j ≡ some u → privates_at slot u ≡ 0)
      alone r has same = let one = is_same slot r.item.slot same in let m = total_has (private_in slot) v.slots.privates has.0 r has.1 in
          let most = privates_in codes sound sizes ws vs p.collectors id slot v at in let sum = p.collectors.private slot in
          let single = (sound.private x (omega arith)).0 in (
            omega arith,
            single,
            λ j u apart e. let both = total_two (privates_at slot) vs j id u v apart e at in omega arith,
          )

      -- another one that found it emptied has a private item of it, and one that has such an item counts it
      none_found : (u : View) → KnowsPrivates codes sizes ws u → privates_at slot u ≡ 0 → ¬ (FoundEmptied u slot)
      none_found u k none h = let g = (k.found slot h).1 in omega arith

      none_has : (u : View) → privates_at slot u ≡ 0 → (r : PrivateItem) → HasPrivate u r → r.item.slot ≢ slot
      none_has u none r has same = let one = is_same slot r.item.slot same in let m = total_has (private_in slot) u.slots.privates has.0 r has.1 in omega arith

      -- only one empties the slot
      one_empties : Empties v slot → (codes.emptying x ≡ 1) × ((j : ℕ) (u : View) → j ≢ id → get_elem? vs j ≡ some u → ¬ (Empties u slot))
      one_empties mine = let more = emptying_at codes sound sizes ws vs p.collectors id slot v at mine in let single = (sound.emptying x more).0 in
          let one = is_same slot slot refl in let e = ap (one_in slot) mine in let sum = p.collectors.emptied slot in (
            single,
            λ j u apart at' h. let e' = ap (one_in slot) h in let both = total_two (empties_at slot) vs j id u v apart at' at in omega arith,
          )

      -- nobody does where the word says so
      none_empties : codes.emptying x ≡ 0 → (j : ℕ) (u : View) → get_elem? vs j ≡ some u → ¬ (Empties u slot)
      none_empties none j u e h = let m = emptying_at codes sound sizes ws vs p.collectors j slot u e h in omega arith

      -- nobody sees what is emptied
      none_sees : codes.emptying x ≡ 1 → (j : ℕ) (u : View) → get_elem? vs j ≡ some u → ¬ (Sees u slot)
      none_sees busy j u e h = let z = ((p.collectors.each j u e).seen slot h).0 in omega arith

      -- nor what waits for the collector that it closes, once it has looked at all places
      none_sees_closed : (k : ℕ) → Closes v k → sizes.participants ≤ v.slots.looked → 0 < codes.waits_for k x → (j : ℕ) (u : View) → get_elem? vs j ≡ some u
          → ¬ (Sees u slot)
      none_sees_closed k mine all for j u e sees = let past = (p.collectors.two j id u v e at).looked slot k sees mine for in
          let is_open = (p.slots.each j u e).guarded slot sees in
          let near = (p.epoch.each j u.epoch (at_map epoch_of vs j u e)).inside (omega arith) in omega arith

      -- the step, of which the slots' part and the collectors' are known
      done : (y : ℕ) (w : View) → w.epoch ≡ v.epoch → w.words ≡ noted slot y v → SlotsInvariant codes sizes (set ws i y) (set vs id w)
          → CollectorsInvariant codes sizes (set ws i y) (set vs id w) → Parts sizes (set ws i y) (set vs id w)
      done y w epoch words = steps.builds id v live ws vs p at slot y w (subst HasPlace (sym epoch) live) words
          (subst (λ (e : EpochView). EpochInvariant sizes ws (set (map epoch_of vs) id e)) (sym epoch) (steps.same_epochs id v live ws vs p at))

    -- an item that waits does so for a collector that nobody closes
    pub collects : (collector : ℕ) (r : WaitingItem) → HasWaiting v slot r → private_word collector < shared_base → (ws : List ℕ) (vs : List View)
        → Parts sizes ws vs → get_elem? vs id ≡ some v → ((j : ℕ) (u : View) → get_elem? vs j ≡ some u → ¬ (Closes u collector))
        → (w : View) × Parts sizes (set ws i (private_word collector)) (set vs id w)
        × AtSlot (Collects collector) i v (private_word collector) w
    collects collector r has fits ws vs p at quiet =
        let y : ℕ = private_word collector in let w : View = collected slot collector r y v in let pr = private_is collector fits in
        let waits : 0 < waiting (x ws vs p at)
        = subst (λ (d : ℕ). 0 < waiting (slot_at sizes ws d)) has.0 (waiter_in codes sound sizes ws vs p.slots id has.1.0 v r at has.1.1) in
        let plain = plain_waiting codes sound (x ws vs p at) waits in let pr3 = pr.3 in let pr4 = pr.4 in
        let silent : codes.emptying y ≡ 0 = (sound.for_one collector y (omega arith)).2 in
        let there_still : HasValue codes y = (silent, λ _. (sound.for_one collector y (omega arith)).1) in
        let lacks : (j : ℕ) (u : View) → get_elem? vs j ≡ some u → privates_at slot u ≡ 0
        = λ j u e. let m = privates_in codes sound sizes ws vs p.collectors j slot u e in let z = plain.0 in omega arith in
        let f = p.collectors.each id v at in
        let new : PrivateItem = for_collector collector r in
        let old_or_new : (q : PrivateItem) → HasPrivate w q → HasPrivate v q ⊎ (new ≡ q)
        = λ q h. ⊎_elim (λ (t : get_elem? v.slots.privates h.0 ≡ some q). inl (h.0, t)) (λ (t : new ≡ q). inr t) (at_snoc v.slots.privates new q h.0 h.1) in
        let in_slot : (q : PrivateItem) → new ≡ q → q.item.slot ≡ slot = λ q e. ap (λ (t : PrivateItem). t.item.slot) (sym e) ∙ has.0 in
        let one_is = is_same slot r.slot has.0 in (
          w,
          done ws vs p at y w refl refl
              (blinded ws vs p at y (record v { slots = record v.slots { waits = without_item slot v.slots.waits }; words = noted slot y v })
              (waits_no_more codes sound sizes ws vs p.slots id v at slot y (omega arith) has.1.0 r (noted slot y v) has.1.1 has.0 pr.0 pr.1 pr.2)
              (v.slots.privates ++ new ∷ []) v.slots.emptied v.slots.empties v.slots.left)
              (private_step codes sizes ws vs p.collectors id v at slot y (low ws vs p at) w
              (let t = total_snoc (private_in slot) v.slots.privates new in let z = plain.0 in omega arith)
              (λ j ne. let t = total_snoc (private_in j) v.slots.privates new in let o = is_other j r.slot (λ e. ne (sym e ∙ has.0)) in omega arith)
              (let z = plain.1 in omega arith) (λ _ _. refl)
              (λ k h. inr (λ j u e shuts. quiet j u e (subst (Closes u) (sound.one_of k collector y h (omega arith)) shuts)))
              record {
                timed = λ q h. ⊎_elim (λ (t : HasPrivate v q). f.timed q t)
                    (λ (t : new ≡ q). subst (λ (q : PrivateItem). IsTimed v.epoch q.item) t ((p.slots.each id v at).timed has.1.0 r has.1.1)) (old_or_new q h);
                names = λ q h k for. ⊎_elim
                    (λ (t : HasPrivate v q). let ne = none_has ws vs p at v (lacks id v at) q t in
                    f.names q t k (subst (λ (n : ℕ). 0 < codes.waits_for k n) (beside ws vs p at y q.item.slot ne) for))
                    (λ (t : new ≡ q). let for' = subst (λ (n : ℕ). 0 < codes.waits_for k n) (here ws vs p at y q.item.slot (in_slot q t)) for in
                    sound.one_of k collector y for' (omega arith) ∙ ap (λ (t : PrivateItem). t.collector) t)
                    (old_or_new q h);
                found = λ d h. let g = f.found d h in let g1 = g.1 in let t = total_snoc (private_in d) v.slots.privates new in dite (ℕ_discrete d slot)
                    (λ e. absurd (none_found ws vs p at v f (lacks id v at) (subst (FoundEmptied v) e h)))
                    (λ ne. (beside ws vs p at y d ne ∙ g.0, omega arith));
                left = λ l d h. dite (ℕ_discrete d slot) (λ e. absurd (none_empties ws vs p at plain.1 id v at (subst (Empties v) e h)))
                    (λ ne. beside ws vs p at y d ne ∙ f.left l d h);
                seen = λ d h. dite (ℕ_discrete d slot) (λ e. subst (HasValue codes) (sym (here ws vs p at y d e)) there_still)
                    (λ ne. subst (HasValue codes) (sym (beside ws vs p at y d ne)) (f.seen d h));
              }
              record {
                names = λ j u _ e q h same. absurd (none_has ws vs p at u (lacks j u e) q h same);
                found = λ j u _ e h. absurd (none_found ws vs p at u (p.collectors.each j u e) (lacks j u e) h);
                left = λ j u _ e h. absurd (none_empties ws vs p at plain.1 j u e h);
                seen = λ _ _ _ _ _. there_still;
              }
              refl refl refl refl
              (λ q h. ⊎_elim (λ (t : HasPrivate v q). inl t)
              (λ (t : new ≡ q). inr (λ j u e sees. let g = (p.slots.two j id u v e at).since slot has.1.0 r (subst (Sees u) (in_slot q t) sees) has.1.1 has.0 in
              let a = ap (λ (t : PrivateItem). t.item.retired_at) t in omega arith)) (old_or_new q h))),
          at_slot (Collects collector) y w (r, has, refl),
        )

    -- which words a private item's slot may have
    module _ (ws : List ℕ) (vs : List View) (p : Parts sizes ws vs) (at : get_elem? vs id ≡ some v) (collector : ℕ) (has : WaitsFor collector v slot) where
      which : (slot_at sizes ws slot ≡ private_word collector) ⊎ ((slot_at sizes ws slot ≡ emptied_word) ⊎ (slot_at sizes ws slot ≡ emptying_word))
      which = let n : ℕ = slot_at sizes ws slot in let r : PrivateItem = has.0 in
          let there = subst (λ (d : ℕ). 0 < codes.private (slot_at sizes ws d)) has.2
          (private_at codes sound sizes ws vs p.collectors id v r at has.1) in ⊎_elim
          (λ (t : (k : ℕ) × (n ≡ private_word k) × (n < shared_base)). let e = t.1 in let l = t.2 in let q = private_is t.0 (omega arith) in let q4 = q.4 in
          let a = ap (codes.waits_for t.0) e in
          let waits = subst (λ (d : ℕ). 0 < codes.waits_for t.0 (slot_at sizes ws d)) (sym has.2) (omega arith) in
          let same : t.0 ≡ collector = (p.collectors.each id v at).names r has.1 t.0 waits ∙ has.3 in inl (e ∙ ap private_word same))
          (λ (t : (n ≡ emptied_word) ⊎ (n ≡ emptying_word)). inr t) (which_private n there)

      -- it was found emptied
      finds : slot_at sizes ws slot ≡ emptied_word → Parts sizes (set ws i (get_or ws i 0)) (set vs id (found_emptied slot v))
      finds is = let w : View = found_emptied slot v in let f = p.collectors.each id v at in stays ws vs p at w refl refl
          (blind_privates codes sound sizes ws vs p.slots id v at v.slots.privates (slot ∷ v.slots.emptied) v.slots.empties v.slots.left v.slots.closes
          v.slots.looked
          (omega arith))
          (private_view codes sizes ws vs p.collectors id v at w refl refl refl refl
          (λ d h. dite (ℕ_discrete d slot)
          (λ e. (
            ap (slot_at sizes ws) e ∙ is,
            subst (λ (k : ℕ). 0 < privates_at k v) (sym e)
                (let one = (alone ws vs p at has.0 has.1 has.2).0 in omega arith),
          ))
          (λ ne. let o = is_other d slot (λ e. ne (sym e)) in f.found d (omega arith)))
          f.left (λ j u e d k sees shuts for. (p.collectors.two j id u v e at).looked d k sees shuts for)) i

      -- or that a close has claimed it
      claimed : slot_at sizes ws slot ≡ emptying_word → Parts sizes (set ws i (get_or ws i 0)) (set vs id (orphaned slot v))
      claimed is = stays ws vs p at (orphaned slot v) refl refl
          (blind_privates codes sound sizes ws vs p.slots id v at (map (orphan slot) v.slots.privates) v.slots.emptied v.slots.empties v.slots.left
          v.slots.closes v.slots.looked (omega arith))
          (private_orphaned codes sizes ws vs p.collectors id v at slot
          (λ k h. let t = (sound.for_one k (slot_at sizes ws slot) h).2 in let e = ap codes.emptying is in let busy = emptying_is.4 in absurd (omega arith))) i

    -- a private item is claimed for the bag
    pub reclaims : (collector : ℕ) → WaitsFor collector v slot → private_word collector < shared_base
        → Steps (Parts sizes) id v i (λ n. either (eqb n (private_word collector)) (waiting_word 0) n) (AtSlot (Reclaims collector) i v)
    reclaims collector has fits ws vs p at small = let n : ℕ = get_or ws i 0 in let old : ℕ = private_word collector in let y : ℕ = waiting_word 0 in
        let r : PrivateItem = has.0 in let w : View = reclaimed slot r.item y v in let told = steps.knew id v live ws vs p at slot in
        let possible = which ws vs p at collector has in let pr = private_is collector fits in let pr3 = pr.3 in let pr4 = pr.4 in
        let wt = waiting_is 0 (omega arith) in let wt1 = wt.1 in let plain = plain_waiting codes sound y (omega arith) in
        exchanged n old y (λ m. (u : View) × Parts sizes (set ws i m) (set vs id u) × AtSlot (Reclaims collector) i v n u)
        (λ hit. let f = p.collectors.each id v at in let a = alone ws vs p at r has.1 has.2 in let a0 = a.0 in let a1 = a.1 in
        let quiet : codes.emptying n ≡ 0 = ap codes.emptying hit ∙ (sound.for_one collector old (omega arith)).2 in
        let young : (q : PrivateItem) → HasPrivate w q → HasPrivate v q
        = λ q h. let o = at_filter (λ (x : PrivateItem). not (eqb x.item.slot slot)) v.slots.privates h.0 q h.1 in (o.0, o.1) in
        let gone = private_gone slot v.slots.privates in
        let none : (k : ℕ) → ¬ (0 < codes.waits_for k y) = λ k. none_for codes sound k y plain.0 in
        let mismatched : n ≢ emptied_word = λ e. absurd (omega arith) in (
          w,
          done ws vs p at y w refl refl
              (blinded ws vs p at y (record v { slots = record v.slots { waits = v.slots.waits ++ r.item ∷ [] }; words = noted slot y v })
              (comes_to_wait codes sound sizes ws vs p.slots id v at slot y (omega arith) r.item (noted slot y v) has.2
              (ap codes.alive hit ∙ pr.0) (ap codes.waiting hit ∙ pr.1) wt.0 wt.1 (f.timed r has.1)
              (λ j u e sees. (p.collectors.two j id u v e at).since slot r sees has.1 has.2))
              (without_private slot v.slots.privates) v.slots.emptied v.slots.empties v.slots.left)
              (private_step codes sizes ws vs p.collectors id v at slot y (low ws vs p at) w
              (let z = plain.0 in omega arith) (λ j ne. sym (private_kept slot j ne v.slots.privates))
              (let z = plain.1 in omega arith) (λ _ _. refl)
              (λ k h. absurd (none k h))
              record {
                timed = λ q h. f.timed q (young q h);
                names = λ q h k for. dite (ℕ_discrete q.item.slot slot)
                    (λ e. absurd (none k (subst (λ (m : ℕ). 0 < codes.waits_for k m) (here ws vs p at y q.item.slot e) for)))
                    (λ ne. f.names q (young q h) k (subst (λ (m : ℕ). 0 < codes.waits_for k m) (beside ws vs p at y q.item.slot ne) for));
                found = λ d h. let g = f.found d h in let g1 = g.1 in dite (ℕ_discrete d slot)
                    (λ e. absurd (mismatched (ap (slot_at sizes ws) (sym e) ∙ g.0)))
                    (λ ne. let k = private_kept slot d ne v.slots.privates in (beside ws vs p at y d ne ∙ g.0, omega arith));
                left = λ l d h. dite (ℕ_discrete d slot) (λ e. absurd (none_empties ws vs p at quiet id v at (subst (Empties v) e h)))
                    (λ ne. beside ws vs p at y d ne ∙ f.left l d h);
                seen = λ d h. dite (ℕ_discrete d slot) (λ e. subst (HasValue codes) (sym (here ws vs p at y d e)) (plain_has codes sound y plain))
                    (λ ne. subst (HasValue codes) (sym (beside ws vs p at y d ne)) (f.seen d h));
              }
              record {
                names = λ j u apart e q h same k for. absurd (none k for);
                found = λ j u apart e h. absurd (none_found ws vs p at u (p.collectors.each j u e) (a.2 j u apart e) h);
                left = λ j u _ e h. absurd (none_empties ws vs p at quiet j u e h);
                seen = λ _ _ _ _ _. plain_has codes sound y plain;
              }
              refl refl refl refl
              (λ q h. inl (young q h))),
          at_slot (Reclaims collector) n w (
            (λ _. (r, has.1, has.2, refl)),
            (λ e. absurd (mismatched e)),
            (λ e. absurd (omega arith)),
            possible,
            told,
          ),
        ))
        (λ miss. ⊎_elim (λ (e : n ≡ old). absurd (miss e)) (λ (t : (n ≡ emptied_word) ⊎ (n ≡ emptying_word)). ⊎_elim
        (λ (e : n ≡ emptied_word). (
          found_emptied slot v,
          finds ws vs p at collector has e,
          at_slot (Reclaims collector) n (found_emptied slot v)
              ((λ hit. absurd (miss hit)), (λ _. refl), (λ e'. absurd (omega arith)), possible, told),
        ))
        (λ (e : n ≡ emptying_word). (
          orphaned slot v,
          claimed ws vs p at collector has e,
          at_slot (Reclaims collector) n (orphaned slot v)
              ((λ hit. absurd (miss hit)), (λ e'. absurd (omega arith)), (λ _. refl), possible, told),
        )) t) possible)

    -- a private item is left to the close that empties it
    pub leaves_to_close : (collector : ℕ) → WaitsFor collector v slot
        → Steps (Parts sizes) id v i (λ n. either (eqb n emptying_word) left_word n) (AtSlot (LeavesToClose collector) i v)
    leaves_to_close collector has ws vs p at small = let n : ℕ = get_or ws i 0 in let old : ℕ = emptying_word in let y : ℕ = left_word in
        let r : PrivateItem = has.0 in let w : View = left_to_close slot y v in let told = steps.knew id v live ws vs p at slot in
        let possible = which ws vs p at collector has in let em = emptying_is in let lt = left_is in
        exchanged n old y (λ m. (u : View) × Parts sizes (set ws i m) (set vs id u) × AtSlot (LeavesToClose collector) i v n u)
        (λ hit. let f = p.collectors.each id v at in let a = alone ws vs p at r has.1 has.2 in let a0 = a.0 in let a1 = a.1 in
        let busy : codes.emptying n ≡ 1 = ap codes.emptying hit ∙ em.4 in let lt4 = lt.4 in let lt3 = lt.3 in
        let young : (q : PrivateItem) → HasPrivate w q → HasPrivate v q
        = λ q h. let o = at_filter (λ (x : PrivateItem). not (eqb x.item.slot slot)) v.slots.privates h.0 q h.1 in (o.0, o.1) in
        let gone = private_gone slot v.slots.privates in
        let none : (k : ℕ) → ¬ (0 < codes.waits_for k y) = λ k. none_for codes sound k y lt.3 in (
          w,
          done ws vs p at y w refl refl
              (blinded ws vs p at y (record v { words = noted slot y v })
              (turns codes sound sizes ws vs p.slots id v at slot y (omega arith) (noted slot y v) (ap codes.alive hit ∙ em.0) (ap codes.waiting hit ∙ em.1)
              lt.0 lt.1 (λ _ _ _ _. lt.2))
              (without_private slot v.slots.privates) v.slots.emptied v.slots.empties v.slots.left)
              (private_step codes sizes ws vs p.collectors id v at slot y (low ws vs p at) w
              (omega arith) (λ j ne. sym (private_kept slot j ne v.slots.privates)) (omega arith) (λ _ _. refl)
              (λ k h. absurd (none k h))
              record {
                timed = λ q h. f.timed q (young q h);
                names = λ q h k for. dite (ℕ_discrete q.item.slot slot)
                    (λ e. absurd (none k (subst (λ (m : ℕ). 0 < codes.waits_for k m) (here ws vs p at y q.item.slot e) for)))
                    (λ ne. f.names q (young q h) k (subst (λ (m : ℕ). 0 < codes.waits_for k m) (beside ws vs p at y q.item.slot ne) for));
                found = λ d h. let g = f.found d h in let g1 = g.1 in dite (ℕ_discrete d slot)
                    (λ e. absurd (let z = ap (slot_at sizes ws) (sym e) ∙ g.0 in omega arith))
                    (λ ne. let k = private_kept slot d ne v.slots.privates in (beside ws vs p at y d ne ∙ g.0, omega arith));
                left = λ l d h. dite (ℕ_discrete d slot) (λ e. here ws vs p at y d e) (λ ne. beside ws vs p at y d ne ∙ f.left l d h);
                seen = λ d h. dite (ℕ_discrete d slot) (λ e. absurd (none_sees ws vs p at busy id v at (subst (Sees v) e h)))
                    (λ ne. subst (HasValue codes) (sym (beside ws vs p at y d ne)) (f.seen d h));
              }
              record {
                names = λ j u apart e q h same k for. absurd (none k for);
                found = λ j u apart e h. absurd (none_found ws vs p at u (p.collectors.each j u e) (a.2 j u apart e) h);
                left = λ _ _ _ _ _. refl;
                seen = λ j u _ e h. absurd (none_sees ws vs p at busy j u e h);
              }
              refl refl refl refl
              (λ q h. inl (young q h))),
          at_slot (LeavesToClose collector) n w ((λ _. refl), (λ e. absurd (omega arith)), (λ e. absurd (omega arith)), possible, told),
        ))
        (λ miss. ⊎_elim
        (λ (e : n ≡ private_word collector). (
          v,
          steps.unmoved id v live ws vs p at i,
          at_slot (LeavesToClose collector) n v
              ((λ hit. absurd (miss hit)), (λ e'. absurd (omega arith)), (λ _. refl), possible, told),
        ))
        (λ (t : (n ≡ emptied_word) ⊎ (n ≡ emptying_word)). ⊎_elim
        (λ (e : n ≡ emptied_word). (
          found_emptied slot v,
          finds ws vs p at collector has e,
          at_slot (LeavesToClose collector) n (found_emptied slot v)
              ((λ hit. absurd (miss hit)), (λ _. refl), (λ e'. absurd (omega arith)), possible, told),
        ))
        (λ (e : n ≡ emptying_word). absurd (miss e)) t) possible)

    -- it has a private item of the slot where it counts one
    item_in : 0 < privates_at slot v → (r : PrivateItem) × HasPrivate v r × (r.item.slot ≡ slot)
    item_in some_in = let s = total_some (private_in slot) v.slots.privates some_in in let r : PrivateItem = s.1 in let counts = s.3 in
        (r, (s.0, s.2), dite (ℕ_discrete r.item.slot slot) (λ e. e) (λ apart. let z = is_other slot r.item.slot apart in absurd (omega arith)))

    -- the slot of an item that was found emptied is free
    pub gives_private_back : FoundEmptied v slot
        → Steps (Parts sizes) id v i (λ _. free_word 0) (λ _. AtSlot GivesPrivateBack i v (free_word 0))
    gives_private_back was ws vs p at small = let y : ℕ = free_word 0 in let w : View = private_given_back slot y v in let f = p.collectors.each id v at in
        let is = (f.found slot was).0 in let has = item_in (f.found slot was).1 in let r : PrivateItem = has.0 in let fr = free_is 0 (omega arith) in
        let em = emptied_is in
        let a = alone ws vs p at r has.1 has.2 in let a0 = a.0 in let a1 = a.1 in let plain = plain_free codes sound y fr.2 in
        let quiet : codes.emptying (x ws vs p at) ≡ 0 = ap codes.emptying is ∙ em.4 in
        let unseen : (j : ℕ) (u : View) → get_elem? vs j ≡ some u → ¬ (Sees u slot)
        = λ j u e h. let there = ((p.collectors.each j u e).seen slot h).1 (ap codes.private is ∙ em.3) in let gone = ap codes.valued is ∙ em.5 in
        omega arith in
        let young : (q : PrivateItem) → HasPrivate w q → HasPrivate v q
        = λ q h. let o = at_filter (λ (x : PrivateItem). not (eqb x.item.slot slot)) v.slots.privates h.0 q h.1 in (o.0, o.1) in
        let gone = private_gone slot v.slots.privates in let none_left = without_same slot v.slots.emptied in
        let none : (k : ℕ) → ¬ (0 < codes.waits_for k y) = λ k. none_for codes sound k y plain.0 in (
          w,
          done ws vs p at y w refl refl
              (blinded ws vs p at y (record v { words = noted slot y v })
              (turns codes sound sizes ws vs p.slots id v at slot y (omega arith) (noted slot y v) (ap codes.alive is ∙ em.0) (ap codes.waiting is ∙ em.1)
              fr.0 fr.1 (λ j u e sees. absurd (unseen j u e sees)))
              (without_private slot v.slots.privates) (without slot v.slots.emptied) v.slots.empties v.slots.left)
              (private_step codes sizes ws vs p.collectors id v at slot y (low ws vs p at) w
              (let z = plain.0 in omega arith) (λ j ne. sym (private_kept slot j ne v.slots.privates)) (let z = plain.1 in omega arith) (λ _ _. refl)
              (λ k h. absurd (none k h))
              record {
                timed = λ q h. f.timed q (young q h);
                names = λ q h k for. dite (ℕ_discrete q.item.slot slot)
                    (λ e. absurd (none k (subst (λ (m : ℕ). 0 < codes.waits_for k m) (here ws vs p at y q.item.slot e) for)))
                    (λ ne. f.names q (young q h) k (subst (λ (m : ℕ). 0 < codes.waits_for k m) (beside ws vs p at y q.item.slot ne) for));
                found = λ d h. dite (ℕ_discrete d slot)
                    (λ e. absurd (let z = ap (λ (k : ℕ). times k (without slot v.slots.emptied)) e in omega arith))
                    (λ ne. let o = without_other slot d ne v.slots.emptied in let g = f.found d (omega arith) in let g1 = g.1 in
                    let k = private_kept slot d ne v.slots.privates in (beside ws vs p at y d ne ∙ g.0, omega arith));
                left = λ l d h. dite (ℕ_discrete d slot) (λ e. absurd (none_empties ws vs p at quiet id v at (subst (Empties v) e h)))
                    (λ ne. beside ws vs p at y d ne ∙ f.left l d h);
                seen = λ d h. dite (ℕ_discrete d slot) (λ e. subst (HasValue codes) (sym (here ws vs p at y d e)) (plain_has codes sound y plain))
                    (λ ne. subst (HasValue codes) (sym (beside ws vs p at y d ne)) (f.seen d h));
              }
              record {
                names = λ j u apart e q h same k for. absurd (none k for);
                found = λ j u apart e h. absurd (none_found ws vs p at u (p.collectors.each j u e) (a.2 j u apart e) h);
                left = λ j u _ e h. absurd (none_empties ws vs p at quiet j u e h);
                seen = λ _ _ _ _ _. plain_has codes sound y plain;
              }
              refl refl refl refl
              (λ q h. inl (young q h))),
          at_slot GivesPrivateBack y w refl,
        )

    -- a close claims what waits for its collector, once it has looked at all places
    pub empties : (collector : ℕ) → private_word collector < shared_base → Closes v collector → sizes.participants ≤ v.slots.looked → v.slots.empties ≡ None
        → v.slots.left ≡ false
        → Steps (Parts sizes) id v i (λ n. either (eqb n (private_word collector)) emptying_word n) (AtSlot (EmptiesSlot collector) i v)
    empties collector fits shuts all idle fresh ws vs p at small = let n : ℕ = get_or ws i 0 in let old : ℕ = private_word collector in
        let y : ℕ = emptying_word in let w : View = empties_now slot y v in let told = steps.knew id v live ws vs p at slot in
        let pr = private_is collector fits in let pr3 = pr.3 in let pr4 = pr.4 in let em = emptying_is in let em3 = em.3 in let em4 = em.4 in
        exchanged n old y (λ m. (u : View) × Parts sizes (set ws i m) (set vs id u) × AtSlot (EmptiesSlot collector) i v n u)
        (λ hit. let f = p.collectors.each id v at in let was : codes.private n ≡ 1 = ap codes.private hit ∙ pr.3 in
        let quiet : codes.emptying n ≡ 0 = ap codes.emptying hit ∙ (sound.for_one collector old (omega arith)).2 in
        let unseen = none_sees_closed ws vs p at collector shuts all (let e = ap (codes.waits_for collector) hit in omega arith) in
        let none : (k : ℕ) → ¬ (0 < codes.waits_for k y) = λ k h. let z = (sound.for_one k y h).2 in absurd (omega arith) in
        let mismatched : n ≢ emptied_word = λ e. absurd (omega arith) in
        let before : (d : ℕ) → empties_at d v ≡ 0 = λ d. ap (one_in d) idle in (
          w,
          done ws vs p at y w refl refl
              (blinded ws vs p at y (record v { words = noted slot y v })
              (turns codes sound sizes ws vs p.slots id v at slot y (omega arith) (noted slot y v) (ap codes.alive hit ∙ pr.0) (ap codes.waiting hit ∙ pr.1)
              em.0 em.1 (λ _ _ _ _. em.2))
              v.slots.privates v.slots.emptied (Some slot) v.slots.left)
              (private_step codes sizes ws vs p.collectors id v at slot y (low ws vs p at) w
              (omega arith) (λ _ _. refl)
              (let b = before slot in let o = is_same slot slot refl in omega arith)
              (λ j ne. let b = before j in let o = is_other j slot (λ e. ne (sym e)) in omega arith)
              (λ k h. absurd (none k h))
              record {
                timed = f.timed;
                names = λ q h k for. dite (ℕ_discrete q.item.slot slot)
                    (λ e. absurd (none k (subst (λ (m : ℕ). 0 < codes.waits_for k m) (here ws vs p at y q.item.slot e) for)))
                    (λ ne. f.names q h k (subst (λ (m : ℕ). 0 < codes.waits_for k m) (beside ws vs p at y q.item.slot ne) for));
                found = λ d h. let g = f.found d h in dite (ℕ_discrete d slot)
                    (λ e. absurd (mismatched (ap (slot_at sizes ws) (sym e) ∙ g.0)))
                    (λ ne. (beside ws vs p at y d ne ∙ g.0, g.1));
                left = λ l d h. let e : ◌≡◌ {A = Bool} false true = sym fresh ∙ l in cc;
                seen = λ d h. dite (ℕ_discrete d slot) (λ e. absurd (unseen id v at (subst (Sees v) e h)))
                    (λ ne. subst (HasValue codes) (sym (beside ws vs p at y d ne)) (f.seen d h));
              }
              record {
                names = λ j u apart e q h same k for. absurd (none k for);
                found = λ j u apart e h. absurd (mismatched ((p.collectors.each j u e).found slot h).0);
                left = λ j u _ e h. absurd (none_empties ws vs p at quiet j u e h);
                seen = λ j u _ e h. absurd (unseen j u e h);
              }
              refl refl refl refl
              (λ q h. inl h)),
          at_slot (EmptiesSlot collector) n w ((λ _. refl), (λ miss. absurd (miss hit)), told),
        ))
        (λ miss. (v, steps.unmoved id v live ws vs p at i, at_slot (EmptiesSlot collector) n v ((λ hit. absurd (miss hit)), (λ _. refl), told)))

    -- the same of an item of its own bag, of which it knows for whom it waits
    pub empties_own : (collector : ℕ) → WaitsFor collector v slot → private_word collector < shared_base → Closes v collector
        → sizes.participants ≤ v.slots.looked → v.slots.empties ≡ None → v.slots.left ≡ false
        → Steps (Parts sizes) id v i (λ n. either (eqb n (private_word collector)) emptying_word n) (AtSlot (EmptiesOwn collector) i v)
    empties_own collector has fits shuts all idle fresh ws vs p at small = let n : ℕ = get_or ws i 0 in let old : ℕ = private_word collector in
        let y : ℕ = emptying_word in let told = steps.knew id v live ws vs p at slot in let possible = which ws vs p at collector has in
        exchanged n old y (λ m. (u : View) × Parts sizes (set ws i m) (set vs id u) × AtSlot (EmptiesOwn collector) i v n u)
        (λ hit. let e = empties collector fits shuts all idle fresh ws vs p at small in let is = (e.2 slot refl).0 hit in (
          e.0,
          subst (λ (m : ℕ). Parts sizes (set ws i m) (set vs id e.0)) (ap (λ (b : Bool). either b y n) (eq-eqb n old hit)) e.1,
          at_slot (EmptiesOwn collector) n e.0 ((λ _. is), (λ d. absurd (omega arith)), (λ d. absurd (omega arith)), possible, told),
        ))
        (λ miss. ⊎_elim (λ (e : n ≡ old). absurd (miss e)) (λ (t : (n ≡ emptied_word) ⊎ (n ≡ emptying_word)). ⊎_elim
        (λ (e : n ≡ emptied_word). (
          found_emptied slot v,
          finds ws vs p at collector has e,
          at_slot (EmptiesOwn collector) n (found_emptied slot v)
              ((λ hit. absurd (miss hit)), (λ _. refl), (λ d. absurd (omega arith)), possible, told),
        ))
        (λ (e : n ≡ emptying_word). (
          orphaned slot v,
          claimed ws vs p at collector has e,
          at_slot (EmptiesOwn collector) n (orphaned slot v)
              ((λ hit. absurd (miss hit)), (λ d. absurd (omega arith)), (λ _. refl), possible, told),
        )) t) possible)

    -- what is emptied is so from now on, and its bag has it still, or has let go of it
    pub has_emptied : Empties v slot → Steps (Parts sizes) id v i (λ n. either (eqb n emptying_word) emptied_word n) (AtSlot HasEmptied i v)
    has_emptied mine ws vs p at small = let n : ℕ = get_or ws i 0 in let y : ℕ = emptied_word in let w : View = emptied_now slot y v in
        let told = steps.knew id v live ws vs p at slot in let em = emptying_is in let ed = emptied_is in let ed3 = ed.3 in let ed4 = ed.4 in
        let only = one_empties ws vs p at mine in let only0 = only.0 in
        let possible = which_emptying n (omega arith) in let f = p.collectors.each id v at in
        exchanged n emptying_word y (λ m. (u : View) × Parts sizes (set ws i m) (set vs id u) × AtSlot HasEmptied i v n u)
        (λ hit. let was : codes.private n ≡ 1 = ap codes.private hit ∙ em.3 in
        let none : (k : ℕ) → ¬ (0 < codes.waits_for k y) = λ k h. let z = (waits_privately k y h).1 in absurd (omega arith) in
        let at_own : (d : ℕ) → empties_at d v ≡ is_at d slot = λ d. ap (one_in d) mine in (
          w,
          done ws vs p at y w refl refl
              (blinded ws vs p at y (record v { words = noted slot y v })
              (turns codes sound sizes ws vs p.slots id v at slot y (omega arith) (noted slot y v) (ap codes.alive hit ∙ em.0) (ap codes.waiting hit ∙ em.1)
              ed.0 ed.1 (λ _ _ _ _. ed.2))
              v.slots.privates v.slots.emptied None v.slots.left)
              (private_step codes sizes ws vs p.collectors id v at slot y (low ws vs p at) w
              (omega arith) (λ _ _. refl)
              (let b = at_own slot in let o = is_same slot slot refl in omega arith)
              (λ j ne. let b = at_own j in let o = is_other j slot (λ e. ne (sym e)) in omega arith)
              (λ k h. absurd (none k h))
              record {
                timed = f.timed;
                names = λ q h k for. dite (ℕ_discrete q.item.slot slot)
                    (λ e. absurd (none k (subst (λ (m : ℕ). 0 < codes.waits_for k m) (here ws vs p at y q.item.slot e) for)))
                    (λ ne. f.names q h k (subst (λ (m : ℕ). 0 < codes.waits_for k m) (beside ws vs p at y q.item.slot ne) for));
                found = λ d h. let g = f.found d h in dite (ℕ_discrete d slot) (λ e. (here ws vs p at y d e, g.1))
                    (λ ne. (beside ws vs p at y d ne ∙ g.0, g.1));
                left = λ l d h. let e : None ≡ Some d = h in cc;
                seen = λ d h. dite (ℕ_discrete d slot) (λ e. absurd (none_sees ws vs p at only.0 id v at (subst (Sees v) e h)))
                    (λ ne. subst (HasValue codes) (sym (beside ws vs p at y d ne)) (f.seen d h));
              }
              record {
                names = λ j u apart e q h same k for. absurd (none k for);
                found = λ _ _ _ _ _. refl;
                left = λ j u apart e h. absurd (only.1 j u apart e h);
                seen = λ j u _ e h. absurd (none_sees ws vs p at only.0 j u e h);
              }
              refl refl refl refl
              (λ q h. inl h)),
          at_slot HasEmptied n w ((λ _. refl), (λ e. absurd (omega arith)), possible, told),
        ))
        (λ miss. ⊎_elim (λ (e : n ≡ emptying_word). absurd (miss e))
        (λ (e : n ≡ left_word). let u : View = finds_left v in (
          u,
          stays ws vs p at u refl refl
              (blind_privates codes sound sizes ws vs p.slots id v at v.slots.privates v.slots.emptied v.slots.empties true v.slots.closes
              v.slots.looked (omega arith))
              (private_view codes sizes ws vs p.collectors id v at u refl refl refl refl f.found
              (λ _ d h. let same : d ≡ slot = (let c : Some d ≡ Some slot = sym h ∙ mine in cc) in ap (slot_at sizes ws) same ∙ e)
              (λ j u' e' d k sees shuts for. (p.collectors.two j id u' v e' at).looked d k sees shuts for)) i,
          at_slot HasEmptied n u ((λ hit. absurd (miss hit)), (λ _. refl), possible, told),
        )) possible)

    -- and its slot is free, where the bag has let go of it
    pub gives_empty_back : Empties v slot → v.slots.left ≡ true
        → Steps (Parts sizes) id v i (λ _. free_word 0) (λ _. AtSlot GivesEmptyBack i v (free_word 0))
    gives_empty_back mine late ws vs p at small = let y : ℕ = free_word 0 in let w : View = empty_given_back slot y v in
        let f = p.collectors.each id v at in let is = f.left late slot mine in let fr = free_is 0 (omega arith) in let lt = left_is in
        let plain = plain_free codes sound y fr.2 in let only = one_empties ws vs p at mine in let only0 = only.0 in
        let was : codes.private (x ws vs p at) ≡ 0 = ap codes.private is ∙ lt.3 in
        let unseen = none_sees ws vs p at only.0 in
        let none : (k : ℕ) → ¬ (0 < codes.waits_for k y) = λ k. none_for codes sound k y plain.0 in
        let at_own : (d : ℕ) → empties_at d v ≡ is_at d slot = λ d. ap (one_in d) mine in (
          w,
          done ws vs p at y w refl refl
              (blinded ws vs p at y (record v { words = noted slot y v })
              (turns codes sound sizes ws vs p.slots id v at slot y (omega arith) (noted slot y v) (ap codes.alive is ∙ lt.0) (ap codes.waiting is ∙ lt.1)
              fr.0 fr.1 (λ j u e sees. absurd (unseen j u e sees)))
              v.slots.privates v.slots.emptied None false)
              (private_step codes sizes ws vs p.collectors id v at slot y (low ws vs p at) w
              (let z = plain.0 in omega arith) (λ _ _. refl)
              (let b = at_own slot in let o = is_same slot slot refl in let z = plain.1 in omega arith)
              (λ j ne. let b = at_own j in let o = is_other j slot (λ e. ne (sym e)) in omega arith)
              (λ k h. absurd (none k h))
              record {
                timed = f.timed;
                names = λ q h k for. dite (ℕ_discrete q.item.slot slot)
                    (λ e. absurd (none k (subst (λ (m : ℕ). 0 < codes.waits_for k m) (here ws vs p at y q.item.slot e) for)))
                    (λ ne. f.names q h k (subst (λ (m : ℕ). 0 < codes.waits_for k m) (beside ws vs p at y q.item.slot ne) for));
                found = λ d h. let g = f.found d h in let g1 = g.1 in dite (ℕ_discrete d slot)
                    (λ e. absurd (let z = ap (slot_at sizes ws) (sym e) ∙ g.0 in omega arith)) (λ ne. (beside ws vs p at y d ne ∙ g.0, g.1));
                left = λ l d h. let e : None ≡ Some d = h in cc;
                seen = λ d h. dite (ℕ_discrete d slot) (λ e. subst (HasValue codes) (sym (here ws vs p at y d e)) (plain_has codes sound y plain))
                    (λ ne. subst (HasValue codes) (sym (beside ws vs p at y d ne)) (f.seen d h));
              }
              record {
                names = λ j u apart e q h same k for. absurd (none k for);
                found = λ j u apart e h. absurd (let z = ((p.collectors.each j u e).found slot h).0 in omega arith);
                left = λ j u apart e h. absurd (only.1 j u apart e h);
                seen = λ _ _ _ _ _. plain_has codes sound y plain;
              }
              refl refl refl refl
              (λ q h. inl h)),
          at_slot GivesEmptyBack y w refl,
        )

    -- the same of an item of its own bag, which nobody else lets go of
    pub gives_own_back : Empties v slot → (r : PrivateItem) → HasPrivate v r → r.item.slot ≡ slot
        → Steps (Parts sizes) id v i (λ _. free_word 0) (λ _. AtSlot GivesOwnBack i v (free_word 0))
    gives_own_back mine r has same ws vs p at small = let y : ℕ = free_word 0 in let w : View = own_given_back slot y v in
        let f = p.collectors.each id v at in let fr = free_is 0 (omega arith) in let em = emptying_is in let lt = left_is in
        let plain = plain_free codes sound y fr.2 in let only = one_empties ws vs p at mine in let only0 = only.0 in
        let a = alone ws vs p at r has same in let a0 = a.0 in let a1 = a.1 in
        let is : slot_at sizes ws slot ≡ emptying_word = ⊎_elim (λ (e : slot_at sizes ws slot ≡ emptying_word). e)
        (λ (e : slot_at sizes ws slot ≡ left_word). let z = ap codes.private e in let l3 = lt.3 in absurd (omega arith))
        (which_emptying (slot_at sizes ws slot) (omega arith)) in
        let unseen = none_sees ws vs p at only.0 in
        let none : (k : ℕ) → ¬ (0 < codes.waits_for k y) = λ k. none_for codes sound k y plain.0 in
        let at_own : (d : ℕ) → empties_at d v ≡ is_at d slot = λ d. ap (one_in d) mine in
        let young : (q : PrivateItem) → HasPrivate w q → HasPrivate v q
        = λ q h. let o = at_filter (λ (x : PrivateItem). not (eqb x.item.slot slot)) v.slots.privates h.0 q h.1 in (o.0, o.1) in
        let gone = private_gone slot v.slots.privates in (
          w,
          done ws vs p at y w refl refl
              (blinded ws vs p at y (record v { words = noted slot y v })
              (turns codes sound sizes ws vs p.slots id v at slot y (omega arith) (noted slot y v) (ap codes.alive is ∙ em.0) (ap codes.waiting is ∙ em.1)
              fr.0 fr.1 (λ j u e sees. absurd (unseen j u e sees)))
              (without_private slot v.slots.privates) v.slots.emptied None v.slots.left)
              (private_step codes sizes ws vs p.collectors id v at slot y (low ws vs p at) w
              (let z = plain.0 in omega arith) (λ j ne. sym (private_kept slot j ne v.slots.privates))
              (let b = at_own slot in let o = is_same slot slot refl in let z = plain.1 in omega arith)
              (λ j ne. let b = at_own j in let o = is_other j slot (λ e. ne (sym e)) in omega arith)
              (λ k h. absurd (none k h))
              record {
                timed = λ q h. f.timed q (young q h);
                names = λ q h k for. dite (ℕ_discrete q.item.slot slot)
                    (λ e. absurd (none k (subst (λ (m : ℕ). 0 < codes.waits_for k m) (here ws vs p at y q.item.slot e) for)))
                    (λ ne. f.names q (young q h) k (subst (λ (m : ℕ). 0 < codes.waits_for k m) (beside ws vs p at y q.item.slot ne) for));
                found = λ d h. let g = f.found d h in let g1 = g.1 in dite (ℕ_discrete d slot)
                    (λ e. absurd (let z = ap (slot_at sizes ws) (sym e) ∙ g.0 in omega arith))
                    (λ ne. let k = private_kept slot d ne v.slots.privates in (beside ws vs p at y d ne ∙ g.0, omega arith));
                left = λ l d h. let e : None ≡ Some d = h in cc;
                seen = λ d h. dite (ℕ_discrete d slot) (λ e. subst (HasValue codes) (sym (here ws vs p at y d e)) (plain_has codes sound y plain))
                    (λ ne. subst (HasValue codes) (sym (beside ws vs p at y d ne)) (f.seen d h));
              }
              record {
                names = λ j u apart e q h same' k for. absurd (none k for);
                found = λ j u apart e h. absurd (let z = ((p.collectors.each j u e).found slot h).0 in omega arith);
                left = λ j u apart e h. absurd (only.1 j u apart e h);
                seen = λ _ _ _ _ _. plain_has codes sound y plain;
              }
              refl refl refl refl
              (λ q h. inl (young q h))),
          at_slot GivesOwnBack y w refl,
        )
