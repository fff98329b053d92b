-- A bag claims a private item again, and a close moves the value of one out and says so: these steps keep the whole invariant.
use Rattle.std.proofs.Common.{◌≡◌, ◌≢◌, ◌⊎◌, inl, inr, ℕ, suc, ◌+◌, ◌<◌, Bool, true, false, eqb, List, ◌∷◌, length, drop, get_or, set, sym, refl, ap, ◌∙◌, subst, ⊎_elim, arith}
use Rattle.std.specs.Prelude.{Some, None}
use mathlib.Core.Option.{some}
use mathlib.Core.Logic.{dite}
use native.Mathlib.Decide.{ℕ_discrete}
use lib.ListN.{get_elem?}
use prog.Atomic.{either}
use base.Stored.{Gv}
use Rattle.atomic_table.specs.Table.{State, keeps, carried_after}
use Rattle.atomic_table.proofs.Lists.{at_map, exchanged}
use Rattle.sdd_shared_values.specs.SharedValues.{IsNoValueCode}
use Rattle.sdd_shared_values.specs.Bank.{Leaves}
use Rattle.sdd_shared_values.specs.declared.value_fraction.ValueFraction.{ValueFraction}
use Rattle.sdd_rights.specs.declared.views.PrivateItem.{PrivateItem}
use Rattle.sdd_rights.specs.declared.views.WaitingItem.{WaitingItem}
use Rattle.sdd_rights.specs.declared.views.ShownValue.{ShownValue}
use Rattle.sdd_rights.specs.declared.views.View.{View}
use Rattle.sdd_rights.specs.declared.views.Sizes.{Sizes}
use Rattle.sdd_domain_invariant.specs.Words.{slot_word, words_behind}
use Rattle.sdd_domain_invariant.specs.Codes.{codes, alive, waiting, valued, emptying, shared_base, raw_word, free_word, waiting_word, private_word, emptying_word, emptied_word, left_word}
use Rattle.sdd_domain_invariant.specs.Epoch.{HasPlace}
use Rattle.sdd_domain_invariant.specs.Sums.{total}
use Rattle.sdd_domain_invariant.specs.Slots.{slot_at, waits_in, owners_at, items_at, Owns, Sees}
use Rattle.sdd_domain_invariant.specs.Collectors.{one_in, empties_at, Empties, HasPrivate}
use Rattle.sdd_domain_invariant.specs.Slots.SlotSteps.{noted, AtSlot}
use Rattle.sdd_domain_invariant.specs.Collectors.CollectorWordSteps.{without_private, reclaimed, found_emptied, orphaned, emptied_now, finds_left, empty_given_back, own_given_back, WaitsFor, Reclaims, HasEmptied, GivesEmptyBack, GivesOwnBack}
use Rattle.sdd_domain_invariant.specs.WordInvariant.{epoch_of}
use Rattle.sdd_domain_invariant.proofs.Codes.{sound, private_is, emptied_is, emptying_is, free_is, waiting_is}
use Rattle.sdd_domain_invariant.proofs.Collectors.{emptying_at}
use Rattle.sdd_domain_invariant.proofs.Collectors.CollectorWordSteps as words
use Rattle.sdd_domain_invariant.proofs.Slots.SlotWords.{owner_in}
use Rattle.sdd_domain_invariant.proofs.Sums.{is_same, is_other, total_snoc, total_has, total_two}
use Rattle.sdd_domain_invariant.specs.Fractions.FractionsAtHome.{CarriedFractions, away, full_at, Moves, SeesFrom}
use Rattle.sdd_domain_invariant.specs.Slots.Records.{IsIn, IsTelling}
use Rattle.sdd_domain_invariant.specs.Slots.FilledInvariant.{newest, HasRecord}
use Rattle.sdd_domain_invariant.specs.Fractions.BankInvariant.{drawn_at}
use Rattle.sdd_domain_invariant.specs.Slots.KindsInvariant.{KindsInvariant}
use Rattle.sdd_domain_invariant.specs.Fractions.LastFractions.{HidesItem, LastIs}
use Rattle.sdd_domain_invariant.specs.DomainInvariant.{DomainInvariant}
use Rattle.sdd_domain_invariant.specs.Fractions.FractionSteps.{SeatState, CarriesAll, IsValue, IsDeposit, OfSlot, moving, giving}
use Rattle.sdd_domain_invariant.specs.Collectors.CollectorSteps.{ReclaimsOne, TakesPrivate, EmptiedOne, GivesOneEmptyBack, GivesOneOwnBack, recollecting}
use Rattle.sdd_domain_invariant.proofs.Fractions.FractionsInvariant.{none_out}
use Rattle.sdd_domain_invariant.proofs.Fractions.FractionsInvariant as part
use Rattle.sdd_domain_invariant.proofs.Banks.{moves_other, outside_free, total_below}
use Rattle.sdd_domain_invariant.proofs.Banks as banks
use Rattle.sdd_domain_invariant.proofs.Counts.{as_full, one_full, counted, uncounted}
use Rattle.sdd_domain_invariant.proofs.Slots.Records.{in_head, in_tail, in_either, known_by}
use Rattle.sdd_domain_invariant.proofs.Slots.Records as records
use Rattle.sdd_domain_invariant.proofs.Slots.FilledInvariant.{filled_learned}
use Rattle.sdd_domain_invariant.proofs.Slots.RecordSteps.{one_moved, none_moved, one_view, rested_tells, comes_home}
use Rattle.sdd_domain_invariant.proofs.Fractions.WholeFractions.{rest_is}
use Rattle.sdd_domain_invariant.proofs.Fractions.SlotFractions.{gives_row}
use Rattle.sdd_domain_invariant.proofs.Fractions.LastFractions.{waiting_shows, empty_shows, not_stored, stored_other, stored_set, stored_same, lasts_fewer, lasts_given}
use Rattle.sdd_domain_invariant.proofs.TableSteps.{Follows, lift_homes}
use Rattle.sdd_domain_invariant.proofs.Slots.KindSteps.{KeepsPost, has_first, one_slot, lets_be}
use Rattle.sdd_domain_invariant.proofs.Slots.KindSteps as kind_steps
use Rattle.sdd_domain_invariant.proofs.Raw.RawSteps as raws
use Rattle.sdd_domain_invariant.proofs.Fractions.FractionSteps as steps

-- an item that it has in a bag waits from now on, of which it knows what it shows
reclaimed_tells : (m : ℕ) (v : View) → IsTelling m v → (slot : ℕ) → slot < m → v.fractions.moves ≡ None → (x : WaitingItem) → x.slot ≡ slot → (y : ℕ)
    (shared : Bool) (value : Gv) → IsTelling m (recollecting (record { slot = slot; shared = shared; value = value }) (reclaimed slot x y v))
reclaimed_tells m v t slot low rests x same y shared value = let r : ShownValue = record { slot = slot; shared = shared; value = value } in
    let w : View = recollecting r (reclaimed slot x y v) in
    let more : (i : ℕ) → items_at i w ≡ items_at i v + waits_in i x = λ i. total_snoc (waits_in i) v.slots.waits x in record {
      owns = t.owns;
      owned = t.owned;
      sees = t.sees;
      waits = λ i g h. (
        ⊎_elim (λ (e : (slot ≡ i) × (value ≡ g)). let a = more i in let o = is_same i x.slot (same ∙ e.0) in
            let l : 0 < items_at i w = omega arith in l)
            (λ (k : IsIn v.fractions.waits i g). let a = more i in let o = (t.waits i g k).0 in let l : 0 < items_at i w = omega arith in l)
            (in_either r v.fractions.waits i g h),
        none_moved w i rests,
      );
      waiting = λ i near o still. dite (ℕ_discrete slot i) (λ e. (value, in_head r v.fractions.waits i value e refl))
          (λ ne. let a = more i in let z = is_other i x.slot (λ e. ne (sym same ∙ e)) in
          let b = t.waiting i near (omega arith) (none_moved v i rests) in (b.0, in_tail r v.fractions.waits i b.0 b.1));
      inside = λ i g k. known_by w i g (λ a. t.inside i g (inl a)) (λ a. t.inside i g (inr (inl a)))
          (λ a. ⊎_elim (λ (e : (slot ≡ i) × (value ≡ g)). subst (λ (j : ℕ). j < m) e.0 low)
          (λ (b : IsIn v.fractions.waits i g). t.inside i g (inr (inr b))) (in_either r v.fractions.waits i g a)) k;
    }

-- it moves the value of a slot of which it has neither an owner nor the item waiting
emptying_tells : (m : ℕ) (v : View) → IsTelling m v → (slot : ℕ) → v.fractions.moves ≡ None → ¬ (Owns v slot) → ¬ (0 < items_at slot v)
    → IsTelling m (moving slot v)
emptying_tells m v t slot rests never quiet = let w : View = moving slot v in record {
  owns = λ i g h. let o = (t.owns i g h).0 in (o, λ m. never (subst (Owns v) (one_moved w slot i refl m) o));
  owned = λ i o still. t.owned i o (none_moved v i rests);
  sees = t.sees;
  waits = λ i g h. let o = (t.waits i g h).0 in (o, λ m. quiet (subst (λ (k : ℕ). 0 < items_at k v) (one_moved w slot i refl m) o));
  waiting = λ i low o still. t.waiting i low o (none_moved v i rests);
  inside = t.inside;
}

module _ (slots id : ℕ) (me : SeatState) (live : HasPlace me.0.epoch) where
  abbrev v : View
  v = me.0

  abbrev γ : ℕ
  γ = me.0.fractions.gamma

  abbrev sizes : Sizes
  sizes = me.0.sizes

  abbrev n : ℕ
  n = me.0.sizes.participants

  abbrev May : ℕ → (ℕ → ℕ) → (ℕ → SeatState → Type 0) → Type 0
  May = steps.May slots id me live

  module _ (slot : ℕ) (inside : slot < sizes.slots) where
    abbrev i : ℕ
    i = slot_word sizes slot

    -- a slot whose item has no owner, and doesn't wait as others do
    module _ (s : State ValueFraction View) (h : DomainInvariant γ sizes s) (at : get_elem? s.views id ≡ some v)
        (dead : alive (slot_at sizes s.words slot) ≡ 0) (quiet : waiting (slot_at sizes s.words slot) ≡ 0) where
      abbrev found : ℕ
      found = get_or s.words i 0

      none_owns : (j : ℕ) (u : View) → get_elem? s.views j ≡ some u → ¬ (Owns u slot)
      none_owns j u e o = let a = owner_in codes sound sizes s.words s.views h.kept.parts.slots j slot u e in omega arith

      none_waits : (j : ℕ) (u : View) → get_elem? s.views j ≡ some u → ¬ (0 < items_at slot u)
      none_waits j u e o = let t = total_has (items_at slot) s.views j u e in let w = h.kept.parts.slots.waited slot in omega arith

      -- the other slots are as full as before, and this one too
      as_before : (y : ℕ) → valued y ≡ valued (slot_at sizes s.words slot) → (j : ℕ) → j < sizes.slots
          → full_at sizes (set s.words i y) j ≡ full_at sizes s.words j
      as_before y same j low = dite (ℕ_discrete j slot)
          (λ e. subst (λ (k : ℕ). full_at sizes (set s.words i y) k ≡ full_at sizes s.words k) (sym e)
          (ap valued (steps.here slots id me live slot inside s.words y (steps.within slots id me live slot inside s h)) ∙ same))
          (λ ne. steps.others slots id me live slot inside s.words y j low ne)

      -- its word is another then that has no owner
      kinds_then : (y : ℕ) (w : View) → alive y ≡ 0 → w.words ≡ noted slot y v → w.sizes ≡ v.sizes → w.fractions.moves ≡ None
          → w.fractions.owns ≡ v.fractions.owns → w.slots.holds ≡ v.slots.holds → KeepsPost v w
          → KindsInvariant sizes (set s.words i y) (set s.views id w)
      kinds_then y w none words of rests told holds post =
          one_slot sizes s.words s.views h.kinds h.records.each id v at slot inside y w
          (lets_be sizes s.words s.views h.kinds h.records.each id v at slot inside y w
          (ap length words ∙ (steps.wrote_long slots id me live slot inside s h at y ∙ ap words_behind (sym of))) rests
          (λ r k. let a = subst (λ (l : List ShownValue). HasRecord l r) told k in
          (a, λ e. none_owns id v at (subst (Owns v) e ((h.records.each id v at).owns r.slot r.value (a.0, r, a.1, refl, refl)).0)))
          (λ _ _ o. holds ∙ o))
          (λ j u _ e. inl (none_owns j u e)) (steps.here slots id me live slot inside s.words y (steps.within slots id me live slot inside s h))
          (λ _. inl (omega arith)) (λ c. absurd (steps.in_no_cell slots id me live slot inside s h dead c)) post

      -- nothing changes but what it knows of private items
      learns : (told : ℕ → SeatState → Type 0) (privates : List PrivateItem) (emptied : List ℕ) (left : Bool)
          → told found (record v { slots = record v.slots { privates = privates; emptied = emptied; left = left } }, me.1)
          → Follows γ sizes id i me told s found (record v { slots = record v.slots { privates = privates; emptied = emptied; left = left } })
      learns told privates emptied left tells = let w : View = record v { slots = record v.slots { privates = privates; emptied = emptied; left = left } } in
          let same = λ (j : ℕ). steps.same_words slots id me live slot inside s h j in record {
            fractions = v.fractions;
            act = keeps;
            valid = tt;
            homes = part.calm γ sizes s.words s.views s.homes h.homes id v at (set s.words i found) w (λ j p out. out) (λ j _. same j) (h.homes.moving id v at);
            records = records.calm sizes s.views s.homes h.records id v at w (refl, refl, refl, (λ _. refl), refl);
            counts = uncounted sizes s.words s.views h.counts id v at (set s.words i found) w refl (λ l. l)
                (as_full sizes s.words (set s.words i found) (λ j _. same j)) (steps.over_slot slots id me live slot inside s h found);
            filled = steps.still_filled slots id me live s h at w refl refl refl;
            bank = banks.alike γ sizes s.words s.views h.bank id v at (set s.words i found) w (refl, refl, refl, (λ _. refl), refl) (λ j _. same j);
            lasts = lasts_fewer sizes s.words s.views s.homes h.lasts id v at (set s.words i found) w s.homes (λ _ _ _ _ l. l) (λ b. (b, refl)) refl
                (λ _ _. inl live) (stored_same sizes s.words i);
            kinds = kind_steps.calm sizes s.words s.views h.kinds h.records.each id v at (set s.words i found) w
                (steps.same_slots slots id me live slot inside s h) (refl, refl, refl, (λ _. refl), refl) refl refl (λ _ o. o)
                (steps.post slots id me live s h at w refl refl refl refl (λ l. l));
            tells = tells;
          }

      -- the last fraction is at home where nobody moves the value, and it is known what a lone participant knows of it where the item is hidden
      module _ (still : (j : ℕ) (u : View) → get_elem? s.views j ≡ some u → ¬ (Moves u slot)) (hides : HidesItem (slot_at sizes s.words slot)) where
        abbrev last : (z : ValueFraction) × LastIs sizes s.homes slot z
        last = raws.last_home slots id me live slot inside s h still

        abbrev value : Gv
        value = last.0.content.shown

        abbrev shows : Bool → ShownValue
        shows shared = record { slot = slot; shared = shared; value = value }

        -- where there is one place, one record says it of each participant
        one_says : n ≡ 1 → (shared : Bool) × ((j : ℕ) (u : View) → get_elem? s.views j ≡ some u → HasPlace u.epoch
            → newest slot u.fractions.filled ≡ Some (shows shared))
        one_says one = let mine = h.lasts.hidden one id v at live slot last.0 inside hides last.1 in (
          mine.0,
          λ j u e placed. dite (ℕ_discrete id j)
              (λ same. subst (λ (x : View). newest slot x.fractions.filled ≡ Some (shows mine.0)) (sym (one_view s.views id j u v e at (sym same))) mine.1)
              (λ ne. let p = h.kept.parts.epoch in let a = (p.each id v.epoch (at_map epoch_of s.views id v at)).inside live in
              let b = (p.each j u.epoch (at_map epoch_of s.views j u e)).inside placed in
              let apart = (p.two id j v.epoch u.epoch ne (at_map epoch_of s.views id v at) (at_map epoch_of s.views j u e)).places live placed in
              absurd (apart (omega arith))),
        )

        says : (shared : Bool) × (n ≡ 1 → (j : ℕ) (u : View) → get_elem? s.views j ≡ some u → HasPlace u.epoch
            → newest slot u.fractions.filled ≡ Some (shows shared))
        says = dite (ℕ_discrete n 1) (λ one. let k = one_says one in (k.0, λ _. k.1)) (λ more. (false, λ one. absurd (more one)))

    -- a private item is claimed for its bag: the last fraction, which is at home, tells what it shows
    pub reclaims : (collector : ℕ) → WaitsFor collector v slot → private_word collector < shared_base → v.fractions.moves ≡ None
        → May i (λ x. either (eqb x (private_word collector)) (waiting_word 0) x) (OfSlot (ReclaimsOne collector) i me)
    reclaims collector has fits rests = let old : ℕ = private_word collector in let told : ℕ → SeatState → Type 0 = OfSlot (ReclaimsOne collector) i me in
        let f : ℕ → ℕ = λ x. either (eqb x old) (waiting_word 0) x in let then : ℕ → View → Type 0 = AtSlot (Reclaims collector) i v in
        let pr = private_is collector fits in
        let at_once = steps.at_once slots id me live slot inside (ReclaimsOne collector) in
        lift_homes γ sizes slots id me i f then told
        (steps.spares slots id me live slot inside f then (λ r w t. let c = t slot refl in ⊎_elim
        (λ (e : r ≡ old). ap (λ (u : View). u.places) (c.0 e).3)
        (λ (o : (r ≡ emptied_word) ⊎ (r ≡ emptying_word)). ⊎_elim (λ (e : r ≡ emptied_word). ap (λ (u : View). u.places) (c.1 e))
        (λ (e : r ≡ emptying_word). ap (λ (u : View). u.places) (c.2 e)) o) c.3))
        (words.reclaims id v live slot inside collector has fits)
        (λ s w h at t. let x : ℕ = get_or s.words i 0 in let c = t slot refl in let low = steps.within slots id me live slot inside s h in
        exchanged x old (waiting_word 0) (λ y. Follows γ sizes id i me told s y w)
        (λ hit. let y : ℕ = waiting_word 0 in let e = c.0 hit in let item : WaitingItem = e.0.item in
        let for = pr.4 in let one = sound.for_one collector old (omega arith) in let wt = waiting_is 0 (omega arith) in
        let dead : alive x ≡ 0 = ap alive hit ∙ pr.0 in let quiet : waiting x ≡ 0 = ap waiting hit ∙ pr.1 in
        let filled : valued x ≡ 1 = ap valued hit ∙ one.1 in
        let still = λ (j : ℕ) (u : View) (e : get_elem? s.views j ≡ some u).
        steps.still_free γ sizes s h slot j u e dead quiet (ap codes.emptying hit ∙ one.2) in
        let hides : HidesItem x = ((let p = ap codes.private hit ∙ one.0 in omega arith), filled) in
        let z = last s h at dead quiet still hides in let g : Gv = z.0.content.shown in
        let said = says s h at dead quiet still hides in let q : ShownValue = record { slot = slot; shared = said.0; value = g } in
        let now : View = recollecting q (reclaimed slot item y v) in
        let same = as_before s h at dead quiet y ((sound.waits y (let a = wt.1 in omega arith)).2 ∙ sym filled) in
        let mine = records.mine sizes s.views s.homes h.records id v at in
        subst (Follows γ sizes id i me told s y) (sym e.3) record {
          fractions = now.fractions;
          act = keeps;
          valid = tt;
          homes = part.calm γ sizes s.words s.views s.homes h.homes id v at (set s.words i y) now (λ j p out. out) same (none_out now rests);
          records = records.comes_to_learn sizes s.views s.homes h.records id v at slot n g z.0 inside (omega arith) z.1
              (raws.all_shown slots id me live slot inside s h still) (λ j b e is. h.lasts.banks j b e is slot z.0 inside z.1) now (λ is. (is, refl)) s.homes
              (reclaimed_tells sizes.slots v (h.records.each id v at) slot inside rests item e.2 y said.0 g)
              (λ j d k. known_by now j d (λ a. inr (mine j d (inl a))) (λ a. inr (mine j d (inr (inl a))))
              (λ a. ⊎_elim (λ (b : (slot ≡ j) × (g ≡ d)). inl (sym b.0, sym b.1))
              (λ (b : IsIn v.fractions.waits j d). inr (mine j d (inr (inr b)))) (in_either q v.fractions.waits j d a)) k)
              (λ j p u l. l)
              (λ j m. absurd (none_moved now j rests m))
              (λ j u _ e. ((λ k m. absurd (none_moved now k rests m)), (λ k m sees. h.records.apart j id u v k e at m sees)));
          counts = uncounted sizes s.words s.views h.counts id v at (set s.words i y) now refl (λ l. l)
              (as_full sizes s.words (set s.words i y) same) (steps.over_slot slots id me live slot inside s h y);
          filled = filled_learned sizes s.views h.filled id v at now refl (λ l. l) q
              (λ r told. ⊎_elim (λ (a : HasRecord v.fractions.owns r). inr (id, v, at, inl a))
              (λ (a : HasRecord (q ∷ v.fractions.waits) r). ⊎_elim (λ (b : q ≡ r). inl (sym b))
              (λ (b : HasRecord v.fractions.waits r). inr (id, v, at, inr b)) (has_first q v.fractions.waits r a)) told)
              said.1;
          bank = banks.calm γ sizes s.words s.views h.bank id v at (set s.words i y) now
              record { bank = refl; founds = refl; gamma = refl; banked = refl; drawn = refl } refl (h.bank.low id v at) same;
          lasts = lasts_fewer sizes s.words s.views s.homes h.lasts id v at (set s.words i y) now s.homes (λ _ _ _ _ l. l) (λ b. (b, refl)) refl
              (λ _ _. inl live) (stored_set sizes s.words slot y low (λ e. absurd (omega arith)) (waiting_shows y (let a = wt.1 in omega arith))
              (λ c. absurd (steps.in_no_cell slots id me live slot inside s h dead c)));
          kinds = kinds_then s h at dead quiet y now wt.0 refl refl rests refl refl (steps.post slots id me live s h at now refl refl refl refl (λ l. l));
          tells = at_once x (now, me.1) (
            reclaimed slot item y v,
            subst (Reclaims collector slot v x) e.3 c,
            refl,
            (λ _. (
              q,
              record {
                of = refl;
                code = (h.homes.home slot n z.0 inside (omega arith) z.1).1.0 filled;
                newest = λ lone. said.1 (steps.one_place γ sizes s h id v at lone) id v at live;
              },
              refl,
            )),
            (λ no. absurd (no hit)),
          );
        })
        (λ miss. ⊎_elim (λ (e : x ≡ old). absurd (miss e)) (λ (o : (x ≡ emptied_word) ⊎ (x ≡ emptying_word)). ⊎_elim
        (λ (e : x ≡ emptied_word). let u : View = found_emptied slot v in let ed = emptied_is in
        subst (Follows γ sizes id i me told s x) (sym (c.1 e)) (learns s h at (ap alive e ∙ ed.0) (ap waiting e ∙ ed.1) told v.slots.privates
        (slot ∷ v.slots.emptied) v.slots.left (at_once x (u, me.1)
        (u, subst (Reclaims collector slot v x) (c.1 e) c, refl, (λ hit. absurd (miss hit)), (λ _. refl)))))
        (λ (e : x ≡ emptying_word). let u : View = orphaned slot v in let em = emptying_is in
        subst (Follows γ sizes id i me told s x) (sym (c.2 e)) (learns s h at (ap alive e ∙ em.0) (ap waiting e ∙ em.1) told u.slots.privates v.slots.emptied
        v.slots.left (at_once x (u, me.1)
        (u, subst (Reclaims collector slot v x) (c.2 e) c, refl, (λ hit. absurd (miss hit)), (λ _. refl))))) o) c.3))

    -- a slot that it empties for a close
    module _ (s : State ValueFraction View) (h : DomainInvariant γ sizes s) (at : get_elem? s.views id ≡ some v) (mine : Empties v slot) where
      abbrev busy : 0 < emptying (slot_at sizes s.words slot)
      busy = emptying_at codes sound sizes s.words s.views h.kept.parts.collectors id slot v at mine

      dead_now : alive (slot_at sizes s.words slot) ≡ 0
      dead_now = (sound.emptying (slot_at sizes s.words slot) busy).1

      there_now : valued (slot_at sizes s.words slot) ≡ 1
      there_now = (sound.emptying (slot_at sizes s.words slot) busy).3

      quiet_now : waiting (slot_at sizes s.words slot) ≡ 0
      quiet_now = (sound.emptying (slot_at sizes s.words slot) busy).4

      hidden_now : HidesItem (slot_at sizes s.words slot)
      hidden_now = ((let b = busy in omega arith), there_now)

      -- nobody sees it
      unseen : (j : ℕ) (u : View) → get_elem? s.views j ≡ some u → ¬ (Sees u slot)
      unseen j u e sees = let none = ((h.kept.parts.collectors.each j u e).seen slot sees).0 in let b = busy in omega arith

      -- nobody else moves its value
      others_still : (j : ℕ) (u : View) → get_elem? s.views j ≡ some u → id ≢ j → ¬ (Moves u slot)
      others_still j u e apart m = ⊎_elim (λ (o : Owns u slot). none_owns s h at dead_now quiet_now j u e o)
          (λ (r : (0 < items_at slot u) ⊎ Empties u slot). ⊎_elim (λ (o : 0 < items_at slot u). none_waits s h at dead_now quiet_now j u e o)
          (λ (o : Empties u slot). let both = total_two (empties_at slot) s.views id j v u apart at e in let sum = h.kept.parts.collectors.emptied slot in
          let single = (sound.emptying (slot_at sizes s.words slot) busy).0 in let one = is_same slot slot refl in
          let a : empties_at slot v ≡ _ = ap (one_in slot) mine in let b : empties_at slot u ≡ _ = ap (one_in slot) o in omega arith) r)
          (h.homes.moving j u e slot m).1

      -- nor does it, if it moves none
      all_still : v.fractions.moves ≡ None → (j : ℕ) (u : View) → get_elem? s.views j ≡ some u → ¬ (Moves u slot)
      all_still rests j u e m = dite (ℕ_discrete id j)
          (λ same. none_moved v slot rests (subst (λ (x : View). Moves x slot) (one_view s.views id j u v e at (sym same)) m))
          (λ apart. others_still j u e apart m)

    -- the value of a slot that it empties is to be moved out
    pub takes_private : (bd : ℕ) → v.fractions.moves ≡ None → Empties v slot
        → steps.MayDeal slots id me live slot inside bd Leaves (λ _. Unit {0}) (λ l me'. TakesPrivate slot me me' × IsDeposit slot me l)
    takes_private bd rests mine s b h _ at there bank ne = let p = h.kept.parts in let tells = h.records.each id v at in
        let dead = dead_now s h at mine in let quiet = quiet_now s h at mine in
        let still = all_still s h at mine rests in let hides = hidden_now s h at mine in let filled = there_now s h at mine in
        let z = last s h at dead quiet still hides in let value : Gv = z.0.content.shown in
        let undrawn : total (drawn_at slot) s.views ≡ 0 = (let low = total_below (drawn_at slot) (owners_at slot) s.views (λ j u e. h.bank.low j u e slot) in
        let owned = p.slots.owned slot in omega arith) in
        let w : View = moving slot v in
        steps.moves_out slots id me live slot inside bd s b h at there bank ne rests filled undrawn (IsValue value)
        (λ q y near lies sh. (sh.0 filled, raws.all_shown slots id me live slot inside s h still q y near lies)) (inr (inr mine))
        (λ o. absurd (none_owns s h at dead quiet id v at o)) (unseen s h at mine) (others_still s h at mine)
        w.fractions refl refl refl refl refl refl
        (emptying_tells sizes.slots v tells slot rests (none_owns s h at dead quiet id v at) (none_waits s h at dead quiet id v at))
        (λ j g k. k) refl
        (steps.tells_old_by slots id me live s h at w (λ r a. inl a) (λ r a. inr a)) (λ r a. a)
        (λ l me'. TakesPrivate slot me me' × IsDeposit slot me l)
        (λ l xs is row. (
          record {
            value = value;
            view = refl;
            fractions = row;
            filled = λ lone. h.lasts.hidden (steps.one_place γ sizes s h id v at lone) id v at live slot z.0 inside hides z.1;
          },
          is,
        ))

    -- the value was moved out
    module _ (moved : Moves v slot) (mine : Empties v slot) (rest : CarriedFractions) (row : CarriesAll γ slot n 0 IsNoValueCode rest me.1) where
      -- it empties the slot no more, whose word is y then
      abbrev vacated : List PrivateItem → ℕ → Bool → View
      vacated privates y left = record v { slots = record v.slots { privates = privates; empties = None; left = left }; words = noted slot y v }

      -- all fractions in it go home, where its word says that no value is there
      vacates : (s : State ValueFraction View) (h : DomainInvariant γ sizes s) → get_elem? s.views id ≡ some v → (told : ℕ → SeatState → Type 0)
          (privates : List PrivateItem) (y : ℕ) (left : Bool) → alive y ≡ 0 → valued y ≡ 0 → y ≢ raw_word 0
          → ((xs : CarriedFractions) → xs ≡ drop (suc n) me.1 → told (get_or s.words i 0) (giving (vacated privates y left), xs))
          → Follows γ sizes id i me told s y (vacated privates y left)
      vacates s h at told privates y left none empty apart tells = let now : View = giving (vacated privates y left) in
          let dead = dead_now s h at mine in let quiet = quiet_now s h at mine in let low = steps.within slots id me live slot inside s h in
          let word = steps.here slots id me live slot inside s.words y low in let others = steps.others slots id me live slot inside s.words y in
          let g = gives_row γ n slot 0 IsNoValueCode sizes.slots inside (suc n) (omega arith) s.homes rest me.1 h.homes.deep row in
          let none_said : full_at sizes (set s.words i y) slot ≡ 0 = ap valued word ∙ empty in
          let post = steps.post slots id me live s h at now refl refl refl refl (λ l. l) in record {
            fractions = now.fractions;
            act = g.act;
            valid = g.valid;
            homes = part.gives γ sizes s.words s.views s.homes h.homes id v at slot 0 IsNoValueCode rest me.1 g (set s.words i y) now
                (ap (away n) none_said)
                (λ a vacant. ((λ e. absurd (omega arith)), λ _. vacant))
                (λ j p ne out. ⊎_elim (λ (m : Moves v j). absurd (ne (one_moved v slot j moved m))) (λ (o : SeesFrom v j p). inr o) out)
                others (none_out now refl);
            records = comes_home γ sizes s h slot id v at 0 IsNoValueCode rest me.1 g
                (records.unknown sizes s.views s.homes h.records slot (unseen s h at mine) (λ j u e which. ⊎_elim
                (λ (o : Owns u slot). absurd (none_owns s h at dead quiet j u e o))
                (λ (o : 0 < items_at slot u). absurd (none_waits s h at dead quiet j u e o)) which)) now
                (rested_tells v (h.records.each id v at) slot moved now refl (λ _ _. refl) (none_owns s h at dead quiet id v at)
                (λ _ _. refl) (none_waits s h at dead quiet id v at) refl)
                refl refl;
            counts = let was = there_now s h at mine in counted sizes s.words s.views h.counts id v at (set s.words i y) now
                (let f = one_full sizes s.words slot y inside h.kept.parts.slots.long in omega arith)
                (let o = steps.over_slot slots id me live slot inside s h y in omega arith) (λ none. absurd (omega arith));
            filled = steps.still_filled slots id me live s h at now refl refl refl;
            bank = banks.moves_over γ sizes s.words s.views h.bank id v at (set s.words i y) now slot
                record { bank = refl; founds = refl; gamma = refl; banked = refl; drawn = refl } (h.bank.low id v at)
                (banks.moved_outside γ sizes s.words s.views h.bank id v at slot moved)
                (outside_free sizes (set s.words i y) (set s.views id now) slot none_said)
                (λ k ne. sym (moves_other k v slot moved ne)) others;
            lasts = lasts_given sizes s.words s.views s.homes h.lasts id v at γ slot 0 IsNoValueCode rest me.1 g (λ a b e e'. e ∙ sym e') (set s.words i y) now
                (steps.moved_unbanked slots id me live slot inside s h at moved) (λ b. (b, refl)) (λ _ _. refl) (λ l. l)
                (not_stored sizes s.words slot y low apart (empty_shows y empty) (steps.in_no_cell slots id me live slot inside s h dead))
                (stored_other sizes s.words slot y);
            kinds = kinds_then s h at dead quiet y now none refl refl refl refl refl post;
            tells = tells (carried_after me.1 g.act) (g.carried ∙ sym (rest_is γ slot n 0 IsNoValueCode rest (suc n) me.1 row));
          }

      -- its bag gives the slot back; or has let go of it, and nothing goes home yet
      pub has_emptied : May i (λ x. either (eqb x emptying_word) emptied_word x) (OfSlot EmptiedOne i me)
      has_emptied = let told : ℕ → SeatState → Type 0 = OfSlot EmptiedOne i me in let f : ℕ → ℕ = λ x. either (eqb x emptying_word) emptied_word x in
          let then : ℕ → View → Type 0 = AtSlot HasEmptied i v in let at_once = steps.at_once slots id me live slot inside EmptiedOne in
          lift_homes γ sizes slots id me i f then told
          (steps.spares slots id me live slot inside f then (λ r w t. let c = t slot refl in ⊎_elim
          (λ (e : r ≡ emptying_word). ap (λ (u : View). u.places) (c.0 e)) (λ (e : r ≡ left_word). ap (λ (u : View). u.places) (c.1 e)) c.2))
          (words.has_emptied id v live slot inside mine)
          (λ s w h at t. let x : ℕ = get_or s.words i 0 in let c = t slot refl in let ed = emptied_is in
          exchanged x emptying_word emptied_word (λ y. Follows γ sizes id i me told s y w)
          (λ hit. subst (Follows γ sizes id i me told s emptied_word) (sym (c.0 hit))
          (vacates s h at told v.slots.privates emptied_word v.slots.left ed.0 ed.5 (λ e. absurd (omega arith)) (λ xs is. at_once x
          (giving (emptied_now slot emptied_word v), xs) ((λ _. (refl, is)), (λ e. absurd (omega arith)), c.2, c.3))))
          (λ miss. ⊎_elim (λ (e : x ≡ emptying_word). absurd (miss e))
          (λ (e : x ≡ left_word). subst (Follows γ sizes id i me told s x) (sym (c.1 e))
          (learns s h at (dead_now s h at mine) (quiet_now s h at mine) told v.slots.privates v.slots.emptied true
          (at_once x (finds_left v, me.1) ((λ hit. absurd (miss hit)), (λ _. refl), c.2, c.3)))) c.2))

      -- its bag has let go of it: the slot is free
      pub gives_empty_back : v.slots.left ≡ true → May i (λ _. free_word 0) (λ _. OfSlot GivesOneEmptyBack i me (free_word 0))
      gives_empty_back late = let y : ℕ = free_word 0 in let told : ℕ → SeatState → Type 0 = λ _. OfSlot GivesOneEmptyBack i me y in
          let then : ℕ → View → Type 0 = λ _. AtSlot GivesEmptyBack i v y in let fr = free_is 0 (omega arith) in
          lift_homes γ sizes slots id me i (λ _. y) then told
          (steps.spares slots id me live slot inside (λ _. y) then (λ r w t. ap (λ (u : View). u.places) (t slot refl)))
          (words.gives_empty_back id v live slot inside mine late)
          (λ s w h at t. subst (Follows γ sizes id i me told s y) (sym (t slot refl))
          (vacates s h at told v.slots.privates y false fr.0 (sound.empty y fr.2) (λ e. absurd (omega arith)) (λ xs is.
          steps.at_once slots id me live slot inside GivesOneEmptyBack y (giving (empty_given_back slot y v), xs) (refl, is))))

      -- it emptied an item of its own bag: the slot is free
      pub gives_own_back : (r : PrivateItem) → HasPrivate v r → r.item.slot ≡ slot → May i (λ _. free_word 0) (λ _. OfSlot GivesOneOwnBack i me (free_word 0))
      gives_own_back r has of = let y : ℕ = free_word 0 in let told : ℕ → SeatState → Type 0 = λ _. OfSlot GivesOneOwnBack i me y in
          let then : ℕ → View → Type 0 = λ _. AtSlot GivesOwnBack i v y in let fr = free_is 0 (omega arith) in
          lift_homes γ sizes slots id me i (λ _. y) then told
          (steps.spares slots id me live slot inside (λ _. y) then (λ r w t. ap (λ (u : View). u.places) (t slot refl)))
          (words.gives_own_back id v live slot inside mine r has of)
          (λ s w h at t. subst (Follows γ sizes id i me told s y) (sym (t slot refl))
          (vacates s h at told (without_private slot v.slots.privates) y v.slots.left fr.0 (sound.empty y fr.2) (λ e. absurd (omega arith)) (λ xs is.
          steps.at_once slots id me live slot inside GivesOneOwnBack y (giving (own_given_back slot y v), xs) (refl, is))))
