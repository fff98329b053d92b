-- An item goes out as raw, is seen under a guard meanwhile, comes back, and its owner draws its unit: these steps keep the whole invariant.
use Rattle.std.proofs.Common.{◌≡◌, ◌⊎◌, inl, inr, ℕ, zero, suc, ◌<◌, ◌≤◌, false, eqb, List, [], ◌∷◌, get_or, set, sym, refl, ap, ◌∙◌, subst, ⊎_elim, arith}
use Rattle.std.specs.Prelude.{Some, None}
use mathlib.Core.Option.{none, some, some-injective}
use mathlib.Core.Logic.{dite}
use native.Mathlib.Decide.{ℕ_discrete, dec_lt}
use lib.ListN.{get_elem?}
use lib.Seq.{set-get_or}
use prog.Atomic.{either}
use base.Stored.{Gv}
use Rattle.atomic_table.specs.Table.{State, keeps, takes}
use Rattle.atomic_table.proofs.Lists.{at_map, exchanged}
use Rattle.sdd_shared_values.specs.declared.value_fraction.ValueFraction.{ValueFraction}
use Rattle.sdd_rights.specs.declared.views.ShownValue.{ShownValue}
use Rattle.sdd_rights.specs.declared.views.View.{View}
use Rattle.sdd_rights.specs.declared.views.Sizes.{Sizes}
use Rattle.sdd_domain_invariant.specs.Words.{slot_word}
use Rattle.sdd_domain_invariant.specs.Codes.{codes, alive, waiting, valued, owned_word, raw_word}
use Rattle.sdd_domain_invariant.specs.Epoch.{HasPlace, IsOpen, IsLone}
use Rattle.sdd_domain_invariant.specs.Sums.{times}
use Rattle.sdd_domain_invariant.specs.Slots.{slot_at, Owns, Sees, Holds}
use Rattle.sdd_domain_invariant.specs.Slots.SlotSteps.{without, turned_raw, AtSlot, TurnsRaw, Regains, SeesRaw}
use Rattle.sdd_domain_invariant.specs.WordInvariant.{epoch_of}
use Rattle.sdd_domain_invariant.proofs.Codes.{sound, owned_is, raw_is, raw_plain}
use Rattle.sdd_domain_invariant.proofs.Raw.RawWordSteps as words
use Rattle.sdd_domain_invariant.proofs.Slots.SlotWords.{owner_in, owners_in}
use Rattle.sdd_domain_invariant.proofs.Sums.{is_same, is_other, without_same, without_other}
use Rattle.sdd_domain_invariant.specs.Fractions.FractionsAtHome.{fraction_at, away, full_at, Has, Moves, SeesFrom, LiesAt, FractionsInvariant}
use Rattle.sdd_domain_invariant.specs.Slots.Records.{IsIn, IsKnown, IsTelling}
use Rattle.sdd_domain_invariant.specs.Slots.FilledInvariant.{newest, HasRecord}
use Rattle.sdd_domain_invariant.specs.Cells.CellsInvariant.{IsInCell}
use Rattle.sdd_domain_invariant.specs.Fractions.LastFractions.{IsRaw, LastIs}
use Rattle.sdd_domain_invariant.proofs.Cells.{cells_slot, in_cell_before}
use Rattle.sdd_domain_invariant.specs.DomainInvariant.{DomainInvariant}
use Rattle.sdd_domain_invariant.specs.Fractions.FractionSteps.{SeatState, IsValue, untold, sighting, OfSlot}
use Rattle.sdd_domain_invariant.specs.Raw.RawSteps.{TurnsRawOne, RegainsOne, SeesRawOne, regaining}
use Rattle.sdd_domain_invariant.proofs.Fractions.FractionsInvariant.{none_out, only_seen, one_taken}
use Rattle.sdd_domain_invariant.proofs.Fractions.FractionsInvariant as part
use Rattle.sdd_domain_invariant.proofs.Banks.{moves_none, outside_there, outside_same, total_below, with_deposits, banked_then}
use Rattle.sdd_domain_invariant.proofs.Banks as banks
use Rattle.sdd_domain_invariant.proofs.Counts.{as_full, uncounted}
use Rattle.sdd_domain_invariant.proofs.Slots.Records.{in_head, in_tail, in_either, in_none, known_by, told_seen, leaves_show}
use Rattle.sdd_domain_invariant.proofs.Slots.Records as records
use Rattle.sdd_domain_invariant.proofs.Slots.FilledInvariant.{has_none, filled_learned}
use Rattle.sdd_domain_invariant.proofs.Slots.RecordSteps.{none_moved, one_view, owns_it}
use Rattle.sdd_domain_invariant.proofs.Fractions.WholeFractions.{share_one}
use Rattle.sdd_domain_invariant.proofs.Fractions.LastFractions.{plain_shows, owned_shows, stored_other, hidden_set, stored_set, stored_same, AllKnow, lasts_out, lasts_fewer}
use Rattle.sdd_domain_invariant.proofs.TableSteps.{Follows, lift_homes, lift_whole}
use Rattle.sdd_domain_invariant.proofs.Slots.KindSteps as kind_steps
use Rattle.sdd_domain_invariant.proofs.Fractions.FractionSteps.{full_owned}
use Rattle.sdd_domain_invariant.proofs.Fractions.FractionSteps as steps

-- the first of these records, or another
has_more : (r : ShownValue) (rs : List ShownValue) (q : ShownValue) (k : ℕ) → get_elem? (r ∷ rs) k ≡ some q → (q ≡ r) ⊎ HasRecord rs q
has_more r rs q zero e = inl (sym (some-injective r q e))
has_more r rs q (suc k) e = inr (k, e)

-- the item of the only owner that it has goes out as raw
turned_tells : (m : ℕ) (v : View) → IsTelling m v → (slot : ℕ) → v.slots.owns ≡ slot ∷ [] → v.fractions.moves ≡ None → (y : ℕ)
    → IsTelling m (untold (turned_raw slot y v))
turned_tells m v t slot owns rests y = record {
  owns = λ i g h. absurd (in_none i g h);
  owned = λ i o still. dite (ℕ_discrete i slot)
      (λ e. absurd (let z = without_same slot v.slots.owns in let c = ap (λ (k : ℕ). times k (without slot v.slots.owns)) e in omega arith))
      (λ ne. absurd (let c = without_other slot i ne v.slots.owns in let e = ap (times i) owns in
      let other = is_other i slot (λ x. ne (sym x)) in omega arith));
  sees = t.sees;
  waits = t.waits;
  waiting = t.waiting;
  inside = λ i g k. ⊎_elim (λ (a : IsIn [] i g). absurd (in_none i g a)) (λ b. t.inside i g (inr b)) k;
}

-- it has the only owner of one slot more
regained_tells : (m : ℕ) (v : View) → IsTelling m v → (slot : ℕ) → slot < m → v.fractions.moves ≡ None → (y : ℕ) (value : Gv)
    → IsTelling m (regaining slot y value v)
regained_tells m v t slot low rests y value = let r : ShownValue = record { slot = slot; shared = false; value = value } in
    let w : View = regaining slot y value v in record {
      owns = λ i g h. (
        ⊎_elim (λ (e : (slot ≡ i) × (value ≡ g)). let o = is_same i slot e.0 in let l : Owns w i = omega arith in l)
            (λ (k : IsIn v.fractions.owns i g). let o = (t.owns i g k).0 in let l : Owns w i = omega arith in l) (in_either r v.fractions.owns i g h),
        none_moved w i rests,
      );
      owned = λ i o still. dite (ℕ_discrete slot i) (λ e. (value, in_head r v.fractions.owns i value e refl))
          (λ ne. let b = t.owned i (let q = is_other i slot ne in omega arith) (none_moved v i rests) in (b.0, in_tail r v.fractions.owns i b.0 b.1));
      sees = t.sees;
      waits = t.waits;
      waiting = t.waiting;
      inside = λ i g k. ⊎_elim
          (λ (a : IsIn (r ∷ v.fractions.owns) i g). ⊎_elim (λ (e : (slot ≡ i) × (value ≡ g)). let same = e.0 in omega arith)
          (λ (b : IsIn v.fractions.owns i g). t.inside i g (inl b)) (in_either r v.fractions.owns i g a))
          (λ b. t.inside i g (inr b)) k;
    }

module _ (slots id : ℕ) (me : SeatState) (live : HasPlace me.0.epoch) where
  abbrev v : View
  v = me.0

  abbrev γ : ℕ
  γ = me.0.fractions.gamma

  abbrev sizes : Sizes
  sizes = me.0.sizes

  abbrev n : ℕ
  n = me.0.sizes.participants

  abbrev May : ℕ → (ℕ → ℕ) → (ℕ → SeatState → Type 0) → Type 0
  May = steps.May slots id me live

  module _ (slot : ℕ) (inside : slot < sizes.slots) where
    abbrev i : ℕ
    i = slot_word sizes slot

    -- where nobody moves a slot's value the last fraction is at home
    module _ (s : State ValueFraction View) (h : DomainInvariant γ sizes s) (still : (j : ℕ) (u : View) → get_elem? s.views j ≡ some u → ¬ (Moves u slot)) where
      pub last_home : (z : ValueFraction) × LastIs sizes s.homes slot z
      last_home = h.homes.back slot n inside (omega arith) (λ j u e out. ⊎_elim (λ (m : Moves u slot). still j u e m)
          (λ (o : SeesFrom u slot n). let is_open = (h.kept.parts.slots.each j u e).guarded slot o.0 in
          let near = (h.kept.parts.epoch.each j u.epoch (at_map epoch_of s.views j u e)).inside (omega arith) in absurd (omega arith)) out)

      -- and what lies at home shows what that does
      pub all_shown : (p : ℕ) (z : ValueFraction) → p ≤ n → LiesAt n s.homes slot p z → z.content.shown ≡ last_home.0.content.shown
      all_shown p z near lies = h.lasts.alike slot p z last_home.0 inside near lies last_home.1

    -- an item that is out as raw
    module _ (s : State ValueFraction View) (h : DomainInvariant γ sizes s) (hit : slot_at sizes s.words slot ≡ raw_word 0) where
      -- it has no owner and doesn't wait, its value is there, and nobody moves that
      dead : alive (slot_at sizes s.words slot) ≡ 0
      dead = ap alive hit ∙ (raw_is 0 (omega arith)).0

      quiet : waiting (slot_at sizes s.words slot) ≡ 0
      quiet = ap waiting hit ∙ (raw_is 0 (omega arith)).1

      filled : valued (slot_at sizes s.words slot) ≡ 1
      filled = ap valued hit ∙ (raw_is 0 (omega arith)).3

      still : (j : ℕ) (u : View) → get_elem? s.views j ≡ some u → ¬ (Moves u slot)
      still j u e = steps.still_free γ sizes s h slot j u e dead quiet (ap codes.emptying hit ∙ (raw_plain 0 (omega arith)).1)

      -- the last fraction
      abbrev last : ValueFraction
      last = (last_home s h still).0

      abbrev lies : LastIs sizes s.homes slot last
      lies = (last_home s h still).1

      -- the slots are as full as before once it is owned
      as_before : (y : ℕ) → valued y ≡ 1 → (j : ℕ) → j < sizes.slots → full_at sizes (set s.words i y) j ≡ full_at sizes s.words j
      as_before y one j low = dite (ℕ_discrete j slot)
          (λ e. subst (λ (k : ℕ). full_at sizes (set s.words i y) k ≡ full_at sizes s.words k) (sym e)
          (ap valued (steps.here slots id me live slot inside s.words y (steps.within slots id me live slot inside s h)) ∙ (one ∙ sym filled)))
          (λ ne. steps.others slots id me live slot inside s.words y j low ne)

    -- it goes out as raw: its owner's unit is in the bank
    pub turns_raw : v.slots.owns ≡ slot ∷ [] → ¬ (Holds v slot) → v.slots.drawn ≡ [] → v.fractions.moves ≡ None → (value : Gv)
        → HasRecord v.fractions.owns (record { slot = slot; shared = false; value = value })
        → May i (λ _. raw_word 0) (λ _. OfSlot TurnsRawOne i me (raw_word 0))
    turns_raw owns free empty rests value has = let y : ℕ = raw_word 0 in let told : ℕ → SeatState → Type 0 = λ _. OfSlot TurnsRawOne i me y in
        let own = owns_it v slot owns in let r : ShownValue = record { slot = slot; shared = false; value = value } in
        lift_whole γ sizes slots id me i (λ _. y) (λ _. AtSlot TurnsRaw i v y) told
        (steps.spares slots id me live slot inside (λ _. y) (λ _. AtSlot TurnsRaw i v y) (λ r w t. ap (λ (u : View). u.places) (t slot refl)))
        (λ s h at small. let firm = (steps.uncounted_owner slots id me live slot inside s h at value has free).1 in
        words.turns_raw id v live slot 0 inside own free (omega arith) s.words s.views h.kept.parts at firm)
        (λ s w h at t. let one = (steps.uncounted_owner slots id me live slot inside s h at value has free).2 in
        let was = full_owned (slot_at sizes s.words slot) (omega arith) in let now : View = untold (turned_raw slot y v) in
        let low = steps.within slots id me live slot inside s h in
        let word : slot_at sizes (set s.words i y) slot ≡ y = steps.here slots id me live slot inside s.words y low in
        let same : (j : ℕ) → j < sizes.slots → full_at sizes (set s.words i y) j ≡ full_at sizes s.words j
        = λ j near. dite (ℕ_discrete j slot)
        (λ e. subst (λ (k : ℕ). full_at sizes (set s.words i y) k ≡ full_at sizes s.words k) (sym e)
        (ap valued word ∙ ((raw_is 0 (omega arith)).3 ∙ sym was)))
        (λ ne. steps.others slots id me live slot inside s.words y j near ne) in
        let mine = records.mine sizes s.views s.homes h.records id v at in
        let free_of : ¬ (IsInCell sizes s.words slot) = steps.in_no_cell_too slots id me live slot inside s h at own one in
        let known : IsKnown s.views slot value = mine slot value (inl (has.0, r, has.1, refl, refl)) in
        subst (Follows γ sizes id i me told s y) (sym (t slot refl)) record {
          fractions = now.fractions;
          act = keeps;
          valid = tt;
          homes = part.calm γ sizes s.words s.views s.homes h.homes id v at (set s.words i y) now (λ j p out. out) same (none_out now rests);
          records = records.no_more sizes s.views s.homes h.records id v at now (λ is. h.records.deposits id v at is) s.homes
              (turned_tells sizes.slots v (h.records.each id v at) slot owns rests y)
              (λ j g k. known_by now j g (λ a. absurd (in_none j g a)) (λ a. mine j g (inr (inl a))) (λ a. mine j g (inr (inr a))) k)
              (λ j p z _ _ lies. inl lies) (λ j m. m) (λ j a. a);
          counts = uncounted sizes s.words s.views h.counts id v at (set s.words i y) now refl (λ l. l)
              (as_full sizes s.words (set s.words i y) same) (steps.over_slot slots id me live slot inside s h y);
          filled = steps.filled_by slots id me live s h at now refl
              (steps.tells_old_by slots id me live s h at now (λ r a. absurd (has_none r [] refl a)) (λ r a. inr a));
          bank = banks.calm γ sizes s.words s.views h.bank id v at (set s.words i y) now
              record { bank = refl; founds = refl; gamma = refl; banked = refl; drawn = refl } refl
              (λ k. let z = ap (times k) empty in omega arith) same;
          lasts = lasts_out sizes s.words s.views s.homes h.lasts id v at (set s.words i y) now (λ b. (b, refl)) refl (λ l. l)
              (λ j kind near is. dite (ℕ_discrete j slot)
              (λ e. inr (subst (λ (k : ℕ). AllKnow sizes s.words s.views s.homes h.lasts id v at k kind) (sym e)
              (⊎_elim (λ (a : IsRaw sizes (set s.words i y) j × (kind ≡ false)).
              subst (AllKnow sizes s.words s.views s.homes h.lasts id v at slot) (sym a.1)
              (λ single j u e placed z last. subst (λ (g : Gv). newest slot u.fractions.filled ≡ Some (record { slot = slot; shared = false; value = g }))
              (sym (h.records.home slot n value z inside (omega arith) known last))
              (h.filled.knows single j id u v r e placed at (inl has))))
              (λ (b : IsInCell sizes (set s.words i y) j × _). absurd (free_of (subst (IsInCell sizes s.words) e
              (in_cell_before sizes s.words (set s.words i y) (cells_slot sizes s.words slot y) j b.0)))) is)))
              (λ ne. inl ((stored_other sizes s.words slot y j near ne).0 kind is)))
              (λ j near is. inl (hidden_set sizes s.words slot y low (λ hides. absurd (plain_shows y (raw_plain 0 (omega arith)) hides)) j near is));
          kinds = kind_steps.goes sizes s.words s.views h.kinds h.records.each id v at slot y now inside
              (steps.wrote_long slots id me live slot inside s h at y) rests refl (λ _ o. o) word
              (λ j u apart e. inl (λ o. let both = owners_in codes sound sizes s.words s.views h.kept.parts.slots j id slot u v apart e at in omega arith))
              (λ _. let dead = (raw_is 0 (omega arith)).0 in inl (omega arith)) (λ c. absurd (free_of c))
              (steps.post slots id me live s h at now refl refl refl refl (λ l. l));
          tells = steps.at_once slots id me live slot inside TurnsRawOne y (now, me.1) (refl, refl);
        })

    -- it comes back: the last fraction, which is at home, tells what it shows
    pub regains : v.fractions.moves ≡ None → May i (λ x. either (eqb x (raw_word 0)) (owned_word 0) x)
        (OfSlot (λ slot. RegainsOne slot (raw_word 0) (owned_word 0)) i me)
    regains rests = let told : ℕ → SeatState → Type 0 = OfSlot (λ slot. RegainsOne slot (raw_word 0) (owned_word 0)) i me in
        let f : ℕ → ℕ = λ x. either (eqb x (raw_word 0)) (owned_word 0) x in
        lift_homes γ sizes slots id me i f (AtSlot (λ slot. Regains slot (raw_word 0) (owned_word 0)) i v) told
        (steps.spares slots id me live slot inside f (AtSlot (λ slot. Regains slot (raw_word 0) (owned_word 0)) i v)
        (λ r w t. let c = t slot refl in dite (ℕ_discrete r (raw_word 0)) (λ e. ap (λ (u : View). u.places) (c.0 e))
        (λ ne. ap (λ (u : View). u.places) (c.1 ne))))
        (words.regains id v live slot 0 inside (omega arith) (omega arith))
        (λ s w h at t. let x : ℕ = get_or s.words i 0 in let c = t slot refl in let low = steps.within slots id me live slot inside s h in
        exchanged x (raw_word 0) (owned_word 0) (λ y. Follows γ sizes id i me told s y w)
        (λ hit. let y : ℕ = owned_word 0 in let z : ValueFraction = last s h hit in let value : Gv = z.content.shown in
        let now : View = regaining slot y value v in let r : ShownValue = record { slot = slot; shared = false; value = value } in
        let own = owned_is 0 (omega arith) in let same = as_before s h hit y (full_owned y (let o = own.0 in omega arith)) in
        let mine = records.mine sizes s.views s.homes h.records id v at in
        subst (Follows γ sizes id i me told s y) (sym (c.0 hit)) record {
          fractions = now.fractions;
          act = keeps;
          valid = tt;
          homes = part.calm γ sizes s.words s.views s.homes h.homes id v at (set s.words i y) now (λ j p out. out) same (none_out now rests);
          records = records.comes_to_learn sizes s.views s.homes h.records id v at slot n value z inside (omega arith) (lies s h hit)
              (all_shown s h (still s h hit)) (λ j b e is. h.lasts.banks j b e is slot z inside (lies s h hit)) now (λ is. (is, refl)) s.homes
              (regained_tells sizes.slots v (h.records.each id v at) slot inside rests y value)
              (λ j g k. known_by now j g (λ a. ⊎_elim (λ (e : (slot ≡ j) × (value ≡ g)). inl (sym e.0, sym e.1))
              (λ (b : IsIn v.fractions.owns j g). inr (mine j g (inl b))) (in_either r v.fractions.owns j g a))
              (λ a. inr (mine j g (inr (inl a)))) (λ a. inr (mine j g (inr (inr a)))) k)
              (λ j p z l. l)
              (λ j m. absurd (none_moved now j rests m))
              (λ j u _ e. ((λ k m. absurd (none_moved now k rests m)), (λ k m sees. h.records.apart j id u v k e at m sees)));
          counts = uncounted sizes s.words s.views h.counts id v at (set s.words i y) now refl (λ l. l)
              (as_full sizes s.words (set s.words i y) same) (steps.over_slot slots id me live slot inside s h y);
          filled = filled_learned sizes s.views h.filled id v at now refl (λ l. l) r
              (λ q told. ⊎_elim (λ (a : HasRecord (r ∷ v.fractions.owns) q). ⊎_elim (λ (b : q ≡ r). inl b)
              (λ (b : HasRecord v.fractions.owns q). inr (id, v, at, inl b))
              (has_more r v.fractions.owns q a.0 a.1))
              (λ (a : HasRecord v.fractions.waits q). inr (id, v, at, inr a)) told)
              (λ one j u e placed. h.lasts.stored one j u e placed slot false z inside (inl (hit, refl)) (lies s h hit));
          bank = banks.calm γ sizes s.words s.views h.bank id v at (set s.words i y) now
              record { bank = refl; founds = refl; gamma = refl; banked = refl; drawn = refl } refl
              (λ k. let l = h.bank.low id v at k in omega arith) same;
          lasts = lasts_fewer sizes s.words s.views s.homes h.lasts id v at (set s.words i y) now s.homes (λ _ _ _ _ l. l) (λ b. (b, refl)) refl
              (λ _ _. inl live) (stored_set sizes s.words slot y low (λ e. absurd (omega arith)) (owned_shows y (let o = own.0 in omega arith))
              (λ c. absurd (steps.in_no_cell slots id me live slot inside s h (dead s h hit) c)));
          kinds = let none = dead s h hit in kind_steps.regains sizes s.words s.views h.kinds h.records.each id v at slot y value now inside
              (steps.wrote_long slots id me live slot inside s h at y) rests refl (λ _ o. o) own.2
              (steps.here slots id me live slot inside s.words y low)
              (λ j u e o. let few = owner_in codes sound sizes s.words s.views h.kept.parts.slots j slot u e in omega arith)
              (steps.in_no_cell slots id me live slot inside s h none) (steps.post slots id me live s h at now refl refl refl refl (λ l. l));
          tells = steps.at_once slots id me live slot inside (λ slot. RegainsOne slot (raw_word 0) (owned_word 0)) x (now, me.1) (
            (λ _. (
              value,
              (h.homes.home slot n z inside (omega arith) (lies s h hit)).1.0 (filled s h hit),
              refl,
              λ lone. h.lasts.stored
                  (steps.one_place γ sizes s h id v at lone) id v at live slot false z inside (inl (hit, refl)) (lies s h hit),
            )),
            (λ no. absurd (no hit)),
            c.2,
          );
        })
        (λ miss. subst (Follows γ sizes id i me told s x) (sym (c.1 miss)) (steps.unmoved slots id me live slot inside s h at told
        (steps.at_once slots id me live slot inside (λ slot. RegainsOne slot (raw_word 0) (owned_word 0)) x me
        ((λ hit. absurd (miss hit)), (λ _. refl), c.2)))))

    -- a guard sees it while it is out as raw
    module _ (is_open : IsOpen v.epoch) (near : v.epoch.place < n) (rests : v.fractions.moves ≡ None) where
      abbrev q : ℕ
      q = v.epoch.place

      abbrev spot : ℕ
      spot = fraction_at n slot q

      -- the fraction of its own place is at home, as it doesn't see the slot yet, whose value is there and isn't moved
      pub own_home : (s : State ValueFraction View) (h : DomainInvariant γ sizes s) → get_elem? s.views id ≡ some v
          → ((j : ℕ) (u : View) → get_elem? s.views j ≡ some u → ¬ (Moves u slot)) → full_at sizes s.words slot ≡ 1 → ¬ (Sees v slot)
          → (y : ValueFraction) × LiesAt n s.homes slot q y × Has γ slot 1 (IsValue y.content.shown) y
      own_home s h at calm there_is unseen = let p = h.kept.parts in
          let b = h.homes.back slot q inside (omega arith) (λ j x e out. ⊎_elim (λ (m : Moves x slot). calm j x e m)
          (λ (o : SeesFrom x slot q). dite (ℕ_discrete id j)
          (λ same. unseen (subst (λ (z : View). Sees z slot) (one_view s.views id j x v e at (sym same)) o.0))
          (λ ne. let theirs = (p.slots.each j x e).guarded slot o.0 in
          let apart = (p.epoch.two id j v.epoch x.epoch ne (at_map epoch_of s.views id v at)
          (at_map epoch_of s.views j x e)).places live (omega arith) in apart (sym o.1))) out) in let y : ValueFraction = b.0 in
          let has = h.homes.home slot q y inside (omega arith) b.1 in (
            y,
            b.1,
            subst (λ (k : ℕ). Has γ slot k (IsValue y.content.shown) y) (share_one n (away n (full_at sizes s.words slot)) q near)
                (has.0, (has.1.0 there_is, refl)),
          )

      -- where the word says so, the fraction is taken
      pub sees_raw : May i (λ x. x) (OfSlot (λ slot. SeesRawOne slot (raw_word 0)) i me)
      sees_raw = let told : ℕ → SeatState → Type 0 = OfSlot (λ slot. SeesRawOne slot (raw_word 0)) i me in
          let R : ℕ → SeatState → ℕ → SeatState → Type 0 = λ slot. SeesRawOne slot (raw_word 0) in
          lift_homes γ sizes slots id me i (λ x. x) (AtSlot (λ slot. SeesRaw slot (raw_word 0)) i v) told
          (steps.spares slots id me live slot inside (λ x. x) (AtSlot (λ slot. SeesRaw slot (raw_word 0)) i v)
          (λ r w t. let c = t slot refl in dite (ℕ_discrete r (raw_word 0))
          (λ e. dite (dec_lt 0 (times slot v.slots.sees)) (λ sees. ap (λ (u : View). u.places) (c.1 (inr sees)))
          (λ unseen. ap (λ (u : View). u.places) (c.0 e unseen)))
          (λ ne. ap (λ (u : View). u.places) (c.1 (inl ne)))))
          (words.sees_raw id v live slot 0 is_open (omega arith))
          (λ s w h at t. let x : ℕ = get_or s.words i 0 in let c = t slot refl in let r = h.records in let tells = r.each id v at in
          let mine = records.mine sizes s.views s.homes r id v at in dite (ℕ_discrete x (raw_word 0))
          (λ hit. let z : ValueFraction = last s h hit in let value : Gv = z.content.shown in
          let knew = λ (lone : IsLone v.epoch). h.lasts.stored (steps.one_place γ sizes s h id v at lone) id v at live slot false z inside
          (inl (hit, refl)) (lies s h hit) in
          dite (dec_lt 0 (times slot v.slots.sees))
          (λ sees. let is = told_seen v tells slot sees in
          let shows : is.0 ≡ value = sym (r.home slot n is.0 z inside (omega arith) (mine slot is.0 (inr (inl is.1))) (lies s h hit)) in
          subst (Follows γ sizes id i me told s x) (sym (c.1 (inr sees))) (steps.unmoved slots id me live slot inside s h at told
          (steps.at_once slots id me live slot inside R x me (
            (λ _. (
              value,
              ((λ _. (refl, subst (IsIn v.fractions.sees slot) shows is.1)), (λ unseen. absurd (unseen sees))),
              knew,
            )),
            (λ no. absurd (no hit)),
            c.2,
          ))))
          (λ unseen. let b = own_home s h at (still s h hit) (filled s h hit) unseen in let y : ValueFraction = b.0 in
          let shows : y.content.shown ≡ value = all_shown s h (still s h hit) q y (omega arith) b.1 in
          let now : View = sighting slot false value v in let record_now : ShownValue = record { slot = slot; shared = false; value = value } in
          let one = is_same slot slot refl in subst (Follows γ sizes id i me told s x) (sym (c.0 hit unseen)) record {
            fractions = now.fractions;
            act = takes spot y;
            valid = b.1;
            homes = subst (λ (ws : List ℕ). FractionsInvariant γ sizes ws (set s.views id now) (set s.homes spot none)) (sym (set-get_or s.words i 0))
                (part.takes_one γ sizes s.words s.views s.homes h.homes id v at slot q (omega arith) now (inr (omega arith, refl))
                (λ j p out. let o = only_seen v rests j p out in inr (let a = o.0 in omega arith, o.1))
                (none_out now rests));
            kinds = kind_steps.same sizes s.words s.views h.kinds h.records.each id v at now refl refl refl refl refl refl (set s.words i x)
                (steps.same_slots slots id me live slot inside s h) (steps.post slots id me live s h at now refl refl refl refl (λ l. l));
            records = records.comes_to_learn sizes s.views s.homes r id v at slot n value z inside (omega arith) (lies s h hit)
                (all_shown s h (still s h hit)) (λ j b e is. h.lasts.banks j b e is slot z inside (lies s h hit)) now (λ is. (is, refl)) (set s.homes spot none)
                record {
                  owns = tells.owns;
                  owned = tells.owned;
                  sees = ap (λ (l : List ℕ). slot ∷ l) tells.sees;
                  waits = tells.waits;
                  waiting = tells.waiting;
                  inside = λ j g k. ⊎_elim (λ (a : IsIn v.fractions.owns j g). tells.inside j g (inl a))
                      (λ (o : IsIn now.fractions.sees j g ⊎ IsIn v.fractions.waits j g). ⊎_elim
                      (λ (a : IsIn now.fractions.sees j g). ⊎_elim (λ (e : (slot ≡ j) × (value ≡ g)). let same = e.0 in omega arith)
                      (λ (d : IsIn v.fractions.sees j g). tells.inside j g (inr (inl d))) (in_either record_now v.fractions.sees j g a))
                      (λ (d : IsIn v.fractions.waits j g). tells.inside j g (inr (inr d))) o) k;
                }
                (λ j g k. known_by now j g (λ a. inr (mine j g (inl a))) (λ a. ⊎_elim
                (λ (e : (slot ≡ j) × (value ≡ g)). inl (sym e.0, sym e.1))
                (λ (d : IsIn v.fractions.sees j g). inr (mine j g (inr (inl d)))) (in_either record_now v.fractions.sees j g a)) (λ a. inr (mine j g (inr
                (inr a))))
                k)
                (λ j p u l. one_taken s.homes spot (fraction_at n j p) u l)
                (λ j m. absurd (none_moved v j rests m))
                (λ j u _ e. (
                  (λ k m. absurd (none_moved v k rests m)),
                  (λ k m sees. dite (ℕ_discrete k slot) (λ same. still s h hit j u e (subst (Moves u) same m))
                      (λ ne. r.apart j id u v k e at m (let o = is_other k slot (λ e. ne (sym e)) in omega arith))),
                ));
            counts = uncounted sizes s.words s.views h.counts id v at (set s.words i x) now refl (λ l. l)
                (as_full sizes s.words (set s.words i x) (λ j _. steps.same_words slots id me live slot inside s h j))
                (steps.over_slot slots id me live slot inside s h x);
            filled = steps.still_filled slots id me live s h at now refl refl refl;
            bank = banks.calm γ sizes s.words s.views h.bank id v at (set s.words i x) now
                record { bank = refl; founds = refl; gamma = refl; banked = refl; drawn = refl } refl (h.bank.low id v at)
                (λ j _. steps.same_words slots id me live slot inside s h j);
            lasts = lasts_fewer sizes s.words s.views s.homes h.lasts id v at (set s.words i x) now (set s.homes spot none)
                (λ j p u _ l. one_taken s.homes spot (fraction_at n j p) u l) (λ b. (b, refl)) refl (λ _ _. inl live) (stored_same sizes s.words i);
            tells = steps.at_once slots id me live slot inside R x (now, (spot, y) ∷ me.1) (
              (λ _. (
                value,
                (
                  (λ sees. absurd (unseen sees)),
                  (λ _. (y, subst (λ (g : Gv). Has γ slot 1 (IsValue g) y) shows b.2, refl)),
                ),
                knew,
              )),
              (λ no. absurd (no hit)),
              c.2,
            );
          }))
          (λ miss. subst (Follows γ sizes id i me told s x) (sym (c.1 (inl miss))) (steps.unmoved slots id me live slot inside s h at told
          (steps.at_once slots id me live slot inside R x me ((λ hit. absurd (miss hit)), (λ _. refl), c.2)))))
