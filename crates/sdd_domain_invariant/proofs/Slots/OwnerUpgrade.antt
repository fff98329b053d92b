-- An owner comes of an item that a guard sees, or where nobody else takes part, of whose owners there are several: this step keeps the whole invariant.
use Rattle.std.proofs.Common.{◌≡◌, ◌⊎◌, inl, inr, ℕ, ◌+◌, ◌^◌, ◌<◌, true, eqb, get_or, set, sym, refl, ap, ◌∙◌, subst, ⊎_elim, arith}
use Rattle.std.specs.Prelude.{Some, None}
use mathlib.Core.Option.{some}
use mathlib.Core.Logic.{dite}
use native.Mathlib.Decide.{ℕ_discrete, dec_lt}
use lib.ListN.{get_elem?}
use prog.Atomic.{either}
use base.Stored.{Gv}
use Rattle.atomic_table.specs.Table.{State, keeps}
use Rattle.atomic_table.proofs.Lists.{at_map, exchanged}
use Rattle.sdd_shared_values.specs.declared.value_fraction.ValueFraction.{ValueFraction}
use Rattle.sdd_rights.specs.declared.views.ShownValue.{ShownValue}
use Rattle.sdd_rights.specs.declared.views.View.{View}
use Rattle.sdd_rights.specs.declared.views.Sizes.{Sizes}
use Rattle.sdd_domain_invariant.specs.Words.{first_cell, slot_word}
use Rattle.sdd_domain_invariant.specs.Codes.{alive, valued, names, counted as kind_of, shared_base, most_owners}
use Rattle.sdd_domain_invariant.specs.Epoch.{HasPlace, IsLone}
use Rattle.sdd_domain_invariant.specs.Sums.{total}
use Rattle.sdd_domain_invariant.specs.Slots.{slot_at, owners_at, Owns}
use Rattle.sdd_domain_invariant.specs.Slots.SlotSteps.{one_more, AddsBeside, AtSlot}
use Rattle.sdd_domain_invariant.specs.WordInvariant.{epoch_of}
use Rattle.sdd_domain_invariant.proofs.Codes.{shared, counted_is, some_left}
use Rattle.sdd_domain_invariant.proofs.Slots.SlotSteps.{more_one}
use Rattle.sdd_domain_invariant.proofs.Slots.SlotSteps as words
use Rattle.sdd_domain_invariant.proofs.Sums.{is_same, is_other, total_some, span_some}
use Rattle.sdd_domain_invariant.specs.Fractions.FractionsAtHome.{Moves, full_at}
use Rattle.sdd_domain_invariant.specs.Fractions.BankInvariant.{one_where}
use Rattle.sdd_domain_invariant.specs.Slots.Records.{IsIn, IsKnown}
use Rattle.sdd_domain_invariant.specs.Slots.FilledInvariant.{newest, HasRecord}
use Rattle.sdd_domain_invariant.specs.Fractions.LastFractions.{LastIs}
use Rattle.sdd_domain_invariant.specs.DomainInvariant.{DomainInvariant}
use Rattle.sdd_domain_invariant.specs.Fractions.FractionSteps.{SeatState, owning_more, AddsSeen, IsStill, OfSlot}
use Rattle.sdd_domain_invariant.proofs.Fractions.FractionsInvariant.{none_out}
use Rattle.sdd_domain_invariant.proofs.Fractions.FractionsInvariant as part
use Rattle.sdd_domain_invariant.proofs.Banks as banks
use Rattle.sdd_domain_invariant.proofs.Cells.{one_flag}
use Rattle.sdd_domain_invariant.proofs.Counts.{as_full, uncounted}
use Rattle.sdd_domain_invariant.proofs.Slots.Records.{in_head, in_tail, in_either, known_by, sees_told}
use Rattle.sdd_domain_invariant.proofs.Slots.Records as records
use Rattle.sdd_domain_invariant.proofs.Slots.FilledInvariant.{filled_learned}
use Rattle.sdd_domain_invariant.proofs.Slots.KindSteps.{has_first}
use Rattle.sdd_domain_invariant.proofs.Slots.KindSteps as kind_steps
use Rattle.sdd_domain_invariant.proofs.Slots.RecordSteps.{none_moved, one_view}
use Rattle.sdd_domain_invariant.proofs.Fractions.LastFractions.{owned_shows, stored_set, lasts_fewer}
use Rattle.sdd_domain_invariant.proofs.TableSteps.{Follows, lift_homes}
use Rattle.sdd_domain_invariant.proofs.Raw.RawSteps as raws
use Rattle.sdd_domain_invariant.proofs.Fractions.FractionSteps.{full_owned}
use Rattle.sdd_domain_invariant.proofs.Fractions.FractionSteps as steps

module _ (slots id : ℕ) (me : SeatState) (live : HasPlace me.0.epoch) (rests : me.0.fractions.moves ≡ None) (slot : ℕ) (inside : slot < me.0.sizes.slots)
    (none : me.0.slots.over ≡ None) (calm : IsStill slot me.0) (word : ℕ) (several : kind_of word ≡ 1) (left : 0 < alive word)
    (few : alive word < most_owners) where
  abbrev v : View
  v = me.0

  abbrev γ : ℕ
  γ = me.0.fractions.gamma

  abbrev sizes : Sizes
  sizes = me.0.sizes

  abbrev n : ℕ
  n = me.0.sizes.participants

  abbrev i : ℕ
  i = slot_word sizes slot

  abbrev y : ℕ
  y = word + 1

  abbrev shows : Gv → ShownValue
  shows value = record { slot = slot; shared = true; value = value }

  above : shared_base < word
  above = let a = counted_is word several in let c = (shared word a).0 in omega arith

  counts_more : alive y ≡ alive word + 1
  counts_more = let a = above in let c = (some_left word a).0 in let d = (some_left y (omega arith)).0 in omega arith

  small : y < 2 ^ 64
  small = let a = above in let c = (some_left word a).0 in omega arith

  higher : shared_base < y
  higher = let a = above in omega arith

  module _ (s : State ValueFraction View) (h : DomainInvariant γ sizes s) (at : get_elem? s.views id ≡ some v) (hit : slot_at sizes s.words slot ≡ word) where
    counts : kind_of (slot_at sizes s.words slot) ≡ 1
    counts = ap kind_of hit ∙ several

    owned : 0 < alive (slot_at sizes s.words slot)
    owned = let e = ap alive hit in let l = left in omega arith

    -- nobody moves the value of an item that a guard sees, nor where nobody else takes part
    unmoved : (j : ℕ) (u : View) → get_elem? s.views j ≡ some u → ¬ (Moves u slot)
    unmoved j u e m = ⊎_elim
        (λ (seen : (value : Gv) × IsIn v.fractions.sees slot value).
        h.records.apart j id u v slot e at m (sees_told v (h.records.each id v at) slot seen.0 seen.1))
        (λ (lone : IsLone v.epoch). dite (ℕ_discrete j id)
        (λ same. none_moved u slot (ap (λ (x : View). x.fractions.moves) (one_view s.views id j u v e at same) ∙ rests) m)
        (λ ne. let one = steps.one_place γ sizes s h id v at lone in let p = h.kept.parts.epoch in let placed = (h.homes.moving j u e slot m).0 in
        let mine = (p.each id v.epoch (at_map epoch_of s.views id v at)).inside live in
        let theirs = (p.each j u.epoch (at_map epoch_of s.views j u e)).inside placed in
        let apart = (p.two j id u.epoch v.epoch ne (at_map epoch_of s.views j u e) (at_map epoch_of s.views id v at)).places placed live in
        apart (omega arith))) calm

    -- so the last fraction is at home
    abbrev last : ValueFraction
    last = (raws.last_home slots id me live slot inside s h unmoved).0

    abbrev lies : LastIs sizes s.homes slot last
    lies = (raws.last_home slots id me live slot inside s h unmoved).1

    -- it shows what is known of the slot
    abbrev value : Gv
    value = last.content.shown

    shows_known : (g : Gv) → IsKnown s.views slot g → value ≡ g
    shows_known g k = h.records.home slot n g last inside (omega arith) k lies

    -- where there is one place, its participant knows what the item shows, by the owner that it has somewhere, or as a cell holds that
    find : n ≡ 1 → (j : ℕ) (u : View) → get_elem? s.views j ≡ some u → HasPlace u.epoch → newest slot u.fractions.filled ≡ Some (shows value)
    find one j u e placed = dite (dec_lt 0 (total (owners_at slot) s.views))
        (λ more. let a = total_some (owners_at slot) s.views more in let w : View = a.1 in let mine = h.records.each a.0 w a.2 in
        let b = mine.owned slot a.3 (unmoved a.0 w a.2) in let r : ShownValue = b.1.1 in let has : HasRecord w.fractions.owns r = (b.1.0, b.1.2) in
        let told = (h.kinds.each a.0 w a.2).told r has
        (λ held. let k = (h.kept.parts.slots.each a.0 w a.2).held slot (held ∙ ap (λ (m : ℕ). Some m) b.1.3) in let c = counts in
        absurd (omega (arith, k.1))) in
        let flag : r.shared ≡ true = one_flag r.shared true (sym told ∙ (ap (λ (m : ℕ). kind_of (slot_at sizes s.words m)) b.1.3 ∙ counts)) in
        let is : r.value ≡ value = sym (shows_known r.value (a.0, w, a.2, inl (b.1.0, r, b.1.2, b.1.3, refl))) in
        ap (λ (m : ℕ). newest m u.fractions.filled) (sym b.1.3) ∙ (h.filled.knows one j a.0 u w r e placed a.2 (inl has)
        ∙ (λ d. Some (record { slot = b.1.3 d; shared = flag d; value = is d }))))
        (λ no. let sum = h.kept.parts.slots.owned slot in let o = owned in
        let c = span_some (names slot) s.words first_cell sizes.cells (omega arith) in
        h.lasts.stored one j u e placed slot true last inside (inr (c, counts)) lies)

    comes : Follows γ sizes id i me (OfSlot (AddsSeen word) i me) s y (one_more slot y None v)
    comes = let x : ℕ = get_or s.words i 0 in let now : View = owning_more slot value (one_more slot y None v) in
        let now_shown : ShownValue = shows value in let r = h.records in let mine = r.each id v at in let low = steps.within slots id me live slot inside s h in
        let here : slot_at sizes (set s.words i y) slot ≡ y = steps.here slots id me live slot inside s.words y low in
        let high = higher in let counts_y = (some_left y high) in
        let same : (j : ℕ) → j < sizes.slots → full_at sizes (set s.words i y) j ≡ full_at sizes s.words j
        = λ j near. dite (ℕ_discrete j slot)
        (λ e. subst (λ (k : ℕ). full_at sizes (set s.words i y) k ≡ full_at sizes s.words k) (sym e)
        (ap valued here ∙ (full_owned y (let m = counts_y.0 in omega arith) ∙ sym (full_owned (slot_at sizes s.words slot) owned))))
        (λ ne. steps.others slots id me live slot inside s.words y j near ne) in
        let mine_known = records.mine sizes s.views s.homes r id v at in record {
          fractions = now.fractions;
          act = keeps;
          valid = tt;
          homes = part.calm γ sizes s.words s.views s.homes h.homes id v at (set s.words i y) now (λ j q out. out) same (none_out now rests);
          records = records.comes_to_learn sizes s.views s.homes r id v at slot n value last inside (omega arith) lies
              (raws.all_shown slots id me live slot inside s h unmoved) (λ j b e is. h.lasts.banks j b e is slot last inside lies) now (λ is. (is, refl))
              s.homes
              record {
                owns = λ j g k. ⊎_elim
                    (λ (e : (slot ≡ j) × (value ≡ g)). (let o = is_same j slot e.0 in let l : Owns now j = omega arith in l, none_moved now j rests))
                    (λ (a : IsIn v.fractions.owns j g). let o = (mine.owns j g a).0 in (let l : Owns now j = omega arith in l, none_moved now j rests))
                    (in_either now_shown v.fractions.owns j g k);
                owned = λ j o still. dite (ℕ_discrete slot j) (λ e. (value, in_head now_shown v.fractions.owns j value e refl))
                    (λ ne. let b = mine.owned j (let q = is_other j slot ne in omega arith) (none_moved v j rests) in
                    (b.0, in_tail now_shown v.fractions.owns j b.0 b.1));
                sees = mine.sees;
                waits = mine.waits;
                waiting = mine.waiting;
                inside = λ j g k. ⊎_elim
                    (λ (b : IsIn now.fractions.owns j g). ⊎_elim (λ (e : (slot ≡ j) × (value ≡ g)). let at_slot = e.0 in omega arith)
                    (λ (d : IsIn v.fractions.owns j g). mine.inside j g (inl d)) (in_either now_shown v.fractions.owns j g b))
                    (λ (b : IsIn v.fractions.sees j g ⊎ IsIn v.fractions.waits j g). mine.inside j g (inr b)) k;
              }
              (λ j g k. known_by now j g
              (λ a. ⊎_elim (λ (e : (slot ≡ j) × (value ≡ g)). inl (sym e.0, sym e.1))
              (λ (b : IsIn v.fractions.owns j g). inr (mine_known j g (inl b))) (in_either now_shown v.fractions.owns j g a))
              (λ a. inr (mine_known j g (inr (inl a)))) (λ a. inr (mine_known j g (inr (inr a)))) k)
              (λ j q z l. l)
              (λ j m. absurd (none_moved now j rests m))
              (λ j u _ e. ((λ k m. absurd (none_moved now k rests m)), (λ k m sees. r.apart j id u v k e at m sees)));
          counts = uncounted sizes s.words s.views h.counts id v at (set s.words i y) now refl (λ l. l) (as_full sizes s.words (set s.words i y) same)
              (steps.over_slot slots id me live slot inside s h y);
          filled = filled_learned sizes s.views h.filled id v at now refl (λ l. l) now_shown
              (λ q told. ⊎_elim (λ (a : HasRecord now.fractions.owns q). ⊎_elim (λ (b : now_shown ≡ q). inl (sym b))
              (λ (b : HasRecord v.fractions.owns q). inr (id, v, at, inl b)) (has_first now_shown v.fractions.owns q a))
              (λ (a : HasRecord v.fractions.waits q). inr (id, v, at, inr a)) told)
              find;
          bank = banks.calm γ sizes s.words s.views h.bank id v at (set s.words i y) now
              record { bank = refl; founds = refl; gamma = refl; banked = refl; drawn = refl } refl (λ k. let l = h.bank.low id v at k in omega arith) same;
          lasts = lasts_fewer sizes s.words s.views s.homes h.lasts id v at (set s.words i y) now s.homes (λ _ _ _ _ l. l) (λ b. (b, refl)) refl
              (λ _ _. inl live) (stored_set sizes s.words slot y low (λ e. absurd (omega arith)) (owned_shows y (let c = counts_y in omega arith))
              (λ _. counts_y.3 ∙ sym counts));
          kinds = kind_steps.one_slot sizes s.words s.views h.kinds h.records.each id v at slot inside y now
              record {
                long = steps.wrote_long slots id me live slot inside s h at y;
                sole = λ j m. absurd (none_moved now j rests m);
                claimed = λ j m. absurd (none_moved now j rests m);
                told = λ q a loose. ⊎_elim
                    (λ (e : now_shown ≡ q). subst (λ (m : ShownValue). kind_of (slot_at sizes (set s.words i y) m.slot) ≡ one_where m.shared) e
                    (ap kind_of here ∙ counts_y.3))
                    (λ (b : HasRecord v.fractions.owns q). dite (ℕ_discrete q.slot slot)
                    (λ is. ap (λ (m : ℕ). kind_of (slot_at sizes (set s.words i y) m)) is ∙ (ap kind_of here ∙ (counts_y.3 ∙ (sym counts
                    ∙ (ap (λ (m : ℕ). kind_of (slot_at sizes s.words m)) (sym is) ∙ (h.kinds.each id v at).told q b loose)))))
                    (λ ne. ap kind_of (kind_steps.there sizes s.words s.views h.kinds h.records.each id v at slot inside y v q.slot ne)
                    ∙ (h.kinds.each id v at).told q b loose))
                    (has_first now_shown v.fractions.owns q a);
              }
              (λ j u apart e. inr (unmoved j u e, counts_y.3 ∙ sym counts)) here (λ _. inl (let c = counts_more in omega arith)) (λ _. counts_y.3 ∙ sym counts)
              (steps.post slots id me live s h at now refl (λ d. (sym none d, v.slots.closes)) refl refl (λ l. l));
          tells = steps.at_once slots id me live slot inside (AddsSeen word) x (now, me.1) (
            (λ _. (
              value,
              record {
                code = (h.homes.home slot n last inside (omega arith) lies).1.0 (full_owned (slot_at sizes s.words slot) owned);
                seen = λ g is. shows_known g (id, v, at, inr (inl is));
                newest = λ lone. find (steps.one_place γ sizes s h id v at lone) id v at live;
              },
              refl,
            )),
            (λ no. absurd (no hit)),
            words.knew id v live s.words s.views h.kept.parts at slot,
          );
        }

  -- where the word is still the one that was found, an owner comes
  pub adds_seen : steps.May slots id me live i (λ x. either (eqb x word) y x) (OfSlot (AddsSeen word) i me)
  adds_seen = let told : ℕ → SeatState → Type 0 = OfSlot (AddsSeen word) i me in let f : ℕ → ℕ = λ x. either (eqb x word) y x in
      lift_homes γ sizes slots id me i f (AtSlot (AddsBeside word) i v) told
      (steps.spares slots id me live slot inside f (AtSlot (AddsBeside word) i v) (λ r w t. let c = t slot refl in dite (ℕ_discrete r word)
      (λ e. ap (λ (u : View). u.places) (c.0 e)) (λ ne. ap (λ (u : View). u.places) (c.1 ne))))
      (words.adds_beside id v live slot inside word several left few)
      (λ s w h at t. let x : ℕ = get_or s.words i 0 in let c = t slot refl in exchanged x word y (λ z. Follows γ sizes id i me told s z w)
      (λ hit. subst (Follows γ sizes id i me told s y) (sym (c.0 hit)) (comes s h at hit))
      (λ miss. subst (Follows γ sizes id i me told s x) (sym (c.1 miss)) (steps.unmoved slots id me live slot inside s h at told
      (steps.at_once slots id me live slot inside (AddsSeen word) x me ((λ hit. absurd (miss hit)), (λ _. refl), c.2)))))
