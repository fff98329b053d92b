-- The start, a new seat, owners that are cut off as a seat and taken in again, and what is at home at the end
use Rattle.std.proofs.Common.{◌≡◌, ◌≢◌, ◌⊎◌, inl, inr, ℕ, zero, suc, ◌+◌, ◌<◌, ◌≤◌, Bool, true, false, List, [], ◌∷◌, ◌++◌, map, length, get_or, set, sym, refl, ap, ◌∙◌, subst, ⊎_elim, arith}
use Rattle.std.proofs.lemmas.List.{length-map, length-replicate}
use mathlib.Core.Option.{some, some-injective, some-ne-none}
use mathlib.Core.Logic.{dite}
use native.Mathlib.Decide.{ℕ_discrete, dec_lt}
use Rattle.std.specs.Prelude.{Some, None}
use lib.ListN.{get_elem?}
use base.Stored.{Gv}
use Rattle.atomic_table.specs.Table.{State, Enters, Splits, Joins, opening}
use Rattle.atomic_table.proofs.Lists.{at_map, at_longer, set_else}
use Rattle.sdd_shared_values.specs.SharedValues.{IsNoValueCode, most}
use Rattle.sdd_shared_values.specs.declared.value_fraction.ValueFraction.{ValueFraction}
use Rattle.sdd_rights.specs.declared.views.ShownValue.{ShownValue}
use Rattle.sdd_rights.specs.declared.views.CountsView.{CountsView}
use Rattle.sdd_rights.specs.declared.views.View.{View}
use Rattle.sdd_rights.specs.declared.views.Sizes.{Sizes}
use Rattle.sdd_domain_invariant.specs.Words.{first_slot, words_behind, all_words}
use Rattle.sdd_domain_invariant.specs.Codes.{codes, alive, waiting, full, valued, names, counted as counts_owners}
use Rattle.sdd_domain_invariant.specs.Sums.{is, times}
use Rattle.sdd_domain_invariant.specs.Slots.{slot_at, Owns}
use Rattle.sdd_domain_invariant.specs.Slots.SlotSteps.{first, others}
use Rattle.sdd_domain_invariant.specs.Epoch.{HasPlace}
use Rattle.sdd_rights.specs.Views.{owner_seat, owner_of}
use Rattle.sdd_domain_invariant.specs.WordInvariant.{epoch_of, idle}
use Rattle.sdd_domain_invariant.proofs.Codes.{sound, none_counted}
use Rattle.sdd_domain_invariant.proofs.Collectors.{plain_free}
use Rattle.sdd_domain_invariant.proofs.WordsWithoutFractions as kept
use Rattle.sdd_domain_invariant.proofs.Frame.{each_set, each_snoc}
use Rattle.sdd_domain_invariant.proofs.Sums.{is_same, is_other, total_set, total_snoc, total_has, total_two, total_only, total_append, span_zero}
use Rattle.sdd_domain_invariant.specs.Fractions.FractionsAtHome.{fraction_at, share, away, full_at, Has, MatchesSlotWord, Moves, SeesFrom, FractionIsTaken, LiesAt, AreLaid, FractionsInvariant}
use Rattle.sdd_domain_invariant.specs.Fractions.BankInvariant.{BankInvariant, founder, founded, bank_of}
use Rattle.sdd_domain_invariant.proofs.Banks.{HasUnits, outside_free}
use Rattle.sdd_domain_invariant.proofs.Banks as banks
use Rattle.sdd_domain_invariant.specs.Slots.KindsInvariant.{KnowsKinds, KindsInvariant}
use Rattle.sdd_domain_invariant.proofs.Slots.KindSteps.{has_first, knows_no_kind, same_post, no_pledge, pledges_spent, forth}
use Rattle.sdd_witness.specs.Ledger.{Pledge, Free, JoinsFree}
use Rattle.sdd_rights.specs.declared.views.PledgesView.{PledgesView}
use Rattle.sdd_domain_invariant.specs.Slots.BoundInvariant.{over_at}
use Rattle.sdd_domain_invariant.specs.Fractions.PledgesInvariant.{HasPledge, IsLedger, booked_by}
use Rattle.sdd_domain_invariant.proofs.Cells.{no_change, no_right}
use Rattle.sdd_domain_invariant.proofs.Slots.KindSteps as kind_steps
use Rattle.sdd_domain_invariant.specs.DomainInvariant.{DomainInvariant}
use Rattle.sdd_domain_invariant.specs.Fractions.FractionSteps.{parting, departing, regained, uncounting, counts_of, counts_seat, counting}
use Rattle.sdd_domain_invariant.specs.Slots.Records.{IsIn, KnowsShown, IsKnown, IsTelling, RecordsInvariant}
use Rattle.sdd_domain_invariant.specs.Counts.{made_by, gone_by, over_by, full_slots, HasNoCounts, CountsByPlace, CountsInvariant}
use Rattle.sdd_domain_invariant.specs.Slots.FilledInvariant.{HasRecord, FilledInvariant}
use Rattle.sdd_domain_invariant.proofs.Counts.{ended_few, uncounted_alone, more_counts}
use Rattle.sdd_domain_invariant.proofs.Fractions.FractionHomes.{inside}
use Rattle.sdd_domain_invariant.proofs.Fractions.FractionsInvariant.{none_out, only_seen}
use Rattle.sdd_domain_invariant.proofs.Fractions.FractionsInvariant as part
use Rattle.sdd_domain_invariant.proofs.Slots.Records.{in_head, in_tail, in_either, in_none, known_by, telling_none, knows_none}
use Rattle.sdd_domain_invariant.proofs.Slots.Records as records
use Rattle.sdd_domain_invariant.proofs.Slots.FilledInvariant.{IsTold, has_none, has_either, told_by, tells_none, tells_old, filled_more, filled_after, filled_same}
use Rattle.sdd_domain_invariant.specs.Fractions.LastFractions.{LastsInvariant}
use Rattle.sdd_domain_invariant.proofs.Fractions.LastFractions.{KeepsBank, no_bank, stored_as_is, lasts_more, lasts_fewer}
use Rattle.sdd_domain_invariant.proofs.Fractions.FractionSteps.{still_free}
use Rattle.sdd_domain_invariant.proofs.Slots.RecordSteps.{none_moved}

pub nothing_out : (v : View) → v.fractions.moves ≡ None → v.slots.sees ≡ [] → (i p : ℕ) → ¬ (FractionIsTaken v i p)
nothing_out v rests blind i p out = let o = only_seen v rests i p out in let a = ap (times i) blind in let b = o.0 in absurd (omega arith)

pub set_front : {A : Type 0} (l m : List A) (i : ℕ) (a b : A) → get_elem? l i ≡ some a → set (l ++ m) i b ≡ set l i b ++ m
set_front [] m i a b e = absurd (some-ne-none a (sym e))
set_front (x ∷ xs) m zero a b e = refl
set_front (x ∷ xs) m (suc i) a b e = ap (λ (l : List _). x ∷ l) (set_front xs m i a b e)

module _ (γ : ℕ) (sizes : Sizes) where
  -- no word changes, and nothing at home
  lasts_stay : (s : State ValueFraction View) → DomainInvariant γ sizes s → (id : ℕ) (v : View) → get_elem? s.views id ≡ some v → (w : View) → KeepsBank v w
      → w.fractions.filled ≡ v.fractions.filled → (HasPlace w.epoch → HasPlace v.epoch) → LastsInvariant sizes s.words (set s.views id w) s.homes
  lasts_stay s h id v at w bank filled had = lasts_fewer sizes s.words s.views s.homes h.lasts id v at s.words w s.homes (λ _ _ _ _ l. l) bank filled
      (λ _ live. inl (had live)) (stored_as_is sizes s.words)

  -- a new seat, which knows nothing
  pub enters : (slots i : ℕ) (told : ℕ → View → Type 0) → ((r : ℕ) → told r (idle sizes γ)) → Enters (DomainInvariant γ sizes) slots i told
  enters slots i told tells s h long small = let t : View = idle sizes γ in
      let r = kept.enters sizes γ slots i (λ r w. (w ≡ t) × told r w) (λ r. (refl, tells r)) s h.kept long small in (
        r.0,
        record {
          kept = r.1;
          homes = subst (λ (w : View). FractionsInvariant γ sizes s.words (s.views ++ w ∷ []) s.homes) (sym r.2.0)
              (part.arrives γ sizes s.words s.views s.homes h.homes t (nothing_out t refl refl) (none_out t refl));
          records = subst (λ (w : View). RecordsInvariant sizes (s.views ++ w ∷ []) s.homes) (sym r.2.0)
              (records.arrives sizes s.views s.homes h.records t (telling_none t refl refl refl refl refl refl)
              (λ i g k. absurd (knows_none t refl refl refl i g k)) refl refl refl);
          counts = subst (λ (w : View). CountsInvariant sizes s.words (s.views ++ w ∷ [])) (sym r.2.0)
              (more_counts sizes s.words s.views h.counts t refl refl refl);
          filled = subst (λ (w : View). FilledInvariant sizes (s.views ++ w ∷ [])) (sym r.2.0)
              (filled_more sizes s.views h.filled t (tells_none t s.views refl refl) (λ z. absurd (omega arith)));
          bank = subst (λ (w : View). BankInvariant γ sizes s.words (s.views ++ w ∷ [])) (sym r.2.0)
              (banks.arrives γ sizes s.words s.views h.bank t refl refl refl refl);
          lasts = subst (λ (w : View). LastsInvariant sizes s.words (s.views ++ w ∷ []) s.homes) (sym r.2.0)
              (lasts_more sizes s.words s.views s.homes h.lasts t (λ _. refl) (λ z. absurd (omega arith)));
          kinds = subst (λ (w : View). KindsInvariant sizes s.words (s.views ++ w ∷ [])) (sym r.2.0)
              (kind_steps.arrives sizes s.words s.views h.kinds t (knows_no_kind sizes s.words t (length-replicate (words_behind sizes) 0) refl refl)
              record { over = refl; ledger = refl; founds = refl; own = refl; rights = refl; closes = refl });
        },
        r.2.1,
      )

  -- the table at the start
  pub begins : (ws : List ℕ) (xs : List ValueFraction) → length ws ≡ all_words sizes → ((i : ℕ) → get_or ws i 0 ≡ 0) → suc (suc sizes.participants) < most
      → AreLaid γ sizes.participants sizes.slots xs → DomainInvariant γ sizes (opening ws xs (founder sizes γ))
  begins ws xs long none few laid = let n : ℕ = sizes.participants in record {
    kept = kept.begins sizes γ (founder sizes γ).fractions (founder sizes γ).pledges ws xs long none;
    homes = record {
      few = few;
      deep = length-map xs some ∙ laid.long;
      home = λ i p y low near lies. let l = laid.each i p near (inside n sizes.slots i p low near) in
          let same : l.0 ≡ y = some-injective l.0 y (some-injective (some l.0) (some y) (sym (at_map some xs (fraction_at n i p) l.0 l.1) ∙ lies)) in
          let has = subst (Has γ i (share n 0 p) IsNoValueCode) same l.2 in let word = none (Rattle.sdd_domain_invariant.specs.Words.slot_word sizes i) in
          let empty : full_at sizes ws i ≡ 0 = ap valued word ∙ sound.empty 0 sound.free.2 in
          subst (λ (k : ℕ). Has γ i (share n k p) (MatchesSlotWord (full_at sizes ws i)) y) (sym (ap (away n) empty))
          (has.0, (λ e. absurd (omega arith), λ _. has.1));
      back = λ i p low near away. let l = laid.each i p near (inside n sizes.slots i p low near) in (l.0, at_map some xs (fraction_at n i p) l.0 l.1);
      moving = λ j v e. none_out v (subst (λ (u : View). u.fractions.moves ≡ None) (only j v e) refl);
    };
    counts = record {
      items = let z = span_zero valued ws (first_slot sizes) sizes.slots (λ d l. ap valued (none (first_slot sizes + d)) ∙ sound.empty 0 sound.free.2) in
          omega arith;
      places = omega arith;
      each = λ j v e. subst CountsByPlace (only j v e) (λ _ _. (refl, refl));
    };
    records = record {
      each = λ j v e. subst (IsTelling sizes.slots) (only j v e) (telling_none (founder sizes γ) refl refl refl refl refl refl);
      agree = λ i g h a b. absurd (none_known i g a);
      deposits = λ j b e is. let f : false ≡ true = ap (λ (u : View). u.fractions.bank) (only j b e) ∙ is in absurd cc;
      home = λ i p g y low near a l. absurd (none_known i g a);
      apart = λ j k v w i e e' m. absurd (none_moved v i (subst (λ (u : View). u.fractions.moves ≡ None) (only j v e) refl) m);
    };
    filled = record {
      knows = λ one j k v u r e live. absurd (let f = ap (λ (w : View). w.epoch.state) (only j v e) in omega arith);
    };
    bank = record {
      single = omega arith;
      low = λ j v e. subst HasUnits (only j v e) (λ i. omega arith);
      quiet = λ i near z. refl;
      founds = λ j v e is i near. outside_free sizes ws (founder sizes γ ∷ []) i
          (ap valued (none (Rattle.sdd_domain_invariant.specs.Words.slot_word sizes i)) ∙ sound.empty 0 sound.free.2);
      banks = λ j v e is. let f : false ≡ true = ap (λ (u : View). u.fractions.bank) (only j v e) ∙ is in absurd cc;
    };
    lasts = record {
      alike = λ i p y z low near l lz. all_laid i p y low near l ∙ sym (all_laid i n z low (omega arith) lz);
      banks = λ j v e is. let f : false ≡ true = ap (λ (u : View). u.fractions.bank) (only j v e) ∙ is in absurd cc;
      stored = λ one j v e live. absurd (let f = ap (λ (w : View). w.epoch.state) (only j v e) in omega arith);
      hidden = λ one j v e live. absurd (let f = ap (λ (w : View). w.epoch.state) (only j v e) in omega arith);
    };
    kinds = record {
      each = λ j v e. subst (KnowsKinds sizes ws) (only j v e) (knows_no_kind sizes ws (founder sizes γ) (length-replicate (words_behind sizes) 0) refl refl);
      bound = record {
        bound = λ i c. absurd (let z = ap counts_owners (none (Rattle.sdd_domain_invariant.specs.Words.slot_word sizes i)) in
            let f = none_counted in omega arith);
        once = λ j v e i more. absurd (let o = ap (over_at i) (only j v e) in omega arith);
      };
      pledges = record {
        single = omega arith;
        backed = λ i v q e m. absurd (no_pledge (founder sizes γ) q refl (ap (λ (u : View). u.pledges.own) (only i v e) ∙ m));
      };
      cells = record {
        inside = λ i c. absurd (let e = ap (names i) (none (Rattle.sdd_domain_invariant.specs.Words.cell_word c.0)) ∙ sound.null i in let n = c.2 in
            omega arith);
        single = λ d. omega arith;
        taken = λ j v r e has. absurd (no_right v (ap (λ (u : View). u.cells.rights) (sym (only j v e))) r has);
        closing = λ k. omega arith;
        pointers = λ d _. let z = none (Rattle.sdd_domain_invariant.specs.Words.pointer_word sizes d) in omega arith;
      };
    };
  }
    where
      only : (j : ℕ) (v : View) → get_elem? (founder sizes γ ∷ []) j ≡ some v → founder sizes γ ≡ v
      only zero v e = some-injective _ _ e
      only (suc j) v e = absurd (some-ne-none v (sym e))

      all_laid : (i p : ℕ) (y : ValueFraction) → i < sizes.slots → p ≤ sizes.participants → LiesAt sizes.participants (map some xs) i p y
          → IsNoValueCode y.content.shown
      all_laid i p y low near lies = let n : ℕ = sizes.participants in let l = laid.each i p near (inside n sizes.slots i p low near) in
          subst (λ (x : ValueFraction). IsNoValueCode x.content.shown)
          (some-injective l.0 y (some-injective (some l.0) (some y) (sym (at_map some xs (fraction_at n i p) l.0 l.1) ∙ lies))) l.2.1

      none_known : (i : ℕ) (g : Gv) → ¬ (IsKnown (founder sizes γ ∷ []) i g)
      none_known i g k = knows_none (founder sizes γ) refl refl refl i g (subst (λ (u : View). KnowsShown u i g) (sym (only k.0 k.1 k.2)) k.3)

  -- the owner that it has goes to a seat of its own, with what is known of its slot, where none is held and no value is moved
  pub parts_owner : (id : ℕ) (v : View) (slot : ℕ) → HasPlace v.epoch → v.sizes ≡ sizes → v.slots.owns ≡ slot ∷ [] → v.slots.drawn ≡ slot ∷ [] → v.slots.holds
      ≡ None
      → v.fractions.moves ≡ None → Splits (DomainInvariant γ sizes) id v (parting v) (departing v)
  parts_owner id v slot live of owns drawn free rests s h at = let t : View = departing v in
      let near = (h.kept.parts.epoch.each id v.epoch (at_map epoch_of s.views id v at)).inside live in
      let placed : 0 < v.sizes.participants = (let e = ap (λ (z : Sizes). z.participants) of in omega arith) in let w : View = parting v in let r = h.records in
      let told = r.each id v at in
      let vs : List View = s.views ++ t ∷ [] in let mine = records.mine sizes s.views s.homes r id v at in
      let came = records.arrives sizes s.views s.homes r t
      record {
        owns = λ i g k. let o = (told.owns i g k).0 in (
          let e = ap (times i) owns in let e' = ap (λ (l : List ℕ). times i (first l)) owns in let l : Owns t i = omega arith in l,
          none_moved t i refl,
        );
        owned = λ i o still. told.owned i
            (let e = ap (times i) owns in let e' = ap (λ (l : List ℕ). times i (first l)) owns in omega arith) (none_moved v i rests);
        sees = refl;
        waits = λ i g k. absurd (in_none i g k);
        waiting = λ i _ o. absurd (omega arith);
        inside = λ i g k. told.inside i g (known_by t i g (λ a. inl a) (λ a. absurd (in_none i g a)) (λ a. absurd (in_none i g a)) k);
      }
      (λ i g k. known_by t i g (λ a. mine i g (inl a)) (λ a. absurd (in_none i g a)) (λ a. absurd (in_none i g a)) k) refl refl refl in
      let mine_then = records.mine sizes vs s.homes came id v (at_longer s.views (t ∷ []) id v at) in
      let known_then = filled_more sizes s.views h.filled t
      (λ r x. ⊎_elim (λ (a : HasRecord v.fractions.owns r). (id, v, at, inl a)) (λ (a : HasRecord [] r). absurd (has_none r [] refl a)) x)
      (λ z. absurd (omega arith)) in record {
        kept = kept.parts_owner sizes id v w.fractions t.fractions free s h.kept at;
        homes = part.arrives γ sizes s.words (set s.views id w) s.homes
            (part.calm γ sizes s.words s.views s.homes h.homes id v at s.words w (λ i p out. out) (λ i _. refl) (none_out w rests))
            t (nothing_out t refl refl) (none_out t refl);
        records = subst (λ (us : List View). RecordsInvariant sizes us s.homes) (set_front s.views (t ∷ []) id v w at)
            (records.no_more sizes vs s.homes came id v (at_longer s.views (t ∷ []) id v at) w
            (λ is. came.deposits id v (at_longer s.views (t ∷ []) id v at) is) s.homes
            record {
              owns = λ i g k. absurd (in_none i g k);
              owned = λ i o still. absurd (let e = ap (λ (l : List ℕ). times i (others l)) owns in omega arith);
              sees = told.sees;
              waits = told.waits;
              waiting = told.waiting;
              inside = λ i g k. told.inside i g (known_by w i g (λ a. absurd (in_none i g a)) (λ a. inr (inl a)) (λ a. inr (inr a)) k);
            }
            (λ i g k. known_by w i g (λ a. absurd (in_none i g a)) (λ a. mine_then i g (inr (inl a))) (λ a. mine_then i g (inr (inr a))) k)
            (λ i p y _ _ l. inl l) (λ i m. m) (λ i a. a));
        counts = more_counts sizes s.words (set s.views id w) (uncounted_alone sizes s.words s.views h.counts id v at w refl refl) t refl refl refl;
        filled = subst (FilledInvariant sizes) (set_front s.views (t ∷ []) id v w at)
            (filled_after sizes vs known_then id v (at_longer s.views (t ∷ []) id v at) w refl
            (tells_old sizes vs known_then id v (at_longer s.views (t ∷ []) id v at) w
            (told_by w v (λ r a. absurd (has_none r [] refl a)) (λ r a. inr a))) (λ _ live. inl live));
        bank = banks.parts γ sizes s.words s.views h.bank id v at w t
            record { bank = refl; founds = refl; gamma = refl; banked = refl; moves = refl } refl refl refl
            (λ i. let d = ap (λ (l : List ℕ). times i (others l)) drawn in omega arith)
            (λ i. let o = ap (λ (l : List ℕ). times i (first l)) owns in let a = total_append (is i) (first v.slots.owns) [] in omega arith)
            (λ i. let d = ap (λ (l : List ℕ). times i (others l)) drawn in let d' = ap (times i) drawn in
            let o = ap (λ (l : List ℕ). times i (first l)) owns in let a = total_append (is i) (first v.slots.owns) [] in omega arith);
        lasts = lasts_more sizes s.words (set s.views id w) s.homes (lasts_stay s h id v at w (λ b. (b, refl)) refl (λ live. live)) t (λ _. refl)
            (λ z. absurd (omega arith));
        kinds = let k = h.kinds.each id v at in kind_steps.arrives sizes s.words (set s.views id w)
            (kind_steps.stays sizes s.words s.views h.kinds r.each id v at s.words w (no_change sizes s.words) (knows_no_kind sizes s.words w k.long rests refl)
            record { pledges = refl; marks = refl; sizes = refl; cells = refl; place = inl (λ l. l); records = λ z. absurd (omega arith); holds = λ _. refl }) t
            record {
              long = refl;
              sole = λ i m. absurd (none_moved t i refl m);
              claimed = λ i m. absurd (none_moved t i refl m);
              told = λ x a _. k.told x a (λ o. let c : None ≡ Some x.slot = sym free ∙ o in cc);
            }
            record { over = refl; ledger = refl; founds = refl; own = refl; rights = refl; closes = refl };
      }

  -- the first record is of the owner's seat, and the others were known
  come_in : (vs : List View) (now : ShownValue) (other id : ℕ) (t v : View) → get_elem? vs other ≡ some t → get_elem? vs id ≡ some v
      → t.fractions.owns ≡ now ∷ [] → (r : ShownValue) → HasRecord (now ∷ v.fractions.owns) r ⊎ HasRecord v.fractions.waits r → IsTold vs r
  come_in vs now other id t v was at one r x = ⊎_elim (λ (a : HasRecord (now ∷ v.fractions.owns) r). ⊎_elim
      (λ (b : HasRecord (now ∷ []) r). (other, t, was, inl (subst (λ (l : List ShownValue). HasRecord l r) (sym one) b)))
      (λ (b : HasRecord v.fractions.owns r). (id, v, at, inl b)) (has_either (now ∷ []) v.fractions.owns r a))
      (λ (a : HasRecord v.fractions.waits r). (id, v, at, inr a)) x

  -- no pledge of the ledger is of this seat
  pub free_of : (jd : ℕ) (ps : List Pledge) (p : Pledge) → Free jd ps → HasPledge p ps → ¬ (p.seat ≡ jd)
  free_of jd [] p free has = absurd has
  free_of jd (q ∷ qs) p free (inl is) = λ e. free.0 (ap (λ (x : Pledge). x.seat) (sym is) ∙ e)
  free_of jd (q ∷ qs) p free (inr has) = free_of jd qs p free.1 has

  -- and comes back, as nobody has pledged a share of its view
  pub joins_owner : (id : ℕ) (v : View) (other bd slot : ℕ) (shared : Bool) (value : Gv) → v.fractions.moves ≡ None
      → JoinsFree (DomainInvariant γ sizes) IsLedger booked_by id v other (owner_of slot shared value) bd (regained v (owner_of slot shared value))
      (owner_seat [])
  joins_owner id v other bd slot shared value rests s b h at was at_b ours apart far unpledged = let t : View = owner_of slot shared value in
      let t' : View = owner_seat [] in
      let w : View = regained v t in let vs : List View = set s.views id w in let r = h.records in let told = r.each id v at in
      let now : ShownValue = record { slot = slot; shared = shared; value = value } in let mine = records.mine sizes s.views s.homes r id v at in
      let there : get_elem? vs other ≡ some t = set_else s.views id other w apart ∙ was in
      let came = records.no_more sizes s.views s.homes r id v at w (λ is. r.deposits id v at is) s.homes
      record {
        owns = λ i g k. ⊎_elim
            (λ (e : (slot ≡ i) × (value ≡ g)). (let o = is_same i slot e.0 in let l : Owns w i = omega arith in l, none_moved w i rests))
            (λ (a : IsIn v.fractions.owns i g). let o = (told.owns i g a).0 in (let l : Owns w i = omega arith in l, none_moved w i rests))
            (in_either now v.fractions.owns i g k);
        owned = λ i o still. dite (ℕ_discrete slot i) (λ e. (value, in_head now v.fractions.owns i value e refl))
            (λ ne. let b = told.owned i (let q = is_other i slot ne in omega arith) (none_moved v i rests) in
            (b.0, in_tail now v.fractions.owns i b.0 b.1));
        sees = told.sees;
        waits = told.waits;
        waiting = told.waiting;
        inside = λ i g k. known_by w i g
            (λ a. ⊎_elim (λ (e : (slot ≡ i) × (value ≡ g)). (r.each other t was).inside i g (inl (in_head now [] i g e.0 e.1)))
            (λ (b : IsIn v.fractions.owns i g). told.inside i g (inl b)) (in_either now v.fractions.owns i g a))
            (λ a. told.inside i g (inr (inl a))) (λ a. told.inside i g (inr (inr a))) k;
      }
      (λ i g k. known_by w i g
      (λ a. ⊎_elim (λ (e : (slot ≡ i) × (value ≡ g)). (other, t, was, inl (in_head now [] i g e.0 e.1)))
      (λ (b : IsIn v.fractions.owns i g). mine i g (inl b)) (in_either now v.fractions.owns i g a))
      (λ a. mine i g (inr (inl a))) (λ a. mine i g (inr (inr a))) k)
      (λ i p y _ _ l. inl l) (λ i m. m) (λ i a. a) in record {
        kept = kept.joins_owners sizes id v other (slot ∷ []) w.fractions t.fractions s h.kept at apart there;
        homes = part.calm γ sizes s.words vs s.homes
            (part.calm γ sizes s.words s.views s.homes h.homes id v at s.words w (λ i p out. out) (λ i _. refl) (none_out w rests))
            other t there s.words t' (λ i p out. absurd (nothing_out t refl refl i p out)) (λ i _. refl) (none_out t' refl);
        records = records.no_more sizes vs s.homes came other t there t' (λ is. let c : false ≡ true = is in absurd cc) s.homes
            (telling_none t' refl refl refl refl refl refl)
            (λ i g k. absurd (knows_none t' refl refl refl i g k)) (λ i p y _ _ l. inl l) (λ i m. absurd (none_moved t' i refl m))
            (λ i a. absurd (omega arith));
        counts = uncounted_alone sizes s.words vs (uncounted_alone sizes s.words s.views h.counts id v at w refl refl) other t there t' refl refl;
        filled = filled_after sizes vs (filled_after sizes s.views h.filled id v at w refl (come_in s.views now other id t v was at refl) (λ _ live. inl live))
            other t there t' refl (tells_none t' vs refl refl) (λ _ live. inl live);
        bank = banks.joins γ sizes s.words s.views h.bank id v at other t t' w there apart
            record { bank = refl; founds = refl; gamma = refl; banked = refl; moves = refl } refl refl refl refl refl refl refl
            (λ i. let low = h.bank.low id v at i in omega arith) (λ i. omega arith);
        lasts = lasts_fewer sizes s.words vs s.homes (lasts_stay s h id v at w (λ b. (b, refl)) refl (λ live. live)) other t there s.words t' s.homes
            (λ _ _ _ _ l. l) (no_bank t t' refl) refl (λ _ live. inl live) (stored_as_is sizes s.words);
        kinds = let k = h.kinds.each id v at in
            let now_mine = kind_steps.stays sizes s.words s.views h.kinds r.each id v at s.words w (no_change sizes s.words)
            record {
              long = k.long;
              sole = λ i m. absurd (none_moved w i rests m);
              claimed = λ i m. absurd (none_moved w i rests m);
              told = λ x a loose. ⊎_elim
                  (λ (e : now ≡ x). (h.kinds.each other t was).told x (subst (λ (y : ShownValue). HasRecord (now ∷ []) y) e (0, refl))
                  (λ o. let c : None ≡ Some x.slot = o in cc))
                  (λ (b : HasRecord v.fractions.owns x). k.told x b loose) (has_first now v.fractions.owns x a);
            }
            record {
              pledges = refl;
              marks = refl;
              sizes = refl;
              cells = refl;
              place = inl (λ l. l);
              records = λ _ x a. (suc a.0, a.1);
              holds = λ _. refl;
            } in
            kind_steps.spends sizes s.words vs now_mine came.each other t there t' (knows_no_kind sizes s.words t' refl refl refl) refl refl (inl (λ l. l)) refl
            (pledges_spent vs now_mine.pledges other t t' there refl (λ i q B.
            let l = forth s.views h.kinds.pledges id v w at (λ x y. y.pledges ≡ x.pledges) refl (λ _. refl) bd b at_b in
            let had : HasPledge q b.pledges.booked = subst (λ (x : PledgesView). HasPledge q x.booked) l.2
            (B.booked bd l.0 l.1 (ap (λ (x : PledgesView). x.ledger) l.2 ∙ ours)) in free_of other b.pledges.booked q unpledged had));
      }

  -- the counts of ended places go to a seat of their own
  pub parts_counts : (id : ℕ) (v : View) → 0 < over_by v → Splits (DomainInvariant γ sizes) id v (uncounting v) (counts_of v)
  parts_counts id v over s h at = let t : View = counts_of v in let w : View = uncounting v in let c = h.counts in let p = h.kept.parts.slots in record {
    kept = kept.cuts sizes id v v.slots.owns v.slots.drawn [] w.fractions t.fractions (λ i. omega arith)
        (λ i held. ((p.each id v at).held i held).0) s h.kept at;
    homes = part.arrives γ sizes s.words (set s.views id w) s.homes
        (part.calm γ sizes s.words s.views s.homes h.homes id v at s.words w (λ i p out. out) (λ i _. refl) (h.homes.moving id v at))
        t (nothing_out t refl refl) (none_out t refl);
    records = records.arrives sizes (set s.views id w) s.homes (records.calm sizes s.views s.homes h.records id v at w (
      refl,
      refl,
      refl,
      (λ _. refl),
      refl,
    )) t
        (telling_none t refl refl refl refl refl refl) (λ i g k. absurd (knows_none t refl refl refl i g k)) refl refl refl;
    counts = record {
      items = let a = total_set made_by s.views id v w at in let a' = total_snoc made_by (set s.views id w) t in
          let b = total_set gone_by s.views id v w at in let b' = total_snoc gone_by (set s.views id w) t in let d = c.items in omega arith;
      places = let a = total_set over_by s.views id v w at in let a' = total_snoc over_by (set s.views id w) t in let d = c.places in omega arith;
      each = each_snoc CountsByPlace (set s.views id w) t
          (each_set CountsByPlace CountsByPlace s.views id w (λ _ _. (refl, refl)) (λ j u _ e. c.each j u e)) (λ _ none. absurd (omega arith));
    };
    filled = let us : List View = set s.views id w in
        filled_more sizes us (filled_same sizes s.views h.filled id v at w refl refl refl (λ live. live))
        t (tells_none t us refl refl) (λ z. absurd (omega arith));
    bank = banks.parts γ sizes s.words s.views h.bank id v at w t
        record { bank = refl; founds = refl; gamma = refl; banked = refl; moves = refl } refl refl refl (h.bank.low id v at) (λ i. omega arith)
        (λ i. omega arith);
    lasts = lasts_more sizes s.words (set s.views id w) s.homes (lasts_stay s h id v at w (λ b. (b, refl)) refl (λ live. live)) t (λ _. refl)
        (λ z. absurd (omega arith));
    kinds = kind_steps.arrives sizes s.words (set s.views id w)
        (kind_steps.same sizes s.words s.views h.kinds h.records.each id v at w refl refl refl refl refl refl s.words (no_change sizes s.words)
        (same_post v w refl refl refl refl (λ l. l) refl refl)) t (knows_no_kind sizes s.words t refl refl refl) record
        { over = refl; ledger = refl; founds = refl; own = refl; rights = refl; closes = refl };
  }

  -- the bank is founded
  pub founds_bank : (id : ℕ) (v : View) → v.fractions.founds ≡ true → v.fractions.gamma ≡ γ → Splits (DomainInvariant γ sizes) id v (founded v) (bank_of v)
  founds_bank id v may gamma s h at = let t : View = bank_of v in let w : View = founded v in let told = h.records.each id v at in
      let us : List View = set s.views id w in let p = h.kept.parts.slots in record {
        kept = kept.cuts sizes id v v.slots.owns v.slots.drawn [] w.fractions t.fractions (λ i. omega arith)
            (λ i held. ((p.each id v at).held i held).0) s h.kept at;
        homes = part.arrives γ sizes s.words us s.homes
            (part.calm γ sizes s.words s.views s.homes h.homes id v at s.words w (λ i p out. out) (λ i _. refl) (h.homes.moving id v at))
            t (nothing_out t refl refl) (none_out t refl);
        records = records.arrives sizes us s.homes
            (records.no_more sizes s.views s.homes h.records id v at w (λ is. h.records.deposits id v at is) s.homes
            record { owns = told.owns; owned = told.owned; sees = told.sees; waits = told.waits; waiting = told.waiting; inside = told.inside }
            (records.mine sizes s.views s.homes h.records id v at) (λ i p y _ _ l. inl l) (λ i m. m) (λ i a. a))
            t (telling_none t refl refl refl refl refl refl) (λ i g k. absurd (knows_none t refl refl refl i g k)) refl refl refl;
        counts = more_counts sizes s.words us (uncounted_alone sizes s.words s.views h.counts id v at w refl refl) t refl refl refl;
        filled = filled_more sizes us (filled_same sizes s.views h.filled id v at w refl refl refl (λ live. live))
            t (tells_none t us refl refl) (λ z. absurd (omega arith));
        bank = banks.bank_founded γ sizes s.words s.views h.bank id v at may gamma;
        lasts = lasts_more sizes s.words us s.homes (lasts_stay s h id v at w (λ b. (b, refl)) refl (λ live. live)) t (λ _. refl)
            (λ z. absurd (omega arith));
        kinds = kind_steps.arrives sizes s.words us
            (kind_steps.same sizes s.words s.views h.kinds h.records.each id v at w refl refl refl refl refl refl s.words (no_change sizes s.words)
            (same_post v w refl refl refl refl (λ l. l) refl refl)) t (knows_no_kind sizes s.words t refl refl refl) record
            { over = refl; ledger = refl; founds = refl; own = refl; rights = refl; closes = refl };
      }

  -- and come to another
  pub joins_counts : (id : ℕ) (v : View) (other : ℕ) (d : CountsView)
      → Joins (DomainInvariant γ sizes) id v other (counts_seat d) (counting v (counts_seat d)) (owner_seat [])
  joins_counts id v other d s h at apart there = let t : View = counts_seat d in let t' : View = owner_seat [] in let w : View = counting v t in
      let vs : List View = set s.views id w in let c = h.counts in
      let was : get_elem? s.views other ≡ some t = sym (set_else s.views id other w apart) ∙ there in record {
        kept = kept.takes_in sizes id v other v.slots.owns v.slots.drawn [] w.fractions t.fractions (λ i.
            omega arith) s h.kept at apart there;
        homes = part.calm γ sizes s.words vs s.homes
            (part.calm γ sizes s.words s.views s.homes h.homes id v at s.words w (λ i p out. out) (λ i _. refl) (h.homes.moving id v at))
            other t there s.words t' (λ i p out. absurd (nothing_out t refl refl i p out)) (λ i _. refl) (none_out t' refl);
        records = records.calm sizes vs s.homes (records.calm sizes s.views s.homes h.records id v at w (
          refl,
          refl,
          refl,
          (λ _. refl),
          refl,
        )) other t there t'
            (refl, refl, refl, (λ _. refl), refl);
        counts = record {
          items = let a = total_set made_by s.views id v w at in let a' = total_set made_by vs other t t' there in
              let b = total_set gone_by s.views id v w at in let b' = total_set gone_by vs other t t' there in let e = c.items in omega arith;
          places = let a = total_set over_by s.views id v w at in let a' = total_set over_by vs other t t' there in let e = c.places in omega arith;
          each = each_set CountsByPlace CountsByPlace vs other t' (λ _ _. (refl, refl))
              (λ j u _ e. each_set CountsByPlace CountsByPlace s.views id w
              (λ state over. let mine = c.each id v at state (omega arith) in let theirs = c.each other t was refl (omega arith) in
              (let a = mine.0 in let b = theirs.0 in omega arith, let a = mine.1 in let b = theirs.1 in omega arith))
              (λ j u _ e. c.each j u e) j u e);
        };
        filled = filled_after sizes vs
            (filled_same sizes s.views h.filled id v at w refl refl refl (λ live. live))
            other t there t' refl (tells_none t' vs refl refl) (λ _ live. inl live);
        bank = banks.joins γ sizes s.words s.views h.bank id v at other t t' w there apart
            record { bank = refl; founds = refl; gamma = refl; banked = refl; moves = refl } refl refl refl refl refl refl refl
            (h.bank.low id v at) (λ i. omega arith);
        lasts = lasts_fewer sizes s.words vs s.homes (lasts_stay s h id v at w (λ b. (b, refl)) refl (λ live. live)) other t there s.words t' s.homes
            (λ _ _ _ _ l. l) (no_bank t t' refl) refl (λ _ live. inl live) (stored_as_is sizes s.words);
        kinds = kind_steps.stays sizes s.words vs
            (kind_steps.same sizes s.words s.views h.kinds h.records.each id v at w refl refl refl refl refl refl s.words (no_change sizes s.words)
            (same_post v w refl refl refl refl (λ l. l) refl refl))
            (records.calm sizes s.views s.homes h.records id v at w (
              refl,
              refl,
              refl,
              (λ _. refl),
              refl,
            )).each other t there s.words t' (no_change sizes s.words)
            (knows_no_kind sizes s.words t' refl refl refl) (same_post t t' refl refl refl refl (λ l. l) refl refl);
      }

  -- a seat counts no more places than there are
  pub few_over : (s : State ValueFraction View) → DomainInvariant γ sizes s → (id : ℕ) (v : View) → get_elem? s.views id ≡ some v → over_by v ≤
      sizes.participants
  few_over s h id v at = let a = total_has over_by s.views id v at in let b = h.counts.places in let c = ended_few sizes s.words sizes.participants in
      omega arith

  -- all fractions in a slot that is free are at home, and show that it is vacant
  pub free_at_home : (s : State ValueFraction View) → DomainInvariant γ sizes s → (i p : ℕ) → i < sizes.slots → p ≤ sizes.participants
      → alive (slot_at sizes s.words i) ≡ 0 → waiting (slot_at sizes s.words i) ≡ 0 → full (slot_at sizes s.words i) ≡ 0
      → (y : ValueFraction) × LiesAt sizes.participants s.homes i p y × Has γ i (share sizes.participants 0 p) IsNoValueCode y
  free_at_home s h i p low near dead quiet empty = let n : ℕ = sizes.participants in let b = h.homes.back i p low near (λ j u e out. ⊎_elim
      (λ (m : Moves u i). still_free γ sizes s h i j u e dead quiet (plain_free codes sound (slot_at sizes s.words i) empty).1 m)
      (λ (o : SeesFrom u i p). let f = (h.kept.parts.slots.each j u e).full i o.0 in absurd (omega arith)) out) in
      let vacant : full_at sizes s.words i ≡ 0 = sound.empty (slot_at sizes s.words i) empty in
      let has = subst (λ (k : ℕ). Has γ i (share n k p) (MatchesSlotWord (full_at sizes s.words i)) b.0) (ap (away n) vacant)
      (h.homes.home i p b.0 low near b.1) in
      (b.0, b.1, (has.0, has.1.1 vacant))

  -- once a seat knows that all places have ended, nobody has one
  no_place : (s : State ValueFraction View) → DomainInvariant γ sizes s → (id : ℕ) (v : View) → get_elem? s.views id ≡ some v → sizes.participants ≤
      v.places.ended
      → (j : ℕ) (u : View) → get_elem? s.views j ≡ some u → ¬ (HasPlace u.epoch)
  no_place s h id v at all j u e z = let f = h.kept.parts.epoch.each j u.epoch (at_map epoch_of s.views j u e) in let is = f.state z in let few = f.states in
      let in' = f.inside z in let over = h.kept.places.ended id v at u.epoch.place in' (omega arith) in omega arith

  -- and all fractions are at home, and show what their slots' words say
  pub all_home : (s : State ValueFraction View) → DomainInvariant γ sizes s → (id : ℕ) (v : View) → get_elem? s.views id ≡ some v → sizes.participants ≤
      v.places.ended
      → (i p : ℕ) → i < sizes.slots → p ≤ sizes.participants
      → (y : ValueFraction) × LiesAt sizes.participants s.homes i p y
      × Has γ i (share sizes.participants (away sizes.participants (full_at sizes s.words i)) p) (MatchesSlotWord (full_at sizes s.words i)) y
  all_home s h id v at all i p low near = let b = h.homes.back i p low near (λ j u e out. no_place s h id v at all j u e (⊎_elim
      (λ (m : Moves u i). (h.homes.moving j u e i m).0)
      (λ (o : SeesFrom u i p). let open_guard = (h.kept.parts.slots.each j u e).guarded i o.0 in
      let live : HasPlace u.epoch = omega arith in live) out)) in
      (b.0, b.1, h.homes.home i p b.0 low near b.1)

  -- where a seat counts all places, what was made has gone, or lies in a slot
  pub all_counted : (s : State ValueFraction View) → DomainInvariant γ sizes s → (id : ℕ) (v : View) → get_elem? s.views id ≡ some v → sizes.participants ≤
      v.places.ended
      → over_by v ≡ sizes.participants → made_by v ≡ gone_by v + full_slots sizes s.words
  all_counted s h id v at all over = let c = h.counts in let few = ended_few sizes s.words sizes.participants in let places = c.places in
      let none : (j : ℕ) (u : View) → j ≢ id → get_elem? s.views j ≡ some u → HasNoCounts u
      = λ j u ne e. let two = total_two over_by s.views id j v u (λ d. ne (sym d)) at e in
      c.each j u e (dite (dec_lt 0 u.epoch.state) (λ live. absurd (no_place s h id v at all j u e live)) (λ z. omega arith)) (omega arith) in
      let made = total_only made_by s.views id v at (λ j u ne e. (none j u ne e).0) in
      let gone = total_only gone_by s.views id v at (λ j u ne e. (none j u ne e).1) in let items = c.items in omega arith
