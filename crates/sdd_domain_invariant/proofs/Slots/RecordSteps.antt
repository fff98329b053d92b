-- What a participant knows of what slots show, after each of its steps that may change it
use Rattle.std.proofs.Common.{◌≡◌, ◌≢◌, inl, inr, ℕ, suc, ◌+◌, ◌<◌, Bool, List, [], ◌∷◌, map, get_or, set, sym, refl, ap, ◌∙◌, subst, ⊎_elim, arith}
use mathlib.Core.Option.{some, some-injective}
use mathlib.Core.Logic.{dite}
use native.Mathlib.Decide.{ℕ_discrete}
use Rattle.std.specs.Prelude.{Option, Some, None}
use lib.ListN.{get_elem?}
use base.Stored.{Gv}
use Rattle.atomic_table.specs.Table.{State, homes_after}
use Rattle.sdd_shared_values.specs.declared.value_fraction.ValueFraction.{ValueFraction}
use Rattle.sdd_rights.specs.declared.views.ShownValue.{ShownValue}
use Rattle.sdd_rights.specs.declared.views.FractionsView.{FractionsView}
use Rattle.sdd_rights.specs.declared.views.View.{View}
use Rattle.sdd_rights.specs.declared.views.Sizes.{Sizes}
use Rattle.sdd_domain_invariant.specs.Words.{slot_word}
use Rattle.sdd_domain_invariant.specs.Codes.{codes, alive, waiting}
use Rattle.sdd_domain_invariant.specs.Sums.{is, times}
use Rattle.sdd_domain_invariant.specs.Slots.{slot_at, waits_in, items_at, Owns}
use Rattle.sdd_domain_invariant.specs.Slots.SlotSteps.{without, retired, retired_now}
use Rattle.sdd_domain_invariant.proofs.Codes.{sound}
use Rattle.sdd_domain_invariant.proofs.Slots.SlotWords.{owner_in, owners_in}
use Rattle.sdd_domain_invariant.proofs.Sums.{is_same, is_other, without_same, without_other, total_has, total_two, total_snoc}
use Rattle.sdd_domain_invariant.specs.Fractions.FractionsAtHome.{CarriedFractions, share, Has, Moves, LiesAt}
use Rattle.sdd_domain_invariant.specs.DomainInvariant.{DomainInvariant}
use Rattle.sdd_domain_invariant.specs.Fractions.FractionSteps.{moving, making, resting, telling, untold, remembering, forgetting}
use Rattle.sdd_domain_invariant.specs.Slots.Records.{slot_shown, IsIn, IsKnown, IsTelling, AllShowKnown, RecordsInvariant}
use Rattle.sdd_domain_invariant.specs.Fractions.BankInvariant.{deposited}
use Rattle.sdd_domain_invariant.specs.Slots.FilledInvariant.{HasRecord}
use Rattle.sdd_domain_invariant.proofs.Slots.Records.{in_head, in_tail, in_either, in_none, in_both, in_front, in_back, in_others, in_kept, known_by}
use Rattle.sdd_domain_invariant.proofs.Slots.Records as records
use Rattle.sdd_domain_invariant.proofs.Slots.FilledInvariant.{NoneTold}
use Rattle.sdd_domain_invariant.proofs.Fractions.SlotFractions.{Given, given_lies}

abbrev slot_moved : Option ℕ → ℕ
slot_moved None = 0
slot_moved (Some i) = i

pub one_moved : (v : View) (i j : ℕ) → Moves v i → Moves v j → j ≡ i
one_moved v i j m m' = ap slot_moved (sym m' ∙ m)

pub none_moved : (v : View) (i : ℕ) → v.fractions.moves ≡ None → ¬ (Moves v i)
none_moved v i rests m = let e : None ≡ Some i = sym rests ∙ m in cc

-- one seat has one view
pub one_view : (vs : List View) (id j : ℕ) (u v : View) → get_elem? vs j ≡ some u → get_elem? vs id ≡ some v → j ≡ id → u ≡ v
one_view vs id j u v e at same = some-injective u v (sym e ∙ (ap (get_elem? vs) same ∙ at))

-- it has an owner of this one, and no other
module _ (v : View) (slot : ℕ) (owns : v.slots.owns ≡ slot ∷ []) where
  pub owns_it : Owns v slot
  owns_it = let e = ap (times slot) owns in let o = is_same slot slot refl in omega arith

  owns_no_more : (i : ℕ) → i ≢ slot → times i v.slots.owns ≡ 0
  owns_no_more i ne = let e = ap (times i) owns in let o = is_other i slot (λ e. ne (sym e)) in omega arith

-- ---- what a participant that takes a step knows of what slots show
module _ {m : ℕ} (v : View) (t : IsTelling m v) (slot : ℕ) where
  -- it claims a slot
  pub claimed_tells : v.fractions.moves ≡ None → ¬ (Owns v slot) → ¬ (0 < items_at slot v) → (y : ℕ) → IsTelling m (making slot y v)
  claimed_tells rests never quiet y = let w : View = making slot y v in record {
    owns = λ i g h. let o = (t.owns i g h).0 in (
      let l : Owns w i = omega arith in l,
      λ m. never (subst (Owns v) (one_moved w slot i refl m) o),
    );
    owned = λ i o still. dite (ℕ_discrete i slot) (λ e. absurd (still (ap (λ (k : ℕ). Some k) (sym e))))
        (λ ne. t.owned i (let q = is_other i slot (λ e. ne (sym e)) in omega arith) (none_moved v i rests));
    sees = t.sees;
    waits = λ i g h. let o = (t.waits i g h).0 in (o, λ m. quiet (subst (λ (k : ℕ). 0 < items_at k v) (one_moved w slot i refl m) o));
    waiting = λ i low o still. t.waiting i low o (none_moved v i rests);
    inside = t.inside;
  }

  -- it moves the value of a slot of which it has no owner, and remembers no more what its item shows
  pub moving_tells : v.fractions.moves ≡ None → ¬ (Owns v slot) → IsTelling m (moving slot (forgetting slot v))
  moving_tells rests never = let w : View = moving slot (forgetting slot v) in record {
    owns = λ i g h. let o = (t.owns i g h).0 in (o, λ m. never (subst (Owns v) (one_moved w slot i refl m) o));
    owned = λ i o still. t.owned i o (none_moved v i rests);
    sees = t.sees;
    waits = λ i g h. let o = in_others slot v.fractions.waits i g h in ((t.waits i g o.1).0, λ m. o.0 (one_moved w slot i refl m));
    waiting = λ i low o still. let b = t.waiting i low o (none_moved v i rests) in
        in_kept slot v.fractions.waits i b.0 (λ e. still (ap (λ (k : ℕ). Some k) (sym e))) b.1;
    inside = λ i g k. t.inside i g (known_by w i g (λ a. inl a) (λ a. inr (inl a)) (λ a. inr (inr (in_others slot v.fractions.waits i g a).1)) k);
  }

  module _ (owns : v.slots.owns ≡ slot ∷ []) where
    pub held_tells : v.fractions.moves ≡ None → ¬ (0 < items_at slot v) → IsTelling m (moving slot (untold v))
    held_tells rests quiet = record {
      owns = λ i g h. absurd (in_none i g h);
      owned = λ i o still. dite (ℕ_discrete i slot) (λ e. absurd (still (ap (λ (k : ℕ). Some k) (sym e))))
          (λ ne. absurd (let z = owns_no_more v slot owns i ne in omega arith));
      sees = t.sees;
      waits = λ i g h. let o = (t.waits i g h).0 in
          (o, λ m. quiet (subst (λ (k : ℕ). 0 < items_at k v) (one_moved (moving slot (untold v)) slot i refl m) o));
      waiting = λ i low o still. t.waiting i low o (none_moved v i rests);
      inside = λ i g k. t.inside i g (known_by (moving slot (untold v)) i g (λ a. absurd (in_none i g a)) (λ a. inr (inl a)) (λ a. inr (inr a)) k);
    }

    -- its item waits from now on
    items_then : (y count i : ℕ) → items_at i (retired slot y count v) ≡ items_at i v + is i slot
    items_then y count i = total_snoc (waits_in i) v.slots.waits (retired_now slot count)

    pub retired_tells : (y count : ℕ) → v.fractions.moves ≡ None → (value : Gv) → IsIn v.fractions.owns slot value
        → IsTelling m (remembering (retired slot y count v))
    retired_tells y count rests value told = let mine : List ShownValue = v.fractions.owns in let old : List ShownValue = v.fractions.waits in record {
      owns = λ i g h. absurd (in_none i g h);
      owned = λ i o still. dite (ℕ_discrete i slot)
          (λ e. absurd (let z = without_same slot v.slots.owns in let c = ap (λ (k : ℕ). times k (without slot v.slots.owns)) e in omega arith))
          (λ ne. absurd (let z = owns_no_more v slot owns i ne in let c = without_other slot i ne v.slots.owns in omega arith));
      sees = t.sees;
      waits = λ i g h. let now = items_then y count i in (
        ⊎_elim
            (λ (a : IsIn mine i g). dite (ℕ_discrete i slot) (λ e. let one = is_same i slot (sym e) in omega arith)
            (λ ne. absurd (let o = (t.owns i g a).0 in let z = owns_no_more v slot owns i ne in omega arith)))
            (λ (b : IsIn old i g). let o = (t.waits i g b).0 in omega arith) (in_both i g mine old h),
        none_moved v i rests,
      );
      waiting = λ i low o still. dite (ℕ_discrete i slot)
          (λ e. (value, in_front i value mine old (subst (λ (k : ℕ). IsIn mine k value) (sym e) told)))
          (λ ne. let now = items_then y count i in let z = is_other i slot (λ e. ne (sym e)) in
          let b = t.waiting i low (omega arith) (none_moved v i rests) in (b.0, in_back i b.0 mine old b.1));
      inside = λ i g k. t.inside i g (known_by (remembering (retired slot y count v)) i g (λ a. absurd (in_none i g a)) (λ a. inr (inl a))
          (λ a. ⊎_elim (λ (b : IsIn mine i g). inl b) (λ (b : IsIn old i g). inr (inr b)) (in_both i g mine old a)) k);
    }

  module _ (mine : Moves v slot) where
    -- a value was moved in
    pub housed_tells : slot < m → Owns v slot → ¬ (0 < items_at slot v) → (shared : Bool) (value : Gv) → IsTelling m (resting (telling slot shared value v))
    housed_tells low own quiet shared value = let r : ShownValue = record { slot = slot; shared = shared; value = value } in
        let w : View = resting (telling slot shared value v) in record {
          owns = λ i g h. (
            ⊎_elim (λ (e : (slot ≡ i) × (value ≡ g)). subst (Owns v) e.0 own) (λ (k : IsIn v.fractions.owns i g). (t.owns i g k).0)
                (in_either r v.fractions.owns i g h),
            none_moved w i refl,
          );
          owned = λ i o still. dite (ℕ_discrete slot i) (λ e. (value, in_head r v.fractions.owns i value e refl))
              (λ ne. let b = t.owned i o (λ m. ne (sym (one_moved v slot i mine m))) in (b.0, in_tail r v.fractions.owns i b.0 b.1));
          sees = t.sees;
          waits = λ i g h. ((t.waits i g h).0, none_moved w i refl);
          waiting = λ i low o still. t.waiting i low o (λ m. quiet (subst (λ (k : ℕ). 0 < items_at k v) (one_moved v slot i mine m) o));
          inside = λ i g k. known_by w i g
              (λ a. ⊎_elim (λ (e : (slot ≡ i) × (value ≡ g)). subst (λ (j : ℕ). j < m) e.0 low) (λ (b : IsIn v.fractions.owns i g). t.inside i g (inl b))
              (in_either r v.fractions.owns i g a)) (λ a. t.inside i g (inr (inl a))) (λ a. t.inside i g (inr (inr a))) k;
        }

    -- a value was moved out
    pub rested_tells : (w : View) → record w.fractions { counts = v.fractions.counts } ≡ record v.fractions { moves = None }
        → ((i : ℕ) → i ≢ slot → times i w.slots.owns ≡ times i v.slots.owns)
        → ¬ (Owns w slot) → ((i : ℕ) → i ≢ slot → items_at i w ≡ items_at i v) → ¬ (0 < items_at slot w) → w.slots.sees ≡ v.slots.sees → IsTelling m w
    rested_tells w is same never same' quiet seen = record {
      owns = λ i g h. let o = t.owns i g (subst (λ (k : FractionsView). IsIn k.owns i g) is h) in let b = o.0 in
          let e = same i (λ e. o.1 (mine ∙ ap (λ (k : ℕ). Some k) (sym e))) in (
            let l : Owns w i = omega arith in l,
            none_moved w i (ap (λ (k : FractionsView). k.moves) is),
          );
      owned = λ i o still. dite (ℕ_discrete i slot) (λ e. absurd (never (subst (Owns w) e o)))
          (λ ne. let e = same i ne in let b = t.owned i (omega arith) (λ m. ne (one_moved v slot i mine m)) in
          (b.0, subst (λ (k : FractionsView). IsIn k.owns i b.0) (sym is) b.1));
      sees = ap (λ (k : FractionsView). map slot_shown k.sees) is ∙ (t.sees ∙ sym seen);
      waits = λ i g h. let o = t.waits i g (subst (λ (k : FractionsView). IsIn k.waits i g) is h) in let b = o.0 in
          let e = same' i (λ e. o.1 (mine ∙ ap (λ (k : ℕ). Some k) (sym e))) in
          (subst (λ (k : ℕ). 0 < k) (sym e) b, none_moved w i (ap (λ (k : FractionsView). k.moves) is));
      waiting = λ i low o still. dite (ℕ_discrete i slot) (λ e. absurd (quiet (subst (λ (k : ℕ). 0 < items_at k w) e o)))
          (λ ne. let b = t.waiting i low (subst (λ (k : ℕ). 0 < k) (same' i ne) o) (λ m. ne (one_moved v slot i mine m)) in
          (b.0, subst (λ (k : FractionsView). IsIn k.waits i b.0) (sym is) b.1));
      inside = λ i g k. t.inside i g (known_by w i g (λ a. inl (subst (λ (k : FractionsView). IsIn k.owns i g) is a))
          (λ a. inr (inl (subst (λ (k : FractionsView). IsIn k.sees i g) is a))) (λ a. inr (inr (subst (λ (k : FractionsView). IsIn k.waits i g) is a))) k);
    }

-- ---- all of them
-- while all words are 0 no seat tells of an owner, nor is anything remembered of an item
pub none_told : (γ : ℕ) (sizes : Sizes) (s : State ValueFraction View) → DomainInvariant γ sizes s → ((i : ℕ) → get_or s.words i 0 ≡ 0) → NoneTold s.views
none_told γ sizes s h zeros r t = let tells = h.records.each t.0 t.1 t.2 in let word = zeros (slot_word sizes r.slot) in ⊎_elim
    (λ (a : HasRecord t.1.fractions.owns r). let own = tells.owns r.slot r.value (a.0, r, a.1, refl, refl) in
    let mine = own.0 in let one = owner_in codes sound sizes s.words s.views h.kept.parts.slots t.0 r.slot t.1 t.2 in
    let none = ap alive word ∙ sound.free.0 in omega arith)
    (λ (a : HasRecord t.1.fractions.waits r). let waits = (tells.waits r.slot r.value (a.0, r, a.1, refl, refl)).0 in
    let here = total_has (items_at r.slot) s.views t.0 t.1 t.2 in let sum = h.kept.parts.slots.waited r.slot in
    let none = ap waiting word ∙ sound.free.1 in omega arith) t.3

module _ (γ : ℕ) (sizes : Sizes) (s : State ValueFraction View) (h : DomainInvariant γ sizes s) (i id : ℕ) (v : View) (at : get_elem? s.views id ≡ some v) where
  -- where one moves the value of a slot of its own, none else has an owner of it
  sole : Moves v i → Owns v i → (j : ℕ) (u : View) → get_elem? s.views j ≡ some u → Owns u i → j ≡ id
  sole mine own j u e o = dite (ℕ_discrete j id) (λ same. same)
      (λ ne. let a = (h.kinds.each id v at).sole i mine own in
      let both = owners_in codes sound sizes s.words s.views h.kept.parts.slots j id i u v ne e at in absurd (omega arith))

  -- while an item waits, none has
  pub none_owns : 0 < items_at i v → (j : ℕ) (u : View) → get_elem? s.views j ≡ some u → ¬ (Owns u i)
  none_owns waits j u e o = let t = total_has (items_at i) s.views id v at in let w = h.kept.parts.slots.waited i in
      let a = owner_in codes sound sizes s.words s.views h.kept.parts.slots j i u e in let l = (sound.lives (slot_at sizes s.words i) (omega arith)).0 in
      absurd (omega arith)

  -- while one has an owner, no item waits
  pub none_waits : Owns v i → (j : ℕ) (u : View) → get_elem? s.views j ≡ some u → ¬ (0 < items_at i u)
  none_waits own j u e waits = let a = owner_in codes sound sizes s.words s.views h.kept.parts.slots id i v at in
      let l = (sound.lives (slot_at sizes s.words i) (omega arith)).0 in let t = total_has (items_at i) s.views j u e in
      let w = h.kept.parts.slots.waited i in omega arith

  -- the item of a slot waits with one participant only
  waits_with : 0 < items_at i v → (j : ℕ) (u : View) → get_elem? s.views j ≡ some u → 0 < items_at i u → j ≡ id
  waits_with waits j u e theirs = dite (ℕ_discrete j id) (λ same. same)
      (λ ne. let both = total_two (items_at i) s.views j id u v ne e at in let w = h.kept.parts.slots.waited i in
      let one = (sound.waits (slot_at sizes s.words i) (omega arith)).0 in absurd (omega arith))

  -- nobody knows what a slot shows whose value is moved
  pub unknown_owned : Moves v i → Owns v i → (g : Gv) → ¬ (IsKnown s.views i g)
  unknown_owned mine own = records.unknown sizes s.views s.homes h.records i (λ j u e. h.records.apart id j v u i at e mine)
      (λ j u e which. ⊎_elim
      (λ (o : Owns u i). subst (λ (x : View). Moves x i) (sym (one_view s.views id j u v e at (sole mine own j u e o))) mine)
      (λ (o : 0 < items_at i u). absurd (none_waits own j u e o)) which)

  pub unknown_waiting : Moves v i → 0 < items_at i v → (g : Gv) → ¬ (IsKnown s.views i g)
  unknown_waiting mine waits = records.unknown sizes s.views s.homes h.records i (λ j u e. h.records.apart id j v u i at e mine)
      (λ j u e which. ⊎_elim (λ (o : Owns u i). absurd (none_owns waits j u e o))
      (λ (o : 0 < items_at i u). subst (λ (x : View). Moves x i) (sym (one_view s.views id j u v e at (waits_with waits j u e o))) mine) which)

  -- all fractions in a slot of which nobody knows come home
  pub comes_home : (o : ℕ) (Is : Gv → Type 0) (rest xs : CarriedFractions) (g : Given γ sizes.participants i o Is s.homes rest xs (suc sizes.participants))
      → ((g : Gv) → ¬ (IsKnown s.views i g)) → (w : View) → IsTelling sizes.slots w
      → record w.fractions { counts = v.fractions.counts } ≡ record v.fractions { moves = None } → w.slots.sees ≡ v.slots.sees
      → RecordsInvariant sizes (set s.views id w) (homes_after s.homes xs g.act)
  comes_home o Is rest xs g never w tells is seen = let n : ℕ = sizes.participants in
      records.no_more sizes s.views s.homes h.records id v at w
      (λ b. subst (λ (x : FractionsView). AllShowKnown s.views (map (deposited x.gamma) x.banked)) (sym is)
      (h.records.deposits id v at (ap (λ (x : FractionsView). x.bank) (sym is) ∙ b))) (homes_after s.homes xs g.act) tells
      (λ k g' a. records.mine sizes s.views s.homes h.records id v at k g' (known_by w k g'
      (λ b. inl (subst (λ (x : FractionsView). IsIn x.owns k g') is b))
      (λ b. inr (inl (subst (λ (x : FractionsView). IsIn x.sees k g') is b)))
      (λ b. inr (inr (subst (λ (x : FractionsView). IsIn x.waits k g') is b))) a))
      (λ j p y low near lies. ⊎_elim
      (λ (b : (j ≡ i) × Has γ i (share n o p) Is y). inr (λ g' a. absurd (never g' (subst (λ (k : ℕ). IsKnown s.views k g') b.0 a))))
      (λ (b : (j ≢ i) × LiesAt n s.homes j p y). inl b.1) (given_lies γ n i o Is s.homes rest xs g j p y near lies))
      (λ k m. absurd (none_moved w k (ap (λ (x : FractionsView). x.moves) is) m))
      (λ k a. subst (λ (l : List ℕ). 0 < times k l) seen a)
