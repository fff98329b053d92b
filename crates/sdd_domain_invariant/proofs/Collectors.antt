-- The collectors' part after one step of one participant that takes no part in it, and after seats come and go
pub mod PrivateSlots
pub mod CollectorWordSteps
pub mod PrivateItemSteps
pub mod CollectorSteps
use Rattle.std.proofs.Common.{◌≡◌, ◌≢◌, ◌⊎◌, ℕ, suc, ◌<◌, ◌≤◌, List, [], ◌∷◌, ◌++◌, length, set, sym, refl, ap, ◌∙◌, subst, inl, inr, ⊎_elim, arith, length-set, get_or-set_other, get_or-set_same}
use Rattle.std.proofs.lemmas.List.{get_or_past}
use Rattle.std.specs.Prelude.{None, Some}
use mathlib.Core.Option.{some, some-ne-none}
use mathlib.Core.Logic.{dite}
use native.Mathlib.Decide.{ℕ_discrete, dec_lt}
use lib.ListN.{get_elem?}
use Rattle.atomic_table.proofs.Lists.{at_snoc}
use Rattle.sdd_rights.specs.declared.views.EpochView.{EpochView}
use Rattle.sdd_rights.specs.declared.views.PrivateItem.{PrivateItem}
use Rattle.sdd_rights.specs.declared.views.View.{View}
use Rattle.sdd_rights.specs.declared.views.Sizes.{Sizes}
use Rattle.sdd_domain_invariant.specs.Words.{first_slot, slot_word}
use Rattle.sdd_domain_invariant.specs.Epoch.{IsClosed}
use Rattle.sdd_domain_invariant.specs.Epoch.EpochSteps.{published}
use Rattle.sdd_domain_invariant.specs.Codes.{WordReading, IsWordReading}
use Rattle.sdd_domain_invariant.specs.Slots.{slot_at, Sees, IsTimed}
use Rattle.sdd_domain_invariant.specs.Collectors.{private_in, privates_at, one_in, empties_at, Empties, Closes, HasPrivate, HasValue, KnowsPrivates, SeenBeforeClosed, CollectorsInvariant}
use Rattle.sdd_domain_invariant.specs.Slots.SlotSteps.{older_private, aged, seeing}
use Rattle.sdd_domain_invariant.specs.Sums.{total, times}
use Rattle.sdd_domain_invariant.specs.WordInvariant.{with_both}
use Rattle.sdd_domain_invariant.proofs.Frame.{each_set, each_snoc}
use Rattle.sdd_domain_invariant.proofs.Sums.{total_set, total_snoc, total_has, total_map, both_set, is_same}
use Rattle.sdd_domain_invariant.proofs.Slots.SeenSlots.{sees_more}
use Rattle.sdd_domain_invariant.proofs.Slots.SlotEpochs.{of_map}

-- what it has of private items and of collectors stays, and what it knows of the epoch rises
pub record KeepsPrivates (v w : View) : Type 0 where
  pub privates : w.slots.privates ≡ v.slots.privates
  pub emptied : w.slots.emptied ≡ v.slots.emptied
  pub empties : w.slots.empties ≡ v.slots.empties
  pub left : w.slots.left ≡ v.slots.left
  pub closes : w.slots.closes ≡ v.slots.closes
  pub looked : w.slots.looked ≤ v.slots.looked
  pub known : v.epoch.known ≤ w.epoch.known
  pub found : v.epoch.found ≤ w.epoch.found

-- it has no private item, closes none, and sees nothing
pub record HasNoPrivates (t : View) : Type 0 where
  pub privates : t.slots.privates ≡ []
  pub emptied : t.slots.emptied ≡ []
  pub empties : t.slots.empties ≡ None
  pub closes : t.slots.closes ≡ None
  pub sees : t.slots.sees ≡ []

has_private : (v w : View) → w.slots.privates ≡ v.slots.privates → (x : PrivateItem) → HasPrivate w x → HasPrivate v x
has_private v w same x has = (has.0, ap (λ (l : List PrivateItem). get_elem? l has.0) (sym same) ∙ has.1)

-- the same, and what it sees under the same guard
abbrev pub Aside : View → View → Type 0
Aside v w = (w.slots.privates ≡ v.slots.privates) × (w.slots.emptied ≡ v.slots.emptied) × (w.slots.empties ≡ v.slots.empties)
    × (w.slots.left ≡ v.slots.left) × (w.slots.closes ≡ v.slots.closes) × (w.slots.sees ≡ v.slots.sees) × (w.epoch.since ≡ v.epoch.since)
    × (w.epoch.place ≡ v.epoch.place) × (w.epoch.found ≡ v.epoch.found)

pub aside_kept : (v w : View) → Aside v w → w.slots.looked ≤ v.slots.looked → v.epoch.known ≤ w.epoch.known → KeepsPrivates v w
aside_kept v w a looked known = record {
  privates = a.0;
  emptied = a.1;
  empties = a.2;
  left = a.3;
  closes = a.4;
  looked = looked;
  known = known;
  found = let e = a.8 in omega arith;
}

-- a word of a slot whose item is neither private nor emptied
abbrev pub IsPlain : WordReading → ℕ → Type 0
IsPlain z x = (z.private x ≡ 0) × (z.emptying x ≡ 0)

-- a step leaves a slot's word, or it was plain and is so
abbrev pub IsUnmarked : WordReading → ℕ → ℕ → Type 0
IsUnmarked z x y = (y ≡ x) ⊎ (IsPlain z x × IsPlain z y)

-- what it sees it saw before, or it is plain
abbrev pub SeesPlain : WordReading → Sizes → List ℕ → View → View → Type 0
SeesPlain z sizes ws v w = (i : ℕ) → Sees w i
    → (Sees v i × (w.epoch.since ≡ v.epoch.since) × (w.epoch.place ≡ v.epoch.place)) ⊎ IsPlain z (slot_at sizes ws i)

pub sight_kept : (v : View) (slot : ℕ) → KeepsPrivates v (seeing slot v)
sight_kept v slot = record {
  privates = refl;
  emptied = refl;
  empties = refl;
  left = refl;
  closes = refl;
  looked = omega arith;
  known = omega arith;
  found = omega arith;
}

pub sees_plain : (z : WordReading) (sizes : Sizes) (ws : List ℕ) (v : View) (slot : ℕ) → IsPlain z (slot_at sizes ws slot)
    → SeesPlain z sizes ws v (seeing slot v)
sees_plain z sizes ws v slot plain i h = ⊎_elim (λ (e : i ≡ slot). inr (subst (λ (k : ℕ). IsPlain z (slot_at sizes ws k)) (sym e) plain))
    (λ (t : Sees v i). inl (t, refl, refl)) (sees_more v slot i h)

-- a slot's word is another one, and those of other slots stay
pub unmarked_set : (z : WordReading) (sizes : Sizes) (ws : List ℕ) (slot y : ℕ) → IsUnmarked z (slot_at sizes ws slot) y
    → (j : ℕ) → IsUnmarked z (slot_at sizes ws j) (slot_at sizes (set ws (slot_word sizes slot) y) j)
unmarked_set z sizes ws slot y plain j = let k : ℕ = slot_word sizes slot in dite (ℕ_discrete j slot)
    (λ e. dite (dec_lt k (length ws))
    (λ l. let now : slot_at sizes (set ws k y) j ≡ y = ap (λ (a : ℕ). slot_at sizes (set ws k y) a) e ∙ get_or-set_same ws k y 0 l in
    let was : slot_at sizes ws j ≡ slot_at sizes ws slot = ap (slot_at sizes ws) e in
    subst (λ (x : ℕ). IsUnmarked z x (slot_at sizes (set ws k y) j)) (sym was) (subst (IsUnmarked z (slot_at sizes ws slot)) (sym now) plain))
    (λ far. inl (ap (λ (a : ℕ). slot_at sizes (set ws k y) a) e ∙ (get_or_past (set ws k y) k 0 (omega (arith, length-set ws k y))
    ∙ (sym (get_or_past ws k 0 (omega arith)) ∙ sym (ap (slot_at sizes ws) e))))))
    (λ ne. inl (get_or-set_other ws k (slot_word sizes j) y 0 (λ e. ne (omega arith))))

module _ (z : WordReading) (sound : IsWordReading z) where
  -- a word with owners is plain
  pub plain_alive : (x : ℕ) → 0 < z.alive x → IsPlain z x
  plain_alive x h = (
    dite (ℕ_discrete (z.private x) 0) (λ e. e) (λ ne. let p = (sound.private x (omega arith)).1 in absurd (omega arith)),
    dite (ℕ_discrete (z.emptying x) 0) (λ e. e) (λ ne. let p = (sound.emptying x (omega arith)).1 in absurd (omega arith)),
  )

  -- or one that waits
  pub plain_waiting : (x : ℕ) → 0 < z.waiting x → IsPlain z x
  plain_waiting x h = (
    dite (ℕ_discrete (z.private x) 0) (λ e. e) (λ ne. let p = (sound.private x (omega arith)).3 in absurd (omega arith)),
    dite (ℕ_discrete (z.emptying x) 0) (λ e. e) (λ ne. let p = (sound.emptying x (omega arith)).4 in absurd (omega arith)),
  )

  -- or a free one
  pub plain_free : (x : ℕ) → z.full x ≡ 0 → IsPlain z x
  plain_free x h = (
    dite (ℕ_discrete (z.private x) 0) (λ e. e) (λ ne. let p = (sound.private x (omega arith)).2 in absurd (omega arith)),
    dite (ℕ_discrete (z.emptying x) 0) (λ e. e) (λ ne. let p = (sound.emptying x (omega arith)).2 in absurd (omega arith)),
  )

  pub plain_has : (x : ℕ) → IsPlain z x → HasValue z x
  plain_has x p = (p.1, λ e. let n = p.0 in absurd (omega arith))

  pub none_for : (k x : ℕ) → z.private x ≡ 0 → ¬ (0 < z.waits_for k x)
  none_for k x none h = let p = (sound.for_one k x h).0 in absurd (omega arith)

  module _ (sizes : Sizes) (ws : List ℕ) (vs : List View) (c : CollectorsInvariant z sizes ws vs) where
    -- a private item is in the sum, and so is who empties one
    pub private_at : (j : ℕ) (u : View) (x : PrivateItem) → get_elem? vs j ≡ some u → HasPrivate u x → 0 < z.private (slot_at sizes ws x.item.slot)
    private_at j u x at has = let i : ℕ = x.item.slot in let a = total_has (private_in i) u.slots.privates has.0 x has.1 in
        let b = total_has (privates_at i) vs j u at in let s = c.private i in let one = is_same i i refl in omega arith

    pub privates_in : (j i : ℕ) (u : View) → get_elem? vs j ≡ some u → privates_at i u ≤ z.private (slot_at sizes ws i)
    privates_in j i u at = let b = total_has (privates_at i) vs j u at in let s = c.private i in omega arith

    pub emptying_at : (j i : ℕ) (u : View) → get_elem? vs j ≡ some u → Empties u i → 0 < z.emptying (slot_at sizes ws i)
    emptying_at j i u at mine = let b = total_has (empties_at i) vs j u at in let s = c.emptied i in let one = is_same i i refl in
        let e : empties_at i u ≡ _ = ap (one_in i) mine in omega arith

    -- steps on other words, or between plain ones
    module _ (ws' : List ℕ) (same : (i : ℕ) → IsUnmarked z (slot_at sizes ws i) (slot_at sizes ws' i)) where
      same_private : (i : ℕ) → z.private (slot_at sizes ws' i) ≡ z.private (slot_at sizes ws i)
      same_private i = ⊎_elim (λ (e : slot_at sizes ws' i ≡ slot_at sizes ws i). ap z.private e)
          (λ (p : IsPlain z (slot_at sizes ws i) × IsPlain z (slot_at sizes ws' i)). p.1.0 ∙ sym p.0.0) (same i)

      same_emptying : (i : ℕ) → z.emptying (slot_at sizes ws' i) ≡ z.emptying (slot_at sizes ws i)
      same_emptying i = ⊎_elim (λ (e : slot_at sizes ws' i ≡ slot_at sizes ws i). ap z.emptying e)
          (λ (p : IsPlain z (slot_at sizes ws i) × IsPlain z (slot_at sizes ws' i)). p.1.1 ∙ sym p.0.1) (same i)

      still_for : (k i : ℕ) → 0 < z.waits_for k (slot_at sizes ws' i) → 0 < z.waits_for k (slot_at sizes ws i)
      still_for k i h = ⊎_elim (λ (e : slot_at sizes ws' i ≡ slot_at sizes ws i). let a = ap (z.waits_for k) e in omega arith)
          (λ (p : IsPlain z (slot_at sizes ws i) × IsPlain z (slot_at sizes ws' i)). absurd (none_for k (slot_at sizes ws' i) p.1.0 h)) (same i)

      pub words_kept : CollectorsInvariant z sizes ws' vs
      words_kept = record {
        private = λ i. same_private i ∙ c.private i;
        emptied = λ i. same_emptying i ∙ c.emptied i;
        each = λ j v e. let f = c.each j v e in record {
          timed = f.timed;
          names = λ x has k h. f.names x has k (still_for k x.item.slot h);
          found = λ i h. let g = f.found i h in (
            ⊎_elim (λ (t : slot_at sizes ws' i ≡ slot_at sizes ws i). t ∙ g.0)
                (λ (p : IsPlain z (slot_at sizes ws i) × IsPlain z (slot_at sizes ws' i)). let n = p.0.0 in let more = g.1 in
                let s = privates_in j i v e in absurd (omega arith)) (same i),
            g.1,
          );
          left = λ l i h. ⊎_elim (λ (t : slot_at sizes ws' i ≡ slot_at sizes ws i). t ∙ f.left l i h)
              (λ (p : IsPlain z (slot_at sizes ws i) × IsPlain z (slot_at sizes ws' i)). let n = p.0.1 in let s = emptying_at j i v e h in absurd (omega arith))
              (same i);
          seen = λ i h. ⊎_elim (λ (t : slot_at sizes ws' i ≡ slot_at sizes ws i). subst (HasValue z) (sym t) (f.seen i h))
              (λ (p : IsPlain z (slot_at sizes ws i) × IsPlain z (slot_at sizes ws' i)). plain_has (slot_at sizes ws' i) p.1) (same i);
        };
        two = λ j k v w e e'. let t = c.two j k v w e e' in record {
          since = t.since;
          looked = λ i l sees shuts h. t.looked i l sees shuts (still_for l i h);
        };
      }

    module _ (id : ℕ) (v w : View) (at : get_elem? vs id ≡ some v) where
      none_private : (i : ℕ) → z.private (slot_at sizes ws i) ≡ 0 → (j : ℕ) (u : View) (x : PrivateItem) → get_elem? vs j ≡ some u → HasPrivate u x
          → x.item.slot ≢ i
      none_private i none j u x e has same = let p = private_at j u x e has in
          let a = ap (λ (k : ℕ). z.private (slot_at sizes ws k)) same in absurd (omega arith)

      -- no word changes
      pub view_kept : KeepsPrivates v w → SeesPlain z sizes ws v w → CollectorsInvariant z sizes ws (set vs id w)
      view_kept k sees = let f = c.each id v at in
          let privates_same : (i : ℕ) → privates_at i w ≡ privates_at i v = λ i. ap (total (private_in i)) k.privates in
          let guards : (j : ℕ) (u : View) → get_elem? vs j ≡ some u → SeenBeforeClosed z sizes ws w u
          = λ j u e. let o = c.two id j v u at e in record {
            since = λ i x h has same. ⊎_elim
                (λ (t : Sees v i × (w.epoch.since ≡ v.epoch.since) × (w.epoch.place ≡ v.epoch.place)). let g = o.since i x t.0 has same in
                let s = t.1 in omega arith)
                (λ (p : IsPlain z (slot_at sizes ws i)). absurd (none_private i p.0 j u x e has same)) (sees i h);
            looked = λ i l h shuts for. ⊎_elim
                (λ (t : Sees v i × (w.epoch.since ≡ v.epoch.since) × (w.epoch.place ≡ v.epoch.place)). let g = o.looked i l t.0 shuts for in
                let s = t.2 in omega arith)
                (λ (p : IsPlain z (slot_at sizes ws i)). absurd (none_for l (slot_at sizes ws i) p.0 for)) (sees i h);
          } in
          let closers : (u : View) → SeenBeforeClosed z sizes ws u v → SeenBeforeClosed z sizes ws u w = λ u o. record {
            since = λ i x h has same. o.since i x h (has_private v w k.privates x has) same;
            looked = λ i l h shuts for. let g = o.looked i l h (sym k.closes ∙ shuts) for in let q = k.looked in omega arith;
          } in record {
            private = λ i. let t = total_set (privates_at i) vs id v w at in let s = c.private i in let e = privates_same i in omega arith;
            emptied = λ i. let t = total_set (empties_at i) vs id v w at in let s = c.emptied i in let e = ap (one_in i) k.empties in omega arith;
            each = each_set (KnowsPrivates z sizes ws) (KnowsPrivates z sizes ws) vs id w
                record {
                  timed = λ x has. let t = f.timed x (has_private v w k.privates x has) in let a = t.known in let b = k.known in let d = k.found in record {
                    known = omega arith;
                    found = λ pos. let h = t.found pos in omega arith;
                  };
                  names = λ x has. f.names x (has_private v w k.privates x has);
                  found = λ i h. let g = f.found i (subst (λ (l : List ℕ). 0 < times i l) k.emptied h) in let e = privates_same i in let g1 = g.1 in
                      (g.0, omega arith);
                  left = λ l i h. f.left (sym k.left ∙ l) i (sym k.empties ∙ h);
                  seen = λ i h. ⊎_elim
                      (λ (t : Sees v i × (w.epoch.since ≡ v.epoch.since) × (w.epoch.place ≡ v.epoch.place)). f.seen i t.0)
                      (λ (p : IsPlain z (slot_at sizes ws i)). plain_has (slot_at sizes ws i) p) (sees i h);
                }
                (λ j u _ e. c.each j u e);
            two = both_set (SeenBeforeClosed z sizes ws) vs id w c.two (closers w (guards id v at))
                (λ j u _ e. (guards j u e, closers u (c.two j id u v e at)));
          }

      -- the same, where it sees what it saw
      pub view_aside : Aside v w → w.slots.looked ≤ v.slots.looked → v.epoch.known ≤ w.epoch.known → CollectorsInvariant z sizes ws (set vs id w)
      view_aside a looked known = view_kept (aside_kept v w a looked known) (λ i h. inl (subst (λ (l : List ℕ). 0 < times i l) a.5 h, a.6, a.7))

      -- it has looked at one place more, where no guard sees anything
      pub passes : (q : ℕ) → w.slots.privates ≡ v.slots.privates → w.slots.emptied ≡ v.slots.emptied → w.slots.empties ≡ v.slots.empties
          → w.slots.left ≡ v.slots.left → w.slots.closes ≡ v.slots.closes → w.slots.sees ≡ v.slots.sees → w.epoch ≡ v.epoch → q ≡ v.slots.looked
          → w.slots.looked ≡ suc q → ((j : ℕ) (u : View) → get_elem? vs j ≡ some u → (i : ℕ) → Sees u i → u.epoch.place ≢ q)
          → CollectorsInvariant z sizes ws (set vs id w)
      passes q privates emptied empties left closes sees epoch next more shut = let f = c.each id v at in
          let saw : (i : ℕ) → Sees w i → Sees v i = λ i h. subst (λ (l : List ℕ). 0 < times i l) sees h in
          let guards : (u : View) → SeenBeforeClosed z sizes ws v u → SeenBeforeClosed z sizes ws w u = λ u o. record {
            since = λ i x h has same. let g = o.since i x (saw i h) has same in let e = ap (λ (y : EpochView). y.since) epoch in omega arith;
            looked = λ i l h shuts for. let g = o.looked i l (saw i h) shuts for in let e = ap (λ (y : EpochView). y.place) epoch in omega arith;
          } in
          let closers : (j : ℕ) (u : View) → get_elem? vs j ≡ some u → SeenBeforeClosed z sizes ws u w = λ j u e. let o = c.two j id u v e at in record {
            since = λ i x h has same. o.since i x h (has_private v w privates x has) same;
            looked = λ i l h shuts for. let g = o.looked i l h (sym closes ∙ shuts) for in let ne = shut j u e i h in
                let low : suc q ≤ u.epoch.place = dite (ℕ_discrete u.epoch.place q) (λ same. absurd (ne same)) (λ apart. omega arith) in omega arith;
          } in record {
            private = λ i. let t = total_set (privates_at i) vs id v w at in let s = c.private i in let e = ap (total (private_in i)) privates in omega arith;
            emptied = λ i. let t = total_set (empties_at i) vs id v w at in let s = c.emptied i in let e = ap (one_in i) empties in omega arith;
            each = each_set (KnowsPrivates z sizes ws) (KnowsPrivates z sizes ws) vs id w
                record {
                  timed = λ x has. subst (λ (y : EpochView). IsTimed y x.item) (sym epoch) (f.timed x (has_private v w privates x has));
                  names = λ x has. f.names x (has_private v w privates x has);
                  found = λ i h. let g = f.found i (subst (λ (l : List ℕ). 0 < times i l) emptied h) in let e = ap (total (private_in i)) privates in
                      let g1 = g.1 in (g.0, omega arith);
                  left = λ l i h. f.left (sym left ∙ l) i (sym empties ∙ h);
                  seen = λ i h. f.seen i (saw i h);
                }
                (λ j u _ e. c.each j u e);
            two = both_set (SeenBeforeClosed z sizes ws) vs id w c.two
                (record {
                  since = λ i x h has same. (guards w (closers id v at)).since i x h has same;
                  looked = λ i l h shuts for. let o = (closers id v at).looked i l (saw i h) shuts for in
                      let e = ap (λ (y : EpochView). y.place) epoch in omega arith;
                })
                (λ j u _ e. (guards u (c.two id j v u at e), closers j u e));
          }

    -- a new seat, which has none
    pub more : (t : View) → HasNoPrivates t → CollectorsInvariant z sizes ws (vs ++ t ∷ [])
    more t none = let blind : (i : ℕ) → ¬ (Sees t i) = λ i h. let e = ap (times i) none.sees in omega arith in
        let without : (x : PrivateItem) → ¬ (HasPrivate t x)
        = λ x has. some-ne-none x (sym has.1 ∙ ap (λ (l : List PrivateItem). get_elem? l has.0) none.privates) in
        let shuts : (k : ℕ) → ¬ (Closes t k) = λ k h. let e : None ≡ Some k = sym none.closes ∙ h in cc in
        let beside : (u : View) → SeenBeforeClosed z sizes ws t u × SeenBeforeClosed z sizes ws u t = λ u. (
          record { since = λ i x h. absurd (blind i h); looked = λ i l h. absurd (blind i h) },
          record { since = λ i x h has. absurd (without x has); looked = λ i l h s. absurd (shuts l s) },
        ) in record {
          private = λ i. let a = total_snoc (privates_at i) vs t in let e = ap (total (private_in i)) none.privates in let s = c.private i in omega arith;
          emptied = λ i. let a = total_snoc (empties_at i) vs t in let e = ap (one_in i) none.empties in let s = c.emptied i in omega arith;
          each = each_snoc (KnowsPrivates z sizes ws) vs t c.each record {
            timed = λ x has. absurd (without x has);
            names = λ x has. absurd (without x has);
            found = λ i h. absurd (let e = ap (times i) none.emptied in omega arith);
            left = λ l i h. let e : None ≡ Some i = sym none.empties ∙ h in cc;
            seen = λ i h. absurd (blind i h);
          };
          two = λ j l u w e e'. ⊎_elim
              (λ (a : get_elem? vs j ≡ some u). ⊎_elim (λ (d : get_elem? vs l ≡ some w). c.two j l u w a d)
              (λ (d : t ≡ w). subst (SeenBeforeClosed z sizes ws u) d (beside u).1) (at_snoc vs t w l e'))
              (λ (a : t ≡ u). subst (λ (x : View). SeenBeforeClosed z sizes ws x w) a (beside w).0)
              (at_snoc vs t u j e);
        }

    -- each item has seen one change more, since a publish found another count than the last one
    module _ (id : ℕ) (v : View) (at : get_elem? vs id ≡ some v) (g : ℕ) (shut : IsClosed v.epoch) (now : v.epoch.count ≡ v.epoch.known)
        (rises : v.epoch.known ≤ g) (found : v.epoch.found ≤ v.epoch.known) (blind : (i : ℕ) → ¬ (Sees v i)) where
      pub ages : v.epoch.count ≢ v.epoch.found → CollectorsInvariant z sizes ws (set vs id (with_both v (published v.epoch g) (aged v.slots)))
      ages other = let f = c.each id v at in let w : View = with_both v (published v.epoch g) (aged v.slots) in
          let young : (x : PrivateItem) → HasPrivate w x → (y : PrivateItem) × HasPrivate v y × (older_private y ≡ x)
          = λ x has. let p = of_map older_private v.slots.privates has.0 x has.1 in (p.0, (has.0, p.1), p.2) in
          let privates_same : (i : ℕ) → privates_at i w ≡ privates_at i v = λ i. total_map (private_in i) older_private (λ x. refl) v.slots.privates in
          let closers : (u : View) → SeenBeforeClosed z sizes ws u v → SeenBeforeClosed z sizes ws u w = λ u o. record {
            since = λ i x h has same. let p = young x has in let a = ap (λ (y : PrivateItem). y.item.slot) p.2 in
                let b = ap (λ (y : PrivateItem). y.item.retired_at) p.2 in let g = o.since i p.0 h p.1 (a ∙ same) in omega arith;
            looked = o.looked;
          } in
          let guards : (u : View) → SeenBeforeClosed z sizes ws w u
          = λ u. record { since = λ i x h. absurd (blind i h); looked = λ i l h. absurd (blind i h) } in record {
            private = λ i. let t = total_set (privates_at i) vs id v w at in let s = c.private i in let e = privates_same i in omega arith;
            emptied = λ i. let t = total_set (empties_at i) vs id v w at in let s = c.emptied i in omega arith;
            each = each_set (KnowsPrivates z sizes ws) (KnowsPrivates z sizes ws) vs id w
                record {
                  timed = λ x has. let p = young x has in let y : PrivateItem = p.0 in let a = f.timed y p.1 in let k = a.known in
                      subst (λ (x : PrivateItem). IsTimed (published v.epoch g) x.item) p.2 record {
                        known = omega arith;
                        found = λ _. dite (ℕ_discrete y.item.changes 0) (λ e. omega arith) (λ ne. let l = a.found (omega arith) in omega arith);
                      };
                  names = λ x has k h. let p = young x has in let a = ap (λ (y : PrivateItem). y.item.slot) p.2 in
                      f.names p.0 p.1 k (subst (λ (i : ℕ). 0 < z.waits_for k (slot_at sizes ws i)) (sym a) h)
                      ∙ ap (λ (y : PrivateItem). y.collector) p.2;
                  found = λ i h. let g = f.found i h in let e = privates_same i in let g1 = g.1 in (g.0, omega arith);
                  left = f.left;
                  seen = λ i h. absurd (blind i h);
                }
                (λ j u _ e. c.each j u e);
            two = both_set (SeenBeforeClosed z sizes ws) vs id w c.two (guards w) (λ j u _ e. (guards u, closers u (c.two j id u v e at)));
          }

  -- at the start
  pub starts : (sizes : Sizes) (ws : List ℕ) → ((i : ℕ) → slot_at sizes ws i ≡ 0) → CollectorsInvariant z sizes ws []
  starts sizes ws none = let p = plain_free 0 sound.free.2 in record {
    private = λ i. ap z.private (none i) ∙ p.0;
    emptied = λ i. ap z.emptying (none i) ∙ p.1;
    each = λ j v e. absurd (some-ne-none v (sym e));
    two = λ j k v w e. absurd (some-ne-none v (sym e));
  }

  -- a step on the word of a slot that is neither private nor emptied
  module _ (sizes : Sizes) (ws : List ℕ) (vs : List View) (c : CollectorsInvariant z sizes ws vs) (id : ℕ) (v : View) (at : get_elem? vs id ≡ some v) where
    pub slot_aside : (slot y : ℕ) (w : View) → IsUnmarked z (slot_at sizes ws slot) y → Aside v w → w.slots.looked ≤ v.slots.looked
        → v.epoch.known ≤ w.epoch.known → CollectorsInvariant z sizes (set ws (slot_word sizes slot) y) (set vs id w)
    slot_aside slot y w plain = let ws' : List ℕ = set ws (slot_word sizes slot) y in
        view_aside sizes ws' vs (words_kept sizes ws vs c ws' (unmarked_set z sizes ws slot y plain)) id v w at

    -- a step on a word before the slots'
    pub word_kept : (k y : ℕ) (w : View) → k < first_slot sizes → KeepsPrivates v w → SeesPlain z sizes ws v w
        → CollectorsInvariant z sizes (set ws k y) (set vs id w)
    word_kept k y w low keeps sees = let ws' : List ℕ = set ws k y in
        let there : (j : ℕ) → slot_at sizes ws' j ≡ slot_at sizes ws j = λ j. get_or-set_other ws k (slot_word sizes j) y 0 (λ e. omega arith) in
        view_kept sizes ws' vs (words_kept sizes ws vs c ws' (λ j. inl (there j))) id v w at keeps
        (λ i h. ⊎_elim (λ (t : Sees v i × (w.epoch.since ≡ v.epoch.since) × (w.epoch.place ≡ v.epoch.place)). inl t)
        (λ (p : IsPlain z (slot_at sizes ws i)). inr (subst (IsPlain z) (sym (there i)) p)) (sees i h))
