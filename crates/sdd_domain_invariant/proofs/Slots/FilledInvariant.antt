-- What a lone participant knows of owners and of items that wait, after one step of one participant
use Rattle.std.proofs.Common.{◌≡◌, ◌≢◌, ◌⊎◌, inl, inr, ℕ, zero, suc, eqb, List, [], ◌∷◌, ◌++◌, map, set, sym, refl, ap, ◌∙◌, subst, ⊎_elim, eq-eqb, ne_eqb}
use Rattle.std.specs.Prelude.{Some, not}
use mathlib.Core.Bool.{cond}
use mathlib.Core.Option.{some, some-injective, some-ne-none}
use lib.ListN.{get_elem?}
use Rattle.atomic_table.proofs.Lists.{at_map, at_set, at_snoc}
use Rattle.sdd_rights.specs.declared.views.ShownValue.{ShownValue}
use Rattle.sdd_rights.specs.declared.views.FractionsView.{FractionsView}
use Rattle.sdd_rights.specs.declared.views.View.{View}
use Rattle.sdd_rights.specs.declared.views.Sizes.{Sizes}
use Rattle.sdd_domain_invariant.specs.Epoch.{HasPlace, EpochInvariant}
use Rattle.sdd_domain_invariant.specs.WordInvariant.{epoch_of}
use Rattle.sdd_domain_invariant.proofs.Epoch.{no_other}
use Rattle.sdd_domain_invariant.proofs.Sums.{at_filter}
use Rattle.sdd_domain_invariant.specs.Slots.FilledInvariant.{newest, HasRecord, Tells, FilledInvariant}
use Rattle.sdd_domain_invariant.specs.Fractions.FractionSteps.{without_record}
use Rattle.sdd_domain_invariant.proofs.Slots.Records.{IsAlike}

-- ---- the newest record
pub newest_now : (now : ShownValue) (rs : List ShownValue) → newest now.slot (now ∷ rs) ≡ Some now
newest_now now rs = ap (λ (b : _). cond b (Some now) (newest now.slot rs)) (eq-eqb now.slot now.slot refl)

pub newest_before : (now : ShownValue) (rs : List ShownValue) (slot : ℕ) → now.slot ≢ slot → newest slot (now ∷ rs) ≡ newest slot rs
newest_before now rs slot ne = ap (λ (b : _). cond b (Some now) (newest slot rs)) (ne_eqb now.slot slot ne)

-- ---- what owners' seats tell, and what is remembered of items that wait
-- one of these views has this record
abbrev pub IsTold : List View → ShownValue → Type 0
IsTold vs r = (k : ℕ) × (u : View) × (get_elem? vs k ≡ some u) × Tells u r

-- they have none
abbrev pub NoneTold : List View → Type 0
NoneTold vs = (r : ShownValue) → ¬ (IsTold vs r)

-- the records of this view are told by those
abbrev pub TellsNoMore : View → List View → Type 0
TellsNoMore w vs = (r : ShownValue) → Tells w r → IsTold vs r

pub has_none : (r : ShownValue) (rs : List ShownValue) → rs ≡ [] → ¬ (HasRecord rs r)
has_none r rs none h = some-ne-none r (sym h.1 ∙ ap (λ (l : List ShownValue). get_elem? l h.0) none)

-- one of two lists has it
at_either : (rs ss : List ShownValue) (k : ℕ) (r : ShownValue) → get_elem? (rs ++ ss) k ≡ some r → HasRecord rs r ⊎ HasRecord ss r
at_either [] ss k r e = inr (k, e)
at_either (x ∷ rs) ss zero r e = inl (0, e)
at_either (x ∷ rs) ss (suc k) r e = ⊎_elim (λ (a : HasRecord rs r). inl (suc a.0, a.1)) (λ (b : HasRecord ss r). inr b) (at_either rs ss k r e)

pub has_either : (rs ss : List ShownValue) (r : ShownValue) → HasRecord (rs ++ ss) r → HasRecord rs r ⊎ HasRecord ss r
has_either rs ss r h = at_either rs ss h.0 r h.1

-- the records of other slots were there
pub has_old : (slot : ℕ) (rs : List ShownValue) (r : ShownValue) → HasRecord (without_record slot rs) r → HasRecord rs r
has_old slot rs r h = at_filter (λ (x : ShownValue). not (eqb x.slot slot)) rs h.0 r h.1

pub tells_none : (w : View) (vs : List View) → w.fractions.owns ≡ [] → w.fractions.waits ≡ [] → TellsNoMore w vs
tells_none w vs none none' r t = absurd (⊎_elim (has_none r w.fractions.owns none) (has_none r w.fractions.waits none') t)

-- the records of one are among those of the other
pub told_by : (w v : View) → ((r : ShownValue) → HasRecord w.fractions.owns r → Tells v r) → ((r : ShownValue) → HasRecord w.fractions.waits r → Tells v r)
    → (r : ShownValue) → Tells w r → Tells v r
told_by w v owns waits r t = ⊎_elim (owns r) (waits r) t

module _ (sizes : Sizes) (vs : List View) (f : FilledInvariant sizes vs) where
  -- what a lone participant knows of such a slot
  pub knows_told : sizes.participants ≡ 1 → (j : ℕ) (v : View) → get_elem? vs j ≡ some v → HasPlace v.epoch → (r : ShownValue) → IsTold vs r
      → newest r.slot v.fractions.filled ≡ Some r
  knows_told one j v at live r t = f.knows one j t.0 v t.1 r at live t.2 t.3

  -- a new seat without a place
  pub filled_more : (t : View) → TellsNoMore t vs → ¬ (HasPlace t.epoch) → FilledInvariant sizes (vs ++ t ∷ [])
  filled_more t tells none = record {
    knows = λ one j k v u r e live e' told.
        let known : IsTold vs r = ⊎_elim (λ (a : get_elem? vs k ≡ some u). (k, u, a, told))
        (λ (a : t ≡ u). tells r (subst (λ (x : View). Tells x r) (sym a) told)) (at_snoc vs t u k e') in
        ⊎_elim (λ (a : get_elem? vs j ≡ some v). knows_told one j v a live r known)
        (λ (a : t ≡ v). absurd (none (subst (λ (x : View). HasPlace x.epoch) (sym a) live))) (at_snoc vs t v j e);
  }

  module _ (id : ℕ) (v : View) (at : get_elem? vs id ≡ some v) where
    pub tells_old : (w : View) → ((r : ShownValue) → Tells w r → Tells v r) → TellsNoMore w vs
    tells_old w old r t = (id, v, at, old r t)

    tells_same : (w : View) → w.fractions.owns ≡ v.fractions.owns → w.fractions.waits ≡ v.fractions.waits → TellsNoMore w vs
    tells_same w same same' = tells_old w (told_by w v (λ r h. inl (subst (λ (l : List ShownValue). HasRecord l r) same h))
        (λ r h. inr (subst (λ (l : List ShownValue). HasRecord l r) same' h)))

    -- it tells of no slot more, and moved nothing in; if it has a place now it had one, or nothing was told at all
    pub filled_after : (w : View) → w.fractions.filled ≡ v.fractions.filled → TellsNoMore w vs
        → (sizes.participants ≡ 1 → HasPlace w.epoch → HasPlace v.epoch ⊎ NoneTold vs) → FilledInvariant sizes (set vs id w)
    filled_after w same tells had = record {
      knows = λ one j k x u r e live e' told.
          let known : IsTold vs r = ⊎_elim (λ (a : (k ≡ id) × (w ≡ u)). tells r (subst (λ (y : View). Tells y r) (sym a.1) told))
          (λ (a : (k ≢ id) × (get_elem? vs k ≡ some u)). (k, u, a.1, told)) (at_set vs id k w u e') in
          ⊎_elim
          (λ (a : (j ≡ id) × (w ≡ x)). let placed = subst (λ (y : View). HasPlace y.epoch) (sym a.1) live in ⊎_elim
          (λ (was : HasPlace v.epoch). ap (λ (y : View). newest r.slot y.fractions.filled) (sym a.1)
          ∙ (ap (newest r.slot) same ∙ knows_told one id v at was r known))
          (λ (none : NoneTold vs). absurd (none r known)) (had one placed))
          (λ (a : (j ≢ id) × (get_elem? vs j ≡ some x)). knows_told one j x a.1 live r known) (at_set vs id j w x e);
    }

    -- the same where it tells of the same
    pub filled_same : (w : View) → w.fractions.filled ≡ v.fractions.filled → w.fractions.owns ≡ v.fractions.owns → w.fractions.waits ≡ v.fractions.waits
        → (HasPlace w.epoch → HasPlace v.epoch) → FilledInvariant sizes (set vs id w)
    filled_same w same owns waits had = filled_after w same (tells_same w owns waits) (λ _ live. inl (had live))

    -- what it knows of fractions is as before
    pub filled_alike : (w : View) → IsAlike v w → (sizes.participants ≡ 1 → HasPlace w.epoch → HasPlace v.epoch ⊎ NoneTold vs) → FilledInvariant sizes
        (set vs id w)
    filled_alike w same had = filled_after w (ap (λ (s : FractionsView). s.filled) same.0)
        (tells_same w (ap (λ (s : FractionsView). s.owns) same.0) (ap (λ (s : FractionsView). s.waits) same.0)) had

    -- it tells of one slot more, into which whoever has the only place moved that last
    pub filled_learned : (w : View) → w.fractions.filled ≡ v.fractions.filled → (HasPlace w.epoch → HasPlace v.epoch) → (now : ShownValue)
        → ((r : ShownValue) → Tells w r → (r ≡ now) ⊎ IsTold vs r)
        → (sizes.participants ≡ 1 → (j : ℕ) (u : View) → get_elem? vs j ≡ some u → HasPlace u.epoch → newest now.slot u.fractions.filled ≡ Some now)
        → FilledInvariant sizes (set vs id w)
    filled_learned w same had now tells knows = record {
      knows = λ one j k x u r e live e' told.
          let known : (r ≡ now) ⊎ IsTold vs r = ⊎_elim (λ (a : (k ≡ id) × (w ≡ u)). tells r (subst (λ (y : View). Tells y r) (sym a.1) told))
          (λ (a : (k ≢ id) × (get_elem? vs k ≡ some u)). inr (k, u, a.1, told)) (at_set vs id k w u e') in
          let old : (j : ℕ) (x : View) → get_elem? vs j ≡ some x → HasPlace x.epoch → newest r.slot x.fractions.filled ≡ Some r
          = λ j x e live. ⊎_elim
          (λ (a : r ≡ now). subst (λ (y : ShownValue). newest y.slot x.fractions.filled ≡ Some y) (sym a) (knows one j x e live))
          (λ (a : IsTold vs r). knows_told one j x e live r a) known in
          ⊎_elim
          (λ (a : (j ≡ id) × (w ≡ x)). ap (λ (y : View). newest r.slot y.fractions.filled) (sym a.1)
          ∙ (ap (newest r.slot) same ∙ old id v at (had (subst (λ (y : View). HasPlace y.epoch) (sym a.1) live))))
          (λ (a : (j ≢ id) × (get_elem? vs j ≡ some x)). old j x a.1 live) (at_set vs id j w x e);
    }

    -- it moved something into a slot of which nothing was told
    pub filled_housed : (ws : List ℕ) → EpochInvariant sizes ws (map epoch_of vs) → HasPlace v.epoch → (now : ShownValue)
        → ((r : ShownValue) → IsTold vs r → now.slot ≢ r.slot) → (w : View) → w.fractions.owns ≡ now ∷ v.fractions.owns → w.fractions.waits ≡ v.fractions.waits
        → w.fractions.filled ≡ now ∷ v.fractions.filled → FilledInvariant sizes (set vs id w)
    filled_housed ws epochs live now apart w owns waits filled = record {
      knows = λ one j k x u r e placed e' told.
          let old : IsTold vs r → newest r.slot (now ∷ v.fractions.filled) ≡ Some r
          = λ t. newest_before now v.fractions.filled r.slot (apart r t) ∙ knows_told one id v at live r t in
          let mine : newest r.slot (now ∷ v.fractions.filled) ≡ Some r = ⊎_elim
          (λ (a : (k ≡ id) × (w ≡ u)). ⊎_elim
          (λ (h : HasRecord w.fractions.owns r). first h.0 r old (ap (λ (l : List ShownValue). get_elem? l h.0) (sym owns) ∙ h.1))
          (λ (h : HasRecord w.fractions.waits r). old (id, v, at, inr (subst (λ (l : List ShownValue). HasRecord l r) waits h)))
          (subst (λ (y : View). Tells y r) (sym a.1) told))
          (λ (a : (k ≢ id) × (get_elem? vs k ≡ some u)). old (k, u, a.1, told)) (at_set vs id k w u e') in
          ⊎_elim
          (λ (a : (j ≡ id) × (w ≡ x)). ap (λ (y : View). newest r.slot y.fractions.filled) (sym a.1) ∙ (ap (newest r.slot) filled ∙ mine))
          (λ (a : (j ≢ id) × (get_elem? vs j ≡ some x)).
          absurd (no_other sizes ws (map epoch_of vs) id j v.epoch x.epoch epochs one (at_map epoch_of vs id v at) live a.0
          (at_map epoch_of vs j x a.1) placed)) (at_set vs id j w x e);
    }
      where
        first : (m : ℕ) (r : ShownValue) → (IsTold vs r → newest r.slot (now ∷ v.fractions.filled) ≡ Some r) → get_elem? (now ∷ v.fractions.owns) m ≡ some r
            → newest r.slot (now ∷ v.fractions.filled) ≡ Some r
        first zero r old e = subst (λ (x : ShownValue). newest x.slot (now ∷ v.fractions.filled) ≡ Some x) (some-injective now r e)
            (newest_now now v.fractions.filled)
        first (suc m) r old e = old (id, v, at, inl (m, e))
