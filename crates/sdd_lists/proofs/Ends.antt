-- The end of a list, and what is put there
use Rattle.std.proofs.Common.{◌≡◌, ◌≢◌, ◌⊎◌, inl, inr, ℕ, ◌≤◌, List, [], ◌∷◌, ◌++◌, length, Bool, true, false, Option, Some, None, refl, sym, ap, ◌∙◌, arith, subst, slice_index_or}
use Rattle.std.specs.Prelude.{if◌then◌else◌}
use Rattle.std.proofs.lemmas.List.{get_or-set_other}
use Rattle.sdd_core.specs.declared.tag.Tag.{Tag}
use Rattle.sdd_core.specs.declared.tag.Tag.TheVariants as tag
use Rattle.sdd_world_model.specs.World.{World, value_at}
use Rattle.sdd_participants.specs.declared.standing.CellContents.{CellContents}
use Rattle.sdd_participants.specs.Slab.{entry_at}
use Rattle.sdd_world_model.specs.WorldChanges.{with_cell}
use Rattle.sdd_lists.specs.Ends.{End, EndsWith, IsAmong, IsLastOf, appended, end_of, is_spent, last_value, put_at, through_last}
use Rattle.sdd_lists.specs.Lists.{Apart, AreLinked, Entry, IsList, first_slot, is_deleted, left, let_go_first, trimmed}
use Rattle.sdd_lists.specs.Queue.{IsSecond}
use Rattle.sdd_lists.proofs.Lists.{apart, behind}
use Rattle.sdd_lists.proofs.PushedLists.{pushed, trim-other, trim-values}

-- what a list begins with, and the rest
abbrev pub first-or : {X : Type 0} → X → List X → X
first-or d [] = d
first-or d (x ∷ xs) = x

abbrev pub rest-of : {X : Type 0} → List X → List X
rest-of [] = []
rest-of (x ∷ xs) = xs

module _ {T : Type 0} where
  spent-by : (e : Entry T) (es : List (Entry T)) → (left es ≡ [] → is_spent es ≡ true) → (b : Bool) → (if b then left es else e ∷ es) ≡ [] →
      (if b then is_spent es else false) ≡ true
  spent-by e es more true none = more none
  spent-by e es more false none = absurd (cc)

  -- where nothing is left, each is deleted
  pub spent-of : (es : List (Entry T)) → left es ≡ [] → is_spent es ≡ true
  spent-of [] none = refl
  spent-of (e ∷ es) none = spent-by e es (spent-of es) (is_deleted e) none

  none-by : (e : Entry T) (es : List (Entry T)) → (is_spent es ≡ true → left es ≡ []) → (b : Bool) → (if b then is_spent es else false) ≡ true →
      (if b then left es else e ∷ es) ≡ []
  none-by e es more true spent = more spent
  none-by e es more false spent = let never : false ≡ true = spent in absurd (cc)

  pub left-none : (es : List (Entry T)) → is_spent es ≡ true → left es ≡ []
  left-none [] spent = refl
  left-none (e ∷ es) spent = none-by e es (left-none es) (is_deleted e) spent

  ends-by : (x : Entry T) (xs : List (Entry T)) (e : Entry T) (rest : List (Entry T)) → (left xs ≡ e ∷ rest → EndsWith xs e rest) → (b : Bool) →
      (if b then left xs else x ∷ xs) ≡ e ∷ rest → EndsWith (x ∷ xs) e rest
  ends-by x xs e rest more true same = inr (more same)
  ends-by x xs e rest more false same = inl same

  -- a list ends with what is left of it
  pub left-ends : (es : List (Entry T)) (e : Entry T) (rest : List (Entry T)) → left es ≡ e ∷ rest → EndsWith es e rest
  left-ends [] e rest same = absurd (cc)
  left-ends (x ∷ xs) e rest same = ends-by x xs e rest (left-ends xs e rest) (is_deleted x) same

  pub ends-behind : (es : List (Entry T)) (e : Entry T) (rest : List (Entry T)) (x : Entry T) (xs : List (Entry T)) → EndsWith es e rest →
      EndsWith rest x xs → EndsWith es x xs
  ends-behind [] e rest x xs at more = absurd at
  ends-behind (y ∷ ys) e rest x xs (inl same) more = let tails : rest ≡ ys = cc in inr (subst (λ (zs : List (Entry T)). EndsWith zs x xs) tails more)
  ends-behind (y ∷ ys) e rest x xs (inr at) more = inr (ends-behind ys e rest x xs at more)

  -- what is behind an entry is shorter
  pub shorter : (es : List (Entry T)) (e : Entry T) (rest : List (Entry T)) → EndsWith es e rest → length (e ∷ rest) ≤ length es
  shorter [] e rest at = absurd at
  shorter (x ∷ xs) e rest (inl same) = let long = ap length same in omega (arith, long)
  shorter (x ∷ xs) e rest (inr at) = omega (arith, shorter xs e rest at)

  pub shorter-left : (es : List (Entry T)) (e : Entry T) (rest : List (Entry T)) → left es ≡ e ∷ rest → length (e ∷ rest) ≤ length es
  shorter-left es e rest same = shorter es e rest (left-ends es e rest same)

  not-by : (xs : List (Entry T)) → is_spent xs ≡ false → (b : Bool) → (if b then is_spent xs else false) ≡ false
  not-by xs kept true = kept
  not-by xs kept false = refl

  -- where one isn't deleted, not each is
  pub not-spent : (es : List (Entry T)) (e : Entry T) (rest : List (Entry T)) → EndsWith es e rest → is_deleted e ≡ false → is_spent es ≡ false
  not-spent [] e rest at stays = absurd at
  not-spent (x ∷ xs) e rest (inl same) stays =
      let heads : x ≡ e = cc in
      let kept : is_deleted x ≡ false = ap is_deleted heads ∙ stays in
      rw kept refl
  not-spent (x ∷ xs) e rest (inr at) stays = not-by xs (not-spent xs e rest at stays) (is_deleted x)

  both-by : (xs : List (Entry T)) (b : Bool) → (if b then is_spent xs else false) ≡ true → (b ≡ true) × (is_spent xs ≡ true)
  both-by xs true spent = (refl, spent)
  both-by xs false spent = let never : false ≡ true = spent in absurd (cc)

  pub both : (x : Entry T) (xs : List (Entry T)) → is_spent (x ∷ xs) ≡ true → (is_deleted x ≡ true) × (is_spent xs ≡ true)
  both x xs spent = both-by xs (is_deleted x) spent

  pub no-last-value : (es : List (Entry T)) → is_spent es ≡ true → last_value es ≡ None
  no-last-value [] spent = refl
  no-last-value (x ∷ xs) spent =
      let all = both x xs spent in
      let gone : is_deleted x ≡ true = all.0 in
      let more : is_spent xs ≡ true = all.1 in
      rw more (rw gone refl)

  last-at : (es : List (Entry T)) (e : Entry T) (rest : List (Entry T)) → EndsWith es e rest → is_deleted e ≡ false → is_spent rest ≡ true →
      last_value es ≡ Some e.value
  last-at [] e rest at stays spent = absurd at
  last-at (x ∷ xs) e rest (inl same) stays spent =
      let heads : x ≡ e = cc in
      let tails : rest ≡ xs = cc in
      let kept : is_deleted x ≡ false = ap is_deleted heads ∙ stays in
      let more : is_spent xs ≡ true = subst (λ (zs : List (Entry T)). is_spent zs ≡ true) tails spent in
      rw more (rw kept (ap (λ (y : Entry T). Some y.value) heads))
  last-at (x ∷ xs) e rest (inr at) stays spent =
      let kept_one : is_spent xs ≡ false = not-spent xs e rest at stays in rw kept_one (last-at xs e rest at stays spent)

  pub last-value : (es : List (Entry T)) (e : Entry T) (rest : List (Entry T)) → IsLastOf es e rest → last_value es ≡ Some e.value
  last-value es e rest last = last-at es e rest last.ends last.stays last.spent

  -- one of these is somewhere
  pub among-ends : (k : ℕ) (es : List (Entry T)) → IsAmong k es → (e : Entry T) × (rest : List (Entry T)) × EndsWith es e rest × (e.slot ≡ k)
  among-ends k [] in_es = absurd in_es
  among-ends k (e ∷ es) (inl here) = (e, es, inl refl, here)
  among-ends k (e ∷ es) (inr there) = let more = among-ends k es there in (more.0, more.1, inr more.2, more.3)

  pub among-last : (k : ℕ) (xs : List (Entry T)) (e : Entry T) → e.slot ≡ k → IsAmong k (xs ++ e ∷ [])
  among-last k [] e here = inl here
  among-last k (x ∷ xs) e here = inr (among-last k xs e here)

module _ {T : Type 0} (link : T → ℕ) where
  pub linked-ends : (w : World T) (es : List (Entry T)) (e : Entry T) (rest : List (Entry T)) → EndsWith es e rest → AreLinked link w es →
      AreLinked link w (e ∷ rest)
  linked-ends w [] e rest at a = absurd at
  linked-ends w (x ∷ xs) e rest (inl same) a = subst (λ (zs : List (Entry T)). AreLinked link w zs) same a
  linked-ends w (x ∷ xs) e rest (inr at) a = linked-ends w xs e rest at a.1

  -- what a second cell holds is nothing, or an entry of the list, or one that is deleted and has nothing behind it
  pub none-or-entry : (w : World T) (held : Option ℕ) (es : List (Entry T)) → AreLinked link w es → IsSecond link w held es →
      (held ≡ None) ⊎ ((e : Entry T) × (rest : List (Entry T)) × AreLinked link w (e ∷ rest) × (held ≡ Some e.slot)
      × (EndsWith es e rest ⊎ (is_deleted e ≡ true)))
  none-or-entry w None es linked second = inl refl
  none-or-entry w (Some k) es linked (inl among) =
      let at = among-ends k es among in
      inr (at.0, at.1, linked-ends w es at.0 at.1 at.2 linked, ap (λ (j : ℕ). Some j) (sym at.3), inl at.2)
  none-or-entry w (Some k) es linked (inr gone) =
      let e : Entry T = record { slot = k; value = gone.value; tag = tag.Second } in
      inr (e, [], (record { there = gone.there; linked = gone.bare; plain = λ same. absurd (cc) }, tt), refl, inr refl)

  -- what is behind an entry is a list that begins in its link
  pub list-ends : (w : World T) (es : List (Entry T)) (e : Entry T) (rest : List (Entry T)) → EndsWith es e rest → AreLinked link w es →
      IsList link w (link e.value) e.tag rest
  list-ends w es e rest at a = let here = linked-ends w es e rest at a in record { begins = here.0.linked; linked = here.1 }

  pub apart-ends : (l : ℕ) (es : List (Entry T)) (e : Entry T) (rest : List (Entry T)) → EndsWith es e rest → Apart link l es → Apart link l (e ∷ rest)
  apart-ends l [] e rest at all = absurd at
  apart-ends l (x ∷ xs) e rest (inl same) all = subst (λ (zs : List (Entry T)). Apart link l zs) same all
  apart-ends l (x ∷ xs) e rest (inr at) all = apart-ends l xs e rest at all.1

  through-by : (l : ℕ) (e : Entry T) (es : List (Entry T)) → link e.value ≢ l → Apart link l (through_last es) → (b : Bool) →
      Apart link l (if b then [] else e ∷ through_last es)
  through-by l e es far more true = tt
  through-by l e es far more false = (far, more)

  pub apart-through : (l : ℕ) (es : List (Entry T)) → Apart link l es → Apart link l (through_last es)
  apart-through l [] all = tt
  apart-through l (e ∷ es) all = through-by l e es all.0 (apart-through l es all.1) (is_spent (e ∷ es))

  pub apart-last : (l : ℕ) (xs : List (Entry T)) (e : Entry T) → Apart link l xs → link e.value ≢ l → Apart link l (xs ++ e ∷ [])
  apart-last l [] e all far = (far, tt)
  apart-last l (x ∷ xs) e all far = (all.0, apart-last l xs e all.1 far)

  -- where the end is
  pub end-spent : (c : ℕ) (t : Tag) (es : List (Entry T)) → is_spent es ≡ true → end_of link c t es ≡ record { cell = c; tag = t; behind = es }
  end-spent c t [] spent = refl
  end-spent c t (e ∷ es) spent = rw spent refl

  end-at : (c : ℕ) (t : Tag) (es : List (Entry T)) (e : Entry T) (rest : List (Entry T)) → EndsWith es e rest → is_deleted e ≡ false →
      is_spent rest ≡ true → end_of link c t es ≡ record { cell = link e.value; tag = e.tag; behind = rest }
  end-at c t [] e rest at stays spent = absurd at
  end-at c t (x ∷ xs) e rest (inl same) stays spent =
      let heads : x ≡ e = cc in
      let tails : rest ≡ xs = cc in
      let kept_one : is_spent (x ∷ xs) ≡ false = not-spent (x ∷ xs) e rest (inl same) stays in
      let more : is_spent xs ≡ true = subst (λ (zs : List (Entry T)). is_spent zs ≡ true) tails spent in
      let here : end_of link (link x.value) x.tag xs ≡ record { cell = link e.value; tag = e.tag; behind = rest } =
      end-spent (link x.value) x.tag xs more
      ∙ ap (λ (y : Entry T). record { cell = link y.value; tag = y.tag; behind = xs }) heads
      ∙ ap (λ (zs : List (Entry T)). record { cell = link e.value; tag = e.tag; behind = zs }) (sym tails) in
      rw kept_one here
  end-at c t (x ∷ xs) e rest (inr at) stays spent =
      let kept_one : is_spent (x ∷ xs) ≡ false = not-spent (x ∷ xs) e rest (inr at) stays in
      rw kept_one (end-at (link x.value) x.tag xs e rest at stays spent)

  pub end-last : (c : ℕ) (t : Tag) (es : List (Entry T)) (e : Entry T) (rest : List (Entry T)) → IsLastOf es e rest →
      end_of link c t es ≡ record { cell = link e.value; tag = e.tag; behind = rest }
  end-last c t es e rest last = end-at c t es e rest last.ends last.stays last.spent

  -- what is left of a list that was trimmed
  trimmed-by : (w u : World T) (c : ℕ) (t : Tag) (e : Entry T) (es : List (Entry T)) → IsList link u c t (left es) → IsList link w c t (e ∷ es) →
      (b : Bool) → IsList link (if b then u else w) c t (if b then left es else e ∷ es)
  trimmed-by w u c t e es gone list true = gone
  trimmed-by w u c t e es gone list false = list

  pub trimmed-list : (w : World T) (p c : ℕ) (t : Tag) (es : List (Entry T)) → IsList link w c t es → IsList link (trimmed link w p c t es) c t (left es)
  trimmed-list w p c t [] list = list
  trimmed-list w p c t (e ∷ es) list =
      let u : World T = let_go_first w p c t e.slot (link e.value) (first_slot es) in
      trimmed-by w (trimmed link u p c t es) c t e es (trimmed-list u p c t es (behind link w p c t e es list)) list (is_deleted e)

  pub put-values : (w : World T) (p : ℕ) (at : End T) (l k : ℕ) → (put_at link w p at l k).values ≡ w.values
  put-values w p at l k = trim-values link w p at.cell at.tag at.behind

  put-other : (w : World T) (p c : ℕ) (t : Tag) (es : List (Entry T)) (l k x : ℕ) → x ≢ c → Apart link x es → x ≢ l →
      entry_at (put_at link w p (record { cell = c; tag = t; behind = es }) l k).cells x ≡ entry_at w.cells x
  put-other w p c t es l k x other all far =
      let u : World T = trimmed link w p c t es in
      let v : World T = with_cell u l (record { held = None; tag = tag.None }) in
      get_or-set_other v.cells c x (Some (record { held = Some k; tag = t })) None other
      ∙ get_or-set_other u.cells l x (Some (record { held = None; tag = tag.None })) None far
      ∙ trim-other link w p c t es x other all

  other-by : (w : World T) (p : ℕ) (near behind : End T) (l k x : ℕ) → entry_at (put_at link w p near l k).cells x ≡ entry_at w.cells x →
      entry_at (put_at link w p behind l k).cells x ≡ entry_at w.cells x → (b : Bool) →
      entry_at (put_at link w p (if b then near else behind) l k).cells x ≡ entry_at w.cells x
  other-by w p near behind l k x here there true = here
  other-by w p near behind l k x here there false = there

  -- a cell apart stays as it is where something is put at the end
  pub appended-other : (w : World T) (p c : ℕ) (t : Tag) (es : List (Entry T)) (l k x : ℕ) → x ≢ c → Apart link x es → x ≢ l →
      entry_at (appended link w p c t es l k).cells x ≡ entry_at w.cells x
  appended-other w p c t [] l k x other all far = put-other w p c t [] l k x other all far
  appended-other w p c t (e ∷ es) l k x other all far =
      other-by w p (record { cell = c; tag = t; behind = e ∷ es }) (end_of link (link e.value) e.tag es) l k x
      (put-other w p c t (e ∷ es) l k x other all far)
      (appended-other w p (link e.value) e.tag es l k x (λ same. all.0 (sym same)) all.1 far) (is_spent (e ∷ es))

  module _ (p k : ℕ) (v : T) where
    abbrev new : Entry T
    new = record { slot = k; value = v; tag = tag.None }

    abbrev IsClear : World T → ℕ → List (Entry T) → Type 0
    IsClear w c es =
        (value_at w k ≡ Some v) × (entry_at w.cells (link v) ≡ Some (record { held = None; tag = tag.None })) × (c ≢ link v) × Apart link (link v) es

    list-here : (w : World T) (c : ℕ) (t : Tag) (es : List (Entry T)) → IsList link w c t es → IsClear w c es → is_spent es ≡ true →
        IsList link (put_at link w p (record { cell = c; tag = t; behind = es }) (link v) k) c t (new ∷ [])
    list-here w c t es list clear spent =
        let u : World T = trimmed link w p c t es in
        let bare : IsList link u c t [] = subst (λ (xs : List (Entry T)). IsList link u c t xs) (left-none es spent) (trimmed-list w p c t es list) in
        pushed link u c t [] k v bare (ap (λ (vs : List (Option T)). slice_index_or vs k None) (trim-values link w p c t es) ∙ clear.0)
        (trim-other link w p c t es (link v) (λ same. clear.2 (sym same)) clear.3 ∙ clear.1) clear.2 tt

    list-behind : (w u : World T) (c : ℕ) (t : Tag) (e : Entry T) (es : List (Entry T)) → IsList link w c t (e ∷ es) → u.values ≡ w.values →
        entry_at u.cells c ≡ entry_at w.cells c → IsList link u (link e.value) e.tag (through_last es ++ new ∷ []) →
        IsList link u c t (e ∷ through_last es ++ new ∷ [])
    list-behind w u c t e es list values still more = record {
      begins = still ∙ list.begins;
      linked = (
        record {
          there = ap (λ (vs : List (Option T)). slice_index_or vs e.slot None) values ∙ list.linked.0.there;
          linked = more.begins;
          plain = list.linked.0.plain;
        },
        more.linked,
      );
    }

    list-by : (w : World T) (c : ℕ) (t : Tag) (e : Entry T) (es : List (Entry T)) →
        (is_spent (e ∷ es) ≡ true → IsList link (put_at link w p (record { cell = c; tag = t; behind = e ∷ es }) (link v) k) c t (new ∷ [])) →
        IsList link (appended link w p (link e.value) e.tag es (link v) k) c t (e ∷ through_last es ++ new ∷ []) → (b : Bool) → is_spent (e ∷ es) ≡ b →
        IsList link (put_at link w p (if b then record { cell = c; tag = t; behind = e ∷ es } else end_of link (link e.value) e.tag es) (link v) k) c t
        ((if b then [] else e ∷ through_last es) ++ new ∷ [])
    list-by w c t e es here there true is = here is
    list-by w c t e es here there false is = there

    -- what was put at the end of a list is its last entry
    pub appended-list : (w : World T) (c : ℕ) (t : Tag) (es : List (Entry T)) → IsList link w c t es → IsClear w c es →
        IsList link (appended link w p c t es (link v) k) c t (through_last es ++ new ∷ [])
    appended-list w c t [] list clear = list-here w c t [] list clear refl
    appended-list w c t (e ∷ es) list clear =
        let first : CellContents = record { held = Some e.slot; tag = t } in
        let ring = apart link w c first (e ∷ es) (e ∷ es) list.begins refl list.linked list.linked (omega arith) in
        let inner : IsList link w (link e.value) e.tag es = record { begins = list.linked.0.linked; linked = list.linked.1 } in
        let more = appended-list w (link e.value) e.tag es inner (clear.0, clear.1, clear.3.0, clear.3.1) in
        let u : World T = appended link w p (link e.value) e.tag es (link v) k in
        let still = appended-other w p (link e.value) e.tag es (link v) k c (λ same. ring.0 (sym same)) ring.1 clear.2 in
        list-by w c t e es (λ spent. list-here w c t (e ∷ es) list clear spent)
        (list-behind w u c t e es list (put-values w p (end_of link (link e.value) e.tag es) (link v) k) still more) (is_spent (e ∷ es)) refl
