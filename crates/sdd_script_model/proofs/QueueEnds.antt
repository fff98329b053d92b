-- What is kept where an entry is put at the end of a list, and what is there let go of
use Rattle.sdd_script_model.proofs.Words.{◌≡◌, ◌≢◌, ◌⊎◌, ◌+◌, inl, inr, ℕ, List, [], ◌∷◌, ◌++◌, Bool, true, false, Option, Some, None, is_some, slice_index_or, refl, sym, ap, ◌∙◌, subst, arith, if◌then◌else◌, Tag, Second, Entries, entry_at, CellContents, Claim, owner_of, one, changes_cell, World, IsPlaceOf, standing_at, value_at, held_in, with_cell, End, IsAmong, appended, end_of, is_spent, through_last, Apart, AreLinked, Entry, IsList, first_slot, let_go_first, trimmed, trimmed-list, bare, behind, apart-first, trim-other, trim-values, AreNumbers, IsNumber, ScriptState, Val, body_of, link_of, put_at, apart-ends, both, left-none, apart}
use Rattle.sdd_script_model.proofs.Lemmas.{at-other, at-same, null, among-link, IsReserved, reserved-was, inside}
use Rattle.sdd_script_model.proofs.StackChains.{IsBetween, between-as, front-goes, goes-on, link-off}

-- ---- which entries stay

through-by : (s : ℕ) (e : Entry Val) (es : List (Entry Val)) → (IsAmong s (through_last es) → IsAmong s es) → (b : Bool) →
    IsAmong s (if b then [] else e ∷ through_last es) → IsAmong s (e ∷ es)
through-by s e es more true never = absurd never
through-by s e es more false (inl here) = inl here
through-by s e es more false (inr there) = inr (more there)

pub among-through : (s : ℕ) (es : List (Entry Val)) → IsAmong s (through_last es) → IsAmong s es
among-through s [] never = never
among-through s (e ∷ es) among = through-by s e es (among-through s es) (is_spent (e ∷ es)) among

pub among-either : (s : ℕ) (xs : List (Entry Val)) (e : Entry Val) → IsAmong s (xs ++ e ∷ []) → IsAmong s xs ⊎ (e.slot ≡ s)
among-either s [] e (inl here) = inr here
among-either s [] e (inr never) = absurd never
among-either s (x ∷ xs) e (inl here) = inl (inl here)
among-either s (x ∷ xs) e (inr there) = elim (among-either s xs e there) [ inl among ↦ inl (inr among) | inr last ↦ inr last ]

pub among-before : (s : ℕ) (xs : List (Entry Val)) (e : Entry Val) → IsAmong s xs → IsAmong s (xs ++ e ∷ [])
among-before s [] e never = absurd never
among-before s (x ∷ xs) e (inl here) = inl here
among-before s (x ∷ xs) e (inr there) = inr (among-before s xs e there)

numbers-by : (e : Entry Val) (es : List (Entry Val)) → IsNumber (body_of e.value) → AreNumbers (through_last es) → (b : Bool) →
    AreNumbers (if b then [] else e ∷ through_last es)
numbers-by e es number more true = tt
numbers-by e es number more false = (number, more)

pub numbers-through : (es : List (Entry Val)) → AreNumbers es → AreNumbers (through_last es)
numbers-through [] all = tt
numbers-through (e ∷ es) all = numbers-by e es all.0 (numbers-through es all.1) (is_spent (e ∷ es))

pub numbers-last : (xs : List (Entry Val)) (e : Entry Val) → AreNumbers xs → IsNumber (body_of e.value) → AreNumbers (xs ++ e ∷ [])
numbers-last [] e all number = (number, tt)
numbers-last (x ∷ xs) e all number = (all.0, numbers-last xs e all.1 number)

-- a cell that is no entry's link is not that of one of them
pub off-among : (w : World Val) (c : ℕ) (es : List (Entry Val)) → Apart link_of c es → AreLinked link_of w es → (s : ℕ) (z : Val) → IsAmong s es →
    value_at w s ≡ Some z → link_of z ≢ c
off-among w c es all linked s z among at same =
    let found = among-link w s z es linked among at in
    (apart-ends link_of c es found.0 found.1 found.2 all).0 (ap link_of found.4 ∙ same)

-- the cell of a list is the link of none of its entries
pub off-own : (w : World Val) (c : ℕ) (t : Tag) (es : List (Entry Val)) → IsList link_of w c t es → Apart link_of c es
off-own w c t es list = apart link_of w c (record { held = first_slot es; tag = t }) es es list.begins refl list.linked list.linked (omega arith)

module _ (p k : ℕ) (x : Val) where
  -- ---- what is let go of there holds nothing

  dropped-front : (w : World Val) (c : ℕ) (t : Tag) (es : List (Entry Val)) → IsList link_of w c t es → is_spent es ≡ true → (s : ℕ) (z : Val) → IsAmong s es →
      value_at w s ≡ Some z → held_in (entry_at (trimmed link_of w p c t es).cells (link_of z)) ≡ None
  dropped-front w c t [] list spent s z never at = absurd never
  dropped-front w c t (e ∷ es) list spent s z among at =
      let u : World Val = let_go_first w p c t e.slot (link_of e.value) (first_slot es) in
      let gone : CellContents = record { held = None; tag = Second } in
      let next : CellContents = record { held = first_slot es; tag = t } in
      let same = bare (with_cell (with_cell w (link_of e.value) gone) c next) p e.slot (standing_at w e.slot) in
      let far : link_of e.value ≢ c = λ is. apart-first link_of w p c t e es list (sym is) in
      let off : Apart link_of (link_of e.value) es =
      off-own w (link_of e.value) e.tag es (record { begins = list.linked.0.linked; linked = list.linked.1 }) in
      let here : e.slot ≡ s → held_in (entry_at (trimmed link_of u p c t es).cells (link_of z)) ≡ None =
      λ slot.
      (let values : Some e.value ≡ Some z = sym list.linked.0.there ∙ ap (λ (i : ℕ). value_at w i) slot ∙ at in
      let value : e.value ≡ z = cc in
      ap (λ (i : ℕ). held_in (entry_at (trimmed link_of u p c t es).cells i)) (sym (ap link_of value))
      ∙ ap held_in (trim-other link_of u p c t es (link_of e.value) far off)
      ∙ ap (λ (cs : Entries CellContents). held_in (entry_at cs (link_of e.value))) same.cells
      ∙ ap held_in (at-other (with_cell w (link_of e.value) gone).cells c (link_of e.value) (Some next) None far)
      ∙ ap held_in (at-same w.cells (link_of e.value) (Some gone) None (inside w.cells (link_of e.value) (ap is_some list.linked.0.linked)))) in
      let more : IsAmong s es → held_in (entry_at (trimmed link_of u p c t es).cells (link_of z)) ≡ None =
      λ there.
      dropped-front u c t es (behind link_of w p c t e es list) (both e es spent).1 s z there
      (ap (λ (vs : List (Option Val)). slice_index_or vs s None) same.values ∙ at) in
      let either : held_in (entry_at (trimmed link_of u p c t es).cells (link_of z)) ≡ None = elim among [ inl slot ↦ here slot | inr there ↦ more there ] in
      rw (both e es spent).0 either

  dropped-here : (w : World Val) (c : ℕ) (t : Tag) (es : List (Entry Val)) → IsList link_of w c t es → is_spent es ≡ true → Apart link_of (link_of x) es →
      (s : ℕ) (z : Val) → IsAmong s es → value_at w s ≡ Some z →
      held_in (entry_at (put_at link_of w p (record { cell = c; tag = t; behind = es }) (link_of x) k).cells (link_of z)) ≡ None
  dropped-here w c t es list spent apart_x s z among at =
      let u : World Val = trimmed link_of w p c t es in
      ap held_in (at-other (with_cell u (link_of x) null).cells c (link_of z) (Some (record { held = Some k; tag = t })) None
      (off-among w c es (off-own w c t es list) list.linked s z among at))
      ∙ ap held_in (at-other u.cells (link_of x) (link_of z) (Some null) None (off-among w (link_of x) es apart_x list.linked s z among at))
      ∙ dropped-front w c t es list spent s z among at

  -- an entry stays, or its link holds nothing
  abbrev StaysOrBare : World Val → End Val → List (Entry Val) → (s : ℕ) → Val → Type 0
  StaysOrBare w at kept s z = IsAmong s kept ⊎ (held_in (entry_at (put_at link_of w p at (link_of x) k).cells (link_of z)) ≡ None)

  dropped-by : (w : World Val) (c : ℕ) (t : Tag) (e : Entry Val) (es : List (Entry Val)) (s : ℕ) (z : Val) → IsAmong s (e ∷ es) →
      (is_spent (e ∷ es) ≡ true →
      held_in (entry_at (put_at link_of w p (record { cell = c; tag = t; behind = e ∷ es }) (link_of x) k).cells (link_of z)) ≡ None) →
      (IsAmong s es → StaysOrBare w (end_of link_of (link_of e.value) e.tag es) (through_last es) s z) → (b : Bool) → is_spent (e ∷ es) ≡ b →
      StaysOrBare w (if b then record { cell = c; tag = t; behind = e ∷ es } else end_of link_of (link_of e.value) e.tag es)
      (if b then [] else e ∷ through_last es) s z
  dropped-by w c t e es s z among here there true spent = inr (here spent)
  dropped-by w c t e es s z (inl slot) here there false spent = inl (inl slot)
  dropped-by w c t e es s z (inr among) here there false spent = elim (there among) [ inl stays ↦ inl (inr stays) | inr none ↦ inr none ]

  pub dropped : (w : World Val) (c : ℕ) (t : Tag) (es : List (Entry Val)) → IsList link_of w c t es → Apart link_of (link_of x) es → (s : ℕ) (z : Val) →
      IsAmong s es → value_at w s ≡ Some z → StaysOrBare w (end_of link_of c t es) (through_last es) s z
  dropped w c t [] list apart_x s z never at = absurd never
  dropped w c t (e ∷ es) list apart_x s z among at =
      dropped-by w c t e es s z among (λ spent. dropped-here w c t (e ∷ es) list spent apart_x s z among at)
      (λ there. dropped w (link_of e.value) e.tag es (record { begins = list.linked.0.linked; linked = list.linked.1 }) apart_x.1 s z there at)
      (is_spent (e ∷ es)) refl

  -- ---- the item is put there, of which one owner is in hand

  module _ {d : ScriptState} (live : IsPlaceOf d.world p) (rest : Claim → ℕ) where
    put-here : (w : World Val) → IsBetween d w (λ u. rest u + one (owner_of k) u) → (c : ℕ) (t : Tag) → (IsReserved d w c → ⊥) →
        (IsReserved d w (link_of x) → ⊥) → (es : List (Entry Val)) → IsList link_of w c t es → is_spent es ≡ true → entry_at w.cells (link_of x) ≡ Some null →
        c ≢ link_of x → Apart link_of (link_of x) es →
        IsBetween d (put_at link_of w p (record { cell = c; tag = t; behind = es }) (link_of x) k) rest
    put-here w b c t off off_x es list spent clear far apart_x =
        let u : World Val = trimmed link_of w p c t es in
        let bare_list : IsList link_of u c t [] =
        subst (λ (xs : List (Entry Val)). IsList link_of u c t xs) (left-none es spent) (trimmed-list link_of w p c t es list) in
        let clear_still : entry_at u.cells (link_of x) ≡ Some null = trim-other link_of w p c t es (link_of x) (λ same. far (sym same)) apart_x ∙ clear in
        let v : World Val = with_cell u (link_of x) null in
        let begins : entry_at v.cells c ≡ Some (record { held = None; tag = t }) =
        at-other u.cells (link_of x) c (Some null) None far ∙ bare_list.begins in
        let still : (i : ℕ) → (IsReserved d w i → ⊥) → IsReserved d u i → ⊥ =
        λ i far y. far (reserved-was d w u i (trim-values link_of w p c t es) y) in
        let linked = goes-on (front-goes w b p c t off live es list) (changes_cell u (link_of x) null null clear_still) tt (still (link_of x) off_x)
        (λ u. rest u + one (owner_of k) u) (λ u. omega arith) in
        between-as
        (goes-on linked (changes_cell v c (record { held = None; tag = t }) (record { held = Some k; tag = t }) begins) tt
        (λ r. still c off (reserved-was d u v c refl r)) rest (λ u. omega arith))
        (λ u. omega arith)

    put-by : (w : World Val) (c : ℕ) (t : Tag) (e : Entry Val) (es : List (Entry Val)) →
        (is_spent (e ∷ es) ≡ true → IsBetween d (put_at link_of w p (record { cell = c; tag = t; behind = e ∷ es }) (link_of x) k) rest) →
        IsBetween d (put_at link_of w p (end_of link_of (link_of e.value) e.tag es) (link_of x) k) rest → (b : Bool) → is_spent (e ∷ es) ≡ b →
        IsBetween d (put_at link_of w p (if b then record { cell = c; tag = t; behind = e ∷ es } else end_of link_of (link_of e.value) e.tag es)
        (link_of x) k) rest
    put-by w c t e es here there true spent = here spent
    put-by w c t e es here there false spent = there

    pub put-last : (w : World Val) → IsBetween d w (λ u. rest u + one (owner_of k) u) → (c : ℕ) (t : Tag) → (IsReserved d w c → ⊥) →
        (IsReserved d w (link_of x) → ⊥) → (es : List (Entry Val)) → IsList link_of w c t es → entry_at w.cells (link_of x) ≡ Some null → c ≢ link_of x →
        Apart link_of (link_of x) es → IsBetween d (appended link_of w p c t es (link_of x) k) rest
    put-last w b c t off off_x [] list clear far apart_x = put-here w b c t off off_x [] list refl clear far apart_x
    put-last w b c t off off_x (e ∷ es) list clear far apart_x =
        put-by w c t e es (λ spent. put-here w b c t off off_x (e ∷ es) list spent clear far apart_x)
        (put-last w b (link_of e.value) e.tag (link-off b p c t off live e es list) off_x es
        (record { begins = list.linked.0.linked; linked = list.linked.1 }) clear apart_x.0 apart_x.1)
        (is_spent (e ∷ es)) refl
