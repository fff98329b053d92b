-- What a list has let go of stays let go of
use Rattle.std.proofs.Common.{◌≡◌, ◌≢◌, ◌⊎◌, inl, inr, ℕ, List, [], ◌∷◌, Bool, true, false, Option, Some, None, refl, ap, ◌∙◌, sym, slice_index_or, subst}
use Rattle.std.specs.Prelude.{if◌then◌else◌}
use Rattle.std.proofs.lemmas.List.{get_or-set_same, get_or-set_other}
use Rattle.sdd_core.specs.declared.tag.Tag.{Tag}
use Rattle.sdd_core.specs.declared.tag.Tag.TheVariants as tag
use Rattle.sdd_world_model.specs.World.{World, standing_at, value_at}
use Rattle.sdd_world_model.specs.WorldChanges.{held_in, with_cell}
use Rattle.sdd_participants.specs.Slab.{Entries, entry_at}
use Rattle.sdd_participants.specs.declared.standing.CellContents.{CellContents}
use Rattle.sdd_participants.proofs.Adoptions.{same-or-not}
use Rattle.sdd_lists.specs.Ends.{End, IsAmong, appended, end_of, is_spent, put_at}
use Rattle.sdd_lists.specs.Lists.{Apart, Entry, IsList, first_slot, is_deleted, is_deleting, left, let_go_first, trimmed}
use Rattle.sdd_lists.specs.Queue.{IsLetGo, IsSecond}
use Rattle.sdd_lists.proofs.Ends.{trimmed-list}
use Rattle.sdd_lists.proofs.FirstEntries.{tag_in}
use Rattle.sdd_lists.proofs.Lists.{bare, behind, inside}
use Rattle.sdd_lists.proofs.PoppedLists.{apart-first}
use Rattle.sdd_lists.proofs.PushedLists.{trim-other}

-- what the link of an entry holds that was let go of
abbrev pub gone : CellContents
gone = record { held = None; tag = tag.Second }

-- what a cell holds that isn't deleting, or that holds something, or a free cell, is other
pub other-tag : (x : Option CellContents) (y : CellContents) → x ≡ Some y → y.tag ≢ tag.Second → x ≢ Some gone
other-tag x y there other is = other (ap tag_in (sym there ∙ is))

other-held : (x : Option CellContents) (k : ℕ) (t : Tag) → x ≡ Some (record { held = Some k; tag = t }) → x ≢ Some gone
other-held x k t there is = absurd (let never : Some k ≡ None = ap held_in (sym there ∙ is) in cc)

pub other-free : (x : Option CellContents) → x ≡ None → x ≢ Some gone
other-free x none is = absurd (let never : None ≡ Some gone = sym none ∙ is in cc)

module _ {T : Type 0} where
  -- each value is there still, and so is what is let go of
  pub record KeepsGone (w u : World T) : Type 0 where
    pub values : (k : ℕ) (v : T) → value_at w k ≡ Some v → value_at u k ≡ Some v
    pub cells : (l : ℕ) → entry_at w.cells l ≡ Some gone → entry_at u.cells l ≡ Some gone

  pub gone-same : (w u : World T) → u.cells ≡ w.cells → u.values ≡ w.values → KeepsGone w u
  gone-same w u cells values = record {
    values = λ k v there. ap (λ (vs : List (Option T)). slice_index_or vs k None) values ∙ there;
    cells = λ l is. ap (λ (cs : Entries CellContents). entry_at cs l) cells ∙ is;
  }

  pub gone-then : (u v w : World T) → KeepsGone u v → KeepsGone v w → KeepsGone u w
  gone-then u v w first second = record {
    values = λ k x there. second.values k x (first.values k x there);
    cells = λ l is. second.cells l (first.cells l is);
  }

  -- a cell is written that is no such link
  pub gone-written : (w : World T) (c : ℕ) (x : CellContents) → entry_at w.cells c ≢ Some gone → KeepsGone w (with_cell w c x)
  gone-written w c x other = record {
    values = λ k v there. there;
    cells = λ l is.
        get_or-set_other w.cells c l (Some x) None (λ same. other (ap (λ (j : ℕ). entry_at w.cells j) (sym same) ∙ is)) ∙ is;
  }

  -- or becomes one
  pub gone-more : (w : World T) (c : ℕ) (was : CellContents) → entry_at w.cells c ≡ Some was → KeepsGone w (with_cell w c gone)
  gone-more w c was there = record {
    values = λ k v at. at;
    cells = λ l is. elim (same-or-not l c) [
      | inl same ↦
          ap (λ (j : ℕ). entry_at (with_cell w c gone).cells j) same ∙ get_or-set_same w.cells c (Some gone) None (inside w.cells c was there)
      | inr far ↦ get_or-set_other w.cells c l (Some gone) None far ∙ is
    ];
  }

  -- an entry is let go of, and whatever was let go of before stays so
  pub gone-go : (w : World T) (p c k l : ℕ) (t : Tag) (next : Option ℕ) (was : CellContents) → c ≢ l → entry_at w.cells l ≡ Some was →
      entry_at w.cells c ≡ Some (record { held = Some k; tag = t }) → KeepsGone w (let_go_first w p c t k l next)
  gone-go w p c k l t next was far there begins =
      let u : World T = with_cell w l gone in
      let v : World T = with_cell u c (record { held = next; tag = t }) in
      let out = bare v p k (standing_at w k) in
      let still : entry_at u.cells c ≡ Some (record { held = Some k; tag = t }) = get_or-set_other w.cells l c (Some gone) None far ∙ begins in
      gone-then w u (let_go_first w p c t k l next) (gone-more w l was there)
      (gone-then u v (let_go_first w p c t k l next)
      (gone-written u c (record { held = next; tag = t }) (other-held (entry_at u.cells c) k t still))
      (gone-same v (let_go_first w p c t k l next) out.cells out.values))

  pub gone-by : (w u : World T) → KeepsGone w u → (b : Bool) → KeepsGone w (if b then u else w)
  gone-by w u kept true = kept
  gone-by w u kept false = gone-same w w refl refl

  module _ (link : T → ℕ) where
    pub let-go-kept : (w u : World T) (k : ℕ) → KeepsGone w u → IsLetGo link w k → IsLetGo link u k
    let-go-kept w u k keeps was = record {
      value = was.value;
      there = keeps.values k was.value was.there;
      bare = keeps.cells (link was.value) was.bare;
    }

    -- what a second cell holds stays one of these, or let go of
    pub second-kept : (w u : World T) (held : Option ℕ) (es fs : List (Entry T)) → KeepsGone w u →
        ((k : ℕ) → IsAmong k es → IsAmong k fs ⊎ IsLetGo link u k) → IsSecond link w held es → IsSecond link u held fs
    second-kept w u None es fs keeps still among = tt
    second-kept w u (Some k) es fs keeps still (inl among) = still k among
    second-kept w u (Some k) es fs keeps still (inr was) = inr (let-go-kept w u k keeps was)

    pub gone-first : (w : World T) (p c : ℕ) (t : Tag) (e : Entry T) (es : List (Entry T)) → IsList link w c t (e ∷ es) →
        KeepsGone w (let_go_first w p c t e.slot (link e.value) (first_slot es))
    gone-first w p c t e es list =
        gone-go w p c e.slot (link e.value) t (first_slot es) (record { held = first_slot es; tag = e.tag }) (apart-first link w p c t e es list)
        list.linked.0.linked list.begins

    first-gone : (w : World T) (p c : ℕ) (t : Tag) (e : Entry T) (es : List (Entry T)) → IsList link w c t (e ∷ es) →
        IsLetGo link (let_go_first w p c t e.slot (link e.value) (first_slot es)) e.slot
    first-gone w p c t e es list =
        let l : ℕ = link e.value in
        let u : World T = with_cell w l gone in
        let v : World T = with_cell u c (record { held = first_slot es; tag = t }) in
        let out = bare v p e.slot (standing_at w e.slot) in
        let was : CellContents = record { held = first_slot es; tag = e.tag } in
        record {
          value = e.value;
          there = ap (λ (vs : List (Option T)). slice_index_or vs e.slot None) out.values ∙ list.linked.0.there;
          bare =
              ap (λ (cs : Entries CellContents). entry_at cs l) out.cells
              ∙ get_or-set_other u.cells c l (Some (record { held = first_slot es; tag = t })) None (λ same. apart-first link w p c t e es list (sym same))
              ∙ get_or-set_same w.cells l (Some gone) None (inside w.cells l was list.linked.0.linked);
        }

    pub gone-trimmed : (w : World T) (p c : ℕ) (t : Tag) (es : List (Entry T)) → IsList link w c t es → KeepsGone w (trimmed link w p c t es)
    gone-trimmed w p c t [] list = gone-same w w refl refl
    gone-trimmed w p c t (e ∷ es) list =
        let u : World T = let_go_first w p c t e.slot (link e.value) (first_slot es) in
        gone-by w (trimmed link u p c t es)
        (gone-then w u (trimmed link u p c t es) (gone-first w p c t e es list) (gone-trimmed u p c t es (behind link w p c t e es list))) (is_deleted e)

    either-by : (w u : World T) (k : ℕ) (e : Entry T) (es : List (Entry T)) → IsAmong k (e ∷ es) → IsAmong k (left es) ⊎ IsLetGo link u k → (b : Bool) →
        IsAmong k (if b then left es else e ∷ es) ⊎ IsLetGo link (if b then u else w) k
    either-by w u k e es among more true = more
    either-by w u k e es among more false = inl among

    -- an entry is still there, or let go of
    pub trimmed-or : (w : World T) (p c : ℕ) (t : Tag) (es : List (Entry T)) → IsList link w c t es → (k : ℕ) → IsAmong k es →
        IsAmong k (left es) ⊎ IsLetGo link (trimmed link w p c t es) k
    trimmed-or w p c t [] list k among = absurd among
    trimmed-or w p c t (e ∷ es) list k among =
        let u : World T = let_go_first w p c t e.slot (link e.value) (first_slot es) in
        let tail = behind link w p c t e es list in
        either-by w (trimmed link u p c t es) k e es among
        (elim among [
          | inl here ↦
              inr (let-go-kept u (trimmed link u p c t es) k (gone-trimmed u p c t es tail)
              (subst (λ (j : ℕ). IsLetGo link u j) here (first-gone w p c t e es list)))
          | inr there ↦ trimmed-or u p c t es tail k there
        ]) (is_deleted e)

    -- an entry, whose link is clear, is put at the end
    abbrev clear : CellContents
    clear = record { held = None; tag = tag.None }

    gone-put : (w : World T) (p c : ℕ) (t : Tag) (es : List (Entry T)) (l k : ℕ) → t ≢ tag.Second → IsList link w c t es →
        entry_at w.cells l ≡ Some clear → c ≢ l → Apart link l es → KeepsGone w (put_at link w p (record { cell = c; tag = t; behind = es }) l k)
    gone-put w p c t es l k stays list free far all =
        let u : World T = trimmed link w p c t es in
        let v : World T = with_cell u l clear in
        let now : World T = put_at link w p (record { cell = c; tag = t; behind = es }) l k in
        let held : CellContents = record { held = first_slot (left es); tag = t } in
        let still : entry_at u.cells l ≡ Some clear = trim-other link w p c t es l (λ same. far (sym same)) all ∙ free in
        let begins : entry_at v.cells c ≡ Some held = get_or-set_other u.cells l c (Some clear) None far ∙ (trimmed-list link w p c t es list).begins in
        gone-then w u now (gone-trimmed w p c t es list)
        (gone-then u v now (gone-written u l clear (other-tag (entry_at u.cells l) clear still (λ same. absurd (cc))))
        (gone-written v c (record { held = Some k; tag = t }) (other-tag (entry_at v.cells c) held begins stays)))

    put-by : (w : World T) (p : ℕ) (near far : End T) (l k : ℕ) (b : Bool) → (b ≡ true → KeepsGone w (put_at link w p near l k)) →
        (b ≡ false → KeepsGone w (put_at link w p far l k)) → KeepsGone w (put_at link w p (if b then near else far) l k)
    put-by w p near far l k true here there = here refl
    put-by w p near far l k false here there = there refl

    stays-by : (t : Tag) (es : List (Entry T)) (b : Bool) → is_deleting t ≡ b → (if b then is_spent es else false) ≡ false →
        (t ≢ tag.Second) ⊎ (is_spent es ≡ false)
    stays-by t es true is kept = inr kept
    stays-by t es false is kept = inl (λ same. absurd (let never : true ≡ false = ap is_deleting (sym same) ∙ is in cc))

    pub gone-appended : (w : World T) (p c : ℕ) (t : Tag) (es : List (Entry T)) (l k : ℕ) → (t ≢ tag.Second) ⊎ (is_spent es ≡ false) →
        IsList link w c t es → entry_at w.cells l ≡ Some clear → c ≢ l → Apart link l es → KeepsGone w (appended link w p c t es l k)
    gone-appended w p c t [] l k (inl stays) list free far all = gone-put w p c t [] l k stays list free far all
    gone-appended w p c t [] l k (inr never) list free far all = absurd (let wrong : true ≡ false = never in cc)
    gone-appended w p c t (e ∷ es) l k stays list free far all =
        let inner : IsList link w (link e.value) e.tag es = record { begins = list.linked.0.linked; linked = list.linked.1 } in
        put-by w p (record { cell = c; tag = t; behind = e ∷ es }) (end_of link (link e.value) e.tag es) l k (is_spent (e ∷ es))
        (λ spent. gone-put w p c t (e ∷ es) l k (elim stays [
          | inl plain ↦ plain
          | inr kept ↦ absurd (let never : true ≡ false = sym spent ∙ kept in cc)
        ]) list free far all)
        (λ kept. gone-appended w p (link e.value) e.tag es l k (stays-by e.tag es (is_deleted e) refl kept) inner free all.0 all.1)
