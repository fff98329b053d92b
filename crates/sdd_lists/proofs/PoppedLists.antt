-- What a pop makes of a list
use Rattle.std.proofs.Common.{◌≡◌, ◌≢◌, ℕ, List, [], ◌∷◌, Bool, true, false, Some, None, refl, sym, ap, ◌∙◌, arith}
use Rattle.std.specs.Prelude.{if◌then◌else◌}
use Rattle.std.proofs.lemmas.List.{get_or-set_same, get_or-set_other}
use Rattle.sdd_core.specs.declared.tag.Tag.{Tag}
use Rattle.sdd_core.specs.declared.tag.Tag.TheVariants as tag
use Rattle.sdd_world_model.specs.World.{World}
use Rattle.sdd_participants.specs.declared.standing.CellContents.{CellContents}
use Rattle.sdd_participants.specs.Slab.{entry_at}
use Rattle.sdd_world_model.specs.WorldChanges.{with_cell}
use Rattle.sdd_lists.specs.Lists.{Entry, is_deleting, is_deleted, first_slot, left, let_go_first, removed, trimmed, IsList, may_delete}
use Rattle.sdd_lists.proofs.Lists.{apart, behind, inside, linked-set}

module _ {T : Type 0} where
  stays-by : (x : Entry T) (xs : List (Entry T)) (e : Entry T) (rest : List (Entry T)) → (left xs ≡ e ∷ rest → is_deleted e ≡ false) → (b : Bool) →
      is_deleted x ≡ b → (if b then left xs else x ∷ xs) ≡ e ∷ rest → is_deleted e ≡ false
  stays-by x xs e rest more true is same = more same
  stays-by x xs e rest more false is same = let first : x ≡ e = cc in ap is_deleted (sym first) ∙ is

  -- the first entry that is left isn't deleted
  pub stays-of : (es : List (Entry T)) (e : Entry T) (rest : List (Entry T)) → left es ≡ e ∷ rest → is_deleted e ≡ false
  stays-of [] e rest same = absurd (cc)
  stays-of (x ∷ xs) e rest same = stays-by x xs e rest (stays-of xs e rest) (is_deleted x) refl same

may-delete : (t : Tag) → is_deleting t ≡ false → t ≢ tag.Both → may_delete t ≡ true
may-delete tag.None is plain = refl
may-delete tag.First is plain = refl
may-delete tag.Second is plain = absurd (cc)
may-delete tag.Both is plain = absurd (plain refl)

module _ {T : Type 0} (link : T → ℕ) (w : World T) (p c : ℕ) (t : Tag) (e : Entry T) (rest : List (Entry T)) (list : IsList link w c t (e ∷ rest)) where
  pub deletes : is_deleted e ≡ false → may_delete e.tag ≡ true
  deletes is = may-delete e.tag is list.linked.0.plain

  pub apart-first : c ≢ link e.value
  apart-first =
      let first : CellContents = record { held = Some e.slot; tag = t } in
      let ring = apart link w c first (e ∷ rest) (e ∷ rest) list.begins refl list.linked list.linked (omega arith) in
      λ same. ring.0 (sym same)

  -- the first entry is deleted
  abbrev pub deleted : World T
  deleted = with_cell w (link e.value) (record { held = first_slot rest; tag = tag.Second })

  pub begins-still : entry_at deleted.cells c ≡ Some (record { held = Some e.slot; tag = t })
  begins-still = get_or-set_other w.cells (link e.value) c (Some (record { held = first_slot rest; tag = tag.Second })) None apart-first ∙ list.begins

  pub is-deleted : entry_at deleted.cells (link e.value) ≡ Some (record { held = first_slot rest; tag = tag.Second })
  is-deleted =
      get_or-set_same w.cells (link e.value) (Some (record { held = first_slot rest; tag = tag.Second })) None
      (inside w.cells (link e.value) (record { held = first_slot rest; tag = e.tag }) list.linked.0.linked)

  as-deleted : IsList link deleted c t (record e { tag = tag.Second } ∷ rest)
  as-deleted =
      let from_link = apart link w (link e.value) (record { held = first_slot rest; tag = e.tag }) rest rest list.linked.0.linked refl list.linked.1
      list.linked.1 (omega arith) in
      record {
        begins = begins-still;
        linked = (
          record { there = list.linked.0.there; linked = is-deleted; plain = λ same. absurd (cc) },
          linked-set link w deleted (link e.value) (Some (record { held = first_slot rest; tag = tag.Second })) rest refl refl from_link list.linked.1,
        );
      }

  pub rest-list : IsList link (let_go_first deleted p c t e.slot (link e.value) (first_slot rest)) c t rest
  rest-list = behind link deleted p c t (record e { tag = tag.Second }) rest as-deleted

-- what is removed first of all has no deleted entries before it
pub removed-head : {T : Type 0} (link : T → ℕ) (w : World T) (p c : ℕ) (t : Tag) (e : Entry T) (rest : List (Entry T)) → is_deleted e ≡ false →
    removed link w p c t [] e rest ≡ removed link w p c t (e ∷ rest) e rest
removed-head link w p c t e rest stays =
    let gone : World _ = let_go_first w p c t e.slot (link e.value) (first_slot rest) in
    let freed : w ≡ trimmed link w p c t (e ∷ rest) =
    ap (λ (b : Bool). if b then trimmed link gone p c t rest else w) (sym stays) in
    let dead : World _ → World _ = λ v. with_cell v (link e.value) (record { held = first_slot rest; tag = tag.Second }) in
    ap (λ (v : World _). let_go_first (dead v) p c t e.slot (link e.value) (first_slot rest)) freed
