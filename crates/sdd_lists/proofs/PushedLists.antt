-- What a push makes of a list
use Rattle.std.proofs.Common.{◌≡◌, ◌≢◌, ℕ, ◌<◌, List, [], ◌∷◌, length, Bool, true, false, Option, Some, None, refl, sym, ap, ◌∙◌, arith}
use Rattle.std.specs.Prelude.{if◌then◌else◌, slice_set}
use Rattle.std.proofs.lemmas.List.{get_or-set_same, get_or-set_other, length-set, set_comm, set-get_or}
use Rattle.sdd_core.specs.declared.tag.Tag.{Tag}
use Rattle.sdd_core.specs.declared.tag.Tag.TheVariants as tag
use Rattle.sdd_world_model.specs.World.{World, standing_at, value_at}
use Rattle.sdd_participants.specs.Slab.{Entries, entry_at}
use Rattle.sdd_participants.specs.declared.standing.CellContents.{CellContents}
use Rattle.sdd_participants.specs.declared.standing.Standing.{Standing}
use Rattle.sdd_world_model.specs.WorldChanges.{held_in, made_as, with_cell}
use Rattle.sdd_lists.specs.Lists.{Entry, is_deleted, first_slot, left, let_go_first, linked_in, Apart, AreLinked, IsList, trimmed}
use Rattle.sdd_lists.proofs.Lists.{apart, bare, inside, linked-set}

module _ {T : Type 0} (link : T → ℕ) where
  apart-left-by : (l : ℕ) (e : Entry T) (es : List (Entry T)) → Apart link l (e ∷ es) → Apart link l (left es) → (b : Bool) →
      Apart link l (if b then left es else e ∷ es)
  apart-left-by l e es all more true = more
  apart-left-by l e es all more false = all

  pub apart-left : (l : ℕ) (es : List (Entry T)) → Apart link l es → Apart link l (left es)
  apart-left l [] all = tt
  apart-left l (e ∷ es) all = apart-left-by l e es all (apart-left l es all.1) (is_deleted e)

  -- a cell apart stays as it is where a list is let go of
  pub go-other : (w : World T) (p c k l next_at : ℕ) (t : Tag) (next : Option ℕ) → l ≢ c → l ≢ next_at →
      entry_at (let_go_first w p c t k next_at next).cells l ≡ entry_at w.cells l
  go-other w p c k l next_at t next other far =
      let u : World T = with_cell w next_at (record { held = None; tag = tag.Second }) in
      let v : World T = with_cell u c (record { held = next; tag = t }) in
      let out = bare v p k (standing_at w k) in
      ap (λ (cs : Entries CellContents). entry_at cs l) out.cells
      ∙ get_or-set_other u.cells c l (Some (record { held = next; tag = t })) None other
      ∙ get_or-set_other w.cells next_at l (Some (record { held = None; tag = tag.Second })) None far

  trim-by : (w : World T) (p c : ℕ) (t : Tag) (e : Entry T) (es : List (Entry T)) (l : ℕ) → l ≢ c → Apart link l (e ∷ es) →
      entry_at (trimmed link (let_go_first w p c t e.slot (link e.value) (first_slot es)) p c t es).cells l
      ≡ entry_at (let_go_first w p c t e.slot (link e.value) (first_slot es)).cells l → (b : Bool) →
      entry_at (if b then trimmed link (let_go_first w p c t e.slot (link e.value) (first_slot es)) p c t es else w).cells l ≡ entry_at w.cells l
  trim-by w p c t e es l other all more true =
      more ∙ go-other w p c e.slot l (link e.value) t (first_slot es) other (λ same. all.0 (sym same))
  trim-by w p c t e es l other all more false = refl

  pub trim-other : (w : World T) (p c : ℕ) (t : Tag) (es : List (Entry T)) (l : ℕ) → l ≢ c → Apart link l es →
      entry_at (trimmed link w p c t es).cells l ≡ entry_at w.cells l
  trim-other w p c t [] l other all = refl
  trim-other w p c t (e ∷ es) l other all =
      trim-by w p c t e es l other all
      (trim-other (let_go_first w p c t e.slot (link e.value) (first_slot es)) p c t es l other all.1) (is_deleted e)

  values-by : (w : World T) (p c : ℕ) (t : Tag) (e : Entry T) (es : List (Entry T)) →
      (trimmed link (let_go_first w p c t e.slot (link e.value) (first_slot es)) p c t es).values ≡ w.values → (b : Bool) →
      (if b then trimmed link (let_go_first w p c t e.slot (link e.value) (first_slot es)) p c t es else w).values ≡ w.values
  values-by w p c t e es more true = more
  values-by w p c t e es more false = refl

  -- letting go changes no value
  pub trim-values : (w : World T) (p c : ℕ) (t : Tag) (es : List (Entry T)) → (trimmed link w p c t es).values ≡ w.values
  trim-values w p c t [] = refl
  trim-values w p c t (e ∷ es) =
      let u : World T = with_cell w (link e.value) (record { held = None; tag = tag.Second }) in
      let v : World T = with_cell u c (record { held = first_slot es; tag = t }) in
      let out = bare v p e.slot (standing_at w e.slot) in
      values-by w p c t e es (trim-values (let_go_first w p c t e.slot (link e.value) (first_slot es)) p c t es ∙ out.values) (is_deleted e)

  -- a new item is in no list
  linked-made : (w : World T) (k : ℕ) (v : T) (s : Standing) (es : List (Entry T)) → value_at w k ≡ None → AreLinked link w es →
      AreLinked link (made_as w k v s) es
  linked-made w k v s [] free a = tt
  linked-made w k v s (e ∷ es) free a = (
    record {
      there =
          get_or-set_other w.values k e.slot (Some v) None
          (λ same. let never : Some e.value ≡ None = sym a.0.there ∙ ap (λ (j : ℕ). value_at w j) same ∙ free in absurd (cc))
          ∙ a.0.there;
      linked = a.0.linked;
      plain = a.0.plain;
    },
    linked-made w k v s es free a.1,
  )

  pub list-made : (w : World T) (c : ℕ) (t : Tag) (k : ℕ) (v : T) (s : Standing) (es : List (Entry T)) → value_at w k ≡ None → IsList link w c t es →
      IsList link (made_as w k v s) c t es
  list-made w c t k v s es free list = record { begins = list.begins; linked = linked-made w k v s es free list.linked }

  pub pushed-as : (w : World T) (c : ℕ) (t to : Tag) (es : List (Entry T)) (k : ℕ) (v : T) → IsList link w c t es → value_at w k ≡ Some v →
      entry_at w.cells (link v) ≡ Some (record { held = None; tag = tag.None }) → c ≢ link v → Apart link (link v) es →
      IsList link (linked_in w c to (link v) k (first_slot es)) c to (record { slot = k; value = v; tag = tag.None } ∷ es)
  pushed-as w c t to es k v list there clear far all =
      let l : ℕ = link v in
      let next : CellContents = record { held = first_slot es; tag = tag.None } in
      let first : CellContents = record { held = Some k; tag = to } in
      let u : World T = with_cell w l next in
      let x : World T = with_cell u c first in
      let from_cell = apart link w c (record { held = first_slot es; tag = t }) es es list.begins refl list.linked list.linked (omega arith) in
      let c_in : c < length w.cells = inside w.cells c (record { held = first_slot es; tag = t }) list.begins in
      let l_in : l < length w.cells = inside w.cells l (record { held = None; tag = tag.None }) clear in
      let c_still : c < length u.cells = omega (arith, c_in, length-set w.cells l (Some next)) in
      let in_u = linked-set link w u l (Some next) es refl refl all list.linked in
      record {
        begins = get_or-set_same u.cells c (Some first) None c_still;
        linked = (
          record {
            there = there;
            linked =
                get_or-set_other u.cells c l (Some first) None (λ same. far (sym same))
                ∙ get_or-set_same w.cells l (Some next) None l_in;
            plain = λ same. absurd (cc);
          },
          linked-set link u x c (Some first) es refl refl from_cell in_u,
        );
      }

  pub pushed : (w : World T) (c : ℕ) (t : Tag) (es : List (Entry T)) (k : ℕ) (v : T) → IsList link w c t es → value_at w k ≡ Some v →
      entry_at w.cells (link v) ≡ Some (record { held = None; tag = tag.None }) → c ≢ link v → Apart link (link v) es →
      IsList link (linked_in w c t (link v) k (first_slot es)) c t (record { slot = k; value = v; tag = tag.None } ∷ es)
  pushed w c t es k v list there clear far all = pushed-as w c t t es k v list there clear far all

abbrev cell_of : Option ℕ → Tag → CellContents
cell_of held t = record { held = held; tag = t }

-- two swaps put an entry between a cell and what it held
module _ {T : Type 0} (w u v : World T) (c l : ℕ) (next rest : Option ℕ) (t1 t2 to : Tag) (k : ℕ) (far : c ≢ l)
    (has1 : entry_at w.cells c ≡ Some (cell_of next t1)) (to1 : u ≡ with_cell w c (cell_of (Some k) to))
    (has2 : entry_at u.cells l ≡ Some (cell_of rest t2)) (to2 : v ≡ with_cell u l (cell_of next tag.None)) where
  pub rest-none : entry_at w.cells l ≡ Some (cell_of None tag.None) → rest ≡ None
  rest-none clear =
      ap held_in (sym has2 ∙ ap (λ (a : World T). entry_at a.cells l) to1
      ∙ get_or-set_other w.cells c l (Some (cell_of (Some k) to)) None (λ e. far (sym e)) ∙ clear)

  pub put-then : (n : Option ℕ) (t : Tag) → entry_at w.cells c ≡ Some (cell_of n t) → v ≡ linked_in w c to l k n
  put-then n t holds =
      let nexts : next ≡ n = ap held_in (sym has1 ∙ holds) in
      to2 ∙ ap (λ (a : World T). with_cell a l (cell_of next tag.None)) to1
      ∙ ap (λ (cs : Entries CellContents). record w { cells = cs })
      (set_comm w.cells c l (Some (cell_of (Some k) to)) (Some (cell_of next tag.None)) far)
      ∙ ap (λ (y : Option ℕ). linked_in w c to l k y) nexts

-- and one swap alone, where the cell held nothing and the entry's link is clear
pub put-alone : {T : Type 0} (w : World T) (c l : ℕ) (t to : Tag) (k : ℕ) (n : Option ℕ) → entry_at w.cells c ≡ Some (cell_of None t) →
    entry_at w.cells c ≡ Some (cell_of n t) → entry_at w.cells l ≡ Some (cell_of None tag.None) →
    with_cell w c (cell_of (Some k) to) ≡ linked_in w c to l k n
put-alone w c l t to k n has holds clear =
    let nexts : None ≡ n = ap held_in (sym has ∙ holds) in
    let still : slice_set w.cells l (Some (cell_of None tag.None)) ≡ w.cells =
    ap (λ (x : Option CellContents). slice_set w.cells l x) (sym clear) ∙ set-get_or w.cells l None in
    ap (λ (cs : Entries CellContents). with_cell (record w { cells = cs }) c (cell_of (Some k) to)) (sym still)
    ∙ ap (λ (y : Option ℕ). linked_in w c to l k y) nexts
