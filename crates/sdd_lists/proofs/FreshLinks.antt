-- A cell that was free is the link of no entry
use Rattle.std.proofs.Common.{◌≡◌, ◌≢◌, inl, inr, ℕ, ◌<◌, List, [], ◌∷◌, length, Option, Some, None, true, false, refl, sym, ap, ◌∙◌, arith, slice_set}
use Rattle.std.specs.Prelude.{is_some}
use Rattle.std.proofs.lemmas.List.{get_or-set_same, get_or-set_other, length-set, set-get_or, set-set}
use Rattle.sdd_core.specs.declared.tag.Tag.{Tag}
use Rattle.sdd_core.specs.declared.tag.Tag.TheVariants as tag
use Rattle.sdd_world_model.specs.World.{World}
use Rattle.sdd_participants.specs.declared.standing.CellContents.{CellContents}
use Rattle.sdd_participants.specs.Slab.{Entries, IsEmptyAt, IsFull, entry_at}
use Rattle.sdd_participants.proofs.Adoptions.{same-or-not}
use Rattle.sdd_world_model.specs.WorldChanges.{nulled, without_cell}
use Rattle.sdd_lists.specs.Lists.{Entry, first_slot, Apart, AreLinked, IsList}
use Rattle.sdd_lists.specs.Queue.{IsQueue, QueueCells}
use Rattle.sdd_lists.proofs.GoneEntries.{gone-written, other-free, second-kept}
use Rattle.sdd_lists.proofs.Lists.{linked-set}

module _ {T : Type 0} (link : T → ℕ) (w : World T) (l : ℕ) (free : IsEmptyAt w.cells l) where
  taken-not : (k : ℕ) (cell : CellContents) → entry_at w.cells k ≡ Some cell → k ≢ l
  taken-not k cell there = λ same.
      let never : Some cell ≡ None = sym there ∙ ap (λ (j : ℕ). entry_at w.cells j) same ∙ free.1 in absurd (cc)

  pub fresh-apart : (es : List (Entry T)) → AreLinked link w es → Apart link l es
  fresh-apart [] a = tt
  fresh-apart (e ∷ es) a = (taken-not (link e.value) (record { held = first_slot es; tag = e.tag }) a.0.linked, fresh-apart es a.1)

  pub fresh-far : (c : ℕ) (t : Tag) (es : List (Entry T)) → IsList link w c t es → c ≢ l
  fresh-far c t es list = taken-not c (record { held = first_slot es; tag = t }) list.begins

  pub fresh-clear : entry_at (nulled w l).cells l ≡ Some (record { held = None; tag = tag.None })
  fresh-clear = get_or-set_same w.cells l (Some (record { held = None; tag = tag.None })) None free.0

  pub fresh-list : (c : ℕ) (t : Tag) (es : List (Entry T)) → IsList link w c t es → IsList link (nulled w l) c t es
  fresh-list c t es list = record {
    begins = get_or-set_other w.cells l c (Some (record { held = None; tag = tag.None })) None (fresh-far c t es list) ∙ list.begins;
    linked = linked-set link w (nulled w l) l (Some (record { held = None; tag = tag.None })) es refl refl (fresh-apart es list.linked) list.linked;
  }

  pub fresh-queue : (q : QueueCells) (es : List (Entry T)) (second : Option ℕ) → IsQueue link w q es second → IsQueue link (nulled w l) q es second
  fresh-queue q es second queue = record {
    list = fresh-list q.oldest tag.None es queue.list;
    newest =
        get_or-set_other w.cells l q.newest (Some (record { held = None; tag = tag.None })) None
        (taken-not q.newest (record { held = second; tag = tag.None }) queue.newest)
        ∙ queue.newest;
    among =
        second-kept link w (nulled w l) second es es
        (gone-written w l (record { held = None; tag = tag.None }) (other-free (entry_at w.cells l) free.1))
        (λ k among. inl among) queue.among;
    two = queue.two;
    apart = queue.apart;
  }

  pub fresh-newest : (q : QueueCells) (es : List (Entry T)) (second : Option ℕ) → IsQueue link w q es second → q.newest ≢ l
  fresh-newest q es second queue = taken-not q.newest (record { held = second; tag = tag.None }) queue.newest

-- where one cell more would fill all, it was the only one that was free
pub only-one : {E : Type 0} (t : Entries E) (o : ℕ) (x : E) → IsFull (slice_set t o (Some x)) → (c : ℕ) → IsEmptyAt t c → c ≡ o
only-one t o x full c empty = elim (same-or-not c o) [
  | inl same ↦ same
  | inr other ↦
      let long : c < length (slice_set t o (Some x)) = omega (arith, empty.0, length-set t o (Some x)) in
      let none : entry_at (slice_set t o (Some x)) c ≡ None = get_or-set_other t o c (Some x) None other ∙ empty.1 in
      let never : false ≡ true = sym (ap is_some none) ∙ full c None long in
      absurd (cc)
]

-- a cell that is taken and freed again
pub freed-again : {T : Type 0} (w : World T) (o : ℕ) → IsEmptyAt w.cells o → without_cell (nulled w o) o ≡ w
freed-again w o empty =
    ap (λ (cs : Entries CellContents). record w { cells = cs })
    (set-set w.cells o (Some (record { held = None; tag = tag.None })) None
    ∙ ap (λ (x : Option CellContents). slice_set w.cells o x) (sym empty.1) ∙ set-get_or w.cells o None)
