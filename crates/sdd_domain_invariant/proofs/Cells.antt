-- What cells hold, after one step
pub mod CellWordSteps
pub mod CellSteps
pub mod RightSeats
use Rattle.std.specs.Prelude.{None}
use Rattle.std.proofs.Common.{◌≡◌, ◌≢◌, ◌⊎◌, inl, inr, ℕ, zero, suc, ◌+◌, ◌*◌, Bool, true, false, ◌<◌, ◌≤◌, List, [], ◌∷◌, ◌++◌, length, get_or, set, sym, refl, ap, ◌∙◌, subst, ⊎_elim, arith, get_or-set_other, get_or-set_same}
use mathlib.Core.Logic.{dite}
use mathlib.Core.Option.{some, some-injective, some-ne-none}
use native.Mathlib.Decide.{ℕ_discrete, dec_lt}
use lib.ListN.{get_elem?}
use lib.Seq.{set-get_or}
use Rattle.sdd_rights.specs.declared.views.CellKind.{CellKind}
use Rattle.sdd_rights.specs.declared.views.CellKind.TheVariants.{Owned, Shared, Raw, Collector}
use Rattle.sdd_rights.specs.declared.views.CellRight.{CellRight}
use Rattle.sdd_rights.specs.declared.views.CellsView.{CellsView}
use Rattle.sdd_rights.specs.declared.views.View.{View}
use Rattle.sdd_rights.specs.declared.views.Sizes.{Sizes}
use Rattle.sdd_domain_invariant.specs.Words.{IsEpochWord, after_cells, first_cell, cell_word, pointer_word, slot_word}
use Rattle.sdd_domain_invariant.specs.Codes.{codes, alive, counted, names, pointers_end}
use Rattle.sdd_domain_invariant.specs.Slots.{slot_at, owners_at, SlotsInvariant}
use Rattle.sdd_domain_invariant.specs.Collectors.{one_in, Closes}
use Rattle.sdd_domain_invariant.specs.Sums.{total}
use Rattle.sdd_domain_invariant.proofs.Codes.{sound}
use Rattle.sdd_domain_invariant.proofs.Frame.{each_snoc}
use Rattle.sdd_domain_invariant.proofs.Slots.SlotWords.{named_in}
use Rattle.sdd_domain_invariant.proofs.Sums.{is_same, is_other, total_set, total_snoc, total_has, total_two, total_some, span_has}
use Rattle.atomic_table.proofs.Lists.{at_set}
use Rattle.sdd_domain_invariant.specs.Fractions.BankInvariant.{one_where}
use Rattle.sdd_domain_invariant.specs.Cells.CellSteps.{IsBare}
use Rattle.sdd_rights.specs.Owner.{cell_kind}
use Rattle.sdd_domain_invariant.specs.Cells.CellsInvariant.{cell_at, pointer_at, IsInCell, is_right, rights_at, HasRight, IsWordOf, IsTaken, HavePointers, closes_by, is_closing_right, closing_rights_at, closes_at, CellsInvariant}

-- a flag is told by its number
pub one_flag : (a b : Bool) → one_where a ≡ one_where b → a ≡ b
one_flag true true e = refl
one_flag false false e = refl
one_flag true false e = absurd (omega arith)
one_flag false true e = absurd (omega arith)

-- the words of cells are as before, and those of their pointers are such still
pub record SameCells (sizes : Sizes) (ws ws' : List ℕ) : Type 0 where
  pub words : (d : ℕ) → d < sizes.cells → cell_at sizes ws' d ≡ cell_at sizes ws d
  pub pointers : HavePointers sizes ws → HavePointers sizes ws'

-- the owners of a slot in cells are counted as before
abbrev pub KeepsKinds : Sizes → List ℕ → List ℕ → Type 0
KeepsKinds sizes ws ws' = (i : ℕ) → IsInCell sizes ws i → counted (slot_at sizes ws' i) ≡ counted (slot_at sizes ws i)

-- the words of slots and cells are as before
pub record SameWords (sizes : Sizes) (ws ws' : List ℕ) : Type 0 where
  pub cells : SameCells sizes ws ws'
  pub slots : (i : ℕ) → slot_at sizes ws' i ≡ slot_at sizes ws i

pub no_change : (sizes : Sizes) (ws : List ℕ) → SameWords sizes ws ws
no_change sizes ws = record { cells = record { words = λ _ _. refl; pointers = λ p. p }; slots = λ _. refl }

module _ (sizes : Sizes) (ws : List ℕ) where
  -- a word that is no cell's and no pointer's changes
  cells_stay : (j y : ℕ) → ((d : ℕ) → d < 2 * sizes.cells → cell_word d ≢ j) → SameCells sizes ws (set ws j y)
  cells_stay j y ne = record {
    words = λ d inside. get_or-set_other ws j (cell_word d) y 0 (ne d (omega arith));
    pointers = λ p d inside. let e = get_or-set_other ws j (cell_word (sizes.cells + d)) y 0 (ne (sizes.cells + d) (omega arith)) in
        let o = p d inside in omega arith;
  }

  -- a word of the count, the lock or a place changes, or a slot's, or none does
  pub cells_beside : (j y : ℕ) → IsEpochWord sizes j → SameCells sizes ws (set ws j y)
  cells_beside j y word = cells_stay j y (λ d inside e.
      ⊎_elim (λ (low : j < first_cell). omega arith) (λ (high : after_cells sizes ≤ j). omega arith) word.0)

  pub cells_slot : (slot y : ℕ) → SameCells sizes ws (set ws (slot_word sizes slot) y)
  cells_slot slot y = cells_stay (slot_word sizes slot) y (λ d inside e. omega arith)

  pub cells_same : (j : ℕ) → SameCells sizes ws (set ws j (get_or ws j 0))
  cells_same j = subst (SameCells sizes ws) (sym (set-get_or ws j 0)) (no_change sizes ws).cells

  pub words_beside : (j y : ℕ) → IsEpochWord sizes j → SameWords sizes ws (set ws j y)
  words_beside j y word = let low = word.1 in record {
    cells = cells_beside j y word;
    slots = λ i. get_or-set_other ws j (slot_word sizes i) y 0
        (λ e. omega arith);
  }

  pub words_same : (j : ℕ) → SameWords sizes ws (set ws j (get_or ws j 0))
  words_same j = record { cells = cells_same j; slots = λ i. ap (λ (l : List ℕ). slot_at sizes l i) (set-get_or ws j 0) }

  -- the word of a pointer does
  pub words_pointed : (cell y : ℕ) → cell < sizes.cells → pointer_word sizes cell < length ws → y < pointers_end
      → SameWords sizes ws (set ws (pointer_word sizes cell) y)
  words_pointed cell y low long small = let i : ℕ = pointer_word sizes cell in record {
    cells = record {
      words = λ d inside. get_or-set_other ws i (cell_word d) y 0 (λ e. omega arith);
      pointers = λ p d inside. dite (ℕ_discrete d cell)
          (λ e. let here = ap (λ (k : ℕ). pointer_at sizes (set ws i y) k) e ∙ get_or-set_same ws i y 0 long in omega arith)
          (λ ne. let there = get_or-set_other ws i (cell_word (sizes.cells + d)) y 0 (λ e. ne (omega arith)) in let o = p d inside in omega arith);
    };
    slots = λ k. get_or-set_other ws i (slot_word sizes k) y 0 (λ e. omega arith);
  }

  module _ (ws' : List ℕ) (same : SameCells sizes ws ws') where
    pub in_cell_before : (i : ℕ) → IsInCell sizes ws' i → IsInCell sizes ws i
    in_cell_before i c = let e = ap (names i) (same.words c.0 c.1) in let n = c.2 in (c.0, c.1, omega arith)

    pub in_cell_still : (i : ℕ) → IsInCell sizes ws i → IsInCell sizes ws' i
    in_cell_still i c = let e = ap (names i) (same.words c.0 c.1) in let n = c.2 in (c.0, c.1, omega arith)

    word_still : KeepsKinds sizes ws ws' → (d : ℕ) → d < sizes.cells → (kind : CellKind) → IsWordOf sizes ws kind (cell_at sizes ws d)
        → IsWordOf sizes ws' kind (cell_at sizes ws' d)
    word_still kinds d inside Owned w = λ i n. let e = ap (names i) (same.words d inside) in let m : 0 < names i (cell_at sizes ws d) = omega arith in
        kinds i (d, inside, m) ∙ w i m
    word_still kinds d inside Shared w = λ i n. let e = ap (names i) (same.words d inside) in let m : 0 < names i (cell_at sizes ws d) = omega arith in
        kinds i (d, inside, m) ∙ w i m
    word_still kinds d inside Raw w = λ i. ap (names i) (same.words d inside) ∙ w i
    word_still kinds d inside Collector w = λ i. ap (names i) (same.words d inside) ∙ w i

    pub taken_still : KeepsKinds sizes ws ws' → (r : CellRight) → IsTaken sizes ws r → IsTaken sizes ws' r
    taken_still kinds r t = record {
      inside = t.inside;
      full = let e = same.words r.cell t.inside in let f = t.full in omega arith;
      kind = word_still kinds r.cell t.inside r.kind t.kind;
    }

  -- an owner in a cell is among those that its slot has
  module _ (vs : List View) (s : SlotsInvariant codes sizes ws vs) (i : ℕ) (c : IsInCell sizes ws i) where
    pub in_cell_alive : 0 < alive (slot_at sizes ws i)
    in_cell_alive = let h = span_has (names i) ws first_cell sizes.cells c.0 c.1 in let w = s.owned i in let n = c.2 in omega arith

    pub in_cell_beside : (j : ℕ) (v : View) → get_elem? vs j ≡ some v → owners_at i v < alive (slot_at sizes ws i)
    in_cell_beside j v at = let h = named_in codes sound sizes ws vs s j c.0 i v at c.1 in let n = c.2 in omega arith

-- the first of a list, or another
pub first_or : (r : CellRight) (rs : List CellRight) (q : CellRight) (k : ℕ) → get_elem? (r ∷ rs) k ≡ some q → (r ≡ q) ⊎ ((m : ℕ) × (get_elem? rs m ≡ some q))
first_or r rs q zero e = inl (some-injective r q e)
first_or r rs q (suc k) e = inr (k, e)

-- a right of another kind is to no collector that is being closed
pub bare_open : (kind : CellKind) → IsBare kind → (k cell : ℕ) → closes_by kind k cell ≡ 0
bare_open Owned bare k cell = refl
bare_open Shared bare k cell = refl
bare_open Raw bare k cell = refl
bare_open Collector bare k cell = absurd bare

pub owner_open : (shared : Bool) (k cell : ℕ) → closes_by (cell_kind shared) k cell ≡ 0
owner_open true k cell = refl
owner_open false k cell = refl

-- what a right tells of a collector that is being closed
told_closing : (kind : CellKind) (k cell : ℕ) → 0 < closes_by kind k cell → (cell ≡ k) × (kind ≡ Collector)
told_closing Owned k cell more = absurd (omega arith)
told_closing Shared k cell more = absurd (omega arith)
told_closing Raw k cell more = absurd (omega arith)
told_closing Collector k cell more =
    (dite (ℕ_discrete cell k) (λ e. e) (λ ne. absurd (let z = is_other k cell ne in omega arith)), refl)

-- what it closes changes as the rights do that it has
abbrev pub KeepsClosing : View → View → Type 0
KeepsClosing v w = (k : ℕ) → closes_at k w + closing_rights_at k v ≡ closes_at k v + closing_rights_at k w

-- neither does
pub closes_alike : (v w : View) → w.cells ≡ v.cells → w.slots.closes ≡ v.slots.closes → KeepsClosing v w
closes_alike v w rights closes k = let a = ap (one_in k) closes in
    let b = ap (λ (c : CellsView). total (is_closing_right k) c.rights) rights in omega arith

-- one that has the right to none
pub no_right : (u : View) → u.cells.rights ≡ [] → (q : CellRight) → ¬ (HasRight u q)
no_right u empty q has = some-ne-none q (sym has.1 ∙ ap (λ (l : List CellRight). get_elem? l has.0) empty)

module _ (sizes : Sizes) (ws : List ℕ) (vs : List View) (part : CellsInvariant sizes ws vs) where
  -- two rights to a cell are one
  pub one_right : (j k : ℕ) (u x : View) (r q : CellRight) → get_elem? vs j ≡ some u → get_elem? vs k ≡ some x → HasRight u r → HasRight x q → r.cell ≡ q.cell
      → r ≡ q
  one_right j k u x r q at at' has has' same = let d : ℕ = r.cell in let o = part.single d in let one = is_same d d refl in
      let two = is_same d q.cell (sym same) in let mine = total_has (is_right d) u.cells.rights has.0 r has.1 in
      let theirs = total_has (is_right d) x.cells.rights has'.0 q has'.1 in dite (ℕ_discrete j k)
      (λ e. let views : u ≡ x = some-injective u x (sym at ∙ (ap (get_elem? vs) e ∙ at')) in
      let here : get_elem? u.cells.rights has'.0 ≡ some q = ap (λ (y : View). get_elem? y.cells.rights has'.0) views ∙ has'.1 in dite (ℕ_discrete has.0 has'.0)
      (λ e'. some-injective r q (sym has.1 ∙ (ap (get_elem? u.cells.rights) e' ∙ here)))
      (λ ne. let both = total_two (is_right d) u.cells.rights has.0 has'.0 r q ne has.1 here in let all = total_has (rights_at d) vs j u at in
      absurd (omega arith)))
      (λ ne. let both = total_two (rights_at d) vs j k u x ne at at' in absurd (omega arith))

  -- nobody has the right to a cell that is free
  pub cell_is_free : (cell : ℕ) → cell_at sizes ws cell ≡ 0 → total (rights_at cell) vs ≡ 0
  cell_is_free cell empty = dite (dec_lt 0 (total (rights_at cell) vs))
      (λ more. let a = total_some (rights_at cell) vs more in let v : View = a.1 in let b = total_some (is_right cell) v.cells.rights a.3 in
      let r : CellRight = b.1 in let t = part.taken a.0 v r a.2 (b.0, b.2) in let f = t.full in dite (ℕ_discrete r.cell cell)
      (λ e. let z = ap (cell_at sizes ws) e in absurd (omega arith))
      (λ ne. let z = is_other cell r.cell ne in let m = b.3 in absurd (omega arith)))
      (λ none. omega arith)

  -- where somebody closes a collector, somebody has the right to it, of that kind
  pub closing_right : (j k : ℕ) (u : View) → get_elem? vs j ≡ some u → Closes u k → (m : ℕ) × (x : View) × (r : CellRight)
      × (get_elem? vs m ≡ some x) × HasRight x r × ((r.cell ≡ k) × (r.kind ≡ Collector))
  closing_right j k u at shuts = let c = part.closing k in let mine = total_has (closes_at k) vs j u at in let one = ap (one_in k) shuts in
      let same = is_same k k refl in let a = total_some (closing_rights_at k) vs (omega arith) in let x : View = a.1 in
      let b = total_some (is_closing_right k) x.cells.rights a.3 in let r : CellRight = b.1 in
      (a.0, x, r, a.2, (b.0, b.2), told_closing r.kind k r.cell b.3)

  -- a new seat that has the right to none
  pub cells_more : (t : View) → t.cells.rights ≡ [] → t.slots.closes ≡ None → CellsInvariant sizes ws (vs ++ t ∷ [])
  cells_more t none idle = record {
    inside = part.inside;
    single = λ d. let a = total_snoc (rights_at d) vs t in let z = ap (total (is_right d)) none in let o = part.single d in omega arith;
    taken = λ j v r e has. each_snoc (λ u. (q : CellRight) → HasRight u q → IsTaken sizes ws q) vs t (λ k u e' q. part.taken k u q e')
        (λ q has'. absurd (no_right t none q has')) j v e r has;
    closing = λ k. let a = total_snoc (closes_at k) vs t in let b = total_snoc (closing_rights_at k) vs t in let c = part.closing k in
        let d = ap (one_in k) idle in let e = ap (total (is_closing_right k)) none in omega arith;
    pointers = part.pointers;
  }

  module _ (id : ℕ) (v w : View) (at : get_elem? vs id ≡ some v) where
    -- a collector is being closed exactly where the right to it says so
    pub closers : KeepsClosing v w → (k : ℕ) → total (closes_at k) (set vs id w) ≡ total (closing_rights_at k) (set vs id w)
    closers keeps k = let a = total_set (closes_at k) vs id v w at in let b = total_set (closing_rights_at k) vs id v w at in
        let c = part.closing k in let d = keeps k in omega arith

    -- it has the rights that it had, and closes what it closed
    pub cells_kept : (ws' : List ℕ) → SameCells sizes ws ws' → KeepsKinds sizes ws ws' → w.cells ≡ v.cells → w.slots.closes ≡ v.slots.closes
        → CellsInvariant sizes ws' (set vs id w)
    cells_kept ws' same kinds rights closes = record {
      inside = λ i c. part.inside i (in_cell_before sizes ws ws' same i c);
      single = λ d. let a = total_set (rights_at d) vs id v w at in let e = ap (λ (c : CellsView). total (is_right d) c.rights) rights in
          let o = part.single d in omega arith;
      taken = λ j u r e has. taken_still sizes ws ws' same kinds r (⊎_elim
          (λ (t : (j ≡ id) × (w ≡ u)). part.taken id v r at
          (has.0, ap (λ (c : CellsView). get_elem? c.rights has.0) (sym rights) ∙ (ap (λ (x : View). get_elem? x.cells.rights has.0) t.1 ∙ has.1)))
          (λ (t : (j ≢ id) × (get_elem? vs j ≡ some u)). part.taken j u r t.1 has) (at_set vs id j w u e));
      closing = closers (closes_alike v w rights closes);
      pointers = same.pointers part.pointers;
    }
