-- A lone participant knows each word of cells, slots and jobs: what it finds, and what a step leaves.
use Rattle.std.proofs.Common.{◌≡◌, ◌≢◌, ℕ, zero, suc, ◌+◌, ◌*◌, ◌<◌, ◌≤◌, List, [], ◌∷◌, map, length, get_or, set, replicate, sym, refl, ap, ◌∙◌, subst, ⊎_elim, arith, length-set, get_or-set_same, get_or-set_other}
use Rattle.std.proofs.lemmas.List.{get_or_past, length-replicate}
use mathlib.Core.Option.{some}
use mathlib.Core.Logic.{dite}
use native.Mathlib.Decide.{ℕ_discrete, dec_lt}
use lib.ListN.{get_elem?}
use Rattle.atomic_table.proofs.Lists.{at_map, at_set}
use Rattle.sdd_rights.specs.declared.views.View.{View}
use Rattle.sdd_rights.specs.declared.views.Sizes.{Sizes}
use Rattle.sdd_domain_invariant.specs.Words.{IsEpochWord, after_cells, behind, cell_word, first_cell, most_waiting, slot_word, words_behind, all_words}
use Rattle.sdd_domain_invariant.specs.Epoch.{HasPlace, EpochInvariant}
use Rattle.sdd_domain_invariant.specs.Slots.{slot_at, KnowsWords, LoneInvariant}
use Rattle.sdd_domain_invariant.specs.Slots.SlotSteps.{blank}
use Rattle.sdd_domain_invariant.specs.WordInvariant.{epoch_of}
use Rattle.sdd_domain_invariant.proofs.Epoch.{no_other}

zeros : (n i : ℕ) → ◌≡◌ {A = ℕ} (get_or (replicate n 0) i 0) 0
zeros zero i = refl
zeros (suc n) zero = refl
zeros (suc n) (suc i) = zeros n i

-- where all words are 0, those of cells, slots and jobs are as before anybody took part
pub still_blank : (sizes : Sizes) (ws : List ℕ) → ((i : ℕ) → get_or ws i 0 ≡ 0) → KnowsWords sizes ws (blank sizes)
still_blank sizes ws none = record {
  long = length-replicate (words_behind sizes) 0;
  cells = λ k _. zeros (words_behind sizes) k ∙ sym (none (cell_word k));
  slots = λ i. zeros (words_behind sizes) (behind sizes i) ∙ sym (none (slot_word sizes i));
}

-- where the same word of each of two lists becomes y, or neither has it, both have the same there
same_set : (xs ys : List ℕ) (i j y n m : ℕ) → length xs ≡ n → length ys ≡ m → (i < n → j < m) → (j < m → i < n)
    → get_or (set xs i y) i 0 ≡ get_or (set ys j y) j 0
same_set xs ys i j y n m long long' to from = dite (dec_lt i n)
    (λ l. get_or-set_same xs i y 0 (omega arith) ∙ sym (get_or-set_same ys j y 0 (let l' = to l in omega arith)))
    (λ far. get_or_past (set xs i y) i 0 (omega (arith, length-set xs i y))
    ∙ sym (get_or_past (set ys j y) j 0 (dite (dec_lt j m) (λ l. absurd (far (from l))) (λ far'. omega (arith, length-set ys j y)))))

module _ (sizes : Sizes) (ws known : List ℕ) (k : KnowsWords sizes ws known) where
  -- a word of the count, the lock or a place changes
  knows_beside : (j y : ℕ) → IsEpochWord sizes j → KnowsWords sizes (set ws j y) known
  knows_beside j y word = let low = word.1 in record {
    long = k.long;
    cells = λ c inside. k.cells c inside ∙ sym (get_or-set_other ws j (cell_word c) y 0
        (λ e. ⊎_elim (λ (below : j < first_cell). omega arith) (λ (above : after_cells sizes ≤ j). omega arith) word.0));
    slots = λ i. k.slots i ∙ sym (get_or-set_other ws j (slot_word sizes i) y 0 (λ e. omega arith));
  }

  module _ (long : length ws ≡ all_words sizes) where
    -- a cell's does, or a pointer's
    knows_cell : (d y : ℕ) → d < 2 * sizes.cells → KnowsWords sizes (set ws (cell_word d) y) (set known d y)
    knows_cell d y inside = let many = k.long in record {
      long = length-set known d y ∙ k.long;
      cells = λ c low. dite (ℕ_discrete c d)
          (λ e. ap (λ (x : ℕ). get_or (set known d y) x 0) e ∙ get_or-set_same known d y 0 (omega arith)
          ∙ sym (ap (λ (x : ℕ). get_or (set ws (cell_word d) y) (cell_word x) 0) e ∙ get_or-set_same ws (cell_word d) y 0 (omega arith)))
          (λ ne. get_or-set_other known d c y 0 ne ∙ (k.cells c low ∙ sym (get_or-set_other ws (cell_word d) (cell_word c) y 0 (λ e. ne (omega arith)))));
      slots = λ i. get_or-set_other known d (behind sizes i) y 0 (λ e. omega arith)
          ∙ (k.slots i ∙ sym (get_or-set_other ws (cell_word d) (slot_word sizes i) y 0 (λ e. omega arith)));
    }

    -- a slot's does, or a job's
    knows_slot : (s y : ℕ) → KnowsWords sizes (set ws (slot_word sizes s) y) (set known (behind sizes s) y)
    knows_slot s y = record {
      long = length-set known (behind sizes s) y ∙ k.long;
      cells = λ c low. get_or-set_other known (behind sizes s) c y 0 (λ e. omega arith)
          ∙ (k.cells c low ∙ sym (get_or-set_other ws (slot_word sizes s) (cell_word c) y 0 (λ e. omega arith)));
      slots = λ i. dite (ℕ_discrete i s)
          (λ e. ap (λ (x : ℕ). get_or (set known (behind sizes s) y) (behind sizes x) 0) e
          ∙ same_set known ws (behind sizes s) (slot_word sizes s) y (words_behind sizes) (all_words sizes) k.long long (λ l. omega arith) (λ l. omega arith)
          ∙ sym (ap (λ (x : ℕ). get_or (set ws (slot_word sizes s) y) (slot_word sizes x) 0) e))
          (λ ne. get_or-set_other known (behind sizes s) (behind sizes i) y 0 (λ e. ne (omega arith))
          ∙ (k.slots i ∙ sym (get_or-set_other ws (slot_word sizes s) (slot_word sizes i) y 0 (λ e. ne (omega arith)))));
    }

-- a word of the count, the lock or a place changes, by a seat that knows nothing of the others
pub lone_beside : (sizes : Sizes) (ws : List ℕ) (vs : List View) → LoneInvariant sizes ws vs → (j y : ℕ) → IsEpochWord sizes j
    → LoneInvariant sizes (set ws j y) vs
lone_beside sizes ws vs l j y word = record { knows = λ one k u e z. knows_beside sizes ws u.words (l.knows one k u e z) j y word }

module _ (sizes : Sizes) (ws : List ℕ) (vs : List View) (l : LoneInvariant sizes ws vs) (id : ℕ) (v : View) (at : get_elem? vs id ≡ some v) where
  -- what a lone participant finds is what it knew
  pub finds_word : sizes.participants ≡ 1 → HasPlace v.epoch → (k : ℕ) → k < 2 * sizes.cells → get_or ws (cell_word k) 0 ≡ get_or v.words k 0
  finds_word one live k inside = sym ((l.knows one id v at live).cells k inside)

  pub finds : sizes.participants ≡ 1 → HasPlace v.epoch → (i : ℕ) → slot_at sizes ws i ≡ get_or v.words (behind sizes i) 0
  finds one live i = sym ((l.knows one id v at live).slots i)

  -- whoever else is there has no place, so that the words are as this participant knows them
  alone : (ws' : List ℕ) (w : View) → (sizes.participants ≡ 1 → HasPlace w.epoch → KnowsWords sizes ws' w.words)
      → ((k : ℕ) (u : View) → k ≢ id → get_elem? vs k ≡ some u → HasPlace u.epoch → sizes.participants ≡ 1 → KnowsWords sizes ws' u.words)
      → LoneInvariant sizes ws' (set vs id w)
  alone ws' w mine theirs = record {
    knows = λ one k u e z. ⊎_elim
        (λ (t : (k ≡ id) × (w ≡ u)). let live = subst (λ (x : View). HasPlace x.epoch) (sym t.1) z in
        subst (λ (x : View). KnowsWords sizes ws' x.words) t.1 (mine one live))
        (λ (t : (k ≢ id) × (get_elem? vs k ≡ some u)). theirs k u t.0 t.1 z one)
        (at_set vs id k w u e);
  }

  knew : (w : View) → w.words ≡ v.words → KnowsWords sizes ws v.words → KnowsWords sizes ws w.words
  knew w same = subst (KnowsWords sizes ws) (sym same)

  -- no word changes
  pub lone_same : (w : View) → w.words ≡ v.words → (HasPlace w.epoch → HasPlace v.epoch) → LoneInvariant sizes ws (set vs id w)
  lone_same w same had = alone ws w (λ one live. knew w same (l.knows one id v at (had live))) (λ k u _ e z one. l.knows one k u e z)

  -- a word of the count, the lock or a place changes
  pub lone_spared : (j y : ℕ) (w : View) → IsEpochWord sizes j → w.words ≡ v.words
      → (sizes.participants ≡ 1 → HasPlace w.epoch → KnowsWords sizes ws v.words) → LoneInvariant sizes (set ws j y) (set vs id w)
  lone_spared j y w word same holds = alone (set ws j y) w
      (λ one live. knows_beside sizes ws w.words (knew w same (holds one live)) j y word)
      (λ k u _ e z one. knows_beside sizes ws u.words (l.knows one k u e z) j y word)

  module _ (long : length ws ≡ all_words sizes) (epochs : EpochInvariant sizes ws (map epoch_of vs)) (live : HasPlace v.epoch) where
    written : (ws' : List ℕ) (w : View) → (KnowsWords sizes ws v.words → KnowsWords sizes ws' w.words) → LoneInvariant sizes ws' (set vs id w)
    written ws' w then = alone ws' w (λ one _. then (l.knows one id v at live))
        (λ k u other e z one. absurd (no_other sizes ws (map epoch_of vs) id k v.epoch u.epoch epochs one (at_map epoch_of vs id v at) live other
        (at_map epoch_of vs k u e) z))

    -- a cell's does, or a pointer's
    pub lone_written : (d y : ℕ) (w : View) → d < 2 * sizes.cells → w.words ≡ set v.words d y → LoneInvariant sizes (set ws (cell_word d) y) (set vs id w)
    lone_written d y w inside is = written (set ws (cell_word d) y) w
        (λ k. subst (KnowsWords sizes (set ws (cell_word d) y)) (sym is) (knows_cell sizes ws v.words k long d y inside))

    -- a slot's does, or a job's
    pub lone_noted : (i y : ℕ) (w : View) → w.words ≡ set v.words (behind sizes i) y → LoneInvariant sizes (set ws (slot_word sizes i) y) (set vs id w)
    lone_noted i y w is = written (set ws (slot_word sizes i) y) w
        (λ k. subst (KnowsWords sizes (set ws (slot_word sizes i) y)) (sym is) (knows_slot sizes ws v.words k long i y))
