-- What writing and freeing a cell are for the world of a lone participant
use Rattle.std.proofs.Common.{◌≡◌, ◌≢◌, ℕ, ◌<◌, IsTrue, List, Some, None, length, set, sym, refl, ap, ◌∙◌, subst, arith, length-set, get_or-set_other, get_or-set_same, ne_eqb}
use Rattle.std.specs.Prelude.{Option, IsSome, slice_get, if◌then◌else◌}
use base.Stored.{Gv}
use Rattle.sdd_participants.specs.Slab.{entry_at, IsEmptyAt, IsFull}
use Rattle.sdd_participants.specs.declared.standing.CellContents.{CellContents}
use Rattle.sdd_participants.specs.declared.standing.RawCellContents.{RawCellContents}
use Rattle.sdd_domain_invariant.specs.Codes.{held_slots}
use Rattle.sdd_domain_invariant.specs.Slots.SlotSteps.{behind}
use Rattle.sdd_domain_invariant.specs.Cells.CellWordSteps.{pointer_behind}
use Rattle.sdd_domain_invariant.specs.Words.{words_behind}
use Rattle.sdd_world_model.specs.OwnerOrCell.{OwnerOrCell}
use Rattle.sdd_space.specs.Undisturbed.{Undisturbed}
use Rattle.sdd_world_model.specs.WorldChanges.{with_cell, without_cell, held_in}
use Rattle.sdd_domain_steps.specs.Cells.{WritesAt, ChangesCell, FreesAt, AllCellsTaken}
use Rattle.sdd_domain_steps.specs.LocalState.{LocalState, IsLone, word_of, cell_word_of}
use Rattle.sdd_domain_steps.specs.WordsAndValues.{AreTied, WordsMatchValues}
use Rattle.sdd_domain_steps.specs.Local.{LocalModel, listing, contents_by, contents_of, contents_in, pointer_by, pointer_in, world_of}
use Rattle.sdd_domain_core.specs.Sound.{IsSound}
use Rattle.sdd_domain_core.specs.Space.{Shows, is_lone, caller_of, known_of}
use Rattle.sdd_domain_core.proofs.GuardCalls.{lone_is}
use Rattle.sdd_domain_core.proofs.Listings.{listing_same, listing_set, listing_at, listing_long, listing_all}
use Rattle.sdd_domain_core.proofs.NotedWorld.{matched_noted, noted_undisturbed, sound_noted, tied_noted, world_noted}

-- a cell that isn't free holds what its word tells
pub full_contents : (word : ℕ) → 0 < word → contents_by word ≡ Some (contents_of word)
full_contents word some = let ne : word ≢ 0 = (λ e. absurd (omega arith)) in λ d. if ne_eqb word 0 ne d then None else Some (contents_of word)

some_there : (word : ℕ) → 0 < word → IsSome (contents_by word)
some_there word some = subst (λ (e : Option CellContents). IsSome e) (sym (full_contents word some)) refl

-- ---- what cells hold by the words that it knows
module _ {T J : Type 0} (p : LocalModel T J) where
  -- no cell is free
  pub cells_used_up : AllCellsTaken p.member → IsFull (world_of p).cells
  cells_used_up taken = listing_all (λ (e : Option CellContents). IsSome e) p.member.limits.cells (contents_in p)
      (λ i low. some_there (cell_word_of p.member i) (taken i low))

  module _ (t : AreTied p.member p.entries) (cell word : ℕ) (inside : cell < p.member.sizes.cells) (is : word ≡ cell_word_of p.member cell) where
    pub cell_inside : cell < p.member.limits.cells
    cell_inside = let a = t.all_cells in omega arith

    stands_so : entry_at (world_of p).cells cell ≡ contents_by word
    stands_so = listing_at p.member.limits.cells (contents_in p) cell None cell_inside ∙ ap contents_by (sym is)

    pub full_cell : 0 < word → entry_at (world_of p).cells cell ≡ Some (contents_of word)
    full_cell some = stands_so ∙ full_contents word some

    pub empty_cell : word ≡ 0 → IsEmptyAt (world_of p).cells cell
    empty_cell none = (
      (let e = listing_long p.member.limits.cells (contents_in p) in let l = cell_inside in omega arith),
      stands_so ∙ ap contents_by none,
    )

-- ---- the word of a cell was written
module _ {T J : Type 0} (v : LocalModel T J) (cell found word : ℕ) (m : LocalState J) (is : WritesAt cell found word v.member m) where
  abbrev written : LocalState J
  written = record v.member { words = set v.member.words cell word }

  abbrev after : LocalModel T J
  after = record { member = written; entries = v.entries }

  word_kept : (i : ℕ) → word_of written i ≡ word_of v.member i
  word_kept i = get_or-set_other v.member.words cell (behind v.member.sizes i) word 0 (λ e. let l = is.inside in omega arith)

  as_long : length (set v.member.words cell word) ≡ length v.member.words
  as_long = length-set v.member.words cell word

  -- words, bags and ghost values go together still
  pub tied_written : AreTied v.member v.entries → AreTied m v.entries
  tied_written = tied_noted v (set v.member.words cell word) as_long word_kept m is.member

  pub matched_written : WordsMatchValues v.member v.entries → WordsMatchValues m v.entries
  matched_written = matched_noted v (set v.member.words cell word) as_long word_kept m is.member

  pointers_same : listing v.member.limits.cells (pointer_in after) ≡ listing v.member.limits.cells (pointer_in v)
  pointers_same = listing_same v.member.limits.cells (pointer_in v) (pointer_in after)
      (λ i l. ap pointer_by (get_or-set_other v.member.words cell (pointer_behind v.member.sizes i) word 0 (λ e. let l = is.inside in omega arith)))

  -- in its world no more than cells are others
  pub world_cells : world_of (record { member = m; entries = v.entries })
      ≡ record (world_of v) { cells = listing v.member.limits.cells (contents_in after) }
  world_cells = world_noted v (set v.member.words cell word) as_long word_kept m is.member
      ∙ ap (λ (l : List RawCellContents). record (world_of v) { cells = listing v.member.limits.cells (contents_in after); pointers = l }) pointers_same

  module _ (t : AreTied v.member v.entries) where
    -- the cell is as its word tells
    cells_now : listing v.member.limits.cells (contents_in after) ≡ set (listing v.member.limits.cells (contents_in v)) cell (contents_by word)
    cells_now =
        let now : contents_in after cell ≡ contents_by word = ap contents_by (get_or-set_same v.member.words cell word 0
        (let l = is.inside in let g : length v.member.words ≡ words_behind v.member.sizes = t.long in omega arith)) in
        listing_set v.member.limits.cells (contents_in v) (contents_in after) cell
        (λ i l ne. ap contents_by (get_or-set_other v.member.words cell i word 0 ne))
        ∙ ap (set (listing v.member.limits.cells (contents_in v)) cell) now

    pub world_by : (contents : Option CellContents) → contents_by word ≡ contents
        → world_of (record { member = m; entries = v.entries }) ≡ record (world_of v) { cells = set (world_of v).cells cell contents }
    world_by contents tells = world_cells ∙ ap (λ (cells : List (Option CellContents)). record (world_of v) { cells = cells })
        (cells_now ∙ ap (set (listing v.member.limits.cells (contents_in v)) cell) tells)

    pub world_written : 0 < word → world_of (record { member = m; entries = v.entries }) ≡ with_cell (world_of v) cell (contents_of word)
    world_written some = world_by (Some (contents_of word)) (full_contents word some)

    -- what was found
    pub found_full : IsLone v.member → 0 < found → entry_at (world_of v).cells cell ≡ Some (contents_of found)
    found_full lone = full_cell v t cell found is.inside (is.lone lone)

    pub found_empty : IsLone v.member → found ≡ 0 → IsEmptyAt (world_of v).cells cell
    found_empty lone = empty_cell v t cell found is.inside (is.lone lone)

  -- what is always true is true after it
  pub sound_written : (holds : T → List OwnerOrCell) → IsSound holds v → IsSound holds (record { member = m; entries = v.entries })
  sound_written = sound_noted v (set v.member.words cell word) as_long word_kept m is.member

  pub written_undisturbed : (p : LocalModel T J) → v ≡ p → (shown : T → Gv) (holds : T → List OwnerOrCell)
      → Undisturbed caller_of (λ (q : LocalModel T J). q.member.own) known_of (λ (q : LocalModel T J). Shows shown holds q) p
      (record { member = m; entries = v.entries })
  written_undisturbed = noted_undisturbed v (set v.member.words cell word) as_long word_kept m is.member

  -- for answers
  module _ (tied : WordsMatchValues v.member v.entries) (p : LocalModel T J) (same : v ≡ p) (exact : IsTrue (is_lone p.member)) where
    lone_here : IsLone v.member
    lone_here = lone_is v.member (subst (λ (q : LocalModel T J). IsTrue (is_lone q.member)) (sym same) exact)

    pub written_exact : (contents : CellContents) → 0 < word → contents_of word ≡ contents
        → world_of (record { member = m; entries = v.entries }) ≡ with_cell (world_of p) cell contents
    written_exact contents some tells = world_written (tied lone_here) some ∙ (λ d. with_cell (world_of (same d)) cell (tells d))

    pub full_exact : (contents : CellContents) → 0 < found → contents_of found ≡ contents → entry_at (world_of p).cells cell ≡ Some contents
    full_exact contents some tells = subst (λ (q : LocalModel T J). entry_at (world_of q).cells cell ≡ Some contents) same
        (found_full (tied lone_here) lone_here some ∙ ap Some tells)

    pub empty_exact : found ≡ 0 → IsEmptyAt (world_of p).cells cell
    empty_exact none = subst (λ (q : LocalModel T J). IsEmptyAt (world_of q).cells cell) same (found_empty (tied lone_here) lone_here none)

-- ---- it was in use
module _ {T J : Type 0} (v : LocalModel T J) (cell found word : ℕ) (m : LocalState J) (is : ChangesCell cell found word v.member m)
    (t : AreTied v.member v.entries) (lone : IsLone v.member) where
  -- what it held before
  pub full_before : entry_at (world_of v).cells cell ≡ Some (contents_of found)
  full_before = found_full v cell found word m is.writes t lone (is.full lone)

  pub held_before : held_in (entry_at (world_of v).cells cell) ≡ slice_get (held_slots found) 0
  held_before = ap held_in full_before

-- and is free
module _ {T J : Type 0} (v : LocalModel T J) (cell found : ℕ) (m : LocalState J) (is : FreesAt cell found v.member m) where
  pub tied_freed : AreTied v.member v.entries → AreTied m v.entries
  tied_freed = tied_written v cell found 0 m is.writes

  pub world_freed : AreTied v.member v.entries → world_of (record { member = m; entries = v.entries }) ≡ without_cell (world_of v) cell
  world_freed t = world_by v cell found 0 m is.writes t None refl

  pub freed_exact : WordsMatchValues v.member v.entries → (p : LocalModel T J) → v ≡ p → IsTrue (is_lone p.member)
      → world_of (record { member = m; entries = v.entries }) ≡ without_cell (world_of p) cell
  freed_exact tied p same exact = world_freed (tied (lone_is v.member (subst (λ (q : LocalModel T J). IsTrue (is_lone q.member)) (sym same) exact)))
      ∙ ap (λ (q : LocalModel T J). without_cell (world_of q) cell) same
