-- What a write to the word of a pointer is for the world of a lone participant
use Rattle.std.proofs.Common.{◌≡◌, ℕ, IsTrue, List, Some, length, get_or, set, sym, refl, ap, ◌∙◌, subst, arith, length-set, get_or-set_other, get_or-set_same}
use base.Stored.{Gv}
use Rattle.sdd_core.specs.declared.tag.Tag.TheVariants.{None as no_tag}
use Rattle.sdd_participants.specs.Slab.{IsEmptyAt}
use Rattle.sdd_participants.specs.declared.standing.RawCellContents.{RawCellContents}
use Rattle.sdd_domain_invariant.specs.Codes.{null_word}
use Rattle.sdd_domain_invariant.specs.Cells.CellWordSteps.{pointer_behind}
use Rattle.sdd_domain_invariant.specs.Slots.SlotSteps.{behind}
use Rattle.sdd_world_model.specs.OwnerOrCell.{OwnerOrCell}
use Rattle.sdd_space.specs.Undisturbed.{Undisturbed}
use Rattle.sdd_world_model.specs.World.{World, pointer_at}
use Rattle.sdd_world_model.specs.WorldChanges.{with_cell, with_pointer, pointing}
use Rattle.sdd_domain_steps.specs.Cells.{FindsPointer, MakesRaw, PointsAt}
use Rattle.sdd_domain_steps.specs.LocalState.{LocalState, IsLone, word_of}
use Rattle.sdd_domain_steps.specs.WordsAndValues.{AreTied, WordsMatchValues}
use Rattle.sdd_domain_steps.specs.Local.{LocalModel, listing, contents_by, pointer_by, contents_in, pointer_in, world_of}
use Rattle.sdd_domain_core.specs.Sound.{IsSound}
use Rattle.sdd_domain_core.specs.Space.{Shows, is_lone, caller_of, known_of}
use Rattle.sdd_domain_steps.proofs.CellWords.{none_contents}
use Rattle.sdd_domain_core.proofs.CellWorld.{empty_exact, matched_written, sound_written, tied_written, world_written, written_undisturbed}
use Rattle.sdd_domain_core.proofs.GuardCalls.{lone_is}
use Rattle.sdd_domain_core.proofs.Listings.{listing_get, listing_same, listing_set}
use Rattle.sdd_domain_core.proofs.NotedWorld.{matched_noted, noted_undisturbed, sound_noted, tied_noted, world_noted}

-- what is found is what its world says
module _ {T J : Type 0} (v : LocalModel T J) (cell : ℕ) (found : RawCellContents) (is : FindsPointer cell found v.member) where
  found_pointer : AreTied v.member v.entries → IsLone v.member → pointer_at (world_of v) cell ≡ Some found
  found_pointer t lone = let a = t.all_cells in let l = is.inside in
      listing_get v.member.limits.cells (pointer_in v) cell (omega arith) ∙ ap (λ (q : RawCellContents). Some q) (is.lone lone)

  pub found_exact : WordsMatchValues v.member v.entries → (p : LocalModel T J) → v ≡ p → IsTrue (is_lone p.member)
      → pointer_at (world_of p) cell ≡ Some found
  found_exact tied p same exact = let lone = lone_is v.member (subst (λ (q : LocalModel T J). IsTrue (is_lone q.member)) (sym same) exact) in
      subst (λ (q : LocalModel T J). pointer_at (world_of q) cell ≡ Some found) same (found_pointer (tied lone) lone)

-- the word was written
module _ {T J : Type 0} (v : LocalModel T J) (cell : ℕ) (found now : RawCellContents) (m : LocalState J) (is : PointsAt cell found now v.member m) where
  abbrev words : List ℕ
  words = set v.member.words (pointer_behind v.member.sizes cell) is.word

  abbrev after : LocalModel T J
  after = record { member = record v.member { words = words }; entries = v.entries }

  as_long : length words ≡ length v.member.words
  as_long = length-set v.member.words (pointer_behind v.member.sizes cell) is.word

  word_kept : (i : ℕ) → get_or words (behind v.member.sizes i) 0 ≡ word_of v.member i
  word_kept i = get_or-set_other v.member.words (pointer_behind v.member.sizes cell) (behind v.member.sizes i) is.word 0
      (λ e. let l = is.inside in omega arith)

  pub finds_before : FindsPointer cell found v.member
  finds_before = record { inside = is.inside; lone = is.lone }

  pub matched_pointed : WordsMatchValues v.member v.entries → WordsMatchValues m v.entries
  matched_pointed = matched_noted v words as_long word_kept m is.member

  pub sound_pointed : (holds : T → List OwnerOrCell) → IsSound holds v → IsSound holds (record { member = m; entries = v.entries })
  sound_pointed = sound_noted v words as_long word_kept m is.member

  pub pointed_undisturbed : (p : LocalModel T J) → v ≡ p → (shown : T → Gv) (holds : T → List OwnerOrCell)
      → Undisturbed caller_of (λ (q : LocalModel T J). q.member.own) known_of (λ (q : LocalModel T J). Shows shown holds q) p
      (record { member = m; entries = v.entries })
  pointed_undisturbed = noted_undisturbed v words as_long word_kept m is.member

  -- in its world the cell points to that, and nothing else is another
  pub world_pointed : AreTied v.member v.entries → world_of (record { member = m; entries = v.entries }) ≡ with_pointer (world_of v) cell now
  world_pointed t = let n : ℕ = v.member.limits.cells in let all = t.all_cells in let long = t.long in let inside = is.inside in
      let cells : listing n (contents_in after) ≡ listing n (contents_in v) = listing_same n (contents_in v) (contents_in after)
      (λ i l. ap contents_by (get_or-set_other v.member.words (pointer_behind v.member.sizes cell) i is.word 0 (λ e. omega arith))) in
      let here : pointer_in after cell ≡ now = ap pointer_by (get_or-set_same v.member.words (pointer_behind v.member.sizes cell) is.word 0 (omega arith))
      ∙ is.tells in
      let pointers : listing n (pointer_in after) ≡ set (listing n (pointer_in v)) cell now = listing_set n (pointer_in v) (pointer_in after) cell
      (λ i l ne. ap pointer_by (get_or-set_other v.member.words (pointer_behind v.member.sizes cell) (pointer_behind v.member.sizes i) is.word 0
      (λ e. ne (omega arith))))
      ∙ ap (set (listing n (pointer_in v)) cell) here in
      world_noted v words as_long word_kept m is.member ∙ (λ d. record (world_of v) { cells = cells d; pointers = pointers d })

  pub pointed_exact : WordsMatchValues v.member v.entries → (p : LocalModel T J) → v ≡ p → IsTrue (is_lone p.member)
      → world_of (record { member = m; entries = v.entries }) ≡ with_pointer (world_of p) cell now
  pointed_exact tied p same exact = world_pointed (tied (lone_is v.member (subst (λ (q : LocalModel T J). IsTrue (is_lone q.member)) (sym same) exact)))
      ∙ ap (λ (q : LocalModel T J). with_pointer (world_of q) cell now) same

-- a cell was claimed, and its pointer written
module _ {T J : Type 0} (v : LocalModel T J) (cell : ℕ) (pointer : RawCellContents) (m : LocalState J) (is : MakesRaw cell pointer v.member m) where
  abbrev reserved : LocalModel T J
  reserved = record { member = is.reserved; entries = v.entries }

  pub matched_made : WordsMatchValues v.member v.entries → WordsMatchValues m v.entries
  matched_made tied = matched_pointed reserved cell is.last pointer m is.points (matched_written v cell 0 (null_word 0) is.reserved is.reserves tied)

  pub sound_made : (holds : T → List OwnerOrCell) → IsSound holds v → IsSound holds (record { member = m; entries = v.entries })
  sound_made holds sound = sound_pointed reserved cell is.last pointer m is.points holds
      (sound_written v cell 0 (null_word 0) is.reserved is.reserves holds sound)

  pub made_undisturbed : (p : LocalModel T J) → v ≡ p → (shown : T → Gv) (holds : T → List OwnerOrCell)
      → Undisturbed caller_of (λ (q : LocalModel T J). q.member.own) known_of (λ (q : LocalModel T J). Shows shown holds q) p
      (record { member = m; entries = v.entries })
  made_undisturbed p same shown holds = let a = written_undisturbed v cell 0 (null_word 0) is.reserved is.reserves p same shown holds in
      let b = pointed_undisturbed reserved cell is.last pointer m is.points reserved refl shown holds in record {
        caller = b.caller ∙ a.caller;
        own = b.own ∙ a.own;
        known = record { told = let l = a.known.told in let l' = b.known.told in omega arith; since = b.known.since ∙ a.known.since };
        shown = λ i u h. b.shown i u (a.shown i u h);
      }

  world_made : AreTied v.member v.entries → world_of (record { member = m; entries = v.entries }) ≡ pointing (world_of v) cell pointer
  world_made t = world_pointed reserved cell is.last pointer m is.points (tied_written v cell 0 (null_word 0) is.reserved is.reserves t)
      ∙ ap (λ (w : World T). with_pointer w cell pointer) (world_written v cell 0 (null_word 0) is.reserved is.reserves t (omega arith)
      ∙ ap (with_cell (world_of v) cell) (none_contents no_tag 0 refl))

  module _ (tied : WordsMatchValues v.member v.entries) (p : LocalModel T J) (same : v ≡ p) (exact : IsTrue (is_lone p.member)) where
    pub made_exact : world_of (record { member = m; entries = v.entries }) ≡ pointing (world_of p) cell pointer
    made_exact = world_made (tied (lone_is v.member (subst (λ (q : LocalModel T J). IsTrue (is_lone q.member)) (sym same) exact)))
        ∙ ap (λ (q : LocalModel T J). pointing (world_of q) cell pointer) same

    pub made_empty : IsEmptyAt (world_of p).cells cell
    made_empty = empty_exact v cell 0 (null_word 0) is.reserved is.reserves tied p same exact refl
