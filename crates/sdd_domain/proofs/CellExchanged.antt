-- What an exchange of a cell's owner is for the participant, which looks at the new owner's item first, and through another pointer where it was refused
use Rattle.std.proofs.Common.{◌≡◌, ◌≢◌, ℕ, ◌<◌, IsTrue, List, None, Some, slice_index_or, sym, ap, ◌∙◌, subst}
use base.Stored.{Gv}
use denote.RattleType.{RattleType}
use Rattle.sdd_participants.specs.Slab.{entry_at}
use Rattle.sdd_participants.specs.declared.standing.CellContents.{CellContents}
use Rattle.sdd_shared_values.specs.SharedValues.{showing}
use Rattle.sdd_world_model.specs.OwnerOrCell.{OwnerOrCell}
use Rattle.sdd_space.specs.Ptr.{PtrIsShown, cell_seen}
use Rattle.sdd_space.specs.declared.ptr.Ptr.{Ptr}
use Rattle.sdd_world_model.specs.World.{World}
use Rattle.sdd_world_model.specs.WorldChanges.{with_cell}
use Rattle.sdd_domain_steps.specs.Cells.{ChangesCell, FindsAt, LooksThrough}
use Rattle.sdd_domain_steps.specs.Local.{LocalModel, contents_of, world_of}
use Rattle.sdd_domain_steps.specs.LocalState.{IsLone, LocalState, cell_word_of}
use Rattle.sdd_domain_core.specs.Space.{Shows, is_lone}
use Rattle.sdd_domain_steps.specs.WordsAndValues.{WordsMatchValues}
use Rattle.sdd_domain_core.proofs.CellWorld.{found_full, full_cell, world_written}
use Rattle.sdd_domain.proofs.Pointers.{keeps_pointer, through_more, through_shown, through_step, through_world}
use Rattle.sdd_domain.proofs.Steps.{IsStep, lone_begun, same_step, sees_tied, step_then, writes_step}

module _ {J : Type 0} (R : RattleType) (holds : R.Denot → List OwnerOrCell) (v : LocalModel R.Denot J) (m : LocalState J) (now : Ptr R.Denot)
    (looks : LooksThrough (showing R) holds now v.member m) (cell : ℕ) where
  abbrev looked : LocalModel R.Denot J
  looked = record { member = m; entries = v.entries }

  first_step : IsStep (showing R) holds v looked
  first_step = through_step R holds v m now looks

  lone_looked : IsLone v.member → IsLone m
  lone_looked lone = ap (λ (y : LocalState J). y.limits.participants) (through_more R holds v m now looks).member ∙ lone

  tied_looked : WordsMatchValues v.member v.entries → WordsMatchValues m v.entries
  tied_looked = sees_tied v m (through_more R holds v m now looks)

  world_looked : world_of looked ≡ world_of v
  world_looked = through_world R holds v m now looks

  -- ---- the cell has the new owner
  module _ (found word : ℕ) (n : LocalState J) (is : ChangesCell cell found word m n) where
    abbrev exchanged : LocalModel R.Denot J
    exchanged = record { member = n; entries = v.entries }

    last_step : IsStep (showing R) holds looked exchanged
    last_step = writes_step (showing R) holds looked n cell found word is.writes

    pub exchanged_step : IsStep (showing R) holds v exchanged
    exchanged_step = step_then (showing R) holds v looked exchanged first_step last_step

    module _ (tied : WordsMatchValues v.member v.entries) where
      pub exchanged_shown : ((place : ℕ) (y : R.Denot) (g : Gv) → slice_index_or v.entries place None ≡ Some (y, g) → g ≡ showing R y)
          → PtrIsShown (Shows (showing R) holds exchanged) now
      exchanged_shown codes = keeps_pointer (Shows (showing R) holds looked) (Shows (showing R) holds exchanged) now
          (through_shown R holds v m tied codes now looks) (last_step.quiet (tied_looked tied)).shown

      pub exchanged_exact : (p : LocalModel R.Denot J) → v ≡ p → IsTrue (is_lone p.member) → (before contents : CellContents) → 0 < word
          → contents_of word ≡ contents → contents_of found ≡ before
          → (entry_at (world_of p).cells cell ≡ Some before) × (world_of exchanged ≡ with_cell (world_of p) cell contents)
      exchanged_exact p same exact before contents some tells told =
          let lone = lone_looked (lone_begun v p same exact) in
          let worlds : world_of looked ≡ world_of p = world_looked ∙ ap world_of same in let t = tied_looked tied lone in (
            subst (λ (w : World R.Denot). entry_at w.cells cell ≡ Some before) worlds
                (found_full looked cell found word n is.writes t lone (is.full lone) ∙ ap Some told),
            world_written looked cell found word n is.writes t some ∙ (λ d. with_cell (worlds d) cell (tells d)),
          )

  -- ---- it was refused, and another pointer was loaded
  module _ (n : LocalState J) (same : n ≡ m) (k : LocalState J) (ptr : Ptr R.Denot) (loads : LooksThrough (showing R) holds ptr n k) where
    abbrev refused : LocalModel R.Denot J
    refused = record { member = n; entries = v.entries }

    abbrev loaded : LocalModel R.Denot J
    loaded = record { member = k; entries = v.entries }

    refused_first : IsStep (showing R) holds v refused
    refused_first = step_then (showing R) holds v looked refused first_step (same_step (showing R) holds looked n same)

    pub refused_step : IsStep (showing R) holds v loaded
    refused_step = step_then (showing R) holds v refused loaded refused_first (through_step R holds refused k ptr loads)

    module _ (tied : WordsMatchValues v.member v.entries) where
      pub refused_shown : ((place : ℕ) (y : R.Denot) (g : Gv) → slice_index_or v.entries place None ≡ Some (y, g) → g ≡ showing R y)
          → PtrIsShown (Shows (showing R) holds loaded) ptr
      refused_shown codes = through_shown R holds refused k (refused_first.tied tied) codes ptr loads

      pub refused_exact : (p : LocalModel R.Denot J) → v ≡ p → IsTrue (is_lone p.member) → (word : ℕ) → FindsAt cell word n
          → contents_of word ≡ cell_seen ptr → (current : CellContents) → (IsLone m → contents_of (cell_word_of m cell) ≢ current)
          → (entry_at (world_of p).cells cell ≡ Some (cell_seen ptr)) × (cell_seen ptr ≢ current) × (world_of loaded ≡ world_of p)
      refused_exact p begun exact word finds tells current other =
          let alone = lone_looked (lone_begun v p begun exact) in
          let lone : IsLone n = subst (λ (y : LocalState J). IsLone y) (sym same) alone in
          let worlds : world_of refused ≡ world_of p = ap (λ (y : LocalState J). world_of {T = R.Denot} (record { member = y; entries = v.entries })) same
          ∙ (world_looked ∙ ap world_of begun) in (
            subst (λ (w : World R.Denot). entry_at w.cells cell ≡ Some (cell_seen ptr)) worlds
                (full_cell refused (refused_first.tied tied lone) cell word finds.inside (finds.found lone) (finds.full lone) ∙ ap Some tells),
            (λ is. other alone (ap (λ (y : LocalState J). contents_of (cell_word_of y cell)) (sym same)
                ∙ (ap contents_of (sym (finds.found lone)) ∙ (tells ∙ is)))),
            through_world R holds refused k ptr loads ∙ worlds,
          )
