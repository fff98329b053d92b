-- Clones of stacks
use Rattle.std.specs.Prelude.{ℕ, ◌≡◌, List, [], ◌∷◌, ◌++◌, MatchOption, Option, None, Result, Ok, Err, true}
use Rattle.std.specs.List.{AllZip}
use Rattle.sdd_core.specs.declared.refused.Refused.TheVariants.{NoCell}
use Rattle.sdd_core.specs.declared.tag.Tag.{Tag}
use Rattle.sdd_core.specs.declared.tag.Tag.TheVariants as tag
use Rattle.sdd_participants.specs.Slab.{IsEmptyAt, IsFull}
use Rattle.sdd_participants.specs.declared.standing.Standing.TheVariants.{Shared as shared_by}
use Rattle.sdd_world_model.specs.World.{World, standing_at}
use Rattle.sdd_world_model.specs.WorldChanges.{made_as, nulled, owner_given}
use Rattle.sdd_space.specs.Shared.{cell_of}
use Rattle.sdd_lists.specs.declared.linked_entry.LinkedEntry.{LinkedEntry}
use Rattle.sdd_lists.specs.declared.stack.Stack.{Stack}
use Rattle.sdd_lists.specs.declared.unfinished.Unfinished.{Unfinished}
use Rattle.sdd_lists.specs.declared.unfinished.Unfinished.TheVariants.{NotBegun, Part}
use Rattle.sdd_lists.specs.declared.walks.Front.{Front}
use Rattle.sdd_lists.specs.Cloning.{AreBeside, IsBeside, RefusesClone}
use Rattle.sdd_lists.specs.Ends.{IsLastOf, appended, is_spent, through_last}
use Rattle.sdd_lists.specs.Entries.{link_of, value_of}
use Rattle.sdd_lists.specs.Lists.{Entry, IsList}
use Rattle.sdd_lists.specs.Queue.{QueueCells}
use Rattle.sdd_lists.specs.Stack.{IsStack, cell_in}
use Rattle.sdd_lists.specs.Walk.{shown_of}

-- of a stack one cell is both
abbrev pub both : ℕ → QueueCells
both c = record { oldest = c; newest = c }

module _ {T : Type 0} (link : T → ℕ) where
  -- the value is in slot k, which was free, and behind the last entry of the list in cell c that isn't deleted; the list alone owns it
  pub record IsAppended (w : World T) (p c : ℕ) (t : Tag) (es : List (Entry T)) (k : ℕ) (value : T) (new : World T) : Type 0 where
    pub free : IsEmptyAt w.standings k
    pub world : let last : World T = appended link (made_as w k value (shared_by 2)) p c t es (link value) k in new ≡ owner_given last p k (standing_at last k)
    pub list : IsList link new c t (through_last es ++ record { slot = k; value = value; tag = tag.None } ∷ [])

  -- it is the last entry of these that isn't deleted, or there is none
  abbrev pub LastIs : Option (Front T) → List (Entry T) → Type 0
  LastIs o es = MatchOption o (is_spent es ≡ true) (λ f. (e : Entry T) × (rest : List (Entry T)) × IsLastOf es e rest ×
      (f.entry.now ≡ e.value) × (cell_of f.link.now ≡ link e.value))

module _ {T : Type 0} where
  -- the value is in a new entry at the end of the stack, whose link is a cell that was free
  pub record AppendsTo (w : World (LinkedEntry T)) (p c : ℕ) (es : List (Entry (LinkedEntry T))) (pushed : T) (new : World (LinkedEntry T))
      (gs : List (Entry (LinkedEntry T))) : Type 0 where
    pub entry : LinkedEntry T
    pub slot : ℕ
    pub value : value_of entry ≡ pushed
    pub free : IsEmptyAt w.cells (link_of entry)
    pub last : IsAppended link_of (nulled w (link_of entry)) p c tag.None es slot entry new
    pub entries : gs ≡ through_last es ++ record { slot = slot; value = entry; tag = tag.None } ∷ []

  -- these values came to the end, one after another
  pub data AppendsAll (p c : ℕ) (w : World (LinkedEntry T)) (es : List (Entry (LinkedEntry T))) : List T → World (LinkedEntry T) →
      List (Entry (LinkedEntry T)) → Type 0 where
    starts : AppendsAll p c w es [] w es
    appends : (xs : List T) (v new : World (LinkedEntry T)) (fs gs : List (Entry (LinkedEntry T))) (x : T) → AppendsAll p c w es xs v fs →
        AppendsTo v p c fs x new gs → AppendsAll p c w es (xs ++ x ∷ []) new gs

  -- the stack of these entries has these values behind its own, in order
  pub record ExtendsStack (p c : ℕ) (w : World (LinkedEntry T)) (es : List (Entry (LinkedEntry T))) (xs : List T) (new : World (LinkedEntry T))
      (fs : List (Entry (LinkedEntry T))) : Type 0 where
    pub all : AppendsAll p c w es xs new fs
    pub list : IsStack new c fs
    pub values : shown_of fs ≡ shown_of es ++ xs

  -- the other stack has these entries, and neither its cell nor a link of them is this stack's
  pub record IsStackBeside (w : World (LinkedEntry T)) (from : ℕ) (es : List (Entry (LinkedEntry T))) (c : ℕ) (fs : List (Entry (LinkedEntry T))) :
      Type 0 where
    pub list : IsStack w from es
    pub begins : IsBeside from (both c) fs
    pub links : AreBeside es (both c) fs

module _ {T : Type 0} (is_clone : T → T → Type 0) (is_infallible : T → Type 0) where
  -- the stack in this cell, which was free, has clones of the first of what the stack of these entries shows, in order, and that is as before;
  -- the others are left
  pub record ClonesStack (p : ℕ) (w : World (LinkedEntry T)) (from c : ℕ) (es : List (Entry (LinkedEntry T))) (others : List T)
      (new : World (LinkedEntry T)) : Type 0 where
    pub free : IsEmptyAt w.cells c
    pub first : List T
    pub parts : shown_of es ≡ first ++ others
    pub clones : List T
    pub are : AllZip is_clone first clones
    pub entries : List (Entry (LinkedEntry T))
    pub fills : ExtendsStack p c (nulled w c) [] clones new entries
    pub kept : IsStack new from es

  -- what a clone of the stack of these entries answers, and what is there then
  abbrev pub StackClones : ℕ → World (LinkedEntry T) → ℕ → List (Entry (LinkedEntry T)) → Result (Stack T) (Unfinished (Stack T) T) →
      World (LinkedEntry T) → Type 0
  StackClones p w from es (Ok stack) new = ClonesStack p w from (cell_in stack) es [] new
  StackClones p w from es (Err (NotBegun why)) new = IsFull w.cells × (why ≡ NoCell) × (new ≡ w)
  StackClones p w from es (Err (Part stack item why)) new =
      (item ≡ None) × (u : T) × (us : List T) × ClonesStack p w from (cell_in stack) es (u ∷ us) new × RefusesClone is_clone is_infallible new u why
