-- Queues and stacks that are filled by an iterator
use Rattle.std.specs.Prelude.{ℕ, ◌≡◌, ◌⊎◌, List, [], ◌∷◌, ◌++◌, Option, None, Some, Result, Ok, Err, reverse}
use Rattle.std.specs.Iterator.{YieldsThen}
use Rattle.sdd_core.specs.declared.refused.Refused.{Refused}
use Rattle.sdd_core.specs.declared.refused.Refused.TheVariants.{NoCell, NoSlot}
use Rattle.sdd_core.specs.declared.tag.Tag.TheVariants as tag
use Rattle.sdd_participants.specs.Slab.{IsEmptyAt, IsFull}
use Rattle.sdd_world_model.specs.World.{World, standing_at}
use Rattle.sdd_world_model.specs.WorldChanges.{nulled, owner_given}
use Rattle.sdd_space.specs.Shared.{slot_of}
use Rattle.sdd_space.specs.Shared.{Shared}
use Rattle.sdd_lists.specs.declared.linked_entry.LinkedEntry.{LinkedEntry}
use Rattle.sdd_lists.specs.declared.stack.Stack.{Stack}
use Rattle.sdd_lists.specs.declared.unfinished.Unfinished.{Unfinished}
use Rattle.sdd_lists.specs.declared.unfinished.Unfinished.TheVariants.{NotBegun, Part}
use Rattle.sdd_lists.specs.Lists.{Entry, left}
use Rattle.sdd_lists.specs.Stack.{IsStack, PushesOnto, cell_in}
use Rattle.sdd_lists.specs.Walk.{shown_of}

module _ {T : Type 0} where
  -- a push is refused, the lowest reason first
  abbrev pub RefusesPush : World T → Refused → Type 0
  RefusesPush w why = IsFull w.standings × (why ≡ NoSlot) ⊎ ¬ (IsFull w.standings) × IsFull w.cells × (why ≡ NoCell)

  -- p pushed the value onto the stack of these entries, and gave up the owner that it was answered
  pub record AddsOnto (w : World (LinkedEntry T)) (p c : ℕ) (es : List (Entry (LinkedEntry T))) (value : T) (new : World (LinkedEntry T))
      (fs : List (Entry (LinkedEntry T))) : Type 0 where
    pub owner : Shared (LinkedEntry T)
    pub between : World (LinkedEntry T)
    pub pushes : PushesOnto w p c es value owner between
    pub world : new ≡ owner_given between p (slot_of owner) (standing_at between (slot_of owner))
    pub entries : fs ≡ record { slot = slot_of owner; value = pushes.entry; tag = tag.None } ∷ left es
    pub list : IsStack new c fs

  -- p did so with these values, one after another
  pub data AddsAll (p c : ℕ) (w : World (LinkedEntry T)) (es : List (Entry (LinkedEntry T))) : List T → World (LinkedEntry T) →
      List (Entry (LinkedEntry T)) → Type 0 where
    begins : AddsAll p c w es [] w es
    adds : (xs : List T) (v new : World (LinkedEntry T)) (fs gs : List (Entry (LinkedEntry T))) (x : T) → AddsAll p c w es xs v fs →
        AddsOnto v p c fs x new gs → AddsAll p c w es (xs ++ x ∷ []) new gs

  -- the stack of these entries was filled with values, and has them in front, the last one first
  pub record FillsStack (p c : ℕ) (w : World (LinkedEntry T)) (es : List (Entry (LinkedEntry T))) (xs : List T) (new : World (LinkedEntry T))
      (fs : List (Entry (LinkedEntry T))) : Type 0 where
    pub all : AddsAll p c w es xs new fs
    pub list : IsStack new c fs
    pub values : shown_of fs ≡ reverse xs ++ shown_of es

  -- what was built, all or in part
  abbrev pub stack_of : Result (Stack T) (Unfinished (Stack T) T) → Option (Stack T)
  stack_of (Ok stack) = Some stack
  stack_of (Err (NotBegun why)) = None
  stack_of (Err (Part stack item why)) = Some stack

  -- why it wasn't built whole
  abbrev pub why_not : {C : Type 0} → Unfinished C T → Refused
  why_not (NotBegun why) = why
  why_not (Part built item why) = why

module _ {I T : Type 0} (next : I → Option T → I → Type 0) where
  -- the iterator gave values until it ended, with which the stack in cell c is filled, which was free
  pub record BuildsStack (p : ℕ) (w : World (LinkedEntry T)) (c : ℕ) (start end : I) (last : Option T) (new : World (LinkedEntry T)) : Type 0 where
    pub free : IsEmptyAt w.cells c
    pub given : List T
    pub gives : YieldsThen next start given last end
    pub entries : List (Entry (LinkedEntry T))
    pub fills : FillsStack p c (nulled w c) [] given new entries

  -- what is answered where a stack is built of what an iterator gives
  abbrev pub Builds : ℕ → World (LinkedEntry T) → I → Result (Stack T) (Unfinished (Stack T) T) → I → World (LinkedEntry T) → Type 0
  Builds p w start (Ok stack) end new = BuildsStack p w (cell_in stack) start end None new
  Builds p w start (Err (NotBegun why)) end new = IsFull w.cells × (why ≡ NoCell) × (end ≡ start) × (new ≡ w)
  Builds p w start (Err (Part stack None why)) end new = ⊥
  Builds p w start (Err (Part stack (Some item) why)) end new =
      BuildsStack p w (cell_in stack) start end (Some item) new × RefusesPush new why
