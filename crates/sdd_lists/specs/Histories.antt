-- What was pushed, popped and deleted, by whoever called
use Rattle.std.specs.Prelude.{ℕ, ◌+◌, ◌≡◌, List, [], ◌∷◌, ◌++◌, Option, length, map, reverse}
use Rattle.sdd_core.specs.declared.tag.Tag.TheVariants as tag
use Rattle.sdd_world_model.specs.World.{World}
use Rattle.sdd_space.specs.Shared.{Shared}
use Rattle.sdd_lists.specs.Ends.{through_last}
use Rattle.sdd_lists.specs.Lists.{Entry, IsDrained, IsList, IsPushed, IsTaken, content, left}
use Rattle.sdd_lists.specs.Queue.{IsCleared, IsDequeued, IsEnqueued, IsQueue, QueueCells}

-- the first is the second without some, in order
pub data IsPartOf {T : Type 0} : List T → List T → Type 0 where
  no_more : IsPartOf [] []
  kept : (x : T) (xs ys : List T) → IsPartOf xs ys → IsPartOf (x ∷ xs) (x ∷ ys)
  left_out : (y : T) (xs ys : List T) → IsPartOf xs ys → IsPartOf xs (y ∷ ys)

module _ {T : Type 0} where
  -- the values of the entries that aren't deleted, in order
  abbrev pub values_of : List (Entry T) → List T
  values_of es = map (λ e. e.value) (content es)

  -- one value is gone, and the others are in order
  pub record LosesOne (before after : List (Entry T)) : Type 0 where
    pub part : IsPartOf (values_of after) (values_of before)
    pub one : length (values_of before) ≡ length (values_of after) + 1

module _ {T : Type 0} (link : T → ℕ) where
  -- from the queue es in world w on these values were pushed and popped, in order, and so many entries deleted otherwise, by whoever called;
  -- what else was called left the values of the queue
  pub data QueueHistory (q : QueueCells) (w : World T) (es : List (Entry T)) : List T → List T → ℕ → World T → List (Entry T) → Type 0 where
    begins : QueueHistory q w es [] [] 0 w es
    pushes : (pushed popped : List T) (gone p k : ℕ) (v new : World T) (fs : List (Entry T)) (second : Option ℕ) (x : T) →
        QueueHistory q w es pushed popped gone v fs → IsEnqueued link v p q fs second k x new →
        QueueHistory q w es (pushed ++ x ∷ []) popped gone new (through_last fs ++ record { slot = k; value = x; tag = tag.None } ∷ [])
    pops : (pushed popped : List T) (gone p : ℕ) (v new : World T) (fs rest : List (Entry T)) (second : Option ℕ) (e : Entry T) (owner : Shared T) →
        QueueHistory q w es pushed popped gone v fs → left fs ≡ e ∷ rest → IsDequeued link v p q fs second e rest owner new →
        QueueHistory q w es pushed (popped ++ e.value ∷ []) gone new rest
    clears : (pushed popped : List T) (gone p : ℕ) (v new : World T) (fs : List (Entry T)) (second : Option ℕ) →
        QueueHistory q w es pushed popped gone v fs → IsCleared link v p q fs second new → QueueHistory q w es pushed popped gone new []
    deletes : (pushed popped : List T) (gone : ℕ) (v new : World T) (fs gs : List (Entry T)) (second : Option ℕ) →
        QueueHistory q w es pushed popped gone v fs → IsQueue link new q gs second → LosesOne fs gs →
        QueueHistory q w es pushed popped (gone + 1) new gs
    others : (pushed popped : List T) (gone : ℕ) (v new : World T) (fs gs : List (Entry T)) (second : Option ℕ) →
        QueueHistory q w es pushed popped gone v fs → IsQueue link new q gs second → values_of gs ≡ values_of fs →
        QueueHistory q w es pushed popped gone new gs

  -- what was popped, and what is there then, is what was there and what was pushed, in order, without as many as were deleted
  pub record IsInOrder (es : List (Entry T)) (pushed popped : List T) (gone : ℕ) (fs : List (Entry T)) : Type 0 where
    pub part : IsPartOf (popped ++ values_of fs) (values_of es ++ pushed)
    pub each : length (values_of es ++ pushed) ≡ length (popped ++ values_of fs) + gone

  abbrev pub FirstInFirstOut : Type 0
  FirstInFirstOut =
      (q : QueueCells) (w : World T) (es : List (Entry T)) (pushed popped : List T) (gone : ℕ) (v : World T) (fs : List (Entry T)) →
      QueueHistory q w es pushed popped gone v fs → IsInOrder es pushed popped gone fs

  -- the same of the stack in cell c
  pub data StackHistory (c : ℕ) (w : World T) (es : List (Entry T)) : List T → List T → ℕ → World T → List (Entry T) → Type 0 where
    begins_at : StackHistory c w es [] [] 0 w es
    pushes_on : (pushed popped : List T) (gone p k : ℕ) (v new : World T) (fs : List (Entry T)) (x : T) →
        StackHistory c w es pushed popped gone v fs → IsPushed link v p c tag.None fs k x new →
        StackHistory c w es (pushed ++ x ∷ []) popped gone new (record { slot = k; value = x; tag = tag.None } ∷ left fs)
    pops_off : (pushed popped : List T) (gone p : ℕ) (v new : World T) (fs rest : List (Entry T)) (e : Entry T) (owner : Shared T) →
        StackHistory c w es pushed popped gone v fs → left fs ≡ e ∷ rest → IsTaken link v p c tag.None fs e rest owner new →
        StackHistory c w es pushed (popped ++ e.value ∷ []) gone new rest
    drains : (pushed popped : List T) (gone p : ℕ) (v new : World T) (fs : List (Entry T)) →
        StackHistory c w es pushed popped gone v fs → IsDrained link v p c tag.None fs new → StackHistory c w es pushed popped gone new []
    deletes_one : (pushed popped : List T) (gone : ℕ) (v new : World T) (fs gs : List (Entry T)) →
        StackHistory c w es pushed popped gone v fs → IsList link new c tag.None gs → LosesOne fs gs →
        StackHistory c w es pushed popped (gone + 1) new gs
    others_call : (pushed popped : List T) (gone : ℕ) (v new : World T) (fs gs : List (Entry T)) →
        StackHistory c w es pushed popped gone v fs → IsList link new c tag.None gs → values_of gs ≡ values_of fs →
        StackHistory c w es pushed popped gone new gs

  -- where nothing is popped or deleted the last one pushed comes first; where nothing is pushed or deleted what is popped was in front, in order
  pub record IsReversed (es : List (Entry T)) (pushed popped : List T) (gone : ℕ) (fs : List (Entry T)) : Type 0 where
    pub pushing : popped ≡ [] → gone ≡ 0 → values_of fs ≡ reverse pushed ++ values_of es
    pub popping : pushed ≡ [] → gone ≡ 0 → values_of es ≡ popped ++ values_of fs
    -- each value that was there or pushed is popped once, or there still, or was deleted
    pub each : length (values_of es) + length pushed ≡ length popped + length (values_of fs) + gone

  abbrev pub LastInFirstOut : Type 0
  LastInFirstOut =
      (c : ℕ) (w : World T) (es : List (Entry T)) (pushed popped : List T) (gone : ℕ) (v : World T) (fs : List (Entry T)) →
      StackHistory c w es pushed popped gone v fs → IsReversed es pushed popped gone fs
