-- What the calls make of the values in a queue, and in a stack
use Rattle.std.proofs.Common.{◌≡◌, ℕ, List, [], ◌∷◌, ◌++◌, Option, None, Some, sym, ap, subst, ◌∙◌}
use Rattle.std.specs.Prelude.{drop, map, slice_get, Result, Ok, Err, IfOk, IfErr, MatchOption, MatchResult}
use Rattle.std.proofs.lemmas.List.{map-append}
use Rattle.sdd_core.specs.declared.refused.Refused.{Refused}
use Rattle.sdd_core.specs.declared.tag.Tag.TheVariants as tag
use Rattle.sdd_world_model.specs.World.{World, standing_at, value_at}
use Rattle.sdd_world_model.specs.WorldChanges.{owner_given}
use Rattle.sdd_space.specs.Shared.{slot_of}
use Rattle.sdd_space.specs.Shared.{Shared}
use Rattle.sdd_lists.specs.declared.linked_entry.LinkedEntry.{LinkedEntry}
use Rattle.sdd_lists.specs.declared.queue.Queue.{Queue}
use Rattle.sdd_lists.specs.declared.stack.Stack.{Stack}
use Rattle.sdd_lists.specs.Entries.{link_of, value_of}
use Rattle.sdd_lists.specs.Histories.{values_of}
use Rattle.sdd_lists.specs.Lists.{AreLinked, Entry, IsDrained, IsTaken, Pops, left}
use Rattle.sdd_lists.specs.Queue.{Dequeues, IsCleared, IsDequeued, PushesBehind, cells_in, held_left}
use Rattle.sdd_lists.specs.Stack.{PushesOnto, cell_in}
use Rattle.sdd_lists.specs.Values.{QueueHas, ReleasesKeepValues, StackHas}
use Rattle.sdd_lists.specs.Walk.{shown_of}
use Rattle.sdd_lists.proofs.QueuePops.{queue-same}
use Rattle.sdd_lists.proofs.Lists.{bare, list-same}
use Rattle.sdd_lists.proofs.Order.{values-push}
use Rattle.sdd_lists.proofs.WalkPositions.{left-left, linked-left, shown-first, shown-left}

pub released-values : (T : Type 0) → ReleasesKeepValues T
released-values T = record {
  queue = λ w p k queue vs has. let same = bare w p k (standing_at w k) in (
    has.0,
    has.1,
    queue-same link_of w (owner_given w p k (standing_at w k)) (cells_in queue) has.0 has.1 same.cells same.values has.2,
    has.3,
  );
  stack = λ w p k stack vs has. let same = bare w p k (standing_at w k) in (
    has.0,
    list-same link_of w (owner_given w p k (standing_at w k)) (cell_in stack) tag.None has.0 same.cells same.values has.1,
    has.2,
  );
}

module _ {T : Type 0} (es : List (Entry (LinkedEntry T))) (vs : List T) (are : shown_of es ≡ vs) where
  -- the first that is left has the first value
  front-shown : (e : Entry (LinkedEntry T)) (rest : List (Entry (LinkedEntry T))) → left es ≡ e ∷ rest → vs ≡ value_of e.value ∷ shown_of rest
  front-shown e rest is =
      let front : left (e ∷ rest) ≡ e ∷ rest = ap left (sym is) ∙ left-left es ∙ is in
      sym are ∙ sym (shown-left es) ∙ ap shown_of is ∙ shown-first e rest front ∙ ap (λ (ys : List T). value_of e.value ∷ ys) (shown-left rest)

  -- where none is left there is no value
  none-shown : left es ≡ [] → vs ≡ []
  none-shown is = sym are ∙ sym (shown-left es) ∙ ap shown_of is

module _ {T : Type 0} (w new : World (LinkedEntry T)) (p : ℕ) (queue : Queue T) (vs : List T) (has : QueueHas w queue vs) where
  pub pushed-values : (x : T) (owner : Shared (LinkedEntry T)) → PushesBehind w p (cells_in queue) has.0 has.1 x owner new
      → QueueHas new queue (vs ++ x ∷ [])
  pushed-values x owner pushes = (
    _,
    Some (slot_of owner),
    pushes.queue.queue,
    ap (λ (ys : List (LinkedEntry T)). map value_of ys) (values-push (slot_of owner) pushes.entry has.0)
        ∙ map-append value_of (values_of has.0) (pushes.entry ∷ [])
        ∙ ap (λ (v : T). shown_of has.0 ++ v ∷ []) pushes.value
        ∙ ap (λ (ys : List T). ys ++ x ∷ []) has.3,
  )

  -- the oldest goes
  pub popped-values : (e : Entry (LinkedEntry T)) (rest : List (Entry (LinkedEntry T))) (owner : Shared (LinkedEntry T)) → left has.0 ≡ e ∷ rest
      → IsDequeued link_of w p (cells_in queue) has.0 has.1 e rest owner new → (slice_get vs 0 ≡ Some (value_of e.value)) × QueueHas new queue (drop 1 vs)
  popped-values e rest owner is taken =
      let parts : vs ≡ value_of e.value ∷ shown_of rest = front-shown has.0 vs has.3 e rest is in (
        ap (λ (ys : List T). slice_get ys 0) parts,
        (rest, held_left has.1 has.0, taken.queue, sym (ap (drop 1) parts)),
      )

  -- there is none
  pub cleared-values : IsCleared link_of w p (cells_in queue) has.0 has.1 new → (slice_get vs 0 ≡ None) × QueueHas new queue (drop 1 vs)
  cleared-values cleared = let parts : vs ≡ [] = none-shown has.0 vs has.3 cleared.none in
      (ap (λ (ys : List T). slice_get ys 0) parts, ([], None, cleared.queue, sym (ap (drop 1) parts)))

  -- what a push answers
  pub pushed-answer : (x : T) (why : T × Refused → Type 0) (r : Result (Shared (LinkedEntry T)) (T × Refused))
      → IfOk r (λ owner. PushesBehind w p (cells_in queue) has.0 has.1 x owner new) → IfErr r (λ e. (new ≡ w) × why e)
      → MatchResult r (λ _. QueueHas new queue (vs ++ x ∷ [])) (λ _. new ≡ w)
  pushed-answer x why (Ok owner) pushes refused = pushed-values x owner pushes
  pushed-answer x why (Err e) pushes refused = refused.0

  -- what a pop answers
  pub popped-answer : (shows : ℕ → LinkedEntry T → Type 0) → ((k : ℕ) (entry : LinkedEntry T) → value_at w k ≡ Some entry → shows k entry)
      → (r : Result (Option (Shared (LinkedEntry T))) Refused) → Dequeues link_of w p (cells_in queue) has.0 has.1 r new
      → MatchResult r (λ popped. QueueHas new queue (drop 1 vs) × MatchOption popped (slice_get vs 0 ≡ None)
      (λ owner. (entry : LinkedEntry T) × shows (slot_of owner) entry × (slice_get vs 0 ≡ Some (value_of entry)))) (λ _. new ≡ w)
  popped-answer shows still (Ok None) is = let all = cleared-values is in (all.1, all.0)
  popped-answer shows still (Ok (Some owner)) is =
      let e : Entry (LinkedEntry T) = is.0 in
      let rest : List (Entry (LinkedEntry T)) = is.1 in
      let all = popped-values e rest owner is.2 is.3 in
      let there = (subst (λ (ys : List (Entry (LinkedEntry T))). AreLinked link_of w ys) is.2 (linked-left link_of w has.0 has.2.list.linked)).0.there in (
        all.1,
        (e.value, subst (λ (k : ℕ). shows k e.value) (sym is.3.slot) (still e.slot e.value there), all.0),
      )
  popped-answer shows still (Err why) is = is.3.same

module _ {T : Type 0} (w new : World (LinkedEntry T)) (p : ℕ) (stack : Stack T) (vs : List T) (has : StackHas w stack vs) where
  pub pushed-onto : (x : T) (owner : Shared (LinkedEntry T)) → PushesOnto w p (cell_in stack) has.0 x owner new → StackHas new stack (x ∷ vs)
  pushed-onto x owner pushes = (
    _,
    pushes.list.list,
    ap (λ (v : T). v ∷ shown_of (left has.0)) pushes.value ∙ ap (λ (ys : List T). x ∷ ys) (shown-left has.0 ∙ has.2),
  )

  -- the newest goes
  pub popped-off : (e : Entry (LinkedEntry T)) (rest : List (Entry (LinkedEntry T))) (owner : Shared (LinkedEntry T)) → left has.0 ≡ e ∷ rest
      → IsTaken link_of w p (cell_in stack) tag.None has.0 e rest owner new
      → (slice_get vs 0 ≡ Some (value_of e.value)) × StackHas new stack (drop 1 vs)
  popped-off e rest owner is taken =
      let parts : vs ≡ value_of e.value ∷ shown_of rest = front-shown has.0 vs has.2 e rest is in
      (ap (λ (ys : List T). slice_get ys 0) parts, (rest, taken.list, sym (ap (drop 1) parts)))

  -- there is none
  pub drained-off : IsDrained link_of w p (cell_in stack) tag.None has.0 new → (slice_get vs 0 ≡ None) × StackHas new stack (drop 1 vs)
  drained-off drained = let parts : vs ≡ [] = none-shown has.0 vs has.2 drained.none in
      (ap (λ (ys : List T). slice_get ys 0) parts, ([], drained.list, sym (ap (drop 1) parts)))

  -- what a pop answers
  pub popped-off-answer : (shows : ℕ → LinkedEntry T → Type 0) → ((k : ℕ) (entry : LinkedEntry T) → value_at w k ≡ Some entry → shows k entry)
      → (r : Result (Option (Shared (LinkedEntry T))) Refused) → Pops link_of w p (cell_in stack) tag.None has.0 r new
      → MatchResult r (λ popped. StackHas new stack (drop 1 vs) × MatchOption popped (slice_get vs 0 ≡ None)
      (λ owner. (entry : LinkedEntry T) × shows (slot_of owner) entry × (slice_get vs 0 ≡ Some (value_of entry)))) (λ _. new ≡ w)
  popped-off-answer shows still (Ok None) is = let all = drained-off is in (all.1, all.0)
  popped-off-answer shows still (Ok (Some owner)) is =
      let e : Entry (LinkedEntry T) = is.0 in
      let rest : List (Entry (LinkedEntry T)) = is.1 in
      let all = popped-off e rest owner is.2 is.3 in
      let there = (subst (λ (ys : List (Entry (LinkedEntry T))). AreLinked link_of w ys) is.2 (linked-left link_of w has.0 has.1.linked)).0.there in (
        all.1,
        (e.value, subst (λ (k : ℕ). shows k e.value) (sym is.3.slot) (still e.slot e.value there), all.0),
      )
  popped-off-answer shows still (Err why) is = is.3.same
