-- What is always true of a state is true after a line that copies a queue or a stack, whether it is refused or not
use Rattle.sdd_script_model.proofs.Words.{◌≡◌, ◌≢◌, ◌+◌, ◌<◌, ◌≤◌, inl, inr, ℕ, List, [], ◌∷◌, ◌++◌, Bool, true, false, Option, Some, None, length, map, count_by, slice_index_or, slice_set, refl, sym, zero, suc, ap, ◌∙◌, subst, arith, ◌*◌, ◌^◌, not, cases_eq, length_push, length-set, OwnerOrCell, is_owner_of, times_held, World, IsPlaceOf, standing_at, value_at, nulled, spilled, without_cell, IsWhole, IsAmong, AreLinked, Entry, is_deleted, shown_of, IsQueue, QueueCells, queue_closed, Body, ArePlain, LosesNames, MakesQueueOf, MakesStackOf, AreNumbers, Begins, IsNumber, IsNamedQueue, BeginsLine, ScriptState, holding_at, in_world, shared_cell, with_items, with_queue, with_stack, IsSound, stacked, IsStack, stack_closed, Val, body_of, holdings_of, link_of, owner_in, if◌then◌else◌, content, entry_slots, common_steps, value_of}
use Rattle.sdd_core.specs.declared.tag.Tag.TheVariants.{None as no_tag}
use Rattle.sdd_lists.proofs.ListLength.{no-longer}
use Rattle.sdd_lists.proofs.Lists.{inside}
use Rattle.sdd_script_model.proofs.Lemmas.{LeavesSound, times-held, dated-kept, at-end, at-same, Frames, calls-then, filled-long, HoldsLess, null}
use Rattle.sdd_script_model.proofs.ContainerClose.{IsForgotten, IsLone, emptied-waits, forgotten-sound, spent-counts, spent-last}
use Rattle.sdd_script_model.proofs.Due.{whole-calls}
use Rattle.sdd_script_model.proofs.FillSound.{AreAllNumbers, IsFilled, filled_with, fills-queue, fills-stack, one-less, spilled-other, still-whole}
use Rattle.sdd_script_model.proofs.StackSound.{IsDatedWithin, dated-all}
use Rattle.sdd_script_model.proofs.StackPushSound.{leaves-then}
use Rattle.sdd_world_model.specs.OwnerOrCell as holding
use Rattle.sdd_script_model.proofs.QueueSound as queue
use Rattle.sdd_script_model.proofs.StackSound as stack

-- ---- numbers hold no owners

number-among : (w : World Val) (es : List (Entry Val)) → AreNumbers es → AreLinked link_of w es → (j : ℕ) → IsAmong j es → (x : Val) → value_at w j ≡ Some x →
    IsNumber (body_of x)
number-among w [] all linked j never x e = absurd never
number-among w (z ∷ zs) all linked j (inl here) x e =
    let both : Some z.value ≡ Some x = sym linked.0.there ∙ ap (λ (i : ℕ). value_at w i) here ∙ e in
    let same : z.value ≡ x = cc in
    subst (λ (v : Val). IsNumber (body_of v)) same all.0
number-among w (z ∷ zs) all linked j (inr there) x e = number-among w zs all.1 linked.1 j there x e

none-owned : (b : Body) → IsNumber b → owner_in b ≡ []
none-owned b h = grind (arith, common_steps)

holds-none : (v w : World Val) → HoldsLess v w → (es : List (Entry Val)) → AreNumbers es → AreLinked link_of v es → (j k : ℕ) → IsAmong j es →
    times_held holdings_of k (value_at w j) ≡ 0
holds-none v w less es numbers linked j k among = by (value_at w j) refl where
  by : (x : Option Val) → value_at w j ≡ x → times_held holdings_of k x ≡ 0
  by None e = refl
  by (Some x) e =
      let was = less j x e in
      let none = none-owned (body_of was.0) (number-among v es numbers linked j among was.0 was.1) in
      times-held x k ∙ ap (λ (hs : List OwnerOrCell). count_by (is_owner_of k) hs) (was.3 ∙ none)

-- what a list of numbers shows
numbers-content : (es : List (Entry Val)) → AreNumbers es → AreNumbers (content es)
numbers-content [] all = tt
numbers-content (e ∷ es) all = by (is_deleted e) (numbers-content es all.1) where
  by : (b : Bool) → AreNumbers (content es) → AreNumbers (if not b then e ∷ content es else content es)
  by true more = more
  by false more = (all.0, more)

numbers-in : (es : List (Entry Val)) → AreNumbers es → AreAllNumbers (map value_of (map (λ (e : Entry Val). e.value) es))
numbers-in [] all = tt
numbers-in (e ∷ es) all = (all.0, numbers-in es all.1)

pub shown-numbers : (es : List (Entry Val)) → AreNumbers es → AreAllNumbers (shown_of es)
shown-numbers es all = numbers-in (content es) (numbers-content es all)

pub first-numbers : (xs ys : List Body) → AreAllNumbers (xs ++ ys) → AreAllNumbers xs
first-numbers [] ys all = tt
first-numbers (x ∷ xs) ys all = (all.0, first-numbers xs ys all.1)

-- entries lie in slots
slots-inside : (w : World Val) (es : List (Entry Val)) → AreLinked link_of w es → (k i : ℕ) → k < length (entry_slots es) →
    slice_index_or (entry_slots es) k i < length w.values
slots-inside w [] linked k i lt = absurd (omega (arith, lt))
slots-inside w (e ∷ es) linked zero i lt = inside w.values e.slot e.value linked.0.there
slots-inside w (e ∷ es) linked (suc k) i lt = slots-inside w es linked.1 k i (omega (arith, lt))

-- as many entries as there are slots come in a line at most
room-left : (d : ScriptState) (w new : World Val) (es : List (Entry Val)) → BeginsLine d → w.tally.made ≤ d.world.tally.made + length es →
    length w.standings ≡ length d.world.standings → new.tally.made ≡ w.tally.made → IsWhole w → AreLinked link_of w es → IsSound d →
    new.tally.made ≤ length d.slots + d.moment * 2 ^ 32
room-left d w new es line made slots same whole linked s =
    let few = no-longer link_of w es linked in
    let long = filled-long w.values w.standings whole.filled in
    omega (arith, line.made, made, slots, same, few, long, s.stocked.names, s.stocked.few)

-- ---- a queue

module _ (d : ScriptState) (s : IsSound d) (whole : IsWhole d.world) (p : ℕ) (live : IsPlaceOf d.world p) (values : List Body) (numbers : AreAllNumbers values)
    (q : QueueCells) (fs : List (Entry Val)) (held : Option ℕ) (w : World Val) (makes : MakesQueueOf d.world p values q fs held w)
    (long : length d.queues ≡ length d.newest) where
  abbrev n : ℕ
  n = length d.queues

  abbrev begun : ScriptState
  begun = in_world (with_queue d q.oldest q.newest) (nulled (nulled d.world q.oldest) q.newest)

  begins : LeavesSound d begun
  begins = queue.queue_begun-leaves d s whole p live q makes.oldest makes.newest makes.two long

  begun-whole : IsWhole begun.world
  begun-whole = whole-calls begins.calls whole

  oldest-is : shared_cell (holding_at begun.queues n) ≡ Some q.oldest
  oldest-is = ap shared_cell (at-end d.queues (Some (holding.atomic_shared q.oldest d.world.home.cells)) None)

  newest-is : shared_cell (holding_at begun.newest n) ≡ Some q.newest
  newest-is = grind (arith, common_steps)

  empty : IsQueue link_of begun.world q [] None
  empty = grind (arith, common_steps)

  filled : IsFilled begun begins.sound begun-whole p live w fs held × IsQueue link_of w q fs held
  filled = fills-queue begun begins.sound begun-whole p live n q oldest-is newest-is empty makes.fills.all numbers

  -- none of its entries is marked, and there are no more than slots
  pub queue-plain : ArePlain fs
  queue-plain = filled.0.plain

  pub queue-few : length fs ≤ length d.world.standings
  queue-few =
      let whole_now = still-whole begun begins.sound begun-whole p live w fs held filled.0 in
      omega (
        arith,
        no-longer link_of w fs filled.1.list.linked,
        filled-long w.values w.standings whole_now.filled,
        filled.0.slots,
      )

  pub queue-inside : (k i : ℕ) → k < length (entry_slots fs) → slice_index_or (entry_slots fs) k i < length d.world.standings
  queue-inside k i lt =
      let whole_now = still-whole begun begins.sound begun-whole p live w fs held filled.0 in
      omega (arith, slots-inside w fs filled.1.list.linked k i lt, filled-long w.values w.standings whole_now.filled, filled.0.slots)

  -- it has them, and p is a place still
  pub queue-holds : IsQueue link_of w q fs held
  queue-holds = filled.1

  pub queue-placed : IsPlaceOf w p
  queue-placed = filled.0.placed

  pub queue-copied : LeavesSound d (in_world (with_items (with_queue d q.oldest q.newest) (entry_slots fs)) w)
  queue-copied =
      let new : ScriptState = in_world (with_items (with_queue d q.oldest q.newest) (entry_slots fs)) w in
      leaves-then begins filled.0.leaves (dated-kept d new refl (λ j waits. sym (filled.0.waits j) ∙ waits))

  -- ---- it is refused, and closed

  module _ (line : BeginsLine d) (names : List (Option ℕ)) (dates : List ℕ) where
    abbrev pub after_queue_refused : ScriptState
    after_queue_refused = record d { world = queue_closed link_of w p q fs held; names = names; dates = dates }

    abbrev at_end : ScriptState
    at_end = filled_with begun begins.sound begun-whole p live w fs

    end-whole : IsWhole w
    end-whole = still-whole begun begins.sound begun-whole p live w fs held filled.0

    named-so : IsNamedQueue at_end n q fs held
    named-so = record { oldest = oldest-is; newest = newest-is; queue = filled.1 }

    frames : Frames w (queue_closed link_of w p q fs held)
    frames = queue.queue_closed-frames at_end filled.0.leaves.sound end-whole p filled.0.placed n q fs held named-so dates

    pub queue-long : length after_queue_refused.world.standings ≡ length d.world.standings
    queue-long = frames.slots.slots ∙ filled.0.slots

    module _ (lost : LosesNames d after_queue_refused) (within : IsDatedWithin d after_queue_refused) where
      within-end : IsDatedWithin at_end (queue.after_queue_closed at_end filled.0.leaves.sound end-whole p filled.0.placed n q fs held named-so dates)
      within-end = ((λ j lt. rw (filled.0.waits j) (within.0 j lt)), within.1)

      closes : LeavesSound at_end (queue.after_queue_closed at_end filled.0.leaves.sound end-whole p filled.0.placed n q fs held named-so dates)
      closes = queue.queue_closed-leaves at_end filled.0.leaves.sound end-whole p filled.0.placed n q fs held named-so dates within-end

      abbrev freed : World Val
      freed = spilled (without_cell w q.newest) p held

      lone-freed : (j : ℕ) → IsAmong j fs → IsLone freed j
      lone-freed j among = by held refl where
        by : (o : Option ℕ) → held ≡ o → IsLone freed j
        by None e =
            let off : held ≢ Some j = λ same. (let never : None ≡ Some j = sym e ∙ same in cc) in
            inl (spilled-other (without_cell w q.newest) p held j off ∙ filled.0.lone.lone j among off)
        by (Some i) e = elim (cases_eq i j) [
          | inl same ↦
              (let is : held ≡ Some j = e ∙ ap (λ (m : ℕ). Some m) same in
              inl (ap (λ (o : Option ℕ). standing_at (spilled (without_cell w q.newest) p o) j) is
              ∙ one-less (without_cell w q.newest) p j 2 (filled.0.lone.newest j is) refl))
          | inr ne ↦
              (let off : held ≢ Some j = λ same. ne (let both : Some i ≡ Some j = sym e ∙ same in cc) in
              inl (spilled-other (without_cell w q.newest) p held j off ∙ filled.0.lone.lone j among off))
        ]

      forgotten : IsForgotten after_queue_refused d fs
          (slice_set begun.queues n None) (slice_set begun.newest n None) d.stacks
      forgotten = record {
        lost = lost;
        taken = λ j some. filled.0.taken j (frames.slots.taken j some);
        fresh = filled.0.fresh;
        waits = λ j among. emptied-waits freed p q.oldest no_tag fs lone-freed j (inr among);
        bare = λ j k among. holds-none w after_queue_refused.world frames.values fs
            (queue.its-numbers at_end filled.0.leaves.sound end-whole n q oldest-is newest-is fs filled.1.list) filled.1.list.linked j k among;
        in_queues = λ m. spent-last d.queues (holding.atomic_shared q.oldest d.world.home.cells) m;
        in_newest = λ m.
            ap (λ (i : ℕ). holding_at (slice_set begun.newest i None) m) long
            ∙ spent-last d.newest (holding.atomic_shared q.newest d.world.home.cells) m;
        in_stacks = λ m. refl;
        counts = λ u. omega (
          arith,
          spent-counts d.queues (holding.atomic_shared q.oldest d.world.home.cells) q.oldest refl u,
          spent-counts d.newest (holding.atomic_shared q.newest d.world.home.cells) q.newest refl u,
          ap (λ (i : ℕ). stacked (slice_set begun.newest i None) u) long,
        );
        more = omega (
          arith,
          length-set begun.queues n None,
          length_push d.queues (Some (holding.atomic_shared q.oldest d.world.home.cells)),
        );
        room = room-left d w after_queue_refused.world fs line filled.0.made filled.0.slots frames.slots.made end-whole filled.1.list.linked s;
      }

      pub queue-refused : LeavesSound d after_queue_refused
      queue-refused =
          let sound = forgotten-sound after_queue_refused d fs (slice_set begun.queues n None) (slice_set begun.newest n None) d.stacks closes.sound forgotten
          in
          record {
            line = refl;
            places = refl;
            sound = sound;
            dated = dated-all d after_queue_refused s.stocked (frames.slots.slots ∙ filled.0.slots) within;
            calls = calls-then begins.calls (calls-then filled.0.leaves.calls closes.calls);
            home = closes.home ∙ filled.0.leaves.home ∙ begins.home;
          }

-- ---- a stack

module _ (d : ScriptState) (s : IsSound d) (whole : IsWhole d.world) (p : ℕ) (live : IsPlaceOf d.world p) (values : List Body) (numbers : AreAllNumbers values)
    (c : ℕ) (fs : List (Entry Val)) (w : World Val) (makes : MakesStackOf d.world p values c fs w) where
  abbrev m : ℕ
  m = length d.stacks

  abbrev started : ScriptState
  started = in_world (with_stack d c) (nulled d.world c)

  starting : LeavesSound d started
  starting = stack.begun-leaves d s whole p c live makes.free

  started-whole : IsWhole started.world
  started-whole = whole-calls starting.calls whole

  cell-is : shared_cell (holding_at started.stacks m) ≡ Some c
  cell-is = ap shared_cell (at-end d.stacks (Some (holding.atomic_shared c d.world.home.cells)) None)

  nothing : Begins started.world c []
  nothing = record { begins = at-same d.world.cells c (Some null) None makes.free.0; linked = tt }

  stocked : IsFilled started starting.sound started-whole p live w fs None × Begins w c fs
  stocked = fills-stack started starting.sound started-whole p live m c cell-is nothing makes.fills.all numbers

  pub stack-plain : ArePlain fs
  stack-plain = stocked.0.plain

  pub stack-few : length fs ≤ length d.world.standings
  stack-few =
      let whole_now = still-whole started starting.sound started-whole p live w fs None stocked.0 in
      omega (arith, no-longer link_of w fs stocked.1.linked, filled-long w.values w.standings whole_now.filled, stocked.0.slots)

  pub stack-inside : (k i : ℕ) → k < length (entry_slots fs) → slice_index_or (entry_slots fs) k i < length d.world.standings
  stack-inside k i lt =
      let whole_now = still-whole started starting.sound started-whole p live w fs None stocked.0 in
      omega (arith, slots-inside w fs stocked.1.linked k i lt, filled-long w.values w.standings whole_now.filled, stocked.0.slots)

  pub stack-holds : Begins w c fs
  stack-holds = stocked.1

  pub stack-placed : IsPlaceOf w p
  stack-placed = stocked.0.placed

  pub stack-copied : LeavesSound d (in_world (with_items (with_stack d c) (entry_slots fs)) w)
  stack-copied =
      let new : ScriptState = in_world (with_items (with_stack d c) (entry_slots fs)) w in
      leaves-then starting stocked.0.leaves (dated-kept d new refl (λ j waits. sym (stocked.0.waits j) ∙ waits))

  module _ (line : BeginsLine d) (names : List (Option ℕ)) (dates : List ℕ) where
    abbrev pub after_stack_refused : ScriptState
    after_stack_refused = record d { world = stack_closed w p c fs; names = names; dates = dates }

    abbrev in_end : ScriptState
    in_end = filled_with started starting.sound started-whole p live w fs

    whole-end : IsWhole w
    whole-end = still-whole started starting.sound started-whole p live w fs None stocked.0

    is-so : IsStack in_end m c fs
    is-so = record { named = cell-is; list = stocked.1 }

    kept : Frames w (stack_closed w p c fs)
    kept = stack.stack_closed-frames in_end stocked.0.leaves.sound whole-end p c stocked.0.placed m fs is-so dates

    pub stack-long : length after_stack_refused.world.standings ≡ length d.world.standings
    stack-long = kept.slots.slots ∙ stocked.0.slots

    module _ (lost : LosesNames d after_stack_refused) (within : IsDatedWithin d after_stack_refused) where
      dated-end : IsDatedWithin in_end (stack.after_stack_closed in_end stocked.0.leaves.sound whole-end p c stocked.0.placed m fs is-so dates)
      dated-end = ((λ j lt. rw (stocked.0.waits j) (within.0 j lt)), within.1)

      ends : LeavesSound in_end (stack.after_stack_closed in_end stocked.0.leaves.sound whole-end p c stocked.0.placed m fs is-so dates)
      ends = stack.stack_closed-leaves in_end stocked.0.leaves.sound whole-end p c stocked.0.placed m fs is-so dates dated-end

      left : IsForgotten after_stack_refused d fs d.queues d.newest (slice_set started.stacks m None)
      left = record {
        lost = lost;
        taken = λ j some. stocked.0.taken j (kept.slots.taken j some);
        fresh = stocked.0.fresh;
        waits = λ j among.
            emptied-waits w p c no_tag fs (λ i at. inl (stocked.0.lone.lone i at (λ same. (let never : None ≡ Some i = same in cc)))) j (inr among);
        bare = λ j k among. holds-none w after_stack_refused.world kept.values fs
            (stack.numbers in_end stocked.0.leaves.sound whole-end p c stocked.0.placed m fs is-so) stocked.1.linked j k among;
        in_queues = λ i. refl;
        in_newest = λ i. refl;
        in_stacks = λ i. spent-last d.stacks (holding.atomic_shared c d.world.home.cells) i;
        counts = λ u. omega (arith, spent-counts d.stacks (holding.atomic_shared c d.world.home.cells) c refl u);
        more = omega (arith, length-set started.stacks m None, length_push d.stacks (Some (holding.atomic_shared c d.world.home.cells)));
        room = room-left d w after_stack_refused.world fs line stocked.0.made stocked.0.slots kept.slots.made whole-end stocked.1.linked s;
      }

      pub stack-refused : LeavesSound d after_stack_refused
      stack-refused =
          let sound = forgotten-sound after_stack_refused d fs d.queues d.newest (slice_set started.stacks m None) ends.sound left in
          record {
            line = refl;
            places = refl;
            sound = sound;
            dated = dated-all d after_stack_refused s.stocked (kept.slots.slots ∙ stocked.0.slots) within;
            calls = calls-then starting.calls (calls-then stocked.0.leaves.calls ends.calls);
            home = ends.home ∙ stocked.0.leaves.home ∙ starting.home;
          }
