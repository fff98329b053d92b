-- At the end of a script one participant gives up the queues, stacks and bags that are left in hand
use Rattle.sdd_script.proofs.Words.{AreOfCells, Begins, Body, ClosesBag, Entry, Environment, IsQueue, IsWhole, List, None, NumberBag, Option, Queue, ScriptState, Some, Stack, StandsOn, Val, Vec, World, [], ap, bag_closed-leaves, bag_length, cell_in, cells_in, state_of, first_slot, holds_nothing, home_in, inr, let_go_first, link_of, newest_holding, oldest_holding, queue_closed, refl, shared_cell, slice_index_or, slice_set, spilled, stack_closed, stack_holding, subst, sym, without_cell, ℕ, ◌++◌, ◌∷◌, ◌≡◌, GoesOn, IsEnding, IsKeptBag, KeepsTold, arith, common_steps, state_under, emptied, queue-there, queue_closed-leaves, stack_closed-leaves, world-is}
use Rattle.sdd_core.specs.declared.tag.Tag.TheVariants.{None as no_tag}
use Rattle.sdd_script_model.proofs.BagChains.{let_go_many, own_of, stack_of}
use Rattle.sdd_script.proofs.ScriptEnd.{told-cell, named-at, spent-at, dates_in, within, goes-on, live-in}

-- ---- nothing is told otherwise

module _ (w : World Val) where
  abbrev Told : World Val → Type 0
  Told u = KeepsTold w u

  told-spilled : (u : World Val) (p : ℕ) (held : Option ℕ) → Told u → Told (spilled u p held)
  told-spilled u p held h = grind (arith, common_steps)

  told-first : (u : World Val) (p c : ℕ) (e : Entry Val) (first : Option ℕ) → Told u → Told (let_go_first u p c no_tag e.slot (link_of e.value) first)
  told-first u p c e first told = grind (arith, common_steps)

  told-emptied : (p c : ℕ) (es : List (Entry Val)) (u : World Val) → Told u → Told (emptied link_of u p c no_tag es)
  told-emptied p c [] u told = told
  told-emptied p c (e ∷ es) u told =
      told-emptied p c es (let_go_first u p c no_tag e.slot (link_of e.value) (first_slot es)) (told-first u p c e (first_slot es) told)

  told-many : (p c : ℕ) (gone : List (Entry Val)) (u : World Val) → Told u → Told (let_go_many u p c gone [])
  told-many p c [] u told = told
  told-many p c (e ∷ gone) u told =
      told-many p c gone (let_go_first u p c no_tag e.slot (link_of e.value) (first_slot (gone ++ []))) (told-first u p c e (first_slot (gone ++ [])) told)

-- ---- one participant gives up what has a name

module _ (h : Environment) (p : ℕ) (e : IsEnding h p) where
  abbrev d : ScriptState
  d = state_under (state_of h) p e.moment e.since e.dates

  pub stack-home : (n : ℕ) (x : Stack Body) → Some x ≡ slice_index_or h.lists.stacks.entries.items n None → home_in x ≡ h.world.home.cells
  stack-home n x mine = e.sound.home.stacks n (stack_holding x) (named-at stack_holding h.lists.stacks.entries.items n x mine)

  pub queue-home : (n : ℕ) (x : Queue Body) → Some x ≡ slice_index_or h.lists.queues.entries.items n None → AreOfCells h.world.home.cells x
  queue-home n x mine = record {
    oldest = e.sound.home.queues n (oldest_holding x) (named-at oldest_holding h.lists.queues.entries.items n x mine);
    newest = e.sound.home.newest n (newest_holding x) (named-at newest_holding h.lists.queues.entries.items n x mine);
  }

  pub bag-kept : (n : ℕ) (x : NumberBag) → Some x ≡ slice_index_or h.lists.bags.entries.items n None → IsKeptBag d x
  bag-kept n x mine = e.sound.bags n x (sym mine)

  module _ (whole : IsWhole h.world) (w : World Val) where
    module _ (n : ℕ) (x : Queue Body) (mine : Some x ≡ slice_index_or h.lists.queues.entries.items n None) (queues : Vec (Option (Queue Body)))
        (taken : queues.items ≡ slice_set h.lists.queues.entries.items n None) where
      pub ends-queue : ((es : List (Entry Val)) (second : Option ℕ) → IsQueue link_of h.world (cells_in x) es second →
          w ≡ queue_closed link_of h.world p (cells_in x) es second) → GoesOn h
          (record h { world = w; lists = record h.lists { queues = record { entries = queues } } }) p
      ends-queue did =
          let q = cells_in x in
          let oldest = ap shared_cell (named-at oldest_holding h.lists.queues.entries.items n x mine) in
          let newest = ap shared_cell (named-at newest_holding h.lists.queues.entries.items n x mine) in
          let there = queue-there d e.sound n q oldest newest in
          let world = did there.0 there.1 there.2 in
          let left : World Val = queue_closed link_of h.world p q there.0 there.1 in
          let first = spent-at oldest_holding h.lists.queues.entries.items n queues.items taken in
          let second = spent-at newest_holding h.lists.queues.entries.items n queues.items taken in
          goes-on h p e (record h { world = w; lists = record h.lists { queues = record { entries = queues } } })
          (queue_closed-leaves d e.sound whole p (live-in h p e) n q there.0 there.1 (record { oldest = oldest; newest = newest; queue = there.2 })
          (dates_in d left) (within d left)) (cc (world, first, second))
          (told-emptied h.world p q.oldest there.0 (spilled (without_cell h.world q.newest) p there.1)
          (told-spilled h.world (without_cell h.world q.newest) p there.1 (refl, refl, refl)))

    module _ (n : ℕ) (x : Stack Body) (mine : Some x ≡ slice_index_or h.lists.stacks.entries.items n None) (stacks : Vec (Option (Stack Body)))
        (taken : stacks.items ≡ slice_set h.lists.stacks.entries.items n None) where
      pub ends-stack : ((es : List (Entry Val)) → Begins h.world (cell_in x) es → w ≡ stack_closed h.world p (cell_in x) es) →
          GoesOn h (record h { world = w; lists = record h.lists { stacks = record { entries = stacks } } }) p
      ends-stack did =
          let c = cell_in x in
          let its = ap shared_cell (named-at stack_holding h.lists.stacks.entries.items n x mine) in
          let there = e.sound.lists.lists c (inr (n, its)) in
          let world = did there.0 there.1 in
          let left : World Val = stack_closed h.world p c there.0 in
          let spent = spent-at stack_holding h.lists.stacks.entries.items n stacks.items taken in
          goes-on h p e (record h { world = w; lists = record h.lists { stacks = record { entries = stacks } } })
          (stack_closed-leaves d e.sound whole p c (live-in h p e) n there.0 (record { named = its; list = there.1 }) (dates_in d left) (within d left))
          (rw (world, spent) refl)
          (told-emptied h.world p c there.0 h.world (refl, refl, refl))

    module _ (n : ℕ) (x : NumberBag) (mine : Some x ≡ slice_index_or h.lists.bags.entries.items n None) (bags : Vec (Option NumberBag))
        (taken : bags.items ≡ slice_set h.lists.bags.entries.items n None) where
      pub ends-bag : ((es : List (Entry Val)) → StandsOn h.world x es → ClosesBag holds_nothing bag_length h.world p x es w) →
          GoesOn h (record h { world = w; lists = record h.lists { bags = record { entries = bags } } }) p
      ends-bag did =
          let its = (bag-kept n x mine).bag in
          let closes = did its.entries its.lies in
          goes-on h p e (record h { world = w; lists = record h.lists { bags = record { entries = bags } } })
          (bag_closed-leaves d e.sound whole p n (live-in h p e) x (sym mine) its.entries its.lies w closes (dates_in d w) (within d w)) (rw taken refl)
          (subst (λ (u : World Val). KeepsTold h.world u)
          (sym (world-is d e.sound whole p n (live-in h p e) x (sym mine) its.entries its.lies w closes))
          (told-cell h.world (without_cell (let_go_many h.world p (stack_of x) its.entries []) (stack_of x)) p (own_of x)
          (told-many h.world p (stack_of x) its.entries h.world (refl, refl, refl))))
