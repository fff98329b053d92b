-- What each action on a queue leaves in hand: it is sound, and it is what the call means
use Rattle.sdd_script.proofs.Words.{◌≡◌, ◌≢◌, ℕ, Bool, List, [], ◌∷◌, ◌++◌, Option, Some, None, is_some, map, length, slice_index_or, slice_set, refl, sym, ap, ◌∙◌, subst, option_map, Vec, length-map, NoCell, IsEmptyAt, World, IsPlaceOf, nulled, IsWhole, Entry, AreOfCells, HasOneAtMost, IsQueue, QueueCells, cells_in, queue_closed, Queue, index_of, PlaceName, QueueName, At, Body, in_world, opening_at, place_of, without_queue, Acts, IsParticipant, IsUnderGuard, IsNamedQueue, Val, link_of, newest_holding, oldest_holding, NamedParticipant, open_since, Environment, IsTied, state_of, Does, still, both-long, newest-cell, oldest-cell, queues-more, queues-spent, IsQueueName, queue-there, queue_begun-leaves, queue_closed-leaves, with_dates}
use Rattle.sdd_world_model.specs.OwnerOrCell as holding
use Rattle.sdd_script_text.specs.Actions as call
use Rattle.sdd_script_text.specs.declared.answer.Reply.TheVariants as reply
use Rattle.sdd_interpreter.proofs.Acts as acts
use Rattle.sdd_script.proofs.StackActs.{AreDatedNow, AreTold, dated-within}

-- the entries of the queue of this name
pub queue-entries : (h : Environment) → IsTied h → (n : ℕ) (x : Queue Body) → Some x ≡ slice_index_or h.lists.queues.entries.items n None →
    (es : List (Entry Val)) × (second : Option ℕ) × IsNamedQueue (state_of h) n (cells_in x) es second
queue-entries h t n x mine =
    let oldest = oldest-cell h n x mine in
    let newest = newest-cell h n x mine in
    let found = queue-there (state_of h) t.sound n (cells_in x) oldest newest in
    (found.0, found.1, record { oldest = oldest; newest = newest; queue = found.2 })

pub is-queue : (h : Environment) (n : ℕ) (x : Queue Body) → Some x ≡ slice_index_or h.lists.queues.entries.items n None → IsQueueName (state_of h) n
is-queue h n x mine = ap is_some (oldest-cell h n x mine)

module _ (h : Environment) (t : IsTied h) (whole : IsWhole h.world) (name : PlaceName) (a : NamedParticipant)
    (there : open_since (Some a) ≡ opening_at (state_of h).places name.0) where
  abbrev n : ℕ
  n = name.0

  abbrev p : ℕ
  p = index_of a.place

  here : IsParticipant (state_of h) n
  here = acts.attends (acts.under name.0 t whole there)

  live : IsPlaceOf h.world p
  live = acts.sits (acts.under name.0 t whole there)

  place-is : place_of (state_of h) n ≡ p
  place-is = acts.place-is (acts.under name.0 t whole there)

  -- ---- a queue is made

  pub acts-no_cells : HasOneAtMost h.world.cells → Acts (state_of h) (At name call.Queue) (reply.Refused NoCell) (state_of h)
  acts-no_cells few = still (state_of h) (At name call.Queue) (reply.Refused NoCell) (here, (few, refl))

  pub acts-queue_begun : (w : World Val) (queues : Vec (Option (Queue Body))) (x : Queue Body) (r : QueueName) → IsEmptyAt h.world.cells (cells_in x).oldest →
      IsEmptyAt h.world.cells (cells_in x).newest → (cells_in x).oldest ≢ (cells_in x).newest →
      w ≡ nulled (nulled h.world (cells_in x).oldest) (cells_in x).newest → AreOfCells h.world.home.cells x →
      queues.items ≡ h.lists.queues.entries.items ++ Some x ∷ [] → r.0 ≡ length h.lists.queues.entries.items →
      Does (state_of h) (At name call.Queue) (reply.Queue r) (record h { world = w; lists = record h.lists { queues = record { entries = queues } } })
  acts-queue_begun w queues x r free other apart world home pushed named =
      let q = cells_in x in
      let more = queues-more h queues x pushed in
      let oldest : map (option_map oldest_holding) queues.items ≡ (state_of h).queues ++ Some (holding.atomic_shared q.oldest h.world.home.cells) ∷ [] =
      more.0 ∙ ap (λ z. (state_of h).queues ++ Some (holding.atomic_shared q.oldest z) ∷ []) home.oldest in
      let newest : map (option_map newest_holding) queues.items ≡ (state_of h).newest ++ Some (holding.atomic_shared q.newest h.world.home.cells) ∷ [] =
      more.1 ∙ ap (λ z. (state_of h).newest ++ Some (holding.atomic_shared q.newest z) ∷ []) home.newest in
      acts.leaves (acts.under name.0 t whole there) refl (cc (world, oldest, newest))
      (queue_begun-leaves (state_of h) t.sound whole p live q free other apart (both-long h))
      (here, (named ∙ sym (length-map h.lists.queues.entries.items (option_map oldest_holding)), (q, free, other, apart, refl)))

  -- ---- a queue with entries

  module _ (q : QueueName) (x : Queue Body) (mine : Some x ≡ slice_index_or h.lists.queues.entries.items q.0 None) where
    abbrev cells : QueueCells
    cells = cells_in x

    abbrev es : List (Entry Val)
    es = (queue-entries h t q.0 x mine).0

    abbrev second : Option ℕ
    second = (queue-entries h t q.0 x mine).1

    abbrev is : IsNamedQueue (state_of h) q.0 (cells_in x) es second
    is = (queue-entries h t q.0 x mine).2

    named-so : IsQueueName (state_of h) q.0
    named-so = is-queue h q.0 x mine

    -- it is closed
    pub acts-queue_closed : (waited : List Bool) → AreTold h waited → (w : World Val) (queues : Vec (Option (Queue Body))) (dates : Vec ℕ) →
        IsUnderGuard (state_of h) n →
        ((fs : List (Entry Val)) (held : Option ℕ) → IsQueue link_of h.world (cells_in x) fs held → w ≡ queue_closed link_of h.world p (cells_in x) fs held) →
        queues.items ≡ slice_set h.lists.queues.entries.items q.0 None → AreDatedNow h w waited dates →
        Does (state_of h) (At name (call.CloseQueue q)) reply.Done
        (record (with_dates h dates) { world = w; lists = record h.lists { queues = record { entries = queues } } })
    acts-queue_closed waited told w queues dates valid did spent now =
        let world = did es second is.queue in
        let left = queues-spent h queues q.0 spent in
        let oldest = left.0 in
        let newest = left.1 in
        acts.leaves (acts.under name.0 t whole there) refl (cc (world, oldest, newest))
        (queue_closed-leaves (state_of h) t.sound whole p live q.0 cells es second is dates.items
        (dated-within h t waited told (queue_closed link_of h.world p (cells_in x) es second) dates
        (subst (λ (u : World Val). AreDatedNow h u waited dates) world now))) (
          (valid, named-so),
          (
            cells,
            es,
            second,
            is,
            ap (λ (i : ℕ). record (in_world (without_queue (state_of h) q.0) (queue_closed link_of h.world i (cells_in x) es second)) { dates = dates.items })
                (sym place-is),
          ),
        )
