-- What a name of a queue stands for
use Rattle.sdd_interpreter.proofs.Words.{◌≡◌, ℕ, [], ◌∷◌, ◌++◌, Option, Some, None, map, length, slice_index_or, slice_set, sym, ap, ◌∙◌, option_map, Vec, get_or-map, false≢true, length-map, map-set, map_push, cells_in, Queue, Body, ScriptState, holding_at, shared_cell, newest_holding, oldest_holding, Environment, IsTied, state_of, AreOfCells, IsQueueName}

module _ (h : Environment) where
  abbrev d : ScriptState
  d = state_of h

  -- each has both cells
  pub both-long : length d.queues ≡ length d.newest
  both-long = length-map h.lists.queues.entries.items (option_map oldest_holding) ∙ sym (length-map h.lists.queues.entries.items (option_map newest_holding))

  pub no-queue : (n : ℕ) → None ≡ slice_index_or h.lists.queues.entries.items n None → ¬ (IsQueueName d n)
  no-queue n none there =
      let entry : holding_at d.queues n ≡ None =
      get_or-map (option_map oldest_holding) h.lists.queues.entries.items n None ∙ ap (option_map oldest_holding) (sym none) in
      false≢true (rw entry at there)

  module _ (n : ℕ) (x : Queue Body) (there : Some x ≡ slice_index_or h.lists.queues.entries.items n None) where
    pub named-oldest : holding_at d.queues n ≡ Some (oldest_holding x)
    named-oldest = get_or-map (option_map oldest_holding) h.lists.queues.entries.items n None ∙ ap (option_map oldest_holding) (sym there)

    named-newest : holding_at d.newest n ≡ Some (newest_holding x)
    named-newest = get_or-map (option_map newest_holding) h.lists.queues.entries.items n None ∙ ap (option_map newest_holding) (sym there)

    pub queue-home : IsTied h → AreOfCells h.world.home.cells x
    queue-home t = record {
      oldest = t.sound.home.queues n (oldest_holding x) named-oldest;
      newest = t.sound.home.newest n (newest_holding x) named-newest;
    }

    pub oldest-cell : shared_cell (holding_at d.queues n) ≡ Some (cells_in x).oldest
    oldest-cell = ap shared_cell named-oldest

    pub newest-cell : shared_cell (holding_at d.newest n) ≡ Some (cells_in x).newest
    newest-cell = ap shared_cell named-newest

  module _ (queues : Vec (Option (Queue Body))) where
    pub queues-spent : (n : ℕ) → queues.items ≡ slice_set h.lists.queues.entries.items n None →
        (map (option_map oldest_holding) queues.items ≡ slice_set d.queues n None) × (map (option_map newest_holding) queues.items ≡ slice_set d.newest n None)
    queues-spent n taken = (
      ap (map (option_map oldest_holding)) taken ∙ map-set (option_map oldest_holding) h.lists.queues.entries.items n None,
      ap (map (option_map newest_holding)) taken ∙ map-set (option_map newest_holding) h.lists.queues.entries.items n None,
    )

    pub queues-more : (x : Queue Body) → queues.items ≡ h.lists.queues.entries.items ++ Some x ∷ [] →
        (map (option_map oldest_holding) queues.items ≡ d.queues ++ Some (oldest_holding x) ∷ [])
        × (map (option_map newest_holding) queues.items ≡ d.newest ++ Some (newest_holding x) ∷ [])
    queues-more x pushed = (
      ap (map (option_map oldest_holding)) pushed ∙ map_push (option_map oldest_holding) h.lists.queues.entries.items (Some x),
      ap (map (option_map newest_holding)) pushed ∙ map_push (option_map newest_holding) h.lists.queues.entries.items (Some x),
    )
