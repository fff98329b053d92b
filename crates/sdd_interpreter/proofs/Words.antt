-- The words of specifications and of the crates below that several proofs use
pub use Rattle.sdd_script_model.proofs.Words.{Action, Acts, AddsStorage, AllZip, Answers, AnyGuardOpen, AreEmpty, AreFull, AreInRange, AreLinked, AreNumbers, AreOf, AreOfCells, ArePlain, At, AtomicShared, Begins, Bool, Bor, Call, CallerId, CanPointTo, CannotGo, CellContents, ClonesStack, Dequeues, DequeuesIf, Drops, Entries, Entry, Err, ExtendsStack, FillsQueue, Global, HasNumber, HasOpen, HasSameCells, IfOk, IfSome, IsBag, IsExact, IsFull, IsLooseEntry, IsNew, IsNonDecreasingBy-from_sort, IsNumber, IsOf, IsOfSlots, IsParticipant, IsPlaceOf, IsQueueName, IsReclaimed, IsRunBy, IsShared, IsSharedBy, IsSome, IsSound, IsStackName, IsStored, IsTrue, IsValid, IsWalkOf, IsWhole, ItemName, JobName, Kept, Limits, List, MakesQueueOf, MakesStackOf, MatchBool, MatchOption, MatchResult, Meets, NoCell, NoSlot, None, NumberBag, Ok, OpenSince, Option, OwnerName, OwnerOrCell, PlaceName, Pops, PopsBehind, PopsInside, PrivateCollector, Ptr, PtrIsShown, PushesBehind, PushesInside, PutsNumber, Queue, QueueCells, Refused, RefusesEntry, RemovesStorage, RemovesStorages, Renumbers, Reply, Result, ScriptState, ShowsInOrder, Some, SpaceId, Stack, StandsOn, Tag, TakesAll, TakesNumber, Val, Vec, World, [], ap, append-nil, append_assoc, arith, bag_length, body_of, cell_in, cell_seen, cells_in, collector_of, cons_option, count-cons, count_by, deferred, drop, dropped, entry_at, entry_slots, eq-eqb, false, false≢true, filter, filter_map-append, filter_of_map_range_with_len_more, first_slot, first_value, get_or-map, get_or_default, held_in, holding_at, holdings_of, if◌then◌else◌, in_world, inl, inr, is_deleted, is_open, is_owner_of, is_private_to, is_some, is_waiting, job_in, last_value, left, length, length-append, length-map, length_push, link_holding, link_home, link_of, linked-left, linked_in, lives, lt-ltb, map, map-id, map-set, map_push, mark_tag, named, named_in, names-some, names_from, names_in, names_of, none, not, nulled, one_where, opening_at, option_map, overflow_of, owner_in, owners_put, place_in, place_of, places_among, primary_of, queue_closed, range_with_len, refl, replicate, rules, set-get_or, set-set, shared_cell, shared_slot, shown_by, shown_of, shows-it, since_in, since_of, slice_get, slice_index, slice_index_or, slice_set, slot_at, slot_named, slot_of, slots_among, slots_home, slots_waiting_for, sole_slot, stack_closed, standing_at, steps_left, storage_in, subst, sym, take, take_more, times_held, true, value_at, value_of, values_of, vec_capacity, vec_len, with_cell, with_owner, with_standing, ℕ, ◌&&◌, ◌++◌, ◌+◌, ◌-◌, ◌<◌, ◌==◌, ◌↔◌, ◌∙◌, ◌∷◌, ◌≡◌, ◌≢◌, ◌≤◌, ◌⊎◌}
pub use Rattle.sdd_interpreter.specs.Containers.{DrainsList, HasEntries, IsAsked, IsListOf, IsOfNumbers, NamesNone, PopsIf, PopsOff, PushesIf, PutsOn, StandsFor, TakesOff, list_cell, newest_value}
pub use Rattle.sdd_interpreter.specs.Environment.{AreOpen, BecomesBody, CanCompareAt, CanPointAt, CanPutBack, Fills, FitsIn, IsGiven, IsMissing, IsOfNamed, open_since, date_now, dated_if_waiting, given_back, guarding, named_owner, opened_since, owners_back}
pub use Rattle.sdd_interpreter.specs.Interpreter.{GuardsIn, IsGuardIn, IsTied, state_of}
pub use Rattle.sdd_interpreter.specs.Owners.{cell_holding, cell_kind, cell_number, collector_holding, filling_holding, filling_kind, held_as, holding_around, newest_holding, oldest_holding, owner_holding, stack_holding}
pub use Rattle.sdd_interpreter.specs.declared.holding.AnyCell.{AnyCell}
pub use Rattle.sdd_interpreter.specs.declared.holding.AnyList.{AnyList}
pub use Rattle.sdd_interpreter.specs.declared.holding.AnyOwner.{AnyOwner}
pub use Rattle.sdd_interpreter.specs.declared.holding.AnyOwner.TheVariants.{Share, Sole}
pub use Rattle.sdd_interpreter.specs.declared.holding.CellOwner.{CellOwner}
pub use Rattle.sdd_interpreter.specs.declared.interpreter.Environment.{Environment}
pub use Rattle.sdd_interpreter.specs.declared.participants.NamedGuard.{NamedGuard}
pub use Rattle.sdd_interpreter.specs.declared.participants.NamedParticipant.{NamedParticipant}
pub use Rattle.sdd_script_model.proofs.FillSound.{AreAllNumbers, names-last}
pub use Rattle.sdd_script_model.proofs.Listed.{same-list}
pub use Rattle.sdd_script_model.proofs.SlotsHaveNames.{name-given, name-some}
pub use Rattle.sdd_script_model.specs.declared.owner_kind.OwnerKind.{OwnerKind}
pub use Rattle.sdd_script_model.specs.declared.val.Body.{Body}
pub use Rattle.sdd_script_model.specs.declared.val.Body.TheVariants.{Number}
pub use Rattle.sdd_world.specs.Place.{index_of}
