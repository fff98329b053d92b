-- The words of specifications and of the crates below that several proofs use
pub use Rattle.sdd_script_model.proofs.Words.{Acts, AddsOwner, AllByRecursion, Answers, AnyGuardOpen, AreAtHome, AreFull, AreLinked, AreNumbers, AreOf, AreOfCells, ArePlain, AreSpare, At, AtomicShared, Begins, BeginsBag, BeginsLine, Bool, Both, Call, CanCompare, CanNest, CanPointTo, CannotGo, CellContents, CellName, Claim, ClosesBag, CollectorName, Collects, Contains, Drops, Entry, Epoch, Err, FitsCell, GuardName, GuardOpen, HasCrowdedFirst, HasLists, HasNewest, HasNumber, HasOneAtMost, HasOpen, HasSameCells, IfSome, IsAccounted, IsAmong, IsBag, IsBagName, IsBehind, IsCell, IsCollector, IsContainer, IsDrainedOf, IsEmptyAt, IsFresh, IsFull, IsGivenBack, IsKeptBag, IsLedger, IsLink, IsList, IsListCell, IsListName, IsLooseEntry, IsNameOf, IsNamedQueue, IsNonDecreasing, IsNonDecreasingBy, IsNonDecreasingBy-from_sort, IsNullCell, IsNumber, IsOf, IsOfCells, IsOwnerName, IsParticipant, IsPermutation, IsPlaceOf, IsPutIn, IsQueue, IsQueueName, IsRaw, IsSecondCell, IsShareFull, IsSharedBy, IsSharedCell, IsSome, IsSomeAnd, IsSound, IsStack, IsStackName, IsStored, IsThere, IsThereToPut, IsTrue, IsUnderGuard, IsVacant, IsValid, IsWhole, Item, ItemName, Job, JobName, Kept, List, ListName, LosesNames, Makes, MakesQueueOf, MakesStackOf, MatchOption, MayAppend, MayInPlace, MayShare, Meets, NoCell, None, NumberBag, Of, Ok, OnSome, OpenSince, Option, Owned, OwnerName, OwnerOrCell, OwnsNumber, ParticipantsMatch, PlaceName, PrivateCollector, PushesInside, Puts, PutsIn, PutsNumber, Queue, QueueCells, QueueName, Raw, ReaderId, Refused, RefusedInPlace, RefusesDrop, RefusesEntry, RefusesItem, RefusesStorage, Register, Reply, Runs, ScriptState, Second, Some, Stack, StackName, Standing, StandsOn, StorageName, Tag, TakesAll, TakesNumber, TakesOut, TellsNumber, TooManyOwners, Val, Value, Vec, WaitsAt, World, [], accounted-as, ap, append_assoc, arith, bag_at, bag_length, below_more, body_of, cases_lt, cell_as, cell_closed, cell_in, cell_of, cells_in, claims, closed, closes, codes, collector_closed, collector_of, common_steps, cond, contained, content, date_at, drop, emptied, ended, ends, entry_at, entry_slots, epoch_of, ext_get_or, false, false≢true, first_slot, first_value, get_or, get_or-map, get_or-map-range_with_len, get_or_default, get_or_past, has_right, held_in, holding_at, holding_first, holding_of, holdings_of, holds_nothing, home_in, if◌then◌else◌, in_world, inl, inr, is_of, is_open, is_out, is_own_cell, is_some, is_stack_cell, is_waiting, item_held, item_in, job_in, last_value, later, left, length, length-append, length-map, length-map-range_with_len, length-set, length_push, let_go_first, lines, link_home, link_of, linked-left, linked_in, live-is, ltb-true, made_as, map, map-set, map_push, mark_tag, may_change, most_calls, name_at, named_among, named_owners, names_from, names_in, nat_lt, none, not, nulled, number_in, one_more, opened, opening_at, option_map, overflow_of, owner_given, owner_held, owner_in, owner_of, owners_left, owners_put, owners_taken, owns, phase_at, place_at, place_of, places_among, poured, primary_of, put_in, queue_closed, range_with_len, reader_at, reader_of, reads_all, reclaims, refl, registered, registers, retired, retires, right_to, rules, says_deleted, set-get_or, set-set, shared_cell, shared_once_more, shared_slot, shown_of, slice_get, slice_index, slice_index_or, slice_set, slot_at, slot_compared, slot_of, slot_put, slots_among, slots_home, slots_waiting_for, sole_slot, spends_cell, spilled, stack_closed, standing_at, standing_first, storage_in, string_bytes, subst, suc, sym, tag_after, take, take_all, take_more, takes_back_raw, times_held, told_of, trimmed, true, value_at, values_of, vec_capacity, with_bag_at, with_cell, with_guard, with_newcomer, with_owner, with_standing, without_cell, without_guard, without_participant, without_queue, without_stack, ℕ, ◌&&◌, ◌++◌, ◌+◌, ◌<◌, ◌==◌, ◌^◌, ◌↔◌, ◌∙◌, ◌∷◌, ◌≡◌, ◌≢◌, ◌≤◌, ◌⊎◌}
pub use Rattle.sdd_interpreter.proofs.Words.{BecomesBody, CanCompareAt, CanPointAt, CanPutBack, DrainsList, Fills, FitsIn, GuardsIn, HasEntries, IsAsked, IsGiven, IsGuardIn, IsListOf, IsMissing, IsOfNumbers, IsTied, NamesNone, PopsIf, PushesIf, PutsOn, StandsFor, TakesOff, open_since, cell_holding, cell_kind, cell_number, collector_holding, date_now, dated_if_waiting, state_of, filling_holding, filling_kind, given_back, guarding, held_as, holding_around, index_of, list_cell, named_owner, newest_holding, newest_value, oldest_holding, opened_since, owner_holding, owners_back, stack_holding}
pub use Rattle.sdd_interpreter.proofs.Acts.{Does, Goes, Here, answers-plain, attends, does, goes, got, here, leaves, named, next, place, place-is, restored, sits, stays-here, still, still-as, under, with_dates}
pub use Rattle.sdd_interpreter.proofs.Collectors.{collectors-spent, number-is}
pub use Rattle.sdd_interpreter.proofs.InvalidLines.{invalid, no-shared, nobody, points, points-not}
pub use Rattle.sdd_interpreter.proofs.Queues.{both-long, newest-cell, no-queue, oldest-cell, queue-home, queues-more, queues-spent}
pub use Rattle.sdd_interpreter.proofs.Stacks.{no-stack, stack-cell, stack-home, stacks-more, stacks-spent}
pub use Rattle.sdd_interpreter.specs.declared.holding.AnyCell.{AnyCell}
pub use Rattle.sdd_interpreter.specs.declared.holding.AnyList.{AnyList}
pub use Rattle.sdd_interpreter.specs.declared.holding.AnyOwner.{AnyOwner}
pub use Rattle.sdd_interpreter.specs.declared.holding.AnyOwner.TheVariants.{Share, Sole}
pub use Rattle.sdd_interpreter.specs.declared.holding.CellOwner.{CellOwner}
pub use Rattle.sdd_interpreter.specs.declared.interpreter.Environment.{Environment}
pub use Rattle.sdd_interpreter.specs.declared.participants.NamedGuard.{NamedGuard}
pub use Rattle.sdd_interpreter.specs.declared.participants.NamedParticipant.{NamedParticipant}
pub use Rattle.sdd_machine.proofs.Laws.{at_each, exact, goes_on-append, goes_on_is, safe, taken_more}
pub use Rattle.sdd_machine.specs.History.{Exact, Safe, Tells, goes_on, history, state}
pub use Rattle.sdd_machine.specs.Sizes.{item_named, place_named, size_for}
pub use Rattle.sdd_machine.specs.Table.{Size, did, did_possible, possible}
pub use Rattle.sdd_machine.specs.declared.machine.steps.Step.{Step}
pub use Rattle.sdd_machine.specs.declared.machine.steps.Step.TheVariants.{Publish, Retire}
pub use Rattle.sdd_script.specs.ItemLines.{changing, making, making_cell, popping, pushing}
pub use Rattle.sdd_script.specs.Leaving.{AreAllSpent, AreSpent, GivesUp, GoesOn, HasMade, IsEnding, IsSpent, KeepsTold, SpendsGuard, state_under, revived}
pub use Rattle.sdd_script.specs.Schedule.{AreAnswers, AreSteps, IsFirstFault}
pub use Rattle.sdd_script.specs.ScheduleLine.{HasNumbers, IsBelow, IsStepText, IsTextOf, line_of, numbers_of, verb_of, words_of}
pub use Rattle.sdd_script_model.proofs.BagEnds.{bag_begun-leaves, bag_closed-leaves, world-is}
pub use Rattle.sdd_script_model.proofs.CellSound.{after_celled, cell-there, cell_closed-leaves, celled-leaves, copied-leaves, dates_spilled, held-apart, held-dated, held-named, put-fits, swapped-leaves, tagged-leaves, taken-leaves}
pub use Rattle.sdd_script_model.proofs.CallChains.{LeavesSound, at-home, at_home-spent, finishes, link-apart-from, moves, owned-apart, starts}
pub use Rattle.sdd_script_model.proofs.CollectorSound.{after_given, collecting-leaves, owner-inside, sound-given}
pub use Rattle.sdd_script_model.proofs.NameCounts.{IsPut, accounts, collector-spent, linked, owned-out}
pub use Rattle.sdd_script_model.proofs.Entry.{IsSpentTo, at-default, at-end, at-other, at-pushed, at-same, inside, spent_twice}
pub use Rattle.sdd_script_model.proofs.CallSound.{accelerated-leaves, dated-opened, deferred-leaves, home-opened, line-begins, made-leaves, names-go, names-run, not-run-under, not-under, places-inside, released-leaves, retired-leaves, shared-leaves, sound-closed, sound-ended, sound-later, sound-opened, sound-registered, stirred-leaves}
pub use Rattle.sdd_script_model.proofs.InPlaceSound.{after_drop, back-leaves, drop-leaves, owner-outside, put-leaves, raw-leaves}
pub use Rattle.sdd_script_model.proofs.Links.{HoldsLess, holds-so, less-same}
pub use Rattle.sdd_script_model.proofs.Listed.{apart-item, has-stored, links-apart, same-list, unique}
pub use Rattle.sdd_script_model.proofs.QueueSound.{its-numbers, queue-there, queue_begun-leaves, queue_closed-leaves, queue_drained-leaves, taken-home, taken-number, taken-value}
pub use Rattle.sdd_script_model.proofs.StackSound.{IsDatedWithin, begun-leaves, dated-all, drained-leaves, numbers, popped-home, popped-leaves, popped-number, popped-value, stack_closed-leaves}
pub use Rattle.sdd_script_model.proofs.SlotsHaveNames.{KeepsSlots, name-given, name-some, slots-same, stocked-as}
pub use Rattle.sdd_script_model.proofs.BagStorages.{BagsStay, IsReserved, bags-still, off-standing, spare-as, stays-as, stored-still, there-apart}
pub use Rattle.sdd_script_model.specs.declared.link_change.LinkChange.{LinkChange}
pub use Rattle.sdd_script_model.specs.declared.owner_kind.OwnerKind.{OwnerKind}
pub use Rattle.sdd_script_model.specs.declared.val.Body.{Body}
pub use Rattle.sdd_script_model.specs.declared.val.Body.TheVariants.{Number, Storage}
pub use Rattle.sdd_world.proofs.AllGo.{CellsFall, all-go, bounded}
