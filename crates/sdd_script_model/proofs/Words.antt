-- The words of specifications and of the crates below that several proofs use
pub use Rattle.std.proofs.Common.{Bool, Global, IsSome, List, MatchOption, None, OnSome, Option, Some, [], ap, append_assoc, arith, below_more, cond, count_by, eq-eqb, false, get_or, inl, inr, is_some, length, lt-ltb, ltb-true, map, nat_lt, ne_eqb, refl, rules, slice_index, slice_index_or, slice_set, string_bytes, subst, suc, sym, take, true, vec_capacity, vec_len, zero, ℕ, ◌++◌, ◌+◌, ◌-◌, ◌<◌, ◌∙◌, ◌∷◌, ◌≡◌, ◌≢◌, ◌≤◌, ◌⊎◌}
pub use Rattle.std.proofs.Math.ListN.{get_or-map}
pub use Rattle.std.proofs.lemmas.Bool.{cases_eq, cases_lt, false≢true}
pub use Rattle.std.proofs.lemmas.Bool.Decides.{nat_tests}
pub use Rattle.std.proofs.lemmas.Grind.{common_steps}
pub use Rattle.std.proofs.lemmas.List.{append-nil, ext_get_or, get_or-set_other, get_or-set_same, get_or_default, get_or_past, get_or_push, length-append, length-map, length-replicate, length-set, length_push, map-append, map-id, map-set, map_push, set-get_or, set-set, set_comm, set_past, take_all, take_more}
pub use Rattle.std.proofs.lemmas.List.Elements.{All-append, All-contains, All-head, All-tail, Contains-append_cases, Contains-append_left, Contains-append_right, Contains-get_or, Contains-push, filter_map-append, filter_passes}
pub use Rattle.std.proofs.lemmas.List.FromFn.{filter_of_map_range_with_len_more, get_or-map-range_with_len, get_or-range_with_len, length-map-range_with_len, length-range_with_len}
pub use Rattle.std.proofs.lemmas.List.Sorted.{Contains-permutation, IsNonDecreasingBy-from_sort, IsPermutation-sym, sum_by-IsPermutation}
pub use Rattle.std.proofs.lemmas.List.Sums.{get_or-le-sum_by, sum_by-cons, sum_by-set, sum_by_more, sum_by_more_le, sum_by_push}
pub use Rattle.std.specs.Borrow.{Bor}
pub use Rattle.std.specs.Global.{Vec}
pub use Rattle.std.specs.List.{AllByRecursion, AllZip, cons_option, filter, filter_map, flat_map, list_all, range_with_len}
pub use Rattle.std.specs.List.Sorted.{IsNonDecreasing, IsNonDecreasingBy, IsPermutation, IsStrictlyIncreasing}
pub use Rattle.std.specs.Option.{option_map}
pub use Rattle.std.specs.Prelude.{All, Contains, Err, IfOk, IfSome, IsSomeAnd, IsTrue, MatchBool, MatchResult, Ok, Result, codes, drop, if◌then◌else◌, max, not, replicate, slice_get, sum_by, ◌%◌, ◌&&◌, ◌*◌, ◌==◌, ◌^◌, ◌||◌, ◌↔◌}
pub use Rattle.sdd_bag.proofs.EntryStandings.{keeps-shelves, trimmed-plain}
pub use Rattle.sdd_bag.specs.Bag.{HasSameCells, IsBag, IsOfCells, PopsBehind, PopsInside, PushesBehind, PushesInside, overflow_of, primary_of, values_of}
pub use Rattle.sdd_bag.specs.Closing.{ClosesBag, EmptiesStorages, values_given}
pub use Rattle.sdd_bag.specs.Overflow.{AddsStorage, AreElsewhere, AreShelves, LiesOn, OverflowParts, RefusesStorage, RemovesStorage, RemovesStorages}
pub use Rattle.sdd_bag.specs.Storage.{AreEmpty, AreFull, names_of}
pub use Rattle.sdd_bag.specs.Storages.{StorageName}
pub use Rattle.sdd_core.specs.Epoch.{epoch_of}
pub use Rattle.sdd_core.specs.Limits.{AreInRange}
pub use Rattle.sdd_core.specs.declared.epoch.Epoch.{Epoch}
pub use Rattle.sdd_core.specs.declared.limits.Limits.{Limits}
pub use Rattle.sdd_core.specs.declared.refused.Refused.{Refused}
pub use Rattle.sdd_core.specs.declared.refused.Refused.TheVariants.{GuardOpen, NoCell, NoJob, NoPlace, NoSlot, TooManyGuards, TooManyOwners}
pub use Rattle.sdd_core.specs.declared.tag.Tag.{Tag}
pub use Rattle.sdd_core.specs.declared.tag.Tag.TheVariants.{Both, Second}
pub use Rattle.sdd_lists.proofs.Ends.{among-ends, among-last, apart-ends, appended-other, both, left-none, linked-ends, list-ends, put-values, trimmed-list}
pub use Rattle.sdd_lists.proofs.FirstEntries.{names-some, shows-it, tag_in}
pub use Rattle.sdd_lists.proofs.QueuePops.{list-apart, list-without, spilled-cells, spilled-values}
pub use Rattle.sdd_lists.proofs.GoneEntries.{KeepsGone, gone-appended, gone-first, gone-same, gone-then, gone-trimmed, gone-written, let-go-kept, other-free, other-tag, second-kept, trimmed-or}
pub use Rattle.sdd_lists.proofs.LinkedEntries.{linked-behind, made-list, tail-cut, trimmed-around, trimmed-queue}
pub use Rattle.sdd_lists.proofs.Lists.{apart, bare, behind, linked-set, list-same}
pub use Rattle.sdd_lists.proofs.MarkedEntries.{retagged-list}
pub use Rattle.sdd_lists.proofs.PoppedLists.{apart-first, stays-of}
pub use Rattle.sdd_lists.proofs.PushedLists.{go-other, list-made, pushed, trim-other, trim-values}
pub use Rattle.sdd_lists.proofs.Spliced.{among-spliced}
pub use Rattle.sdd_lists.proofs.WalkPositions.{linked-left}
pub use Rattle.sdd_lists.specs.Behind.{IsFresh, IsLinkedBehind, entry_made, mark_tag, spliced}
pub use Rattle.sdd_lists.specs.Ends.{End, EndsWith, IsAmong, appended, end_of, is_spent, last_value, put_at, through_last}
pub use Rattle.sdd_lists.specs.Entries.{value_of}
pub use Rattle.sdd_lists.specs.Lists.{Apart, AreLinked, Entry, IsList, Pops, content, emptied, first_slot, first_value, is_deleted, is_deleting, left, let_go_first, linked_in, removed, trimmed}
pub use Rattle.sdd_lists.specs.Marks.{retagged, says_deleted}
pub use Rattle.sdd_lists.specs.Queue.{AreOfCells, Dequeues, DequeuesIf, HasOneAtMost, IsEnqueued, IsLetGo, IsQueue, IsSecond, QueueCells, cell_emptied, cell_left, cells_in, lets_go_of, made_newest, queue_closed}
pub use Rattle.sdd_lists.specs.QueueFilling.{AddsAllBehind, AddsBehind, FillsQueue, adds_behind, begins_behind}
pub use Rattle.sdd_lists.specs.Stack.{cell_in, home_in, poured}
pub use Rattle.sdd_lists.specs.StackCloning.{AppendsAll, AppendsTo, ClonesStack, ExtendsStack, appends, starts}
pub use Rattle.sdd_lists.specs.Walk.{IsWalkOf, ShowsInOrder, shown_of, steps_left}
pub use Rattle.sdd_lists.specs.declared.queue.Queue.{Queue}
pub use Rattle.sdd_lists.specs.declared.stack.Stack.{Stack}
pub use Rattle.sdd_lists.specs.declared.unpopped.Unpopped.TheVariants.{Kept}
pub use Rattle.sdd_participants.proofs.Adoptions.{keeps-closed}
pub use Rattle.sdd_participants.specs.Collecting.{chosen_among, chosen_of, is_private_to, without}
pub use Rattle.sdd_participants.specs.EpochState.{CanNest, EpochState, IsLive, IsVacant, NobodyEnded, due_next, is_open, last_count, lives, nobody, passes, phase_at, rested, with_place}
pub use Rattle.sdd_participants.specs.PlaceStates.{is_ended}
pub use Rattle.sdd_participants.specs.Slab.{Entries, IsEmptyAt, IsFull, entry_at, with_entry, without_entry}
pub use Rattle.sdd_participants.specs.Waiting.{Waiting, aged, due, fresh, having_seen, is_due, older}
pub use Rattle.sdd_participants.specs.declared.participant.Participant.{Participant}
pub use Rattle.sdd_participants.specs.declared.place_states.PlaceState.{PlaceState}
pub use Rattle.sdd_participants.specs.declared.place_states.PlaceState.TheVariants.{Ended, Live}
pub use Rattle.sdd_participants.specs.declared.standing.CellContents.{CellContents}
pub use Rattle.sdd_participants.specs.declared.standing.Standing.{Standing}
pub use Rattle.sdd_participants.specs.declared.standing.Standing.TheVariants.{Owned, Private, Raw, Retired, Shared}
pub use Rattle.sdd_participants.specs.declared.tally.Tally.{Tally}
pub use Rattle.sdd_participants.specs.declared.waiting.LimboEntry.{LimboEntry}
pub use Rattle.sdd_participants.specs.declared.waiting.LimboEntry.TheVariants.{Item, Job}
pub use Rattle.sdd_script_model.specs.Appending.{IsLooseEntry, MayAppend}
pub use Rattle.sdd_script_model.specs.BagLines.{BeginsBag, PutsBehind, PutsNumber, TakesAll, TakesNumber, holds_nothing}
pub use Rattle.sdd_script_model.specs.Bags.{AreBags, AreSpare, HasStorages, IsKept, IsKeptBag, IsLinkIn, IsSpare, IsStored, StandsOn, bagged, is_own_cell, is_stack_cell}
pub use Rattle.sdd_script_model.specs.Collecting.{Collects}
pub use Rattle.sdd_script_model.specs.Containers.{HasNewest, HasNumber, IsContainer, TellsNumber}
pub use Rattle.sdd_script_model.specs.Copies.{ArePlain, LosesNames, MakesQueueOf, MakesStackOf, entry_slots}
pub use Rattle.sdd_script_model.specs.Due.{IsDueAt, Line, NamesDue, NamesWhatIsDue, Start, adopts, begins, caller, changes, count_shown, has_ended, is_change, is_close, is_end, is_opening, is_waiting_in, last_found, leaves_none_ended, open_guards, opens, opens_first, start_of}
pub use Rattle.sdd_script_model.specs.Held.{holding_first, place_waiting, places_among, slot_waiting, slots_among, slots_waiting_for, standing_first}
pub use Rattle.sdd_script_model.specs.InPlace.{Drops, IsRaw, OwnsNumber, Puts, RefusesDrop}
pub use Rattle.sdd_script_model.specs.Link.{IsBehind, IsLink, Retags, may_change, tag_after}
pub use Rattle.sdd_script_model.specs.Listed.{AreNumbers, Begins, HasLists, HoldsEntry, IsListed, IsLoose, IsNumber}
pub use Rattle.sdd_script_model.specs.Made.{IsPutIn, Makes, RefusesItem, owners_left, put_in}
pub use Rattle.sdd_script_model.specs.Queues.{DrainsQueue, Enqueues, IsNamedQueue, TakesOldest}
pub use Rattle.sdd_script_model.specs.Script.{Acts, AddsOwner, Answers, AreCalls, CanCompare, CanPointTo, Does, EachNamesWhatIsDue, FitsCell, FitsShared, FitsSole, GivesOwner, HasCrowdedFirst, HasOpen, IsBagName, IsCollector, IsDrainedOf, IsGivenBack, IsListName, IsNameOf, IsOwnerName, IsParticipant, IsQueueName, IsReclaimed, IsRunBy, IsShareFull, IsShared, IsSharedCell, IsStackName, IsThereToPut, IsUnderGuard, IsValid, LineStep, MakesCell, MayShare, Meets, NamesWhatGoes, NamesWhatRuns, PutsIn, Runs, TakesOut, cell_as, owner_as, owners_put, owners_taken, shared_once_more, slot_compared, slot_put}
pub use Rattle.sdd_script_model.specs.Script.AreCalls.{none, one_more}
pub use Rattle.sdd_script_model.specs.ScriptState.{BeginsLine, IsDated, IsListCell, IsSecondCell, IsStart, IsThere, NumberBag, OpenSince, ScriptState, WaitsAt, bag_at, bag_length, cell_of, collector_of, date_at, holding_at, in_world, job_date_at, later, name_at, names_from, opening_at, place_in, place_of, shared_cell, shared_slot, since_in, since_of, slot_at, slot_of, sole_slot, with_bag, with_bag_at, with_collector, with_guard, with_item, with_items, with_job, with_newcomer, with_owner, with_queue, with_stack, without_bag, without_guard, without_owner, without_participant, without_queue, without_stack}
pub use Rattle.sdd_script_model.specs.Shown.{IsCell, item_held, item_in, job_in, named_in, names_in, number_in, told_of}
pub use Rattle.sdd_script_model.specs.Sound.{AreAtHome, AreDeferred, HoldsOnlyOlder, IsCalled, IsSound, JobsHaveDates, KeepsRecentItems, NamesAreAtHome, ParticipantsMatch, SlotsHaveNames, WasDeferredUnder, contained, has_right, is_of, named, named_among, named_owners, owns, stacked}
pub use Rattle.sdd_script_model.specs.Stacks.{Appends, Drains, IsStack, Pushes, RefusesEntry, Takes, stack_closed}
pub use Rattle.sdd_script_model.specs.Val.{Renumbers, Val, body_of, holdings_of, link_holding, link_home, link_of, owner_in, storage_in}
pub use Rattle.sdd_script_model.specs.declared.link_change.LinkChange.{LinkChange}
pub use Rattle.sdd_script_model.specs.declared.owner_kind.OwnerKind.{OwnerKind}
pub use Rattle.sdd_script_model.specs.declared.val.Body.{Body}
pub use Rattle.sdd_script_model.specs.declared.val.Body.TheVariants.{Number, Storage}
pub use Rattle.sdd_script_text.proofs.Plays.{reads_all}
pub use Rattle.sdd_script_text.specs.Script.{lines, most_calls}
pub use Rattle.sdd_script_text.specs.declared.answer.Answer.{Answer}
pub use Rattle.sdd_script_text.specs.declared.answer.Reply.{Reply}
pub use Rattle.sdd_script_text.specs.declared.call.action.Action.{Action}
pub use Rattle.sdd_script_text.specs.declared.call.Call.{Call}
pub use Rattle.sdd_script_text.specs.declared.call.Call.TheVariants.{At, Register}
pub use Rattle.sdd_script_text.specs.declared.call.Value.{Value}
pub use Rattle.sdd_script_text.specs.declared.call.Value.TheVariants.{Of}
pub use Rattle.sdd_script_text.specs.declared.name.CellName.{CellName}
pub use Rattle.sdd_script_text.specs.declared.name.CollectorName.{CollectorName}
pub use Rattle.sdd_script_text.specs.declared.name.GuardName.{GuardName}
pub use Rattle.sdd_script_text.specs.declared.name.ItemName.{ItemName}
pub use Rattle.sdd_script_text.specs.declared.name.JobName.{JobName}
pub use Rattle.sdd_script_text.specs.declared.name.ListName.{ListName}
pub use Rattle.sdd_script_text.specs.declared.name.OwnerName.{OwnerName}
pub use Rattle.sdd_script_text.specs.declared.name.PlaceName.{PlaceName}
pub use Rattle.sdd_script_text.specs.declared.name.QueueName.{QueueName}
pub use Rattle.sdd_script_text.specs.declared.name.StackName.{StackName}
pub use Rattle.sdd_world_model.proofs.OwnerCounts.{accounted-as, accounted-with_cell, accounted-with_value, in_cell-out, in_value-out, outside-out, sum-out}
pub use Rattle.sdd_world_model.proofs.WaitingEntries.{differs, once-bound, once-waits, one-place, opens-changed}
pub use Rattle.sdd_world_model.proofs.PlacesMatchStates.{IsTaken, each-place, ended-lives, housed-none, live-is, live-taken, nothing-waits, registered-apart, registered-keeps, registered-live, registered-lives}
pub use Rattle.sdd_world_model.proofs.Jobs.{length-all_reclaimed, runs-once}
pub use Rattle.sdd_world_model.proofs.Ledger.{ledger-laws}
pub use Rattle.sdd_world_model.proofs.TimesListed.{listed-aged, listed-awaiting, listed-place, listed-without, none-left, none-taken, rest-contains}
pub use Rattle.sdd_world_model.proofs.Nesting.{guards-closed, guards-registered, none-if, one-if, still-live}
pub use Rattle.sdd_world_model.proofs.GuardOpened.{IsChange, Nests, all_awaiting-waiting, before, how, in_before, keeps-cell_closed, keeps-given_all, keeps-owner_given, opened-goes, opened-other, still-waits}
pub use Rattle.sdd_world_model.proofs.ParticipantChanges.{Gives, Gives-all_reclaimed, Gives-cell_closed, Gives-collector_closed, Gives-dropped, Gives-owner_given, Gives-range, Gives-retired, all_awaiting-found}
pub use Rattle.sdd_world_model.proofs.CellRights.{held-cell_changed, held-with_value, once-where}
pub use Rattle.sdd_world_model.proofs.Safe.{opens-keeps, safe-call, safe-not-due}
pub use Rattle.sdd_world_model.proofs.SameOrGone.{Sheds, sheds-cell_closed, sheds-collector_closed, sheds-dropped, sheds-opened, sheds-owner_given}
pub use Rattle.sdd_world_model.proofs.Standings.{alone-out, out-inside, out-some, out-waits-not, owner-given}
pub use Rattle.sdd_world_model.proofs.WorldInvariant.{all_awaiting-guards, count-cons, filled-there, one_where, some-waits, times-aged, times_among}
pub use Rattle.sdd_space.specs.CallerId.{CallerId, IsExact, reader_at}
pub use Rattle.sdd_world_model.specs.Collecting.{collected, collector_closed, is_for, owner_collected, waiting_for, without_collector}
pub use Rattle.sdd_space.specs.Guard.{ReaderId, reader_of}
pub use Rattle.sdd_world_model.specs.InPlace.{IsAlone, MayInPlace, RefusedInPlace}
pub use Rattle.sdd_world_model.specs.Ledger.{Claim, IsLedger, Keeps, Moves, Sets, Tells, claims, inside, is_right_to, nothing, one, owner_held, owner_of, right_to, times_kept}
pub use Rattle.sdd_world_model.specs.Ledger.Moves.{accelerates, changes_cell, changes_pointers, closes_cell, closes_collector, collects, drops, edits, makes, makes_cell, puts_out_raw, releases, retires, shares, spends_cell, stirs, takes_back_raw}
pub use Rattle.sdd_world_model.specs.Out.{IsNullCell, is_out}
pub use Rattle.sdd_world_model.specs.OwnerCounts.{IsAccounted, holds_slot, is_owner_of, owner_count, times_held}
pub use Rattle.sdd_world_model.specs.OwnerOrCell.{AreOf, IsOf, OwnerOrCell, SpaceId, atomic_owned, atomic_raw, atomic_shared, owned, shared}
pub use Rattle.sdd_world_model.specs.ParticipantChanges.{all_awaiting, opened_at}
pub use Rattle.sdd_space.specs.Ptr.{PtrIsShown, cell_seen, shown_by, slot_named}
pub use Rattle.sdd_space.specs.Shared.{IsOfSlots, holding_of, slots_home}
pub use Rattle.sdd_world_model.specs.UnderGuards.{CannotGo, IsSafe}
pub use Rattle.sdd_world_model.specs.World.{AnyGuardOpen, IsNew, IsPlaceOf, World, place_at, standing_at, value_at}
pub use Rattle.sdd_world_model.specs.WorldChanges.{accelerated, all_reclaimed, caught_up, cell_closed, changed, closed, deferred, dropped, dropped_out, ended, freed, given, given_all, held_in, made_as, nulled, opened, owner_given, pointing, ran, reclaimed, reclaims, registered, retired, spilled, stirred, taken_out, vacated, waiting_value, with_cell, with_standing, with_value, without_cell}
pub use Rattle.sdd_world_model.specs.WorldInvariant.{IsWhole, KeepsUp, is_of_job, is_of_slot, jobs_with, once_if, times_with}
pub use Rattle.sdd_world_model.specs.WorldStep.{IsFirst, WorldStep}
pub use Rattle.sdd_world_model.specs.WorldStep.WorldStep.{closes, defers, ends, registers}
pub use Rattle.sdd_space.specs.Shared.{AtomicShared}
pub use Rattle.sdd_space.specs.declared.private_collector.PrivateCollector.{PrivateCollector}
pub use Rattle.sdd_space.specs.declared.ptr.Ptr.{Ptr}
pub use Rattle.sdd_world_model.specs.Slots.{IsSharedBy, is_waiting}
