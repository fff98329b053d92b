-- The lemmas that the proofs of lines cite
pub use Rattle.sdd_script_model.proofs.ParticipantsMatch.{KeepsGuards, attended-acts, attended-closed, attended-ended, attended-later, attended-opened, attended-registered, attended-start, keeps-deferred, keeps-live, left-entry, live-by, opens-one, pushed-entry}
pub use Rattle.sdd_script_model.proofs.CallChains.{AtHome, IsMidway, IsPlain, LeavesSound, at-home, at_home-given, at_home-spent, edited, finishes, leaves-so, leaves-with, link-apart-from, midway-as, moves, own-midway, owned-apart, retags, same-line, shares-one, starts}
pub use Rattle.sdd_script_model.proofs.NameCounts.{IsPut, accounts, cell-given, cell-out, cell-spent, collector-given, collector-spent, owned-out, owner-given, owner-spent, put-spent, some-holding, taken-given, tells, times-held, value-spent}
pub use Rattle.sdd_script_model.proofs.Dates.{closed-other, dated-either, dated-kept, dated-one, dated-released, dated-same, dated-stands, early-dated, early-start, first-waits-not}
pub use Rattle.sdd_script_model.proofs.Deferred.{deferred-more, deferred-opened, taken-before}
pub use Rattle.sdd_script_model.proofs.Entry.{as-each, at-blank, at-default, at-end, at-other, at-pushed, at-same, inside, no-entry, not-free, set-where, some-entry}
pub use Rattle.sdd_script_model.proofs.Frames.{Frames, IsQuiet, Passes, calls-then, frames-on, frames-start, passes-making, passes-then, quiet-less}
pub use Rattle.sdd_script_model.proofs.ReclaimedSlots.{counted-one, counted-there, given-other, names-found, own-slot, times_in}
pub use Rattle.sdd_script_model.proofs.JobDates.{job_dates-call, job_dates-deferred, job_dates-opened, job_dates-start}
pub use Rattle.sdd_script_model.proofs.KeptUnderGuards.{WereOpen, kept-call, kept-opened, kept-start, were-closed, were-ended, were-registered, were-same}
pub use Rattle.sdd_script_model.proofs.HoldsOnlyOlder.{filled-long, layered-less, layered-made}
pub use Rattle.sdd_script_model.proofs.Links.{HoldsLess, closed-bare, holds-so, less-same, less-shed, null, same-once}
pub use Rattle.sdd_script_model.proofs.ListChanges.{among-or, apart-free, has-begun, has-ended, has-let_go, has-made, has-put_in, has-same, has-seconds, list-beside, off, stays-begun, third}
pub use Rattle.sdd_script_model.proofs.Listed.{AreOwn, StaysGone, StaysLoose, among-inside, among-link, apart-item, apart-own, as-before, has-changed, has-kept, has-kept_so, has-still, has-stored, held-by, link-apart, link-inside, links-apart, listed-inside, loose-as, loose-on, same-list, unique}
pub use Rattle.sdd_script_model.proofs.ListsApart.{among-apart, left-apart, list-apart-from, second-apart-from}
pub use Rattle.sdd_script_model.proofs.StackedCells.{are-own, list-right, second-right, stack-given, stack-spent, stacked-right, stacked-twice}
pub use Rattle.sdd_script_model.proofs.SlotsHaveNames.{KeepsSlots, KeepsStored, begins-out, idle-named, name-some, slot-inside, slots-cell_closed, slots-opened, slots-same, slots-then, stocked-as, stocked-made}
pub use Rattle.sdd_script_model.proofs.BagStorages.{BagsStay, IsReserved, Spares, bags-still, held-once, off-among, off-held, off-link, off-other, off-owned, off-standing, off-valued, owned-cell, put-plain, reserved-was, spare-as, spare-on, stays-as, stays-on, stays-then, stored-on, stored-still, there-apart}
