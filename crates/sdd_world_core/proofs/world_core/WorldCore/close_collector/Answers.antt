use Rattle.std.proofs.Common.{ℕ, ◌≡◌, List, ap, refl, sym, subst}
use Rattle.sdd_participants.specs.Slab.{Entries}
use Rattle.sdd_participants.specs.Jobs.{jobs_without_all}
use Rattle.sdd_participants.proofs.Places.{without-chosen}
use Rattle.sdd_world_model.specs.OwnerOrCell.{OwnerOrCell}
use Rattle.sdd_rights.specs.Right.{raw_number_of}
use Rattle.sdd_world_model.specs.Collecting.{collector_closed, is_for, waiting_for}
use Rattle.sdd_world_model.specs.World.{KeepsSizes}
use Rattle.sdd_world_model.proofs.PlacesMatchStates.{Whole-collector_closed, live-taken}
use Rattle.sdd_world_model.proofs.WaitingCounts.{KeepsSizes-trans}
use Rattle.sdd_world_core.specs.WorldCore.{WorldCore}
use Rattle.sdd_world_core.specs.Lending.{AreLent}
use Rattle.sdd_world_core.proofs.NoGuards.{home-quiet}
use Rattle.sdd_world_core.proofs.CollectorClosed.{lent-closed}
use Rattle.sdd_world_core.proofs.world_core.WorldCore.close_collector.Goals as goal

-- what waits for a collector are items alone, so the jobs wait as before
closed-as : {T J : Type 0} (holds : T → List OwnerOrCell) (core : WorldCore T J) (p c : ℕ) →
    record core { world = collector_closed holds core.world p c; deferred = jobs_without_all core.deferred (waiting_for core.world c) }
    ≡ record core { world = collector_closed holds core.world p c }
closed-as {T} {J} holds core p c =
    ap (λ (jobs : Entries J). record core { world = collector_closed holds core.world p c; deferred = jobs })
    (without-chosen (is_for core.world c) (λ j. refl) core.world.time.places core.deferred)

pub reclaim_all-requires-clause-home : goal.reclaim_all-requires-clause-home
reclaim_all-requires-clause-home g c =
    rw (c.close_raw_cell.ensures.freed, c.take_for.ensures.left)
    (λ k _. home-quiet c.args.self.now.world c.args.self.now.lending c.requires.lent c.requires.quiet k)

pub returns-clause-closed : goal.returns-clause-closed
returns-clause-closed g c =
    rw (
      c.reclaim_all.ensures.reclaimed,
      c.close_raw_cell.ensures.freed,
      c.take_for.ensures.left,
      c.as_slice.ensures.value,
      c.take_for.ensures.taken,
      c.number.ensures,
    ) (closed-as g.T.Item.holds c.args.self.now c.args.place (raw_number_of c.args.collector))

pub returns-clause-whole : goal.returns-clause-whole
returns-clause-whole g c =
    let w = c.args.self.now.world in
    rw (
      c.reclaim_all.ensures.reclaimed,
      c.close_raw_cell.ensures.freed,
      c.take_for.ensures.left,
      c.as_slice.ensures.value,
      c.take_for.ensures.taken,
      c.number.ensures,
    )
    (λ i. Whole-collector_closed g.T.Item.holds w c.args.place (raw_number_of c.args.collector) (live-taken w.time c.args.place c.requires.place) i)

pub returns-clause-lent : goal.returns-clause-lent
returns-clause-lent g c =
    let w = c.args.self.now.world in
    let number : ℕ = raw_number_of c.args.collector in
    let sizes = KeepsSizes-trans c.take_for.ensures.sizes (KeepsSizes-trans c.close_raw_cell.ensures.sizes c.reclaim_all.ensures.sizes) in
    let closed : c.reclaim_all.new.self ≡ record c.args.self.now { world = collector_closed g.T.Item.holds w c.args.place number } =
    rw (
      c.reclaim_all.ensures.reclaimed,
      c.close_raw_cell.ensures.freed,
      c.take_for.ensures.left,
      c.as_slice.ensures.value,
      c.take_for.ensures.taken,
      c.number.ensures,
    ) (closed-as g.T.Item.holds c.args.self.now c.args.place number) in
    subst (λ (core : WorldCore _ _). AreLent core) (sym closed)
    (lent-closed g.T.Item.holds w c.args.place number c.requires.place.0 c.args.self.now.lending c.requires.quiet
    (subst (λ (core : WorldCore _ _). KeepsSizes w core.world) closed sizes) c.requires.lent)
