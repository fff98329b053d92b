use Rattle.std.proofs.Common.{◌≡◌, ℕ, List, [], sym, ap, ◌∙◌, subst}
use Rattle.std.specs.Prelude.{slice_get}
use Rattle.sdd_participants.specs.declared.participant.Participant.{Participant}
use Rattle.sdd_participants.specs.declared.waiting.LimboEntry.{LimboEntry}
use Rattle.sdd_participants.specs.Slab.{entry_at}
use Rattle.sdd_rights.specs.Right.{raw_number_of}
use Rattle.sdd_world_model.specs.Collecting.{collector_closed, is_for, waiting_for}
use Rattle.sdd_participants.specs.Collecting.{time_without, without}
use Rattle.sdd_world_model.specs.Out.{IsNullCell}
use Rattle.sdd_world_model.specs.ParticipantChanges.{all_awaiting}
use Rattle.sdd_world_model.specs.World.{World}
use Rattle.sdd_world_model.specs.WorldChanges.{all_reclaimed, held_in, without_cell}
use Rattle.sdd_domain_steps.specs.Cells.{FreesAt}
use Rattle.sdd_domain_core.specs.Collectors.{AllWaitFor, ends_close, waits_for}
use Rattle.sdd_domain_steps.specs.Local.{LocalModel, contents_of, world_of}
use Rattle.sdd_domain_steps.specs.LocalState.{LocalState, IsLone}
use Rattle.sdd_domain_core.proofs.CellWorld.{full_before, tied_freed, world_freed}
use Rattle.sdd_domain_core.proofs.CollectorClosed.{all_taken, tied_closing, tied_ended, world_closing}
use Rattle.sdd_domain_core.proofs.CollectorFreed.{freed_apart, was_there}
use Rattle.sdd_domain_core.proofs.reclaiming.LocalGiver.close_collector.Goals as goal

pub invariant_of-self-2 : goal.invariant_of-self-2
invariant_of-self-2 g c one = let v : LocalModel g.row.T.Denot g.row.J.Denot = c.self.view_is 0 in let m : LocalState _ = c.begin_close.new.self in
    let begins = c.in_ok-right.ensures.begun.0 in let lone : IsLone v.member = sym (ap (λ (y : LocalState _). y.limits.participants) begins.member) ∙ one in
    tied_closing v (raw_number_of c.args.collector) (c.self.invariant lone) c.stands.ensures.collectors m begins
    (ap (λ (z : LocalModel g.row.T.Denot g.row.J.Denot). z.member.due) c.self.view_is ∙ c.requires.settled)

pub empty_own-requires-clause-taken : goal.empty_own-requires-clause-taken
empty_own-requires-clause-taken g c = let v : LocalModel g.row.T.Denot g.row.J.Denot = c.self.view_is 0 in
    let m : LocalState _ = c.begin_close.new.self in subst (λ (n : ℕ). AllWaitFor m n m.due) (sym c.number-number.ensures)
    (all_taken (raw_number_of c.args.collector) v.member m c.in_ok-right.ensures.begun.0)

pub invariant_of-self-3 : goal.invariant_of-self-3
invariant_of-self-3 g c one = let u : LocalModel g.row.T.Denot g.row.J.Denot = c.self-2.view_is 0 in let m : LocalState _ = c.end_close.new.self in
    let is = c.end_close.ensures.freed in let lone : IsLone u.member = sym (ap (λ (y : LocalState _). y.limits.participants) is.writes.member) ∙ one in
    let ended : LocalModel g.row.T.Denot g.row.J.Denot = record { member = ends_close u.member; entries = u.entries } in
    tied_freed ended c.number-number.result c.end_close.result m is (tied_ended u (c.self-2.invariant lone)
    (ap (λ (z : LocalModel g.row.T.Denot g.row.J.Denot). z.member.due) c.self-2.view_is ∙ c.empty_others.ensures.due))

pub returns-clause-own : goal.returns-clause-own
returns-clause-own g c = let v : LocalModel g.row.T.Denot g.row.J.Denot = c.self.view_is 0 in let m : LocalState _ = c.end_close.new.self in
    let number : ℕ = raw_number_of c.args.collector in let begins = c.in_ok-right.ensures.begun.0 in
    let start : Participant = without (waits_for v.member number) v.member.own in
    let more = c.empty_others.ensures.own start (c.empty_own.ensures.own start ([], ap (λ (y : LocalState _). y.own) begins.member)) in record {
      chosen = waits_for v.member number;
      given = more.0;
      own = ap (λ (y : LocalState _). y.own) c.end_close.ensures.freed.writes.member
          ∙ (ap (λ (z : LocalModel g.row.T.Denot g.row.J.Denot). z.member.own) c.self-2.view_is ∙ (more.1
          ∙ ap (λ (z : LocalModel g.row.T.Denot g.row.J.Denot). all_awaiting more.0 (without (waits_for v.member number) z.member.own)) c.self.view_is));
    }

pub returns-clause-exact : goal.returns-clause-exact
returns-clause-exact g c = λ is_lone. let holds = g.T.Item.holds in let p : LocalModel g.row.T.Denot g.row.J.Denot = c.args.self.now in
    let v : LocalModel g.row.T.Denot g.row.J.Denot = c.self.view_is 0 in let u : LocalModel g.row.T.Denot g.row.J.Denot = c.self-2.view_is 0 in
    let n : ℕ = raw_number_of c.args.collector in let place : ℕ = v.member.place in let m : LocalState _ = c.end_close.new.self in
    let found : ℕ = c.end_close.result in let begins = c.in_ok-right.ensures.begun.0 in
    let lone : IsLone v.member = ap (λ (z : LocalModel g.row.T.Denot g.row.J.Denot). z.member.limits.participants) c.self.view_is ∙ is_lone in
    let begun : LocalModel g.row.T.Denot g.row.J.Denot = record { member = c.begin_close.new.self; entries = v.entries } in
    let lone_begun : IsLone begun.member = ap (λ (y : LocalState _). y.limits.participants) begins.member ∙ lone in
    let after : LocalModel g.row.T.Denot g.row.J.Denot = c.empty_own.new.self in
    let lone_after : IsLone after.member = ap (λ (z : LocalModel g.row.T.Denot g.row.J.Denot). z.member.limits.participants) c.empty_own.ensures.rest
    ∙ lone_begun in
    let same : u ≡ after = c.self-2.view_is ∙ c.empty_others.ensures.alone lone_after in
    let lone_u : IsLone u.member = ap (λ (z : LocalModel g.row.T.Denot g.row.J.Denot). z.member.limits.participants) same ∙ lone_after in
    let ended : LocalModel g.row.T.Denot g.row.J.Denot = record { member = ends_close u.member; entries = u.entries } in
    let is = subst (λ (k : ℕ). FreesAt k found ended.member m) c.number-number.ensures c.end_close.ensures.freed in
    let tied = tied_ended u (c.self-2.invariant lone_u)
    (ap (λ (z : LocalModel g.row.T.Denot g.row.J.Denot). z.member.due) c.self-2.view_is ∙ c.empty_others.ensures.due) in
    let w : World g.row.T.Denot = record (world_of v) { time = time_without (is_for (world_of v) n) (world_of v).time } in
    let xs : List LimboEntry = waiting_for (world_of v) n in
    let emptied : world_of u ≡ all_reclaimed holds w place xs = ap world_of same ∙ (c.empty_own.ensures.exact lone_begun
    ∙ world_closing v n (c.self.invariant lone) c.stands.ensures.collectors c.begin_close.new.self begins
    (ap (λ (z : LocalModel g.row.T.Denot g.row.J.Denot). z.member.due) c.self.view_is ∙ c.requires.settled) holds) in
    let full = full_before ended n found 0 m is tied lone_u in
    let before = was_there n holds place w xs (contents_of found) (ap (λ (z : World g.row.T.Denot). entry_at z.cells n) (sym emptied) ∙ full) in
    let none = ap (λ (ys : List ℕ). slice_get ys 0) c.end_close.ensures.bare in (
      subst (λ (z : LocalModel g.row.T.Denot g.row.J.Denot). IsNullCell (world_of z) n) c.self.view_is (contents_of found, before, none),
      world_freed ended n found m is tied ∙ (ap (λ (z : World g.row.T.Denot). without_cell z n) emptied
          ∙ (freed_apart n holds place w (ap held_in before ∙ none) xs
          ∙ ap (λ (z : LocalModel g.row.T.Denot g.row.J.Denot). collector_closed holds (world_of z) z.member.place n) c.self.view_is)),
    )
