use Rattle.std.proofs.Common.{◌≡◌, ℕ, ◌+◌, ◌-◌, ◌≤◌, false, sym, ap, ◌∙◌, arith}
use Rattle.sdd_participants.specs.declared.participant.Participant.{Participant}
use Rattle.sdd_participants.specs.declared.tally.Tally.{Tally}
use Rattle.sdd_core.specs.declared.limits.Limits.{Limits}
use Rattle.sdd_domain_steps.specs.Local.{LocalModel}
use Rattle.sdd_domain_steps.specs.LocalState.{LocalState, IsLone, waits}
use Rattle.sdd_domain_steps.specs.Receipt.{most_counted, with_reclaimed}
use Rattle.sdd_domain_core.proofs.GuardCalls.{closed_none}
use Rattle.sdd_domain_core.proofs.GuardOpenings.{all_guards, stands, tied_stands}
use Rattle.sdd_world_model.proofs.ParticipantChanges.{all_awaiting-found}
use Rattle.sdd_domain_core.proofs.Tallies.{counted_more}
use Rattle.sdd_domain_core.proofs.EpochCount.{closed_found, goes_where_waits, settled_count}
use Rattle.sdd_domain_core.proofs.reclaiming.LocalGiver.turn_over.Goals.{then-goes_on, else-goes_on}
use Rattle.sdd_domain_core.proofs.reclaiming.LocalGiver.turn_over.Goals as goal

pub invariant_of-self : goal.invariant_of-self
invariant_of-self g c one = let v : LocalModel g.row.T.Denot g.row.J.Denot = c.self.view_is 0 in let e = c.enter-guard.ensures.entered in
    let settled = ap (λ (z : LocalModel g.row.T.Denot g.row.J.Denot). z.member.due) c.self.view_is ∙ c.requires.settled in
    let so = stands e.0 c.enter-guard.result.1 v.member e.1 c.enter-guard.new.self e.2 e.3 in
    let lone : IsLone v.member = sym (ap (λ (l : Limits). l.participants) so.limits) ∙ one in
    tied_stands v (c.self.invariant lone) settled e.0 c.enter-guard.result.1 e.1 c.enter-guard.new.self lone e.2 e.3

pub invariant_of-self-else-goes_on : goal.invariant_of-self-else-goes_on
invariant_of-self-else-goes_on g c one = let v : LocalModel g.row.T.Denot g.row.J.Denot = c.self.view_is 0 in let e = c.enter-guard.ensures.entered in
    let settled = ap (λ (z : LocalModel g.row.T.Denot g.row.J.Denot). z.member.due) c.self.view_is ∙ c.requires.settled in
    let so = stands e.0 c.enter-guard.result.1 v.member e.1 c.enter-guard.new.self e.2 e.3 in
    let lone : IsLone v.member = sym (ap (λ (l : Limits). l.participants) so.limits) ∙ one in
    tied_stands v (c.self.invariant lone) settled e.0 c.enter-guard.result.1 e.1 c.enter-guard.new.self lone e.2 e.3

pub returns-clause-shut : goal.returns-clause-shut
returns-clause-shut g c = let v : LocalModel g.row.T.Denot g.row.J.Denot = c.self.view_is 0 in let e = c.enter-guard.ensures.entered in
    let now = ap (λ (z : LocalModel g.row.T.Denot g.row.J.Denot). z.member.own.guards) c.self.view_is in
    let shut : v.member.own.guards ≡ 0 = (let s = c.requires.shut in omega arith) in
    let so = (stands e.0 c.enter-guard.result.1 v.member e.1 c.enter-guard.new.self e.2 e.3).one shut in
    let one : c.if-goes_on.self.member.own.guards ≡ 1 = elim c.if-goes_on.branch [
      | then-goes_on w ↦ ap (λ (z : LocalModel g.row.T.Denot g.row.J.Denot). z.member.own.guards) w.self-is
          ∙ (ap (λ (o : Participant). o.guards) w.change.ensures.own.1 ∙ (all_guards w.change.ensures.own.0 c.enter-guard.new.self.own ∙ so))
      | else-goes_on w ↦ ap (λ (z : LocalModel g.row.T.Denot g.row.J.Denot). z.member.own.guards) w.self-is ∙ so
    ] in
    closed_none c.accelerate.new.self c.close_guard.new.self c.close_guard.ensures.closed
    (ap (λ (y : LocalState _). y.own.guards) c.accelerate.ensures
    ∙ (ap (λ (z : LocalModel g.row.T.Denot g.row.J.Denot). z.member.own.guards) c.self-2.view_is ∙ one))

pub returns-clause-reclaimed : goal.returns-clause-reclaimed
returns-clause-reclaimed g c = let v : LocalModel g.row.T.Denot g.row.J.Denot = c.self.view_is 0 in let e = c.enter-guard.ensures.entered in
    let tally_of : LocalModel g.row.T.Denot g.row.J.Denot → Tally = (λ z. z.member.tally) in let entered : Tally = c.enter-guard.new.self.tally in
    let before : Tally = c.tally-before.result in let more : ℕ = c.tally.result.reclaimed - before.reclaimed in
    let counted : (gone : ℕ) × (c.if-goes_on.self.member.tally ≡ with_reclaimed gone entered) = elim c.if-goes_on.branch [
      | then-goes_on w ↦ (w.change.ensures.counted.gone, ap tally_of w.self-is ∙ w.change.ensures.counted.tally)
      | else-goes_on w ↦ (0, ap tally_of w.self-is)
    ] in
    let then : c.self-2.inside.core.tally ≡ with_reclaimed counted.0 before
    = ap tally_of c.self-2.view_is ∙ (counted.1 ∙ (λ d. with_reclaimed counted.0 (sym c.tally-before.ensures d))) in
    let low : before.reclaimed ≤ most_counted = omega arith in
    let counts = counted_more counted.0 more before low
    (λ d. ap (λ (t : Tally). t.reclaimed) (c.tally.ensures ∙ then) d - before.reclaimed) in
    ap (λ (y : LocalState _). y.tally) c.close_guard.ensures.closed.member ∙ (ap (λ (y : LocalState _). y.tally) c.accelerate.ensures ∙ (then
    ∙ (sym counts ∙ (λ d. with_reclaimed more ((c.tally-before.ensures
    ∙ ((stands e.0 c.enter-guard.result.1 v.member e.1 c.enter-guard.new.self e.2 e.3).tally ∙ ap tally_of c.self.view_is)) d)))))

pub returns-clause-limits : goal.returns-clause-limits
returns-clause-limits g c = let v : LocalModel g.row.T.Denot g.row.J.Denot = c.self.view_is 0 in let e = c.enter-guard.ensures.entered in
    let limits_of : LocalModel g.row.T.Denot g.row.J.Denot → Limits = (λ z. z.member.limits) in
    let so = stands e.0 c.enter-guard.result.1 v.member e.1 c.enter-guard.new.self e.2 e.3 in
    let same : limits_of c.if-goes_on.self ≡ c.enter-guard.new.self.limits = elim c.if-goes_on.branch [
      | then-goes_on w ↦ ap limits_of w.self-is ∙ ap limits_of w.change.ensures.rest
      | else-goes_on w ↦ ap limits_of w.self-is
    ] in
    ap (λ (y : LocalState _). y.limits) c.close_guard.ensures.closed.member ∙ (ap (λ (y : LocalState _). y.limits) c.accelerate.ensures
    ∙ (ap limits_of c.self-2.view_is ∙ (same ∙ (so.limits ∙ ap limits_of c.self.view_is))))

pub returns-clause-knows : goal.returns-clause-knows
returns-clause-knows g c = let v : LocalModel g.row.T.Denot g.row.J.Denot = c.self.view_is 0 in let e = c.enter-guard.ensures.entered in
    let known_by : LocalModel g.row.T.Denot g.row.J.Denot → ℕ = (λ z. z.member.known) in let entered : ℕ = c.enter-guard.new.self.known in
    let so = stands e.0 c.enter-guard.result.1 v.member e.1 c.enter-guard.new.self e.2 e.3 in
    let more : entered ≤ known_by c.if-goes_on.self = elim c.if-goes_on.branch [
      | then-goes_on w ↦ (let told = w.change.ensures.known.told in let is = ap known_by w.self-is in omega arith)
      | else-goes_on w ↦ (let is = ap known_by w.self-is in omega arith)
    ] in let knew = e.2.knew in let knows = so.knows in let known = so.known in let now = ap known_by c.self.view_is in
    let then = ap known_by c.self-2.view_is in
    let same = ap (λ (y : LocalState _). y.known) c.accelerate.ensures in let closed = c.close_guard.ensures.closed.knows in omega arith

pub returns-clause-found : goal.returns-clause-found
returns-clause-found g c = λ one. let v : LocalModel g.row.T.Denot g.row.J.Denot = c.self.view_is 0 in let e = c.enter-guard.ensures.entered in
    let found_by : LocalModel g.row.T.Denot g.row.J.Denot → ℕ = (λ z. z.member.own.found) in
    let so = stands e.0 c.enter-guard.result.1 v.member e.1 c.enter-guard.new.self e.2 e.3 in
    let lone : IsLone v.member = ap (λ (z : LocalModel g.row.T.Denot g.row.J.Denot). z.member.limits.participants) c.self.view_is ∙ one in
    let same : found_by c.if-goes_on.self ≡ c.enter-guard.new.self.own.found = elim c.if-goes_on.branch [
      | then-goes_on w ↦ ap found_by w.self-is ∙ (ap (λ (o : Participant). o.found) w.change.ensures.own.1
          ∙ all_awaiting-found w.change.ensures.own.0 c.enter-guard.new.self.own)
      | else-goes_on w ↦ ap found_by w.self-is
    ] in
    ap (λ (y : LocalState _). y.own.found) c.close_guard.ensures.closed.member ∙ (closed_found false c.accelerate.new.self.own
    ∙ (ap (λ (y : LocalState _). y.own.found) c.accelerate.ensures ∙ (ap found_by c.self-2.view_is ∙ (same ∙ (so.found ∙ ((so.still lone).0
    ∙ ap (λ (z : LocalModel g.row.T.Denot g.row.J.Denot). z.member.known) c.self.view_is))))))

pub returns-clause-changed : goal.returns-clause-changed
returns-clause-changed g c = λ one more other. let v : LocalModel g.row.T.Denot g.row.J.Denot = c.self.view_is 0 in let e = c.enter-guard.ensures.entered in
    let so = stands e.0 c.enter-guard.result.1 v.member e.1 c.enter-guard.new.self e.2 e.3 in
    let lone : IsLone v.member = ap (λ (z : LocalModel g.row.T.Denot g.row.J.Denot). z.member.limits.participants) c.self.view_is ∙ one in
    goes_where_waits e.0 c.enter-guard.result.1 v.member e.1 c.enter-guard.new.self e.3
    (ap (λ (z : LocalModel g.row.T.Denot g.row.J.Denot). waits z.member) c.self.view_is ∙ more)
    (λ same. other (sym (ap (λ (z : LocalModel g.row.T.Denot g.row.J.Denot). z.member.own.found) c.self.view_is) ∙ (same ∙ ((so.still lone).0
    ∙ ap (λ (z : LocalModel g.row.T.Denot g.row.J.Denot). z.member.known) c.self.view_is))))

pub returns-clause-risen : goal.returns-clause-risen
returns-clause-risen g c = λ one below. let v : LocalModel g.row.T.Denot g.row.J.Denot = c.self.view_is 0 in let e = c.enter-guard.ensures.entered in
    let M : Type 0 = LocalModel g.row.T.Denot g.row.J.Denot in let known_by : M → ℕ = (λ z. z.member.known) in
    let entered : LocalState _ = c.enter-guard.new.self in let so = stands e.0 c.enter-guard.result.1 v.member e.1 entered e.2 e.3 in
    let lone : IsLone v.member = ap (λ (z : M). z.member.limits.participants) c.self.view_is ∙ one in
    let here : IsLone entered = ap (λ (l : Limits). l.participants) so.limits ∙ lone in
    let now = ap (λ (z : M). z.member.own.guards) c.self.view_is in
    let shut : v.member.own.guards ≡ 0 = (let s = c.requires.shut in omega arith) in
    let same : (known_by c.if-goes_on.self ≡ entered.known) × (c.if-goes_on.self.member.own.guards ≡ 1) × IsLone c.if-goes_on.self.member
    = elim c.if-goes_on.branch [
      | then-goes_on w ↦ (
        ap known_by w.self-is ∙ settled_count g.T.Item.holds (record { member = entered; entries = v.entries }) w.change.new.self entered.due
            (w.change.ensures.exact here),
        ap (λ (z : M). z.member.own.guards) w.self-is
            ∙ (ap (λ (o : Participant). o.guards) w.change.ensures.own.1 ∙ (all_guards w.change.ensures.own.0 entered.own ∙ so.one shut)),
        ap (λ (z : M). z.member.limits.participants) w.self-is ∙ (ap (λ (z : M). z.member.limits.participants) w.change.ensures.rest ∙ here),
      )
      | else-goes_on w ↦ (
        ap known_by w.self-is,
        ap (λ (z : M). z.member.own.guards) w.self-is ∙ so.one shut,
        ap (λ (z : M). z.member.limits.participants) w.self-is ∙ here,
      )
    ] in let m : LocalState _ = c.accelerate.new.self in
    let known : m.known ≡ c.args.self.now.member.known = ap (λ (y : LocalState _). y.known) c.accelerate.ensures ∙ (ap known_by c.self-2.view_is ∙ (same.0
    ∙ ((so.still lone).1 ∙ ap known_by c.self.view_is))) in
    c.close_guard.ensures.closed.raised
    (ap (λ (y : LocalState _). y.limits.participants) c.accelerate.ensures ∙ (ap (λ (z : M). z.member.limits.participants) c.self-2.view_is ∙ same.2))
    (ap (λ (y : LocalState _). y.own.guards) c.accelerate.ensures ∙ (ap (λ (z : M). z.member.own.guards) c.self-2.view_is ∙ same.1))
    (ap (λ (y : LocalState _). y.own.countdown) c.accelerate.ensures) (omega arith)
    ∙ ap (λ (n : ℕ). n + 1) known
