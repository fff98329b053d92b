use Rattle.std.proofs.Common.{◌≡◌, ◌<◌, ◌≤◌, rules, IsTrue, sym, ap, ◌∙◌, subst, ⊎_elim, arith}
use Rattle.sdd_shared_values.specs.SharedValues.{showing}
use Rattle.sdd_participants.specs.declared.participant.Participant.{Participant}
use Rattle.sdd_participants.specs.EpochState as time
use Rattle.sdd_core.specs.declared.limits.Limits.{Limits}
use Rattle.sdd_world_model.specs.WorldChanges.{opened}
use Rattle.sdd_domain_steps.specs.SpaceIds.{home_in}
use Rattle.sdd_domain_steps.specs.LocalState.{LocalState, IsLone, HasOpenGuard, IsEntered}
use Rattle.sdd_domain_steps.specs.Local.{LocalModel, world_of}
use Rattle.sdd_domain_core.specs.Sound.{IsSound}
use Rattle.sdd_domain_core.specs.Space.{is_lone}
use Rattle.sdd_domain.proofs.Givers.{same_giver}
use Rattle.sdd_domain_steps.proofs.Arrivals.{due_stayed}
use Rattle.sdd_domain_core.proofs.GuardCalls.{lone_is, guarded_is, opened_same, opened_changed, opened_idle}
use Rattle.sdd_domain_core.proofs.GuardOpenings.{goes_on, WasIdle, is_over, stands, tied_stands, found_after, open_after, same_count, nested_sound, nested_exact, nested_keeps, can_nest}
use Rattle.sdd_domain_core.proofs.Sound.{sound_opened}
use Rattle.sdd_domain_core.specs.OpeningTally.{CountsReclaimed}
use Rattle.sdd_domain.proofs.OpeningTallies.{nested_counts, counted_at, counted_due, counted_over}
use Rattle.sdd_world_model.specs.KnownEpochs.{KnowsFound}
use Rattle.sdd_world_model.specs.ParticipantChanges.{all_awaiting}
use Rattle.sdd_domain_core.specs.Space.{known_of}
use Rattle.sdd_domain_steps.specs.WaitingItems.{arrived_at}
use Rattle.sdd_domain.proofs.space.LocalGuards.new_guard.Given.{Over}
use Rattle.sdd_domain.proofs.space.LocalGuards.new_guard.Goals.{then-goes_on, else-goes_on}
use Rattle.sdd_domain.proofs.space.LocalGuards.new_guard.Goals as goal

pub invariant_of-self : goal.invariant_of-self
invariant_of-self g c = let v : LocalModel _ _ = (c.self-inside.view_is 0).giver in let inner = same_giver c.self-inside.view_is in
    let some_open : HasOpenGuard v.member = search rules in
    nested_sound v c.nest.new.self _ g.T.Item.holds c.nest.result c.nest.ensures some_open c.self-inside.invariant
    (subst (IsSound g.T.Item.holds) (sym inner) c.self.invariant)

pub returns-then-is_guarded-clause-exact : goal.returns-then-is_guarded-clause-exact
returns-then-is_guarded-clause-exact g c = let v : LocalModel _ _ = (c.self-inside.view_is 0).giver in let inner = same_giver c.self-inside.view_is in
    let some_open : HasOpenGuard v.member = search rules in
    nested_exact v c.nest.new.self _ g.T.Item.holds c.nest.result c.args.self.now (inner ∙ c.self.view_is) c.nest.ensures some_open c.self-inside.invariant

pub returns-then-is_guarded-clause-keeps : goal.returns-then-is_guarded-clause-keeps
returns-then-is_guarded-clause-keeps g c = λ is_open.
    let v : LocalModel _ _ = (c.self-inside.view_is 0).giver in let inner = same_giver c.self-inside.view_is in
    nested_keeps v c.nest.new.self _ g.T.Item.holds (showing g.row.T) c.nest.result c.args.self.now (inner ∙ c.self.view_is) c.nest.ensures

pub invariant_of-self-inside-then-goes_on : goal.invariant_of-self-inside-then-goes_on
invariant_of-self-inside-then-goes_on g c one = let v : LocalModel _ _ = (c.self-inside.view_is 0).giver in let inner = same_giver c.self-inside.view_is in
    let e = c.enter-guard.ensures.entered in let settled = ap (λ (z : LocalModel g.row.T.Denot g.row.J.Denot). z.member.due) inner ∙ c.self.invariant.settled in
    let so = stands e.0 c.enter-guard.result.1 v.member e.1 c.enter-guard.new.self e.2 e.3 in
    let lone : IsLone v.member = sym (ap (λ (l : Limits). l.participants) so.limits) ∙ one in
    tied_stands v (c.self-inside.invariant lone) settled e.0 c.enter-guard.result.1 e.1 c.enter-guard.new.self lone e.2 e.3

pub invariant_of-self-inside-else-goes_on : goal.invariant_of-self-inside-else-goes_on
invariant_of-self-inside-else-goes_on g c one = let v : LocalModel _ _ = (c.self-inside.view_is 0).giver in let inner = same_giver c.self-inside.view_is in
    let e = c.enter-guard.ensures.entered in let settled = ap (λ (z : LocalModel g.row.T.Denot g.row.J.Denot). z.member.due) inner ∙ c.self.invariant.settled in
    let so = stands e.0 c.enter-guard.result.1 v.member e.1 c.enter-guard.new.self e.2 e.3 in
    let lone : IsLone v.member = sym (ap (λ (l : Limits). l.participants) so.limits) ∙ one in
    tied_stands v (c.self-inside.invariant lone) settled e.0 c.enter-guard.result.1 e.1 c.enter-guard.new.self lone e.2 e.3

pub invariant_of-self-then-goes_on : goal.invariant_of-self-then-goes_on
invariant_of-self-then-goes_on g c = let v : LocalModel _ _ = (c.self-inside.view_is 0).giver in let inner = same_giver c.self-inside.view_is in
    let holds = g.T.Item.holds in let q : LocalModel g.row.T.Denot g.row.J.Denot = c.change.new.self in
    let e = c.enter-guard.ensures.entered in let settled = ap (λ (z : LocalModel g.row.T.Denot g.row.J.Denot). z.member.due) inner ∙ c.self.invariant.settled in
    let shut : v.member.own.guards ≡ 0 = search rules in
    let went = goes_on e.0 c.enter-guard.result.1 v.member e.1 c.enter-guard.new.self e.2 e.3 c.if-goes_on.true in
    let home : home_in q.member ≡ home_in v.member = ap (λ (z : LocalModel g.row.T.Denot g.row.J.Denot). home_in z.member) c.change.ensures.rest
    ∙ ap home_in went.1.member in
    let same : q.entries ≡ v.entries = ap (λ (z : LocalModel g.row.T.Denot g.row.J.Denot). z.entries) c.change.ensures.rest in
    let as_is : record v { member = q.member } ≡ q = λ d. record q { entries = sym same d } in
    subst (IsSound holds) as_is (sound_opened holds v q.member (subst (IsSound holds) (sym inner) c.self.invariant) c.change.ensures.due
    (ap (λ (z : LocalModel g.row.T.Denot g.row.J.Denot). z.member.slots.closes) c.change.ensures.rest ∙ (ap (λ (y : LocalState _). y.slots.closes) went.1.member
    ∙ (ap (λ (z : LocalModel g.row.T.Denot g.row.J.Denot). z.member.slots.closes) inner ∙ c.self.invariant.closes))) home
    (λ lone. let there : IsLone c.enter-guard.new.self = ap (λ (y : LocalState _). y.limits.participants) went.1.member ∙ lone in
    ap world_of as_is ∙ opened_changed v holds (c.self-inside.invariant lone) settled e.0 c.enter-guard.new.self lone shut went.1
    (λ f. went.0 (f ∙ sym (went.1.lone lone).0)) (world_of q) (c.change.ensures.exact there)))

pub change-requires : goal.change-requires
change-requires g c = let v : LocalModel _ _ = (c.self-inside.view_is 0).giver in let inner = same_giver c.self-inside.view_is in
    let e = c.enter-guard.ensures.entered in
    let went = goes_on e.0 c.enter-guard.result.1 v.member e.1 c.enter-guard.new.self e.2 e.3 c.if-goes_on.true in
    record {
      closes = ap (λ (y : LocalState _). y.slots.closes) went.1.member
          ∙ (ap (λ (z : LocalModel g.row.T.Denot g.row.J.Denot). z.member.slots.closes) inner ∙ c.self.invariant.closes);
    }

pub invariant_of-self-else-goes_on : goal.invariant_of-self-else-goes_on
invariant_of-self-else-goes_on g c = let v : LocalModel _ _ = (c.self-inside.view_is 0).giver in let inner = same_giver c.self-inside.view_is in
    let holds = g.T.Item.holds in let n : LocalState _ = c.enter-guard.new.self in
    let e = c.enter-guard.ensures.entered in let settled = ap (λ (z : LocalModel g.row.T.Denot g.row.J.Denot). z.member.due) inner ∙ c.self.invariant.settled in
    let shut : v.member.own.guards ≡ 0 = search rules in let sound = subst (IsSound holds) (sym inner) c.self.invariant in
    ⊎_elim (λ (o : (v.member.own.found ≡ e.0) × IsEntered e.0 v.member n).
    sound_opened holds v n sound (ap (λ (y : LocalState _). y.due) o.1.member ∙ due_stayed e.0 v.member.own o.0)
    (ap (λ (y : LocalState _). y.slots.closes) o.1.member ∙ sound.closes) (ap home_in o.1.member)
    (λ lone. opened_same v holds (c.self-inside.invariant lone) settled e.0 n lone shut o.1 (o.0 ∙ (o.1.lone lone).0)))
    (λ (o : WasIdle e.0 c.enter-guard.result.1 v.member e.1 n e.2 e.3).
    sound_opened holds v n sound (ap (λ (y : LocalState _). y.due) o.2 ∙ o.1)
    (ap (λ (y : LocalState _). y.slots.closes) o.2 ∙ (ap (λ (y : LocalState _). y.slots.closes) e.2.member ∙ sound.closes))
    (ap home_in o.2 ∙ ap home_in e.2.member)
    (λ lone. opened_idle v holds (c.self-inside.invariant lone) settled e.0 e.1 lone shut e.2 (λ f. o.0 (f ∙ sym (e.2.lone lone).0)) o.1 n o.2))
    (is_over e.0 c.enter-guard.result.1 v.member e.1 n e.2 e.3 c.if-goes_on.false)

-- the world after it, with a change and without one
opened_there : (g : Over) (c : goal.Joined-goes_on g) → IsLone (c.self-inside.view_is 0).giver.member
    → world_of c.if-goes_on.self ≡ opened g.T.Item.holds (world_of (c.self-inside.view_is 0).giver) (c.self-inside.view_is 0).giver.member.place
opened_there g c lone = let v : LocalModel _ _ = (c.self-inside.view_is 0).giver in let inner = same_giver c.self-inside.view_is in
    let holds = g.T.Item.holds in let n : LocalState _ = c.enter-guard.new.self in let tied = c.self-inside.invariant lone in
    let e = c.enter-guard.ensures.entered in let settled = ap (λ (z : LocalModel g.row.T.Denot g.row.J.Denot). z.member.due) inner ∙ c.self.invariant.settled in
    let shut : v.member.own.guards ≡ 0 = search rules in
    elim c.if-goes_on.branch [
      | then-goes_on w ↦ let went = goes_on e.0 c.enter-guard.result.1 v.member e.1 n e.2 e.3 w.if-goes_on.true in
          let there : IsLone n = ap (λ (y : LocalState _). y.limits.participants) went.1.member ∙ lone in
          ap world_of w.self-is ∙ opened_changed v holds tied settled e.0 n lone shut went.1
          (λ f. went.0 (f ∙ sym (went.1.lone lone).0)) (world_of w.change.new.self) (w.change.ensures.exact there)
      | else-goes_on w ↦ ap world_of w.self-is ∙ ⊎_elim
          (λ (o : (v.member.own.found ≡ e.0) × IsEntered e.0 v.member n). opened_same v holds tied settled e.0 n lone shut o.1 (o.0 ∙ (o.1.lone lone).0))
          (λ (o : WasIdle e.0 c.enter-guard.result.1 v.member e.1 n e.2 e.3).
          opened_idle v holds tied settled e.0 e.1 lone shut e.2 (λ f. o.0 (f ∙ sym (e.2.lone lone).0)) o.1 n o.2)
          (is_over e.0 c.enter-guard.result.1 v.member e.1 n e.2 e.3 w.if-goes_on.false)
    ]

pub returns-clause-exact : goal.returns-clause-exact
returns-clause-exact g c = λ exact. let v : LocalModel _ _ = (c.self-inside.view_is 0).giver in let inner = same_giver c.self-inside.view_is in
    let now = inner ∙ c.self.view_is in
    let lone = lone_is v.member (subst (λ (q : LocalModel g.row.T.Denot g.row.J.Denot). IsTrue (is_lone q.member)) (sym now) exact) in (
      subst (λ (q : LocalModel g.row.T.Denot g.row.J.Denot). time.CanNest (world_of q).time q.member.place) now (can_nest v c.enter-guard.ensures.nests),
      opened_there g c lone ∙ (λ d. opened g.T.Item.holds (world_of (now d)) (now d).member.place),
    )

pub returns-clause-lone : goal.returns-clause-lone
returns-clause-lone g c = λ one. let v : LocalModel _ _ = (c.self-inside.view_is 0).giver in let inner = same_giver c.self-inside.view_is in
    let now = inner ∙ c.self.view_is in
    let lone = lone_is v.member (subst (λ (q : LocalModel g.row.T.Denot g.row.J.Denot). IsTrue (is_lone q.member)) (sym now) one) in
    same_count g.T.Item.holds v c.if-goes_on.self (opened_there g c lone) ∙ ap (λ (q : LocalModel g.row.T.Denot g.row.J.Denot). q.member.known) now

pub returns-clause-known : goal.returns-clause-known
returns-clause-known g c = let v : LocalModel _ _ = (c.self-inside.view_is 0).giver in let inner = same_giver c.self-inside.view_is in
    let now = inner ∙ c.self.view_is in let p : LocalModel g.row.T.Denot g.row.J.Denot = c.args.self.now in let n : LocalState _ = c.enter-guard.new.self in
    let e = c.enter-guard.ensures.entered in let shut : v.member.own.guards ≡ 0 = search rules in
    let so = stands e.0 c.enter-guard.result.1 v.member e.1 n e.2 e.3 in let knows = so.knows in let known = so.known in
    let knew : p.member.known ≤ e.0 = subst (λ (q : LocalModel g.row.T.Denot g.row.J.Denot). q.member.known ≤ e.0) now e.2.knew in record {
      inner = λ opens. absurd (let some_open = guarded_is v p now opens in omega arith);
      outermost = λ _. elim c.if-goes_on.branch [
        | then-goes_on w ↦ let q : LocalModel g.row.T.Denot g.row.J.Denot = w.change.new.self in let given = w.change.ensures.own in
            let went = goes_on e.0 c.enter-guard.result.1 v.member e.1 n e.2 e.3 w.if-goes_on.true in
            let own : n.own ≡ time.nested (arrived_at e.0 v.member.own) = ap (λ (y : LocalState _). y.own) went.1.member in
            let own_then : q.member.own ≡ time.settled (all_awaiting given.0 (time.nested (arrived_at e.0 v.member.own)))
            = given.1 ∙ ap (λ (o : Participant). time.settled (all_awaiting given.0 o)) own in
            let found : q.member.own.found ≡ e.0 = ap (λ (o : Participant). o.found) own_then ∙ found_after given.0 e.0 v.member.own in
            let some_open : 0 < q.member.own.guards = subst (λ (o : Participant). 0 < o.guards) (sym own_then) (open_after given.0 e.0 v.member.own) in
            let more = w.change.ensures.known.told in let since = w.change.ensures.known.since in
            let near = w.change.ensures.near some_open in
            subst (λ (z : LocalModel g.row.T.Denot g.row.J.Denot). KnowsFound (known_of p) z.member.own.found (known_of z)) (sym w.self-is)
            record { known = omega arith; told = omega arith; since = omega arith; near = near }
        | else-goes_on w ↦ let found = so.found in
            subst (λ (z : LocalModel g.row.T.Denot g.row.J.Denot). KnowsFound (known_of p) z.member.own.found (known_of z)) (sym w.self-is)
            record { known = omega arith; told = omega arith; since = omega arith; near = omega arith }
      ];
    }

pub returns-then-is_guarded-clause-says : goal.returns-then-is_guarded-clause-says
returns-then-is_guarded-clause-says g c = let v : LocalModel _ _ = (c.self-inside.view_is 0).giver in let inner = same_giver c.self-inside.view_is in
    let some_open : HasOpenGuard v.member = search rules in
    subst (λ (q : LocalModel g.row.T.Denot g.row.J.Denot). CountsReclaimed q.member c.nest.new.self) (inner ∙ c.self.view_is)
    (nested_counts _ v.member c.nest.new.self c.nest.result c.nest.ensures some_open)

pub returns-clause-says : goal.returns-clause-says
returns-clause-says g c = let v : LocalModel _ _ = (c.self-inside.view_is 0).giver in let inner = same_giver c.self-inside.view_is in
    let now = inner ∙ c.self.view_is in let n : LocalState _ = c.enter-guard.new.self in
    let e = c.enter-guard.ensures.entered in let shut : v.member.own.guards ≡ 0 = search rules in
    subst (λ (q : LocalModel g.row.T.Denot g.row.J.Denot). CountsReclaimed q.member c.if-goes_on.self.member) now (elim c.if-goes_on.branch [
      | then-goes_on w ↦ let q : LocalModel g.row.T.Denot g.row.J.Denot = w.change.new.self in let given = w.change.ensures.own in
          let went = goes_on e.0 c.enter-guard.result.1 v.member e.1 n e.2 e.3 w.if-goes_on.true in
          let own : n.own ≡ time.nested (arrived_at e.0 v.member.own) = ap (λ (y : LocalState _). y.own) went.1.member in
          let own_then : q.member.own ≡ time.settled (all_awaiting given.0 (time.nested (arrived_at e.0 v.member.own)))
          = given.1 ∙ ap (λ (o : Participant). time.settled (all_awaiting given.0 o)) own in
          let found : q.member.own.found ≡ e.0 = ap (λ (o : Participant). o.found) own_then ∙ found_after given.0 e.0 v.member.own in
          subst (λ (z : LocalModel g.row.T.Denot g.row.J.Denot). CountsReclaimed v.member z.member) (sym w.self-is)
          (counted_at e.0 v.member q.member shut found (counted_due e.0 v.member n q.member went.1 w.change.ensures.counted))
      | else-goes_on w ↦ let so = stands e.0 c.enter-guard.result.1 v.member e.1 n e.2 e.3 in
          subst (λ (z : LocalModel g.row.T.Denot g.row.J.Denot). CountsReclaimed v.member z.member) (sym w.self-is)
          (counted_at e.0 v.member n shut so.found (counted_over e.0 c.enter-guard.result.1 v.member e.1 n e.2 e.3 w.if-goes_on.false))
    ])
