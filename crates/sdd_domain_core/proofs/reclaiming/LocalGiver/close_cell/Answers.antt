use Rattle.std.proofs.Common.{◌≡◌, ℕ, IsTrue, List, sym, refl, ap, ◌∙◌, subst}
use Rattle.std.specs.Prelude.{slice_get}
use Rattle.sdd_rights.specs.Right.{number_of}
use Rattle.sdd_participants.specs.declared.participant.Participant.{Participant}
use Rattle.sdd_world_model.specs.ParticipantChanges.{KeepsMoreWaiting}
use Rattle.sdd_world_model.specs.World.{World, standing_at}
use Rattle.sdd_world_model.specs.WorldChanges.{cell_closed, owner_given, spilled, without_cell}
use Rattle.sdd_domain_steps.specs.Local.{LocalModel, world_of}
use Rattle.sdd_domain_steps.specs.LocalState.{LocalState, IsLone}
use Rattle.sdd_domain_core.specs.Space.{is_lone}
use Rattle.sdd_domain_steps.specs.WordsAndValues.{WordsMatchValues}
use Rattle.sdd_domain_core.proofs.CellWorld.{tied_freed, world_freed, held_before}
use Rattle.sdd_domain_core.proofs.GuardCalls.{lone_is}
use Rattle.sdd_domain_core.proofs.Sound.{lone_true}
use Rattle.sdd_domain_core.proofs.OwnerLooks.{release_tied, release_world, grows_when}
use Rattle.sdd_domain_core.proofs.reclaiming.LocalGiver.close_cell.Goals as goal

pub returns-in_default-clause-exact : goal.returns-in_default-clause-exact
returns-in_default-clause-exact g c = λ exact.
    let v : LocalModel g.row.T.Denot g.row.J.Denot = c.self.view_is 0 in
    let cell : ℕ = number_of c.args.right in let found : ℕ = c.into_contents-held.result.1 in
    let new : LocalState _ = c.into_contents-held.new.self in let is = c.into_contents-held.ensures.freed in
    let none = rw c.in_default.is at c.into_contents-held.ensures.slots in
    let lone : IsLone v.member =
    lone_is v.member (subst (λ (q : LocalModel g.row.T.Denot g.row.J.Denot). IsTrue (is_lone q.member)) (sym c.self.view_is) exact) in
    let t = c.self.invariant lone in let w : World g.row.T.Denot = world_of v in
    world_freed v cell found new is t
    ∙ (sym (ap (spilled (without_cell w cell) v.member.place) (held_before v cell found 0 new is t lone ∙ ap (λ (xs : List ℕ). slice_get xs 0) (sym none)))
    ∙ ap (λ (q : LocalModel g.row.T.Denot g.row.J.Denot). cell_closed (world_of q) q.member.place cell) c.self.view_is)

pub invariant_of-self-2 : goal.invariant_of-self-2
invariant_of-self-2 g c =
    let v : LocalModel g.row.T.Denot g.row.J.Denot = c.self.view_is 0 in let cell : ℕ = number_of c.args.right in
    let found : ℕ = c.into_contents-held.result.1 in let new : LocalState _ = c.into_contents-held.new.self in let is = c.into_contents-held.ensures.freed in
    let freed : LocalModel g.row.T.Denot g.row.J.Denot = record { member = new; entries = c.self.inside.ghost_values.entries } in
    let tied : WordsMatchValues freed.member freed.entries
    = λ one. tied_freed v cell found new is (c.self.invariant (sym (ap (λ (m : LocalState _). m.limits.participants) is.writes.member) ∙ one)) in
    release_tied freed c.release.new.self c.in-Some.owner tied c.release.ensures.recalled c.release.result c.release.ensures.went

pub returns-clause-own : goal.returns-clause-own
returns-clause-own g c =
    let v : LocalModel g.row.T.Denot g.row.J.Denot = c.self.view_is 0 in let cell : ℕ = number_of c.args.right in
    let found : ℕ = c.into_contents-held.result.1 in let new : LocalState _ = c.into_contents-held.new.self in let is = c.into_contents-held.ensures.freed in
    let freed : LocalModel g.row.T.Denot g.row.J.Denot = record { member = new; entries = c.self.inside.ghost_values.entries } in
    let tied : WordsMatchValues freed.member freed.entries
    = λ one. tied_freed v cell found new is (c.self.invariant (sym (ap (λ (m : LocalState _). m.limits.participants) is.writes.member) ∙ one)) in
    subst (λ (p : LocalModel g.row.T.Denot g.row.J.Denot). KeepsMoreWaiting p.member.own c.release.new.self.own) c.self.view_is
    (subst (λ (o : Participant). KeepsMoreWaiting o c.release.new.self.own) (ap (λ (m : LocalState _). m.own) is.writes.member)
    (grows_when freed c.release.new.self c.in-Some.owner tied c.release.ensures.recalled c.release.result c.release.ensures.went))

pub returns-clause-exact : goal.returns-clause-exact
returns-clause-exact g c = λ exact.
    let v : LocalModel g.row.T.Denot g.row.J.Denot = c.self.view_is 0 in
    let cell : ℕ = number_of c.args.right in let found : ℕ = c.into_contents-held.result.1 in
    let new : LocalState _ = c.into_contents-held.new.self in let is = c.into_contents-held.ensures.freed in
    let freed : LocalModel g.row.T.Denot g.row.J.Denot = record { member = new; entries = c.self.inside.ghost_values.entries } in
    let tied : WordsMatchValues freed.member freed.entries
    = λ one. tied_freed v cell found new is (c.self.invariant (sym (ap (λ (m : LocalState _). m.limits.participants) is.writes.member) ∙ one)) in
    let held = rw c.in-Some.is at c.into_contents-held.ensures.slots in
    let lone : IsLone v.member =
    lone_is v.member (subst (λ (q : LocalModel g.row.T.Denot g.row.J.Denot). IsTrue (is_lone q.member)) (sym c.self.view_is) exact) in
    let t = c.self.invariant lone in let w : World g.row.T.Denot = world_of v in let k : ℕ = number_of c.in-Some.owner in
    let still : IsTrue (is_lone new) = lone_true new (ap (λ (m : LocalState _). m.limits.participants) is.writes.member ∙ lone) in
    let now : world_of freed ≡ without_cell w cell = world_freed v cell found new is t in
    let at : new.place ≡ v.member.place = ap (λ (m : LocalState _). m.place) is.writes.member in
    release_world freed c.release.new.self c.in-Some.owner tied c.release.ensures.recalled c.release.result c.release.ensures.went freed refl still
    ∙ ((λ d. owner_given (now d) (at d) k (standing_at (now d) k))
    ∙ (sym (ap (spilled (without_cell w cell) v.member.place) (held_before v cell found 0 new is t lone ∙ ap (λ (xs : List ℕ). slice_get xs 0) (sym held)))
    ∙ ap (λ (q : LocalModel g.row.T.Denot g.row.J.Denot). cell_closed (world_of q) q.member.place cell) c.self.view_is))
