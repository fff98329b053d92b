use Rattle.std.proofs.Common.{ℕ, IsTrue, List, sym, ap, ◌∙◌, subst}
use Rattle.std.specs.Prelude.{slice_get}
use Rattle.sdd_rights.specs.declared.right.RawRight.{RawRight}
use Rattle.sdd_rights.specs.Right.{raw_number_of}
use Rattle.sdd_world_model.specs.World.{World}
use Rattle.sdd_world_model.specs.WorldChanges.{cell_closed, spilled, without_cell}
use Rattle.sdd_domain_steps.specs.Local.{LocalModel, world_of}
use Rattle.sdd_domain_steps.specs.LocalState.{LocalState, IsLone}
use Rattle.sdd_domain_core.specs.Space.{is_lone}
use Rattle.sdd_domain_core.proofs.CellWorld.{world_freed, held_before}
use Rattle.sdd_domain_core.proofs.GuardCalls.{lone_is}
use Rattle.sdd_domain_core.proofs.reclaiming.LocalGiverGiver.atomic_raw.Goals as goal

pub returns-clause-exact : goal.returns-clause-exact
returns-clause-exact g c = λ exact.
    let p : LocalModel g.row.T.Denot g.row.J.Denot = c.args.self.now in
    let v : LocalModel g.row.T.Denot g.row.J.Denot = c.self.view_is 0 in let cell : ℕ = raw_number_of c.right_of_raw_cell.result in
    let found : ℕ = c.free_raw_cell.result in
    let new : LocalState _ = c.free_raw_cell.new.self in let is = c.free_raw_cell.ensures.freed in
    let none = c.free_raw_cell.ensures.bare in
    let lone : IsLone v.member =
    lone_is v.member (subst (λ (q : LocalModel g.row.T.Denot g.row.J.Denot). IsTrue (is_lone q.member)) (sym c.self.view_is) exact) in
    let t = c.self.invariant lone in let w : World g.row.T.Denot = world_of v in
    world_freed v cell found new is t
    ∙ (sym (ap (spilled (without_cell w cell) v.member.place) (held_before v cell found 0 new is t lone ∙ ap (λ (xs : List ℕ). slice_get xs 0) none))
    ∙ (ap (λ (q : LocalModel g.row.T.Denot g.row.J.Denot). cell_closed (world_of q) q.member.place cell) c.self.view_is
    ∙ ap (λ (x : RawRight). cell_closed (world_of p) p.member.place (raw_number_of x)) c.right_of_raw_cell.ensures))
