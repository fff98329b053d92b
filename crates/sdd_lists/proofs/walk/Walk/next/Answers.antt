use Rattle.std.proofs.Common.{◌≡◌, ◌-◌, ℕ, arith, ◌∙◌, sym, subst}
use Rattle.std.specs.Prelude.{drop}
use Rattle.sdd_world_model.specs.World.{World}
use Rattle.sdd_lists.specs.Lists.{left}
use Rattle.sdd_lists.specs.Walk.{ShowsInOrder, StandsBefore}
use Rattle.sdd_lists.proofs.WalkPositions.{shows-next, stands-next}
use Rattle.sdd_lists.proofs.walk.Walk.next.Goals as goal

pub returns-clause-list : goal.returns-clause-list
returns-clause-list g c = λ e vs shows.
    let w = g.S.Caller.world c.args.s.now in
    let walk = c.args.self.now in
    let f = c.in-Some.front in
    let o = c.front_in-self.result in
    let at = sym c.take.ensures.value ∙ c.in-Some.is in
    let next = shows-next w walk f at o c.front_in-self.ensures.link (c.front_in-self.ensures.exact e) c.as_ref.result.now c.as_ref.ensures vs shows in
    let short : c.in-Some-checked_sub.most ≡ walk.most - 1 = omega arith in (
      next.0,
      subst (λ (y : World _). ShowsInOrder y (record { next = o; most = c.in-Some-checked_sub.most }) (drop 1 vs)) (sym (c.front_in-self.ensures.world e))
          (subst (λ (m : ℕ). ShowsInOrder w (record { next = o; most = m }) (drop 1 vs)) (sym short) next.1),
    )

pub returns-clause-entries : goal.returns-clause-entries
returns-clause-entries g c = λ e es stood.
    let w = g.S.Caller.world c.args.s.now in
    let walk = c.args.self.now in
    let f = c.in-Some.front in
    let o = c.front_in-self.result in
    let at = sym c.take.ensures.value ∙ c.in-Some.is in
    let next = stands-next w walk f at o c.front_in-self.ensures.link (c.front_in-self.ensures.exact e) c.as_ref.result.now c.as_ref.ensures es stood in
    let short : c.in-Some-checked_sub.most ≡ walk.most - 1 = omega arith in (
      next.0,
      subst (λ (y : World _). StandsBefore y (record { next = o; most = c.in-Some-checked_sub.most }) (left (drop 1 es))) (sym
          (c.front_in-self.ensures.world e))
          (subst (λ (m : ℕ). StandsBefore w (record { next = o; most = m }) (left (drop 1 es))) (sym short) next.1),
    )
