use Rattle.std.proofs.Common.{◌≡◌, ℕ, ◌∷◌, [], refl, ap, ◌∙◌, sym, subst, arith}
use Rattle.sdd_bag.proofs.OneMore.{one-longer}
use Rattle.sdd_space.specs.CallerId.{CallerId, IsExact, IsSeated}
use Rattle.sdd_rights.specs.Right.{number_of}
use Rattle.sdd_world_model.specs.OwnerOrCell.{AreOf}
use Rattle.sdd_space.specs.Shared.{cell_of}
use Rattle.sdd_world_model.specs.World.{World}
use Rattle.sdd_world_model.specs.WorldChanges.{cell_closed, given_all}
use Rattle.sdd_lists.proofs.MoreWaiting.{grows-spilled, knows-same}
use Rattle.sdd_bag.specs.Closing.{values_given}
use Rattle.sdd_bag.specs.Primary.{held_by}
use Rattle.sdd_bag.specs.Storages.{StorageName}
use Rattle.sdd_bag.proofs.Unmoved.{moves-on}
use Rattle.sdd_bag.proofs.ReleasedValues.{one-of}
use Rattle.sdd_bag.proofs.primary.Primary.close.Goals as goal

pub loop-value-init : goal.loop-value-init
loop-value-init g c = record {
  unmoved = record { caller = refl; known = knows-same (g.S.Caller.known c.args.s.now); shown = λ k v was. was };
  own = λ start grown. grown;
  storage = refl;
  held = c.requires.held;
  given = λ vs order. (vs, order, refl);
}

pub loop-value-smaller : goal.loop-value-smaller
loop-value-smaller g c =
    omega (arith, one-longer c.in-Some.value (held_by c.pop.new.self) (held_by c.loop-value.primary) c.in-Some.ensures.popped)

pub give_up-requires : goal.give_up-requires
give_up-requires g c =
    let inv = c.loop-value.invariant in let at = inv.unmoved.caller in let holds = g.T.Item.holds in
    let one = one-of (λ x. AreOf (g.S.Caller.caller c.args.s.now).home (holds x)) c.in-Some.value (held_by c.pop.new.self) (held_by c.loop-value.primary)
    c.in-Some.ensures.popped inv.held in
    record {
      seated = subst (λ (s : CallerId). IsSeated s) (sym at) c.requires.seated;
      home = subst (λ (s : CallerId). AreOf s.home (holds c.in-Some.value)) (sym at) one.0;
      exact = subst (λ (s : CallerId). IsExact s) (sym at) c.requires.exact;
    }

pub loop-value-preserved : goal.loop-value-preserved
loop-value-preserved g c =
    let inv = c.loop-value.invariant in let v = c.in-Some.value in
    let holds = g.T.Item.holds in let home = (g.S.Caller.caller c.args.s.now).home in let p = (g.S.Caller.caller c.args.s.now).place in
    let one = one-of (λ x. AreOf home (holds x)) v (held_by c.pop.new.self) (held_by c.loop-value.primary) c.in-Some.ensures.popped inv.held in
    record {
      unmoved = moves-on g.S.Caller.caller g.S.Caller.known g.S.Shows.shows c.args.s.now c.loop-value.s c.give_up.new.s inv.unmoved c.give_up.ensures.unmoved;
      own = λ start grown. c.give_up.ensures.own start (inv.own start grown);
      storage = c.in-Some.ensures.storage ∙ inv.storage;
      held = one.1;
      given = λ vs order.
          let got = inv.given (v ∷ vs) (held_by c.pop.new.self, c.in-Some.ensures.popped, order) in
          let world : g.S.Caller.world c.give_up.new.s ≡ given_all (g.S.Caller.world c.loop-value.s) p (holds v) =
          c.give_up.ensures.world ∙ ap (λ (s : CallerId). given_all (g.S.Caller.world c.loop-value.s) s.place (holds v)) inv.unmoved.caller in
          (got.0, got.1, ap (λ (x : World _). values_given holds x p vs) world ∙ got.2);
    }

pub returns-clause-world : goal.returns-clause-world
returns-clause-world g c =
    let inv = c.loop-value.invariant in let at = inv.unmoved.caller in let u = g.S.Caller.world c.loop-value.s in
    let p = (g.S.Caller.caller c.args.s.now).place in
    let got = inv.given [] c.in_default.ensures.popped.0 in
    let cell : cell_of c.cell_with-cell.result ≡ c.args.self.storage.cell =
    ap number_of c.cell_with-cell.ensures ∙ c.into_cell.ensures.number
    ∙ ap (λ (s : StorageName). s.cell) (c.in_default.ensures.storage ∙ inv.storage) in (
      got.0,
      got.1,
      c.close.ensures.exact (subst (λ (s : CallerId). IsExact s) (sym at) c.requires.exact)
          ∙ ap (λ (s : CallerId). cell_closed u s.place (cell_of c.cell_with-cell.result)) at
          ∙ ap (λ (k : ℕ). cell_closed u p k) cell
          ∙ ap (λ (x : World _). cell_closed x p c.args.self.storage.cell) got.2,
    )

pub returns-clause-unmoved : goal.returns-clause-unmoved
returns-clause-unmoved g c =
    moves-on g.S.Caller.caller g.S.Caller.known g.S.Shows.shows c.args.s.now c.loop-value.s c.close.new.s c.loop-value.invariant.unmoved
    c.close.ensures.unmoved

pub returns-clause-own : goal.returns-clause-own
returns-clause-own g c = λ start grown. grows-spilled _ _ c.close.ensures.own start (c.loop-value.invariant.own start grown)
