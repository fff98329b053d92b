use Rattle.std.proofs.Common.{subst, rules}
use Rattle.sdd_rights.specs.Right.{kind_of, number_of}
use Rattle.sdd_shared_values.specs.SharedValues.{showing}
use Rattle.sdd_world_model.specs.Slots.{IsOwnedBy}
use Rattle.sdd_world_model.specs.World.{standing_at}
use Rattle.sdd_domain_steps.specs.Local.{LocalModel, world_of}
use Rattle.sdd_domain_steps.specs.LocalState.{IsLone}
use Rattle.sdd_domain_core.proofs.InPlaceCalls.{gone_keeps, gone_others, gone_sound, gone_worlds}
use Rattle.sdd_domain_core.proofs.GuardCalls.{lone_is}
use Rattle.sdd_domain.proofs.space.LocalInPlaceItems.drop_in_place.Goals as goal

pub invariant_of-self : goal.invariant_of-self
invariant_of-self g c = let v : LocalModel g.row.T.Denot g.row.J.Denot = c.self.inside.giver in let e = c.drop_in_place.ensures in
    gone_sound (showing g.row.T) g.T.Item.holds v c.drop_in_place.new.self (number_of c.args.right) c.drop_in_place.result e.kept e.exact c.self.invariant

pub returns : goal.returns
returns g c =
    let v : LocalModel g.row.T.Denot g.row.J.Denot = c.self.inside.giver in let e = c.drop_in_place.ensures in record {
      caller = search rules;
      own = search rules;
      known = search rules;
      back = search rules;
      sole = search rules;
      owned = λ exact. subst (λ (q : LocalModel g.row.T.Denot g.row.J.Denot). IsLone q.member
          → IsOwnedBy (kind_of c.args.right) (standing_at (world_of q) (number_of c.args.right)))
          c.self.view_is e.owned (lone_is c.args.self.now.member exact);
      exact = gone_worlds (showing g.row.T) g.T.Item.holds v c.drop_in_place.new.self (number_of c.args.right) c.args.self.now c.self.view_is
          c.drop_in_place.result e.kept e.exact;
      others = gone_others (showing g.row.T) g.T.Item.holds v c.drop_in_place.new.self (number_of c.args.right) c.args.self.now c.self.view_is
          c.drop_in_place.result e.kept e.exact;
      keeps = gone_keeps (showing g.row.T) g.T.Item.holds v c.drop_in_place.new.self (number_of c.args.right) c.args.self.now c.self.view_is
          c.drop_in_place.result e.kept e.exact;
    }
