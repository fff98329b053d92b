use Rattle.std.proofs.Common.{◌∙◌, subst, sym}
use Rattle.sdd_shared_values.specs.SharedValues.{showing}
use Rattle.sdd_domain_steps.specs.Local.{LocalModel}
use Rattle.sdd_domain_core.specs.Sound.{IsSound}
use Rattle.sdd_domain.proofs.Givers.{same_giver}
use Rattle.sdd_domain.proofs.Upgraded.{still_known, upgraded_back, upgraded_exact, upgraded_sound, upgraded_tied, upgraded_undisturbed, upgraded_value}
use Rattle.sdd_domain.proofs.space.LocalSharedItems.get_shared.Goals as goal

pub own_seen-requires : goal.own_seen-requires
own_seen-requires g c = let v : LocalModel _ _ = (c.self-inside.view_is 0).giver in let inner = same_giver c.self-inside.view_is in
    record {
      still = (still_known g.row.T v v.member c.number.result c.self-inside.invariant g.T.Item.holds c.args.self.now (inner ∙ c.self.view_is)
          (rw (← c.number.ensures) at c.requires.seen));
    }

pub invariant_of-self-inside : goal.invariant_of-self-inside
invariant_of-self-inside g c = let v : LocalModel g.row.T.Denot g.row.J.Denot = (c.self-inside.view_is 0).giver in
    let e = c.own_seen.ensures in upgraded_tied v c.own_seen.new.self c.number.result c.self-inside.invariant c.own_seen.result e.came e.right

pub invariant_of-self : goal.invariant_of-self
invariant_of-self g c = let v : LocalModel _ _ = (c.self-inside.view_is 0).giver in let inner = same_giver c.self-inside.view_is in
    let e = c.own_seen.ensures in upgraded_sound v c.own_seen.new.self c.number.result c.self-inside.invariant g.T.Item.holds c.own_seen.result e.came e.right
    (subst (IsSound g.T.Item.holds) (sym inner) c.self.invariant)

pub returns-clause-undisturbed : goal.returns-clause-undisturbed
returns-clause-undisturbed g c = let v : LocalModel _ _ = (c.self-inside.view_is 0).giver in let inner = same_giver c.self-inside.view_is in
    let e = c.own_seen.ensures in upgraded_undisturbed v c.own_seen.new.self c.number.result c.self-inside.invariant c.args.self.now (inner ∙ c.self.view_is)
    (showing g.row.T) g.T.Item.holds c.own_seen.result e.came e.right

pub returns-clause-exact : goal.returns-clause-exact
returns-clause-exact g c = let v : LocalModel _ _ = (c.self-inside.view_is 0).giver in let inner = same_giver c.self-inside.view_is in
    let e = c.own_seen.ensures in rw (← c.number.ensures) (upgraded_exact v c.own_seen.new.self c.number.result c.self-inside.invariant c.args.self.now
    (inner ∙ c.self.view_is)
    c.own_seen.result e.came e.right)

pub returns-clause-back : goal.returns-clause-back
returns-clause-back g c = let v : LocalModel _ _ = (c.self-inside.view_is 0).giver in let inner = same_giver c.self-inside.view_is in
    let e = c.own_seen.ensures in upgraded_back v c.own_seen.new.self c.number.result c.self-inside.invariant c.args.self.now (inner ∙ c.self.view_is)
    c.own_seen.result e.came

pub returns-clause-value : goal.returns-clause-value
returns-clause-value g c = let v : LocalModel _ _ = (c.self-inside.view_is 0).giver in let inner = same_giver c.self-inside.view_is in
    let e = c.own_seen.ensures in rw (← c.number.ensures) (upgraded_value g.row.T v c.own_seen.new.self c.number.result c.self-inside.invariant g.T.Item.holds
    c.args.self.now
    (inner ∙ c.self.view_is) c.codes.ensures c.own_seen.result e.came e.right)
