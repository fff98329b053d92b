use Rattle.std.proofs.Common.{rules, sym, ap, ◌∙◌, subst}
use Rattle.sdd_rights.specs.StandingKind.{is_shared}
use Rattle.sdd_rights.specs.Right.{number_of, kind_of}
use Rattle.sdd_domain_steps.specs.SpaceIds.{home_in}
use Rattle.sdd_domain_steps.specs.LocalState.{LocalState}
use Rattle.sdd_domain_steps.specs.Local.{LocalModel, world_of}
use Rattle.sdd_domain_core.specs.Sound.{IsSound}
use Rattle.sdd_domain.proofs.Givers.{same_giver}
use Rattle.sdd_domain_core.proofs.OwnerLooks.{closes_looks, owned_value, only_looks, same_world, shows_it, keeps_it}
use Rattle.sdd_domain_core.proofs.Sound.{sound_step}
use Rattle.sdd_domain.proofs.space.LocalItems.get_guarded.Goals as goal

pub invariant_of-self : goal.invariant_of-self
invariant_of-self g c = let v : LocalModel _ _ = (c.self-inside.view_is 0).giver in let inner = same_giver c.self-inside.view_is in
    let looks = c.get_guarded.ensures.looks in let m : LocalState _ = c.get_guarded.new.self in
    let only = only_looks g.row.T v m (number_of c.args.right.now) (is_shared (kind_of c.args.right.now)) c.get_guarded.result.now looks in
    sound_step g.T.Item.holds v m (subst (IsSound g.T.Item.holds) (sym inner) c.self.invariant) (λ w _. w) (λ w _ _ whole. whole)
    (ap (λ (y : LocalState _). y.due) only) (closes_looks g.row.T v m (number_of c.args.right.now) (is_shared (kind_of c.args.right.now))
    c.get_guarded.result.now looks) (ap home_in only)
    (λ _. same_world g.row.T v m (number_of c.args.right.now)
    (is_shared (kind_of c.args.right.now)) c.get_guarded.result.now looks)

pub returns-clause-shown : goal.returns-clause-shown
returns-clause-shown g c = let v : LocalModel _ _ = (c.self-inside.view_is 0).giver in let inner = same_giver c.self-inside.view_is in
    shows_it g.row.T v c.get_guarded.new.self (number_of c.args.right.now) (is_shared (kind_of c.args.right.now)) c.get_guarded.result.now
    c.get_guarded.ensures.looks
    (owned_value g.row.T v (number_of c.args.right.now) (is_shared (kind_of c.args.right.now)) c.get_guarded.result.now c.self-inside.invariant
    c.codes.ensures c.get_guarded.ensures.recalled) g.T.Item.holds c.get_guarded.ensures.home c.get_guarded.ensures.once

pub returns-clause-undisturbed : goal.returns-clause-undisturbed
returns-clause-undisturbed g c = let v : LocalModel _ _ = (c.self-inside.view_is 0).giver in let inner = same_giver c.self-inside.view_is in
    record {
      caller = search rules;
      own = search rules;
      known = search rules;
      shown = keeps_it g.row.T v c.get_guarded.new.self (number_of c.args.right.now) (is_shared (kind_of c.args.right.now)) c.get_guarded.result.now
          c.get_guarded.ensures.looks g.T.Item.holds c.get_guarded.ensures.once
          c.args.self.now (inner ∙ c.self.view_is);
    }

pub returns-clause-exact : goal.returns-clause-exact
returns-clause-exact g c = λ _. let v : LocalModel _ _ = (c.self-inside.view_is 0).giver in let inner = same_giver c.self-inside.view_is in
    same_world g.row.T v c.get_guarded.new.self (number_of c.args.right.now) (is_shared (kind_of c.args.right.now)) c.get_guarded.result.now
    c.get_guarded.ensures.looks ∙ ap world_of (inner ∙ c.self.view_is)
