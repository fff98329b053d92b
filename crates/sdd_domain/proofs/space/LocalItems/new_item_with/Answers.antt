use Rattle.std.proofs.Common.{rules, ◌≡◌, ◌⊎◌, sym, ◌∙◌, subst}
use Rattle.sdd_core.specs.declared.refused.Refused.{Refused}
use Rattle.sdd_domain_core.proofs.Sound.{sound_made}
use Rattle.sdd_world_model.specs.OwnerOrCell.{AreOf}
use Rattle.sdd_domain_steps.specs.SpaceIds.{home_in}
use Rattle.sdd_domain_steps.specs.Local.{LocalModel}
use Rattle.sdd_domain_core.specs.Sound.{IsSound}
use Rattle.sdd_domain_core.proofs.MadeItem.{answered_tied, answered_owns, answered_lone, answered_keeps, answered_exact}
use Rattle.sdd_domain.proofs.space.LocalItems.new_item_with.Goals as goal

pub invariant_of-self : goal.invariant_of-self
invariant_of-self g c = answered_tied g.row.T (c.self-2.view_is 0) c.new_item_with.new.self c.new_item_with.new.ghost_values.entries c.args.kind
    (λ x. g.F.FnOnce.post c.args.make tt x) (λ e. e.0 ≡ c.args.make) (λ e. (e.1 ≡ Refused.NoSlot) ⊎ (e.1 ≡ Refused.Contended))
    c.new_item_with.result c.new_item_with.ensures c.self-2.invariant

pub invariant_of-self-2 : goal.invariant_of-self-2
invariant_of-self-2 g c = let holds = g.T.Item.holds in
    sound_made g.row.T holds (c.self-2.view_is 0) c.new_item_with.new.self c.new_item_with.new.ghost_values.entries c.args.kind
    (λ x. g.F.FnOnce.post c.args.make tt x) (λ e. e.0 ≡ c.args.make) (λ e. (e.1 ≡ Refused.NoSlot) ⊎ (e.1 ≡ Refused.Contended))
    c.new_item_with.result c.new_item_with.ensures
    (λ x made. subst (λ (z : LocalModel g.row.T.Denot g.row.J.Denot). AreOf (home_in z.member) (holds x)) (sym (c.self-2.view_is ∙ c.self.view_is))
    (c.requires.home x made))
    c.self-2.invariant (subst (IsSound holds) (sym c.self-2.view_is) c.self.invariant)

pub returns-clause-shown : goal.returns-clause-shown
returns-clause-shown g c = answered_owns g.row.T (c.self-2.view_is 0) c.new_item_with.new.self c.new_item_with.new.ghost_values.entries c.args.kind
    (λ x. g.F.FnOnce.post c.args.make tt x) (λ e. e.0 ≡ c.args.make) (λ e. (e.1 ≡ Refused.NoSlot) ⊎ (e.1 ≡ Refused.Contended))
    c.new_item_with.result c.new_item_with.ensures

pub returns-clause-lone : goal.returns-clause-lone
returns-clause-lone g c = answered_lone g.row.T (c.self-2.view_is 0) c.new_item_with.new.self c.new_item_with.new.ghost_values.entries c.args.kind
    (λ x. g.F.FnOnce.post c.args.make tt x) (λ e. e.0 ≡ c.args.make) (λ e. (e.1 ≡ Refused.NoSlot) ⊎ (e.1 ≡ Refused.Contended))
    c.new_item_with.result c.args.self.now (c.self-2.view_is ∙ c.self.view_is) c.new_item_with.ensures

pub returns-clause-exact : goal.returns-clause-exact
returns-clause-exact g c = answered_exact g.row.T (c.self-2.view_is 0) c.new_item_with.new.self c.new_item_with.new.ghost_values.entries c.args.kind
    (λ x. g.F.FnOnce.post c.args.make tt x) c.args.make (λ e. (e.1 ≡ Refused.NoSlot) ⊎ (e.1 ≡ Refused.Contended))
    c.new_item_with.result c.args.self.now (c.self-2.view_is ∙ c.self.view_is) c.new_item_with.ensures c.self-2.invariant

pub returns-clause-undisturbed : goal.returns-clause-undisturbed
returns-clause-undisturbed g c = record {
  caller = search rules;
  own = search rules;
  known = search rules;
  shown = answered_keeps g.row.T (c.self-2.view_is 0) c.new_item_with.new.self c.new_item_with.new.ghost_values.entries c.args.kind
      (λ x. g.F.FnOnce.post c.args.make tt x) (λ e. e.0 ≡ c.args.make) (λ e. (e.1 ≡ Refused.NoSlot) ⊎ (e.1 ≡ Refused.Contended))
      g.T.Item.holds c.new_item_with.result c.args.self.now (c.self-2.view_is ∙ c.self.view_is) c.new_item_with.ensures c.self-2.invariant;
}
