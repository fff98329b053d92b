use Rattle.std.proofs.Common.{rules, ◌≡◌, ◌⊎◌, sym, ◌∙◌, subst}
use Rattle.sdd_core.specs.declared.refused.Refused.{Refused}
use Rattle.sdd_domain_core.proofs.Sound.{sound_made}
use Rattle.sdd_world_model.specs.OwnerOrCell.{AreOf}
use Rattle.sdd_domain_steps.specs.SpaceIds.{home_in}
use Rattle.sdd_domain_steps.specs.Local.{LocalModel}
use Rattle.sdd_domain_core.specs.Sound.{IsSound}
use Rattle.sdd_domain_core.proofs.MadeItem.{answered_tied, answered_owns, answered_lone, answered_keeps, answered_exact, as_answered, value_owns, value_exact}
use Rattle.sdd_domain.proofs.space.LocalItems.new_item.Goals as goal

pub invariant_of-self : goal.invariant_of-self
invariant_of-self g c = answered_tied g.row.T (c.self-2.view_is 0) c.new_item.new.self c.new_item.new.ghost_values.entries c.args.kind
    (λ y. y ≡ c.args.value) (λ e. e.0 ≡ c.args.value) (λ e. (e.1 ≡ Refused.NoSlot) ⊎ (e.1 ≡ Refused.Contended)) c.new_item.result
    (as_answered g.row.T (c.self-2.view_is 0) c.new_item.new.self c.new_item.new.ghost_values.entries c.args.kind c.args.value
    (λ e. (e.1 ≡ Refused.NoSlot) ⊎ (e.1 ≡ Refused.Contended)) c.new_item.result c.new_item.ensures.made c.new_item.ensures.entry) c.self-2.invariant

pub invariant_of-self-2 : goal.invariant_of-self-2
invariant_of-self-2 g c = let holds = g.T.Item.holds in sound_made g.row.T holds (c.self-2.view_is 0) c.new_item.new.self c.new_item.new.ghost_values.entries
    c.args.kind
    (λ y. y ≡ c.args.value) (λ e. e.0 ≡ c.args.value) (λ e. (e.1 ≡ Refused.NoSlot) ⊎ (e.1 ≡ Refused.Contended)) c.new_item.result
    (as_answered g.row.T (c.self-2.view_is 0) c.new_item.new.self c.new_item.new.ghost_values.entries c.args.kind c.args.value
    (λ e. (e.1 ≡ Refused.NoSlot) ⊎ (e.1 ≡ Refused.Contended)) c.new_item.result c.new_item.ensures.made c.new_item.ensures.entry)
    (λ x e. subst (λ (z : LocalModel g.row.T.Denot g.row.J.Denot × g.row.T.Denot). AreOf (home_in z.0.member) (holds z.1))
    (λ d. (sym (c.self-2.view_is ∙ c.self.view_is) d, sym e d)) c.requires.home)
    c.self-2.invariant (subst (IsSound holds) (sym c.self-2.view_is) c.self.invariant)

pub returns-clause-shown : goal.returns-clause-shown
returns-clause-shown g c = value_owns g.row.T (c.self-2.view_is 0) c.new_item.new.self c.new_item.new.ghost_values.entries c.args.kind c.args.value c.new_item.result
    (answered_owns g.row.T (c.self-2.view_is 0) c.new_item.new.self c.new_item.new.ghost_values.entries c.args.kind
    (λ y. y ≡ c.args.value) (λ e. e.0 ≡ c.args.value) (λ e. (e.1 ≡ Refused.NoSlot) ⊎ (e.1 ≡ Refused.Contended)) c.new_item.result
    (as_answered g.row.T (c.self-2.view_is 0) c.new_item.new.self c.new_item.new.ghost_values.entries c.args.kind c.args.value
    (λ e. (e.1 ≡ Refused.NoSlot) ⊎ (e.1 ≡ Refused.Contended)) c.new_item.result c.new_item.ensures.made c.new_item.ensures.entry))

pub returns-clause-lone : goal.returns-clause-lone
returns-clause-lone g c = answered_lone g.row.T (c.self-2.view_is 0) c.new_item.new.self c.new_item.new.ghost_values.entries c.args.kind
    (λ y. y ≡ c.args.value) (λ e. e.0 ≡ c.args.value) (λ e. (e.1 ≡ Refused.NoSlot) ⊎ (e.1 ≡ Refused.Contended)) c.new_item.result c.args.self.now
    (c.self-2.view_is ∙ c.self.view_is)
    (as_answered g.row.T (c.self-2.view_is 0) c.new_item.new.self c.new_item.new.ghost_values.entries c.args.kind c.args.value
    (λ e. (e.1 ≡ Refused.NoSlot) ⊎ (e.1 ≡ Refused.Contended)) c.new_item.result c.new_item.ensures.made c.new_item.ensures.entry)

pub returns-clause-exact : goal.returns-clause-exact
returns-clause-exact g c = λ exact. value_exact g.row.T (c.self-2.view_is 0) c.new_item.new.self c.new_item.new.ghost_values.entries c.args.kind c.args.value
    c.new_item.result c.args.self.now
    (answered_exact g.row.T (c.self-2.view_is 0) c.new_item.new.self c.new_item.new.ghost_values.entries c.args.kind
    (λ y. y ≡ c.args.value) c.args.value (λ e. (e.1 ≡ Refused.NoSlot) ⊎ (e.1 ≡ Refused.Contended)) c.new_item.result c.args.self.now
    (c.self-2.view_is ∙ c.self.view_is)
    (as_answered g.row.T (c.self-2.view_is 0) c.new_item.new.self c.new_item.new.ghost_values.entries c.args.kind c.args.value
    (λ e. (e.1 ≡ Refused.NoSlot) ⊎ (e.1 ≡ Refused.Contended)) c.new_item.result c.new_item.ensures.made c.new_item.ensures.entry) c.self-2.invariant exact)

pub returns-clause-undisturbed : goal.returns-clause-undisturbed
returns-clause-undisturbed g c = record {
  caller = search rules;
  own = search rules;
  known = search rules;
  shown = answered_keeps g.row.T (c.self-2.view_is 0) c.new_item.new.self c.new_item.new.ghost_values.entries c.args.kind
      (λ y. y ≡ c.args.value) (λ e. e.0 ≡ c.args.value) (λ e. (e.1 ≡ Refused.NoSlot) ⊎ (e.1 ≡ Refused.Contended)) g.T.Item.holds c.new_item.result
      c.args.self.now (c.self-2.view_is ∙ c.self.view_is)
      (as_answered g.row.T (c.self-2.view_is 0) c.new_item.new.self c.new_item.new.ghost_values.entries c.args.kind c.args.value
      (λ e. (e.1 ≡ Refused.NoSlot) ⊎ (e.1 ≡ Refused.Contended)) c.new_item.result c.new_item.ensures.made c.new_item.ensures.entry) c.self-2.invariant;
}
