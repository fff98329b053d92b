use Rattle.sdd_domain_invariant.specs.Fractions.FractionSteps.{CarriesAll}
use Rattle.sdd_atomics.proofs.Sitting.{viewed_facts}
use Rattle.sdd_domain_core.proofs.AtTable.{at_table}
use Rattle.std.proofs.Common.{ap, sym, refl, ◌∙◌, subst, ℕ, drop, suc}
use Rattle.sdd_world_model.specs.OwnerOrCell.{AreOf}
use Rattle.sdd_domain_steps.specs.SpaceIds.{home_in, home_of_slots}
use Rattle.sdd_domain_steps.specs.LocalState.{LocalState}
use Rattle.sdd_domain_steps.proofs.SameHome.{to_table, on_table}
use Rattle.sdd_rights.specs.declared.views.Sizes.{Sizes}
use Rattle.sdd_rights.specs.declared.views.View.{View}
use Rattle.sdd_participants.specs.declared.tally.Tally.{Tally}
use Rattle.sdd_participants.specs.Tally.{one_made}
use Rattle.sdd_shared_values.specs.SharedValues.{showing, IsNoValueCode}
use Rattle.sdd_atomics.specs.TableFacts.{facts_of, TableFacts}
use Rattle.sdd_domain_steps.specs.BetweenCalls.{AreLentTo, AgreesWithView}
use Rattle.sdd_domain_steps.specs.InBags.{known_waiting}
use Rattle.sdd_domain_steps.specs.Receipt.{IsTallied}
use Rattle.sdd_domain_invariant.specs.Codes.{alive, counted}
use Rattle.sdd_domain_invariant.proofs.Codes.{claimed_is}
use Rattle.sdd_domain_core.proofs.Words.{claimed_kind}
use Rattle.sdd_domain_steps.proofs.MovedValues.{row_out}
use Rattle.sdd_domain_steps.proofs.BetweenCalls.{between_calls_makes, made_view}
use Rattle.sdd_domain_core.proofs.Tallies.{tallied_made}
use Rattle.sdd_domain_core.proofs.local_core.LocalCore.new_item_with.Goals as goal

pub put_value-owner-requires-clause-row : goal.put_value-owner-requires-clause-row
put_value-owner-requires-clause-row g c = let l = c.self.inside in let b = (facts_of l.domain.now.table) in let q = c.self.invariant.0 in (
  l.seat.me.1,
  subst (λ (v : View). CarriesAll v.fractions.gamma c.in-Ok.slot v.sizes.participants 0 IsNoValueCode l.seat.me.1 c.claim_free.new.seat.me.1)
      (sym c.in-Ok.ensures.tried.view) (row_out l.seat.me.0.fractions.gamma l.seat.me.0.sizes.participants c.in-Ok.slot l.seat.me c.claim_free.new.seat.me.1
      refl refl c.in-Ok.ensures.tried.row),
)

pub put_value-owner-requires-clause-fits : goal.put_value-owner-requires-clause-fits
put_value-owner-requires-clause-fits g c = let l = c.self.inside in let b = (facts_of l.domain.now.table) in let q = c.self.invariant.0 in
    subst (λ (t : TableFacts). AreOf (home_of_slots t.id t.gamma t.sizes.slots) (g.T.Item.holds c.make-value.result))
    (sym (viewed_facts l.seat c.claim_free.new.seat _ c.in-Ok.ensures.tried.table c.in-Ok.ensures.tried.view (refl, refl) ∙ at_table q))
    (to_table b (c.self.view_is 0) (on_table l.domain.now.limits b l.seat.table_id q.home l.domain.now.limited.1 (c.self.view_is 0) refl refl refl)
    (g.T.Item.holds c.make-value.result)
    (subst (λ (m : LocalState _). AreOf (home_in m) (g.T.Item.holds c.make-value.result)) (sym c.self.view_is)
    (c.requires.home c.make-value.result c.make-value.ensures)))

pub invariant_of-self : goal.invariant_of-self
invariant_of-self g c = let l = c.self.inside in let b = (facts_of l.domain.now.table) in let inv = c.self.invariant in let put = c.put_value-owner.ensures in
    let made = showing g.row.T c.make-value.result in let shared = c.is_one_of_several-shared.result in let slot = c.in-Ok.slot in
    let y = c.first_word-word.result in
    let claimed = c.claim_free.new.seat in let seat = c.put_value-owner.new.seat in
    let between_calls = between_calls_makes b l.place l.own y slot shared made l.seat claimed seat inv.0 c.in-Ok.ensures.tried put.home.0 put.view
    (put.given ∙ ap (λ (k : ℕ). drop (suc k) claimed.me.1) (ap (λ (v : View). v.sizes.participants) c.in-Ok.ensures.tried.view
    ∙ ap (λ (z : Sizes). z.participants) inv.0.knows.0)) in (
      between_calls.0,
      inv.1,
      inv.2,
      subst (AreLentTo l.section.lifetime) (sym between_calls.1) inv.3,
      subst (AgreesWithView b l.own l.due c.claim_free.new.known.slots l.jobs l.privates.entries) (sym (ap (λ (v : View). known_waiting v.slots)
          (made_view b l.place l.own y slot shared made l.seat claimed seat inv.0 c.in-Ok.ensures.tried put.view)))
          (record {
            bags = inv.4.bags;
            told = inv.4.told;
            large = inv.4.large;
            slots = c.claim_free.ensures.slots ∙ inv.4.slots;
            places = inv.4.places;
            jobs = inv.4.jobs;
          }),
      subst (λ (t : Tally). IsTallied 0 t seat.me.0.fractions.counts) (sym c.count_made.ensures)
          (subst (IsTallied 0 (one_made l.tally)) (sym (ap (λ (v : View). v.fractions.counts)
          (made_view b l.place l.own y slot shared made l.seat claimed seat inv.0 c.in-Ok.ensures.tried put.view)))
          (tallied_made l.tally l.seat.me.0.fractions.counts inv.5)),
    )

-- it was claimed by the word for such an owner
pub put_value-owner-requires-clause-kind : goal.put_value-owner-requires-clause-kind
put_value-owner-requires-clause-kind g c = ap counted (c.in-Ok.ensures.tried.noted ∙ c.first_word-word.ensures) ∙ claimed_kind c.is_one_of_several-shared.result

pub claim_free-requires-clause-one : goal.claim_free-requires-clause-one
claim_free-requires-clause-one g c = ap alive c.first_word-word.ensures ∙ (claimed_is c.is_one_of_several-shared.result).0
