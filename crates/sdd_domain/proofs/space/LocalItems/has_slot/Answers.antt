use Rattle.std.proofs.Common.{◌≡◌, IsTrue, sym, ap, ◌∙◌, subst}
use Rattle.std.specs.Prelude.{◌↔◌}
use Rattle.sdd_participants.specs.Slab.{IsFull}
use Rattle.sdd_domain_steps.specs.Local.{LocalModel, world_of}
use Rattle.sdd_domain_core.specs.Space.{is_lone}
use Rattle.sdd_domain.proofs.Givers.{same_giver}
use Rattle.sdd_domain_core.proofs.GuardCalls.{lone_is}
use Rattle.sdd_domain.proofs.FreeSlots.{tells}
use Rattle.sdd_domain.proofs.space.LocalItems.has_slot.Goals as goal

pub returns-clause-lone : goal.returns-clause-lone
returns-clause-lone g c one = let v : LocalModel _ _ = (c.self-inside.view_is 0).giver in let inner = same_giver c.self-inside.view_is in
    let is : v ≡ c.args.self.now = inner ∙ c.self.view_is in
    let lone = lone_is v.member (subst (λ (q : LocalModel g.row.T.Denot g.row.J.Denot). IsTrue (is_lone q.member)) (sym is) one) in
    subst (λ (q : LocalModel g.row.T.Denot g.row.J.Denot). IsTrue c.has_slot.result ↔ ¬ (IsFull (world_of q).standings)) is
    (tells v c.has_slot.result c.has_slot.ensures.found c.has_slot.ensures.missed lone)

pub returns-clause-exact : goal.returns-clause-exact
returns-clause-exact g c one = let v : LocalModel _ _ = (c.self-inside.view_is 0).giver in let inner = same_giver c.self-inside.view_is in
    let same : record v { member = c.has_slot.new.self } ≡ v = (λ d. record v { member = c.has_slot.ensures.same d }) in
    (returns-clause-lone g c one, ap world_of (same ∙ (inner ∙ c.self.view_is)))
