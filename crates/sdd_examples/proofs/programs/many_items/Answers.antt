use Rattle.std.proofs.Common.{◌≡◌, ◌∙◌, ap, arith, length}
use Rattle.sdd_participants.specs.Tally.{no_items}
use Rattle.sdd_world_model.proofs.AcceleratedGuards.{tally_is}
use Rattle.sdd_examples.proofs.programs.many_items.Goals as goal

pub returns-in-Ok-register : goal.returns-in-Ok-register
returns-in-Ok-register g c =
    let passed = c.pass_values.ensures in
    let end = c.ended.ensures in
    let none : c.register.new.self.tally ≡ no_items = ap (λ w. w.tally) c.in-Ok-register.ensures.registered.1 ∙ c.in-Ok.ensures.new.tally in
    let made : c.ended.result.made ≡ length c.args.values.items = omega (arith, end.made, c.four_guards.ensures.made, passed.made, ap (λ t. t.made) none) in
    let in_place : c.ended.result.in_place ≡ 0 = omega (arith, end.in_place, c.four_guards.ensures.in_place, passed.in_place, ap (λ t. t.in_place) none) in
    let room = end.reclaimed (omega (arith, made, c.requires.few, c.requires.limits.slots)) in
    let reclaimed : c.ended.result.reclaimed ≡ length c.args.values.items = omega (arith, room, made, in_place) in
    tally_is c.ended.result (length c.args.values.items) (length c.args.values.items) 0 made reclaimed in_place
