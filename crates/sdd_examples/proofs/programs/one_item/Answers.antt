use Rattle.std.proofs.Common.{◌≡◌, ◌∙◌, ap, arith}
use Rattle.sdd_participants.specs.Tally.{no_items}
use Rattle.sdd_world_model.proofs.AcceleratedGuards.{tally_is}
use Rattle.sdd_examples.proofs.programs.one_item.Goals as goal

pub returns-in-Ok : goal.returns-in-Ok
returns-in-Ok c =
    let passed = c.pass_a_number.ensures in
    let end = c.ended.ensures in
    let none : c.register.new.self.tally ≡ no_items = ap (λ w. w.tally) c.in-Ok.ensures.registered.1 ∙ c.in_ok-world.ensures.new.tally in
    let made : c.ended.result.made ≡ 1 = omega (arith, end.made, c.four_guards.ensures.made, passed.made, ap (λ t. t.made) none) in
    let in_place : c.ended.result.in_place ≡ 0 = omega (arith, end.in_place, c.four_guards.ensures.in_place, passed.in_place, ap (λ t. t.in_place) none) in
    let room = end.reclaimed (omega (arith, made)) in
    let reclaimed : c.ended.result.reclaimed ≡ 1 = omega (arith, room, made, in_place) in
    tally_is c.ended.result 1 1 0 made reclaimed in_place
