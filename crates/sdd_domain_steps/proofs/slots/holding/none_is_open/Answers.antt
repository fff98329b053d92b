use Rattle.std.proofs.Common.{◌≡◌, refl, sym, ap, ◌∙◌, arith}
use Rattle.std.proofs.lemmas.Bool.{true≢false}
use mathlib.Core.Logic.{dite}
use native.Mathlib.Decide.{ℕ_discrete}
use Rattle.sdd_rights.specs.declared.views.View.{View}
use Rattle.sdd_domain_invariant.specs.Slots.SlotSteps.{looked_past}
use Rattle.sdd_atomics.specs.DomainSeat.{epoch}
use Rattle.sdd_domain_steps.proofs.slots.holding.none_is_open.Goals as goal

pub returns-then-look_for_guard-eq-OPEN : goal.returns-then-look_for_guard-eq-OPEN
returns-then-look_for_guard-eq-OPEN c =
    let inv = c.loop-place.invariant in let look = c.look_for_guard.ensures in let r = c.requires.place in
    let found = look.3 c.loop-place.place refl in let opens = c.if-look_for_guard-eq-OPEN.true in record {
      table = look.0 ∙ inv.table;
      number = look.1 ∙ inv.number;
      others = look.2 ∙ inv.others;
      looked = (c.loop-place.place, found.1 (omega (arith, opens)) ∙ inv.view, λ e. absurd (true≢false (sym e)));
      quiet = λ e. absurd (true≢false (sym e));
      met = λ _ lone. let state = ap (λ (v : View). v.epoch.state) inv.view in let place = ap (λ (v : View). v.epoch.place) inv.view in
          let inside = c.loop-place-test.true in let places = c.places-place-end.ensures.places in let end = c.loop-place.auto.place-end in
          let here : c.loop-place.place ≡ (epoch c.loop-place.seat).place = omega (arith, r.1, r.2, lone, place, inside, places, end) in
          let is = found.2 (omega (arith, r.0, state)) here in omega (arith, is, opens, state);
    }

pub loop-place-preserved : goal.loop-place-preserved
loop-place-preserved c =
    let inv = c.loop-place.invariant in let look = c.look_for_guard.ensures in let r = c.requires.place in
    let found = look.3 c.loop-place.place refl in let shut = c.if-look_for_guard-eq-OPEN.false in record {
      table = look.0 ∙ inv.table;
      number = look.1 ∙ inv.number;
      others = look.2 ∙ inv.others;
      view = found.0 shut ∙ ap (looked_past c.loop-place.place) inv.view;
      quiet = λ low opens. let state = ap (λ (v : View). v.epoch.state) inv.view in let place = ap (λ (v : View). v.epoch.place) inv.view in
          dite (ℕ_discrete (epoch c.args.seat.now).place c.loop-place.place)
          (λ same. let is = found.2 (omega (arith, r.0, state)) (omega (arith, same, place)) in shut (omega (arith, is, opens, state)))
          (λ other. inv.quiet (omega (arith, low, other)) opens);
    }
