use Rattle.std.proofs.Common.{refl, ◌∙◌}
use Rattle.sdd_atomics.specs.SeatAtTable.{facts_at}
use Rattle.sdd_domain_steps.proofs.RawValues.{value, unit_shows, unit_single, unit_free, owns_one, takes_back, owner_shows, read_fraction_shows}
use Rattle.sdd_domain_steps.proofs.raw.values.take_back.Goals as goal

pub into_read_fraction-read_fraction-requires-clause-full : goal.into_read_fraction-read_fraction-requires-clause-full
into_read_fraction-read_fraction-requires-clause-full c = unit_shows (facts_at c.args.seat.now) c.args.slot c.regain.result c.args.seat.now
    c.regain.new.seat c.draw_unit.new.seat
    c.draw_unit.result.content (refl, refl) c.requires.quiet c.regain.ensures c.if-regain-ne-RAW.false c.draw_unit.ensures

pub into_read_fraction-read_fraction-requires-clause-one : goal.into_read_fraction-read_fraction-requires-clause-one
into_read_fraction-read_fraction-requires-clause-one c = unit_single (facts_at c.args.seat.now) c.args.slot c.regain.result c.args.seat.now
    c.regain.new.seat c.draw_unit.new.seat
    c.draw_unit.result.content (refl, refl) c.requires.quiet c.regain.ensures c.if-regain-ne-RAW.false c.draw_unit.ensures

pub into_read_fraction-read_fraction-requires-clause-free : goal.into_read_fraction-read_fraction-requires-clause-free
into_read_fraction-read_fraction-requires-clause-free c = unit_free (facts_at c.args.seat.now) c.args.slot c.regain.result c.args.seat.now c.regain.new.seat
    c.draw_unit.new.seat
    c.draw_unit.result.content (refl, refl) c.requires.quiet c.regain.ensures c.if-regain-ne-RAW.false c.draw_unit.ensures

pub cut-requires-clause-one : goal.cut-requires-clause-one
cut-requires-clause-one c = let one = owns_one (facts_at c.args.seat.now) c.args.slot c.regain.result c.args.seat.now c.regain.new.seat c.draw_unit.new.seat
    c.draw_unit.result.content (refl, refl) c.requires.quiet c.regain.ensures c.if-regain-ne-RAW.false c.draw_unit.ensures in
    (c.args.slot, one.0, one.1)

pub returns : goal.returns
returns c = let b = (facts_at c.args.seat.now) in let slot = c.args.slot in let s = c.args.seat.now in let r = c.regain.new.seat in
    let t = c.draw_unit.new.seat in
    let l = c.draw_unit.result.content in let q = c.requires in let hit = c.if-regain-ne-RAW.false in (
      value b slot c.regain.result s r t l (refl, refl) q.quiet c.regain.ensures hit c.draw_unit.ensures,
      takes_back b slot c.regain.result s r t l (refl, refl) q.quiet c.regain.ensures hit c.draw_unit.ensures c.cut.new.seat c.cut.ensures.participant,
      c.cut.ensures.owner.0 ∙ (c.draw_unit.ensures.0 ∙ c.regain.ensures.0),
      owner_shows b slot c.regain.result s r t l (refl, refl) q.quiet c.regain.ensures hit c.draw_unit.ensures c.cut.result.views c.cut.ensures.owner.1,
      read_fraction_shows b slot c.regain.result s r t l (
        refl,
        refl,
      ) q.quiet c.regain.ensures hit c.draw_unit.ensures c.into_read_fraction-read_fraction.result c.into_read_fraction-read_fraction.ensures,
    )
