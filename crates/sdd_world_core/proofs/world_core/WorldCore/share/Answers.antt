use Rattle.std.proofs.Common.{◌<◌, length, refl, arith}
use Rattle.sdd_world_core.proofs.Lending.{shares-first}
use Rattle.sdd_world_core.proofs.world_core.WorldCore.share.Goals as goal

pub returns-clause-shared : goal.returns-clause-shared
returns-clause-shared g c =
    let p = c.args.place in
    let sections = c.self.inside.sections in
    let size = c.self.invariant.sections in
    let inside = rw (← c.self.view_is) at c.requires.inside in
    let near : p < length sections.kept = omega (arith, size, inside) in
    let all = (rw (← c.self.view_is) at c.requires.first) c.if-is_nested.false in
    rw (
      ← c.self.view_is,
      shares-first sections c.begin.new.self c.split-2.new.self p near all c.begin.ensures.home c.begin.ensures.kept c.split-2.ensures.home
          c.split-2.ensures.kept,
    ) refl
