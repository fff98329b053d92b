use Rattle.std.proofs.Common.{None, refl, sym, ◌∙◌}
use Rattle.sdd_values.proofs.lent_values.LentValues.edit.Goals as goal

pub returns : goal.returns
returns g c =
    rw (← c.self.view_is) (
      c.in-Some.value,
      c.f.new.arg2,
      sym (c.edit.ensures.value None) ∙ c.in-Some.is,
      record { shown = _; shows = refl; left = _; met = c.f.ensures; leaves = refl },
      refl,
    )
