use Rattle.std.specs.Prelude.{ℕ, Option, None, Some}
use base.Shift.{Keyless}
use denote.Param.Send.{IsSend}
use types.Keyed.{entry_keyless}
use Rattle.atomic_table.specs.Seated.{halved}
use Rattle.sdd_shared_values.specs.ValueFractions.{tokens_of}
use Rattle.sdd_shared_values.specs.contracts.value_fraction.ValueFraction.{the_row}

lent_keyless : (l : Option ℕ) (a n : ℕ) → Keyless (tokens_of l a n)
lent_keyless None a n = λ q c. tt
lent_keyless (Some t) a n = ((λ q. tt), (λ q c. tt))

pub send : IsSend the_row
send = record {
  owned = λ d vs. (
    (λ vss. (tt, ((λ uss. (tt, tt)), tt))),
    ((λ q c. entry_keyless halved d.content.gamma d.content.number _), lent_keyless d.content.lent d.content.lifetime d.content.units),
  );
  leaving = λ k f vs. tt;
}
