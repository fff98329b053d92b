use Rattle.std.specs.Prelude.{ℕ, Option, None, Some, List, [], ◌∷◌}
use base.Shift.{Keyless}
use denote.Param.Send.{IsSend}
use types.Keyed.{entry_keyless}
use Rattle.atomic_table.specs.Seated.{halved}
use Rattle.sdd_shared_values.specs.ValueFractions.{FractionContent, tokens_of, holdings}
use Rattle.sdd_shared_values.specs.contracts.fraction_list.FractionList.{the_row}

lent_keyless : (l : Option ℕ) (a n : ℕ) → Keyless (tokens_of l a n)
lent_keyless None a n = λ q c. tt
lent_keyless (Some t) a n = ((λ q. tt), (λ q c. tt))

holdings_keyless : (hs : List FractionContent) → Keyless (holdings hs)
holdings_keyless [] = tt
holdings_keyless (h ∷ hs) = (((λ q c. entry_keyless halved h.gamma h.number _), lent_keyless h.lent h.lifetime h.units), holdings_keyless hs)

pub send : IsSend the_row
send = record { owned = λ d vs. ((λ vss. (tt, ((λ uss. (tt, tt)), tt))), holdings_keyless d.contents); leaving = λ k f vs. tt }
