-- What a bank knows may go to any thread, since fractions may.
use Rattle.std.proofs.Common.{ℕ, List, [], ◌∷◌}
use Rattle.std.specs.Prelude.{Option, None, Some}
use base.Stored.{Gv}
use base.Shift.{Keyless}
use types.Keyed.{entry_keyless}
use Rattle.atomic_table.specs.Table.{State}
use Rattle.atomic_table.specs.Seated.{halved, TableId}
use Rattle.atomic_table.proofs.Sent.{owns_keyless}
use Rattle.sdd_shared_values.specs.ValueFractions.{FractionContent, tokens_of, holdings}
use Rattle.sdd_shared_values.specs.Bank.{bank_owns}
use Rattle.sdd_shared_values.specs.declared.value_fraction.ValueFraction.{ValueFraction}
use Rattle.sdd_shared_values.specs.contracts.value_fraction.ValueFraction.{the_row}
use denote.Param.Send.{IsSend}

lent_keyless : (l : Option ℕ) (a n : ℕ) → Keyless (tokens_of l a n)
lent_keyless None a n = λ q c. tt
lent_keyless (Some t) a n = ((λ q. tt), (λ q c. tt))

sent : IsSend the_row
sent = record {
  owned = λ d vs. (
    (λ vss. (tt, ((λ uss. (tt, tt)), tt))),
    ((λ q c. entry_keyless halved d.content.gamma d.content.number _), lent_keyless d.content.lent d.content.lifetime d.content.units),
  );
  leaving = λ k f vs. tt;
}

holdings_keyless : (hs : List FractionContent) → Keyless (holdings hs)
holdings_keyless [] = tt
holdings_keyless (h ∷ hs) = (((λ q c. entry_keyless halved h.gamma h.number _), lent_keyless h.lent h.lifetime h.units), holdings_keyless hs)

pub bank_keyless : {V : Type 0} (c : V → Gv) (holds : State ValueFraction V → Type 0) (ours : V → Type 0) (banked : V → List FractionContent) (z : TableId)
    (id : ℕ)
    → Keyless (bank_owns the_row c holds ours banked z id)
unfolding Rattle.atomic_table.specs.Seated.seal
bank_keyless c holds ours banked z id = λ x. (
  (λ _. tt),
  (
    (owns_keyless the_row sent c z holds x.0.0 x.0.1).1.0.1,
    (λ v. ((λ _. tt), (entry_keyless halved z.views_name id _, holdings_keyless (banked v)))),
  ),
)
