use Rattle.std.proofs.Common.{of_calls, ◌≡◌, ◌-◌, List, ◌∷◌, ◌++◌, None, map, sym, ap, ◌∙◌, subst, arith}
use mathlib.Core.Logic.{dite}
use native.Mathlib.Decide.{ℕ_discrete}
use Rattle.sdd_bag.specs.Storage.{KeptPlace, kept_place, names_of, value_at, values_in, with_value_at}
use Rattle.sdd_bag.specs.Values.{HasOneMore}
use Rattle.sdd_bag.proofs.OneMore.{more-behind}
use Rattle.sdd_bag.proofs.Prefixes.{with-none, with-other}
use Rattle.sdd_bag.proofs.Values.{names-same, one-out}
use Rattle.sdd_bag.proofs.places.Places.fold_out.Goals as goal

pub loop-left-preserved : goal.loop-left-preserved
loop-left-preserved g c =
    let Places : Type 0 = List (KeptPlace g.row.T.Denot) in let inv = c.loop-left.invariant in let at = c.loop-left.left - 1 in
    let ps : Places = map kept_place c.loop-left.keys.kept in let qs : Places = map kept_place c.exchange-value.new.keys.kept in
    let now : qs ≡ with_value_at ps at None = c.exchange-value.ensures.now in let v = c.in-Some.value in
    let one = subst (λ (rs : Places). HasOneMore v (values_in rs) (values_in ps)) (sym now) (one-out ps at v (sym c.exchange-value.ensures.was
    ∙ c.in-Some.is)) in
    record {
      callable = search of_calls;
      fewer = omega (arith, inv.fewer);
      names = ap (λ (rs : Places). names_of rs) now ∙ names-same ps at None ∙ inv.names;
      empty = λ k near far.
          ap (λ (rs : Places). value_at rs k) now
          ∙ dite (ℕ_discrete k at) (λ same. with-none ps at k c.exchange-value.ensures.there same)
          (λ other. with-other ps at None k other ∙ inv.empty k (omega (arith, near, other)) far);
      first = λ k less.
          ap (λ (rs : Places). value_at rs k) now ∙ with-other ps at None k (λ same. absurd (omega (arith, less, same)))
          ∙ inv.first k (omega (arith, less));
      others = λ k far.
          ap (λ (rs : Places). value_at rs k) now
          ∙ with-other ps at None k (λ same. absurd (omega (arith, far, same, inv.fewer, c.loop-left-test.true))) ∙ inv.others k far;
      folded = λ others vs result order folded.
          inv.folded others (v ∷ vs) result (others ++ values_in qs, more-behind v (values_in qs) (values_in ps) one others, order)
          (c.fold-made.result, c.fold-made.new.self, c.fold-made.ensures, folded);
    }
