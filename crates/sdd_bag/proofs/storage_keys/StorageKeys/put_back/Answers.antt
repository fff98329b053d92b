use Rattle.std.proofs.Common.{rules, ◌+◌, List, Some, ap, ◌∙◌, sym, subst}
use Rattle.sdd_bag.specs.Lent.{IsGap}
use Rattle.sdd_bag.specs.Storage.{KeptPlace, names_of, with_value_at}
use Rattle.sdd_bag.proofs.LentValues.{back-gap, back-other, gap-with}
use Rattle.sdd_bag.proofs.Values.{names-same}
use Rattle.sdd_bag.proofs.storage_keys.StorageKeys.put_back.Goals as goal

pub returns-then-start-at-clause-names : goal.returns-then-start-at-clause-names
returns-then-start-at-clause-names g c =
    ap (λ (qs : List (KeptPlace g.row.T.Denot)). names_of qs) c.fill.ensures ∙ names-same c.args.self.now c.args.gap (Some c.args.value)

pub returns-then-start-at-clause-back : goal.returns-then-start-at-clause-back
returns-then-start-at-clause-back g c =
    c.fill.ensures ∙ back-gap c.args.gap (c.args.start + c.args.at) c.args.value c.args.self.now c.if-start-at.true

pub fill-requires-2 : goal.fill-requires-2
fill-requires-2 g c =
    let Places : Type 0 = List (KeptPlace g.row.T.Denot) in let at = c.args.start + c.args.at in
    let names = ap (λ (qs : Places). names_of qs) c.swap-last.ensures.now ∙ names-same c.args.self.now at (Some c.args.value) in (
      search rules,
      (
        search rules,
        (
          (c.requires.first.0, names ∙ c.requires.first.1),
          subst (λ (qs : Places). IsGap g.row.LEN c.args.gap qs) (sym c.swap-last.ensures.now)
              (gap-with g.row.LEN c.args.gap at c.args.self.now c.args.value c.if-start-at.false c.requires.awaits.first),
        ),
      ),
    )

pub returns-clause-names : goal.returns-clause-names
returns-clause-names g c =
    let Places : Type 0 = List (KeptPlace g.row.T.Denot) in
    ap (λ (qs : Places). names_of qs) c.fill-2.ensures ∙ names-same c.swap-last.new.self c.args.gap (Some c.swap-last.result)
    ∙ ap (λ (qs : Places). names_of qs) c.swap-last.ensures.now ∙ names-same c.args.self.now (c.args.start + c.args.at) (Some c.args.value)

pub returns-clause-back : goal.returns-clause-back
returns-clause-back g c =
    c.fill-2.ensures
    ∙ ap (λ (qs : List (KeptPlace g.row.T.Denot)). with_value_at qs c.args.gap (Some c.swap-last.result)) c.swap-last.ensures.now
    ∙ back-other c.args.gap (c.args.start + c.args.at) c.args.value c.swap-last.result c.args.self.now c.if-start-at.false c.swap-last.ensures.was
