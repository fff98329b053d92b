use Rattle.std.proofs.Common.{rules, of_calls, ◌≡◌, ◌+◌, ◌-◌, ◌<◌, ℕ, List, is_some, map, length, slice_get, ap, ◌∙◌, sym, subst, arith}
use Rattle.sdd_bag.specs.Changing.{ChangesFirst}
use Rattle.sdd_bag.specs.Storage.{KeptPlace, kept_place, names_of, value_at}
use Rattle.sdd_bag.proofs.Changing.{all-passed, keys-inside, same-counted}
use Rattle.sdd_bag.proofs.storage_keys.StorageKeys.lend_array.Goals as goal

pub lend_first-requires : goal.lend_first-requires
lend_first-requires g c =
    let Places : Type 0 = List (KeptPlace g.row.T.Denot) in let ps : Places = map kept_place c.self.inside.keys.kept in
    let at : (k : ℕ) → k < g.row.LEN → c.args.start + k < length c.args.self.now =
    keys-inside c.args.places.now c.args.self.now c.args.start g.row.LEN c.requires.long c.requires.keys in
    let first = at 0 c.self.invariant.some in (
      search rules,
      (
        c.count_from-count.ensures.most,
        (
          omega (arith, first, c.count_from-count.ensures.few),
          (
            (λ k name there. ap (λ (rs : Places). slice_get (names_of rs) (c.args.start + k)) c.self.view_is ∙ c.requires.keys k name there),
            (
              (λ k near.
                  ap (λ (rs : Places). is_some (value_at rs (c.args.start + k))) c.self.view_is
                  ∙ c.count_from-count.ensures.full k near (at k (omega (arith, near, c.count_from-count.ensures.most)))),
              search of_calls,
            ),
          ),
        ),
      ),
    )

pub invariant_of-self : goal.invariant_of-self
invariant_of-self g c =
    same-counted g.row.LEN c.self.inside.count c.self.inside.arrays (map kept_place c.self.inside.keys.kept) c.self.invariant
    (map kept_place c.lend_first.new.keys.kept) c.lend_first.ensures.names c.lend_first.ensures.same

pub returns-clause-few : goal.returns-clause-few
returns-clause-few g c =
    omega (
      arith,
      keys-inside c.args.places.now c.args.self.now c.args.start g.row.LEN c.requires.long c.requires.keys 0 c.self.invariant.some,
      c.count_from-count.ensures.few,
    )

pub returns-clause-changed : goal.returns-clause-changed
returns-clause-changed g c = λ first before so.
    let Places : Type 0 = List (KeptPlace g.row.T.Denot) in let len = g.row.LEN in let start = c.args.start in let count = c.count_from-count.result in
    let ps : Places = map kept_place c.self.inside.keys.kept in let qs : Places = map kept_place c.lend_first.new.keys.kept in
    let g' = c.lend_first.result in let calls = g.F.FnMut in
    let done = c.lend_first.ensures.changed first before (subst (λ (rs : Places). ChangesFirst calls start first before rs c.args.change)
    (sym c.self.view_is) so) in
    let all : (start + count) + (len - count) ≡ start + len = omega (arith, c.count_from-count.ensures.most) in
    let at : (k : ℕ) → k < len → start + k < length c.args.self.now = keys-inside c.args.places.now c.args.self.now start len c.requires.long c.requires.keys in
    subst (λ (n : ℕ). ChangesFirst calls n first before qs g') all
    (all-passed calls (len - count) (start + count) first before qs g' done
    (λ k near.
    let here : (start + count) + k ≡ start + (count + k) = omega arith in
    let less : count + k < len = omega (arith, near) in
    ap (λ (n : ℕ). is_some (value_at qs n)) here ∙ c.lend_first.ensures.same (start + (count + k))
    ∙ ap (λ (rs : Places). is_some (value_at rs (start + (count + k)))) c.self.view_is
    ∙ c.count_from-count.ensures.empty (count + k) (omega arith) less (at (count + k) less)))
