use Rattle.std.proofs.Common.{rules, ◌+◌, ◌<◌, ◌^◌, List, None, Some, is_some, refl, ap, ◌∙◌, arith}
use Rattle.sdd_bag.specs.Storage.{KeptPlace, names_of, value_at}
use Rattle.sdd_bag.proofs.Changing.{keys-inside}
use Rattle.sdd_bag.proofs.LentValues.{array-kept, out-last, out-other}
use Rattle.sdd_bag.proofs.Prefixes.{with-other}
use Rattle.sdd_bag.proofs.Values.{names-same}
use Rattle.sdd_bag.proofs.storage_keys.StorageKeys.take_out.Goals as goal

pub returns-then-count_from-at-clause-few : goal.returns-then-count_from-at-clause-few
returns-then-count_from-at-clause-few g c =
    let array = c.requires.array in
    omega (
      arith,
      keys-inside c.args.places.now c.args.self.now c.args.start g.row.LEN array.long array.keys 0 c.self.invariant.some,
      c.count_from.ensures.few,
    )

pub returns-then-count_from-at-clause-out : goal.returns-then-count_from-at-clause-out
returns-then-count_from-at-clause-out g c =
    let array = c.requires.array in (
      refl,
      λ k far near. c.count_from.ensures.empty k (omega (arith, far, c.if-count_from-at.true)) near
          (keys-inside c.args.places.now c.args.self.now c.args.start g.row.LEN array.long array.keys k near),
    )

pub overflow_add-start : goal.overflow_add-start
overflow_add-start g c =
    let array = c.requires.array in
    let few : c.args.start < 2 ^ 120 =
    omega (
      arith,
      keys-inside c.args.places.now c.args.self.now c.args.start g.row.LEN array.long array.keys 0 c.self.invariant.some,
      c.count_from.ensures.few,
    ) in
    omega (arith, few, c.if-count_from-at.false, c.count_from.ensures.most, c.self.invariant.fits)

pub returns-then-start-at-clause-out : goal.returns-then-start-at-clause-out
returns-then-start-at-clause-out g c = (
  omega (arith, c.if-count_from-at.false, c.count_from.ensures.most),
  out-last g.row.LEN c.in-Some.gap (c.args.start + c.args.at) c.in-Some.last c.args.self.now c.take_last.new.self c.if-start-at.true
      c.in-Some.ensures.taken,
)

pub swap-requires : goal.swap-requires
swap-requires g c =
    let Places : Type 0 = List (KeptPlace g.row.T.Denot) in let array = c.requires.array in let at = c.args.start + c.args.at in
    let inside = keys-inside c.args.places.now c.args.self.now c.args.start g.row.LEN array.long array.keys in
    let near : c.args.at < g.row.LEN = omega (arith, c.if-count_from-at.false, c.count_from.ensures.most) in (
      search rules,
      (
        search rules,
        (
          near,
          (
            omega (arith, inside 0 c.self.invariant.some, c.count_from.ensures.few),
            (
              array-kept g.row.LEN c.args.start c.args.places.now c.args.self.now c.take_last.new.self c.in-Some.ensures.names array,
              ap (λ (qs : Places). is_some (value_at qs at)) c.in-Some.ensures.taken.now
                  ∙ ap is_some (with-other c.args.self.now c.in-Some.gap None at c.if-start-at.false)
                  ∙ c.count_from.ensures.full c.args.at c.if-count_from-at.false (inside c.args.at near),
            ),
          ),
        ),
      ),
    )

pub returns-clause-names : goal.returns-clause-names
returns-clause-names g c =
    ap (λ (qs : List (KeptPlace g.row.T.Denot)). names_of qs) c.swap.ensures.now
    ∙ names-same c.take_last.new.self (c.args.start + c.args.at) (Some c.in-Some.last) ∙ c.in-Some.ensures.names

pub returns-clause-few : goal.returns-clause-few
returns-clause-few g c =
    let array = c.requires.array in
    omega (
      arith,
      keys-inside c.args.places.now c.args.self.now c.args.start g.row.LEN array.long array.keys 0 c.self.invariant.some,
      c.count_from.ensures.few,
    )

pub returns-clause-out : goal.returns-clause-out
returns-clause-out g c =
    let array = c.requires.array in
    let near : c.args.at < g.row.LEN = omega (arith, c.if-count_from-at.false, c.count_from.ensures.most) in (
      near,
      out-other g.row.LEN c.in-Some.gap (c.args.start + c.args.at) c.swap.result c.in-Some.last c.args.self.now c.take_last.new.self c.swap.new.self
          c.if-start-at.false
          (keys-inside c.args.places.now c.args.self.now c.args.start g.row.LEN array.long array.keys c.args.at near)
          c.in-Some.ensures.taken c.swap.ensures.was c.swap.ensures.now,
    )
