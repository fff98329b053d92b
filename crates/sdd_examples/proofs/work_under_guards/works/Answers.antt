use Rattle.std.proofs.Common.{◌≡◌, ◌≤◌, ℕ, ◌+◌, [], ◌∷◌, ◌++◌, ◌∙◌, ap, refl, sym, arith, append_assoc, length, length-append, List, subst}
use Rattle.std.specs.Prelude.{◌-◌}
use Rattle.std.proofs.lemmas.List.{append-nil}
use Rattle.sdd_world.specs.Place.{index_of}
use Rattle.sdd_examples.proofs.PassedWork.{HavePassedWork, none-passed, one-more}
use Rattle.sdd_examples.proofs.work_under_guards.works.Goals as goal

-- the last of those that are left is taken, and those behind it were used
taken : {T : Type 0} (used all before after : List T) (value : T) → all ≡ before ++ used → before ≡ after ++ value ∷ [] → all ≡ after ++ value ∷ used
taken used all before after value are last = are ∙ ap (λ xs. xs ++ used) last ∙ append_assoc after (value ∷ []) used

pub loop-value-init : goal.loop-value-init
loop-value-init g c =
    let q : ℕ = index_of c.args.place.now in
    let start = c.args.world.now in
    let all : ℕ = length c.args.values.items in
    record {
      fewer = omega arith;
      passed = subst (λ (n : ℕ). HavePassedWork g.T.Item.holds q n start start) (let none : 0 ≡ all - all = omega arith in none)
          (none-passed g.T.Item.holds q start c.requires.place c.requires.quiet);
      rest = ([], sym (append-nil c.args.values.items));
      home = refl;
    }

pub loop-value-preserved : goal.loop-value-preserved
loop-value-preserved g c =
    let h = g.T.Item.holds in
    let q : ℕ = index_of c.args.place.now in
    let start = c.args.world.now in
    let end = c.works_under_a_guard.new.world in
    let was = c.loop-value.invariant in
    let all : ℕ = length c.args.values.items in
    let before : ℕ = length c.loop-value.values.items in
    let after : ℕ = length c.pop.new.self.items in
    let one_less : before ≡ after + 1 =
    ap (λ (xs : List g.row.T.Denot). length xs) c.in-Some.ensures.items ∙ length-append c.pop.new.self.items (c.in-Some.value ∷ []) in
    let fewer : before ≤ all = was.fewer in
    let next : all - before + 1 ≡ all - after = omega (arith, one_less, fewer) in
    record {
      fewer = omega (arith, one_less, fewer);
      passed = subst (λ (n : ℕ). HavePassedWork h q n start end) next
          (one-more h q c.calls_are_work.ensures (all - before) start c.loop-value.world end was.passed c.works_under_a_guard.ensures.passed);
      rest = (c.in-Some.value ∷ was.rest.0, taken was.rest.0 c.args.values.items _ c.pop.new.self.items c.in-Some.value was.rest.1 c.in-Some.ensures.items);
      home = c.works_under_a_guard.ensures.home ∙ was.home;
    }

-- the values before the one that was refused weren't tried
pub returns-in-Err-clause-back : goal.returns-in-Err-clause-back
returns-in-Err-clause-back g c =
    let was = c.loop-value.invariant.rest in
    let same : c.in-Err.value ≡ c.in-Some.value = ap (λ b. b.0) c.in-Err.ensures.back in
    let last = c.in-Some.ensures.items ∙ ap (λ (v : g.row.T.Denot). c.pop.new.self.items ++ v ∷ []) (sym same) in
    (was.0, taken was.0 c.args.values.items c.loop-value.values.items c.pop.new.self.items c.in-Err.value was.1 last)

pub returns-clause-gone : goal.returns-clause-gone
returns-clause-gone g c four what seen waits =
    let q : ℕ = index_of c.args.place.now in
    let law = c.working_guards_reclaim.ensures.reclaimed in
    let all : ℕ = length c.args.values.items in
    let none : length c.loop-value.values.items ≡ 0 = omega (arith, c.in_default.ensures.cases.0, c.loop-value.values.ok) in
    law.gone q seen what waits (all - length c.loop-value.values.items) c.loop-value.world c.loop-value.invariant.passed.way
    (omega (arith, law.bounded q seen, four, none))
