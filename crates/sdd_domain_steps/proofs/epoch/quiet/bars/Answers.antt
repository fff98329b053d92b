use Rattle.std.proofs.Common.{◌≡◌, ◌⊎◌, ℕ, ◌∙◌, sym, ap, inl, inr, refl, arith, ◌<◌, subst}
use Rattle.std.proofs.lemmas.Bool.Decides.{nat_tests}
use Rattle.sdd_rights.specs.declared.views.View.{View}
use Rattle.sdd_domain_invariant.specs.Epoch.Barred.{IsBarred, past}
use Rattle.sdd_domain_steps.proofs.epoch.quiet.bars.Goals.{then-found-eq-FREE-via-then-found-eq-FREE, then-found-eq-FREE-via-else-found-eq-FREE+then-found-eq-BARRED}
use Rattle.sdd_domain_steps.proofs.epoch.quiet.bars.Goals as goal

pub returns-then-found-eq-FREE-clause-barred : goal.returns-then-found-eq-FREE-clause-barred
returns-then-found-eq-FREE-clause-barred c = λ _. let x : ℕ = c.bar-found.result in
    let over : (x ≡ 0) ⊎ IsBarred x = elim c.then-found-eq-FREE.branch [
      | then-found-eq-FREE-via-then-found-eq-FREE w ↦ inl w.if-found-eq-FREE.true
      | then-found-eq-FREE-via-else-found-eq-FREE+then-found-eq-BARRED w ↦ inr (let e = w.if-found-eq-BARRED.true in omega arith)
    ] in (c.bar-found.ensures.3 c.args.place refl).0 over

pub bar-found-requires-2-clause-next : goal.bar-found-requires-2-clause-next
bar-found-requires-2-clause-next c = let ended = c.if-found-ne-ENDED.false in
    let same = (c.bar-found.ensures.3 c.args.place refl).1 c.if-found-eq-FREE.false (λ b. omega arith) in (
      subst (λ (k : ℕ). c.args.place < k) (ap (λ (v : View). v.sizes.participants) (sym same)) c.requires.next.0,
      c.requires.next.1
          ∙ ap (λ (v : View). v.places.ended) (sym same),
    )

pub returns-then-found-eq-ENDED-clause-barred : goal.returns-then-found-eq-ENDED-clause-barred
returns-then-found-eq-ENDED-clause-barred c = λ _. let ended = c.if-found-ne-ENDED.false in
    let same = (c.bar-found.ensures.3 c.args.place refl).1 c.if-found-eq-FREE.false (λ b. omega arith) in
    (c.bar-found-2.ensures.3 c.args.place refl).0 (inl c.if-found-eq-ENDED.true) ∙ ap (λ (v : View). past c.args.place v) same

pub returns-else-found-eq-ENDED-clause-barred : goal.returns-else-found-eq-ENDED-clause-barred
returns-else-found-eq-ENDED-clause-barred c = λ t. let ended = c.if-found-ne-ENDED.false in
    let same = (c.bar-found.ensures.3 c.args.place refl).1 c.if-found-eq-FREE.false (λ b. omega arith) in
    let x : ℕ = c.bar-found-2.result in let e : x ≡ 4 = grind (arith, nat_tests) in
    (c.bar-found-2.ensures.3 c.args.place refl).0 (inr (omega arith)) ∙ ap (λ (v : View). past c.args.place v) same
