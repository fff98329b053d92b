use Rattle.std.proofs.Common.{◌≡◌, ℕ, ◌+◌, sym, ap, subst, ◌∙◌, get_or, arith, false}
use Rattle.std.proofs.lemmas.Bool.{true≢false}
use Rattle.std.proofs.lemmas.List.{get_or_default}
use Rattle.sdd_machine.specs.declared.machine.places.PlacePhase.{PlacePhase}
use Rattle.sdd_machine.specs.Bags.{BagsOfPlaces}
use Rattle.sdd_machine.specs.Table.{is_ended}
use Rattle.sdd_machine.specs.Views.{free_post}
use Rattle.sdd_machine.proofs.Places.{open_is}
use Rattle.sdd_machine.proofs.Gather.{Gathers, gathers_none, gathers_skip, gathers_join, gathers_all}
use Rattle.sdd_machine.proofs.machine.gather.Goals as goal
use Rattle.sdd_machine.proofs.machine.gather.Goals.{then-is_ended, else-is_ended}

pub loop-number-init : goal.loop-number-init
loop-number-init c = gathers_none c.args.place c.args.posts.now c.args.bags.now

pub loop-number-preserved : goal.loop-number-preserved
loop-number-preserved c =
    let xs = c.args.posts.now in let q = c.loop-number.number in
    let at : is_ended (get_or xs q free_post).phase ≡ c.is_ended.result =
    ap (λ (x : PlacePhase). is_ended x.phase) (get_or_default xs q free_post _ c.loop-number-test.true) ∙ sym c.is_ended.ensures in
    let not_p : is_ended (get_or xs c.args.place free_post).phase ≡ false = ap is_ended (open_is _ c.requires.open) in
    elim c.if-is_ended.branch [
      | then-is_ended w ↦
          let e = at ∙ w.if-is_ended.true in
          let ne : c.args.place ≡ q → ⊥ = λ s. true≢false (sym e ∙ (ap (λ (k : ℕ). is_ended (get_or xs k free_post).phase) (sym s) ∙ not_p)) in
          subst (λ (b : BagsOfPlaces). Gathers c.args.place xs c.args.bags.now b (q + 1)) (sym (w.bags-is ∙ w.join.ensures))
          (gathers_join c.args.place xs c.args.bags.now c.loop-number.bags q
          c.loop-number.invariant c.loop-number-test.true c.requires.place c.requires.same e ne)
      | else-is_ended w ↦
          subst (λ (b : BagsOfPlaces). Gathers c.args.place xs c.args.bags.now b (q + 1)) (sym w.bags-is)
          (gathers_skip c.args.place xs c.args.bags.now c.loop-number.bags q c.loop-number.invariant c.loop-number-test.true c.requires.same
          (at ∙ w.if-is_ended.false))
    ]

pub returns : goal.returns
returns c =
    gathers_all c.args.place c.args.posts.now c.args.bags.now c.loop-number.bags c.loop-number.number c.loop-number.invariant
    (omega arith) c.requires.place c.requires.same

pub join-requires-clause-other : goal.join-requires-clause-other
join-requires-clause-other c =
    let xs = c.args.posts.now in let q = c.loop-number.number in
    let at : is_ended (get_or xs q free_post).phase ≡ c.is_ended.result =
    ap (λ (x : PlacePhase). is_ended x.phase) (get_or_default xs q free_post _ c.loop-number-test.true) ∙ sym c.is_ended.ensures in
    let not_p : is_ended (get_or xs c.args.place free_post).phase ≡ false = ap is_ended (open_is _ c.requires.open) in
    λ s. true≢false (sym (at ∙ c.if-is_ended.true) ∙ (ap (λ (k : ℕ). is_ended (get_or xs k free_post).phase) (sym s) ∙ not_p))
