use Rattle.sdd_machine.specs.declared.machine.places.PlacePhase.{PlacePhase}
use Rattle.sdd_machine.specs.Views.{free_post}
use Rattle.std.proofs.Common.{set}
use Rattle.std.proofs.lemmas.List.{get_or_default}
use Rattle.std.proofs.Common.{◌<◌, length, ap, ◌∙◌, get_or, arith}
use Rattle.std.proofs.lemmas.List.Edits.{map_over_more}
use Rattle.sdd_machine.specs.Views.{freed_post}
use Rattle.sdd_machine.proofs.machine.places.free_ended.Goals as goal

pub loop-post-preserved : goal.loop-post-preserved
loop-post-preserved c =
    let ys = c.loop-post.posts in let i = c.loop-post.post-index in
    let lt : i < length ys = (let a = c.loop-post.auto.posts in let b = c.loop-post-test.true in omega arith) in
    let x = get_or ys i free_post in
    ap (λ (y : PlacePhase). set ys i y) c.freed-freed.ensures
    ∙ map_over_more freed_post c.args.posts.now ys i x c.loop-post-test.true c.loop-post.invariant (get_or_default ys i free_post x lt)
