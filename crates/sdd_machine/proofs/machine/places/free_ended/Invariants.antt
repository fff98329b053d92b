use Rattle.std.proofs.Common.{◌≡◌, ◌++◌, take, drop, map}
use Rattle.sdd_machine.specs.Views.{freed_post}
use Rattle.sdd_machine.proofs.machine.places.free_ended.Given as goal

abbrev pub invariant-loop-post : goal.invariant-loop-post
invariant-loop-post l = l.posts ≡ map freed_post (take l.post-index l.initial.posts) ++ drop l.post-index l.initial.posts
