use Rattle.std.proofs.Common.{◌≡◌, length, sym, ap, ◌∙◌}
use Rattle.sdd_machine.specs.Table.{State}
use Rattle.sdd_machine.proofs.Views.{length-seen}
use Rattle.sdd_machine.proofs.machine.Machine.places.Goals as goal

pub returns-clause-places : goal.returns-clause-places
returns-clause-places c =
    let l : length c.args.self.now.places ≡ length c.self.inside.posts.items =
    ap (λ (s : State). length s.places) (sym c.self.view_is) ∙ length-seen c.self.inside.posts.items c.self.inside.bags.trios c.self.invariant.same in
    let k : Rattle.std.specs.Vec.vec_len c.self.inside.posts ≡ length c.self.inside.posts.items = c.self.inside.posts.ok.0 in c.len.ensures ∙ (k ∙ sym l)
