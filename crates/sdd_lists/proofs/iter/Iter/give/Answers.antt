use Rattle.std.proofs.Common.{◌∙◌}
use Rattle.sdd_lists.proofs.IterPositions.{link-home}
use Rattle.sdd_lists.proofs.iter.Iter.give.Goals as goal

pub right_in-self-requires : goal.right_in-self-requires
right_in-self-requires g c = record {
  home = c.link_ref.ensures.home
      ∙ link-home g.T.Item.holds (g.S.Caller.caller c.args.self.now.space.now).home c.value_of-entry.result.now c.value_of-entry.ensures.held;
}
