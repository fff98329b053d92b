use Rattle.std.proofs.Common.{◌≡◌, ℕ, List, ◌∙◌, ap, sym, refl, length, subst, arith}
use Rattle.sdd_participants.specs.Slab.{entry_at}
use Rattle.sdd_world_model.specs.WorldChanges.{held_in}
use Rattle.sdd_lists.specs.Entries.{link_of}
use Rattle.sdd_lists.specs.Lists.{Entry, is_deleting, left}
use Rattle.sdd_lists.specs.Walk.{shown_of}
use Rattle.sdd_lists.proofs.IterPositions.{ahead, given-first, link-home, shown-passed, tag-at}
use Rattle.sdd_lists.proofs.WalkPositions.{left-left, linked-left, no-more, shown-left}
use Rattle.sdd_lists.proofs.iter.IterIterator.next.Goals as goal

pub right_in-behind-requires : goal.right_in-behind-requires
right_in-behind-requires g c = record {
  home = c.link_ref-link.ensures.home
      ∙ link-home g.T.Item.holds (g.S.Caller.caller c.args.self.now.space.now).home c.value_of-entry.result.now c.value_of-entry.ensures.held;
}

pub tag_held_in-tag-requires : goal.tag_held_in-tag-requires
tag_held_in-tag-requires g c = record {
  home = c.link_ref-link.ensures.home
      ∙ link-home g.T.Item.holds (g.S.Caller.caller c.args.self.now.space.now).home c.value_of-entry.result.now c.value_of-entry.ensures.held;
}

pub returns-in-Second-clause-steps : goal.returns-in-Second-clause-steps
returns-in-Second-clause-steps g c = record {
  space = c.give.ensures.space;
  home = λ _. c.give.ensures.home;
  gives = λ e vs gives.
      let it = c.args.self.now in
      let w = g.S.Caller.world it.space.now in
      let es : List (Entry _) = gives.entries in
      let owner = c.in-Some.owner in
      let v = c.value_of-entry.result.now in
      let a = ahead w owner v (c.value_of-entry.ensures.exact e) it.next.now c.in-Some.is es gives.before.linked gives.before.next in
      let tagged = tag-at g.S.Caller.world it.space it.space refl _ _ c.link_ref-link.ensures.link c.tag_held_in-tag.result
      (c.tag_held_in-tag.ensures.exact e) in
      let behind = c.right_in-behind.ensures.exact e ∙ ap (λ (k : ℕ). held_in (entry_at w.cells k)) c.link_ref-link.ensures.link ∙ ap held_in a.cell in
      let long = ap length a.is in
      let found = c.past_deleted-self.ensures.exact e a.rest a.linked behind (omega (arith, long, gives.before.within)) in
      let fewer = no-more a.rest in
      let given = c.give.ensures.exact e (left a.rest)
      (record {
        linked = linked-left link_of w a.rest a.linked;
        next = found;
        few = omega (arith, long, fewer, gives.before.few);
        within = omega (
          arith,
          long,
          fewer,
          gives.before.within,
        );
      }) in
      let values = gives.values ∙ shown-passed w owner v (c.value_of-entry.ensures.exact e) c.tag_held_in-tag.result tagged es a (ap is_deleting c.in-Second.is)
      ∙ sym (shown-left a.rest) in
      given-first w _ (left a.rest) (left-left a.rest) c.give.result given.0 given.1 vs values;
}
