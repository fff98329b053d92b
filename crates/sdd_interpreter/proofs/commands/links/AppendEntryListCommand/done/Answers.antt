use Rattle.sdd_interpreter.proofs.Words.{◌≡◌, Option, Some, sym, ap, ◌∙◌, first_slot, held_in, Val, link_of, linked_in, mark_tag}
use Rattle.sdd_world_model.specs.OwnerOrCell as holding
use Rattle.sdd_rights.specs.Right.{number_of, home_of}
use Rattle.sdd_rights.specs.declared.right.Right.{Right}
use Rattle.sdd_space.specs.Shared.{slot_of}
use Rattle.sdd_interpreter.proofs.commands.links.AppendEntryListCommand.done.Goals as goal

pub returns-in-Ok-clause-done : goal.returns-in-Ok-clause-done
returns-in-Ok-clause-done g c = λ cell v is there.
    let (t, es, u, list, fresh) = c.requires.asked.3 in
    let linked = c.in-Ok.ensures.list c.requires.exact t es u list fresh in
    let both : Some u ≡ Some v = sym fresh.there ∙ there in
    let value : u ≡ v = cc in
    let next : first_slot es ≡ cell.held = ap held_in (sym list.begins ∙ is) in
    let w = g.S.Caller.world c.args.s.now in
    let l = link_of c.args.self.entry.now in
    let k = slot_of c.args.self.owner in
    let tag = mark_tag c.args.self.mark in (
      c.in-Ok.ensures.refused c.requires.exact cell is,
      linked.world ∙ ap (λ (x : Val). linked_in w l tag (link_of x) k (first_slot es)) value
          ∙ ap (λ (x : Option _). linked_in w l tag (link_of v) k x) next,
    )

pub returns-in-Err-clause-done : goal.returns-in-Err-clause-done
returns-in-Err-clause-done g c = λ cell v is there.
    let refused = c.in-Err.ensures.refused c.requires.exact cell is in
    (refused.0, ap (λ (r : Right). holding.shared (number_of r) (home_of r)) c.in-Err.ensures.back.0, refused.2)
