use Rattle.std.proofs.Common.{◌∙◌, ap}
use Rattle.sdd_world_model.specs.OwnerOrCell.{SpaceId}
use Rattle.sdd_space.specs.CallerId.{CallerId}
use Rattle.sdd_lists.proofs.pushes.front_of.Goals as goal

pub returns-clause-home : goal.returns-clause-home
returns-clause-home g c =
    c.link_ref.ensures.home
    ∙ g.met.T.LinkedList.link_is_held (g.S.Shows.home c.get_guarded_ref-entry.new.s) c.get_guarded_ref-entry.result.now
    (c.shown_is_of_home.ensures _ c.get_guarded_ref-entry.result.now c.get_guarded_ref-entry.ensures.shown)
    ∙ ap (λ (h : SpaceId). h.cells) (g.met.S.Caller.home_is_caller c.get_guarded_ref-entry.new.s)
    ∙ ap (λ (s : CallerId). s.home.cells) (c.get_guarded_ref-entry.ensures.undisturbed.caller ∙ c.get_guarded_ptr-ptr.ensures.undisturbed.caller)
