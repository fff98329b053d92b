use Rattle.std.proofs.Common.{◌∙◌, ap, sym, refl}
use Rattle.sdd_world_model.specs.OwnerOrCell.{SpaceId}
use Rattle.sdd_lists.proofs.FirstEntries.{names-some, shows-it}
use Rattle.sdd_lists.proofs.link.Link.of.Goals as goal

pub returns-clause-home : goal.returns-clause-home
returns-clause-home g c =
    let v = c.in-Some.entry.now in
    let shows = shows-it (g.S.Shows.shows c.args.at.now) c.args.ptr v (names-some c.args.ptr (c.in-Some.ensures.null.0 refl))
    (sym c.in-Some.ensures.shown) c.requires.shown in
    g.met.T.LinkedList.link_is_held (g.S.Shows.home c.args.at.now) v (c.shown_is_of_home.ensures _ v shows)
    ∙ ap (λ (h : SpaceId). h.cells) (g.met.S.Caller.home_is_caller c.args.at.now)
