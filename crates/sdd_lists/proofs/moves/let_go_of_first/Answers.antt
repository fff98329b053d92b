use Rattle.std.proofs.Common.{ap, sym, ◌∙◌, subst}
use Rattle.std.specs.Prelude.{option_map}
use Rattle.sdd_core.specs.declared.tag.Tag.{Tag}
use Rattle.sdd_participants.specs.Slab.{entry_at}
use Rattle.sdd_space.specs.CallerId.{CallerId, IsExact}
use Rattle.sdd_world_model.specs.World.{World, standing_at}
use Rattle.sdd_space.specs.Shared.{cell_of, slot_of}
use Rattle.sdd_world_model.specs.WorldChanges.{owner_given, with_cell}
use Rattle.sdd_lists.specs.Lists.{let_go_first}
use Rattle.sdd_lists.proofs.MovedOwners.{first-is, let-go, given-some}
use Rattle.sdd_lists.proofs.moves.let_go_of_first.Goals as goal

pub returns-clause-exact : goal.returns-clause-exact
returns-clause-exact g c = λ e k t was n holds links apart.
    let w = g.S.Caller.world c.tag-tag.new.s in
    let u = g.S.Caller.world c.swap-next.new.s in
    let v = g.S.Caller.world c.swap-first.new.s in
    let p = (g.S.Caller.caller c.args.s.now).place in
    let d = cell_of c.args.cell.now in
    let l = cell_of c.args.link.now in
    let at1 = c.tag-tag.ensures.undisturbed.caller in
    let at2 = c.swap-next.ensures.undisturbed.caller ∙ at1 in
    let at3 = c.swap-first.ensures.undisturbed.caller ∙ at2 in
    let one = c.tag-tag.ensures.exact e in
    let two = c.swap-next.ensures.exact (subst (λ (s : CallerId). IsExact s) (sym at1) e) in
    let three = c.swap-first.ensures.exact (subst (λ (s : CallerId). IsExact s) (sym at2) e) in
    let four = c.give_up.ensures.exact (subst (λ (s : CallerId). IsExact s) (sym at3) e) in
    let same = one.0 in
    let holds1 = ap (λ (a : World _). entry_at a.cells d) same ∙ holds in
    let links1 = ap (λ (a : World _). entry_at a.cells l) same ∙ links in
    let has1 = ap (λ (a : World _). entry_at a.cells d) same ∙ one.1.1 in
    let next = option_map slot_of c.swap-next.result.0 in
    let first = option_map slot_of c.swap-first.result.0 in
    let to3 = three.1 ∙ ap (λ (y : Tag). with_cell u d (record { held = next; tag = y })) one.1.2 in
    let is = first-is w u v d l one.1.0 next first c.swap-next.result.1 c.swap-first.result.1 apart has1 two.0 two.1 three.0 to3 k t was n holds1 links1 in
    let gone = given-some v (g.S.Caller.world c.give_up.new.s) (g.S.Caller.caller c.swap-first.new.s).place c.swap-first.result.0 k is four in
    let here = gone ∙ ap (λ (s : CallerId). owner_given v s.place k (standing_at v k)) at3 in
    let-go w u v d l one.1.0 next first c.swap-next.result.1 c.swap-first.result.1 apart has1 two.0 two.1 three.0 to3 k t was n holds1 links1
    (g.S.Caller.world c.give_up.new.s) p here
    ∙ ap (λ (a : World _). let_go_first a p d t k l n) same
