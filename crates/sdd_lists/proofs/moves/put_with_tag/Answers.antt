use Rattle.std.proofs.Common.{◌≡◌, ap, sym, ◌∙◌, Option, Some, None, ℕ, subst}
use Rattle.std.specs.Prelude.{option_map}
use Rattle.sdd_core.specs.declared.tag.Tag.{Tag}
use Rattle.sdd_core.specs.declared.tag.Tag.TheVariants as tag
use Rattle.sdd_participants.specs.Slab.{entry_at}
use Rattle.sdd_space.specs.CallerId.{IsExact, CallerId}
use Rattle.sdd_space.specs.Shared.{cell_of, slot_of}
use Rattle.sdd_world_model.specs.WorldChanges.{with_cell}
use Rattle.sdd_lists.proofs.MovedOwners.{given-none}
use Rattle.sdd_lists.proofs.FirstEntries.{tag_in}
use Rattle.sdd_lists.proofs.PushedLists.{put-alone, put-then, rest-none}
use Rattle.sdd_lists.proofs.moves.put_with_tag.Goals as goal

pub returns-in-Some-clause-exact : goal.returns-in-Some-clause-exact
returns-in-Some-clause-exact g c = λ e t n holds clear far.
    let w = g.S.Caller.world c.args.s.now in
    let u = g.S.Caller.world c.swap-next.new.s in
    let v = g.S.Caller.world c.swap-rest.new.s in
    let d = cell_of c.args.cell.now in
    let l = cell_of c.args.link.now in
    let k = slot_of c.args.owner in
    let next = option_map slot_of c.swap-next.result.0 in
    let rest = option_map slot_of c.swap-rest.result.0 in
    let at1 = c.swap-next.ensures.undisturbed.caller in
    let at2 = c.swap-rest.ensures.undisturbed.caller ∙ at1 in
    let one = c.swap-next.ensures.exact e in
    let two = c.swap-rest.ensures.exact (subst (λ (s : CallerId). IsExact s) (sym at1) e) in
    let last = c.give_up.ensures.exact (subst (λ (s : CallerId). IsExact s) (sym at2) e) in
    let same : Some (slot_of c.in-Some.next) ≡ next = ap (option_map slot_of) (sym c.in-Some.is) in
    let to2 = two.1 ∙ ap (λ (held : Option ℕ). with_cell u l (record { held = held; tag = tag.None })) same in
    let none = rest-none w u v d l next rest c.swap-next.result.1 c.swap-rest.result.1 c.args.tag k far one.0 one.1 two.0 to2 clear in
    given-none v (g.S.Caller.world c.give_up.new.s) (g.S.Caller.caller c.swap-rest.new.s).place c.swap-rest.result.0 none last
    ∙ put-then w u v d l next rest c.swap-next.result.1 c.swap-rest.result.1 c.args.tag k far one.0 one.1 two.0 to2 n t holds

pub returns-in-None-clause-exact : goal.returns-in-None-clause-exact
returns-in-None-clause-exact g c = λ e t n holds clear far.
    let w = g.S.Caller.world c.args.s.now in
    let d = cell_of c.args.cell.now in
    let one = c.swap-next.ensures.exact e in
    let tags : c.swap-next.result.1 ≡ t = ap tag_in (sym one.0 ∙ holds) in
    let none : option_map slot_of c.swap-next.result.0 ≡ None = ap (option_map slot_of) c.in-None.is in
    let has : entry_at w.cells d ≡ Some (record { held = None; tag = t }) =
    one.0 ∙ ap (λ (held : Option ℕ). Some (record { held = held; tag = c.swap-next.result.1 })) none
    ∙ ap (λ (x : Tag). Some (record { held = None; tag = x })) tags in
    one.1 ∙ put-alone w d (cell_of c.args.link.now) t c.args.tag (slot_of c.args.owner) n has holds clear
