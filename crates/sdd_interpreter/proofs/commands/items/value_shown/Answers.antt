use Rattle.sdd_interpreter.proofs.Words.{[], ◌∷◌, sym, ap, ◌∙◌, World, Val, link_holding, owner_in, value_of}
use Rattle.sdd_space.proofs.Composed.{rest-of}
use Rattle.sdd_interpreter.proofs.commands.items.value_shown.Goals as goal

pub returns-clause-home : goal.returns-clause-home
returns-clause-home c =
    let v = c.in-Some.value.now in
    let same = c.ptr_at-ptr.ensures.world in
    let held = c.shown_is_of_home.ensures c.args.slot v (rw same (sym c.ptr_at-ptr.ensures.shown ∙ sym c.in-Some.ensures.shown)) in
    (rest-of c.ptr_at-ptr.new.world.home (owner_in (value_of v)) (link_holding v ∷ []) held).0 ∙ ap (λ (w : World Val). w.home.cells) same
