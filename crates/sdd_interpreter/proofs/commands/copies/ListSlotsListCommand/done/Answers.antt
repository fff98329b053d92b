use Rattle.sdd_interpreter.proofs.Words.{◌++◌, [], ◌∷◌, ℕ, List, refl, sym, ap, ◌∙◌, subst, rules, CallerId, IsExact, SpaceId, World, entry_at, AreLinked, entry_slots, Val, link_of, names-some, shows-it}
use Rattle.sdd_interpreter.proofs.Copies.{link-at-home, next-slot, none-left}
use Rattle.sdd_interpreter.proofs.commands.copies.ListSlotsListCommand.done.Goals as goal

pub load-next-requires-clause-home : goal.load-next-requires-clause-home
load-next-requires-clause-home g c =
    let v = c.in-Some-as_ref.entry.now in
    let shows = shows-it (g.S.Shows.shows c.loop.s) c.loop.next v (names-some c.loop.next (c.in-Some-as_ref.ensures.null.0 refl))
    (sym c.in-Some-as_ref.ensures.shown) c.loop.invariant.shown in
    c.link_ref.ensures.home ∙ link-at-home (g.S.Shows.home c.loop.s) v (c.shown_is_of_home.ensures _ v shows)
    ∙ ap (λ (h : SpaceId). h.cells) (g.met.S.Caller.home_is_caller c.loop.s)

pub loop-preserved : goal.loop-preserved
loop-preserved g c =
    let inv = c.loop.invariant in
    let exact : IsExact (g.S.Caller.caller c.loop.s) = subst (λ (s : CallerId). IsExact s) (sym inv.caller) c.requires.exact in
    let loaded = c.load-next.ensures.exact exact in
    let named = sym c.slot_of_ptr.ensures ∙ c.in-Some.is in
    let pushed = c.push_reserved.ensures.items ∙ ap (λ (k : ℕ). c.loop.slots.items ++ k ∷ []) c.number.ensures in
    record {
      caller = c.load-next.ensures.undisturbed.caller ∙ inv.caller;
      world = loaded.1 ∙ inv.world;
      shown = c.load-next.ensures.shown;
      room = search rules;
      long = search rules;
      found = λ es second has plain.
          (let was = inv.found es second has plain in
          let w = g.S.Caller.world c.loop.s in
          let next = next-slot w (g.S.Shows.shows c.loop.s) (λ k v. (g.met.S.Caller.shows_is_value c.loop.s exact k v).0) c.loop.next c.load-next.result
          inv.shown c.in-Some.slot named c.in-Some-as_ref.entry.now (sym c.in-Some-as_ref.ensures.shown)
          (sym (ap (λ k. entry_at w.cells k) c.link_ref.ensures.link) ∙ loaded.0) es was.0 c.loop.slots.items
          (subst (λ (u : World Val). AreLinked link_of u was.0) (sym inv.world) was.1) was.2 was.3 in (
            next.0,
            subst (λ (u : World Val). AreLinked link_of u next.0) inv.world next.1,
            next.2,
            next.3 ∙ ap (λ (xs : List ℕ). xs ++ entry_slots next.0) (sym pushed),
          ));
    }

pub returns-after-loop-clause-done : goal.returns-after-loop-clause-done
returns-after-loop-clause-done g c =
    let inv = c.loop.invariant in (
      inv.world,
      (λ es second has plain few.
          let was = inv.found es second has plain in
          none-left es was.0 c.loop.slots.items c.args.self.most few (search rules) was.3),
    )
