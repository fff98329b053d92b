use Rattle.std.proofs.Common.{◌≡◌, inl, inr, ℕ, ◌∙◌, ap, sym, List, [], ◌∷◌, true, false, subst}
use Rattle.sdd_world_model.specs.World.{World}
use Rattle.sdd_space.specs.CallerId.{IsExact, CallerId}
use Rattle.sdd_space.specs.Shared.{cell_of}
use Rattle.sdd_participants.specs.Slab.{entry_at}
use Rattle.sdd_lists.specs.Ends.{EndsWith}
use Rattle.sdd_lists.specs.Lists.{AreLinked, Entry, is_deleted, is_deleting}
use Rattle.sdd_lists.proofs.Ends.{first-or, none-or-entry, rest-of}
use Rattle.sdd_lists.proofs.FirstEntries.{tag_in, undeleting}
use Rattle.sdd_lists.proofs.walks.kept_in.Goals as goal

pub returns-in_default-tag-clause-exact : goal.returns-in_default-tag-clause-exact
returns-in_default-tag-clause-exact g c = λ e es linked held there among.
    let link = g.T.LinkedList.link in
    let w = g.S.Caller.world c.args.s.now in
    elim (none-or-entry link w held.held es linked among) [
      | inl none ↦
          let found = c.in-Some.ensures.exact e [] tt held there none in
          let never : [] ≡ found.0 ∷ found.1 = found.2 in
          absurd (cc)
      | inr at ↦
          let found = c.in-Some.ensures.exact e (at.0 ∷ at.1) at.2 held there at.3 in
          let x : Entry _ = found.0 in
          let heads : at.0 ≡ x = ap (first-or at.0) found.2 in
          let tails : at.1 ≡ found.1 = ap rest-of found.2 in
          let linked_x : AreLinked link w (x ∷ found.1) = subst (λ (xs : List (Entry _)). AreLinked link w xs) found.2 at.2 in
          let cell_is : cell_of c.in-Some.front.link.now ≡ link x.value = c.in-Some.ensures.link ∙ ap link found.4 in
          let at1 = c.in-Some.ensures.undisturbed.caller in
          let tagged = c.tag.ensures.exact (subst (λ (s : CallerId). IsExact s) (sym at1) e) in
          let same = c.in-Some.ensures.world e in
          let tags : x.tag ≡ c.tag.result =
          ap tag_in (sym linked_x.0.linked ∙ ap (λ (k : ℕ). entry_at w.cells k) (sym cell_is)
          ∙ ap (λ (y : World _). entry_at y.cells (cell_of c.in-Some.front.link.now)) (sym same) ∙ tagged.1.1)
          ∙ sym tagged.1.2 in
          let stays : is_deleted x ≡ false = ap is_deleting tags ∙ undeleting c.tag.result c.in_default-tag.not-Second in
          elim at.4 [
            | inl ends ↦
                (let ends_x = subst (λ (xs : List (Entry _)). EndsWith es x xs) tails (subst (λ (y : Entry _). EndsWith es y at.1) heads ends) in
                (x, found.1, ends_x, stays, found.3, found.4, found.5))
            | inr gone ↦ (let never : true ≡ false = sym gone ∙ ap is_deleted heads ∙ stays in absurd (cc))
          ]
    ]
