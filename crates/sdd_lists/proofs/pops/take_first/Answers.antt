use Rattle.std.proofs.Common.{◌≡◌, ℕ, ◌+◌, ◌∙◌, ap, sym, true, false, subst}
use Rattle.sdd_world_model.specs.World.{World}
use Rattle.sdd_space.specs.CallerId.{IsExact, CallerId}
use Rattle.sdd_space.specs.Shared.{cell_of, slot_of}
use Rattle.sdd_world_model.specs.WorldChanges.{with_standing}
use Rattle.sdd_participants.specs.declared.standing.Standing.TheVariants.{Shared as shared_by}
use Rattle.sdd_lists.specs.Lists.{removed}
use Rattle.sdd_lists.proofs.Lists.{list-same}
use Rattle.sdd_lists.proofs.MoreWaiting.{grows-if, grows-not}
use Rattle.sdd_lists.proofs.pops.take_first.Goals as goal

pub returns-in-Ok-remove_first-clause-exact : goal.returns-in-Ok-remove_first-clause-exact
returns-in-Ok-remove_first-clause-exact g c = λ e t es list x rest first named cell_is shared.
    let link = g.T.LinkedList.link in
    let w = g.S.Caller.world c.args.s.now in
    let cell : ℕ = cell_of c.args.cell.now in
    let kept = c.in-Ok.ensures.exact e x named shared in
    let u : World _ = with_standing w x.slot (shared_by (kept.owners + 1)) in
    let at_keep = c.in-Ok.ensures.undisturbed.caller in
    let in_u = list-same link w (g.S.Caller.world c.keep_first.new.s) cell t es (ap (λ (y : World _). y.cells) kept.world)
    (ap (λ (y : World _). y.values) kept.world) list in
    let gone = c.in-Ok-remove_first.ensures.exact (subst (λ (s : CallerId). IsExact s) (sym at_keep) e) t es in_u x rest first cell_is in
    record {
      slot = kept.slot;
      owners = kept.owners;
      shared = kept.shared;
      few = kept.few;
      world = gone.1 ∙ ap (λ (y : World _). removed link y (g.S.Caller.caller c.keep_first.new.s).place cell t es x rest) kept.world
          ∙ ap (λ (s : CallerId). removed link u s.place cell t es x rest) at_keep;
      list = gone.2;
    }

pub returns-in-Err-clause-exact : goal.returns-in-Err-clause-exact
returns-in-Err-clause-exact g c = λ e t es list x rest first named cell_is shared. c.in-Err.ensures.exact e x named shared

pub returns-in-Err-remove_first-clause-exact : goal.returns-in-Err-remove_first-clause-exact
returns-in-Err-remove_first-clause-exact g c = λ e t es list x rest first named cell_is shared.
    let link = g.T.LinkedList.link in
    let w = g.S.Caller.world c.args.s.now in
    let cell : ℕ = cell_of c.args.cell.now in
    let kept = c.in-Ok.ensures.exact e x named shared in
    let at_keep = c.in-Ok.ensures.undisturbed.caller in
    let in_u = list-same link w (g.S.Caller.world c.keep_first.new.s) cell t es (ap (λ (y : World _). y.cells) kept.world)
    (ap (λ (y : World _). y.values) kept.world) list in
    let gone = c.in-Err-remove_first.ensures.exact (subst (λ (s : CallerId). IsExact s) (sym at_keep) e) t es in_u x rest first cell_is in
    let never : false ≡ true = gone.0 in
    absurd (cc)

pub returns-in-Ok-remove_first-clause-own : goal.returns-in-Ok-remove_first-clause-own
returns-in-Ok-remove_first-clause-own g c = λ start grown.
    c.in-Ok-remove_first.ensures.own start (grows-not (g.S.Caller.own c.args.s.now) _ c.in-Ok.ensures.undisturbed.own start grown)

pub returns-in-Err-remove_first-clause-own : goal.returns-in-Err-remove_first-clause-own
returns-in-Err-remove_first-clause-own g c = λ start grown.
    grows-if c.release.result (slot_of c.in-Ok.owner) _ _ c.release.ensures.own start
    (c.in-Err-remove_first.ensures.own start (grows-not (g.S.Caller.own c.args.s.now) _ c.in-Ok.ensures.undisturbed.own start grown))
