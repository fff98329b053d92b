use Rattle.std.proofs.Common.{◌≡◌, ap, subst, sym, ◌∙◌}
use Rattle.sdd_participants.specs.Slab.{IsEmptyAt}
use Rattle.sdd_rights.specs.Right.{number_of, home_of}
use Rattle.sdd_rights.specs.declared.right.Right.{Right}
use Rattle.sdd_world_model.specs.Slots.{first_standing}
use Rattle.sdd_world_model.specs.WorldChanges.{made_as}
use Rattle.sdd_space.proofs.owner.Owner.new.Goals as goal

pub returns-in-Ok : goal.returns-in-Ok
returns-in-Ok g c =
    let put = c.in-Ok.ensures in
    let same = c.of_right.ensures in
    let was = g.S.Caller.world c.args.s.now in
    let now = g.S.Caller.world c.new_item.new.self in
    record {
      undisturbed = put.undisturbed;
      home = ap home_of same ∙ put.home;
      shown = subst (λ (r : Right). g.S.Shows.owns_value c.new_item.new.self r c.args.value) (sym same) put.shown;
      back = put.back;
      lone = put.lone;
      exact = λ e.
          subst (λ (r : Right). IsEmptyAt was.standings (number_of r) × (now ≡ made_as was (number_of r) c.args.value (first_standing g.K.Ownership.kind))) (sym same)
          (rw (c.kind.ensures.kind) at (put.exact e));
    }

pub returns-in-Err : goal.returns-in-Err
returns-in-Err g c =
    let kept = c.in-Err.ensures in
    record {
      undisturbed = kept.undisturbed;
      home = kept.home;
      shown = kept.shown;
      back = kept.back;
      lone = kept.lone;
      exact = kept.exact;
    }
