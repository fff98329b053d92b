use Rattle.sdd_space.proofs.owner.Owner.new_with.Goals as goal

pub returns-in-Ok : goal.returns-in-Ok
returns-in-Ok g c =
    let made = c.in-Ok.ensures in
    rw (c.of_right.ensures)
    record {
      undisturbed = made.undisturbed;
      home = made.home;
      shown = made.shown;
      back = made.back;
      lone = made.lone;
      exact = λ e. rw (c.kind.ensures.kind) at (made.exact e);
    }

pub returns-in-Err : goal.returns-in-Err
returns-in-Err g c =
    let kept = c.in-Err.ensures in
    record {
      undisturbed = kept.undisturbed;
      home = kept.home;
      shown = kept.shown;
      back = kept.back;
      lone = kept.lone;
      exact = kept.exact;
    }
