use Rattle.sdd_interpreter.proofs.Words.{Renumbers, Some, ap, inl, inr, refl, ℕ, ◌∙◌}
use Rattle.sdd_participants.specs.declared.standing.Standing.TheVariants as standing
use Rattle.sdd_space.specs.Owned as owned
use Rattle.sdd_world_model.specs.OwnerOrCell as holding
use Rattle.sdd_space.specs.Shared as shared
use Rattle.sdd_interpreter.proofs.commands.raw.PutNumberInPlaceCommand.done.Goals as goal

pub returns-in-Ok-clause-done : goal.returns-in-Ok-clause-done
returns-in-Ok-clause-done g c =
    let exact = c.in-Ok.ensures.exact c.requires.exact in
    let post = exact.1.3 in
    let changed : Renumbers post.shown.now c.args.self.number post.left.now = post.met in
    let held = c.get_mut.new.self in
    let same = ap (λ k. holding.owned k (owned.slots_home held)) c.in-Ok.ensures.slot
    ∙ ap (holding.owned (owned.slot_of c.in-Sole.held)) c.in-Ok.ensures.home in
    rw c.in-Sole.is (
      same,
      (
        owned.slot_of c.in-Sole.held,
        refl,
        (
          record { alone = inl (c.in-Ok.ensures.owned c.requires.exact); quiet = exact.0 },
          record { was = exact.1.0; now = exact.1.1; there = exact.1.2; changed = rw (← post.shows, ← post.leaves) changed; put = exact.1.4 },
        ),
      ),
    )

pub returns-in-Ok-get_mut-clause-done : goal.returns-in-Ok-get_mut-clause-done
returns-in-Ok-get_mut-clause-done g c =
    let exact = c.in-Ok-get_mut.ensures.exact c.requires.exact in
    let post = exact.2.2.3 in
    let changed : Renumbers post.shown.now c.args.self.number post.left.now = post.met in
    let held = c.get_mut-in-Share.new.self in
    let same = ap (λ k. holding.shared k (shared.slots_home held)) c.in-Ok-get_mut.ensures.slot
    ∙ ap (holding.shared (shared.slot_of c.in-Share.held)) c.in-Ok-get_mut.ensures.home in
    rw c.in-Share.is (
      same,
      (
        shared.slot_of c.in-Share.held,
        refl,
        (
          record { alone = inr (exact.1.shared ∙ ap (λ (n : ℕ). Some (standing.Shared n)) exact.2.0); quiet = exact.2.1 },
          record { was = exact.2.2.0; now = exact.2.2.1; there = exact.2.2.2; changed = rw (← post.shows, ← post.leaves) changed; put = exact.2.2.4 },
        ),
      ),
    )
