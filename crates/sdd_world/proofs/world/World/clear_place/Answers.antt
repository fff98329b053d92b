use Rattle.std.proofs.Common.{◌≡◌, [], ◌∷◌, ◌++◌, ap, ◌∙◌, refl, sym, IsTrue}
use Rattle.sdd_world_model.specs.World.{place_at}
use Rattle.sdd_world.specs.Closing.{aged_out}
use Rattle.sdd_world.proofs.Closing.{MovesWaiting-refl, MovesWaiting-trans, MovesWaiting-aged_out, MovesWaiting-guards}
use Rattle.sdd_world.proofs.Closing.{all_aged_out-append, aged_out-ahead, aged_out-range}
use Rattle.sdd_world_core.proofs.NoGuards.{quiet-same}
use Rattle.sdd_world.proofs.world.World.clear_place.Goals as goal

pub loop-self-init : goal.loop-self-init
loop-self-init g c = record { changes = ([], refl); place = c.requires.place; only = MovesWaiting-refl _ _; home = refl; quiet = c.requires.quiet }

pub age_out-requires : goal.age_out-requires
age_out-requires g c =
    let waits : (place_at c.loop-self.self c.args.place).bags.waiting ≡ [] → ⊥ =
    λ e. let clear : IsTrue c.is_clear.result = c.is_clear.ensures.1 (rw c.time.ensures e) in cc in
    record { place = c.loop-self.invariant.place; quiet = c.loop-self.invariant.quiet; waits = waits }

pub loop-self-smaller : goal.loop-self-smaller
loop-self-smaller g c =
    let waits : (place_at c.loop-self.self c.args.place).bags.waiting ≡ [] → ⊥ =
    λ e. let clear : IsTrue c.is_clear.result = c.is_clear.ensures.1 (rw c.time.ensures e) in cc in
    rw c.age_out.ensures.aged (aged_out-ahead g.T.Item.holds c.loop-self.self c.args.place c.loop-self.invariant.place waits)

pub loop-self-preserved : goal.loop-self-preserved
loop-self-preserved g c =
    let holds = g.T.Item.holds in
    let was = c.loop-self.invariant in
    let moves = MovesWaiting-aged_out holds c.loop-self.self c.args.place was.place in
    let home = rw c.age_out.ensures.aged at c.age_out.ensures.sizes.home in
    rw c.age_out.ensures.aged (record {
      changes = (
        was.changes.0 ++ c.args.place ∷ [],
        ap (λ w. aged_out holds w c.args.place) was.changes.1
            ∙ sym (all_aged_out-append holds c.args.self.now was.changes.0 (c.args.place ∷ [])),
      );
      place = aged_out-range holds c.loop-self.self c.args.place was.place;
      only = MovesWaiting-trans c.requires.place was.only moves;
      home = home ∙ was.home;
      quiet = quiet-same c.loop-self.self (aged_out holds c.loop-self.self c.args.place) (MovesWaiting-guards was.place moves) was.quiet;
    })
