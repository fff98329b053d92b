use Rattle.std.proofs.Common.{ℕ, ◌≡◌, ◌∙◌, arith, false, true, refl, sym}
use Rattle.sdd_rights.specs.Right.{raw_number_of}
use Rattle.std.proofs.lemmas.Bool.Decides.{nat_tests}
use Rattle.sdd_world_model.specs.World.{place_at}
use Rattle.sdd_world_model.proofs.AcceleratedReclaim.{all-closed}
use Rattle.sdd_world_model.proofs.ParticipantChanges.{collector-own}
use Rattle.sdd_world_model.proofs.Collecting.{collected-ends}
use Rattle.sdd_world_core.proofs.CollectorClosed.{count-closed}
use Rattle.sdd_world.proofs.turn.TurnCollectors.close_collector.Goals as goal

pub returns-clause-own : goal.returns-clause-own
returns-clause-own g c =
    let w = c.args.self.now.world.now in
    let p : ℕ = c.args.self.now.place in
    let number : ℕ = raw_number_of c.args.collector in
    rw (c.close_collector.ensures.closed, c.world.view_is) (collector-own g.T.Item.holds w p number c.requires.seated.0)

pub returns-clause-shut : goal.returns-clause-shut
returns-clause-shut g c =
    let w = c.args.self.now.world.now in
    let p : ℕ = c.args.self.now.place in
    let shut = all-closed w (λ guarded. let never : false ≡ true = sym c.if-is_guarded.false ∙ c.is_guarded.ensures.1 guarded in absurd (cc)) p in
    let none : (place_at w p).guards ≡ 0 = grind (arith, nat_tests, shut) in none

pub returns-clause-known : goal.returns-clause-known
returns-clause-known g c =
    let w = c.args.self.now.world.now in
    let p : ℕ = c.args.self.now.place in
    let number : ℕ = raw_number_of c.args.collector in
    let count = count-closed g.T.Item.holds w p number c.requires.seated.0 in
    rw (c.close_collector.ensures.closed, c.world.view_is) (record { told = omega (arith, count); since = count })

pub returns-clause-exact : goal.returns-clause-exact
returns-clause-exact g c exact = (
  λ guarded. let never : false ≡ true = sym c.if-is_guarded.false ∙ c.is_guarded.ensures.1 guarded in absurd (cc),
  rw c.world.view_is at c.close_collector.ensures.null,
  rw (c.close_collector.ensures.closed, c.world.view_is) refl,
)

pub returns-clause-others : goal.returns-clause-others
returns-clause-others g c k value other is =
    let w = c.args.self.now.world.now in
    let p : ℕ = c.args.self.now.place in
    let number : ℕ = raw_number_of c.args.collector in
    let ends = collected-ends g.T.Item.holds w (rw c.world.view_is at c.world.invariant.2) p number c.requires.seated.0 in
    rw (c.close_collector.ensures.closed, c.world.view_is) (ends.keeps k (other refl) ∙ is)
