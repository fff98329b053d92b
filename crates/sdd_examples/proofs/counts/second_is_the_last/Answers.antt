use Rattle.std.proofs.Common.{rules, ◌∙◌, refl}
use Rattle.sdd_examples.proofs.CountedOwners.{last-of-two}
use Rattle.sdd_world_model.specs.Ledger.{owner_of}
use Rattle.sdd_space.specs.Shared.{slot_of}
use Rattle.sdd_world_model.specs.World.{standing_at}
use Rattle.sdd_world_model.specs.WorldChanges.{owner_given}
use Rattle.sdd_world.specs.Place.{index_of}
use Rattle.sdd_examples.proofs.counts.second_is_the_last.Goals as goal

pub returns : goal.returns
returns g c = record {
  last = λ others a.
      let k = slot_of c.in_ok-first.first in
      (c.release-2.ensures.released refl).last.1
      (last-of-two g.T.Item.holds c.keeps_its_ledger.ensures c.args.world.now _ _ c.world-2-1.given.0 _ _ _ _ c.args.value k (slot_of c.in_ok-first.second)
      (index_of c.args.mine.now) others c.is_whole.ensures a c.requires.mine c.at.ensures.world c.in_ok-first.ensures.made.0 c.in_ok-first.ensures.made.1
      ((c.release.ensures.released refl).world
      ∙ (λ d. owner_given (c.at-2.ensures.world d) (c.at-2.ensures.place d) k (standing_at (c.at-2.ensures.world d) k)))
      (c.comes_by.ensures.beside (owner_of k) others) c.at-3.ensures.world c.in_ok-first.ensures.same (search rules) (search rules));
}
