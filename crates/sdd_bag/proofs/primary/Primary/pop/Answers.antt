use Rattle.std.proofs.Common.{◌≡◌, [], subst}
use Rattle.std.specs.Prelude.{MatchOption}
use Rattle.sdd_bag.specs.Values.{HasOneMore}
use Rattle.sdd_bag.specs.Primary.{PrimaryParts, held_by}
use Rattle.sdd_bag.proofs.PrimaryChanges.{primary-popped}
use Rattle.sdd_bag.proofs.primary.Primary.pop.Goals as goal

pub returns-clause-popped : goal.returns-clause-popped
returns-clause-popped g c =
    let new : PrimaryParts g.row.T.Denot = record { storage = c.self.inside.storage; places = c.pop.new.self } in
    subst (λ (now : PrimaryParts g.row.T.Denot). MatchOption c.pop.result
    ((held_by now ≡ []) × (new ≡ now)) (λ value. HasOneMore value (held_by new) (held_by now))) c.self.view_is
    (primary-popped g.row.ARRAY_LEN c.self.inside.storage c.self.inside.keys c.pop.new.self c.self.invariant.long c.pop.result
    c.pop.ensures.place c.pop.ensures.values)
