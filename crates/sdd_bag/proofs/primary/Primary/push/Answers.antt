use Rattle.std.proofs.Common.{◌≡◌, ◌<◌, length, subst}
use Rattle.std.specs.Prelude.{MatchResult}
use Rattle.sdd_bag.specs.Values.{HasOneMore}
use Rattle.sdd_bag.specs.Primary.{PrimaryParts, held_by}
use Rattle.sdd_bag.proofs.PrimaryChanges.{primary-pushed}
use Rattle.sdd_bag.proofs.primary.Primary.push.Goals as goal

pub returns-clause-pushed : goal.returns-clause-pushed
returns-clause-pushed g c =
    let new : PrimaryParts g.row.T.Denot = record { storage = c.self.inside.storage; places = c.push.new.self } in
    subst (λ (now : PrimaryParts g.row.T.Denot). MatchResult c.push.result
    (λ _. (length (held_by now) < g.row.ARRAY_LEN) × HasOneMore c.args.value (held_by now) (held_by new))
    (λ back. (back ≡ c.args.value) × (length (held_by now) ≡ g.row.ARRAY_LEN) × (new ≡ now))) c.self.view_is
    (primary-pushed g.row.ARRAY_LEN c.self.inside.storage c.self.inside.keys c.push.new.self c.self.invariant.long c.args.value c.push.result
    c.push.ensures.place c.push.ensures.values)
