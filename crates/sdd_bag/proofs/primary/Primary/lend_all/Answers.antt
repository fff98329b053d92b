use Rattle.std.proofs.Common.{◌+◌, subst, arith}
use Rattle.sdd_bag.specs.Changing.{ChangesEach}
use Rattle.sdd_bag.specs.Primary.{PrimaryParts, held_by}
use Rattle.sdd_bag.specs.Storage.{values_in}
use Rattle.sdd_bag.proofs.Changing.{each-changed, none-changed}
use Rattle.sdd_bag.proofs.primary.Primary.lend_all.Goals as goal

pub returns-clause-changed : goal.returns-clause-changed
returns-clause-changed g c =
    let calls = g.F.FnMut in let change = c.args.change in let ps = c.self.inside.keys in let qs = c.lend_array.new.self in let last = c.lend_array.result in
    subst (λ (p : PrimaryParts g.row.T.Denot). ChangesEach calls change (held_by p) (values_in qs) last) c.self.view_is
    (each-changed calls (0 + g.row.ARRAY_LEN) change ps qs last (omega (arith, c.self.invariant.long))
    (c.lend_array.ensures.changed change ps (none-changed calls change ps)))
