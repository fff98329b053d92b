use Rattle.std.proofs.Common.{sym, ◌∙◌}
use Rattle.sdd_part_examples.specs.SmallSpace.{IsOpenAs}
use Rattle.sdd_values.proofs.Fractions.{all-lent}
use Rattle.sdd_part_examples.proofs.small_space.SmallSpace.look.Goals as goal

pub invariant_of-self : goal.invariant_of-self
invariant_of-self g c = let inv = c.self.invariant in let sections = c.self.inside.sections in
    rw (c.look.ensures.lent) (record {
      readers = inv.readers;
      count = inv.count;
      lent = all-lent (IsOpenAs sections) c.self.inside.places.fractions inv.lent c.args.at c.args.reader c.args.guard.now.lifetime
          (c.agree.ensures.kind ∙ c.requires.open, sym c.agree.ensures.lifetime);
      whole = inv.whole;
    })
