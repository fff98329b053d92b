use Rattle.std.proofs.Common.{rules, ℕ}
use Rattle.sdd_atomics.specs.TableFacts.{facts_of}
use Rattle.sdd_domain_steps.proofs.HeldOwners.{found_bound, word_bound}
use Rattle.sdd_domain_core.proofs.local_core.LocalCore.swap.Goals as goal

pub returns-clause-swapped : goal.returns-clause-swapped
returns-clause-swapped g c = let new = c.loosen-new in let b = (facts_of c.self.inside.domain.now.table) in let found : ℕ = c.swap-out.result.1 in
    let word : ℕ = c.word_for-word.result in (
      found,
      word,
      c.word_for-word.ensures.taken,
      word_bound b c.args.kind c.args.held new.result c.args.tag word new.ensures.bound c.word_for-word.ensures.contents,
      found_bound b c.args.kind c.bind.result c.swap-out.result.0 found c.tag_in.result c.bind.ensures c.swap-out.ensures.slots c.tag_in.ensures,
      record { writes = record { member = search rules; inside = search rules; lone = search rules }; full = search rules },
    )
