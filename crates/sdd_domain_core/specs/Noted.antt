-- What a participant has noted of its domain, as each guard needs it
use Rattle.std.specs.Prelude.{◌≡◌, ℕ}
use Rattle.sdd_core.specs.declared.limits.Limits.{Limits}
use Rattle.sdd_domain_invariant.specs.Words.{state_word}
use Rattle.sdd_atomics.specs.TableFacts.{TableFacts, sizes_of}

-- how many guards may be open at once, and where the state of its place is
pub record HasNoted (b : TableFacts) (most : Limits) (place nesting state : ℕ) : Type 0 where
  pub nesting_is : nesting ≡ most.nesting
  pub state_is : state ≡ state_word (sizes_of b) place
