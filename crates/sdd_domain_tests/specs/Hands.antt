-- What a participant has in its hand that makes calls as they come
use Rattle.std.specs.Prelude.{◌≡◌, All}
use Rattle.sdd_space.specs.CallerId.{CallerId}
use Rattle.sdd_space.specs.Collector as collector
use Rattle.sdd_space.specs.Guard.{reader_of}
use Rattle.sdd_space.specs.Owner.{slots_home, cells_home}
use Rattle.sdd_space.specs.RawCell as raw_cell
use Rattle.sdd_space.specs.declared.ownership.Ownership.{Ghosts}
use Rattle.sdd_domain_tests.specs.declared.hand.Hand.{Hand}
use Rattle.sdd_domain_tests.specs.declared.hand.OwnersInHand.{OwnersInHand}

module _ {K : Type 0} {k : Ghosts K} where
  -- the owners are of the caller's slots, and the cells are numbered where it is
  pub record AreAtHome (caller : CallerId) (held : OwnersInHand K k) : Type 0 where
    pub owners : All (λ o. slots_home o ≡ caller.home.slots) held.owners.items
    pub cells : All (λ c. cells_home c ≡ caller.home.cells) held.cells.items

  -- who calls, and what it has in hand of one kind of owners
  unfoldable pub AreOwnersOf : CallerId → OwnersInHand K k → Type 0
  AreOwnersOf = AreAtHome

-- all that is in hand is the caller's
pub record AreAllOf (caller : CallerId) (hand : Hand) : Type 0 where
  pub owned : AreOwnersOf caller hand.owned
  pub shared : AreOwnersOf caller hand.shared
  pub raw_cells : All (λ c. raw_cell.cells_home c ≡ caller.home.cells) hand.raw_cells.items
  pub collectors : All (λ c. collector.cells_home c ≡ caller.home.cells) hand.collectors.items
  pub guards : All (λ g. reader_of g ≡ caller.reader) hand.guards.items

-- who calls, and what it has in hand
unfoldable pub IsHandOf : CallerId → Hand → Type 0
IsHandOf = AreAllOf
