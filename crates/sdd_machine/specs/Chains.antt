-- Bags as chains through an array of links, one link for each item
use Rattle.std.specs.Prelude.{◌≡◌, ℕ, zero, suc, ◌+◌, ◌-◌, ◌<◌, ◌≤◌, ◌^◌, if◌then◌else◌, ◌==◌, List, [], ◌∷◌, ◌++◌, slice_index_or, slice_set, length, refl}
use Rattle.std.specs.FinSet as set
use Rattle.std.specs.Coded.{Coded, code_by, coded×, coded_ℕ, coded_list}
use Rattle.sdd_machine.specs.declared.machine.chains.Chain.{Chain}
use Rattle.sdd_machine.specs.Table.{Items}
use Rattle.sdd_machine.specs.Bags.{items_code}

-- so many items, from one on
abbrev pub walk : List ℕ → ℕ → ℕ → List ℕ
walk links zero item = []
walk links (suc len) item = item ∷ walk links len (slice_index_or links item 0)

abbrev pub items_of : List ℕ → Chain → List ℕ
items_of links chain = walk links chain.len chain.first

-- how often an item occurs
abbrev pub occ : ℕ → List ℕ → ℕ
occ item [] = 0
occ item (x ∷ xs) = (if item == x then 1 else 0) + occ item xs

-- its last item is its last, and each is a number of a link
pub record IsChain (links : List ℕ) (chain : Chain) : Type 0 where
  pub last : 0 < chain.len → slice_index_or (items_of links chain) (chain.len - 1) 0 ≡ chain.last
  pub inside : (item : ℕ) → 0 < occ item (items_of links chain) → item < length links

abbrev pub no_chain : Chain
no_chain = record { first = 0; last = 0; len = 0 }

-- the items of all chains
abbrev pub all_items : List ℕ → List Chain → List ℕ
all_items links [] = []
all_items links (chain ∷ chains) = items_of links chain ++ all_items links chains

abbrev pub bag_of : List ℕ → Chain → Items
bag_of links chain = set.from_list (items_of links chain)

-- each is a chain, and no item is in two of them, or twice in one
pub record AreChains (links : List ℕ) (chains : List Chain) : Type 0 where
  pub small : length links < 2 ^ 32
  pub chain : (bag : ℕ) → IsChain links (slice_index_or chains bag no_chain)
  pub once : (item : ℕ) → occ item (all_items links chains) ≤ 1

-- bags, and how many items there are
pub record ChainedBags : Type 0 where
  pub items : ℕ
  pub bags : List Items

abbrev pub linked_code : Coded ChainedBags
linked_code =
    code_by (ℕ × List Items) (coded× coded_ℕ (coded_list items_code))
    (λ b. (b.items, b.bags)) (λ p. record { items = p.0; bags = p.1 }) (λ _. refl)

abbrev pub bag_at : List Items → ℕ → Items
bag_at bags bag = slice_index_or bags bag set.empty

-- an item put into a bag
abbrev pub put_in : ℕ → ℕ → List Items → List Items
put_in bag item bags = slice_set bags bag (set.insert (bag_at bags bag) item)

-- a bag emptied
abbrev pub emptied_at : ℕ → List Items → List Items
emptied_at bag bags = slice_set bags bag set.empty

-- everything in one bag moved into another
abbrev pub moved_into : ℕ → ℕ → List Items → List Items
moved_into to from bags = slice_set (emptied_at from bags) to (set.union (bag_at bags to) (bag_at bags from))
