-- The three bags of each place, as sets of items
use Rattle.std.specs.Prelude.{◌≡◌, ℕ, ◌*◌, Bool, ◌||◌, List, [], ◌∷◌, length, slice_index_or, slice_set, refl}
use Rattle.std.specs.FinSet as set
use Rattle.sdd_machine.specs.Table.{Items}
use Rattle.std.specs.Coded.{Coded, code_by, coded×, coded_ℕ, coded_list}

abbrev pub items_code : Coded Items
items_code = set.code coded_ℕ

-- the bags of one place
pub record ThreeBags : Type 0 where
  pub current : Items
  pub prev : Items
  pub next : Items

abbrev pub no_items : ThreeBags
no_items = record { current = set.empty; prev = set.empty; next = set.empty }

abbrev pub trio_code : Coded ThreeBags
trio_code =
    code_by (Items × (Items × Items)) (coded× items_code (coded× items_code items_code))
    (λ t. (t.current, (t.prev, t.next))) (λ t. record { current = t.0; prev = t.1.0; next = t.1.1 }) (λ _. refl)

-- the bags of each place, and how many items there are
pub record BagsOfPlaces : Type 0 where
  pub items : ℕ
  pub trios : List ThreeBags

abbrev pub bagged_code : Coded BagsOfPlaces
bagged_code =
    code_by (ℕ × List ThreeBags) (coded× coded_ℕ (coded_list trio_code))
    (λ b. (b.items, b.trios)) (λ p. record { items = p.0; trios = p.1 }) (λ _. refl)

abbrev pub trio_at : List ThreeBags → ℕ → ThreeBags
trio_at trios place = slice_index_or trios place no_items

-- bags by threes
abbrev pub trios_of : List Items → List ThreeBags
trios_of [] = []
trios_of (current ∷ []) = []
trios_of (current ∷ prev ∷ []) = []
trios_of (current ∷ prev ∷ next ∷ bags) = record { current = current; prev = prev; next = next } ∷ trios_of bags

-- and none left over
abbrev pub AreTrios : List Items → Type 0
AreTrios bags = length bags ≡ 3 * length (trios_of bags)

-- one of the three has it
abbrev pub has : ThreeBags → ℕ → Bool
has trio item = set.contains trio.current item || set.contains trio.prev item || set.contains trio.next item

-- an item put into the current bag
abbrev pub put : ℕ → ThreeBags → ThreeBags
put item trio = record trio { current = set.insert trio.current item }

abbrev pub put_at : ℕ → ℕ → List ThreeBags → List ThreeBags
put_at place item trios = slice_set trios place (put item (trio_at trios place))

-- the bags move on by one, and what is in next is taken out
abbrev pub rotated : ThreeBags → ThreeBags
rotated trio = record { current = set.empty; prev = trio.current; next = trio.prev }

abbrev pub rotated_at : ℕ → List ThreeBags → List ThreeBags
rotated_at place trios = slice_set trios place (rotated (trio_at trios place))

abbrev pub all_of : ThreeBags → Items
all_of trio = set.union trio.current (set.union trio.prev trio.next)

-- everything in the bags of one place moved into the current bag of another
abbrev pub joined : ℕ → ℕ → List ThreeBags → List ThreeBags
joined to from trios =
    slice_set (slice_set trios from no_items) to (record (trio_at trios to) { current = set.union (trio_at trios to).current (all_of (trio_at trios from)) })
