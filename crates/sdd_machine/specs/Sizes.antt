-- How large a machine a list of steps needs
use Rattle.std.specs.Prelude.{ℕ, ◌+◌, max, min, map, List, [], ◌∷◌}
use Rattle.sdd_machine.specs.declared.machine.steps.Step.{Step}
use Rattle.sdd_machine.specs.declared.machine.steps.Step.TheVariants.{Register, Read, Publish, Retire, Lock, Adopt, Look, Advance, Unlock, Close, End}
use Rattle.sdd_machine.specs.Table.{Size, greatest_size}

abbrev pub place_named : Step → ℕ
place_named (Register place) = place
place_named (Read place) = place
place_named (Publish place) = place
place_named (Retire place item) = place
place_named (Lock place) = place
place_named (Adopt place) = place
place_named (Look place) = place
place_named (Advance place) = place
place_named (Unlock place) = place
place_named (Close place) = place
place_named (End place) = place

-- 0 where the step names none
abbrev pub item_named : Step → ℕ
item_named (Retire place item) = item
item_named _ = 0

-- the greatest of some numbers, 0 with none
abbrev pub greatest : List ℕ → ℕ
greatest [] = 0
greatest (number ∷ numbers) = max number (greatest numbers)

-- the greatest numbers named plus one, and no more than a machine may have
abbrev pub size_for : List Step → Size
size_for steps = record {
  places = min (greatest (map place_named steps) + 1) greatest_size.places;
  items = min (greatest (map item_named steps) + 1) greatest_size.items;
}
