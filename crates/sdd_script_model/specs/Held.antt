-- Of a new item how it stands, and of what waits which items and jobs
use Rattle.std.specs.Prelude.{ℕ, List, [], ◌∷◌, filter}
use Rattle.std.specs.List.{flat_map, range_with_len}
use Rattle.sdd_rights.specs.Units as units
use Rattle.sdd_participants.specs.declared.standing.Standing.{Standing}
use Rattle.sdd_participants.specs.declared.standing.Standing.TheVariants as standing
use Rattle.sdd_participants.specs.Collecting.{is_private_to}
use Rattle.sdd_participants.specs.declared.waiting.LimboEntry.{LimboEntry}
use Rattle.sdd_participants.specs.declared.waiting.LimboEntry.TheVariants.{Item, Job}
use Rattle.sdd_world_model.specs.OwnerOrCell.{OwnerOrCell}
use Rattle.sdd_world_model.specs.OwnerOrCell as holding
use Rattle.sdd_world_model.specs.World.{World, standing_at}
use Rattle.sdd_script_model.specs.declared.owner_kind.OwnerKind.{OwnerKind}
use Rattle.sdd_script_model.specs.declared.owner_kind.OwnerKind.TheVariants as ownership
use Rattle.sdd_script_model.specs.Val.{Val}

-- how a new item stands that is so owned, and its owner
abbrev pub standing_first : OwnerKind → Standing
standing_first ownership.Sole = standing.Owned
standing_first ownership.Shared = standing.Shared 1

abbrev pub holding_first : OwnerKind → (slot : ℕ) → units.GhostName → OwnerOrCell
holding_first ownership.Sole k home = holding.owned k home
holding_first ownership.Shared k home = holding.shared k home

-- the slot of what waits, if that is an item
abbrev pub slot_waiting : LimboEntry → List ℕ
slot_waiting (Item k) = k ∷ []
slot_waiting (Job j) = []

-- the slots of the items among what waits
abbrev pub slots_among : List LimboEntry → List ℕ
slots_among xs = flat_map slot_waiting xs

-- the place of what waits in the table of jobs, if that is a job
abbrev pub place_waiting : LimboEntry → List ℕ
place_waiting (Item k) = []
place_waiting (Job j) = j ∷ []

-- the places of the jobs among what waits
abbrev pub places_among : List LimboEntry → List ℕ
places_among xs = flat_map place_waiting xs

-- of so many slots, those whose items wait for a collector
abbrev pub slots_waiting_for : World Val → (c slots : ℕ) → List ℕ
slots_waiting_for w c slots = filter (λ s. is_private_to c (standing_at w s)) (range_with_len 0 slots)
