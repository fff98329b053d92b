-- Where values lie
use Rattle.std.proofs.Common.{◌≡◌, ℕ, Bool, List, None, length, map, sym, ap, ◌∙◌}
use Rattle.std.specs.Prelude.{is_some}
use Rattle.std.proofs.lemmas.List.{length-map}
use Rattle.sdd_world_slots.proofs.SlotsKept.{none-of}
use Rattle.sdd_world_model.specs.World.{World, standing_at, value_at}
use Rattle.sdd_world_model.proofs.WorldInvariant.{filled-there}

module _ {T : Type 0} where
  -- there is a place for a value in each slot
  pub as-many : (w : World T) → map is_some w.values ≡ map is_some w.standings → length w.values ≡ length w.standings
  as-many w filled = sym (length-map w.values is_some) ∙ ap (λ (bs : List Bool). length bs) filled ∙ length-map w.standings is_some

  -- a slot that is free has none
  pub bare : (w : World T) (k : ℕ) → map is_some w.values ≡ map is_some w.standings → standing_at w k ≡ None → value_at w k ≡ None
  bare w k filled free = none-of (value_at w k) (filled-there w k filled ∙ ap is_some free)
