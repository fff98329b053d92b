-- What a name of a collector stands for
use Rattle.sdd_interpreter.proofs.Words.{◌≡◌, ℕ, Option, Some, None, map, slice_index_or, slice_set, sym, ap, ◌∙◌, option_map, Vec, get_or-map, map-set, Val, ScriptState, holding_at, collector_holding, Environment, IsTied, state_of, PrivateCollector, collector_of}
use Rattle.sdd_space.specs.Collector as collector

module _ (h : Environment) (t : IsTied h) where
  abbrev d : ScriptState
  d = state_of h

  pub named-collector : (k : ℕ) (x : PrivateCollector Val) → Some x ≡ slice_index_or h.collectors.entries.items k None →
      holding_at d.collectors k ≡ Some (collector_holding x)
  named-collector k x there =
      get_or-map (option_map collector_holding) h.collectors.entries.items k None ∙ ap (option_map collector_holding) (sym there)

  pub collector-home : (k : ℕ) (x : PrivateCollector Val) → Some x ≡ slice_index_or h.collectors.entries.items k None →
      collector.cells_home x ≡ h.world.home.cells
  collector-home k x there = t.sound.home.collectors k (collector_holding x) (named-collector k x there)

  pub number-is : (k : ℕ) (x : PrivateCollector Val) → Some x ≡ slice_index_or h.collectors.entries.items k None →
      collector_of (holding_at d.collectors k) ≡ Some (collector.collector_of x)
  number-is k x there = ap collector_of (named-collector k x there)

  pub collectors-spent : (collectors : Vec (Option (PrivateCollector Val))) (k : ℕ) → collectors.items ≡ slice_set h.collectors.entries.items k None →
      map (option_map collector_holding) collectors.items ≡ slice_set d.collectors k None
  collectors-spent collectors k taken =
      ap (map (option_map collector_holding)) taken ∙ map-set (option_map collector_holding) h.collectors.entries.items k None
