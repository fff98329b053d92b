-- The words of private items
use Rattle.std.specs.Prelude.{ℕ, ◌/◌}

-- the collector for which an item with this word waits
abbrev pub collector_named : ℕ → ℕ
collector_named word = word / 16
