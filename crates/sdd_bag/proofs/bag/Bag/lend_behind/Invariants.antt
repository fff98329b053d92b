use Rattle.std.proofs.Common.{◌≡◌, ◌⊎◌, ◌≤◌, ℕ, List, drop, is_some}
use Rattle.sdd_lists.specs.Iter.{GivesInOrder, space_of}
use Rattle.sdd_lists.specs.Lists.{Entry}
use Rattle.sdd_lists.specs.Walk.{shown_of}
use Rattle.sdd_bag.specs.Changing.{ChangesFirst}
use Rattle.sdd_bag.specs.Overflow.{AreShelves, places_on}
use Rattle.sdd_bag.specs.Storage.{names_of, value_at}
use Rattle.sdd_bag.proofs.bag.Bag.lend_behind.Given as goal

-- the values in the storages before those that are left have been lent
abbrev pub invariant-loop-shelf : goal.invariant-loop-shelf
invariant-loop-shelf g l = record {
  can : (goal.iterator-loop-shelf g).can_next l.storages;
  finite : (goal.iterator-loop-shelf g).is_finite l.storages;
  callable : goal.F-IsAlwaysCallable g l.change;
  space : space_of l.storages ≡ l.fn.s;
  start : (l.start ≡ 0) ⊎ (g.row.ARRAY_LEN ≤ l.start);
  primary : l.self-inside.primary ≡ l.initial.self-inside.primary;
  stack : l.self-inside.stack ≡ l.initial.self-inside.stack;
  names : names_of l.self-inside.keys ≡ names_of l.initial.self-inside.keys;
  same : (k : ℕ) → is_some (value_at l.self-inside.keys k) ≡ is_some (value_at l.initial.self-inside.keys k);
  changed : ChangesFirst g.F.FnMut l.start l.fn.change l.initial.self-inside.keys l.self-inside.keys l.change;
  left : (es : List (Entry _)) × AreShelves g.B.Shelf.shown g.row.ARRAY_LEN (g.S.Caller.world l.fn.s) es
      × GivesInOrder (g.S.Caller.world (space_of l.storages)) l.storages (shown_of es)
      × (names_of (drop l.start l.self-inside.keys) ≡ places_on g.B.Shelf.shown g.row.ARRAY_LEN es);
}
