use Rattle.std.proofs.Common.{◌≡◌, ◌≤◌, [], vec_len, vec_capacity, replicate, map}
use Rattle.sdd_rights.specs.RightsAuthority.{whole, kept_of, AreFractionsUpTo}
use Rattle.sdd_rights.proofs.rights.RightsAuthority.new.Given as goal

abbrev pub invariant-loop-number : goal.invariant-loop-number
invariant-loop-number l = record {
  size : l.keys.home.size ≡ l.size;
  tables : l.keys.home.tables ≡ [];
  next : l.keys.next ≡ l._number;
  len : vec_len l.fractions ≡ l._number;
  room : l.size ≤ vec_capacity l.fractions;
  kept : map kept_of l.fractions.items ≡ replicate l._number (whole l.kind);
  each : AreFractionsUpTo l.keys.home l.fractions.items;
}
