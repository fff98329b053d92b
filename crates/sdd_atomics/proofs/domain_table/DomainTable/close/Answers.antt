use Rattle.sdd_atomics.specs.DomainTable.{gamma_of, sizes_of}
use Rattle.std.proofs.Common.{ℕ, List, ◌+◌, sym, ap, ◌∙◌}
use Rattle.sdd_domain_invariant.specs.Codes.{full}
use Rattle.sdd_domain_invariant.specs.Slots.{slot_at}
use Rattle.sdd_domain_invariant.specs.Counts.{gone_by, full_slots}
use Rattle.sdd_domain_invariant.proofs.Seats.{few_over, all_counted}
use Rattle.sdd_atomics.proofs.EndedPlaces.{home_at_end}
use Rattle.sdd_atomics.proofs.domain_table.DomainTable.close.Goals as goal

pub returns-clause-home : goal.returns-clause-home
returns-clause-home c = let v = c.close_with.ensures.values in
    home_at_end (gamma_of c.args.self) (sizes_of c.args.self) c.close_with.result c.args.seat.id c.args.seat.me.0 c.requires.ended v.2 v.1

pub returns-clause-places : goal.returns-clause-places
returns-clause-places c = let fin = c.close_with.ensures.values.2 in
    few_over (gamma_of c.args.self) (sizes_of c.args.self) fin.0 fin.1.0 c.args.seat.id c.args.seat.me.0 fin.1.1

pub returns-clause-counted : goal.returns-clause-counted
returns-clause-counted c all = let fin = c.close_with.ensures.values.2 in let v = c.args.seat.me.0 in let z = sizes_of c.args.self in
    all_counted (gamma_of c.args.self) z fin.0 fin.1.0 c.args.seat.id v fin.1.1 c.requires.ended all
    ∙ ap (λ (ws : List ℕ). gone_by v + full_slots z ws) fin.2

pub returns-clause-quiet : goal.returns-clause-quiet
returns-clause-quiet c i low = let fin = c.close_with.ensures.values.2 in let z = sizes_of c.args.self in
    ap (λ (ws : List ℕ). full (slot_at z ws i)) (sym fin.2) ∙ (fin.1.0.kept.places.quiet c.args.seat.id c.args.seat.me.0 fin.1.1 i low).0
