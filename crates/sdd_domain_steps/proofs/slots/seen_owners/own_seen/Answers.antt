use Rattle.sdd_atomics.specs.SeatAtTable.{facts_at}
use Rattle.std.proofs.Common.{◌≡◌, inl, refl, sym, subst}
use Rattle.atomic_table.specs.declared.shared.Seat.{Seat}
use Rattle.sdd_shared_values.specs.declared.value_fraction.ValueFraction.{ValueFraction}
use Rattle.sdd_rights.specs.declared.views.View.{View}
use Rattle.sdd_domain_invariant.specs.Fractions.FractionSteps.{IsStill}
use Rattle.sdd_domain_steps.specs.Cells.{IsWith}
use Rattle.sdd_domain_steps.specs.declared.slots.seen_owners.Tried.TheVariants.{Came, Gone, Most, Lost}
use Rattle.sdd_domain_steps.specs.SeenOwners.{Tries}
use Rattle.sdd_domain_steps.proofs.slots.seen_owners.own_seen.Goals as goal

-- a seat that is with what it was is the same
same_seat : (s t : Seat ValueFraction View) → IsWith s.me.0 s t → t ≡ s
same_seat s t e = λ d. record t { table_id = e.table d; id = e.number d; me = (e.view d, e.others d) }

pub try_seen-requires-clause-still : goal.try_seen-requires-clause-still
try_seen-requires-clause-still c = subst (IsStill c.args.slot) (sym c.loop-attempt.invariant.same.view) c.requires.still

pub returns-in-Came : goal.returns-in-Came
returns-in-Came c = let same = same_seat c.args.seat.now c.loop-attempt.seat c.loop-attempt.invariant.same in
    subst (λ (x : Seat ValueFraction View). Tries (facts_at x) c.args.slot (Came c.in-Came.owner) x c.try_seen.new.seat) same c.in-Came.ensures

pub returns-in-Gone : goal.returns-in-Gone
returns-in-Gone c = let same = same_seat c.args.seat.now c.loop-attempt.seat c.loop-attempt.invariant.same in
    subst (λ (x : Seat ValueFraction View). Tries (facts_at x) c.args.slot Gone x c.try_seen.new.seat) same c.in-Gone.ensures

pub returns-in-Most : goal.returns-in-Most
returns-in-Most c = let same = same_seat c.args.seat.now c.loop-attempt.seat c.loop-attempt.invariant.same in
    inl (refl, subst (λ (x : Seat ValueFraction View). Tries (facts_at x) c.args.slot Most x c.try_seen.new.seat) same c.in-Most.ensures)

pub loop-attempt-preserved : goal.loop-attempt-preserved
loop-attempt-preserved c = let same = same_seat c.args.seat.now c.loop-attempt.seat c.loop-attempt.invariant.same in
    let lost = subst (λ (x : Seat ValueFraction View). Tries (facts_at x) c.args.slot Lost x c.try_seen.new.seat) same c.in-Lost.ensures in
    record { same = lost.0; held = λ _ lone. lost.1 lone }
