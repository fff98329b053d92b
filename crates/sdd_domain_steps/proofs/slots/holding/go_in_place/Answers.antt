use Rattle.sdd_atomics.specs.SeatAtTable.{facts_at}
use Rattle.std.proofs.Common.{◌≡◌, inl, inr, refl, sym, ◌∙◌, subst, arith, ap}
use Rattle.std.specs.Prelude.{MatchOption, true}
use Rattle.atomic_table.specs.declared.shared.Seat.{Seat}
use Rattle.sdd_core.specs.declared.refused.Refused.TheVariants.{GuardOpen}
use Rattle.sdd_shared_values.specs.declared.value_fraction.ValueFraction.{ValueFraction}
use Rattle.sdd_rights.specs.declared.views.View.{View}
use Rattle.sdd_domain_invariant.specs.Epoch.{IsLone}
use Rattle.sdd_atomics.specs.DomainSeat.{epoch}
use Rattle.sdd_domain_steps.specs.Claims.{IsUnmoved}
use Rattle.sdd_domain_steps.specs.InPlace.{IsLetGoOf}
use Rattle.sdd_domain_steps.proofs.HeldSlots.{one_read_fraction, read_at}
use Rattle.sdd_domain_steps.proofs.InPlace.{unmoved_same}
use Rattle.sdd_domain_steps.proofs.slots.holding.go_in_place.Goals as goal

pub loop-gone-init : goal.loop-gone-init
loop-gone-init g c = let o = c.requires.owner in record {
  same = refl;
  table = o.0;
  views = refl;
  read_fraction = λ value is. one_read_fraction (facts_at c.args.seat.now) c.args.slot c.args.shared o.1.0 value c.args.owner.views c.args.read_fraction
      o.1.1 o.1.2 is;
  left = c.requires.tries;
}

pub try_to_go-requires-clause-owner : goal.try_to_go-requires-clause-owner
try_to_go-requires-clause-owner g c = let inv = c.loop-gone.invariant in let o = c.requires.owner.1 in (
  inv.table ∙ sym (ap (λ (x : Seat ValueFraction View). x.table_id) inv.same),
  (
    o.0,
    inv.views ∙ o.1,
    read_at c.loop-gone.seat c.args.seat.now (sym inv.same) _ _ _ (inv.read_fraction o.0 o.1),
  ),
)

pub returns-in-Some : goal.returns-in-Some
returns-in-Some g c = let inv = c.loop-gone.invariant in let s = c.args.seat.now in let back = c.in-Err.ensures in
    let why = subst (λ (o : _). MatchOption o
    (IsUnmoved c.loop-gone.seat c.try_to_go.new.seat × (c.args.shared ≡ true) × ¬ (IsLone (epoch c.loop-gone.seat)))
    (λ w. (w ≡ GuardOpen) × IsLetGoOf c.args.slot c.args.shared c.loop-gone.seat c.try_to_go.new.seat)) c.in-Some.is back.3 in (
      back.0 ∙ ap (λ (x : Seat ValueFraction View). x.table_id) inv.same,
      back.1 ∙ inv.views,
      (λ value is. read_at c.args.seat.now c.loop-gone.seat inv.same _ _ _ (back.2 value (inv.views ∙ is))),
      inl (why.0, subst (λ (x : Seat ValueFraction View). IsLetGoOf c.args.slot c.args.shared x c.try_to_go.new.seat) inv.same why.1),
    )

pub returns-then-left-eq0 : goal.returns-then-left-eq0
returns-then-left-eq0 g c = let inv = c.loop-gone.invariant in let back = c.in-Err.ensures in
    let why = subst (λ (o : _). MatchOption o
    (IsUnmoved c.loop-gone.seat c.try_to_go.new.seat × (c.args.shared ≡ true) × ¬ (IsLone (epoch c.loop-gone.seat)))
    (λ w. (w ≡ GuardOpen) × IsLetGoOf c.args.slot c.args.shared c.loop-gone.seat c.try_to_go.new.seat)) c.in-None.is c.in-Err.ensures.3 in (
      back.0 ∙ ap (λ (x : Seat ValueFraction View). x.table_id) inv.same,
      back.1 ∙ inv.views,
      (λ value is. read_at c.args.seat.now c.loop-gone.seat inv.same _ _ _ (back.2 value (inv.views ∙ is))),
      inr (
        refl,
        subst (λ (x : Seat ValueFraction View). IsUnmoved x c.try_to_go.new.seat) inv.same why.0,
        why.1,
        (λ lone. why.2 (subst (λ (x : Seat ValueFraction View). IsLone (epoch x)) (sym inv.same) lone)),
      ),
    )

pub loop-gone-preserved : goal.loop-gone-preserved
loop-gone-preserved g c = let inv = c.loop-gone.invariant in let back = c.in-Err.ensures in
    let why = subst (λ (o : _). MatchOption o
    (IsUnmoved c.loop-gone.seat c.try_to_go.new.seat × (c.args.shared ≡ true) × ¬ (IsLone (epoch c.loop-gone.seat)))
    (λ w. (w ≡ GuardOpen) × IsLetGoOf c.args.slot c.args.shared c.loop-gone.seat c.try_to_go.new.seat)) c.in-None.is c.in-Err.ensures.3 in record {
      same = unmoved_same c.loop-gone.seat c.try_to_go.new.seat why.0 ∙ inv.same;
      table = back.0 ∙ ap (λ (x : Seat ValueFraction View). x.table_id) inv.same;
      views = back.1 ∙ inv.views;
      read_fraction = λ value is. read_at c.args.seat.now c.loop-gone.seat inv.same _ _ _ (back.2 value (inv.views ∙ is));
      left = let more = inv.left in let some = c.if-left-eq0.false in omega arith;
    }
