use Rattle.std.proofs.Common.{inl, ℕ, Some, true, sym, ap, ◌∙◌, subst, arith}
use base.Stored.{Gv}
use Rattle.sdd_participants.specs.declared.standing.CellContents.{CellContents}
use Rattle.sdd_rights.specs.Right.{number_of}
use Rattle.sdd_shared_values.specs.SharedValues.{showing}
use Rattle.sdd_rights.specs.declared.right.StandingKind.{StandingKind}
use Rattle.sdd_rights.specs.StandingKind.{is_shared}
use Rattle.sdd_domain_steps.specs.Cells.{IsOwnedThere}
use Rattle.sdd_domain_steps.specs.LocalState.{AddsAt, IsLone, KnowsOwner, LocalState}
use Rattle.sdd_domain_core.proofs.SeesMore.{copies_none, finds_before, knows_more, looks_more, not_gone, same_sees, sees_then}
use Rattle.sdd_domain_core.proofs.local_core.LocalCore.copy_held.Goals as goal

pub own_seen-requires : goal.own_seen-requires
own_seen-requires g c =
    let b : LocalState g.row.J.Denot = c.loop-attempt.self in let m : LocalState g.row.J.Denot = c.load-tag.new.self in let slot : ℕ = c.in-Some.slot in
    let seen = rw c.in-Some.is at c.load-tag.ensures.seen in let value : Gv = showing g.row.T c.in-Some._value.now in
    let more = looks_more b m slot seen.0.0 value seen.0.1 seen.2 in record { still = inl (value, more.1) }

pub returns-in-Ok-Some-clause-copied : goal.returns-in-Ok-Some-clause-copied
returns-in-Ok-Some-clause-copied g c = let a : LocalState g.row.J.Denot = c.args.self.now in let b : LocalState g.row.J.Denot = c.loop-attempt.self in
    let m : LocalState g.row.J.Denot = c.load-tag.new.self in let slot : ℕ = c.in-Some.slot in let cell : ℕ = number_of c.args.cell.now in
    let seen = rw c.in-Some.is at c.load-tag.ensures.seen in let found = rw c.in-Some.is at c.load-tag.ensures.found in
    let owned = rw c.in-Some.is at c.load-tag.ensures.owned in let value : Gv = showing g.row.T c.in-Some._value.now in
    let more = looks_more b m slot seen.0.0 value seen.0.1 seen.2 in
    let came = rw c.in-Ok-Some.field-0-is at c.in-Ok-Some.ensures.came in (
      found.0,
      found.2 ∙ (λ d. record { held = Some (sym came.0 d); tag = c.load-tag.result.1 }),
      finds_before a b c.loop-attempt.invariant.sees cell found.0 found.1,
      (
        m,
        came.1.0,
        sees_then a b m c.loop-attempt.invariant.sees more.0,
        subst (λ (k : ℕ). AddsAt k came.1.0 m c.own_seen.new.self) (sym came.0) came.1.1,
        λ lone. let before : IsLone b = sym (ap (λ (x : LocalState g.row.J.Denot). x.limits.participants) more.0.member) ∙ lone in (
          value,
          subst (λ (k : ℕ). KnowsOwner m k true value) (sym came.0) (knows_more b m more.0 slot seen.0.0 value (seen.0.2 before)
              (subst (λ (k : StandingKind). IsOwnedThere slot (is_shared k) b) c.requires.kind (owned before))),
        ),
      ),
    )

pub returns-in-Err-clause-copied : goal.returns-in-Err-clause-copied
returns-in-Err-clause-copied g c = let a : LocalState g.row.J.Denot = c.args.self.now in let b : LocalState g.row.J.Denot = c.loop-attempt.self in
    let m : LocalState g.row.J.Denot = c.load-tag.new.self in let slot : ℕ = c.in-Some.slot in let cell : ℕ = number_of c.args.cell.now in
    let seen = rw c.in-Some.is at c.load-tag.ensures.seen in let found = rw c.in-Some.is at c.load-tag.ensures.found in
    let owned = rw c.in-Some.is at c.load-tag.ensures.owned in let value : Gv = showing g.row.T c.in-Some._value.now in
    let more = looks_more b m slot seen.0.0 value seen.0.1 seen.2 in
    let came = c.in-Err.ensures.came in
    copies_none a b m c.own_seen.new.self cell found.0 slot c.loop-attempt.invariant.sees more.0 came.0 found.1 (ap (λ (k : CellContents). k.held) found.2)
    (λ lone. subst (λ (k : StandingKind). IsOwnedThere slot (is_shared k) b) c.requires.kind (owned lone)) c.in-Err.refused came.1.1

pub loop-attempt-preserved : goal.loop-attempt-preserved
loop-attempt-preserved g c = let a : LocalState g.row.J.Denot = c.args.self.now in let b : LocalState g.row.J.Denot = c.loop-attempt.self in
    let m : LocalState g.row.J.Denot = c.load-tag.new.self in let slot : ℕ = c.in-Some.slot in let cell : ℕ = number_of c.args.cell.now in
    let seen = rw c.in-Some.is at c.load-tag.ensures.seen in let found = rw c.in-Some.is at c.load-tag.ensures.found in
    let owned = rw c.in-Some.is at c.load-tag.ensures.owned in let value : Gv = showing g.row.T c.in-Some._value.now in
    let more = looks_more b m slot seen.0.0 value seen.0.1 seen.2 in
    let came = rw c.in-Ok-None.field-0-is at c.in-Ok-None.ensures.came in record {
      sees = sees_then a m c.own_seen.new.self (sees_then a b m c.loop-attempt.invariant.sees more.0) (same_sees m c.own_seen.new.self came.0);
      others = λ _. not_gone a b m c.own_seen.new.self cell found.0 slot c.loop-attempt.invariant.sees more.0 came.0 found.1
          (ap (λ (k : CellContents). k.held) found.2)
          (λ lone. subst (λ (k : StandingKind). IsOwnedThere slot (is_shared k) b) c.requires.kind (owned lone))
          (λ lone. came.1 lone (let l = seen.1 in let e = ap (λ (x : LocalState g.row.J.Denot). x.limits.slots) more.0.member in omega arith));
    }
