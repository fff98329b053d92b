use Rattle.std.proofs.Common.{◌≡◌, ℕ, ◌+◌, ◌^◌, ◌∙◌, ap, sym, Some, None, Option, subst}
use Rattle.std.specs.Prelude.{IfSome}
use Rattle.sdd_world_model.specs.World.{standing_at}
use Rattle.sdd_space.specs.Shared.{slot_of}
use Rattle.sdd_world_model.specs.WorldChanges.{with_standing}
use Rattle.sdd_world_model.specs.Slots.{IsSharedBy, owners_of}
use Rattle.sdd_participants.specs.declared.standing.Standing.TheVariants.{Shared as shared_by}
use Rattle.sdd_lists.proofs.pops.keep_first.Goals as goal

pub returns-in-Ok-Some-clause-exact : goal.returns-in-Ok-Some-clause-exact
returns-in-Ok-Some-clause-exact g c = λ e x named shared.
    let w = g.S.Caller.world c.args.s.now in
    let got = rw c.in-Ok-Some.field-0-is at (c.in-Ok-Some.ensures.exact e) in
    let named_by = rw c.in-Ok-Some.field-0-is at c.in-Ok-Some.ensures.slot in
    let names : Some (slot_of c.in-Ok-Some.owner) ≡ Some x.slot = sym named_by ∙ named in
    let name : slot_of c.in-Ok-Some.owner ≡ x.slot = cc in
    record {
      slot = name;
      owners = got.0;
      shared = subst (λ (k : ℕ). IsSharedBy got.0 (standing_at w k)) name got.1;
      few = got.2;
      world = got.3 ∙ ap (λ (k : ℕ). with_standing w k (shared_by (got.0 + 1))) name;
    }

pub returns-in-Ok-None-clause-exact : goal.returns-in-Ok-None-clause-exact
returns-in-Ok-None-clause-exact g c = λ e x named shared.
    let w = g.S.Caller.world c.args.s.now in
    let got = rw c.in-Ok-None.field-0-is at (c.in-Ok-None.ensures.exact e) in
    let never = subst (λ (o : Option ℕ). IfSome o (λ k. owners_of (standing_at w k) ≡ None)) named got.1 in
    let none : Some shared.0 ≡ None = ap owners_of (sym shared.1.shared) ∙ never in
    absurd (cc)

pub returns-in-Err-clause-exact : goal.returns-in-Err-clause-exact
returns-in-Err-clause-exact g c = λ e x named shared.
    let w = g.S.Caller.world c.args.s.now in
    let got = c.in-Err.ensures.exact e in
    let names : Some got.2.0 ≡ Some x.slot = sym got.2.1 ∙ named in
    let name : got.2.0 ≡ x.slot = cc in
    record { why = got.0; full = subst (λ (k : ℕ). IsSharedBy (2 ^ 62) (standing_at w k)) name got.2.2; same = got.1 }
