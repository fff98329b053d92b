use Rattle.std.proofs.Common.{ℕ, sym, ap, ◌∙◌, subst, rules}
use Rattle.std.specs.Prelude.{MatchOption, Option}
use base.Stored.{Gv}
use Rattle.sdd_rights.specs.Owner.{one-shown}
use Rattle.sdd_rights.specs.StandingKind.{is_shared}
use Rattle.sdd_rights.specs.Right.{number_of, kind_of}
use Rattle.sdd_rights.specs.declared.right.StandingKind.{StandingKind}
use Rattle.sdd_shared_values.specs.SharedValues.{showing}
use Rattle.sdd_world_model.specs.Slots.{IsOwnedBy}
use Rattle.sdd_world_model.specs.OwnerOrCell.{AreOf}
use Rattle.sdd_world_model.specs.World.{standing_at}
use Rattle.sdd_world_model.specs.WorldChanges.{dropped}
use Rattle.sdd_domain_steps.specs.Items.{HasValue}
use Rattle.sdd_domain_steps.specs.Local.{LocalModel, world_of}
use Rattle.sdd_domain_steps.specs.LocalState.{DropsAt, GoesBeside, HasOpenGuard, IsLone, KnowsOwner, LocalState}
use Rattle.sdd_domain_steps.specs.SpaceIds.{home_in}
use Rattle.sdd_domain_core.proofs.InPlaceCalls.{alone_there, beside_others, beside_tied, beside_world, handed_on, owned_there, stays_there, stays_tied}
use Rattle.sdd_domain_core.proofs.DroppedInPlace.{drops_now, tied_dropped}
use Rattle.sdd_domain_core.proofs.Sound.{lone_true}
use Rattle.sdd_domain_core.proofs.reclaiming.LocalGiver.drop_in_place.Given.{Over}
use Rattle.sdd_domain_core.proofs.reclaiming.LocalGiver.drop_in_place.Goals.{After-drop_in_place}
use Rattle.sdd_domain_core.proofs.reclaiming.LocalGiver.drop_in_place.Goals as goal

-- a lone participant knows the owner
recalled : (g : Over) (c : After-drop_in_place g) → IsLone (c.self.view_is 0).member
    → (x : Gv) × KnowsOwner (c.self.view_is 0).member (number_of c.args.right) (is_shared c.args.kind) x
recalled g c lone = let told = c.drop_in_place.ensures.recalled lone in (told.0, told.2)

owned : (g : Over) (c : After-drop_in_place g) → IsLone c.args.self.now.member
    → IsOwnedBy (kind_of c.args.right) (standing_at (world_of c.args.self.now) (number_of c.args.right))
owned g c lone = let p : LocalModel g.row.T.Denot g.row.J.Denot = c.args.self.now in let k : ℕ = number_of c.args.right in
    subst (λ (x : StandingKind). IsOwnedBy x (standing_at (world_of p) k)) (sym c.requires.kind)
    (owned_there (c.self.view_is 0) p c.self.view_is c.self.invariant k c.args.kind (recalled g c) (lone_true p.member lone))

-- the owner stays
pub invariant_of-self : goal.invariant_of-self
invariant_of-self g c = let v : LocalModel g.row.T.Denot g.row.J.Denot = c.self.view_is 0 in
    let m : LocalState _ = c.drop_in_place.new.self in
    let right = c.args.right in let kind = c.args.kind in let k : ℕ = number_of right in let p : LocalModel g.row.T.Denot g.row.J.Denot = c.args.self.now in
    let recalled = recalled g (goal.at.invariant_of-self g c).After-drop_in_place in
    stays_tied v p c.self.view_is c.self.invariant k kind recalled m c.in_err-value.field-0.0.1 c.in_err-value.ensures.gone.1

pub returns-in_err-value : goal.returns-in_err-value
returns-in_err-value g c =
    let v : LocalModel g.row.T.Denot g.row.J.Denot = c.self.view_is 0 in let m : LocalState _ = c.drop_in_place.new.self in let right = c.args.right in
    let kind = c.args.kind in let k : ℕ = number_of right in let p : LocalModel g.row.T.Denot g.row.J.Denot = c.args.self.now in
    let recalled = recalled g (goal.at.returns-in_err-value g c).After-drop_in_place in record {
      own = search rules;
      known = search rules;
      kept = search rules;
      back = search rules;
      owned = owned g (goal.at.returns-in_err-value g c).After-drop_in_place;
      exact = λ lone. handed_on _ _ c.from_residual.result c.in_err-value.field-0.0 c.from_residual.ensures.1
          (stays_there v p c.self.view_is c.self.invariant k kind recalled m c.in_err-value.field-0.0.1 c.in_err-value.ensures.gone.1
          (lone_true p.member lone));
    }

-- it was the last
pub invariant_of-self-in-Some : goal.invariant_of-self-in-Some
invariant_of-self-in-Some g c one =
    let v : LocalModel g.row.T.Denot g.row.J.Denot = c.self.view_is 0 in let m : LocalState _ = c.drop_in_place.new.self in let right = c.args.right in
    let kind = c.args.kind in let k : ℕ = number_of right in let recalled = recalled g (goal.at.invariant_of-self-in-Some g c).After-drop_in_place in
    let did = subst (λ (o : Option g.row.T.Denot). MatchOption o (GoesBeside k (is_shared kind) v.member m)
    (λ value. HasValue (showing g.row.T value) right × DropsAt k (is_shared kind) v.member m × AreOf (home_in v.member) (g.T.Item.holds value)))
    c.in-Some.is c.in_ok-value.ensures.gone in
    let knows : IsLone v.member → KnowsOwner v.member k (is_shared kind) (showing g.row.T c.in-Some.value)
    = λ lone. (let told = c.drop_in_place.ensures.recalled lone in subst (λ (x : Gv). KnowsOwner v.member k (is_shared kind) x)
    (one-shown k (is_shared (kind_of right)) told.0 (showing g.row.T c.in-Some.value) (sym told.1 ∙ did.0)) told.2) in
    let lone : IsLone v.member = sym (ap (λ (y : LocalState _). y.limits.participants) did.1.member) ∙ one in
    tied_dropped g.row.T v (c.self.invariant lone) c.codes.ensures k (is_shared kind) c.in-Some.value (knows lone) m did.1

pub returns-in-Some-clause-owned : goal.returns-in-Some-clause-owned
returns-in-Some-clause-owned g c = owned g (goal.at.returns-in-Some-clause-owned g c).After-drop_in_place

pub returns-in-Some-clause-exact : goal.returns-in-Some-clause-exact
returns-in-Some-clause-exact g c exact = let v : LocalModel g.row.T.Denot g.row.J.Denot = c.self.view_is 0 in
    let m : LocalState _ = c.drop_in_place.new.self in
    let right = c.args.right in let kind = c.args.kind in let k : ℕ = number_of right in let p : LocalModel g.row.T.Denot g.row.J.Denot = c.args.self.now in
    let recalled = recalled g (goal.at.returns-in-Some-clause-exact g c).After-drop_in_place in
    let did = subst (λ (o : Option g.row.T.Denot). MatchOption o (GoesBeside k (is_shared kind) v.member m)
    (λ value. HasValue (showing g.row.T value) right × DropsAt k (is_shared kind) v.member m × AreOf (home_in v.member) (g.T.Item.holds value)))
    c.in-Some.is c.in_ok-value.ensures.gone in
    let knows : IsLone v.member → KnowsOwner v.member k (is_shared kind) (showing g.row.T c.in-Some.value)
    = λ lone. (let told = c.drop_in_place.ensures.recalled lone in subst (λ (x : Gv). KnowsOwner v.member k (is_shared kind) x)
    (one-shown k (is_shared (kind_of right)) told.0 (showing g.row.T c.in-Some.value) (sym told.1 ∙ did.0)) told.2) in
    let lone : IsLone v.member = subst (λ (q : LocalModel g.row.T.Denot g.row.J.Denot). IsLone q.member) (sym c.self.view_is) exact in
    let there : IsLone m = ap (λ (y : LocalState _). y.limits.participants) did.1.member ∙ lone in (
      alone_there v p c.self.view_is c.self.invariant k kind recalled did.1.unique (lone_true p.member exact),
      subst (λ (q : LocalModel g.row.T.Denot g.row.J.Denot). ¬ (HasOpenGuard q.member)) c.self.view_is did.1.quiet,
      c.give_up.ensures.exact (lone_true m there)
          ∙ (sym (drops_now g.row.T v (c.self.invariant lone) c.codes.ensures k (is_shared kind) c.in-Some.value (knows lone) m did.1 g.T.Item.holds)
          ∙ ap (λ (q : LocalModel g.row.T.Denot g.row.J.Denot). dropped g.T.Item.holds (world_of q) q.member.place k) c.self.view_is),
    )

-- it went beside others
pub invariant_of-self-in-None : goal.invariant_of-self-in-None
invariant_of-self-in-None g c =
    let v : LocalModel g.row.T.Denot g.row.J.Denot = c.self.view_is 0 in let m : LocalState _ = c.drop_in_place.new.self in let right = c.args.right in
    let kind = c.args.kind in let k : ℕ = number_of right in let p : LocalModel g.row.T.Denot g.row.J.Denot = c.args.self.now in
    let recalled = recalled g (goal.at.invariant_of-self-in-None g c).After-drop_in_place in
    let beside = subst (λ (o : Option g.row.T.Denot). MatchOption o (GoesBeside k (is_shared kind) v.member m)
    (λ value. HasValue (showing g.row.T value) right × DropsAt k (is_shared kind) v.member m × AreOf (home_in v.member) (g.T.Item.holds value)))
    c.in-None.is c.in_ok-value.ensures.gone in beside_tied v p c.self.view_is c.self.invariant k kind recalled m beside

pub returns-in-None-clause-owned : goal.returns-in-None-clause-owned
returns-in-None-clause-owned g c = owned g (goal.at.returns-in-None-clause-owned g c).After-drop_in_place

pub returns-in-None-clause-exact : goal.returns-in-None-clause-exact
returns-in-None-clause-exact g c lone = let v : LocalModel g.row.T.Denot g.row.J.Denot = c.self.view_is 0 in
    let m : LocalState _ = c.drop_in_place.new.self in
    let right = c.args.right in let kind = c.args.kind in let k : ℕ = number_of right in let p : LocalModel g.row.T.Denot g.row.J.Denot = c.args.self.now in
    let recalled = recalled g (goal.at.returns-in-None-clause-exact g c).After-drop_in_place in
    let beside = subst (λ (o : Option g.row.T.Denot). MatchOption o (GoesBeside k (is_shared kind) v.member m)
    (λ value. HasValue (showing g.row.T value) right × DropsAt k (is_shared kind) v.member m × AreOf (home_in v.member) (g.T.Item.holds value)))
    c.in-None.is c.in_ok-value.ensures.gone in (
      beside_others v p c.self.view_is c.self.invariant k kind recalled m beside (lone_true p.member lone),
      beside_world v p c.self.view_is c.self.invariant k kind recalled m beside (lone_true p.member lone),
    )
