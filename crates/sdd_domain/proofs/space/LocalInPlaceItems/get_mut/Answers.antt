use Rattle.std.proofs.Common.{sym, ap, ◌∙◌, subst}
use base.Stored.{Gv}
use Rattle.sdd_rights.specs.Right.{number_of}
use Rattle.sdd_rights.specs.StandingKind.{is_shared}
use Rattle.sdd_rights.specs.declared.right.StandingKind.{StandingKind}
use Rattle.sdd_shared_values.specs.SharedValues.{showing}
use Rattle.sdd_world_model.specs.Slots.{IsOwnedBy}
use Rattle.sdd_world_model.specs.OwnerOrCell.{AreOf}
use Rattle.sdd_world_model.specs.World.{standing_at}
use Rattle.sdd_domain_steps.specs.Local.{LocalModel, world_of}
use Rattle.sdd_domain_steps.specs.LocalState.{HasOpenGuard, IsLone, KnowsOwner, LocalState}
use Rattle.sdd_domain_core.specs.Sound.{IsSound}
use Rattle.sdd_domain_core.specs.Space.{Shows}
use Rattle.sdd_domain_steps.specs.SpaceIds.{home_in}
use Rattle.sdd_domain_core.proofs.InPlaceCalls.{alone_there, by_either, by_result, change_keeps, change_sound, change_tied, changed_there, hindered_back, hindered_there, lone_before, owned_there, quiet_there, was_there}
use Rattle.sdd_domain_core.proofs.Refusals.{back_keeps, back_sound, back_tied, back_world}
use Rattle.sdd_domain.proofs.space.LocalInPlaceItems.get_mut.Goals as goal

pub get_mut-requires-clause-held : goal.get_mut-requires-clause-held
get_mut-requires-clause-held g c =
    let same = c.self-2.view_is ∙ c.self.view_is in let holds = g.T.Item.holds in λ was now r then of_was.
    subst (λ (q : LocalModel g.row.T.Denot g.row.J.Denot). AreOf (home_in q.member) (holds now)) (sym same) (c.requires.held was now r then
    (subst (λ (q : LocalModel g.row.T.Denot g.row.J.Denot). AreOf (home_in q.member) (holds was)) same of_was))

pub invariant_of-self : goal.invariant_of-self
invariant_of-self g c =
    let v : LocalModel g.row.T.Denot g.row.J.Denot = c.self-2.view_is 0 in let same = c.self-2.view_is ∙ c.self.view_is in let right = c.args.right.now in
    let kind = c.args.kind in let holds = g.T.Item.holds in let m : LocalState _ = c.get_mut.new.self in let es = c.get_mut.new.ghost_values.entries in
    let recalled : IsLone v.member → (x : Gv) × KnowsOwner v.member (number_of right) (is_shared kind) x =
    λ lone. (let told = c.get_mut.ensures.recalled lone in (told.0, told.2)) in by_result _ _ c.get_mut.result c.get_mut.ensures.changed
    (λ _ did. change_tied g.row.T holds v c.args.self.now same c.self-2.invariant c.codes.ensures right kind c.get_mut.ensures.recalled did.0 did.1 did.2
    m es did.4 did.7)
    (λ e back. back_tied v m es (hindered_back v c.args.self.now same c.self-2.invariant (number_of right) kind recalled m es back.2 e.1 back.3)
    c.self-2.invariant)

pub invariant_of-self-2 : goal.invariant_of-self-2
invariant_of-self-2 g c =
    let v : LocalModel g.row.T.Denot g.row.J.Denot = c.self-2.view_is 0 in let same = c.self-2.view_is ∙ c.self.view_is in let right = c.args.right.now in
    let kind = c.args.kind in let holds = g.T.Item.holds in let m : LocalState _ = c.get_mut.new.self in let es = c.get_mut.new.ghost_values.entries in
    let recalled : IsLone v.member → (x : Gv) × KnowsOwner v.member (number_of right) (is_shared kind) x =
    λ lone. (let told = c.get_mut.ensures.recalled lone in (told.0, told.2)) in
    let sound = subst (IsSound holds) (sym c.self-2.view_is) c.self.invariant in by_result _ _ c.get_mut.result c.get_mut.ensures.changed
    (λ _ did. change_sound g.row.T holds v c.args.self.now same c.self-2.invariant c.codes.ensures right kind
    c.get_mut.ensures.recalled did.0 did.1 did.2 m es did.4 did.7 did.6 sound)
    (λ e back. back_sound v m es (hindered_back v c.args.self.now same c.self-2.invariant (number_of right) kind recalled m es back.2 e.1 back.3)
    holds sound)

pub returns-clause-owned : goal.returns-clause-owned
returns-clause-owned g c exact = let v : LocalModel g.row.T.Denot g.row.J.Denot = c.self-2.view_is 0 in let same = c.self-2.view_is ∙ c.self.view_is in
    let right = c.args.right.now in let kind = c.args.kind in let p : LocalModel g.row.T.Denot g.row.J.Denot = c.args.self.now in
    let recalled : IsLone v.member → (x : Gv) × KnowsOwner v.member (number_of right) (is_shared kind) x =
    λ lone. (let told = c.get_mut.ensures.recalled lone in (told.0, told.2)) in
    subst (λ (x : StandingKind). IsOwnedBy x (standing_at (world_of p) (number_of right))) (sym c.requires.kind)
    (owned_there v p same c.self-2.invariant (number_of right) kind recalled exact)

pub returns-clause-exact : goal.returns-clause-exact
returns-clause-exact g c exact =
    let v : LocalModel g.row.T.Denot g.row.J.Denot = c.self-2.view_is 0 in let same = c.self-2.view_is ∙ c.self.view_is in let right = c.args.right.now in
    let kind = c.args.kind in let holds = g.T.Item.holds in let m : LocalState _ = c.get_mut.new.self in let es = c.get_mut.new.ghost_values.entries in
    let p : LocalModel g.row.T.Denot g.row.J.Denot = c.args.self.now in
    let recalled : IsLone v.member → (x : Gv) × KnowsOwner v.member (number_of right) (is_shared kind) x =
    λ lone. (let told = c.get_mut.ensures.recalled lone in (told.0, told.2)) in by_either _ _ _ _ c.get_mut.result c.get_mut.ensures.changed
    (λ _ did. (
      record {
        alone = alone_there v p same c.self-2.invariant (number_of right) kind recalled did.4.unique exact;
        quiet = quiet_there p (subst (λ (q : LocalModel g.row.T.Denot g.row.J.Denot). ¬ (HasOpenGuard q.member)) same did.4.quiet);
      },
      (
        did.0,
        did.1,
        was_there g.row.T holds v p same c.self-2.invariant
            c.codes.ensures right kind c.get_mut.ensures.recalled did.0 did.1 did.2 m es did.4 did.7 exact,
        did.3,
        changed_there g.row.T holds v p same c.self-2.invariant c.codes.ensures right kind c.get_mut.ensures.recalled did.0
            did.1 did.2 m es did.4 did.7 exact,
      ),
    ))
    (λ e back. (
      hindered_there v p same c.self-2.invariant (number_of right) kind recalled m es back.2 e.1 back.3 exact,
      back_world v m es (hindered_back v p same c.self-2.invariant (number_of right) kind recalled m es back.2 e.1 back.3)
          (lone_before v p same c.self-2.invariant (number_of right) kind recalled exact)
          ∙ ap (λ (q : LocalModel g.row.T.Denot g.row.J.Denot). world_of q) same,
    ))

pub returns-clause-keeps : goal.returns-clause-keeps
returns-clause-keeps g c =
    let v : LocalModel g.row.T.Denot g.row.J.Denot = c.self-2.view_is 0 in let same = c.self-2.view_is ∙ c.self.view_is in let right = c.args.right.now in
    let kind = c.args.kind in let holds = g.T.Item.holds in let m : LocalState _ = c.get_mut.new.self in let es = c.get_mut.new.ghost_values.entries in
    let recalled : IsLone v.member → (x : Gv) × KnowsOwner v.member (number_of right) (is_shared kind) x =
    λ lone. (let told = c.get_mut.ensures.recalled lone in (told.0, told.2)) in by_either _ _ _ _ c.get_mut.result c.get_mut.ensures.changed
    (λ _ did. change_keeps g.row.T holds v c.args.self.now same c.self-2.invariant c.codes.ensures
    right kind c.get_mut.ensures.recalled did.0 did.1 did.2 m es did.4 did.7)
    (λ e back i u h. back_keeps v m es
    (hindered_back v c.args.self.now same c.self-2.invariant (number_of right) kind recalled m es back.2 e.1 back.3) (showing g.row.T) holds i u
    (subst (λ (q : LocalModel g.row.T.Denot g.row.J.Denot). Shows (showing g.row.T) holds q i u) (sym same) h))
