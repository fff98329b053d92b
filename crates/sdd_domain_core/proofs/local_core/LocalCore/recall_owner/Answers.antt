use Rattle.std.proofs.Common.{ℕ, refl, sym, ap, ◌∙◌, subst, ◌<◌}
use Rattle.std.specs.Prelude.{Bool}
use base.Stored.{Gv}
use Rattle.atomic_table.specs.declared.shared.Seat.{Seat}
use Rattle.sdd_atomics.specs.TableFacts.{facts_of}
use Rattle.sdd_rights.specs.declared.views.Sizes.{Sizes}
use Rattle.sdd_rights.specs.declared.views.View.{View}
use Rattle.sdd_shared_values.specs.declared.value_fraction.ValueFraction.{ValueFraction}
use Rattle.sdd_rights.specs.StandingKind.{is_shared}
use Rattle.sdd_rights.specs.Right.{AreSlotsOfTable, home_of, number_of, kind_of}
use Rattle.sdd_domain_steps.specs.Items.{HasValue, slots_home}
use Rattle.sdd_domain_steps.specs.LocalState.{LocalState, IsLone, KnowsOwner}
use Rattle.sdd_domain_steps.specs.BetweenCalls.{IsBetweenCalls, AreLentTo, IsSectionOf, AgreesWithView}
use Rattle.sdd_domain_steps.specs.InBags.{known_waiting}
use Rattle.sdd_domain_steps.specs.Receipt.{IsTallied}
use Rattle.sdd_domain_steps.proofs.SameHome.{on_table}
use Rattle.sdd_domain_steps.proofs.InPlace.{owner_inside, owner_table}
use Rattle.sdd_domain_steps.proofs.LocalLooks.{with_seat, recalls_to, has_tables}
use Rattle.sdd_domain_steps.proofs.BetweenCalls.{same_recalled}
use Rattle.sdd_domain_core.specs.Noted.{HasNoted}
use Rattle.sdd_domain_core.proofs.local_core.LocalCore.recall_owner.Goals as goal

pub recall-requires-clause-owner : goal.recall-requires-clause-owner
recall-requires-clause-owner g c =
    let l = c.self.inside in let b = (facts_of l.domain.now.table) in let m : LocalState _ = c.self.view_is 0 in let right = c.args.right.now in
    let on = on_table l.domain.now.limits b l.seat.table_id c.self.invariant.0.home l.domain.now.limited.1 m refl refl refl in
    let home = c.requires ∙ sym (ap slots_home c.self.view_is) in let found = c.witness.ensures.owner (has_tables m right home) in
    let by = λ (_ : AreSlotsOfTable (home_of right)). found.1 in (
      owner_table b m on right (kind_of right) home refl c.witness.result.now found.0 by (number_of right) refl
          ∙ sym c.self.invariant.0.home,
      (
        number_of right,
        is_shared (kind_of right),
        found.0.shown,
        subst (λ (j : ℕ). number_of right < j) (sym (ap (λ (z : Sizes). z.slots) c.self.invariant.0.knows.0))
            (owner_inside b m on right (kind_of right) home refl c.witness.result.now found.0 by (number_of right) refl c.witness.ensures.inside),
        found.1.owner,
      ),
    )

pub invariant_of-self : goal.invariant_of-self
invariant_of-self g c =
    let l = c.self.inside in let table = (facts_of l.domain.now.table) in let slot : ℕ = number_of c.args.right.now in
    let shared : Bool = is_shared (kind_of c.args.right.now) in
    let shown : Gv = (c.witness.ensures.owner (has_tables c.args.self.now c.args.right.now c.requires)).0.shown in
    let own = (c.witness.ensures.owner (has_tables c.args.self.now c.args.right.now c.requires)).1 in
    let same = same_recalled table l.place slot shared shown l.seat c.recall.new.seat (c.recall.ensures slot shared shown own.owner) in
    subst (λ (x : Seat ValueFraction View). IsBetweenCalls table l.place l.own x × HasNoted table l.domain.now.limits l.place l.nesting l.state
    × IsSectionOf l.own l.section
    × AreLentTo l.section.lifetime x.me.1 × AgreesWithView table l.own l.due l.known.slots l.jobs l.privates.entries (known_waiting x.me.0.slots) × IsTallied 0 l.tally
    x.me.0.fractions.counts)
    (sym same) c.self.invariant

pub returns-clause-same : goal.returns-clause-same
returns-clause-same g c =
    let l = c.self.inside in let slot : ℕ = number_of c.args.right.now in let shared : Bool = is_shared (kind_of c.args.right.now) in
    let shown : Gv = (c.witness.ensures.owner (has_tables c.args.self.now c.args.right.now c.requires)).0.shown in
    let own = (c.witness.ensures.owner (has_tables c.args.self.now c.args.right.now c.requires)).1 in
    let same = same_recalled (facts_of l.domain.now.table) l.place slot shared shown l.seat c.recall.new.seat (c.recall.ensures slot shared shown own.owner) in
    ap (λ (x : Seat ValueFraction View). with_seat (c.self.view_is 0) x) same ∙ c.self.view_is

pub returns-clause-recalled : goal.returns-clause-recalled
returns-clause-recalled g c =
    let l = c.self.inside in let slot : ℕ = number_of c.args.right.now in let shared : Bool = is_shared (kind_of c.args.right.now) in
    let shown : Gv = (c.witness.ensures.owner (has_tables c.args.self.now c.args.right.now c.requires)).0.shown in
    let own = (c.witness.ensures.owner (has_tables c.args.self.now c.args.right.now c.requires)).1 in
    let has : HasValue shown c.args.right.now = sym c.witness.ensures.views ∙ own.owner in
    subst (λ (m : LocalState _). IsLone m → (value : Gv) × HasValue value c.args.right.now × KnowsOwner m slot shared value) c.self.view_is (λ lone. (
      shown,
      has,
      recalls_to (c.self.view_is 0) slot shared shown l.seat c.recall.new.seat (c.recall.ensures slot shared shown own.owner)
          (c.self.invariant.0.all ∙ ap (λ (z : Sizes). z.participants) l.domain.now.limited.1) lone,
    ))
