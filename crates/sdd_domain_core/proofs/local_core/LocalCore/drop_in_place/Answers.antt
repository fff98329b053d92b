use Rattle.sdd_domain_core.proofs.AtTable.{placed_at, fits_from}
use Rattle.std.proofs.Common.{◌≡◌, inl, inr, ℕ, ◌-◌, ◌<◌, List, refl, sym, ap, ◌∙◌, subst, ⊎_elim, rules}
use Rattle.std.specs.Prelude.{Bool, true, Option, IfSome}
use base.Stored.{Gv}
use Rattle.atomic_table.specs.declared.shared.Seat.{Seat}
use Rattle.sdd_core.specs.declared.refused.Refused.TheVariants as Refused
use Rattle.sdd_participants.specs.declared.tally.Tally.{Tally}
use Rattle.sdd_participants.specs.Tally.{one_in_place}
use Rattle.sdd_rights.specs.Owner.{witness_of_owner}
use Rattle.sdd_rights.specs.StandingKind.{is_shared}
use Rattle.sdd_rights.specs.Right.{number_of}
use Rattle.sdd_shared_values.specs.SharedValues.{showing}
use Rattle.sdd_shared_values.specs.declared.value_fraction.ValueFraction.{ValueFraction}
use Rattle.sdd_world_model.specs.OwnerOrCell.{AreOf}
use Rattle.sdd_rights.specs.declared.views.View.{View}
use Rattle.sdd_domain_invariant.specs.Epoch.{IsLone as IsLoneAt}
use Rattle.sdd_domain_invariant.specs.Slots.SlotSteps.{noted}
use Rattle.sdd_atomics.specs.TableFacts.{facts_of, slots_of}
use Rattle.sdd_atomics.specs.DomainSeat.{epoch}
use Rattle.sdd_domain_steps.specs.BetweenCalls.{AreLentTo, AgreesWithView}
use Rattle.sdd_domain_steps.specs.InBags.{KnownWaiting, known_waiting}
use Rattle.sdd_domain_steps.specs.Claims.{IsUnmoved}
use Rattle.sdd_domain_steps.specs.InPlace.{IsLetGoOf, with_dropped}
use Rattle.sdd_domain_steps.specs.GoesInPlace.{Goes}
use Rattle.sdd_domain_steps.specs.Items.{HasValue, slots_home}
use Rattle.sdd_domain_steps.specs.LocalState.{DropsAt, GoesBeside, IsLone, KnowsOwner, LocalState, SeesGuard}
use Rattle.sdd_domain_steps.specs.Receipt.{IsTallied}
use Rattle.sdd_domain_steps.specs.SpaceIds.{home_in, home_of_slots}
use Rattle.sdd_domain_steps.proofs.SameHome.{from_table}
use Rattle.sdd_domain_steps.proofs.InPlace.{back_view, bare, gone_beside, guard_of, guarded_at, knew_unique, owner_inside, right_back, unmoved_at}
use Rattle.sdd_domain_steps.proofs.LocalLooks.{with_seat, with_view}
use Rattle.sdd_domain_steps.proofs.BetweenCalls.{between_calls_with}
use Rattle.sdd_domain_core.proofs.Tallies.{tallied_in_place}
use Rattle.sdd_domain_core.proofs.Recalled.{IsRecalled, is_recalled}
use Rattle.sdd_domain_core.proofs.KeptBetweenCalls.{noted_on}
use Rattle.sdd_domain_core.proofs.local_core.LocalCore.drop_in_place.Given.{Over}
use Rattle.sdd_domain_core.proofs.local_core.LocalCore.drop_in_place.Goals.{After-recall}
use Rattle.sdd_domain_core.proofs.local_core.LocalCore.drop_in_place.Goals as goal

-- the owner was recalled
recalled : (g : Over) (c : After-recall g) → IsRecalled (facts_of c.self.inside.domain.now.table) c.self.inside.place c.self.inside.own (c.self.view_is 0)
    c.args.right c.args.kind c.into_owner-owner.result.0 c.into_owner-owner.result.1 c.number-slot.result c.self.inside.seat c.recall.new.seat
recalled g c = let l = c.self.inside in
    is_recalled l.domain.now.limits (facts_of l.domain.now.table) l.place l.own (c.self.view_is 0) c.args.right c.args.kind c.into_owner-owner.result.0
    c.into_owner-owner.result.1 c.number-slot.result l.seat c.recall.new.seat l.domain.now.limited.1 refl refl refl
    (c.requires.home ∙ sym (ap slots_home c.self.view_is)) c.requires.kind c.into_owner-owner.ensures.owner c.number-slot.ensures c.recall.ensures
    c.self.invariant.0

pub go_in_place-requires : goal.go_in_place-requires
go_in_place-requires g c =
    let l = c.self.inside in let b = (facts_of l.domain.now.table) in let m : LocalState _ = c.self.view_is 0 in
    let known = recalled g (goal.at.go_in_place-requires g c).After-recall in let same = known.same in let q = known.between in let t = c.recall.new.seat in
    record {
      values = search rules;
      inside = search rules;
      place = placed_at q;
      bare = bare b l.place l.own t q;
      closes = ap (λ (x : Seat ValueFraction View). x.me.0.slots.closes) same ∙ (ap (λ (m : LocalState _). m.slots.closes) c.self.view_is ∙ c.requires.closes);
      owner = search rules;
      tries = search rules;
    }

pub invariant_of-self : goal.invariant_of-self
invariant_of-self g c =
    let l = c.self.inside in let b = (facts_of l.domain.now.table) in let known = recalled g (goal.at.invariant_of-self g c).After-recall in
    let same = known.same in
    let q = known.between in let w = c.into_owner-owner.result.0 in let slot : ℕ = c.number-slot.result in let is = c.number-slot.ensures in
    let t = c.recall.new.seat in let u = c.go_in_place.new.seat in
    let gone = subst (λ (o : Option g.row.T.Denot). Goes g.row.T slot c.is_one_of_several-shared.result w.views o t u) c.in-Some.is c.in-Ok.ensures.0 in
    let here = gone.view ∙ ap (λ (x : Seat ValueFraction View). with_dropped slot x.me.0) same in let i = c.self.invariant in (
      between_calls_with b l.place l.own t u t.me.0.fractions.filled (with_dropped slot t.me.0).fractions.counts (with_dropped slot t.me.0).words q
          gone.table gone.others gone.view,
      i.1,
      i.2,
      subst (AreLentTo l.section.lifetime) (sym (gone.others ∙ ap (λ (x : Seat ValueFraction View). x.me.1) same)) i.3,
      subst (λ (z : ℕ × KnownWaiting). AgreesWithView b l.own l.due z.0 l.jobs l.privates.entries z.1)
          (λ d. (sym c.remember.ensures.slots d, sym (ap (λ (v : View). known_waiting v.slots) here) d)) i.4,
      subst (λ (x : Tally). IsTallied 0 x u.me.0.fractions.counts) (sym c.count_in_place.ensures)
          (subst (IsTallied 0 (one_in_place l.tally)) (sym (ap (λ (v : View). v.fractions.counts) here))
          (tallied_in_place l.tally l.seat.me.0.fractions.counts i.5)),
    )

pub invariant_of-self-in-None : goal.invariant_of-self-in-None
invariant_of-self-in-None g c =
    let l = c.self.inside in let b = (facts_of l.domain.now.table) in let known = recalled g (goal.at.invariant_of-self-in-None g c).After-recall in
    let same = known.same in let w = c.into_owner-owner.result.0 in let slot : ℕ = c.number-slot.result in let is = c.number-slot.ensures in
    let t = c.recall.new.seat in let u = c.go_in_place.new.seat in
    let beside = subst (λ (o : Option g.row.T.Denot). Goes g.row.T slot c.is_one_of_several-shared.result w.views o t u) c.in-None.is c.in-Ok.ensures.0 in
    let gone = beside.gone in let words : List ℕ = noted slot (beside.word - 1) t.me.0 in
    noted_on b l.place l.own l.section.lifetime l.due l.known.slots l.jobs l.privates.entries l.tally l.seat c.self.invariant t known.same u words
    gone.table gone.others
    gone.view

pub of_witness-requires : goal.of_witness-requires
of_witness-requires g c =
    let kind = c.args.kind in let known = recalled g (goal.at.of_witness-requires g c).After-recall in let read_fraction = c.into_owner-owner.result.1 in
    let slot : ℕ = c.number-slot.result in let sorted = c.is_one_of_several-shared.ensures in
    let views = known.views ∙ ap (λ (s : Bool). witness_of_owner slot s read_fraction.shown) (sym sorted) in record {
      owner =
          let back = c.in-Err.ensures in let shows = back.2 read_fraction.shown views in
          back.1 ∙ (known.views ∙ ap (witness_of_owner slot (is_shared kind)) (sym shows.shows));
      place = (c.in-Err.ensures.2 read_fraction.shown views).unit.number_is;
      inside = search rules;
      kind = search rules;
    }

pub invariant_of-self-in-Err : goal.invariant_of-self-in-Err
invariant_of-self-in-Err g c =
    let l = c.self.inside in let b = (facts_of l.domain.now.table) in let known = recalled g (goal.at.invariant_of-self-in-Err g c).After-recall in
    let same = known.same in let slot : ℕ = c.number-slot.result in let t = c.recall.new.seat in let shared : Bool = c.is_one_of_several-shared.result in
    let u = c.go_in_place.new.seat in let e = back_view slot shared c.in-Err.refused t u c.in-Err.ensures.3 in
    noted_on b l.place l.own l.section.lifetime l.due l.known.slots l.jobs l.privates.entries l.tally l.seat c.self.invariant t known.same u e.0 e.1 e.2 e.3

pub returns-in-Some : goal.returns-in-Some
returns-in-Some g c =
    let l = c.self.inside in let b = (facts_of l.domain.now.table) in let m : LocalState _ = c.self.view_is 0 in let right = c.args.right in
    let kind = c.args.kind in
    let known = recalled g (goal.at.returns-in-Some g c).After-recall in let same = known.same in let q = known.between in
    let w = c.into_owner-owner.result.0 in
    let read_fraction = c.into_owner-owner.result.1 in let slot : ℕ = c.number-slot.result in let is = c.number-slot.ensures in
    let t = c.recall.new.seat in record {
      gone =
          let shared : Bool = c.is_one_of_several-shared.result in let sorted = c.is_one_of_several-shared.ensures in let k : ℕ = number_of right in
          let u = c.go_in_place.new.seat in
          let gone = subst (λ (o : Option g.row.T.Denot). Goes g.row.T slot c.is_one_of_several-shared.result w.views o t u) c.in-Some.is c.in-Ok.ensures.0 in
          let value : Gv = showing g.row.T c.in-Some.value in let here = gone.view ∙ ap (λ (x : Seat ValueFraction View). with_dropped slot x.me.0) same in
          let at = here ∙ ap (λ (j : ℕ). with_dropped j l.seat.me.0) is in let moved = gone.table ∙ ap (λ (x : Seat ValueFraction View). x.table_id) same in
          let fits = fits_from q (g.T.Item.holds c.in-Some.value)
          (subst (λ (o : Option g.row.T.Denot). IfSome o (λ v. AreOf (home_of_slots t.table_id t.me.0.fractions.gamma t.me.0.sizes.slots) (g.T.Item.holds v)))
          c.in-Some.is c.in-Ok.ensures.1) in
          let low = owner_inside b m known.on right kind known.home c.requires.kind w read_fraction
          (λ _. known.owner) slot is c.into_owner-owner.ensures.inside in
          let now : LocalState _ = record (with_view m u.table_id u.me.0) { tally = c.count_in_place.new.self } in (
            sym c.into_owner-owner.ensures.views ∙ (gone.told ∙ (λ d. witness_of_owner (is d) ((sorted ∙ ap is_shared (sym c.requires.kind)) d) value)),
            subst (λ (x : LocalState _). DropsAt k (is_shared kind) x now) c.self.view_is record {
              inside = subst (λ (n : ℕ). k < n) (sym known.on.slots) (subst (λ (j : ℕ). j < slots_of b) is low);
              member = λ d. record (with_view m (moved d) (at d)) { tally = c.count_in_place.ensures d };
              unique = knew_unique m slot k is shared (is_shared kind) sorted l.seat t u same refl known.all gone.unique;
              quiet = λ some_open. gone.quiet (q.opened some_open);
            },
            subst (λ (x : LocalState _). AreOf (home_in x) (g.T.Item.holds c.in-Some.value)) c.self.view_is
                (from_table b m known.on (g.T.Item.holds c.in-Some.value) fits),
          );
      recalled = subst (λ (x : LocalState _). IsLone x → (value : Gv) × HasValue value right × KnowsOwner x (number_of right) (is_shared kind) value)
          c.self.view_is
          (λ lone. (read_fraction.shown, known.has c.into_owner-owner.ensures.views, known.tells lone));
    }

pub returns-in-None : goal.returns-in-None
returns-in-None g c =
    let l = c.self.inside in let m : LocalState _ = c.self.view_is 0 in let right = c.args.right in let kind = c.args.kind in
    let known = recalled g (goal.at.returns-in-None g c).After-recall in let same = known.same in let w = c.into_owner-owner.result.0 in
    let read_fraction = c.into_owner-owner.result.1 in let slot : ℕ = c.number-slot.result in let is = c.number-slot.ensures in
    let t = c.recall.new.seat in record {
      gone =
          let shared : Bool = c.is_one_of_several-shared.result in let sorted = c.is_one_of_several-shared.ensures in let k : ℕ = number_of right in
          let u = c.go_in_place.new.seat in
          let beside = subst (λ (o : Option g.row.T.Denot). Goes g.row.T slot shared w.views o t u) c.in-None.is c.in-Ok.ensures.0 in
          subst (λ (x : LocalState _). GoesBeside k (is_shared kind) x (with_seat m u)) c.self.view_is
          (gone_beside m slot k is shared (is_shared kind) sorted l.seat t u same refl known.all beside);
      recalled = subst (λ (x : LocalState _). IsLone x → (value : Gv) × HasValue value right × KnowsOwner x (number_of right) (is_shared kind) value)
          c.self.view_is
          (λ lone. (read_fraction.shown, known.has c.into_owner-owner.ensures.views, known.tells lone));
    }

pub returns-in-Err : goal.returns-in-Err
returns-in-Err g c =
    let l = c.self.inside in let b = (facts_of l.domain.now.table) in let m : LocalState _ = c.self.view_is 0 in let right = c.args.right in
    let kind = c.args.kind in
    let known = recalled g (goal.at.returns-in-Err g c).After-recall in let same = known.same in let q = known.between in let w = c.into_owner-owner.result.0 in
    let read_fraction = c.into_owner-owner.result.1 in let slot : ℕ = c.number-slot.result in let is = c.number-slot.ensures in
    let t = c.recall.new.seat in record {
      gone =
          let shared : Bool = c.is_one_of_several-shared.result in let sorted = c.is_one_of_several-shared.ensures in let k : ℕ = number_of right in
          let u = c.go_in_place.new.seat in
          let back = c.in-Err.ensures in let made = c.of_witness.ensures in
          let views = known.views ∙ ap (λ (s : Bool). witness_of_owner slot s read_fraction.shown) (sym sorted) in
          let unit = back.2 read_fraction.shown views in (
            right_back b m known.on right kind known.home c.requires.kind w read_fraction
                (λ _. known.owner) slot is c.in-Err.owner c.in-Err.read_fraction l.domain.now.limits.slots
                c.of_witness.result
                (back.0 ∙ q.home) (unit.unit.gamma_is ∙ q.knows.1) back.1 c.into_owner-owner.ensures.views refl made.number made.home made.kind made.views,
            ⊎_elim
                (λ (x : (c.in-Err.refused ≡ Refused.GuardOpen) × IsLetGoOf slot shared t u). inl (
                  x.0,
                  subst (λ (z : LocalState _). SeesGuard k (is_shared kind) z (with_seat m u)) c.self.view_is
                      (guarded_at m slot k is shared (is_shared kind) sorted l.seat t u same refl known.all (guard_of b l.place l.own t q) x.1),
                ))
                (λ (x : (c.in-Err.refused ≡ Refused.Contended) × IsUnmoved t u × (shared ≡ true) × ¬ (IsLoneAt (epoch t))). inr (
                  x.0,
                  unmoved_at m slot k is shared (is_shared kind) sorted l.seat t u same refl known.all x.1 ∙ c.self.view_is,
                  sym sorted ∙ x.2,
                  (λ lone. x.3 (ap (λ (y : Seat ValueFraction View). y.me.0.epoch.all) same
                      ∙ known.all (subst (λ (z : LocalState _). IsLone z) (sym c.self.view_is) lone))),
                )) back.3,
          );
      recalled = subst (λ (x : LocalState _). IsLone x → (value : Gv) × HasValue value right × KnowsOwner x (number_of right) (is_shared kind) value)
          c.self.view_is
          (λ lone. (read_fraction.shown, known.has c.into_owner-owner.ensures.views, known.tells lone));
    }
