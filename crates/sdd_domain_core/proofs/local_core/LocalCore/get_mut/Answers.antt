use Rattle.sdd_domain_core.proofs.AtTable.{placed_at, held_at_table, holds_at_table}
use Rattle.std.proofs.Common.{◌≡◌, ◌⊎◌, ℕ, ◌<◌, slice_set, Some, refl, sym, ap, ◌∙◌, subst, rules, ◌≤◌}
use Rattle.std.specs.Prelude.{Bool}
use base.Stored.{Gv}
use Rattle.atomic_table.specs.declared.shared.Seat.{Seat}
use Rattle.sdd_rights.specs.declared.right.Right.{Right}
use Rattle.sdd_rights.specs.Owner.{witness_of_owner}
use Rattle.sdd_rights.specs.StandingKind.{is_shared}
use Rattle.sdd_rights.specs.Right.{AreSlotsOfTable, IsOwnerBy, home_of, kind_of, number_of, views_of}
use Rattle.sdd_shared_values.specs.SharedValues.{showing}
use Rattle.sdd_shared_values.specs.declared.value_fraction.ValueFraction.{ValueFraction}
use Rattle.sdd_world_model.specs.OwnerOrCell.{AreOf}
use Rattle.sdd_rights.specs.declared.views.View.{View}
use Rattle.sdd_atomics.specs.TableFacts.{facts_of, slots_of, TableFacts}
use Rattle.sdd_domain_steps.specs.BetweenCalls.{AreLentTo, AgreesWithView}
use Rattle.sdd_domain_steps.specs.InBags.{known_waiting}
use Rattle.sdd_domain_steps.specs.Items.{HasValue, IsRightTo, slots_home}
use Rattle.sdd_domain_steps.specs.LocalState.{ChangesAt, HasOthers, IsLone, KnowsOwner, LocalState, SeesGuard, unique_words}
use Rattle.sdd_domain_steps.specs.Receipt.{IsTallied}
use Rattle.sdd_domain_steps.specs.SpaceIds.{home_in, home_of_slots}
use Rattle.sdd_domain_steps.specs.Values.{with_filled}
use Rattle.sdd_domain_steps.proofs.SameHome.{from_table, to_table}
use lib.ListN.{get_elem?}
use Rattle.sdd_core.specs.declared.refused.Refused.TheVariants as Refused
use Rattle.sdd_domain_steps.proofs.HeldSlots.{only}
use Rattle.sdd_domain_steps.proofs.InPlace.{bare, changed_to, guard_of, hindered_at, hindered_view, knew_unique, held_looked, held_owns, held_place, held_rests, held_shut, held_tells, owner_inside, owner_table, between_calls_changed, right_again, right_anew}
use Rattle.sdd_domain_steps.proofs.LocalLooks.{with_seat, with_view}
use Rattle.sdd_domain_core.proofs.Recalled.{IsRecalled, is_recalled}
use Rattle.sdd_domain_core.proofs.KeptBetweenCalls.{noted_on}
use Rattle.sdd_domain_core.proofs.local_core.LocalCore.get_mut.Given.{Over}
use Rattle.sdd_domain_core.proofs.local_core.LocalCore.get_mut.Goals.{After-recall}
use Rattle.sdd_domain_core.proofs.local_core.LocalCore.get_mut.Goals as goal

-- the owner was recalled
recalled : (g : Over) (c : After-recall g) → IsRecalled (facts_of c.self.inside.domain.now.table) c.self.inside.place c.self.inside.own (c.self.view_is 0)
    c.args.right.now c.args.kind c.into_owner-owner.result.0 c.into_owner-owner.result.1 c.number-slot.result c.self.inside.seat c.recall.new.seat
recalled g c = let l = c.self.inside in let w = c.into_owner-owner.result.0 in let read_fraction = c.into_owner-owner.result.1 in
    is_recalled l.domain.now.limits (facts_of l.domain.now.table) l.place l.own (c.self.view_is 0) c.args.right.now c.args.kind w read_fraction
    c.number-slot.result l.seat
    c.recall.new.seat l.domain.now.limited.1 refl refl refl (c.requires.home ∙ sym (ap slots_home c.self.view_is)) c.requires.kind
    (subst (λ (r : Right). AreSlotsOfTable (home_of r) → IsOwnerBy (home_of r) (number_of r) (is_shared (kind_of r)) w read_fraction) c.take.ensures
    c.into_owner-owner.ensures.owner) c.number-slot.ensures c.recall.ensures c.self.invariant.0

pub hold_alone-requires : goal.hold_alone-requires
hold_alone-requires g c =
    let l = c.self.inside in let b = (facts_of l.domain.now.table) in let m : LocalState _ = c.self.view_is 0 in let right = c.args.right.now in
    let kind = c.args.kind in
    let known = recalled g (goal.at.hold_alone-requires g c).After-recall in let same = known.same in let q = known.between in
    let w = c.into_owner-owner.result.0 in let read_fraction = c.into_owner-owner.result.1 in let slot : ℕ = c.number-slot.result in
    let is = c.number-slot.ensures in
    let t = c.recall.new.seat in record {
      inside = search rules;
      place = placed_at q;
      bare = bare b l.place l.own t q;
      closes = ap (λ (x : Seat ValueFraction View). x.me.0.slots.closes) same ∙ (ap (λ (m : LocalState _). m.slots.closes) c.self.view_is ∙ c.requires.closes);
      owner =
          let sorted = c.is_one_of_several-shared.ensures in (
            owner_table b m known.on right kind known.home c.requires.kind w read_fraction (λ _. known.owner) slot is ∙ sym q.home,
            (read_fraction.shown, known.views ∙ ap (λ (s : Bool). witness_of_owner slot s read_fraction.shown) (sym sorted)),
          );
    }

pub change_alone-owner-requires : goal.change_alone-owner-requires
change_alone-owner-requires g c =
    let l = c.self.inside in let b = (facts_of l.domain.now.table) in let m : LocalState _ = c.self.view_is 0 in
    let known = recalled g (goal.at.change_alone-owner-requires g c).After-recall in let q = known.between in let read_fraction = c.into_owner-owner.result.1 in
    let slot : ℕ = c.number-slot.result in let t = c.recall.new.seat in let shared : Bool = c.is_one_of_several-shared.result in
    let sorted = c.is_one_of_several-shared.ensures in let views = known.views ∙ ap (λ (s : Bool). witness_of_owner slot s read_fraction.shown) (sym sorted) in
    let h = c.hold_alone.new.seat in let held_there = c.in-Ok.ensures read_fraction.shown views in
    let held = held_at_table q slot shared read_fraction.shown h held_there in let at_b = holds_at_table q slot shared read_fraction.shown h held_there in
    record {
      ready = record {
        place = held_place b l.place l.own t q slot shared read_fraction.shown h held;
        rests = held_rests b l.place l.own t q slot shared read_fraction.shown h held;
      };
      values = search rules;
      inside = search rules;
      held = held_owns b l.place l.own t q slot shared read_fraction.shown h held;
      looked = subst (λ (z : TableFacts). z.sizes.participants ≤ h.me.0.slots.looked) (sym at_b)
          (held_looked b l.place l.own t q slot shared read_fraction.shown h held);
      unit = search rules;
      shows = (0, only slot shared read_fraction.shown, ap (λ (v : View). get_elem? v.fractions.owns 0) held.view, refl, refl);
      callable = search rules;
      held_on = λ was now r then of_was.
          subst (λ (z : TableFacts). AreOf (home_of_slots z.id z.gamma z.sizes.slots) (g.T.Item.holds now)) (sym at_b) (to_table b m known.on
          (g.T.Item.holds now)
          (subst (λ (x : LocalState _). AreOf (home_in x) (g.T.Item.holds now)) (sym c.self.view_is) (c.requires.held was now r then
          (subst (λ (x : LocalState _). AreOf (home_in x) (g.T.Item.holds was)) c.self.view_is (from_table b m known.on (g.T.Item.holds was)
          (subst (λ (z : TableFacts). AreOf (home_of_slots z.id z.gamma z.sizes.slots) (g.T.Item.holds was)) at_b of_was))))));
    }

pub invariant_of-self : goal.invariant_of-self
invariant_of-self g c =
    let l = c.self.inside in let b = (facts_of l.domain.now.table) in let m : LocalState _ = c.self.view_is 0 in
    let known = recalled g (goal.at.invariant_of-self g c).After-recall in let same = known.same in let q = known.between in
    let read_fraction = c.into_owner-owner.result.1 in let slot : ℕ = c.number-slot.result in let t = c.recall.new.seat in
    let shared : Bool = c.is_one_of_several-shared.result in let sorted = c.is_one_of_several-shared.ensures in
    let views = known.views ∙ ap (λ (s : Bool). witness_of_owner slot s read_fraction.shown) (sym sorted) in let h = c.hold_alone.new.seat in
    let held_there = c.in-Ok.ensures read_fraction.shown views in
    let held = held_at_table q slot shared read_fraction.shown h held_there in let at_b = holds_at_table q slot shared read_fraction.shown h held_there in
    let u = c.change_alone-owner.new.seat in let did = c.change_alone-owner.ensures.changed in
    let moved = c.change_alone-owner.ensures.home in let now : Gv = showing g.row.T did.1 in
    let view = changed_to b l.place l.own t q slot shared read_fraction.shown h held u
    (ap (λ (x : Seat ValueFraction View). x.me.0.slots.closes) same ∙ (ap (λ (m : LocalState _). m.slots.closes) c.self.view_is ∙ c.requires.closes))
    now did.4 in
    let same_table = moved.0 ∙ held.table in let others = moved.2 ∙ held.others in
    let here = view ∙ ap (λ (x : Seat ValueFraction View). record (with_filled slot shared now x.me.0) {
      words = unique_words shared slot x.me.0.sizes x.me.0.words;
    }) same in
    let i = c.self.invariant in (
      between_calls_changed b l.place l.own t q slot shared read_fraction.shown h held u now same_table others view,
      i.1,
      i.2,
      subst (AreLentTo l.section.lifetime) (sym (others ∙ ap (λ (x : Seat ValueFraction View). x.me.1) same)) i.3,
      subst (AgreesWithView b l.own l.due l.known.slots l.jobs l.privates.entries) (sym (ap (λ (v : View). known_waiting v.slots) here)) i.4,
      subst (IsTallied 0 l.tally) (sym (ap (λ (v : View). v.fractions.counts) here)) i.5,
    )

pub invariant_of-self-in-Err : goal.invariant_of-self-in-Err
invariant_of-self-in-Err g c =
    let l = c.self.inside in let b = (facts_of l.domain.now.table) in let known = recalled g (goal.at.invariant_of-self-in-Err g c).After-recall in
    let same = known.same in let slot : ℕ = c.number-slot.result in let t = c.recall.new.seat in let h = c.hold_alone.new.seat in
    let e = hindered_view slot c.is_one_of_several-shared.result c.in-Err.hindrance t h c.in-Err.ensures.0 in
    noted_on b l.place l.own l.section.lifetime l.due l.known.slots l.jobs l.privates.entries l.tally l.seat c.self.invariant t known.same h e.0 e.1 e.2 e.3

pub returns-in-Ok : goal.returns-in-Ok
returns-in-Ok g c =
    let l = c.self.inside in let b = (facts_of l.domain.now.table) in let m : LocalState _ = c.self.view_is 0 in let right = c.args.right.now in
    let kind = c.args.kind in
    let known = recalled g (goal.at.returns-in-Ok g c).After-recall in let same = known.same in let q = known.between in let w = c.into_owner-owner.result.0 in
    let read_fraction = c.into_owner-owner.result.1 in let seen = c.into_owner-owner.ensures.views ∙ ap views_of c.take.ensures in
    let slot : ℕ = c.number-slot.result in
    let is = c.number-slot.ensures in let t = c.recall.new.seat in let k : ℕ = number_of right in record {
      changed =
          let shared : Bool = c.is_one_of_several-shared.result in let sorted = c.is_one_of_several-shared.ensures in
          let views = known.views ∙ ap (λ (s : Bool). witness_of_owner slot s read_fraction.shown) (sym sorted) in let h = c.hold_alone.new.seat in
          let held_there = c.in-Ok.ensures read_fraction.shown views in
          let held = held_at_table q slot shared read_fraction.shown h held_there in let at_b = holds_at_table q slot shared read_fraction.shown h held_there in
          let u = c.change_alone-owner.new.seat in let did = c.change_alone-owner.ensures.changed in
          let moved = c.change_alone-owner.ensures.home in let now : Gv = showing g.row.T did.1 in
          let view = changed_to b l.place l.own t q slot shared read_fraction.shown h held u
          (ap (λ (x : Seat ValueFraction View). x.me.0.slots.closes) same ∙ (ap (λ (m : LocalState _). m.slots.closes) c.self.view_is ∙ c.requires.closes))
          now did.4 in
          let same_table = moved.0 ∙ held.table in let others = moved.2 ∙ held.others in
          let here = view ∙ ap (λ (x : Seat ValueFraction View). record (with_filled slot shared now x.me.0) {
            words = unique_words shared slot x.me.0.sizes x.me.0.words;
          }) same in
          let told = held_tells b l.place l.own t q slot shared read_fraction.shown h held (showing g.row.T did.0) did.2 in
          let at = here ∙ (λ d. record (with_filled (is d) (sorted d) now l.seat.me.0) {
            words = unique_words (sorted d) (is d) l.seat.me.0.sizes l.seat.me.0.words;
          }) in
          let from = same_table ∙ ap (λ (x : Seat ValueFraction View). x.table_id) same in
          let inside = subst (λ (r : Right). number_of r < (home_of r).size) c.take.ensures c.into_owner-owner.ensures.inside in
          let low = owner_inside b m known.on right kind known.home c.requires.kind w read_fraction (λ _. known.owner) slot is inside in
          let new : LocalState _ = with_view
          m u.table_id u.me.0 in
          let made = c.of_witness.ensures in
          let owner : IsRightTo m kind now c.of_witness.result = record {
            home = right_anew b m known.on right kind known.home c.requires.kind w read_fraction (λ _. known.owner) slot is c.change_alone-owner.result.0
                c.change_alone-owner.result.1
                l.domain.now.limits.slots c.of_witness.result (did.5 ∙ ap (λ (z : TableFacts). z.id) at_b)
                (did.7.unit.gamma_is ∙ ap (λ (z : TableFacts). z.gamma) at_b) refl made.home;
            kind = made.kind;
            value = made.views ∙ (did.6 ∙ (λ d. witness_of_owner (sym made.number d) ((sorted ∙ ap is_shared (sym made.kind)) d) now));
          } in (
            did.0,
            did.1,
            subst (λ (x : Gv). HasValue x right) told (known.has seen),
            did.3,
            subst (λ (x : LocalState _). ChangesAt k (is_shared kind) now x new) c.self.view_is record {
              inside = subst (λ (n : ℕ). k < n) (sym known.on.slots) (subst (λ (j : ℕ). j < slots_of b) is low);
              member = λ d. with_view m (from d) (at d);
              unique = knew_unique m slot k is shared (is_shared kind) sorted l.seat t u same refl known.all held.unique;
              quiet = held_shut b l.place l.own t q slot shared read_fraction.shown h held;
            },
            subst (λ (r : Right). IsRightTo c.args.self.now kind now r) (sym c.put.ensures)
                (subst (λ (x : LocalState _). IsRightTo x kind now c.of_witness.result) c.self.view_is owner),
            subst (λ (x : LocalState _). AreOf (home_in x) (g.T.Item.holds did.1)) c.self.view_is (from_table b m known.on (g.T.Item.holds did.1)
                (subst (λ (z : TableFacts). AreOf (home_of_slots z.id z.gamma z.sizes.slots) (g.T.Item.holds did.1)) at_b did.8)),
            did.9 ∙ ap (λ (j : ℕ). slice_set c.args.ghost_values.now.entries j (Some (did.1, now))) is,
          );
      slot = search rules;
      recalled = subst (λ (x : LocalState _). IsLone x → (value : Gv) × HasValue value right × KnowsOwner x (number_of right) (is_shared kind) value)
          c.self.view_is
          (λ lone. (read_fraction.shown, known.has seen, known.tells lone));
    }

pub returns-in-Err : goal.returns-in-Err
returns-in-Err g c =
    let l = c.self.inside in let b = (facts_of l.domain.now.table) in let m : LocalState _ = c.self.view_is 0 in let right = c.args.right.now in
    let kind = c.args.kind in
    let known = recalled g (goal.at.returns-in-Err g c).After-recall in let same = known.same in let q = known.between in let w = c.into_owner-owner.result.0 in
    let read_fraction = c.into_owner-owner.result.1 in let seen = c.into_owner-owner.ensures.views ∙ ap views_of c.take.ensures in
    let slot : ℕ = c.number-slot.result in
    let is = c.number-slot.ensures in let t = c.recall.new.seat in let k : ℕ = number_of right in record {
      changed =
          let back = c.in-Err.ensures in let made = c.of_witness-in-Err.ensures in let h = c.hold_alone.new.seat in
          let shared : Bool = c.is_one_of_several-shared.result in let sorted = c.is_one_of_several-shared.ensures in (
            refl,
            c.put-in-Err.ensures ∙ right_again b m known.on right kind known.home c.requires.kind w read_fraction (λ _. known.owner) slot is c.in-Err.owner
                l.domain.now.limits.slots
                c.of_witness-in-Err.result (back.1 ∙ q.home) back.2 seen refl made.number made.home made.kind made.views,
            refl,
            subst (λ (x : LocalState _). ((c.refused.result ≡ Refused.NotAlone) × HasOthers k (is_shared kind) x (with_seat m h))
                ⊎ ((c.refused.result ≡ Refused.GuardOpen) × SeesGuard k (is_shared kind) x (with_seat m h))) c.self.view_is
                (hindered_at m slot k is shared (is_shared kind) sorted l.seat t h same refl known.all (guard_of b l.place l.own t q)
                c.in-Err.hindrance c.refused.result c.refused.ensures back.0),
          );
      slot = search rules;
      recalled = subst (λ (x : LocalState _). IsLone x → (value : Gv) × HasValue value right × KnowsOwner x (number_of right) (is_shared kind) value)
          c.self.view_is
          (λ lone. (read_fraction.shown, known.has seen, known.tells lone));
    }
