use Rattle.std.specs.Prelude.{Bool}
use Rattle.std.proofs.Common.{◌≡◌, ℕ, ◌<◌, arith, rules, refl, sym, ap, ◌∙◌, subst}
use base.Stored.{Gv}
use Rattle.sdd_rights.specs.Owner.{witness_of_owner}
use Rattle.sdd_rights.specs.Right.{number_of, kind_of}
use Rattle.sdd_rights.specs.StandingKind.{is_shared}
use Rattle.sdd_domain_invariant.specs.Fractions.FractionSteps.{SeesOwned}
use Rattle.sdd_atomics.specs.DomainSeat.{MovedAlone}
use Rattle.sdd_shared_values.specs.CarriedFractions.{contents}
use Rattle.sdd_shared_values.specs.SharedValues.{CanShow, HasFractionShowing, showing}
use Rattle.sdd_domain_invariant.proofs.Slots.Records.{in_times}
use Rattle.sdd_rights.specs.Units.{GhostName}
use Rattle.sdd_atomics.specs.TableFacts.{facts_of, id_of, gamma_of, places_of, slots_of}
use Rattle.atomic_table.specs.declared.shared.Seat.{Seat}
use Rattle.sdd_shared_values.specs.declared.value_fraction.ValueFraction.{ValueFraction}
use Rattle.sdd_rights.specs.declared.views.View.{View}
use Rattle.sdd_rights.specs.declared.views.Sizes.{Sizes}
use Rattle.sdd_domain_steps.specs.SeenSlots.{IsOnce}
use Rattle.sdd_world_model.specs.OwnerOrCell.{AreOf}
use Rattle.sdd_domain_steps.specs.SpaceIds.{home_in}
use Rattle.sdd_domain_steps.proofs.SameHome.{on_table, from_values}
use Rattle.sdd_domain_steps.specs.BetweenCalls.{AreLentTo}
use Rattle.sdd_domain_steps.proofs.MovedValues.{can_show, shows_known}
use Rattle.sdd_domain_steps.proofs.BetweenCalls.{watched, same_recalled}
use Rattle.sdd_domain_core.proofs.KeptBetweenCalls.{shown_on}
use Rattle.sdd_domain_steps.proofs.LocalLooks.{with_seat, looks_at, recalls_to, has_tables}
use Rattle.sdd_domain_steps.specs.LocalState.{LocalState, LooksAt, IsLone, KnowsOwner}
use Rattle.sdd_domain_core.proofs.local_core.LocalCore.get_guarded.Goals as goal

pub look-requires : goal.look-requires
look-requires g c =
    let l = c.self.inside in let b = (facts_of l.domain.now.table) in let slot : ℕ = number_of c.args.right.now in
    let found = c.witness-owner.ensures.owner (has_tables c.args.self.now c.args.right.now c.requires.home) in let own = found.1 in
    let shared : Bool = is_shared (kind_of c.args.right.now) in let shown : Gv = found.0.shown in record {
      inside = search rules;
      fraction =
          let t : ℕ = c.section_of-section.result.now.lifetime in let inv = c.self.invariant in let recalled = c.recall.ensures slot shared shown own.owner in
          let watch = subst (λ (x : Seat ValueFraction View). MovedAlone (SeesOwned slot shared shown) x c.watch.new.seat)
          (same_recalled b l.place slot shared shown l.seat c.recall.new.seat recalled) (c.watch.ensures slot shared shown own.owner) in
          let seen = watched b l.place l.own t slot shared shown l.seat c.watch.new.seat inv.0
          (subst (λ (t : ℕ). AreLentTo t l.seat.me.1) (sym c.agree.ensures.lifetime) inv.3) watch in
          subst (λ (k : ℕ × ℕ). CanShow k.0 k.1 t (contents c.watch.new.seat.me.1)) (λ d. (sym l.domain.now.shelved.0.gamma d, sym c.number.ensures d))
          (can_show (gamma_of b) (places_of b) l.place t slot seen.records c.watch.new.seat.me.1 seen.carries seen.lent
          (in_times seen.records slot shown seen.there));
    }

pub invariant_of-self : goal.invariant_of-self
invariant_of-self g c =
    let l = c.self.inside in let b = (facts_of l.domain.now.table) in let t : ℕ = c.section_of-section.result.now.lifetime in let inv = c.self.invariant in
    let slot : ℕ = number_of c.args.right.now in let found = c.witness-owner.ensures.owner (has_tables c.args.self.now c.args.right.now c.requires.home) in
    let own = found.1 in let shared : Bool = is_shared (kind_of c.args.right.now) in let shown : Gv = found.0.shown in
    let recalled = c.recall.ensures slot shared shown own.owner in
    let watch = subst (λ (x : Seat ValueFraction View). MovedAlone (SeesOwned slot shared shown) x c.watch.new.seat)
    (same_recalled b l.place slot shared shown l.seat c.recall.new.seat recalled) (c.watch.ensures slot shared shown own.owner) in
    let some_open : 0 < l.own.guards = search rules in
    let seen = watched b l.place l.own t slot shared shown l.seat c.watch.new.seat inv.0
    (subst (λ (t : ℕ). AreLentTo t l.seat.me.1) (sym c.agree.ensures.lifetime) inv.3) watch in
    shown_on b l.place l.own l.section.lifetime l.due l.known.slots l.jobs l.privates.entries l.tally l.seat inv t c.agree.ensures.lifetime slot shown
    c.watch.new.seat c.look.new.seat some_open watch.0 seen c.look.ensures.seat c.look.ensures.lent

pub returns : goal.returns
returns g c =
    let l = c.self.inside in let b = (facts_of l.domain.now.table) in let t : ℕ = c.section_of-section.result.now.lifetime in let inv = c.self.invariant in
    let slot : ℕ = number_of c.args.right.now in let found = c.witness-owner.ensures.owner (has_tables c.args.self.now c.args.right.now c.requires.home) in
    let own = found.1 in let shared : Bool = is_shared (kind_of c.args.right.now) in let shown : Gv = found.0.shown in
    let recalled = c.recall.ensures slot shared shown own.owner in
    let watch = subst (λ (x : Seat ValueFraction View). MovedAlone (SeesOwned slot shared shown) x c.watch.new.seat)
    (same_recalled b l.place slot shared shown l.seat c.recall.new.seat recalled) (c.watch.ensures slot shared shown own.owner) in
    let seen = watched b l.place l.own t slot shared shown l.seat c.watch.new.seat inv.0
    (subst (λ (t : ℕ). AreLentTo t l.seat.me.1) (sym c.agree.ensures.lifetime) inv.3) watch in
    let shows = subst (λ (k : ℕ). HasFractionShowing l.domain.now.values.gamma k (showing g.row.T c.look.result.now) (contents c.watch.new.seat.me.1))
    c.number.ensures
    c.look.ensures.value in
    let is = seen.once slot shown (showing g.row.T c.look.result.now) seen.there
    (shows_known (gamma_of b) (places_of b) l.place slot l.domain.now.values.gamma (showing g.row.T c.look.result.now) seen.records
    c.watch.new.seat.me.1 seen.carries shows) in record {
      value = sym c.witness-owner.ensures.views ∙ (own.owner ∙ ap (witness_of_owner slot shared) is);
      looks = subst (λ (m : LocalState _). LooksAt slot shared (showing g.row.T c.look.result.now) m (with_seat (c.self.view_is 0) c.look.new.seat))
          c.self.view_is
          (subst (λ (v : Gv). LooksAt slot shared v (c.self.view_is 0) (with_seat (c.self.view_is 0) c.look.new.seat)) is
          (looks_at (c.self.view_is 0) slot shared shown l.seat c.watch.new.seat c.look.new.seat watch c.look.ensures.seat));
      once =
          let sees : c.look.new.seat.me.0.fractions.sees ≡ seen.records = ap (λ (x : Seat ValueFraction View). x.me.0.fractions.sees) c.look.ensures.seat
          ∙ ap (λ (v : View). v.fractions.sees) seen.view in
          subst IsOnce (sym sees) seen.once;
      recalled = subst (λ (m : LocalState _). IsLone m → KnowsOwner m slot shared (showing g.row.T c.look.result.now)) c.self.view_is
          (subst (λ (v : Gv). IsLone (c.self.view_is 0) → KnowsOwner (c.self.view_is 0) slot shared v) is
          (recalls_to (c.self.view_is 0) slot shared shown l.seat c.recall.new.seat recalled
          (inv.0.all ∙ ap (λ (z : Sizes). z.participants) l.domain.now.limited.1)));
      home = subst (λ (m : LocalState _). AreOf (home_in m) (g.T.Item.holds c.look.result.now)) c.self.view_is
          (from_values b (c.self.view_is 0) (on_table l.domain.now.limits b l.seat.table_id inv.0.home l.domain.now.limited.1 (c.self.view_is 0) refl refl refl)
          l.domain.now.values l.domain.now.shelved.0 (g.T.Item.holds c.look.result.now) c.look.ensures.fits);
    }

-- what was known before the owner was recalled is known still
pub watch-requires : goal.watch-requires
watch-requires g c =
    let q = c.self.invariant.0 in let l = c.self.inside in let b = (facts_of l.domain.now.table) in let slot : ℕ = number_of c.args.right.now in
    let found = c.witness-owner.ensures.owner (has_tables c.args.self.now c.args.right.now c.requires.home) in let own = found.1 in
    let shared : Bool = is_shared (kind_of c.args.right.now) in let shown : Gv = found.0.shown in
    let same = same_recalled b l.place slot shared shown l.seat c.recall.new.seat (c.recall.ensures slot shared shown own.owner) in record {
      «open» = let some_open : 0 < l.own.guards = search rules in ap (λ (x : Seat ValueFraction View). x.me.0.epoch.state) same ∙ q.opened some_open;
      near = let place = ap (λ (x : Seat ValueFraction View). x.me.0.epoch.place) same in let at = q.place in let inside = q.inside in
          let places = ap (λ (x : Seat ValueFraction View). x.me.0.sizes.participants) same ∙ ap (λ (z : Sizes). z.participants) q.knows.0 in omega arith;
      rests = ap (λ (x : Seat ValueFraction View). x.me.0.fractions.moves) same ∙ q.rests;
      owner =
          let tables = own.table in let mine = ap (λ (h : GhostName). h.tables) c.requires.home in
          let there = ap (λ (m : LocalState _). m.home) c.self.view_is in
          let table = q.home in let same_table : c.witness-owner.result.now.table_id ≡ id_of b = cc in let inside : slot < slots_of b = search rules in
          let table_there = ap (λ (x : Seat ValueFraction View). x.table_id) same ∙ q.home in
          let slots_there = ap (λ (x : Seat ValueFraction View). x.me.0.sizes.slots) same ∙ ap (λ (z : Sizes). z.slots) q.knows.0 in
          (same_table ∙ sym table_there, (slot, shared, shown, subst (λ (j : ℕ). slot < j) (sym slots_there) inside, own.owner));
    }

pub recall-requires-clause-owner : goal.recall-requires-clause-owner
recall-requires-clause-owner g c =
    let q = c.self.invariant.0 in let l = c.self.inside in let b = (facts_of l.domain.now.table) in let slot : ℕ = number_of c.args.right.now in
    let found = c.witness-owner.ensures.owner (has_tables c.args.self.now c.args.right.now c.requires.home) in let own = found.1 in
    let shared : Bool = is_shared (kind_of c.args.right.now) in let shown : Gv = found.0.shown in let tables = own.table in
    let mine = ap (λ (h : GhostName). h.tables) c.requires.home in let there = ap (λ (m : LocalState _). m.home) c.self.view_is in let table = q.home in
    let same_table : c.witness-owner.result.now.table_id ≡ id_of b = cc in let inside : slot < slots_of b = search rules in
    (same_table ∙ sym q.home, (slot, shared, shown, subst (λ (j : ℕ). slot < j) (sym (ap (λ (z : Sizes). z.slots) q.knows.0)) inside, own.owner))
