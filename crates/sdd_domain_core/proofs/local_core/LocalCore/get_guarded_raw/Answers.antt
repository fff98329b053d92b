use Rattle.std.proofs.Common.{rules, ◌≡◌, ℕ, ◌<◌, refl, sym, ap, ◌∙◌, subst, arith}
use Rattle.std.specs.Prelude.{false}
use base.Stored.{Gv}
use Rattle.atomic_table.specs.declared.shared.Seat.{Seat}
use Rattle.sdd_shared_values.specs.CarriedFractions.{contents}
use Rattle.sdd_shared_values.specs.SharedValues.{CanShow, showing}
use Rattle.sdd_shared_values.specs.declared.value_fraction.ValueFraction.{ValueFraction}
use Rattle.sdd_rights.specs.declared.views.View.{View}
use Rattle.sdd_rights.specs.declared.views.Sizes.{Sizes}
use Rattle.sdd_domain_invariant.specs.Fractions.FractionSteps.{SeesOwned}
use Rattle.sdd_domain_invariant.proofs.Slots.Records.{in_times}
use Rattle.sdd_atomics.specs.TableFacts.{facts_of, gamma_of, places_of}
use Rattle.sdd_atomics.specs.DomainSeat.{MovedAlone}
use Rattle.sdd_world_model.specs.OwnerOrCell.{AreOf}
use Rattle.sdd_domain_steps.specs.SpaceIds.{home_in}
use Rattle.sdd_domain_steps.specs.SeenSlots.{IsOnce}
use Rattle.sdd_domain_steps.specs.BetweenCalls.{AreLentTo}
use Rattle.sdd_domain_steps.specs.LocalState.{LocalState, LooksAt, IsLone}
use Rattle.sdd_domain_steps.specs.RawItems.{KnowsRaw}
use Rattle.sdd_domain_steps.proofs.SameHome.{on_table, from_values}
use Rattle.sdd_domain_steps.proofs.MovedValues.{can_show, shows_known}
use Rattle.sdd_domain_steps.proofs.BetweenCalls.{watched}
use Rattle.sdd_domain_core.proofs.KeptBetweenCalls.{shown_on}
use Rattle.sdd_domain_steps.proofs.LocalLooks.{with_seat, looks_at}
use Rattle.sdd_domain_core.proofs.local_core.LocalCore.get_guarded_raw.Goals as goal

pub look-requires-clause-fraction : goal.look-requires-clause-fraction
look-requires-clause-fraction g c = let l = c.self.inside in let b = (facts_of l.domain.now.table) in let t : ℕ = c.section_of-section.result.now.lifetime in
    let inv = c.self.invariant in let slot : ℕ = c.args.slot in let look = c.look_for_raw.ensures in
    let hit = look.2.0 c.if-look_for_raw-ne-RAW.false in let shown : Gv = hit.0 in
    let watch : MovedAlone (SeesOwned slot false shown) l.seat c.look_for_raw.new.seat = (look.0, look.1, hit.1) in
    let seen = watched b l.place l.own t slot false shown l.seat c.look_for_raw.new.seat inv.0
    (subst (λ (t : ℕ). AreLentTo t l.seat.me.1) (sym c.agree.ensures.lifetime) inv.3) watch in
    subst (λ (k : ℕ). CanShow k slot t (contents c.look_for_raw.new.seat.me.1)) (sym l.domain.now.shelved.0.gamma)
    (can_show (gamma_of b) (places_of b) l.place t slot seen.records c.look_for_raw.new.seat.me.1 seen.carries seen.lent
    (in_times seen.records slot shown seen.there))

pub invariant_of-self-2 : goal.invariant_of-self-2
invariant_of-self-2 g c = let l = c.self.inside in let b = (facts_of l.domain.now.table) in let t : ℕ = c.section_of-section.result.now.lifetime in
    let inv = c.self.invariant in let slot : ℕ = c.args.slot in let look = c.look_for_raw.ensures in
    let hit = look.2.0 c.if-look_for_raw-ne-RAW.false in let shown : Gv = hit.0 in
    let watch : MovedAlone (SeesOwned slot false shown) l.seat c.look_for_raw.new.seat = (look.0, look.1, hit.1) in
    let seen = watched b l.place l.own t slot false shown l.seat c.look_for_raw.new.seat inv.0
    (subst (λ (t : ℕ). AreLentTo t l.seat.me.1) (sym c.agree.ensures.lifetime) inv.3) watch in
    let some_open : 0 < l.own.guards = search rules in
    shown_on b l.place l.own l.section.lifetime l.due l.known.slots l.jobs l.privates.entries l.tally l.seat inv t c.agree.ensures.lifetime slot shown
    c.look_for_raw.new.seat c.look.new.seat some_open watch.0 seen c.look.ensures.seat c.look.ensures.lent

pub returns : goal.returns
returns g c = let l = c.self.inside in let b = (facts_of l.domain.now.table) in let t : ℕ = c.section_of-section.result.now.lifetime in
    let inv = c.self.invariant in let slot : ℕ = c.args.slot in let look = c.look_for_raw.ensures in
    let hit = look.2.0 c.if-look_for_raw-ne-RAW.false in let shown : Gv = hit.0 in
    let watch : MovedAlone (SeesOwned slot false shown) l.seat c.look_for_raw.new.seat = (look.0, look.1, hit.1) in
    let seen = watched b l.place l.own t slot false shown l.seat c.look_for_raw.new.seat inv.0
    (subst (λ (t : ℕ). AreLentTo t l.seat.me.1) (sym c.agree.ensures.lifetime) inv.3) watch in
    let out : Gv = showing g.row.T c.look.result.now in let old : LocalState _ = c.self.view_is 0 in
    let is = seen.once slot shown out seen.there (shows_known (gamma_of b) (places_of b) l.place slot l.domain.now.values.gamma out seen.records
    c.look_for_raw.new.seat.me.1 seen.carries c.look.ensures.value) in
    let sees : c.look.new.seat.me.0.fractions.sees ≡ seen.records = ap (λ (x : Seat ValueFraction View). x.me.0.fractions.sees) c.look.ensures.seat
    ∙ ap (λ (v : View). v.fractions.sees) seen.view in
    let all = inv.0.all ∙ ap (λ (z : Sizes). z.participants) l.domain.now.limited.1 in
    subst (λ (m : LocalState _). (slot < m.limits.slots) × LooksAt slot false out m (with_seat old c.look.new.seat)
    × IsOnce c.look.new.seat.me.0.fractions.sees × AreOf (home_in m) (g.T.Item.holds c.look.result.now) × (IsLone m → KnowsRaw m slot out)) c.self.view_is (
      omega (arith, c.if-slot-self.false),
      subst (λ (v : Gv). LooksAt slot false v old (with_seat old c.look.new.seat)) is
          (looks_at old slot false shown l.seat c.look_for_raw.new.seat c.look.new.seat watch c.look.ensures.seat),
      subst IsOnce (sym sees) seen.once,
      from_values b old (on_table l.domain.now.limits b l.seat.table_id inv.0.home l.domain.now.limited.1 old refl refl refl)
          l.domain.now.values l.domain.now.shelved.0 (g.T.Item.holds c.look.result.now) c.look.ensures.fits,
      λ lone. subst (λ (v : Gv). KnowsRaw old slot v) is
          record { newest = hit.2 (all ∙ lone); out = sym (look.2.2 (all ∙ lone)) ∙ c.if-look_for_raw-ne-RAW.false },
    )
