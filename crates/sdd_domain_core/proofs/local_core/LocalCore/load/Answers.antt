use Rattle.std.specs.Prelude.{Bool, slice_index}
use Rattle.std.proofs.Common.{rules, ◌≡◌, ℕ, ◌<◌, refl, sym, ap, ◌∙◌, subst, arith}
use base.Stored.{Gv}
use Rattle.atomic_table.specs.declared.shared.Seat.{Seat}
use Rattle.sdd_rights.specs.Right.{number_of, kind_of}
use Rattle.sdd_rights.specs.StandingKind.{is_shared}
use Rattle.sdd_shared_values.specs.CarriedFractions.{contents}
use Rattle.sdd_shared_values.specs.SharedValues.{CanShow, showing}
use Rattle.sdd_shared_values.specs.declared.value_fraction.ValueFraction.{ValueFraction}
use Rattle.sdd_rights.specs.declared.views.View.{View}
use Rattle.sdd_rights.specs.declared.views.Sizes.{Sizes}
use Rattle.sdd_domain_invariant.specs.Codes.{held_slots}
use Rattle.sdd_domain_invariant.specs.Fractions.FractionSteps.{SeesOwned}
use Rattle.sdd_domain_invariant.specs.Cells.CellSteps.{SeesInCell}
use Rattle.sdd_domain_invariant.proofs.Slots.Records.{in_times}
use Rattle.sdd_atomics.specs.TableFacts.{facts_of, gamma_of, places_of}
use Rattle.sdd_atomics.specs.DomainSeat.{Moved, MovedAlone}
use Rattle.sdd_world_model.specs.OwnerOrCell.{AreOf}
use Rattle.sdd_domain_steps.specs.SpaceIds.{home_in}
use Rattle.sdd_domain_steps.specs.SeenSlots.{IsOnce}
use Rattle.sdd_domain_steps.specs.Cells.{IsOwnedThere}
use Rattle.sdd_domain_steps.specs.BetweenCalls.{IsBetweenCalls, AgreesWithView, AreLentTo}
use Rattle.sdd_domain_steps.specs.InBags.{known_waiting}
use Rattle.sdd_domain_steps.specs.Receipt.{IsTallied}
use Rattle.sdd_domain_steps.specs.LocalState.{LocalState, KnowsOwner, LooksAt, IsLone}
use Rattle.sdd_domain_steps.proofs.CellWords.{named, named_none}
use Rattle.sdd_domain_steps.proofs.HeldOwners.{cell_views}
use Rattle.sdd_domain_steps.proofs.SameHome.{on_table, from_values}
use Rattle.sdd_domain_steps.proofs.MovedValues.{can_show, shows_known}
use Rattle.sdd_domain_steps.proofs.BetweenCalls.{watched}
use Rattle.sdd_domain_core.proofs.KeptBetweenCalls.{shown_on}
use Rattle.sdd_domain_steps.proofs.LocalLooks.{with_seat, looks_at}
use Rattle.sdd_domain_core.proofs.local_core.LocalCore.load.Given.{Over}
use Rattle.sdd_domain_core.proofs.local_core.LocalCore.load.Goals.{After-see_in-word}
use Rattle.sdd_domain_core.proofs.local_core.LocalCore.load.Goals as goal

-- the cell was recalled, which changed nothing, and its word was seen
looked : (g : Over) (c : After-see_in-word g) → Moved (SeesInCell c.number.result) c.self.inside.seat c.see_in-word.result c.see_in-word.new.seat
looked g c = let cell = c.args.cell.now in
    let views = cell_views c.args.self.now.home cell (kind_of cell) c.witness.result.now (number_of cell) c.requires.home refl c.witness.ensures.cell refl in
    let known = c.recall_cell.ensures (number_of cell) (is_shared (kind_of cell)) views in
    let same : c.recall_cell.new.seat ≡ c.self.inside.seat
    = λ d. record c.recall_cell.new.seat { table_id = known.0 d; id = known.1 d; me = known.2.0 d } in
    subst (λ (x : Seat ValueFraction View). Moved (SeesInCell c.number.result) x c.see_in-word.result c.see_in-word.new.seat) same c.see_in-word.ensures

pub invariant_of-self : goal.invariant_of-self
invariant_of-self g c =
    let l = c.self.inside in let b = (facts_of l.domain.now.table) in let inv = c.self.invariant in let word : ℕ = c.see_in-word.result in
    let f = c.see_in-word.new.seat in let look = looked g (goal.at.invariant_of-self g c).After-see_in-word in
    let none = named_none word (sym c.in_default.ensures.held) in
    let still : f ≡ l.seat = λ d. record f { table_id = look.0 d; id = look.1 d; me = look.2.0 none d } in (
      subst (λ (x : Seat ValueFraction View). IsBetweenCalls b l.place l.own x) (sym still) inv.0,
      inv.1,
      inv.2,
      subst (λ (x : Seat ValueFraction View). AreLentTo l.section.lifetime x.me.1) (sym still) inv.3,
      subst (λ (x : Seat ValueFraction View). AgreesWithView b l.own l.due l.known.slots l.jobs l.privates.entries (known_waiting x.me.0.slots)) (sym still) inv.4,
      subst (λ (x : Seat ValueFraction View). IsTallied 0 l.tally x.me.0.fractions.counts) (sym still) inv.5,
    )

pub returns-in_default-clause-seen : goal.returns-in_default-clause-seen
returns-in_default-clause-seen g c =
    let l = c.self.inside in let word : ℕ = c.see_in-word.result in let f = c.see_in-word.new.seat in
    let look = looked g (goal.at.returns-in_default-clause-seen g c).After-see_in-word in let none = named_none word (sym c.in_default.ensures.held) in
    let still : f ≡ l.seat = λ d. record f { table_id = look.0 d; id = look.1 d; me = look.2.0 none d } in
    ap (with_seat (c.self.view_is 0)) still ∙ c.self.view_is

pub look-value-requires : goal.look-value-requires
look-value-requires g c =
    let l = c.self.inside in let b = (facts_of l.domain.now.table) in let t : ℕ = c.section_of-section.result.now.lifetime in let inv = c.self.invariant in
    let cell = c.args.cell.now in let word : ℕ = c.see_in-word.result in let f = c.see_in-word.new.seat in
    let look = looked g (goal.at.look-value-requires g c).After-see_in-word in let slot : ℕ = c.in-Some.slot in
    let one = named word slot (sym c.value_held.ensures.held ∙ c.in-Some.is) in let hit = look.2.1 slot one in let shared : Bool = hit.0 in
    let shown : Gv = hit.1 in let watch : MovedAlone (SeesOwned slot shared shown) l.seat f = (look.0, look.1, hit.3) in
    let seen = watched b l.place l.own t slot shared shown l.seat f inv.0
    (subst (λ (t : ℕ). AreLentTo t l.seat.me.1) (sym c.agree.ensures.lifetime) inv.3) watch in record {
      inside = let low = subst (λ (z : Sizes). slot < z.slots) inv.0.knows.0 hit.2 in let size = l.domain.now.shelved.0.size in omega (arith, low, size);
      fraction = subst (λ (k : ℕ). CanShow k slot t (contents f.me.1)) (sym l.domain.now.shelved.0.gamma)
          (can_show (gamma_of b) (places_of b) l.place t slot seen.records f.me.1 seen.carries seen.lent (in_times seen.records slot shown seen.there));
    }

pub invariant_of-self-2 : goal.invariant_of-self-2
invariant_of-self-2 g c =
    let l = c.self.inside in let b = (facts_of l.domain.now.table) in let t : ℕ = c.section_of-section.result.now.lifetime in let inv = c.self.invariant in
    let cell = c.args.cell.now in let word : ℕ = c.see_in-word.result in let f = c.see_in-word.new.seat in
    let look = looked g (goal.at.invariant_of-self-2 g c).After-see_in-word in let slot : ℕ = c.in-Some.slot in
    let one = named word slot (sym c.value_held.ensures.held ∙ c.in-Some.is) in let hit = look.2.1 slot one in let shared : Bool = hit.0 in
    let shown : Gv = hit.1 in let watch : MovedAlone (SeesOwned slot shared shown) l.seat f = (look.0, look.1, hit.3) in
    let seen = watched b l.place l.own t slot shared shown l.seat f inv.0
    (subst (λ (t : ℕ). AreLentTo t l.seat.me.1) (sym c.agree.ensures.lifetime) inv.3) watch in
    let some_open : 0 < l.own.guards = search rules in
    shown_on b l.place l.own l.section.lifetime l.due l.known.slots l.jobs l.privates.entries l.tally l.seat inv t c.agree.ensures.lifetime slot shown
    f c.look-value.new.seat some_open watch.0 seen c.look-value.ensures.seat c.look-value.ensures.lent

pub returns : goal.returns
returns g c =
    let l = c.self.inside in let b = (facts_of l.domain.now.table) in let t : ℕ = c.section_of-section.result.now.lifetime in let inv = c.self.invariant in
    let cell = c.args.cell.now in let word : ℕ = c.see_in-word.result in let f = c.see_in-word.new.seat in
    let views = cell_views c.args.self.now.home cell (kind_of cell) c.witness.result.now (number_of cell) c.requires.home refl c.witness.ensures.cell refl in
    let known = c.recall_cell.ensures (number_of cell) (is_shared (kind_of cell)) views in let look = looked g (goal.at.returns g c).After-see_in-word in
    let slot : ℕ = c.in-Some.slot in let one = named word slot (sym c.value_held.ensures.held ∙ c.in-Some.is) in let hit = look.2.1 slot one in
    let shared : Bool = hit.0 in let shown : Gv = hit.1 in let watch : MovedAlone (SeesOwned slot shared shown) l.seat f = (look.0, look.1, hit.3) in
    let seen = watched b l.place l.own t slot shared shown l.seat f inv.0
    (subst (λ (t : ℕ). AreLentTo t l.seat.me.1) (sym c.agree.ensures.lifetime) inv.3) watch in
    let all = inv.0.all ∙ ap (λ (z : Sizes). z.participants) l.domain.now.limited.1 in record {
      found = search rules;
      seen =
          let out : Gv = showing g.row.T c.look-value.result.now in let old : LocalState g.row.J.Denot = c.self.view_is 0 in
          let is = seen.once slot shown out seen.there (shows_known (gamma_of b) (places_of b) l.place slot l.domain.now.values.gamma out seen.records
          f.me.1 seen.carries c.look-value.ensures.value) in
          let sees : c.look-value.new.seat.me.0.fractions.sees ≡ seen.records = ap (λ
          (x : Seat ValueFraction View). x.me.0.fractions.sees) c.look-value.ensures.seat
          ∙ ap (λ (v : View). v.fractions.sees) seen.view in
          let low = subst (λ (z : Sizes). slot < z.slots) (inv.0.knows.0 ∙ l.domain.now.limited.1) hit.2 in
          subst (λ (m : LocalState g.row.J.Denot). ((flag : Bool) × LooksAt slot flag out m (with_seat old c.look-value.new.seat)
          × (IsLone m → KnowsOwner m slot flag out)) × (slot < m.limits.slots) × IsOnce c.look-value.new.seat.me.0.fractions.sees
          × AreOf (home_in m) (g.T.Item.holds c.look-value.result.now)) c.self.view_is (
            (
              shared,
              subst (λ (v : Gv). LooksAt slot shared v old (with_seat old c.look-value.new.seat)) is
                  (looks_at old slot shared shown l.seat f c.look-value.new.seat watch c.look-value.ensures.seat),
              λ lone. let knows = hit.4 (all ∙ lone) in subst (λ (v : Gv). KnowsOwner old slot shared v) is
                  record { newest = knows.newest; alive = knows.alive; kind = knows.kind },
            ),
            low,
            subst IsOnce (sym sees) seen.once,
            from_values b old (on_table l.domain.now.limits b l.seat.table_id inv.0.home l.domain.now.limited.1 old refl refl refl)
                l.domain.now.values l.domain.now.shelved.0 (g.T.Item.holds c.look-value.result.now) c.look-value.ensures.fits,
          );
      owned =
          let flag : Bool = is_shared (kind_of cell) in
          subst (λ (m : LocalState g.row.J.Denot). IsLone m → IsOwnedThere slot flag m) c.self.view_is (λ lone.
          let knew = look.2.2 (all ∙ lone) ∙ ap (λ (k : ℕ). slice_index l.seat.me.0.words k) c.number.ensures in
          let owned = (known.2.2 (all ∙ lone)).held slot (ap held_slots (sym knew) ∙ one) in record { alive = owned.1; kind = owned.2 });
    }
