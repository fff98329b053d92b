use Rattle.std.proofs.Common.{◌≡◌, None, refl, sym, ap, ◌∙◌, subst}
use Rattle.sdd_atomics.specs.TableFacts.{facts_of, slots_of}
use Rattle.sdd_domain_invariant.specs.Cells.CellSteps.{rightless}
use Rattle.sdd_domain_invariant.specs.Fractions.FractionSteps.{SeatState}
use Rattle.sdd_rights.specs.declared.views.CellKind.TheVariants.{Collector as of_closed}
use Rattle.sdd_rights.specs.declared.views.View.{View}
use Rattle.sdd_domain_invariant.specs.Collectors.CollectorWordSteps.{closed_none}
use Rattle.sdd_domain_steps.specs.BetweenCalls.{AreLentTo, AgreesWithView}
use Rattle.sdd_domain_steps.specs.InBags.{known_waiting}
use Rattle.sdd_domain_steps.specs.LocalState.{LocalState}
use Rattle.sdd_domain_steps.specs.Receipt.{IsTallied}
use Rattle.sdd_domain_core.proofs.CloseBetweenCalls.{between_calls_closing}
use Rattle.sdd_domain_steps.proofs.InBags.{ends_close}
use Rattle.sdd_domain_core.proofs.local_core.LocalCore.end_close.Goals as goal

pub invariant_of-self : goal.invariant_of-self
invariant_of-self g c = let l = c.self.inside in let b = (facts_of l.domain.now.table) in let i = c.self.invariant in let r = i.4 in
    let v : View = l.seat.me.0 in
    let u = c.cut_right-right.new.seat in let taken = c.take_in_right.ensures c.args.collector of_closed c.requires.right.1 in
    let ended = c.end_close.ensures in let cut = c.cut_right-right.ensures.participant in
    let others : u.me.1 ≡ l.seat.me.1 = cut.2 ∙ (ap (λ (m : SeatState). m.1) ended.2 ∙ taken.2) in
    let is : u.me.0 ≡ record v { slots = record v.slots { closes = None; looked = 0 } } = cut.3 ∙ (ap (λ (m : SeatState). rightless m.0) ended.2
    ∙ (ap (λ (w : View). rightless (closed_none w)) taken.3
    ∙ (λ d. record v { slots = record v.slots { closes = None; looked = 0 }; cells = sym i.0.rights d }))) in (
      between_calls_closing b l.place l.own l.seat u None 0 i.0 (cut.0 ∙ (ended.0 ∙ taken.0)) others is (λ _. refl),
      i.1,
      i.2,
      subst (AreLentTo l.section.lifetime) (sym others) i.3,
      subst (λ (w : View). AgreesWithView b l.own l.due l.known.slots l.jobs l.privates.entries (known_waiting w.slots)) (sym is) record {
        bags = ends_close (slots_of b) (known_waiting v.slots) l.own.bags.waiting l.due.items r.bags
            (ap (λ (m : LocalState _). m.due) c.self.view_is ∙ c.requires.settled);
        large = r.large;
        slots = r.slots;
        told = r.told;
        places = r.places;
        jobs = r.jobs;
      },
      subst (λ (w : View). IsTallied 0 l.tally w.fractions.counts) (sym is) i.5,
    )
