use Rattle.sdd_domain_core.proofs.AtTable.{at_table}
use Rattle.std.proofs.Common.{◌≡◌, ℕ, inl, inr, ⊎_elim, refl, ap, sym, ◌∙◌, subst, Ok}
use Rattle.std.specs.Prelude.{IfSome}
use base.Stored.{Gv}
use Rattle.sdd_atomics.specs.TableFacts.{facts_of, TableFacts}
use Rattle.sdd_rights.specs.declared.views.Sizes.{Sizes}
use Rattle.sdd_rights.specs.Right.{home_of_table}
use Rattle.sdd_rights.specs.declared.right.StandingKind.TheVariants as kinds
use Rattle.sdd_domain_invariant.specs.Epoch.{IsLone}
use Rattle.sdd_domain_invariant.specs.Slots.Records.{IsIn}
use Rattle.sdd_domain_steps.specs.Cells.{table_home}
use Rattle.sdd_domain_steps.specs.Items.{IsRightTo, slots_home}
use Rattle.sdd_domain_steps.specs.LocalState.{LocalState, IsLone as IsAlone}
use Rattle.sdd_domain_steps.specs.SeenOwners.{KnowsStill, ShowsTo, Ends}
use Rattle.sdd_domain_steps.proofs.SameHome.{on_table}
use Rattle.sdd_domain_steps.proofs.SeenOwners.{came_right, ends_with}
use Rattle.sdd_domain_core.proofs.KeptBetweenCalls.{noted_on}
use Rattle.sdd_domain_core.proofs.local_core.LocalCore.own_seen.Goals as goal

pub invariant_of-self-2 : goal.invariant_of-self-2
invariant_of-self-2 g c = let l = c.self.inside in let b = (facts_of l.domain.now.table) in let inv = c.self.invariant in let u = c.own_seen.new.seat in
    let e = ends_with b c.args.slot c.in-Ok.loose l.seat u
    (subst (λ (t : TableFacts). Ends t c.args.slot (Ok c.in-Ok.loose) l.seat u) (at_table inv.0) c.in-Ok.ensures) in let is = e.1 in
    noted_on b l.place l.own l.section.lifetime l.due l.known.slots l.jobs l.privates.entries l.tally l.seat c.self.invariant l.seat refl u e.0 is.table
    is.others is.view

pub own_seen-requires-clause-still : goal.own_seen-requires-clause-still
own_seen-requires-clause-still g c = let l = c.self.inside in let slot : ℕ = c.args.slot in
    let alone : l.domain.now.limits.participants ≡ 1 → IsLone l.seat.me.0.epoch
    = λ lone. c.self.invariant.0.all ∙ (ap (λ (z : Sizes). z.participants) l.domain.now.limited.1 ∙ lone) in
    ⊎_elim (λ (sees : (value : Gv) × IsIn l.seat.me.0.fractions.sees slot value). inl sees)
    (λ (lone : l.domain.now.limits.participants ≡ 1). inr (alone lone))
    (subst (λ (x : LocalState g.row.J.Denot). KnowsStill x slot) (sym c.self.view_is) c.requires.still)

pub returns-clause-right : goal.returns-clause-right
returns-clause-right g c = let l = c.self.inside in let b = (facts_of l.domain.now.table) in let m : LocalState g.row.J.Denot = c.self.view_is 0 in
    let alone : IsAlone m → IsLone l.seat.me.0.epoch
    = λ lone. c.self.invariant.0.all ∙ (ap (λ (z : Sizes). z.participants) l.domain.now.limited.1 ∙ lone) in
    let on = on_table l.domain.now.limits b l.seat.table_id c.self.invariant.0.home l.domain.now.limited.1 m refl refl refl in
    let home : table_home b ≡ slots_home m = λ d. home_of_table (sym on.home d) (sym on.gamma d) (sym on.slots d) in
    subst (λ (x : LocalState g.row.J.Denot). IfSome c.bind.result (λ right. (value : Gv) × IsRightTo x kinds.Shared value right × ShowsTo x c.args.slot value))
    c.self.view_is (came_right m c.args.slot b l.seat c.own_seen.new.seat home refl refl alone c.bind.result c.in-Ok.loose
    (subst (λ (t : TableFacts). Ends t c.args.slot (Ok c.in-Ok.loose) l.seat c.own_seen.new.seat) (at_table c.self.invariant.0) c.in-Ok.ensures) c.bind.ensures)
