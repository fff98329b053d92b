use Rattle.std.proofs.Common.{rules, ℕ, ◌+◌, List, None, length, replicate, refl, sym, ap, ◌∙◌, subst, slice_index_or, arith}
use Rattle.std.proofs.lemmas.Bool.{true≢false}
use Rattle.std.proofs.lemmas.List.{length-replicate}
use Rattle.std.specs.Prelude.{Option, IsSome}
use Rattle.sdd_rights.specs.declared.views.WaitingItem.{WaitingItem}
use Rattle.sdd_rights.specs.declared.views.FractionsView.{FractionsView}
use Rattle.sdd_rights.specs.declared.views.Sizes.{Sizes}
use Rattle.sdd_rights.specs.declared.views.SlotsView.{SlotsView}
use Rattle.sdd_domain_invariant.specs.Sums.{total}
use Rattle.sdd_domain_invariant.specs.Slots.{waits_in}
use Rattle.sdd_world_model.proofs.OwnerCounts.{blank-at}
use Rattle.sdd_atomics.specs.TableFacts.{facts_of, slots_of}
use Rattle.sdd_domain_steps.proofs.InBags.{nothing_there}
use Rattle.sdd_domain_steps.proofs.MovedValues.{none_lent}
use Rattle.sdd_domain_steps.proofs.PrivateTables.{told_nothing}
use Rattle.sdd_domain_core.proofs.TakenSeats.{between_calls}
use Rattle.sdd_domain_core.proofs.local_core.LocalCore.register.Goals as goal

pub invariant_of-result : goal.invariant_of-result
invariant_of-result g c = let jobs : ℕ = c.args.domain.now.limits.jobs in let taken = c.in-Ok-take_seat.ensures.taken in
    let none = ap (λ (v : SlotsView). v.waits) taken.slots in
    let none_private = ap (λ (v : SlotsView). v.privates) taken.slots in (
      between_calls _ _ _ _ taken (search rules),
      record { nesting_is = refl; state_is = c.in-Ok-take_seat.ensures.state },
      search rules,
      none_lent _ _ taken.carried,
      record {
        bags = nothing_there _ _ _ _ none none_private (search rules) (search rules);
        told = told_nothing _ _ _ (c.in-Ok.ensures.privates ∙ ap (λ (k : ℕ). replicate k None) (sym (ap (λ (z : Sizes). z.slots) c.args.domain.now.limited.1)))
            none_private;
        large = search rules;
        slots = search rules;
        places = ap length (c.in-Ok.ensures.jobs) ∙ (length-replicate jobs None ∙ sym (ap (λ (z : Sizes). z.jobs) c.args.domain.now.limited.1));
        jobs = λ j low. (
          (λ there. absurd (true≢false (sym (subst (λ (o : Option g.row.J.Denot). IsSome o)
              (ap (λ (t : List (Option g.row.J.Denot)). slice_index_or t j None) (c.in-Ok.ensures.jobs) ∙ blank-at jobs j) there)))),
          (λ waits. absurd (let e = ap (λ (xs : List WaitingItem). total (waits_in (slots_of (facts_of c.args.domain.now.table) + j)) xs) none in omega arith)),
        );
      },
      search rules,
    )

pub returns-clause-registered : goal.returns-clause-registered
returns-clause-registered g c = let taken = c.in-Ok-take_seat.ensures.taken in record {
  home = taken.home;
  gamma_is = search rules;
  limits = refl;
  place = search rules;
  reader = search rules;
  own = search rules;
  since = search rules;
  lone = search rules;
  tally = search rules;
  sizes = search rules;
  slots = taken.slots;
  shown = ap (λ (f : FractionsView). f.sees) taken.fractions;
  filled = ap (λ (f : FractionsView). f.filled) taken.fractions;
  words = search rules;
  due = search rules;
  jobs = c.in-Ok.ensures.jobs;
  collectors = c.in-Ok.ensures.privates;
}
