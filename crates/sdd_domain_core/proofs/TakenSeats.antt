-- A newcomer whose seat has taken its place is between calls
use Rattle.std.proofs.Common.{rules, ◌≡◌, ℕ, refl, sym, ap, ◌∙◌, subst}
use Rattle.sdd_rights.specs.declared.views.EpochView.{EpochView}
use Rattle.sdd_rights.specs.declared.views.FractionsView.{FractionsView}
use Rattle.sdd_rights.specs.declared.views.PledgesView.{PledgesView}
use Rattle.sdd_participants.specs.declared.participant.Participant.{Participant}
use Rattle.sdd_participants.specs.EpochState.{newcomer}
use Rattle.sdd_domain_invariant.specs.Epoch.EpochSteps.{registered, counted}
use Rattle.sdd_atomics.specs.SeatAtTable.{DomainSeat}
use Rattle.sdd_atomics.specs.TableFacts.{TableFacts, places_of, most_waiting_of}
use Rattle.sdd_domain_steps.specs.BetweenCalls.{IsBetweenCalls}
use Rattle.sdd_domain_steps.proofs.MovedValues.{carries_nothing}
use Rattle.sdd_domain_core.specs.TakenSeat.{IsTakenAt}

pub between_calls : (b : TableFacts) (p : ℕ) (own : Participant) (seat : DomainSeat) → IsTakenAt b p seat → own ≡ newcomer (most_waiting_of b) →
    IsBetweenCalls b p own seat
between_calls b p own seat t is =
    let e : seat.me.0.epoch ≡ counted (registered (places_of b) p t.epoch.1.0 t.epoch.1.1) 0 = t.epoch.2 ∙ ap (λ (v : EpochView). counted v 0) t.epoch.1.2 in
    subst (λ (x : Participant). IsBetweenCalls b p x seat) (sym is) (record {
      home = t.home;
      carries = carries_nothing _ _ _ _ _ (ap (λ (f : FractionsView). f.sees) t.fractions) t.carried;
      seen = search rules;
      unseen = λ none. ap (λ (f : FractionsView). f.sees) t.fractions;
      rests = ap (λ (f : FractionsView). f.moves) t.fractions;
      all = ap (λ (v : EpochView). v.all) e;
      place = ap (λ (v : EpochView). v.place) e;
      inside = t.inside;
      count = ap (λ (v : EpochView). v.count) e;
      closed = search rules;
      opened = search rules;
      near = search rules;
      lone = search rules;
      free = search rules;
      knows = search rules;
      found = ap (λ (v : EpochView). v.found) e;
      quiet = search rules;
      pledges = ap (λ (g : PledgesView). g.own) t.pledges;
      rights = t.cells;
      waiting = search rules;
      room = refl;
      pace = search rules;
      idle = λ idle. refl;
    })
