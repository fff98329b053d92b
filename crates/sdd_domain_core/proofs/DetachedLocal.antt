-- A participant that took no part is between calls as it was where it takes part in its domain again
use Rattle.std.proofs.Common.{◌≡◌, ◌↔◌, ℕ, ◌+◌, ◌<◌, List, None, slice_index_or, ap, ◌∙◌, subst}
use Rattle.std.specs.Prelude.{Option, IsSome}
use Rattle.atomic_table.specs.declared.shared.Seat.{Seat}
use Rattle.sdd_participants.specs.declared.participant.Participant.{Participant}
use Rattle.sdd_shared_values.specs.declared.value_fraction.ValueFraction.{ValueFraction}
use Rattle.sdd_rights.specs.declared.views.View.{View}
use Rattle.sdd_rights.specs.declared.views.Sizes.{Sizes}
use Rattle.sdd_domain_invariant.specs.Words.{most_waiting}
use Rattle.sdd_domain_invariant.specs.Sums.{total}
use Rattle.sdd_domain_invariant.specs.Slots.{waits_in}
use Rattle.sdd_atomics.specs.TableFacts.{TableFacts, id_of, sizes_of, gamma_of}
use Rattle.sdd_domain_steps.specs.DueItems.{Pending}
use Rattle.sdd_domain_steps.specs.InBags.{AreInBags, KnownWaiting, TellsCollectors}
use Rattle.sdd_domain_steps.specs.BetweenCalls.{CarriesSeenOnly, IsBetweenCalls, AgreesWithView}

-- two tables of the same words, sizes and ghost map
module _ (b d : TableFacts) (ids : id_of b ≡ id_of d) (sizes : sizes_of b ≡ sizes_of d) (gamma : gamma_of b ≡ gamma_of d) where
  pub between_calls_on : (p : ℕ) (own : Participant) (s : Seat ValueFraction View) → IsBetweenCalls b p own s → IsBetweenCalls d p own s
  between_calls_on p own s q = record {
    home = q.home ∙ ids;
    carries = subst (λ (z : ℕ × Sizes). CarriesSeenOnly z.0 z.1.participants p s.me.0.fractions.sees s.me.1) (λ k. (gamma k, sizes k)) q.carries;
    seen = q.seen;
    unseen = q.unseen;
    rests = q.rests;
    all = q.all ∙ ap (λ (z : Sizes). z.participants) sizes;
    place = q.place;
    inside = subst (λ (z : Sizes). p < z.participants) sizes q.inside;
    count = q.count;
    closed = q.closed;
    opened = q.opened;
    near = q.near;
    lone = q.lone;
    free = q.free;
    knows = (q.knows.0 ∙ sizes, q.knows.1 ∙ gamma);
    found = q.found;
    quiet = q.quiet;
    pledges = q.pledges;
    rights = q.rights;
    waiting = λ i some_wait. subst (λ (z : Sizes). i < most_waiting z) sizes (q.waiting i some_wait);
    room = q.room ∙ ap most_waiting sizes;
    pace = q.pace;
    idle = q.idle;
  }

  pub ready_on : {J : Type 0} (own : Participant) (pending : Pending) (known : ℕ) (table : List (Option J)) (collectors : List (Option ℕ))
      (waits : KnownWaiting) → AgreesWithView b own pending known table collectors waits → AgreesWithView d own pending known table collectors waits
  ready_on own pending known table collectors waits r = record {
    bags = subst (λ (z : Sizes). AreInBags z.slots waits own.bags.waiting pending.items) sizes r.bags;
    told = subst (λ (z : Sizes). TellsCollectors z.slots collectors waits.private) sizes r.told;
    large = r.large;
    slots = r.slots ∙ ap (λ (z : Sizes). z.slots) sizes;
    places = r.places ∙ ap (λ (z : Sizes). z.jobs) sizes;
    jobs = subst (λ (z : Sizes). (j : ℕ) → j < z.jobs → IsSome (slice_index_or table j None) ↔ (0 < total (waits_in (z.slots + j)) waits.plain)) sizes r.jobs;
  }
