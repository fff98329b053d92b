-- A participant is between calls once it closes a collector, and once it does no more
use Rattle.std.proofs.Common.{◌≡◌, ◌∙◌, ℕ, List, [], Option, None, sym, subst}
use Rattle.atomic_table.specs.declared.shared.Seat.{Seat}
use Rattle.sdd_participants.specs.Waiting.{Waiting}
use Rattle.sdd_participants.specs.declared.participant.Participant.{Participant}
use Rattle.sdd_shared_values.specs.declared.value_fraction.ValueFraction.{ValueFraction}
use Rattle.sdd_rights.specs.declared.views.View.{View}
use Rattle.sdd_atomics.specs.TableFacts.{TableFacts, gamma_of, places_of}
use Rattle.sdd_atomics.specs.DomainSeat.{view}
use Rattle.sdd_domain_invariant.specs.Fractions.FractionsAtHome.{CarriedFractions}
use Rattle.sdd_domain_steps.specs.BetweenCalls.{CarriesSeenOnly, IsBetweenCalls}

-- which collector it closes is another one, and at how many places it has looked for that
pub between_calls_closing : (b : TableFacts) (p : ℕ) (own : Participant) (s u : Seat ValueFraction View) (closes : Option ℕ) (looked : ℕ)
    → IsBetweenCalls b p own s
    → u.table_id ≡ s.table_id → u.me.1 ≡ s.me.1 → view u ≡ record (view s) { slots = record (view s).slots { closes = closes; looked = looked } }
    → (closes ≡ None → looked ≡ 0) → IsBetweenCalls b p own u
between_calls_closing b p own s u closes looked q table others is none = subst (λ (w : View). IsBetweenCalls b p own (record u {
  me = (
    w,
    u.me.1,
  );
})) (sym is) record {
  home = table ∙ q.home;
  carries = subst (λ (xs : CarriedFractions). CarriesSeenOnly (gamma_of b) (places_of b) p s.me.0.fractions.sees xs) (sym others) q.carries;
  seen = record { owns = q.seen.owns; sees = q.seen.sees; once = q.seen.once };
  unseen = q.unseen;
  rests = q.rests;
  all = q.all;
  place = q.place;
  inside = q.inside;
  count = q.count;
  closed = q.closed;
  opened = q.opened;
  near = q.near;
  lone = q.lone;
  free = q.free;
  knows = q.knows;
  found = q.found;
  quiet = record {
    owns = q.quiet.owns;
    drawn = q.quiet.drawn;
    holds = q.quiet.holds;
    looked = none;
    over = q.quiet.over;
    emptied = q.quiet.emptied;
    empties = q.quiet.empties;
    left = q.quiet.left;
  };
  pledges = q.pledges;
  rights = q.rights;
  waiting = q.waiting;
  room = q.room;
  pace = q.pace;
  idle = q.idle;
}

-- less is in its bags
pub between_calls_lighter : (b : TableFacts) (p : ℕ) (own : Participant) (left : List Waiting) (s : Seat ValueFraction View) → IsBetweenCalls b p own s
    → (own.bags.waiting ≡ [] → left ≡ []) → IsBetweenCalls b p (record own { bags = record own.bags { waiting = left } }) s
between_calls_lighter b p own left s q none = record {
  home = q.home;
  carries = q.carries;
  seen = q.seen;
  unseen = q.unseen;
  rests = q.rests;
  all = q.all;
  place = q.place;
  inside = q.inside;
  count = q.count;
  closed = q.closed;
  opened = q.opened;
  near = q.near;
  lone = q.lone;
  free = q.free;
  knows = q.knows;
  found = q.found;
  quiet = q.quiet;
  pledges = q.pledges;
  rights = q.rights;
  waiting = q.waiting;
  room = q.room;
  pace = q.pace;
  idle = λ shut. none (q.idle shut);
}
