-- A participant is between calls after each step on a place of a job.
use Rattle.std.proofs.Common.{◌≡◌, ℕ, ◌+◌, ◌<◌, List, ◌∷◌, sym, ap, ◌∙◌, subst, arith}
use mathlib.Core.Logic.{dite}
use native.Mathlib.Decide.{ℕ_discrete}
use Rattle.atomic_table.specs.declared.shared.Seat.{Seat}
use Rattle.sdd_participants.specs.declared.waiting.LimboEntry.{LimboEntry}
use Rattle.sdd_participants.specs.declared.waiting.LimboEntry.TheVariants.{Job}
use Rattle.sdd_participants.specs.declared.participant.Participant.{Participant}
use Rattle.sdd_participants.specs.Waiting.{Waiting}
use Rattle.sdd_participants.specs.EpochState.{awaiting}
use Rattle.sdd_shared_values.specs.declared.value_fraction.ValueFraction.{ValueFraction}
use Rattle.sdd_rights.specs.declared.views.View.{View}
use Rattle.sdd_domain_invariant.specs.Sums.{total}
use Rattle.sdd_domain_invariant.specs.Slots.{waits_in}
use Rattle.sdd_domain_invariant.specs.Slots.SlotSteps.{retired_now, DefersAt, GivesBack}
use Rattle.sdd_domain_invariant.proofs.Sums.{is_other, total_snoc}
use Rattle.sdd_domain_invariant.specs.Fractions.FractionsAtHome.{CarriedFractions}
use Rattle.sdd_atomics.specs.TableFacts.{TableFacts, gamma_of, places_of, slots_of, most_waiting_of}
use Rattle.sdd_domain_steps.specs.InBags.{AreInBags, KnownWaiting}
use Rattle.sdd_domain_steps.specs.WaitingItems.{what_of}
use Rattle.sdd_domain_steps.specs.BetweenCalls.{CarriesSeenOnly, IsBetweenCalls}
use Rattle.sdd_domain_steps.proofs.InBags.{first_inside, first_once, job_plain, known_in}
use Rattle.sdd_domain_steps.proofs.Reclaims.{no_more, what_job}
use Rattle.sdd_domain_steps.proofs.BetweenCalls.{stirs, stirs_low}

module _ (b : TableFacts) (p : ℕ) (own : Participant) (s t : Seat ValueFraction View) (q : IsBetweenCalls b p own s) (table : t.table_id ≡ s.table_id)
    (others : t.me.1 ≡ s.me.1) (job : ℕ) where
  abbrev n : ℕ
  n = slots_of b

  -- what waits in the place is the job there
  pub what_there : (count : ℕ) → what_of n (retired_now (n + job) count) ≡ Job job
  what_there count = what_job n (retired_now (n + job) count) (omega arith) ∙ ap (λ (k : ℕ). Job k) (omega arith)

  -- the job waits
  pub between_calls_defers : n + job < most_waiting_of b → DefersAt (n + job) 4 s.me.0 t.me.0 → IsBetweenCalls b p (awaiting (Job job) own) t
  between_calls_defers inside d = subst (λ (v : View). IsBetweenCalls b p (awaiting (Job job) own) (record t { me = (v, t.me.1) })) (sym d.3) record {
    home = table ∙ q.home;
    carries = subst (λ (xs : CarriedFractions). CarriesSeenOnly (gamma_of b) (places_of b) p s.me.0.fractions.sees xs) (sym others) q.carries;
    seen = record { owns = q.seen.owns; sees = q.seen.sees; once = q.seen.once };
    unseen = q.unseen;
    rests = q.rests;
    all = q.all;
    place = q.place;
    inside = q.inside;
    count = q.count;
    closed = q.closed;
    opened = q.opened;
    near = λ some_open. let n = q.near some_open in
        record { count = n.count; since = (let since = n.since in let more = d.1 in omega arith); known = d.4 (q.opened some_open) };
    lone = λ some_open one. d.2 one ∙ q.lone some_open one;
    free = q.free;
    knows = q.knows;
    found = q.found;
    quiet = record {
      owns = q.quiet.owns;
      drawn = q.quiet.drawn;
      holds = q.quiet.holds;
      looked = q.quiet.looked;
      over = q.quiet.over;
      emptied = q.quiet.emptied;
      empties = q.quiet.empties;
      left = q.quiet.left;
    };
    pledges = q.pledges;
    rights = q.rights;
    waiting = λ i some_wait. dite (ℕ_discrete (n + job) i) (λ e. subst (λ (k : ℕ). k < most_waiting_of b) e inside)
        (λ ne. q.waiting i (let o = is_other i (n + job) ne in let t = total_snoc (waits_in i) s.me.0.slots.waits (retired_now (n + job) d.0) in omega arith));
    room = q.room;
    pace = stirs_low own.countdown q.pace;
    idle = λ e. absurd (stirs own.countdown e);
  }

  -- the job that was due first is taken out, and its place given back
  pub between_calls_takes : GivesBack (n + job) s.me.0 0 t.me.0 → IsBetweenCalls b p own t
  between_calls_takes e =
      subst (λ (v : View). IsBetweenCalls b p own (record t { me = (v, t.me.1) })) (sym e.0) record {
        home = table ∙ q.home;
        carries = subst (λ (xs : CarriedFractions). CarriesSeenOnly (gamma_of b) (places_of b) p s.me.0.fractions.sees xs) (sym others) q.carries;
        seen = record { owns = q.seen.owns; sees = q.seen.sees; once = q.seen.once };
        unseen = q.unseen;
        rests = q.rests;
        all = q.all;
        place = q.place;
        inside = q.inside;
        count = q.count;
        closed = q.closed;
        opened = q.opened;
        near = q.near;
        lone = q.lone;
        free = q.free;
        knows = q.knows;
        found = q.found;
        quiet = record {
          owns = q.quiet.owns;
          drawn = q.quiet.drawn;
          holds = q.quiet.holds;
          looked = q.quiet.looked;
          over = q.quiet.over;
          emptied = q.quiet.emptied;
          empties = q.quiet.empties;
          left = q.quiet.left;
        };
        pledges = q.pledges;
        rights = q.rights;
        waiting = λ i some_wait. q.waiting i (let m = no_more (n + job) i s.me.0.slots.waits in omega arith);
        room = q.room;
        pace = q.pace;
        idle = q.idle;
      }

module _ (n : ℕ) (known : KnownWaiting) (waiting : List Waiting) (taken : List LimboEntry) (t : AreInBags n known waiting taken) (job : ℕ)
    (rest : List LimboEntry) (first : taken ≡ Job job ∷ rest) where
  -- where a job is due before all others, its place is one of the places of jobs
  pub place_low : (jobs : ℕ) → ((i : ℕ) → 0 < total (waits_in i) known.plain → i < n + jobs) → job < jobs
  place_low jobs inside = let low = first_inside n known waiting taken t (Job job) rest first (n + jobs) inside (omega arith) in omega arith

  -- and it waits there
  pub waits_now : total (waits_in (n + job)) known.plain ≡ 1
  waits_now = let once = first_once n known waiting taken t (Job job) rest first in let both = known_in n known waiting taken t (n + job) in
      let none = job_plain n known waiting taken t job in omega arith
