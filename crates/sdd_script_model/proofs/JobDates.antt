-- When a job was deferred, after each step of a state; and that what runs was deferred before any guard was opened that is open
use Rattle.sdd_script_model.proofs.Words.{◌≡◌, ◌≢◌, ℕ, ◌<◌, Some, None, IsSome, length, inl, inr, sym, ap, ◌∙◌, subst, arith, Contains, IsTrue, cases_eq, length-set, length-replicate, Limits, Entries, IsEmptyAt, entry_at, is_open, Job, World, IsPlaceOf, place_at, deferred, opened, reclaims, IsWhole, WorldStep, defers, Val, holdings_of, ScriptState, OpenSince, BeginsLine, IsStart, job_date_at, opening_at, ParticipantsMatch, in_world, List, JobsHaveDates, KeepsRecentItems, WasDeferredUnder, IsSound, common_steps, slice_index}
use Rattle.sdd_world_model.specs.UnderGuards.CallsUnder.{none, more_calls}
use Rattle.sdd_world_model.proofs.JobsUnderGuards.{keeps-jobs-under-guards}
use Rattle.sdd_script_model.proofs.ParticipantsMatch.{entry-before}
use Rattle.sdd_script_model.proofs.Deferred.{runs-taken, table-long, taken-before}
use Rattle.sdd_script_model.proofs.Entry.{at-other, at-blank}
use Rattle.sdd_script_model.proofs.KeptUnderGuards.{WereOpen}
use Rattle.sdd_script_model.specs.ScriptState as state
use Rattle.sdd_script_model.proofs.KeptUnderGuards as kept

-- it is so after a call that leaves the guard open
pub under-call : (v w : World Val) (p k : ℕ) → WasDeferredUnder v p k → WorldStep holdings_of v w → IsTrue (is_open (place_at w p)) → WasDeferredUnder w p k
under-call v w p k was call o =
    let calls = more_calls (deferred was.before was.holder k) v w was.calls call o in
    record { before = was.before; whole = was.whole; guarded = was.guarded; holder = was.holder; live = was.live; free = was.free; calls = calls }

-- what was deferred under a guard stays so
abbrev pub KeepsUnder : World Val → World Val → Type 0
KeepsUnder v w = (p k : ℕ) → IsTrue (is_open (place_at w p)) → WasDeferredUnder v p k → WasDeferredUnder w p k

module _ (d new : ScriptState) (jobs : JobsHaveDates d) (dates : new.job_dates ≡ d.job_dates) (moment : new.moment ≡ d.moment) where
  module _ (were : WereOpen d new) (same : new.world.jobs ≡ d.world.jobs) where
    -- no job is deferred
    pub by-keeping : KeepsUnder d.world new.world → JobsHaveDates new
    by-keeping keeps = record {
      kept = λ n k x there o some since.
          let before = were n x there o in
          let was = subst (λ (js : Entries _). IsSome (entry_at js k)) same some in
          keeps x.place k o (jobs.kept n k x before.0 before.1 was (omega (arith, since, ap (λ ds. slice_index ds k) dates)));
      early = λ k. omega (arith, jobs.early k, ap (λ ds. slice_index ds k) dates, moment);
      long = ap length dates ∙ jobs.long ∙ sym (ap length same);
    }

    -- one call, which defers none
    pub job_dates-call : WorldStep holdings_of d.world new.world → JobsHaveDates new
    job_dates-call call = by-keeping (λ p k o was. under-call d.world new.world p k was call o)

-- a job is deferred, in place k of the table, in this line
module _ (d : ScriptState) (jobs : JobsHaveDates d) (whole : IsWhole d.world) (p k : ℕ) (live : IsPlaceOf d.world p) (free : IsEmptyAt d.world.jobs k) where
  abbrev with_one : ScriptState
  with_one = in_world (state.with_job d k) (deferred d.world p k)

  date-other : (m : ℕ) → m ≢ k → job_date_at with_one m ≡ job_date_at d m
  date-other m apart = at-other d.job_dates k m d.moment 0 apart

  pub job_dates-deferred : WereOpen d with_one → JobsHaveDates with_one
  job_dates-deferred were = record {
    kept = λ n m x there o some since.
        let before = were n x there o in
        elim (cases_eq m k) [
          | inl same ↦
              let calls = none (deferred d.world p k) o in
              subst (WasDeferredUnder with_one.world x.place) (sym same)
              (record { before = d.world; whole = whole; guarded = before.1; holder = p; live = live; free = free; calls = calls })
          | inr apart ↦
              let taken = rw (at-other d.world.jobs k m (Some tt) None apart) at some in
              let was = jobs.kept n m x before.0 before.1 taken (omega (arith, since, date-other m apart)) in
              under-call d.world with_one.world x.place m was (defers d.world p k live free) o
        ];
    early = λ m. let was = jobs.early m in grind (arith, common_steps);
    long = length-set d.job_dates k d.moment ∙ jobs.long ∙ sym (length-set d.world.jobs k (Some tt));
  }

-- participant n opens a guard at its place, in a line after all dates
module _ (d : ScriptState) (jobs : JobsHaveDates d) (a : ParticipantsMatch d) (items : KeepsRecentItems d) (whole : IsWhole d.world) (earlier : BeginsLine d)
    (n : ℕ) (x : OpenSince) (there : opening_at d.places n ≡ Some x) (dates : List ℕ) where
  abbrev with_guard : ScriptState
  with_guard = record (in_world (state.with_guard d n x.place) (opened holdings_of d.world x.place)) { dates = dates }

  live : IsPlaceOf d.world x.place
  live = a.inside n x there

  pub job_dates-opened : JobsHaveDates with_guard
  job_dates-opened = record {
    kept = λ m k y entry o some since.
        elim (entry-before d a n x there (is_open (place_at d.world x.place)) m y entry) [
          | inl old ↦
              let open_before = kept.open-before d a items whole earlier n x there dates m y old.0 old.1 o in
              let under = jobs.kept m k y old.0 open_before (taken-before d.world x.place whole live k some) since in
              under-call d.world with_guard.world y.place k under (kept.call d a items whole earlier n x there dates) o
          | inr own ↦ absurd (omega (arith, since, earlier.job_dates k, ap (λ (z : OpenSince). z.since) own.1))
        ];
    early = jobs.early;
    long = jobs.long ∙ sym (table-long d.world x.place whole live);
  }

-- nobody is there, and no line was so far
pub job_dates-start : {limits : Limits} (d : ScriptState) → IsStart limits d → JobsHaveDates d
job_dates-start {limits} d start = record {
  kept = λ n k x there o some since. absurd (let never : None ≡ Some x = sym (ap (λ ps. opening_at ps n) start.places) ∙ there in cc);
  early = λ k. omega (arith, ap (λ ds. slice_index ds k) start.job_dates, at-blank {E = ℕ} 0 limits.jobs k);
  long = ap length start.job_dates ∙ length-replicate limits.jobs 0 ∙ sym (ap length start.world.jobs ∙ length-replicate limits.jobs None);
}

-- what an opening runs was deferred before any guard was opened that is open
pub not-run-under : (d : ScriptState) (s : IsSound d) → IsWhole d.world → (p k : ℕ) → IsPlaceOf d.world p → Contains (reclaims d.world p) (Job k) →
    (g : ℕ) (y : OpenSince) → opening_at d.guards g ≡ Some y → job_date_at d k < y.since
not-run-under d s whole p k live c g y guard =
    kept.since-before d s g y guard (job_date_at d k) (λ n x there o since.
    let under = s.jobs.kept n k x there o (runs-taken d.world p whole live k c) since in
    let law = keeps-jobs-under-guards holdings_of under.before under.whole x.place under.holder k under.guarded under.live under.free in
    (law d.world under.calls).not_due p live c)
