-- The names of the jobs that wait, after each call; and which of them an opening runs
use Rattle.sdd_script_model.proofs.Words.{IsPermutation, IsNonDecreasingBy, IsStrictlyIncreasing, Contains-get_or, get_or-le-sum_by, due_next, nobody, owner_given, cell_closed, given_all, opened, is_of_job, jobs_with, IsPlaceOf, runs-once, how, before, keeps-owner_given, keeps-given_all, JobName, ScriptState, WaitsAt, job_in, places_among, length-all_reclaimed, listed-aged, keeps-cell_closed, ◌≡◌, ℕ, ◌+◌, ◌<◌, ◌≤◌, ◌==◌, ◌↔◌, List, Option, Some, None, IsSome, is_some, map, length, count_by, slice_index_or, slice_set, inl, inr, refl, sym, ap, ◌∙◌, arith, All, Contains, Entries, IsEmptyAt, entry_at, with_entry, LimboEntry, Job, Standing, reclaims, IsWhole, OwnerOrCell, World, place_at, standing_at, Val, holdings_of, AreDeferred, IsSound, common_steps, one_where, place_waiting}
use Rattle.sdd_world_model.specs.Jobs.{RunsJobsOnce}
use Rattle.std.proofs.lemmas.List.Concat.{flat_map_single}
use Rattle.sdd_script_model.proofs.Entry.{inside, not-free}
use Rattle.sdd_script_model.proofs.ReclaimedSlots.{names-told, once-bound, times_in, comes-once, chosen-are}
use Rattle.sdd_world_model.specs.WorldChanges as steps

-- ---- what changes no job

module _ (w : World Val) (p : ℕ) where
  pub jobs-given : (k : ℕ) (x : Option Standing) → standing_at w k ≡ x → (owner_given w p k x).jobs ≡ w.jobs
  jobs-given k x is = keeps-owner_given p (λ (u : World Val). u.jobs ≡ w.jobs) (λ u j out e. e) (λ u c e. e) (λ u j n m at e. e) w k x is refl

  pub jobs-closed : (c : ℕ) → (cell_closed w p c).jobs ≡ w.jobs
  jobs-closed c = keeps-cell_closed p (λ (u : World Val). u.jobs ≡ w.jobs) (λ u j out e. e) (λ u b e. e) (λ u j n m at e. e) w c refl

  pub jobs-given_all : (hs : List OwnerOrCell) → (given_all w p hs).jobs ≡ w.jobs
  jobs-given_all hs = keeps-given_all p (λ (u : World Val). u.jobs ≡ w.jobs) (λ u j out e. e) (λ u c e. e) (λ u j n m at e. e) w hs refl

-- ---- a job is deferred, in place k of the table

module _ (jobs : ℕ) (names : List ℕ) (table : Entries (Unit {0})) (k : ℕ) (free : IsEmptyAt table k) (all : AreDeferred jobs names table) where
  abbrev now : List ℕ
  now = slice_set names k jobs

  abbrev taken : Entries (Unit {0})
  taken = with_entry table k tt

  pub deferred-more : AreDeferred (jobs + 1) now taken
  deferred-more = grind (arith, common_steps)

-- ---- a guard is opened

module _ (w : World Val) (p : ℕ) (whole : IsWhole w) (live : IsPlaceOf w p) where
  law : RunsJobsOnce holdings_of w
  law = runs-once holdings_of w whole.jobs_once

  -- what runs was there
  pub runs-taken : (k : ℕ) → Contains (reclaims w p) (Job k) → IsSome (entry_at w.jobs k)
  runs-taken k c = (law.runs p k live c).0

  -- a place that is taken after an opening was taken before
  pub taken-before : (k : ℕ) → IsSome (entry_at (opened holdings_of w p).jobs k) → IsSome (entry_at w.jobs k)
  taken-before k some = by (entry_at w.jobs k) refl where
    by : (x : Option (Unit {0})) → entry_at w.jobs k ≡ x → IsSome x
    by (Some u) is = refl
    by None is =
        let kept = law.keeps p k live (λ c. not-free (entry_at w.jobs k) (runs-taken k c) is) in
        absurd (not-free (entry_at (opened holdings_of w p).jobs k) some (kept ∙ is))

  pub table-long : length (opened holdings_of w p).jobs ≡ length w.jobs
  table-long =
      let due = due_next (place_at (steps.nested w p) p) in
      elim (how holdings_of w p live.0) [
        | inl n ↦ ap (λ (u : World Val). length u.jobs) n.nests
        | inr c ↦ ap (λ (u : World Val). length u.jobs) c.change ∙ length-all_reclaimed holdings_of (before holdings_of w p) p due
      ]

  pub deferred-opened : (jobs : ℕ) (names : List ℕ) → AreDeferred jobs names w.jobs → AreDeferred jobs names (opened holdings_of w p).jobs
  deferred-opened jobs names all = record {
    named = λ k some. all.named k (taken-before k some);
    apart = λ k m some other same. all.apart k m (taken-before k some) (taken-before m other) same;
    long = all.long ∙ sym table-long;
  }

  -- no job runs twice
  job-once : (k : ℕ) → count_by (is_of_job k) (reclaims w p) ≤ 1
  job-once k =
      let aged = listed-aged (is_of_job k) (place_at w p).bags.waiting in
      let one = get_or-le-sum_by (jobs_with k) w.time.places p nobody live.0 in
      let all = whole.jobs_once k in
      let bound = once-bound (is_some (entry_at w.jobs k)) in
      grind arith

-- ---- the names that an opening answers

place-of : (x : LimboEntry) (k : ℕ) → Contains (place_waiting x) k → x ≡ Job k
place-of x k c = grind (arith, common_steps)

place-once : (x : LimboEntry) (k : ℕ) → times_in k (place_waiting x) ≤ one_where (is_of_job k x)
place-once x k = grind (arith, common_steps)

abbrev number : JobName → ℕ
number j = j.0

module _ (d : ScriptState) (s : IsSound d) (whole : IsWhole d.world) (p : ℕ) (live : IsPlaceOf d.world p) where
  abbrev places : List ℕ
  places = places_among (reclaims d.world p)

  places-are : (k : ℕ) → Contains places k ↔ Contains (reclaims d.world p) (Job k)
  places-are = chosen-are place_waiting Job (λ k. (0, omega arith, refl)) place-of (reclaims d.world p)

  place-taken : (k : ℕ) → Contains places k → IsSome (entry_at d.world.jobs k)
  place-taken k c = runs-taken d.world p whole live k ((places-are k).0 c)

  -- each of them has a name
  pub places-inside : All (λ k. k < length d.deferred) places
  places-inside n e lt =
      let taken = place-taken (slice_index_or places n e) (Contains-get_or places n e lt) in omega (arith, inside d.world.jobs _ taken, s.deferred.long)

  -- what is answered rises, and names exactly the jobs that run
  pub names-run : (sorted : List JobName) → IsPermutation (map (job_in d.deferred) places) sorted → IsNonDecreasingBy (λ (j : JobName). j.0) sorted →
      IsStrictlyIncreasing (map (λ (j : JobName). j.0) sorted)
      × ((j : JobName) → Contains sorted j ↔ ((k : ℕ) × WaitsAt d j.0 k × Contains (reclaims d.world p) (Job k)))
  names-run sorted moved up =
      let times = λ (k : ℕ). comes-once place_waiting (λ m. m == k) (is_of_job k) (reclaims d.world p) (λ x c. place-once x k) in
      let answered = names-told number (record { 0 = 0 }) (λ k. Some (job_in d.deferred k)) places
      (λ k. omega (arith, job-once d.world p whole live k, times k)) apart-places (map (job_in d.deferred) places) sorted
      (sym (flat_map_single (job_in d.deferred) places)) moved up in (
        answered.0,
        (λ j. (
          (λ c. let from = (answered.1 j).0 c in
              (from.0, record { last = ap number (its-name from.0 j from.2); taken = place-taken from.0 from.1 }, (places-are from.0).0 from.1)),
          (λ h. (answered.1 j).1 (h.0, (places-are h.0).1 h.2, ap (λ n. let i : JobName = record j { 0 = n } in Some i) h.1.last)),
        )),
      ) where
        its-name : (k : ℕ) (j : JobName) → Some (job_in d.deferred k) ≡ Some j → job_in d.deferred k ≡ j
        its-name k j told = cc

        apart-places : (k m : ℕ) (i j : JobName) → Contains places k → Contains places m → Some (job_in d.deferred k) ≡ Some i →
            Some (job_in d.deferred m) ≡ Some j → number i ≡ number j → k ≡ m
        apart-places k m i j c e is it same =
            s.deferred.apart k m (place-taken k c) (place-taken m e) (ap number (its-name k i is) ∙ same ∙ sym (ap number (its-name m j it)))
