-- A job waits once exactly where a place of the table of jobs is taken, after each step
use Rattle.std.proofs.Common.{◌≡◌, ◌≢◌, ◌⊎◌, inl, inr, ℕ, ◌+◌, ◌<◌, ◌≤◌, List, [], ◌∷◌, length, Bool, cond, refl, sym, ap, subst, ◌∙◌, arith, true, false, zero, suc, Some, None, Option, count_by}
use Rattle.std.specs.Prelude.{◌==◌, Contains, IsSome, is_some}
use Rattle.std.proofs.lemmas.List.{length-map, length-set, get_or-set_same, get_or-set_other}
use Rattle.std.proofs.lemmas.List.Sums.{get_or-le-sum_by}
use Rattle.std.proofs.lemmas.Bool.Decides.{nat_tests}
use Rattle.sdd_participants.proofs.Adoptions.{same-or-not}
use Rattle.sdd_participants.specs.declared.waiting.LimboEntry.{LimboEntry}
use Rattle.sdd_participants.specs.declared.waiting.LimboEntry.TheVariants.{Item, Job}
use Rattle.sdd_participants.specs.EpochState.{EpochState, with_place, nobody, due_next}
use Rattle.sdd_participants.specs.EpochState as time
use Rattle.sdd_participants.specs.Slab.{Entries, IsEmptyAt, entry_at, without_entry}
use Rattle.sdd_participants.specs.declared.participant.Participant.{Participant}
use Rattle.sdd_participants.specs.declared.standing.Standing.{Standing}
use Rattle.sdd_participants.specs.declared.standing.Standing.TheVariants.{Retired}
use Rattle.sdd_world_model.specs.World.{World, place_at, standing_at, value_at}
use Rattle.sdd_participants.specs.Collecting.{without}
use Rattle.sdd_world_model.specs.Collecting.{collector_closed, is_for, waiting_for, without_collector}
use Rattle.sdd_world_model.specs.WorldChanges.{deferred, waiting_as, retired, reclaims, cell_closed, owner_given, given_all, freed, vacated, dropped_out, dropped, taken_out, waiting_value, reclaimed, all_reclaimed, changed}
use Rattle.sdd_world_model.specs.WorldChanges as steps
use Rattle.sdd_world_model.specs.OwnerOrCell.{OwnerOrCell}
use Rattle.sdd_world_model.specs.WorldInvariant.{is_of_job, jobs_with, once_if, times_deferred}
use Rattle.sdd_world_model.specs.Out.{is_out}
use Rattle.sdd_world_model.specs.Jobs.{RunsJobsOnce}
use Rattle.sdd_world_model.proofs.TimesListed.{count-cons, listed-place, listed-same, listed-awaiting, listed-aged, listed-without}
use Rattle.sdd_world_model.proofs.GuardOpened.{how, Nests, IsChange, before, due-here, none-here, keeps-owner_given, keeps-cell_closed, keeps-given_all}

job-inside : (js : Entries (Unit {0})) (n : ℕ) → is_some (entry_at js n) ≡ true → n < length js
job-inside [] n e = absurd (cc)
job-inside (x ∷ js) zero e = omega arith
job-inside (x ∷ js) (suc n) e = omega (arith, job-inside js n e)

once-true : (b : Bool) → 1 ≤ once_if b → b ≡ true
once-true true h = refl
once-true false h = absurd (omega (arith, h))

module _ {T : Type 0} where
  abbrev pub JobsOnce : World T → Type 0
  JobsOnce w = (j : ℕ) → times_deferred w j ≡ once_if (is_some (entry_at w.jobs j))

  -- and these are to be reclaimed yet
  abbrev JobsOnceBut : List LimboEntry → World T → Type 0
  JobsOnceBut xs w = (j : ℕ) → times_deferred w j + count_by (is_of_job j) xs ≡ once_if (is_some (entry_at w.jobs j))

  none-yet : (w : World T) → JobsOnce w → JobsOnceBut [] w
  none-yet w i j = omega (arith, i j)

  no-more : (w : World T) → JobsOnceBut [] w → JobsOnce w
  no-more w i j = omega (arith, i j)

  -- what is given up to a place are items alone, and the table is as before
  module _ (p : ℕ) (xs : List LimboEntry) where
    abbrev HasOnce : World T → Type 0
    HasOnce w = (p < length w.time.places) × JobsOnceBut xs w

    waits-once : (w : World T) (k : ℕ) (s : Standing) → HasOnce w → HasOnce (waiting_as w p k s)
    waits-once w k s h =
        let x : Participant = time.awaiting (Item k) (place_at w p) in (
          omega (arith, h.0, length-set w.time.places p x),
          λ j. omega (arith, h.1 j, listed-place (is_of_job j) w.time p x h.0, listed-awaiting (is_of_job j) (Item k) (place_at w p)),
        )

    retires-once : (w : World T) (k : ℕ) → is_out (standing_at w k) ≡ true → HasOnce w → HasOnce (retired w p k)
    retires-once w k out h = waits-once w k Retired h

    once-given_all : (w : World T) (hs : List OwnerOrCell) → HasOnce w → HasOnce (given_all w p hs)
    once-given_all w hs h = keeps-given_all p HasOnce retires-once (λ u c i. i) (λ u k n m is i. i) w hs h

    module _ (holds : T → List OwnerOrCell) where
      once-taken_out : (w : World T) (k : ℕ) (v : Option T) → HasOnce w → HasOnce (taken_out holds w p k v)
      once-taken_out w k None h = h
      once-taken_out w k (Some v) h = once-given_all (freed w k) (holds v) h

      once-dropped_out : (w : World T) (k : ℕ) (v : Option T) → HasOnce w → HasOnce (dropped_out holds w p k v)
      once-dropped_out w k None h = h
      once-dropped_out w k (Some v) h = once-given_all (vacated w k) (holds v) h

  module _ (holds : T → List OwnerOrCell) where
    -- a job ran, and its place is free
    ran-once : (w : World T) (n j : ℕ) (xs : List LimboEntry) → JobsOnceBut (Job n ∷ xs) w → (j ≡ n) ⊎ (j ≢ n) →
        times_deferred w j + count_by (is_of_job j) xs ≡ once_if (is_some (entry_at (without_entry w.jobs n) j))
    ran-once w n j xs i (inl e) = here-once (is_some (entry_at w.jobs n)) refl where
      same-test : (n == n) ≡ true
      same-test = grind (arith, nat_tests)

      all : times_deferred w n + count_by (is_of_job n) (Job n ∷ xs) ≡ once_if (is_some (entry_at w.jobs n))
      all = i n

      head : count_by (is_of_job n) (Job n ∷ xs) ≡ 1 + count_by (is_of_job n) xs
      head = count-cons (is_of_job n) (Job n) xs ∙ rw same-test refl

      here-once : (b : Bool) → is_some (entry_at w.jobs n) ≡ b →
          times_deferred w j + count_by (is_of_job j) xs ≡ once_if (is_some (entry_at (without_entry w.jobs n) j))
      here-once true there =
          let now : entry_at (without_entry w.jobs n) n ≡ None = get_or-set_same w.jobs n None None (job-inside w.jobs n there) in
          rw (e, now) (omega (arith, rw there at all, head))
      here-once false there = absurd (omega (arith, rw there at all, head))
    ran-once w n j xs i (inr apart) =
        let other : entry_at (without_entry w.jobs n) j ≡ entry_at w.jobs j = get_or-set_other w.jobs n j None None apart in
        let test : (n == j) ≡ false = grind (arith, nat_tests) in
        let head : count_by (is_of_job j) (Job n ∷ xs) ≡ 0 + count_by (is_of_job j) xs = count-cons (is_of_job j) (Job n) xs ∙ rw test refl in
        rw other (omega (arith, i j, head))

    once-reclaimed : (w : World T) (p : ℕ) (x : LimboEntry) (xs : List LimboEntry) → HasOnce p (x ∷ xs) w → HasOnce p xs (reclaimed holds w p x)
    once-reclaimed w p (Item k) xs h =
        once-taken_out p xs holds w k (waiting_value w k (standing_at w k)) (h.0, λ j. omega (arith, h.1 j, count-cons (is_of_job j) (Item k) xs))
    once-reclaimed w p (Job n) xs h = (h.0, λ j. ran-once w n j xs h.1 (same-or-not j n))

    once-all_reclaimed : (w : World T) (p : ℕ) (xs : List LimboEntry) → HasOnce p xs w → HasOnce p [] (all_reclaimed holds w p xs)
    once-all_reclaimed w p [] h = h
    once-all_reclaimed w p (x ∷ xs) h = once-all_reclaimed (reclaimed holds w p x) p xs (once-reclaimed w p x xs h)

  -- only a place changed, and nothing that waits there
  pub once-place : (w : World T) (p : ℕ) (x : Participant) → p < length w.time.places → x.bags.waiting ≡ (place_at w p).bags.waiting → JobsOnce w →
      JobsOnce (record w { time = with_place w.time p x })
  once-place w p x l e i j = listed-same (is_of_job j) w.time p x l e ∙ i j

  once-rotated : (w : World T) (p : ℕ) → p < length w.time.places → JobsOnce w → JobsOnceBut (due_next (place_at w p)) (steps.rotated w p)
  once-rotated w p l i j =
      omega (
        arith,
        i j,
        listed-place (is_of_job j) w.time p (time.rotated w.time.count (place_at w p)) l,
        listed-aged (is_of_job j) (place_at w p).bags.waiting,
      )

  pub once-changed : (holds : T → List OwnerOrCell) (w : World T) (p : ℕ) → p < length w.time.places → JobsOnce w → JobsOnce (changed holds w p)
  once-changed holds w p l i =
      let start = steps.rotated w p in
      let due = due_next (place_at w p) in
      let in_start : p < length start.time.places = omega (arith, l, length-set w.time.places p (time.rotated w.time.count (place_at w p))) in
      let end = all_reclaimed holds start p due in
      let all = once-all_reclaimed holds start p due (in_start, once-rotated w p l i) in
      once-place end p (time.settled (place_at end p)) all.0 refl (no-more end all.1)

  pub once-nested : (w : World T) (p : ℕ) → p < length w.time.places → JobsOnce w → JobsOnce (steps.nested w p)
  once-nested w p l i = once-place w p (time.nested (place_at w p)) l refl i

  pub once-changes_nested : (holds : T → List OwnerOrCell) (w : World T) (p : ℕ) → p < length w.time.places → JobsOnce w →
      JobsOnce (changed holds (steps.nested w p) p)
  once-changes_nested holds w p l i =
      once-changed holds (steps.nested w p) p (omega (arith, l, length-set w.time.places p (time.nested (place_at w p)))) (once-nested w p l i)

  once-opened-how : (holds : T → List OwnerOrCell) (w : World T) (p : ℕ) → p < length w.time.places → JobsOnce w → Nests holds w p ⊎ IsChange holds w p →
      JobsOnce (steps.opened holds w p)
  once-opened-how holds w p l i (inl n) = subst (λ (u : World T). JobsOnce u) (sym n.nests) (once-nested w p l i)
  once-opened-how holds w p l i (inr c) = subst (λ (u : World T). JobsOnce u) (sym c.change) (once-changes_nested holds w p l i)

  pub once-opened : (holds : T → List OwnerOrCell) (w : World T) (p : ℕ) → p < length w.time.places → JobsOnce w → JobsOnce (steps.opened holds w p)
  once-opened holds w p l i = once-opened-how holds w p l i (how holds w p l)

  pub once-owner_given : (w : World T) (p k : ℕ) → p < length w.time.places → (s : Option Standing) → standing_at w k ≡ s → JobsOnce w →
      JobsOnce (owner_given w p k s)
  once-owner_given w p k l s is i =
      no-more (owner_given w p k s)
      (keeps-owner_given p (HasOnce p []) (retires-once p []) (λ u c h. h) (λ u k n m is h. h) w k s is (l, none-yet w i)).1

  pub once-cell_closed : (w : World T) (p c : ℕ) → p < length w.time.places → JobsOnce w → JobsOnce (cell_closed w p c)
  once-cell_closed w p c l i =
      no-more (cell_closed w p c) (keeps-cell_closed p (HasOnce p []) (retires-once p []) (λ u c h. h) (λ u k n m is h. h) w c (l, none-yet w i)).1

  pub once-dropped : (holds : T → List OwnerOrCell) (w : World T) (p k : ℕ) → p < length w.time.places → JobsOnce w → JobsOnce (dropped holds w p k)
  once-dropped holds w p k l i = no-more (dropped holds w p k) (once-dropped_out p [] holds w k (value_at w k) (l, none-yet w i)).1

  pub once-waiting : (w : World T) (p k : ℕ) (s : Standing) → p < length w.time.places → JobsOnce w → JobsOnce (waiting_as w p k s)
  once-waiting w p k s l i = no-more (waiting_as w p k s) (waits-once p [] w k s (l, none-yet w i)).1

  -- a collector is closed: no job waits for it
  once-without : (w : World T) (c : ℕ) → JobsOnce w → JobsOnceBut (waiting_for w c) (without_collector w c)
  once-without w c i j = omega (arith, i j, listed-without (is_of_job j) (is_for w c) w.time.places)

  pub once-collector_closed : (holds : T → List OwnerOrCell) (w : World T) (p c : ℕ) → p < length w.time.places → JobsOnce w →
      JobsOnce (collector_closed holds w p c)
  once-collector_closed holds w p c l i =
      let start = without_collector w c in
      let inside : p < length start.time.places = omega (arith, l, length-map w.time.places (without (is_for w c))) in
      no-more (collector_closed holds w p c) (once-all_reclaimed holds start p (waiting_for w c) (inside, once-without w c i)).1

  -- a job begins to wait, in a place that was free
  deferred-once : (w : World T) (p j n : ℕ) → p < length w.time.places → IsEmptyAt w.jobs j → JobsOnce w → (n ≡ j) ⊎ (n ≢ j) →
      times_deferred (deferred w p j) n ≡ once_if (is_some (entry_at (deferred w p j).jobs n))
  deferred-once w p j n l free i (inl e) =
      let x : Participant = time.awaiting (Job j) (place_at w p) in
      let now : entry_at (deferred w p j).jobs j ≡ Some tt = get_or-set_same w.jobs j (Some tt) None free.0 in
      let none : times_deferred w j ≡ 0 = i j ∙ ap (λ (y : Option (Unit {0})). once_if (is_some y)) free.1 in
      let test : (j == j) ≡ true = grind (arith, nat_tests) in
      let one = listed-awaiting (is_of_job j) (Job j) (place_at w p) in
      rw (e, now) (omega (arith, none, listed-place (is_of_job j) w.time p x l, rw test at one))
  deferred-once w p j n l free i (inr apart) =
      let x : Participant = time.awaiting (Job j) (place_at w p) in
      let other : entry_at (deferred w p j).jobs n ≡ entry_at w.jobs n = get_or-set_other w.jobs j n (Some tt) None apart in
      let test : (j == n) ≡ false = grind (arith, nat_tests) in
      let none = listed-awaiting (is_of_job n) (Job j) (place_at w p) in
      rw other (omega (arith, i n, listed-place (is_of_job n) w.time p x l, rw test at none))

  pub once-deferred : (w : World T) (p j : ℕ) → p < length w.time.places → IsEmptyAt w.jobs j → JobsOnce w → JobsOnce (deferred w p j)
  once-deferred w p j l free i n = deferred-once w p j n l free i (same-or-not n j)

  -- a reclaim makes and loses no place of the table of jobs
  module _ (holds : T → List OwnerOrCell) where
    given-table : (u w : World T) (p : ℕ) (hs : List OwnerOrCell) → u.jobs ≡ w.jobs → (given_all u p hs).jobs ≡ w.jobs
    given-table u w p hs e = keeps-given_all p (λ (v : World T). v.jobs ≡ w.jobs) (λ v k out i. i) (λ v c i. i) (λ v k n m is i. i) u hs e

    taken-table : (w : World T) (p k : ℕ) (v : Option T) → (taken_out holds w p k v).jobs ≡ w.jobs
    taken-table w p k None = refl
    taken-table w p k (Some v) = given-table (freed w k) w p (holds v) refl

    slot-table : (w : World T) (p k : ℕ) → (reclaimed holds w p (Item k)).jobs ≡ w.jobs
    slot-table w p k = taken-table w p k (waiting_value w k (standing_at w k))

    length-reclaimed : (w : World T) (p : ℕ) (x : LimboEntry) → length (reclaimed holds w p x).jobs ≡ length w.jobs
    length-reclaimed w p (Item k) = ap (λ (js : Entries (Unit {0})). length js) (slot-table w p k)
    length-reclaimed w p (Job n) = length-set w.jobs n None

    pub length-all_reclaimed : (w : World T) (p : ℕ) (xs : List LimboEntry) → length (all_reclaimed holds w p xs).jobs ≡ length w.jobs
    length-all_reclaimed w p [] = refl
    length-all_reclaimed w p (x ∷ xs) = length-all_reclaimed (reclaimed holds w p x) p xs ∙ length-reclaimed w p x

    -- what is to be reclaimed ran, and no other job did
    abbrev job_at : World T → ℕ → Option (Unit {0})
    job_at w j = entry_at w.jobs j

    none-stays : (js : Entries (Unit {0})) (n j : ℕ) → entry_at js j ≡ None → (j ≡ n) ⊎ (j ≢ n) → entry_at (without_entry js n) j ≡ None
    none-stays js n j e (inr apart) = get_or-set_other js n j None None apart ∙ e
    none-stays js n j e (inl same) = rw same (none-here js n)

    reclaimed-none : (w : World T) (p j : ℕ) (x : LimboEntry) → job_at w j ≡ None → job_at (reclaimed holds w p x) j ≡ None
    reclaimed-none w p j (Item k) e = ap (λ (js : Entries (Unit {0})). entry_at js j) (slot-table w p k) ∙ e
    reclaimed-none w p j (Job n) e = none-stays w.jobs n j e (same-or-not j n)

    all-none : (w : World T) (p j : ℕ) (xs : List LimboEntry) → job_at w j ≡ None → job_at (all_reclaimed holds w p xs) j ≡ None
    all-none w p j [] e = e
    all-none w p j (x ∷ xs) e = all-none (reclaimed holds w p x) p j xs (reclaimed-none w p j x e)

    job-or-not : (w : World T) (p j n : ℕ) → (j ≡ n) ⊎ (j ≢ n) → (Job n ≡ Job j) ⊎ (job_at (reclaimed holds w p (Job n)) j ≡ job_at w j)
    job-or-not w p j n (inl e) = inl (ap (λ (m : ℕ). Job m) (sym e))
    job-or-not w p j n (inr apart) = inr (get_or-set_other w.jobs n j None None apart)

    reclaimed-job : (w : World T) (p j : ℕ) (x : LimboEntry) → (x ≡ Job j) ⊎ (job_at (reclaimed holds w p x) j ≡ job_at w j)
    reclaimed-job w p j (Item k) = inr (ap (λ (js : Entries (Unit {0})). entry_at js j) (slot-table w p k))
    reclaimed-job w p j (Job n) = job-or-not w p j n (same-or-not j n)

    pub ran-all : (w : World T) (p j : ℕ) (xs : List LimboEntry) → Contains xs (Job j) → job_at (all_reclaimed holds w p xs) j ≡ None
    ran-all w p j [] h = absurd (omega (arith, h.1))
    ran-all w p j (x ∷ xs) (zero, l, is) =
        all-none (reclaimed holds w p x) p j xs (rw is (none-here w.jobs j))
    ran-all w p j (x ∷ xs) (suc k, l, is) = ran-all (reclaimed holds w p x) p j xs (k, omega (arith, l), is)

    kept-all-if : (w : World T) (p j : ℕ) (x : LimboEntry) (xs : List LimboEntry) → ¬ (Contains (x ∷ xs) (Job j)) →
        (x ≡ Job j) ⊎ (job_at (reclaimed holds w p x) j ≡ job_at w j) →
        job_at (all_reclaimed holds (reclaimed holds w p x) p xs) j ≡ job_at (reclaimed holds w p x) j →
        job_at (all_reclaimed holds w p (x ∷ xs)) j ≡ job_at w j
    kept-all-if w p j x xs h (inl is) rest = absurd (h (0, omega arith, is))
    kept-all-if w p j x xs h (inr same) rest = rest ∙ same

    pub kept-all : (w : World T) (p j : ℕ) (xs : List LimboEntry) → ¬ (Contains xs (Job j)) → job_at (all_reclaimed holds w p xs) j ≡ job_at w j
    kept-all w p j [] h = refl
    kept-all w p j (x ∷ xs) h =
        kept-all-if w p j x xs h (reclaimed-job w p j x)
        (kept-all (reclaimed holds w p x) p j xs (λ c. h (suc c.0, omega (arith, c.1), c.2)))

    due-there : (w : World T) (p j : ℕ) → p < length w.time.places → JobsOnce w → Contains (due_next (place_at w p)) (Job j) → IsSome (job_at w j)
    due-there w p j l i (k, lt, is) =
        let own : is_of_job j (Job j) ≡ true = grind (arith, nat_tests) in
        let due : 1 ≤ count_by (is_of_job j) (due_next (place_at w p)) =
        omega (arith, rw (is, own) at (get_or-le-sum_by (λ (x : LimboEntry). cond (is_of_job j x) 1 0) (due_next (place_at w p)) k (Job j) lt)) in
        once-true (is_some (job_at w j))
        (omega (arith, due, i j, listed-aged (is_of_job j) (place_at w p).bags.waiting, get_or-le-sum_by (jobs_with j) w.time.places p nobody l))

    pub opened-ran : (w : World T) (p j : ℕ) → p < length w.time.places → JobsOnce w → Contains (reclaims w p) (Job j) → Nests holds w p ⊎ IsChange holds w p →
        IsSome (job_at w j) × (job_at (steps.opened holds w p) j ≡ None)
    opened-ran w p j l i among (inl n) =
        let none : Contains [] (Job j) = subst (λ (xs : List LimboEntry). Contains xs (Job j)) n.none among in absurd (omega (arith, none.1))
    opened-ran w p j l i among (inr c) =
        let due = subst (λ (xs : List LimboEntry). Contains xs (Job j)) c.due among in (
          due-there w p j l i due,
          ap (λ (u : World T). job_at u j) c.change
              ∙ ran-all (before holds w p) p j (due_next (place_at (steps.nested w p) p))
              (subst (λ (xs : List LimboEntry). Contains xs (Job j)) (sym (due-here holds w p l)) due),
        )

    pub opened-kept : (w : World T) (p j : ℕ) → p < length w.time.places → ¬ (Contains (reclaims w p) (Job j)) → Nests holds w p ⊎ IsChange holds w p →
        job_at (steps.opened holds w p) j ≡ job_at w j
    opened-kept w p j l other (inl n) = ap (λ (u : World T). job_at u j) n.nests
    opened-kept w p j l other (inr c) =
        ap (λ (u : World T). job_at u j) c.change
        ∙ kept-all (before holds w p) p j (due_next (place_at (steps.nested w p) p))
        (λ h. other (subst (λ (xs : List LimboEntry). Contains xs (Job j)) (due-here holds w p l ∙ sym c.due) h))

    -- an opening runs exactly the jobs that are due
    pub runs-once : (w : World T) → JobsOnce w → RunsJobsOnce holds w
    runs-once w i =
        record {
          waits = i;
          runs = λ p j live among. opened-ran w p j live.0 i among (how holds w p live.0);
          keeps = λ p j live other. opened-kept w p j live.0 other (how holds w p live.0);
        }
