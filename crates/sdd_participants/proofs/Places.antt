-- Which places of a table have a job
use Rattle.std.proofs.Common.{◌≡◌, ℕ, ◌+◌, ◌<◌, List, Option, Some, None, length, zero, suc, get_or, drop, drop-cons, add-one, arith, refl, sym, ap, ◌∙◌}
use Rattle.std.specs.Prelude.{◌∷◌, option_map, replicate}
use Rattle.std.proofs.Math.ListN.{get_or-map}
use Rattle.std.proofs.lemmas.List.{map-set, length-map}
use Rattle.sdd_participants.specs.Slab.{Entries, entry_at, with_entry, without_entry, IsEmptyAt, IsFull}
use Rattle.sdd_participants.specs.Jobs.{places_of, jobs_without, jobs_without_all}
use Rattle.std.specs.Prelude.{◌++◌, [], filter}
use Rattle.std.proofs.Common.{Bool, true, false, cond, is_some, IsSome, map}
use Rattle.std.proofs.lemmas.List.{get_or_default}
use Rattle.sdd_participants.specs.declared.waiting.LimboEntry.{LimboEntry}
use Rattle.sdd_participants.specs.declared.waiting.LimboEntry.TheVariants.{Item, Job}
use Rattle.sdd_participants.specs.declared.participant.Participant.{Participant}
use Rattle.sdd_participants.specs.Waiting.{Waiting}
use Rattle.sdd_participants.specs.Collecting.{chosen_of, chosen_among}

none-unit : {J : Type 0} (o : Option J) → option_map (λ (_ : J). tt {0}) o ≡ None → o ≡ None
none-unit None h = refl
none-unit (Some x) h = absurd (cc)

pub places-none : (J : Type 0) (size : ℕ) → places_of {J = J} (replicate size None) ≡ replicate size None
places-none J zero = refl
places-none J (suc n) = ap (λ (os : List (Option (Unit {0}))). None ∷ os) (places-none J n)

some-unit : {J : Type 0} (o : Option J) → is_some (option_map (λ (_ : J). tt {0}) o) ≡ is_some o
some-unit None = refl
some-unit (Some x) = refl

module _ {J : Type 0} where
  pub places-put : (jobs : Entries J) (k : ℕ) (job : J) → places_of (with_entry jobs k job) ≡ with_entry (places_of jobs) k tt
  places-put jobs k job = map-set (option_map (λ (_ : J). tt {0})) jobs k (Some job)

  pub places-taken : (jobs : Entries J) (k : ℕ) → places_of (without_entry jobs k) ≡ without_entry (places_of jobs) k
  places-taken jobs k = map-set (option_map (λ (_ : J). tt {0})) jobs k None

  pub places-at : (jobs : Entries J) (k : ℕ) → entry_at (places_of jobs) k ≡ option_map (λ (_ : J). tt {0}) (entry_at jobs k)
  places-at jobs k = get_or-map (option_map (λ (_ : J). tt {0})) jobs k None

  pub places-length : (jobs : Entries J) → length (places_of jobs) ≡ length jobs
  places-length jobs = length-map jobs (option_map (λ (_ : J). tt {0}))

  -- a place is free exactly where no job is
  pub places-free : (jobs : Entries J) (k : ℕ) → entry_at jobs k ≡ None → entry_at (places_of jobs) k ≡ None
  places-free jobs k free = places-at jobs k ∙ ap (option_map (λ (_ : J). tt {0})) free

  pub free-places : (jobs : Entries J) (k : ℕ) → entry_at (places_of jobs) k ≡ None → entry_at jobs k ≡ None
  free-places jobs k free = none-unit _ (sym (places-at jobs k) ∙ free)

  pub empty-places : (jobs : Entries J) (k : ℕ) → IsEmptyAt jobs k → IsEmptyAt (places_of jobs) k
  empty-places jobs k free = (omega (arith, free.0, places-length jobs), places-free jobs k free.1)

  -- the jobs that are left after all but the first of what is left
  pub without-drop : (jobs : Entries J) (xs : List LimboEntry) (i : ℕ) (d : LimboEntry) → i < length xs →
      jobs_without_all jobs (drop i xs) ≡ jobs_without_all (jobs_without jobs (get_or xs i d)) (drop (i + 1) xs)
  without-drop jobs xs i d l =
      ap (λ ys. jobs_without_all jobs ys) (drop-cons xs i d l ∙ ap (λ n. get_or xs i d ∷ drop n xs) (sym (add-one i)))

  -- where each place has a job, no place is free
  pub places-full : (jobs : Entries J) → IsFull jobs → IsFull (places_of jobs)
  places-full jobs full k d inside =
      let within : k < length jobs = omega (arith, inside, places-length jobs) in
      ap is_some (get_or_default (places_of jobs) k d None inside ∙ places-at jobs k) ∙ (some-unit (entry_at jobs k) ∙ full k None within)

  without-append : (xs ys : List LimboEntry) (jobs : Entries J) → jobs_without_all jobs (xs ++ ys) ≡ jobs_without_all (jobs_without_all jobs xs) ys
  without-append [] ys jobs = refl
  without-append (x ∷ xs) ys jobs = without-append xs ys (jobs_without jobs x)

  -- an item, chosen or not, and what comes behind it
  item-chosen : (b : Bool) (k : ℕ) (xs : List LimboEntry) (jobs : Entries J) → jobs_without_all jobs (cond b (Item k ∷ xs) xs) ≡ jobs_without_all jobs xs
  item-chosen true k xs jobs = refl
  item-chosen false k xs jobs = refl

  module _ (chosen : LimboEntry → Bool) (items : (j : ℕ) → chosen (Job j) ≡ false) where
    -- where items alone are chosen, the jobs wait as before
    without-filtered : (xs : List LimboEntry) (jobs : Entries J) → jobs_without_all jobs (filter chosen xs) ≡ jobs
    without-filtered [] jobs = refl
    without-filtered (Item k ∷ xs) jobs = item-chosen (chosen (Item k)) k (filter chosen xs) jobs ∙ without-filtered xs jobs
    without-filtered (Job j ∷ xs) jobs =
        ap (λ (b : Bool). jobs_without_all jobs (cond b (Job j ∷ filter chosen xs) (filter chosen xs))) (items j) ∙ without-filtered xs jobs

    pub without-chosen : (ps : List Participant) (jobs : Entries J) → jobs_without_all jobs (chosen_among chosen ps) ≡ jobs
    without-chosen [] jobs = refl
    without-chosen (p ∷ ps) jobs =
        without-append (chosen_of chosen p.bags.waiting) (chosen_among chosen ps) jobs
        ∙ ap (λ (left : Entries J). jobs_without_all left (chosen_among chosen ps))
        (without-filtered (map (λ (w : Waiting). w.what) p.bags.waiting) jobs)
        ∙ without-chosen ps jobs
