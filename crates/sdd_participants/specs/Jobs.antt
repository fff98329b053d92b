-- The places of jobs
use Rattle.std.specs.Prelude.{◌≡◌, List, [], ◌∷◌, map, is_some, Option, option_map}
use Rattle.sdd_participants.specs.Slab.{Entries, without_entry}
use Rattle.sdd_participants.specs.declared.waiting.LimboEntry.{LimboEntry}
use Rattle.sdd_participants.specs.declared.waiting.LimboEntry.TheVariants.{Item, Job}

-- a job is exactly where a place is taken
pub record AreBeside {X : Type 0} (numbers : Entries (Unit {0})) (jobs : List (Option X)) : Type 0 where
  pub filled : map is_some jobs ≡ map is_some numbers

module _ {J : Type 0} where
  -- which places have a job
  abbrev pub places_of : Entries J → Entries (Unit {0})
  places_of = map (option_map (λ _. tt))

  -- the jobs that wait still, once this item was reclaimed, or this job was taken out to run
  abbrev pub jobs_without : Entries J → LimboEntry → Entries J
  jobs_without jobs (Item k) = jobs
  jobs_without jobs (Job j) = without_entry jobs j

  -- the same of one after another
  abbrev pub jobs_without_all : Entries J → List LimboEntry → Entries J
  jobs_without_all jobs [] = jobs
  jobs_without_all jobs (x ∷ xs) = jobs_without_all (jobs_without jobs x) xs
