-- The jobs of a world, beside which of their places are taken
use Rattle.std.proofs.Common.{◌≡◌, ℕ, ap}
use Rattle.sdd_participants.specs.Slab.{Entries, with_entry, without_entry}
use Rattle.sdd_participants.specs.Jobs.{places_of}
use Rattle.sdd_participants.specs.EpochState as time
use Rattle.sdd_participants.specs.declared.waiting.LimboEntry.TheVariants.{Job}
use Rattle.sdd_participants.proofs.Places.{places-put, places-taken}
use Rattle.sdd_world_model.specs.Loans.{Loans}
use Rattle.sdd_world_model.specs.World.{World}
use Rattle.sdd_world_model.specs.WorldChanges.{deferred, ran}
use Rattle.sdd_world_core.specs.WorldCore.{WorldCore}

-- a world with these jobs
abbrev pub core_of : {T J : Type 0} → World T → Loans → Entries J → WorldCore T J
core_of w l jobs = record { world = record w { jobs = places_of jobs }; lending = l; deferred = jobs }

module _ {T J : Type 0} (w : World T) (l : Loans) (jobs : Entries J) where
  -- a job is taken out
  pub taken-as : (k : ℕ) → core_of w l (without_entry jobs k)
      ≡ record (core_of w l jobs) { world = ran (core_of w l jobs).world k; deferred = without_entry jobs k }
  taken-as k =
      ap (λ (ps : Entries (Unit {0})). record (core_of w l jobs) { world = record w { jobs = ps }; deferred = without_entry jobs k }) (places-taken jobs k)

  -- a job is put in
  pub put-as : (p k : ℕ) (job : J) → core_of (record w { time = time.awaiting_at w.time p (Job k) }) l (with_entry jobs k job)
      ≡ record (core_of w l jobs) { world = deferred (core_of w l jobs).world p k; deferred = with_entry jobs k job }
  put-as p k job =
      ap (λ (ps : Entries (Unit {0})). record (core_of w l jobs) {
        world = record w { time = time.awaiting_at w.time p (Job k); jobs = ps };
        deferred = with_entry jobs k job;
      }) (places-put jobs k job)
