-- What a call of a world leaves as before: one record, by cases over calls, for one call after another
use Rattle.sdd_script_model.proofs.Words.{◌≡◌, ℕ, ◌+◌, Bool, true, false, List, [], ◌∷◌, Option, Some, None, IsSome, is_some, refl, sym, ap, ◌∙◌, subst, IsTrue, get_or-map, false≢true, length-map, length-set, without, nobody, is_open, with_entry, without_entry, Waiting, Participant, Standing, Private as privately, LimboEntry, Item, Job, is_waiting, collected, is_for, waiting_for, without_collector, IsAlone, Claim, Moves, stirs, accelerates, changes_pointers, makes, shares, retires, releases, collects, drops, puts_out_raw, takes_back_raw, edits, makes_cell, changes_cell, spends_cell, closes_cell, closes_collector, World, place_at, standing_at, value_at, accelerated, all_reclaimed, dropped_out, freed, reclaimed, retired, stirred, taken_out, vacated, waiting_value, IsWhole, WorldStep, IsEmptyAt, IsFirst, made_as, Gives, Gives-owner_given, Gives-dropped, Gives-cell_closed, Gives-collector_closed, safe-call, out-some, AreCalls, none as no_call, one_more, Val, holdings_of, body_of, link_of, owner_in, All, map, arith, nat_lt, chosen_of, chosen_among, Sheds, alone-out, All-append, All-head, All-tail, filter_passes, sheds-owner_given, sheds-cell_closed, sheds-dropped, sheds-collector_closed}
use Rattle.sdd_world_model.specs.Ledger.Moves.{registers, ends, opens, closes, defers}
use Rattle.sdd_script_model.proofs.ParticipantsMatch.{KeepsGuards, keeps-time, keeps-place, keeps-gives}
use Rattle.sdd_script_model.proofs.Dates.{first-waits-not, waited}
use Rattle.sdd_script_model.proofs.Deferred.{jobs-given, jobs-closed, jobs-given_all}
use Rattle.sdd_script_model.proofs.JobDates.{KeepsUnder, under-call}
use Rattle.sdd_script_model.proofs.KeptUnderGuards.{KeepsSafe, BeginsOut}
use Rattle.sdd_script_model.proofs.Links.{HoldsLess, less-same, less-shed, less-then, less-edited}
use Rattle.sdd_script_model.proofs.SlotsHaveNames.{KeepsSlots, slots-same, slots-then, slots-set, slots-given, slots-cell_closed, slots-dropped, slots-all, waits-not, begins-out, there-out}
use Rattle.sdd_participants.specs.EpochState as time
use Rattle.sdd_participants.specs.declared.standing.Standing.TheVariants as standing

-- ---- calls by which nobody comes or goes, no guard is opened or closed, and no job is deferred

pub record Passes (old new : World Val) : Type 0 where
  pub guards : KeepsGuards old new
  pub jobs : new.jobs ≡ old.jobs
  pub safe : KeepsSafe old new
  pub begins : BeginsOut old new
  pub under : KeepsUnder old new
  pub calls : AreCalls old new

pub passes-start : (w : World Val) → Passes w w
passes-start w =
    let begins : BeginsOut w w = λ s waits idle. absurd (false≢true (sym idle ∙ waits)) in assumption (begins, keeps-time w w refl, no_call w)

pub calls-then : {u v w : World Val} → AreCalls u v → AreCalls v w → AreCalls u w
calls-then a (no_call w) = a
calls-then {u} a (one_more t v w calls step) = one_more u v w (calls-then a calls) step

guards-then : {u v w : World Val} → KeepsGuards u v → KeepsGuards v w → KeepsGuards u w
guards-then a b = record { phases = b.phases ∙ a.phases; places = b.places ∙ a.places; guards = λ q. b.guards q ∙ a.guards q }

-- calls after others: what begins to wait by them was there before
pub passes-then : {u v w : World Val} → Passes u v → Passes v w →
    ((s : ℕ) → is_waiting (standing_at w s) ≡ true → is_waiting (standing_at v s) ≡ false → IsSome (standing_at u s)) → Passes u w
passes-then {u} {v} {w} a b there = record {
  guards = guards-then a.guards b.guards;
  jobs = b.jobs ∙ a.jobs;
  safe = λ p s o safe. b.safe p s o (a.safe p s (before p o) safe);
  begins = λ s waits was. let first = a.begins s in let out = there-out (standing_at u s) in let some = there s waits in grind arith;
  under = λ p k o was. b.under p k o (a.under p k (before p o) was);
  calls = calls-then a.calls b.calls;
} where
  before : (p : ℕ) → IsTrue (is_open (place_at w p)) → IsTrue (is_open (place_at v p))
  before p o = subst (λ g. IsTrue (nat_lt 0 g)) (b.guards.guards p) o

-- one call
pub passes-one : {v w : World Val} → IsWhole v → WorldStep holdings_of v w → KeepsGuards v w → w.jobs ≡ v.jobs → BeginsOut v w → Passes v w
passes-one {v} {w} whole call guards jobs out =
    let safe : KeepsSafe v w = λ p s o safe. safe-call p s holdings_of call whole safe o in
    let under : KeepsUnder v w = λ p k o was. under-call v w p k was call o in
    assumption (safe, under, guards, jobs, out, one_more v v w (no_call v) call)

-- an item is made
pub passes-making : {u v : World Val} → Passes u v → IsWhole v → (k : ℕ) (x : Val) (s : Standing) → IsFirst s → IsEmptyAt v.standings k →
    Passes u (made_as v k x s)
passes-making {u} {v} a whole k x s first free =
    let new = made_as v k x s in
    let still : (j : ℕ) → is_waiting (standing_at new j) ≡ true → is_waiting (standing_at v j) ≡ false → ⊥ =
    λ j waits idle. false≢true (sym idle ∙ waited v.standings k s (first-waits-not s first) j waits) in
    passes-then a
    (passes-one whole (WorldStep.makes v k x s first free) (keeps-time v new refl) refl (λ j waits idle. absurd (still j waits idle)))
    (λ j waits idle. absurd (still j waits idle))

-- ---- and by which no item is made

-- what such a call leaves, and that it is one
record Leaves (old new : World Val) : Type 0 where
  call : WorldStep holdings_of old new
  slots : KeepsSlots old new
  guards : KeepsGuards old new
  jobs : new.jobs ≡ old.jobs
  values : HoldsLess old new

abbrev pub IsQuiet : {v w : World Val} {ins outs : Claim → ℕ} → Moves holdings_of v ins w outs → Type 0
IsQuiet (registers w p vacant) = ⊥
IsQuiet (ends w p l shut) = ⊥
IsQuiet (opens w p l) = ⊥
IsQuiet (closes w p l) = ⊥
IsQuiet (defers w p j l empty) = ⊥
IsQuiet (makes w k value s first empty) = ⊥
-- a value has the same link, and the same owner
IsQuiet (edits w k old value may is) = (link_of value ≡ link_of old) × (owner_in (body_of value) ≡ owner_in (body_of old))
IsQuiet other = Unit {0}

-- where the time, the jobs and the values are as before
in-time : (v w : World Val) → WorldStep holdings_of v w → KeepsSlots v w → w.time ≡ v.time → w.jobs ≡ v.jobs → w.values ≡ v.values → Leaves v w
in-time v w call slots time jobs values =
    record { call = call; slots = slots; guards = keeps-time v w time; jobs = jobs; values = less-same v w values }

-- where one place is written, which has as many guards, and the jobs and the values are as before
in-place : (v w : World Val) (p : ℕ) (x : Participant) → WorldStep holdings_of v w → KeepsSlots v w → w.time ≡ time.with_place v.time p x →
    x.guards ≡ (place_at v p).guards → w.jobs ≡ v.jobs → w.values ≡ v.values → Leaves v w
in-place v w p x call slots time guards jobs values =
    record { call = call; slots = slots; guards = keeps-place v w p x time guards; jobs = jobs; values = less-same v w values }

-- where p is given something up to it
given-up : {v w : World Val} {p : ℕ} → WorldStep holdings_of v w → KeepsSlots v w → Gives p v w → w.jobs ≡ v.jobs → Sheds v w → Leaves v w
given-up call slots gives jobs sheds = record { call = call; slots = slots; guards = keeps-gives gives; jobs = jobs; values = less-shed sheds }

-- what is chosen passes the test
chosen-pass : (chosen : LimboEntry → Bool) (ps : List Participant) → All (λ x. chosen x ≡ true) (chosen_among chosen ps)
chosen-pass chosen [] = λ k e lt. absurd (omega (arith, lt))
chosen-pass chosen (p ∷ ps) =
    All-append (λ x. chosen x ≡ true) (chosen_of chosen p.bags.waiting) (chosen_among chosen ps)
    (filter_passes chosen (map (λ (y : Waiting). y.what) p.bags.waiting)) (chosen-pass chosen ps)

out-jobs : (w : World Val) (p k : ℕ) (v : Option Val) → (taken_out holdings_of w p k v).jobs ≡ w.jobs
out-jobs w p k None = refl
out-jobs w p k (Some v) = jobs-given_all (freed w k) p (holdings_of v)

-- no job waits for a collector, so its close takes none out
items-jobs : (chosen : LimboEntry → Bool) → ((j : ℕ) → chosen (Job j) ≡ false) → (xs : List LimboEntry) (w : World Val) (p : ℕ) →
    All (λ x. chosen x ≡ true) xs → (all_reclaimed holdings_of w p xs).jobs ≡ w.jobs
items-jobs chosen none [] w p pass = refl
items-jobs chosen none (Item k ∷ xs) w p pass =
    items-jobs chosen none xs (reclaimed holdings_of w p (Item k)) p (All-tail (λ x. chosen x ≡ true) (Item k) xs pass)
    ∙ out-jobs w p k (waiting_value w k (standing_at w k))
items-jobs chosen none (Job j ∷ xs) w p pass = absurd (false≢true (sym (none j) ∙ All-head (λ x. chosen x ≡ true) (Job j) xs pass))

dropped-jobs : (w : World Val) (p k : ℕ) (v : Option Val) → (dropped_out holdings_of w p k v).jobs ≡ w.jobs
dropped-jobs w p k None = refl
dropped-jobs w p k (Some v) = jobs-given_all (vacated w k) p (holdings_of v)

pub keeps-uncollected : (w : World Val) (p c : ℕ) → KeepsGuards w (without_collector w c)
keeps-uncollected w p c =
    let places = length-map w.time.places (without (is_for w c)) in
    let guards : (q : ℕ) → (place_at (without_collector w c) q).guards ≡ (place_at w q).guards =
    λ q. ap (λ (x : Participant). x.guards) (get_or-map (without (is_for w c)) w.time.places q nobody) in
    assumption (places, guards)

alone-some : (s : Option Standing) → IsAlone s → IsSome s
alone-some s alone = out-some s (alone-out s alone)

leaves : {v w : World Val} {ins outs : Claim → ℕ} → (move : Moves holdings_of v ins w outs) → IsQuiet move → Leaves v w
leaves (registers w p vacant) quiet = absurd quiet
leaves (ends w p l shut) quiet = absurd quiet
leaves (opens w p l) quiet = absurd quiet
leaves (closes w p l) quiet = absurd quiet
leaves (defers w p j l empty) quiet = absurd quiet
leaves (makes w k value s first empty) quiet = absurd quiet
leaves (stirs w p l) quiet =
    in-place w (stirred w p) p (time.with_garbage (place_at w p)) (WorldStep.stirs w p l) (slots-same w _ refl refl refl) refl refl refl refl
leaves (accelerates w p l) quiet =
    in-place w (accelerated w p) p (time.accelerated (place_at w p)) (WorldStep.accelerates w p l) (slots-same w _ refl refl refl) refl refl refl refl
leaves (changes_pointers w pointers same) quiet =
    in-time w _ (WorldStep.changes_pointers w pointers same) (slots-same w _ refl refl refl) refl refl refl
leaves (shares w k n is) quiet =
    in-time w _ (WorldStep.shares w k n is.shared) (slots-set w _ k (standing.Shared (n + 1)) (ap is_some is.shared)
    (waits-not (standing_at w k) (standing.Shared (n + 1)) (ap is_waiting is.shared)) refl refl refl) refl refl refl
leaves (retires w p k l is) quiet =
    in-place w (retired w p k) p (time.awaiting (Item k) (place_at w p)) (WorldStep.retires w p k l is)
    (slots-set w _ k standing.Retired (ap is_some is) (λ was. refl) refl refl refl) refl refl refl refl
leaves (releases w p k n l is) quiet =
    given-up (WorldStep.releases w p k n l is) (slots-given w p k (Some (standing.Shared n)) is) (Gives-owner_given w p k (Some (standing.Shared n)) is)
    (jobs-given w p k (Some (standing.Shared n)) is) (sheds-owner_given w p k (Some (standing.Shared n)) is)
leaves (collects w p c k l alone) quiet =
    in-place w (collected w p c k) p (time.awaiting (Item k) (place_at w p)) (WorldStep.collects w p c k l alone)
    (slots-set w _ k (privately c) (alone-some (standing_at w k) alone) (λ was. refl) refl refl refl) refl refl refl refl
leaves (drops w p k l may) quiet =
    given-up (WorldStep.drops w p k l may) (slots-dropped w p k) (Gives-dropped holdings_of w p k l.0) (dropped-jobs w p k (value_at w k))
    (sheds-dropped holdings_of p w k)
leaves (puts_out_raw w k is) quiet =
    in-time w _ (WorldStep.puts_out_raw w k is) (slots-set w _ k standing.Raw (ap is_some is) (waits-not (standing_at w k) standing.Raw (ap is_waiting is))
    refl refl refl) refl refl refl
leaves (takes_back_raw w k is) quiet =
    in-time w _ (WorldStep.takes_back_raw w k is)
    (slots-set w _ k standing.Owned (ap is_some is) (waits-not (standing_at w k) standing.Owned (ap is_waiting is)) refl refl refl) refl refl refl
leaves (edits w k old value may is) quiet =
    let values = less-edited w k old value is quiet.0 quiet.1 in
    record { call = WorldStep.edits w k value may; slots = slots-same w _ refl refl refl; guards = keeps-time w _ refl; jobs = refl; values = values }
leaves (makes_cell w c cell free) quiet =
    in-time w _ (WorldStep.changes_cells w (with_entry w.cells c cell) (length-set w.cells c (Some cell))) (slots-same w _ refl refl refl) refl refl refl
leaves (changes_cell w c old cell is) quiet =
    in-time w _ (WorldStep.changes_cells w (with_entry w.cells c cell) (length-set w.cells c (Some cell))) (slots-same w _ refl refl refl) refl refl refl
leaves (spends_cell w c old is) quiet =
    in-time w _ (WorldStep.changes_cells w (without_entry w.cells c) (length-set w.cells c None)) (slots-same w _ refl refl refl) refl refl refl
leaves (closes_cell w p c l) quiet =
    given-up (WorldStep.closes_cell w p c l) (slots-cell_closed w p c) (Gives-cell_closed w p c l.0) (jobs-closed w p c) (sheds-cell_closed w p c)
leaves (closes_collector w p c l quiet null) _ =
    let guards = guards-then (keeps-uncollected w p c) (keeps-gives (Gives-collector_closed holdings_of w p c l.0)) in
    let slots = slots-all w p (waiting_for w c) (without_collector w c) (slots-same w _ refl refl refl) in
    let pass = chosen-pass (is_for w c) w.time.places in
    let jobs = items-jobs (is_for w c) (λ j. refl) (waiting_for w c) (without_collector w c) p pass in
    let values = less-shed (sheds-collector_closed holdings_of p w c) in
    record { call = WorldStep.closes_collector w p c l quiet; slots = slots; guards = guards; jobs = jobs; values = values }

pub quiet-less : {v w : World Val} {ins outs : Claim → ℕ} → (move : Moves holdings_of v ins w outs) → IsQuiet move → HoldsLess v w
quiet-less move quiet = (leaves move quiet).values

-- what quiet calls leave as before
pub record Frames (old new : World Val) : Type 0 where
  pub passes : Passes old new
  pub slots : KeepsSlots old new
  pub values : HoldsLess old new

pub frames-start : (w : World Val) → Frames w w
frames-start w = record { passes = passes-start w; slots = slots-same w w refl refl refl; values = less-same w w refl }

-- a quiet call more
pub frames-on : {u v w : World Val} {ins outs : Claim → ℕ} → Frames u v → IsWhole v → (move : Moves holdings_of v ins w outs) → IsQuiet move → Frames u w
frames-on {u} {v} {w} f whole move quiet =
    let l = leaves move quiet in
    record {
      passes = passes-then f.passes (passes-one whole l.call l.guards l.jobs (begins-out l.slots))
          (λ s waits idle. f.slots.taken s (out-some (standing_at v s) (begins-out l.slots s waits idle)));
      slots = slots-then f.slots l.slots;
      values = less-then u v w f.values l.values;
    }
