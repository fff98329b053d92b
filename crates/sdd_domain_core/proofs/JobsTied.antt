-- What deferring a job, and taking one out that is due, are for the world of a lone participant
use Rattle.std.proofs.Common.{◌≡◌, ◌≢◌, ℕ, ◌+◌, ◌<◌, IsTrue, List, [], ◌∷◌, ◌++◌, Some, None, length, map, get_or, set, slice_index_or, sym, refl, ap, ◌∙◌, subst, arith, length-set, get_or-set_other, get_or-set_same}
use Rattle.std.specs.Prelude.{Option, IsSome}
use mathlib.Core.Logic.{dite}
use native.Mathlib.Decide.{ℕ_discrete}
use Rattle.sdd_participants.specs.declared.waiting.LimboEntry.{LimboEntry}
use Rattle.sdd_participants.specs.declared.waiting.LimboEntry.TheVariants.{Job}
use Rattle.sdd_participants.specs.declared.participant.Participant.{Participant}
use Rattle.sdd_rights.specs.declared.views.SlotsView.{SlotsView}
use Rattle.sdd_participants.specs.Slab.{entry_at, with_entry, without_entry, IsEmptyAt, IsFull}
use Rattle.sdd_participants.specs.EpochState as time
use Rattle.sdd_domain_invariant.specs.Codes.{waiting, waits_for, full}
use Rattle.sdd_domain_invariant.specs.Slots.SlotSteps.{behind, retired_now, without_item}
use Rattle.sdd_domain_invariant.specs.Sums.{total}
use Rattle.sdd_domain_invariant.specs.Slots.{waits_in}
use Rattle.sdd_domain_invariant.proofs.Sums.{is_other, total_snoc}
use Rattle.sdd_domain_invariant.proofs.Slots.OwnerSteps.{item_kept}
use Rattle.sdd_world_model.specs.World.{World}
use Rattle.sdd_world_model.specs.WorldChanges.{deferred, ran}
use Rattle.sdd_participants.proofs.Places.{empty-places, places-full, places-put, places-taken}
use Rattle.sdd_domain_steps.specs.LocalState.{LocalState, place_number, IsLone, DefersTo, TakesJob, AllPlacesTaken, word_of}
use Rattle.sdd_domain_steps.specs.InBags.{AreInBags, known_waiting, private_for}
use Rattle.sdd_domain_steps.specs.WaitingItems.{what_of}
use Rattle.sdd_domain_steps.specs.WordsAndValues.{AreTied, MatchesPlace, is_plain_word}
use Rattle.sdd_domain_steps.specs.Local.{LocalModel, listing, standing_by, value_by, standing_in, value_in, world_of}
use Rattle.sdd_domain_core.proofs.LoneCalls.{alone, steps_alone, cells_kept, pointers_kept}
use Rattle.sdd_domain_core.proofs.Listings.{listing_same}
use Rattle.sdd_domain_steps.proofs.InBags.{first_plain_out, job_plain, one_more}
use Rattle.sdd_domain_steps.proofs.Reclaims.{what_job}
use Rattle.sdd_domain_core.proofs.Words.{word_put, word_other}

-- the word of a job's place becomes y, and slots stay as they were
module _ {T J : Type 0} (v : LocalModel T J) (t : AreTied v.member v.entries) (place y : ℕ) (inside : place < v.member.limits.jobs) where
  abbrev n : ℕ
  n = v.member.limits.slots

  abbrev number : ℕ
  number = place_number v.member place

  abbrev pub words_then : List ℕ
  words_then = set v.member.words (behind v.member.sizes number) y

  now : get_or words_then (behind v.member.sizes number) 0 ≡ y
  now = word_put v.member.sizes v.member.words t.long number y (let s = t.slots in let j = t.places in omega arith)

  then : (i : ℕ) → i ≢ number → get_or words_then (behind v.member.sizes i) 0 ≡ word_of v.member i
  then i ne = word_other v.member.sizes v.member.words t.long number y i ne

  slot_then : (i : ℕ) → i < n → get_or words_then (behind v.member.sizes i) 0 ≡ word_of v.member i
  slot_then i low = then i (λ e. omega arith)

  -- a participant whose other words are so, with what waits and what it has of its own
  pub tied_by : (own : Participant) (known : ℕ) (slots : SlotsView) (due : List LimboEntry) (e : Option J)
      → ((i : ℕ) → i < n → total (waits_in i) slots.waits ≡ total (waits_in i) v.member.slots.waits) → MatchesPlace y e
      → slots.privates ≡ v.member.slots.privates → AreInBags n (known_waiting slots) own.bags.waiting due → (0 < own.guards → known ≡ own.found)
      → AreTied (record v.member { own = own; known = known; slots = slots; words = words_then; due = due; jobs = set v.member.jobs place e }) v.entries
  tied_by own known slots due e same matches same_privates bags knows = record {
    place = t.place;
    slots = t.slots;
    places = t.places;
    all_cells = t.all_cells;
    long = length-set v.member.words (behind v.member.sizes number) y ∙ t.long;
    wide = t.wide;
    plain = λ i l. subst (λ (w : ℕ). IsTrue (is_plain_word w)) (sym (slot_then i l)) (t.plain i l);
    waits = λ i l. same i l ∙ (t.waits i l ∙ ap waiting (sym (slot_then i l)));
    privates = λ i l c. ap (total (private_for c i)) same_privates ∙ (t.privates i l c ∙ ap (waits_for c) (sym (slot_then i l)));
    kept = λ i l filled. t.kept i l (sym (ap full (slot_then i l)) ∙ filled);
    table = length-set v.member.jobs place e ∙ t.table;
    jobs = λ j l. dite (ℕ_discrete j place)
        (λ eq. subst (λ (z : ℕ × Option J). MatchesPlace z.0 z.1)
        (λ d. (
          sym (ap (λ (k : ℕ). get_or words_then (behind v.member.sizes (n + k)) 0) eq ∙ now) d,
          sym (ap (λ (k : ℕ). entry_at (set v.member.jobs place e) k) eq
              ∙ get_or-set_same v.member.jobs place e None (let s = t.table in let l = inside in omega arith)) d,
        )) matches)
        (λ ne. subst (λ (z : ℕ × Option J). MatchesPlace z.0 z.1)
        (λ d. (sym (then (n + j) (λ eq. ne (let f = eq in omega arith))) d, sym (get_or-set_other v.member.jobs place j e None ne) d)) (t.jobs j l));
    bags = bags;
    now = knows;
  }

  -- its slots stand as they did, and have the values that they had
  pub standings_same : listing n (λ i. standing_by (get_or words_then (behind v.member.sizes i) 0))
      ≡ listing n (standing_in v)
  standings_same = listing_same n (standing_in v) (λ i. standing_by (get_or words_then (behind v.member.sizes i) 0))
      (λ i l. ap standing_by (slot_then i l))

  pub values_same : listing n (λ i. value_by (get_or words_then (behind v.member.sizes i) 0) (slice_index_or v.entries i None))
      ≡ listing n (value_in v)
  values_same = listing_same n (value_in v) (λ i. value_by (get_or words_then (behind v.member.sizes i) 0) (slice_index_or v.entries i None))
      (λ i l. ap (λ (w : ℕ). value_by w (slice_index_or v.entries i None)) (slot_then i l))

-- which places are free, by the words
free_by : {J : Type 0} (w : ℕ) (e : Option J) → MatchesPlace w e → w ≡ 0 → e ≡ None
free_by w None is free = refl
free_by w (Some x) is free = absurd (let four : 0 ≡ 4 = sym free ∙ is in omega arith)

taken_by : {J : Type 0} (w : ℕ) (e : Option J) → MatchesPlace w e → w ≢ 0 → IsSome e
taken_by w None is taken = absurd (taken is)
taken_by w (Some x) is taken = refl

module _ {T J : Type 0} (v : LocalModel T J) (t : AreTied v.member v.entries) where
  -- where no place is free the world's table of jobs is full
  pub all_taken : AllPlacesTaken v.member → IsFull (world_of v).jobs
  all_taken all = places-full v.member.jobs (λ j d low. let l : j < v.member.limits.jobs = (let s = t.table in omega arith) in
      subst (λ (e : Option J). IsSome e) (get_or_any v.member.jobs j None d low)
      (taken_by (word_of v.member (place_number v.member j)) (entry_at v.member.jobs j) (t.jobs j l) (all j l)))
    where
      get_or_any : {A : Type 0} (xs : List A) (i : ℕ) (a b : A) → i < length xs → get_or xs i a ≡ get_or xs i b
      get_or_any [] i a b low = absurd (omega arith)
      get_or_any (x ∷ xs) Rattle.std.proofs.Common.zero a b low = refl
      get_or_any (x ∷ xs) (Rattle.std.proofs.Common.suc i) a b low = get_or_any xs i a b (omega arith)

  -- ---- a job is deferred
  module _ (place count : ℕ) (job : J) (m : LocalState J) (is : DefersTo place count job v.member m) (lone : IsLone v.member) where
    abbrev waits_too : LocalState J
    waits_too = record v.member {
      own = time.awaiting (Job place) v.member.own;
      slots = record v.member.slots { waits = v.member.slots.waits ++ retired_now (place_number v.member place) count ∷ [] };
      words = set v.member.words (behind v.member.sizes (place_number v.member place)) 4;
      jobs = with_entry v.member.jobs place job;
    }

    is_later : m ≡ waits_too
    is_later = is.member ∙ (λ d. record waits_too { known = (is.lone lone).0 d })

    pub empty_before : IsEmptyAt (world_of v).jobs place
    empty_before = empty-places v.member.jobs place (
      (let s = t.table in let l = is.inside in omega arith),
      free_by (word_of v.member (place_number v.member place)) (entry_at v.member.jobs place) (t.jobs place is.inside) (is.lone lone).1,
    )

    what_there : what_of v.member.limits.slots (retired_now (place_number v.member place) count) ≡ Job place
    what_there = what_job v.member.limits.slots (retired_now (place_number v.member place) count) (omega arith) ∙ ap (λ (k : ℕ). Job k) (omega arith)

    pub tied_deferred : AreTied m v.entries
    tied_deferred = subst (λ (x : LocalState J). AreTied x v.entries) (sym is_later)
        (tied_by v t place 4 is.inside waits_too.own waits_too.known waits_too.slots waits_too.due (Some job)
        (λ i l. let s = total_snoc (waits_in i) v.member.slots.waits (retired_now (place_number v.member place) count) in
        let o = is_other i (place_number v.member place) (λ e. omega arith) in omega arith) refl refl
        (one_more v.member.limits.slots (known_waiting v.member.slots) v.member.own.bags.waiting v.member.due t.bags
        (retired_now (place_number v.member place) count) (Job place) refl what_there is.first
        (job_plain v.member.limits.slots (known_waiting v.member.slots) v.member.own.bags.waiting v.member.due t.bags place)) t.now)

    world_waits : alone (record { member = waits_too; entries = v.entries }) ≡ deferred (alone v) 0 place
    world_waits = let q : LocalModel T J = record { member = waits_too; entries = v.entries } in
        λ d. record (alone q) {
          standings = standings_same v t place 4 is.inside d;
          values = values_same v t place 4 is.inside d;
          cells = cells_kept v.member.limits.cells v.member.sizes v.member.words (place_number v.member place) 4 t.all_cells d;
          pointers = pointers_kept v.member.limits.cells v.member.sizes v.member.words (place_number v.member place) 4 t.all_cells d;
          jobs = places-put v.member.jobs place job d;
        }

    pub world_deferred : world_of (record { member = m; entries = v.entries }) ≡ deferred (world_of v) v.member.place place
    world_deferred = steps_alone (λ (w : World T) (p : ℕ). deferred w p place) v (record { member = m; entries = v.entries }) t.place
        (ap (λ (y : LocalState J). y.place) is.member ∙ t.place)
        (ap (λ (y : LocalState J). alone (record { member = y; entries = v.entries })) is_later ∙ world_waits)

  -- ---- a job that is due is taken out
  module _ (place : ℕ) (job : J) (m : LocalState J) (is : TakesJob place job v.member m) where
    abbrev gone : LocalState J
    gone = record v.member {
      slots = record v.member.slots { waits = without_item (place_number v.member place) v.member.slots.waits };
      words = set v.member.words (behind v.member.sizes (place_number v.member place)) 0;
      due = m.due;
      jobs = without_entry v.member.jobs place;
    }

    pub tied_taken : AreTied m v.entries
    tied_taken = subst (λ (x : LocalState J). AreTied x v.entries) (sym is.member)
        (tied_by v t place 0 is.inside gone.own gone.known gone.slots m.due None
        (λ i l. item_kept (place_number v.member place) i (λ e. omega arith) v.member.slots.waits) refl refl
        (first_plain_out v.member.limits.slots (known_waiting v.member.slots) v.member.own.bags.waiting v.member.due t.bags (Job place) m.due is.first is.once)
        t.now)

    world_gone : alone (record { member = gone; entries = v.entries }) ≡ ran (alone v) place
    world_gone = let q : LocalModel T J = record { member = gone; entries = v.entries } in
        λ d. record (alone q) {
          standings = standings_same v t place 0 is.inside d;
          values = values_same v t place 0 is.inside d;
          cells = cells_kept v.member.limits.cells v.member.sizes v.member.words (place_number v.member place) 0 t.all_cells d;
          pointers = pointers_kept v.member.limits.cells v.member.sizes v.member.words (place_number v.member place) 0 t.all_cells d;
          jobs = places-taken v.member.jobs place d;
        }

    pub world_taken : world_of (record { member = m; entries = v.entries }) ≡ ran (world_of v) place
    world_taken = steps_alone (λ (w : World T) (p : ℕ). ran w place) v (record { member = m; entries = v.entries }) t.place
        (ap (λ (y : LocalState J). y.place) is.member ∙ t.place)
        (ap (λ (y : LocalState J). alone (record { member = y; entries = v.entries })) is.member ∙ world_gone)
