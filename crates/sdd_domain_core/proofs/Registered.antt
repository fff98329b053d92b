-- A lone participant that has just registered
use Rattle.std.proofs.Common.{◌≡◌, ℕ, zero, suc, ◌+◌, ◌<◌, ◌≤◌, IsTrue, List, [], ◌∷◌, None, Some, length, map, get_or, replicate, slice_index_or, sym, refl, ap, ◌∙◌, subst, arith}
use Rattle.std.proofs.lemmas.List.{length-replicate}
use Rattle.std.specs.Prelude.{Option}
use Rattle.atomic_table.specs.Seated.{TableId}
use Rattle.sdd_participants.specs.Slab.{entry_at}
use Rattle.sdd_participants.specs.declared.participant.Participant.{Participant}
use Rattle.sdd_participants.specs.declared.place_states.PlaceState.TheVariants.{Live}
use Rattle.sdd_participants.specs.declared.waiting.LimboEntry.{LimboEntry}
use Rattle.sdd_core.specs.declared.limits.Limits.{Limits}
use Rattle.sdd_rights.specs.declared.views.SlotsView.{SlotsView}
use Rattle.sdd_domain_invariant.specs.Codes.{waiting, waits_for, full}
use Rattle.sdd_domain_invariant.specs.Words.{words_behind}
use Rattle.sdd_domain_invariant.specs.Slots.SlotSteps.{behind}
use Rattle.sdd_domain_invariant.specs.Cells.CellWordSteps.{pointer_behind}
use Rattle.sdd_world_model.specs.Cells.{null_pointer}
use Rattle.sdd_domain_invariant.specs.Sums.{total}
use Rattle.sdd_domain_invariant.specs.Slots.{waits_in}
use Rattle.sdd_domain_invariant.proofs.Codes.{free_is}
use Rattle.sdd_participants.specs.Jobs.{places_of}
use Rattle.sdd_participants.proofs.Places.{places-none}
use Rattle.sdd_domain_steps.specs.LocalState.{LocalState, IsLone, IsNew, word_of, cell_word_of, pointer_word_of, place_number}
use Rattle.sdd_domain_steps.specs.InBags.{AreInBags, known_waiting, private_for}
use Rattle.sdd_domain_steps.specs.WordsAndValues.{Entries, WordsMatchValues, MatchesPlace, is_plain_word}
use Rattle.sdd_domain_steps.specs.Local.{LocalModel, IsBlankAlone, listing, standing_by, value_by, contents_by, pointer_by, standing_in, value_in, contents_in, pointer_in, world_of}
use Rattle.sdd_world_model.proofs.OwnerCounts.{blank-at}
use Rattle.sdd_domain_steps.proofs.InBags.{nothing_known}
use Rattle.sdd_domain_core.proofs.Listings.{listing_same}
use Rattle.sdd_domain_core.proofs.Words.{free_public, no_private}

zeros : (n i : ℕ) → ◌≡◌ {A = ℕ} (get_or (replicate n 0) i 0) 0
zeros zero i = refl
zeros (suc n) zero = refl
zeros (suc n) (suc i) = zeros n i

listing_alike : {A : Type 0} (a : A) (n : ℕ) → listing n (λ (i : ℕ). a) ≡ replicate n a
listing_alike a zero = refl
listing_alike a (suc n) = ap (λ l. a ∷ l) (listing_alike a n)

module _ {T J : Type 0} (home : TableId) (gamma : ℕ) (most : Limits) (m : LocalState J) (es : Entries T) (is : IsNew home gamma most m)
    (none : es ≡ replicate most.slots None) where
  word_free : (i : ℕ) → word_of m i ≡ 0
  word_free i = ap (λ (ws : List ℕ). get_or ws (behind m.sizes i) 0) is.words ∙ zeros (words_behind m.sizes) (behind m.sizes i)

  slots_are : m.limits.slots ≡ most.slots
  slots_are = ap (λ (l : Limits). l.slots) is.limits

  jobs_are : m.limits.jobs ≡ most.jobs
  jobs_are = ap (λ (l : Limits). l.jobs) is.limits

  cells_are : m.limits.cells ≡ most.cells
  cells_are = ap (λ (l : Limits). l.cells) is.limits

  cell_free : (i : ℕ) → cell_word_of m i ≡ 0
  cell_free i = ap (λ (ws : List ℕ). get_or ws i 0) is.words ∙ zeros (words_behind m.sizes) i

  pointer_free : (i : ℕ) → pointer_word_of m i ≡ 0
  pointer_free i = ap (λ (ws : List ℕ). get_or ws (pointer_behind m.sizes i) 0) is.words ∙ zeros (words_behind m.sizes) (pointer_behind m.sizes i)

  nothing_waits : (i : ℕ) → total (waits_in i) m.slots.waits ≡ 0
  nothing_waits i = ap (λ (s : SlotsView). total (waits_in i) s.waits) is.slots

  place_first : IsLone m → m.place ≡ 0
  place_first one = let p = is.place in let l = ap (λ (x : Limits). x.participants) is.limits in omega arith

  pub tied_new : WordsMatchValues m es
  tied_new one = record {
    place = place_first one;
    slots = is.sizes.1 ∙ sym slots_are;
    places = is.sizes.2 ∙ sym jobs_are;
    all_cells = is.sizes.3 ∙ sym cells_are;
    long = ap length is.words ∙ length-replicate (words_behind m.sizes) 0;
    wide = ap length none ∙ (length-replicate most.slots None ∙ sym slots_are);
    plain = λ i l. subst (λ (y : ℕ). IsTrue (is_plain_word y)) (sym (word_free i)) refl;
    waits = λ i l. nothing_waits i ∙ (sym ((free_is 0 (omega arith)).1) ∙ ap waiting (sym (word_free i)));
    privates = λ i l c. ap (λ (s : SlotsView). total (private_for c i) s.privates) is.slots
        ∙ (sym (no_private c 0 free_public) ∙ ap (waits_for c) (sym (word_free i)));
    kept = λ i l filled. absurd (let f = (free_is 0 (omega arith)).2 in let g = ap full (word_free i) in omega arith);
    table = ap length is.jobs ∙ (length-replicate most.jobs None ∙ sym jobs_are);
    jobs = λ j l. subst (λ (z : ℕ × Option J). MatchesPlace z.0 z.1)
        (λ d. (sym (word_free (place_number m j)) d, sym (ap (λ ps. entry_at ps j) is.jobs ∙ blank-at most.jobs j) d)) refl;
    bags = subst (λ (z : SlotsView × Participant × List LimboEntry). AreInBags m.limits.slots (known_waiting z.0) z.1.bags.waiting z.2)
        (λ d. (sym is.slots d, sym is.own d, sym is.due d)) (nothing_known m.limits.slots None);
    now = λ some_open. absurd (let g = ap (λ (p : Participant). p.guards) is.own in omega arith);
  }

  pub blank_new : IsLone m → IsBlankAlone most (world_of (record { member = m; entries = es }))
  blank_new one = let q : LocalModel T J = record { member = m; entries = es } in record {
    time = λ d. record {
      count = is.lone one d;
      marked = Rattle.std.proofs.Common.false;
      places = replicate (suc (place_first one d)) (is.own d);
      phases = replicate (suc (place_first one d)) (Some Live);
      participants = (is.limits d).participants;
      nesting = (is.limits d).nesting;
      room = (is.limits d).slots + (is.limits d).jobs;
    };
    standings = listing_same m.limits.slots (λ (i : ℕ). None) (standing_in q) (λ i l. ap standing_by (word_free i))
        ∙ (listing_alike None m.limits.slots ∙ ap (λ (n : ℕ). replicate n None) slots_are);
    values = listing_same m.limits.slots (λ (i : ℕ). None) (value_in q) (λ i l. ap (λ (w : ℕ). value_by w (slice_index_or es i None)) (word_free i))
        ∙ (listing_alike None m.limits.slots ∙ ap (λ (n : ℕ). replicate n None) slots_are);
    cells = listing_same m.limits.cells (λ (i : ℕ). None) (contents_in q) (λ i l. ap contents_by (cell_free i))
        ∙ (listing_alike None m.limits.cells ∙ ap (λ (n : ℕ). replicate n None) cells_are);
    pointers = listing_same m.limits.cells (λ (i : ℕ). null_pointer) (pointer_in q) (λ i l. ap pointer_by (pointer_free i))
        ∙ (listing_alike null_pointer m.limits.cells ∙ ap (λ (n : ℕ). replicate n null_pointer) cells_are);
    jobs = ap places_of is.jobs ∙ places-none J most.jobs;
    tally = is.tally;
  }
