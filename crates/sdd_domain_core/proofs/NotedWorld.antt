-- What is noted of words that are no slot's, nor a job's place's, is for the world of a lone participant
use Rattle.std.proofs.Common.{◌≡◌, ℕ, Bool, true, false, IsTrue, List, None, length, get_or, slice_index_or, sym, ap, ◌∙◌, subst}
use Rattle.std.specs.Prelude.{Option}
use base.Stored.{Gv}
use Rattle.sdd_participants.specs.Slab.{entry_at}
use Rattle.sdd_domain_invariant.specs.Codes.{waiting, waits_for, full}
use Rattle.sdd_domain_invariant.specs.Slots.SlotSteps.{behind}
use Rattle.sdd_world_model.specs.OwnerOrCell.{OwnerOrCell}
use Rattle.sdd_space.specs.Ptr.{KeepsShown}
use Rattle.sdd_space.specs.Undisturbed.{Undisturbed}
use Rattle.sdd_world_model.specs.World.{World}
use Rattle.sdd_world_model.specs.WorldInvariant.{IsWhole}
use Rattle.sdd_world_model.proofs.PlacesMatchStates.{Whole-cells, Whole-pointers}
use Rattle.sdd_domain_steps.specs.LocalState.{LocalState, place_number, IsLone, word_of}
use Rattle.sdd_domain_steps.specs.WordsAndValues.{AreTied, MatchesPlace, WordsMatchValues, is_plain_word}
use Rattle.sdd_domain_steps.specs.Local.{LocalModel, listing, standing_by, value_by, standing_in, value_in, contents_in, pointer_in, world_of}
use Rattle.sdd_domain_core.specs.Sound.{IsSound}
use Rattle.sdd_domain_core.specs.Space.{ShowsBy, Shows, is_lone, caller_of, known_of}
use Rattle.sdd_domain_steps.specs.SpaceIds.{home_in}
use Rattle.sdd_domain_core.proofs.Listings.{listing_same}
use Rattle.sdd_domain_core.proofs.Refusals.{words_only, words_undisturbed}
use Rattle.sdd_domain_core.proofs.Sound.{sound_then}

module _ {T J : Type 0} (v : LocalModel T J) (ws : List ℕ) (as_long : length ws ≡ length v.member.words)
    (kept : (i : ℕ) → get_or ws (behind v.member.sizes i) 0 ≡ word_of v.member i) (m : LocalState J) (is : m ≡ record v.member { words = ws }) where
  abbrev noted : LocalState J
  noted = record v.member { words = ws }

  abbrev after : LocalModel T J
  after = record { member = noted; entries = v.entries }

  lone_before : IsLone m → IsLone v.member
  lone_before one = sym (ap (λ (y : LocalState J). y.limits.participants) is) ∙ one

  tied_now : AreTied v.member v.entries → AreTied noted v.entries
  tied_now t = record {
    place = t.place;
    slots = t.slots;
    places = t.places;
    all_cells = t.all_cells;
    long = as_long ∙ t.long;
    wide = t.wide;
    plain = λ i l. subst (λ (w : ℕ). IsTrue (is_plain_word w)) (sym (kept i)) (t.plain i l);
    waits = λ i l. t.waits i l ∙ ap waiting (sym (kept i));
    privates = λ i l c. t.privates i l c ∙ ap (waits_for c) (sym (kept i));
    kept = λ i l filled. t.kept i l (sym (ap full (kept i)) ∙ filled);
    table = t.table;
    jobs = λ j l. subst (λ (w : ℕ). MatchesPlace w (entry_at v.member.jobs j)) (sym (kept (place_number v.member j))) (t.jobs j l);
    bags = t.bags;
    now = t.now;
  }

  -- words, bags and ghost values go together still
  pub tied_noted : AreTied v.member v.entries → AreTied m v.entries
  tied_noted t = subst (λ (y : LocalState J). AreTied y v.entries) (sym is) (tied_now t)

  pub matched_noted : WordsMatchValues v.member v.entries → WordsMatchValues m v.entries
  matched_noted tied one = tied_noted (tied (lone_before one))

  values_same : listing v.member.limits.slots (value_in after) ≡ listing v.member.limits.slots (value_in v)
  values_same = listing_same v.member.limits.slots (value_in v) (value_in after)
      (λ i l. ap (λ (w : ℕ). value_by w (slice_index_or v.entries i None)) (kept i))

  -- in its world no more than cells are others, and what raw ones point to
  pub world_noted : world_of (record { member = m; entries = v.entries })
      ≡ record (world_of v) { cells = listing v.member.limits.cells (contents_in after); pointers = listing v.member.limits.cells (pointer_in after) }
  world_noted = let n : ℕ = v.member.limits.slots in
      let standings : listing n (standing_in after) ≡ listing n (standing_in v)
      = listing_same n (standing_in v) (standing_in after) (λ i l. ap standing_by (kept i)) in
      ap (λ (y : LocalState J). world_of {T = T} (record { member = y; entries = v.entries })) is
      ∙ (λ d. record (world_of after) { standings = standings d; values = values_same d })

  -- what is always true is true after it
  pub sound_noted : (holds : T → List OwnerOrCell) → IsSound holds v → IsSound holds (record { member = m; entries = v.entries })
  sound_noted holds sound = sound_then holds v m sound (ap (λ (y : LocalState J). y.due) is ∙ sound.settled)
      (ap (λ (y : LocalState J). y.slots.closes) is ∙ sound.closes) (ap home_in is)
      (λ one. subst (λ (w : World T). IsWhole w) (sym world_noted)
      (Whole-pointers (record (world_of v) { cells = listing v.member.limits.cells (contents_in after) })
      (listing v.member.limits.cells (pointer_in after))
      (Whole-cells (world_of v) (listing v.member.limits.cells (contents_in after)) (sound.whole (lone_before one)))))

  -- what is shown is shown still, and nothing else is disturbed
  keeps_by : (shown : T → Gv) (holds : T → List OwnerOrCell) (b : Bool) (i : ℕ) (u : T) → ShowsBy b shown holds v i u
      → ShowsBy b shown holds after i u
  keeps_by shown holds true i u h = ap (λ (l : List (Option T)). slice_index_or l i None) values_same ∙ h
  keeps_by shown holds false i u h = record { known = h.known; only = h.only; home = h.home }

  pub noted_keeps : (shown : T → Gv) (holds : T → List OwnerOrCell)
      → KeepsShown (Shows shown holds v) (Shows shown holds (record { member = m; entries = v.entries }))
  noted_keeps shown holds = subst (λ (y : LocalState J). KeepsShown (Shows shown holds v) (Shows shown holds (record { member = y; entries = v.entries })))
      (sym is) (λ i u h. keeps_by shown holds (is_lone v.member) i u h)

  pub noted_undisturbed : (p : LocalModel T J) → v ≡ p → (shown : T → Gv) (holds : T → List OwnerOrCell)
      → Undisturbed caller_of (λ (q : LocalModel T J). q.member.own) known_of (λ (q : LocalModel T J). Shows shown holds q) p
      (record { member = m; entries = v.entries })
  noted_undisturbed p same shown holds = words_undisturbed v m (words_only m v.member ws is) shown holds p same (noted_keeps shown holds)
