-- What the calls of a lone participant do to its world
use Rattle.std.proofs.Common.{◌≡◌, ℕ, suc, ◌+◌, false, List, [], ◌∷◌, Some, None, get_or, get_or-set_other, set, replicate, slice_index_or, sym, ap, ◌∙◌, arith}
use Rattle.std.specs.Prelude.{Option}
use Rattle.sdd_participants.specs.declared.participant.Participant.{Participant}
use Rattle.sdd_participants.specs.declared.place_states.PlaceState.TheVariants.{Live}
use Rattle.sdd_participants.specs.declared.standing.Standing.{Standing}
use Rattle.sdd_participants.specs.declared.standing.CellContents.{CellContents}
use Rattle.sdd_participants.specs.declared.standing.RawCellContents.{RawCellContents}
use Rattle.sdd_participants.specs.declared.tally.Tally.{Tally}
use Rattle.sdd_rights.specs.declared.views.Sizes.{Sizes}
use Rattle.sdd_domain_invariant.specs.Slots.SlotSteps.{behind}
use Rattle.sdd_domain_invariant.specs.Cells.CellWordSteps.{pointer_behind}
use Rattle.sdd_participants.specs.Jobs.{places_of}
use Rattle.sdd_world_model.specs.World.{World}
use Rattle.sdd_domain_steps.specs.SpaceIds.{home_in}
use Rattle.sdd_domain_core.proofs.Listings.{listing_same}
use Rattle.sdd_domain_steps.specs.Local.{LocalModel, listing, standing_by, value_by, contents_by, pointer_by, world_of}

-- ---- a world of one participant
-- what a cell holds by these words
abbrev pub contents_with : List ℕ → ℕ → Option CellContents
contents_with ws i = contents_by (get_or ws i 0)

-- where the word of a slot, or of a job's place, changes, the cells hold what they held
pub cells_kept : (n : ℕ) (z : Sizes) (ws : List ℕ) (number y : ℕ) → z.cells ≡ n
    → listing n (contents_with (set ws (behind z number) y)) ≡ listing n (contents_with ws)
cells_kept n z ws number y all = listing_same n (contents_with ws) (contents_with (set ws (behind z number) y))
    (λ i l. ap contents_by (get_or-set_other ws (behind z number) i y 0 (λ e. omega arith)))

-- what raw cells point to by these words
abbrev pub pointer_with : Sizes → List ℕ → ℕ → RawCellContents
pointer_with z ws i = pointer_by (get_or ws (pointer_behind z i) 0)

-- they point to what they pointed to
pub pointers_kept : (n : ℕ) (z : Sizes) (ws : List ℕ) (number y : ℕ) → z.cells ≡ n
    → listing n (pointer_with z (set ws (behind z number) y)) ≡ listing n (pointer_with z ws)
pointers_kept n z ws number y all = listing_same n (pointer_with z ws) (pointer_with z (set ws (behind z number) y))
    (λ i l. ap pointer_by (get_or-set_other ws (behind z number) (pointer_behind z i) y 0 (λ e. omega arith)))

module _ {T : Type 0} where
  abbrev pub standing_with : {J : Type 0} → LocalModel T J → List ℕ → ℕ → Option Standing
  standing_with p ws i = standing_by (get_or ws (behind p.member.sizes i) 0)

  abbrev pub value_with : {J : Type 0} → LocalModel T J → List ℕ → ℕ → Option T
  value_with p ws i = value_by (get_or ws (behind p.member.sizes i) 0) (slice_index_or p.entries i None)

  -- that of this one, where it keeps so much of its own, and knows these words
  abbrev pub alone_with : {J : Type 0} → LocalModel T J → Participant → List ℕ → Tally → World T
  alone_with p own ws tally = record {
    home = home_in p.member;
    time = record {
      count = p.member.known;
      marked = false;
      places = own ∷ [];
      phases = Some Live ∷ [];
      participants = p.member.limits.participants;
      nesting = p.member.limits.nesting;
      room = p.member.limits.slots + p.member.limits.jobs;
    };
    standings = listing p.member.limits.slots (standing_with p ws);
    values = listing p.member.limits.slots (value_with p ws);
    cells = listing p.member.limits.cells (contents_with ws);
    pointers = listing p.member.limits.cells (pointer_with p.member.sizes ws);
    jobs = places_of p.member.jobs;
    tally = tally;
  }

  abbrev pub alone : {J : Type 0} → LocalModel T J → World T
  alone p = alone_with p p.member.own p.member.words p.member.tally

  pub alone_is : {J : Type 0} (p : LocalModel T J) → p.member.place ≡ 0 → world_of p ≡ alone p
  alone_is p first = λ d. record (world_of p) {
    time = record (world_of p).time {
      places = replicate (suc (first d)) p.member.own;
      phases = replicate (suc (first d)) (Some Live);
    };
  }

  -- a step of the first place is one of the participant's own
  pub steps_alone : {J : Type 0} (step : World T → ℕ → World T) (p q : LocalModel T J) → p.member.place ≡ 0 → q.member.place ≡ 0 → alone q ≡ step (alone p) 0
      → world_of q ≡ step (world_of p) p.member.place
  steps_alone step p q first still same = alone_is q still ∙ (same ∙ (λ d. step (sym (alone_is p first) d) (sym first d)))
