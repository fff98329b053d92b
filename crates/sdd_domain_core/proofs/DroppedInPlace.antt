-- What a lone participant's dropping of an item in its place is for its world
use Rattle.std.proofs.Common.{◌≡◌, ◌≢◌, ℕ, ◌<◌, IsTrue, List, Some, None, set, slice_index_or, sym, refl, ap, ◌∙◌, subst, arith, length-set}
use Rattle.std.specs.Prelude.{Bool}
use mathlib.Core.Logic.{dite}
use native.Mathlib.Decide.{ℕ_discrete}
use base.Stored.{Gv}
use denote.RattleType.{RattleType}
use Rattle.sdd_participants.specs.Slab.{entry_at}
use Rattle.sdd_participants.specs.Tally.{one_in_place}
use Rattle.sdd_shared_values.specs.SharedValues.{showing}
use Rattle.sdd_rights.specs.declared.views.Sizes.{Sizes}
use Rattle.sdd_domain_invariant.specs.Codes.{waiting, waits_for, full}
use Rattle.sdd_domain_invariant.specs.Slots.SlotSteps.{behind}
use Rattle.sdd_domain_invariant.proofs.Codes.{free_is, sound}
use Rattle.sdd_world_model.specs.OwnerOrCell.{OwnerOrCell}
use Rattle.sdd_world_model.specs.World.{World, value_at}
use Rattle.sdd_world_model.specs.WorldChanges.{dropped, dropped_out, given_all, vacated}
use Rattle.sdd_domain_steps.specs.LocalState.{DropsAt, KnowsOwner, LocalState, place_number, word_of}
use Rattle.sdd_domain_steps.specs.Values.{one_showing}
use Rattle.sdd_domain_steps.specs.WordsAndValues.{AreTied, MatchesPlace, is_plain_word}
use Rattle.sdd_domain_steps.specs.Local.{LocalModel, listing, standing_by, value_by, standing_in, value_in, world_of}
use Rattle.sdd_domain_core.proofs.Listings.{listing_set}
use Rattle.sdd_domain_core.proofs.OwnerLooks.{entry, has_value}
use Rattle.sdd_domain_core.proofs.Words.{alive_public, free_public, public_alike, word_same, word_other}
use Rattle.sdd_domain_core.proofs.LoneCalls.{cells_kept, pointers_kept}

-- an owner's item has the value that its owner tells
module _ {J : Type 0} (R : RattleType) (v : LocalModel R.Denot J) (t : AreTied v.member v.entries)
    (codes : (place : ℕ) (y : R.Denot) (g : Gv) → slice_index_or v.entries place None ≡ Some (y, g) → g ≡ showing R y)
    (k : ℕ) (shared : Bool) (x : R.Denot) (knows : KnowsOwner v.member k shared (showing R x)) where
  pub told_value : value_at (world_of v) k ≡ Some x
  told_value = let e = entry v t k shared (showing R x) knows in
      has_value v t k shared (showing R x) knows ∙ ap Some (one_showing R e.0.0 x (sym (codes k e.0.0 e.0.1 e.1) ∙ e.2))

  -- and is dropped
  module _ (m : LocalState J) (is : DropsAt k shared v.member m) where
    abbrev z : Sizes
    z = v.member.sizes

    abbrev ws : List ℕ
    ws = v.member.words

    abbrev now : LocalState J
    now = record v.member { tally = one_in_place v.member.tally; words = set v.member.words (behind v.member.sizes k) 0 }

    abbrev then : LocalModel R.Denot J
    then = record { member = now; entries = v.entries }

    here : k < v.member.sizes.slots
    here = let l = is.inside in let s = t.slots in omega arith

    same : word_of now k ≡ 0
    same = word_same z ws t.long k 0 here

    other : (i : ℕ) → i ≢ k → word_of now i ≡ word_of v.member i
    other i ne = word_other z ws t.long k 0 i ne

    vacated_is : world_of then ≡ vacated (world_of v) k
    vacated_is = let n : ℕ = v.member.limits.slots in
        let standings : listing n (standing_in then) ≡ set (listing n (standing_in v)) k None
        = listing_set n (standing_in v) (standing_in then) k (λ i l ne. ap standing_by (other i ne))
        ∙ ap (λ (y : ℕ). set (listing n (standing_in v)) k (standing_by y)) same in
        let values : listing n (value_in then) ≡ set (listing n (value_in v)) k None
        = listing_set n (value_in v) (value_in then) k (λ i l ne. ap (λ (y : ℕ). value_by y (slice_index_or v.entries i None)) (other i ne))
        ∙ ap (λ (y : ℕ). set (listing n (value_in v)) k (value_by y (slice_index_or v.entries k None))) same in
        λ d. record (world_of then) {
          standings = standings d;
          values = values d;
          cells = cells_kept v.member.limits.cells z ws k 0 t.all_cells d;
          pointers = pointers_kept v.member.limits.cells z ws k 0 t.all_cells d;
        }

    -- what the value gives up then is what the dropping does
    pub drops_now : (holds : R.Denot → List OwnerOrCell) → dropped holds (world_of v) v.member.place k
        ≡ given_all (world_of (record { member = m; entries = v.entries })) m.place (holds x)
    drops_now holds = ap (dropped_out holds (world_of v) v.member.place k) told_value
        ∙ (ap (λ (w : World R.Denot). given_all w v.member.place (holds x)) (sym vacated_is)
        ∙ ap (λ (y : LocalState J). given_all (world_of (record { member = y; entries = v.entries })) y.place (holds x)) (sym is.member))

    tied_now : AreTied now v.entries
    tied_now = let quiet = (sound.lives (word_of v.member k) knows.alive).0 in record {
      place = t.place;
      slots = t.slots;
      places = t.places;
      all_cells = t.all_cells;
      long = length-set ws (behind z k) 0 ∙ t.long;
      wide = t.wide;
      plain = λ i l. dite (ℕ_discrete i k) (λ e. subst (λ (w : ℕ). IsTrue (is_plain_word w)) (sym (ap (word_of now) e ∙ same)) refl)
          (λ ne. subst (λ (w : ℕ). IsTrue (is_plain_word w)) (sym (other i ne)) (t.plain i l));
      waits = λ i l. dite (ℕ_discrete i k)
          (λ e. let w = t.waits i l in let a = ap waiting (ap (word_of v.member) e) in let b = ap waiting (ap (word_of now) e ∙ same) in
          let f = (free_is 0 (omega arith)).1 in omega arith)
          (λ ne. t.waits i l ∙ ap waiting (sym (other i ne)));
      privates = λ i l c. dite (ℕ_discrete i k)
          (λ e. t.privates i l c ∙ (ap (waits_for c) (ap (word_of v.member) e)
          ∙ (public_alike c (word_of v.member k) 0 (alive_public (word_of v.member k) knows.alive) free_public
          ∙ ap (waits_for c) (sym (ap (word_of now) e ∙ same)))))
          (λ ne. t.privates i l c ∙ ap (waits_for c) (sym (other i ne)));
      kept = λ i l filled. dite (ℕ_discrete i k)
          (λ e. absurd (let f = (free_is 0 (omega arith)).2 in let g = ap full (ap (word_of now) e ∙ same) in omega arith))
          (λ ne. t.kept i l (sym (ap full (other i ne)) ∙ filled));
      table = t.table;
      jobs = λ j l. subst (λ (w : ℕ). MatchesPlace w (entry_at v.member.jobs j))
          (sym (other (place_number v.member j) (λ e. let s = is.inside in absurd (omega arith)))) (t.jobs j l);
      bags = t.bags;
      now = t.now;
    }

    pub tied_dropped : AreTied m v.entries
    tied_dropped = subst (λ (y : LocalState J). AreTied y v.entries) (sym is.member) tied_now
