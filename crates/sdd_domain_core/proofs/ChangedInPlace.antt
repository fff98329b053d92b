-- What a lone participant's changing of an item in its place is for its world
use Rattle.std.proofs.Common.{◌≡◌, ◌≢◌, ℕ, ◌<◌, List, ◌∷◌, Some, None, length, set, slice_index_or, sym, refl, ap, ◌∙◌, subst, arith, length-set, get_or-set_same, get_or-set_other}
use Rattle.std.specs.Prelude.{Option, Bool}
use mathlib.Core.Logic.{dite}
use native.Mathlib.Decide.{ℕ_discrete}
use base.Stored.{Gv}
use Rattle.sdd_rights.specs.declared.views.ShownValue.{ShownValue}
use Rattle.sdd_domain_invariant.specs.Slots.FilledInvariant.{newest}
use Rattle.sdd_domain_invariant.proofs.Slots.FilledInvariant.{newest_now, newest_before}
use Rattle.sdd_world_model.specs.WorldChanges.{with_value}
use Rattle.sdd_domain_steps.specs.LocalState.{ChangesAt, IsLone, KnowsOwner, LocalState, word_of}
use Rattle.sdd_domain_steps.specs.WordsAndValues.{Agrees, AreTied}
use Rattle.sdd_domain_steps.specs.Local.{LocalModel, listing, value_by, value_in, world_of}
use Rattle.sdd_domain_core.proofs.Listings.{listing_set}
use Rattle.sdd_domain_core.proofs.OwnerLooks.{unique_still, taken}
use Rattle.sdd_domain_core.proofs.Words.{value_there}

module _ {T J : Type 0} (v : LocalModel T J) (t : AreTied v.member v.entries) (k : ℕ) (shared : Bool) (was : Gv) (knows : KnowsOwner v.member k shared was)
    (x : T) (g : Gv) (m : LocalState J) (lone : IsLone v.member) (is : ChangesAt k shared g v.member m) where
  abbrev r : ShownValue
  r = record { slot = k; shared = shared; value = g }

  abbrev now : LocalState J
  now = record v.member { filled = record { slot = k; shared = shared; value = g } ∷ v.member.filled }

  abbrev later : LocalModel T J
  later = record { member = now; entries = set v.entries k (Some (x, g)) }

  -- its word is as it was
  is_now : m ≡ now
  is_now = is.member ∙ (λ d. record (unique_still v.member k shared (is.unique lone) d) { filled = r ∷ v.member.filled })

  wide : k < length v.entries
  wide = let w = t.wide in let l = is.inside in omega arith

  filled_then : (i : ℕ) → i ≢ k → newest i now.filled ≡ newest i v.member.filled
  filled_then i ne = newest_before r v.member.filled i (λ e. ne (sym e))

  entry_now : slice_index_or later.entries k None ≡ Some (x, g)
  entry_now = get_or-set_same v.entries k (Some (x, g)) None wide

  entry_then : (i : ℕ) → i ≢ k → slice_index_or later.entries i None ≡ slice_index_or v.entries i None
  entry_then i ne = get_or-set_other v.entries k i (Some (x, g)) None ne

  agrees_now : Agrees (newest k now.filled) (slice_index_or later.entries k None)
  agrees_now = subst (λ (z : Option ShownValue × Option (T × Gv)). Agrees z.0 z.1) (λ d. (sym (newest_now r v.member.filled) d, sym entry_now d)) refl

  tied_now : AreTied now later.entries
  tied_now = record {
    place = t.place;
    slots = t.slots;
    places = t.places;
    all_cells = t.all_cells;
    long = t.long;
    wide = length-set v.entries k (Some (x, g)) ∙ t.wide;
    plain = t.plain;
    waits = t.waits;
    privates = t.privates;
    kept = λ i l filled. dite (ℕ_discrete i k)
        (λ e. subst (λ (j : ℕ). Agrees (newest j now.filled) (slice_index_or later.entries j None)) (sym e) agrees_now)
        (λ ne. subst (λ (z : Option ShownValue × Option (T × Gv)). Agrees z.0 z.1) (λ d. (sym (filled_then i ne) d, sym (entry_then i ne) d))
        (t.kept i l filled));
    table = t.table;
    jobs = t.jobs;
    bags = t.bags;
    now = t.now;
  }

  pub tied_changed : (es : List (Option (T × Gv))) → es ≡ set v.entries k (Some (x, g)) → AreTied m es
  tied_changed es set_is = subst (λ (z : LocalState J × List (Option (T × Gv))). AreTied z.0 z.1) (λ d. (sym is_now d, sym set_is d)) tied_now

  -- the slot stands as it did
  world_now : world_of later ≡ with_value (world_of v) k x
  world_now = let n : ℕ = v.member.limits.slots in
      let values : listing n (value_in later) ≡ set (listing n (value_in v)) k (Some x)
      = listing_set n (value_in v) (value_in later) k (λ i l ne. ap (value_by (word_of v.member i)) (entry_then i ne))
      ∙ ap (set (listing n (value_in v)) k) (ap (value_by (word_of v.member k)) entry_now
      ∙ value_there (word_of v.member k) (Some (x, g)) (taken v t k shared was knows)) in
      λ d. record (world_of later) { values = values d }

  pub world_changed : (es : List (Option (T × Gv))) → es ≡ set v.entries k (Some (x, g))
      → world_of (record { member = m; entries = es }) ≡ with_value (world_of v) k x
  world_changed es set_is = (λ d. world_of (record { member = is_now d; entries = set_is d })) ∙ world_now
