-- What a lone participant reclaims, for its world
use Rattle.std.proofs.Common.{◌≡◌, ◌≢◌, ◌⊎◌, inl, inr, ⊎_elim, ℕ, ◌<◌, IsTrue, List, Some, None, set, slice_index_or, sym, refl, ap, ◌∙◌, subst, arith, length-set}
use Rattle.std.specs.Prelude.{Option, Bool, option_map}
use mathlib.Core.Logic.{dite}
use native.Mathlib.Decide.{ℕ_discrete, dec_lt}
use base.Stored.{Gv}
use denote.RattleType.{RattleType}
use Rattle.sdd_participants.specs.declared.waiting.LimboEntry.TheVariants.{Item}
use Rattle.sdd_participants.specs.Tally.{one_reclaimed}
use Rattle.sdd_participants.specs.declared.standing.Standing.{Standing}
use Rattle.sdd_shared_values.specs.SharedValues.{showing}
use Rattle.sdd_rights.specs.declared.views.ShownValue.{ShownValue}
use Rattle.sdd_rights.specs.declared.views.Sizes.{Sizes}
use Rattle.sdd_domain_invariant.specs.Codes.{waiting, waits_for, full, private_word, shared_base}
use Rattle.sdd_domain_invariant.specs.Collectors.{private_in}
use Rattle.sdd_domain_invariant.specs.Collectors.CollectorWordSteps.{without_private}
use Rattle.sdd_domain_invariant.specs.Slots.SlotSteps.{behind, without_item}
use Rattle.sdd_domain_invariant.specs.Sums.{total}
use Rattle.sdd_domain_invariant.specs.Slots.{waits_in}
use Rattle.sdd_domain_invariant.proofs.Codes.{sound, free_is, private_is, waits_privately}
use Rattle.sdd_domain_invariant.proofs.Slots.OwnerSteps.{item_gone, item_kept}
use Rattle.sdd_domain_invariant.specs.Slots.FilledInvariant.{newest}
use Rattle.sdd_world_model.specs.OwnerOrCell.{OwnerOrCell}
use Rattle.sdd_world_model.specs.World.{World, standing_at, value_at}
use Rattle.sdd_world_model.specs.WorldChanges.{waiting_value, taken_out, given_all, reclaimed, slot_reclaimed}
use Rattle.sdd_world_model.specs.WorldChanges as steps
use Rattle.sdd_participants.specs.Slab.{entry_at, without_entry}
use Rattle.sdd_domain_steps.specs.LocalState.{LocalState, place_number, IsLone, Reclaims, word_of}
use Rattle.sdd_domain_steps.specs.InBags.{TellsCollectors, known_waiting}
use Rattle.sdd_domain_core.specs.Collectors.{LosesItem}
use Rattle.sdd_domain_steps.specs.Values.{one_showing}
use Rattle.sdd_domain_steps.specs.WordsAndValues.{MatchesPlace, Agrees, AreTied, is_plain_word}
use Rattle.sdd_domain_steps.specs.Local.{LocalModel, listing, standing_by, value_by, standing_in, value_in, world_of}
use Rattle.sdd_domain_core.proofs.Listings.{listing_at, listing_set}
use Rattle.sdd_domain_steps.proofs.InBags.{first_out, first_slot}
use Rattle.sdd_domain_steps.proofs.PrivateTables.{counts_for, found_in, none_for, none_left, others_for}
use Rattle.sdd_domain_core.proofs.Words.{free_public, no_private, word_same, word_other, stands_private, stands_retired, value_there}
use Rattle.sdd_domain_core.proofs.LoneCalls.{cells_kept, pointers_kept}

value_or : Gv → Option ShownValue → Gv
value_or g None = g
value_or g (Some s) = s.value

entry_of : {T : Type 0} (g : Gv) (r : Option ShownValue) (e : Option (T × Gv)) (slot : ℕ) (shared : Bool)
    → r ≡ Some (record { slot = slot; shared = shared; value = g }) → Agrees r e → (x : T × Gv) × (e ≡ Some x) × (x.1 ≡ g)
unfolding value_or
entry_of g None e slot shared is a = absurd a
entry_of g (Some r) None slot shared is a = absurd a
entry_of g (Some r) (Some x) slot shared is a = (x, refl, a ∙ ap (value_or g) is)

-- an item of its slot goes
module _ {J : Type 0} (R : RattleType) (p : LocalModel R.Denot J) (t : AreTied p.member p.entries)
    (codes : (place : ℕ) (y : R.Denot) (g : Gv) → slice_index_or p.entries place None ≡ Some (y, g) → g ≡ showing R y)
    (slot : ℕ) (x : R.Denot) (m : LocalState J) (is : Reclaims slot (showing R x) p.member m) (one : IsLone p.member) where
  abbrev n : ℕ
  n = p.member.limits.slots

  abbrev z : Sizes
  z = p.member.sizes

  abbrev ws : List ℕ
  ws = p.member.words

  abbrev now : LocalState J
  now = record p.member {
    tally = one_reclaimed p.member.tally;
    slots = record p.member.slots { waits = without_item slot p.member.slots.waits; privates = without_private slot p.member.slots.privates };
    words = set p.member.words (behind p.member.sizes slot) 0;
    due = m.due;
    collectors = without_entry p.member.collectors slot;
  }

  abbrev then : LocalModel R.Denot J
  then = record { member = now; entries = p.entries }

  here : slot < p.member.sizes.slots
  here = let l = is.inside in let s = t.slots in omega arith

  -- its word says that it waits, for no collector or for one
  abbrev PrivateWord : Type 0
  PrivateWord = (c : ℕ) × (word_of p.member slot ≡ private_word c) × (private_word c < shared_base)

  word_here : (waiting (word_of p.member slot) ≡ 1) ⊎ PrivateWord
  word_here = dite (dec_lt 0 (total (private_in slot) p.member.slots.privates))
      (λ some_private. let one = found_in slot p.member.slots.privates some_private in let c : ℕ = one.1.collector in
      let more = counts_for c slot p.member.slots.privates one.0 one.1 one.2 one.3 refl in let w = t.privates slot is.inside c in
      let named = waits_privately c (word_of p.member slot) (omega arith) in inr (c, named.1, let l = named.0 in let e = named.1 in omega arith))
      (λ none. inl (let w = t.waits slot is.inside in let o = is.once in omega arith))

  full_here : full (word_of p.member slot) ≡ 1
  full_here = ⊎_elim (λ (w : waiting (word_of p.member slot) ≡ 1). (sound.waits (word_of p.member slot) (omega arith)).1)
      (λ (named : PrivateWord). ap full named.1 ∙ (private_is named.0 named.2).2) word_here

  taken_here : word_of p.member slot ≢ 0
  taken_here e = let f = (free_is 0 (omega arith)).2 in let a = ap full e in let b = full_here in omega arith

  same : word_of now slot ≡ 0
  same = word_same z ws t.long slot 0 here

  other : (i : ℕ) → i ≢ slot → word_of now i ≡ word_of p.member i
  other i ne = word_other z ws t.long slot 0 i ne

  entry : (e : R.Denot × Gv) × (slice_index_or p.entries slot None ≡ Some e) × (e.1 ≡ showing R x)
  entry = entry_of (showing R x) (newest slot p.member.filled) (slice_index_or p.entries slot None) slot (is.lone one).0 (is.lone one).1
      (t.kept slot is.inside full_here)

  same_value : entry.0.0 ≡ x
  same_value = one_showing R entry.0.0 x (sym (codes slot entry.0.0 entry.0.1 entry.1) ∙ entry.2)

  abbrev stands : Option Standing
  stands = standing_at (world_of p) slot

  at_word : standing_at (world_of p) slot ≡ standing_by (word_of p.member slot)
  at_word = listing_at n (standing_in p) slot None is.inside

  value_waits : waiting_value (world_of p) slot (standing_at (world_of p) slot) ≡ value_at (world_of p) slot
  value_waits = ⊎_elim (λ (w : waiting (word_of p.member slot) ≡ 1). ap (waiting_value (world_of p) slot) (at_word ∙ stands_retired (word_of p.member slot) w))
      (λ (named : PrivateWord). ap (waiting_value (world_of p) slot) (at_word ∙ (ap standing_by named.1 ∙ stands_private named.0 named.2))) word_here

  value_here : value_at (world_of p) slot ≡ Some x
  value_here = listing_at n (value_in p) slot None is.inside
      ∙ (value_there (word_of p.member slot) (slice_index_or p.entries slot None) taken_here
      ∙ (ap (option_map (λ (y : R.Denot × Gv). y.0)) entry.1 ∙ ap Some same_value))

  freed_is : world_of then ≡ steps.freed (world_of p) slot
  freed_is =
      let standings : listing n (standing_in then) ≡ set (listing n (standing_in p)) slot None
      = listing_set n (standing_in p) (standing_in then) slot (λ i l ne. ap standing_by (other i ne))
      ∙ ap (λ (v : ℕ). set (listing n (standing_in p)) slot (standing_by v)) same in
      let values : listing n (value_in then) ≡ set (listing n (value_in p)) slot None
      = listing_set n (value_in p) (value_in then) slot (λ i l ne. ap (λ (v : ℕ). value_by v (slice_index_or p.entries i None)) (other i ne))
      ∙ ap (λ (v : ℕ). set (listing n (value_in p)) slot (value_by v (slice_index_or p.entries slot None))) same in
      λ d. record (world_of then) {
        standings = standings d;
        values = values d;
        cells = cells_kept p.member.limits.cells p.member.sizes p.member.words slot 0 t.all_cells d;
        pointers = pointers_kept p.member.limits.cells p.member.sizes p.member.words slot 0 t.all_cells d;
      }

  goes_now : (holds : R.Denot → List OwnerOrCell) → slot_reclaimed holds (world_of p) p.member.place slot
      ≡ given_all (world_of then) p.member.place (holds x)
  goes_now holds = let w : World R.Denot = world_of p in let k : ℕ = p.member.place in
      ap (taken_out holds w k slot) value_waits
      ∙ (ap (taken_out holds w k slot) value_here ∙ ap (λ (v : World R.Denot). given_all v k (holds x)) (sym freed_is))

  tied_now : AreTied now p.entries
  tied_now = record {
    place = t.place;
    slots = t.slots;
    places = t.places;
    all_cells = t.all_cells;
    long = length-set ws (behind z slot) 0 ∙ t.long;
    wide = t.wide;
    plain = λ i l. dite (ℕ_discrete i slot) (λ e. subst (λ (w : ℕ). IsTrue (is_plain_word w)) (sym (ap (word_of now) e ∙ same)) refl)
        (λ ne. subst (λ (w : ℕ). IsTrue (is_plain_word w)) (sym (other i ne)) (t.plain i l));
    waits = λ i l. dite (ℕ_discrete i slot)
        (λ e. let g = item_gone slot p.member.slots.waits in let u = ap (λ (j : ℕ). total (waits_in j) (without_item slot p.member.slots.waits)) e in
        let a = ap waiting (ap (word_of now) e ∙ same) in let f = (free_is 0 (omega arith)).1 in omega arith)
        (λ ne. let k = item_kept slot i ne p.member.slots.waits in let w = t.waits i l in let s = ap waiting (other i ne) in omega arith);
    privates = λ i l c. dite (ℕ_discrete i slot)
        (λ e. none_for c i (without_private slot p.member.slots.privates)
        (ap (λ (j : ℕ). total (private_in j) (without_private slot p.member.slots.privates)) e ∙ none_left slot p.member.slots.privates)
        ∙ sym (ap (waits_for c) (ap (word_of now) e ∙ same) ∙ no_private c 0 free_public))
        (λ ne. others_for c slot i ne p.member.slots.privates ∙ (t.privates i l c ∙ ap (waits_for c) (sym (other i ne))));
    kept = λ i l filled. dite (ℕ_discrete i slot)
        (λ e. absurd (let f = (free_is 0 (omega arith)).2 in let g = ap full (ap (word_of now) e ∙ same) in omega arith))
        (λ ne. t.kept i l (sym (ap full (other i ne)) ∙ filled));
    table = t.table;
    jobs = λ j l. subst (λ (w : ℕ). MatchesPlace w (entry_at p.member.jobs j))
        (sym (other (place_number p.member j) (λ e. let s = is.inside in omega arith))) (t.jobs j l);
    bags = first_out p.member.limits.slots (known_waiting p.member.slots) p.member.own.bags.waiting p.member.due t.bags (Item slot) m.due is.first;
    now = t.now;
  }

  pub tied_then : AreTied m p.entries
  tied_then = subst (λ (y : LocalState J). AreTied y p.entries) (sym is.member) tied_now

  -- what it gives up then is what the reclaiming of the item does
  pub reclaims_one : (holds : R.Denot → List OwnerOrCell) → reclaimed holds (world_of p) p.member.place (Item slot)
      ≡ given_all (world_of (record { member = m; entries = p.entries })) p.member.place (holds x)
  reclaims_one holds = goes_now holds
      ∙ ap (λ (y : LocalState J). given_all (world_of (record { member = y; entries = p.entries })) p.member.place (holds x)) (sym is.member)

-- what a lone participant has due no close of another has claimed
pub loses_none : {T J : Type 0} (p : LocalModel T J) (t : AreTied p.member p.entries) (slot : ℕ) (m : LocalState J) → LosesItem slot p.member m
    → TellsCollectors p.member.limits.slots p.member.collectors p.member.slots.privates → IsLone p.member → ⊥
loses_none p t slot m is told one = let low = first_slot p.member.limits.slots (known_waiting p.member.slots) p.member.own.bags.waiting p.member.due t.bags slot
    m.due is.first in let more = (told.waits slot is.collector).0 is.kept in let w = t.privates slot low is.collector in
    is.claimed one (waits_privately is.collector (word_of p.member slot) (omega arith)).1
