-- A participant is between calls, and what is in its bags is what it knows to wait, once an item that waited with it for no collector waits for one
use Rattle.std.proofs.Common.{◌≡◌, ◌≢◌, ℕ, ◌<◌, List, [], ◌∷◌, ◌++◌, Option, None, length, refl, sym, ap, ◌∙◌, subst, ⊎_elim, arith}
use Rattle.std.specs.Prelude.{Bool, slice_set}
use Rattle.std.proofs.lemmas.List.{set-set}
use mathlib.Core.Option.{some}
use lib.ListN.{get_elem?}
use Rattle.atomic_table.proofs.Lists.{at_last, at_snoc}
use Rattle.atomic_table.specs.declared.shared.Seat.{Seat}
use Rattle.sdd_participants.specs.Slab.{Entries, with_entry}
use Rattle.sdd_participants.specs.declared.participant.Participant.{Participant}
use Rattle.sdd_participants.specs.declared.waiting.LimboEntry.{LimboEntry}
use Rattle.sdd_participants.specs.declared.waiting.LimboEntry.TheVariants.{Item}
use Rattle.sdd_participants.specs.EpochState.{awaiting}
use Rattle.sdd_participants.specs.Waiting.{Waiting}
use Rattle.sdd_shared_values.specs.declared.value_fraction.ValueFraction.{ValueFraction}
use Rattle.sdd_rights.specs.declared.views.WaitingItem.{WaitingItem}
use Rattle.sdd_rights.specs.declared.views.View.{View}
use Rattle.sdd_domain_invariant.specs.Codes.{private_word, retired_word, shared_base}
use Rattle.sdd_domain_invariant.specs.Collectors.{private_in}
use Rattle.sdd_domain_invariant.specs.Collectors.CollectorWordSteps.{HasWaiting, for_collector}
use Rattle.sdd_domain_invariant.specs.Slots.SlotSteps.{behind, noted, retired_now, without_item}
use Rattle.sdd_domain_invariant.specs.Sums.{total}
use Rattle.sdd_domain_invariant.specs.Slots.{waits_in}
use Rattle.sdd_domain_invariant.proofs.Sums.{is_other, is_same, total_has, total_snoc}
use Rattle.sdd_domain_invariant.specs.Collectors.CollectorSteps.{CollectsOne}
use Rattle.sdd_domain_invariant.specs.Fractions.FractionSteps.{forgetting, without_record}
use Rattle.sdd_atomics.specs.TableFacts.{TableFacts, slots_of}
use Rattle.sdd_atomics.specs.DomainSeat.{Moved}
use Rattle.sdd_domain_steps.specs.BetweenCalls.{IsBetweenCalls}
use Rattle.sdd_domain_core.specs.Collectors.{CollectsAt}
use Rattle.sdd_domain_steps.specs.LocalState.{LocalState, RetiresAt}
use Rattle.sdd_domain_steps.specs.InBags.{AreInBags, KnownWaiting, TellsCollectors, is_closed, known_waiting}
use Rattle.sdd_domain_steps.proofs.InBags.{known_once, none_plain, turned_private, without_last}
use Rattle.sdd_domain_steps.proofs.BetweenCalls.{between_calls_waits}
use Rattle.sdd_domain_steps.proofs.PrivateTables.{told_collected}
use Rattle.sdd_domain_steps.proofs.Reclaims.{no_more}

-- the newest of what waits is of its slot
pub newest_waits : (slot count : ℕ) (v : View) (xs : List WaitingItem) → v.slots.waits ≡ xs ++ retired_now slot count ∷ []
    → HasWaiting v slot (retired_now slot count)
newest_waits slot count v xs is = let x : WaitingItem = retired_now slot count in
    (refl, (length xs, ap (λ (l : List WaitingItem). get_elem? l (length xs)) is ∙ at_last xs x (length xs) refl))

-- where no other is of its slot, that is it
last_is : (slot : ℕ) (xs : List WaitingItem) (y x : WaitingItem) (m : ℕ) → total (waits_in slot) xs ≡ 0
    → get_elem? (xs ++ y ∷ []) m ≡ some x → x.slot ≡ slot → x ≡ y
last_is slot xs y x m none at here = ⊎_elim
    (λ (inside : get_elem? xs m ≡ some x). absurd (let h = total_has (waits_in slot) xs m x inside in let one = is_same slot x.slot here in omega arith))
    (λ (e : y ≡ x). sym e) (at_snoc xs y x m at)

-- the item of a slot, retired at a count, waits for a collector, and these items for none
abbrev pub turned : {J : Type 0} → (collector slot count : ℕ) → List WaitingItem → LocalState J → LocalState J
turned collector slot count xs m = record m {
  slots = record m.slots { waits = xs; privates = m.slots.privates ++ for_collector collector (retired_now slot count) ∷ [] };
  words = slice_set m.words (behind m.sizes slot) (private_word collector);
  collectors = with_entry m.collectors slot collector;
}

-- what a participant is then, as its callers see it
pub collects_to : {J : Type 0} (old mid now : LocalState J) (collector slot count : ℕ) (shared : Bool) → RetiresAt slot shared count old mid
    → now ≡ turned collector slot count old.slots.waits mid → private_word collector < shared_base → CollectsAt collector slot shared count old now
collects_to old mid now collector slot count shared retires is fits = record {
  member = is ∙ (ap (turned collector slot count old.slots.waits) retires.member ∙ (λ d. record old {
    own = awaiting (Item slot) old.own;
    known = count;
    slots = record old.slots { privates = old.slots.privates ++ for_collector collector (retired_now slot count) ∷ [] };
    words = set-set old.words (behind old.sizes slot) (retired_word shared) (private_word collector) d;
    collectors = with_entry old.collectors slot collector;
  }));
  knew = retires.knew;
  lone = retires.lone;
  last = retires.last;
  fits = fits;
}

module _ (b : TableFacts) (p : ℕ) (own : Participant) (collector slot : ℕ) (s u : Seat ValueFraction View)
    (moved : Moved (CollectsOne collector slot) s (private_word collector) u) where
  abbrev item : WaitingItem
  item = moved.2.1.0

  here : item.slot ≡ slot
  here = moved.2.1.1.0

  abbrev which : ℕ
  which = moved.2.1.1.1.0

  at : get_elem? s.me.0.slots.waits which ≡ some item
  at = moved.2.1.1.1.1

  -- what is known then
  abbrev collected_view : View
  collected_view = record s.me.0 {
    slots = record s.me.0.slots {
      waits = without_item slot s.me.0.slots.waits;
      privates = s.me.0.slots.privates ++ for_collector collector item ∷ [];
    };
    fractions = record s.me.0.fractions { waits = without_record slot s.me.0.fractions.waits };
    words = noted slot (private_word collector) s.me.0;
  }

  pub view_collected : u.me.0 ≡ collected_view
  view_collected = moved.2.2 ∙ ap (forgetting slot) moved.2.1.2

  pub others_collected : u.me.1 ≡ s.me.1
  others_collected = moved.2.3

  pub collected_between_calls : IsBetweenCalls b p own s → IsBetweenCalls b p own u
  collected_between_calls q = between_calls_waits b p own s u (without_item slot s.me.0.slots.waits)
      (s.me.0.slots.privates ++ for_collector collector item ∷ [])
      (without_record slot s.me.0.fractions.waits) s.me.0.fractions.counts (noted slot
      (private_word collector) s.me.0) q moved.0 others_collected view_collected
      (λ i some_wait. q.waiting i (let m = no_more slot i s.me.0.slots.waits in omega arith))

  one_waits : 0 < total (waits_in slot) s.me.0.slots.waits
  one_waits = let h = total_has (waits_in slot) s.me.0.slots.waits which item at in let o = is_same slot item.slot here in omega arith

  module _ (waiting : List Waiting) (taken : List LimboEntry) (t : AreInBags (slots_of b) (known_waiting s.me.0.slots) waiting taken) where
    -- none waited for a collector in the slot
    none_before : total (private_in slot) s.me.0.slots.privates ≡ 0
    none_before = let o = known_once (slots_of b) (known_waiting s.me.0.slots) waiting taken t slot in let w = one_waits in omega arith

    pub collected_bags : slot < slots_of b → s.me.0.slots.closes ≡ None → AreInBags (slots_of b) (known_waiting u.me.0.slots) waiting taken
    collected_bags low none = let known : KnownWaiting = known_waiting s.me.0.slots in let n : ℕ = slots_of b in
        subst (λ (k : KnownWaiting). AreInBags n k waiting taken) (sym (ap (λ (v : View). known_waiting v.slots) view_collected))
        (subst (λ (i : ℕ). AreInBags n (record known { plain = without_item i known.plain; private = known.private ++ for_collector collector item ∷ [] })
        waiting taken) here (turned_private n known waiting taken t collector which item at (let h = here in omega arith)
        (ap (λ (o : Option ℕ). is_closed o collector) none)))

    pub collected_told : (table : Entries ℕ) → slot < slots_of b → TellsCollectors (slots_of b) table s.me.0.slots.privates
        → TellsCollectors (slots_of b) (with_entry table slot collector) u.me.0.slots.privates
    collected_told table low told = subst (TellsCollectors (slots_of b) (with_entry table slot collector))
        (sym (ap (λ (v : View). v.slots.privates) view_collected))
        (told_collected (slots_of b) table s.me.0.slots.privates told slot collector item here low none_before)

    -- where it is the newest of what waits, what it knows is as if that had never waited for none
    module _ (xs : List WaitingItem) (count : ℕ) (newest : s.me.0.slots.waits ≡ xs ++ retired_now slot count ∷ []) where
      none_else : total (waits_in slot) xs ≡ 0
      none_else = let x : WaitingItem = retired_now slot count in let n = ap (total (waits_in slot)) newest in let more = total_snoc (waits_in slot) xs x in
          let one = is_same slot x.slot refl in
          let o = known_once (slots_of b) (known_waiting s.me.0.slots) waiting taken t slot in omega arith

      item_is : item ≡ retired_now slot count
      item_is = last_is slot xs (retired_now slot count) item which none_else (ap (λ (l : List WaitingItem). get_elem? l which) (sym newest) ∙ at) here

      pub goes_back : without_item slot s.me.0.slots.waits ≡ xs
      goes_back = ap (without_item slot) newest ∙ (without_last slot xs (retired_now slot count) refl ∙ none_plain slot xs none_else)

      pub newest_collected : u.me.0 ≡ record s.me.0 {
        slots = record s.me.0.slots { waits = xs; privates = s.me.0.slots.privates ++ for_collector collector (retired_now slot count) ∷ [] };
        fractions = record s.me.0.fractions { waits = without_record slot s.me.0.fractions.waits };
        words = noted slot (private_word collector) s.me.0;
      }
      newest_collected = view_collected ∙ (λ d. record s.me.0 {
        slots = record s.me.0.slots { waits = goes_back d; privates = s.me.0.slots.privates ++ for_collector collector (item_is d) ∷ [] };
        fractions = record s.me.0.fractions { waits = without_record slot s.me.0.fractions.waits };
        words = noted slot (private_word collector) s.me.0;
      })

      -- as many wait for no collector in each other slot, or place of a job
      pub collected_others : (i : ℕ) → i ≢ slot → total (waits_in i) u.me.0.slots.waits ≡ total (waits_in i) s.me.0.slots.waits
      collected_others i ne = ap (λ (v : View). total (waits_in i) v.slots.waits) newest_collected
          ∙ (let n = ap (total (waits_in i)) newest in let a = total_snoc (waits_in i) xs (retired_now slot count) in
          let o = is_other i slot (λ e. ne (sym e)) in omega arith)
