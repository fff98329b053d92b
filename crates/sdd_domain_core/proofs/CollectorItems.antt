-- What is taken out of the bags for a collector that is closed: each slot comes once, and its item waits for that collector
use Rattle.std.proofs.Common.{◌≡◌, ◌≢◌, ℕ, zero, suc, ◌<◌, ◌≤◌, ◌^◌, List, [], ◌∷◌, Option, Some, None, map, filter, Bool, true, sym, refl, ap, ◌∙◌, subst, eq-eqb, ne_eqb, arith, get_or-set_other}
use Rattle.std.specs.Prelude.{All, ◌||◌, option_map, slice_index_or}
use Rattle.std.proofs.lemmas.Bool.{true≢false}
use Rattle.std.proofs.lemmas.List.Elements.{All-nil, All-cons, All-head, All-tail}
use mathlib.Core.Option.{some, some-injective, some-ne-none}
use mathlib.Core.Logic.{dite}
use lib.ListN.{get_elem?}
use native.Mathlib.Decide.{ℕ_discrete}
use Rattle.sdd_core.specs.declared.limits.Limits.{Limits}
use Rattle.sdd_participants.specs.declared.participant.Participant.{Participant}
use Rattle.sdd_participants.specs.Collecting.{is_private_to}
use Rattle.sdd_participants.specs.Slab.{Entries, entry_at, without_entry}
use Rattle.sdd_participants.specs.Waiting.{Waiting}
use Rattle.sdd_participants.specs.declared.standing.Standing.TheVariants.{Private}
use Rattle.sdd_participants.specs.declared.waiting.LimboEntry.{LimboEntry}
use Rattle.sdd_participants.specs.declared.waiting.LimboEntry.TheVariants.{Item, Job}
use Rattle.sdd_rights.specs.declared.views.PrivateItem.{PrivateItem}
use Rattle.sdd_rights.specs.declared.views.WaitingItem.{WaitingItem}
use Rattle.sdd_domain_invariant.specs.Codes.{waits_for as word_waits_for}
use Rattle.sdd_domain_invariant.specs.Slots.{waits_in}
use Rattle.sdd_domain_invariant.specs.Sums.{total}
use Rattle.sdd_domain_invariant.proofs.Codes.{private_is}
use Rattle.sdd_domain_invariant.proofs.Sums.{is_same}
use Rattle.sdd_world_model.specs.ParticipantChanges.{KeepsMoreWaiting}
use Rattle.sdd_domain_core.specs.Collectors.{AllWaitFor, EmptiesAt, IsClosing, waits_for}
use Rattle.sdd_domain_steps.specs.InBags.{AreInBags, Kept, KnownWaiting, Plainly, Privately, TellsCollectors, is_closed, is_out, item_of, out_of, private_for, private_of}
use Rattle.sdd_domain_steps.specs.Local.{LocalModel}
use Rattle.sdd_domain_steps.specs.LocalState.{LocalState, IsLone}
use Rattle.sdd_domain_steps.specs.PrivateTable.{standings_of}
use Rattle.sdd_domain_steps.specs.WordsAndValues.{AreTied}
use Rattle.sdd_domain_steps.specs.WaitingItems.{what_of, number_in, is_ripe}
use Rattle.sdd_domain_core.proofs.GuardOpenings.{all_guards}
use Rattle.sdd_domain_steps.proofs.KeptLists.{total_fewer, total_of_map}
use Rattle.sdd_domain_steps.proofs.PrivateTables.{found_for, mapped_at}
use Rattle.sdd_domain_steps.proofs.Reclaims.{none_passes, number_of}

head_of : LimboEntry → List LimboEntry → LimboEntry
head_of w [] = w
head_of w (x ∷ xs) = x

tail_of : List LimboEntry → List LimboEntry
tail_of [] = []
tail_of (x ∷ xs) = xs

-- ---- each slot comes once
module _ (n slot : ℕ) where
  other_slot : (x : WaitingItem) → waits_in slot x ≡ 0 → what_of n x ≢ Item slot
  other_slot x none e = let here : x.slot ≡ slot = sym (number_of n x) ∙ ap (number_in n) e in let one = is_same slot x.slot here in absurd (omega arith)

  others : (xs : List WaitingItem) → total (waits_in slot) xs ≡ 0 → All (λ (w : LimboEntry). w ≢ Item slot) (map (what_of n) xs)
  others [] none = All-nil (λ (w : LimboEntry). w ≢ Item slot)
  others (x ∷ xs) none = All-cons (λ (w : LimboEntry). w ≢ Item slot) (what_of n x) (map (what_of n) xs) (other_slot x (omega arith)) (others xs (omega arith))

  after_first : (rest : List LimboEntry) (xs : List WaitingItem) → total (waits_in slot) xs ≤ 1 → map (what_of n) xs ≡ Item slot ∷ rest
      → All (λ (w : LimboEntry). w ≢ Item slot) rest
  unfolding head_of tail_of
  after_first rest [] few e = absurd cc
  after_first rest (x ∷ xs) few e = let first : what_of n x ≡ Item slot = ap (head_of (what_of n x)) e in
      let here : x.slot ≡ slot = sym (number_of n x) ∙ ap (number_in n) first in let one = is_same slot x.slot here in
      subst (All (λ (w : LimboEntry). w ≢ Item slot)) (ap tail_of e) (others xs (omega arith))

  pub due_apart : (known : KnownWaiting) (waiting : List Waiting) (taken rest : List LimboEntry) → AreInBags n known waiting taken → taken ≡ Item slot ∷ rest
      → All (λ (w : LimboEntry). w ≢ Item slot) rest
  due_apart known waiting taken rest t first = let p : Kept → Bool = is_out known.closes in
      let a = total_of_map item_of (waits_in slot) (filter p t.all) in let b = total_of_map item_of (waits_in slot) t.all in
      let c = total_fewer p (λ (x : Kept). waits_in slot (item_of x)) t.all in let o = t.once slot in
      after_first rest (out_of known.closes t.all) (omega arith) (sym t.due ∙ first)

-- ---- once nothing that was taken out is left, nothing waits for it
private_there : (all : List Kept) (k : ℕ) (x : PrivateItem) → get_elem? (private_of all) k ≡ some x → (j : ℕ) × (get_elem? all j ≡ some (Privately x))
private_there [] k x at = absurd (some-ne-none x (sym at))
private_there (Plainly y ∷ ys) k x at = let r = private_there ys k x at in (suc r.0, r.1)
private_there (Privately y ∷ ys) zero x at = (0, ap (λ (z : PrivateItem). some (Privately z)) (some-injective y x at))
private_there (Privately y ∷ ys) (suc k) x at = let r = private_there ys k x at in (suc r.0, r.1)

pub none_for_closed : (n c : ℕ) (known : KnownWaiting) (waiting : List Waiting) (taken : List LimboEntry) → AreInBags n known waiting taken → taken ≡ []
    → known.closes ≡ Some c → (table : Entries ℕ) → TellsCollectors n table known.private → (slot : ℕ) → entry_at table slot ≢ Some c
none_for_closed n c known waiting taken t none closes table told slot tells = let more = (told.waits slot c).0 tells in
    let same = t.private (private_for c slot) in
    let one = found_for c slot (private_of t.all) (omega arith) in let there = private_there t.all one.0 one.1 one.2 in
    let out = none_passes n (is_out known.closes) t.all (sym t.due ∙ none) there.0 (Privately one.1) there.1 in
    let closed : is_closed known.closes one.1.collector ≡ true = ap (λ (o : Option ℕ). is_closed o one.1.collector) closes ∙ eq-eqb one.1.collector c one.4 in
    absurd (true≢false (sym (ap (λ (b : Bool). b || is_ripe one.1.item) closed) ∙ out))

-- ---- what waits for the collector
told_by : (c : ℕ) (e : Option ℕ) → is_private_to c (option_map Private e) ≡ true → e ≡ Some c
told_by c None is = absurd (true≢false (sym is))
told_by c (Some k) is = dite (ℕ_discrete k c) (λ same. ap Some same) (λ ne. absurd (true≢false (sym is ∙ ne_eqb k c ne)))

module _ {J : Type 0} (m : LocalState J) (c : ℕ) where
  told_first : (slot : ℕ) → waits_for m c (Item slot) ≡ true → entry_at m.collectors slot ≡ Some c
  told_first slot is = told_by c (entry_at m.collectors slot) (sym (ap (is_private_to c) (mapped_at m.collectors slot)) ∙ is)

  stays : (slot : ℕ) (u : LocalState J) → u.collectors ≡ without_entry m.collectors slot
      → (w : LimboEntry) → w ≢ Item slot → waits_for m c w ≡ true → waits_for u c w ≡ true
  stays slot u now (Item k) other is = let ne : k ≢ slot = (λ e. other (ap Item e)) in
      ap (λ (t : Entries ℕ). is_private_to c (entry_at (standings_of t) k)) now
      ∙ (ap (is_private_to c) (mapped_at (without_entry m.collectors slot) k ∙ (ap (option_map Private) (get_or-set_other m.collectors slot k None None ne)
      ∙ sym (mapped_at m.collectors k))) ∙ is)
  stays slot u now (Job j) other is = is

  module _ (slot : ℕ) (rest : List LimboEntry) (first : m.due ≡ Item slot ∷ rest) (all : AllWaitFor m c m.due) where
    for_it : AllWaitFor m c (Item slot ∷ rest)
    for_it = subst (AllWaitFor m c) first all

    -- the first of what was taken out for it waits for it, as its table says
    pub kept_first : entry_at m.collectors slot ≡ Some c
    kept_first = told_first slot (All-head (λ (w : LimboEntry). waits_for m c w ≡ true) (Item slot) rest for_it)

    -- and the rest still does, once that one does no more
    pub rest_waits : All (λ (w : LimboEntry). w ≢ Item slot) rest → (u : LocalState J) → u.collectors ≡ without_entry m.collectors slot → u.due ≡ rest
        → AllWaitFor u c u.due
    rest_waits apart u now due = let left = All-tail (λ (w : LimboEntry). waits_for m c w ≡ true) (Item slot) rest for_it in
        subst (AllWaitFor u c) (sym due) (λ k d low. stays slot u now (slice_index_or rest k d) (apart k d low) (left k d low))

  -- it goes on closing it
  pub goes_on_closing : IsClosing c m → (u : LocalState J) → u.slots.closes ≡ m.slots.closes → u.slots.looked ≡ m.slots.looked → u.limits ≡ m.limits
      → u.own.guards ≡ m.own.guards → IsClosing c u
  goes_on_closing is u closes looked limits guards = record {
    closes = closes ∙ is.closes;
    looked = let l = is.looked in let p = ap (λ (z : Limits). z.participants) limits in omega arith;
    shut = λ o. is.shut (subst (λ (k : ℕ). 0 < k) guards o);
  }

-- what it gives up waits, and it has as many guards as before
pub more_guards : (old new : Participant) → KeepsMoreWaiting old new → new.guards ≡ old.guards
more_guards old new keeps = let more = keeps old ([], refl) in ap (λ (p : Participant). p.guards) more.1 ∙ all_guards more.0 old

-- a lone participant finds no item of another
pub empties_none : {T J : Type 0} (v : LocalModel T J) (c slot : ℕ) {u : LocalState J} → EmptiesAt c slot v.member u → AreTied v.member v.entries
    → TellsCollectors v.member.limits.slots v.member.collectors v.member.slots.privates → entry_at v.member.collectors slot ≢ Some c → c < 2 ^ 32
    → IsLone v.member → ⊥
empties_none v c slot did tied told none small one = let word = (private_is c (omega arith)).4 in let same = tied.privates slot did.inside c in
    let there = ap (word_waits_for c) (did.lone one) in none ((told.waits slot c).1 (omega arith))
