-- For which collectors the items of a participant wait, by its table and by its view, over each step on them
use Rattle.std.proofs.Common.{◌≡◌, ◌≢◌, ℕ, zero, suc, ◌+◌, ◌*◌, ◌<◌, ◌==◌, not, List, [], ◌∷◌, ◌++◌, Option, Some, None, map, length, replicate, sym, refl, ap, ◌∙◌, eq-eqb, ne_eqb, arith, get_or-set_other, get_or-set_same, length-set}
use Rattle.std.proofs.lemmas.List.{length-replicate}
use Rattle.std.specs.Prelude.{option_map}
use mathlib.Core.Bool.{Bool, true, false, cond}
use mathlib.Core.Option.{some}
use mathlib.Core.Logic.{dite}
use native.Mathlib.Decide.{ℕ_discrete, dec_lt}
use lib.ListN.{get_elem?}
use Rattle.sdd_world_model.proofs.OwnerCounts.{blank-at}
use Rattle.sdd_participants.specs.Collecting.{is_kept_for, is_private_to}
use Rattle.sdd_participants.specs.Slab.{Entries, entry_at, with_entry, without_entry}
use Rattle.sdd_participants.specs.declared.standing.Standing.TheVariants.{Private}
use Rattle.sdd_participants.specs.declared.waiting.LimboEntry.TheVariants.{Item}
use Rattle.sdd_rights.specs.declared.views.PrivateItem.{PrivateItem}
use Rattle.sdd_rights.specs.declared.views.WaitingItem.{WaitingItem}
use Rattle.sdd_domain_invariant.specs.Collectors.{private_in}
use Rattle.sdd_domain_invariant.specs.Collectors.CollectorWordSteps.{for_collector, without_private}
use Rattle.sdd_domain_invariant.specs.Slots.SlotSteps.{older_private}
use Rattle.sdd_domain_invariant.specs.Sums.{total, is}
use Rattle.sdd_domain_invariant.proofs.Sums.{is_same, is_other, total_has, total_map, total_snoc, total_some}
use Rattle.sdd_domain_steps.specs.InBags.{private_for, TellsCollectors}
use Rattle.sdd_domain_steps.specs.PrivateTable.{standings_of}
use Rattle.sdd_domain_steps.specs.WaitingItems.{what_of}
use Rattle.sdd_domain_steps.proofs.KeptLists.{total_filter}
use Rattle.sdd_domain_steps.proofs.Reclaims.{what_item, what_job}

none-some : {A : Type 0} {x : A} → ◌≡◌ {A = Option A} None (Some x) → ⊥
none-some e = cc

-- ---- one item
pub for_one : (collector slot : ℕ) (x : PrivateItem) → x.item.slot ≡ slot → x.collector ≡ collector → private_for collector slot x ≡ 1
for_one collector slot x here for = λ d. is_same slot x.item.slot here d * is_same collector x.collector for d

pub for_other_slot : (collector slot : ℕ) (x : PrivateItem) → x.item.slot ≢ slot → private_for collector slot x ≡ 0
for_other_slot collector slot x ne = let e = ap (λ (k : ℕ). k * is collector x.collector) (is_other slot x.item.slot ne) in omega arith

pub for_other : (collector slot : ℕ) (x : PrivateItem) → x.collector ≢ collector → private_for collector slot x ≡ 0
for_other collector slot x ne = let e = ap (λ (k : ℕ). is slot x.item.slot * k) (is_other collector x.collector ne) in omega arith

parts_of : (collector slot : ℕ) (x : PrivateItem) → 0 < private_for collector slot x → (x.item.slot ≡ slot) × (x.collector ≡ collector)
parts_of collector slot x more = dite (ℕ_discrete x.item.slot slot)
    (λ here. dite (ℕ_discrete x.collector collector) (λ for. (here, for)) (λ ne. absurd (let z = for_other collector slot x ne in omega arith)))
    (λ ne. absurd (let z = for_other_slot collector slot x ne in omega arith))

-- ---- some items
pub found_for : (collector slot : ℕ) (xs : List PrivateItem) → 0 < total (private_for collector slot) xs
    → (k : ℕ) × (x : PrivateItem) × (get_elem? xs k ≡ some x) × (x.item.slot ≡ slot) × (x.collector ≡ collector)
found_for collector slot xs more = let one = total_some (private_for collector slot) xs more in let is = parts_of collector slot one.1 one.3 in
    (one.0, one.1, one.2, is.0, is.1)

pub counts_for : (collector slot : ℕ) (xs : List PrivateItem) (k : ℕ) (x : PrivateItem) → get_elem? xs k ≡ some x → x.item.slot ≡ slot
    → x.collector ≡ collector → 0 < total (private_for collector slot) xs
counts_for collector slot xs k x at here for = let h = total_has (private_for collector slot) xs k x at in let o = for_one collector slot x here for in
    omega arith

pub found_in : (slot : ℕ) (xs : List PrivateItem) → 0 < total (private_in slot) xs
    → (k : ℕ) × (x : PrivateItem) × (get_elem? xs k ≡ some x) × (x.item.slot ≡ slot)
found_in slot xs more = let one = total_some (private_in slot) xs more in (
  one.0,
  one.1,
  one.2,
  dite (ℕ_discrete one.1.item.slot slot) (λ e. e)
      (λ ne. absurd (let z = is_other slot one.1.item.slot ne in let m = one.3 in omega arith)),
)

in_slot : (collector slot : ℕ) (xs : List PrivateItem) → 0 < total (private_for collector slot) xs → 0 < total (private_in slot) xs
in_slot collector slot xs more = let one = found_for collector slot xs more in let h = total_has (private_in slot) xs one.0 one.1 one.2 in
    let i = is_same slot one.1.item.slot one.3 in omega arith

pub none_for : (collector slot : ℕ) (xs : List PrivateItem) → total (private_in slot) xs ≡ 0 → total (private_for collector slot) xs ≡ 0
none_for collector slot xs none = dite (dec_lt 0 (total (private_for collector slot) xs)) (λ more. absurd (let i = in_slot collector slot xs more in
    omega arith))
    (λ not_more. omega arith)

-- ---- those of another slot stay
apart : (collector slot s : ℕ) → s ≢ slot → (b : Bool) (x : PrivateItem) → (x.item.slot == slot) ≡ b
    → cond (not b) (private_for collector s x) 0 ≡ private_for collector s x
apart collector slot s ne false x is = refl
apart collector slot s ne true x is = sym (for_other_slot collector s x (λ here. dite (ℕ_discrete x.item.slot slot) (λ there. ne (sym here ∙ there))
    (λ off. absurd (let e : true ≡ false = sym is ∙ ne_eqb x.item.slot slot off in cc))))

same_but : (collector slot s : ℕ) → s ≢ slot → (xs : List PrivateItem)
    → total (λ (x : PrivateItem). cond (not (x.item.slot == slot)) (private_for collector s x) 0) xs ≡ total (private_for collector s) xs
same_but collector slot s ne [] = refl
same_but collector slot s ne (x ∷ xs) = λ d. apart collector slot s ne (x.item.slot == slot) x refl d + same_but collector slot s ne xs d

pub others_for : (collector slot s : ℕ) → s ≢ slot → (xs : List PrivateItem)
    → total (private_for collector s) (without_private slot xs) ≡ total (private_for collector s) xs
others_for collector slot s ne xs = total_filter (λ (x : PrivateItem). not (x.item.slot == slot)) (private_for collector s) xs
    ∙ same_but collector slot s ne xs

gone_by : (slot : ℕ) (b : Bool) (x : PrivateItem) → (x.item.slot == slot) ≡ b → cond (not b) (private_in slot x) 0 ≡ 0
gone_by slot true x e = refl
gone_by slot false x e = is_other slot x.item.slot (λ here. let t : true ≡ false = sym (eq-eqb x.item.slot slot here) ∙ e in absurd cc)

gone_all : (slot : ℕ) (xs : List PrivateItem) → total (λ (x : PrivateItem). cond (not (x.item.slot == slot)) (private_in slot x) 0) xs ≡ 0
gone_all slot [] = refl
gone_all slot (x ∷ xs) = let a = gone_by slot (x.item.slot == slot) x refl in let r = gone_all slot xs in omega arith

pub none_left : (slot : ℕ) (xs : List PrivateItem) → total (private_in slot) (without_private slot xs) ≡ 0
none_left slot xs = total_filter (λ (x : PrivateItem). not (x.item.slot == slot)) (private_in slot) xs ∙ gone_all slot xs

-- ---- the table
pub told_nothing : (n : ℕ) (table : Entries ℕ) (xs : List PrivateItem) → table ≡ replicate n None → xs ≡ [] → TellsCollectors n table xs
told_nothing n table xs blank none = record {
  long = ap length blank ∙ length-replicate n None;
  waits = λ slot collector. (
    (λ told. absurd (none-some (sym (ap (λ (t : Entries ℕ). entry_at t slot) blank ∙ blank-at n slot) ∙ told))),
    (λ more. absurd (let z = ap (total (private_for collector slot)) none in omega arith)),
  );
}

-- how an item stands that waits with a participant, by its table
pub mapped_at : (es : Entries ℕ) (s : ℕ) → entry_at (standings_of es) s ≡ option_map Private (entry_at es s)
mapped_at [] s = refl
mapped_at (e ∷ es) zero = refl
mapped_at (e ∷ es) (suc s) = mapped_at es s

module _ (n : ℕ) (table : Entries ℕ) (xs : List PrivateItem) (t : TellsCollectors n table xs) where
  -- the item of a slot waits for the collector that the table tells, or for none
  pub told_some : (slot collector : ℕ) → entry_at table slot ≡ Some collector
      → (k : ℕ) × (x : PrivateItem) × (get_elem? xs k ≡ some x) × (x.item.slot ≡ slot) × (x.collector ≡ collector)
  told_some slot collector told = found_for collector slot xs ((t.waits slot collector).0 told)

  pub told_in : (slot collector : ℕ) → entry_at table slot ≡ Some collector → 0 < total (private_in slot) xs
  told_in slot collector told = in_slot collector slot xs ((t.waits slot collector).0 told)

  pub told_none : (slot : ℕ) → entry_at table slot ≡ None → total (private_in slot) xs ≡ 0
  told_none slot told = dite (dec_lt 0 (total (private_in slot) xs))
      (λ more. let one = found_in slot xs more in absurd (none-some (sym told
      ∙ (t.waits slot one.1.collector).1 (counts_for one.1.collector slot xs one.0 one.1 one.2 one.3 refl))))
      (λ none. omega arith)

  -- the entry of an item that waits
  pub told_at : (k : ℕ) (x : PrivateItem) → get_elem? xs k ≡ some x → entry_at table x.item.slot ≡ Some x.collector
  told_at k x at = (t.waits x.item.slot x.collector).1 (counts_for x.collector x.item.slot xs k x at refl refl)

  -- an item waits for a collector from now on
  pub told_collected : (slot collector : ℕ) (x : WaitingItem) → x.slot ≡ slot → slot < n → total (private_in slot) xs ≡ 0
      → TellsCollectors n (with_entry table slot collector) (xs ++ for_collector collector x ∷ [])
  told_collected slot collector x here low none = let inside : slot < length table = (let l = t.long in omega arith) in record {
    long = length-set table slot (Some collector) ∙ t.long;
    waits = λ s c. let more = total_snoc (private_for c s) xs (for_collector collector x) in dite (ℕ_discrete s slot)
        (λ e. (
          (λ told. let set_is : entry_at (with_entry table slot collector) s ≡ Some collector
              = ap (entry_at (with_entry table slot collector)) e ∙ get_or-set_same table slot (Some collector) None inside in
              let same : Some collector ≡ Some c = sym set_is ∙ told in
              let one = for_one c s (for_collector collector x) (here ∙ sym e) (let q : collector ≡ c = cc in q) in omega arith),
          (λ some_wait. let z : total (private_for c s) xs ≡ 0 = none_for c s xs (ap (λ (i : ℕ). total (private_in i) xs) e ∙ none) in
              let is = parts_of c s (for_collector collector x) (omega arith) in
              ap (entry_at (with_entry table slot collector)) e ∙ (get_or-set_same table slot (Some collector) None inside ∙ ap Some is.1)),
        ))
        (λ ne. let stays = get_or-set_other table slot s (Some collector) None ne in
        let z = for_other_slot c s (for_collector collector x) (λ same. ne (sym same ∙ here)) in (
          (λ told. let w = (t.waits s c).0 (sym stays ∙ told) in omega arith),
          (λ some_wait. stays ∙ (t.waits s c).1 (omega arith)),
        ));
  }

  -- no item of the slot waits privately any more
  pub told_out : (slot : ℕ) → slot < n → TellsCollectors n (without_entry table slot) (without_private slot xs)
  told_out slot low = let inside : slot < length table = (let l = t.long in omega arith) in record {
    long = length-set table slot None ∙ t.long;
    waits = λ s c. dite (ℕ_discrete s slot)
        (λ e. (
          (λ told. absurd (none-some (sym (ap (entry_at (without_entry table slot)) e ∙ get_or-set_same table slot None None inside) ∙ told))),
          (λ some_wait. absurd (let i = in_slot c s (without_private slot xs) some_wait in
              let z = ap (λ (j : ℕ). total (private_in j) (without_private slot xs)) e ∙ none_left slot xs in omega arith)),
        ))
        (λ ne. let stays = get_or-set_other table slot s None None ne in let same = others_for c slot s ne xs in (
          (λ told. let w = (t.waits s c).0 (sym stays ∙ told) in omega arith),
          (λ some_wait. stays ∙ (t.waits s c).1 (omega arith)),
        ));
  }

  -- all have seen one change more
  pub told_older : TellsCollectors n table (map older_private xs)
  told_older = record {
    long = t.long;
    waits = λ s c. let same = total_map (private_for c s) older_private (λ x. refl) xs in (
      (λ told. let w = (t.waits s c).0 told in omega arith),
      (λ some_wait. (t.waits s c).1 (omega arith)),
    );
  }

  -- ---- the choice of what waits for a collector
  pub choice_private : (c k : ℕ) (x : PrivateItem) → get_elem? xs k ≡ some x → is_kept_for c (standings_of table) (Item x.item.slot) ≡ (x.collector == c)
  choice_private c k x at = ap (is_private_to c) (mapped_at table x.item.slot ∙ ap (option_map Private) (told_at k x at))

  pub choice_none : (c slot : ℕ) → total (private_in slot) xs ≡ 0 → is_kept_for c (standings_of table) (Item slot) ≡ false
  choice_none c slot none = by (entry_at table slot) refl
    where
      by : (e : Option ℕ) → entry_at table slot ≡ e → is_kept_for c (standings_of table) (Item slot) ≡ false
      by None told = ap (is_private_to c) (mapped_at table slot ∙ ap (option_map Private) told)
      by (Some k) told = absurd (let w = told_in slot k told in omega arith)

  pub choice_plain : (c : ℕ) (x : WaitingItem) → total (private_in x.slot) xs ≡ 0 → is_kept_for c (standings_of table) (what_of n x) ≡ false
  choice_plain c x none = dite (dec_lt x.slot n) (λ low. ap (is_kept_for c (standings_of table)) (what_item n x low) ∙ choice_none c x.slot none)
      (λ high. ap (is_kept_for c (standings_of table)) (what_job n x (omega arith)))
