-- Which item is older, after each call
use Rattle.sdd_script_model.proofs.Words.{◌≡◌, ◌≢◌, ◌⊎◌, inl, inr, ℕ, ◌+◌, ◌<◌, ◌≤◌, List, length, Bool, true, Option, Some, None, map, is_some, slice_index_or, slice_set, count_by, refl, sym, ap, ◌∙◌, arith, cases_eq, length-map, get_or-set_same, get_or-set_other, IsEmptyAt, Standing, is_out, standing_at, value_at, times_held, is_owner_of, made_as, nulled, outside-out, in_value-out, Val, body_of, holdings_of, ScriptState, name_at, number_in, IsStored, HoldsOnlyOlder, SlotsHaveNames, named_owners, common_steps}
use Rattle.sdd_script_model.proofs.NameCounts.{AreCounted, times_in, times-held}
use Rattle.sdd_script_model.proofs.Links.{HoldsLess}
use Rattle.sdd_script_model.proofs.SlotsHaveNames.{out-named}

-- where values hold no more than before, and names are the same
pub layered-less : (d new : ScriptState) → HoldsOnlyOlder d → HoldsLess d.world new.world → new.names ≡ d.names → HoldsOnlyOlder new
layered-less d new older less names j k some = rw names (by (value_at new.world j) refl some) where
  by : (x : Option Val) → value_at new.world j ≡ x → 1 ≤ times_held holdings_of k x → number_in (name_at d k) < number_in (name_at d j)
  by None e some = absurd (omega (arith, some))
  by (Some v) e some =
      let was = less j v e in
      let same : times_in k (body_of v) ≡ times_in k (body_of was.0) = ap (count_by (is_owner_of k)) was.3 in
      older j k (omega (arith, some, same, times-held v k, times-held was.0 k, ap (times_held holdings_of k) was.1))

-- there are as many values as slots
pub filled-long : {A B : Type 0} (vs : List (Option A)) (ss : List (Option B)) → map is_some vs ≡ map is_some ss → length vs ≡ length ss
filled-long vs ss e = sym (length-map vs is_some) ∙ ap (λ (bs : List Bool). length bs) e ∙ length-map ss is_some

-- an item is made: its value holds owners of items that are there, which were made before
module _ (d : ScriptState) (l : HoldsOnlyOlder d) (a : AreCounted d d.world) (stocked : SlotsHaveNames d)
    (filled : map is_some d.world.values ≡ map is_some d.world.standings)
    (e : ScriptState) (c k : ℕ) (v : Val) (s : Standing) (free : IsEmptyAt d.world.standings k)
    (moved : (j : ℕ) → named_owners d j ≡ named_owners e j + times_in j (body_of v))
    (no_storage : (i : ℕ) → (1 ≤ named_owners d i) ⊎ ((j : ℕ) × (1 ≤ times_held holdings_of i (value_at d.world j))) → IsStored d.bags d.world i → ⊥) where
  abbrev made_names : List (Option ℕ)
  made_names = slice_set d.names k (Some (length d.slots))

  abbrev number_at : ℕ → ℕ
  number_at i = number_in (slice_index_or made_names i None)

  -- what is out is elsewhere, and has a name that was given
  elsewhere : (i : ℕ) → is_out (standing_at d.world i) ≡ true → i ≢ k
  elsewhere i out same = let none = free.1 in grind arith

  older-name : (i : ℕ) → is_out (standing_at d.world i) ≡ true → (IsStored d.bags d.world i → ⊥) → number_at i < length d.slots
  older-name i out off =
      let own = out-named d stocked i out off in let apart = elsewhere i out in grind (arith, common_steps)

  made-older : (j i : ℕ) → (j ≡ k) ⊎ (j ≢ k) → 1 ≤ times_held holdings_of i (slice_index_or (slice_set d.world.values k (Some v)) j None) →
      number_at i < number_at j
  made-older j i (inl same) some =
      let long : k < length d.world.values = omega (arith, free.0, filled-long d.world.values d.world.standings filled) in
      let value : slice_index_or (slice_set d.world.values k (Some v)) j None ≡ Some v = rw same (get_or-set_same d.world.values k (Some v) None long) in
      let held : 1 ≤ times_in i (body_of v) = omega (arith, some, ap (times_held holdings_of i) value, times-held v i) in
      let mine : 1 ≤ named_owners d i = omega (arith, held, moved i) in
      let out = outside-out holdings_of d.world i (named_owners d) a mine in
      let own : number_at j ≡ length d.slots = rw same (grind (arith, common_steps, stocked.names)) in
      omega (arith, own, older-name i out (no_storage i (inl mine)))
  made-older j i (inr apart) some =
      let value = get_or-set_other d.world.values k j (Some v) None apart in
      let before : 1 ≤ times_held holdings_of i (value_at d.world j) = omega (arith, some, ap (times_held holdings_of i) value) in
      let out = in_value-out holdings_of d.world j i (named_owners d) a before in
      let was = l j i before in let own = elsewhere i out in grind (arith, common_steps)

  pub layered-made : (new : ScriptState) → new.world ≡ made_as (nulled d.world c) k v s → new.names ≡ made_names → HoldsOnlyOlder new
  layered-made new world names = rw (world, names) (λ j i some. made-older j i (cases_eq j k) some)
