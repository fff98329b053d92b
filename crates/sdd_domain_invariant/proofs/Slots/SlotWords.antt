-- One step of one participant on a slot's word, on a cell's, or on none of these
use Rattle.std.proofs.Common.{◌≡◌, ◌≢◌, ◌⊎◌, ℕ, ◌+◌, ◌<◌, ◌≤◌, List, get_or, set, refl, ap, ◌∙◌, subst, inl, inr, ⊎_elim, arith, length-set, get_or-set_other, get_or-set_same}
use mathlib.Core.Option.{some}
use mathlib.Core.Logic.{dite}
use native.Mathlib.Decide.{ℕ_discrete}
use lib.ListN.{get_elem?}
use Rattle.sdd_rights.specs.declared.views.WaitingItem.{WaitingItem}
use Rattle.sdd_rights.specs.declared.views.View.{View}
use Rattle.sdd_rights.specs.declared.views.Sizes.{Sizes}
use Rattle.sdd_domain_invariant.specs.Words.{first_cell, first_slot, cell_word, slot_word, most_waiting, IsEpochWord, after_cells}
use Rattle.sdd_domain_invariant.specs.Sums.{times}
use Rattle.sdd_domain_invariant.specs.Codes.{WordReading, IsWordReading}
use Rattle.sdd_domain_invariant.specs.Slots.{slot_at, owners_at, waits_in, items_at, Owns, Sees, Holds, Tallies, SeenBeforeRetired, SlotsInvariant}
use Rattle.sdd_domain_invariant.proofs.Frame.{each_set}
use Rattle.sdd_domain_invariant.proofs.Sums.{total_set, total_has, total_two, span_out, span_set, span_has, both_set, is_same}

module _ (z : WordReading) (sound : IsWordReading z) (sizes : Sizes) (ws : List ℕ) (vs : List View) (s : SlotsInvariant z sizes ws vs) where
  -- who waits for a slot, or owns it, or names it in a cell, is in the sums
  pub waiter_in : (j k : ℕ) (u : View) (x : WaitingItem) → get_elem? vs j ≡ some u → get_elem? u.slots.waits k ≡ some x
      → 0 < z.waiting (slot_at sizes ws x.slot)
  waiter_in j k u x at has = let a = total_has (waits_in x.slot) u.slots.waits k x has in let h = is_same x.slot x.slot refl in
      let t = total_has (items_at x.slot) vs j u at in let w = s.waited x.slot in omega arith

  pub owner_in : (j i : ℕ) (u : View) → get_elem? vs j ≡ some u → owners_at i u ≤ z.alive (slot_at sizes ws i)
  owner_in j i u at = let t = total_has (owners_at i) vs j u at in let w = s.owned i in omega arith

  pub owners_in : (j k i : ℕ) (u v : View) → j ≢ k → get_elem? vs j ≡ some u → get_elem? vs k ≡ some v
      → owners_at i u + owners_at i v ≤ z.alive (slot_at sizes ws i)
  owners_in j k i u v apart atu atv = let t = total_two (owners_at i) vs j k u v apart atu atv in let w = s.owned i in omega arith

  pub named_in : (j d i : ℕ) (u : View) → get_elem? vs j ≡ some u → d < sizes.cells
      → owners_at i u + z.names i (get_or ws (cell_word d) 0) ≤ z.alive (slot_at sizes ws i)
  named_in j d i u at inside = let t = total_has (owners_at i) vs j u at in
      let h = span_has (z.names i) ws first_cell sizes.cells d inside in let w = s.owned i in omega arith

  -- where an item has an owner, none waits for its slot
  pub none_waits : (i : ℕ) → 0 < z.alive (slot_at sizes ws i) → (j k : ℕ) (u : View) (x : WaitingItem) → get_elem? vs j ≡ some u
      → get_elem? u.slots.waits k ≡ some x → x.slot ≢ i
  none_waits i live j k u x at has e = let w = waiter_in j k u x at has in let n = (sound.lives (slot_at sizes ws i) live).0 in
      let h = ap (λ (a : ℕ). z.waiting (slot_at sizes ws a)) e in omega arith

  -- an owner that isn't counted is the only one: nobody else has one, nor a cell
  pub alone_is : (j i : ℕ) (u : View) → get_elem? vs j ≡ some u → Owns u i → z.counted (slot_at sizes ws i) ≡ 0
      → (times i u.slots.owns ≡ 1) × (z.alive (slot_at sizes ws i) ≡ 1)
  alone_is j i u at mine firm = let o = owner_in j i u at in let a = sound.few (slot_at sizes ws i) firm in
      (let e : times i u.slots.owns ≡ 1 = omega arith in e, let e : z.alive (slot_at sizes ws i) ≡ 1 = omega arith in e)

  -- so is that of a slot that is held
  pub held_is : (j i : ℕ) (u : View) → get_elem? vs j ≡ some u → Holds u i → z.alive (slot_at sizes ws i) ≡ 1
  held_is j i u at h = let f = (s.each j u at).held i h in (alone_is j i u at f.0 f.1).1

  -- where one has an owner, another holds nothing
  pub none_holds : (j k i : ℕ) (u v : View) → j ≢ k → get_elem? vs j ≡ some u → get_elem? vs k ≡ some v → 0 < owners_at i v → ¬ (Holds u i)
  none_holds j k i u v apart atu atv mine h = let one = held_is j i u atu h in let f = ((s.each j u atu).held i h).0 in
      let both = owners_in j k i u v apart atu atv in omega arith

  module _ (id : ℕ) (v : View) (at : get_elem? vs id ≡ some v) where
    pub slot_step : (i y : ℕ) (w : View) → i < most_waiting sizes
        → z.alive y + owners_at i v ≡ z.alive (slot_at sizes ws i) + owners_at i w → ((j : ℕ) → j ≢ i → owners_at j v ≡ owners_at j w)
        → z.waiting y + items_at i v ≡ z.waiting (slot_at sizes ws i) + items_at i w → ((j : ℕ) → j ≢ i → items_at j v ≡ items_at j w)
        → ((j : ℕ) (u : View) → get_elem? vs j ≡ some u → Sees u i → z.full y ≡ 1)
        → ((j : ℕ) (u : View) → j ≢ id → get_elem? vs j ≡ some u → ¬ (Holds u i))
        → Tallies z sizes (set ws (slot_word sizes i) y) w → SeenBeforeRetired w w
        → ((j : ℕ) (u : View) → j ≢ id → get_elem? vs j ≡ some u → SeenBeforeRetired w u × SeenBeforeRetired u w)
        → SlotsInvariant z sizes (set ws (slot_word sizes i) y) (set vs id w)
    slot_step i y w inside own own' wait wait' full free mine with_self with_others =
        let long = s.long in let here = get_or-set_same ws (slot_word sizes i) y 0 (omega arith) in
        let now : (j : ℕ) → j ≡ i → slot_at sizes (set ws (slot_word sizes i) y) j ≡ y
        = λ j e. ap (λ (a : ℕ). slot_at sizes (set ws (slot_word sizes i) y) a) e ∙ here in
        let there : (j : ℕ) → j ≢ i → slot_at sizes (set ws (slot_word sizes i) y) j ≡ slot_at sizes ws j
        = λ j ne. get_or-set_other ws (slot_word sizes i) (slot_word sizes j) y 0 (λ e. ne (omega arith)) in record {
          long = length-set ws (slot_word sizes i) y ∙ long;
          owned = λ j. let t = total_set (owners_at j) vs id v w at in
              let o = span_out (z.names j) ws first_cell sizes.cells (slot_word sizes i) y (inr (omega arith)) in let a = s.owned j in
              dite (ℕ_discrete j i)
              (λ e. let h = ap z.alive (now j e) in let g = ap (λ (a : ℕ). z.alive (slot_at sizes ws a)) e in
              let ov = ap (λ (a : ℕ). owners_at a v) e in let ow = ap (λ (a : ℕ). owners_at a w) e in omega arith)
              (λ ne. let h = ap z.alive (there j ne) in let p = own' j ne in omega arith);
          waited = λ j. let t = total_set (items_at j) vs id v w at in let a = s.waited j in dite (ℕ_discrete j i)
              (λ e. let h = ap z.waiting (now j e) in let g = ap (λ (a : ℕ). z.waiting (slot_at sizes ws a)) e in
              let ov = ap (λ (a : ℕ). items_at a v) e in let ow = ap (λ (a : ℕ). items_at a w) e in omega arith)
              (λ ne. let h = ap z.waiting (there j ne) in let p = wait' j ne in omega arith);
          each = each_set (Tallies z sizes ws) (Tallies z sizes (set ws (slot_word sizes i) y)) vs id w mine
              (λ j u apart e. let f = s.each j u e in record {
                timed = f.timed;
                guarded = f.guarded;
                full = λ k sees. dite (ℕ_discrete k i)
                    (λ same. ap z.full (now k same) ∙ full j u e (subst (Sees u) same sees))
                    (λ ne. ap z.full (there k ne) ∙ f.full k sees);
                held = λ k h. dite (ℕ_discrete k i)
                    (λ same. absurd (free j u apart e (subst (Holds u) same h)))
                    (λ ne. let g = f.held k h in (g.0, ap z.counted (there k ne) ∙ g.1));
              });
          two = both_set SeenBeforeRetired vs id w s.two with_self with_others;
        }

    pub cell_step : (d y : ℕ) (w : View) → d < sizes.cells
        → ((i : ℕ) → z.names i (get_or ws (cell_word d) 0) + owners_at i v ≡ z.names i y + owners_at i w) → ((i : ℕ) → items_at i v ≡ items_at i w)
        → Tallies z sizes (set ws (cell_word d) y) w → SeenBeforeRetired w w
        → ((j : ℕ) (u : View) → j ≢ id → get_elem? vs j ≡ some u → SeenBeforeRetired w u × SeenBeforeRetired u w)
        → SlotsInvariant z sizes (set ws (cell_word d) y) (set vs id w)
    cell_step d y w inside own wait mine with_self with_others = let long = s.long in
        let there : (j : ℕ) → slot_at sizes (set ws (cell_word d) y) j ≡ slot_at sizes ws j
        = λ j. get_or-set_other ws (cell_word d) (slot_word sizes j) y 0 (λ e. omega arith) in record {
          long = length-set ws (cell_word d) y ∙ long;
          owned = λ j. let t = total_set (owners_at j) vs id v w at in
              let o = span_set (z.names j) ws first_cell sizes.cells d y inside (omega arith) in let a = s.owned j in
              let h = ap z.alive (there j) in let p = own j in omega arith;
          waited = λ j. let t = total_set (items_at j) vs id v w at in let a = s.waited j in let h = ap z.waiting (there j) in let p = wait j in omega arith;
          each = each_set (Tallies z sizes ws) (Tallies z sizes (set ws (cell_word d) y)) vs id w mine (λ j u apart e. let f = s.each j u e in record {
            timed = f.timed;
            guarded = f.guarded;
            full = λ k sees. ap z.full (there k) ∙ f.full k sees;
            held = λ k h. let g = f.held k h in (g.0, ap z.counted (there k) ∙ g.1);
          });
          two = both_set SeenBeforeRetired vs id w s.two with_self with_others;
        }

    -- no word of slots or cells changes
    pub view_step : (w : View) → ((i : ℕ) → owners_at i v ≡ owners_at i w) → ((i : ℕ) → items_at i v ≡ items_at i w)
        → Tallies z sizes ws w → SeenBeforeRetired w w → ((j : ℕ) (u : View) → j ≢ id → get_elem? vs j ≡ some u → SeenBeforeRetired w u × SeenBeforeRetired u w)
        → SlotsInvariant z sizes ws (set vs id w)
    view_step w own wait mine with_self with_others = record {
      long = s.long;
      owned = λ j. let t = total_set (owners_at j) vs id v w at in let a = s.owned j in let p = own j in omega arith;
      waited = λ j. let t = total_set (items_at j) vs id v w at in let a = s.waited j in let p = wait j in omega arith;
      each = each_set (Tallies z sizes ws) (Tallies z sizes ws) vs id w mine (λ j u apart e. s.each j u e);
      two = both_set SeenBeforeRetired vs id w s.two with_self with_others;
    }

    -- another participant holds no slot whose owner steps, or whose word has another number of owners, or counts them
    pub not_held_by : (i : ℕ) → (0 < owners_at i v) ⊎ (z.alive (slot_at sizes ws i) ≢ 1) ⊎ (z.counted (slot_at sizes ws i) ≢ 0)
        → (j : ℕ) (u : View) → j ≢ id → get_elem? vs j ≡ some u → ¬ (Holds u i)
    not_held_by i why j u apart e h = ⊎_elim (λ (t : 0 < owners_at i v). none_holds j id i u v apart e at t h)
        (λ (r : (z.alive (slot_at sizes ws i) ≢ 1) ⊎ (z.counted (slot_at sizes ws i) ≢ 0)). ⊎_elim
        (λ (t : z.alive (slot_at sizes ws i) ≢ 1). t (held_is j i u e h))
        (λ (t : z.counted (slot_at sizes ws i) ≢ 0). t ((s.each j u e).held i h).1) r) why

-- a word that is neither a cell's nor a slot's
pub aside : (z : WordReading) (sizes : Sizes) (ws : List ℕ) (vs : List View) (j y : ℕ) → (j < first_cell) ⊎ (first_cell + sizes.cells ≤ j)
    → j < first_slot sizes → SlotsInvariant z sizes ws vs → SlotsInvariant z sizes (set ws j y) vs
aside z sizes ws vs j y out low s =
    let there : (i : ℕ) → slot_at sizes (set ws j y) i ≡ slot_at sizes ws i = λ i. get_or-set_other ws j (slot_word sizes i) y 0 (λ e. omega arith) in record {
      long = length-set ws j y ∙ s.long;
      owned = λ i. let o = span_out (z.names i) ws first_cell sizes.cells j y out in let a = s.owned i in
          let h = ap z.alive (there i) in omega arith;
      waited = λ i. ap z.waiting (there i) ∙ s.waited i;
      each = λ l u e. let f = s.each l u e in record {
        timed = f.timed;
        guarded = f.guarded;
        full = λ i sees. ap z.full (there i) ∙ f.full i sees;
        held = λ i h. let g = f.held i h in (g.0, ap z.counted (there i) ∙ g.1);
      };
      two = s.two;
    }

-- a word of the count, the lock or a place
pub beside : (z : WordReading) (sizes : Sizes) (ws : List ℕ) (vs : List View) (j y : ℕ) → IsEpochWord sizes j → SlotsInvariant z sizes ws vs
    → SlotsInvariant z sizes (set ws j y) vs
beside z sizes ws vs j y word = aside z sizes ws vs j y
    (⊎_elim (λ (low : j < first_cell). inl low) (λ (high : after_cells sizes ≤ j). inr (omega arith)) word.0) word.1
