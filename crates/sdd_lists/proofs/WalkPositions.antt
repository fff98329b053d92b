-- What a walk shows, and where it stands then
use Rattle.std.proofs.Common.{◌≡◌, ◌≤◌, ℕ, ◌-◌, List, [], ◌∷◌, length, Bool, true, false, Option, Some, None, refl, sym, ap, ◌∙◌, arith, subst}
use Rattle.std.specs.Prelude.{IfSome, MatchOption, drop, map, slice_get, if◌then◌else◌}
use Rattle.sdd_world_model.specs.World.{World, standing_at}
use Rattle.sdd_space.specs.Ptr.{slot_named}
use Rattle.sdd_participants.specs.Slab.{entry_at}
use Rattle.sdd_participants.specs.declared.standing.CellContents.{CellContents}
use Rattle.sdd_space.specs.Shared.{cell_of}
use Rattle.sdd_world_model.specs.Slots.{IsSharedBy}
use Rattle.sdd_lists.specs.declared.linked_entry.LinkedEntry.{LinkedEntry}
use Rattle.sdd_lists.specs.declared.walk.Walk.{Walk}
use Rattle.sdd_lists.specs.declared.walks.Front.{Front}
use Rattle.sdd_lists.specs.Entries.{link_of, value_of}
use Rattle.sdd_lists.specs.Lists.{AreLinked, Entry, first_slot, is_deleted, left}
use Rattle.sdd_lists.specs.Walk.{ShowsInOrder, StandsBefore, first_shown, shown_of}
use Rattle.sdd_lists.proofs.Order.{values-kept, values-left}
use Rattle.sdd_lists.proofs.PoppedLists.{stays-of}

module _ {T : Type 0} where
  left-by : (e : Entry T) (es : List (Entry T)) → left (left es) ≡ left es → (b : Bool) → is_deleted e ≡ b →
      left (if b then left es else e ∷ es) ≡ (if b then left es else e ∷ es)
  left-by e es more true is = more
  left-by e es more false is = rw is refl

  pub left-left : (es : List (Entry T)) → left (left es) ≡ left es
  left-left [] = refl
  left-left (e ∷ es) = left-by e es (left-left es) (is_deleted e) refl

module _ {T : Type 0} (link : T → ℕ) (w : World T) where
  linked-by : (e : Entry T) (es : List (Entry T)) → AreLinked link w (e ∷ es) → AreLinked link w (left es) → (b : Bool) →
      AreLinked link w (if b then left es else e ∷ es)
  linked-by e es a more true = more
  linked-by e es a more false = a

  pub linked-left : (es : List (Entry T)) → AreLinked link w es → AreLinked link w (left es)
  linked-left [] a = tt
  linked-left (e ∷ es) a = linked-by e es a (linked-left es a.1) (is_deleted e)

module _ {T : Type 0} (w : World (LinkedEntry T)) where
  -- what a look for the first entry found
  abbrev pub Found : Option (Front (LinkedEntry T)) → List (Entry (LinkedEntry T)) → Type 0
  Found o es = MatchOption o (es ≡ []) (λ f. (e : Entry (LinkedEntry T)) × (rest : List (Entry (LinkedEntry T))) × (es ≡ e ∷ rest) ×
      (slot_named f.ptr ≡ Some e.slot) × (f.entry.now ≡ e.value) × ((n : ℕ) × IsSharedBy n (standing_at w e.slot)))

  next-of : (o : Option (Front (LinkedEntry T))) (es : List (Entry (LinkedEntry T))) → Found o es →
      IfSome o (λ f. cell_of f.link.now ≡ link_of f.entry.now) →
      MatchOption o (es ≡ []) (λ f. (e : Entry (LinkedEntry T)) × (rest : List (Entry (LinkedEntry T))) × (es ≡ e ∷ rest) ×
      (f.entry.now ≡ e.value) × (cell_of f.link.now ≡ link_of e.value))
  next-of None es found linked = found
  next-of (Some f) es found linked = (found.0, found.1, found.2, found.4, linked ∙ ap link_of found.4)

  pub stands : (walk : Walk T) (es : List (Entry (LinkedEntry T))) → AreLinked link_of w es → Found walk.next (left es) →
      IfSome walk.next (λ f. cell_of f.link.now ≡ link_of f.entry.now) → length (left es) ≤ walk.most → StandsBefore w walk (left es)
  stands walk es linked found cell few = record {
    linked = linked-left link_of w es linked;
    front = left-left es;
    next = next-of walk.next (left es) found cell;
    few = few;
  }

shorter-by : {T : Type 0} (e : Entry T) (es : List (Entry T)) → length (left es) ≤ length es → (b : Bool) →
    length (if b then left es else e ∷ es) ≤ length (e ∷ es)
shorter-by e es more true = omega (arith, more)
shorter-by e es more false = omega arith

pub no-more : {T : Type 0} (es : List (Entry T)) → length (left es) ≤ length es
no-more [] = omega arith
no-more (e ∷ es) = shorter-by e es (no-more es) (is_deleted e)

module _ {T : Type 0} where
  -- it shows the first value, and those behind it are the ones that it shows then
  pub shown-first : (e : Entry (LinkedEntry T)) (rest : List (Entry (LinkedEntry T))) → left (e ∷ rest) ≡ e ∷ rest →
      shown_of (e ∷ rest) ≡ value_of e.value ∷ shown_of (left rest)
  shown-first e rest front =
      ap (λ (vs : List (LinkedEntry T)). map value_of vs) (values-kept e rest (stays-of (e ∷ rest) e rest front))
      ∙ ap (λ (vs : List (LinkedEntry T)). value_of e.value ∷ map value_of vs) (sym (values-left rest))

  pub shown-left : (es : List (Entry (LinkedEntry T))) → shown_of (left es) ≡ shown_of es
  shown-left es = ap (λ (vs : List (LinkedEntry T)). map value_of vs) (values-left es)

module _ {T : Type 0} (w : World (LinkedEntry T)) (walk : Walk T) where
  -- what is shown first, and then
  pub shown-step : (es : List (Entry (LinkedEntry T))) (v : T) → StandsBefore w walk es → Some v ≡ first_shown es →
      shown_of es ≡ v ∷ shown_of (left (drop 1 es))
  shown-step [] v stood is = absurd (cc)
  shown-step (e ∷ rest) v stood is =
      let value : value_of e.value ≡ v = cc in
      shown-first e rest stood.front ∙ ap (λ (x : T). x ∷ shown_of (left rest)) value

-- one step on
abbrev pub after : {T : Type 0} → Walk T → Option (Front (LinkedEntry T)) → Walk T
after walk o = record { next = o; most = walk.most - 1 }

-- where it shows a value, it stands before what is left of the entries behind that one
module _ {T : Type 0} (w : World (LinkedEntry T)) (walk : Walk T) (f : Front (LinkedEntry T)) (at : walk.next ≡ Some f)
    (o : Option (Front (LinkedEntry T))) (cell : IfSome o (λ f. cell_of f.link.now ≡ link_of f.entry.now))
    (found : (es : List (Entry (LinkedEntry T))) → AreLinked link_of w es → (held : CellContents) → entry_at w.cells (cell_of f.link.now) ≡ Some held →
    held.held ≡ first_slot es → Found w o (left es)) (v : T) (value : v ≡ value_of f.entry.now) where
  abbrev next-entry : List (Entry (LinkedEntry T)) → Option (Front (LinkedEntry T)) → Type 0
  next-entry es o = MatchOption o (es ≡ []) (λ f. (e : Entry (LinkedEntry T)) × (rest : List (Entry (LinkedEntry T))) × (es ≡ e ∷ rest) ×
      (f.entry.now ≡ e.value) × (cell_of f.link.now ≡ link_of e.value))

  pub stands-next : (es : List (Entry (LinkedEntry T))) → StandsBefore w walk es →
      (Some v ≡ first_shown es) × StandsBefore w (after walk o) (left (drop 1 es))
  stands-next [] stood =
      let here : next-entry [] (Some f) = subst (λ (x : Option (Front (LinkedEntry T))). next-entry [] x) at stood.next in absurd (cc (here.2))
  stands-next (x ∷ xs) stood =
      let here : next-entry (x ∷ xs) (Some f) = subst (λ (y : Option (Front (LinkedEntry T))). next-entry (x ∷ xs) y) at stood.next in
      let both : x ∷ xs ≡ here.0 ∷ here.1 = here.2 in
      let heads : here.0 ≡ x = cc in
      let held : CellContents = record { held = first_slot xs; tag = x.tag } in
      let cell_is : cell_of f.link.now ≡ link_of x.value = here.4 ∙ ap (λ (y : Entry (LinkedEntry T)). link_of y.value) heads in
      let behind = found xs stood.linked.1 held (ap (λ (k : ℕ). entry_at w.cells k) cell_is ∙ stood.linked.0.linked) refl in
      let none : length (left xs) ≤ length xs = no-more xs in
      let few : length (x ∷ xs) ≤ walk.most = stood.few in (
        ap (λ (y : T). Some y) (value ∙ ap value_of here.3 ∙ ap (λ (y : Entry (LinkedEntry T)). value_of y.value) heads),
        stands w (after walk o) xs stood.linked.1 behind cell (omega (arith, none, few)),
      )

  pub shows-next : (vs : List T) → ShowsInOrder w walk vs → (Some v ≡ slice_get vs 0) × ShowsInOrder w (after walk o) (drop 1 vs)
  shows-next vs shows =
      let es : List (Entry (LinkedEntry T)) = shows.0 in
      let next = stands-next es shows.1 in
      let values : vs ≡ v ∷ shown_of (left (drop 1 es)) = shows.2 ∙ shown-step w walk es v shows.1 next.0 in
      (sym (ap (λ (xs : List T). slice_get xs 0) values), (left (drop 1 es), next.1, ap (drop 1) values))
