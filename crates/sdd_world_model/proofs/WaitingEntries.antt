-- What waits with a participant, and how an opening makes it older
use Rattle.std.proofs.Common.{◌≡◌, ◌≢◌, ◌⊎◌, inl, inr, ℕ, ◌+◌, ◌<◌, ◌≤◌, List, [], ◌∷◌, length, Bool, refl, sym, ap, ◌∙◌, arith, true, false, zero, suc, slice_index_or, sum_by, subst}
use Rattle.std.specs.Prelude.{◌==◌, Contains}
use Rattle.std.proofs.lemmas.List.{get_or-set_same, get_or_past}
use Rattle.std.proofs.lemmas.List.Elements.{All-contains}
use Rattle.std.proofs.lemmas.Bool.Decides.{nat_tests}
use Rattle.sdd_participants.specs.Waiting.{Waiting, having_seen, aged, left, due, older, is_due}
use Rattle.sdd_participants.specs.declared.waiting.LimboEntry.{LimboEntry}
use Rattle.sdd_participants.specs.declared.waiting.LimboEntry.TheVariants.{Item}
use Rattle.sdd_participants.specs.EpochState.{nobody, due_next, is_open}
use Rattle.sdd_participants.specs.EpochState as time
use Rattle.sdd_participants.specs.declared.participant.Participant.{Participant}
use Rattle.sdd_world_model.specs.Slots.{is_waiting}
use Rattle.sdd_world_model.specs.World.{World, standing_at, place_at}
use Rattle.sdd_world_model.specs.WorldChanges.{opened}
use Rattle.sdd_world_model.specs.OwnerOrCell.{OwnerOrCell}
use Rattle.sdd_world_model.specs.ParticipantChanges.{all_awaiting, opened_at}
use Rattle.sdd_world_model.specs.WorldInvariant.{is_of_slot, times_with, once_if, IsWhole}
use Rattle.sdd_world_model.specs.ReclaimBound.{Waits, WaitsWith}
use Rattle.sdd_world_model.proofs.ParticipantChanges.{opens}
use Rattle.sdd_world_model.proofs.WorldInvariant.{below-or-past, count-cons, times_among, times_listed, times-aged}
use Rattle.sdd_world_model.proofs.TimesListed.{listed-counts, listed-one, listed-two}
use Rattle.sdd_world_model.proofs.GuardOpened.{Nests, IsChange, all_awaiting-waiting}

-- in a list with one element in front
listed-later : {X : Type 0} (x : X) (xs : List X) (y : X) → Contains xs y → Contains (x ∷ xs) y
listed-later x xs y h = (suc h.0, omega (arith, h.1), h.2)

listed-cases : {X : Type 0} (x : X) (xs : List X) (y : X) → Contains (x ∷ xs) y → (x ≡ y) ⊎ Contains xs y
listed-cases x xs y (zero, l, e) = inl e
listed-cases x xs y (suc k, l, e) = inr (k, omega (arith, l), e)

-- an entry counts for its slot
pub entry-counts : (k seen : ℕ) (ws : List Waiting) → Contains ws (having_seen seen (Item k)) → 1 ≤ times_listed k ws
entry-counts k seen ws h = listed-counts (is_of_slot k) (Item k) (grind (arith, nat_tests)) seen ws h

-- a change makes it older, or due
left-cons : (w : Waiting) (ws : List Waiting) (y : Waiting) (b : Bool) → is_due (older w) ≡ b → Contains (left (aged ws)) y → Contains (left (aged (w ∷ ws))) y
left-cons w ws y true e h = rw e h
left-cons w ws y false e h = rw e (listed-later (older w) (left (aged ws)) y h)

left-here : (what : LimboEntry) (seen : ℕ) (w : Waiting) (ws : List Waiting) → seen < 2 → w ≡ having_seen seen what →
    Contains (left (aged (w ∷ ws))) (having_seen (seen + 1) what)
left-here what seen w ws young e =
    let fits : is_due (older w) ≡ false = rw e (grind (arith, nat_tests)) in
    rw fits (zero, omega arith, ap (λ (x : Waiting). older x) e)

left-or : (what : LimboEntry) (seen : ℕ) (w : Waiting) (ws : List Waiting) → seen < 2 → (w ≡ having_seen seen what) ⊎ Contains ws (having_seen seen what) →
    (Contains ws (having_seen seen what) → Contains (left (aged ws)) (having_seen (seen + 1) what)) →
    Contains (left (aged (w ∷ ws))) (having_seen (seen + 1) what)
left-or what seen w ws young (inl e) on = left-here what seen w ws young e
left-or what seen w ws young (inr h) on = left-cons w ws (having_seen (seen + 1) what) (is_due (older w)) refl (on h)

pub older-left : (what : LimboEntry) (seen : ℕ) (ws : List Waiting) → seen < 2 → Contains ws (having_seen seen what) →
    Contains (left (aged ws)) (having_seen (seen + 1) what)
older-left what seen [] young h = absurd (omega (arith, h.1))
older-left what seen (w ∷ ws) young h = left-or what seen w ws young (listed-cases w ws (having_seen seen what) h) (λ g. older-left what seen ws young g)

pub entry-older : (k seen : ℕ) (ws : List Waiting) → seen < 2 → Contains ws (having_seen seen (Item k)) →
    Contains (left (aged ws)) (having_seen (seen + 1) (Item k))
entry-older k seen ws young h = older-left (Item k) seen ws young h

-- what has seen two changes is due at the next one
ripe-cons : (what : LimboEntry) (w : Waiting) (ws : List Waiting) → (w ≡ having_seen 2 what) ⊎ Contains (due (aged ws)) what → (b : Bool) →
    is_due (older w) ≡ b → Contains (due (aged (w ∷ ws))) what
ripe-cons what w ws (inl e) true is = rw is (zero, omega arith, ap (λ (x : Waiting). x.what) e)
ripe-cons what w ws (inl e) false is = let ripe : is_due (older w) ≡ true = rw e refl in absurd (let never : false ≡ true = sym is ∙ ripe in cc)
ripe-cons what w ws (inr h) true is = rw is (listed-later w.what (due (aged ws)) what h)
ripe-cons what w ws (inr h) false is = rw is h

ripe-or : (what : LimboEntry) (w : Waiting) (ws : List Waiting) → (w ≡ having_seen 2 what) ⊎ Contains ws (having_seen 2 what) →
    (Contains ws (having_seen 2 what) → Contains (due (aged ws)) what) → Contains (due (aged (w ∷ ws))) what
ripe-or what w ws (inl e) on = ripe-cons what w ws (inl e) (is_due (older w)) refl
ripe-or what w ws (inr h) on = ripe-cons what w ws (inr (on h)) (is_due (older w)) refl

pub ripe-due : (what : LimboEntry) (ws : List Waiting) → Contains ws (having_seen 2 what) → Contains (due (aged ws)) what
ripe-due what [] h = absurd (omega (arith, h.1))
ripe-due what (w ∷ ws) h = ripe-or what w ws (listed-cases w ws (having_seen 2 what) h) (λ g. ripe-due what ws g)

due-cons : (k : ℕ) (w : Waiting) (ws : List Waiting) (b : Bool) → is_due (older w) ≡ b → 1 ≤ times_among k (due (aged ws)) →
    1 ≤ times_among k (due (aged (w ∷ ws)))
due-cons k w ws true e h = let all = count-cons (is_of_slot k) w.what (due (aged ws)) in rw e (omega (arith, h, all))
due-cons k w ws false e h = rw e h

due-here : (k : ℕ) (w : Waiting) (ws : List Waiting) → w ≡ having_seen 2 (Item k) → 1 ≤ times_among k (due (aged (w ∷ ws)))
due-here k w ws e =
    let ripe : is_due (older w) ≡ true = rw e refl in
    let one : is_of_slot k w.what ≡ true = rw e (grind (arith, nat_tests)) in
    let all : times_among k (w.what ∷ due (aged ws)) ≡ 1 + times_among k (due (aged ws)) = count-cons (is_of_slot k) w.what (due (aged ws)) ∙ rw one refl in
    rw ripe (omega (arith, all))

due-or : (k : ℕ) (w : Waiting) (ws : List Waiting) → (w ≡ having_seen 2 (Item k)) ⊎ Contains ws (having_seen 2 (Item k)) →
    (Contains ws (having_seen 2 (Item k)) → 1 ≤ times_among k (due (aged ws))) →
    1 ≤ times_among k (due (aged (w ∷ ws)))
due-or k w ws (inl e) on = due-here k w ws e
due-or k w ws (inr h) on = due-cons k w ws (is_due (older w)) refl (on h)

pub entry-due : (k : ℕ) (ws : List Waiting) → Contains ws (having_seen 2 (Item k)) → 1 ≤ times_among k (due (aged ws))
entry-due k [] h = absurd (omega (arith, h.1))
entry-due k (w ∷ ws) h = due-or k w ws (listed-cases w ws (having_seen 2 (Item k)) h) (λ g. entry-due k ws g)

pub one-place : (k : ℕ) (ps : List Participant) (p : ℕ) → times_with k (slice_index_or ps p nobody) ≤ sum_by (times_with k) ps
one-place k ps p = listed-one (is_of_slot k) ps p

-- an entry of one participant, and one of another
two-places : (k : ℕ) (ps : List Participant) (p q : ℕ) → p ≢ q → q < length ps →
    times_with k (slice_index_or ps p nobody) + times_with k (slice_index_or ps q nobody) ≤ sum_by (times_with k) ps
two-places k ps p q apart l = listed-two (is_of_slot k) ps p q apart l

pub once-bound : (b : Bool) → once_if b ≤ 1
once-bound true = omega arith
once-bound false = omega arith

pub once-waits : (b : Bool) → 1 ≤ once_if b → b ≡ true
once-waits true h = refl
once-waits false h = absurd (omega (arith, h))

pub opens-changed : (count : ℕ) (slots : List ℕ) (x : Participant) → is_open x ≡ false → (x.found == count) ≡ false →
    opened_at count slots x ≡ time.settled (all_awaiting slots (time.rotated count (time.nested x)))
opens-changed count slots x shut another = rw (shut, another) refl

pub differs : (m n : ℕ) → m ≢ n → (m == n) ≡ false
differs m n apart = grind (arith, nat_tests)

module _ {T : Type 0} (w : World T) (q : ℕ) (what : LimboEntry) (seen : ℕ) where
  place-or : WaitsWith w q what seen → (q < length w.time.places) ⊎ (length w.time.places ≤ q) → q < length w.time.places
  place-or h (inl l) = l
  place-or h (inr past) =
      let nothing : (place_at w q).bags.waiting ≡ [] = ap (λ (x : Participant). x.bags.waiting) (get_or_past w.time.places q nobody past) in
      let none : Contains [] (having_seen seen what) = subst (λ (ws : List Waiting). Contains ws (having_seen seen what)) nothing h in
      absurd (omega (arith, none.1))

  -- who has something waiting is a participant
  pub waiting-place : WaitsWith w q what seen → q < length w.time.places
  waiting-place h = place-or h (below-or-past q (length w.time.places))

  pub waiting-young : IsWhole w → WaitsWith w q what seen → seen ≤ 2
  waiting-young i h = All-contains (λ (w : Waiting). w.seen ≤ 2) (place_at w q).bags.waiting (having_seen seen what) (i.abreast q).young h

module _ {T : Type 0} (w : World T) (q k seen : ℕ) where
  pub waits-counts : Waits w q k seen → 1 ≤ times_with k (place_at w q)
  waits-counts h = entry-counts k seen (place_at w q).bags.waiting h

  pub waits-place : Waits w q k seen → q < length w.time.places
  waits-place h = waiting-place w q (Item k) seen h

  -- the slot of an entry waits
  pub waits-standing : IsWhole w → Waits w q k seen → is_waiting (standing_at w k) ≡ true
  waits-standing i h = once-waits (is_waiting (standing_at w k)) (omega (arith, i.once k, waits-counts h, one-place k w.time.places q))

  -- what another participant has due is not this
  pub other-due : IsWhole w → Waits w q k seen → (p : ℕ) → p ≢ q → times_among k (due_next (place_at w p)) ≡ 0
  other-due i h p apart =
      let both = two-places k w.time.places p q apart (waits-place h) in
      omega (arith, both, waits-counts h, i.once k, once-bound (is_waiting (standing_at w k)), times-aged k (place_at w p).bags.waiting)

  -- what is younger is not due
  pub young-due : IsWhole w → Waits w q k seen → seen < 2 → times_among k (due_next (place_at w q)) ≡ 0
  young-due i h young =
      let ws = (place_at w q).bags.waiting in
      let still = entry-counts k (seen + 1) (left (aged ws)) (entry-older k seen ws young h) in
      omega (arith, still, i.once k, once-bound (is_waiting (standing_at w k)), times-aged k ws, one-place k w.time.places q)

module _ {T : Type 0} (holds : T → List OwnerOrCell) (w : World T) (p : ℕ) (what : LimboEntry) (seen : ℕ) where
  -- the caller's own entries, after its opening
  pub nests-waiting : p < length w.time.places → Nests holds w p → WaitsWith w p what seen → WaitsWith (opened holds w p) p what seen
  nests-waiting l n h =
      let here : place_at (opened holds w p) p ≡ time.nested (place_at w p) =
      ap (λ (u : World T). place_at u p) n.nests ∙ get_or-set_same w.time.places p (time.nested (place_at w p)) nobody l in
      subst (λ (x : Participant). Contains x.bags.waiting (having_seen seen what)) (sym here) h

  pub change-waiting : p < length w.time.places → IsChange holds w p → seen < 2 → WaitsWith w p what seen → WaitsWith (opened holds w p) p what (seen + 1)
  change-waiting l c young h =
      let o = opens holds w p l (is_open (place_at w p)) refl in
      let y : Waiting = having_seen (seen + 1) what in
      let test : ((place_at w p).found == w.time.count) ≡ false = differs (place_at w p).found w.time.count c.another in
      let own : place_at (opened holds w p) p ≡ time.settled (all_awaiting o.slots (time.rotated w.time.count (time.nested (place_at w p)))) =
      o.own ∙ opens-changed w.time.count o.slots (place_at w p) c.closed_before test in
      subst (λ (x : Participant). Contains x.bags.waiting y) (sym own)
      (all_awaiting-waiting o.slots (time.rotated w.time.count (time.nested (place_at w p))) y (older-left what seen (place_at w p).bags.waiting young h))

module _ {T : Type 0} (holds : T → List OwnerOrCell) (w : World T) (p k seen : ℕ) where
  pub change-waits : p < length w.time.places → IsChange holds w p → seen < 2 → Waits w p k seen → Waits (opened holds w p) p k (seen + 1)
  change-waits l c young h = change-waiting holds w p (Item k) seen l c young h
