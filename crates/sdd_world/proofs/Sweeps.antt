-- The closing of a world sweeps away exactly what goes
use Rattle.std.proofs.Common.{subst, Bool, true, false, ◌≡◌, ◌≢◌, ◌⊎◌, inl, inr, ℕ, ◌+◌, ◌<◌, ◌≤◌, List, [], ◌∷◌, length, cond, count_by, sum_by, refl, sym, ap, ◌∙◌, arith, Some, None, Option, zero, suc, nat_lt, slice_index_or, slice_set}
use Rattle.std.specs.Prelude.{◌-◌, max, is_some, IsSome, IsNone, All, AllPairs, Contains, map, slice_get}
use Rattle.std.proofs.lemmas.Bool.{cases_lt}
use Rattle.std.proofs.lemmas.Bool.Decides.{nat_tests}
use Rattle.std.proofs.lemmas.List.{length-set, get_or-set_same, get_or-set_other}
use Rattle.std.proofs.lemmas.List.Sums.{sum_by-set, sum_by-cons}
use Rattle.std.proofs.lemmas.List.Kept.{AllPairs-cons}
use Rattle.std.proofs.lemmas.List.Elements.{Contains-get_or}
use Rattle.sdd_participants.specs.declared.waiting.LimboEntry.{LimboEntry}
use Rattle.sdd_participants.specs.declared.waiting.LimboEntry.TheVariants.{Item, Job}
use Rattle.sdd_participants.specs.EpochState.{without_waiting, EpochState, due_next, nobody, pace_of}
use Rattle.sdd_participants.specs.EpochState as time
use Rattle.sdd_participants.specs.Slab.{Entries, entry_at, with_entry, without_entry}
use Rattle.sdd_participants.specs.Tally.{one_reclaimed}
use Rattle.sdd_participants.specs.declared.participant.Participant.{Participant}
use Rattle.sdd_participants.specs.declared.standing.CellContents.{CellContents}
use Rattle.sdd_participants.specs.declared.standing.Standing.{Standing}
use Rattle.sdd_participants.specs.declared.standing.Standing.TheVariants.{Owned, Raw, Shared, Retired, Private as privately}
use Rattle.sdd_world_model.specs.Slots.{is_waiting, IsWaiting}
use Rattle.sdd_world_model.specs.World.{World, standing_at, value_at, place_at}
use Rattle.sdd_world_model.specs.WorldChanges.{without_cell, spilled, cell_closed, held_in, owner_given, given, given_all, freed, taken_out, waiting_value, reclaimed, all_reclaimed, changed}
use Rattle.sdd_world_model.specs.WorldChanges as steps
use Rattle.sdd_world_model.specs.OwnerOrCell.{OwnerOrCell, owned, shared, atomic_owned, atomic_shared, atomic_raw}
use Rattle.sdd_world_model.specs.WorldInvariant.{times_with, jobs_with, once_if, taken, IsWhole}
use Rattle.sdd_world_model.specs.OwnerCounts.{owner_count}
use Rattle.sdd_world_core.specs.Closing.{NothingIsOut}
use Rattle.sdd_world.specs.Closing.{aged_out, all_aged_out, ReclaimsAll, Owner, Holder, holder, slot_owned, cell_held, with_fewer, held_by, held_at, owns, AreAllOf, Goes, AllGo, with_reclaimed, KeepsItem, Sweeps, Accounts}
use Rattle.sdd_world.specs.Closing.Owner.{of_value, of_cell}
use Rattle.sdd_world.specs.Closing.Holder.{the_item, the_cell}
use Rattle.sdd_world.specs.Closing.Goes.{waits, given as by_giving, held as by_holding}
use Rattle.sdd_world_model.proofs.WaitingCounts.{in_range}
use Rattle.sdd_world_model.proofs.Standings.{out-inside, out-some, owner-given}
use Rattle.sdd_world_model.specs.Out.{is_out, out, HoldsNothing}
use Rattle.sdd_world_model.specs.WorldInvariant.{IsCounted}
use Rattle.sdd_participants.specs.declared.tally.Tally.{Tally}
use Rattle.sdd_world_model.proofs.WorldInvariant.{one_where, waits-inside}
use Rattle.sdd_world_model.proofs.GuardOpened.{none-here}
use Rattle.sdd_participants.proofs.Adoptions.{same-or-not}
use Rattle.sdd_world.proofs.Pointers.{all_aged_out-pointers, all_aged_out-jobs}

-- ---- lists whose elements all differ
module _ {A : Type 0} where
  first-in : (x : A) (xs : List A) → Contains (x ∷ xs) x
  first-in x xs = (zero, omega arith, refl)

  later-in : (x : A) (xs : List A) (a : A) → Contains xs a → Contains (x ∷ xs) a
  later-in x xs a c = (suc c.0, omega (arith, c.1), c.2)

  pub in-which : (x : A) (xs : List A) (a : A) → Contains (x ∷ xs) a → (x ≡ a) ⊎ Contains xs a
  in-which x xs a (zero, l, e) = inl e
  in-which x xs a (suc k, l, e) = inr (k, omega (arith, l), e)

  first-apart : (x : A) (xs : List A) → AllPairs ◌≢◌ (x ∷ xs) → Contains xs x → ⊥
  first-apart x xs h c = h zero (suc c.0) x (omega arith) (omega (arith, c.1)) (sym c.2)

  rest-apart : (x : A) (xs : List A) → AllPairs ◌≢◌ (x ∷ xs) → AllPairs ◌≢◌ xs
  rest-apart x xs h i j d before l = h (suc i) (suc j) d (omega (arith, before)) (omega (arith, l))

  pub one-more-apart : (x : A) (xs : List A) → (Contains xs x → ⊥) → AllPairs ◌≢◌ xs → AllPairs ◌≢◌ (x ∷ xs)
  one-more-apart x xs new h = AllPairs-cons ◌≢◌ x xs (λ k d l e. new (rw e (Contains-get_or xs k d l))) h

  -- the others
  record Others (xs : List A) (a : A) : Type 0 where
    rest : List A
    count : length xs ≡ suc (length rest)
    each : (b : A) → Contains xs b → (a ≡ b) ⊎ Contains rest b

  first-others : (x : A) (xs : List A) (a b : A) → x ≡ a → (x ≡ b) ⊎ Contains xs b → (a ≡ b) ⊎ Contains xs b
  first-others x xs a b e (inl f) = inl (sym e ∙ f)
  first-others x xs a b e (inr c) = inr c

  later-others : (x : A) (xs : List A) (a b : A) → (a ≡ b) ⊎ Contains xs b → (a ≡ b) ⊎ Contains (x ∷ xs) b
  later-others x xs a b (inl e) = inl e
  later-others x xs a b (inr c) = inr (later-in x xs b c)

  next-others : (x : A) (xs : List A) (a : A) (o : Others xs a) (b : A) → (x ≡ b) ⊎ Contains xs b → (a ≡ b) ⊎ Contains (x ∷ o.rest) b
  next-others x xs a o b (inl e) = inr (rw (← e) (first-in x o.rest))
  next-others x xs a o b (inr c) = later-others x o.rest a b (o.each b c)

  others : (xs : List A) (a : A) → Contains xs a → Others xs a
  others [] a c = absurd (omega (arith, c.1))
  others (x ∷ xs) a (zero, l, e) = record { rest = xs; count = refl; each = λ b c. first-others x xs a b e (in-which x xs b c) }
  others (x ∷ xs) a (suc k, l, e) =
      let o = others xs a (k, omega (arith, l), e) in
      record { rest = x ∷ o.rest; count = ap suc o.count; each = λ b c. next-others x xs a o b (in-which x xs b c) }

  among-rest : (a b : A) (xs ys : List A) → (Contains xs a → ⊥) → Contains xs b → (a ≡ b) ⊎ Contains ys b → Contains ys b
  among-rest a b xs ys apart c (inl e) = absurd (apart (rw e c))
  among-rest a b xs ys apart c (inr d) = d

  -- at most as many differ as there are
  no-more : (xs ys : List A) → AllPairs ◌≢◌ xs → ((a : A) → Contains xs a → Contains ys a) → length xs ≤ length ys
  no-more [] ys apart h = omega arith
  no-more (a ∷ xs) ys apart h =
      let o = others ys a (h a (first-in a xs)) in
      let fewer = no-more xs o.rest (rest-apart a xs apart)
      (λ b c. among-rest a b xs o.rest (first-apart a xs apart) c (o.each b (h b (later-in a xs b c)))) in
      omega (arith, o.count, fewer)

some-same : (m k : ℕ) → Some k ≡ Some m → m ≡ k
some-same m k e = cc

-- nothing is where nothing was put
none-set : {E : Type 0} (xs : List (Option E)) (k j : ℕ) → slice_index_or xs j None ≡ None → slice_index_or (slice_set xs k None) j None ≡ None
none-set [] k j e = e
none-set (x ∷ xs) zero zero e = refl
none-set (x ∷ xs) zero (suc j) e = e
none-set (x ∷ xs) (suc k) zero e = e
none-set (x ∷ xs) (suc k) (suc j) e = none-set xs k j e

abbrev one_if : Option Standing → ℕ
one_if s = cond (is_some s) 1 0

waits-counts : (s : Option Standing) → IsWaiting s → one_if s ≡ 1
waits-counts None h = cc
waits-counts (Some s) h = refl

waiting-some : (s : Option Standing) → IsWaiting s → IsSome s
waiting-some None h = cc
waiting-some (Some s) h = refl

-- a list of nothing
all-none : {E : Type 0} (xs : List (Option E)) → ((k : ℕ) → slice_index_or xs k None ≡ None) → All (λ x. IsNone x) xs
all-none [] h k d l = absurd (omega (arith, l))
all-none (x ∷ xs) h zero d l = ap is_some (h zero)
all-none (x ∷ xs) h (suc k) d l = all-none xs (λ j. h (suc j)) k d (omega (arith, l))

none-of : {E : Type 0} (x : Option E) → IsNone x → x ≡ None
none-of None h = refl
none-of (Some x) h = cc

none-at : {E : Type 0} (xs : List (Option E)) → All (λ x. IsNone x) xs → (k : ℕ) → slice_index_or xs k None ≡ None
none-at [] h k = refl
none-at (x ∷ xs) h zero = none-of x (h zero None (omega arith))
none-at (x ∷ xs) h (suc k) = none-at xs (λ j d l. h (suc j) d (omega (arith, l))) k

none-taken : {E : Type 0} (xs : List (Option E)) → All (λ x. IsNone x) xs → count_by is_some xs ≡ 0
none-taken [] h = refl
none-taken (None ∷ xs) h = none-taken xs (λ j d l. h (suc j) d (omega (arith, l)))
none-taken (Some x ∷ xs) h = let first = h zero None (omega arith) in cc

some-none : {E : Type 0} {e : Option E} → IsSome e → e ≡ None → ⊥
some-none some none = cc

some-owned : (s : Option Standing) → 0 < owner_count s → IsSome s
some-owned None l = absurd (omega (arith, l))
some-owned (Some s) l = refl

-- an item is there, and waits, whatever was given up
fewer-waits : (n : ℕ) (s : Option Standing) → is_waiting (with_fewer n s) ≡ is_waiting s
fewer-waits n None = refl
fewer-waits n (Some Owned) = refl
fewer-waits n (Some Raw) = refl
fewer-waits n (Some (Shared m)) = refl
fewer-waits n (Some Retired) = refl
fewer-waits n (Some (privately c)) = refl

fewer-some : (n : ℕ) (s : Option Standing) → is_some (with_fewer n s) ≡ is_some s
fewer-some n None = refl
fewer-some n (Some Owned) = refl
fewer-some n (Some Raw) = refl
fewer-some n (Some (Shared m)) = refl
fewer-some n (Some Retired) = refl
fewer-some n (Some (privately c)) = refl

fewer-none : (s : Option Standing) → with_fewer 0 s ≡ s
fewer-none None = refl
fewer-none (Some Owned) = refl
fewer-none (Some Raw) = refl
fewer-none (Some (Shared m)) = let same : m - 0 ≡ m = omega arith in ap (λ (n : ℕ). Some (Shared n)) same
fewer-none (Some Retired) = refl
fewer-none (Some (privately c)) = refl

-- ---- an owner is given to p
module _ {T : Type 0} where
  -- only slot k stands otherwise, and none is free that was not, or the other way round
  record Gave (k : ℕ) (u w : World T) : Type 0 where
    others : (j : ℕ) → j ≢ k → standing_at w j ≡ standing_at u j
    there : (j : ℕ) → is_some (standing_at w j) ≡ is_some (standing_at u j)
    values : w.values ≡ u.values
    cells : w.cells ≡ u.cells
    tally : w.tally ≡ u.tally
    taken : taken w ≡ taken u
    slots : length w.standings ≡ length u.standings

  Gave-refl : (k : ℕ) (w : World T) → Gave k w w
  Gave-refl k w = record { others = λ j apart. refl; there = λ j. refl; values = refl; cells = refl; tally = refl; taken = refl; slots = refl }

  stands-there : (w : World T) (k j : ℕ) (s : Standing) → is_out (standing_at w k) ≡ true → (j ≡ k) ⊎ (j ≢ k) →
      is_some (entry_at (with_entry w.standings k s) j) ≡ is_some (standing_at w j)
  stands-there w k j s is (inl e) =
      let here = get_or-set_same w.standings k (Some s) None (out-inside w.standings k is) in
      rw e (ap is_some here ∙ sym (out-some (standing_at w k) is))
  stands-there w k j s is (inr apart) = ap is_some (get_or-set_other w.standings k j (Some s) None apart)

  Gave-stands : (w : World T) (k : ℕ) (s : Standing) (t : EpochState) → is_out (standing_at w k) ≡ true →
      Gave k w (record w { time = t; standings = with_entry w.standings k s })
  Gave-stands w k s t is =
      let one = sum_by-set one_if w.standings k (Some s) None (out-inside w.standings k is) in
      let was = ap {B = ℕ} (λ (b : Bool). cond b 1 0) (out-some (standing_at w k) is) in
      record {
        others = λ j apart. get_or-set_other w.standings k j (Some s) None apart;
        there = λ j. stands-there w k j s is (same-or-not j k);
        values = refl;
        cells = refl;
        tally = refl;
        taken = omega (arith, one, was);
        slots = length-set w.standings k (Some s);
      }

  Gave-owner : (w : World T) (p k : ℕ) (s : Option Standing) → standing_at w k ≡ s → Gave k w (owner_given w p k s)
  Gave-owner w p k s is =
      owner-given (λ (u : World T). Gave k w u) w p k s is (Gave-refl k w) (λ there. Gave-stands w k Retired (time.awaiting_at w.time p (Item k)) there)
      (λ n several more. Gave-stands w k (Shared (n - 1)) w.time (ap is_out several))

-- what the value of the slot from this index on holds is still to be given up
data Pending : Type 0 where
  nothing : Pending
  rest : (slot index : ℕ) → Pending

abbrev IsPast : Pending → ℕ → ℕ → Type 0
IsPast nothing j i = Unit {0}
IsPast (rest s n) j i = j ≡ s → i < n

-- one owner more of those is given up
record Gains (G H : Owner → Type 0) (o : Owner) : Type 0 where
  keeps : (x : Owner) → G x → H x
  only : (x : Owner) → H x → G x ⊎ (x ≡ o)
  new : G o → ⊥
  now : H o

module _ {T : Type 0} (holds : T → List OwnerOrCell) (old : World T) where
  -- the owner was given up, where slots and cells stand so
  abbrev IsGiven : Pending → Entries Standing → Entries CellContents → Owner → Type 0
  IsGiven x ss cs (of_value j i) = IsSome (standing_at old j) × IsNone (entry_at ss j) × IsPast x j i
  IsGiven x ss cs (of_cell c) = entry_at cs c ≡ None

  abbrev WasGiven : World T → Owner → Type 0
  WasGiven w = IsGiven nothing w.standings w.cells

  -- these are the slot's owners that were given up
  record AreGiven (G : Owner → Type 0) (k : ℕ) (given : List Owner) : Type 0 where
    apart : AllPairs ◌≢◌ given
    sound : (o : Owner) → Contains given o → G o × (owns holds old o ≡ Some k) × Goes holds old (holder o)
    all : (o : Owner) → owns holds old o ≡ Some k → G o → Contains given o

  -- the slot's item has owners left, if it had any
  record Still (G : Owner → Type 0) (k : ℕ) (s : Option Standing) (v : Option T) : Type 0 where
    given : List Owner
    are : AreGiven G k given
    some_left : 0 < owner_count (standing_at old k) → length given < owner_count (standing_at old k)
    standing : s ≡ with_fewer (length given) (standing_at old k)
    value : v ≡ value_at old k

  -- the slot's item stays, or waits, or is gone
  data SlotState (G : Owner → Type 0) (k : ℕ) (s : Option Standing) (v : Option T) : Type 0 where
    still : Still G k s v → SlotState G k s v
    retires : Goes holds old (the_item k) → s ≡ Some Retired → v ≡ value_at old k → SlotState G k s v
    gone : Goes holds old (the_item k) → s ≡ None → v ≡ None → SlotState G k s v

  abbrev StateAt : (Owner → Type 0) → World T → ℕ → Type 0
  StateAt G w k = SlotState G k (standing_at w k) (value_at w k)

  -- a cell stays, or is closed
  data CellState (c : ℕ) (e : Option CellContents) : Type 0 where
    keeps : e ≡ entry_at old.cells c → CellState c e
    closed : Goes holds old (the_cell c) → e ≡ None → CellState c e

  -- how far the closing is, while this is still to be given up
  record Swept (x : Pending) (w : World T) : Type 0 where
    slot : (k : ℕ) → StateAt (IsGiven x w.standings w.cells) w k
    cell : (c : ℕ) → CellState c (entry_at w.cells c)
    done : (j i c : ℕ) → cell_held (held_at holds old j i) ≡ Some c → IsGiven x w.standings w.cells (of_value j i) → entry_at w.cells c ≡ None
    count : (n : ℕ) × (taken old ≡ taken w + n) × (w.tally ≡ with_reclaimed n old.tally)
    slots : length w.standings ≡ length old.standings
    cells : length w.cells ≡ length old.cells

  -- only time is another
  Swept-time : (x : Pending) (w : World T) (t : EpochState) → Swept x w → Swept x (record w { time = t })
  Swept-time x w t i = record { slot = i.slot; cell = i.cell; done = i.done; count = i.count; slots = i.slots; cells = i.cells }

  are-same : (G H : Owner → Type 0) (k : ℕ) (given : List Owner) → ((o : Owner) → G o → H o) →
      ((o : Owner) → owns holds old o ≡ Some k → H o → G o) → AreGiven G k given → AreGiven H k given
  are-same G H k given to from a =
      record {
        apart = a.apart;
        sound = λ o c. let s = a.sound o c in (to o s.0, s.1, s.2);
        all = λ o e h. a.all o e (from o e h);
      }

  -- the same of its owners were given up
  slot-same : (G H : Owner → Type 0) (k : ℕ) (s : Option Standing) (v : Option T) → ((o : Owner) → G o → H o) →
      ((o : Owner) → owns holds old o ≡ Some k → H o → G o) → SlotState G k s v → SlotState H k s v
  slot-same G H k s v to from (still a) =
      still (record { given = a.given; are = are-same G H k a.given to from a.are; some_left = a.some_left; standing = a.standing; value = a.value })
  slot-same G H k s v to from (retires g a b) = retires g a b
  slot-same G H k s v to from (gone g a b) = gone g a b

  -- ---- one owner more is given up
  module _ (G H : Owner → Type 0) (k : ℕ) (o : Owner) (of : owns holds old o ≡ Some k) (goes : Goes holds old (holder o)) (gains : Gains G H o) where
    more-sound : (given : List Owner) → AreGiven G k given → (x : Owner) → (o ≡ x) ⊎ Contains given x →
        H x × (owns holds old x ≡ Some k) × Goes holds old (holder x)
    more-sound given a x (inl e) = rw (← e) (gains.now, of, goes)
    more-sound given a x (inr c) = let s = a.sound x c in (gains.keeps x s.0, s.1, s.2)

    more-all : (given : List Owner) → AreGiven G k given → (x : Owner) → owns holds old x ≡ Some k → G x ⊎ (x ≡ o) → Contains (o ∷ given) x
    more-all given a x e (inl h) = later-in o given x (a.all x e h)
    more-all given a x e (inr same) = rw same (first-in o given)

    more-are : (given : List Owner) → AreGiven G k given → AreGiven H k (o ∷ given)
    more-are given a =
        record {
          apart = one-more-apart o given (λ c. gains.new (a.sound o c).0) a.apart;
          sound = λ x c. more-sound given a x (in-which o given x c);
          all = λ x e h. more-all given a x e (gains.only x h);
        }

    -- the last of them
    all-given : (given : List Owner) → AreGiven G k given → suc (length given) ≡ owner_count (standing_at old k) → Goes holds old (the_item k)
    all-given given a e =
        let more = more-are given a in
        by_giving k (o ∷ given) (record { each = λ x c. (more.sound x c).1; distinct = more.apart; some = omega arith; all = e })
        (λ x c. (more.sound x c).2)

    module _ (w : World T) (p : ℕ) (a : Still G k (standing_at w k) (value_at w k)) where
      -- the item has no owners
      given-idle : owner_count (standing_at old k) ≡ 0 →
          with_fewer (length a.given) (standing_at old k) ≡ with_fewer (suc (length a.given)) (standing_at old k) →
          StateAt H w k
      given-idle none same =
          still
          (record {
            given = o ∷ a.given;
            are = more-are a.given a.are;
            some_left = λ l. absurd (omega (arith, l, none));
            standing = a.standing ∙ same;
            value = a.value;
          })

      given-shared : (m n : ℕ) → n ≡ m - length a.given → standing_at old k ≡ Some (Shared m) → (b : Bool) → nat_lt 1 n ≡ b →
          StateAt H (owner_given w p k (Some (Shared n))) k
      given-shared m n left is true e =
          let several : 1 < n = grind (arith, nat_tests, e) in
          let count : owner_count (standing_at old k) ≡ max 1 m = rw is refl in
          let now : standing_at w k ≡ Some (Shared n) = rw left (rw is at a.standing) in
          let fewer : n - 1 ≡ m - suc (length a.given) = omega (arith, left) in
          let is_fewer : Some (Shared (n - 1)) ≡ with_fewer (suc (length a.given)) (standing_at old k) = rw is (ap (λ (n : ℕ). Some (Shared n)) fewer) in
          rw e
          (still
          (record {
            given = o ∷ a.given;
            are = more-are a.given a.are;
            some_left = λ _. omega (arith, several, count, left);
            standing = get_or-set_same w.standings k (Some (Shared (n - 1))) None (in_range w.standings k (Shared n) now) ∙ is_fewer;
            value = a.value;
          }))
      given-shared m n left is false e =
          let last : n ≤ 1 = grind (arith, nat_tests, e) in
          let count : owner_count (standing_at old k) ≡ max 1 m = rw is refl in
          let some : length a.given < owner_count (standing_at old k) = a.some_left (omega (arith, count)) in
          let now : standing_at w k ≡ Some (Shared n) = rw left (rw is at a.standing) in
          rw e
          (retires (all-given a.given a.are (omega (arith, count, some, last, left)))
          (get_or-set_same w.standings k (Some Retired) None (in_range w.standings k (Shared n) now))
          a.value)

      given-still : (s : Option Standing) → standing_at old k ≡ s →
          StateAt H (owner_given w p k (with_fewer (length a.given) s)) k
      given-still None is = given-idle (rw is refl) (rw is refl)
      given-still (Some Owned) is =
          let count : owner_count (standing_at old k) ≡ 1 = rw is refl in
          let now : standing_at w k ≡ Some Owned = rw is at a.standing in
          let some : length a.given < owner_count (standing_at old k) = a.some_left (omega (arith, count)) in
          retires (all-given a.given a.are (omega (arith, count, some)))
          (get_or-set_same w.standings k (Some Retired) None (in_range w.standings k Owned now)) a.value
      given-still (Some Raw) is = given-idle (rw is refl) (rw is refl)
      given-still (Some (Shared m)) is = given-shared m (m - length a.given) refl is (nat_lt 1 (m - length a.given)) refl
      given-still (Some Retired) is = given-idle (rw is refl) (rw is refl)
      given-still (Some (privately c)) is = given-idle (rw is refl) (rw is refl)

    given-here : (w : World T) (p : ℕ) → StateAt G w k →
        StateAt H (owner_given w p k (standing_at w k)) k
    given-here w p (still a) =
        subst (λ (s : Option Standing). StateAt H (owner_given w p k s) k) (sym a.standing) (given-still w p a (standing_at old k) refl)
    given-here w p (retires g s v) =
        subst (λ (s : Option Standing). StateAt H (owner_given w p k s) k) (sym s) (retires g s v)
    given-here w p (gone g s v) =
        subst (λ (s : Option Standing). StateAt H (owner_given w p k s) k) (sym s) (gone g s v)

    other-owner : (j : ℕ) → j ≢ k → (x : Owner) → owns holds old x ≡ Some j → G x ⊎ (x ≡ o) → G x
    other-owner j apart x e (inl h) = h
    other-owner j apart x e (inr same) = let k_too : owns holds old x ≡ Some k = rw same of in absurd (apart (some-same j k (sym k_too ∙ e)))

    given-slot : (w : World T) (p j : ℕ) → (j ≡ k) ⊎ (j ≢ k) → StateAt G w j →
        StateAt H (owner_given w p k (standing_at w k)) j
    given-slot w p j (inl e) s = rw e (given-here w p (rw e at s))
    given-slot w p j (inr apart) s =
        let gave = Gave-owner w p k (standing_at w k) refl in
        rw (gave.others j apart, gave.values)
        (slot-same G H j (standing_at w j) (value_at w j) gains.keeps (λ x e h. other-owner j apart x e (gains.only x h)) s)

  -- ---- an owner that a value holds is given up
  past-next : (s n j i : ℕ) → IsPast (rest s n) j i → IsPast (rest s (suc n)) j i
  past-next s n j i past e = omega (arith, past e)

  -- as many slots are free, and the same cells
  owner-keeps : (s n : ℕ) (ss ts : Entries Standing) (cs ds : Entries CellContents) → ((j : ℕ) → is_some (entry_at ts j) ≡ is_some (entry_at ss j)) → ds ≡ cs →
      (o : Owner) → IsGiven (rest s n) ss cs o → IsGiven (rest s (suc n)) ts ds o
  owner-keeps s n ss ts cs ds there same (of_value j i) h = (h.0, there j ∙ h.1, past-next s n j i h.2)
  owner-keeps s n ss ts cs ds there same (of_cell c) h = rw same h

  past-or : (s n j i : ℕ) → IsPast (rest s (suc n)) j i → (j ≡ s) ⊎ (j ≢ s) → (i ≡ n) ⊎ (i ≢ n) → IsPast (rest s n) j i ⊎ ((j ≡ s) × (i ≡ n))
  past-or s n j i past (inl e) (inl f) = inr (e, f)
  past-or s n j i past (inl e) (inr apart) = inl (λ _. omega (arith, past e, apart))
  past-or s n j i past (inr apart) which = inl (λ e. absurd (apart e))

  -- it was given up before, or is what is given up now
  value-past : (s n : ℕ) (ss : Entries Standing) (cs : Entries CellContents) (j i : ℕ) → IsSome (standing_at old j) → IsNone (entry_at ss j) →
      IsPast (rest s n) j i ⊎ ((j ≡ s) × (i ≡ n)) → IsGiven (rest s n) ss cs (of_value j i) ⊎ ((j ≡ s) × (i ≡ n))
  value-past s n ss cs j i some none (inl past) = inl (some, none, past)
  value-past s n ss cs j i some none (inr e) = inr e

  value-only : (s n : ℕ) (ss ts : Entries Standing) (cs ds : Entries CellContents) → ((j : ℕ) → is_some (entry_at ts j) ≡ is_some (entry_at ss j)) →
      (j i : ℕ) → IsGiven (rest s (suc n)) ts ds (of_value j i) → IsGiven (rest s n) ss cs (of_value j i) ⊎ ((j ≡ s) × (i ≡ n))
  value-only s n ss ts cs ds there j i h =
      value-past s n ss cs j i h.0 (sym (there j) ∙ h.1) (past-or s n j i h.2 (same-or-not j s) (same-or-not i n))

  value-same : (G : Owner → Type 0) (s n j i : ℕ) → G (of_value j i) ⊎ ((j ≡ s) × (i ≡ n)) → G (of_value j i) ⊎ (of_value j i ≡ of_value s n)
  value-same G s n j i (inl h) = inl h
  value-same G s n j i (inr e) = inr (rw (e.0, e.1) refl)

  owner-only : (s n : ℕ) (ss ts : Entries Standing) (cs ds : Entries CellContents) → ((j : ℕ) → is_some (entry_at ts j) ≡ is_some (entry_at ss j)) → ds ≡ cs →
      (o : Owner) → IsGiven (rest s (suc n)) ts ds o → IsGiven (rest s n) ss cs o ⊎ (o ≡ of_value s n)
  owner-only s n ss ts cs ds there same (of_value j i) h =
      value-same (IsGiven (rest s n) ss cs) s n j i (value-only s n ss ts cs ds there j i h)
  owner-only s n ss ts cs ds there same (of_cell c) h = inl (rw (← same) h)

  -- the value of slot s is being given up, from index n on
  record Giving (s n : ℕ) (w : World T) : Type 0 where
    goes : Goes holds old (the_item s)
    there : IsSome (standing_at old s)
    free : IsNone (standing_at w s)
    swept : Swept (rest s n) w

  some-held : {A : Type 0} (c : A) {x : Option A} → x ≡ None → x ≡ Some c → ⊥
  some-held c none some = absurd (cc)

  -- the cells that were held are closed, and the one at this index is
  done-next : (s n : ℕ) (w : World T) (j i c : ℕ) → Swept (rest s n) w → ((d : ℕ) → cell_held (held_at holds old s n) ≡ Some d → entry_at w.cells d ≡ None) →
      cell_held (held_at holds old j i) ≡ Some c → IsGiven (rest s n) w.standings w.cells (of_value j i) ⊎ ((j ≡ s) × (i ≡ n)) → entry_at w.cells c ≡ None
  done-next s n w j i c a here of (inl h) = a.done j i c of h
  done-next s n w j i c a here of (inr same) = here c (rw (same.0, same.1) at of)

  gives-owner : (s n : ℕ) (w : World T) (p k : ℕ) → slot_owned (held_at holds old s n) ≡ Some k → cell_held (held_at holds old s n) ≡ None →
      Giving s n w → Giving s (suc n) (owner_given w p k (standing_at w k))
  gives-owner s n w p k of no_cell a =
      let new = owner_given w p k (standing_at w k) in
      let gave = Gave-owner w p k (standing_at w k) refl in
      let gains : Gains (IsGiven (rest s n) w.standings w.cells) (IsGiven (rest s (suc n)) new.standings new.cells) (of_value s n) =
      record {
        keeps = owner-keeps s n w.standings new.standings w.cells new.cells gave.there gave.cells;
        only = owner-only s n w.standings new.standings w.cells new.cells gave.there gave.cells;
        new = λ h. let before : n < n = h.2 refl in absurd (omega (arith, before));
        now = (a.there, gave.there s ∙ a.free, λ e. omega arith);
      } in
      record {
        goes = a.goes;
        there = a.there;
        free = gave.there s ∙ a.free;
        swept = record {
          slot = λ j. given-slot (IsGiven (rest s n) w.standings w.cells) (IsGiven (rest s (suc n)) new.standings new.cells) k (of_value s n) of
              a.goes gains w p j (same-or-not j k) (a.swept.slot j);
          cell = λ c. rw gave.cells (a.swept.cell c);
          done = λ j i c e h. rw gave.cells (done-next s n w j i c a.swept (λ d is. absurd (some-held d no_cell is)) e
              (value-only s n w.standings new.standings w.cells new.cells gave.there j i h));
          count = (a.swept.count.0, omega (arith, a.swept.count.1, gave.taken), gave.tally ∙ a.swept.count.2);
          slots = gave.slots ∙ a.swept.slots;
          cells = rw gave.cells a.swept.cells;
        };
      }

  -- ---- a cell that a value holds is closed
  not-owner : (s n k : ℕ) (G : Owner → Type 0) (o : Owner) → slot_owned (held_at holds old s n) ≡ None → owns holds old o ≡ Some k →
      G o ⊎ (o ≡ of_value s n) → G o
  not-owner s n k G o none of (inl h) = h
  not-owner s n k G o none of (inr e) = absurd (some-held k none (rw e at of))

  -- what is no owner is passed by, once its cell is closed
  gives-cell : (s n : ℕ) (w : World T) → slot_owned (held_at holds old s n) ≡ None →
      ((d : ℕ) → cell_held (held_at holds old s n) ≡ Some d → entry_at w.cells d ≡ None) → Giving s n w → Giving s (suc n) w
  gives-cell s n w none shut a =
      let ss = w.standings in
      let cs = w.cells in
      record {
        goes = a.goes;
        there = a.there;
        free = a.free;
        swept = record {
          slot = λ j. slot-same (IsGiven (rest s n) ss cs) (IsGiven (rest s (suc n)) ss cs) j (standing_at w j) (value_at w j)
              (owner-keeps s n ss ss cs cs (λ k. refl) refl)
              (λ o of h. not-owner s n j (IsGiven (rest s n) ss cs) o none of (owner-only s n ss ss cs cs (λ k. refl) refl o h)) (a.swept.slot j);
          cell = a.swept.cell;
          done = λ j i c e h. done-next s n w j i c a.swept shut e (value-only s n ss ss cs cs (λ k. refl) j i h);
          count = a.swept.count;
          slots = a.swept.slots;
          cells = a.swept.cells;
        };
      }

  cell-shut : (cs : Entries CellContents) (c d : ℕ) → Goes holds old (the_cell c) → CellState d (entry_at cs d) → (d ≡ c) ⊎ (d ≢ c) →
      CellState d (entry_at (without_entry cs c) d)
  cell-shut cs c d g s (inl e) = rw e (closed g (none-here cs c))
  cell-shut cs c d g s (inr apart) = rw (get_or-set_other cs c d None None apart) s

  -- what was given up before, and the owner that the cell holds
  shut-keeps : (x : Pending) (ss ts : Entries Standing) (cs ds : Entries CellContents) (c : ℕ) → ((j : ℕ) → is_some (entry_at ts j) ≡ is_some (entry_at ss j)) →
      ds ≡ without_entry cs c → (o : Owner) → IsGiven x ss cs o → IsGiven x ts ds o
  shut-keeps x ss ts cs ds c there same (of_value j i) h = (h.0, there j ∙ h.1, h.2)
  shut-keeps x ss ts cs ds c there same (of_cell d) h = rw same (none-set cs c d h)

  other-cell : (cs : Entries CellContents) (c d : ℕ) → entry_at (without_entry cs c) d ≡ None → (d ≡ c) ⊎ (d ≢ c) → (entry_at cs d ≡ None)
      ⊎ (of_cell d ≡ of_cell c)
  other-cell cs c d h (inl e) = inr (ap of_cell e)
  other-cell cs c d h (inr apart) = inl (sym (get_or-set_other cs c d None None apart) ∙ h)

  shut-only : (x : Pending) (ss ts : Entries Standing) (cs ds : Entries CellContents) (c : ℕ) → ((j : ℕ) → is_some (entry_at ts j) ≡ is_some (entry_at ss j)) →
      ds ≡ without_entry cs c → (o : Owner) → IsGiven x ts ds o → IsGiven x ss cs o ⊎ (o ≡ of_cell c)
  shut-only x ss ts cs ds c there same (of_value j i) h = inl (h.0, sym (there j) ∙ h.1, h.2)
  shut-only x ss ts cs ds c there same (of_cell d) h = other-cell cs c d (rw same at h) (same-or-not d c)

  record Closed (x : Pending) (w : World T) (c : ℕ) (new : World T) : Type 0 where
    swept : Swept x new
    shut : entry_at new.cells c ≡ None
    there : (j : ℕ) → is_some (standing_at new j) ≡ is_some (standing_at w j)

  closed-to : (x : Pending) (w : World T) (c k : ℕ) (new : World T) → Gave k (without_cell w c) new → Goes holds old (the_cell c) → Swept x w →
      ((j : ℕ) → StateAt (IsGiven x new.standings new.cells) new j) → Closed x w c new
  closed-to x w c k new gave g i slots =
      record {
        swept = record {
          slot = slots;
          cell = λ d. rw gave.cells (cell-shut w.cells c d g (i.cell d) (same-or-not d c));
          done = λ j n d e h. rw gave.cells (none-set w.cells c d (i.done j n d e (h.0, sym (gave.there j) ∙ h.1, h.2)));
          count = (i.count.0, omega (arith, i.count.1, gave.taken), gave.tally ∙ i.count.2);
          slots = gave.slots ∙ i.slots;
          cells = rw gave.cells (length-set w.cells c None ∙ i.cells);
        };
        shut = rw gave.cells (none-here w.cells c);
        there = gave.there;
      }

  -- what a cell holds now is what it held, or nothing
  held-now : (c k : ℕ) (e : Option CellContents) → CellState c e → held_in e ≡ Some k → held_in (entry_at old.cells c) ≡ Some k
  held-now c k e (keeps same) h = ap held_in (sym same) ∙ h
  held-now c k e (closed g none) h = absurd (some-held k (ap held_in none) h)

  -- a cell that holds nothing held nothing, or is closed
  idle-cell : (x : Pending) (w : World T) (c k : ℕ) (o : Owner) → CellState c (entry_at w.cells c) → held_in (entry_at w.cells c) ≡ None →
      owns holds old o ≡ Some k → IsGiven x w.standings w.cells o ⊎ (o ≡ of_cell c) → IsGiven x w.standings w.cells o
  idle-cell x w c k o s none of (inl h) = h
  idle-cell x w c k o (keeps same) none of (inr e) = absurd (some-held k (ap held_in (sym same) ∙ none) (rw e at of))
  idle-cell x w c k o (closed g shut) none of (inr e) = rw e shut

  closes-holding : (x : Pending) (w : World T) (p c : ℕ) (held : Option ℕ) → held_in (entry_at w.cells c) ≡ held → Goes holds old (the_cell c) →
      Swept x w → Closed x w c (spilled (without_cell w c) p held)
  closes-holding x w p c None is g i =
      let u = without_cell w c in
      let given = IsGiven x w.standings w.cells in
      closed-to x w c 0 u (Gave-refl 0 u) g i
      (λ j. slot-same given (IsGiven x u.standings u.cells) j (standing_at w j) (value_at w j)
      (shut-keeps x w.standings w.standings w.cells u.cells c (λ k. refl) refl)
      (λ o of h. idle-cell x w c j o (i.cell c) is of (shut-only x w.standings w.standings w.cells u.cells c (λ k. refl) refl o h)) (i.slot j))
  closes-holding x w p c (Some k) is g i =
      let u = without_cell w c in
      let new = owner_given u p k (standing_at u k) in
      let gave = Gave-owner u p k (standing_at u k) refl in
      let gains : Gains (IsGiven x w.standings w.cells) (IsGiven x new.standings new.cells) (of_cell c) =
      record {
        keeps = shut-keeps x w.standings new.standings w.cells new.cells c gave.there gave.cells;
        only = shut-only x w.standings new.standings w.cells new.cells c gave.there gave.cells;
        new = λ h. some-held k (ap held_in h) is;
        now = rw gave.cells (none-here w.cells c);
      } in
      closed-to x w c k new gave g i
      (λ j. given-slot (IsGiven x w.standings w.cells) (IsGiven x new.standings new.cells) k (of_cell c)
      (held-now c k (entry_at w.cells c) (i.cell c) is) g gains u p j (same-or-not j k) (i.slot j))

  gives-closed : (s n : ℕ) (w : World T) (p c : ℕ) → slot_owned (held_at holds old s n) ≡ None → cell_held (held_at holds old s n) ≡ Some c →
      Giving s n w → Giving s (suc n) (cell_closed w p c)
  gives-closed s n w p c none of a =
      let t = closes-holding (rest s n) w p c (held_in (entry_at w.cells c)) refl (by_holding s n c of a.goes) a.swept in
      gives-cell s n (cell_closed w p c) none (λ d is. rw (← some-same c d (sym is ∙ of)) t.shut)
      (record { goes = a.goes; there = a.there; free = t.there s ∙ a.free; swept = t.swept })

  -- ---- all that a value holds is given up
  gives : (s n : ℕ) (w : World T) (p : ℕ) (h : OwnerOrCell) → held_at holds old s n ≡ Some h → Giving s n w → Giving s (suc n) (given w p h)
  gives s n w p (owned k home) is a = gives-owner s n w p k (ap slot_owned is) (ap cell_held is) a
  gives s n w p (shared k home) is a = gives-owner s n w p k (ap slot_owned is) (ap cell_held is) a
  gives s n w p (atomic_owned c home) is a = gives-closed s n w p c (ap slot_owned is) (ap cell_held is) a
  gives s n w p (atomic_shared c home) is a = gives-closed s n w p c (ap slot_owned is) (ap cell_held is) a
  gives s n w p (atomic_raw c home) is a = gives-closed s n w p c (ap slot_owned is) (ap cell_held is) a

  past-end-if : (s n j i : ℕ) → ((m : ℕ) → held_at holds old s (n + m) ≡ None) → (held_at holds old j i ≡ None → ⊥) → j ≡ s →
      (i < n) ⊎ (n ≤ i) → i < n
  past-end-if s n j i none some e (inl l) = l
  past-end-if s n j i none some e (inr l) =
      let after : i ≡ n + (i - n) = omega (arith, l) in
      absurd (some (rw e (ap (λ (b : ℕ). held_at holds old s b) after ∙ none (i - n))))

  -- nothing is held at the index that is left
  past-end : (s n j i : ℕ) → ((m : ℕ) → held_at holds old s (n + m) ≡ None) → (held_at holds old j i ≡ None → ⊥) → IsPast (rest s n) j i
  past-end s n j i none some e = past-end-if s n j i none some e (cases_lt i n)

  end-to : (s n : ℕ) (ss : Entries Standing) (cs : Entries CellContents) (o : Owner) → IsGiven (rest s n) ss cs o → IsGiven nothing ss cs o
  end-to s n ss cs (of_value j i) h = (h.0, h.1, tt)
  end-to s n ss cs (of_cell c) h = h

  end-from : (s n k : ℕ) (ss : Entries Standing) (cs : Entries CellContents) → ((m : ℕ) → held_at holds old s (n + m) ≡ None) → (o : Owner) →
      owns holds old o ≡ Some k → IsGiven nothing ss cs o → IsGiven (rest s n) ss cs o
  end-from s n k ss cs none (of_value j i) of h = (h.0, h.1, past-end s n j i none (λ e. some-held k (ap slot_owned e) of))
  end-from s n k ss cs none (of_cell c) of h = h

  Swept-end : (s n : ℕ) (w : World T) → ((m : ℕ) → held_at holds old s (n + m) ≡ None) → Swept (rest s n) w → Swept nothing w
  Swept-end s n w none i =
      record {
        slot = λ k. slot-same (IsGiven (rest s n) w.standings w.cells) (WasGiven w) k (standing_at w k) (value_at w k)
            (end-to s n w.standings w.cells) (λ o of h. end-from s n k w.standings w.cells none o of h) (i.slot k);
        cell = i.cell;
        done = λ a b c of h. i.done a b c of (h.0, h.1, past-end s n a b none (λ e. some-held c (ap cell_held e) of));
        count = i.count;
        slots = i.slots;
        cells = i.cells;
      }

  gives-all : (s n : ℕ) (w : World T) (p : ℕ) (hs : List OwnerOrCell) → ((m : ℕ) → held_at holds old s (n + m) ≡ slice_get hs m) → Giving s n w →
      Swept nothing (given_all w p hs)
  gives-all s n w p [] all a = Swept-end s n w all a.swept
  gives-all s n w p (h ∷ hs) all a =
      let here : n ≡ n + 0 = omega arith in
      gives-all s (suc n) (given w p h) p hs
      (λ m. let next : suc n + m ≡ n + suc m = omega arith in ap (λ (i : ℕ). held_at holds old s i) next ∙ all (suc m))
      (gives s n w p h (ap (λ (i : ℕ). held_at holds old s i) here ∙ all 0) a)

  -- ---- an item that waits is freed
  goes-now : (G : Owner → Type 0) (k : ℕ) (s : Option Standing) (v : Option T) → SlotState G k s v → IsWaiting s → Goes holds old (the_item k)
  goes-now G k s v (still a) h = waits k (sym (fewer-waits (length a.given) (standing_at old k)) ∙ (rw a.standing at h))
  goes-now G k s v (retires g a b) h = g
  goes-now G k s v (gone g a b) h = g

  value-now : (G : Owner → Type 0) (k : ℕ) (s : Option Standing) (v : Option T) → SlotState G k s v → IsWaiting s → value_at old k ≡ v
  value-now G k s v (still a) h = sym a.value
  value-now G k s v (retires g a b) h = sym b
  value-now G k s v (gone g a b) h = absurd (cc)

  freed-slot : (w : World T) (k j : ℕ) (G H : Owner → Type 0) → ((o : Owner) → G o → H o) → ((o : Owner) → H o → G o) → Goes holds old (the_item k) →
      StateAt G w j → (j ≡ k) ⊎ (j ≢ k) → StateAt H (freed w k) j
  freed-slot w k j G H to from g s (inl e) = rw e (gone g (none-here w.standings k) (none-here w.values k))
  freed-slot w k j G H to from g s (inr apart) =
      rw (get_or-set_other w.standings k j None None apart, get_or-set_other w.values k j None None apart)
      (slot-same G H j (standing_at w j) (value_at w j) to (λ o of h. from o h) s)

  freed-to : (w : World T) (k : ℕ) → IsWaiting (standing_at w k) → (o : Owner) → WasGiven w o →
      IsGiven (rest k 0) (without_entry w.standings k) w.cells o
  freed-to w k waiting (of_value j i) h =
      let none = none-set w.standings k j (none-of (standing_at w j) h.1) in
      (h.0, ap is_some none, λ e. let some = waiting-some (standing_at w k) waiting in absurd (some-none some (rw e at (none-of (standing_at w j) h.1))))
  freed-to w k waiting (of_cell c) h = h

  freed-from-if : (w : World T) (k j i : ℕ) → IsGiven (rest k 0) (without_entry w.standings k) w.cells (of_value j i) → (j ≡ k) ⊎ (j ≢ k) →
      WasGiven w (of_value j i)
  freed-from-if w k j i h (inl e) = let never : i < 0 = h.2 e in absurd (omega (arith, never))
  freed-from-if w k j i h (inr apart) = (h.0, ap is_some (sym (get_or-set_other w.standings k j None None apart)) ∙ h.1, tt)

  freed-from : (w : World T) (k : ℕ) (o : Owner) → IsGiven (rest k 0) (without_entry w.standings k) w.cells o → WasGiven w o
  freed-from w k (of_value j i) h = freed-from-if w k j i h (same-or-not j k)
  freed-from w k (of_cell c) h = h

  goes-some : (k : ℕ) → Goes holds old (the_item k) → IsSome (standing_at old k)
  goes-some k (waits _ h) = waiting-some (standing_at old k) h
  goes-some k (by_giving _ owners are goes) = some-owned (standing_at old k) (omega (arith, are.some, are.all))

  Swept-freed : (w : World T) (k : ℕ) → IsWaiting (standing_at w k) → Swept nothing w → Giving k 0 (freed w k)
  Swept-freed w k waiting i =
      let before = WasGiven w in
      let g = goes-now before k (standing_at w k) (value_at w k) (i.slot k) waiting in
      let one = sum_by-set one_if w.standings k None None (waits-inside w.standings k waiting) in
      let counted = waits-counts (standing_at w k) waiting in
      record {
        goes = g;
        there = goes-some k g;
        free = ap is_some (none-here w.standings k);
        swept = record {
          slot = λ j. freed-slot w k j before (IsGiven (rest k 0) (without_entry w.standings k) w.cells) (freed-to w k waiting) (freed-from w k) g
              (i.slot j) (same-or-not j k);
          cell = i.cell;
          done = λ j n c of h. i.done j n c of (freed-from w k (of_value j n) h);
          count = (suc i.count.0, omega (arith, i.count.1, one, counted), ap one_reclaimed i.count.2);
          slots = length-set w.standings k None ∙ i.slots;
          cells = i.cells;
        };
      }

  Swept-value : (w : World T) (p k : ℕ) → IsWaiting (standing_at w k) → (x : Option T) → value_at w k ≡ x → Swept nothing w →
      Swept nothing (taken_out holds w p k x)
  Swept-value w p k waiting None is i = i
  Swept-value w p k waiting (Some value) is i =
      let was = value-now (WasGiven w) k (standing_at w k) (value_at w k) (i.slot k) waiting ∙ is in
      gives-all k 0 (freed w k) p (holds value)
      (λ m. let here : 0 + m ≡ m = omega arith in ap (λ (n : ℕ). held_at holds old k n) here ∙ ap (λ (v : Option T). held_by holds v m) was)
      (Swept-freed w k waiting i)

  Swept-standing : (w : World T) (p k : ℕ) (s : Option Standing) → standing_at w k ≡ s → Swept nothing w →
      Swept nothing (taken_out holds w p k (waiting_value w k s))
  Swept-standing w p k None is i = i
  Swept-standing w p k (Some Owned) is i = i
  Swept-standing w p k (Some Raw) is i = i
  Swept-standing w p k (Some (Shared n)) is i = i
  Swept-standing w p k (Some Retired) is i = Swept-value w p k (ap is_waiting is) (value_at w k) refl i
  Swept-standing w p k (Some (privately c)) is i = Swept-value w p k (ap is_waiting is) (value_at w k) refl i

  Swept-reclaimed : (w : World T) (p : ℕ) (x : LimboEntry) → Swept nothing w → Swept nothing (reclaimed holds w p x)
  Swept-reclaimed w p (Item k) i = Swept-standing w p k (standing_at w k) refl i
  Swept-reclaimed w p (Job n) i = record { slot = i.slot; cell = i.cell; done = i.done; count = i.count; slots = i.slots; cells = i.cells }

  Swept-all_reclaimed : (w : World T) (p : ℕ) (xs : List LimboEntry) → Swept nothing w → Swept nothing (all_reclaimed holds w p xs)
  Swept-all_reclaimed w p [] i = i
  Swept-all_reclaimed w p (x ∷ xs) i = Swept-all_reclaimed (reclaimed holds w p x) p xs (Swept-reclaimed w p x i)

  Swept-changed : (w : World T) (p : ℕ) → Swept nothing w → Swept nothing (changed holds w p)
  Swept-changed w p i =
      let start = steps.rotated w p in
      let end = all_reclaimed holds start p (due_next (place_at w p)) in
      let swept = Swept-all_reclaimed start p (due_next (place_at w p)) (Swept-time nothing w (time.rotated_at w.time p) i) in
      Swept-time nothing end (time.settled_at end.time p) swept

  Swept-aged_out : (w : World T) (p : ℕ) → Swept nothing w → Swept nothing (aged_out holds w p)
  Swept-aged_out w p i = Swept-time nothing (changed holds w p) (time.paced_at (changed holds w p).time p (pace_of (place_at w p))) (Swept-changed w p i)

  Swept-all_aged_out : (w : World T) (ps : List ℕ) → Swept nothing w → Swept nothing (all_aged_out holds w ps)
  Swept-all_aged_out w [] i = i
  Swept-all_aged_out w (p ∷ ps) i = Swept-all_aged_out (aged_out holds w p) ps (Swept-aged_out w p i)

  none-given : (k : ℕ) (o : Owner) → owns holds old o ≡ Some k → WasGiven old o → ⊥
  none-given k (of_value j i) of h = some-none h.0 (none-of (standing_at old j) h.1)
  none-given k (of_cell c) of h = some-held k (ap held_in h) of

  start-slot : (k : ℕ) → StateAt (WasGiven old) old k
  start-slot k =
      still
      (record {
        given = [];
        are = record {
          apart = λ i j d before l. absurd (omega (arith, l));
          sound = λ o c. absurd (omega (arith, c.1));
          all = λ o of h. absurd (none-given k o of h);
        };
        some_left = λ l. l;
        standing = sym (fewer-none (standing_at old k));
        value = refl;
      })

  Swept-start : Swept nothing old
  Swept-start =
      record {
        slot = start-slot;
        cell = λ c. keeps refl;
        done = λ j i c of h. absurd (some-none h.0 (none-of (standing_at old j) h.1));
        count = (zero, omega arith, refl);
        slots = refl;
        cells = refl;
      }

  -- at the end nothing waits
  record Ended (new : World T) : Type 0 where
    swept : Swept nothing new
    idle : (k : ℕ) → IsWaiting (standing_at new k) → ⊥

  abbrev IsGone : World T → Holder → Type 0
  IsGone new (the_item k) = (standing_at new k ≡ None) × (value_at new k ≡ None)
  IsGone new (the_cell c) = entry_at new.cells c ≡ None

  -- what holds it is gone
  given-up : (new : World T) (o : Owner) → Goes holds old (holder o) → IsGone new (holder o) → WasGiven new o
  given-up new (of_value j i) g free = (goes-some j g, ap is_some free.0, tt)
  given-up new (of_cell c) g free = free

  slot-waited : (new : World T) → Ended new → (k : ℕ) → IsWaiting (standing_at old k) → StateAt (WasGiven new) new k → IsGone new (the_item k)
  slot-waited new e k h (still a) =
      absurd (e.idle k (ap is_waiting a.standing ∙ fewer-waits (length a.given) (standing_at old k) ∙ h))
  slot-waited new e k h (retires g a b) = absurd (e.idle k (ap is_waiting a))
  slot-waited new e k h (gone g a b) = (a, b)

  slot-given : (new : World T) → Ended new → (k : ℕ) (owners : List Owner) → AreAllOf holds old k owners →
      ((o : Owner) → Contains owners o → WasGiven new o) → StateAt (WasGiven new) new k → IsGone new (the_item k)
  slot-given new e k owners are given (still a) =
      let fewer = no-more owners a.given are.distinct (λ o c. a.are.all o (are.each o c) (given o c)) in
      let left = a.some_left (omega (arith, are.some, are.all)) in
      absurd (omega (arith, fewer, left, are.all))
  slot-given new e k owners are given (retires g a b) = absurd (e.idle k (ap is_waiting a))
  slot-given new e k owners are given (gone g a b) = (a, b)

  all-gone : (new : World T) → Ended new → (x : Holder) → Goes holds old x → IsGone new x
  all-gone new e _ (waits k h) = slot-waited new e k h (e.swept.slot k)
  all-gone new e _ (by_giving k owners are goes) =
      slot-given new e k owners are (λ o c. given-up new o (goes o c) (all-gone new e (holder o) (goes o c))) (e.swept.slot k)
  all-gone new e _ (by_holding j i c of g) = e.swept.done j i c of (goes-some j g, ap is_some (all-gone new e (the_item j) g).0, tt)

  stays-given : (new : World T) → Ended new → (k : ℕ) (a : Still (WasGiven new) k (standing_at new k) (value_at new k)) → KeepsItem holds old new k
  stays-given new e k a =
      record {
        given = a.given;
        distinct = a.are.apart;
        all = λ o. (
          λ c. let s = a.are.sound o c in (s.1, s.2),
          λ h. a.are.all o h.0 (given-up new o h.1 (all-gone new e (holder o) h.1)),
        );
        standing = a.standing;
        value = a.value;
      }

  slot-kept : (new : World T) → Ended new → (k : ℕ) → ¬ (Goes holds old (the_item k)) → StateAt (WasGiven new) new k → KeepsItem holds old new k
  slot-kept new e k h (still a) = stays-given new e k a
  slot-kept new e k h (retires g a b) = absurd (h g)
  slot-kept new e k h (gone g a b) = absurd (h g)

  cell-kept : (new : World T) (c : ℕ) → ¬ (Goes holds old (the_cell c)) → CellState c (entry_at new.cells c) → entry_at new.cells c ≡ entry_at old.cells c
  cell-kept new c h (keeps e) = e
  cell-kept new c h (closed g e) = absurd (h g)

  nobody-waits : (k : ℕ) (places : List Participant) → sum_by (times_with k) (map without_waiting places) ≡ 0
  nobody-waits k [] = refl
  nobody-waits k (x ∷ xs) = omega (arith, sum_by-cons (times_with k) (without_waiting x) (map without_waiting xs), nobody-waits k xs)

  nobody-defers : (j : ℕ) (places : List Participant) → sum_by (jobs_with j) (map without_waiting places) ≡ 0
  nobody-defers j [] = refl
  nobody-defers j (x ∷ xs) = omega (arith, sum_by-cons (jobs_with j) (without_waiting x) (map without_waiting xs), nobody-defers j xs)

  free-place : (x : Option (Unit {0})) → once_if (is_some x) ≡ 0 → x ≡ None
  free-place None e = refl
  free-place (Some x) e = absurd (omega (arith, e))

  ended : (new : World T) → ReclaimsAll holds old new → IsWhole new → Ended new
  ended new c i =
      record {
        swept = rw c.changes.1 (Swept-all_aged_out old c.changes.0 Swept-start);
        idle =
            λ k h. let none = ap (λ (t : EpochState). sum_by (times_with k) t.places) c.time
            ∙ nobody-waits k old.time.places in absurd (omega (arith, none, rw h at (i.once k)));
      }

  -- the closing sweeps away exactly what goes
  pub sweeps : (new : World T) → ReclaimsAll holds old new → IsWhole new → Sweeps holds old new
  sweeps new c i =
      let e = ended new c i in
      record {
        gone = λ k g. all-gone new e (the_item k) g;
        kept = λ k h. slot-kept new e k h (e.swept.slot k);
        cells_gone = λ d g. all-gone new e (the_cell d) g;
        cells_kept = λ d h. cell-kept new d h (e.swept.cell d);
        pointers = ap (λ (u : World T). u.pointers) c.changes.1 ∙ all_aged_out-pointers holds c.changes.0 old;
        ran = λ j. free-place (entry_at new.jobs j)
            (sym (i.jobs_once j) ∙ ap (λ (t : EpochState). sum_by (jobs_with j) t.places) c.time ∙ nobody-defers j old.time.places);
        reclaimed = e.swept.count;
        time = c.time;
        home = c.home;
        slots = e.swept.slots;
        cells = e.swept.cells;
        jobs = ap (λ (u : World T). length u.jobs) c.changes.1 ∙ all_aged_out-jobs holds c.changes.0 old;
      }

  -- a standing that is none at the end
  free-at-end : (new : World T) → Ended new → AllGo holds old → (k : ℕ) → StateAt (WasGiven new) new k → (s : Option Standing) →
      standing_at old k ≡ s → standing_at new k ≡ None
  free-at-end new e all k (still a) None is = a.standing ∙ ap (λ (s : Option Standing). with_fewer (length a.given) s) is
  free-at-end new e all k (still a) (Some s) is = (all-gone new e (the_item k) (all.slots k (ap is_some is))).0
  free-at-end new e all k (retires g a b) s is = absurd (e.idle k (ap is_waiting a))
  free-at-end new e all k (gone g a b) s is = a

  cell-free-at-end : (new : World T) → Ended new → AllGo holds old → (c : ℕ) → CellState c (entry_at new.cells c) → (x : Option CellContents) →
      entry_at old.cells c ≡ x → entry_at new.cells c ≡ None
  cell-free-at-end new e all c (keeps a) None is = a ∙ is
  cell-free-at-end new e all c (keeps a) (Some x) is = all-gone new e (the_cell c) (all.cells c (ap is_some is))
  cell-free-at-end new e all c (closed g a) x is = a

  pub nothing-out : (new : World T) → ReclaimsAll holds old new → IsWhole new → AllGo holds old → NothingIsOut new
  nothing-out new c i all =
      let e = ended new c i in (
        all-none new.standings (λ k. free-at-end new e all k (e.swept.slot k) (standing_at old k) refl),
        all-none new.cells (λ d. cell-free-at-end new e all d (e.swept.cell d) (entry_at old.cells d) refl),
      )

  -- what is free at the end went, if it was not free
  went : (new : World T) (k : ℕ) → standing_at new k ≡ None → IsSome (standing_at old k) → StateAt (WasGiven new) new k → Goes holds old (the_item k)
  went new k none some (still a) = absurd (some-none (fewer-some (length a.given) (standing_at old k) ∙ some) (sym a.standing ∙ none))
  went new k none some (retires g a b) = g
  went new k none some (gone g a b) = g

  cell-went : (new : World T) (c : ℕ) → entry_at new.cells c ≡ None → IsSome (entry_at old.cells c) → CellState c (entry_at new.cells c) →
      Goes holds old (the_cell c)
  cell-went new c none some (keeps a) = absurd (some-none some (sym a ∙ none))
  cell-went new c none some (closed g a) = g

  swept-to : (new : World T) → ReclaimsAll holds old new → Swept nothing new
  swept-to new c = rw c.changes.1 (Swept-all_aged_out old c.changes.0 Swept-start)

  pub all-went : (new : World T) → ReclaimsAll holds old new → NothingIsOut new → AllGo holds old
  all-went new c out =
      let e = swept-to new c in
      record {
        slots = λ k some. went new k (none-at new.standings out.0 k) some (e.slot k);
        cells = λ d some. cell-went new d (none-at new.cells out.1 d) some (e.cell d);
      }

  -- all that was there was reclaimed
  pub all-counted : (new : World T) → ReclaimsAll holds old new → NothingIsOut new → new.tally ≡ with_reclaimed (taken old) old.tally
  all-counted new c out =
      let e = swept-to new c in
      let n : ℕ = e.count.0 in
      let same : n ≡ taken old = omega (arith, e.count.1, none-taken new.standings out.0) in
      e.count.2 ∙ ap (λ (m : ℕ). with_reclaimed m old.tally) same

-- what is out, and whether all that is out goes
one-test : {E : Type 0} (p : Option E → Bool) (x : Option E) → p x ≡ true → one_where (p x) ≡ 1
one-test p x h = rw h refl

first-none : {E : Type 0} (p : Option E → Bool) (x : Option E) (xs : List (Option E)) → count_by p (x ∷ xs) ≡ 0 → (b : Bool) → p x ≡ b → b ≡ false
first-none p x xs e true h = absurd (omega (arith, e, sum_by-cons (λ y. cond (p y) 1 0) x xs, one-test p x h))
first-none p x xs e false h = refl

none-counted : {E : Type 0} (p : Option E → Bool) → p None ≡ false → (xs : List (Option E)) → count_by p xs ≡ 0 → (k : ℕ) → p (slice_index_or xs k None) ≡ false
none-counted p none [] e k = none
none-counted p none (x ∷ xs) e zero = first-none p x xs e (p x) refl
none-counted p none (x ∷ xs) e (suc k) = none-counted p none xs (omega (arith, e, sum_by-cons (λ y. cond (p y) 1 0) x xs)) k

pub all-uncounted : {E : Type 0} (p : Option E → Bool) (xs : List (Option E)) → ((k : ℕ) → p (slice_index_or xs k None) ≡ false) → count_by p xs ≡ 0
all-uncounted p [] h = refl
all-uncounted p (x ∷ xs) h =
    let here : one_where (p x) ≡ 0 = rw (h zero) refl in
    omega (arith, sum_by-cons (λ y. cond (p y) 1 0) x xs, here, all-uncounted p xs (λ k. h (suc k)))

standing-waits : (s : Option Standing) → is_out s ≡ false → IsSome s → IsWaiting s
standing-waits None o some = absurd (cc)
standing-waits (Some Owned) o some = absurd (cc)
standing-waits (Some Raw) o some = absurd (cc)
standing-waits (Some (Shared n)) o some = absurd (cc)
standing-waits (Some Retired) o some = refl
standing-waits (Some (privately c)) o some = refl

waits-inside-out : (s : Option Standing) → IsWaiting s → is_out s ≡ false
waits-inside-out None h = absurd (cc)
waits-inside-out (Some Owned) h = absurd (cc)
waits-inside-out (Some Raw) h = absurd (cc)
waits-inside-out (Some (Shared n)) h = absurd (cc)
waits-inside-out (Some Retired) h = refl
waits-inside-out (Some (privately c)) h = refl

module _ {T : Type 0} (holds : T → List OwnerOrCell) (w : World T) where
  -- where nothing is out, all goes
  pub none-out-goes : out w ≡ 0 → AllGo holds w
  none-out-goes e =
      record {
        slots = λ k some. waits k (standing-waits (standing_at w k) (none-counted is_out refl w.standings (omega (arith, e)) k) some);
        cells = λ c some. let none = none-counted is_some refl w.cells (omega (arith, e)) c in absurd (cc);
      }

  plain-held : HoldsNothing holds → (x : Option T) (i : ℕ) → held_by holds x i ≡ None
  plain-held plain None i = refl
  plain-held plain (Some value) i = ap (λ (hs : List OwnerOrCell). slice_get hs i) (plain value)

  -- no cell goes, and nothing that a value would hold
  plain-cell : HoldsNothing holds → (c : ℕ) → Goes holds w (the_cell c) → ⊥
  plain-cell plain c (by_holding j i _ of g) =
      let none = ap cell_held (plain-held plain (value_at w j) i) in cc

  plain-owner : HoldsNothing holds → (k : ℕ) (o : Owner) → owns holds w o ≡ Some k → Goes holds w (holder o) → ⊥
  plain-owner plain k (of_value j i) of g =
      let none = ap slot_owned (plain-held plain (value_at w j) i) in cc
  plain-owner plain k (of_cell c) of g = plain-cell plain c g

  some-owner : (k : ℕ) (owners : List Owner) → AreAllOf holds w k owners → (o : Owner) × Contains owners o
  some-owner k [] are = absurd (omega (arith, are.some))
  some-owner k (o ∷ owners) are = (o, first-in o owners)

  plain-waits : HoldsNothing holds → (k : ℕ) → Goes holds w (the_item k) → IsWaiting (standing_at w k)
  plain-waits plain k (waits _ h) = h
  plain-waits plain k (by_giving _ owners are goes) =
      let first = some-owner k owners are in
      absurd (plain-owner plain k first.0 (are.each first.0 first.1) (goes first.0 first.1))

  plain-slot : HoldsNothing holds → AllGo holds w → (k : ℕ) → (s : Option Standing) → standing_at w k ≡ s → is_out s ≡ false
  plain-slot plain all k None e = refl
  plain-slot plain all k (Some s) e =
      subst (λ (x : Option Standing). is_out x ≡ false) e (waits-inside-out (standing_at w k) (plain-waits plain k (all.slots k (ap is_some e))))

  plain-entry : HoldsNothing holds → AllGo holds w → (c : ℕ) → (x : Option CellContents) → entry_at w.cells c ≡ x → is_some x ≡ false
  plain-entry plain all c None e = refl
  plain-entry plain all c (Some x) e = absurd (plain-cell plain c (all.cells c (ap is_some e)))

  -- where values hold nothing, all goes exactly if nothing is out
  pub plain-goes : HoldsNothing holds → AllGo holds w → out w ≡ 0
  plain-goes plain all =
      omega (
        arith,
        all-uncounted is_out w.standings (λ k. plain-slot plain all k (standing_at w k) refl),
        all-uncounted is_some w.cells (λ c. plain-entry plain all c (entry_at w.cells c) refl),
      )

-- a tally goes on counting all that was made
reclaimed-made : (n : ℕ) (t : Tally) → (with_reclaimed n t).made ≡ t.made
reclaimed-made zero t = refl
reclaimed-made (suc n) t = reclaimed-made n t

reclaimed-in_place : (n : ℕ) (t : Tally) → (with_reclaimed n t).in_place ≡ t.in_place
reclaimed-in_place zero t = refl
reclaimed-in_place (suc n) t = reclaimed-in_place n t

pub tally-accounts : (n : ℕ) (t end : Tally) → end ≡ with_reclaimed n t → IsCounted end 0 → Accounts t end
tally-accounts n t end e c =
    record {
      made = ap (λ (x : Tally). x.made) e ∙ reclaimed-made n t;
      in_place = ap (λ (x : Tally). x.in_place) e ∙ reclaimed-in_place n t;
      reclaimed = c;
    }

pub none-taken-at-end : {T : Type 0} (end : World T) → NothingIsOut end → IsWhole end → IsCounted end.tally 0
none-taken-at-end end none i = rw (none-taken end.standings none.0) at i.counted
