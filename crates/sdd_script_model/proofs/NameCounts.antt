-- How many owners and rights to cells have names, as names are given and spent, and what that tells of a script's world
use Rattle.sdd_script_model.proofs.Words.{◌≡◌, ◌⊎◌, List, ℕ, suc, inl, inr, ◌+◌, ◌≤◌, [], ◌∷◌, ◌++◌, true, Option, Some, None, IsSome, is_some, count_by, slice_index_or, slice_set, refl, ap, ◌∙◌, arith, ◌==◌, sum_by-cons, sum_by_push, cases_lt, nat_tests, entry_at, Claim, owner_of, right_to, is_right_to, claims, one, owner_held, times_kept, Tells, once_if, OwnerOrCell, is_out, World, standing_at, value_at, held_in, is_owner_of, times_held, one_where, outside-out, ledger-laws, once-where, OwnerName, Value, Body, Val, body_of, owner_in, holdings_of, link_of, storage_in, ScriptState, holding_at, slot_of, cell_of, collector_of, StorageName, IsSpare, IsPutIn, owners_left, owners_put, owners_taken, slot_put, IsSound, owns, has_right, named, named_among, named_owners, contained, one-if, Bool, false, sum_by, IsAccounted, in_cell-out, IsOwnerName, common_steps}
use Rattle.sdd_script_model.proofs.Links.{holds-so}

-- the owners of a state are accounted for, where these have names and the world is this
abbrev pub AreCounted : ScriptState → World Val → Type 0
AreCounted d w = IsAccounted holdings_of (named_owners d) w

pub accounts : (d : ScriptState) → IsSound d → AreCounted d d.world
accounts d s k = omega (arith, s.ledger (owner_of k))

pub tells : (d : ScriptState) → IsSound d → Tells holdings_of (λ u. named d u + contained d u) d.world
tells d s = (ledger-laws holdings_of d.world).tells (λ u. named d u + contained d u) s.ledger

-- so many owners of slot k's item are in the body of a value
abbrev pub times_in : ℕ → Body → ℕ
times_in k b = count_by (is_owner_of k) (owner_in b)

-- its link holds no owner
pub times-held : (v : Val) (k : ℕ) → times_held holdings_of k (Some v) ≡ times_in k (body_of v)
times-held v k = sum_by_push (λ (x : OwnerOrCell). one_where (is_owner_of k x)) (owner_in (body_of v)) _ ∙ omega arith

-- ---- what is counted where

-- an owner of slot k's item counts there, and nowhere else
pub owner-where : (h : OwnerOrCell) (k : ℕ) → slot_of (Some h) ≡ Some k → (j : ℕ) → one_where (is_owner_of j h) ≡ one_where (k == j)
owner-where h k e j = grind arith

-- and the right to a cell, whichever kind that is
pub cell-where : (h : OwnerOrCell) (c : ℕ) → cell_of (Some h) ≡ Some c → (j : ℕ) → one_where (is_right_to j h) ≡ one_where (c == j)
cell-where h c e j = grind arith

pub collector-where : (h : OwnerOrCell) (c : ℕ) → collector_of (Some h) ≡ Some c → (j : ℕ) → one_where (is_right_to j h) ≡ one_where (c == j)
collector-where h c e j = grind arith

-- ---- names that are given and spent

pub entry-less : (counts : Option OwnerOrCell → Bool) → counts None ≡ false → (hs : List (Option OwnerOrCell)) (n : ℕ) (h : OwnerOrCell) →
    holding_at hs n ≡ Some h → count_by counts hs ≡ count_by counts (slice_set hs n None) + one_where (counts (Some h))
entry-less counts none hs n h there = grind (arith, common_steps)

pub rights-more : (hs : List (Option OwnerOrCell)) (h : OwnerOrCell) (j : ℕ) →
    count_by (has_right j) (hs ++ Some h ∷ []) ≡ count_by (has_right j) hs + one_where (is_right_to j h)
rights-more hs h j = sum_by_push (λ (x : Option OwnerOrCell). one_where (has_right j x)) hs (Some h)

module _ (owners cells collectors : List (Option OwnerOrCell)) where
  pub owner-spent : (o k : ℕ) (h : OwnerOrCell) → holding_at owners o ≡ Some h → slot_of (Some h) ≡ Some k → (u : Claim) →
      named_among owners cells collectors u ≡ named_among (slice_set owners o None) cells collectors u + one (owner_of k) u
  owner-spent o k h there slot u =
      let less = λ (j : ℕ). entry-less (owns j) refl owners o h there in let at = owner-where h k slot in grind (arith, once-where)

  pub owner-given : (h : OwnerOrCell) (k : ℕ) → slot_of (Some h) ≡ Some k → (u : Claim) →
      named_among (owners ++ Some h ∷ []) cells collectors u ≡ named_among owners cells collectors u + one (owner_of k) u
  owner-given h k slot u =
      let more = λ (j : ℕ). sum_by_push (λ (x : Option OwnerOrCell). one_where (owns j x)) owners (Some h) in
      let at = owner-where h k slot in grind (arith, once-where)

  pub cell-spent : (n c : ℕ) (h : OwnerOrCell) → holding_at cells n ≡ Some h → cell_of (Some h) ≡ Some c → (u : Claim) →
      named_among owners cells collectors u ≡ named_among owners (slice_set cells n None) collectors u + one (right_to c) u
  cell-spent n c h there is u =
      let less = λ (j : ℕ). entry-less (has_right j) refl cells n h there in let at = cell-where h c is in grind (arith, once-where)

  pub cell-given : (h : OwnerOrCell) (c : ℕ) → cell_of (Some h) ≡ Some c → (u : Claim) →
      named_among owners (cells ++ Some h ∷ []) collectors u ≡ named_among owners cells collectors u + one (right_to c) u
  cell-given h c is u = let more = rights-more cells h in let at = cell-where h c is in grind (arith, once-where)

  pub collector-spent : (n c : ℕ) (h : OwnerOrCell) → holding_at collectors n ≡ Some h → collector_of (Some h) ≡ Some c → (u : Claim) →
      named_among owners cells collectors u ≡ named_among owners cells (slice_set collectors n None) u + one (right_to c) u
  collector-spent n c h there is u =
      let less = λ (j : ℕ). entry-less (has_right j) refl collectors n h there in let at = collector-where h c is in grind (arith, once-where)

  pub collector-given : (h : OwnerOrCell) (c : ℕ) → collector_of (Some h) ≡ Some c → (u : Claim) →
      named_among owners cells (collectors ++ Some h ∷ []) u ≡ named_among owners cells collectors u + one (right_to c) u
  collector-given h c is u = let more = rights-more collectors h in let at = collector-where h c is in grind (arith, once-where)

-- ---- by the words of calls

pub some-holding : {X : Type 0} (f : Option OwnerOrCell → Option X) → f None ≡ None → (x : Option OwnerOrCell) (n : X) → f x ≡ Some n →
    (h : OwnerOrCell) × (x ≡ Some h) × (f (Some h) ≡ Some n)
some-holding f none x n e = grind arith

-- what goes into a cell has a name, if it is an owner
abbrev pub IsPut : ScriptState → Option OwnerName → Type 0
IsPut d None = Unit {0}
IsPut d (Some o) = IsOwnerName d o.0

module _ (d : ScriptState) (cells collectors : List (Option OwnerOrCell)) where
  -- what goes into a cell has no name any more
  pub put-spent : (x : Option OwnerName) → IsPut d x → (u : Claim) →
      named_among d.owners cells collectors u ≡ named_among (owners_put d.owners x) cells collectors u + owner_held (slot_put d x) u
  put-spent x h u = grind (arith, common_steps)

  -- what a cell held has one
  pub taken-given : (owners : List (Option OwnerOrCell)) (like : Option OwnerOrCell) (held : Option ℕ) (u : Claim) →
      named_among (owners_taken d owners like held) cells collectors u ≡ named_among owners cells collectors u + owner_held held u
  taken-given owners like held u = grind (arith, common_steps, owner-given owners cells collectors)

-- what goes into a value has no name any more

pub value-spent : (d : ScriptState) (value : Value) (v : Val) → IsPutIn d value (body_of v) → (u : Claim) →
    named d u ≡ named_among (owners_left d.owners value) d.cells d.collectors u + claims (owner_in (body_of v)) u
value-spent d value v h u = grind (arith, common_steps)

-- ---- whose owner is somewhere, is out

module _ (d : ScriptState) (a : AreCounted d d.world) where
  pub owned-out : (o : ℕ) (h : OwnerOrCell) (k : ℕ) → holding_at d.owners o ≡ Some h → slot_of (Some h) ≡ Some k → is_out (standing_at d.world k) ≡ true
  owned-out o h k there slot =
      outside-out holdings_of d.world k (named_owners d) a (omega (arith, entry-less (owns k) refl d.owners o h there, owner-where h k slot k, one-if k k refl))

  pub value-owner-out : (j : ℕ) (v : Val) (h : OwnerOrCell) (k : ℕ) → value_at d.world j ≡ Some v → owner_in (body_of v) ≡ h ∷ [] → slot_of (Some h) ≡ Some k →
      is_out (standing_at d.world k) ≡ true
  value-owner-out j v h k there body_is slot = grind (arith, common_steps)

  pub cell-out : (c k : ℕ) → held_in (entry_at d.world.cells c) ≡ Some k → is_out (standing_at d.world k) ≡ true
  cell-out c k is = in_cell-out holdings_of d.world c k (named_owners d) a is

-- ---- whose link a cell is

some-kept : {X : Type 0} (f : Option X → ℕ) → f None ≡ 0 → (xs : List (Option X)) → 1 ≤ sum_by f xs →
    (j : ℕ) × (x : X) × (slice_index_or xs j None ≡ Some x) × (1 ≤ f (Some x))
some-kept f none [] some = absurd (omega (arith, some))
some-kept f none (None ∷ xs) some =
    let rest = some-kept f none xs (omega (arith, some, none, sum_by-cons f None xs)) in (suc rest.0, rest.1, rest.2, rest.3)
some-kept f none (Some x ∷ xs) some = elim (cases_lt 0 (f (Some x))) [
  | inl here ↦ (0, x, refl, here)
  | inr not ↦ let rest = some-kept f none xs (omega (arith, some, not, sum_by-cons f (Some x) xs)) in (suc rest.0, rest.1, rest.2, rest.3)
]

-- the right to a cell that a body has is that of a storage, whose own cell it is
body-right : (b : Body) (c : ℕ) → 1 ≤ claims (owner_in b) (right_to c) → (st : StorageName) × (storage_in b ≡ Some st) × (st.cell ≡ c)
body-right b c some = grind (arith, nat_tests, once-where)

-- a cell that is taken, to which no name is the right, is a value's link, or a storage's own
pub linked : (d : ScriptState) → IsSound d → (c : ℕ) → named d (right_to c) + contained d (right_to c) ≡ 0 → IsSome (entry_at d.world.cells c) →
    ((j : ℕ) × (v : Val) × (value_at d.world j ≡ Some v) × (link_of v ≡ c)) ⊎ IsSpare d.world c
linked d s c none taken =
    let needs : once_if (is_some (entry_at d.world.cells c)) ≡ 1 = ap once_if taken in
    let one_value = some-kept (times_kept holdings_of c) refl d.world.values (omega (arith, needs, none, s.ledger (right_to c))) in
    let v = one_value.1 in
    elim (cases_lt 0 (once_if (link_of v == c))) [
      | inl mine ↦ (let at : link_of v ≡ c = grind (arith, nat_tests, mine) in inl (one_value.0, v, one_value.2, at))
      | inr other ↦
          (let own = body-right (body_of v) c (omega (arith, one_value.3, holds-so v (right_to c), other)) in
          inr (record { slot = one_value.0; value = v; there = one_value.2; storage = own.0; is = own.1; cell = own.2 }))
    ]
