-- What is kept of one slot, where it changes
use Rattle.std.proofs.Common.{◌≡◌, ℕ, List, length, slice_index_or, slice_set, sym, ◌∙◌, ap, refl, Option, None, Some, Bool, true, false, [], ◌∷◌, arith, subst, zero}
use Rattle.std.specs.Prelude.{map, is_some, IsSome, IsNone, IsTrue, All, unwrap_or, ◌+◌, ◌-◌, ◌<◌, ◌≤◌, ◌^◌, suc}
use Rattle.std.proofs.Math.ListN.{get_or-map, length-set, replicate}
use Rattle.std.proofs.Math.Seq.{map-set_same}
use Rattle.std.proofs.lemmas.List.{map-set, get_or_read, length-map, length-replicate}
use Rattle.std.proofs.lemmas.Bool.{ltb-true}
use Rattle.sdd_rights.specs.Units.{GhostName}
use Rattle.sdd_rights.specs.StandingKind.{IsOwner, right_units}
use Rattle.sdd_rights.specs.RightsAuthority.{Kept, whole, granted}
use Rattle.sdd_rights.specs.declared.right.StandingKind.{StandingKind}
use Rattle.sdd_rights.specs.declared.right.StandingKind.TheVariants as kind
use Rattle.sdd_participants.specs.Slab.{Entries}
use Rattle.sdd_participants.specs.declared.standing.Standing.{Standing}
use Rattle.sdd_participants.specs.declared.standing.Standing.TheVariants.{Owned, Raw, Shared, Retired, Private}
use Rattle.sdd_world_model.specs.Slots.{SlotsMatch, IsWaiting, is_waiting, IsBounded, IsSharedBy, IsOwnedBy, kept_of, first_standing, has_others, owners_of}

-- each of the same, mapped
pub map-replicate : {X Y : Type 0} (f : X → Y) (n : ℕ) (x : X) → map f (replicate n x) ≡ replicate n (f x)
map-replicate {X} {Y} f zero x = refl
map-replicate {X} {Y} f (suc n) x = ap (λ (ys : List Y). f x ∷ ys) (map-replicate f n x)

-- what is kept of a number is what its standing says
pub kept-there : {T : Type 0} {home : GhostName} {kept : List Kept} {standings : Entries Standing} {values : List (Option T)} (k : ℕ) →
    SlotsMatch home kept standings values → slice_index_or kept k (whole kind.Free) ≡ kept_of (slice_index_or standings k None)
kept-there {T} {home} {kept} {standings} k a = ap (λ (ks : List Kept). slice_index_or ks k (whole kind.Free)) a.told ∙ get_or-map kept_of standings k None

-- a value is there where a standing is
pub filled-there : {T : Type 0} {home : GhostName} {kept : List Kept} {standings : Entries Standing} {values : List (Option T)} (k : ℕ) →
    SlotsMatch home kept standings values → is_some (slice_index_or values k None) ≡ is_some (slice_index_or standings k None)
filled-there {T} {home} {kept} {standings} {values} k a =
    sym (get_or-map is_some values k None) ∙ ap (λ (bs : List Bool). slice_index_or bs k false) a.filled ∙ get_or-map is_some standings k None

-- only an owned slot is kept as owned
owned-only : (s : Option Standing) → (kept_of s).kind ≡ kind.Owned → s ≡ Some Owned
owned-only None e = cc
owned-only (Some Owned) e = refl
owned-only (Some Raw) e = cc
owned-only (Some (Shared n)) e = cc
owned-only (Some Retired) e = cc
owned-only (Some (Private n)) e = cc

-- and only a shared one as shared
shared-only : (s : Option Standing) → IsBounded s → (kept_of s).kind ≡ kind.Shared → (n : ℕ) × IsSharedBy n s
shared-only None h e = cc
shared-only (Some Owned) h e = cc
shared-only (Some Raw) h e = cc
shared-only (Some (Shared n)) h e = (n, h n refl)
shared-only (Some Retired) h e = cc
shared-only (Some (Private n)) h e = cc

-- where the last owner is gone, all is kept of an item that waits
pub waiting-kept : (s : Standing) → IsWaiting (Some s) → kept_of (Some s) ≡ whole kind.Retired
waiting-kept Owned h = absurd (cc)
waiting-kept Raw h = absurd (cc)
waiting-kept (Shared n) h = absurd (cc)
waiting-kept Retired h = refl
waiting-kept (Private c) h = refl

pub waiting-bounded : (s : Standing) → IsWaiting (Some s) → IsBounded (Some s)
waiting-bounded s h n e = let never : IsTrue (is_waiting (Some (Shared n))) = subst (λ (o : Option Standing). IsTrue (is_waiting o)) e h in absurd (cc)

-- only where a slot is not free is anything but free kept of it
taken-only : (s : Option Standing) → IsOwner (kept_of s).kind → IsSome s
taken-only None h = cc
taken-only (Some s) h = refl

-- what is kept of a new right is what is kept of a slot that stands as new
pub first-kept : (k : StandingKind) → IsOwner k → kept_of (Some (first_standing k)) ≡ granted k
first-kept kind.Free h = cc
first-kept kind.Owned h = refl
first-kept kind.Raw h = cc
first-kept kind.Shared h = refl
first-kept kind.Retired h = cc

-- how many owners, where it is shared
shared-count : Option Standing → ℕ
shared-count None = 0
shared-count (Some Owned) = 0
shared-count (Some Raw) = 0
shared-count (Some (Shared n)) = n
shared-count (Some Retired) = 0
shared-count (Some (Private n)) = 0

-- so many owners are in bounds
pub shared-bounded : (n : ℕ) → 1 ≤ n → n ≤ 2 ^ 62 → IsBounded (Some (Shared n))
unfolding shared-count
shared-bounded n some most m e =
    let same : n ≡ m = ap shared-count e in record { shared = e; some = omega (arith, same, some); most = omega (arith, same, most) }

pub first-bounded : (k : StandingKind) → IsBounded (Some (first_standing k))
first-bounded kind.Free = λ m e. absurd (cc)
first-bounded kind.Owned = λ m e. absurd (cc)
first-bounded kind.Raw = λ m e. absurd (cc)
first-bounded kind.Shared = shared-bounded 1 (omega arith) (omega arith)
first-bounded kind.Retired = λ m e. absurd (cc)

-- one slot stands otherwise
bounded-set : (ss : List (Option Standing)) (k : ℕ) (s : Option Standing) → IsBounded s → ((j : ℕ) → IsBounded (slice_index_or ss j None)) → (j : ℕ) →
    IsBounded (slice_index_or (slice_set ss k s) j None)
bounded-set [] k s b all j = all j
bounded-set (x ∷ ss) zero s b all zero = b
bounded-set (x ∷ ss) zero s b all (suc j) = all (suc j)
bounded-set (x ∷ ss) (suc k) s b all zero = all zero
bounded-set (x ∷ ss) (suc k) s b all (suc j) = bounded-set ss k s b (λ i. all (suc i)) j

-- where no slot is taken, no item is shared
none-shared : (n k : ℕ) → IsBounded (slice_index_or (replicate n None) k None)
none-shared zero k = λ m e. absurd (cc)
none-shared (suc n) zero = λ m e. absurd (cc)
none-shared (suc n) (suc k) = none-shared n k

-- how many owners there are, where one is sole
abbrev pub owners-or-one : Option Standing → ℕ
owners-or-one s = unwrap_or (owners_of s) 1

pub more-owners : (s : Option Standing) → 1 < owners-or-one s → s ≡ Some (Shared (owners-or-one s))
more-owners None h = absurd (omega (arith, h))
more-owners (Some Owned) h = absurd (omega (arith, h))
more-owners (Some Raw) h = absurd (omega (arith, h))
more-owners (Some (Shared n)) h = refl
more-owners (Some Retired) h = absurd (omega (arith, h))
more-owners (Some (Private n)) h = absurd (omega (arith, h))

-- where others own it too there are two owners at least
pub others-more : (s : Option Standing) → IsTrue (has_others s) → 1 < owners-or-one s
others-more None h = absurd (cc)
others-more (Some Owned) h = absurd (cc)
others-more (Some Raw) h = absurd (cc)
others-more (Some (Shared n)) h = ltb-true 1 n h
others-more (Some Retired) h = absurd (cc)
others-more (Some (Private n)) h = absurd (cc)

-- the owner of an item that others own too is one of several
units-of-one : (of : StandingKind) → kind.Shared ≡ of → right_units of ≡ 1
units-of-one of e = ap right_units (sym e)

-- equal fields make equal records
abbrev kept-as : StandingKind → ℕ → Kept
kept-as k n = record { kind = k; units = n }

record-kept : {a b : StandingKind} {m n : ℕ} → a ≡ b → m ≡ n → kept-as a m ≡ kept-as b n
record-kept e f = λ i. kept-as (e i) (f i)

-- one owner of several goes: its unit is kept
pub fewer-kept : (s : Option Standing) (of : StandingKind) (n : ℕ) → s ≡ Some (Shared n) → 1 < n → n ≤ 2 ^ 62 → (kept_of s).kind ≡ of →
    kept_of (Some (Shared (n - 1))) ≡ record (kept_of s) { units = (kept_of s).units + right_units of }
fewer-kept s of n is more most e =
    let kept : kept_of s ≡ record { kind = kind.Shared; units = 2 ^ 63 - n } = ap kept_of is in
    let one : right_units of ≡ 1 = units-of-one of (sym (ap (λ (x : Kept). x.kind) kept) ∙ e) in
    let units : (kept_of s).units ≡ 2 ^ 63 - n = ap (λ (x : Kept). x.units) kept in
    let sum : 2 ^ 63 - (n - 1) ≡ (kept_of s).units + right_units of = omega (arith, one, units, more, most) in
    record-kept (sym (ap (λ (x : Kept). x.kind) kept)) sum

-- so many owners more: their units are out
pub more-kept : (s : Option Standing) (n more : ℕ) → s ≡ Some (Shared n) → n + more ≤ 2 ^ 62 →
    kept_of (Some (Shared (n + more))) ≡ record (kept_of s) { units = (kept_of s).units - more }
more-kept s n more is few =
    let kept : kept_of s ≡ record { kind = kind.Shared; units = 2 ^ 63 - n } = ap kept_of is in
    let units : (kept_of s).units ≡ 2 ^ 63 - n = ap (λ (x : Kept). x.units) kept in
    let sum : 2 ^ 63 - (n + more) ≡ (kept_of s).units - more = omega (arith, units, few) in
    record-kept (sym (ap (λ (x : Kept). x.kind) kept)) sum

-- so many owners at once: the units of all are out
pub several-kept : (owners : ℕ) → 2 ≤ owners → owners ≤ 2 ^ 62 →
    kept_of (Some (Shared owners)) ≡ record (granted kind.Shared) { units = (granted kind.Shared).units - (owners - 1) }
several-kept owners some few = record-kept refl (omega (arith, some, few))

-- so many owners go but one: their units are kept but one
pub but-one-kept : (s : Option Standing) (n count : ℕ) → s ≡ Some (Shared n) → n ≤ 2 ^ 62 → 1 ≤ count → count ≤ n →
    kept_of (Some (Shared (n - count + 1))) ≡ record (kept_of s) { units = (kept_of s).units + count - 1 }
but-one-kept s n count is most some fits =
    let kept : kept_of s ≡ record { kind = kind.Shared; units = 2 ^ 63 - n } = ap kept_of is in
    let units : (kept_of s).units ≡ 2 ^ 63 - n = ap (λ (x : Kept). x.units) kept in
    let sum : 2 ^ 63 - (n - count + 1) ≡ (kept_of s).units + count - 1 = omega (arith, units, most, some, fits) in
    record-kept (sym (ap (λ (x : Kept). x.kind) kept)) sum

-- no more owners go than there are
pub no-more-than : (s : Option Standing) (n count : ℕ) → s ≡ Some (Shared n) → n ≤ 2 ^ 62 → (kept_of s).units + count ≤ 2 ^ 63 → count ≤ n
no-more-than s n count is most fits =
    let units : (kept_of s).units ≡ 2 ^ 63 - n = ap (λ (x : Option Standing). (kept_of x).units) is in
    omega (arith, units, most, fits)

-- a slot that waits is not free
pub some-waiting : (s : Option Standing) → IsWaiting s → IsSome s
some-waiting None h = cc
some-waiting (Some s) h = refl

-- who agrees with what is kept finds the slot so
pub owned-there : {T : Type 0} {home : GhostName} {kept : List Kept} {standings : Entries Standing} {values : List (Option T)} (k : ℕ) (of : StandingKind) →
    SlotsMatch home kept standings values → (slice_index_or kept k (whole kind.Free)).kind ≡ of →
    IsOwnedBy of (slice_index_or standings k None)
owned-there {T} {home} {kept} {standings} k of a e =
    let same : (kept_of (slice_index_or standings k None)).kind ≡ of = ap (λ (x : Kept). x.kind) (sym (kept-there k a)) ∙ e in
    record { alone = λ o. owned-only _ (same ∙ o); together = λ o. shared-only _ (a.bounded k) (same ∙ o) }

pub taken-there : {T : Type 0} {home : GhostName} {kept : List Kept} {standings : Entries Standing} {values : List (Option T)} (k : ℕ) (of : StandingKind) →
    SlotsMatch home kept standings values → (slice_index_or kept k (whole kind.Free)).kind ≡ of → IsOwner of → IsSome (slice_index_or standings k None)
taken-there {T} {home} {kept} {standings} k of a e h =
    let same : (kept_of (slice_index_or standings k None)).kind ≡ of = ap (λ (x : Kept). x.kind) (sym (kept-there k a)) ∙ e in
    taken-only _ (rw same h)

-- what is no value is none
pub none-of : {T : Type 0} (v : Option T) → is_some v ≡ false → v ≡ None
none-of None e = refl
none-of (Some x) e = cc

-- what is none has no value
is-none : {X : Type 0} (x : Option X) → IsNone x → is_some x ≡ false
is-none None h = refl
is-none (Some x) h = cc

-- where every slot is free there is nothing at any
pub none-at : {X : Type 0} (xs : List (Option X)) → All (λ x. IsNone x) xs → (k : ℕ) → is_some (slice_index_or xs k None) ≡ false
none-at [] h k = refl
none-at (x ∷ xs) h zero = is-none x (h zero x (omega arith))
none-at (x ∷ xs) h (suc k) = none-at xs (λ j o l. h (suc j) o (omega arith)) k

-- slots that are all free
pub all-free : {T : Type 0} (home : GhostName) (n : ℕ) → home.size ≡ n
    → SlotsMatch {T = T} home (replicate n (whole kind.Free)) (replicate n None) (replicate n None)
all-free {T} home n e = record {
  sized = length-replicate n (let none : Option Standing = None in none) ∙ sym e;
  told = sym (map-replicate kept_of n None);
  filled = map-replicate is_some n None ∙ sym (map-replicate is_some n None);
  bounded = none-shared n;
}

-- an entry is within its table
pub inside-some : {E : Type 0} (entries : List (Option E)) (k : ℕ) → IsSome (slice_index_or entries k None) → k < length entries
inside-some [] k h = absurd (cc)
inside-some (e ∷ es) zero h = omega arith
inside-some (e ∷ es) (suc k) h = omega (arith, inside-some es k h)

-- a slot and its value change together
pub keeps : {T : Type 0} {home : GhostName} {kept : List Kept} {standings : Entries Standing} {values : List (Option T)} (k : ℕ)
    (s : Option Standing) (v : Option T) → is_some v ≡ is_some s → IsBounded s → SlotsMatch home kept standings values →
    SlotsMatch home (slice_set kept k (kept_of s)) (slice_set standings k s) (slice_set values k v)
keeps {T} {home} {kept} {standings} {values} k s v e b a = record {
  sized = length-set standings k s ∙ a.sized;
  told = ap (λ (ks : List Kept). slice_set ks k (kept_of s)) a.told ∙ sym (map-set kept_of standings k s);
  filled = map-set is_some values k v ∙ ap (λ (bs : List Bool). slice_set bs k (is_some v)) a.filled
      ∙ ap (λ (t : Bool). slice_set (map is_some standings) k t) e ∙ sym (map-set is_some standings k s);
  bounded = bounded-set standings k s b a.bounded;
}

-- a slot that is not free stands otherwise, with its value
pub keeps-value : {T : Type 0} {home : GhostName} {kept : List Kept} {standings : Entries Standing} {values : List (Option T)} (k : ℕ)
    (s : Option Standing) → is_some s ≡ is_some (slice_index_or standings k None) → IsBounded s → SlotsMatch home kept standings values →
    SlotsMatch home (slice_set kept k (kept_of s)) (slice_set standings k s) values
keeps-value {T} {home} {kept} {standings} {values} k s e b a = record {
  sized = length-set standings k s ∙ a.sized;
  told = ap (λ (ks : List Kept). slice_set ks k (kept_of s)) a.told ∙ sym (map-set kept_of standings k s);
  filled = a.filled ∙ sym (map-set_same is_some standings k s None e);
  bounded = bounded-set standings k s b a.bounded;
}

-- the same, where what is kept of it is told otherwise
pub keeps-so : {T : Type 0} {home : GhostName} {kept : List Kept} {standings : Entries Standing} {values : List (Option T)} (k : ℕ)
    (s : Option Standing) (x : Kept) → kept_of s ≡ x → is_some s ≡ is_some (slice_index_or standings k None) → IsBounded s →
    SlotsMatch home kept standings values →
    SlotsMatch home (slice_set kept k x) (slice_set standings k s) values
keeps-so k s x e f b a = rw (← e) (keeps-value k s f b a)

-- a slot that is not free has another value
pub keeps-other : {T : Type 0} {home : GhostName} {kept : List Kept} {standings : Entries Standing} {values : List (Option T)} (k : ℕ) (v : T) →
    is_some (slice_index_or values k None) ≡ true → SlotsMatch home kept standings values → SlotsMatch home kept standings (slice_set values k (Some v))
keeps-other {T} {home} {kept} {standings} {values} k v e a = record {
  sized = a.sized;
  told = a.told;
  filled = map-set_same is_some values k (Some v) None (sym e) ∙ a.filled;
  bounded = a.bounded;
}
