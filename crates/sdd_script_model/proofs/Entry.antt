-- What a list has at each number, after one entry of it is replaced or pushed
use Rattle.sdd_script_model.proofs.Words.{set_past, set-get_or, get_or_push, ◌≡◌, ◌≢◌, ◌⊎◌, ℕ, zero, suc, ◌<◌, List, [], ◌∷◌, ◌++◌, Option, Some, None, IsSome, is_some, length, slice_index_or, slice_set, refl, sym, ap, ◌∙◌, arith, false≢true, replicate, false, common_steps, get_or-set_other as at-other, get_or-set_same as at-same}
pub use Rattle.std.proofs.lemmas.List.{get_or-set_same as at-same, get_or-set_other as at-other}

module _ {X : Type 0} where
  -- what the new entry has as the old one, each number has as before
  pub as-each : {Y : Type 0} (f : X → Y) (xs : List X) (k : ℕ) (x d : X) → f x ≡ f (slice_index_or xs k d) → (j : ℕ) →
      f (slice_index_or (slice_set xs k x) j d) ≡ f (slice_index_or xs j d)
  as-each f xs k x d e j = grind (arith, common_steps, set_past)

  -- a push changes only what is read just past the end
  pub at-pushed : (xs : List X) (x d : X) (j : ℕ) → j ≢ length xs → slice_index_or (xs ++ x ∷ []) j d ≡ slice_index_or xs j d
  at-pushed xs x d j ne = grind (arith, common_steps)

  pub at-end : (xs : List X) (x d : X) → slice_index_or (xs ++ x ∷ []) (length xs) d ≡ x
  at-end xs x d = get_or_push xs x d (length xs) refl

  -- where what stands past the end was written, it stands
  pub at-default : (xs : List X) (k : ℕ) (d : X) → slice_index_or (slice_set xs k d) k d ≡ d
  at-default xs k d = grind (arith, common_steps)

-- an entry that is there is one of the list's
pub inside : {E : Type 0} (xs : List (Option E)) (k : ℕ) → IsSome (slice_index_or xs k None) → k < length xs
inside xs k some = grind (arith, common_steps)

pub no-entry : {E : Type 0} (x : Option E) → is_some x ≡ false → x ≡ None
no-entry x none = grind arith

-- and so it is some entry
pub some-entry : {E : Type 0} (x : Option E) → IsSome x → (y : E) × (x ≡ Some y)
some-entry x some = grind arith

pub is-there : {E : Type 0} (xs : List (Option E)) (k : ℕ) (x : E) → slice_index_or xs k None ≡ Some x → IsSome (slice_index_or xs k None)
is-there xs k x e = ap is_some e

-- an entry that is there isn't missing
pub not-free : {E : Type 0} (x : Option E) → IsSome x → x ≡ None → ⊥
not-free x t e = false≢true (ap is_some (sym e) ∙ t)

-- of n entries, those below k are spent
pub record IsSpentTo {E : Type 0} (k n : ℕ) (xs : List (Option E)) : Type 0 where
  pub spent : (j : ℕ) → j < k → slice_index_or xs j None ≡ None
  pub long : length xs ≡ n

-- to spend what is spent changes nothing
pub spent_twice : {E : Type 0} (xs : List (Option E)) (k : ℕ) → slice_index_or xs k None ≡ None → xs ≡ slice_set xs k None
spent_twice xs k none = sym (rw none at (set-get_or xs k None))

-- where a list was written it has what was written there, or what it had
pub set-either : {E : Type 0} (xs : List E) (k j : ℕ) (x d : E) →
    (slice_index_or (slice_set xs k x) j d ≡ x) ⊎ (slice_index_or (slice_set xs k x) j d ≡ slice_index_or xs j d)
set-either xs k j x d = grind (arith, common_steps, set_past)

-- and at which number it has which
pub set-where : {E : Type 0} (xs : List E) (k j : ℕ) (x d : E) → ((j ≡ k) × (slice_index_or (slice_set xs k x) j d ≡ x))
    ⊎ (slice_index_or (slice_set xs k x) j d ≡ slice_index_or xs j d)
set-where xs k j x d = grind (arith, common_steps, set_past)

-- a list of the same everywhere
pub at-blank : {E : Type 0} (x : E) (n k : ℕ) → slice_index_or (replicate n x) k x ≡ x
at-blank x zero k = refl
at-blank x (suc n) zero = refl
at-blank x (suc n) (suc k) = at-blank x n k
