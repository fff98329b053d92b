-- What is kept of one cell, where it changes
use Rattle.std.proofs.Common.{◌≡◌, ◌≢◌, ◌⊎◌, inl, inr, ◌<◌, ℕ, List, slice_set, slice_index_or, sym, ◌∙◌, ap, refl, arith, subst, Option, None, Some, true, zero, suc, take, [], ◌∷◌}
use Rattle.std.specs.Prelude.{◌+◌, ◌-◌, ◌≤◌, ◌^◌, IfSome, IsSome, IsNone, All}
use Rattle.std.proofs.Math.ListN.{length-set, replicate}
use Rattle.std.proofs.lemmas.List.{length-replicate, get_or-set_same, get_or-set_other}
use Rattle.sdd_rights.specs.Units.{GhostName}
use Rattle.sdd_rights.specs.StandingKind.{IsOwner, is_owner, right_units}
use Rattle.sdd_rights.specs.RightsAuthority.{Kept, whole}
use Rattle.sdd_rights.specs.declared.right.Right.{Right}
use Rattle.sdd_rights.specs.declared.right.StandingKind.{StandingKind}
use Rattle.sdd_rights.specs.declared.right.StandingKind.TheVariants as kind
use Rattle.sdd_participants.specs.Slab.{Entries, entry_at}
use Rattle.sdd_participants.specs.declared.standing.CellContents.{CellContents}
use Rattle.sdd_participants.proofs.Adoptions.{same-or-not}
use Rattle.sdd_world_slots.proofs.SlotsKept.{none-of, none-at}
use Rattle.sdd_world_model.specs.Cells.{CellsMatch, CellMatches, MayHold, right_at, slot_held}

-- what is kept of a cell's number
abbrev pub kept_at : List Kept → ℕ → Kept
kept_at kept k = slice_index_or kept k (whole kind.Free)

module _ {home slots : GhostName} {kept : List Kept} {cells : Entries CellContents} {rights : List (Option Right)} where
  fits-at : (k j : ℕ) (x : Kept) (c : Option CellContents) (r : Option Right) → CellsMatch home slots kept cells rights → k < home.size →
      CellMatches slots x c r → (j ≡ k) ⊎ (j ≢ k) →
      CellMatches slots (kept_at (slice_set kept k x) j) (entry_at (slice_set cells k c) j) (right_at (slice_set rights k r) j)
  fits-at k j x c r a l f (inl same) =
      rw (
        same,
        get_or-set_same kept k x (whole kind.Free) (omega (arith, a.kept_rowed, l)),
        get_or-set_same cells k c None (omega (arith, a.sized, l)),
        get_or-set_same rights k r None (omega (arith, a.rowed, l)),
      ) f
  fits-at k j x c r a l f (inr apart) =
      rw (get_or-set_other kept k j x (whole kind.Free) apart, get_or-set_other cells k j c None apart, get_or-set_other rights k j r None apart) (a.each j)

  -- a cell changes
  pub cells-keep : (k : ℕ) (x : Kept) (c : Option CellContents) (r : Option Right) → CellsMatch home slots kept cells rights → k < home.size →
      CellMatches slots x c r → CellsMatch home slots (slice_set kept k x) (slice_set cells k c) (slice_set rights k r)
  cells-keep k x c r a l f = record {
    sized = length-set cells k c ∙ a.sized;
    kept_rowed = length-set kept k x ∙ a.kept_rowed;
    rowed = length-set rights k r ∙ a.rowed;
    each = λ j. fits-at k j x c r a l f (same-or-not j k);
  }

  -- a cell that is taken holds what its kind allows
  pub held-there : (k : ℕ) (of : StandingKind) → CellsMatch home slots kept cells rights → (kept_at kept k).kind ≡ of → IsOwner of →
      IsSome (entry_at cells k) × IfSome (entry_at cells k) (λ cell. slot_held (right_at rights k) ≡ cell.held) × MayHold slots of (right_at rights k)
  held-there k of a e o = held-if (entry_at cells k) refl where
    held-if : (c : Option CellContents) → entry_at cells k ≡ c → IsSome c × IfSome c (λ cell. slot_held (right_at rights k) ≡ cell.held) ×
        MayHold slots of (right_at rights k)
    held-if None is =
        let free : (kept_at kept k).kind ≡ kind.Free = ap (λ (x : Kept). x.kind) (subst (λ c. CellMatches slots (kept_at kept k) c (right_at rights k)) is
        (a.each k)).0 in
        let never : is_owner kind.Free ≡ true = rw (sym e ∙ free) at o in absurd (cc)
    held-if (Some cell) is =
        let f = subst (λ c. CellMatches slots (kept_at kept k) c (right_at rights k)) is (a.each k) in
        (refl, f.1, subst (λ x. MayHold slots x (right_at rights k)) e f.2)

  -- a cell that is free has no right
  pub no-right : CellsMatch home slots kept cells rights → All (λ cell. IsNone cell) cells → (k : ℕ) → right_at rights k ≡ None
  no-right a h k = (subst (λ c. CellMatches slots (kept_at kept k) c (right_at rights k)) (none-of _ (none-at cells h k)) (a.each k)).1

  -- all units of a cell's number are back where its owner's right is
  pub whole-again : (k : ℕ) (of : StandingKind) → CellsMatch home slots kept cells rights → (kept_at kept k).kind ≡ of → IsOwner of → right_units of ≤ 2 ^ 63 →
      (kept_at kept k).units + right_units of ≡ 2 ^ 63
  whole-again k of a e o le = again-if (entry_at cells k) refl where
    again-if : (c : Option CellContents) → entry_at cells k ≡ c → (kept_at kept k).units + right_units of ≡ 2 ^ 63
    again-if None is =
        let free : (kept_at kept k).kind ≡ kind.Free = ap (λ (x : Kept). x.kind) (subst (λ c. CellMatches slots (kept_at kept k) c (right_at rights k)) is
        (a.each k)).0 in
        let never : is_owner kind.Free ≡ true = rw (sym e ∙ free) at o in absurd (cc)
    again-if (Some cell) is =
        let f = subst (λ c. CellMatches slots (kept_at kept k) c (right_at rights k)) is (a.each k) in
        let units : (kept_at kept k).units ≡ 2 ^ 63 - right_units of = ap (λ (x : Kept). x.units) f.0 ∙ ap (λ (x : StandingKind). 2 ^ 63 - right_units x) e in
        omega (arith, units, le)

  -- the same where the cell is a raw one
  pub raw-whole-again : (k : ℕ) → CellsMatch home slots kept cells rights → (kept_at kept k).kind ≡ kind.Raw → (kept_at kept k).units + 1 ≡ 2 ^ 63
  raw-whole-again k a e = again-if (entry_at cells k) refl where
    again-if : (c : Option CellContents) → entry_at cells k ≡ c → (kept_at kept k).units + 1 ≡ 2 ^ 63
    again-if None is =
        let free = ap (λ (x : Kept). x.kind) (subst (λ c. CellMatches slots (kept_at kept k) c (right_at rights k)) is (a.each k)).0 in
        let never : kind.Raw ≡ kind.Free = sym e ∙ free in absurd (cc)
    again-if (Some cell) is =
        let f = subst (λ c. CellMatches slots (kept_at kept k) c (right_at rights k)) is (a.each k) in
        let units : (kept_at kept k).units ≡ 2 ^ 63 - 1 = ap (λ (x : Kept). x.units) f.0 ∙ ap (λ (x : StandingKind). 2 ^ 63 - right_units x) e in
        omega (arith, units)

-- an owner has not more units than there are
pub units-fit : (of : StandingKind) → right_units of ≤ 2 ^ 63
units-fit kind.Free = omega arith
units-fit kind.Owned = omega arith
units-fit kind.Raw = omega arith
units-fit kind.Shared = omega arith
units-fit kind.Retired = omega arith

-- the same everywhere
same-everywhere : {X : Type 0} (n k : ℕ) (x : X) → slice_index_or (replicate n x) k x ≡ x
same-everywhere zero k x = refl
same-everywhere (suc n) zero x = refl
same-everywhere (suc n) (suc k) x = same-everywhere n k x

-- cells that are all free
pub all-cells-free : (home slots : GhostName) (n : ℕ) → home.size ≡ n
    → CellsMatch home slots (replicate n (whole kind.Free)) (replicate n None) (replicate n None)
all-cells-free home slots n e = record {
  sized = length-replicate n (let none : Option CellContents = None in none) ∙ sym e;
  kept_rowed = length-replicate n (whole kind.Free) ∙ sym e;
  rowed = length-replicate n (let none : Option Right = None in none) ∙ sym e;
  each = λ k. rw (same-everywhere n k (let none : Option CellContents = None in none)) (same-everywhere n k (whole kind.Free), same-everywhere n k None);
}

-- where no cell has a right, no first ones have
pub none-take : (xs : List (Option Right)) (n : ℕ) → ((k : ℕ) → right_at xs k ≡ None) → (k : ℕ) → right_at (take n xs) k ≡ None
none-take xs zero h k = refl
none-take [] (suc n) h k = refl
none-take (x ∷ xs) (suc n) h zero = h zero
none-take (x ∷ xs) (suc n) h (suc k) = none-take xs n (λ j. h (suc j)) k
