-- What cells hold, by their tags and the rights that they keep, where one of them changes
use Rattle.std.proofs.Common.{◌≡◌, ◌≢◌, ◌<◌, ℕ, zero, suc, List, [], ◌∷◌, length, Option, None, Some, slice_set, refl, sym, ap, ◌∙◌, arith, subst}
use Rattle.std.specs.Prelude.{All, IfSome, IsNone, IsSome, is_some}
use Rattle.std.proofs.Math.ListN.{replicate}
use Rattle.std.proofs.lemmas.List.{set-get_or}
use Rattle.sdd_core.specs.declared.tag.Tag.{Tag}
use Rattle.sdd_rights.specs.Units.{GhostName}
use Rattle.sdd_rights.specs.RightsAuthority.{Kept, granted, whole}
use Rattle.sdd_rights.specs.StandingKind.{IsOwner}
use Rattle.sdd_rights.specs.declared.right.StandingKind.{StandingKind}
use Rattle.sdd_rights.specs.declared.right.Right.{Right}
use Rattle.sdd_rights.specs.declared.right.StandingKind.TheVariants as kind
use Rattle.sdd_participants.specs.Slab.{Entries, IsEmptyAt, entry_at}
use Rattle.sdd_participants.specs.declared.standing.CellContents.{CellContents}
use Rattle.sdd_world_model.specs.Cells.{CellsMatch, CellMatches, MayHold, right_at}
use Rattle.sdd_world_slots.specs.Contents.{contents_of, contents_with}
use Rattle.sdd_world_slots.proofs.CellsKept.{cells-keep, kept_at}

-- there are as many as tags
pub length-contents : (tags : Entries Tag) (rights : List (Option Right)) → length (contents_of tags rights) ≡ length tags
length-contents [] rights = refl
length-contents (t ∷ tags) [] = ap suc (length-contents tags [])
length-contents (t ∷ tags) (r ∷ rights) = ap suc (length-contents tags rights)

-- where no cell has a tag none is taken
pub contents-none : (n : ℕ) (rights : List (Option Right)) → contents_of (replicate n None) rights ≡ replicate n None
contents-none zero rights = refl
contents-none (suc n) [] = ap (λ (cs : Entries CellContents). None ∷ cs) (contents-none n [])
contents-none (suc n) (r ∷ rights) = ap (λ (cs : Entries CellContents). None ∷ cs) (contents-none n rights)

-- each cell holds what its tag and its right say
pub contents-at : (tags : Entries Tag) (rights : List (Option Right)) (k : ℕ) →
    entry_at (contents_of tags rights) k ≡ contents_with (entry_at tags k) (right_at rights k)
contents-at [] rights k = refl
contents-at (t ∷ tags) [] zero = refl
contents-at (t ∷ tags) [] (suc k) = contents-at tags [] k
contents-at (t ∷ tags) (r ∷ rights) zero = refl
contents-at (t ∷ tags) (r ∷ rights) (suc k) = contents-at tags rights k

-- both change
pub contents-set : (tags : Entries Tag) (rights : List (Option Right)) (k : ℕ) (t : Option Tag) (r : Option Right) → k < length rights →
    contents_of (slice_set tags k t) (slice_set rights k r) ≡ slice_set (contents_of tags rights) k (contents_with t r)
contents-set [] rights k t r near = refl
contents-set (t' ∷ tags) [] k t r near = absurd (omega (arith, near))
contents-set (t' ∷ tags) (r' ∷ rights) zero t r near = refl
contents-set (t' ∷ tags) (r' ∷ rights) (suc k) t r near =
    ap (λ (cs : Entries CellContents). contents_with t' r' ∷ cs) (contents-set tags rights k t r (omega (arith, near)))

-- the tag alone does
pub contents-retag : (tags : Entries Tag) (rights : List (Option Right)) (k : ℕ) (t : Option Tag) → k < length rights →
    contents_of (slice_set tags k t) rights ≡ slice_set (contents_of tags rights) k (contents_with t (right_at rights k))
contents-retag tags rights k t near =
    ap (λ (rs : List (Option Right)). contents_of (slice_set tags k t) rs) (sym (set-get_or rights k None))
    ∙ contents-set tags rights k t (right_at rights k) near

-- who is taken has a tag
some-tag : (t : Option Tag) (r : Option Right) → IsSome (contents_with t r) → IsSome t
some-tag None r some = some
some-tag (Some t) r some = refl

tag-some : (t : Option Tag) (r : Option Right) → IsSome t → IsSome (contents_with t r)
tag-some None r some = some
tag-some (Some t) r some = refl

none-tag : (t : Option Tag) (r : Option Right) → IsNone (contents_with t r) → IsNone t
none-tag None r none = refl
none-tag (Some t) r none = absurd (cc)

tag-none : (t : Option Tag) (r : Option Right) → IsNone t → IsNone (contents_with t r)
tag-none None r none = refl
tag-none (Some t) r none = absurd (cc)

pub taken-tag : (tags : Entries Tag) (rights : List (Option Right)) (k : ℕ) → IsSome (entry_at (contents_of tags rights) k) → IsSome (entry_at tags k)
taken-tag tags rights k some = some-tag _ _ (subst (λ (c : Option CellContents). IsSome c) (contents-at tags rights k) some)

pub empty-tag : (tags : Entries Tag) (rights : List (Option Right)) (k : ℕ) → IsEmptyAt tags k → IsEmptyAt (contents_of tags rights) k
empty-tag tags rights k empty = (
  (let e = length-contents tags rights in let h = empty.0 in omega (arith, e, h)),
  contents-at tags rights k ∙ ap (λ (t : Option Tag). contents_with t (right_at rights k)) empty.1,
)

module _ (P : Option Tag → Type 0) (Q : Option CellContents → Type 0) where
  pub all-to : ((t : Option Tag) (r : Option Right) → P t → Q (contents_with t r)) → (tags : Entries Tag) (rights : List (Option Right)) → All P tags →
      All Q (contents_of tags rights)
  all-to f [] rights all k d near = absurd (omega (arith, near))
  all-to f (t ∷ tags) [] all zero d near = f t None (all zero t (omega arith))
  all-to f (t ∷ tags) [] all (suc k) d near = all-to f tags [] (λ j x h. all (suc j) x (omega (arith, h))) k d (omega (arith, near))
  all-to f (t ∷ tags) (r ∷ rights) all zero d near = f t r (all zero t (omega arith))
  all-to f (t ∷ tags) (r ∷ rights) all (suc k) d near = all-to f tags rights (λ j x h. all (suc j) x (omega (arith, h))) k d (omega (arith, near))

  pub all-from : ((t : Option Tag) (r : Option Right) → Q (contents_with t r) → P t) → (tags : Entries Tag) (rights : List (Option Right)) →
      All Q (contents_of tags rights) → All P tags
  all-from f [] rights all k d near = absurd (omega (arith, near))
  all-from f (t ∷ tags) [] all zero d near = f t None (all zero None (omega arith))
  all-from f (t ∷ tags) [] all (suc k) d near = all-from f tags [] (λ j x h. all (suc j) x (omega (arith, h))) k d (omega (arith, near))
  all-from f (t ∷ tags) (r ∷ rights) all zero d near = f t r (all zero None (omega arith))
  all-from f (t ∷ tags) (r ∷ rights) all (suc k) d near = all-from f tags rights (λ j x h. all (suc j) x (omega (arith, h))) k d (omega (arith, near))

pub full-to : (tags : Entries Tag) (rights : List (Option Right)) → All (λ t. IsSome t) tags → All (λ c. IsSome c) (contents_of tags rights)
full-to = all-to (λ t. IsSome t) (λ c. IsSome c) tag-some

pub full-from : (tags : Entries Tag) (rights : List (Option Right)) → All (λ c. IsSome c) (contents_of tags rights) → All (λ t. IsSome t) tags
full-from = all-from (λ t. IsSome t) (λ c. IsSome c) some-tag

pub unused-to : (tags : Entries Tag) (rights : List (Option Right)) → All (λ t. IsNone t) tags → All (λ c. IsNone c) (contents_of tags rights)
unused-to = all-to (λ t. IsNone t) (λ c. IsNone c) tag-none

pub unused-from : (tags : Entries Tag) (rights : List (Option Right)) → All (λ c. IsNone c) (contents_of tags rights) → All (λ t. IsNone t) tags
unused-from = all-from (λ t. IsNone t) (λ c. IsNone c) none-tag

module _ {home slots : GhostName} {kept : List Kept} (tags : Entries Tag) (rights : List (Option Right))
    (a : CellsMatch home slots kept (contents_of tags rights) rights) where
  pub near-right : (k : ℕ) → k < home.size → k < length rights
  near-right k near = let e = a.rowed in omega (arith, e, near)

  -- a free cell, of which nothing is out
  pub free-there : (k : ℕ) → IsEmptyAt tags k → (k < home.size) × (kept_at kept k ≡ whole kind.Free) × (right_at rights k ≡ None)
  free-there k empty =
      let none = empty-tag tags rights k empty in
      let f = subst (λ (c : Option CellContents). CellMatches slots (kept_at kept k) c (right_at rights k)) none.1 (a.each k) in
      (let e = a.sized in let h = none.0 in omega (arith, e, h), f.0, f.1)

  -- a cell changes
  pub match-set : (k : ℕ) (x : Kept) (t : Option Tag) (r : Option Right) → k < home.size → CellMatches slots x (contents_with t r) r →
      CellsMatch home slots (slice_set kept k x) (contents_of (slice_set tags k t) (slice_set rights k r)) (slice_set rights k r)
  match-set k x t r near f = rw (contents-set tags rights k t r (near-right k near)) (cells-keep k x (contents_with t r) r a near f)

  -- its right stays
  pub match-retag : (k : ℕ) (x : Kept) (t : Option Tag) → k < home.size → CellMatches slots x (contents_with t (right_at rights k)) (right_at rights k) →
      CellsMatch home slots (slice_set kept k x) (contents_of (slice_set tags k t) rights) rights
  match-retag k x t near f =
      subst (λ (rs : List (Option Right)). CellsMatch home slots (slice_set kept k x) (contents_of (slice_set tags k t) rs) rs) (set-get_or rights k None)
      (match-set k x t (right_at rights k) near f)

  -- and so does what is kept of it
  pub match-tag : (k : ℕ) (t : Option Tag) → k < home.size → CellMatches slots (kept_at kept k) (contents_with t (right_at rights k)) (right_at rights k) →
      CellsMatch home slots kept (contents_of (slice_set tags k t) rights) rights
  match-tag k t near f =
      subst (λ (ks : List Kept). CellsMatch home slots ks (contents_of (slice_set tags k t) rights) rights) (set-get_or kept k (whole kind.Free))
      (match-retag k (kept_at kept k) t near f)

  -- the same where the right changes too
  pub match-both : (k : ℕ) (t : Option Tag) (r : Option Right) → k < home.size → CellMatches slots (kept_at kept k) (contents_with t r) r →
      CellsMatch home slots kept (contents_of (slice_set tags k t) (slice_set rights k r)) (slice_set rights k r)
  match-both k t r near f =
      subst (λ (ks : List Kept). CellsMatch home slots ks (contents_of (slice_set tags k t) (slice_set rights k r)) (slice_set rights k r))
      (set-get_or kept k (whole kind.Free)) (match-set k (kept_at kept k) t r near f)

  -- a cell of which somebody has the right
  pub granted-there : (k : ℕ) (of : StandingKind) → (kept_at kept k).kind ≡ of → of ≢ kind.Free →
      IsSome (entry_at tags k) × (kept_at kept k ≡ granted (kept_at kept k).kind) × MayHold slots (kept_at kept k).kind (right_at rights k)
  granted-there k of e o = there (entry_at (contents_of tags rights) k) refl where
    there : (c : Option CellContents) → entry_at (contents_of tags rights) k ≡ c →
        IsSome (entry_at tags k) × (kept_at kept k ≡ granted (kept_at kept k).kind) × MayHold slots (kept_at kept k).kind (right_at rights k)
    there None is =
        let f = subst (λ (c : Option CellContents). CellMatches slots (kept_at kept k) c (right_at rights k)) is (a.each k) in
        absurd (o (sym e ∙ ap (λ (x : Kept). x.kind) f.0))
    there (Some cell) is =
        let f = subst (λ (c : Option CellContents). CellMatches slots (kept_at kept k) c (right_at rights k)) is (a.each k) in
        (taken-tag tags rights k (ap is_some is), f.0, f.2)

-- what a raw cell keeps is no owner's
pub none-raw : (slots : GhostName) (r : Option Right) → MayHold slots kind.Raw r → r ≡ None
none-raw slots None may = refl
none-raw slots (Some r) may = let never : IsOwner kind.Raw = subst (λ (k : StandingKind). IsOwner k) may.1 r.owner in absurd (cc)

pub owner-not-free : (of : StandingKind) → IsOwner of → of ≢ kind.Free
owner-not-free of o e = let never : IsOwner kind.Free = subst (λ (k : StandingKind). IsOwner k) e o in absurd (cc)

pub if-some : {X : Type 0} (P Q : X → Type 0) (o : Option X) → ((x : X) → P x → Q x) → IfSome o P → IfSome o Q
if-some P Q None f h = h
if-some P Q (Some x) f h = f x h
