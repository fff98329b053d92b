-- The word of a cell that holds an owner, or none
use Rattle.std.proofs.Common.{◌≡◌, ℕ, ◌+◌, ◌*◌, ◌<◌, ◌-◌, ◌%◌, ◌^◌, [], ◌∷◌, List, sym, refl, ap, ◌∙◌, arith, ⊎_elim}
use Rattle.std.specs.Prelude.{None, Some, Option, slice_get}
use Rattle.sdd_core.specs.declared.tag.Tag.{Tag}
use Rattle.sdd_core.specs.declared.tag.Tag.TheVariants as tags
use Rattle.sdd_core.specs.Tag.{number_of}
use Rattle.sdd_domain_invariant.specs.Codes.{held_slots}
use Rattle.sdd_domain_invariant.proofs.Codes.{held_which, holds_none, holds_one}
use Rattle.sdd_domain_steps.specs.Local.{contents_of, tag_by}

-- what it names is one slot or none
pub named : (x slot : ℕ) → slice_get (held_slots x) 0 ≡ Some slot → held_slots x ≡ slot ∷ []
named x slot is = ⊎_elim
    (λ (one : (k : ℕ) × (held_slots x ≡ k ∷ [])). let same : Some one.0 ≡ Some slot = sym (ap (λ (ys : List ℕ). slice_get ys 0) one.1) ∙ is in
    one.1 ∙ ap (λ (o : Option ℕ). some_first o) same)
    (λ (none : held_slots x ≡ []). let no : ◌≡◌ {A = Option ℕ} None (Some slot) = sym (ap (λ (ys : List ℕ). slice_get ys 0) none) ∙ is in absurd cc)
    (held_which x)
  where
    some_first : Option ℕ → List ℕ
    some_first None = []
    some_first (Some k) = k ∷ []

pub named_none : (x : ℕ) → slice_get (held_slots x) 0 ≡ None → held_slots x ≡ []
named_none x is = of (held_slots x) is
  where
    of : (xs : List ℕ) → slice_get xs 0 ≡ None → xs ≡ []
    of [] is = refl
    of (x ∷ xs) is = absurd cc

pub tag_small : (t : Tag) → number_of t < 4
tag_small tags.None = omega arith
tag_small tags.First = omega arith
tag_small tags.Second = omega arith
tag_small tags.Both = omega arith

tag_back : (t : Tag) → tag_by (number_of t) ≡ t
tag_back tags.None = refl
tag_back tags.First = refl
tag_back tags.Second = refl
tag_back tags.Both = refl

module _ (t : Tag) (n : ℕ) (is : n ≡ number_of t) where
  small : n < 4
  small = let s = tag_small t in omega arith

  pub slot_held_by : (slot : ℕ) → slot < 2 ^ 25 - 1 → held_slots (4 * (slot + 1) + n) ≡ slot ∷ []
  slot_held_by slot low = let s = small in holds_one (4 * (slot + 1) + n) slot (omega arith)

  pub none_held_by : held_slots (2 ^ 27 + n) ≡ []
  none_held_by = let s = small in holds_none (2 ^ 27 + n) (omega arith)

  pub tagged : (x : ℕ) → x % 4 ≡ n → tag_by (x % 4) ≡ t
  tagged x e = ap tag_by (e ∙ is) ∙ tag_back t

  pub slot_contents : (slot : ℕ) → slot < 2 ^ 25 - 1 → contents_of (4 * (slot + 1) + n) ≡ record { held = Some slot; tag = t }
  slot_contents slot low = let s = small in λ d. record {
    held = slice_get (slot_held_by slot low d) 0;
    tag = tagged (4 * (slot + 1) + n) (omega arith) d;
  }

  pub none_contents : contents_of (2 ^ 27 + n) ≡ record { held = None; tag = t }
  none_contents = let s = small in λ d. record { held = slice_get (none_held_by d) 0; tag = tagged (2 ^ 27 + n) (omega arith) d }
