-- Which slots of a lone participant's world are free
use Rattle.std.proofs.Common.{◌≡◌, ℕ, ◌<◌, Bool, true, false, Option, None, Some, length, refl, sym, ◌∙◌, arith, if◌then◌else◌}
use mathlib.Core.Logic.{dite}
use native.Mathlib.Decide.{dec_lt}
use Rattle.std.specs.Prelude.{◌↔◌, ◌==◌, IsTrue, IsSome, option_map}
use Rattle.sdd_participants.specs.declared.standing.Standing.{Standing}
use Rattle.sdd_participants.specs.declared.standing.Standing.TheVariants.{Raw, Retired}
use Rattle.sdd_participants.specs.Slab.{IsFull}
use Rattle.sdd_domain_invariant.specs.Codes.{free_word, raw_word, waiting}
use Rattle.sdd_world_model.specs.World.{standing_at, value_at}
use Rattle.sdd_domain_steps.specs.LocalState.{IsFree, IsLone, IsUsedUp, word_of}
use Rattle.sdd_domain_steps.specs.Local.{LocalModel, world_of, standing_in, value_in}
use Rattle.sdd_domain_core.proofs.Listings.{listing_long, listing_at, listing_past, all_listed}
use Rattle.sdd_domain_core.proofs.MadeItem.{used_up}

-- what stands nowhere has no value
none_by : {A B : Type 0} (free waits raw : Bool) (s : Standing) (e : Option A) (f : A → B) →
    (if free then None else (if waits then Some Retired else (if raw then Some Raw else Some s))) ≡ None → (if free then None else option_map f e) ≡ None
none_by true waits raw s e f is = refl
none_by false true raw s e f is = cc
none_by false false true s e f is = cc
none_by false false false s e f is = cc

module _ {T J : Type 0} (p : LocalModel T J) where
  slots : ℕ
  slots = p.member.limits.slots

  -- there is a place for a value in each slot
  pub as_many : length (world_of p).values ≡ length (world_of p).standings
  unfolding slots
  as_many = listing_long slots (value_in p) ∙ sym (listing_long slots (standing_in p))

  -- a slot that is free has none
  pub bare : (k : ℕ) → standing_at (world_of p) k ≡ None → value_at (world_of p) k ≡ None
  unfolding slots
  bare k free = dite (dec_lt k slots)
      (λ low. listing_at slots (value_in p) k None low
      ∙ none_by (word_of p.member k == free_word 0) (waiting (word_of p.member k) == 1) (word_of p.member k == raw_word 0) _ _ _
      (sym (listing_at slots (standing_in p) k None low) ∙ free))
      (λ past. listing_past slots (value_in p) k None (omega arith))

  -- where a slot is free not all are taken
  pub not_full : (slot : ℕ) → slot < p.member.limits.slots → IsFree p.member slot → ¬ (IsFull (world_of p).standings)
  not_full slot low free full =
      let some : IsSome (standing_in p slot) = all_listed (λ (e : Option Standing). IsSome e) p.member.limits.slots (standing_in p) full slot low in
      let none : standing_in p slot ≡ None = rw free refl in
      absurd (cc)

  -- whether a free slot was found tells whether not all are taken
  pub tells : (b : Bool) → (IsTrue b → IsLone p.member → (slot : ℕ) × (slot < p.member.limits.slots) × IsFree p.member slot) →
      (¬ (IsTrue b) → IsLone p.member → IsUsedUp p.member) → IsLone p.member → IsTrue b ↔ ¬ (IsFull (world_of p).standings)
  tells true found missed lone = (λ _. let one = found refl lone in not_full one.0 one.1 one.2, λ _. refl)
  tells false found missed lone = (λ never. absurd (cc), λ some. absurd (some (used_up p (missed (λ never. absurd (cc)) lone))))
