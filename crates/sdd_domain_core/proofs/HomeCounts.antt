-- The number of homes, and what lies in slots once all are free.
use Rattle.std.proofs.Common.{◌≡◌, ℕ, zero, suc, ◌+◌, ◌*◌, ◌<◌, List, slice_index, refl, ap, arith}
use Rattle.sdd_rights.specs.declared.views.Sizes.{Sizes}
use Rattle.sdd_domain_invariant.specs.Codes.{full, valued}
use Rattle.sdd_domain_invariant.specs.Sums.{span}
use Rattle.sdd_domain_invariant.specs.Words.{first_slot}
use Rattle.sdd_domain_invariant.specs.Slots.{slot_at}
use Rattle.sdd_domain_invariant.proofs.Codes.{sound}
use Rattle.sdd_domain_invariant.specs.Counts.{full_slots}
use Rattle.sdd_domain_invariant.specs.Fractions.FractionsAtHome.{homes_for}

pub many : (n m : ℕ) → m * (n + 1) ≡ homes_for n m
unfolding homes_for
many n m = ap (λ (k : ℕ). m * k) (let e : n + 1 ≡ suc n = omega arith in e)

none_in : (ws : List ℕ) (b n : ℕ) → ((i : ℕ) → i < n → valued (slice_index ws (b + i)) ≡ 0) → span valued ws b n ≡ 0
none_in ws b zero free = refl
none_in ws b (suc n) free = let here = free n (omega arith) in let rest = none_in ws b n (λ i low. free i (omega arith)) in omega arith

pub none_full : (sizes : Sizes) (ws : List ℕ) → ((i : ℕ) → i < sizes.slots → full (slot_at sizes ws i) ≡ 0) → full_slots sizes ws ≡ 0
none_full sizes ws free = none_in ws (first_slot sizes) sizes.slots (λ i near. sound.empty (slot_at sizes ws i) (free i near))
