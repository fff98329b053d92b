-- What values hold owners of has a name
use Rattle.sdd_interpreter.proofs.Words.{◌≡◌, ℕ, ◌≤◌, [], ◌∷◌, None, Some, IsSome, slice_index_or, refl, ap, ◌∙◌, arith, OwnerOrCell, value_at, Body, Val, body_of, holdings_of, owner_in, slot_of, Environment, state_of, IsTied, IsOfNamed, count-cons, count_by, eq-eqb, is_owner_of, name-some, named, one_where, times_held, ◌==◌}
use Rattle.sdd_space.specs.Owned as owned
use Rattle.sdd_space.specs.Shared as shared
use Rattle.sdd_script_model.specs.declared.val.Body.TheVariants as body
use Rattle.sdd_script_model.proofs.NameCounts.{accounts, owner-where, times-held, times_in, value-owner-out}
use Rattle.sdd_script_model.proofs.BagStorages.{off-valued}

module _ (h : Environment) (t : IsTied h) where
  -- what a value holds an owner of has a name
  pub value-named : (j : ℕ) (v : Val) → value_at h.world j ≡ Some v → IsOfNamed h.log.names.items (body_of v)
  value-named j v here = by (body_of v) refl where
    its : (x : OwnerOrCell) (k : ℕ) → owner_in (body_of v) ≡ x ∷ [] → slot_of (Some x) ≡ Some k → IsSome (slice_index_or h.log.names.items k None)
    its x k is slot =
        name-some (state_of h) t.sound.stocked k (value-owner-out (state_of h) (accounts (state_of h) t.sound) j v x k here is slot)
        (off-valued (state_of h) h.world (named (state_of h)) t.sound.ledger (λ n b es at stands. stands) j k (holds x k is slot)) where
          holds : (x : OwnerOrCell) (k : ℕ) → owner_in (body_of v) ≡ x ∷ [] → slot_of (Some x) ≡ Some k → 1 ≤ times_held holdings_of k (value_at h.world j)
          holds x k is slot =
              let one_owner : times_in k (body_of v) ≡ one_where (is_owner_of k x) =
              ap (count_by (is_owner_of k)) is ∙ count-cons (is_owner_of k) x [] ∙ omega arith in
              let itself : one_where (k == k) ≡ 1 = ap one_where (eq-eqb k k refl) in
              omega (arith, ap (times_held holdings_of k) here, times-held v k, one_owner, owner-where x k slot k, itself)

    by : (b : Body) → body_of v ≡ b → IsOfNamed h.log.names.items b
    by (body.Number n) e = tt
    by (body.Owned o) e = its (owned.holding_of o) (owned.slot_of o) (ap owner_in e) refl
    by (body.Storage st) e = tt
    by (body.Shared o) e = its (shared.holding_of o) (shared.slot_of o) (ap owner_in e) refl
