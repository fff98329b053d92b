-- What a cursor answers
use Rattle.std.proofs.Common.{◌≡◌, Option, Some, None, sym, subst}
use Rattle.std.specs.Option.{option_copied_mut}
use Rattle.std.specs.Borrow.{MutBor}
use Rattle.std.specs.Prelude.{IfSome, MatchOption}

abbrev Told : {T : Type 0} → (E : Type 0) → (T → T → Type 0) → Option T → Type 0
Told {T} E L held = MatchOption held E (λ v. (w : T) → L v w)

module _ {T : Type 0} (E : Type 0) (L : T → T → Type 0) where
  pub lent-of : (r : Option (MutBor T)) (held : Option T) → option_copied_mut r ≡ held → MatchOption held E (λ v. (w : T) → L v w) → (w : T)
      → IfSome r (λ x. L x.now w)
  lent-of None held same told w = tt
  lent-of (Some x) held same told w = (subst (Told E L) (sym same) told) w

  pub ended-of : (r : Option (MutBor T)) (held : Option T) → option_copied_mut r ≡ held → MatchOption held E (λ v. (w : T) → L v w)
      → MatchOption r E (λ x. Unit {0})
  ended-of None held same told = subst (Told E L) (sym same) told
  ended-of (Some x) held same told = tt

  pub value-of : (A : Type 0) (W : T → Type 0) (r : Option (MutBor T)) (held : Option T) → option_copied_mut r ≡ held
      → MatchOption held E (λ v. (w : T) → L v w) → (E → A) → ((v w : T) → L v w → W v) → MatchOption r A (λ x. W x.now)
  value-of A W None held same told none some = none (subst (Told E L) (sym same) told)
  value-of A W (Some x) held same told none some = some x.now x.now ((subst (Told E L) (sym same) told) x.now)
