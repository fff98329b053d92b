-- What an opening reclaims is counted
use Rattle.std.proofs.Common.{◌≡◌, ℕ, ◌==◌, Bool, true, false, [], map, inl, inr, refl, sym, ap, ◌∙◌, subst, ⊎_elim, arith}
use Rattle.std.specs.Prelude.{Result, Ok, Err, MatchResult, if◌then◌else◌}
use Rattle.sdd_core.specs.declared.refused.Refused.{Refused}
use Rattle.sdd_participants.specs.EpochState as time
use Rattle.sdd_domain_invariant.specs.Slots.SlotSteps.{older_private}
use Rattle.sdd_domain_steps.specs.LocalState.{LocalState, CanNest, HasOpenGuard, IsEntered, IsLone, GoesOn}
use Rattle.sdd_domain_core.specs.OpeningTally.{CountsGone, CountsReclaimed}
use Rattle.sdd_domain_steps.specs.Receipt.{with_reclaimed}
use Rattle.sdd_domain_steps.specs.WaitingItems.{aged_privates_at, items_in, due_at}
use Rattle.sdd_domain_steps.proofs.Arrivals.{due_stayed}
use Rattle.sdd_domain_core.proofs.GuardOpenings.{WasIdle, is_over}

-- beside an open guard nothing is
pub beside : {J : Type 0} (old new : LocalState J) → HasOpenGuard old → new.tally ≡ old.tally → CountsReclaimed old new
beside old new some_open same = record { inner = λ _. same; outermost = λ shut. absurd (shut some_open) }

-- so it is by one guard more beside others, and by none where as many are open as may nest
pub nested_counts : {A : Type 0} (IsReader : A → Type 0) {J : Type 0} (old new : LocalState J) (r : Result A Refused)
    → MatchResult r (λ a. IsReader a × CanNest old × (new ≡ record old { own = time.nested old.own }))
    (λ e. (e ≡ Refused.TooManyGuards) × ¬ (CanNest old) × (new ≡ old)) → HasOpenGuard old → CountsReclaimed old new
nested_counts IsReader old new (Ok a) did some_open = beside old new some_open (ap (λ (y : LocalState _). y.tally) did.2)
nested_counts IsReader old new (Err e) did some_open = beside old new some_open (ap (λ (y : LocalState _). y.tally) did.2)

-- the outermost opening has found this count, and counted what was reclaimed of what was due then
pub counted_at : {J : Type 0} (count : ℕ) (old new : LocalState J) → old.own.guards ≡ 0 → new.own.found ≡ count
    → CountsGone (items_in (due_at count old.own)) old new → CountsReclaimed old new
counted_at count old new shut found counts = record {
  inner = λ some_open. absurd (omega arith);
  outermost = λ _. subst (λ (c : ℕ). CountsGone (items_in (due_at c old.own)) old new) (sym found) counts;
}

aged_none : (same : Bool) → (if same then [] else map older_private []) ≡ []
aged_none true = refl
aged_none false = refl

-- where no item waits privately none does after an opening
entered_none : {J : Type 0} (count : ℕ) (old n : LocalState J) → IsEntered count old n → old.slots.privates ≡ [] → n.slots.privates ≡ []
entered_none count old n is none = ap (λ (y : LocalState _). y.slots.privates) is.member
    ∙ (ap (aged_privates_at count old.own) none ∙ aged_none (old.own.found == count))

-- what was due was reclaimed after it had entered
pub counted_due : {J : Type 0} (count : ℕ) (old n q : LocalState J) → IsEntered count old n → CountsGone (items_in n.due) n q
    → CountsGone (items_in (due_at count old.own)) old q
counted_due count old n q is counts = let items = ap (λ (y : LocalState _). items_in y.due) is.member in record {
  gone = counts.gone;
  few = let f = counts.few in omega arith;
  tally = counts.tally ∙ ap (λ (y : LocalState _). with_reclaimed counts.gone y.tally) is.member;
  all = λ h. counts.all (⊎_elim (λ (lone : IsLone old). inl (ap (λ (y : LocalState _). y.limits.participants) is.member ∙ lone))
      (λ (none : old.slots.privates ≡ []). inr (entered_none count old n is none)) h) ∙ items;
  privates = λ none. counts.privates (entered_none count old n is none);
}

-- nothing was due
module _ {J : Type 0} (count : ℕ) (b : Bool) (old m new : LocalState J) (is : IsEntered count old m) (goes : GoesOn count b old m new) where
  none_gone : due_at count old.own ≡ [] → new.tally ≡ old.tally → new.slots.privates ≡ m.slots.privates → CountsGone (items_in (due_at count old.own)) old new
  none_gone none tally privates = let items : items_in (due_at count old.own) ≡ 0 = ap items_in none in record {
    gone = 0;
    few = omega arith;
    tally = tally;
    all = λ _. sym items;
    privates = λ no_private. privates ∙ entered_none count old m is no_private;
  }

  pub counted_over : b ≡ false → CountsGone (items_in (due_at count old.own)) old new
  counted_over told = ⊎_elim
      (λ (o : (old.own.found ≡ count) × IsEntered count old new). none_gone (due_stayed count old.own o.0) (ap (λ (y : LocalState _). y.tally) o.1.member)
      (ap (λ (y : LocalState _). y.slots.privates) o.1.member ∙ sym (ap (λ (y : LocalState _). y.slots.privates) is.member)))
      (λ (o : WasIdle count b old m new is goes). none_gone (sym (ap (λ (y : LocalState _). y.due) is.member) ∙ o.1)
      (ap (λ (y : LocalState _). y.tally) o.2 ∙ ap (λ (y : LocalState _). y.tally) is.member) (ap (λ (y : LocalState _). y.slots.privates) o.2))
      (is_over count b old m new is goes told)
