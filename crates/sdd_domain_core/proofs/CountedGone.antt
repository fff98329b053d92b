-- How much of what was due was reclaimed, and is counted
use Rattle.std.proofs.Common.{◌≡◌, ◌⊎◌, ℕ, ◌+◌, ◌≤◌, List, [], ◌∷◌, inl, inr, ⊎_elim, refl, ap, ◌∙◌, arith}
use Rattle.sdd_participants.specs.declared.waiting.LimboEntry.{LimboEntry}
use Rattle.sdd_world_model.proofs.TimesListed.{count-cons}
use Rattle.sdd_domain_steps.specs.LocalState.{LocalState, IsLone}
use Rattle.sdd_domain_core.specs.OpeningTally.{CountsGone}
use Rattle.sdd_domain_steps.specs.Receipt.{with_reclaimed}
use Rattle.sdd_domain_steps.specs.WaitingItems.{is_item, items_in}
use Rattle.sdd_domain_core.proofs.Tallies.{many_more}

-- of so many items that were due, so many still are; of the others some were reclaimed, and are counted
pub record CountsSome {J : Type 0} (items left : ℕ) (old new : LocalState J) : Type 0 where
  pub gone : ℕ
  pub few : gone + left ≤ items
  pub tally : new.tally ≡ with_reclaimed gone old.tally
  pub all : IsLone old ⊎ (old.slots.privates ≡ []) → gone + left ≡ items
  pub privates : old.slots.privates ≡ [] → new.slots.privates ≡ []

module _ {J : Type 0} where
  pub counts_more : (items left k rest : ℕ) (old mid new : LocalState J) → CountsSome items left old mid → CountsGone k mid new
      → (IsLone old → IsLone mid) → left ≡ k + rest → CountsSome items rest old new
  counts_more items left k rest old mid new before now lone both = record {
    gone = before.gone + now.gone;
    few = let a = before.few in let b = now.few in omega arith;
    tally = now.tally ∙ (ap (with_reclaimed now.gone) before.tally ∙ many_more before.gone now.gone (before.gone + now.gone) old.tally refl);
    all = λ h. let a = before.all h in
        let b = now.all (⊎_elim (λ (one : IsLone old). inl (lone one)) (λ (none : old.slots.privates ≡ []). inr (before.privates none)) h) in omega arith;
    privates = λ none. now.privates (before.privates none);
  }

  -- the same before and after steps that change none of it
  pub counts_after : (items : ℕ) (old mid new : LocalState J) → CountsGone items old mid → new.tally ≡ mid.tally → new.slots.privates ≡ mid.slots.privates
      → CountsGone items old new
  counts_after items old mid new before tally privates = record {
    gone = before.gone;
    few = before.few;
    tally = tally ∙ before.tally;
    all = before.all;
    privates = λ none. privates ∙ before.privates none;
  }

pub items_first : (what : LimboEntry) (xs : List LimboEntry) → items_in (what ∷ xs) ≡ items_in (what ∷ []) + items_in xs
items_first what xs = let a = count-cons is_item what xs in let b = count-cons is_item what [] in omega arith
