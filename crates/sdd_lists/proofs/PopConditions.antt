-- What a pop asked may be said in other words
use Rattle.std.proofs.Common.{◌≡◌, ℕ, Bool, true, List, Option, Some, None, sym, ap, ◌∙◌}
use Rattle.std.specs.Borrow.{Bor}
use Rattle.std.specs.Prelude.{MatchOption, Result, Ok, Err, option_copied}
use Rattle.sdd_world_model.specs.World.{World}
use Rattle.sdd_space.specs.Shared.{Shared}
use Rattle.sdd_lists.specs.declared.linked_entry.LinkedEntry.{LinkedEntry}
use Rattle.sdd_lists.specs.declared.unpopped.Unpopped.{Unpopped}
use Rattle.sdd_lists.specs.declared.unpopped.Unpopped.TheVariants.{Kept, Refused as RefusedBy}
use Rattle.sdd_lists.specs.Ends.{IsLastOf, is_spent, last_value}
use Rattle.sdd_lists.specs.Lists.{Entry}
use Rattle.sdd_lists.specs.Queue.{DequeuesIf, QueueCells}
use Rattle.sdd_lists.specs.Stack.{PopsIf}
use Rattle.sdd_lists.proofs.Ends.{last-value, no-last-value}

module _ {T : Type 0} (said asked : LinkedEntry T → Bool → Type 0) (to : (v : LinkedEntry T) (b : Bool) → said v b → asked v b)
    (w new : World (LinkedEntry T)) (p c : ℕ) (es : List (Entry (LinkedEntry T))) where
  pub asked-so : (r : Result (Option (Shared (LinkedEntry T))) (Unpopped T)) → PopsIf said w p c es r new → PopsIf asked w p c es r new
  asked-so (Ok None) is = is
  asked-so (Ok (Some owner)) is = (is.0, is.1, is.2, to _ _ is.3, is.4)
  asked-so (Err (Kept owner)) is = (is.0, is.1, is.2, to _ _ is.3, is.4)
  asked-so (Err (RefusedBy why)) is = is

module _ {T : Type 0} (said asked : LinkedEntry T → Bool → Type 0) (to : (v : LinkedEntry T) (b : Bool) → said v b → asked v b)
    (w new : World (LinkedEntry T)) (p : ℕ) (q : QueueCells) (es : List (Entry (LinkedEntry T))) (second : Option ℕ) where
  pub dequeued-so : (r : Result (Option (Shared (LinkedEntry T))) (Unpopped T)) → DequeuesIf said w p q es second r new →
      DequeuesIf asked w p q es second r new
  dequeued-so (Ok None) is = is
  dequeued-so (Ok (Some owner)) is = (is.0, is.1, is.2, to _ _ is.3, is.4)
  dequeued-so (Err (Kept owner)) is = (is.0, is.1, is.2, to _ _ is.3, is.4)
  dequeued-so (Err (RefusedBy why)) is = is

-- what a push is shown is the last value
pub shown-last : {F T : Type 0} (entry : F → Bor T) (linked : F → Entry T → Type 0) (es : List (Entry T)) (o : Option F) (shown : Option (Bor T)) →
    MatchOption o (shown ≡ None) (λ f. shown ≡ Some (entry f)) →
    MatchOption o (is_spent es ≡ true)
    (λ f. (e : Entry T) × (rest : List (Entry T)) × IsLastOf es e rest × ((entry f).now ≡ e.value) × linked f e) →
    option_copied shown ≡ last_value es
shown-last entry linked es None shown same spent = ap option_copied same ∙ sym (no-last-value es spent)
shown-last {T = T} entry linked es (Some f) shown same last =
    ap option_copied same ∙ ap (λ (v : T). Some v) last.3 ∙ sym (last-value es last.0 last.1 last.2)
