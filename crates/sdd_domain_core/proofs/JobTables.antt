-- The table of a participant's own, which has a job exactly for each place where one waits with it, over each step
use Rattle.std.proofs.Common.{◌≡◌, ◌↔◌, ℕ, ◌+◌, ◌<◌, List, [], ◌∷◌, ◌++◌, Some, None, length, slice_index_or, sym, refl, ap, ◌∙◌, subst, arith, get_or-set_other, get_or-set_same}
use Rattle.std.specs.Prelude.{Option, IsSome, MatchOption}
use mathlib.Core.Logic.{dite}
use native.Mathlib.Decide.{ℕ_discrete}
use Rattle.std.proofs.lemmas.Bool.{true≢false}
use Rattle.sdd_participants.specs.declared.waiting.LimboEntry.{LimboEntry}
use Rattle.sdd_participants.specs.Slab.{with_entry, without_entry}
use Rattle.sdd_rights.specs.declared.views.WaitingItem.{WaitingItem}
use Rattle.sdd_domain_invariant.specs.Sums.{total}
use Rattle.sdd_domain_invariant.specs.Slots.{waits_in}
use Rattle.sdd_domain_invariant.specs.Slots.SlotSteps.{retired_now, without_item}
use Rattle.sdd_domain_invariant.proofs.Sums.{is_same, is_other, total_snoc}
use Rattle.sdd_domain_invariant.proofs.Slots.OwnerSteps.{item_gone, item_kept}
use Rattle.std.proofs.Common.{true, false, ◌≤◌, ⊎_elim}
use Rattle.std.proofs.lemmas.Bool.{cases_lt}
use Rattle.std.proofs.lemmas.List.{get_or_past}
use Rattle.sdd_participants.specs.declared.participant.Participant.{Participant}
use Rattle.sdd_participants.specs.Waiting.{Waiting}
use Rattle.sdd_domain_steps.specs.InBags.{AreInBags, KnownWaiting}
use Rattle.sdd_domain_steps.specs.DueItems.{Pending}
use Rattle.sdd_domain_steps.proofs.InBags.{nothing_waits}

module _ {J : Type 0} where
  -- so many slots, and so many places of jobs
  module _ (n jobs : ℕ) (table : List (Option J)) (xs : List WaitingItem)
      (old : (j : ℕ) → j < jobs → IsSome (slice_index_or table j None) ↔ (0 < total (waits_in (n + j)) xs)) where
    -- the same jobs wait
    pub still_jobs : (ys : List WaitingItem) → ((j : ℕ) → j < jobs → total (waits_in (n + j)) ys ≡ total (waits_in (n + j)) xs)
        → (j : ℕ) → j < jobs → IsSome (slice_index_or table j None) ↔ (0 < total (waits_in (n + j)) ys)
    still_jobs ys same j low = subst (λ (k : ℕ). IsSome (slice_index_or table j None) ↔ (0 < k)) (sym (same j low)) (old j low)

    -- one more does
    pub job_put : (place : ℕ) → place < length table → (job : J) (count j : ℕ) → j < jobs → IsSome (slice_index_or (with_entry table place job) j None)
        ↔ (0 < total (waits_in (n + j)) (xs ++ retired_now (n + place) count ∷ []))
    job_put place inside job count j low = let t = total_snoc (waits_in (n + j)) xs (retired_now (n + place) count) in dite (ℕ_discrete j place)
        (λ e. let o = is_same (n + j) (n + place) (let f = e in omega arith) in
        let here : slice_index_or (with_entry table place job) j None ≡ Some job
        = ap (λ (k : ℕ). slice_index_or (with_entry table place job) k None) e ∙ get_or-set_same table place (Some job) None inside in
        ((λ _. omega arith), (λ _. subst (λ (x : Option J). IsSome x) (sym here) refl)))
        (λ ne. let o = is_other (n + j) (n + place) (λ e. ne (let f = e in omega arith)) in let was = old j low in
        let there : slice_index_or (with_entry table place job) j None ≡ slice_index_or table j None = get_or-set_other table place j (Some job) None ne in (
          (λ h. let w = was.0 (subst (λ (x : Option J). IsSome x) there h) in omega arith),
          (λ h. subst (λ (x : Option J). IsSome x) (sym there) (was.1 (omega arith))),
        ))

    -- one fewer does
    pub job_taken : (place : ℕ) → place < length table → (j : ℕ) → j < jobs → IsSome (slice_index_or (without_entry table place) j None)
        ↔ (0 < total (waits_in (n + j)) (without_item (n + place) xs))
    job_taken place inside j low = dite (ℕ_discrete j place)
        (λ e. let gone = item_gone (n + place) xs in let same = ap (λ (k : ℕ). total (waits_in (n + k)) (without_item (n + place) xs)) e in
        let here : slice_index_or (without_entry table place) j None ≡ None
        = ap (λ (k : ℕ). slice_index_or (without_entry table place) k None) e ∙ get_or-set_same table place None None inside in
        ((λ h. absurd (true≢false (sym (subst (λ (x : Option J). IsSome x) here h)))), (λ h. absurd (omega arith))))
        (λ ne. let kept = item_kept (n + place) (n + j) (λ e. ne (let f = e in omega arith)) xs in let was = old j low in
        let there : slice_index_or (without_entry table place) j None ≡ slice_index_or table j None = get_or-set_other table place j None None ne in (
          (λ h. let w = was.0 (subst (λ (x : Option J). IsSome x) there h) in omega arith),
          (λ h. subst (λ (x : Option J). IsSome x) (sym there) (was.1 (omega arith))),
        ))

head_of : LimboEntry → List LimboEntry → LimboEntry
head_of d [] = d
head_of d (w ∷ ws) = w

-- the next of what is due is what was known to be so
pub next_goes : (old new : Pending) (r : Option LimboEntry) (w : LimboEntry) (rest : List LimboEntry)
    → MatchOption r ((old.items ≡ []) × (new ≡ old)) (λ what. old.items ≡ what ∷ new.items) → old.items ≡ w ∷ rest → old.items ≡ w ∷ new.items
unfolding head_of
next_goes old new None w rest is first = absurd (let none : [] ≡ w ∷ rest = sym is.0 ∙ first in cc)
next_goes old new (Some what) w rest is first = let same : what ≡ w = ap (head_of what) (sym is ∙ first) in is ∙ ap (λ (v : LimboEntry). v ∷ new.items) same

-- ---- where nothing waits with a participant it has no job
pub not-there : {A : Type 0} (o : Option A) → (IsSome o → ⊥) → o ≡ None
not-there None h = refl
not-there (Some x) h = absurd (h refl)

pub none-wait : (m : Participant) → elim (m.bags.waiting) [ [] ↦ false | x ∷ xs ↦ true ] ≡ false → m.bags.waiting ≡ []
none-wait m is = none-of m.bags.waiting is
  where
    none-of : (ws : List Waiting) → elim ws [ [] ↦ false | x ∷ xs ↦ true ] ≡ false → ws ≡ []
    none-of [] is = refl
    none-of (w ∷ ws) is = absurd (cc)

-- so many slots, and so many places of jobs, of each of which there is a job exactly where one waits; nothing is due, and nothing waits in the bags
pub none-there : {J : Type 0} (n jobs : ℕ) (table : List (Option J)) (known : KnownWaiting) (items : List LimboEntry) (bags : List Waiting) →
    length table ≡ jobs → ((j : ℕ) → j < jobs → IsSome (slice_index_or table j None) ↔ (0 < total (waits_in (n + j)) known.plain)) →
    AreInBags n known bags items → items ≡ [] → bags ≡ [] → (j : ℕ) → slice_index_or table j None ≡ None
none-there n jobs table known items bags long there tied none_due none_wait j = ⊎_elim
    (λ (low : j < jobs). not-there (slice_index_or table j None) (λ some. let w = (there j low).0 some in
    let zero_now = (nothing_waits n known bags items tied none_due none_wait (n + j)).0 in absurd (omega arith)))
    (λ (high : jobs ≤ j). get_or_past table j None (omega arith))
    (cases_lt j jobs)
