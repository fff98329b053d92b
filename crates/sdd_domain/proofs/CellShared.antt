-- What one owner more of what a cell holds is for the participant that it comes to
use Rattle.std.proofs.Common.{◌≡◌, ⊎_elim, ℕ, ◌+◌, ◌^◌, ◌<◌, ◌≤◌, true, IsTrue, List, Some, refl, sym, ap, ◌∙◌, subst, arith}
use Rattle.std.specs.Prelude.{Result, Ok, Err, IfSome, IsSome, MatchOption, MatchResult, Option}
use base.Stored.{Gv}
use Rattle.sdd_core.specs.declared.refused.Refused.{Refused}
use Rattle.sdd_core.specs.declared.refused.Refused.TheVariants.{TooManyOwners, Contended}
use Rattle.sdd_core.specs.declared.tag.Tag.{Tag}
use Rattle.sdd_participants.specs.Slab.{entry_at}
use Rattle.sdd_participants.specs.declared.standing.CellContents.{CellContents}
use Rattle.sdd_participants.specs.declared.standing.Standing.TheVariants.{Shared}
use Rattle.sdd_rights.specs.declared.right.Right.{Right}
use Rattle.sdd_world_model.specs.Cells.{slot_held}
use Rattle.sdd_world_model.specs.Slots.{IsSharedBy}
use Rattle.sdd_domain_invariant.specs.Codes.{alive, counted, most_owners}
use Rattle.sdd_world_model.specs.OwnerOrCell.{OwnerOrCell}
use Rattle.sdd_space.specs.Undisturbed.{Undisturbed}
use Rattle.sdd_world_model.specs.World.{standing_at}
use Rattle.sdd_world_model.specs.WorldChanges.{with_standing}
use Rattle.sdd_domain_steps.specs.Cells.{Copies, CopiesNone}
use Rattle.sdd_domain_steps.specs.Local.{LocalModel, contents_of, world_of}
use Rattle.sdd_domain_steps.specs.LocalState.{IsLone, LocalState, cell_word_of, word_of}
use Rattle.sdd_domain_core.specs.Space.{Shows, is_lone, known_of, caller_of}
use Rattle.sdd_domain_steps.specs.WordsAndValues.{WordsMatchValues}
use Rattle.sdd_domain.proofs.CellCloned.{came_step, came_world}
use Rattle.sdd_domain_core.proofs.CellWorld.{full_cell}
use Rattle.sdd_domain_core.proofs.OwnerLooks.{few_alive, stands_alive}
use Rattle.sdd_domain.proofs.Steps.{IsStep, lone_begun, sees_step, sees_world, step_leaves}

module _ {T J : Type 0} (v : LocalModel T J) (m : LocalState J) (cell : ℕ) where
  abbrev now : LocalModel T J
  now = record { member = m; entries = v.entries }

  abbrev pub Shares : Result (Option Right) Refused → Type 0
  Shares r = MatchResult r (λ copy. (tag : Tag) × Copies cell copy tag v.member m) (λ e. CopiesNone cell e v.member m)

  pub shared_step : (shown : T → Gv) (holds : T → List OwnerOrCell) (r : Result (Option Right) Refused) → Shares r → IsStep shown holds v now
  shared_step shown holds (Ok copy) a = came_step v m shown holds copy a.1.3
  shared_step shown holds (Err e) a = sees_step shown holds v m a.sees

  -- as many own the item as may
  too_many : WordsMatchValues v.member v.entries → IsLone v.member → (slot : ℕ) → counted (word_of v.member slot) ≡ 1
      → most_owners ≤ alive (word_of v.member slot) → IsSharedBy (2 ^ 62) (standing_at (world_of v) slot)
  too_many tied lone slot kind most = let some : 0 < alive (word_of v.member slot) = omega arith in
      let few = few_alive v (tied lone) slot some true kind refl in let all : alive (word_of v.member slot) ≡ 2 ^ 62 = omega arith in record {
        shared = stands_alive v (tied lone) slot some true kind ∙ ap (λ (n : ℕ). Some (Shared n)) all;
        some = omega arith;
        most = omega arith;
      }

  module _ (shown : T → Gv) (holds : T → List OwnerOrCell) (p : LocalModel T J) (same : v ≡ p) (tied : WordsMatchValues v.member v.entries) where
    pub shared_undisturbed : (r : Result (Option Right) Refused) → Shares r
        → Undisturbed caller_of (λ (q : LocalModel T J). q.member.own) known_of (λ (q : LocalModel T J). Shows shown holds q) p now
    shared_undisturbed r a = step_leaves shown holds v now p same (shared_step shown holds r a) tied

    module _ (inside : cell < v.member.sizes.cells) (full : IsLone v.member → 0 < cell_word_of v.member cell) where
      abbrev Exactly : LocalModel T J → Result (Option Right) Refused → Type 0
      Exactly q r = (old : CellContents) × (entry_at (world_of q).cells cell ≡ Some old) × MatchResult r
          (λ copy. (slot_held copy ≡ old.held) × MatchOption (slot_held copy) (world_of now ≡ world_of q)
          (λ slot. (owners : ℕ) × IsSharedBy owners (standing_at (world_of q) slot) × (owners < 2 ^ 62)
          × (world_of now ≡ with_standing (world_of q) slot (Shared (owners + 1)))))
          (λ e. (e ≡ TooManyOwners) × IfSome old.held (λ slot. IsSharedBy (2 ^ 62) (standing_at (world_of q) slot)) × IsSome old.held
          × (world_of now ≡ world_of q))

      there : IsLone v.member → entry_at (world_of v).cells cell ≡ Some (contents_of (cell_word_of v.member cell))
      there lone = full_cell v (tied lone) cell (cell_word_of v.member cell) inside refl (full lone)

      exactly_there : IsLone v.member → (r : Result (Option Right) Refused) → Shares r → Exactly v r
      exactly_there lone (Ok copy) a = (
        contents_of (cell_word_of v.member cell),
        there lone,
        (
          ap (λ (c : CellContents). c.held) (sym a.1.1 ∙ ap contents_of (a.1.2.found lone)),
          came_world v m tied lone copy a.1.3,
        ),
      )
      exactly_there lone (Err e) a = (
        contents_of (cell_word_of v.member cell),
        there lone,
        ⊎_elim
            (λ (b : (e ≡ TooManyOwners) × (IsLone v.member → (slot : ℕ) × ((contents_of (cell_word_of v.member cell)).held ≡ Some slot)
            × (counted (word_of v.member slot) ≡ 1) × (most_owners ≤ alive (word_of v.member slot)))).
            let most = b.1 lone in (
              b.0,
              subst (λ (o : Option ℕ). IfSome o (λ slot. IsSharedBy (2 ^ 62) (standing_at (world_of v) slot))) (sym most.1)
                  (too_many tied lone most.0 most.2 most.3),
              subst (λ (o : Option ℕ). IsSome o) (sym most.1) refl,
              sees_world v m a.sees,
            ))
            (λ (c : (e ≡ Contended) × ¬ (IsLone v.member)). absurd (c.1 lone)) a.cause,
      )

      pub shared_exact : (r : Result (Option Right) Refused) → Shares r → IsTrue (is_lone p.member) → Exactly p r
      shared_exact r a exact = subst (λ (q : LocalModel T J). Exactly q r) same (exactly_there (lone_begun v p same exact) r a)
