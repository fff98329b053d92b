-- What another cell that holds one owner more of a cell's item is for the participant that clones it
use Rattle.std.proofs.Common.{◌≡◌, ◌≢◌, ◌⊎◌, inl, inr, ⊎_elim, ℕ, ◌+◌, ◌^◌, ◌<◌, ◌≤◌, true, IsTrue, List, None, Some, set, refl, sym, ap, ◌∙◌, subst, arith, get_or-set_other}
use Rattle.std.specs.Prelude.{Result, Ok, Err, IfSome, IsSome, MatchOption, MatchResult, Option}
use Rattle.std.proofs.lemmas.List.{set-get_or, set-set}
use base.Stored.{Gv}
use Rattle.sdd_core.specs.declared.refused.Refused.{Refused}
use Rattle.sdd_core.specs.declared.refused.Refused.TheVariants.{NoCell, TooManyOwners, Contended}
use Rattle.sdd_participants.specs.Slab.{IsEmptyAt, IsFull, entry_at}
use Rattle.sdd_participants.specs.declared.standing.CellContents.{CellContents}
use Rattle.sdd_participants.specs.declared.standing.Standing.{Standing}
use Rattle.sdd_participants.specs.declared.standing.Standing.TheVariants.{Shared}
use Rattle.sdd_rights.specs.declared.right.Right.{Right}
use Rattle.sdd_rights.specs.Right.{number_of}
use Rattle.sdd_world_model.specs.Cells.{cell_with, slot_held}
use Rattle.sdd_world_model.specs.Slots.{IsSharedBy}
use Rattle.sdd_rights.specs.declared.views.Sizes.{Sizes}
use Rattle.sdd_domain_invariant.specs.Codes.{alive, counted, most_owners}
use Rattle.sdd_world_model.specs.OwnerOrCell.{OwnerOrCell}
use Rattle.sdd_space.specs.Undisturbed.{Undisturbed}
use Rattle.sdd_world_model.specs.World.{World, standing_at}
use Rattle.sdd_world_model.specs.WorldChanges.{with_cell, with_standing}
use Rattle.sdd_domain_steps.specs.Cells.{AllCellsTaken, ClaimsNone, ClonesNone, ClonesTo, SeesMore, WritesAt}
use Rattle.sdd_domain_steps.specs.Local.{LocalModel, contents_by, contents_of, world_of}
use Rattle.sdd_domain_steps.specs.LocalState.{AddsAt, IsLone, KnowsOwner, LocalState, cell_word_of, word_of}
use Rattle.sdd_domain_core.specs.Space.{Shows, is_lone, known_of, caller_of}
use Rattle.sdd_domain_steps.specs.WordsAndValues.{WordsMatchValues}
use Rattle.sdd_domain.proofs.AddedOwner.{added_world, few_before, shared_before}
use Rattle.sdd_domain_core.proofs.CellWorld.{cells_used_up, found_empty, full_cell, matched_written, world_by, world_written}
use Rattle.sdd_domain_core.proofs.OwnerLooks.{few_alive, stands_alive}
use Rattle.sdd_domain.proofs.Steps.{IsStep, adds_step, lone_begun, same_step, sees_step, sees_tied, sees_world, step_leaves, step_then, writes_step}

-- ---- one owner more came of what a cell holds, or the cell holds none
module _ {T J : Type 0} (v : LocalModel T J) (m : LocalState J) where
  abbrev copied : LocalModel T J
  copied = record { member = m; entries = v.entries }

  -- by its owner's right, if there is one
  abbrev pub Came : Option Right → Type 0
  Came copy = MatchOption copy (SeesMore v.member m) (λ right. (mid : LocalState J) × (owners : ℕ) × SeesMore v.member mid
      × AddsAt (number_of right) owners mid m × (IsLone mid → (value : Gv) × KnowsOwner mid (number_of right) true value))

  pub came_step : (shown : T → Gv) (holds : T → List OwnerOrCell) (copy : Option Right) → Came copy → IsStep shown holds v copied
  came_step shown holds None a = sees_step shown holds v m a
  came_step shown holds (Some right) a = let mid : LocalModel T J = record { member = a.0; entries = v.entries } in
      step_then shown holds v mid copied (sees_step shown holds v a.0 a.2) (adds_step shown holds mid m (number_of right) a.1 a.3 a.4)

  pub came_sizes : (copy : Option Right) → Came copy → m.sizes ≡ v.member.sizes
  came_sizes None a = ap (λ (y : LocalState J). y.sizes) a.member
  came_sizes (Some right) a = ap (λ (y : LocalState J). y.sizes) a.3.member ∙ ap (λ (y : LocalState J). y.sizes) a.2.member

  pub came_lone : (copy : Option Right) → Came copy → m.limits.participants ≡ v.member.limits.participants
  came_lone None a = ap (λ (y : LocalState J). y.limits.participants) a.member
  came_lone (Some right) a = ap (λ (y : LocalState J). y.limits.participants) a.3.member ∙ ap (λ (y : LocalState J). y.limits.participants) a.2.member

  -- so the item has one owner more
  abbrev pub Grows : World T → Option ℕ → Type 0
  Grows w held = MatchOption held (world_of copied ≡ w) (λ slot. (owners : ℕ) × IsSharedBy owners (standing_at w slot) × (owners < 2 ^ 62)
      × (world_of copied ≡ with_standing w slot (Shared (owners + 1))))

  pub came_world : WordsMatchValues v.member v.entries → IsLone v.member → (copy : Option Right) → Came copy → Grows (world_of v) (slot_held copy)
  came_world tied lone None a = sees_world v m a
  came_world tied lone (Some right) a =
      let mid : LocalModel T J = record { member = a.0; entries = v.entries } in let slot : ℕ = number_of right in
      let lone_mid : IsLone a.0 = ap (λ (y : LocalState J). y.limits.participants) a.2.member ∙ lone in
      let tied_mid = sees_tied v a.0 a.2 tied in let same : world_of mid ≡ world_of v = sees_world v a.0 a.2 in (
        alive (word_of a.0 slot),
        subst (λ (w : World T). IsSharedBy (alive (word_of a.0 slot)) (standing_at w slot)) same (shared_before mid m slot tied_mid a.4 lone_mid),
        few_before mid m slot tied_mid a.4 a.1 a.3 lone_mid,
        added_world mid m slot tied_mid a.4 a.1 a.3 lone_mid
            ∙ ap (λ (w : World T). with_standing w slot (Shared (alive (word_of a.0 slot) + 1))) same,
      )

-- ---- a cell was reserved first
module _ {T J : Type 0} (v : LocalModel T J) (cell other first : ℕ) (reserved : LocalState J) (reserves : WritesAt other 0 first v.member reserved)
    (tied : WordsMatchValues v.member v.entries) (lone : IsLone v.member) (full : IsLone v.member → 0 < cell_word_of v.member cell) where
  abbrev reserving : LocalModel T J
  reserving = record { member = reserved; entries = v.entries }

  pub lone_reserving : IsLone reserved
  lone_reserving = ap (λ (y : LocalState J). y.limits.participants) reserves.member ∙ lone

  pub tied_reserving : WordsMatchValues reserved v.entries
  tied_reserving = matched_written v other 0 first reserved reserves tied

  pub world_reserving : world_of reserving ≡ record (world_of v) { cells = set (world_of v).cells other (contents_by first) }
  world_reserving = world_by v other 0 first reserved reserves (tied lone) (contents_by first) refl

  pub other_empty : IsEmptyAt (world_of v).cells other
  other_empty = found_empty v other 0 first reserved reserves (tied lone) lone refl

  pub not_all : ¬ (IsFull (world_of v).cells)
  not_all all = let some : IsSome (entry_at (world_of v).cells other) = all other None other_empty.0 in
      let none : IsSome {T = CellContents} None = subst (λ (o : Option CellContents). IsSome o) other_empty.1 some in absurd (cc)

  -- which is another one
  apart : cell ≢ other
  apart same = let some = full lone in let none = reserves.lone lone in let e = ap (cell_word_of v.member) same in omega arith

  pub word_kept : cell_word_of reserved cell ≡ cell_word_of v.member cell
  word_kept = ap (λ (y : LocalState J). cell_word_of y cell) reserves.member ∙ get_or-set_other v.member.words other cell first 0 apart

  pub standing_kept : (slot : ℕ) → standing_at (world_of reserving) slot ≡ standing_at (world_of v) slot
  standing_kept slot = ap (λ (w : World T). standing_at w slot) world_reserving

-- ---- and holds the copy
module _ {T J : Type 0} (v : LocalModel T J) (m : LocalState J) (cell other : ℕ) (did : ClonesTo cell other v.member m) where
  abbrev after : LocalModel T J
  after = record { member = m; entries = v.entries }

  abbrev made : LocalModel T J
  made = record { member = did.copied; entries = v.entries }

  abbrev reserving_one : LocalModel T J
  reserving_one = record { member = did.reserved; entries = v.entries }

  fills : WritesAt other (cell_word_of did.copied other) did.word did.copied m
  fills = record {
    member = did.filled;
    inside = subst (λ (z : Sizes). other < z.cells) (sym (came_sizes reserving_one did.copied did.copy did.copies.3
        ∙ ap (λ (y : LocalState J). y.sizes) did.reserves.member)) did.reserves.inside;
    lone = λ _. refl;
  }

  pub cloned_step : (shown : T → Gv) (holds : T → List OwnerOrCell) → IsStep shown holds v after
  cloned_step shown holds = step_then shown holds v made after (step_then shown holds v reserving_one made
      (writes_step shown holds v did.reserved other 0 did.first did.reserves)
      (came_step reserving_one did.copied shown holds did.copy did.copies.3))
      (writes_step shown holds made m other (cell_word_of did.copied other) did.word fills)

  module _ (shown : T → Gv) (holds : T → List OwnerOrCell) (tied : WordsMatchValues v.member v.entries) (lone : IsLone v.member)
      (full : IsLone v.member → 0 < cell_word_of v.member cell) where
    abbrev old : CellContents
    old = contents_of (cell_word_of v.member cell)

    lone_one : IsLone did.reserved
    lone_one = lone_reserving v cell other did.first did.reserved did.reserves tied lone full

    tied_one : WordsMatchValues did.reserved v.entries
    tied_one = tied_reserving v cell other did.first did.reserved did.reserves tied lone full

    lone_made : IsLone did.copied
    lone_made = came_lone reserving_one did.copied did.copy did.copies.3 ∙ lone_one

    tied_made : WordsMatchValues did.copied v.entries
    tied_made = (came_step reserving_one did.copied shown holds did.copy did.copies.3).tied tied_one

    holds_old : cell_with did.copy did.tag ≡ old
    holds_old = sym did.copies.1 ∙ ap contents_of (did.copies.2.found lone_one ∙ word_kept v cell other did.first did.reserved did.reserves tied lone full)

    world_filled : world_of after ≡ with_cell (world_of made) other old
    world_filled = world_written made other (cell_word_of did.copied other) did.word m fills (tied_made lone_made) did.full
        ∙ ap (with_cell (world_of made) other) (did.holds ∙ holds_old)

    world_one : world_of reserving_one ≡ record (world_of v) { cells = set (world_of v).cells other (contents_by did.first) }
    world_one = world_reserving v cell other did.first did.reserved did.reserves tied lone full

    -- what the cell held when it was reserved doesn't matter
    cells_over : set (set (world_of v).cells other (contents_by did.first)) other (Some old) ≡ set (world_of v).cells other (Some old)
    cells_over = set-set (world_of v).cells other (contents_by did.first) (Some old)

    abbrev Holds : Option ℕ → Type 0
    Holds held = MatchOption held (world_of after ≡ with_cell (world_of v) other old)
        (λ slot. (owners : ℕ) × IsSharedBy owners (standing_at (world_of v) slot) × (owners < 2 ^ 62)
        × (world_of after ≡ with_cell (with_standing (world_of v) slot (Shared (owners + 1))) other old))

    holds_by : (held : Option ℕ) → Grows reserving_one did.copied (world_of reserving_one) held → Holds held
    holds_by None a = world_filled ∙ (ap (λ (w : World T). with_cell w other old) (a ∙ world_one)
        ∙ ap (λ (cells : List (Option CellContents)). record (world_of v) { cells = cells }) cells_over)
    holds_by (Some slot) a = (
      a.0,
      subst (λ (s : Option Standing). IsSharedBy a.0 s) (standing_kept v cell other did.first did.reserved did.reserves tied lone full slot) a.1,
      a.2,
      world_filled ∙ (ap (λ (w : World T). with_cell w other old) a.3
          ∙ (ap (λ (w : World T). with_cell (with_standing w slot (Shared (a.0 + 1))) other old) world_one
          ∙ ap (λ (cells : List (Option CellContents)). record (with_standing (world_of v) slot (Shared (a.0 + 1))) { cells = cells }) cells_over)),
    )

    pub cloned_world : Holds old.held
    cloned_world = subst (λ (o : Option ℕ). Holds o) (ap (λ (c : CellContents). c.held) holds_old)
        (holds_by (slot_held did.copy) (came_world reserving_one did.copied tied_one lone_one did.copy did.copies.3))

-- ---- or is free again
module _ {T J : Type 0} (v : LocalModel T J) (m : LocalState J) (cell : ℕ) (why : Refused) (none : ClonesNone cell why v.member m) where
  abbrev still : LocalModel T J
  still = record { member = m; entries = v.entries }

  abbrev missed : LocalModel T J
  missed = record { member = none.missed; entries = v.entries }

  abbrev reserving_none : LocalModel T J
  reserving_none = record { member = none.reserved; entries = v.entries }

  frees : WritesAt none.other (cell_word_of none.missed none.other) 0 none.missed m
  frees = record {
    member = none.freed;
    inside = subst (λ (z : Sizes). none.other < z.cells) (sym (ap (λ (y : LocalState J). y.sizes) none.fails.sees.member
        ∙ ap (λ (y : LocalState J). y.sizes) none.reserves.member)) none.reserves.inside;
    lone = λ _. refl;
  }

  pub missed_step : (shown : T → Gv) (holds : T → List OwnerOrCell) → IsStep shown holds v still
  missed_step shown holds = step_then shown holds v missed still (step_then shown holds v reserving_none missed
      (writes_step shown holds v none.reserved none.other 0 none.first none.reserves)
      (sees_step shown holds reserving_none none.missed none.fails.sees))
      (writes_step shown holds missed m none.other (cell_word_of none.missed none.other) 0 frees)

  module _ (tied : WordsMatchValues v.member v.entries) (lone : IsLone v.member) (full : IsLone v.member → 0 < cell_word_of v.member cell) where
    abbrev there : CellContents
    there = contents_of (cell_word_of v.member cell)

    lone_none : IsLone none.reserved
    lone_none = lone_reserving v cell none.other none.first none.reserved none.reserves tied lone full

    tied_none : WordsMatchValues none.reserved v.entries
    tied_none = tied_reserving v cell none.other none.first none.reserved none.reserves tied lone full

    pub missed_world : world_of still ≡ world_of v
    missed_world = let w : World T = world_of v in let empty = other_empty v cell none.other none.first none.reserved none.reserves tied lone full in
        world_by missed none.other (cell_word_of none.missed none.other) 0 m frees
        (sees_tied reserving_none none.missed none.fails.sees tied_none (ap (λ (y : LocalState J). y.limits.participants) none.fails.sees.member ∙ lone_none))
        None refl
        ∙ (ap (λ (u : World T). record u { cells = set u.cells none.other None }) (sees_world reserving_none none.missed none.fails.sees
        ∙ world_reserving v cell none.other none.first none.reserved none.reserves tied lone full)
        ∙ ap (λ (cells : List (Option CellContents)). record w { cells = cells }) (set-set w.cells none.other (contents_by none.first) None
        ∙ (ap (set w.cells none.other) (sym empty.1) ∙ set-get_or w.cells none.other None)))

    -- as many own the item as may
    too_many : (slot : ℕ) → counted (word_of none.reserved slot) ≡ 1 → most_owners ≤ alive (word_of none.reserved slot)
        → IsSharedBy (2 ^ 62) (standing_at (world_of v) slot)
    too_many slot kind most = let some : 0 < alive (word_of none.reserved slot) = omega arith in
        let few = few_alive reserving_none (tied_none lone_none) slot some true kind refl in
        let all : alive (word_of none.reserved slot) ≡ 2 ^ 62 = omega arith in record {
          shared = sym (standing_kept v cell none.other none.first none.reserved none.reserves tied lone full slot)
              ∙ (stands_alive reserving_none (tied_none lone_none) slot some true kind ∙ ap (λ (n : ℕ). Some (Shared n)) all);
          some = omega arith;
          most = omega arith;
        }

    pub missed_cause : ¬ (IsFull (world_of v).cells) × (why ≡ TooManyOwners) × IsSome there.held
        × IfSome there.held (λ slot. IsSharedBy (2 ^ 62) (standing_at (world_of v) slot))
    missed_cause = ⊎_elim (λ (a : (why ≡ TooManyOwners)
        × (IsLone none.reserved → (slot : ℕ) × ((contents_of (cell_word_of none.reserved cell)).held ≡ Some slot)
        × (counted (word_of none.reserved slot) ≡ 1) × (most_owners ≤ alive (word_of none.reserved slot)))).
        let b = a.1 lone_none in let held : there.held ≡ Some b.0 = ap (λ (x : ℕ). (contents_of x).held)
        (sym (word_kept v cell none.other none.first none.reserved none.reserves tied lone full)) ∙ b.1 in (
          not_all v cell none.other none.first none.reserved none.reserves tied lone full,
          a.0,
          subst (λ (o : Option ℕ). IsSome o) (sym held) refl,
          subst (λ (o : Option ℕ). IfSome o (λ slot. IsSharedBy (2 ^ 62) (standing_at (world_of v) slot))) (sym held) (too_many b.0 b.2 b.3),
        )) (λ (c : (why ≡ Contended) × ¬ (IsLone none.reserved)). absurd (c.1 lone_none)) none.fails.cause

-- ---- for an answer
module _ {T J : Type 0} (v : LocalModel T J) (m : LocalState J) (cell : ℕ) where
  abbrev now : LocalModel T J
  now = record { member = m; entries = v.entries }

  abbrev pub Cloned : Result Right Refused → Type 0
  Cloned r = MatchResult r (λ other. ClonesTo cell (number_of other) v.member m)
      (λ e. ((m ≡ v.member) × ClaimsNone e v.member) ⊎ ClonesNone cell e v.member m)

  pub answered_step : (shown : T → Gv) (holds : T → List OwnerOrCell) (r : Result Right Refused) → Cloned r → IsStep shown holds v now
  answered_step shown holds (Ok other) a = cloned_step v m cell (number_of other) a shown holds
  answered_step shown holds (Err e) a = ⊎_elim (λ (b : (m ≡ v.member) × ClaimsNone e v.member). same_step shown holds v m b.0)
      (λ (b : ClonesNone cell e v.member m). missed_step v m cell e b shown holds) a

  module _ (shown : T → Gv) (holds : T → List OwnerOrCell) (p : LocalModel T J) (same : v ≡ p) (tied : WordsMatchValues v.member v.entries) where
    pub answered_undisturbed : (r : Result Right Refused) → Cloned r
        → Undisturbed caller_of (λ (q : LocalModel T J). q.member.own) known_of (λ (q : LocalModel T J). Shows shown holds q) p now
    answered_undisturbed r a = step_leaves shown holds v now p same (answered_step shown holds r a) tied

    module _ (inside : cell < v.member.sizes.cells) (full : IsLone v.member → 0 < cell_word_of v.member cell) where
      abbrev Exactly : LocalModel T J → Result Right Refused → Type 0
      Exactly q r = (old : CellContents) × (entry_at (world_of q).cells cell ≡ Some old) × MatchResult r
          (λ other. IsEmptyAt (world_of q).cells (number_of other) × MatchOption old.held (world_of now ≡ with_cell (world_of q) (number_of other) old)
          (λ slot. (owners : ℕ) × IsSharedBy owners (standing_at (world_of q) slot) × (owners < 2 ^ 62)
          × (world_of now ≡ with_cell (with_standing (world_of q) slot (Shared (owners + 1))) (number_of other) old)))
          (λ e. (world_of now ≡ world_of q) × (IsFull (world_of q).cells × (e ≡ NoCell) ⊎ ¬ (IsFull (world_of q).cells) × (e ≡ TooManyOwners) × IsSome old.held
          × IfSome old.held (λ slot. IsSharedBy (2 ^ 62) (standing_at (world_of q) slot))))

      exactly_there : IsLone v.member → (r : Result Right Refused) → Cloned r → Exactly v r
      exactly_there lone (Ok other) a = (
        contents_of (cell_word_of v.member cell),
        full_cell v (tied lone) cell (cell_word_of v.member cell) inside refl (full lone),
        (
          other_empty v cell (number_of other) a.first a.reserved a.reserves tied lone full,
          cloned_world v m cell (number_of other) a shown holds tied lone full,
        ),
      )
      exactly_there lone (Err e) a = (
        contents_of (cell_word_of v.member cell),
        full_cell v (tied lone) cell (cell_word_of v.member cell) inside refl (full lone),
        ⊎_elim (λ (b : (m ≡ v.member) × ClaimsNone e v.member). (
          ap (λ (y : LocalState J). world_of {T = T} (record { member = y; entries = v.entries })) b.0,
          ⊎_elim (λ (c : (e ≡ NoCell) × (IsLone v.member → AllCellsTaken v.member)). inl (cells_used_up v (c.1 lone), c.0))
              (λ (c : (e ≡ Contended) × ¬ (IsLone v.member)). absurd (c.1 lone)) b.1,
        )) (λ (b : ClonesNone cell e v.member m). (missed_world v m cell e b tied lone full, inr (missed_cause v m cell e b tied lone full))) a,
      )

      pub answered_exact : (r : Result Right Refused) → Cloned r → IsTrue (is_lone p.member) → Exactly p r
      answered_exact r a exact = subst (λ (q : LocalModel T J). Exactly q r) same
          (exactly_there (lone_begun v p same exact) r a)
