-- What a call that gives something up leaves of cells and values: each is as it was, or gone
use Rattle.std.proofs.Common.{◌≡◌, ◌⊎◌, inl, inr, ℕ, ◌≤◌, Bool, true, false, List, [], ◌∷◌, Option, Some, None, cond, slice_index_or, slice_set, sum_by, suc, refl, ap, ◌∙◌, arith}
use Rattle.std.specs.Prelude.{if◌then◌else◌}
use Rattle.std.proofs.lemmas.List.{get_or-set_other}
use Rattle.std.proofs.lemmas.List.Sums.{sum_by-cons}
use Rattle.sdd_participants.proofs.Adoptions.{same-or-not, none-there}
use Rattle.sdd_participants.specs.Slab.{entry_at}
use Rattle.sdd_participants.specs.EpochState as time
use Rattle.sdd_participants.specs.declared.standing.CellContents.{CellContents}
use Rattle.sdd_participants.specs.declared.standing.Standing.{Standing}
use Rattle.sdd_participants.specs.declared.waiting.LimboEntry.{LimboEntry}
use Rattle.sdd_participants.specs.declared.waiting.LimboEntry.TheVariants.{Item, Job}
use Rattle.sdd_world_model.specs.OwnerCounts.{holds_slot, times_held}
use Rattle.sdd_world_model.specs.Collecting.{collector_closed, waiting_for, without_collector}
use Rattle.sdd_world_model.specs.OwnerOrCell.{OwnerOrCell, owned, shared, atomic_owned, atomic_shared, atomic_raw}
use Rattle.sdd_world_model.specs.Ledger.{Claim, owner_of, right_to, inside, times_kept}
use Rattle.sdd_world_model.specs.WorldChanges as steps
use Rattle.sdd_world_model.specs.WorldChanges.{owner_given, without_cell, cell_closed, given, given_all, freed, vacated, taken_out, dropped_out, dropped, waiting_value, reclaimed, all_reclaimed, changed, caught_up, opened, held_in}
use Rattle.sdd_world_model.specs.World.{World, place_at, standing_at, value_at}
use Rattle.sdd_world_model.proofs.CellRights.{given-same, spilled-same}

-- each entry is as it was, or gone
abbrev pub Thins : {E : Type 0} → List (Option E) → List (Option E) → Type 0
Thins xs ys = (k : ℕ) → (slice_index_or ys k None ≡ slice_index_or xs k None) ⊎ (slice_index_or ys k None ≡ None)

module _ {E : Type 0} where
  thins-same : (xs ys : List (Option E)) → ys ≡ xs → Thins xs ys
  thins-same xs ys e k = inl (ap (λ (zs : List (Option E)). slice_index_or zs k None) e)

  thins-on : (xs ys zs : List (Option E)) → Thins xs ys → Thins ys zs → Thins xs zs
  thins-on xs ys zs a b k = elim (b k) [
    | inl same ↦ elim (a k) [ inl was ↦ inl (same ∙ was) | inr gone ↦ inr (same ∙ gone) ]
    | inr gone ↦ inr gone
  ]

  thins-out : (xs : List (Option E)) (j : ℕ) → Thins xs (slice_set xs j None)
  thins-out xs j k = elim (same-or-not k j) [
    | inl e ↦ inr (rw e (none-there xs j))
    | inr apart ↦ inl (get_or-set_other xs j k None None apart)
  ]

  thins-none : (f : Option E → ℕ) → f None ≡ 0 → (xs : List (Option E)) → Thins [] xs → sum_by f xs ≡ 0
  thins-none f none [] t = refl
  thins-none f none (x ∷ xs) t =
      let here : x ≡ None = elim (t 0) [ inl e ↦ e | inr e ↦ e ] in
      omega (arith, ap f here, none, sum_by-cons f x xs, thins-none f none xs (λ k. t (suc k)))

  -- what is gone counts no more
  thins-sum : (f : Option E → ℕ) → f None ≡ 0 → (xs ys : List (Option E)) → Thins xs ys → sum_by f ys ≤ sum_by f xs
  thins-sum f none [] ys t = omega (arith, thins-none f none ys t)
  thins-sum f none (x ∷ xs) [] t = omega arith
  thins-sum f none (x ∷ xs) (y ∷ ys) t =
      let here : f y ≤ f x = elim (t 0) [ inl e ↦ omega (arith, ap f e) | inr e ↦ omega (arith, ap f e, none) ] in
      omega (arith, here, sum_by-cons f x xs, sum_by-cons f y ys, thins-sum f none xs ys (λ k. t (suc k)))

pub record Sheds {T : Type 0} (u v : World T) : Type 0 where
  pub cells : Thins u.cells v.cells
  pub values : Thins u.values v.values

module _ {T : Type 0} where
  pub sheds-same : (u v : World T) → v.values ≡ u.values → v.cells ≡ u.cells → Sheds u v
  sheds-same u v values cells = record { cells = thins-same u.cells v.cells cells; values = thins-same u.values v.values values }

  sheds-on : (u v w : World T) → Sheds u v → Sheds v w → Sheds u w
  sheds-on u v w a b = record {
    cells = thins-on u.cells v.cells w.cells a.cells b.cells;
    values = thins-on u.values v.values w.values a.values b.values;
  }

  pub sheds-cell : (w : World T) (c : ℕ) → Sheds w (without_cell w c)
  sheds-cell w c = record { cells = thins-out w.cells c; values = thins-same w.values w.values refl }

  sheds-value : (w : World T) (k : ℕ) → Sheds w (freed w k)
  sheds-value w k = record { cells = thins-same w.cells w.cells refl; values = thins-out w.values k }

  pub sheds-owner_given : (w : World T) (p k : ℕ) (s : Option Standing) → standing_at w k ≡ s → Sheds w (owner_given w p k s)
  sheds-owner_given w p k s is = let same = given-same w p k s is in sheds-same w (owner_given w p k s) same.0 same.1

  pub sheds-cell_closed : (w : World T) (p c : ℕ) → Sheds w (cell_closed w p c)
  sheds-cell_closed w p c =
      let same = spilled-same (without_cell w c) p (held_in (entry_at w.cells c)) in
      sheds-on w (without_cell w c) (cell_closed w p c) (sheds-cell w c) (sheds-same (without_cell w c) (cell_closed w p c) same.0 same.1)

  sheds-given : (w : World T) (p : ℕ) (h : OwnerOrCell) → Sheds w (given w p h)
  sheds-given w p (owned k home) = sheds-owner_given w p k (standing_at w k) refl
  sheds-given w p (shared k home) = sheds-owner_given w p k (standing_at w k) refl
  sheds-given w p (atomic_owned c home) = sheds-cell_closed w p c
  sheds-given w p (atomic_shared c home) = sheds-cell_closed w p c
  sheds-given w p (atomic_raw c home) = sheds-cell_closed w p c

  sheds-given_all : (w : World T) (p : ℕ) (hs : List OwnerOrCell) → Sheds w (given_all w p hs)
  sheds-given_all w p [] = sheds-same w w refl refl
  sheds-given_all w p (h ∷ hs) =
      sheds-on w (given w p h) (given_all (given w p h) p hs) (sheds-given w p h) (sheds-given_all (given w p h) p hs)

  module _ (holds : T → List OwnerOrCell) (p : ℕ) where
    sheds-taken_out : (w : World T) (k : ℕ) (v : Option T) → Sheds w (taken_out holds w p k v)
    sheds-taken_out w k None = sheds-same w w refl refl
    sheds-taken_out w k (Some v) =
        sheds-on w (freed w k) (given_all (freed w k) p (holds v)) (sheds-value w k) (sheds-given_all (freed w k) p (holds v))

    sheds-dropped_out : (w : World T) (k : ℕ) (v : Option T) → Sheds w (dropped_out holds w p k v)
    sheds-dropped_out w k None = sheds-same w w refl refl
    sheds-dropped_out w k (Some v) =
        let vacant : Sheds w (vacated w k) = record { cells = thins-same w.cells w.cells refl; values = thins-out w.values k } in
        sheds-on w (vacated w k) (given_all (vacated w k) p (holds v)) vacant (sheds-given_all (vacated w k) p (holds v))

    pub sheds-dropped : (w : World T) (k : ℕ) → Sheds w (dropped holds w p k)
    sheds-dropped w k = sheds-dropped_out w k (value_at w k)

    sheds-reclaimed : (w : World T) (x : LimboEntry) → Sheds w (reclaimed holds w p x)
    sheds-reclaimed w (Item k) = sheds-taken_out w k (waiting_value w k (standing_at w k))
    sheds-reclaimed w (Job j) = sheds-same w (reclaimed holds w p (Job j)) refl refl

    sheds-all_reclaimed : (w : World T) (xs : List LimboEntry) → Sheds w (all_reclaimed holds w p xs)
    sheds-all_reclaimed w [] = sheds-same w w refl refl
    sheds-all_reclaimed w (x ∷ xs) =
        sheds-on w (reclaimed holds w p x) (all_reclaimed holds (reclaimed holds w p x) p xs) (sheds-reclaimed w x)
        (sheds-all_reclaimed (reclaimed holds w p x) xs)

    either : (b : Bool) (w u v : World T) → Sheds w u → Sheds w v → Sheds w (if b then u else v)
    either true w u v a c = a
    either false w u v a c = c

    pub sheds-opened : (w : World T) → Sheds w (opened holds w p)
    sheds-opened w =
        let u = steps.nested w p in
        let all = sheds-all_reclaimed (steps.rotated u p) (time.due_next (place_at u p)) in
        either (time.is_open (place_at w p)) w u (caught_up holds u p) (sheds-same w u refl refl)
        (either (time.finds_another u.time p) w (changed holds u p) u (record { cells = all.cells; values = all.values }) (sheds-same w u refl refl))

    pub sheds-collector_closed : (w : World T) (c : ℕ) → Sheds w (collector_closed holds w p c)
    sheds-collector_closed w c =
        let u = without_collector w c in
        sheds-on w u (collector_closed holds w p c) (record { cells = thins-out w.cells c; values = thins-same w.values w.values refl })
        (sheds-all_reclaimed u (waiting_for w c))

  -- nothing comes inside
  module _ (holds : T → List OwnerOrCell) where
    pub sheds-inside : (u v : World T) → Sheds u v → (x : Claim) → inside holds v x ≤ inside holds u x
    sheds-inside u v s (owner_of k) =
        omega (
          arith,
          thins-sum (λ (x : Option CellContents). cond (holds_slot k x) 1 0) refl u.cells v.cells s.cells,
          thins-sum (times_held holds k) refl u.values v.values s.values,
        )
    sheds-inside u v s (right_to c) = thins-sum (times_kept holds c) refl u.values v.values s.values
