-- A job beside each place that is taken
use Rattle.std.proofs.Common.{◌≡◌, ℕ, ◌<◌, Bool, false, List, Option, None, IsSome, is_some, length, slice_index_or, slice_set, zero, suc, arith, refl, sym, ap, ◌∙◌}
use Rattle.std.specs.Prelude.{map, replicate, [], ◌∷◌}
use Rattle.std.proofs.Math.ListN.{get_or-map}
use Rattle.std.specs.Prelude.{Some, ◌++◌}
use Rattle.std.proofs.Math.Seq.{get_or-append_seam}
use Rattle.std.proofs.lemmas.List.{map-set, length-map, get_or_default}
use Rattle.sdd_participants.specs.Slab.{Entries, entry_at, IsFull}
use Rattle.sdd_participants.specs.Jobs.{AreBeside}
use Rattle.sdd_participants.proofs.EmptyPlaces.{entry-lt-length}

is-none : {X : Type 0} (o : Option X) → is_some o ≡ false → o ≡ None
is-none None h = refl
is-none (Some x) h = absurd (cc)

none-row : (X : Type 0) (n : ℕ) → map (is_some {T = X}) (replicate n None) ≡ replicate n false
none-row X zero = refl
none-row X (suc n) = ap (λ (bs : List Bool). false ∷ bs) (none-row X n)

-- where the one has something everywhere, so has the other
pub full-by : {X Y : Type 0} (xs : List (Option X)) (ys : List (Option Y)) → map is_some xs ≡ map is_some ys → IsFull ys → IsFull xs
full-by xs ys same full k d inside =
    let within : k < length ys = omega (arith, inside, ap length same, length-map xs is_some, length-map ys is_some) in
    let within_flags : k < length (map is_some ys) = omega (arith, within, length-map ys is_some) in
    sym (get_or-map is_some xs k d) ∙ ap (λ (bs : List Bool). slice_index_or bs k (is_some d)) same
    ∙ get_or_default (map is_some ys) k (is_some d) false within_flags ∙ get_or-map is_some ys k None ∙ full k None within

module _ {X : Type 0} where
  -- what is last of a list that has nothing isn't something
  pub not-last : (xs ys : List (Option X)) (x : X) → ys ≡ xs ++ Some x ∷ [] → ((k : ℕ) → slice_index_or ys k None ≡ None) → ⊥
  not-last xs ys x is nothing =
      let found : slice_index_or ys (length xs) None ≡ Some x = rw is (get_or-append_seam xs (Some x) [] None) in
      let clash = sym found ∙ nothing (length xs) in cc

  pub beside-none : (n : ℕ) (numbers : Entries (Unit {0})) (jobs : List (Option X)) → numbers ≡ replicate n None → jobs ≡ replicate n None →
      AreBeside numbers jobs
  beside-none n numbers jobs numbers_are jobs_are = rw (numbers_are, jobs_are) record { filled = none-row X n ∙ sym (none-row (Unit {0}) n) }

  -- both change at one place
  pub beside-set : (numbers : Entries (Unit {0})) (jobs : List (Option X)) (k : ℕ) (n : Option (Unit {0})) (j : Option X) → is_some j ≡ is_some n →
      AreBeside numbers jobs → AreBeside (slice_set numbers k n) (slice_set jobs k j)
  beside-set numbers jobs k n j same h = record {
    filled = map-set is_some jobs k j ∙ ap (λ (bs : List Bool). slice_set bs k (is_some j)) h.filled
        ∙ ap (λ (b : Bool). slice_set (map is_some numbers) k b) same ∙ sym (map-set is_some numbers k n);
  }

  -- a job was found exactly where a place is taken
  pub found-there : (numbers : Entries (Unit {0})) (jobs : List (Option X)) (k : ℕ) (found : Option X) → AreBeside numbers jobs → k < length jobs →
      found ≡ slice_index_or jobs k found → is_some found ≡ is_some (entry_at numbers k)
  found-there numbers jobs k found h inside is =
      ap is_some (is ∙ get_or_default jobs k found None inside) ∙ sym (get_or-map is_some jobs k None)
      ∙ ap (λ (bs : List Bool). slice_index_or bs k false) h.filled ∙ get_or-map is_some numbers k None

  -- nothing is there where no place is taken
  pub free-there : (numbers : Entries (Unit {0})) (jobs : List (Option X)) (k : ℕ) → AreBeside numbers jobs → entry_at numbers k ≡ None →
      entry_at jobs k ≡ None
  free-there numbers jobs k h free =
      let nothing : is_some (entry_at jobs k) ≡ false = sym (get_or-map is_some jobs k None) ∙ ap (λ (bs : List Bool). slice_index_or bs k false) h.filled
      ∙ get_or-map is_some numbers k None ∙ ap is_some free in
      is-none _ nothing

  pub same-length : (numbers : Entries (Unit {0})) (jobs : List (Option X)) → AreBeside numbers jobs → length jobs ≡ length numbers
  same-length numbers jobs h = omega (arith, ap length h.filled, length-map numbers is_some, length-map jobs is_some)

  -- what was found at a place that isn't taken is nothing
  pub nothing-found : (numbers : Entries (Unit {0})) (jobs : List (Option X)) (k : ℕ) (found : Option X) (x : X) → AreBeside numbers jobs →
      k < length numbers → entry_at numbers k ≡ None → found ≡ slice_index_or jobs k found → found ≡ Some x → ⊥
  nothing-found numbers jobs k found x h inside free is found_is =
      let within : k < length jobs = omega (arith, inside, same-length numbers jobs h) in
      let clash = sym found_is ∙ is ∙ get_or_default jobs k found None within ∙ free-there numbers jobs k h free in cc

  pub some-beside : (numbers : Entries (Unit {0})) (jobs : List (Option X)) (k : ℕ) → AreBeside numbers jobs → IsSome (entry_at jobs k) →
      IsSome (entry_at numbers k)
  some-beside numbers jobs k h some =
      sym (get_or-map is_some numbers k None) ∙ ap (λ (bs : List Bool). slice_index_or bs k false) (sym h.filled) ∙ get_or-map is_some jobs k None ∙ some
