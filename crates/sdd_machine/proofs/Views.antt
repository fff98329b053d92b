-- The state that the fields of a machine are seen as.
use Rattle.std.proofs.Common.{◌≡◌, ℕ, ◌<◌, Bool, true, false, cond, List, [], ◌∷◌, length, get_or, set, zero, suc, refl, sym, ap, subst, ◌∙◌, arith}
use Rattle.std.proofs.lemmas.Bool.{false≢true, true≢false, and_parts}
use Rattle.sdd_machine.specs.declared.machine.places.PlacePhase.{PlacePhase}
use Rattle.sdd_machine.specs.declared.machine.places.Phase.{Phase}
use Rattle.sdd_machine.specs.declared.machine.places.Phase.TheVariants.{Free}
use Rattle.sdd_machine.specs.Bags.{ThreeBags, BagsOfPlaces, no_items, trio_at}
use Rattle.std.proofs.Common.{Option, Some, None, ltb}
use Rattle.std.proofs.lemmas.Bool.{ltb-true, ltb-false}
use Rattle.std.proofs.lemmas.List.{get_or_read, get_or_past}
use Rattle.sdd_machine.specs.declared.machine.places.Scan.{Scan}
use Rattle.sdd_machine.specs.Table.{Place, State, free_place, place_at, with_place}
use Rattle.std.proofs.Common.{◌||◌, get_or-set_same, get_or-set_other, eqb, map, ◌⊎◌, ⊎_elim, inl, inr}
use Rattle.std.proofs.lemmas.Bool.{eqb-true, or_cases, or_left, or_right}
use Rattle.std.proofs.lemmas.List.{length-set, set-set}
use Rattle.std.specs.Ordering.{nat_cmp}
use Rattle.std.specs.FinSet as set
use Rattle.sdd_machine.specs.declared.machine.steps.Step.TheVariants.{Retire, Adopt}
use Rattle.sdd_machine.specs.declared.machine.places.Phase.TheVariants.{Open}
use Rattle.sdd_machine.specs.Bags.{has, put, all_of}
use Rattle.sdd_machine.specs.Bags as bags
use Rattle.std.proofs.Common.{not}
use Rattle.std.specs.Prelude.{if◌then◌else◌}
use Rattle.std.proofs.lemmas.Bool.{ne_eqb, eq-eqb}
use Rattle.sdd_machine.specs.Table.{holds, adopts, is_free, published, posted, rotated, finds_another, read_of, taken_out, is_reading, Items, after, retiring, is_ended, is_open, freed, left, taking}
use Rattle.sdd_machine.proofs.Places.{at_place, place-freed, open_is, reading_is, in_range}
use Rattle.sdd_machine.proofs.WaitingItems.{contains-put}
use Rattle.sdd_machine.specs.Views.{free_post, place_of, places_of, IsMachineState, freed_post, emptied, left_in, gathered, IsHeldOpen, IsHeld}

pub place-seen : (xs : List PlacePhase) (ts : List ThreeBags) (p : ℕ) → length ts ≡ length xs →
    get_or (places_of xs ts) p free_place ≡ place_of (get_or xs p free_post) (get_or ts p no_items)
place-seen [] [] p e = refl
place-seen [] (t ∷ ts) p e = absurd (omega arith)
place-seen (x ∷ xs) [] p e = absurd (omega arith)
place-seen (x ∷ xs) (t ∷ ts) zero e = refl
place-seen (x ∷ xs) (t ∷ ts) (suc p) e = place-seen xs ts p (omega arith)

pub length-seen : (xs : List PlacePhase) (ts : List ThreeBags) → length ts ≡ length xs → length (places_of xs ts) ≡ length xs
length-seen [] ts e = refl
length-seen (x ∷ xs) [] e = e
length-seen (x ∷ xs) (t ∷ ts) e = ap suc (length-seen xs ts (omega arith))

pub post-written : (xs : List PlacePhase) (ts : List ThreeBags) (p : ℕ) (x : PlacePhase) →
    places_of (set xs p x) ts ≡ set (places_of xs ts) p (place_of x (get_or ts p no_items))
post-written [] ts p x = refl
post-written (y ∷ xs) [] zero x = refl
post-written (y ∷ xs) [] (suc p) x = refl
post-written (y ∷ xs) (t ∷ ts) zero x = refl
post-written (y ∷ xs) (t ∷ ts) (suc p) x = ap (λ (ps : List Place). place_of y t ∷ ps) (post-written xs ts p x)

pub trio-written : (xs : List PlacePhase) (ts : List ThreeBags) (p : ℕ) (t : ThreeBags) →
    places_of xs (set ts p t) ≡ set (places_of xs ts) p (place_of (get_or xs p free_post) t)
trio-written [] ts p t = refl
trio-written (y ∷ xs) [] p t = refl
trio-written (y ∷ xs) (u ∷ ts) zero t = refl
trio-written (y ∷ xs) (u ∷ ts) (suc p) t = ap (λ (ps : List Place). place_of y u ∷ ps) (trio-written xs ts p t)

-- the state of these fields
abbrev pub seen : ℕ → List PlacePhase → List ThreeBags → List Bool → Option Scan → State
seen c xs ts rs x = record { count = c; places = places_of xs ts; retired = rs; scan = x }

pub at_seen : (v : State) (c : ℕ) (xs : List PlacePhase) (ts : List ThreeBags) (rs : List Bool) (x : Option Scan) → seen c xs ts rs x ≡ v →
    length ts ≡ length xs → (p : ℕ) →
    place_at v p ≡ place_of (get_or xs p free_post) (get_or ts p no_items)
at_seen v c xs ts rs x e same p = ap (λ (s : State). place_at s p) (sym e) ∙ place-seen xs ts p same

pub within_seen : (v : State) (c : ℕ) (xs : List PlacePhase) (ts : List ThreeBags) (rs : List Bool) (x : Option Scan) → seen c xs ts rs x ≡ v →
    length ts ≡ length xs → (p : ℕ) → p < length v.places → p < length xs
within_seen v c xs ts rs x e same p h =
    let l : length v.places ≡ length xs = ap (λ (s : State). length s.places) (sym e) ∙ length-seen xs ts same in omega arith

pub read_post : (xs ys : List PlacePhase) (p : ℕ) (x : PlacePhase) → ys ≡ xs → true ≡ ltb p (length ys) → x ≡ get_or ys p x → x ≡ get_or xs p free_post
read_post xs ys p x e lt is = get_or_read ys p x (ltb-true p (length ys) (sym lt)) is free_post ∙ ap (λ (k : List PlacePhase). get_or k p free_post) e

pub no_post : (xs ys : List PlacePhase) (p : ℕ) → ys ≡ xs → false ≡ ltb p (length ys) → free_post ≡ get_or xs p free_post
no_post xs ys p e lt = sym (get_or_past ys p free_post (ltb-false p (length ys) (sym lt))) ∙ ap (λ (k : List PlacePhase). get_or k p free_post) e

-- a write to a place's post
pub with_post : (v : State) (c : ℕ) (xs : List PlacePhase) (ts : List ThreeBags) (rs : List Bool) (x : Option Scan) (p : ℕ) (y : PlacePhase)
    (f : Place → Place) →
    seen c xs ts rs x ≡ v → length ts ≡ length xs → f (place_of (get_or xs p free_post) (get_or ts p no_items)) ≡ place_of y (get_or ts p no_items) →
    seen c (set xs p y) ts rs x ≡ with_place v p f
with_post v c xs ts rs x p y f e same g =
    ap (λ (ps : List Place). record { count = c; places = ps; retired = rs; scan = x })
    (post-written xs ts p y ∙ ap (λ (z : Place). set (places_of xs ts) p z) (sym g ∙ ap f (sym (place-seen xs ts p same))))
    ∙ ap (λ (s : State). with_place s p f) e

-- a write to a place's bags
pub with_trio : (v : State) (c : ℕ) (xs : List PlacePhase) (ts : List ThreeBags) (rs : List Bool) (x : Option Scan) (p : ℕ) (t : ThreeBags)
    (f : Place → Place) →
    seen c xs ts rs x ≡ v → length ts ≡ length xs → f (place_of (get_or xs p free_post) (get_or ts p no_items)) ≡ place_of (get_or xs p free_post) t →
    seen c xs (set ts p t) rs x ≡ with_place v p f
with_trio v c xs ts rs x p t f e same g =
    ap (λ (ps : List Place). record { count = c; places = ps; retired = rs; scan = x })
    (trio-written xs ts p t ∙ ap (λ (z : Place). set (places_of xs ts) p z) (sym g ∙ ap f (sym (place-seen xs ts p same))))
    ∙ ap (λ (s : State). with_place s p f) e

pub within_bags : (v : State) (c : ℕ) (xs : List PlacePhase) (ts : List ThreeBags) (rs : List Bool) (x : Option Scan) → seen c xs ts rs x ≡ v →
    length ts ≡ length xs → (p : ℕ) → p < length v.places → p < length ts
within_bags v c xs ts rs x e same p h = let l : p < length xs = within_seen v c xs ts rs x e same p h in omega arith

has_rotated : (t : ThreeBags) (i : ℕ) → has (bags.rotated t) i ≡ true → has t i ≡ true
has_rotated t i h =
    ⊎_elim
    (λ a. ⊎_elim (λ none. absurd (false≢true (sym (set.contains-empty nat_cmp i) ∙ none)))
    (λ b. or_left (set.contains t.current i || set.contains t.prev i) _ (or_left (set.contains t.current i) (set.contains t.prev i) b))
    (or_cases (set.contains (set.empty {R = nat_cmp}) i) (set.contains t.current i) a))
    (λ b. or_left (set.contains t.current i || set.contains t.prev i) (set.contains t.next i) (or_right (set.contains t.current i) (set.contains t.prev i) b))
    (or_cases (set.contains (set.empty {R = nat_cmp}) i || set.contains t.current i) (set.contains t.prev i) h)

fits_set : (xs : List PlacePhase) (b : BagsOfPlaces) (rs : List Bool) (o : Option Scan) (p : ℕ) (u : ThreeBags) → IsMachineState xs b rs o
    → p < length b.trios →
    (is_free (get_or xs p free_post).phase ≡ true → u ≡ no_items) →
    ((i : ℕ) → has u i ≡ true → get_or rs i false ≡ true) → IsMachineState xs (record b { trios = set b.trios p u }) rs o
fits_set xs b rs o p u f l g h = record {
  held = f.held;
  free = λ q. at_place p q (λ t. is_free (get_or xs q free_post).phase ≡ true → get_or (set b.trios p u) q no_items ≡ no_items)
      (λ e is. subst (λ (j : ℕ). is_free (get_or xs j free_post).phase ≡ true → get_or (set b.trios p u) j no_items ≡ no_items) e
      (λ w. get_or-set_same b.trios p u no_items l ∙ g w) is)
      (λ ne is. get_or-set_other b.trios p q u no_items (λ e. ne (sym e)) ∙ f.free q is);
  few = f.few;
  room = f.room;
  same = length-set b.trios p u ∙ f.same;
  waits = λ q i. at_place p q (λ t. has (get_or (set b.trios p u) q no_items) i ≡ true → get_or rs i false ≡ true)
      (λ e g. h i (subst (λ (k : ThreeBags). has k i ≡ true)
      (subst (λ (j : ℕ). get_or (set b.trios p u) j no_items ≡ u) e (get_or-set_same b.trios p u no_items l)) g))
      (λ ne g. f.waits q i (subst (λ (k : ThreeBags). has k i ≡ true) (get_or-set_other b.trios p q u no_items (λ e. ne (sym e))) g));
}

pub fits_rotated : (xs : List PlacePhase) (b : BagsOfPlaces) (rs : List Bool) (o : Option Scan) (p : ℕ) → IsMachineState xs b rs o → p < length b.trios →
    IsMachineState xs (record b { trios = set b.trios p (bags.rotated (get_or b.trios p no_items)) }) rs o
fits_rotated xs b rs o p f l =
    fits_set xs b rs o p (bags.rotated (get_or b.trios p no_items)) f l
    (λ is. ap bags.rotated (f.free p is)) (λ i h. f.waits p i (has_rotated (get_or b.trios p no_items) i h))

has_put : (t : ThreeBags) (i j : ℕ) → has (put i t) j ≡ true → (i ≡ j) ⊎ (has t j ≡ true)
has_put t i j h =
    ⊎_elim
    (λ a. ⊎_elim
    (λ c. ⊎_elim (λ e. inl (sym (eqb-true j i e))) (λ b. inr (or_left _ _ (or_left _ _ b)))
    (or_cases (eqb j i) (set.contains t.current j) (sym (contains-put t.current i j) ∙ c)))
    (λ b. inr (or_left _ _ (or_right _ _ b)))
    (or_cases (set.contains (set.insert t.current i) j) (set.contains t.prev j) a))
    (λ b. inr (or_right _ _ b))
    (or_cases (set.contains (set.insert t.current i) j || set.contains t.prev j) (set.contains t.next j) h)

retired_more : (rs : List Bool) (i j : ℕ) → i < length rs → (i ≡ j) ⊎ (get_or rs j false ≡ true) → get_or (set rs i true) j false ≡ true
retired_more rs i j l h =
    at_place i j (λ t. get_or (set rs i true) j false ≡ true)
    (λ e. subst (λ (k : ℕ). get_or (set rs i true) k false ≡ true) e (get_or-set_same rs i true false l))
    (λ ne. get_or-set_other rs i j true false (λ e. ne (sym e)) ∙ ⊎_elim (λ e. absurd (ne e)) (λ g. g) h)

pub fits_put : (xs : List PlacePhase) (b : BagsOfPlaces) (rs : List Bool) (o : Option Scan) (p i : ℕ) → IsMachineState xs b rs o → p < length b.trios →
    is_free (get_or xs p free_post).phase ≡ false → i < length rs →
    IsMachineState xs (record b { trios = set b.trios p (put i (get_or b.trios p no_items)) }) (set rs i true) o
fits_put xs b rs o p i f l busy m =
    let g : IsMachineState xs b (set rs i true) o =
    record {
      held = f.held;
      free = f.free;
      few = f.few;
      same = f.same;
      room =
          f.room ∙ sym (length-set rs i true);
      waits = λ q j h. retired_more rs i j m (inr (f.waits q j h));
    } in
    fits_set xs b (set rs i true) o p (put i (get_or b.trios p no_items)) g l (λ is. absurd (true≢false (sym is ∙ busy)))
    (λ j h. retired_more rs i j m (⊎_elim (λ e. inl e) (λ o. inr (f.waits p j o)) (has_put (get_or b.trios p no_items) i j h)))

pub with_put : (v : State) (c : ℕ) (xs : List PlacePhase) (ts : List ThreeBags) (rs : List Bool) (x : Option Scan) (p i : ℕ) → seen c xs ts rs x ≡ v →
    length ts ≡ length xs →
    seen c xs (set ts p (put i (get_or ts p no_items))) (set rs i true) x ≡ after v (Retire p i)
with_put v c xs ts rs x p i e same =
    ap (λ (s : State). record { count = s.count; places = s.places; retired = set s.retired i true; scan = s.scan })
    (with_trio v c xs ts rs x p (put i (get_or ts p no_items)) (retiring i) e same refl)

-- two changes of one place are one
pub with_place_twice : (v : State) (p : ℕ) (f g : Place → Place) → p < length v.places → with_place (with_place v p f) p g ≡ with_place v p (λ x. g (f x))
with_place_twice v p f g l =
    ap (λ (ps : List Place). record { count = v.count; places = ps; retired = v.retired; scan = v.scan })
    (ap (λ (y : Place). set (set v.places p (f (place_at v p))) p (g y)) (get_or-set_same v.places p (f (place_at v p)) free_place l)
    ∙ set-set v.places p (f (place_at v p)) (g (f (place_at v p))))

-- adopting
places_freed : (xs : List PlacePhase) (ts : List ThreeBags) → places_of (map freed_post xs) (emptied xs ts) ≡ map freed (places_of xs ts)
places_freed [] ts = refl
places_freed (x ∷ xs) [] = refl
places_freed (x ∷ xs) (t ∷ ts) =
    let rest = places_freed xs ts in
    let first : place_of (freed_post x) (cond (is_ended x.phase) no_items t) ≡ freed (place_of x t) =
    elim (is_ended x.phase) as (λ e. place_of (record { phase = cond e Free x.phase; found = x.found }) (cond e no_items t)
    ≡ cond e (record free_place { found = x.found }) (place_of x t)) [ true ↦ refl | false ↦ refl ] in
    cc

left_seen : (xs : List PlacePhase) (ts : List ThreeBags) → left (places_of xs ts) ≡ left_in xs ts
left_seen [] ts = refl
left_seen (x ∷ xs) [] = refl
left_seen (x ∷ xs) (t ∷ ts) = ap (λ (l : Items). cond (is_ended x.phase) (set.union (all_of t) l) l) (left_seen xs ts)

pub post_freed : (xs : List PlacePhase) (p : ℕ) → get_or (map freed_post xs) p free_post ≡ freed_post (get_or xs p free_post)
post_freed [] p = refl
post_freed (x ∷ xs) zero = refl
post_freed (x ∷ xs) (suc p) = post_freed xs p

taken_here : (y : PlacePhase) (t : ThreeBags) (l : Items) → is_ended y.phase ≡ false →
    place_of (freed_post y) (record { current = set.union t.current l; prev = t.prev; next = t.next }) ≡ taking l (freed (place_of y t))
taken_here y t l e =
    let taken : ThreeBags = record { current = set.union t.current l; prev = t.prev; next = t.next } in
    let P : Bool → Type 0 = λ b. place_of (record { phase = cond b Free y.phase; found = y.found }) taken
    ≡ taking l (cond b (record free_place { found = y.found }) (place_of y t)) in
    subst P (sym e) refl

pub with_adopted : (v : State) (c : ℕ) (xs : List PlacePhase) (ts : List ThreeBags) (rs : List Bool) (x : Option Scan) (p : ℕ) → seen c xs ts rs x ≡ v →
    length ts ≡ length xs → is_open (place_at v p).phase ≡ true →
    seen c (map freed_post xs) (gathered p xs ts) rs x ≡ after v (Adopt p)
with_adopted v c xs ts rs x p e same op =
    let t = get_or ts p no_items in
    let u : ThreeBags = record { current = set.union t.current (left_in xs ts); prev = t.prev; next = t.next } in
    let open_post : is_open (get_or xs p free_post).phase ≡ true = sym (ap (λ (y : Place). is_open y.phase) (at_seen v c xs ts rs x e same p)) ∙ op in
    let not_ended : is_ended (get_or xs p free_post).phase ≡ false = ap is_ended (open_is _ open_post) in
    let here : place_of (get_or (map freed_post xs) p free_post) u ≡ taking (left (places_of xs ts)) (get_or (map freed (places_of xs ts)) p free_place) =
    ap (λ (y : PlacePhase). place_of y u) (post_freed xs p)
    ∙ (taken_here (get_or xs p free_post) t (left_in xs ts) not_ended
    ∙ (ap (λ (l : Items). taking l (freed (place_of (get_or xs p free_post) t))) (sym (left_seen xs ts))
    ∙ ap (λ (y : Place). taking (left (places_of xs ts)) y) (sym (place-freed (places_of xs ts) p ∙ ap freed (place-seen xs ts p same))))) in
    ap (λ (ps : List Place). record { count = c; places = ps; retired = rs; scan = x })
    (trio-written (map freed_post xs) (emptied xs ts) p u
    ∙ (ap (λ (ps : List Place). set ps p (place_of (get_or (map freed_post xs) p free_post) u)) (places_freed xs ts)
    ∙ ap (λ (y : Place). set (map freed (places_of xs ts)) p y) here))
    ∙ ap (λ (s : State). after s (Adopt p)) e

as_published : (x : Place) (c : ℕ) → c ≡ read_of x.phase → finds_another x ≡ true → rotated (posted Open c x) ≡ published x
as_published x c e moves =
    let P : Bool → Type 0 = λ b. rotated (posted Open c x) ≡ posted Open c (cond b (rotated x) x) in
    subst P (sym moves) refl ∙ ap (λ (k : ℕ). posted Open k (cond (finds_another x) (rotated x) x)) e

pub with_published : (v : State) (p c f : ℕ) → is_reading (place_at v p).phase ≡ true → c ≡ read_of (place_at v p).phase →
    f ≡ (place_at v p).found → (c ≡ f → ⊥) →
    with_place (with_place v p (posted Open c)) p rotated ≡ with_place v p published
with_published v p c f can e g ne =
    let x = place_at v p in
    let moves : finds_another x ≡ true = ap not (ne_eqb (read_of x.phase) x.found (λ s. ne (e ∙ (s ∙ sym g)))) in
    with_place_twice v p (posted Open c) rotated (in_range v.places p (ap is_free (reading_is _ can).1))
    ∙ ap (λ (y : Place). record { count = v.count; places = set v.places p y; retired = v.retired; scan = v.scan }) (as_published x c e moves)

pub none_taken : (x : Place) (c f : ℕ) → c ≡ read_of x.phase → f ≡ x.found → c ≡ f → 0 ≡ set.len (taken_out x)
none_taken x c f e g same =
    let stays : finds_another x ≡ false = ap not (eq-eqb (read_of x.phase) x.found (sym e ∙ (same ∙ g))) in
    sym (ap (λ (b : Bool). set.len (if b then x.next else set.empty)) stays ∙ set.len-empty nat_cmp)

-- the holder of the lock, as fields and as a state
pub held_seen : (v : State) (c : ℕ) (xs : List PlacePhase) (ts : List ThreeBags) (rs : List Bool) (x : Option Scan) (o : Option Scan) →
    seen c xs ts rs x ≡ v → length ts ≡ length xs → IsHeldOpen xs o → IsHeld v o
held_seen v c xs ts rs x None e same h = tt
held_seen v c xs ts rs x (Some y) e same h = ap (λ (z : Place). is_open z.phase) (at_seen v c xs ts rs x e same y.holder) ∙ h

pub seen_held : (v : State) (c : ℕ) (xs : List PlacePhase) (ts : List ThreeBags) (rs : List Bool) (x : Option Scan) (o : Option Scan) →
    seen c xs ts rs x ≡ v → length ts ≡ length xs → IsHeld v o → IsHeldOpen xs o
seen_held v c xs ts rs x None e same h = tt
seen_held v c xs ts rs x (Some y) e same h = sym (ap (λ (z : Place). is_open z.phase) (at_seen v c xs ts rs x e same y.holder)) ∙ h

pub held_freed : (xs : List PlacePhase) (o : Option Scan) → IsHeldOpen xs o → IsHeldOpen (map freed_post xs) o
held_freed xs None h = tt
held_freed xs (Some x) h =
    ap (λ (y : PlacePhase). is_open y.phase) (post_freed xs x.holder)
    ∙ subst (λ (k : Phase). is_open (cond (is_ended k) Free k) ≡ true) (sym (open_is _ h)) refl

-- who adopts is open
pub adopter_open : (xs : List PlacePhase) (o : Option Scan) (p : ℕ) → IsHeldOpen xs o → adopts p o ≡ true → is_open (get_or xs p free_post).phase ≡ true
adopter_open xs None p h a = absurd (false≢true a)
adopter_open xs (Some x) p h a = subst (λ (k : ℕ). is_open (get_or xs k free_post).phase ≡ true) (eqb-true x.holder p (and_parts _ _ a).0) h

pub open_in_range : (xs : List PlacePhase) (p : ℕ) → is_open (get_or xs p free_post).phase ≡ true → p < length xs
open_in_range [] p h = absurd (false≢true h)
open_in_range (x ∷ xs) zero h = omega arith
open_in_range (x ∷ xs) (suc p) h = let l = open_in_range xs p h in omega arith

-- a write to the post of one who doesn't hold the lock
held_written : (xs : List PlacePhase) (o : Option Scan) (p : ℕ) (y : PlacePhase) → IsHeldOpen xs o →
    (holds p o ≡ true → is_open (get_or xs p free_post).phase ≡ false) → IsHeldOpen (set xs p y) o
held_written xs None p y h other = tt
held_written xs (Some x) p y h other =
    ap (λ (z : PlacePhase). is_open z.phase)
    (get_or-set_other xs p x.holder y free_post
    (λ e. true≢false (sym h ∙ subst (λ (k : ℕ). is_open (get_or xs k free_post).phase ≡ false) (sym e) (other (eq-eqb x.holder p e)))))
    ∙ h

pub fits_written : (v : State) (c : ℕ) (xs : List PlacePhase) (b : BagsOfPlaces) (rs : List Bool) (o : Option Scan) (p : ℕ) (y : PlacePhase) →
    seen c xs b.trios rs o ≡ v → IsMachineState xs b rs o →
    (holds p v.scan ≡ true → is_open (place_at v p).phase ≡ false) → p < length xs → is_free y.phase ≡ false → IsMachineState (set xs p y) b rs o
fits_written v c xs b rs o p y e f other l busy = record {
  free = λ q. at_place p q (λ t. is_free (get_or (set xs p y) q free_post).phase ≡ true → trio_at b.trios q ≡ no_items)
      (λ s is. absurd (true≢false (sym (subst (λ (j : ℕ). is_free (get_or (set xs p y) j free_post).phase ≡ true) (sym s) is)
      ∙ (ap (λ (z : PlacePhase). is_free z.phase) (get_or-set_same xs p y free_post l) ∙ busy))))
      (λ ne is. f.free q (sym (ap (λ (z : PlacePhase). is_free z.phase) (get_or-set_other xs p q y free_post (λ s. ne (sym s)))) ∙ is));
  held = held_written xs o p y f.held
      (λ h. sym (ap (λ (z : Place). is_open z.phase) (at_seen v c xs b.trios rs o e f.same p)) ∙ other (sym (ap (λ (s : State). holds p s.scan) e) ∙ h));
  few = (let a = length-set xs p y in let l = f.few in omega arith);
  same = f.same ∙ sym (length-set xs p y);
  room = f.room;
  waits = f.waits;
}

pub fits_scanned : (v : State) (c : ℕ) (xs : List PlacePhase) (b : BagsOfPlaces) (rs : List Bool) (x o : Option Scan) → seen c xs b.trios rs x ≡ v →
    IsMachineState xs b rs x → IsHeld v o → IsMachineState xs b rs o
fits_scanned v c xs b rs x o e f h =
    record { held = seen_held v c xs b.trios rs x o e f.same h; free = f.free; few = f.few; same = f.same; room = f.room; waits = f.waits }
