-- Each step of the epoch's part keeps it.
pub mod PlaceBound
pub mod EpochSteps
pub mod Barred
use Rattle.std.proofs.Common.{◌≡◌, ◌≢◌, ◌⊎◌, ℕ, zero, suc, ◌+◌, ◌<◌, ◌≤◌, eqb, List, [], ◌∷◌, ◌++◌, length, get_or, set, sym, refl, ap, ◌∙◌, subst, ⊎_elim, inl, inr, arith, length-set, get_or-set_other, get_or-set_same}
use mathlib.Core.Option.{some, some-ne-none, some-injective}
use mathlib.Core.Logic.{dite}
use native.Mathlib.Decide.{ℕ_discrete}
use lib.ListN.{get_elem?}
use lib.Seq.{set-get_or}
use prog.Atomic.{either}
use Rattle.atomic_table.proofs.Lists.{set_here, set_else, exchanged, at_longer}
use Rattle.sdd_rights.specs.declared.views.EpochView.{EpochView}
use Rattle.sdd_rights.specs.declared.views.Sizes.{Sizes}
use Rattle.sdd_domain_invariant.specs.Words.{IsBeside, global_word, lock_word, state_word, count_word, after_cells, first_slot}
use Rattle.sdd_domain_invariant.specs.Epoch.{HasPlace, IsClosed, IsOpen, Scans, IsLone, MatchesWords, Apart, EpochInvariant}
use Rattle.sdd_rights.specs.Views.{nobody}
use Rattle.sdd_domain_invariant.specs.Epoch.EpochSteps.{Steps, Rises, Keeps, registered, knowing, counted, published, closed, ended, scanning, passed_by, unlocked, IsNext, Registers, Reads, Counts, Publishes, Closes, Ends, Locks, LooksAtLock, LooksAtState, LooksAtCount, Advances, Unlocks}
use Rattle.sdd_domain_invariant.proofs.Frame.{each_set, two_set, each_snoc, two_snoc}

pub at_length : {A : Type 0} (l : List A) (i : ℕ) (a : A) → get_elem? l i ≡ some a → i < length l
at_length [] i a e = absurd (some-ne-none a (sym e))
at_length (x ∷ xs) zero a e = omega arith
at_length (x ∷ xs) (suc i) a e = let h = at_length xs i a e in omega arith

-- a place that was passed, after one more look
passes : (v u : EpochView) (q : ℕ) → IsNext v q → (Scans v → IsOpen u → u.place < v.looked → v.count ≤ u.since) → Scans v → IsOpen u
    → u.place < q + 1 → v.place ≢ u.place
    → (u.place ≡ q → v.count ≤ u.since) → v.count ≤ u.since
passes v u q next old s z l other here = dite (ℕ_discrete u.place q) here
    (λ no. old s z (⊎_elim (λ (e : q ≡ v.looked). omega arith)
    (λ (e : (v.looked ≡ v.place) × (q ≡ v.place + 1)). let e0 = e.0 in let e1 = e.1 in omega arith) next.1))

module _ (sizes : Sizes) where
  abbrev n : ℕ
  n = sizes.participants

  -- a participant, where no word changes that speaks of it
  spared : (ws ws' : List ℕ) (u : EpochView) → get_or ws' global_word 0 ≡ get_or ws global_word 0 → (Scans u → get_or ws' lock_word 0 ≡ get_or ws lock_word 0)
      → (HasPlace u → (get_or ws' (state_word sizes u.place) 0 ≡ get_or ws (state_word sizes u.place) 0)
      × (get_or ws' (count_word sizes u.place) 0 ≡ get_or ws (count_word sizes u.place) 0)) → MatchesWords sizes ws u → MatchesWords sizes ws' u
  spared ws ws' u zero_same one_same own_same f = record {
    all = f.all;
    inside = f.inside;
    states = f.states;
    state = λ z. (own_same z).0 ∙ f.state z;
    count = λ z. (own_same z).1 ∙ f.count z;
    known = let k = f.known in omega arith;
    found = f.found;
    published = λ z. let p = f.published z in record { count = p.count; since = p.since; once = let o = p.once in omega arith };
    locked = λ z. let l = f.locked z in (one_same z ∙ l.0, l.1);
    lone = λ a z. zero_same ∙ f.lone a z;
  }

  -- another participant, where the lock changes
  relock : (ws : List ℕ) (x : ℕ) (u : EpochView) → ¬ (Scans u) → MatchesWords sizes ws u → MatchesWords sizes (set ws lock_word x) u
  relock ws x u none f = spared ws (set ws lock_word x) u (get_or-set_other ws lock_word global_word x 0 (λ e. omega arith)) (λ z. absurd (none z))
      (λ z. (
        get_or-set_other ws lock_word (state_word sizes u.place) x 0 (λ e. omega arith),
        get_or-set_other ws lock_word (count_word sizes u.place) x 0 (λ e. omega arith),
      )) f

  -- a participant whose words a step does not name
  untouched : (ws : List ℕ) (i x : ℕ) (u : EpochView) → lock_word < i → (HasPlace u → (i ≢ state_word sizes u.place) × (i ≢ count_word sizes u.place))
      → MatchesWords sizes ws u
      → MatchesWords sizes (set ws i x) u
  untouched ws i x u high apart f = spared ws (set ws i x) u (get_or-set_other ws i global_word x 0 (λ e. omega arith))
      (λ _. get_or-set_other ws i lock_word x 0 (λ e. omega arith))
      (λ z. (
        get_or-set_other ws i (state_word sizes u.place) x 0 (λ e. (apart z).0 (sym e)),
        get_or-set_other ws i (count_word sizes u.place) x 0 (λ e. (apart z).1 (sym e)),
      )) f

  -- a step of the seat id, from v to w, with x in the word i
  moved : (ws : List ℕ) (vs : List EpochView) (id i x : ℕ) (v w : EpochView) → EpochInvariant sizes ws vs → get_elem? vs id ≡ some v
      → MatchesWords sizes (set ws i x) w
      → ((j : ℕ) (u : EpochView) → j ≢ id → get_elem? vs j ≡ some u → MatchesWords sizes ws u → Apart v u → Apart u v → MatchesWords sizes (set ws i x) u
      × Apart w u ×
      Apart u w)
      → (n ≡ 1 → get_or (set ws i x) (state_word sizes 0) 0 ≡ 0 → (k : ℕ) → get_or (set ws i x) k 0 ≡ 0)
      → (get_or (set ws i x) lock_word 0 ≢ 0 → (j : ℕ) × (u : EpochView) × (get_elem? (set vs id w) j ≡ some u) × Scans u)
      → EpochInvariant sizes (set ws i x) (set vs id w)
  moved ws vs id i x v w t at mine others unused held = record {
    wide = let wide = t.wide in omega (arith, length-set ws i x);
    each = each_set (MatchesWords sizes ws) (MatchesWords sizes (set ws i x)) vs id w mine
        (λ j u apart e. (others j u apart e (t.each j u e) (t.two id j v u (λ z. apart (sym z)) at e) (t.two j id u v apart e at)).0);
    two = two_set Apart vs id w t.two
        (λ j u apart e. let o = others j u apart e (t.each j u e) (t.two id j v u (λ z. apart (sym z)) at e) (t.two j id u v apart e at) in (o.1, o.2));
    unused = unused;
    held = held;
  }

  -- the only place is taken by v, and its state word is as it was
  used : (ws ws' : List ℕ) (v : EpochView) → MatchesWords sizes ws v → HasPlace v → get_or ws' (state_word sizes 0) 0 ≡ get_or ws (state_word sizes 0) 0 → n ≡ 1
      → ¬ (get_or ws' (state_word sizes 0) 0 ≡ 0)
  used ws ws' v f live same one none = let i = f.inside live in let p : v.place ≡ 0 = omega arith in
      let s : get_or ws (state_word sizes 0) 0 ≡ v.state = ap (λ (k : ℕ). get_or ws (state_word sizes k) 0) (sym p) ∙ f.state live in omega arith

  held_set : (ws : List ℕ) (vs : List EpochView) (id : ℕ) (v w : EpochView) → EpochInvariant sizes ws vs → get_elem? vs id ≡ some v → (Scans v → Scans w)
      → get_or ws lock_word 0 ≢ 0 → (j : ℕ) × (u : EpochView) × (get_elem? (set vs id w) j ≡ some u) × Scans u
  held_set ws vs id v w t at goes locked = let h = t.held locked in
      dite (ℕ_discrete h.0 id)
      (λ e. (
        id,
        w,
        set_here vs id w (at_length vs id v at),
        goes (let same : h.1 ≡ v = some-injective _ _ (sym h.2 ∙ (ap (get_elem? vs) e ∙ at)) in
            subst (λ (u : EpochView). Scans u) same h.3),
      ))
      (λ other. (h.0, h.1, set_else vs id h.0 w other ∙ h.2, h.3))

  -- the same at a load
  still : (ws : List ℕ) (vs : List EpochView) (id i : ℕ) (v w : EpochView) → EpochInvariant sizes ws vs → get_elem? vs id ≡ some v → MatchesWords sizes ws w
      → ((u : EpochView) → MatchesWords sizes ws u → Apart v u → Apart u v → Apart w u × Apart u w)
      → (Scans v → Scans w) → EpochInvariant sizes (set ws i (get_or ws i 0)) (set vs id w)
  still ws vs id i v w t at mine others goes = subst (λ (z : List ℕ). EpochInvariant sizes z (set vs id w)) (sym (set-get_or ws i 0)) record {
    wide = t.wide;
    each = each_set (MatchesWords sizes ws) (MatchesWords sizes ws) vs id w mine (λ j u apart e. t.each j u e);
    two = two_set Apart vs id w t.two (λ j u apart e. others u (t.each j u e) (t.two id j v u (λ z. apart (sym z)) at e) (t.two j id u v apart e at));
    unused = t.unused;
    held = held_set ws vs id v w t at goes;
  }

  -- the same view, at a load or a lost exchange
  unmoved : (ws : List ℕ) (vs : List EpochView) (id i : ℕ) (v : EpochView) → EpochInvariant sizes ws vs → get_elem? vs id ≡ some v
      → EpochInvariant sizes (set ws i (get_or ws i 0)) (set vs id v)
  unmoved ws vs id i v t at = still ws vs id i v v t at (t.each id v at) (λ u fu a b. (a, b)) (λ z. z)

  level : (v : EpochView) → Rises v v
  level v = record { known = omega arith; found = omega arith; guard = λ z. (z, refl, refl) }

  -- a step on a word of the seat's own place
  own : (ws : List ℕ) (vs : List EpochView) (id i x : ℕ) (v w : EpochView) → EpochInvariant sizes ws vs → get_elem? vs id ≡ some v → HasPlace v
      → ((i ≡ state_word sizes v.place) × (0 < x)) ⊎ (i ≡ count_word sizes v.place) → MatchesWords sizes (set ws i x) w
      → ((u : EpochView) → MatchesWords sizes ws u → Apart v u → Apart u v → Apart w u × Apart u w)
      → (Scans v → Scans w) → EpochInvariant sizes (set ws i x) (set vs id w)
  own ws vs id i x v w t at live which mine others goes =
      let high : lock_word < i = ⊎_elim (λ (e : (i ≡ state_word sizes v.place) × (0 < x)). let e0 = e.0 in
      omega arith) (λ (e : i ≡ count_word sizes v.place). omega arith)
      which in
      let f = t.each id v at in let inside = f.inside live in let wide = t.wide in
      moved ws vs id i x v w t at mine
      (λ j u apart e f a b. let o = others u f a b in (
        untouched ws i x u high
            (λ z. let p = a.places live z in ⊎_elim
            (λ (e : (i ≡ state_word sizes v.place) × (0 < x)). let e0 = e.0 in ((λ c. p (omega arith)), λ c. omega arith))
            (λ (e : i ≡ count_word sizes v.place). ((λ c. omega arith), λ c. p (omega arith)))
            which) f,
        o.0,
        o.1,
      ))
      (λ one none. ⊎_elim
      (λ (e : (i ≡ state_word sizes v.place) × (0 < x)). let e0 = e.0 in let e1 = e.1 in let is : i ≡ state_word sizes 0 = omega arith in
      let now : get_or (set ws i x) i 0 ≡ x = get_or-set_same ws i x 0 (omega arith) in
      let now' : get_or (set ws i x) (state_word sizes 0) 0 ≡ x = ap (λ (k : ℕ). get_or (set ws i x) k 0) (sym is) ∙ now in absurd (omega arith))
      (λ (e : i ≡ count_word sizes v.place). absurd (used ws (set ws i x) v f live (get_or-set_other ws i (state_word sizes 0) x 0
      (λ c. omega arith)) one none))
      which)
      (λ locked. held_set ws vs id v w t at goes (λ e. locked (get_or-set_other ws i lock_word x 0 (λ e. omega arith) ∙ e)))

  -- read the global count
  pub reads : (id : ℕ) (v : EpochView) → Keeps sizes id v global_word (λ x. x) (Reads v)
  reads id v ws vs t at small = let c : ℕ = get_or ws global_word 0 in let w : EpochView = knowing v c in let f = t.each id v at in let k = f.known in
      let l = f.found in (
        w,
        still ws vs id global_word v w t at
            record {
              all = f.all;
              inside = f.inside;
              states = f.states;
              state = f.state;
              count = f.count;
              known = omega arith;
              found = omega arith;
              published = λ z. let p = f.published z in record { count = p.count; since = let s = p.since in omega arith; once = p.once };
              locked = f.locked;
              lone = λ _ _. refl;
            }
            (λ u fu a b. (record { places = a.places; locks = a.locks; passed = a.passed }, record { places = b.places; locks = b.locks; passed = b.passed }))
            (λ z. z),
        record { known = k; found = omega arith; guard = λ z. (z, refl, refl) },
        (refl, k, (λ z. let p = f.published z in ((let s = p.since in omega arith), p.once)), λ alone. f.lone (sym (f.all (λ z. omega arith)) ∙ alone)),
      )

  -- write the own count word
  pub counts : (id : ℕ) (v : EpochView) (c : ℕ) → IsClosed v → Keeps sizes id v (count_word sizes v.place) (λ _. c) (λ _. Counts v c)
  counts id v c shut ws vs t at small = let i : ℕ = count_word sizes v.place in let w : EpochView = counted v c in let f = t.each id v at in
      let wide = t.wide in let inside = f.inside (omega arith) in
      let zero_same = get_or-set_other ws i global_word c 0 (λ e. omega arith) in (
        w,
        own ws vs id i c v w t at (omega arith) (inr refl)
            record {
              all = f.all;
              inside = f.inside;
              states = f.states;
              state = λ z. get_or-set_other ws i (state_word sizes v.place) c 0 (λ e. omega arith) ∙ f.state z;
              count = λ _. get_or-set_same ws i c 0 (omega arith);
              known = let k = f.known in omega arith;
              found = f.found;
              published = λ z. absurd (omega arith);
              locked = λ z. let o = (f.locked z).1 in absurd (omega arith);
              lone = λ a z. zero_same ∙ f.lone a z;
            }
            (λ u fu a b. (
              record { places = a.places; locks = a.locks; passed = λ z. let o = (f.locked z).1 in absurd (omega arith) },
              record { places = b.places; locks = b.locks; passed = b.passed },
            ))
            (λ z. z),
        record { known = omega arith; found = omega arith; guard = λ z. (z, refl, refl) },
        refl,
      )

  -- open
  pub publishes : (id : ℕ) (v : EpochView) → IsClosed v → v.count ≡ v.known → Keeps sizes id v (state_word sizes v.place) (λ _. 2) (λ _. Publishes v 2)
  publishes id v shut low ws vs t at small = let i : ℕ = state_word sizes v.place in let g : ℕ = get_or ws global_word 0 in let w : EpochView = published v g in
      let f = t.each id v at in let wide = t.wide in let inside = f.inside (omega arith) in let k = f.known in let l = f.found in
      let zero_same = get_or-set_other ws i global_word 2 0 (λ e. omega arith) in (
        w,
        own ws vs id i 2 v w t at (omega arith) (inl (refl, omega arith))
            record {
              all = f.all;
              inside = λ _. inside;
              states = omega arith;
              state = λ _. get_or-set_same ws i 2 0 (omega arith);
              count = λ z. get_or-set_other ws i (count_word sizes v.place) 2 0 (λ e. omega arith) ∙ f.count (omega arith);
              known = omega arith;
              found = omega arith;
              published = λ _. record { count = omega arith; since = omega arith; once = omega arith };
              locked = λ z. let o = (f.locked z).1 in absurd (omega arith);
              lone = λ _ _. zero_same;
            }
            (λ u fu a b. (
              record { places = λ _ z. a.places (omega arith) z; locks = a.locks; passed = λ z. let o = (f.locked z).1 in absurd (omega arith) },
              record {
                places = λ z _. b.places z (omega arith);
                locks = b.locks;
                passed = λ z _ _. let l = (fu.locked z).1 in let o = fu.published l in let o0 = o.count in let o1 = o.since in let k' = fu.known in omega arith;
              },
            ))
            (λ z. z),
        record { known = k; found = omega arith; guard = λ z. absurd (omega arith) },
        (g, refl, k, λ alone. f.lone (sym (f.all (λ z. omega arith)) ∙ alone) (omega arith)),
      )

  -- close
  pub closes : (id : ℕ) (v : EpochView) → IsOpen v → ¬ (Scans v) → Steps (EpochInvariant sizes) id v (state_word sizes v.place) (λ _. 1) (λ _. Closes v 1)
  closes id v is_open free ws vs t at small = let i : ℕ = state_word sizes v.place in let w : EpochView = closed v in let f = t.each id v at in
      let wide = t.wide in let inside = f.inside (omega arith) in
      let zero_same = get_or-set_other ws i global_word 1 0 (λ e. omega arith) in (
        w,
        own ws vs id i 1 v w t at (omega arith) (inl (refl, omega arith))
            record {
              all = f.all;
              inside = λ _. inside;
              states = omega arith;
              state = λ _. get_or-set_same ws i 1 0 (omega arith);
              count = λ z. get_or-set_other ws i (count_word sizes v.place) 1 0 (λ e. omega arith) ∙ f.count (omega arith);
              known = let k = f.known in omega arith;
              found = f.found;
              published = λ z. absurd (omega arith);
              locked = λ z. absurd (free z);
              lone = λ a _. zero_same ∙ f.lone a (omega arith);
            }
            (λ u fu a b. (
              record { places = λ _ z. a.places (omega arith) z; locks = a.locks; passed = λ z. absurd (free z) },
              record { places = λ z _. b.places z (omega arith); locks = b.locks; passed = λ _ z. absurd (omega arith) },
            ))
            (λ z. z),
        refl,
      )

  -- end
  pub ends : (id : ℕ) (v : EpochView) → IsClosed v → Keeps sizes id v (state_word sizes v.place) (λ _. 3) (λ _. Ends v 3)
  ends id v shut ws vs t at small = let i : ℕ = state_word sizes v.place in let w : EpochView = ended v in let f = t.each id v at in let wide = t.wide in
      let inside = f.inside (omega arith) in
      let zero_same = get_or-set_other ws i global_word 3 0 (λ e. omega arith) in (
        w,
        own ws vs id i 3 v w t at (omega arith) (inl (refl, omega arith))
            record {
              all = f.all;
              inside = λ z. absurd (omega arith);
              states = omega arith;
              state = λ z. absurd (omega arith);
              count = λ z. absurd (omega arith);
              known = let k = f.known in omega arith;
              found = f.found;
              published = λ z. absurd (omega arith);
              locked = λ z. let o = (f.locked z).1 in absurd (omega arith);
              lone = λ a z. absurd (omega arith);
            }
            (λ u fu a b. (
              record { places = λ z. absurd (omega arith); locks = a.locks; passed = λ z. let o = (f.locked z).1 in absurd (omega arith) },
              record { places = λ _ z. absurd (omega arith); locks = b.locks; passed = λ _ z. absurd (omega arith) },
            ))
            (λ z. z),
        record { known = omega arith; found = omega arith; guard = λ z. absurd (omega arith) },
        refl,
      )

  -- a lone participant that doesn't scan finds the lock free
  unlocked_alone : (ws : List ℕ) (vs : List EpochView) (id : ℕ) (v : EpochView) → EpochInvariant sizes ws vs → get_elem? vs id ≡ some v → HasPlace v
      → ¬ (Scans v)
      → IsLone v → get_or ws lock_word 0 ≡ 0
  unlocked_alone ws vs id v t at placed free a' = let x : ℕ = get_or ws lock_word 0 in let f = t.each id v at in let wide = t.wide in
      let inside = f.inside placed in let a : n ≡ 1 = sym (f.all (λ z. omega arith)) ∙ a' in
      dite (ℕ_discrete x 0) (λ e. e) (λ e. let h = t.held e in let g = t.each h.0 h.1 h.2 in let l = (g.locked h.3).1 in let in' = g.inside (omega arith) in
      absurd (dite (ℕ_discrete h.0 id)
      (λ same. free (subst (λ (u : EpochView). Scans u) (some-injective _ _ (sym h.2 ∙ (ap (get_elem? vs) same ∙ at))) h.3))
      (λ other. (t.two h.0 id h.1 v other h.2 at).places (omega arith) (omega arith) (omega arith))))

  -- look at the lock
  pub looks_at_lock : (id : ℕ) (v : EpochView) → IsOpen v → ¬ (Scans v) → Keeps sizes id v lock_word (λ x. x) (LooksAtLock v)
  looks_at_lock id v is_open free ws vs t at small =
      (v, unmoved ws vs id lock_word v t at, level v, (refl, unlocked_alone ws vs id v t at (omega arith) free))

  -- take the lock
  pub locks : (id : ℕ) (v : EpochView) → IsOpen v → ¬ (Scans v) → Keeps sizes id v lock_word (λ x. either (eqb x 0) 1 x) (Locks v)
  locks id v is_open free ws vs t at small = let x : ℕ = get_or ws lock_word 0 in let f = t.each id v at in let wide = t.wide in
      let inside = f.inside (omega arith) in
      let never : IsLone v → x ≡ 0 = unlocked_alone ws vs id v t at (omega arith) free in
      exchanged x 0 1 (λ y. (w : EpochView) × EpochInvariant sizes (set ws lock_word y) (set vs id w) × Rises v w × Locks v x w)
      (λ hit. let w : EpochView = scanning v in let zero_same = get_or-set_other ws lock_word global_word 1 0 (λ e. omega arith) in (
        w,
        moved ws vs id lock_word 1 v w t at
            record {
              all = f.all;
              inside = f.inside;
              states = f.states;
              state = λ z. get_or-set_other ws lock_word (state_word sizes v.place) 1 0 (λ e. omega arith) ∙ f.state z;
              count = λ z. get_or-set_other ws lock_word (count_word sizes v.place) 1 0 (λ e. omega arith) ∙ f.count z;
              known = let k = f.known in omega arith;
              found = f.found;
              published = λ z. let p = f.published z in record { count = p.count; since = p.since; once = let o = p.once in omega arith };
              locked = λ _. (get_or-set_same ws lock_word 1 0 (omega arith), is_open);
              lone = λ a z. zero_same ∙ f.lone a z;
            }
            (λ j u apart e fu a b. (
              relock ws 1 u (λ z. let l = (fu.locked z).0 in omega arith) fu,
              record { places = a.places; locks = λ _ z. let l = (fu.locked z).0 in omega arith; passed = λ _ _ z. absurd (omega arith) },
              record { places = b.places; locks = λ z _. let l = (fu.locked z).0 in omega arith; passed = b.passed },
            ))
            (λ one none. absurd (used ws (set ws lock_word 1) v f (omega arith) (get_or-set_other ws lock_word (state_word sizes 0) 1 0
            (λ c. omega arith)) one none))
            (λ _. (id, w, set_here vs id w (at_length vs id v at), refl)),
        record { known = omega arith; found = omega arith; guard = λ z. (z, refl, refl) },
        ((λ _. refl), (λ no. absurd (no hit)), never),
      ))
      (λ miss. (v, unmoved ws vs id lock_word v t at, level v, ((λ e. absurd (miss e)), (λ _. refl), never)))

  -- free it
  pub unlocks : (id : ℕ) (v : EpochView) → Scans v → Keeps sizes id v lock_word (λ _. 0) (λ _. Unlocks v 0)
  unlocks id v mine ws vs t at small = let f = t.each id v at in let wide = t.wide in let w : EpochView = unlocked v in
      let zero_same = get_or-set_other ws lock_word global_word 0 0 (λ e. omega arith) in (
        w,
        moved ws vs id lock_word 0 v w t at
            record {
              all = f.all;
              inside = f.inside;
              states = f.states;
              state = λ z. get_or-set_other ws lock_word (state_word sizes v.place) 0 0 (λ e. omega arith) ∙ f.state z;
              count = λ z. get_or-set_other ws lock_word (count_word sizes v.place) 0 0 (λ e. omega arith) ∙ f.count z;
              known = let k = f.known in omega arith;
              found = f.found;
              published = λ z. let p = f.published z in record { count = p.count; since = p.since; once = let o = p.once in omega arith };
              locked = λ z. absurd (omega arith);
              lone = λ a z. zero_same ∙ f.lone a z;
            }
            (λ j u apart e fu a b. (
              relock ws 0 u (λ z. a.locks mine z) fu,
              record { places = a.places; locks = λ z. absurd (omega arith); passed = λ z. absurd (omega arith) },
              record { places = b.places; locks = λ _ z. omega arith; passed = b.passed },
            ))
            (λ one none. let l = (f.locked mine).1 in
            absurd (used ws (set ws lock_word 0) v f (omega arith) (get_or-set_other ws lock_word (state_word sizes 0) 0 0 (λ c. omega arith)) one none))
            (λ no. absurd (no (get_or-set_same ws lock_word 0 0 (omega arith)))),
        record { known = omega arith; found = omega arith; guard = λ z. (z, refl, refl) },
        refl,
      )

  -- a look that passes the place q
  passing : (ws : List ℕ) (vs : List EpochView) (id i : ℕ) (v : EpochView) (q : ℕ) → IsNext v q → EpochInvariant sizes ws vs → get_elem? vs id ≡ some v
      → ((u : EpochView) → MatchesWords sizes ws u → IsOpen u → u.place ≡ q → v.count ≤ u.since) → EpochInvariant sizes (set ws i (get_or ws i 0))
      (set vs id (passed_by v q))
  passing ws vs id i v q next t at here = let f = t.each id v at in
      still ws vs id i v (passed_by v q) t at
      record {
        all = f.all;
        inside = f.inside;
        states = f.states;
        state = f.state;
        count = f.count;
        known = f.known;
        found = f.found;
        published = λ z. let p = f.published z in record { count = p.count; since = p.since; once = p.once };
        locked = f.locked;
        lone = f.lone;
      }
      (λ u fu a b. (
        record {
          places = a.places;
          locks = a.locks;
          passed = λ s z l. passes v u q next a.passed s z l (a.places (let o = (f.locked s).1 in omega arith) (omega arith)) (here u fu z);
        },
        record { places = b.places; locks = b.locks; passed = b.passed },
      ))
      (λ z. z)

  -- look at a place's state
  pub looks_at_state : (id : ℕ) (v : EpochView) (q : ℕ) → IsNext v q → Keeps sizes id v (state_word sizes q) (λ x. x) (LooksAtState sizes
      (state_word sizes q) v)
  looks_at_state id v q next ws vs t at small = let x : ℕ = get_or ws (state_word sizes q) 0 in
      dite (ℕ_discrete x 2)
      (λ e. (v, unmoved ws vs id (state_word sizes q) v t at, level v, λ q' is. ((λ no. absurd (no e)), (λ _. refl))))
      (λ no. (
        passed_by v q,
        passing ws vs id (state_word sizes q) v q next t at
            (λ u fu z same. absurd (no (ap (λ (k : ℕ). get_or ws (state_word sizes k) 0) (sym same) ∙ (fu.state (omega arith) ∙ z)))),
        record { known = omega arith; found = omega arith; guard = λ z. (z, refl, refl) },
        λ q' is. ((λ _. ap (λ (k : ℕ). passed_by v k) (let g : q ≡ q' = omega arith in g)), (λ e. absurd (no e))),
      ))

  -- look at its count
  pub looks_at_count : (id : ℕ) (v : EpochView) (q : ℕ) → IsNext v q → Keeps sizes id v (count_word sizes q) (λ x. x) (LooksAtCount sizes
      (count_word sizes q) v)
  looks_at_count id v q next ws vs t at small = let x : ℕ = get_or ws (count_word sizes q) 0 in
      dite (ℕ_discrete x v.count)
      (λ e. (
        passed_by v q,
        passing ws vs id (count_word sizes q) v q next t at
            (λ u fu z same. let o = (fu.published z).count in let c = fu.count (omega arith) in
            let c' : u.count ≡ v.count = sym c ∙ (ap (λ (k : ℕ). get_or ws (count_word sizes k) 0) same ∙ e) in omega arith),
        record { known = omega arith; found = omega arith; guard = λ z. (z, refl, refl) },
        λ q' is. ((λ _. ap (λ (k : ℕ). passed_by v k) (let g : q ≡ q' = omega arith in g)), (λ no. absurd (no e))),
      ))
      (λ no. (v, unmoved ws vs id (count_word sizes q) v t at, level v, λ q' is. ((λ e. absurd (no e)), (λ _. refl))))

  -- raise the count
  pub advances : (id : ℕ) (v : EpochView) → IsNext v n → Keeps sizes id v global_word (λ x. either (eqb x v.count) (v.count + 1) x) (Advances v)
  advances id v next ws vs t at small = let x : ℕ = get_or ws global_word 0 in let y : ℕ = v.count + 1 in let f = t.each id v at in let wide = t.wide in
      let l = f.locked next.0 in let inside = f.inside (omega arith) in let o = f.published l.1 in
      let o0 = o.count in let o1 = o.since in let o2 = o.once in
      let alone : IsLone v → x ≡ v.known = λ alone. f.lone (sym (f.all (λ z. omega arith)) ∙ alone) (omega arith) in
      exchanged x v.count y (λ y. (w : EpochView) × EpochInvariant sizes (set ws global_word y) (set vs id w) × Rises v w × Advances v x w)
      (λ hit. let w : EpochView = knowing v y in let now = get_or-set_same ws global_word y 0 (omega arith) in
      let one_same = get_or-set_other ws global_word lock_word y 0 (λ e. omega arith) in let b = f.known in let a = f.found in (
        w,
        moved ws vs id global_word y v w t at
            record {
              all = f.all;
              inside = f.inside;
              states = f.states;
              state = λ z. get_or-set_other ws global_word (state_word sizes v.place) y 0 (λ e. omega arith) ∙ f.state z;
              count = λ z. get_or-set_other ws global_word (count_word sizes v.place) y 0 (λ e. omega arith) ∙ f.count z;
              known = omega arith;
              found = omega arith;
              published = λ z. record { count = o0; since = omega arith; once = omega arith };
              locked = λ z. (one_same ∙ l.0, l.1);
              lone = λ _ _. now;
            }
            (λ j u apart e fu a b. (
              record {
                all = fu.all;
                inside = fu.inside;
                states = fu.states;
                state = λ z. get_or-set_other ws global_word (state_word sizes u.place) y 0 (λ e. omega arith) ∙ fu.state z;
                count = λ z. get_or-set_other ws global_word (count_word sizes u.place) y 0 (λ e. omega arith) ∙ fu.count z;
                known = let k = fu.known in omega arith;
                found = fu.found;
                published = λ z. let p = fu.published z in let i = fu.inside (omega arith) in let other = a.places (omega arith) (omega arith) in
                    let low : v.count ≤ u.since = passes v u n next a.passed next.0 z (omega arith) other (λ same. absurd (omega arith)) in
                    record { count = p.count; since = p.since; once = omega arith };
                locked = λ z. let p = fu.locked z in (one_same ∙ p.0, p.1);
                lone = λ alone z. let i = fu.inside z in absurd (a.places (omega arith) z (omega arith));
              },
              record { places = a.places; locks = a.locks; passed = a.passed },
              record { places = b.places; locks = b.locks; passed = b.passed },
            ))
            (λ one none. let is_open = l.1 in
            absurd (used ws (set ws global_word y) v f (omega arith) (get_or-set_other ws global_word (state_word sizes 0) y 0 (λ c. omega arith)) one none))
            (λ locked. held_set ws vs id v w t at (λ z. z) (λ e. locked (one_same ∙ e))),
        record { known = omega arith; found = omega arith; guard = λ z. (z, refl, refl) },
        ((λ _. refl), (λ no. absurd (no hit)), alone),
      ))
      (λ miss. (v, unmoved ws vs id global_word v t at, level v, ((λ e. absurd (miss e)), (λ _. refl), alone)))

  -- take a place
  pub registers : (id p : ℕ) → p < n → Keeps sizes id (nobody n) (state_word sizes p) (λ x. either (eqb x 0) 1 x) (Registers sizes (state_word sizes p)
      (nobody n))
  registers id p inside ws vs t at small = let i : ℕ = state_word sizes p in let x : ℕ = get_or ws i 0 in let v : EpochView = nobody n in let wide = t.wide in
      exchanged x 0 1 (λ y. (w : EpochView) × EpochInvariant sizes (set ws i y) (set vs id w) × Rises (nobody n) w
      × Registers sizes (state_word sizes p) (nobody n) x w)
      (λ hit. let c : ℕ = get_or ws (count_word sizes p) 0 in let g : ℕ = get_or ws global_word 0 in let w : EpochView = registered n p c g in
      let zero_same = get_or-set_other ws i global_word 1 0 (λ e. omega arith) in
      let other_place : (u : EpochView) → MatchesWords sizes ws u → HasPlace u → u.place ≢ p = λ u fu z e. let s = fu.state z in
      let s' = ap (λ (k : ℕ). get_or ws (state_word sizes k) 0) e in omega arith in (
        w,
        moved ws vs id i 1 v w t at
            record {
              all = λ _. refl;
              inside = λ _. inside;
              states = omega arith;
              state = λ _. get_or-set_same ws i 1 0 (omega arith);
              count = λ _. get_or-set_other ws i (count_word sizes p) 1 0 (λ e. omega arith);
              known = omega arith;
              found = omega arith;
              published = λ z. absurd (omega arith);
              locked = λ z. absurd (omega arith);
              lone = λ _ _. zero_same;
            }
            (λ j u apart e fu a b. (
              untouched ws i 1 u (omega arith) (λ z. let o = other_place u fu z in ((λ c. o (omega arith)), λ c. omega arith)) fu,
              record { places = λ _ z e. other_place u fu z (sym e); locks = λ z. absurd (omega arith); passed = λ z. absurd (omega arith) },
              record { places = λ z _. other_place u fu z; locks = λ _ z. omega arith; passed = λ _ z. absurd (omega arith) },
            ))
            (λ one none. let is : i ≡ state_word sizes 0 = omega arith in let now = get_or-set_same ws i 1 0 (omega arith) in
            let now' : get_or (set ws i 1) (state_word sizes 0) 0 ≡ 1 = ap (λ (k : ℕ). get_or (set ws i 1) k 0) (sym is) ∙ now in absurd (omega arith))
            (λ locked. held_set ws vs id v w t at (λ z. absurd (omega arith)) (λ e. locked (get_or-set_other ws i lock_word 1 0 (λ e. omega arith) ∙ e))),
        record { known = omega arith; found = omega arith; guard = λ z. absurd (omega arith) },
        λ p' is.
            let same : p ≡ p' = omega arith in
            let blank = λ (one : n ≡ 1). let e : state_word sizes 0 ≡ i = omega arith in t.unused one (ap (λ (k : ℕ). get_or ws k 0) e ∙ hit) in (
              (λ _. (c, g, ap (λ (k : ℕ). registered n k c g) same, λ one. (blank one (count_word sizes p), blank one 0))),
              (λ no. absurd (no hit)),
            ),
      ))
      (λ miss. (v, unmoved ws vs id i v t at, level v, λ p' is. ((λ e. absurd (miss e)), (λ _. refl))))

  -- a word of a cell or a slot is none of a place
  no_place : (i p : ℕ) → IsBeside sizes i → p < n → (i ≢ state_word sizes p) × (i ≢ count_word sizes p)
  no_place i p beside inside = ⊎_elim
      (λ (low : i < after_cells sizes). ((λ c. omega arith), λ c. omega arith))
      (λ (high : first_slot sizes ≤ i). ((λ c. omega arith), λ c. omega arith)) beside.1

  -- a word of a cell or a slot changes, by a step of a participant
  pub beside : (ws : List ℕ) (vs : List EpochView) (id i x : ℕ) (v : EpochView) → EpochInvariant sizes ws vs → get_elem? vs id ≡ some v → HasPlace v
      → IsBeside sizes i → EpochInvariant sizes (set ws i x) vs
  beside ws vs id i x v t at live word = let high = word.0 in record {
    wide = let w = t.wide in omega (arith, length-set ws i x);
    each = λ j u e. let f = t.each j u e in untouched ws i x u (omega arith) (λ z. no_place i u.place word (f.inside z)) f;
    two = t.two;
    unused = λ one none. let f = t.each id v at in let p = f.inside live in
        absurd (used ws (set ws i x) v f live (get_or-set_other ws i (state_word sizes 0) x 0 (λ c. (no_place i 0 word (omega arith)).0 (sym c))) one none);
    held = λ locked. t.held (λ e. locked (get_or-set_other ws i lock_word x 0 (λ e. omega arith) ∙ e));
  }

  -- a place that is nobody's is barred, by somebody without a place
  pub barred : (ws : List ℕ) (vs : List EpochView) (p : ℕ) → EpochInvariant sizes ws vs → p < n
      → (get_or ws (state_word sizes p) 0 ≡ 0) ⊎ (get_or ws (state_word sizes p) 0 ≡ 3) → EpochInvariant sizes (set ws (state_word sizes p) 4) vs
  barred ws vs p t inside nobodys = let i : ℕ = state_word sizes p in let wide = t.wide in record {
    wide = omega (arith, length-set ws i 4);
    each = λ j u e. let f = t.each j u e in
        untouched ws i 4 u (omega arith)
        (λ z. (
          (λ c. let same : p ≡ u.place = omega arith in let s = f.state z in let few = f.states in
              let s' = ap (λ (k : ℕ). get_or ws (state_word sizes k) 0) same in
              ⊎_elim (λ (none : get_or ws i 0 ≡ 0). omega arith) (λ (over : get_or ws i 0 ≡ 3). omega arith) nobodys),
          (λ c. omega arith),
        )) f;
    two = t.two;
    unused = λ one none. let is : state_word sizes 0 ≡ i = omega arith in let now = get_or-set_same ws i 4 0 (omega arith) in
        let now' : get_or (set ws i 4) (state_word sizes 0) 0 ≡ 4 = ap (λ (k : ℕ). get_or (set ws i 4) k 0) is ∙ now in absurd (omega arith);
    held = λ locked. t.held (λ e. locked (get_or-set_other ws i lock_word 4 0 (λ e. omega arith) ∙ e));
  }

  -- a step may have its participant know the count of its moment
  pub knows : (ws : List ℕ) (vs : List EpochView) (id : ℕ) (v : EpochView) → EpochInvariant sizes ws vs → get_elem? vs id ≡ some v
      → EpochInvariant sizes ws (set vs id (knowing v (get_or ws global_word 0)))
  knows ws vs id v t at = let w : EpochView = knowing v (get_or ws global_word 0) in let f = t.each id v at in let k = f.known in let l = f.found in
      subst (λ (z : List ℕ). EpochInvariant sizes z (set vs id w)) (set-get_or ws global_word 0) (still ws vs id global_word v w t at
      record {
        all = f.all;
        inside = f.inside;
        states = f.states;
        state = f.state;
        count = f.count;
        known = omega arith;
        found = omega arith;
        published = λ z. let p = f.published z in record { count = p.count; since = let s = p.since in omega arith; once = p.once };
        locked = f.locked;
        lone = λ _ _. refl;
      }
      (λ u fu a b. (record { places = a.places; locks = a.locks; passed = a.passed }, record { places = b.places; locks = b.locks; passed = b.passed }))
      (λ z. z))

  -- where there is one place, only one has it
  pub no_other : (ws : List ℕ) (vs : List EpochView) (id j : ℕ) (v u : EpochView) → EpochInvariant sizes ws vs → n ≡ 1 → get_elem? vs id ≡ some v → HasPlace v
      → j ≢ id → get_elem? vs j ≡ some u → ¬ (HasPlace u)
  no_other ws vs id j v u t one at live apart e z = let a = (t.two id j v u (λ c. apart (sym c)) at e).places live z in
      let p = (t.each id v at).inside live in let q = (t.each j u e).inside z in a (omega arith)

  fresh : (a : ℕ) → (a ≢ 0 → a ≡ n) → (ws : List ℕ) → MatchesWords sizes ws (nobody a)
  fresh a is ws = record {
    all = is;
    inside = λ z. absurd (omega arith);
    states = omega arith;
    state = λ z. absurd (omega arith);
    count = λ z. absurd (omega arith);
    known = omega arith;
    found = omega arith;
    published = λ z. absurd (omega arith);
    locked = λ z. absurd (omega arith);
    lone = λ _ z. absurd (omega arith);
  }

  with_nobody : (a : ℕ) (u : EpochView) → Apart (nobody a) u × Apart u (nobody a)
  with_nobody a u = (
    record { places = λ z. absurd (omega arith); locks = λ z. absurd (omega arith); passed = λ z. absurd (omega arith) },
    record { places = λ _ z. absurd (omega arith); locks = λ _ z. omega arith; passed = λ _ z. absurd (omega arith) },
  )

  -- a new seat, which may be one without a size
  pub seated : (a : ℕ) → (a ≢ 0 → a ≡ n) → (ws : List ℕ) (vs : List EpochView) → EpochInvariant sizes ws vs → EpochInvariant sizes ws (vs ++ nobody a ∷ [])
  seated a is ws vs t = record {
    wide = t.wide;
    each = each_snoc (MatchesWords sizes ws) vs (nobody a) t.each (fresh a is ws);
    two = two_snoc Apart vs (nobody a) t.two (with_nobody a);
    unused = t.unused;
    held = λ z. let h = t.held z in (h.0, h.1, at_longer vs (nobody a ∷ []) h.0 h.1 h.2, h.3);
  }

  -- the start: all words are 0, and there is one seat, which knows nothing
  pub begins : (ws : List ℕ) → first_slot sizes ≤ length ws → ((i : ℕ) → get_or ws i 0 ≡ 0) → EpochInvariant sizes ws (nobody n ∷ [])
  begins ws wide none = record {
    wide = wide;
    each = λ j v e. subst (MatchesWords sizes ws) (only j v e) (fresh n (λ _. refl) ws);
    two = λ j k v w apart e e'. subst (λ (u : EpochView). Apart u w) (only j v e) (with_nobody n w).0;
    unused = λ _ _. none;
    held = λ locked. absurd (locked (none lock_word));
  }
    where
      only : (j : ℕ) (v : EpochView) → get_elem? (nobody n ∷ []) j ≡ some v → nobody n ≡ v
      only zero v e = some-injective _ _ e
      only (suc j) v e = absurd (some-ne-none v (sym e))
