-- What is always true of a state is true after each line on a bag
use Rattle.sdd_script_model.proofs.Words.{◌≡◌, inl, inr, ℕ, List, [], ◌∷◌, ◌++◌, Option, Some, None, length, slice_index_or, slice_set, refl, sym, ap, subst, append-nil, World, IsPlaceOf, IsWhole, Entry, HasSameCells, IsBag, Body, PutsNumber, TakesNumber, StandsOn, LosesNames, BeginsLine, NumberBag, ScriptState, IsDated, bag_at, bag_length, with_bag_at, cell_in, Begins, IsSound, Val, storage_in, LiesOn, OverflowParts, PutsBehind, TakesAll, AreEmpty, Stack}
use Rattle.sdd_script_model.proofs.Lemmas.{LeavesSound, dated-same, same-list}
use Rattle.sdd_script_model.proofs.BagStorageSound.{added-dated, added-leaves, added-long}
use Rattle.sdd_script_model.proofs.BagChains.{let_go_many, removes-all, removes-one, stack_of}
use Rattle.sdd_script_model.proofs.BagNumbersSound.{gone-leaves, renumbered-leaves}
use Rattle.sdd_script_model.proofs.StackSound.{IsDatedWithin, dated-all}

module _ (d : ScriptState) (s : IsSound d) (whole : IsWhole d.world) (p n : ℕ) (live : IsPlaceOf d.world p) (old bag : NumberBag)
    (is : bag_at d.bags n ≡ Some old) (cells : HasSameCells old bag) where
  -- the bag is this one then
  abbrev pub with_it : World Val → List (Option ℕ) → List ℕ → ScriptState
  with_it w names dates = record d { world = w; bags = slice_set d.bags n (Some bag); names = names; dates = dates }

  was : IsBag storage_in bag_length d.world old
  was = (s.bags n old is).bag

  abbrev Parts : Type 0
  Parts = OverflowParts ℕ Body

  stands-as : bag.overflow ≡ old.overflow → StandsOn d.world bag was.entries
  stands-as same = subst (λ (o : Parts). LiesOn storage_in bag_length d.world was.entries o) (sym same) was.lies

  its-as : bag.overflow ≡ old.overflow → IsBag storage_in bag_length d.world bag
  its-as same = record {
    entries = was.entries;
    lies = stands-as same;
    used = λ none. was.used (subst (λ (o : Parts). AreEmpty bag_length o.places) same none);
  }

  -- in the same world
  same-leaves : (es : List (Entry Val)) → StandsOn d.world old es → StandsOn d.world bag es → IsBag storage_in bag_length d.world bag →
      (names : List (Option ℕ)) → names ≡ d.names → (dates : List ℕ) → IsDated d (with_it d.world names dates) → LeavesSound d (with_it d.world names dates)
  same-leaves es stood stands its names same dates dated =
      renumbered-leaves d s whole p n live old bag is cells es stood stands its names
      (λ j. ap (λ (xs : List (Option ℕ)). slice_index_or xs j None) same) (ap length same) dates dated

  within-all : (w : World Val) → w ≡ d.world → (names : List (Option ℕ)) (dates : List ℕ) → IsDatedWithin d (with_it w names dates) →
      IsDated d (with_it d.world names dates)
  within-all w same names dates within =
      dated-all d (with_it d.world names dates) s.stocked refl (subst (λ (u : World Val). IsDatedWithin d (with_it u names dates)) same within)

  pub inside-leaves : bag.overflow ≡ old.overflow → LeavesSound d (with_it d.world d.names d.dates)
  inside-leaves same =
      same-leaves was.entries was.lies (stands-as same) (its-as same) d.names refl d.dates (dated-same d (with_it d.world d.names d.dates) refl refl)

  -- ---- a number is put in

  pub put-long : (number : ℕ) (w : World Val) → PutsNumber d.world p number old bag w → length w.standings ≡ length d.world.standings
  put-long number w (same_cells, puts) = elim puts [
    | inl inside ↦ ap (λ (u : World Val). length u.standings) inside.1
    | inr behind ↦ elim behind.storages [
      | inl same ↦ ap (λ (u : World Val). length u.standings) same
      | inr more ↦ added-long d s whole p n live old bag is cells behind.entries behind.now behind.stood w more.1
    ]
  ]

  pub put-leaves : (number : ℕ) (w : World Val) → PutsNumber d.world p number old bag w → IsBag storage_in bag_length w bag → BeginsLine d →
      (names : List (Option ℕ)) → (w ≡ d.world → names ≡ d.names) → LosesNames (with_bag_at d n bag) (with_it w names d.dates) →
      LeavesSound d (with_it w names d.dates)
  put-leaves number w (same_cells, puts) its line names still lost = elim puts [
    | inl inside ↦
        (let same = inside.1 in
        subst (λ (u : World Val). LeavesSound d (with_it u names d.dates)) (sym same)
        (same-leaves was.entries was.lies (stands-as inside.0.others) (its-as inside.0.others) names (still same) d.dates
        (dated-same d (with_it d.world names d.dates) refl refl)))
    | inr behind ↦ elim behind.storages [
      | inl same ↦
          subst (λ (u : World Val). LeavesSound d (with_it u names d.dates)) (sym same)
          (same-leaves behind.entries behind.stood (in-place behind same) (subst (λ (u : World Val). IsBag storage_in bag_length u bag) same its) names
          (still same) d.dates (dated-same d (with_it d.world names d.dates) refl refl))
      | inr more ↦
          added-leaves d s whole p n live old bag is cells behind.entries behind.now behind.stood w more.1 behind.stands its names d.dates lost line
          (added-dated d s whole p n live old bag is cells behind.entries behind.now behind.stood w more.1 behind.stands its names d.dates lost line refl)
    ]
  ] where
    in-place : (b : PutsBehind d.world p number old bag w) → w ≡ d.world → StandsOn d.world bag b.entries
    in-place b same =
        let there = subst (λ (u : World Val). StandsOn u bag b.now) same b.stands in
        let begins = subst (λ (st : Stack Body). Begins d.world (cell_in st) b.now) cells.stack there.stack in
        subst (λ (es : List (Entry Val)). StandsOn d.world bag es) (same-list d.world (stack_of old) b.now b.entries begins b.stood.stack) there

  -- ---- numbers are taken out

  gone-so : (gone rest entries : List (Entry Val)) (w : World Val) → entries ≡ gone ++ rest → w ≡ let_go_many d.world p (stack_of old) gone rest →
      StandsOn d.world old entries → StandsOn w bag rest → IsBag storage_in bag_length w bag → (dates : List ℕ) →
      IsDatedWithin d (with_it w d.names dates) → LeavesSound d (with_it w d.names dates)
  gone-so gone rest entries w split_so world stood stands its dates within =
      subst (λ (u : World Val). LeavesSound d (with_it u d.names dates)) (sym world)
      (gone-leaves d s whole p n live old bag is cells gone rest (subst (λ (es : List (Entry Val)). StandsOn d.world old es) split_so stood)
      (subst (λ (u : World Val). StandsOn u bag rest) world stands) (subst (λ (u : World Val). IsBag storage_in bag_length u bag) world its) dates
      (subst (λ (u : World Val). IsDatedWithin d (with_it u d.names dates)) world within))

  pub take-leaves : (number : ℕ) (w : World Val) → TakesNumber d.world p number old bag w → IsBag storage_in bag_length w bag → (dates : List ℕ) →
      IsDatedWithin d (with_it w d.names dates) → LeavesSound d (with_it w d.names dates)
  take-leaves number w (same_cells, takes) its dates within = elim takes [
    | inl inside ↦
        (let same = inside.1 in
        subst (λ (u : World Val). LeavesSound d (with_it u d.names dates)) (sym same)
        (same-leaves was.entries was.lies (stands-as inside.0.others) (its-as inside.0.others) d.names refl dates (within-all w same d.names dates within)))
    | inr behind ↦ elim behind.storages [
      | inl still ↦
          (let same = still.0 in
          subst (λ (u : World Val). LeavesSound d (with_it u d.names dates)) (sym same)
          (same-leaves behind.entries behind.stood
          (subst (λ (es : List (Entry Val)). StandsOn d.world bag es) still.1 (subst (λ (u : World Val). StandsOn u bag behind.now) same behind.stands))
          (subst (λ (u : World Val). IsBag storage_in bag_length u bag) same its) d.names refl dates (within-all w same d.names dates within)))
      | inr gone ↦
          (let one = removes-one d.world p (stack_of old) behind.entries w behind.now behind.stood.shelves gone in
          gone-so (one.0 ∷ []) behind.now behind.entries w one.1 one.2 behind.stood behind.stands its dates within)
    ]
  ]

  pub drain-leaves : (numbers : List ℕ) (w : World Val) → TakesAll d.world p old bag numbers w → IsBag storage_in bag_length w bag → (dates : List ℕ) →
      IsDatedWithin d (with_it w d.names dates) → LeavesSound d (with_it w d.names dates)
  drain-leaves numbers w takes its dates within =
      gone-so takes.entries [] takes.entries w (sym (append-nil takes.entries))
      (removes-all takes.entries d.world p (stack_of old) w takes.stood.shelves takes.storages) takes.stood takes.stands its dates within
