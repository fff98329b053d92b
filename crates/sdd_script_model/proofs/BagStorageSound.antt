-- What is always true of a state is true after a storage more is put behind a bag
use Rattle.sdd_script_model.proofs.Words.{◌≡◌, ◌≢◌, ◌+◌, ◌≤◌, inl, inr, ℕ, List, Bool, true, false, Option, Some, None, IsSome, is_some, length, slice_index_or, refl, sym, ap, ◌∙◌, subst, arith, ◌==◌, ◌&&◌, not, if◌then◌else◌, cases_eq, false≢true, length-set, set-set, set_comm, Entries, IsEmptyAt, entry_at, CellContents, Standing, Shared, is_waiting, Claim, owner_of, right_to, claims, one, owner_held, IsLedger, Keeps, Moves, changes_cell, makes, makes_cell, times_held, World, IsPlaceOf, standing_at, value_at, held_in, made_as, nulled, owner_given, with_cell, IsWhole, once_if, in_value-out, ledger-laws, once-where, out-some, filled-there, IsAmong, Entry, first_slot, left, linked_in, HasSameCells, IsBag, AddsStorage, StorageName, AreSpare, IsStored, StandsOn, LosesNames, HasLists, BeginsLine, NumberBag, ScriptState, IsListCell, IsSecondCell, bag_at, bag_length, in_world, name_at, with_bag_at, number_in, HoldsOnlyOlder, IsCalled, IsSound, contained, named, named_owners, Val, body_of, holdings_of, link_of, owner_in, storage_in, common_steps, trimmed-plain}
use Rattle.sdd_core.specs.declared.tag.Tag.TheVariants.{None as no_tag}
use Rattle.sdd_space.specs.Shared.{slot_of}
use Rattle.sdd_bag.proofs.StackStorages.{plain-left}
use Rattle.sdd_script_model.proofs.Lemmas.{IsMidway, LeavesSound, among-apart, link-apart-from, list-apart-from, list-right, second-apart-from, second-right, accounts, at-other, at-same, Passes, frames-start, passes-making, passes-then, filled-long, holds-so, null, same-once, link-inside, dated-stands, BagsStay, IsReserved, held-once, off-held, off-link, off-other, off-owned, owned-cell, stays-on, stays-then, starts}
use Rattle.sdd_script_model.proofs.BagChains.{IsInHand, begins-in_hand, has-apart, own_of, stack_of, with_bag_cells}
use Rattle.sdd_script_model.proofs.BagNumbersSound.{after, as-many, join, others, shows-sound, split}
use Rattle.sdd_script_model.proofs.StackChains.{IsBetween, between-as, goes-on}
use Rattle.sdd_script_model.proofs.StackSound.{IsDatedWithin, dated-all}
use Rattle.sdd_bag.specs.Storages as storages

module _ (d : ScriptState) (s : IsSound d) (whole : IsWhole d.world) (p n : ℕ) (live : IsPlaceOf d.world p) (old bag : NumberBag)
    (is : bag_at d.bags n ≡ Some old) (cells : HasSameCells old bag) (es fs : List (Entry Val)) (stood : StandsOn d.world old es) (w : World Val)
    (adds : AddsStorage storage_in d.world p old.overflow.stack es w fs) where
  abbrev cell : ℕ
  cell = adds.storage.cell

  abbrev x : Val
  x = adds.adds.pushes.entry

  abbrev l : ℕ
  l = link_of x

  abbrev k : ℕ
  k = slot_of adds.adds.owner

  abbrev c : ℕ
  c = stack_of old

  abbrev rest : ScriptState
  rest = others d n old is

  abbrev mine : Claim → ℕ
  mine = with_bag_cells d n (own_of old) c

  -- ---- the world, step by step

  abbrev w1 : World Val
  w1 = nulled d.world cell

  abbrev w2 : World Val
  w2 = nulled w1 l

  abbrev w3 : World Val
  w3 = made_as w2 k x (Shared 1)

  abbrev in_front : CellContents
  in_front = record { held = Some k; tag = no_tag }

  abbrev behind_it : CellContents
  behind_it = record { held = first_slot es; tag = no_tag }

  abbrev w4 : World Val
  w4 = with_cell w3 c in_front

  abbrev w5 : World Val
  w5 = with_cell w4 l behind_it

  free-l : IsEmptyAt w1.cells l
  free-l = adds.adds.pushes.link

  free-k : IsEmptyAt w2.standings k
  free-k = adds.adds.pushes.list.free

  -- a cell that was there is none of the new ones
  off-cell : (i : ℕ) (y : CellContents) → entry_at d.world.cells i ≡ Some y → i ≢ cell
  off-cell i y there same =
      absurd (let never : None ≡ Some y = sym adds.free.1 ∙ ap (λ (j : ℕ). entry_at d.world.cells j) (sym same) ∙ there in cc)

  off-l : (i : ℕ) (y : CellContents) → entry_at d.world.cells i ≡ Some y → i ≢ l
  off-l i y there same = grind (arith, common_steps)

  far-link : c ≢ l
  far-link = off-l c behind_it stood.stack.begins

  -- what it is in the end
  world-is : w ≡ w5
  world-is =
      let put : Entries Standing → World Val =
      λ ss. record (linked_in (made_as w2 k x (Shared 2)) c no_tag l k (first_slot es)) { standings = ss } in
      let made2 : World Val = made_as w2 k x (Shared 2) in
      let between_is : adds.adds.between ≡ linked_in made2 c no_tag l k (first_slot es) =
      adds.adds.pushes.list.world
      ∙ ap (λ (v : World Val). linked_in v c no_tag l k (first_slot (left es)))
      (trimmed-plain storage_in bag_length made2 p c no_tag d.world es stood.shelves)
      ∙ ap (λ (xs : List (Entry Val)). linked_in made2 c no_tag l k (first_slot xs)) (plain-left storage_in bag_length d.world es stood.shelves) in
      let stands : standing_at made2 k ≡ Some (Shared 2) = at-same w2.standings k (Some (Shared 2)) None free-k.0 in
      adds.adds.world
      ∙ ap (λ (v : World Val). owner_given v p k (standing_at v k)) between_is
      ∙ ap (λ (o : Option Standing). owner_given (linked_in made2 c no_tag l k (first_slot es)) p k o) stands
      ∙ ap put (set-set w2.standings k (Some (Shared 2)) (Some (Shared 1)))
      ∙ ap (λ (cs : Entries CellContents). record w3 { cells = cs })
      (sym (set_comm w3.cells c l (Some in_front) (Some behind_it) far-link))

  -- ---- in hand

  start : IsInHand d n (own_of old) c d.world es
  start = begins-in_hand d s whole n old is es stood

  b1 : IsBetween rest w1 (λ u. mine u + one (right_to cell) u)
  b1 = goes-on start.between (makes_cell d.world cell null adds.free) tt tt mine (λ u. omega arith)

  b2 : IsBetween rest w2 (λ u. mine u + one (right_to cell) u + one (right_to l) u)
  b2 = goes-on b1 (makes_cell w1 l null free-l) tt tt (λ u. mine u + one (right_to cell) u) (λ u. omega arith)

  -- the entry is of a storage with the cell
  body-is : storage_in (body_of x) ≡ Some adds.storage
  body-is = ap storage_in adds.adds.pushes.value ∙ adds.shows

  body-holds : owner_in (body_of x) ≡ storages.holdings_of adds.storage
  body-holds = owned-cell (body_of x) adds.storage body-is

  cell-claims : (u : Claim) → claims (storages.holdings_of adds.storage) u ≡ one (right_to cell) u
  cell-claims (owner_of j) = refl
  cell-claims (right_to i) = omega (arith, once-where (cell == i))

  takes-in : (u : Claim) → claims (holdings_of x) u ≡ one (right_to cell) u + one (right_to l) u
  takes-in u = omega (arith, holds-so x u, ap (λ hs. claims hs u) body-holds, cell-claims u)

  making : Moves holdings_of w2 (claims (holdings_of x)) w3 (one (owner_of k))
  making = makes w2 k x (Shared 1) (inr refl) free-k

  made : Keeps holdings_of making
  made = (ledger-laws holdings_of w2).kept b2.whole _ _ w3 making

  before-made : IsLedger holdings_of (λ u. mine u + contained rest u + claims (holdings_of x) u) w2
  before-made u = omega (arith, b2.ledger u, takes-in u)

  abbrev mid : ScriptState
  mid = in_world rest w3

  value-k : value_at w3 k ≡ Some x
  value-k = at-same w2.values k (Some x) None (omega (arith, free-k.0, filled-long d.world.values d.world.standings whole.filled))

  none-there : (v : Option Val) → is_some v ≡ false → v ≡ None
  none-there None none = refl
  none-there (Some v) none = absurd (cc)

  no-value : value_at d.world k ≡ None
  no-value = none-there (value_at d.world k) (filled-there d.world k whole.filled ∙ ap is_some free-k.1)

  value-far : (j : ℕ) (y : Val) → value_at d.world j ≡ Some y → j ≢ k
  value-far j y there same = absurd (let never : None ≡ Some y = sym no-value ∙ ap (λ (i : ℕ). value_at d.world i) (sym same) ∙ there in cc)

  spare-mid : AreSpare w3
  spare-mid i y = elim (cases_eq y.slot k) [
    | inl same ↦
        (let both : Some x ≡ Some y.value = sym value-k ∙ ap (λ (j : ℕ). value_at w3 j) (sym same) ∙ y.there in
        let value : x ≡ y.value = cc in
        let shown : Some adds.storage ≡ Some y.storage = sym body-is ∙ ap (λ (v : Val). storage_in (body_of v)) value ∙ y.is in
        let cell_is : cell ≡ i = (let one_storage : adds.storage ≡ y.storage = cc in ap (λ (st : StorageName). st.cell) one_storage) ∙ y.cell in
        let null1 : entry_at w1.cells cell ≡ Some null = at-same d.world.cells cell (Some null) None adds.free.0 in
        let far : cell ≢ l = λ e. absurd (let never : None ≡ Some null = sym free-l.1 ∙ ap (λ (j : ℕ). entry_at w1.cells j) (sym e) ∙ null1 in cc) in
        ap (λ (j : ℕ). held_in (entry_at w3.cells j)) (sym cell_is) ∙ ap held_in (at-other w1.cells l cell (Some null) None far ∙ null1))
    | inr far ↦
        b2.spare i (record {
          slot = y.slot;
          value = y.value;
          there = sym (at-other w2.values k y.slot (Some x) None far) ∙ y.there;
          storage = y.storage;
          is = y.is;
          cell = y.cell;
        })
  ]

  b3 : IsBetween mid w3 (λ u. mine u + one (owner_of k) u)
  b3 = record {
    ledger = λ u. omega (arith, made.ledger (λ v. mine v + contained rest v) before-made u);
    bags = λ m a gs at stands. stands;
    spare = spare-mid;
    whole = made.whole;
    frames = frames-start w3;
  }

  begins-three : entry_at w3.cells c ≡ Some behind_it
  begins-three =
      at-other w1.cells l c (Some null) None far-link
      ∙ at-other d.world.cells cell c (Some null) None (off-cell c behind_it stood.stack.begins) ∙ stood.stack.begins

  b4 : IsBetween mid w4 (λ u. mine u + owner_held (first_slot es) u)
  b4 =
      goes-on b3 (changes_cell w3 c behind_it in_front begins-three) tt
      (off-other mid w3 (λ u. mine u + one (owner_of k) u) b3.ledger b3.bags c (omega (arith, same-once c))) mine (λ u. omega arith)

  no-storage : IsStored mid.bags w3 k → ⊥
  no-storage = off-owned mid w3 (λ u. mine u + one (owner_of k) u) b3.ledger b3.bags k (omega (arith, same-once k))

  clear-four : entry_at w4.cells l ≡ Some null
  clear-four = at-other w3.cells c l (Some in_front) None (λ same. far-link (sym same)) ∙ at-same w1.cells l (Some null) None free-l.0

  b5 : IsBetween mid w5 mine
  b5 =
      between-as
      (goes-on b4 (changes_cell w4 l null behind_it clear-four) tt
      (off-link mid w4 (λ u. mine u + owner_held (first_slot es) u) b4.ledger b4.bags k x value-k no-storage) mine (λ u. omega arith))
      (λ u. omega arith)

  -- ---- what it leaves alone

  stay : BagsStay rest.bags d.world w5
  unfolding making
  stay = stays-then rest.bags d.world w3 w5 (stays-on rest making b2.whole mine before-made tt b2.bags) b5.bags

  passes : Passes d.world w5
  passes =
      passes-then
      (passes-making b2.frames.passes b2.whole k x (Shared 1) (inr refl) free-k)
      b5.frames.passes (λ j waits idle. absurd (false≢true (sym idle ∙ waits)))

  abbrev total : Claim → ℕ
  total u = named d u + contained d u

  midway : IsMidway d d.world (named d)
  midway = starts d s whole

  -- a cell that is there, and none of a storage's
  cell-still : (i : ℕ) (y : CellContents) → entry_at d.world.cells i ≡ Some y → i ≢ c → entry_at w5.cells i ≡ entry_at d.world.cells i
  cell-still i y there far =
      at-other w4.cells l i (Some behind_it) None (off-l i y there)
      ∙ at-other w3.cells c i (Some in_front) None far
      ∙ at-other w1.cells l i (Some null) None (off-l i y there)
      ∙ at-other d.world.cells cell i (Some null) None (off-cell i y there)

  stack-kept : (i : ℕ) → (IsReserved d d.world i → ⊥) → i ≢ c
  stack-kept i off same =
      off (inl (record { entries = es; storages = record { name = n; bag = old; is = is; stands = stood }; cell = inl (sym same) }))

  some-cell : (o : Option CellContents) → is_some o ≡ true → (y : CellContents) × (o ≡ Some y)
  some-cell None never = absurd (false≢true never)
  some-cell (Some y) there = (y, refl)

  right-cell : (i : ℕ) → 1 ≤ total (right_to i) → (y : CellContents) × (entry_at d.world.cells i ≡ Some y)
  right-cell i mine_so = some-cell (entry_at d.world.cells i) (((ledger-laws holdings_of d.world).tells total s.ledger).alone i mine_so).0

  right-still : (i : ℕ) → 1 ≤ contained d (right_to i) → (IsReserved d d.world i → ⊥) → entry_at w5.cells i ≡ entry_at d.world.cells i
  right-still i mine_so off = let at = right-cell i (omega (arith, mine_so)) in cell-still i at.0 at.1 (stack-kept i off)

  link-cell : (j : ℕ) (y : Val) → value_at d.world j ≡ Some y → (z : CellContents) × (entry_at d.world.cells (link_of y) ≡ Some z)
  link-cell j y there =
      some-cell (entry_at d.world.cells (link_of y))
      (taken (is_some (entry_at d.world.cells (link_of y))) (omega (arith, s.ledger (right_to (link_of y)), link-inside d.world total s.ledger j y there)))
    where
      taken : (b : Bool) → 1 ≤ once_if b → b ≡ true
      taken true some = refl
      taken false some = absurd (omega (arith, some))

  value-still : (j : ℕ) (y : Val) → value_at d.world j ≡ Some y → value_at w5 j ≡ Some y
  value-still j y there = at-other d.world.values k j (Some x) None (value-far j y there) ∙ there

  pub added-long : length w.standings ≡ length d.world.standings
  added-long = ap (λ (v : World Val). length v.standings) world-is ∙ length-set d.world.standings k (Some (Shared 1))

  -- ---- and what it makes

  module _ (stands : StandsOn w bag fs) (its : IsBag storage_in bag_length w bag) (names : List (Option ℕ)) (dates : List ℕ)
      (lost : LosesNames (with_bag_at d n bag) (after d s whole p n live old bag is cells w fs names dates)) (line : BeginsLine d) where
    abbrev pub after_added : ScriptState
    after_added = after d s whole p n live old bag is cells w fs names dates

    abbrev last : ScriptState
    last = after d s whole p n live old bag is cells w5 fs names dates

    stands-now : StandsOn w5 bag fs
    stands-now = subst (λ (v : World Val). StandsOn v bag fs) world-is stands

    k-among : IsAmong k fs
    k-among = subst (λ (gs : List (Entry Val)). IsAmong k gs) (sym adds.adds.entries) (inl refl)

    -- the entries that were there are behind it
    old-among : (j : ℕ) → IsAmong j es → IsAmong j fs
    old-among j among =
        subst (λ (gs : List (Entry Val)). IsAmong j gs) (sym adds.adds.entries)
        (inr (subst (λ (gs : List (Entry Val)). IsAmong j gs) (sym (plain-left storage_in bag_length d.world es stood.shelves)) among))

    stored-now : (j : ℕ) → IsStored d.bags d.world j → IsStored last.bags w5 j
    stored-now j y = join d n old is w5 stay bag fs stands-now j (elim (split d n old is es stood j y) [
      | inl other ↦ inl other
      | inr among ↦ inr (old-among j among)
    ])

    names-if : (a b : Bool) (o : Option ℕ) → b ≡ true → (if a && not b then None else o) ≡ o
    names-if a b o h = grind (arith, common_steps)

    -- what was there has its name
    kept-name : (j : ℕ) → IsSome (standing_at d.world j) → slice_index_or names j None ≡ name_at d j
    kept-name j some = lost.names j ∙ names-if (is_some (standing_at w j)) (is_some (standing_at d.world j)) (name_at d j) some

    no-name : slice_index_or names k None ≡ None
    no-name = grind (arith, common_steps)

    was-there : (j : ℕ) → j ≢ k → IsSome (standing_at w5 j) → IsSome (standing_at d.world j)
    was-there j far some = subst (λ (o : Option Standing). IsSome o) (at-other d.world.standings k j (Some (Shared 1)) None far) some

    called : (j : ℕ) → j ≢ k → IsSome (standing_at d.world j) → (o : Option ℕ) → name_at d j ≡ o → IsCalled d j o →
        IsCalled last j (slice_index_or names j None)
    called j far some None e (inl waits) =
        rw (kept-name j some, e) (inl (ap is_waiting (at-other d.world.standings k j (Some (Shared 1)) None far) ∙ waits))
    called j far some None e (inr at) = rw (kept-name j some, e) (inr (stored-now j at))
    called j far some (Some i) e (lt, slot) = rw (kept-name j some, e) (lt, slot)

    lists-now : HasLists (IsListCell d) (IsSecondCell d) (IsStored last.bags w5) w5
    lists-now =
        has-apart (IsListCell d) (IsSecondCell d) (IsStored d.bags d.world) (IsStored last.bags w5) d.world w5 s.lists
        (λ i y. right-still i (list-right d i y) (list-apart-from midway i y))
        (λ i b y. right-still b (second-right d i b y) (second-apart-from midway i b y))
        (λ j y there off. (let at = link-cell j y there in cell-still (link_of y) at.0 at.1 (stack-kept (link_of y) (link-apart-from midway j y there off))))
        value-still
        (λ j at. among-apart midway at.cell j no_tag at.entries (list-apart-from midway at.cell at.begun) at.list at.among)
        (λ j y there off loose i among. among-apart midway (link_of y) i loose.tag loose.entries (link-apart-from midway j y there off) loose.list among)
        (λ i b j y holds. off-held d d.world (named d) s.ledger midway.bags b j (λ kept. second-apart-from midway i b y (inl kept)) holds)
        (λ j y at not_now. elim (cases_eq j k) [
          | inl same ↦
              absurd (not_now (subst (λ (i : ℕ). IsStored last.bags w5 i) (sym same)
              (join d n old is w5 stay bag fs stands-now k (inr k-among))))
          | inr far ↦
              inr (sym (at-other d.world.values k j (Some x) None far) ∙ at, (λ was. not_now (stored-now j was)))
        ])

    -- the new value holds no owner
    holds-none : (j : ℕ) → times_held holdings_of j (Some x) ≡ 0
    holds-none j = omega (arith, takes-in (owner_of j))

    older : HoldsOnlyOlder last
    older j i some = elim (cases_eq j k) [
      | inl same ↦
          absurd (omega (
            arith,
            some,
            ap (λ (m : ℕ). times_held holdings_of i (value_at w5 m)) same,
            ap (times_held holdings_of i) value-k,
            holds-none i,
          ))
      | inr far ↦
          (let was : value_at w5 j ≡ value_at d.world j = at-other d.world.values k j (Some x) None far in
          let held : 1 ≤ times_held holdings_of i (value_at d.world j) = omega (arith, some, ap (times_held holdings_of i) was) in
          let out = in_value-out holdings_of d.world j i (named_owners d) (accounts d s) held in
          let names_i = kept-name i (out-some (standing_at d.world i) out) in
          let names_j = kept-name j (valued-some j (value_at d.world j) refl held) in
          omega (arith, s.layered j i held, ap number_in names_i, ap number_in names_j))
    ] where
      valued-some : (j : ℕ) (v : Option Val) → value_at d.world j ≡ v → 1 ≤ times_held holdings_of i v → IsSome (standing_at d.world j)
      valued-some j None e some_held = absurd (omega (arith, some_held))
      valued-some j (Some y) e some_held = sym (filled-there d.world j whole.filled) ∙ ap is_some e

    pub added-leaves : IsDatedWithin d after_added → LeavesSound d after_added
    added-leaves within =
        subst (λ (v : World Val). LeavesSound d (after d s whole p n live old bag is cells v fs names dates)) (sym world-is)
        (shows-sound d s whole p n live old bag is cells w5 fs names dates (record {
          stay = stay;
          stands = stands-now;
          its = subst (λ (v : World Val). IsBag storage_in bag_length v bag) world-is its;
          passes = passes;
          stocked = record {
            named = λ j some. elim (cases_eq j k) [
              | inl same ↦
                  subst (λ (i : ℕ). IsCalled last i (slice_index_or names i None)) (sym same)
                  (rw no-name (inr (join d n old is w5 stay bag fs stands-now k (inr k-among))))
              | inr far ↦ called j far (was-there j far some) (name_at d j) refl (s.stocked.named j (was-there j far some))
            ];
            names = lost.long ∙ s.stocked.names ∙ sym long;
            dates = within.1 ∙ s.stocked.dates ∙ sym long;
            few = omega (arith, lost.long, s.stocked.few);
          };
          ledger = λ u. omega (arith, b5.ledger u, as-many d s whole p n live old bag is cells u);
          lists = lists-now;
          spare = b5.spare;
          layered = older;
          home = refl;
          still = λ j y. kept-name j (stored-some j y);
          unnamed = λ j among. elim (cases_eq j k) [
            | inl same ↦ ap (λ (i : ℕ). slice_index_or names i None) same ∙ no-name
            | inr far ↦
                (let old_one = was-old j far among in
                kept-name j (ap is_some (held-sole j old_one)) ∙ (s.bags n old is).unnamed es stood j old_one)
          ];
          made = omega (arith, line.made);
        }) (dated-all d last s.stocked long (subst (λ (v : World Val). IsDatedWithin d (after d s whole p n live old bag is cells v fs names dates)) world-is
        within))) where
          long : length w5.standings ≡ length d.world.standings
          long = length-set d.world.standings k (Some (Shared 1))

          held-sole : (j : ℕ) → IsAmong j es → standing_at d.world j ≡ Some (Shared 1)
          held-sole j among =
              (held-once d d.world (named d) s.ledger midway.bags j
              (record { entries = es; storages = record { name = n; bag = old; is = is; stands = stood }; among = among })).stands

          stored-some : (j : ℕ) → IsStored rest.bags d.world j → IsSome (standing_at d.world j)
          stored-some j y =
              ap is_some (held-once rest d.world mine start.between.ledger start.between.bags j y).stands

          was-old : (j : ℕ) → j ≢ k → IsAmong j fs → IsAmong j es
          was-old j far among =
              elim (subst (λ (gs : List (Entry Val)). IsAmong j gs) adds.adds.entries among) [
                | inl here ↦ absurd (far (sym here))
                | inr there ↦
                    subst (λ (gs : List (Entry Val)). IsAmong j gs) (plain-left storage_in bag_length d.world es stood.shelves) there
              ]

    -- nothing begins to wait
    pub added-dated : dates ≡ d.dates → IsDatedWithin d after_added
    added-dated same =
        let dated = dated-stands d after_added k (Shared 1) refl same (ap (λ (v : World Val). v.standings) world-is) in
        (λ j lt. dated.dated j, dated.long)
