-- The end of a script: no guard is open, one participant gives up all that is left in hand, and then all goes with the world
use Rattle.sdd_script.proofs.Words.{Acts, AnyCell, AnyGuardOpen, AnyOwner, AreSpare, At, Bool, CanNest, Environment, GuardName, HasLists, HoldsLess, IsLedger, IsListCell, IsNullCell, IsPlaceOf, IsSecondCell, IsSome, IsSound, IsSpentTo, IsStored, IsTied, IsTrue, IsWhole, KeepsSlots, LeavesSound, List, NamedGuard, None, NumberBag, OpenSince, Option, OwnerOrCell, PlaceName, PrivateCollector, Raw, Reply, ScriptState, Share, Sole, Some, Standing, Val, Vec, World, [], accounts, ap, arith, at_home-spent, bag_at, body_of, cell_closed, cell_holding, cell_number, closed, collector_holding, contained, state_of, entry_at, false, get_or-map, get_or_default, get_or_past, guarding, if◌then◌else◌, has-stored, held_in, holding_at, holdings_of, in_world, inl, inr, inside, is_of, is_open, is_out, is_some, is_waiting, length, less-same, link_of, live-is, ltb-true, map, map-set, newest_holding, oldest_holding, opened, opening_at, option_map, owned-out, owner_given, owner_holding, owner_in, phase_at, place_at, refl, retired, revived, right_to, shared_slot, slice_index_or, slice_set, slots-same, sole_slot, spare-as, spent_twice, stack_holding, standing_at, starts, stocked-as, storage_in, subst, sym, true, value_at, with_standing, without_cell, ℕ, ◌+◌, ◌<◌, ◌∙◌, ◌∷◌, ◌≡◌, ◌≢◌, AreAllSpent, AreAtHome, AreSpent, BagsStay, CellsFall, GivesUp, GoesOn, HasMade, IsAccounted, IsEnding, IsOf, IsSpent, KeepsTold, ParticipantsMatch, ReaderId, SpendsGuard, StorageName, accounted-as, all-go, at-home, at-same, bags-still, cell-there, cell_closed-leaves, collector-spent, common_steps, date_at, dated-all, state_under, finishes, get_or-map-range_with_len, has_right, is_own_cell, is_stack_cell, later, length-map-range_with_len, line-begins, linked, moves, named_among, named_owners, nat_lt, owner_held, owns, range_with_len, reader_at, released-leaves, retired-leaves, retires, sound-closed, sound-later, sound-opened, spends_cell, stays-as, stored-still, takes_back_raw}
use Rattle.sdd_script_model.proofs.HoldsOnlyOlder.{layered-less}
use Rattle.sdd_script_model.proofs.ListChanges.{has-same}
use Rattle.sdd_script_model.proofs.ParticipantsMatch.{attended-same, keeps-time}
use Rattle.sdd_script_model.proofs.SmallSteps.{keeps-closed, keeps-given, keeps-opened}
use Rattle.sdd_script_model.specs.Sound.{named}
use Rattle.sdd_world.proofs.Sweeps.{all-uncounted}
use Rattle.sdd_world.specs.Closing.{AllGo, cell_held, held_by}
use Rattle.sdd_participants.specs.EpochState.{nobody}
use Rattle.sdd_script_text.specs.Actions as call
use Rattle.sdd_space.specs.Collector as collector
use Rattle.sdd_script.proofs.Ranks.{link-falls, rank, value-falls}
use Rattle.sdd_space.specs.Owned as owned
use Rattle.sdd_space.specs.Shared as shared
use Rattle.sdd_participants.specs.declared.standing.Standing.TheVariants as standing

-- ---- nothing is told otherwise

module _ (w : World Val) where
  abbrev Told : World Val → Type 0
  Told u = KeepsTold w u

  pub told-given : (u : World Val) (p k : ℕ) (s : Option Standing) → standing_at u k ≡ s → Told u → Told (owner_given u p k s)
  told-given u p k s is told = keeps-given Told (λ v q j out t. t) (λ v c t. t) (λ v j n m same t. t) u p k s is told

  pub told-cell : (u : World Val) (p c : ℕ) → Told u → Told (cell_closed u p c)
  told-cell u p c told = keeps-closed Told (λ v q j out t. t) (λ v b t. t) (λ v j n m same t. t) u p c told

  told-opened : (u : World Val) (p : ℕ) → Told u → Told (opened holdings_of u p)
  told-opened u p told =
      keeps-opened Told (λ v q j out t. t) (λ v c t. t) (λ v j n m same t. t) (λ v j t. t) (λ v time t. t) (λ v j t. t) u p told

pub told-then : (u v w : World Val) → KeepsTold u v → KeepsTold v w → KeepsTold u w
told-then u v w a b = grind (arith, common_steps)

-- ---- names, and what stands for them

module _ {X : Type 0} (f : X → OwnerOrCell) (xs : List (Option X)) (n : ℕ) where
  pub named-at : (x : X) → Some x ≡ slice_index_or xs n None → holding_at (map (option_map f) xs) n ≡ Some (f x)
  named-at x mine = get_or-map (option_map f) xs n None ∙ ap (option_map f) (sym mine)

  pub spent-at : (ys : List (Option X)) → ys ≡ slice_set xs n None → map (option_map f) ys ≡ slice_set (map (option_map f) xs) n None
  spent-at ys taken = ap (map (option_map f)) taken ∙ map-set (option_map f) xs n None

  none-at : AreSpent xs → holding_at (map (option_map f) xs) n ≡ None
  none-at spent = get_or-map (option_map f) xs n None ∙ ap (option_map f) (spent n)

-- a name that was spent is spent again
pub still-spent : {X : Type 0} (xs ys : List (Option X)) (n : ℕ) → ys ≡ slice_set xs n None → None ≡ slice_index_or xs n None → ys ≡ xs
still-spent xs ys n taken none = taken ∙ sym (spent_twice xs n (sym none))

-- the names below k of one table are spent, each so, and no other table is otherwise
pub record Spends {X : Type 0} (so : (old new : Environment) → Type 0) (items : Environment → List (Option X))
    (only : (old new : Environment) → Environment) (old new : Environment) (k : ℕ) : Type 0 where
  pub goes : so old new
  pub spent : IsSpentTo k (length (items old)) (items new)
  pub rest : new ≡ only old new

module _ {X : Type 0} {so : (old new : Environment) → Type 0} {items : Environment → List (Option X)} {only : (old new : Environment) → Environment}
    {old : Environment} where
  pub spends-none : so old old → old ≡ only old old → Spends so items only old old 0
  spends-none goes same = record { goes = goes; spent = record { spent = λ j lt. absurd (omega (arith, lt)); long = refl }; rest = same }

  pub spends-next : {mid : Environment} {k : ℕ} → ((u v : Environment) → only (only old u) v ≡ only old v) → Spends so items only old mid k →
      (new : Environment) → so old new → items new ≡ slice_set (items mid) k None → new ≡ only mid new → Spends so items only old new (k + 1)
  spends-next {mid} {k} twice was new goes taken same = grind (arith, common_steps)

-- where nothing stands for a name, nothing is in hand
pub none-in : {X Y : Type 0} (f : Option X → Option Y) → ((x : X) → f (Some x) ≡ f None → ⊥) → (xs : List (Option X)) →
    ((k : ℕ) → slice_index_or (map f xs) k (f None) ≡ f None) → (k : ℕ) → slice_index_or xs k None ≡ None
none-in f some xs none k = (let same = sym (get_or-map f xs k None) ∙ none k in grind (arith, some))

-- ---- the dates of a line, whatever it leaves

module _ (d : ScriptState) (w : World Val) where
  abbrev date_in : ℕ → ℕ
  date_in s = if is_waiting (standing_at w s) then (if is_waiting (standing_at d.world s) then date_at d s else d.moment) else date_at d s

  abbrev pub dates_in : List ℕ
  dates_in = map date_in (range_with_len 0 (length d.dates))

  pub within : ((s : ℕ) → s < length d.dates → slice_index_or dates_in s 0 ≡ date_in s) × (length dates_in ≡ length d.dates)
  within = (
    λ s lt. get_or-map-range_with_len date_in 0 (length d.dates) s s 0 lt (omega arith),
    length-map-range_with_len date_in 0 (length d.dates),
  )

-- ---- where no guard is open

-- what is sound is so in another world, with other collectors, places and guards
module _ (d : ScriptState) (s : IsSound d) (w : World Val) (places guards : List (Option OpenSince)) (collectors : List (Option OwnerOrCell)) where
  abbrev elsewhere : ScriptState
  elsewhere = record d { world = w; places = places; guards = guards; collectors = collectors }

  sound-shut : KeepsSlots d.world w → IsLedger holdings_of (λ u. named elsewhere u + contained d u) w →
      HasLists (IsListCell d) (IsSecondCell d) (IsStored d.bags d.world) w → BagsStay d.bags d.world w → AreSpare w → HoldsLess d.world w →
      AreAtHome d collectors → w.jobs ≡ d.world.jobs → ParticipantsMatch elsewhere → ((q : ℕ) → IsTrue (is_open (place_at w q)) → ⊥) → IsSound elsewhere
  sound-shut slots ledger lists stay spare less home jobs attended shut =
      let stored = stored-still d elsewhere refl stay in
      record {
        stocked = stocked-as d elsewhere s.stocked refl refl refl slots stored;
        ledger = ledger;
        lists = has-stored stored lists;
        bags = bags-still d elsewhere s.bags refl stay slots.home (λ k x. refl);
        spare = spare;
        layered = layered-less d elsewhere s.layered less refl;
        home = at-home d elsewhere slots.home (assumption (home, s.home));
        attended = attended;
        kept = λ n k x e o waits since. absurd (shut x.place o);
        early = s.early;
        made = omega (arith, slots.made, s.made);
        deferred = rw jobs s.deferred;
        jobs = record { kept = λ n k x e o at since. absurd (shut x.place o); early = s.jobs.early; long = s.jobs.long ∙ ap length (sym jobs) };
        few = s.few;
      }

-- of one there is only the first
only-first : (x y : OpenSince) (n : ℕ) → opening_at (Some x ∷ []) n ≡ Some y → (n ≡ 0) × (x ≡ y)
only-first x y n h = grind (arith, common_steps)

module _ (d : ScriptState) (s : IsSound d) (shut : (g : ℕ) → opening_at d.guards g ≡ None) where
  no-guards : (p : ℕ) → (place_at d.world p).guards ≡ 0
  no-guards p = s.attended.opened p ∙ all-uncounted (is_of p) d.guards (λ g. ap (is_of p) (shut g))

  all-shut : (p : ℕ) → IsTrue (is_open (place_at d.world p)) → ⊥
  all-shut p o = omega (arith, ltb-true 0 (place_at d.world p).guards o, no-guards p)

  unguarded : AnyGuardOpen d.world → ⊥
  unguarded (p, x, lt, here, o) = all-shut p (subst (λ y. IsTrue (is_open y)) (sym (get_or_default d.world.time.places p nobody x lt ∙ here)) o)

  -- ---- one participant alone is there, and opens a guard

  module _ (p : ℕ) (live : IsPlaceOf (revived d.world p) p) where
    abbrev back : World Val
    back = revived d.world p

    abbrev here : OpenSince
    here = record { place = p; since = 0 }

    abbrev alone : ScriptState
    alone = record d { world = back; places = Some here ∷ []; guards = [] }

    attended-alone : ParticipantsMatch alone
    attended-alone = record {
      inside = λ n x e. subst (λ (y : OpenSince). IsPlaceOf back y.place) (only-first here x n e).1 live;
      apart = λ n m x y e f same. (only-first here x n e).0 ∙ sym (only-first here y m f).0;
      opened = no-guards;
      since = λ g y e. absurd (let never : None ≡ Some y = e in cc);
      early = λ n x e. omega (arith, ap (λ (y : OpenSince). y.since) (only-first here x n e).1);
      placed = λ some. (p, ap is_some (live-is back.time p live));
    }

    sound-alone : IsSound alone
    sound-alone =
        sound-shut d s back alone.places [] d.collectors (slots-same d.world back refl refl refl) s.ledger
        (has-same (IsListCell d) (IsSecondCell d) (IsStored d.bags d.world) d.world back refl refl s.lists)
        (stays-as d d.world back (λ n b es is stands. stands) (λ c x. refl) (λ k x. (refl, refl)))
        (spare-as d.world back (less-same d.world back refl) (λ c x. refl) s.spare) (less-same d.world back refl) s.home.collectors refl attended-alone all-shut

    abbrev open_world : World Val
    open_world = opened holdings_of back p

    abbrev since : ℕ
    since = d.moment + 1

    abbrev dates : List ℕ
    dates = dates_in (later alone) open_world

    abbrev begun : Bool → ScriptState
    begun nested = record d {
      moment = since;
      world = open_world;
      places = if nested then Some here ∷ [] else Some (record { place = p; since = since }) ∷ [];
      guards = Some (record { place = p; since = since }) ∷ [];
      dates = dates;
    }

    sound-begun : IsWhole back → IsSound (begun false)
    sound-begun whole =
        subst (λ (nested : Bool). IsSound (begun nested)) (ap (nat_lt 0) (no-guards p))
        (sound-opened (later alone) (sound-later alone sound-alone) whole 0 here refl dates (within (later alone) open_world)
        (line-begins alone sound-alone))

-- ---- in hand

module _ (h : Environment) (s : IsSound (state_of h)) (none : AreSpent h.guards.entries.items) where
  shut-in : (g : ℕ) → opening_at (state_of h).guards g ≡ None
  shut-in g = get_or-map guarding h.guards.entries.items g None ∙ ap guarding (none g)

  pub collector-home : (n : ℕ) (x : PrivateCollector Val) → Some x ≡ slice_index_or h.collectors.entries.items n None →
      collector.cells_home x ≡ h.world.home.cells
  collector-home n x mine = s.home.collectors n (collector_holding x) (named-at collector_holding h.collectors.entries.items n x mine)

  pub ends-collector : IsWhole h.world → (n : ℕ) (x : PrivateCollector Val) → Some x ≡ slice_index_or h.collectors.entries.items n None → (w : World Val)
      (collectors : Vec (Option (PrivateCollector Val))) → IsNullCell h.world (collector.collector_of x) →
      w ≡ without_cell h.world (collector.collector_of x) → collectors.items ≡ slice_set h.collectors.entries.items n None →
      IsSound (state_of (record h { world = w; collectors = record { entries = collectors } }))
  ends-collector whole n x mine w collectors null world taken =
      let d : ScriptState = state_of h in
      let c = collector.collector_of x in
      let left : List (Option OwnerOrCell) = slice_set d.collectors n None in
      let spent = spent-at collector_holding h.collectors.entries.items n collectors.items taken in
      let m = moves (starts d s whole) (spends_cell d.world c null.0 null.1) tt (named_among d.owners d.cells left)
      (collector-spent d.owners d.cells d.collectors n c (collector_holding x) (named-at collector_holding h.collectors.entries.items n x mine) refl)
      (λ u never. absurd never) in
      subst (λ (e : ScriptState). IsSound e)
      (sym (let same : state_of (record h { world = w; collectors = record { entries = collectors } })
      ≡ record d { world = without_cell d.world c; collectors = left } = cc (world, spent) in same))
      (sound-shut d s (without_cell d.world c) d.places d.guards left m.frames.slots (λ u. omega (arith, m.ledger u, ap (λ y. owner_held y u) null.2)) m.lists
      m.bags m.spare m.frames.values (at_home-spent d.world.home d.collectors n s.home.collectors) refl
      (attended-same d (record d { world = without_cell d.world c; collectors = left }) s.attended (keeps-time d.world (without_cell d.world c) refl) refl refl
      (omega arith) s.attended.placed) (all-shut d s shut-in))

  -- some place is not free where something was made
  pub some-placed : HasMade h → (p : ℕ) × IsSome (phase_at h.world.time p)
  some-placed made = grind (arith, common_steps)

  pub nests-so : (p : ℕ) (w : World Val) → w ≡ revived h.world p → 0 < w.time.nesting → CanNest w.time p
  nests-so p w is nests = rw (is, no-guards (state_of h) s shut-in p) (rw is at nests)

  -- a guard is opened at a place that is a participant's again
  pub begins : (p : ℕ) (w new : World Val) → w ≡ revived h.world p → IsPlaceOf w p → IsWhole w → new ≡ opened holdings_of w p →
      GoesOn h (record h { world = new }) p
  begins p w new is live whole did =
      let there : IsPlaceOf (revived h.world p) p = subst (λ (u : World Val). IsPlaceOf u p) is live in
      subst (λ (u : World Val). GoesOn h (record h { world = u }) p) (sym (did ∙ ap (λ (u : World Val). opened holdings_of u p) is)) (record {
        ending = record {
          moment = h.log.moment + 1;
          since = h.log.moment + 1;
          dates = dates (state_of h) s shut-in p there;
          sound = sound-begun (state_of h) s shut-in p there (subst (λ (u : World Val). IsWhole u) is whole);
        };
        told = told-opened h.world (revived h.world p) p (refl, refl, refl);
      })

-- ---- one participant gives up what has a name

pub goes-start : (h : Environment) (p : ℕ) → IsEnding h p → GoesOn h h p
goes-start h p e = record { ending = e; told = (refl, refl, refl) }

pub goes-then : {u v w : Environment} {p : ℕ} → GoesOn u v p → GoesOn v w p → GoesOn u w p
goes-then {u} {v} {w} a b = record { ending = b.ending; told = told-then u.world v.world w.world a.told b.told }

-- the guard is that place's
pub reader-opened : (w new : World Val) (p : ℕ) (r : ReaderId) → new ≡ opened holdings_of w p → r ≡ reader_at w p → r ≡ reader_at new p
reader-opened w new p r did is = is ∙ (rw (did, (told-opened w w p (refl, refl, refl)).0) refl)

pub reader-still : {v w : Environment} {p : ℕ} → GoesOn v w p → (r : ReaderId) → r ≡ reader_at v.world p → r ≡ reader_at w.world p
reader-still a r is = is ∙ (rw a.told.0 refl)

module _ (h : Environment) (p : ℕ) (e : IsEnding h p) where
  abbrev d : ScriptState
  d = state_under (state_of h) p e.moment e.since e.dates

  abbrev its_guard : OpenSince
  its_guard = record { place = p; since = e.since }

  pub live-in : IsPlaceOf h.world p
  live-in = e.sound.attended.inside 0 its_guard refl

  pub owner-home : (n : ℕ) (x : AnyOwner) → Some x ≡ slice_index_or h.owners.entries.items n None → IsOf h.world.home (owner_holding x)
  owner-home n x mine = e.sound.home.owners n (owner_holding x) (named-at owner_holding h.owners.entries.items n x mine)

  pub cell-home : (n : ℕ) (x : AnyCell) → Some x ≡ slice_index_or h.cells.entries.items n None → IsOf h.world.home (cell_holding x)
  cell-home n x mine = e.sound.home.cells n (cell_holding x) (named-at cell_holding h.cells.entries.items n x mine)

  -- a line leaves it so
  pub goes-on : {left : ScriptState} (new : Environment) → LeavesSound d left → state_under (state_of new) p e.moment e.since left.dates ≡ left →
      KeepsTold h.world left.world → GoesOn h new p
  goes-on {left} new leaves is told = grind (arith, common_steps)

  -- what is in hand is the same but for its memory
  pub goes-same : (new : Environment) → state_of new ≡ state_of h → GoesOn h new p
  goes-same new same = grind (arith, common_steps)

  module _ (whole : IsWhole h.world) (w : World Val) where
    module _ (n : ℕ) (owners : Vec (Option AnyOwner)) (taken : owners.items ≡ slice_set h.owners.entries.items n None) where
      abbrev without_it : Environment
      without_it = record h { world = w; owners = record { entries = owners } }

      pub ends-owner : (x : AnyOwner) → Some x ≡ slice_index_or h.owners.entries.items n None → GivesUp h.world p x w → GoesOn h without_it p
      ends-owner (Sole x) mine (stands, world) =
          let its = ap sole_slot (named-at owner_holding h.owners.entries.items n (Sole x) mine) in
          goes-on without_it (retired-leaves d e.sound whole p (owned.slot_of x) n live-in its stands)
          (rw (world, spent-at owner_holding h.owners.entries.items n owners.items taken) refl) (refl, refl, refl)
      ends-owner (Share x) mine (count, stands, (b, last), world) =
          let k = shared.slot_of x in
          let its = ap shared_slot (named-at owner_holding h.owners.entries.items n (Share x) mine) in
          goes-on without_it (released-leaves d e.sound whole p k n count b live-in its stands last)
          (rw (world, spent-at owner_holding h.owners.entries.items n owners.items taken) refl)
          (told-given h.world h.world p k (Some (standing.Shared count)) stands.shared (refl, refl, refl))

    module _ (n : ℕ) (x : AnyCell) (mine : Some x ≡ slice_index_or h.cells.entries.items n None) (cells : Vec (Option AnyCell))
        (taken : cells.items ≡ slice_set h.cells.entries.items n None) where
      pub ends-cell : w ≡ cell_closed h.world p (cell_number x) → GoesOn h (record h { world = w; cells = record { entries = cells } }) p
      ends-cell world =
          let c = cell_number x in
          let named = named-at cell_holding h.cells.entries.items n x mine in
          let there = cell-there d e.sound n c (grind (arith, named)) in
          let spent = spent-at cell_holding h.cells.entries.items n cells.items taken in
          goes-on (record h { world = w; cells = record { entries = cells } }) (cell_closed-leaves d e.sound whole p n c there.0 live-in there.1)
          (rw (world, spent) refl) (told-cell h.world h.world p c (refl, refl, refl))

    -- an item that is out as raw comes back, and is retired
    module _ (k : ℕ) (raw : standing_at h.world k ≡ Some Raw) where
      abbrev back_world : World Val
      back_world = with_standing h.world k standing.Owned

      pub ends-raw : w ≡ retired back_world p k → GoesOn h (record h { world = w }) p
      ends-raw world =
          let after : World Val = retired back_world p k in
          let left : ScriptState = record (in_world d after) { dates = dates_in d after } in
          let back = moves (starts d e.sound whole) (takes_back_raw h.world k raw) tt (named d) (λ u. omega arith) (λ u never. absurd never) in
          let now = at-same h.world.standings k (Some standing.Owned) None (inside h.world.standings k (ap is_some raw)) in
          let m = moves back (retires back_world p k live-in now) tt (named d) (λ u. omega arith) (λ u never. absurd never) in
          goes-on (record h { world = w })
          (finishes d after d.owners d.cells d.collectors left.dates e.sound m (λ u. omega arith)
          (e.sound.home.owners, e.sound.home.cells, e.sound.home.collectors)
          (dated-all d left e.sound.stocked m.frames.slots.slots (within d after)) p live-in) (rw world refl) (refl, refl, refl)

  -- of the slots that there are
  pub none-raw : ((k : ℕ) → k < length h.log.names.items → standing_at h.world k ≢ Some Raw) → (k : ℕ) → standing_at h.world k ≢ Some Raw
  none-raw gone k raw = gone k (omega (arith, inside h.world.standings k (ap is_some raw), e.sound.stocked.names)) raw

-- no other goes raw
pub not-raw : (w : World Val) (p k j : ℕ) → standing_at w j ≢ Some Raw → standing_at (retired (with_standing w k standing.Owned) p k) j ≢ Some Raw
not-raw w p k j not raw = grind (arith, common_steps)

pub gone-raw : (w : World Val) (p k : ℕ) → standing_at w k ≡ Some Raw → standing_at (retired (with_standing w k standing.Owned) p k) k ≢ Some Raw
gone-raw w p k was raw = grind (arith, common_steps)

-- ---- nothing is left

-- there is no bag any more
no-stored : {X : Type 0} (bags : List (Option NumberBag)) → AreSpent bags → (w : World Val) (k : ℕ) → IsStored bags w k → X
no-stored bags none w k x = absurd (let never : None ≡ Some x.storages.bag = sym (none x.storages.name) ∙ x.storages.is in cc)

-- the link of a value is the last thing that it holds
link-held : (v : Val) (x : Option Val) (c : ℕ) → x ≡ Some v → link_of v ≡ c → cell_held (held_by holdings_of x (length (owner_in (body_of v)))) ≡ Some c
link-held v x c at is = grind (arith, common_steps)

-- a storage holds its own cell first
own-held : (v : Val) (x : Option Val) (st : StorageName) (c : ℕ) → x ≡ Some v → storage_in (body_of v) ≡ Some st → st.cell ≡ c →
    cell_held (held_by holdings_of x 0) ≡ Some c
own-held v x st c at is its = grind (arith, common_steps)

module _ (d : ScriptState) (s : IsSound d) (whole : IsWhole d.world) (owners : (o : ℕ) → holding_at d.owners o ≡ None)
    (cells : (c : ℕ) → holding_at d.cells c ≡ None) (collectors : (k : ℕ) → holding_at d.collectors k ≡ None)
    (queues : (n : ℕ) → holding_at d.queues n ≡ None) (newest : (n : ℕ) → holding_at d.newest n ≡ None)
    (stacks : (n : ℕ) → holding_at d.stacks n ≡ None) (none : (n : ℕ) → bag_at d.bags n ≡ None) where
  no-owners : IsAccounted holdings_of (λ _. 0) d.world
  no-owners = accounted-as holdings_of (named_owners d) (λ _. 0) d.world
      (λ k. sym (all-uncounted (owns k) d.owners (λ o. ap (owns k) (owners o)))) (accounts d s)

  no-rights : (c : ℕ) → named d (right_to c) + contained d (right_to c) ≡ 0
  no-rights c =
      let right = λ (xs : List (Option OwnerOrCell)) (out : (n : ℕ) → holding_at xs n ≡ None). all-uncounted (has_right c) xs (λ n. ap (has_right c) (out n)) in
      let bag = λ (is : Option NumberBag → Bool) (out : is None ≡ false). all-uncounted is d.bags (λ n. ap is (none n) ∙ out) in
      omega (
        arith,
        right d.cells cells,
        right d.collectors collectors,
        right d.queues queues,
        right d.newest newest,
        right d.stacks stacks,
        bag (is_own_cell c) refl,
        bag (is_stack_cell c) refl,
      )

  -- there is no list any more
  no-list : (c : ℕ) → IsListCell d c → ⊥
  no-list c h = grind (arith, common_steps)

  abbrev its_rank : ℕ → ℕ
  its_rank = rank d s no-list (λ k. no-stored d.bags none d.world k)

  -- a cell that holds something is the link of a value
  cells-fall : CellsFall holdings_of d.world its_rank
  cells-fall c k holds = elim (linked d s c (no-rights c) (grind (arith, common_steps))) [
    | inl at ↦ (
      at.0,
      length (owner_in (body_of at.1)),
      link-held at.1 (value_at d.world at.0) c at.2 at.3,
      link-falls d s no-list (λ i. no-stored d.bags none d.world i) at.0 k at.1 at.2
          (ap (λ (b : ℕ). held_in (entry_at d.world.cells b)) at.3 ∙ holds),
    )
    | inr own ↦ absurd (let never : None ≡ Some k = sym (s.spare c own) ∙ holds in cc)
  ]

  -- a cell that is taken is a value's
  stands : (c : ℕ) → IsSome (entry_at d.world.cells c) → (j : ℕ) × (i : ℕ) × (cell_held (held_by holdings_of (value_at d.world j) i) ≡ Some c)
  stands c some = elim (linked d s c (no-rights c) some) [
    | inl at ↦ (at.0, length (owner_in (body_of at.1)), link-held at.1 (value_at d.world at.0) c at.2 at.3)
    | inr own ↦ (own.slot, 0, own-held own.value (value_at d.world own.slot) own.storage c own.there own.is own.cell)
  ]

  -- all that is out goes with what waits, where no item is out as raw
  goes-all : ((k : ℕ) → standing_at d.world k ≢ Some Raw) → AllGo holdings_of d.world
  goes-all none_raw =
      all-go holdings_of d.world whole.filled its_rank no-owners none_raw
      (value-falls d s no-list (λ k. no-stored d.bags none d.world k)) cells-fall stands

-- ---- the end

module _ (h : Environment) (moment : ℕ) (dates : List ℕ) (places guards : List (Option OpenSince)) where
  abbrev last : ScriptState
  last = record (state_of h) { moment = moment; dates = dates; places = places; guards = guards }

  all-spent : IsSound last → ((g : ℕ) → opening_at guards g ≡ None) → IsWhole h.world → AreAllSpent h → ((k : ℕ) → standing_at h.world k ≢ Some Raw) → IsSpent h
  all-spent s shut whole names raw = record {
    names = names;
    quiet = unguarded last s shut;
    goes = goes-all last s whole (λ k. none-at owner_holding h.owners.entries.items k names.0) (λ k. none-at cell_holding h.cells.entries.items k names.1)
        (λ k. none-at collector_holding h.collectors.entries.items k names.2) (λ k. none-at oldest_holding h.lists.queues.entries.items k names.3)
        (λ k. none-at newest_holding h.lists.queues.entries.items k names.3) (λ k. none-at stack_holding h.lists.stacks.entries.items k names.4) names.5 raw;
  }

-- the guard is closed at last
pub ends : (h : Environment) (p : ℕ) → IsEnding h p → IsWhole h.world → AreAllSpent h → ((k : ℕ) → standing_at h.world k ≢ Some Raw) → (w : World Val) →
    w ≡ closed h.world p → IsWhole w → IsSpent (record h { world = w })
ends h p e whole names raw w is after =
    let own : OpenSince = record { place = p; since = e.since } in
    subst (λ (u : World Val). IsSpent (record h { world = u })) (sym is)
    (all-spent (record h { world = closed h.world p }) e.moment e.dates (Some own ∷ []) (None ∷ [])
    (sound-closed (state_under (state_of h) p e.moment e.since e.dates) e.sound whole 0 p own refl refl (live-in h p e)) (λ g. grind (arith, common_steps))
    (subst (λ (u : World Val). IsWhole u) is after) names raw)

none-of : {X : Type 0} (xs : List (Option X)) → length xs ≡ 0 → AreSpent xs
none-of xs none k = get_or_past xs k None (omega (arith, none))

-- or nothing was made
module _ (h : Environment) (s : IsSound (state_of h)) (never : HasMade h → ⊥) where
  none : length h.log.slots.items + length h.cells.entries.items + length h.lists.queues.entries.items + length h.lists.stacks.entries.items
      + length h.lists.bags.entries.items ≡ 0
  none = omega (arith, never)

  none-out : (k : ℕ) → is_out (standing_at h.world k) ≡ true → ⊥
  none-out k out = grind (arith, common_steps)

  not-owned : (o : ℕ) (x : AnyOwner) → Some x ≡ slice_index_or h.owners.entries.items o None → ⊥
  not-owned o (Sole x) mine =
      none-out (owned.slot_of x) (owned-out (state_of h) (accounts (state_of h) s) o (owner_holding (Sole x)) (owned.slot_of x)
      (named-at owner_holding h.owners.entries.items o (Sole x) mine) refl)
  not-owned o (Share x) mine =
      none-out (shared.slot_of x) (owned-out (state_of h) (accounts (state_of h) s) o (owner_holding (Share x)) (shared.slot_of x)
      (named-at owner_holding h.owners.entries.items o (Share x) mine) refl)

  none-owned : AreSpent h.owners.entries.items
  none-owned o = (let never = not-owned o in grind (arith, never))

  pub nothing-made : AreSpent h.guards.entries.items → IsWhole h.world → AreSpent h.collectors.entries.items → IsSpent h
  nothing-made guards whole collectors =
      all-spent h h.log.moment h.log.dates.items (state_of h).places (state_of h).guards s (shut-in h s guards) whole (
        none-owned,
        none-of h.cells.entries.items (omega (arith, none)),
        collectors,
        none-of h.lists.queues.entries.items (omega (arith, none)),
        none-of h.lists.stacks.entries.items (omega (arith, none)),
        none-of h.lists.bags.entries.items (omega (arith, none)),
      ) (λ k raw. none-out k (ap is_out raw))

-- ---- a guard

module _ (h : Environment) (t : IsTied h) where
  abbrev state : ScriptState
  state = state_of h

  module _ (g : ℕ) (held : NamedGuard) (mine : slice_index_or h.guards.entries.items g None ≡ Some held) where
    -- its participant can close it
    pub spends-guard : (name : PlaceName) (guard : GuardName) → name.0 ≡ held.participant → guard.0 ≡ g → (given : Reply) (new : ScriptState) →
        Acts state (At name (call.Close guard)) given new → SpendsGuard g state new
    spends-guard name guard named is given new acts = grind (arith, common_steps)

  pub spends-nothing : (g : ℕ) → slice_index_or h.guards.entries.items g None ≡ None → SpendsGuard g state state
  spends-nothing g none = assumption (spent_twice state.guards g (get_or-map guarding h.guards.entries.items g None ∙ ap guarding none))
