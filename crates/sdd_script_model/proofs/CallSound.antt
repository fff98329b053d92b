-- What is always true of a state is true after each call
use Rattle.sdd_script_model.proofs.Words.{◌≡◌, ◌≢◌, ◌⊎◌, ℕ, ◌+◌, ◌<◌, ◌≤◌, Bool, false, List, Option, Some, None, is_some, length, count_by, slice_index_or, slice_set, inl, inr, refl, sym, ap, ◌∙◌, subst, arith, IsTrue, ◌↔◌, length_push, length-replicate, EpochState, IsEmptyAt, entry_at, is_open, IsSharedBy, is_waiting, Claim, owner_of, right_to, IsLedger, Keeps, claims, one, stirs, accelerates, makes, retires, releases, makes_cell, IsFirst, WorldStep, registers, ends, closes, defers, OwnerOrCell, IsOf, is_out, registered, ended, opened, made_as, nulled, retired, closed, stirred, accelerated, deferred, held_in, owner_given, with_standing, IsWhole, Limits, IsPlaceOf, place_at, standing_at, value_at, times_held, Tally, ledger-laws, Value, Of, Val, holdings_of, body_of, link_of, storage_in, ScriptState, OpenSince, BeginsLine, bag_at, IsDated, IsListCell, IsSecondCell, IsStart, shared_cell, opening_at, holding_at, slot_of, sole_slot, shared_slot, in_world, with_owner, without_owner, with_item, later, none as no_call, one_more, HasLists, IsPutIn, owners_left, IsSound, ParticipantsMatch, contained, has_right, named, named_among, named_owners, owns, AreSpare, IsStored, filled-there, Moves, Sets, World, ◌∷◌, ◌++◌, [], if◌then◌else◌, IsVacant, nothing, with_guard, with_newcomer, without_participant, without_guard, with_job, put_in, AreDeferred, JobsHaveDates, Entries, with_entry, Standing, standing_first, holding_first, AreBags, ◌*◌, ◌^◌, date_at, job_date_at, sheds-opened, replicate, AreInRange, OwnerKind}
use Rattle.sdd_world_model.specs.Ledger.Moves.{opens}
use Rattle.sdd_script_text.specs.declared.call.Value.TheVariants.{Number}
use Rattle.sdd_script_model.proofs.Lemmas.{at-other, at-same, not-free, at-blank, set-where, KeepsSlots, stocked-as, stocked-made, slots-same, slots-opened, holds-so, less-shed, null, less-same, has-made, has-same, has-still, has-stored, passes-making, AtHome, IsMidway, IsPlain, LeavesSound, at-home, at_home-given, at_home-spent, finishes, leaves-so, moves, own-midway, same-line, shares-one, BagsStay, bags-still, off-owned, off-standing, off-valued, put-plain, spare-on, stays-as, stays-on, stored-still, spare-as, keeps-deferred, attended-acts, attended-later, attended-start, attended-registered, attended-ended, attended-closed, attended-opened, WereOpen, kept-call, kept-start, kept-opened, were-same, were-registered, were-ended, were-closed, first-waits-not, dated-one, dated-released, dated-same, dated-stands, early-dated, early-start, accounts, owner-spent, some-holding, value-spent, filled-long, layered-less, layered-made, deferred-more, deferred-opened, job_dates-call, job_dates-deferred, job_dates-opened, job_dates-start, no-entry, starts, owner-given}
use Rattle.sdd_script_model.proofs.StackSound.{IsDatedWithin, dated-all}
use Rattle.sdd_participants.specs.declared.standing.Standing.TheVariants as standing
use Rattle.sdd_world_model.specs.OwnerOrCell as holding
use Rattle.sdd_script_model.specs.declared.owner_kind.OwnerKind.TheVariants as ownership
use Rattle.sdd_script_model.proofs.ParticipantsMatch as participant
pub use Rattle.sdd_script_model.proofs.KeptUnderGuards.{can-point, not-under}
pub use Rattle.sdd_script_model.proofs.ReclaimedSlots.{names-go}
pub use Rattle.sdd_script_model.proofs.Deferred.{names-run, places-inside}
pub use Rattle.sdd_script_model.proofs.JobDates.{not-run-under}

-- an owner, of either kind
pub sole-slot : (x : Option OwnerOrCell) (k : ℕ) → sole_slot x ≡ Some k → slot_of x ≡ Some k
sole-slot x k e = grind arith

pub shared-slot : (x : Option OwnerOrCell) (k : ℕ) → shared_slot x ≡ Some k → slot_of x ≡ Some k
shared-slot x k e = grind arith

module _ (d : ScriptState) (s : IsSound d) where
  -- an open guard's participant is open
  pub open-guard : (g : ℕ) (y : OpenSince) → opening_at d.guards g ≡ Some y → 0 < (place_at d.world y.place).guards
  open-guard g y e = participant.open-guard d s.attended g y e

  module _ (whole : IsWhole d.world) where
    homes : AtHome d.world.home d.owners × AtHome d.world.home d.cells × AtHome d.world.home d.collectors
    homes = (s.home.owners, s.home.cells, s.home.collectors)

    -- ---- calls with nothing in hand

    pub stirred-leaves : (p : ℕ) → IsPlaceOf d.world p → LeavesSound d (in_world d (stirred d.world p))
    stirred-leaves p live =
        finishes d (stirred d.world p) d.owners d.cells d.collectors d.dates s
        (moves (starts d s whole) (stirs d.world p live) tt (named d) (λ u. omega arith) (λ u never. absurd never))
        (λ u. omega arith) homes (dated-same d _ refl refl) p live

    pub accelerated-leaves : (p : ℕ) → IsPlaceOf d.world p → LeavesSound d (in_world d (accelerated d.world p))
    accelerated-leaves p live =
        finishes d (accelerated d.world p) d.owners d.cells d.collectors d.dates s
        (moves (starts d s whole) (accelerates d.world p live) tt (named d) (λ u. omega arith) (λ u never. absurd never))
        (λ u. omega arith) homes (dated-same d _ refl refl) p live

    -- ---- who is there changes, and the time, or a job is deferred: no item, no cell, and no name of one
    module _ (t : EpochState) (table : Entries (Unit {0})) (places guards : List (Option OpenSince)) (jobs : ℕ) (deferred job_dates : List ℕ) where
      abbrev met : ScriptState
      met = record d {
        world = record d.world { time = t; jobs = table };
        places = places;
        guards = guards;
        jobs = jobs;
        deferred = deferred;
        job_dates = job_dates;
      }

      sound-met : ParticipantsMatch met → WereOpen d met → WorldStep holdings_of d.world met.world → AreDeferred jobs deferred table →
          JobsHaveDates met → jobs ≤ d.moment → IsSound met
      sound-met attended were call are dates few =
          let dated = dated-same d met refl refl in
          let slots = slots-same d.world met.world refl refl refl in
          let stay = stays-as d d.world met.world (λ n b es is stands. stands) (λ c x. refl) (λ k x. (refl, refl)) in
          let stored = stored-still d met refl stay in
          let stocked = stocked-as d met s.stocked refl refl refl slots stored in
          let lists = has-stored stored (has-same (IsListCell d) (IsSecondCell d) (IsStored d.bags d.world) d.world met.world refl refl s.lists) in
          let bags = bags-still d met s.bags refl stay refl (λ k x. refl) in
          let spare = spare-as d.world met.world (less-same d.world met.world refl) (λ c x. refl) s.spare in
          let home = at-home d met refl (assumption s.home) in
          let kept = kept-call d met s.kept dated whole call slots were in
          let early = early-dated d met dated (omega arith) s.early in
          assumption (s, stocked, lists, bags, spare, home, attended, kept, early, are, dates, few)

    -- no job is deferred
    sound-time : (t : EpochState) (places guards : List (Option OpenSince)) →
        let new = met t d.world.jobs places guards d.jobs d.deferred d.job_dates in
        ParticipantsMatch new → WereOpen d new → WorldStep holdings_of d.world new.world → IsSound new
    sound-time t places guards attended were call =
        let new = met t d.world.jobs places guards d.jobs d.deferred d.job_dates in
        sound-met t d.world.jobs places guards d.jobs d.deferred d.job_dates attended were call s.deferred
        (job_dates-call d new s.jobs refl refl were refl call) s.few

    pub sound-registered : (p : ℕ) → IsVacant d.world.time p → IsSound (in_world (with_newcomer d p) (registered d.world p))
    sound-registered p vacant =
        let new : ScriptState = in_world (with_newcomer d p) (registered d.world p) in
        sound-time new.world.time new.places d.guards (attended-registered d s.attended p vacant whole.housed.lengths)
        (were-registered d s.attended p vacant whole.housed.lengths) (registers d.world p vacant)

    pub sound-ended : (n : ℕ) (x : OpenSince) → opening_at d.places n ≡ Some x → (IsTrue (is_open (place_at d.world x.place)) → ⊥) →
        IsSound (in_world (without_participant d n) (ended d.world x.place))
    sound-ended n x there shut =
        let new : ScriptState = in_world (without_participant d n) (ended d.world x.place) in
        sound-time new.world.time new.places d.guards (attended-ended d s.attended n x there shut)
        (were-ended d n x.place) (ends d.world x.place (s.attended.inside n x there) shut)

    pub sound-closed : (g p : ℕ) (y : OpenSince) → opening_at d.guards g ≡ Some y → y.place ≡ p → IsPlaceOf d.world p →
        IsSound (in_world (without_guard d g) (closed d.world p))
    sound-closed g p y there same live =
        let new : ScriptState = in_world (without_guard d g) (closed d.world p) in
        sound-time new.world.time d.places new.guards (attended-closed d s.attended g p y there same)
        (were-closed d s.attended g p y there same) (closes d.world p live)

    -- ---- a job is deferred
    module _ (p k : ℕ) (live : IsPlaceOf d.world p) (free : IsEmptyAt d.world.jobs k) where
      abbrev pub after_deferred : ScriptState
      after_deferred = in_world (with_job d k) (deferred d.world p k)

      pub deferred-leaves : d.jobs < d.moment → LeavesSound d after_deferred
      deferred-leaves few =
          let new = after_deferred in
          let keeps = keeps-deferred d.world p k in
          let were = were-same d new refl keeps.guards in
          let sound : IsSound new = sound-met new.world.time new.world.jobs d.places d.guards new.jobs new.deferred new.job_dates
          (attended-acts d new s.attended keeps refl refl (omega arith) p live) were (defers d.world p k live free)
          (deferred-more d.jobs d.deferred d.world.jobs k free s.deferred) (job_dates-deferred d s.jobs whole p k live free were) (omega (arith, few)) in
          assumption (sound, dated-same d new refl refl, one_more d.world d.world new.world (no_call d.world) (defers d.world p k live free))

    -- ---- owners

    -- the owner of this name goes into a call, which gives nothing
    module _ {w : World Val} (p k o : ℕ) (live : IsPlaceOf d.world p) (move : Moves holdings_of d.world (one (owner_of k)) w nothing)
        (plain : IsPlain move) (sets : (u : Claim) → Sets holdings_of move u → ⊥) (slot : slot_of (holding_at d.owners o) ≡ Some k) (dates : List ℕ) where
      abbrev pub after_owner : ScriptState
      after_owner = record (in_world (without_owner d o) w) { dates = dates }

      pub owner-leaves : (KeepsSlots d.world w → IsDated d after_owner) → LeavesSound d after_owner
      owner-leaves dated =
          let h = some-holding slot_of refl (holding_at d.owners o) k slot in
          let left = slice_set d.owners o None in
          let m = moves (starts d s whole) move plain (named_among left d.cells d.collectors)
          (owner-spent d.owners d.cells d.collectors o k h.0 h.1 h.2) (λ u never. absurd (sets u never)) in
          finishes d w left d.cells d.collectors dates s m (λ u. omega arith)
          (at_home-spent d.world.home d.owners o s.home.owners, s.home.cells, s.home.collectors) (dated m.frames.slots) p live

    -- or an owner comes out of a chain of calls
    pub owner-more : (w : World Val) (h : OwnerOrCell) (k : ℕ) → slot_of (Some h) ≡ Some k → IsOf d.world.home h →
        IsMidway d w (λ u. named d u + one (owner_of k) u) → (x : Standing) → is_waiting (Some x) ≡ false → w.standings ≡ with_entry d.world.standings k x →
        (p : ℕ) → IsPlaceOf d.world p → LeavesSound d (with_owner (in_world d w) h)
    owner-more w h k slot home m x idle standings p live =
        finishes d w (d.owners ++ Some h ∷ []) d.cells d.collectors d.dates s m (owner-given d.owners d.cells d.collectors h k slot)
        (at_home-given d.world.home d.owners h home s.home.owners, s.home.cells, s.home.collectors)
        (dated-stands d (with_owner (in_world d w) h) k x idle refl standings) p live

    module _ (p k o : ℕ) (live : IsPlaceOf d.world p) (owner : sole_slot (holding_at d.owners o) ≡ Some k)
        (stands : standing_at d.world k ≡ Some standing.Owned) where
      abbrev after_retired : ScriptState
      after_retired = record (in_world (without_owner d o) (retired d.world p k)) { dates = slice_set d.dates k d.moment }

      pub retired-leaves : LeavesSound d after_retired
      retired-leaves =
          owner-leaves p k o live (retires d.world p k live stands) tt (λ u never. never) (sole-slot (holding_at d.owners o) k owner) after_retired.dates
          (λ kept. dated-one d after_retired k standing.Retired refl (ap is_out stands) s.stocked.dates refl refl)

    module _ (p k o count : ℕ) (b : Bool) (live : IsPlaceOf d.world p) (owner : shared_slot (holding_at d.owners o) ≡ Some k)
        (stands : IsSharedBy count (standing_at d.world k)) (last : IsTrue b ↔ (count ≡ 1)) where
      abbrev after_released : ScriptState
      after_released = record (in_world (without_owner d o) (owner_given d.world p k (Some (standing.Shared count)))) {
        dates = if b then slice_set d.dates k d.moment else d.dates;
      }

      pub released-leaves : LeavesSound d after_released
      released-leaves =
          owner-leaves p k o live (releases d.world p k count live stands.shared) tt (λ u never. never) (shared-slot (holding_at d.owners o) k owner)
          after_released.dates (λ kept. dated-released d after_released p k count b stands last s.stocked.dates refl refl)

    module _ (p k count : ℕ) (live : IsPlaceOf d.world p) (stands : IsSharedBy count (standing_at d.world k))
        (off : IsStored d.bags d.world k → ⊥) where
      abbrev after_shared : ScriptState
      after_shared = with_owner (in_world d (with_standing d.world k (standing.Shared (count + 1)))) (holding.shared k d.world.home.slots)

      pub shared-leaves : LeavesSound d after_shared
      shared-leaves =
          owner-more after_shared.world (holding.shared k d.world.home.slots) k refl refl (shares-one (starts d s whole) k count stands off)
          (standing.Shared (count + 1)) refl refl p live

    -- ---- an item is made
    module _ (own : OwnerKind) (value : Value) (p k c : ℕ) (v : Val) (live : IsPlaceOf d.world p) (cell : IsEmptyAt d.world.cells c)
        (slot : IsEmptyAt d.world.standings k) (put : IsPutIn d value (body_of v)) (link : link_of v ≡ c) where
      abbrev after_made : ScriptState
      after_made =
          with_owner (in_world (with_item (put_in d value) k) (made_as (nulled d.world c) k v (standing_first own))) (holding_first own k d.world.home.slots)

      -- its first owner
      its : (w : OwnerKind) → IsFirst (standing_first w) × (slot_of (Some (holding_first w k d.world.home.slots)) ≡ Some k)
          × IsOf d.world.home (holding_first w k d.world.home.slots)
      its ownership.Sole = (inl refl, refl, refl)
      its ownership.Shared = (inr refl, refl, refl)

      at_home-left : (x : Value) → AtHome d.world.home (owners_left d.owners x)
      at_home-left (Number n) = s.home.owners
      at_home-left (Of o) = at_home-spent d.world.home d.owners o.0 s.home.owners

      -- the cell of its link is there, with its right in hand
      celled : IsMidway d (nulled d.world c) (λ u. named d u + one (right_to c) u)
      celled = moves (starts d s whole) (makes_cell d.world c null cell) tt (named d) (λ u. omega arith) (λ u never. absurd never)

      -- the right goes into the value, with what has no name any more
      abbrev rest : Claim → ℕ
      rest = named_among (owners_left d.owners value) d.cells d.collectors

      put-inside : (u : Claim) → named d u + one (right_to c) u ≡ rest u + claims (holdings_of v) u
      put-inside u = omega (arith, value-spent d value v put u, holds-so v u, ap (λ x. one (right_to x) u) link)

      item : Keeps holdings_of (makes (nulled d.world c) k v (standing_first own) (its own).0 slot)
      item = (ledger-laws holdings_of (nulled d.world c)).kept celled.whole _ _ after_made.world
          (makes (nulled d.world c) k v (standing_first own) (its own).0 slot)

      lists-made : HasLists (IsListCell d) (IsSecondCell d) (IsStored d.bags d.world) after_made.world
      lists-made =
          let free = no-entry (value_at d.world k) (filled-there d.world k whole.filled ∙ ap is_some slot.1) in
          has-made (IsListCell d) (IsSecondCell d) (IsStored d.bags d.world) (nulled d.world c) after_made.world k v celled.lists refl refl free
          (ap (λ i. held_in (entry_at (nulled d.world c).cells i)) link ∙ ap held_in (at-same d.world.cells c (Some null) None cell.0))
          (omega (arith, slot.0, filled-long d.world.values d.world.standings whole.filled))

      -- the new item is in a slot that was free, so it is no storage
      made-apart : (j : ℕ) → IsStored d.bags d.world j → j ≢ k
      made-apart j x same =
          off-standing d d.world (named d) s.ledger (λ n b es is stands. stands) k
          (λ sole. let never : None ≡ Some (standing.Shared 1) = sym slot.1 ∙ sole in absurd (cc))
          (subst (λ (i : ℕ). IsStored d.bags d.world i) same x)

      bags-made : BagsStay d.bags d.world after_made.world
      bags-made =
          stays-on d (makes (nulled d.world c) k v (standing_first own) (its own).0 slot) celled.whole rest
          (λ u. omega (arith, celled.ledger u, put-inside u)) tt celled.bags

      no-storage : (i : ℕ) → (1 ≤ named_owners d i) ⊎ ((j : ℕ) × (1 ≤ times_held holdings_of i (value_at d.world j))) → IsStored d.bags d.world i → ⊥
      no-storage i (inl mine) = off-owned d d.world (named d) s.ledger (λ n b es is stands. stands) i mine
      no-storage i (inr (j, some)) = off-valued d d.world (named d) s.ledger (λ n b es is stands. stands) j i some

      -- a value that goes in is no storage
      spare-made : AreSpare after_made.world
      spare-made b x = elim (set-where d.world.values k x.slot (Some v) None) [
        | inl here ↦
            (let both : Some v ≡ Some x.value = sym here.1 ∙ x.there in
            let is : v ≡ x.value = cc in
            absurd (put-plain d value (body_of v) put x.storage (ap (λ (y : Val). storage_in (body_of y)) is ∙ x.is)))
        | inr same ↦
            celled.spare b
            (record { slot = x.slot; value = x.value; there = sym same ∙ x.there; storage = x.storage; is = x.is; cell = x.cell })
      ]

      pub made-whole : IsWhole after_made.world
      made-whole = item.whole

      pub made-leaves : LeavesSound d after_made
      made-leaves =
          let stored = stored-still d after_made refl bags-made in
          leaves-so d after_made s (same-line d)
          (dated-stands d after_made k (standing_first own) (first-waits-not (standing_first own) (its own).0) refl refl) p live
          (passes-making celled.frames.passes celled.whole k v (standing_first own) (its own).0 slot) refl
          (stocked-made d k s.stocked slot after_made (standing_first own) refl refl refl refl stored)
          (λ u. omega (
            arith,
            item.ledger (λ x. rest x + contained d x) (λ x. omega (arith, celled.ledger x, put-inside x)) u,
            owner-given (owners_left d.owners value) d.cells d.collectors (holding_first own k d.world.home.slots) k (its own).1 u,
          ))
          (has-stored stored lists-made)
          (bags-still d after_made s.bags refl bags-made refl (λ j x. at-other d.names k j (Some (length d.slots)) None (made-apart j x))) spare-made
          (layered-made d s.layered (accounts d s) s.stocked whole.filled (put_in d value) c k v (standing_first own) slot
          (λ j. value-spent d value v put (owner_of j)) no-storage after_made refl refl) (
            at_home-given d.world.home (owners_left d.owners value) (holding_first own k d.world.home.slots) (its own).2 (at_home-left value),
            s.home.cells,
            s.home.collectors,
            s.home.queues,
            s.home.newest,
            s.home.stacks,
          )
          (omega (arith, s.made, length_push d.slots k))

    -- ---- a guard is opened

    pub home-opened : (p : ℕ) → (opened holdings_of d.world p).home ≡ d.world.home
    home-opened p = (slots-opened d.world p).home

    abbrev pub after_opening : (n p : ℕ) → List ℕ → ScriptState
    after_opening n p dates = record (in_world (with_guard d n p) (opened holdings_of d.world p)) { dates = dates }

    module _ (n : ℕ) (x : OpenSince) (there : opening_at d.places n ≡ Some x) (new_dates : List ℕ)
        (within : IsDatedWithin d (after_opening n x.place new_dates)) where
      abbrev after : ScriptState
      after = after_opening n x.place new_dates

      pub dated-opened : IsDated d after
      dated-opened = dated-all d after s.stocked (slots-opened d.world x.place).slots within

      pub sound-opened : BeginsLine d → IsSound after
      sound-opened line =
          let live = s.attended.inside n x there in
          let shed = sheds-opened holdings_of x.place d.world in
          let slots = slots-opened d.world x.place in
          let kept = (ledger-laws holdings_of d.world).kept whole nothing nothing _ (opens d.world x.place live) in
          let before : IsLedger holdings_of (λ u. named d u + contained d u + nothing u) d.world = λ u. omega (arith, s.ledger u) in
          let stay = stays-on d (opens d.world x.place live) whole (named d) before tt (λ m b es is stands. stands) in
          let stored = stored-still d after refl stay in
          let stocked = stocked-as d after s.stocked refl refl within.1 slots stored in
          let ledger : IsLedger holdings_of (λ u. named d u + contained d u) after.world =
          λ u. omega (arith, kept.ledger (λ y. named d y + contained d y) (λ y. omega (arith, s.ledger y)) u) in
          let lists = has-stored stored
          (has-still (opens d.world x.place live) whole (λ y. named d y + contained d y) (λ y. omega (arith, s.ledger y)) (λ u never. absurd never)
          (IsListCell d) (IsSecondCell d) (IsStored d.bags d.world) (own-midway (starts d s whole)) (λ c at never. never) (λ c b y never. never) s.lists
          (less-shed shed)) in
          let bags = bags-still d after s.bags refl stay slots.home (λ j at. refl) in
          let spare = spare-on d (opens d.world x.place live) whole (named d) before tt s.spare (less-shed shed) in
          let layered = layered-less d after s.layered (less-shed shed) refl in
          let home = at-home d after slots.home (assumption s.home) in
          let attended = attended-opened d s.attended n x there new_dates in
          let recent = kept-opened d s.attended s.kept whole line n x there new_dates dated-opened in
          let early = early-dated d after dated-opened (omega arith) s.early in
          let made : after.world.tally.made ≤ length d.slots + d.moment * 2 ^ 32 = omega (arith, slots.made, s.made) in
          let deferred = deferred-opened d.world x.place whole live d.jobs d.deferred s.deferred in
          let jobs = job_dates-opened d s.jobs s.attended s.kept whole line n x there new_dates in
          assumption (s, stocked, ledger, lists, bags, spare, layered, home, attended, recent, early, made, deferred, jobs)

-- ---- the start, and a line more

-- before the first line
pub sound-start : (l : Limits) (d : ScriptState) → IsStart l d → length d.names ≡ l.slots → AreInRange l → IsSound d
sound-start l d start names ranges = record {
  stocked = record {
    named = λ k some. absurd (not-free (standing_at d.world k) some (blank l.slots start.world.standings k));
    names = names ∙ sym long;
    dates = ap length start.dates ∙ length-replicate l.slots 0 ∙ sym long;
    few = omega (arith, names, ranges.slots);
  };
  ledger = λ u. omega (arith, none-named u, none-contained u, (ledger-laws holdings_of d.world).blank _ l.slots l.cells l.jobs start.world u);
  lists = record {
    lists = λ c at. absurd (no-list c at);
    apart = λ b c k es fs x y one two at also. absurd (no-list b x);
    linked = λ k v e not. absurd (let never : None ≡ Some v = sym (blank l.slots start.world.values k) ∙ e in cc);
    second = λ c b (n, oldest, newest). absurd (no-list c (inl (n, oldest)));
  };
  bags = λ n b is. absurd (let never : None ≡ Some b = sym (ap (λ bs. bag_at bs n) start.bags) ∙ is in cc);
  spare = λ c x. absurd (let never : None ≡ Some x.value = sym (blank l.slots start.world.values x.slot) ∙ x.there in cc);
  layered = λ j k some. absurd (omega (arith, ap (times_held holdings_of k) (blank l.slots start.world.values j), some));
  home = at-home d d refl (none start.owners, none start.cells, none start.collectors, none start.queues, none start.newest, none start.stacks);
  attended = attended-start d start;
  kept = kept-start d start;
  early = early-start d start;
  made = omega (arith, ap (λ (t : Tally). t.made) start.world.tally);
  deferred = record {
    named = λ k some. absurd (not-free (entry_at d.world.jobs k) some (blank l.jobs start.world.jobs k));
    apart = λ k m some other same. absurd (not-free (entry_at d.world.jobs k) some (blank l.jobs start.world.jobs k));
    long = ap length start.deferred ∙ length-replicate l.jobs 0 ∙ sym (ap length start.world.jobs ∙ length-replicate l.jobs None);
  };
  jobs = job_dates-start d start;
  few = omega (arith, start.jobs);
} where
  none : {hs : List (Option OwnerOrCell)} → hs ≡ [] → AtHome d.world.home hs
  none is n h e = absurd (let never : None ≡ Some h = sym (ap (λ xs. holding_at xs n) is) ∙ e in cc)

  blank : {E : Type 0} {xs : List (Option E)} (n : ℕ) → xs ≡ replicate n None → (k : ℕ) → slice_index_or xs k None ≡ None
  blank n is k = ap (λ ys. slice_index_or ys k None) is ∙ at-blank None n k

  long : length d.world.standings ≡ l.slots
  long = ap length start.world.standings ∙ length-replicate l.slots None

  no-list : (c : ℕ) → IsListCell d c → ⊥
  no-list c (inl (n, is)) = let never : None ≡ Some c = sym (ap (λ hs. shared_cell (holding_at hs n)) start.queues) ∙ is in cc
  no-list c (inr (n, is)) = let never : None ≡ Some c = sym (ap (λ hs. shared_cell (holding_at hs n)) start.stacks) ∙ is in cc

  none-contained : (u : Claim) → contained d u ≡ 0
  none-contained (owner_of k) = refl
  none-contained (right_to c) = rw (start.queues, start.newest, start.stacks, start.bags) refl

  none-named : (u : Claim) → named d u ≡ 0
  none-named (owner_of k) = ap (count_by (owns k)) start.owners
  none-named (right_to c) = omega (arith, ap (count_by (has_right c)) start.cells, ap (count_by (has_right c)) start.collectors)

-- a line is counted
pub sound-later : (d : ScriptState) → IsSound d → IsSound (later d)
sound-later d s =
    let bags : AreBags (later d) = λ n b is. (let was = s.bags n b is in assumption was) in
    let early : (k : ℕ) → date_at d k ≤ d.moment + 1 = omega (arith, s.early) in
    let jobs : (k : ℕ) → job_date_at d k ≤ d.moment + 1 = omega (arith, s.jobs.early) in
    let made : d.world.tally.made ≤ length d.slots + (d.moment + 1) * 2 ^ 32 = omega (arith, s.made) in
    let few : d.jobs ≤ d.moment + 1 = omega (arith, s.few) in
    assumption (s, bags, attended-later d s.attended, early, jobs, made, few)

pub line-begins : (d : ScriptState) → IsSound d → BeginsLine (later d)
line-begins d s = omega (arith, s.early, s.jobs.early)
