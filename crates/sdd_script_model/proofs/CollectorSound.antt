-- What is always true of a state is true after each call of a collector that closes none
use Rattle.sdd_script_model.proofs.Words.{◌≡◌, ℕ, ◌+◌, ◌-◌, ◌<◌, Bool, true, false, nat_lt, Some, None, length, slice_set, inl, inr, refl, sym, ap, ◌∙◌, subst, arith, length-set, nat_tests, IsEmptyAt, Owned, Shared, Private as privately, IsSharedBy, is_waiting, collected, owner_collected, releases, owner_given, ◌≢◌, IsAlone, right_to, one, makes_cell, changes_pointers, collects, OwnerOrCell, atomic_raw, is_out, nulled, retired, with_standing, IsWhole, World, IsPlaceOf, standing_at, out-inside, out-waits-not, Val, ScriptState, IsDated, holding_at, slot_of, in_world, without_owner, Reply, Collects, IsSound, named, if◌then◌else◌, pointing, with_collector, alone-out}
use Rattle.sdd_world_model.specs.Cells.{null_pointer}
use Rattle.sdd_script_model.proofs.Lemmas.{LeavesSound, at_home-given, finishes, moves, accounts, collector-given, owned-out, dated-same, dated-either, at-other, given-other, null, starts}
use Rattle.sdd_script_model.proofs.CallSound.{owner-leaves}
use Rattle.sdd_world_model.specs.OwnerOrCell as holding
use Rattle.sdd_script_text.specs.declared.answer.Reply.TheVariants as reply

module _ (d : ScriptState) (s : IsSound d) (whole : IsWhole d.world) where
  -- ---- a collector is made
  module _ (p c : ℕ) (live : IsPlaceOf d.world p) (free : IsEmptyAt d.world.cells c) where
    abbrev pub after_collecting : ScriptState
    after_collecting = in_world (with_collector d c) (pointing d.world c null_pointer)

    abbrev mid : World Val
    mid = nulled d.world c

    pub collecting-leaves : LeavesSound d after_collecting
    collecting-leaves =
        let h = atomic_raw c d.world.home.cells in
        finishes d after_collecting.world d.owners d.cells after_collecting.collectors d.dates s
        (moves (moves (starts d s whole) (makes_cell d.world c null free) tt (named d) (λ u. omega arith) (λ u never. absurd never))
        (changes_pointers mid after_collecting.world.pointers (length-set mid.pointers c null_pointer)) tt (λ u. named d u + one (right_to c) u)
        (λ u. omega arith) (λ u never. absurd never))
        (λ u. omega (arith, collector-given d.owners d.cells d.collectors h c refl u))
        (s.home.owners, s.home.cells, at_home-given d.world.home d.collectors h refl s.home.collectors)
        (dated-same d after_collecting refl refl) p live

  -- ---- an owner is given to a collector, of whichever kind it is

  module _ (p c k o : ℕ) (live : IsPlaceOf d.world p) where
    -- it has this world, and its item is dated if it waits then
    abbrev pub after_given : World Val → ScriptState
    after_given w = record (in_world (without_owner d o) w) {
      dates = if is_waiting (standing_at w k) then slice_set d.dates k d.moment else d.dates;
    }

    -- no other item begins to wait
    dated-given : (w : World Val) → is_out (standing_at d.world k) ≡ true → ((j : ℕ) → j ≢ k → standing_at w j ≡ standing_at d.world j) →
        IsDated d (after_given w)
    dated-given w out others =
        dated-either d (after_given w) k (out-waits-not (standing_at d.world k) out) (omega (arith, out-inside d.world.standings k out, s.stocked.dates)) refl
        (λ j apart waits. sym (ap is_waiting (others j apart)) ∙ waits)

    module _ (slot : slot_of (holding_at d.owners o) ≡ Some k) where
      -- it is the one owner
      given-alone : IsAlone (standing_at d.world k) → LeavesSound d (after_given (collected d.world p c k))
      given-alone alone =
          owner-leaves d s whole p k o live (collects d.world p c k live alone) tt (λ u never. never) slot (after_given (collected d.world p c k)).dates
          (λ kept. dated-given (collected d.world p c k) (alone-out (standing_at d.world k) alone)
          (λ j apart. at-other d.world.standings k j (Some (privately c)) None apart))

      module _ (count : ℕ) (stands : IsSharedBy count (standing_at d.world k)) where
        abbrev given : World Val
        given = owner_given d.world p k (Some (Shared count))

        -- of several owners
        given-several : LeavesSound d (after_given given)
        given-several =
            owner-leaves d s whole p k o live (releases d.world p k count live stands.shared) tt (λ u never. never) slot (after_given given).dates
            (λ kept. dated-given given (ap is_out stands.shared) (λ j apart. given-other d.world p k j (Some (Shared count)) stands.shared apart))

        given-shared : (w : World Val) → w ≡ owner_collected d.world p c k (Some (Shared count)) → LeavesSound d (after_given w)
        given-shared w world = subst (λ u. LeavesSound d (after_given u)) (sym world) (by (nat_lt 1 count) refl) where
          left : World Val
          left = with_standing d.world k (Shared (count - 1))

          by : (several : Bool) → nat_lt 1 count ≡ several → LeavesSound d (after_given (if several then left else collected d.world p c k))
          by true e = subst (λ b. LeavesSound d (after_given (if b then left else retired d.world p k))) e given-several
          by false e =
              let one : count ≡ 1 = grind (arith, nat_tests, e, stands.some) in
              given-alone (inr (stands.shared ∙ ap (λ m. Some (Shared m)) one))

    -- as the line means it
    pub sound-given : (h : OwnerOrCell) (given : Reply) (w : World Val) → holding_at d.owners o ≡ Some h → slot_of (Some h) ≡ Some k →
        Collects d.world p c h given w → LeavesSound d (after_given w)
    sound-given (holding.owned j home) reply.Done w there slot does =
        let same : j ≡ k = cc in
        subst (λ u. LeavesSound d (after_given u)) (sym (does.1 ∙ ap (collected d.world p c) same))
        (given-alone (ap slot_of there ∙ slot) (inl (subst (λ i. standing_at d.world i ≡ Some Owned) same does.0)))
    sound-given (holding.shared j home) (reply.Truth last) w there slot (count, stands, is_last, world) =
        let same : j ≡ k = cc in
        given-shared (ap slot_of there ∙ slot) count
        (subst (λ i. IsSharedBy count (standing_at d.world i)) same stands) w
        (world ∙ ap (λ i. owner_collected d.world p c i (Some (Shared count))) same)
    sound-given h given w there slot does = absurd does

  -- an owner's slot has a date
  pub owner-inside : (o k : ℕ) (h : OwnerOrCell) → holding_at d.owners o ≡ Some h → slot_of (Some h) ≡ Some k → k < length d.dates
  owner-inside o k h there slot =
      omega (arith, out-inside d.world.standings k (owned-out d (accounts d s) o h k there slot), s.stocked.dates)
