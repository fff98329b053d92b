-- What is always true of a state is true after an item is changed or dropped in its place, goes raw or comes back
use Rattle.sdd_script_model.proofs.Words.{◌≡◌, ℕ, ◌-◌, ◌<◌, ◌≤◌, Bool, true, false, List, Some, inl, inr, refl, sym, ap, ◌∙◌, subst, lt-ltb, arith, Owned, Raw, Shared, IsSharedBy, owner_of, puts_out_raw, releases, takes_back_raw, drops, OwnerOrCell, IsAlone, MayInPlace, with_standing, with_value, dropped, owner_given, IsWhole, World, AnyGuardOpen, IsPlaceOf, standing_at, Reply, Val, holdings_of, body_of, owner_in, ScriptState, holding_at, slot_of, sole_slot, in_world, with_owner, without_owner, Drops, IsSound, named, if◌then◌else◌, Puts, common_steps}
use Rattle.sdd_script_model.proofs.Lemmas.{dated-same, dated-stands, LeavesSound, edited, finishes, moves, starts}
use Rattle.sdd_script_model.proofs.CallSound.{owner-leaves, owner-more, sole-slot}
use Rattle.sdd_script_model.proofs.StackSound.{IsDatedWithin, dated-all}
use Rattle.sdd_world_model.specs.OwnerOrCell as holding
use Rattle.sdd_world_model.specs.WorldChanges as steps
use Rattle.sdd_script_text.specs.declared.answer.Reply.TheVariants as reply
use Rattle.sdd_script_model.specs.declared.val.Body.TheVariants as body

-- an owner with a name is outside
pub owner-outside : (d : ScriptState) (o k : ℕ) → slot_of (holding_at d.owners o) ≡ Some k → 1 ≤ named d (owner_of k)
owner-outside d o k slot = grind (arith, common_steps)

module _ (d : ScriptState) (s : IsSound d) (whole : IsWhole d.world) (p k : ℕ) (live : IsPlaceOf d.world p) where
  -- ---- an item goes raw
  module _ (o : ℕ) (owner : sole_slot (holding_at d.owners o) ≡ Some k) (stands : standing_at d.world k ≡ Some Owned) where
    abbrev pub after_raw : ScriptState
    after_raw = in_world (without_owner d o) (with_standing d.world k Raw)

    pub raw-leaves : LeavesSound d after_raw
    raw-leaves =
        owner-leaves d s whole p k o live (puts_out_raw d.world k stands) tt (λ u never. never) (sole-slot (holding_at d.owners o) k owner) d.dates
        (λ kept. dated-stands d after_raw k Raw refl refl refl)

  -- ---- and comes back
  module _ (stands : standing_at d.world k ≡ Some Raw) where
    abbrev pub after_back : ScriptState
    after_back = with_owner (in_world d (with_standing d.world k Owned)) (holding.owned k d.world.home.slots)

    pub back-leaves : LeavesSound d after_back
    back-leaves =
        owner-more d s whole after_back.world (holding.owned k d.world.home.slots) k refl refl
        (moves (starts d s whole) (takes_back_raw d.world k stands) tt (named d) (λ u. omega arith) (λ u never. absurd never)) Owned refl refl p live

  -- ---- a number is changed in its place
  module _ (o : ℕ) (slot : slot_of (holding_at d.owners o) ≡ Some k) (number m : ℕ) (w : World Val)
      (may : MayInPlace d.world k) (puts : Puts d.world k number w) (is : body_of puts.was ≡ body.Number m) where
    abbrev pub after_put : ScriptState
    after_put = in_world d w

    abbrev put_in_place : ScriptState
    put_in_place = in_world d (with_value d.world k puts.now)

    -- neither number is an owner
    same-owner : owner_in (body_of puts.now) ≡ owner_in (body_of puts.was)
    same-owner = let body = puts.changed.body in grind (arith, common_steps)

    pub put-leaves : LeavesSound d after_put
    put-leaves =
        subst (λ u. LeavesSound d (in_world d u)) (sym puts.put) (
        finishes d put_in_place.world d.owners d.cells d.collectors d.dates s
        (edited (starts d s whole) k puts.was puts.now may puts.there puts.changed.link same-owner
        (owner-outside d o k slot))
        (λ u. refl) (s.home.owners, s.home.cells, s.home.collectors) (dated-same d put_in_place refl refl) p live)

-- ---- an owner goes, alone or with its item

module _ (d : ScriptState) (s : IsSound d) (whole : IsWhole d.world) (p : ℕ) (live : IsPlaceOf d.world p) (o k : ℕ) (dates : List ℕ) where
  abbrev pub after_drop : World Val → ScriptState
  after_drop w = record (in_world (without_owner d o) w) { dates = dates }

  -- with its item
  alone-leaves : (w : World Val) → slot_of (holding_at d.owners o) ≡ Some k → IsAlone (standing_at d.world k) → ¬ (AnyGuardOpen d.world) →
      w ≡ dropped holdings_of d.world p k → IsDatedWithin d (after_drop w) → LeavesSound d (after_drop w)
  alone-leaves w slot alone quiet world =
      let may : MayInPlace d.world k = record { alone = alone; quiet = quiet } in
      subst (λ u. IsDatedWithin d (after_drop u) → LeavesSound d (after_drop u)) (sym world)
      (λ within. owner-leaves d s whole p k o live (drops d.world p k live may) tt (λ u never. never) slot dates
      (λ kept. dated-all d (after_drop (dropped holdings_of d.world p k)) s.stocked kept.slots within))

  -- one of several goes
  left-leaves : (owners : ℕ) (w : World Val) → slot_of (holding_at d.owners o) ≡ Some k → IsSharedBy owners (standing_at d.world k) → 1 < owners →
      w ≡ with_standing d.world k (Shared (owners - 1)) → IsDatedWithin d (after_drop w) → LeavesSound d (after_drop w)
  left-leaves owners w slot stands more world =
      let fewer = ap (λ (b : Bool). if b then with_standing d.world k (Shared (owners - 1)) else steps.retired d.world p k) (lt-ltb 1 owners more) in
      subst (λ u. IsDatedWithin d (after_drop u) → LeavesSound d (after_drop u)) (fewer ∙ sym world)
      (λ within. owner-leaves d s whole p k o live (releases d.world p k owners live stands.shared) tt (λ u never. never) slot dates
      (λ kept. dated-all d (after_drop (owner_given d.world p k (Some (Shared owners)))) s.stocked kept.slots within))

  pub drop-leaves : (h : OwnerOrCell) (given : Reply) (w : World Val) → holding_at d.owners o ≡ Some h → slot_of (Some h) ≡ Some k →
      Drops d.world p h given w → IsDatedWithin d (after_drop w) → LeavesSound d (after_drop w)
  drop-leaves (holding.owned j home) reply.Done w named slot does =
      let same : j ≡ k = cc in alone-leaves w (ap slot_of named ∙ slot) (inl (rw same at does.0)) does.1 (rw same at does.2)
  drop-leaves (holding.shared j home) (reply.Truth true) w named slot does =
      let same : j ≡ k = cc in alone-leaves w (ap slot_of named ∙ slot) (inr (rw same at does.0)) does.1 (rw same at does.2)
  drop-leaves (holding.shared j home) (reply.Truth false) w named slot does =
      let same : j ≡ k = cc in left-leaves does.0 w (ap slot_of named ∙ slot) (rw same at does.1) does.2 (rw same at does.3)
  drop-leaves h given w named slot does = absurd does
