-- What each action on an item in its place, or on a raw one, leaves in hand: it is sound, and it is what the call means
use Rattle.sdd_script.proofs.Words.{◌≡◌, ◌≢◌, ℕ, Bool, true, false, List, Option, Some, None, is_some, map, slice_index_or, slice_set, refl, sym, ap, ◌∙◌, arith, option_map, Vec, map-set, Refused, GuardOpen, OwnerOrCell, World, value_at, index_of, PlaceName, GuardName, OwnerName, ItemName, At, Reply, Body, Val, body_of, ScriptState, IsThere, holding_at, slot_at, slot_of, Acts, Meets, HasOpen, IsOwnerName, told_of, AnyOwner, Sole, Share, NamedParticipant, Environment, owner_holding, state_of, Does, Here, attends, leaves, place-is, sits, still, CanPointAt, Drops, IsRaw, MayInPlace, OwnsNumber, Puts, RefusedInPlace, RefusesDrop, after_drop, common_steps, drop-leaves, named as named-as, put-leaves, with_dates}
use Rattle.sdd_world_model.specs.OwnerOrCell as holding
use Rattle.sdd_space.specs.Owned as owned
use Rattle.sdd_space.specs.Shared as shared
use Rattle.sdd_script_text.specs.Actions as call
use Rattle.sdd_script_text.specs.declared.answer.Reply.TheVariants as reply
use Rattle.sdd_script_model.specs.declared.val.Body.TheVariants as body
use Rattle.sdd_script.proofs.StackActs.{AreDatedNow, AreTold, dated-within}

-- an item that is there whenever it began to wait
pub there-from : (h : Environment) (i : ℕ) → CanPointAt h.world h.log.slots.items h.log.names.items h.log.dates.items i 0 → IsThere (state_of h) i
there-from h i can = record { last = can.last; taken = can.taken }

-- where the world and what names of owners stand for are as before, so is the state
pub same-state : (h : Environment) (w : World Val) (owners : Vec (Option AnyOwner)) → w ≡ h.world
    → map (option_map owner_holding) owners.items ≡ (state_of h).owners →
    state_of (record h { world = w; owners = record { entries = owners } }) ≡ state_of h
same-state h w owners world same = grind (arith, common_steps)

-- the slot of an owner's item
its-slot : (x : AnyOwner) → (k : ℕ) × (slot_of (Some (owner_holding x)) ≡ Some k)
its-slot (Sole x) = (owned.slot_of x, refl)
its-slot (Share x) = (shared.slot_of x, refl)

-- one name stands for one owner, of one item
pub one-held : (x y : AnyOwner) (o : Option AnyOwner) → Some x ≡ o → Some y ≡ o → x ≡ y
one-held x y o e f = let both : Some x ≡ Some y = e ∙ sym f in cc

pub same-value : (h : Environment) (x : AnyOwner) (j k : ℕ) (v : Val) → slot_of (Some (owner_holding x)) ≡ Some j → slot_of (Some (owner_holding x)) ≡ Some k →
    value_at h.world j ≡ Some v → value_at h.world k ≡ Some v
same-value h x j k v e f shown = let both : Some j ≡ Some k = sym e ∙ f in let same : j ≡ k = cc in rw (← same) shown

module _ {h : Environment} (name : PlaceName) {a : NamedParticipant} (at : Here h name.0 a) where
  abbrev d : ScriptState
  d = state_of h

  abbrev p : ℕ
  p = index_of a.place

  -- ---- a raw item is seen
  pub acts-seen : (i : ItemName) (g : GuardName) (v : Val) → HasOpen d name.0 g.0 → IsThere d i.0 → IsRaw d i.0 →
      value_at h.world (slot_at d i.0) ≡ Some v → Acts d (At name (call.See i g)) (told_of h.log.names.items (body_of v)) d
  acts-seen i g v valid is_there raw shown = still d (At name (call.See i g)) (told_of h.log.names.items (body_of v)) (by (body_of v) refl) where
    by : (b : Body) → body_of v ≡ b → Meets d (At name (call.See i g)) (told_of h.log.names.items b) d
    by (body.Number m) e = ((valid, is_there), (raw, (v, shown, ap (told_of h.log.names.items) (sym e)), refl))
    by other e = ((valid, is_there), (raw, (v, shown, ap (told_of h.log.names.items) (sym e)), refl))

  -- ---- an owner of this name
  module _ (o : OwnerName) (x : AnyOwner) (mine : slice_index_or h.owners.entries.items o.0 None ≡ Some x) where
    entry : holding_at d.owners o.0 ≡ Some (owner_holding x)
    entry = named-as owner_holding h.owners.entries.items o.0 mine

    is-owner : IsOwnerName d o.0
    is-owner = ap (λ s. is_some (slot_of s)) entry ∙ ap is_some (its-slot x).1

    -- a number is changed in its place
    owns : (k : ℕ) (v : Val) → slot_of (Some (owner_holding x)) ≡ Some k → value_at h.world k ≡ Some v → (m : ℕ) → body_of v ≡ body.Number m → OwnsNumber d o.0
    owns k v slot shown m is_number = (k, v, m, ap slot_of entry ∙ slot, shown, is_number)

    pub acts-put : (number k m : ℕ) (v : Val) (w : World Val) (owners : Vec (Option AnyOwner)) → slot_of (Some (owner_holding x)) ≡ Some k →
        value_at h.world k ≡ Some v → body_of v ≡ body.Number m → MayInPlace h.world k → Puts h.world k number w →
        map (option_map owner_holding) owners.items ≡ d.owners →
        Does d (At name (call.Put o number)) reply.Done (record h { world = w; owners = record { entries = owners } })
    acts-put number k m v w owners slot shown is_number may puts same =
        let one : Some v ≡ Some puts.was = sym shown ∙ puts.there in
        let was : body_of puts.was ≡ body.Number m = (let value : v ≡ puts.was = cc in ap body_of (sym value) ∙ is_number) in
        leaves at refl (cc same) (put-leaves d at.tied.sound at.whole p k (sits at) o.0 (ap slot_of entry ∙ slot) number m w may puts was)
        ((attends at, owns k v slot shown m is_number), (k, w, ap slot_of entry ∙ slot, may, puts, refl))

    pub put-refused : (number k m : ℕ) (v : Val) (e : Refused) → slot_of (Some (owner_holding x)) ≡ Some k → value_at h.world k ≡ Some v →
        body_of v ≡ body.Number m → RefusedInPlace h.world k e → Meets d (At name (call.Put o number)) (reply.Refused e) d
    put-refused number k m v e slot shown is_number refused =
        ((attends at, owns k v slot shown m is_number), ((k, ap slot_of entry ∙ slot, refused), refl))

    pub owns-none : (k : ℕ) (v : Val) → slot_of (Some (owner_holding x)) ≡ Some k → value_at h.world k ≡ Some v → ((m : ℕ) → body_of v ≢ body.Number m) →
        ¬ (OwnsNumber d o.0)
    owns-none k v slot shown none own = grind (arith, common_steps)

    -- an owner goes, alone or with its item
    pub acts-dropped : (given : Reply) (waited : List Bool) (w : World Val) (owners : Vec (Option AnyOwner)) (dates : Vec ℕ) → AreTold h waited →
        Drops h.world p (owner_holding x) given w → owners.items ≡ slice_set h.owners.entries.items o.0 None → AreDatedNow h w waited dates →
        Does d (At name (call.Drop o)) given (record (with_dates h dates) { world = w; owners = record { entries = owners } })
    acts-dropped given waited w owners dates told did taken now =
        let (k, slot) = its-slot x in
        let left =
        drop-leaves d at.tied.sound at.whole p (sits at) o.0 k dates.items (owner_holding x) given w entry slot did
        (dated-within h at.tied waited told w dates now) in
        let gone = (ap (map (option_map owner_holding)) taken ∙ map-set (option_map owner_holding) h.owners.entries.items o.0 None) in
        leaves at refl (cc gone) left (by (owner_holding x) given did refl) where
          said : Reply → Type 0
          said r = Meets d (At name (call.Drop o)) r (after_drop d at.tied.sound at.whole p (sits at) o.0 (its-slot x).0 dates.items w)

          tells : (z : OwnerOrCell) → owner_holding x ≡ z → holding_at d.owners o.0 ≡ Some z
          tells z e = entry ∙ ap Some e

          by : (z : OwnerOrCell) (r : Reply) → Drops h.world p z r w → owner_holding x ≡ z → said r
          by (holding.owned j home) reply.Done did e =
              ((attends at, is-owner), rw (place-is at) (holding.owned j home, w, tells _ e, did, refl))
          by (holding.shared j home) (reply.Truth true) did e =
              ((attends at, is-owner), rw (place-is at) (holding.shared j home, w, tells _ e, did, refl))
          by (holding.shared j home) (reply.Truth false) did e =
              ((attends at, is-owner), rw (place-is at) (holding.shared j home, w, tells _ e, did, refl))
          by z r did e = absurd did

    pub drop-refused : RefusesDrop h.world (owner_holding x) → Meets d (At name (call.Drop o)) (reply.Refused GuardOpen) d
    drop-refused refused = ((attends at, is-owner), ((owner_holding x, entry, refused), refl))
