-- What each action that takes an owner out of a cell, or puts one into it, leaves in hand: it is sound, and it is what the call means
use Rattle.sdd_script.proofs.Words.{false, get_or-map, ◌≡◌, ◌≢◌, ℕ, ◌+◌, ◌^◌, ◌<◌, List, Option, Some, None, IsSome, is_some, map, length, slice_index_or, slice_set, refl, sym, ap, ◌∙◌, subst, IfSome, option_map, Vec, map-set, set-get_or, set-set, Tag, entry_at, CellContents, IsSharedBy, OwnerOrCell, with_cell, with_standing, without_cell, World, standing_at, index_of, PlaceName, GuardName, OwnerName, ItemName, CellName, Call, At, Reply, Val, AnyOwner, OwnerKind, AnyCell, CellOwner, NamedParticipant, NamedGuard, Environment, ScriptState, holding_at, slot_of, Meets, HasOpen, slot_put, IsCell, item_held, named_owner, Fills, FitsIn, given_back, owner_holding, cell_holding, cell_kind, cell_number, filling_holding, state_of, held-named, Does, Here, attends, leaves, sits, stays-here, AtomicShared, CanCompare, CanCompareAt, CanPutBack, CannotGo, FitsCell, IsGiven, IsGivenBack, IsNameOf, IsShareFull, IsSharedCell, MatchOption, MayShare, arith, common_steps, held_as, named as named-as, owners_back, owners_put, owners_taken, put-fits, shared_once_more, slot_compared, swapped-leaves, taken-leaves}
use Rattle.sdd_participants.specs.declared.standing.Standing.TheVariants as standing
use Rattle.sdd_script_text.specs.Actions as call
use Rattle.sdd_script_text.specs.declared.answer.Reply.TheVariants as reply
use Rattle.sdd_interpreter.specs.declared.holding.AnyCell.TheVariants as cell
use Rattle.sdd_script.proofs.CellActs.{is-cell, slot-of-put}

-- it is no shared cell's
pub not-shared : (h : Environment) (c : ℕ) → ((x : AtomicShared Val) → slice_index_or h.cells.entries.items c None ≢ Some (cell.Share x)) →
    ¬ (IsSharedCell (state_of h) c)
not-shared h c never is = (let entry = get_or-map (option_map cell_holding) h.cells.entries.items c None in grind (arith, never, is))

-- where none was found, what is so then
pub none-found : {B : Type 0} {A : Type 0} (F : B → Type 0) (o : Option B) → is_some o ≡ false → MatchOption o A F → A
none-found F o h h2 = grind (arith, common_steps)

-- what a cell holds that can't be shared once more
pub crowded : (w : World Val) (o : Option ℕ) → IsSome o → IfSome o (λ slot. IsSharedBy (2 ^ 62) (standing_at w slot)) →
    (s : ℕ) × (o ≡ Some s) × IsSharedBy (2 ^ 62) (standing_at w s)
crowded w o h h2 = grind (arith, common_steps)

pub share-full : (w : World Val) (o : Option ℕ) → IsSome o → IfSome o (λ slot. IsSharedBy (2 ^ 62) (standing_at w slot)) → IsShareFull w o
share-full w o h h2 = grind (arith, common_steps)

-- ---- a cell of either kind

-- what goes into it
pub fits-as : (d : ScriptState) (x : AnyCell) (y : Option OwnerName) → FitsIn d.owners (cell_kind x) y → FitsCell d (Some (cell_holding x)) y
fits-as d x y h = grind (arith, common_steps)

put-long : (owners : List (Option OwnerOrCell)) (y : Option OwnerName) → length (owners_put owners y) ≡ length owners
put-long owners y = grind (arith, common_steps)

-- what comes out gets the next name
given-taken : (d : ScriptState) (owners : List (Option OwnerOrCell)) → length owners ≡ length d.owners → (x : AnyCell) (entry : Option OwnerOrCell) →
    entry ≡ Some (cell_holding x) → (o : Option ℕ) (new : List (Option OwnerOrCell)) (r : Option OwnerName) →
    IsGiven owners (held_as (cell_kind x) o d.world.home.slots) new r → (new ≡ owners_taken d owners entry o) × IsNameOf d o r
given-taken d owners h x entry h2 o new r h3 = grind (arith, common_steps)

-- an owner that went into a cell, and comes back, is where it was
back-same : (owners : List (Option OwnerOrCell)) (y : Option OwnerName) → owners_back (owners_put owners y) y (named_owner owners y) ≡ owners
back-same owners None = refl
back-same owners (Some o) = set-set owners o.0 None (holding_at owners o.0) ∙ set-get_or owners o.0 None

-- the reply to a cell that is spent
back-is : (d : ScriptState) (o : Option ℕ) (r : Option OwnerName) → IsNameOf d o r → IsGivenBack d o (given_back r)
back-is d o r h = grind (arith, common_steps)

-- what a copy makes of the world
pub copied-may : (w new : World Val) (other : ℕ) (held : CellContents) (o : Option ℕ) → MatchOption o (new ≡ with_cell w other held)
    (λ slot. (owners : ℕ) × IsSharedBy owners (standing_at w slot) × (owners < 2 ^ 62)
    × (new ≡ with_cell (with_standing w slot (standing.Shared (owners + 1))) other held)) →
    (count : ℕ) × MayShare w o count × (new ≡ with_cell (shared_once_more w o count) other held)
copied-may w new other held o h = grind (arith, common_steps)

pub slot-compared : (h : Environment) (i : Option ItemName) →
    option_map (λ (j : ItemName). slice_index_or h.log.slots.items j.0 0) i ≡ slot_compared (state_of h) i
slot-compared h i = grind (arith, common_steps)

module _ {h : Environment} (name : PlaceName) {a : NamedParticipant} (at : Here h name.0 a) where
  abbrev d : ScriptState
  d = state_of h

  -- ---- a cell of either kind
  module _ (c : CellName) (x : AnyCell) (held : CellContents)
      (mine : slice_index_or h.cells.entries.items c.0 None ≡ Some x) (holds : entry_at h.world.cells (cell_number x) ≡ Some held) where
    entry : holding_at d.cells c.0 ≡ Some (cell_holding x)
    entry = named-as cell_holding h.cells.entries.items c.0 mine

    is : IsCell d c.0 (cell_number x) held
    is = is-cell h c.0 x mine holds

    -- it is spent
    abbrev after_taken : ScriptState
    after_taken = record d {
      world = without_cell h.world (cell_number x);
      owners = owners_taken d d.owners (holding_at d.cells c.0) held.held;
      cells = slice_set d.cells c.0 None;
    }

    meets-taken : (r : Option OwnerName) → IsNameOf d held.held r → Meets d (At name (call.Into c)) (given_back r) after_taken
    meets-taken None named =
        ((attends at, ap is_some is.named), (cell_number x, held, is, back-is d held.held None named, refl))
    meets-taken (Some r) named =
        ((attends at, ap is_some is.named), (cell_number x, held, is, back-is d held.held (Some r) named, refl))

    pub acts-taken : (w : World Val) (owners : Vec (Option AnyOwner)) (cells : Vec (Option AnyCell)) (f : Option OwnerOrCell) (r : Option OwnerName) →
        cells.items ≡ slice_set h.cells.entries.items c.0 None → f ≡ held_as (cell_kind x) held.held h.world.home.slots →
        IsGiven d.owners f (map (option_map owner_holding) owners.items) r → w ≡ without_cell h.world (cell_number x) →
        Does d (At name (call.Into c)) (given_back r) (record h { world = w; owners = record { entries = owners }; cells = record { entries = cells } })
    acts-taken w owners cells f r taken out given world =
        let gone = ap (map (option_map cell_holding)) taken ∙ map-set (option_map cell_holding) h.cells.entries.items c.0 None in
        let all = given-taken d d.owners refl x (holding_at d.cells c.0) entry held.held (map (option_map owner_holding) owners.items) r
        (subst (λ z. IsGiven d.owners z (map (option_map owner_holding) owners.items) r) out given) in
        let told = all.0 in
        leaves at refl (cc (world, told, gone))
        (taken-leaves d at.tied.sound at.whole (index_of a.place) c.0 (cell_number x) held (sits at) is) (meets-taken r all.1)

    -- this goes into it, which is of its kind
    module _ (y : Option OwnerName) (tag : Tag) (fits : FitsIn d.owners (cell_kind x) y) where
      abbrev put : FitsCell d (holding_at d.cells c.0) y
      put = subst (λ z. FitsCell d z y) (sym entry) (fits-as d x y fits)

      abbrev after_swapped : ScriptState
      after_swapped = record d {
        world = with_cell h.world (cell_number x) (record { held = slot_put d y; tag = tag });
        owners = owners_taken d (owners_put d.owners y) (holding_at d.cells c.0) held.held;
      }

      module _ (w : World Val) (owners : Vec (Option AnyOwner)) (between : List (Option OwnerOrCell)) (next : CellOwner) (f : Option OwnerOrCell)
          (r : Option OwnerName) (fills : Fills d.owners (cell_kind x) y between next) (out : f ≡ held_as (cell_kind x) held.held h.world.home.slots)
          (given : IsGiven between f (map (option_map owner_holding) owners.items) r)
          (world : w ≡ with_cell h.world (cell_number x) (record { held = slot_of (filling_holding next); tag = tag })) where
        all : (map (option_map owner_holding) owners.items ≡ owners_taken d (owners_put d.owners y) (holding_at d.cells c.0) held.held)
            × IsNameOf d held.held r
        all = given-taken d (owners_put d.owners y) (put-long d.owners y) x (holding_at d.cells c.0) entry held.held
            (map (option_map owner_holding) owners.items) r
            (subst (λ z. IsGiven z (held_as (cell_kind x) held.held h.world.home.slots) (map (option_map owner_holding) owners.items) r) fills.left
            (subst (λ z. IsGiven between z (map (option_map owner_holding) owners.items) r) out given))

        -- by any call
        leads-swapped : (line : Call) (given : Reply) → Meets d line given after_swapped →
            Does d line given (record h { world = w; owners = record { entries = owners } })
        leads-swapped line given meets =
            let told = all.0 in
            let into : w ≡ with_cell h.world (cell_number x) (record { held = slot_put d y; tag = tag }) =
            world ∙ ap (λ o. with_cell h.world (cell_number x) (record { held = o; tag = tag })) (ap slot_of fills.holding ∙ slot-of-put d y) in
            leaves at refl (cc (into, told))
            (swapped-leaves d at.tied.sound at.whole (index_of a.place) c.0 (cell_number x) held (sits at) is y tag
            (put-fits d (holding_at d.cells c.0) y put)) meets

        pub acts-swapped : (was : Tag) → was ≡ held.tag →
            Does d (At name (call.Swap c y tag)) (reply.Swapped r was) (record h { world = w; owners = record { entries = owners } })
        acts-swapped was same =
            leads-swapped (At name (call.Swap c y tag)) (reply.Swapped r was)
            ((attends at, put), (cell_number x, held, is, all.1, same, refl))

        pub acts-exchanged : (g : GuardName) (i : Option ItemName) (was : Tag) → HasOpen d name.0 g.0 → CanCompare d name.0 i →
            held ≡ record { held = slot_compared d i; tag = was } →
            Does d (At name (call.Exchange c g i was y tag)) (reply.Exchanged r) (record h { world = w; owners = record { entries = owners } })
        acts-exchanged g i was valid can same =
            leads-swapped (At name (call.Exchange c g i was y tag)) (reply.Exchanged r) ((valid, can, put), (cell_number x, held, is, same, all.1, refl))

      -- it holds something else than the exchange compares with
      pub differs : (g : GuardName) (i : Option ItemName) (was : Tag) (j : Option ItemName) → HasOpen d name.0 g.0 → CanCompare d name.0 i →
          held ≢ record { held = slot_compared d i; tag = was } → j ≡ item_held d held →
          Meets d (At name (call.Exchange c g i was y tag)) (reply.Differs j held.tag) d
      differs g i was j valid can apart seen = ((valid, can, put), ((cell_number x, held, is, apart, seen, refl), refl))

    -- the item that it holds has a name
    pub seen-named : (o : Option ℕ) → held.held ≡ o → IfSome o (λ s. IsSome (slice_index_or h.log.names.items s None))
    seen-named None e = tt
    seen-named (Some s) e = held-named d at.tied.sound c.0 (cell_number x) s held is e

  -- what an exchange compares with the participant can point to, and it stays
  pub compares : (i : Option ItemName) → CanCompareAt h.world h.log.slots.items h.log.names.items h.log.dates.items i a.since → CanCompare d name.0 i
  compares i h = grind (arith, common_steps)

  pub compared-stays : (g : ℕ) (held : NamedGuard) → slice_index_or h.guards.entries.items g None ≡ Some held → held.place ≡ index_of a.place →
      (i : Option ItemName) → CanCompare d name.0 i → IfSome (slot_compared d i) (CannotGo h.world (index_of a.place))
  compared-stays g held here own None can = tt
  compared-stays g held here own (Some i) can = stays-here at g i.0 held here own can

-- ---- what goes into a cell, and comes back

pub room-kept : (old new : List (Option AnyOwner)) (y : Option OwnerName) →
    map (option_map owner_holding) new ≡ owners_put (map (option_map owner_holding) old) y → length new ≡ length old
room-kept old new y same = grind (arith, common_steps)

pub can-put-back : (owners : List (Option OwnerOrCell)) (kind : OwnerKind) (y : Option OwnerName) → FitsIn owners kind y →
    CanPutBack (owners_put owners y) y (named_owner owners y)
can-put-back owners kind y h = grind (arith, common_steps)

-- what a pointer was made to name
pub seen-as : (seen : CellContents) (o now : Option ℕ) (was : Tag) → seen ≡ record { held = o; tag = was } → o ≡ now →
    seen ≡ record { held = now; tag = was }
seen-as seen o now was is same = subst (λ z. seen ≡ record { held = z; tag = was }) same is

-- what was to go into a cell is put back, and the state is as it was
pub same-back : (h : Environment) (w : World Val) (owners : Vec (Option AnyOwner)) (kind : OwnerKind) (y : Option OwnerName)
    (between : List (Option OwnerOrCell))
    (next : CellOwner) (f : Option OwnerOrCell) → w ≡ h.world → Fills (state_of h).owners kind y between next → f ≡ filling_holding next →
    map (option_map owner_holding) owners.items ≡ owners_back between y f →
    state_of (record h { world = w; owners = record { entries = owners } }) ≡ state_of h
same-back h w owners kind y between next f world fills same back =
    let told : map (option_map owner_holding) owners.items ≡ (state_of h).owners =
    back ∙ ap (λ z. owners_back z y f) fills.left ∙ ap (owners_back (owners_put (state_of h).owners y) y) (same ∙ fills.holding)
    ∙ back-same (state_of h).owners y in
    grind (arith, common_steps, world, told)
