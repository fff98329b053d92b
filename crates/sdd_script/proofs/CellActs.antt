-- What each action of a cell leaves in hand: it is sound, and it is what the call means
use Rattle.sdd_script.proofs.Words.{◌≡◌, ℕ, Bool, true, false, if◌then◌else◌, [], ◌∷◌, ◌++◌, ◌<◌, Option, Some, None, is_some, map, length, slice_index_or, slice_set, refl, ap, ◌∙◌, IsTrue, ◌↔◌, IfSome, option_map, Vec, map-set, map_push, Tag, IsEmptyAt, entry_at, CellContents, OwnerOrCell, with_cell, cell_closed, held_in, World, index_of, PlaceName, OwnerName, CellName, At, Val, OwnerKind, AnyOwner, AnyCell, CellOwner, NamedParticipant, Environment, ScriptState, cell_of, in_world, slot_of, Meets, slot_put, IsCell, FitsIn, Fills, named_owner, dated_if_waiting, owner_holding, cell_holding, cell_number, filling_holding, state_of, IsTied, Does, Here, attends, does, goes, leaves, place-is, sits, still, IsPut, after_celled, arith, cell-there, cell_as, cell_closed-leaves, celled-leaves, common_steps, dates_spilled, filling_kind, held-dated, holding_around, making_cell, named as named-as, tagged-leaves, with_dates}
use Rattle.sdd_core.specs.declared.tag.Tag.TheVariants.{None as no_tag}
use Rattle.sdd_world_model.specs.OwnerOrCell as holding
use Rattle.sdd_script_text.specs.Actions as call
use Rattle.sdd_script_text.specs.declared.answer.Reply.TheVariants as reply
use Rattle.sdd_script_model.specs.declared.owner_kind.OwnerKind.TheVariants as ownership
use Rattle.sdd_interpreter.specs.declared.holding.AnyCell.TheVariants.{Sole, Share}

pub slot-of-put : (d : ScriptState) (x : Option OwnerName) → slot_of (named_owner d.owners x) ≡ slot_put d x
slot-of-put d x = grind (arith, common_steps)

-- what a name of a cell stands for, which holds this
pub is-cell : (h : Environment) (n : ℕ) (x : AnyCell) {cell : CellContents} → slice_index_or h.cells.entries.items n None ≡ Some x →
    entry_at h.world.cells (cell_number x) ≡ Some cell → IsCell (state_of h) n (cell_number x) cell
is-cell h n (Sole x) there holds = record { named = ap cell_of (named-as cell_holding h.cells.entries.items n there); holds = holds }
is-cell h n (Share x) there holds = record { named = ap cell_of (named-as cell_holding h.cells.entries.items n there); holds = holds }

-- ---- a cell is made

-- a cell of the kind that a new one is to have
abbrev like : ScriptState → OwnerKind → Option OwnerOrCell
like d ownership.Sole = None
like d ownership.Shared = Some (holding.atomic_shared 0 d.world.home.cells)

around-as : (d : ScriptState) (own : OwnerKind) (k : ℕ) → holding_around own k d.world.home.cells ≡ cell_as (like d own) k d
around-as d own k = grind (arith, common_steps)

put-in : (d : ScriptState) (own : OwnerKind) (x : Option OwnerName) → FitsIn d.owners own x → IsPut d x
put-in d own x h = grind (arith, common_steps)

-- what fills a cell is at home
pub named-home : (h : Environment) → IsTied h → (x : Option OwnerName) → IfSome (named_owner (state_of h).owners x) (holding.IsOf h.world.home)
named-home h t x = (let home = t.sound.home.owners in grind (arith, home))

module _ {h : Environment} (name : PlaceName) {a : NamedParticipant} (at : Here h name.0 a) where
  abbrev d : ScriptState
  d = state_of h

  abbrev p : ℕ
  p = index_of a.place

  celled-meets : (own : OwnerKind) (x : Option OwnerName) (k : ℕ) (r : CellName) (fits : FitsIn d.owners own x) (free : IsEmptyAt h.world.cells k) →
      r.0 ≡ length d.cells → Meets d (At name (making_cell own x)) (reply.Cell r)
      (after_celled d at.tied.sound at.whole p k (like d own) x (sits at) free (put-in d own x fits))
  celled-meets own x k r fits free h = grind (arith, common_steps)

  pub acts-celled : (own : OwnerKind) (x : Option OwnerName) (k : ℕ) (w : World Val) (owners : Vec (Option AnyOwner)) (cells : Vec (Option AnyCell))
      (f : CellOwner) (c : AnyCell) (r : CellName) → FitsIn d.owners own x → Fills d.owners own x (map (option_map owner_holding) owners.items) f →
      IsEmptyAt h.world.cells k → w ≡ with_cell h.world k (record { held = slot_of (filling_holding f); tag = no_tag }) →
      cell_holding c ≡ holding_around (filling_kind f) k h.world.home.cells → cells.items ≡ h.cells.entries.items ++ Some c ∷ [] →
      r.0 ≡ length d.cells →
      Does d (At name (making_cell own x)) (reply.Cell r) (record h { world = w; owners = record { entries = owners }; cells = record { entries = cells } })
  acts-celled own x k w owners cells f c r fits fills free world around pushed named =
      let slot : slot_of (filling_holding f) ≡ slot_put d x = ap slot_of fills.holding ∙ slot-of-put d x in
      let now : w ≡ with_cell h.world k (record { held = slot_put d x; tag = no_tag }) =
      world ∙ ap (λ held. with_cell h.world k (record { held = held; tag = no_tag })) slot in
      let is_holding : cell_holding c ≡ cell_as (like d own) k d =
      around ∙ ap (λ kind. holding_around kind k h.world.home.cells) fills.of_kind ∙ around-as d own k in
      let more : map (option_map cell_holding) cells.items ≡ d.cells ++ Some (cell_as (like d own) k d) ∷ [] =
      ap (map (option_map cell_holding)) pushed ∙ map_push (option_map cell_holding) h.cells.entries.items (Some c)
      ∙ ap (λ y. d.cells ++ Some y ∷ []) is_holding in
      let left = fills.left in
      leaves at refl (cc (now, left, more)) (celled-leaves d at.tied.sound at.whole p k (like d own) x (sits at) free (put-in d own x fits))
      (celled-meets own x k r fits free named)

  -- ---- a cell with a name
  module _ (c : CellName) (x : AnyCell) (mine : slice_index_or h.cells.entries.items c.0 None ≡ Some x) where
    abbrev k : ℕ
    k = cell_number x

    -- its tag changes, or not
    pub acts-tagged : (tag was : Tag) (cell : CellContents) (b : Bool) (w : World Val) → entry_at h.world.cells k ≡ Some cell
        → (IsTrue b ↔ (cell.tag ≡ was)) →
        w ≡ (if b then with_cell h.world k (record cell { tag = tag }) else h.world) →
        Does d (At name (call.TagIf c tag was)) (reply.Truth b) (record h { world = w })
    acts-tagged tag was cell true w holds decides world =
        let own = is-cell h c.0 x mine holds in
        leaves at refl (ap (in_world d) world) (tagged-leaves d at.tied.sound at.whole p k cell (sits at) own.holds tag c.0 own.named)
        ((attends at, ap is_some own.named), (k, cell, own, decides, refl))
    acts-tagged tag was cell false w holds decides world =
        let own = is-cell h c.0 x mine holds in
        does d (At name (call.TagIf c tag was)) (reply.Truth false) (goes (ap (in_world d) world) at.tied.sound at.tied.guards)
        (still d (At name (call.TagIf c tag was)) (reply.Truth false) ((attends at, ap is_some own.named), (k, cell, own, decides, refl)))

    -- what is in it
    found : (cell : CellContents) × IsCell d c.0 k cell
    found = cell-there d at.tied.sound c.0 k (let named = named-as cell_holding h.cells.entries.items c.0 mine in grind (arith, named))

    -- the slot whose item a cell held that is closed has a date
    pub held-within : IfSome (held_in (entry_at h.world.cells k)) (λ j. j < length h.log.dates.items)
    held-within =
        let all : (j : ℕ) → found.0.held ≡ Some j → j < length h.log.dates.items = λ j e. held-dated d at.tied.sound c.0 k j found.0 found.1 e in
        rw found.1.holds (grind (arith, all))

    -- the item of what a closed cell held began to wait in this line, if it waits now
    dates-same : (w : World Val) (held : Option ℕ) → dated_if_waiting w held h.log.moment h.log.dates.items ≡ dates_spilled d w held
    dates-same w held = grind (arith, common_steps)

    -- it is closed
    pub acts-cell_closed : (w : World Val) (cells : Vec (Option AnyCell)) (dates : Vec ℕ) → cells.items ≡ slice_set h.cells.entries.items c.0 None →
        w ≡ cell_closed h.world p k → dates.items ≡ dated_if_waiting w (held_in (entry_at h.world.cells k)) h.log.moment h.log.dates.items →
        Does d (At name (call.CloseCell c)) reply.Done (record (with_dates h dates) { world = w; cells = record { entries = cells } })
    acts-cell_closed w cells dates taken world dated =
        let gone : map (option_map cell_holding) cells.items ≡ slice_set d.cells c.0 None =
        ap (map (option_map cell_holding)) taken ∙ map-set (option_map cell_holding) h.cells.entries.items c.0 None in
        let now : dates.items ≡ dates_spilled d (cell_closed h.world p k) found.0.held =
        dated ∙ dates-same w (held_in (entry_at h.world.cells k)) ∙ ap (λ v. dates_spilled d v (held_in (entry_at h.world.cells k))) world
        ∙ ap (λ e. dates_spilled d (cell_closed h.world p k) (held_in e)) found.1.holds in
        leaves at refl (cc (world, gone, now)) (cell_closed-leaves d at.tied.sound at.whole p c.0 k found.0 (sits at) found.1)
        ((attends at, ap is_some found.1.named), (k, found.1.named, rw (place-is at) refl))
