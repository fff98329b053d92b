-- Which item is in which slot, after each step of a call
use Rattle.sdd_script_model.proofs.Words.{EpochState, Shared, Retired, retired, with_standing, owner_given, cell_closed, freed, all_reclaimed, vacated, dropped_out, dropped, opened, ran, false≢true, is_waiting, out-some, some-waits, out-waits-not, ScriptState, IsThere, slot_at, name_at, IsStored, SlotsHaveNames, IfSome, ◌≡◌, ℕ, ◌<◌, false, true, List, [], ◌∷◌, ◌++◌, Option, Some, None, IsSome, is_some, length, slice_set, refl, sym, ap, ◌∙◌, arith, length-set, IsEmptyAt, with_entry, without_entry, LimboEntry, Standing, is_out, World, standing_at, value_at, Val, holdings_of, common_steps}
use Rattle.sdd_script_model.proofs.Entry.{set-where}
use Rattle.sdd_script_model.proofs.SmallSteps.{keeps-given, keeps-closed, keeps-all_given, keeps-all, keeps-opened}

-- the same slots are there, none is taken that was free, what waits does so until its slot is free, no item is made, and the home is the same
pub record KeepsSlots (old new : World Val) : Type 0 where
  pub taken : (s : ℕ) → IsSome (standing_at new s) → IsSome (standing_at old s)
  pub waits : (s : ℕ) → is_waiting (standing_at old s) ≡ true → IsSome (standing_at new s) → is_waiting (standing_at new s) ≡ true
  pub slots : length new.standings ≡ length old.standings
  pub home : new.home ≡ old.home
  pub made : new.tally.made ≡ old.tally.made

-- what is there and does not wait is out
pub there-out : (x : Option Standing) → is_some x ≡ true → is_waiting x ≡ false → is_out x ≡ true
there-out x some idle = grind arith

-- what begins to wait was out
pub begins-out : {v w : World Val} → KeepsSlots v w → (s : ℕ) → is_waiting (standing_at w s) ≡ true → is_waiting (standing_at v s) ≡ false →
    is_out (standing_at v s) ≡ true
begins-out {v} {w} k s waits idle = there-out (standing_at v s) (k.taken s (some-waits (standing_at w s) waits)) idle

-- only time, values, cells or jobs change
pub slots-same : (w u : World Val) → u.standings ≡ w.standings → u.home ≡ w.home → u.tally.made ≡ w.tally.made → KeepsSlots w u
slots-same w u e home made = record { taken = λ s t. rw e at t; waits = λ s was t. rw e was; slots = ap length e; home = home; made = made }

pub slots-then : {u v w : World Val} → KeepsSlots u v → KeepsSlots v w → KeepsSlots u w
slots-then a b = record {
  taken = λ s t. a.taken s (b.taken s t);
  waits = λ s was t. b.waits s (a.waits s was (b.taken s t)) t;
  slots = b.slots ∙ a.slots;
  home = b.home ∙ a.home;
  made = b.made ∙ a.made;
}

-- one that didn't wait may stand in any way
pub waits-not : (x : Option Standing) (s : Standing) → is_waiting x ≡ false → is_waiting x ≡ true → is_waiting (Some s) ≡ true
waits-not x s idle was = absurd (false≢true (sym idle ∙ was))

-- one slot is written
slots-write : (w u : World Val) (k : ℕ) (x : Option Standing) → (IsSome x → IsSome (standing_at w k)) →
    (is_waiting (standing_at w k) ≡ true → IsSome x → is_waiting x ≡ true) → u.standings ≡ slice_set w.standings k x → u.home ≡ w.home →
    u.tally.made ≡ w.tally.made → KeepsSlots w u
slots-write w u k x taken waits is home made = record {
  taken = λ j now. let at = set-where w.standings k j x None in grind (arith, common_steps);
  waits = λ j was now. let at = set-where w.standings k j x None in grind (arith, common_steps);
  slots = ap length is ∙ length-set w.standings k x;
  home = home;
  made = made;
}

-- a slot that is taken stands otherwise
pub slots-set : (w u : World Val) (k : ℕ) (s : Standing) → IsSome (standing_at w k) → (is_waiting (standing_at w k) ≡ true → is_waiting (Some s) ≡ true) →
    u.standings ≡ with_entry w.standings k s → u.home ≡ w.home → u.tally.made ≡ w.tally.made → KeepsSlots w u
slots-set w u k s some waits = slots-write w u k (Some s) (λ there. some) (λ was there. waits was)

-- a slot is free
slots-freed : (w u : World Val) (k : ℕ) → u.standings ≡ without_entry w.standings k → u.home ≡ w.home → u.tally.made ≡ w.tally.made → KeepsSlots w u
slots-freed w u k = slots-write w u k None (λ never. absurd (false≢true never)) (λ was never. absurd (false≢true never))

module _ (w : World Val) where
  abbrev P : World Val → Type 0
  P = KeepsSlots w

  retires : (u : World Val) (p k : ℕ) → is_out (standing_at u k) ≡ true → P u → P (retired u p k)
  retires u p k out i = slots-then i (slots-set u (retired u p k) k Retired (out-some (standing_at u k) out) (λ was. refl) refl refl refl)

  frees_cell : (u : World Val) (c : ℕ) → P u → P (record u { cells = without_entry u.cells c })
  frees_cell u c i = record { taken = i.taken; waits = i.waits; slots = i.slots; home = i.home; made = i.made }

  shares : (u : World Val) (k n m : ℕ) → standing_at u k ≡ Some (Shared n) → P u → P (with_standing u k (Shared m))
  shares u k n m is i = slots-then i (slots-set u (with_standing u k (Shared m)) k (Shared m) (ap is_some is)
      (waits-not (standing_at u k) (Shared m) (ap is_waiting is)) refl refl refl)

  frees : (u : World Val) (k : ℕ) → P u → P (freed u k)
  frees u k i = slots-then i (slots-freed u (freed u k) k refl refl refl)

  times : (u : World Val) (t : EpochState) → P u → P (record u { time = t })
  times u t i = record { taken = i.taken; waits = i.waits; slots = i.slots; home = i.home; made = i.made }

  runs : (u : World Val) (j : ℕ) → P u → P (ran u j)
  runs u j i = record { taken = i.taken; waits = i.waits; slots = i.slots; home = i.home; made = i.made }

  start : P w
  start = slots-same w w refl refl refl

  pub slots-given : (p k : ℕ) (s : Option Standing) → standing_at w k ≡ s → P (owner_given w p k s)
  slots-given p k s is = keeps-given P retires frees_cell shares w p k s is start

  pub slots-cell_closed : (p c : ℕ) → P (cell_closed w p c)
  slots-cell_closed p c = keeps-closed P retires frees_cell shares w p c start

  pub slots-all : (p : ℕ) (xs : List LimboEntry) (u : World Val) → P u → P (all_reclaimed holdings_of u p xs)
  slots-all p xs u i = keeps-all P retires frees_cell shares frees times runs u p xs i

  pub slots-opened : (p : ℕ) → P (opened holdings_of w p)
  slots-opened p = keeps-opened P retires frees_cell shares frees times runs w p start

  pub slots-dropped : (p k : ℕ) → P (dropped holdings_of w p k)
  slots-dropped p k = elim (value_at w k) as (λ v. P (dropped_out holdings_of w p k v)) [
    | None ↦ start
    | Some v ↦ keeps-all_given P retires frees_cell shares (vacated w k) p (holdings_of v) (slots-freed w (vacated w k) k refl refl refl)
  ]

-- a bag's storage is one still
abbrev pub KeepsStored : (d new : ScriptState) → Type 0
KeepsStored d new = (s : ℕ) → IsStored d.bags d.world s → IsStored new.bags new.world s

-- no item is made, and no slot is taken
pub stocked-as : (d new : ScriptState) → SlotsHaveNames d → new.slots ≡ d.slots → new.names ≡ d.names → length new.dates ≡ length d.dates →
    KeepsSlots d.world new.world → KeepsStored d new → SlotsHaveNames new
stocked-as d new i slots names dates none stored = grind (arith, common_steps)

-- the next item is made in slot k, which was free
module _ (d : ScriptState) (k : ℕ) (i : SlotsHaveNames d) (empty : IsEmptyAt d.world.standings k) (new : ScriptState) (first : Standing)
    (slots : new.slots ≡ d.slots ++ k ∷ []) (names : new.names ≡ slice_set d.names k (Some (length d.slots))) (dates : length new.dates ≡ length d.dates)
    (stands : new.world.standings ≡ with_entry d.world.standings k first) (stored : KeepsStored d new) where
  pub stocked-made : SlotsHaveNames new
  stocked-made = grind (arith, common_steps)

-- ---- what is in a slot that is taken

module _ (d : ScriptState) (i : SlotsHaveNames d) (s : ℕ) (some : IsSome (standing_at d.world s)) where
  -- the item of this name is there, in this slot
  pub item-there : (n : ℕ) → name_at d s ≡ Some n → IsThere d n × (slot_at d n ≡ s)
  item-there n is = grind (arith, common_steps)

  pub slot-inside : (s < length d.names) × (s < length d.dates)
  slot-inside = grind (arith, common_steps)

-- an item that doesn't wait has a name, if it is no storage of a bag
pub record HasName (d : ScriptState) (s : ℕ) : Type 0 where
  pub name : ℕ
  pub is : name_at d s ≡ Some name
  pub given : name < length d.slots
  pub slot : slot_at d name ≡ s

pub idle-named : (d : ScriptState) → SlotsHaveNames d → (s : ℕ) → IsSome (standing_at d.world s) → is_waiting (standing_at d.world s) ≡ false →
    (IsStored d.bags d.world s → ⊥) → HasName d s
idle-named d i s some idle not = grind (arith, common_steps)

pub out-named : (d : ScriptState) → SlotsHaveNames d → (s : ℕ) → is_out (standing_at d.world s) ≡ true → (IsStored d.bags d.world s → ⊥) → HasName d s
out-named d i s out not = idle-named d i s (out-some (standing_at d.world s) out) (out-waits-not (standing_at d.world s) out) not

pub name-some : (d : ScriptState) → SlotsHaveNames d → (s : ℕ) → is_out (standing_at d.world s) ≡ true → (IsStored d.bags d.world s → ⊥) → IsSome (name_at d s)
name-some d i s out not = ap is_some (out-named d i s out not).is

-- a name is that of an item that was made
pub name-given : (d : ScriptState) → SlotsHaveNames d → (s : ℕ) → IsSome (standing_at d.world s) → IfSome (name_at d s) (λ n. n < length d.slots)
name-given d i s some = grind (arith, common_steps)
