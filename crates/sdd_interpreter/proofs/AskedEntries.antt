-- What a push and a pop answer that ask whether an entry is a number, as a step says it
use Rattle.sdd_interpreter.proofs.Words.{◌≡◌, ◌⊎◌, inl, inr, ℕ, List, ◌∷◌, Bool, true, false, Option, Some, None, is_some, refl, sym, subst, false≢true, IsTrue, Result, Ok, Err, Bor, Refused, NoSlot, NoCell, IsOfSlots, World, Entry, first_value, left, cells_in, Queue, Stack, HasNumber, RefusesEntry, Val, Body, PushesIf, AnyList, DequeuesIf, IfSome, IsFull, Kept, MatchResult, PopsIf, last_value, slots_home, ◌↔◌}
use Rattle.sdd_space.specs.Shared.{Shared}
use Rattle.sdd_rights.specs.Units as units
use Rattle.sdd_lists.specs.Asking.{kept_by}
use Rattle.sdd_lists.specs.Lists.{IsKept}
use Rattle.sdd_lists.specs.Stack as stacks
use Rattle.sdd_lists.specs.declared.unpopped.Unpopped.{Unpopped}
use Rattle.sdd_lists.specs.declared.unpopped.Unpopped.TheVariants.{Refused as RefusedBy}
use Rattle.sdd_interpreter.specs.declared.holding.AnyList.TheVariants as any
use Rattle.sdd_interpreter.proofs.PopAnswers.{pops-newest, pops-oldest}

-- where a push was asked for, the entry that it asks of is the number
pub push-held : (m : ℕ) (v value : Option Val) → value ≡ v → IsTrue true ↔ HasNumber value m → HasNumber v m
push-held m v value same says = subst (λ (x : Option Val). HasNumber x m) same (says.0 refl)

-- a push that is refused finds no slot, or else no cell
pub wants-entry : (w : World Val) (why : Refused) →
    IsFull w.standings × (why ≡ NoSlot) ⊎ ¬ (IsFull w.standings) × IsFull w.cells × (why ≡ NoCell) → RefusesEntry w why
wants-entry w why (inl slot) = subst (λ (r : Refused). RefusesEntry w r) (sym slot.1) slot.0
wants-entry w why (inr cell) = subst (λ (r : Refused). RefusesEntry w r) (sym cell.2) (cell.0, cell.1)

-- one that asks first is refused so where the newest is the number, and else its own comes back
pub pushes-not : (home : units.GhostName) (w new : World Val) (p : ℕ) (queue : Bor (Queue Body)) (es : List (Entry Val)) (second : Option ℕ)
    (number m : ℕ) (why : Option Refused) → new ≡ w →
    IfSome why (λ r. IsFull w.standings × (r ≡ NoSlot) ⊎ ¬ (IsFull w.standings) × IsFull w.cells × (r ≡ NoCell)) → (value : Option Val) →
    value ≡ last_value es → IsTrue (is_some why) ↔ HasNumber value m → PushesIf home w p (any.Queue queue) es second number (Some m) (Err why) new
pushes-not home w new p queue es second number m None same full value is says =
    ((λ has. false≢true (says.1 (subst (λ (x : Option Val). HasNumber x m) (sym is) has))), same)
pushes-not home w new p queue es second number m (Some r) same full value is says =
    (subst (λ (x : Option Val). HasNumber x m) is (says.0 refl), (wants-entry w r full, same))

-- a pop, of which a condition says this, which has captured something
module _ (home : units.GhostName) (w : World Val) (p : ℕ) (es : List (Entry Val)) (second : Option ℕ) (m : ℕ) {X : Type 0} (captured : X → Type 0) where
  abbrev Asked : Val → Bool → Type 0
  Asked value held = (shown : Bor Val) × (shown.now ≡ value) × ((x : X) × ((IsTrue held ↔ HasNumber (Some shown.now) m) × captured x))

  held-so : (e : Entry Val) (rest : List (Entry Val)) (held : Bool) → left es ≡ e ∷ rest → Asked e.value held →
      IsTrue held ↔ HasNumber (first_value (left es)) m
  held-so e rest held first told =
      subst (λ (gs : List (Entry Val)). IsTrue held ↔ HasNumber (first_value gs) m) (sym first)
      (subst (λ (v : Val). IsTrue held ↔ HasNumber (Some v) m) told.1 told.2.1.0)

  -- the first entry stays
  kept-so : (x : AnyList) (owner : Shared Val) (new : World Val) (e : Entry Val) (rest : List (Entry Val)) → left es ≡ e ∷ rest → Asked e.value false →
      IsKept w e owner new → slots_home owner ≡ home → PopsIf home w p x es second (Some m) (Err (Kept owner)) new
  kept-so x owner new e rest first told kept at = (
    (λ has. false≢true ((held-so e rest false first told).1 has)),
    at,
    (e, rest, first, kept.slot, (kept.owners, kept.shared, kept.few, kept.world)),
  )

  pub queue-pops-if : (queue : Bor (Queue Body)) (r : Result (Option (Shared Val)) (Unpopped Body)) (new : World Val) →
      DequeuesIf Asked w p (cells_in queue.now) es second r new → MatchResult r (IsOfSlots home) (λ e. IsOfSlots home (kept_by e)) →
      PopsIf home w p (any.Queue queue) es second (Some m) r new
  queue-pops-if queue (Ok None) new pops at = pops-oldest home w p queue es second (Ok None) new tt pops
  queue-pops-if queue (Ok (Some owner)) new (e, rest, first, told, taken) at =
      ((held-so e rest true first told).0 refl, pops-oldest home w p queue es second (Ok (Some owner)) new at (e, rest, first, taken))
  queue-pops-if queue (Err (Kept owner)) new (e, rest, first, told, kept) at = kept-so (any.Queue queue) owner new e rest first told kept at
  queue-pops-if queue (Err (RefusedBy why)) new pops at = pops-oldest home w p queue es second (Err why) new tt pops

  pub stack-pops-if : (stack : Bor (Stack Body)) (r : Result (Option (Shared Val)) (Unpopped Body)) (new : World Val) →
      stacks.PopsIf Asked w p (stacks.cell_in stack.now) es r new → MatchResult r (IsOfSlots home) (λ e. IsOfSlots home (kept_by e)) →
      PopsIf home w p (any.Stack stack) es second (Some m) r new
  stack-pops-if stack (Ok None) new pops at = pops-newest home w p stack es second (Ok None) new tt pops
  stack-pops-if stack (Ok (Some owner)) new (e, rest, first, told, taken) at =
      ((held-so e rest true first told).0 refl, pops-newest home w p stack es second (Ok (Some owner)) new at (e, rest, first, taken))
  stack-pops-if stack (Err (Kept owner)) new (e, rest, first, told, kept) at = kept-so (any.Stack stack) owner new e rest first told kept at
  stack-pops-if stack (Err (RefusedBy why)) new pops at = pops-newest home w p stack es second (Err why) new tt pops
