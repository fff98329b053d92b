-- What each action on a stack leaves in hand: it is sound, and it is what the call means
use Rattle.sdd_script.proofs.Words.{◌≡◌, ◌<◌, inr, ℕ, Bool, false, List, [], ◌∷◌, ◌++◌, Option, Some, None, is_some, map, length, slice_index, slice_index_or, slice_set, if◌then◌else◌, refl, sym, ap, ◌∙◌, subst, arith, option_map, Vec, length-map, NoCell, IsEmptyAt, IsFull, is_waiting, World, IsPlaceOf, standing_at, nulled, IsWhole, Entry, cell_in, home_in, Stack, index_of, PlaceName, GuardName, StackName, At, Body, Begins, ScriptState, in_world, opening_at, place_of, without_stack, Acts, HasOpen, IsParticipant, IsUnderGuard, IsStack, stack_closed, Val, stack_holding, NamedParticipant, open_since, Environment, IsTied, state_of, Does, still, stack-cell, stacks-more, stacks-spent, IsStackName, begun-leaves, date_now, poured, stack_closed-leaves, with_dates}
use Rattle.sdd_world_model.specs.OwnerOrCell as holding
use Rattle.sdd_script_text.specs.Actions as call
use Rattle.sdd_script_text.specs.declared.answer.Reply.TheVariants as reply
use Rattle.sdd_script_model.proofs.StackMoves.{poured-leaves}
use Rattle.sdd_interpreter.proofs.Acts as acts

-- the entries of the stack of this name
pub stack-entries : (h : Environment) → IsTied h → (s : ℕ) (x : Stack Body) → Some x ≡ slice_index_or h.lists.stacks.entries.items s None →
    (es : List (Entry Val)) × IsStack (state_of h) s (cell_in x) es
stack-entries h t s x mine =
    let named = stack-cell h s x mine in
    let first = t.sound.lists.lists (cell_in x) (inr (s, named)) in
    (first.0, record { named = named; list = first.1 })

pub is-stack : (h : Environment) (s : ℕ) (x : Stack Body) → Some x ≡ slice_index_or h.lists.stacks.entries.items s None → IsStackName (state_of h) s
is-stack h s x mine = ap is_some (stack-cell h s x mine)

-- of each slot it was told whether its item waited
abbrev pub AreTold : Environment → List Bool → Type 0
AreTold h waited = (s : ℕ) → s < length h.log.names.items → slice_index_or waited s false ≡ is_waiting (standing_at h.world s)

-- and by that the dates are of this line where an item began to wait
abbrev pub AreDatedNow : Environment → World Val → List Bool → Vec ℕ → Type 0
AreDatedNow h w waited dates =
    ((s : ℕ) → s < length h.log.dates.items → slice_index dates.items s ≡ date_now w waited h.log.moment h.log.dates.items s)
    × (length dates.items ≡ length h.log.dates.items)

-- where an item began to wait is of this line, the others keep theirs
abbrev pub AreDatedSo : Environment → World Val → Vec ℕ → Type 0
AreDatedSo h w dates =
    ((s : ℕ) → s < length h.log.dates.items → slice_index dates.items s
    ≡ (if is_waiting (standing_at w s) then (if is_waiting (standing_at h.world s) then slice_index h.log.dates.items s else h.log.moment)
    else slice_index h.log.dates.items s))
    × (length dates.items ≡ length h.log.dates.items)

pub dated-within : (h : Environment) → IsTied h → (waited : List Bool) → AreTold h waited → (w : World Val) (dates : Vec ℕ) → AreDatedNow h w waited dates →
    AreDatedSo h w dates
dated-within h t waited told w dates now = (
  (λ s lt.
      now.0 s lt
      ∙ ap (λ (b : Bool). if is_waiting (standing_at w s) then (if b then slice_index h.log.dates.items s else h.log.moment)
      else slice_index h.log.dates.items s)
      (told s (omega (arith, lt, t.sound.stocked.dates, t.sound.stocked.names)))),
  now.1,
)

module _ (h : Environment) (t : IsTied h) (whole : IsWhole h.world) (name : PlaceName) (a : NamedParticipant)
    (there : open_since (Some a) ≡ opening_at (state_of h).places name.0) where
  abbrev d : ScriptState
  d = state_of h

  abbrev n : ℕ
  n = name.0

  abbrev p : ℕ
  p = index_of a.place

  here : IsParticipant (state_of h) n
  here = acts.attends (acts.under name.0 t whole there)

  live : IsPlaceOf h.world p
  live = acts.sits (acts.under name.0 t whole there)

  place-is : place_of (state_of h) n ≡ p
  place-is = acts.place-is (acts.under name.0 t whole there)

  -- one more stack has a name
  one-stack_more : (stacks : Vec (Option (Stack Body))) (x : Stack Body) → home_in x ≡ h.world.home.cells →
      stacks.items ≡ h.lists.stacks.entries.items ++ Some x ∷ [] →
      map (option_map stack_holding) stacks.items ≡ (state_of h).stacks ++ Some (holding.atomic_shared (cell_in x) h.world.home.cells) ∷ []
  one-stack_more stacks x home pushed =
      stacks-more h stacks x pushed ∙ ap (λ z. (state_of h).stacks ++ Some (holding.atomic_shared (cell_in x) z) ∷ []) home

  -- ---- a stack is made

  pub acts-no_cell : IsFull h.world.cells → Acts (state_of h) (At name call.Stack) (reply.Refused NoCell) (state_of h)
  acts-no_cell full = still (state_of h) (At name call.Stack) (reply.Refused NoCell) (here, (full, refl))

  pub acts-begun : (w : World Val) (stacks : Vec (Option (Stack Body))) (x : Stack Body) (r : StackName) → IsEmptyAt h.world.cells (cell_in x) →
      w ≡ nulled h.world (cell_in x) → home_in x ≡ h.world.home.cells → stacks.items ≡ h.lists.stacks.entries.items ++ Some x ∷ [] →
      r.0 ≡ length h.lists.stacks.entries.items →
      Does (state_of h) (At name call.Stack) (reply.Stack r) (record h { world = w; lists = record h.lists { stacks = record { entries = stacks } } })
  acts-begun w stacks x r free world home pushed named =
      let c = cell_in x in
      let more = one-stack_more stacks x home pushed in
      acts.leaves (acts.under name.0 t whole there) refl (cc (world, more)) (begun-leaves (state_of h) t.sound whole p c live free)
      (here, (named ∙ sym (length-map h.lists.stacks.entries.items (option_map stack_holding)), (c, free, refl)))

  -- ---- a stack with entries

  module _ (s : StackName) (x : Stack Body) (mine : Some x ≡ slice_index_or h.lists.stacks.entries.items s.0 None) where
    abbrev es : List (Entry Val)
    es = (stack-entries h t s.0 x mine).0

    abbrev is : IsStack (state_of h) s.0 (cell_in x) es
    is = (stack-entries h t s.0 x mine).1

    -- all entries go to a new one
    module _ (g : GuardName) (valid : HasOpen (state_of h) n g.0) where
      pub acts-pour_refused : IsFull h.world.cells → Acts (state_of h) (At name (call.All s g)) (reply.Refused NoCell) (state_of h)
      acts-pour_refused full = still (state_of h) (At name (call.All s g)) (reply.Refused NoCell) ((valid, is-stack h s.0 x mine), (full, refl))

      pub acts-poured : (w : World Val) (stacks : Vec (Option (Stack Body))) (y : Stack Body) (r : StackName) → IsEmptyAt h.world.cells (cell_in y) →
          w ≡ poured h.world (cell_in x) (cell_in y) es → home_in y ≡ h.world.home.cells → stacks.items ≡ h.lists.stacks.entries.items ++ Some y ∷ [] →
          r.0 ≡ length h.lists.stacks.entries.items →
          Does (state_of h) (At name (call.All s g)) (reply.Stack r) (record h { world = w; lists = record h.lists { stacks = record { entries = stacks } } })
      acts-poured w stacks y r free world home pushed named =
          let more = one-stack_more stacks y home pushed in
          acts.leaves (acts.under name.0 t whole there) refl (cc (world, more))
          (poured-leaves (state_of h) t.sound whole p (cell_in x) (cell_in y) live s.0 es is free) (
            (valid, is-stack h s.0 x mine),
            (named ∙ sym (length-map h.lists.stacks.entries.items (option_map stack_holding)), (cell_in x, es, cell_in y, is, free, refl)),
          )

    module _ (waited : List Bool) (told : AreTold h waited) where
      -- it is closed
      pub acts-closed : (w : World Val) (stacks : Vec (Option (Stack Body))) (dates : Vec ℕ) → IsUnderGuard (state_of h) n →
          ((fs : List (Entry Val)) → Begins h.world (cell_in x) fs → w ≡ stack_closed h.world p (cell_in x) fs) →
          stacks.items ≡ slice_set h.lists.stacks.entries.items s.0 None → AreDatedNow h w waited dates →
          Does (state_of h) (At name (call.CloseStack s)) reply.Done
          (record (with_dates h dates) { world = w; lists = record h.lists { stacks = record { entries = stacks } } })
      acts-closed w stacks dates valid did spent now =
          let world = did es is.list in
          let left = stacks-spent h stacks s.0 spent in
          acts.leaves (acts.under name.0 t whole there) refl (cc (world, left))
          (stack_closed-leaves (state_of h) t.sound whole p (cell_in x) live s.0 es is dates.items
          (dated-within h t waited told (stack_closed h.world p (cell_in x) es) dates
          (subst (λ (u : World Val). AreDatedNow h u waited dates) world now))) (
            (valid, is-stack h s.0 x mine),
            (
              cell_in x,
              es,
              is,
              ap (λ (q : ℕ). record (in_world (without_stack (state_of h) s.0) (stack_closed h.world q (cell_in x) es)) { dates = dates.items }) (sym place-is),
            ),
          )
