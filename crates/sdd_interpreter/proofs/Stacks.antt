-- What a name of a stack stands for
use Rattle.sdd_interpreter.proofs.Words.{◌≡◌, ℕ, [], ◌∷◌, ◌++◌, Option, Some, None, map, slice_index_or, slice_set, sym, ap, ◌∙◌, option_map, Vec, get_or-map, false≢true, map-set, map_push, Stack, Body, ScriptState, holding_at, shared_cell, stack_holding, Environment, IsTied, state_of, IsStackName}
use Rattle.sdd_lists.specs.Stack as stack

module _ (h : Environment) where
  abbrev d : ScriptState
  d = state_of h

  pub no-stack : (s : ℕ) → None ≡ slice_index_or h.lists.stacks.entries.items s None → ¬ (IsStackName d s)
  no-stack s none there =
      let entry : holding_at d.stacks s ≡ None = get_or-map (option_map stack_holding) h.lists.stacks.entries.items s None
      ∙ ap (option_map stack_holding) (sym none) in
      false≢true (rw entry at there)

  pub named-stack : (s : ℕ) (x : Stack Body) → Some x ≡ slice_index_or h.lists.stacks.entries.items s None → holding_at d.stacks s ≡ Some (stack_holding x)
  named-stack s x there = get_or-map (option_map stack_holding) h.lists.stacks.entries.items s None ∙ ap (option_map stack_holding) (sym there)

  pub stack-home : IsTied h → (s : ℕ) (x : Stack Body) → Some x ≡ slice_index_or h.lists.stacks.entries.items s None → stack.home_in x ≡ h.world.home.cells
  stack-home t s x there = t.sound.home.stacks s (stack_holding x) (named-stack s x there)

  pub stack-cell : (s : ℕ) (x : Stack Body) → Some x ≡ slice_index_or h.lists.stacks.entries.items s None →
      shared_cell (holding_at d.stacks s) ≡ Some (stack.cell_in x)
  stack-cell s x there = ap shared_cell (named-stack s x there)

  pub stacks-spent : (stacks : Vec (Option (Stack Body))) (s : ℕ) → stacks.items ≡ slice_set h.lists.stacks.entries.items s None →
      map (option_map stack_holding) stacks.items ≡ slice_set d.stacks s None
  stacks-spent stacks s taken = ap (map (option_map stack_holding)) taken ∙ map-set (option_map stack_holding) h.lists.stacks.entries.items s None

  pub stacks-more : (stacks : Vec (Option (Stack Body))) (x : Stack Body) → stacks.items ≡ h.lists.stacks.entries.items ++ Some x ∷ [] →
      map (option_map stack_holding) stacks.items ≡ d.stacks ++ Some (stack_holding x) ∷ []
  stacks-more stacks x pushed = ap (map (option_map stack_holding)) pushed ∙ map_push (option_map stack_holding) h.lists.stacks.entries.items (Some x)
