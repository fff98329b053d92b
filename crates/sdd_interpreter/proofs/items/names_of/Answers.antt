use Rattle.sdd_interpreter.proofs.Words.{◌≡◌, ℕ, ◌+◌, ◌<◌, List, [], ◌∷◌, ◌++◌, None, Option, Some, length, slice_index_or, take, sym, ap, ◌∙◌, arith, rules, option_map, take_more, ItemName, names_in, Vec, append-nil, cons_option, filter_map-append, length_push, named_in}
use Rattle.sdd_interpreter.proofs.items.names_of.Goals.{in-Some, in_default}
use Rattle.sdd_interpreter.proofs.items.names_of.Goals as goal

abbrev called : ℕ → ItemName
called i = record { 0 = i }

-- one slot more is looked at
one-more : (names : List (Option ℕ)) (slots : List ℕ) (i : ℕ) (o : Option ℕ) → i < length slots → slice_index_or names (slice_index_or slots i 0) None ≡ o →
    names_in names (take (i + 1) slots) ≡ names_in names (take i slots) ++ cons_option (option_map called o) []
one-more names slots i o lt is =
    ap (names_in names) (take_more slots i 0 lt) ∙ filter_map-append (named_in names) (take i slots) (slice_index_or slots i 0 ∷ [])
    ∙ ap (λ (x : Option ℕ). names_in names (take i slots) ++ cons_option (option_map called x) []) is

pub loop-slot-preserved : goal.loop-slot-preserved
loop-slot-preserved c =
    let names = c.args.names.now in
    let slots = c.args.slots.now in
    let i = c.loop-slot.slot-index in
    let lt : i < length slots = c.loop-slot-test.true in
    elim c.match-names-slot.branch [
      | in-Some w ↦
          (let pushed = ap (λ (v : Vec ItemName). v.items) w.found-is ∙ w.push_reserved.ensures.items in (
            pushed ∙ ap (λ xs. xs ++ called w.in-Some.item ∷ []) c.loop-slot.invariant.0
                ∙ sym (one-more names slots i (Some w.in-Some.item) lt w.in-Some.is),
            omega (arith, ap length pushed, length_push c.loop-slot.found.items (called w.in-Some.item), c.loop-slot.invariant.1),
            search rules,
          ))
      | in_default w ↦
          (let same = ap (λ (v : Vec ItemName). v.items) w.found-is in (
            same ∙ c.loop-slot.invariant.0 ∙ sym (one-more names slots i None lt w.in_default.is ∙ append-nil (names_in names (take i slots))),
            omega (arith, ap length same, c.loop-slot.invariant.1),
            search rules,
          ))
    ]
