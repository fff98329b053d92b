use Rattle.sdd_interpreter.proofs.Words.{◌≡◌, ℕ, ◌+◌, ◌<◌, List, [], ◌∷◌, ◌++◌, Option, Some, length, slice_index_or, slice_set, take, sym, ap, ◌∙◌, append_assoc, arith, rules, length-append, take_more, names_from, names-last}
use Rattle.sdd_interpreter.proofs.items.name_all.Goals as goal

pub loop-slot-preserved : goal.loop-slot-preserved
loop-slot-preserved c =
    let i = c.loop-slot.slot-index in
    let found = c.args.found.now in
    let before = c.args.slots.now.items in
    let names = c.args.names.now.items in
    let lt : i < length found = c.loop-slot-test.true in
    let x = slice_index_or found i 0 in
    let more : take (i + 1) found ≡ take i found ++ x ∷ [] = take_more found i 0 lt in
    let inv = c.loop-slot.invariant in
    let next : c.len.result ≡ length c.loop-slot.slots.items = search rules in
    let count : c.len.result ≡ length before + length (take i found) =
    omega (arith, next, ap (λ (xs : List ℕ). length xs) inv.slots, length-append before (take i found)) in
    record {
      slots = c.push_reserved.ensures.items ∙ ap (λ (xs : List ℕ). xs ++ x ∷ []) inv.slots ∙ append_assoc before (take i found) (x ∷ [])
          ∙ ap (λ (xs : List ℕ). before ++ xs) (sym more);
      names = ap (λ (n : ℕ). slice_set c.loop-slot.names.items x (Some n)) count
          ∙ ap (λ (ns : List (Option ℕ)). slice_set ns x (Some (length before + length (take i found)))) inv.names
          ∙ sym (names-last names (length before) (take i found) x) ∙ ap (λ (ks : List ℕ). names_from names (length before) ks) (sym more);
      room = search rules;
    }
