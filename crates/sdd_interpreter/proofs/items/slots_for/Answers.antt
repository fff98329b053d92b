use Rattle.sdd_interpreter.proofs.Words.{Bool, Vec, [], ap, append-nil, arith, false, filter, filter_of_map_range_with_len_more, if◌then◌else◌, is_private_to, map-id, range_with_len, standing_at, sym, true, ℕ, ◌++◌, ◌+◌, ◌∙◌, ◌∷◌, ◌≡◌}
use Rattle.sdd_interpreter.proofs.items.slots_for.Goals.{then-waits_for+in_ok-push, else-waits_for}
use Rattle.sdd_interpreter.proofs.items.slots_for.Goals as goal

-- one number more is looked at
one-more : (p : ℕ → Bool) (n : ℕ) → filter p (range_with_len 0 (n + 1)) ≡ filter p (range_with_len 0 n) ++ (if p n then n ∷ [] else [])
one-more p n =
    ap (filter p) (sym (map-id (range_with_len 0 (n + 1)))) ∙ filter_of_map_range_with_len_more p (λ x. x) 0 n n (omega arith)
    ∙ ap (λ xs. filter p xs ++ (if p n then n ∷ [] else [])) (map-id (range_with_len 0 n))

-- it passes, or not
passes : (p : ℕ → Bool) (n : ℕ) → p n ≡ true → filter p (range_with_len 0 (n + 1)) ≡ filter p (range_with_len 0 n) ++ n ∷ []
passes p n is = one-more p n ∙ ap (λ b. filter p (range_with_len 0 n) ++ (if b then n ∷ [] else [])) is

fails : (p : ℕ → Bool) (n : ℕ) → p n ≡ false → filter p (range_with_len 0 (n + 1)) ≡ filter p (range_with_len 0 n)
fails p n is =
    one-more p n ∙ ap (λ b. filter p (range_with_len 0 n) ++ (if b then n ∷ [] else [])) is ∙ append-nil (filter p (range_with_len 0 n))

pub loop-slot-preserved : goal.loop-slot-preserved
loop-slot-preserved c =
    let of = λ (s : ℕ). is_private_to c.args.collector (standing_at c.args.world.now s) in
    let n = c.loop-slot.slot in
    let told = c.waits_for.ensures in
    let before : c.loop-slot.found.items ≡ filter of (range_with_len 0 n) = c.loop-slot.invariant in
    elim c.if-waits_for.branch [
      | then-waits_for+in_ok-push w ↦
          ap (λ (v : Vec ℕ). v.items) w.found-is ∙ w.in_ok-push.ensures.items ∙ ap (λ xs. xs ++ n ∷ []) before
          ∙ sym (passes of n (sym told ∙ w.if-waits_for.true))
      | else-waits_for w ↦ ap (λ (v : Vec ℕ). v.items) w.found-is ∙ before ∙ sym (fails of n (sym told ∙ w.if-waits_for.false))
    ]
