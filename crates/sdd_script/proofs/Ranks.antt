-- Where there is no list any more, each item has a higher rank than those whose owners its value and its link hold
use Rattle.sdd_script.proofs.Words.{◌≡◌, ◌⊎◌, ◌+◌, ◌<◌, ◌≤◌, inl, inr, ℕ, List, [], ◌∷◌, length, Option, Some, None, is_some, refl, sym, ap, ◌∙◌, arith, entry_at, owner_of, value_at, held_in, AreLinked, Entry, first_slot, IsStored, AreNumbers, IsNumber, ScriptState, IsListCell, IsSound, Val, body_of, holdings_of, link_of, owner_in, Body, Number, inside, Storage, bounded, claims, holds-so, name_at, number_in, times_held, unique}
use Rattle.sdd_script_model.specs.declared.val.Body.TheVariants.{Owned, Shared}

-- that of a number is how many come behind it, and each other is above those
abbrev weight : Body → (long above : ℕ) → ℕ
weight (Number n) long above = long
weight (Owned o) long above = above
weight (Shared o) long above = above
weight (Storage st) long above = above

abbrev weight_at : Option Val → (long above : ℕ) → ℕ
weight_at None long above = 0
weight_at (Some v) long above = weight (body_of v) long above

module _ (d : ScriptState) (s : IsSound d) (no_list : (c : ℕ) → IsListCell d c → ⊥) (no_storage : (k : ℕ) → IsStored d.bags d.world k → ⊥) where
  -- the numbers that come behind an item
  record AreBehind (v : Val) : Type 0 where
    entries : List (Entry Val)
    linked : AreLinked link_of d.world entries
    numbers : AreNumbers entries
    held : held_in (entry_at d.world.cells (link_of v)) ≡ first_slot entries

  behind : (k : ℕ) (v : Val) → value_at d.world k ≡ Some v → AreBehind v
  behind k v there = elim (s.lists.linked k v there (no_storage k)) [
    | inl none ↦ record { entries = []; linked = tt; numbers = tt; held = none }
    | inr (inl at) ↦ absurd (no_list at.cell at.begun)
    | inr (inr loose) ↦ record { entries = loose.entries; linked = loose.list.linked; numbers = loose.numbers; held = ap held_in loose.list.begins }
  ]

  abbrev long_at : (k : ℕ) (x : Option Val) → value_at d.world k ≡ x → ℕ
  long_at k None is = 0
  long_at k (Some v) is = length (behind k v is).entries

  abbrev long : ℕ → ℕ
  long k = long_at k (value_at d.world k) refl

  -- it is that of whatever is linked there
  long-is : (k : ℕ) (v : Val) → value_at d.world k ≡ Some v → (es : List (Entry Val)) → AreLinked link_of d.world es →
      held_in (entry_at d.world.cells (link_of v)) ≡ first_slot es → long k ≡ length es
  long-is k v there es linked held = by (value_at d.world k) refl there where
    by : (x : Option Val) → (is : value_at d.world k ≡ x) → x ≡ Some v → long_at k x is ≡ length es
    by None is never = absurd (cc)
    by (Some u) is same =
        let value : u ≡ v = cc in
        let mine = behind k u is in
        let first : first_slot mine.entries ≡ first_slot es =
        sym mine.held ∙ ap (λ (y : Val). held_in (entry_at d.world.cells (link_of y))) value ∙ held in
        ap (λ (fs : List (Entry Val)). length fs) (unique d.world mine.entries es mine.linked linked first)

  abbrev bound : ℕ
  bound = (bounded long (length d.world.values)).0 + 1

  below : (k : ℕ) (v : Val) → value_at d.world k ≡ Some v → long k < bound
  below k v there =
      let all = (bounded long (length d.world.values)).1 k (inside d.world.values k (ap is_some there)) in
      omega (arith, all)

  abbrev above : ℕ → ℕ
  above k = bound + number_in (name_at d k)

  pub rank : ℕ → ℕ
  rank k = weight_at (value_at d.world k) (long k) (above k)

  rank-is : (k : ℕ) (v : Val) (b : Body) → value_at d.world k ≡ Some v → body_of v ≡ b → rank k ≡ weight b (long k) (above k)
  unfolding rank
  rank-is k v b there body =
      ap (λ (x : Option Val). weight_at x (long k) (above k)) there ∙ ap (λ (y : Body). weight y (long k) (above k)) body

  -- it is that of a number, or as high as the name says
  low-or : (k : ℕ) → (rank k < bound) ⊎ (rank k ≡ above k)
  unfolding rank
  low-or k = by (value_at d.world k) refl where
    by-body : (v : Val) → value_at d.world k ≡ Some v → (b : Body) → body_of v ≡ b → (rank k < bound) ⊎ (rank k ≡ above k)
    by-body v there (Number n) body = inl (omega (arith, below k v there, rank-is k v (Number n) there body))
    by-body v there (Owned o) body = inr (rank-is k v (Owned o) there body)
    by-body v there (Shared o) body = inr (rank-is k v (Shared o) there body)
    by-body v there (Storage st) body = inr (rank-is k v (Storage st) there body)

    by : (x : Option Val) → value_at d.world k ≡ x → (rank k < bound) ⊎ (rank k ≡ above k)
    by None is = let none : rank k ≡ 0 = ap (λ (x : Option Val). weight_at x (long k) (above k)) is in inl (omega (arith, none))
    by (Some v) is = by-body v is (body_of v) refl

  high : (j k : ℕ) → number_in (name_at d k) < number_in (name_at d j) → rank j ≡ above j → rank k < rank j
  high j k older mine = elim (low-or k) [
    | inl low ↦ omega (arith, low, mine)
    | inr its ↦ omega (arith, its, mine, older)
  ]

  -- what a value holds is lower
  pub value-falls : (j k : ℕ) → 1 ≤ times_held holdings_of k (value_at d.world j) → rank k < rank j
  value-falls j k some = by (value_at d.world j) refl some where
    by-body : (v : Val) → value_at d.world j ≡ Some v → 1 ≤ times_held holdings_of k (Some v) → (b : Body) → body_of v ≡ b → rank k < rank j
    by-body v there held (Number n) body =
        let nothing : claims (owner_in (body_of v)) (owner_of k) ≡ 0 = ap (λ (b : Body). claims (owner_in b) (owner_of k)) body in
        absurd (omega (arith, held, holds-so v (owner_of k), nothing))
    by-body v there held (Owned o) body = high j k (s.layered j k some) (rank-is j v (Owned o) there body)
    by-body v there held (Shared o) body = high j k (s.layered j k some) (rank-is j v (Shared o) there body)
    by-body v there held (Storage st) body = high j k (s.layered j k some) (rank-is j v (Storage st) there body)

    by : (x : Option Val) → value_at d.world j ≡ x → 1 ≤ times_held holdings_of k x → rank k < rank j
    by None is held = absurd (omega (arith, held))
    by (Some v) is held = by-body v is held (body_of v) refl

  -- and what a link holds
  pub link-falls : (j k : ℕ) (v : Val) → value_at d.world j ≡ Some v → held_in (entry_at d.world.cells (link_of v)) ≡ Some k → rank k < rank j
  link-falls j k v there holds =
      let mine = behind j v there in
      by mine.entries mine.linked mine.numbers (sym mine.held ∙ holds) (long-is j v there mine.entries mine.linked mine.held) where
        number-low : (x : Val) → IsNumber (body_of x) → value_at d.world k ≡ Some x → rank k ≡ long k
        number-low x number at = by-body (body_of x) refl number where
          by-body : (b : Body) → body_of x ≡ b → IsNumber b → rank k ≡ long k
          by-body (Number n) body number = rank-is k x (Number n) at body
          by-body (Owned o) body never = absurd never
          by-body (Shared o) body never = absurd never
          by-body (Storage st) body never = absurd never

        above-it : (m : ℕ) → rank k ≡ m → m < long j → m < bound → (b : Body) → body_of v ≡ b → rank k < rank j
        above-it m is less few (Number n) body = omega (arith, is, less, rank-is j v (Number n) there body)
        above-it m is less few (Owned o) body = omega (arith, is, few, rank-is j v (Owned o) there body)
        above-it m is less few (Shared o) body = omega (arith, is, few, rank-is j v (Shared o) there body)
        above-it m is less few (Storage st) body = omega (arith, is, few, rank-is j v (Storage st) there body)

        by : (es : List (Entry Val)) → AreLinked link_of d.world es → AreNumbers es → first_slot es ≡ Some k → long j ≡ length es → rank k < rank j
        by [] linked numbers first many = absurd (cc)
        by (e ∷ es) linked numbers first many =
            let slot : e.slot ≡ k = cc in
            let at : value_at d.world k ≡ Some e.value = ap (λ (i : ℕ). value_at d.world i) (sym slot) ∙ linked.0.there in
            let tail = long-is k e.value at es linked.1 (ap held_in linked.0.linked) in
            above-it (length es) (number-low e.value numbers.0 at ∙ tail) (omega (arith, many)) (omega (arith, below k e.value at, tail)) (body_of v) refl
