-- What is taken out for a collector, and what is left
use Rattle.std.proofs.Common.{◌≡◌, ℕ, ◌+◌, ◌<◌, ◌≤◌, Bool, true, false, List, [], ◌∷◌, ◌++◌, length, map, refl, sym, ap, ap₂, ◌∙◌, arith, slice_index_or, take, drop, sum_by}
use Rattle.std.specs.Prelude.{filter, not}
use Rattle.std.proofs.lemmas.List.{map-append, append_assoc, append-nil, take_more, get_or_default, get_or-append-add, get_or-drop, length-append, length-drop, length-map, length-take, take_all, drop_all}
use Rattle.std.proofs.lemmas.Grind.{common_steps}
use Rattle.std.proofs.lemmas.List.Edits.{map_over_more}
use Rattle.std.proofs.lemmas.List.Elements.{filter-append}
use Rattle.std.proofs.lemmas.List.Filters.{length-filter_both}
use Rattle.std.proofs.lemmas.List.Sums.{sum_by-cons, sum_by_more_le}
use Rattle.sdd_participants.specs.Waiting.{Waiting, having_seen}
use Rattle.sdd_participants.specs.declared.waiting.LimboEntry.{LimboEntry}
use Rattle.sdd_participants.specs.declared.participant.Participant.{Participant}
use Rattle.sdd_participants.specs.Bags.{waiting_of}
use Rattle.sdd_participants.specs.EpochState.{EpochState, nobody, place_at, with_place, waiting_count}
use Rattle.sdd_participants.specs.Collecting.{chosen_of, rest_of, chosen_among, time_without, without}

-- no more passes than there is
pub filter-within : {X : Type 0} (p : X → Bool) (xs : List X) → length (filter p xs) ≤ length xs
filter-within p xs = omega (arith, length-filter_both p (λ x. not (p x)) (λ x. refl) xs)

pub length-waiting : (next prev current : List LimboEntry) → length (waiting_of next prev current) ≡ length next + length prev + length current
length-waiting next prev current = grind (arith, common_steps)

module _ (chosen : LimboEntry → Bool) where
  -- of a bag, where all has seen as many changes
  whats-seen : (seen : ℕ) (bag : List LimboEntry) → map (λ (w : Waiting). w.what) (map (having_seen seen) bag) ≡ bag
  whats-seen seen [] = refl
  whats-seen seen (x ∷ bag) = ap (λ rest. x ∷ rest) (whats-seen seen bag)

  rest-more : (seen : ℕ) (x : LimboEntry) (bag : List LimboEntry) (b : Bool) → chosen x ≡ b →
      rest_of chosen (map (having_seen seen) bag) ≡ map (having_seen seen) (filter (λ what. not (chosen what)) bag) →
      rest_of chosen (map (having_seen seen) (x ∷ bag)) ≡ map (having_seen seen) (filter (λ what. not (chosen what)) (x ∷ bag))
  rest-more seen x bag true e rest = rw e rest
  rest-more seen x bag false e rest = rw e (ap (λ ws. having_seen seen x ∷ ws) rest)

  rest-seen : (seen : ℕ) (bag : List LimboEntry) →
      rest_of chosen (map (having_seen seen) bag) ≡ map (having_seen seen) (filter (λ what. not (chosen what)) bag)
  rest-seen seen [] = refl
  rest-seen seen (x ∷ bag) = rest-more seen x bag (chosen x) refl (rest-seen seen bag)

  pub rest-waiting : (next prev current : List LimboEntry) → rest_of chosen (waiting_of next prev current) ≡
      waiting_of (filter (λ what. not (chosen what)) next) (filter (λ what. not (chosen what)) prev) (filter (λ what. not (chosen what)) current)
  rest-waiting next prev current =
      filter-append (λ (w : Waiting). not (chosen w.what)) (map (having_seen 2) next ++ map (having_seen 1) prev) (map (having_seen 0) current)
      ∙ ap₂ (λ ws vs. ws ++ vs)
      (filter-append (λ (w : Waiting). not (chosen w.what)) (map (having_seen 2) next) (map (having_seen 1) prev)
      ∙ ap₂ (λ ws vs. ws ++ vs) (rest-seen 2 next) (rest-seen 1 prev))
      (rest-seen 0 current)

  whats-waiting : (next prev current : List LimboEntry) → map (λ (w : Waiting). w.what) (waiting_of next prev current) ≡ next ++ prev ++ current
  whats-waiting next prev current =
      map-append (λ (w : Waiting). w.what) (map (having_seen 2) next ++ map (having_seen 1) prev) (map (having_seen 0) current)
      ∙ ap₂ (λ ws vs. ws ++ vs)
      (map-append (λ (w : Waiting). w.what) (map (having_seen 2) next) (map (having_seen 1) prev)
      ∙ ap₂ (λ ws vs. ws ++ vs) (whats-seen 2 next) (whats-seen 1 prev))
      (whats-seen 0 current)

  pub chosen-waiting : (next prev current : List LimboEntry) →
      chosen_of chosen (waiting_of next prev current) ≡ filter chosen next ++ filter chosen prev ++ filter chosen current
  chosen-waiting next prev current =
      ap (filter chosen) (whats-waiting next prev current)
      ∙ filter-append chosen (next ++ prev) current ∙ ap (λ ws. ws ++ filter chosen current) (filter-append chosen next prev)

  -- what is chosen and what is left is all
  chosen-more : (w : Waiting) (ws : List Waiting) (b : Bool) → chosen w.what ≡ b →
      length (chosen_of chosen ws) + length (rest_of chosen ws) ≡ length ws →
      length (chosen_of chosen (w ∷ ws)) + length (rest_of chosen (w ∷ ws)) ≡ length (w ∷ ws)
  chosen-more w ws true e h = rw e (omega (arith, h))
  chosen-more w ws false e h = rw e (omega (arith, h))

  pub chosen-or-left : (ws : List Waiting) → length (chosen_of chosen ws) + length (rest_of chosen ws) ≡ length ws
  chosen-or-left [] = refl
  chosen-or-left (w ∷ ws) = chosen-more w ws (chosen w.what) refl (chosen-or-left ws)

  -- so of all places
  pub among-append : (ps qs : List Participant) → chosen_among chosen (ps ++ qs) ≡ chosen_among chosen ps ++ chosen_among chosen qs
  among-append [] qs = refl
  among-append (p ∷ ps) qs =
      ap (λ ws. chosen_of chosen p.bags.waiting ++ ws) (among-append ps qs)
      ∙ sym (append_assoc (chosen_of chosen p.bags.waiting) (chosen_among chosen ps) (chosen_among chosen qs))

  pub among-more : (ps : List Participant) (i : ℕ) → i < length ps →
      chosen_among chosen (take (i + 1) ps) ≡ chosen_among chosen (take i ps) ++ chosen_of chosen (slice_index_or ps i nobody).bags.waiting
  among-more ps i lt =
      let x = slice_index_or ps i nobody in
      ap (chosen_among chosen) (take_more ps i nobody lt) ∙ among-append (take i ps) (x ∷ [])
      ∙ ap (λ ws. chosen_among chosen (take i ps) ++ ws) (append-nil (chosen_of chosen x.bags.waiting))

  pub among-or-left : (ps : List Participant) →
      sum_by waiting_count (map (without chosen) ps) + length (chosen_among chosen ps) ≡ sum_by waiting_count ps
  among-or-left [] = refl
  among-or-left (p ∷ ps) =
      let here = chosen-or-left p.bags.waiting in
      let rest = among-or-left ps in
      let one = sum_by-cons waiting_count (without chosen p) (map (without chosen) ps) in
      let all = sum_by-cons waiting_count p ps in
      let long = length-append (chosen_of chosen p.bags.waiting) (chosen_among chosen ps) in
      omega (arith, here, rest, one, all, long)

  -- one place more
  place-yet : (ps : List Participant) (i : ℕ) → i < length ps →
      slice_index_or (map (without chosen) (take i ps) ++ drop i ps) i nobody ≡ slice_index_or ps i nobody
  place-yet ps i lt =
      let front = map (without chosen) (take i ps) in
      let long : i ≡ length front + 0 = omega (arith, length-map (take i ps) (without chosen), length-take i ps, lt) in
      let whole : i + 0 ≡ i = omega arith in
      ap (λ n. slice_index_or (front ++ drop i ps) n nobody) long ∙ get_or-append-add front (drop i ps) 0 nobody
      ∙ get_or-drop i ps 0 nobody ∙ ap (λ n. slice_index_or ps n nobody) whole

  abbrev pub taken_below : EpochState → ℕ → EpochState
  taken_below t i = record t { places = map (without chosen) (take i t.places) ++ drop i t.places }

  pub place-below : (t u : EpochState) (i : ℕ) → u ≡ taken_below t i → i < length t.places → place_at u i ≡ place_at t i
  place-below t u i e lt = ap (λ (v : EpochState). place_at v i) e ∙ place-yet t.places i lt

  pub taken-next : (t u : EpochState) (i : ℕ) → u ≡ taken_below t i → i < length t.places
      → with_place u i (without chosen (place_at u i)) ≡ taken_below t (i + 1)
  taken-next t u i e lt =
      let front = map (without chosen) (take i t.places) in
      let long : length front ≡ i = omega (arith, length-map (take i t.places) (without chosen), length-take i t.places, lt) in
      let there : i < length (taken_below t i).places =
      omega (arith, length-append front (drop i t.places), length-drop i t.places, long, lt) in
      let read : place_at (taken_below t i) i ≡ slice_index_or (taken_below t i).places i (place_at (taken_below t i) i) =
      get_or_default (taken_below t i).places i nobody (place_at (taken_below t i) i) there in
      ap (λ (v : EpochState). with_place v i (without chosen (place_at v i))) e
      ∙ ap (λ (ps : List Participant). record t { places = ps })
      (map_over_more (without chosen) t.places (taken_below t i).places i (place_at (taken_below t i) i) lt refl read)

  pub taken-all : (t : EpochState) (i : ℕ) → length t.places ≤ i → taken_below t i ≡ time_without chosen t
  taken-all t i all =
      ap (λ (ps : List Participant). record t { places = ps })
      (ap₂ (λ ps qs. map (without chosen) ps ++ qs) (take_all i t.places all) (drop_all i t.places all) ∙ append-nil (map (without chosen) t.places))

  pub room-below : (ps : List Participant) (i : ℕ) → i < length ps →
      length (chosen_among chosen (take i ps)) + waiting_count (slice_index_or ps i nobody) ≤ sum_by waiting_count ps
  room-below ps i lt =
      omega (arith, among-or-left (take i ps), sum_by_more_le waiting_count ps i nobody lt)
