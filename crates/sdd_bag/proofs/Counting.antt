-- How many storages a bag has for the values that lie in them
use Rattle.std.proofs.Common.{◌≡◌, ◌≢◌, ◌⊎◌, inl, inr, ℕ, zero, suc, ◌+◌, ◌*◌, ◌<◌, ◌≤◌, List, [], ◌∷◌, Option, length, take, drop, is_some, refl, sym, ap, ◌∙◌, arith}
use Rattle.std.specs.Prelude.{◌/◌, ◌%◌}
use Rattle.std.specs.Int.{div_ceil}
use Rattle.std.proofs.Math.Nat.{div-add-mod, mod-lt, mul-le-mul_right, mul-zero, mul_comm, suc-mul}
use Rattle.std.proofs.lemmas.Grind.{div_ceil_times}
use Rattle.std.proofs.lemmas.List.{length-append, length-drop, length-map, length-take, take-append-drop}
use Rattle.sdd_bag.specs.Storage.{AreEmpty, AreFullBehind, KeptPlace, names_of, value_at, values_in}
use Rattle.sdd_bag.proofs.Prefixes.{value-drop, values-front, values-full}
use Rattle.sdd_bag.proofs.Values.{all-empty, few-in}
use Rattle.sdd_world_model.specs.World.{World}
use Rattle.sdd_lists.specs.declared.linked_entry.LinkedEntry.{LinkedEntry}
use Rattle.sdd_lists.specs.Lists.{Entry}
use Rattle.sdd_bag.specs.Storages.{StorageName}
use Rattle.sdd_bag.specs.Values.{AreInSomeOrder, HasOneMore}
use Rattle.sdd_bag.proofs.OneMore.{one-longer}
use Rattle.sdd_bag.specs.Closing.{RemovesIfLast}
use Rattle.sdd_bag.specs.Overflow.{AreShelves, LiesOn, RemovesStorage, places_in, places_on}
use Rattle.sdd_bag.specs.Bag.{BagParts, IsBag, overflow_of}
use Rattle.sdd_bag.proofs.EmptiedBag.{used-there}

not-above : (n q m len : ℕ) → n * len < m + len → m ≤ q * len → n ≤ q
not-above n q m len less most = by-cases n q (λ fewer. let e = mul-le-mul_right len fewer in absurd (omega (arith, e, suc-mul q len, less, most)))
  where
    by-cases : (n q : ℕ) → (suc q ≤ n → ⊥) → n ≤ q
    by-cases zero q fewer = omega arith
    by-cases (suc n) zero fewer = absurd (fewer (omega arith))
    by-cases (suc n) (suc q) fewer = omega (arith, by-cases n q (λ more. fewer (omega (arith, more))))

-- a number of parts that holds so many, and without one of them wouldn't
pub rounded-up : (n m len : ℕ) → 0 < len → m ≤ n * len → n * len < m + len → n ≡ div_ceil m len
rounded-up n m len some most less =
    let q = div_ceil m len in let is = div_ceil_times m len some in
    omega (arith, not-above n q m len less is.0, not-above q n m len is.1 most)

module _ {T : Type 0} where
  value-take : (n : ℕ) (ps : List (KeptPlace T)) (k : ℕ) → k < n → value_at (take n ps) k ≡ value_at ps k
  value-take zero ps k near = absurd (omega (arith, near))
  value-take (suc n) [] k near = refl
  value-take (suc n) (p ∷ ps) zero near = refl
  value-take (suc n) (p ∷ ps) (suc k) near = value-take n ps k (omega (arith, near))

  none-here : (vs : List T) → length vs ≡ 0 → vs ≡ []
  none-here [] none = refl
  none-here (v ∷ vs) none = absurd (omega (arith, none))

  -- where the first places have no value between them, each is empty
  none-empty : (len : ℕ) (ps : List (KeptPlace T)) → length (values_in (take len ps)) ≡ 0 → AreEmpty len ps
  none-empty len ps none k near =
      ap is_some (sym (value-take len ps k near)) ∙ all-empty (take len ps) (none-here (values_in (take len ps)) none) k

  rest-counted : (len : ℕ) (ps : List (KeptPlace T)) → AreFullBehind len ps → length (values_in (drop len ps)) ≡ length (drop len ps)
  rest-counted len ps full = values-full (drop len ps) (λ k near.
      ap is_some (value-drop len ps k (len + k) refl) ∙ full (len + k) (omega arith) (omega (arith, near, length-drop len ps)))

  front-and-rest : (len : ℕ) (ps : List (KeptPlace T))
      → length (values_in (take len ps)) + length (values_in (drop len ps)) ≡ length (values_in ps)
  front-and-rest len ps =
      let both = ap (λ (qs : List (KeptPlace T)). length (values_in qs)) (take-append-drop len ps) in
      omega (arith, both, values-front (take len ps) (drop len ps))

module _ {B : Type 0} (shown : B → Option StorageName) (len : ℕ) (w : World (LinkedEntry B)) where
  places-long : (es : List (Entry (LinkedEntry B))) → AreShelves shown len w es → length (places_on shown len es) ≡ length es * len
  places-long [] are = omega arith
  places-long (e ∷ es) are =
      omega (
        arith,
        length-append (places_in shown len e) (places_on shown len es),
        are.0.long,
        places-long es are.2,
        suc-mul (length es) len,
      )

  module _ {T : Type 0} (bag : BagParts T B) where
    abbrev places : List (KeptPlace T)
    places = bag.overflow.places

    kept-long : (es : List (Entry (LinkedEntry B))) → LiesOn shown len w es bag.overflow → length places ≡ length es * len
    kept-long es lies =
        let named : length (names_of places) ≡ length (places_on shown len es) = ap length lies.keys in
        omega (arith, named, length-map places (λ (p : KeptPlace T). p.name), places-long es lies.shelves)

    pub storages-rounded : (es : List (Entry (LinkedEntry B))) → 0 < len → IsBag shown len w bag → LiesOn shown len w es bag.overflow
        → length es ≡ div_ceil (length (overflow_of bag)) len
    storages-rounded [] some is lies =
        let long = kept-long [] lies in
        rounded-up 0 (length (overflow_of bag)) len some (omega (arith, few-in places, long)) (omega (arith, some))
    storages-rounded (e ∷ es) some is lies =
        let front : ℕ = length (values_in (take len places)) in
        let long = kept-long (e ∷ es) lies in
        let cut = length-drop len places in
        let times = suc-mul (length es) len in
        let all = front-and-rest len places in
        let rest = rest-counted len places lies.full in
        let few : front ≤ len = omega (arith, few-in (take len places), length-take len places) in
        let used : 0 < front = positive front (λ none. let never = used-there shown len w bag (e ∷ es) is lies (none-empty len places none) in absurd (cc)) in
        rounded-up (suc (length es)) (length (overflow_of bag)) len some (omega (arith, long, cut, times, all, rest, few))
        (omega (arith, long, cut, times, all, rest, used))
      where
        positive : (n : ℕ) → (n ≡ 0 → ⊥) → 0 < n
        positive zero some = absurd (some refl)
        positive (suc n) some = omega arith

module _ (n len : ℕ) (some : 0 < len) where
  parts : n ≡ n / len * len + n % len
  parts = omega (arith, div-add-mod n len, mul_comm len (n / len))

  -- where each part is full there is one part more for the next
  more-parts : n % len ≡ 0 → div_ceil (n + 1) len ≡ div_ceil n len + 1
  more-parts none =
      let k : ℕ = n / len in
      omega (
        arith,
        rounded-up k n len some (omega (arith, parts, none)) (omega (arith, parts, none, some)),
        rounded-up (suc k) (n + 1) len some (omega (arith, parts, none, some, suc-mul k len)) (omega (arith, parts, none, some, suc-mul k len)),
      )

  -- else the next goes into one of them
  same-parts : n % len ≢ 0 → div_ceil (n + 1) len ≡ div_ceil n len
  same-parts left =
      let k : ℕ = n / len in let few = mod-lt n some in
      let more : 0 < n % len = above (n % len) left in
      omega (
        arith,
        rounded-up (suc k) n len some (omega (arith, parts, few, suc-mul k len)) (omega (arith, parts, more, suc-mul k len)),
        rounded-up (suc k) (n + 1) len some (omega (arith, parts, few, suc-mul k len)) (omega (arith, parts, more, suc-mul k len)),
      )
    where
      above : (m : ℕ) → m ≢ 0 → 0 < m
      above zero other = absurd (other refl)
      above (suc m) other = omega arith

-- by how many storages there are, one was removed where the values that are left fill the others, and none else
pub removes-last : {B : Type 0} (len left : ℕ) (w u : World (LinkedEntry B)) (p c : ℕ) (es fs : List (Entry (LinkedEntry B))) → 0 < len
    → length es ≡ div_ceil (left + 1) len → length fs ≡ div_ceil left len → (Places : Type 0)
    → (u ≡ w) × (fs ≡ es) ⊎ Places × RemovesStorage w p c es u fs → RemovesIfLast len left w p c es u fs
removes-last {B = B} len left w u p c es fs some were are Places (inl same) =
    let long : length fs ≡ length es = ap (λ (gs : List (Entry (LinkedEntry B))). length gs) same.1 in
    record {
      last = λ none. let more = more-parts left len some none in absurd (omega (arith, were, are, more, long));
      others = λ other. same;
    }
removes-last {B = B} len left w u p c es fs some were are Places (inr one) =
    let long : length es ≡ suc (length fs) = ap (λ (gs : List (Entry (LinkedEntry B))). length gs) one.1.entries in
    record {
      last = λ none. one.1;
      others = λ other. let no-more = same-parts left len some other in absurd (omega (arith, were, are, no-more, long));
    }

order-long : {T : Type 0} (vs values : List T) → AreInSomeOrder vs values → length vs ≡ length values
order-long [] values none = ap (λ (xs : List _). length xs) (sym none)
order-long (v ∷ vs) values order =
    omega (arith, one-longer v order.0 values order.1, order-long vs order.0 order.2)

module _ {B T : Type 0} (shown : B → Option StorageName) (len : ℕ) (w : World (LinkedEntry B)) (bag : BagParts T B) where
  -- where there is a value behind, a storage has places
  has-places : (es : List (Entry (LinkedEntry B))) → LiesOn shown len w es bag.overflow → 0 < length (overflow_of bag) → 0 < len
  has-places es lies more = by-length len (omega (arith, kept-long shown len w bag es lies, few-in bag.overflow.places, more))
    where
      by-length : (n : ℕ) → 0 < length es * n → 0 < n
      by-length zero some = absurd (omega (arith, some, mul-zero (length es)))
      by-length (suc n) some = omega arith

-- a value was taken out of the storages, and the others are left in some order
pub removes-at-last : {B T : Type 0} (shown : B → Option StorageName) (len p c : ℕ) (w u : World (LinkedEntry B)) (es fs : List (Entry (LinkedEntry B)))
    (old new : BagParts T B) (v : T) (vs : List T) → LiesOn shown len w es old.overflow → (AreEmpty len old.overflow.places → es ≡ [])
    → LiesOn shown len u fs new.overflow → (AreEmpty len new.overflow.places → fs ≡ []) → HasOneMore v (overflow_of new) (overflow_of old)
    → AreInSomeOrder vs (overflow_of new) → (Places : Type 0) → (u ≡ w) × (fs ≡ es) ⊎ Places × RemovesStorage w p c es u fs
    → RemovesIfLast len (length vs) w p c es u fs
removes-at-last shown len p c w u es fs old new v vs was used now used-now less order Places step =
    let longer = one-longer v (overflow_of new) (overflow_of old) less in
    let long = order-long vs (overflow_of new) order in
    let some = has-places shown len w old es was (omega (arith, longer)) in
    let many = storages-rounded shown len w old es some (record { entries = es; lies = was; used = used }) was in
    let few = storages-rounded shown len u new fs some (record { entries = fs; lies = now; used = used-now }) now in
    let at-old : length (overflow_of old) ≡ length vs + 1 = omega (arith, longer, long) in
    removes-last len (length vs) w u p c es fs some (many ∙ ap (λ (n : ℕ). div_ceil n len) at-old)
    (few ∙ ap (λ (n : ℕ). div_ceil n len) (sym long)) Places step
