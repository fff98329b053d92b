-- What calls of a bag make of it, as a line says it
use Rattle.sdd_interpreter.proofs.Words.{◌≡◌, ◌⊎◌, MatchOption, Option, Some, None, inl, inr, ℕ, ◌+◌, ◌<◌, ◌≤◌, List, [], ◌∷◌, ◌++◌, length, vec_capacity, sym, ap, ◌∙◌, subst, arith, Vec, append-nil, length-append, length-map, World, Entry, cell_in, values_of, PutsNumber, TakesAll, TakesNumber, Val, same-list, AddsStorage, AreFull, HasSameCells, IsBag, NumberBag, PopsBehind, PopsInside, PushesBehind, PushesInside, RemovesStorage, RemovesStorages, StandsOn, append_assoc, bag_length, drop, names_of, overflow_of, primary_of, storage_in}
use Rattle.sdd_bag.specs.Folding.{Folds}
use Rattle.sdd_bag.specs.Values.{AreInSomeOrder, HasOneMore}
use Rattle.sdd_bag.proofs.Values.{all-empty, few-in}

-- a list with one more isn't empty
one-more-some : (v : ℕ) (few many : List ℕ) → HasOneMore v few many → 1 ≤ length many
one-more-some v few many one = omega (arith, ap length one.more, length-append one.before (v ∷ one.behind))

-- on no entries no values lie
none-lies : (u : World Val) (b : NumberBag) → StandsOn u b [] → length (overflow_of b) ≡ 0
none-lies u b lies =
    let named : length (names_of b.overflow.places) ≡ 0 = ap length lies.keys in
    omega (arith, named, length-map b.overflow.places (λ p. p.name), few-in b.overflow.places)

-- in some order there are as many
order-long : (vs values : List ℕ) → AreInSomeOrder vs values → length vs ≡ length values
order-long [] values order = sym (ap length order)
order-long (v ∷ vs) values (others, one, order) =
    omega (
      arith,
      order-long vs others order,
      ap length one.fewer,
      ap length one.more,
      length-append one.before one.behind,
      length-append one.before (v ∷ one.behind),
    )

none-second : (xs ys : List ℕ) → xs ++ ys ≡ [] → ys ≡ []
none-second [] ys none = none
none-second (x ∷ xs) ys none = absurd (cc)

module _ (w new : World Val) (p : ℕ) (old bag : NumberBag) (cells : HasSameCells old bag) (was : IsBag storage_in bag_length w old)
    (is : IsBag storage_in bag_length new bag) where
  pub puts-number : (number : ℕ) → (PushesInside bag_length number old bag × (new ≡ w)) ⊎ PushesBehind bag_length number old bag →
      ((es : List (Entry Val)) → StandsOn w old es → (fs : List (Entry Val)) × StandsOn new bag fs
      × ((new ≡ w) ⊎ AreFull bag_length old.overflow.places × AddsStorage storage_in w p old.overflow.stack es new fs)) →
      PutsNumber w p number old bag new
  puts-number number (inl inside) list = (cells, inl inside)
  puts-number number (inr behind) list =
      let got = list was.entries was.lies in (
        cells,
        inr (record {
          puts = behind;
          entries = was.entries;
          now = got.0;
          stood = was.lies;
          stands = got.1;
          some = λ none.
              (let bare : StandsOn new bag [] = subst (λ (es : List (Entry Val)). StandsOn new bag es) (is.used none) is.lies in
              omega (arith, none-lies new bag bare, one-more-some number (overflow_of old) (overflow_of bag) behind.more));
          storages = got.2;
        }),
      )

  pub takes-number : (number : ℕ) → PopsBehind number old bag ⊎ PopsInside number old bag × (new ≡ w) →
      ((es : List (Entry Val)) → StandsOn w old es → (fs : List (Entry Val)) × StandsOn new bag fs
      × ((new ≡ w) × (fs ≡ es) ⊎ (bag.overflow.places ≡ drop bag_length old.overflow.places)
      × RemovesStorage w p (cell_in old.overflow.stack) es new fs)) →
      TakesNumber w p number old bag new
  takes-number number (inr inside) list = (cells, inl inside)
  takes-number number (inl behind) list =
      let got = list was.entries was.lies in (
        cells,
        inr (record {
          takes = behind;
          entries = was.entries;
          now = got.0;
          stood = was.lies;
          stands = got.1;
          used = λ none. same-list new (cell_in bag.overflow.stack) got.0 is.entries got.1.stack is.lies.stack ∙ is.used none;
          storages = elim got.2 [ inl same ↦ inl same | inr gone ↦ inr gone.1 ];
        }),
      )

  pub takes-some : (taken : Option ℕ) → MatchOption taken
      ((primary_of old ≡ []) × (overflow_of old ≡ []) × (bag ≡ old) × (new ≡ w))
      (λ number. PopsBehind number old bag ⊎ PopsInside number old bag × (new ≡ w)) →
      ((es : List (Entry Val)) → StandsOn w old es → (fs : List (Entry Val)) × StandsOn new bag fs
      × ((new ≡ w) × (fs ≡ es) ⊎ (bag.overflow.places ≡ drop bag_length old.overflow.places)
      × RemovesStorage w p (cell_in old.overflow.stack) es new fs)) →
      MatchOption taken ((values_of old ≡ []) × (bag ≡ old) × (new ≡ w)) (λ number. TakesNumber w p number old bag new)
  takes-some None none list = (ap (λ (xs : List ℕ). xs ++ overflow_of old) none.0 ∙ none.1, none.2, none.3)
  takes-some (Some number) one list = takes-number number one list

  pub takes-all : (numbers : List ℕ) → values_of bag ≡ [] → AreInSomeOrder numbers (values_of old) →
      ((es : List (Entry Val)) → StandsOn w old es → RemovesStorages w p (cell_in old.overflow.stack) es new) →
      TakesAll w p old bag numbers new
  takes-all numbers empty all list =
      let bare = all-empty bag.overflow.places (none-second (primary_of bag) (overflow_of bag) empty) in record {
        cells = cells;
        empty = empty;
        all = all;
        entries = was.entries;
        stood = was.lies;
        stands = subst (λ (es : List (Entry Val)). StandsOn new bag es) (is.used (λ k near. bare k)) is.lies;
        storages = list was.entries was.lies;
      }

-- calls that put each number behind, where there is room, put all of them there
module _ {F : Type 0} (step : F → Vec ℕ → ℕ → Vec ℕ → F → Type 0)
    (does : (f : F) (made : Vec ℕ) (number : ℕ) (next : Vec ℕ) (then : F) → step f made number next then →
    (length made.items < vec_capacity made → next.items ≡ made.items ++ number ∷ []) × (vec_capacity next ≡ vec_capacity made)) where
  pub all-behind : (f : F) (made : Vec ℕ) (numbers : List ℕ) (all : Vec ℕ) → Folds step f made numbers all →
      length made.items + length numbers ≤ vec_capacity made → all.items ≡ made.items ++ numbers
  all-behind f made [] all same room = sym (ap (λ (v : Vec ℕ). v.items) same) ∙ sym (append-nil made.items)
  all-behind f made (n ∷ numbers) all (next, then, called, rest) room =
      let did = does f made n next then called in
      let first = did.0 (omega (arith, room)) in
      let long = ap length first ∙ length-append made.items (n ∷ []) in
      all-behind then next numbers all rest (omega (arith, room, did.1, long))
      ∙ ap (λ (xs : List ℕ). xs ++ numbers) first
      ∙ append_assoc made.items (n ∷ []) numbers

pub drained-order : (room all : Vec ℕ) (numbers values : List ℕ) → AreInSomeOrder numbers values → all.items ≡ room.items ++ numbers → room.items ≡ [] →
    AreInSomeOrder all.items values
drained-order room all numbers values order made none =
    subst (λ (xs : List ℕ). AreInSomeOrder xs values) (sym (made ∙ ap (λ (xs : List ℕ). xs ++ numbers) none)) order

pub drained-room : (room : Vec ℕ) (numbers values : List ℕ) → AreInSomeOrder numbers values → room.items ≡ [] → length values ≤ vec_capacity room →
    length room.items + length numbers ≤ vec_capacity room
drained-room room numbers values order none few = omega (arith, ap length none, order-long numbers values order, few)
