-- Where a cursor goes over a bag, step by step
use Rattle.std.proofs.Common.{◌≡◌, ℕ, suc, ◌+◌, ◌^◌, ◌<◌, ◌≤◌, List, [], ◌∷◌, Bool, Option, Some, None, drop, length, slice_get, slice_set, true, false, refl, sym, ap, ◌∙◌, subst, arith}
use Rattle.std.specs.Prelude.{IfSome, IsTrue, MatchOption}
use Rattle.std.specs.Borrow.{Bor, MutBor}
use Rattle.sdd_space.specs.CallerId.{CallerId, IsExact}
use Rattle.sdd_world_model.specs.World.{World}
use Rattle.sdd_lists.specs.declared.iter.Iter.{Iter}
use Rattle.sdd_lists.specs.declared.linked_entry.LinkedEntry.{LinkedEntry}
use Rattle.sdd_lists.specs.Entries.{value_of}
use Rattle.sdd_lists.specs.Iter.{GivesInOrder, GoesInOrder, IsIterOf, space_of}
use Rattle.sdd_lists.specs.Lists.{Entry}
use Rattle.sdd_lists.specs.Walk.{shown_of}
use Rattle.sdd_bag.specs.declared.behind.Behind.{Behind}
use Rattle.sdd_bag.specs.declared.fits.Fits.{Fits}
use Rattle.sdd_bag.specs.declared.iter_mut.IterMut.{IterMut}
use Rattle.sdd_bag.specs.Storage.{names_of}
use Rattle.sdd_bag.specs.Storages.{StorageName}
use Rattle.sdd_bag.specs.Overflow.{AreShelves, LiesOn, places_in, places_on}
use Rattle.sdd_bag.specs.Bag.{BagParts, HasSameCells, IsBag, primary_of, values_of}
use Rattle.sdd_bag.specs.Lent.{TakesOut}
use Rattle.sdd_bag.specs.Spots.{GoesOn, HasFirst, IsInOrder, StandsIn, places_of, start_behind, start_of, values_before, whole_at, with_places}
use Rattle.sdd_bag.specs.IterMut.{Ends, HasHere, IsCursor, IsLent, IsPassed, Lends, Rests, bag_name, given, passed, space_in, whole}
use Rattle.sdd_bag.proofs.NextStorage.{all-passed-by, count-next, first-next, here-next, stands-next}
use Rattle.sdd_bag.proofs.LentValues.{names-back}
use Rattle.sdd_bag.proofs.Lent.{Next, keys-behind, next-shelf, none-next}
use Rattle.sdd_bag.proofs.Spots.{with-own}
use Rattle.sdd_bag.proofs.BagAfterCursor.{at-bag, at-cells, at-first, at-inside, at-lies, at-next, at-now, at-order, at-was, names-behind, names-left, stands-kept, whole-lent, with_at}

module _ {T B : Type 0} where
  -- the names of the places behind stay where a value comes back
  pub whole-names : (b : Option (Behind B)) (gap at : ℕ) (held : Option T) (bag : BagParts T B)
      → names_of (whole_at b gap at held bag).overflow.places ≡ names_of bag.overflow.places
  whole-names None gap at held bag = refl
  whole-names (Some b) gap at None bag = refl
  whole-names (Some b) gap at (Some v) bag = names-back gap (b.start + at) v bag.overflow.places

module _ {T B S : Type 0} {len : ℕ} (shown : B → Option StorageName) (caller : S → CallerId) (world : S → World (LinkedEntry B)) where
  room-passed : (old : IterMut T len B S) (held : Option T) → IfSome held (λ v. IsLent old) → old.at ≤ len → passed old.at held ≤ len
  room-passed old None lent room = room
  room-passed old (Some v) lent room = omega (arith, lent.inside)

  -- no value is lent any more, and the next place is the one behind
  abbrev pub rested : IterMut T len B S → MutBor (BagParts T B) → (gap at : ℕ) → Fits T len B → IterMut T len B S
  rested old bag gap at fits =
      record { bag = bag; shelves = old.shelves; behind = old.behind; at = at; gap = gap; held = None; fits = fits }

  -- the value that was lent is back
  pub rests : (old : IterMut T len B S) (bag : MutBor (BagParts T B)) (gap at : ℕ) (fits : Fits T len B) → IsCursor shown caller world old
      → bag.ghost_name ≡ bag_name old → bag.now ≡ whole old → at ≡ passed old.at old.held → Rests shown caller world old (rested old bag gap at fits)
  rests old bag gap at fits is name now next =
      let b = old.behind in let w = world (space_in old) in
      let own : with_places b (places_of b bag.now) bag.now ≡ whole old = with-own b bag.now ∙ now in
      let names : names_of bag.now.overflow.places ≡ names_of old.bag.now.overflow.places =
      ap (λ (x : BagParts T B). names_of x.overflow.places) now ∙ whole-names b old.gap old.at old.held old.bag.now in
      record {
        same = record {
          bag = name;
          space = refl;
          cursor = record {
            bag = subst (λ (x : BagParts T B). IsBag shown len w x) (sym own) is.bag;
            order = subst (λ (x : BagParts T B). IsInOrder len x) (sym own) is.order;
            exact = is.exact;
            can = is.can;
            stands = stands-kept shown len b old.bag.now bag.now names is.stands;
            first = subst (λ (x : BagParts T B). HasFirst len b x) (sym own) is.first;
            room = omega (arith, next, room-passed old old.held is.lent is.room);
            lent = tt;
            left = (
              is.left.0,
              record {
                shelves = is.left.1.shelves;
                gives = is.left.1.gives;
                keys = names-left old.bag.now bag.now _ names ∙ is.left.1.keys;
              },
            );
          };
        };
        none = refl;
        bag = own;
        as_many = ap (λ (n : ℕ). values_before b n (with_places b (places_of b bag.now) bag.now)) next
            ∙ ap (λ (x : BagParts T B). values_before b (passed old.at old.held) x) own;
      }

  pub rests-held : (old : IterMut T len B S) (bag : MutBor (BagParts T B)) (gap at : ℕ) (held : Option T) (fits : Fits T len B)
      → IsCursor shown caller world old
      → bag.ghost_name ≡ bag_name old → bag.now ≡ whole old → at ≡ passed old.at old.held → held ≡ None
      → Rests shown caller world old (record (rested old bag gap at fits) { held = held })
  rests-held old bag gap at held fits is name now next none =
      subst (λ (h : Option T). Rests shown caller world old (record (rested old bag gap at fits) { held = h })) (sym none)
      (rests old bag gap at fits is name now next)

  -- a value is lent
  abbrev pub lending : IterMut T len B S → MutBor (BagParts T B) → ℕ → T → Fits T len B → IterMut T len B S
  lending old bag gap w fits =
      record { bag = bag; shelves = old.shelves; behind = old.behind; at = old.at; gap = gap; held = Some w; fits = fits }

  -- it is in another storage
  abbrev pub stepped : IterMut T len B S → Iter B S → Option (Behind B) → ℕ → Option T → IterMut T len B S
  stepped old after b at held =
      record { bag = old.bag; shelves = after; behind = b; at = at; gap = old.gap; held = held; fits = old.fits }

  module _ (old : IterMut T len B S) (is : IsCursor shown caller world old) (none : old.held ≡ None) where
    pub whole-old : whole old ≡ old.bag.now
    whole-old = ap (λ (h : Option T). whole_at old.behind old.gap old.at h old.bag.now) none ∙ with-own old.behind old.bag.now

    pub given-old : given old ≡ values_before old.behind old.at old.bag.now
    given-old =
        ap (λ (h : Option T). values_before old.behind (passed old.at h) (whole old)) none
        ∙ ap (λ (x : BagParts T B). values_before old.behind old.at x) whole-old

    -- the value of the place is lent, and this one left
    pub lends : (bag : MutBor (BagParts T B)) (gap : ℕ) (v : T) (fits : Fits T len B) → bag.ghost_name ≡ bag_name old
        → bag.now ≡ with_places old.behind (places_of old.behind bag.now) old.bag.now
        → names_of (places_of old.behind bag.now) ≡ names_of (places_of old.behind old.bag.now) → start_of old.behind < 2 ^ 120 → old.at < len
        → TakesOut len gap (start_of old.behind + old.at) v (places_of old.behind old.bag.now) (places_of old.behind bag.now)
        → (w : T) → Lends shown caller world v w old (lending old bag gap w fits)
    lends bag gap v fits name rest names few inside out w =
        let b = old.behind in let was = old.bag.now in let i = start_of b + old.at in let sp = world (space_in old) in
        let new : BagParts T B = with_at b i w was in
        let left : whole (lending old bag gap w fits) ≡ new = whole-lent b len gap old.at v w was bag.now rest out in
        let behind = names-behind b was bag.now rest names in
        record {
          same = record {
            bag = name;
            space = refl;
            cursor = record {
              bag = subst (λ (x : BagParts T B). IsBag shown len sp x) (sym left)
                  (at-bag i v w was shown len sp b out.was (subst (λ (x : BagParts T B). IsBag shown len sp x) whole-old is.bag));
              order = subst (λ (x : BagParts T B). IsInOrder len x) (sym left)
                  (at-order i v w was len b out.was (subst (λ (x : BagParts T B). IsInOrder len x) whole-old is.order));
              exact = is.exact;
              can = is.can;
              stands = stands-kept shown len b was bag.now behind is.stands;
              first = subst (λ (x : BagParts T B). HasFirst len b x) (sym left)
                  (at-first i v w was len b out.was (subst (λ (x : BagParts T B). HasFirst len b x) whole-old is.first));
              room = is.room;
              lent = record { inside = inside; few = few; awaits = out.awaits };
              left = (
                is.left.0,
                record {
                  shelves = is.left.1.shelves;
                  gives = is.left.1.gives;
                  keys = names-left was bag.now _ behind ∙ is.left.1.keys;
                },
              );
            };
          };
          one_more = ap (λ (x : BagParts T B). values_before b (suc old.at) x) left ∙ at-next i v w was b old.at refl out.was ∙ ap suc (sym given-old);
          was = ap (λ (x : BagParts T B). slice_get (values_of x) (given old)) whole-old ∙ ap (λ (n : ℕ). slice_get (values_of was) n) given-old
              ∙ at-was i v w was b old.at refl out.was;
          values = ap (λ (x : BagParts T B). values_of x) left ∙ at-now i v w was b old.at refl out.was
              ∙ ap (λ (n : ℕ). slice_set (values_of was) n w) (sym given-old)
              ∙ ap (λ (x : BagParts T B). slice_set (values_of x) (given old) w) (sym whole-old);
          inside = ap (λ (x : BagParts T B). length (primary_of x)) left ∙ at-inside i v w was b out.was
              ∙ ap (λ (x : BagParts T B). length (primary_of x)) (sym whole-old);
          cells = subst (λ (x : BagParts T B). HasSameCells x (whole (lending old bag gap w fits))) (sym whole-old)
              (subst (λ (x : BagParts T B). HasSameCells was x) (sym left) (at-cells i v w was b));
          list = λ es lies.
              subst (λ (x : BagParts T B). LiesOn shown len sp es x.overflow) (sym left)
              (at-lies i v w was shown len sp b out.was es (subst (λ (x : BagParts T B). LiesOn shown len sp es x.overflow) whole-old lies));
        }

    -- it goes on to another storage, or asks for one in vain
    pub goes : (after : Iter B S) (b : Option (Behind B)) (at : ℕ) (es : List (Entry (LinkedEntry B))) → after.space ≡ old.shelves.space
        → IsIterOf (caller (space_of after)).home.slots after → StandsIn shown len b old.bag.now → HasFirst len b old.bag.now → at ≤ len
        → AreShelves shown len (world (space_in old)) es → GivesInOrder (world (space_in old)) after (shown_of es)
        → names_of (drop (start_behind len b) old.bag.now.overflow.places) ≡ places_on shown len es
        → values_before b at old.bag.now ≡ values_before old.behind old.at old.bag.now
        → (held : Option T) → held ≡ None → Rests shown caller world old (stepped old after b at held)
    goes after b at es space can stands first room shelves gives keys count held none' =
        let bag = old.bag.now in let now : space_of after ≡ space_in old = ap (λ (r : Bor S). r.now) space in
        let own : with_places b (places_of b bag) bag ≡ whole old = with-own b bag ∙ sym whole-old in
        subst (λ (h : Option T). Rests shown caller world old (stepped old after b at h)) (sym none')
        (record {
          same = record {
            bag = refl;
            space = now;
            cursor = record {
              bag = subst (λ (s : S). IsBag shown len (world s) (with_places b (places_of b bag) bag)) (sym now)
                  (subst (λ (x : BagParts T B). IsBag shown len (world (space_in old)) x) (sym own) is.bag);
              order = subst (λ (x : BagParts T B). IsInOrder len x) (sym own) is.order;
              exact = subst (λ (s : S). IsExact (caller s)) (sym now) is.exact;
              can = can;
              stands = stands;
              first = subst (λ (x : BagParts T B). HasFirst len b x) (sym (with-own b bag)) first;
              room = room;
              lent = tt;
              left = (
                es,
                record {
                  shelves = subst (λ (s : S). AreShelves shown len (world s) es) (sym now) shelves;
                  gives = subst (λ (s : S). GivesInOrder (world s) after (shown_of es)) (sym now) gives;
                  keys = keys;
                },
              );
            };
          };
          none = refl;
          bag = own;
          as_many = ap (λ (x : BagParts T B). values_before b at x) (with-own b bag) ∙ count ∙ sym given-old;
        })

    abbrev pub order-old : IsInOrder len old.bag.now
    order-old = subst (λ (x : BagParts T B). IsInOrder len x) whole-old is.order

    abbrev pub first-old : HasFirst len old.behind old.bag.now
    first-old = subst (λ (x : BagParts T B). HasFirst len old.behind x) whole-old is.first

    abbrev pub bag-old : IsBag shown len (world (space_in old)) old.bag.now
    bag-old = subst (λ (x : BagParts T B). IsBag shown len (world (space_in old)) x) whole-old is.bag

    module _ (after : Iter B S) (passed-by : IsPassed old) where
      -- no storage is left
      pub ends : GoesInOrder caller world old.shelves None after → Rests shown caller world old (stepped old after old.behind old.at old.held)
          × (given old ≡ length (values_of (whole old)))
      ends steps =
          let es = is.left.0 in let left = is.left.1 in let w = world (space_in old) in
          let got = steps.gives is.exact (shown_of es) left.gives in let last = none-next shown len w es left.shelves got.0 in
          let keys = left.keys ∙ ap (λ (fs : List (Entry (LinkedEntry B))). places_on shown len fs) last in (
            goes after old.behind old.at [] steps.space (steps.home is.can) is.stands first-old is.room tt
                (subst (λ (fs : List (Entry (LinkedEntry B))). GivesInOrder w after (drop 1 (shown_of fs))) last got.1) keys refl old.held none,
            given-old ∙ all-passed-by shown len w old.bag.now order-old old.behind old.at is.room passed-by keys
                ∙ ap (λ (x : BagParts T B). length (values_of x)) (sym whole-old),
          )

      module _ (shelf : Bor B) (steps : GoesInOrder caller world old.shelves (Some shelf) after) where
        abbrev w : World (LinkedEntry B)
        w = world (space_in old)

        got : (Some shelf.now ≡ slice_get (shown_of is.left.0) 0) × GivesInOrder w after (drop 1 (shown_of is.left.0))
        got = steps.gives is.exact (shown_of is.left.0) is.left.1.gives

        next : Next shown len w is.left.0 shelf.now
        next = next-shelf shown len w is.left.0 shelf.now is.left.1.shelves got.0

        are : AreShelves shown len w (next.first ∷ next.rest)
        are = subst (λ (es : List (Entry (LinkedEntry B))). AreShelves shown len w es) next.entries is.left.1.shelves

        lies : names_of (drop (start_behind len old.behind) old.bag.now.overflow.places) ≡ places_on shown len (next.first ∷ next.rest)
        lies = is.left.1.keys ∙ ap (λ (es : List (Entry (LinkedEntry B))). places_on shown len es) next.entries

        module _ (b : Behind B) (on : GoesOn len old.behind shelf.now b) where
          goes-on : GoesOn len old.behind (value_of next.first.value) b
          goes-on = subst (λ (x : B). GoesOn len old.behind x b) (sym next.value) on

          -- it goes on to the next one
          pub enters : Rests shown caller world old (stepped old after (Some b) 0 old.held)
          enters =
              goes after (Some b) 0 next.rest steps.space (steps.home is.can)
              (stands-next shown len w old.bag.now order-old next.first next.rest are old.behind b goes-on lies is.stands)
              (first-next shown len w old.bag.now order-old next.first next.rest are old.behind lies first-old bag-old) (omega arith) are.2
              (subst (λ (vs : List B). GivesInOrder w after vs) next.behind got.1)
              (subst (λ (n : ℕ). names_of (drop (n + len) old.bag.now.overflow.places) ≡ places_on shown len next.rest) (sym on.start)
              (keys-behind old.bag.now.overflow.places old.bag.now.overflow.places (start_behind len old.behind) len (places_in shown len next.first)
              (places_on shown len next.rest) refl are.0.long lies))
              (count-next shown len w old.bag.now order-old next.first next.rest are old.behind b old.at is.room passed-by goes-on) old.held none

          pub has-here : HasHere (stepped old after (Some b) 0 old.held)
          has-here = record {
            inside = order-old.some;
            full = here-next shown len w old.bag.now order-old next.first next.rest are old.behind b goes-on lies is.stands first-old bag-old;
          }

  -- one step after another
  pub rests-on : (a b c : IterMut T len B S) → Rests shown caller world a b → Rests shown caller world b c → Rests shown caller world a c
  rests-on a b c one two = record {
    same = record { bag = two.same.bag ∙ one.same.bag; space = two.same.space ∙ one.same.space; cursor = two.same.cursor };
    none = two.none;
    bag = two.bag ∙ one.bag;
    as_many = two.as_many ∙ one.as_many;
  }

  pub lends-on : (a b c : IterMut T len B S) (v w : T) → Rests shown caller world a b → Lends shown caller world v w b c → Lends shown caller world v w a c
  lends-on a b c v w one two = record {
    same = record { bag = two.same.bag ∙ one.same.bag; space = two.same.space ∙ one.same.space; cursor = two.same.cursor };
    one_more = two.one_more ∙ ap suc one.as_many;
    was = ap (λ (n : ℕ). slice_get (values_of (whole a)) n) (sym one.as_many)
        ∙ ap (λ (x : BagParts T B). slice_get (values_of x) (given b)) (sym one.bag) ∙ two.was;
    values = two.values ∙ ap (λ (x : BagParts T B). slice_set (values_of x) (given b) w) one.bag
        ∙ ap (λ (n : ℕ). slice_set (values_of (whole a)) n w) one.as_many;
    inside = two.inside ∙ ap (λ (x : BagParts T B). length (primary_of x)) one.bag;
    cells = subst (λ (x : BagParts T B). HasSameCells x (whole c)) one.bag two.cells;
    list = λ es lies.
        let back : LiesOn shown len (world (space_in b)) es (whole b).overflow =
        subst (λ (s : S). LiesOn shown len (world s) es (whole b).overflow) (sym one.same.space)
        (subst (λ (x : BagParts T B). LiesOn shown len (world (space_in a)) es x.overflow) (sym one.bag) lies) in
        subst (λ (s : S). LiesOn shown len (world s) es (whole c).overflow) one.same.space (two.list es back);
  }

  -- what a step answers, as the value that is lent
  abbrev pub Moves : IterMut T len B S → IterMut T len B S → Type 0
  Moves a q =
      MatchOption q.held (Ends shown caller world a q)
      (λ v. (w : T) → Lends shown caller world v w a (record q { held = Some w }))

  pub moves-lent : (a b q : IterMut T len B S) → Rests shown caller world a b
      → (v : T) × (q.held ≡ Some v) × ((w : T) → Lends shown caller world v w b (record q { held = Some w })) → Moves a q
  moves-lent a b q one lent =
      subst (λ (h : Option T). MatchOption h (Ends shown caller world a q) (λ v. (w : T) → Lends shown caller world v w a (record q { held = Some w })))
      (sym lent.1) (λ w. lends-on a b (record q { held = Some w }) lent.0 w one (lent.2 w))

  pub moves-none : (a q : IterMut T len B S) → Rests shown caller world a q → given a ≡ length (values_of (whole a)) → Moves a q
  moves-none a q rests all =
      subst (λ (h : Option T). MatchOption h (Ends shown caller world a q) (λ v. (w : T) → Lends shown caller world v w a (record q { held = Some w })))
      (sym rests.none) (record { rests = rests; all = all })

  pub given-all : (a b : IterMut T len B S) → Rests shown caller world a b → given b ≡ length (values_of (whole b)) → given a ≡ length (values_of (whole a))
  given-all a b one all = sym one.as_many ∙ all ∙ ap (λ (x : BagParts T B). length (values_of x)) one.bag

  -- a place that has a value isn't passed
  pub not-passed : (a : IterMut T len B S) → HasHere a → IsPassed a → ⊥
  not-passed a here none = let never : true ≡ false = sym here.full ∙ none a.at (omega arith) here.inside in absurd (cc)

  pub moves-second : (a b q : IterMut T len B S) (r : Bool) → Rests shown caller world a b → HasHere b
      → (IsTrue r → (v : T) × (q.held ≡ Some v) × ((w : T) → Lends shown caller world v w b (record q { held = Some w })))
      → (r ≡ false → IsPassed b) → Moves a q
  moves-second a b q true one here lent none = moves-lent a b q one (lent refl)
  moves-second a b q false one here lent none = absurd (not-passed b here (none refl))

  -- a cursor that has given nothing
  pub begins : (bag : MutBor (BagParts T B)) (shelves : Iter B S) (fits : Fits T len B) (s : S) → space_of shelves ≡ s → IsExact (caller s)
      → IsIterOf (caller s).home.slots shelves → IsBag shown len (world s) bag.now → IsInOrder len bag.now
      → ((es : List (Entry (LinkedEntry B))) → LiesOn shown len (world s) es bag.now.overflow → GivesInOrder (world s) shelves (shown_of es))
      → IsCursor shown caller world (record { bag = bag; shelves = shelves; behind = None; at = 0; gap = 0; held = None; fits = fits })
  begins bag shelves fits s space exact can is order gives = record {
    bag = subst (λ (x : S). IsBag shown len (world x) bag.now) (sym space) is;
    order = order;
    exact = subst (λ (x : S). IsExact (caller x)) (sym space) exact;
    can = subst (λ (x : S). IsIterOf (caller x).home.slots shelves) (sym space) can;
    stands = tt;
    first = tt;
    room = omega arith;
    lent = tt;
    left = (
      is.entries,
      record {
        shelves = subst (λ (x : S). AreShelves shown len (world x) is.entries) (sym space) is.lies.shelves;
        gives = subst (λ (x : S). GivesInOrder (world x) shelves (shown_of is.entries)) (sym space) (gives is.entries is.lies);
        keys = is.lies.keys;
      },
    );
  }
