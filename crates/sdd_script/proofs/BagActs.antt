-- What each action on a bag leaves in hand: it is sound, and it is what the call means
use Rattle.sdd_script.proofs.Words.{◌≡◌, ◌+◌, ℕ, Bool, true, false, List, [], ◌∷◌, ◌++◌, Option, Some, None, is_some, length, slice_index_or, slice_set, refl, sym, ap, ◌∙◌, subst, Vec, IsNonDecreasing, IsPermutation, set-get_or, set-set, Refused, NoCell, World, IsPlaceOf, IsWhole, Entry, HasOneAtMost, HasSameCells, IsBag, IsOfCells, ClosesBag, index_of, GuardName, PlaceName, Reply, Call, At, holds_nothing, StandsOn, LosesNames, BeginsLine, NumberBag, ScriptState, bag_at, bag_length, opening_at, place_of, Acts, HasOpen, IsParticipant, IsUnderGuard, Val, storage_in, bag_closed-leaves, NamedParticipant, open_since, Environment, IsTied, state_of, Does, does, goes, still, AreFull, BeginsBag, IsBagName, PushesInside, PutsNumber, RefusesStorage, TakesAll, TakesNumber, bag_begun-leaves, length-append, overflow_of, primary_of, values_of, with_bag_at, with_dates}
use Rattle.sdd_script_text.specs.declared.name.BagName.{BagName}
use Rattle.sdd_script_text.specs.Actions as call
use Rattle.sdd_script_text.specs.declared.answer.Reply.TheVariants as reply
use Rattle.sdd_script_model.proofs.BagSound.{drain-leaves, inside-leaves, put-leaves, put-long, take-leaves}
use Rattle.sdd_interpreter.proofs.Acts as acts
use Rattle.sdd_script.proofs.CopyActs.{AreForgotten, AreFreeSo, as-dated, as-named, loses}
use Rattle.sdd_script.proofs.StackActs.{AreDatedNow, AreTold, dated-within}

-- no bag has this name
pub no-bag : (h : Environment) (b : ℕ) → None ≡ slice_index_or h.lists.bags.entries.items b None → ¬ (IsBagName (state_of h) b)
no-bag h b none there = let never : false ≡ true = ap is_some none ∙ there in absurd (cc)

-- the bag of this name is in the world, and its cells are of the world's home
pub bag-kept : (h : Environment) → IsTied h → (b : ℕ) (bag : NumberBag) → Some bag ≡ slice_index_or h.lists.bags.entries.items b None →
    IsBag storage_in bag_length h.world bag
bag-kept h t b bag mine = (t.sound.bags b bag (sym mine)).bag

pub bag-home : (h : Environment) → IsTied h → (b : ℕ) (bag : NumberBag) → Some bag ≡ slice_index_or h.lists.bags.entries.items b None →
    IsOfCells h.world.home.cells bag
bag-home h t b bag mine = (t.sound.bags b bag (sym mine)).home

-- a bag that was taken out of the names is put back as another one
pub put-so : (xs taken new : List (Option NumberBag)) (b : ℕ) (bag : NumberBag) → taken ≡ slice_set xs b None → new ≡ slice_set taken b (Some bag) →
    new ≡ slice_set xs b (Some bag)
put-so xs taken new b bag spent back = back ∙ ap (λ (ys : List (Option NumberBag)). slice_set ys b (Some bag)) spent ∙ set-set xs b None (Some bag)

module _ (h : Environment) (t : IsTied h) (whole : IsWhole h.world) (name : PlaceName) (a : NamedParticipant)
    (there : open_since (Some a) ≡ opening_at (state_of h).places name.0) where
  abbrev n : ℕ
  n = name.0

  abbrev p : ℕ
  p = index_of a.place

  here : IsParticipant (state_of h) n
  here = acts.attends (acts.under name.0 t whole there)

  live : IsPlaceOf h.world p
  live = acts.sits (acts.under name.0 t whole there)

  place-is : place_of (state_of h) n ≡ p
  place-is = acts.place-is (acts.under name.0 t whole there)

  -- ---- a bag is made

  pub acts-no_cells : HasOneAtMost h.world.cells → Acts (state_of h) (At name call.Bag) (reply.Refused NoCell) (state_of h)
  acts-no_cells few = still (state_of h) (At name call.Bag) (reply.Refused NoCell) (here, (few, refl))

  pub acts-begun : (w : World Val) (bags : Vec (Option NumberBag)) (bag : NumberBag) (r : BagName) → BeginsBag h.world bag w →
      bags.items ≡ h.lists.bags.entries.items ++ Some bag ∷ [] → r.0 ≡ length h.lists.bags.entries.items →
      Does (state_of h) (At name call.Bag) (reply.Bag r) (record h { world = w; lists = record h.lists { bags = record { entries = bags } } })
  acts-begun w bags bag r begins pushed named =
      acts.leaves (acts.under name.0 t whole there) refl (cc (pushed)) (bag_begun-leaves (state_of h) t.sound whole p live bag w begins)
      (here, (named, (bag, w, begins, refl)))

  -- ---- the bag of this name

  module _ (b : BagName) (old : NumberBag) (mine : Some old ≡ slice_index_or h.lists.bags.entries.items b.0 None) where
    is : bag_at (state_of h).bags b.0 ≡ Some old
    is = sym mine

    is-bag : IsBagName (state_of h) b.0
    is-bag = ap is_some is

    pub acts-kept : (number back : ℕ) → back ≡ number → length (primary_of old) ≡ bag_length →
        Acts (state_of h) (At name (call.Try b number)) (reply.Kept back) (state_of h)
    acts-kept number back same full = still (state_of h) (At name (call.Try b number)) (reply.Kept back) ((here, is-bag), (same, (old, is, full), refl))

    pub acts-refused : (g : GuardName) (number : ℕ) (why : Refused) → HasOpen (state_of h) n g.0 → length (primary_of old) ≡ bag_length →
        AreFull bag_length old.overflow.places → RefusesStorage h.world why →
        Acts (state_of h) (At name (call.Add b number g)) (reply.Refused why) (state_of h)
    acts-refused g number why valid full all refuses =
        still (state_of h) (At name (call.Add b number g)) (reply.Refused why) ((valid, is-bag), ((old, is, full, all, refuses), refl))

    pub acts-empty : (g : GuardName) → HasOpen (state_of h) n g.0 → values_of old ≡ [] →
        Acts (state_of h) (At name (call.Take b g)) reply.Nothing (state_of h)
    acts-empty g valid none = still (state_of h) (At name (call.Take b g)) reply.Nothing ((valid, is-bag), ((old, is, none), refl))

    pub acts-counted : (g : GuardName) (many : ℕ) → HasOpen (state_of h) n g.0 → many ≡ length (primary_of old) + length (overflow_of old) →
        Acts (state_of h) (At name (call.LenBag b g)) (reply.Many many) (state_of h)
    acts-counted g many valid same =
        still (state_of h) (At name (call.LenBag b g)) (reply.Many many)
        ((valid, is-bag), ((old, is, same ∙ sym (length-append (primary_of old) (overflow_of old))), refl))

    -- what is as before answers so, where the bag is put back
    pub acts-as-before : (w : World Val) (bags : Vec (Option NumberBag)) → w ≡ h.world → bags.items ≡ slice_set h.lists.bags.entries.items b.0 (Some old) →
        (asked : Call) (given : Reply) → Acts (state_of h) asked given (state_of h) →
        Does (state_of h) asked given (record h { world = w; lists = record h.lists { bags = record { entries = bags } } })
    acts-as-before w bags world put asked given holds =
        let back : bags.items ≡ h.lists.bags.entries.items =
        put ∙ ap (λ (x : Option NumberBag). slice_set h.lists.bags.entries.items b.0 x) mine ∙ set-get_or h.lists.bags.entries.items b.0 None in
        let same =
        ap (λ (x : World Val). record (state_of h) { world = x; bags = bags.items }) world
        ∙ ap (λ (xs : List (Option NumberBag)). record (state_of h) { bags = xs }) back in
        does (state_of h) asked given (goes same t.sound t.guards) holds

    -- a number is refused, and the bag comes back as it was
    pub acts-given_back : (bag : NumberBag) (w : World Val) (bags : Vec (Option NumberBag)) →
        bags.items ≡ slice_set h.lists.bags.entries.items b.0 (Some bag) → (g : GuardName) → HasOpen (state_of h) n g.0 → (number : ℕ) (why : Refused) →
        (length (primary_of old) ≡ bag_length) × AreFull bag_length old.overflow.places × RefusesStorage h.world why × (bag ≡ old) × (w ≡ h.world) →
        Does (state_of h) (At name (call.Add b number g)) (reply.Refused why)
        (record h { world = w; lists = record h.lists { bags = record { entries = bags } } })
    acts-given_back bag w bags put g valid number why (full, all, refuses, same, world) =
        acts-as-before w bags world (put ∙ ap (λ (x : NumberBag). slice_set h.lists.bags.entries.items b.0 (Some x)) same) (At name (call.Add b number g))
        (reply.Refused why) (acts-refused g number why valid full all refuses)

    -- and so are the dates
    pub acts-dated-as-before : (waited : List Bool) → AreTold h waited → (w : World Val) (bags : Vec (Option NumberBag)) (dates : Vec ℕ) → w ≡ h.world →
        bags.items ≡ slice_set h.lists.bags.entries.items b.0 (Some old) → AreDatedNow h w waited dates →
        (asked : Call) (given : Reply) → Acts (state_of h) asked given (state_of h) →
        Does (state_of h) asked given (record (with_dates h dates) { world = w; lists = record h.lists { bags = record { entries = bags } } })
    acts-dated-as-before waited told w bags dates world put now asked given holds =
        let back : bags.items ≡ h.lists.bags.entries.items =
        put ∙ ap (λ (x : Option NumberBag). slice_set h.lists.bags.entries.items b.0 x) mine ∙ set-get_or h.lists.bags.entries.items b.0 None in
        let as_they_were : dates.items ≡ h.log.dates.items = as-dated h t w dates (dated-within h t waited told w dates now) world in
        let same =
        ap (λ (x : World Val). record (state_of h) { world = x; bags = bags.items; dates = dates.items }) world
        ∙ ap (λ (xs : List (Option NumberBag)). record (state_of h) { bags = xs; dates = dates.items }) back
        ∙ ap (λ (ds : List ℕ). record (state_of h) { dates = ds }) as_they_were in
        does (state_of h) asked given (goes same t.sound t.guards) holds

    -- ---- it is this one then

    module _ (bag : NumberBag) (cells : HasSameCells old bag) (bags : Vec (Option NumberBag))
        (put : bags.items ≡ slice_set h.lists.bags.entries.items b.0 (Some bag)) where
      pub acts-tried : (number : ℕ) → PushesInside bag_length number old bag →
          Does (state_of h) (At name (call.Try b number)) reply.Done (record h { lists = record h.lists { bags = record { entries = bags } } })
      acts-tried number inside =
          acts.leaves (acts.under name.0 t whole there) refl (cc (put))
          (inside-leaves (state_of h) t.sound whole p b.0 live old bag is cells inside.others)
          ((here, is-bag), (old, bag, is, cells, inside, refl))

      module _ (w : World Val) (its : IsBag storage_in bag_length w bag) (g : GuardName) (valid : HasOpen (state_of h) n g.0) where
        pub acts-added : BeginsLine (state_of h) → (number : ℕ) → PutsNumber h.world p number old bag w → (free : List Bool) → AreFreeSo h free →
            (names : Vec (Option ℕ)) → AreForgotten h w free names →
            Does (state_of h) (At name (call.Add b number g)) reply.Done
            (record h { world = w; lists = record h.lists { bags = record { entries = bags } }; log = record h.log { names = names } })
        acts-added line number puts free told names now =
            let long = put-long (state_of h) t.sound whole p b.0 live old bag is cells number w puts in
            let new : ScriptState = record (state_of h) {
              world = w;
              bags = slice_set (state_of h).bags b.0 (Some bag);
              names = names.items;
              dates = (state_of h).dates;
            } in
            let lost = loses h t whole name a there line w free told names now long new refl refl in
            let lost_it : LosesNames (with_bag_at (state_of h) b.0 bag) new = record { names = lost.names; long = lost.long } in
            acts.leaves (acts.under name.0 t whole there) refl (cc (put))
            (put-leaves (state_of h) t.sound whole p b.0 live old bag is cells number w puts its line names.items
            (λ same. as-named h t whole name a there line w free told names now same) lost_it) (
              (valid, is-bag),
              (old, bag, w, is, subst (λ (q : ℕ). PutsNumber h.world q number old bag w) (sym place-is) puts, (refl, lost_it)),
            )

        module _ (waited : List Bool) (told : AreTold h waited) (dates : Vec ℕ) (now : AreDatedNow h w waited dates) where
          pub acts-took : (number : ℕ) → TakesNumber h.world p number old bag w →
              Does (state_of h) (At name (call.Take b g)) (reply.Value number)
              (record (with_dates h dates) { world = w; lists = record h.lists { bags = record { entries = bags } } })
          acts-took number takes =
              acts.leaves (acts.under name.0 t whole there) refl (cc (put))
              (take-leaves (state_of h) t.sound whole p b.0 live old bag is cells number w takes its dates.items
              (dated-within h t waited told w dates now)) (
                (valid, is-bag),
                (old, bag, w, is, subst (λ (q : ℕ). TakesNumber h.world q number old bag w) (sym place-is) takes, refl),
              )

          pub acts-drained : (taken numbers : List ℕ) → TakesAll h.world p old bag taken w → IsPermutation taken numbers → IsNonDecreasing numbers →
              Does (state_of h) (At name (call.Drain b g)) (reply.Numbers numbers)
              (record (with_dates h dates) { world = w; lists = record h.lists { bags = record { entries = bags } } })
          acts-drained taken numbers takes shuffled up =
              acts.leaves (acts.under name.0 t whole there) refl (cc (put))
              (drain-leaves (state_of h) t.sound whole p b.0 live old bag is cells taken w takes its dates.items
              (dated-within h t waited told w dates now)) (
                (valid, is-bag),
                (up, (taken, shuffled, (old, bag, w, is, subst (λ (q : ℕ). TakesAll h.world q old bag taken w) (sym place-is) takes, refl))),
              )

    -- ---- it is closed

    module _ (waited : List Bool) (told : AreTold h waited) where
      pub acts-closed : (w : World Val) (bags : Vec (Option NumberBag)) (dates : Vec ℕ) → IsUnderGuard (state_of h) n →
          ((es : List (Entry Val)) → StandsOn h.world old es → ClosesBag holds_nothing bag_length h.world p old es w) →
          bags.items ≡ slice_set h.lists.bags.entries.items b.0 None → AreDatedNow h w waited dates →
          Does (state_of h) (At name (call.CloseBag b)) reply.Done
          (record (with_dates h dates) { world = w; lists = record h.lists { bags = record { entries = bags } } })
      acts-closed w bags dates valid did spent now =
          let was = bag-kept h t b.0 old mine in
          let closing = did was.entries was.lies in
          acts.leaves (acts.under name.0 t whole there) refl (cc (spent))
          (bag_closed-leaves (state_of h) t.sound whole p b.0 live old is was.entries was.lies w closing dates.items
          (dated-within h t waited told w dates now)) (
            (valid, is-bag),
            (
              old,
              was.entries,
              w,
              is,
              was.lies,
              subst (λ (q : ℕ). ClosesBag holds_nothing bag_length h.world q old was.entries w) (sym place-is) closing,
              refl,
            ),
          )
