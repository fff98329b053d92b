-- What a push onto a container and a pop off it mean, whether they ask for a number first or not
use Rattle.sdd_script.proofs.Words.{◌≡◌, ◌+◌, ◌<◌, ℕ, Bool, List, [], ◌∷◌, ◌++◌, Option, Some, None, map, length, slice_set, refl, sym, ap, ◌∙◌, subst, arith, Ok, Err, option_map, Vec, length-map, Refused, TooManyOwners, IsSharedBy, World, IsPlaceOf, standing_at, value_at, with_standing, IsWhole, AreLinked, Entry, first_value, left, cells_in, cell_in, index_of, GuardName, ItemName, ListName, OwnerName, PlaceName, At, Number, IsContainer, Begins, IsNumber, Acts, HasOpen, IsListName, Meets, ScriptState, in_world, opening_at, place_of, with_owner, Val, body_of, link_of, same-list, LeavesSound, starts, IsDatedWithin, list_cell, open_since, IsTied, state_of, owner_holding, AnyList, AnyOwner, Share, Environment, NamedParticipant, Does, still, invalid, popping, pushing, AddsOwner, DrainsList, HasCrowdedFirst, HasNewest, HasNumber, IsAsked, IsDrainedOf, Kept, PopsIf, PushesIf, PutsIn, PutsOn, RefusesEntry, TakesOff, TakesOut, drained-leaves, last_value, linked-left, newest_value, popped-home, popped-leaves, popped-number, popped-value, queue_drained-leaves, slots_home, taken-home, taken-number, taken-value, shared-leaves, with_dates}
use Rattle.sdd_space.specs.Shared.{Shared}
use Rattle.sdd_participants.specs.declared.standing.Standing.TheVariants as standing
use Rattle.sdd_world_model.specs.OwnerOrCell as holding
use Rattle.sdd_space.specs.Shared.{slot_of}
use Rattle.sdd_lists.specs.declared.unpopped.Unpopped.TheVariants.{Refused as RefusedBy}
use Rattle.sdd_script_text.specs.declared.name.ListName.TheVariants as list
use Rattle.sdd_script_text.specs.declared.answer.Reply.TheVariants as reply
use Rattle.sdd_script_model.specs.ScriptState.{with_item}
use Rattle.sdd_script_model.proofs.ListsApart.{left-apart, list-apart-from}
use Rattle.sdd_script_model.proofs.QueueSound.{taken-leaves}
use Rattle.sdd_script_model.proofs.QueuePushSound.{enqueued-leaves}
use Rattle.sdd_script_model.proofs.StackPushSound.{pushed-leaves}
use Rattle.sdd_interpreter.specs.declared.holding.AnyList.TheVariants as any
use Rattle.sdd_interpreter.proofs.Acts as acts
use Rattle.sdd_interpreter.proofs.ShownEntries.{begun-list, first-number}
use Rattle.sdd_script.proofs.ContainerActs.{Names, entries-of, is-list, list-begins}
use Rattle.sdd_script.proofs.QueueActs.{queue-entries}
use Rattle.sdd_script.proofs.StackActs.{AreDatedNow, AreTold, dated-within, stack-entries}
use Rattle.sdd_script.proofs.MadeItems.{shared-more}
use Rattle.sdd_core.specs.declared.tag.Tag.TheVariants.{None as no_tag}

-- ---- the lines, with a number that they ask for or without

-- the newest number that isn't deleted is m, where that is asked
abbrev pub IsNewestAsked : ScriptState → ListName → Option ℕ → Type 0
IsNewestAsked d l None = Unit {0}
IsNewestAsked d l (Some m) = HasNewest d l m

-- the number is m, where that is asked
abbrev pub IsFirstAsked : ℕ → Option ℕ → Type 0
IsFirstAsked number None = Unit {0}
IsFirstAsked number (Some m) = number ≡ m

module _ (d : ScriptState) (n : PlaceName) (l : ListName) (g : GuardName) where
  abbrev Valid : Type 0
  Valid = HasOpen d n.0 g.0 × IsListName d l

  pub push-invalid : (number : ℕ) (m : Option ℕ) → ¬ Valid → Acts d (At n (pushing l number m g)) reply.Invalid d
  push-invalid number None wrong = invalid d n (pushing l number None g) wrong
  push-invalid number (Some m) wrong = invalid d n (pushing l number (Some m) g) wrong

  pub pop-invalid : (m : Option ℕ) → ¬ Valid → Acts d (At n (popping l m g)) reply.Invalid d
  pop-invalid None wrong = invalid d n (popping l None g) wrong
  pop-invalid (Some m) wrong = invalid d n (popping l (Some m) g) wrong

  puts-meets : (number : ℕ) (m : Option ℕ) (o : OwnerName) (i : ItemName) (new : ScriptState) → Valid → IsNewestAsked d l m →
      PutsIn d (place_of d n.0) l number o i new → Meets d (At n (pushing l number m g)) (reply.Item o i) new
  puts-meets number None o i new valid asked puts = (valid, puts)
  puts-meets number (Some m) o i new valid asked puts = (valid, (asked, puts))

  refuses-meets : (number : ℕ) (m : Option ℕ) (refused : Refused) → Valid → IsNewestAsked d l m → RefusesEntry d.world refused →
      Meets d (At n (pushing l number m g)) (reply.Refused refused) d
  refuses-meets number None refused valid asked full = (valid, (full, refl))
  refuses-meets number (Some m) refused valid asked full = (valid, (asked, full, refl))

  kept-meets : (number : ℕ) (m : Option ℕ) → Valid → ¬ (IsNewestAsked d l m) → Meets d (At n (pushing l number m g)) (reply.Kept number) d
  kept-meets number None valid other = absurd (other tt)
  kept-meets number (Some m) valid other = (valid, (refl, other, refl))

  takes-meets : (number : ℕ) (m : Option ℕ) (o : OwnerName) (new : ScriptState) → Valid → IsFirstAsked number m →
      TakesOut d (place_of d n.0) l number o new → Meets d (At n (popping l m g)) (reply.Popped o number) new
  takes-meets number None o new valid asked takes = (valid, takes)
  takes-meets number (Some m) o new valid asked takes = (valid, (asked, takes))

  drains-meets : (m : Option ℕ) (new : ScriptState) → Valid → IsDrainedOf d (place_of d n.0) l new → Meets d (At n (popping l m g)) reply.Nothing new
  drains-meets None new valid drained = (valid, drained)
  drains-meets (Some m) new valid drained = (valid, drained)

  crowded-meets : (m : Option ℕ) → Valid → HasCrowdedFirst d l → Meets d (At n (popping l m g)) (reply.Refused TooManyOwners) d
  crowded-meets None valid crowded = (valid, (crowded, refl))
  crowded-meets (Some m) valid crowded = (valid, (crowded, refl))

  stays-meets : (number : ℕ) (m : Option ℕ) (o : OwnerName) (new : ScriptState) (c : ℕ) (es : List (Entry Val)) (e : Entry Val) (rest : List (Entry Val)) →
      Valid → ¬ (IsFirstAsked number m) → IsContainer d l c es → left es ≡ e ∷ rest → body_of e.value ≡ Number number →
      AddsOwner d e.slot (reply.Owner o) new → Meets d (At n (popping l m g)) (reply.KeptEntry o number) new
  stays-meets number None o new c es e rest valid other is first told adds = absurd (other tt)
  stays-meets number (Some m) o new c es e rest valid other is first told adds = (valid, (other, (c, es, e, rest, is, first, told, adds)))

-- ---- a value and its number

number-of-some : (v : Option Val) (x : Val) (m : ℕ) → v ≡ Some x → HasNumber v m → body_of x ≡ Number m
number-of-some None x m is has = absurd has
number-of-some (Some y) x m is has = let same : y ≡ x = cc in ap body_of (sym same) ∙ has

-- one that has a number is that, where that is asked, and else is not
asked-so : (v : Option Val) (x : Val) (number : ℕ) (m : Option ℕ) → v ≡ Some x → body_of x ≡ Number number → IsAsked v m → IsFirstAsked number m
asked-so v x number None is told asked = tt
asked-so v x number (Some m) is told asked = let both : Number number ≡ Number m = sym told ∙ number-of-some v x m is asked in cc

so-asked : (v : Option Val) (x : Val) (number : ℕ) (m : Option ℕ) → v ≡ Some x → body_of x ≡ Number number → IsFirstAsked number m → IsAsked v m
so-asked v x number None is told asked = tt
so-asked v x number (Some m) is told asked =
    subst (λ (o : Option Val). HasNumber o m) (sym is) (told ∙ ap (λ (i : ℕ). Number i) asked)

module _ (h : Environment) (t : IsTied h) where
  -- ---- what is asked of the newest entry

  newest-is : (l : ListName) (x : AnyList) (mine : Names h l x) (m : Option ℕ) → IsAsked (newest_value x (entries-of h t l x mine).entries) m →
      IsNewestAsked (state_of h) l m
  unfolding entries-of
  newest-is l x mine None asked = tt
  newest-is (list.Queue q) (any.Queue x) mine (Some m) asked =
      let found = queue-entries h t q.0 x.now mine in (cells_in x.now, found.0, found.1, found.2, asked)
  newest-is (list.Stack s) (any.Stack x) mine (Some m) asked =
      let found = stack-entries h t s.0 x.now mine in (cell_in x.now, found.0, found.1, asked)
  newest-is l x never (Some m) asked = absurd never

  asked-newest : (l : ListName) (x : AnyList) (mine : Names h l x) (m : Option ℕ) → IsNewestAsked (state_of h) l m →
      IsAsked (newest_value x (entries-of h t l x mine).entries) m
  unfolding entries-of
  asked-newest l x mine None newest = tt
  asked-newest (list.Queue q) (any.Queue x) mine (Some m) (cells, fs, held, at, has) =
      let found = queue-entries h t q.0 x.now mine in
      let both : Some cells.oldest ≡ Some (cells_in x.now).oldest = sym at.oldest ∙ found.2.oldest in
      let cell : cells.oldest ≡ (cells_in x.now).oldest = cc in
      let there : Begins h.world (cells_in x.now).oldest fs = subst (λ (b : ℕ). Begins h.world b fs) cell at.queue.list in
      subst (λ (gs : List (Entry Val)). HasNumber (last_value gs) m)
      (same-list h.world (cells_in x.now).oldest fs found.0 there found.2.queue.list) has
  asked-newest (list.Stack s) (any.Stack x) mine (Some m) (c, fs, at, has) =
      let found = stack-entries h t s.0 x.now mine in
      let both : Some c ≡ Some (cell_in x.now) = sym at.named ∙ found.1.named in
      let cell : c ≡ cell_in x.now = cc in
      let there : Begins h.world (cell_in x.now) fs = subst (λ (b : ℕ). Begins h.world b fs) cell at.list in
      subst (λ (gs : List (Entry Val)). HasNumber (first_value (left gs)) m) (same-list h.world (cell_in x.now) fs found.0 there found.1.list) has
  asked-newest l x never (Some m) newest = absurd never

  -- ---- what each change leaves, and that it is what the line means

  abbrev pub after_put : (k : ℕ) → World Val → List ℕ → ScriptState
  after_put k w dates = record (with_owner (in_world (with_item (state_of h) k) w) (holding.shared k h.world.home.slots)) { dates = dates }

  abbrev pub after_taken : Entry Val → World Val → List ℕ → ScriptState
  after_taken e w dates = record (with_owner (in_world (state_of h) w) (holding.shared e.slot h.world.home.slots)) { dates = dates }

  abbrev pub after_drained : World Val → List ℕ → ScriptState
  after_drained w dates = record (in_world (state_of h) w) { dates = dates }

  module _ (whole : IsWhole h.world) (p : ℕ) (live : IsPlaceOf h.world p) where
    pub record Put (l : ListName) (number k : ℕ) (w : World Val) (dates : List ℕ) : Type 0 where
      pub leaves : IsDatedWithin (state_of h) (after_put k w dates) → LeavesSound (state_of h) (after_put k w dates)
      pub means : (o : OwnerName) (i : ItemName) → i.0 ≡ length h.log.slots.items → o.0 ≡ length (state_of h).owners →
          PutsIn (state_of h) p l number o i (after_put k w dates)

    put : (l : ListName) (x : AnyList) (mine : Names h l x) (number k : ℕ) (w : World Val) (dates : List ℕ) →
        PutsOn h.world p x (entries-of h t l x mine).entries (entries-of h t l x mine).second number k w → Put l number k w dates
    unfolding entries-of
    put (list.Queue q) (any.Queue x) mine number k w dates puts =
        let found = queue-entries h t q.0 x.now mine in record {
          leaves = enqueued-leaves (state_of h) t.sound whole p live q.0 (cells_in x.now) found.0 found.1 found.2 number k w puts dates;
          means = λ o i item owner. (item, (cells_in x.now, found.0, found.1, k, w, found.2, puts, (owner, refl)));
        }
    put (list.Stack s) (any.Stack x) mine number k w dates puts =
        let found = stack-entries h t s.0 x.now mine in record {
          leaves = pushed-leaves (state_of h) t.sound whole p (cell_in x.now) live s.0 found.0 found.1 number k w puts dates;
          means = λ o i item owner. (item, (cell_in x.now, found.0, k, w, found.1, puts, (owner, refl)));
        }
    put l x never number k w dates puts = absurd never

    pub record Taken (l : ListName) (es : List (Entry Val)) (e : Entry Val) (w : World Val) : Type 0 where
      pub rest : List (Entry Val)
      pub first : left es ≡ e ∷ rest
      pub home : w.home ≡ h.world.home
      pub number : IsNumber (body_of e.value)
      pub value : value_at w e.slot ≡ Some e.value
      pub leaves : (dates : List ℕ) → IsDatedWithin (state_of h) (after_taken e w dates) → LeavesSound (state_of h) (after_taken e w dates)
      pub means : (dates : List ℕ) (m : ℕ) (o : OwnerName) → body_of e.value ≡ Number m → o.0 ≡ length (state_of h).owners →
          TakesOut (state_of h) p l m o (after_taken e w dates)

    taken : (l : ListName) (x : AnyList) (mine : Names h l x) (e : Entry Val) (w : World Val) →
        TakesOff h.world p x (entries-of h t l x mine).entries (entries-of h t l x mine).second e w → Taken l (entries-of h t l x mine).entries e w
    unfolding entries-of
    taken (list.Queue q) (any.Queue x) mine e w takes =
        let found = queue-entries h t q.0 x.now mine in record {
          rest = takes.rest;
          first = takes.first;
          home = taken-home (state_of h) t.sound whole p live q.0 (cells_in x.now) found.0 found.1 found.2 e w takes;
          number = taken-number (state_of h) t.sound whole p live q.0 (cells_in x.now) found.0 found.1 found.2 e w takes;
          value = taken-value (state_of h) t.sound whole p live q.0 (cells_in x.now) found.0 found.1 found.2 e w takes;
          leaves = taken-leaves (state_of h) t.sound whole p live q.0 (cells_in x.now) found.0 found.1 found.2 e w takes;
          means = λ dates m o told owner. (cells_in x.now, found.0, found.1, e, w, found.2, told, takes, (owner, refl));
        }
    taken (list.Stack s) (any.Stack x) mine e w takes =
        let found = stack-entries h t s.0 x.now mine in record {
          rest = takes.rest;
          first = takes.first;
          home = popped-home (state_of h) t.sound whole p (cell_in x.now) live s.0 found.0 found.1 e w takes;
          number = popped-number (state_of h) t.sound whole p (cell_in x.now) live s.0 found.0 found.1 e w takes;
          value = popped-value (state_of h) t.sound whole p (cell_in x.now) live s.0 found.0 found.1 e w takes;
          leaves = popped-leaves (state_of h) t.sound whole p (cell_in x.now) live s.0 found.0 found.1 e w takes;
          means = λ dates m o told owner. (cell_in x.now, found.0, e, w, found.1, told, takes, (owner, refl));
        }
    taken l x never e w takes = absurd never

    pub record Drained (l : ListName) (w : World Val) (dates : List ℕ) : Type 0 where
      pub leaves : IsDatedWithin (state_of h) (after_drained w dates) → LeavesSound (state_of h) (after_drained w dates)
      pub means : IsDrainedOf (state_of h) p l (after_drained w dates)

    drained : (l : ListName) (x : AnyList) (mine : Names h l x) (w : World Val) (dates : List ℕ) →
        DrainsList h.world p x (entries-of h t l x mine).entries (entries-of h t l x mine).second w → Drained l w dates
    unfolding entries-of
    drained (list.Queue q) (any.Queue x) mine w dates drains =
        let found = queue-entries h t q.0 x.now mine in record {
          leaves = queue_drained-leaves (state_of h) t.sound whole p live q.0 (cells_in x.now) found.0 found.1 found.2 w drains dates;
          means = (cells_in x.now, found.0, found.1, w, found.2, drains, refl);
        }
    drained (list.Stack s) (any.Stack x) mine w dates drains =
        let found = stack-entries h t s.0 x.now mine in record {
          leaves = drained-leaves (state_of h) t.sound whole p (cell_in x.now) live s.0 found.0 found.1 w drains dates;
          means = (cell_in x.now, found.0, w, found.1, drains, refl);
        }
    drained l x never w dates drains = absurd never

  -- ---- what is left in hand

  module _ (whole : IsWhole h.world) (name : PlaceName) (a : NamedParticipant) (there : open_since (Some a) ≡ opening_at (state_of h).places name.0)
      (g : GuardName) (valid : HasOpen (state_of h) name.0 g.0) (l : ListName) (x : AnyList) (mine : Names h l x) (m : Option ℕ) where
    abbrev p : ℕ
    p = index_of a.place

    live : IsPlaceOf h.world p
    live = acts.sits (acts.under name.0 t whole there)

    place-is : place_of (state_of h) name.0 ≡ p
    place-is = acts.place-is (acts.under name.0 t whole there)

    named-next : (o : OwnerName) → o.0 ≡ length h.owners.entries.items → o.0 ≡ length (state_of h).owners
    named-next o is = is ∙ sym (length-map h.owners.entries.items (option_map owner_holding))

    abbrev es : List (Entry Val)
    es = (entries-of h t l x mine).entries

    abbrev second : Option ℕ
    second = (entries-of h t l x mine).second

    both-valid : HasOpen (state_of h) name.0 g.0 × IsListName (state_of h) l
    both-valid = (valid, is-list h t l x mine)

    -- one owner more has a name
    one-named : (owner : Shared Val) (owners : Vec (Option AnyOwner)) → slots_home owner ≡ h.world.home.slots →
        owners.items ≡ h.owners.entries.items ++ Some (Share owner) ∷ [] →
        map (option_map owner_holding) owners.items ≡ (state_of h).owners ++ Some (holding.shared (slot_of owner) h.world.home.slots) ∷ []
    one-named owner owners at pushed = shared-more h.owners.entries.items owners.items owner (slot_of owner) h.world.home.slots pushed refl at

    -- ---- a push
    module _ (number : ℕ) (w : World Val) where
      pub acts-push_refused : (refused : Refused) → PushesIf h.world.home.slots h.world p x es second number m (Err (Some refused)) w →
          Acts (state_of h) (At name (pushing l number m g)) (reply.Refused refused) (state_of h) × (w ≡ h.world)
      acts-push_refused refused did = (
        still (state_of h) (At name (pushing l number m g)) (reply.Refused refused)
            (refuses-meets (state_of h) name l g number m refused both-valid (newest-is l x mine m did.0) did.1.0),
        did.1.1,
      )

      pub acts-push_kept : PushesIf h.world.home.slots h.world p x es second number m (Err None) w →
          Acts (state_of h) (At name (pushing l number m g)) (reply.Kept number) (state_of h) × (w ≡ h.world)
      acts-push_kept did = (
        still (state_of h) (At name (pushing l number m g)) (reply.Kept number)
            (kept-meets (state_of h) name l g number m both-valid (λ newest. did.0 (asked-newest l x mine m newest))),
        did.1,
      )

      module _ (owner : Shared Val) (did : PushesIf h.world.home.slots h.world p x es second number m (Ok owner) w) where
        -- its slot was free
        pub slot-free : slot_of owner < length h.log.names.items
        slot-free = omega (arith, free-slot x did.1.1, t.sound.stocked.names) where
          free-slot : (y : AnyList) → PutsOn h.world p y es second number (slot_of owner) w → slot_of owner < length h.world.standings
          free-slot (any.Queue y) puts = puts.pushed.free.0
          free-slot (any.Stack y) puts = puts.pushed.free.0

        pub acts-pushed : (waited : List Bool) → AreTold h waited → (owners : Vec (Option AnyOwner)) (slots : Vec ℕ) (names : Vec (Option ℕ))
            (dates : Vec ℕ) (o : OwnerName) (i : ItemName) →
            owners.items ≡ h.owners.entries.items ++ Some (Share owner) ∷ [] → slots.items ≡ h.log.slots.items ++ slot_of owner ∷ [] →
            names.items ≡ slice_set h.log.names.items (slot_of owner) (Some (length h.log.slots.items)) → AreDatedNow h w waited dates →
            o.0 ≡ length h.owners.entries.items → i.0 ≡ length h.log.slots.items →
            Does (state_of h) (At name (pushing l number m g)) (reply.Item o i)
            (record h { world = w; owners = record { entries = owners }; log = record h.log { slots = slots; names = names; dates = dates } })
        acts-pushed waited told owners slots names dates o i pushed longer written now owner_name item_name =
            let k = slot_of owner in
            let its = put whole p live l x mine number k w dates.items did.1.1 in
            let more = one-named owner owners did.1.0 pushed in
            acts.leaves (acts.under name.0 t whole there) refl (cc (more, longer, written))
            (its.leaves (dated-within h t waited told w dates now))
            (puts-meets (state_of h) name l g number m o i (after_put k w dates.items) both-valid (newest-is l x mine m did.0)
            (subst (λ (q : ℕ). PutsIn (state_of h) q l number o i (after_put k w dates.items)) (sym place-is)
            (its.means o i item_name (named-next o owner_name))))

    -- ---- a pop
    module _ (w : World Val) where
      pub acts-pop_refused : (refused : Refused) → PopsIf h.world.home.slots h.world p x es second m (Err (RefusedBy refused)) w →
          Acts (state_of h) (At name (popping l m g)) (reply.Refused refused) (state_of h) × (w ≡ h.world)
      acts-pop_refused refused did = (
        subst (λ e. Acts (state_of h) (At name (popping l m g)) (reply.Refused e) (state_of h)) (sym did.1)
            (still (state_of h) (At name (popping l m g)) (reply.Refused TooManyOwners)
            (crowded-meets (state_of h) name l g m both-valid (list_cell x, es, (entries-of h t l x mine).is, did.0))),
        did.2,
      )

      -- none is left: room was made for a name
      pub acts-drained : PopsIf h.world.home.slots h.world p x es second m (Ok None) w → (waited : List Bool) → AreTold h waited →
          (owners : Vec (Option AnyOwner)) (dates : Vec ℕ) → owners.items ≡ h.owners.entries.items → AreDatedNow h w waited dates →
          Does (state_of h) (At name (popping l m g)) reply.Nothing (record (with_dates h dates) { world = w; owners = record { entries = owners } })
      acts-drained did waited told owners dates kept now =
          let its = drained whole p live l x mine w dates.items did in
          let same : map (option_map owner_holding) owners.items ≡ (state_of h).owners = ap (map (option_map owner_holding)) kept in
          acts.leaves (acts.under name.0 t whole there) refl (cc (same)) (its.leaves (dated-within h t waited told w dates now))
          (drains-meets (state_of h) name l g m (after_drained w dates.items) both-valid
          (subst (λ (q : ℕ). IsDrainedOf (state_of h) q l (after_drained w dates.items)) (sym place-is) its.means))

      -- one is taken out
      module _ (owner : Shared Val) (did : PopsIf h.world.home.slots h.world p x es second m (Ok (Some owner)) w) where
        abbrev e : Entry Val
        e = did.1.1.0

        its : Taken whole p live l es e w
        its = taken whole p live l x mine e w did.1.1.2

        value : value_at w (slot_of owner) ≡ Some e.value
        value = ap (λ (i : ℕ). value_at w i) did.1.1.1 ∙ its.value

        pub popped-home_slots : slots_home owner ≡ w.home.slots
        popped-home_slots = did.1.0 ∙ ap (λ (y : holding.SpaceId). y.slots) (sym its.home)

        pub popped-counts : (v : Val) → value_at w (slot_of owner) ≡ Some v → IsNumber (body_of v)
        popped-counts v at =
            let same : Some e.value ≡ Some v = sym value ∙ at in
            let one : e.value ≡ v = cc in subst (λ (y : Val). IsNumber (body_of y)) one its.number

        pub acts-popped : (waited : List Bool) → AreTold h waited → (number : ℕ) (owners : Vec (Option AnyOwner)) (dates : Vec ℕ) (o : OwnerName) →
            HasNumber (value_at w (slot_of owner)) number → owners.items ≡ h.owners.entries.items ++ Some (Share owner) ∷ [] →
            AreDatedNow h w waited dates → o.0 ≡ length h.owners.entries.items →
            Does (state_of h) (At name (popping l m g)) (reply.Popped o number)
            (record (with_dates h dates) { world = w; owners = record { entries = owners } })
        acts-popped waited told number owners dates o has pushed now owner_name =
            let is = number-of-some (value_at w (slot_of owner)) e.value number value has in
            let more = one-named owner owners did.1.0 pushed
            ∙ ap (λ (i : ℕ). (state_of h).owners ++ Some (holding.shared i h.world.home.slots) ∷ []) did.1.1.1 in
            acts.leaves (acts.under name.0 t whole there) refl (cc (more))
            (its.leaves dates.items (dated-within h t waited told w dates now))
            (takes-meets (state_of h) name l g number m o (after_taken e w dates.items) both-valid
            (asked-so (first_value (left es)) e.value number m (ap first_value its.first) is did.0)
            (subst (λ (q : ℕ). TakesOut (state_of h) q l number o (after_taken e w dates.items)) (sym place-is)
            (its.means dates.items number o is (named-next o owner_name))))

      -- the first entry stays, and there is one owner more of it
      module _ (owner : Shared Val) (did : PopsIf h.world.home.slots h.world p x es second m (Err (Kept owner)) w) where
        abbrev kept : Entry Val
        kept = did.2.0

        abbrev rest : List (Entry Val)
        rest = did.2.1

        abbrev first : left es ≡ kept ∷ rest
        first = did.2.2

        abbrev slot : slot_of owner ≡ kept.slot
        slot = did.2.3

        abbrev count : ℕ
        count = did.2.4.0

        world : w ≡ with_standing h.world (slot_of owner) (standing.Shared (count + 1))
        world = did.2.4.3 ∙ ap (λ (k : ℕ). with_standing h.world k (standing.Shared (count + 1))) (sym slot)

        kept-value : value_at w (slot_of owner) ≡ Some kept.value
        kept-value =
            let list = begun-list h.world x es second (entries-of h t l x mine).has in
            let linked = subst (λ (gs : List (Entry Val)). AreLinked link_of h.world gs) first (linked-left link_of h.world es list.linked) in
            ap (λ (u : World Val). value_at u (slot_of owner)) world ∙ ap (λ (k : ℕ). value_at h.world k) slot ∙ linked.0.there

        pub kept-home : slots_home owner ≡ w.home.slots
        kept-home = did.1 ∙ ap (λ (u : World Val). u.home.slots) (sym world)

        pub kept-number : (v : Val) → value_at w (slot_of owner) ≡ Some v → IsNumber (body_of v)
        kept-number v at =
            let same : Some kept.value ≡ Some v = sym kept-value ∙ at in
            first-number es v (entries-of h t l x mine).numbers (ap first_value first ∙ same)

        pub acts-pop_kept : (number : ℕ) (owners : Vec (Option AnyOwner)) (o : OwnerName) → HasNumber (value_at w (slot_of owner)) number →
            owners.items ≡ h.owners.entries.items ++ Some (Share owner) ∷ [] → o.0 ≡ length h.owners.entries.items →
            Does (state_of h) (At name (popping l m g)) (reply.KeptEntry o number) (record h { world = w; owners = record { entries = owners } })
        acts-pop_kept number owners o has pushed owner_name =
            let told = number-of-some (value_at w (slot_of owner)) kept.value number kept-value has in
            let stands : IsSharedBy count (standing_at h.world (slot_of owner)) =
            subst (λ (k : ℕ). IsSharedBy count (standing_at h.world k)) (sym slot) did.2.4.1 in
            let now = with_owner (in_world (state_of h) (with_standing h.world (slot_of owner) (standing.Shared (count + 1))))
            (holding.shared (slot_of owner) h.world.home.slots) in
            let start = starts (state_of h) t.sound whole in
            let list = begun-list h.world x es second (entries-of h t l x mine).has in
            let off = left-apart start (list_cell x) (slot_of owner) no_tag es (list-apart-from start (list_cell x) (list-begins h t l x mine)) list kept rest
            first
            (sym slot) in
            acts.leaves (acts.under name.0 t whole there) refl (cc (world, one-named owner owners did.1 pushed))
            (shared-leaves (state_of h) t.sound whole p (slot_of owner) count (acts.sits (acts.under name.0 t whole there)) stands off)
            (stays-meets (state_of h) name l g number m o now (list_cell x) es kept rest both-valid
            (λ same. did.0 (so-asked (first_value (left es)) kept.value number m (ap first_value first) told same))
            (entries-of h t l x mine).is first told
            (subst (λ (k : ℕ). AddsOwner (state_of h) k (reply.Owner o) now) slot (count, stands, did.2.4.2, (named-next o owner_name, refl))))
