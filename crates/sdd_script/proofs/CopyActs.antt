-- What a copy of a queue or a stack leaves in hand, refused or not: it is sound, and it is what the call means
use Rattle.sdd_script.proofs.Words.{◌≡◌, ◌<◌, ◌≤◌, inl, inr, ℕ, Bool, true, false, List, [], ◌∷◌, ◌++◌, Option, Some, None, is_some, map, length, slice_index, slice_index_or, if◌then◌else◌, refl, sym, ap, ◌∙◌, subst, arith, Err, Ok, option_map, Vec, get_or_past, length-map, Refused, is_waiting, reader_at, ReaderId, World, IsPlaceOf, standing_at, IsWhole, Entry, IsQueue, cells_in, queue_closed, cell_in, shown_of, index_of, GuardName, PlaceName, At, Body, LosesNames, entry_slots, AreNumbers, Begins, BeginsLine, ScriptState, opening_at, place_of, HasOpen, stack_closed, Val, link_of, newest_holding, oldest_holding, stack_holding, NamedParticipant, open_since, Environment, IsTied, state_of, Does, does, goes, still, both-long, queues-more, stacks-more, ArePlain, MakesQueueOf, MakesStackOf, cases_lt, ext_get_or, names_from, not, ◌&&◌, AnyList, Call, HasEntries, IsListOf, LeavesSound, ListName, StandsFor, list_cell, IsOfNumbers}
use Rattle.sdd_world_model.specs.OwnerOrCell as holding
use Rattle.sdd_rights.specs.Units as units
use Rattle.sdd_script_text.specs.declared.name.ListName.TheVariants as list
use Rattle.sdd_script_text.specs.Actions as call
use Rattle.sdd_script_text.specs.declared.answer.Reply.TheVariants as reply
use Rattle.sdd_script_model.specs.Script.{Meets}
use Rattle.sdd_script_model.proofs.CopySound.{first-numbers, queue-copied, queue-few, queue-holds, queue-inside, queue-long, queue-placed, queue-plain, queue-refused, shown-numbers, stack-copied, stack-few, stack-holds, stack-inside, stack-long, stack-placed, stack-plain, stack-refused}
use Rattle.sdd_script_model.proofs.FillSound.{AreAllNumbers}
use Rattle.sdd_interpreter.proofs.Acts as acts
use Rattle.sdd_interpreter.specs.declared.containers.Lists.{Lists}
use Rattle.sdd_interpreter.specs.declared.holding.AnyList.TheVariants as any
use Rattle.sdd_interpreter.specs.declared.log.Log.{Log}
use Rattle.sdd_script.specs.ListCopies.{HasRoomFor, HasSameLists, IsCopied, IsCopyOf, IsGivenName, IsListIn, named_so, next_name}
use Rattle.sdd_script.specs.declared.acts.copies.ListCopy.{ListCopy}
use Rattle.sdd_script.specs.declared.acts.copies.ListCopy.TheVariants as copy
use Rattle.sdd_script.proofs.ContainerActs.{Holds, Names, entries-of, list-home, of-numbers}
use Rattle.sdd_script.proofs.QueueActs.{is-queue}
use Rattle.sdd_script.proofs.StackActs.{AreDatedNow, AreDatedSo, AreTold, dated-within, is-stack}

-- ---- what a copy is

-- the values are in a list of the same kind, which p made of these entries
abbrev pub MakesListOf : World Val → (p : ℕ) → AnyList → List Body → ListCopy → List (Entry Val) → Option ℕ → World Val → Type 0
MakesListOf w p (any.Queue x) values (copy.Queue y) fs held new = MakesQueueOf w p values (cells_in y) fs held new
MakesListOf w p (any.Stack x) values (copy.Stack y) fs held new = MakesStackOf w p values (cell_in y) fs new
MakesListOf w p x values y fs held new = ⊥

-- it has these entries, and the second cell of a queue holds this
abbrev pub HasCopied : World Val → ListCopy → List (Entry Val) → Option ℕ → Type 0
HasCopied w (copy.Queue y) fs held = IsQueue link_of w (cells_in y) fs held
HasCopied w (copy.Stack y) fs held = Begins w (cell_in y) fs

has-entries : (w : World Val) (y : ListCopy) (x : AnyList) (fs : List (Entry Val)) (held : Option ℕ) → IsListIn y x → HasCopied w y fs held →
    HasEntries w x fs held
has-entries w (copy.Queue y) (any.Queue x) fs held same has = rw same has
has-entries w (copy.Stack y) (any.Stack x) fs held same has = rw same has
has-entries w y x fs held never has = absurd never

pub copy-home : (home : units.GhostName) (y : ListCopy) (x : AnyList) → IsListIn y x → IsCopyOf home y → IsListOf home x
copy-home home (copy.Queue y) (any.Queue x) same own = rw same own
copy-home home (copy.Stack y) (any.Stack x) same own = rw same own
copy-home home y x never own = absurd never

-- ---- names that stand for the same

given-since : (first old new : Lists) (y : ListCopy) → HasSameLists first old → IsGivenName old y new → IsGivenName first y new
given-since first old new (copy.Queue y) same (queues, stacks, bags) =
    (queues ∙ ap (λ z. z ++ Some y ∷ []) same.queues, stacks ∙ same.stacks, bags ∙ same.bags)
given-since first old new (copy.Stack y) same (queues, stacks, bags) =
    (queues ∙ same.queues, stacks ∙ ap (λ z. z ++ Some y ∷ []) same.stacks, bags ∙ same.bags)

next-since : (first old : Lists) (y : ListCopy) → HasSameLists first old → named_so (next_name old y) ≡ named_so (next_name first y)
next-since first old (copy.Queue y) same = ap (λ z. reply.Queue (record { 0 = length z })) same.queues
next-since first old (copy.Stack y) same = ap (λ z. reply.Stack (record { 0 = length z })) same.stacks

-- the room is for names of a copy's kind
room-for : (h : Environment) (p : ℕ) (l : ListName) (x : AnyList) → Names h l x → (es : List (Entry Val)) (y : ListCopy) (w : World Val) →
    IsCopied p h.world x es (Ok y) w → (lists : Lists) → HasRoomFor l lists → HasRoomFor (next_name lists y) lists
room-for h p (list.Queue q) (any.Queue x) mine es (copy.Queue y) w copied lists room = room
room-for h p (list.Stack s) (any.Stack x) mine es (copy.Stack y) w copied lists room = room
room-for h p (list.Queue q) (any.Queue x) mine es (copy.Stack y) w never lists room = absurd never
room-for h p (list.Stack s) (any.Stack x) mine es (copy.Queue y) w never lists room = absurd never
room-for h p l x never es y w copied lists room = absurd never

-- ---- slots

-- of each slot it was told whether it was free
abbrev pub AreFreeSo : Environment → List Bool → Type 0
AreFreeSo h free = (s : ℕ) → s < length h.log.names.items → slice_index_or free s false ≡ not (is_some (standing_at h.world s))

-- and by that what is in one that was has no name
abbrev pub AreForgotten : Environment → World Val → List Bool → Vec (Option ℕ) → Type 0
AreForgotten h w free names =
    ((s : ℕ) → s < length h.log.names.items → slice_index_or names.items s None
    ≡ (if is_some (standing_at w s) && slice_index_or free s false then None else slice_index_or h.log.names.items s None))
    × (length names.items ≡ length h.log.names.items)

past-end : {X : Type 0} (xs : List X) (k : ℕ) (x : X) → length xs ≤ k → slice_index_or xs k x ≡ x
past-end xs k x past = get_or_past xs k x past

-- where the world is as before, so are the dates
module _ (h : Environment) (t : IsTied h) where
  either : (b : Bool) (x y : ℕ) → (if b then (if b then x else y) else x) ≡ x
  either true x y = refl
  either false x y = refl

  pub as-dated : (w : World Val) (dates : Vec ℕ) → AreDatedSo h w dates → w ≡ h.world → dates.items ≡ h.log.dates.items
  as-dated w dates now same =
      ext_get_or 0 dates.items h.log.dates.items now.1 (λ s lt.
      now.0 s (omega (arith, lt, now.1))
      ∙ ap (λ (u : World Val). if is_waiting (standing_at u s) then
      (if is_waiting (standing_at h.world s) then slice_index h.log.dates.items s else h.log.moment)
      else slice_index h.log.dates.items s) same
      ∙ either (is_waiting (standing_at h.world s)) (slice_index h.log.dates.items s) h.log.moment)

module _ (h : Environment) (t : IsTied h) (whole : IsWhole h.world) (name : PlaceName) (a : NamedParticipant)
    (there : open_since (Some a) ≡ opening_at (state_of h).places name.0) (line : BeginsLine (state_of h)) where
  abbrev d : ScriptState
  d = state_of h

  abbrev n : ℕ
  n = name.0

  abbrev p : ℕ
  p = index_of a.place

  live : IsPlaceOf h.world p
  live = acts.sits (acts.under name.0 t whole there)

  place-is : place_of (state_of h) n ≡ p
  place-is = acts.place-is (acts.under name.0 t whole there)

  -- what was told of the slots says which items lose their names
  pub loses : (w : World Val) (free : List Bool) → AreFreeSo h free → (names : Vec (Option ℕ)) → AreForgotten h w free names →
      length w.standings ≡ length h.world.standings → (new : ScriptState) → new.names ≡ names.items → new.world ≡ w → LosesNames d new
  loses w free told names now long new names_are world = record {
    names = λ s. elim (cases_lt s (length h.log.names.items)) [
      | inl lt ↦
          rw (names_are, world) (now.0 s lt
          ∙ ap (λ (b : Bool). if is_some (standing_at w s) && b then None else slice_index_or h.log.names.items s None) (told s lt))
      | inr past ↦
          (let nothing : standing_at w s ≡ None = past-end w.standings s None (omega (arith, past, long, t.sound.stocked.names)) in
          let none : slice_index_or names.items s None ≡ None = past-end names.items s None (omega (arith, past, now.1)) in
          rw (names_are, world, nothing) (none ∙ sym (past-end h.log.names.items s None past)))
    ];
    long = ap length names_are ∙ now.1;
  }

  -- a copy was refused, and of what was built the items have no names, and are dated if they wait
  pub record Undone (w : World Val) (lists : Lists) (log : Log) : Type 0 where
    pub same : HasSameLists h.lists lists
    pub room : Vec ℕ
    pub rest : log ≡ record h.log { slots = room; names = log.names; dates = log.dates }
    pub slots : room.items ≡ h.log.slots.items
    pub free : List Bool
    pub waited : List Bool
    pub free_so : AreFreeSo h free
    pub told : AreTold h waited
    pub names : AreForgotten h w free log.names
    pub dates : AreDatedNow h w waited log.dates

  pub undone : (w : World Val) (lists : Lists) (before log : Log) (free waited : List Bool) → HasSameLists h.lists lists →
      before ≡ record h.log { slots = before.slots } → before.slots.items ≡ h.log.slots.items → AreFreeSo h free → AreTold h waited →
      log ≡ record before { names = log.names; dates = log.dates } → AreForgotten (record h { log = before }) w free log.names →
      AreDatedNow (record h { log = before }) w waited log.dates → Undone w lists log
  undone w lists before log free waited same kept slots free_so told rest names dates = record {
    same = same;
    room = before.slots;
    rest = rest ∙ ap (λ (x : Log). record x { names = log.names; dates = log.dates }) kept;
    slots = slots;
    free = free;
    waited = waited;
    free_so = free_so;
    told = told;
    names = subst (λ (x : Log). AreForgotten (record h { log = x }) w free log.names) kept names;
    dates = subst (λ (x : Log). AreDatedNow (record h { log = x }) w waited log.dates) kept dates;
  }

  -- then the state is as before, but for the world, the names and the dates
  as-refused : (w v : World Val) (lists : Lists) (log : Log) → Undone w lists log → w ≡ v →
      state_of (record h { world = w; lists = lists; log = log }) ≡ record d { world = v; names = log.names.items; dates = log.dates.items }
  as-refused w v lists log u world =
      let queues : map (option_map oldest_holding) lists.queues.entries.items ≡ d.queues = ap (map (option_map oldest_holding)) u.same.queues in
      let newest : map (option_map newest_holding) lists.queues.entries.items ≡ d.newest = ap (map (option_map newest_holding)) u.same.queues in
      let stacks : map (option_map stack_holding) lists.stacks.entries.items ≡ d.stacks = ap (map (option_map stack_holding)) u.same.stacks in
      ap (λ (x : Log). state_of (record h { world = w; lists = lists; log = x })) u.rest ∙ cc (queues, newest, stacks, u.same.bags, u.slots, world)

  -- and where these are as before too, all is
  as-before : (names : List (Option ℕ)) (dates : List ℕ) → names ≡ d.names → dates ≡ d.dates →
      record d { world = d.world; names = names; dates = dates } ≡ state_of h
  as-before names dates same_names same_dates =
      ap (λ (x : List (Option ℕ)). record d { names = x; dates = dates }) same_names ∙ ap (λ (x : List ℕ). record d { dates = x }) same_dates

  neither : (b : Bool) (x : Option ℕ) → (if b && not b then None else x) ≡ x
  neither true x = refl
  neither false x = refl

  -- where the world is as before, so are the names and the dates
  pub as-named : (w : World Val) (free : List Bool) → AreFreeSo h free → (names : Vec (Option ℕ)) → AreForgotten h w free names → w ≡ h.world →
      names.items ≡ h.log.names.items
  as-named w free told names now same =
      ext_get_or None names.items h.log.names.items now.1 (λ s lt.
      (let lt : s < length h.log.names.items = omega (arith, lt, now.1) in
      now.0 s lt
      ∙ ap (λ (b : Bool). if is_some (standing_at w s) && b then None else slice_index_or h.log.names.items s None)
      (told s lt ∙ ap (λ (u : World Val). not (is_some (standing_at u s))) (sym same))
      ∙ neither (is_some (standing_at w s)) (slice_index_or h.log.names.items s None)))

  -- ---- a list is copied

  -- what a copy has, and what it leaves as it was
  pub record Filled (x : AnyList) (values : List Body) (y : ListCopy) (w : World Val) : Type 0 where
    pub entries : List (Entry Val)
    pub second : Option ℕ
    pub makes : MakesListOf h.world p x values y entries second w
    pub has : HasCopied w y entries second
    pub plain : ArePlain entries
    pub few : length entries ≤ length h.log.names.items
    pub inside : (k i : ℕ) → k < length (entry_slots entries) → slice_index_or (entry_slots entries) k i < length h.log.names.items
    pub placed : IsPlaceOf w p
    pub home : w.home ≡ h.world.home
    pub reader : reader_at w p ≡ reader_at h.world p

  as-filled : (x : AnyList) (values : List Body) (y : ListCopy) (w : World Val) (fs : List (Entry Val)) (held : Option ℕ) →
      MakesListOf h.world p x values y fs held w → HasCopied w y fs held → ArePlain fs → length fs ≤ length h.world.standings →
      ((k i : ℕ) → k < length (entry_slots fs) → slice_index_or (entry_slots fs) k i < length h.world.standings) → IsPlaceOf w p →
      w.home ≡ h.world.home → Filled x values y w
  as-filled x values y w fs held makes has plain few inside placed home = record {
    entries = fs;
    second = held;
    makes = makes;
    has = has;
    plain = plain;
    few = omega (arith, few, t.sound.stocked.names);
    inside = λ k i lt. omega (arith, inside k i lt, t.sound.stocked.names);
    placed = placed;
    home = home;
    reader = ap (λ z. let id : ReaderId = record { home = z.readers; number = p } in id) home;
  }

  filled : (x : AnyList) (es : List (Entry Val)) → AreNumbers es → (y : ListCopy) (w : World Val) → IsCopied p h.world x es (Ok y) w →
      Filled x (shown_of es) y w
  filled (any.Queue x) es numbers (copy.Queue y) w (fs, held, makes) =
      let c = cells_in y in
      let all = shown-numbers es numbers in
      as-filled (any.Queue x) (shown_of es) (copy.Queue y) w fs held makes
      (queue-holds d t.sound whole p live (shown_of es) all c fs held w makes (both-long h))
      (queue-plain d t.sound whole p live (shown_of es) all c fs held w makes (both-long h))
      (queue-few d t.sound whole p live (shown_of es) all c fs held w makes (both-long h))
      (queue-inside d t.sound whole p live (shown_of es) all c fs held w makes (both-long h))
      (queue-placed d t.sound whole p live (shown_of es) all c fs held w makes (both-long h))
      (queue-copied d t.sound whole p live (shown_of es) all c fs held w makes (both-long h)).home
  filled (any.Stack x) es numbers (copy.Stack y) w (fs, makes) =
      let c : ℕ = cell_in y in
      let all = shown-numbers es numbers in
      as-filled (any.Stack x) (shown_of es) (copy.Stack y) w fs None makes (stack-holds d t.sound whole p live (shown_of es) all c fs w makes)
      (stack-plain d t.sound whole p live (shown_of es) all c fs w makes) (stack-few d t.sound whole p live (shown_of es) all c fs w makes)
      (stack-inside d t.sound whole p live (shown_of es) all c fs w makes) (stack-placed d t.sound whole p live (shown_of es) all c fs w makes)
      (stack-copied d t.sound whole p live (shown_of es) all c fs w makes).home
  filled x es numbers y w never = absurd never

  -- the log is as before, but for slots and names
  as-logged : (w : World Val) (lists : Lists) (log : Log) → log ≡ record h.log { slots = log.slots; names = log.names } →
      state_of (record h { world = w; lists = lists; log = log })
      ≡ state_of (record h { world = w; lists = lists; log = record h.log { slots = log.slots; names = log.names } })
  as-logged w lists log rest = ap (λ (x : Log). state_of (record h { world = w; lists = lists; log = x })) rest

  acts-list_copied : (l : ListName) (x : AnyList) → Names h l x → (its : Holds h t l x) (g : GuardName) → HasOpen d n g.0 → (y : ListCopy)
      (w last : World Val) (f : Filled x (shown_of its.entries) y w) → last ≡ w → IsCopyOf h.world.home.cells y → (lists : Lists) (log : Log) →
      IsGivenName h.lists y lists → log ≡ record h.log { slots = log.slots; names = log.names } →
      log.slots.items ≡ h.log.slots.items ++ entry_slots f.entries →
      log.names.items ≡ names_from h.log.names.items (length h.log.slots.items) (entry_slots f.entries) →
      Does (state_of h) (At name (call.CloneList l g)) (named_so (next_name h.lists y)) (record h { world = last; lists = lists; log = log })
  acts-list_copied (list.Queue q) (any.Queue x) mine its g valid (copy.Queue y) w last f world home lists log given rest longer written =
      let c = cells_in y in
      let more = queues-more h lists.queues.entries y given.0 in
      let oldest : map (option_map oldest_holding) lists.queues.entries.items ≡ d.queues ++ Some (holding.atomic_shared c.oldest h.world.home.cells) ∷ [] =
      more.0 ∙ ap (λ z. d.queues ++ Some (holding.atomic_shared c.oldest z) ∷ []) home.oldest in
      let newest : map (option_map newest_holding) lists.queues.entries.items ≡ d.newest ++ Some (holding.atomic_shared c.newest h.world.home.cells) ∷ [] =
      more.1 ∙ ap (λ z. d.newest ++ Some (holding.atomic_shared c.newest z) ∷ []) home.newest in
      let stacks : map (option_map stack_holding) lists.stacks.entries.items ≡ d.stacks = ap (map (option_map stack_holding)) given.1 in
      let all = shown-numbers its.entries its.numbers in
      let makes_so = subst (λ (i : ℕ). MakesQueueOf h.world i (shown_of its.entries) c f.entries f.second w) (sym place-is) f.makes in
      acts.leaves (acts.under name.0 t whole there) refl
      (as-logged last lists log rest ∙ cc (world, oldest, newest, stacks, given.2, longer, written))
      (queue-copied d t.sound whole p live (shown_of its.entries) all c f.entries f.second w f.makes (both-long h)) (
        (valid, is-queue h q.0 x.now mine),
        (
          sym (length-map h.lists.queues.entries.items (option_map oldest_holding)),
          (its.is.0, its.entries, its.is.1, c, f.entries, f.second, w, its.is.2, makes_so, refl),
        ),
      )
  acts-list_copied (list.Stack s) (any.Stack x) mine its g valid (copy.Stack y) w last f world home lists log given rest longer written =
      let c : ℕ = cell_in y in
      let more : map (option_map stack_holding) lists.stacks.entries.items ≡ d.stacks ++ Some (holding.atomic_shared c h.world.home.cells) ∷ [] =
      stacks-more h lists.stacks.entries y given.1 ∙ ap (λ z. d.stacks ++ Some (holding.atomic_shared c z) ∷ []) home in
      let queues : map (option_map oldest_holding) lists.queues.entries.items ≡ d.queues = ap (map (option_map oldest_holding)) given.0 in
      let newest : map (option_map newest_holding) lists.queues.entries.items ≡ d.newest = ap (map (option_map newest_holding)) given.0 in
      let all = shown-numbers its.entries its.numbers in
      let makes_so = subst (λ (i : ℕ). MakesStackOf h.world i (shown_of its.entries) c f.entries w) (sym place-is) f.makes in
      acts.leaves (acts.under name.0 t whole there) refl (as-logged last lists log rest ∙ cc (world, more, queues, newest, given.2, longer, written))
      (stack-copied d t.sound whole p live (shown_of its.entries) all c f.entries w f.makes) (
        (valid, is-stack h s.0 x.now mine),
        (
          sym (length-map h.lists.stacks.entries.items (option_map stack_holding)),
          (list_cell (any.Stack x), its.entries, c, f.entries, w, its.is, makes_so, refl),
        ),
      )
  acts-list_copied (list.Queue q) (any.Queue x) mine its g valid (copy.Stack y) w last f world home lists log given rest longer written = absurd f.makes
  acts-list_copied (list.Stack s) (any.Stack x) mine its g valid (copy.Queue y) w last f world home lists log given rest longer written = absurd f.makes
  acts-list_copied l x never its g valid y w last f world home lists log given rest longer written = absurd never

  -- ---- that is refused

  -- nothing was built
  not-begun : (call : Call) (why : Refused) (w : World Val) (lists : Lists) (log : Log) → Undone w lists log → w ≡ h.world →
      Meets d call (reply.Refused why) d → Does d call (reply.Refused why) (record h { world = w; lists = lists; log = log })
  not-begun call why w lists log u same meets =
      let kept_names : log.names.items ≡ h.log.names.items = as-named w u.free u.free_so log.names u.names same in
      let kept_dates : log.dates.items ≡ h.log.dates.items = as-dated h t w log.dates (dated-within h t u.waited u.told w log.dates u.dates) same in
      does d call (reply.Refused why)
      (goes (as-refused w h.world lists log u same ∙ as-before log.names.items log.dates.items kept_names kept_dates) t.sound t.guards)
      (still d call (reply.Refused why) meets)

  -- what was built was closed
  part-closed : (call : Call) (why : Refused) (w last : World Val) (lists : Lists) (log : Log) → Undone w lists log → w ≡ last →
      length last.standings ≡ length h.world.standings →
      (LosesNames d (record d { world = last; names = log.names.items; dates = log.dates.items }) → AreDatedSo h last log.dates →
      LeavesSound d (record d { world = last; names = log.names.items; dates = log.dates.items })) →
      (LosesNames d (record d { world = last; names = log.names.items; dates = log.dates.items }) →
      Meets d call (reply.Refused why) (record d { world = last; names = log.names.items; dates = log.dates.items })) →
      Does d call (reply.Refused why) (record h { world = w; lists = lists; log = log })
  part-closed call why w last lists log u closed long leaves meets =
      let forgotten = subst (λ (v : World Val). AreForgotten h v u.free log.names) closed u.names in
      let now = subst (λ (v : World Val). AreDatedNow h v u.waited log.dates) closed u.dates in
      let lost = loses last u.free u.free_so log.names forgotten long (record d { world = last; names = log.names.items; dates = log.dates.items }) refl refl in
      acts.leaves (acts.under name.0 t whole there) refl (as-refused w last lists log u closed)
      (leaves lost (dated-within h t u.waited u.told last log.dates now)) (meets lost)

  acts-copy_refused : (l : ListName) (x : AnyList) → Names h l x → (its : Holds h t l x) (g : GuardName) → HasOpen d n g.0 → (why : Refused)
      (w : World Val) (lists : Lists) (log : Log) → Undone w lists log → IsCopied p h.world x its.entries (Err why) w →
      Does (state_of h) (At name (call.CloneList l g)) (reply.Refused why) (record h { world = w; lists = lists; log = log })
  acts-copy_refused (list.Queue q) (any.Queue x) mine its g valid why w lists log u (inl (none, is_cell, same)) =
      not-begun (At name (call.CloneList (list.Queue q) g)) why w lists log u same ((valid, is-queue h q.0 x.now mine), inl (none, is_cell, refl))
  acts-copy_refused (list.Stack s) (any.Stack x) mine its g valid why w lists log u (inl (none, is_cell, same)) =
      not-begun (At name (call.CloneList (list.Stack s) g)) why w lists log u same ((valid, is-stack h s.0 x.now mine), inl (none, is_cell, refl))
  acts-copy_refused (list.Queue q) (any.Queue x) mine its g valid why w lists log u
      (inr (c, fs, held, v, first, next, others, parts, makes, refuses, closed)) =
      let all = subst (λ (vs : List Body). AreAllNumbers vs) parts (shown-numbers its.entries its.numbers) in
      let numbers = first-numbers first (next ∷ others) all in
      let makes_so = subst (λ (i : ℕ). MakesQueueOf h.world i first c fs held v) (sym place-is) makes in
      let world = ap (λ (i : ℕ). record d { world = queue_closed link_of v i c fs held; names = log.names.items; dates = log.dates.items }) (sym place-is) in
      part-closed (At name (call.CloneList (list.Queue q) g)) why w (queue_closed link_of v p c fs held) lists log u closed
      (queue-long d t.sound whole p live first numbers c fs held v makes (both-long h) line log.names.items log.dates.items)
      (queue-refused d t.sound whole p live first numbers c fs held v makes (both-long h) line log.names.items log.dates.items) (λ lost. (
        (valid, is-queue h q.0 x.now mine),
        inr (its.is.0, its.entries, its.is.1, c, fs, held, v, first, next, others, its.is.2, parts, makes_so, refuses, (world, lost)),
      ))
  acts-copy_refused (list.Stack s) (any.Stack x) mine its g valid why w lists log u
      (inr (c, fs, v, first, next, others, parts, makes, refuses, closed)) =
      let all = subst (λ (vs : List Body). AreAllNumbers vs) parts (shown-numbers its.entries its.numbers) in
      let numbers = first-numbers first (next ∷ others) all in
      let makes_so = subst (λ (i : ℕ). MakesStackOf h.world i first c fs v) (sym place-is) makes in
      let world = ap (λ (i : ℕ). record d { world = stack_closed v i c fs; names = log.names.items; dates = log.dates.items }) (sym place-is) in
      part-closed (At name (call.CloneList (list.Stack s) g)) why w (stack_closed v p c fs) lists log u closed
      (stack-long d t.sound whole p live first numbers c fs v makes line log.names.items log.dates.items)
      (stack-refused d t.sound whole p live first numbers c fs v makes line log.names.items log.dates.items) (λ lost. (
        (valid, is-stack h s.0 x.now mine),
        inr (list_cell (any.Stack x), its.entries, c, fs, v, first, next, others, its.is, parts, makes_so, refuses, (world, lost)),
      ))
  acts-copy_refused l x never its g valid why w lists log u refused = absurd never

  -- ---- the act: a list whose name stands for it in tables that have the same

  module _ (lists : Lists) (same : HasSameLists h.lists lists) (l : ListName) (x : AnyList)
      (stands : StandsFor lists.queues.entries.items lists.stacks.entries.items l x) where
    abbrev mine : Names h l x
    mine = rw (same.queues, same.stacks) at stands

    abbrev its : Holds h t l x
    its = entries-of h t l x mine

    pub its-home : IsListOf h.world.home.cells x
    its-home = list-home h t l x mine

    pub its-numbers : IsOfNumbers h.world x
    its-numbers = of-numbers h t l x mine

    pub acts-refused : (g : GuardName) → HasOpen d n g.0 → (why : Refused) (w : World Val) (log : Log) → Undone w lists log →
        ((es : List (Entry Val)) (second : Option ℕ) → HasEntries h.world x es second → IsCopied p h.world x es (Err why) w) →
        Does (state_of h) (At name (call.CloneList l g)) (reply.Refused why) (record h { world = w; lists = lists; log = log })
    acts-refused g valid why w log u refused =
        acts-copy_refused l x mine its g valid why w lists log u (refused its.entries its.second its.has)

    module _ (y : ListCopy) (w : World Val)
        (done : (es : List (Entry Val)) (second : Option ℕ) → HasEntries h.world x es second → IsCopied p h.world x es (Ok y) w) where
      pub made : Filled x (shown_of its.entries) y w
      made = filled x its.entries its.numbers y w (done its.entries its.second its.has)

      pub room-kept : HasRoomFor l lists → HasRoomFor (next_name lists y) lists
      room-kept room = room-for h p l x mine its.entries y w (done its.entries its.second its.has) lists room

      -- the slots of its entries were told, by a look at all that are in slots
      module _ (z : AnyList) (looked : IsListIn y z) (most : ℕ) (enough : most ≡ length h.log.names.items) (slots : List ℕ)
          (told : (es : List (Entry Val)) (second : Option ℕ) → HasEntries w z es second → ArePlain es → length es ≤ most →
          slots ≡ entry_slots es) where
        pub are-its : slots ≡ entry_slots made.entries
        are-its = told made.entries made.second (has-entries w y z made.entries made.second looked made.has) made.plain (omega (arith, made.few, enough))

        pub few-slots : length slots ≤ length h.log.names.items
        few-slots = omega (arith, ap length are-its, length-map made.entries (λ (e : Entry Val). e.slot), made.few)

        pub inside-slots : (k i : ℕ) → k < length slots → slice_index_or slots k i < length h.log.names.items
        inside-slots k i lt = rw are-its (made.inside k i (omega (arith, lt, ap length are-its)))

        pub acts-copied : (g : GuardName) → HasOpen d n g.0 → (last : World Val) → last ≡ w → IsCopyOf h.world.home.cells y → (new : Lists) (log : Log) →
            IsGivenName lists y new → log ≡ record h.log { slots = log.slots; names = log.names } → log.slots.items ≡ h.log.slots.items ++ slots →
            log.names.items ≡ names_from h.log.names.items (length h.log.slots.items) slots →
            Does (state_of h) (At name (call.CloneList l g)) (named_so (next_name lists y)) (record h { world = last; lists = new; log = log })
        acts-copied g valid last world home new log given rest longer named =
            rw (next-since h.lists lists y same)
            (acts-list_copied l x mine its g valid y w last made world home new log (given-since h.lists lists new y same given) rest
            (rw are-its at longer) (rw are-its at named))
