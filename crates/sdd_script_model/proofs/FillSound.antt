-- What is always true of a state is true after a new queue or stack is filled with numbers, each of which it owns alone
use Rattle.sdd_script_model.proofs.Words.{◌≡◌, ◌≢◌, ◌⊎◌, ◌+◌, inl, inr, ℕ, List, [], ◌∷◌, ◌++◌, Option, Some, None, length, map, slice_index_or, slice_set, refl, sym, ap, ◌∙◌, subst, ◌-◌, ◌<◌, ◌≤◌, nat_lt, true, false, is_some, IsSome, arith, cases_eq, length-append, length-set, length_push, Standing, Shared as shared_by, is_waiting, Claim, World, IsPlaceOf, standing_at, made_as, nulled, owner_given, spilled, with_cell, IsWhole, ledger-laws, IsAmong, appended, through_last, Entry, IsQueue, QueueCells, AddsAllBehind, AddsBehind, adds_behind, begins_behind, AppendsAll, AppendsTo, appends, starts as starts_stack, among-last, bare, list-same, Body, Number, Storage, ArePlain, Begins, IsListed, IsNumber, Enqueues, IsNamedQueue, ScriptState, IsListCell, holding_at, in_world, names_from, shared_cell, with_item, with_items, none as no_call, IsSound, contained, named, Appends, IsStack, Val, holdings_of, link_of, append_assoc, map-append, made_newest, common_steps, append-nil}
use Rattle.sdd_core.specs.declared.tag.Tag.TheVariants.{None as no_tag}
use Rattle.sdd_space.specs.Shared.{slot_of}
use Rattle.sdd_script_model.specs.declared.val.Body.TheVariants.{Owned, Shared}
use Rattle.sdd_script_model.proofs.Lemmas.{KeepsGuards, keeps-live, IsMidway, LeavesSound, dated-kept, at-other, at-same, not-free, given-other, listed-inside, starts}
use Rattle.sdd_script_model.proofs.Due.{whole-calls}
use Rattle.sdd_script_model.proofs.Plain.{appended-plain, plain-last, through-plain}
use Rattle.sdd_script_model.proofs.QueueEnds.{among-before, among-either}
use Rattle.sdd_script_model.proofs.StackPushSound.{given-up, leaves-then, mid, not-among, put-leaves}
use Rattle.sdd_script_model.proofs.QueuePushSound as pushing
use Rattle.sdd_script_model.proofs.StackAppendSound as appending

-- ---- names in order

pub names-last : (names : List (Option ℕ)) (next : ℕ) (ks : List ℕ) (k : ℕ) →
    names_from names next (ks ++ k ∷ []) ≡ slice_set (names_from names next ks) k (Some (next + length ks))
names-last names next [] k = ap (λ (n : ℕ). slice_set names k (Some n)) (let e : next ≡ next + 0 = omega arith in e)
names-last names next (j ∷ ks) k =
    names-last (slice_set names j (Some next)) (next + 1) ks k
    ∙ ap (λ (n : ℕ). slice_set (names_from (slice_set names j (Some next)) (next + 1) ks) k (Some n))
    (let e : next + 1 + length ks ≡ next + (length (j ∷ ks)) = omega arith in e)

-- ---- what is in a list doesn't wait

pub listed-idle : {d : ScriptState} {w : World Val} {outside : Claim → ℕ} → IsMidway d w outside → (c : ℕ) (es : List (Entry Val)) → IsListCell d c →
    Begins w c es → (j : ℕ) → IsAmong j es → is_waiting (standing_at w j) ≡ false
listed-idle {d} {w} {outside} m c es begun list j among =
    let at : IsListed (IsListCell d) w j = record { cell = c; entries = es; begun = begun; list = list; among = among } in
    let inner = listed-inside w (λ u. outside u + contained d u) m.ledger (IsListCell d) j at in
    let stands = ((ledger-laws holdings_of w).tells _ m.ledger).stands j (omega (arith, inner)) in
    elim stands [ inl sole ↦ ap is_waiting sole.0 | inr several ↦ ap is_waiting several.1 ]

pub spilled-other : (w : World Val) (p : ℕ) (held : Option ℕ) (j : ℕ) → held ≢ Some j → standing_at (spilled w p held) j ≡ standing_at w j
spilled-other w p None j ne = refl
spilled-other w p (Some s) j ne = given-other w p s j (standing_at w s) refl (λ same. ne (ap (λ (i : ℕ). Some i) (sym same)))

-- of several owners one is given up
pub one-less : (w : World Val) (p k n : ℕ) → standing_at w k ≡ Some (shared_by n) → nat_lt 1 n ≡ true →
    standing_at (owner_given w p k (standing_at w k)) k ≡ Some (shared_by (n - 1))
one-less w p k n is several = grind (arith, common_steps)

-- the making of an item changes no guards
since-made : (v w : World Val) (c k : ℕ) (x : Val) (first : Standing) → KeepsGuards (made_as (nulled v c) k x first) w → KeepsGuards v w
since-made v w c k x first g = record { phases = g.phases; places = g.places; guards = g.guards }

-- as many wait
abbrev WaitsAs : ScriptState → World Val → Type 0
WaitsAs d w = (j : ℕ) → is_waiting (standing_at w j) ≡ is_waiting (standing_at d.world j)

-- each entry has one owner, but the one that a queue's second cell holds two
pub record AreLone (w : World Val) (es : List (Entry Val)) (held : Option ℕ) : Type 0 where
  pub lone : (j : ℕ) → IsAmong j es → held ≢ Some j → standing_at w j ≡ Some (shared_by 1)
  pub newest : (j : ℕ) → held ≡ Some j → standing_at w j ≡ Some (shared_by 2)

-- the second cell of a queue holds nothing, or one of these
abbrev IsNoneOrAmong : Option ℕ → List (Entry Val) → Type 0
IsNoneOrAmong None es = Unit {0}
IsNoneOrAmong (Some k) es = IsAmong k es

-- ---- one number more is behind a queue's entries, and its owner given up

module _ (d : ScriptState) (s : IsSound d) (whole : IsWhole d.world) (p : ℕ) (live : IsPlaceOf d.world p) (n : ℕ) (q : QueueCells) (es : List (Entry Val))
    (second : Option ℕ) (is : IsNamedQueue d n q es second) (near : IsNoneOrAmong second es) (plain : ArePlain es) (number k : ℕ) (w : World Val)
    (puts : Enqueues d.world p q es second number k w) where
  abbrev x : Val
  x = puts.entry

  abbrev entry : Entry Val
  entry = record { slot = k; value = x; tag = no_tag }

  abbrev now : List (Entry Val)
  now = through_last es ++ entry ∷ []

  abbrev given : World Val
  given = owner_given w p k (standing_at w k)

  midway-queue : IsMidway (mid d s whole p live number k x puts.free puts.pushed.free puts.body) given (named d)
  midway-queue =
      given-up d s whole p live number k x puts.free puts.pushed.free puts.body w
      (pushing.done d s whole p live n q es second is number k w puts d.dates)

  list-queue : Begins given q.oldest now
  list-queue =
      let same = bare w p k (standing_at w k) in list-same link_of w given q.oldest no_tag now same.cells same.values puts.pushed.queue.list

  abbrev fresh : World Val
  fresh =
      with_cell (made_as (nulled d.world (link_of x)) k x (shared_by 3)) q.newest (record { held = Some k; tag = no_tag })

  -- the old newest entry's second owner is given up, and the new one's third
  stands-before : (j : ℕ) → standing_at w j ≡ standing_at (spilled fresh p second) j
  stands-before j =
      ap (λ (u : World Val). standing_at u j) puts.pushed.world
      ∙ ap (λ ss. slice_index_or ss j None)
      (appended-plain (made_newest (nulled d.world (link_of x)) p q.newest k x second) p q.oldest no_tag es (link_of x) k plain)

  stands-far : (j : ℕ) → j ≢ k → standing_at given j ≡ standing_at (spilled fresh p second) j
  stands-far j far = given-other w p k j (standing_at w k) refl far ∙ stands-before j

  fresh-far : (j : ℕ) → j ≢ k → standing_at fresh j ≡ standing_at d.world j
  fresh-far j far = at-other d.world.standings k j (Some (shared_by 3)) None far

  stands-queue : (j : ℕ) → j ≢ k → second ≢ Some j → standing_at given j ≡ standing_at d.world j
  stands-queue j far off = stands-far j far ∙ spilled-other fresh p second j off ∙ fresh-far j far

  -- what is in the list is in another slot
  old-far : (j : ℕ) → IsAmong j es → j ≢ k
  old-far j among same = not-among d s whole p live number k x puts.free puts.pushed.free puts.body q.oldest es is.queue.list
      (subst (λ (i : ℕ). IsAmong i es) same among)

  second-far : (j : ℕ) → second ≡ Some j → IsAmong j es
  second-far j e = grind (arith, common_steps)

  among-now : (j : ℕ) → IsAmong j es → IsAmong j now
  among-now j among = among-before j (through_last es) entry (subst (λ (xs : List (Entry Val)). IsAmong j xs) (sym (through-plain es plain)) among)

  waits-queue : WaitsAs d given
  waits-queue j = elim (cases_eq j k) [
    | inl same ↦
        listed-idle midway-queue q.oldest now (inl (n, is.oldest)) list-queue j (among-last j (through_last es) entry (sym same))
        ∙ sym (ap (λ (i : ℕ). is_waiting (standing_at d.world i)) same ∙ ap is_waiting puts.pushed.free.1)
    | inr far ↦ by second refl far
  ] where
    by : (o : Option ℕ) → second ≡ o → j ≢ k → is_waiting (standing_at given j) ≡ is_waiting (standing_at d.world j)
    by None e far = ap is_waiting (stands-queue j far (λ same. (let never : None ≡ Some j = sym e ∙ same in cc)))
    by (Some i) e far = elim (cases_eq i j) [
      | inl same ↦
          (let old = second-far j (e ∙ ap (λ (m : ℕ). Some m) same) in
          listed-idle midway-queue q.oldest now (inl (n, is.oldest)) list-queue j (among-now j old)
          ∙ sym (listed-idle (starts d s whole) q.oldest es (inl (n, is.oldest)) is.queue.list j old))
      | inr ne ↦ ap is_waiting (stands-queue j far (λ same. ne (let both : Some i ≡ Some j = sym e ∙ same in cc)))
    ]

  lone-queue : AreLone d.world es second → AreLone given now (Some k)
  lone-queue were = record {
    lone = λ j among ne. elim (among-either j (through_last es) entry among) [
      | inl old ↦ by second refl j (subst (λ (xs : List (Entry Val)). IsAmong j xs) (through-plain es plain) old)
      | inr same ↦ absurd (ne (ap (λ (i : ℕ). Some i) same))
    ];
    newest = λ j same. (let e : k ≡ j = cc in subst (λ (i : ℕ). standing_at given i ≡ Some (shared_by 2)) e its);
  } where
    inside-k : k < length d.world.standings
    inside-k = puts.pushed.free.0

    three : standing_at w k ≡ Some (shared_by 3)
    three = stands-before k ∙ spilled-other fresh p second k (λ e. old-far k (second-far k e) refl)
        ∙ at-same d.world.standings k (Some (shared_by 3)) None inside-k

    its : standing_at given k ≡ Some (shared_by 2)
    its = one-less w p k 3 three refl

    by : (o : Option ℕ) → second ≡ o → (j : ℕ) → IsAmong j es → standing_at given j ≡ Some (shared_by 1)
    by None e j old = stands-queue j (old-far j old) (λ same. (let never : None ≡ Some j = sym e ∙ same in cc))
        ∙ were.lone j old (λ same. (let never : None ≡ Some j = sym e ∙ same in cc))
    by (Some i) e j old = elim (cases_eq i j) [
      | inl same ↦
          (let was : second ≡ Some j = e ∙ ap (λ (m : ℕ). Some m) same in
          let two : standing_at fresh j ≡ Some (shared_by 2) = fresh-far j (old-far j old) ∙ were.newest j was in
          stands-far j (old-far j old) ∙ ap (λ (h : Option ℕ). standing_at (spilled fresh p h) j) was
          ∙ one-less fresh p j 2 two refl)
      | inr ne ↦
          (let off : second ≢ Some j = λ same. ne (let both : Some i ≡ Some j = sym e ∙ same in cc) in
          stands-queue j (old-far j old) off ∙ were.lone j old off)
    ]

  kept-queue : AreLone d.world es second → (j : ℕ) → IsSome (standing_at d.world j) → IsSome (standing_at given j)
  kept-queue were j some = elim (cases_eq j k) [
    | inl same ↦ absurd (not-free (standing_at d.world k) (subst (λ (i : ℕ). IsSome (standing_at d.world i)) same some) puts.pushed.free.1)
    | inr far ↦ by second refl far
  ] where
    by : (o : Option ℕ) → second ≡ o → j ≢ k → IsSome (standing_at given j)
    by None e far = rw (stands-queue j far (λ same. (let never : None ≡ Some j = sym e ∙ same in cc))) some
    by (Some i) e far = elim (cases_eq i j) [
      | inl same ↦
          (let old = second-far j (e ∙ ap (λ (m : ℕ). Some m) same) in
          ap is_some ((lone-queue were).lone j (among-now j old) (λ now_it. far (let is_it : k ≡ j = cc in sym is_it))))
      | inr ne ↦ rw (stands-queue j far (λ same. ne (let both : Some i ≡ Some j = sym e ∙ same in cc))) some
    ]

  queue-leaves : LeavesSound d (in_world (with_item d k) given)
  queue-leaves =
      let new : ScriptState = in_world (with_item d k) given in
      let dated = dated-kept d new refl (λ j waits. sym (waits-queue j) ∙ waits) in
      put-leaves d s whole p live number k x puts.free puts.pushed.free puts.body given d.dates d.owners midway-queue (λ u. refl) s.home.owners
      ((λ j lt. dated.dated j), dated.long)

-- ---- and behind a stack's

module _ (d : ScriptState) (s : IsSound d) (whole : IsWhole d.world) (p c : ℕ) (live : IsPlaceOf d.world p) (n : ℕ) (es : List (Entry Val))
    (is : IsStack d n c es) (plain : ArePlain es) (number k : ℕ) (w : World Val) (puts : Appends d.world p c es number k w) where
  abbrev y : Val
  y = puts.entry

  abbrev added : Entry Val
  added = record { slot = k; value = y; tag = no_tag }

  midway-stack : IsMidway (mid d s whole p live number k y puts.free puts.appended.free puts.body) w (named d)
  midway-stack = appending.appended-midway d s whole p c live n es is number k w puts

  abbrev two_owners : World Val
  two_owners = made_as (nulled d.world (link_of y)) k y (shared_by 2)

  abbrev last : World Val
  last = appended link_of two_owners p c no_tag es (link_of y) k

  stands-last : (j : ℕ) → standing_at last j ≡ standing_at two_owners j
  stands-last j = ap (λ ss. slice_index_or ss j None) (appended-plain two_owners p c no_tag es (link_of y) k plain)

  stands-stack : (j : ℕ) → j ≢ k → standing_at w j ≡ standing_at d.world j
  stands-stack j far =
      ap (λ (v : World Val). standing_at v j) puts.appended.world ∙ given-other last p k j (standing_at last k) refl far ∙ stands-last j
      ∙ at-other d.world.standings k j (Some (shared_by 2)) None far

  waits-stack : WaitsAs d w
  waits-stack j = elim (cases_eq j k) [
    | inl same ↦
        listed-idle midway-stack c (through_last es ++ added ∷ []) (inr (n, is.named)) puts.appended.list j
        (among-last j (through_last es) added (sym same))
        ∙ sym (ap (λ (i : ℕ). is_waiting (standing_at d.world i)) same ∙ ap is_waiting puts.appended.free.1)
    | inr far ↦ ap is_waiting (stands-stack j far)
  ]

  lone-stack : AreLone d.world es None → AreLone w (through_last es ++ added ∷ []) None
  lone-stack were = record {
    lone = λ j among ne. elim (among-either j (through_last es) added among) [
      | inl old ↦
          (let there = subst (λ (xs : List (Entry Val)). IsAmong j xs) (through-plain es plain) old in
          stands-stack j (λ same. not-among d s whole p live number k y puts.free puts.appended.free puts.body c es is.list
          (subst (λ (i : ℕ). IsAmong i es) same there)) ∙ were.lone j there (λ e. (let never : None ≡ Some j = e in cc)))
      | inr same ↦ subst (λ (i : ℕ). standing_at w i ≡ Some (shared_by 1)) same its
    ];
    newest = λ j e. absurd (let never : None ≡ Some j = e in cc);
  } where
    two : standing_at last k ≡ Some (shared_by 2)
    two = stands-last k ∙ at-same d.world.standings k (Some (shared_by 2)) None puts.appended.free.0

    its : standing_at w k ≡ Some (shared_by 1)
    its = ap (λ (v : World Val). standing_at v k) puts.appended.world ∙ one-less last p k 2 two refl

  kept-stack : (j : ℕ) → IsSome (standing_at d.world j) → IsSome (standing_at w j)
  kept-stack j some = elim (cases_eq j k) [
    | inl same ↦ absurd (not-free (standing_at d.world k) (subst (λ (i : ℕ). IsSome (standing_at d.world i)) same some) puts.appended.free.1)
    | inr far ↦ rw (stands-stack j far) some
  ]

  stack-leaves : LeavesSound d (in_world (with_item d k) w)
  stack-leaves =
      let new : ScriptState = in_world (with_item d k) w in
      let dated = dated-kept d new refl (λ j waits. sym (waits-stack j) ∙ waits) in
      put-leaves d s whole p live number k y puts.free puts.appended.free puts.body w d.dates d.owners midway-stack (λ u. refl) s.home.owners
      ((λ j lt. dated.dated j), dated.long)

-- ---- one after another

-- all of these are numbers
abbrev pub AreAllNumbers : List Body → Type 0
AreAllNumbers [] = Unit {0}
AreAllNumbers (b ∷ bs) = IsNumber b × AreAllNumbers bs

all-before : (xs : List Body) (x : Body) → AreAllNumbers (xs ++ x ∷ []) → AreAllNumbers xs × IsNumber x
all-before [] x all = (tt, all.0)
all-before (y ∷ ys) x all = let more = all-before ys x all.1 in ((all.0, more.0), more.1)

module _ (d : ScriptState) (s : IsSound d) (whole : IsWhole d.world) (p : ℕ) (live : IsPlaceOf d.world p) where
  -- what the line has by then, whose entries are these
  abbrev pub filled_with : World Val → List (Entry Val) → ScriptState
  filled_with w es = in_world (with_items d (map (λ (e : Entry Val). e.slot) es)) w

  pub record IsFilled (w : World Val) (es : List (Entry Val)) (held : Option ℕ) : Type 0 where
    pub leaves : LeavesSound d (filled_with w es)
    pub plain : ArePlain es
    pub waits : WaitsAs d w
    pub lone : AreLone w es held
    pub placed : IsPlaceOf w p
    -- no more items are made
    pub made : w.tally.made ≤ d.world.tally.made + length es
    pub slots : length w.standings ≡ length d.world.standings
    -- what is in a slot is an entry, or was there, and what was there is
    pub taken : (j : ℕ) → IsSome (standing_at w j) → IsSome (standing_at d.world j) ⊎ IsAmong j es
    pub kept : (j : ℕ) → IsSome (standing_at d.world j) → IsSome (standing_at w j)
    pub fresh : (j : ℕ) → IsAmong j es → standing_at d.world j ≡ None

  pub not-filled : IsFilled d.world [] None
  not-filled = record {
    leaves = subst (λ (e : ScriptState). LeavesSound d e)
        (ap (λ (ks : List ℕ). record d { slots = ks }) (sym (append-nil d.slots)))
        (record { line = refl; places = refl; sound = s; dated = dated-kept d d refl (λ j waits. waits); calls = no_call d.world; home = refl });
    plain = tt;
    waits = λ j. refl;
    lone = record { lone = λ j never. absurd never; newest = λ j e. absurd (let no : None ≡ Some j = e in cc) };
    placed = live;
    made = omega arith;
    slots = refl;
    taken = λ j some. inl some;
    kept = λ j some. some;
    fresh = λ j never. absurd never;
  }

  -- one more
  pub still-whole : (v : World Val) (es : List (Entry Val)) (held : Option ℕ) → IsFilled v es held → IsWhole v
  still-whole v es held was = whole-calls was.leaves.calls whole

  module _ (v w : World Val) (es : List (Entry Val)) (held holds : Option ℕ) (was : IsFilled v es held) (k : ℕ) (x : Val) where
    abbrev entry-last : Entry Val
    entry-last = record { slot = k; value = x; tag = no_tag }

    same-items : with_item (filled_with v es) k ≡ in_world (with_items d (map (λ (e : Entry Val). e.slot) (es ++ entry-last ∷ []))) v
    same-items =
        let ks = map (λ (e : Entry Val). e.slot) es in
        ap (λ (ns : List (Option ℕ)). record (in_world d v) { slots = (d.slots ++ ks) ++ k ∷ []; names = ns })
        (ap (λ (m : ℕ). slice_set (names_from d.names (length d.slots) ks) k (Some m)) (length-append d.slots ks)
        ∙ sym (names-last d.names (length d.slots) ks k))
        ∙ ap (λ (js : List ℕ). record (in_world d v) { slots = js; names = names_from d.names (length d.slots) (ks ++ k ∷ []) })
        (append_assoc d.slots ks (k ∷ []))
        ∙ ap (λ (js : List ℕ). in_world (with_items d js) v) (sym (map-append (λ (e : Entry Val). e.slot) es (entry-last ∷ [])))

    pub filled-more : LeavesSound (filled_with v es) (in_world (with_item (filled_with v es) k) w) → WaitsAs (filled_with v es) w →
        AreLone w (through_last es ++ entry-last ∷ []) holds → KeepsGuards v w → w.tally.made ≤ v.tally.made + 1 →
        length w.standings ≡ length v.standings → standing_at v k ≡ None → ((j : ℕ) → j ≢ k → IsSome (standing_at w j) → IsSome (standing_at v j)) →
        ((j : ℕ) → IsSome (standing_at v j) → IsSome (standing_at w j)) → IsFilled w (through_last es ++ entry-last ∷ []) holds
    filled-more more waits lone guards made slots free was_taken still_taken =
        let through = through-plain es was.plain in
        let new = filled_with w (es ++ entry-last ∷ []) in
        subst (λ (fs : List (Entry Val)). AreLone w (fs ++ entry-last ∷ []) holds → IsFilled w (fs ++ entry-last ∷ []) holds) (sym through) (λ lone. record {
          leaves =
              leaves-then was.leaves (subst (λ (e : ScriptState). LeavesSound (filled_with v es) (in_world e w)) same-items more)
              (dated-kept d new refl (λ j now. sym (was.waits j) ∙ sym (waits j) ∙ now));
          plain = plain-last es entry-last was.plain refl;
          waits = λ j. waits j ∙ was.waits j;
          lone = lone;
          placed = keeps-live guards p was.placed;
          made = omega (arith, made, was.made, length_push es entry-last);
          slots = slots ∙ was.slots;
          taken = λ j some. elim (cases_eq j k) [
            | inl same ↦ inr (among-last j es entry-last (sym same))
            | inr far ↦ elim (was.taken j (was_taken j far some)) [ inl before ↦ inl before | inr among ↦ inr (among-before j es entry-last among) ]
          ];
          kept = λ j some. still_taken j (was.kept j some);
          fresh = λ j among. elim (among-either j es entry-last among) [
            | inl before ↦ was.fresh j before
            | inr same ↦ subst (λ (i : ℕ). standing_at d.world i ≡ None) same (by (standing_at d.world k) refl)
          ];
        }) lone where
          by : (o : Option Standing) → standing_at d.world k ≡ o → standing_at d.world k ≡ None
          by None e = e
          by (Some z) e = absurd (not-free (standing_at v k) (was.kept k (ap is_some e)) free)

  -- a queue that has no entries is filled
  module _ (n : ℕ) (q : QueueCells) (oldest : shared_cell (holding_at d.queues n) ≡ Some q.oldest)
      (newest : shared_cell (holding_at d.newest n) ≡ Some q.newest)
      (empty : IsQueue link_of d.world q [] None) where
    one-behind : (v w : World Val) (es fs : List (Entry Val)) (second held : Option ℕ) (x : Body) → IsFilled v es second → IsQueue link_of v q es second →
        IsNoneOrAmong second es → IsNumber x → AddsBehind v p q es second x w fs held →
        IsFilled w fs held × IsQueue link_of w q fs held × IsNoneOrAmong held fs
    one-behind v w es fs second held (Number m) was queue near number adds =
        let e = filled_with v es in
        let k = slot_of adds.owner in
        let puts : Enqueues v p q es second m k adds.between =
        record { entry = adds.pushes.entry; body = adds.pushes.value; free = adds.pushes.link; pushed = adds.pushes.queue } in
        let is : IsNamedQueue e n q es second = record { oldest = oldest; newest = newest; queue = queue } in
        let sound = was.leaves.sound in
        let now = still-whole v es second was in
        let more = queue-leaves e sound now p was.placed n q es second is near was.plain m k adds.between puts in
        let midway = midway-queue e sound now p was.placed n q es second is near was.plain m k adds.between puts in
        let waits = waits-queue e sound now p was.placed n q es second is near was.plain m k adds.between puts in
        let lone = lone-queue e sound now p was.placed n q es second is near was.plain m k adds.between puts was.lone in
        let given = owner_given adds.between p k (standing_at adds.between k) in
        let filled =
        filled-more v given es second (Some k) was k adds.pushes.entry more waits lone
        (since-made v given (link_of adds.pushes.entry) k adds.pushes.entry (shared_by 1) midway.frames.passes.guards)
        (omega (arith, midway.frames.slots.made)) (midway.frames.slots.slots ∙ length-set v.standings k (Some (shared_by 1))) puts.pushed.free.1
        (λ j far some. subst (λ (o : Option Standing). IsSome o) (at-other v.standings k j (Some (shared_by 1)) None far) (midway.frames.slots.taken j some))
        (kept-queue e sound now p was.placed n q es second is near was.plain m k adds.between puts was.lone) in
        let gs : List (Entry Val) = through_last es ++ record { slot = k; value = adds.pushes.entry; tag = no_tag } ∷ [] in (
          subst (λ (h : Option ℕ). IsFilled w fs h) (sym adds.newest) (subst (λ (hs : List (Entry Val)). IsFilled w hs (Some k)) (sym adds.entries)
              (subst (λ (u : World Val). IsFilled u gs (Some k)) (sym adds.world) filled)),
          adds.queue,
          subst (λ (o : Option ℕ). IsNoneOrAmong o fs) (sym adds.newest)
              (subst (λ (hs : List (Entry Val)). IsAmong k hs) (sym adds.entries)
              (among-last k (through_last es) (record { slot = k; value = adds.pushes.entry; tag = no_tag }) refl)),
        )
    one-behind v w es fs second held (Owned o) was queue near number adds = absurd number
    one-behind v w es fs second held (Shared o) was queue near number adds = absurd number
    one-behind v w es fs second held (Storage s) was queue near number adds = absurd number

    fills-all : {xs : List Body} {w : World Val} {fs : List (Entry Val)} {held : Option ℕ} → AddsAllBehind p q d.world [] None xs w fs held →
        AreAllNumbers xs → IsFilled w fs held × IsQueue link_of w q fs held × IsNoneOrAmong held fs
    fills-all begins_behind all = (not-filled, empty, tt)
    fills-all (adds_behind ys v new gs hs was holds x before adds) all =
        let both = all-before ys x all in
        let so_far = fills-all before both.0 in
        one-behind v new gs hs was holds x so_far.0 so_far.1 so_far.2 both.1 adds

    pub fills-queue : {xs : List Body} {w : World Val} {fs : List (Entry Val)} {held : Option ℕ} → AddsAllBehind p q d.world [] None xs w fs held →
        AreAllNumbers xs → IsFilled w fs held × IsQueue link_of w q fs held
    fills-queue adds all = let filled = fills-all adds all in (filled.0, filled.1)

  -- and so is a stack
  module _ (n c : ℕ) (begins : shared_cell (holding_at d.stacks n) ≡ Some c) (empty : Begins d.world c []) where
    one-appended : (v w : World Val) (es fs : List (Entry Val)) (x : Body) → IsFilled v es None → Begins v c es → IsNumber x →
        AppendsTo v p c es x w fs → IsFilled w fs None × Begins w c fs
    one-appended v w es fs (Number m) was list number adds =
        let e = filled_with v es in
        let puts : Appends v p c es m adds.slot w = record { entry = adds.entry; body = adds.value; free = adds.free; appended = adds.last } in
        let is : IsStack e n c es = record { named = begins; list = list } in
        let sound = was.leaves.sound in
        let now = still-whole v es None was in
        let more = stack-leaves e sound now p c was.placed n es is was.plain m adds.slot w puts in
        let midway = midway-stack e sound now p c was.placed n es is was.plain m adds.slot w puts in
        let waits = waits-stack e sound now p c was.placed n es is was.plain m adds.slot w puts in
        let lone = lone-stack e sound now p c was.placed n es is was.plain m adds.slot w puts was.lone in
        let filled =
        filled-more v w es None None was adds.slot adds.entry more waits lone
        (since-made v w (link_of adds.entry) adds.slot adds.entry (shared_by 1) midway.frames.passes.guards)
        (omega (arith, midway.frames.slots.made)) (midway.frames.slots.slots ∙ length-set v.standings adds.slot (Some (shared_by 1)))
        puts.appended.free.1
        (λ j far some.
        subst (λ (o : Option Standing). IsSome o) (at-other v.standings adds.slot j (Some (shared_by 1)) None far) (midway.frames.slots.taken j some))
        (kept-stack e sound now p c was.placed n es is was.plain m adds.slot w puts) in (
          subst (λ (gs : List (Entry Val)). IsFilled w gs None) (sym adds.entries) filled,
          subst (λ (gs : List (Entry Val)). Begins w c gs) (sym adds.entries) adds.last.list,
        )
    one-appended v w es fs (Owned o) was list number adds = absurd number
    one-appended v w es fs (Shared o) was list number adds = absurd number
    one-appended v w es fs (Storage s) was list number adds = absurd number

    pub fills-stack : {xs : List Body} {w : World Val} {fs : List (Entry Val)} → AppendsAll p c d.world [] xs w fs → AreAllNumbers xs →
        IsFilled w fs None × Begins w c fs
    fills-stack starts_stack all = (not-filled, empty)
    fills-stack (appends ys v new gs hs x before adds) all =
        let both = all-before ys x all in
        let so_far = fills-stack before both.0 in
        one-appended v new gs hs x so_far.0 so_far.1 both.1 adds
