-- A queue or a stack that a line filled is closed in it, and its items lose their names
use Rattle.sdd_script_model.proofs.Words.{◌≡◌, ◌⊎◌, ◌+◌, ◌<◌, ◌≤◌, inl, inr, ℕ, List, [], ◌∷◌, ◌++◌, Bool, true, false, Option, Some, None, IsSome, is_some, length, map, slice_index_or, slice_set, refl, sym, ap, ◌∙◌, subst, arith, ◌*◌, ◌^◌, ◌&&◌, not, zero, suc, cases_eq, cases_lt, false≢true, length-append, length-set, Tag, Second, Standing, Owned, Raw, Shared, Retired, Private, is_waiting, Claim, OwnerOrCell, times_held, World, standing_at, value_at, owner_given, with_cell, in_value-out, out-waits-not, IsAmong, Entry, emptied, first_slot, let_go_first, LosesNames, IsStored, ScriptState, IsListCell, holding_at, name_at, names_from, shared_cell, number_in, IsCalled, IsSound, contained, named, named_owners, stacked, Val, holdings_of, link_of, if◌then◌else◌, common_steps}
use Rattle.sdd_script_model.proofs.Lemmas.{accounts, stack-given, stack-spent, at-end, at-other, given-other, among-or, loose-as, off-standing}

-- ---- what has one owner waits once that is given up, and what waits goes on to

abbrev pub IsLone : World Val → ℕ → Type 0
IsLone w j = (standing_at w j ≡ Some (Shared 1)) ⊎ (is_waiting (standing_at w j) ≡ true)

waits-on : (w : World Val) (p k j : ℕ) → is_waiting (standing_at w j) ≡ true → is_waiting (standing_at (owner_given w p k (standing_at w k)) j) ≡ true
waits-on w p k j waits = elim (cases_eq j k) [
  | inl same ↦
      subst (λ (i : ℕ). is_waiting (standing_at (owner_given w p k (standing_at w k)) i) ≡ true) (sym same)
      (by (standing_at w k) refl (subst (λ (i : ℕ). is_waiting (standing_at w i) ≡ true) same waits))
  | inr far ↦ ap is_waiting (given-other w p k j (standing_at w k) refl far) ∙ waits
] where
  by : (x : Option Standing) → standing_at w k ≡ x → is_waiting x ≡ true → is_waiting (standing_at (owner_given w p k x) k) ≡ true
  by None e never = absurd (false≢true never)
  by (Some Owned) e never = absurd (false≢true never)
  by (Some Raw) e never = absurd (false≢true never)
  by (Some (Shared n)) e never = absurd (false≢true never)
  by (Some Retired) e waits = ap is_waiting e
  by (Some (Private c)) e waits = ap is_waiting e

lone-waits : (w : World Val) (p k : ℕ) → IsLone w k → is_waiting (standing_at (owner_given w p k (standing_at w k)) k) ≡ true
lone-waits w p k h = grind (arith, common_steps)

lone-on : (w : World Val) (p k j : ℕ) → IsLone w j → IsLone (owner_given w p k (standing_at w k)) j
lone-on w p k j lone = elim (cases_eq j k) [
  | inl same ↦
      inr (subst (λ (i : ℕ). is_waiting (standing_at (owner_given w p k (standing_at w k)) i) ≡ true) (sym same)
      (lone-waits w p k (subst (λ (i : ℕ). IsLone w i) same lone)))
  | inr far ↦ elim lone [
    | inl one ↦ inl (given-other w p k j (standing_at w k) refl far ∙ one)
    | inr waits ↦ inr (waits-on w p k j waits)
  ]
]

-- all entries are let go of
pub emptied-waits : (w : World Val) (p c : ℕ) (t : Tag) (es : List (Entry Val)) → ((j : ℕ) → IsAmong j es → IsLone w j) → (j : ℕ) →
    (is_waiting (standing_at w j) ≡ true) ⊎ IsAmong j es → is_waiting (standing_at (emptied link_of w p c t es) j) ≡ true
emptied-waits w p c t [] lone j (inl waits) = waits
emptied-waits w p c t [] lone j (inr never) = absurd never
emptied-waits w p c t (e ∷ es) lone j which =
    let u : World Val = let_go_first w p c t e.slot (link_of e.value) (first_slot es) in
    let v : World Val = with_cell (with_cell w (link_of e.value) (record { held = None; tag = Second })) c (record { held = first_slot es; tag = t }) in
    emptied-waits u p c t es (λ i among. lone-on v p e.slot i (lone i (inr among))) j (elim which [
      | inl waits ↦ inl (waits-on v p e.slot j waits)
      | inr (inl slot) ↦
          inl (subst (λ (i : ℕ). is_waiting (standing_at u i) ≡ true) slot (lone-waits v p e.slot (lone e.slot (inl refl))))
      | inr (inr more) ↦ inr more
    ])

-- ---- the items lose their names

-- names that are given leave other slots'
names-other : (names : List (Option ℕ)) (next : ℕ) (es : List (Entry Val)) (s : ℕ) → (IsAmong s es → ⊥) →
    slice_index_or (names_from names next (map (λ (e : Entry Val). e.slot) es)) s None ≡ slice_index_or names s None
names-other names next [] s not = refl
names-other names next (e ∷ es) s not =
    names-other (slice_set names e.slot (Some next)) (next + 1) es s (λ among. not (inr among))
    ∙ at-other names e.slot s (Some next) None (λ same. not (inl (sym same)))

names-long : (names : List (Option ℕ)) (next : ℕ) (ks : List ℕ) → length (names_from names next ks) ≡ length names
names-long names next [] = refl
names-long names next (k ∷ ks) = names-long (slice_set names k (Some next)) (next + 1) ks ∙ length-set names k (Some next)

-- what was read behind a list is one of those that came there
behind-it : (xs : List ℕ) (es : List (Entry Val)) (i : ℕ) → length xs ≤ i → i < length (xs ++ map (λ (e : Entry Val). e.slot) es) →
    IsAmong (slice_index_or (xs ++ map (λ (e : Entry Val). e.slot) es) i 0) es
behind-it [] [] i le lt = absurd (omega (arith, lt))
behind-it [] (e ∷ es) zero le lt = inl refl
behind-it [] (e ∷ es) (suc i) le lt = inr (behind-it [] es i (omega arith) (omega (arith, lt)))
behind-it (x ∷ xs) es zero le lt = absurd (omega (arith, le))
behind-it (x ∷ xs) es (suc i) le lt = behind-it xs es i (omega (arith, le)) (omega (arith, lt))

before-it : (xs ys : List ℕ) (i : ℕ) → i < length xs → slice_index_or (xs ++ ys) i 0 ≡ slice_index_or xs i 0
before-it [] ys i lt = absurd (omega (arith, lt))
before-it (x ∷ xs) ys zero lt = refl
before-it (x ∷ xs) ys (suc i) lt = before-it xs ys i (omega (arith, lt))

-- a container that was there for a while leaves a name that is spent
pub spent-last : (hs : List (Option OwnerOrCell)) (h : OwnerOrCell) (n : ℕ) → holding_at (slice_set (hs ++ Some h ∷ []) (length hs) None) n ≡ holding_at hs n
spent-last [] h zero = refl
spent-last [] h (suc n) = refl
spent-last (x ∷ xs) h zero = refl
spent-last (x ∷ xs) h (suc n) = spent-last xs h n

pub spent-counts : (hs : List (Option OwnerOrCell)) (h : OwnerOrCell) (c : ℕ) → shared_cell (Some h) ≡ Some c → (u : Claim) →
    stacked (slice_set (hs ++ Some h ∷ []) (length hs) None) u ≡ stacked hs u
spent-counts hs h c is u = omega (arith, stack-given hs h c is u, stack-spent (hs ++ Some h ∷ []) (length hs) c h (at-end hs (Some h) None) is u)

-- what is left without a name of its items that a container had which is closed, and waits
module _ (new was : ScriptState) (es : List (Entry Val)) (queues newest stacks : List (Option OwnerOrCell)) where
  abbrev pub closed : ScriptState
  closed = record new {
    slots = new.slots ++ map (λ (e : Entry Val). e.slot) es;
    names = names_from was.names (length new.slots) (map (λ (e : Entry Val). e.slot) es);
    queues = queues;
    newest = newest;
    stacks = stacks;
  }

  -- what is so then
  pub record IsForgotten : Type 0 where
    pub lost : LosesNames was new
    -- the entries were new, and wait; they hold no owner
    pub taken : (j : ℕ) → IsSome (standing_at new.world j) → IsSome (standing_at was.world j) ⊎ IsAmong j es
    pub fresh : (j : ℕ) → IsAmong j es → standing_at was.world j ≡ None
    pub waits : (j : ℕ) → IsAmong j es → is_waiting (standing_at new.world j) ≡ true
    pub bare : (j k : ℕ) → IsAmong j es → times_held holdings_of k (value_at new.world j) ≡ 0
    -- but for a name that is spent the containers are as before
    pub in_queues : (n : ℕ) → holding_at queues n ≡ holding_at new.queues n
    pub in_newest : (n : ℕ) → holding_at newest n ≡ holding_at new.newest n
    pub in_stacks : (n : ℕ) → holding_at stacks n ≡ holding_at new.stacks n
    pub counts : (u : Claim) → contained closed u ≡ contained new u
    pub more : length new.queues + length new.stacks ≤ length queues + length stacks
    pub room : new.world.tally.made ≤ length new.slots + new.moment * 2 ^ 32

  module _ (s : IsSound closed) (f : IsForgotten) where
    keeps : (a b : Bool) (x : Option ℕ) → (a ≡ true → b ≡ false → ⊥) → (if a && not b then None else x) ≡ x
    keeps a b x h = grind (arith, common_steps)

    kept-name : (j : ℕ) → (IsAmong j es → ⊥) → name_at new j ≡ name_at closed j
    kept-name j not_it =
        f.lost.names j
        ∙ keeps (is_some (standing_at new.world j)) (is_some (standing_at was.world j)) (name_at was j) (λ some none.
        elim (f.taken j some) [ inl before ↦ false≢true (sym none ∙ before) | inr among ↦ not_it among ])
        ∙ sym (names-other was.names (length new.slots) es j not_it)

    no-name : (j : ℕ) → IsAmong j es → IsSome (standing_at new.world j) → name_at new j ≡ None
    no-name j among some = grind (arith, common_steps)

    called : (j : ℕ) → (IsAmong j es → ⊥) → (x : Option ℕ) → name_at closed j ≡ x → IsCalled closed j x → IsCalled new j (name_at new j)
    called j not_it None e waits = subst (λ (x : Option ℕ). IsCalled new j x) (sym (kept-name j not_it ∙ e)) waits
    called j not_it (Some i) e (lt, its) =
        subst (λ (x : Option ℕ). IsCalled new j x) (sym (kept-name j not_it ∙ e))
        (elim (cases_lt i (length new.slots)) [
          | inl below ↦ (below, sym (before-it new.slots (map (λ (e : Entry Val). e.slot) es) i below) ∙ its)
          | inr above ↦ absurd (not_it (subst (λ (m : ℕ). IsAmong m es) its (behind-it new.slots es i above lt)))
        ])

    to-list : (c : ℕ) → IsListCell new c → IsListCell closed c
    to-list c (inl (n, is)) = inl (n, ap shared_cell (f.in_queues n) ∙ is)
    to-list c (inr (n, is)) = inr (n, ap shared_cell (f.in_stacks n) ∙ is)

    from-list : (c : ℕ) → IsListCell closed c → IsListCell new c
    from-list c (inl (n, is)) = inl (n, ap shared_cell (sym (f.in_queues n)) ∙ is)
    from-list c (inr (n, is)) = inr (n, ap shared_cell (sym (f.in_stacks n)) ∙ is)

    older : (j k : ℕ) → 1 ≤ times_held holdings_of k (value_at new.world j) → number_in (name_at new k) < number_in (name_at new j)
    older j k some =
        let out = in_value-out holdings_of new.world j k (named_owners closed) (accounts closed s) some in
        let mine = kept-name k (λ among. false≢true (sym (out-waits-not (standing_at new.world k) out) ∙ f.waits k among)) in
        let its = kept-name j (λ among. absurd (omega (arith, f.bare j k among, some))) in
        omega (arith, s.layered j k some, ap number_in mine, ap number_in its)

    -- a storage doesn't wait
    stored-idle : (j : ℕ) → IsStored new.bags new.world j → is_waiting (standing_at new.world j) ≡ true → ⊥
    stored-idle j x waits =
        off-standing closed new.world (named closed) s.ledger (λ n b gs is stands. stands) j
        (λ sole. false≢true (sym (ap is_waiting sole) ∙ waits)) x

    pub forgotten-sound : IsSound new
    forgotten-sound = record {
      stocked = record {
        named = λ j some. elim (among-or j es) [
          | inl among ↦ subst (λ (x : Option ℕ). IsCalled new j x) (sym (no-name j among some)) (inl (f.waits j among))
          | inr not_it ↦ called j not_it (name_at closed j) refl (s.stocked.named j some)
        ];
        names = f.lost.long ∙ sym (names-long was.names (length new.slots) (map (λ (e : Entry Val). e.slot) es)) ∙ s.stocked.names;
        dates = s.stocked.dates;
        few = omega (arith, f.lost.long, names-long was.names (length new.slots) (map (λ (e : Entry Val). e.slot) es), s.stocked.few);
      };
      ledger = λ u. omega (arith, s.ledger u, f.counts u);
      lists = record {
        lists = λ c x. s.lists.lists c (to-list c x);
        apart = λ b c j gs hs x y one two at also. s.lists.apart b c j gs hs (to-list b x) (to-list c y) one two at also;
        linked = λ j v e not. elim (s.lists.linked j v e not) [
          | inl none ↦ inl none
          | inr (inl at) ↦
              inr (inl (record { cell = at.cell; entries = at.entries; begun = from-list at.cell at.begun; list = at.list; among = at.among }))
          | inr (inr loose) ↦
              inr (inr (loose-as loose loose.list (λ i among at. record {
                cell = at.cell;
                entries = at.entries;
                begun = to-list at.cell at.begun;
                list = at.list;
                among = at.among;
              })))
        ];
        second = λ c b (n, oldest, newest_is).
            (let own = s.lists.second c b (n, ap shared_cell (f.in_queues n) ∙ oldest, ap shared_cell (f.in_newest n) ∙ newest_is) in
            (from-list c own.0, own.1));
      };
      bags = λ n b is.
          (let was = s.bags n b is in record {
            bag = was.bag;
            home = was.home;
            unnamed = λ gs stands j among.
                kept-name j (λ mine. stored-idle j (record { entries = gs; storages = record { name = n; bag = b; is = is; stands = stands }; among = among })
                (f.waits j mine)) ∙ was.unnamed gs stands j among;
          });
      spare = s.spare;
      layered = older;
      home = record {
        owners = s.home.owners;
        cells = s.home.cells;
        collectors = s.home.collectors;
        queues = λ n h e. s.home.queues n h (f.in_queues n ∙ e);
        newest = λ n h e. s.home.newest n h (f.in_newest n ∙ e);
        stacks = λ n h e. s.home.stacks n h (f.in_stacks n ∙ e);
      };
      attended = record {
        inside = s.attended.inside;
        apart = s.attended.apart;
        opened = s.attended.opened;
        since = s.attended.since;
        early = s.attended.early;
        placed = λ some. s.attended.placed (omega (arith, some, f.more, length-append new.slots (map (λ (e : Entry Val). e.slot) es)));
      };
      kept = s.kept;
      early = s.early;
      made = f.room;
      deferred = s.deferred;
      jobs = record { kept = s.jobs.kept; early = s.jobs.early; long = s.jobs.long };
      few = s.few;
    }
