-- An entry comes directly behind an item, and what the script's state is then
use Rattle.sdd_script_model.proofs.Words.{◌≡◌, ◌≢◌, ◌⊎◌, ◌+◌, ◌≤◌, inl, inr, eq-eqb, ℕ, zero, suc, Bool, true, false, List, [], ◌∷◌, Option, Some, None, slice_set, refl, sym, ap, ◌∙◌, subst, arith, ◌==◌, if◌then◌else◌, cases_eq, set_comm, Tag, Second, Both, Entries, entry_at, CellContents, Claim, IsLedger, owner_of, owner_held, right_to, one, changes_cell, OwnerOrCell, World, IsPlaceOf, value_at, held_in, with_cell, IsWhole, spliced, EndsWith, IsAmong, AreLinked, Entry, IsList, first_slot, linked_in, IsLetGo, QueueCells, linked-ends, list-ends, tag_in, list-apart, KeepsGone, gone-then, gone-written, let-go-kept, other-tag, among-spliced, IsStored, AreNumbers, Begins, HasLists, HoldsEntry, IsListed, IsLoose, IsNumber, ScriptState, IsListCell, IsSecondCell, IsThere, holding_at, in_world, shared_cell, shared_slot, slot_at, without_owner, IsSound, contained, named, named_among, Val, body_of, holdings_of, link_of, slot_of, IsFresh, IsLinkedBehind, entry_made, mark_tag, says_deleted, common_steps, IsLink, IsLooseEntry, linked-behind, made-list}
use Rattle.sdd_core.specs.declared.tag.Tag.TheVariants.{None as no_tag}
use Rattle.sdd_script_model.proofs.Lemmas.{IsMidway, LeavesSound, at_home-spent, finishes, link-apart-from, own-midway, owned-apart, owner-spent, some-holding, dated-same, at-other, null, same-once, AreOwn, StaysGone, StaysLoose, among-link, apart-item, apart-own, as-before, has-changed, has-kept, held-by, link-apart, links-apart, loose-as, loose-on, same-list, among-or, list-beside, third, IsReserved, reserved-was, there-apart, starts}
use Rattle.sdd_script_model.proofs.DeletedBehind.{among-behind, numbers-ends, numbers-spliced, spliced-was}
use Rattle.sdd_script_model.proofs.CallSound.{shared-slot}
use Rattle.sdd_script_model.proofs.StackChains.{IsBetween, between, between-as, goes-on, midway}

-- ---- an item is an entry of a queue or a stack, or it is not

module _ (d : ScriptState) (w : World Val) (stored : ℕ → Type 0) (had : HasLists (IsListCell d) (IsSecondCell d) stored w) (j : ℕ) where
  abbrev HasIt : ℕ → Type 0
  HasIt c = (es : List (Entry Val)) × Begins w c es × IsAmong j es

  has-or : (c : ℕ) → IsListCell d c → HasIt c ⊎ (HasIt c → ⊥)
  has-or c x =
      let was = had.lists c x in
      elim (among-or j was.0) [
        | inl among ↦ inl (was.0, was.1, among)
        | inr not ↦ inr (λ its. not (subst (λ (es : List (Entry Val)). IsAmong j es) (same-list w c its.0 was.0 its.1 was.1) its.2))
      ]

  abbrev AnyOf : List (Option OwnerOrCell) → Type 0
  AnyOf hs = (n : ℕ) × (c : ℕ) × (shared_cell (holding_at hs n) ≡ Some c) × HasIt c

  later-or : (h : Option OwnerOrCell) (hs : List (Option OwnerOrCell)) → ((c : ℕ) → shared_cell h ≡ Some c → HasIt c → ⊥) → (AnyOf hs → ⊥) →
      (n c : ℕ) → shared_cell (holding_at (h ∷ hs) n) ≡ Some c → HasIt c → ⊥
  later-or h hs here more zero c is its = here c is its
  later-or h hs here more (suc n) c is its = more (n, c, is, its)

  any-or : (hs : List (Option OwnerOrCell)) → ((n c : ℕ) → shared_cell (holding_at hs n) ≡ Some c → IsListCell d c) → AnyOf hs ⊎ (AnyOf hs → ⊥)
  any-or [] own = inr (λ any. let never : None ≡ Some (any.1) = any.2 in absurd (cc))
  any-or (h ∷ hs) own = elim (any-or hs (λ n c is. own (suc n) c is)) [
    | inl more ↦ inl (suc more.0, more.1, more.2, more.3)
    | inr not ↦ by not (shared_cell h) refl
  ] where
    by : (AnyOf hs → ⊥) → (x : Option ℕ) → shared_cell h ≡ x → AnyOf (h ∷ hs) ⊎ (AnyOf (h ∷ hs) → ⊥)
    by not None e =
        inr (λ any. later-or h hs (λ c is its. let never : None ≡ Some c = sym e ∙ is in absurd (cc)) not any.0 any.1 any.2 any.3)
    by not (Some c) e = elim (has-or c (own 0 c e)) [
      | inl its ↦ inl (0, c, e, its)
      | inr none ↦
          inr (λ any. later-or h hs (λ b is its.
          let both : Some c ≡ Some b = sym e ∙ is in
          let same : b ≡ c = cc in
          none (subst (λ (i : ℕ). HasIt i) same its)) not any.0 any.1 any.2 any.3)
    ]

  pub listed-or : IsListed (IsListCell d) w j ⊎ (IsListed (IsListCell d) w j → ⊥)
  listed-or = elim (any-or d.queues (λ n c is. inl (n, is))) [
    | inl q ↦ inl (record { cell = q.1; begun = inl (q.0, q.2); entries = q.3.0; list = q.3.1; among = q.3.2 })
    | inr no_queue ↦ elim (any-or d.stacks (λ n c is. inr (n, is))) [
      | inl t ↦ inl (record { cell = t.1; begun = inr (t.0, t.2); entries = t.3.0; list = t.3.1; among = t.3.2 })
      | inr no_stack ↦
          inr (λ at. elim at.begun [
            | inl q ↦ no_queue (q.0, at.cell, q.1, (at.entries, at.list, at.among))
            | inr t ↦ no_stack (t.0, at.cell, t.1, (at.entries, at.list, at.among))
          ])
    ]
  ]

-- what others came for are in the list then
module _ (e : Entry Val) (es others : List (Entry Val)) (s : ℕ) where
  others-if : (x : Entry Val) (xs : List (Entry Val)) → IsAmong s others → IsAmong s xs → (b : Bool) → IsAmong s (if b then others else x ∷ xs)
  others-if x xs here more true = here
  others-if x xs here more false = inr more

  others-in : (xs : List (Entry Val)) → EndsWith xs e es → IsAmong s others → IsAmong s (spliced e.slot others xs)
  others-in [] at among = absurd at
  others-in (x ∷ xs) (inl is) among =
      let heads : x ≡ e = cc in
      let same : (x.slot == e.slot) ≡ true = eq-eqb x.slot e.slot (ap (λ (y : Entry Val). y.slot) heads) in
      rw same among
  others-in (x ∷ xs) (inr at) among = others-if x (spliced e.slot others xs) among (others-in xs at among) (x.slot == e.slot)

-- ---- an item that no cell holds comes behind another, before what was there

module _ (begins : ℕ → Type 0) (seconds : (c b : ℕ) → Type 0) (stored : ℕ → Type 0) (v : World Val) (outside : Claim → ℕ)
    (ledger : IsLedger holdings_of outside v) (own : AreOwn begins seconds outside) (had : HasLists begins seconds stored v) (k : ℕ) (x : Val)
    (there : value_at v k ≡ Some x) (clear : entry_at v.cells (link_of x) ≡ Some null) (number : IsNumber (body_of x))
    (unheld : (b : ℕ) → held_in (entry_at v.cells b) ≡ Some k → ⊥) (i : ℕ) (y : Val) (at : value_at v i ≡ Some y) (other : k ≢ i) (t : Tag) (plain : t ≢ Both)
    (u : Tag) (kept : u ≢ Second) (es : List (Entry Val)) (chain : IsList link_of v (link_of y) u es) where
  abbrev l : ℕ
  l = link_of y

  abbrev behind_it : CellContents
  behind_it = record { held = first_slot es; tag = no_tag }

  abbrev in_front : CellContents
  in_front = record { held = Some k; tag = t }

  abbrev half : World Val
  half = with_cell v (link_of x) behind_it

  abbrev pub w : World Val
  w = linked_in v l t (link_of x) k (first_slot es)

  abbrev entry : Entry Val
  entry = entry_made k x

  two-links : l ≢ link_of x
  two-links same = other (links-apart v outside ledger k i x y there at (sym same))

  nowhere : (b : ℕ) (a : Tag) (gs : List (Entry Val)) → IsList link_of v b a gs → IsAmong k gs → ⊥
  nowhere b a gs list among = let by = held-by v outside ledger b k gs (ap held_in list.begins) list.linked among in unheld by.0 by.1

  unlisted : IsListed begins v k → ⊥
  unlisted is = nowhere is.cell no_tag is.entries is.list is.among

  cell-still : (b : ℕ) → b ≢ link_of x → b ≢ l → entry_at w.cells b ≡ entry_at v.cells b
  cell-still b far off = third v w (link_of x) l behind_it in_front refl refl b far off

  own-still : (b : ℕ) → 1 ≤ outside (right_to b) → entry_at w.cells b ≡ entry_at v.cells b
  own-still b mine = cell-still b (link-apart v outside ledger b k x mine there) (link-apart v outside ledger b i y mine at)

  link-still : (s : ℕ) (z : Val) → value_at v s ≡ Some z → s ≢ k → s ≢ i → entry_at w.cells (link_of z) ≡ entry_at v.cells (link_of z)
  link-still s z is far off =
      cell-still (link_of z) (λ same. far (links-apart v outside ledger s k z x is there same)) (λ same. off (links-apart v outside ledger s i z y is at same))

  list-still : (b : ℕ) (a : Tag) (gs : List (Entry Val)) → b ≢ link_of x → b ≢ l → (IsAmong i gs → ⊥) → IsList link_of v b a gs → IsList link_of w b a gs
  list-still b a gs far off not list =
      list-beside v w (link_of x) l behind_it in_front refl refl b a gs far off (apart-item v outside ledger k x there gs list.linked (nowhere b a gs list))
      (apart-item v outside ledger i y at gs list.linked not) list

  fresh-for : (b : ℕ) (a : Tag) (gs : List (Entry Val)) → b ≢ link_of x → IsList link_of v b a gs → IsFresh link_of v k x b gs
  fresh-for b a gs far list =
      record { there = there; clear = clear; far = far; apart = apart-item v outside ledger k x there gs list.linked (nowhere b a gs list) }

  longer : IsList link_of w l t (entry ∷ es)
  longer = made-list link_of v l u t es k x chain (fresh-for l u es two-links chain) kept

  -- what was let go of stays so
  keeps-gone : KeepsGone v w
  keeps-gone =
      let still : entry_at half.cells l ≡ Some (record { held = first_slot es; tag = u }) =
      at-other v.cells (link_of x) l (Some behind_it) None two-links ∙ chain.begins in
      gone-then v half w (gone-written v (link_of x) behind_it (other-tag (entry_at v.cells (link_of x)) null clear (λ same. absurd (cc))))
      (gone-written half l in_front (other-tag (entry_at half.cells l) (record { held = first_slot es; tag = u }) still kept))

  stays-gone : StaysGone seconds v w
  stays-gone a b s z holds was = let-go-kept link_of v w s keeps-gone was

  same-value : (s : ℕ) (z : Val) (j : ℕ) (q : Val) → value_at v j ≡ Some q → s ≡ j → value_at v s ≡ Some z → q ≡ z
  same-value s z j q is same now = let both : Some q ≡ Some z = sym is ∙ ap (λ (m : ℕ). value_at v m) (sym same) ∙ now in cc

  -- ---- the other is in a list
  module _ (c : ℕ) (its : begins c) (full : List (Entry Val)) (list : Begins v c full) (numbers : AreNumbers full) (e : Entry Val) (ends : EndsWith full e es)
      (slot : e.slot ≡ i) (link : link_of e.value ≡ l) where
    abbrev others : List (Entry Val)
    others = record e { tag = t } ∷ entry ∷ es

    abbrev now : List (Entry Val)
    now = spliced e.slot others full

    far-first : c ≢ link_of x
    far-first = link-apart v outside ledger c k x (own.first c its) there

    behind : IsLinkedBehind link_of v l t es k x w
    behind = linked-behind link_of v l u t es k x chain (fresh-for l u es two-links chain) kept w refl

    new : Begins w c now
    new = behind.around c no_tag full e list ends link plain (fresh-for c no_tag full far-first list)

    in-list : (s : ℕ) → IsAmong s full → IsListed begins v s
    in-list s among = record { cell = c; entries = full; begun = its; list = list; among = among }

    it-in : IsAmong i full
    it-in = among-behind i full e es ends (inl slot)

    now-was : (s : ℕ) → IsAmong s now → IsAmong s (entry ∷ full)
    now-was s among =
        spliced-was e.slot others s (entry ∷ full) full (λ among_others. elim among_others [
          | inl is ↦ inr (among-behind s full e es ends (inl is))
          | inr (inl here) ↦ inl here
          | inr (inr more) ↦ inr (among-behind s full e es ends (inr more))
        ]) (λ still. inr still) among

    from : (s : ℕ) → IsAmong s now → IsAmong s full ⊎ (IsListed begins v s → ⊥)
    from s among = elim (now-was s among) [
      | inl here ↦ inr (λ is. unlisted (subst (λ (j : ℕ). IsListed begins v j) (sym here) is))
      | inr was ↦ inl was
    ]

    -- each entry is there still, or let go of
    here : AreLinked link_of v (e ∷ es)
    here = linked-ends link_of v full e es ends list.linked

    stays-in : (s : ℕ) → IsAmong s full → IsAmong s now ⊎ IsLetGo link_of w s
    stays-in s among =
        among-spliced link_of half w e es (record e { tag = t }) (entry ∷ es) refl refl
        (λ b far all. at-other half.cells l b (Some in_front) None (λ same. far (same ∙ sym link)))
        (record { there = here.0.there; linked = ap (λ (b : ℕ). entry_at w.cells b) link ∙ longer.begins; plain = plain }, longer.linked) s full
        (list-apart link_of v half c no_tag full (link_of x) behind_it refl refl far-first
        (apart-item v outside ledger k x there full list.linked (nowhere c no_tag full list)) list).linked ends
        (λ among_old. elim among_old [ inl is ↦ inl (inl is) | inr more ↦ inl (inr (inr more)) ]) among

    forward : (b : ℕ) → begins b → b ≢ c → (gs : List (Entry Val)) → Begins v b gs → Begins w b gs
    forward b z far gs begun =
        list-still b no_tag gs (link-apart v outside ledger b k x (own.first b z) there) (link-apart v outside ledger b i y (own.first b z) at)
        (λ among. far (had.apart b c i gs full z its begun list among it-in)) begun

    of-it : (b : ℕ) → seconds c b → HoldsEntry w b now
    of-it b z =
        let held = (had.second c b z).1 full list in
        let cells : QueueCells = record { oldest = c; newest = b } in
        let queue = behind.queue cells full held.second e (record {
          list = list;
          newest = held.holds;
          among = held.among;
          two = own.two c c b its z;
          apart = apart-own v outside ledger b (own.second c b z) full list.linked;
        }) ends link plain (fresh-for c no_tag full far-first list) (link-apart v outside ledger b k x (own.second c b z) there) in
        record { second = held.second; holds = queue.newest; among = queue.among }

    loose-still : (s : ℕ) (z : Val) → value_at v s ≡ Some z → s ≢ k → s ≢ i → IsLoose begins v (link_of z) →
        ((j : ℕ) → IsListed begins w j → IsListed begins v j ⊎ IsAmong j now) → IsLoose begins w (link_of z)
    loose-still s z was far off loose listed =
        loose-as loose
        (list-still (link_of z) loose.tag loose.entries (λ same. far (links-apart v outside ledger s k z x was there same))
        (λ same. off (links-apart v outside ledger s i z y was at same)) (λ among. loose.free i among (in-list i it-in)) loose.list)
        (λ j among is. elim (listed j is) [
          | inl was_in ↦ was_in
          | inr now_in ↦ elim (now-was j now_in) [
            | inl first ↦
                absurd (nowhere (link_of z) loose.tag loose.entries loose.list (subst (λ (m : ℕ). IsAmong m loose.entries) (sym first) among))
            | inr old_one ↦ in-list j old_one
          ]
        ])

    links : (s : ℕ) (z : Val) → value_at w s ≡ Some z → (stored s → ⊥) → ((j : ℕ) → IsListed begins w j → IsListed begins v j ⊎ IsAmong j now) →
        (held_in (entry_at w.cells (link_of z)) ≡ None) ⊎ (IsAmong s now
        ⊎ (((is : IsListed begins v s) × (is.cell ≢ c)) ⊎ IsLoose begins w (link_of z)))
    links s z was not_stored listed = elim (cases_eq s k) [
      | inl same ↦ inr (inl (others-in e es others s full ends (inr (inl (sym same)))))
      | inr far ↦ elim (among-or s full) [
        | inl among ↦ elim (stays-in s among) [
          | inl stays ↦ inr (inl stays)
          | inr gone ↦
              (let value = same-value s z s gone.value gone.there refl was in
              inl (ap (λ (q : Val). held_in (entry_at w.cells (link_of q))) (sym value) ∙ ap held_in gone.bare))
        ]
        | inr not ↦
            (let off : s ≢ i = λ same. not (subst (λ (m : ℕ). IsAmong m full) (sym same) it-in) in
            elim (had.linked s z was not_stored) [
              | inl none ↦ inl (ap held_in (link-still s z was far off) ∙ none)
              | inr (inl is) ↦
                  inr (inr (inl (
                    is,
                    λ same. not (subst (λ (fs : List (Entry Val)). IsAmong s fs)
                        (same-list v c is.entries full (subst (λ (m : ℕ). Begins v m is.entries) same is.list) list) is.among),
                  )))
              | inr (inr loose) ↦ inr (inr (inr (loose-still s z was far off loose listed)))
            ])
      ]
    ]

    numbers-now : AreNumbers now
    numbers-now =
        let tail = numbers-ends full e es ends numbers in numbers-spliced e.slot others full (tail.0, (number, tail.1)) numbers

    pub has-behind : HasLists begins seconds stored w
    has-behind =
        has-changed begins seconds stored v w had c its (λ a b z. own-still b (own.second a b z)) stays-gone full now list new numbers-now of-it forward
        from links

  -- ---- or in none
  module _ (not : IsListed begins v i → ⊥) (numbers : AreNumbers es) (free : (s : ℕ) → IsAmong s es → IsListed begins v s → ⊥) where
    abbrev WereListed : Type 0
    WereListed = (j : ℕ) → IsListed begins w j → IsListed begins v j

    chain-now : WereListed → IsLoose begins w l
    chain-now listed = record {
      tag = t;
      plain = plain;
      entries = entry ∷ es;
      list = longer;
      numbers = (number, numbers);
      free = λ s among is. elim among [
        | inl first ↦ unlisted (subst (λ (j : ℕ). IsListed begins v j) (sym first) (listed s is))
        | inr more ↦ free s more (listed s is)
      ];
    }

    link-now : WereListed → IsLoose begins w (link_of x)
    link-now listed = record {
      tag = no_tag;
      plain = λ same. absurd (cc);
      entries = es;
      list = record { begins = longer.linked.0.linked; linked = longer.linked.1 };
      numbers = numbers;
      free = λ s among is. free s among (listed s is);
    }

    its-chain : (s : ℕ) (z : Val) → value_at v s ≡ Some z → (s ≡ i) ⊎ (s ≡ k) → WereListed → IsLoose begins w (link_of z)
    its-chain s z was (inl same) listed =
        subst (λ (q : Val). IsLoose begins w (link_of q)) (same-value s z i y at same was) (chain-now listed)
    its-chain s z was (inr same) listed =
        subst (λ (q : Val). IsLoose begins w (link_of q)) (same-value s z k x there same was) (link-now listed)

    change : (s : ℕ) (z : Val) → value_at v s ≡ Some z → WereListed → StaysLoose begins v w (link_of z)
    change s z was listed cell is plain_so = elim (cases_eq s i) [
      | inl same ↦ inr (its-chain s z was (inl same) listed)
      | inr off ↦ elim (cases_eq s k) [
        | inl same ↦ inr (its-chain s z was (inr same) listed)
        | inr far ↦ inl (cell.tag, plain_so, link-still s z was far off ∙ is)
      ]
    ]

    links-out : (s : ℕ) (z : Val) → value_at w s ≡ Some z → (stored s → ⊥) → WereListed →
        (held_in (entry_at w.cells (link_of z)) ≡ None) ⊎ (IsListed begins v s ⊎ IsLoose begins w (link_of z))
    links-out s z was not_stored listed = elim (cases_eq s i) [
      | inl same ↦ inr (inr (its-chain s z was (inl same) listed))
      | inr off ↦ elim (cases_eq s k) [
        | inl same ↦ inr (inr (its-chain s z was (inr same) listed))
        | inr far ↦ elim (had.linked s z was not_stored) [
          | inl none ↦ inl (ap held_in (link-still s z was far off) ∙ none)
          | inr (inl is) ↦ inr (inl is)
          | inr (inr loose) ↦
              inr (inr (loose-on begins v w (link_of z) loose.tag loose.entries loose.list loose.plain loose.numbers
              (λ j among is. loose.free j among (listed j is)) (λ j q among is. is) (change s z was listed) (λ j q among is. change j q is listed)))
        ]
      ]
    ]

    pub has-behind_loose : HasLists begins seconds stored w
    has-behind_loose =
        has-kept begins seconds stored v w had
        (λ b z gs begun. as-before (list-still b no_tag gs (link-apart v outside ledger b k x (own.first b z) there)
        (link-apart v outside ledger b i y (own.first b z) at)
        (λ among. not (record { cell = b; entries = gs; begun = z; list = begun; among = among })) begun))
        links-out (λ a b z. own-still b (own.second a b z)) stays-gone

-- ---- the line

module _ (d : ScriptState) (s : IsSound d) (whole : IsWhole d.world) (p : ℕ) (live : IsPlaceOf d.world p) (i o : ℕ) (mark : Bool) (k l : ℕ)
    (cell : CellContents) (is : IsLink d i l cell) (kept : says_deleted cell.tag ≡ false) (named_so : IsThere d i)
    (owner : shared_slot (holding_at d.owners o) ≡ Some k) (loose : IsLooseEntry d.world k) (other : k ≢ slot_at d i) where
  abbrev x : Val
  x = loose.entry

  abbrev j : ℕ
  j = slot_at d i

  abbrev t : Tag
  t = mark_tag mark

  abbrev total : Claim → ℕ
  total u = named d u + contained d u

  abbrev w_after : World Val
  w_after = linked_in d.world l t (link_of x) k cell.held

  start : IsMidway d d.world (named d)
  start = starts d s whole

  marks-plain : (b : Bool) → mark_tag b ≢ Both
  marks-plain true same = absurd (cc)
  marks-plain false same = absurd (cc)

  kept-second : (a : Tag) → says_deleted a ≡ false → a ≢ Second
  kept-second a says same = absurd (let never : true ≡ false = sym (ap says_deleted same) ∙ says in cc)

  at-link : entry_at d.world.cells (link_of is.entry) ≡ Some cell
  at-link = ap (λ (b : ℕ). entry_at d.world.cells b) is.link ∙ is.holds

  off-stored : IsStored d.bags d.world j → ⊥
  off-stored = there-apart d s.bags i named_so

  -- ---- the lists

  abbrev Has : World Val → Type 0
  Has v = HasLists (IsListCell d) (IsSecondCell d) (IsStored d.bags d.world) v

  -- with what is behind the item
  module _ (u : Tag) (es : List (Entry Val)) (chain : IsList link_of d.world (link_of is.entry) u es) where
    cells : Some cell ≡ Some (record { held = first_slot es; tag = u })
    cells = sym at-link ∙ chain.begins

    kept-so : u ≢ Second
    kept-so = subst (λ (a : Tag). a ≢ Second) (ap tag_in cells) (kept-second cell.tag kept)

    as-world : linked_in d.world (link_of is.entry) t (link_of x) k (first_slot es) ≡ w_after
    as-world = grind (arith, common_steps)

    lists-out : (IsListed (IsListCell d) d.world j → ⊥) → AreNumbers es → ((m : ℕ) → IsAmong m es → IsListed (IsListCell d) d.world m → ⊥) → Has w_after
    lists-out not numbers free =
        subst (λ (v : World Val). Has v) as-world
        (has-behind_loose (IsListCell d) (IsSecondCell d) (IsStored d.bags d.world) d.world total start.ledger (own-midway start) s.lists k x loose.there
        loose.clear loose.number loose.unheld j is.entry is.there other t (marks-plain mark) u kept-so es chain not numbers free)

    lists-in : (at : IsListed (IsListCell d) d.world j) (e : Entry Val) → EndsWith at.entries e es → e.slot ≡ j → link_of e.value ≡ link_of is.entry →
        Has w_after
    lists-in at e ends slot link =
        let first = s.lists.lists at.cell at.begun in
        let numbers : AreNumbers at.entries =
        subst (λ (fs : List (Entry Val)). AreNumbers fs) (same-list d.world at.cell first.0 at.entries first.1 at.list) first.2 in
        subst (λ (v : World Val). Has v) as-world
        (has-behind (IsListCell d) (IsSecondCell d) (IsStored d.bags d.world) d.world total start.ledger (own-midway start) s.lists k x loose.there
        loose.clear loose.number loose.unheld j is.entry is.there other t (marks-plain mark) u kept-so es chain at.cell at.begun at.entries at.list numbers e
        ends slot link)

  lists-after : Has w_after
  lists-after = elim (listed-or d d.world (IsStored d.bags d.world) s.lists j) [
    | inl at ↦
        (let found = among-link d.world j is.entry at.entries at.list.linked at.among is.there in
        let chain = list-ends link_of d.world at.entries found.0 found.1 found.2 at.list.linked in
        let link : link_of found.0.value ≡ link_of is.entry = ap link_of found.4 in
        lists-in found.0.tag found.1 (subst (λ (b : ℕ). IsList link_of d.world b found.0.tag found.1) link chain) at found.0 found.2 found.3 link)
    | inr not ↦ elim (s.lists.linked j is.entry is.there off-stored) [
      | inl none ↦
          (let bare : cell.held ≡ None = sym (ap held_in at-link) ∙ none in
          let begins : entry_at d.world.cells (link_of is.entry) ≡ Some (record { held = None; tag = cell.tag }) =
          at-link ∙ ap (λ (h : Option ℕ). let y : CellContents = record { held = h; tag = cell.tag } in Some y) bare in
          lists-out cell.tag [] (record { begins = begins; linked = tt }) not tt (λ m never listed. never))
      | inr (inl at) ↦ absurd (not at)
      | inr (inr more) ↦ lists-out more.tag more.entries more.list not more.numbers more.free
    ]
  ]

  -- ---- what was in hand is in the link

  abbrev left_owners : List (Option OwnerOrCell)
  left_owners = slice_set d.owners o None

  abbrev rest : Claim → ℕ
  rest = named_among left_owners d.cells d.collectors

  in-hand : (u : Claim) → named d u ≡ rest u + one (owner_of k) u
  in-hand u =
      let h = some-holding slot_of refl (holding_at d.owners o) k (shared-slot (holding_at d.owners o) k owner) in
      owner-spent d.owners d.cells d.collectors o k h.0 h.1 h.2 u

  abbrev in_front_of : CellContents
  in_front_of = record { held = Some k; tag = t }

  abbrev next : CellContents
  next = record { held = cell.held; tag = no_tag }

  abbrev first : World Val
  first = with_cell d.world l in_front_of

  two-cells : l ≢ link_of x
  two-cells same = other (links-apart d.world total start.ledger k j x is.entry loose.there is.there (sym same ∙ sym is.link))

  off-link : IsReserved d d.world l → ⊥
  off-link = subst (λ (b : ℕ). IsReserved d d.world b → ⊥) is.link (link-apart-from start j is.entry is.there off-stored)

  holds-it : IsBetween d first (λ u. rest u + owner_held cell.held u)
  holds-it = goes-on (between start) (changes_cell d.world l cell in_front_of is.holds) tt off-link rest in-hand

  linked-it : IsBetween d (with_cell first (link_of x) next) rest
  linked-it =
      between-as (goes-on holds-it
      (changes_cell first (link_of x) null next
      (at-other d.world.cells l (link_of x) (Some in_front_of) None (λ same. two-cells (sym same)) ∙ loose.clear))
      tt (λ r. link-apart-from start k x loose.there (owned-apart start k (omega (arith, in-hand (owner_of k), same-once k)))
      (reserved-was d d.world first (link_of x) refl r)) rest (λ u. refl)) (λ u. omega arith)

  m : IsMidway d w_after rest
  m =
      midway (subst (λ (cs : Entries CellContents). IsBetween d (record d.world { cells = cs }) rest)
      (set_comm d.world.cells l (link_of x) (Some in_front_of) (Some next) two-cells) linked-it) lists-after

  abbrev pub after_appended : ScriptState
  after_appended = in_world (without_owner d o) w_after

  pub appended-leaves : LeavesSound d after_appended
  appended-leaves =
      finishes d w_after left_owners d.cells d.collectors d.dates s m (λ u. refl)
      (at_home-spent d.world.home d.owners o s.home.owners, s.home.cells, s.home.collectors) (dated-same d after_appended refl refl) p live
