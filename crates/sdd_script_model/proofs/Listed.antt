-- Lists that begin in known cells stay over calls, and change where an entry comes or goes
use Rattle.sdd_script_model.proofs.Words.{◌≡◌, ◌≢◌, ◌⊎◌, ◌+◌, ◌≤◌, inl, inr, ℕ, List, [], ◌∷◌, Option, Some, None, is_some, slice_index_or, slice_set, refl, sym, ap, ◌∙◌, subst, arith, cases_eq, get_or-le-sum_by, Tag, Both, entry_at, CellContents, Claim, owner_of, right_to, inside, times_kept, IsLedger, Keeps, Moves, Sets, Tells, World, value_at, held_in, IsWhole, sum-out, once-bound, ledger-laws, EndsWith, IsAmong, Apart, AreLinked, Entry, IsList, first_slot, IsLetGo, IsSecond, linked-ends, tag_in, AreNumbers, Begins, HasLists, HoldsEntry, IsListed, IsLoose, Val, holdings_of, link_of, among-ends, common_steps, claims}
use Rattle.sdd_script_model.proofs.Entry.{at-other, inside as inside-list}
use Rattle.sdd_script_model.proofs.Links.{HoldsLess, holds-so, same-once}

-- ---- what the ledger tells of links

pub link-claimed : (v : Val) → 1 ≤ claims (holdings_of v) (right_to (link_of v))
link-claimed v = omega (arith, holds-so v (right_to (link_of v)), same-once (link_of v))

module _ (w : World Val) (outside : Claim → ℕ) (ledger : IsLedger holdings_of outside w) where
  tells : Tells holdings_of outside w
  tells = (ledger-laws holdings_of w).tells outside ledger

  -- a value has the right to its link
  pub link-inside : (s : ℕ) (x : Val) → value_at w s ≡ Some x → 1 ≤ inside holdings_of w (right_to (link_of x))
  link-inside s x e = omega (arith, tells.in_value s x e (right_to (link_of x)), link-claimed x)

  -- so it is no cell to which somebody has the right
  pub link-apart : (c s : ℕ) (x : Val) → 1 ≤ outside (right_to c) → value_at w s ≡ Some x → c ≢ link_of x
  link-apart c s x mine e same = grind (arith, common_steps)

  -- nor the link of another value
  pub links-apart : (s t : ℕ) (x y : Val) → value_at w s ≡ Some x → value_at w t ≡ Some y → link_of x ≡ link_of y → s ≡ t
  links-apart s t x y at other same = elim (cases_eq t s) [
    | inl is ↦ sym is
    | inr far ↦
        (let c = link_of x in
        let kept : Option Val → ℕ = times_kept holdings_of c in
        let rest : List (Option Val) = slice_set w.values s None in
        let there : slice_index_or rest t None ≡ Some y = at-other w.values s t None None far ∙ other in
        let most = get_or-le-sum_by kept rest t None (inside-list rest t (ap is_some there)) in
        let second : 1 ≤ kept (Some y) = subst (λ l. 1 ≤ times_kept holdings_of l (Some y)) (sym same) (link-claimed y) in
        let first : 1 ≤ kept (Some x) = link-claimed x in
        absurd (omega (
          arith,
          ledger (right_to c),
          once-bound (is_some (entry_at w.cells c)),
          sum-out kept refl w.values s,
          ap kept at,
          ap kept there,
          most,
          first,
          second,
        )))
  ]

  -- an entry of a list is held
  pub among-inside : (c s : ℕ) (es : List (Entry Val)) → held_in (entry_at w.cells c) ≡ first_slot es → AreLinked link_of w es → IsAmong s es →
      1 ≤ inside holdings_of w (owner_of s)
  among-inside c s [] holds linked among = absurd among
  among-inside c s (e ∷ es) holds linked (inl here) = subst (λ j. 1 ≤ inside holdings_of w (owner_of j)) here (tells.in_cell c e.slot holds)
  among-inside c s (e ∷ es) holds linked (inr there) = among-inside (link_of e.value) s es (ap held_in linked.0.linked) linked.1 there

  -- an item that is held nowhere is in no list
  pub held-by : (c s : ℕ) (es : List (Entry Val)) → held_in (entry_at w.cells c) ≡ first_slot es → AreLinked link_of w es → IsAmong s es →
      (b : ℕ) × (held_in (entry_at w.cells b) ≡ Some s)
  held-by c s [] holds linked among = absurd among
  held-by c s (e ∷ es) holds linked (inl here) = (c, holds ∙ ap (λ (i : ℕ). Some i) here)
  held-by c s (e ∷ es) holds linked (inr there) = held-by (link_of e.value) s es (ap held_in linked.0.linked) linked.1 there

  pub listed-inside : (begins : ℕ → Type 0) (s : ℕ) → IsListed begins w s → 1 ≤ inside holdings_of w (owner_of s)
  listed-inside begins s at = among-inside at.cell s at.entries (ap held_in at.list.begins) at.list.linked at.among

  -- the link of an item is that of no entry but its own
  pub apart-item : (k : ℕ) (x : Val) → value_at w k ≡ Some x → (es : List (Entry Val)) → AreLinked link_of w es → (IsAmong k es → ⊥) →
      Apart link_of (link_of x) es
  apart-item k x at [] linked not = tt
  apart-item k x at (e ∷ es) linked not = (
    (λ same. not (inl (links-apart e.slot k e.value x linked.0.there at same))),
    apart-item k x at es linked.1 (λ more. not (inr more)),
  )

  pub apart-own : (c : ℕ) → 1 ≤ outside (right_to c) → (es : List (Entry Val)) → AreLinked link_of w es → Apart link_of c es
  apart-own c mine [] linked = tt
  apart-own c mine (e ∷ es) linked = ((λ same. link-apart c e.slot e.value mine linked.0.there (sym same)), apart-own c mine es linked.1)

-- ---- a cell begins one list

pub unique : (w : World Val) (es fs : List (Entry Val)) → AreLinked link_of w es → AreLinked link_of w fs → first_slot es ≡ first_slot fs → es ≡ fs
unique w [] [] a b same = refl
unique w [] (f ∷ fs) a b same = absurd (cc)
unique w (e ∷ es) [] a b same = absurd (cc)
unique w (e ∷ es) (f ∷ fs) a b same =
    let slot : e.slot ≡ f.slot = cc in
    let values : Some e.value ≡ Some f.value = sym a.0.there ∙ ap (λ (k : ℕ). value_at w k) slot ∙ b.0.there in
    let value : e.value ≡ f.value = cc in
    let cells : Some (record { held = first_slot es; tag = e.tag }) ≡ Some (record { held = first_slot fs; tag = f.tag }) =
    sym a.0.linked ∙ ap (λ (v : Val). entry_at w.cells (link_of v)) value ∙ b.0.linked in
    let tails : es ≡ fs = unique w es fs a.1 b.1 (ap held_in cells) in
    let tags : e.tag ≡ f.tag = ap tag_in cells in
    let heads : e ≡ f =
    ap (λ (k : ℕ). record e { slot = k }) slot ∙ ap (λ (v : Val). record f { value = v; tag = e.tag }) value
    ∙ ap (λ (t : Tag). record f { tag = t }) tags in
    ap (λ (x : Entry Val). x ∷ es) heads ∙ ap (λ (xs : List (Entry Val)). f ∷ xs) tails

pub same-list : (w : World Val) (c : ℕ) (es fs : List (Entry Val)) → Begins w c es → Begins w c fs → es ≡ fs
same-list w c es fs a b = unique w es fs a.linked b.linked (ap held_in (sym a.begins ∙ b.begins))

-- the value of an entry is that in its slot
pub among-link : (w : World Val) (s : ℕ) (x : Val) (es : List (Entry Val)) → AreLinked link_of w es → IsAmong s es → value_at w s ≡ Some x →
    (e : Entry Val) × (rest : List (Entry Val)) × EndsWith es e rest × (e.slot ≡ s) × (e.value ≡ x)
among-link w s x es linked among at =
    let found = among-ends s es among in
    let here = linked-ends link_of w es found.0 found.1 found.2 linked in
    let values : Some (found.0).value ≡ Some x = sym here.0.there ∙ ap (λ (k : ℕ). value_at w k) found.3 ∙ at in
    (found.0, found.1, found.2, found.3, (let value : (found.0).value ≡ x = cc in value))

-- ---- what begins in a link is loose still

-- where the same list is there, and what is in a list was in one
pub loose-as : {before begins : ℕ → Type 0} {v w : World Val} {c : ℕ} (old : IsLoose before v c) → IsList link_of w c old.tag old.entries →
    ((s : ℕ) → IsAmong s old.entries → IsListed begins w s → IsListed before v s) → IsLoose begins w c
loose-as old list listed = record {
  tag = old.tag;
  plain = old.plain;
  entries = old.entries;
  list = list;
  numbers = old.numbers;
  free = λ s among at. old.free s among (listed s among at);
}

-- a cell holds what it held, with some tag that lines give, or what begins there is loose now
abbrev pub StaysLoose : (begins : ℕ → Type 0) (v w : World Val) → ℕ → Type 0
StaysLoose begins v w c = (cell : CellContents) → entry_at v.cells c ≡ Some cell → cell.tag ≢ Both →
    ((t : Tag) × (t ≢ Both) × (entry_at w.cells c ≡ Some (record cell { tag = t }))) ⊎ IsLoose begins w c

-- where that is so of its cell, and of the links of its entries
pub loose-on : (begins : ℕ → Type 0) (v w : World Val) (c : ℕ) (t : Tag) (es : List (Entry Val)) → IsList link_of v c t es → t ≢ Both → AreNumbers es →
    ((s : ℕ) → IsAmong s es → IsListed begins w s → ⊥) →
    ((s : ℕ) (x : Val) → IsAmong s es → value_at v s ≡ Some x → value_at w s ≡ Some x) → StaysLoose begins v w c →
    ((s : ℕ) (x : Val) → IsAmong s es → value_at v s ≡ Some x → StaysLoose begins v w (link_of x)) → IsLoose begins w c
loose-on begins v w c t [] list plain numbers free values first links = elim (first _ list.begins plain) [
  | inl same ↦ record {
    tag = same.0;
    plain = same.1;
    entries = [];
    list = record { begins = same.2; linked = tt };
    numbers = tt;
    free = λ s among at. among;
  }
  | inr loose ↦ loose
]
loose-on begins v w c t (e ∷ es) list plain numbers free values first links =
    let rest = loose-on begins v w (link_of e.value) e.tag es (record { begins = list.linked.0.linked; linked = list.linked.1 }) list.linked.0.plain
    numbers.1 (λ s among. free s (inr among)) (λ s x among. values s x (inr among)) (links e.slot e.value (inl refl) list.linked.0.there)
    (λ s x among. links s x (inr among)) in
    let there : value_at w e.slot ≡ Some e.value = values e.slot e.value (inl refl) list.linked.0.there in
    elim (first _ list.begins plain) [
      | inl same ↦ record {
        tag = same.0;
        plain = same.1;
        entries = record e { tag = rest.tag } ∷ rest.entries;
        list = record { begins = same.2; linked = (record { there = there; linked = rest.list.begins; plain = rest.plain }, rest.list.linked) };
        numbers = (numbers.0, rest.numbers);
        free = λ s among. elim among [ inl here ↦ free s (inl here) | inr more ↦ rest.free s more ];
      }
      | inr loose ↦ loose
    ]

-- ---- each list has the entries that it had, or the same with other tags

-- what a second cell holds is among these too, or let go of still
pub still-among : (v w : World Val) (second : Option ℕ) (es fs : List (Entry Val)) → ((s : ℕ) → IsAmong s es → IsAmong s fs) →
    ((s : ℕ) → second ≡ Some s → IsLetGo link_of v s → IsLetGo link_of w s) → IsSecond link_of v second es → IsSecond link_of w second fs
still-among v w None es fs still gone among = tt
still-among v w (Some k) es fs still gone (inl among) = inl (still k among)
still-among v w (Some k) es fs still gone (inr was) = inr (gone k refl was)

-- somebody has the right to each of these cells, and no cell is both a list's first and a second one
pub record AreOwn (begins : ℕ → Type 0) (seconds : (c b : ℕ) → Type 0) (outside : Claim → ℕ) : Type 0 where
  pub first : (c : ℕ) → begins c → 1 ≤ outside (right_to c)
  pub second : (c b : ℕ) → seconds c b → 1 ≤ outside (right_to b)
  pub two : (a c b : ℕ) → begins a → seconds c b → a ≢ b

-- what second cells hold that was let go of is so still
abbrev pub StaysGone : (seconds : (c b : ℕ) → Type 0) (v w : World Val) → Type 0
StaysGone seconds v w = (c b s : ℕ) → seconds c b → held_in (entry_at v.cells b) ≡ Some s → IsLetGo link_of v s → IsLetGo link_of w s

module _ (begins : ℕ → Type 0) (seconds : (c b : ℕ) → Type 0) (stored : ℕ → Type 0) (v w : World Val) (had : HasLists begins seconds stored v) where
  -- a list has the same items as before
  pub record IsAsBefore (c : ℕ) (es : List (Entry Val)) : Type 0 where
    pub now : List (Entry Val)
    pub list : Begins w c now
    pub numbers : AreNumbers es → AreNumbers now
    pub was : (s : ℕ) → IsAmong s now → IsAmong s es
    pub still : (s : ℕ) → IsAmong s es → IsAmong s now

  -- where these are the storages now. What is in a list was in one
  pub has-kept_so : (now : ℕ → Type 0) → ((c : ℕ) → begins c → (es : List (Entry Val)) → Begins v c es → IsAsBefore c es) →
      ((s : ℕ) (x : Val) → value_at w s ≡ Some x → (now s → ⊥) → ((j : ℕ) → IsListed begins w j → IsListed begins v j) →
      (held_in (entry_at w.cells (link_of x)) ≡ None) ⊎ (IsListed begins v s ⊎ IsLoose begins w (link_of x))) →
      ((c b : ℕ) → seconds c b → entry_at w.cells b ≡ entry_at v.cells b) → StaysGone seconds v w → HasLists begins seconds now w
  has-kept_so now forward links stays gone = record {
    lists = λ c x. (let old = had.lists c x in let new = forward c x old.0 old.1 in (new.now, new.list, new.numbers old.2));
    apart = λ b c s es fs x y one two at also.
        (let first = had.lists b x in
        let second = had.lists c y in
        had.apart b c s first.0 second.0 x y first.1 second.1 (back b x es one s at) (back c y fs two s also));
    linked = λ s x e not. elim (links s x e not were) [
      | inl none ↦ inl none
      | inr (inl at) ↦
          (let new = forward at.cell at.begun at.entries at.list in
          inr (inl (record { cell = at.cell; entries = new.now; begun = at.begun; list = new.list; among = new.still s at.among })))
      | inr (inr loose) ↦ inr (inr loose)
    ];
    second = λ c b y.
        (let own = had.second c b y in (
          own.0,
          (λ es list.
              let old = had.lists c own.0 in
              let new = forward c own.0 old.0 old.1 in
              let held = own.1 old.0 old.1 in
              record {
                second = held.second;
                holds = stays c b y ∙ held.holds;
                among = subst (λ fs. IsSecond link_of w held.second fs) (same-list w c new.now es new.list list)
                    (still-among v w held.second old.0 new.now new.still (λ s same. gone c b s y (ap held_in held.holds ∙ same)) held.among);
              }),
        ));
  } where
    back : (c : ℕ) (x : begins c) (es : List (Entry Val)) → Begins w c es → (s : ℕ) → IsAmong s es → IsAmong s (had.lists c x).0
    back c x es list s at =
        let old = had.lists c x in
        let new = forward c x old.0 old.1 in
        new.was s (subst (λ fs. IsAmong s fs) (same-list w c es new.now list new.list) at)

    were : (j : ℕ) → IsListed begins w j → IsListed begins v j
    were j at =
        let old = had.lists at.cell at.begun in
        record { cell = at.cell; entries = old.0; begun = at.begun; list = old.1; among = back at.cell at.begun at.entries at.list j at.among }

  pub has-kept : ((c : ℕ) → begins c → (es : List (Entry Val)) → Begins v c es → IsAsBefore c es) →
      ((s : ℕ) (x : Val) → value_at w s ≡ Some x → (stored s → ⊥) → ((j : ℕ) → IsListed begins w j → IsListed begins v j) →
      (held_in (entry_at w.cells (link_of x)) ≡ None) ⊎ (IsListed begins v s ⊎ IsLoose begins w (link_of x))) →
      ((c b : ℕ) → seconds c b → entry_at w.cells b ≡ entry_at v.cells b) → StaysGone seconds v w → HasLists begins seconds stored w
  has-kept forward links stays gone = has-kept_so stored forward links stays gone

-- where a list is as it was
pub as-before : {begins : ℕ → Type 0} {seconds : (c b : ℕ) → Type 0} {stored : ℕ → Type 0} {v w : World Val} {had : HasLists begins seconds stored v} {c : ℕ}
    {es : List (Entry Val)} →
    Begins w c es → IsAsBefore begins seconds stored v w had c es
as-before {es = es} list = record { now = es; list = list; numbers = λ all. all; was = λ s at. at; still = λ s at. at }

-- of other storages the links aren't spoken of
pub has-stored : {begins : ℕ → Type 0} {seconds : (c b : ℕ) → Type 0} {stored others : ℕ → Type 0} {w : World Val} → ((s : ℕ) → stored s → others s) →
    HasLists begins seconds stored w → HasLists begins seconds others w
has-stored wider had = record {
  lists = had.lists;
  apart = had.apart;
  linked = λ s x e not. had.linked s x e (λ was. not (wider s was));
  second = had.second;
}

-- ---- a call of the world, which sets no cell but one of those that somebody outside has the right to

module _ {v w : World Val} {ins outs : Claim → ℕ} (move : Moves holdings_of v ins w outs) (whole : IsWhole v) (rest : Claim → ℕ)
    (before : IsLedger holdings_of (λ u. rest u + ins u) v) (own : (u : Claim) → Sets holdings_of move u → 1 ≤ rest u) where
  kept : Keeps holdings_of move
  kept = (ledger-laws holdings_of v).kept whole ins outs w move

  after : IsLedger holdings_of (λ u. rest u + outs u) w
  after = kept.ledger rest before

  -- the link of a value that was there
  pub link-still : (s t : ℕ) (x y : Val) → value_at v s ≡ Some y → value_at w t ≡ Some x → link_of x ≡ link_of y →
      entry_at w.cells (link_of x) ≡ entry_at v.cells (link_of x)
  link-still s t x y was now same =
      let c = link_of x in
      let inner = link-inside w (λ u. rest u + outs u) after t x now in
      let inner_before : 1 ≤ inside holdings_of v (right_to c) =
      subst (λ l. 1 ≤ inside holdings_of v (right_to l)) (sym same) (link-inside v (λ u. rest u + ins u) before s y was) in
      let not_set : Sets holdings_of move (right_to c) → ⊥ =
      λ sets. (let alone = (tells v (λ u. rest u + ins u) before).alone c (omega (arith, own (right_to c) sets)) in omega (arith, alone.2, inner_before)) in
      kept.cells rest before c (omega (arith, inner)) not_set

  -- the entries behind a cell that is as it was
  linked-still : (c : ℕ) (es : List (Entry Val)) → held_in (entry_at v.cells c) ≡ first_slot es → entry_at w.cells c ≡ entry_at v.cells c →
      AreLinked link_of v es → AreLinked link_of w es
  linked-still c [] holds still linked = tt
  linked-still c (e ∷ es) holds still linked =
      let inner : 1 ≤ inside holdings_of w (owner_of e.slot) =
      (tells w (λ u. rest u + outs u) after).in_cell c e.slot (ap held_in still ∙ holds) in
      let there : value_at w e.slot ≡ Some e.value = kept.values rest before e.slot (omega (arith, inner)) ∙ linked.0.there in
      let link = link-still e.slot e.slot e.value e.value linked.0.there there refl in (
        record { there = there; linked = link ∙ linked.0.linked; plain = linked.0.plain },
        linked-still (link_of e.value) es (ap held_in linked.0.linked) link linked.1,
      )

  module _ (begins : ℕ → Type 0) (seconds : (c b : ℕ) → Type 0) (stored : ℕ → Type 0) (held : AreOwn begins seconds rest)
      (spares : (c : ℕ) → begins c → Sets holdings_of move (right_to c) → ⊥)
      (leaves : (c b : ℕ) → seconds c b → Sets holdings_of move (right_to b) → ⊥) where
    pub list-still : (c : ℕ) → begins c → (es : List (Entry Val)) → Begins v c es → Begins w c es
    list-still c x es list =
        let first = kept.cells rest before c (omega (arith, held.first c x)) (spares c x) in
        record { begins = first ∙ list.begins; linked = linked-still c es (ap held_in list.begins) first list.linked }

    gone-still : StaysGone seconds v w
    gone-still c b s y holds was =
        let there = kept.cells rest before b (omega (arith, held.second c b y)) (leaves c b y) in
        let inner : 1 ≤ inside holdings_of w (owner_of s) = (tells w (λ u. rest u + outs u) after).in_cell b s (ap held_in there ∙ holds) in
        let value : value_at w s ≡ Some was.value = kept.values rest before s (omega (arith, inner)) ∙ was.there in
        record { value = was.value; there = value; bare = link-still s s was.value was.value was.there value refl ∙ was.bare }

    pub has-still : HasLists begins seconds stored v → HoldsLess v w → HasLists begins seconds stored w
    has-still had less =
        has-kept begins seconds stored v w had (λ c x es list. as-before (list-still c x es list))
        (λ s x e not listed.
        let was = less s x e in
        let same = link-still s s x was.0 was.1 e was.2 in
        elim (had.linked s was.0 was.1 not) [
          | inl none ↦ inl (ap held_in same ∙ ap (λ k. held_in (entry_at v.cells k)) was.2 ∙ none)
          | inr (inl at) ↦ inr (inl at)
          | inr (inr at) ↦
              (let loose : IsLoose begins v (link_of x) = subst (λ k. IsLoose begins v k) (sym was.2) at in
              inr (inr (loose-as loose (record {
                begins = same ∙ loose.list.begins;
                linked = linked-still (link_of x) loose.entries (ap held_in loose.list.begins) same loose.list.linked;
              }) (λ j among. listed j))))
        ])
        (λ c b y. kept.cells rest before b (omega (arith, held.second c b y)) (leaves c b y)) gone-still

-- ---- one list changes

module _ (begins : ℕ → Type 0) (seconds : (c b : ℕ) → Type 0) (stored : ℕ → Type 0) (v w : World Val) (had : HasLists begins seconds stored v) (c : ℕ)
    (its : begins c)
    (stays : (a b : ℕ) → seconds a b → entry_at w.cells b ≡ entry_at v.cells b) (gone : StaysGone seconds v w)
    (es now : List (Entry Val)) (old : Begins v c es) (new : Begins w c now) (numbers : AreNumbers now)
    (of_it : (b : ℕ) → seconds c b → HoldsEntry w b now)
    (forward : (b : ℕ) → begins b → b ≢ c → (gs : List (Entry Val)) → Begins v b gs → Begins w b gs)
    (from : (s : ℕ) → IsAmong s now → IsAmong s es ⊎ (IsListed begins v s → ⊥)) where
  back : (b : ℕ) → begins b → b ≢ c → (gs : List (Entry Val)) → Begins w b gs → Begins v b gs
  back b x far gs list =
      let was = had.lists b x in subst (λ fs. Begins v b fs) (same-list w b was.0 gs (forward b x far was.0 was.1) list) was.1

  -- an entry of the list that changed is in no other
  here : (b s : ℕ) → begins b → b ≢ c → (gs fs : List (Entry Val)) → Begins w b gs → Begins w c fs → IsAmong s gs → IsAmong s fs → ⊥
  here b s x far gs fs list mine at also =
      let was = back b x far gs list in
      let moved = subst (λ hs. IsAmong s hs) (same-list w c fs now mine new) also in
      elim (from s moved) [
        | inl in_es ↦ far (had.apart b c s gs es x its was old at in_es)
        | inr not ↦ not (record { cell = b; entries = gs; begun = x; list = was; among = at })
      ]

  apart-by : (a b s : ℕ) (fs gs : List (Entry Val)) → begins a → begins b → Begins w a fs → Begins w b gs → IsAmong s fs → IsAmong s gs →
      (a ≡ c) ⊎ (a ≢ c) → (b ≡ c) ⊎ (b ≢ c) → a ≡ b
  apart-by a b s fs gs x y one two at also (inl first) (inl second) = first ∙ sym second
  apart-by a b s fs gs x y one two at also (inl first) (inr far) =
      absurd (here b s y far gs fs two (subst (λ i. Begins w i fs) first one) also at)
  apart-by a b s fs gs x y one two at also (inr far) (inl second) =
      absurd (here a s x far fs gs one (subst (λ i. Begins w i gs) second two) at also)
  apart-by a b s fs gs x y one two at also (inr far) (inr off) = had.apart a b s fs gs x y (back a x far fs one) (back b y off gs two) at also

  lists-by : (b : ℕ) → begins b → (b ≡ c) ⊎ (b ≢ c) → (gs : List (Entry Val)) × Begins w b gs × AreNumbers gs
  lists-by b x (inl same) = (now, subst (λ i. Begins w i now) (sym same) new, numbers)
  lists-by b x (inr far) = let was = had.lists b x in (was.0, forward b x far was.0 was.1, was.2)

  -- what is in a list was in one, or is an entry of this one
  listed-by : (j : ℕ) → (at : IsListed begins w j) → (at.cell ≡ c) ⊎ (at.cell ≢ c) → IsListed begins v j ⊎ IsAmong j now
  listed-by j at (inl same) =
      inr (subst (λ fs. IsAmong j fs) (same-list w c at.entries now (subst (λ i. Begins w i at.entries) same at.list) new) at.among)
  listed-by j at (inr far) =
      inl (record {
        cell = at.cell;
        entries = at.entries;
        begun = at.begun;
        list = back at.cell at.begun far at.entries at.list;
        among = at.among;
      })

  -- a link holds nothing, or is that of an entry of the list, or is that of one of another, or what begins in it is loose
  pub has-changed : ((s : ℕ) (x : Val) → value_at w s ≡ Some x → (stored s → ⊥) → ((j : ℕ) → IsListed begins w j → IsListed begins v j ⊎ IsAmong j now) →
      (held_in (entry_at w.cells (link_of x)) ≡ None) ⊎ (IsAmong s now ⊎ (((at : IsListed begins v s) × (at.cell ≢ c)) ⊎ IsLoose begins w (link_of x)))) →
      HasLists begins seconds stored w
  has-changed links = record {
    lists = λ b x. lists-by b x (cases_eq b c);
    apart = λ a b s fs gs x y one two at also. apart-by a b s fs gs x y one two at also (cases_eq a c) (cases_eq b c);
    linked = λ s x e not. elim (links s x e not (λ j at. listed-by j at (cases_eq at.cell c))) [
      | inl none ↦ inl none
      | inr (inl among) ↦ inr (inl (record { cell = c; entries = now; begun = its; list = new; among = among }))
      | inr (inr (inl other)) ↦
          inr (inl (record {
            cell = other.0.cell;
            entries = other.0.entries;
            begun = other.0.begun;
            list = forward other.0.cell other.0.begun other.1 other.0.entries other.0.list;
            among = other.0.among;
          }))
      | inr (inr (inr loose)) ↦ inr (inr loose)
    ];
    second = λ a b y.
        (let own = had.second a b y in (
          own.0,
          (λ gs list. elim (cases_eq a c) [
            | inl same ↦
                subst (λ (fs : List (Entry Val)). HoldsEntry w b fs) (same-list w c now gs new (subst (λ (i : ℕ). Begins w i gs) same list))
                (of_it b (subst (λ (i : ℕ). seconds i b) same y))
            | inr far ↦
                (let held = own.1 gs (back a own.0 far gs list) in record {
                  second = held.second;
                  holds = stays a b y ∙ held.holds;
                  among = still-among v w held.second gs gs (λ s among. among) (λ s same. gone a b s y (ap held_in held.holds ∙ same)) held.among;
                })
          ]),
        ));
  }
