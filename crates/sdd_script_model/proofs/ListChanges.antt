-- What lets go of a list's first entry, puts one in front, changes a tag, and begins and ends a list, leaves all lists there
use Rattle.sdd_script_model.proofs.Words.{◌≡◌, ◌≢◌, ◌⊎◌, ◌+◌, ◌≤◌, ◌<◌, inl, inr, length, ℕ, List, [], ◌∷◌, Bool, true, false, Option, Some, None, is_some, slice_index_or, slice_set, refl, sym, ap, ◌∙◌, subst, arith, ◌==◌, if◌then◌else◌, cases_eq, Tag, Second, Both, Entries, IsEmptyAt, entry_at, CellContents, Claim, right_to, IsLedger, inside as inner, World, standing_at, value_at, held_in, nulled, with_cell, with_value, without_cell, IsAmong, Apart, AreLinked, Entry, IsList, first_slot, let_go_first, linked_in, retagged, linked-ends, list-apart, list-without, bare, behind, list-same, retagged-list, KeepsGone, gone-same, gone-then, gone-written, let-go-kept, other-free, other-tag, second-kept, IsSecond, AreNumbers, Begins, HasLists, HoldsEntry, IsListed, IsLoose, IsNumber, Val, body_of, holdings_of, link_of, pushed, gone-first, common_steps}
use Rattle.sdd_core.specs.declared.tag.Tag.TheVariants.{None as no_tag}
use Rattle.sdd_script_model.proofs.Entry.{at-other, at-same, inside, set-either}
use Rattle.sdd_script_model.proofs.Links.{null}
use Rattle.sdd_script_model.proofs.Listed.{AreOwn, StaysGone, StaysLoose, still-among, link-inside, IsAsBefore, among-link, apart-item, apart-own, as-before, has-changed, has-kept, held-by, link-apart, links-apart, loose-as, loose-on, same-list}

-- two cells are written, and nothing else changes in cells and values: what list stays, and what a third cell holds
module _ (v w : World Val) (l c : ℕ) (x y : CellContents) (cells : w.cells ≡ slice_set (slice_set v.cells l (Some x)) c (Some y))
    (values : w.values ≡ v.values) where
  pub list-beside : (b : ℕ) (t : Tag) (es : List (Entry Val)) → b ≢ l → b ≢ c → Apart link_of l es → Apart link_of c es → IsList link_of v b t es →
      IsList link_of w b t es
  list-beside b t es far off all also list =
      list-apart link_of (with_cell v l x) w b t es c y cells values off also
      (list-apart link_of v (with_cell v l x) b t es l x refl refl far all list)

  pub third : (i : ℕ) → i ≢ l → i ≢ c → entry_at w.cells i ≡ entry_at v.cells i
  third i far off = grind (arith, common_steps)

  -- what held nothing holds nothing, unless one of the two is written
  pub none-still : (i : ℕ) → i ≢ c → x.held ≡ None → held_in (entry_at v.cells i) ≡ None → held_in (entry_at w.cells i) ≡ None
  none-still i off nothing none = grind (arith, common_steps)

  pub value-was : (s : ℕ) (z : Val) → value_at w s ≡ Some z → value_at v s ≡ Some z
  value-was s z e = ap (λ vs. slice_index_or vs s None) (sym values) ∙ e

-- ---- the first entry is let go of

module _ (begins : ℕ → Type 0) (seconds : (c b : ℕ) → Type 0) (stored : ℕ → Type 0) (v : World Val) (outside : Claim →
    ℕ) (ledger : IsLedger holdings_of outside v)
    (own : AreOwn begins seconds outside) (had : HasLists begins seconds stored v) (c : ℕ) (its : begins c)
    (single : (b : ℕ) → seconds c b → ⊥) where
  -- a second cell is not a value's link, nor the first cell of a list
  second-apart : (a b s : ℕ) (x : Val) → seconds a b → value_at v s ≡ Some x → (b ≢ link_of x) × (b ≢ c)
  second-apart a b s x y at = (link-apart v outside ledger b s x (own.second a b y) at, (λ same. own.two c a b its y (sym same)))

  module _ (p : ℕ) (e : Entry Val) (es : List (Entry Val)) (old : Begins v c (e ∷ es)) (numbers : AreNumbers (e ∷ es)) where
    abbrev gone : CellContents
    gone = record { held = None; tag = Second }

    abbrev next : CellContents
    next = record { held = first_slot es; tag = no_tag }

    abbrev w : World Val
    w = let_go_first v p c no_tag e.slot (link_of e.value) (first_slot es)

    cells : w.cells ≡ slice_set (slice_set v.cells (link_of e.value) (Some gone)) c (Some next)
    cells = (bare (with_cell (with_cell v (link_of e.value) gone) c next) p e.slot (standing_at v e.slot)).cells

    values : w.values ≡ v.values
    values = (bare (with_cell (with_cell v (link_of e.value) gone) c next) p e.slot (standing_at v e.slot)).values

    there : value_at v e.slot ≡ Some e.value
    there = old.linked.0.there

    new : Begins w c es
    new = behind link_of v p c no_tag e es old

    forward : (b : ℕ) → begins b → b ≢ c → (gs : List (Entry Val)) → Begins v b gs → Begins w b gs
    forward b x far gs list =
        list-beside v w (link_of e.value) c gone next cells values b no_tag gs (link-apart v outside ledger b e.slot e.value (own.first b x) there) far
        (apart-item v outside ledger e.slot e.value there gs list.linked (λ among. far (had.apart b c e.slot gs (e ∷ es) x its list old among (inl refl))))
        (apart-own v outside ledger c (own.first c its) gs list.linked) list

    bare-now : (s : ℕ) (z : Val) → value_at v s ≡ Some z → link_of e.value ≡ link_of z → held_in (entry_at w.cells (link_of z)) ≡ None
    bare-now s z was link =
        ap (λ (cs : Entries CellContents). held_in (entry_at cs (link_of z))) cells
        ∙ ap held_in (at-other (slice_set v.cells (link_of e.value) (Some gone)) c (link_of z) (Some next) None
        (λ same. link-apart v outside ledger c s z (own.first c its) was (sym same)))
        ∙ ap (λ (i : ℕ). held_in (entry_at (slice_set v.cells (link_of e.value) (Some gone)) i)) (sym link)
        ∙ ap held_in (at-same v.cells (link_of e.value) (Some gone) None (inside v.cells (link_of e.value) (ap is_some old.linked.0.linked)))

    in-it : (j : ℕ) → IsAmong j (e ∷ es) → IsListed begins v j
    in-it j among = record { cell = c; entries = e ∷ es; begun = its; list = old; among = among }

    -- a chain elsewhere has no entry of the list
    loose-now : (s : ℕ) (z : Val) → value_at v s ≡ Some z → link_of z ≢ link_of e.value → IsLoose begins v (link_of z) →
        ((j : ℕ) → IsListed begins w j → IsListed begins v j ⊎ IsAmong j es) → IsLoose begins w (link_of z)
    loose-now s z was far loose listed =
        loose-as loose
        (list-beside v w (link_of e.value) c gone next cells values (link_of z) loose.tag loose.entries far
        (λ same. link-apart v outside ledger c s z (own.first c its) was (sym same))
        (apart-item v outside ledger e.slot e.value there loose.entries loose.list.linked (λ among. loose.free e.slot among (in-it e.slot (inl refl))))
        (apart-own v outside ledger c (own.first c its) loose.entries loose.list.linked) loose.list)
        (λ j among at. elim (listed j at) [ inl was_in ↦ was_in | inr more ↦ in-it j (inr more) ])

    links : (s : ℕ) (z : Val) → value_at w s ≡ Some z → (stored s → ⊥) → ((j : ℕ) → IsListed begins w j → IsListed begins v j ⊎ IsAmong j es) →
        (held_in (entry_at w.cells (link_of z)) ≡ None) ⊎ (IsAmong s es ⊎ (((at : IsListed begins v s) × (at.cell ≢ c)) ⊎ IsLoose begins w (link_of z)))
    links s z e_now not listed =
        let was = value-was v w (link_of e.value) c gone next cells values s z e_now in
        let off : link_of z ≢ c = λ same. link-apart v outside ledger c s z (own.first c its) was (sym same) in
        elim (had.linked s z was not) [
          | inl none ↦ inl (none-still v w (link_of e.value) c gone next cells values (link_of z) off refl none)
          | inr (inr loose) ↦ elim (cases_eq (link_of z) (link_of e.value)) [
            | inl same ↦ inl (bare-now s z was (sym same))
            | inr far ↦ inr (inr (inr (loose-now s z was far loose listed)))
          ]
          | inr (inl at) ↦ elim (cases_eq at.cell c) [
            | inl same ↦
                elim (subst (λ fs. IsAmong s fs) (same-list v c at.entries (e ∷ es) (subst (λ i. Begins v i at.entries) same at.list) old) at.among) [
                  | inl here ↦
                      (let both : Some e.value ≡ Some z = sym there ∙ ap (λ (k : ℕ). value_at v k) here ∙ was in
                      let is : e.value ≡ z = cc in
                      inl (bare-now s z was (ap link_of is)))
                  | inr more ↦ inr (inl more)
                ]
            | inr far ↦ inr (inr (inl (at, far)))
          ]
        ]

    stays : (a b : ℕ) → seconds a b → entry_at w.cells b ≡ entry_at v.cells b
    stays a b y =
        let far = second-apart a b e.slot e.value y there in third v w (link_of e.value) c gone next cells values b far.0 far.1

    stays-gone : StaysGone seconds v w
    stays-gone a b s y holds was = let-go-kept link_of v w s (gone-first link_of v p c no_tag e es old) was

    pub has-let_go : HasLists begins seconds stored w
    has-let_go = has-changed begins seconds stored v w had c its stays stays-gone (e ∷ es) es old new numbers.1
        (λ b y. absurd (single b y)) forward (λ s among. inl (inr among)) links

  -- ---- an item is put in front, whose link holds nothing

  module _ (k : ℕ) (x : Val) (es : List (Entry Val)) (old : Begins v c es) (numbers : AreNumbers es) (there : value_at v k ≡ Some x)
      (clear : entry_at v.cells (link_of x) ≡ Some null) (number : IsNumber (body_of x))
      (unheld : (b : ℕ) → held_in (entry_at v.cells b) ≡ Some k → ⊥) where
    abbrev behind_it : CellContents
    behind_it = record { held = first_slot es; tag = no_tag }

    abbrev in_front : CellContents
    in_front = record { held = Some k; tag = no_tag }

    abbrev entry : Entry Val
    entry = record { slot = k; value = x; tag = no_tag }

    abbrev wider : World Val
    wider = linked_in v c no_tag (link_of x) k (first_slot es)

    far-link : c ≢ link_of x
    far-link = link-apart v outside ledger c k x (own.first c its) there

    not-in : (b : ℕ) (t : Tag) (gs : List (Entry Val)) → IsList link_of v b t gs → IsAmong k gs → ⊥
    not-in b t gs list among = let by = held-by v outside ledger b k gs (ap held_in list.begins) list.linked among in unheld by.0 by.1

    alone : IsListed begins v k → ⊥
    alone at = not-in at.cell no_tag at.entries at.list at.among

    longer : Begins wider c (entry ∷ es)
    longer = pushed link_of v c no_tag es k x old there clear far-link (apart-item v outside ledger k x there es old.linked (not-in c no_tag es old))

    kept-others : (b : ℕ) → begins b → b ≢ c → (gs : List (Entry Val)) → Begins v b gs → Begins wider b gs
    kept-others b y far gs list =
        list-beside v wider (link_of x) c behind_it in_front refl refl b no_tag gs (link-apart v outside ledger b k x (own.first b y) there) far
        (apart-item v outside ledger k x there gs list.linked (not-in b no_tag gs list)) (apart-own v outside ledger c (own.first c its) gs list.linked) list

    fresh-or : (s : ℕ) → IsAmong s (entry ∷ es) → IsAmong s es ⊎ (IsListed begins v s → ⊥)
    fresh-or s (inl here) = inr (λ at. alone (subst (λ i. IsListed begins v i) (sym here) at))
    fresh-or s (inr there) = inl there

    -- the item is in no chain elsewhere
    loose-beside : (s : ℕ) (z : Val) → value_at v s ≡ Some z → link_of z ≢ link_of x → IsLoose begins v (link_of z) →
        ((j : ℕ) → IsListed begins wider j → IsListed begins v j ⊎ IsAmong j (entry ∷ es)) → IsLoose begins wider (link_of z)
    loose-beside s z was far loose listed =
        let not_it = not-in (link_of z) loose.tag loose.entries loose.list in
        loose-as loose
        (list-beside v wider (link_of x) c behind_it in_front refl refl (link_of z) loose.tag loose.entries far
        (λ same. link-apart v outside ledger c s z (own.first c its) was (sym same))
        (apart-item v outside ledger k x there loose.entries loose.list.linked not_it)
        (apart-own v outside ledger c (own.first c its) loose.entries loose.list.linked) loose.list)
        (λ j among at. elim (listed j at) [
          | inl was_in ↦ was_in
          | inr (inl here) ↦ absurd (not_it (subst (λ (i : ℕ). IsAmong i loose.entries) (sym here) among))
          | inr (inr more) ↦ record { cell = c; entries = es; begun = its; list = old; among = more }
        ])

    linked-or : (s : ℕ) (z : Val) → value_at wider s ≡ Some z → (stored s → ⊥) →
        ((j : ℕ) → IsListed begins wider j → IsListed begins v j ⊎ IsAmong j (entry ∷ es)) →
        (held_in (entry_at wider.cells (link_of z)) ≡ None)
        ⊎ (IsAmong s (entry ∷ es) ⊎ (((at : IsListed begins v s) × (at.cell ≢ c)) ⊎ IsLoose begins wider (link_of z)))
    linked-or s z was not listed = elim (cases_eq (link_of z) (link_of x)) [
      | inl same ↦ inr (inl (inl (sym (links-apart v outside ledger s k z x was there same))))
      | inr far ↦ elim (had.linked s z was not) [
        | inl none ↦
            inl (ap held_in (third v wider (link_of x) c behind_it in_front refl refl (link_of z) far
            (λ same. link-apart v outside ledger c s z (own.first c its) was (sym same))) ∙ none)
        | inr (inr loose) ↦ inr (inr (inr (loose-beside s z was far loose listed)))
        | inr (inl at) ↦ elim (cases_eq at.cell c) [
          | inl same ↦
              inr (inl (inr (subst (λ fs. IsAmong s fs)
              (same-list v c at.entries es (subst (λ i. Begins v i at.entries) same at.list) old) at.among)))
          | inr off ↦ inr (inr (inl (at, off)))
        ]
      ]
    ]

    seconds-stay : (a b : ℕ) → seconds a b → entry_at wider.cells b ≡ entry_at v.cells b
    seconds-stay a b y =
        let far = second-apart a b k x y there in third v wider (link_of x) c behind_it in_front refl refl b far.0 far.1

    gone-stays : StaysGone seconds v wider
    gone-stays a b s y holds was =
        let half : World Val = with_cell v (link_of x) behind_it in
        let first : KeepsGone v half =
        gone-written v (link_of x) behind_it (other-tag (entry_at v.cells (link_of x)) null clear (λ same. absurd (cc))) in
        let begun : entry_at half.cells c ≡ Some behind_it = at-other v.cells (link_of x) c (Some behind_it) None far-link ∙ old.begins in
        let second : KeepsGone half wider =
        gone-written half c in_front (other-tag (entry_at half.cells c) behind_it begun (λ same. absurd (cc))) in
        let-go-kept link_of v wider s (gone-then v half wider first second) was

    pub has-put_in : HasLists begins seconds stored wider
    has-put_in =
        has-changed begins seconds stored v wider had c its seconds-stay gone-stays es (entry ∷ es) old longer (number, numbers)
        (λ b y. absurd (single b y)) kept-others fresh-or linked-or

-- ---- a link changes its tag, and holds what it held

numbers-by : (e : Entry Val) (t : Tag) (es fs : List (Entry Val)) → AreNumbers (e ∷ es) → AreNumbers fs → (b : Bool) →
    AreNumbers (if b then record e { tag = t } ∷ es else e ∷ fs)
numbers-by e t es fs all more true = all
numbers-by e t es fs all more false = (all.0, more)

retagged-numbers : (k : ℕ) (t : Tag) (es : List (Entry Val)) → AreNumbers es → AreNumbers (retagged k t es)
retagged-numbers k t [] all = tt
retagged-numbers k t (e ∷ es) all = numbers-by e t es (retagged k t es) all (retagged-numbers k t es all.1) (e.slot == k)

was-by : (s : ℕ) (e : Entry Val) (t : Tag) (es fs : List (Entry Val)) → (IsAmong s fs → IsAmong s es) → (b : Bool) →
    IsAmong s (if b then record e { tag = t } ∷ es else e ∷ fs) → IsAmong s (e ∷ es)
was-by s e t es fs more true among = among
was-by s e t es fs more false (inl here) = inl here
was-by s e t es fs more false (inr there) = inr (more there)

retagged-was : (k : ℕ) (t : Tag) (s : ℕ) (es : List (Entry Val)) → IsAmong s (retagged k t es) → IsAmong s es
retagged-was k t s [] among = among
retagged-was k t s (e ∷ es) among = was-by s e t es (retagged k t es) (retagged-was k t s es) (e.slot == k) among

still-by : (s : ℕ) (e : Entry Val) (t : Tag) (es fs : List (Entry Val)) → (IsAmong s es → IsAmong s fs) → IsAmong s (e ∷ es) → (b : Bool) →
    IsAmong s (if b then record e { tag = t } ∷ es else e ∷ fs)
still-by s e t es fs more among true = among
still-by s e t es fs more (inl here) false = inl here
still-by s e t es fs more (inr there) false = inr (more there)

retagged-still : (k : ℕ) (t : Tag) (s : ℕ) (es : List (Entry Val)) → IsAmong s es → IsAmong s (retagged k t es)
retagged-still k t s [] among = among
retagged-still k t s (e ∷ es) among = still-by s e t es (retagged k t es) (retagged-still k t s es) among (e.slot == k)

-- an item is an entry of a list, or it is not
pub among-or : (s : ℕ) (es : List (Entry Val)) → IsAmong s es ⊎ (IsAmong s es → ⊥)
among-or s [] = inr (λ never. never)
among-or s (e ∷ es) = elim (cases_eq e.slot s) [
  | inl here ↦ inl (inl here)
  | inr far ↦ elim (among-or s es) [
    | inl there ↦ inl (inr there)
    | inr not ↦ inr (λ either. elim either [ inl here ↦ far here | inr there ↦ not there ])
  ]
]

module _ (begins : ℕ → Type 0) (seconds : (c b : ℕ) → Type 0) (stored : ℕ → Type 0) (v : World Val) (outside : Claim →
    ℕ) (ledger : IsLedger holdings_of outside v)
    (own : AreOwn begins seconds outside) (had : HasLists begins seconds stored v) (k : ℕ) (x : Val) (there : value_at v k ≡ Some x)
    (cell now : CellContents) (holds : entry_at v.cells (link_of x) ≡ Some cell) (same : now.held ≡ cell.held) (plain : now.tag ≢ Both)
    (kept : cell.tag ≢ Second) where
  abbrev tagged : World Val
  tagged = with_cell v (link_of x) now

  retag-list : (b : ℕ) → begins b → (es : List (Entry Val)) → Begins v b es → IsAsBefore begins seconds stored v tagged had b es
  retag-list b y es list = elim (among-or k es) [
    | inl among ↦
        (let at = among-link v k x es list.linked among there in
        let here = linked-ends link_of v es at.0 at.1 at.2 list.linked in
        let link : link_of at.0.value ≡ link_of x = ap link_of at.4 in
        let cells : Some (record { held = first_slot at.1; tag = at.0.tag }) ≡ Some cell =
        sym here.0.linked ∙ ap (λ (i : ℕ). entry_at v.cells i) link ∙ holds in
        let held : now.held ≡ first_slot at.1 = same ∙ sym (ap held_in cells) in
        let is : record { held = first_slot at.1; tag = now.tag } ≡ now = ap (λ (h : Option ℕ). record now { held = h }) (sym held) in
        let made = retagged-list link_of v at.0 at.1 now.tag plain b no_tag es list at.2 in
        record {
          now = retagged at.0.slot now.tag es;
          list = subst (λ (i : ℕ). Begins (with_cell v i now) b (retagged at.0.slot now.tag es)) link
              (subst (λ (y : CellContents). Begins (with_cell v (link_of at.0.value) y) b (retagged at.0.slot now.tag es)) is made);
          numbers = retagged-numbers at.0.slot now.tag es;
          was = λ s also. retagged-was at.0.slot now.tag s es also;
          still = λ s also. retagged-still at.0.slot now.tag s es also;
        })
    | inr not ↦
        as-before (list-apart link_of v tagged b no_tag es (link_of x) now refl refl (link-apart v outside ledger b k x (own.first b y) there)
        (apart-item v outside ledger k x there es list.linked not) list)
  ]

  -- a cell has its tag, or that one
  retag-cell : (b : ℕ) → StaysLoose begins v tagged b
  retag-cell b was is was_plain = elim (cases_eq b (link_of x)) [
    | inl here ↦
        (let both : Some cell ≡ Some was = sym holds ∙ ap (λ (i : ℕ). entry_at v.cells i) (sym here) ∙ is in
        let its : cell ≡ was = cc in
        let held : now.held ≡ was.held = same ∙ ap (λ (y : CellContents). y.held) its in
        let there_now : entry_at tagged.cells b ≡ Some now =
        ap (λ (i : ℕ). entry_at tagged.cells i) here ∙ at-same v.cells (link_of x) (Some now) None (inside v.cells (link_of x) (ap is_some holds)) in
        inl (
          now.tag,
          plain,
          there_now ∙ ap (λ (h : Option ℕ). let y : CellContents = record { held = h; tag = now.tag } in Some y) held,
        ))
    | inr far ↦ inl (was.tag, was_plain, at-other v.cells (link_of x) b (Some now) None far ∙ is)
  ]

  retag-loose : (b : ℕ) → IsLoose begins v b → ((j : ℕ) → IsListed begins tagged j → IsListed begins v j) → IsLoose begins tagged b
  retag-loose b loose listed =
      loose-on begins v tagged b loose.tag loose.entries loose.list loose.plain loose.numbers (λ s among at. loose.free s among (listed s at))
      (λ s y among at. at) (retag-cell b) (λ s y among at. retag-cell (link_of y))

  pub has-retagged : HasLists begins seconds stored tagged
  has-retagged =
      has-kept begins seconds stored v tagged had retag-list
      (λ s z e not listed. elim (had.linked s z e not) [
        | inl none ↦ elim (cases_eq (link_of z) (link_of x)) [
          | inl is ↦
              (let holds_now : entry_at tagged.cells (link_of x) ≡ Some now =
              at-same v.cells (link_of x) (Some now) None (inside v.cells (link_of x) (ap is_some holds)) in
              inl (ap (λ (i : ℕ). held_in (entry_at tagged.cells i)) is ∙ ap held_in holds_now ∙ same ∙ sym (ap held_in holds)
              ∙ ap (λ (i : ℕ). held_in (entry_at v.cells i)) (sym is) ∙ none))
          | inr far ↦ inl (ap held_in (at-other v.cells (link_of x) (link_of z) (Some now) None far) ∙ none)
        ]
        | inr (inl at) ↦ inr (inl at)
        | inr (inr loose) ↦ inr (inr (retag-loose (link_of z) loose listed))
      ])
      (λ c b y. at-other v.cells (link_of x) b (Some now) None (link-apart v outside ledger b k x (own.second c b y) there))
      (λ c b s y held was.
      let-go-kept link_of v tagged s (gone-written v (link_of x) now (other-tag (entry_at v.cells (link_of x)) cell holds kept)) was)

-- ---- a list begins in a cell that was free

module _ (begins more : ℕ → Type 0) (seconds : (c b : ℕ) → Type 0) (stored : ℕ → Type 0) (v : World Val) (had : HasLists begins seconds stored v) (c : ℕ)
    (free : IsEmptyAt v.cells c)
    (new : (b : ℕ) → more b → begins b ⊎ (b ≡ c)) (old : (b : ℕ) → begins b → more b) where
  abbrev begun : World Val
  begun = nulled v c

  pub off : (b : ℕ) (y : CellContents) → entry_at v.cells b ≡ Some y → b ≢ c
  off b y holds same = absurd (let never : None ≡ Some y = sym free.1 ∙ ap (λ (i : ℕ). entry_at v.cells i) (sym same) ∙ holds in cc)

  pub apart-free : (es : List (Entry Val)) → AreLinked link_of v es → Apart link_of c es
  apart-free [] linked = tt
  apart-free (e ∷ es) linked = (off (link_of e.value) _ linked.0.linked, apart-free es linked.1)

  pub list-begun : (b : ℕ) (t : Tag) (es : List (Entry Val)) → IsList link_of v b t es → IsList link_of begun b t es
  list-begun b t es list = list-apart link_of v begun b t es c null refl refl (off b _ list.begins) (apart-free es list.linked) list

  pub stays-begun : (b : ℕ) (es : List (Entry Val)) → Begins v b es → Begins begun b es
  stays-begun b es list = list-begun b no_tag es list

  none-here : Begins begun c []
  none-here = record { begins = at-same v.cells c (Some null) None free.0; linked = tt }

  lists-begun : (b : ℕ) → begins b ⊎ (b ≡ c) → (es : List (Entry Val)) × Begins begun b es × AreNumbers es
  lists-begun b (inl x) = let was = had.lists b x in (was.0, stays-begun b was.0 was.1, was.2)
  lists-begun b (inr same) = ([], subst (λ (i : ℕ). Begins begun i []) (sym same) none-here, tt)

  -- who has an entry had it
  had-entry : (b s : ℕ) (es : List (Entry Val)) → begins b ⊎ (b ≡ c) → Begins begun b es → IsAmong s es → begins b × Begins v b es
  had-entry b s es (inl x) list among =
      let was = had.lists b x in
      (x, subst (λ (fs : List (Entry Val)). Begins v b fs) (same-list begun b was.0 es (stays-begun b was.0 was.1) list) was.1)
  had-entry b s es (inr same) list among =
      absurd (subst (λ (fs : List (Entry Val)). IsAmong s fs) (same-list begun c es [] (subst (λ (i : ℕ). Begins begun i es) same list) none-here) among)

  pub has-begun : HasLists more seconds stored begun
  has-begun = record {
    lists = λ b x. lists-begun b (new b x);
    apart = λ a b s es fs x y one two at also.
        (let first = had-entry a s es (new a x) one at in
        let second = had-entry b s fs (new b y) two also in
        had.apart a b s es fs first.0 second.0 first.1 second.1 at also);
    linked = λ s z e not. elim (had.linked s z e not) [
      | inl none ↦ inl (elim (set-either v.cells c (link_of z) (Some null) None) [ inl set ↦ ap held_in set | inr kept ↦ ap held_in kept ∙ none ])
      | inr (inl at) ↦
          inr (inl (record {
            cell = at.cell;
            entries = at.entries;
            begun = old at.cell at.begun;
            list = stays-begun at.cell at.entries at.list;
            among = at.among;
          }))
      | inr (inr loose) ↦
          inr (inr (loose-as loose (list-begun (link_of z) loose.tag loose.entries loose.list) (λ j among at.
          (let was = had-entry at.cell j at.entries (new at.cell at.begun) at.list at.among in
          record { cell = at.cell; entries = at.entries; begun = was.0; list = was.1; among = at.among }))))
    ];
    second = λ a b y.
        (let its = had.second a b y in (
          old a its.0,
          (λ es list.
              let was = had.lists a its.0 in
              let held = its.1 was.0 was.1 in
              record {
                second = held.second;
                holds = at-other v.cells c b (Some null) None (off b _ held.holds) ∙ held.holds;
                among = subst (λ (fs : List (Entry Val)). IsSecond link_of begun held.second fs)
                    (same-list begun a was.0 es (stays-begun a was.0 was.1) list)
                    (second-kept link_of v begun held.second was.0 was.0
                    (gone-written v c null (other-free (entry_at v.cells c) free.1)) (λ s among. inl among)
                    held.among);
              }),
        ));
  }

-- ---- a list ends that has no entries

module _ (begins fewer : ℕ → Type 0) (seconds : (c b : ℕ) → Type 0) (stored : ℕ → Type 0) (v : World Val) (outside : Claim →
    ℕ) (ledger : IsLedger holdings_of outside v)
    (own : AreOwn begins seconds outside) (had : HasLists begins seconds stored v) (c : ℕ) (its : begins c) (single : (b : ℕ) → seconds c b → ⊥)
    (empty : Begins v c []) (was : (b : ℕ) → fewer b → begins b × (b ≢ c))
    (kept : (b : ℕ) → begins b → b ≢ c → fewer b) where
  abbrev ended : World Val
  ended = without_cell v c

  stays-ended : (b : ℕ) → b ≢ c → (es : List (Entry Val)) → Begins v b es → Begins ended b es
  stays-ended b far es list =
      list-without link_of v ended b no_tag es c refl refl far (apart-own v outside ledger c (own.first c its) es list.linked) list

  was-there : (b : ℕ) (x : fewer b) (es : List (Entry Val)) → Begins ended b es → Begins v b es
  was-there b x es list =
      let had_it = was b x in
      let first = had.lists b had_it.0 in
      subst (λ (fs : List (Entry Val)). Begins v b fs) (same-list ended b first.0 es (stays-ended b had_it.1 first.0 first.1) list) first.1

  pub has-ended : HasLists fewer seconds stored ended
  has-ended = record {
    lists = λ b x. (let had_it = was b x in let first = had.lists b had_it.0 in (first.0, stays-ended b had_it.1 first.0 first.1, first.2));
    apart = λ a b s es fs x y one two at also. had.apart a b s es fs (was a x).0 (was b y).0 (was-there a x es one) (was-there b y fs two) at also;
    linked = λ s z e not. elim (had.linked s z e not) [
      | inl none ↦ inl (elim (set-either v.cells c (link_of z) None None) [ inl set ↦ ap held_in set | inr same ↦ ap held_in same ∙ none ])
      | inr (inl at) ↦ elim (cases_eq at.cell c) [
        | inl same ↦
            absurd (subst (λ (fs : List (Entry Val)). IsAmong s fs)
            (same-list v c at.entries [] (subst (λ (i : ℕ). Begins v i at.entries) same at.list) empty) at.among)
        | inr far ↦
            inr (inl (record {
              cell = at.cell;
              entries = at.entries;
              begun = kept at.cell at.begun far;
              list = stays-ended at.cell far at.entries at.list;
              among = at.among;
            }))
      ]
      | inr (inr loose) ↦
          inr (inr (loose-as loose
          (list-without link_of v ended (link_of z) loose.tag loose.entries c refl refl
          (λ same. link-apart v outside ledger c s z (own.first c its) e (sym same))
          (apart-own v outside ledger c (own.first c its) loose.entries loose.list.linked) loose.list)
          (λ j among at. record {
            cell = at.cell;
            entries = at.entries;
            begun = (was at.cell at.begun).0;
            list = was-there at.cell at.begun at.entries at.list;
            among = at.among;
          })))
    ];
    second = λ a b y.
        (let at = had.second a b y in
        let far : a ≢ c = λ same. single b (subst (λ (i : ℕ). seconds i b) same y) in (
          kept a at.0 far,
          (λ es list.
              let was = had.lists a at.0 in
              let held = at.1 was.0 was.1 in
              record {
                second = held.second;
                holds = at-other v.cells c b None None (λ same. own.two c a b its y (sym same)) ∙ held.holds;
                among = subst (λ (fs : List (Entry Val)). IsSecond link_of ended held.second fs)
                    (same-list ended a was.0 es (stays-ended a far was.0 was.1) list)
                    (still-among v ended held.second was.0 was.0 (λ s among. among)
                    (λ s same gone. record {
                      value = gone.value;
                      there = gone.there;
                      bare =
                          at-other v.cells c (link_of gone.value) None None
                          (λ is. link-apart v outside ledger c s gone.value (own.first c its) gone.there (sym is)) ∙ gone.bare;
                    }) held.among);
              }),
        ));
  }

-- ---- a cell changes that begins no list, and that somebody has the right to

module _ (begins : ℕ → Type 0) (seconds : (c b : ℕ) → Type 0) (stored : ℕ → Type 0) (v : World Val) (outside : Claim →
    ℕ) (ledger : IsLedger holdings_of outside v)
    (had : HasLists begins seconds stored v) (c : ℕ) (mine : 1 ≤ outside (right_to c)) (off : (b : ℕ) → begins b → b ≢ c)
    (beside : (a b : ℕ) → seconds a b → b ≢ c) (now : CellContents) where
  pub has-beside : HasLists begins seconds stored (with_cell v c now)
  has-beside =
      has-kept begins seconds stored v (with_cell v c now) had
      (λ b x es list. as-before (list-apart link_of v (with_cell v c now) b no_tag es c now refl refl (off b x)
      (apart-own v outside ledger c mine es list.linked) list))
      (λ s z e not listed. elim (had.linked s z e not) [
        | inl none ↦ inl (ap held_in (at-other v.cells c (link_of z) (Some now) None (λ same. link-apart v outside ledger c s z mine e (sym same))) ∙ none)
        | inr (inl at) ↦ inr (inl at)
        | inr (inr loose) ↦
            inr (inr (loose-as loose
            (list-apart link_of v (with_cell v c now) (link_of z) loose.tag loose.entries c now refl refl
            (λ same. link-apart v outside ledger c s z mine e (sym same)) (apart-own v outside ledger c mine loose.entries loose.list.linked) loose.list)
            (λ j among. listed j)))
      ])
      (λ a b y. at-other v.cells c b (Some now) None (beside a b y))
      (λ a b s y holds gone. record {
        value = gone.value;
        there = gone.there;
        bare =
            at-other v.cells c (link_of gone.value) (Some now) None (λ is. link-apart v outside ledger c s gone.value mine gone.there (sym is))
            ∙ gone.bare;
      })

-- ---- a value changes in its place, of an item that no cell holds

module _ (begins : ℕ → Type 0) (seconds : (c b : ℕ) → Type 0) (stored : ℕ → Type 0) (v : World Val) (outside : Claim → ℕ)
    (ledger : IsLedger holdings_of outside v) (had : HasLists begins seconds stored v) (k : ℕ) (was now : Val) (there : value_at v k ≡ Some was)
    (same : link_of now ≡ link_of was) (unheld : (b : ℕ) → held_in (entry_at v.cells b) ≡ Some k → ⊥) where
  nowhere : (b : ℕ) (t : Tag) (es : List (Entry Val)) → IsList link_of v b t es → IsAmong k es → ⊥
  nowhere b t es list among = let by = held-by v outside ledger b k es (ap held_in list.begins) list.linked among in unheld by.0 by.1

  values-kept : (es : List (Entry Val)) → (IsAmong k es → ⊥) → AreLinked link_of v es → AreLinked link_of (with_value v k now) es
  values-kept [] not linked = tt
  values-kept (e ∷ es) not linked = (
    record {
      there = at-other v.values k e.slot (Some now) None (λ is. not (inl is)) ∙ linked.0.there;
      linked = linked.0.linked;
      plain = linked.0.plain;
    },
    values-kept es (λ more. not (inr more)) linked.1,
  )

  pub has-edited : HasLists begins seconds stored (with_value v k now)
  has-edited =
      has-kept begins seconds stored v (with_value v k now) had
      (λ b x es list. as-before (record { begins = list.begins; linked = values-kept es (nowhere b no_tag es list) list.linked }))
      (λ s z e not listed.
      let chain : (b : ℕ) → IsLoose begins v b → IsLoose begins (with_value v k now) b =
      λ b loose. loose-as loose (record {
        begins = loose.list.begins;
        linked = values-kept loose.entries (nowhere b loose.tag loose.entries loose.list) loose.list.linked;
      }) (λ j among. listed j) in
      elim (cases_eq s k) [
        | inl is ↦
            (let here : value_at (with_value v k now) k ≡ Some now = at-same v.values k (Some now) None (inside v.values k (ap is_some there)) in
            let both : Some now ≡ Some z = sym here ∙ ap (λ (i : ℕ). value_at (with_value v k now) i) (sym is) ∙ e in
            let z_is : now ≡ z = cc in
            let link : link_of z ≡ link_of was = ap link_of (sym z_is) ∙ same in
            elim (had.linked k was there (λ x. not (subst stored (sym is) x))) [
              | inl none ↦ inl (ap (λ (i : ℕ). held_in (entry_at v.cells i)) link ∙ none)
              | inr (inl at) ↦ absurd (nowhere at.cell no_tag at.entries at.list at.among)
              | inr (inr loose) ↦ inr (inr (chain (link_of z) (subst (λ (i : ℕ). IsLoose begins v i) (sym link) loose)))
            ])
        | inr far ↦ elim (had.linked s z (sym (at-other v.values k s (Some now) None far) ∙ e) not) [
          | inl none ↦ inl none
          | inr (inl at) ↦ inr (inl at)
          | inr (inr loose) ↦ inr (inr (chain (link_of z) loose))
        ]
      ])
      (λ a b y. refl)
      (λ a b s y holds gone. elim (cases_eq s k) [
        | inl is ↦
            (let both : Some gone.value ≡ Some was = sym gone.there ∙ ap (λ (i : ℕ). value_at v i) is ∙ there in
            let value : gone.value ≡ was = cc in
            record {
              value = now;
              there = ap (λ (i : ℕ). value_at (with_value v k now) i) is ∙ at-same v.values k (Some now) None (inside v.values k (ap is_some there));
              bare = ap (λ (i : ℕ). entry_at v.cells i) (same ∙ ap link_of (sym value)) ∙ gone.bare;
            })
        | inr far ↦ record { value = gone.value; there = at-other v.values k s (Some now) None far ∙ gone.there; bare = gone.bare }
      ])

-- ---- cells and values are as they were

pub has-same : (begins : ℕ → Type 0) (seconds : (c b : ℕ) → Type 0) (stored : ℕ → Type 0) (v w : World Val) → w.cells ≡ v.cells → w.values ≡ v.values →
    HasLists begins seconds stored v → HasLists begins seconds stored w
has-same begins seconds stored v w cells values had =
    has-kept begins seconds stored v w had (λ b x es list. as-before (list-same link_of v w b no_tag es cells values list))
    (λ s z e not listed. elim (had.linked s z (ap (λ (vs : List (Option Val)). slice_index_or vs s None) (sym values) ∙ e) not) [
      | inl none ↦ inl (ap (λ (cs : Entries CellContents). held_in (entry_at cs (link_of z))) cells ∙ none)
      | inr (inl at) ↦ inr (inl at)
      | inr (inr loose) ↦
          inr (inr (loose-as loose (list-same link_of v w (link_of z) loose.tag loose.entries cells values loose.list) (λ j among. listed j)))
    ])
    (λ a b y. ap (λ (cs : Entries CellContents). entry_at cs b) cells)
    (λ a b s y holds was. let-go-kept link_of v w s (gone-same v w cells values) was)

-- ---- an item is made: its value is in no list yet, and its link holds nothing

module _ (begins : ℕ → Type 0) (seconds : (c b : ℕ) → Type 0) (stored : ℕ → Type 0) (v w : World Val) (k : ℕ) (x : Val)
    (had : HasLists begins seconds stored v) (cells : w.cells ≡ v.cells)
    (values : w.values ≡ slice_set v.values k (Some x)) (free : value_at v k ≡ None) (bare_link : held_in (entry_at v.cells (link_of x)) ≡ None) where
  stays-made : (es : List (Entry Val)) → AreLinked link_of v es → AreLinked link_of w es
  stays-made [] linked = tt
  stays-made (e ∷ es) linked =
      let far : e.slot ≢ k = λ same.
      absurd (let never : None ≡ Some e.value = sym free ∙ ap (λ (i : ℕ). value_at v i) (sym same) ∙ linked.0.there in cc) in (
        record {
          there = ap (λ (vs : List (Option Val)). slice_index_or vs e.slot None) values ∙ at-other v.values k e.slot (Some x) None far ∙ linked.0.there;
          linked = ap (λ (cs : Entries CellContents). entry_at cs (link_of e.value)) cells ∙ linked.0.linked;
          plain = linked.0.plain;
        },
        stays-made es linked.1,
      )

  pub has-made : k < length v.values → HasLists begins seconds stored w
  has-made long =
      has-kept begins seconds stored v w had
      (λ b y es list. as-before (record {
        begins = ap (λ (cs : Entries CellContents). entry_at cs b) cells ∙ list.begins;
        linked = stays-made es list.linked;
      }))
      (λ s z e not listed. elim (cases_eq s k) [
        | inl is ↦
            (let here : value_at w k ≡ Some x =
            ap (λ (vs : List (Option Val)). slice_index_or vs k None) values ∙ at-same v.values k (Some x) None long in
            let both : Some x ≡ Some z = sym here ∙ ap (λ (i : ℕ). value_at w i) (sym is) ∙ e in
            let z_is : x ≡ z = cc in
            inl (ap (λ (cs : Entries CellContents). held_in (entry_at cs (link_of z))) cells
            ∙ ap (λ (i : ℕ). held_in (entry_at v.cells i)) (ap link_of (sym z_is)) ∙ bare_link))
        | inr far ↦
            (let was = sym (at-other v.values k s (Some x) None far) ∙ ap (λ (vs : List (Option Val)). slice_index_or vs s None) (sym values) ∙ e in
            elim (had.linked s z was not) [
              | inl none ↦ inl (ap (λ (cs : Entries CellContents). held_in (entry_at cs (link_of z))) cells ∙ none)
              | inr (inl at) ↦ inr (inl at)
              | inr (inr loose) ↦
                  inr (inr (loose-as loose (record {
                    begins = ap (λ (cs : Entries CellContents). entry_at cs (link_of z)) cells ∙ loose.list.begins;
                    linked = stays-made loose.entries loose.list.linked;
                  }) (λ j among. listed j)))
            ])
      ])
      (λ a b y. ap (λ (cs : Entries CellContents). entry_at cs b) cells)
      (λ a b s y holds gone.
      (let far : s ≢ k = λ is. absurd (let never : None ≡ Some gone.value = sym free ∙ ap (λ (i : ℕ). value_at v i) (sym is) ∙ gone.there in cc) in
      record {
        value = gone.value;
        there = ap (λ (vs : List (Option Val)). slice_index_or vs s None) values ∙ at-other v.values k s (Some x) None far ∙ gone.there;
        bare = ap (λ (cs : Entries CellContents). entry_at cs (link_of gone.value)) cells ∙ gone.bare;
      }))

-- ---- cells are freed, but none of a list: each is somebody's, or a value's

module _ (begins : ℕ → Type 0) (seconds : (c b : ℕ) → Type 0) (stored : ℕ → Type 0) (v w : World Val) (outside : Claim →
    ℕ) (ledger : IsLedger holdings_of outside w)
    (own : AreOwn begins seconds outside) (had : HasLists begins seconds stored v) (values : w.values ≡ v.values)
    (cells : (i : ℕ) → (entry_at w.cells i ≡ entry_at v.cells i) ⊎ (entry_at w.cells i ≡ None)) where
  still-taken : (i : ℕ) → 1 ≤ outside (right_to i) + inner holdings_of w (right_to i) → entry_at w.cells i ≡ entry_at v.cells i
  still-taken i some = grind (arith, common_steps)

  linked-freed : (es : List (Entry Val)) → AreLinked link_of v es → AreLinked link_of w es
  linked-freed [] linked = tt
  linked-freed (e ∷ es) linked =
      let there : value_at w e.slot ≡ Some e.value = ap (λ (vs : List (Option Val)). slice_index_or vs e.slot None) values ∙ linked.0.there in
      let inner = link-inside w outside ledger e.slot e.value there in (
        record { there = there; linked = still-taken (link_of e.value) (omega (arith, inner)) ∙ linked.0.linked; plain = linked.0.plain },
        linked-freed es linked.1,
      )

  pub has-freed : HasLists begins seconds stored w
  has-freed =
      has-kept begins seconds stored v w had
      (λ c x es list. as-before (record { begins = still-taken c (omega (arith, own.first c x)) ∙ list.begins; linked = linked-freed es list.linked }))
      (λ s z e not listed. elim (had.linked s z (ap (λ (vs : List (Option Val)). slice_index_or vs s None) (sym values) ∙ e) not) [
        | inl none ↦ inl (elim (cells (link_of z)) [ inl same ↦ ap held_in same ∙ none | inr gone ↦ ap held_in gone ])
        | inr (inl at) ↦ inr (inl at)
        | inr (inr loose) ↦
            inr (inr (loose-as loose (record {
              begins = still-taken (link_of z) (omega (arith, link-inside w outside ledger s z e)) ∙ loose.list.begins;
              linked = linked-freed loose.entries loose.list.linked;
            }) (λ j among. listed j)))
      ])
      (λ a b y. still-taken b (omega (arith, own.second a b y)))
      (λ a b s y holds gone.
      (let there : value_at w s ≡ Some gone.value = ap (λ (vs : List (Option Val)). slice_index_or vs s None) values ∙ gone.there in
      record {
        value = gone.value;
        there = there;
        bare = still-taken (link_of gone.value) (omega (arith, link-inside w outside ledger s gone.value there)) ∙ gone.bare;
      }))

-- ---- second cells are others, and nothing changes

pub has-seconds : (begins : ℕ → Type 0) (seconds others : (c b : ℕ) → Type 0) (stored : ℕ → Type 0) (w : World Val) → HasLists begins seconds stored w →
    ((c b : ℕ) → others c b → seconds c b ⊎ (begins c × ((es : List (Entry Val)) → Begins w c es → HoldsEntry w b es))) → HasLists begins others stored w
has-seconds begins seconds others stored w had new = record {
  lists = had.lists;
  apart = had.apart;
  linked = had.linked;
  second = λ c b y. elim (new c b y) [ inl was ↦ had.second c b was | inr own ↦ own ];
}
