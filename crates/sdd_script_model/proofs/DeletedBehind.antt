-- The deleted entries behind an item are let go of, and what the script's state is then
use Rattle.sdd_script_model.proofs.Words.{◌≡◌, ◌≢◌, ◌⊎◌, ◌+◌, ◌≤◌, inl, inr, ℕ, Bool, true, false, List, [], ◌∷◌, Option, Some, None, is_some, slice_index_or, refl, sym, ap, ◌∙◌, subst, arith, ◌==◌, if◌then◌else◌, cases_eq, Tag, Both, Second, entry_at, CellContents, is_waiting, Claim, IsLedger, right_to, World, IsPlaceOf, value_at, held_in, IsWhole, once-waits, ledger-laws, spliced, EndsWith, IsAmong, AreLinked, Entry, IsList, first_slot, is_deleted, left, trimmed, IsLetGo, QueueCells, linked-ends, list-ends, trimmed-list, tag_in, let-go-kept, trim-other, trim-values, among-spliced, IsStored, AreNumbers, Begins, HasLists, HoldsEntry, IsListed, IsLoose, ScriptState, IsListCell, IsSecondCell, in_world, name_at, slot_at, IsThere, IsSound, contained, named, Val, holdings_of, link_of, gone-trimmed, trimmed-or, IsBehind, tail-cut, trimmed-around, trimmed-queue}
use Rattle.sdd_core.specs.declared.tag.Tag.TheVariants.{None as no_tag}
use Rattle.sdd_script_model.proofs.Lemmas.{IsMidway, LeavesSound, finishes, link-apart-from, own-midway, AreOwn, StaysGone, StaysLoose, among-inside, among-link, apart-item, apart-own, as-before, has-changed, has-kept, link-apart, link-inside, links-apart, loose-as, loose-on, same-list, unique, among-or, idle-named, IsReserved, off-among, there-apart, starts}
use Rattle.sdd_script_model.proofs.QueuePushSound.{linked-where}
use Rattle.sdd_script_model.proofs.StackChains.{between, front-goes, midway}
use Rattle.sdd_script_model.proofs.StackSound.{IsDatedWithin, dated-all}
use Rattle.sdd_script_model.proofs.ListsApart.{left-among}

-- ---- what is left of a list from an entry on

numbers-by : (e : Entry Val) (es : List (Entry Val)) → AreNumbers (e ∷ es) → AreNumbers (left es) → (b : Bool) →
    AreNumbers (if b then left es else e ∷ es)
numbers-by e es all more true = more
numbers-by e es all more false = all

numbers-left : (es : List (Entry Val)) → AreNumbers es → AreNumbers (left es)
numbers-left [] all = tt
numbers-left (e ∷ es) all = numbers-by e es all (numbers-left es all.1) (is_deleted e)

pub numbers-ends : (es : List (Entry Val)) (e : Entry Val) (rest : List (Entry Val)) → EndsWith es e rest → AreNumbers es → AreNumbers (e ∷ rest)
numbers-ends [] e rest at all = absurd at
numbers-ends (x ∷ xs) e rest (inl same) all = subst (λ (ys : List (Entry Val)). AreNumbers ys) same all
numbers-ends (x ∷ xs) e rest (inr at) all = numbers-ends xs e rest at all.1

pub among-behind : (s : ℕ) (es : List (Entry Val)) (e : Entry Val) (rest : List (Entry Val)) → EndsWith es e rest → IsAmong s (e ∷ rest) → IsAmong s es
among-behind s [] e rest at among = absurd at
among-behind s (x ∷ xs) e rest (inl same) among = subst (λ (ys : List (Entry Val)). IsAmong s ys) (sym same) among
among-behind s (x ∷ xs) e rest (inr at) among = inr (among-behind s xs e rest at among)

module _ (k : ℕ) (others : List (Entry Val)) where
  was-by : (s : ℕ) (whole : List (Entry Val)) (x : Entry Val) (ys : List (Entry Val)) → (IsAmong s others → IsAmong s whole) →
      (e_in : x.slot ≡ s → IsAmong s whole) → (IsAmong s ys → IsAmong s whole) → (b : Bool) → IsAmong s (if b then others else x ∷ ys) → IsAmong s whole
  was-by s whole x ys other here more true among = other among
  was-by s whole x ys other here more false (inl is) = here is
  was-by s whole x ys other here more false (inr there) = more there

  pub spliced-was : (s : ℕ) (whole es : List (Entry Val)) → (IsAmong s others → IsAmong s whole) → (IsAmong s es → IsAmong s whole) →
      IsAmong s (spliced k others es) → IsAmong s whole
  spliced-was s whole [] other still among = absurd among
  spliced-was s whole (x ∷ xs) other still among =
      was-by s whole x (spliced k others xs) other (λ is. still (inl is)) (spliced-was s whole xs other (λ more. still (inr more))) (x.slot == k) among

  spliced-by : (x : Entry Val) (xs ys : List (Entry Val)) → AreNumbers others → AreNumbers (x ∷ xs) → AreNumbers ys → (b : Bool) →
      AreNumbers (if b then others else x ∷ ys)
  spliced-by x xs ys other all more true = other
  spliced-by x xs ys other all more false = (all.0, more)

  pub numbers-spliced : (es : List (Entry Val)) → AreNumbers others → AreNumbers es → AreNumbers (spliced k others es)
  numbers-spliced [] other all = tt
  numbers-spliced (x ∷ xs) other all = spliced-by x xs (spliced k others xs) other all (numbers-spliced xs other all.1) (x.slot == k)

-- ---- of a list the deleted entries behind one of its entries are let go of

module _ (begins : ℕ → Type 0) (seconds : (c b : ℕ) → Type 0) (stored : ℕ → Type 0) (v : World Val) (outside : Claim →
    ℕ) (ledger : IsLedger holdings_of outside v)
    (own : AreOwn begins seconds outside) (had : HasLists begins seconds stored v) (p c : ℕ) (its : begins c) (full : List (Entry Val)) (list : Begins v c full)
    (numbers : AreNumbers full) (e : Entry Val) (rest : List (Entry Val)) (at : EndsWith full e rest) where
  abbrev k : ℕ
  k = link_of e.value

  abbrev w : World Val
  w = trimmed link_of v p k e.tag rest

  abbrev now : List (Entry Val)
  now = spliced e.slot (e ∷ left rest) full

  here : AreLinked link_of v (e ∷ rest)
  here = linked-ends link_of v full e rest at list.linked

  behind : IsList link_of v k e.tag rest
  behind = list-ends link_of v full e rest at list.linked

  after : IsList link_of w k e.tag (left rest)
  after = trimmed-list link_of v p k e.tag rest behind

  new : Begins w c now
  new = trimmed-around link_of v p e rest c no_tag full list at after

  in-full : (s : ℕ) → IsAmong s (e ∷ rest) → IsAmong s full
  in-full s among = among-behind s full e rest at among

  values : w.values ≡ v.values
  values = trim-values link_of v p k e.tag rest

  value-was : (s : ℕ) (z : Val) → value_at w s ≡ Some z → value_at v s ≡ Some z
  value-was s z is = ap (λ (vs : List (Option Val)). slice_index_or vs s None) (sym values) ∙ is

  -- a cell that somebody outside has the right to, and the link of an item of no entry here
  own-still : (b : ℕ) → 1 ≤ outside (right_to b) → entry_at w.cells b ≡ entry_at v.cells b
  own-still b mine =
      trim-other link_of v p k e.tag rest b (link-apart v outside ledger b e.slot e.value mine here.0.there) (apart-own v outside ledger b mine rest here.1)

  link-still : (s : ℕ) (z : Val) → value_at v s ≡ Some z → (IsAmong s full → ⊥) → entry_at w.cells (link_of z) ≡ entry_at v.cells (link_of z)
  link-still s z there not =
      trim-other link_of v p k e.tag rest (link_of z)
      (λ same. not (in-full s (inl (sym (links-apart v outside ledger s e.slot z e.value there here.0.there same)))))
      (apart-item v outside ledger s z there rest here.1 (λ among. not (in-full s (inr among))))

  forward : (b : ℕ) → begins b → b ≢ c → (gs : List (Entry Val)) → Begins v b gs → Begins w b gs
  forward b x far gs begun = record {
    begins = own-still b (own.first b x) ∙ begun.begins;
    linked = linked-where v w values gs begun.linked
        (λ s z among there. link-still s z there (λ also. far (had.apart b c s gs full x its begun list among also)));
  }

  now-was : (s : ℕ) → IsAmong s now → IsAmong s full
  now-was s among =
      spliced-was e.slot (e ∷ left rest) s full full
      (λ other. in-full s (elim other [ inl is ↦ inl is | inr more ↦ inr (left-among s rest more) ])) (λ still. still) among

  in-list : (s : ℕ) → IsAmong s full → IsListed begins v s
  in-list s among = record { cell = c; entries = full; begun = its; list = list; among = among }

  -- an entry is there still, or let go of
  keeps : (s : ℕ) → IsAmong s (e ∷ rest) → IsAmong s (e ∷ left rest) ⊎ IsLetGo link_of w s
  keeps s (inl is) = inl (inl is)
  keeps s (inr there) = elim (trimmed-or link_of v p k e.tag rest behind s there) [ inl more ↦ inl (inr more) | inr gone ↦ inr gone ]

  there-or-gone : (s : ℕ) → IsAmong s full → IsAmong s now ⊎ IsLetGo link_of w s
  there-or-gone s among =
      among-spliced link_of v w e rest e (left rest) refl values (trim-other link_of v p k e.tag rest)
      (tail-cut link_of v p e rest full list.linked at after) s full list.linked at (keeps s) among

  -- a chain elsewhere has no entry of the list
  loose-still : (s : ℕ) (z : Val) → value_at v s ≡ Some z → (IsAmong s full → ⊥) → IsLoose begins v (link_of z) →
      ((j : ℕ) → IsListed begins w j → IsListed begins v j ⊎ IsAmong j now) → IsLoose begins w (link_of z)
  loose-still s z was not loose listed =
      loose-as loose (record {
        begins = link-still s z was not ∙ loose.list.begins;
        linked = linked-where v w values loose.entries loose.list.linked
            (λ j y among there. link-still j y there (λ also. loose.free j among (in-list j also)));
      }) (λ j among is. elim (listed j is) [ inl was_in ↦ was_in | inr now_in ↦ in-list j (now-was j now_in) ])

  links : (s : ℕ) (z : Val) → value_at w s ≡ Some z → (stored s → ⊥) → ((j : ℕ) → IsListed begins w j → IsListed begins v j ⊎ IsAmong j now) →
      (held_in (entry_at w.cells (link_of z)) ≡ None) ⊎ (IsAmong s now
      ⊎ (((other : IsListed begins v s) × (other.cell ≢ c)) ⊎ IsLoose begins w (link_of z)))
  links s z is kept listed = elim (among-or s full) [
    | inl among ↦ elim (there-or-gone s among) [
      | inl stays ↦ inr (inl stays)
      | inr gone ↦
          (let both : Some gone.value ≡ Some z = sym gone.there ∙ is in
          let same : gone.value ≡ z = cc in
          inl (ap (λ (x : Val). held_in (entry_at w.cells (link_of x))) (sym same) ∙ ap held_in gone.bare))
    ]
    | inr not ↦
        (let was = value-was s z is in elim (had.linked s z was kept) [
          | inl none ↦ inl (ap held_in (link-still s z was not) ∙ none)
          | inr (inl other) ↦
              inr (inr (inl (
                other,
                λ same. not (subst (λ (fs : List (Entry Val)). IsAmong s fs)
                    (same-list v c other.entries full (subst (λ (i : ℕ). Begins v i other.entries) same other.list) list) other.among),
              )))
          | inr (inr loose) ↦ inr (inr (inr (loose-still s z was not loose listed)))
        ])
  ]

  gone : StaysGone seconds v w
  gone a b s y holds was = let-go-kept link_of v w s (gone-trimmed link_of v p k e.tag rest behind) was

  -- where the list is a queue's, its second cell may hold one that is let go of
  of-it : (b : ℕ) → seconds c b → HoldsEntry w b now
  of-it b y =
      let held = (had.second c b y).1 full list in
      let cells : QueueCells = record { oldest = c; newest = b } in
      let queue = trimmed-queue link_of v p e rest cells full held.second (record {
        list = list;
        newest = held.holds;
        among = held.among;
        two = own.two c c b its y;
        apart = apart-own v outside ledger b (own.second c b y) full list.linked;
      }) at after in
      record { second = held.second; holds = queue.newest; among = queue.among }

  pub has-cut : HasLists begins seconds stored w
  has-cut =
      has-changed begins seconds stored v w had c its (λ a b y. own-still b (own.second a b y)) gone full now list new
      (numbers-spliced e.slot (e ∷ left rest) full
      (let tail = numbers-ends full e rest at numbers in (tail.0, numbers-left rest tail.1)) numbers) of-it forward (λ s among. inl (now-was s among)) links

-- ---- and of a chain that begins in the link of an item in no list

module _ (begins : ℕ → Type 0) (seconds : (c b : ℕ) → Type 0) (stored : ℕ → Type 0) (v : World Val) (outside : Claim → ℕ)
    (ledger : IsLedger holdings_of outside v) (own : AreOwn begins seconds outside) (had : HasLists begins seconds stored v) (p i : ℕ) (x : Val)
    (at : value_at v i ≡ Some x) (alone : IsListed begins v i → ⊥) (t : Tag) (plain : t ≢ Both) (es : List (Entry Val))
    (list : IsList link_of v (link_of x) t es) (numbers : AreNumbers es) (free : (s : ℕ) → IsAmong s es → IsListed begins v s → ⊥) where
  abbrev l : ℕ
  l = link_of x

  abbrev cut : World Val
  cut = trimmed link_of v p l t es

  abbrev WereListed : Type 0
  WereListed = (j : ℕ) → IsListed begins cut j → IsListed begins v j

  values-cut : cut.values ≡ v.values
  values-cut = trim-values link_of v p l t es

  after-cut : IsList link_of cut l t (left es)
  after-cut = trimmed-list link_of v p l t es list

  own-cut : (b : ℕ) → 1 ≤ outside (right_to b) → entry_at cut.cells b ≡ entry_at v.cells b
  own-cut b mine = trim-other link_of v p l t es b (link-apart v outside ledger b i x mine at) (apart-own v outside ledger b mine es list.linked)

  -- the link of another item, which is none of these
  link-cut : (s : ℕ) (z : Val) → value_at v s ≡ Some z → s ≢ i → (IsAmong s es → ⊥) → entry_at cut.cells (link_of z) ≡ entry_at v.cells (link_of z)
  link-cut s z there far not =
      trim-other link_of v p l t es (link_of z) (λ same. far (links-apart v outside ledger s i z x there at same))
      (apart-item v outside ledger s z there es list.linked not)

  forward-cut : (b : ℕ) → begins b → (gs : List (Entry Val)) → Begins v b gs → Begins cut b gs
  forward-cut b y gs begun =
      let in_it : (s : ℕ) → IsAmong s gs → IsListed begins v s =
      λ s among. record { cell = b; entries = gs; begun = y; list = begun; among = among } in
      record {
        begins = own-cut b (own.first b y) ∙ begun.begins;
        linked = linked-where v cut values-cut gs begun.linked (λ s z among there. link-cut s z there
            (λ same. alone (subst (λ (j : ℕ). IsListed begins v j) same (in_it s among))) (λ also. free s also (in_it s among)));
      }

  -- what is left of it
  left-loose : WereListed → IsLoose begins cut l
  left-loose listed = record {
    tag = t;
    plain = plain;
    entries = left es;
    list = after-cut;
    numbers = numbers-left es numbers;
    free = λ s among is. free s (left-among s es among) (listed s is);
  }

  -- and behind one that is left
  tail-loose : (s : ℕ) (z : Val) → value_at v s ≡ Some z → IsAmong s (left es) → WereListed → IsLoose begins cut (link_of z)
  tail-loose s z there among listed =
      let now : value_at cut s ≡ Some z = ap (λ (vs : List (Option Val)). slice_index_or vs s None) values-cut ∙ there in
      let found = among-link cut s z (left es) after-cut.linked among now in
      let e : Entry Val = found.0 in
      let rest : List (Entry Val) = found.1 in
      subst (λ (y : Val). IsLoose begins cut (link_of y)) found.4 (record {
        tag = e.tag;
        plain = (linked-ends link_of cut (left es) e rest found.2 after-cut.linked).0.plain;
        entries = rest;
        list = list-ends link_of cut (left es) e rest found.2 after-cut.linked;
        numbers = (numbers-ends (left es) e rest found.2 (numbers-left es numbers)).1;
        free = λ j more is. free j (left-among j es (among-behind j (left es) e rest found.2 (inr more))) (listed j is);
      })

  -- one that is let go of has nothing behind it
  gone-loose : (s : ℕ) (z : Val) → value_at v s ≡ Some z → IsLetGo link_of cut s → IsLoose begins cut (link_of z)
  gone-loose s z there gone =
      let both : Some gone.value ≡ Some z = sym gone.there ∙ ap (λ (vs : List (Option Val)). slice_index_or vs s None) values-cut ∙ there in
      let same : gone.value ≡ z = cc in
      subst (λ (y : Val). IsLoose begins cut (link_of y)) same (record {
        tag = Second;
        plain = λ is. absurd (cc);
        entries = [];
        list = record { begins = gone.bare; linked = tt };
        numbers = tt;
        free = λ j never is. never;
      })

  among-loose : (s : ℕ) (z : Val) → value_at v s ≡ Some z → IsAmong s es → WereListed → IsLoose begins cut (link_of z)
  among-loose s z there among listed = elim (trimmed-or link_of v p l t es list s among) [
    | inl stays ↦ tail-loose s z there stays listed
    | inr gone ↦ gone-loose s z there gone
  ]

  -- each link is as before, or what begins there is loose
  change : (s : ℕ) (z : Val) → value_at v s ≡ Some z → WereListed → StaysLoose begins v cut (link_of z)
  change s z there listed cell is plain_so = elim (cases_eq s i) [
    | inl same ↦
        (let both : Some x ≡ Some z = sym at ∙ ap (λ (j : ℕ). value_at v j) (sym same) ∙ there in
        let value : x ≡ z = cc in
        inr (subst (λ (y : Val). IsLoose begins cut (link_of y)) value (left-loose listed)))
    | inr far ↦ elim (among-or s es) [
      | inl among ↦ inr (among-loose s z there among listed)
      | inr not ↦ inl (cell.tag, plain_so, link-cut s z there far not ∙ is)
    ]
  ]

  links-cut : (s : ℕ) (z : Val) → value_at cut s ≡ Some z → (stored s → ⊥) → WereListed →
      (held_in (entry_at cut.cells (link_of z)) ≡ None) ⊎ (IsListed begins v s ⊎ IsLoose begins cut (link_of z))
  links-cut s z now kept listed =
      let was : value_at v s ≡ Some z = ap (λ (vs : List (Option Val)). slice_index_or vs s None) (sym values-cut) ∙ now in
      elim (cases_eq s i) [
        | inl same ↦
            (let both : Some x ≡ Some z = sym at ∙ ap (λ (j : ℕ). value_at v j) (sym same) ∙ was in
            let value : x ≡ z = cc in
            inr (inr (subst (λ (y : Val). IsLoose begins cut (link_of y)) value (left-loose listed))))
        | inr far ↦ elim (among-or s es) [
          | inl among ↦ inr (inr (among-loose s z was among listed))
          | inr not ↦ elim (had.linked s z was kept) [
            | inl none ↦ inl (ap held_in (link-cut s z was far not) ∙ none)
            | inr (inl is_in) ↦ inr (inl is_in)
            | inr (inr other) ↦
                inr (inr (loose-on begins v cut (link_of z) other.tag other.entries other.list other.plain other.numbers
                (λ j among is. other.free j among (listed j is))
                (λ j y among there. ap (λ (vs : List (Option Val)). slice_index_or vs j None) values-cut ∙ there) (change s z was listed)
                (λ j y among there. change j y there listed)))
          ]
        ]
      ]

  pub has-trimmed : HasLists begins seconds stored cut
  has-trimmed =
      has-kept begins seconds stored v cut had (λ b y gs begun. as-before (forward-cut b y gs begun)) links-cut
      (λ a b y. own-cut b (own.second a b y))
      (λ a b s y holds was. let-go-kept link_of v cut s (gone-trimmed link_of v p l t es list) was)

-- ---- what is behind an item

module _ (d : ScriptState) (s : IsSound d) (i : ℕ) (v : Val) (there : value_at d.world (slot_at d i) ≡ Some v) (named_so : IsThere d i) where
  taken-is : (x : Option CellContents) → is_some x ≡ true → (cell : CellContents) × (x ≡ Some cell)
  taken-is None never = absurd (let wrong : false ≡ true = never in cc)
  taken-is (Some cell) taken = (cell, refl)

  link-there : (cell : CellContents) × (entry_at d.world.cells (link_of v) ≡ Some cell)
  link-there =
      let inner = link-inside d.world (λ u. named d u + contained d u) s.ledger (slot_at d i) v there in
      taken-is (entry_at d.world.cells (link_of v))
      (once-waits (is_some (entry_at d.world.cells (link_of v))) (omega (arith, s.ledger (right_to (link_of v)), inner)))

  -- there is such a list, which may be empty
  pub behind-there : (t : Tag) × (es : List (Entry Val)) × IsBehind d i (link_of v) t es
  behind-there = elim (s.lists.linked (slot_at d i) v there (there-apart d s.bags i named_so)) [
    | inl none ↦
        (let cell = link-there in
        let bare : cell.0.held ≡ None = sym (ap held_in cell.1) ∙ none in
        let begins : entry_at d.world.cells (link_of v) ≡ Some (record { held = None; tag = cell.0.tag }) =
        cell.1 ∙ ap (λ (x : Option ℕ). let c : CellContents = record { held = x; tag = cell.0.tag } in Some c) bare in
        (cell.0.tag, [], record { entry = v; there = there; link = refl; list = record { begins = begins; linked = tt } }))
    | inr (inr loose) ↦ (loose.tag, loose.entries, record { entry = v; there = there; link = refl; list = loose.list })
    | inr (inl at) ↦
        (let found = among-link d.world (slot_at d i) v at.entries at.list.linked at.among there in
        let list = list-ends link_of d.world at.entries found.0 found.1 found.2 at.list.linked in (
          found.0.tag,
          found.1,
          record {
            entry = v;
            there = there;
            link = refl;
            list = subst (λ (x : Val). IsList link_of d.world (link_of x) found.0.tag found.1) found.4 list;
          },
        ))
  ]

first-among : (es : List (Entry Val)) (j : ℕ) → first_slot es ≡ Some j → IsAmong j es
first-among [] j is = absurd (cc)
first-among (e ∷ es) j is = inl (let same : e.slot ≡ j = cc in same)

-- the first entry behind a cell that isn't deleted has a name, since a link owns it
pub behind-named : (d : ScriptState) (s : IsSound d) (c : ℕ) (t : Tag) (es : List (Entry Val)) → IsList link_of d.world c t es →
    (IsReserved d d.world c → ⊥) → (j : ℕ) → first_slot (left es) ≡ Some j → is_some (name_at d j) ≡ true
behind-named d s c t es list off j is =
    let among = left-among j es (first-among (left es) j is) in
    let no_storage = off-among d d.world (named d) s.ledger (λ n b fs at stands. stands) c j es off (ap held_in list.begins) list.linked among in
    let inner = among-inside d.world (λ u. named d u + contained d u) s.ledger c j es (ap held_in list.begins) list.linked among in
    let stands = ((ledger-laws holdings_of d.world).tells _ s.ledger).stands j (omega (arith, inner)) in
    elim stands [
      | inl sole ↦ ap is_some (idle-named d s.stocked j (ap is_some sole.0) (ap is_waiting sole.0) no_storage).is
      | inr several ↦ ap is_some (idle-named d s.stocked j (ap is_some several.1) (ap is_waiting several.1) no_storage).is
    ]

-- ---- the line

module _ (d : ScriptState) (s : IsSound d) (whole : IsWhole d.world) (p : ℕ) (live : IsPlaceOf d.world p) (i k : ℕ) (t : Tag) (es : List (Entry Val))
    (is : IsBehind d i k t es) (named_so : IsThere d i) where
  abbrev w_after : World Val
  w_after = trimmed link_of d.world p k t es

  start : IsMidway d d.world (named d)
  start = starts d s whole

  no-entry : (xs : List (Entry Val)) → first_slot xs ≡ None → xs ≡ []
  no-entry [] none = refl
  no-entry (x ∷ xs) none = absurd (cc)

  -- where it is in no list
  lists-by : (u : Tag) → u ≢ Both → (fs : List (Entry Val)) → IsList link_of d.world (link_of is.entry) u fs → AreNumbers fs →
      ((j : ℕ) → IsAmong j fs → IsListed (IsListCell d) d.world j → ⊥) →
      HasLists (IsListCell d) (IsSecondCell d) (IsStored d.bags d.world) (trimmed link_of d.world p (link_of is.entry) u fs)
  lists-by u plain [] list numbers free = s.lists
  lists-by u plain (f ∷ fs) list numbers free =
      has-trimmed (IsListCell d) (IsSecondCell d) (IsStored d.bags d.world) d.world (λ y. named d y + contained d y) start.ledger (own-midway start) s.lists p
      (slot_at d i) is.entry is.there
      (λ listed.
      let found = among-link d.world (slot_at d i) is.entry listed.entries listed.list.linked listed.among is.there in
      let here = linked-ends link_of d.world listed.entries found.0 found.1 found.2 listed.list.linked in
      let held : first_slot (found.1) ≡ Some f.slot =
      ap held_in (sym here.0.linked ∙ ap (λ (y : Val). entry_at d.world.cells (link_of y)) found.4 ∙ list.begins) in
      free f.slot (inl refl) (record {
        cell = listed.cell;
        entries = listed.entries;
        begun = listed.begun;
        list = listed.list;
        among = among-behind f.slot listed.entries found.0 found.1 found.2 (inr (first-among found.1 f.slot held));
      })) u plain (f ∷ fs) list numbers free

  lists-after : HasLists (IsListCell d) (IsSecondCell d) (IsStored d.bags d.world) w_after
  lists-after = elim (s.lists.linked (slot_at d i) is.entry is.there (there-apart d s.bags i named_so)) [
    | inl none ↦
        (let bare : first_slot es ≡ None = sym (ap held_in (ap (λ (j : ℕ). entry_at d.world.cells j) is.link ∙ is.list.begins)) ∙ none in
        subst (λ (xs : List (Entry Val)). HasLists (IsListCell d) (IsSecondCell d) (IsStored d.bags d.world) (trimmed link_of d.world p k t xs))
        (sym (no-entry es bare)) s.lists)
    | inr (inr loose) ↦
        (let cells : Some (record { held = first_slot loose.entries; tag = loose.tag }) ≡ Some (record { held = first_slot es; tag = t }) =
        sym loose.list.begins ∙ ap (λ (j : ℕ). entry_at d.world.cells j) is.link ∙ is.list.begins in
        let tails : loose.entries ≡ es = unique d.world loose.entries es loose.list.linked is.list.linked (ap held_in cells) in
        let same : trimmed link_of d.world p (link_of is.entry) loose.tag loose.entries ≡ w_after =
        ap (λ (j : ℕ). trimmed link_of d.world p j loose.tag loose.entries) is.link
        ∙ ap (λ (u : Tag). trimmed link_of d.world p k u loose.entries) (ap tag_in cells)
        ∙ ap (λ (xs : List (Entry Val)). trimmed link_of d.world p k t xs) tails in
        subst (λ (u : World Val). HasLists (IsListCell d) (IsSecondCell d) (IsStored d.bags d.world) u) same
        (lists-by loose.tag loose.plain loose.entries loose.list loose.numbers loose.free))
    | inr (inl listed) ↦
        (let found = among-link d.world (slot_at d i) is.entry listed.entries listed.list.linked listed.among is.there in
        let e : Entry Val = found.0 in
        let rest : List (Entry Val) = found.1 in
        let here = linked-ends link_of d.world listed.entries e rest found.2 listed.list.linked in
        let link : link_of e.value ≡ k = ap link_of found.4 ∙ is.link in
        let cells : Some (record { held = first_slot rest; tag = e.tag }) ≡ Some (record { held = first_slot es; tag = t }) =
        sym here.0.linked ∙ ap (λ (j : ℕ). entry_at d.world.cells j) link ∙ is.list.begins in
        let tails : rest ≡ es = unique d.world rest es here.1 is.list.linked (ap held_in cells) in
        let first = s.lists.lists listed.cell listed.begun in
        let numbers : AreNumbers listed.entries =
        subst (λ (fs : List (Entry Val)). AreNumbers fs) (same-list d.world listed.cell first.0 listed.entries first.1 listed.list) first.2 in
        let cut = has-cut (IsListCell d) (IsSecondCell d) (IsStored d.bags d.world) d.world (λ u. named d u + contained d u) start.ledger (own-midway start)
        s.lists p listed.cell
        listed.begun listed.entries listed.list numbers e rest found.2 in
        let same : trimmed link_of d.world p (link_of e.value) e.tag rest ≡ w_after =
        ap (λ (j : ℕ). trimmed link_of d.world p j e.tag rest) link ∙ ap (λ (u : Tag). trimmed link_of d.world p k u rest) (ap tag_in cells)
        ∙ ap (λ (xs : List (Entry Val)). trimmed link_of d.world p k t xs) tails in
        subst (λ (u : World Val). HasLists (IsListCell d) (IsSecondCell d) (IsStored d.bags d.world) u) same cut)
  ]

  abbrev pub after_next : List ℕ → ScriptState
  after_next dates = record (in_world d w_after) { dates = dates }

  pub next-leaves : (dates : List ℕ) → IsDatedWithin d (after_next dates) → LeavesSound d (after_next dates)
  next-leaves dates within =
      let off : IsReserved d d.world k → ⊥ =
      subst (λ (l : ℕ). IsReserved d d.world l → ⊥) is.link
      (link-apart-from start (slot_at d i) is.entry is.there (there-apart d s.bags i named_so)) in
      let m = midway (front-goes d.world (between start) p k t off live es is.list) lists-after in
      finishes d w_after d.owners d.cells d.collectors dates s m
      (λ u. refl) (s.home.owners, s.home.cells, s.home.collectors) (dated-all d (after_next dates) s.stocked m.frames.slots.slots within) p live
