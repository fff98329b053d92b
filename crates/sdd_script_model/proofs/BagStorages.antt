-- The storages of bags stay where they are, and as they are, over a call that sets no cell of theirs and makes no owner more of one
use Rattle.sdd_script_model.proofs.Words.{◌≡◌, ◌≢◌, ◌⊎◌, ◌+◌, ◌≤◌, inl, inr, ℕ, List, [], ◌∷◌, Bool, true, false, cond, Option, Some, None, is_some, slice_index_or, slice_set, eq-eqb, refl, sym, ap, ◌∙◌, subst, arith, ◌==◌, cases_eq, get_or-le-sum_by, entry_at, without_entry, CellContents, Standing, Owned, Raw, Shared, Retired, Private as privately, LimboEntry, collector_closed, waiting_for, without_collector, atomic_shared, Claim, owner_of, right_to, claims, inside, one, times_kept, IsLedger, Keeps, Moves, Sets, stirs, accelerates, changes_pointers, makes, shares, retires, releases, collects, drops, puts_out_raw, takes_back_raw, edits, makes_cell, changes_cell, spends_cell, closes_cell, closes_collector, is_out, holds_slot, times_held, World, standing_at, value_at, all_reclaimed, cell_closed, dropped, dropped_out, freed, held_in, opened, owner_given, retired, vacated, IsWhole, sum-out, once-bound, ledger-laws, IsAmong, AreLinked, Entry, first_slot, cell_in, AreShelves, StorageName, AreBags, AreSpare, HasStorages, IsKept, IsSpare, IsStored, StandsOn, bagged, IsThere, NumberBag, ScriptState, bag_at, bag_length, name_at, slot_at, contained, stacked, Value, IsPutIn, Val, body_of, holdings_of, link_of, owner_in, storage_in, Body, with_standing, ◌-◌, ◌<◌, owner_count, IsLinkIn, owner-given, common_steps}
use Rattle.sdd_world_model.specs.OwnerCounts.{is_of}
use Rattle.sdd_world_model.specs.Ledger.Moves.{registers, ends, opens, closes, defers}
use Rattle.sdd_script_model.proofs.Entry.{at-other, inside as inside-list}
use Rattle.sdd_script_model.proofs.ReclaimedSlots.{given-other}
use Rattle.sdd_script_model.proofs.Links.{HoldsLess, holds-so, less-same, same-once}
use Rattle.sdd_script_model.proofs.Listed.{among-inside, same-list, link-claimed}
use Rattle.sdd_script_model.proofs.SlotsHaveNames.{KeepsStored}
use Rattle.sdd_script_model.proofs.SmallSteps.{closes-cell, gives-all, opens-guard, reclaims-all}
use Rattle.sdd_bag.specs.Storages as storages
use Rattle.sdd_script_model.specs.declared.val.Body.TheVariants as body

-- ---- what the ledger tells of cells that hold, and of cells that values hold

holds-one : (k : ℕ) (x : Option CellContents) → held_in x ≡ Some k → let count : ℕ = cond (holds_slot k x) 1 0 in count ≡ 1
holds-one k x holds =
    ap (λ (h : Option ℕ). cond (is_of k h) 1 0) holds ∙ (let same : (k == k) ≡ true = eq-eqb k k refl in ap (λ (b : Bool). cond b 1 0) same)

some-one : (k : ℕ) (x : Option CellContents) → held_in x ≡ Some k → is_some x ≡ true
some-one k None holds = absurd (cc)
some-one k (Some x) holds = refl

module _ (w : World Val) (outside : Claim → ℕ) (ledger : IsLedger holdings_of outside w) where
  -- an item that two cells hold has two owners inside
  pub held-twice : (b c k : ℕ) → b ≢ c → held_in (entry_at w.cells b) ≡ Some k → held_in (entry_at w.cells c) ≡ Some k → 2 ≤ inside holdings_of w (owner_of k)
  held-twice b c k far one two =
      let count : Option CellContents → ℕ = λ x. cond (holds_slot k x) 1 0 in
      let rest : List (Option CellContents) = slice_set w.cells b None in
      let there : slice_index_or rest c None ≡ entry_at w.cells c = at-other w.cells b c None None (λ same. far (sym same)) in
      let first : count (entry_at w.cells b) ≡ 1 = holds-one k (entry_at w.cells b) one in
      let second : count (slice_index_or rest c None) ≡ 1 = holds-one k (slice_index_or rest c None) (ap held_in there ∙ two) in
      let long = inside-list rest c (some-one k (slice_index_or rest c None) (ap held_in there ∙ two)) in
      omega (arith, sum-out count refl w.cells b, first, second, get_or-le-sum_by count rest c None long)

  -- a value has the right to the cell
  pub claim-inside : (c s : ℕ) (x : Val) → value_at w s ≡ Some x → 1 ≤ claims (holdings_of x) (right_to c) → 1 ≤ inside holdings_of w (right_to c)
  claim-inside c s x at mine = omega (arith, ((ledger-laws holdings_of w).tells outside ledger).in_value s x at (right_to c), mine)

  -- then nobody outside has
  pub claim-apart : (c s : ℕ) (x : Val) → value_at w s ≡ Some x → 1 ≤ claims (holdings_of x) (right_to c) → 1 ≤ outside (right_to c) → ⊥
  claim-apart c s x at mine other =
      omega (arith, (((ledger-laws holdings_of w).tells outside ledger).alone c other).2, claim-inside c s x at mine)

  -- nor does another value, and the value has it once
  pub claims-same : (c s t : ℕ) (x y : Val) → value_at w s ≡ Some x → value_at w t ≡ Some y → 1 ≤ claims (holdings_of x) (right_to c) →
      1 ≤ claims (holdings_of y) (right_to c) → t ≡ s
  claims-same c s t x y at other first second = elim (cases_eq t s) [
    | inl is ↦ is
    | inr far ↦
        (let kept : Option Val → ℕ = times_kept holdings_of c in
        let rest : List (Option Val) = slice_set w.values s None in
        let there : slice_index_or rest t None ≡ Some y = at-other w.values s t None None far ∙ other in
        let most = get_or-le-sum_by kept rest t None (inside-list rest t (ap is_some there)) in
        absurd (omega (
          arith,
          ledger (right_to c),
          once-bound (is_some (entry_at w.cells c)),
          sum-out kept refl w.values s,
          ap kept at,
          ap kept there,
          most,
          first,
          second,
        )))
  ]

  pub claimed-once : (c s : ℕ) (x : Val) → value_at w s ≡ Some x → claims (holdings_of x) (right_to c) ≤ 1
  claimed-once c s x at =
      omega (
        arith,
        ledger (right_to c),
        once-bound (is_some (entry_at w.cells c)),
        ((ledger-laws holdings_of w).tells outside ledger).in_value s x at (right_to c),
      )

-- what a storage has the right to
pub owned-cell : (b : Body) (st : StorageName) → storage_in b ≡ Some st → owner_in b ≡ storages.holdings_of st
owned-cell b st h = grind (arith, common_steps)

-- what has the right to a storage's cell is one
pub cell-storage : (b : Body) (st : StorageName) → owner_in b ≡ storages.holdings_of st → (other : StorageName) × (storage_in b ≡ Some other)
    × (other.cell ≡ st.cell)
cell-storage (body.Number n) st is = absurd (cc)
cell-storage (body.Owned o) st is = absurd (cc)
cell-storage (body.Shared o) st is = absurd (cc)
cell-storage (body.Storage s) st is = (s, refl, (let same : atomic_shared s.cell s.home ≡ atomic_shared st.cell st.home = cc in cc))

pub spare-claimed : (w : World Val) (c : ℕ) (x : IsSpare w c) → 1 ≤ claims (holdings_of x.value) (right_to c)
spare-claimed w c x = grind (arith, common_steps)

-- a storage was one, where values hold no more than before
pub spare-was : (v w : World Val) (c : ℕ) → HoldsLess v w → IsSpare w c → IsSpare v c
spare-was v w c less x =
    let was = less x.slot x.value x.there in
    let same = cell-storage (body_of was.0) x.storage (sym was.3 ∙ owned-cell (body_of x.value) x.storage x.is) in
    record { slot = x.slot; value = was.0; there = was.1; storage = same.0; is = same.1; cell = same.2 ∙ x.cell }

-- what the own cells of storages hold is as before
pub spare-as : (v w : World Val) → HoldsLess v w → ((c : ℕ) → IsSpare v c → held_in (entry_at w.cells c) ≡ held_in (entry_at v.cells c)) → AreSpare v →
    AreSpare w
spare-as v w less same spare c x = let was = spare-was v w c less x in same c was ∙ spare c was

-- what a line puts into an item is none
pub put-plain : (d : ScriptState) (value : Value) (b : Body) → IsPutIn d value b → (st : StorageName) → storage_in b ≡ Some st → ⊥
put-plain d value b h st h2 = grind (arith, common_steps)

-- ---- where a script's bags are

-- each of these bags has its other storages on the entries on which it had them
abbrev pub BagsStay : List (Option NumberBag) → (old new : World Val) → Type 0
BagsStay bags old new =
    (n : ℕ) (b : NumberBag) (es : List (Entry Val)) → bag_at bags n ≡ Some b → StandsOn old b es → StandsOn new b es

-- the cell is one of the storages, or a storage's own
abbrev pub IsReserved : ScriptState → World Val → ℕ → Type 0
IsReserved d w c = IsKept d.bags d.world c ⊎ IsSpare w c

-- the same cells are where the values are the same
pub reserved-was : (d : ScriptState) (v w : World Val) (c : ℕ) → w.values ≡ v.values → IsReserved d w c → IsReserved d v c
reserved-was d v w c same (inl kept) = inl kept
reserved-was d v w c same (inr spare) = inr (spare-was v w c (less-same v w same) spare)

-- such a call sets no cell of storages, and makes no owner more of one
abbrev pub Spares : (d : ScriptState) → {v w : World Val} {ins outs : Claim → ℕ} → Moves holdings_of v ins w outs → Type 0
Spares d (shares w k n is) = IsStored d.bags d.world k → ⊥
Spares d (changes_cell w c old cell is) = IsReserved d w c → ⊥
Spares d other = Unit {0}

-- a bag is two rights to cells
pub bag-right : (bs : List (Option NumberBag)) (n : ℕ) (b : NumberBag) → bag_at bs n ≡ Some b → 1 ≤ bagged bs (right_to (cell_in b.overflow.stack))
bag-right bs n b is = grind (arith, common_steps)

module _ (d : ScriptState) (w : World Val) (outside : Claim → ℕ) (ledger : IsLedger holdings_of (λ u. outside u + contained d u) w)
    (stay : BagsStay d.bags d.world w) where
  abbrev total : Claim → ℕ
  total u = outside u + contained d u

  -- in a chain of entries each item is held by the cell before
  held-by : (c s : ℕ) (es : List (Entry Val)) → held_in (entry_at w.cells c) ≡ first_slot es → AreLinked link_of w es → IsAmong s es →
      (b : ℕ) × ((b ≡ c) ⊎ IsLinkIn b es) × (held_in (entry_at w.cells b) ≡ Some s)
  held-by c s [] holds linked among = absurd among
  held-by c s (e ∷ es) holds linked (inl here) = (c, inl refl, holds ∙ ap (λ (i : ℕ). Some i) here)
  held-by c s (e ∷ es) holds linked (inr there) =
      let more = held-by (link_of e.value) s es (ap held_in linked.0.linked) linked.1 there in
      (more.0, inr (elim more.1 [ inl same ↦ inl (sym same) | inr later ↦ inr later ]), more.2)

  pub holder : (s : ℕ) → IsStored d.bags d.world s → (b : ℕ) × IsKept d.bags d.world b × (held_in (entry_at w.cells b) ≡ Some s)
  holder s x =
      let now = stay x.storages.name x.storages.bag x.entries x.storages.is x.storages.stands in
      let found = held-by (cell_in x.storages.bag.overflow.stack) s x.entries (ap held_in now.stack.begins) now.stack.linked x.among in (
        found.0,
        record {
          entries = x.entries;
          storages = x.storages;
          cell = elim found.1 [ inl same ↦ inl (sym same) | inr link ↦ inr link ];
        },
        found.2,
      )

  -- a storage's item has one owner, which is inside
  pub record IsHeldOnce (s : ℕ) : Type 0 where
    pub stands : standing_at w s ≡ Some (Shared 1)
    pub none : outside (owner_of s) ≡ 0
    pub once : inside holdings_of w (owner_of s) ≡ 1

  sole-among : (s : ℕ) (es : List (Entry Val)) → AreShelves storage_in bag_length w es → IsAmong s es → standing_at w s ≡ Some (Shared 1)
  sole-among s [] are among = absurd among
  sole-among s (e ∷ es) are (inl here) = ap (λ (i : ℕ). standing_at w i) (sym here) ∙ are.0.sole
  sole-among s (e ∷ es) are (inr there) = sole-among s es are.2 there

  pub held-once : (s : ℕ) → IsStored d.bags d.world s → IsHeldOnce s
  held-once s x =
      let now = stay x.storages.name x.storages.bag x.entries x.storages.is x.storages.stands in
      let stands = sole-among s x.entries now.shelves x.among in
      let inner = among-inside w total ledger (cell_in x.storages.bag.overflow.stack) s x.entries (ap held_in now.stack.begins) now.stack.linked x.among in
      let needed : owner_count (standing_at w s) ≡ 1 = ap owner_count stands in
      record { stands = stands; none = omega (arith, ledger (owner_of s), needed, inner); once = omega (arith, ledger (owner_of s), needed, inner) }

  -- who has an owner outside has none of a storage's
  pub off-owned : (s : ℕ) → 1 ≤ outside (owner_of s) → IsStored d.bags d.world s → ⊥
  off-owned s mine x = omega (arith, mine, (held-once s x).none)

  -- what doesn't stand as shared by one is no storage
  pub off-standing : (s : ℕ) → (standing_at w s ≡ Some (Shared 1) → ⊥) → IsStored d.bags d.world s → ⊥
  off-standing s not x = not (held-once s x).stands

  -- an item that another cell holds is no storage
  pub off-held : (c s : ℕ) → (IsKept d.bags d.world c → ⊥) → held_in (entry_at w.cells c) ≡ Some s → IsStored d.bags d.world s → ⊥
  off-held c s off holds x =
      let by = holder s x in
      let far : by.0 ≢ c = λ same. off (subst (λ (i : ℕ). IsKept d.bags d.world i) same by.1) in
      omega (arith, held-twice w total ledger by.0 c s far by.2 holds, (held-once s x).once)

  -- nor is one that a value holds
  pub off-valued : (j s : ℕ) → 1 ≤ times_held holdings_of s (value_at w j) → IsStored d.bags d.world s → ⊥
  off-valued j s some x =
      let by = holder s x in
      let count : Option CellContents → ℕ = λ y. cond (holds_slot s y) 1 0 in
      let here : count (entry_at w.cells by.0) ≡ 1 = holds-one s (entry_at w.cells by.0) by.2 in
      let cells = get_or-le-sum_by count w.cells by.0 None (inside-list w.cells by.0 (some-one s (entry_at w.cells by.0) by.2)) in
      let values = get_or-le-sum_by (times_held holdings_of s) w.values j None (inside-list w.values j (value-some (value_at w j) some)) in
      omega (arith, here, cells, values, some, (held-once s x).once) where
        value-some : (v : Option Val) → 1 ≤ times_held holdings_of s v → is_some v ≡ true
        value-some None some = absurd (omega (arith, some))
        value-some (Some v) some = refl

  -- the value of a storage is there
  stored-value : (c : ℕ) (es : List (Entry Val)) → AreLinked link_of w es → IsLinkIn c es →
      (s : ℕ) × (v : Val) × IsAmong s es × (value_at w s ≡ Some v) × (link_of v ≡ c)
  stored-value c [] linked at = absurd at
  stored-value c (e ∷ es) linked (inl here) = (e.slot, e.value, inl refl, linked.0.there, here)
  stored-value c (e ∷ es) linked (inr more) =
      let found = stored-value c es linked.1 more in (found.0, found.1, inr found.2, found.3, found.4)

  -- the cell is a stack's, or the link of a storage's value
  kept-so : (c : ℕ) → IsKept d.bags d.world c → (1 ≤ bagged d.bags (right_to c))
      ⊎ ((s : ℕ) × (v : Val) × IsStored d.bags d.world s × (value_at w s ≡ Some v) × (link_of v ≡ c))
  kept-so c x =
      let now = stay x.storages.name x.storages.bag x.entries x.storages.is x.storages.stands in
      elim x.cell [
        | inl stack ↦
            inl (subst (λ (i : ℕ). 1 ≤ bagged d.bags (right_to i)) stack (bag-right d.bags x.storages.name x.storages.bag x.storages.is))
        | inr link ↦
            (let found = stored-value c x.entries now.stack.linked link in
            inr (found.0, found.1, record { entries = x.entries; storages = x.storages; among = found.2 }, found.3, found.4))
      ]

  -- a cell to which somebody else has the right
  pub off-other : (c : ℕ) → 1 ≤ outside (right_to c) + stacked d.queues (right_to c) + stacked d.newest (right_to c) + stacked d.stacks (right_to c) →
      IsReserved d w c → ⊥
  off-other c mine (inl kept) =
      let alone = ((ledger-laws holdings_of w).tells total ledger).alone c (omega (arith, mine)) in
      elim (kept-so c kept) [
        | inl stack ↦ omega (arith, alone.1, mine, stack)
        | inr value ↦
            claim-apart w total ledger c value.0 value.1 value.3
            (subst (λ (i : ℕ). 1 ≤ claims (holdings_of value.1) (right_to i)) value.4 (link-claimed value.1)) (omega (arith, mine))
      ]
  off-other c mine (inr spare) = claim-apart w total ledger c spare.slot spare.value spare.there (spare-claimed w c spare) (omega (arith, mine))

  -- the link of an item that is no storage
  pub off-link : (s : ℕ) (v : Val) → value_at w s ≡ Some v → (IsStored d.bags d.world s → ⊥) → IsReserved d w (link_of v) → ⊥
  off-link s v there not (inl kept) =
      elim (kept-so (link_of v) kept) [
        | inl stack ↦ claim-apart w total ledger (link_of v) s v there (link-claimed v) (omega (arith, stack))
        | inr value ↦
            (let same =
            claims-same w total ledger (link_of v) s value.0 v value.1 there value.3 (link-claimed v)
            (subst (λ (i : ℕ). 1 ≤ claims (holdings_of value.1) (right_to i)) value.4 (link-claimed value.1)) in
            not (subst (λ (i : ℕ). IsStored d.bags d.world i) same value.2))
      ]
  off-link s v there not (inr spare) =
      let c = link_of v in
      let same = claims-same w total ledger c s spare.slot v spare.value there spare.there (link-claimed v) (spare-claimed w c spare) in
      let both : Some v ≡ Some spare.value = sym there ∙ ap (λ (i : ℕ). value_at w i) (sym same) ∙ spare.there in
      let value : v ≡ spare.value = cc in
      let holds = owned-cell (body_of spare.value) spare.storage spare.is in
      let twice = holds-so v (right_to c) in
      let owner : 1 ≤ claims (owner_in (body_of v)) (right_to c) =
      subst (λ (x : Val). 1 ≤ claims (owner_in (body_of x)) (right_to c)) (sym value)
      (subst (λ hs. 1 ≤ claims hs (right_to c)) (sym holds)
      (subst (λ (i : ℕ). 1 ≤ claims (storages.holdings_of spare.storage) (right_to i)) spare.cell (storage-one spare.storage))) in
      omega (arith, twice, owner, same-once c, claimed-once w total ledger c s v there) where
        storage-one : (st : StorageName) → 1 ≤ claims (storages.holdings_of st) (right_to st.cell)
        storage-one st = let same : (st.cell == st.cell) ≡ true = eq-eqb st.cell st.cell refl in rw same (omega arith)

  -- no item of a list that begins elsewhere is a storage
  pub off-among : (c s : ℕ) (es : List (Entry Val)) → (IsReserved d w c → ⊥) → held_in (entry_at w.cells c) ≡ first_slot es → AreLinked link_of w es →
      IsAmong s es → IsStored d.bags d.world s → ⊥
  off-among c s [] off holds linked among = absurd among
  off-among c s (e ∷ es) off holds linked among =
      let first = off-held c e.slot (λ kept. off (inl kept)) holds in
      elim among [
        | inl here ↦ λ x. first (subst (λ (i : ℕ). IsStored d.bags d.world i) (sym here) x)
        | inr there ↦ off-among (link_of e.value) s es (off-link e.slot e.value linked.0.there first) (ap held_in linked.0.linked) linked.1 there
      ]

-- ---- one stretch after another

pub stays-then : (bags : List (Option NumberBag)) (u v w : World Val) → BagsStay bags u v → BagsStay bags v w → BagsStay bags u w
stays-then bags u v w a b n bag es is stands = b n bag es is (a n bag es is stands)

pub stored-on : (bags : List (Option NumberBag)) (v w : World Val) → BagsStay bags v w → (s : ℕ) → IsStored bags v s → IsStored bags w s
stored-on bags v w stay s x = record {
  entries = x.entries;
  storages = record {
    name = x.storages.name;
    bag = x.storages.bag;
    is = x.storages.is;
    stands = stay x.storages.name x.storages.bag x.entries x.storages.is x.storages.stands;
  };
  among = x.among;
}

-- a bag is there still, in a world of the same home, where items of storages have the names that they had
pub bags-still : (d new : ScriptState) → AreBags d → new.bags ≡ d.bags → BagsStay d.bags d.world new.world → new.world.home ≡ d.world.home →
    ((s : ℕ) → IsStored d.bags d.world s → name_at new s ≡ name_at d s) → AreBags new
bags-still d new are same stay home names n b is =
    let named : bag_at d.bags n ≡ Some b = ap (λ (bs : List (Option NumberBag)). bag_at bs n) (sym same) ∙ is in
    let was = are n b named in
    let now = stay n b was.bag.entries named was.bag.lies in
    record {
      bag = record { entries = was.bag.entries; lies = now; used = was.bag.used };
      home = rw home was.home;
      unnamed = λ es stands s among.
          (let one = same-list new.world (cell_in b.overflow.stack) es was.bag.entries stands.stack now.stack in
          let here : IsAmong s was.bag.entries = subst (λ (fs : List (Entry Val)). IsAmong s fs) one among in
          names s (record { entries = was.bag.entries; storages = record { name = n; bag = b; is = named; stands = was.bag.lies }; among = here })
          ∙ was.unnamed was.bag.entries was.bag.lies s here);
    }

-- the same bags, and the storages that there were
pub stored-still : (d new : ScriptState) → new.bags ≡ d.bags → BagsStay d.bags d.world new.world → KeepsStored d new
stored-still d new same stay s x =
    subst (λ (bs : List (Option NumberBag)). IsStored bs new.world s) (sym same) (stored-on d.bags d.world new.world stay s x)

-- the items of storages have no name
pub stored-unnamed : (d : ScriptState) → AreBags d → (s : ℕ) → IsStored d.bags d.world s → name_at d s ≡ None
stored-unnamed d are s x = (are x.storages.name x.storages.bag x.storages.is).unnamed x.entries x.storages.stands s x.among

pub there-apart : (d : ScriptState) → AreBags d → (i : ℕ) → IsThere d i → IsStored d.bags d.world (slot_at d i) → ⊥
there-apart d are i there x =
    let never : Some i ≡ None = sym there.last ∙ stored-unnamed d are (slot_at d i) x in absurd (cc)

-- ---- what a call keeps

-- where these cells and these items are as before
pub stays-as : (d : ScriptState) (v w : World Val) → BagsStay d.bags d.world v → ((c : ℕ) → IsKept d.bags d.world c → entry_at w.cells c ≡ entry_at v.cells c) →
    ((s : ℕ) → IsStored d.bags d.world s → (value_at w s ≡ value_at v s) × (standing_at w s ≡ standing_at v s)) → BagsStay d.bags d.world w
stays-as d v w stay cells items n b es is stands =
    let was = stay n b es is stands in
    let has : HasStorages d.bags d.world es = record { name = n; bag = b; is = is; stands = stands } in
    let kept : (c : ℕ) → (cell_in b.overflow.stack ≡ c) ⊎ IsLinkIn c es → entry_at w.cells c ≡ entry_at v.cells c =
    λ c at. cells c (record { entries = es; storages = has; cell = at }) in
    let its : (s : ℕ) → IsAmong s es → (value_at w s ≡ value_at v s) × (standing_at w s ≡ standing_at v s) =
    λ s among. items s (record { entries = es; storages = has; among = among }) in
    record {
      stack = record {
        begins = kept (cell_in b.overflow.stack) (inl refl) ∙ was.stack.begins;
        linked = linked-as es (λ c link. kept c (inr link)) (λ s among. (its s among).0) was.stack.linked;
      };
      shelves = shelves-as es (λ s among. (its s among).1) was.shelves;
      keys = was.keys;
      full = was.full;
    } where
      linked-as : (es : List (Entry Val)) → ((c : ℕ) → IsLinkIn c es → entry_at w.cells c ≡ entry_at v.cells c) →
          ((s : ℕ) → IsAmong s es → value_at w s ≡ value_at v s) → AreLinked link_of v es → AreLinked link_of w es
      linked-as [] cells values linked = tt
      linked-as (e ∷ es) cells values linked = (
        record {
          there = values e.slot (inl refl) ∙ linked.0.there;
          linked = cells (link_of e.value) (inl refl) ∙ linked.0.linked;
          plain = linked.0.plain;
        },
        linked-as es (λ c at. cells c (inr at)) (λ s among. values s (inr among)) linked.1,
      )

      shelves-as : (es : List (Entry Val)) → ((s : ℕ) → IsAmong s es → standing_at w s ≡ standing_at v s) → AreShelves storage_in bag_length v es →
          AreShelves storage_in bag_length w es
      shelves-as [] stand are = tt
      shelves-as (e ∷ es) stand are = (
        record { plain = are.0.plain; sole = stand e.slot (inl refl) ∙ are.0.sole; long = are.0.long },
        are.1,
        shelves-as es (λ s among. stand s (inr among)) are.2,
      )

-- the item is one owner's still, or has none
abbrev IsSoleOrIdle : ℕ → World Val → Type 0
IsSoleOrIdle s w = (standing_at w s ≡ Some (Shared 1)) ⊎ (is_out (standing_at w s) ≡ false)

module _ (s p : ℕ) where
  abbrev IsSole : Option Standing → Type 0
  IsSole x = (x ≡ Some (Shared 1)) ⊎ (is_out x ≡ false)

  writes-still : (w u : World Val) (k : ℕ) (x : Option Standing) → u.standings ≡ slice_set w.standings k x → (s ≡ k → IsSole x) →
      IsSoleOrIdle s w → IsSoleOrIdle s u
  writes-still w u k x is new was = grind (arith, common_steps)

  gives-still : (w : World Val) (k : ℕ) (t : Option Standing) → standing_at w k ≡ t → IsSoleOrIdle s w → IsSoleOrIdle s (owner_given w p k t)
  gives-still w k t is was =
      owner-given (IsSoleOrIdle s) w p k t is was (λ out. writes-still w (retired w p k) k (Some Retired) refl (λ same. inr refl) was)
      (λ n several more. writes-still w (with_standing w k (Shared (n - 1))) k (Some (Shared (n - 1))) refl
      (λ same. absurd (not-several n several more same)) was)
    where
      not-several : (n : ℕ) → standing_at w k ≡ Some (Shared n) → 1 < n → s ≡ k → ⊥
      not-several n several more same = grind (arith, common_steps)

  frees-still : (w u : World Val) (k : ℕ) → u.standings ≡ without_entry w.standings k → IsSoleOrIdle s w → IsSoleOrIdle s u
  frees-still w u k is was = writes-still w u k None is (λ same. inr refl) was

  abbrev P : World Val → Type 0
  P = IsSoleOrIdle s

  closes-still : (w : World Val) (c : ℕ) → P w → P (cell_closed w p c)
  closes-still w c was = closes-cell P p gives-still (λ u b h. h) w c was

  reclaims-still : (w : World Val) (xs : List LimboEntry) → P w → P (all_reclaimed holdings_of w p xs)
  reclaims-still w xs was =
      reclaims-all P p gives-still (λ u b h. h) (λ u k h. frees-still u (freed u k) k refl h) (λ u t h. h) (λ u n h. h) w xs was

  opens-still : (w : World Val) → P w → P (opened holdings_of w p)
  opens-still w was =
      opens-guard P p gives-still (λ u b h. h) (λ u k h. frees-still u (freed u k) k refl h) (λ u t h. h) (λ u n h. h) w was

  drops-still : (w : World Val) (k : ℕ) → P w → P (dropped holdings_of w p k)
  drops-still w k was = by (value_at w k) where
    by : (v : Option Val) → P (dropped_out holdings_of w p k v)
    by None = was
    by (Some v) = gives-all P p gives-still (λ u b h. h) (vacated w k) (holdings_of v) (frees-still w (vacated w k) k refl was)

idle-none : (x : Option Standing) → is_out x ≡ false → owner_count x ≡ 1 → ⊥
idle-none x idle count = grind arith

-- then it is one owner's still, as long as it has one
settles : (x : Option Standing) → (x ≡ Some (Shared 1)) ⊎ (is_out x ≡ false) → owner_count x ≡ 1 → x ≡ Some (Shared 1)
settles x (inl one) count = one
settles x (inr idle) count = absurd (idle-none x idle count)

-- a storage's item is one owner's after a call, if it has one then that is inside
module _ (d : ScriptState) (s : ℕ) where
  abbrev one_owner : Option Standing
  one_owner = Some (Shared 1)

  -- what stands otherwise is another item
  off-by : (w : World Val) (k : ℕ) (t : Option Standing) → standing_at w s ≡ one_owner → standing_at w k ≡ t → (t ≡ one_owner → ⊥) → s ≢ k
  off-by w k t is stands not same = not (sym stands ∙ ap (λ (i : ℕ). standing_at w i) (sym same) ∙ is)

  -- and so is one of which an owner is taken
  off-taken : (k : ℕ) → one (owner_of k) (owner_of s) ≡ 0 → s ≢ k
  off-taken k none same = grind (arith, common_steps)

  sole-by : {v w : World Val} {ins outs : Claim → ℕ} → (move : Moves holdings_of v ins w outs) → Spares d move → IsStored d.bags d.world s →
      standing_at v s ≡ one_owner →
      ins (owner_of s) ≡ 0 → (outs (owner_of s) ≡ 0 → owner_count (standing_at w s) ≡ 1) → standing_at w s ≡ one_owner
  sole-by (registers w p vacant) off x is none count = is
  sole-by (ends w p l shut) off x is none count = is
  sole-by (opens w p l) off x is none count = settles (standing_at (opened holdings_of w p) s) (opens-still s p w (inl is)) (count refl)
  sole-by (closes w p l) off x is none count = is
  sole-by (stirs w p l) off x is none count = is
  sole-by (accelerates w p l) off x is none count = is
  sole-by (defers w p j l empty) off x is none count = is
  sole-by (changes_pointers w pointers same) off x is none count = is
  sole-by (makes w k value t first empty) off x is none count =
      at-other w.standings k s (Some t) None (off-by w k None is empty.1 (λ never. absurd (cc))) ∙ is
  sole-by (shares w k n shared) off x is none count =
      at-other w.standings k s (Some (Shared (n + 1))) None (λ same. off (subst (λ (i : ℕ). IsStored d.bags d.world i) same x)) ∙ is
  sole-by (retires w p k l owned) off x is none count =
      at-other w.standings k s (Some Retired) None (off-by w k (Some Owned) is owned (λ never. absurd (cc))) ∙ is
  sole-by (releases w p k n l shared) off x is none count = given-other w p k s (Some (Shared n)) shared (off-taken k none) ∙ is
  sole-by (collects w p c k l alone) off x is none count = at-other w.standings k s (Some (privately c)) None (off-taken k none) ∙ is
  sole-by (drops w p k l may) off x is none count = settles (standing_at (dropped holdings_of w p k) s) (drops-still s p w k (inl is)) (count refl)
  sole-by (puts_out_raw w k owned) off x is none count =
      at-other w.standings k s (Some Raw) None (off-by w k (Some Owned) is owned (λ never. absurd (cc))) ∙ is
  sole-by (takes_back_raw w k raw) off x is none count =
      at-other w.standings k s (Some Owned) None (off-by w k (Some Raw) is raw (λ never. absurd (cc))) ∙ is
  sole-by (edits w k old value may there) off x is none count = is
  sole-by (makes_cell w c cell free) off x is none count = is
  sole-by (changes_cell w c old cell there) off x is none count = is
  sole-by (spends_cell w c old there) off x is none count = is
  sole-by (closes_cell w p c l) off x is none count = settles (standing_at (cell_closed w p c) s) (closes-still s p w c (inl is)) (count refl)
  sole-by (closes_collector w p c l quiet null) off x is none count =
      settles (standing_at (collector_closed holdings_of w p c) s) (reclaims-still s p (without_collector w c) (waiting_for w c) (inl is)) (count refl)

-- a call sets no such cell
not-set : (d : ScriptState) {v w : World Val} {ins outs : Claim → ℕ} (move : Moves holdings_of v ins w outs) → Spares d move → (b : ℕ) → IsReserved d v b →
    Sets holdings_of move (right_to b) → ⊥
not-set d (changes_cell w c old cell is) off b reserved same = off (subst (λ (i : ℕ). IsReserved d w i) (right-same b c same) reserved) where
  right-same : (b c : ℕ) → right_to b ≡ right_to c → b ≡ c
  right-same b c same = cc
not-set d other off b reserved never = never

-- how much of it there is in so many
module _ (d : ScriptState) {v w : World Val} {ins outs : Claim → ℕ} (move : Moves holdings_of v ins w outs) (whole : IsWhole v) (rest : Claim → ℕ)
    (before : IsLedger holdings_of (λ u. rest u + contained d u + ins u) v) (off : Spares d move) where
  kept : Keeps holdings_of move
  kept = (ledger-laws holdings_of v).kept whole ins outs w move

  abbrev all : Claim → ℕ
  all u = rest u + contained d u

  after : IsLedger holdings_of (λ u. rest u + contained d u + outs u) w
  after = kept.ledger all before

  -- a reserved cell is as it was, as long as a value, or a bag, has the right to it
  cell-still : (c : ℕ) → IsReserved d v c → 1 ≤ all (right_to c) + inside holdings_of w (right_to c) → entry_at w.cells c ≡ entry_at v.cells c
  cell-still c reserved mine = kept.cells all before c mine (not-set d move off c reserved)

  module _ (stay : BagsStay d.bags d.world v) where
    -- the entries behind a cell that is as it was
    linked-on : (es : List (Entry Val)) (has : HasStorages d.bags d.world es) (c : ℕ) (fs : List (Entry Val)) → ((x : ℕ) → IsLinkIn x fs → IsLinkIn x es) →
        held_in (entry_at v.cells c) ≡ first_slot fs → entry_at w.cells c ≡ entry_at v.cells c → AreLinked link_of v fs → AreLinked link_of w fs
    linked-on es has c [] within holds still linked = tt
    linked-on es has c (e ∷ fs) within holds still linked =
        let inner : 1 ≤ inside holdings_of w (owner_of e.slot) =
        ((ledger-laws holdings_of w).tells _ after).in_cell c e.slot (ap held_in still ∙ holds) in
        let there : value_at w e.slot ≡ Some e.value = kept.values all before e.slot (omega (arith, inner)) ∙ linked.0.there in
        let l : ℕ = link_of e.value in
        let claimed = claim-inside w _ after l e.slot e.value there (link-claimed e.value) in
        let same = cell-still l (inl (record { entries = es; storages = has; cell = inr (within l (inl refl)) })) (omega (arith, claimed)) in (
          record { there = there; linked = same ∙ linked.0.linked; plain = linked.0.plain },
          linked-on es has l fs (λ x at. within x (inr at)) (ap held_in linked.0.linked) same linked.1,
        )

    shelves-on : (es : List (Entry Val)) → HasStorages d.bags d.world es → (fs : List (Entry Val)) → ((s : ℕ) → IsAmong s fs → IsStored d.bags d.world s) →
        ((s : ℕ) → IsAmong s fs → 1 ≤ inside holdings_of w (owner_of s)) → AreShelves storage_in bag_length v fs → AreShelves storage_in bag_length w fs
    shelves-on es has [] stored held are = tt
    shelves-on es has (e ∷ fs) stored held are =
        let x = stored e.slot (inl refl) in
        let was = held-once d v (λ u. rest u + ins u) (λ u. omega (arith, before u)) stay e.slot x in
        let inner = held e.slot (inl refl) in
        let count : outs (owner_of e.slot) ≡ 0 → owner_count (standing_at w e.slot) ≡ 1 =
        λ none. omega (arith, after (owner_of e.slot), was.none, was.once, inner, none, kept.no_more (owner_of e.slot), kept.taken (owner_of e.slot)) in (
          record {
            plain = are.0.plain;
            sole = sole-by d e.slot move off x was.stands (omega (arith, was.none)) count;
            long = are.0.long;
          },
          are.1,
          shelves-on es has fs (λ s among. stored s (inr among)) (λ s among. held s (inr among)) are.2,
        )

    pub stays-on : BagsStay d.bags d.world w
    stays-on n b es is stands =
        let was = stay n b es is stands in
        let has : HasStorages d.bags d.world es = record { name = n; bag = b; is = is; stands = stands } in
        let c : ℕ = cell_in b.overflow.stack in
        let first =
        cell-still c (inl (record { entries = es; storages = has; cell = inl refl })) (omega (arith, bag-right d.bags n b is)) in
        let linked = linked-on es has c es (λ x at. at) (ap held_in was.stack.begins) first was.stack.linked in
        let begins = first ∙ was.stack.begins in
        record {
          stack = record { begins = begins; linked = linked };
          shelves = shelves-on es has es (λ s among. record { entries = es; storages = has; among = among })
              (λ s among. among-inside w _ after c s es (ap held_in begins) linked among) was.shelves;
          keys = was.keys;
          full = was.full;
        }

  -- the own cells of storages hold nothing still
  pub spare-on : AreSpare v → HoldsLess v w → AreSpare w
  spare-on spare less c x =
      let had = spare-was v w c less x in
      let inner = claim-inside w _ after c x.slot x.value x.there (spare-claimed w c x) in
      ap held_in (cell-still c (inr had) (omega (arith, inner))) ∙ spare c had
