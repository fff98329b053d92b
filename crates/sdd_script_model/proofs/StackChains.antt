-- What is kept where a list's entries come and go in the middle of a line
use Rattle.sdd_script_model.proofs.Words.{◌≡◌, ◌≢◌, ◌+◌, inl, inr, ℕ, List, [], ◌∷◌, Bool, true, false, Option, Some, None, eq-eqb, slice_index_or, refl, sym, ap, ◌∙◌, subst, arith, ◌==◌, if◌then◌else◌, set_comm, Tag, Second, Entries, entry_at, CellContents, Standing, Claim, owner_of, one, owner_held, IsLedger, Moves, changes_cell, retires, releases, World, IsPlaceOf, standing_at, value_at, held_in, owner_given, spilled, with_cell, IsWhole, ledger-laws, Entry, IsList, emptied, first_slot, is_deleted, is_deleting, left, let_go_first, linked_in, removed, trimmed, retagged, bare, behind, retagged-list, apart-first, AreSpare, IsStored, AreNumbers, Begins, HasLists, IsNumber, ScriptState, IsListCell, IsSecondCell, contained, Val, body_of, holdings_of, link_of, stays-of, common_steps, Both, IsSound, in_world, named}
use Rattle.sdd_core.specs.declared.tag.Tag.TheVariants.{None as no_tag}
use Rattle.sdd_script_model.proofs.Lemmas.{keeps-live, IsMidway, among-apart, link-apart-from, list-apart-from, list-right, own-midway, owned-apart, at-other, Frames, IsQuiet, frames-on, quiet-less, null, same-once, link-apart, BagsStay, IsReserved, Spares, off-among, off-link, reserved-was, spare-on, stays-on, has-let_go, has-put_in, LeavesSound, finishes, starts, dated-same}
use Rattle.sdd_script_model.proofs.CallChains.{tagged}
use Rattle.sdd_script_model.proofs.ListChanges.{has-retagged}

-- the link of an item changes, and holds the same
pub retags-link : {d : ScriptState} {w : World Val} {outside : Claim → ℕ} → IsMidway d w outside → (k : ℕ) (x : Val) (cell now : CellContents) →
    (IsStored d.bags d.world k → ⊥) → value_at w k ≡ Some x → entry_at w.cells (link_of x) ≡ Some cell → now.held ≡ cell.held → now.tag ≢ Both →
    cell.tag ≢ Second →
    IsMidway d (with_cell w (link_of x) now) outside
retags-link {d} {w} {outside} m k x cell now off there is same plain kept =
    tagged m (link_of x) cell now is same (link-apart-from m k x there off)
    (has-retagged (IsListCell d) (IsSecondCell d) (IsStored d.bags d.world) w (λ u. outside u + contained d u) m.ledger (own-midway m) m.lists k x there cell
    now is same plain kept)

-- and so it is at the end of a line
pub link-leaves : (d : ScriptState) → IsSound d → IsWhole d.world → (p c : ℕ) (cell : CellContents) → IsPlaceOf d.world p →
    entry_at d.world.cells c ≡ Some cell → (tag : Tag) (k : ℕ) (x : Val) → (IsStored d.bags d.world k → ⊥) → value_at d.world k ≡ Some x → link_of x ≡ c →
    tag ≢ Both → cell.tag ≢ Second → LeavesSound d (in_world d (with_cell d.world c (record cell { tag = tag })))
link-leaves d s whole p c cell live holds tag k x off there is plain kept =
    let now : CellContents = record cell { tag = tag } in
    let linked = ap (λ (i : ℕ). entry_at d.world.cells i) is ∙ holds in
    finishes d (with_cell d.world c now) d.owners d.cells d.collectors d.dates s
    (subst (λ (i : ℕ). IsMidway d (with_cell d.world i now) (named d)) is (retags-link (starts d s whole) k x cell now off there linked refl plain kept))
    (λ u. refl) (s.home.owners, s.home.cells, s.home.collectors) (dated-same d (in_world d (with_cell d.world c now)) refl refl) p live

-- a list begins in the cell, and has no second cell
pub record IsSingle (d : ScriptState) (c : ℕ) : Type 0 where
  pub begins : IsListCell d c
  pub single : (b : ℕ) → IsSecondCell d c b → ⊥

-- the same without a word on lists
pub record IsBetween (d : ScriptState) (w : World Val) (outside : Claim → ℕ) : Type 0 where
  pub ledger : IsLedger holdings_of (λ u. outside u + contained d u) w
  pub bags : BagsStay d.bags d.world w
  pub spare : AreSpare w
  pub whole : IsWhole w
  pub frames : Frames d.world w

pub between : {d : ScriptState} {w : World Val} {outside : Claim → ℕ} → IsMidway d w outside → IsBetween d w outside
between m = record { ledger = m.ledger; bags = m.bags; spare = m.spare; whole = m.whole; frames = m.frames }

pub midway : {d : ScriptState} {w : World Val} {outside : Claim → ℕ} → IsBetween d w outside →
    HasLists (IsListCell d) (IsSecondCell d) (IsStored d.bags d.world) w → IsMidway d w outside
midway b lists = record { ledger = b.ledger; lists = lists; bags = b.bags; spare = b.spare; whole = b.whole; frames = b.frames }

pub between-as : {d : ScriptState} {w : World Val} {outside now : Claim → ℕ} → IsBetween d w outside → ((u : Claim) → now u ≡ outside u) → IsBetween d w now
between-as b same =
    record { ledger = λ u. omega (arith, b.ledger u, same u); bags = b.bags; spare = b.spare; whole = b.whole; frames = b.frames }

-- a quiet call
pub goes-on : {d : ScriptState} {v w : World Val} {outside ins outs : Claim → ℕ} → IsBetween d v outside → (move : Moves holdings_of v ins w outs) →
    IsQuiet move → Spares d move → (rest : Claim → ℕ) → ((u : Claim) → outside u ≡ rest u + ins u) → IsBetween d w (λ u. rest u + outs u)
goes-on {d} {v} {w} {outside} {ins} {outs} b move quiet off rest same =
    let kept = (ledger-laws holdings_of v).kept b.whole ins outs w move in
    let before : IsLedger holdings_of (λ u. rest u + contained d u + ins u) v = λ u. omega (arith, b.ledger u, same u) in
    record {
      ledger = λ u. omega (arith, kept.ledger (λ x. rest x + contained d x) before u);
      bags = stays-on d move b.whole rest before off b.bags;
      spare = spare-on d move b.whole rest before off b.spare (quiet-less move quiet);
      whole = kept.whole;
      frames = frames-on b.frames b.whole move quiet;
    }

-- an owner that is in hand is given up
pub gives-up : {d : ScriptState} {w : World Val} {outside : Claim → ℕ} (p : ℕ) → IsPlaceOf d.world p → (k : ℕ) →
    IsBetween d w (λ u. outside u + one (owner_of k) u) → (s : Option Standing) → standing_at w k ≡ s → IsBetween d (owner_given w p k s) outside
gives-up {d} {w} {outside} p live k b s is =
    let live_there = keeps-live b.frames.passes.guards p live in
    let stands = ((ledger-laws holdings_of w).tells _ b.ledger).stands k (omega (arith, same-once k)) in
    elim stands [
      | inl owned ↦
          subst (λ x. IsBetween d (owner_given w p k x) outside) (sym owned.0 ∙ is)
          (between-as (goes-on b (retires w p k live_there owned.0) tt tt outside (λ u. refl)) (λ u. omega arith))
      | inr shared ↦
          subst (λ x. IsBetween d (owner_given w p k x) outside) (sym shared.1 ∙ is)
          (between-as (goes-on b (releases w p k shared.0 live_there shared.1) tt tt outside (λ u. refl)) (λ u. omega arith))
    ]

-- and so is what a cell held
pub spills-between : {d : ScriptState} {w : World Val} {outside : Claim → ℕ} (p : ℕ) → IsPlaceOf d.world p → (held : Option ℕ) →
    IsBetween d w (λ u. outside u + owner_held held u) → IsBetween d (spilled w p held) outside
spills-between p live None b = between-as b (λ u. omega arith)
spills-between {d} {w} p live (Some k) b = gives-up p live k b (standing_at w k) refl

-- the first entry of a list that begins in a cell, or in a link, is let go of
module _ {d : ScriptState} {w : World Val} {outside : Claim → ℕ} (b : IsBetween d w outside) (p c : ℕ) (t : Tag) (off : IsReserved d w c → ⊥)
    (live : IsPlaceOf d.world p) (e : Entry Val) (es : List (Entry Val)) (list : IsList link_of w c t (e ∷ es)) where
  abbrev gone : CellContents
  gone = record { held = None; tag = Second }

  abbrev next : CellContents
  next = record { held = first_slot es; tag = t }

  abbrev first : World Val
  first = with_cell w (link_of e.value) gone

  -- the entry is no storage, and its link is apart from those of storages
  pub first-off : IsStored d.bags d.world e.slot → ⊥
  first-off = off-among d w outside b.ledger b.bags c e.slot (e ∷ es) off (ap held_in list.begins) list.linked (inl refl)

  pub link-off : IsReserved d w (link_of e.value) → ⊥
  link-off = off-link d w outside b.ledger b.bags e.slot e.value list.linked.0.there first-off

  -- what the link held is in hand
  taken-out : IsBetween d first (λ u. outside u + owner_held (first_slot es) u)
  taken-out =
      goes-on b (changes_cell w (link_of e.value) (record { held = first_slot es; tag = e.tag }) gone list.linked.0.linked) tt link-off outside
      (λ u. omega arith)

  -- the cell holds it, and the first entry's owner is in hand
  moved-up : IsBetween d (with_cell first c next) (λ u. outside u + one (owner_of e.slot) u)
  moved-up =
      goes-on taken-out
      (changes_cell first c (record { held = Some e.slot; tag = t }) next
      (at-other w.cells (link_of e.value) c (Some gone) None (apart-first link_of w p c t e es list) ∙ list.begins))
      tt (λ r. off (reserved-was d w first c refl r)) outside (λ u. refl)

  -- it is given up
  pub first-goes : IsBetween d (let_go_first w p c t e.slot (link_of e.value) (first_slot es)) outside
  first-goes = gives-up p live e.slot moved-up (standing_at w e.slot) refl

-- the values are as before where an entry is let go of
first-values : (w : World Val) (p c : ℕ) (t : Tag) (e : Entry Val) (es : List (Entry Val)) →
    (let_go_first w p c t e.slot (link_of e.value) (first_slot es)).values ≡ w.values
first-values w p c t e es = grind (arith, common_steps)

goes-if : {d : ScriptState} {outside : Claim → ℕ} (w u : World Val) → IsBetween d w outside → IsBetween d u outside → (b : Bool) →
    IsBetween d (if b then u else w) outside
goes-if w u here there true = there
goes-if w u here there false = here

-- and so are the deleted ones in front
pub front-goes : {d : ScriptState} {outside : Claim → ℕ} (w : World Val) → IsBetween d w outside → (p c : ℕ) (t : Tag) → (IsReserved d w c → ⊥) →
    IsPlaceOf d.world p → (es : List (Entry Val)) → IsList link_of w c t es → IsBetween d (trimmed link_of w p c t es) outside
front-goes w b p c t off live [] list = b
front-goes {d} w b p c t off live (e ∷ es) list =
    let u : World Val = let_go_first w p c t e.slot (link_of e.value) (first_slot es) in
    goes-if w (trimmed link_of u p c t es) b
    (front-goes u (first-goes b p c t off live e es list) p c t (λ x. off (reserved-was d w u c (first-values w p c t e es) x)) live es
    (behind link_of w p c t e es list)) (is_deleted e)

module _ {d : ScriptState} {w : World Val} {outside : Claim → ℕ} (m : IsMidway d w outside) (p c : ℕ) (its : IsSingle d c) where
  apart-of : (k : ℕ) (x : Val) → value_at w k ≡ Some x → c ≢ link_of x
  apart-of k x there = link-apart w (λ u. outside u + contained d u) m.ledger c k x (omega (arith, list-right d c its.begins)) there

  -- ---- the first entry is let go of
  pub lets-go : (live : IsPlaceOf d.world p) (e : Entry Val) (es : List (Entry Val)) (list : Begins w c (e ∷ es)) (numbers : AreNumbers (e ∷ es)) →
      IsMidway d (let_go_first w p c no_tag e.slot (link_of e.value) (first_slot es)) outside
  lets-go live e es list numbers =
      midway (first-goes (between m) p c no_tag (list-apart-from m c its.begins) live e es list)
      (has-let_go (IsListCell d) (IsSecondCell d) (IsStored d.bags d.world) w (λ u. outside u + contained d u) m.ledger (own-midway m) m.lists c its.begins
      its.single p e es list
      numbers)

  -- ---- an item is put in front, of which one owner is in hand
  module _ (k : ℕ) (x : Val) (es : List (Entry Val)) (list : Begins w c es) (numbers : AreNumbers es) (there : value_at w k ≡ Some x)
      (clear : entry_at w.cells (link_of x) ≡ Some null) (number : IsNumber (body_of x))
      (unheld : (b : ℕ) → held_in (entry_at w.cells b) ≡ Some k → ⊥) (rest : Claim → ℕ) (in_hand : (u : Claim) → outside u ≡ rest u + one (owner_of k) u) where
    abbrev in_front : CellContents
    in_front = record { held = Some k; tag = no_tag }

    abbrev behind_it : CellContents
    behind_it = record { held = first_slot es; tag = no_tag }

    holds-it : IsBetween d (with_cell w c in_front) (λ u. rest u + owner_held (first_slot es) u)
    holds-it = goes-on (between m) (changes_cell w c (record { held = first_slot es; tag = no_tag }) in_front list.begins) tt (list-apart-from m c its.begins)
        rest in_hand

    linked-it : IsBetween d (with_cell (with_cell w c in_front) (link_of x) behind_it) rest
    linked-it =
        between-as (goes-on holds-it
        (changes_cell (with_cell w c in_front) (link_of x) null behind_it
        (at-other w.cells c (link_of x) (Some in_front) None (λ same. apart-of k x there (sym same)) ∙ clear))
        tt (λ r. link-apart-from m k x there (owned-apart m k (omega (arith, in_hand (owner_of k), same-once k)))
        (reserved-was d w (with_cell w c in_front) (link_of x) refl r)) rest (λ u. refl)) (λ u. omega arith)

    pub puts-in : IsMidway d (linked_in w c no_tag (link_of x) k (first_slot es)) rest
    puts-in =
        midway (subst (λ (cs : Entries CellContents). IsBetween d (record w { cells = cs }) rest)
        (set_comm w.cells c (link_of x) (Some in_front) (Some behind_it) (apart-of k x there)) linked-it)
        (has-put_in (IsListCell d) (IsSecondCell d) (IsStored d.bags d.world) w (λ u. outside u + contained d u) m.ledger (own-midway m) m.lists c its.begins
        its.single k x es list
        numbers there clear number unheld)

-- ---- one entry after another

module _ (d : ScriptState) (outside : Claim → ℕ) (p c : ℕ) (its : IsSingle d c) (live : IsPlaceOf d.world p) where
  -- the list has these entries
  pub record IsWith (w : World Val) (es : List (Entry Val)) : Type 0 where
    pub midway : IsMidway d w outside
    pub list : Begins w c es
    pub numbers : AreNumbers es

  with-rest : (w : World Val) (e : Entry Val) (es : List (Entry Val)) → IsWith w (e ∷ es) →
      IsWith (let_go_first w p c no_tag e.slot (link_of e.value) (first_slot es)) es
  with-rest w e es m = record {
    midway = lets-go m.midway p c its live e es m.list m.numbers;
    list = behind link_of w p c no_tag e es m.list;
    numbers = m.numbers.1;
  }

  trims-if : (w u : World Val) (e : Entry Val) (es : List (Entry Val)) → IsWith w (e ∷ es) → IsWith u (left es) → (b : Bool) →
      IsWith (if b then u else w) (if b then left es else e ∷ es)
  trims-if w u e es here there true = there
  trims-if w u e es here there false = here

  -- the deleted ones in front
  pub trims : (w : World Val) (es : List (Entry Val)) → IsWith w es → IsWith (trimmed link_of w p c no_tag es) (left es)
  trims w [] m = m
  trims w (e ∷ es) m =
      let u : World Val = let_go_first w p c no_tag e.slot (link_of e.value) (first_slot es) in
      trims-if w (trimmed link_of u p c no_tag es) e es m (trims u es (with-rest w e es m)) (is_deleted e)

  -- all
  pub empties : (w : World Val) (es : List (Entry Val)) → IsWith w es → IsWith (emptied link_of w p c no_tag es) []
  empties w [] m = m
  empties w (e ∷ es) m =
      empties (let_go_first w p c no_tag e.slot (link_of e.value) (first_slot es)) es (with-rest w e es m)

  -- the first that isn't deleted is deleted, and let go of with those before it
  module _ (w : World Val) (es : List (Entry Val)) (e : Entry Val) (rest : List (Entry Val)) (first_left : left es ≡ e ∷ rest) (with_it : IsWith w es) where
    abbrev freed_front : World Val
    freed_front = trimmed link_of w p c no_tag es

    pub in-front : IsWith freed_front (e ∷ rest)
    in-front = subst (λ (fs : List (Entry Val)). IsWith freed_front fs) first_left (trims w es with_it)

    abbrev marked : CellContents
    marked = record { held = first_slot rest; tag = Second }

    abbrev gone_first : World Val
    gone_first = with_cell freed_front (link_of e.value) marked

    deleted-midway : IsMidway d gone_first outside
    deleted-midway =
        retags-link in-front.midway e.slot e.value (record { held = first_slot rest; tag = e.tag }) marked
        (among-apart in-front.midway c e.slot no_tag (e ∷ rest) (list-apart-from in-front.midway c its.begins) in-front.list (inl refl))
        in-front.list.linked.0.there in-front.list.linked.0.linked refl (λ same. absurd (cc))
        (λ is. absurd (let never : true ≡ false = ap is_deleting (sym is) ∙ stays-of es e rest first_left in cc))

    deleted-list : Begins gone_first c (record e { tag = Second } ∷ rest)
    deleted-list =
        let same : (e.slot == e.slot) ≡ true = eq-eqb e.slot e.slot refl in
        subst (λ (fs : List (Entry Val)). Begins gone_first c fs)
        (ap (λ (b : Bool). if b then record e { tag = Second } ∷ rest else e ∷ retagged e.slot Second rest) same)
        (retagged-list link_of freed_front e rest Second (λ same. absurd (cc)) c no_tag (e ∷ rest) in-front.list (inl refl))

    pub removes : IsMidway d (removed link_of w p c no_tag es e rest) outside
    removes = lets-go deleted-midway p c its live (record e { tag = Second }) rest deleted-list in-front.numbers

    -- its value is there still
    pub removed-value : value_at (removed link_of w p c no_tag es e rest) e.slot ≡ Some e.value
    removed-value =
        ap (λ (vs : List (Option Val)). slice_index_or vs e.slot None)
        (bare (with_cell (with_cell gone_first (link_of e.value) (record { held = None; tag = Second })) c (record { held = first_slot rest; tag = no_tag }))
        p e.slot (standing_at gone_first e.slot)).values
        ∙ in-front.list.linked.0.there
