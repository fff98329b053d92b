-- A bag in the middle of a line: its cells are in hand, and its other storages come and go
use Rattle.sdd_script_model.proofs.Words.{◌≡◌, ◌≢◌, ◌⊎◌, ◌+◌, inl, inr, ℕ, List, [], ◌∷◌, ◌++◌, false, Option, Some, None, is_some, slice_index_or, slice_set, refl, sym, ap, ◌∙◌, subst, arith, append-nil, set-set, Second, Entries, entry_at, CellContents, Standing, Retired, Shared, Claim, right_to, one, World, IsPlaceOf, standing_at, value_at, held_in, owner_given, retired, with_cell, with_standing, IsAmong, Apart, AreLinked, Entry, IsList, first_slot, is_deleted, is_deleting, let_go_first, cell_in, bare, behind, apart-first, AreShelves, RemovesStorage, RemovesStorages, StandsOn, bagged, HasLists, IsListed, IsLoose, NumberBag, ScriptState, bag_at, bag_length, without_bag, IsSound, contained, named, Val, link_of, storage_in, IsWhole, go-other, AreElsewhere, common_steps, keeps-shelves}
use Rattle.sdd_core.specs.declared.tag.Tag.TheVariants.{None as no_tag}
use Rattle.sdd_script_model.proofs.Lemmas.{at-other, at-same, frames-start, given-other, same-once, StaysGone, as-before, has-kept_so, loose-as, BagsStay, IsReserved, off-other, inside as inside-list}
use Rattle.sdd_script_model.proofs.StackChains.{IsBetween, first-goes}

-- ---- a bag is two rights to cells

abbrev pub own_of : NumberBag → ℕ
own_of b = b.primary.storage.cell

abbrev pub stack_of : NumberBag → ℕ
stack_of b = cell_in b.overflow.stack

pub bag-spent : (bs : List (Option NumberBag)) (n : ℕ) (b : NumberBag) → bag_at bs n ≡ Some b → (u : Claim) →
    bagged bs u ≡ bagged (slice_set bs n None) u + one (right_to (own_of b)) u + one (right_to (stack_of b)) u
bag-spent bs n b h u = grind (arith, common_steps)

pub bag-given : (bs : List (Option NumberBag)) (b : NumberBag) (u : Claim) →
    bagged (bs ++ Some b ∷ []) u ≡ bagged bs u + one (right_to (own_of b)) u + one (right_to (stack_of b)) u
bag-given bs b u = grind (arith, common_steps)

-- ---- storages that are taken away are let go of

-- the first of these entries, one after another
abbrev pub let_go_many : World Val → (p c : ℕ) → (gone rest : List (Entry Val)) → World Val
let_go_many w p c [] rest = w
let_go_many w p c (e ∷ gone) rest =
    let_go_many (let_go_first w p c no_tag e.slot (link_of e.value) (first_slot (gone ++ rest))) p c gone rest

-- a storage that is removed is popped with one owner more, which is then given up, too
module _ (w : World Val) (p c : ℕ) (e : Entry Val) (es : List (Entry Val)) (new : World Val) (fs : List (Entry Val)) (plain : is_deleted e ≡ false)
    (sole : standing_at w e.slot ≡ Some (Shared 1)) (removes : RemovesStorage w p c (e ∷ es) new fs) where
  abbrev k : ℕ
  k = e.slot

  abbrev l : ℕ
  l = link_of e.value

  pub removed-rest : fs ≡ es
  removed-rest = let both : e ∷ es ≡ removes.first ∷ fs = removes.entries in let same : es ≡ fs = cc in sym same

  first-is : removes.first ≡ e
  first-is = let both : e ∷ es ≡ removes.first ∷ fs = removes.entries in let same : e ≡ removes.first = cc in sym same

  abbrev gone_cell : CellContents
  gone_cell = record { held = None; tag = Second }

  abbrev deleted_cell : CellContents
  deleted_cell = record { held = first_slot es; tag = Second }

  abbrev next_cell : CellContents
  next_cell = record { held = first_slot es; tag = no_tag }

  abbrev raised : ℕ → World Val
  raised n = with_standing w k (Shared (n + 1))

  -- the standings and cells that it leaves, but for the last owner
  abbrev left : Entries Standing → Entries CellContents → World Val
  left ss cs = retired (record w { standings = ss; cells = cs }) p k

  abbrev cells_deleted : Entries CellContents
  cells_deleted = slice_set (slice_set (slice_set w.cells l (Some deleted_cell)) l (Some gone_cell)) c (Some next_cell)

  between-is : removes.between
      ≡ record w { standings = slice_set (slice_set w.standings k (Some (Shared 2))) k (Some (Shared 1)); cells = cells_deleted }
  between-is = grind (arith, common_steps)

  pub removed-is : new ≡ let_go_first w p c no_tag k l (first_slot es)
  removed-is =
      removes.world
      ∙ ap (λ (x : Entry Val). retired removes.between p x.slot) first-is
      ∙ ap (λ (v : World Val). retired v p k) between-is
      ∙ ap (λ (cs : Entries CellContents). left (slice_set (slice_set w.standings k (Some (Shared 2))) k (Some (Shared 1))) (slice_set cs c (Some next_cell)))
      (set-set w.cells l (Some deleted_cell) (Some gone_cell))
      ∙ ap (λ (ss : Entries Standing). record (left w.standings (slice_set (slice_set w.cells l (Some gone_cell)) c (Some next_cell))) { standings = ss })
      (set-set (slice_set w.standings k (Some (Shared 2))) k (Some (Shared 1)) (Some Retired)
      ∙ set-set w.standings k (Some (Shared 2)) (Some Retired))
      ∙ ap (λ (s : Option Standing). owner_given
      (record w { cells = slice_set (slice_set w.cells l (Some gone_cell)) c (Some next_cell) }) p k s) (sym sole)

-- ---- what is let go of so

module _ (p c : ℕ) where
  abbrev first : World Val → Entry Val → List (Entry Val) → World Val
  first w e es = let_go_first w p c no_tag e.slot (link_of e.value) (first_slot es)

  abbrev cells_set : World Val → Entry Val → List (Entry Val) → World Val
  cells_set w e es =
      with_cell (with_cell w (link_of e.value) (record { held = None; tag = Second })) c (record { held = first_slot es; tag = no_tag })

  pub first-values : (w : World Val) (e : Entry Val) (es : List (Entry Val)) → (first w e es).values ≡ w.values
  first-values w e es = (bare (cells_set w e es) p e.slot (standing_at w e.slot)).values

  first-standing : (w : World Val) (e : Entry Val) (es : List (Entry Val)) (j : ℕ) → j ≢ e.slot → standing_at (first w e es) j ≡ standing_at w j
  first-standing w e es j far = given-other (cells_set w e es) p e.slot j (standing_at w e.slot) refl far

  -- its one owner is given up, so it waits
  first-waits : (w : World Val) (e : Entry Val) (es : List (Entry Val)) → standing_at w e.slot ≡ Some (Shared 1) →
      standing_at (first w e es) e.slot ≡ Some Retired
  first-waits w e es sole = grind (arith, common_steps)

  pub many-values : (gone rest : List (Entry Val)) (w : World Val) → (let_go_many w p c gone rest).values ≡ w.values
  many-values [] rest w = refl
  many-values (e ∷ gone) rest w = many-values gone rest (first w e (gone ++ rest)) ∙ first-values w e (gone ++ rest)

  pub many-other : (gone rest : List (Entry Val)) (w : World Val) (i : ℕ) → i ≢ c → Apart link_of i gone →
      entry_at (let_go_many w p c gone rest).cells i ≡ entry_at w.cells i
  many-other [] rest w i far apart = refl
  many-other (e ∷ gone) rest w i far apart =
      many-other gone rest (first w e (gone ++ rest)) i far apart.1
      ∙ go-other link_of w p c e.slot i (link_of e.value) no_tag (first_slot (gone ++ rest)) far (λ same. apart.0 (sym same))

  pub many-standing : (gone rest : List (Entry Val)) (w : World Val) (j : ℕ) → (IsAmong j gone → ⊥) →
      standing_at (let_go_many w p c gone rest) j ≡ standing_at w j
  many-standing [] rest w j not = refl
  many-standing (e ∷ gone) rest w j not =
      many-standing gone rest (first w e (gone ++ rest)) j (λ more. not (inr more))
      ∙ first-standing w e (gone ++ rest) j (λ same. not (inl (sym same)))

  -- entries that are in no two slots
  elsewhere-not : (k : ℕ) (es : List (Entry Val)) → AreElsewhere k es → IsAmong k es → ⊥
  elsewhere-not k [] apart among = among
  elsewhere-not k (e ∷ es) apart (inl same) = apart.0 same
  elsewhere-not k (e ∷ es) apart (inr more) = elsewhere-not k es apart.1 more

  pub shelves-behind : (w : World Val) (e : Entry Val) (es : List (Entry Val)) → AreShelves storage_in bag_length w (e ∷ es) →
      AreShelves storage_in bag_length (first w e es) es
  shelves-behind w e es are =
      keeps-shelves storage_in bag_length w (first w e es) e.slot es (λ j far. first-standing w e es j far) are.1 are.2

  elsewhere-front : (k : ℕ) (gone rest : List (Entry Val)) → AreElsewhere k (gone ++ rest) → AreElsewhere k gone
  elsewhere-front k [] rest all = tt
  elsewhere-front k (e ∷ gone) rest all = (all.0, elsewhere-front k gone rest all.1)

  pub many-waits : (gone rest : List (Entry Val)) (w : World Val) → AreShelves storage_in bag_length w (gone ++ rest) → (j : ℕ) → IsAmong j gone →
      standing_at (let_go_many w p c gone rest) j ≡ Some Retired
  many-waits [] rest w are j among = absurd among
  many-waits (e ∷ gone) rest w are j (inl here) =
      subst (λ (i : ℕ). standing_at (let_go_many w p c (e ∷ gone) rest) i ≡ Some Retired) here
      (many-standing gone rest (first w e (gone ++ rest)) e.slot (elsewhere-not e.slot gone (elsewhere-front e.slot gone rest are.1))
      ∙ first-waits w e (gone ++ rest) are.0.sole)
  many-waits (e ∷ gone) rest w are j (inr there) =
      many-waits gone rest (first w e (gone ++ rest)) (shelves-behind w e (gone ++ rest) are) j there

  -- the link of one that was let go of holds nothing
  pub many-bare : (gone rest : List (Entry Val)) (w : World Val) (t : IsList link_of w c no_tag (gone ++ rest)) →
      AreShelves storage_in bag_length w (gone ++ rest) → (j : ℕ) (x : Val) →
      IsAmong j gone → value_at w j ≡ Some x → ((s t : ℕ) (y z : Val) → value_at w s ≡ Some y → value_at w t ≡ Some z → link_of y ≡ link_of z → s ≡ t) →
      held_in (entry_at (let_go_many w p c gone rest).cells (link_of x)) ≡ None
  many-bare [] rest w list are j x among there alone = absurd among
  many-bare (e ∷ gone) rest w list are j x (inr among) there alone =
      let u : World Val = first w e (gone ++ rest) in
      let same : u.values ≡ w.values = first-values w e (gone ++ rest) in
      let back : (s : ℕ) (y : Val) → value_at u s ≡ Some y → value_at w s ≡ Some y =
      λ s y is. ap (λ (vs : List (Option Val)). slice_index_or vs s None) (sym same) ∙ is in
      many-bare gone rest u (behind link_of w p c no_tag e (gone ++ rest) list) (shelves-behind w e (gone ++ rest) are) j x among
      (ap (λ (vs : List (Option Val)). slice_index_or vs j None) same ∙ there) (λ s t y z a b. alone s t y z (back s y a) (back t z b))
  many-bare (e ∷ gone) rest w list are j x (inl here) there alone =
      let es : List (Entry Val) = gone ++ rest in
      let u : World Val = first w e es in
      let off : link_of e.value ≢ c = λ same. apart-first link_of w p c no_tag e es list (sym same) in
      let value : Some e.value ≡ Some x = sym list.linked.0.there ∙ ap (λ (i : ℕ). value_at w i) here ∙ there in
      let is : e.value ≡ x = cc in
      let link : link_of e.value ≡ link_of x = ap link_of is in
      let half : World Val = with_cell w (link_of e.value) (record { held = None; tag = Second }) in
      let now : entry_at u.cells (link_of e.value) ≡ Some (record { held = None; tag = Second }) =
      ap (λ (cs : Entries CellContents). entry_at cs (link_of e.value)) (bare (cells_set w e es) p e.slot (standing_at w e.slot)).cells
      ∙ at-other half.cells c (link_of e.value) (Some (record { held = first_slot es; tag = no_tag })) None off
      ∙ at-same w.cells (link_of e.value) (Some (record { held = None; tag = Second })) None
      (inside-list w.cells (link_of e.value) (ap is_some list.linked.0.linked)) in
      let apart = apart-front w e gone rest alone list.linked (elsewhere-front e.slot gone rest are.1) in
      ap (λ (i : ℕ). held_in (entry_at (let_go_many u p c gone rest).cells i)) (sym link)
      ∙ ap held_in (many-other gone rest u (link_of e.value) off apart) ∙ ap held_in now where
        apart-front : (w : World Val) (e : Entry Val) (gone rest : List (Entry Val)) →
            ((s t : ℕ) (y z : Val) → value_at w s ≡ Some y → value_at w t ≡ Some z → link_of y ≡ link_of z → s ≡ t) →
            AreLinked link_of w (e ∷ (gone ++ rest)) → AreElsewhere e.slot gone → Apart link_of (link_of e.value) gone
        apart-front w e gone rest alone linked elsewhere = by gone linked.1 elsewhere where
          by : (gs : List (Entry Val)) → AreLinked link_of w (gs ++ rest) → AreElsewhere e.slot gs → Apart link_of (link_of e.value) gs
          by [] linked_rest all = tt
          by (g ∷ gs) linked_rest all = (
            (λ same. all.0 (alone g.slot e.slot g.value e.value linked_rest.0.there linked.0.there same)),
            by gs linked_rest.1 all.1,
          )

-- what is removed is let go of: the first one
pub removes-one : (w : World Val) (p c : ℕ) (es : List (Entry Val)) (new : World Val) (fs : List (Entry Val)) → AreShelves storage_in bag_length w es →
    RemovesStorage w p c es new fs → (e : Entry Val) × (es ≡ e ∷ fs) × (new ≡ let_go_many w p c (e ∷ []) fs)
removes-one w p c [] new fs are removes = absurd (let never : [] ≡ removes.first ∷ fs = removes.entries in cc)
removes-one w p c (e ∷ es) new fs are removes =
    let plain = ap is_deleting are.0.plain in
    let same = removed-rest w p c e es new fs plain are.0.sole removes in
    let is = removed-is w p c e es new fs plain are.0.sole removes in (
      e,
      ap (λ (xs : List (Entry Val)). e ∷ xs) (sym same),
      is ∙ ap (λ (xs : List (Entry Val)). let_go_first w p c no_tag e.slot (link_of e.value) (first_slot xs)) (sym same),
    )

-- or all
pub removes-all : (es : List (Entry Val)) (w : World Val) (p c : ℕ) (new : World Val) → AreShelves storage_in bag_length w es →
    RemovesStorages w p c es new → new ≡ let_go_many w p c es []
removes-all [] w p c new are is = is
removes-all (e ∷ es) w p c new are (between, one_gone, more) =
    let plain = ap is_deleting are.0.plain in
    let first_is = removed-is w p c e es between es plain are.0.sole one_gone in
    let u : World Val = let_go_first w p c no_tag e.slot (link_of e.value) (first_slot es) in
    let rest = removes-all es between p c new (subst (λ (v : World Val). AreShelves storage_in bag_length v es) (sym first_is)
    (shelves-behind p c w e es are)) more in
    rest ∙ ap (λ (v : World Val). let_go_many v p c es []) first_is
    ∙ ap (λ (xs : List (Entry Val)). let_go_many (let_go_first w p c no_tag e.slot (link_of e.value) (first_slot xs)) p c es []) (sym (append-nil es))

-- ---- a bag in hand

module _ (d : ScriptState) (n own c : ℕ) where
  abbrev pub with_bag_cells : Claim → ℕ
  with_bag_cells u = named d u + one (right_to own) u + one (right_to c) u

  -- the bag of name n is in hand, by its cells, and its other storages are on these entries
  pub record IsInHand (w : World Val) (es : List (Entry Val)) : Type 0 where
    pub between : IsBetween (without_bag d n) w with_bag_cells
    pub list : IsList link_of w c no_tag es
    pub shelves : AreShelves storage_in bag_length w es

  pub stack-off : (w : World Val) → IsBetween (without_bag d n) w with_bag_cells → IsReserved (without_bag d n) w c → ⊥
  stack-off w b = off-other (without_bag d n) w with_bag_cells b.ledger b.bags c (omega (arith, same-once c))

  pub goes-many : (p : ℕ) → IsPlaceOf d.world p → (gone rest : List (Entry Val)) (w : World Val) → IsInHand w (gone ++ rest) →
      IsInHand (let_go_many w p c gone rest) rest
  goes-many p live [] rest w m = m
  goes-many p live (e ∷ gone) rest w m =
      goes-many p live gone rest (let_go_first w p c no_tag e.slot (link_of e.value) (first_slot (gone ++ rest))) (record {
        between = first-goes m.between p c no_tag (stack-off w m.between) live e (gone ++ rest) m.list;
        list = behind link_of w p c no_tag e (gone ++ rest) m.list;
        shelves = shelves-behind p c w e (gone ++ rest) m.shelves;
      })

-- it is taken in hand
module _ (d : ScriptState) (s : IsSound d) (whole : IsWhole d.world) (n : ℕ) (b : NumberBag) (is : bag_at d.bags n ≡ Some b) where
  pub bag-less : (u : Claim) → contained d u ≡ contained (without_bag d n) u + one (right_to (own_of b)) u + one (right_to (stack_of b)) u
  bag-less u = omega (arith, bag-spent d.bags n b is u)

  others-stay : BagsStay (without_bag d n).bags d.world d.world
  others-stay m a es at stands = stands

  pub begins-in_hand : (es : List (Entry Val)) → StandsOn d.world b es → IsInHand d n (own_of b) (stack_of b) d.world es
  begins-in_hand es stands = record {
    between = record {
      ledger = λ u. omega (arith, s.ledger u, bag-less u);
      bags = others-stay;
      spare = s.spare;
      whole = whole;
      frames = frames-start d.world;
    };
    list = stands.stack;
    shelves = stands.shelves;
  }

-- ---- the lists beside a bag

-- cells and values change that are none of any list
module _ (begins : ℕ → Type 0) (seconds : (c b : ℕ) → Type 0) (stored now : ℕ → Type 0) (v w : World Val) (had : HasLists begins seconds stored v)
    (first : (c : ℕ) → begins c → entry_at w.cells c ≡ entry_at v.cells c)
    (second : (c b : ℕ) → seconds c b → entry_at w.cells b ≡ entry_at v.cells b)
    (links : (s : ℕ) (x : Val) → value_at v s ≡ Some x → (stored s → ⊥) → entry_at w.cells (link_of x) ≡ entry_at v.cells (link_of x))
    (values : (s : ℕ) (x : Val) → value_at v s ≡ Some x → value_at w s ≡ Some x)
    (off : (s : ℕ) → IsListed begins v s → stored s → ⊥)
    (off_loose : (s : ℕ) (x : Val) → value_at v s ≡ Some x → (stored s → ⊥) → (old : IsLoose begins v (link_of x)) (j : ℕ) → IsAmong j old.entries →
    stored j → ⊥)
    (gone : (c b s : ℕ) → seconds c b → held_in (entry_at v.cells b) ≡ Some s → stored s → ⊥)
    (were : (s : ℕ) (x : Val) → value_at w s ≡ Some x → (now s → ⊥) →
    (held_in (entry_at w.cells (link_of x)) ≡ None) ⊎ ((value_at v s ≡ Some x) × (stored s → ⊥))) where
  linked-still : (es : List (Entry Val)) → ((s : ℕ) → IsAmong s es → stored s → ⊥) → AreLinked link_of v es → AreLinked link_of w es
  linked-still [] plain linked = tt
  linked-still (e ∷ es) plain linked = (
    record {
      there = values e.slot e.value linked.0.there;
      linked = links e.slot e.value linked.0.there (plain e.slot (inl refl)) ∙ linked.0.linked;
      plain = linked.0.plain;
    },
    linked-still es (λ s among. plain s (inr among)) linked.1,
  )

  stays-gone : StaysGone seconds v w
  stays-gone c b s y holds was = record {
    value = was.value;
    there = values s was.value was.there;
    bare = links s was.value was.there (gone c b s y holds) ∙ was.bare;
  }

  pub has-apart : HasLists begins seconds now w
  has-apart =
      has-kept_so begins seconds stored v w had now
      (λ c x es list. as-before (record {
        begins = first c x ∙ list.begins;
        linked = linked-still es (λ s among. off s (record { cell = c; entries = es; begun = x; list = list; among = among })) list.linked;
      }))
      (λ s x at not listed. elim (were s x at not) [
        | inl none ↦ inl none
        | inr was ↦ elim (had.linked s x was.0 was.1) [
          | inl none ↦ inl (ap held_in (links s x was.0 was.1) ∙ none)
          | inr (inl is_in) ↦ inr (inl is_in)
          | inr (inr loose) ↦
              inr (inr (loose-as loose (record {
                begins = links s x was.0 was.1 ∙ loose.list.begins;
                linked = linked-still loose.entries (off_loose s x was.0 was.1 loose) loose.list.linked;
              }) (λ j among. listed j)))
        ]
      ])
      second stays-gone
