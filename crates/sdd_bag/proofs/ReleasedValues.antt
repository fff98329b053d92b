-- A bag's storages where one of its values gives up what is none of theirs
use Rattle.std.proofs.Common.{◌≡◌, ◌≢◌, ◌⊎◌, inl, inr, ℕ, zero, suc, ◌+◌, List, [], ◌∷◌, ◌++◌, Option, Some, None, refl, sym, ap, ◌∙◌, subst}
use Rattle.std.specs.Prelude.{All, IfSome, length, slice_index_or, slice_set}
use Rattle.std.proofs.lemmas.List.{get_or-set_other}
use Rattle.std.proofs.lemmas.List.Elements.{All-cons, All-head, All-nil, All-tail, All-weaker}
use Rattle.sdd_bag.specs.Values.{HasOneMore}
use Rattle.sdd_core.specs.declared.tag.Tag.TheVariants as tag
use Rattle.sdd_participants.specs.Slab.{Entries, entry_at}
use Rattle.sdd_participants.specs.declared.standing.CellContents.{CellContents}
use Rattle.sdd_participants.specs.declared.standing.Standing.TheVariants.{Shared}
use Rattle.sdd_world_model.specs.OwnerOrCell.{OwnerOrCell, owned, shared, atomic_owned, atomic_shared, atomic_raw}
use Rattle.sdd_world_model.specs.World.{World, standing_at, value_at}
use Rattle.sdd_world_model.specs.WorldChanges.{cell_closed, given, given_all, held_in, owner_given, spilled, with_cell, with_standing, without_cell}
use Rattle.sdd_lists.specs.declared.linked_entry.LinkedEntry.{LinkedEntry}
use Rattle.sdd_lists.specs.Entries.{link_of}
use Rattle.sdd_lists.specs.Lists.{Apart, Entry, first_slot}
use Rattle.sdd_lists.specs.declared.stack.Stack.{Stack}
use Rattle.sdd_lists.specs.Stack.{cell_in}
use Rattle.sdd_lists.proofs.Lists.{bare, list-same}
use Rattle.sdd_lists.proofs.QueuePops.{list-without, spilled-cells, spilled-values}
use Rattle.sdd_bag.specs.Storages.{StorageName}
use Rattle.sdd_bag.specs.Overflow.{AreElsewhere, AreShelves, LiesOn, OverflowParts, RemovesStorage}
use Rattle.sdd_bag.specs.Closing.{AreBeside, EmptiesStorages, IsBeside, IsCellBeside, RemovesIfLast}
use Rattle.sdd_bag.proofs.EntryStandings.{given-other, keeps-shelves, same-shelves, trimmed-plain}

-- what is so of each of some values is so of one of them, and of the others
split : {T : Type 0} (P : T → Type 0) (xs ys : List T) (v : T) → All P (xs ++ v ∷ ys) → P v × All P (xs ++ ys)
split P [] ys v all = (All-head P v ys all, All-tail P v ys all)
split P (x ∷ xs) ys v all =
    let rest = split P xs ys v (All-tail P x (xs ++ v ∷ ys) all) in
    (rest.0, All-cons P x (xs ++ ys) (All-head P x (xs ++ v ∷ ys) all) rest.1)

pub one-of : {T : Type 0} (P : T → Type 0) (v : T) (few many : List T) → HasOneMore v few many → All P many → P v × All P few
one-of P v few many one all =
    let both = split P one.before one.behind v (subst (λ (vs : List _). All P vs) one.more all) in
    (both.0, subst (λ (vs : List _). All P vs) (sym one.fewer) both.1)

-- what is so of each of these and those
pub all-in-front : {T : Type 0} (P : T → Type 0) (xs ys : List T) → All P (xs ++ ys) → All P xs
all-in-front P [] ys all = All-nil P
all-in-front P (x ∷ xs) ys all = All-cons P x xs (All-head P x (xs ++ ys) all) (all-in-front P xs ys (All-tail P x (xs ++ ys) all))

pub all-behind : {T : Type 0} (P : T → Type 0) (xs ys : List T) → All P (xs ++ ys) → All P ys
all-behind P [] ys all = all
all-behind P (x ∷ xs) ys all = all-behind P xs ys (All-tail P x (xs ++ ys) all)

module _ {I : Type 0} where
  given-values : (w : World I) (p : ℕ) (h : OwnerOrCell) → (given w p h).values ≡ w.values
  given-values w p (owned k home) = (bare w p k (standing_at w k)).values
  given-values w p (shared k home) = (bare w p k (standing_at w k)).values
  given-values w p (atomic_owned d home) = spilled-values (without_cell w d) p (held_in (entry_at w.cells d))
  given-values w p (atomic_shared d home) = spilled-values (without_cell w d) p (held_in (entry_at w.cells d))
  given-values w p (atomic_raw d home) = spilled-values (without_cell w d) p (held_in (entry_at w.cells d))

  all-values : (w : World I) (p : ℕ) (hs : List OwnerOrCell) → (given_all w p hs).values ≡ w.values
  all-values w p [] = refl
  all-values w p (h ∷ hs) = all-values (given w p h) p hs ∙ given-values w p h

  -- who gives something up changes no value
  pub same-values : (w new : World I) (p : ℕ) (hs : List OwnerOrCell) → new ≡ given_all w p hs → (k : ℕ) → value_at new k ≡ value_at w k
  same-values w new p hs is k =
      ap (λ (x : World I). value_at x k) is ∙ ap (λ (vs : List (Option I)). slice_index_or vs k None) (all-values w p hs)

freed-there : (cs : Entries CellContents) (a d : ℕ) → (entry_at (slice_set cs a None) d ≡ entry_at cs d) ⊎ (entry_at (slice_set cs a None) d ≡ None)
freed-there [] a d = inl refl
freed-there (x ∷ cs) zero zero = inr refl
freed-there (x ∷ cs) zero (suc d) = inl refl
freed-there (x ∷ cs) (suc a) zero = inl refl
freed-there (x ∷ cs) (suc a) (suc d) = freed-there cs a d

-- what a cell holds is the same, or nothing, where some cell is freed
held-less : (P : ℕ → Type 0) (cs : Entries CellContents) (a d : ℕ) → IfSome (held_in (entry_at cs d)) P
    → IfSome (held_in (entry_at (slice_set cs a None) d)) P
held-less P cs a d was = elim (freed-there cs a d) [
  | inl same ↦ subst (λ (cell : Option CellContents). IfSome (held_in cell) P) (sym same) was
  | inr none ↦ subst (λ (cell : Option CellContents). IfSome (held_in cell) P) (sym none) tt
]

module _ {B : Type 0} (w : World (LinkedEntry B)) (p c : ℕ) (es : List (Entry (LinkedEntry B))) where
  cell-same : (u : World (LinkedEntry B)) (d : ℕ) → u.cells ≡ w.cells → IsCellBeside w c es d → IsCellBeside u c es d
  cell-same u d cells beside = record {
    cell = beside.cell;
    link = beside.link;
    held = subst (λ (cs : Entries CellContents). IfSome (held_in (entry_at cs d)) (λ k. AreElsewhere k es)) (sym cells) beside.held;
  }

  cell-freed : (u : World (LinkedEntry B)) (a d : ℕ) → u.cells ≡ slice_set w.cells a None → IsCellBeside w c es d → IsCellBeside u c es d
  cell-freed u a d cells beside = record {
    cell = beside.cell;
    link = beside.link;
    held = subst (λ (cs : Entries CellContents). IfSome (held_in (entry_at cs d)) (λ k. AreElsewhere k es)) (sym cells)
        (held-less (λ k. AreElsewhere k es) w.cells a d beside.held);
  }

  -- a cell is beside still where something is given up
  cell-given : (h : OwnerOrCell) (d : ℕ) → IsCellBeside w c es d → IsCellBeside (given w p h) c es d
  cell-given (owned k home) d beside = cell-same (given w p (owned k home)) d (bare w p k (standing_at w k)).cells beside
  cell-given (shared k home) d beside = cell-same (given w p (shared k home)) d (bare w p k (standing_at w k)).cells beside
  cell-given (atomic_owned a home) d beside =
      cell-freed (cell_closed w p a) a d (spilled-cells (without_cell w a) p (held_in (entry_at w.cells a))) beside
  cell-given (atomic_shared a home) d beside =
      cell-freed (cell_closed w p a) a d (spilled-cells (without_cell w a) p (held_in (entry_at w.cells a))) beside
  cell-given (atomic_raw a home) d beside =
      cell-freed (cell_closed w p a) a d (spilled-cells (without_cell w a) p (held_in (entry_at w.cells a))) beside

  one-given : (h g : OwnerOrCell) → IsBeside w c es g → IsBeside (given w p h) c es g
  one-given h (owned k home) beside = beside
  one-given h (shared k home) beside = beside
  one-given h (atomic_owned d home) beside = cell-given h d beside
  one-given h (atomic_shared d home) beside = cell-given h d beside
  one-given h (atomic_raw d home) beside = cell-given h d beside

module _ {B : Type 0} (p c : ℕ) (es : List (Entry (LinkedEntry B))) where
  beside-given : (w : World (LinkedEntry B)) (h : OwnerOrCell) (gs : List OwnerOrCell) → AreBeside w c es gs → AreBeside (given w p h) c es gs
  beside-given w h [] beside = tt
  beside-given w h (g ∷ gs) beside = (one-given w p c es h g beside.0, beside-given w h gs beside.1)

  -- what is beside is so still where some things are given up
  pub all-beside : (w : World (LinkedEntry B)) (hs gs : List OwnerOrCell) → AreBeside w c es gs → AreBeside (given_all w p hs) c es gs
  all-beside w [] gs beside = beside
  all-beside w (h ∷ hs) gs beside = all-beside (given w p h) hs gs (beside-given w h gs beside)

module _ {B T : Type 0} (shown : B → Option StorageName) (len p : ℕ) (es : List (Entry (LinkedEntry B))) (o : OverflowParts T B) where
  lies-owner : (w : World (LinkedEntry B)) (k : ℕ) → AreElsewhere k es → LiesOn shown len w es o
      → LiesOn shown len (owner_given w p k (standing_at w k)) es o
  lies-owner w k apart lies =
      let same = bare w p k (standing_at w k) in
      let new : World (LinkedEntry B) = owner_given w p k (standing_at w k) in
      record {
        stack = list-same link_of w new (cell_in o.stack) tag.None es same.cells same.values lies.stack;
        shelves = keeps-shelves shown len w new k es (given-other w p k (standing_at w k)) apart lies.shelves;
        keys = lies.keys;
        full = lies.full;
      }

  lies-spilled : (w : World (LinkedEntry B)) (held : Option ℕ) → IfSome held (λ k. AreElsewhere k es) → LiesOn shown len w es o
      → LiesOn shown len (spilled w p held) es o
  lies-spilled w None apart lies = lies
  lies-spilled w (Some k) apart lies = lies-owner w k apart lies

  lies-cell : (w : World (LinkedEntry B)) (d : ℕ) → IsCellBeside w (cell_in o.stack) es d → LiesOn shown len w es o
      → LiesOn shown len (cell_closed w p d) es o
  lies-cell w d beside lies =
      let freed : World (LinkedEntry B) = without_cell w d in
      lies-spilled freed (held_in (entry_at w.cells d)) beside.held (record {
        stack = list-without link_of w freed (cell_in o.stack) tag.None es d refl refl (λ same. beside.cell (sym same)) beside.link lies.stack;
        shelves = same-shelves shown len w freed es (λ j. refl) lies.shelves;
        keys = lies.keys;
        full = lies.full;
      })

  lies-one : (w : World (LinkedEntry B)) (h : OwnerOrCell) → IsBeside w (cell_in o.stack) es h → LiesOn shown len w es o
      → LiesOn shown len (given w p h) es o
  lies-one w (owned k home) beside lies = lies-owner w k beside lies
  lies-one w (shared k home) beside lies = lies-owner w k beside lies
  lies-one w (atomic_owned d home) beside lies = lies-cell w d beside lies
  lies-one w (atomic_shared d home) beside lies = lies-cell w d beside lies
  lies-one w (atomic_raw d home) beside lies = lies-cell w d beside lies

  -- the storages lie where they lay, where what is beside them is given up
  pub lies-given : (w : World (LinkedEntry B)) (hs : List OwnerOrCell) → AreBeside w (cell_in o.stack) es hs → LiesOn shown len w es o
      → LiesOn shown len (given_all w p hs) es o
  lies-given w [] beside lies = lies
  lies-given w (h ∷ hs) beside lies =
      lies-given (given w p h) hs (beside-given p (cell_in o.stack) es w h hs beside.1) (lies-one w h beside.0 lies)

module _ {B : Type 0} (shown : B → Option StorageName) (len : ℕ) (w u : World (LinkedEntry B)) (p c : ℕ) (es fs : List (Entry (LinkedEntry B)))
    (are : AreShelves shown len w es) (removes : RemovesStorage w p c es u fs) where
  abbrev first : Entry (LinkedEntry B)
  first = removes.first

  abbrev raised : World (LinkedEntry B)
  raised = with_standing w first.slot (Shared (removes.taken.owners + 1))

  abbrev moved : World (LinkedEntry B) → World (LinkedEntry B)
  moved x =
      with_cell (with_cell (with_cell x (link_of first.value) (record { held = first_slot fs; tag = tag.Second }))
      (link_of first.value) (record { held = None; tag = tag.Second })) c (record { held = first_slot fs; tag = tag.None })

  cells-are : u.cells ≡ (moved raised).cells
  cells-are =
      ap (λ (x : World (LinkedEntry B)). x.cells) removes.world
      ∙ ap (λ (x : World (LinkedEntry B)). x.cells) removes.taken.world
      ∙ ap (λ (x : World (LinkedEntry B)). (owner_given (moved x) p first.slot (standing_at x first.slot)).cells)
      (trimmed-plain shown len raised p c tag.None w es are)
      ∙ (bare (moved raised) p first.slot (standing_at raised first.slot)).cells

  -- a cell beside is as before where the first storage is taken out
  cell-before : (d : ℕ) → d ≢ c → d ≢ link_of first.value → entry_at u.cells d ≡ entry_at w.cells d
  cell-before d not-stack not-link =
      let l : ℕ = link_of first.value in
      let one : CellContents = record { held = first_slot fs; tag = tag.Second } in
      let two : CellContents = record { held = None; tag = tag.Second } in
      let three : CellContents = record { held = first_slot fs; tag = tag.None } in
      ap (λ (cs : Entries CellContents). entry_at cs d) cells-are
      ∙ get_or-set_other (slice_set (slice_set w.cells l (Some one)) l (Some two)) c d (Some three) None not-stack
      ∙ get_or-set_other (slice_set w.cells l (Some one)) l d (Some two) None not-link
      ∙ get_or-set_other w.cells l d (Some one) None not-link

  elsewhere-then : (k : ℕ) → AreElsewhere k es → AreElsewhere k fs
  elsewhere-then k apart = (subst (λ (gs : List (Entry (LinkedEntry B))). AreElsewhere k gs) removes.entries apart).1

  cell-then : (d : ℕ) → IsCellBeside w c es d → IsCellBeside u c fs d
  cell-then d beside =
      let apart = subst (λ (gs : List (Entry (LinkedEntry B))). Apart link_of d gs) removes.entries beside.link in
      let held = subst (λ (gs : List (Entry (LinkedEntry B))). IfSome (held_in (entry_at w.cells d)) (λ k. AreElsewhere k gs)) removes.entries beside.held in
      record {
        cell = beside.cell;
        link = apart.1;
        held = subst (λ (cell : Option CellContents). IfSome (held_in cell) (λ k. AreElsewhere k fs))
            (sym (cell-before d beside.cell (λ same. apart.0 (sym same)))) (held-behind (held_in (entry_at w.cells d)) held);
      }
    where
      held-behind : (h : Option ℕ) → IfSome h (λ k. AreElsewhere k (first ∷ fs)) → IfSome h (λ k. AreElsewhere k fs)
      held-behind None was = tt
      held-behind (Some k) was = was.1

  one-then : (h : OwnerOrCell) → IsBeside w c es h → IsBeside u c fs h
  one-then (owned k home) beside = elsewhere-then k beside
  one-then (shared k home) beside = elsewhere-then k beside
  one-then (atomic_owned d home) beside = cell-then d beside
  one-then (atomic_shared d home) beside = cell-then d beside
  one-then (atomic_raw d home) beside = cell-then d beside

  -- what is beside is so still where the first storage is taken out
  pub beside-then : (hs : List OwnerOrCell) → AreBeside w c es hs → AreBeside u c fs hs
  beside-then [] beside = tt
  beside-then (h ∷ hs) beside = (one-then h beside.0, beside-then hs beside.1)

-- the same where one storage is taken out, or none is
pub beside-next : {B : Type 0} (shown : B → Option StorageName) (len : ℕ) (w u : World (LinkedEntry B)) (p c : ℕ) (es fs : List (Entry (LinkedEntry B)))
    → AreShelves shown len w es → (Places : Type 0) → (u ≡ w) × (fs ≡ es) ⊎ Places × RemovesStorage w p c es u fs → (hs : List OwnerOrCell)
    → AreBeside w c es hs → AreBeside u c fs hs
beside-next shown len w u p c es fs are Places (inl same) hs beside =
    subst (λ (x : World (LinkedEntry _)). AreBeside x c fs hs) (sym same.0)
    (subst (λ (gs : List (Entry (LinkedEntry _))). AreBeside w c gs hs) (sym same.1) beside)
beside-next shown len w u p c es fs are Places (inr one) hs beside = beside-then shown len w u p c es fs are one.1 hs beside

module _ {B T : Type 0} (shown : B → Option StorageName) (len : ℕ) (w u new : World (LinkedEntry B)) (p : ℕ) (es fs : List (Entry (LinkedEntry B)))
    (old now : OverflowParts T B) (holds : T → List OwnerOrCell) (v : T) where
  -- the storages lie where they lay, and what is beside them is so still, where one may be taken out, and then a value gives up what it holds
  pub after-next : LiesOn shown len w es old → LiesOn shown len u fs now → now.stack ≡ old.stack → (Places : Type 0)
      → (u ≡ w) × (fs ≡ es) ⊎ Places × RemovesStorage w p (cell_in old.stack) es u fs → new ≡ given_all u p (holds v) → (few many : List T)
      → HasOneMore v few many → All (λ x. AreBeside w (cell_in old.stack) es (holds x)) many
      → LiesOn shown len new fs now × All (λ x. AreBeside new (cell_in now.stack) fs (holds x)) few
  after-next was lies stack Places step is few many more beside =
      let c : ℕ = cell_in old.stack in
      let next : (x : T) → AreBeside w c es (holds x) → AreBeside u c fs (holds x) = λ x.
      beside-next shown len w u p c es fs was.shelves Places step (holds x) in
      let both = one-of (λ x. AreBeside w c es (holds x)) v few many more beside in
      let first : AreBeside u (cell_in now.stack) fs (holds v) =
      subst (λ (s : Stack B). AreBeside u (cell_in s) fs (holds v)) (sym stack) (next v both.0) in
      let given : (x : T) → AreBeside w c es (holds x) → AreBeside new (cell_in now.stack) fs (holds x) = λ x apart.
      subst (λ (y : World (LinkedEntry B)). AreBeside y (cell_in now.stack) fs (holds x)) (sym is)
      (subst (λ (s : Stack B). AreBeside (given_all u p (holds v)) (cell_in s) fs (holds x)) (sym stack)
      (all-beside p c fs u (holds v) (holds x) (next x apart)))
      in (
        subst (λ (y : World (LinkedEntry B)). LiesOn shown len y fs now) (sym is) (lies-given shown len p fs now u (holds v) first lies),
        All-weaker (λ x. AreBeside w c es (holds x)) (λ x. AreBeside new (cell_in now.stack) fs (holds x)) given few both.1,
      )

-- a value more gives up what it holds, and before it does a storage may be taken out
pub empties-next : {B T : Type 0} (holds : T → List OwnerOrCell) (len : ℕ) (w u new end : World (LinkedEntry B)) (p : ℕ)
    (es fs : List (Entry (LinkedEntry B))) (was now : Stack B) (v : T) (vs : List T) → now ≡ was
    → RemovesIfLast len (length vs) w p (cell_in was) es u fs → new ≡ given_all u p (holds v)
    → EmptiesStorages holds len new p (cell_in now) fs vs end → EmptiesStorages holds len w p (cell_in was) es (v ∷ vs) end
empties-next {B = B} holds len w u new end p es fs was now v vs stack step is rest = (
  fs,
  u,
  step,
  subst (λ (s : Stack B). EmptiesStorages holds len (given_all u p (holds v)) p (cell_in s) fs vs end) stack
      (subst (λ (x : World (LinkedEntry B)). EmptiesStorages holds len x p (cell_in now) fs vs end) is rest),
)
