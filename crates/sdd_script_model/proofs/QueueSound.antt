-- What is always true of a state is true after each line on a queue, but for a push
use Rattle.sdd_script_model.proofs.Words.{◌≡◌, ◌≢◌, ◌⊎◌, ◌+◌, ◌<◌, ◌≤◌, inl, inr, ℕ, List, [], ◌∷◌, ◌++◌, Bool, true, false, Option, Some, None, is_some, length, slice_set, refl, sym, ap, ◌∙◌, subst, arith, if◌then◌else◌, cases_eq, IsEmptyAt, entry_at, OwnerOrCell, Claim, owner_of, right_to, one, owner_held, IsLedger, changes_cell, makes_cell, spends_cell, World, IsPlaceOf, value_at, nulled, spilled, with_cell, with_standing, without_cell, IsWhole, ledger-laws, Entry, emptied, IsQueue, IsSecond, QueueCells, cell_emptied, cell_left, lets_go_of, queue_closed, list-apart, list-without, spilled-cells, spilled-values, list-same, IsStored, AreNumbers, Begins, HasLists, HoldsEntry, IsNumber, DrainsQueue, IsNamedQueue, TakesOldest, ScriptState, IsListCell, IsSecondCell, holding_at, in_world, shared_cell, with_owner, with_queue, IsSound, contained, named, stacked, Val, body_of, holdings_of, link_of, without_queue, common_steps}
use Rattle.sdd_core.specs.declared.tag.Tag.TheVariants.{None as no_tag}
use Rattle.sdd_script_model.proofs.Lemmas.{left-entry, pushed-entry, AtHome, IsMidway, LeavesSound, are-own, at_home-given, at_home-spent, finishes, left-apart, list-apart-from, midway-as, moves, own-midway, shares-one, leaves-with, same-line, stacked-right, stacked-twice, tells, some-holding, stack-given, stack-spent, dated-same, at-other, at-pushed, Frames, frames-on, frames-start, quiet-less, null, same-once, AreOwn, apart-own, same-list, has-begun, has-ended, has-same, has-seconds, spare-on, stays-on, starts, owner-given, inside as inside-list}
use Rattle.sdd_script_model.proofs.StackChains.{IsSingle, IsWith, between, empties, goes-on, in-front, midway, removed-value, removes, spills-between, trims}
use Rattle.sdd_script_model.proofs.StackSound.{IsDatedWithin, dated-all}
use Rattle.sdd_participants.specs.declared.standing.Standing.TheVariants as standing
use Rattle.sdd_world_model.specs.OwnerOrCell as holding

-- ---- what a cell held is given up

pub spills : {d : ScriptState} {w : World Val} {outside : Claim → ℕ} (p : ℕ) → IsPlaceOf d.world p → (held : Option ℕ) →
    IsMidway d w (λ u. outside u + owner_held held u) → IsMidway d (spilled w p held) outside
spills {d} {w} p live held m =
    midway (spills-between p live held (between m))
    (has-same (IsListCell d) (IsSecondCell d) (IsStored d.bags d.world) w (spilled w p held) (spilled-cells w p held) (spilled-values w p held) m.lists)

-- ---- a queue begins

module _ (d : ScriptState) (s : IsSound d) (whole : IsWhole d.world) (p : ℕ) (live : IsPlaceOf d.world p) (q : QueueCells)
    (free : IsEmptyAt d.world.cells q.oldest) (other : IsEmptyAt d.world.cells q.newest) (apart : q.oldest ≢ q.newest)
    (long : length d.queues ≡ length d.newest) where
  abbrev first_cell : OwnerOrCell
  first_cell = holding.atomic_shared q.oldest d.world.home.cells

  abbrev second_cell : OwnerOrCell
  second_cell = holding.atomic_shared q.newest d.world.home.cells

  -- its list begins, and has no second cell yet
  abbrev half : ScriptState
  half = record d { queues = d.queues ++ Some first_cell ∷ [] }

  abbrev pub after_queue_begun : ScriptState
  after_queue_begun = in_world (with_queue d q.oldest q.newest) (nulled (nulled d.world q.oldest) q.newest)

  half-or : (b : ℕ) → IsListCell half b → IsListCell d b ⊎ (b ≡ q.oldest)
  half-or b (inr stack) = inl (inr stack)
  half-or b (inl (n, is)) =
      let h = some-holding shared_cell refl (holding_at half.queues n) b is in
      elim (pushed-entry d.queues first_cell h.0 n h.1) [
        | inl last ↦
            (let named : shared_cell (Some first_cell) ≡ Some b = ap (λ x. shared_cell (Some x)) last.1 ∙ h.2 in
            inr (let same : b ≡ q.oldest = cc in same))
        | inr was ↦ inl (inl (n, ap shared_cell was ∙ h.2))
      ]

  half-old : (b : ℕ) → IsListCell d b → IsListCell half b
  half-old b (inr stack) = inr stack
  half-old b (inl (n, is)) =
      let h = some-holding shared_cell refl (holding_at d.queues n) b is in
      let lt : n < length d.queues = inside-list d.queues n (ap is_some h.1) in
      inl (n, ap shared_cell (at-pushed d.queues (Some first_cell) None n (λ same. omega (arith, same, lt))) ∙ is)

  half-second : (c b : ℕ) → IsSecondCell half c b → IsSecondCell d c b
  half-second c b h = grind (arith, common_steps)

  begun : IsMidway half (nulled d.world q.oldest) (named d)
  begun =
      let m = goes-on (between (starts d s whole)) (makes_cell d.world q.oldest null free) tt tt (named d) (λ u. omega arith) in
      record {
        ledger = λ u. omega (arith, m.ledger u, stack-given d.queues first_cell q.oldest refl u);
        lists = has-seconds (IsListCell half) (IsSecondCell d) (IsSecondCell half) (IsStored d.bags d.world) (nulled d.world q.oldest)
            (has-begun (IsListCell d) (IsListCell half) (IsSecondCell d) (IsStored d.bags d.world) d.world s.lists q.oldest free half-or half-old)
            (λ c b y. inl (half-second c b y));
        bags = m.bags;
        spare = m.spare;
        whole = m.whole;
        frames = m.frames;
      }

  still-free : IsEmptyAt (nulled d.world q.oldest).cells q.newest
  still-free = grind (arith, common_steps)

  both : IsMidway half (nulled (nulled d.world q.oldest) q.newest) (λ u. named d u + one (right_to q.newest) u)
  both = moves begun (makes_cell (nulled d.world q.oldest) q.newest null still-free) tt (named d) (λ u. omega arith) (λ u never. absurd never)

  bare-second : (es : List (Entry Val)) → HoldsEntry after_queue_begun.world q.newest es
  bare-second es = grind (arith, common_steps)

  new-second : (c b : ℕ) → IsSecondCell after_queue_begun c b →
      IsSecondCell half c b ⊎ (IsListCell half c × ((es : List (Entry Val)) → Begins after_queue_begun.world c es → HoldsEntry after_queue_begun.world b es))
  new-second c b (n, oldest, newest) =
      let h = some-holding shared_cell refl (holding_at after_queue_begun.newest n) b newest in
      elim (pushed-entry d.newest second_cell h.0 n h.1) [
        | inl last ↦
            (let named : shared_cell (Some second_cell) ≡ Some b = ap (λ x. shared_cell (Some x)) last.1 ∙ h.2 in
            let same : q.newest ≡ b = cc in
            inr (inl (n, oldest), (λ es list. subst (λ (i : ℕ). HoldsEntry after_queue_begun.world i es) same (bare-second es))))
        | inr was ↦ inl (n, oldest, ap shared_cell was ∙ h.2)
      ]

  pub queue_begun-leaves : LeavesSound d after_queue_begun
  queue_begun-leaves =
      let m = both in
      leaves-with d after_queue_begun s (same-line d) (dated-same d after_queue_begun refl refl) p live m.frames (refl, refl, refl) m.bags
      (λ u. omega (arith, m.ledger u, stack-given d.newest second_cell q.newest refl u))
      (has-seconds (IsListCell half) (IsSecondCell half) (IsSecondCell after_queue_begun) (IsStored d.bags d.world) after_queue_begun.world m.lists new-second)
      m.spare (
        s.home.owners,
        s.home.cells,
        s.home.collectors,
        at_home-given d.world.home d.queues first_cell refl s.home.queues,
        at_home-given d.world.home d.newest second_cell refl s.home.newest,
        s.home.stacks,
      )

-- ---- what a queue has, by its names

-- where its cells are known
pub queue-in : (d : ScriptState) (w : World Val) (all : Claim → ℕ) → IsLedger holdings_of all w → AreOwn (IsListCell d) (IsSecondCell d) all →
    HasLists (IsListCell d) (IsSecondCell d) (IsStored d.bags d.world) w → (n : ℕ) (q : QueueCells) → shared_cell (holding_at d.queues n) ≡ Some q.oldest →
    shared_cell (holding_at d.newest n) ≡ Some q.newest → (es : List (Entry Val)) × (second : Option ℕ) × IsQueue link_of w q es second
queue-in d w all ledger own had n q oldest newest =
    let pair : IsSecondCell d q.oldest q.newest = (n, oldest, newest) in
    let first = had.lists q.oldest (inl (n, oldest)) in
    let held = (had.second q.oldest q.newest pair).1 first.0 first.1 in (
      first.0,
      held.second,
      record {
        list = first.1;
        newest = held.holds;
        among = held.among;
        two = own.two q.oldest q.oldest q.newest (inl (n, oldest)) pair;
        apart = apart-own w all ledger q.newest (own.second q.oldest q.newest pair) first.0 first.1.linked;
      },
    )

-- at the start of a line
pub queue-there : (d : ScriptState) → IsSound d → (n : ℕ) (q : QueueCells) → shared_cell (holding_at d.queues n) ≡ Some q.oldest →
    shared_cell (holding_at d.newest n) ≡ Some q.newest → (es : List (Entry Val)) × (second : Option ℕ) × IsQueue link_of d.world q es second
queue-there d s n q oldest newest =
    let all : Claim → ℕ = λ u. named d u + contained d u in
    queue-in d d.world all s.ledger (are-own d d.world all all s.ledger (λ u. omega arith) (λ u. omega arith)) s.lists n q oldest newest

-- ---- its names are spent

module _ (d : ScriptState) (n : ℕ) (q : QueueCells) (oldest : shared_cell (holding_at d.queues n) ≡ Some q.oldest) where
  abbrev spent_second : ScriptState
  spent_second = record d { newest = slice_set d.newest n None }

  pub first-less : (u : Claim) → contained spent_second u ≡ contained (without_queue d n) u + one (right_to q.oldest) u
  first-less u = let h = some-holding shared_cell refl (holding_at d.queues n) q.oldest oldest in omega (arith, stack-spent d.queues n q.oldest h.0 h.1 h.2 u)

  pub kept-first : (b : ℕ) → IsListCell spent_second b → b ≢ q.oldest → IsListCell (without_queue d n) b
  kept-first b (inl (k, there)) far = inl (
    k,
    ap shared_cell (at-other d.queues n k None None (λ same. far
        (let both : Some b ≡ Some q.oldest = sym there ∙ ap (λ (i : ℕ). shared_cell (holding_at d.queues i)) same ∙ oldest in cc))) ∙ there,
  )
  kept-first b (inr stack) far = inr stack

  module _ (s : IsSound d) where
    pub first-alone : contained d (right_to q.oldest) ≡ 1
    first-alone =
        let some = stacked-right d.queues n q.oldest oldest in
        let once = ((tells d s).alone q.oldest (omega (arith, some))).1 in
        omega (arith, some, once)

pub was-first : (d : ScriptState) → IsSound d → (n : ℕ) (q : QueueCells) → shared_cell (holding_at d.queues n) ≡ Some q.oldest → (b : ℕ) →
    IsListCell (without_queue d n) b → IsListCell (record d { newest = slice_set d.newest n None }) b × (b ≢ q.oldest)
was-first d s n q oldest b (inl (k, there)) =
    let h = some-holding shared_cell refl (holding_at (slice_set d.queues n None) k) b there in
    let before = left-entry d.queues n k h.0 h.1 in (
      inl (k, ap shared_cell before.1 ∙ h.2),
      (λ same. (let twice = stacked-twice d.queues k n q.oldest before.0 (ap shared_cell before.1 ∙ h.2 ∙ ap (λ (i : ℕ). Some i) same) oldest in
          omega (arith, first-alone d n q oldest s, twice))),
    )
was-first d s n q oldest b (inr (k, there)) = (
  inr (k, there),
  (λ same. (let other : 1 ≤ stacked d.stacks (right_to q.oldest) = stacked-right d.stacks k q.oldest (there ∙ ap (λ (i : ℕ). Some i) same) in
      omega (arith, first-alone d n q oldest s, other, stacked-right d.queues n q.oldest oldest))),
)

pub second-was : (d : ScriptState) (n c b : ℕ) → IsSecondCell (without_queue d n) c b → IsSecondCell (record d { newest = slice_set d.newest n None }) c b
second-was d n c b (k, first, other) =
    let h = some-holding shared_cell refl (holding_at (slice_set d.queues n None) k) c first in
    (k, ap shared_cell (left-entry d.queues n k h.0 h.1).1 ∙ h.2, other)

-- ---- the second cell of a queue is in hand: the list is like a stack's meanwhile

module _ (d : ScriptState) (n : ℕ) (q : QueueCells) (newest : shared_cell (holding_at d.newest n) ≡ Some q.newest) where
  abbrev pub bare : ScriptState
  bare = record d { newest = slice_set d.newest n None }

  pub second-less : (u : Claim) → contained d u ≡ contained bare u + one (right_to q.newest) u
  second-less u = let h = some-holding shared_cell refl (holding_at d.newest n) q.newest newest in omega (arith, stack-spent d.newest n q.newest h.0 h.1 h.2 u)

  pub bare-was : (c b : ℕ) → IsSecondCell bare c b →
      (k : ℕ) × (k ≢ n) × (shared_cell (holding_at d.queues k) ≡ Some c) × (shared_cell (holding_at d.newest k) ≡ Some b)
  bare-was c b (k, first, second) =
      let h = some-holding shared_cell refl (holding_at bare.newest k) b second in
      let was = left-entry d.newest n k h.0 h.1 in
      (k, was.0, first, ap shared_cell was.1 ∙ h.2)

  module _ (s : IsSound d) (oldest : shared_cell (holding_at d.queues n) ≡ Some q.oldest) where
    pub first-single : IsSingle bare q.oldest
    first-single = record {
      begins = inl (n, oldest);
      single = λ b y.
          (let was = bare-was q.oldest b y in
          omega (arith, first-alone d n q oldest s, stacked-twice d.queues was.0 n q.oldest was.1 was.2 oldest));
    }

module _ (d : ScriptState) (s : IsSound d) (whole : IsWhole d.world) (n : ℕ) (q : QueueCells) (oldest : shared_cell (holding_at d.queues n) ≡ Some q.oldest)
    (newest : shared_cell (holding_at d.newest n) ≡ Some q.newest) where
  abbrev base : ScriptState
  base = bare d n q newest

  pub bare-lists : HasLists (IsListCell base) (IsSecondCell base) (IsStored base.bags base.world) d.world
  bare-lists =
      has-seconds (IsListCell d) (IsSecondCell d) (IsSecondCell base) (IsStored d.bags d.world) d.world s.lists
      (λ c b y. (let was = bare-was d n q newest c b y in inl (was.0, was.2, was.3)))

  pub in-hand : IsMidway base d.world (λ u. named d u + one (right_to q.newest) u)
  in-hand = record {
    ledger = λ u. omega (arith, s.ledger u, second-less d n q newest u);
    lists = bare-lists;
    bags = λ k b es is stands. stands;
    spare = s.spare;
    whole = whole;
    frames = frames-start d.world;
  }

  pub its-numbers : (es : List (Entry Val)) → Begins d.world q.oldest es → AreNumbers es
  its-numbers es list =
      let first = s.lists.lists q.oldest (inl (n, oldest)) in
      subst (λ (fs : List (Entry Val)). AreNumbers fs) (same-list d.world q.oldest first.0 es first.1 list) first.2

  -- and it is put back, with an entry of the list, or nothing
  pub second-back : {w : World Val} {outside : Claim → ℕ} → IsMidway base w (λ u. outside u + one (right_to q.newest) u) →
      ((es : List (Entry Val)) → Begins w q.oldest es → HoldsEntry w q.newest es) → IsMidway d w outside
  second-back {w} m holds = record {
    ledger = λ u. omega (arith, m.ledger u, second-less d n q newest u);
    lists = has-seconds (IsListCell base) (IsSecondCell base) (IsSecondCell d) (IsStored d.bags d.world) w m.lists back;
    bags = m.bags;
    spare = m.spare;
    whole = m.whole;
    frames = m.frames;
  } where
    is-it : (b : ℕ) → shared_cell (holding_at d.newest n) ≡ Some b → q.newest ≡ b
    is-it b there = let both : Some q.newest ≡ Some b = sym newest ∙ there in cc

    begins-it : (c : ℕ) → shared_cell (holding_at d.queues n) ≡ Some c → q.oldest ≡ c
    begins-it c there = let both : Some q.oldest ≡ Some c = sym oldest ∙ there in cc

    back : (c b : ℕ) → IsSecondCell d c b → IsSecondCell base c b ⊎ (IsListCell base c × ((es : List (Entry Val)) → Begins w c es → HoldsEntry w b es))
    back c b (k, first, second) = elim (cases_eq k n) [
      | inl same ↦
          (let first_is : q.oldest ≡ c = begins-it c (ap (λ (i : ℕ). shared_cell (holding_at d.queues i)) (sym same) ∙ first) in
          let second_is : q.newest ≡ b = is-it b (ap (λ (i : ℕ). shared_cell (holding_at d.newest i)) (sym same) ∙ second) in
          inr (
            inl (k, first),
            (λ es list.
                subst (λ (i : ℕ). HoldsEntry w i es) second_is (holds es (subst (λ (i : ℕ). Begins w i es) (sym first_is) list))),
          ))
      | inr far ↦ inl (k, first, ap shared_cell (at-other d.newest n k None None far) ∙ second)
    ]

  -- it gives what it holds
  module _ (p : ℕ) (live : IsPlaceOf d.world p) {w : World Val} {outside : Claim → ℕ} (m : IsMidway base w (λ u. outside u + one (right_to q.newest) u))
      (held : Option ℕ) (holds : entry_at w.cells q.newest ≡ Some (record { held = held; tag = no_tag })) where
    pub gives-second : (put : Option ℕ) (rest : Claim → ℕ) → ((u : Claim) → outside u ≡ rest u + owner_held put u) →
        IsMidway base (spilled (with_cell w q.newest (record { held = put; tag = no_tag })) p held) (λ u. rest u + one (right_to q.newest) u)
    gives-second put rest same =
        spills p live held
        (midway-as (moves m (changes_cell w q.newest (record { held = held; tag = no_tag }) (record { held = put; tag = no_tag }) holds) tt
        (λ u. rest u + one (right_to q.newest) u) (λ u. omega (arith, same u)) (λ u is. rw is (omega (arith, same-once q.newest))))
        (λ u. omega arith))

-- ---- lines on a queue with entries

module _ (d : ScriptState) (s : IsSound d) (whole : IsWhole d.world) (p : ℕ) (live : IsPlaceOf d.world p) (n : ℕ) (q : QueueCells) (es : List (Entry Val))
    (second : Option ℕ) (is : IsNamedQueue d n q es second) where
  abbrev without_second : ScriptState
  without_second = bare d n q is.newest

  its : IsSingle without_second q.oldest
  its = first-single d n q is.newest s is.oldest

  begins-so : IsMidway without_second d.world (λ u. named d u + one (right_to q.newest) u)
  begins-so = in-hand d s whole n q is.oldest is.newest

  homes : AtHome d.world.home d.owners × AtHome d.world.home d.cells × AtHome d.world.home d.collectors
  homes = (s.home.owners, s.home.cells, s.home.collectors)

  numbers : AreNumbers es
  numbers = its-numbers d s whole n q is.oldest is.newest es is.queue.list

  -- the list stays where the second cell changes, and what it held is given up
  list-beside : (w : World Val) → Begins w q.oldest es → (held put : Option ℕ) →
      Begins (spilled (with_cell w q.newest (record { held = put; tag = no_tag })) p held) q.oldest es
  list-beside w list held put =
      let u : World Val = with_cell w q.newest (record { held = put; tag = no_tag }) in
      list-same link_of u (spilled u p held) q.oldest no_tag es (spilled-cells u p held) (spilled-values u p held)
      (list-apart link_of w u q.oldest no_tag es q.newest (record { held = put; tag = no_tag }) refl refl is.queue.two is.queue.apart list)

  -- ---- the deleted entries in front are let go of, which are all
  module _ (w : World Val) (drains : DrainsQueue d.world p q es second w) (dates : List ℕ) where
    abbrev pub after_queue_drained : ScriptState
    after_queue_drained = record (in_world d w) { dates = dates }

    emptied-so : IsWith without_second (λ u. named d u + one (right_to q.newest) u) p q.oldest its live (cell_emptied d.world p q.newest second) es
    emptied-so = record {
      midway = gives-second d s whole n q is.oldest is.newest p live begins-so second is.queue.newest None (named d) (λ u. omega arith);
      list = list-beside d.world is.queue.list second None;
      numbers = numbers;
    }

    out : IsMidway d w (named d)
    out =
        second-back d s whole n q is.oldest is.newest
        (subst (λ (u : World Val). IsMidway without_second u (λ x. named d x + one (right_to q.newest) x)) (sym drains.world)
        (trims without_second (λ u. named d u + one (right_to q.newest) u) p q.oldest its live (cell_emptied d.world p q.newest second) es emptied-so).midway)
        (λ fs list. record { second = None; holds = drains.queue.newest; among = tt })

    pub queue_drained-leaves : IsDatedWithin d after_queue_drained → LeavesSound d after_queue_drained
    queue_drained-leaves within =
        finishes d w d.owners d.cells d.collectors dates s out
        (λ u. refl) homes (dated-all d after_queue_drained s.stocked out.frames.slots.slots within) p live

  -- ---- the first entry is taken out
  module _ (e : Entry Val) (w : World Val) (takes : TakesOldest d.world p q es second e w) where
    abbrev pub after_taken : List ℕ → ScriptState
    after_taken dates = record (with_owner (in_world d w) (holding.shared e.slot d.world.home.slots)) { dates = dates }

    abbrev owned_more : World Val
    owned_more = with_standing d.world e.slot (standing.Shared (takes.owners + 1))

    abbrev outside : Claim → ℕ
    outside u = named d u + one (owner_of e.slot) u

    one-more : IsMidway without_second owned_more (λ u. outside u + one (right_to q.newest) u)
    one-more =
        midway-as (shares-one begins-so e.slot takes.owners takes.shared
        (left-apart begins-so q.oldest e.slot no_tag es (list-apart-from begins-so q.oldest its.begins) is.queue.list e takes.rest takes.first refl))
        (λ u. omega arith)

    list-more : Begins owned_more q.oldest es
    list-more = list-same link_of d.world owned_more q.oldest no_tag es refl refl is.queue.list

    -- the second cell gives its owner where that is let go of
    left-by : (b : Bool) → IsWith without_second (λ u. outside u + one (right_to q.newest) u) p q.oldest its live
        (if b then cell_emptied owned_more p q.newest second else owned_more) es
    left-by true = record {
      midway = gives-second d s whole n q is.oldest is.newest p live one-more second is.queue.newest None outside (λ u. omega arith);
      list = list-beside owned_more list-more second None;
      numbers = numbers;
    }
    left-by false = record { midway = one-more; list = list-more; numbers = numbers }

    with-it : IsWith without_second (λ u. outside u + one (right_to q.newest) u) p q.oldest its live (cell_left owned_more p q.newest second es) es
    with-it = left-by (lets_go_of second es)

    taken-out : IsMidway d w outside
    taken-out =
        second-back d s whole n q is.oldest is.newest
        (subst (λ (u : World Val). IsMidway without_second u (λ x. outside x + one (right_to q.newest) x)) (sym takes.world)
        (removes without_second (λ u. outside u + one (right_to q.newest) u) p q.oldest its live (cell_left owned_more p q.newest second es) es e takes.rest
        takes.first with-it))
        (λ fs list. (let same = same-list w q.oldest takes.rest fs takes.queue.list list in record {
          second = _;
          holds = takes.queue.newest;
          among = subst (λ (gs : List (Entry Val)). IsSecond link_of w _ gs) same takes.queue.among;
        }))

    pub taken-home : w.home ≡ d.world.home
    taken-home = taken-out.frames.slots.home

    -- it has a number, and its value still
    pub taken-number : IsNumber (body_of e.value)
    taken-number =
        (in-front without_second (λ u. outside u + one (right_to q.newest) u) p q.oldest its live (cell_left owned_more p q.newest second es) es e takes.rest
        takes.first with-it).numbers.0

    pub taken-value : value_at w e.slot ≡ Some e.value
    taken-value =
        ap (λ (u : World Val). value_at u e.slot) takes.world
        ∙ removed-value without_second (λ u. outside u + one (right_to q.newest) u) p q.oldest its live (cell_left owned_more p q.newest second es) es e
        takes.rest takes.first with-it

    pub taken-leaves : (dates : List ℕ) → IsDatedWithin d (after_taken dates) → LeavesSound d (after_taken dates)
    taken-leaves dates within =
        let h = holding.shared e.slot d.world.home.slots in
        finishes d w (d.owners ++ Some h ∷ []) d.cells d.collectors dates s taken-out
        (owner-given d.owners d.cells d.collectors h e.slot refl)
        (at_home-given d.world.home d.owners h refl s.home.owners, s.home.cells, s.home.collectors)
        (dated-all d (after_taken dates) s.stocked taken-out.frames.slots.slots within) p live

  -- ---- it is closed
  module _ (dates : List ℕ) where
    abbrev pub after_queue_closed : ScriptState
    after_queue_closed = record (in_world (without_queue d n) (queue_closed link_of d.world p q es second)) { dates = dates }

    abbrev freed : World Val
    freed = spilled (without_cell d.world q.newest) p second

    abbrev drained : World Val
    drained = emptied link_of freed p q.oldest no_tag es

    freed-so : IsWith without_second (named d) p q.oldest its live freed es
    freed-so = record {
      midway = spills p live second
          (moves begins-so (spends_cell d.world q.newest (record { held = second; tag = no_tag }) is.queue.newest) tt (named d) (λ u. omega arith)
          (λ u never. absurd never));
      list = list-same link_of (without_cell d.world q.newest) freed q.oldest no_tag es (spilled-cells (without_cell d.world q.newest) p second)
          (spilled-values (without_cell d.world q.newest) p second)
          (list-without link_of d.world (without_cell d.world q.newest) q.oldest no_tag es q.newest refl refl is.queue.two is.queue.apart is.queue.list);
      numbers = numbers;
    }

    all-gone : IsWith without_second (named d) p q.oldest its live drained []
    all-gone = empties without_second (named d) p q.oldest its live freed es freed-so

    pub queue_closed-frames : Frames d.world after_queue_closed.world
    queue_closed-frames =
        frames-on all-gone.midway.frames all-gone.midway.whole (spends_cell drained q.oldest (record { held = None; tag = no_tag }) all-gone.list.begins) tt

    pub queue_closed-leaves : IsDatedWithin d after_queue_closed → LeavesSound d after_queue_closed
    queue_closed-leaves within =
        let m = all-gone.midway in
        let move = spends_cell drained q.oldest (record { held = None; tag = no_tag }) all-gone.list.begins in
        let kept = (ledger-laws holdings_of drained).kept m.whole _ _ after_queue_closed.world move in
        let frames = queue_closed-frames in
        let before : IsLedger holdings_of (λ u. named d u + contained (without_queue d n) u + one (right_to q.oldest) u) drained =
        λ u. omega (arith, m.ledger u, first-less d n q is.oldest u) in
        leaves-with d after_queue_closed s (same-line d) (dated-all d after_queue_closed s.stocked frames.slots.slots within) p live frames
        (refl, refl, refl) (stays-on (without_queue d n) move m.whole (named d) before tt m.bags)
        (λ u. omega (
          arith,
          kept.ledger (λ x. named d x + contained after_queue_closed x) (λ x. omega (arith, m.ledger x, first-less d n q is.oldest x)) u,
        ))
        (has-seconds (IsListCell after_queue_closed) (IsSecondCell without_second) (IsSecondCell after_queue_closed) (IsStored d.bags d.world)
        after_queue_closed.world
        (has-ended (IsListCell without_second) (IsListCell after_queue_closed) (IsSecondCell without_second) (IsStored d.bags d.world) drained
        (λ u. named d u + contained without_second u) m.ledger (own-midway m) m.lists q.oldest its.begins its.single all-gone.list
        (was-first d s n q is.oldest) (kept-first d n q is.oldest))
        (λ c b y. inl (second-was d n c b y)))
        (spare-on (without_queue d n) move m.whole (named d) before tt m.spare (quiet-less move tt)) (
          s.home.owners,
          s.home.cells,
          s.home.collectors,
          at_home-spent d.world.home d.queues n s.home.queues,
          at_home-spent d.world.home d.newest n s.home.newest,
          s.home.stacks,
        )
