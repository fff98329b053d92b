-- What is always true of a state is true after each line on a stack
use Rattle.sdd_script_model.proofs.Words.{◌≡◌, ◌≢◌, ◌⊎◌, ◌+◌, ◌<◌, ◌≤◌, inl, inr, ℕ, List, [], ◌∷◌, ◌++◌, Option, Some, None, is_some, length, slice_index_or, slice_set, refl, sym, ap, ◌∙◌, subst, arith, if◌then◌else◌, zero, suc, cases_lt, IsEmptyAt, Standing, is_waiting, OwnerOrCell, Claim, owner_of, right_to, one, IsLedger, makes_cell, spends_cell, World, IsPlaceOf, standing_at, value_at, nulled, with_standing, IsWhole, Entry, emptied, IsStored, AreNumbers, IsNumber, ScriptState, IsDated, IsListCell, IsSecondCell, date_at, holding_at, in_world, shared_cell, with_owner, with_stack, IsSound, SlotsHaveNames, contained, named, IsStack, Takes, stack_closed, Val, body_of, holdings_of, link_of, ledger-laws, list-same, without_stack, Drains, common_steps}
use Rattle.sdd_core.specs.declared.tag.Tag.TheVariants.{None as no_tag}
use Rattle.sdd_script_model.proofs.Lemmas.{left-entry, AtHome, IsMidway, LeavesSound, at_home-given, at_home-spent, finishes, left-apart, list-apart-from, list-right, own-midway, leaves-with, same-line, shares-one, stacked-right, Frames, frames-on, quiet-less, tells, some-holding, stack-given, stack-spent, dated-same, at-other, at-pushed, null, same-once, same-list, has-begun, has-ended, spare-on, stays-on, starts, owner-given, inside as inside-list}
use Rattle.sdd_script_model.proofs.StackChains.{IsSingle, IsWith, between, empties, goes-on, in-front, removed-value, removes, trims}
use Rattle.sdd_participants.specs.declared.standing.Standing.TheVariants as standing
use Rattle.sdd_world_model.specs.OwnerOrCell as holding

-- ---- dates

-- of each slot whose item begins to wait this is the line; the others keep theirs: of the slots that there are
abbrev pub IsDatedWithin : ScriptState → ScriptState → Type 0
IsDatedWithin d new =
    ((s : ℕ) → s < length d.dates → date_at new s
    ≡ (if is_waiting (standing_at new.world s) then (if is_waiting (standing_at d.world s) then date_at d s else d.moment) else date_at d s))
    × (length new.dates ≡ length d.dates)

past-end : {X : Type 0} (xs : List X) (k : ℕ) (x : X) → length xs ≤ k → slice_index_or xs k x ≡ x
past-end [] k x past = refl
past-end (y ∷ ys) zero x past = absurd (omega (arith, past))
past-end (y ∷ ys) (suc k) x past = past-end ys k x (omega (arith, past))

-- past them nothing waits
pub dated-all : (d new : ScriptState) → SlotsHaveNames d → length new.world.standings ≡ length d.world.standings → IsDatedWithin d new → IsDated d new
dated-all d new stocked long dated = record {
  dated = λ s. elim (cases_lt s (length d.dates)) [
    | inl lt ↦ dated.0 s lt
    | inr past ↦
        (let nothing : standing_at new.world s ≡ None = past-end new.world.standings s None (omega (arith, past, long, stocked.dates)) in
        let was : date_at d s ≡ 0 = past-end d.dates s 0 past in
        let now : date_at new s ≡ 0 = past-end new.dates s 0 (omega (arith, past, dated.1)) in
        now ∙ sym was
        ∙ ap (λ (x : Option Standing). if is_waiting x then (if is_waiting (standing_at d.world s) then date_at d s else d.moment) else date_at d s)
        (sym nothing))
  ];
  long = dated.1;
}

-- ---- a name of a stack is spent

module _ (d : ScriptState) (s : IsSound d) (n c : ℕ) (named_so : shared_cell (holding_at d.stacks n) ≡ Some c) where
  pub one-less : (u : Claim) → contained d u ≡ contained (without_stack d n) u + one (right_to c) u
  one-less u =
      let h = some-holding shared_cell refl (holding_at d.stacks n) c named_so in omega (arith, stack-spent d.stacks n c h.0 h.1 h.2 u)

  -- no other name stands for its cell
  not-it : (b : ℕ) → IsListCell (without_stack d n) b → b ≢ c
  not-it b x same =
      let once = ((tells d s).alone c (omega (arith, one-less (right_to c), same-once c))).1 in
      let more : 1 ≤ contained (without_stack d n) (right_to c) =
      subst (λ (i : ℕ). 1 ≤ contained (without_stack d n) (right_to i)) same (list-right (without_stack d n) b x) in
      omega (arith, once, one-less (right_to c), same-once c, more)

  was-there : (b : ℕ) → IsListCell (without_stack d n) b → IsListCell d b
  was-there b (inl queue) = inl queue
  was-there b (inr (k, there)) =
      let h = some-holding shared_cell refl (holding_at (slice_set d.stacks n None) k) b there in
      inr (k, ap shared_cell (left-entry d.stacks n k h.0 h.1).1 ∙ h.2)

  pub was-other : (b : ℕ) → IsListCell (without_stack d n) b → IsListCell d b × (b ≢ c)
  was-other b x = (was-there b x, not-it b x)

  pub kept-other : (b : ℕ) → IsListCell d b → b ≢ c → IsListCell (without_stack d n) b
  kept-other b (inl queue) far = inl queue
  kept-other b (inr (k, there)) far = inr (
    k,
    ap shared_cell (at-other d.stacks n k None None (λ same. far
        (let both : Some b ≡ Some c = sym there ∙ ap (λ (i : ℕ). shared_cell (holding_at d.stacks i)) same ∙ named_so in cc))) ∙ there,
  )

  -- and none stands for a second cell of its list
  pub is-single : IsSingle d c
  is-single = record {
    begins = inr (n, named_so);
    single = λ b (k, oldest, newest).
        (let once = ((tells d s).alone c (omega (arith, one-less (right_to c), same-once c))).1 in
        omega (arith, once, stacked-right d.queues k c oldest, stacked-right d.stacks n c named_so));
  }

-- ---- a stack begins, or ends

module _ (d : ScriptState) (s : IsSound d) (whole : IsWhole d.world) (p c : ℕ) (live : IsPlaceOf d.world p) where
  abbrev its_cell : OwnerOrCell
  its_cell = holding.atomic_shared c d.world.home.cells

  abbrev pub after_begun : ScriptState
  after_begun = in_world (with_stack d c) (nulled d.world c)

  pub begun-or : (b : ℕ) → IsListCell after_begun b → IsListCell d b ⊎ (b ≡ c)
  begun-or b h = grind (arith, common_steps)

  pub begun-old : (b : ℕ) → IsListCell d b → IsListCell after_begun b
  begun-old b (inl queue) = inl queue
  begun-old b (inr (n, is)) =
      let h = some-holding shared_cell refl (holding_at d.stacks n) b is in
      let lt : n < length d.stacks = inside-list d.stacks n (ap is_some h.1) in
      inr (n, ap shared_cell (at-pushed d.stacks (Some its_cell) None n (λ same. omega (arith, same, lt))) ∙ is)

  pub begun-leaves : IsEmptyAt d.world.cells c → LeavesSound d after_begun
  begun-leaves free =
      let m = goes-on (between (starts d s whole)) (makes_cell d.world c null free) tt tt (named d) (λ u. omega arith) in
      leaves-with d after_begun s (same-line d) (dated-same d after_begun refl refl) p live m.frames (refl, refl, refl) m.bags
      (λ u. omega (arith, m.ledger u, stack-given d.stacks its_cell c refl u))
      (has-begun (IsListCell d) (IsListCell after_begun) (IsSecondCell d) (IsStored d.bags d.world) d.world s.lists c free begun-or begun-old) m.spare
      (s.home.owners, s.home.cells, s.home.collectors, s.home.queues, s.home.newest, at_home-given d.world.home d.stacks its_cell refl s.home.stacks)

  -- ---- the stack of this name has these entries
  module _ (n : ℕ) (es : List (Entry Val)) (is : IsStack d n c es) where
    its : IsSingle d c
    its = is-single d s n c is.named

    pub numbers : AreNumbers es
    numbers =
        let first = s.lists.lists c its.begins in
        subst (λ (fs : List (Entry Val)). AreNumbers fs) (same-list d.world c first.0 es first.1 is.list) first.2

    begins-so : IsWith d (named d) p c its live d.world es
    begins-so = record { midway = starts d s whole; list = is.list; numbers = numbers }

    homes : AtHome d.world.home d.owners × AtHome d.world.home d.cells × AtHome d.world.home d.collectors
    homes = (s.home.owners, s.home.cells, s.home.collectors)

    -- ---- it is closed
    module _ (dates : List ℕ) where
      abbrev pub after_stack_closed : ScriptState
      after_stack_closed = record (in_world (without_stack d n) (stack_closed d.world p c es)) { dates = dates }

      abbrev drained : World Val
      drained = emptied link_of d.world p c no_tag es

      all-gone : IsWith d (named d) p c its live drained []
      all-gone = empties d (named d) p c its live d.world es begins-so

      pub stack_closed-frames : Frames d.world after_stack_closed.world
      stack_closed-frames =
          frames-on all-gone.midway.frames all-gone.midway.whole (spends_cell drained c (record { held = None; tag = no_tag }) all-gone.list.begins) tt

      pub stack_closed-leaves : IsDatedWithin d after_stack_closed → LeavesSound d after_stack_closed
      stack_closed-leaves within =
          let m = all-gone.midway in
          let move = spends_cell drained c (record { held = None; tag = no_tag }) all-gone.list.begins in
          let kept = (ledger-laws holdings_of drained).kept m.whole _ _ after_stack_closed.world move in
          let frames = stack_closed-frames in
          let before : IsLedger holdings_of (λ u. named d u + contained (without_stack d n) u + one (right_to c) u) drained =
          λ u. omega (arith, m.ledger u, one-less d s n c is.named u) in
          leaves-with d after_stack_closed s (same-line d) (dated-all d after_stack_closed s.stocked frames.slots.slots within) p live frames
          (refl, refl, refl) (stays-on (without_stack d n) move m.whole (named d) before tt m.bags)
          (λ u. omega (
            arith,
            kept.ledger (λ x. named d x + contained after_stack_closed x) (λ x. omega (arith, m.ledger x, one-less d s n c is.named x)) u,
          ))
          (has-ended (IsListCell d) (IsListCell after_stack_closed) (IsSecondCell d) (IsStored d.bags d.world) drained (λ u. named d u + contained d u)
          m.ledger (own-midway m) m.lists c its.begins its.single all-gone.list (was-other d s n c is.named) (kept-other d s n c is.named))
          (spare-on (without_stack d n) move m.whole (named d) before tt m.spare (quiet-less move tt))
          (s.home.owners, s.home.cells, s.home.collectors, s.home.queues, s.home.newest, at_home-spent d.world.home d.stacks n s.home.stacks)

    -- ---- the deleted entries in front are let go of, which are all
    module _ (w : World Val) (drains : Drains d.world p c es w) (dates : List ℕ) where
      abbrev pub after_drained : ScriptState
      after_drained = record (in_world d w) { dates = dates }

      pub drained-leaves : IsDatedWithin d after_drained → LeavesSound d after_drained
      drained-leaves within =
          let m : IsMidway d w (named d) =
          subst (λ (u : World Val). IsMidway d u (named d)) (sym drains.world) (trims d (named d) p c its live d.world es begins-so).midway in
          finishes d w d.owners d.cells d.collectors dates s m
          (λ u. refl) homes (dated-all d after_drained s.stocked m.frames.slots.slots within) p live

    -- ---- the first entry is taken out
    module _ (e : Entry Val) (w : World Val) (takes : Takes d.world p c es e w) where
      abbrev pub after_popped : List ℕ → ScriptState
      after_popped dates = record (with_owner (in_world d w) (holding.shared e.slot d.world.home.slots)) { dates = dates }

      abbrev owned_more : World Val
      owned_more = with_standing d.world e.slot (standing.Shared (takes.owners + 1))

      abbrev outside : Claim → ℕ
      outside u = named d u + one (owner_of e.slot) u

      one-more : IsWith d outside p c its live owned_more es
      one-more = record {
        midway = shares-one (starts d s whole) e.slot takes.owners takes.shared
            (left-apart (starts d s whole) c e.slot no_tag es (list-apart-from (starts d s whole) c its.begins) is.list e takes.rest takes.first refl);
        list = list-same link_of d.world owned_more c no_tag es refl refl is.list;
        numbers = numbers;
      }

      out : IsMidway d w outside
      out =
          subst (λ (u : World Val). IsMidway d u outside) (sym takes.world)
          (removes d outside p c its live owned_more es e takes.rest takes.first one-more)

      pub popped-home : w.home ≡ d.world.home
      popped-home = out.frames.slots.home

      -- it has a number, and its value still
      pub popped-number : IsNumber (body_of e.value)
      popped-number = (in-front d outside p c its live owned_more es e takes.rest takes.first one-more).numbers.0

      pub popped-value : value_at w e.slot ≡ Some e.value
      popped-value =
          ap (λ (u : World Val). value_at u e.slot) takes.world
          ∙ removed-value d outside p c its live owned_more es e takes.rest takes.first one-more

      pub popped-leaves : (dates : List ℕ) → IsDatedWithin d (after_popped dates) → LeavesSound d (after_popped dates)
      popped-leaves dates within =
          let h = holding.shared e.slot d.world.home.slots in
          finishes d w (d.owners ++ Some h ∷ []) d.cells d.collectors dates s out
          (owner-given d.owners d.cells d.collectors h e.slot refl)
          (at_home-given d.world.home d.owners h refl s.home.owners, s.home.cells, s.home.collectors)
          (dated-all d (after_popped dates) s.stocked out.frames.slots.slots within) p live
