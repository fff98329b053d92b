-- What the calls of a lone participant on guards are for its world
use Rattle.std.proofs.Common.{◌≡◌, ◌≢◌, ℕ, ◌-◌, ◌<◌, not, Bool, true, false, IsTrue, List, [], refl, sym, ap, ◌∙◌, subst, eq-eqb, ne_eqb, arith}
use Rattle.std.specs.Prelude.{if◌then◌else◌, nat_lt}
use base.Stored.{Gv}
use Rattle.sdd_participants.specs.declared.participant.Participant.{Participant}
use Rattle.sdd_participants.specs.EpochState.{is_open, counted_down}
use Rattle.sdd_world_model.specs.ParticipantChanges.{closed_with}
use Rattle.std.proofs.lemmas.Bool.{true≢false}
use Rattle.sdd_participants.specs.EpochState as time
use Rattle.sdd_world_model.specs.OwnerOrCell.{OwnerOrCell}
use Rattle.sdd_space.specs.Ptr.{KeepsShown}
use Rattle.sdd_world_model.specs.World.{World}
use Rattle.sdd_world_model.specs.WorldChanges.{opened, nested, caught_up, changed, all_reclaimed}
use Rattle.sdd_world_model.specs.WorldChanges as steps
use Rattle.sdd_domain_steps.specs.LocalState.{LocalState, IsLone, HasOpenGuard, IsEntered, GuardCloses}
use Rattle.sdd_domain_steps.specs.WordsAndValues.{AreTied}
use Rattle.sdd_domain_steps.specs.Local.{LocalModel, world_of}
use Rattle.sdd_domain_core.specs.Space.{Shows, is_lone}
use Rattle.sdd_domain_core.specs.Laws.{own_is_place}
use Rattle.sdd_domain_core.proofs.ShownKept.{keeps_own}
use Rattle.sdd_domain_core.proofs.LoneCalls.{alone, alone_is, steps_alone}
use Rattle.sdd_domain_core.proofs.Openings.{enters_same, enters_changed, is_changed_member}

open_guards : (own : Participant) → 0 < own.guards → is_open own ≡ true
open_guards own some_open = grind arith

closed_guards : (own : Participant) → own.guards ≡ 0 → is_open own ≡ false
closed_guards own shut = ap (nat_lt 0) shut

closed_last : (own : Participant) → own.guards ≡ 1 → is_open (closed_with false own) ≡ false
closed_last own last = let a : nat_lt 1 own.guards ≡ false = ap (nat_lt 1) last in let b : is_open own ≡ true = ap (nat_lt 0) last in
    ap (λ (c : Bool). is_open (if c then record own { guards = own.guards - 1 } else
    (if is_open own then record own { guards = 0; countdown = counted_down false own.countdown } else own))) a
    ∙ ap (λ (c : Bool). is_open (if c then record own { guards = 0; countdown = counted_down false own.countdown } else own)) b

pub lone_is : {J : Type 0} (m : LocalState J) → IsTrue (is_lone m) → IsLone m
lone_is m exact = grind arith

-- where a guard is open after a close, it wasn't the last
pub still_guarded : {J : Type 0} (old new : LocalState J) → GuardCloses old new → IsTrue (is_open new.own) → old.own.guards ≢ 1
still_guarded old new is opens last = let own = ap (λ (m : LocalState _). m.own) is.member in
    let none : is_open (closed_with false old.own) ≡ false = closed_last old.own last in
    absurd (true≢false (sym opens ∙ (ap is_open own ∙ none)))

-- the close of the only guard leaves none
pub closed_none : {J : Type 0} (old new : LocalState J) → GuardCloses old new → old.own.guards ≡ 1 → ¬ (HasOpenGuard new)
closed_none old new is last some_open = absurd (still_guarded old new is (open_guards new.own some_open) last)

pub guarded_is : {T J : Type 0} (v p : LocalModel T J) → v ≡ p → IsTrue (is_open p.member.own) → HasOpenGuard v.member
guarded_is v p is opens = subst (λ (q : LocalModel _ _). HasOpenGuard q.member) (sym is) (grind arith)

-- ---- an opening
module _ {T J : Type 0} (v : LocalModel T J) where
  pub tied_settled : (m : LocalState J) → AreTied m v.entries → AreTied (record m { own = time.settled m.own }) v.entries
  tied_settled m t = record {
    place = t.place;
    slots = t.slots;
    long = t.long;
    places = t.places;
    all_cells = t.all_cells;
    wide = t.wide;
    table = t.table;
    jobs = t.jobs;
    plain = t.plain;
    waits = t.waits;
    privates = t.privates;
    kept = t.kept;
    bags = t.bags;
    now = t.now;
  }

  module _ (holds : T → List OwnerOrCell) where
    -- one guard more beside others
    pub nests : HasOpenGuard v.member → world_of (record v { member = record v.member { own = time.nested v.member.own } }) ≡ nested (world_of v) v.member.place
        → world_of (record v { member = record v.member { own = time.nested v.member.own } }) ≡ opened holds (world_of v) v.member.place
    nests some_open is = is ∙ sym (ap (λ (b : Bool). if b then nested (world_of v) v.member.place else caught_up holds (nested (world_of v) v.member.place)
        v.member.place)
        (ap time.is_open (sym (own_is_place v)) ∙ open_guards v.member.own some_open))

    module _ (t : AreTied v.member v.entries) (settled : v.member.due ≡ []) (count : ℕ) (m : LocalState J) (one : IsLone v.member)
        (shut : v.member.own.guards ≡ 0) (is : IsEntered count v.member m) where
      -- the outermost one finds the count that it found before
      pub opens_same : v.member.own.found ≡ v.member.known → alone (record { member = m; entries = v.entries }) ≡ opened holds (alone v) 0
      opens_same e = enters_same v t settled count m one is e
          ∙ sym (ap (λ (b : Bool). if b then nested (alone v) 0 else caught_up holds (nested (alone v) 0) 0) (closed_guards v.member.own shut)
          ∙ ap (λ (b : Bool). if not b then changed holds (nested (alone v) 0) 0 else nested (alone v) 0) (eq-eqb v.member.own.found v.member.known e))

      -- or another one: then all that is due is reclaimed
      pub opens_changed : v.member.own.found ≢ v.member.known
          → steps.settled (all_reclaimed holds (alone (record { member = m; entries = v.entries })) 0 m.due) 0 ≡ opened holds (alone v) 0
      opens_changed ne = let due : m.due ≡ time.due_next v.member.own = ap (λ (x : LocalState J). x.due) (is_changed_member v t settled count m one is ne) in
          (λ d. steps.settled (all_reclaimed holds (enters_changed v t settled count m one is ne d) 0 (due d)) 0)
          ∙ sym (ap (λ (b : Bool). if b then nested (alone v) 0 else caught_up holds (nested (alone v) 0) 0) (closed_guards v.member.own shut)
          ∙ ap (λ (b : Bool). if not b then changed holds (nested (alone v) 0) 0 else nested (alone v) 0) (ne_eqb v.member.own.found v.member.known ne))

      place_first : m.place ≡ 0
      place_first = ap (λ (x : LocalState J). x.place) is.member ∙ t.place

      -- the same of its world, wherever it sits
      pub opened_same : v.member.own.found ≡ v.member.known → world_of (record { member = m; entries = v.entries }) ≡ opened holds (world_of v) v.member.place
      opened_same e = steps_alone (opened holds) v (record { member = m; entries = v.entries }) t.place place_first (opens_same e)

      pub opened_changed : v.member.own.found ≢ v.member.known → (after : World T)
          → after ≡ steps.settled (all_reclaimed holds (world_of (record { member = m; entries = v.entries })) m.place m.due) m.place
          → after ≡ opened holds (world_of v) v.member.place
      opened_changed ne after e = e
          ∙ ((λ d. steps.settled (all_reclaimed holds (alone_is (record { member = m; entries = v.entries }) place_first d) (place_first d) m.due)
          (place_first d))
          ∙ (opens_changed ne ∙ (λ d. opened holds (sym (alone_is v t.place) d) (sym t.place d))))

      -- or nothing waited: then it is decided at once
      pub opened_idle : v.member.own.found ≢ v.member.known → m.due ≡ [] → (n : LocalState J) → n ≡ record m { own = time.settled m.own }
          → world_of (record { member = n; entries = v.entries }) ≡ opened holds (world_of v) v.member.place
      opened_idle ne none n is_settled = let p : LocalModel T J = record { member = m; entries = v.entries } in
          opened_changed ne (world_of (record { member = n; entries = v.entries }))
          (ap (λ (y : LocalState J). world_of (record { member = y; entries = v.entries })) is_settled
          ∙ (steps_alone (λ (w : World T) (k : ℕ). steps.settled w k) p (record p { member = record m { own = time.settled m.own } }) place_first place_first
          refl
          ∙ (λ d. steps.settled (all_reclaimed holds (world_of p) m.place (sym none d)) m.place)))

module _ {T J : Type 0} (v : LocalModel T J) (m : LocalState J) where
  module _ (shown : T → Gv) (holds : T → List OwnerOrCell) where
    -- a close under which a guard stays open
    pub keeps_closed : (p : LocalModel T J) → v ≡ p → (own : Participant) (known : ℕ)
        → m ≡ record v.member { own = own; known = known; slots = m.slots; shown = m.shown } → m.slots ≡ v.member.slots → m.shown ≡ v.member.shown
        → KeepsShown (Shows shown holds p) (Shows shown holds (record v { member = m }))
    keeps_closed p is own known changed slots seen = keeps_own shown holds v p is m own known v.member.since
        (changed ∙ (λ d. record v.member { own = own; known = known; slots = slots d; shown = seen d }))
