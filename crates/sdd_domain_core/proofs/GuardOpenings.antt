-- What the opening of a guard is for a participant's world, one beside others and the outermost one
use Rattle.std.proofs.Common.{◌≡◌, ◌≢◌, ℕ, ◌<◌, ◌≤◌, ◌⊎◌, Bool, true, false, IsTrue, List, [], ◌∷◌, sym, refl, ap, ◌∙◌, subst, inl, inr, ⊎_elim, arith}
use Rattle.std.specs.Prelude.{Result, Ok, Err, MatchResult}
use mathlib.Core.Logic.{dite}
use native.Mathlib.Decide.{ℕ_discrete}
use base.Stored.{Gv}
use Rattle.sdd_core.specs.declared.refused.Refused.{Refused}
use Rattle.sdd_participants.specs.declared.participant.Participant.{Participant}
use Rattle.sdd_participants.specs.EpochState.{settled}
use Rattle.sdd_participants.specs.EpochState as time
use Rattle.sdd_world_model.specs.OwnerOrCell.{OwnerOrCell}
use Rattle.sdd_world_model.specs.ParticipantChanges.{all_awaiting}
use Rattle.sdd_space.specs.Ptr.{KeepsShown}
use Rattle.sdd_world_model.specs.WorldChanges.{opened, nested}
use Rattle.sdd_world_model.specs.World.{World, place_at}
use Rattle.sdd_world_model.proofs.ParticipantChanges.{all_awaiting-found, opens}
use Rattle.sdd_domain_steps.specs.SpaceIds.{home_in}
use Rattle.sdd_domain_steps.specs.LocalState.{LocalState, IsLone, HasOpenGuard, CanNest, IsEntered, GoesOn}
use Rattle.sdd_domain_steps.specs.WordsAndValues.{AreTied, WordsMatchValues}
use Rattle.sdd_domain_steps.specs.Local.{LocalModel, world_of}
use Rattle.sdd_domain_core.specs.Space.{Shows, is_lone}
use Rattle.sdd_domain_core.specs.Sound.{IsSound}
use Rattle.sdd_domain_steps.specs.WaitingItems.{arrived_at}
use Rattle.sdd_domain_core.specs.Laws.{own_is_place}
use Rattle.sdd_domain_core.proofs.LoneCalls.{steps_alone}
use Rattle.sdd_domain_steps.proofs.Arrivals.{stayed, moved, as_open}
use Rattle.sdd_domain_core.proofs.GuardCalls.{lone_is, nests, tied_settled}
use Rattle.sdd_domain_core.proofs.ShownKept.{keeps_own}
use Rattle.sdd_domain_core.proofs.Openings.{tied_enters}
use Rattle.sdd_domain_steps.proofs.Reclaims.{either_way}
use Rattle.sdd_domain_core.proofs.Sound.{lives, sound_opened}

-- an opening that goes on has entered, and one that is over, unless nothing waited
module _ {J : Type 0} (count : ℕ) (b : Bool) (old m new : LocalState J) (is : IsEntered count old m) (goes : GoesOn count b old m new) where
  pub goes_on : b ≡ true → (old.own.found ≢ count) × IsEntered count old new
  goes_on told = let g = goes.change told in (g.0, subst (IsEntered count old) (sym g.1) is)

  abbrev pub WasIdle : Type 0
  WasIdle = (old.own.found ≢ count) × (m.due ≡ []) × (new ≡ record m { own = settled m.own })

  pub is_over : b ≡ false → ((old.own.found ≡ count) × IsEntered count old new) ⊎ WasIdle
  is_over told = ⊎_elim (λ (g : (old.own.found ≡ count) × (new ≡ m)). inl (g.0, subst (IsEntered count old) (sym g.1) is)) (λ (g : WasIdle). inr g)
      (goes.over told)

-- the count that is found last after an opening, and how many guards are open
pub found_there : (count : ℕ) (own : Participant) → (arrived_at count own).found ≡ count
found_there count own = dite (ℕ_discrete own.found count) (λ e. ap (λ (p : Participant). p.found) (stayed count own e) ∙ e)
    (λ ne. ap (λ (p : Participant). p.found) (moved count own ne))

pub all_guards : (ks : List ℕ) (p : Participant) → (all_awaiting ks p).guards ≡ p.guards
all_guards [] p = refl
all_guards (k ∷ ks) p = all_guards ks (time.awaiting (Rattle.sdd_participants.specs.declared.waiting.LimboEntry.TheVariants.Item k) p)

pub found_after : (given : List ℕ) (count : ℕ) (own : Participant) → (settled (all_awaiting given (time.nested (arrived_at count own)))).found ≡ count
found_after given count own = all_awaiting-found given (time.nested (arrived_at count own)) ∙ found_there count own

pub open_after : (given : List ℕ) (count : ℕ) (own : Participant) → 0 < (settled (all_awaiting given (time.nested (arrived_at count own)))).guards
open_after given count own = let g = all_guards given (time.nested (arrived_at count own)) in omega arith

-- one guard is open then
one_before : (count : ℕ) (own : Participant) → own.guards ≡ 0 → (time.nested (arrived_at count own)).guards ≡ 1
one_before count own shut = let o = as_open count own in omega arith

-- what is known after an opening
pub record Stands {J : Type 0} (count : ℕ) (old new : LocalState J) : Type 0 where
  pub limits : new.limits ≡ old.limits
  pub found : new.own.found ≡ count
  pub known : new.known ≡ new.since
  pub still : IsLone old → (count ≡ old.known) × (new.known ≡ old.known)
  pub knows : count ≤ new.since
  pub one : old.own.guards ≡ 0 → new.own.guards ≡ 1
  pub tally : new.tally ≡ old.tally

pub stands : {J : Type 0} (count : ℕ) (b : Bool) (old m new : LocalState J) → IsEntered count old m → GoesOn count b old m new → Stands count old new
stands count b old m new is goes = let there : Stands count old m = record {
  limits = ap (λ (y : LocalState _). y.limits) is.member;
  found = ap (λ (y : LocalState _). y.own.found) is.member ∙ found_there count old.own;
  known = ap (λ (y : LocalState _). y.known) is.member;
  still = λ one. ((is.lone one).0, ap (λ (y : LocalState _). y.known) is.member ∙ (is.lone one).1);
  knows = is.knows;
  one = λ shut. ap (λ (y : LocalState _). y.own.guards) is.member ∙ one_before count old.own shut;
  tally = ap (λ (y : LocalState _). y.tally) is.member;
} in
    let idle : Stands count old (record m { own = settled m.own }) =
    record { limits = there.limits; found = there.found; known = there.known; still = there.still; knows = there.knows; one = there.one; tally = there.tally } in
    ⊎_elim (λ (t : b ≡ true). subst (Stands count old) (sym (goes.change t).1) there)
    (λ (f : b ≡ false). ⊎_elim (λ (g : (old.own.found ≡ count) × (new ≡ m)). subst (Stands count old) (sym g.1) there)
    (λ (g : (old.own.found ≢ count) × (m.due ≡ []) × (new ≡ record m { own = settled m.own })). subst (Stands count old) (sym g.2) idle) (goes.over f))
    (either_way b)

-- a lone participant's words, bags and ghost values have the same after it
pub tied_stands : {T J : Type 0} (v : LocalModel T J) → AreTied v.member v.entries → v.member.due ≡ [] → (count : ℕ) (b : Bool) (m new : LocalState J) → IsLone
    v.member
    → IsEntered count v.member m → GoesOn count b v.member m new → AreTied new v.entries
tied_stands v t none count b m new one is goes = let there : AreTied m v.entries = tied_enters v t none count m one is in
    let Tied = λ (y : LocalState _). AreTied y v.entries in
    ⊎_elim (λ (told : b ≡ true). subst Tied (sym (goes.change told).1) there)
    (λ (told : b ≡ false). ⊎_elim (λ (g : (v.member.own.found ≡ count) × (new ≡ m)). subst Tied (sym g.1) there)
    (λ (g : (v.member.own.found ≢ count) × (m.due ≡ []) × (new ≡ record m { own = settled m.own })). subst Tied (sym g.2) (tied_settled v m there))
    (goes.over told))
    (either_way b)

-- an opening doesn't raise the count
pub same_count : {T J : Type 0} (holds : T → List OwnerOrCell) (p q : LocalModel T J) → world_of q ≡ opened holds (world_of p) p.member.place → q.member.known ≡
    p.member.known
same_count holds p q same = ap (λ (w : World _). w.time.count) same
    ∙ (opens holds (world_of p) p.member.place (lives p).0 (time.is_open (place_at (world_of p) p.member.place)) refl).count

-- one guard more is within the limit
pub can_nest : {T J : Type 0} (v : LocalModel T J) → CanNest v.member → time.CanNest (world_of v).time v.member.place
can_nest v may = subst (λ (x : Participant). x.guards < v.member.limits.nesting) (own_is_place v) may

-- one guard more beside others
module _ {T J : Type 0} (v : LocalModel T J) (m : LocalState J) {A : Type 0} (IsReader : A → Type 0) (holds : T → List OwnerOrCell) where
  abbrev pub Did : Result A Refused → Type 0
  Did r = MatchResult r (λ a. IsReader a × CanNest v.member × (m ≡ record v.member { own = time.nested v.member.own }))
      (λ e. (e ≡ Refused.TooManyGuards) × ¬ (CanNest v.member) × (m ≡ v.member))

  world_nested : m ≡ record v.member { own = time.nested v.member.own } → HasOpenGuard v.member → WordsMatchValues v.member v.entries → IsLone v.member
      → world_of (record v { member = m }) ≡ opened holds (world_of v) v.member.place
  world_nested did some_open tied one = let first = (tied one).place in ap (λ (y : LocalState J). world_of (record v { member = y })) did
      ∙ nests v holds some_open (steps_alone nested v (record v { member = record v.member { own = time.nested v.member.own } }) first first refl)

  pub nested_sound : (r : Result A Refused) → Did r → HasOpenGuard v.member → WordsMatchValues v.member v.entries → IsSound holds v → IsSound holds
      (record v { member = m })
  nested_sound (Ok a) did some_open tied sound = sound_opened holds v m sound (ap (λ (y : LocalState J). y.due) did.2 ∙ sound.settled)
      (ap (λ (y : LocalState J). y.slots.closes) did.2 ∙ sound.closes) (ap home_in did.2)
      (world_nested did.2 some_open tied)
  nested_sound (Err e) did some_open tied sound = subst (λ (y : LocalState J). IsSound holds (record v { member = y })) (sym did.2) sound

  answered : (r : Result A Refused) → Did r → HasOpenGuard v.member → WordsMatchValues v.member v.entries → IsLone v.member
      → MatchResult r (λ _. time.CanNest (world_of v).time v.member.place × (world_of (record v { member = m }) ≡ opened holds (world_of v) v.member.place))
      (λ e. (e ≡ Refused.TooManyGuards) × ¬ (time.CanNest (world_of v).time v.member.place) × (world_of (record v { member = m }) ≡ world_of v))
  answered (Ok a) did some_open tied one = (can_nest v did.1, world_nested did.2 some_open tied one)
  answered (Err e) did some_open tied one = (
    did.0,
    (λ may. did.1 (subst (λ (x : Participant). x.guards < v.member.limits.nesting) (sym (own_is_place v)) may)),
    ap (λ (x : LocalState J). world_of (record v { member = x })) did.2,
  )

  pub nested_exact : (r : Result A Refused) (p : LocalModel T J) → v ≡ p → Did r → HasOpenGuard v.member → WordsMatchValues v.member v.entries → IsTrue
      (is_lone p.member)
      → MatchResult r (λ _. time.CanNest (world_of p).time p.member.place × (world_of (record v { member = m }) ≡ opened holds (world_of p) p.member.place))
      (λ e. (e ≡ Refused.TooManyGuards) × ¬ (time.CanNest (world_of p).time p.member.place) × (world_of (record v { member = m }) ≡ world_of p))
  nested_exact r p is did some_open tied exact = subst (λ (q : LocalModel T J).
      MatchResult r (λ _. time.CanNest (world_of q).time q.member.place × (world_of (record v { member = m }) ≡ opened holds (world_of q) q.member.place))
      (λ e. (e ≡ Refused.TooManyGuards) × ¬ (time.CanNest (world_of q).time q.member.place) × (world_of (record v { member = m }) ≡ world_of q))) is
      (answered r did some_open tied (lone_is v.member (subst (λ (q : LocalModel T J). IsTrue (is_lone q.member)) (sym is) exact)))

  pub nested_keeps : (shown : T → Gv) (r : Result A Refused) (p : LocalModel T J) → v ≡ p → Did r
      → KeepsShown (Shows shown holds p) (Shows shown holds (record v { member = m }))
  nested_keeps shown (Ok a) p is did = keeps_own shown holds v p is m (time.nested v.member.own) v.member.known v.member.since did.2
  nested_keeps shown (Err e) p is did = keeps_own shown holds v p is m v.member.own v.member.known v.member.since did.2
