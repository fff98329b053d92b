-- What the acts of a script share: what is left in hand is sound, and is what a call means
use Rattle.sdd_interpreter.proofs.Words.{◌≡◌, ℕ, [], Option, Some, None, IsSome, map, length, slice_index_or, slice_set, refl, sym, ap, ◌∙◌, subst, arith, IsTrue, option_map, get_or-map, map-set, index_of, NamedParticipant, NamedGuard, Environment, List, length-map, ScriptState, OpenSince, opening_at, place_in, since_in, since_of, Acts, IsParticipant, CanPointTo, open_since, guarding, owner_holding, cell_holding, collector_holding, newest_holding, oldest_holding, stack_holding, state_of, IsTied, Answers, AreInRange, Call, CannotGo, GuardsIn, HasOpen, IsNew, IsPlaceOf, IsReclaimed, IsRunBy, IsSound, IsWhole, Limits, Meets, Reply, deferred, is_open, lt-ltb, none as no_call, place_of, replicate, set-get_or, set-set, slot_at, Vec}
use Rattle.sdd_participants.specs.EpochState as time
use Rattle.sdd_interpreter.specs.declared.name_table.NameTable.{NameTable}
use Rattle.sdd_script_model.specs.Script as script
use Rattle.sdd_script_model.proofs.Dates.{dated-same}
use Rattle.sdd_script_model.proofs.CallChains.{LeavesSound}
use Rattle.sdd_script_model.proofs.CallSound.{open-guard, can-point, sound-start}

-- what is left in hand is sound, and is this state
pub record Goes (new : Environment) (e : ScriptState) : Type 0 where
  pub tied : IsTied new
  pub state : state_of new ≡ e

-- what is left in hand is sound, and is what the call means
abbrev pub Does : ScriptState → Call → Reply → Environment → Type 0
Does old call given new = IsTied new × Acts old call given (state_of new)

pub does : {new : Environment} {e : ScriptState} (old : ScriptState) (call : Call) (given : Reply) → Goes new e → Acts old call given e
    → Does old call given new
does old call given goes acts = (goes.tied, subst (Acts old call given) (sym goes.state) acts)

pub goes : {new : Environment} {e : ScriptState} → state_of new ≡ e → IsSound e →
    ((g : ℕ) → GuardsIn e.world.home.readers e.places (slice_index_or new.guards.entries.items g None)) → Goes new e
goes {new} same sound guards = record {
  tied = record {
    sound = subst IsSound (sym same) sound;
    guards = λ g. subst (λ (d : ScriptState). GuardsIn d.world.home.readers d.places (slice_index_or new.guards.entries.items g None)) (sym same) (guards g);
  };
  state = same;
}

-- with the lines in which items began to wait
abbrev pub with_dates : Environment → Vec ℕ → Environment
with_dates h dates = record h { log = record h.log { dates = dates } }

-- what a name of a table stands for, as the state has it
pub named : {X Y : Type 0} (f : X → Y) (xs : List (Option X)) (n : ℕ) {x : X} → slice_index_or xs n None ≡ Some x →
    slice_index_or (map (option_map f) xs) n None ≡ Some (f x)
named f xs n e = get_or-map (option_map f) xs n None ∙ ap (option_map f) e

-- and the name that a table gives next
pub next : {X Y : Type 0} (f : X → Y) {xs ys : List (Option X)} {r : ℕ} → r ≡ length ys → ys ≡ xs → r ≡ length (map (option_map f) xs)
next f {xs} is same = is ∙ ap length same ∙ sym (length-map xs (option_map f))

-- what was taken stands under its name again, as what it was
pub restored : {X Y : Type 0} (f : X → Y) (xs : List (Option X)) (n : ℕ) {ys zs : List (Option X)} {x y : X} →
    slice_index_or xs n None ≡ Some x → ys ≡ slice_set xs n None →
    zs ≡ slice_set ys n (Some y) → f y ≡ f x → map (option_map f) zs ≡ map (option_map f) xs
restored f xs n {y = y} mine taken back same =
    ap (map (option_map f)) (back ∙ ap (λ ws. slice_set ws n (Some y)) taken ∙ set-set xs n None (Some y)) ∙ map-set (option_map f) xs n (Some y)
    ∙ ap (slice_set (map (option_map f) xs) n) (ap Some same ∙ sym (named f xs n mine)) ∙ set-get_or (map (option_map f) xs) n None

-- a call that changes nothing
pub still : (d : ScriptState) (call : Call) (given : Reply) → Meets d call given d → Acts d call given d
still d call given meets = record { meets = meets; dated = dated-same d d refl refl; line = refl; calls = no_call d.world }

-- a call that changes nothing in hand
pub still-as : (h new : Environment) (call : Call) (given : Reply) → state_of new ≡ state_of h → Meets (state_of h) call given (state_of h) →
    Acts (state_of h) call given (state_of new)
still-as h new call given same meets = subst (Acts (state_of h) call given) (sym same) (still (state_of h) call given meets)

abbrev pub place : OpenSince → ℕ
place x = x.place

-- of a hand that is sound, on a whole world, participant n is there
pub record Here (h : Environment) (n : ℕ) (a : NamedParticipant) : Type 0 where
  pub tied : IsTied h
  pub whole : IsWhole h.world
  pub there : open_since (Some a) ≡ opening_at (state_of h).places n

pub under : {h : Environment} {a : NamedParticipant} (n : ℕ) → IsTied h → IsWhole h.world → open_since (Some a) ≡ opening_at (state_of h).places n → Here h n a
under n t whole e = record { tied = t; whole = whole; there = e }

-- what a name stands for, as the state has it
pub got : (places : NameTable NamedParticipant) (n : ℕ) (a : NamedParticipant) → Some a ≡ slice_index_or places.entries.items n None →
    open_since (Some a) ≡ slice_index_or (map open_since places.entries.items) n None
got places n a e = ap open_since e ∙ sym (get_or-map open_since places.entries.items n None)

pub here : {h : Environment} {a : NamedParticipant} (n : ℕ) → IsTied h → IsWhole h.world → Some a ≡ slice_index_or h.places.entries.items n None → Here h n a
here {h} {a} n t whole e = under n t whole (got h.places n a e)

module _ {h : Environment} {n : ℕ} {a : NamedParticipant} (at : Here h n a) where
  abbrev d : ScriptState
  d = state_of h

  abbrev p : ℕ
  p = index_of a.place

  pub place-is : place_of d n ≡ p
  place-is = ap place_in (sym at.there)

  pub attends : IsParticipant d n
  attends = subst (λ x. IsSome x) at.there refl

  pub sits : IsPlaceOf h.world p
  sits = at.tied.sound.attended.inside n (record { place = p; since = a.since }) (sym at.there)

  -- a call of the participant that leaves this, with the same guards in hand
  pub leaves : {new : Environment} {call : Call} {given : Reply} {e : ScriptState} → new.guards.entries.items ≡ h.guards.entries.items →
      state_of new ≡ e → LeavesSound d e → Meets d call given e → Does d call given new
  leaves {call = call} {given = given} same state left meets =
      does d call given (goes state left.sound (λ g. rw (left.home, left.places, same) (at.tied.guards g)))
      (record { meets = meets; dated = left.dated; line = left.line; calls = left.calls })

  -- a guard of that name that is the participant's, and one of its place, which is open
  pub guard-is : (g : ℕ) (held : NamedGuard) → HasOpen d n g → slice_index_or h.guards.entries.items g None ≡ Some held → held.place ≡ p
  guard-is g held valid here =
      subst (script.IsOf (place_of d n)) (get_or-map guarding h.guards.entries.items g None ∙ ap guarding here) valid.1 ∙ place-is

  pub open-here : (g : ℕ) (held : NamedGuard) → slice_index_or h.guards.entries.items g None ≡ Some held → held.place ≡ p →
      IsTrue (is_open (time.place_at h.world.time p))
  open-here g held here own =
      lt-ltb 0 (time.place_at h.world.time p).guards (rw (sym own) (open-guard d at.tied.sound g
      (record { place = held.place; since = held.since }) (get_or-map guarding h.guards.entries.items g None ∙ ap guarding here)))

  -- an item that this participant can point to can't go while its guard is open
  pub stays-here : (g i : ℕ) (held : NamedGuard) → slice_index_or h.guards.entries.items g None ≡ Some held → held.place ≡ p →
      CanPointTo d n i → CannotGo h.world p (slot_at d i)
  stays-here g i held mine own can =
      let since : since_of d n ≡ a.since = ap since_in (sym at.there) in
      can-point d at.tied.sound n (slot_at d i) (record { place = p; since = a.since }) (sym at.there) (open-here g held mine own) can.0.taken
      (λ waits. rw (← since) (can.1 waits))

-- nothing is in hand at the start
pub tied-start : (h : Environment) (l : Limits) → IsNew l 0 h.world → h.log.moment ≡ 0 → h.places.entries.items ≡ [] → h.guards.entries.items ≡ [] →
    h.owners.entries.items ≡ [] → h.cells.entries.items ≡ [] → h.collectors.entries.items ≡ [] →
    h.lists.queues.entries.items ≡ [] → h.lists.stacks.entries.items ≡ [] → h.lists.bags.entries.items ≡ [] →
    h.log.slots.items ≡ [] → length h.log.names.items ≡ l.slots →
    h.log.dates.items ≡ replicate l.slots 0 → h.log.jobs ≡ 0 → h.log.deferred.items ≡ replicate l.jobs 0 → h.log.job_dates.items ≡ replicate l.jobs 0 →
    AreInRange l → IsTied h
tied-start h l new start places guards owners cells collectors queues stacks bags slots names dates jobs deferred job_dates ranges = record {
  sound = sound-start l (state_of h) (record {
    world = new;
    moment = start;
    places = ap (map open_since) places;
    guards = ap (map guarding) guards;
    owners = ap (map (option_map owner_holding)) owners;
    cells = ap (map (option_map cell_holding)) cells;
    collectors = ap (map (option_map collector_holding)) collectors;
    queues = ap (map (option_map oldest_holding)) queues;
    newest = ap (map (option_map newest_holding)) queues;
    stacks = ap (map (option_map stack_holding)) stacks;
    bags = bags;
    slots = slots;
    dates = dates;
    jobs = jobs;
    deferred = deferred;
    job_dates = job_dates;
  }) names ranges;
  guards = λ g. subst (λ gs. GuardsIn h.world.home.readers (map open_since h.places.entries.items) (slice_index_or gs g None)) (sym guards) tt;
}

-- an answer that names nothing as reclaimed or run
pub answers-plain : {old new : ScriptState} (call : Call) (given : Reply) → Acts old call given new → ((s : ℕ) → IsReclaimed old call given s → ⊥) →
    ((k : ℕ) → IsRunBy old call given k → ⊥) → Answers old call (record { reply = given; reclaimed = []; ran = [] }) new
answers-plain call given acts none never = record {
  acts = acts;
  goes = record {
    ascending = λ k lt. absurd (omega (arith, lt));
    exactly = λ i. ((λ c. absurd (omega (arith, c.1))), (λ h. absurd (none _ h.1)));
    unguarded = λ i c. absurd (omega (arith, c.1));
  };
  runs = record {
    ascending = λ k lt. absurd (omega (arith, lt));
    exactly = λ j. ((λ c. absurd (omega (arith, c.1))), (λ h. absurd (never h.0 h.2)));
    unguarded = λ j c. absurd (omega (arith, c.1));
  };
}
