-- What coming and going, and each action of a guard leaves in hand: it is sound, and it is what the call means
use Rattle.sdd_script.proofs.Words.{◌≡◌, ◌≢◌, ℕ, Bool, if◌then◌else◌, List, [], ◌∷◌, ◌++◌, Option, Some, None, map, length, slice_index_or, slice_set, refl, sym, ap, ◌∙◌, subst, arith, IsTrue, ◌↔◌, IsPermutation, IsNonDecreasingBy, option_map, Vec, get_or-map, get_or_past, length-map, map-set, map_push, CanNest, is_open, Item, reader_of, reader_at, opened, closed, IsWhole, World, index_of, PlaceName, GuardName, ItemName, Register, At, NamedParticipant, NamedGuard, Environment, Val, holdings_of, ScriptState, OpenSince, BeginsLine, IsThere, opening_at, place_of, slot_at, in_world, Answers, HasOpen, names_in, open_since, guarding, state_of, IsTied, GuardsIn, slots_among, at-other, IsDatedWithin, Goes, Does, Here, attends, does, goes, place, place-is, sits, Contains, Epoch, IsVacant, Job, JobName, WaitsAt, at-end, at-pushed, closes, common_steps, dated-opened, ended, ends, epoch_of, home-opened, job_in, names-go, names-run, none as no_call, not-run-under, not-under, one_more, opened_since, places_among, reclaims, registered, registers, sound-closed, sound-ended, sound-opened, sound-registered, with_guard, with_newcomer, without_guard, without_participant, with_dates}
use Rattle.sdd_rights.specs.Units as units
use Rattle.sdd_participants.specs.EpochState as time
use Rattle.sdd_world_model.specs.WorldStep.WorldStep.{opens}
use Rattle.sdd_world.specs.declared.world.Place.{Place}
use Rattle.sdd_script_text.specs.Actions as call
use Rattle.sdd_script_text.specs.declared.answer.Reply.TheVariants as reply
use Rattle.sdd_script_model.proofs.Dates.{dated-same}
use Rattle.sdd_script.proofs.StackActs.{AreDatedNow, AreTold}
use Rattle.sdd_interpreter.proofs.Acts as interpreter

-- of what is spent nothing is in hand
spent : {X : Type 0} (P : Option X → Type 0) → P None → (xs : List (Option X)) (k : ℕ) → ((j : ℕ) → P (slice_index_or xs j None)) → (j : ℕ) →
    P (slice_index_or (slice_set xs k None) j None)
spent P none xs k all j = grind (arith, common_steps)

-- and what is given is
pub given : {X : Type 0} (P : Option X → Type 0) (xs : List (Option X)) (x : X) → P (Some x) → ((j : ℕ) → P (slice_index_or xs j None)) → (j : ℕ) →
    P (slice_index_or (xs ++ Some x ∷ []) j None)
given P xs x here all j = (let last = at-end xs (Some x) None in let rest = at-pushed xs (Some x) None j in grind (arith, all j))

-- a guard is its participant's, where that is at the same place
pub guards-on : (home : units.GhostName) (ps qs : List (Option OpenSince)) →
    ((n k : ℕ) → option_map place (opening_at ps n) ≡ Some k → option_map place (opening_at qs n) ≡ Some k) →
    (o : Option NamedGuard) → GuardsIn home ps o → GuardsIn home qs o
guards-on home ps qs on o own = grind (arith, common_steps)

module _ (h : Environment) (t : IsTied h) (whole : IsWhole h.world) where
  -- ---- a participant registers
  module _ (places : Vec (Option NamedParticipant)) (new : Place) (w : World Val)
      (pushed : places.items ≡ h.places.entries.items ++ Some (record { place = new; since = 0 }) ∷ [])
      (vacant : IsVacant h.world.time (index_of new)) (world : w ≡ registered h.world (index_of new)) where
    abbrev joined : ScriptState
    joined = in_world (with_newcomer (state_of h) (index_of new)) (registered h.world (index_of new))

    goes-registered : Goes (record h { world = w; places = record { entries = places } }) joined
    goes-registered =
        let x : OpenSince = record { place = index_of new; since = 0 } in
        let more : map open_since places.items ≡ (state_of h).places ++ Some x ∷ [] =
        ap (map open_since) pushed ∙ map_push open_since h.places.entries.items (Some (record { place = new; since = 0 })) in
        goes (cc (world, more)) (sound-registered (state_of h) t.sound whole x.place vacant)
        (λ g. guards-on h.world.home.readers (state_of h).places joined.places (λ n k e. ap (option_map place) (at-pushed (state_of h).places (Some x) None n
        (λ z. (let past : None ≡ Some k = sym (ap (option_map place) (get_or_past (state_of h).places n None (omega (arith, z)))) ∙ e in cc))) ∙ e)
        (slice_index_or h.guards.entries.items g None) (t.guards g))

    pub acts-registered : (name : PlaceName) → name.0 ≡ length h.places.entries.items →
        Does (state_of h) Register (reply.Place name) (record h { world = w; places = record { entries = places } })
    acts-registered name named = does (state_of h) Register (reply.Place name) goes-registered (record {
      meets = (named ∙ sym (length-map h.places.entries.items open_since), (index_of new, vacant, refl));
      dated = dated-same (state_of h) joined refl refl;
      line = refl;
      calls = one_more h.world h.world _ (no_call h.world) (registers h.world (index_of new) vacant);
    })

module _ {h : Environment} (name : PlaceName) {a : NamedParticipant} (at : Here h name.0 a) where
  abbrev d : ScriptState
  d = state_of h

  abbrev n : ℕ
  n = name.0

  abbrev p : ℕ
  p = index_of a.place

  pub acts-ended : (w : World Val) (places : Vec (Option NamedParticipant)) → places.items ≡ slice_set h.places.entries.items n None →
      (IsTrue (is_open (time.place_at h.world.time p)) → ⊥) → w ≡ ended h.world p →
      Does d (At name call.End) reply.Done (record h { world = w; places = record { entries = places } })
  acts-ended w places taken shut world =
      let gone : map open_since places.items ≡ slice_set d.places n None = ap (map open_since) taken ∙ map-set open_since h.places.entries.items n None in
      let left : ScriptState = in_world (without_participant d n) (ended h.world p) in
      does d (At name call.End) reply.Done
      (goes (cc (world, gone)) (sound-ended d at.tied.sound at.whole n (record { place = p; since = a.since }) (sym at.there) shut)
      (λ g. still-own g (slice_index_or h.guards.entries.items g None) refl (at.tied.guards g)))
      (record {
        meets = (attends at, rw (place-is at) (shut, refl));
        dated = dated-same d left refl refl;
        line = refl;
        calls = one_more h.world h.world _ (no_call h.world) (ends h.world p (sits at) shut);
      }) where
        -- no guard was its
        still-own : (g : ℕ) (o : Option NamedGuard) → slice_index_or h.guards.entries.items g None ≡ o → GuardsIn h.world.home.readers d.places o →
            GuardsIn h.world.home.readers (slice_set d.places n None) o
        still-own g None e own = tt
        still-own g (Some held) e own = record {
          own = ap (option_map place) (at-other d.places n held.participant None None apart) ∙ own.own;
          reader = own.reader;
        } where
          apart : held.participant ≢ n
          apart same =
              let z : Some p ≡ Some (held.place) =
              ap (option_map place) at.there ∙ sym (ap (λ m. option_map place (opening_at d.places m)) same) ∙ own.own in
              let one : held.place ≡ p = cc in shut (interpreter.open-here at g held e one)

  pub acts-closed : (g : GuardName) (w : World Val) (guards : Vec (Option NamedGuard)) (held : NamedGuard) → HasOpen d n g.0 →
      slice_index_or h.guards.entries.items g.0 None ≡ Some held → guards.items ≡ slice_set h.guards.entries.items g.0 None → w ≡ closed h.world p →
      Does d (At name (call.Close g)) reply.Done (record h { world = w; guards = record { entries = guards } })
  acts-closed g w guards held valid mine taken world =
      let gone : map guarding guards.items ≡ slice_set d.guards g.0 None = ap (map guarding) taken ∙ map-set guarding h.guards.entries.items g.0 None in
      let left : ScriptState = in_world (without_guard d g.0) (closed h.world p) in
      does d (At name (call.Close g)) reply.Done
      (goes (cc (world, gone))
      (sound-closed d at.tied.sound at.whole g.0 p (record { place = held.place; since = held.since })
      (get_or-map guarding h.guards.entries.items g.0 None ∙ ap guarding mine)
      (interpreter.guard-is at g.0 held valid mine) (sits at))
      (λ k. rw taken (spent (GuardsIn h.world.home.readers d.places) tt h.guards.entries.items g.0 at.tied.guards k)))
      (record {
        meets = (valid, rw (place-is at) refl);
        dated = dated-same d left refl refl;
        line = refl;
        calls = one_more h.world h.world _ (no_call h.world) (closes h.world p (sits at));
      })

  -- a guard is opened, and whether the opening is an outermost one is noted
  abbrev now : OpenSince
  now = record { place = p; since = h.log.moment }

  abbrev pub noted : Bool → List (Option OpenSince)
  noted b = if b then d.places else slice_set d.places n (Some now)

  place-kept : (b : Bool) (m : ℕ) → option_map place (opening_at (noted b) m) ≡ option_map place (opening_at d.places m)
  place-kept b m = grind (arith, common_steps)

  -- an opening, which found these slots
  module _ (w : World Val) (places : Vec (Option NamedParticipant)) (guards : Vec (Option NamedGuard)) (dates : Vec ℕ) (held : NamedGuard)
      (slots : List ℕ) (are : slots ≡ slots_among (reclaims h.world p))
      (entries : map open_since places.items ≡ noted (is_open (time.place_at h.world.time p)))
      (pushed : guards.items ≡ h.guards.entries.items ++ Some held ∷ []) (own : held.place ≡ p)
      (reader : reader_of held.guard ≡ reader_at h.world p) (since : held.since ≡ h.log.moment) (participant : held.participant ≡ n)
      (world : w ≡ opened holdings_of h.world p) (line : BeginsLine d) (waited : List Bool) (told : AreTold h waited)
      (now_dated : AreDatedNow h w waited dates) where
    abbrev pub after_opening : Environment
    after_opening = record (with_dates h dates) { world = w; places = record { entries = places }; guards = record { entries = guards } }

    abbrev opened_state : ScriptState
    opened_state = record (in_world (with_guard d n p) (opened holdings_of h.world p)) { dates = dates.items }

    within : IsDatedWithin d opened_state
    within = grind (arith, common_steps)

    opens-to : Goes after_opening opened_state
    opens-to =
        let entry : guarding (Some held) ≡ Some now = cc (own, since) in
        let more_guards : map guarding guards.items ≡ d.guards ++ Some now ∷ [] =
        ap (map guarding) pushed ∙ map_push guarding h.guards.entries.items (Some held) ∙ ap (λ x. d.guards ++ x ∷ []) entry in
        let b = is_open (time.place_at h.world.time p) in
        let home = home-opened d at.tied.sound at.whole p in
        goes (cc (world, entries, more_guards))
        (sound-opened d at.tied.sound at.whole n (record { place = p; since = a.since }) (sym at.there) dates.items within line)
        (λ k. rw (pushed, home) (given (GuardsIn h.world.home.readers (noted b)) h.guards.entries.items held
        (record {
          own = place-kept b held.participant ∙ ap (λ m. option_map place (opening_at d.places m)) participant
              ∙ sym (ap (option_map place) at.there) ∙ ap Some (sym own);
          reader = reader ∙ ap (reader_at h.world) (sym own);
        })
        (λ j. guards-on h.world.home.readers d.places (noted b) (λ m k e. place-kept b m ∙ e) (slice_index_or h.guards.entries.items j None)
        (at.tied.guards j)) k))

    pub answers-opened : (sorted : List ItemName) (g : GuardName) (epoch : Epoch) → IsPermutation (names_in h.log.names.items slots) sorted →
        IsNonDecreasingBy (λ (i : ItemName). i.0) sorted →
        CanNest h.world.time p → g.0 ≡ length h.guards.entries.items → epoch ≡ epoch_of w.time.count →
        (ran : List JobName) → IsPermutation (map (job_in h.log.deferred.items) (places_among (reclaims h.world p))) ran →
        IsNonDecreasingBy (λ (j : JobName). j.0) ran →
        IsTied after_opening
        × Answers d (At name call.Open) (record { reply = reply.Guard g epoch; reclaimed = sorted; ran = ran }) (state_of after_opening)
    answers-opened sorted g epoch moved up nests given_name now_is ran jobs_moved jobs_up =
        let all = names-go d at.tied.sound at.whole p slots (names_in h.log.names.items slots) sorted are refl moved up in
        let all_at : (i : ItemName) → Contains sorted i ↔ (IsThere d i.0 × Contains (reclaims d.world (place_of d n)) (Item (slot_at d i.0))) =
        rw (place-is at) all.1 in
        let run = names-run d at.tied.sound at.whole p (sits at) ran jobs_moved jobs_up in
        let run_at : (j : JobName) → Contains ran j ↔ ((k : ℕ) × WaitsAt d j.0 k × Contains (reclaims d.world (place_of d n)) (Job k)) =
        rw (place-is at) run.1 in (
          opens-to.tied,
          subst (Answers d (At name call.Open) (record { reply = reply.Guard g epoch; reclaimed = sorted; ran = ran }))
              (sym opens-to.state) (record {
                acts = record {
                  meets = (
                    attends at,
                    rw (place-is at) (
                      nests,
                      given_name ∙ sym (length-map h.guards.entries.items guarding),
                      now_is ∙ ap (λ (v : World Val). epoch_of v.time.count) world,
                      refl,
                    ),
                  );
                  dated = dated-opened d at.tied.sound at.whole n (record { place = p; since = a.since }) (sym at.there) dates.items within;
                  line = refl;
                  calls = one_more h.world h.world _ (no_call h.world) (opens h.world p (sits at));
                };
                goes = record {
                  ascending = all.0;
                  exactly = all_at;
                  unguarded = λ i c g y e. not-under d at.tied.sound at.whole p (slot_at d i.0) (sits at) ((all.1 i).0 c).1 g y e;
                };
                runs = record {
                  ascending = run.0;
                  exactly = run_at;
                  unguarded = λ j c k waits g y e.
                      let runs = (run.1 j).0 c in
                      let one : runs.0 ≡ k = at.tied.sound.deferred.apart runs.0 k runs.1.taken waits.taken (runs.1.last ∙ sym waits.last) in
                      not-run-under d at.tied.sound at.whole p k (sits at) (subst (λ (m : ℕ). Contains (reclaims d.world p) (Job m)) one runs.2) g y e;
                };
              }),
        )

-- whether it is an outermost opening or not, it is noted so
pub noted-is : {h : Environment} (name : PlaceName) {a : NamedParticipant} (at : Here h name.0 a) (nested : Bool) (new : List (Option OpenSince)) →
    nested ≡ is_open (time.place_at h.world.time (index_of a.place)) →
    new ≡ (if nested then (state_of h).places else opened_since (state_of h).places name.0 h.log.moment) →
    new ≡ noted name at (is_open (time.place_at h.world.time (index_of a.place)))
noted-is {h} name {a} at nested new is e = grind (arith, common_steps)
