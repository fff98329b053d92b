-- What each action of a collector leaves in hand: it is sound, and it is what the call means
use Rattle.sdd_script.proofs.Words.{◌≡◌, ℕ, ◌<◌, Bool, List, [], Option, Some, None, is_some, map, length, slice_index_or, slice_set, refl, sym, ap, ◌∙◌, subst, IsPermutation, IsNonDecreasingBy, option_map, Vec, map-set, entry_at, PrivateCollector, IsNullCell, held_in, IsWhole, World, AnyGuardOpen, index_of, PlaceName, GuardName, OwnerName, ItemName, At, Reply, Val, holdings_of, ScriptState, collector_of, holding_at, in_world, slot_of, Answers, HasOpen, IsOwnerName, Meets, names_in, AnyOwner, Sole, Share, owner_holding, NamedParticipant, dated_if_waiting, Environment, IsTied, state_of, LeavesSound, number-is, collectors-spent, Does, Goes, Here, attends, goes, leaves, place-is, sits, CollectorName, Collects, IsCollector, after_given, arith, collector_closed, common_steps, named as named-as, owner-inside, slots_waiting_for, sound-given, with_dates}
use Rattle.sdd_space.specs.Collector as collector
use Rattle.sdd_script_text.specs.Actions as call
use Rattle.sdd_script_text.specs.declared.answer.Reply.TheVariants as reply
use Rattle.sdd_script_model.specs.ScriptState.{without_collector}
use Rattle.sdd_script.proofs.StackActs.{AreDatedNow, AreTold, dated-within}
use Rattle.sdd_script_model.proofs.CollectorCloseSound.{goes-uncollected, runs-uncollected, uncollected-leaves}

-- no collector has this name
pub no-collector : (h : Environment) (k : ℕ) → None ≡ slice_index_or h.collectors.entries.items k None → ¬ (IsCollector (state_of h) k)
no-collector h k none there = grind (arith, common_steps)

-- the item of an owner that a name stands for has a date
pub owner-dated : (h : Environment) → IsTied h → IsWhole h.world → (o : ℕ) (x : AnyOwner) (s : ℕ) → Some x ≡ slice_index_or h.owners.entries.items o None →
    slot_of (Some (owner_holding x)) ≡ Some s → s < length h.log.dates.items
owner-dated h t whole o x s there slot =
    owner-inside (state_of h) t.sound whole o s (owner_holding x) (named-as owner_holding h.owners.entries.items o (sym there)) slot

module _ {h : Environment} (name : PlaceName) {a : NamedParticipant} (at : Here h name.0 a) where
  abbrev p : ℕ
  p = index_of a.place

  -- ---- an owner is given to a collector

  pub acts-collected : (o : OwnerName) (g : GuardName) (r : CollectorName) (k : ℕ) (x : AnyOwner) (y : PrivateCollector Val) (given : Reply) (w : World Val)
      (owners : Vec (Option AnyOwner)) (dates : Vec ℕ) → HasOpen (state_of h) name.0 g.0 → Some x ≡ slice_index_or h.owners.entries.items o.0 None →
      Some y ≡ slice_index_or h.collectors.entries.items r.0 None → slot_of (Some (owner_holding x)) ≡ Some k →
      Collects h.world p (collector.collector_of y) (owner_holding x) given w → owners.items ≡ slice_set h.owners.entries.items o.0 None →
      dates.items ≡ dated_if_waiting w (Some k) h.log.moment h.log.dates.items →
      Does (state_of h) (At name (call.Collect o g r)) given (record (with_dates h dates) { world = w; owners = record { entries = owners } })
  acts-collected o g r k x y given w owners dates valid mine its slot did taken become =
      let left =
      sound-given (state_of h) at.tied.sound at.whole p (collector.collector_of y) k o.0 (sits at) (owner_holding x) given w
      (named-as owner_holding h.owners.entries.items o.0 (sym mine)) slot did in
      let gone = ap (map (option_map owner_holding)) taken ∙ map-set (option_map owner_holding) h.owners.entries.items o.0 None in
      leaves at refl (cc (gone, become)) left (by x given entry did) where
        number : collector_of (holding_at (state_of h).collectors r.0) ≡ Some (collector.collector_of y)
        number = number-is h at.tied r.0 y its

        entry : holding_at (state_of h).owners o.0 ≡ Some (owner_holding x)
        entry = named-as owner_holding h.owners.entries.items o.0 (sym mine)

        is-valid : HasOpen (state_of h) name.0 g.0 × IsOwnerName (state_of h) o.0 × IsCollector (state_of h) r.0
        is-valid = (valid, ap is_some (ap slot_of entry ∙ slot), ap is_some number)

        by : (z : AnyOwner) (given : Reply) → holding_at (state_of h).owners o.0 ≡ Some (owner_holding z) →
            Collects h.world p (collector.collector_of y) (owner_holding z) given w → Meets (state_of h) (At name (call.Collect o g r)) given
            (after_given (state_of h) at.tied.sound at.whole p (collector.collector_of y) k o.0 (sits at) w)
        by (Sole z) reply.Done e did = (is-valid, rw (place-is at) (collector.collector_of y, owner_holding (Sole z), w, number, e, did, refl))
        by (Share z) (reply.Truth b) e did = (is-valid, rw (place-is at) (collector.collector_of y, owner_holding (Share z), w, number, e, did, refl))
        by z given e did = absurd did

  -- ---- a collector is closed
  module _ (r : CollectorName) (x : PrivateCollector Val) (mine : Some x ≡ slice_index_or h.collectors.entries.items r.0 None)
      (quiet : ¬ (AnyGuardOpen h.world)) (null : IsNullCell h.world (collector.collector_of x)) (w : World Val)
      (collectors : Vec (Option (PrivateCollector Val))) (dates : Vec ℕ)
      (world : w ≡ collector_closed holdings_of h.world p (collector.collector_of x))
      (taken : collectors.items ≡ slice_set h.collectors.entries.items r.0 None) (waited : List Bool) (told : AreTold h waited)
      (now : AreDatedNow h w waited dates) where
    abbrev c : ℕ
    c = collector.collector_of x

    abbrev slots : List ℕ
    slots = slots_waiting_for h.world c (length h.log.names.items)

    abbrev closed : ScriptState
    closed = record (in_world (without_collector (state_of h) r.0) (collector_closed holdings_of h.world p c)) { dates = dates.items }

    abbrev pub after_close : Environment
    after_close = record (with_dates h dates) { world = w; collectors = record { entries = collectors } }

    number : collector_of (holding_at (state_of h).collectors r.0) ≡ Some c
    number = number-is h at.tied r.0 x mine

    bare : held_in (entry_at h.world.cells c) ≡ None
    bare = ap held_in null.1 ∙ null.2

    left : LeavesSound (state_of h) closed
    left =
        uncollected-leaves (state_of h) at.tied.sound at.whole p c r.0 (sits at) number bare quiet dates.items
        (dated-within h at.tied waited told closed.world dates (subst (λ (u : World Val). AreDatedNow h u waited dates) world now))

    closes-to : Goes after_close closed
    closes-to =
        let spent = collectors-spent h at.tied collectors r.0 taken in
        goes (cc (world, spent)) left.sound (λ g. rw left.home (at.tied.guards g))

    pub answers-closed : (sorted : List ItemName) → IsPermutation (names_in h.log.names.items slots) sorted →
        IsNonDecreasingBy (λ (i : ItemName). i.0) sorted →
        IsTied after_close
        × Answers (state_of h) (At name (call.CloseCollector r)) (record { reply = reply.Done; reclaimed = sorted; ran = [] }) (state_of after_close)
    answers-closed sorted moved up =
        let d = state_of h in (
          closes-to.tied,
          subst (Answers d (At name (call.CloseCollector r)) (record { reply = reply.Done; reclaimed = sorted; ran = [] })) (sym closes-to.state) (record {
            acts = record {
              meets = ((attends at, ap is_some number), rw (place-is at) (c, number, quiet, refl));
              dated = left.dated;
              line = refl;
              calls = left.calls;
            };
            goes = goes-uncollected d at.tied.sound at.whole c name r number quiet (names_in h.log.names.items slots) sorted refl moved up;
            runs = runs-uncollected d at.tied.sound at.whole c name r number quiet;
          }),
        )
