-- What a line is: calm, or somebody comes or goes, or a guard is opened or closed
use Rattle.sdd_script_model.proofs.Words.{set-get_or, PlaceName, GuardName, ItemName, OwnerName, epoch_of, Epoch, CellContents, collected, collector_closed, owner_collected, OwnerOrCell, registered, ended, closed, Gives, Gives-retired, Gives-owner_given, Gives-cell_closed, Gives-dropped, Call, Register, At, Reply, trimmed, queue_closed, shown_of, stack_closed, link_of, cell_in, Collects, caller, is_waiting_in, Drops, IsParticipant, cell_as, shared_once_more, place_of, place_in, is_opening, is_close, is_end, AddsOwner, Does, GivesOwner, IsDrainedOf, IsValid, MakesCell, Meets, PutsIn, TakesOut, inl, inr, LimboEntry, ◌≡◌, ℕ, ◌+◌, ◌-◌, ◌<◌, Bool, true, false, nat_lt, if◌then◌else◌, List, [], ◌∷◌, Option, Some, None, IsSome, length, refl, sym, ap, ◌∙◌, subst, false≢true, Participant, nobody, IsVacant, Shared, World, IsPlaceOf, retired, owner_given, cell_closed, opened, IsWhole, Val, holdings_of, ScriptState, OpenSince, opening_at, Action, GuardOpen, LinkChange, ListName, NoCell, NoJob, NoPlace, Retags, TooManyGuards, TooManyOwners, tag_after}
use Rattle.sdd_core.specs.declared.tag.Tag.TheVariants.{None as no_tag}
use Rattle.sdd_script_text.specs.declared.call.Call.TheVariants.{Tally}
use Rattle.sdd_script_model.proofs.BagGives.{gives-bag_closed, gives-put, gives-took, gives-without_all}
use Rattle.sdd_script_model.proofs.CopyGives.{gives-queue_made, gives-queue_refused, gives-stack_made, gives-stack_refused}
use Rattle.sdd_script_model.proofs.QueueGives.{gives-dequeued, gives-enqueued, gives-queue_closed, gives-queue_drained}
use Rattle.sdd_script_model.proofs.StackGives.{gives-closed, gives-pushed, gives-taken, gives-trimmed}
use Rattle.sdd_script_model.proofs.WaitingUnchanged.{Calmly, calm-accelerated, calm-collector, calm-deferred, calm-gives, calm-still, calm-stirred, still-begins}
use Rattle.sdd_world_model.specs.OwnerOrCell as holding
use Rattle.sdd_world_model.specs.WorldChanges as steps
use Rattle.sdd_script_text.specs.declared.name.ListName.TheVariants as list
use Rattle.sdd_script_text.specs.Actions as call
use Rattle.sdd_script_text.specs.declared.answer.Reply.TheVariants as reply
use Rattle.sdd_script_model.specs.declared.link_change.LinkChange.TheVariants as change
use Rattle.sdd_script_model.specs.ScriptState as state

-- nobody comes or goes, no guard is opened or closed, and what begins to wait waits with the participant whose line it is
pub record CalmLine (d new : ScriptState) (call : Call) (given : Reply) : Type 0 where
  pub place : ℕ
  pub world : Calmly place d.world new.world
  pub places : new.places ≡ d.places
  pub own : (x : LimboEntry) → is_waiting_in new.world x ≡ true → is_waiting_in d.world x ≡ false →
      (y : OpenSince) × (opening_at d.places (caller call) ≡ Some y) × (y.place ≡ place)
  pub no_opening : (k : ℕ) → is_opening k call given ≡ false
  pub no_close : (k : ℕ) → is_close k call given ≡ false
  pub no_end : (k : ℕ) → is_end k call given ≡ false

pub data Turn (d new : ScriptState) : Call → Reply → Type 0 where
  calm : {call : Call} {given : Reply} → CalmLine d new call given → Turn d new call given
  comes : (name : PlaceName) (p : ℕ) → name.0 ≡ length d.places → IsVacant d.world.time p → new.world ≡ registered d.world p →
      new.places ≡ (state.with_newcomer d p).places → Turn d new Register (reply.Place name)
  goes : (n : PlaceName) → IsParticipant d n.0 → new.world ≡ ended d.world (place_of d n.0) → new.places ≡ (state.without_participant d n.0).places →
      Turn d new (At n call.End) reply.Done
  opens : (n : PlaceName) (g : GuardName) (epoch : Epoch) → IsParticipant d n.0 → epoch ≡ epoch_of new.world.time.count →
      new.world ≡ opened holdings_of d.world (place_of d n.0) →
      new.places ≡ (state.with_guard d n.0 (place_of d n.0)).places → Turn d new (At n call.Open) (reply.Guard g epoch)
  closes : (n : PlaceName) (g : GuardName) → IsParticipant d n.0 → new.world ≡ closed d.world (place_of d n.0) → new.places ≡ d.places →
      Turn d new (At n (call.Close g)) reply.Done

-- time and places are as before
abbrev Still : ScriptState → ScriptState → Type 0
Still d new = (new.world.time ≡ d.world.time) × (new.places ≡ d.places)

same-state : (d new : ScriptState) → new ≡ d → Still d new
same-state d new e = (ap (λ (x : ScriptState). x.world.time) e, ap (λ (x : ScriptState). x.places) e)

still-owner : (d : ScriptState) (w : World Val) (h : OwnerOrCell) (o : OwnerName) (new : ScriptState) →
    w.time ≡ d.world.time → GivesOwner d w h o new → Still d new
still-owner d w h o new e gives = (ap (λ (x : ScriptState). x.world.time) gives.1 ∙ e, ap (λ (x : ScriptState). x.places) gives.1)

still-adds : (d : ScriptState) (k : ℕ) (given : Reply) (new : ScriptState) → AddsOwner d k given new → Still d new
still-adds d k (reply.Owner o) new (owners, is, few, gives) =
    still-owner d (steps.with_standing d.world k (Shared (owners + 1))) (holding.shared k d.world.home.slots) o new refl gives
still-adds d k (reply.Refused TooManyOwners) new does = same-state d new does.1
still-adds d k other new never = absurd never

still-cell : (d : ScriptState) (x : Option OwnerName) (kind : ℕ → ScriptState → OwnerOrCell) (given : Reply) (new : ScriptState) →
    MakesCell d x kind given new →
    Still d new
still-cell d x kind (reply.Cell c) new (named, (k, free, leaves)) = (ap (λ (y : ScriptState). y.world.time) leaves, ap (λ (y : ScriptState). y.places) leaves)
still-cell d x kind (reply.Refused NoCell) new does = same-state d new does.1
still-cell d x kind other new never = absurd never

still-shared : (w : World Val) (held : Option ℕ) (owners : ℕ) → (shared_once_more w held owners).time ≡ w.time
still-shared w None owners = refl
still-shared w (Some k) owners = refl

still-if : (b : Bool) (w : World Val) (k : ℕ) (cell : CellContents) → (if b then steps.with_cell w k cell else w).time ≡ w.time
still-if true w k cell = refl
still-if false w k cell = refl

still-retags : (d : ScriptState) (i : ℕ) (how : LinkChange) (b : Bool) (new : ScriptState) → Retags d i how b new → Still d new
still-retags d i how b new (k, cell, is, may, leaves) =
    (ap (λ (x : ScriptState). x.world.time) leaves ∙ still-if b d.world k (record cell { tag = tag_after how }), ap (λ (x : ScriptState). x.places) leaves)

-- an invalid action is quiet
quiet-invalid : (k : ℕ) (n : PlaceName) (action : Action) →
    (is_opening k (At n action) reply.Invalid ≡ false) × (is_close k (At n action) reply.Invalid ≡ false) × (is_end k (At n action) reply.Invalid ≡ false)
quiet-invalid k n call.Open = (refl, refl, refl)
quiet-invalid k n (call.Close g) = (refl, refl, refl)
quiet-invalid k n call.End = (refl, refl, refl)
quiet-invalid k n action = (refl, refl, refl)

-- a participant that is there
pub some-is : {A : Type 0} (x : Option A) → IsSome x → (y : A) × (x ≡ Some y)
some-is None there = absurd (false≢true there)
some-is (Some y) there = (y, refl)

-- ---- what is given up

gives-none : (p : ℕ) (v w : World Val) → w.time ≡ v.time → Gives p v w
gives-none p v w e = record {
  slots = [];
  time = e ∙ sym (ap (λ (ps : List Participant). record v.time { places = ps }) (set-get_or v.time.places p nobody));
}

gives-as : (p : ℕ) (v w u : World Val) → w ≡ u → Gives p v u → Gives p v w
gives-as p v w u e g = subst (λ (x : World Val). Gives p v x) (sym e) g

gives-collected : (v : World Val) (p c k owners : ℕ) → Gives p v (owner_collected v p c k (Some (Shared owners)))
gives-collected v p c k owners = by (nat_lt 1 owners) where
  by : (b : Bool) → Gives p v (if b then steps.with_standing v k (Shared (owners - 1)) else collected v p c k)
  by true = gives-none p v (steps.with_standing v k (Shared (owners - 1))) refl
  by false = record { slots = k ∷ []; time = refl }

gives-collects : (v : World Val) (p c : ℕ) (h : OwnerOrCell) (given : Reply) (w : World Val) → Collects v p c h given w → Gives p v w
gives-collects v p c (holding.owned k home) reply.Done w (is, e) = record { slots = k ∷ []; time = ap (λ (x : World Val). x.time) e }
gives-collects v p c (holding.shared k home) (reply.Truth last) w (owners, is, one, e) =
    gives-as p v w (owner_collected v p c k (Some (Shared owners))) e (gives-collected v p c k owners)
gives-collects v p c h given w never = absurd never

gives-drops : (v : World Val) (p : ℕ) (h : OwnerOrCell) (given : Reply) (w : World Val) → p < length v.time.places → Drops v p h given w → Gives p v w
gives-drops v p (holding.owned k home) reply.Done w l (is, quiet, e) = gives-as p v w (steps.dropped holdings_of v p k) e (Gives-dropped holdings_of v p k l)
gives-drops v p (holding.shared k home) (reply.Truth true) w l (is, quiet, e) =
    gives-as p v w (steps.dropped holdings_of v p k) e (Gives-dropped holdings_of v p k l)
gives-drops v p (holding.shared k home) (reply.Truth false) w l (owners, is, several, e) = gives-none p v w (ap (λ (x : World Val). x.time) e)
gives-drops v p h given w l never = absurd never

-- ---- what each line is

module _ (d new : ScriptState) (whole : IsWhole d.world) (after : IsWhole new.world)
    (inside : (n : ℕ) (x : OpenSince) → opening_at d.places n ≡ Some x → IsPlaceOf d.world x.place) where
  -- it opens, closes and ends nothing
  abbrev Quiet : Call → Reply → Type 0
  Quiet call given = (k : ℕ) → (is_opening k call given ≡ false) × (is_close k call given ≡ false) × (is_end k call given ≡ false)

  still : {call : Call} {given : Reply} → Quiet call given → Still d new → Turn d new call given
  still quiet s = calm (record {
    place = 0;
    world = calm-still 0 d.world new.world whole after s.0;
    places = s.1;
    own = λ k now was. absurd (still-begins 0 d.world new.world whole after s.0 k now was);
    no_opening = λ k. (quiet k).0;
    no_close = λ k. (quiet k).1;
    no_end = λ k. (quiet k).2;
  })

  live : (n : ℕ) → IsParticipant d n → IsPlaceOf d.world (place_of d n)
  live n there = let x = some-is (opening_at d.places n) there in subst (IsPlaceOf d.world) (sym (ap place_in x.1)) (inside n x.0 x.1)

  acts : {n : PlaceName} {action : Action} {given : Reply} (w : World Val) → Quiet (At n action) given → IsParticipant d n.0 → new.places ≡ d.places →
      new.world ≡ w → (IsWhole w → Calmly (place_of d n.0) d.world w) → Turn d new (At n action) given
  acts {n} w quiet there places world calmly =
      let x = some-is (opening_at d.places n.0) there in
      calm (record {
        place = place_of d n.0;
        world = subst (λ (u : World Val). Calmly (place_of d n.0) d.world u) (sym world) (calmly (subst (λ (u : World Val). IsWhole u) world after));
        places = places;
        own = λ k now was. (x.0, x.1, sym (ap place_in x.1));
        no_opening = λ k. (quiet k).0;
        no_close = λ k. (quiet k).1;
        no_end = λ k. (quiet k).2;
      })

  gives : {n : PlaceName} {action : Action} {given : Reply} (w : World Val) → Quiet (At n action) given → IsParticipant d n.0 → new.places ≡ d.places →
      new.world ≡ w → Gives (place_of d n.0) d.world w → Turn d new (At n action) given
  gives {n} w quiet there places world g =
      acts w quiet there places world (λ whole_now. calm-gives (place_of d n.0) d.world w whole whole_now (live n.0 there).0 g)

  -- what is left of the state
  world-left : {e : ScriptState} → new ≡ e → new.world ≡ e.world
  world-left same = ap (λ (x : ScriptState). x.world) same

  time-left : {e : ScriptState} → new ≡ e → new.world.time ≡ e.world.time
  time-left same = ap (λ (x : ScriptState). x.world.time) same

  places-left : {e : ScriptState} → new ≡ e → new.places ≡ e.places
  places-left same = ap (λ (x : ScriptState). x.places) same

  -- a number is put among a container's entries, one is taken out, or all are let go of
  module _ {n : PlaceName} {action : Action} {given : Reply} where
    puts-in : (l : ListName) (number : ℕ) (o : OwnerName) (i : ItemName) → Quiet (At n action) given → IsParticipant d n.0 →
        PutsIn d (place_of d n.0) l number o i new → Turn d new (At n action) given
    puts-in (list.Queue q) number o i quiet there (name, (cells, es, second, k, w, is, puts, left)) =
        gives w quiet there (places-left left.1) (world-left left.1)
        (gives-enqueued (place_of d n.0) d.world cells es second number k w (live n.0 there).0 puts)
    puts-in (list.Stack s) number o i quiet there (name, (c, es, k, w, is, pushes, left)) =
        gives w quiet there (places-left left.1) (world-left left.1) (gives-pushed (place_of d n.0) d.world c es number k w (live n.0 there).0 pushes)

    takes-out : (l : ListName) (number : ℕ) (o : OwnerName) → Quiet (At n action) given → IsParticipant d n.0 →
        TakesOut d (place_of d n.0) l number o new → Turn d new (At n action) given
    takes-out (list.Queue q) number o quiet there (cells, es, second, e, w, is, told, takes, left) =
        gives w quiet there (places-left left.1) (world-left left.1)
        (gives-dequeued (place_of d n.0) d.world cells es second e w (live n.0 there).0 takes)
    takes-out (list.Stack s) number o quiet there (c, es, e, w, is, told, takes, left) =
        gives w quiet there (places-left left.1) (world-left left.1) (gives-taken (place_of d n.0) d.world c es e w (live n.0 there).0 takes)

    drains-all : (l : ListName) → Quiet (At n action) given → IsParticipant d n.0 → IsDrainedOf d (place_of d n.0) l new → Turn d new (At n action) given
    drains-all (list.Queue q) quiet there (cells, es, second, w, is, drains, leaves) =
        gives w quiet there (places-left leaves) (world-left leaves)
        (gives-queue_drained (place_of d n.0) d.world cells es second w (live n.0 there).0 drains)
    drains-all (list.Stack s) quiet there (c, es, w, is, drains, leaves) =
        gives w quiet there (places-left leaves) (world-left leaves)
        (subst (λ (u : World Val). Gives (place_of d n.0) d.world u) (sym drains.world)
        (gives-trimmed (place_of d n.0) d.world c no_tag es (live n.0 there).0))

  turn-does : (n : PlaceName) (action : Action) (given : Reply) → IsValid d n.0 action → Does d n.0 (place_of d n.0) action given new →
      Turn d new (At n action) given
  turn-does n call.Open (reply.Guard g epoch) valid (nests, name, is, leaves) = opens n g epoch valid is (world-left leaves) (places-left leaves)
  turn-does n call.Open (reply.Refused TooManyGuards) valid (full, e) = still (λ k. (refl, refl, refl)) (same-state d new e)
  turn-does n (call.Epoch g) (reply.Epoch epoch) valid (is, e) = still (λ k. (refl, refl, refl)) (same-state d new e)
  turn-does n (call.Garbage g) (reply.Truth b) valid (is, e) = still (λ k. (refl, refl, refl)) (same-state d new e)
  turn-does n (call.Set g) reply.Done valid leaves =
      acts (steps.stirred d.world (place_of d n.0)) (λ k. (refl, refl, refl)) valid.0 (places-left leaves) (world-left leaves)
      (calm-stirred d.world (place_of d n.0) (live n.0 valid.0).0 whole)
  turn-does n (call.Accelerate g) reply.Done valid leaves =
      acts (steps.accelerated d.world (place_of d n.0)) (λ k. (refl, refl, refl)) valid.0 (places-left leaves) (world-left leaves)
      (calm-accelerated d.world (place_of d n.0) (live n.0 valid.0).0 whole)
  turn-does n (call.Defer g) (reply.Job j) valid (name, (k, free, leaves)) =
      acts (steps.deferred d.world (place_of d n.0) k) (λ k. (refl, refl, refl)) valid.0 (places-left leaves) (world-left leaves)
      (calm-deferred d.world (place_of d n.0) (live n.0 valid.0).0 whole k)
  turn-does n (call.Defer g) (reply.Refused NoJob) valid (full, e) = still (λ k. (refl, refl, refl)) (same-state d new e)
  turn-does n (call.Close g) reply.Done valid leaves = closes n g valid.0 (world-left leaves) (places-left leaves)
  turn-does n call.End reply.Done valid (shut, leaves) = goes n valid (world-left leaves) (places-left leaves)
  turn-does n call.End (reply.Refused GuardOpen) valid (is, e) = still (λ k. (refl, refl, refl)) (same-state d new e)
  turn-does n (call.Owned value) (reply.Item o i) valid (name, (k, w, makes, given)) =
      still (λ k. (refl, refl, refl)) (time-left given.1 ∙ ap (λ (u : World Val). u.time) makes.made, places-left given.1)
  turn-does n (call.Owned value) (reply.Refused r) valid (is, e) = still (λ k. (refl, refl, refl)) (same-state d new e)
  turn-does n (call.Shared value) (reply.Item o i) valid (name, (k, w, makes, given)) =
      still (λ k. (refl, refl, refl)) (time-left given.1 ∙ ap (λ (u : World Val). u.time) makes.made, places-left given.1)
  turn-does n (call.Shared value) (reply.Refused r) valid (is, e) = still (λ k. (refl, refl, refl)) (same-state d new e)
  turn-does n (call.Read o) given valid (is, e) = still (λ k. (refl, refl, refl)) (same-state d new e)
  turn-does n (call.Look i g) given valid (is, e) = still (λ k. (refl, refl, refl)) (same-state d new e)
  turn-does n (call.Upgrade i g) reply.Nothing valid (is, e) = still (λ k. (refl, refl, refl)) (same-state d new e)
  turn-does n (call.Upgrade i g) given valid does = still (λ k. (refl, refl, refl)) (still-adds d (state.slot_at d i.0) given new does)
  turn-does n (call.Clone o) given valid (k, is, does) = still (λ k. (refl, refl, refl)) (still-adds d k given new does)
  turn-does n (call.Retire o) reply.Done valid (k, is, leaves) =
      gives (retired d.world (place_of d n.0) k) (λ k. (refl, refl, refl)) valid.0 (places-left leaves) (world-left leaves)
      (Gives-retired d.world (place_of d n.0) k)
  turn-does n (call.Release o) (reply.Truth b) valid (k, owners, is, by, last, leaves) =
      gives (owner_given d.world (place_of d n.0) k (Some (Shared owners))) (λ k. (refl, refl, refl)) valid.0 (places-left leaves) (world-left leaves)
      (Gives-owner_given d.world (place_of d n.0) k (Some (Shared owners)) by.shared)
  turn-does n (call.Put o number) reply.Done valid (k, w, is, may, puts, leaves) =
      still (λ k. (refl, refl, refl)) (time-left leaves ∙ ap (λ (u : World Val). u.time) puts.put, places-left leaves)
  turn-does n (call.Put o number) (reply.Refused r) valid (is, e) = still (λ k. (refl, refl, refl)) (same-state d new e)
  turn-does n (call.Drop o) (reply.Refused GuardOpen) valid (is, e) = still (λ k. (refl, refl, refl)) (same-state d new e)
  turn-does n (call.Drop o) given valid does =
      gives does.1 (λ k. (refl, refl, refl)) valid.0 (places-left does.4) (world-left does.4)
      (gives-drops d.world (place_of d n.0) does.0 given does.1 (live n.0 valid.0).0 does.3)
  turn-does n (call.Raw o) (reply.Raw i) valid (k, is, name, leaves) = still (λ k. (refl, refl, refl)) (time-left leaves, places-left leaves)
  turn-does n (call.Unraw i) reply.Nothing valid (is, e) = still (λ k. (refl, refl, refl)) (same-state d new e)
  turn-does n (call.Unraw i) (reply.Owner o) valid (raw, given) = still (λ k. (refl, refl, refl)) (time-left given.1, places-left given.1)
  turn-does n (call.See i g) reply.Nothing valid (is, e) = still (λ k. (refl, refl, refl)) (same-state d new e)
  turn-does n (call.See i g) given valid does = still (λ k. (refl, refl, refl)) (same-state d new does.2)
  turn-does n (call.CellOwned x) given valid does = still (λ k. (refl, refl, refl)) (still-cell d x (cell_as None) given new does)
  turn-does n (call.CellShared x) given valid does =
      still (λ k. (refl, refl, refl)) (still-cell d x (cell_as (Some (holding.atomic_shared 0 d.world.home.cells))) given new does)
  turn-does n (call.Load c g) (reply.Pointer i tag) valid (is, e) = still (λ k. (refl, refl, refl)) (same-state d new e)
  turn-does n (call.Tag c) (reply.Tag tag) valid (is, e) = still (λ k. (refl, refl, refl)) (same-state d new e)
  turn-does n (call.Swap c x tag) (reply.Swapped o was) valid (k, cell, is, name, same, leaves) =
      still (λ k. (refl, refl, refl)) (time-left leaves, places-left leaves)
  turn-does n (call.TagIf c tag was) (reply.Truth b) valid (k, cell, is, same, leaves) =
      still (λ k. (refl, refl, refl)) (time-left leaves ∙ still-if b d.world k (record cell { tag = tag }), places-left leaves)
  turn-does n (call.Exchange c g i was x tag) (reply.Exchanged o) valid (k, cell, is, same, name, leaves) =
      still (λ k. (refl, refl, refl)) (time-left leaves, places-left leaves)
  turn-does n (call.Exchange c g i was x tag) (reply.Differs j now) valid (is, e) = still (λ k. (refl, refl, refl)) (same-state d new e)
  turn-does n (call.Into c) given valid (k, cell, is, back, leaves) = still (λ k. (refl, refl, refl)) (time-left leaves, places-left leaves)
  turn-does n (call.Copy c g) (reply.Cell r) valid (name, (k, cell, is, (owners, other, may, free, leaves))) =
      still (λ k. (refl, refl, refl)) (time-left leaves ∙ still-shared d.world cell.held owners, places-left leaves)
  turn-does n (call.Copy c g) (reply.Refused NoCell) valid (full, e) = still (λ k. (refl, refl, refl)) (same-state d new e)
  turn-does n (call.Copy c g) (reply.Refused TooManyOwners) valid (some, full, e) = still (λ k. (refl, refl, refl)) (same-state d new e)
  turn-does n (call.Share c g) reply.Nothing valid (is, e) = still (λ k. (refl, refl, refl)) (same-state d new e)
  turn-does n (call.Share c g) given valid does = still (λ k. (refl, refl, refl)) (still-adds d does.1 given new does.5)
  turn-does n (call.Mark i) (reply.Truth b) valid does = still (λ k. (refl, refl, refl)) (still-retags d i.0 change.Mark b new does)
  turn-does n (call.Unmark i) (reply.Truth b) valid does = still (λ k. (refl, refl, refl)) (still-retags d i.0 change.Unmark b new does)
  turn-does n (call.Delete i) (reply.Truth b) valid does = still (λ k. (refl, refl, refl)) (still-retags d i.0 change.Delete b new does)
  turn-does n (call.LinkTag i) (reply.Tag tag) valid (is, e) = still (λ k. (refl, refl, refl)) (same-state d new e)
  turn-does n (call.Next i g) (reply.Pointer j tag) valid (k, t, es, behind, told, plain, leaves) =
      gives (trimmed link_of d.world (place_of d n.0) k t es) (λ k. (refl, refl, refl)) valid.0.0 (places-left leaves) (world-left leaves)
      (gives-trimmed (place_of d n.0) d.world k t es (live n.0 valid.0.0).0)
  turn-does n (call.Append i o mark g) reply.Done valid (l, cell, k, v, is, stays, owner, there, leaves) =
      still (λ k. (refl, refl, refl)) (time-left leaves, places-left leaves)
  turn-does n (call.Append i o mark g) reply.Deleted valid (is, e) = still (λ k. (refl, refl, refl)) (same-state d new e)
  turn-does n call.Queue (reply.Queue q) valid (name, (cells, free, other, apart, leaves)) =
      still (λ k. (refl, refl, refl)) (time-left leaves, places-left leaves)
  turn-does n call.Queue (reply.Refused NoCell) valid (full, e) = still (λ k. (refl, refl, refl)) (same-state d new e)
  turn-does n call.Bag (reply.Bag b) valid (name, (bag, w, begins, leaves)) =
      still (λ k. (refl, refl, refl)) (time-left leaves ∙ ap (λ (u : World Val). u.time) begins.world, places-left leaves)
  turn-does n call.Bag (reply.Refused NoCell) valid (full, e) = still (λ k. (refl, refl, refl)) (same-state d new e)
  turn-does n (call.Add b number g) reply.Done valid (old, bag, w, is, puts, (same, lost)) =
      gives w (λ k. (refl, refl, refl)) valid.0.0 (ap (λ (e : ScriptState). e.places) same) (ap (λ (e : ScriptState). e.world) same)
      (gives-put (place_of d n.0) d.world number old bag w (live n.0 valid.0.0).0 puts)
  turn-does n (call.Add b number g) (reply.Refused r) valid (is, e) = still (λ k. (refl, refl, refl)) (same-state d new e)
  turn-does n (call.Try b number) reply.Done valid (old, bag, is, cells, puts, leaves) =
      still (λ k. (refl, refl, refl)) (time-left leaves, places-left leaves)
  turn-does n (call.Try b number) (reply.Kept back) valid (same, full, e) = still (λ k. (refl, refl, refl)) (same-state d new e)
  turn-does n (call.Take b g) (reply.Value number) valid (old, bag, w, is, takes, leaves) =
      gives w (λ k. (refl, refl, refl)) valid.0.0 (places-left leaves) (world-left leaves)
      (gives-took (place_of d n.0) d.world number old bag w (live n.0 valid.0.0).0 takes)
  turn-does n (call.Take b g) reply.Nothing valid (is, e) = still (λ k. (refl, refl, refl)) (same-state d new e)
  turn-does n (call.Drain b g) (reply.Numbers numbers) valid (up, (taken, shuffled, (old, bag, w, is, takes, leaves))) =
      gives w (λ k. (refl, refl, refl)) valid.0.0 (places-left leaves) (world-left leaves)
      (gives-without_all (place_of d n.0) takes.entries d.world (cell_in old.overflow.stack) w (live n.0 valid.0.0).0 takes.storages)
  turn-does n (call.LenBag b g) (reply.Many many) valid (is, e) = still (λ k. (refl, refl, refl)) (same-state d new e)
  turn-does n (call.CloseBag b) reply.Done valid (bag, es, w, is, stands, closing, leaves) =
      gives w (λ k. (refl, refl, refl)) valid.0.1.0 (places-left leaves) (world-left leaves)
      (gives-bag_closed (place_of d n.0) d.world bag es w (live n.0 valid.0.1.0).0 closing)
  turn-does n (call.CloseQueue q) reply.Done valid (cells, es, second, is, leaves) =
      gives (queue_closed link_of d.world (place_of d n.0) cells es second) (λ k. (refl, refl, refl)) valid.0.1.0 (places-left leaves) (world-left leaves)
      (gives-queue_closed (place_of d n.0) d.world cells es second (live n.0 valid.0.1.0).0)
  turn-does n call.Stack (reply.Stack s) valid (name, (c, free, leaves)) = still (λ k. (refl, refl, refl)) (time-left leaves, places-left leaves)
  turn-does n call.Stack (reply.Refused NoCell) valid (full, e) = still (λ k. (refl, refl, refl)) (same-state d new e)
  turn-does n (call.Push l number g) (reply.Item o i) valid puts = puts-in l number o i (λ k. (refl, refl, refl)) valid.0.0 puts
  turn-does n (call.Push l number g) (reply.Refused r) valid (is, e) = still (λ k. (refl, refl, refl)) (same-state d new e)
  turn-does n (call.PushIf l number m g) (reply.Item o i) valid (newest, puts) = puts-in l number o i (λ k. (refl, refl, refl)) valid.0.0 puts
  turn-does n (call.PushIf l number m g) (reply.Kept back) valid (same, other, e) = still (λ k. (refl, refl, refl)) (same-state d new e)
  turn-does n (call.PushIf l number m g) (reply.Refused r) valid (newest, is, e) = still (λ k. (refl, refl, refl)) (same-state d new e)
  turn-does n (call.Pop l g) (reply.Popped o number) valid takes = takes-out l number o (λ k. (refl, refl, refl)) valid.0.0 takes
  turn-does n (call.Pop l g) reply.Nothing valid drained = drains-all l (λ k. (refl, refl, refl)) valid.0.0 drained
  turn-does n (call.Pop l g) (reply.Refused TooManyOwners) valid (is, e) = still (λ k. (refl, refl, refl)) (same-state d new e)
  turn-does n (call.PopIf l m g) (reply.Popped o number) valid (same, takes) = takes-out l number o (λ k. (refl, refl, refl)) valid.0.0 takes
  turn-does n (call.PopIf l m g) reply.Nothing valid drained = drains-all l (λ k. (refl, refl, refl)) valid.0.0 drained
  turn-does n (call.PopIf l m g) (reply.KeptEntry o number) valid (other, (c, es, e, rest, is, first, told, adds)) =
      still (λ k. (refl, refl, refl)) (still-adds d e.slot (reply.Owner o) new adds)
  turn-does n (call.PopIf l m g) (reply.Refused TooManyOwners) valid (is, e) = still (λ k. (refl, refl, refl)) (same-state d new e)
  turn-does n (call.All s g) (reply.Stack r) valid (name, (c, es, k, is, free, leaves)) =
      still (λ k. (refl, refl, refl)) (time-left leaves, places-left leaves)
  turn-does n (call.All s g) (reply.Refused NoCell) valid (full, e) = still (λ k. (refl, refl, refl)) (same-state d new e)
  turn-does n (call.Peek l g) given valid (is, e) = still (λ k. (refl, refl, refl)) (same-state d new e)
  turn-does n (call.Len l g) (reply.Value m) valid (is, e) = still (λ k. (refl, refl, refl)) (same-state d new e)
  turn-does n (call.List l g) (reply.Numbers ns) valid (is, e) = still (λ k. (refl, refl, refl)) (same-state d new e)
  turn-does n (call.CloneList (list.Queue q) g) (reply.Queue r) valid (name, (from, es, second, cells, fs, held, w, is, makes, leaves)) =
      gives w (λ k. (refl, refl, refl)) valid.0.0 (places-left leaves) (world-left leaves)
      (gives-queue_made (place_of d n.0) d.world (shown_of es) cells fs held w (live n.0 valid.0.0).0 makes)
  turn-does n (call.CloneList (list.Stack s) g) (reply.Stack r) valid (name, (from, es, c, fs, w, is, makes, leaves)) =
      gives w (λ k. (refl, refl, refl)) valid.0.0 (places-left leaves) (world-left leaves)
      (gives-stack_made (place_of d n.0) d.world (shown_of es) c fs w (live n.0 valid.0.0).0 makes)
  turn-does n (call.CloneList (list.Queue q) g) (reply.Refused r) valid (inl (none, why, e)) = still (λ k. (refl, refl, refl)) (same-state d new e)
  turn-does n (call.CloneList (list.Queue q) g) (reply.Refused r) valid
      (inr (from, es, second, cells, fs, held, w, first, next, others, is, parts, makes, why, (same, lost))) =
      gives (queue_closed link_of w (place_of d n.0) cells fs held) (λ k. (refl, refl, refl)) valid.0.0
      (ap (λ (e : ScriptState). e.places) same) (ap (λ (e : ScriptState). e.world) same)
      (gives-queue_refused (place_of d n.0) d.world first cells fs held w (live n.0 valid.0.0).0 makes)
  turn-does n (call.CloneList (list.Stack s) g) (reply.Refused r) valid (inl (none, why, e)) = still (λ k. (refl, refl, refl)) (same-state d new e)
  turn-does n (call.CloneList (list.Stack s) g) (reply.Refused r) valid
      (inr (from, es, c, fs, w, first, next, others, is, parts, makes, why, (same, lost))) =
      gives (stack_closed w (place_of d n.0) c fs) (λ k. (refl, refl, refl)) valid.0.0
      (ap (λ (e : ScriptState). e.places) same) (ap (λ (e : ScriptState). e.world) same)
      (gives-stack_refused (place_of d n.0) d.world first c fs w (live n.0 valid.0.0).0 makes)
  turn-does n (call.CloseStack s) reply.Done valid (c, es, is, leaves) =
      gives (stack_closed d.world (place_of d n.0) c es) (λ k. (refl, refl, refl)) valid.0.1.0 (places-left leaves) (world-left leaves)
      (gives-closed (place_of d n.0) d.world c es (live n.0 valid.0.1.0).0)
  turn-does n (call.CloseCell c) reply.Done valid (k, is, leaves) =
      gives (cell_closed d.world (place_of d n.0) k) (λ k. (refl, refl, refl)) valid.0 (places-left leaves) (world-left leaves)
      (Gives-cell_closed d.world (place_of d n.0) k (live n.0 valid.0).0)
  turn-does n call.Collector (reply.Collector k) valid (name, (c, free, leaves)) = still (λ k. (refl, refl, refl)) (time-left leaves, places-left leaves)
  turn-does n call.Collector (reply.Refused NoCell) valid (full, e) = still (λ k. (refl, refl, refl)) (same-state d new e)
  turn-does n (call.Collect o g k) given valid (c, h, w, is, at, collects, leaves) =
      gives w (λ k. (refl, refl, refl)) valid.0.0 (places-left leaves) (world-left leaves) (gives-collects d.world (place_of d n.0) c h given w collects)
  turn-does n (call.CloseCollector k) reply.Done valid (c, is, quiet, leaves) =
      acts (collector_closed holdings_of d.world (place_of d n.0) c) (λ k. (refl, refl, refl)) valid.0 (places-left leaves) (world-left leaves)
      (calm-collector d.world (place_of d n.0) (live n.0 valid.0).0 whole c)
  turn-does n (call.CloseCollector k) (reply.Refused GuardOpen) valid (is, e) = still (λ k. (refl, refl, refl)) (same-state d new e)
  turn-does n action given valid never = absurd never

  pub turn : (call : Call) (given : Reply) → Meets d call given new → Turn d new call given
  turn Register (reply.Place name) (is, (p, vacant, leaves)) = comes name p is vacant (world-left leaves) (places-left leaves)
  turn Register (reply.Refused NoPlace) (full, e) = still (λ k. (refl, refl, refl)) (same-state d new e)
  turn Tally (reply.Tally t) (is, e) = still (λ k. (refl, refl, refl)) (same-state d new e)
  turn (At n action) reply.Invalid (is, e) = still (λ k. quiet-invalid k n action) (same-state d new e)
  turn (At n action) given (valid, does) = turn-does n action given valid does
  turn call given never = absurd never
