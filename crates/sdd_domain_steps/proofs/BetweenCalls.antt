-- A participant is between calls after each step that takes or gives slots.
use Rattle.std.proofs.Common.{◌≡◌, ⊎_elim, ℕ, ◌+◌, ◌-◌, ◌<◌, ◌≤◌, not, List, [], ◌∷◌, ◌++◌, map, drop, suc, sym, refl, ap, ◌∙◌, subst, eq-eqb, arith}
use mathlib.Core.Bool.{Bool, cond}
use base.Stored.{Gv}
use mathlib.Core.Logic.{dite}
use native.Mathlib.Decide.{ℕ_discrete, dec_lt}
use Rattle.atomic_table.specs.declared.shared.Seat.{Seat}
use Rattle.sdd_participants.specs.declared.waiting.LimboEntry.TheVariants.{Item}
use Rattle.sdd_participants.specs.declared.participant.Participant.{Participant}
use Rattle.sdd_participants.specs.EpochState.{stirred, awaiting, nested}
use Rattle.sdd_shared_values.specs.declared.value_fraction.ValueFraction.{ValueFraction}
use Rattle.sdd_rights.specs.declared.views.EpochView.{EpochView}
use Rattle.sdd_rights.specs.declared.views.CountsView.{CountsView}
use Rattle.sdd_rights.specs.declared.views.ShownValue.{ShownValue}
use Rattle.sdd_rights.specs.declared.views.FractionsView.{FractionsView}
use Rattle.sdd_rights.specs.declared.views.PledgesView.{PledgesView}
use Rattle.sdd_rights.specs.declared.views.PrivateItem.{PrivateItem}
use Rattle.sdd_rights.specs.declared.views.WaitingItem.{WaitingItem}
use Rattle.sdd_rights.specs.declared.views.View.{View}
use Rattle.sdd_domain_invariant.specs.Epoch.{HasPlace, IsLone, IsOpen}
use Rattle.sdd_domain_invariant.specs.Epoch.EpochSteps.{knowing, counted, published}
use Rattle.sdd_domain_invariant.specs.Sums.{total, times}
use Rattle.sdd_domain_invariant.specs.Collectors.{privates_at}
use Rattle.sdd_domain_invariant.specs.Slots.{items_at, waits_in}
use Rattle.sdd_domain_invariant.specs.Slots.SlotSteps.{retired_now, retired, one_less, noted, without}
use Rattle.sdd_rights.specs.Views.{owner_of}
use Rattle.sdd_domain_invariant.proofs.Sums.{is_other, total_snoc}
use Rattle.sdd_shared_values.specs.CarriedFractions.{OnlyLends}
use Rattle.sdd_shared_values.specs.SharedValues.{IsNoValueCode}
use Rattle.sdd_rights.specs.declared.views.Sizes.{Sizes}
use Rattle.sdd_domain_invariant.specs.Fractions.FractionsAtHome.{CarriedFractions, Has, fraction_at}
use Rattle.sdd_domain_invariant.specs.Slots.Records.{slot_shown, IsIn}
use Rattle.sdd_domain_invariant.proofs.Slots.Records.{in_head, in_either, in_times}
use Rattle.sdd_domain_invariant.specs.Fractions.FractionSteps.{SeatState, IsValue, SeesOwned, LearnsOwned, regained, undrawing, remembering, resting, with_made, untold}
use Rattle.sdd_atomics.specs.TableFacts.{TableFacts, gamma_of, places_of, slots_of, most_waiting_of}
use Rattle.sdd_atomics.specs.DomainSeat.{view, epoch, slots, Taught, Moved, MovedAlone}
use Rattle.sdd_atomics.specs.Owner.{disowned}
use Rattle.sdd_domain_steps.specs.SeenSlots.{IsOnce}
use Rattle.sdd_domain_steps.specs.WaitingItems.{GivesOneBack}
use Rattle.sdd_domain_steps.proofs.Reclaims.{no_more}
use Rattle.sdd_domain_steps.specs.Claims.{Gains}
use Rattle.sdd_domain_steps.specs.Values.{with_filled, LetsWait, LeavesOthers}
use Rattle.sdd_domain_steps.specs.BetweenCalls.{CarriesSeenOnly, AreLentTo, IsBetweenCalls}
use Rattle.sdd_domain_steps.proofs.MovedValues.{row_out, rest_out, now_seen, still_seen}

pub stirs : (c : ℕ) → ¬ (stirred c ≡ 128)
stirs c e = grind arith

pub stirs_low : (c : ℕ) → c ≤ 128 → stirred c ≤ 128
stirs_low c low = grind arith

-- an item of the slot waits too, and what it shows is remembered
abbrev pub waiting_too : ℕ → Bool → Gv → ℕ → ℕ → View → View
waiting_too slot shared value y count v = record v {
  epoch = knowing v.epoch count;
  slots = record v.slots { waits = v.slots.waits ++ retired_now slot count ∷ [] };
  fractions = record v.fractions { waits = record { slot = slot; shared = shared; value = value } ∷ v.fractions.waits };
  words = noted slot y v;
}

module _ (b : TableFacts) (p : ℕ) where
  pub has_place : (own : Participant) (s : Seat ValueFraction View) → IsBetweenCalls b p own s → HasPlace (epoch s)
  has_place own s q = dite (dec_lt 0 own.guards) (λ some_open. let e = q.opened some_open in omega arith)
      (λ none. let e = q.closed (omega arith) in omega arith)

  -- beside an owner nothing changes
  pub same_recalled : (slot : ℕ) (shared : Bool) (value : Gv) (s t : Seat ValueFraction View) → MovedAlone (LearnsOwned slot shared value) s t → t ≡ s
  same_recalled slot shared value s t e = λ d. record t { table_id = e.0 d; id = e.1 d; me = e.2.0 d }

  -- what is known once the item of an owner that was taken in waits
  retired_view : (slot y count : ℕ) (shared : Bool) (value : Gv) (v : View) → v.slots.owns ≡ [] → v.fractions.owns ≡ []
      → remembering (retired slot y count (undrawing (regained v (owner_of slot shared value)))) ≡ waiting_too slot shared value y count v
  retired_view slot y count shared value v owns told =
      let none : without slot (slot ∷ v.slots.owns) ≡ v.slots.owns = ap (λ (l : List ℕ). without slot (slot ∷ l)) owns
      ∙ (ap (λ (c : Bool). cond (not c) (slot ∷ []) []) (eq-eqb slot slot refl) ∙ sym owns) in
      λ d. record v {
        epoch = knowing v.epoch count;
        slots = record v.slots { owns = none d; waits = v.slots.waits ++ retired_now slot count ∷ [] };
        fractions = record v.fractions {
          owns = sym told d;
          waits = record { slot = slot; shared = shared; value = value } ∷ (told d ++ v.fractions.waits);
        };
        words = noted slot y v;
      }

  -- the seat after an owner was taken in and its item retired
  pub retires_to : (own : Participant) (y slot : ℕ) (shared : Bool) (value : Gv) (s t u : Seat ValueFraction View) → IsBetweenCalls b p own s
      → Taught (λ v _ w. w ≡ regained v (owner_of slot shared value)) s 0 t → Moved (LetsWait slot) t y u
      → (count : ℕ) × (u.me.0 ≡ waiting_too slot shared value y count (view s)) × ((epoch s).known ≤ count) × (IsLone (epoch s) → count ≡ (epoch s).known)
      × (IsOpen (epoch s) → count ≤ (epoch s).since + 1) × (items_at slot (view s) ≡ 0) × (privates_at slot (view s) ≡ 0)
  retires_to own y slot shared value s t u q took e = let r = e.2.1 in let v : View = view s in let v' : View = regained v (owner_of slot shared value) in
      let epochs : epoch t ≡ epoch s = ap (λ (w : View). w.epoch) took.3 in (
        r.0,
        e.2.2 ∙ (ap remembering (r.3 ∙ ap (λ (w : View). retired slot y r.0
            (undrawing w)) took.3) ∙ retired_view slot y r.0 shared value v q.quiet.owns q.seen.owns),
        subst (λ (x : EpochView). x.known ≤ r.0) epochs r.1,
        subst (λ (x : EpochView). IsLone x → r.0 ≡ x.known) epochs r.2,
        subst (λ (x : EpochView). IsOpen x → r.0 ≤ x.since + 1) epochs r.4,
        subst (λ (w : View). items_at slot (undrawing w) ≡ 0) took.3 r.6,
        subst (λ (w : View). privates_at slot (undrawing w) ≡ 0) took.3 r.7,
      )

  pub between_calls_retires : (own : Participant) (y slot : ℕ) (shared : Bool) (value : Gv) (s t u : Seat ValueFraction View) → IsBetweenCalls b p own s
      → slot <
      slots_of b
      → Taught (λ v _ w. w ≡ regained v (owner_of slot shared value)) s 0 t → Moved (LetsWait slot) t y u → IsBetweenCalls b p (awaiting (Item slot) own) u
  between_calls_retires own y slot shared value s t u q low took e = let r = retires_to own y slot shared value s t u q took e in
      let others : u.me.1 ≡ s.me.1 = e.2.3 ∙ took.2 in
      subst (λ (v : View). IsBetweenCalls b p (awaiting (Item slot) own) (record u { me = (v, u.me.1) })) (sym r.1) record {
        home = e.0 ∙ (took.0 ∙ q.home);
        carries = subst (λ (xs : CarriedFractions). CarriesSeenOnly (gamma_of b) (places_of b) p s.me.0.fractions.sees xs) (sym others) q.carries;
        seen = record { owns = q.seen.owns; sees = q.seen.sees; once = q.seen.once };
        unseen = q.unseen;
        rests = q.rests;
        all = q.all;
        place = q.place;
        inside = q.inside;
        count = q.count;
        closed = q.closed;
        opened = q.opened;
        near = λ some_open. let n = q.near some_open in
            record { count = n.count; since = (let since = n.since in let more = r.2 in omega arith); known = r.4 (q.opened some_open) };
        lone = λ some_open one. r.3 one ∙ q.lone some_open one;
        free = q.free;
        knows = q.knows;
        found = q.found;
        quiet = record {
          owns = q.quiet.owns;
          drawn = q.quiet.drawn;
          holds = q.quiet.holds;
          looked = q.quiet.looked;
          over = q.quiet.over;
          emptied = q.quiet.emptied;
          empties = q.quiet.empties;
          left = q.quiet.left;
        };
        pledges = q.pledges;
        rights = q.rights;
        waiting = λ i some_wait. dite (ℕ_discrete slot i) (λ e. subst (λ (k : ℕ). k < most_waiting_of b) e (let l = low in omega arith))
            (λ ne. q.waiting i (let o = is_other i slot ne in let t = total_snoc (waits_in i) s.me.0.slots.waits (retired_now slot r.0) in omega arith));
        room = q.room;
        pace = stirs_low own.countdown q.pace;
        idle = λ e. absurd (stirs own.countdown e);
      }

  -- the seat after an owner was taken in and went, beside others
  pub leaves_to : (own : Participant) (slot : ℕ) (shared : Bool) (value : Gv) (s t u : Seat ValueFraction View) → IsBetweenCalls b p own s
      → Taught (λ v _ w. w ≡ regained v (owner_of slot shared value)) s 0 t → (e : MovedAlone (LeavesOthers slot) t u)
      → (u.me.0 ≡ record (view s) { words = noted slot (e.2.word - 1) (view s) }) × (u.me.1 ≡ s.me.1)
  leaves_to own slot shared value s t u q took e = let o = e.2 in let v : View = view s in (
    ap (λ (m : SeatState). m.0) o.seat ∙ (ap (λ (w : View). untold (one_less slot (o.word - 1) (undrawing w))) took.3
        ∙ (λ d. record v { fractions = record v.fractions { owns = sym q.seen.owns d }; words = noted slot (o.word - 1) v })),
    ap (λ (m : SeatState). m.1) o.seat ∙ took.2,
  )

  pub between_calls_leaves : (own : Participant) (slot : ℕ) (shared : Bool) (value : Gv) (s t u : Seat ValueFraction View) → IsBetweenCalls b p own s
      → Taught (λ v _ w. w ≡ regained v (owner_of slot shared value)) s 0 t → MovedAlone (LeavesOthers slot) t u → IsBetweenCalls b p own u
  between_calls_leaves own slot shared value s t u q took e = let l = leaves_to own slot shared value s t u q took e in
      subst (λ (v : View). IsBetweenCalls b p own (record u { me = (v, u.me.1) })) (sym l.0) record {
        home = e.0 ∙ (took.0 ∙ q.home);
        carries = subst (λ (xs : CarriedFractions). CarriesSeenOnly (gamma_of b) (places_of b) p s.me.0.fractions.sees xs) (sym l.1) q.carries;
        seen = record { owns = q.seen.owns; sees = q.seen.sees; once = q.seen.once };
        unseen = q.unseen;
        rests = q.rests;
        all = q.all;
        place = q.place;
        inside = q.inside;
        count = q.count;
        closed = q.closed;
        opened = q.opened;
        near = q.near;
        lone = q.lone;
        free = q.free;
        knows = q.knows;
        found = q.found;
        quiet = record {
          owns = q.quiet.owns;
          drawn = q.quiet.drawn;
          holds = q.quiet.holds;
          looked = q.quiet.looked;
          over = q.quiet.over;
          emptied = q.quiet.emptied;
          empties = q.quiet.empties;
          left = q.quiet.left;
        };
        pledges = q.pledges;
        rights = q.rights;
        waiting = q.waiting;
        room = q.room;
        pace = q.pace;
        idle = q.idle;
      }

  -- the first that was due was moved out
  pub between_calls_reclaims : (own : Participant) (slot : ℕ) (s t : Seat ValueFraction View) → IsBetweenCalls b p own s
      → Taught (GivesOneBack slot) s 0 t → IsBetweenCalls b p own t
  between_calls_reclaims own slot s t q e = subst (λ (v : View). IsBetweenCalls b p own (record t { me = (v, t.me.1) })) (sym e.3.0) record {
    home = e.0 ∙ q.home;
    carries = subst (λ (xs : CarriedFractions). CarriesSeenOnly (gamma_of b) (places_of b) p s.me.0.fractions.sees xs) (sym e.2) q.carries;
    seen = record { owns = q.seen.owns; sees = q.seen.sees; once = q.seen.once };
    unseen = q.unseen;
    rests = q.rests;
    all = q.all;
    place = q.place;
    inside = q.inside;
    count = q.count;
    closed = q.closed;
    opened = q.opened;
    near = q.near;
    lone = q.lone;
    free = q.free;
    knows = q.knows;
    found = q.found;
    quiet = record {
      owns = q.quiet.owns;
      drawn = q.quiet.drawn;
      holds = q.quiet.holds;
      looked = q.quiet.looked;
      over = q.quiet.over;
      emptied = q.quiet.emptied;
      empties = q.quiet.empties;
      left = q.quiet.left;
    };
    pledges = q.pledges;
    rights = q.rights;
    waiting = λ i some_wait. q.waiting i (let m = no_more slot i s.me.0.slots.waits in omega arith);
    room = q.room;
    pace = q.pace;
    idle = q.idle;
  }

  pub between_calls_arrived : (own new : Participant) (c g : ℕ) (xs : List WaitingItem) (ys : List PrivateItem) (s t : Seat ValueFraction View)
      → IsBetweenCalls b p own s → t.table_id ≡ s.table_id
      → t.me.1 ≡ s.me.1 → t.me.0.sizes ≡ s.me.0.sizes
      → record t.me.0.fractions { counts = s.me.0.fractions.counts } ≡ s.me.0.fractions → t.me.0.pledges ≡ s.me.0.pledges → t.me.0.cells ≡ s.me.0.cells
      → epoch t ≡ published (counted (knowing (epoch s) c) c) g → c ≤ g → (IsLone (epoch s) → g ≡ c)
      → slots t ≡ record s.me.0.slots { waits = xs; privates = ys } → ((i : ℕ) → total (waits_in i) xs ≤ items_at i (view s))
      → new.found ≡ c → new.guards ≡ 0 → new.bags.room ≡ own.bags.room
      → new.countdown ≤ 128 → (new.countdown ≡ 128 → new.bags.waiting ≡ []) → IsBetweenCalls b p (nested new) t
  between_calls_arrived own new c g xs ys s t q table others sizes fractions pledged cells epochs low one_only keeps fewer found none room pace idle =
      let is : t.me.0 ≡ record t.me.0 { epoch = published (counted (knowing (epoch s) c) c) g; slots = record s.me.0.slots { waits = xs; privates = ys } }
      = λ i. record t.me.0 { epoch = epochs i; slots = keeps i } in
      subst (λ (v : View). IsBetweenCalls b p (nested new) (record t { me = (v, t.me.1) })) (sym is) record {
        home = table ∙ q.home;
        carries = subst (λ (k : List ShownValue × CarriedFractions). CarriesSeenOnly (gamma_of b) (places_of b) p k.0 k.1)
            (λ d. (sym (ap (λ (k : FractionsView). k.sees) fractions) d, sym others d)) q.carries;
        seen = record {
          owns = ap (λ (k : FractionsView). k.owns) fractions ∙ q.seen.owns;
          sees = ap (λ (k : FractionsView). map slot_shown k.sees) fractions ∙ q.seen.sees;
          once = subst (λ (k : FractionsView). IsOnce k.sees) (sym fractions) q.seen.once;
        };
        unseen = λ z. absurd (omega arith);
        rests = ap (λ (k : FractionsView). k.moves) fractions ∙ q.rests;
        all = q.all;
        place = q.place;
        inside = q.inside;
        count = sym found;
        closed = λ z. absurd (omega arith);
        opened = λ _. refl;
        near = λ _. record { count = low; since = omega arith; known = omega arith };
        lone = λ _ one. one_only one;
        free = q.free;
        knows = (sizes ∙ q.knows.0, ap (λ (k : FractionsView). k.gamma) fractions ∙ q.knows.1);
        found = sym found;
        quiet = record {
          owns = q.quiet.owns;
          drawn = q.quiet.drawn;
          holds = q.quiet.holds;
          looked = q.quiet.looked;
          over = q.quiet.over;
          emptied = q.quiet.emptied;
          empties = q.quiet.empties;
          left = q.quiet.left;
        };
        pledges = ap (λ (k : PledgesView). k.own) pledged ∙ q.pledges;
        rights = cells ∙ q.rights;
        waiting = λ i some_wait. q.waiting i (let f = fewer i in omega arith);
        room = room ∙ q.room;
        pace = pace;
        idle = idle;
      }

  -- a slot that it claimed has an item, whose owner left it
  pub made_view : (own : Participant) (y slot : ℕ) (shared : Bool) (value : Gv) (s t u : Seat ValueFraction View) → IsBetweenCalls b p own s → Gains y slot s t
      → view u ≡ disowned (resting (with_filled slot shared value (view t)))
      → view u ≡ with_filled slot shared value (with_made (record (view s) { words = noted slot y (view s) }))
  made_view own y slot shared value s t u q gains is = let v : View = view s in is ∙ (ap (λ (w : View). disowned (resting
      (with_filled slot shared value w))) gains.view
      ∙ (λ d. record v {
        slots = record v.slots { owns = sym q.quiet.owns d };
        fractions = record (with_filled slot shared value (with_made v)).fractions { moves = sym q.rests d };
        words = noted slot y v;
      }))

  pub between_calls_makes : (own : Participant) (y slot : ℕ) (shared : Bool) (value : Gv) (s t u : Seat ValueFraction View) → IsBetweenCalls b p own s
      → Gains y slot s
      t
      → u.table_id ≡ t.table_id → view u ≡ disowned (resting (with_filled slot shared value (view t))) → u.me.1 ≡ drop (suc (places_of b)) t.me.1
      → IsBetweenCalls b p own u × (u.me.1 ≡ s.me.1)
  between_calls_makes own y slot shared value s t u q gains table is given =
      let row = row_out (gamma_of b) (places_of b) slot s.me t.me.1 q.knows.1 (ap (λ (z : Sizes). z.participants) q.knows.0) gains.row in
      let others : u.me.1 ≡ s.me.1 = rest_out (gamma_of b) slot (places_of b) (places_of b) 0 IsNoValueCode s.me.1 t.me.1 u.me.1 refl row given in (
        subst (λ (w : View). IsBetweenCalls b p own (record u { me = (w, u.me.1) })) (sym (made_view own y slot shared value s t u q gains is)) record {
          home = table ∙ (gains.table ∙ q.home);
          carries = subst (λ (xs : CarriedFractions). CarriesSeenOnly (gamma_of b) (places_of b) p s.me.0.fractions.sees xs) (sym others) q.carries;
          seen = record { owns = q.seen.owns; sees = q.seen.sees; once = q.seen.once };
          unseen = q.unseen;
          rests = q.rests;
          all = q.all;
          place = q.place;
          inside = q.inside;
          count = q.count;
          closed = q.closed;
          opened = q.opened;
          near = q.near;
          lone = q.lone;
          free = q.free;
          knows = q.knows;
          found = q.found;
          quiet = record {
            owns = q.quiet.owns;
            drawn = q.quiet.drawn;
            holds = q.quiet.holds;
            looked = q.quiet.looked;
            over = q.quiet.over;
            emptied = q.quiet.emptied;
            empties = q.quiet.empties;
            left = q.quiet.left;
          };
          pledges = q.pledges;
          rights = q.rights;
          waiting = q.waiting;
          room = q.room;
          pace = q.pace;
          idle = q.idle;
        },
        others,
      )

  -- what its guards see, and what is known of that
  abbrev pub with_seen : List ℕ → List ShownValue → View → View
  with_seen sees records v = record v { slots = record v.slots { sees = sees }; fractions = record v.fractions { sees = records } }

  between_calls_seeing : (own : Participant) (sees : List ℕ) (records : List ShownValue) (s u : Seat ValueFraction View) → IsBetweenCalls b p own s
      → 0 < own.guards
      → u.table_id ≡ s.table_id → view u ≡ with_seen sees records (view s) → map slot_shown records ≡ sees → IsOnce records
      → CarriesSeenOnly (gamma_of b) (places_of b) p records u.me.1 → IsBetweenCalls b p own u
  between_calls_seeing own sees records s u q some_open table is told once carries =
      subst (λ (w : View). IsBetweenCalls b p own (record u { me = (w, u.me.1) })) (sym is) record {
        home = table ∙ q.home;
        carries = carries;
        seen = record { owns = q.seen.owns; sees = told; once = once };
        unseen = λ z. absurd (omega arith);
        rests = q.rests;
        all = q.all;
        place = q.place;
        inside = q.inside;
        count = q.count;
        closed = q.closed;
        opened = q.opened;
        near = q.near;
        lone = q.lone;
        free = q.free;
        knows = q.knows;
        found = q.found;
        quiet = record {
          owns = q.quiet.owns;
          drawn = q.quiet.drawn;
          holds = q.quiet.holds;
          looked = q.quiet.looked;
          over = q.quiet.over;
          emptied = q.quiet.emptied;
          empties = q.quiet.empties;
          left = q.quiet.left;
        };
        pledges = q.pledges;
        rights = q.rights;
        waiting = q.waiting;
        room = q.room;
        pace = q.pace;
        idle = q.idle;
      }

  -- what a participant has out after a look at a slot that shows this: the fraction in it among others
  pub record HasSeen (t slot : ℕ) (value : Gv) (s u : Seat ValueFraction View) : Type 0 where
    pub sees : List ℕ
    pub records : List ShownValue
    pub view : u.me.0 ≡ with_seen sees records s.me.0
    pub told : map slot_shown records ≡ sees
    pub once : IsOnce records
    pub carries : CarriesSeenOnly (gamma_of b) (places_of b) p records u.me.1
    pub lent : AreLentTo t u.me.1
    pub there : IsIn records slot value

  once_more : (slot : ℕ) (shared : Bool) (value : Gv) (records : List ShownValue) → IsOnce records → ¬ (0 < times slot (map slot_shown records))
      → IsOnce (record { slot = slot; shared = shared; value = value } ∷ records)
  once_more slot shared value records once blind i g h a c = let r : ShownValue = record { slot = slot; shared = shared; value = value } in
      let unknown : (k : Gv) → slot ≡ i → ¬ (IsIn records i k)
      = λ k e there. blind (subst (λ (j : ℕ). 0 < times j (map slot_shown records)) (sym e) (in_times records i k there)) in ⊎_elim
      (λ (x : (slot ≡ i) × (value ≡ g)). ⊎_elim (λ (y : (slot ≡ i) × (value ≡ h)). sym x.1 ∙ y.1)
      (λ (y : IsIn records i h). absurd (unknown h x.0 y)) (in_either r records i h c))
      (λ (x : IsIn records i g). ⊎_elim (λ (y : (slot ≡ i) × (value ≡ h)). absurd (unknown g y.0 x))
      (λ (y : IsIn records i h). once i g h x y) (in_either r records i h c)) (in_either r records i g a)

  pub watched : (own : Participant) (t slot : ℕ) (shared : Bool) (value : Gv) (s u : Seat ValueFraction View) → IsBetweenCalls b p own s → AreLentTo t s.me.1
      → MovedAlone (SeesOwned slot shared value) s u → HasSeen t slot value s u
  watched own t slot shared value s u q lent e = let w = e.2 in let γ : ℕ = gamma_of b in let n : ℕ = places_of b in let xs : CarriedFractions = s.me.1 in
      let known : List ShownValue = s.me.0.fractions.sees in dite (dec_lt 0 (times slot s.me.0.slots.sees))
      (λ sees. let same = (w.0 sees).0 in record {
        sees = s.me.0.slots.sees;
        records = known;
        view = ap (λ (m : SeatState). m.0) same;
        told = q.seen.sees;
        once = q.seen.once;
        carries = subst (λ (ys : CarriedFractions). CarriesSeenOnly γ n p known ys) (sym (ap (λ (m : SeatState). m.1) same)) q.carries;
        lent = subst (AreLentTo t) (sym (ap (λ (m : SeatState). m.1) same)) lent;
        there = (w.0 sees).1;
      })
      (λ blind. let o = w.1 blind in let y : ValueFraction = o.0 in let spot : ℕ = fraction_at (s.me.0.sizes.participants) slot s.me.0.epoch.place in
      let at : spot ≡ fraction_at n slot p = λ d. fraction_at ((q.knows.0 d).participants) slot (q.place d) in
      let has = subst (λ (k : ℕ). Has k slot 1 (IsValue value) y) q.knows.1 o.1 in
      let both = now_seen γ n p t slot spot y known xs q.carries lent at shared value has in
      let ys : u.me.1 ≡ (spot, y) ∷ xs = ap (λ (m : SeatState). m.1) o.2 in
      let r : ShownValue = record { slot = slot; shared = shared; value = value } in record {
        sees = slot ∷ s.me.0.slots.sees;
        records = r ∷ known;
        view = ap (λ (m : SeatState). m.0) o.2;
        told = ap (λ (l : List ℕ). slot ∷ l) q.seen.sees;
        once = once_more slot shared value known q.seen.once (λ c. blind (subst (λ (l : List ℕ). 0 < times slot l) q.seen.sees c));
        carries = subst (λ (ys : CarriedFractions). CarriesSeenOnly γ n p (r ∷ known) ys) (sym ys) both.0;
        lent = subst (AreLentTo t) (sym ys) both.1;
        there = in_head r known slot value refl refl;
      })

  pub between_calls_shows : (own : Participant) (t slot : ℕ) (value : Gv) (s u z : Seat ValueFraction View) → IsBetweenCalls b p own s → 0 < own.guards
      → u.table_id ≡
      s.table_id
      → HasSeen t slot value s u → z ≡ record u { me = (u.me.0, z.me.1) } → OnlyLends t u.me.1 z.me.1 → IsBetweenCalls b p own z × AreLentTo t z.me.1
  between_calls_shows own t slot value s u z q some_open table seen is lends =
      let still = still_seen (gamma_of b) (places_of b) p t seen.records u.me.1 z.me.1 lends seen.carries seen.lent in (
        between_calls_seeing own seen.sees seen.records s z q some_open (ap (λ (x : Seat ValueFraction View). x.table_id) is ∙ table)
            (ap (λ (x : Seat ValueFraction View). x.me.0) is ∙ seen.view) seen.told seen.once still.0,
        still.1,
      )

  -- what it filled and counts, and the words that it knows, are others
  pub between_calls_with : (own : Participant) (s u : Seat ValueFraction View) (filled : List ShownValue) (counts : CountsView) (words : List ℕ)
      → IsBetweenCalls b p
      own s
      → u.table_id ≡ s.table_id → u.me.1 ≡ s.me.1
      → view u ≡ record (view s) { fractions = record (view s).fractions { filled = filled; counts = counts }; words = words } → IsBetweenCalls b p own u
  between_calls_with own s u filled counts words q table others is =
      subst (λ (w : View). IsBetweenCalls b p own (record u { me = (w, u.me.1) })) (sym is) record {
        home = table ∙ q.home;
        carries = subst (λ (xs : CarriedFractions). CarriesSeenOnly (gamma_of b) (places_of b) p s.me.0.fractions.sees xs) (sym others) q.carries;
        seen = record { owns = q.seen.owns; sees = q.seen.sees; once = q.seen.once };
        unseen = q.unseen;
        rests = q.rests;
        all = q.all;
        place = q.place;
        inside = q.inside;
        count = q.count;
        closed = q.closed;
        opened = q.opened;
        near = q.near;
        lone = q.lone;
        free = q.free;
        knows = q.knows;
        found = q.found;
        quiet = record {
          owns = q.quiet.owns;
          drawn = q.quiet.drawn;
          holds = q.quiet.holds;
          looked = q.quiet.looked;
          over = q.quiet.over;
          emptied = q.quiet.emptied;
          empties = q.quiet.empties;
          left = q.quiet.left;
        };
        pledges = q.pledges;
        rights = q.rights;
        waiting = q.waiting;
        room = q.room;
        pace = q.pace;
        idle = q.idle;
      }

  -- what waits with it, privately or not, and what it remembers of that, what it counts, and the words that it knows, are others
  pub between_calls_waits : (own : Participant) (s u : Seat ValueFraction View) (ws : List WaitingItem) (ps : List PrivateItem) (rs : List ShownValue)
      (counts : CountsView) (words : List ℕ) → IsBetweenCalls b p own s → u.table_id ≡ s.table_id → u.me.1 ≡ s.me.1
      → view u ≡ record (view s) {
        slots = record (view s).slots { waits = ws; privates = ps };
        fractions = record (view s).fractions { waits = rs; counts = counts };
        words = words;
      } → ((i : ℕ) → 0 < total (waits_in i) ws → i < most_waiting_of b) → IsBetweenCalls b p own u
  between_calls_waits own s u ws ps rs counts words q table others is low =
      subst (λ (w : View). IsBetweenCalls b p own (record u { me = (w, u.me.1) })) (sym is) record {
        home = table ∙ q.home;
        carries = subst (λ (xs : CarriedFractions). CarriesSeenOnly (gamma_of b) (places_of b) p s.me.0.fractions.sees xs) (sym others) q.carries;
        seen = record { owns = q.seen.owns; sees = q.seen.sees; once = q.seen.once };
        unseen = q.unseen;
        rests = q.rests;
        all = q.all;
        place = q.place;
        inside = q.inside;
        count = q.count;
        closed = q.closed;
        opened = q.opened;
        near = q.near;
        lone = q.lone;
        free = q.free;
        knows = q.knows;
        found = q.found;
        quiet = record {
          owns = q.quiet.owns;
          drawn = q.quiet.drawn;
          holds = q.quiet.holds;
          looked = q.quiet.looked;
          over = q.quiet.over;
          emptied = q.quiet.emptied;
          empties = q.quiet.empties;
          left = q.quiet.left;
        };
        pledges = q.pledges;
        rights = q.rights;
        waiting = low;
        room = q.room;
        pace = q.pace;
        idle = q.idle;
      }
