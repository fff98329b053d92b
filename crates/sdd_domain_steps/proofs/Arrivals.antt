-- What an outermost opening leaves, before anything is reclaimed, with a change and without one
use Rattle.std.proofs.Common.{◌≡◌, ◌≢◌, ℕ, ◌≤◌, ⊎_elim, if◌then◌else◌, true, false, List, [], ◌∷◌, map, sym, refl, ap, ◌∙◌, subst, eq-eqb, ne_eqb, arith}
use mathlib.Core.Bool.{Bool}
use mathlib.Core.Logic.{dite}
use native.Mathlib.Decide.{ℕ_discrete}
use Rattle.atomic_table.specs.declared.shared.Seat.{Seat}
use Rattle.sdd_atomics.specs.TableFacts.{TableFacts}
use Rattle.sdd_participants.specs.declared.participant.Participant.{Participant}
use Rattle.sdd_participants.specs.declared.waiting.LimboEntry.{LimboEntry}
use Rattle.sdd_participants.specs.Waiting.{Waiting, aged, due, left}
use Rattle.sdd_participants.specs.EpochState.{nested, rotated, settled, due_next}
use Rattle.sdd_shared_values.specs.declared.value_fraction.ValueFraction.{ValueFraction}
use Rattle.sdd_rights.specs.declared.views.EpochView.{EpochView}
use Rattle.sdd_rights.specs.declared.views.PrivateItem.{PrivateItem}
use Rattle.sdd_rights.specs.declared.views.SlotsView.{SlotsView}
use Rattle.sdd_rights.specs.declared.views.WaitingItem.{WaitingItem}
use Rattle.sdd_rights.specs.declared.views.View.{View}
use Rattle.sdd_domain_invariant.specs.Epoch.{IsLone}
use Rattle.sdd_domain_invariant.specs.Epoch.EpochSteps.{knowing, counted, published, Reads, Counts}
use Rattle.sdd_domain_invariant.specs.Sums.{total}
use Rattle.sdd_domain_invariant.specs.Slots.{waits_in}
use Rattle.sdd_domain_invariant.specs.Slots.SlotSteps.{older, older_private, aged as aged_slots, changed}
use Rattle.sdd_domain_invariant.proofs.Sums.{total_map}
use Rattle.sdd_atomics.specs.DomainSeat.{view, epoch, slots, Stepped, HasPublished}
use Rattle.sdd_domain_steps.specs.InBags.{AreInBags, KnownWaiting, TellsCollectors, known_waiting}
use Rattle.sdd_domain_steps.specs.WaitingItems.{aged_at, aged_privates_at, aged_slots_at, due_at, arrived_at, Arrives, HasArrived}
use Rattle.sdd_domain_steps.specs.BetweenCalls.{IsBetweenCalls}
use Rattle.sdd_participants.specs.Slab.{Entries}
use Rattle.sdd_domain_steps.proofs.InBags.{all_older}
use Rattle.sdd_domain_steps.proofs.PrivateTables.{told_older}
use Rattle.sdd_domain_steps.proofs.BetweenCalls.{between_calls_arrived, has_place}

-- and nothing is due
pub quiet_due : (p : Participant) → p.bags.waiting ≡ [] → due_next p ≡ []
quiet_due p none = ap (λ (ws : List Waiting). due (aged ws)) none

pub same_items : (i : ℕ) (xs : List WaitingItem) → total (waits_in i) (map older xs) ≡ total (waits_in i) xs
same_items i xs = total_map (waits_in i) older (λ x. refl) xs

pub unchanged : (v : View) → v.epoch.count ≡ v.epoch.found → changed v ≡ v.slots
unchanged v e = ap (λ (b : Bool). if b then v.slots else aged_slots v.slots) (eq-eqb v.epoch.count v.epoch.found e)

pub has_changed : (v : View) → v.epoch.count ≢ v.epoch.found → changed v ≡ aged_slots v.slots
has_changed v ne = ap (λ (b : Bool). if b then v.slots else aged_slots v.slots) (ne_eqb v.epoch.count v.epoch.found ne)

module _ (count : ℕ) (own : Participant) where
  pub stayed : own.found ≡ count → arrived_at count own ≡ own
  stayed e = ap (λ (b : Bool). if b then own else rotated count own) (eq-eqb own.found count e)

  pub moved : own.found ≢ count → arrived_at count own ≡ rotated count own
  moved ne = ap (λ (b : Bool). if b then own else rotated count own) (ne_eqb own.found count ne)

  aged_stayed : (xs : List WaitingItem) → own.found ≡ count → aged_at count own xs ≡ xs
  aged_stayed xs e = ap (λ (b : Bool). if b then xs else map older xs) (eq-eqb own.found count e)

  aged_moved : (xs : List WaitingItem) → own.found ≢ count → aged_at count own xs ≡ map older xs
  aged_moved xs ne = ap (λ (b : Bool). if b then xs else map older xs) (ne_eqb own.found count ne)

  privates_stayed : (xs : List PrivateItem) → own.found ≡ count → aged_privates_at count own xs ≡ xs
  privates_stayed xs e = ap (λ (b : Bool). if b then xs else map older_private xs) (eq-eqb own.found count e)

  privates_moved : (xs : List PrivateItem) → own.found ≢ count → aged_privates_at count own xs ≡ map older_private xs
  privates_moved xs ne = ap (λ (b : Bool). if b then xs else map older_private xs) (ne_eqb own.found count ne)

  pub due_stayed : own.found ≡ count → due_at count own ≡ []
  due_stayed e = ap (λ (b : Bool). if b then [] else due_next own) (eq-eqb own.found count e)

  pub due_moved : own.found ≢ count → due_at count own ≡ due_next own
  due_moved ne = ap (λ (b : Bool). if b then [] else due_next own) (ne_eqb own.found count ne)

  -- no guard more or fewer is open
  pub as_open : (arrived_at count own).guards ≡ own.guards
  as_open = dite (ℕ_discrete own.found count) (λ e. ap (λ (p : Participant). p.guards) (stayed e)) (λ ne. ap (λ (p : Participant). p.guards) (moved ne))

  pub as_large : (arrived_at count own).bags.room ≡ own.bags.room
  as_large = dite (ℕ_discrete own.found count) (λ e. ap (λ (p : Participant). p.bags.room) (stayed e)) (λ ne. ap (λ (p : Participant). p.bags.room) (moved ne))

  -- nor is it so whether the opening is over or not, and the room stays
  pub has_open : (b : Bool) (new : Participant) → HasArrived count b own new → new.guards ≡ own.guards
  has_open true new h = ap (λ (p : Participant). p.guards) (h.change refl).1 ∙ as_open
  has_open false new h = ⊎_elim (λ (t : (own.found ≡ count) × (new ≡ arrived_at count own)). ap (λ (p : Participant). p.guards) t.1 ∙ as_open)
      (λ (t : (own.found ≢ count) × (own.bags.waiting ≡ []) × (new ≡ settled (arrived_at count own))). ap (λ (p : Participant). p.guards) t.2 ∙ as_open)
      (h.over refl)

  pub has_room : (b : Bool) (new : Participant) → HasArrived count b own new → new.bags.room ≡ own.bags.room
  has_room true new h = ap (λ (p : Participant). p.bags.room) (h.change refl).1 ∙ as_large
  has_room false new h = ⊎_elim (λ (t : (own.found ≡ count) × (new ≡ arrived_at count own)). ap (λ (p : Participant). p.bags.room) t.1 ∙ as_large)
      (λ (t : (own.found ≢ count) × (own.bags.waiting ≡ []) × (new ≡ settled (arrived_at count own))). ap (λ (p : Participant). p.bags.room) t.2 ∙ as_large)
      (h.over refl)

  has_bags : (b : Bool) (new : Participant) → HasArrived count b own new → new.bags.waiting ≡ (arrived_at count own).bags.waiting
  has_bags true new h = ap (λ (p : Participant). p.bags.waiting) (h.change refl).1
  has_bags false new h = ⊎_elim (λ (t : (own.found ≡ count) × (new ≡ arrived_at count own)). ap (λ (p : Participant). p.bags.waiting) t.1)
      (λ (t : (own.found ≢ count) × (own.bags.waiting ≡ []) × (new ≡ settled (arrived_at count own))). ap (λ (p : Participant). p.bags.waiting) t.2)
      (h.over refl)

  -- what has seen three changes is due, and the rest in the bags
  pub bags_aged : (n : ℕ) (s : SlotsView) (taken : List LimboEntry) → AreInBags n (known_waiting s) own.bags.waiting taken → taken ≡ []
      → AreInBags n (known_waiting (aged_slots_at count own s)) (arrived_at count own).bags.waiting (due_at count own)
  bags_aged n s taken t none = dite (ℕ_discrete own.found count)
      (λ e. subst (λ (z : KnownWaiting × List Waiting × List LimboEntry). AreInBags n z.0 z.1 z.2)
      (λ d. (
        record { plain = sym (aged_stayed s.waits e) d; private = sym (privates_stayed s.privates e) d; closes = s.closes },
        (sym (stayed e) d).bags.waiting,
        (none ∙ sym (due_stayed e)) d,
      )) t)
      (λ ne. subst (λ (z : KnownWaiting × List Waiting × List LimboEntry). AreInBags n z.0 z.1 z.2)
      (λ d. (
        record { plain = sym (aged_moved s.waits ne) d; private = sym (privates_moved s.privates ne) d; closes = s.closes },
        (sym (moved ne) d).bags.waiting,
        sym (due_moved ne) d,
      )) (all_older n (known_waiting s) own.bags.waiting taken t none))

  -- the same of what the participant keeps once the opening is over or not
  pub bags_arrived : (n : ℕ) (b : Bool) (new : Participant) → HasArrived count b own new → (s : SlotsView) (taken : List LimboEntry)
      → AreInBags n (known_waiting s) own.bags.waiting taken → taken ≡ []
      → AreInBags n (known_waiting (aged_slots_at count own s)) new.bags.waiting (due_at count own)
  bags_arrived n b new h s taken t none = subst (λ (ws : List Waiting). AreInBags n (known_waiting (aged_slots_at count own s)) ws (due_at count own))
      (sym (has_bags b new h)) (bags_aged n s taken t none)

  -- each waits for the same collector
  pub told_aged : (n : ℕ) (table : Entries ℕ) (s : SlotsView) → TellsCollectors n table s.privates
      → TellsCollectors n table (aged_slots_at count own s).privates
  told_aged n table s t = dite (ℕ_discrete own.found count) (λ e. subst (TellsCollectors n table) (sym (privates_stayed s.privates e)) t)
      (λ ne. subst (TellsCollectors n table) (sym (privates_moved s.privates ne)) (told_older n table s.privates t))

  -- as much of each slot waits as before
  pub same_aged : (i : ℕ) (xs : List WaitingItem) → total (waits_in i) (aged_at count own xs) ≡ total (waits_in i) xs
  same_aged i xs = dite (ℕ_discrete own.found count) (λ e. ap (total (waits_in i)) (aged_stayed xs e))
      (λ ne. ap (total (waits_in i)) (aged_moved xs ne) ∙ same_items i xs)

module _ (b : TableFacts) (p : ℕ) (own : Participant) (count : ℕ) where
  -- the same count is found again
  pub arrived_same : (s t u : Seat ValueFraction View) → IsBetweenCalls b p own s → own.guards ≡ 0 → Stepped Reads s count t → own.found ≡ count → HasPublished
      t u
      → IsBetweenCalls b p (nested own) u × Arrives count own s u
  arrived_same s t u q shut read same pub_ =
      let g : ℕ = pub_.4.0 in let e : EpochView = epoch s in
      let counts : e.count ≡ count = q.count ∙ same in
      let known : epoch t ≡ counted (knowing e count) count = read.1.0 ∙ (λ i. record e { known = count; count = counts i }) in
      let epochs : epoch u ≡ published (counted (knowing e count) count) g = pub_.4.1 ∙ ap (λ (x : EpochView). published x g) known in
      let low : count ≤ g = (let low = pub_.4.2 in let k = ap (λ (x : EpochView). x.known) read.1.0 in omega arith) in
      let found : (epoch t).count ≡ (epoch t).found
      = ap (λ (x : EpochView). x.count) read.1.0 ∙ (q.count ∙ (sym q.found ∙ sym (ap (λ (x : EpochView). x.found) read.1.0))) in
      let keeps : slots u ≡ slots s = pub_.2 ∙ (unchanged (view t) found ∙ read.0.2) in
      let lone : IsLone e → g ≡ count
      = λ one. pub_.4.3 (ap (λ (x : EpochView). x.all) read.1.0 ∙ one) ∙ ap (λ (x : EpochView). x.known) read.1.0 in (
        between_calls_arrived b p own own count g s.me.0.slots.waits s.me.0.slots.privates s u q (pub_.0.0 ∙ read.0.0.0) (pub_.0.2 ∙ read.0.0.2) (pub_.0.3
            ∙ read.0.0.3)
            (λ i. record ((pub_.0.4 ∙ read.0.0.4) i) { counts = s.me.0.fractions.counts }) (pub_.0.5 ∙ read.0.0.5) (pub_.0.6 ∙ read.0.0.6) epochs low lone keeps
            (λ i. omega arith) same shut refl q.pace q.idle,
        record {
          table = pub_.0.0 ∙ read.0.0.0;
          number = pub_.0.1 ∙ read.0.0.1;
          others = pub_.0.2 ∙ read.0.0.2;
          sizes = pub_.0.3 ∙ read.0.0.3;
          fractions = pub_.0.4 ∙ read.0.0.4;
          knew = read.1.1;
          knows = (let f = ap (λ (x : EpochView). x.since) epochs in omega arith);
          known = ap (λ (x : EpochView). x.known) epochs ∙ sym (ap (λ (x : EpochView). x.since) epochs);
          lone = λ one. let k = read.1.3 one (has_place b p own s q) in (k, ap (λ (x : EpochView). x.since) epochs ∙ (lone one ∙ k));
          slots = keeps ∙ sym (λ d. record s.me.0.slots {
            waits = aged_stayed count own s.me.0.slots.waits same d;
            privates = privates_stayed count own s.me.0.slots.privates same d;
          });
          words = pub_.3 ∙ read.0.3;
        },
      )

  module _ (s t u w : Seat ValueFraction View) (q : IsBetweenCalls b p own s) (read : Stepped Reads s count t) (apart : own.found ≢ count)
      (write : Stepped Counts t count u) (pub_ : HasPublished u w) where
    known_now : epoch u ≡ counted (knowing (epoch s) count) count
    known_now = write.1 ∙ ap (λ (x : EpochView). counted x count) read.1.0

    pub older_now : slots w ≡ aged_slots s.me.0.slots
    older_now = pub_.2 ∙ (has_changed (view u)
        (λ e. apart (sym q.found ∙ (sym (ap (λ (x : EpochView). x.found) known_now) ∙ (sym e ∙ ap (λ (x : EpochView). x.count) known_now))))
        ∙ ap aged_slots (write.0.2 ∙ read.0.2))

    -- another count is found: what waits has seen one change more, and what is due comes out of the bags
    pub arrived_moved : own.guards ≡ 0 → IsBetweenCalls b p (nested (rotated count own)) w × Arrives count own s w
    arrived_moved shut =
        let g : ℕ = pub_.4.0 in let e : EpochView = epoch s in let xs : List WaitingItem = s.me.0.slots.waits in
        let epochs : epoch w ≡ published (counted (knowing e count) count) g = pub_.4.1 ∙ ap (λ (x : EpochView). published x g) known_now in
        let low : count ≤ g = (let low = pub_.4.2 in let k = ap (λ (x : EpochView). x.known) known_now in omega arith) in
        let lone : IsLone e → g ≡ count
        = λ one. pub_.4.3 (ap (λ (x : EpochView). x.all) known_now ∙ one) ∙ ap (λ (x : EpochView). x.known) known_now in
        let table : w.table_id ≡ s.table_id = pub_.0.0 ∙ (write.0.0.0 ∙ read.0.0.0) in
        let others : w.me.1 ≡ s.me.1 = pub_.0.2 ∙ (write.0.0.2 ∙ read.0.0.2) in
        let sizes : w.me.0.sizes ≡ s.me.0.sizes = pub_.0.3 ∙ (write.0.0.3 ∙ read.0.0.3) in
        let fractions : w.me.0.fractions ≡ s.me.0.fractions = pub_.0.4 ∙ (write.0.0.4 ∙ read.0.0.4) in
        let idle : own.countdown ≡ 128 → left (aged own.bags.waiting) ≡ [] = λ full. ap (λ (ws : List Waiting). left (aged ws)) (q.idle full) in (
          between_calls_arrived b p own (rotated count own) count g (map older xs) (map older_private s.me.0.slots.privates) s w q table others sizes
              (λ i. record (fractions i) { counts = s.me.0.fractions.counts }) (pub_.0.5 ∙ (write.0.0.5 ∙ read.0.0.5)) (pub_.0.6 ∙ (write.0.0.6
              ∙ read.0.0.6)) epochs low lone older_now
              (λ i. let m = same_items i xs in omega arith)
              refl shut refl q.pace idle,
          record {
            table = table;
            number = pub_.0.1 ∙ (write.0.0.1 ∙ read.0.0.1);
            others = others;
            sizes = sizes;
            fractions = fractions;
            knew = read.1.1;
            knows = (let f = ap (λ (x : EpochView). x.since) epochs in omega arith);
            known = ap (λ (x : EpochView). x.known) epochs ∙ sym (ap (λ (x : EpochView). x.since) epochs);
            lone = λ one. let k = read.1.3 one (has_place b p own s q) in (k, ap (λ (x : EpochView). x.since) epochs ∙ (lone one ∙ k));
            slots = older_now ∙ sym (λ d. record s.me.0.slots {
              waits = aged_moved count own xs apart d;
              privates = privates_moved count own s.me.0.slots.privates apart d;
            });
            words = pub_.3 ∙ (write.0.3 ∙ read.0.3);
          },
        )

-- a participant is between calls still once it is decided that nothing waits
pub between_calls_settled : (b : TableFacts) (p : ℕ) (own : Participant) (seat : Seat ValueFraction View) → own.bags.waiting ≡ []
    → IsBetweenCalls b p own seat →
    IsBetweenCalls b p (settled own) seat
between_calls_settled b p own seat none q = let paced : (settled own).countdown ≡ 128 = ap (λ
    (ws : List Waiting). elim ws [ [] ↦ 128 | x ∷ xs ↦ 127 ]) none in record {
      home = q.home;
      carries = q.carries;
      seen = q.seen;
      unseen = q.unseen;
      rests = q.rests;
      all = q.all;
      place = q.place;
      inside = q.inside;
      count = q.count;
      closed = q.closed;
      opened = q.opened;
      near = q.near;
      lone = q.lone;
      free = q.free;
      knows = q.knows;
      found = q.found;
      quiet = q.quiet;
      pledges = q.pledges;
      rights = q.rights;
      waiting = q.waiting;
      room = q.room;
      pace = omega arith;
      idle = λ _. none;
    }
