-- The steps on slots keep all parts of the words' rule.
use Rattle.std.specs.Prelude.{Option, Some}
use Rattle.std.proofs.lemmas.List.{set-set}
use Rattle.std.proofs.Common.{None, ◌≡◌, ◌≢◌, ℕ, suc, ◌+◌, ◌-◌, ◌%◌, ◌^◌, ◌<◌, ◌≤◌, eqb, List, ◌∷◌, map, get_or, set, sym, refl, ap, ◌∙◌, subst, inr, arith}
use mathlib.Core.Option.{some}
use mathlib.Core.Logic.{dite}
use native.Mathlib.Decide.{ℕ_discrete, dec_lt}
use lib.ListN.{get_elem?}
use lib.Seq.{set-get_or}
use prog.Atomic.{either}
use Rattle.atomic_table.proofs.Lists.{at_map, set_again, set_here, exchanged}
use Rattle.sdd_rights.specs.declared.views.EpochView.{EpochView}
use Rattle.sdd_rights.specs.declared.views.WaitingItem.{WaitingItem}
use Rattle.sdd_rights.specs.declared.views.View.{View}
use Rattle.sdd_rights.specs.declared.views.Sizes.{Sizes}
use Rattle.sdd_domain_invariant.specs.Words.{global_word, state_word, slot_word, most_waiting}
use Rattle.sdd_domain_invariant.specs.Codes.{codes, shared_base, free_word, waiting_word, alive, waiting, counted, most_owners, shared_word, held_word}
use Rattle.sdd_domain_invariant.specs.Sums.{times}
use Rattle.sdd_domain_invariant.specs.Epoch.{HasPlace, IsOpen, EpochInvariant}
use Rattle.sdd_domain_invariant.specs.Slots.{slot_at, owners_at, items_at, Owns, Sees, Holds, SlotsInvariant}
use Rattle.sdd_domain_invariant.specs.Collectors.{CollectorsInvariant, privates_at}
use Rattle.sdd_domain_invariant.specs.Epoch.EpochSteps.{Steps}
use Rattle.sdd_domain_invariant.specs.Slots.SlotSteps.{noted, Knew, claimed, retired, deferred, given_back, seeing, Claims, Retires, Defers, GivesBack, AtSlot, held, release_hold, looked_past, discarded, TakesHold, LetsGo, Discards, LooksForGuard, LooksAtSlot, others, one_less, Releases, one_more, taken_back, Adds, TakesBack, held_by, shared_again, TriesHold, SharesAgain, LeavesBeside, AddsBeside}
use Rattle.sdd_domain_invariant.specs.WordInvariant.{epoch_of, Parts}
use Rattle.sdd_domain_invariant.proofs.Codes.{sound, shared, counted_is, none_left, some_left, free_is, waiting_is, one_left, only_held}
use Rattle.sdd_domain_invariant.proofs.Epoch as epochs
use Rattle.sdd_domain_invariant.proofs.Epoch.EpochSteps.{seen_after}
use Rattle.sdd_domain_invariant.proofs.Slots.OwnerSteps as owning
use Rattle.sdd_domain_invariant.proofs.Slots.SeenSlots as seen
use Rattle.sdd_domain_invariant.proofs.Slots.HeldSlots as holding
use Rattle.sdd_domain_invariant.proofs.Slots.SlotWords.{view_step, owner_in, waiter_in, alone_is, held_is}
use Rattle.sdd_domain_invariant.proofs.Sums.{is_same, is_other}
use Rattle.sdd_domain_invariant.proofs.Slots.LoneInvariant.{finds, lone_same, lone_noted}
use Rattle.sdd_domain_invariant.proofs.Slots.WaitingCounts as waits
use Rattle.sdd_domain_invariant.proofs.Collectors.{IsPlain, IsUnmarked, Aside, sees_plain, plain_alive, plain_waiting, plain_free}
use Rattle.sdd_domain_invariant.proofs.Collectors as private
use Rattle.sdd_domain_invariant.proofs.Jobs.DeferredJobs as deferring

-- an addition of one, as the machine does it
abbrev pub more_one : ℕ → ℕ
more_one x = (x + 1) % 2 ^ 64

-- a subtraction of one, as the machine does it
abbrev pub less_one : ℕ → ℕ
less_one x = (x + (2 ^ 64 - 1)) % 2 ^ 64

module _ (id : ℕ) (v : View) (live : HasPlace v.epoch) where
  abbrev sizes : Sizes
  sizes = v.sizes

  module _ (ws : List ℕ) (vs : List View) (p : Parts sizes ws vs) (at : get_elem? vs id ≡ some v) where
    pub at_epoch : get_elem? (map epoch_of vs) id ≡ some v.epoch
    at_epoch = at_map epoch_of vs id v at

    -- what is known of the epoch stays
    pub same_epochs : EpochInvariant sizes ws (set (map epoch_of vs) id v.epoch)
    same_epochs = subst (λ (l : List EpochView). EpochInvariant sizes ws l) (sym (set_again (map epoch_of vs) id v.epoch at_epoch)) p.epoch

    -- the other parts after a step on a slot's word
    pub builds : (slot y : ℕ) (w : View) → HasPlace w.epoch → w.words ≡ noted slot y v → EpochInvariant sizes ws (set (map epoch_of vs) id w.epoch)
        → SlotsInvariant codes sizes (set ws (slot_word sizes slot) y) (set vs id w)
        → CollectorsInvariant codes sizes (set ws (slot_word sizes slot) y) (set vs id w) → Parts sizes (set ws (slot_word sizes slot) y) (set vs id w)
    builds slot y w still is epoch slots collectors = record {
      epoch = seen_after sizes (set ws (slot_word sizes slot) y) vs id w
          (epochs.beside sizes ws (set (map epoch_of vs) id w.epoch) id (slot_word sizes slot) y w.epoch epoch
          (set_here (map epoch_of vs) id w.epoch (epochs.at_length (map epoch_of vs) id v.epoch at_epoch)) still (omega arith, inr (omega arith)));
      slots = slots;
      lone = lone_noted sizes ws vs p.lone id v at p.slots.long p.epoch live slot y w is;
      collectors = collectors;
    }

    -- the same where the slot's item is neither private nor emptied
    pub around : (slot y : ℕ) (w : View) → HasPlace w.epoch → w.words ≡ noted slot y v → IsUnmarked codes (slot_at sizes ws slot) y → Aside v w
        → w.slots.looked ≤ v.slots.looked → v.epoch.known ≤ w.epoch.known → EpochInvariant sizes ws (set (map epoch_of vs) id w.epoch)
        → SlotsInvariant codes sizes (set ws (slot_word sizes slot) y) (set vs id w) → Parts sizes (set ws (slot_word sizes slot) y) (set vs id w)
    around slot y w still is plain aside looked known epoch slots = builds slot y w still is epoch slots
        (private.slot_aside codes sound sizes ws vs p.collectors id v at slot y w plain aside looked known)

    -- nothing changes
    pub unmoved : (i : ℕ) → Parts sizes (set ws i (get_or ws i 0)) (set vs id v)
    unmoved i = subst (λ (l : List ℕ). Parts sizes l (set vs id v)) (sym (set-get_or ws i 0))
        (subst (λ (l : List View). Parts sizes ws l) (sym (set_again vs id v at)) p)

    -- a word that counts an owner's slot counts one at least
    left_of : (slot : ℕ) → Owns v slot → counted (slot_at sizes ws slot) ≡ 1 → shared_base < slot_at sizes ws slot
    left_of slot mine several = let x : ℕ = slot_at sizes ws slot in let o = owner_in codes sound sizes ws vs p.slots id slot v at in
        let above = counted_is x several in let s = (shared x above).0 in omega arith

    -- a lone participant finds what it knew
    pub knew : (slot : ℕ) → Knew slot v (slot_at sizes ws slot)
    knew slot one = let f = p.epoch.each id v.epoch at_epoch in finds sizes ws vs p.lone id v at (sym (f.all (λ z. omega arith)) ∙ one) live slot

  -- the word tells which slot it is
  module _ (slot other : ℕ) (is : slot_word sizes slot ≡ slot_word sizes other) where
    pub same_slot : slot ≡ other
    same_slot = omega arith

    pub knew_too : (x : ℕ) → Knew slot v x → Knew other v x
    knew_too x = subst (λ (k : ℕ). Knew k v x) same_slot

  -- claim a free slot, by a word with one owner
  pub claims : (slot old new : ℕ) → slot < sizes.slots → alive old ≡ 0 → waiting old ≡ 0 → IsPlain codes old → alive new ≡ 1
      → Steps (Parts sizes) id v (slot_word sizes slot) (λ x. either (eqb x old) new x) (AtSlot (λ slot. Claims slot old new) (slot_word sizes slot) v)
  claims slot old new inside none quiet plain one ws vs p at small = let i : ℕ = slot_word sizes slot in let x : ℕ = get_or ws i 0 in
      let w : View = claimed slot new v in let told = knew ws vs p at slot in
      exchanged x old new (λ y. (u : View) × Parts sizes (set ws i y) (set vs id u) × AtSlot (λ slot. Claims slot old new) i v x u)
      (λ hit. (
        w,
        around ws vs p at slot new w live refl (inr (subst (IsPlain codes) (sym hit) plain, plain_alive codes sound new (omega arith)))
            (refl, refl, refl, refl, refl, refl, refl, refl, refl) (omega arith) (omega arith) (same_epochs ws vs p at)
            (owning.claims codes sound sizes ws vs p.slots id v at slot new (noted slot new v) inside
            (ap codes.alive hit ∙ none) (ap codes.waiting hit ∙ quiet) one),
        λ other is. ((λ _. ap (λ (k : ℕ). claimed k new v) (same_slot slot other is)), (λ no. absurd (no hit)), knew_too slot other is x told),
      ))
      (λ miss. (v, unmoved ws vs p at i, λ other is. ((λ e. absurd (miss e)), (λ _. refl), knew_too slot other is x told)))

  -- look at the word of a slot
  pub looks_at : (slot : ℕ) → Steps (Parts sizes) id v (slot_word sizes slot) (λ x. x) (AtSlot LooksAtSlot (slot_word sizes slot) v)
  looks_at slot ws vs p at small = let i : ℕ = slot_word sizes slot in
      (v, unmoved ws vs p at i, λ other is. (refl, knew_too slot other is (get_or ws i 0) (knew ws vs p at slot)))

  -- retire an item whose last owner it has, by a word that waits
  pub retires : (slot y : ℕ) → slot < sizes.slots → Owns v slot → ¬ (Holds v slot) → alive y ≡ 0 → waiting y ≡ 1 → (ws : List ℕ) (vs : List View)
      → Parts sizes ws vs → get_elem? vs id ≡ some v → alive (slot_at sizes ws slot) ≡ 1
      → (w : View) × Parts sizes (set ws (slot_word sizes slot) y) (set vs id w) × AtSlot Retires (slot_word sizes slot) v y w
  retires slot y inside mine free none waits_now ws vs p at last =
      let count : ℕ = get_or ws global_word 0 in let w : View = retired slot y count v in
      let f = p.epoch.each id v.epoch (at_epoch ws vs p at) in
      let none_private : privates_at slot v ≡ 0 = (let most = private.privates_in codes sound sizes ws vs p.collectors id slot v at in
      let plain = (plain_alive codes sound (slot_at sizes ws slot) (omega arith)).0 in omega arith) in (
        w,
        around ws vs p at slot y w live refl
            (inr (plain_alive codes sound (slot_at sizes ws slot) (omega arith), plain_waiting codes sound y (omega arith)))
            (refl, refl, refl, refl, refl, refl, refl, refl, refl) (omega arith) f.known
            (epochs.knows sizes ws (map epoch_of vs) id v.epoch p.epoch (at_epoch ws vs p at))
            (owning.retires codes sound sizes ws vs p.slots id v at p.epoch slot y (noted slot y v) inside mine last free none waits_now),
        λ other is. (
          count,
          f.known,
          (λ one. f.lone (sym (f.all (λ z. omega arith)) ∙ one) live),
          ap (λ (k : ℕ). retired k y count v) (same_slot slot other is),
          (λ open_now. (f.published open_now).once),
          waits.few_wait codes sound sizes ws vs p.slots id v at slot inside mine,
          ap (λ (k : ℕ). items_at k v) (sym (same_slot slot other is)) ∙ waits.none_wait codes sound sizes ws vs p.slots id v at slot
              (sound.lives (slot_at sizes ws slot) (omega arith)).0,
          ap (λ (k : ℕ). privates_at k v) (sym (same_slot slot other is)) ∙ none_private,
        ),
      )

  -- claim a free place for a job, which waits there at once
  pub defers : (slot generation : ℕ) → slot < most_waiting sizes → waiting_word generation < shared_base
      → Steps (Parts sizes) id v (slot_word sizes slot) (λ x. either (eqb x (free_word generation)) (waiting_word generation) x)
      (AtSlot (λ slot. Defers slot (free_word generation) (waiting_word generation)) (slot_word sizes slot) v)
  defers slot g inside low ws vs p at small = let i : ℕ = slot_word sizes slot in let x : ℕ = get_or ws i 0 in let old : ℕ = free_word g in
      let new : ℕ = waiting_word g in let count : ℕ = get_or ws global_word 0 in let w : View = deferred slot new count v in
      let told = knew ws vs p at slot in let f = p.epoch.each id v.epoch (at_epoch ws vs p at) in
      exchanged x old new (λ y. (u : View) × Parts sizes (set ws i y) (set vs id u) × AtSlot (λ slot. Defers slot old new) i v x u)
      (λ hit. let free = free_is g (omega arith) in let word = waiting_is g low in let quiet : codes.waiting x ≡ 0 = ap codes.waiting hit ∙ free.1 in
      let empty : codes.full x ≡ 0 = ap codes.full hit ∙ free.2 in (
        w,
        around ws vs p at slot new w live refl
            (inr (plain_free codes sound x empty, plain_waiting codes sound new (let e = word.1 in omega arith)))
            (refl, refl, refl, refl, refl, refl, refl, refl, refl) (omega arith) f.known
            (epochs.knows sizes ws (map epoch_of vs) id v.epoch p.epoch (at_epoch ws vs p at))
            (deferring.defers codes sound sizes ws vs p.slots id v at p.epoch slot new (noted slot new v) inside
            (ap codes.alive hit ∙ free.0) quiet empty word.0 word.1),
        λ other is. (
          (λ _. (
            count,
            f.known,
            (λ one. f.lone (sym (f.all (λ z. omega arith)) ∙ one) live),
            ap (λ (k : ℕ). deferred k new count v) (same_slot slot other is),
            (λ open_now. (f.published open_now).once),
            waits.few_beside codes sound sizes ws vs p.slots id v at slot inside quiet,
            ap (λ (k : ℕ). items_at k v) (sym (same_slot slot other is)) ∙ waits.none_wait codes sound sizes ws vs p.slots id v at slot quiet,
          )),
          (λ no. absurd (no hit)),
          knew_too slot other is x told,
        ),
      ))
      (λ miss. (v, unmoved ws vs p at i, λ other is. ((λ e. absurd (miss e)), (λ _. refl), knew_too slot other is x told)))

  -- a counted owner goes, where others stay
  one_goes : (slot : ℕ) (rest : List ℕ) → slot < sizes.slots → v.slots.owns ≡ slot ∷ rest → (ws : List ℕ) (vs : List View) (p : Parts sizes ws vs)
      → get_elem? vs id ≡ some v → counted (slot_at sizes ws slot) ≡ 1 → 1 < alive (slot_at sizes ws slot)
      → Parts sizes (set ws (slot_word sizes slot) (slot_at sizes ws slot - 1)) (set vs id (one_less slot (slot_at sizes ws slot - 1) v))
  one_goes slot rest inside has ws vs p at several more = let x : ℕ = slot_at sizes ws slot in let y : ℕ = x - 1 in
      let so_many = (shared x (counted_is x several)).0 in let l = some_left y (omega arith) in let l0 = l.0 in let rest_is = ap others has in
      around ws vs p at slot y (one_less slot y v) live refl (inr (plain_alive codes sound x (omega arith), plain_alive codes sound y (omega arith)))
      (refl, refl, refl, refl, refl, refl, refl, refl, refl) (omega arith) (omega arith) (same_epochs ws vs p at)
      (owning.counts codes sound sizes ws vs p.slots id v at slot y (others v.slots.owns) (noted slot y v) inside several (omega arith) (omega arith)
      (let a = ap (times slot) has in let b = ap (times slot) rest_is in let one = is_same slot slot refl in omega arith)
      (λ j ne. let a = ap (times j) has in let b = ap (times j) rest_is in let z = is_other j slot (λ e. ne (sym e)) in omega arith))

  -- let an owner go beside others, by one exchange of the word that was found
  pub leaves : (slot word : ℕ) (rest : List ℕ) → slot < sizes.slots → v.slots.owns ≡ slot ∷ rest → 1 < alive word → (ws : List ℕ) (vs : List View)
      → Parts sizes ws vs → get_elem? vs id ≡ some v → counted (slot_at sizes ws slot) ≡ 1
      → (w : View) × Parts sizes (set ws (slot_word sizes slot) (either (eqb (slot_at sizes ws slot) word) (word - 1) (slot_at sizes ws slot))) (set vs id w)
      × AtSlot (LeavesBeside word) (slot_word sizes slot) v (slot_at sizes ws slot) w
  leaves slot word rest inside has more ws vs p at several = let i : ℕ = slot_word sizes slot in let x : ℕ = slot_at sizes ws slot in
      let mine : Owns v slot = (let e = ap (times slot) has in let one = is_same slot slot refl in omega arith) in
      let above = left_of ws vs p at slot mine several in let so_many = (some_left x above).0 in let left : 0 < alive x = omega arith in
      let told = knew ws vs p at slot in
      exchanged x word (word - 1) (λ y. (u : View) × Parts sizes (set ws i y) (set vs id u) × AtSlot (LeavesBeside word) i v x u)
      (λ hit. let fewer = one_goes slot rest inside has ws vs p at several (let e = ap alive hit in omega arith) in (
        one_less slot (word - 1) v,
        subst (λ (k : ℕ). Parts sizes (set ws i (k - 1)) (set vs id (one_less slot (k - 1) v))) hit fewer,
        λ other is. (
          several,
          left,
          (λ _. ap (λ (k : ℕ). one_less k (word - 1) v) (same_slot slot other is)),
          (λ miss. absurd (miss hit)),
          knew_too slot other
              is x told,
        ),
      ))
      (λ miss. (v, unmoved ws vs p at i, λ other is. (several, left, (λ hit. absurd (miss hit)), (λ _. refl), knew_too slot other is x told)))

  -- let an owner go that is counted, by one subtraction
  pub releases : (slot : ℕ) (rest : List ℕ) → slot < sizes.slots → v.slots.owns ≡ slot ∷ rest → ¬ (Holds v slot) → (ws : List ℕ) (vs : List View)
      → Parts sizes ws vs → get_elem? vs id ≡ some v → counted (slot_at sizes ws slot) ≡ 1 → slot_at sizes ws slot < 2 ^ 64
      → (w : View) × Parts sizes (set ws (slot_word sizes slot) (less_one (slot_at sizes ws slot))) (set vs id w)
      × AtSlot Releases (slot_word sizes slot) v (slot_at sizes ws slot) w
  releases slot rest inside has free ws vs p at several small = let i : ℕ = slot_word sizes slot in let x : ℕ = slot_at sizes ws slot in let y : ℕ = x - 1 in
      let mine : Owns v slot = (let e = ap (times slot) has in let one = is_same slot slot refl in omega arith) in
      let above = left_of ws vs p at slot mine several in let less : less_one x ≡ y = omega arith in let told = knew ws vs p at slot in
      let so_many = (some_left x above).0 in let left : 0 < alive x = omega arith in
      subst (λ (m : ℕ). (u : View) × Parts sizes (set ws i m) (set vs id u) × AtSlot Releases i v x u) (sym less)
      (dite (ℕ_discrete (alive x) 1)
      (λ last. let e : y ≡ shared_base = omega arith in
      let r = retires slot y inside mine free (ap alive e ∙ none_left.0) (ap waiting e ∙ none_left.1) ws vs p at last in
      (r.0, r.1, λ other is. (several, left, (λ _. r.2 other is), (λ more. absurd (more last)), knew_too slot other is x told)))
      (λ more. let w : View = one_less slot y v in (
        w,
        one_goes slot rest inside has ws vs p at several (omega arith),
        λ other is. (
          several,
          left,
          (λ last. absurd (more last)),
          (λ _. ap (λ (k : ℕ). one_less k y v) (same_slot slot other is)),
          knew_too slot other is x told,
        ),
      )))

  -- a slot's word counts more owners or fewer, of which the participant has more or fewer
  module _ (slot : ℕ) (inside : slot < sizes.slots) (ws : List ℕ) (vs : List View) (p : Parts sizes ws vs) (at : get_elem? vs id ≡ some v)
      (several : counted (slot_at sizes ws slot) ≡ 1) where
    recounts : (y : ℕ) (os : List ℕ) (over : Option ℕ) → 0 < alive (slot_at sizes ws slot) → 0 < alive y
        → alive y + owners_at slot v ≡ alive (slot_at sizes ws slot) + times slot os → ((j : ℕ) → j ≢ slot → times j v.slots.owns ≡ times j os)
        → Parts sizes (set ws (slot_word sizes slot) y) (set vs id (record v { slots = record v.slots { owns = os; over = over }; words = noted slot y v }))
    recounts y os over was now here else = let v' : View = record v { slots = record v.slots { over = over } } in let vs' : List View = set vs id v' in
        let w : View = record v { slots = record v.slots { owns = os; over = over }; words = noted slot y v } in let f = p.slots.each id v at in
        let with_over = view_step codes sound sizes ws vs p.slots id v at v' (λ _. refl) (λ _. refl)
        record { timed = f.timed; guarded = f.guarded; full = f.full; held = f.held }
        (let x = p.slots.two id id v v at at in record { since = x.since; looked = x.looked })
        (λ j x apart e. let a = p.slots.two id j v x at e in let b = p.slots.two j id x v e at in
        (record { since = a.since; looked = a.looked }, record { since = b.since; looked = b.looked })) in
        around ws vs p at slot y w live refl (inr (plain_alive codes sound (slot_at sizes ws slot) was, plain_alive codes sound y now))
        (refl, refl, refl, refl, refl, refl, refl, refl, refl) (omega arith) (omega arith) (same_epochs ws vs p at)
        (subst (λ (l : List View). SlotsInvariant codes sizes (set ws (slot_word sizes slot) y) l) (set-set vs id v' w)
        (owning.counts codes sound sizes ws vs' with_over id v' (set_here vs id v' (epochs.at_length vs id v at)) slot y os (noted slot y v) inside several was
        now
        here else))

    -- one more, beside an owner
    pub adds_owner : 0 < alive (slot_at sizes ws slot) → slot_at sizes ws slot + 1 < 2 ^ 64
        → (w : View) × Parts sizes (set ws (slot_word sizes slot) (more_one (slot_at sizes ws slot))) (set vs id w)
        × AtSlot Adds (slot_word sizes slot) v (slot_at sizes ws slot) w
    adds_owner left small = let x : ℕ = slot_at sizes ws slot in let y : ℕ = x + 1 in let low = counted_is x several in let n = (shared x low).0 in
        let more = some_left y (omega arith) in let m = more.0 in let sum : more_one x ≡ y = omega arith in let one = is_same slot slot refl in
        let told = knew ws vs p at slot in
        let parts = λ (over : Option ℕ). recounts y (slot ∷ v.slots.owns) over left (omega arith) (omega arith)
        (λ j ne. let o = is_other j slot (λ e. ne (sym e)) in omega arith) in
        subst (λ (z : ℕ). (u : View) × Parts sizes (set ws (slot_word sizes slot) z) (set vs id u) × AtSlot Adds (slot_word sizes slot) v x u) (sym sum)
        (dite (dec_lt (alive x) most_owners)
        (λ few. (
          one_more slot y None v,
          parts None,
          λ other is. (
            several,
            left,
            (λ _. ap (λ (k : ℕ). one_more k y None v) (same_slot slot other is)),
            (λ many. absurd (omega arith)),
            knew_too slot other
                is x told,
          ),
        ))
        (λ many. (
          one_more slot y (Some slot) v,
          parts (Some slot),
          λ other is. (
            several,
            left,
            (λ few. absurd (many few)),
            (λ _. ap (λ (k : ℕ). one_more k y (Some k) v) (same_slot slot other is)),
            knew_too slot other is x told,
          ),
        )))

    -- it is taken back, beside an owner
    pub takes_back : (rest : List ℕ) → v.slots.owns ≡ slot ∷ rest → 1 < alive (slot_at sizes ws slot) → slot_at sizes ws slot < 2 ^ 64
        → (w : View) × Parts sizes (set ws (slot_word sizes slot) (less_one (slot_at sizes ws slot))) (set vs id w)
        × AtSlot TakesBack (slot_word sizes slot) v (slot_at sizes ws slot) w
    takes_back rest has more small = let x : ℕ = slot_at sizes ws slot in let y : ℕ = x - 1 in let low = counted_is x several in let n = (shared x low).0 in
        let fewer = some_left y (omega arith) in let m = fewer.0 in let less : less_one x ≡ y = omega arith in let rest_is = ap others has in
        subst (λ (z : ℕ). (u : View) × Parts sizes (set ws (slot_word sizes slot) z) (set vs id u) × AtSlot TakesBack (slot_word sizes slot) v x u) (sym less) (
          taken_back slot y v,
          recounts y (others v.slots.owns) None (omega arith) (omega arith)
              (let a = ap (times slot) has in let b = ap (times slot) rest_is in let one = is_same slot slot refl in omega arith)
              (λ j ne. let a = ap (times j) has in let b = ap (times j) rest_is in let z = is_other j slot (λ e. ne (sym e)) in omega arith),
          λ other is. (ap (λ (k : ℕ). taken_back k y v) (same_slot slot other is), knew_too slot other is x (knew ws vs p at slot)),
        )

  -- give back the slot of an item that has seen three changes
  pub gives_back : (slot generation k : ℕ) (x : WaitingItem) → get_elem? v.slots.waits k ≡ some x → x.slot ≡ slot → 3 ≤ x.changes
      → slot < most_waiting sizes → free_word generation < shared_base
      → Steps (Parts sizes) id v (slot_word sizes slot) (λ _. free_word generation) (λ _. AtSlot GivesBack (slot_word sizes slot) v (free_word generation))
  gives_back slot g k x has same ripe inside low ws vs p at small =
      let y : ℕ = free_word g in let w : View = given_back slot y v in let word = free_is g low in
      let giving_back = λ (i : ℕ). owning.giving_back codes sound sizes ws vs p.slots id v at p.epoch i (noted slot y v) in (
        w,
        around ws vs p at slot y w live refl (inr (
          plain_waiting codes sound (slot_at sizes ws slot) (subst (λ (i : ℕ). 0 < waiting (slot_at sizes ws i)) same
              (waiter_in codes sound sizes ws vs p.slots id k v x at has)),
          plain_free codes sound y word.2,
        ))
            (refl, refl, refl, refl, refl, refl, refl, refl, refl) (omega arith) (omega arith) (same_epochs ws vs p at)
            (subst (λ (i : ℕ). SlotsInvariant codes sizes (set ws (slot_word sizes i) y) (set vs id (giving_back i))) same
            (owning.gives_back codes sound sizes ws vs p.slots id v at p.epoch k y x (noted slot y v) has ripe (omega arith) word.0 word.1)),
        λ other is. (
          ap (λ (k : ℕ). given_back k y v) (same_slot slot other is),
          ap (λ (k : ℕ). items_at k v) (sym (same_slot slot other is)) ∙ waits.waits_once codes sound sizes ws vs p.slots id v at slot k x has same,
        ),
      )

  -- a guard comes to see a slot beside its owner, who may be another: no word is looked at
  pub watches_beside : (slot : ℕ) → IsOpen v.epoch → (k : ℕ) (u : View) → 0 < owners_at slot u → ¬ (Holds u slot) → (ws : List ℕ) (vs : List View)
      → Parts sizes ws vs → get_elem? vs id ≡ some v → get_elem? vs k ≡ some u → Parts sizes ws (set vs id (seeing slot v))
  watches_beside slot is_open k u mine free ws vs p at there = let w : View = seeing slot v in record {
    epoch = seen_after sizes ws vs id w (same_epochs ws vs p at);
    slots = seen.watches_beside codes sound sizes ws vs p.slots id v at k u there slot is_open mine free;
    lone = lone_same sizes ws vs p.lone id v at w refl (λ z. z);
    collectors = private.view_kept codes sound sizes ws vs p.collectors id v w at
        (private.sight_kept v slot)
        (sees_plain codes sizes ws v slot (plain_alive codes sound (slot_at sizes ws slot)
        (let o = owner_in codes sound sizes ws vs p.slots k slot u there in omega arith)));
  }

  -- a load leaves the other parts
  module _ (ws : List ℕ) (vs : List View) (p : Parts sizes ws vs) (at : get_elem? vs id ≡ some v) where
    pub loaded : (i : ℕ) (w : View) → w.epoch ≡ v.epoch → w.words ≡ v.words → SlotsInvariant codes sizes ws (set vs id w)
        → CollectorsInvariant codes sizes ws (set vs id w)
        → Parts sizes (set ws i (get_or ws i 0)) (set vs id w)
    loaded i w same known slots collectors = subst (λ (l : List ℕ). Parts sizes l (set vs id w)) (sym (set-get_or ws i 0)) record {
      epoch = seen_after sizes ws vs id w
          (subst (λ (e : EpochView). EpochInvariant sizes ws (set (map epoch_of vs) id e)) (sym same) (same_epochs ws vs p at));
      slots = slots;
      lone = lone_same sizes ws vs p.lone id v at w known (λ z. subst HasPlace same z);
      collectors = collectors;
    }

  -- hold a slot, which needs no other word, as its owner isn't counted
  pub takes_hold : (slot : ℕ) → slot < sizes.slots → Owns v slot → v.slots.holds ≡ None → (ws : List ℕ) (vs : List View) → Parts sizes ws vs
      → get_elem? vs id ≡ some v → counted (slot_at sizes ws slot) ≡ 0
      → (w : View) × Parts sizes (set ws (slot_word sizes slot) (slot_at sizes ws slot)) (set vs id w)
      × AtSlot TakesHold (slot_word sizes slot) v (slot_at sizes ws slot) w
  takes_hold slot inside mine free ws vs p at firm = let i : ℕ = slot_word sizes slot in let x : ℕ = get_or ws i 0 in let w : View = held slot v in
      let one = (alone_is codes sound sizes ws vs p.slots id slot v at mine firm).1 in (
        w,
        loaded ws vs p at i w refl refl (subst (λ (l : List ℕ). SlotsInvariant codes sizes l (set vs id w)) (set-get_or ws i 0)
            (holding.takes_hold codes sound sizes ws vs p.slots id v at slot x v.words inside mine one free one firm))
            (private.view_aside codes sound sizes ws vs p.collectors id v w at (refl, refl, refl, refl, refl, refl, refl, refl, refl) (omega arith)
            (omega arith)),
        λ other is. (ap (λ (k : ℕ). held k v) (same_slot slot other is), knew_too slot other is x (knew ws vs p at slot)),
      )

  -- let go of it
  pub lets_go : (slot : ℕ) → slot < sizes.slots → Holds v slot
      → Steps (Parts sizes) id v (slot_word sizes slot) (λ x. x) (AtSlot LetsGo (slot_word sizes slot) v)
  lets_go slot inside held ws vs p at small = let i : ℕ = slot_word sizes slot in let x : ℕ = get_or ws i 0 in let w : View = release_hold v in (
    w,
    loaded ws vs p at i w refl refl (subst (λ (l : List ℕ). SlotsInvariant codes sizes l (set vs id w)) (set-get_or ws i 0)
        (holding.lets_go codes sound sizes ws vs p.slots id v at slot x v.words inside held
        (held_is codes sound sizes ws vs p.slots id slot v at held)))
        (private.view_aside codes sound sizes ws vs p.collectors id v w at (refl, refl, refl, refl, refl, refl, refl, refl, refl) (omega arith)
        (omega arith)),
    λ other is. (refl, knew_too slot other is x (knew ws vs p at slot)),
  )

  -- try to hold the slot of an owner that is counted: where one was counted another word comes to stand there, to which no step adds an owner
  pub tries_hold : (slot : ℕ) → slot < sizes.slots → Owns v slot → v.slots.holds ≡ None → (ws : List ℕ) (vs : List View) → Parts sizes ws vs
      → get_elem? vs id ≡ some v → counted (slot_at sizes ws slot) ≡ 1
      → (w : View) × Parts sizes (set ws (slot_word sizes slot) (either (eqb (slot_at sizes ws slot) (shared_word 1)) held_word (slot_at sizes ws slot)))
      (set vs id w)
      × AtSlot TriesHold (slot_word sizes slot) v (slot_at sizes ws slot) w
  tries_hold slot inside mine free ws vs p at several = let i : ℕ = slot_word sizes slot in let x : ℕ = slot_at sizes ws slot in
      let w : View = held_by slot held_word v in let told = knew ws vs p at slot in let o = owner_in codes sound sizes ws vs p.slots id slot v at in
      let left : 0 < alive x = omega arith in
      exchanged x (shared_word 1) held_word (λ y. (u : View) × Parts sizes (set ws i y) (set vs id u) × AtSlot TriesHold i v x u)
      (λ hit. (
        w,
        around ws vs p at slot held_word w live refl
            (inr (plain_alive codes sound x left, plain_alive codes sound held_word (let e = only_held.0 in omega arith)))
            (refl, refl, refl, refl, refl, refl, refl, refl, refl) (omega arith) (omega arith) (same_epochs ws vs p at)
            (holding.takes_hold codes sound sizes ws vs p.slots id v at slot held_word (noted slot held_word v) inside mine (ap codes.alive hit ∙ one_left.0)
            free
            only_held.0 only_held.2),
        λ other is. (
          several,
          left,
          (λ _. ap (λ (k : ℕ). held_by k held_word v) (same_slot slot other is)),
          (λ no. absurd (no hit)),
          knew_too slot other is x told,
        ),
      ))
      (λ miss. (v, unmoved ws vs p at i, λ other is. (several, left, (λ e. absurd (miss e)), (λ _. refl), knew_too slot other is x told)))

  -- let go of it, by a word that says one owner
  pub shares_again : (slot y : ℕ) → slot < sizes.slots → Holds v slot → alive y ≡ 1
      → Steps (Parts sizes) id v (slot_word sizes slot) (λ _. y) (λ _. AtSlot SharesAgain (slot_word sizes slot) v y)
  shares_again slot y inside held one ws vs p at small = let w : View = shared_again slot y v in (
    w,
    around ws vs p at slot y w live refl (inr (
      plain_alive codes sound (slot_at sizes ws slot)
          (let e = held_is codes sound sizes ws vs p.slots id slot v at held in omega arith),
      plain_alive codes sound y (omega arith),
    ))
        (refl, refl, refl, refl, refl, refl, refl, refl, refl) (omega arith) (omega arith) (same_epochs ws vs p at)
        (holding.lets_go codes sound sizes ws vs p.slots id v at slot y (noted slot y v) inside held one),
    λ other is. ap (λ (k : ℕ). shared_again k y v) (same_slot slot other is),
  )

  -- its item goes at once, after a look at each place
  pub discards : (slot generation : ℕ) → slot < sizes.slots → Holds v slot → sizes.participants ≤ v.slots.looked → free_word generation < shared_base
      → Steps (Parts sizes) id v (slot_word sizes slot) (λ _. free_word generation) (λ _. AtSlot Discards (slot_word sizes slot) v (free_word generation))
  discards slot g inside held all low ws vs p at small = let y : ℕ = free_word g in let w : View = discarded slot y v in let word = free_is g low in (
    w,
    around ws vs p at slot y w live refl (inr (
      plain_alive codes sound (slot_at sizes ws slot)
          (let e = held_is codes sound sizes ws vs p.slots id slot v at held in omega arith),
      plain_free codes sound y word.2,
    ))
        (refl, refl, refl, refl, refl, refl, refl, refl, refl) (omega arith) (omega arith) (same_epochs ws vs p at)
        (holding.discards codes sound sizes ws vs p.slots id v at p.epoch slot y (noted slot y v) inside held all word.0 word.1),
    λ other is. ap (λ (k : ℕ). discarded k y v) (same_slot slot other is),
  )

  -- look at the next place for a guard that may see it
  pub looks : (place : ℕ) → place ≡ v.slots.looked
      → Steps (Parts sizes) id v (state_word sizes place) (λ x. x) (LooksForGuard (state_word sizes place) v)
  looks place next ws vs p at small = let i : ℕ = state_word sizes place in let x : ℕ = get_or ws i 0 in
      let f = p.epoch.each id v.epoch (at_epoch ws vs p at) in
      let unseen_there : (q : ℕ) → get_or ws (state_word sizes q) 0 ≢ 2 → (j : ℕ) (u : View) → get_elem? vs j ≡ some u → (k : ℕ) → Sees u k → u.epoch.place ≢ q
      = λ q shut j u e k sees same. let is_open = (p.slots.each j u e).guarded k sees in
      let g = (p.epoch.each j u.epoch (at_map epoch_of vs j u e)).state (omega arith) in
      shut (ap (λ (d : ℕ). get_or ws (state_word sizes d) 0) (sym same) ∙ (g ∙ is_open)) in
      let own : (q : ℕ) → i ≡ state_word sizes q → HasPlace v.epoch → q ≡ v.epoch.place → x ≡ v.epoch.state
      = λ q is z e. ap (λ (k : ℕ). get_or ws k 0) (let same : i ≡ state_word sizes v.epoch.place = omega arith in same) ∙ f.state z in
      dite (ℕ_discrete x 2)
      (λ e. (v, unmoved ws vs p at i, λ q is. ((λ no. absurd (no e)), (λ _. refl), own q is)))
      (λ no. let w : View = looked_past place v in (
        w,
        loaded ws vs p at i w refl refl (subst (λ (k : ℕ). SlotsInvariant codes sizes ws (set vs id (record v { slots = record v.slots { looked = k } })))
            (let e : suc place ≡ place + 1 = omega arith in e)
            (holding.passes codes sound sizes ws vs p.slots id v at p.epoch place next no))
            (private.passes codes sound sizes ws vs p.collectors id v w at place refl refl refl refl refl refl refl next
            (let e : place + 1 ≡ suc place = omega arith in e) (unseen_there place no)),
        λ q is. ((λ _. ap (λ (k : ℕ). looked_past k v) (let e : place ≡ q = omega arith in e)), (λ e. absurd (no e)), own q is),
      ))

  -- an owner comes beside others, by one exchange of the word that was found
  pub adds_beside : (slot : ℕ) → slot < sizes.slots → (word : ℕ) → counted word ≡ 1 → 0 < alive word → alive word < most_owners
      → Steps (Parts sizes) id v (slot_word sizes slot) (λ x. either (eqb x word) (word + 1) x) (AtSlot (AddsBeside word) (slot_word sizes slot) v)
  adds_beside slot inside word several left few ws vs p at small = let i : ℕ = slot_word sizes slot in let x : ℕ = get_or ws i 0 in
      let y : ℕ = word + 1 in let told = knew ws vs p at slot in let above = counted_is word several in let n = (shared word above).0 in
      exchanged x word y (λ z. (u : View) × Parts sizes (set ws i z) (set vs id u) × AtSlot (AddsBeside word) i v x u)
      (λ hit. let e = ap alive hit in let fits : x + 1 < 2 ^ 64 = omega arith in
      let a = adds_owner slot inside ws vs p at (ap counted hit ∙ several) (omega arith) fits in let sum : more_one x ≡ y = omega arith in (
        a.0,
        subst (λ (z : ℕ). Parts sizes (set ws i z) (set vs id a.0)) sum a.1,
        λ other is. (
          (λ _. (a.2 other is).2 (omega arith) ∙ ap (λ (k : ℕ). one_more other (k + 1) None v) hit),
          (λ no. absurd (no hit)),
          knew_too slot other is x told,
        ),
      ))
      (λ miss. (v, unmoved ws vs p at i, λ other is. ((λ e. absurd (miss e)), (λ _. refl), knew_too slot other is x told)))
