-- What each call of the table asks for
use Rattle.std.proofs.Common.{None, ◌≤◌, ◌≡◌, ◌≢◌, ◌⊎◌, inl, inr, ℕ, ◌+◌, ◌-◌, ◌<◌, Bool, true, false, eqb, List, [], ◌∷◌, get_or, sym, refl, ap, ◌∙◌, subst, arith}
use base.Stored.{Gv, gnil}
use mathlib.Core.Option.{none, some}
use mathlib.Core.Logic.{dite}
use native.Mathlib.Decide.{ℕ_discrete}
use lib.ListN.{get_elem?}
use Rattle.atomic_table.proofs.Lists.{exchanged}
use prog.Atomic.{either}
use Rattle.atomic_table.specs.Table.{State, step, Allows, Enters, carried_after}
use Rattle.sdd_witness.specs.Steps.{AllowsBeside}
use Rattle.atomic_table.specs.declared.shared.Seat.{Seat}
use Rattle.sdd_shared_values.specs.declared.value_fraction.ValueFraction.{ValueFraction}
use Rattle.sdd_shared_values.specs.SharedValues.{IsNoValueCode, content}
use Rattle.sdd_shared_values.specs.ValueFractions.{FractionContent}
use Rattle.sdd_shared_values.specs.Bank.{Comes, Leaves, AllowsDeal}
use Rattle.sdd_rights.specs.declared.views.EpochView.{EpochView}
use Rattle.sdd_rights.specs.declared.views.View.{View}
use Rattle.sdd_rights.specs.declared.views.Sizes.{Sizes}
use Rattle.sdd_domain_invariant.specs.Words.{global_word, lock_word, state_word, count_word, slot_word, IsEpochWord}
use Rattle.sdd_domain_invariant.specs.Codes.{free_word, owned_word, raw_word, waiting_word, alive, counted as counts_owners, held_word, most_owners, shared_word}
use Rattle.sdd_domain_invariant.proofs.Codes.{one_left}
use Rattle.sdd_domain_invariant.specs.Epoch.{HasPlace, IsClosed, IsOpen, Scans}
use Rattle.sdd_rights.specs.Views.{nobody, owner_of}
use Rattle.sdd_domain_invariant.specs.Epoch.EpochSteps.{Keeps, passed_by, knowing, scanning, IsNext, Registers, Reads, Counts, Publishes, Ends, Locks, LooksAtLock, LooksAtState, LooksAtCount, Advances, Unlocks}
use Rattle.sdd_domain_invariant.specs.Slots.{Owns, Holds}
use Rattle.sdd_domain_invariant.specs.Slots.SlotSteps.{blank, changed, OnEpoch, PublishesAll, IsDue, LooksAtSlot, TakesHold, LetsGo, TriesHold, SharesAgain, LooksForGuard, AtSlot}
use Rattle.sdd_domain_invariant.specs.Epoch.Barred.{IsNobodys, Bars, LooksForValue}
use Rattle.sdd_domain_invariant.proofs.Epoch as epochs
use Rattle.sdd_domain_invariant.proofs.Epoch.EpochSteps as over
use Rattle.sdd_domain_invariant.proofs.Epoch.Barred.{Spares}
use Rattle.sdd_domain_invariant.proofs.Sums.{is_same}
use Rattle.sdd_domain_invariant.specs.Fractions.FractionsAtHome.{CarriedFractions, Moves, spare}
use Rattle.sdd_domain_invariant.specs.Fractions.BankInvariant.{IsBank, banked, founder, one_where}
use Rattle.sdd_domain_invariant.specs.Slots.FilledInvariant.{HasRecord}
use Rattle.sdd_domain_invariant.specs.Slots.Records.{IsIn}
use Rattle.sdd_domain_invariant.specs.Slots.KindsInvariant.{written}
use Rattle.sdd_rights.specs.declared.views.ShownValue.{ShownValue}
use Rattle.sdd_domain_invariant.proofs.Slots.SlotSteps.{less_one}
use Rattle.sdd_domain_invariant.specs.DomainInvariant.{DomainInvariant}
use Rattle.sdd_domain_invariant.specs.Fractions.FractionSteps.{SeatState, CarriesAll, IsValue, CarriesSeen, ClaimsAll, FillsSlot, EntersUnit, TakesOut, TakesHeld, IsDeposit, RetiresOne, ReleasesOne, LeavesOne, GivesAll, DiscardsAll, SeesOwned, LearnsOwned, ClosesHome, EndsAll, OfSlot, AddsSeen, IsStill}
use Rattle.sdd_domain_invariant.proofs.TableSteps.{lift_epoch, lift_publish, lift_end}
use Rattle.sdd_domain_invariant.proofs.Fractions.FractionSteps.{own_place}
use Rattle.sdd_domain_invariant.proofs.Fractions.FractionSteps as steps
use Rattle.sdd_domain_invariant.proofs.Raw.RawSteps as raw
use Rattle.sdd_domain_invariant.proofs.Slots.OwnerUpgrade as upgrading
use Rattle.sdd_domain_invariant.specs.Raw.RawSteps.{TurnsRawOne, RegainsOne, SeesRawOne}
use Rattle.sdd_domain_invariant.proofs.Slots.RecordSteps.{one_moved}
use Rattle.sdd_domain_invariant.proofs.Seats.{enters}
use Rattle.sdd_atomics.specs.declared.domain_table.DomainTable.{DomainTable}
use Rattle.sdd_atomics.specs.declared.domain_table.TableLayout.{TableLayout}
use Rattle.sdd_atomics.specs.DomainTable.{gamma_of, sizes_of}
use Rattle.sdd_atomics.specs.DomainSeat.{Sits, Told, IsSame, IsSameBut, Stepped, Taught, Moved, HousesMoved, WatchesOwned, RecallsOwned, HasPublished, shown_last}

-- which of two it is now a number tells, and what holds of both holds of it
which : (P : EpochView → Type 0) (a b w : EpochView) (x c : ℕ) → (x ≡ c → w ≡ a) → (x ≢ c → w ≡ b) → P a → P b → P w
which P a b w x c hit miss one two = dite (ℕ_discrete x c) (λ e. subst P (sym (hit e)) one) (λ ne. subst P (sym (miss ne)) two)

-- the same, where it had a place before if it has one in either
had : (v a b w : EpochView) (x c : ℕ) → (x ≡ c → w ≡ a) → (x ≢ c → w ≡ b) → (HasPlace a → HasPlace v) → (HasPlace b → HasPlace v) → HasPlace w → HasPlace v
had v a b w x c hit miss one two z = dite (ℕ_discrete x c) (λ e. one (subst HasPlace (hit e) z)) (λ ne. two (subst HasPlace (miss ne) z))

-- the slot whose value is moved
one_slot_moved : (w : View) (i j : ℕ) → Moves w i → Moves w j → i ≡ j
one_slot_moved w i j m m' = one_moved w j i m' m

-- who has all fractions in a slot sees by the last what it shows
last_shown : (γ i n o : ℕ) (value : Gv) (rest xs : CarriedFractions) → CarriesAll γ i n o (IsValue value) rest xs → shown_last xs ≡ value
last_shown γ i n o value rest [] row = absurd row
last_shown γ i n o value rest (x ∷ xs) row = row.1.1.1

-- so it knows what the step told that moved this value in
pub as_housed : (γ slot n o : ℕ) (a b : Bool) (value : Gv) (rest : CarriedFractions) (me me' : SeatState) → b ≡ a → Moves me.0 slot
    → CarriesAll γ slot n o (IsValue value) rest me.1 → HousesMoved a me me' → FillsSlot slot b value me me'
as_housed γ slot n o a b value rest me me' is moves row e =
    subst (λ (t : Bool × Gv). FillsSlot slot t.0 t.1 me me') (λ d. (sym is d, last_shown γ slot n o value rest me.1 row d)) (e slot moves)

first_owned : View → ℕ
first_owned w = elim w.slots.owns [ [] ↦ 0 | i ∷ is ↦ i ]

first_value : View → Gv
first_value w = elim w.fractions.owns [ [] ↦ gnil | r ∷ rs ↦ r.value ]

first_shared : View → Bool
first_shared w = elim w.fractions.owns [ [] ↦ false | r ∷ rs ↦ r.shared ]

-- an owner's seat tells of one slot, how many its owners may be and one value
module _ (i j : ℕ) (a b : Bool) (g h : Gv) (e : owner_of i a g ≡ owner_of j b h) where
  owner_slot : i ≡ j
  unfolding first_owned
  owner_slot = ap first_owned e

  owner_shared : a ≡ b
  unfolding first_shared
  owner_shared = ap first_shared e

  owner_value : g ≡ h
  unfolding first_value
  owner_value = ap first_value e

  -- so what a step tells of these it tells of those
  pub owner_told : (R : ℕ → Bool → Gv → Type 0) → R i a g → R j b h
  owner_told R = subst (λ (t : ℕ × Bool × Gv). R t.0 t.1 t.2) (λ d. (owner_slot d, owner_shared d, owner_value d))

-- a new seat
pub may_sit : (γ : ℕ) (sizes : Sizes) (slots i : ℕ)
    → Enters (DomainInvariant γ sizes) slots i (λ r w. Sits (step {S = ValueFraction} slots i 0 0 none) (founder sizes γ, []) r (w, []))
may_sit γ sizes slots i = enters γ sizes slots i (λ r w. Sits (step {S = ValueFraction} slots i 0 0 none) (founder sizes γ, []) r (w, [])) (λ r. refl)

module _ (γ : ℕ) (sizes : Sizes) (slots id : ℕ) (me : SeatState) where
  abbrev v : EpochView
  v = me.0.epoch

  abbrev pub May : ℕ → (ℕ → ℕ) → (ℕ → SeatState → Type 0) → Type 0
  May = Allows (DomainInvariant γ sizes) slots id me

  -- of the epoch's part, with which no place is taken or ended
  may_epoch : (R : EpochView → ℕ → EpochView → Type 0) (i : ℕ) (f : ℕ → ℕ) → IsEpochWord sizes i
      → ((x : ℕ) (w : EpochView) → R v x w → HasPlace w → HasPlace v) → ((x : ℕ) (w : EpochView) → R v x w → IsOpen v → w.place ≡ v.place)
      → ((x : ℕ) (w : EpochView) → R v x w → HasPlace v → HasPlace w)
      → ((s : State ValueFraction View) → DomainInvariant γ sizes s → get_elem? s.views id ≡ some me.0 → Spares sizes s.words i (f (get_or s.words i 0)))
      → Keeps sizes id v i f (R v) → May i f (Told (OnEpoch R) me)
  may_epoch R i f word had stays lives spares keeps = lift_epoch γ sizes slots id me i f R (Told (OnEpoch R) me) word stays lives
      (λ s _ e t _ z. inl (had (get_or s.words i 0) e t z)) spares
      (over.mild sizes id me.0 i f word R had keeps) (λ r w t. (refl, t))

  may_store_epoch : (R : EpochView → ℕ → EpochView → Type 0) (i c : ℕ) → IsEpochWord sizes i
      → ((w : EpochView) → R v c w → HasPlace w → HasPlace v) → ((w : EpochView) → R v c w → IsOpen v → w.place ≡ v.place)
      → ((w : EpochView) → R v c w → HasPlace v → HasPlace w)
      → ((s : State ValueFraction View) → DomainInvariant γ sizes s → get_elem? s.views id ≡ some me.0 → Spares sizes s.words i c)
      → Keeps sizes id v i (λ _. c) (λ _. R v c) → May i (λ _. c) (λ _. Told (OnEpoch R) me c)
  may_store_epoch R i c word had stays lives spares keeps = lift_epoch γ sizes slots id me i (λ _. c) (λ u _ w. R u c w) (λ _. Told (OnEpoch R) me c)
      word (λ _. stays) (λ _. lives) (λ _ _ e t _ z. inl (had e t z)) spares
      (over.mild sizes id me.0 i (λ _. c) word (λ u _ w. R u c w) (λ _. had) keeps) (λ r w t. (refl, t))

  -- while its only place was free a lone domain has no owner
  taken : (p : ℕ) → p < sizes.participants → (s : State ValueFraction View) → DomainInvariant γ sizes s → (e : EpochView)
      → Registers sizes (state_word sizes p) v (get_or s.words (state_word sizes p) 0) e → sizes.participants ≡ 1 → HasPlace e
      → HasPlace v ⊎ ((j : ℕ) → get_or s.words j 0 ≡ 0)
  taken p inside s h e t one placed = let x : ℕ = get_or s.words (state_word sizes p) 0 in dite (ℕ_discrete x 0)
      (λ free. let first : 0 ≡ p = omega arith in
      inr (h.kept.parts.epoch.unused one (ap (λ (q : ℕ). get_or s.words (state_word sizes q) 0) first ∙ free)))
      (λ ne. inl (subst HasPlace ((t p refl).1 ne) placed))

  -- the seat knows the sizes, so that what a step tells by these it tells by those
  by_sizes : (f : ℕ → ℕ) (i : ℕ) (told : Sizes → ℕ → SeatState → Type 0) → me.0.sizes ≡ sizes → May i f (told sizes) → May i f (told me.0.sizes)
  by_sizes f i told same = subst (λ (z : Sizes). May i f (told z)) (sym same)

  pub may_register : (i p : ℕ) → i ≡ state_word sizes p → p < sizes.participants → me.0.sizes ≡ sizes → v ≡ nobody sizes.participants → me.0.words ≡ blank sizes
      → May i (λ x. either (eqb x 0) 1 x) (Told (OnEpoch (Registers me.0.sizes i)) me)
  may_register i p is inside same none_yet clean = let closed = ap (λ (u : EpochView). u.state) none_yet in
      by_sizes (λ x. either (eqb x 0) 1 x) i (λ z. Told (OnEpoch (Registers z i)) me) same
      (subst (λ (i : ℕ). May i (λ x. either (eqb x 0) 1 x) (Told (OnEpoch (Registers sizes i)) me)) (sym is)
      (lift_epoch γ sizes slots id me (state_word sizes p) (λ x. either (eqb x 0) 1 x) (Registers sizes (state_word sizes p))
      (Told (OnEpoch (Registers sizes (state_word sizes p))) me)
      (inr (omega arith), omega arith) (λ r w t o. absurd (omega arith)) (λ r w t z. absurd (omega arith)) (taken p inside)
      (λ s h at q low e was. let x : ℕ = get_or s.words (state_word sizes p) 0 in
      exchanged x 0 1 (λ y. x ≤ y) (λ hit. omega arith) (λ miss. omega arith))
      (over.registers sizes id p me.0 none_yet clean inside) (λ r w t. (refl, t))))

  pub may_read : May global_word (λ x. x) (Told (OnEpoch Reads) me)
  may_read = may_epoch Reads global_word (λ x. x) (inl (omega arith), omega arith) (λ _ w t z. subst HasPlace t.0 z) (λ _ w t _. ap (λ
      (u : EpochView). u.place) t.0)
      (λ _ w t z. subst HasPlace (sym t.0) z) (λ s h at p low e was. omega arith) (epochs.reads sizes id v)

  pub may_write : (i c : ℕ) → IsClosed v → i ≡ count_word sizes v.place → v.place < sizes.participants → May i (λ _. c) (λ _. Told (OnEpoch Counts) me c)
  may_write i c shut is inside = subst (λ (i : ℕ). May i (λ _. c) (λ _. Told (OnEpoch Counts) me c)) (sym is)
      (may_store_epoch Counts (count_word sizes v.place) c (inr (omega arith), omega arith) (λ _ _ _. omega arith) (λ w t _. ap (λ (u : EpochView). u.place) t)
      (λ w t z. subst HasPlace (sym t) z) (λ s h at p low e was. absurd (omega arith)) (epochs.counts sizes id v c shut))

  pub may_publish : (i : ℕ) → IsClosed v → v.count ≡ v.known → i ≡ state_word sizes v.place → v.place < sizes.participants
      → May i (λ _. 2) (λ _. Told PublishesAll me 2)
  may_publish i shut low is inside = subst (λ (i : ℕ). May i (λ _. 2) (λ _. Told PublishesAll me 2)) (sym is)
      (lift_publish γ sizes slots id me (state_word sizes v.place) 2 (Told PublishesAll me) (
        inr (omega arith),
        omega arith,
      ) (omega arith) (over.publishes sizes id me.0 shut low inside)
      (λ w t. ((let live : 0 < w.state = (let e = ap (λ (u : EpochView). u.state) t.1 in omega arith) in live), ap (λ (u : EpochView). u.place) t.1))
      (own_place γ sizes id me.0 (omega arith) 2) (λ w t. (refl, t)))

  pub may_end : (i : ℕ) → IsClosed v → i ≡ state_word sizes v.place → v.place < sizes.participants → me.0.fractions.moves ≡ None → me.0.slots.over ≡ None
      → May i (λ _. 3) (λ _. Told EndsAll me 3)
  may_end i shut is inside rests within = subst (λ (i : ℕ). May i (λ _. 3) (λ _. Told EndsAll me 3)) (sym is)
      (lift_end γ sizes slots id me (Told EndsAll me 3) inside shut rests within
      (over.mild sizes id me.0 (state_word sizes v.place) (λ _. 3) (inr (omega arith), omega arith) (λ u _ w. Ends u 3 w)
      (λ _ w t z. let e = ap (λ (u : EpochView). u.state) t in omega arith)
      (epochs.ends sizes id v shut))
      (own_place γ sizes id me.0 (omega arith) 3) (refl, refl))

  pub may_bar : (i p state : ℕ) → i ≡ state_word sizes p → p < sizes.participants → me.0.sizes ≡ sizes → p ≡ me.0.places.ended → IsNobodys state
      → May i (λ x. either (eqb x state) 4 x) (Told (Bars me.0.sizes state i) me)
  may_bar i p state is inside same next nobodys = by_sizes (λ x. either (eqb x state) 4 x) i (λ z. Told (Bars z state i) me) same
      (subst (λ (i : ℕ). May i (λ x. either (eqb x state) 4 x) (Told (Bars sizes state i) me)) (sym is)
      (steps.bars γ sizes slots id me p state inside next nobodys))

  pub may_look_for_value : (i slot : ℕ) → i ≡ slot_word sizes slot → slot ≡ me.0.places.quiet → sizes.participants ≤ me.0.places.ended
      → May i (λ x. x) (Told LooksForValue me)
  may_look_for_value i slot is next all = subst (λ (i : ℕ). May i (λ x. x) (Told LooksForValue me)) (sym is)
      (steps.looks_for_value γ sizes slots id me slot next all)

  pub may_lock : IsOpen v → ¬ (Scans v) → May lock_word (λ x. either (eqb x 0) 1 x) (Told (OnEpoch Locks) me)
  may_lock is_open free = may_epoch Locks lock_word (λ x. either (eqb x 0) 1 x) (inl (omega arith), omega arith) (λ _ _ _ _. omega arith)
      (λ x w t _. which (λ (u : EpochView). u.place ≡ v.place) (scanning v) v w x 0 t.0 t.1 refl refl)
      (λ x w t z. which HasPlace (scanning v) v w x 0 t.0 t.1 z z) (λ s h at p low e was. absurd (omega arith))
      (epochs.locks sizes id v is_open free)

  pub may_look_at_lock : IsOpen v → ¬ (Scans v) → May lock_word (λ x. x) (Told (OnEpoch LooksAtLock) me)
  may_look_at_lock is_open free = may_epoch LooksAtLock lock_word (λ x. x) (inl (omega arith), omega arith) (λ _ _ _ _. omega arith)
      (λ x w t _. ap (λ (u : EpochView). u.place) t.0)
      (λ x w t z. subst HasPlace (sym t.0) z) (λ s h at p low e was. omega arith)
      (epochs.looks_at_lock sizes id v is_open free)

  pub may_look_at_state : (i q : ℕ) → i ≡ state_word sizes q → q < sizes.participants → me.0.sizes ≡ sizes → IsNext v q
      → May i (λ x. x) (Told (OnEpoch (LooksAtState me.0.sizes i)) me)
  may_look_at_state i q is inside same next = by_sizes (λ x. x) i (λ z. Told (OnEpoch (LooksAtState z i)) me) same
      (subst (λ (i : ℕ). May i (λ x. x) (Told (OnEpoch (LooksAtState sizes i)) me)) (sym is)
      (may_epoch (LooksAtState sizes (state_word sizes q)) (state_word sizes q) (λ x. x) (inr (omega arith), omega arith)
      (λ x w t. had v v (passed_by v q) w x 2 (t q refl).1 (t q refl).0 (λ z. z) (λ z. z))
      (λ x w t _. which (λ (u : EpochView). u.place ≡ v.place) v (passed_by v q) w x 2 (t q refl).1 (t q refl).0 refl refl)
      (λ x w t z. which HasPlace v (passed_by v q) w x 2 (t q refl).1 (t q refl).0 z z) (λ s h at p low e was. omega arith)
      (epochs.looks_at_state sizes id v q next)))

  pub may_look_at_count : (i q : ℕ) → i ≡ count_word sizes q → q < sizes.participants → me.0.sizes ≡ sizes → IsNext v q
      → May i (λ x. x) (Told (OnEpoch (LooksAtCount me.0.sizes i)) me)
  may_look_at_count i q is inside same next = by_sizes (λ x. x) i (λ z. Told (OnEpoch (LooksAtCount z i)) me) same
      (subst (λ (i : ℕ). May i (λ x. x) (Told (OnEpoch (LooksAtCount sizes i)) me)) (sym is)
      (may_epoch (LooksAtCount sizes (count_word sizes q)) (count_word sizes q) (λ x. x) (inr (omega arith), omega arith)
      (λ x w t. had v (passed_by v q) v w x v.count (t q refl).0 (t q refl).1 (λ z. z) (λ z. z))
      (λ x w t _. which (λ (u : EpochView). u.place ≡ v.place) (passed_by v q) v w x v.count (t q refl).0 (t q refl).1 refl refl)
      (λ x w t z. which HasPlace (passed_by v q) v w x v.count (t q refl).0 (t q refl).1 z z) (λ s h at p low e was. omega arith)
      (epochs.looks_at_count sizes id v q next)))

  pub may_advance : (c d : ℕ) → c ≡ v.count → d ≡ v.count + 1 → IsNext v sizes.participants
      → May global_word (λ x. either (eqb x c) d x) (Told (OnEpoch Advances) me)
  may_advance c d is is' next = subst (λ (z : ℕ × ℕ). May global_word (λ x. either (eqb x z.0) z.1 x) (Told (OnEpoch Advances) me))
      (λ i. (sym is i, sym is' i))
      (may_epoch Advances global_word (λ x. either (eqb x v.count) (v.count + 1) x) (inl (omega arith), omega arith)
      (λ x w t. had v (knowing v (v.count + 1)) v w x v.count t.0 t.1 (λ z. z) (λ z. z))
      (λ x w t _. which (λ (u : EpochView). u.place ≡ v.place) (knowing v (v.count + 1)) v w x v.count t.0 t.1 refl refl)
      (λ x w t z. which HasPlace (knowing v (v.count + 1)) v w x v.count t.0 t.1 z z) (λ s h at p low e was. absurd (omega arith))
      (epochs.advances sizes id v next))

  pub may_unlock : Scans v → May lock_word (λ _. 0) (λ _. Told (OnEpoch Unlocks) me 0)
  may_unlock mine = may_store_epoch Unlocks lock_word 0 (inl (omega arith), omega arith) (λ w t z. subst HasPlace t z) (λ w t _. ap (λ
      (u : EpochView). u.place) t)
      (λ w t z. subst HasPlace (sym t) z) (λ s h at p low e was. absurd (omega arith)) (epochs.unlocks sizes id v mine)

  -- by a participant, which knows the table's sizes and its ghost map
  module _ (same : me.0.sizes ≡ sizes) (gamma : me.0.fractions.gamma ≡ γ) (live : HasPlace v) where
    abbrev Own : ℕ → (ℕ → ℕ) → (ℕ → SeatState → Type 0) → Type 0
    Own = Allows (DomainInvariant me.0.fractions.gamma me.0.sizes) slots id me

    as_known : (i j : ℕ) (f : ℕ → ℕ) (told : ℕ → ℕ → SeatState → Type 0) → i ≡ j → Own j f (told j) → May i f (told i)
    as_known i j f told is = subst (λ (t : ℕ × Sizes × ℕ). Allows (DomainInvariant t.0 t.1) slots id me t.2 f (told t.2)) (λ d. (gamma d, same d, sym is d))

    at_place : (p : ℕ) → state_word sizes p ≡ state_word me.0.sizes p
    at_place p = ap (λ (z : Sizes). state_word z p) (sym same)

    near_place : v.place < sizes.participants → v.place < me.0.sizes.participants
    near_place near = let e = ap (λ (z : Sizes). z.participants) same in omega arith

    pub may_close : (i : ℕ) → i ≡ state_word sizes v.place → IsOpen v → ¬ (Scans v) → v.place < sizes.participants → me.0.fractions.moves ≡ None
        → CarriesSeen γ sizes.participants v.place me.0.fractions.sees me.1 → May i (λ _. 1) (λ _. ClosesHome me 1)
    may_close i is is_open free near rests carries = as_known i (state_word me.0.sizes v.place) (λ _. 1) (λ _ _. ClosesHome me 1) (is ∙ at_place v.place)
        (steps.closes slots id me live is_open free (near_place near) rests
        (subst (λ (t : ℕ × Sizes). CarriesSeen t.0 t.1.participants v.place me.0.fractions.sees me.1) (λ d. (sym gamma d, sym same d)) carries))

    pub may_look_for_guard : (i place : ℕ) → i ≡ state_word sizes place → place < sizes.participants → place ≡ me.0.slots.looked
        → May i (λ x. x) (Told (LooksForGuard i) me)
    may_look_for_guard i place is low next = as_known i (state_word me.0.sizes place) (λ x. x) (λ j. Told (LooksForGuard j) me) (is ∙ at_place place)
        (steps.looks_for_guard slots id me live place (let e = ap (λ (z : Sizes). z.participants) same in omega arith) next)

    row_as_known : (slot o : ℕ) (Is : Gv → Type 0) (rest : CarriedFractions) → CarriesAll γ slot sizes.participants o Is rest me.1
        → CarriesAll me.0.fractions.gamma slot me.0.sizes.participants o Is rest me.1
    row_as_known slot o Is rest = subst (λ (t : ℕ × Sizes). CarriesAll t.0 slot t.1.participants o Is rest me.1) (λ d. (sym gamma d, sym same d))

    -- with the bank
    module _ (bd : ℕ) (slot : ℕ) (inside : slot < sizes.slots) where
      abbrev Deals : (List FractionContent → FractionContent → List FractionContent → Type 0) → (FractionContent → Type 0) →
          (FractionContent → SeatState → Type 0) → Type 0
      Deals Goes = AllowsDeal (DomainInvariant γ sizes) Goes IsBank banked slots id me bd

      deal_known : (Goes : List FractionContent → FractionContent → List FractionContent → Type 0) (Offered : FractionContent → Type 0)
          (Then : FractionContent → SeatState → Type 0)
          → AllowsDeal (DomainInvariant me.0.fractions.gamma me.0.sizes) Goes IsBank banked slots id me bd Offered Then → Deals Goes Offered Then
      deal_known Goes Offered Then =
          subst (λ (t : ℕ × Sizes). AllowsDeal (DomainInvariant t.0 t.1) Goes IsBank banked slots id me bd Offered Then) (λ d. (gamma d, same d))

      known_slot : slot < me.0.sizes.slots
      known_slot = let e = ap (λ (z : Sizes). z.slots) same in omega arith

      abbrev n : ℕ
      n = sizes.participants

      pub may_house : Moves me.0 slot → Owns me.0 slot → (shared : Bool)
          → (¬ (Holds me.0 slot) → counts_owners (written me.0 slot) ≡ one_where shared) → (value : Gv) (rest : CarriedFractions)
          → CarriesAll γ slot n (spare n) (IsValue value) rest me.1 → (l : FractionContent) → l ≡ content γ slot l.lifetime value (spare n - 1)
          → Deals Comes (λ k. k ≡ l) (λ _. HousesMoved shared me)
      may_house moves mine shared kind value rest row l is = deal_known Comes (λ k. k ≡ l) (λ _. HousesMoved shared me) (λ s b h long at there ours ne.
          let known = subst (λ (z : Sizes). CarriesAll me.0.fractions.gamma slot me.0.sizes.participants (spare z.participants) (IsValue value) rest me.1)
          (sym same)
          (row_as_known slot (spare n) (IsValue value) rest row) in
          let content_known = subst (λ (t : ℕ × Sizes). l ≡ content t.0 slot l.lifetime value (spare t.1.participants - 1)) (λ d. (
            sym gamma d,
            sym same d,
          )) is in
          let a = steps.houses slots id me live slot known_slot bd moves mine shared kind value rest known l content_known s b h long at there ours ne in
          record {
            view = a.view;
            bank = a.bank;
            content = a.content;
            act = a.act;
            valid = a.valid;
            holds = a.holds;
            ours = a.ours;
            goes = a.goes;
            offered = a.offered;
            then = λ other m. subst (λ (t : ℕ × Gv). FillsSlot t.0 shared t.1 me (a.view, carried_after me.1 a.act))
                (λ d. (one_slot_moved me.0 slot other moves m d, sym (last_shown γ slot n (spare n) value rest me.1 row) d)) a.then;
          })

      pub may_enter_unit : (others : List ℕ) → me.0.slots.drawn ≡ slot ∷ others → (l : FractionContent) → l ≡ content γ slot l.lifetime l.shown 1
          → IsIn me.0.fractions.owns slot l.shown
          → Deals Comes (λ k. k ≡ l) (λ _. EntersUnit me)
      may_enter_unit others drawn l is told = deal_known Comes (λ k. k ≡ l) (λ _. EntersUnit me)
          (steps.enters_unit slots id me live slot known_slot bd others drawn l
          (subst (λ (b : ℕ). l ≡ content b slot l.lifetime l.shown 1) (sym gamma) is) told)

      pub may_take_out : me.0.fractions.moves ≡ None → IsDue me.0 slot → Deals Leaves (λ _. Unit {0}) (λ l me'. TakesOut slot me me' × IsDeposit slot me l)
      may_take_out rests due = deal_known Leaves (λ _. Unit {0}) (λ l me'. TakesOut slot me me' × IsDeposit slot me l)
          (steps.takes_out slots id me live slot known_slot bd rests due)

      pub may_take_held : me.0.fractions.moves ≡ None → me.0.slots.owns ≡ slot ∷ [] → me.0.slots.drawn ≡ [] → Holds me.0 slot → n ≤ me.0.slots.looked
          → Deals Leaves (λ _. Unit {0}) (λ l me'. TakesHeld slot me me' × IsDeposit slot me l)
      may_take_held rests mine drawn held all = deal_known Leaves (λ _. Unit {0}) (λ l me'. TakesHeld slot me me' × IsDeposit slot me l)
          (steps.takes_held slots id me live slot known_slot bd rests mine drawn held
          (let e = ap (λ (z : Sizes). z.participants) same in omega arith))

    -- beside an owner's seat
    beside_known : (jd : ℕ) (w : View) (told : SeatState → Type 0) → AllowsBeside (DomainInvariant me.0.fractions.gamma me.0.sizes) slots id me jd w told
        → AllowsBeside (DomainInvariant γ sizes) slots id me jd w told
    beside_known jd w told = subst (λ (t : ℕ × Sizes). AllowsBeside (DomainInvariant t.0 t.1) slots id me jd w told) (λ d. (gamma d, same d))

    pub may_watch : (slot : ℕ) → slot < sizes.slots → IsOpen v → v.place < sizes.participants → me.0.fractions.moves ≡ None
        → (jd : ℕ) (shared : Bool) (value : Gv)
        → AllowsBeside (DomainInvariant γ sizes) slots id me jd (owner_of slot shared value) (WatchesOwned (owner_of slot shared value) me)
    may_watch slot inside is_open near rests jd shared value =
        let within : slot < me.0.sizes.slots = (let e = ap (λ (z : Sizes). z.slots) same in omega arith) in
        beside_known jd (owner_of slot shared value) (WatchesOwned (owner_of slot shared value) me) (λ s h long at there.
        let one = is_same slot slot refl in
        let a = steps.watches slots id me live slot within is_open (near_place near) rests jd (owner_of slot shared value) shared value (omega arith)
        (λ held. cc) refl s h long at there in (
          a.0,
          a.1,
          a.2,
          a.3,
          (λ other b g e. owner_told slot other shared b value g e (λ k c x. SeesOwned k c x me (a.0, carried_after me.1 a.1)) a.4),
        ))

    pub may_recall : (slot jd : ℕ) (shared : Bool) (value : Gv)
        → AllowsBeside (DomainInvariant γ sizes) slots id me jd (owner_of slot shared value) (RecallsOwned (owner_of slot shared value) me)
    may_recall slot jd shared value = beside_known jd (owner_of slot shared value) (RecallsOwned (owner_of slot shared value) me) (λ s h long at there.
        let one = is_same slot slot refl in
        let a = steps.recalls slots id me live jd (owner_of slot shared value) slot shared value (omega arith) (λ held. cc) refl s h long at there in (
          a.0,
          a.1,
          a.2,
          a.3,
          (λ other b g e. owner_told slot other shared b value g e (λ k c x. LearnsOwned k c x me (a.0, carried_after me.1 a.1)) a.4),
        ))

    -- of a slot
    module _ (i slot : ℕ) (is : i ≡ slot_word sizes slot) (inside : slot < sizes.slots) where
      -- where the slot's word is, as it knows it
      there : i ≡ slot_word me.0.sizes slot
      there = is ∙ ap (λ (z : Sizes). slot_word z slot) (sym same)

      pub within : slot < me.0.sizes.slots
      within = let e = ap (λ (z : Sizes). z.slots) same in omega arith

      pub at_slot : (f : ℕ → ℕ) (told : ℕ → ℕ → SeatState → Type 0) → Own (slot_word me.0.sizes slot) f (told (slot_word me.0.sizes slot)) → May i f (told i)
      at_slot f told = as_known i (slot_word me.0.sizes slot) f told there

      row_known : (Is : _ → Type 0) (rest : CarriedFractions) → CarriesAll γ slot sizes.participants 0 Is rest me.1
          → CarriesAll me.0.fractions.gamma slot me.0.sizes.participants 0 Is rest me.1
      row_known Is rest = row_as_known slot 0 Is rest

      pub all_looked : sizes.participants ≤ me.0.slots.looked → me.0.sizes.participants ≤ me.0.slots.looked
      all_looked all = let e = ap (λ (z : Sizes). z.participants) same in omega arith

      pub may_claim : (y : ℕ) → alive y ≡ 1 → me.0.fractions.moves ≡ None → May i (λ x. either (eqb x (free_word 0)) y x)
          (OfSlot (λ slot. ClaimsAll slot (free_word 0) y) i me)
      may_claim y one rests = at_slot (λ x. either (eqb x (free_word 0)) y x) (λ j. OfSlot (λ slot. ClaimsAll slot (free_word 0) y) j me)
          (steps.claims slots id me live slot within y one rests)

      -- of an item that goes out as raw, or is out
      pub may_turn_raw : me.0.slots.owns ≡ slot ∷ [] → ¬ (Holds me.0 slot) → me.0.slots.drawn ≡ [] → me.0.fractions.moves ≡ None → (value : Gv)
          → HasRecord me.0.fractions.owns (record { slot = slot; shared = false; value = value })
          → May i (λ _. raw_word 0) (λ _. OfSlot TurnsRawOne i me (raw_word 0))
      may_turn_raw mine free drawn rests value told = at_slot (λ _. raw_word 0) (λ j _. OfSlot TurnsRawOne j me (raw_word 0))
          (raw.turns_raw slots id me live slot within mine free drawn rests value told)

      pub may_regain : me.0.fractions.moves ≡ None → May i (λ x. either (eqb x (raw_word 0)) (owned_word 0) x)
          (OfSlot (λ slot. RegainsOne slot (raw_word 0) (owned_word 0)) i me)
      may_regain rests = at_slot (λ x. either (eqb x (raw_word 0)) (owned_word 0) x) (λ j. OfSlot (λ slot. RegainsOne slot (raw_word 0) (owned_word 0)) j me)
          (raw.regains slots id me live slot within rests)

      -- one owner more of an item whose value nobody moves
      pub may_add_seen : me.0.fractions.moves ≡ None → me.0.slots.over ≡ None → IsStill slot me.0 → (word : ℕ) → counts_owners word ≡ 1 → 0 < alive word
          → alive word < most_owners → May i (λ x. either (eqb x word) (word + 1) x) (OfSlot (AddsSeen word) i me)
      may_add_seen rests free still word several left few = at_slot (λ x. either (eqb x word) (word + 1) x) (λ j. OfSlot (AddsSeen word) j me)
          (upgrading.adds_seen slots id me live rests slot within free still word several left few)

      pub may_look_for_raw : IsOpen v → v.place < sizes.participants → me.0.fractions.moves ≡ None
          → May i (λ x. x) (OfSlot (λ slot. SeesRawOne slot (raw_word 0)) i me)
      may_look_for_raw is_open near rests = at_slot (λ x. x) (λ j. OfSlot (λ slot. SeesRawOne slot (raw_word 0)) j me)
          (raw.sees_raw slots id me live slot within is_open (near_place near) rests)

      pub may_look : May i (λ x. x) (Told (AtSlot LooksAtSlot i) me)
      may_look = at_slot (λ x. x) (λ j. Told (AtSlot LooksAtSlot j) me) (steps.looks slots id me live slot within)

      pub may_retire : me.0.slots.owns ≡ slot ∷ [] → ¬ (Holds me.0 slot) → me.0.slots.drawn ≡ [] → me.0.fractions.moves ≡ None → (value : Gv)
          → HasRecord me.0.fractions.owns (record { slot = slot; shared = false; value = value }) → May i (λ _. waiting_word 0)
          (λ _. OfSlot RetiresOne i me (waiting_word 0))
      may_retire mine free drawn rests value told = at_slot (λ _. waiting_word 0) (λ j _. OfSlot RetiresOne j me (waiting_word 0))
          (steps.retires slots id me live slot within mine free drawn rests value told)

      pub may_let_one_go : me.0.slots.owns ≡ slot ∷ [] → ¬ (Holds me.0 slot) → me.0.slots.drawn ≡ [] → me.0.fractions.moves ≡ None → (value : Gv)
          → HasRecord me.0.fractions.owns (record { slot = slot; shared = true; value = value }) → May i less_one (OfSlot ReleasesOne i me)
      may_let_one_go mine free drawn rests value told = at_slot less_one (λ j. OfSlot ReleasesOne j me)
          (steps.releases slots id me live slot within mine free drawn rests value told)

      pub may_leave : (word : ℕ) → 1 < alive word → me.0.slots.owns ≡ slot ∷ [] → ¬ (Holds me.0 slot) → me.0.slots.drawn ≡ [] → me.0.fractions.moves ≡ None
          → (value : Gv) → HasRecord me.0.fractions.owns (record { slot = slot; shared = true; value = value })
          → May i (λ x. either (eqb x word) (word - 1) x) (OfSlot (LeavesOne word) i me)
      may_leave word more mine free drawn rests value told = at_slot (λ x. either (eqb x word) (word - 1) x) (λ j. OfSlot (LeavesOne word) j me)
          (steps.leaves slots id me live slot within mine free drawn rests value told word more)

      pub may_give_back : Moves me.0 slot → IsDue me.0 slot → (rest : CarriedFractions) → CarriesAll γ slot sizes.participants 0 IsNoValueCode rest me.1
          → May i (λ _. free_word 0) (λ _. OfSlot GivesAll i me (free_word 0))
      may_give_back moves due rest row = at_slot (λ _. free_word 0) (λ j _. OfSlot GivesAll j me (free_word 0))
          (steps.gives_all slots id me live slot within moves due rest (row_known IsNoValueCode rest row))

      pub may_hold : (value : Gv) → HasRecord me.0.fractions.owns (record { slot = slot; shared = false; value = value }) → me.0.slots.holds ≡ None
          → May i (λ x. x) (Told (AtSlot TakesHold i) me)
      may_hold value told free = at_slot (λ x. x) (λ j. Told (AtSlot TakesHold j) me) (steps.takes_hold slots id me live slot within value told free)

      pub may_let_go : Holds me.0 slot → me.0.fractions.moves ≡ None → ((r : ShownValue) → HasRecord me.0.fractions.owns r → r.slot ≡ slot → r.shared ≡ false)
          → May i (λ x. x) (Told (AtSlot LetsGo i) me)
      may_let_go held rests single = at_slot (λ x. x) (λ j. Told (AtSlot LetsGo j) me) (steps.lets_go slots id me live slot within held rests single)

      pub may_try_hold : (value : Gv) → HasRecord me.0.fractions.owns (record { slot = slot; shared = true; value = value }) → me.0.slots.holds ≡ None
          → me.0.fractions.moves ≡ None → May i (λ x. either (eqb x (shared_word 1)) held_word x) (Told (AtSlot TriesHold i) me)
      may_try_hold value told free rests = at_slot (λ x. either (eqb x (shared_word 1)) held_word x) (λ j. Told (AtSlot TriesHold j) me)
          (steps.tries_hold slots id me live slot within value told free rests)

      pub may_share_again : Holds me.0 slot → me.0.fractions.moves ≡ None → ((r : ShownValue) → HasRecord me.0.fractions.owns r → r.slot ≡ slot
          → r.shared ≡ true)
          → May i (λ _. shared_word 1) (λ _. Told (AtSlot SharesAgain i) me (shared_word 1))
      may_share_again held rests several = at_slot (λ _. shared_word 1) (λ j _. Told (AtSlot SharesAgain j) me (shared_word 1))
          (steps.shares_again slots id me live slot within (shared_word 1) one_left.0 held rests
          (λ r told is. one_left.2 ∙ sym (ap one_where (several r told is))))

      pub may_discard : Moves me.0 slot → Holds me.0 slot → sizes.participants ≤ me.0.slots.looked → (rest : CarriedFractions)
          → CarriesAll γ slot sizes.participants 0 IsNoValueCode rest me.1 → May i (λ _. free_word 0) (λ _. OfSlot DiscardsAll i me (free_word 0))
      may_discard moves held all rest row = at_slot (λ _. free_word 0) (λ j _. OfSlot DiscardsAll j me (free_word 0))
          (steps.discards slots id me live slot within moves held (all_looked all) rest (row_known IsNoValueCode rest row))

-- the bank is of the table's layout
pub as_banked : (b : DomainTable) (Goes : List FractionContent → FractionContent → List FractionContent → Type 0) (slots id : ℕ) (me : SeatState) (bd : ℕ)
    (Offered : FractionContent → Type 0)
    (Then : FractionContent → SeatState → Type 0) → AllowsDeal (DomainInvariant (gamma_of b) (sizes_of b)) Goes IsBank banked slots id me bd Offered Then
    → AllowsDeal (DomainInvariant b.bank.key.values_name.gamma b.bank.key.sizes) Goes IsBank banked slots id me bd Offered Then
as_banked b Goes slots id me bd Offered Then =
    subst (λ (k : TableLayout). AllowsDeal (DomainInvariant k.values_name.gamma k.sizes) Goes IsBank banked slots id me bd Offered Then) (sym b.banked.1)

-- the seat after a step that takes or gives fractions
pub moved_at : (s t : Seat ValueFraction View) (r : ℕ) → t.table_id ≡ s.table_id → t.id ≡ s.id → (R : ℕ → SeatState → ℕ → SeatState → Type 0) (i slot : ℕ)
    (sizes : Sizes)
    → i ≡ slot_word sizes slot → s.me.0.sizes ≡ sizes → OfSlot R i s.me r t.me → Moved (R slot) s r t
moved_at s t r home number R i slot sizes is same e = (home, number, e slot (is ∙ ap (λ (z : Sizes). slot_word z slot) (sym same)))

module _ {S : Type 0} (s t : Seat S View) (r : ℕ) (home : t.table_id ≡ s.table_id) (number : t.id ≡ s.id) where
  -- the seat after a step, from what the step tells of it
  pub taught : (R : View → ℕ → View → Type 0) → Told R s.me r t.me → Taught R s r t
  taught R e = (home, number, e.0, e.1)

  -- after one on a slot's word
  pub taught_at : (R : ℕ → View → ℕ → View → Type 0) (i slot : ℕ) (sizes : Sizes) → i ≡ slot_word sizes slot → s.me.0.sizes ≡ sizes
      → Told (AtSlot R i) s.me r t.me → Taught (R slot) s r t
  taught_at R i slot sizes is same e = (home, number, e.0, e.1 slot (is ∙ ap (λ (z : Sizes). slot_word z slot) (sym same)))

  -- after a step of the epoch's part
  pub told : (R : EpochView → ℕ → EpochView → Type 0) → Told (OnEpoch R) s.me r t.me → Stepped R s r t
  told R e = let w : EpochView = e.1.0 in let is : t.me.0 ≡ record s.me.0 { epoch = w } = e.1.1 in (
    (
      (home, number, e.0, ap (λ (v : View). v.sizes) is, ap (λ (v : View). v.fractions) is, ap (λ (v : View). v.pledges) is, ap (λ (v : View). v.cells) is),
      ap (λ (v : View). v.places) is,
      ap (λ (v : View). v.slots)
          is,
      ap (λ (v : View). v.words) is,
    ),
    subst (λ (u : EpochView). R s.me.0.epoch r u) (sym (ap (λ (v : View). v.epoch) is)) e.1.2,
  )

  pub published : Told PublishesAll s.me 2 t.me → HasPublished s t
  published e = let w : EpochView = e.1.0 in let is : t.me.0 ≡ record s.me.0 { epoch = w; slots = changed s.me.0 } = e.1.1 in (
    (home, number, e.0, ap (λ (v : View). v.sizes) is, ap (λ (v : View). v.fractions) is, ap (λ (v : View). v.pledges) is, ap (λ (v : View). v.cells) is),
    ap (λ (v : View). v.places) is,
    ap (λ (v : View). v.slots) is,
    ap (λ (v : View). v.words) is,
    subst (λ (u : EpochView). Publishes s.me.0.epoch 2 u) (sym (ap (λ (v : View). v.epoch) is)) e.1.2,
  )

pub same_on : {S : Type 0} (s t u : Seat S View) → IsSame s t → IsSame t u → IsSame s u
same_on s t u a b = (b.0 ∙ a.0, b.1 ∙ a.1, b.2 ∙ a.2, b.3 ∙ a.3, b.4 ∙ a.4, b.5 ∙ a.5, b.6 ∙ a.6)

pub same_but_on : {S : Type 0} (s t u : Seat S View) → IsSameBut s t → IsSameBut t u → IsSameBut s u
same_but_on s t u a b = (same_on s t u a.0 b.0, b.1 ∙ a.1, b.2 ∙ a.2, b.3 ∙ a.3)
