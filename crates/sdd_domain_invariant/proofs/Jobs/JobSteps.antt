-- The steps on places of the table of jobs: they have no values, so that no fractions are taken or given, and what is known of slots stays
use Rattle.std.proofs.Common.{◌≡◌, ◌≢◌, ◌⊎◌, inl, inr, ℕ, ◌<◌, ◌≤◌, eqb, List, length, length-set, get_or, get_or-set_other, get_or-set_same, set, sym, refl, ap, ◌∙◌, subst, ⊎_elim, arith}
use Rattle.std.specs.Prelude.{None}
use mathlib.Core.Option.{some}
use mathlib.Core.Logic.{dite}
use native.Mathlib.Decide.{ℕ_discrete}
use lib.ListN.{get_elem?}
use lib.Seq.{set-get_or}
use prog.Atomic.{either}
use Rattle.atomic_table.specs.Table.{State, keeps, Allows}
use Rattle.atomic_table.proofs.Lists.{exchanged}
use Rattle.sdd_shared_values.specs.declared.value_fraction.ValueFraction.{ValueFraction}
use Rattle.sdd_rights.specs.declared.views.EpochView.{EpochView}
use Rattle.sdd_rights.specs.declared.views.WaitingItem.{WaitingItem}
use Rattle.sdd_rights.specs.declared.views.View.{View}
use Rattle.sdd_rights.specs.declared.views.Sizes.{Sizes}
use Rattle.sdd_domain_invariant.specs.Words.{slot_word, most_waiting}
use Rattle.sdd_domain_invariant.specs.Codes.{codes, alive, counted, free_word, waiting_word}
use Rattle.sdd_domain_invariant.proofs.Codes.{sound, free_is, waiting_is}
use Rattle.sdd_domain_invariant.proofs.Slots.SlotWords.{owner_in}
use Rattle.sdd_domain_invariant.specs.Epoch.{HasPlace}
use Rattle.sdd_domain_invariant.specs.Slots.{slot_at, Owns, items_at, waits_in}
use Rattle.sdd_domain_invariant.specs.Slots.SlotSteps.{behind, deferred, retired_now, given_back, AtSlot, LooksAtSlot, Defers, GivesBack, IsDue}
use Rattle.sdd_domain_invariant.specs.Sums.{total}
use Rattle.sdd_domain_invariant.proofs.Sums.{total_snoc, is_other}
use Rattle.sdd_domain_invariant.proofs.Slots.SlotSteps as steps
use Rattle.sdd_domain_invariant.proofs.Slots.OwnerSteps.{item_kept}
use Rattle.sdd_domain_invariant.specs.Fractions.FractionsAtHome.{full_at}
use Rattle.sdd_domain_invariant.specs.DomainInvariant.{DomainInvariant}
use Rattle.sdd_domain_invariant.specs.Fractions.FractionSteps.{SeatState, DefersJob, GivesPlace, OfSlot}
use Rattle.sdd_domain_invariant.specs.Slots.Records.{IsTelling}
use Rattle.sdd_domain_invariant.proofs.Fractions.FractionsInvariant.{none_out, only_seen, of_another}
use Rattle.sdd_domain_invariant.proofs.Fractions.FractionsInvariant as part
use Rattle.sdd_domain_invariant.proofs.Banks as banks
use Rattle.sdd_domain_invariant.proofs.Counts.{ended_spared, as_full, uncounted}
use Rattle.sdd_domain_invariant.proofs.Slots.Records as records
use Rattle.sdd_domain_invariant.proofs.Slots.FilledInvariant.{filled_same}
use Rattle.sdd_domain_invariant.proofs.Fractions.LastFractions.{lasts_fewer, stored_past, stored_same}
use Rattle.sdd_domain_invariant.specs.Slots.KindsInvariant.{KnowsKinds}
use Rattle.sdd_domain_invariant.proofs.Cells.{cells_slot, words_same}
use Rattle.sdd_domain_invariant.proofs.Slots.KindSteps as kind_steps
use Rattle.sdd_domain_invariant.proofs.Slots.KindSteps.{IsSpared, IsWithin, same_within, same_post}
use Rattle.sdd_domain_invariant.proofs.Slots.RecordSteps.{none_moved, none_owns}
use Rattle.sdd_domain_invariant.proofs.TableSteps.{Keeps, Follows, keeps_ended, lift_homes, lift_calm, IsCalm}

module _ (slots id : ℕ) (me : SeatState) (live : HasPlace me.0.epoch) (job : ℕ) (past : me.0.sizes.slots ≤ job) (inside : job < most_waiting me.0.sizes)
    (rests : me.0.fractions.moves ≡ None) where
  abbrev v : View
  v = me.0

  abbrev γ : ℕ
  γ = me.0.fractions.gamma

  abbrev sizes : Sizes
  sizes = me.0.sizes

  abbrev n : ℕ
  n = me.0.sizes.participants

  abbrev i : ℕ
  i = slot_word me.0.sizes job

  abbrev pub May : (ℕ → ℕ) → (ℕ → SeatState → Type 0) → Type 0
  May = Allows (DomainInvariant γ sizes) slots id me i

  -- the word tells which place it is
  at_once : (R : ℕ → SeatState → ℕ → SeatState → Type 0) (x : ℕ) (me' : SeatState) → R job me x me' → OfSlot R i me x me'
  at_once R x me' r other is = let same : job ≡ other = omega arith in subst (λ (k : ℕ). R k me x me') same r

  -- a word by which nobody owns it is within the bound
  unowned_within : (s : State ValueFraction View) → DomainInvariant γ sizes s → (y : ℕ) → alive y ≡ 0
      → IsWithin (slot_at sizes s.words job) (slot_at sizes (set s.words i y) job)
  unowned_within s h y none _ = let long = h.kept.parts.slots.long in
      let a = ap alive (get_or-set_same s.words i y 0 (omega arith)) in inl (omega arith)

  -- it is none of a participant's place
  spares : (f : ℕ → ℕ) (then : ℕ → View → Type 0) → ((r : ℕ) (w : View) → then r w → w.places ≡ v.places) → Keeps γ sizes slots id me i f then
  spares f then places = keeps_ended γ sizes slots id me i f then places (λ s h at p low e was. absurd (omega arith)) (inl live)

  -- another list of what waits, where the same items do, and only jobs come or go; what is known of the epoch may change, and the words
  abbrev beside : EpochView → List WaitingItem → List ℕ → View
  beside e xs known = record v { epoch = e; slots = record v.slots { waits = xs }; words = known }

  module _ (e : EpochView) (xs : List WaitingItem) (known : List ℕ) (long : length known ≡ length v.words) (still : HasPlace e)
      (place : e.place ≡ v.epoch.place)
      (same : (k : ℕ) → k < sizes.slots → total (waits_in k) xs ≡ items_at k v) where
    abbrev w : View
    w = beside e xs known

    beside_tells : IsTelling sizes.slots v → IsTelling sizes.slots w
    beside_tells t = record {
      owns = t.owns;
      owned = t.owned;
      sees = t.sees;
      waits = λ k g h. let o = t.waits k g h in let q = same k (t.inside k g (inr (inr h))) in (let l = o.0 in omega arith, o.1);
      waiting = λ k low o. t.waiting k low (let q = same k low in omega arith);
      inside = t.inside;
    }

    -- the other words stay
    elsewhere : (ws : List ℕ) (y k : ℕ) → k ≢ job → slot_at sizes (set ws i y) k ≡ slot_at sizes ws k
    elsewhere ws y k ne = get_or-set_other ws i (slot_word sizes k) y 0 (λ e. ne (omega arith))

    -- and what it knows of owners
    knows : (s : State ValueFraction View) → DomainInvariant γ sizes s → get_elem? s.views id ≡ some v → (y : ℕ) → KnowsKinds sizes (set s.words i y) w
    knows s h at y = let k = h.kinds.each id v at in record {
      long = long ∙ k.long;
      sole = λ j m. absurd (none_moved w j rests m);
      claimed = λ j m. absurd (none_moved w j rests m);
      told = λ r has free. let low = (h.records.each id v at).inside r.slot r.value (inl (has.0, r, has.1, refl, refl)) in
          ap counted (elsewhere s.words y r.slot (λ e. omega arith)) ∙ k.told r has free;
    }

    -- all parts beside the words stay, where nobody has an owner of the place, or its word stays
    follows : (told : ℕ → SeatState → Type 0) (s : State ValueFraction View) → DomainInvariant γ sizes s → get_elem? s.views id ≡ some v → (y : ℕ)
        → ((j : ℕ) (u : View) → get_elem? s.views j ≡ some u → (slot_at sizes (set s.words i y) job ≡ slot_at sizes s.words job) ⊎ ¬ (Owns u job))
        → IsWithin (slot_at sizes s.words job) (slot_at sizes (set s.words i y) job)
        → told (get_or s.words i 0) (w, me.1) → Follows γ sizes id i me told s y w
    follows told s h at y unowned within tells = let full : (j : ℕ) → j < sizes.slots → full_at sizes (set s.words i y) j ≡ full_at sizes s.words j
        = λ j low. of_another sizes s.words job y j (λ e. omega arith) in let r = h.records in record {
          fractions = v.fractions;
          act = keeps;
          valid = tt;
          homes = part.calm γ sizes s.words s.views s.homes h.homes id v at (set s.words i y) w
              (λ j p out. let o = only_seen v rests j p out in inr (o.0, place ∙ o.1)) full (none_out w rests);
          records = records.no_more sizes s.views s.homes r id v at w (λ is. r.deposits id v at is) s.homes (beside_tells (r.each id v at))
              (records.mine sizes s.views s.homes r id v at) (λ j p z _ _ lies. inl lies) (λ j m. m) (λ j a. a);
          counts = uncounted sizes s.words s.views h.counts id v at (set s.words i y) w refl (λ _. still)
              (as_full sizes s.words (set s.words i y) full)
              (ended_spared sizes s.words i y (λ p low e was. absurd (omega arith)) sizes.participants (omega arith));
          filled = filled_same sizes s.views h.filled id v at w refl refl refl (λ _. live);
          bank = banks.calm γ sizes s.words s.views h.bank id v at (set s.words i y) w
              record { bank = refl; founds = refl; gamma = refl; banked = refl; drawn = refl } refl (h.bank.low id v at) full;
          lasts = lasts_fewer sizes s.words s.views s.homes h.lasts id v at (set s.words i y) w s.homes (λ _ _ _ _ l. l) (λ is. (is, refl)) refl
              (λ _ _. inl live) (stored_past sizes s.words job y past);
          kinds = kind_steps.steps sizes s.words s.views h.kinds r.each id v at (set s.words i y) w (knows s h at y)
              (λ j u _ e k. dite (ℕ_discrete k job)
              (λ e'. subst (IsSpared sizes s.words (set s.words i y) u) (sym e') (⊎_elim
              (λ (a : slot_at sizes (set s.words i y) job ≡ slot_at sizes s.words job). inl a) (λ (a : ¬ (Owns u job)). inr (inl a)) (unowned j u e)))
              (λ ne. inl (elsewhere s.words y k ne)))
              (λ k. dite (ℕ_discrete k job)
              (λ e. subst (λ (m : ℕ). IsWithin (slot_at sizes s.words m) (slot_at sizes (set s.words i y) m)) (sym e) within)
              (λ ne. same_within (slot_at sizes s.words k) (slot_at sizes (set s.words i y) k) (elsewhere s.words y k ne)))
              (cells_slot sizes s.words job y)
              (λ k c. dite (ℕ_discrete k job) (λ e. absurd (let low = h.kinds.cells.inside k c in omega arith))
              (λ ne. ap counted (elsewhere s.words y k ne)))
              (same_post v w refl refl refl refl (λ _. still) refl refl);
          tells = tells;
        }

  -- claim a free place for a job, which waits there from the same step on
  pub defers : May (λ x. either (eqb x (free_word 0)) (waiting_word 0) x) (OfSlot (λ slot. DefersJob slot (free_word 0) (waiting_word 0)) i me)
  defers = let told : ℕ → SeatState → Type 0 = OfSlot (λ slot. DefersJob slot (free_word 0) (waiting_word 0)) i me in
      let then : ℕ → View → Type 0 = AtSlot (λ slot. Defers slot (free_word 0) (waiting_word 0)) i v in
      lift_homes γ sizes slots id me i (λ x. either (eqb x (free_word 0)) (waiting_word 0) x) then told
      (spares (λ x. either (eqb x (free_word 0)) (waiting_word 0) x) then (λ r w t. let c = t job refl in dite (ℕ_discrete r (free_word 0))
      (λ e. ap (λ (u : View). u.places) (c.0 e).3) (λ ne. ap (λ (u : View). u.places) (c.1 ne))))
      (steps.defers id v live job 0 inside (omega arith))
      (λ s w h at t. let x : ℕ = get_or s.words i 0 in let c = t job refl in
      exchanged x (free_word 0) (waiting_word 0) (λ y. Follows γ sizes id i me told s y w)
      (λ hit. let d = c.0 hit in let now : View = deferred job (waiting_word 0) d.0 v in
      subst (Follows γ sizes id i me told s (waiting_word 0)) (sym d.3)
      (follows now.epoch now.slots.waits now.words (length-set v.words (behind v.sizes job) (waiting_word 0)) live refl
      (λ k low. let t = total_snoc (waits_in k) v.slots.waits (retired_now job d.0) in let o = is_other k job (λ e. omega arith) in omega arith)
      told s h at (waiting_word 0) (λ j u e'. inr (λ o. let none = ap alive hit ∙ (free_is 0 (omega arith)).0 in
      let few = owner_in codes sound sizes s.words s.views h.kept.parts.slots j job u e' in omega arith))
      (unowned_within s h (waiting_word 0) (waiting_is 0 (omega arith)).0)
      (at_once (λ slot. DefersJob slot (free_word 0) (waiting_word 0)) x (now, me.1)
      (refl, ((λ _. (d.0, d.1, d.2, refl, d.4, d.5, d.6)), (λ no. absurd (no hit)), c.2)))))
      (λ miss. subst (Follows γ sizes id i me told s x) (sym (c.1 miss))
      (follows v.epoch v.slots.waits v.words refl live refl (λ k low. refl) told s h at x
      (λ _ _ _. inl (ap (λ (l : List ℕ). slot_at sizes l job) (set-get_or s.words i 0)))
      (same_within (slot_at sizes s.words job) (slot_at sizes (set s.words i x) job) (ap (λ (l : List ℕ). slot_at sizes l job) (set-get_or s.words i 0)))
      (at_once (λ slot. DefersJob slot (free_word 0) (waiting_word 0)) x me (refl, ((λ hit. absurd (miss hit)), (λ _. refl), c.2))))))

  -- give back the place of a job that has seen three changes
  pub gives_place : IsDue v job → May (λ _. free_word 0) (λ _. OfSlot GivesPlace i me (free_word 0))
  gives_place due = let y : ℕ = free_word 0 in let told : ℕ → SeatState → Type 0 = λ _. OfSlot GivesPlace i me y in
      let then : ℕ → View → Type 0 = λ _. AtSlot GivesBack i v y in
      lift_homes γ sizes slots id me i (λ _. y) then told (spares (λ _. y) then (λ r w t. ap (λ (u : View). u.places) (t job refl).0))
      (steps.gives_back id v live job 0 due.0 due.1 due.2 due.3 due.4 inside (omega arith))
      (λ s w h at t. let c = t job refl in let now : View = given_back job y v in
      subst (Follows γ sizes id i me told s y) (sym c.0)
      (follows v.epoch now.slots.waits now.words (length-set v.words (behind v.sizes job) y) live refl
      (λ k low. item_kept job k (λ e. omega arith) v.slots.waits) told s h at y
      (λ j u e. inr (none_owns γ sizes s h job id v at (let once = c.1 in omega arith) j u e))
      (unowned_within s h y (free_is 0 (omega arith)).0)
      (at_once GivesPlace y (now, me.1) (refl, (refl, c.1)))))

  -- look at the word
  pub looks : May (λ x. x) (λ r me'. (me'.1 ≡ me.1) × AtSlot LooksAtSlot i v r me'.0)
  looks = lift_calm γ sizes slots id me i (λ x. x) (AtSlot LooksAtSlot i v) (λ r me'. (me'.1 ≡ me.1) × AtSlot LooksAtSlot i v r me'.0)
      (spares (λ x. x) (AtSlot LooksAtSlot i v) (λ r w t. ap (λ (u : View). u.places) (t job refl).0)) (steps.looks_at id v live job) (λ r w t. (refl, t))
      (λ s w h at t. subst (IsCalm γ sizes slots id me i (λ x. x) s (get_or s.words i 0)) (sym (t job refl).0)
      record {
        more = λ j p out. out;
        same = λ j _. ap (λ (l : List ℕ). full_at sizes l j) (set-get_or s.words i 0);
        mover = h.homes.moving id v at;
        alike = (refl, refl, refl, (λ _. refl), refl);
        counts = refl;
        lives = λ l. l;
        had = λ _ l. inl l;
        stored = stored_same sizes s.words i;
        kinds = kind_steps.calm sizes s.words s.views h.kinds h.records.each id v at (set s.words i (get_or s.words i 0)) v
            (words_same sizes s.words i) (refl, refl, refl, (λ _. refl), refl) refl refl (λ _ o. o)
            (same_post v v refl refl refl refl (λ l. l) refl refl);
      })
