-- The steps that take fractions from home or give them, and the other steps on slots
use Rattle.std.proofs.Common.{◌≡◌, ◌≢◌, ◌⊎◌, inl, inr, ℕ, suc, ◌+◌, ◌-◌, ◌^◌, ◌<◌, ◌≤◌, Bool, true, false, eqb, List, [], ◌∷◌, length, get_or, map, set, sym, refl, ap, ◌∙◌, subst, ⊎_elim, arith, length-set, get_or-set_same}
use mathlib.Core.Option.{none, some}
use mathlib.Core.Logic.{dite}
use native.Mathlib.Decide.{ℕ_discrete, dec_lt}
use Rattle.std.specs.Prelude.{Some, None}
use lib.ListN.{get_elem?}
use lib.Seq.{set-get_or}
use prog.Atomic.{either}
use base.Stored.{Gv}
use Rattle.atomic_table.specs.Table.{State, keeps, takes, Allows, carried_after, homes_after}
use Rattle.atomic_table.proofs.Lists.{at_map, exchanged, set_again, set_else, set_here}
use Rattle.sdd_shared_values.specs.SharedValues.{IsNoValueCode, content}
use Rattle.sdd_shared_values.specs.declared.value_fraction.ValueFraction.{ValueFraction}
use Rattle.sdd_rights.specs.declared.views.ShownValue.{ShownValue}
use Rattle.sdd_rights.specs.declared.views.EndedView.{EndedView}
use Rattle.sdd_rights.specs.declared.views.FractionsView.{FractionsView}
use Rattle.sdd_rights.specs.declared.views.WaitingItem.{WaitingItem}
use Rattle.sdd_rights.specs.declared.views.Deposit.{Deposit}
use Rattle.sdd_rights.specs.declared.views.View.{View}
use Rattle.sdd_rights.specs.declared.views.Sizes.{Sizes}
use Rattle.sdd_domain_invariant.specs.Words.{slot_word, state_word, words_behind}
use Rattle.sdd_domain_invariant.specs.Codes.{codes, alive, waiting, full, valued, emptying, counted as kind_of, shared_base, held_word, shared_word, free_word, waiting_word}
use Rattle.sdd_domain_invariant.specs.Epoch.{HasPlace, IsOpen, Scans, IsLone}
use Rattle.sdd_domain_invariant.specs.Epoch.EpochSteps.{Steps}
use Rattle.sdd_domain_invariant.specs.Sums.{total, times, is as is_at}
use Rattle.sdd_domain_invariant.specs.Slots.{slot_at, owners_at, items_at, Owns, Sees, Holds}
use Rattle.sdd_domain_invariant.specs.Slots.SlotSteps.{others as tail, behind, noted, Knew, without, retired, one_less, given_back, held, held_by, shared_again, looked_past, release_hold, discarded, seeing, AtSlot, Claims, Retires, Releases, LeavesBeside, GivesBack, LooksAtSlot, TakesHold, LetsGo, TriesHold, SharesAgain, Discards, LooksForGuard, ClosesAll, IsDue}
use Rattle.sdd_domain_invariant.specs.WordInvariant.{epoch_of, Parts}
use Rattle.sdd_domain_invariant.specs.Epoch.Barred.{IsNobodys, IsBarred, AreBarred, AreQuiet, past, past_quiet, Bars, LooksForValue}
use Rattle.sdd_domain_invariant.proofs.Epoch.Barred.{Spares, one_spared, Hushes, one_hushed}
use Rattle.sdd_domain_invariant.proofs.Epoch.Barred as barring
use Rattle.sdd_domain_invariant.proofs.Codes.{sound, free_is, raw_is, waiting_is, shared, counted_is, none_left, some_left, one_left, only_held}
use Rattle.sdd_domain_invariant.proofs.Epoch.EpochSteps as over
use Rattle.sdd_domain_invariant.proofs.Slots.SlotSteps as steps
use Rattle.sdd_domain_invariant.specs.Collectors.{Empties}
use Rattle.sdd_domain_invariant.proofs.Collectors.{plain_alive, plain_waiting, plain_free, emptying_at}
use Rattle.sdd_domain_invariant.proofs.Slots.OwnerSteps.{item_gone, item_kept}
use Rattle.sdd_domain_invariant.proofs.Slots.OwnerSteps as owning
use Rattle.sdd_domain_invariant.proofs.Slots.HeldSlots as holding
use Rattle.sdd_domain_invariant.proofs.WordsWithoutFractions.{blind, blind_units}
use Rattle.sdd_domain_invariant.proofs.Slots.LoneInvariant.{finds}
use Rattle.sdd_domain_invariant.proofs.Epoch.{at_length}
use Rattle.sdd_domain_invariant.proofs.Slots.SlotWords.{owner_in, owners_in, alone_is, held_is}
use Rattle.sdd_shared_values.specs.ValueFractions.{FractionContent}
use Rattle.sdd_shared_values.specs.Deposits.{units_at}
use Rattle.sdd_shared_values.specs.Bank.{Leaves, Comes, Deal, AllowsDeal}
use Rattle.sdd_shared_values.proofs.Deposits.{draws_all, brings}
use Rattle.sdd_domain_invariant.proofs.Sums.{is_same, is_other, without_same, without_other, total_has, total_two, total_zero, total_only}
use Rattle.sdd_domain_invariant.proofs.Slots.WaitingCounts.{waits_once}
use Rattle.sdd_witness.specs.Steps.{AllowsAlone, AllowsBeside}
use Rattle.sdd_domain_invariant.specs.Fractions.FractionsAtHome.{CarriedFractions, fraction_at, share, spare, away, full_at, Has, MatchesSlotWord, Moves, SeesFrom, NoneOut, FractionIsTaken, LiesAt}
use Rattle.sdd_domain_invariant.specs.DomainInvariant.{DomainInvariant}
use Rattle.sdd_domain_invariant.specs.Fractions.BankInvariant.{drawn_at, moves_at, banked, IsBank, outside, one_where, deposited}
use Rattle.sdd_domain_invariant.specs.Fractions.FractionSteps.{SeatState, CarriesAll, IsValue, CarriesSeen, moving, making, giving, dropping, resting, telling, drawing, undrawing, untold, remembering, forgetting, sighting, unsighted, IsNewest, ClaimsAll, FillsSlot, EntersUnit, TakesOut, TakesHeld, IsDeposit, RetiresOne, GivesAll, DiscardsAll, SeesOwned, LearnsOwned, ClosesHome, OfSlot, ReleasesOne, LeavesOne}
use Rattle.sdd_domain_invariant.specs.Slots.KindsInvariant.{written}
use Rattle.sdd_domain_invariant.proofs.Slots.KindSteps.{marks_of, written_now, KeepsPost, same_post}
use Rattle.sdd_domain_invariant.proofs.Slots.KindSteps as kind_steps
use Rattle.sdd_domain_invariant.specs.Slots.Records.{IsIn, KnowsShown, IsKnown, IsTelling, AllShowKnown}
use Rattle.sdd_domain_invariant.specs.Counts.{ended_places}
use Rattle.sdd_domain_invariant.specs.Slots.FilledInvariant.{newest, HasRecord, Tells, FilledInvariant}
use Rattle.sdd_domain_invariant.specs.Fractions.LastFractions.{ShowOnly, IsRaw, LastsInvariant}
use Rattle.sdd_domain_invariant.proofs.Fractions.FractionsInvariant.{none_out, only_seen, of_another, before_slots, one_taken}
use Rattle.sdd_domain_invariant.proofs.Fractions.FractionsInvariant as part
use Rattle.sdd_domain_invariant.proofs.Banks.{moves_none, moves_one, moves_other, moves_rest, outside_free, outside_moved, outside_there, outside_same, total_below, with_deposits, banked_then}
use Rattle.sdd_domain_invariant.proofs.Banks as banks
use Rattle.sdd_domain_invariant.proofs.Fractions.FractionHomes.{one_slot, one_fraction}
use Rattle.sdd_domain_invariant.proofs.Counts.{ended_spared, as_full, one_full, counted, uncounted, uncounted_alone}
use Rattle.sdd_domain_invariant.proofs.Slots.Records.{in_either, in_none, in_both, in_others, known_by, told_seen, comes_show, leaves_show}
use Rattle.sdd_domain_invariant.proofs.Slots.Records as records
use Rattle.sdd_domain_invariant.proofs.Slots.FilledInvariant.{newest_before, TellsNoMore, has_none, has_either, has_old, told_by, tells_old, filled_after, filled_same, filled_housed}
use Rattle.sdd_domain_invariant.specs.Cells.CellsInvariant.{IsInCell}
use Rattle.sdd_domain_invariant.proofs.Cells.{SameWords, no_change, words_beside, words_same, in_cell_alive, in_cell_beside}
use Rattle.sdd_domain_invariant.proofs.Fractions.LastFractions.{none_shown, shown_leaves, shown_comes, owned_shows, waiting_shows, empty_shows, stored_beside, stored_as_is, stored_same, stored_other, not_stored, stored_set, lasts_kept, lasts_fewer, lasts_given, lasts_dealt, one_bank}
use Rattle.sdd_domain_invariant.proofs.Fractions.SlotFractions.{Taken, Given, takes_row, gives_row, gives_carried, taken_lies, given_lies}
use Rattle.sdd_domain_invariant.proofs.Slots.RecordSteps.{one_moved, none_moved, one_view, owns_it, claimed_tells, moving_tells, held_tells, retired_tells, housed_tells, rested_tells, none_owns, none_waits, unknown_owned, unknown_waiting, comes_home}
use Rattle.sdd_domain_invariant.proofs.Fractions.WholeFractions.{rest_is, share_one}
use Rattle.sdd_domain_invariant.proofs.TableSteps.{Keeps, Follows, IsCalm, keeps_ended, lift_whole, lift_homes, lift_calm_whole, lift_calm, stands, stands_by, stands_dealt}

pub full_owned : (x : ℕ) → 0 < alive x → valued x ≡ 1
full_owned x h = sound.valued x h

vacant_shown : (f : ℕ) (g : Gv) → f ≡ 0 → IsNoValueCode g → MatchesSlotWord f g
vacant_shown f g empty vacant = (λ e. absurd (omega arith), λ _. vacant)

-- a word that has an owner, or waits, isn't both, nor free
module _ (γ : ℕ) (sizes : Sizes) (s : State ValueFraction View) (h : DomainInvariant γ sizes s) (i : ℕ) where
  x : ℕ
  x = slot_at sizes s.words i

  -- nobody empties it, where its word says so
  pub not_emptied : (j : ℕ) (u : View) → get_elem? s.views j ≡ some u → emptying (slot_at sizes s.words i) ≡ 0 → ¬ (Empties u i)
  not_emptied j u e idle o = let m = emptying_at codes sound sizes s.words s.views h.kept.parts.collectors j i u e o in omega arith

  -- nobody moves the value of a slot without owners in which none waits, and which nobody empties
  pub still_free : (j : ℕ) (u : View) → get_elem? s.views j ≡ some u → alive (slot_at sizes s.words i) ≡ 0
      → waiting (slot_at sizes s.words i) ≡ 0 → emptying (slot_at sizes s.words i) ≡ 0 → ¬ (Moves u i)
  still_free j u e dead quiet idle m = ⊎_elim
      (λ (o : Owns u i). let g = owner_in codes sound sizes s.words s.views h.kept.parts.slots j i u e in absurd (omega arith))
      (λ (r : (0 < items_at i u) ⊎ Empties u i). ⊎_elim
      (λ (o : 0 < items_at i u). let t = total_has (items_at i) s.views j u e in let w = h.kept.parts.slots.waited i in absurd (omega arith))
      (λ (o : Empties u i). not_emptied j u e idle o) r)
      (h.homes.moving j u e i m).1

  -- where a participant has an owner, or an item that waits, none else moves the value
  pub still_owned : (id j : ℕ) (v u : View) → get_elem? s.views id ≡ some v → get_elem? s.views j ≡ some u → id ≢ j → 0 < owners_at i v → ¬ (Moves u i)
  still_owned id j v u at e ne own m = let mine = owner_in codes sound sizes s.words s.views h.kept.parts.slots id i v at in
      let l = (sound.lives (slot_at sizes s.words i) (omega arith)).0 in ⊎_elim
      (λ (o : Owns u i). let g = (h.kinds.each j u e).sole i m o in
      let both = owners_in codes sound sizes s.words s.views h.kept.parts.slots id j i v u ne at e in absurd (omega arith))
      (λ (r : (0 < items_at i u) ⊎ Empties u i). ⊎_elim
      (λ (o : 0 < items_at i u). let t = total_has (items_at i) s.views j u e in let w = h.kept.parts.slots.waited i in absurd (omega arith))
      (λ (o : Empties u i). not_emptied j u e (plain_alive codes sound (slot_at sizes s.words i) (omega arith)).1 o) r)
      (h.homes.moving j u e i m).1

  still_waiting : (id j : ℕ) (v u : View) → get_elem? s.views id ≡ some v → get_elem? s.views j ≡ some u → id ≢ j → 0 < items_at i v → ¬ (Moves u i)
  still_waiting id j v u at e ne waits m = let t = total_has (items_at i) s.views id v at in let w = h.kept.parts.slots.waited i in
      let one = (sound.waits (slot_at sizes s.words i) (omega arith)).0 in ⊎_elim
      (λ (o : Owns u i). let g = owner_in codes sound sizes s.words s.views h.kept.parts.slots j i u e in
      let l = (sound.lives (slot_at sizes s.words i) (omega arith)).0 in absurd (omega arith))
      (λ (r : (0 < items_at i u) ⊎ Empties u i). ⊎_elim
      (λ (o : 0 < items_at i u). let both = total_two (items_at i) s.views id j v u ne at e in absurd (omega arith))
      (λ (o : Empties u i). not_emptied j u e (plain_waiting codes sound (slot_at sizes s.words i) (omega arith)).1 o) r)
      (h.homes.moving j u e i m).1

-- what a guard sees has its value
seen_valued : (γ : ℕ) (sizes : Sizes) (s : State ValueFraction View) → DomainInvariant γ sizes s → (id : ℕ) (v : View) → get_elem? s.views id ≡ some v
    → (k : ℕ) → Sees v k → full_at sizes s.words k ≡ 1
seen_valued γ sizes s h id v at k sees = let x : ℕ = slot_at sizes s.words k in let full_now = (h.kept.parts.slots.each id v at).full k sees in
    let seen = (h.kept.parts.collectors.each id v at).seen k sees in dite (ℕ_discrete (codes.private x) 0) (λ none. sound.there x full_now none)
    (λ ne. seen.1 (sound.private x (omega arith)).0)

-- the own place hasn't ended
pub own_place : (γ : ℕ) (sizes : Sizes) (id : ℕ) (v : View) → HasPlace v.epoch → (y : ℕ) (s : State ValueFraction View) → DomainInvariant γ sizes s
    → get_elem? s.views id ≡ some v → Spares sizes s.words (state_word sizes v.epoch.place) y
own_place γ sizes id v live y s h at p low e was = let f = h.kept.parts.epoch.each id v.epoch (at_map epoch_of s.views id v at) in
    let is = f.state live in let few = f.states in absurd (omega arith)

-- a lone participant is the only one of its domain
pub one_place : (γ : ℕ) (sizes : Sizes) (s : State ValueFraction View) → DomainInvariant γ sizes s → (id : ℕ) (v : View) → get_elem? s.views id ≡ some v →
    IsLone v.epoch
    → sizes.participants ≡ 1
one_place γ sizes s h id v at one = let f = h.kept.parts.epoch.each id v.epoch (at_map epoch_of s.views id v at) in sym (f.all (λ z. omega arith)) ∙ one

module _ (slots id : ℕ) (me : SeatState) (live : HasPlace me.0.epoch) where
  abbrev v : View
  v = me.0

  abbrev γ : ℕ
  γ = me.0.fractions.gamma

  abbrev sizes : Sizes
  sizes = me.0.sizes

  abbrev n : ℕ
  n = me.0.sizes.participants

  abbrev pub May : ℕ → (ℕ → ℕ) → (ℕ → SeatState → Type 0) → Type 0
  May = Allows (DomainInvariant γ sizes) slots id me

  abbrev pub MayAlone : (SeatState → Type 0) → Type 0
  MayAlone = AllowsAlone (DomainInvariant γ sizes) slots id me

  -- it moves nothing in, and tells of as many owners as before, or of none
  module _ (s : State ValueFraction View) (h : DomainInvariant γ sizes s) (at : get_elem? s.views id ≡ some v) where
    pub filled_by : (w : View) → w.fractions.filled ≡ v.fractions.filled → TellsNoMore w s.views → FilledInvariant sizes (set s.views id w)
    filled_by w same tells = filled_after sizes s.views h.filled id v at w same tells (λ _ _. inl live)

    -- what it has of counts and pledges stays
    pub post : (w : View) → w.pledges ≡ v.pledges → marks_of w ≡ marks_of v → w.sizes ≡ v.sizes → w.cells ≡ v.cells
        → (HasPlace v.epoch → HasPlace w.epoch) → KeepsPost v w
    post w pledges marked of rights lives = let near = (h.kept.parts.epoch.each id v.epoch (at_map epoch_of s.views id v at)).inside live in record {
      pledges = pledges;
      marks = marked;
      sizes = of;
      cells = rights;
      place = inl lives;
      records = λ none. absurd (omega arith);
      holds = λ none. absurd (omega arith);
    }

    pub still_filled : (w : View) → w.fractions.filled ≡ v.fractions.filled → w.fractions.owns ≡ v.fractions.owns → w.fractions.waits ≡ v.fractions.waits
        → FilledInvariant sizes (set s.views id w)
    still_filled w same owns waits = filled_same sizes s.views h.filled id v at w same owns waits (λ _. live)

    -- the records that it has are among those that it had
    pub tells_old_by : (w : View) → ((r : ShownValue) → HasRecord w.fractions.owns r → Tells v r) → ((r : ShownValue) → HasRecord w.fractions.waits r
        → Tells v r)
        → TellsNoMore w s.views
    tells_old_by w owns waits = tells_old sizes s.views h.filled id v at w (told_by w v owns waits)

  -- what it has out but for the fractions that it may take is out still: what its guards see
  still_seen : (w : View) → v.fractions.moves ≡ None → w.slots.sees ≡ v.slots.sees → w.epoch.place ≡ v.epoch.place → (j p : ℕ) → FractionIsTaken v j p →
      FractionIsTaken w j p
  still_seen w rests sees place j p out = let o = only_seen v rests j p out in
      inr (subst (λ (l : List ℕ). 0 < times j l) (sym sees) o.0, place ∙ o.1)

  -- the same of one that moves the value of a slot, but for this slot
  seen_but : (w : View) (slot : ℕ) → Moves v slot → w.slots.sees ≡ v.slots.sees → w.epoch.place ≡ v.epoch.place → (j p : ℕ) → j ≢ slot → FractionIsTaken v j p
      → FractionIsTaken w j p
  seen_but w slot mine sees place j p ne out = ⊎_elim (λ (m : Moves v j). absurd (ne (one_moved v slot j mine m)))
      (λ (o : SeesFrom v j p). inr (subst (λ (l : List ℕ). 0 < times j l) (sym sees) o.0, place ∙ o.1)) out

  module _ (slot : ℕ) (inside : slot < sizes.slots) where
    abbrev pub i : ℕ
    i = slot_word sizes slot

    -- the word tells which slot it is
    pub at_once : (R : ℕ → SeatState → ℕ → SeatState → Type 0) (x : ℕ) (me' : SeatState) → R slot me x me' → OfSlot R i me x me'
    at_once R x me' r other is = let same : slot ≡ other = omega arith in subst (λ (k : ℕ). R k me x me') same r

    -- the other slots are as full as before
    pub others : (ws : List ℕ) (y j : ℕ) → j < sizes.slots → j ≢ slot → full_at sizes (set ws i y) j ≡ full_at sizes ws j
    others ws y j _ ne = of_another sizes ws slot y j ne

    pub here : (ws : List ℕ) (y : ℕ) → i < length ws → slot_at sizes (set ws i y) slot ≡ y
    here ws y low = get_or-set_same ws i y 0 low

    -- a slot's word is none of a place's
    pub spares : (f : ℕ → ℕ) (then : ℕ → View → Type 0) → ((r : ℕ) (w : View) → then r w → w.places ≡ v.places) → Keeps γ sizes slots id me i f then
    spares f then places = keeps_ended γ sizes slots id me i f then places (λ s h at p low e was. absurd (omega arith)) (inl live)

    claim_keeps : (y : ℕ) → Keeps γ sizes slots id me i (λ x. either (eqb x (free_word 0)) y x) (AtSlot (λ slot. Claims slot (free_word 0) y) i v)
    claim_keeps y = spares (λ x. either (eqb x (free_word 0)) y x) (AtSlot (λ slot. Claims slot (free_word 0) y) i v)
        (λ r w t. let c = t slot refl in dite (ℕ_discrete r (free_word 0)) (λ e. ap (λ (u : View). u.places) (c.0 e))
        (λ ne. ap (λ (u : View). u.places) (c.1 ne)))

    look_keeps : Keeps γ sizes slots id me i (λ x. x) (AtSlot LooksAtSlot i v)
    look_keeps = spares (λ x. x) (AtSlot LooksAtSlot i v) (λ r w t. ap (λ (u : View). u.places) (t slot refl).0)

    module _ (s : State ValueFraction View) (h : DomainInvariant γ sizes s) where
      pub within : i < length s.words
      within = let l = h.kept.parts.slots.long in omega arith

      -- where nobody sees the slot or has fractions in it out, all may be taken, which show what its word says
      pub all_taken : (o : ℕ) → away n (full_at sizes s.words slot) ≡ o → (Is : Gv → Type 0)
          → ((p : ℕ) (y : ValueFraction) → p ≤ n → LiesAt n s.homes slot p y → MatchesSlotWord (full_at sizes s.words slot) y.content.shown
          → Is y.content.shown)
          → ((j : ℕ) (u : View) → get_elem? s.views j ≡ some u → ¬ (Sees u slot) × ¬ (Moves u slot))
          → Taken γ n slot o Is s.homes me.1 (suc n)
      all_taken o elsewhere Is shown unseen = takes_row γ n slot o Is s.homes me.1 (suc n) (λ p l.
          let b = h.homes.back slot p inside (omega arith) (λ j u e out. ⊎_elim (λ (m : Moves u slot). (unseen j u e).1 m)
          (λ (o : SeesFrom u slot p). (unseen j u e).0 o.0) out) in
          let has = subst (λ (k : ℕ). Has γ slot (share n k p) (MatchesSlotWord (full_at sizes s.words slot)) b.0) elsewhere
          (h.homes.home slot p b.0 inside (omega arith) b.1) in (b.0, b.1, (has.0, shown p b.0 (omega arith) b.1 has.1)))

      -- it has as many words once it wrote one
      pub wrote_long : get_elem? s.views id ≡ some v → (y : ℕ) → length (noted slot y v) ≡ words_behind sizes
      wrote_long at y = length-set v.words (behind v.sizes slot) y ∙ (h.kinds.each id v at).long

      -- no place ends by a step on a slot
      pub over_slot : (y : ℕ) → ended_places sizes s.words n ≤ ended_places sizes (set s.words i y) n
      over_slot y = ended_spared sizes s.words i y (λ p low e was. absurd (omega arith)) n (omega arith)

      -- a load leaves the words
      pub same_slots : SameWords sizes s.words (set s.words i (get_or s.words i 0))
      same_slots = words_same sizes s.words i

      -- no cell holds an owner of a slot that has none
      pub in_no_cell : alive (slot_at sizes s.words slot) ≡ 0 → ¬ (IsInCell sizes s.words slot)
      in_no_cell dead c = let some = in_cell_alive sizes s.words s.views h.kept.parts.slots slot c in absurd (omega arith)

      -- or whose only owner it has
      pub in_no_cell_too : get_elem? s.views id ≡ some v → Owns v slot → alive (slot_at sizes s.words slot) ≡ 1 → ¬ (IsInCell sizes s.words slot)
      in_no_cell_too at own one c = let more = in_cell_beside sizes s.words s.views h.kept.parts.slots slot c id v at in absurd (omega arith)

      pub same_words : (j : ℕ) → full_at sizes (set s.words i (get_or s.words i 0)) j ≡ full_at sizes s.words j
      same_words j = ap (λ (l : List ℕ). full_at sizes l j) (set-get_or s.words i 0)

    -- of a slot whose value it moves the bank has nothing
    pub moved_unbanked : (s : State ValueFraction View) → DomainInvariant γ sizes s → get_elem? s.views id ≡ some v → Moves v slot → (j : ℕ) (b : View)
        → get_elem? s.views j ≡ some b → IsBank b → (c : Gv) → ShowOnly slot c (banked b)
    moved_unbanked s h at mine j b there is c = let o = h.bank.banks j b there is in none_shown slot c γ (banked b) o.deposits
        (let sum = o.sums slot inside in let out = banks.moved_outside γ sizes s.words s.views h.bank id v at slot mine in omega arith)

    -- all fractions in it go home, and the slot is free
    goes_home : (s : State ValueFraction View) (h : DomainInvariant γ sizes s) → get_elem? s.views id ≡ some v → Moves v slot
        → ¬ (IsInCell sizes s.words slot) → (rest : CarriedFractions)
        (g : Given γ n slot 0 IsNoValueCode s.homes rest me.1 (suc n)) (w : View) → w.fractions.bank ≡ v.fractions.bank → banked w ≡ banked v
        → w.fractions.filled ≡ v.fractions.filled
        → LastsInvariant sizes (set s.words i (free_word 0)) (set s.views id w) (homes_after s.homes me.1 g.act)
    goes_home s h at mine free rest g w bank same filled = lasts_given sizes s.words s.views s.homes h.lasts id v at γ slot 0 IsNoValueCode rest me.1 g
        (λ a b e e'. e ∙ sym e') (set s.words i (free_word 0)) w (moved_unbanked s h at mine) (λ b. (sym bank ∙ b, same)) (λ k _. ap (newest k) filled)
        (λ _. live) (not_stored sizes s.words slot (free_word 0) (within s h) (λ e. absurd (omega arith))
        (empty_shows (free_word 0) (sound.empty (free_word 0) (free_is 0 (omega arith)).2)) free)
        (stored_other sizes s.words slot (free_word 0))

    -- claim a free slot, by a word with one owner, counted or not
    pub claims : (y : ℕ) → alive y ≡ 1 → v.fractions.moves ≡ None → May i (λ x. either (eqb x (free_word 0)) y x)
        (OfSlot (λ slot. ClaimsAll slot (free_word 0) y) i me)
    claims y owns_one rests = let told : ℕ → SeatState → Type 0 = OfSlot (λ slot. ClaimsAll slot (free_word 0) y) i me in let free = free_is 0 (omega arith) in
        let step = steps.claims id v live slot (free_word 0) y inside free.0 free.1 (plain_free codes sound (free_word 0) free.2) owns_one in
        lift_homes γ sizes slots id me i (λ x. either (eqb x (free_word 0)) y x) (AtSlot (λ slot. Claims slot (free_word 0) y) i v) told (claim_keeps y) step
        (λ s w h at t. let x : ℕ = get_or s.words i 0 in let c = t slot refl in
        exchanged x (free_word 0) y (λ z. Follows γ sizes id i me told s z w)
        (λ hit. let dead : alive x ≡ 0 = ap alive hit ∙ free.0 in let quiet : waiting x ≡ 0 = ap waiting hit ∙ free.1 in
        let unused : full x ≡ 0 = ap full hit ∙ free.2 in let empty : valued x ≡ 0 = sound.empty x unused in
        let tk = all_taken s h 0 (ap (away n) empty) IsNoValueCode (λ p y _ _ sh. sh.1 empty) (λ j u e. (
          owning.fresh codes sound sizes s.words s.views h.kept.parts.slots id v at slot unused j u e,
          still_free γ sizes s h slot j u e dead quiet (plain_free codes sound x unused).1,
        )) in let now : View = making slot y v in
        let nobody : (j : ℕ) (u : View) → get_elem? s.views j ≡ some u → ¬ (Owns u slot)
        = λ j u e o. let a = owner_in codes sound sizes s.words s.views h.kept.parts.slots j slot u e in omega arith in
        subst (Follows γ sizes id i me told s y) (sym (c.0 hit)) record {
          fractions = now.fractions;
          act = tk.act;
          valid = tk.valid;
          homes = part.takes γ sizes s.words s.views s.homes h.homes id v at slot 0 IsNoValueCode me.1 tk (set s.words i y) now refl
              (λ j p _. still_seen now rests refl refl j p) (others s.words y)
              (λ j m. let e : j ≡ slot = one_moved now slot j refl m in let one = is_same slot slot refl in
              (live, inl (subst (λ (k : ℕ). 0 < times k (slot ∷ v.slots.owns)) (sym e) (omega arith))));
          records = records.comes_to_move sizes s.views s.homes h.records id v at slot now (λ is. h.records.deposits id v at is)
              (homes_after s.homes me.1 tk.act)
              (claimed_tells v (h.records.each id v at) slot rests
              (nobody id v at)
              (λ o. let a = total_has (items_at slot) s.views id v at in let sum = h.kept.parts.slots.waited slot in omega arith) y)
              (records.mine sizes s.views s.homes h.records id v at)
              (λ j p y _ near l. (taken_lies γ n slot 0 IsNoValueCode s.homes me.1 tk j p y near l).1) refl (λ j m. one_moved now slot j refl m)
              (owning.fresh codes sound sizes s.words s.views h.kept.parts.slots id v at slot unused);
          counts = counted sizes s.words s.views h.counts id v at (set s.words i y) now
              (let f = one_full sizes s.words slot y inside h.kept.parts.slots.long in let filled = full_owned y (omega arith) in omega arith)
              (let o = over_slot s h y in omega arith) (λ none. absurd (omega arith));
          filled = still_filled s h at now refl refl refl;
          bank = banks.moves_over γ sizes s.words s.views h.bank id v at (set s.words i y) now slot
              record { bank = refl; founds = refl; gamma = refl; banked = refl; drawn = refl } (λ k. let l = h.bank.low id v at k in omega arith)
              (outside_free sizes s.words s.views slot empty)
              (banks.moving_outside γ sizes s.words s.views h.bank id v at (set s.words i y) now slot refl)
              (λ k ne. moves_other k now slot refl ne ∙ sym (moves_rest k v rests)) (others s.words y);
          lasts = lasts_fewer sizes s.words s.views s.homes h.lasts id v at (set s.words i y) now (homes_after s.homes me.1 tk.act)
              (λ j p y near l. (taken_lies γ n slot 0 IsNoValueCode s.homes me.1 tk j p y near l).1) (λ b. (b, refl)) refl (λ _ _. inl live)
              (stored_set sizes s.words slot y (within s h) (λ e. let dead = ap alive e ∙ (raw_is 0 (omega arith)).0 in absurd (omega arith))
              (owned_shows y (omega arith)) (λ c. absurd (in_no_cell s h dead c)));
          kinds = kind_steps.claims sizes s.words s.views h.kinds h.records.each id v at slot y refl inside owns_one (here s.words y (within s h)) nobody
              (in_no_cell s h dead) (post s h at now refl refl refl refl (λ l. l));
          tells = at_once (λ slot. ClaimsAll slot (free_word 0) y) x (now, carried_after me.1 tk.act)
              ((λ _. (refl, tk.row, written_now v slot y inside (h.kinds.each id v at).long)), (λ no. absurd (no hit)), c.2);
        })
        (λ miss. subst (Follows γ sizes id i me told s x) (sym (c.1 miss)) record {
          fractions = v.fractions;
          act = keeps;
          valid = tt;
          homes = part.calm γ sizes s.words s.views s.homes h.homes id v at (set s.words i x) v (λ j p out. out) (λ j _. same_words s h j)
              (h.homes.moving id v at);
          records = records.calm sizes s.views s.homes h.records id v at v (refl, refl, refl, (λ _. refl), refl);
          counts = uncounted sizes s.words s.views h.counts id v at (set s.words i x) v refl (λ l. l)
              (as_full sizes s.words (set s.words i x) (λ j _. same_words s h j)) (over_slot s h x);
          filled = still_filled s h at v refl refl refl;
          bank = banks.alike γ sizes s.words s.views h.bank id v at (set s.words i x) v (refl, refl, refl, (λ _. refl), refl)
              (λ j _. same_words s h j);
          lasts = lasts_fewer sizes s.words s.views s.homes h.lasts id v at (set s.words i x) v s.homes (λ _ _ _ _ l. l) (λ b. (b, refl)) refl
              (λ _ _. inl live) (stored_same sizes s.words i);
          kinds = kind_steps.calm sizes s.words s.views h.kinds h.records.each id v at (set s.words i x) v (same_slots s h)
              (refl, refl, refl, (λ _. refl), refl) refl refl (λ _ o. o) (post s h at v refl refl refl refl (λ l. l));
          tells = at_once (λ slot. ClaimsAll slot (free_word 0) y) x me ((λ hit. absurd (miss hit)), (λ _. refl), c.2);
        }))

    -- deals with the bank
    module _ (bd : ℕ) where
      abbrev pub MayDeal : (List FractionContent → FractionContent → List FractionContent → Type 0) → (FractionContent → Type 0) →
          (FractionContent → SeatState → Type 0) → Type 0
      MayDeal Goes = AllowsDeal (DomainInvariant γ sizes) Goes IsBank banked slots id me bd

      -- a value was moved in, and what its owner doesn't keep of it goes to the bank
      pub houses : Moves v slot → Owns v slot → (shared : Bool) → (¬ (Holds v slot) → kind_of (written v slot) ≡ one_where shared) → (value : Gv)
          (rest : CarriedFractions)
          → CarriesAll γ slot n (spare n) (IsValue value) rest me.1 → (l : FractionContent) → l ≡ content γ slot l.lifetime value (spare n - 1)
          → MayDeal Comes (λ k. k ≡ l) (λ _. FillsSlot slot shared value me)
      houses mine own shared kind value rest row l is s b h _ at there bank ne = let w : View = resting (telling slot shared value (drawing slot v)) in
          let shows : l.shown ≡ value = ap (λ (k : FractionContent). k.shown) is in
          let r : ShownValue = record { slot = slot; shared = shared; value = value } in let unknown = unknown_owned γ sizes s h slot id v at mine own in
          let few = h.homes.few in
          let g = gives_row γ n slot (spare n) (IsValue value) sizes.slots inside (suc n) (omega arith) s.homes rest me.1 h.homes.deep row in
          let one = (h.kinds.each id v at).sole slot mine own in let filled = full_owned (slot_at sizes s.words slot) (omega arith) in
          let tells = housed_tells v (h.records.each id v at) slot mine inside own (none_waits γ sizes s h slot id v at own id v at) shared value in
          let known = records.mine sizes s.views s.homes h.records id v at in let number = ap (λ (k : FractionContent). k.number) is in
          let units = ap (λ (k : FractionContent). k.units) is in
          let d = brings γ (banked b) l (banks.has_deposits γ sizes s.words s.views h.bank id v at bd b there bank ne) (ap (λ
          (k : FractionContent). k.gamma) is)
          (ap (λ (k : FractionContent). k.lent) is) (omega arith) in let ls : List FractionContent = d.0 in let brought = d.1 in
          let still = λ (j : ℕ) (u : View) (e : get_elem? s.views j ≡ some u) (apart : id ≢ j).
          still_owned γ sizes s h slot id j v u at e apart (omega arith) in
          let vs' : List View = set (set s.views id w) bd (with_deposits ls b) in
          let was = banks.moved_outside γ sizes s.words s.views h.bank id v at slot mine in
          let alone = total_only (moves_at slot) s.views id v at (λ j u apart e. moves_none slot u (still j u e (λ same. apart (sym same)))) in
          let now : outside sizes s.words vs' slot ≡ spare n = outside_there sizes s.words vs' slot (λ none. omega arith)
          (let t = banks.total_dealt γ sizes s.words s.views h.bank id v at bd b there bank ne (moves_at slot) w ls refl in omega arith) in
          let came = records.comes_to_know sizes s.views s.homes h.records id v at slot value w (λ is. (is, refl))
          (λ j u e is. let balance = h.bank.banks j u e is in
          (γ, balance.deposits, (let sum = balance.sums slot inside in omega arith))) (homes_after s.homes me.1 g.act)
          record { owns = tells.owns; owned = tells.owned; sees = tells.sees; waits = tells.waits; waiting = tells.waiting; inside = tells.inside } unknown
          (λ i g k. known_by w i g
          (λ a. ⊎_elim (λ (e : (slot ≡ i) × (value ≡ g)). inl (sym e.0, sym e.1))
          (λ (b : IsIn v.fractions.owns i g). inr (known i g (inl b))) (in_either r v.fractions.owns i g a))
          (λ a. inr (known i g (inr (inl a)))) (λ a. inr (known i g (inr (inr a)))) k)
          (λ j p y _ near lies. ⊎_elim (λ (b : (j ≡ slot) × Has γ slot (share n (spare n) p) (IsValue value) y). inl (b.0, b.1.1.1))
          (λ (b : (j ≢ slot) × LiesAt n s.homes j p y). inr b)
          (given_lies γ n slot (spare n) (IsValue value) s.homes rest me.1 g j p y near lies))
          (λ j. none_moved w j refl) (λ j a. a) in
          let vs : List View = set s.views id w in
          let mine_now : IsKnown vs slot value = (id, w, set_here s.views id w (at_length s.views id v at), inl (0, r, refl, refl, refl)) in
          let shown = comes_show vs (banked b) l (banked (with_deposits ls b))
          (subst (Comes (banked b) l) (sym (banked_then γ ls b (h.bank.banks bd b there bank).gamma brought.deposits)) brought.comes)
          (λ g' k. shows ∙ came.agree slot value g' mine_now (subst (λ (j : ℕ). IsKnown vs j g') number k))
          (came.deposits bd b (set_else s.views id bd w (λ e. ne (sym e)) ∙ there) bank) in record {
            view = w;
            bank = with_deposits ls b;
            content = l;
            act = g.act;
            valid = g.valid;
            holds = stands_dealt γ sizes id v s h at w refl
                (blind_units sizes s.words s.views id v v at (subst (Parts sizes s.words) (sym (set_again s.views id v at)) h.kept.parts) w.fractions
                (slot ∷ v.slots.drawn)) (homes_after s.homes me.1 g.act)
                (part.gives γ sizes s.words s.views s.homes h.homes id v at slot (spare n) (IsValue value) rest me.1 g s.words w
                (ap (away n) filled)
                (λ g so. (λ _. so.0, λ e. absurd (omega arith))) (seen_but w slot mine refl refl) (λ j _ _. refl) (none_out w refl))
                came
                (uncounted_alone sizes s.words s.views h.counts id v at w refl refl)
                (filled_housed sizes s.views h.filled id v at s.words h.kept.parts.epoch live r
                (λ x t e. unknown x.value (
                  t.0,
                  t.1,
                  t.2,
                  ⊎_elim (λ (a : HasRecord t.1.fractions.owns x). inl (a.0, x, a.1, sym e, refl))
                      (λ (a : HasRecord t.1.fractions.waits x). inr (inr (a.0, x, a.1, sym e, refl))) t.3,
                )) w refl refl refl)
                (kind_steps.houses sizes s.words s.views h.kinds h.records.each id v at slot shared value mine own kind
                (post s h at w refl refl refl refl (λ l. l))) bd b there ne ls shown
                (banks.deals γ sizes s.words s.views h.bank id v at bd b there bank ne w ls brought.deposits refl refl
                (λ k. dite (ℕ_discrete k slot)
                (λ e. let o = is_same k slot (sym e) in let none = banks.none_drawn γ sizes s.words s.views h.bank id v at slot inside mine in
                let z = ap (λ (x : ℕ). drawn_at x v) e in let owner = ap (λ (x : ℕ). times x v.slots.owns) e in omega arith)
                (λ apart. let o = is_other k slot (λ e. apart (sym e)) in let low = h.bank.low id v at k in omega arith))
                (λ k near. dite (ℕ_discrete k slot)
                (λ e. let o = is_same k slot (sym e) in let sum = brought.sum in let x = ap (λ (y : ℕ). units_at y ls) (e ∙ sym number) in
                let y = ap (λ (y : ℕ). units_at y (banked b)) (e ∙ sym number) in let u = ap (outside sizes s.words s.views) e in
                let u' = ap (outside sizes s.words vs') e in omega arith)
                (λ apart. let o = is_other k slot (λ e. apart (sym e)) in let same = brought.others k (λ e. apart (e ∙ number)) in
                let u = outside_same sizes s.words s.words s.views vs' k refl
                (let t = banks.total_dealt γ sizes s.words s.views h.bank id v at bd b there bank ne (moves_at k) w ls refl in
                let z = moves_other k v slot mine apart in omega arith) in omega arith)))
                (lasts_dealt sizes s.words (set s.views id w) (homes_after s.homes me.1 g.act)
                (lasts_given sizes s.words s.views s.homes h.lasts id v at γ slot (spare n) (IsValue value) rest me.1 g (λ c d e e'. e.1 ∙ sym e'.1)
                s.words w (moved_unbanked s h at mine) (λ b. (b, refl)) (λ k apart. newest_before r v.fractions.filled k (λ e. apart (sym e))) (λ _. live) (
                  (λ _ is. let one = (h.kinds.each id v at).sole slot mine own in ⊎_elim
                      (λ (a : IsRaw sizes s.words slot × _). let e = ap alive a.0 in let dead = (raw_is 0 (omega arith)).0 in absurd (omega arith))
                      (λ (b : IsInCell sizes s.words slot × _). in_no_cell_too s h at own one b.0) is),
                  owned_shows (slot_at sizes s.words slot) (let one = (h.kinds.each id v at).sole slot mine own in omega arith),
                )
                (λ k near _. stored_as_is sizes s.words k near))
                γ bd b (set_else s.views id bd w (λ e. ne (sym e)) ∙ there) bank ls (h.bank.banks bd b there bank).gamma brought.deposits
                (λ k z low last show. shown_comes k z.content.shown (banked b) l ls brought.comes show (λ same. ⊎_elim
                (λ (d : (k ≡ slot) × Has γ slot (share n (spare n) n) (IsValue value) z).
                ap (λ (c : FractionContent). c.shown) is ∙ sym d.1.1.1)
                (λ (d : (k ≢ slot) × LiesAt n s.homes k n z). absurd (d.0 (sym same ∙ number)))
                (given_lies γ n slot (spare n) (IsValue value) s.homes rest me.1 g k n z (omega arith) last))));
            ours = bank;
            goes = subst (Comes (banked b) l) (sym (banked_then γ ls b (h.bank.banks bd b there bank).gamma brought.deposits)) brought.comes;
            offered = refl;
            then = (refl, g.carried ∙ sym (rest_is γ slot n (spare n) (IsValue value) rest (suc n) me.1 row));
          }

      -- where nobody sees a slot, and its value may be moved out by this one alone, all fractions in it are taken, and the bank's deposit of it, as none is
      -- drawn
      pub moves_out : (s : State ValueFraction View) (b : View) (h : DomainInvariant γ sizes s) → get_elem? s.views id ≡ some v
          → get_elem? s.views bd ≡ some b →
          IsBank b
          → ¬ (id ≡ bd) → v.fractions.moves ≡ None → full_at sizes s.words slot ≡ 1 → total (drawn_at slot) s.views ≡ 0 → (Is : Gv → Type 0)
          → ((p : ℕ) (y : ValueFraction) → p ≤ n → LiesAt n s.homes slot p y → MatchesSlotWord (full_at sizes s.words slot) y.content.shown
          → Is y.content.shown)
          → Owns v slot ⊎ ((0 < items_at slot v) ⊎ Empties v slot) → (Owns v slot → Holds v slot × (alive (slot_at sizes s.words slot) ≡ 1))
          → ((j : ℕ) (u : View) → get_elem? s.views j ≡ some u → ¬ (Sees u slot))
          → ((j : ℕ) (u : View) → get_elem? s.views j ≡ some u → id ≢ j → ¬ (Moves u slot))
          → (t : FractionsView) → t.counts ≡ v.fractions.counts → t.moves ≡ Some slot → t.bank ≡ v.fractions.bank → t.founds ≡ v.fractions.founds
          → t.banked ≡ v.fractions.banked → t.gamma ≡ v.fractions.gamma
          → IsTelling sizes.slots (record v { fractions = t })
          → ((j : ℕ) (g : Gv) → KnowsShown (record v { fractions = t }) j g → KnowsShown v j g)
          → t.filled ≡ v.fractions.filled → TellsNoMore (record v { fractions = t }) s.views → ((r : ShownValue) → HasRecord t.owns r
          → HasRecord v.fractions.owns r) →
          (Then : FractionContent → SeatState → Type 0)
          → ((l : FractionContent) (xs : CarriedFractions) → IsDeposit slot me l → CarriesAll γ slot n (spare n) Is me.1 xs → Then l
          (record v { fractions = t }, xs))
          → Deal (DomainInvariant γ sizes) Leaves IsBank banked s b id me bd (λ _. Unit {0}) Then
      moves_out s b h at there bank ne rests filled undrawn Is shown may held unseen still t same is bank_is founds_is banked_is gamma_is tells known kept
          no_more fewer Then told =
          let w : View = record v { fractions = t } in
          let tk = all_taken s h (spare n) (ap (away n) filled) Is shown (λ j u e. (
            unseen j u e,
            λ m. dite (ℕ_discrete id j)
                (λ one. none_moved v slot rests (subst (λ (z : View). Moves z slot) (one_view s.views id j u v e at (sym one)) m))
                (λ apart. still j u e apart m),
          )) in
          let few = h.homes.few in let balance = h.bank.banks bd b there bank in let deposits = balance.deposits in let sum = balance.sums slot inside in
          let nobody = total_zero (moves_at slot) s.views (λ j u e. dite (ℕ_discrete id j)
          (λ one. ap (moves_at slot) (one_view s.views id j u v e at (sym one)) ∙ moves_rest slot v rests)
          (λ apart. moves_none slot u (still j u e apart))) in
          let was = outside_there sizes s.words s.views slot (λ empty. omega arith) nobody in
          let d = draws_all γ slot (banked b) deposits (omega arith) in let l : FractionContent = d.0 in let ls : List FractionContent = d.1 in
          let goes = d.3 in
          let whole : l.units ≡ spare n = (let e = d.2 in omega arith) in
          let vs' : List View = set (set s.views id w) bd (with_deposits ls b) in
          let now : outside sizes s.words vs' slot ≡ 0 = outside_moved sizes s.words vs' slot
          (let m = banks.total_dealt γ sizes s.words s.views h.bank id v at bd b there bank ne (moves_at slot) w ls refl in
          let one = moves_one slot w is in let z = moves_rest slot v rests in omega arith) in
          let came = records.comes_to_move sizes s.views s.homes h.records id v at slot w
          (λ mine. subst (λ (ds : List Deposit). AllShowKnown s.views (map (deposited t.gamma) ds)) (sym banked_is)
          (subst (λ (k : ℕ). AllShowKnown s.views (map (deposited k) v.fractions.banked)) (sym gamma_is) (h.records.deposits id v at (sym bank_is ∙ mine))))
          (homes_after s.homes me.1 tk.act) tells
          (λ j g k. records.mine sizes s.views s.homes h.records id v at j g (known j g k))
          (λ j p y _ near l. (taken_lies γ n slot (spare n) Is s.homes me.1 tk j p y near l).1) refl (λ j m. one_moved w slot j is m) unseen in
          let vs : List View = set s.views id w in
          let left = leaves_show vs (banked b) l ls goes.goes (came.deposits bd b (set_else s.views id bd w (λ e. ne (sym e)) ∙ there) bank) in
          let shown = subst (AllShowKnown vs) (sym (banked_then γ ls b balance.gamma goes.deposits)) left.1 in record {
            view = w;
            bank = with_deposits ls b;
            content = l;
            act = tk.act;
            valid = tk.valid;
            holds = stands_dealt γ sizes id v s h at w refl
                (blind sizes s.words s.views id v v at (subst (Parts sizes s.words) (sym (set_again s.views id v at)) h.kept.parts) t)
                (homes_after s.homes me.1 tk.act)
                (part.takes γ sizes s.words s.views s.homes h.homes id v at slot (spare n) Is me.1 tk s.words w is
                (λ j p _. still_seen w rests refl refl j p) (λ j _ _. refl)
                (λ j m. let e : slot ≡ j = sym (one_moved w slot j is m) in
                (live, subst (λ (k : ℕ). Owns v k ⊎ ((0 < items_at k v) ⊎ Empties v k)) e may)))
                came
                (uncounted_alone sizes s.words s.views h.counts id v at w same refl)
                (filled_by s h at w kept no_more)
                (kind_steps.comes_to_move sizes s.words s.views h.kinds h.records.each id v at slot t is fewer held (post s h at w refl refl refl refl
                (λ l. l))) bd
                b there ne ls shown
                (banks.deals γ sizes s.words s.views h.bank id v at bd b there bank ne w ls goes.deposits bank_is founds_is (h.bank.low id v at)
                (λ k near. dite (ℕ_discrete k slot)
                (λ e. let less = goes.less in let x = ap (λ (y : ℕ). units_at y ls) e in let y = ap (λ (y : ℕ). units_at y (banked b)) e in
                let u = ap (outside sizes s.words s.views) e in let u' = ap (outside sizes s.words vs') e in omega arith)
                (λ apart. let others = goes.others k apart in
                let u = outside_same sizes s.words s.words s.views vs' k refl
                (let m = banks.total_dealt γ sizes s.words s.views h.bank id v at bd b there bank ne (moves_at k) w ls refl in
                let z = moves_other k w slot is apart in let z' = moves_rest k v rests in omega arith) in omega arith)))
                (lasts_dealt sizes s.words (set s.views id w) (homes_after s.homes me.1 tk.act)
                (lasts_fewer sizes s.words s.views s.homes h.lasts id v at s.words w (homes_after s.homes me.1 tk.act)
                (λ j p y near l. (taken_lies γ n slot (spare n) Is s.homes me.1 tk j p y near l).1)
                (λ mine. absurd (one_bank γ sizes s.words s.views h.bank id bd v b ne at there (sym bank_is ∙ mine) bank)) kept (λ _ _. inl live)
                (stored_as_is sizes s.words))
                γ bd b (set_else s.views id bd w (λ e. ne (sym e)) ∙ there) bank ls balance.gamma goes.deposits
                (λ k z low last show. (shown_leaves k z.content.shown (banked b) l ls goes.goes show).0));
            ours = bank;
            goes = subst (Leaves (banked b) l) (sym (banked_then γ ls b balance.gamma goes.deposits)) goes.goes;
            offered = tt;
            then = told l (carried_after me.1 tk.act)
                (λ i. record l { gamma = goes.gamma i; number = goes.number i; units = whole i; lent = goes.free i }) tk.row;
          }

      -- an owner's unit goes to the bank, which shows what the owner tells
      pub enters_unit : (others : List ℕ) → v.slots.drawn ≡ slot ∷ others → (l : FractionContent) → l ≡ content γ slot l.lifetime l.shown 1
          → IsIn v.fractions.owns slot l.shown → MayDeal Comes (λ k. k ≡ l) (λ _. EntersUnit me)
      enters_unit more drawn l is shows s b h _ at there bank ne = let w : View = undrawing v in
          let number = ap (λ (k : FractionContent). k.number) is in let units = ap (λ (k : FractionContent). k.units) is in
          let d = brings γ (banked b) l (banks.has_deposits γ sizes s.words s.views h.bank id v at bd b there bank ne) (ap (λ
          (k : FractionContent). k.gamma) is)
          (ap (λ (k : FractionContent). k.lent) is) (omega arith) in let ls : List FractionContent = d.0 in let brought = d.1 in
          let told = h.records.each id v at in let mine = records.mine sizes s.views s.homes h.records id v at in
          let vs' : List View = set (set s.views id w) bd (with_deposits ls b) in
          let less : (k : ℕ) → drawn_at k w + is_at k slot ≡ drawn_at k v
          = λ k. let a = ap (times k) drawn in let c = ap (λ (xs : List ℕ). times k (tail xs)) drawn in omega arith in
          let came = records.no_more sizes s.views s.homes h.records id v at w (λ is. h.records.deposits id v at is) s.homes
          record { owns = told.owns; owned = told.owned; sees = told.sees; waits = told.waits; waiting = told.waiting; inside = told.inside }
          mine (λ j p y _ _ l. inl l) (λ j m. m) (λ j a. a) in
          let vs : List View = set s.views id w in
          let shown = comes_show vs (banked b) l (banked (with_deposits ls b))
          (subst (Comes (banked b) l) (sym (banked_then γ ls b (h.bank.banks bd b there bank).gamma brought.deposits)) brought.comes)
          (λ g k. came.agree slot l.shown g (id, w, set_here s.views id w (at_length s.views id v at), inl shows) (subst (λ (j : ℕ). IsKnown vs j g) number k))
          (came.deposits bd b (set_else s.views id bd w (λ e. ne (sym e)) ∙ there) bank) in record {
            view = w;
            bank = with_deposits ls b;
            content = l;
            act = keeps;
            valid = tt;
            holds = stands_dealt γ sizes id v s h at w refl
                (blind_units sizes s.words s.views id v v at (subst (Parts sizes s.words) (sym (set_again s.views id v at)) h.kept.parts) w.fractions
                w.slots.drawn) s.homes
                (part.calm γ sizes s.words s.views s.homes h.homes id v at s.words w (λ j p out. out) (λ j _. refl) (h.homes.moving id v at))
                came
                (uncounted_alone sizes s.words s.views h.counts id v at w refl refl) (still_filled s h at w refl refl refl)
                (kind_steps.same sizes s.words s.views h.kinds h.records.each id v at w refl refl refl refl refl refl s.words (no_change sizes s.words)
                (post s h at w refl refl refl refl (λ l. l))) bd b there ne ls shown
                (banks.deals γ sizes s.words s.views h.bank id v at bd b there bank ne w ls brought.deposits refl refl
                (λ k. let low = h.bank.low id v at k in let e = less k in omega arith)
                (λ k near. let u = outside_same sizes s.words s.words s.views vs' k refl
                (let t = banks.total_dealt γ sizes s.words s.views h.bank id v at bd b there bank ne (moves_at k) w ls refl in omega arith) in
                let e = less k in dite (ℕ_discrete k slot)
                (λ same. let o = is_same k slot (sym same) in let sum = brought.sum in let x = ap (λ (y : ℕ). units_at y ls) (same ∙ sym number) in
                let y = ap (λ (y : ℕ). units_at y (banked b)) (same ∙ sym number) in omega arith)
                (λ apart. let o = is_other k slot (λ e. apart (sym e)) in let same = brought.others k (λ e. apart (e ∙ number)) in omega arith)))
                (lasts_dealt sizes s.words (set s.views id w) s.homes
                (lasts_fewer sizes s.words s.views s.homes h.lasts id v at s.words w s.homes (λ _ _ _ _ l. l) (λ b. (b, refl)) refl (λ _ _. inl live)
                (stored_as_is sizes s.words))
                γ bd b (set_else s.views id bd w (λ e. ne (sym e)) ∙ there) bank ls (h.bank.banks bd b there bank).gamma brought.deposits
                (λ k z low last show. shown_comes k z.content.shown (banked b) l ls brought.comes show
                (λ e. let same : slot ≡ k = sym number ∙ e in sym (subst (λ (x : ℕ). z.content.shown ≡ l.shown) same
                (h.records.home k n l.shown z low (omega arith) (subst (λ (x : ℕ). IsKnown s.views x l.shown) same
                (mine slot l.shown (inl shows))) last)))));
            ours = bank;
            goes = subst (Comes (banked b) l) (sym (banked_then γ ls b (h.bank.banks bd b there bank).gamma brought.deposits)) brought.comes;
            offered = refl;
            then = (refl, refl);
          }

    -- what is remembered of an item that waits with a lone participant it moved in last
    remembered_filled : (s : State ValueFraction View) → DomainInvariant γ sizes s → get_elem? s.views id ≡ some v → (value : Gv) → IsIn v.fractions.waits slot
        value
        → IsLone v.epoch → (shared : Bool) × IsNewest slot shared value v
    remembered_filled s h at value there lone = let r : ShownValue = there.1 in let one = one_place γ sizes s h id v at lone in (
      r.shared,
      subst (λ (z : ℕ × Gv). IsNewest z.0 r.shared z.1 v) (λ d. (there.3 d, there.4 d))
          (h.filled.knows one id id v v r at live at (inr (there.0, there.2))),
    )

    -- the value of an item that is due is to be moved out
    pub takes_out : (bd : ℕ) → v.fractions.moves ≡ None → IsDue v slot
        → MayDeal bd Leaves (λ _. Unit {0}) (λ l me'. TakesOut slot me me' × IsDeposit slot me l)
    takes_out bd rests due s b h _ at held bank ne = let k : ℕ = due.0 in let item : WaitingItem = due.1 in let p = h.kept.parts in
        let once = waits_once codes sound sizes s.words s.views p.slots id v at slot k item due.2 due.3 in
        let waits : 0 < items_at slot v = omega arith in let tells = h.records.each id v at in
        let here_waits = total_has (items_at slot) s.views id v at in let sum = p.slots.waited slot in
        let filled = (sound.waits (slot_at sizes s.words slot) (omega arith)).2 in
        let dead : alive (slot_at sizes s.words slot) ≡ 0 = dite (dec_lt 0 (alive (slot_at sizes s.words slot)))
        (λ l. absurd (let w = (sound.lives (slot_at sizes s.words slot) l).0 in omega arith)) (λ none. omega arith) in
        let undrawn : total (drawn_at slot) s.views ≡ 0 = (let low = total_below (drawn_at slot) (owners_at slot) s.views (λ j u e. h.bank.low j u e slot) in
        let owned = p.slots.owned slot in omega arith) in
        let there = tells.waiting slot inside waits (none_moved v slot rests) in let value : Gv = there.0 in
        let known = records.mine sizes s.views s.homes h.records id v at slot value (inr (inr there.1)) in
        let w : View = moving slot (forgetting slot v) in
        moves_out bd s b h at held bank ne rests filled undrawn (IsValue value)
        (λ q y near lies sh. (sh.0 filled, h.records.home slot q value y inside near known lies)) (inr (inl waits))
        (λ o. absurd (none_owns γ sizes s h slot id v at waits id v at o))
        (λ j u e sees. owning.unseen codes sound sizes s.words s.views p.slots id v at p.epoch k item due.2 due.4 j u e (subst (Sees u) (sym due.3) sees))
        (λ j u e ne. still_waiting γ sizes s h slot id j v u at e ne waits)
        w.fractions refl refl refl refl refl refl
        (moving_tells v tells slot rests (none_owns γ sizes s h slot id v at waits id v at))
        (λ j g. known_by w j g (λ a. inl a) (λ a. inr (inl a)) (λ a. inr (inr (in_others slot v.fractions.waits j g a).1))) refl
        (tells_old_by s h at w (λ r a. inl a) (λ r a. inr (has_old slot v.fractions.waits r a))) (λ r a. a)
        (λ l me'. TakesOut slot me me' × IsDeposit slot me l)
        (λ l xs is row. (
          record { value = value; view = refl; fractions = row; remembered = there.1; filled = remembered_filled s h at value there.1 },
          is,
        ))

    -- no cell holds an owner of a slot whose item waits with it
    unfilled : (s : State ValueFraction View) (h : DomainInvariant γ sizes s) → get_elem? s.views id ≡ some v → 0 < items_at slot v
        → ¬ (IsInCell sizes s.words slot)
    unfilled s h at waits c = let some = in_cell_alive sizes s.words s.views h.kept.parts.slots slot c in
        let quiet = (sound.lives (slot_at sizes s.words slot) some).0 in let one = total_has (items_at slot) s.views id v at in
        let sum = h.kept.parts.slots.waited slot in absurd (omega arith)

    -- it was moved out
    pub gives_all : Moves v slot → IsDue v slot → (rest : CarriedFractions) → CarriesAll γ slot n 0 IsNoValueCode rest me.1
        → May i (λ _. free_word 0) (λ _. OfSlot GivesAll i me (free_word 0))
    gives_all mine due rest row = let told : ℕ → SeatState → Type 0 = λ _. OfSlot GivesAll i me (free_word 0) in let y : ℕ = free_word 0 in
        lift_homes γ sizes slots id me i (λ _. y) (λ _. AtSlot GivesBack i v y) told
        (spares (λ _. y) (λ _. AtSlot GivesBack i v y) (λ r w t. ap (λ (u : View). u.places) (t slot refl).0))
        (steps.gives_back id v live slot 0 due.0 due.1 due.2 due.3 due.4 (omega arith) (omega arith))
        (λ s w h at t. let c = t slot refl in let now : View = given_back slot y v in
        let g = gives_row γ n slot 0 IsNoValueCode sizes.slots inside (suc n) (omega arith) s.homes rest me.1 h.homes.deep row in
        let empty = sound.empty (free_word 0) (free_is 0 (omega arith)).2 in
        subst (Follows γ sizes id i me told s y) (sym c.0) record {
          fractions = (giving now).fractions;
          act = g.act;
          valid = g.valid;
          homes = part.gives γ sizes s.words s.views s.homes h.homes id v at slot 0 IsNoValueCode rest me.1 g (set s.words i y) (giving now)
              (ap (λ (x : ℕ). away n (valued x)) (here s.words y (within s h)) ∙ ap (away n) empty)
              (λ g vacant. vacant_shown (full_at sizes (set s.words i y) slot) g (ap valued (here s.words y (within s h)) ∙ empty) vacant)
              (seen_but (giving now) slot mine refl refl) (others s.words y) (none_out (giving now) refl);
          records = let waits : 0 < items_at slot v = (let once = c.1 in omega arith) in
              comes_home γ sizes s h slot id v at 0 IsNoValueCode rest me.1 g (unknown_waiting γ sizes s h slot id v at mine waits) (giving now)
              (rested_tells v (h.records.each id v at) slot mine (giving now) refl (λ _ _. refl) (none_owns γ sizes s h slot id v at waits id v at)
              (λ j ne. item_kept slot j ne v.slots.waits) (λ o. let z = item_gone slot v.slots.waits in omega arith) refl)
              refl refl;
          counts = let once = c.1 in let here = total_has (items_at slot) s.views id v at in let sum = h.kept.parts.slots.waited slot in
              let was = (sound.waits (slot_at sizes s.words slot) (omega arith)).2 in
              counted sizes s.words s.views h.counts id v at (set s.words i y) (giving now)
              (let f = one_full sizes s.words slot y inside h.kept.parts.slots.long in omega arith)
              (let o = over_slot s h y in omega arith) (λ none. absurd (omega arith));
          filled = still_filled s h at (giving now) refl refl refl;
          bank = banks.moves_over γ sizes s.words s.views h.bank id v at (set s.words i y) (giving now) slot
              record { bank = refl; founds = refl; gamma = refl; banked = refl; drawn = refl } (h.bank.low id v at)
              (banks.moved_outside γ sizes s.words s.views h.bank id v at slot mine)
              (outside_free sizes (set s.words i y) (set s.views id (giving now)) slot (ap valued (here s.words y (within s h)) ∙ empty))
              (λ k ne. sym (moves_other k v slot mine ne)) (others s.words y);
          lasts = goes_home s h at mine (unfilled s h at (let once = c.1 in omega arith)) rest g (giving now) refl refl refl;
          kinds = let waits : 0 < items_at slot v = (let once = c.1 in omega arith) in
              kind_steps.frees sizes s.words s.views h.kinds h.records.each id v at slot y (giving now) inside mine (wrote_long s h at y) refl refl (λ _ _ o. o)
              (here s.words y (within s h)) (λ j u _ e. none_owns γ sizes s h slot id v at waits j u e) (free_is 0 (omega arith)).0
              (unfilled s h at waits) (post s h at (giving now) refl refl refl refl (λ l. l));
          tells = at_once GivesAll y (giving now, carried_after me.1 g.act)
              (now, (refl, c.1), refl, g.carried ∙ sym (rest_is γ slot n 0 IsNoValueCode rest (suc n) me.1 row));
        })

    -- the value of an item whose slot is held is to be moved out, after a look at each place
    pub takes_held : (bd : ℕ) → v.fractions.moves ≡ None → v.slots.owns ≡ slot ∷ [] → v.slots.drawn ≡ [] → Holds v slot → n ≤ v.slots.looked
        → MayDeal bd Leaves (λ _. Unit {0}) (λ l me'. TakesHeld slot me me' × IsDeposit slot me l)
    takes_held bd rests owns empty held all s b h _ at banks_at bank ne = let p = h.kept.parts in let tells = h.records.each id v at in
        let own = owns_it v slot owns in let one = held_is codes sound sizes s.words s.views p.slots id slot v at held in
        let filled = full_owned (slot_at sizes s.words slot) (omega arith) in let w : View = moving slot (untold v) in
        let undrawn : total (drawn_at slot) s.views ≡ 0 = total_zero (drawn_at slot) s.views (λ j u e. dite (ℕ_discrete id j)
        (λ same. ap (drawn_at slot) (one_view s.views id j u v e at (sym same)) ∙ ap (times slot) empty)
        (λ ne. let low = h.bank.low j u e slot in
        let both = owners_in codes sound sizes s.words s.views p.slots id j slot v u ne at e in omega arith)) in
        let there = tells.owned slot own (none_moved v slot rests) in let value : Gv = there.0 in
        let known = records.mine sizes s.views s.homes h.records id v at slot value (inl there.1) in
        moves_out bd s b h at banks_at bank ne rests filled undrawn (IsValue value)
        (λ q y near lies sh. (sh.0 filled, h.records.home slot q value y inside near known lies)) (inl own) (λ _. (held, one))
        (holding.unseen_held codes sound sizes s.words s.views p.slots id v at p.epoch slot held all)
        (λ j u e ne. still_owned γ sizes s h slot id j v u at e ne (omega arith))
        w.fractions refl refl refl refl refl refl (held_tells v tells slot owns rests (none_waits γ sizes s h slot id v at own id v at))
        (λ j g. known_by w j g (λ a. absurd (in_none j g a)) (λ a. inr (inl a)) (λ a. inr (inr a))) refl
        (tells_old_by s h at w (λ r a. absurd (has_none r [] refl a)) (λ r a. inr a)) (λ r a. absurd (has_none r [] refl a))
        (λ l me'. TakesHeld slot me me' × IsDeposit slot me l)
        (λ l xs is row. (record { value = value; view = refl; fractions = row; told = there.1 }, is))

    -- it has gone
    pub discards : Moves v slot → Holds v slot → n ≤ v.slots.looked → (rest : CarriedFractions) → CarriesAll γ slot n 0 IsNoValueCode rest me.1
        → May i (λ _. free_word 0) (λ _. OfSlot DiscardsAll i me (free_word 0))
    discards mine held all rest row = let y : ℕ = free_word 0 in let told : ℕ → SeatState → Type 0 = λ _. OfSlot DiscardsAll i me y in
        lift_homes γ sizes slots id me i (λ _. y) (λ _. AtSlot Discards i v y) told (spares (λ _. y) (λ _. AtSlot Discards i v y) (λ r w t. ap (λ (u
        : View). u.places) (t slot refl)))
        (steps.discards id v live slot 0 inside held all (omega arith))
        (λ s w h at t. let now : View = discarded slot y v in
        let g = gives_row γ n slot 0 IsNoValueCode sizes.slots inside (suc n) (omega arith) s.homes rest me.1 h.homes.deep row in
        let empty = sound.empty (free_word 0) (free_is 0 (omega arith)).2 in
        subst (Follows γ sizes id i me told s y) (sym (t slot refl)) record {
          fractions = (dropping now).fractions;
          act = g.act;
          valid = g.valid;
          homes = part.gives γ sizes s.words s.views s.homes h.homes id v at slot 0 IsNoValueCode rest me.1 g (set s.words i y) (dropping now)
              (ap (λ (x : ℕ). away n (valued x)) (here s.words y (within s h)) ∙ ap (away n) empty)
              (λ g vacant. vacant_shown (full_at sizes (set s.words i y) slot) g (ap valued (here s.words y (within s h)) ∙ empty) vacant)
              (seen_but (dropping now) slot mine refl refl) (others s.words y) (none_out (dropping now) refl);
          records = let own = ((h.kept.parts.slots.each id v at).held slot held).0 in
              comes_home γ sizes s h slot id v at 0 IsNoValueCode rest me.1 g (unknown_owned γ sizes s h slot id v at mine own) (dropping now)
              (rested_tells v (h.records.each id v at) slot mine (dropping now) refl (λ i ne. without_other slot i ne v.slots.owns)
              (λ o. let z = without_same slot v.slots.owns in omega arith) (λ _ _. refl) (none_waits γ sizes s h slot id v at own id v at) refl)
              refl refl;
          counts = let one = held_is codes sound sizes s.words s.views h.kept.parts.slots id slot v at held in
              let was = full_owned (slot_at sizes s.words slot) (omega arith) in
              counted sizes s.words s.views h.counts id v at (set s.words i y) (dropping now)
              (let f = one_full sizes s.words slot y inside h.kept.parts.slots.long in omega arith)
              (let o = over_slot s h y in omega arith) (λ none. absurd (omega arith));
          filled = still_filled s h at (dropping now) refl refl refl;
          bank = banks.moves_over γ sizes s.words s.views h.bank id v at (set s.words i y) (dropping now) slot
              record { bank = refl; founds = refl; gamma = refl; banked = refl; drawn = refl }
              (λ k. let low = h.bank.low id v at k in dite (ℕ_discrete k slot)
              (λ e. let none = banks.none_drawn γ sizes s.words s.views h.bank id v at slot inside mine in
              let z = ap (λ (j : ℕ). drawn_at j v) e in omega arith)
              (λ ne. let o = without_other slot k ne v.slots.owns in omega arith))
              (banks.moved_outside γ sizes s.words s.views h.bank id v at slot mine)
              (outside_free sizes (set s.words i y) (set s.views id (dropping now)) slot (ap valued (here s.words y (within s h)) ∙ empty))
              (λ k ne. sym (moves_other k v slot mine ne)) (others s.words y);
          lasts = goes_home s h at mine (in_no_cell_too s h at ((h.kept.parts.slots.each id v at).held slot held).0
              (held_is codes sound sizes s.words s.views h.kept.parts.slots id slot v at held)) rest g (dropping now) refl refl refl;
          kinds = let one = held_is codes sound sizes s.words s.views h.kept.parts.slots id slot v at held in
              let own = ((h.kept.parts.slots.each id v at).held slot held).0 in
              kind_steps.frees sizes s.words s.views h.kinds h.records.each id v at slot y (dropping now) inside mine (wrote_long s h at y) refl refl
              (λ k ne o. absurd (ne (let c : Some slot ≡ Some k = sym held ∙ o in let e : k ≡ slot = cc in e))) (here s.words y (within s h))
              (λ j u apart e o. let both = owners_in codes sound sizes s.words s.views h.kept.parts.slots j id slot u v apart e at in omega arith)
              (free_is 0 (omega arith)).0 (in_no_cell_too s h at own one) (post s h at (dropping now) refl refl refl refl (λ l. l));
          tells = at_once DiscardsAll y (dropping now, carried_after me.1 g.act)
              (refl, g.carried ∙ sym (rest_is γ slot n 0 IsNoValueCode rest (suc n) me.1 row));
        })

    -- look at the word
    pub looks : May i (λ x. x) (λ r me'. (me'.1 ≡ me.1) × AtSlot LooksAtSlot i v r me'.0)
    looks = lift_calm γ sizes slots id me i (λ x. x) (AtSlot LooksAtSlot i v) (λ r me'. (me'.1 ≡ me.1) × AtSlot LooksAtSlot i v r me'.0)
        look_keeps (steps.looks_at id v live slot) (λ r w t. (refl, t))
        (λ s w h at t. subst (IsCalm γ sizes slots id me i (λ x. x) s (get_or s.words i 0)) (sym (t slot refl).0)
        record {
          more = λ j p out. out;
          same = λ j _. same_words s h j;
          mover = h.homes.moving id v at;
          alike = (refl, refl, refl, (λ _. refl), refl);
          counts = refl;
          lives = λ l. l;
          had = λ _ l. inl l;
          stored = stored_same sizes s.words i;
          kinds = kind_steps.calm sizes s.words s.views h.kinds h.records.each id v at (set s.words i (get_or s.words i 0)) v (same_slots s h)
              (refl, refl, refl, (λ _. refl), refl) refl refl (λ _ o. o) (post s h at v refl refl refl refl (λ l. l));
        })

    -- what an only owner shows, which isn't counted; and one of several
    abbrev pub owned_record : Gv → ShownValue
    owned_record value = record { slot = slot; shared = false; value = value }

    abbrev pub shared_record : Gv → ShownValue
    shared_record value = record { slot = slot; shared = true; value = value }

    module _ (s : State ValueFraction View) (h : DomainInvariant γ sizes s) (at : get_elem? s.views id ≡ some v) where
      -- an owner that isn't counted, as its record says, is the only one
      pub uncounted_owner : (value : Gv) → HasRecord v.fractions.owns (owned_record value) → ¬ (Holds v slot)
          → Owns v slot × (kind_of (slot_at sizes s.words slot) ≡ 0) × (alive (slot_at sizes s.words slot) ≡ 1)
      uncounted_owner value r free = let own = ((h.records.each id v at).owns slot value (r.0, owned_record value, r.1, refl, refl)).0 in
          let firm = (h.kinds.each id v at).told (owned_record value) r free in
          (own, firm, (alone_is codes sound sizes s.words s.views h.kept.parts.slots id slot v at own firm).1)

      -- the last owner's item waits from now on, whose unit is in the bank
      waits_now : (y : ℕ) (told : ℕ → SeatState → Type 0) → waiting y ≡ 1 → v.slots.owns ≡ slot ∷ [] → v.slots.drawn ≡ [] → v.fractions.moves ≡ None
          → (value : Gv) → IsIn v.fractions.owns slot value → alive (slot_at sizes s.words slot) ≡ 1 → (w : View) → (c : Retires slot v y w)
          → ((me' : SeatState) → RetiresOne slot me y me' → told (get_or s.words i 0) me') → Follows γ sizes id i me told s y w
      waits_now y told is owns empty rests value told_it one w c telling_it = let own = owns_it v slot owns in let r = h.records in
          let was = full_owned (slot_at sizes s.words slot) (omega arith) in let now : View = remembering (retired slot y c.0 v) in
          let word : slot_at sizes (set s.words i y) slot ≡ y = here s.words y (within s h) in
          let will = (sound.waits y (omega arith)).2 in
          let dead : alive y ≡ 0 = dite (dec_lt 0 (alive y)) (λ l. absurd (let q = (sound.lives y l).0 in omega arith)) (λ none. omega arith) in
          let same : (j : ℕ) → j < sizes.slots → full_at sizes (set s.words i y) j ≡ full_at sizes s.words j
          = λ j low. dite (ℕ_discrete j slot)
          (λ e. subst (λ (k : ℕ). full_at sizes (set s.words i y) k ≡ full_at sizes s.words k) (sym e) (ap valued word ∙ (will ∙ sym was)))
          (λ ne. others s.words y j low ne) in
          let mine_known = records.mine sizes s.views s.homes r id v at in
          subst (Follows γ sizes id i me told s y) (sym c.3) record {
            fractions = now.fractions;
            act = keeps;
            valid = tt;
            homes = part.calm γ sizes s.words s.views s.homes h.homes id v at (set s.words i y) now (λ j p out. out) same (none_out now rests);
            records = records.no_more sizes s.views s.homes r id v at now (λ is. r.deposits id v at is) s.homes
                (retired_tells v (r.each id v at) slot owns y c.0 rests value told_it)
                (λ j g k. known_by now j g (λ a. absurd (in_none j g a)) (λ a. mine_known j g (inr (inl a)))
                (λ a. ⊎_elim (λ (b : IsIn v.fractions.owns j g). mine_known j g (inl b)) (λ (b : IsIn v.fractions.waits j g). mine_known j g (inr (inr b)))
                (in_both j g v.fractions.owns v.fractions.waits a)) k)
                (λ j p z _ _ lies. inl lies) (λ j m. m) (λ j a. a);
            counts = uncounted sizes s.words s.views h.counts id v at (set s.words i y) now refl (λ l. l)
                (as_full sizes s.words (set s.words i y) same) (over_slot s h y);
            filled = filled_by s h at now refl (tells_old_by s h at now (λ r a. absurd (has_none r [] refl a)) (has_either v.fractions.owns v.fractions.waits));
            bank = banks.calm γ sizes s.words s.views h.bank id v at (set s.words i y) now
                record { bank = refl; founds = refl; gamma = refl; banked = refl; drawn = refl } refl
                (λ k. let z = ap (times k) empty in omega arith) same;
            lasts = lasts_fewer sizes s.words s.views s.homes h.lasts id v at (set s.words i y) now s.homes (λ _ _ _ _ l. l) (λ b. (b, refl)) refl
                (λ _ _. inl live) (stored_set sizes s.words slot y (within s h)
                (λ e. let quiet = ap waiting e ∙ (raw_is 0 (omega arith)).1 in absurd (omega arith)) (waiting_shows y (omega arith))
                (λ c. absurd (in_no_cell_too s h at own one c)));
            kinds = kind_steps.goes sizes s.words s.views h.kinds h.records.each id v at slot y now inside (wrote_long s h at y) rests refl (λ _ o. o) word
                (λ j u apart e. inl (λ o. let both = owners_in codes sound sizes s.words s.views h.kept.parts.slots j id slot u v apart e at in omega arith))
                (λ c. inl (let z = dead in omega arith)) (λ c. absurd (in_no_cell_too s h at own one c))
                (post s h at now refl refl refl refl (λ l. l));
            tells = telling_it (now, me.1) (retired slot y c.0 v, (c.0, c.1, c.2, refl, c.4, c.5, c.6, c.7), refl, refl);
          }

    -- retire the item of an only owner
    pub retires : v.slots.owns ≡ slot ∷ [] → ¬ (Holds v slot) → v.slots.drawn ≡ [] → v.fractions.moves ≡ None → (value : Gv)
        → HasRecord v.fractions.owns (owned_record value) → May i (λ _. waiting_word 0) (λ _. OfSlot RetiresOne i me (waiting_word 0))
    retires owns free empty rests value told_it = let y : ℕ = waiting_word 0 in let told : ℕ → SeatState → Type 0 = λ _. OfSlot RetiresOne i me y in
        let is = waiting_is 0 (omega arith) in
        lift_whole γ sizes slots id me i (λ _. y) (λ _. AtSlot Retires i v y) told
        (spares (λ _. y) (λ _. AtSlot Retires i v y) (λ r w t. ap (λ (u : View). u.places) (t slot refl).3))
        (λ s h at small. let mine = uncounted_owner s h at value told_it free in
        steps.retires id v live slot y inside mine.0 free is.0 is.1 s.words s.views h.kept.parts at mine.2)
        (λ s w h at t. waits_now s h at y told is.1 owns empty rests value (told_it.0, owned_record value, told_it.1, refl, refl)
        (uncounted_owner s h at value told_it free).2 w (t slot refl) (at_once RetiresOne y))

    -- nothing changes
    pub unmoved : (s : State ValueFraction View) → DomainInvariant γ sizes s → get_elem? s.views id ≡ some v → (told : ℕ → SeatState → Type 0)
        → told (get_or s.words i 0) me → Follows γ sizes id i me told s (get_or s.words i 0) v
    unmoved s h at told tells = let x : ℕ = get_or s.words i 0 in record {
      fractions = v.fractions;
      act = keeps;
      valid = tt;
      homes = part.calm γ sizes s.words s.views s.homes h.homes id v at (set s.words i x) v (λ j p out. out) (λ j _. same_words s h j) (h.homes.moving id v at);
      records = records.calm sizes s.views s.homes h.records id v at v (refl, refl, refl, (λ _. refl), refl);
      counts = uncounted sizes s.words s.views h.counts id v at (set s.words i x) v refl (λ l. l)
          (as_full sizes s.words (set s.words i x) (λ j _. same_words s h j)) (over_slot s h x);
      filled = still_filled s h at v refl refl refl;
      bank = banks.alike γ sizes s.words s.views h.bank id v at (set s.words i x) v (refl, refl, refl, (λ _. refl), refl) (λ j _. same_words s h j);
      lasts = lasts_fewer sizes s.words s.views s.homes h.lasts id v at (set s.words i x) v s.homes (λ _ _ _ _ l. l) (λ b. (b, refl)) refl
          (λ _ _. inl live) (stored_same sizes s.words i);
      kinds = kind_steps.calm sizes s.words s.views h.kinds h.records.each id v at (set s.words i x) v (same_slots s h)
          (refl, refl, refl, (λ _. refl), refl) refl refl (λ _ o. o) (post s h at v refl refl refl refl (λ l. l));
      tells = tells;
    }

    module _ (owns : v.slots.owns ≡ slot ∷ []) (free : ¬ (Holds v slot)) (empty : v.slots.drawn ≡ []) (rests : v.fractions.moves ≡ None) (value : Gv)
        (told_it : HasRecord v.fractions.owns (shared_record value)) where
      abbrev released : ℕ → SeatState → Type 0
      released = OfSlot ReleasesOne i me

      -- what the words' parts tell of the subtraction
      abbrev lets_one : ℕ → View → Type 0
      lets_one x w = AtSlot Releases i v x w × (x < 2 ^ 64)

      module _ (s : State ValueFraction View) (h : DomainInvariant γ sizes s) (at : get_elem? s.views id ≡ some v) where
        abbrev count_word : ℕ
        count_word = slot_at sizes s.words slot

        several : kind_of count_word ≡ 1
        several = (h.kinds.each id v at).told (shared_record value) told_it free

        -- others stay
        others_stay : 1 < alive count_word → (tell : ℕ → SeatState → Type 0)
            → tell (get_or s.words i 0) (untold (one_less slot (count_word - 1) v), me.1)
            → Follows γ sizes id i me tell s (count_word - 1) (one_less slot (count_word - 1) v)
        others_stay more tell tells = let y : ℕ = count_word - 1 in let now : View = untold (one_less slot y v) in let r = h.records in
            let told = r.each id v at in
            let own = owns_it v slot owns in let above = (shared count_word (counted_is count_word several)).0 in let fewer = some_left y (omega arith) in
            let word : slot_at sizes (set s.words i y) slot ≡ y = here s.words y (within s h) in let was = full_owned count_word (omega arith) in
            let same : (j : ℕ) → j < sizes.slots → full_at sizes (set s.words i y) j ≡ full_at sizes s.words j
            = λ j low. dite (ℕ_discrete j slot)
            (λ e. subst (λ (k : ℕ). full_at sizes (set s.words i y) k ≡ full_at sizes s.words k) (sym e) (ap valued word
            ∙ (full_owned y (let m = fewer.0 in omega arith) ∙ sym was)))
            (λ ne. others s.words y j low ne) in
            let mine_known = records.mine sizes s.views s.homes r id v at in record {
              fractions = now.fractions;
              act = keeps;
              valid = tt;
              homes = part.calm γ sizes s.words s.views s.homes h.homes id v at (set s.words i y) now (λ j p out. out) same (none_out now rests);
              records = records.no_more sizes s.views s.homes r id v at now (λ is. r.deposits id v at is) s.homes
                  record {
                    owns = λ j g k. absurd (in_none j g k);
                    owned = λ j o _. absurd (let e = ap (λ (l : List ℕ). times j (tail l)) owns in omega arith);
                    sees = told.sees;
                    waits = told.waits;
                    waiting = told.waiting;
                    inside = λ j g k. ⊎_elim (λ (a : IsIn [] j g). absurd (in_none j g a)) (λ b. told.inside j g (inr b)) k;
                  }
                  (λ j g k. known_by now j g (λ a. absurd (in_none j g a)) (λ a. mine_known j g (inr (inl a))) (λ a. mine_known j g (inr (inr a))) k)
                  (λ j p z _ _ lies. inl lies) (λ j m. m) (λ j a. a);
              counts = uncounted sizes s.words s.views h.counts id v at (set s.words i y) now refl (λ l. l)
                  (as_full sizes s.words (set s.words i y) same) (over_slot s h y);
              filled = filled_by s h at now refl (tells_old_by s h at now (λ r a. absurd (has_none r [] refl a)) (λ r a. inr a));
              bank = banks.calm γ sizes s.words s.views h.bank id v at (set s.words i y) now
                  record { bank = refl; founds = refl; gamma = refl; banked = refl; drawn = refl } refl
                  (λ k. let z = ap (times k) empty in omega arith) same;
              lasts = lasts_fewer sizes s.words s.views s.homes h.lasts id v at (set s.words i y) now s.homes (λ _ _ _ _ l. l) (λ b. (b, refl)) refl
                  (λ _ _. inl live) (stored_set sizes s.words slot y (within s h)
                  (λ e. let dead = ap alive e ∙ (raw_is 0 (omega arith)).0 in absurd (omega arith)) (owned_shows y (let m = fewer.0 in omega arith))
                  (λ _. fewer.3 ∙ sym several));
              kinds = kind_steps.goes sizes s.words s.views h.kinds h.records.each id v at slot y now inside (wrote_long s h at y) rests refl (λ _ o. o) word
                  (λ j u apart e. inr (still_owned γ sizes s h slot id j v u at e (λ z. apart (sym z)) own, fewer.3 ∙ sym several))
                  (λ c. inr (several, (let n = fewer.0 in omega arith))) (λ _. fewer.3 ∙ sym several) (post s h at now refl refl refl refl (λ l. l));
              tells = tells;
            }

        follows : (w : View) → lets_one count_word w → Follows γ sizes id i me released s (steps.less_one count_word) w
        follows w t = let c = t.0 slot refl in let left = c.1 in let above = (shared count_word (counted_is count_word several)).0 in
            let small = t.1 in let less : steps.less_one count_word ≡ count_word - 1 = omega arith in
            subst (λ (y : ℕ). Follows γ sizes id i me released s y w) (sym less) (dite (ℕ_discrete (alive count_word) 1)
            (λ last. let e : count_word - 1 ≡ shared_base = omega arith in
            waits_now s h at (count_word - 1) released (ap waiting e ∙ none_left.1) owns empty rests value
            (told_it.0, shared_record value, told_it.1, refl, refl) last w
            (c.2 last) (λ me' r. at_once ReleasesOne count_word me' (several, left, (λ _. r), (λ more. absurd (more last)), c.4)))
            (λ more. subst (Follows γ sizes id i me released s (count_word - 1)) (sym (c.3 more)) (others_stay (omega arith) released
            (at_once ReleasesOne count_word (untold (one_less slot (count_word - 1) v), me.1)
            (several, left, (λ last. absurd (more last)), (λ _. refl), c.4)))))

      -- let an owner go beside others, by one exchange of the word that was found, whose unit is in the bank
      pub leaves : (word : ℕ) → 1 < alive word → May i (λ x. either (eqb x word) (word - 1) x) (OfSlot (LeavesOne word) i me)
      leaves word more = let f : ℕ → ℕ = λ x. either (eqb x word) (word - 1) x in let then : ℕ → View → Type 0 = AtSlot (LeavesBeside word) i v in
          let told : ℕ → SeatState → Type 0 = OfSlot (LeavesOne word) i me in
          lift_whole γ sizes slots id me i f then told
          (spares f then (λ r w t. let c = t slot refl in dite (ℕ_discrete r word) (λ e. ap (λ (u : View). u.places) (c.2 e))
          (λ ne. ap (λ (u : View). u.places) (c.3 ne))))
          (λ s h at small. steps.leaves id v live slot word [] inside owns more s.words s.views h.kept.parts at (several s h at))
          (λ s w h at t. let c = t slot refl in let x : ℕ = get_or s.words i 0 in
          exchanged x word (word - 1) (λ y. Follows γ sizes id i me told s y w)
          (λ hit. subst (λ (k : ℕ). Follows γ sizes id i me told s (k - 1) w) hit
          (subst (Follows γ sizes id i me told s (x - 1)) (λ d. (ap (λ (k : ℕ). one_less slot (k - 1) v) hit ∙ sym (c.2 hit)) d)
          (others_stay s h at (let a = ap alive hit in omega arith) told (at_once (LeavesOne word) x (untold (one_less slot (x - 1) v), me.1)
          (c.0, c.1, (λ _. ap (λ (k : ℕ). (untold (one_less slot (k - 1) v), me.1)) hit), (λ miss. absurd (miss hit)), c.4)))))
          (λ miss. subst (Follows γ sizes id i me told s x) (sym (c.3 miss)) (unmoved s h at told
          (at_once (LeavesOne word) x me (c.0, c.1, (λ hit. absurd (miss hit)), (λ _. refl), c.4)))))

      -- let an owner go that is counted, whose unit is in the bank, by one subtraction
      pub releases : May i steps.less_one released
      releases = lift_whole γ sizes slots id me i steps.less_one lets_one released
          (spares steps.less_one lets_one (λ r w t. let c = t.0 slot refl in dite (ℕ_discrete (alive r) 1)
          (λ last. ap (λ (u : View). u.places) (c.2 last).3) (λ more. ap (λ (u : View). u.places) (c.3 more))))
          (λ s h at small. let step = steps.releases id v live slot [] inside owns free s.words s.views h.kept.parts at (several s h at) small in
          (step.0, step.1, (step.2, small)))
          (λ s w h at t. follows s h at w t)

    -- a guard comes to see it beside its owner, who knows what it shows
    pub watches : IsOpen v.epoch → v.epoch.place < n → v.fractions.moves ≡ None → (jd : ℕ) (u : View) (shared : Bool) (value : Gv) → Owns u slot
        → ¬ (Holds u slot) → get_elem? u.fractions.owns 0 ≡ some (record { slot = slot; shared = shared; value = value })
        → AllowsBeside (DomainInvariant γ sizes) slots id me jd u (SeesOwned slot shared value me)
    watches is_open near rests jd u shared value own free first s h _ at there = let p = h.kept.parts in let r = h.records in
        let record_now : ShownValue = record { slot = slot; shared = shared; value = value } in
        let told : IsIn u.fractions.owns slot value = (0, record_now, first, refl, refl) in
        let tells = r.each id v at in let mine = records.mine sizes s.views s.homes r id v at in
        let known : IsKnown s.views slot value = (jd, u, there, inl told) in dite (dec_lt 0 (times slot v.slots.sees))
        (λ sees. let is = told_seen v tells slot sees in (
          v,
          keeps,
          tt,
          stands_by γ sizes id v s h at v.fractions refl s.homes
              (part.calm γ sizes s.words s.views s.homes h.homes id v at s.words v (λ j p out. out) (λ j _. refl) (h.homes.moving id v at))
              (records.calm sizes s.views s.homes r id v at v (refl, refl, refl, (λ _. refl), refl)) (still_filled s h at v refl refl refl)
              (banks.alike γ sizes s.words s.views h.bank id v at s.words v (refl, refl, refl, (λ _. refl), refl) (λ _ _. refl))
              (lasts_fewer sizes s.words s.views s.homes h.lasts id v at s.words v s.homes (λ _ _ _ _ l. l) (λ b. (b, refl)) refl (λ _ _. inl live)
              (stored_as_is sizes s.words))
              (kind_steps.same sizes s.words s.views h.kinds h.records.each id v at v refl refl refl refl refl refl s.words (no_change sizes s.words)
              (post s h at v refl refl refl refl (λ l. l))),
          (
            (λ _. (refl, subst (IsIn v.fractions.sees slot) (r.agree slot is.0 value (mine slot is.0 (inr (inl is.1))) known) is.1)),
            (λ unseen. absurd (unseen sees)),
          ),
        ))
        (λ unseen. let q : ℕ = v.epoch.place in let now : View = sighting slot shared value v in let one = is_same slot slot refl in
        let owned = owner_in codes sound sizes s.words s.views p.slots jd slot u there in let filled = full_owned (slot_at sizes s.words slot) (omega arith) in
        let owners : 0 < owners_at slot u = (let o = own in omega arith) in
        let still : (j : ℕ) (x : View) → get_elem? s.views j ≡ some x → ¬ (Moves x slot)
        = λ j x e m. dite (ℕ_discrete jd j)
        (λ same. ((r.each jd u there).owns slot value told).1 (subst (λ (z : View). Moves z slot) (one_view s.views jd j x u e there (sym same)) m))
        (λ ne. still_owned γ sizes s h slot jd j u x there e ne owners m) in
        let nobody : NoneOut s.views slot q = λ j x e out. ⊎_elim (λ (m : Moves x slot). still j x e m)
        (λ (o : SeesFrom x slot q). dite (ℕ_discrete id j)
        (λ same. unseen (subst (λ (z : View). Sees z slot) (one_view s.views id j x v e at (sym same)) o.0))
        (λ ne. let theirs = (p.slots.each j x e).guarded slot o.0 in
        let apart = (p.epoch.two id j v.epoch x.epoch ne (at_map epoch_of s.views id v at)
        (at_map epoch_of s.views j x e)).places live (omega arith) in apart (sym o.1))) out in
        let b = h.homes.back slot q inside (omega arith) nobody in let y : ValueFraction = b.0 in let spot : ℕ = fraction_at n slot q in
        let has = h.homes.home slot q y inside (omega arith) b.1 in let shows = r.home slot q value y inside (omega arith) known b.1 in
        let it : Has γ slot 1 (IsValue value) y
        = subst (λ (k : ℕ). Has γ slot k (IsValue value) y) (share_one n (away n (full_at sizes s.words slot)) q near) (has.0, (has.1.0 filled, shows)) in (
          now,
          takes spot y,
          b.1,
          stands γ sizes id v s h at now refl (blind sizes s.words s.views id v (seeing slot v) at
              (steps.watches_beside id v live slot is_open jd u owners free s.words s.views p at there) now.fractions)
              (set s.homes spot none)
              (part.takes_one γ sizes s.words s.views s.homes h.homes id v at slot q (omega arith) now (inr (omega arith, refl))
              (λ j p out. let o = only_seen v rests j p out in inr (let a = o.0 in omega arith, o.1))
              (none_out now rests))
              (records.kept sizes s.views s.homes r id v at now (λ is. r.deposits id v at is) (set s.homes spot none)
              record {
                owns = tells.owns;
                owned = tells.owned;
                sees = ap (λ (l : List ℕ). slot ∷ l) tells.sees;
                waits = tells.waits;
                waiting = tells.waiting;
                inside = λ j g k. known_by now j g (λ a. tells.inside j g (inl a))
                    (λ a. ⊎_elim (λ (e : (slot ≡ j) × (value ≡ g)). subst (λ (l : ℕ). l < sizes.slots) e.0 inside)
                    (λ (c : IsIn v.fractions.sees j g). tells.inside j g (inr (inl c))) (in_either record_now v.fractions.sees j g a))
                    (λ a. tells.inside j g (inr (inr a))) k;
              }
              (λ j g k. known_by now j g (λ a. mine j g (inl a)) (λ a. ⊎_elim
              (λ (e : (slot ≡ j) × (value ≡ g)). subst (λ (z : ℕ × Gv). IsKnown s.views z.0 z.1) (λ d. (e.0 d, e.1 d)) known)
              (λ (c : IsIn v.fractions.sees j g). mine j g (inr (inl c))) (in_either record_now v.fractions.sees j g a)) (λ a. mine j g (inr (inr a))) k)
              (λ j p z _ _ lies. inl (one_taken s.homes spot (fraction_at n j p) z lies))
              (λ j m. absurd (none_moved v j rests m))
              (λ j x _ e. (
                (λ k m. absurd (none_moved v k rests m)),
                (λ k m sees. dite (ℕ_discrete k slot) (λ same. still j x e (subst (Moves x) same m))
                    (λ ne. r.apart j id x v k e at m (let o = is_other k slot (λ e. ne (sym e)) in omega arith))),
              )))
              (uncounted_alone sizes s.words s.views h.counts id v at now refl refl) (still_filled s h at now refl refl refl)
              (banks.calm γ sizes s.words s.views h.bank id v at s.words now
              record { bank = refl; founds = refl; gamma = refl; banked = refl; drawn = refl } refl (h.bank.low id v at) (λ _ _. refl))
              (lasts_fewer sizes s.words s.views s.homes h.lasts id v at s.words now (set s.homes spot none)
              (λ j p z _ lies. one_taken s.homes spot (fraction_at n j p) z lies) (λ b. (b, refl)) refl (λ _ _. inl live) (stored_as_is sizes s.words))
              (kind_steps.same sizes s.words s.views h.kinds h.records.each id v at now refl refl refl refl refl refl s.words (no_change sizes s.words)
              (post s h at now refl refl refl refl (λ l. l))),
          ((λ sees. absurd (unseen sees)), (λ _. (y, it, refl))),
        ))

    -- hold a slot, and let go of it
    pub takes_hold : (value : Gv) → HasRecord v.fractions.owns (owned_record value) → v.slots.holds ≡ None
        → May i (λ x. x) (λ r me'. (me'.1 ≡ me.1) × AtSlot TakesHold i v r me'.0)
    takes_hold value told_it free = lift_calm_whole γ sizes slots id me i (λ x. x) (AtSlot TakesHold i v)
        (λ r me'. (me'.1 ≡ me.1) × AtSlot TakesHold i v r me'.0)
        (spares (λ x. x) (AtSlot TakesHold i v) (λ r w t. ap (λ (u : View). u.places) (t slot refl).0))
        (λ s h at small. let mine = uncounted_owner s h at value told_it (λ e. let c : None ≡ Some slot = sym free ∙ e in cc) in
        steps.takes_hold id v live slot inside mine.0 free s.words s.views h.kept.parts at mine.1) (λ r w t. (refl, t))
        (λ s w h at t. subst (IsCalm γ sizes slots id me i (λ x. x) s (get_or s.words i 0)) (sym (t slot refl).0)
        record {
          more = λ j p out. out;
          same = λ j _. same_words s h j;
          mover = h.homes.moving id v at;
          alike = (refl, refl, refl, (λ _. refl), refl);
          counts = refl;
          lives = λ l. l;
          had = λ _ l. inl l;
          stored = stored_same sizes s.words i;
          kinds = kind_steps.calm sizes s.words s.views h.kinds h.records.each id v at (set s.words i (get_or s.words i 0)) (held slot v) (same_slots s h)
              (refl, refl, refl, (λ _. refl), refl) refl refl (λ k o. let c : None ≡ Some k = sym free ∙ o in cc)
              (post s h at (held slot v) refl refl refl refl (λ l. l));
        })

    -- which it told of as an only owner's
    pub lets_go : Holds v slot → v.fractions.moves ≡ None → ((r : ShownValue) → HasRecord v.fractions.owns r → r.slot ≡ slot → r.shared ≡ false)
        → May i (λ x. x)
        (λ r me'. (me'.1 ≡ me.1) × AtSlot LetsGo i v r me'.0)
    lets_go held rests single = lift_calm γ sizes slots id me i (λ x. x) (AtSlot LetsGo i v) (λ r me'. (me'.1 ≡ me.1) × AtSlot LetsGo i v r me'.0)
        (spares (λ x. x) (AtSlot LetsGo i v) (λ r w t. ap (λ (u : View). u.places) (t slot refl).0))
        (steps.lets_go id v live slot inside held) (λ r w t. (refl, t))
        (λ s w h at t. subst (IsCalm γ sizes slots id me i (λ x. x) s (get_or s.words i 0)) (sym (t slot refl).0)
        record {
          more = λ j p out. out;
          same = λ j _. same_words s h j;
          mover = h.homes.moving id v at;
          alike = (refl, refl, refl, (λ _. refl), refl);
          counts = refl;
          lives = λ l. l;
          had = λ _ l. inl l;
          stored = stored_same sizes s.words i;
          kinds = kind_steps.stays sizes s.words s.views h.kinds h.records.each id v at (set s.words i (get_or s.words i 0)) (release_hold v) (same_slots s h)
              record {
                long = (h.kinds.each id v at).long;
                sole = λ j m. absurd (none_moved v j rests m);
                claimed = λ j m. absurd (none_moved v j rests m);
                told = λ r a _. dite (ℕ_discrete r.slot slot)
                    (λ e. ap (λ (k : ℕ). kind_of (slot_at sizes s.words k)) e
                    ∙ (((h.kept.parts.slots.each id v at).held slot held).1 ∙ sym (ap one_where (single r a e))))
                    (λ ne. (h.kinds.each id v at).told r a (λ o. ne (let c : Some slot ≡ Some r.slot = sym held ∙ o in let e : r.slot ≡ slot = cc in e)));
              }
              (post s h at (release_hold v) refl refl refl refl (λ l. l));
        })

    -- another word comes to stand there that says one owner, who has it
    module _ (s : State ValueFraction View) (h : DomainInvariant γ sizes s) (at : get_elem? s.views id ≡ some v) (mine : Owns v slot)
        (one : alive (slot_at sizes s.words slot) ≡ 1) (y : ℕ) (lives : alive y ≡ 1) where
      -- the slots are as full as before
      as_full_still : (j : ℕ) → j < sizes.slots → full_at sizes (set s.words i y) j ≡ full_at sizes s.words j
      as_full_still j low = let was = full_owned (slot_at sizes s.words slot) (omega arith) in let is = full_owned y (omega arith) in dite (ℕ_discrete j slot)
          (λ e. subst (λ (k : ℕ). full_at sizes (set s.words i y) k ≡ full_at sizes s.words k) (sym e)
          (ap valued (here s.words y (within s h)) ∙ (is ∙ sym was)))
          (λ ne. others s.words y j low ne)

      -- nobody else has an owner of it
      no_other : (j : ℕ) (u : View) → j ≢ id → get_elem? s.views j ≡ some u → ¬ (Owns u slot)
      no_other j u apart e o = let b = owners_in codes sound sizes s.words s.views h.kept.parts.slots id j slot v u (λ z. apart (sym z)) at e in
          absurd (omega arith)

    -- try to hold a slot of its own, which it told of as one of several owners'
    pub tries_hold : (value : Gv) → HasRecord v.fractions.owns (shared_record value) → v.slots.holds ≡ None → v.fractions.moves ≡ None
        → May i (λ x. either (eqb x (shared_word 1)) held_word x) (λ r me'. (me'.1 ≡ me.1) × AtSlot TriesHold i v r me'.0)
    tries_hold value told_it free rests = let f : ℕ → ℕ = λ x. either (eqb x (shared_word 1)) held_word x in
        lift_calm_whole γ sizes slots id me i f (AtSlot TriesHold i v) (λ r me'. (me'.1 ≡ me.1) × AtSlot TriesHold i v r me'.0)
        (spares f (AtSlot TriesHold i v) (λ r w t. let c = t slot refl in dite (ℕ_discrete r (shared_word 1)) (λ e. ap (λ (u : View). u.places) (c.2 e))
        (λ ne. ap (λ (u : View). u.places) (c.3 ne))))
        (λ s h at small. let own = ((h.records.each id v at).owns slot value (told_it.0, shared_record value, told_it.1, refl, refl)).0 in
        steps.tries_hold id v live slot inside own free s.words s.views h.kept.parts at
        ((h.kinds.each id v at).told (shared_record value) told_it (λ e. let c : None ≡ Some slot = sym free ∙ e in cc)))
        (λ r w t. (refl, t))
        (λ s w h at t. let c = t slot refl in let x : ℕ = get_or s.words i 0 in
        let own = ((h.records.each id v at).owns slot value (told_it.0, shared_record value, told_it.1, refl, refl)).0 in
        exchanged x (shared_word 1) held_word (λ y. IsCalm γ sizes slots id me i f s y w)
        (λ hit. let one : alive x ≡ 1 = ap alive hit ∙ one_left.0 in subst (IsCalm γ sizes slots id me i f s held_word) (sym (c.2 hit)) record {
          more = λ j p out. out;
          same = as_full_still s h at own one held_word only_held.0;
          mover = h.homes.moving id v at;
          alike = (refl, refl, refl, (λ _. refl), refl);
          counts = refl;
          lives = λ l. l;
          had = λ _ l. inl l;
          stored = stored_set sizes s.words slot held_word (within s h) (λ e. absurd (omega arith)) (owned_shows held_word (let o = only_held.0 in omega arith))
              (λ c. absurd (in_no_cell_too s h at own one c));
          kinds = kind_steps.takes_hold sizes s.words s.views h.kinds h.records.each id v at slot held_word (held_by slot held_word v) inside
              (wrote_long s h at held_word) rests refl free refl (here s.words held_word (within s h)) (no_other s h at own one held_word only_held.0)
              only_held.2 (in_no_cell_too s h at own one) (post s h at (held_by slot held_word v) refl refl refl refl (λ l. l));
        })
        (λ miss. subst (IsCalm γ sizes slots id me i f s x) (sym (c.3 miss)) record {
          more = λ j p out. out;
          same = λ j _. same_words s h j;
          mover = h.homes.moving id v at;
          alike = (refl, refl, refl, (λ _. refl), refl);
          counts = refl;
          lives = λ l. l;
          had = λ _ l. inl l;
          stored = stored_same sizes s.words i;
          kinds = kind_steps.calm sizes s.words s.views h.kinds h.records.each id v at (set s.words i x) v (same_slots s h)
              (refl, refl, refl, (λ _. refl), refl) refl refl (λ _ o. o) (post s h at v refl refl refl refl (λ l. l));
        }))

    -- let go of it, by a word that says of its owner what it told of it
    pub shares_again : (y : ℕ) → alive y ≡ 1 → Holds v slot → v.fractions.moves ≡ None
        → ((r : ShownValue) → HasRecord v.fractions.owns r → r.slot ≡ slot → kind_of y ≡ one_where r.shared)
        → May i (λ _. y) (λ _ me'. (me'.1 ≡ me.1) × AtSlot SharesAgain i v y me'.0)
    shares_again y is_one holds rests kind =
        lift_calm γ sizes slots id me i (λ _. y) (λ _. AtSlot SharesAgain i v y) (λ _ me'. (me'.1 ≡ me.1) × AtSlot SharesAgain i v y me'.0)
        (spares (λ _. y) (λ _. AtSlot SharesAgain i v y) (λ r w t. ap (λ (u : View). u.places) (t slot refl)))
        (steps.shares_again id v live slot y inside holds is_one) (λ r w t. (refl, t))
        (λ s w h at t. let own = ((h.kept.parts.slots.each id v at).held slot holds).0 in
        let one = held_is codes sound sizes s.words s.views h.kept.parts.slots id slot v at holds in
        subst (IsCalm γ sizes slots id me i (λ _. y) s y) (sym (t slot refl)) record {
          more = λ j p out. out;
          same = as_full_still s h at own one y is_one;
          mover = h.homes.moving id v at;
          alike = (refl, refl, refl, (λ _. refl), refl);
          counts = refl;
          lives = λ l. l;
          had = λ _ l. inl l;
          stored = stored_set sizes s.words slot y (within s h) (λ e. let dead = ap alive e ∙ (raw_is 0 (omega arith)).0 in absurd (omega arith))
              (owned_shows y (omega arith))
              (λ c. absurd (in_no_cell_too s h at own one c));
          kinds = kind_steps.shares_again sizes s.words s.views h.kinds h.records.each id v at slot y (shared_again slot y v) inside
              (wrote_long s h at y) rests refl holds kind (here s.words y (within s h)) (no_other s h at own one y is_one)
              is_one (in_no_cell_too s h at own one) (post s h at (shared_again slot y v) refl refl refl refl (λ l. l));
        })

  -- beside a slot's owner it learns what it knows of the slot, and nothing changes
  pub recalls : (jd : ℕ) (u : View) (slot : ℕ) (shared : Bool) (value : Gv) → Owns u slot → ¬ (Holds u slot)
      → get_elem? u.fractions.owns 0 ≡ some (record { slot = slot; shared = shared; value = value })
      → AllowsBeside (DomainInvariant γ sizes) slots id me jd u (LearnsOwned slot shared value me)
  recalls jd u slot shared value own free first s h _ at there = (
    v,
    keeps,
    tt,
    subst (λ (vs : List View). DomainInvariant γ sizes record { words = s.words; homes = s.homes; views = vs }) (sym (set_again s.views id v at)) h,
    (
      refl,
      λ lone. let one = one_place γ sizes s h id v at lone in let is = finds sizes s.words s.views h.kept.parts.lone id v at one live slot in record {
        newest = h.filled.knows one id jd v u (record { slot = slot; shared = shared; value = value }) at live there (inl (0, first));
        alive = subst (λ (x : ℕ). 0 < alive x) is (let o = owner_in codes sound sizes s.words s.views h.kept.parts.slots jd slot u there in omega arith);
        kind = sym (ap kind_of is) ∙ (h.kinds.each jd u there).told (record { slot = slot; shared = shared; value = value }) (0, first) free;
      },
    ),
  )

  -- look at the next place for a guard
  pub looks_for_guard : (place : ℕ) → place < n → place ≡ v.slots.looked
      → May (state_word sizes place) (λ x. x) (λ r me'. (me'.1 ≡ me.1) × LooksForGuard (state_word sizes place) v r me'.0)
  looks_for_guard place low next = let j : ℕ = state_word sizes place in
      lift_calm γ sizes slots id me j (λ x. x) (LooksForGuard j v) (λ r me'. (me'.1 ≡ me.1) × LooksForGuard j v r me'.0)
      (keeps_ended γ sizes slots id me j (λ x. x) (LooksForGuard j v) (λ r w t. let c = t place refl in dite (ℕ_discrete r 2)
      (λ e. ap (λ (u : View). u.places) (c.1 e)) (λ ne. ap (λ (u : View). u.places) (c.0 ne))) (λ s h at p low e was. omega arith) (inl live))
      (steps.looks id v live place next)
      (λ r w t. (refl, t))
      (λ s w h at t. let c = t place refl in let x : ℕ = get_or s.words j 0 in
      let same = λ (k : ℕ) (_ : k < sizes.slots). ap (λ (l : List ℕ). full_at sizes l k) (set-get_or s.words j 0) in
      let calm = λ (w : View). IsCalm γ sizes slots id me j (λ x. x) s x w in
      let kinds = λ (w : View). kind_steps.calm sizes s.words s.views h.kinds h.records.each id v at (set s.words j x) w
      (words_beside sizes s.words j x (inr (omega arith), omega arith)) in
      dite (ℕ_discrete x 2)
      (λ e. subst calm (sym (c.1 e)) record {
        more = λ k p out. out;
        same = same;
        mover = h.homes.moving id v at;
        alike = (refl, refl, refl, (λ _. refl), refl);
        counts = refl;
        lives = λ l. l;
        had = λ _ l. inl l;
        stored = stored_same sizes s.words j;
        kinds = kinds v (refl, refl, refl, (λ _. refl), refl) refl refl (λ _ o. o) (post s h at v refl refl refl refl (λ l. l));
      })
      (λ ne. subst calm (sym (c.0 ne)) record {
        more = λ k p out. out;
        same = same;
        mover = h.homes.moving id v at;
        alike = (refl, refl, refl, (λ _. refl), refl);
        counts = refl;
        lives = λ l. l;
        had = λ _ l. inl l;
        stored = stored_same sizes s.words j;
        kinds = kinds (looked_past place v) (refl, refl, refl, (λ _. refl), refl) refl refl (λ _ o. o)
            (post s h at (looked_past place v) refl refl refl refl (λ l. l));
      }))

  -- the last guard is closed, whose fractions go home
  pub closes : IsOpen v.epoch → ¬ (Scans v.epoch) → v.epoch.place < n → v.fractions.moves ≡ None → CarriesSeen γ n v.epoch.place v.fractions.sees me.1
      → May (state_word sizes v.epoch.place) (λ _. 1) (λ _. ClosesHome me 1)
  closes is_open free near rests carries = let j : ℕ = state_word sizes v.epoch.place in let q : ℕ = v.epoch.place in let le : q ≤ n = omega arith in
      lift_homes γ sizes slots id me j (λ _. 1) (λ _. ClosesAll v 1) (λ _. ClosesHome me 1)
      (keeps_ended γ sizes slots id me j (λ _. 1) (λ _. ClosesAll v 1) (λ r w t. ap (λ (u : View). u.places) t) (own_place γ sizes id v live 1) (inl live))
      (over.closes sizes id v is_open free near)
      (λ s w h at t. let f = h.kept.parts.slots.each id v at in let long = h.kept.parts.slots.long in
      let r = h.records in let told = r.each id v at in let mine = records.mine sizes s.views s.homes r id v at in
      let low : (k : ℕ) → 0 < times k v.slots.sees → k < sizes.slots = λ k sees. let seen = told_seen v told k sees in told.inside k seen.0 (inr (inl seen.1))
      in
      let g = gives_carried γ n q sizes.slots le v.fractions.sees (λ k a. low k (subst (λ (l : List ℕ). 0 < times k l) told.sees a))
      s.homes me.1 h.homes.deep carries in
      let now : View = record v {
        epoch = Rattle.sdd_domain_invariant.specs.Epoch.EpochSteps.closed v.epoch;
        slots = Rattle.sdd_domain_invariant.specs.Slots.SlotSteps.unseeing
            v;
      } in
      let same = λ (k : ℕ). before_slots sizes s.words j 1 k (omega arith) in
      subst (Follows γ sizes id j me (λ _. ClosesHome me 1) s 1) (sym t) record {
        fractions = record v.fractions { sees = [] };
        act = g.act;
        valid = g.valid;
        homes = part.closes γ sizes s.words s.views s.homes h.homes id v at q le near me.1 g (set s.words j 1) (unsighted now) told.sees refl
            rests (λ k sees. same k ∙ seen_valued γ sizes s h id v at k sees) (λ k _. same k) (none_out (unsighted now) rests);
        records = records.no_more sizes s.views s.homes r id v at (unsighted now) (λ is. r.deposits id v at is) (homes_after s.homes me.1 g.act)
            record {
              owns = told.owns;
              owned = told.owned;
              sees = refl;
              waits = told.waits;
              waiting = told.waiting;
              inside = λ k a c. told.inside k a (known_by (unsighted now) k a (λ d. inl d) (λ d. absurd (in_none k a d)) (λ d. inr (inr d)) c);
            }
            (λ k a c. known_by (unsighted now) k a (λ d. mine k a (inl d)) (λ d. absurd (in_none k a d)) (λ d. mine k a (inr (inr d))) c)
            (λ k p y _ near' lies. ⊎_elim
            (λ (d : (k' : ℕ) × (a : Gv) × IsIn v.fractions.sees k' a × (fraction_at n k p ≡ fraction_at n k' q) × Has γ k' 1 (IsValue a) y).
            inr (λ a c. d.4.1.1 ∙ r.agree d.0 d.1 a (mine d.0 d.1 (inr (inl d.2)))
            (subst (λ (l : ℕ). IsKnown s.views l a) (one_slot n k d.0 p q near' le d.3) c)))
            (λ (d : LiesAt n s.homes k p y). inl d) (g.home (fraction_at n k p) y lies))
            (λ k m. m) (λ k sees. absurd (omega arith));
        counts = uncounted sizes s.words s.views h.counts id v at (set s.words j 1) (unsighted now) refl (λ _. omega arith)
            (as_full sizes s.words (set s.words j 1) (λ k _. same k))
            (ended_spared sizes s.words j 1 (own_place γ sizes id v live 1 s h at) n (omega arith));
        filled = still_filled s h at (unsighted now) refl refl refl;
        bank = banks.calm γ sizes s.words s.views h.bank id v at (set s.words j 1) (unsighted now)
            record { bank = refl; founds = refl; gamma = refl; banked = refl; drawn = refl } refl (h.bank.low id v at) (λ k _. same k);
        lasts = lasts_kept sizes s.words s.views s.homes h.lasts id v at (set s.words j 1) (unsighted now) (homes_after s.homes me.1 g.act)
            (λ k p y low' near' lies. ⊎_elim
            (λ (d : (k' : ℕ) × (a : Gv) × IsIn v.fractions.sees k' a × (fraction_at n k p ≡ fraction_at n k' q) × Has γ k' 1 (IsValue a) y).
            let slot = one_slot n k d.0 p q near' le d.3 in
            let of : p ≡ q = one_fraction n d.0 p q (subst (λ (l : ℕ). fraction_at n l p ≡ fraction_at n d.0 q) slot d.3) in
            let known : IsKnown s.views k d.1 = subst (λ (l : ℕ). IsKnown s.views l d.1) (sym slot) (mine d.0 d.1 (inr (inl d.2))) in
            inr ((λ e. absurd (omega arith)), λ z last. d.4.1.1 ∙ sym (r.home k n d.1 z low' (omega arith) known last)))
            (λ (d : LiesAt n s.homes k p y). inl d) (g.home (fraction_at n k p) y lies))
            (λ b. (b, refl)) refl (λ _ _. inl live) (stored_beside sizes s.words j 1 (inr (omega arith), omega arith));
        kinds = kind_steps.same sizes s.words s.views h.kinds h.records.each id v at (unsighted now) refl refl refl refl refl refl (set s.words j 1)
            (words_beside sizes s.words j 1 (inr (omega arith), omega arith)) (post s h at (unsighted now) refl refl refl refl (λ _. omega arith));
        tells = (now, refl, refl, g.carried);
      })

-- a place that is nobody's is barred, by a seat without a place
module _ (γ : ℕ) (sizes : Sizes) (slots id : ℕ) (me : SeatState) (p state : ℕ) (inside : p < sizes.participants) (next : p ≡ me.0.places.ended)
    (nobodys : IsNobodys state) where
  abbrev spot : ℕ
  spot = state_word sizes p

  abbrev bar_it : ℕ → ℕ
  bar_it x = either (eqb x state) 4 x

  -- it makes no place less so that has ended, and bars it
  no_less : (x : ℕ) → x ≤ bar_it x
  no_less x = exchanged x state 4 (λ y. x ≤ y)
      (λ hit. ⊎_elim (λ (none : state ≡ 0). omega arith) (λ (over : state ≡ 3). omega arith) nobodys) (λ miss. omega arith)

  bars_it : (x : ℕ) → (x ≡ state) ⊎ IsBarred x → IsBarred (bar_it x)
  bars_it x c = exchanged x state 4 IsBarred (λ hit. omega arith)
      (λ miss. ⊎_elim (λ (e : x ≡ state). absurd (miss e)) (λ (b : IsBarred x). b) c)

  module _ (s : State ValueFraction View) (h : DomainInvariant γ sizes s) (at : get_elem? s.views id ≡ some me.0) where
    abbrev found : ℕ
    found = get_or s.words spot 0

    abbrev left : ℕ
    left = bar_it found

    left_over : Spares sizes s.words spot left
    left_over q low e was = no_less found

    still_over : AreBarred sizes (set s.words spot left) me.0
    still_over = one_spared sizes s.words spot left me.0 me.0 left_over refl (h.kept.places.ended id me.0 at)

    now_over : IsBarred left → AreBarred sizes (set s.words spot left) (past p me.0)
    now_over over q low l = dite (ℕ_discrete q p)
        (λ e. let there = ap (λ (k : ℕ). get_or (set s.words spot left) (state_word sizes k) 0) e
        ∙ get_or-set_same s.words spot left 0 (let wide = h.kept.parts.epoch.wide in omega arith) in omega arith)
        (λ ne. still_over q low (omega arith))

    hushed : Hushes sizes s.words spot left
    hushed k e was = absurd (omega arith)

    still_quiet : AreQuiet sizes (set s.words spot left) me.0
    still_quiet = one_hushed sizes s.words spot left s.views id me.0 me.0 at (inr hushed) refl (h.kept.places.quiet id me.0 at)

    -- as long as a place is left to end, no slot is known to be quiet
    now_quiet : AreQuiet sizes (set s.words spot left) (past p me.0)
    now_quiet k low = absurd (let all = (still_quiet k low).1 in omega arith)

    bars_calm : (w : View) → (w ≡ past p me.0) ⊎ (w ≡ me.0) → IsCalm γ sizes slots id me spot bar_it s left w
    bars_calm w which = let same = λ (j : ℕ) (_ : j < sizes.slots). before_slots sizes s.words spot left j (omega arith) in
        let calm = IsCalm γ sizes slots id me spot bar_it s left in
        let mover = h.homes.moving id me.0 at in
        let kinds = λ (u : View). kind_steps.calm sizes s.words s.views h.kinds h.records.each id me.0 at (set s.words spot left) u
        (words_beside sizes s.words spot left (inr (omega arith), omega arith)) in
        ⊎_elim (λ (e : w ≡ past p me.0). subst calm (sym e) record {
          more = λ j q out. out;
          same = same;
          mover = mover;
          alike = (refl, refl, refl, (λ _. refl), refl);
          counts = refl;
          lives = λ l. l;
          had = λ _ l. inl l;
          stored = stored_beside sizes s.words spot left (inr (omega arith), omega arith);
          kinds = kinds (past p me.0) (refl, refl, refl, (λ _. refl), refl) refl refl (λ _ o. o)
              (same_post me.0 (past p me.0) refl refl refl refl (λ l. l) refl refl);
        })
        (λ (e : w ≡ me.0). subst calm (sym e) record {
          more = λ j q out. out;
          same = same;
          mover = mover;
          alike = (refl, refl, refl, (λ _. refl), refl);
          counts = refl;
          lives = λ l. l;
          had = λ _ l. inl l;
          stored = stored_beside sizes s.words spot left (inr (omega arith), omega arith);
          kinds = kinds me.0 (refl, refl, refl, (λ _. refl), refl) refl refl (λ _ o. o) (same_post me.0 me.0 refl refl refl refl (λ l. l) refl refl);
        }) which

  which_of : (r : ℕ) (w : View) → Bars sizes state spot me.0 r w → ((r ≡ state) ⊎ IsBarred r) × (w ≡ past p me.0) ⊎ (w ≡ me.0)
  which_of r w t = let c = t p refl in dite (ℕ_discrete r state) (λ e. inl (inl e, c.0 (inl e)))
      (λ ne. dite (dec_lt 3 r) (λ b. inl (inr (omega arith), c.0 (inr (omega arith)))) (λ no. inr (c.1 ne (λ b. no (omega arith)))))

  pub bars : Allows (DomainInvariant γ sizes) slots id me spot bar_it (λ r me'. (me'.1 ≡ me.1) × Bars sizes state spot me.0 r me'.0)
  bars = lift_calm γ sizes slots id me spot bar_it (Bars sizes state spot me.0) (λ r me'. (me'.1 ≡ me.1) × Bars sizes state spot me.0 r me'.0)
      (λ s w h at t. let x : ℕ = get_or s.words spot 0 in let y : ℕ = bar_it x in (
        left_over s h at,
        ⊎_elim (λ (c : ((x ≡ state) ⊎ IsBarred x) × (w ≡ past p me.0)). subst (AreBarred sizes (set s.words spot y)) (sym c.1)
            (now_over s h at (bars_it x c.0)))
            (λ (e : w ≡ me.0). subst (AreBarred sizes (set s.words spot y)) (sym e) (still_over s h at)) (which_of x w t),
        inr (hushed s h at),
        ⊎_elim (λ (c : ((x ≡ state) ⊎ IsBarred x) × (w ≡ past p me.0)). subst (AreQuiet sizes (set s.words spot y)) (sym c.1) (now_quiet s h at))
            (λ (e : w ≡ me.0). subst (AreQuiet sizes (set s.words spot y)) (sym e) (still_quiet s h at)) (which_of x w t),
      ))
      (barring.bars sizes id p state me.0 inside nobodys) (λ r w t. (refl, t))
      (λ s w h at t. bars_calm s h at w (⊎_elim (λ (c : ((get_or s.words spot 0 ≡ state) ⊎ IsBarred (get_or s.words spot 0)) × (w ≡ past p me.0)). inl c.1)
      (λ (e : w ≡ me.0). inr e) (which_of (get_or s.words spot 0) w t)))

-- the word of the next slot is looked at, whether it is free, by a seat that knows that all places are barred
module _ (γ : ℕ) (sizes : Sizes) (slots id : ℕ) (me : SeatState) (slot : ℕ) (next : slot ≡ me.0.places.quiet)
    (all : sizes.participants ≤ me.0.places.ended) where
  abbrev word : ℕ
  word = slot_word sizes slot

  module _ (s : State ValueFraction View) (h : DomainInvariant γ sizes s) (at : get_elem? s.views id ≡ some me.0) where
    -- a look leaves the words
    abbrev after : List ℕ
    after = set s.words word (get_or s.words word 0)

    as_before : after ≡ s.words
    as_before = set-get_or s.words word 0

    quiet_before : AreQuiet sizes s.words me.0
    quiet_before = h.kept.places.quiet id me.0 at

    quiet_now : full (get_or s.words word 0) ≡ 0 → AreQuiet sizes s.words (past_quiet me.0)
    quiet_now dead k low = (
      dite (ℕ_discrete k slot) (λ e. ap (λ (j : ℕ). full (slot_at sizes s.words j)) e ∙ dead) (λ ne. (quiet_before k (omega arith)).0),
      all,
    )

  look_keeps_all : Keeps γ sizes slots id me word (λ x. x) (LooksForValue me.0)
  look_keeps_all s w h at t = let x : ℕ = get_or s.words word 0 in let ended = h.kept.places.ended id me.0 at in (
    (λ p low e was. omega arith),
    subst (λ (ws : List ℕ). AreBarred sizes ws w) (sym (as_before s h at))
        (dite (ℕ_discrete (full x) 0) (λ dead. subst (AreBarred sizes s.words) (sym (t.0 dead)) ended)
        (λ taken. subst (AreBarred sizes s.words) (sym (t.1 taken)) ended)),
    inr (λ k e dead. dead),
    subst (λ (ws : List ℕ). AreQuiet sizes ws w) (sym (as_before s h at))
        (dite (ℕ_discrete (full x) 0) (λ dead. subst (AreQuiet sizes s.words) (sym (t.0 dead)) (quiet_now s h at dead))
        (λ taken. subst (AreQuiet sizes s.words) (sym (t.1 taken)) (quiet_before s h at))),
  )

  -- it knows no more but of places and of what is quiet
  looked_for : (r : ℕ) (w : View) → LooksForValue me.0 r w → (t : EndedView) × (w ≡ record me.0 { places = t })
  looked_for r w t = dite (ℕ_discrete (full r) 0) (λ dead. ((past_quiet me.0).places, t.0 dead)) (λ taken. (me.0.places, t.1 taken))

  pub looks_for_value : Allows (DomainInvariant γ sizes) slots id me word (λ x. x) (λ r me'. (me'.1 ≡ me.1) × LooksForValue me.0 r me'.0)
  looks_for_value = lift_calm γ sizes slots id me word (λ x. x) (LooksForValue me.0) (λ r me'. (me'.1 ≡ me.1) × LooksForValue me.0 r me'.0)
      look_keeps_all (barring.looks_for_value sizes id word me.0) (λ r w t. (refl, t))
      (λ s w h at t. let x : ℕ = get_or s.words word 0 in
      subst (IsCalm γ sizes slots id me word (λ x. x) s x) (sym (looked_for x w t).1) record {
        more = λ j q out. out;
        same = λ j _. ap (λ (l : List ℕ). full_at sizes l j) (as_before s h at);
        mover = h.homes.moving id me.0 at;
        alike = (refl, refl, refl, (λ _. refl), refl);
        counts = refl;
        lives = λ l. l;
        had = λ _ l. inl l;
        stored = stored_same sizes s.words word;
        kinds = kind_steps.calm sizes s.words s.views h.kinds h.records.each id me.0 at (set s.words word x) (record me.0 { places = (looked_for x w t).0 })
            (subst (SameWords sizes s.words) (sym (as_before s h at)) (no_change sizes s.words)) (refl, refl, refl, (λ _. refl), refl) refl refl (λ _ o. o)
            (same_post me.0 (record me.0 { places = (looked_for x w t).0 }) refl refl refl refl (λ l. l) refl refl);
      })
