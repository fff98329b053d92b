-- When an item began to wait, after each step of a state
use Rattle.sdd_script_model.proofs.Words.{entry_at, with_entry, IsFirst, Limits, without_cell, spilled, held_in, out-inside, out-waits-not, IsStart, IsSharedBy, IsTrue, nat_tests, ◌↔◌, ◌≡◌, ◌≢◌, ℕ, ◌<◌, ◌≤◌, Bool, true, false, if◌then◌else◌, List, Option, Some, None, length, slice_index_or, slice_set, inl, inr, refl, sym, ap, ◌∙◌, arith, Standing, Shared, is_waiting, World, standing_at, owner_given, cell_closed, is_out, Val, ScriptState, IsDated, date_at, cases_eq, common_steps, slice_index}
use Rattle.sdd_script_model.proofs.Entry.{set-either, at-blank}
use Rattle.sdd_script_model.proofs.ReclaimedSlots.{given-other}

-- ---- other slots

-- a slot stands so, and waits not: what waits now did before
pub waited : (ss : List (Option Standing)) (k : ℕ) (x : Standing) → is_waiting (Some x) ≡ false → (s : ℕ) →
    is_waiting (slice_index_or (with_entry ss k x) s None) ≡ true → is_waiting (slice_index_or ss s None) ≡ true
waited ss k x idle s waits = let either = set-either ss k s (Some x) None in grind arith

-- a new item waits not
pub first-waits-not : (s : Standing) → IsFirst s → is_waiting (Some s) ≡ false
first-waits-not s first = grind arith

-- a cell is closed: each slot stands as before, but that of what it held
pub closed-other : (w : World Val) (p c s : ℕ) → held_in (entry_at w.cells c) ≢ Some s → standing_at (cell_closed w p c) s ≡ standing_at w s
closed-other w p c s apart = by (held_in (entry_at w.cells c)) apart where
  by : (held : Option ℕ) → held ≢ Some s → standing_at (spilled (without_cell w c) p held) s ≡ standing_at w s
  by None apart = refl
  by (Some k) apart = given-other (without_cell w c) p k s (standing_at w k) refl (λ same. apart (ap (λ j. Some j) (sym same)))

-- ---- dates

abbrev dated-as : (now was : Bool) (date moment : ℕ) → ℕ
dated-as now was date moment = if now then (if was then date else moment) else date

-- one that doesn't begin to wait has its date
keeps-date : (now was : Bool) (date moment : ℕ) → (now ≡ true → was ≡ true) → date ≡ dated-as now was date moment
keeps-date now was date moment still = grind arith

module _ (d new : ScriptState) where
  -- no slot begins to wait
  pub dated-kept : new.dates ≡ d.dates → ((s : ℕ) → is_waiting (standing_at new.world s) ≡ true → is_waiting (standing_at d.world s) ≡ true) → IsDated d new
  dated-kept dates still = record {
    dated = λ s. ap (λ ds. slice_index ds s) dates ∙ keeps-date _ _ (date_at d s) d.moment (still s);
    long = ap length dates;
  }

  -- all stands as before
  pub dated-same : new.dates ≡ d.dates → new.world.standings ≡ d.world.standings → IsDated d new
  dated-same dates same = dated-kept dates (λ s waits. ap (λ ss. is_waiting (slice_index_or ss s None)) (sym same) ∙ waits)

  -- slot k stands so, and waits not
  pub dated-stands : (k : ℕ) (x : Standing) → is_waiting (Some x) ≡ false → new.dates ≡ d.dates → new.world.standings ≡ with_entry d.world.standings k x →
      IsDated d new
  dated-stands k x idle dates standings =
      dated-kept dates (λ s waits. waited d.world.standings k x idle s (ap (λ ss. is_waiting (slice_index_or ss s None)) (sym standings) ∙ waits))

  -- no slot but k begins to wait; this one does, or not
  pub dated-either : (k : ℕ) → is_waiting (standing_at d.world k) ≡ false → k < length d.dates →
      new.dates ≡ (if is_waiting (standing_at new.world k) then slice_set d.dates k d.moment else d.dates) →
      ((s : ℕ) → s ≢ k → is_waiting (standing_at new.world s) ≡ true → is_waiting (standing_at d.world s) ≡ true) → IsDated d new
  dated-either k idle lt dates others = record {
    dated = λ s. elim (cases_eq s k) [
      | inl is ↦ rw (is, idle, dates) (grind (arith, common_steps))
      | inr apart ↦
          (let same : date_at new s ≡ date_at d s = rw dates (grind (arith, common_steps)) in
          same ∙ keeps-date _ _ (date_at d s) d.moment (others s apart))
    ];
    long = rw dates (grind (arith, common_steps));
  }

  -- slot k, which was out, waits, and stands so
  pub dated-one : (k : ℕ) (x : Standing) → is_waiting (Some x) ≡ true → is_out (standing_at d.world k) ≡ true → length d.dates ≡ length d.world.standings →
      new.dates ≡ slice_set d.dates k d.moment → new.world.standings ≡ with_entry d.world.standings k x → IsDated d new
  dated-one k x waits_so out long dates standings =
      let lt = out-inside d.world.standings k out in
      let now : is_waiting (standing_at new.world k) ≡ true = rw standings (grind (arith, common_steps)) in
      dated-either k (out-waits-not (standing_at d.world k) out) (omega (arith, lt, long)) (rw now dates)
      (λ s apart waits. let waits_so = rw standings at waits in grind (arith, common_steps))

  -- an owner of several is given up: the last one's item begins to wait
  pub dated-released : (p k n : ℕ) (last : Bool) → IsSharedBy n (standing_at d.world k) → (IsTrue last ↔ (n ≡ 1)) →
      length d.dates ≡ length d.world.standings → new.dates ≡ (if last then slice_set d.dates k d.moment else d.dates) →
      new.world.standings ≡ (owner_given d.world p k (Some (Shared n))).standings → IsDated d new
  dated-released p k n last stands is_last long dates standings =
      let lt = out-inside d.world.standings k (ap is_out stands.shared) in
      let now : is_waiting (standing_at new.world k) ≡ last = rw standings (grind (arith, common_steps, nat_tests)) in
      dated-either k (ap is_waiting stands.shared) (omega (arith, lt, long)) (rw now dates)
      (λ s apart waits. sym (ap is_waiting (given-other d.world p k s (Some (Shared n)) stands.shared apart))
      ∙ ap (λ ss. is_waiting (slice_index_or ss s None)) (sym standings) ∙ waits)

  -- an item that waited before has its date
  pub date-before : IsDated d new → (s : ℕ) → is_waiting (standing_at new.world s) ≡ true → is_waiting (standing_at d.world s) ≡ true →
      date_at new s ≡ date_at d s
  date-before dated s now was = rw (now, was) at (dated.dated s)

  -- no date is later than the line
  pub early-dated : IsDated d new → d.moment ≤ new.moment → ((s : ℕ) → date_at d s ≤ d.moment) → (s : ℕ) → date_at new s ≤ new.moment
  early-dated dated moment early s = let date = dated.dated s in let le = early s in grind arith

-- no line was so far
pub early-start : {limits : Limits} (d : ScriptState) → IsStart limits d → (s : ℕ) → date_at d s ≤ d.moment
early-start {limits} d start s = omega (arith, ap (λ ds. slice_index ds s) start.dates, at-blank {E = ℕ} 0 limits.slots s)
