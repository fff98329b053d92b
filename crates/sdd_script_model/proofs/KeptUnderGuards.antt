-- What began to wait under a guard can't go as long as it is open
use Rattle.sdd_script_model.proofs.Words.{Limits, in_world, WorldStep, CannotGo, safe-call, opens-keeps, BeginsLine, IsStart, IsSafe, registered, ended, closed, safe-not-due, ◌≡◌, ◌≢◌, ℕ, ◌<◌, ◌≤◌, true, false, nat_lt, List, Some, None, IsSome, length, inl, inr, sym, ap, ◌∙◌, subst, arith, Contains, IsTrue, cases_lt, Item, IsVacant, is_open, is_waiting, World, IsPlaceOf, place_at, standing_at, opened, reclaims, IsWhole, is_out, Val, holdings_of, ScriptState, OpenSince, IsDated, opening_at, date_at, ParticipantsMatch, KeepsRecentItems, IsSound, nat_tests, ◌⊎◌, common_steps}
use Rattle.sdd_world_model.specs.WorldStep.WorldStep.{opens}
use Rattle.sdd_script_model.proofs.ParticipantsMatch.{left-entry, place, opens-one, open-place, closed-guards, entry-before}
use Rattle.sdd_script_model.proofs.Dates.{date-before}
use Rattle.sdd_script_model.proofs.ReclaimedSlots.{reclaimed-waits}
use Rattle.sdd_script_model.proofs.SlotsHaveNames.{KeepsSlots, begins-out, slots-opened}
use Rattle.sdd_script_model.specs.ScriptState as state

-- each participant that has a guard open had one open before, since the same line
abbrev pub WereOpen : ScriptState → ScriptState → Type 0
WereOpen d new = (n : ℕ) (x : OpenSince) → opening_at new.places n ≡ Some x → IsTrue (is_open (place_at new.world x.place)) →
    (opening_at d.places n ≡ Some x) × IsTrue (is_open (place_at d.world x.place))

-- what is safe stays so, where the guard is open afterwards
abbrev pub KeepsSafe : World Val → World Val → Type 0
KeepsSafe v w = (p s : ℕ) → IsTrue (is_open (place_at w p)) → IsSafe v p s → IsSafe w p s

-- what begins to wait was out
abbrev pub BeginsOut : World Val → World Val → Type 0
BeginsOut v w = (s : ℕ) → is_waiting (standing_at w s) ≡ true → is_waiting (standing_at v s) ≡ false → is_out (standing_at v s) ≡ true

module _ (d new : ScriptState) (kept : KeepsRecentItems d) (dated : IsDated d new) where
  -- for a participant that had a guard open
  kept-from : KeepsSafe d.world new.world → BeginsOut d.world new.world → (n s : ℕ) (x : OpenSince) → opening_at d.places n ≡ Some x →
      IsTrue (is_open (place_at d.world x.place)) → IsTrue (is_open (place_at new.world x.place)) → is_waiting (standing_at new.world s) ≡ true →
      x.since ≤ date_at new s → IsSafe new.world x.place s
  kept-from keeps begins n s x there before o waits since =
      let date = date-before d new dated s waits in let was = kept n s x there before in let safe = keeps x.place s o in
      let out = begins s waits in grind arith

  pub kept-by : WereOpen d new → KeepsSafe d.world new.world → BeginsOut d.world new.world → KeepsRecentItems new
  kept-by were keeps begins n s x there o waits since =
      let before = were n x there o in kept-from keeps begins n s x before.0 before.1 o waits since

  module _ (whole : IsWhole d.world) where
    -- one call
    pub kept-call : WorldStep holdings_of d.world new.world → KeepsSlots d.world new.world → WereOpen d new → KeepsRecentItems new
    kept-call call slots were = kept-by were (λ p s o safe. safe-call p s holdings_of call whole safe o) (begins-out slots)

-- nobody is there
pub kept-start : {limits : Limits} (d : ScriptState) → IsStart limits d → KeepsRecentItems d
kept-start d start n s x there o waits since =
    absurd (let never : None ≡ Some x = sym (ap (λ ps. opening_at ps n) start.places) ∙ there in cc)

-- ---- who had a guard open before

-- nobody comes or goes, and no guard is opened or closed
pub were-same : (d new : ScriptState) → new.places ≡ d.places → ((q : ℕ) → (place_at new.world q).guards ≡ (place_at d.world q).guards) → WereOpen d new
were-same d new places same n x there o = (ap (λ ps. opening_at ps n) (sym places) ∙ there, subst (λ g. IsTrue (nat_lt 0 g)) (same x.place) o)

module _ (d : ScriptState) (a : ParticipantsMatch d) where
  pub were-registered : (p : ℕ) → IsVacant d.world.time p → length d.world.time.phases ≡ length d.world.time.places →
      WereOpen d (in_world (state.with_newcomer d p) (registered d.world p))
  were-registered p vacant phased n x there o = grind (arith, common_steps)

  pub were-closed : (g p : ℕ) (y : OpenSince) → opening_at d.guards g ≡ Some y → y.place ≡ p
      → WereOpen d (in_world (state.without_guard d g) (closed d.world p))
  were-closed g p y guard is n x there o = let fewer = closed-guards d a g p y guard is x.place in (there, grind (arith, nat_tests))

pub were-ended : (d : ScriptState) (n q : ℕ) → WereOpen d (in_world (state.without_participant d n) (ended d.world q))
were-ended d n q m x there o = ((left-entry d.places n m x there).1, o)

-- ---- an opening

-- what began to wait as p opened waits with it, and has seen no change
fresh-safe : (w : World Val) (p s : ℕ) → IsPlaceOf w p → IsWhole w → is_out (standing_at w s) ≡ true →
    is_waiting (standing_at (opened holdings_of w p) s) ≡ true → IsTrue (is_open (place_at (opened holdings_of w p) p)) → IsSafe (opened holdings_of w p) p s
fresh-safe w p s l whole out waits o = let either = (opens-keeps p s holdings_of w l.0 whole out).1 in grind (arith, common_steps)

module _ (d : ScriptState) (a : ParticipantsMatch d) (kept : KeepsRecentItems d) (whole : IsWhole d.world) (earlier : BeginsLine d) (n : ℕ) (x : OpenSince)
    (there : opening_at d.places n ≡ Some x) (dates : List ℕ) where
  abbrev new : ScriptState
  new = record (in_world (state.with_guard d n x.place) (opened holdings_of d.world x.place)) { dates = dates }

  pub live : IsPlaceOf d.world x.place
  live = a.inside n x there

  pub call : WorldStep holdings_of d.world new.world
  call = opens d.world x.place live

  -- who did not open it now had its guard open before
  pub open-before : (m : ℕ) (y : OpenSince) → opening_at d.places m ≡ Some y → (is_open (place_at d.world x.place) ≡ true) ⊎ (m ≢ n) →
      IsTrue (is_open (place_at new.world y.place)) → IsTrue (is_open (place_at d.world y.place))
  open-before m y entry other o =
      let one = (opens-one d.world x.place live.0).guards y.place in let apart = a.apart m n y x entry there in grind (arith, nat_tests)

  module _ (dated : IsDated d new) where
    -- what has a date since this line began to wait in it
    own-safe : (s : ℕ) → IsTrue (is_open (place_at new.world x.place)) → is_waiting (standing_at new.world s) ≡ true → d.moment ≤ date_at new s →
        IsSafe new.world x.place s
    own-safe s o waits since =
        let date = date-before d new dated s waits in let early = earlier.dates s in
        let out = begins-out (slots-opened d.world x.place) s waits in let safe = fresh-safe d.world x.place s live whole in grind arith

    -- participant n opens a guard at its place, in a line after all dates
    pub kept-opened : KeepsRecentItems new
    kept-opened m s y entry o waits since =
        elim (entry-before d a n x there (is_open (place_at d.world x.place)) m y entry) [
          | inl old ↦
              kept-from d new kept dated (λ p k o safe. safe-call p k holdings_of call whole safe o) (begins-out (slots-opened d.world x.place))
              m s y old.0 (open-before m y old.0 old.1 o) o waits since
          | inr own ↦
              subst (λ (z : OpenSince). IsSafe new.world z.place s) own.1
              (own-safe s (subst (λ q. IsTrue (is_open (place_at new.world q))) (sym (ap place own.1)) o) waits
              (omega (arith, since, ap (λ (z : OpenSince). z.since) own.1)))
        ]

-- ---- what is not reclaimed

module _ (d : ScriptState) (s : IsSound d) where
  -- what a participant whose guard is open can't have had since it opened it is older than that guard
  pub since-before : (g : ℕ) (y : OpenSince) → opening_at d.guards g ≡ Some y → (date : ℕ) →
      ((n : ℕ) (x : OpenSince) → opening_at d.places n ≡ Some x → IsTrue (is_open (place_at d.world x.place)) → x.since ≤ date → ⊥) → date < y.since
  since-before g y guard date never =
      let who = s.attended.since g y guard in
      let not = never who.0 who.1 who.2 (open-place d s.attended g who.1.place y guard (sym who.3)) in
      elim (cases_lt date y.since) [ inl earlier ↦ earlier | inr since ↦ absurd (not (omega (arith, since, who.4))) ]

  -- what an opening reclaims began to wait before any guard was opened that is open
  pub not-under : IsWhole d.world → (p k : ℕ) → IsPlaceOf d.world p → Contains (reclaims d.world p) (Item k) → (g : ℕ) (y : OpenSince) →
      opening_at d.guards g ≡ Some y → date_at d k < y.since
  not-under whole p k l c g y guard =
      since-before g y guard (date_at d k) (λ n x there o since.
      let safe = s.kept n k x there o (reclaimed-waits d.world p whole k c).0 since in
      safe-not-due x.place k holdings_of d.world p l.0 whole safe c)

  -- a participant whose guard is open can point to what did not begin to wait before
  pub can-point : (n k : ℕ) (x : OpenSince) → opening_at d.places n ≡ Some x → IsTrue (is_open (place_at d.world x.place)) → IsSome (standing_at d.world k) →
      (IsTrue (is_waiting (standing_at d.world k)) → x.since ≤ date_at d k) → CannotGo d.world x.place k
  can-point n k x there o taken since = grind (arith, common_steps)
