-- What one line more makes of what the lines so far say
use Rattle.sdd_script_model.proofs.Words.{◌&&◌, not, list_all, option_map, zero, is_ended, NobodyEnded, Entries, PlaceState, Job, Line, adopts, caller, changes, count_shown, has_ended, is_waiting_in, last_found, leaves_none_ended, open_guards, opens, start_of, ◌||◌, Start, begins, ◌≡◌, ◌⊎◌, ℕ, suc, ◌+◌, ◌<◌, ◌≤◌, ◌==◌, Bool, true, false, List, [], ◌∷◌, Option, Some, None, IsSome, is_some, length, slice_index_or, inl, inr, refl, sym, ap, ◌∙◌, subst, false≢true, LimboEntry, Item, is_waiting, World, IsPlaceOf, place_at, phase_at, IsWhole, Val, ScriptState, OpenSince, opening_at}
use Rattle.sdd_script_model.specs.Due.{closes, ends}
use Rattle.sdd_script_model.proofs.Lemmas.{inside}
use Rattle.sdd_script_model.proofs.WaitsAt.{AwaitsAt}

-- ---- places

-- where the participant of a name is, if it is there
abbrev pub home : List (Option OpenSince) → ℕ → Option ℕ
home places n = option_map (λ (x : OpenSince). x.place) (opening_at places n)

pub home-inside : (places : List (Option OpenSince)) (n q : ℕ) → home places n ≡ Some q → n < length places
home-inside places n q e = inside places n (by (opening_at places n) e) where
  by : (x : Option OpenSince) → option_map (λ (y : OpenSince). y.place) x ≡ Some q → IsSome x
  by None e = absurd (cc)
  by (Some x) e = refl

pub home-apart : (places : List (Option OpenSince)) (n q r : ℕ) → home places n ≡ Some q → home places n ≡ Some r → q ≡ r
home-apart places n q r e f = (let same : Some q ≡ Some r = sym e ∙ f in cc)

-- ---- whether an ended place is left

pub some-ended : (xs : Entries PlaceState) (q : ℕ) → is_ended (slice_index_or xs q None) ≡ true → list_all (λ phase. not (is_ended phase)) xs ≡ false
some-ended [] q e = absurd (false≢true e)
some-ended (x ∷ xs) zero e = rw e refl
some-ended (x ∷ xs) (suc q) e = by (not (is_ended x)) (some-ended xs q e) where
  by : (b : Bool) → list_all (λ phase. not (is_ended phase)) xs ≡ false → (b && list_all (λ phase. not (is_ended phase)) xs) ≡ false
  by true e = e
  by false e = refl

pub none-ended : (xs : Entries PlaceState) → NobodyEnded xs → list_all (λ phase. not (is_ended phase)) xs ≡ true
none-ended [] none = refl
none-ended (x ∷ xs) none = (let first : is_ended x ≡ false = none 0 in rw first (none-ended xs (λ q. none (suc q))))

-- ---- one line more

module _ (past : List Line) (line : Line) (n : ℕ) where
  pub quiet-found : opens n line ≡ false → last_found n (line ∷ past) ≡ last_found n past
  quiet-found e = rw e refl

  pub quiet-shown : opens (caller line.call) line ≡ false → count_shown (line ∷ past) ≡ count_shown past
  quiet-shown e = rw e refl

  pub quiet-changes : opens n line ≡ false → changes n (line ∷ past) ≡ changes n past
  quiet-changes e = rw e refl

  pub quiet-guards : opens n line ≡ false → closes n line ≡ false → open_guards n (line ∷ past) ≡ open_guards n past
  quiet-guards e f = rw (e, f) refl

  pub quiet-ended : ends n line ≡ false → has_ended n (line ∷ past) ≡ has_ended n past
  quiet-ended e = rw e refl

  -- who has ended has ended
  pub still-ended : has_ended n past ≡ true → has_ended n (line ∷ past) ≡ true
  still-ended e = by (ends n line) where
    by : (b : Bool) → (b || has_ended n past) ≡ true
    by true = refl
    by false = e

module _ (past : List Line) (line : Line) (x : LimboEntry) where
  -- what waited and waits did not begin to
  pub begins-not : is_waiting_in line.before.world x ≡ true → begins x line ≡ false
  begins-not was = by (is_waiting_in line.after.world x) where
    by : (b : Bool) → (b && not (is_waiting_in line.before.world x)) ≡ false
    by true = rw was refl
    by false = refl

  pub begins-now : is_waiting_in line.after.world x ≡ true → is_waiting_in line.before.world x ≡ false → begins x line ≡ true
  begins-now now was = rw (now, was) refl

  -- it has a start in this line
  abbrev pub here : Start
  here = record { holder = caller line.call; lines = line ∷ past }

  pub start-begun : begins x line ≡ true → start_of (line ∷ past) x ≡ here
  start-begun e = rw e refl

  pub start-adopted : begins x line ≡ false → has_ended (start_of past x).holder past ≡ true → adopts past line ≡ true → start_of (line ∷ past) x ≡ here
  start-adopted e f g = rw (e, f, g) refl

  pub start-kept : begins x line ≡ false → (has_ended (start_of past x).holder past && adopts past line) ≡ false →
      start_of (line ∷ past) x ≡ start_of past x
  start-kept e f = rw (e, f) refl

-- ---- what the lines say of a state

-- who holds what waits at a place: who is there, or has ended there
abbrev pub HoldsAt : List Line → ScriptState → (n q : ℕ) → Type 0
HoldsAt past d n q =
    (home d.places n ≡ Some q) ⊎ ((home d.places n ≡ None) × (has_ended n past ≡ true) × (is_ended (phase_at d.world.time q) ≡ true))

-- it waits with whom its last start says, and has seen the changes since
pub record HasSeen (past : List Line) (d : ScriptState) (x : LimboEntry) : Type 0 where
  pub place : ℕ
  pub seen : ℕ
  pub waits : AwaitsAt d.world place x seen
  pub held : HoldsAt past d (start_of past x).holder place
  pub count : changes (start_of past x).holder past ≡ changes (start_of past x).holder (start_of past x).lines + seen

pub record Tells (past : List Line) (d : ScriptState) : Type 0 where
  pub whole : IsWhole d.world
  pub inside : (n q : ℕ) → home d.places n ≡ Some q → IsPlaceOf d.world q
  pub apart : (n m q : ℕ) → home d.places n ≡ Some q → home d.places m ≡ Some q → n ≡ m
  pub found : (n q : ℕ) → home d.places n ≡ Some q → (place_at d.world q).found ≡ last_found n past
  pub guards : (n q : ℕ) → home d.places n ≡ Some q → (place_at d.world q).guards ≡ open_guards n past
  pub here : (n q : ℕ) → home d.places n ≡ Some q → has_ended n past ≡ false
  -- of a name that was not given yet there is no line
  pub fresh : (n : ℕ) → length d.places ≤ n → (last_found n past ≡ 0) × (open_guards n past ≡ 0) × (has_ended n past ≡ false)
  pub waits : (x : LimboEntry) → is_waiting_in d.world x ≡ true → HasSeen past d x
  -- the count was raised at most once since the last outermost opening, whoever's
  pub shown : (count_shown past ≤ d.world.time.count) × (d.world.time.count ≤ count_shown past + 1)
  pub behind : (n q : ℕ) → home d.places n ≡ Some q → (place_at d.world q).found ≤ count_shown past

-- with this as its last start
pub seen-as : (past : List Line) (d : ScriptState) (x : LimboEntry) (start : Start) → start_of past x ≡ start → (q c : ℕ) → AwaitsAt d.world q x c →
    HoldsAt past d start.holder q → changes start.holder past ≡ changes start.holder start.lines + c → HasSeen past d x
seen-as past d x start e q c waits held count = record {
  place = q;
  seen = c;
  waits = waits;
  held = subst (λ (y : Start). HoldsAt past d y.holder q) (sym e) held;
  count = subst (λ (y : Start). changes y.holder past ≡ changes y.holder y.lines + c) (sym e) count;
}

-- nothing is adopted in a line that leaves an ended place
left-over : (past : List Line) (line : Line) → leaves_none_ended line ≡ false → adopts past line ≡ false
left-over past line e = rw e (by (closes (caller line.call) line) (open_guards (caller line.call) past == 1)) where
  by : (a b : Bool) → (a && b && false) ≡ false
  by true true = refl
  by true false = refl
  by false b = refl

-- nor from a holder that did not end
pub not-adopted : (past : List Line) (d : ScriptState) (line : Line) (n q : ℕ) → ((m r : ℕ) → home d.places m ≡ Some r → has_ended m past ≡ false) →
    (is_ended (phase_at d.world.time q) ≡ true → is_ended (phase_at line.after.world.time q) ≡ true) → HoldsAt past d n q →
    (has_ended n past && adopts past line) ≡ false
not-adopted past d line n q here stays (inl there) = (let not_ended = here n q there in rw not_ended refl)
not-adopted past d line n q here stays (inr (none, over, place)) =
    (let some = left-over past line (some-ended line.after.world.time.phases q (stays place)) in rw (over, some) refl)

-- what waits where both tables are the same
pub waits-same : (v w : World Val) (x : LimboEntry) → w.standings ≡ v.standings → w.jobs ≡ v.jobs → is_waiting_in w x ≡ is_waiting_in v x
waits-same v w (Item s) standings jobs = ap (λ ss. is_waiting (slice_index_or ss s None)) standings
waits-same v w (Job k) standings jobs = ap (λ js. is_some (slice_index_or js k None)) jobs
