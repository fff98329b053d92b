-- What is lent of a world stays safe by each call
use Rattle.std.proofs.Common.{◌≡◌, ◌≢◌, ◌⊎◌, inl, inr, ℕ, ◌+◌, ◌^◌, ◌<◌, ◌≤◌, List, [], ◌∷◌, length, Bool, refl, sym, ap, ◌∙◌, arith, true, false, Some, None, Option, IsTrue, subst, slice_index_or, slice_set, nat_lt}
use Rattle.std.specs.Prelude.{◌-◌, ◌==◌, Contains, if◌then◌else◌}
use Rattle.std.proofs.lemmas.Bool.{cases_eq}
use Rattle.std.proofs.lemmas.Bool.Decides.{nat_tests}
use Rattle.std.proofs.lemmas.List.{get_or-set_same, get_or-set_other, get_or_past, length-append, length-set, set-set}
use Rattle.sdd_participants.specs.declared.waiting.LimboEntry.TheVariants.{Item}
use Rattle.sdd_participants.specs.EpochState.{EpochState, IsVacant, IsLive, nobody, with_place, is_open}
use Rattle.sdd_participants.specs.EpochState as time
use Rattle.sdd_participants.specs.declared.participant.Participant.{Participant}
use Rattle.sdd_participants.specs.declared.standing.Standing.{Standing}
use Rattle.sdd_participants.specs.declared.standing.Standing.TheVariants.{Shared, Retired}
use Rattle.sdd_values.specs.Block.{IsUnlent, IsFreeFor, lent, fraction_at, unlent}
use Rattle.sdd_values.specs.ReadSections.{ReadSections, Kept, kept_at, whole}
use Rattle.sdd_values.specs.declared.read_sections.SectionState.{SectionState}
use Rattle.sdd_values.specs.declared.read_sections.SectionState.TheVariants.{Open, Closed}
use Rattle.sdd_values.proofs.Fractions.{all-home, all-free, all-lent, all-settled, all-unlent}
use Rattle.sdd_world_model.specs.OwnerOrCell.{OwnerOrCell, SpaceId}
use Rattle.sdd_participants.specs.Slab.{Entries}
use Rattle.sdd_participants.specs.declared.standing.CellContents.{CellContents}
use Rattle.sdd_participants.specs.declared.standing.RawCellContents.{RawCellContents}
use Rattle.sdd_world_model.specs.Slots.{is_waiting}
use Rattle.sdd_world_model.specs.Loans.{Loans}
use Rattle.sdd_world_model.specs.World.{World, KeepsSizes, IsPlaceOf, place_at, standing_at}
use Rattle.sdd_world_model.specs.WorldChanges.{waiting_as, retired, with_standing, owner_given, opened, closed, ended, registered, reclaims}
use Rattle.sdd_world_model.specs.Out.{is_out}
use Rattle.sdd_world_model.specs.ParticipantChanges.{all_awaiting, opened_at, changed_at}
use Rattle.sdd_world_model.specs.WorldInvariant.{IsWhole}
use Rattle.sdd_world_model.specs.UnderGuards.{IsSafe, CannotGo}
use Rattle.sdd_world_model.specs.WorldStep.{WorldStep}
use Rattle.sdd_world_model.specs.WorldStep.WorldStep.{registers, ends, opens, closes}
use Rattle.sdd_world_model.proofs.ParticipantChanges as own
use Rattle.sdd_world_model.proofs.Standings.{owner-given, out-inside}
use Rattle.sdd_participants.proofs.Adoptions.{same-or-not}
use Rattle.sdd_world_model.proofs.GuardClosed.{put-same}
use Rattle.sdd_world_model.proofs.Nesting.{guards-closed, guards-registered, one-if, none-if}
use Rattle.sdd_world_model.proofs.PlacesMatchStates.{guard-taken, vacant-apart}
use Rattle.sdd_world_model.proofs.WorldInvariant.{below-or-past}
use Rattle.sdd_world_model.proofs.GuardOpened.{opened-other}
use Rattle.sdd_world_model.proofs.Safe.{safe-call, safe-waits, safe-not-due}
use Rattle.sdd_world_core.specs.Lending.{IsSectionOf, HasReaders, IsLentTo, AreLentOf, shared, joined, given_up}

-- ---- how many guards are open at each place
-- as many as before
abbrev pub SameGuards : {T : Type 0} → World T → World T → Type 0
SameGuards v w = (q : ℕ) → (place_at w q).guards ≡ (place_at v q).guards

awaiting-guards : (ks : List ℕ) (x : Participant) → (all_awaiting ks x).guards ≡ x.guards
awaiting-guards [] x = refl
awaiting-guards (k ∷ ks) x = awaiting-guards ks (time.awaiting (Item k) x)

opened_at-guards : (count : ℕ) (ks : List ℕ) (x : Participant) → (opened_at count ks x).guards ≡ x.guards + 1
opened_at-guards count ks x = by (is_open x) (x.found == count) where
  by : (b d : Bool) → (if b then time.nested x else (if d then time.nested x else changed_at count ks (time.nested x))).guards ≡ x.guards + 1
  by true d = refl
  by false true = refl
  by false false = awaiting-guards ks (time.rotated count (time.nested x))

module _ {T : Type 0} where
  pub guards-placed : (w : World T) (p : ℕ) (x : Participant) → p < length w.time.places → x.guards ≡ (place_at w p).guards →
      SameGuards w (record w { time = with_place w.time p x })
  guards-placed w p x l e = put-same (λ (y : Participant). y.guards) w.time p x l e

  vacant-shut : (w : World T) (p : ℕ) → IsWhole w → IsVacant w.time p → (place_at w p).guards ≡ 0
  vacant-shut w p i v = by (is_open (place_at w p)) refl where
    by : (b : Bool) → is_open (place_at w p) ≡ b → (place_at w p).guards ≡ 0
    by true e = absurd (vacant-apart w.time p p (guard-taken w p i e) v refl)
    by false e = grind (arith, nat_tests, e)

  pub guards-registered_at : (w : World T) (p : ℕ) → IsWhole w → IsVacant w.time p → SameGuards w (registered w p)
  guards-registered_at w p i v q = guards-registered w.time p q (vacant-shut w p i v)

  opened-guards : (holds : T → List OwnerOrCell) (w : World T) (p : ℕ) → p < length w.time.places →
      (place_at (opened holds w p) p).guards ≡ (place_at w p).guards + 1
  opened-guards holds w p l = let o = own.opens holds w p l (is_open (place_at w p)) refl in
      ap (λ (x : Participant). x.guards) o.own ∙ opened_at-guards w.time.count o.slots (place_at w p)

-- ---- sections
-- whose guards are as many has the same section
section-same : (x y : Participant) (k : Kept) → y.guards ≡ x.guards → IsSectionOf x k → IsSectionOf y k
section-same x y k e i = record {
  kind = i.kind ∙ ap (λ (n : ℕ). if nat_lt 0 n then Open else Closed) (sym e);
  units = ap (λ (n : ℕ). k.units + n) e ∙ i.units;
}

open-same : (x y : Participant) → y.guards ≡ x.guards → IsTrue (is_open x) → IsTrue (is_open y)
open-same x y e o = subst (λ (n : ℕ). IsTrue (nat_lt 0 n)) (sym e) o

kind-open : (x : Participant) (k : Kept) → IsSectionOf x k → k.kind ≡ Open → IsTrue (is_open x)
kind-open x k i e = by (is_open x) refl where
  by : (b : Bool) → is_open x ≡ b → IsTrue (is_open x)
  by true is = is
  by false is = let never : Closed ≡ Open = sym (i.kind ∙ ap (λ (b : Bool). if b then Open else Closed) is) ∙ e in absurd (cc)

is-open : (x : Participant) → 0 < x.guards → is_open x ≡ true
is-open x some = grind (arith, nat_tests, some)

no-guards : (x : Participant) → is_open x ≡ false → x.guards ≡ 0
no-guards x e = grind (arith, nat_tests, e)

none : Kept
none = whole Closed 0

module _ (t : ReadSections) (p : ℕ) (k : Kept) where
  abbrev set_at : ReadSections
  set_at = record t { kept = slice_set t.kept p k }

  kept-here : p < length t.kept → kept_at set_at p ≡ k
  kept-here l = get_or-set_same t.kept p k (whole Closed 0) l

  kept-other : (q : ℕ) → q ≢ p → kept_at set_at q ≡ kept_at t q
  kept-other q apart = get_or-set_other t.kept p q k (whole Closed 0) apart

pub shares-first : (t mid new : ReadSections) (p : ℕ) → p < length t.kept → (kept_at t p).units ≡ 2 ^ 63 → mid.home ≡ t.home →
    mid.kept ≡ slice_set t.kept p (whole Open (kept_at t p).lifetime) → new.home ≡ mid.home →
    new.kept ≡ slice_set mid.kept p (record (kept_at mid p) { units = (kept_at mid p).units - 1 }) →
    new ≡ set_at t p (record (kept_at t p) { kind = Open; units = (kept_at t p).units - 1 })
shares-first t mid new p near all home kept home' kept' =
    let k : Kept = whole Open (kept_at t p).lifetime in
    let here : kept_at mid p ≡ k = ap (λ (ks : List Kept). slice_index_or ks p (whole Closed 0)) kept ∙ kept-here t p k near in
    let fewer : Kept = record k { units = k.units - 1 } in
    let less : (ks : List Kept) → ks ≡ slice_set t.kept p k → slice_set ks p fewer ≡ slice_set t.kept p fewer =
    λ ks e. ap (λ (js : List Kept). slice_set js p fewer) e ∙ set-set t.kept p k fewer in
    let there = kept' ∙ ap (λ (j : Kept). slice_set mid.kept p (record j { units = j.units - 1 })) here ∙ less mid.kept kept
    ∙ ap (λ (n : ℕ). slice_set t.kept p (record k { units = n - 1 })) (sym all) in
    λ i. record { home = (home' ∙ home) i; kept = there i }

-- what a guard that gives its part back leaves
pub joins : (t new : ReadSections) (p n : ℕ) → new.home ≡ t.home → n ≡ 1
    → new.kept ≡ slice_set t.kept p (record (kept_at t p) { units = (kept_at t p).units + n }) →
    new ≡ set_at t p (record (kept_at t p) { units = (kept_at t p).units + 1 })
joins t new p n home one kept =
    let there = kept ∙ ap (λ (m : ℕ). slice_set t.kept p (record (kept_at t p) { units = (kept_at t p).units + m })) one in
    λ i. record { home = home i; kept = there i }

-- ---- a core that keeps what is lent
module _ {T : Type 0} where
  -- what each step keeps that opens and closes no guard
  pub lent-keeps : (v w : World T) (l : Loans) → HasReaders w → SameGuards v w →
      ((p k : ℕ) → IsSafe v p k → IsTrue (is_open (place_at w p)) → IsSafe w p k) → AreLentOf v l → AreLentOf w l
  lent-keeps v w l readers same keeps i = record {
    sections = λ p. section-same (place_at v p) (place_at w p) (kept_at l.sections p) (same p) (i.sections p);
    lent = λ k p t e. let was = i.lent k p t e in
        (keeps p k was.0 (open-same (place_at v p) (place_at w p) (same p) was.0.guarded), was.1);
    readers = readers;
  }

  pub readers-as : (v w : World T) → w.time ≡ v.time → w.home ≡ v.home → HasReaders v → HasReaders w
  readers-as v w e f h = record {
    places = let places = ap (λ (t : EpochState). length t.places) e in let home = ap (λ h. h.readers.size) f in omega (arith, h.places, places, home);
    nesting = let nesting = ap (λ (t : EpochState). t.nesting) e in omega (arith, h.nesting, nesting);
  }

  pub readers-placed : (w : World T) (p : ℕ) (x : Participant) → HasReaders w → HasReaders (record w { time = with_place w.time p x })
  readers-placed w p x h = record { places = omega (arith, h.places, length-set w.time.places p x); nesting = h.nesting }

  pub readers-keep : (v w : World T) → KeepsSizes v w → HasReaders v → HasReaders w
  readers-keep v w s i = record {
    places = let home = ap (λ h. h.readers.size) s.home in omega (arith, i.places, s.places, home);
    nesting = omega (arith, i.nesting, s.nesting);
  }

  pub lent-call : (holds : T → List OwnerOrCell) (v w : World T) (l : Loans) → WorldStep holds v w → IsWhole v → (HasReaders v → HasReaders w)
      → SameGuards v w →
      AreLentOf v l → AreLentOf w l
  lent-call holds v w l call whole readers same i =
      lent-keeps v w l (readers i.readers) same (λ p k safe o. safe-call p k holds call whole safe o) i

  -- the cells are none of its business, nor what raw ones point to
  safe-cells : (w : World T) (h : SpaceId) (cells : Entries CellContents) (pointers : List RawCellContents) (p k : ℕ) → IsSafe w p k →
      IsSafe (record w { home = h; cells = cells; pointers = pointers }) p k
  safe-cells w h cells pointers p k i = record { guarded = i.guarded; stays = by i.stays } where
    by : CannotGo w p k → CannotGo (record w { home = h; cells = cells; pointers = pointers }) p k
    by (inl out) = inl out
    by (inr u) = inr (record { guarded = u.guarded; waiting = u.waiting; holder = u.holder; seen = u.seen; waits = u.waits; safe = u.safe })

  pub lent-cells : (w : World T) (l : Loans) (h : SpaceId) (cells : Entries CellContents) (pointers : List RawCellContents) → h.readers ≡ w.home.readers
      → AreLentOf w l →
      AreLentOf (record w { home = h; cells = cells; pointers = pointers }) l
  lent-cells w l h cells pointers same i =
      let readers : HasReaders (record w { home = h; cells = cells; pointers = pointers }) = record {
        places = let size = ap (λ h. h.size) same in let places = i.readers.places in omega (arith, places, size);
        nesting = i.readers.nesting;
      } in
      lent-keeps w (record w { home = h; cells = cells; pointers = pointers }) l readers (λ q. refl) (λ p k safe o. safe-cells w h cells pointers p k safe) i

  pub lent-waiting : (holds : T → List OwnerOrCell) (v : World T) (l : Loans) (p k : ℕ) (s : Standing) → is_waiting (Some s) ≡ true →
      p < length v.time.places → is_out (standing_at v k) ≡ true → AreLentOf v l → AreLentOf (waiting_as v p k s) l
  lent-waiting holds v l p k s waits there out i =
      let x : Participant = time.awaiting (Item k) (place_at v p) in
      let places = length-set v.time.places p x in
      let readers : HasReaders (waiting_as v p k s) = record { places = omega (arith, i.readers.places, places); nesting = i.readers.nesting } in
      lent-keeps v (waiting_as v p k s) l readers (guards-placed v p x there refl)
      (λ q j safe o. safe-waits q j holds v p k s waits there out safe o) i

  pub lent-retired : (holds : T → List OwnerOrCell) (v : World T) (l : Loans) (p k : ℕ) → p < length v.time.places → is_out (standing_at v k) ≡ true →
      AreLentOf v l → AreLentOf (retired v p k) l
  lent-retired holds v l p k there out i = lent-waiting holds v l p k Retired refl there out i

  -- an item that is shared by more or fewer is safe as it was
  safe-shared : (v : World T) (k n m : ℕ) → standing_at v k ≡ Some (Shared n) → (p j : ℕ) → IsSafe v p j → IsSafe (with_standing v k (Shared m)) p j
  safe-shared v k n m is p j safe = record { guarded = safe.guarded; stays = by safe.stays (same-or-not j k) } where
    by : CannotGo v p j → (j ≡ k) ⊎ (j ≢ k) → CannotGo (with_standing v k (Shared m)) p j
    by (inl out) (inl e) = inl (rw (e, get_or-set_same v.standings k (Some (Shared m)) None (out-inside v.standings k (ap is_out is))) refl)
    by (inl out) (inr apart) = inl (rw (get_or-set_other v.standings k j (Some (Shared m)) None apart) out)
    by (inr u) (inl e) = let never : true ≡ false = sym u.waiting ∙ ap (λ (n : ℕ). is_waiting (standing_at v n)) e ∙ ap is_waiting is in absurd (cc)
    by (inr u) (inr apart) = inr (record {
      guarded = u.guarded;
      waiting = ap is_waiting (get_or-set_other v.standings k j (Some (Shared m)) None apart) ∙ u.waiting;
      holder = u.holder;
      seen = u.seen;
      waits = u.waits;
      safe = u.safe;
    })

  pub lent-shared : (v : World T) (l : Loans) (k n m : ℕ) → standing_at v k ≡ Some (Shared n) → AreLentOf v l → AreLentOf (with_standing v k (Shared m)) l
  lent-shared v l k n m is i =
      lent-keeps v (with_standing v k (Shared m)) l (record { places = i.readers.places; nesting = i.readers.nesting }) (λ q. refl)
      (λ p j safe o. safe-shared v k n m is p j safe) i

  -- an owner goes, the last one or another
  pub lent-owner_given : (holds : T → List OwnerOrCell) (v : World T) (l : Loans) (p k : ℕ) → p < length v.time.places → (s : Option Standing) →
      standing_at v k ≡ s → AreLentOf v l → AreLentOf (owner_given v p k s) l
  lent-owner_given holds v l p k there s is i =
      owner-given (λ (u : World T). AreLentOf u l) v p k s is i (λ out. lent-retired holds v l p k there out i)
      (λ n several more. lent-shared v l k n (n - 1) several i)

  -- a newcomer's place is a reader's too
  readers-registered : (w : World T) (p : ℕ) → IsVacant w.time p → w.time.participants ≡ w.home.readers.size → IsWhole w → HasReaders w →
      HasReaders (registered w p)
  readers-registered w p v same i h = by v (nat_lt p (length w.time.places)) refl where
    by : IsVacant w.time p → (b : Bool) → nat_lt p (length w.time.places) ≡ b → HasReaders (registered w p)
    by v true e = rw e (record { places = omega (arith, h.places, length-set w.time.places p (time.newcomer w.time.room)); nesting = h.nesting })
    by (inl empty) false e =
        let lengths = i.housed.lengths in let past : length w.time.places ≤ p = grind (arith, nat_tests, e) in absurd (omega (arith, past, lengths, empty.0))
    by (inr next) false e = rw e (record {
      places = omega (arith, length-append w.time.places (time.newcomer w.time.room ∷ []), next.0, next.1, same);
      nesting = h.nesting;
    })

  pub lent-registered : (holds : T → List OwnerOrCell) (w : World T) (l : Loans) (p : ℕ) → IsVacant w.time p → w.time.participants ≡ w.home.readers.size →
      IsWhole w → AreLentOf w l → AreLentOf (registered w p) l
  lent-registered holds w l p v same i lent =
      lent-call holds w (registered w p) l (registers w p v) i (readers-registered w p v same i) (guards-registered_at w p i v) lent

  -- a core without participants and items
  pub lent-blank : (w : World T) (l : Loans) (slots readers : ℕ) → w.time.places ≡ [] → w.time.nesting < 2 ^ 32 → l.fractions ≡ unlent slots readers →
      l.sections.home.size ≡ readers → length l.sections.kept ≡ l.sections.home.size →
      ((k : ℕ) → k < readers → ((kept_at l.sections k).kind ≡ Closed) × ((kept_at l.sections k).units ≡ 2 ^ 63)) → AreLentOf w l
  lent-blank w l slots readers idle nesting none_lent size count closed_all = record {
    sections = λ p. section p (below-or-past p readers);
    lent = rw none_lent (all-unlent (IsLentTo w l) slots readers);
    readers = record { places = let none_there = ap (λ (ps : List Participant). length ps) idle in omega (arith, none_there); nesting = nesting };
  }
    where
      nobody_there : (p : ℕ) → place_at w p ≡ nobody
      nobody_there p = ap (λ (ps : List Participant). slice_index_or ps p nobody) idle

      past : (p : ℕ) → readers ≤ p → kept_at l.sections p ≡ whole Closed 0
      past p beyond = get_or_past l.sections.kept p (whole Closed 0) (omega (arith, beyond, size, count))

      section : (p : ℕ) → (p < readers) ⊎ (readers ≤ p) → IsSectionOf (place_at w p) (kept_at l.sections p)
      section p (inl inside) = rw (nobody_there p) (record {
        kind = (closed_all p inside).0;
        units = let all = (closed_all p inside).1 in omega (arith, all);
      })
      section p (inr beyond) = rw (nobody_there p, past p beyond) (record { kind = refl; units = refl })

  -- what is lent to p can be lent to no other section
  pub free-here : (w : World T) (l : Loans) → AreLentOf w l → (p k : ℕ) → IsFreeFor (kept_at l.sections p).lifetime (fraction_at l.fractions k p)
  free-here w l i p k = all-free (IsLentTo w l) l.fractions i.lent k p (kept_at l.sections p).lifetime (λ t so. so.1)

  -- nor after a part of its section is back
  pub free-joined : (w : World T) (l : Loans) → AreLentOf w l → (p : ℕ) → p < length l.sections.kept → (k : ℕ) →
      IsFreeFor (kept_at (joined l p).sections p).lifetime (fraction_at l.fractions k p)
  free-joined w l i p near k =
      let lifetime = ap (λ (x : Kept). x.lifetime) (kept-here l.sections p (record (kept_at l.sections p) { units = (kept_at l.sections p).units + 1 }) near) in
      rw lifetime (free-here w l i p k)

  -- each place's reader is there
  pub reader-there : (w : World T) (l : Loans) → AreLentOf w l → w.home.readers.size ≡ length l.sections.kept → (p : ℕ) → p < length w.time.places →
      p < length l.sections.kept
  reader-there w l i size p there = let places = i.readers.places in omega (arith, there, size, places)

  -- who has a part out has a guard open
  pub guard-there : (w : World T) (l : Loans) → AreLentOf w l → (p n : ℕ) → n ≡ 1 → (kept_at l.sections p).units + n ≤ 2 ^ 63 → 0 < (place_at w p).guards
  guard-there w l i p n one fits = let all = (i.sections p).units in omega (arith, one, fits, all)

  -- more than one part is left, where one guard more may nest
  pub section-left : (w : World T) (l : Loans) → AreLentOf w l → (p : ℕ) → time.CanNest w.time p → 1 < (kept_at l.sections p).units
  section-left w l i p few = let all = (i.sections p).units in let limit = i.readers.nesting in omega (arith, few, all, limit)

  pub sizes-closed : (w : World T) (p : ℕ) → time.KeepsPlaces w.time (time.closed w.time p) → KeepsSizes w (closed w p)
  sizes-closed w p k = record { home = refl; places = k.places; live = k.lives; slots = refl; jobs = refl; nesting = k.nesting; room = k.room }

  pub lent-ended : (holds : T → List OwnerOrCell) (w : World T) (l : Loans) (p : ℕ) → IsPlaceOf w p → (IsTrue (is_open (place_at w p)) → ⊥) →
      IsWhole w → AreLentOf w l → AreLentOf (ended w p) l
  lent-ended holds w l p live shut whole i =
      let readers : HasReaders (ended w p) = record { places = i.readers.places; nesting = i.readers.nesting } in
      lent-keeps w (ended w p) l readers (λ q. refl) (λ q k safe o. safe-call q k holds (ends w p live shut) whole safe o) i

  -- whose place it is, and whether one had ended there, is none of its business
  safe-revived : (w : World T) (r p k : ℕ) → IsSafe w p k → IsSafe (record w { time = time.revived w.time r }) p k
  safe-revived w r p k i = record { guarded = i.guarded; stays = by i.stays } where
    by : CannotGo w p k → CannotGo (record w { time = time.revived w.time r }) p k
    by (inl out) = inl out
    by (inr u) = inr (record { guarded = u.guarded; waiting = u.waiting; holder = u.holder; seen = u.seen; waits = u.waits; safe = u.safe })

  pub lent-revived : (w : World T) (l : Loans) (r : ℕ) → AreLentOf w l → AreLentOf (record w { time = time.revived w.time r }) l
  lent-revived w l r i =
      let readers : HasReaders (record w { time = time.revived w.time r }) = record { places = i.readers.places; nesting = i.readers.nesting } in
      lent-keeps w (record w { time = time.revived w.time r }) l readers (λ q. refl) (λ p k safe o. safe-revived w r p k safe) i

  -- what an opening reclaims is lent to nobody
  pub due-home : (holds : T → List OwnerOrCell) (w : World T) (l : Loans) (r : ℕ) → r < length w.time.places → IsWhole w → AreLentOf w l →
      (k : ℕ) → Contains (reclaims w r) (Item k) → IsUnlent l.fractions k
  due-home holds w l r there whole i k due =
      all-home (IsLentTo w l) l.fractions i.lent k (λ p t so. safe-not-due p k holds w r there whole so.0 due)

  -- where no guard is open nothing is lent
  pub all-home-quiet : (w : World T) (l : Loans) → AreLentOf w l → ((p : ℕ) → IsTrue (is_open (place_at w p)) → ⊥) → (k : ℕ) → IsUnlent l.fractions k
  all-home-quiet w l i quiet k = all-home (IsLentTo w l) l.fractions i.lent k (λ p t so. quiet p so.0.guarded)

  pub lent-here : (w : World T) (l : Loans) (p k : ℕ) → CannotGo w p k → (kept_at l.sections p).kind ≡ Open → AreLentOf w l →
      AreLentOf w (record l { fractions = lent k p (kept_at l.sections p).lifetime l.fractions })
  lent-here w l p k stays is i =
      let safe : IsSafe w p k = record { guarded = kind-open (place_at w p) (kept_at l.sections p) (i.sections p) is; stays = stays } in record {
        sections = i.sections;
        lent = all-lent (IsLentTo w l) l.fractions i.lent k p (kept_at l.sections p).lifetime (safe, refl);
        readers = i.readers;
      }

  -- ---- an opening
  pub lent-opened : (holds : T → List OwnerOrCell) (w : World T) (l : Loans) (p : ℕ) → IsPlaceOf w p → p < length l.sections.kept →
      1 < (kept_at l.sections p).units → IsWhole w → KeepsSizes w (opened holds w p) → AreLentOf w l → AreLentOf (opened holds w p) (shared l p)
  lent-opened holds w l p live near more_units whole sizes i = record {
    sections = λ q. section q (cases_eq q p);
    lent = λ k q t e. let was = i.lent k q t e in
        (safe-call q k holds (opens w p live) whole was.0 (still q was.0.guarded (cases_eq q p)), was.1 ∙ sym (lifetime q (cases_eq q p)));
    readers = readers-keep w (opened holds w p) sizes i.readers;
  }
    where
      new : World T
      new = opened holds w p

      k : Kept
      k = record (kept_at l.sections p) { kind = Open; units = (kept_at l.sections p).units - 1 }

      guards : (place_at new p).guards ≡ (place_at w p).guards + 1
      guards = opened-guards holds w p live.0

      section : (q : ℕ) → (q ≡ p) ⊎ (q ≢ p) → IsSectionOf (place_at new q) (kept_at (shared l p).sections q)
      section q (inl e) = rw e (rw (kept-here l.sections p k near) (record {
        kind = ap (λ (b : Bool). if b then Open else Closed) (sym (is-open (place_at new p) (omega (arith, guards))));
        units = let was = (i.sections p).units in omega (arith, guards, was, more_units);
      }))
      section q (inr apart) = rw (kept-other l.sections p k q apart, opened-other holds w p live.0 q apart) (i.sections q)

      still : (q : ℕ) → IsTrue (is_open (place_at w q)) → (q ≡ p) ⊎ (q ≢ p) → IsTrue (is_open (place_at new q))
      still q o (inl e) = rw e (is-open (place_at new p) (omega (arith, guards)))
      still q o (inr apart) = rw (opened-other holds w p live.0 q apart) o

      lifetime : (q : ℕ) → (q ≡ p) ⊎ (q ≢ p) → (kept_at (shared l p).sections q).lifetime ≡ (kept_at l.sections q).lifetime
      lifetime q (inl e) = rw e (ap (λ (x : Kept). x.lifetime) (kept-here l.sections p k near))
      lifetime q (inr apart) = ap (λ (x : Kept). x.lifetime) (kept-other l.sections p k q apart)

  -- ---- a close
  module _ (holds : T → List OwnerOrCell) (w : World T) (l : Loans) (p : ℕ) (live : IsPlaceOf w p) (near : p < length l.sections.kept)
      (some : 0 < (place_at w p).guards) (whole_world : IsWhole w) (sizes : KeepsSizes w (closed w p)) (i : AreLentOf w l) where
    abbrev pub after : World T
    after = closed w p

    fewer : (place_at after p).guards + 1 ≡ (place_at w p).guards
    fewer = let one = one-if p p refl in let all = guards-closed w.time p p live some in omega (arith, one, all)

    others : (q : ℕ) → q ≢ p → (place_at after q).guards ≡ (place_at w q).guards
    others q apart = let nothing = none-if p q (λ e. apart (sym e)) in let all = guards-closed w.time p q live some in omega (arith, nothing, all)

    other-open : (q : ℕ) → q ≢ p → IsTrue (is_open (place_at w q)) → IsTrue (is_open (place_at after q))
    other-open q apart o = open-same (place_at w q) (place_at after q) (others q apart) o

    pub lent-closed : IsTrue (is_open (place_at after p)) → AreLentOf after (joined l p)
    lent-closed o = record {
      sections = λ q. section q (cases_eq q p);
      lent = λ k q t e. let was = i.lent k q t e in
          (safe-call q k holds (closes w p live) whole_world was.0 (still q was.0.guarded (cases_eq q p)), was.1 ∙ sym (lifetime q (cases_eq q p)));
      readers = readers-keep w after sizes i.readers;
    }
      where
        k : Kept
        k = record (kept_at l.sections p) { units = (kept_at l.sections p).units + 1 }

        section : (q : ℕ) → (q ≡ p) ⊎ (q ≢ p) → IsSectionOf (place_at after q) (kept_at (joined l p).sections q)
        section q (inl e) = rw e (rw (kept-here l.sections p k near) (record {
          kind = (i.sections p).kind ∙ ap (λ (b : Bool). if b then Open else Closed) (is-open (place_at w p) some ∙ sym o);
          units = let was = (i.sections p).units in omega (arith, fewer, was);
        }))
        section q (inr apart) = rw (kept-other l.sections p k q apart)
            (section-same (place_at w q) (place_at after q) (kept_at l.sections q) (others q apart) (i.sections q))

        still : (q : ℕ) → IsTrue (is_open (place_at w q)) → (q ≡ p) ⊎ (q ≢ p) → IsTrue (is_open (place_at after q))
        still q was (inl e) = rw e o
        still q was (inr apart) = other-open q apart was

        lifetime : (q : ℕ) → (q ≡ p) ⊎ (q ≢ p) → (kept_at (joined l p).sections q).lifetime ≡ (kept_at l.sections q).lifetime
        lifetime q (inl e) = rw e (ap (λ (x : Kept). x.lifetime) (kept-here l.sections p k near))
        lifetime q (inr apart) = ap (λ (x : Kept). x.lifetime) (kept-other l.sections p k q apart)

    pub lent-left : is_open (place_at after p) ≡ false → (next : ℕ) → AreLentOf after (given_up (joined l p) p next)
    lent-left shut next = record {
      sections = λ q. section q (cases_eq q p);
      lent = λ k q t e. let was = all-settled (IsLentTo w l) l.fractions i.lent p k q t e in (
        safe-call q k holds (closes w p live) whole_world was.0.0 (other-open q was.1 was.0.0.guarded),
        was.0.1 ∙ sym (ap (λ (x : Kept). x.lifetime) (kept q was.1)),
      );
      readers = readers-keep w after sizes i.readers;
    }
      where
        j : Kept
        j = record (kept_at l.sections p) { units = (kept_at l.sections p).units + 1 }

        mid : ReadSections
        mid = (joined l p).sections

        near_mid : p < length mid.kept
        near_mid = omega (arith, near, length-set l.sections.kept p j)

        kept : (q : ℕ) → q ≢ p → kept_at (given_up (joined l p) p next).sections q ≡ kept_at l.sections q
        kept q apart = kept-other mid p (whole Closed next) q apart ∙ kept-other l.sections p j q apart

        section : (q : ℕ) → (q ≡ p) ⊎ (q ≢ p) → IsSectionOf (place_at after q) (kept_at (given_up (joined l p) p next).sections q)
        section q (inl e) = rw e (rw (kept-here mid p (whole Closed next) near_mid) (record {
          kind = ap (λ (b : Bool). if b then Open else Closed) (sym shut);
          units = let none = no-guards (place_at after p) shut in omega (arith, none);
        }))
        section q (inr apart) = rw (kept q apart) (section-same (place_at w q) (place_at after q) (kept_at l.sections q) (others q apart) (i.sections q))
