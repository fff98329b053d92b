-- What a guard, and an item that is made and retired, leave
use Rattle.std.proofs.Common.{◌≡◌, ◌⊎◌, inl, inr, ℕ, ◌+◌, ◌<◌, ◌≤◌, List, [], length, Bool, true, false, nat_lt, refl, sym, ap, ◌∙◌, arith, Some, None, subst, ◌≢◌}
use Rattle.std.specs.Prelude.{◌==◌, if◌then◌else◌}
use Rattle.std.proofs.lemmas.List.{get_or-set_same, get_or-set_other, get_or_past, length-set}
use Rattle.std.proofs.lemmas.Bool.Decides.{nat_tests}
use Rattle.sdd_participants.specs.declared.waiting.LimboEntry.{LimboEntry}
use Rattle.sdd_participants.specs.declared.waiting.LimboEntry.TheVariants.{Item}
use Rattle.sdd_participants.specs.Slab.{IsEmptyAt}
use Rattle.sdd_participants.specs.EpochState.{adopting, is_open, nested, rotated, nobody, finds_another, due_next, awaiting}
use Rattle.sdd_participants.specs.declared.participant.Participant.{Participant}
use Rattle.sdd_participants.specs.declared.standing.Standing.TheVariants.{Owned, Retired}
use Rattle.sdd_world_model.specs.OwnerOrCell.{OwnerOrCell}
use Rattle.sdd_world_model.specs.World.{World, place_at, standing_at}
use Rattle.sdd_world_model.specs.WorldChanges.{opened, closed, changed, made, retired, all_reclaimed}
use Rattle.sdd_world_model.specs.WorldChanges as steps
use Rattle.sdd_world_model.specs.ParticipantChanges.{GuardOpened, GuardClosed, opened_at, closed_with}
use Rattle.sdd_world_model.specs.Out.{is_out, out, HoldsNothing}
use Rattle.sdd_space.specs.CallerId.{CallerId, IsExact}
use Rattle.sdd_world_model.proofs.WorldInvariant.{all_awaiting-guards, below-or-past}
use Rattle.sdd_world_model.proofs.Out.{out-laws}
use Rattle.sdd_bench.specs.Leaves.{Leaves}

pub as-many : {old new : Participant} → new ≡ old → new.guards ≡ old.guards
as-many e = ap (λ (p : Participant). p.guards) e

pub as-much : {old new : World ℕ} → new ≡ old → out new ≡ out old
as-much e = ap (λ (w : World ℕ). out w) e

-- an opening leaves one guard more open
opened-guards : (count : ℕ) (given : List ℕ) (p : Participant) (a b : Bool) → is_open p ≡ a → (p.found == count) ≡ b →
    (opened_at count given p).guards ≡ p.guards + 1
opened-guards count given p true b e f = rw e refl
opened-guards count given p false true e f = rw (e, f) refl
opened-guards count given p false false e f = rw (e, f) (all_awaiting-guards given (rotated count (nested p)))

opens-one : (old new : Participant) → GuardOpened old new → new.guards ≡ old.guards + 1
opens-one old new o = ap (λ (p : Participant). p.guards) o.own ∙ opened-guards o.count o.given old (is_open old) (old.found == o.count) refl refl

-- and a close one less
closed-guards : (marked : Bool) (p : Participant) (n : ℕ) → p.guards ≡ n + 1 → (b : Bool) → nat_lt 1 p.guards ≡ b → (closed_with marked p).guards ≡ n
closed-guards marked p n g true e = rw e (omega (arith, g))
closed-guards marked p n g false e =
    let there : is_open p ≡ true = grind (arith, nat_tests, g) in
    let last : p.guards ≤ 1 = grind (arith, nat_tests, e) in
    rw (e, there) (omega (arith, g, last))

closes-one : (old new : Participant) (n : ℕ) → old.guards ≡ n + 1 → GuardClosed old new → new.guards ≡ n
closes-one old new n g c =
    ap (λ (p : Participant). p.guards) c.own ∙ closed-guards c.marked (adopting c.left old) n g (nat_lt 1 old.guards) refl

-- a guard under which no other is opened or closed leaves as many open as before
pub guard-over : (a b c d : Participant) → GuardOpened a b → c.guards ≡ b.guards → GuardClosed c d → d.guards ≡ a.guards
guard-over a b c d opens same closes = closes-one c d a.guards (same ∙ opens-one a b opens) closes

pub exact-on : (s r : CallerId) → r ≡ s → IsExact s → IsExact r
exact-on s r e exact = subst (λ (x : CallerId). IsExact x) (sym e) exact

module _ {T : Type 0} (holds : T → List OwnerOrCell) (plain : HoldsNothing holds) where
  caught : (w : World T) (p : ℕ) (b : Bool) → finds_another w.time p ≡ b → steps.caught_up holds w p ≡ (if b then changed holds w p else w)
  caught w p b e = rw e refl

  outermost : (w : World T) (p : ℕ) → is_open (place_at w p) ≡ false → opened holds w p ≡ steps.caught_up holds (steps.nested w p) p
  outermost w p e = rw e refl

  -- a change at a number that is no place reclaims nothing
  past-caught : (w : World T) (p : ℕ) → place_at w p ≡ nobody → (b : Bool) → finds_another w.time p ≡ b → out (steps.caught_up holds w p) ≡ out w
  past-caught w p none true e =
      let due : due_next (place_at w p) ≡ [] = ap (λ (x : Participant). due_next x) none in
      ap (λ (u : World T). out u) (caught w p true e) ∙ ap (λ (xs : List LimboEntry). out (all_reclaimed holds (steps.rotated w p) p xs)) due
  past-caught w p none false e = ap (λ (u : World T). out u) (caught w p false e)

  past-out : (w : World T) (p : ℕ) → is_open (place_at w p) ≡ false → place_at (steps.nested w p) p ≡ nobody → out (opened holds w p) ≡ out w
  past-out w p none after =
      ap (λ (u : World T). out u) (outermost w p none) ∙ past-caught (steps.nested w p) p after (finds_another (steps.nested w p).time p) refl

  -- an opening leaves out what was, also at a number that is no place
  opened-out : (w : World T) (p : ℕ) → (p < length w.time.places) ⊎ (length w.time.places ≤ p) → out (opened holds w p) ≡ out w
  opened-out w p (inl inside) = (out-laws holds w).opening_plain plain p inside
  opened-out w p (inr past) =
      let long : length (steps.nested w p).time.places ≤ p = omega (arith, past, length-set w.time.places p (nested (place_at w p))) in
      past-out w p (ap (λ (x : Participant). is_open x) (get_or_past w.time.places p nobody past)) (get_or_past (steps.nested w p).time.places p nobody long)

  made-there : (w : World T) (k : ℕ) (value : T) → IsEmptyAt w.standings k → standing_at (made w k value) k ≡ Some Owned
  made-there w k value empty = get_or-set_same w.standings k (Some Owned) None empty.0

  -- an item that is made and retired
  item-out : (w : World T) (p k : ℕ) (value : T) → IsEmptyAt w.standings k → out (retired (made w k value) p k) ≡ out w
  item-out w p k value empty =
      let m = (out-laws holds w).making k value empty in
      let r = (out-laws holds (made w k value)).retiring p k (ap is_out (made-there w k value empty)) in
      omega (arith, m, r)

  -- two items that are made, and then retired
  two-out : (w : World T) (p q k j : ℕ) (a b : T) → IsEmptyAt w.standings k → IsEmptyAt (made w k a).standings j →
      out (retired (retired (made (made w k a) j b) p k) q j) ≡ out w
  two-out w p q k j a b first second =
      let one : World T = made w k a in let two : World T = made one j b in
      let there = made-there w k a first in
      let other : j ≢ k = λ e. let never : Some Owned ≡ None = sym there ∙ ap (λ (n : ℕ). standing_at one n) (sym e) ∙ second.1 in absurd (cc) in
      let still : standing_at two k ≡ Some Owned = get_or-set_other one.standings j k (Some Owned) None (λ e. other (sym e)) ∙ there in
      let last : standing_at (retired two p k) j ≡ Some Owned = get_or-set_other two.standings k j (Some Retired) None other ∙ made-there one j b second in
      let m = (out-laws holds w).making k a first in let n = (out-laws holds one).making j b second in
      let r = (out-laws holds two).retiring p k (ap is_out still) in let s = (out-laws holds (retired two p k)).retiring q j (ap is_out last) in
      omega (arith, m, n, r, s)

-- a number holds nothing
abbrev pub nothing : ℕ → List OwnerOrCell
nothing n = []

-- one after another
pub in-turn : (s0 s1 s2 : CallerId) (o0 o1 o2 : Participant) (w0 w1 w2 : World ℕ) → Leaves s0 o0 w0 s1 o1 w1 → Leaves s1 o1 w1 s2 o2 w2
    → Leaves s0 o0 w0 s2 o2 w2
in-turn s0 s1 s2 o0 o1 o2 w0 w1 w2 l m =
    record {
      caller = m.caller ∙ l.caller;
      guards = m.guards ∙ l.guards;
      kept = λ exact. m.kept (exact-on s0 s1 l.caller exact) ∙ l.kept exact;
    }

-- a guard opened, what leaves all, and the guard closed
pub under-guard : (s0 s1 s2 s3 : CallerId) (o0 o1 o2 o3 : Participant) (w0 w1 w2 w3 : World ℕ) →
    s1 ≡ s0 → GuardOpened o0 o1 → (IsExact s0 → w1 ≡ opened nothing w0 s0.place) → Leaves s1 o1 w1 s2 o2 w2 →
    s3 ≡ s2 → GuardClosed o2 o3 → (IsExact s2 → w3 ≡ closed w2 s2.place) → Leaves s0 o0 w0 s3 o3 w3
under-guard s0 s1 s2 s3 o0 o1 o2 o3 w0 w1 w2 w3 first opening is_opened l last closing is_closed =
    record {
      caller = last ∙ l.caller ∙ first;
      guards = closes-one o2 o3 o0.guards (l.guards ∙ opens-one o0 o1 opening) closing;
      kept = λ exact.
          as-much (is_closed (exact-on s0 s2 (l.caller ∙ first) exact))
          ∙ l.kept (exact-on s0 s1 first exact)
          ∙ as-much (is_opened exact)
          ∙ opened-out nothing (λ n. refl) w0 s0.place (below-or-past s0.place (length w0.time.places));
    }

-- an item made and retired
pub item-leaves : (s0 s1 s2 : CallerId) (o0 o1 o2 : Participant) (w0 w1 w2 : World ℕ) (k value : ℕ) →
    s1 ≡ s0 → o1 ≡ o0 → (IsExact s0 → IsEmptyAt w0.standings k × (w1 ≡ made w0 k value)) →
    s2 ≡ s1 → o2 ≡ awaiting (Item k) o1 → (IsExact s1 → w2 ≡ retired w1 s1.place k) → Leaves s0 o0 w0 s2 o2 w2
item-leaves s0 s1 s2 o0 o1 o2 w0 w1 w2 k value first own is_made last own_after is_retired =
    record {
      caller = last ∙ first;
      guards = as-many own_after ∙ as-many own;
      kept = λ exact.
          as-much (is_retired (exact-on s0 s1 first exact))
          ∙ ap (λ (w : World ℕ). out (retired w s1.place k)) ((is_made exact).1)
          ∙ item-out nothing (λ n. refl) w0 s1.place k value ((is_made exact).0);
    }

-- two items made, and then retired
pub two-leave : (s0 s1 s2 s3 s4 : CallerId) (o0 o1 o2 o3 o4 : Participant) (w0 w1 w2 w3 w4 : World ℕ) (k j a b : ℕ) →
    s1 ≡ s0 → o1 ≡ o0 → (IsExact s0 → IsEmptyAt w0.standings k × (w1 ≡ made w0 k a)) →
    s2 ≡ s1 → o2 ≡ o1 → (IsExact s1 → IsEmptyAt w1.standings j × (w2 ≡ made w1 j b)) →
    s3 ≡ s2 → o3 ≡ awaiting (Item k) o2 → (IsExact s2 → w3 ≡ retired w2 s2.place k) →
    s4 ≡ s3 → o4 ≡ awaiting (Item j) o3 → (IsExact s3 → w4 ≡ retired w3 s3.place j) → Leaves s0 o0 w0 s4 o4 w4
two-leave s0 s1 s2 s3 s4 o0 o1 o2 o3 o4 w0 w1 w2 w3 w4 k j a b e1 p1 m1 e2 p2 m2 e3 p3 m3 e4 p4 m4 =
    record {
      caller = e4 ∙ e3 ∙ e2 ∙ e1;
      guards = as-many p4 ∙ as-many p3 ∙ as-many p2 ∙ as-many p1;
      kept = λ exact.
          let one = m1 exact in
          let two = m2 (exact-on s0 s1 e1 exact) in
          let empty : IsEmptyAt (made w0 k a).standings j = subst (λ (w : World ℕ). IsEmptyAt w.standings j) one.1 two.0 in
          as-much (m4 (exact-on s0 s3 (e3 ∙ e2 ∙ e1) exact))
          ∙ ap (λ (w : World ℕ). out (retired w s3.place j)) (m3 (exact-on s0 s2 (e2 ∙ e1) exact))
          ∙ ap (λ (w : World ℕ). out (retired (retired w s2.place k) s3.place j)) two.1
          ∙ ap (λ (w : World ℕ). out (retired (retired (made w j b) s2.place k) s3.place j)) one.1
          ∙ two-out nothing (λ n. refl) w0 s2.place s3.place k j a b one.0 empty;
    }

-- an item made, what leaves all, and the item retired
pub item-around : (s0 s1 s2 s3 : CallerId) (o0 o1 o2 o3 : Participant) (w0 w1 w2 w3 : World ℕ) (k value : ℕ) →
    s1 ≡ s0 → o1 ≡ o0 → (IsExact s0 → IsEmptyAt w0.standings k × (w1 ≡ made w0 k value)) → Leaves s1 o1 w1 s2 o2 w2 →
    s3 ≡ s2 → o3 ≡ awaiting (Item k) o2 → (IsExact s2 → standing_at w2 k ≡ Some Owned) → (IsExact s2 → w3 ≡ retired w2 s2.place k) →
    Leaves s0 o0 w0 s3 o3 w3
item-around s0 s1 s2 s3 o0 o1 o2 o3 w0 w1 w2 w3 k value first own is_made l last own_after is_owned is_retired =
    record {
      caller = last ∙ l.caller ∙ first;
      guards = as-many own_after ∙ l.guards ∙ as-many own;
      kept = λ exact.
          let still = exact-on s0 s2 (l.caller ∙ first) exact in
          let there = is_made exact in
          let more = (out-laws nothing w0).making k value there.0 in
          let less = (out-laws nothing w2).retiring s2.place k (ap is_out (is_owned still)) in
          omega (arith, more, less, as-much there.1, l.kept (exact-on s0 s1 first exact), as-much (is_retired still));
    }
