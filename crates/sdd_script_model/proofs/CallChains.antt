-- A line as a chain of calls of its world, each with what it takes from outside and what it gives
use Rattle.sdd_script_model.proofs.Words.{◌*◌, ◌^◌, ◌≡◌, ◌≢◌, ℕ, ◌+◌, ◌≤◌, List, [], ◌∷◌, ◌++◌, Option, Some, None, is_some, length, slice_set, inl, inr, refl, ap, subst, arith, entry_at, Shared, CellContents, Claim, owner_of, right_to, claims, one, times_kept, IsLedger, Keeps, Moves, Sets, changes_cell, edits, shares, holds_slot, times_held, OwnerOrCell, SpaceId, IsOf, IsAlone, MayInPlace, World, IsPlaceOf, standing_at, value_at, held_in, with_cell, with_standing, with_value, IsWhole, ledger-laws, one_where, Val, body_of, holdings_of, link_of, owner_in, IsSharedBy, AreBags, AreSpare, IsStored, HasLists, ScriptState, IsDated, IsListCell, IsSecondCell, holding_at, AreCalls, IsSound, HoldsOnlyOlder, SlotsHaveNames, named, named_among, contained, slice_index_or, accounted-with_cell, accounted-with_value, held-cell_changed, held-with_value, NamesAreAtHome, AreDeferred, common_steps}
use Rattle.sdd_world_model.specs.OwnerCounts.{is_of}
use Rattle.sdd_script_model.proofs.ParticipantsMatch.{attended-acts, left-entry}
use Rattle.sdd_script_model.proofs.Dates.{early-dated}
use Rattle.sdd_script_model.proofs.Entry.{at-other, inside as inside-list}
use Rattle.sdd_script_model.proofs.Frames.{Frames, IsQuiet, Passes, frames-on, frames-start, quiet-less}
use Rattle.sdd_script_model.proofs.JobDates.{by-keeping}
use Rattle.sdd_script_model.proofs.KeptUnderGuards.{kept-by, were-same}
use Rattle.sdd_script_model.proofs.HoldsOnlyOlder.{layered-less}
use Rattle.sdd_script_model.proofs.StackedCells.{are-own, list-right, second-right}
use Rattle.sdd_script_model.proofs.Links.{holds-so, less-edited, less-same}
use Rattle.sdd_script_model.proofs.ListChanges.{has-beside, has-edited}
use Rattle.sdd_script_model.proofs.Listed.{AreOwn, has-still, has-stored}
use Rattle.sdd_script_model.proofs.BagStorages.{BagsStay, IsReserved, Spares, bags-still, off-link, off-other, off-owned, spare-as, spare-on, stays-as, stays-on, stored-still}
use Rattle.sdd_script_model.proofs.SlotsHaveNames.{stocked-as}

-- what has a name is at home
abbrev pub AtHome : SpaceId → List (Option OwnerOrCell) → Type 0
AtHome home hs = (n : ℕ) (h : OwnerOrCell) → holding_at hs n ≡ Some h → IsOf home h

pub at_home-spent : (home : SpaceId) (hs : List (Option OwnerOrCell)) (o : ℕ) → AtHome home hs → AtHome home (slice_set hs o None)
at_home-spent home hs o all n h e = all n h (left-entry hs o n h e).1

pub at_home-given : (home : SpaceId) (hs : List (Option OwnerOrCell)) (x : OwnerOrCell) → IsOf home x → AtHome home hs → AtHome home (hs ++ Some x ∷ [])
at_home-given home hs x own all n h e = grind (arith, common_steps)

-- so are all that a state names
abbrev pub AreAllAtHome : SpaceId → ScriptState → Type 0
AreAllAtHome home d =
    AtHome home d.owners × AtHome home d.cells × AtHome home d.collectors × AtHome home d.queues × AtHome home d.newest × AtHome home d.stacks

pub at-home : (d new : ScriptState) → new.world.home ≡ d.world.home → AreAllAtHome d.world.home new → NamesAreAtHome new
at-home d new same home = let all : AreAllAtHome new.world.home new = rw same home in assumption all

-- what an action leaves is sound, in the same line and with the same participants
pub record LeavesSound (d new : ScriptState) : Type 0 where
  pub line : new.moment ≡ d.moment
  pub places : new.places ≡ d.places
  pub sound : IsSound new
  pub dated : IsDated d new
  pub calls : AreCalls d.world new.world
  pub home : new.world.home ≡ d.world.home

-- ---- the end of a line

-- the line, who is there, and the jobs are as they were
abbrev pub IsSameLine : ScriptState → ScriptState → Type 0
IsSameLine d new =
    (new.moment ≡ d.moment) × (new.places ≡ d.places) × (new.guards ≡ d.guards) × (new.jobs ≡ d.jobs) × (new.deferred ≡ d.deferred)
    × (new.job_dates ≡ d.job_dates)

pub same-line : (d : ScriptState) → IsSameLine d d
same-line d = (refl, refl, refl, refl, refl, refl)

module _ (d new : ScriptState) (s : IsSound d) (line : IsSameLine d new) (dated : IsDated d new) (p : ℕ) (live : IsPlaceOf d.world p) where
  -- what is always true is so after calls that pass, of which one is p's
  pub leaves-so : Passes d.world new.world → new.world.home ≡ d.world.home → SlotsHaveNames new →
      IsLedger holdings_of (λ u. named new u + contained new u) new.world →
      HasLists (IsListCell new) (IsSecondCell new) (IsStored new.bags new.world) new.world → AreBags new → AreSpare new.world → HoldsOnlyOlder new →
      AreAllAtHome d.world.home new → new.world.tally.made ≤ length new.slots + new.moment * 2 ^ 32 → LeavesSound d new
  leaves-so passes same stocked ledger lists bags spare layered home made =
      let were = were-same d new line.1 passes.guards.guards in
      let attended = attended-acts d new s.attended passes.guards line.1 line.2 (omega (arith, line.0)) p live in
      let kept = kept-by d new s.kept dated were passes.safe passes.begins in
      let early = early-dated d new dated (omega (arith, line.0)) s.early in
      let deferred : AreDeferred new.jobs new.deferred new.world.jobs = rw (line.3, line.4, passes.jobs) s.deferred in
      let jobs = by-keeping d new s.jobs line.5 line.0 were passes.jobs passes.under in
      let few : new.jobs ≤ new.moment = omega (arith, line.3, line.0, s.few) in
      let named_home = at-home d new same home in
      let sound : IsSound new = assumption (stocked, ledger, lists, bags, spare, layered, named_home, attended, kept, early, made, deferred, jobs, few) in
      assumption (line, sound, dated, passes, same)

  -- after quiet calls, by which no item and no bag is named otherwise
  pub leaves-with : Frames d.world new.world → (new.slots ≡ d.slots) × (new.names ≡ d.names) × (new.bags ≡ d.bags) → BagsStay d.bags d.world new.world →
      IsLedger holdings_of (λ u. named new u + contained new u) new.world →
      HasLists (IsListCell new) (IsSecondCell new) (IsStored d.bags d.world) new.world → AreSpare new.world → AreAllAtHome d.world.home new → LeavesSound d new
  leaves-with f named_so stay ledger lists spare home =
      let stored = stored-still d new named_so.2 stay in
      leaves-so f.passes f.slots.home (stocked-as d new s.stocked named_so.0 named_so.1 dated.long f.slots stored) ledger (has-stored stored lists)
      (bags-still d new s.bags named_so.2 stay f.slots.home (λ k x. ap (λ ns. slice_index_or ns k None) named_so.1)) spare
      (layered-less d new s.layered f.values named_so.1) home
      (omega (arith, f.slots.made, s.made, line.0, ap (λ (xs : List ℕ). length xs) named_so.0))

-- ---- chains

-- the script began the line as d, and so much is outside its world by now, beside its queues, stacks and bags
pub record IsMidway (d : ScriptState) (w : World Val) (outside : Claim → ℕ) : Type 0 where
  pub ledger : IsLedger holdings_of (λ u. outside u + contained d u) w
  pub lists : HasLists (IsListCell d) (IsSecondCell d) (IsStored d.bags d.world) w
  pub bags : BagsStay d.bags d.world w
  pub spare : AreSpare w
  pub whole : IsWhole w
  pub frames : Frames d.world w

-- in the middle of a line
pub own-midway : {d : ScriptState} {w : World Val} {outside : Claim → ℕ} → IsMidway d w outside →
    AreOwn (IsListCell d) (IsSecondCell d) (λ u. outside u + contained d u)
own-midway {d} {w} {outside} m =
    are-own d w (λ u. outside u + contained d u) (λ u. outside u + contained d u) m.ledger (λ u. omega arith) (λ u. omega arith)

pub starts : (d : ScriptState) → IsSound d → IsWhole d.world → IsMidway d d.world (named d)
starts d s whole = assumption (s, whole, frames-start d.world)

-- ---- cells of storages, and their items, are apart

module _ {d : ScriptState} {w : World Val} {outside : Claim → ℕ} (m : IsMidway d w outside) where
  -- from what is somebody's outside
  pub own-apart : (c : ℕ) → 1 ≤ outside (right_to c) → IsReserved d w c → ⊥
  own-apart c mine = off-other d w outside m.ledger m.bags c (omega (arith, mine))

  pub owned-apart : (k : ℕ) → 1 ≤ outside (owner_of k) → IsStored d.bags d.world k → ⊥
  owned-apart k mine = off-owned d w outside m.ledger m.bags k mine

  pub link-apart-from : (s : ℕ) (v : Val) → value_at w s ≡ Some v → (IsStored d.bags d.world s → ⊥) → IsReserved d w (link_of v) → ⊥
  link-apart-from s v there not = off-link d w outside m.ledger m.bags s v there not

-- a quiet call that makes no owner more
abbrev pub IsPlain : {v w : World Val} {ins outs : Claim → ℕ} → Moves holdings_of v ins w outs → Type 0
IsPlain (shares w k n is) = ⊥
IsPlain other = IsQuiet other

plain-quiet : {v w : World Val} {ins outs : Claim → ℕ} → (move : Moves holdings_of v ins w outs) → IsPlain move → IsQuiet move
plain-quiet (shares w k n is) plain = absurd plain
plain-quiet other plain = plain

plain-spares : (d : ScriptState) {v w : World Val} {ins outs : Claim → ℕ} → (move : Moves holdings_of v ins w outs) → IsPlain move →
    ((c : ℕ) → Sets holdings_of move (right_to c) → IsReserved d v c → ⊥) → Spares d move
plain-spares d (shares w k n is) plain off = absurd plain
plain-spares d (changes_cell w c old cell is) plain off = off c refl
plain-spares d other plain off = tt

-- a quiet call takes some of it, and gives some
moves-so : {d : ScriptState} {v w : World Val} {outside ins outs : Claim → ℕ} → IsMidway d v outside → (move : Moves holdings_of v ins w outs) → IsQuiet move →
    Spares d move → (rest : Claim → ℕ) → ((u : Claim) → outside u ≡ rest u + ins u) → ((u : Claim) → Sets holdings_of move u → 1 ≤ rest u) →
    IsMidway d w (λ u. rest u + outs u)
moves-so {d} {v} {w} {outside} {ins} {outs} m move quiet off rest same own =
    assumption (
      after,
      lists,
      stays-on d move m.whole rest before off m.bags,
      spare-on d move m.whole rest before off m.spare (quiet-less move quiet),
      kept,
      frames-on m.frames m.whole move quiet,
    ) where
      kept : Keeps holdings_of move
      kept = (ledger-laws holdings_of v).kept m.whole ins outs w move

      all : Claim → ℕ
      all u = rest u + contained d u

      before : IsLedger holdings_of (λ u. all u + ins u) v
      before u = omega (arith, m.ledger u, same u)

      after : IsLedger holdings_of (λ u. rest u + outs u + contained d u) w
      after u = omega (arith, kept.ledger all before u)

      spares : (c : ℕ) → 1 ≤ contained d (right_to c) → Sets holdings_of move (right_to c) → ⊥
      spares c mine sets = grind (arith, common_steps)

      lists : HasLists (IsListCell d) (IsSecondCell d) (IsStored d.bags d.world) w
      lists =
          has-still move m.whole all before (λ u sets. omega (arith, own u sets)) (IsListCell d) (IsSecondCell d) (IsStored d.bags d.world)
          (are-own d v all (λ u. all u + ins u) before (λ u. omega arith) (λ u. omega arith)) (λ c x. spares c (list-right d c x))
          (λ c b y. spares b (second-right d c b y)) m.lists (quiet-less move quiet)

-- a quiet call takes some of it, and gives some. A cell that it sets is that of a right outside
pub moves : {d : ScriptState} {v w : World Val} {outside ins outs : Claim → ℕ} → IsMidway d v outside → (move : Moves holdings_of v ins w outs) → IsPlain move →
    (rest : Claim → ℕ) → ((u : Claim) → outside u ≡ rest u + ins u) → ((u : Claim) → Sets holdings_of move u → 1 ≤ rest u) →
    IsMidway d w (λ u. rest u + outs u)
moves {d} m move plain rest same own =
    moves-so m move (plain-quiet move plain)
    (plain-spares d move plain (λ c sets. own-apart m c (omega (arith, own (right_to c) sets, same (right_to c))))) rest same own

-- one owner more is made of an item that is no storage, and is in hand
pub shares-one : {d : ScriptState} {v : World Val} {outside : Claim → ℕ} → IsMidway d v outside → (k n : ℕ) → IsSharedBy n (standing_at v k) →
    (IsStored d.bags d.world k → ⊥) → IsMidway d (with_standing v k (Shared (n + 1))) (λ u. outside u + one (owner_of k) u)
shares-one {v = v} {outside = outside} m k n is off =
    moves-so m (shares v k n is) tt off outside (λ u. omega arith) (λ u never. absurd never)

-- what is outside is no queue's or stack's
pub cell-apart : {d : ScriptState} {w : World Val} {outside : Claim → ℕ} → IsMidway d w outside → (c : ℕ) → 1 ≤ outside (right_to c) → (b : ℕ) →
    1 ≤ contained d (right_to b) → b ≢ c
cell-apart {d} {w} {outside} m c mine b x same =
    let other : 1 ≤ contained d (right_to c) = subst (λ (i : ℕ). 1 ≤ contained d (right_to i)) same x in
    let one = ((ledger-laws holdings_of w).tells (λ u. outside u + contained d u) m.ledger).alone c (omega (arith, mine)) in omega (arith, one.1, mine, other)

-- an item of which somebody outside has the one owner is held by no cell
pub alone-unheld : {d : ScriptState} {w : World Val} {outside : Claim → ℕ} → IsMidway d w outside → (k : ℕ) → IsAlone (standing_at w k) →
    1 ≤ outside (owner_of k) → (b : ℕ) → held_in (entry_at w.cells b) ≡ Some k → ⊥
alone-unheld {d} {w} {outside} m k alone mine b holds = grind (arith, common_steps)

-- a cell changes that holds the same: what it holds is counted as before
tagged-ledger : (outside : Claim → ℕ) (w : World Val) (c : ℕ) (cell now : CellContents) → entry_at w.cells c ≡ Some cell → now.held ≡ cell.held →
    IsLedger holdings_of outside w → IsLedger holdings_of outside (with_cell w c now)
tagged-ledger outside w c cell now is same ledger (owner_of k) =
    accounted-with_cell holdings_of w c now (λ j. outside (owner_of j)) (λ j. outside (owner_of j)) (inside-list w.cells c (ap is_some is))
    (λ j. omega (arith, ap (λ h. one_where (is_of j h)) same, ap (λ e. one_where (holds_slot j e)) is)) (λ j. ledger (owner_of j)) k
tagged-ledger outside w c cell now is same ledger (right_to b) =
    held-cell_changed holdings_of w c now (λ j. outside (right_to j)) (ap is_some is) (λ j. ledger (right_to j)) b

module _ {d : ScriptState} {w : World Val} {outside : Claim → ℕ} (m : IsMidway d w outside) (c : ℕ) (cell now : CellContents)
    (is : entry_at w.cells c ≡ Some cell) (same : now.held ≡ cell.held) where
  pub tagged : (IsReserved d w c → ⊥) → HasLists (IsListCell d) (IsSecondCell d) (IsStored d.bags d.world) (with_cell w c now) →
      IsMidway d (with_cell w c now) outside
  tagged off lists =
      let move = changes_cell w c cell now is in
      let far : (b : ℕ) → IsReserved d w b → b ≢ c = λ b x at. off (subst (λ (i : ℕ). IsReserved d w i) at x) in
      record {
        ledger = tagged-ledger (λ u. outside u + contained d u) w c cell now is same m.ledger;
        lists = lists;
        bags = stays-as d w (with_cell w c now) m.bags (λ b x. at-other w.cells c b (Some now) None (far b (inl x))) (λ s x. (refl, refl));
        spare = spare-as w (with_cell w c now) (less-same w (with_cell w c now) refl)
            (λ b x. ap held_in (at-other w.cells c b (Some now) None (far b (inr x)))) m.spare;
        whole = ((ledger-laws holdings_of w).kept m.whole _ _ (with_cell w c now) move).whole;
        frames = frames-on m.frames m.whole move tt;
      }

  -- such a cell is somebody's outside
  pub retags : 1 ≤ outside (right_to c) → IsMidway d (with_cell w c now) outside
  retags mine =
      tagged (own-apart m c mine) (has-beside (IsListCell d) (IsSecondCell d) (IsStored d.bags d.world) w (λ u. outside u + contained d u) m.ledger m.lists c
      (omega (arith, mine))
      (λ b x. cell-apart m c mine b (list-right d b x)) (λ a b y. cell-apart m c mine b (second-right d a b y)) now)

-- a value is another in its place, with the same link and the same owner, and somebody outside has its one owner
pub edited : {d : ScriptState} {w : World Val} {outside : Claim → ℕ} → IsMidway d w outside → (k : ℕ) (was now : Val) → (may : MayInPlace w k) →
    (there : value_at w k ≡ Some was) → link_of now ≡ link_of was → owner_in (body_of now) ≡ owner_in (body_of was) → 1 ≤ outside (owner_of k) →
    IsMidway d (with_value w k now) outside
edited {d} {w} {outside} m k was now may there link body mine =
    record {
      ledger = ledger;
      lists = has-edited (IsListCell d) (IsSecondCell d) (IsStored d.bags d.world) w (λ u. outside u + contained d u) m.ledger m.lists k was now there link
          (alone-unheld m k may.alone mine);
      bags = stays-as d w (with_value w k now) m.bags (λ c x. refl)
          (λ s x. (at-other w.values k s (Some now) None (λ same. owned-apart m k mine (subst (λ (i : ℕ). IsStored d.bags d.world i) same x)), refl));
      spare = spare-as w (with_value w k now) (less-edited w k was now there link body) (λ c x. refl) m.spare;
      whole = kept.whole;
      frames = frames-on m.frames m.whole move (link, body);
    } where
      move : Moves holdings_of w (λ u. one (owner_of k) u + claims (holdings_of now) u) (with_value w k now)
          (λ u. one (owner_of k) u + claims (holdings_of was) u)
      move = edits w k was now may there

      kept : Keeps holdings_of move
      kept = (ledger-laws holdings_of w).kept m.whole _ _ (with_value w k now) move

      held : (u : Claim) → claims (holdings_of now) u ≡ claims (holdings_of was) u
      held u = omega (arith, holds-so now u, holds-so was u, ap (λ c. one (right_to c) u) link, ap (λ hs. claims hs u) body)

      all : Claim → ℕ
      all u = outside u + contained d u

      ledger : IsLedger holdings_of (λ u. outside u + contained d u) (with_value w k now)
      ledger (owner_of j) =
          accounted-with_value holdings_of w k now (λ i. all (owner_of i)) (λ i. all (owner_of i)) (inside-list w.values k (ap is_some there))
          (λ i. omega (arith, held (owner_of i), ap (times_held holdings_of i) there)) (λ i. m.ledger (owner_of i)) j
      ledger (right_to c) =
          held-with_value holdings_of w k now (λ i. all (right_to i)) (λ i. all (right_to i)) (inside-list w.values k (ap is_some there))
          (λ i. omega (arith, held (right_to i), ap (times_kept holdings_of i) there)) (λ i. m.ledger (right_to i)) c

-- as much is outside, counted otherwise
pub midway-as : {d : ScriptState} {w : World Val} {outside now : Claim → ℕ} → IsMidway d w outside → ((u : Claim) → now u ≡ outside u) → IsMidway d w now
midway-as {d} {w} {outside} {now} m same =
    let ledger : IsLedger holdings_of (λ u. now u + contained d u) w = λ u. omega (arith, m.ledger u, same u) in assumption (m, ledger)

-- the line ends, with these names and dates: all that is outside has a name
module _ (d : ScriptState) (w : World Val) (owners cells collectors : List (Option OwnerOrCell)) (dates : List ℕ) where
  abbrev pub left : ScriptState
  left = record d { world = w; owners = owners; cells = cells; collectors = collectors; dates = dates }

  pub finishes : {outside : Claim → ℕ} → IsSound d → IsMidway d w outside → ((u : Claim) → named_among owners cells collectors u ≡ outside u) →
      AtHome d.world.home owners × AtHome d.world.home cells × AtHome d.world.home collectors → IsDated d left → (p : ℕ) → IsPlaceOf d.world p →
      LeavesSound d left
  finishes s m same home dated p live =
      leaves-with d left s (same-line d) dated p live m.frames (refl, refl, refl) m.bags (λ u. omega (arith, m.ledger u, same u)) m.lists m.spare
      (home.0, home.1, home.2, s.home.queues, s.home.newest, s.home.stacks)
