-- A core stays sound while an item or a job begins to wait
use Rattle.std.proofs.Common.{◌≡◌, ℕ, ◌+◌, ◌<◌, [], ◌∷◌, List, length, cond, true, false, refl, ap, arith, Some, None, Option, sum_by, count_by}
use Rattle.std.specs.Prelude.{is_none}
use Rattle.std.proofs.lemmas.List.{length-set, length-append}
use Rattle.std.proofs.lemmas.List.Sums.{sum_by-set, get_or-le-sum_by}
use Rattle.sdd_participants.specs.Slab.{Entries, IsEmptyAt, entry_at, with_entry}
use Rattle.sdd_participants.specs.EpochState.{EpochState, nobody, waiting_count}
use Rattle.sdd_participants.specs.EpochState as time
use Rattle.sdd_participants.specs.Waiting.{fresh}
use Rattle.sdd_participants.specs.declared.waiting.LimboEntry.{LimboEntry}
use Rattle.sdd_participants.specs.declared.waiting.LimboEntry.TheVariants.{Item, Job}
use Rattle.sdd_participants.specs.declared.participant.Participant.{Participant}
use Rattle.sdd_participants.specs.declared.standing.Standing.{Standing}
use Rattle.sdd_participants.specs.declared.standing.Standing.TheVariants.{Owned, Raw, Shared, Retired, Private as privately}
use Rattle.sdd_values.specs.ReadSections.{ReadSections}
use Rattle.sdd_world_model.specs.Slots.{Slots, is_waiting, has_others, released_to, standing_at, with_standing}
use Rattle.sdd_world_model.specs.Cells.{Cells}
use Rattle.sdd_world_model.specs.OwnerOrCell.{OwnerOrCell}
use Rattle.sdd_world_model.specs.World.{is_loose}
use Rattle.sdd_world_model.specs.Out.{is_out}
use Rattle.sdd_world_model.proofs.Standings.{out-inside, out-waits-not}
use Rattle.sdd_world_core.specs.WorldCore.{IsSound}
use Rattle.sdd_world_core.proofs.ReleasedOwner.{Found, several, sole}

-- whether a slot is loose, and whether a place of a job is free
abbrev loose_weight : Option Standing → ℕ
loose_weight s = cond (is_loose s) 1 0

abbrev free_weight : Option (Unit {0}) → ℕ
free_weight j = cond (is_none j) 1 0

out-loose : (s : Option Standing) → is_out s ≡ true → loose_weight s ≡ 1
out-loose s out = rw (out-waits-not s out, is_loose) refl

waits-loose : (s : Option Standing) → is_waiting s ≡ true → loose_weight s ≡ 0
waits-loose s waits = rw (waits, is_loose) refl

module _ {T : Type 0} (holds : T → List OwnerOrCell) (t : EpochState) (s : Slots T) (c : Cells) (jobs : Entries (Unit {0})) (r : ReadSections) (p : ℕ)
    (there : p < length t.places) (i : IsSound holds t s c jobs r) where
  -- one more waits with the place
  one-more : (x : LimboEntry) → sum_by waiting_count (time.awaiting_at t p x).places ≡ sum_by waiting_count t.places + 1
  one-more x =
      let y : Participant = time.awaiting x (time.place_at t p) in
      let longer : waiting_count y ≡ waiting_count (time.place_at t p) + 1 = length-append (time.place_at t p).bags.waiting (fresh x ∷ []) in
      omega (arith, sum_by-set waiting_count t.places p y nobody there, longer)

  room-for : 0 < count_by is_loose s.standings + count_by is_none jobs → length (time.place_at t p).bags.waiting < t.room
  room-for some = omega (arith, get_or-le-sum_by waiting_count t.places p nobody there, i.counted, i.reserved, some)

  module _ (k : ℕ) (out : is_out (standing_at s k) ≡ true) where
    one-less : (st : Standing) → is_waiting (Some st) ≡ true → count_by is_loose (with_entry s.standings k st) + 1 ≡ count_by is_loose s.standings
    one-less st waits =
        let all = sum_by-set loose_weight s.standings k (Some st) None (out-inside s.standings k out) in
        omega (arith, all, out-loose (standing_at s k) out, waits-loose (Some st) waits)

    -- the item in a slot that is out
    pub item-room : length (time.place_at t p).bags.waiting < t.room
    item-room = room-for (omega (arith, one-less Retired refl))

    pub sound-item : (st : Standing) → is_waiting (Some st) ≡ true → IsSound holds (time.awaiting_at t p (Item k)) (with_standing s k st) c jobs r
    sound-item st waits =
        let long = length-set s.standings k (Some st) in
        record {
          counted = omega (arith, i.counted, one-more (Item k), one-less st waits, long);
          reserved = omega (arith, i.reserved, long);
          held = i.held;
          homes = i.homes;
          participants = i.participants;
          sections = i.sections;
          readers = i.readers;
        }

  module _ (j : ℕ) (free : IsEmptyAt jobs j) where
    one-taken : count_by is_none (with_entry jobs j tt) + 1 ≡ count_by is_none jobs
    one-taken =
        let all = sum_by-set free_weight jobs j (Some tt) None free.0 in
        let was : free_weight (entry_at jobs j) ≡ 1 = ap free_weight free.1 in
        omega (arith, all, was)

    -- a job whose place was free
    pub job-room : length (time.place_at t p).bags.waiting < t.room
    job-room = room-for (omega (arith, one-taken))

    pub sound-job : IsSound holds (time.awaiting_at t p (Job j)) s c (with_entry jobs j tt) r
    sound-job =
        let long = length-set jobs j (Some tt) in
        record {
          counted = omega (arith, i.counted, one-more (Job j), one-taken, long);
          reserved = omega (arith, i.reserved, long);
          held = i.held;
          homes = i.homes;
          participants = i.participants;
          sections = i.sections;
          readers = i.readers;
        }

-- the last owner's item waits
pub last-waits : (to : Standing) → is_waiting (Some to) ≡ true → (s : Option Standing) → Found s → has_others s ≡ false →
    is_waiting (Some (released_to to s)) ≡ true
last-waits to waits None f h = elim f [ ]
last-waits to waits (Some Raw) f h = elim f [ ]
last-waits to waits (Some Retired) f h = elim f [ ]
last-waits to waits (Some (privately c)) f h = elim f [ ]
last-waits to waits (Some Owned) sole last = waits
last-waits to waits (Some (Shared n)) (several _) last = rw last waits
