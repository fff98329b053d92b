-- How the words of slots and cells are read.
--
-- A slot, below 2^63: 16 * generation + kind, where the kind is 0 free, 1 owned, 2 raw, 3 held; 4 waiting; 16 * collector + 5 waiting for a collector;
-- once the collector's close has claimed it, 7 while its value is moved out, 8 the same where its bag has let go of it meanwhile, and 6 emptied, and still
-- in the bag. Shared by n owners: 2^63 + n; none left, it waits: 2^63.
-- A cell: 0 free; else 2^27 * generation + 4 * (slot + 1) + tag, or the mark 2^27 + tag, which owns nothing: null with a tag, raw pointers, a collector.
-- A cell's pointer: 4 * (slot + 1) + tag, or its tag alone, which names nothing.
use Rattle.std.specs.Prelude.{◌≡◌, ℕ, ◌+◌, ◌-◌, ◌*◌, ◌/◌, ◌%◌, ◌^◌, ◌<◌, ◌≤◌, if◌then◌else◌, Bool, List, [], ◌∷◌, suc, eqb, leb}
use prog.Atomic.{either}
use Rattle.sdd_domain_invariant.specs.Sums.{is}

pub record WordReading : Type 0 where
  -- how many owners the item of a slot has, those in cells too
  pub alive : ℕ → ℕ
  -- 1 where it waits, and for no collector
  pub waiting : ℕ → ℕ
  -- 1 where the slot isn't free
  pub full : ℕ → ℕ
  -- 1 where its value is there, or is being moved
  pub valued : ℕ → ℕ
  -- 1 where its owners are counted
  pub counted : ℕ → ℕ
  -- 1 where it is private, and still in a bag: it waits for a collector, or the collector's close empties it, or has done so
  pub private : ℕ → ℕ
  -- 1 where it waits for this collector
  pub waits_for : ℕ → ℕ → ℕ
  -- 1 while a close moves its value out
  pub emptying : ℕ → ℕ
  -- 1 where a cell's word owns the slot i
  pub names : ℕ → ℕ → ℕ

-- what the rule asks of a reading: an item with an owner doesn't wait, one whose owners aren't counted has one at most, one waits once at most,
-- either privately or not, and for one collector; and a word is 0 at the start
pub record IsWordReading (z : WordReading) : Type 0 where
  pub lives : (x : ℕ) → 0 < z.alive x → (z.waiting x ≡ 0) × (z.full x ≡ 1)
  pub few : (x : ℕ) → z.counted x ≡ 0 → z.alive x ≤ 1
  pub valued : (x : ℕ) → 0 < z.alive x → z.valued x ≡ 1
  pub emptying : (x : ℕ) → 0 < z.emptying x → (z.emptying x ≡ 1) × (z.alive x ≡ 0) × (z.full x ≡ 1) × (z.valued x ≡ 1) × (z.waiting x ≡ 0)
  pub private : (x : ℕ) → 0 < z.private x → (z.private x ≡ 1) × (z.alive x ≡ 0) × (z.full x ≡ 1) × (z.waiting x ≡ 0)
  pub for_one : (k x : ℕ) → 0 < z.waits_for k x → (z.private x ≡ 1) × (z.valued x ≡ 1) × (z.emptying x ≡ 0)
  pub one_of : (k l x : ℕ) → 0 < z.waits_for k x → 0 < z.waits_for l x → k ≡ l
  pub waits : (x : ℕ) → 0 < z.waiting x → (z.waiting x ≡ 1) × (z.full x ≡ 1) × (z.valued x ≡ 1)
  pub empty : (x : ℕ) → z.full x ≡ 0 → z.valued x ≡ 0
  pub there : (x : ℕ) → z.full x ≡ 1 → z.private x ≡ 0 → z.valued x ≡ 1
  pub free : (z.alive 0 ≡ 0) × (z.waiting 0 ≡ 0) × (z.full 0 ≡ 0)
  pub null : (i : ℕ) → z.names i 0 ≡ 0

abbrev pub free_word : ℕ → ℕ
free_word generation = 16 * generation

abbrev pub owned_word : ℕ → ℕ
owned_word generation = 16 * generation + 1

abbrev pub raw_word : ℕ → ℕ
raw_word generation = 16 * generation + 2

abbrev pub waiting_word : ℕ → ℕ
waiting_word generation = 16 * generation + 4

-- the only owner holds it, and isn't counted meanwhile
abbrev pub held_word : ℕ
held_word = 3

-- from here on the owners are counted
abbrev pub shared_base : ℕ
shared_base = 2 ^ 63

abbrev pub shared_word : ℕ → ℕ
shared_word owners = shared_base + owners

-- a slot's word once it is claimed for one owner, who is one of several that there may be, or not
abbrev pub claimed_word : Bool → ℕ
claimed_word shared = if shared then shared_word 1 else owned_word 0

-- and once the last owner has gone
abbrev pub retired_word : Bool → ℕ
retired_word shared = if shared then shared_base else waiting_word 0

-- most owners that a word is to count
abbrev pub most_owners : ℕ
most_owners = 2 ^ 62

abbrev pub kind_alive : ℕ → ℕ
kind_alive q = either (eqb q 1) 1 (either (eqb q 3) 1 0)

abbrev pub kind_waiting : ℕ → ℕ
kind_waiting q = either (eqb q 4) 1 0

abbrev pub kind_full : ℕ → ℕ
kind_full q = either (eqb q 0) 0 1

-- an item that a collector's close emptied
abbrev pub emptied_word : ℕ
emptied_word = 6

-- one that a close empties, which is in a bag still, or no more
abbrev pub emptying_word : ℕ
emptying_word = 7

abbrev pub left_word : ℕ
left_word = 8

-- one that waits for a collector
abbrev pub private_word : ℕ → ℕ
private_word collector = 16 * collector + 5

unfoldable pub alive : ℕ → ℕ
alive x = either (leb shared_base x) (x - shared_base) (kind_alive (x % 16))

unfoldable pub waiting : ℕ → ℕ
waiting x = either (leb shared_base x) (is shared_base x) (kind_waiting (x % 16))

unfoldable pub full : ℕ → ℕ
full x = either (leb shared_base x) 1 (kind_full (x % 16))

unfoldable pub valued : ℕ → ℕ
valued x = either (eqb x emptied_word) 0 (full x)

unfoldable pub private : ℕ → ℕ
private x = either (leb shared_base x) 0 (either (eqb (x % 16) 5) 1 (is emptied_word x + is emptying_word x))

unfoldable pub waits_for : ℕ → ℕ → ℕ
waits_for k x = either (leb shared_base x) 0 (either (eqb (x % 16) 5) (is k (x / 16)) 0)

unfoldable pub emptying : ℕ → ℕ
emptying x = is emptying_word x + is left_word x

unfoldable pub counted : ℕ → ℕ
counted x = either (leb shared_base x) 1 0

-- one more than the number of the slot that a cell's word names; 0 where it names none
abbrev pub named : ℕ → ℕ
named x = x % 2 ^ 27 / 4

-- the slot whose owner a cell holds that has this word, if it holds one
unfoldable pub held_slots : ℕ → List ℕ
held_slots x = if eqb (named x) 0 then [] else (named x - 1) ∷ []

-- a cell's word that holds the owner of a slot, with a tag; and one that holds none
abbrev pub holding_word : ℕ → ℕ → ℕ
holding_word slot tag = 4 * suc slot + tag

abbrev pub null_word : ℕ → ℕ
null_word tag = 2 ^ 27 + tag

-- all words of pointers are below: a slot's number is below 2^32
abbrev pub pointers_end : ℕ
pointers_end = 4 * 2 ^ 32 + 4

unfoldable pub names : ℕ → ℕ → ℕ
names i x = either (eqb (named x) 0) 0 (is i (named x - 1))

abbrev pub codes : WordReading
codes = record {
  alive = alive;
  waiting = waiting;
  full = full;
  valued = valued;
  counted = counted;
  private = private;
  waits_for = waits_for;
  emptying = emptying;
  names = names;
}
