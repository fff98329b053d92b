-- What is due at an opening, by the lines of a script and their order
use Rattle.std.specs.Prelude.{ℕ, ◌≡◌, ◌+◌, ◌-◌, ◌==◌, ◌&&◌, ◌||◌, ◌↔◌, Bool, false, IsTrue, List, [], ◌∷◌, Contains, is_some, not, if◌then◌else◌}
use Rattle.std.specs.List.{list_all}
use Rattle.sdd_core.specs.Epoch.{epoch_of}
use Rattle.sdd_participants.specs.PlaceStates.{is_ended}
use Rattle.sdd_participants.specs.Slab.{entry_at}
use Rattle.sdd_participants.specs.declared.waiting.LimboEntry.{LimboEntry}
use Rattle.sdd_participants.specs.declared.waiting.LimboEntry.TheVariants.{Item, Job}
use Rattle.sdd_world_model.specs.Slots.{is_waiting}
use Rattle.sdd_world_model.specs.World.{World, standing_at}
use Rattle.sdd_script_text.specs.declared.name.ItemName.{ItemName}
use Rattle.sdd_script_text.specs.declared.name.JobName.{JobName}
use Rattle.sdd_script_text.specs.declared.call.Call.{Call}
use Rattle.sdd_script_text.specs.declared.call.Call.TheVariants.{Register, Tally, At}
use Rattle.sdd_script_text.specs.Actions as call
use Rattle.sdd_script_text.specs.declared.answer.Answer.{Answer}
use Rattle.sdd_script_text.specs.declared.answer.Reply.{Reply}
use Rattle.sdd_script_text.specs.declared.answer.Reply.TheVariants as reply
use Rattle.sdd_script_model.specs.Val.{Val}
use Rattle.sdd_script_model.specs.ScriptState.{ScriptState, IsThere, WaitsAt, slot_at}

-- a line: its call and answer, and the state that it finds and leaves
pub record Line : Type 0 where
  pub before : ScriptState
  pub call : Call
  pub answer : Answer
  pub after : ScriptState

-- ---- what a line does

-- the participant whose call it is
abbrev pub caller : Call → ℕ
caller (At n action) = n.0
caller Register = 0
caller Tally = 0

-- it opens a guard of participant n
abbrev pub is_opening : ℕ → Call → Reply → Bool
is_opening n (At m call.Open) (reply.Guard g epoch) = m.0 == n
is_opening n call given = false

-- it closes one
abbrev pub is_close : ℕ → Call → Reply → Bool
is_close n (At m (call.Close g)) reply.Done = m.0 == n
is_close n call given = false

-- it ends participant n
abbrev pub is_end : ℕ → Call → Reply → Bool
is_end n (At m call.End) reply.Done = m.0 == n
is_end n call given = false

abbrev pub opens : ℕ → Line → Bool
opens n line = is_opening n line.call line.answer.reply

abbrev pub closes : ℕ → Line → Bool
closes n line = is_close n line.call line.answer.reply

abbrev pub ends : ℕ → Line → Bool
ends n line = is_end n line.call line.answer.reply

-- the epoch that its answer shows, where it opens a guard
abbrev pub epoch_shown : Reply → ℕ
epoch_shown (reply.Guard g epoch) = epoch
epoch_shown given = 0

-- the item in a slot waits, or the job in a place of the table of jobs
abbrev pub is_waiting_in : World Val → LimboEntry → Bool
is_waiting_in w (Item s) = is_waiting (standing_at w s)
is_waiting_in w (Job k) = is_some (entry_at w.jobs k)

-- it begins to wait: it is retired or deferred, its last owner is released, or what is reclaimed or dropped gives it up
abbrev pub begins : LimboEntry → Line → Bool
begins x line = is_waiting_in line.after.world x && not (is_waiting_in line.before.world x)

-- no place is left that has ended
abbrev pub leaves_none_ended : Line → Bool
leaves_none_ended line = list_all (λ phase. not (is_ended phase)) line.after.world.time.phases

-- ---- what the lines so far say, the newest first

-- how many guards of participant n are open
abbrev pub open_guards : ℕ → List Line → ℕ
open_guards n [] = 0
open_guards n (line ∷ past) =
    if opens n line then open_guards n past + 1 else (if closes n line then open_guards n past - 1 else open_guards n past)

-- the line, after these, is an outermost opening of participant n
abbrev pub opens_first : ℕ → List Line → Line → Bool
opens_first n past line = opens n line && open_guards n past == 0

-- the count of epochs, as outermost openings show it: at each, whoever's, one more than at the one before if another epoch is shown; at first 0
abbrev pub count_shown : List Line → ℕ
count_shown [] = 0
count_shown (line ∷ past) =
    if opens_first (caller line.call) past line && not (epoch_shown line.answer.reply == epoch_of (count_shown past)) then count_shown past + 1
    else count_shown past

-- the count that the last outermost opening of participant n found; without one 0
abbrev pub last_found : ℕ → List Line → ℕ
last_found n [] = 0
last_found n (line ∷ past) = if opens_first n past line then count_shown (line ∷ past) else last_found n past

-- the line, after these, is a change of participant n: an outermost opening that finds another count than the last one
abbrev pub is_change : ℕ → List Line → Line → Bool
is_change n past line = opens_first n past line && not (count_shown (line ∷ past) == last_found n past)

-- how many changes there were of participant n
abbrev pub changes : ℕ → List Line → ℕ
changes n [] = 0
changes n (line ∷ past) = if is_change n past line then changes n past + 1 else changes n past

-- participant n has ended
abbrev pub has_ended : ℕ → List Line → Bool
has_ended n [] = false
has_ended n (line ∷ past) = ends n line || has_ended n past

-- the line, after these, closes the only guard of its participant, and what participants left that have ended is adopted: no place is left that has ended
abbrev pub adopts : List Line → Line → Bool
adopts past line = closes (caller line.call) line && open_guards (caller line.call) past == 1 && leaves_none_ended line

-- with whom it waits, and the lines up to the one since which it does, that one first
pub record Start : Type 0 where
  pub holder : ℕ
  pub lines : List Line

-- its last start: it began to wait, or whoever held it had ended and it was adopted; the participant whose line it is holds it since
abbrev pub start_of : List Line → LimboEntry → Start
start_of [] x = record { holder = 0; lines = [] }
start_of (line ∷ past) x =
    if begins x line || (has_ended (start_of past x).holder past && adopts past line) then record { holder = caller line.call; lines = line ∷ past }
    else start_of past x

-- ---- what is due

-- it waits with participant n and is due in this line, after these: the line is a change of n, and the third since its start
pub record IsDueAt (n : ℕ) (past : List Line) (line : Line) (x : LimboEntry) : Type 0 where
  pub change : IsTrue (is_change n past line)
  pub waits : IsTrue (is_waiting_in line.before.world x)
  pub holder : (start_of past x).holder ≡ n
  pub between : changes n past ≡ changes n (start_of past x).lines + 2

-- where the line opens a guard of participant n, its answer names exactly the items as reclaimed that are due in it, and the jobs as run
pub record NamesDue (n : ℕ) (past : List Line) (line : Line) : Type 0 where
  pub items : (i : ItemName) → Contains line.answer.reclaimed i ↔ (IsThere line.before i.0 × IsDueAt n past line (Item (slot_at line.before i.0)))
  pub jobs : (j : JobName) → Contains line.answer.ran j ↔ ((k : ℕ) × WaitsAt line.before j.0 k × IsDueAt n past line (Job k))

abbrev pub NamesWhatIsDue : List Line → Line → Type 0
NamesWhatIsDue past line = (n : ℕ) → IsTrue (opens n line) → NamesDue n past line
