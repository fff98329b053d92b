-- Each opening of a run names exactly what is due by the lines before it
use Rattle.sdd_script_model.proofs.Words.{replicate, sum_by, option_map, zero, Limits, Item, Job, Tally, jobs_with, once_if, ItemName, JobName, Answer, Reply, Call, At, Line, is_waiting_in, opens, AreCalls, LineStep, NamesWhatGoes, NamesWhatRuns, Runs, none as no_call, one_more, IsStart, slot_at, IsNew, KeepsUp, times_with, housed-none, NamesDue, NamesWhatIsDue, EachNamesWhatIsDue, LimboEntry, ◌≡◌, ℕ, suc, false, List, [], ◌∷◌, Option, Some, None, is_some, map, count_by, slice_index_or, refl, sym, ap, ◌∙◌, subst, arith, false≢true, nat_tests, EpochState, Standing, is_waiting, World, IsWhole, Val, holdings_of, ScriptState, OpenSince, opening_at, later}
use Rattle.sdd_world_model.proofs.ReclaimBound.{Whole-called}
use Rattle.sdd_script_model.proofs.Lemmas.{at-blank}
use Rattle.sdd_script_model.proofs.GuardOpenLines.{due-is, tells-opens}
use Rattle.sdd_script_model.proofs.History.{home, Tells}
use Rattle.sdd_script_model.proofs.GuardCloseLines.{tells-closes}
use Rattle.sdd_script_model.proofs.StateByLines.{line, not-some, tells-calm, tells-comes, tells-goes}
use Rattle.sdd_script_model.proofs.LineKinds.{Turn, turn}
use Rattle.sdd_participants.specs.EpochState as time
use Rattle.sdd_script_text.specs.declared.answer.Reply.TheVariants as reply
use Rattle.sdd_script_text.specs.Actions as call
use Rattle.sdd_script_model.proofs.LineKinds as turns

-- ---- before the first line

none-some : (A : Type 0) (n : ℕ) → map is_some (replicate {A = Option A} n None) ≡ replicate n false
none-some A zero = refl
none-some A (suc n) = ap (λ bs. false ∷ bs) (none-some A n)

none-taken : (A : Type 0) (n : ℕ) → count_by is_some (replicate {A = Option A} n None) ≡ 0
none-taken A zero = refl
none-taken A (suc n) = none-taken A n

new-whole : (limits : Limits) (w : World Val) → IsNew limits 0 w → IsWhole w
new-whole limits w is = record {
  filled = ap (λ vs. map is_some vs) is.values ∙ none-some Val limits.slots
      ∙ sym (ap (λ ss. map is_some ss) is.standings ∙ none-some Standing limits.slots);
  once = λ k. ap (λ (t : EpochState). sum_by (times_with k) t.places) is.time
      ∙ sym (ap (λ (ss : List (Option Standing)). once_if (is_waiting (slice_index_or ss k None))) is.standings
      ∙ ap (λ s. once_if (is_waiting s)) (at-blank None limits.slots k));
  jobs_once = λ j. ap (λ (t : EpochState). sum_by (jobs_with j) t.places) is.time
      ∙ sym (ap (λ js. once_if (is_some (slice_index_or js j None))) is.jobs ∙ ap (λ s. once_if (is_some s)) (at-blank None limits.jobs j));
  abreast = λ p. subst (λ (t : EpochState). KeepsUp t.count (time.place_at t p)) (sym is.time) (record {
    found = omega arith;
    near = λ _. omega arith;
    young = λ k d lt. absurd (omega (arith, lt));
    countdown = omega arith;
    quiet = λ _. refl;
  });
  housed = housed-none w.time (ap (λ (t : EpochState). t.places) is.time) (ap (λ (t : EpochState). t.phases) is.time);
  counted = λ _.
      (let made = ap (λ (t : Tally). t.made) is.tally in
      let reclaimed = ap (λ (t : Tally). t.reclaimed) is.tally in
      let in_place = ap (λ (t : Tally). t.in_place) is.tally in
      let taken = ap (λ ss. count_by is_some ss) is.standings ∙ none-taken Standing limits.slots in
      omega (arith, made, reclaimed, in_place, taken));
}

idle-first : (limits : Limits) (d : ScriptState) → IsStart limits d → (x : LimboEntry) → is_waiting_in d.world x ≡ false
idle-first limits d start (Item s) =
    ap (λ (ss : List (Option Standing)). is_waiting (slice_index_or ss s None)) start.world.standings ∙ ap is_waiting (at-blank None limits.slots s)
idle-first limits d start (Job k) = ap (λ js. is_some (slice_index_or js k None)) start.world.jobs ∙ ap is_some (at-blank None limits.jobs k)

tells-start : (limits : Limits) (d : ScriptState) → IsStart limits d → Tells [] d
tells-start limits d start =
    let none : (n q : ℕ) → home d.places n ≡ Some q → ⊥ = λ n q e. not-some (sym (ap (λ ps. home ps n) start.places) ∙ e) in
    record {
      whole = new-whole limits d.world start.world;
      inside = λ n q e. absurd (none n q e);
      apart = λ n m q e f. absurd (none n q e);
      found = λ n q e. absurd (none n q e);
      guards = λ n q e. absurd (none n q e);
      here = λ n q e. absurd (none n q e);
      fresh = λ n l. (refl, refl, refl);
      shown = (let first = ap (λ (t : EpochState). t.count) start.world.time in (omega (arith, first), omega (arith, first)));
      behind = λ n q e. absurd (none n q e);
      waits = λ x waits. absurd (false≢true (sym (idle-first limits d start x) ∙ waits));
    }

-- ---- one line

pub whole-calls : {v w : World Val} → AreCalls v w → IsWhole v → IsWhole w
whole-calls (no_call w) i = i
whole-calls (one_more u v w calls step) i = Whole-called holdings_of step (whole-calls calls i)

-- a line that opens no guard names nothing by that
quiet-due : (past : List Line) (l : Line) → ((n : ℕ) → opens n l ≡ false) → NamesWhatIsDue past l
quiet-due past l quiet n opening = absurd (false≢true (sym (quiet n) ∙ opening))

module _ (past : List Line) (old new : ScriptState) (reclaimed : List ItemName) (ran : List JobName) (k : Tells past old) (after : IsWhole new.world) where
  abbrev After : Call → Reply → Type 0
  After call given =
      Tells (line past old new call given reclaimed ran k after ∷ past) new × NamesWhatIsDue past (line past old new call given reclaimed ran k after)

  step-turn : {call : Call} {given : Reply} → Turn (later old) new call given → NamesWhatGoes (later old) call given reclaimed →
      NamesWhatRuns (later old) call given ran → After call given
  step-turn {call} {given} (turns.calm c) goes runs = (
    tells-calm past old new call given reclaimed ran k after c,
    quiet-due past (line past old new call given reclaimed ran k after) c.no_opening,
  )
  step-turn (turns.comes name p is vacant world places) goes runs =
      (tells-comes past old new name reclaimed ran k after p vacant world places, λ n opening. absurd (false≢true opening))
  step-turn (turns.goes name there world places) goes runs =
      (tells-goes past old new name reclaimed ran k after there world places, λ n opening. absurd (false≢true opening))
  step-turn (turns.closes name g there world places) goes runs =
      (tells-closes past old new name g reclaimed ran k after there world places, λ n opening. absurd (false≢true opening))
  step-turn (turns.opens name g epoch there shows world places) goes runs =
      let here = line past old new (At name call.Open) (reply.Guard g epoch) reclaimed ran k after in
      let due = due-is past old new name g epoch reclaimed ran k after there shows world places in (
        tells-opens past old new name g epoch reclaimed ran k after there shows world places,
        λ n opening.
            subst (λ m. NamesDue m past here) (grind (arith, nat_tests, opening)) (record {
              items = λ i. (
                (λ c. let h = (goes.exactly i).0 c in (record { last = h.0.last; taken = h.0.taken }, (due (Item (slot_at old i.0))).0 h.1)),
                (λ h. (goes.exactly i).1 (record { last = h.0.last; taken = h.0.taken }, (due (Item (slot_at old i.0))).1 h.1)),
              );
              jobs = λ j. (
                (λ c. let h = (runs.exactly j).0 c in (h.0, record { last = h.1.last; taken = h.1.taken }, (due (Job h.0)).0 h.2)),
                (λ h. (runs.exactly j).1 (h.0, record { last = h.1.last; taken = h.1.taken }, (due (Job h.0)).1 h.2)),
              );
            }),
      )

step : (past : List Line) (old : ScriptState) (call : Call) (answer : Answer) (new : ScriptState) → Tells past old → LineStep old call answer new →
    Tells (record { before = old; call = call; answer = answer; after = new } ∷ past) new
    × NamesWhatIsDue past (record { before = old; call = call; answer = answer; after = new })
step past old call answer new k s =
    let after = whole-calls s.acts.calls k.whole in
    let inside = λ (n : ℕ) (x : OpenSince) (e : opening_at old.places n ≡ Some x). k.inside n x.place (ap (option_map (λ (y : OpenSince). y.place)) e) in
    step-turn past old new answer.reclaimed answer.ran k after (turn (later old) new k.whole after inside call answer.reply s.acts.meets) s.goes s.runs

-- ---- all lines

each-due : (past : List Line) (old : ScriptState) (calls : List Call) (answers : List Answer) (new : ScriptState) → Tells past old →
    (runs : Runs old calls answers new) → EachNamesWhatIsDue past old calls answers new runs
each-due past old (call ∷ calls) (answer ∷ answers) new k (mid, line_step, kept, rest) =
    let s = step past old call answer mid k line_step in (s.1, each-due _ mid calls answers new s.0 rest)
each-due past old [] [] new k runs = tt
each-due past old [] (answer ∷ answers) new k never = absurd never
each-due past old (call ∷ calls) [] new k never = absurd never

pub run-due : (limits : Limits) (start : ScriptState) (calls : List Call) (answers : List Answer) (new : ScriptState) → IsStart limits start →
    (runs : Runs start calls answers new) → EachNamesWhatIsDue [] start calls answers new runs
run-due limits start calls answers new begins runs = each-due [] start calls answers new (tells-start limits start begins) runs
