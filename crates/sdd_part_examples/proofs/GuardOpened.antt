-- After an opening a guard is open
use Rattle.std.proofs.Common.{◌≡◌, ℕ, ◌+◌, ◌-◌, ◌<◌, List, [], ◌∷◌, Bool, true, false, IsTrue, nat_lt, refl, ap, ◌∙◌, arith}
use Rattle.std.specs.Prelude.{◌==◌, if◌then◌else◌}
use Rattle.std.proofs.lemmas.Bool.Decides.{nat_tests}
use Rattle.sdd_participants.specs.declared.participant.Participant.{Participant}
use Rattle.sdd_participants.specs.declared.waiting.LimboEntry.TheVariants.{Item}
use Rattle.sdd_participants.specs.EpochState.{is_open, nested, rotated, awaiting, adopting, counted_down}
use Rattle.sdd_world_model.specs.ParticipantChanges.{GuardOpened, GuardClosed, all_awaiting, changed_at, closed_with}

guards-stay : (slots : List ℕ) (p : Participant) → (all_awaiting slots p).guards ≡ p.guards
guards-stay [] p = refl
guards-stay (k ∷ ks) p = guards-stay ks (awaiting (Item k) p)

pub guards-opened : (nests found : Bool) (count : ℕ) (slots : List ℕ) (p : Participant) →
    (if nests then nested p else (if found then nested p else changed_at count slots (nested p))).guards ≡ p.guards + 1
guards-opened true found count slots p = refl
guards-opened false true count slots p = refl
guards-opened false false count slots p = guards-stay slots (rotated count (nested p))

some-open : (n : ℕ) → nat_lt 0 (n + 1) ≡ true
some-open n = grind (arith, nat_tests)

pub opened-open : (p q : Participant) → GuardOpened p q → IsTrue (is_open q)
opened-open p q o = ap is_open o.own ∙ ap (λ (n : ℕ). nat_lt 0 n) (guards-opened (is_open p) (p.found == o.count) o.count o.given p) ∙ some-open p.guards

-- where one guard is opened while none is, and then closed, none is open
pub guards-shut : (p q r s : Participant) → p.guards ≡ 0 → GuardOpened p q → r.guards ≡ q.guards → GuardClosed r s → ¬ (0 < s.guards)
guards-shut p q r s none o same c some = let opened : q.guards ≡ 1 = ap (λ (x : Participant). x.guards) o.own
    ∙ (guards-opened (is_open p) (p.found == o.count) o.count o.given p ∙ ap (λ (n : ℕ). n + 1) none) in
    let one : r.guards ≡ 1 = same ∙ opened in
    let shut : (closed_with c.marked (adopting c.left r)).guards ≡ 0 = by (adopting c.left r) c.marked one in
    let is : s.guards ≡ 0 = ap (λ (x : Participant). x.guards) c.own ∙ shut in omega arith
  where
    by : (x : Participant) (marked : Bool) → x.guards ≡ 1 → (closed_with marked x).guards ≡ 0
    by x marked one = let a : nat_lt 1 x.guards ≡ false = ap (nat_lt 1) one in let b : is_open x ≡ true = ap (nat_lt 0) one in
        ap (λ (t : Bool). (if t then record x { guards = x.guards - 1 }
        else (if is_open x then record x { guards = 0; countdown = counted_down marked x.countdown } else x)).guards) a
        ∙ ap (λ (t : Bool). (if t then record x { guards = 0; countdown = counted_down marked x.countdown } else x).guards) b
