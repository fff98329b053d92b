-- The words that a lone participant knows of slots
use Rattle.std.proofs.Common.{◌≡◌, ◌≢◌, ℕ, ◌<◌, ◌≤◌, IsTrue, List, length, get_or, set, ap, ◌∙◌, ⊎_elim, arith, get_or-set_other, get_or-set_same, ◌+◌, ◌*◌, ◌-◌, ◌/◌, ◌^◌, Bool, true, false, leb, refl, sym, ne_eqb, eq-eqb}
use Rattle.std.specs.Prelude.{Option, Some, None, option_map, if◌then◌else◌, ◌==◌, ◌||◌, ◌&&◌}
use mathlib.Core.Logic.{dite}
use native.Mathlib.Decide.{ℕ_discrete, dec_lt}
use base.Stored.{Gv}
use Rattle.std.proofs.lemmas.List.{get_or_past}
use Rattle.std.proofs.lemmas.Bool.{le-leb}
use Rattle.std.proofs.lemmas.Bool.Decides.{leb_tells}
use Rattle.sdd_participants.specs.declared.standing.Standing.TheVariants.{Owned, Raw, Shared, Retired, Private}
use Rattle.sdd_rights.specs.declared.views.PrivateItem.{PrivateItem}
use Rattle.sdd_rights.specs.declared.views.Sizes.{Sizes}
use Rattle.sdd_domain_invariant.specs.Words.{words_behind, most_waiting}
use Rattle.sdd_domain_invariant.specs.Codes.{codes, shared_base, claimed_word, retired_word, alive, waiting, counted, private, private_word, waits_for}
use Rattle.sdd_domain_invariant.specs.Collectors.{private_in}
use Rattle.sdd_domain_invariant.specs.Sums.{total}
use Rattle.sdd_domain_invariant.specs.Slots.SlotSteps.{behind}
use Rattle.sdd_domain_invariant.proofs.Codes.{sound, shared, counted_is, claimed_is, free_is, private_is, raw_is, waiting_is, waits_privately}
use Rattle.sdd_domain_invariant.proofs.Collectors.{plain_alive, plain_free, plain_waiting}
use Rattle.sdd_domain_invariant.proofs.Sums.{is_other, is_same, total_has, total_some}
use Rattle.sdd_domain_invariant.specs.Fractions.BankInvariant.{one_where}
use Rattle.sdd_domain_steps.specs.InBags.{private_for}
use Rattle.sdd_domain_steps.specs.WordsAndValues.{is_plain_word, MatchesPlace}
use Rattle.sdd_domain_steps.specs.Local.{standing_by, value_by, item_standing, owner_standing}
use Rattle.sdd_domain_steps.proofs.Reclaims.{either_way}

-- most owners that a word counts
abbrev pub most_word : ℕ
most_word = shared_base + 2 ^ 62

-- a word that counts owners, and not too many
abbrev pub CountsFew : ℕ → Type 0
CountsFew x = (shared_base ≤ x) × (x ≤ most_word)

-- whether it does
abbrev counts_few : ℕ → Bool
counts_few x = leb shared_base x && leb x most_word

both_low : (x : ℕ) → counts_few x ≡ true → CountsFew x
both_low x e = ⊎_elim
    (λ (a : (leb shared_base x ≡ true) × (shared_base ≤ x)). ⊎_elim (λ (b : (leb x most_word ≡ true) × (x ≤ most_word)). (a.1, b.1))
    (λ (b : (leb x most_word ≡ false) × (most_word < x)). let no : false ≡ true = sym (λ d. a.0 d && b.0 d) ∙ e in absurd cc) (leb_tells x most_word))
    (λ (a : (leb shared_base x ≡ false) × (x < shared_base)). let no : false ≡ true = sym (λ d. a.0 d && leb x most_word) ∙ e in absurd cc)
    (leb_tells shared_base x)

-- whether it waits for the collector that it names
abbrev waits_by : ℕ → Bool
waits_by x = waits_for (x / 16) x == 1

by_name : (x : ℕ) → waits_by x ≡ true → (x < shared_base) × (x ≡ private_word (x / 16))
by_name x e = dite (ℕ_discrete (waits_for (x / 16) x) 1) (λ one. waits_privately (x / 16) x (omega arith))
    (λ ne. let no : false ≡ true = sym (ne_eqb (waits_for (x / 16) x) 1 ne) ∙ e in absurd cc)

-- what holds of each of them holds of it
pub plain_by : {P : Type 0} (x : ℕ) → IsTrue (is_plain_word x) → (x ≡ 0 → P) → (x ≡ 1 → P) → (x ≡ 4 → P) → (x ≡ 2 → P) → (CountsFew x → P)
    → ((k : ℕ) → x ≡ private_word k → x < shared_base → P) → P
plain_by x plain free owned waits raw counts privately = dite (ℕ_discrete x 0) free
    (λ n0. dite (ℕ_discrete x 1) owned
    (λ n1. dite (ℕ_discrete x 4) waits
    (λ n4. dite (ℕ_discrete x 2) raw
    (λ n2. ⊎_elim (λ (b : counts_few x ≡ true). counts (both_low x b))
    (λ (b : counts_few x ≡ false). let named = by_name x
    (sym (λ d. ne_eqb x 0 n0 d || (ne_eqb x 1 n1 d || (ne_eqb x 4 n4 d || (ne_eqb x 2 n2 d || (b d || waits_by x))))) ∙ plain) in
    privately (x / 16) named.1 named.0)
    (either_way (counts_few x))))))

pub plain_claimed : (several : Bool) → IsTrue (is_plain_word (claimed_word several))
plain_claimed true = refl
plain_claimed false = refl

pub plain_retired : (several : Bool) → IsTrue (is_plain_word (retired_word several))
plain_retired true = refl
plain_retired false = refl

-- how many owners a word counts
pub counts_of : (x : ℕ) → IsTrue (is_plain_word x) → counted x ≡ 1 → (shared_base ≤ x) × (x ≤ most_word) × (alive x ≡ x - shared_base)
counts_of x plain several = let low = counted_is x several in (
  low,
  plain_by x plain (λ e. absurd (omega arith)) (λ e. absurd (omega arith)) (λ e. absurd (omega arith)) (λ e. absurd (omega arith)) (λ b. b.1)
      (λ k e small. absurd (omega arith)),
  (shared x low).0,
)

counting_plain : (x : ℕ) → shared_base ≤ x → x ≤ most_word → IsTrue (is_plain_word x)
counting_plain x low high = let n0 : x ≢ 0 = (λ e. omega arith) in let n1 : x ≢ 1 = (λ e. omega arith) in let n4 : x ≢ 4 = (λ e. omega arith) in
    let n2 : x ≢ 2 = (λ e. omega arith) in
    λ d. ne_eqb x 0 n0 d || (ne_eqb x 1 n1 d || (ne_eqb x 4 n4 d || (ne_eqb x 2 n2 d
    || ((le-leb shared_base x low d && le-leb x most_word high d) || waits_by x))))

-- one of an item that waits for a collector
named_by : (k : ℕ) → private_word k < shared_base → waits_by (private_word k) ≡ true
named_by k low = let name : private_word k / 16 ≡ k = omega arith in
    eq-eqb (waits_for (private_word k / 16) (private_word k)) 1 (ap (λ (j : ℕ). waits_for j (private_word k)) name ∙ (private_is k low).4)

pub plain_private : (k : ℕ) → private_word k < shared_base → IsTrue (is_plain_word (private_word k))
plain_private k low = let x : ℕ = private_word k in let n0 : x ≢ 0 = (λ e. omega arith) in let n1 : x ≢ 1 = (λ e. omega arith) in
    let n4 : x ≢ 4 = (λ e. omega arith) in let n2 : x ≢ 2 = (λ e. omega arith) in
    let small : leb shared_base x ≡ false = ⊎_elim (λ (a : (leb shared_base x ≡ true) × (shared_base ≤ x)). let high = a.1 in absurd (omega arith))
    (λ (a : (leb shared_base x ≡ false) × (x < shared_base)). a.0) (leb_tells shared_base x) in
    λ d. ne_eqb x 0 n0 d || (ne_eqb x 1 n1 d || (ne_eqb x 4 n4 d || (ne_eqb x 2 n2 d || ((small d && leb x most_word) || named_by k low d))))

-- one owner fewer, or one more
pub plain_less : (x : ℕ) → IsTrue (is_plain_word x) → counted x ≡ 1 → 1 < alive x → IsTrue (is_plain_word (x - 1))
plain_less x plain several more = let c = counts_of x plain several in let low = c.0 in let high = c.1 in let n = c.2 in
    counting_plain (x - 1) (omega arith) (omega arith)

pub plain_more : (x : ℕ) → IsTrue (is_plain_word x) → counted x ≡ 1 → alive x < 2 ^ 62 → IsTrue (is_plain_word (x + 1))
plain_more x plain several few = let c = counts_of x plain several in let low = c.0 in let high = c.1 in let n = c.2 in
    counting_plain (x + 1) (omega arith) (omega arith)

-- by its word nobody owns what is in a job's place
pub place_dead : {J : Type 0} (x : ℕ) (o : Option J) → MatchesPlace x o → alive x ≡ 0
place_dead x None is = ap alive is ∙ (free_is 0 (omega arith)).0
place_dead x (Some j) is = ap alive is ∙ (waiting_is 0 (omega arith)).0

-- ---- words that aren't of private items
pub alive_public : (x : ℕ) → 0 < alive x → private x ≡ 0
alive_public x some = (plain_alive codes sound x some).0

pub waiting_public : (x : ℕ) → 0 < waiting x → private x ≡ 0
waiting_public x some = (plain_waiting codes sound x some).0

pub free_public : private 0 ≡ 0
free_public = (plain_free codes sound 0 (free_is 0 (omega arith)).2).0

-- wait for no collector
pub no_private : (c x : ℕ) → private x ≡ 0 → waits_for c x ≡ 0
no_private c x none = dite (ℕ_discrete (waits_for c x) 0) (λ e. e) (λ ne. let p = (sound.for_one c x (omega arith)).0 in absurd (omega arith))

pub public_alike : (c x y : ℕ) → private x ≡ 0 → private y ≡ 0 → waits_for c x ≡ waits_for c y
public_alike c x y first second = no_private c x first ∙ sym (no_private c y second)

-- and of a slot with such a word nothing waits privately
pub none_privately : (slot x : ℕ) (ps : List PrivateItem) → ((c : ℕ) → total (private_for c slot) ps ≡ waits_for c x) → private x ≡ 0
    → total (private_in slot) ps ≡ 0
none_privately slot x ps tied none = dite (ℕ_discrete (total (private_in slot) ps) 0) (λ e. e)
    (λ ne. let one = total_some (private_in slot) ps (omega arith) in let p : PrivateItem = one.1 in let more = one.3 in
    let same : p.item.slot ≡ slot = dite (ℕ_discrete p.item.slot slot) (λ e. e) (λ other. let o = is_other slot p.item.slot other in absurd (omega arith)) in
    let here = total_has (private_for p.collector slot) ps one.0 p one.2 in
    let counts : private_for p.collector slot p ≡ 1 = (λ d. is_same slot p.item.slot same d * is_same p.collector p.collector refl d) in
    let t = tied p.collector in let z = no_private p.collector x none in absurd (omega arith))

-- ---- how slots stand by their words
pub alive_taken : (x : ℕ) → 0 < alive x → x ≢ 0
alive_taken x some e = let a = ap alive e in let z = (free_is 0 (omega arith)).0 in omega arith

pub waiting_taken : (x : ℕ) → 0 < waiting x → x ≢ 0
waiting_taken x some e = let a = ap waiting e in let z = (free_is 0 (omega arith)).1 in omega arith

alive_not_raw : (x : ℕ) → 0 < alive x → x ≢ 2
alive_not_raw x some e = let a = ap alive e in let z = (raw_is 0 (omega arith)).0 in omega arith

by_kind : (x : ℕ) (several : Bool) → counted x ≡ one_where several → owner_standing x ≡ (if several then Shared (alive x) else Owned)
by_kind x true e = λ d. if eq-eqb (counted x) 1 e d then Shared (alive x) else Owned
by_kind x false e = let ne : counted x ≢ 1 = (λ one. omega arith) in λ d. if ne_eqb (counted x) 1 ne d then Shared (alive x) else Owned

-- by owners, one of several or the only one
pub stands_owned : (x : ℕ) (several : Bool) → 0 < alive x → counted x ≡ one_where several → standing_by x ≡ Some (if several then Shared (alive x) else Owned)
stands_owned x several some kind = let quiet = (sound.lives x some).0 in let ne : waiting x ≢ 1 = (λ e. omega arith) in
    let none = no_private (x / 16) x (alive_public x some) in let not_private : waits_for (x / 16) x ≢ 1 = (λ e. omega arith) in
    (λ d. if ne_eqb x 0 (alive_taken x some) d then None
    else (if ne_eqb (waiting x) 1 ne d then Some Retired else (if ne_eqb x 2 (alive_not_raw x some) d then Some Raw
    else Some (if ne_eqb (waits_for (x / 16) x) 1 not_private d then Private (x / 16) else owner_standing x))))
    ∙ ap Some (by_kind x several kind)

pub stands_retired : (x : ℕ) → waiting x ≡ 1 → standing_by x ≡ Some Retired
stands_retired x waits = let taken = waiting_taken x (omega arith) in
    λ d. if ne_eqb x 0 taken d then None else (if eq-eqb (waiting x) 1 waits d then Some Retired else (if x == 2 then Some Raw else Some (item_standing x)))

-- out as raw
pub stands_raw : standing_by 2 ≡ Some Raw
stands_raw = let quiet = (raw_is 0 (omega arith)).1 in let ne : waiting 2 ≢ 1 = (λ e. omega arith) in
    λ d. if ne_eqb (waiting 2) 1 ne d then Some Retired else Some Raw

-- privately, for a collector
pub stands_private : (k : ℕ) → private_word k < shared_base → standing_by (private_word k) ≡ Some (Private k)
stands_private k low = let x : ℕ = private_word k in let n0 : x ≢ 0 = (λ e. omega arith) in let n2 : x ≢ 2 = (λ e. omega arith) in
    let quiet = (private_is k low).1 in let ne : waiting x ≢ 1 = (λ e. omega arith) in let name : x / 16 ≡ k = omega arith in
    λ d. if ne_eqb x 0 n0 d then None else (if ne_eqb (waiting x) 1 ne d then Some Retired
    else (if ne_eqb x 2 n2 d then Some Raw else Some (if named_by k low d then Private (name d) else owner_standing x)))

pub value_there : {T : Type 0} (x : ℕ) (e : Option (T × Gv)) → x ≢ 0 → value_by x e ≡ option_map (λ (y : T × Gv). y.0) e
value_there x e taken = λ d. if ne_eqb x 0 taken d then None else option_map (λ (y : _ × Gv). y.0) e

pub stands_claimed : (several : Bool) → standing_by (claimed_word several) ≡ Some (if several then Shared 1 else Owned)
stands_claimed several = let c = claimed_is several in let one = c.0 in stands_owned (claimed_word several) several (omega arith) (c.1 ∙ same several)
    ∙ (λ d. Some (if several then Shared (one d) else Owned))
  where
    same : (b : Bool) → prog.Atomic.either b 1 0 ≡ one_where b
    same true = refl
    same false = refl

-- the word that a slot is claimed by
pub claimed_kind : (several : Bool) → counted (claimed_word several) ≡ one_where several
claimed_kind true = (claimed_is true).1
claimed_kind false = (claimed_is false).1

-- a slot whose word says so is one of the slots
module _ (z : Sizes) (ws : List ℕ) (long : length ws ≡ words_behind z) where
  pub within : (slot : ℕ) → slot < z.slots → behind z slot < length ws
  within slot low = omega arith

  pub inside : ((j : ℕ) → j < z.jobs → alive (get_or ws (behind z (z.slots + j)) 0) ≡ 0) → (slot : ℕ) → 0 < alive (get_or ws (behind z slot) 0)
      → slot < z.slots
  inside dead slot some = dite (dec_lt slot z.slots) (λ l. l) (λ far. absurd (dite (dec_lt slot (most_waiting z))
      (λ near. let d = dead (slot - z.slots) (omega arith) in let e : z.slots + (slot - z.slots) ≡ slot = omega arith in
      let f = ap (λ (k : ℕ). alive (get_or ws (behind z k) 0)) e in omega arith)
      (λ past. let p = get_or_past ws (behind z slot) 0 (omega arith) in let a = ap alive p in let f = (free_is 0 (omega arith)).0 in omega arith)))

  -- the word of a slot, or of a job's place
  pub word_put : (number y : ℕ) → number < most_waiting z → get_or (set ws (behind z number) y) (behind z number) 0 ≡ y
  word_put number y low = get_or-set_same ws (behind z number) y 0 (omega arith)

  pub word_same : (slot y : ℕ) → slot < z.slots → get_or (set ws (behind z slot) y) (behind z slot) 0 ≡ y
  word_same slot y low = get_or-set_same ws (behind z slot) y 0 (within slot low)

  pub word_other : (slot y i : ℕ) → i ≢ slot → get_or (set ws (behind z slot) y) (behind z i) 0 ≡ get_or ws (behind z i) 0
  word_other slot y i ne = get_or-set_other ws (behind z slot) (behind z i) y 0 (λ e. ne (omega arith))
