-- The words as they are written are read as the rule asks.
use Rattle.std.proofs.Common.{◌≡◌, ◌≢◌, ◌⊎◌, ℕ, suc, [], ◌∷◌, if◌then◌else◌, ◌+◌, ◌-◌, ◌*◌, ◌/◌, ◌%◌, ◌<◌, ◌≤◌, Bool, eqb, leb, true, false, refl, sym, ap, ◌∙◌, inl, inr, ⊎_elim, eq-eqb, ne_eqb, arith}
use mathlib.Core.Logic.{dite}
use native.Mathlib.Decide.{ℕ_discrete}
use prog.Atomic.{either}
use Rattle.std.proofs.lemmas.Bool.{le-leb}
use Rattle.std.proofs.lemmas.Bool.Decides.{leb_tells}
use Rattle.sdd_domain_invariant.specs.Sums.{is, times}
use Rattle.sdd_domain_invariant.specs.Codes.{IsWordReading, codes, shared_base, free_word, owned_word, raw_word, waiting_word, private_word, emptied_word, named, held_slots, kind_alive, kind_waiting, kind_full, private, emptying, emptying_word, left_word, alive, waiting, full, valued, counted, waits_for, names, claimed_word, retired_word, held_word, shared_word}

lives : (q : ℕ) → 0 < kind_alive q → (kind_waiting q ≡ 0) × (kind_full q ≡ 1)
lives q h = dite (ℕ_discrete q 1) (λ e. (ap kind_waiting e, ap kind_full e))
    (λ n1. dite (ℕ_discrete q 3) (λ e. (ap kind_waiting e, ap kind_full e))
    (λ n3. let a = ap (λ (t : _). either t 1 (either (eqb q 3) 1 0)) (ne_eqb q 1 n1) in let b = ap (λ (t : _). either t 1 0) (ne_eqb q 3 n3) in
    absurd (omega arith)))

waits : (q : ℕ) → 0 < kind_waiting q → (kind_waiting q ≡ 1) × (kind_full q ≡ 1)
waits q h = dite (ℕ_discrete q 4) (λ e. (ap kind_waiting e, ap kind_full e))
    (λ n4. let a = ap (λ (t : _). either t 1 0) (ne_eqb q 4 n4) in absurd (omega arith))

-- a slot that isn't free has its value, unless it was emptied
valued_full : (x : ℕ) → x ≢ emptied_word → valued x ≡ full x
unfolding valued
valued_full x ne = ap (λ (t : _). either t 0 (full x)) (ne_eqb x emptied_word ne)

-- a count: alive as long as one is left
pub shared : (x : ℕ) → shared_base ≤ x → (alive x ≡ x - shared_base) × (waiting x ≡ is shared_base x) × (full x ≡ 1) × (counted x ≡ 1)
unfolding alive waiting full counted
shared x h = let e = le-leb shared_base x h in (
  ap (λ (t : _). either t (x - shared_base) (kind_alive (x % 16))) e,
  ap (λ (t : _). either t (is shared_base x) (kind_waiting (x % 16))) e,
  ap (λ (t : _). either t 1 (kind_full (x % 16))) e,
  ap (λ (t : _). either t 1 0) e,
)

-- what is counted is shared
pub counted_is : (x : ℕ) → counted x ≡ 1 → shared_base ≤ x
unfolding counted
counted_is x h = ⊎_elim (λ (t : (leb shared_base x ≡ true) × (shared_base ≤ x)). t.1)
    (λ (t : (leb shared_base x ≡ false) × (x < shared_base)). let e = ap (λ (b : _). either b 1 0) t.0 in absurd (omega arith)) (leb_tells shared_base x)

-- none is left: it waits
pub none_left : (alive shared_base ≡ 0) × (waiting shared_base ≡ 1) × (full shared_base ≡ 1)
unfolding alive waiting full
none_left = (refl, refl, refl)

-- the only owner holds it
pub only_held : (alive held_word ≡ 1) × (full held_word ≡ 1) × (counted held_word ≡ 0)
unfolding alive full counted
only_held = (refl, refl, refl)

-- one is left
pub one_left : (alive (shared_word 1) ≡ 1) × (full (shared_word 1) ≡ 1) × (counted (shared_word 1) ≡ 1)
unfolding alive full counted
one_left = (refl, refl, refl)

pub some_left : (x : ℕ) → shared_base < x → (alive x ≡ x - shared_base) × (waiting x ≡ 0) × (full x ≡ 1) × (counted x ≡ 1)
some_left x h = let s = shared x (omega arith) in (s.0, s.1 ∙ ap (λ (t : _). either t 1 0) (ne_eqb x shared_base (λ e. omega arith)), s.2, s.3)

below : (a x : ℕ) → x < a → leb a x ≡ false
below a x low = ⊎_elim (λ (t : (leb a x ≡ true) × (a ≤ x)). let t1 = t.1 in absurd (omega arith)) (λ (t : (leb a x ≡ false) × (x < a)). t.0) (leb_tells a x)

-- a kind, with any generation
pub kind : (x q : ℕ) → x < shared_base → x % 16 ≡ q
    → (alive x ≡ kind_alive q) × (waiting x ≡ kind_waiting q) × (full x ≡ kind_full q) × (counted x ≡ 0)
unfolding alive waiting full counted
kind x q low e = let f = below shared_base x low in (
  ap (λ (t : _). either t (x - shared_base) (kind_alive (x % 16))) f ∙ ap kind_alive e,
  ap (λ (t : _). either t (is shared_base x) (kind_waiting (x % 16))) f ∙ ap kind_waiting e,
  ap (λ (t : _). either t 1 (kind_full (x % 16))) f ∙ ap kind_full e,
  ap (λ (t : _). either t 1 0) f,
)

-- it waits for the collector k
pub private_is : (k : ℕ) → private_word k < shared_base → (alive (private_word k) ≡ 0) × (waiting (private_word k) ≡ 0) × (full (private_word k) ≡ 1)
    × (private (private_word k) ≡ 1) × (waits_for k (private_word k) ≡ 1)
unfolding waits_for private
private_is k low = let s = kind (private_word k) 5 low (omega arith) in let q : (16 * k + 5) / 16 ≡ k = omega arith in
    let r : (16 * k + 5) % 16 ≡ 5 = omega arith in let f = below shared_base (16 * k + 5) low in (
      s.0,
      s.1,
      s.2,
      ap (λ (t : _). either t 0 (either (eqb ((16 * k + 5) % 16) 5) 1 (is emptied_word (16 * k + 5) + is emptying_word (16 * k + 5)))) f
          ∙ ap (λ (t : _). either t 1 (is emptied_word (16 * k + 5) + is emptying_word (16 * k + 5))) (eq-eqb ((16 * k + 5) % 16) 5 r),
      ap (λ (t : _). either t 0 (either (eqb ((16 * k + 5) % 16) 5) (is k ((16 * k + 5) / 16)) 0)) f
          ∙ (ap (λ (t : _). either t (is k ((16 * k + 5) / 16)) 0) (eq-eqb ((16 * k + 5) % 16) 5 r) ∙
          (ap (is k) q ∙ ap (λ (t : _). either t 1 0) (eq-eqb k k refl))),
    )

-- it was emptied: it is private still, and has no value
pub emptied_is : (alive emptied_word ≡ 0) × (waiting emptied_word ≡ 0) × (full emptied_word ≡ 1) × (private emptied_word ≡ 1) × (emptying emptied_word ≡ 0)
    × (valued emptied_word ≡ 0)
unfolding alive waiting full private emptying valued
emptied_is = (refl, refl, refl, refl, refl, refl)

-- a close empties it, and the bag has it still
pub emptying_is : (alive emptying_word ≡ 0) × (waiting emptying_word ≡ 0) × (full emptying_word ≡ 1) × (private emptying_word ≡ 1)
    × (emptying emptying_word ≡ 1)
unfolding alive waiting full private emptying
emptying_is = (refl, refl, refl, refl, refl)

-- and the bag has let go of it
pub left_is : (alive left_word ≡ 0) × (waiting left_word ≡ 0) × (full left_word ≡ 1) × (private left_word ≡ 0) × (emptying left_word ≡ 1)
unfolding alive waiting full private emptying
left_is = (refl, refl, refl, refl, refl)

moved_valued : (valued emptying_word ≡ 1) × (valued left_word ≡ 1)
unfolding valued full
moved_valued = (refl, refl)

-- what a close empties is in its bag still, or no more
pub which_emptying : (x : ℕ) → 0 < emptying x → (x ≡ emptying_word) ⊎ (x ≡ left_word)
unfolding emptying
which_emptying x h = dite (ℕ_discrete x emptying_word) (λ e. inl e) (λ ne. dite (ℕ_discrete x left_word) (λ e. inr e)
    (λ ne'. let a = ap (λ (t : _). either t 1 0) (ne_eqb x emptying_word ne) in let b = ap (λ (t : _). either t 1 0) (ne_eqb x left_word ne') in
    absurd (omega arith)))

is_emptying : (x : ℕ) → 0 < emptying x → (emptying x ≡ 1) × (alive x ≡ 0) × (full x ≡ 1) × (valued x ≡ 1) × (waiting x ≡ 0)
is_emptying x h = ⊎_elim
    (λ (e : x ≡ emptying_word). let s = emptying_is in
    (ap emptying e ∙ s.4, ap alive e ∙ s.0, ap full e ∙ s.2, ap valued e ∙ moved_valued.0, ap waiting e ∙ s.1))
    (λ (e : x ≡ left_word). let s = left_is in
    (ap emptying e ∙ s.4, ap alive e ∙ s.0, ap full e ∙ s.2, ap valued e ∙ moved_valued.1, ap waiting e ∙ s.1)) (which_emptying x h)

-- what waits for a collector has its word
pub waits_privately : (k x : ℕ) → 0 < waits_for k x → (x < shared_base) × (x ≡ private_word k)
unfolding waits_for
waits_privately k x h = ⊎_elim (λ (t : (leb shared_base x ≡ true) × (shared_base ≤ x)).
    let e = ap (λ (b : _). either b 0 (either (eqb (x % 16) 5) (is k (x / 16)) 0)) t.0 in absurd (omega arith))
    (λ (t : (leb shared_base x ≡ false) × (x < shared_base)). let f = ap (λ (b : _). either b 0 (either (eqb (x % 16) 5) (is k (x / 16)) 0)) t.0 in
    dite (ℕ_discrete (x % 16) 5)
    (λ e. let g = ap (λ (b : _). either b (is k (x / 16)) 0) (eq-eqb (x % 16) 5 e) in dite (ℕ_discrete (x / 16) k) (λ same. (t.1, omega arith))
    (λ ne. let d = ap (λ (b : _). either b 1 0) (ne_eqb (x / 16) k ne) in absurd (omega arith)))
    (λ ne. let g = ap (λ (b : _). either b (is k (x / 16)) 0) (ne_eqb (x % 16) 5 ne) in absurd (omega arith)))
    (leb_tells shared_base x)

-- what is private waits for a collector, or its close empties it, or has done so
pub which_private : (x : ℕ) → 0 < private x → ((k : ℕ) × (x ≡ private_word k) × (x < shared_base)) ⊎ ((x ≡ emptied_word) ⊎ (x ≡ emptying_word))
unfolding private
which_private x h = ⊎_elim (λ (t : (leb shared_base x ≡ true) × (shared_base ≤ x)).
    let e = ap (λ (b : _). either b 0 (either (eqb (x % 16) 5) 1 (is emptied_word x + is emptying_word x))) t.0 in absurd (omega arith))
    (λ (t : (leb shared_base x ≡ false) × (x < shared_base)).
    let f = ap (λ (b : _). either b 0 (either (eqb (x % 16) 5) 1 (is emptied_word x + is emptying_word x))) t.0 in dite (ℕ_discrete (x % 16) 5)
    (λ e. inl (x / 16, omega arith, t.1))
    (λ ne. let g = ap (λ (b : _). either b 1 (is emptied_word x + is emptying_word x)) (ne_eqb (x % 16) 5 ne) in
    dite (ℕ_discrete x emptied_word) (λ e. inr (inl e)) (λ n6. dite (ℕ_discrete x emptying_word) (λ e. inr (inr e))
    (λ n7. let a = ap (λ (t : _). either t 1 0) (ne_eqb x emptied_word n6) in let b = ap (λ (t : _). either t 1 0) (ne_eqb x emptying_word n7) in
    absurd (omega arith)))))
    (leb_tells shared_base x)

is_private : (x : ℕ) → 0 < private x → (private x ≡ 1) × (alive x ≡ 0) × (full x ≡ 1) × (waiting x ≡ 0)
is_private x h = ⊎_elim
    (λ (t : (k : ℕ) × (x ≡ private_word k) × (x < shared_base)). let e = t.1 in let l = t.2 in let s = private_is t.0 (omega arith) in
    (ap private e ∙ s.3, ap alive e ∙ s.0, ap full e ∙ s.2, ap waiting e ∙ s.1))
    (λ (t : (x ≡ emptied_word) ⊎ (x ≡ emptying_word)). ⊎_elim
    (λ (e : x ≡ emptied_word). let s = emptied_is in (ap private e ∙ s.3, ap alive e ∙ s.0, ap full e ∙ s.2, ap waiting e ∙ s.1))
    (λ (e : x ≡ emptying_word). let s = emptying_is in (ap private e ∙ s.3, ap alive e ∙ s.0, ap full e ∙ s.2, ap waiting e ∙ s.1)) t)
    (which_private x h)

-- nothing moves the value of one that waits for a collector
for_one_is : (k x : ℕ) → 0 < waits_for k x → (private x ≡ 1) × (valued x ≡ 1) × (emptying x ≡ 0)
for_one_is k x h = let p = waits_privately k x h in let e = p.1 in let l = p.0 in let s = private_is k (omega arith) in
    let f = (kind x 5 p.0 (omega arith)).2 in (
      ap private e ∙ s.3,
      valued_full x (λ d. omega arith) ∙ f,
      dite (ℕ_discrete (emptying x) 0) (λ z. z) (λ ne. ⊎_elim (λ (d : x ≡ emptying_word). absurd (omega arith)) (λ (d : x ≡ left_word). absurd (omega arith))
          (which_emptying x (omega arith))),
    )

pub free_is : (g : ℕ) → free_word g < shared_base → (alive (free_word g) ≡ 0) × (waiting (free_word g) ≡ 0) × (full (free_word g) ≡ 0)
free_is g low = let k = kind (free_word g) 0 low (omega arith) in (k.0, k.1, k.2)

pub owned_is : (g : ℕ) → owned_word g < shared_base → (alive (owned_word g) ≡ 1) × (waiting (owned_word g) ≡ 0) × (counted (owned_word g) ≡ 0)
owned_is g low = let k = kind (owned_word g) 1 low (omega arith) in (k.0, k.1, k.3)

pub raw_is : (g : ℕ) → raw_word g < shared_base → (alive (raw_word g) ≡ 0) × (waiting (raw_word g) ≡ 0) × (full (raw_word g) ≡ 1)
    × (valued (raw_word g) ≡ 1)
raw_is g low = let k = kind (raw_word g) 2 low (omega arith) in (k.0, k.1, k.2, valued_full (raw_word g) (λ e. omega arith) ∙ k.2)

-- what is out as raw isn't private
pub raw_plain : (g : ℕ) → raw_word g < shared_base → (private (raw_word g) ≡ 0) × (emptying (raw_word g) ≡ 0)
raw_plain g low = (
  dite (ℕ_discrete (private (raw_word g)) 0) (λ e. e) (λ ne. ⊎_elim
      (λ (t : (k : ℕ) × (raw_word g ≡ private_word k) × (raw_word g < shared_base)). absurd (let e = t.1 in omega arith))
      (λ (t : (raw_word g ≡ emptied_word) ⊎ (raw_word g ≡ emptying_word)). ⊎_elim (λ (e : raw_word g ≡ emptied_word). absurd (omega arith))
      (λ (e : raw_word g ≡ emptying_word). absurd (omega arith)) t) (which_private (raw_word g) (omega arith))),
  dite (ℕ_discrete (emptying (raw_word g)) 0) (λ e. e) (λ ne. ⊎_elim
      (λ (e : raw_word g ≡ emptying_word). absurd (omega arith))
      (λ (e : raw_word g ≡ left_word). absurd (omega arith)) (which_emptying (raw_word g) (omega arith))),
)

pub waiting_is : (g : ℕ) → waiting_word g < shared_base → (alive (waiting_word g) ≡ 0) × (waiting (waiting_word g) ≡ 1)
waiting_is g low = let k = kind (waiting_word g) 4 low (omega arith) in (k.0, k.1)

-- a cell's word that owns the slot i
pub cell_names : (x i : ℕ) → named x ≡ suc i → (a : ℕ) → names a x ≡ is a i
unfolding names
cell_names x i e a = let r : named x - 1 ≡ i = omega arith in
    ap (λ (b : _). either b 0 (is a (named x - 1))) (ne_eqb (named x) 0 (λ c. omega arith)) ∙ ap (is a) r

-- one that owns none
pub cell_null : (x : ℕ) → named x ≡ 0 → (a : ℕ) → names a x ≡ 0
unfolding names
cell_null x e a = ap (λ (t : _). either t 0 (is a (named x - 1))) (eq-eqb (named x) 0 e)

-- a word counts its slot's owners, or not
pub counts_or_not : (x : ℕ) → (counted x ≡ 1) ⊎ (counted x ≡ 0)
unfolding counted
counts_or_not x = ⊎_elim (λ (t : (leb shared_base x ≡ true) × (shared_base ≤ x)). inl (ap (λ (b : Bool). either b 1 0) t.0))
    (λ (t : (leb shared_base x ≡ false) × (x < shared_base)). inr (ap (λ (b : Bool). either b 1 0) t.0)) (leb_tells shared_base x)

-- which owner a cell holds
pub holds_one : (x slot : ℕ) → named x ≡ suc slot → held_slots x ≡ slot ∷ []
unfolding held_slots
holds_one x slot e = let r : named x - 1 ≡ slot = omega arith in
    ap (λ (b : Bool). if b then [] else (named x - 1) ∷ []) (ne_eqb (named x) 0 (λ c. omega arith)) ∙ ap (λ (k : ℕ). k ∷ []) r

pub holds_none : (x : ℕ) → named x ≡ 0 → held_slots x ≡ []
unfolding held_slots
holds_none x e = ap (λ (b : Bool). if b then [] else (named x - 1) ∷ []) (eq-eqb (named x) 0 e)

-- so it is in the sum of owners
pub held_in : (x a : ℕ) → times a (held_slots x) ≡ names a x
unfolding held_slots names
held_in x a = dite (ℕ_discrete (named x) 0)
    (λ e. let z = eq-eqb (named x) 0 e in (λ d. times a (if z d then [] else (named x - 1) ∷ [])) ∙ sym (λ d. either (z d) 0 (is a (named x - 1))))
    (λ ne. let z = ne_eqb (named x) 0 ne in (λ d. times a (if z d then [] else (named x - 1) ∷ []))
    ∙ (plus_none (is a (named x - 1)) ∙ sym (λ d. either (z d) 0 (is a (named x - 1)))))
  where
    plus_none : (k : ℕ) → k + 0 ≡ k
    plus_none k = omega arith

-- it holds one owner, or none
pub held_which : (x : ℕ) → ((slot : ℕ) × (held_slots x ≡ slot ∷ [])) ⊎ (held_slots x ≡ [])
held_which x = dite (ℕ_discrete (named x) 0) (λ e. inr (holds_none x e)) (λ ne. inl (named x - 1, holds_one x (named x - 1) (omega arith)))

-- it owns one slot, or none
pub which : (x : ℕ) → ((i : ℕ) × ((a : ℕ) → names a x ≡ is a i)) ⊎ ((a : ℕ) → names a x ≡ 0)
which x = dite (ℕ_discrete (named x) 0) (λ e. inr (cell_null x e)) (λ ne. inl (named x - 1, cell_names x (named x - 1) (omega arith)))

free : (alive 0 ≡ 0) × (waiting 0 ≡ 0) × (full 0 ≡ 0)
unfolding alive waiting full
free = (refl, refl, refl)

-- nor does a free slot's word count owners
pub none_counted : counted 0 ≡ 0
unfolding counted
none_counted = refl

pub held_is : (alive 3 ≡ 1) × (counted 3 ≡ 0)
unfolding alive counted
held_is = (refl, refl)

-- a slot's word once it is claimed, and once its last owner has gone
pub claimed_is : (shared : Bool) → (alive (claimed_word shared) ≡ 1) × (counted (claimed_word shared) ≡ either shared 1 0)
unfolding alive counted
claimed_is true = (refl, refl)
claimed_is false = (refl, refl)

pub retired_is : (shared : Bool) → (alive (retired_word shared) ≡ 0) × (waiting (retired_word shared) ≡ 1) × (full (retired_word shared) ≡ 1)
unfolding alive waiting full
retired_is true = (refl, refl, refl)
retired_is false = (refl, refl, refl)

-- an uncounted word has one owner at most
few_of : (q : ℕ) → kind_alive q ≤ 1
few_of q = dite (ℕ_discrete q 1) (λ e. let a = ap kind_alive e in omega arith)
    (λ n1. let a = ap (λ (t : _). either t 1 (either (eqb q 3) 1 0)) (ne_eqb q 1 n1) in dite (ℕ_discrete q 3)
    (λ e. let b = ap kind_alive e in omega arith)
    (λ n3. let b = ap (λ (t : _). either t 1 0) (ne_eqb q 3 n3) in omega arith))

-- an item with an owner doesn't wait
has_owner : (x : ℕ) → 0 < alive x → (waiting x ≡ 0) × (full x ≡ 1)
has_owner x h = ⊎_elim (λ (t : (leb shared_base x ≡ true) × (shared_base ≤ x)). let s = shared x t.1 in let s0 = s.0 in
    let l = some_left x (omega arith) in (l.1, l.2))
    (λ (t : (leb shared_base x ≡ false) × (x < shared_base)). let s = kind x (x % 16) t.1 refl in let s0 = s.0 in let q = lives (x % 16) (omega arith) in
    (s.1 ∙ q.0, s.2 ∙ q.1)) (leb_tells shared_base x)

is_waiting : (x : ℕ) → 0 < waiting x → (waiting x ≡ 1) × (full x ≡ 1)
is_waiting x h = ⊎_elim (λ (t : (leb shared_base x ≡ true) × (shared_base ≤ x)). let s = shared x t.1 in let s1 = s.1 in
    dite (ℕ_discrete x shared_base) (λ e. (s1 ∙ ap (λ (b : _). either b 1 0) (eq-eqb x shared_base e), s.2))
    (λ ne. let n = ap (λ (b : _). either b 1 0) (ne_eqb x shared_base ne) in absurd (omega arith)))
    (λ (t : (leb shared_base x ≡ false) × (x < shared_base)). let s = kind x (x % 16) t.1 refl in let s1 = s.1 in let q = waits (x % 16) (omega arith) in
    (s.1 ∙ q.0, s.2 ∙ q.1)) (leb_tells shared_base x)

pub sound : IsWordReading codes
sound = record {
  lives = has_owner;
  few = λ x none. ⊎_elim (λ (t : (leb shared_base x ≡ true) × (shared_base ≤ x)). let c = (shared x t.1).3 in absurd (omega arith))
      (λ (t : (leb shared_base x ≡ false) × (x < shared_base)). let s = (kind x (x % 16) t.1 refl).0 in let f = few_of (x % 16) in omega arith)
      (leb_tells shared_base x);
  valued = λ x h. valued_full x (λ e. let z = ap alive e in let q = emptied_is.0 in omega arith) ∙ (has_owner x h).1;
  emptying = is_emptying;
  private = is_private;
  for_one = for_one_is;
  one_of = λ k l x h h'. let a = (waits_privately k x h).1 in let b = (waits_privately l x h').1 in omega arith;
  waits = λ x h. let w = is_waiting x h in
      (w.0, w.1, valued_full x (λ e. let z = ap waiting e in let q = emptied_is.1 in omega arith) ∙ w.1);
  empty = λ x none. valued_full x (λ e. let z = ap full e in let q = emptied_is.2 in omega arith) ∙ none;
  there = λ x some none. valued_full x (λ e. let z = ap private e in let q = emptied_is.3 in omega arith) ∙ some;
  free = free;
  null = λ i. cell_null 0 (omega arith) i;
}
