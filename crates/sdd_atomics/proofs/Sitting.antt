-- A seat stays at its table over a step
use Rattle.std.proofs.Common.{◌≡◌, ◌≢◌, ◌⊎◌, ℕ, Bool, List, [], ◌∷◌, ap, sym, ◌∙◌, subst, inl, inr, ⊎_elim, rules}
use mathlib.Core.Logic.{dite}
use native.Mathlib.Decide.{ℕ_discrete, dec_lt}
use base.Stored.{Gv}
use Rattle.sdd_rights.specs.declared.views.Sizes.{Sizes}
use Rattle.sdd_rights.specs.declared.views.ShownValue.{ShownValue}
use Rattle.sdd_rights.specs.declared.views.View.{View}
use Rattle.sdd_domain_invariant.specs.Words.{state_word}
use Rattle.sdd_domain_invariant.specs.Fractions.FractionsAtHome.{CarriedFractions, spare}
use Rattle.sdd_domain_invariant.specs.Fractions.FractionSteps.{SeatState, CarriesAll, CarriesSeen, SeesOwned}
use Rattle.sdd_domain_invariant.specs.Sums.{times}
use Rattle.sdd_domain_invariant.specs.Codes.{held_slots}
use Rattle.sdd_domain_invariant.specs.Epoch.Barred.{IsBarred, past}
use Rattle.sdd_domain_invariant.specs.Cells.CellSteps.{BringsOut, SeesInCell}
use Rattle.sdd_domain_invariant.proofs.Codes.{held_which}
use Rattle.sdd_atomics.specs.TableFacts.{TableFacts}
use Rattle.sdd_atomics.specs.SeatAtTable.{DomainSeat, SitsAt, facts_at}

-- it knows of its table what it knew
abbrev pub KnowsAsBefore : View → View → Type 0
KnowsAsBefore v w = (w.sizes ≡ v.sizes) × (w.fractions.gamma ≡ v.fractions.gamma)

module _ (b : TableFacts) (s t : DomainSeat) where
  -- the seat that is seen is the one inside
  pub sits : s ≡ t → SitsAt b s → SitsAt b t
  sits is = subst (SitsAt b) is

  pub stays : SitsAt b s → t.table_id ≡ s.table_id → KnowsAsBefore s.me.0 t.me.0 → SitsAt b t
  stays k home same = record { home = home ∙ k.home; sizes = same.0 ∙ k.sizes; gamma = same.1 ∙ k.gamma }

-- what is so by what the seat knows of its table is so by the table
module _ {b : TableFacts} {s : DomainSeat} (k : SitsAt b s) where
  pub numbers : (s.me.0.sizes.slots ≡ b.sizes.slots) × (s.me.0.sizes.participants ≡ b.sizes.participants) × (s.me.0.sizes.cells ≡ b.sizes.cells)
      × (s.me.0.sizes.jobs ≡ b.sizes.jobs)
  numbers = (
    ap (λ (z : Sizes). z.slots) k.sizes,
    ap (λ (z : Sizes). z.participants) k.sizes,
    ap (λ (z : Sizes). z.cells) k.sizes,
    ap (λ (z : Sizes). z.jobs) k.sizes,
  )

  pub state_at : (i place : ℕ) → i ≡ state_word s.me.0.sizes place → i ≡ state_word b.sizes place
  state_at i place is = is ∙ ap (λ (z : Sizes). state_word z place) k.sizes

  pub row_at : (slot o : ℕ) (Is : Gv → Type 0) (rest xs : CarriedFractions) → CarriesAll s.me.0.fractions.gamma slot s.me.0.sizes.participants o Is rest xs
      → CarriesAll b.gamma slot b.sizes.participants o Is rest xs
  row_at slot o Is rest xs = subst (λ (t : ℕ × Sizes). CarriesAll t.0 slot t.1.participants o Is rest xs) (λ d. (k.gamma d, k.sizes d))

  pub row_back : (slot o : ℕ) (Is : Gv → Type 0) (rest xs : CarriedFractions) → CarriesAll b.gamma slot b.sizes.participants o Is rest xs
      → CarriesAll s.me.0.fractions.gamma slot s.me.0.sizes.participants o Is rest xs
  row_back slot o Is rest xs = subst (λ (t : ℕ × Sizes). CarriesAll t.0 slot t.1.participants o Is rest xs) (λ d. (sym k.gamma d, sym k.sizes d))

  -- the same where the units that are elsewhere are those to spare
  pub spared_at : (slot : ℕ) (Is : Gv → Type 0) (rest xs : CarriedFractions)
      → CarriesAll s.me.0.fractions.gamma slot s.me.0.sizes.participants (spare s.me.0.sizes.participants) Is rest xs
      → CarriesAll b.gamma slot b.sizes.participants (spare b.sizes.participants) Is rest xs
  spared_at slot Is rest xs = subst (λ (t : ℕ × Sizes). CarriesAll t.0 slot t.1.participants (spare t.1.participants) Is rest xs)
      (λ d. (k.gamma d, k.sizes d))

  pub spared_back : (slot : ℕ) (Is : Gv → Type 0) (rest xs : CarriedFractions)
      → CarriesAll b.gamma slot b.sizes.participants (spare b.sizes.participants) Is rest xs
      → CarriesAll s.me.0.fractions.gamma slot s.me.0.sizes.participants (spare s.me.0.sizes.participants) Is rest xs
  spared_back slot Is rest xs = subst (λ (t : ℕ × Sizes). CarriesAll t.0 slot t.1.participants (spare t.1.participants) Is rest xs)
      (λ d. (sym k.gamma d, sym k.sizes d))

  pub carried_at : (place : ℕ) (records : List ShownValue) (xs : CarriedFractions)
      → CarriesSeen s.me.0.fractions.gamma s.me.0.sizes.participants place records xs → CarriesSeen b.gamma b.sizes.participants place records xs
  carried_at place records xs = subst (λ (t : ℕ × Sizes). CarriesSeen t.0 t.1.participants place records xs) (λ d. (k.gamma d, k.sizes d))

  pub facts_same : ◌≡◌ {A = ℕ × Sizes} (s.me.0.fractions.gamma, s.me.0.sizes) (b.gamma, b.sizes)
  facts_same d = (k.gamma d, k.sizes d)

-- steps that tell of either of two
pub bars_keep : (p x state : ℕ) (v w : View) → ((x ≡ state) ⊎ IsBarred x → w ≡ past p v) × (x ≢ state → ¬ (IsBarred x) → w ≡ v) → KnowsAsBefore v w
bars_keep p x state v w h = dite (ℕ_discrete x state) (λ e. let t = h.0 (inl e) in search rules) (λ ne. dite (dec_lt 3 x)
    (λ past. let t = h.0 (inr past) in search rules) (λ free. let t = h.1 ne free in search rules))

pub sees_keep : (slot : ℕ) (shared : Bool) (value : Gv) (me me' : SeatState) → SeesOwned slot shared value me me' → KnowsAsBefore me.0 me'.0
sees_keep slot shared value me me' h = dite (dec_lt 0 (times slot me.0.slots.sees)) (λ y. let t = h.0 y in search rules) (λ n. let t = h.1 n in search rules)

pub cell_seen_keep : (cell : ℕ) (me : SeatState) (x : ℕ) (me' : SeatState) → SeesInCell cell me x me' → KnowsAsBefore me.0 me'.0
cell_seen_keep cell me x me' h = ⊎_elim (λ (one : (slot : ℕ) × (held_slots x ≡ slot ∷ [])). let t = h.1 one.0 one.1 in sees_keep one.0 t.0 t.1 me me' t.3)
    (λ (none : held_slots x ≡ []). let t = h.0 none in search rules) (held_which x)

pub brings_keep : (y : ℕ) (shared : Bool) (cell : ℕ) (me : SeatState) (x : ℕ) (me' : SeatState) → BringsOut y shared cell me x me' → KnowsAsBefore me.0 me'.0
brings_keep y shared cell me x me' h = ⊎_elim (λ (one : (slot : ℕ) × (held_slots x ≡ slot ∷ [])). let t = h.1 one.0 one.1 in search rules)
    (λ (none : held_slots x ≡ []). let t = h.0 none in search rules) (held_which x)

-- so what never changes of its table is what it was
pub same_facts : (s t : DomainSeat) → t.table_id ≡ s.table_id → KnowsAsBefore s.me.0 t.me.0 → facts_at t ≡ facts_at s
same_facts s t home same d = record { id = home d; sizes = same.0 d; gamma = same.1 d }

pub viewed_facts : (s t : DomainSeat) (v : View) → t.table_id ≡ s.table_id → t.me.0 ≡ v → KnowsAsBefore s.me.0 v → facts_at t ≡ facts_at s
viewed_facts s t v home is same = same_facts s t home (ap (λ (w : View). w.sizes) is ∙ same.0, ap (λ (w : View). w.fractions.gamma) is ∙ same.1)
