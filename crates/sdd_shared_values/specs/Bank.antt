-- Units in an invariant beside a table's, of which one seat's view tells.
use Rattle.std.specs.Prelude.{◌≡◌, ◌⊎◌, ◌+◌, ◌-◌, ◌<◌, ℕ, None, List, [], ◌∷◌, length, slice_set}
use mathlib.Core.Option.{some}
use lib.ListN.{get_elem?}
use base.Share.{three_quarters}
use base.Stored.{Gv}
use base.Fml.{Fml, fsep, fex, fbor, fnamed}
use denote.RattleType.{RattleType}
use denote.RawPtr.{Ptr}
use Rattle.atomic_table.specs.Table.{State, Me, Act, Valid, homes_after, carried_after}
use Rattle.atomic_table.specs.Seated.{fact, seen, TableId, age, inner, seal}
use Rattle.sdd_shared_values.specs.ValueFractions.{FractionContent, holdings}
use Rattle.sdd_shared_values.specs.declared.value_fraction.ValueFraction.{ValueFraction}

abbrev pub Mine : Type 0 → Type 0
Mine V = Me ValueFraction V

-- ---- what goes out and what comes in
-- some of the units, at least one of which stays
pub record IsPart (whole part rest : FractionContent) : Type 0 where
  pub free : whole.lent ≡ None
  pub some : 0 < part.units
  pub fewer : part.units < whole.units
  pub same : part ≡ record whole { units = part.units }
  pub stays : rest ≡ record whole { units = whole.units - part.units }

-- the two are of one number, so they agree
pub record IsJoined (whole part both : FractionContent) : Type 0 where
  pub gamma : part.gamma ≡ whole.gamma
  pub number : part.number ≡ whole.number
  pub free : whole.lent ≡ None
  pub others : part.lent ≡ None
  pub sum : both ≡ record whole { units = whole.units + part.units }

-- of these contents one goes out, or a part of one
abbrev pub Leaves : List FractionContent → FractionContent → List FractionContent → Type 0
Leaves [] l rest = ⊥
Leaves (h ∷ hs) l rest = ((l ≡ h) × (rest ≡ hs)) ⊎ ((h' : FractionContent) × IsPart h l h' × (rest ≡ h' ∷ hs))
    ⊎ ((hs' : List FractionContent) × Leaves hs l hs' × (rest ≡ h ∷ hs'))

-- one comes to them, or goes into one of them
abbrev pub Comes : List FractionContent → FractionContent → List FractionContent → Type 0
Comes [] l more = more ≡ l ∷ []
Comes (h ∷ hs) l more = (more ≡ l ∷ h ∷ hs) ⊎ ((h' : FractionContent) × IsJoined h l h' × (more ≡ h' ∷ hs))
    ⊎ ((hs' : List FractionContent) × Comes hs l hs' × (more ≡ h ∷ hs'))

-- ---- what a bank owns
module _ {V : Type 0} (c : V → Gv) (z : TableId) (id : ℕ) (ours : V → Type 0) (banked : V → List FractionContent) where
  abbrev pub kept : V → Fml
  kept v = fsep (fact (ours v)) (fsep (seen c z.views_name id three_quarters v) (holdings (banked v)))

  abbrev pub vault : Fml
  vault = fex V kept

module _ (R : RattleType) {V : Type 0} (c : V → Gv) (holds : State R.Denot V → Type 0) (ours : V → Type 0) (banked : V → List FractionContent) (z : TableId)
    (id : ℕ) where
  abbrev pub table_at : Ptr → Ptr → Fml
  table_at w p = fbor (age z) (inner R c holds w p z)

  -- the invariants of the table and of the bank have different numbers, so that both can be opened at once
  abbrev pub numbered : (Ptr × Ptr) × (ℕ × ℕ) → Fml
  numbered x = fsep (fact (¬ (x.1.0 ≡ x.1.1))) (fsep (fnamed x.1.0 (table_at x.0.0 x.0.1)) (fnamed x.1.1 (vault c z id ours banked)))

abbrev pub bank_owns : (R : RattleType) {V : Type 0} → (V → Gv) → (State R.Denot V → Type 0) → (V → Type 0) → (V → List FractionContent) → TableId → ℕ → Fml
bank_owns R {V} c holds ours banked z id =
    seal (State R.Denot V → Type 0) holds (λ h. fex ((Ptr × Ptr) × (ℕ × ℕ)) (numbered R c h ours banked z id))

-- ---- what a deal asks
module _ {V : Type 0} where
  -- the seat id has the view w, and takes and gives slots; the bank's seat has the view b
  abbrev pub dealt : State ValueFraction V → ℕ → List (ℕ × ValueFraction) → V → ℕ → V → Act ValueFraction → State ValueFraction V
  dealt s id c w bd b a = record { words = s.words; homes = homes_after s.homes c a; views = slice_set (slice_set s.views id w) bd b }

  module _ (Holds : State ValueFraction V → Type 0) (Goes : List FractionContent → FractionContent → List FractionContent → Type 0) (Ours : V → Type 0)
      (banked : V → List FractionContent) where
    -- a deal of the seat id with the bank, which has the view b: both have new views and the seat an act, which keep the rule; by the bank's two views
    -- the content goes, which is one that is offered; and `Then` holds of it and of the seat after
    pub record Deal (s : State ValueFraction V) (b : V) (id : ℕ) (me : Me ValueFraction V) (bd : ℕ) (Offered : FractionContent → Type 0)
        (Then : FractionContent → Me ValueFraction V → Type 0)
        : Type 0 where
      pub view : V
      pub bank : V
      pub content : FractionContent
      pub act : Act ValueFraction
      pub valid : Valid s.homes me.1 act
      pub holds : Holds (dealt s id me.1 view bd bank act)
      pub ours : Ours bank
      pub goes : Goes (banked b) content (banked bank)
      pub offered : Offered content
      pub then : Then content (view, carried_after me.1 act)

    -- whatever the table is, and the bank's view
    abbrev pub AllowsDeal : ℕ → ℕ → Me ValueFraction V → ℕ → (FractionContent → Type 0) → (FractionContent → Me ValueFraction V → Type 0) → Type 0
    AllowsDeal slots id me bd Offered Then = (s : State ValueFraction V) (b : V) → Holds s → length s.homes ≡ slots → get_elem? s.views id ≡ some me.0
        → get_elem? s.views bd ≡ some b → Ours b → ¬ (id ≡ bd) → Deal s b id me bd Offered Then
