-- What a plot owns: each place and a unit of it. What shared values own: the rule of each of their places, in an invariant. And what their calls ask and
-- tell of the fractions that a seat carries.
use Rattle.std.specs.Prelude.{◌≡◌, ◌+◌, ◌-◌, ◌*◌, ◌^◌, ◌<◌, ℕ, zero, suc, Option, None, Some, List, [], ◌∷◌, ◌++◌, take, drop}
use mathlib.Core.Option.{some}
use lib.ListN.{get_elem?}
use base.Fraction.{full_share}
use base.Stored.{Gv, gnil, gnum, gcons}
use base.Fml.{Lft, Fml, ftrue, fsep, fex, flent, finv}
use denote.RattleType.{RattleType}
use mir.Raw.{raw}
use mir.Syntax.{ty_array}
use denote.Memory.{lone, mem}
use denote.RawPtr.{Ptr, block_ptr, block_of, count_of, InBlock, lies_at, room_for}
use denote.Sharing.{said}
use denote.Struct.Lending.{lent_at}
use Rattle.atomic_table.specs.Seated.{fact}
pub use Rattle.sdd_rights.specs.ReadFraction.{IsValueCode}
use Rattle.sdd_values.specs.Block.{IsFreeFor}
use Rattle.sdd_shared_values.specs.ValueFractions.{FractionContent, part}
use Rattle.sdd_shared_values.specs.CarriedFractions.{contents, with_contents}
use Rattle.sdd_shared_values.specs.declared.value_fraction.ValueFraction.{ValueFraction}

-- ---- what units show
-- the code of nothing: the place is vacant
abbrev pub vacant : Gv
vacant = gnil

abbrev pub full_shown : Gv → Gv
full_shown g = gcons gnil g

-- the code of a value: it lies in the place
abbrev pub showing : (R : RattleType) → R.Denot → Gv
showing R x = full_shown (R.coded.code x)

abbrev pub IsNoValueCode : Gv → Type 0
IsNoValueCode g = g ≡ vacant

-- ---- what a place keeps
-- room for a value, named so that it is the same formula at a type parameter and at what stands for it
abbrev pub vacancy : RattleType → Ptr → Fml
vacancy R p = room_for (raw (lone R.mir)) p

module _ (R : RattleType) (p : Ptr) (γ i : ℕ) where
  -- a vacant place, and one unit of its number
  abbrev pub plain_place : Fml
  plain_place = fex ℕ (λ a. fsep (part γ i a gnil 1) (vacancy R p))

  -- Only a value that fits lies in the place.
  module _ (FitsIn : R.Denot → Type 0) where
    -- the place keeps one unit of its number. It is out of use while a value is moved; vacant; or full: then the value is shared for the lifetime, and comes
    -- back
    -- after it
    abbrev pub state : Option (Option (ℕ × R.Denot)) → Fml
    state None = fex ℕ (λ a. part γ i a (gnum 0) 1)
    state (Some None) = plain_place
    state (Some (Some v)) = fsep (fact (FitsIn v.1)) (fsep (part γ i v.0 (full_shown (R.coded.code v.1)) 1) (fsep (lent_at R p v.1 (v.0 ∷ []))
        (flent (v.0 ∷ []) (lies_at R full_share p v.1))))

    abbrev pub rule : Fml
    rule = fex (Option (Option (ℕ × R.Denot))) state

module _ (R : RattleType) (b γ : ℕ) where
  -- n vacant places side by side, of the number i and those after it
  abbrev pub plots : ℕ → ℕ → ℕ → Fml
  plots zero i o = ftrue
  plots (suc n) i o = fsep (plain_place R (block_ptr b o) γ i) (plots n (suc i) (o + (mem R).size))

  -- the rules of such places
  module _ (FitsIn : R.Denot → Type 0) where
    abbrev pub rules : ℕ → ℕ → ℕ → Fml
    rules zero i o = ftrue
    rules (suc n) i o = fsep (finv (rule R (block_ptr b o) γ i FitsIn)) (rules n (suc i) (o + (mem R).size))

-- where n places lie: their size is one of memory
abbrev pub Spans : (R : RattleType) → Ptr → ℕ → Type 0
Spans R p n = InBlock p × (n * (mem R).size < 2 ^ 63)

abbrev pub plot_owns : (R : RattleType) → Ptr → ℕ → ℕ → Fml
plot_owns R p γ n = fsep (fact (Spans R p n)) (plots R (block_of p) γ n 0 (count_of p))

-- their memory alone
abbrev pub clearing_owns : (R : RattleType) → Ptr → ℕ → Fml
clearing_owns R p n = fsep (fact (Spans R p n)) (room_for (raw (ty_array (lone R.mir) n)) p)

abbrev pub values_owns : (R : RattleType) → (R.Denot → Type 0) → Ptr → ℕ → ℕ → Fml
values_owns R FitsIn p γ n = fsep (fact (Spans R p n)) (rules R (block_of p) γ FitsIn n 0 (count_of p))

abbrev pub values_shares : (R : RattleType) → (R.Denot → Type 0) → Ptr → ℕ → ℕ → Lft → Fml
values_shares R FitsIn p γ n = said (values_owns R FitsIn p γ n)

-- ---- contents
-- k units of the number i of the ghost map γ, which aren't lent
abbrev pub content : ℕ → ℕ → ℕ → Gv → ℕ → FractionContent
content γ i a g k = record { gamma = γ; number = i; lifetime = a; shown = g; units = k; lent = None }

-- all units but the place's own
abbrev pub most : ℕ
most = 2 ^ 63 - 1

-- it has all units of the number i but the place's own, and isn't lent
abbrev pub HasAllUnits : ℕ → ℕ → FractionContent → Type 0
HasAllUnits γ i h = h ≡ content γ i h.lifetime h.shown most

-- ---- a look
-- one of these fractions is in a full place's number, and may be lent to the section t, or is
pub record CanShow (γ i t : ℕ) (hs : List FractionContent) : Type 0 where
  pub place : ℕ
  pub one : FractionContent
  pub there : get_elem? hs place ≡ some one
  pub of_gamma : one.gamma ≡ γ
  pub of_number : one.number ≡ i
  pub full : IsValueCode one.shown
  pub free : IsFreeFor t one.lent

-- one of these fractions is in the number, and what it shows is g
pub record HasFractionShowing (γ i : ℕ) (g : Gv) (hs : List FractionContent) : Type 0 where
  pub place : ℕ
  pub one : FractionContent
  pub there : get_elem? hs place ≡ some one
  pub of_gamma : one.gamma ≡ γ
  pub of_number : one.number ≡ i
  pub shows : one.shown ≡ g

-- ---- a move out or in
abbrev pub units_in : List FractionContent → ℕ
units_in [] = 0
units_in (h ∷ hs) = h.units + units_in hs

-- each is of the number i, and agrees on this
abbrev pub AllOf : ℕ → ℕ → ℕ → Gv → List FractionContent → Type 0
AllOf γ i a g [] = Unit {0}
AllOf γ i a g (h ∷ hs) = (h ≡ content γ i a g h.units) × (0 < h.units) × AllOf γ i a g hs

-- the n fractions that were taken last have all units of the number i but the place's own, and agree on this
abbrev pub AreWhole : ℕ → ℕ → ℕ → Gv → ℕ → List FractionContent → Type 0
AreWhole γ i a g n hs = AllOf γ i a g (take n hs) × (units_in (take n hs) ≡ most)

-- each is of the number i, and isn't lent
abbrev pub AreUnlentFractions : ℕ → ℕ → List FractionContent → Type 0
AreUnlentFractions γ i [] = Unit {0}
AreUnlentFractions γ i (h ∷ hs) = (h ≡ content γ i h.lifetime h.shown h.units) × (0 < h.units) × AreUnlentFractions γ i hs

-- the n fractions that were taken last have all units of the number i but the place's own, none of them is lent, and what the newest shows is so
pub record HasWhole (γ i n : ℕ) (IsSo : Gv → Type 0) (hs : List FractionContent) : Type 0 where
  pub newest : FractionContent
  pub others : List FractionContent
  pub there : take n hs ≡ newest ∷ others
  pub so : IsSo newest.shown
  pub parts : AreUnlentFractions γ i (take n hs)
  pub whole : units_in (take n hs) ≡ most

-- they agree on something else now
abbrev pub turned : ℕ → Gv → List FractionContent → List FractionContent
turned a g [] = []
turned a g (h ∷ hs) = record h { lifetime = a; shown = g } ∷ turned a g hs

abbrev pub top_turned : ℕ → Gv → ℕ → List FractionContent → List FractionContent
top_turned a g n hs = turned a g (take n hs) ++ drop n hs

-- what a seat carries, once the n fractions that were taken last agree on the lifetime a and show g
abbrev pub all_turned : ℕ → Gv → ℕ → List (ℕ × ValueFraction) → List (ℕ × ValueFraction)
all_turned a g n xs = with_contents xs (top_turned a g n (contents xs))

-- ---- fractions in no table's slots
-- these are of the n numbers from i on, in order: of each, all units but the place's own, which show that it is vacant and aren't lent
abbrev pub AreVacant : ℕ → ℕ → ℕ → List FractionContent → Type 0
AreVacant γ i zero [] = Unit {0}
AreVacant γ i zero (h ∷ hs) = ⊥
AreVacant γ i (suc n) [] = ⊥
AreVacant γ i (suc n) (h ∷ hs) = (h ≡ content γ i h.lifetime vacant most) × AreVacant γ (suc i) n hs
