-- What a seat carries, from call to call
use Rattle.std.proofs.Common.{◌≡◌, inl, ℕ, zero, suc, ◌+◌, List, [], ◌∷◌, take, length, sym, refl, ap, ◌∙◌, subst, arith}
use mathlib.Core.Option.{some, some-injective, some-ne-none}
use lib.ListN.{get_elem?}
use base.Stored.{Gv, gnil, gnum, gcons}
use denote.RattleType.{RattleType}
use Rattle.sdd_values.specs.Block.{IsFreeFor}
use Rattle.sdd_shared_values.specs.ValueFractions.{FractionContent, unlent, settled, AllFreeFor}
use Rattle.sdd_shared_values.specs.CarriedFractions.{contents, plain, OnlyLends}
use Rattle.sdd_shared_values.specs.SharedValues.{units_in, showing, IsValueCode, CanShow, HasFractionShowing, AreUnlentFractions, AllOf, AreWhole, HasWhole, turned, top_turned, all_turned}
use Rattle.sdd_shared_values.specs.declared.value_fraction.ValueFraction.{ValueFraction}
use Rattle.sdd_shared_values.proofs.CarriedFractions.{contents_with, contents_long, same_length}
use Rattle.sdd_shared_values.proofs.WholeFractions.{top_long}

abbrev pub Carries : Type 0
Carries = List (ℕ × ValueFraction)

pub contents_plain : (xs : Carries) → contents (plain xs) ≡ settled (contents xs)
contents_plain xs = contents_with xs (settled (contents xs)) (same_length xs)

pub contents_turned : (a : ℕ) (g : Gv) (n : ℕ) (xs : Carries) → contents (all_turned a g n xs) ≡ top_turned a g n (contents xs)
contents_turned a g n xs = contents_with xs (top_turned a g n (contents xs)) (top_long a g n (contents xs) ∙ contents_long xs)

-- ---- a look again
free_at : (t : ℕ) (hs : List FractionContent) (k : ℕ) (h : FractionContent) → AllFreeFor t hs → get_elem? hs k ≡ some h → IsFreeFor t h.lent
free_at t [] k h free at = absurd (some-ne-none h (sym at))
free_at t (x ∷ hs) zero h free at = subst (λ (y : FractionContent). IsFreeFor t y.lent) (some-injective x h at) free.0
free_at t (x ∷ hs) (suc k) h free at = free_at t hs k h free.1 at

settled_at : (hs : List FractionContent) (k : ℕ) (h : FractionContent) → get_elem? hs k ≡ some h → get_elem? (settled hs) k ≡ some (unlent h)
settled_at [] k h at = absurd (some-ne-none h (sym at))
settled_at (x ∷ hs) zero h at = ap (λ (y : FractionContent). some (unlent y)) (some-injective x h at)
settled_at (x ∷ hs) (suc k) h at = settled_at hs k h at

pub record Unsettled (hs : List FractionContent) (k : ℕ) (h : FractionContent) : Type 0 where
  pub one : FractionContent
  pub there : get_elem? hs k ≡ some one
  pub same : unlent one ≡ h

unsettled_at : (hs : List FractionContent) (k : ℕ) (h : FractionContent) → get_elem? (settled hs) k ≡ some h → Unsettled hs k h
unsettled_at [] k h at = absurd (some-ne-none h (sym at))
unsettled_at (x ∷ hs) zero h at = record { one = x; there = refl; same = some-injective (unlent x) h at }
unsettled_at (x ∷ hs) (suc k) h at = let u = unsettled_at hs k h at in record { one = u.one; there = u.there; same = u.same }

-- what can be shown under a section can be shown again under it
pub shows-again : (γ i t : ℕ) (xs ys : Carries) → CanShow γ i t (contents xs) → AllFreeFor t (contents xs) → OnlyLends t xs ys → CanShow γ i t (contents ys)
shows-again γ i t xs ys can free only = let h : FractionContent = can.one in let k : ℕ = can.place in
    let same : settled (contents ys) ≡ settled (contents xs) = sym (contents_plain ys) ∙ ap contents only.0 ∙ contents_plain xs in
    let u = unsettled_at (contents ys) k (unlent h) (ap (λ (l : List FractionContent). get_elem? l k) same ∙ settled_at (contents xs) k h can.there) in
    let e = u.same in
    record {
      place = k;
      one = u.one;
      there = u.there;
      of_gamma = ap (λ (l : FractionContent). l.gamma) e ∙ can.of_gamma;
      of_number = ap (λ (l : FractionContent). l.number) e ∙ can.of_number;
      full = subst IsValueCode (sym (ap (λ (l : FractionContent). l.shown) e)) can.full;
      free = free_at t (contents ys) k u.one (only.1 free) u.there;
    }

abbrev shown_of : Gv → Gv
shown_of gnil = gnil
shown_of (gnum n) = gnil
shown_of (gcons a b) = b

-- two looks by the same one fraction show the same value
pub same-look : (R : RattleType) (γ i t : ℕ) (x y : R.Denot) (xs ys : Carries) → length xs ≡ 1 → OnlyLends t xs ys
    → HasFractionShowing γ i (showing R x) (contents xs)
    → HasFractionShowing γ i (showing R y) (contents ys) → y ≡ x
same-look R γ i t x y xs ys one only before after =
    let same : settled (contents ys) ≡ settled (contents xs) = sym (contents_plain ys) ∙ ap contents only.0 ∙ contents_plain xs in
    let a = settled_at (contents xs) before.place before.one before.there in
    let b = settled_at (contents ys) after.place after.one after.there in
    let long : length (settled (contents xs)) ≡ 1 = settled_long (contents xs) ∙ contents_long xs ∙ one in
    let e = only_one (settled (contents xs)) long before.place after.place (unlent before.one) (unlent after.one) a
    (ap (λ (l : List FractionContent). get_elem? l after.place) (sym same) ∙ b) in
    R.coded.inj y x (ap shown_of (sym after.shows ∙ ap (λ (l : FractionContent). l.shown) e ∙ before.shows))
  where
    settled_long : (hs : List FractionContent) → length (settled hs) ≡ length hs
    settled_long [] = refl
    settled_long (h ∷ hs) = ap suc (settled_long hs)

    only_one : (hs : List FractionContent) → length hs ≡ 1 → (j k : ℕ) (h l : FractionContent) → get_elem? hs j ≡ some h → get_elem? hs k ≡ some l → l ≡ h
    only_one [] long j k h l a b = absurd (some-ne-none h (sym a))
    only_one (x ∷ []) long zero zero h l a b = some-injective l h (sym b ∙ a)
    only_one (x ∷ []) long (suc j) k h l a b = absurd (some-ne-none h (sym a))
    only_one (x ∷ []) long zero (suc k) h l a b = absurd (some-ne-none l (sym b))
    only_one (x ∷ z ∷ hs) long j k h l a b = absurd (omega arith)

-- ---- after a move in
take_turned : (a : ℕ) (g : Gv) (n : ℕ) (hs : List FractionContent) → take n (top_turned a g n hs) ≡ turned a g (take n hs)
take_turned a g zero hs = refl
take_turned a g (suc n) [] = refl
take_turned a g (suc n) (h ∷ hs) = ap (λ (l : List FractionContent). record h { lifetime = a; shown = g } ∷ l) (take_turned a g n hs)

turned_parts : (γ i a : ℕ) (g : Gv) (hs : List FractionContent) → AreUnlentFractions γ i hs → AreUnlentFractions γ i (turned a g hs)
turned_parts γ i a g [] parts = tt
turned_parts γ i a g (h ∷ hs) parts = (ap (λ (l : FractionContent). record l { lifetime = a; shown = g }) parts.0, parts.1, turned_parts γ i a g hs parts.2)

turned_units : (a : ℕ) (g : Gv) (hs : List FractionContent) → units_in (turned a g hs) ≡ units_in hs
turned_units a g [] = refl
turned_units a g (h ∷ hs) = ap (λ (k : ℕ). h.units + k) (turned_units a g hs)

-- a seat that has all units of a number has them once they show something else
pub whole-turned : (γ i n a : ℕ) (g : Gv) (Is Js : Gv → Type 0) (xs : Carries) → Js g → HasWhole γ i n Is (contents xs)
    → HasWhole γ i n Js (contents (all_turned a g n xs))
whole-turned γ i n a g Is Js xs so has = let hs : List FractionContent = contents xs in let e = contents_turned a g n xs in
    let top : take n (contents (all_turned a g n xs)) ≡ turned a g (take n hs) = ap (take n) e ∙ take_turned a g n hs in
    record {
      newest = record (has.newest) { lifetime = a; shown = g };
      others = turned a g has.others;
      there = top ∙ ap (turned a g) has.there;
      so = so;
      parts = subst (AreUnlentFractions γ i) (sym top) (turned_parts γ i a g (take n hs) has.parts);
      whole = ap units_in top ∙ turned_units a g (take n hs) ∙ has.whole;
    }

first_of : (n : ℕ) (hs : List FractionContent) (h : FractionContent) (rest : List FractionContent) → take n hs ≡ h ∷ rest → get_elem? hs 0 ≡ some h
first_of zero hs h rest e = absurd (subst (λ (l : List FractionContent). length l ≡ 0 → ⊥) (sym e) (λ f. absurd (omega (arith, f))) refl)
first_of (suc n) [] h rest e = absurd (subst (λ (l : List FractionContent). length l ≡ 0 → ⊥) (sym e) (λ f. absurd (omega (arith, f))) refl)
first_of (suc n) (x ∷ hs) h rest e = ap (λ (l : List FractionContent). get_elem? l 0) e

-- a seat that has all units of a full number can show its value
pub whole-shows : (γ i n t : ℕ) (hs : List FractionContent) → HasWhole γ i n IsValueCode hs → CanShow γ i t hs
whole-shows γ i n t hs has = let h : FractionContent = has.newest in let e = (subst (AreUnlentFractions γ i) has.there has.parts).0 in
    record {
      place = 0;
      one = h;
      there = first_of n hs h has.others has.there;
      of_gamma = ap (λ (l : FractionContent). l.gamma) e;
      of_number = ap (λ (l : FractionContent). l.number) e;
      full = has.so;
      free = inl (ap (λ (l : FractionContent). l.lent) e);
    }

settled_take : (n : ℕ) (hs : List FractionContent) → take n (settled hs) ≡ settled (take n hs)
settled_take zero hs = refl
settled_take (suc n) [] = refl
settled_take (suc n) (h ∷ hs) = ap (λ (l : List FractionContent). unlent h ∷ l) (settled_take n hs)

parts_settled : (γ i : ℕ) (hs : List FractionContent) → AreUnlentFractions γ i hs → settled hs ≡ hs
parts_settled γ i [] parts = refl
parts_settled γ i (h ∷ hs) parts = λ j. (ap unlent parts.0 ∙ sym parts.0) j ∷ parts_settled γ i hs parts.2 j

-- and has them once what was lent has come back
pub whole-settled : (γ i n : ℕ) (Is : Gv → Type 0) (xs ys : Carries) → plain ys ≡ plain xs → HasWhole γ i n Is (contents xs)
    → HasWhole γ i n Is (contents (plain ys))
whole-settled γ i n Is xs ys same has = let hs : List FractionContent = contents xs in
    let e : contents (plain ys) ≡ settled hs = ap contents same ∙ contents_plain xs in
    let top : take n (contents (plain ys)) ≡ take n hs = ap (take n) e ∙ settled_take n hs ∙ parts_settled γ i (take n hs) has.parts in
    record {
      newest = has.newest;
      others = has.others;
      there = top ∙ has.there;
      so = has.so;
      parts = subst (AreUnlentFractions γ i) (sym top) has.parts;
      whole = ap units_in top ∙ has.whole;
    }

turned_free : (t a : ℕ) (g : Gv) (n : ℕ) (hs : List FractionContent) → AllFreeFor t hs → AllFreeFor t (top_turned a g n hs)
turned_free t a g zero hs free = free
turned_free t a g (suc n) [] free = tt
turned_free t a g (suc n) (h ∷ hs) free = (free.0, turned_free t a g n hs free.1)

pub free-turned : (t a : ℕ) (g : Gv) (n : ℕ) (xs : Carries) → AllFreeFor t (contents xs) → AllFreeFor t (contents (all_turned a g n xs))
free-turned t a g n xs free = subst (AllFreeFor t) (sym (contents_turned a g n xs)) (turned_free t a g n (contents xs) free)

-- where the units show this value and that, they are the same
pub same-value : (R : RattleType) (γ i n a : ℕ) (x y : R.Denot) (hs : List FractionContent) → HasWhole γ i n (λ g. g ≡ showing R x) hs
    → AreWhole γ i a (showing R y) n hs → y ≡ x
same-value R γ i n a x y hs has are = let e = (subst (AllOf γ i a (showing R y)) has.there are.0).0 in
    R.coded.inj y x (ap shown_of (sym (ap (λ (l : FractionContent). l.shown) e) ∙ has.so))

-- ---- as the calls of shared values say it
pub put-whole : (γ i n : ℕ) (w : Gv) (Is Js : Gv → Type 0) (xs ys : Carries) → Js w → HasWhole γ i n Is (contents xs) → (a : ℕ) × (ys ≡ all_turned a w n xs)
    → HasWhole γ i n Js (contents ys)
put-whole γ i n w Is Js xs ys so has e = subst (λ (zs : Carries). HasWhole γ i n Js (contents zs)) (sym e.1) (whole-turned γ i n e.0 w Is Js xs so has)

pub put-free : (t n : ℕ) (w : Gv) (xs ys : Carries) → AllFreeFor t (contents xs) → (a : ℕ) × (ys ≡ all_turned a w n xs) → AllFreeFor t (contents ys)
put-free t n w xs ys free e = subst (λ (zs : Carries). AllFreeFor t (contents zs)) (sym e.1) (free-turned t e.0 w n xs free)
