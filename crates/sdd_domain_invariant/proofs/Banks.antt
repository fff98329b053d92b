-- The bank's part after one step of one participant, with the bank or without, and after seats are cut and joined
use Rattle.std.proofs.Common.{◌≡◌, ◌≢◌, ℕ, suc, ◌+◌, ◌<◌, ◌≤◌, true, false, List, [], ◌∷◌, ◌++◌, map, set, sym, refl, ap, ◌∙◌, subst, arith, eq-eqb, ne_eqb, eqb}
use Rattle.std.specs.Prelude.{Option, Some, None}
use mathlib.Core.Option.{some, some-injective}
use mathlib.Core.Logic.{dite}
use native.Mathlib.Decide.{ℕ_discrete, dec_lt}
use lib.ListN.{get_elem?}
use prog.Atomic.{either}
use Rattle.atomic_table.proofs.Lists.{set_else, set_here}
use Rattle.sdd_shared_values.specs.ValueFractions.{FractionContent}
use Rattle.sdd_shared_values.specs.Deposits.{units_at, AreDeposits}
use Rattle.sdd_rights.specs.declared.views.Deposit.{Deposit}
use Rattle.sdd_rights.specs.declared.views.FractionsView.{FractionsView}
use Rattle.sdd_rights.specs.declared.views.View.{View}
use Rattle.sdd_rights.specs.declared.views.Sizes.{Sizes}
use Rattle.sdd_domain_invariant.specs.Sums.{total, times}
use Rattle.sdd_domain_invariant.specs.Slots.{owners_at}
use Rattle.sdd_domain_invariant.proofs.Epoch.{at_length}
use Rattle.sdd_domain_invariant.proofs.Frame.{each_set, each_snoc}
use Rattle.sdd_domain_invariant.proofs.Sums.{is_same, is_other, total_set, total_snoc, total_has, total_two}
use Rattle.sdd_domain_invariant.specs.Fractions.FractionsAtHome.{spare, full_at, Moves}
use Rattle.sdd_domain_invariant.proofs.Slots.Records.{IsAlike}
use Rattle.sdd_domain_invariant.specs.Fractions.BankInvariant.{founded, bank_of, drawn_at, moved_in, moves_at, one_where, offices, deposited, banked, IsBank, outside, Balances, BankInvariant}

-- ---- who moves a slot's value
moved_is : (i : ℕ) (o : Option ℕ) → 0 < moved_in i o → o ≡ Some i
moved_is i None more = absurd (omega arith)
moved_is i (Some j) more = dite (ℕ_discrete j i) (λ e. ap (λ (k : ℕ). Some k) e) (λ ne. absurd (let z = is_other i j ne in omega arith))

module _ (i : ℕ) (v : View) where
  pub moves_none : ¬ (Moves v i) → moves_at i v ≡ 0
  moves_none still = dite (dec_lt 0 (moves_at i v)) (λ more. absurd (still (moved_is i v.fractions.moves more))) (λ none. omega arith)

  pub moves_one : Moves v i → moves_at i v ≡ 1
  moves_one m = ap (moved_in i) m ∙ is_same i i refl

  pub moves_other : (j : ℕ) → Moves v j → i ≢ j → moves_at i v ≡ 0
  moves_other j m ne = ap (moved_in i) m ∙ is_other i j (λ e. ne (sym e))

  pub moves_rest : v.fractions.moves ≡ None → moves_at i v ≡ 0
  moves_rest rests = ap (moved_in i) rests

-- ---- what is outside a slot's fractions
module _ (sizes : Sizes) (ws : List ℕ) (vs : List View) (i : ℕ) where
  abbrev moved : ℕ
  moved = total (moves_at i) vs

  pub outside_free : full_at sizes ws i ≡ 0 → outside sizes ws vs i ≡ 0
  outside_free e = ap (λ b. either b 0 (either (eqb moved 0) (spare sizes.participants) 0)) (eq-eqb (full_at sizes ws i) 0 e)

  taken_of : full_at sizes ws i ≢ 0 → outside sizes ws vs i ≡ either (eqb moved 0) (spare sizes.participants) 0
  taken_of taken = ap (λ b. either b 0 (either (eqb moved 0) (spare sizes.participants) 0)) (ne_eqb (full_at sizes ws i) 0 taken)

  pub outside_moved : 0 < moved → outside sizes ws vs i ≡ 0
  outside_moved more = dite (ℕ_discrete (full_at sizes ws i) 0) outside_free
      (λ taken. taken_of taken ∙ ap (λ b. either b (spare sizes.participants) 0) (ne_eqb moved 0 (λ e. omega arith)))

  pub outside_there : full_at sizes ws i ≢ 0 → moved ≡ 0 → outside sizes ws vs i ≡ spare sizes.participants
  outside_there taken none = taken_of taken ∙ ap (λ b. either b (spare sizes.participants) 0) (eq-eqb moved 0 none)

pub outside_same : (sizes : Sizes) (ws ws' : List ℕ) (vs vs' : List View) (i : ℕ) → full_at sizes ws' i ≡ full_at sizes ws i
    → total (moves_at i) vs' ≡ total (moves_at i) vs → outside sizes ws' vs' i ≡ outside sizes ws vs i
outside_same sizes ws ws' vs vs' i e m d = either (eqb (e d) 0) 0 (either (eqb (m d) 0) (spare sizes.participants) 0)

pub total_below : {X : Type 0} (f g : X → ℕ) (xs : List X) → ((j : ℕ) (x : X) → get_elem? xs j ≡ some x → f x ≤ g x) → total f xs ≤ total g xs
total_below f g [] low = omega arith
total_below f g (x ∷ xs) low = let a = low 0 x refl in let b = total_below f g xs (λ j. low (suc j)) in omega arith

-- ---- deposits as contents, and contents as deposits
abbrev deposit_of : FractionContent → Deposit
deposit_of l = record { slot = l.number; units = l.units; lifetime = l.lifetime; value = l.shown }

deposits_back : (γ : ℕ) (ls : List FractionContent) → AreDeposits γ ls → map (deposited γ) (map deposit_of ls) ≡ ls
deposits_back γ [] are = refl
deposits_back γ (l ∷ ls) are = λ d. record l { gamma = sym are.0 d; lent = sym are.1 d } ∷ deposits_back γ ls are.4 d

-- the bank's view once it has these
abbrev pub with_deposits : List FractionContent → View → View
with_deposits ls b = record b { fractions = record b.fractions { banked = map deposit_of ls } }

pub banked_then : (γ : ℕ) (ls : List FractionContent) (b : View) → b.fractions.gamma ≡ γ → AreDeposits γ ls → banked (with_deposits ls b) ≡ ls
banked_then γ ls b gamma are = ap (λ (k : ℕ). map (deposited k) (map deposit_of ls)) gamma ∙ deposits_back γ ls are

-- ---- the part
abbrev pub HasUnits : View → Type 0
HasUnits v = (i : ℕ) → drawn_at i v ≤ owners_at i v

-- who may found the bank could before, and who is the bank was it before, and has what it had
pub record KeepsOffice (vs : List View) (u : View) : Type 0 where
  pub founds : u.fractions.founds ≡ true → (j : ℕ) × (v : View) × (get_elem? vs j ≡ some v) × (v.fractions.founds ≡ true)
  pub banks : IsBank u
      → (j : ℕ) × (v : View) × (get_elem? vs j ≡ some v) × IsBank v × (u.fractions.gamma ≡ v.fractions.gamma) × (u.fractions.banked ≡ v.fractions.banked)

pub no_office : (vs : List View) (u : View) → u.fractions.founds ≡ false → u.fractions.bank ≡ false → KeepsOffice vs u
no_office vs u none none' = record {
  founds = λ is. let e : false ≡ true = sym none ∙ is in absurd cc;
  banks = λ is. let e : false ≡ true = sym none' ∙ is in absurd cc;
}

pub same_office : (vs : List View) (j : ℕ) (u : View) → get_elem? vs j ≡ some u → KeepsOffice vs u
same_office vs j u e = record { founds = λ is. (j, u, e, is); banks = λ is. (j, u, e, is, refl, refl) }

-- what it has to do with the bank stays
pub record IsSteady (v w : View) : Type 0 where
  pub bank : w.fractions.bank ≡ v.fractions.bank
  pub founds : w.fractions.founds ≡ v.fractions.founds
  pub gamma : w.fractions.gamma ≡ v.fractions.gamma
  pub banked : w.fractions.banked ≡ v.fractions.banked
  pub drawn : w.slots.drawn ≡ v.slots.drawn

pub alike_steady : (v w : View) → IsAlike v w → IsSteady v w
alike_steady v w same = let is = same.0 in record {
  bank = ap (λ (s : FractionsView). s.bank) is;
  founds = ap (λ (s : FractionsView). s.founds) is;
  gamma = ap (λ (s : FractionsView). s.gamma) is;
  banked = ap (λ (s : FractionsView). s.banked) is;
  drawn = same.4;
}

pub alike_units : (v w : View) → IsAlike v w → HasUnits v → HasUnits w
alike_units v w same low i = let d = ap (times i) same.4 in let a = ap (times i) same.1 in let l = low i in omega arith

module _ (γ : ℕ) (sizes : Sizes) (ws : List ℕ) (vs : List View) (p : BankInvariant γ sizes ws vs) where
  -- all offices and units are where they were, or with another
  pub shifted : (ws' : List ℕ) (vs' : List View) → total offices vs' ≡ total offices vs → ((j : ℕ) (u : View) → get_elem? vs' j ≡ some u → HasUnits u)
      → ((i : ℕ) → total (drawn_at i) vs' ≡ total (drawn_at i) vs) → ((i : ℕ) → i < sizes.slots → outside sizes ws' vs' i ≡ outside sizes ws vs i)
      → ((j : ℕ) (u : View) → get_elem? vs' j ≡ some u → KeepsOffice vs u) → BankInvariant γ sizes ws' vs'
  shifted ws' vs' sum low drawn same old = record {
    single = let o = p.single in omega arith;
    low = low;
    quiet = λ i near none. drawn i ∙ p.quiet i near (sym (same i near) ∙ none);
    founds = λ j u e is i near. let o = (old j u e).founds is in same i near ∙ p.founds o.0 o.1 o.2 o.3 i near;
    banks = λ j u e is. let o = (old j u e).banks is in let b = p.banks o.0 o.1 o.2 o.3 in
        let has : banked u ≡ banked o.1 = λ d. map (deposited (o.4 d)) (o.5 d) in record {
          gamma = o.4 ∙ b.gamma;
          deposits = subst (AreDeposits γ) (sym has) b.deposits;
          sums = λ i near. let units = ap (units_at i) has in let sum' = b.sums i near in let t = drawn i in let out = same i near in omega arith;
        };
  }

  -- a new seat
  pub arrives : (t : View) → t.fractions.founds ≡ false → t.fractions.bank ≡ false → t.slots.drawn ≡ [] → t.fractions.moves ≡ None
      → BankInvariant γ sizes ws (vs ++ t ∷ [])
  arrives t founds bank drawn rests = shifted ws (vs ++ t ∷ [])
      (let a = total_snoc offices vs t in let e : offices t ≡ 0 = λ d. one_where (bank d) + one_where (founds d) in omega arith)
      (each_snoc HasUnits vs t p.low (λ i. let z = ap (times i) drawn in omega arith))
      (λ i. let a = total_snoc (drawn_at i) vs t in let z = ap (times i) drawn in omega arith)
      (λ i near. outside_same sizes ws ws vs (vs ++ t ∷ []) i refl
      (let a = total_snoc (moves_at i) vs t in let z = moves_rest i t rests in omega arith))
      (each_snoc (KeepsOffice vs) vs t (λ j u e. same_office vs j u e) (no_office vs t founds bank))

  module _ (id : ℕ) (v : View) (at : get_elem? vs id ≡ some v) where
    steady_office : (w : View) → IsSteady v w → KeepsOffice vs w
    steady_office w s = record {
      founds = λ is. (id, v, at, sym s.founds ∙ is);
      banks = λ is. (id, v, at, sym s.bank ∙ is, s.gamma, s.banked);
    }

    steady_offices : (w : View) → IsSteady v w → total offices (set vs id w) ≡ total offices vs
    steady_offices w s = let t = total_set offices vs id v w at in let e : offices w ≡ offices v = λ d. one_where (s.bank d) + one_where (s.founds d) in
        omega arith

    pub steady : (ws' : List ℕ) (w : View) → IsSteady v w → HasUnits w
        → ((i : ℕ) → i < sizes.slots → outside sizes ws' (set vs id w) i ≡ outside sizes ws vs i) → BankInvariant γ sizes ws' (set vs id w)
    steady ws' w s mine same = shifted ws' (set vs id w) (steady_offices w s)
        (each_set HasUnits HasUnits vs id w mine (λ j u _ e. p.low j u e))
        (λ i. let t = total_set (drawn_at i) vs id v w at in let e = ap (times i) s.drawn in omega arith) same
        (each_set (KeepsOffice vs) (KeepsOffice vs) vs id w (steady_office w s) (λ j u _ e. same_office vs j u e))

    -- and it moves the values that it moved, and slots are as full as they were
    pub calm : (ws' : List ℕ) (w : View) → IsSteady v w → w.fractions.moves ≡ v.fractions.moves → HasUnits w
        → ((i : ℕ) → i < sizes.slots → full_at sizes ws' i ≡ full_at sizes ws i) → BankInvariant γ sizes ws' (set vs id w)
    calm ws' w s moves mine same = steady ws' w s mine (λ i near. outside_same sizes ws ws' vs (set vs id w) i (same i near)
        (let t = total_set (moves_at i) vs id v w at in let e = ap (moved_in i) moves in omega arith))

    pub alike : (ws' : List ℕ) (w : View) → IsAlike v w → ((i : ℕ) → i < sizes.slots → full_at sizes ws' i ≡ full_at sizes ws i)
        → BankInvariant γ sizes ws' (set vs id w)
    alike ws' w same full = calm ws' w (alike_steady v w same) (ap (λ (s : FractionsView). s.moves) same.0) (alike_units v w same (p.low id v at)) full

    -- it comes to move the value of a free slot, or moved it and leaves it free: before and after nothing of it is outside; the others are as they were
    pub moves_over : (ws' : List ℕ) (w : View) (slot : ℕ) → IsSteady v w → HasUnits w → outside sizes ws vs slot ≡ 0
        → outside sizes ws' (set vs id w) slot ≡ 0 → ((i : ℕ) → i ≢ slot → moves_at i w ≡ moves_at i v)
        → ((i : ℕ) → i < sizes.slots → i ≢ slot → full_at sizes ws' i ≡ full_at sizes ws i) → BankInvariant γ sizes ws' (set vs id w)
    moves_over ws' w slot s mine before after moves same = steady ws' w s mine (λ i near. dite (ℕ_discrete i slot)
        (λ e. ap (outside sizes ws' (set vs id w)) e ∙ (after ∙ sym (ap (outside sizes ws vs) e ∙ before)))
        (λ ne. outside_same sizes ws ws' vs (set vs id w) i (same i near ne)
        (let t = total_set (moves_at i) vs id v w at in let e = moves i ne in omega arith)))

    -- who comes to move the value of a slot
    pub moving_outside : (ws' : List ℕ) (w : View) (slot : ℕ) → Moves w slot → outside sizes ws' (set vs id w) slot ≡ 0
    moving_outside ws' w slot m = outside_moved sizes ws' (set vs id w) slot
        (let t = total_has (moves_at slot) (set vs id w) id w (set_here vs id w (at_length vs id v at)) in let o = moves_one slot w m in omega arith)

    -- where it moves the value of a slot nothing of it is outside, and none is drawn
    pub moved_outside : (slot : ℕ) → Moves v slot → outside sizes ws vs slot ≡ 0
    moved_outside slot m = outside_moved sizes ws vs slot (let t = total_has (moves_at slot) vs id v at in let o = moves_one slot v m in omega arith)

    pub none_drawn : (slot : ℕ) → slot < sizes.slots → Moves v slot → drawn_at slot v ≡ 0
    none_drawn slot near m = let t = total_has (drawn_at slot) vs id v at in let z = p.quiet slot near (moved_outside slot m) in omega arith

    -- ---- seats
    -- what it keeps of its offices when owners come or go
    pub record KeepsPost (w : View) : Type 0 where
      pub bank : w.fractions.bank ≡ v.fractions.bank
      pub founds : w.fractions.founds ≡ v.fractions.founds
      pub gamma : w.fractions.gamma ≡ v.fractions.gamma
      pub banked : w.fractions.banked ≡ v.fractions.banked
      pub moves : w.fractions.moves ≡ v.fractions.moves

    kept_office : (w : View) → KeepsPost w → KeepsOffice vs w
    kept_office w s = record { founds = λ is. (id, v, at, sym s.founds ∙ is); banks = λ is. (id, v, at, sym s.bank ∙ is, s.gamma, s.banked) }

    kept_offices : (w : View) → KeepsPost w → offices w ≡ offices v
    kept_offices w s = λ d. one_where (s.bank d) + one_where (s.founds d)

    -- units go to a seat of their own, with their owners
    pub parts : (w t : View) → KeepsPost w → t.fractions.founds ≡ false → t.fractions.bank ≡ false → t.fractions.moves ≡ None → HasUnits w → HasUnits t
        → ((i : ℕ) → drawn_at i w + drawn_at i t ≡ drawn_at i v) → BankInvariant γ sizes ws (set vs id w ++ t ∷ [])
    parts w t post founds bank rests low low' drawn = let us : List View = set vs id w in shifted ws (us ++ t ∷ [])
        (let a = total_set offices vs id v w at in let b = total_snoc offices us t in let e = kept_offices w post in
        let z : offices t ≡ 0 = (λ d. one_where (bank d) + one_where (founds d)) in omega arith)
        (each_snoc HasUnits us t (each_set HasUnits HasUnits vs id w low (λ j u _ e. p.low j u e)) low')
        (λ i. let a = total_set (drawn_at i) vs id v w at in let b = total_snoc (drawn_at i) us t in let d = drawn i in omega arith)
        (λ i near. outside_same sizes ws ws vs (us ++ t ∷ []) i refl
        (let a = total_set (moves_at i) vs id v w at in let b = total_snoc (moves_at i) us t in let e = ap (moved_in i) post.moves in
        let z = moves_rest i t rests in omega arith))
        (each_snoc (KeepsOffice vs) us t
        (each_set (KeepsOffice vs) (KeepsOffice vs) vs id w (kept_office w post) (λ j u _ e. same_office vs j u e)) (no_office vs t founds bank))

    -- and come back
    pub joins : (other : ℕ) (t t' w : View) → get_elem? (set vs id w) other ≡ some t → other ≢ id → KeepsPost w → t.fractions.founds ≡ false
        → t.fractions.bank ≡ false → t.fractions.moves ≡ None → t'.fractions.founds ≡ false → t'.fractions.bank ≡ false → t'.fractions.moves ≡ None
        → t'.slots.drawn ≡ [] → HasUnits w → ((i : ℕ) → drawn_at i w ≡ drawn_at i v + drawn_at i t)
        → BankInvariant γ sizes ws (set (set vs id w) other t')
    joins other t t' w there apart post founds bank rests founds' bank' rests' drawn' low drawn = let us : List View = set vs id w in
        shifted ws (set us other t')
        (let a = total_set offices vs id v w at in let b = total_set offices us other t t' there in let e = kept_offices w post in
        let z : offices t ≡ 0 = (λ d. one_where (bank d) + one_where (founds d)) in
        let z' : offices t' ≡ 0 = (λ d. one_where (bank' d) + one_where (founds' d)) in omega arith)
        (each_set HasUnits HasUnits us other t' (λ i. let z = ap (times i) drawn' in omega arith)
        (λ j u _ e. each_set HasUnits HasUnits vs id w low (λ j u _ e. p.low j u e) j u e))
        (λ i. let a = total_set (drawn_at i) vs id v w at in let b = total_set (drawn_at i) us other t t' there in let d = drawn i in
        let z = ap (times i) drawn' in omega arith)
        (λ i near. outside_same sizes ws ws vs (set us other t') i refl
        (let a = total_set (moves_at i) vs id v w at in let b = total_set (moves_at i) us other t t' there in let e = ap (moved_in i) post.moves in
        let z = moves_rest i t rests in let z' = moves_rest i t' rests' in omega arith))
        (each_set (KeepsOffice vs) (KeepsOffice vs) us other t' (no_office vs t' founds' bank')
        (λ j u _ e. each_set (KeepsOffice vs) (KeepsOffice vs) vs id w (kept_office w post) (λ j u _ e. same_office vs j u e) j u e))

    -- the bank is founded, which has nothing yet
    pub bank_founded : v.fractions.founds ≡ true → v.fractions.gamma ≡ γ → BankInvariant γ sizes ws (set vs id (founded v) ++ bank_of v ∷ [])
    bank_founded may gamma = let w : View = founded v in let t : View = bank_of v in let us : List View = set vs id w in
        let vs' : List View = us ++ t ∷ [] in
        let drawn : (i : ℕ) → total (drawn_at i) vs' ≡ total (drawn_at i) vs
        = λ i. let a = total_set (drawn_at i) vs id v w at in let b = total_snoc (drawn_at i) us t in omega arith in
        let same : (i : ℕ) → outside sizes ws vs' i ≡ outside sizes ws vs i
        = λ i. outside_same sizes ws ws vs vs' i refl (let a = total_set (moves_at i) vs id v w at in let b = total_snoc (moves_at i) us t in omega arith) in
        let still : (u b : View) → Balances γ sizes ws vs b → u.fractions.gamma ≡ b.fractions.gamma → u.fractions.banked ≡ b.fractions.banked
        → Balances γ sizes ws vs' u
        = λ u b old is is'. let has : banked u ≡ banked b = (λ d. map (deposited (is d)) (is' d)) in record {
          gamma = is ∙ old.gamma;
          deposits = subst (AreDeposits γ) (sym has) old.deposits;
          sums = λ i near. let units = ap (units_at i) has in let sum = old.sums i near in let e = drawn i in let out = same i in omega arith;
        } in record {
          single = let a = total_set offices vs id v w at in let b = total_snoc offices us t in let e = ap one_where may in let o = p.single in omega arith;
          low = each_snoc HasUnits us t (each_set HasUnits HasUnits vs id w (p.low id v at) (λ j u _ e. p.low j u e)) (λ i. omega arith);
          quiet = λ i near none. drawn i ∙ p.quiet i near (sym (same i) ∙ none);
          founds = let Empty : View → Type 0 = λ u. u.fractions.founds ≡ true → (i : ℕ) → i < sizes.slots → outside sizes ws vs' i ≡ 0 in
              each_snoc Empty us t (each_set Empty Empty vs id w (λ is. let e : false ≡ true = is in absurd cc)
              (λ j u _ e is i near. same i ∙ p.founds j u e is i near)) (λ is. let e : false ≡ true = is in absurd cc);
          banks = each_snoc (λ u. IsBank u → Balances γ sizes ws vs' u) us t
              (each_set (λ u. IsBank u → Balances γ sizes ws vs' u) (λ u. IsBank u → Balances γ sizes ws vs' u) vs id w
              (λ is. still w v (p.banks id v at is) refl refl) (λ j u _ e is. still u u (p.banks j u e is) refl refl))
              (λ is. record {
                gamma = gamma;
                deposits = tt;
                sums = λ i near. let out = p.founds id v at may i near in let none = p.quiet i near out in let e = drawn i in let s = same i in omega arith;
              });
        }

    -- ---- with the bank
    module _ (bd : ℕ) (b : View) (there : get_elem? vs bd ≡ some b) (is : IsBank b) (ne : id ≢ bd) where
      abbrev after : View → List FractionContent → List View
      after w ls = set (set vs id w) bd (with_deposits ls b)

      pub still_there : (w : View) → get_elem? (set vs id w) bd ≡ some b
      still_there w = set_else vs id bd w (λ e. ne (sym e)) ∙ there

      pub total_dealt : (f : View → ℕ) (w : View) (ls : List FractionContent) → f (with_deposits ls b) ≡ f b → total f (after w ls) + f v ≡ total f vs + f w
      total_dealt f w ls same = let a = total_set f vs id v w at in
          let c = total_set f (set vs id w) bd b (with_deposits ls b) (still_there w) in omega arith

      pub has_deposits : AreDeposits γ (banked b)
      has_deposits = (p.banks bd b there is).deposits

      pub deals : (w : View) (ls : List FractionContent) → AreDeposits γ ls → w.fractions.bank ≡ v.fractions.bank → w.fractions.founds ≡ v.fractions.founds
          → HasUnits w
          → ((i : ℕ) → i < sizes.slots → units_at i ls + drawn_at i w + outside sizes ws vs i
          ≡ units_at i (banked b) + drawn_at i v + outside sizes ws (after w ls) i) → BankInvariant γ sizes ws (after w ls)
      deals w ls are bank founds mine balance = let b' : View = with_deposits ls b in let vs' : List View = after w ls in let old = p.banks bd b there is in
          let held : get_elem? vs' bd ≡ some b' = set_here (set vs id w) bd b' (at_length (set vs id w) bd b (still_there w)) in
          let few : total offices vs' ≤ 1 = (let t = total_dealt offices w ls refl in
          let e : offices w ≡ offices v = λ d. one_where (bank d) + one_where (founds d) in let o = p.single in omega arith) in
          let mine' : 1 ≤ one_where b'.fractions.bank = (let e = ap one_where is in omega arith) in
          let sums : (i : ℕ) → i < sizes.slots → units_at i (banked b') + total (drawn_at i) vs' ≡ outside sizes ws vs' i
          = λ i near. let t = total_dealt (drawn_at i) w ls refl in let s = old.sums i near in let e = balance i near in
          let u = ap (units_at i) (banked_then γ ls b old.gamma are) in omega arith in
          let only : (j : ℕ) (u : View) → get_elem? vs' j ≡ some u → 1 ≤ offices u → (j ≡ bd) × (u ≡ b')
          = λ j u e some_office. dite (ℕ_discrete j bd)
          (λ same. (same, some-injective u b' (sym e ∙ (ap (get_elem? vs') same ∙ held))))
          (λ apart. absurd (let two = total_two offices vs' j bd u b' apart e held in omega arith)) in record {
            single = few;
            low = each_set HasUnits HasUnits (set vs id w) bd b' (p.low bd b there)
                (λ j u _ e. each_set HasUnits HasUnits vs id w mine (λ j u _ e. p.low j u e) j u e);
            quiet = λ i near none. let s = sums i near in omega arith;
            founds = λ j u e f i near. absurd (let one = ap one_where f in let o = only j u e (omega arith) in
                let same = ap offices o.1 in let all = total_has offices vs' j u e in let t = ap (λ (x : View). one_where x.fractions.bank) o.1 in omega arith);
            banks = λ j u e f. let o = only j u e (let one = ap one_where f in omega arith) in subst (Balances γ sizes ws vs') (sym o.1) record {
              gamma = old.gamma;
              deposits = subst (AreDeposits γ) (sym (banked_then γ ls b old.gamma are)) are;
              sums = sums;
            };
          }
