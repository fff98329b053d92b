-- What the steps on cells ask for, and what they leave
use Rattle.std.proofs.Common.{◌≡◌, ℕ, ◌<◌, Bool, true, false, None, List, [], ◌∷◌, eqb, get_or, sym, refl, ap, ◌∙◌, subst, ⊎_elim, arith}
use mathlib.Core.Logic.{dite}
use native.Mathlib.Decide.{ℕ_discrete}
use prog.Atomic.{either}
use Rattle.atomic_table.specs.Table.{Allows, carried_after}
use Rattle.sdd_witness.specs.Ledger.{Pledge}
use Rattle.sdd_witness.specs.Steps.{AllowsBeside}
use Rattle.sdd_rights.specs.Owner.{cell_kind}
use Rattle.sdd_rights.specs.declared.views.CellKind.{CellKind}
use Rattle.sdd_rights.specs.declared.views.CellKind.TheVariants.{Owned, Shared}
use Rattle.sdd_rights.specs.declared.views.CellRight.{CellRight}
use Rattle.sdd_rights.specs.declared.views.ShownValue.{ShownValue}
use Rattle.sdd_rights.specs.declared.views.View.{View}
use Rattle.sdd_rights.specs.declared.views.Sizes.{Sizes}
use Rattle.sdd_rights.specs.contracts.views.View.{the_row}
use Rattle.sdd_rights.specs.Views.{right_to}
use Rattle.sdd_domain_invariant.specs.Words.{cell_word}
use Rattle.sdd_domain_invariant.specs.Codes.{held_slots}
use Rattle.sdd_domain_invariant.specs.Cells.CellWordSteps.{noting}
use Rattle.sdd_domain_invariant.specs.Epoch.{HasPlace, IsOpen}
use Rattle.sdd_domain_invariant.specs.DomainInvariant.{DomainInvariant}
use Rattle.sdd_domain_invariant.specs.Slots.FilledInvariant.{HasRecord}
use Rattle.sdd_domain_invariant.specs.Fractions.PledgesInvariant.{pledging, freeing}
use Rattle.sdd_domain_invariant.specs.Fractions.FractionSteps.{SeatState}
use Rattle.sdd_domain_invariant.specs.Cells.CellSteps.{put_in, brought_out, BringsOut, ClaimsCell, SwapsOne, ExchangesOne, FreesCell, FillsBare, RetagsOne, SwapsBare, IsBare, FindsCell, LooksInCell, SeesInCell, LearnsCell, OfCell}
use Rattle.sdd_domain_invariant.proofs.Cells.{bare_open, owner_open}
use Rattle.sdd_domain_invariant.proofs.Cells.CellSteps as cells
use Rattle.sdd_domain_invariant.proofs.Slots.FilledInvariant.{has_none}
use Rattle.sdd_domain_invariant.proofs.Codes.{held_which}
use Rattle.atomic_table.specs.declared.shared.Seat.{Seat}
use Rattle.sdd_shared_values.specs.declared.value_fraction.ValueFraction.{ValueFraction}
use Rattle.sdd_atomics.specs.DomainSeat.{Moved}
use Rattle.sdd_atomics.specs.Cells.{HasPledgedRight, SwapsPledged, ExchangesPledged, FreesOwn, FreesOwnBare, RecallsCell, FindsRight}

abbrev first_of : Pledge → List Pledge → Pledge
first_of p [] = p
first_of p (q ∷ qs) = q

abbrev first_right : CellRight → List CellRight → CellRight
first_right r [] = r
first_right r (q ∷ qs) = q

is_shared : CellKind → Bool
is_shared k = elim k [ Owned ↦ false | Shared ↦ true | x ↦ false ]

kind_flag : (shared : Bool) → is_shared (cell_kind shared) ≡ shared
unfolding is_shared
kind_flag true = refl
kind_flag false = refl

-- a pledge is of one right's view
one_pledge : (v : View) (cell other : ℕ) (a b : Bool) → HasPledgedRight v cell a → HasPledgedRight v other b → a ≡ b
one_pledge v cell other a b l m = let same : l.0 ≡ m.0 = ap (first_of l.0) (sym l.1 ∙ m.1) in
    let e = the_row.coded.inj (right_to cell (cell_kind a)) (right_to other (cell_kind b)) (sym l.2 ∙ (ap (λ (p : Pledge). p.view) same ∙ m.2)) in
    sym (kind_flag a) ∙ (ap (λ (u : View). is_shared (first_right (record { cell = cell; kind = cell_kind a }) u.cells.rights).kind) e ∙ kind_flag b)

-- a right that it has is to one kind of cells
one_kind : (v : View) (cell other : ℕ) (a b : Bool) → v.cells.rights ≡ record { cell = cell; kind = cell_kind a } ∷ []
    → v.cells.rights ≡ record { cell = other; kind = cell_kind b } ∷ [] → a ≡ b
one_kind v cell other a b l m = sym (kind_flag a)
    ∙ (ap (λ (rs : List CellRight). is_shared (first_right (record { cell = cell; kind = cell_kind a }) rs).kind) (sym l ∙ m) ∙ kind_flag b)

module _ (γ : ℕ) (sizes : Sizes) (slots id : ℕ) (me : SeatState) (same : me.0.sizes ≡ sizes) (gamma : me.0.fractions.gamma ≡ γ) (live : HasPlace me.0.epoch)
    (rests : me.0.fractions.moves ≡ None) (cell : ℕ) (inside : cell < sizes.cells) (i : ℕ) (is : i ≡ cell_word cell) where
  within : cell < me.0.sizes.cells
  within = let e = ap (λ (z : Sizes). z.cells) same in omega arith

  there : i ≡ cell_word cell
  there = is

  abbrev May : (ℕ → ℕ) → (ℕ → SeatState → Type 0) → Type 0
  May = Allows (DomainInvariant γ sizes) slots id me i

  as_known : (f : ℕ → ℕ) (told : ℕ → ℕ → SeatState → Type 0)
      → Allows (DomainInvariant me.0.fractions.gamma me.0.sizes) slots id me (cell_word cell) f (told (cell_word cell)) → May f (told i)
  as_known f told = subst (λ (t : ℕ × Sizes × ℕ). Allows (DomainInvariant t.0 t.1) slots id me t.2 f (told t.2)) (λ d. (gamma d, same d, sym there d))

  pub may_look_in : May (λ x. x) (OfCell LooksInCell i me)
  may_look_in = as_known (λ x. x) (λ j. OfCell LooksInCell j me) (cells.looks_in slots id me live rests cell within)

  pub may_see_in : IsOpen me.0.epoch → me.0.epoch.place < sizes.participants → May (λ x. x) (OfCell SeesInCell i me)
  may_see_in is_open near = as_known (λ x. x) (λ j. OfCell SeesInCell j me)
      (cells.sees_in slots id me live rests cell within is_open (let e = ap (λ (z : Sizes). z.participants) same in omega arith))

  module _ (y : ℕ) (owns : me.0.slots.owns ≡ held_slots y) (loose : me.0.slots.holds ≡ None) (drawn : me.0.slots.drawn ≡ []) (shared : Bool)
      (given : (r : ShownValue) → HasRecord me.0.fractions.owns r → r.shared ≡ shared) (more : 0 < y) where
    pub may_claim : May (λ x. either (eqb x 0) y x) (OfCell (ClaimsCell y (cell_kind shared)) i me)
    may_claim = as_known (λ x. either (eqb x 0) y x) (λ j. OfCell (ClaimsCell y (cell_kind shared)) j me)
        (cells.claims slots id me live rests cell within y owns loose drawn shared given (cell_kind shared) (λ k. owner_open shared k cell) more
        (λ ws counts. cells.word_counted me.0.sizes ws shared y counts))

    pub may_fill : (kind : CellKind) → IsBare kind → me.0.cells.rights ≡ record { cell = cell; kind = kind } ∷ []
        → May (λ _. y) (OfCell (FillsBare y shared) i me)
    may_fill kind bare mine = as_known (λ _. y) (λ j. OfCell (FillsBare y shared) j me)
        (cells.fills_bare slots id me live rests cell within y owns loose drawn shared given kind bare mine more)

    module _ (p : Pledge) (own : me.0.pledges.own ≡ p ∷ []) (shows : p.view ≡ the_row.coded.code (right_to cell (cell_kind shared))) where
      pub may_swap : May (λ _. y) (SwapsPledged y i me)
      may_swap = as_known (λ _. y) (λ j. SwapsPledged y j me) (λ s h long at small.
          let a = cells.swaps slots id me live rests cell within y owns loose drawn shared given p own shows more s h long at small in (
            a.0,
            a.1,
            a.2,
            a.3,
            λ other b where_is had. let e = one_pledge me.0 cell other shared b (p, own, shows) had in
                subst (λ (t : Bool). SwapsOne y t other me (get_or s.words (cell_word cell) 0) (a.0, carried_after me.1 a.1)) e (a.4 other where_is),
          ))

      pub may_exchange : (old : ℕ) → May (λ x. either (eqb x old) y x) (ExchangesPledged old y i me)
      may_exchange old = as_known (λ x. either (eqb x old) y x) (λ j. ExchangesPledged old y j me) (λ s h long at small.
          let a = cells.exchanges slots id me live rests cell within y owns loose drawn shared given p own shows more old s h long at small in (
            a.0,
            a.1,
            a.2,
            a.3,
            λ other b where_is had. let e = one_pledge me.0 cell other shared b (p, own, shows) had in
                subst (λ (t : Bool). ExchangesOne old y t other me (get_or s.words (cell_word cell) 0) (a.0, carried_after me.1 a.1)) e (a.4 other where_is),
          ))

  pub may_retag : (old y : ℕ) → held_slots y ≡ held_slots old → 0 < y → me.0.slots.holds ≡ None
      → May (λ x. either (eqb x old) y x) (OfCell (RetagsOne old y) i me)
  may_retag old y holds more loose = as_known (λ x. either (eqb x old) y x) (λ j. OfCell (RetagsOne old y) j me)
      (cells.retags slots id me live rests cell within old y holds more loose)

  module _ (y : ℕ) (none : held_slots y ≡ []) (more : 0 < y) (owns : me.0.slots.owns ≡ []) (loose : me.0.slots.holds ≡ None) (kind : CellKind) where
    pub may_claim_bare : IsBare kind → me.0.slots.drawn ≡ [] → me.0.fractions.owns ≡ [] → May (λ x. either (eqb x 0) y x) (OfCell (ClaimsCell y kind) i me)
    may_claim_bare bare drawn told = as_known (λ x. either (eqb x 0) y x) (λ j. OfCell (ClaimsCell y kind) j me)
        (cells.claims slots id me live rests cell within y (owns ∙ sym none) loose drawn false (λ r has. absurd (has_none r me.0.fractions.owns told has)) kind
        (λ k. bare_open kind bare k cell) more
        (λ ws _. cells.fits_any me.0.sizes ws kind y none))

    pub may_swap_bare : IsBare kind → (p : Pledge) → me.0.pledges.own ≡ p ∷ [] → p.view ≡ the_row.coded.code (right_to cell kind)
        → May (λ _. y) (OfCell (SwapsBare y) i me)
    may_swap_bare bare p own shows = as_known (λ _. y) (λ j. OfCell (SwapsBare y) j me)
        (cells.swaps_bare slots id me live rests cell within kind p own shows y none more owns loose bare)

  pub may_free : me.0.slots.owns ≡ [] → me.0.slots.holds ≡ None → me.0.slots.drawn ≡ [] → me.0.fractions.owns ≡ [] → (shared : Bool)
      → me.0.cells.rights ≡ record { cell = cell; kind = cell_kind shared } ∷ [] → May (λ _. 0) (FreesOwn i me)
  may_free owns loose drawn none shared mine = as_known (λ _. 0) (λ j. FreesOwn j me) (λ s h long at small.
      let a = cells.frees slots id me live rests cell within owns loose drawn shared (λ r has. has_none r me.0.fractions.owns none has) mine s h long at small
      in (
        a.0,
        a.1,
        a.2,
        a.3,
        λ other b where_is had. let e = one_kind me.0 cell other shared b mine had in
            subst (λ (t : Bool). FreesCell t other me (get_or s.words (cell_word cell) 0) (a.0, carried_after me.1 a.1)) e
            (a.4 other where_is),
      ))

  pub may_free_bare : me.0.slots.owns ≡ [] → me.0.slots.holds ≡ None → me.0.slots.drawn ≡ [] → me.0.fractions.owns ≡ []
      → (kind : CellKind) → IsBare kind → me.0.cells.rights ≡ record { cell = cell; kind = kind } ∷ [] → May (λ _. 0) (FreesOwnBare i me)
  may_free_bare owns loose drawn none kind bare mine = as_known (λ _. 0) (λ j. FreesOwnBare j me) (λ s h long at small.
      let a = cells.frees_bare slots id me live rests cell within owns loose drawn kind bare (λ r has. has_none r me.0.fractions.owns none has) mine s h long
      at small in (
        a.0,
        a.1,
        a.2,
        a.3,
        λ other where_is. a.4 other where_is,
      ))

-- beside the right to a cell
pub may_recall_cell : (γ : ℕ) (sizes : Sizes) (slots id : ℕ) (me : SeatState) → me.0.sizes ≡ sizes → me.0.fractions.gamma ≡ γ → HasPlace me.0.epoch
    → me.0.fractions.moves ≡ None → (cell : ℕ) (shared : Bool) (jd : ℕ)
    → AllowsBeside (DomainInvariant γ sizes) slots id me jd (right_to cell (cell_kind shared)) (RecallsCell (right_to cell (cell_kind shared)) me)
may_recall_cell γ sizes slots id me same gamma live rests cell shared jd =
    subst (λ (t : ℕ × Sizes). AllowsBeside (DomainInvariant t.0 t.1) slots id me jd (right_to cell (cell_kind shared))
    (RecallsCell (right_to cell (cell_kind shared)) me)) (λ d. (gamma d, same d)) (λ s h long at there.
    let a = cells.recalls slots id me live rests jd cell shared s h long at there in (
      a.0,
      a.1,
      a.2,
      a.3,
      λ other b e. let first : CellRight = record { cell = cell; kind = cell_kind shared } in
          let is : first ≡ record { cell = other; kind = cell_kind b } = ap (λ (u : View). first_right first u.cells.rights) e in
          let which = ap (λ (r : CellRight). r.cell) is in
          let flag = sym (kind_flag shared) ∙ (ap (λ (r : CellRight). is_shared r.kind) is ∙ kind_flag b) in
          subst (λ (t : ℕ × Bool). LearnsCell t.0 t.1 me (a.0, carried_after me.1 a.1)) (λ d. (which d, flag d)) a.4,
    ))

-- what the pledge makes possible, and what it leaves
module _ (me : SeatState) (p : Pledge) (y : ℕ) (shared : Bool) (cell : ℕ) where
  abbrev with_pledge : SeatState
  with_pledge = (pledging me.0 p, me.1)

  brings_stays : (n : ℕ) (u : SeatState) → BringsOut y shared cell with_pledge n u → u.0.pledges.own ≡ p ∷ []
  brings_stays n u b = ⊎_elim (λ (c : (slot : ℕ) × (held_slots n ≡ slot ∷ [])). ap (λ (m : SeatState). m.0.pledges.own) (b.1 c.0 c.1).3)
      (λ (none : held_slots n ≡ []). ap (λ (m : SeatState). m.0.pledges.own) (b.0 none)) (held_which n)

  brings_freed : me.0.pledges.own ≡ [] → (n : ℕ) (u after : SeatState) → BringsOut y shared cell with_pledge n u → after ≡ (freeing u.0, u.1)
      → BringsOut y shared cell me n after
  brings_freed bare n u after b freed = let free : SeatState → SeatState = λ m. (freeing m.0, m.1) in
      let as_was : List Pledge → View = λ l. record me.0 { pledges = record me.0.pledges { own = l } } in (
        (λ none. freed ∙ (ap free (b.0 none) ∙ ap (λ (l : List Pledge). (put_in cell y (as_was l), me.1)) (sym bare))),
        λ slot one. let c = b.1 slot one in (
          c.0,
          c.1,
          c.2,
          freed ∙ (ap free c.3 ∙ ap (λ (l : List Pledge). (brought_out cell y slot shared c.0 (as_was l), me.1)) (sym bare)),
          λ lone. let k = c.4 lone in record { newest = k.newest; alive = k.alive; kind = k.kind },
        ),
      )

  module _ (is : p.view ≡ the_row.coded.code (right_to cell (cell_kind shared))) (i : ℕ) (where_is : i ≡ cell_word cell) where
    pub swap_stays : (n : ℕ) (u : SeatState) → SwapsPledged y i with_pledge n u → u.0.pledges.own ≡ p ∷ []
    swap_stays n u done = brings_stays n u (done cell shared where_is (p, refl, is)).0

    pub swapped : me.0.pledges.own ≡ [] → (n : ℕ) (u after : SeatState) → SwapsPledged y i with_pledge n u → after ≡ (freeing u.0, u.1)
        → SwapsOne y shared cell me n after
    swapped bare n u after done freed = let d = done cell shared where_is (p, refl, is) in (brings_freed bare n u after d.0 freed, d.1)

    pub exchange_stays : (old n : ℕ) (u : SeatState) → ExchangesPledged old y i with_pledge n u → u.0.pledges.own ≡ p ∷ []
    exchange_stays old n u done = let d = done cell shared where_is (p, refl, is) in dite (ℕ_discrete n old) (λ e. brings_stays n u (d.0 e))
        (λ ne. ap (λ (m : SeatState). m.0.pledges.own) (d.1 ne))

    pub exchanged_then : me.0.pledges.own ≡ [] → (old n : ℕ) (u after : SeatState) → ExchangesPledged old y i with_pledge n u → after ≡ (freeing u.0, u.1)
        → ExchangesOne old y shared cell me n after
    exchanged_then bare old n u after done freed = let d = done cell shared where_is (p, refl, is) in (
      (λ e. brings_freed bare n u after (d.0 e) freed),
      (λ ne. freed ∙ (ap (λ (m : SeatState). (freeing m.0, m.1)) (d.1 ne)
          ∙ ap (λ (l : List Pledge). (record me.0 { pledges = record me.0.pledges { own = l } }, me.1)) (sym bare))),
      d.2,
    )

-- the same of a cell that holds no owners
module _ (me : SeatState) (p : Pledge) (y cell i : ℕ) (where_is : i ≡ cell_word cell) where
  abbrev pledged : SeatState
  pledged = (pledging me.0 p, me.1)

  pub bare_stays : (n : ℕ) (u : SeatState) → OfCell (SwapsBare y) i pledged n u → u.0.pledges.own ≡ p ∷ []
  bare_stays n u done = ap (λ (m : SeatState). m.0.pledges.own) (done cell where_is).0

  pub bare_swapped : me.0.pledges.own ≡ [] → (n : ℕ) (u after : SeatState) → OfCell (SwapsBare y) i pledged n u → after ≡ (freeing u.0, u.1)
      → SwapsBare y cell me n after
  bare_swapped bare n u after done freed = let d = done cell where_is in (
    freed ∙ (ap (λ (m : SeatState). (freeing m.0, m.1)) d.0
        ∙ ap (λ (l : List Pledge). (noting cell y (record me.0 { pledges = record me.0.pledges { own = l } }), me.1)) (sym bare)),
    d.1,
    d.2,
  )

-- the seat after a step on a cell
pub cell_moved : (s t : Seat ValueFraction View) (r : ℕ) → t.table_id ≡ s.table_id → t.id ≡ s.id → (R : ℕ → SeatState → ℕ → SeatState → Type 0) (i cell : ℕ)
    (sizes : Sizes) → i ≡ cell_word cell → s.me.0.sizes ≡ sizes → OfCell R i s.me r t.me → Moved (R cell) s r t
cell_moved s t r home number R i cell sizes is same e = (home, number, e cell (is))

pub may_find_cell : (γ : ℕ) (sizes : Sizes) (slots id : ℕ) (me : SeatState) → me.0.sizes ≡ sizes → me.0.fractions.gamma ≡ γ → HasPlace me.0.epoch
    → me.0.fractions.moves ≡ None → (cell : ℕ) (kind : CellKind) (jd : ℕ)
    → AllowsBeside (DomainInvariant γ sizes) slots id me jd (right_to cell kind) (FindsRight (right_to cell kind) me)
may_find_cell γ sizes slots id me same gamma live rests cell kind jd =
    subst (λ (t : ℕ × Sizes). AllowsBeside (DomainInvariant t.0 t.1) slots id me jd (right_to cell kind)
    (FindsRight (right_to cell kind) me)) (λ d. (gamma d, same d)) (λ s h long at there.
    let a = cells.finds_cell slots id me live rests jd cell kind s h long at there in (
      a.0,
      a.1,
      a.2,
      a.3,
      λ other k e. let first : CellRight = record { cell = cell; kind = kind } in
          let is : first ≡ record { cell = other; kind = k } = ap (λ (u : View). first_right first u.cells.rights) e in
          subst (λ (t : ℕ). FindsCell t me (a.0, carried_after me.1 a.1)) (ap (λ (r : CellRight). r.cell) is) a.4,
    ))
