-- The steps on cells keep the whole invariant.
use Rattle.std.proofs.Common.{◌≡◌, ◌≢◌, ◌⊎◌, inl, inr, ℕ, ◌+◌, ◌<◌, ◌≤◌, Bool, true, false, eqb, List, [], ◌∷◌, length, get_or, set, sym, refl, ap, ◌∙◌, subst, ⊎_elim, arith, length-set, get_or-set_other, get_or-set_same}
use Rattle.std.specs.Prelude.{Some, None}
use mathlib.Core.Option.{none as absent, some}
use mathlib.Core.Logic.{dite}
use native.Mathlib.Decide.{ℕ_discrete, dec_lt}
use lib.ListN.{get_elem?}
use lib.Seq.{set-get_or}
use prog.Atomic.{either}
use base.Stored.{Gv}
use Rattle.atomic_table.specs.Table.{State, keeps, takes}
use Rattle.atomic_table.proofs.Lists.{at_map, at_set, set_again, exchanged}
use Rattle.sdd_witness.specs.Steps.{AllowsBeside}
use Rattle.sdd_domain_invariant.proofs.Slots.LoneInvariant.{finds, finds_word}
use Rattle.sdd_witness.specs.Ledger.{Pledge}
use Rattle.sdd_rights.specs.Owner.{cell_kind}
use Rattle.sdd_shared_values.specs.SharedValues.{IsValueCode}
use Rattle.sdd_shared_values.specs.declared.value_fraction.ValueFraction.{ValueFraction}
use Rattle.sdd_rights.specs.declared.views.CellKind.{CellKind}
use Rattle.sdd_rights.specs.declared.views.CellKind.TheVariants.{Owned, Shared, Raw, Collector}
use Rattle.sdd_rights.specs.declared.views.CellRight.{CellRight}
use Rattle.sdd_rights.specs.declared.views.CellsView.{CellsView}
use Rattle.sdd_rights.specs.declared.views.ShownValue.{ShownValue}
use Rattle.sdd_rights.specs.contracts.views.View.{the_row}
use Rattle.sdd_rights.specs.declared.views.View.{View}
use Rattle.sdd_rights.specs.declared.views.Sizes.{Sizes}
use Rattle.sdd_rights.specs.Views.{no_rights, owner_of, right_to}
use Rattle.sdd_domain_invariant.specs.Words.{cell_word, slot_word, words_behind}
use Rattle.sdd_domain_invariant.specs.Codes.{codes, alive, valued, counted, names, held_slots}
use Rattle.sdd_domain_invariant.specs.Epoch.{HasPlace, IsOpen}
use Rattle.sdd_domain_invariant.specs.Sums.{times, total}
use Rattle.sdd_domain_invariant.specs.Slots.{slot_at, items_at, Owns}
use Rattle.sdd_domain_invariant.specs.Cells.CellWordSteps.{coming, noting, cell_noted, SwapsCell, ExchangesCell, RetagsCell, LooksAtCell, SeesCell, AtCell}
use Rattle.sdd_domain_invariant.specs.WordInvariant.{epoch_of}
use Rattle.sdd_domain_invariant.proofs.Codes.{sound, counts_or_not, held_in, held_which, holds_none}
use Rattle.sdd_domain_invariant.proofs.Cells.CellWordSteps as words
use Rattle.sdd_domain_invariant.proofs.Frame.{each_set}
use Rattle.sdd_domain_invariant.proofs.Sums.{is_same, is_other, total_set, total_has, total_two}
use Rattle.sdd_domain_invariant.specs.Fractions.FractionsAtHome.{fraction_at, full_at, Has, Moves, FractionsInvariant}
use Rattle.sdd_domain_invariant.specs.Fractions.BankInvariant.{one_where}
use Rattle.sdd_domain_invariant.specs.Cells.CellsInvariant.{cell_at, IsInCell, is_right, rights_at, HasRight, IsWordOf, IsTaken, HavePointers, closes_by, is_closing_right, CellsInvariant}
use Rattle.sdd_domain_invariant.specs.Slots.Records.{IsIn, IsKnown, IsTelling}
use Rattle.sdd_domain_invariant.specs.Slots.FilledInvariant.{newest, HasRecord}
use Rattle.sdd_domain_invariant.specs.Fractions.LastFractions.{IsRaw, IsStored, HidesItem, LastIs}
use Rattle.sdd_domain_invariant.specs.Fractions.PledgesInvariant.{IsOfOwner, IsOfCell}
use Rattle.sdd_domain_invariant.specs.Slots.KindsInvariant.{KnowsKinds, KindsInvariant}
use Rattle.sdd_domain_invariant.specs.DomainInvariant.{DomainInvariant}
use Rattle.sdd_domain_invariant.specs.Fractions.FractionSteps.{SeatState, IsNewest, IsRecalled, IsValue, SeesOwned, sighting}
use Rattle.sdd_domain_invariant.specs.Cells.CellSteps.{put_in, brought_out, KnewStored, BringsOut, SwapsOne, ExchangesOne, ClaimsCell, FreesCell, FillsBare, SwapsBare, RetagsOne, FreesBare, IsBare, FindsCell, LooksInCell, SeesInCell, LearnsCell, OfCell}
use Rattle.sdd_domain_invariant.proofs.Fractions.FractionsInvariant.{none_out, only_seen, one_taken}
use Rattle.sdd_domain_invariant.proofs.Fractions.FractionsInvariant as part
use Rattle.sdd_domain_invariant.proofs.Banks as banks
use Rattle.sdd_domain_invariant.proofs.Cells.{in_cell_alive, in_cell_beside, KeepsClosing, bare_open, owner_open, closes_alike, one_right, no_right, closers, cell_is_free, first_or, one_flag, words_same}
use Rattle.sdd_domain_invariant.proofs.Counts.{as_full, ended_spared, uncounted}
use Rattle.sdd_domain_invariant.proofs.Slots.Records.{in_head, in_tail, in_either, in_none, known_by, told_seen}
use Rattle.sdd_domain_invariant.proofs.Slots.Records as records
use Rattle.sdd_domain_invariant.proofs.Slots.FilledInvariant.{has_none, filled_learned}
use Rattle.sdd_domain_invariant.proofs.Slots.RecordSteps.{none_moved}
use Rattle.sdd_domain_invariant.proofs.Fractions.LastFractions.{AllKnow, NoMoreStored, stored_same, lasts_out, lasts_fewer}
use Rattle.sdd_domain_invariant.proofs.TableSteps.{Keeps, Follows, keeps_ended, lift_homes}
use Rattle.sdd_domain_invariant.proofs.Slots.KindSteps.{has_first, knows_still, same_within, bound_kept, pledges_spent, no_participants}
use Rattle.sdd_domain_invariant.proofs.Slots.KindSteps as kind_steps
use Rattle.sdd_domain_invariant.proofs.Raw.RawSteps as raws
use Rattle.sdd_domain_invariant.proofs.Fractions.FractionSteps.{not_emptied}
use Rattle.sdd_domain_invariant.proofs.Fractions.FractionSteps as steps
use Rattle.sdd_domain_invariant.specs.Collectors.{one_in, Empties}
use Rattle.sdd_domain_invariant.proofs.Collectors.{plain_alive}

-- whether a word counts its slot's owners
flag_of : (x : ℕ) → (shared : Bool) × (counted x ≡ one_where shared)
flag_of x = ⊎_elim (λ (e : counted x ≡ 1). let b : (shared : Bool) × (counted x ≡ one_where shared) = (true, e) in b)
    (λ (e : counted x ≡ 0). (false, e)) (counts_or_not x)

-- one slot in a list of one
one_named : (i slot : ℕ) → 0 < times i (slot ∷ []) → slot ≡ i
one_named i slot more = dite (ℕ_discrete slot i) (λ e. e) (λ ne. absurd (let o = is_other i slot ne in omega arith))

only_record : (r : ShownValue) (i : ℕ) (g : Gv) → IsIn (r ∷ []) i g → (r.slot ≡ i) × (r.value ≡ g)
only_record r i g a = ⊎_elim (λ (e : (r.slot ≡ i) × (r.value ≡ g)). e) (λ (b : IsIn [] i g). absurd (in_none i g b)) (in_either r [] i g a)

abbrev first_of : ℕ → List ℕ → ℕ
first_of k [] = k
first_of k (m ∷ ms) = m

abbrev first_right : CellRight → List CellRight → CellRight
first_right r [] = r
first_right r (q ∷ qs) = q

-- where slots' words stay a word that names what another one does is of the kind that that is
word_renamed : (sizes : Sizes) (ws ws' : List ℕ) → ((j : ℕ) → slot_at sizes ws' j ≡ slot_at sizes ws j) → (kind : CellKind) (x x' : ℕ)
    → ((i : ℕ) → names i x' ≡ names i x) → IsWordOf sizes ws kind x → IsWordOf sizes ws' kind x'
word_renamed sizes ws ws' same Owned x x' e w = λ i n. let q = e i in ap counted (same i) ∙ w i (omega arith)
word_renamed sizes ws ws' same Shared x x' e w = λ i n. let q = e i in ap counted (same i) ∙ w i (omega arith)
word_renamed sizes ws ws' same Raw x x' e w = λ i. e i ∙ w i
word_renamed sizes ws ws' same Collector x x' e w = λ i. e i ∙ w i

-- and so is the same word
word_moves : (sizes : Sizes) (ws ws' : List ℕ) → ((j : ℕ) → slot_at sizes ws' j ≡ slot_at sizes ws j) → (kind : CellKind) (x x' : ℕ) → x' ≡ x
    → IsWordOf sizes ws kind x → IsWordOf sizes ws' kind x'
word_moves sizes ws ws' same kind x x' e = word_renamed sizes ws ws' same kind x x' (λ i. ap (names i) e)

pub word_counted : (sizes : Sizes) (ws : List ℕ) (shared : Bool) (x : ℕ) → ((i : ℕ) → 0 < names i x → counted (slot_at sizes ws i) ≡ one_where shared)
    → IsWordOf sizes ws (cell_kind shared) x
word_counted sizes ws true x w = w
word_counted sizes ws false x w = w

counted_word : (sizes : Sizes) (ws : List ℕ) (shared : Bool) (x : ℕ) → IsWordOf sizes ws (cell_kind shared) x → (i : ℕ) → 0 < names i x
    → counted (slot_at sizes ws i) ≡ one_where shared
counted_word sizes ws true x w = w
counted_word sizes ws false x w = w

names_nothing : (sizes : Sizes) (ws : List ℕ) (kind : CellKind) → IsBare kind → (x : ℕ) → IsWordOf sizes ws kind x → (i : ℕ) → names i x ≡ 0
names_nothing sizes ws Owned bare x w i = absurd bare
names_nothing sizes ws Shared bare x w i = absurd bare
names_nothing sizes ws Raw bare x w i = w i
names_nothing sizes ws Collector bare x w i = absurd bare

-- a word of such a kind holds no owner, and so it fits any cell
holds_nothing : (sizes : Sizes) (ws : List ℕ) (kind : CellKind) → IsBare kind → (x : ℕ) → IsWordOf sizes ws kind x → held_slots x ≡ []
holds_nothing sizes ws kind bare x w = ⊎_elim
    (λ (one : (slot : ℕ) × (held_slots x ≡ slot ∷ [])). let no = names_nothing sizes ws kind bare x w one.0 in
    let e = held_in x one.0 in let o = ap (times one.0) one.1 in let l = is_same one.0 one.0 refl in absurd (omega arith))
    (λ (e : held_slots x ≡ []). e) (held_which x)

names_none : (x : ℕ) → held_slots x ≡ [] → (i : ℕ) → names i x ≡ 0
names_none x none i = let e = held_in x i in let o = ap (times i) none in omega arith

pub fits_any : (sizes : Sizes) (ws : List ℕ) (kind : CellKind) (x : ℕ) → held_slots x ≡ [] → IsWordOf sizes ws kind x
fits_any sizes ws Owned x none = λ i n. absurd (let z = names_none x none i in omega arith)
fits_any sizes ws Shared x none = λ i n. absurd (let z = names_none x none i in omega arith)
fits_any sizes ws Raw x none = names_none x none
fits_any sizes ws Collector x none = names_none x none

-- the seat that has this right, of whose view a share is pledged; no participant has that view
pub record RightBeside (vs : List View) (p : Pledge) (r : CellRight) : Type 0 where
  pub owner : View
  pub there : get_elem? vs p.seat ≡ some owner
  pub has : HasRight owner r
  pub nobodys : owner.sizes.participants ≡ 0

pub right_beside : (vs : List View) (p : Pledge) (cell : ℕ) (kind : CellKind) → p.view ≡ the_row.coded.code (right_to cell kind)
    → IsOfOwner vs p ⊎ IsOfCell vs p → RightBeside vs p (record { cell = cell; kind = kind })
right_beside vs p cell kind is beside = let the_right : CellRight = record { cell = cell; kind = kind } in ⊎_elim
    (λ (o : IsOfOwner vs p). let e = the_row.coded.inj (right_to cell kind) (owner_of o.slot true o.value) (sym is ∙ o.view) in
    let c : ◌≡◌ {A = List ℕ} [] (o.slot ∷ []) = ap (λ (u : View). u.slots.owns) e in cc)
    (λ (o : IsOfCell vs p). let e = the_row.coded.inj (right_to cell kind) (right_to o.right.cell o.right.kind) (sym is ∙ o.view) in record {
      owner = o.owner;
      there = o.there;
      has = subst (HasRight o.owner) (sym (ap (λ (u : View). first_right the_right u.cells.rights) e)) o.has;
      nobodys = o.nobodys;
    }) beside

-- it has no owner, or one, with its record
module _ (m : ℕ) (v : View) (t : IsTelling m v) (cell y : ℕ) (rights : CellsView) (rests : v.fractions.moves ≡ None) where
  put_tells : IsTelling m (record (put_in cell y v) { cells = rights })
  put_tells = record {
    owns = λ i g a. absurd (in_none i g a);
    owned = λ i o. absurd (omega arith);
    sees = t.sees;
    waits = t.waits;
    waiting = t.waiting;
    inside = λ i g k. ⊎_elim (λ (a : IsIn [] i g). absurd (in_none i g a)) (λ b. t.inside i g (inr b)) k;
  }

  brought_tells : (slot : ℕ) → slot < m → (shared : Bool) (value : Gv) → IsTelling m (record (brought_out cell y slot shared value v) { cells = rights })
  brought_tells slot low shared value = let r : ShownValue = record { slot = slot; shared = shared; value = value } in
      let w : View = brought_out cell y slot shared value v in record {
        owns = λ i g a. let e = only_record r i g a in (let o = is_same i slot e.0 in let l : Owns w i = omega arith in l, none_moved w i rests);
        owned = λ i o still. (value, in_head r [] i value (one_named i slot o) refl);
        sees = t.sees;
        waits = t.waits;
        waiting = t.waiting;
        inside = λ i g k. ⊎_elim (λ (a : IsIn (r ∷ []) i g). let e = (only_record r i g a).0 in omega arith) (λ b. t.inside i g (inr b)) k;
      }

module _ (slots id : ℕ) (me : SeatState) (live : HasPlace me.0.epoch) (rests : me.0.fractions.moves ≡ None) where
  abbrev v : View
  v = me.0

  abbrev γ : ℕ
  γ = me.0.fractions.gamma

  abbrev sizes : Sizes
  sizes = me.0.sizes

  abbrev n : ℕ
  n = me.0.sizes.participants

  abbrev May : ℕ → (ℕ → ℕ) → (ℕ → SeatState → Type 0) → Type 0
  May = steps.May slots id me live

  module _ (cell : ℕ) (inside : cell < sizes.cells) where
    abbrev i : ℕ
    i = cell_word cell

    at_once : (R : ℕ → SeatState → ℕ → SeatState → Type 0) (x : ℕ) (me' : SeatState) → R cell me x me' → OfCell R i me x me'
    at_once R x me' r other is = let same : cell ≡ other = omega arith in subst (λ (k : ℕ). R k me x me') same r

    -- a cell's word is none of a place's
    spares : (f : ℕ → ℕ) (then : ℕ → View → Type 0) → ((r : ℕ) (w : View) → then r w → w.places ≡ v.places) → Keeps γ sizes slots id me i f then
    spares f then places = keeps_ended γ sizes slots id me i f then places (λ s h at p low e was. absurd (omega arith)) (inl live)

    -- what comes out doesn't change the rights that it has
    brings_same : (y : ℕ) (shared : Bool) (x : ℕ) (m : SeatState) → BringsOut y shared cell me x m
        → BringsOut y shared cell me x (record m.0 { cells = v.cells }, m.1)
    brings_same y shared x m brings = (
      (λ none. ap (λ (k : SeatState). (record k.0 { cells = v.cells }, k.1)) (brings.0 none)),
      λ slot one. let b = brings.1 slot one in
          (b.0, b.1, b.2, ap (λ (k : SeatState). (record k.0 { cells = v.cells }, k.1)) b.3, b.4),
    )

    module _ (s : State ValueFraction View) (h : DomainInvariant γ sizes s) where
      within : i < length s.words
      within = let l = h.kept.parts.slots.long in omega arith

      -- the words of slots stay, and of other cells
      module _ (y : ℕ) where
        abbrev after : List ℕ
        after = set s.words i y

        slots_stay : (j : ℕ) → slot_at sizes after j ≡ slot_at sizes s.words j
        slots_stay j = get_or-set_other s.words i (slot_word sizes j) y 0 (λ e. omega arith)

        full_stay : (j : ℕ) → j < sizes.slots → full_at sizes after j ≡ full_at sizes s.words j
        full_stay j _ = ap valued (slots_stay j)

        here : cell_at sizes after cell ≡ y
        here = get_or-set_same s.words i y 0 within

        there : (d : ℕ) → d ≢ cell → cell_at sizes after d ≡ cell_at sizes s.words d
        there d ne = get_or-set_other s.words i (cell_word d) y 0 (λ e. ne (omega arith))

        pointers_stay : HavePointers sizes after
        pointers_stay d low = let e = there (sizes.cells + d) (λ e. omega arith) in let o = h.kinds.cells.pointers d low in omega arith

      -- whoever has the right to the cell, its word is of this kind
      abbrev IsOfKind : Bool → Type 0
      IsOfKind shared = (j : ℕ) → 0 < names j (cell_at sizes s.words cell) → counted (slot_at sizes s.words j) ≡ one_where shared

      module _ (at : get_elem? s.views id ≡ some v) where
        -- nobody moves the value of an item whose owner is in the cell
        still : (slot : ℕ) → 0 < names slot (cell_at sizes s.words cell) → (j : ℕ) (u : View) → get_elem? s.views j ≡ some u → ¬ (Moves u slot)
        still slot named j u e m = let c : IsInCell sizes s.words slot = (cell, inside, named) in
            let alive_now = in_cell_alive sizes s.words s.views h.kept.parts.slots slot c in ⊎_elim
            (λ (o : Owns u slot). let one = (h.kinds.each j u e).sole slot m o in
            let b = in_cell_beside sizes s.words s.views h.kept.parts.slots slot c j u e in absurd (omega arith))
            (λ (r : (0 < items_at slot u) ⊎ Empties u slot). ⊎_elim
            (λ (o : 0 < items_at slot u). let t = total_has (items_at slot) s.views j u e in let w = h.kept.parts.slots.waited slot in
            let quiet = (sound.lives (slot_at sizes s.words slot) alive_now).0 in absurd (omega arith))
            (λ (o : Empties u slot). not_emptied γ sizes s h slot j u e (plain_alive codes sound (slot_at sizes s.words slot) alive_now).1 o) r)
            (h.homes.moving j u e slot m).1

        -- what a lone participant knows of an item whose owner is in the cell
        stored_known : sizes.participants ≡ 1 → (slot : ℕ) (shared : Bool) (value : Gv) → IsNewest slot shared value v
            → 0 < names slot (cell_at sizes s.words cell) → counted (slot_at sizes s.words slot) ≡ one_where shared → IsRecalled slot shared value v
        stored_known one slot shared value newest named kind = let word = finds sizes s.words s.views h.kept.parts.lone id v at one live slot in record {
          newest = newest;
          alive = subst (λ (y : ℕ). 0 < alive y) word (in_cell_alive sizes s.words s.views h.kept.parts.slots slot (cell, inside, named));
          kind = sym (ap counted word) ∙ kind;
        }

        -- one with a place isn't a seat of owners alone
        placed : 0 < v.sizes.participants
        placed = let near = (h.kept.parts.epoch.each id v.epoch (at_map epoch_of s.views id v at)).inside live in omega arith

        -- what is known of kinds, where it has these rights
        kinds_then : (y : ℕ) (w : View) → w.words ≡ cell_noted cell y v → w.fractions.moves ≡ None → w.slots.over ≡ v.slots.over → w.pledges ≡ v.pledges
            → (HasPlace v.epoch → HasPlace w.epoch) → w.sizes ≡ v.sizes
            → ((r : ShownValue) → HasRecord w.fractions.owns r → counted (slot_at sizes s.words r.slot) ≡ one_where r.shared)
            → CellsInvariant sizes (after y) (set s.views id w) → KindsInvariant sizes (after y) (set s.views id w)
        kinds_then y w words_are still_now over pledges lives of tells cells = record {
          each = each_set (KnowsKinds sizes s.words) (KnowsKinds sizes (after y)) s.views id w
              record {
                long = ap length words_are ∙ (length-set v.words cell y ∙ ((h.kinds.each id v at).long ∙ ap words_behind (sym of)));
                sole = λ j m. absurd (none_moved w j still_now m);
                claimed = λ j m. absurd (none_moved w j still_now m);
                told = λ r a _. ap counted (slots_stay y r.slot) ∙ tells r a;
              }
              (λ j u apart e. knows_still sizes s.words (after y) u (h.kinds.each j u e) (h.records.each j u e) (λ k. inl (slots_stay y k)));
          bound = bound_kept sizes s.words s.views h.kinds.bound id v at (after y) w
              (λ k. same_within (slot_at sizes s.words k) (slot_at sizes (after y) k) (slots_stay y k)) over (inl lives);
          pledges = pledges_spent s.views h.kinds.pledges id v w at pledges (no_participants s.views h.kinds.pledges id v at placed);
          cells = cells;
        }

        -- what it has goes into the cell, whose word is y then
        module _ (y : ℕ) (owns : v.slots.owns ≡ held_slots y) (loose : v.slots.holds ≡ None) (undrawn : v.slots.drawn ≡ []) (shared : Bool)
            (given : (r : ShownValue) → HasRecord v.fractions.owns r → r.shared ≡ shared) where
          -- it has a record of the owner that y names
          named_record : (j : ℕ) → 0 < names j y → (r : ShownValue) × HasRecord v.fractions.owns r × (r.slot ≡ j) × IsKnown s.views j r.value
          named_record j named = let e = held_in y j in let o = ap (times j) owns in let own : Owns v j = omega arith in
              let b = ((h.records.each id v at).owned j own (none_moved v j rests)).1 in
              (b.1, (b.0, b.2), b.3, records.mine sizes s.views s.homes h.records id v at j b.1.value (inl (b.0, b.1, b.2, b.3, refl)))

          -- its owners are counted or not, as it tells
          told_kind : (j : ℕ) → 0 < names j y → counted (slot_at sizes s.words j) ≡ one_where shared
          told_kind j named = let r = named_record j named in ap (λ (k : ℕ). counted (slot_at sizes s.words k)) (sym r.2)
              ∙ ((h.kinds.each id v at).told r.0 r.1 (λ o. let c : None ≡ Some r.0.slot = sym loose ∙ o in cc) ∙ ap one_where (given r.0 r.1))

          -- what is stored then was so before, or was known
          stored_then : (j : ℕ) (kind : Bool) → j < sizes.slots → IsStored sizes (after y) j kind
              → IsStored sizes s.words j kind ⊎ AllKnow sizes s.words s.views s.homes h.lasts id v at j kind
          stored_then j kind near is = ⊎_elim
              (λ (a : IsRaw sizes (after y) j × (kind ≡ false)). inl (inl (sym (slots_stay y j) ∙ a.0, a.1)))
              (λ (b : IsInCell sizes (after y) j × (counted (slot_at sizes (after y) j) ≡ one_where kind)). let c = b.0 in let n' = c.2 in
              let was : counted (slot_at sizes s.words j) ≡ one_where kind = sym (ap counted (slots_stay y j)) ∙ b.1 in dite (ℕ_discrete c.0 cell)
              (λ e. let q = ap (names j) (ap (cell_at sizes (after y)) e ∙ here y) in let named : 0 < names j y = omega arith in
              let r = named_record j named in let flag : kind ≡ shared = one_flag kind shared (sym was ∙ told_kind j named) in
              inr (λ one m u e' live z last. let shows : r.0.value ≡ z.content.shown = sym (h.records.home j n r.0.value z near (omega arith) r.3 last) in
              let flags : r.0.shared ≡ kind = given r.0 r.1 ∙ sym flag in
              ap (λ (k : ℕ). newest k u.fractions.filled) (sym r.2) ∙ (h.filled.knows one m id u v r.0 e' live at (inl r.1)
              ∙ (λ d. Some (record { slot = r.2 d; shared = flags d; value = shows d })))))
              (λ ne. let q = ap (names j) (there y c.0 ne) in inl (inr ((c.0, c.1, (omega arith)), was)))) is

          -- the cell held none
          follows_none : (told : ℕ → SeatState → Type 0) (rights : CellsView) → held_slots (cell_at sizes s.words cell) ≡ []
              → CellsInvariant sizes (after y) (set s.views id (record (put_in cell y v) { cells = rights }))
              → told (cell_at sizes s.words cell) (record (put_in cell y v) { cells = rights }, me.1)
              → Follows γ sizes id i me told s y (coming cell (cell_at sizes s.words cell) y rights v)
          follows_none told rights none cells tells = let now : View = record (put_in cell y v) { cells = rights } in
              let mine = records.mine sizes s.views s.homes h.records id v at in
              subst (Follows γ sizes id i me told s y)
              (λ d. record v { slots = record v.slots { owns = sym none d }; cells = rights; words = cell_noted cell y v }) record {
                fractions = now.fractions;
                act = keeps;
                valid = tt;
                homes = part.calm γ sizes s.words s.views s.homes h.homes id v at (after y) now (λ j p out. out) (full_stay y) (none_out now rests);
                records = records.no_more sizes s.views s.homes h.records id v at now (λ b. h.records.deposits id v at b) s.homes
                    (put_tells sizes.slots v (h.records.each id v at) cell y rights rests)
                    (λ j g k. known_by now j g (λ a. absurd (in_none j g a)) (λ a. mine j g (inr (inl a))) (λ a. mine j g (inr (inr a))) k)
                    (λ j p z _ _ lies. inl lies) (λ j m. m) (λ j a. a);
                counts = uncounted sizes s.words s.views h.counts id v at (after y) now refl (λ l. l) (as_full sizes s.words (after y) (full_stay y))
                    (ended_spared sizes s.words i y (λ p low e was. absurd (omega arith)) n (omega arith));
                filled = steps.filled_by slots id me live s h at now refl
                    (steps.tells_old_by slots id me live s h at now (λ r a. absurd (has_none r [] refl a)) (λ r a. inr a));
                bank = banks.calm γ sizes s.words s.views h.bank id v at (after y) now
                    record { bank = refl; founds = refl; gamma = refl; banked = refl; drawn = refl } refl
                    (λ k. let z = ap (times k) undrawn in omega arith) (full_stay y);
                lasts = lasts_out sizes s.words s.views s.homes h.lasts id v at (after y) now (λ b. (b, refl)) refl (λ l. l) stored_then
                    (λ j near is. inl (subst HidesItem (slots_stay y j) is));
                kinds = kinds_then y now refl rests refl refl (λ l. l) refl (λ r a. absurd (has_none r [] refl a)) cells;
                tells = tells;
              }

          -- it held one, which comes out
          module _ (slot : ℕ) (one : held_slots (cell_at sizes s.words cell) ≡ slot ∷ []) (kind : IsOfKind shared) where
            named : 0 < names slot (cell_at sizes s.words cell)
            named = let e = held_in (cell_at sizes s.words cell) slot in let o = ap (times slot) one in let l = is_same slot slot refl in omega arith

            low : slot < sizes.slots
            low = h.kinds.cells.inside slot (cell, inside, named)

            abbrev last : (z : ValueFraction) × LastIs sizes s.homes slot z
            last = raws.last_home slots id me live slot low s h (still slot named)

            abbrev shown_value : Gv
            shown_value = last.0.content.shown

            is_value : IsValueCode shown_value
            is_value = let a = in_cell_alive sizes s.words s.views h.kept.parts.slots slot (cell, inside, named) in
                (h.homes.home slot n last.0 low (omega arith) last.1).1.0 (sound.valued (slot_at sizes s.words slot) a)

            knew_stored : KnewStored slot shared shown_value v
            knew_stored lone = let one_place = steps.one_place γ sizes s h id v at lone in stored_known one_place slot shared shown_value
                (h.lasts.stored one_place id v at live slot shared last.0 low (inr ((cell, inside, named), kind slot named)) last.1)
                named (kind slot named)

            follows_one : (told : ℕ → SeatState → Type 0) (rights : CellsView)
                → CellsInvariant sizes (after y) (set s.views id (record (brought_out cell y slot shared shown_value v) { cells = rights }))
                → told (cell_at sizes s.words cell) (record (brought_out cell y slot shared shown_value v) { cells = rights }, me.1)
                → Follows γ sizes id i me told s y (coming cell (cell_at sizes s.words cell) y rights v)
            follows_one told rights cells tells = let now : View = record (brought_out cell y slot shared shown_value v) { cells = rights } in
                let r : ShownValue = record { slot = slot; shared = shared; value = shown_value } in
                let mine = records.mine sizes s.views s.homes h.records id v at in
                subst (Follows γ sizes id i me told s y)
                (λ d. record v { slots = record v.slots { owns = sym one d }; cells = rights; words = cell_noted cell y v }) record {
                  fractions = now.fractions;
                  act = keeps;
                  valid = tt;
                  homes = part.calm γ sizes s.words s.views s.homes h.homes id v at (after y) now (λ j p out. out) (full_stay y) (none_out now rests);
                  records = records.comes_to_learn sizes s.views s.homes h.records id v at slot n shown_value last.0 low (omega arith) last.1
                      (raws.all_shown slots id me live slot low s h (still slot named)) (λ j b e is. h.lasts.banks j b e is slot last.0 low last.1) now
                      (λ is. (is, refl)) s.homes (brought_tells sizes.slots v (h.records.each id v at) cell y rights rests slot low shared shown_value)
                      (λ j g k. known_by now j g (λ a. let e = only_record r j g a in inl (sym e.0, sym e.1))
                      (λ a. inr (mine j g (inr (inl a)))) (λ a. inr (mine j g (inr (inr a)))) k)
                      (λ j p z l. l)
                      (λ j m. absurd (none_moved now j rests m))
                      (λ j u _ e. ((λ k m. absurd (none_moved now k rests m)), (λ k m sees. h.records.apart j id u v k e at m sees)));
                  counts = uncounted sizes s.words s.views h.counts id v at (after y) now refl (λ l. l) (as_full sizes s.words (after y) (full_stay y))
                      (ended_spared sizes s.words i y (λ p low e was. absurd (omega arith)) n (omega arith));
                  filled = filled_learned sizes s.views h.filled id v at now refl (λ l. l) r
                      (λ q told. ⊎_elim (λ (a : HasRecord (r ∷ []) q). ⊎_elim (λ (b : r ≡ q). inl (sym b))
                      (λ (b : HasRecord [] q). absurd (has_none q [] refl b)) (has_first r [] q a))
                      (λ (a : HasRecord v.fractions.waits q). inr (id, v, at, inr a)) told)
                      (λ single j u e placed. h.lasts.stored single j u e placed slot shared last.0 low (inr ((cell, inside, named), kind slot named)) last.1);
                  bank = banks.calm γ sizes s.words s.views h.bank id v at (after y) now
                      record { bank = refl; founds = refl; gamma = refl; banked = refl; drawn = refl } refl
                      (λ k. let z = ap (times k) undrawn in omega arith) (full_stay y);
                  lasts = lasts_out sizes s.words s.views s.homes h.lasts id v at (after y) now (λ b. (b, refl)) refl (λ l. l) stored_then
                      (λ j near is. inl (subst HidesItem (slots_stay y j) is));
                  kinds = kinds_then y now refl rests refl refl (λ l. l) refl
                      (λ q a. ⊎_elim (λ (b : r ≡ q). subst (λ (x : ShownValue). counted (slot_at sizes s.words x.slot) ≡ one_where x.shared) b
                      (kind slot named))
                      (λ (b : HasRecord [] q). absurd (has_none q [] refl b)) (has_first r [] q a)) cells;
                  tells = tells;
                }

          -- what there is of rights then: those to other cells, and to this one, whose word is of its kind
          cells_then : (w : View) → ((d : ℕ) → total (rights_at d) (set s.views id w) ≤ 1)
              → ((j : ℕ) (u : View) (r : CellRight) → get_elem? (set s.views id w) j ≡ some u → HasRight u r
              → ((r.cell ≢ cell) × IsTaken sizes s.words r) ⊎ ((r.cell ≡ cell) × (0 < y) × IsWordOf sizes s.words r.kind y))
              → KeepsClosing v w → CellsInvariant sizes (after y) (set s.views id w)
          cells_then w single rights closing = record {
            inside = λ j c. dite (ℕ_discrete c.0 cell)
                (λ e. let q = ap (names j) (ap (cell_at sizes (after y)) e ∙ here y) in let n' = c.2 in let named : 0 < names j y = omega arith in
                let r = named_record j named in
                subst (λ (k : ℕ). k < sizes.slots) r.2 ((h.records.each id v at).inside r.0.slot r.0.value (inl (r.1.0, r.0, r.1.1, refl, refl))))
                (λ ne. let q = ap (names j) (there y c.0 ne) in let n' = c.2 in h.kinds.cells.inside j (c.0, c.1, (omega arith)));
            single = single;
            taken = λ j u r e has. ⊎_elim
                (λ (a : (r.cell ≢ cell) × IsTaken sizes s.words r). record {
                  inside = a.1.inside;
                  full = let q = there y r.cell a.0 in let f = a.1.full in omega arith;
                  kind = word_moves sizes s.words (after y) (slots_stay y) r.kind (cell_at sizes s.words r.cell) (cell_at sizes (after y) r.cell)
                      (there y r.cell a.0) a.1.kind;
                })
                (λ (b : (r.cell ≡ cell) × (0 < y) × IsWordOf sizes s.words r.kind y).
                let q : cell_at sizes (after y) r.cell ≡ y = ap (cell_at sizes (after y)) b.0 ∙ here y in let more = b.1 in record {
                  inside = subst (λ (k : ℕ). k < sizes.cells) (sym b.0) inside;
                  full = omega arith;
                  kind = word_moves sizes s.words (after y) (slots_stay y) r.kind y (cell_at sizes (after y) r.cell) q b.2;
                }) (rights j u r e has);
            closing = closers sizes s.words s.views h.kinds.cells id v w at closing;
            pointers = pointers_stay y;
          }

          -- a word that names an owner that it has is one of that kind of cells
          word_given : IsWordOf sizes s.words (cell_kind shared) y
          word_given = word_counted sizes s.words shared y told_kind

          -- it has the rights that it had, among which is one to this cell, or another's
          cells_swapped : (w : View) → w.cells ≡ v.cells → w.slots.closes ≡ v.slots.closes → 0 < y → (j : ℕ) (u : View) → get_elem? s.views j ≡ some u
              → HasRight u (record { cell = cell; kind = cell_kind shared }) → CellsInvariant sizes (after y) (set s.views id w)
          cells_swapped w same closes more j u there_is has = cells_then w (λ d. let a = total_set (rights_at d) s.views id v w at in
              let e = ap (λ (c : CellsView). total (is_right d) c.rights) same in let o = h.kinds.cells.single d in omega arith)
              (λ k x r e mine. let old : (k' : ℕ) × (x' : View) × (get_elem? s.views k' ≡ some x') × HasRight x' r = ⊎_elim
              (λ (t : (k ≡ id) × (w ≡ x)). (
                id,
                v,
                at,
                (mine.0, ap (λ (c : CellsView). get_elem? c.rights mine.0) (sym same) ∙ (ap (λ (z : View). get_elem? z.cells.rights mine.0) t.1 ∙ mine.1)),
              ))
              (λ (t : (k ≢ id) × (get_elem? s.views k ≡ some x)). (k, x, t.1, mine)) (at_set s.views id k w x e) in
              dite (ℕ_discrete r.cell cell)
              (λ is. let one = one_right sizes s.words s.views h.kinds.cells j old.0 u old.1
              (record { cell = cell; kind = cell_kind shared }) r there_is old.2 has
              old.3 (sym is) in
              inr (is, more, subst (λ (q : CellRight). IsWordOf sizes s.words q.kind y) one word_given))
              (λ ne. inl (ne, h.kinds.cells.taken old.0 old.1 r old.2 old.3)))
              (closes_alike v w same closes)

        -- the cell's word is y then, which names what its word did
        module _ (y : ℕ) (more : 0 < y) (alike : (j : ℕ) → names j y ≡ names j (cell_at sizes s.words cell)) (loose : v.slots.holds ≡ None) where
          in_cell_was : (j : ℕ) → IsInCell sizes (after y) j → IsInCell sizes s.words j
          in_cell_was j c = let some_in = c.2 in dite (ℕ_discrete c.0 cell)
              (λ e. let q = ap (names j) (ap (cell_at sizes (after y)) e ∙ here y) in let k = alike j in (cell, inside, (omega arith)))
              (λ ne. let q = ap (names j) (there y c.0 ne) in (c.0, c.1, (omega arith)))

          stored_was : NoMoreStored sizes s.words (after y)
          stored_was j near = (
            λ kind is. ⊎_elim
                (λ (a : IsRaw sizes (after y) j × (kind ≡ false)). inl (sym (slots_stay y j) ∙ a.0, a.1))
                (λ (b : IsInCell sizes (after y) j × (counted (slot_at sizes (after y) j) ≡ one_where kind)).
                inr (in_cell_was j b.0, sym (ap counted (slots_stay y j)) ∙ b.1)) is,
            subst HidesItem (slots_stay y j),
          )

          taken_now : (r : CellRight) → IsTaken sizes s.words r → IsTaken sizes (after y) r
          taken_now r t = dite (ℕ_discrete r.cell cell)
              (λ e. let q : cell_at sizes (after y) r.cell ≡ y = ap (cell_at sizes (after y)) e ∙ here y in record {
                inside = t.inside;
                full = omega arith;
                kind = word_renamed sizes s.words (after y) (slots_stay y) r.kind (cell_at sizes s.words r.cell) (cell_at sizes (after y) r.cell)
                    (λ k. ap (names k) q ∙ (alike k ∙ ap (λ (d : ℕ). names k (cell_at sizes s.words d)) (sym e))) t.kind;
              })
              (λ ne. let q = there y r.cell ne in record {
                inside = t.inside;
                full = let f = t.full in omega arith;
                kind = word_moves sizes s.words (after y) (slots_stay y) r.kind (cell_at sizes s.words r.cell) (cell_at sizes (after y) r.cell) q t.kind;
              })

          abbrev noted : View
          noted = noting cell y v

          cells_noted : CellsInvariant sizes (after y) (set s.views id noted)
          cells_noted = record {
            inside = λ j c. h.kinds.cells.inside j (in_cell_was j c);
            single = λ d. let a = total_set (rights_at d) s.views id v noted at in let o = h.kinds.cells.single d in omega arith;
            taken = λ j u r e has. taken_now r (⊎_elim
                (λ (t : (j ≡ id) × (noted ≡ u)). h.kinds.cells.taken id v r at
                (has.0, ap (λ (x : View). get_elem? x.cells.rights has.0) t.1 ∙ has.1))
                (λ (t : (j ≢ id) × (get_elem? s.views j ≡ some u)). h.kinds.cells.taken j u r t.1 has) (at_set s.views id j noted u e));
            closing = closers sizes s.words s.views h.kinds.cells id v noted at (closes_alike v noted refl refl);
            pointers = pointers_stay y;
          }

          follows_renamed : (told : ℕ → SeatState → Type 0) → told (cell_at sizes s.words cell) (noted, me.1) → Follows γ sizes id i me told s y noted
          follows_renamed told tells = record {
            fractions = v.fractions;
            act = keeps;
            valid = tt;
            homes = part.calm γ sizes s.words s.views s.homes h.homes id v at (after y) noted (λ j p out. out) (full_stay y) (none_out noted rests);
            records = records.calm sizes s.views s.homes h.records id v at noted (refl, refl, refl, (λ _. refl), refl);
            counts = uncounted sizes s.words s.views h.counts id v at (after y) noted refl (λ l. l) (as_full sizes s.words (after y) (full_stay y))
                (ended_spared sizes s.words i y (λ p low e was. absurd (omega arith)) n (omega arith));
            filled = steps.still_filled slots id me live s h at noted refl refl refl;
            bank = banks.alike γ sizes s.words s.views h.bank id v at (after y) noted (refl, refl, refl, (λ _. refl), refl) (full_stay y);
            lasts = lasts_fewer sizes s.words s.views s.homes h.lasts id v at (after y) noted s.homes (λ _ _ _ _ l. l) (λ b. (b, refl)) refl
                (λ _ _. inl live) stored_was;
            kinds = kinds_then y noted refl rests refl refl (λ l. l) refl
                (λ r a. (h.kinds.each id v at).told r a (λ o. let c : None ≡ Some r.slot = sym loose ∙ o in cc)) cells_noted;
            tells = tells;
          }

        -- nothing changes
        unmoved : (told : ℕ → SeatState → Type 0) → told (get_or s.words i 0) me → Follows γ sizes id i me told s (get_or s.words i 0) v
        unmoved told tells = let x : ℕ = get_or s.words i 0 in record {
          fractions = v.fractions;
          act = keeps;
          valid = tt;
          homes = part.calm γ sizes s.words s.views s.homes h.homes id v at (set s.words i x) v (λ j p out. out) (full_stay x) (h.homes.moving id v at);
          records = records.calm sizes s.views s.homes h.records id v at v (refl, refl, refl, (λ _. refl), refl);
          counts = uncounted sizes s.words s.views h.counts id v at (set s.words i x) v refl (λ l. l) (as_full sizes s.words (set s.words i x) (full_stay x))
              (ended_spared sizes s.words i x (λ p low e was. absurd (omega arith)) n (omega arith));
          filled = steps.still_filled slots id me live s h at v refl refl refl;
          bank = banks.alike γ sizes s.words s.views h.bank id v at (set s.words i x) v (refl, refl, refl, (λ _. refl), refl) (full_stay x);
          lasts = lasts_fewer sizes s.words s.views s.homes h.lasts id v at (set s.words i x) v s.homes (λ _ _ _ _ l. l) (λ b. (b, refl)) refl
              (λ _ _. inl live) (stored_same sizes s.words i);
          kinds = kind_steps.calm sizes s.words s.views h.kinds h.records.each id v at (set s.words i x) v (words_same sizes s.words i)
              (refl, refl, refl, (λ _. refl), refl) refl refl (λ _ o. o) (steps.post slots id me live s h at v refl refl refl refl (λ l. l));
          tells = tells;
        }

    -- the seat of the right to the cell, of whose view a share is pledged
    module _ (kind : CellKind) (p : Pledge) (own : v.pledges.own ≡ p ∷ []) (is : p.view ≡ the_row.coded.code (right_to cell kind)) where
      abbrev the_right : CellRight
      the_right = record { cell = cell; kind = kind }

      module _ (s : State ValueFraction View) (h : DomainInvariant γ sizes s) (at : get_elem? s.views id ≡ some v) where
        beside : RightBeside s.views p the_right
        beside = right_beside s.views p cell kind is (h.kinds.pledges.backed id v p at own).beside

        of_pledge : IsTaken sizes s.words the_right
        of_pledge = h.kinds.cells.taken p.seat beside.owner the_right beside.there beside.has

      -- a cell that holds no owners has another word that names none
      pub swaps_bare : (y : ℕ) → held_slots y ≡ [] → 0 < y → v.slots.owns ≡ [] → v.slots.holds ≡ None → IsBare kind
          → May i (λ _. y) (OfCell (SwapsBare y) i me)
      swaps_bare y none more owns loose bare = let told : ℕ → SeatState → Type 0 = OfCell (SwapsBare y) i me in
          lift_homes γ sizes slots id me i (λ _. y) (AtCell (SwapsCell y v.cells) i v) told
          (spares (λ _. y) (AtCell (SwapsCell y v.cells) i v) (λ r w t. ap (λ (u : View). u.places) (t cell refl).0))
          (words.swaps id v live cell y v.cells inside (owns ∙ sym none) loose)
          (λ s w h at t. let c = t cell refl in let x : ℕ = cell_at sizes s.words cell in
          let empty : held_slots x ≡ [] = holds_nothing sizes s.words kind bare x (of_pledge s h at).kind in
          subst (Follows γ sizes id i me told s y)
          ((λ d. record v { slots = record v.slots { owns = (owns ∙ sym empty) d }; words = cell_noted cell y v }) ∙ sym c.0)
          (follows_renamed s h at y more (λ j. names_none y none j ∙ sym (names_none x empty j)) loose told
          (at_once (SwapsBare y) x (noting cell y v, me.1) (refl, empty, c.1))))

    -- an exchange by which the cell holds what it held
    pub retags : (old y : ℕ) → held_slots y ≡ held_slots old → 0 < y → v.slots.holds ≡ None
        → May i (λ x. either (eqb x old) y x) (OfCell (RetagsOne old y) i me)
    retags old y same more loose = let told : ℕ → SeatState → Type 0 = OfCell (RetagsOne old y) i me in let f : ℕ → ℕ = λ x. either (eqb x old) y x in
        let R : ℕ → SeatState → ℕ → SeatState → Type 0 = RetagsOne old y in
        lift_homes γ sizes slots id me i f (AtCell (RetagsCell old y) i v) told
        (spares f (AtCell (RetagsCell old y) i v) (λ r w t. let c = t cell refl in dite (ℕ_discrete r old)
        (λ e. ap (λ (u : View). u.places) (c.0 e)) (λ ne. ap (λ (u : View). u.places) (c.1 ne))))
        (words.retags id v live cell old y inside same loose)
        (λ s w h at t. let x : ℕ = get_or s.words i 0 in let c = t cell refl in exchanged x old y (λ z. Follows γ sizes id i me told s z w)
        (λ hit. subst (Follows γ sizes id i me told s y) (sym (c.0 hit))
        (follows_renamed s h at y more
        (λ j. let e = held_in y j in let e' = held_in x j in let o = ap (times j) (same ∙ ap held_slots (sym hit)) in omega arith) loose told
        (at_once R x (noting cell y v, me.1) ((λ _. refl), (λ no. absurd (no hit)), c.2))))
        (λ miss. subst (Follows γ sizes id i me told s x) (sym (c.1 miss))
        (unmoved s h at told (at_once R x me ((λ hit. absurd (miss hit)), (λ _. refl), c.2)))))

    -- what it has goes into the cell, and what that held comes out
    module _ (y : ℕ) (owns : v.slots.owns ≡ held_slots y) (loose : v.slots.holds ≡ None) (undrawn : v.slots.drawn ≡ []) (shared : Bool)
        (given : (r : ShownValue) → HasRecord v.fractions.owns r → r.shared ≡ shared) where
      -- by any step that tells what came out
      comes_out : (s : State ValueFraction View) (h : DomainInvariant γ sizes s) (at : get_elem? s.views id ≡ some v) (told : ℕ → SeatState → Type 0)
          (rights : CellsView) → IsOfKind s h shared
          → ((base : View) → base.cells ≡ v.cells → base.slots.closes ≡ v.slots.closes
          → CellsInvariant sizes (after s h y) (set s.views id (record base { cells = rights })))
          → ((m : SeatState) → BringsOut y shared cell me (cell_at sizes s.words cell) m → told (cell_at sizes s.words cell)
          (record m.0 { cells = rights }, m.1))
          → Follows γ sizes id i me told s y (coming cell (cell_at sizes s.words cell) y rights v)
      comes_out s h at told rights kind cells tells = let x : ℕ = cell_at sizes s.words cell in ⊎_elim
          (λ (c : (slot : ℕ) × (held_slots x ≡ slot ∷ [])). let slot : ℕ = c.0 in let one = c.1 in
          let value : Gv = shown_value s h at y owns loose undrawn shared given slot one kind in
          let base : View = brought_out cell y slot shared value v in let seat : SeatState = (base, me.1) in
          follows_one s h at y owns loose undrawn shared given slot one kind told rights (cells base refl refl)
          (tells (base, me.1) (
            (λ none. absurd (let c : ◌≡◌ {A = List ℕ} (slot ∷ []) [] = sym one ∙ none in cc)),
            λ other e. let same : slot ≡ other = ap (first_of slot) (sym one ∙ e) in
                subst (λ (k : ℕ). (g : Gv) × (k < sizes.slots) × IsValueCode g × (seat ≡ (brought_out cell y k shared g v, me.1))
                × KnewStored k shared g v) same (
                  value,
                  low s h at y owns loose undrawn shared given slot one kind,
                  is_value s h at y owns loose undrawn shared given slot one kind,
                  refl,
                  knew_stored s h at y owns loose undrawn shared given slot one kind,
                ),
          )))
          (λ (none : held_slots x ≡ []). let base : View = put_in cell y v in
          follows_none s h at y owns loose undrawn shared given told rights none (cells base refl refl)
          (tells (base, me.1) ((λ _. refl), λ slot one. absurd (let c : ◌≡◌ {A = List ℕ} (slot ∷ []) [] = sym one ∙ none in cc)))) (held_which x)

      -- beside the seat of the right to the cell, of whose view a share is pledged
      module _ (p : Pledge) (own : v.pledges.own ≡ p ∷ []) (is : p.view ≡ the_row.coded.code (right_to cell (cell_kind shared))) (more : 0 < y) where
        module _ (s : State ValueFraction View) (h : DomainInvariant γ sizes s) (at : get_elem? s.views id ≡ some v) where
          of_kind : IsOfKind s h shared
          of_kind = counted_word sizes s.words shared (cell_at sizes s.words cell) (of_pledge (cell_kind shared) p own is s h at).kind

          cells_stay : (base : View) → base.cells ≡ v.cells → base.slots.closes ≡ v.slots.closes
              → CellsInvariant sizes (after s h y) (set s.views id (record base { cells = v.cells }))
          cells_stay base same closes = cells_swapped s h at y owns loose undrawn shared given (record base { cells = v.cells }) refl closes more p.seat
              (beside (cell_kind shared) p own is s h at).owner (beside (cell_kind shared) p own is s h at).there
              (beside (cell_kind shared) p own is s h at).has

        pub swaps : May i (λ _. y) (OfCell (SwapsOne y shared) i me)
        swaps = let told : ℕ → SeatState → Type 0 = OfCell (SwapsOne y shared) i me in
            lift_homes γ sizes slots id me i (λ _. y) (AtCell (SwapsCell y v.cells) i v) told
            (spares (λ _. y) (AtCell (SwapsCell y v.cells) i v) (λ r w t. ap (λ (u : View). u.places) (t cell refl).0))
            (words.swaps id v live cell y v.cells inside owns loose)
            (λ s w h at t. let c = t cell refl in subst (Follows γ sizes id i me told s y) (sym c.0)
            (comes_out s h at told v.cells (of_kind s h at) (cells_stay s h at)
            (λ m brings. at_once (SwapsOne y shared) (cell_at sizes s.words cell) (
              record m.0 { cells = v.cells },
              m.1,
            ) (brings_same y shared (cell_at sizes s.words cell) m brings, c.1))))

        pub exchanges : (old : ℕ) → May i (λ x. either (eqb x old) y x) (OfCell (ExchangesOne old y shared) i me)
        exchanges old = let told : ℕ → SeatState → Type 0 = OfCell (ExchangesOne old y shared) i me in
            let f : ℕ → ℕ = λ x. either (eqb x old) y x in let R : ℕ → SeatState → ℕ → SeatState → Type 0 = ExchangesOne old y shared in
            lift_homes γ sizes slots id me i f (AtCell (ExchangesCell old y v.cells) i v) told
            (spares f (AtCell (ExchangesCell old y v.cells) i v) (λ r w t. let c = t cell refl in dite (ℕ_discrete r old)
            (λ e. ap (λ (u : View). u.places) (c.0 e)) (λ ne. ap (λ (u : View). u.places) (c.1 ne))))
            (words.exchanges id v live cell old y v.cells inside owns loose)
            (λ s w h at t. let x : ℕ = get_or s.words i 0 in let c = t cell refl in exchanged x old y (λ z. Follows γ sizes id i me told s z w)
            (λ hit. subst (Follows γ sizes id i me told s y) (sym (c.0 hit))
            (comes_out s h at told v.cells (of_kind s h at) (cells_stay s h at)
            (λ m brings. at_once R x (record m.0 { cells = v.cells }, m.1) ((λ _. brings_same y shared x m brings), (λ no. absurd (no hit)), c.2))))
            (λ miss. subst (Follows γ sizes id i me told s x) (sym (c.1 miss))
            (unmoved s h at told (at_once R x me ((λ hit. absurd (miss hit)), (λ _. refl), c.2)))))

      -- the claim of a cell for this kind of owners, which has the word of such a cell then
      pub claims : (kind : CellKind) → ((k : ℕ) → closes_by kind k cell ≡ 0) → 0 < y
          → ((ws : List ℕ) → ((j : ℕ) → 0 < names j y → counted (slot_at sizes ws j) ≡ one_where shared) → IsWordOf sizes ws kind y)
          → May i (λ x. either (eqb x 0) y x) (OfCell (ClaimsCell y kind) i me)
      claims kind unclosing more fits = let told : ℕ → SeatState → Type 0 = OfCell (ClaimsCell y kind) i me in let f : ℕ → ℕ = λ x. either (eqb x 0) y x in
          let right : CellRight = record { cell = cell; kind = kind } in let rights : CellsView = record { rights = right ∷ v.cells.rights } in
          let R : ℕ → SeatState → ℕ → SeatState → Type 0 = ClaimsCell y kind in
          lift_homes γ sizes slots id me i f (AtCell (ExchangesCell 0 y rights) i v) told
          (spares f (AtCell (ExchangesCell 0 y rights) i v) (λ r w t. let c = t cell refl in dite (ℕ_discrete r 0)
          (λ e. ap (λ (u : View). u.places) (c.0 e)) (λ ne. ap (λ (u : View). u.places) (c.1 ne))))
          (words.exchanges id v live cell 0 y rights inside owns loose)
          (λ s w h at t. let x : ℕ = get_or s.words i 0 in let c = t cell refl in exchanged x 0 y (λ z. Follows γ sizes id i me told s z w)
          (λ hit. let none = ap held_slots hit ∙ holds_none 0 (omega arith) in
          let free = cell_is_free sizes s.words s.views h.kinds.cells cell hit in let now : View = record (put_in cell y v) { cells = rights } in
          subst (Follows γ sizes id i me told s y) (sym (c.0 hit))
          (follows_none s h at y owns loose undrawn shared given told rights none
          (cells_then s h at y owns loose undrawn shared given now
          (λ d. let a = total_set (rights_at d) s.views id v now at in let o = h.kinds.cells.single d in dite (ℕ_discrete cell d)
          (λ e. let one = is_same d cell e in let z = ap (λ (k : ℕ). total (rights_at k) s.views) e in omega arith)
          (λ ne. let other = is_other d cell ne in omega arith))
          (λ k u r e mine. let old : (k' : ℕ) (x' : View) → get_elem? s.views k' ≡ some x' → HasRight x' r → (r.cell ≢ cell) × IsTaken sizes s.words r
          = λ k' x' e' has. (
            (λ same. let m = total_has (is_right r.cell) x'.cells.rights has.0 r has.1 in let one = is_same r.cell r.cell refl in
                let all = total_has (rights_at r.cell) s.views k' x' e' in let z = ap (λ (j : ℕ). total (rights_at j) s.views) same in absurd (omega arith)),
            h.kinds.cells.taken k' x' r e' has,
          ) in ⊎_elim
          (λ (b : (k ≡ id) × (now ≡ u)). ⊎_elim
          (λ (first : right ≡ r). inr (
            ap (λ (q : CellRight). q.cell) (sym first),
            more,
            subst (λ (q : CellRight). IsWordOf sizes s.words q.kind y) first (fits s.words (told_kind s h at y owns loose undrawn shared given)),
          ))
          (λ (has : HasRight v r). inl (old id v at has))
          (first_or right v.cells.rights r mine.0 (ap (λ (q : View). get_elem? q.cells.rights mine.0) b.1 ∙ mine.1)))
          (λ (b : (k ≢ id) × (get_elem? s.views k ≡ some u)). inl (old k u b.1 mine)) (at_set s.views id k now u e))
          (λ k. let z = unclosing k in omega arith))
          (at_once R x (now, me.1) ((λ _. refl), (λ no. absurd (no hit)), c.2))))
          (λ miss. subst (Follows γ sizes id i me told s x) (sym (c.1 miss))
          (unmoved s h at told (at_once R x me ((λ hit. absurd (miss hit)), (λ _. refl), c.2)))))

      -- what it has goes into a cell to which it has the right, and which held no owners
      pub fills_bare : (kind : CellKind) → IsBare kind → v.cells.rights ≡ record { cell = cell; kind = kind } ∷ [] → 0 < y
          → May i (λ _. y) (OfCell (FillsBare y shared) i me)
      fills_bare kind bare mine more = let told : ℕ → SeatState → Type 0 = OfCell (FillsBare y shared) i me in
          let was : CellRight = record { cell = cell; kind = kind } in let right : CellRight = record { cell = cell; kind = cell_kind shared } in
          let rights : CellsView = record { rights = right ∷ [] } in
          lift_homes γ sizes slots id me i (λ _. y) (AtCell (SwapsCell y rights) i v) told
          (spares (λ _. y) (AtCell (SwapsCell y rights) i v) (λ r w t. ap (λ (u : View). u.places) (t cell refl).0))
          (words.swaps id v live cell y rights inside owns loose)
          (λ s w h at t. let c = t cell refl in let has : HasRight v was = (0, ap (λ (l : List CellRight). get_elem? l 0) mine) in
          let x : ℕ = cell_at sizes s.words cell in
          let empty : held_slots x ≡ [] = holds_nothing sizes s.words kind bare x (h.kinds.cells.taken id v was at has).kind in
          let now : View = record (put_in cell y v) { cells = rights } in
          subst (Follows γ sizes id i me told s y) (sym c.0)
          (follows_none s h at y owns loose undrawn shared given told rights empty
          (cells_then s h at y owns loose undrawn shared given now
          (λ d. let a = total_set (rights_at d) s.views id v now at in let b = ap (total (is_right d)) mine in let o = h.kinds.cells.single d in omega arith)
          (λ k u r e its. ⊎_elim
          (λ (b : (k ≡ id) × (now ≡ u)). ⊎_elim
          (λ (first : right ≡ r). inr (
            ap (λ (q : CellRight). q.cell) (sym first),
            more,
            subst (λ (q : CellRight). IsWordOf sizes s.words q.kind y) first (word_given s h at y owns loose undrawn shared given),
          ))
          (λ (no : (m : ℕ) × (get_elem? [] m ≡ some r)). absurd (no_right (record v { cells = no_rights }) refl r no))
          (first_or right [] r its.0 (ap (λ (q : View). get_elem? q.cells.rights its.0) b.1 ∙ its.1)))
          (λ (b : (k ≢ id) × (get_elem? s.views k ≡ some u)). inl (
            (λ is. let d : ℕ = r.cell in let m = total_has (is_right d) u.cells.rights its.0 r its.1 in let one = is_same d d refl in
                let m' = total_has (is_right d) v.cells.rights has.0 was has.1 in let one' = is_same d cell (sym is) in
                let both = total_two (rights_at d) s.views k id u v b.0 b.1 at in let o = h.kinds.cells.single d in absurd (omega arith)),
            h.kinds.cells.taken k u r b.1 its,
          )) (at_set s.views id k now u e))
          (λ k. let b = ap (total (is_closing_right k)) mine in let z = bare_open kind bare k cell in let z' = owner_open shared k cell in omega arith))
          (at_once (FillsBare y shared) x (now, me.1) (refl, empty, c.1))))

    -- the cell is free again, of which it has the right
    pub frees : v.slots.owns ≡ [] → v.slots.holds ≡ None → v.slots.drawn ≡ [] → (shared : Bool)
        → ((r : ShownValue) → ¬ (HasRecord v.fractions.owns r))
        → v.cells.rights ≡ record { cell = cell; kind = cell_kind shared } ∷ [] → May i (λ _. 0) (OfCell (FreesCell shared) i me)
    frees owns loose undrawn shared none mine = let told : ℕ → SeatState → Type 0 = OfCell (FreesCell shared) i me in
        let right : CellRight = record { cell = cell; kind = cell_kind shared } in
        let owns_is : v.slots.owns ≡ held_slots 0 = owns ∙ sym (holds_none 0 (omega arith)) in
        let given : (r : ShownValue) → HasRecord v.fractions.owns r → r.shared ≡ shared = λ r has. absurd (none r has) in
        lift_homes γ sizes slots id me i (λ _. 0) (AtCell (SwapsCell 0 no_rights) i v) told
        (spares (λ _. 0) (AtCell (SwapsCell 0 no_rights) i v) (λ r w t. ap (λ (u : View). u.places) (t cell refl).0))
        (words.swaps id v live cell 0 no_rights inside owns_is loose)
        (λ s w h at t. let c = t cell refl in let has : HasRight v right = (0, ap (λ (l : List CellRight). get_elem? l 0) mine) in
        subst (Follows γ sizes id i me told s 0) (sym c.0)
        (comes_out 0 owns_is loose undrawn shared given s h at told no_rights
        (counted_word sizes s.words shared (cell_at sizes s.words cell) (h.kinds.cells.taken id v right at has).kind)
        (λ base same closes. let now : View = record base { cells = no_rights } in cells_then s h at 0 owns_is loose undrawn shared given now
        (λ d. let a = total_set (rights_at d) s.views id v now at in let o = h.kinds.cells.single d in omega arith)
        (λ k u r e its. ⊎_elim
        (λ (b : (k ≡ id) × (now ≡ u)). absurd (no_right u (ap (λ (q : View). q.cells.rights) (sym b.1)) r its))
        (λ (b : (k ≢ id) × (get_elem? s.views k ≡ some u)). inl (
          (λ is. let d : ℕ = r.cell in let m = total_has (is_right d) u.cells.rights its.0 r its.1 in let one = is_same d d refl in
              let m' = total_has (is_right d) v.cells.rights has.0 right has.1 in let one' = is_same d cell (sym is) in
              let both = total_two (rights_at d) s.views k id u v b.0 b.1 at in let o = h.kinds.cells.single d in absurd (omega arith)),
          h.kinds.cells.taken k u r b.1 its,
        )) (at_set s.views id k now u e))
        (λ k. let a = ap (one_in k) closes in let b = ap (total (is_closing_right k)) mine in let z = owner_open shared k cell in omega arith))
        (λ m brings. at_once (FreesCell shared) (cell_at sizes s.words cell) (record m.0 { cells = no_rights }, m.1) ((m, brings, refl), c.1))))

    -- the same of a cell that holds no owners
    pub frees_bare : v.slots.owns ≡ [] → v.slots.holds ≡ None → v.slots.drawn ≡ [] → (kind : CellKind) → IsBare kind
        → ((r : ShownValue) → ¬ (HasRecord v.fractions.owns r)) → v.cells.rights ≡ record { cell = cell; kind = kind } ∷ []
        → May i (λ _. 0) (OfCell FreesBare i me)
    frees_bare owns loose undrawn kind bare none mine = let told : ℕ → SeatState → Type 0 = OfCell FreesBare i me in
        let right : CellRight = record { cell = cell; kind = kind } in
        let owns_is : v.slots.owns ≡ held_slots 0 = owns ∙ sym (holds_none 0 (omega arith)) in
        let given : (r : ShownValue) → HasRecord v.fractions.owns r → r.shared ≡ false = λ r has. absurd (none r has) in
        lift_homes γ sizes slots id me i (λ _. 0) (AtCell (SwapsCell 0 no_rights) i v) told
        (spares (λ _. 0) (AtCell (SwapsCell 0 no_rights) i v) (λ r w t. ap (λ (u : View). u.places) (t cell refl).0))
        (words.swaps id v live cell 0 no_rights inside owns_is loose)
        (λ s w h at t. let c = t cell refl in let has : HasRight v right = (0, ap (λ (l : List CellRight). get_elem? l 0) mine) in
        let x : ℕ = cell_at sizes s.words cell in
        let empty : held_slots x ≡ [] = holds_nothing sizes s.words kind bare x (h.kinds.cells.taken id v right at has).kind in
        let now : View = record (put_in cell 0 v) { cells = no_rights } in
        subst (Follows γ sizes id i me told s 0) (sym c.0)
        (follows_none s h at 0 owns_is loose undrawn false given told no_rights empty
        (cells_then s h at 0 owns_is loose undrawn false given now
        (λ d. let a = total_set (rights_at d) s.views id v now at in let o = h.kinds.cells.single d in omega arith)
        (λ k u r e its. ⊎_elim
        (λ (b : (k ≡ id) × (now ≡ u)). absurd (no_right u (ap (λ (q : View). q.cells.rights) (sym b.1)) r its))
        (λ (b : (k ≢ id) × (get_elem? s.views k ≡ some u)). inl (
          (λ is. let d : ℕ = r.cell in let m = total_has (is_right d) u.cells.rights its.0 r its.1 in let one = is_same d d refl in
              let m' = total_has (is_right d) v.cells.rights has.0 right has.1 in let one' = is_same d cell (sym is) in
              let both = total_two (rights_at d) s.views k id u v b.0 b.1 at in let o = h.kinds.cells.single d in absurd (omega arith)),
          h.kinds.cells.taken k u r b.1 its,
        )) (at_set s.views id k now u e))
        (λ k. let b = ap (total (is_closing_right k)) mine in let z = bare_open kind bare k cell in omega arith))
        (at_once FreesBare x (now, me.1) (refl, empty, (h.kinds.cells.taken id v right at has).full, c.1))))

    -- a look
    pub looks_in : May i (λ x. x) (OfCell LooksInCell i me)
    looks_in = let told : ℕ → SeatState → Type 0 = OfCell LooksInCell i me in lift_homes γ sizes slots id me i (λ x. x) (AtCell LooksAtCell i v) told
        (spares (λ x. x) (AtCell LooksAtCell i v) (λ r w t. ap (λ (u : View). u.places) (t cell refl).0)) (words.looks_at id v live cell inside)
        (λ s w h at t. let x : ℕ = get_or s.words i 0 in let c = t cell refl in subst (Follows γ sizes id i me told s x) (sym c.0)
        (unmoved s h at told (at_once LooksInCell x me (refl, c.1))))

    -- a look under a guard, which sees the item whose owner the cell holds
    module _ (is_open : IsOpen v.epoch) (near : v.epoch.place < n) where
      abbrev q : ℕ
      q = v.epoch.place

      pub sees_in : May i (λ x. x) (OfCell SeesInCell i me)
      sees_in = let told : ℕ → SeatState → Type 0 = OfCell SeesInCell i me in lift_homes γ sizes slots id me i (λ x. x) (AtCell SeesCell i v) told
          (spares (λ x. x) (AtCell SeesCell i v) (λ x w t. let c = t cell refl in ⊎_elim
          (λ (one : (slot : ℕ) × (held_slots x ≡ slot ∷ [])). dite (dec_lt 0 (times one.0 v.slots.sees))
          (λ sees. ap (λ (u : View). u.places) (c.1 one.0 one.1 sees)) (λ unseen. ap (λ (u : View). u.places) (c.0 one.0 one.1 unseen)))
          (λ (none : held_slots x ≡ []). ap (λ (u : View). u.places) (c.2 none)) (held_which x)))
          (words.sees id v live cell inside is_open)
          (λ s w h at t. let x : ℕ = get_or s.words i 0 in let c = t cell refl in let r = h.records in let tells = r.each id v at in
          let mine = records.mine sizes s.views s.homes r id v at in ⊎_elim
          (λ (held : (slot : ℕ) × (held_slots x ≡ slot ∷ [])). let slot : ℕ = held.0 in
          let named : 0 < names slot x = (let e = held_in x slot in let o = ap (times slot) held.1 in let l = is_same slot slot refl in omega arith) in
          let in_it : IsInCell sizes s.words slot = (cell, inside, named) in let low = h.kinds.cells.inside slot in_it in
          let alive_now = in_cell_alive sizes s.words s.views h.kept.parts.slots slot in_it in
          let full_now : full_at sizes s.words slot ≡ 1 = sound.valued (slot_at sizes s.words slot) alive_now in let calm = still s h at slot named in
          let last = raws.last_home slots id me live slot low s h calm in let z : ValueFraction = last.0 in let value : Gv = z.content.shown in
          let shows_all = raws.all_shown slots id me live slot low s h calm in let flag = flag_of (slot_at sizes s.words slot) in let shared : Bool = flag.0 in
          let knew : KnewStored slot shared value v = λ lone. let one_place = steps.one_place γ sizes s h id v at lone in
          stored_known s h at one_place slot shared value (h.lasts.stored one_place id v at live slot shared z low (inr (in_it, flag.1)) last.1)
          named flag.1 in
          let told_of : (m : SeatState) → SeesOwned slot shared value me m → SeesInCell cell me x m
          = λ m sees. (
            (λ none. absurd (let d : ◌≡◌ {A = List ℕ} (slot ∷ []) [] = sym held.1 ∙ none in cc)),
            (λ k e. let same : slot ≡ k = ap (first_of slot) (sym held.1 ∙ e) in
                subst (λ (j : ℕ). (b : Bool) × (g : Gv) × (j < sizes.slots) × SeesOwned j b g me m × KnewStored j b g v) same (shared, value, low, sees, knew)),
            c.3,
          ) in
          dite (dec_lt 0 (times slot v.slots.sees))
          (λ sees. let is = told_seen v tells slot sees in
          let shows : is.0 ≡ value = sym (r.home slot n is.0 z low (omega arith) (mine slot is.0 (inr (inl is.1))) last.1) in
          subst (Follows γ sizes id i me told s x) (sym (c.1 slot held.1 sees)) (unmoved s h at told (at_once SeesInCell x me
          (told_of me ((λ _. (refl, subst (IsIn v.fractions.sees slot) shows is.1)), (λ unseen. absurd (unseen sees)))))))
          (λ unseen. let b = raws.own_home slots id me live slot low is_open near rests s h at calm full_now unseen in let y : ValueFraction = b.0 in
          let spot : ℕ = fraction_at n slot q in
          let shows : y.content.shown ≡ value = shows_all q y (omega arith) b.1 in
          let now : View = sighting slot shared value v in let record_now : ShownValue = record { slot = slot; shared = shared; value = value } in
          let one = is_same slot slot refl in subst (Follows γ sizes id i me told s x) (sym (c.0 slot held.1 unseen)) record {
            fractions = now.fractions;
            act = takes spot y;
            valid = b.1;
            homes = subst (λ (ws : List ℕ). FractionsInvariant γ sizes ws (set s.views id now) (set s.homes spot absent)) (sym (set-get_or s.words i 0))
                (part.takes_one γ sizes s.words s.views s.homes h.homes id v at slot q (omega arith) now (inr (omega arith, refl))
                (λ j p out. let o = only_seen v rests j p out in inr (let a = o.0 in omega arith, o.1))
                (none_out now rests));
            kinds = kind_steps.same sizes s.words s.views h.kinds h.records.each id v at now refl refl refl refl refl refl (set s.words i x)
                (words_same sizes s.words i) (steps.post slots id me live s h at now refl refl refl refl (λ l. l));
            records = records.comes_to_learn sizes s.views s.homes r id v at slot n value z low (omega arith) last.1
                shows_all (λ j d e is. h.lasts.banks j d e is slot z low last.1) now (λ is. (is, refl)) (set s.homes spot absent)
                record {
                  owns = tells.owns;
                  owned = tells.owned;
                  sees = ap (λ (l : List ℕ). slot ∷ l) tells.sees;
                  waits = tells.waits;
                  waiting = tells.waiting;
                  inside = λ j g k. ⊎_elim (λ (a : IsIn v.fractions.owns j g). tells.inside j g (inl a))
                      (λ (o : IsIn now.fractions.sees j g ⊎ IsIn v.fractions.waits j g). ⊎_elim
                      (λ (a : IsIn now.fractions.sees j g). ⊎_elim (λ (e : (slot ≡ j) × (value ≡ g)). let same = e.0 in omega arith)
                      (λ (d : IsIn v.fractions.sees j g). tells.inside j g (inr (inl d))) (in_either record_now v.fractions.sees j g a))
                      (λ (d : IsIn v.fractions.waits j g). tells.inside j g (inr (inr d))) o) k;
                }
                (λ j g k. known_by now j g (λ a. inr (mine j g (inl a))) (λ a. ⊎_elim
                (λ (e : (slot ≡ j) × (value ≡ g)). inl (sym e.0, sym e.1))
                (λ (d : IsIn v.fractions.sees j g). inr (mine j g (inr (inl d)))) (in_either record_now v.fractions.sees j g a)) (λ a. inr (mine j g (inr
                (inr a))))
                k)
                (λ j p u l. one_taken s.homes spot (fraction_at n j p) u l)
                (λ j m. absurd (none_moved v j rests m))
                (λ j u _ e. (
                  (λ k m. absurd (none_moved v k rests m)),
                  (λ k m sees. dite (ℕ_discrete k slot) (λ same. calm j u e (subst (Moves u) same m))
                      (λ ne. r.apart j id u v k e at m (let o = is_other k slot (λ e. ne (sym e)) in omega arith))),
                ));
            counts = uncounted sizes s.words s.views h.counts id v at (set s.words i x) now refl (λ l. l) (as_full sizes s.words (set s.words i x)
                (full_stay s h x))
                (ended_spared sizes s.words i x (λ p low e was. absurd (omega arith)) n (omega arith));
            filled = steps.still_filled slots id me live s h at now refl refl refl;
            bank = banks.calm γ sizes s.words s.views h.bank id v at (set s.words i x) now
                record { bank = refl; founds = refl; gamma = refl; banked = refl; drawn = refl } refl (h.bank.low id v at) (full_stay s h x);
            lasts = lasts_fewer sizes s.words s.views s.homes h.lasts id v at (set s.words i x) now (set s.homes spot absent)
                (λ j p u _ l. one_taken s.homes spot (fraction_at n j p) u l) (λ b. (b, refl)) refl (λ _ _. inl live) (stored_same sizes s.words i);
            tells = at_once SeesInCell x (now, (spot, y) ∷ me.1) (told_of (now, (spot, y) ∷ me.1)
                ((λ sees. absurd (unseen sees)), (λ _. (y, subst (λ (g : Gv). Has γ slot 1 (IsValue g) y) shows b.2, refl))));
          }))
          (λ (empty : held_slots x ≡ []). subst (Follows γ sizes id i me told s x) (sym (c.2 empty)) (unmoved s h at told (at_once SeesInCell x me (
            (λ _. refl),
            (λ slot one. absurd (let d : ◌≡◌ {A = List ℕ} (slot ∷ []) [] = sym one ∙ empty in cc)),
            c.3,
          )))) (held_which x))

  -- beside the right to a cell it learns that there is that cell, and nothing changes
  pub finds_cell : (jd cell : ℕ) (kind : CellKind) → AllowsBeside (DomainInvariant γ sizes) slots id me jd (right_to cell kind) (FindsCell cell me)
  finds_cell jd cell kind s h _ at there = (
    v,
    keeps,
    tt,
    subst (λ (vs : List View). DomainInvariant γ sizes record { words = s.words; homes = s.homes; views = vs }) (sym (set_again s.views id v at)) h,
    (refl, (h.kinds.cells.taken jd (right_to cell kind) (record { cell = cell; kind = kind }) there (0, refl)).inside),
  )

  -- beside the right to a cell it learns what it knows of the cell, and nothing changes
  pub recalls : (jd cell : ℕ) (shared : Bool)
      → AllowsBeside (DomainInvariant γ sizes) slots id me jd (right_to cell (cell_kind shared)) (LearnsCell cell shared me)
  recalls jd cell shared s h _ at there = (
    v,
    keeps,
    tt,
    subst (λ (vs : List View). DomainInvariant γ sizes record { words = s.words; homes = s.homes; views = vs }) (sym (set_again s.views id v at)) h,
    (
      refl,
      (h.kinds.cells.taken jd (right_to cell (cell_kind shared)) (record { cell = cell; kind = cell_kind shared }) there (0, refl)).inside,
      λ lone. let one = steps.one_place γ sizes s h id v at lone in let l = h.kept.parts.lone in
          let t = h.kinds.cells.taken jd (right_to cell (cell_kind shared)) (record { cell = cell; kind = cell_kind shared }) there (0, refl) in
          let is : cell_at sizes s.words cell ≡ get_or v.words cell 0 = finds_word sizes s.words s.views l id v at one live cell (let near = t.inside in
          omega arith) in record {
            inside = t.inside;
            full = let f = t.full in omega arith;
            held = λ slot one_is. let x : ℕ = cell_at sizes s.words cell in
                let named : 0 < names slot x = (let e = held_in x slot in let o = ap (times slot) (ap held_slots is ∙ one_is) in
                let k = is_same slot slot refl in omega arith) in
                let word = finds sizes s.words s.views l id v at one live slot in
                let a = in_cell_alive sizes s.words s.views h.kept.parts.slots slot (cell, t.inside, named) in (
                  h.kinds.cells.inside slot (cell, t.inside, named),
                  subst (λ (y : ℕ). 0 < alive y) word a,
                  sym (ap counted word) ∙ counted_word sizes s.words shared x t.kind slot named,
                );
          },
    ),
  )
