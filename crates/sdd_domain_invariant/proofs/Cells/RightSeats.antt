-- The right to a cell goes to a seat of its own, and comes back.
use Rattle.std.proofs.Common.{◌≡◌, ◌≢◌, inl, inr, ℕ, ◌+◌, ◌<◌, ◌≤◌, List, [], ◌∷◌, ◌++◌, length, set, sym, refl, ap, ◌∙◌, subst, ⊎_elim, arith, length-set}
use Rattle.std.proofs.lemmas.List.{set_comm}
use Rattle.std.proofs.Math.Seq.{set-append_seam}
use mathlib.Core.Option.{some, some-injective}
use lib.ListN.{get_elem?}
use Rattle.atomic_table.specs.Table.{State, Splits}
use Rattle.atomic_table.proofs.Lists.{at_map, at_set, at_longer, at_last, set_else}
use Rattle.sdd_witness.specs.Ledger.{Pledge, JoinsFree}
use Rattle.sdd_shared_values.specs.declared.value_fraction.ValueFraction.{ValueFraction}
use Rattle.sdd_rights.specs.declared.views.CellKind.{CellKind}
use Rattle.sdd_rights.specs.declared.views.CellRight.{CellRight}
use Rattle.sdd_rights.specs.declared.views.CellsView.{CellsView}
use Rattle.sdd_rights.specs.declared.views.View.{View}
use Rattle.sdd_rights.specs.declared.views.Sizes.{Sizes}
use Rattle.sdd_rights.specs.Views.{owner_seat, no_rights, right_to}
use Rattle.sdd_domain_invariant.specs.Epoch.{HasPlace}
use Rattle.sdd_domain_invariant.specs.Sums.{total}
use Rattle.sdd_domain_invariant.specs.WordInvariant.{epoch_of, WordInvariant}
use Rattle.sdd_domain_invariant.proofs.Frame.{each_set}
use Rattle.sdd_domain_invariant.proofs.WordsWithoutFractions.{blind_seats}
use Rattle.sdd_domain_invariant.proofs.Sums.{total_set, total_append}
use Rattle.sdd_domain_invariant.specs.Cells.CellsInvariant.{is_right, rights_at, HasRight, IsTaken, is_closing_right, closing_rights_at, closes_at, CellsInvariant}
use Rattle.sdd_domain_invariant.specs.Cells.CellSteps.{rightless, rights_of, righted}
use Rattle.sdd_domain_invariant.specs.DomainInvariant.{DomainInvariant}
use Rattle.sdd_domain_invariant.specs.Fractions.FractionsAtHome.{FractionsInvariant}
use Rattle.sdd_domain_invariant.specs.Slots.Records.{RecordsInvariant}
use Rattle.sdd_domain_invariant.specs.Counts.{CountsInvariant}
use Rattle.sdd_domain_invariant.specs.Slots.FilledInvariant.{FilledInvariant}
use Rattle.sdd_domain_invariant.specs.Fractions.BankInvariant.{BankInvariant}
use Rattle.sdd_domain_invariant.specs.Fractions.LastFractions.{LastsInvariant}
use Rattle.sdd_domain_invariant.specs.Slots.BoundInvariant.{BoundInvariant}
use Rattle.sdd_domain_invariant.specs.Slots.KindsInvariant.{KnowsKinds}
use Rattle.sdd_domain_invariant.specs.Fractions.PledgesInvariant.{IsLedger, booked_by, IsOfOwner, IsOfCell, IsBacked, PledgesInvariant}
use Rattle.sdd_domain_invariant.proofs.Banks as banks
use Rattle.sdd_domain_invariant.proofs.Cells.{first_or, no_right}
use Rattle.sdd_domain_invariant.proofs.Slots.ClonedOwners.{arrives_bare}
use Rattle.sdd_domain_invariant.proofs.Counts.{uncounted_alone}
use Rattle.sdd_domain_invariant.proofs.Slots.FilledInvariant.{has_none, filled_same}
use Rattle.sdd_domain_invariant.proofs.Slots.KindSteps.{bound_kept, knows_alike, no_participants, pledges_spent}
use Rattle.sdd_domain_invariant.proofs.Fractions.LastFractions.{stored_as_is, lasts_fewer}
use Rattle.sdd_domain_invariant.proofs.TableSteps.{kept_stands}
use Rattle.sdd_domain_invariant.proofs.Fractions.FractionsInvariant as part
use Rattle.sdd_domain_invariant.proofs.Slots.Records as records
use Rattle.sdd_domain_invariant.proofs.Seats.{set_front, free_of}

-- a seat that has nothing isn't pledged
bare_unpledged : (vs : List View) (k : ℕ) → get_elem? vs k ≡ some (owner_seat []) → (i : ℕ) (q : Pledge) → IsBacked vs i q → ¬ (q.seat ≡ k)
bare_unpledged vs k at i q B e = let same : (x : View) → get_elem? vs q.seat ≡ some x → x ≡ owner_seat []
    = λ x there. some-injective x (owner_seat []) (sym there ∙ (ap (get_elem? vs) e ∙ at)) in ⊎_elim
    (λ (o : IsOfOwner vs q). absurd (has_none _ o.owner.fractions.owns (ap (λ (x : View). x.fractions.owns) (same o.owner o.there)) o.told))
    (λ (o : IsOfCell vs q). absurd (no_right o.owner (ap (λ (x : View). x.cells.rights) (same o.owner o.there)) o.right o.has)) B.beside

-- all parts of the rule but the cells'
record ButCells (γ : ℕ) (sizes : Sizes) (s : State ValueFraction View) : Type 0 where
  kept : WordInvariant sizes s
  homes : FractionsInvariant γ sizes s.words s.views s.homes
  records : RecordsInvariant sizes s.views s.homes
  counts : CountsInvariant sizes s.words s.views
  filled : FilledInvariant sizes s.views
  bank : BankInvariant γ sizes s.words s.views
  lasts : LastsInvariant sizes s.words s.views s.homes
  each : (j : ℕ) (v : View) → get_elem? s.views j ≡ some v → KnowsKinds sizes s.words v
  bound : BoundInvariant sizes s.words s.views
  pledges : PledgesInvariant s.views

-- one right at most is to each cell, and to a cell that is taken
record AreRights (sizes : Sizes) (ws : List ℕ) (vs : List View) : Type 0 where
  single : (d : ℕ) → total (rights_at d) vs ≤ 1
  taken : (j : ℕ) (v : View) (r : CellRight) → get_elem? vs j ≡ some v → HasRight v r → IsTaken sizes ws r

module _ (sizes : Sizes) (ws : List ℕ) (vs : List View) (part : AreRights sizes ws vs) (id : ℕ) (v : View) (at : get_elem? vs id ≡ some v) (c : CellsView) where
  -- the rights of one change, to as many at most as there were of each, and each is taken
  rights_set : ((d : ℕ) → total (rights_at d) vs + total (is_right d) c.rights ≤ 1 + rights_at d v)
      → ((m : ℕ) (r : CellRight) → get_elem? c.rights m ≡ some r → IsTaken sizes ws r) → AreRights sizes ws (set vs id (record v { cells = c }))
  rights_set few taken = let w : View = record v { cells = c } in record {
    single = λ d. let a = total_set (rights_at d) vs id v w at in let f = few d in omega arith;
    taken = λ j u r e has. ⊎_elim
        (λ (t : (j ≡ id) × (w ≡ u)). taken has.0 r (ap (λ (x : View). get_elem? x.cells.rights has.0) t.1 ∙ has.1))
        (λ (t : (j ≢ id) × (get_elem? vs j ≡ some u)). part.taken j u r t.1 has) (at_set vs id j w u e);
  }

-- what two know changes
total_over : (f : View → ℕ) (vs : List View) (a b : ℕ) (u u' x x' : View) → get_elem? vs a ≡ some u → get_elem? (set vs a u') b ≡ some x
    → f u' + f x' ≡ f u + f x → total f (set (set vs a u') b x') ≡ total f vs
total_over f vs a b u u' x x' at at' same = let p = total_set f vs a u u' at in let q = total_set f (set vs a u') b x x' at' in omega arith

module _ (γ : ℕ) (sizes : Sizes) where
  but_cells : (s : State ValueFraction View) → DomainInvariant γ sizes s → ButCells γ sizes s
  but_cells s h = record {
    kept = h.kept;
    homes = h.homes;
    records = h.records;
    counts = h.counts;
    filled = h.filled;
    bank = h.bank;
    lasts = h.lasts;
    each = h.kinds.each;
    bound = h.kinds.bound;
    pledges = h.kinds.pledges;
  }

  with_cells : (s : State ValueFraction View) → ButCells γ sizes s → CellsInvariant sizes s.words s.views → DomainInvariant γ sizes s
  with_cells s h cells = record {
    kept = h.kept;
    homes = h.homes;
    records = h.records;
    counts = h.counts;
    filled = h.filled;
    bank = h.bank;
    lasts = h.lasts;
    kinds = record { each = h.each; bound = h.bound; pledges = h.pledges; cells = cells };
  }

  -- the rights of one change
  rerighted : (s : State ValueFraction View) → ButCells γ sizes s → (id : ℕ) (v : View) → get_elem? s.views id ≡ some v → (c : CellsView)
      → PledgesInvariant (set s.views id (record v { cells = c }))
      → ButCells γ sizes record { words = s.words; homes = s.homes; views = set s.views id (record v { cells = c }) }
  rerighted s h id v at c pledges = let w : View = record v { cells = c } in record {
    kept = kept_stands sizes s h.kept id v at w refl (blind_seats sizes s.words s.views id v at h.kept.parts v.pledges c) s.homes;
    homes = part.calm γ sizes s.words s.views s.homes h.homes id v at s.words w (λ j q out. out) (λ j _. refl) (h.homes.moving id v at);
    records = records.calm sizes s.views s.homes h.records id v at w (refl, refl, refl, (λ _. refl), refl);
    counts = uncounted_alone sizes s.words s.views h.counts id v at w refl refl;
    filled = filled_same sizes s.views h.filled id v at w refl refl refl (λ l. l);
    bank = banks.alike γ sizes s.words s.views h.bank id v at s.words w (refl, refl, refl, (λ _. refl), refl) (λ _ _. refl);
    lasts = lasts_fewer sizes s.words s.views s.homes h.lasts id v at s.words w s.homes (λ _ _ _ _ l. l) (λ b. (b, refl)) refl (λ _ live. inl live)
        (stored_as_is sizes s.words);
    each = each_set (KnowsKinds sizes s.words) (KnowsKinds sizes s.words) s.views id w
        (knows_alike sizes s.words v w (h.each id v at) refl refl (λ i m. m) (λ i o. o) (λ r a. a) (λ i a. a)) (λ j u _ e. h.each j u e);
    bound = bound_kept sizes s.words s.views h.bound id v at s.words w (λ i m. inr (m, (omega arith))) refl (inl (λ l. l));
    pledges = pledges;
  }

  -- the right that it has goes to a seat of its own
  pub parts_right : (id : ℕ) (v : View) → HasPlace v.epoch → v.sizes ≡ sizes → Splits (DomainInvariant γ sizes) id v (rightless v) (rights_of v)
  parts_right id v live of s h at = let t0 : View = owner_seat [] in let t : View = rights_of v in let w : View = rightless v in
      let near = (h.kept.parts.epoch.each id v.epoch (at_map epoch_of s.views id v at)).inside live in
      let placed : 0 < v.sizes.participants = (let e = ap (λ (z : Sizes). z.participants) of in omega arith) in
      let vs : List View = s.views ++ t0 ∷ [] in let came = arrives_bare γ sizes s h id v at in let cells = came.kinds.cells in
      let at' = at_longer s.views (t0 ∷ []) id v at in let us : List View = set vs id w in
      let one = rerighted record { words = s.words; homes = s.homes; views = vs } (but_cells record { words = s.words; homes = s.homes; views = vs } came)
      id v at' no_rights (pledges_spent vs came.kinds.pledges id v w at' refl (no_participants vs came.kinds.pledges id v at' placed)) in
      let rights = rights_set sizes s.words vs record { single = cells.single; taken = cells.taken } id v at' no_rights
      (λ d. let o = cells.single d in omega arith) (λ m r has. absurd (no_right w refl r (m, has))) in
      let k : ℕ = length s.views in let front : us ≡ set s.views id w ++ t0 ∷ [] = set_front s.views (t0 ∷ []) id v w at in
      let long : length (set s.views id w) ≡ k = length-set s.views id w in
      let last : get_elem? us k ≡ some t0 = ap (λ (l : List View). get_elem? l k) front ∙ at_last (set s.views id w) t0 k long in
      let two = rerighted record { words = s.words; homes = s.homes; views = us } one k t0 last v.cells
      (pledges_spent us one.pledges k t0 t last refl (bare_unpledged us k last)) in
      let rights' = rights_set sizes s.words us rights k t0 last v.cells (λ d. let a = total_set (rights_at d) vs id v w at' in let o = cells.single d in
      omega arith) (λ m r has. h.kinds.cells.taken id v r at (m, has)) in
      subst (λ (l : List View). DomainInvariant γ sizes record { words = s.words; homes = s.homes; views = l })
      (ap (λ (l : List View). set l k t) front ∙ (ap (λ (m : ℕ). set (set s.views id w ++ t0 ∷ []) m t) (sym long)
      ∙ set-append_seam (set s.views id w) t0 [] t))
      (with_cells record { words = s.words; homes = s.homes; views = set us k t } two record {
        inside = cells.inside;
        single = rights'.single;
        taken = rights'.taken;
        closing = λ d. total_over (closes_at d) vs id k v w t0 t at' last (omega arith)
            ∙ (cells.closing d ∙ sym (total_over (closing_rights_at d) vs id k v w t0 t at' last (omega arith)));
        pointers = cells.pointers;
      })

  -- and comes back, as nobody has pledged a share of its view
  pub joins_right : (id : ℕ) (v : View) (other bd cell : ℕ) (kind : CellKind) → HasPlace v.epoch → v.sizes ≡ sizes
      → JoinsFree (DomainInvariant γ sizes) IsLedger booked_by id v other (right_to cell kind) bd (righted v (right_to cell kind)) (owner_seat [])
  joins_right id v other bd cell kind live of s b h at was at_b ours apart far unpledged = let t : View = right_to cell kind in let t' : View = owner_seat [] in
      let w : View = righted v t in let near = (h.kept.parts.epoch.each id v.epoch (at_map epoch_of s.views id v at)).inside live in
      let placed : 0 < v.sizes.participants = (let e = ap (λ (z : Sizes). z.participants) of in omega arith) in let cells = h.kinds.cells in
      let one = rerighted s (but_cells s h) other t was no_rights
      (pledges_spent s.views h.kinds.pledges other t t' was refl (λ i q B. free_of γ sizes other b.pledges.booked q unpledged (B.booked bd b at_b ours))) in
      let rights = rights_set sizes s.words s.views record { single = cells.single; taken = cells.taken } other t was no_rights
      (λ d. let o = cells.single d in omega arith) (λ m r has. absurd (no_right t' refl r (m, has))) in
      let us : List View = set s.views other t' in let at' : get_elem? us id ≡ some v = set_else s.views other id t' (λ e. apart (sym e)) ∙ at in
      let two = rerighted record { words = s.words; homes = s.homes; views = us } one id v at' w.cells
      (pledges_spent us one.pledges id v w at' refl (no_participants us one.pledges id v at' placed)) in
      let rights' = rights_set sizes s.words us rights id v at' w.cells
      (λ d. let a = total_set (rights_at d) s.views other t t' was in let o = cells.single d in
      let j = total_append (is_right d) t.cells.rights v.cells.rights in omega arith)
      (λ m r has. ⊎_elim (λ (e : record { cell = cell; kind = kind } ≡ r). cells.taken other t r was (0, ap some e))
      (λ (k : (n : ℕ) × (get_elem? v.cells.rights n ≡ some r)). cells.taken id v r at k)
      (first_or (record { cell = cell; kind = kind }) v.cells.rights r m has)) in
      subst (λ (l : List View). DomainInvariant γ sizes record { words = s.words; homes = s.homes; views = l })
      (set_comm s.views other id t' w apart)
      (with_cells record { words = s.words; homes = s.homes; views = set us id w } two record {
        inside = cells.inside;
        single = rights'.single;
        taken = rights'.taken;
        closing = λ d. total_over (closes_at d) s.views other id t t' v w was at' refl
            ∙ (cells.closing d ∙ sym (total_over (closing_rights_at d) s.views other id t t' v w was at'
            (let j = total_append (is_closing_right d) t.cells.rights v.cells.rights in omega arith)));
        pointers = cells.pointers;
      })
