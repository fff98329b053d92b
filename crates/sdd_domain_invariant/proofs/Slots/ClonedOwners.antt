-- An owner more beside one of several: the ledger and its pledges, one addition, which is taken back past the bound, and the new owner's unit
use Rattle.std.proofs.Common.{◌≡◌, ◌≢◌, ◌⊎◌, inl, inr, ℕ, suc, ◌+◌, ◌-◌, ◌^◌, ◌<◌, ◌≤◌, Bool, true, false, List, [], ◌∷◌, ◌++◌, length, set, sym, refl, ap, ◌∙◌, subst, ⊎_elim, arith, length-set}
use Rattle.std.proofs.lemmas.List.{set_comm}
use Rattle.std.proofs.Math.Seq.{set-append_seam}
use Rattle.std.specs.Prelude.{Option, Some, None}
use mathlib.Core.Option.{some}
use mathlib.Core.Logic.{dite}
use native.Mathlib.Decide.{ℕ_discrete, dec_lt}
use lib.ListN.{get_elem?}
use base.Stored.{Gv}
use Rattle.atomic_table.specs.Table.{State, keeps, Allows, Splits}
use Rattle.atomic_table.proofs.Lists.{at_map, at_set, at_longer, at_last, set_again, set_here, set_else}
use Rattle.sdd_witness.specs.Ledger.{Pledge, Without, Enters, Leaves as LeavesLedger}
use Rattle.sdd_rights.specs.contracts.views.View.{the_row}
use Rattle.sdd_rights.specs.declared.views.CellKind.{CellKind}
use Rattle.sdd_rights.specs.declared.views.ShownValue.{ShownValue}
use Rattle.sdd_rights.specs.declared.views.PledgesView.{PledgesView}
use Rattle.sdd_rights.specs.declared.views.View.{View}
use Rattle.sdd_rights.specs.declared.views.Sizes.{Sizes}
use Rattle.sdd_rights.specs.Views.{owner_seat, owner_of, right_to}
use Rattle.sdd_shared_values.specs.ValueFractions.{FractionContent}
use Rattle.sdd_shared_values.specs.Deposits.{units_at}
use Rattle.sdd_shared_values.specs.Bank.{Leaves, AllowsDeal}
use Rattle.sdd_shared_values.specs.declared.value_fraction.ValueFraction.{ValueFraction}
use Rattle.sdd_shared_values.proofs.Deposits.{draws}
use Rattle.sdd_domain_invariant.specs.Words.{slot_word}
use Rattle.sdd_domain_invariant.specs.Codes.{codes, alive, valued, counted as kind_of, shared_base, most_owners}
use Rattle.sdd_domain_invariant.specs.Epoch.{HasPlace}
use Rattle.sdd_domain_invariant.specs.Sums.{total, times}
use Rattle.sdd_domain_invariant.specs.Slots.{slot_at, owners_at, Owns, Holds}
use Rattle.sdd_domain_invariant.specs.Slots.SlotSteps.{others as tail, one_more, taken_back, Adds, TakesBack, AtSlot, Knew}
use Rattle.sdd_domain_invariant.specs.WordInvariant.{epoch_of, Parts, WordInvariant}
use Rattle.sdd_domain_invariant.proofs.Codes.{sound, shared, counted_is, some_left}
use Rattle.sdd_domain_invariant.proofs.Epoch.{at_length}
use Rattle.sdd_domain_invariant.proofs.Frame.{each_set}
use Rattle.sdd_domain_invariant.proofs.WordsWithoutFractions.{blind_seats, blind_units}
use Rattle.sdd_domain_invariant.proofs.WordsWithoutFractions as kept
use Rattle.sdd_domain_invariant.proofs.Epoch.PlaceBound.{few}
use Rattle.sdd_domain_invariant.proofs.Slots.SlotWords.{owner_in, owners_in, alone_is}
use Rattle.sdd_domain_invariant.proofs.Slots.SlotSteps.{more_one, less_one}
use Rattle.sdd_domain_invariant.proofs.Slots.SlotSteps as words
use Rattle.sdd_domain_invariant.proofs.Sums.{is_same, is_other, total_set, total_has, total_two, total_zero}
use Rattle.sdd_domain_invariant.specs.Fractions.FractionsAtHome.{Moves, full_at}
use Rattle.sdd_domain_invariant.specs.Fractions.BankInvariant.{one_where, moved_in, moves_at, drawn_at, banked, IsBank, with_ledger, ledger_of}
use Rattle.sdd_domain_invariant.specs.Slots.BoundInvariant.{over_at, BoundInvariant}
use Rattle.sdd_domain_invariant.specs.Fractions.PledgesInvariant.{HasPledge, IsLedger, booked_by, pledging, freeing, posts, IsOfOwner, IsOfCell, IsBacked, PledgesInvariant}
use Rattle.sdd_domain_invariant.specs.Slots.KindsInvariant.{KnowsKinds}
use Rattle.sdd_domain_invariant.specs.Slots.FilledInvariant.{HasRecord}
use Rattle.sdd_domain_invariant.specs.Slots.Records.{IsIn, AllShowKnown}
use Rattle.sdd_domain_invariant.specs.DomainInvariant.{DomainInvariant}
use Rattle.sdd_domain_invariant.specs.Fractions.FractionSteps.{SeatState, owning_more, untold, drawing, AddsOne, TakesOneBack, DrawsUnit, OfSlot}
use Rattle.sdd_domain_invariant.proofs.Fractions.FractionsInvariant.{none_out}
use Rattle.sdd_domain_invariant.proofs.Fractions.FractionsInvariant as part
use Rattle.sdd_domain_invariant.proofs.Slots.Records.{in_either, in_none, in_head, in_tail, known_by, telling_none, knows_none, leaves_show}
use Rattle.sdd_domain_invariant.proofs.Slots.Records as records
use Rattle.sdd_domain_invariant.proofs.Slots.FilledInvariant.{has_none, tells_none, filled_more, filled_same, filled_after}
use Rattle.sdd_domain_invariant.proofs.Counts.{as_full, uncounted, uncounted_alone, more_counts}
use Rattle.sdd_domain_invariant.proofs.Banks.{HasUnits, with_deposits, banked_then, outside_there, outside_same, moves_none, total_below}
use Rattle.sdd_domain_invariant.proofs.Banks as banks
use Rattle.sdd_domain_invariant.proofs.Slots.KindSteps.{KeepsOwner, same_owner, keeps_owner, over_none, no_pledge, has_first, knows_no_kind, knows_alike, knows_still, IsSpared, bound_more, bound_kept, pledges_by, pledges_spent, no_participants, repledges, forth}
use Rattle.sdd_domain_invariant.proofs.Cells.{no_change, cells_slot, cells_kept}
use Rattle.sdd_domain_invariant.proofs.Slots.KindSteps as kind_steps
use Rattle.sdd_domain_invariant.proofs.Slots.RecordSteps.{none_moved, one_view, owns_it}
use Rattle.sdd_domain_invariant.proofs.Seats.{nothing_out, set_front}
use Rattle.sdd_domain_invariant.proofs.Fractions.LastFractions.{shown_leaves, owned_shows, stored_as_is, stored_set, lasts_fewer, lasts_more, lasts_dealt}
use Rattle.sdd_domain_invariant.proofs.TableSteps.{Follows, lift_whole, stands, stands_dealt}
use Rattle.sdd_domain_invariant.proofs.Fractions.FractionSteps.{full_owned, still_owned}
use Rattle.sdd_domain_invariant.proofs.Fractions.FractionSteps as steps

-- ---- pledges
-- a list that has it: without it once, it has the others still
pub takes_out : (ps : List Pledge) (p : Pledge) → HasPledge p ps
    → (rest : List Pledge) × Without ps p rest × ((q : Pledge) → ¬ (p ≡ q) → HasPledge q ps → HasPledge q rest)
takes_out [] p has = absurd has
takes_out (x ∷ xs) p (inl is) = (xs, inl (is, refl), λ q ne h. ⊎_elim (λ (e : q ≡ x). absurd (ne (is ∙ sym e))) (λ (a : HasPledge q xs). a) h)
takes_out (x ∷ xs) p (inr on) = let t = takes_out xs p on in
    (x ∷ t.0, inr (t.0, t.1, refl), λ q ne h. ⊎_elim (λ (e : q ≡ x). inl e) (λ (a : HasPledge q xs). inr (t.2 q ne a)) h)

abbrev first_pledge : Pledge → List Pledge → Pledge
first_pledge p [] = p
first_pledge p (q ∷ qs) = q

abbrev first_shown : ShownValue → List ShownValue → ShownValue
first_shown r [] = r
first_shown r (x ∷ xs) = x

-- one seat at most is the ledger's
one_ledger : (vs : List View) → PledgesInvariant vs → (j k : ℕ) (b c : View) → get_elem? vs j ≡ some b → get_elem? vs k ≡ some c → IsLedger b → IsLedger c → j
    ≡ k
one_ledger vs p j k b c e e' l l' = dite (ℕ_discrete j k) (λ same. same) (λ ne. absurd (let t = total_two posts vs j k b c ne e e' in let s = p.single in
    let a = ap one_where l in let a' = ap one_where l' in omega arith))

module _ (γ : ℕ) (sizes : Sizes) where
  -- what one has of pledges changes
  repledged : (s : State ValueFraction View) → DomainInvariant γ sizes s → (id : ℕ) (v : View) → get_elem? s.views id ≡ some v → (t : PledgesView)
      → PledgesInvariant (set s.views id (record v { pledges = t }))
      → DomainInvariant γ sizes record { words = s.words; homes = s.homes; views = set s.views id (record v { pledges = t }) }
  repledged s h id v at t p = let w : View = record v { pledges = t } in
      stands γ sizes id v s h at w refl (blind_seats sizes s.words s.views id v at h.kept.parts t v.cells) s.homes
      (part.calm γ sizes s.words s.views s.homes h.homes id v at s.words w (λ j q out. out) (λ j _. refl) (h.homes.moving id v at))
      (records.calm sizes s.views s.homes h.records id v at w (refl, refl, refl, (λ _. refl), refl))
      (uncounted_alone sizes s.words s.views h.counts id v at w refl refl)
      (filled_same sizes s.views h.filled id v at w refl refl refl (λ l. l))
      (banks.alike γ sizes s.words s.views h.bank id v at s.words w (refl, refl, refl, (λ _. refl), refl) (λ _ _. refl))
      (lasts_fewer sizes s.words s.views s.homes h.lasts id v at s.words w s.homes (λ _ _ _ _ l. l) (λ b. (b, refl)) refl (λ _ live. inl live)
      (stored_as_is sizes s.words))
      (kind_steps.spends sizes s.words s.views h.kinds h.records.each id v at w
      (knows_alike sizes s.words v w (h.kinds.each id v at) refl refl (λ i m. m) (λ i o. o) (λ r a. a) (λ i a. a)) refl refl (inl (λ l. l)) refl p)

  -- a pledge of a share of a seat's view is entered, first in the ledger, where there is something to do beside the seat
  enters_by : (v : View) (bd : ℕ) (seat : View) (p : Pledge) → seat.pledges.ledger ≡ false
      → ((vs : List View) → get_elem? vs p.seat ≡ some seat → IsOfOwner vs p ⊎ IsOfCell vs p)
      → Enters (DomainInvariant γ sizes) IsLedger booked_by p v (pledging v p) bd seat
  enters_by v bd seat p no_ledger beside s b h at there ours ne owner = let t : PledgesView = record b.pledges { booked = p ∷ b.pledges.booked } in
      let b' : View = record b { pledges = t } in let old = h.kinds.pledges in let vs : List View = set s.views bd b' in
      let own : PledgesView = record v.pledges { own = p ∷ [] } in
      let far : ¬ (p.seat ≡ bd) = λ e. (let same = one_view s.views bd p.seat seat b owner there e in
      let c : false ≡ true = sym no_ledger ∙ (ap (λ (x : View). x.pledges.ledger) same ∙ ours) in cc) in
      let one = repledged s h bd b there t (repledges s.views old bd b there t refl refl (λ q m. old.backed bd b q there m) (λ _ _ _ _ _ _ has. inr has)) in
      let at' : get_elem? vs p.who ≡ some v = set_else s.views bd p.who b' ne ∙ at in
      let there' : get_elem? vs bd ≡ some b' = set_here s.views bd b' (at_length s.views bd b there) in
      let backed : IsBacked vs p.who p = record {
        own = refl;
        beside = beside vs (set_else s.views bd p.seat b' far ∙ owner);
        somewhere = (bd, b', there', ours);
        booked = λ k c e l. let is_bank : k ≡ bd = one_ledger vs one.kinds.pledges k bd c b' e there' l ours in
            subst (λ (x : View). HasPledge p x.pledges.booked) (sym (one_view vs bd k c b' e there' is_bank)) (inl refl);
      } in
      let two = repledged record { words = s.words; homes = s.homes; views = vs } one p.who v at' own
      (repledges vs one.kinds.pledges p.who v at' own refl refl (λ q m. subst (IsBacked vs p.who) (ap (first_pledge p) m) backed) (λ _ _ _ _ _ _ has. has)) in (
        b',
        subst (λ (us : List View). DomainInvariant γ sizes record { words = s.words; homes = s.homes; views = us })
            (set_comm s.views bd p.who b' (pledging v p) (λ e. ne (sym e))) two,
        ours,
        refl,
      )

  -- an owner's
  pub enters : (v : View) (bd slot : ℕ) (value : Gv) (p : Pledge) → p.view ≡ the_row.coded.code (owner_of slot true value)
      → Enters (DomainInvariant γ sizes) IsLedger booked_by p v (pledging v p) bd (owner_of slot true value)
  enters v bd slot value p is = enters_by v bd (owner_of slot true value) p refl (λ vs there. inl record {
    slot = slot;
    value = value;
    owner = owner_of slot true value;
    view = is;
    there = there;
    told = (0, refl);
    free = refl;
    nobodys = refl;
  })

  -- that of the right to a cell
  pub enters_right : (v : View) (bd cell : ℕ) (kind : CellKind) (p : Pledge) → p.view ≡ the_row.coded.code (right_to cell kind)
      → Enters (DomainInvariant γ sizes) IsLedger booked_by p v (pledging v p) bd (right_to cell kind)
  enters_right v bd cell kind p is = enters_by v bd (right_to cell kind) p refl (λ vs there. inr record {
    right = record { cell = cell; kind = kind };
    owner = right_to cell kind;
    view = is;
    there = there;
    has = (0, refl);
    nobodys = refl;
  })

  -- and taken out, from the ledger last
  pub leaves : (v : View) (bd : ℕ) (p : Pledge) → v.pledges.own ≡ p ∷ [] → LeavesLedger (DomainInvariant γ sizes) IsLedger booked_by p v (freeing v) bd
  leaves v bd p own s b h at there ours ne = let old = h.kinds.pledges in let w : View = freeing v in let vs : List View = set s.views p.who w in
      let bare : PledgesView = record v.pledges { own = [] } in
      let has : HasPledge p b.pledges.booked = (old.backed p.who v p at own).booked bd b there ours in let out = takes_out b.pledges.booked p has in
      let one = repledged s h p.who v at bare (repledges s.views old p.who v at bare refl refl
      (λ q m. absurd (let c : ◌≡◌ {A = List Pledge} [] (q ∷ []) = m in cc)) (λ _ _ _ _ _ _ has. has)) in
      let there' : get_elem? vs bd ≡ some b = set_else s.views p.who bd w (λ e. ne (sym e)) ∙ there in
      let t : PledgesView = record b.pledges { booked = out.0 } in let b' : View = record b { pledges = t } in let now = one.kinds.pledges in
      let here : get_elem? vs p.who ≡ some w = set_here s.views p.who w (at_length s.views p.who v at) in
      let gone : (i : ℕ) (u : View) (q : Pledge) → get_elem? vs i ≡ some u → u.pledges.own ≡ q ∷ [] → ¬ (p ≡ q)
      = λ i u q e m same. (let is : i ≡ p.who = sym (ap (λ (x : Pledge). x.who) same ∙ (now.backed i u q e m).own) in
      no_pledge w q refl (ap (λ (x : View). x.pledges.own) (sym (one_view vs p.who i u w e here is)) ∙ m)) in
      let two = repledged record { words = s.words; homes = s.homes; views = vs } one bd b there' t
      (repledges vs now bd b there' t refl refl (λ q m. now.backed bd b q there' m)
      (λ i u q e m _ has. out.2 q (⊎_elim (λ (c : (i ≡ bd) × (b' ≡ u)). gone bd b q there' (ap (λ (x : View). x.pledges.own) c.1 ∙ m))
      (λ (c : (i ≢ bd) × (get_elem? vs i ≡ some u)). gone i u q c.1 m) (at_set vs bd i b' u e)) has)) in (b', two, ours, out.1)

  -- a seat that has nothing comes
  pub arrives_bare : (s : State ValueFraction View) → DomainInvariant γ sizes s → (id : ℕ) (v : View) → get_elem? s.views id ≡ some v
      → DomainInvariant γ sizes record { words = s.words; homes = s.homes; views = s.views ++ owner_seat [] ∷ [] }
  arrives_bare s h id v at = let t : View = owner_seat [] in let p = h.kept.parts.slots in record {
    kept = subst (λ (us : List View). WordInvariant {S = ValueFraction} sizes record { words = s.words; homes = s.homes; views = us ++ t ∷ [] })
        (set_again s.views id v at)
        (kept.cuts sizes id v v.slots.owns v.slots.drawn [] v.fractions t.fractions (λ i. omega arith) (λ i held.
        ((p.each id v at).held i held).0) s h.kept at);
    homes = part.arrives γ sizes s.words s.views s.homes h.homes t (nothing_out t refl refl) (none_out t refl);
    records = records.arrives sizes s.views s.homes h.records t (telling_none t refl refl refl refl refl refl)
        (λ i g k. absurd (knows_none t refl refl refl i g k)) refl refl refl;
    counts = more_counts sizes s.words s.views h.counts t refl refl refl;
    filled = filled_more sizes s.views h.filled t (tells_none t s.views refl refl) (λ z. absurd (omega arith));
    bank = banks.arrives γ sizes s.words s.views h.bank t refl refl refl refl;
    lasts = lasts_more sizes s.words s.views s.homes h.lasts t (λ _. refl) (λ z. absurd (omega arith));
    kinds = kind_steps.arrives sizes s.words s.views h.kinds t (knows_no_kind sizes s.words t refl refl refl)
        record { over = refl; ledger = refl; founds = refl; own = refl; rights = refl; closes = refl };
  }

  -- nobody has a pledge as long as the ledger isn't founded
  unpledged : (vs : List View) → PledgesInvariant vs → (id : ℕ) (v : View) → get_elem? vs id ≡ some v → v.pledges.founds ≡ true
      → (i : ℕ) (u : View) (q : Pledge) → get_elem? vs i ≡ some u → ¬ (u.pledges.own ≡ q ∷ [])
  unpledged vs p id v at may i u q e m = let k = (p.backed i u q e m).somewhere in let s = p.single in let f = ap one_where may in dite (ℕ_discrete k.0 id)
      (λ same. let is : one_where v.pledges.ledger ≡ 1 = ap one_where (ap (λ (x : View). x.pledges.ledger) (sym (one_view vs id k.0 k.1 v k.2 at same)) ∙ k.3)
      in
      let a = total_has posts vs id v at in absurd (omega arith))
      (λ ne. let is : one_where k.1.pledges.ledger ≡ 1 = ap one_where k.3 in let a = total_two posts vs k.0 id k.1 v ne k.2 at in absurd (omega arith))

  -- the ledger is founded
  pub founds_ledger : (id : ℕ) (v : View) → v.pledges.founds ≡ true → Splits (DomainInvariant γ sizes) id v (with_ledger v) (ledger_of v)
  founds_ledger id v may s h at = let t0 : View = owner_seat [] in let t : View = ledger_of v in let w : View = with_ledger v in
      let vs : List View = s.views ++ t0 ∷ [] in let came = arrives_bare s h id v at in let at' = at_longer s.views (t0 ∷ []) id v at in
      let us : List View = set vs id w in let none = unpledged vs came.kinds.pledges id v at' may in
      let f = ap one_where may in let sum = total_set posts vs id v w at' in let single = came.kinds.pledges.single in
      let bare : (i : ℕ) (u : View) (q : Pledge) → get_elem? us i ≡ some u → ¬ (u.pledges.own ≡ q ∷ [])
      = λ i u q e m. (⊎_elim (λ (c : (i ≡ id) × (w ≡ u)). none id v q at' (ap (λ (x : View). x.pledges.own) c.1 ∙ m))
      (λ (c : (i ≢ id) × (get_elem? vs i ≡ some u)). none i u q c.1 m) (at_set vs id i w u e)) in
      let one = repledged record { words = s.words; homes = s.homes; views = vs } came id v at' w.pledges
      record { single = omega arith; backed = λ i u q e m. absurd (bare i u q e m) } in
      let k : ℕ = length s.views in let front : us ≡ set s.views id w ++ t0 ∷ [] = set_front s.views (t0 ∷ []) id v w at in
      let long : length (set s.views id w) ≡ k = length-set s.views id w in
      let last : get_elem? us k ≡ some t0
      = ap (λ (l : List View). get_elem? l k) front ∙ (ap (get_elem? (set s.views id w ++ t0 ∷ [])) (sym long)
      ∙ at_last (set s.views id w) t0 (length (set s.views id w)) refl) in
      let sum' = total_set posts us k t0 t last in
      let two = repledged record { words = s.words; homes = s.homes; views = us } one k t0 last t.pledges
      record {
        single = omega arith;
        backed = λ i u q e m. absurd (⊎_elim (λ (c : (i ≡ k) × (t ≡ u)). no_pledge t q refl (ap (λ (x : View). x.pledges.own) c.1 ∙ m))
            (λ (c : (i ≢ k) × (get_elem? us i ≡ some u)). bare i u q c.1 m) (at_set us k i t u e));
      } in
      subst (λ (l : List View). DomainInvariant γ sizes record { words = s.words; homes = s.homes; views = l })
      (ap (λ (l : List View). set l k t) front ∙ (ap (λ (m : ℕ). set (set s.views id w ++ t0 ∷ []) m t) (sym long)
      ∙ set-append_seam (set s.views id w) t0 [] t)) two

at_most_one : (i : ℕ) (o : Option ℕ) → moved_in i o ≤ 1
at_most_one i None = omega arith
at_most_one i (Some j) = dite (ℕ_discrete i j) (λ e. let o = is_same i j (sym e) in omega arith) (λ ne. let o = is_other i j (λ e. ne (sym e)) in omega arith)

-- ---- one owner more
module _ (slots id : ℕ) (me : SeatState) (live : HasPlace me.0.epoch) (slot : ℕ) (inside : slot < me.0.sizes.slots) (rests : me.0.fractions.moves ≡ None)
    (places : me.0.sizes.participants ≤ 1024) where
  abbrev v : View
  v = me.0

  abbrev γ : ℕ
  γ = me.0.fractions.gamma

  abbrev sizes : Sizes
  sizes = me.0.sizes

  abbrev n : ℕ
  n = me.0.sizes.participants

  abbrev i : ℕ
  i = slot_word sizes slot

  abbrev shown : Gv → ShownValue
  shown value = record { slot = slot; shared = true; value = value }

  module _ (s : State ValueFraction View) (h : DomainInvariant γ sizes s) (at : get_elem? s.views id ≡ some v) where
    abbrev x : ℕ
    x = slot_at sizes s.words slot

    -- a participant isn't a seat of owners alone
    placed : 0 < v.sizes.participants
    placed = let near = (h.kept.parts.epoch.each id v.epoch (at_map epoch_of s.views id v at)).inside live in omega arith

    -- so many have passed the count at most
    few_over : (k : ℕ) → total (over_at k) s.views ≤ n
    few_over k = let b = h.kinds.bound in let epochs = h.kept.parts.epoch in few (λ (u : View). u.epoch.place) (over_at k) s.views
        (λ j u e. at_most_one k u.slots.over)
        (λ j m u w ne e e' a c. (epochs.two j m u.epoch w.epoch ne (at_map epoch_of s.views j u e) (at_map epoch_of s.views m w e')).places
        (b.once j u e k a) (b.once m w e' k c)) n
        (λ j u e a. (epochs.each j u.epoch (at_map epoch_of s.views j u e)).inside (b.once j u e k a))

    -- so many own a slot at most, whether its word counts them or not
    few_owners : Owns v slot → (shared : Bool) → kind_of x ≡ one_where shared → alive x ≤ most_owners + total (over_at slot) s.views
    few_owners own true several = h.kinds.bound.bound slot several
    few_owners own false firm = let one = (alone_is codes sound sizes s.words s.views h.kept.parts.slots id slot v at own firm).1 in omega arith

    -- another word counts this slot's owners, one at least
    module _ (several : kind_of x ≡ 1) (left : 0 < alive x) (y : ℕ) (above : shared_base < y) where
      -- the slots are as full as before
      full_still : (j : ℕ) → j < sizes.slots → full_at sizes (set s.words i y) j ≡ full_at sizes s.words j
      full_still j low = let was = full_owned x left in let is = full_owned y (let m = (some_left y above).0 in omega arith) in dite (ℕ_discrete j slot)
          (λ e. subst (λ (k : ℕ). full_at sizes (set s.words i y) k ≡ full_at sizes s.words k) (sym e)
          (ap valued (steps.here slots id me live slot inside s.words y (steps.within slots id me live slot inside s h)) ∙ (is ∙ sym was)))
          (λ ne. steps.others slots id me live slot inside s.words y j low ne)

      -- and their kinds are
      kind_still : (j : ℕ) → kind_of (slot_at sizes (set s.words i y) j) ≡ kind_of (slot_at sizes s.words j)
      kind_still j = dite (ℕ_discrete j slot)
          (λ e. subst (λ (k : ℕ). kind_of (slot_at sizes (set s.words i y) k) ≡ kind_of (slot_at sizes s.words k)) (sym e)
          (ap kind_of (steps.here slots id me live slot inside s.words y (steps.within slots id me live slot inside s h)) ∙
          ((some_left y above).3 ∙ sym several)))
          (λ ne. ap kind_of (kind_steps.there sizes s.words s.views h.kinds h.records.each id v at slot inside y v j ne))

      -- what others know stays, as none of them moves the value
      others_know : ((j : ℕ) (u : View) → j ≢ id → get_elem? s.views j ≡ some u → ¬ (Moves u slot))
          → (j : ℕ) (u : View) → j ≢ id → get_elem? s.views j ≡ some u → KnowsKinds sizes (set s.words i y) u
      others_know still j u apart e = knows_still sizes s.words (set s.words i y) u (h.kinds.each j u e) (h.records.each j u e)
          (λ k. dite (ℕ_discrete k slot) (λ same. subst (IsSpared sizes s.words (set s.words i y) u) (sym same)
          (inr (inr (still j u apart e, kind_still slot))))
          (λ ne. inl (kind_steps.there sizes s.words s.views h.kinds h.records.each id v at slot inside y v k ne)))

      -- the bound, where it has passed the count by another number than before
      bound_then : (w : View) → HasPlace w.epoch → alive y + over_at slot v ≤ most_owners + total (over_at slot) s.views + over_at slot w
          → ((k : ℕ) → k ≢ slot → over_at k w ≡ over_at k v) → BoundInvariant sizes (set s.words i y) (set s.views id w)
      bound_then w lives sum same = record {
        bound = λ k c. dite (ℕ_discrete k slot)
            (λ e. let a = ap alive (ap (slot_at sizes (set s.words i y)) e
            ∙ steps.here slots id me live slot inside s.words y (steps.within slots id me live slot inside s h)) in
            let t = total_set (over_at slot) s.views id v w at in let z = ap (λ (m : ℕ). total (over_at m) (set s.views id w)) e in omega arith)
            (λ ne. let word = kind_steps.there sizes s.words s.views h.kinds h.records.each id v at slot inside y v k ne in let a = ap alive word in
            let t = total_set (over_at k) s.views id v w at in let o = same k ne in let b = h.kinds.bound.bound k (sym (ap kind_of word) ∙ c) in omega arith);
        once = each_set (λ u. (k : ℕ) → 0 < over_at k u → HasPlace u.epoch) (λ u. (k : ℕ) → 0 < over_at k u → HasPlace u.epoch) s.views id w
            (λ _ _. lives) (λ j u _ e. h.kinds.bound.once j u e);
      }

  -- beside the seat of one of several owners, of whose view a share is pledged
  module _ (value : Gv) (p : Pledge) (own : v.pledges.own ≡ p ∷ []) (is : p.view ≡ the_row.coded.code (owner_of slot true value)) where
    module _ (s : State ValueFraction View) (h : DomainInvariant γ sizes s) (at : get_elem? s.views id ≡ some v) where
      abbrev count : ℕ
      count = slot_at sizes s.words slot

      abbrev backed : IsBacked s.views id p
      backed = h.kinds.pledges.backed id v p at own

      -- which is of an owner's seat, as the right to a cell owns nothing
      beside : IsOfOwner s.views p
      beside = ⊎_elim (λ (o : IsOfOwner s.views p). o)
          (λ (o : IsOfCell s.views p). let e = the_row.coded.inj (owner_of slot true value) (right_to o.right.cell o.right.kind) (sym is ∙ o.view) in
          let c : ◌≡◌ {A = List ℕ} (slot ∷ []) [] = ap (λ (y : View). y.slots.owns) e in cc) backed.beside

      abbrev owner : View
      owner = beside.owner

      there_is : get_elem? s.views p.seat ≡ some owner
      there_is = beside.there

      told : HasRecord owner.fractions.owns (shown value)
      told = let o = beside in let e = the_row.coded.inj (owner_of slot true value) (owner_of o.slot true o.value) (sym is ∙ o.view) in
          subst (HasRecord owner.fractions.owns) (sym (ap (λ (y : View). first_shown (shown value) y.fractions.owns) e)) o.told

      theirs : Owns owner slot × ¬ (Moves owner slot)
      theirs = let t = told in (h.records.each p.seat owner there_is).owns slot value (t.0, shown value, t.1, refl, refl)

      several : kind_of count ≡ 1
      several = (h.kinds.each p.seat owner there_is).told (shown value) told (λ held. let c : None ≡ Some slot = sym beside.free ∙ held in cc)

      left : 0 < alive count
      left = let o = owner_in codes sound sizes s.words s.views h.kept.parts.slots p.seat slot owner there_is in let m = theirs.0 in omega arith

      above : shared_base < count
      above = let a = counted_is count several in let c = (shared count a).0 in let l = left in omega arith

      fits : count + 1 < 2 ^ 64
      fits = let a = above in let c = (some_left count a).0 in let b = h.kinds.bound.bound slot several in let f = few_over s h at slot in omega arith

      -- no participant's view is pledged
      nobodys : (k : ℕ) (q : Pledge) → IsBacked s.views k q → ¬ (q.seat ≡ id)
      nobodys = no_participants s.views h.kinds.pledges id v at (placed s h at)

      unmoved : (j : ℕ) (u : View) → get_elem? s.views j ≡ some u → ¬ (Moves u slot)
      unmoved j u e = dite (ℕ_discrete p.seat j)
          (λ same m. theirs.1 (subst (λ (z : View). Moves z slot) (one_view s.views p.seat j u owner e there_is (sym same)) m))
          (λ ne. still_owned γ sizes s h slot p.seat j owner u there_is e ne theirs.0)

      abbrev tells_more : ℕ → SeatState → Type 0
      tells_more = OfSlot (AddsOne value) i me

      -- it comes, and has passed the count by this, or not
      added : (over : Option ℕ) → v.slots.over ≡ None → ((k : ℕ) → k ≢ slot → moved_in k over ≡ 0)
          → alive (count + 1) ≤ most_owners + total (over_at slot) s.views + moved_in slot over
          → AddsOne value slot me count (owning_more slot value (one_more slot (count + 1) over v), me.1)
          → Follows γ sizes id i me tells_more s (count + 1) (one_more slot (count + 1) over v)
      added over none apart sum tells = let y : ℕ = count + 1 in let now : View = owning_more slot value (one_more slot y over v) in
          let r = h.records in let mine = r.each id v at in let t = told in let high : shared_base < y = (let a = above in omega arith) in
          let same = full_still s h at several left y high in let kinds_same = kind_still s h at several left y high in
          let known = records.mine sizes s.views s.homes r id v at in let z = over_none slot v none in record {
            fractions = now.fractions;
            act = keeps;
            valid = tt;
            homes = part.calm γ sizes s.words s.views s.homes h.homes id v at (set s.words i y) now (λ j q out. out) same (none_out now rests);
            records = records.no_more sizes s.views s.homes r id v at now (λ b. r.deposits id v at b) s.homes
                record {
                  owns = λ j g k. ⊎_elim
                      (λ (e : (slot ≡ j) × (value ≡ g)). (let o = is_same j slot e.0 in let l : Owns now j = omega arith in l, none_moved now j rests))
                      (λ (a : IsIn v.fractions.owns j g). let o = (mine.owns j g a).0 in (let l : Owns now j = omega arith in l, none_moved now j rests))
                      (in_either (shown value) v.fractions.owns j g k);
                  owned = λ j o still. dite (ℕ_discrete slot j) (λ e. (value, in_head (shown value) v.fractions.owns j value e refl))
                      (λ ne. let b = mine.owned j (let q = is_other j slot ne in omega arith) (none_moved v j rests) in
                      (b.0, in_tail (shown value) v.fractions.owns j b.0 b.1));
                  sees = mine.sees;
                  waits = mine.waits;
                  waiting = mine.waiting;
                  inside = λ j g k. ⊎_elim
                      (λ (b : IsIn now.fractions.owns j g). ⊎_elim (λ (e : (slot ≡ j) × (value ≡ g)). let here = e.0 in omega arith)
                      (λ (d : IsIn v.fractions.owns j g). mine.inside j g (inl d)) (in_either (shown value) v.fractions.owns j g b))
                      (λ (b : IsIn v.fractions.sees j g ⊎ IsIn v.fractions.waits j g). mine.inside j g (inr b)) k;
                }
                (λ j g k. known_by now j g
                (λ a. ⊎_elim (λ (e : (slot ≡ j) × (value ≡ g)). (p.seat, owner, there_is, inl (t.0, shown value, t.1, e.0, e.1)))
                (λ (b : IsIn v.fractions.owns j g). known j g (inl b)) (in_either (shown value) v.fractions.owns j g a))
                (λ a. known j g (inr (inl a))) (λ a. known j g (inr (inr a))) k)
                (λ j q z _ _ lies. inl lies) (λ j m. m) (λ j a. a);
            counts = uncounted sizes s.words s.views h.counts id v at (set s.words i y) now refl (λ l. l) (as_full sizes s.words (set s.words i y) same)
                (steps.over_slot slots id me live slot inside s h y);
            filled = filled_after sizes s.views h.filled id v at now refl (λ r x. ⊎_elim
                (λ (a : HasRecord now.fractions.owns r). ⊎_elim
                (λ (e : shown value ≡ r). (p.seat, owner, there_is, inl (subst (HasRecord owner.fractions.owns) e t)))
                (λ (b : HasRecord v.fractions.owns r). (id, v, at, inl b)) (has_first (shown value) v.fractions.owns r a))
                (λ (a : HasRecord v.fractions.waits r). (id, v, at, inr a)) x) (λ _ l. inl l);
            bank = banks.calm γ sizes s.words s.views h.bank id v at (set s.words i y) now
                record { bank = refl; founds = refl; gamma = refl; banked = refl; drawn = refl } refl (λ k. let low = h.bank.low id v at k in omega arith) same;
            lasts = lasts_fewer sizes s.words s.views s.homes h.lasts id v at (set s.words i y) now s.homes (λ _ _ _ _ l. l) (λ b. (b, refl)) refl
                (λ _ _. inl live) (stored_set sizes s.words slot y (steps.within slots id me live slot inside s h) (λ e. absurd (omega arith))
                (owned_shows y (let o = (some_left y high).0 in omega arith)) (λ _. (some_left y high).3 ∙ sym several));
            kinds = record {
              each = each_set (KnowsKinds sizes s.words) (KnowsKinds sizes (set s.words i y)) s.views id now
                  record {
                    long = steps.wrote_long slots id me live slot inside s h at y;
                    sole = λ j m. absurd (none_moved now j rests m);
                    claimed = λ j m. absurd (none_moved now j rests m);
                    told = λ r a loose. ⊎_elim
                        (λ (e : shown value ≡ r). subst (λ (m : ShownValue). kind_of (slot_at sizes (set s.words i y) m.slot) ≡ one_where m.shared) e
                        (kinds_same slot ∙ several))
                        (λ (b : HasRecord v.fractions.owns r). kinds_same r.slot ∙ (h.kinds.each id v at).told r b loose)
                        (has_first (shown value) v.fractions.owns r a);
                  }
                  (others_know s h at several left y high (λ j u _ e. unmoved j u e));
              bound = bound_then s h at several left y high now live (omega arith) (λ k ne. apart k ne ∙ sym (over_none k v none));
              pledges = pledges_by s.views h.kinds.pledges id v now at refl (λ k q b u e _. forth s.views h.kinds.pledges id v now at KeepsOwner
                  record { sizes = refl; cells = refl; records = λ _ r a. (suc a.0, a.1); holds = λ _. refl } same_owner q.seat u e);
              cells = cells_kept sizes s.words s.views h.kinds.cells id v now at (set s.words i y) (cells_slot sizes s.words slot y) (λ j _. kinds_same j) refl
                  refl;
            };
            tells = steps.at_once slots id me live slot inside (AddsOne value) count (now, me.1) tells;
          }

      -- it is taken back
      taken : v.slots.owns ≡ slot ∷ [] → v.slots.drawn ≡ [] → v.slots.over ≡ Some slot → 1 < alive count → Knew slot v count
          → Follows γ sizes id i me (OfSlot TakesOneBack i me) s (count - 1) (taken_back slot (count - 1) v)
      taken owns empty over more knew = let y : ℕ = count - 1 in let now : View = untold (taken_back slot y v) in
          let r = h.records in let mine = r.each id v at in let was = (some_left count above).0 in
          let high : shared_base < y = (let a = above in omega arith) in
          let next = (some_left y high).0 in
          let same = full_still s h at several left y high in let known = records.mine sizes s.views s.homes r id v at in
          let passed = λ (k : ℕ). ap (moved_in k) over in let b = h.kinds.bound.bound slot several in let one = is_same slot slot refl in
          let o = passed slot in record {
            fractions = now.fractions;
            act = keeps;
            valid = tt;
            homes = part.calm γ sizes s.words s.views s.homes h.homes id v at (set s.words i y) now (λ j q out. out) same (none_out now rests);
            records = records.no_more sizes s.views s.homes r id v at now (λ b. r.deposits id v at b) s.homes
                record {
                  owns = λ j g k. absurd (in_none j g k);
                  owned = λ j o _. absurd (let e = ap (λ (l : List ℕ). times j (tail l)) owns in omega arith);
                  sees = mine.sees;
                  waits = mine.waits;
                  waiting = mine.waiting;
                  inside = λ j g k. ⊎_elim (λ (b : IsIn now.fractions.owns j g). absurd (in_none j g b))
                      (λ (b : IsIn v.fractions.sees j g ⊎ IsIn v.fractions.waits j g). mine.inside j g (inr b)) k;
                }
                (λ j g k. known_by now j g (λ a. absurd (in_none j g a)) (λ a. known j g (inr (inl a))) (λ a. known j g (inr (inr a))) k)
                (λ j q z _ _ lies. inl lies) (λ j m. m) (λ j a. a);
            counts = uncounted sizes s.words s.views h.counts id v at (set s.words i y) now refl (λ l. l) (as_full sizes s.words (set s.words i y) same)
                (steps.over_slot slots id me live slot inside s h y);
            filled = filled_after sizes s.views h.filled id v at now refl (λ r x. ⊎_elim
                (λ (a : HasRecord [] r). absurd (has_none r [] refl a)) (λ (a : HasRecord v.fractions.waits r). (id, v, at, inr a)) x) (λ _ l. inl l);
            bank = banks.calm γ sizes s.words s.views h.bank id v at (set s.words i y) now
                record { bank = refl; founds = refl; gamma = refl; banked = refl; drawn = refl } refl (λ k. let z = ap (times k) empty in omega arith) same;
            lasts = lasts_fewer sizes s.words s.views s.homes h.lasts id v at (set s.words i y) now s.homes (λ _ _ _ _ l. l) (λ b. (b, refl)) refl
                (λ _ _. inl live) (stored_set sizes s.words slot y (steps.within slots id me live slot inside s h) (λ e. absurd (omega arith))
                (owned_shows y (let o = (some_left y high).0 in omega arith)) (λ _. (some_left y high).3 ∙ sym several));
            kinds = record {
              each = each_set (KnowsKinds sizes s.words) (KnowsKinds sizes (set s.words i y)) s.views id now
                  record {
                    long = steps.wrote_long slots id me live slot inside s h at y;
                    sole = λ j m. absurd (none_moved now j rests m);
                    claimed = λ j m. absurd (none_moved now j rests m);
                    told = λ r a. absurd (has_none r [] refl a);
                  }
                  (others_know s h at several left y high (λ j u _ e. unmoved j u e));
              bound = bound_then s h at several left y high now live (omega arith)
                  (λ k ne. let z = passed k in let q = is_other k slot (λ e. ne (sym e)) in omega arith);
              pledges = pledges_spent s.views h.kinds.pledges id v now at refl nobodys;
              cells = cells_kept sizes s.words s.views h.kinds.cells id v now at (set s.words i y) (cells_slot sizes s.words slot y)
                  (λ j _. kind_still s h at several left y high j) refl refl;
            };
            tells = steps.at_once slots id me live slot inside TakesOneBack count (now, me.1) (refl, knew);
          }

    -- one owner more, by one addition, beside the owner whose seat's view is pledged
    pub adds : v.slots.over ≡ None → Allows (DomainInvariant γ sizes) slots id me i more_one (OfSlot (AddsOne value) i me)
    adds none = let told_more : ℕ → SeatState → Type 0 = OfSlot (AddsOne value) i me in lift_whole γ sizes slots id me i more_one (AtSlot Adds i v) told_more
        (steps.spares slots id me live slot inside more_one (AtSlot Adds i v) (λ r w t. let c = t slot refl in dite (dec_lt (alive r) most_owners)
        (λ fewer. ap (λ (u : View). u.places) (c.2 fewer)) (λ many. ap (λ (u : View). u.places) (c.3 (omega arith)))))
        (λ s h at small. words.adds_owner id v live slot inside s.words s.views h.kept.parts at (several s h at) (left s h at) (fits s h at))
        (λ s w h at t. let c = t slot refl in let x : ℕ = slot_at sizes s.words slot in let f = fits s h at in let a = above s h at in
        let wraps : more_one x ≡ x + 1 = omega arith in let was = (some_left x a).0 in let next = (some_left (x + 1) (omega arith)).0 in
        let b = h.kinds.bound.bound slot (several s h at) in let one = is_same slot slot refl in
        subst (λ (y : ℕ). Follows γ sizes id i me told_more s y w) (sym wraps) (dite (dec_lt (alive x) most_owners)
        (λ fewer. subst (Follows γ sizes id i me told_more s (x + 1)) (sym (c.2 fewer)) (added s h at None none (λ _ _. refl) (omega arith)
        (c.0, c.1, (λ _. refl), (λ many. absurd (omega arith)), c.4)))
        (λ many. subst (Follows γ sizes id i me told_more s (x + 1)) (sym (c.3 (omega arith))) (added s h at (Some slot) none
        (λ k ne. is_other k slot (λ e. ne (sym e))) (omega arith) (c.0, c.1, (λ fewer. absurd (many fewer)), (λ _. refl), c.4)))))

    -- and taken back, by one subtraction
    pub takes_back : v.slots.owns ≡ slot ∷ [] → v.slots.drawn ≡ [] → v.slots.over ≡ Some slot
        → Allows (DomainInvariant γ sizes) slots id me i less_one (OfSlot TakesOneBack i me)
    takes_back owns empty over = let told_less : ℕ → SeatState → Type 0 = OfSlot TakesOneBack i me in
        let then : ℕ → View → Type 0 = λ x w. AtSlot TakesBack i v x w × (x < 2 ^ 64) in
        let more : (s : State ValueFraction View) (h : DomainInvariant γ sizes s) → get_elem? s.views id ≡ some v → 1 < alive (slot_at sizes s.words slot)
        = λ s h at. (let b = backed s h at in let both = owners_in codes sound sizes s.words s.views h.kept.parts.slots id p.seat slot v (owner s h at)
        (λ e. nobodys s h at id p b (sym e)) at (there_is s h at) in let mine = owns_it v slot owns in let t = (theirs s h at).0 in omega arith) in
        lift_whole γ sizes slots id me i less_one then told_less
        (steps.spares slots id me live slot inside less_one then (λ r w t. ap (λ (u : View). u.places) (t.0 slot refl).0))
        (λ s h at small. let step = words.takes_back id v live slot inside s.words s.views h.kept.parts at (several s h at) [] owns (more s h at) small in
        (step.0, step.1, (step.2, small)))
        (λ s w h at t. let c = t.0 slot refl in let x : ℕ = slot_at sizes s.words slot in let a = above s h at in let low = t.1 in
        let wraps : less_one x ≡ x - 1 = omega arith in
        subst (λ (y : ℕ). Follows γ sizes id i me told_less s y w) (sym wraps)
        (subst (Follows γ sizes id i me told_less s (x - 1)) (sym c.0) (taken s h at owns empty over (more s h at) c.1)))

  -- an owner draws its unit, which it hasn't: there is more in the bank, as owners are few
  pub draws_unit : (shared : Bool) (value : Gv) → HasRecord v.fractions.owns (record { slot = slot; shared = shared; value = value }) → ¬ (Holds v slot)
      → v.slots.drawn ≡ [] → (bd : ℕ)
      → AllowsDeal (DomainInvariant γ sizes) Leaves IsBank banked slots id me bd (λ _. Unit {0}) (DrawsUnit slot me)
  draws_unit shared value told free empty bd s b h _ at there bank ne = let w : View = drawing slot v in let x : ℕ = slot_at sizes s.words slot in
      let r : ShownValue = record { slot = slot; shared = shared; value = value } in
      let p = h.kept.parts.slots in let mine = h.records.each id v at in
      let own : Owns v slot = (mine.owns slot value (told.0, r, told.1, refl, refl)).0 in
      let owned_now = owner_in codes sound sizes s.words s.views p id slot v at in let filled = full_owned x (omega arith) in
      let unmoved : (j : ℕ) (u : View) → get_elem? s.views j ≡ some u → ¬ (Moves u slot)
      = λ j u e. dite (ℕ_discrete id j) (λ same m. none_moved v slot rests (subst (λ (z : View). Moves z slot) (one_view s.views id j u v e at (sym same)) m))
      (λ apart. still_owned γ sizes s h slot id j v u at e apart own) in
      let nobody = total_zero (moves_at slot) s.views (λ j u e. moves_none slot u (unmoved j u e)) in
      let was = outside_there sizes s.words s.views slot (λ none. omega arith) nobody in
      let balance = h.bank.banks bd b there bank in let sum = balance.sums slot inside in let none = ap (times slot) empty in
      let vs : List View = set s.views id w in let same = is_same slot slot refl in
      let low = total_below (drawn_at slot) (owners_at slot) vs (λ j u e. ⊎_elim
      (λ (c : (j ≡ id) × (w ≡ u)). subst (λ (z : View). drawn_at slot z ≤ owners_at slot z) c.1 (omega arith))
      (λ (c : (j ≢ id) × (get_elem? s.views j ≡ some u)). h.bank.low j u c.1 slot) (at_set s.views id j w u e)) in
      let drawn_one = total_set (drawn_at slot) s.views id v w at in let owners_same = total_set (owners_at slot) s.views id v w at in
      let owned_all = p.owned slot in let passed = few_over s h at slot in
      let bounded : alive x ≤ most_owners + total (over_at slot) s.views = few_owners s h at own shared ((h.kinds.each id v at).told r told free) in
      let d = draws γ slot 1 (banked b) balance.deposits (omega arith) (omega arith) in let l : FractionContent = d.0 in let ls : List FractionContent = d.1 in
      let one : l.units ≡ 1 = d.2 in let goes = d.3 in
      let came = records.no_more sizes s.views s.homes h.records id v at w (λ is. h.records.deposits id v at is) s.homes
      record { owns = mine.owns; owned = mine.owned; sees = mine.sees; waits = mine.waits; waiting = mine.waiting; inside = mine.inside }
      (records.mine sizes s.views s.homes h.records id v at) (λ j q z _ _ lies. inl lies) (λ j m. m) (λ j a. a) in
      let left = leaves_show vs (banked b) l ls goes.goes (came.deposits bd b (set_else s.views id bd w (λ e. ne (sym e)) ∙ there) bank) in
      let shown_then = subst (AllShowKnown vs) (sym (banked_then γ ls b balance.gamma goes.deposits)) left.1 in
      let shows : (g : Gv) → IsIn v.fractions.owns slot g → l.shown ≡ g
      = λ g is. left.0 g (id, w, set_here s.views id w (at_length s.views id v at), inl (is.0, is.1, is.2, is.3 ∙ sym goes.number, is.4)) in
      let vs' : List View = set vs bd (with_deposits ls b) in record {
        view = w;
        bank = with_deposits ls b;
        content = l;
        act = keeps;
        valid = tt;
        holds = stands_dealt γ sizes id v s h at w refl
            (blind_units sizes s.words s.views id v v at (subst (Parts sizes s.words) (sym (set_again s.views id v at)) h.kept.parts) w.fractions w.slots.drawn)
            s.homes
            (part.calm γ sizes s.words s.views s.homes h.homes id v at s.words w (λ j q out. out) (λ j _. refl) (h.homes.moving id v at))
            came
            (uncounted_alone sizes s.words s.views h.counts id v at w refl refl) (filled_same sizes s.views h.filled id v at w refl refl refl (λ z. z))
            (kind_steps.same sizes s.words s.views h.kinds h.records.each id v at w refl refl refl refl refl refl s.words (no_change sizes s.words)
            (steps.post slots id me live s h at w refl refl refl refl (λ z. z))) bd b there ne ls shown_then
            (banks.deals γ sizes s.words s.views h.bank id v at bd b there bank ne w ls goes.deposits refl refl
            (λ k. dite (ℕ_discrete k slot)
            (λ e. let o = is_same k slot (sym e) in let z = ap (times k) empty in let m = ap (λ (j : ℕ). times j v.slots.owns) e in omega arith)
            (λ apart. let o = is_other k slot (λ e. apart (sym e)) in let low = h.bank.low id v at k in omega arith))
            (λ k near. let u = outside_same sizes s.words s.words s.views vs' k refl
            (let t = banks.total_dealt γ sizes s.words s.views h.bank id v at bd b there bank ne (moves_at k) w ls refl in omega arith) in dite
            (ℕ_discrete k slot)
            (λ e. let o = is_same k slot (sym e) in let less = goes.less in let a = ap (λ (m : ℕ). units_at m ls) e in
            let c = ap (λ (m : ℕ). units_at m (banked b)) e in omega arith)
            (λ apart. let o = is_other k slot (λ e. apart (sym e)) in let kept_as = goes.others k apart in omega arith)))
            (lasts_dealt sizes s.words (set s.views id w) s.homes
            (lasts_fewer sizes s.words s.views s.homes h.lasts id v at s.words w s.homes (λ _ _ _ _ l. l) (λ b. (b, refl)) refl (λ _ _. inl live)
            (stored_as_is sizes s.words))
            γ bd b (set_else s.views id bd w (λ e. ne (sym e)) ∙ there) bank ls balance.gamma goes.deposits
            (λ k z low last show. (shown_leaves k z.content.shown (banked b) l ls goes.goes show).0));
        ours = bank;
        goes = subst (Leaves (banked b) l) (sym (banked_then γ ls b balance.gamma goes.deposits)) goes.goes;
        offered = tt;
        then = (refl, refl, λ g told i. record l { gamma = goes.gamma i; number = goes.number i; shown = shows g told i; units = one i; lent = goes.free i });
      }
