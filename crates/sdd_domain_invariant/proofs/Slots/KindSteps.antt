-- The kinds' part after one step of one participant, and after seats come and go
use Rattle.std.proofs.Common.{◌≡◌, ◌≢◌, ◌⊎◌, inl, inr, ℕ, zero, suc, ◌<◌, Bool, List, [], ◌∷◌, ◌++◌, length, get_or, set, sym, refl, ap, ◌∙◌, subst, ⊎_elim, arith, length-set, get_or-set_other, get_or-set_same, ◌+◌, ◌≤◌, true, false}
use Rattle.std.specs.Prelude.{Option, Some, None, false}
use mathlib.Core.Option.{some, some-injective}
use base.Stored.{Gv}
use mathlib.Core.Logic.{dite}
use native.Mathlib.Decide.{ℕ_discrete}
use lib.ListN.{get_elem?}
use Rattle.sdd_rights.specs.declared.views.ShownValue.{ShownValue}
use Rattle.sdd_rights.specs.declared.views.CellsView.{CellsView}
use Rattle.sdd_rights.specs.declared.views.FractionsView.{FractionsView}
use Rattle.sdd_rights.specs.declared.views.PledgesView.{PledgesView}
use Rattle.sdd_rights.specs.declared.views.View.{View}
use Rattle.sdd_rights.specs.declared.views.Sizes.{Sizes}
use Rattle.sdd_domain_invariant.specs.Words.{slot_word, words_behind}
use Rattle.sdd_domain_invariant.specs.Sums.{times}
use Rattle.sdd_domain_invariant.specs.Codes.{alive, counted, most_owners}
use Rattle.sdd_domain_invariant.specs.Slots.{slot_at, Owns, Holds}
use Rattle.sdd_domain_invariant.specs.Slots.SlotSteps.{behind, noted}
use Rattle.sdd_domain_invariant.specs.Epoch.{HasPlace}
use Rattle.sdd_domain_invariant.proofs.Sums.{total_set, total_snoc}
use Rattle.sdd_domain_invariant.proofs.Epoch.{at_length}
use Rattle.sdd_domain_invariant.proofs.Frame.{each_set, each_snoc}
use Rattle.sdd_witness.specs.Ledger.{Pledge}
use Rattle.atomic_table.proofs.Lists.{at_set, at_snoc, at_longer, set_else, set_here}
use Rattle.sdd_domain_invariant.specs.Fractions.FractionsAtHome.{Moves}
use Rattle.sdd_domain_invariant.specs.Fractions.BankInvariant.{one_where, moved_in}
use Rattle.sdd_domain_invariant.specs.Slots.BoundInvariant.{over_at, BoundInvariant}
use Rattle.sdd_domain_invariant.specs.Fractions.PledgesInvariant.{HasPledge, IsLedger, posts, IsOfOwner, IsOfCell, IsBacked, PledgesInvariant}
use Rattle.sdd_domain_invariant.specs.Cells.CellsInvariant.{IsInCell}
use Rattle.sdd_domain_invariant.specs.Slots.FilledInvariant.{HasRecord}
use Rattle.sdd_domain_invariant.specs.Slots.Records.{IsTelling}
use Rattle.sdd_domain_invariant.specs.Fractions.FractionSteps.{making, resting, telling, drawing}
use Rattle.sdd_domain_invariant.specs.Slots.KindsInvariant.{written, KnowsKinds, KindsInvariant}
use Rattle.sdd_domain_invariant.proofs.Cells.{SameCells, KeepsKinds, SameWords, no_change, cells_slot, cells_more, cells_kept}
use Rattle.sdd_domain_invariant.proofs.Slots.Records.{IsAlike}
use Rattle.sdd_domain_invariant.proofs.Slots.FilledInvariant.{has_none}
use Rattle.sdd_domain_invariant.proofs.Slots.RecordSteps.{one_moved, none_moved, one_view}

-- what is written of a slot is read there
pub written_now : (v : View) (slot y : ℕ) → slot < v.sizes.slots → length v.words ≡ words_behind v.sizes → get_or (noted slot y v) (behind v.sizes slot) 0 ≡ y
written_now v slot y inside long = get_or-set_same v.words (behind v.sizes slot) y 0 (omega arith)

-- one with no record, which moves nothing
pub knows_no_kind : (sizes : Sizes) (ws : List ℕ) (w : View) → length w.words ≡ words_behind w.sizes → w.fractions.moves ≡ None → w.fractions.owns ≡ []
    → KnowsKinds sizes ws w
knows_no_kind sizes ws w long rests none = record {
  long = long;
  sole = λ i m. absurd (none_moved w i rests m);
  claimed = λ i m. absurd (none_moved w i rests m);
  told = λ r h. absurd (has_none r w.fractions.owns none h);
}

-- how a step on words leaves a slot to another participant: the word stays, or it has no owner there, or it moves no value and owners are counted as before
abbrev pub IsSpared : Sizes → List ℕ → List ℕ → View → ℕ → Type 0
IsSpared sizes ws ws' u i = (slot_at sizes ws' i ≡ slot_at sizes ws i)
    ⊎ (¬ (Owns u i) ⊎ (¬ (Moves u i) × (counted (slot_at sizes ws' i) ≡ counted (slot_at sizes ws i))))

module _ (sizes : Sizes) (ws ws' : List ℕ) (u : View) (k : KnowsKinds sizes ws u) (tells : IsTelling sizes.slots u)
    (spared : (i : ℕ) → IsSpared sizes ws ws' u i) where
  pub knows_still : KnowsKinds sizes ws' u
  knows_still = record {
    long = k.long;
    sole = λ i m o. ⊎_elim (λ (t : slot_at sizes ws' i ≡ slot_at sizes ws i). ap alive t ∙ k.sole i m o)
        (λ (r : ¬ (Owns u i) ⊎ (¬ (Moves u i) × (counted (slot_at sizes ws' i) ≡ counted (slot_at sizes ws i)))). ⊎_elim
        (λ (t : ¬ (Owns u i)). absurd (t o))
        (λ (t : ¬ (Moves u i) × (counted (slot_at sizes ws' i) ≡ counted (slot_at sizes ws i))). absurd (t.0 m)) r) (spared i);
    claimed = λ i m o free. ⊎_elim (λ (t : slot_at sizes ws' i ≡ slot_at sizes ws i). ap counted t ∙ k.claimed i m o free)
        (λ (r : ¬ (Owns u i) ⊎ (¬ (Moves u i) × (counted (slot_at sizes ws' i) ≡ counted (slot_at sizes ws i)))). ⊎_elim
        (λ (t : ¬ (Owns u i)). absurd (t o))
        (λ (t : ¬ (Moves u i) × (counted (slot_at sizes ws' i) ≡ counted (slot_at sizes ws i))). absurd (t.0 m)) r) (spared i);
    told = λ r h free. let own = (tells.owns r.slot r.value (h.0, r, h.1, refl, refl)).0 in
        ⊎_elim (λ (t : slot_at sizes ws' r.slot ≡ slot_at sizes ws r.slot). ap counted t ∙ k.told r h free)
        (λ (q : ¬ (Owns u r.slot) ⊎ (¬ (Moves u r.slot) × (counted (slot_at sizes ws' r.slot) ≡ counted (slot_at sizes ws r.slot)))). ⊎_elim
        (λ (t : ¬ (Owns u r.slot)). absurd (t own))
        (λ (t : ¬ (Moves u r.slot) × (counted (slot_at sizes ws' r.slot) ≡ counted (slot_at sizes ws r.slot))). t.1 ∙ k.told r h free) q) (spared r.slot);
  }

-- what one knows stays, as long as it has the words, moves what it moved, owns what it owned, tells no more of it, and holds what it held
pub knows_alike : (sizes : Sizes) (ws : List ℕ) (v w : View) → KnowsKinds sizes ws v → w.sizes ≡ v.sizes → w.words ≡ v.words
    → ((i : ℕ) → Moves w i → Moves v i) → ((i : ℕ) → Owns w i → Owns v i)
    → ((r : ShownValue) → HasRecord w.fractions.owns r → HasRecord v.fractions.owns r) → ((i : ℕ) → Holds v i → Holds w i) → KnowsKinds sizes ws w
knows_alike sizes ws v w k of_same words_same moves owns tells holds = record {
  long = let e = ap length words_same in let e' = ap words_behind of_same in omega arith;
  sole = λ i m o. k.sole i (moves i m) (owns i o);
  claimed = λ i m o free. k.claimed i (moves i m) (owns i o) (λ h. free (holds i h))
      ∙ (λ d. counted (get_or (sym words_same d) (behind (sym of_same d) i) 0));
  told = λ r h free. k.told r (tells r h) (λ a. free (holds r.slot a));
}

-- ---- counts and pledges
-- it has raised no count past the bound, has no pledge and no right to a cell, closes no collector, nor is it the ledger's, or may found it
pub record HasNoPost (t : View) : Type 0 where
  pub over : t.slots.over ≡ None
  pub ledger : t.pledges.ledger ≡ false
  pub founds : t.pledges.founds ≡ false
  pub own : t.pledges.own ≡ []
  pub rights : t.cells.rights ≡ []
  pub closes : t.slots.closes ≡ None

-- the slot whose count it has raised past the bound, and the collector that it closes
abbrev pub marks_of : View → Option ℕ × Option ℕ
marks_of v = (v.slots.over, v.slots.closes)

-- what it has of these stays; and the records of owners, where it is no participant's
pub record KeepsPost (v w : View) : Type 0 where
  pub pledges : w.pledges ≡ v.pledges
  pub marks : marks_of w ≡ marks_of v
  pub sizes : w.sizes ≡ v.sizes
  pub cells : w.cells ≡ v.cells
  pub place : (HasPlace v.epoch → HasPlace w.epoch) ⊎ (v.slots.over ≡ None)
  pub records : v.sizes.participants ≡ 0 → (r : ShownValue) → HasRecord v.fractions.owns r → HasRecord w.fractions.owns r
  pub holds : v.sizes.participants ≡ 0 → w.slots.holds ≡ v.slots.holds

-- nothing of these is touched
pub same_post : (v w : View) → w.pledges ≡ v.pledges → marks_of w ≡ marks_of v → w.sizes ≡ v.sizes → w.cells ≡ v.cells
    → (HasPlace v.epoch → HasPlace w.epoch) → w.fractions.owns ≡ v.fractions.owns → w.slots.holds ≡ v.slots.holds → KeepsPost v w
same_post v w pledges marked of rights lives told holds = record {
  pledges = pledges;
  marks = marked;
  sizes = of;
  cells = rights;
  place = inl lives;
  records = λ _ r h. subst (λ (l : List ShownValue). HasRecord l r) (sym told) h;
  holds = λ _. holds;
}

-- it keeps what a pledge of its view rests on, where it is no participant's
pub record KeepsOwner (v w : View) : Type 0 where
  pub sizes : w.sizes ≡ v.sizes
  pub cells : w.cells ≡ v.cells
  pub records : v.sizes.participants ≡ 0 → (r : ShownValue) → HasRecord v.fractions.owns r → HasRecord w.fractions.owns r
  pub holds : v.sizes.participants ≡ 0 → w.slots.holds ≡ v.slots.holds

pub keeps_owner : (v w : View) → KeepsPost v w → KeepsOwner v w
keeps_owner v w k = record { sizes = k.sizes; cells = k.cells; records = k.records; holds = k.holds }

pub same_owner : (v : View) → KeepsOwner v v
same_owner v = record { sizes = refl; cells = refl; records = λ _ r a. a; holds = λ _. refl }

-- how a step leaves the count of a slot: within the bound, or no greater than it was
abbrev pub IsWithin : ℕ → ℕ → Type 0
IsWithin x y = counted y ≡ 1 → (alive y ≤ most_owners) ⊎ ((counted x ≡ 1) × (alive y ≤ alive x))

-- where the word stays it is so
pub same_within : (x y : ℕ) → y ≡ x → IsWithin x y
same_within x y e c = let a = ap alive e in inr (sym (ap counted e) ∙ c, omega arith)

pub over_none : (i : ℕ) (v : View) → v.slots.over ≡ None → over_at i v ≡ 0
over_none i v e = ap (moved_in i) e

no_post : (t : View) → HasNoPost t → posts t ≡ 0
no_post t n = λ d. one_where (n.ledger d) + one_where (n.founds d)

pub no_pledge : (v : View) (p : Pledge) → v.pledges.own ≡ [] → ¬ (v.pledges.own ≡ p ∷ [])
no_pledge v p none e = let c : ◌≡◌ {A = List Pledge} [] (p ∷ []) = sym none ∙ e in cc

module _ (sizes : Sizes) (ws : List ℕ) (vs : List View) (b : BoundInvariant sizes ws vs) where
  pub bound_more : (t : View) → t.slots.over ≡ None → BoundInvariant sizes ws (vs ++ t ∷ [])
  bound_more t none = record {
    bound = λ i c. let a = total_snoc (over_at i) vs t in let z = over_none i t none in let o = b.bound i c in omega arith;
    once = each_snoc (λ v. (i : ℕ) → 0 < over_at i v → HasPlace v.epoch) vs t b.once (λ i more. absurd (let z = over_none i t none in omega arith));
  }

  pub bound_kept : (id : ℕ) (v : View) → get_elem? vs id ≡ some v → (ws' : List ℕ) (w : View) → ((i : ℕ) → IsWithin (slot_at sizes ws i) (slot_at sizes ws' i))
      → w.slots.over ≡ v.slots.over → (HasPlace v.epoch → HasPlace w.epoch) ⊎ (v.slots.over ≡ None) → BoundInvariant sizes ws' (set vs id w)
  bound_kept id v at ws' w within over lives = record {
    bound = λ i c. let a = total_set (over_at i) vs id v w at in let e = ap (moved_in i) over in ⊎_elim
        (λ (low : alive (slot_at sizes ws' i) ≤ most_owners). omega arith)
        (λ (t : (counted (slot_at sizes ws i) ≡ 1) × (alive (slot_at sizes ws' i) ≤ alive (slot_at sizes ws i))). let o = b.bound i t.0 in
        let l = t.1 in omega arith)
        (within i c);
    once = each_set (λ x. (i : ℕ) → 0 < over_at i x → HasPlace x.epoch) (λ x. (i : ℕ) → 0 < over_at i x → HasPlace x.epoch) vs id w
        (λ i more. let e = ap (moved_in i) over in ⊎_elim (λ (f : HasPlace v.epoch → HasPlace w.epoch). f (b.once id v at i (omega arith)))
        (λ (none : v.slots.over ≡ None). absurd (let z = over_none i v none in omega arith)) lives)
        (λ j u _ e. b.once j u e);
  }

module _ (vs : List View) (p : PledgesInvariant vs) where
  -- how a pledge stays backed
  pub carried : (vs' : List View) (i : ℕ) (q : Pledge) → IsBacked vs i q
      → ((x : View) → get_elem? vs q.seat ≡ some x → x.sizes.participants ≡ 0 → (x' : View) × (get_elem? vs' q.seat ≡ some x') × KeepsOwner x x')
      → ((j : ℕ) (b : View) → get_elem? vs j ≡ some b → IsLedger b → (b' : View) × (get_elem? vs' j ≡ some b') × IsLedger b')
      → ((j : ℕ) (b : View) → get_elem? vs' j ≡ some b → IsLedger b → HasPledge q b.pledges.booked) → IsBacked vs' i q
  carried vs' i q B still ledgers books = let l = ledgers B.somewhere.0 B.somewhere.1 B.somewhere.2 B.somewhere.3 in record {
    own = B.own;
    beside = ⊎_elim
        (λ (o : IsOfOwner vs q). let n = still o.owner o.there o.nobodys in let k = n.2 in inl record {
          slot = o.slot;
          value = o.value;
          owner = n.0;
          view = o.view;
          there = n.1;
          told = k.records o.nobodys (record { slot = o.slot; shared = true; value = o.value }) o.told;
          free = k.holds o.nobodys ∙ o.free;
          nobodys = ap (λ (z : Sizes). z.participants) k.sizes ∙ o.nobodys;
        })
        (λ (o : IsOfCell vs q). let n = still o.owner o.there o.nobodys in let k = n.2 in inr record {
          right = o.right;
          owner = n.0;
          view = o.view;
          there = n.1;
          has = (o.has.0, ap (λ (c : CellsView). get_elem? c.rights o.has.0) k.cells ∙ o.has.1);
          nobodys = ap (λ (z : Sizes). z.participants) k.sizes ∙ o.nobodys;
        }) B.beside;
    somewhere = (B.somewhere.0, l.0, l.1, l.2);
    booked = books;
  }

  -- no participant's view is pledged
  pub no_participants : (id : ℕ) (v : View) → get_elem? vs id ≡ some v → 0 < v.sizes.participants → (i : ℕ) (q : Pledge) → IsBacked vs i q
      → ¬ (q.seat ≡ id)
  no_participants id v at placed i q B e = let same : (x : View) → get_elem? vs q.seat ≡ some x → x.sizes.participants ≡ v.sizes.participants
      = λ x there. ap (λ (y : View). y.sizes.participants) (one_view vs id q.seat x v there at e) in ⊎_elim
      (λ (o : IsOfOwner vs q). let z = o.nobodys in let s = same o.owner o.there in absurd (omega arith))
      (λ (o : IsOfCell vs q). let z = o.nobodys in let s = same o.owner o.there in absurd (omega arith)) B.beside

  pub pledges_more : (t : View) → HasNoPost t → PledgesInvariant (vs ++ t ∷ [])
  pledges_more t none = let us : List View = vs ++ t ∷ [] in record {
    single = let a = total_snoc posts vs t in let z = no_post t none in let o = p.single in omega arith;
    backed = λ i u q e m. ⊎_elim
        (λ (old : get_elem? vs i ≡ some u). carried us i q (p.backed i u q old m)
        (λ x there _. (x, at_longer vs (t ∷ []) q.seat x there, same_owner x)) (λ j b there l. (b, at_longer vs (t ∷ []) j b there, l))
        (λ j b e l. ⊎_elim (λ (r : get_elem? vs j ≡ some b). (p.backed i u q old m).booked j b r l)
        (λ (r : t ≡ b). absurd (let c : false ≡ true = sym none.ledger ∙ (ap (λ (x : View). x.pledges.ledger) r ∙ l) in cc)) (at_snoc vs t b j e)))
        (λ (new : t ≡ u). absurd (no_pledge t q none.own (ap (λ (x : View). x.pledges.own) new ∙ m))) (at_snoc vs t u i e);
  }

  module _ (id : ℕ) (v w : View) (at : get_elem? vs id ≡ some v) where
    -- read forward
    pub forth : (F : View → View → Type 0) → F v w → ((u : View) → F u u) → (j : ℕ) (u : View) → get_elem? vs j ≡ some u
        → (u' : View) × (get_elem? (set vs id w) j ≡ some u') × F u u'
    forth F on same j u e = dite (ℕ_discrete j id)
        (λ is. (
          w,
          subst (λ (m : ℕ). get_elem? (set vs id w) m ≡ some w) (sym is) (set_here vs id w (at_length vs id v at)),
          subst (λ (x : View). F x w) (some-injective v u (sym at ∙ (ap (get_elem? vs) (sym is) ∙ e))) on,
        ))
        (λ ne. (u, set_else vs id j w ne ∙ e, same u))

    -- what it has of pledges stays, and a view that is pledged keeps what it has
    pub pledges_by : w.pledges ≡ v.pledges → ((i : ℕ) (q : Pledge) → IsBacked vs i q → (x : View) → get_elem? vs q.seat ≡ some x → x.sizes.participants ≡ 0
        → (x' : View) × (get_elem? (set vs id w) q.seat ≡ some x') × KeepsOwner x x') → PledgesInvariant (set vs id w)
    pledges_by same still = let us : List View = set vs id w in let same_own : w.pledges.own ≡ v.pledges.own = ap (λ (x : PledgesView). x.own) same in record {
      single = let a = total_set posts vs id v w at in let e : posts w ≡ posts v = (λ d. one_where (same d).ledger + one_where (same d).founds) in
          let o = p.single in omega arith;
      backed = λ i u q e m. let was : IsBacked vs i q = ⊎_elim
          (λ (t : (i ≡ id) × (w ≡ u)). subst (λ (j : ℕ). IsBacked vs j q) (sym t.0)
          (p.backed id v q at (sym same_own ∙ (ap (λ (x : View). x.pledges.own) t.1 ∙ m))))
          (λ (t : (i ≢ id) × (get_elem? vs i ≡ some u)). p.backed i u q t.1 m) (at_set vs id i w u e) in
          carried us i q was (still i q was)
          (λ j b there l. let f = forth (λ x y. y.pledges ≡ x.pledges) same (λ _. refl) j b there in
          (f.0, f.1, ap (λ (x : PledgesView). x.ledger) f.2 ∙ l))
          (λ j b e l. ⊎_elim
          (λ (t : (j ≡ id) × (w ≡ b)). subst (λ (x : View). HasPledge q x.pledges.booked) t.1
          (subst (λ (x : PledgesView). HasPledge q x.booked) (sym same)
          (was.booked id v at (sym (ap (λ (x : PledgesView). x.ledger) same) ∙ (ap (λ (x : View). x.pledges.ledger) t.1 ∙ l)))))
          (λ (t : (j ≢ id) × (get_elem? vs j ≡ some b)). was.booked j b t.1 l) (at_set vs id j w b e));
    }

    pub pledges_kept : KeepsPost v w → PledgesInvariant (set vs id w)
    pledges_kept post = pledges_by post.pledges (λ i q _ x there _. forth KeepsOwner (keeps_owner v w post) same_owner q.seat x there)

    -- as long as its own view isn't pledged
    pub pledges_spent : w.pledges ≡ v.pledges → ((i : ℕ) (q : Pledge) → IsBacked vs i q → ¬ (q.seat ≡ id)) → PledgesInvariant (set vs id w)
    pledges_spent same free = pledges_by same (λ i q B x there _. (x, set_else vs id q.seat w (free i q B) ∙ there, same_owner x))

  -- what it has of pledges changes, but for whether it is the ledger's, or may found it
  pub repledges : (id : ℕ) (v : View) → get_elem? vs id ≡ some v → (t : PledgesView) → t.ledger ≡ v.pledges.ledger → t.founds ≡ v.pledges.founds
      → ((q : Pledge) → t.own ≡ q ∷ [] → IsBacked vs id q)
      → ((i : ℕ) (u : View) (q : Pledge) → get_elem? (set vs id (record v { pledges = t })) i ≡ some u → u.pledges.own ≡ q ∷ [] → IsLedger v
      → HasPledge q v.pledges.booked → HasPledge q t.booked) → PledgesInvariant (set vs id (record v { pledges = t }))
  repledges id v at t ledger founds own booked = let w : View = record v { pledges = t } in record {
    single = let a = total_set posts vs id v w at in let e : posts w ≡ posts v = (λ d. one_where (ledger d) + one_where (founds d)) in
        let o = p.single in omega arith;
    backed = λ i u q e m. let was : IsBacked vs i q = ⊎_elim
        (λ (c : (i ≡ id) × (w ≡ u)). subst (λ (j : ℕ). IsBacked vs j q) (sym c.0) (own q (ap (λ (x : View). x.pledges.own) c.1 ∙ m)))
        (λ (c : (i ≢ id) × (get_elem? vs i ≡ some u)). p.backed i u q c.1 m) (at_set vs id i w u e) in
        carried (set vs id w) i q was
        (λ x there _. forth id v w at KeepsOwner record { sizes = refl; cells = refl; records = λ _ r a. a; holds = λ _. refl } same_owner q.seat x there)
        (λ j b there l. let f = forth id v w at (λ x y. y.pledges.ledger ≡ x.pledges.ledger) ledger (λ _. refl) j b there in (f.0, f.1, f.2 ∙ l))
        (λ j b e' l. ⊎_elim
        (λ (c : (j ≡ id) × (w ≡ b)). let mine : IsLedger v = sym ledger ∙ (ap (λ (x : View). x.pledges.ledger) c.1 ∙ l) in
        subst (λ (x : View). HasPledge q x.pledges.booked) c.1 (booked i u q e m mine (was.booked id v at mine)))
        (λ (c : (j ≢ id) × (get_elem? vs j ≡ some b)). was.booked j b c.1 l) (at_set vs id j w b e'));
  }

-- ---- the part
module _ (sizes : Sizes) (ws : List ℕ) (vs : List View) (k : KindsInvariant sizes ws vs) where
  -- a new seat
  pub arrives : (t : View) → KnowsKinds sizes ws t → HasNoPost t → KindsInvariant sizes ws (vs ++ t ∷ [])
  arrives t knows none = record {
    each = each_snoc (KnowsKinds sizes ws) vs t k.each knows;
    bound = bound_more sizes ws vs k.bound t none.over;
    pledges = pledges_more vs k.pledges t none;
    cells = cells_more sizes ws vs k.cells t none.rights none.closes;
  }

  module _ (tells : (j : ℕ) (u : View) → get_elem? vs j ≡ some u → IsTelling sizes.slots u) (id : ℕ) (v : View) (at : get_elem? vs id ≡ some v) where
    -- a step that may change words
    pub steps : (ws' : List ℕ) (w : View) → KnowsKinds sizes ws' w
        → ((j : ℕ) (u : View) → j ≢ id → get_elem? vs j ≡ some u → (i : ℕ) → IsSpared sizes ws ws' u i)
        → ((i : ℕ) → IsWithin (slot_at sizes ws i) (slot_at sizes ws' i)) → SameCells sizes ws ws' → KeepsKinds sizes ws ws' → KeepsPost v w
        → KindsInvariant sizes ws' (set vs id w)
    steps ws' w mine others within same kinds post = record {
      each = each_set (KnowsKinds sizes ws) (KnowsKinds sizes ws') vs id w mine
          (λ j u apart e. knows_still sizes ws ws' u (k.each j u e) (tells j u e) (others j u apart e));
      bound = bound_kept sizes ws vs k.bound id v at ws' w within (ap (λ (m : Option ℕ × Option ℕ). m.0) post.marks) post.place;
      pledges = pledges_kept vs k.pledges id v w at post;
      cells = cells_kept sizes ws vs k.cells id v w at ws' same kinds post.cells (λ d. (post.marks d).1);
    }

    -- on no word, where it has no pledge and its own view isn't pledged: it may lose what it knows of owners
    pub spends : (w : View) → KnowsKinds sizes ws w → w.sizes ≡ v.sizes → marks_of w ≡ marks_of v
        → (HasPlace v.epoch → HasPlace w.epoch) ⊎ (v.slots.over ≡ None) → w.cells ≡ v.cells → PledgesInvariant (set vs id w)
        → KindsInvariant sizes ws (set vs id w)
    spends w mine of marked lives rights pledges = record {
      each = each_set (KnowsKinds sizes ws) (KnowsKinds sizes ws) vs id w mine (λ j u _ e. k.each j u e);
      bound = bound_kept sizes ws vs k.bound id v at ws w (λ i c. inr (c, (omega arith))) (ap (λ (m : Option ℕ × Option ℕ). m.0) marked)
          lives;
      pledges = pledges;
      cells = cells_kept sizes ws vs k.cells id v w at ws (no_change sizes ws).cells (λ _ _. refl) rights (λ d. (marked d).1);
    }

    -- the words of slots and cells stay
    pub stays : (ws' : List ℕ) (w : View) → SameWords sizes ws ws' → KnowsKinds sizes ws w → KeepsPost v w → KindsInvariant sizes ws' (set vs id w)
    stays ws' w as_before mine post = let same = as_before.slots in steps ws' w
        record {
          long = mine.long;
          sole = λ i m o. ap alive (same i) ∙ mine.sole i m o;
          claimed = λ i m o free. ap counted (same i) ∙ mine.claimed i m o free;
          told = λ r h free. ap counted (same r.slot) ∙ mine.told r h free;
        }
        (λ j u apart e i. inl (same i)) (λ i c. inr (sym (ap counted (same i)) ∙ c, (let e = ap alive (same i) in omega arith))) as_before.cells
        (λ i _. ap counted (same i)) post

    -- and so does what it knows, but for what it knows of other things
    pub calm : (ws' : List ℕ) (w : View) → SameWords sizes ws ws' → IsAlike v w → w.sizes ≡ v.sizes → w.words ≡ v.words
        → ((i : ℕ) → Holds v i → Holds w i) → KeepsPost v w → KindsInvariant sizes ws' (set vs id w)
    calm ws' w same is of_same words_same holds post = stays ws' w same (knows_alike sizes ws v w (k.each id v at) of_same words_same
        (λ i m. ap (λ (s : FractionsView). s.moves) (sym is.0) ∙ m) (λ i o. subst (λ (l : List ℕ). 0 < times i l) is.1 o)
        (λ r h. subst (λ (s : FractionsView). HasRecord s.owns r) is.0 h) holds) post

    module _ (slot : ℕ) (inside : slot < sizes.slots) (y : ℕ) (w : View) where
      abbrev after : List ℕ
      after = set ws (slot_word sizes slot) y

      pub there : (i : ℕ) → i ≢ slot → slot_at sizes after i ≡ slot_at sizes ws i
      there i ne = get_or-set_other ws (slot_word sizes slot) (slot_word sizes i) y 0 (λ e. ne (omega arith))

      -- a step on a slot's word, by which the others know of it what they knew, or nothing
      pub one_slot : KnowsKinds sizes after w
          → ((j : ℕ) (u : View) → j ≢ id → get_elem? vs j ≡ some u → ¬ (Owns u slot) ⊎ (¬ (Moves u slot) × (counted y ≡ counted (slot_at sizes ws slot))))
          → slot_at sizes after slot ≡ y → IsWithin (slot_at sizes ws slot) y → (IsInCell sizes ws slot → counted y ≡ counted (slot_at sizes ws slot))
          → KeepsPost v w → KindsInvariant sizes after (set vs id w)
      one_slot mine others here within kind post = steps after w mine (λ j u apart e i. dite (ℕ_discrete i slot)
          (λ same. subst (IsSpared sizes ws after u) (sym same) (inr (⊎_elim (λ (t : ¬ (Owns u slot)). inl t)
          (λ (t : ¬ (Moves u slot) × (counted y ≡ counted (slot_at sizes ws slot))). inr (t.0, ap counted here ∙ t.1)) (others j u apart e))))
          (λ ne. inl (there i ne)))
          (λ i. dite (ℕ_discrete i slot)
          (λ same. subst (λ (j : ℕ). IsWithin (slot_at sizes ws j) (slot_at sizes after j)) (sym same)
          (subst (IsWithin (slot_at sizes ws slot)) (sym here) within))
          (λ ne c. inr (sym (ap counted (there i ne)) ∙ c, (let e = ap alive (there i ne) in omega arith))))
          (cells_slot sizes ws slot y)
          (λ i c. dite (ℕ_discrete i slot)
          (λ same. subst (λ (j : ℕ). counted (slot_at sizes after j) ≡ counted (slot_at sizes ws j)) (sym same)
          (ap counted here ∙ kind (subst (IsInCell sizes ws) same c)))
          (λ ne. ap counted (there i ne)))
          post

      -- it moves nothing then, and has no record of this slot, and none more of others
      pub lets_be : length w.words ≡ words_behind w.sizes → w.fractions.moves ≡ None
          → ((r : ShownValue) → HasRecord w.fractions.owns r → HasRecord v.fractions.owns r × (r.slot ≢ slot)) → ((i : ℕ) → i ≢ slot → Holds v i → Holds w i)
          → KnowsKinds sizes after w
      lets_be long rests old holds = record {
        long = long;
        sole = λ i m. absurd (none_moved w i rests m);
        claimed = λ i m. absurd (none_moved w i rests m);
        told = λ r h free. let o = old r h in ap counted (there r.slot o.1) ∙ (k.each id v at).told r o.0 (λ a. free (holds r.slot o.1 a));
      }

-- ---- single steps
-- the first record, or another one
pub has_first : (x : ShownValue) (xs : List ShownValue) (r : ShownValue) → HasRecord (x ∷ xs) r → (x ≡ r) ⊎ HasRecord xs r
has_first x xs r h = pick h.0 h.1
  where
    pick : (m : ℕ) → get_elem? (x ∷ xs) m ≡ some r → (x ≡ r) ⊎ HasRecord xs r
    pick zero e = inl (some-injective x r e)
    pick (suc m) e = inr (m, e)

module _ (sizes : Sizes) (ws : List ℕ) (vs : List View) (k : KindsInvariant sizes ws vs)
    (tells : (j : ℕ) (u : View) → get_elem? vs j ≡ some u → IsTelling sizes.slots u) (id : ℕ) (v : View) (at : get_elem? vs id ≡ some v) where
  -- it claims a slot of which nobody has an owner
  pub claims : (slot y : ℕ) → v.sizes ≡ sizes → slot < sizes.slots → alive y ≡ 1 → slot_at sizes (set ws (slot_word sizes slot) y) slot ≡ y
      → ((j : ℕ) (u : View) → get_elem? vs j ≡ some u → ¬ (Owns u slot)) → ¬ (IsInCell sizes ws slot) → KeepsPost v (making slot y v)
      → KindsInvariant sizes (set ws (slot_word sizes slot) y) (set vs id (making slot y v))
  claims slot y of inside one here none free post = let w : View = making slot y v in let ws' : List ℕ = set ws (slot_word sizes slot) y in
      let mine = k.each id v at in
      let near : slot < v.sizes.slots = subst (λ (z : Sizes). slot < z.slots) (sym of) inside in
      let noted_now = written_now v slot y near mine.long in
      one_slot sizes ws vs k tells id v at slot inside y w
      record {
        long = length-set v.words (behind v.sizes slot) y ∙ mine.long;
        sole = λ j m o. ap (λ (i : ℕ). alive (slot_at sizes ws' i)) (one_moved w slot j refl m) ∙ (ap alive here ∙ one);
        claimed = λ j m o free. let e = one_moved w slot j refl m in
            ap (λ (i : ℕ). counted (slot_at sizes ws' i)) e ∙ (ap counted here ∙ (sym (ap counted noted_now) ∙ ap (λ (i : ℕ). counted (written w i)) (sym e)));
        told = λ r h free. let own = ((tells id v at).owns r.slot r.value (h.0, r, h.1, refl, refl)).0 in
            ap counted (there sizes ws vs k tells id v at slot inside y w r.slot (λ e. none id v at (subst (Owns v) e own))) ∙ mine.told r h free;
      }
      (λ j u _ e. inl (none j u e)) here (λ _. inl (omega arith)) (λ c. absurd (free c)) post

  -- a value was moved in, whose slot it claimed by a word of this kind, or holds
  pub houses : (slot : ℕ) (shared : Bool) (value : Gv) → Moves v slot → Owns v slot → (¬ (Holds v slot) → counted (written v slot) ≡ one_where shared)
      → KeepsPost v (resting (telling slot shared value (drawing slot v)))
      → KindsInvariant sizes ws (set vs id (resting (telling slot shared value (drawing slot v))))
  houses slot shared value m own kind post = let w : View = resting (telling slot shared value (drawing slot v)) in let mine = k.each id v at in
      let now : ShownValue = record { slot = slot; shared = shared; value = value } in stays sizes ws vs k tells id v at ws w (no_change sizes ws) record {
        long = mine.long;
        sole = λ i m. absurd (none_moved w i refl m);
        claimed = λ i m. absurd (none_moved w i refl m);
        told = λ r h loose. ⊎_elim
            (λ (e : now ≡ r). subst (λ (x : ShownValue). ¬ (Holds v x.slot) → counted (slot_at sizes ws x.slot) ≡ one_where x.shared) e
            (λ free. mine.claimed slot m own free ∙ kind free) loose) (λ (a : HasRecord v.fractions.owns r). mine.told r a loose)
            (has_first now v.fractions.owns r h);
      } post

  -- it comes to own a slot of which nobody had an owner, by a word that counts none
  pub regains : (slot y : ℕ) (value : Gv) (w : View) → slot < sizes.slots → length w.words ≡ words_behind w.sizes → w.fractions.moves ≡ None
      → w.fractions.owns ≡ record { slot = slot; shared = false; value = value } ∷ v.fractions.owns → ((i : ℕ) → Holds v i → Holds w i) → counted y ≡ 0
      → slot_at sizes (set ws (slot_word sizes slot) y) slot ≡ y → ((j : ℕ) (u : View) → get_elem? vs j ≡ some u → ¬ (Owns u slot))
      → ¬ (IsInCell sizes ws slot) → KeepsPost v w → KindsInvariant sizes (set ws (slot_word sizes slot) y) (set vs id w)
  regains slot y value w inside long rests told holds firm here none free post = let ws' : List ℕ = set ws (slot_word sizes slot) y in
      let now : ShownValue = record { slot = slot; shared = false; value = value } in one_slot sizes ws vs k tells id v at slot inside y w
      record {
        long = long;
        sole = λ i m. absurd (none_moved w i rests m);
        claimed = λ i m. absurd (none_moved w i rests m);
        told = λ r h free. ⊎_elim (λ (e : now ≡ r). subst (λ (x : ShownValue). counted (slot_at sizes ws' x.slot) ≡ one_where x.shared) e
            (ap counted here ∙ firm))
            (λ (a : HasRecord v.fractions.owns r). let own = ((tells id v at).owns r.slot r.value (a.0, r, a.1, refl, refl)).0 in
            ap counted (there sizes ws vs k tells id v at slot inside y w r.slot (λ e. none id v at (subst (Owns v) e own)))
            ∙ (k.each id v at).told r a (λ x. free (holds r.slot x)))
            (has_first now v.fractions.owns r (subst (λ (l : List ShownValue). HasRecord l r) told h));
      }
      (λ j u _ e. inl (none j u e)) here (λ c. absurd (omega arith)) (λ c. absurd (free c)) post

  -- what it knows of bank, sights and counts changes
  pub same : (w : View) → w.sizes ≡ v.sizes → w.words ≡ v.words → w.fractions.moves ≡ v.fractions.moves → w.slots.owns ≡ v.slots.owns
      → w.fractions.owns ≡ v.fractions.owns → w.slots.holds ≡ v.slots.holds → (ws' : List ℕ) → SameWords sizes ws ws'
      → KeepsPost v w → KindsInvariant sizes ws' (set vs id w)
  same w of words moves owns told holds ws' as_before post = stays sizes ws vs k tells id v at ws' w as_before
      (knows_alike sizes ws v w (k.each id v at) of words
      (λ i m. sym moves ∙ m) (λ i o. subst (λ (l : List ℕ). 0 < times i l) owns o) (λ r h. subst (λ (l : List ShownValue). HasRecord l r) told h)
      (λ i h. holds ∙ h)) post

  -- it comes to move the value of a slot, whose item waits with it, or whose slot it holds as its only owner; and tells of no more owners
  pub comes_to_move : (slot : ℕ) (t : FractionsView) → t.moves ≡ Some slot → ((r : ShownValue) → HasRecord t.owns r → HasRecord v.fractions.owns r)
      → (Owns v slot → Holds v slot × (alive (slot_at sizes ws slot) ≡ 1)) → KeepsPost v (record v { fractions = t })
      → KindsInvariant sizes ws (set vs id (record v { fractions = t }))
  comes_to_move slot t is fewer held post = let w : View = record v { fractions = t } in
      let mine = k.each id v at in stays sizes ws vs k tells id v at ws w (no_change sizes ws)
      record {
        long = mine.long;
        sole = λ j m o. let e = one_moved w slot j is m in ap (λ (i : ℕ). alive (slot_at sizes ws i)) e ∙ (held (subst (Owns v) e o)).1;
        claimed = λ j m o free. let e = one_moved w slot j is m in absurd (free (subst (Holds v) (sym e) (held (subst (Owns v) e o)).0));
        told = λ r h free. mine.told r (fewer r h) free;
      } post

  -- the slot whose value it moved is free again, of which it had no record
  pub frees : (slot y : ℕ) (w : View) → slot < sizes.slots → Moves v slot → length w.words ≡ words_behind w.sizes → w.fractions.moves ≡ None
      → w.fractions.owns ≡ v.fractions.owns → ((i : ℕ) → i ≢ slot → Holds v i → Holds w i) → slot_at sizes (set ws (slot_word sizes slot) y) slot ≡ y
      → ((j : ℕ) (u : View) → j ≢ id → get_elem? vs j ≡ some u → ¬ (Owns u slot)) → alive y ≡ 0 → ¬ (IsInCell sizes ws slot)
      → KeepsPost v w → KindsInvariant sizes (set ws (slot_word sizes slot) y) (set vs id w)
  frees slot y w inside m long rests told holds here none dead free post = one_slot sizes ws vs k tells id v at slot inside y w
      (lets_be sizes ws vs k tells id v at slot inside y w long rests
      (λ r h. let a = subst (λ (l : List ShownValue). HasRecord l r) told h in
      (a, λ e. ((tells id v at).owns r.slot r.value (a.0, r, a.1, refl, refl)).1 (m ∙ ap (λ (i : ℕ). Some i) (sym e)))) holds)
      (λ j u apart e. inl (none j u apart e)) here (λ _. inl (omega arith)) (λ c. absurd (free c)) post

  -- an owner goes: the last, or one beside whom others stay, of which nobody moves the value; and it tells of none any more
  pub goes : (slot y : ℕ) (w : View) → slot < sizes.slots → length w.words ≡ words_behind w.sizes → w.fractions.moves ≡ None → w.fractions.owns ≡ []
      → ((i : ℕ) → Holds v i → Holds w i) → slot_at sizes (set ws (slot_word sizes slot) y) slot ≡ y
      → ((j : ℕ) (u : View) → j ≢ id → get_elem? vs j ≡ some u → ¬ (Owns u slot) ⊎ (¬ (Moves u slot) × (counted y ≡ counted (slot_at sizes ws slot))))
      → IsWithin (slot_at sizes ws slot) y → (IsInCell sizes ws slot → counted y ≡ counted (slot_at sizes ws slot)) → KeepsPost v w
      → KindsInvariant sizes (set ws (slot_word sizes slot) y) (set vs id w)
  goes slot y w inside long rests none holds here others within kind post = one_slot sizes ws vs k tells id v at slot inside y w
      (lets_be sizes ws vs k tells id v at slot inside y w long rests (λ r h. absurd (has_none r w.fractions.owns none h)) (λ i _ h. holds i h)) others here
      within kind post

  -- it holds a slot of which nobody else has an owner, by another word
  pub takes_hold : (slot y : ℕ) (w : View) → slot < sizes.slots → length w.words ≡ words_behind w.sizes → w.fractions.moves ≡ None
      → w.fractions.owns ≡ v.fractions.owns
      → v.slots.holds ≡ None → Holds w slot → slot_at sizes (set ws (slot_word sizes slot) y) slot ≡ y
      → ((j : ℕ) (u : View) → j ≢ id → get_elem? vs j ≡ some u → ¬ (Owns u slot)) → counted y ≡ 0 → ¬ (IsInCell sizes ws slot)
      → KeepsPost v w → KindsInvariant sizes (set ws (slot_word sizes slot) y) (set vs id w)
  takes_hold slot y w inside long rests told free holds here none firm alone post = one_slot sizes ws vs k tells id v at slot inside y w
      record {
        long = long;
        sole = λ j m. absurd (none_moved w j rests m);
        claimed = λ j m. absurd (none_moved w j rests m);
        told = λ r h loose. ap counted (there sizes ws vs k tells id v at slot inside y w r.slot (λ e. loose (holds ∙ ap (λ (i : ℕ). Some i) (sym e))))
            ∙ (k.each id v at).told r (subst (λ (l : List ShownValue). HasRecord l r) told h) (λ o. let c : None ≡ Some r.slot = sym free ∙ o in cc);
      }
      (λ j u apart e. inl (none j u apart e)) here (λ c. absurd (omega arith)) (λ c. absurd (alone c)) post

  -- it lets go of it, by a word that says of its owner what it told of it
  pub shares_again : (slot y : ℕ) (w : View) → slot < sizes.slots → length w.words ≡ words_behind w.sizes → w.fractions.moves ≡ None
      → w.fractions.owns ≡ v.fractions.owns → Holds v slot → ((r : ShownValue) → HasRecord v.fractions.owns r → r.slot ≡ slot → counted y ≡ one_where r.shared)
      → slot_at sizes (set ws (slot_word sizes slot) y) slot ≡ y
      → ((j : ℕ) (u : View) → j ≢ id → get_elem? vs j ≡ some u → ¬ (Owns u slot)) → alive y ≡ 1 → ¬ (IsInCell sizes ws slot)
      → KeepsPost v w → KindsInvariant sizes (set ws (slot_word sizes slot) y) (set vs id w)
  shares_again slot y w inside long rests told held kind here none one alone post = one_slot sizes ws vs k tells id v at slot inside y w
      record {
        long = long;
        sole = λ j m. absurd (none_moved w j rests m);
        claimed = λ j m. absurd (none_moved w j rests m);
        told = λ r h _. let a : HasRecord v.fractions.owns r = subst (λ (l : List ShownValue). HasRecord l r) told h in dite (ℕ_discrete r.slot slot)
            (λ e. ap (λ (i : ℕ). counted (slot_at sizes (set ws (slot_word sizes slot) y) i)) e ∙ (ap counted here ∙ kind r a e))
            (λ ne. ap counted (there sizes ws vs k tells id v at slot inside y w r.slot ne)
            ∙ (k.each id v at).told r a (λ o. ne (let c : Some slot ≡ Some r.slot = sym held ∙ o in let e : r.slot ≡ slot = cc in e)));
      }
      (λ j u apart e. inl (none j u apart e)) here (λ _. inl (omega arith)) (λ c. absurd (alone c)) post
