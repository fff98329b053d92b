-- The slots' part at the start, with a new seat, and where owners are cut off as a seat and taken in again
use Rattle.std.proofs.Common.{◌≡◌, ◌≢◌, ℕ, zero, suc, ◌+◌, ◌<◌, length, List, [], ◌∷◌, ◌++◌, get_or, set, sym, refl, ap, ◌∙◌, subst, ⊎_elim, arith}
use Rattle.std.specs.Prelude.{Some, None}
use mathlib.Core.Option.{some, some-injective, some-ne-none}
use lib.ListN.{get_elem?}
use Rattle.atomic_table.proofs.Lists.{at_snoc, set_else}
use Rattle.sdd_rights.specs.declared.views.SlotsView.{SlotsView}
use Rattle.sdd_rights.specs.declared.views.FractionsView.{FractionsView}
use Rattle.sdd_rights.specs.declared.views.View.{View}
use Rattle.sdd_rights.specs.declared.views.Sizes.{Sizes}
use Rattle.sdd_domain_invariant.specs.Words.{first_cell, cell_word, slot_word, all_words}
use Rattle.sdd_domain_invariant.specs.Sums.{total, times}
use Rattle.sdd_domain_invariant.specs.Codes.{WordReading, IsWordReading}
use Rattle.sdd_domain_invariant.specs.Slots.{owners_at, waits_in, items_at, Sees, Holds, Tallies, SeenBeforeRetired, SlotsInvariant}
use Rattle.sdd_rights.specs.Views.{bare, owning_only}
use Rattle.sdd_domain_invariant.proofs.Frame.{each_set, each_snoc}
use Rattle.sdd_domain_invariant.proofs.Sums.{total_set, total_snoc, span_zero, both_set}

none_in : {X : Type 0} {P : Type 0} (x : X) (i : ℕ) → get_elem? [] i ≡ some x → P
none_in x i e = absurd (some-ne-none x (sym e))

-- a seat that knows its owners alone, whatever it knows of other parts
module _ (t : View) (os : List ℕ) (is : t.slots ≡ owning_only os) where
  sees_none : (i : ℕ) → ¬ (Sees t i)
  sees_none i h = let e = ap (λ (s : SlotsView). times i s.sees) is in omega arith

  plain_guarded : (u : View) → SeenBeforeRetired t u × SeenBeforeRetired u t
  plain_guarded u = (
    record { since = λ i l x h. absurd (sees_none i h); looked = λ i h. absurd (sees_none i h) },
    record {
      since = λ i l x h e. none_in x l (ap (λ (s : SlotsView). get_elem? s.waits l) (sym is) ∙ e);
      looked = λ i h e. let c : None ≡ Some i = ap (λ (s : SlotsView). s.holds) (sym is) ∙ e in cc;
    },
  )

  plain_tallies : (z : WordReading) (sizes : Sizes) (ws : List ℕ) → Tallies z sizes ws t
  plain_tallies z sizes ws = record {
    timed = λ q x e. none_in x q (ap (λ (s : SlotsView). get_elem? s.waits q) (sym is) ∙ e);
    guarded = λ i h. absurd (sees_none i h);
    full = λ i h. absurd (sees_none i h);
    held = λ i e. let c : None ≡ Some i = ap (λ (s : SlotsView). s.holds) (sym is) ∙ e in cc;
  }

  owners_of : (i : ℕ) → owners_at i t ≡ times i os
  owners_of i = ap (λ (s : SlotsView). times i s.owns) is

  items_of : (i : ℕ) → items_at i t ≡ 0
  items_of i = ap (λ (s : SlotsView). total (waits_in i) s.waits) is

-- it has these owners, and these units of theirs; and what is known of fractions may be anything
abbrev pub with_owners : View → List ℕ → List ℕ → FractionsView → View
with_owners v os units known = record v { slots = record v.slots { owns = os; drawn = units }; fractions = known }

module _ (z : WordReading) (sizes : Sizes) (ws : List ℕ) (vs : List View) (s : SlotsInvariant z sizes ws vs) where
  -- a new seat, whose owners another one lost
  joined : (t : View) (os : List ℕ) → t.slots ≡ owning_only os → (vs' : List View)
      → ((i : ℕ) → total (owners_at i) vs' + times i os ≡ total (owners_at i) vs) → ((i : ℕ) → total (items_at i) vs' ≡ total (items_at i) vs)
      → ((j : ℕ) (u : View) → get_elem? vs' j ≡ some u → Tallies z sizes ws u)
      → ((j l : ℕ) (u w : View) → get_elem? vs' j ≡ some u → get_elem? vs' l ≡ some w → SeenBeforeRetired u w) → SlotsInvariant z sizes ws (vs' ++ t ∷ [])
  joined t os is vs' own wait each two = record {
    long = s.long;
    owned = λ i. let a = total_snoc (owners_at i) vs' t in let b = owners_of t os is i in let o = own i in let c = s.owned i in omega arith;
    waited = λ i. let a = total_snoc (items_at i) vs' t in let b = items_of t os is i in let o = wait i in let c = s.waited i in omega arith;
    each = each_snoc (Tallies z sizes ws) vs' t each (plain_tallies t os is z sizes ws);
    two = λ j l u w e e'. ⊎_elim
        (λ (a : get_elem? vs' j ≡ some u). ⊎_elim (λ (d : get_elem? vs' l ≡ some w). two j l u w a d)
        (λ (d : t ≡ w). subst (SeenBeforeRetired u) d (plain_guarded t os is u).1) (at_snoc vs' t w l e'))
        (λ (a : t ≡ u). subst (λ (x : View). SeenBeforeRetired x w) a (plain_guarded t os is w).0)
        (at_snoc vs' t u j e);
  }

  -- one that knows nothing
  pub sits : (t : View) → t.slots ≡ bare → SlotsInvariant z sizes ws (vs ++ t ∷ [])
  sits t is = joined t [] is vs (λ i. omega arith) (λ i. refl) s.each s.two

  module _ (id : ℕ) (v : View) (at : get_elem? vs id ≡ some v) (os units : List ℕ) (known : FractionsView) where
    abbrev after : View
    after = with_owners v os units known

    -- some owners go to a new seat, but for the one of a slot that is held
    pub cuts : (t : View) (os' : List ℕ) → t.slots ≡ owning_only os'
        → ((i : ℕ) → times i v.slots.owns ≡ times i os + times i os')
        → ((i : ℕ) → Holds v i → 0 < times i os) → SlotsInvariant z sizes ws (set vs id after ++ t ∷ [])
    cuts t os' is parts held = let w : View = after in let f = s.each id v at in
        joined t os' is (set vs id w)
        (λ j. let a = total_set (owners_at j) vs id v w at in let b = parts j in omega arith)
        (λ j. let a = total_set (items_at j) vs id v w at in omega arith)
        (each_set (Tallies z sizes ws) (Tallies z sizes ws) vs id w
        record { timed = f.timed; guarded = f.guarded; full = f.full; held = λ i h. (held i h, (f.held i h).1) }
        (λ j u _ e. s.each j u e))
        (both_set SeenBeforeRetired vs id w s.two
        (let x = s.two id id v v at at in record { since = x.since; looked = x.looked })
        (λ j u apart e. let x = s.two id j v u at e in let y = s.two j id u v e at in
        (record { since = x.since; looked = x.looked }, record { since = y.since; looked = y.looked })))

    -- the owners of a seat are taken in
    pub takes_in : (other : ℕ) (t t' : View) (os' : List ℕ) → t.slots ≡ owning_only os' → t'.slots ≡ bare
        → ((i : ℕ) → times i os ≡ times i v.slots.owns + times i os')
        → other ≢ id → get_elem? vs other ≡ some t → SlotsInvariant z sizes ws (set (set vs id after) other t')
    takes_in other t t' os' is is' parts apart from = let w : View = after in let f = s.each id v at in
        let vs' : List View = set vs id w in
        let from' : get_elem? vs' other ≡ some t = set_else vs id other w apart ∙ from in
        let each' = each_set (Tallies z sizes ws) (Tallies z sizes ws) vs id w
        record {
          timed = f.timed;
          guarded = f.guarded;
          full = f.full;
          held = λ i h. let o = (f.held i h).0 in let b = parts i in (omega arith, (f.held i h).1);
        } (λ j u _ e. s.each j u e) in
        let two' = both_set SeenBeforeRetired vs id w s.two
        (let x = s.two id id v v at at in record { since = x.since; looked = x.looked })
        (λ j u apart e. let x = s.two id j v u at e in let y = s.two j id u v e at in
        (record { since = x.since; looked = x.looked }, record { since = y.since; looked = y.looked })) in record {
          long = s.long;
          owned = λ j. let a = total_set (owners_at j) vs id v w at in let b = total_set (owners_at j) vs' other t t' from' in
              let c = owners_of t os' is j in let d = owners_of t' [] is' j in let e = parts j in let k = s.owned j in omega arith;
          waited = λ j. let a = total_set (items_at j) vs id v w at in let b = total_set (items_at j) vs' other t t' from' in
              let c = items_of t os' is j in let d = items_of t' [] is' j in let k = s.waited j in omega arith;
          each = each_set (Tallies z sizes ws) (Tallies z sizes ws) vs' other t' (plain_tallies t' [] is' z sizes ws)
              (λ j u _ e. each' j u e);
          two = both_set SeenBeforeRetired vs' other t' two' (plain_guarded t' [] is' t').0 (λ j u _ e. plain_guarded t' [] is' u);
        }

-- the start: all words are 0, and there is one seat, which knows nothing
pub starts : (z : WordReading) → IsWordReading z → (sizes : Sizes) (ws : List ℕ) (t : View) → length ws ≡ all_words sizes → ((i : ℕ) → get_or ws i 0 ≡ 0) →
    t.slots ≡ bare
    → SlotsInvariant z sizes ws (t ∷ [])
starts z sound sizes ws t long none is = record {
  long = long;
  owned = λ i. let a = ap z.alive (none (slot_word sizes i)) in let b = sound.free.0 in
      let c = span_zero (z.names i) ws first_cell sizes.cells (λ d l. ap (z.names i) (none (cell_word d)) ∙ sound.null i) in
      let d = owners_of t [] is i in omega arith;
  waited = λ i. let a = ap z.waiting (none (slot_word sizes i)) in let b = sound.free.1 in let c = items_of t [] is i in omega arith;
  each = λ j v e. subst (Tallies z sizes ws) (only j v e) (plain_tallies t [] is z sizes ws);
  two = λ j l v w e e'. subst (λ (x : View). SeenBeforeRetired x w) (only j v e) (plain_guarded t [] is w).0;
}
  where
    only : (j : ℕ) (v : View) → get_elem? (t ∷ []) j ≡ some v → t ≡ v
    only zero v e = some-injective _ _ e
    only (suc j) v e = absurd (some-ne-none v (sym e))
