-- What is known of what slots show, after one step of one participant
use Rattle.std.proofs.Common.{◌≡◌, ◌≢◌, ◌⊎◌, inl, inr, ℕ, zero, suc, ◌<◌, ◌≤◌, eqb, List, [], ◌∷◌, ◌++◌, map, set, sym, refl, ap, ◌∙◌, subst, ⊎_elim, arith, eq-eqb, ne_eqb}
use mathlib.Core.Option.{some, some-injective, some-ne-none}
use mathlib.Core.Logic.{dite}
use native.Mathlib.Decide.{ℕ_discrete}
use lib.ListN.{get_elem?}
use base.Stored.{Gv}
use Rattle.std.specs.Prelude.{Some, None, not}
use Rattle.atomic_table.proofs.Lists.{at_set, at_snoc}
use Rattle.sdd_shared_values.specs.declared.value_fraction.ValueFraction.{ValueFraction}
use Rattle.sdd_rights.specs.declared.views.ShownValue.{ShownValue}
use Rattle.sdd_rights.specs.declared.views.FractionsView.{FractionsView}
use Rattle.sdd_rights.specs.declared.views.View.{View}
use Rattle.sdd_rights.specs.declared.views.Sizes.{Sizes}
use Rattle.sdd_domain_invariant.specs.Slots.{waits_in, items_at, Owns, Sees}
use Rattle.sdd_domain_invariant.specs.Sums.{total, is, times}
use Rattle.sdd_domain_invariant.proofs.Frame.{each_set, each_snoc}
use Rattle.sdd_domain_invariant.proofs.Sums.{is_same, is_other, both_set, total_has, total_kept, total_gone, total_some, at_filter}
use Rattle.sdd_domain_invariant.specs.Fractions.FractionsAtHome.{FractionsAtHome, LiesAt, Moves}
use Rattle.sdd_domain_invariant.specs.Fractions.BankInvariant.{deposited, banked, IsBank}
use Rattle.sdd_domain_invariant.specs.Slots.Records.{slot_shown, IsIn, KnowsShown, IsKnown, IsTelling, ShowsKnown, AllShowKnown, RecordsInvariant}
use Rattle.sdd_domain_invariant.specs.Fractions.LastFractions.{ShowOnly}
use Rattle.sdd_shared_values.specs.ValueFractions.{FractionContent}
use Rattle.sdd_shared_values.specs.Deposits.{units_at, AreDeposits}
use Rattle.sdd_shared_values.specs.Bank.{Leaves, Comes}
use Rattle.sdd_rights.specs.declared.views.Deposit.{Deposit}
use prog.Atomic.{either}
use Rattle.sdd_domain_invariant.specs.Fractions.FractionSteps.{without_record}

-- ---- records in a list
in_pick : (r : ShownValue) (rs : List ShownValue) (i : ℕ) (g : Gv) (k : ℕ) (s : ShownValue) → get_elem? (r ∷ rs) k ≡ some s → s.slot ≡ i → s.value ≡ g
    → ((r.slot ≡ i) × (r.value ≡ g)) ⊎ IsIn rs i g
in_pick r rs i g zero s e a b = let c = some-injective r s e in inl (ap slot_shown c ∙ a, ap (λ (x : ShownValue). x.value) c ∙ b)
in_pick r rs i g (suc k) s e a b = inr (k, s, e, a, b)

module _ (r : ShownValue) (rs : List ShownValue) (i : ℕ) (g : Gv) where
  pub in_head : r.slot ≡ i → r.value ≡ g → IsIn (r ∷ rs) i g
  in_head e e' = (0, r, refl, e, e')

  pub in_tail : IsIn rs i g → IsIn (r ∷ rs) i g
  in_tail h = (suc h.0, h.1, h.2, h.3, h.4)

  pub in_either : IsIn (r ∷ rs) i g → ((r.slot ≡ i) × (r.value ≡ g)) ⊎ IsIn rs i g
  in_either h = in_pick r rs i g h.0 h.1 h.2 h.3 h.4

pub in_none : (i : ℕ) (g : Gv) → ¬ (IsIn [] i g)
in_none i g h = some-ne-none h.1 (sym h.2)

-- a slot of theirs has a record, and the other way round
pub in_some : (rs : List ShownValue) (i : ℕ) → 0 < times i (map slot_shown rs) → (g : Gv) × IsIn rs i g
in_some [] i h = absurd (omega arith)
in_some (r ∷ rs) i h = dite (ℕ_discrete r.slot i) (λ e. (r.value, in_head r rs i r.value e refl))
    (λ ne. let o = is_other i r.slot ne in let t = in_some rs i (omega arith) in (t.0, in_tail r rs i t.0 t.1))

pub in_times : (rs : List ShownValue) (i : ℕ) (g : Gv) → IsIn rs i g → 0 < times i (map slot_shown rs)
in_times [] i g h = absurd (in_none i g h)
in_times (r ∷ rs) i g h = ⊎_elim (λ (t : (r.slot ≡ i) × (r.value ≡ g)). let o = is_same i r.slot t.0 in omega arith)
    (λ (t : IsIn rs i g). let o = in_times rs i g t in omega arith) (in_either r rs i g h)

-- ---- two lists of them
module _ (i : ℕ) (g : Gv) where
  pub in_both : (rs ss : List ShownValue) → IsIn (rs ++ ss) i g → IsIn rs i g ⊎ IsIn ss i g
  in_both [] ss h = inr h
  in_both (r ∷ rs) ss h = ⊎_elim (λ (e : (r.slot ≡ i) × (r.value ≡ g)). inl (in_head r rs i g e.0 e.1))
      (λ (t : IsIn (rs ++ ss) i g). ⊎_elim (λ (a : IsIn rs i g). inl (in_tail r rs i g a)) (λ (b : IsIn ss i g). inr b) (in_both rs ss t))
      (in_either r (rs ++ ss) i g h)

  pub in_front : (rs ss : List ShownValue) → IsIn rs i g → IsIn (rs ++ ss) i g
  in_front [] ss h = absurd (in_none i g h)
  in_front (r ∷ rs) ss h = ⊎_elim (λ (e : (r.slot ≡ i) × (r.value ≡ g)). in_head r (rs ++ ss) i g e.0 e.1)
      (λ (t : IsIn rs i g). in_tail r (rs ++ ss) i g (in_front rs ss t)) (in_either r rs i g h)

  pub in_back : (rs ss : List ShownValue) → IsIn ss i g → IsIn (rs ++ ss) i g
  in_back [] ss h = h
  in_back (r ∷ rs) ss h = in_tail r (rs ++ ss) i g (in_back rs ss h)

-- ---- those of other slots
abbrev of_slot : ℕ → ShownValue → ℕ
of_slot i r = is i r.slot

in_total : (rs : List ShownValue) (i : ℕ) (g : Gv) → IsIn rs i g → 0 < total (of_slot i) rs
in_total rs i g h = let a = total_has (of_slot i) rs h.0 h.1 h.2 in let b = is_same i h.1.slot h.3 in omega arith

total_in : (rs : List ShownValue) (i : ℕ) → 0 < total (of_slot i) rs → (g : Gv) × IsIn rs i g
total_in rs i more = let t = total_some (of_slot i) rs more in let there = t.3 in
    (t.1.value, (t.0, t.1, t.2, dite (ℕ_discrete t.1.slot i) (λ e. e) (λ ne. absurd (let z = is_other i t.1.slot ne in omega arith)), refl))

none_same : (slot : ℕ) (rs : List ShownValue) → total (of_slot slot) (without_record slot rs) ≡ 0
none_same slot rs = total_gone (of_slot slot) (λ (r : ShownValue). not (eqb r.slot slot))
    (λ x t. is_other slot x.slot (λ e. grind (arith, eq-eqb x.slot slot e))) rs

same_other : (slot i : ℕ) (rs : List ShownValue) → i ≢ slot → total (of_slot i) (without_record slot rs) ≡ total (of_slot i) rs
same_other slot i rs ne = total_kept (of_slot i) (λ (r : ShownValue). not (eqb r.slot slot))
    (λ x t. is_other i x.slot (λ e. grind (arith, ne_eqb x.slot slot))) rs

pub in_others : (slot : ℕ) (rs : List ShownValue) (i : ℕ) (g : Gv) → IsIn (without_record slot rs) i g → (i ≢ slot) × IsIn rs i g
in_others slot rs i g h = (
  λ e. let none = none_same slot rs in
      let a = in_total (without_record slot rs) slot g (subst (λ (k : ℕ). IsIn (without_record slot rs) k g) e h) in omega arith,
  let q = at_filter (λ (r : ShownValue). not (eqb r.slot slot)) rs h.0 h.1 h.2 in (q.0, h.1, q.1, h.3, h.4),
)

pub in_kept : (slot : ℕ) (rs : List ShownValue) (i : ℕ) (g : Gv) → i ≢ slot → IsIn rs i g → (k : Gv) × IsIn (without_record slot rs) i k
in_kept slot rs i g ne h = let a = in_total rs i g h in let kept = same_other slot i rs ne in total_in (without_record slot rs) i (omega arith)

-- ---- one participant
pub sees_told : {m : ℕ} (v : View) → IsTelling m v → (i : ℕ) (g : Gv) → IsIn v.fractions.sees i g → Sees v i
sees_told v t i g h = subst (λ (l : List ℕ). 0 < times i l) t.sees (in_times v.fractions.sees i g h)

pub told_seen : {m : ℕ} (v : View) → IsTelling m v → (i : ℕ) → Sees v i → (g : Gv) × IsIn v.fractions.sees i g
told_seen v t i h = in_some v.fractions.sees i (subst (λ (l : List ℕ). 0 < times i l) (sym t.sees) h)

-- it knows it of a slot of its own, of one that it sees, or of one whose item waits with it
pub known_by : {P : Type 0} (v : View) (i : ℕ) (g : Gv) → (IsIn v.fractions.owns i g → P) → (IsIn v.fractions.sees i g → P) → (IsIn v.fractions.waits i g → P)
    → KnowsShown v i g → P
known_by v i g owns sees waits k = ⊎_elim owns (λ (t : IsIn v.fractions.sees i g ⊎ IsIn v.fractions.waits i g). ⊎_elim sees waits t) k

pub knows_none : (w : View) → w.fractions.owns ≡ [] → w.fractions.sees ≡ [] → w.fractions.waits ≡ [] → (i : ℕ) (g : Gv) → ¬ (KnowsShown w i g)
knows_none w e f q i g k = let none : (l : List ShownValue) → l ≡ [] → ¬ (IsIn l i g)
    = λ l z h. in_none i g (subst (λ (l : List ShownValue). IsIn l i g) z h) in
    known_by w i g (none w.fractions.owns e) (none w.fractions.sees f) (none w.fractions.waits q) k

-- what it knows of slots and of fractions is as before
abbrev pub IsAlike : View → View → Type 0
IsAlike v w = (record w.fractions { counts = v.fractions.counts } ≡ v.fractions) × (w.slots.owns ≡ v.slots.owns) × (w.slots.sees ≡ v.slots.sees)
    × ((i : ℕ) → items_at i w ≡ items_at i v) × (w.slots.drawn ≡ v.slots.drawn)

pub telling_alike : {m : ℕ} (v w : View) → IsAlike v w → IsTelling m v → IsTelling m w
telling_alike v w same t = record {
  owns = λ i g h. let b = t.owns i g (subst (λ (s : FractionsView). IsIn s.owns i g) same.0 h) in
      (subst (λ (l : List ℕ). 0 < times i l) (sym same.1) b.0, λ m. b.1 (ap (λ (s : FractionsView). s.moves) (sym same.0) ∙ m));
  owned = λ i o still. let b = t.owned i (subst (λ (l : List ℕ). 0 < times i l) same.1 o) (λ m. still (ap (λ (s : FractionsView). s.moves) same.0 ∙ m)) in
      (b.0, subst (λ (s : FractionsView). IsIn s.owns i b.0) (sym same.0) b.1);
  sees = ap (λ (s : FractionsView). map slot_shown s.sees) same.0 ∙ (t.sees ∙ sym same.2);
  waits = λ i g h. let b = t.waits i g (subst (λ (s : FractionsView). IsIn s.waits i g) same.0 h) in
      (subst (λ (k : ℕ). 0 < k) (sym (same.3 i)) b.0, λ m. b.1 (ap (λ (s : FractionsView). s.moves) (sym same.0) ∙ m));
  waiting = λ i low o still. let b = t.waiting i low (subst (λ (k : ℕ). 0 < k) (same.3 i) o) (λ m. still (ap (λ (s : FractionsView). s.moves) same.0 ∙ m)) in
      (b.0, subst (λ (s : FractionsView). IsIn s.waits i b.0) (sym same.0) b.1);
  inside = λ i g k. t.inside i g (known_by w i g (λ h. inl (subst (λ (s : FractionsView). IsIn s.owns i g) same.0 h))
      (λ h. inr (inl (subst (λ (s : FractionsView). IsIn s.sees i g) same.0 h)))
      (λ h. inr (inr (subst (λ (s : FractionsView). IsIn s.waits i g) same.0 h))) k);
}

-- one that owns nothing, sees nothing, and with which no item waits
pub telling_none : {m : ℕ} (w : View) → w.fractions.owns ≡ [] → w.slots.owns ≡ [] → w.fractions.sees ≡ [] → w.slots.sees ≡ [] → w.fractions.waits ≡ []
    → w.slots.waits ≡ [] → IsTelling m w
telling_none w e e' f f' q q' = record {
  owns = λ i g h. absurd (in_none i g (subst (λ (l : List ShownValue). IsIn l i g) e h));
  owned = λ i o still. let t = ap (times i) e' in absurd (omega arith);
  sees = ap (map slot_shown) f ∙ sym f';
  waits = λ i g h. absurd (in_none i g (subst (λ (l : List ShownValue). IsIn l i g) q h));
  waiting = λ i low o still. let t = ap (total (waits_in i)) q' in absurd (omega arith);
  inside = λ i g k. absurd (knows_none w e f q i g k);
}

-- what the one moves the other doesn't see
abbrev pub NotSeen : View → View → Type 0
NotSeen v w = (i : ℕ) → Moves v i → ¬ (Sees w i)

-- ---- all of them
pub known_after : (vs : List View) (id : ℕ) (w : View) (i : ℕ) (g : Gv) → IsKnown (set vs id w) i g → KnowsShown w i g ⊎ IsKnown vs i g
known_after vs id w i g k = ⊎_elim (λ (t : (k.0 ≡ id) × (w ≡ k.1)). inl (subst (λ (u : View). KnowsShown u i g) (sym t.1) k.3))
    (λ (t : (k.0 ≢ id) × (get_elem? vs k.0 ≡ some k.1)). inr (k.0, k.1, t.1, k.3)) (at_set vs id k.0 w k.1 k.2)

-- ---- deposits
-- where less is known, or the same
pub all_still_show : (vs vs' : List View) → ((i : ℕ) (g : Gv) → IsKnown vs' i g → IsKnown vs i g) → (ls : List FractionContent) → AllShowKnown vs ls
    → AllShowKnown vs' ls
all_still_show vs vs' less [] a = tt
all_still_show vs vs' less (l ∷ ls) a = (λ g k. a.0 g (less l.number g k), all_still_show vs vs' less ls a.1)

-- where something is known of a slot that has no deposit
pub all_show_then : (vs vs' : List View) (γ slot : ℕ) → ((i : ℕ) (g : Gv) → i ≢ slot → IsKnown vs' i g → IsKnown vs i g) → (ls : List FractionContent)
    → AreDeposits γ ls → units_at slot ls ≡ 0 → AllShowKnown vs ls → AllShowKnown vs' ls
all_show_then vs vs' γ slot less [] are none a = tt
all_show_then vs vs' γ slot less (l ∷ ls) are none a = let some = are.2 in let apart : l.number ≢ slot = (λ e.
    let u = ap (λ (b : _). either b l.units 0) (eq-eqb l.number slot e) in omega arith) in
    (λ g k. a.0 g (less l.number g apart k), all_show_then vs vs' γ slot less ls are.4 (omega arith) a.1)

-- where it comes to be known what one slot shows, as they show it
pub all_learn : (vs vs' : List View) (slot : ℕ) (value : Gv) → ((i : ℕ) (g : Gv) → IsKnown vs' i g → ((i ≡ slot) × (g ≡ value)) ⊎ IsKnown vs i g)
    → (ls : List FractionContent) → ShowOnly slot value ls → AllShowKnown vs ls → AllShowKnown vs' ls
all_learn vs vs' slot value now [] show a = tt
all_learn vs vs' slot value now (l ∷ ls) show a = (
  λ g k. ⊎_elim (λ (t : (l.number ≡ slot) × (g ≡ value)). show.0 t.0 ∙ sym t.1) (λ (t : IsKnown vs l.number g). a.0 g t) (now l.number g k),
  all_learn vs vs' slot value now ls show.1 a.1,
)

-- what goes out shows it too, and what stays
pub leaves_show : (vs : List View) (ls : List FractionContent) (l : FractionContent) (rest : List FractionContent) → Leaves ls l rest → AllShowKnown vs ls
    → ShowsKnown vs l × AllShowKnown vs rest
leaves_show vs [] l rest e a = absurd e
leaves_show vs (h ∷ hs) l rest (inl e) a = (subst (ShowsKnown vs) (sym e.0) a.0, subst (AllShowKnown vs) (sym e.1) a.1)
leaves_show vs (h ∷ hs) l rest (inr (inl (h', part, e))) a = (
  subst (ShowsKnown vs) (sym part.same) (λ g k. a.0 g k),
  subst (AllShowKnown vs) (sym e) (subst (ShowsKnown vs) (sym part.stays) (λ g k. a.0 g k), a.1),
)
leaves_show vs (h ∷ hs) l rest (inr (inr (hs', on, e))) a = let t = leaves_show vs hs l hs' on a.1 in (t.0, subst (AllShowKnown vs) (sym e) (a.0, t.1))

-- where one comes that shows it
pub comes_show : (vs : List View) (ls : List FractionContent) (l : FractionContent) (more : List FractionContent) → Comes ls l more → ShowsKnown vs l →
    AllShowKnown vs ls
    → AllShowKnown vs more
comes_show vs [] l more e now a = subst (AllShowKnown vs) (sym e) (now, tt)
comes_show vs (h ∷ hs) l more (inl e) now a = subst (AllShowKnown vs) (sym e) (now, a)
comes_show vs (h ∷ hs) l more (inr (inl (h', joined, e))) now a = subst (AllShowKnown vs) (sym e) (subst (ShowsKnown vs) (sym joined.sum) (λ g k. a.0 g k), a.1)
comes_show vs (h ∷ hs) l more (inr (inr (hs', on, e))) now a = subst (AllShowKnown vs) (sym e) (a.0, comes_show vs hs l hs' on now a.1)

module _ (sizes : Sizes) (vs : List View) (hs : FractionsAtHome) (part : RecordsInvariant sizes vs hs) where
  abbrev n : ℕ
  n = sizes.participants

  -- all that is known was known before; and what comes home shows it
  pub kept_by : (vs' : List View) (hs' : FractionsAtHome) → ((j : ℕ) (v : View) → get_elem? vs' j ≡ some v → IsTelling sizes.slots v)
      → ((i : ℕ) (g : Gv) → IsKnown vs' i g → IsKnown vs i g)
      → ((i p : ℕ) (y : ValueFraction) → i < sizes.slots → p ≤ n → LiesAt n hs' i p y → LiesAt n hs i p y ⊎ ((g : Gv) → IsKnown vs i g → y.content.shown ≡ g))
      → ((j : ℕ) (b : View) → get_elem? vs' j ≡ some b → IsBank b → AllShowKnown vs (banked b))
      → ((j k : ℕ) (v w : View) → get_elem? vs' j ≡ some v → get_elem? vs' k ≡ some w → NotSeen v w) → RecordsInvariant sizes vs' hs'
  kept_by vs' hs' each known lies shown apart = record {
    each = each;
    agree = λ i g h a b. part.agree i g h (known i g a) (known i h b);
    home = λ i p g y low near k l. ⊎_elim (λ (t : LiesAt n hs i p y). part.home i p g y low near (known i g k) t)
        (λ (t : (g : Gv) → IsKnown vs i g → y.content.shown ≡ g). t g (known i g k)) (lies i p y low near l);
    deposits = λ j b e is. all_still_show vs vs' known (banked b) (shown j b e is);
    apart = λ j k v w i e e' m. apart j k v w e e' i m;
  }

  -- nobody knows what a slot shows that nobody sees, and that no one owns, nor has its item, but who moves its value
  pub unknown : (i : ℕ) → ((j : ℕ) (u : View) → get_elem? vs j ≡ some u → ¬ (Sees u i))
      → ((j : ℕ) (u : View) → get_elem? vs j ≡ some u → Owns u i ⊎ (0 < items_at i u) → Moves u i) → (g : Gv) → ¬ (IsKnown vs i g)
  unknown i blind movers g k = let t = part.each k.0 k.1 k.2 in known_by k.1 i g
      (λ h. let o = t.owns i g h in o.1 (movers k.0 k.1 k.2 (inl o.0)))
      (λ h. blind k.0 k.1 k.2 (sees_told k.1 t i g h))
      (λ h. let o = t.waits i g h in o.1 (movers k.0 k.1 k.2 (inr o.0))) k.3

  -- a new seat, which moves none, and sees none
  pub arrives : (t : View) → IsTelling sizes.slots t → ((i : ℕ) (g : Gv) → KnowsShown t i g → IsKnown vs i g) → t.fractions.moves ≡ None → t.slots.sees ≡ []
      → t.fractions.banked ≡ [] → RecordsInvariant sizes (vs ++ t ∷ []) hs
  arrives t tells known rests blind bare = let still : (i : ℕ) → ¬ (Moves t i) = λ i m. let e : None ≡ Some i = sym rests ∙ m in cc in
      kept_by (vs ++ t ∷ []) hs (each_snoc (IsTelling sizes.slots) vs t part.each tells)
      (λ i g k. ⊎_elim (λ (a : get_elem? vs k.0 ≡ some k.1). (k.0, k.1, a, k.3))
      (λ (e : t ≡ k.1). known i g (subst (λ (u : View). KnowsShown u i g) (sym e) k.3)) (at_snoc vs t k.1 k.0 k.2))
      (λ i p y _ _ l. inl l)
      (each_snoc (λ b. IsBank b → AllShowKnown vs (banked b)) vs t part.deposits
      (λ _. subst (λ (l : List Deposit). AllShowKnown vs (map (deposited t.fractions.gamma) l)) (sym bare) tt))
      (λ j k a b e e'. ⊎_elim
      (λ (x : get_elem? vs j ≡ some a). ⊎_elim (λ (y : get_elem? vs k ≡ some b) (i : ℕ). part.apart j k a b i x y)
      (λ (y : t ≡ b). subst (NotSeen a) y (λ i m s. let z = ap (times i) blind in absurd (omega arith))) (at_snoc vs t b k e'))
      (λ (x : t ≡ a). subst (λ (u : View). NotSeen u b) x (λ i m. absurd (still i m))) (at_snoc vs t a j e))

  module _ (id : ℕ) (v : View) (at : get_elem? vs id ≡ some v) where
    pub mine : (i : ℕ) (g : Gv) → KnowsShown v i g → IsKnown vs i g
    mine i g k = (id, v, at, k)

    -- the same of one participant's step
    pub kept : (w : View) → (IsBank w → AllShowKnown vs (banked w)) → (hs' : FractionsAtHome) → IsTelling sizes.slots w
        → ((i : ℕ) (g : Gv) → KnowsShown w i g → IsKnown vs i g)
        → ((i p : ℕ) (y : ValueFraction) → i < sizes.slots → p ≤ n → LiesAt n hs' i p y → LiesAt n hs i p y ⊎ ((g : Gv) → IsKnown vs i g → y.content.shown ≡ g))
        → NotSeen w w → ((j : ℕ) (u : View) → j ≢ id → get_elem? vs j ≡ some u → NotSeen w u × NotSeen u w) → RecordsInvariant sizes (set vs id w) hs'
    kept w shown hs' tells known lies self others = kept_by (set vs id w) hs'
        (each_set (IsTelling sizes.slots) (IsTelling sizes.slots) vs id w tells (λ j u _ e. part.each j u e))
        (λ i g k. ⊎_elim (λ (t : KnowsShown w i g). known i g t) (λ (t : IsKnown vs i g). t) (known_after vs id w i g k))
        lies (each_set (λ b. IsBank b → AllShowKnown vs (banked b)) (λ b. IsBank b → AllShowKnown vs (banked b)) vs id w shown (λ j u _ e. part.deposits j u e))
        (both_set NotSeen vs id w (λ j k a b e e' i. part.apart j k a b i e e') self others)

    -- as long as it moves no more than before, and sees no more
    pub no_more : (w : View) → (IsBank w → AllShowKnown vs (banked w)) → (hs' : FractionsAtHome) → IsTelling sizes.slots w
        → ((i : ℕ) (g : Gv) → KnowsShown w i g → IsKnown vs i g)
        → ((i p : ℕ) (y : ValueFraction) → i < sizes.slots → p ≤ n → LiesAt n hs' i p y → LiesAt n hs i p y ⊎ ((g : Gv) → IsKnown vs i g → y.content.shown ≡ g))
        → ((i : ℕ) → Moves w i → Moves v i) → ((i : ℕ) → Sees w i → Sees v i) → RecordsInvariant sizes (set vs id w) hs'
    no_more w shown hs' tells known lies moves sees = kept w shown hs' tells known lies
        (λ i m s. part.apart id id v v i at at (moves i m) (sees i s))
        (λ j u _ e. ((λ i m. part.apart id j v u i at e (moves i m)), (λ i m s. part.apart j id u v i e at m (sees i s))))

    pub calm : (w : View) → IsAlike v w → RecordsInvariant sizes (set vs id w) hs
    calm w same = no_more w (λ is. subst (λ (x : FractionsView). AllShowKnown vs (map (deposited x.gamma) x.banked)) (sym same.0)
        (part.deposits id v at (ap (λ (x : FractionsView). x.bank) (sym same.0) ∙ is))) hs (telling_alike v w same (part.each id v at))
        (λ i g k. mine i g (known_by w i g (λ h. inl (subst (λ (s : FractionsView). IsIn s.owns i g) same.0 h))
        (λ h. inr (inl (subst (λ (s : FractionsView). IsIn s.sees i g) same.0 h)))
        (λ h. inr (inr (subst (λ (s : FractionsView). IsIn s.waits i g) same.0 h))) k))
        (λ i p y _ _ l. inl l) (λ i m. ap (λ (s : FractionsView). s.moves) (sym same.0) ∙ m)
        (λ i s. subst (λ (l : List ℕ). 0 < times i l) same.2 s)

    -- it comes to move the value of a slot that nobody sees, and takes fractions
    pub comes_to_move : (slot : ℕ) (w : View) → (IsBank w → AllShowKnown vs (banked w)) → (hs' : FractionsAtHome) → IsTelling sizes.slots w
        → ((i : ℕ) (g : Gv) → KnowsShown w i g → IsKnown vs i g)
        → ((i p : ℕ) (y : ValueFraction) → i < sizes.slots → p ≤ n → LiesAt n hs' i p y → LiesAt n hs i p y) → w.slots.sees ≡ v.slots.sees
        → ((i : ℕ) → Moves w i → i ≡ slot) → ((j : ℕ) (u : View) → get_elem? vs j ≡ some u → ¬ (Sees u slot)) → RecordsInvariant sizes (set vs id w) hs'
    comes_to_move slot w shown hs' tells known lies same moves blind = let sees : (i : ℕ) → Sees w i → Sees v i
        = λ i s. subst (λ (l : List ℕ). 0 < times i l) same s in
        kept w shown hs' tells known (λ i p y low near l. inl (lies i p y low near l))
        (λ i m s. blind id v at (subst (Sees v) (moves i m) (sees i s)))
        (λ j u _ e. ((λ i m s. blind j u e (subst (Sees u) (moves i m) s)), (λ i m s. part.apart j id u v i e at m (sees i s))))

    -- it comes to know what a slot shows, of which nobody knew; and all fractions in it come home, and show it
    pub comes_to_know : (slot : ℕ) (value : Gv) (w : View) → (IsBank w → IsBank v × (banked w ≡ banked v))
        → ((j : ℕ) (b : View) → get_elem? vs j ≡ some b → IsBank b → (γ : ℕ) × AreDeposits γ (banked b) × (units_at slot (banked b) ≡ 0))
        → (hs' : FractionsAtHome) → IsTelling sizes.slots w → ((g : Gv) → ¬ (IsKnown vs slot g))
        → ((i : ℕ) (g : Gv) → KnowsShown w i g → ((i ≡ slot) × (g ≡ value)) ⊎ IsKnown vs i g)
        → ((i p : ℕ) (y : ValueFraction) → i < sizes.slots → p ≤ n → LiesAt n hs' i p y
        → ((i ≡ slot) × (y.content.shown ≡ value)) ⊎ ((i ≢ slot) × LiesAt n hs i p y))
        → ((i : ℕ) → ¬ (Moves w i)) → ((i : ℕ) → Sees w i → Sees v i) → RecordsInvariant sizes (set vs id w) hs'
    comes_to_know slot value w same bare hs' tells none knows lies still sees = let now : (i : ℕ) (g : Gv) → IsKnown (set vs id w) i g
        → ((i ≡ slot) × (g ≡ value)) ⊎ IsKnown vs i g
        = λ i g k. ⊎_elim (λ (t : KnowsShown w i g). knows i g t) (λ (t : IsKnown vs i g). inr t) (known_after vs id w i g k) in
        let never : (i : ℕ) (g : Gv) → i ≡ slot → ¬ (IsKnown vs i g) = λ i g e k. none g (subst (λ (j : ℕ). IsKnown vs j g) e k) in record {
          each = each_set (IsTelling sizes.slots) (IsTelling sizes.slots) vs id w tells (λ j u _ e. part.each j u e);
          agree = λ i g h a b. ⊎_elim
              (λ (s : (i ≡ slot) × (g ≡ value)). ⊎_elim (λ (t : (i ≡ slot) × (h ≡ value)). s.1 ∙ sym t.1)
              (λ (t : IsKnown vs i h). absurd (never i h s.0 t)) (now i h b))
              (λ (s : IsKnown vs i g). ⊎_elim (λ (t : (i ≡ slot) × (h ≡ value)). absurd (never i g t.0 s))
              (λ (t : IsKnown vs i h). part.agree i g h s t) (now i h b)) (now i g a);
          home = λ i p g y low near k l. ⊎_elim
              (λ (s : (i ≡ slot) × (y.content.shown ≡ value)). ⊎_elim (λ (t : (i ≡ slot) × (g ≡ value)). s.1 ∙ sym t.1)
              (λ (t : IsKnown vs i g). absurd (never i g s.0 t)) (now i g k))
              (λ (s : (i ≢ slot) × LiesAt n hs i p y). ⊎_elim (λ (t : (i ≡ slot) × (g ≡ value)). absurd (s.0 t.0))
              (λ (t : IsKnown vs i g). part.home i p g y low near t s.1) (now i g k)) (lies i p y low near l);
          deposits = let less : (i : ℕ) (g : Gv) → i ≢ slot → IsKnown (set vs id w) i g → IsKnown vs i g
              = λ i g ne k. ⊎_elim (λ (t : (i ≡ slot) × (g ≡ value)). absurd (ne t.0)) (λ (t : IsKnown vs i g). t) (now i g k) in
              let all : (j : ℕ) (b : View) → get_elem? vs j ≡ some b → IsBank b → AllShowKnown (set vs id w) (banked b)
              = λ j b e is. let n = bare j b e is in all_show_then vs (set vs id w) n.0 slot less (banked b) n.1 n.2 (part.deposits j b e is) in
              each_set (λ b. IsBank b → AllShowKnown (set vs id w) (banked b)) (λ b. IsBank b → AllShowKnown (set vs id w) (banked b)) vs id w
              (λ is. let o = same is in subst (AllShowKnown (set vs id w)) (sym o.1) (all id v at o.0)) (λ j u _ e. all j u e);
          apart = λ j k a b i e e' m. both_set NotSeen vs id w (λ j k a b e e' i. part.apart j k a b i e e') (λ i m. absurd (still i m))
              (λ j u _ e. ((λ i m. absurd (still i m)), (λ i m s. part.apart j id u v i e at m (sees i s)))) j k a b e e' i m;
        }

    -- it comes to know what a slot shows, by what lies at home in it, and takes of that at most
    pub comes_to_learn : (slot q : ℕ) (value : Gv) (y : ValueFraction) → slot < sizes.slots → q ≤ n → LiesAt n hs slot q y
        → ((p : ℕ) (z : ValueFraction) → p ≤ n → LiesAt n hs slot p z → z.content.shown ≡ value)
        → ((j : ℕ) (b : View) → get_elem? vs j ≡ some b → IsBank b → ShowOnly slot value (banked b)) → (w : View)
        → (IsBank w → IsBank v × (banked w ≡ banked v)) → (hs' : FractionsAtHome) → IsTelling sizes.slots w
        → ((i : ℕ) (g : Gv) → KnowsShown w i g → ((i ≡ slot) × (g ≡ value)) ⊎ IsKnown vs i g)
        → ((i p : ℕ) (z : ValueFraction) → LiesAt n hs' i p z → LiesAt n hs i p z)
        → NotSeen w w → ((j : ℕ) (u : View) → j ≢ id → get_elem? vs j ≡ some u → NotSeen w u × NotSeen u w) → RecordsInvariant sizes (set vs id w) hs'
    comes_to_learn slot q value y inside near lies shown banks w same hs' tells knows before self others =
        let now : (i : ℕ) (g : Gv) → IsKnown (set vs id w) i g → ((i ≡ slot) × (g ≡ value)) ⊎ IsKnown vs i g
        = λ i g k. ⊎_elim (λ (t : KnowsShown w i g). knows i g t) (λ (t : IsKnown vs i g). inr t) (known_after vs id w i g k) in
        let old : (i : ℕ) (g : Gv) → i ≡ slot → IsKnown vs i g → g ≡ value
        = λ i g e k. sym (part.home slot q g y inside near (subst (λ (a : ℕ). IsKnown vs a g) e k) lies) ∙ shown q y near lies in record {
          each = each_set (IsTelling sizes.slots) (IsTelling sizes.slots) vs id w tells (λ j u _ e. part.each j u e);
          agree = λ i g h a b. ⊎_elim
              (λ (s : (i ≡ slot) × (g ≡ value)). ⊎_elim (λ (t : (i ≡ slot) × (h ≡ value)). s.1 ∙ sym t.1)
              (λ (t : IsKnown vs i h). s.1 ∙ sym (old i h s.0 t)) (now i h b))
              (λ (s : IsKnown vs i g). ⊎_elim (λ (t : (i ≡ slot) × (h ≡ value)). old i g t.0 s ∙ sym t.1)
              (λ (t : IsKnown vs i h). part.agree i g h s t) (now i h b)) (now i g a);
          home = λ i p g z low near' k l. ⊎_elim
              (λ (s : (i ≡ slot) × (g ≡ value)). shown p z near' (subst (λ (a : ℕ). LiesAt n hs a p z) s.0 (before i p z l)) ∙ sym s.1)
              (λ (s : IsKnown vs i g). part.home i p g z low near' s (before i p z l)) (now i g k);
          deposits = let all : (j : ℕ) (b : View) → get_elem? vs j ≡ some b → IsBank b → AllShowKnown (set vs id w) (banked b)
              = λ j b e is. all_learn vs (set vs id w) slot value now (banked b) (banks j b e is) (part.deposits j b e is) in
              each_set (λ b. IsBank b → AllShowKnown (set vs id w) (banked b)) (λ b. IsBank b → AllShowKnown (set vs id w) (banked b)) vs id w
              (λ is. let o = same is in subst (AllShowKnown (set vs id w)) (sym o.1) (all id v at o.0)) (λ j u _ e. all j u e);
          apart = λ j k a b i e e' m. both_set NotSeen vs id w (λ j k a b e e' i. part.apart j k a b i e e') self others j k a b e e' i m;
        }
