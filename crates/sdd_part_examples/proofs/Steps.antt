-- Each step keeps the rule.
use Rattle.std.proofs.Common.{◌≡◌, ◌≢◌, inl, inr, ⊎_elim, ℕ, zero, suc, ◌+◌, ◌-◌, ◌%◌, ◌^◌, ◌<◌, ◌≤◌, List, [], ◌∷◌, ◌++◌, length, get_or, set, length-set, sym, refl, ap, ◌∙◌, subst, ne_eqb, arith, get_or-set_same}
use mathlib.Core.Option.{some, some-injective, some-ne-none}
use mathlib.Core.Logic.{dite}
use native.Mathlib.Decide.{ℕ_discrete}
use lib.ListN.{get_elem?}
use prog.Atomic.{either}
use base.Fml.{Share}
use Rattle.atomic_table.specs.Table.{State, Me, keeps as stays, Allows, Splits}
use Rattle.atomic_table.proofs.Lists.{at_set, set_here, set_else, at_longer, at_snoc}
use Rattle.sdd_domain_invariant.specs.Sums.{total}
use Rattle.sdd_domain_invariant.proofs.Sums.{total_set, total_snoc, total_has, total_two}
use Rattle.sdd_witness.specs.Ledger.{Pledge, Without, Free, noted, Enters, Leaves, JoinsFree}
use Rattle.sdd_part_examples.specs.declared.counted_owners.views.View.{View}
use Rattle.sdd_part_examples.specs.CountedOwners.{Has, owned, held, keeps, blank, one_owner, first, Backed, Kept, pledging, freeing, made, cut, regained, gone, remaining, newcomer, founded, a_ledger, IsFree}

here : (vs : List View) (id : ℕ) (v : View) → get_elem? vs id ≡ some v → id < length vs
here [] id v e = absurd (some-ne-none v (sym e))
here (x ∷ xs) zero v e = omega arith
here (x ∷ xs) (suc id) v e = let h = here xs id v e in omega arith

same_at : (vs : List View) (i j : ℕ) (v u : View) → get_elem? vs i ≡ some v → get_elem? vs j ≡ some u → i ≡ j → v ≡ u
same_at vs i j v u e f is = some-injective v u (sym e ∙ ap (get_elem? vs) is ∙ f)

-- a list with one element changed, read forward
module _ (vs : List View) (id : ℕ) (v w : View) (at : get_elem? vs id ≡ some v) where
  forth : (F : View → Type 0) → (F v → F w) → (k : ℕ) (u : View) → get_elem? vs k ≡ some u → F u → (u' : View) × (get_elem? (set vs id w) k ≡ some u') × F u'
  forth F on k u e f = dite (ℕ_discrete k id)
      (λ is. (
        w,
        subst (λ (m : ℕ). get_elem? (set vs id w) m ≡ some w) (sym is) (set_here vs id w (here vs id v at)),
        on
            (subst F (same_at vs k id u v e at is) f),
      ))
      (λ ne. (u, set_else vs id k w ne ∙ e, f))

  back : (G : ℕ → View → Type 0) → G id w → ((k : ℕ) (u : View) → k ≢ id → get_elem? vs k ≡ some u → G k u)
      → (k : ℕ) (u : View) → get_elem? (set vs id w) k ≡ some u → G k u
  back G new old k u e = ⊎_elim (λ (t : (k ≡ id) × (w ≡ u)). subst (λ (m : ℕ). G m u) (sym t.0) (subst (λ (x : View). G id x) t.1 new))
      (λ (t : (k ≢ id) × (get_elem? vs k ≡ some u)). old k u t.0 t.1) (at_set vs id k w u e)

-- how a pledge stays backed
carry : (vs vs' : List View) (k : ℕ) (p : Pledge) → Backed vs k p
    → ((x : View) → get_elem? vs p.seat ≡ some x → (x.owner ≡ 1) × (0 < x.owned) → (x' : View) × (get_elem? vs' p.seat ≡ some x') ×
    ((x'.owner ≡ 1) × (0 < x'.owned)))
    → ((j : ℕ) (b : View) → get_elem? vs j ≡ some b → b.ledger ≡ 1 → (b' : View) × (get_elem? vs' j ≡ some b') × (b'.ledger ≡ 1))
    → ((j : ℕ) (b : View) → get_elem? vs' j ≡ some b → b.ledger ≡ 1 → Has p b.books)
    → Backed vs' k p
carry vs vs' k p B owner some_ledger books = let o = owner B.owner.0 B.owner.1 (B.owner.2, B.owner.3) in
    let l = some_ledger B.somewhere.0 B.somewhere.1 B.somewhere.2 B.somewhere.3 in
    record { own = B.own; owner = (o.0, o.1, o.2.0, o.2.1); somewhere = (B.somewhere.0, l.0, l.1, l.2); booked = books }

not_both : (vs : List View) (j k : ℕ) (a b : View) → total keeps vs ≤ 1 → j ≢ k → get_elem? vs j ≡ some a → get_elem? vs k ≡ some b → a.ledger ≡ 1 → 0 < keeps
    b → ⊥
not_both vs j k a b one apart ea eb la lb = let t = total_two keeps vs j k a b apart ea eb in absurd (omega arith)

-- ---- a pledge taken out
takes_out : (p : Pledge) (ps : List Pledge) → Has p ps → (rest : List Pledge) × Without ps p rest × ((q : Pledge) → q.who ≢ p.who → Has q ps → Has q rest)
takes_out p [] has = absurd has
takes_out p (q ∷ qs) (inl is) = (
  qs,
  inl (is, refl),
  λ r ne has. ⊎_elim (λ (t : r ≡ q). absurd (ne (ap (λ (x : Pledge). x.who) (t ∙ sym is))))
      (λ (t : Has r qs). t) has,
)
takes_out p (q ∷ qs) (inr has) = let r = takes_out p qs has in
    (q ∷ r.0, inr (r.0, r.1, refl), λ x ne h. ⊎_elim (λ (t : x ≡ q). inl t) (λ (t : Has x qs). inr (r.2 x ne t)) h)

free_of : (jd : ℕ) (ps : List Pledge) (p : Pledge) → Free jd ps → Has p ps → p.seat ≢ jd
free_of jd [] p free has = absurd has
free_of jd (q ∷ qs) p free (inl is) = λ e. free.0 (ap (λ (x : Pledge). x.seat) (sym is) ∙ e)
free_of jd (q ∷ qs) p free (inr has) = free_of jd qs p free.1 has

first_of : Pledge → List Pledge → Pledge
first_of d [] = d
first_of d (x ∷ xs) = x

firsts : (p q : Pledge) → p ∷ [] ≡ q ∷ [] → p ≡ q
unfolding first_of
firsts p q e = ap (first_of p) e

abbrev IsNone : List Pledge → Type 0
IsNone [] = Unit {0}
IsNone (x ∷ xs) = ⊥

not_none : (p : Pledge) → [] ≡ p ∷ [] → ⊥
not_none p e = subst IsNone e tt

abbrev Sane : View → Type 0
Sane x = (x.owner ≡ 1) × (0 < x.owned)

-- ---- two views with other pledges
module _ (vs : List View) (id : ℕ) (v w : View) (bd : ℕ) (b b' : View) (at : get_elem? vs id ≡ some v) (at_b : get_elem? vs bd ≡ some b) (two : id ≢ bd) where
  at₁ : get_elem? (set vs id w) bd ≡ some b
  at₁ = set_else vs id bd w (λ e. two (sym e)) ∙ at_b

  sum_two : (f : View → ℕ) → f w ≡ f v → f b' ≡ f b → total f (set (set vs id w) bd b') ≡ total f vs
  sum_two f ew eb = let s = total_set f vs id v w at in let t = total_set f (set vs id w) bd b b' at₁ in omega arith

  forth_two : (F : View → Type 0) → (F v → F w) → (F b → F b') → (k : ℕ) (u : View) → get_elem? vs k ≡ some u → F u
      → (u' : View) × (get_elem? (set (set vs id w) bd b') k ≡ some u') × F u'
  forth_two F onw onb k u e f = let r = forth vs id v w at F onw k u e f in forth (set vs id w) bd b b' at₁ F onb k r.0 r.1 r.2

  back_two : (G : ℕ → View → Type 0) → G id w → G bd b' → ((k : ℕ) (u : View) → k ≢ id → k ≢ bd → get_elem? vs k ≡ some u → G k u)
      → (k : ℕ) (u : View) → get_elem? (set (set vs id w) bd b') k ≡ some u → G k u
  back_two G gw gb old k u e =
      ⊎_elim (λ (t : (k ≡ bd) × (b' ≡ u)). subst (λ (m : ℕ). G m u) (sym t.0) (subst (λ (x : View). G bd x) t.1 gb))
      (λ (t : (k ≢ bd) × (get_elem? (set vs id w) k ≡ some u)).
      ⊎_elim (λ (r : (k ≡ id) × (w ≡ u)). subst (λ (m : ℕ). G m u) (sym r.0) (subst (λ (x : View). G id x) r.1 gw))
      (λ (r : (k ≢ id) × (get_elem? vs k ≡ some u)). old k u r.0 t.0 r.1) (at_set vs id k w u t.1)) (at_set (set vs id w) bd k b' u e)

pub enters : (id : ℕ) (v : View) (bd jd : ℕ) (at : base.Stored.Gv) (r : Share) → let pl : Pledge = record { who = id; seat = jd; view = at; share = r } in
    Enters Kept (λ b. b.ledger ≡ 1) (λ b. b.books) pl v (pledging v pl) bd one_owner
enters id v bd jd gv r s b K at_v at_b our two shown = let pl : Pledge = record { who = id; seat = jd; view = gv; share = r } in let w : View = pledging v pl in
    let b' : View = record b { books = pl ∷ b.books } in let vs : List View = s.views in let ws : List View = set (set vs id w) bd b' in
    let same : total owned ws ≡ total owned vs = sum_two vs id v w bd b b' at_v at_b two owned refl refl in
    let carries : (k : ℕ) (p : Pledge) → Backed vs k p → Backed ws k p = λ k p B. carry vs ws k p B
    (forth_two vs id v w bd b b' at_v at_b two Sane (λ x. x) (λ x. x) p.seat)
    (forth_two vs id v w bd b b' at_v at_b two (λ x. x.ledger ≡ 1) (λ x. x) (λ x. x))
    (back_two vs id v w bd b b' at_v at_b two (λ k u. u.ledger ≡ 1 → Has p u.books) (B.booked id v at_v) (λ _. inr (B.booked bd b at_b our))
    (λ k u _ _. B.booked k u)) in (
      b',
      record {
        long = K.long;
        counted = K.counted ∙ sym same;
        bounded = let t = sum_two vs id v w bd b b' at_v at_b two held refl refl in let h = K.bounded in omega arith;
        single = let t = sum_two vs id v w bd b b' at_v at_b two keeps refl refl in let h = K.single in omega arith;
        ended = back_two vs id v w bd b b' at_v at_b two (λ k u. u.last ≡ 1 → total owned ws ≡ 0) (λ l. same ∙ K.ended id v at_v l)
            (λ l. same ∙ K.ended bd b at_b l)
            (λ k u _ _ e l. same ∙ K.ended k u e l);
        backed = λ k u p e m. back_two vs id v w bd b b' at_v at_b two (λ k u. u.mine ≡ p ∷ [] → Backed ws k p)
            (λ m. let is : pl ≡ p = firsts pl p m in subst (λ (q : Pledge). Backed ws id q) is record {
              own = refl;
              owner = let o = forth_two vs id v w bd b b' at_v at_b two Sane (λ x. x) (λ x. x) jd one_owner shown (refl, omega arith) in
                  (o.0, o.1, o.2.0, o.2.1);
              somewhere = (bd, b', set_here (set vs id w) bd b' (here (set vs id w) bd b (at₁ vs id v w bd b b' at_v at_b two)), our);
              booked = back_two vs id v w bd b b' at_v at_b two (λ k u. u.ledger ≡ 1 → Has pl u.books)
                  (λ l. absurd (not_both vs id bd v b K.single two at_v at_b l (let h : 0 < keeps b = omega arith in h))) (λ _. inl refl)
                  (λ k u _ ne e l. absurd (not_both vs k bd u b K.single ne e at_b l (let h : 0 < keeps b = omega arith in h)));
            })
            (λ m. carries bd p (K.backed bd b p at_b m)) (λ k u _ _ e m. carries k p (K.backed k u p e m)) k u e m;
      },
      our,
      refl,
    )

pub leaves : (id : ℕ) (v : View) (bd : ℕ) (pl : Pledge) → pl.who ≡ id → v.mine ≡ pl ∷ [] → Leaves Kept (λ b. b.ledger ≡ 1) (λ b. b.books) pl v (freeing v) bd
leaves id v bd pl own has s b K at_v' at_b our two' = let w : View = freeing v in let vs : List View = s.views in
    let at_v : get_elem? vs id ≡ some v = subst (λ (m : ℕ). get_elem? vs m ≡ some v) own at_v' in let two : id ≢ bd = λ e. two' (own ∙ e) in
    let out = takes_out pl b.books ((K.backed id v pl at_v has).booked bd b at_b our) in
    let b' : View = record b { books = out.0 } in let ws : List View = set (set vs id w) bd b' in
    let same : total owned ws ≡ total owned vs = sum_two vs id v w bd b b' at_v at_b two owned refl refl in
    let carries : (k : ℕ) (p : Pledge) → k ≢ id → Backed vs k p → Backed ws k p = λ k p ne B. carry vs ws k p B
    (forth_two vs id v w bd b b' at_v at_b two Sane (λ x. x) (λ x. x) p.seat)
    (forth_two vs id v w bd b b' at_v at_b two (λ x. x.ledger ≡ 1) (λ x. x) (λ x. x))
    (back_two vs id v w bd b b' at_v at_b two (λ k u. u.ledger ≡ 1 → Has p u.books) (B.booked id v at_v)
    (λ _. out.2 p (λ e. ne (sym B.own ∙ e ∙ own)) (B.booked bd b at_b our)) (λ k u _ _. B.booked k u)) in (
      b',
      subst (λ (m : ℕ). Kept (noted s m w bd b')) (sym own) record {
        long = K.long;
        counted = K.counted ∙ sym same;
        bounded = let t = sum_two vs id v w bd b b' at_v at_b two held refl refl in let h = K.bounded in omega arith;
        single = let t = sum_two vs id v w bd b b' at_v at_b two keeps refl refl in let h = K.single in omega arith;
        ended = back_two vs id v w bd b b' at_v at_b two (λ k u. u.last ≡ 1 → total owned ws ≡ 0) (λ l. same ∙ K.ended id v at_v l)
            (λ l. same ∙ K.ended bd b at_b l)
            (λ k u _ _ e l. same ∙ K.ended k u e l);
        backed = λ k u p e m. back_two vs id v w bd b b' at_v at_b two (λ k u. u.mine ≡ p ∷ [] → Backed ws k p)
            (λ m. absurd (not_none p m)) (λ m. carries bd p (λ e. two (sym e)) (K.backed bd b p at_b m)) (λ k u ne _ e m. carries k p ne (K.backed k u p e m))
            k u e m;
      },
      our,
      out.1,
    )

-- ---- one view, and the word
module _ (vs : List View) (id : ℕ) (v w : View) (at : get_elem? vs id ≡ some v) (owner : w.owner ≡ v.owner) (ledger : w.ledger ≡ v.ledger)
    (founds : w.founds ≡ v.founds)
    (books : w.books ≡ v.books) (mine : w.mine ≡ v.mine) (enough : v.owner ≡ 1 → 0 < w.owned) where
  keep_backed : ((i : ℕ) (u : View) (p : Pledge) → get_elem? vs i ≡ some u → u.mine ≡ p ∷ [] → Backed vs i p)
      → (i : ℕ) (u : View) (p : Pledge) → get_elem? (set vs id w) i ≡ some u → u.mine ≡ p ∷ [] → Backed (set vs id w) i p
  keep_backed old i u p e m = let ws : List View = set vs id w in
      let carries : (k : ℕ) → Backed vs k p → Backed ws k p = λ k B. carry vs ws k p B
      (forth vs id v w at Sane (λ x. (owner ∙ x.0, enough x.0)) p.seat) (forth vs id v w at (λ x. x.ledger ≡ 1) (λ x. ledger ∙ x))
      (back vs id v w at (λ k u. u.ledger ≡ 1 → Has p u.books) (λ l. subst (λ (ps : List Pledge). Has p ps) (sym books) (B.booked id v at (sym ledger ∙ l)))
      (λ k u _. B.booked k u)) in
      back vs id v w at (λ k u. u.mine ≡ p ∷ [] → Backed ws k p) (λ m. carries id (old id v p at (sym mine ∙ m))) (λ k u _ e m. carries k (old k u p e m)) i u
      e m

set_word : (ws : List ℕ) (n : ℕ) → length ws ≡ 1 → get_or (set ws 0 n) 0 0 ≡ n
set_word ws n long = get_or-set_same ws 0 n 0 (omega arith)

-- who has pledged a share of an owner's token adds one
pub adds : (slots id : ℕ) (me : Me (Unit {0}) View) (pl : Pledge) → me.0.mine ≡ pl ∷ [] → 0 < me.0.room
    → Allows Kept slots id me 0 (λ n. (n + 1) % 2 ^ 64) (λ _ after. after ≡ (made me.0, me.1))
adds slots id me pl has room s K homes at fits = let v : View = me.0 in let w : View = made v in let vs : List View = s.views in
    let B = K.backed id v pl at has in let some_owner = total_has owned vs pl.seat B.owner.0 B.owner.1 in
    let t = total_set owned vs id v w at in let h = total_set held vs id v w at in let held_v = total_has held vs id v at in
    let most = K.bounded in let counts = K.counted in let pos = B.owner.3 in
    let own_held : total owned vs + v.room ≤ total held vs = owned_held vs id v at in (
      w,
      stays,
      tt,
      record {
        long = length-set s.words 0 _ ∙ K.long;
        counted = set_word s.words _ K.long ∙ let n : ℕ = get_or s.words 0 0 in let a : (n + 1) % 2 ^ 64 ≡ n + 1 = omega arith in
            let b : n + 1 ≡ total owned (set vs id w) = omega arith in a ∙ b;
        bounded = omega arith;
        single = let k = total_set keeps vs id v w at in let one = K.single in omega arith;
        ended = back vs id v w at (λ k u. u.last ≡ 1 → total owned (set vs id w) ≡ 0) (λ l. let z = K.ended id v at l in absurd (omega arith))
            (λ k u _ e l. let z = K.ended k u e l in absurd (omega arith));
        backed = keep_backed vs id v w at refl refl refl refl refl (λ _. omega arith) K.backed;
      },
      refl,
    )
  where
    owned_held : (us : List View) (i : ℕ) (x : View) → get_elem? us i ≡ some x → total owned us + x.room ≤ total held us
    owned_held [] i x e = absurd (some-ne-none x (sym e))
    owned_held (y ∷ ys) zero x e = let s = ap (λ (q : View). q.room) (some-injective _ _ e) in let r = all_held ys in omega arith
      where
        all_held : (us : List View) → total owned us ≤ total held us
        all_held [] = omega arith
        all_held (z ∷ zs) = let r = all_held zs in omega arith
    owned_held (y ∷ ys) (suc i) x e = let r = owned_held ys i x e in omega arith

-- who has an owner takes it out of the count
pub subtracts : (slots id : ℕ) (me : Me (Unit {0}) View) → IsFree me.0 → 0 < me.0.owned
    → Allows Kept slots id me 0 (λ n. (n + (2 ^ 64 - 1)) % 2 ^ 64) (λ n after. after ≡ (gone n me.0, me.1))
subtracts slots id me free some_owned s K homes at fits = let v : View = me.0 in let n : ℕ = get_or s.words 0 0 in let w : View = gone n v in
    let vs : List View = s.views in
    let t = total_set owned vs id v w at in let h = total_set held vs id v w at in let has = total_has owned vs id v at in
    let most = K.bounded in let counts = K.counted in (
      w,
      stays,
      tt,
      record {
        long = length-set s.words 0 _ ∙ K.long;
        counted = set_word s.words _ K.long ∙ let a : (n + (2 ^ 64 - 1)) % 2 ^ 64 ≡ n - 1 = omega arith in
            let b : n - 1 ≡ total owned (set vs id w) = omega arith in a ∙ b;
        bounded = omega arith;
        single = let k = total_set keeps vs id v w at in let one = K.single in omega arith;
        ended = back vs id v w at (λ k u. u.last ≡ 1 → total owned (set vs id w) ≡ 0)
            (λ l. dite (ℕ_discrete n 1) (λ is. omega arith) (λ no.
            let m : v.last ≡ 1 = sym (ap (λ (x : _). either x 1 v.last) (ne_eqb n 1 no)) ∙ l in
            let z = K.ended id v at m in absurd (omega arith)))
            (λ k u _ e l. let z = K.ended k u e l in absurd (omega arith));
        backed = keep_backed vs id v w at refl refl refl refl refl (λ o. let f = free.owner in absurd (omega arith)) K.backed;
      },
      refl,
    )

-- an owner leaves as a token of its own
pub parts : (id : ℕ) (v : View) → IsFree v → 0 < v.owned → Splits Kept id v (cut v) one_owner
parts id v free some_owned s K at = let w : View = cut v in let vs : List View = s.views in let us : List View = set vs id w in
    let ws : List View = us ++ one_owner ∷ [] in
    let t = total_set owned vs id v w at in let h = total_set held vs id v w at in let k = total_set keeps vs id v w at in
    let t' = total_snoc owned us one_owner in let h' = total_snoc held us one_owner in let k' = total_snoc keeps us one_owner in
    let counts = K.counted in let most = K.bounded in let single = K.single in let all : total owned ws ≡ total owned vs = omega arith in
    let middle = keep_backed vs id v w at refl refl refl refl refl (λ o. let f = free.owner in absurd (omega arith)) K.backed in
    let carries : (i : ℕ) (p : Pledge) → Backed us i p → Backed ws i p = λ i p B. carry us ws i p B
    (λ x e x'. (x, at_longer us (one_owner ∷ []) p.seat x e, x')) (λ j b e l. (b, at_longer us (one_owner ∷ []) j b e, l))
    (λ j b e l. ⊎_elim (λ (r : get_elem? us j ≡ some b). B.booked j b r l)
    (λ (r : one_owner ≡ b). let z = ap (λ (x : View). x.ledger) r in absurd (omega arith))
    (at_snoc us one_owner b j e)) in
    record {
      long = K.long;
      counted = omega arith;
      bounded = omega arith;
      single = omega arith;
      ended = λ i u e l. ⊎_elim
          (λ (r : get_elem? us i ≡ some u). back vs id v w at (λ k u. u.last ≡ 1 → total owned ws ≡ 0) (λ l. all ∙ K.ended id v at l)
          (λ k u _ e l. all ∙ K.ended k u e l) i u r l)
          (λ (r : one_owner ≡ u). let z = ap (λ (x : View). x.last) r in absurd (omega arith)) (at_snoc us one_owner u i e);
      backed = λ i u p e m. ⊎_elim (λ (r : get_elem? us i ≡ some u). carries i p (middle i u p r m))
          (λ (r : one_owner ≡ u). absurd (not_none p (ap (λ (x : View). x.mine) r ∙ m))) (at_snoc us one_owner u i e);
    }

-- another participant gets half of the room
pub halves : (id : ℕ) (v : View) → IsFree v → Splits Kept id v (remaining v) (newcomer v)
halves id v free s K at = let w : View = remaining v in let new : View = newcomer v in let vs : List View = s.views in let us : List View = set vs id w in
    let ws : List View = us ++ new ∷ [] in
    let t = total_set owned vs id v w at in let h = total_set held vs id v w at in let k = total_set keeps vs id v w at in
    let t' = total_snoc owned us new in let h' = total_snoc held us new in let k' = total_snoc keeps us new in
    let counts = K.counted in let most = K.bounded in let single = K.single in let all : total owned ws ≡ total owned vs = omega arith in
    let middle = keep_backed vs id v w at refl refl refl refl refl (λ o. let f = free.owner in absurd (omega arith)) K.backed in
    let carries : (i : ℕ) (p : Pledge) → Backed us i p → Backed ws i p = λ i p B. carry us ws i p B
    (λ x e x'. (x, at_longer us (new ∷ []) p.seat x e, x')) (λ j b e l. (b, at_longer us (new ∷ []) j b e, l))
    (λ j b e l. ⊎_elim (λ (r : get_elem? us j ≡ some b). B.booked j b r l) (λ (r : new ≡ b). let z = ap (λ (x : View). x.ledger) r in absurd (omega arith))
    (at_snoc us new b j e)) in
    record {
      long = K.long;
      counted = omega arith;
      bounded = omega arith;
      single = omega arith;
      ended = λ i u e l. ⊎_elim
          (λ (r : get_elem? us i ≡ some u). back vs id v w at (λ k u. u.last ≡ 1 → total owned ws ≡ 0) (λ l. all ∙ K.ended id v at l)
          (λ k u _ e l. all ∙ K.ended k u e l) i u r l)
          (λ (r : new ≡ u). let z = ap (λ (x : View). x.last) r in absurd (omega arith)) (at_snoc us new u i e);
      backed = λ i u p e m. ⊎_elim (λ (r : get_elem? us i ≡ some u). carries i p (middle i u p r m))
          (λ (r : new ≡ u). absurd (not_none p (ap (λ (x : View). x.mine) r ∙ m))) (at_snoc us new u i e);
    }

-- the ledger is founded: no pledge can be there yet
pub founds : (id : ℕ) (v : View) → v.founds ≡ 1 → Splits Kept id v (founded v) a_ledger
founds id v may s K at = let w : View = founded v in let vs : List View = s.views in let us : List View = set vs id w in
    let ws : List View = us ++ a_ledger ∷ [] in
    let t = total_set owned vs id v w at in let h = total_set held vs id v w at in let k = total_set keeps vs id v w at in
    let t' = total_snoc owned us a_ledger in let h' = total_snoc held us a_ledger in let k' = total_snoc keeps us a_ledger in
    let counts = K.counted in let most = K.bounded in let single = K.single in let all : total owned ws ≡ total owned vs = omega arith in
    let no_pledge : (i : ℕ) (p : Pledge) → Backed vs i p → ⊥ = λ i p B. let l = B.somewhere.3 in
    let fl : 0 < keeps v = omega arith in dite (ℕ_discrete B.somewhere.0 id)
    (λ is. let e = same_at vs B.somewhere.0 id B.somewhere.1 v B.somewhere.2 at is in let lv = ap (λ (x : View). x.ledger) e in
    let a = total_has keeps vs id v at in
    absurd (omega arith))
    (λ ne. not_both vs B.somewhere.0 id B.somewhere.1 v single ne B.somewhere.2 at l fl) in
    record {
      long = K.long;
      counted = omega arith;
      bounded = omega arith;
      single = omega arith;
      ended = λ i u e l. ⊎_elim
          (λ (r : get_elem? us i ≡ some u). back vs id v w at (λ k u. u.last ≡ 1 → total owned ws ≡ 0) (λ l. all ∙ K.ended id v at l)
          (λ k u _ e l. all ∙ K.ended k u e l) i u r l)
          (λ (r : a_ledger ≡ u). let z = ap (λ (x : View). x.last) r in absurd (omega arith)) (at_snoc us a_ledger u i e);
      backed = λ i u p e m. ⊎_elim
          (λ (r : get_elem? us i ≡ some u). back vs id v w at (λ k u. u.mine ≡ p ∷ [] → Backed ws k p) (λ m. absurd (no_pledge id p (K.backed id v p at m)))
          (λ k u _ e m. absurd (no_pledge k p (K.backed k u p e m))) i u r m)
          (λ (r : a_ledger ≡ u). absurd (not_none p (ap (λ (x : View). x.mine) r ∙ m))) (at_snoc us a_ledger u i e);
    }

-- an owner comes back: nobody has pledged a share of its token
pub joins : (id : ℕ) (v : View) (other bd : ℕ) → JoinsFree Kept (λ b. b.ledger ≡ 1) (λ b. b.books) id v other one_owner bd (regained v) blank
joins id v other bd s b K at at_o at_b our two far free = let w : View = regained v in let vs : List View = s.views in
    let ws : List View = set (set vs id w) other blank in let apart : id ≢ other = λ e. two (sym e) in
    let at_o' : get_elem? (set vs id w) other ≡ some one_owner = set_else vs id other w two ∙ at_o in
    let sums : (f : View → ℕ) → total f ws + f one_owner + f v ≡ total f vs + f w + f blank
    = λ f. let t = total_set f vs id v w at in let r = total_set f (set vs id w) other one_owner blank at_o' in omega arith in
    let a = sums owned in let h = sums held in let k = sums keeps in let counts = K.counted in let most = K.bounded in let single = K.single in
    let has = total_has owned vs other one_owner at_o in
    let mine_of : (i : ℕ) (p : Pledge) → Backed vs i p → p.seat ≢ other = λ i p B. free_of other b.books p free (B.booked bd b at_b our) in
    let carries : (i : ℕ) (p : Pledge) → Backed vs i p → Backed ws i p = λ i p B. carry vs ws i p B
    (λ x e x'. let r = forth vs id v w at Sane (λ y. (y.0, omega arith)) p.seat x e x' in
    (r.0, set_else (set vs id w) other p.seat blank (mine_of i p B) ∙ r.1, r.2))
    (λ j c e l. let r = forth vs id v w at (λ x. x.ledger ≡ 1) (λ x. x) j c e l in
    dite (ℕ_discrete j other) (λ is. let z = ap (λ (x : View). x.ledger) (same_at vs j other c one_owner e at_o is) in absurd (omega arith))
    (λ ne. (r.0, set_else (set vs id w) other j blank ne ∙ r.1, r.2)))
    (back_two vs id v w other one_owner blank at at_o apart (λ k u. u.ledger ≡ 1 → Has p u.books) (B.booked id v at) (λ l. absurd (omega arith))
    (λ k u _ _. B.booked k u)) in
    record {
      long = K.long;
      counted = omega arith;
      bounded = omega arith;
      single = omega arith;
      ended = back_two vs id v w other one_owner blank at at_o apart (λ k u. u.last ≡ 1 → total owned ws ≡ 0)
          (λ l. let z = K.ended id v at l in absurd (omega arith))
          (λ l. absurd (omega arith)) (λ k u _ _ e l. let z = K.ended k u e l in absurd (omega arith));
      backed = λ i u p e m. back_two vs id v w other one_owner blank at at_o apart (λ k u. u.mine ≡ p ∷ [] → Backed ws k p)
          (λ m. carries id p (K.backed id v p at m))
          (λ m. absurd (not_none p m)) (λ k u _ _ e m. carries k p (K.backed k u p e m)) i u e m;
    }

pub begins : Kept (record { words = 1 ∷ []; homes = []; views = first ∷ [] })
begins = record {
  long = refl;
  counted = refl;
  bounded = omega arith;
  single = omega arith;
  ended = λ i v e l. one i v e l;
  backed = λ i v p e m. absurd (none i v p e m);
}
  where
    one : (i : ℕ) (v : View) → get_elem? (first ∷ []) i ≡ some v → v.last ≡ 1 → total owned (first ∷ []) ≡ 0
    one zero v e l = let z = ap (λ (x : View). x.last) (some-injective _ _ e) in absurd (omega arith)
    one (suc i) v e l = absurd (some-ne-none v (sym e))

    none : (i : ℕ) (v : View) (p : Pledge) → get_elem? (first ∷ []) i ≡ some v → v.mine ≡ p ∷ [] → ⊥
    none zero v p e m = not_none p (ap (λ (x : View). x.mine) (some-injective _ _ e) ∙ m)
    none (suc i) v p e m = absurd (some-ne-none v (sym e))

abbrev pub with_room : View
with_room = record blank { room = 1 }
