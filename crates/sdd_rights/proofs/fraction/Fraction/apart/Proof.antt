-- `apart` opens both borrows, and gives both back.
use Rattle.sdd_rights.proofs.Names.{◌≡◌, [], ◌∷◌, refl, List, ℕ, ◌+◌, ◌^◌, ◌<◌, ◌≤◌, sym, a_type, named, Val, vptr, vunit, inst_fn, SProp, emp, ‵, raw, ◌⊛◌, given, learn, ◌$◌, ◌∵◌, !, qed, by, keep, split, fjoin, use0, use2, move, fsplit, fsplit3, fjoin3, join, feq_i, rewrite, of_opd, unit_lit, returns, enter, alloc_all, pass_all, free_all, look_at, sets, tables, RattleType, owns, types_at, plain, nothing, opens, closes, heard, param, layouts, Stays, stay_ref, walk_of, Goes-ref, fact, fact_i, ftrue, Fml, fsep, flft, Lft, mut_vals, mut_Tells, proved, leaves, Gv}
use Rattle.sdd_rights.specs.Units.{units, told}
use Rattle.sdd_rights.proofs.Steps.{Meets, apart_at}
use Rattle.sdd_rights.specs.contracts.fraction.Fraction as fraction
use Rattle.sdd_rights.specs.contracts.fraction.Fraction.apart.{ended, clauses}
use Rattle.sdd_rights.specs.contracts.fraction.Fraction.apart.Key.{name as #self}
use Rattle.sdd_rights.proofs.fraction.Fraction.apart.Statement.{statement}
use Rattle.sdd_rights.proofs.fraction.Fraction.apart.Code as code

pub apart_spec : {M : Type 1} → statement M
apart_spec 𝓤 𝓛 𝓜 𝓡 wired X L =
    let H = 𝓛.H in let 𝓣 = tables 𝓤 H 𝓜 𝓡 𝓡.env in let R : RattleType = param 0 X in let En = ended X in let inst = layouts (a_type ∷ []) (X, tt) in
    let fn = inst_fn inst code.function in let Row : RattleType = fraction.the_row R in let c = clauses X 𝓛 𝓜.mem 𝓡.returns in
    let self = plain (λ _. Row) in let hs : Stays En.signature.params En.kept = (stay_ref (0 ∷ []) tt self, (stay_ref (1 ∷ []) tt self, tt)) in
    proved 𝓛 En hs c 𝓜 𝓡 (Goes-ref 𝓛 3 0 tt self, (Goes-ref 𝓛 3 1 tt self, tt)) (#self inst) fn (code.unfolded 𝓤 H 𝓜 𝓡 wired (X, tt))
    (λ κs. (mut_vals, (mut_vals, tt))) (λ κs. (mut_Tells (named 0) κs.0 Row, (mut_Tells (named 1) κs.1.0 Row, tt))) (λ κs qs bounds a gh are.
    let b : ℕ = a.0.ref_ptr.0 in let o : ℕ = a.0.ref_ptr.1 in let b' : ℕ = a.1.0.ref_ptr.0 in let o' : ℕ = a.1.0.ref_ptr.1 in let κ : Lft = κs.0 in
    let d : Row.Denot = a.0.now in let e : Row.Denot = a.1.0.now in
    let rest : Fml = fsep (flft κs.1.1.0 qs.1.1.0) ftrue in let others : Fml = fsep (flft κs.1.0 qs.1.0) rest in
    let k : ℕ = d.units in let j : ℕ = e.units in let g : Gv = told R.coded d.lifetime d.kind d.shown in let h : Gv = told R.coded e.lifetime e.kind e.shown in
    let i : ℕ = d.home.name in let n : ℕ = d.number in let says = λ (A : Type 0) (x : A). fact_i 𝓤 A (emp 𝓤) x in
    let y : (walk_of 𝓛 En hs c).Ghost = ((κs, qs, bounds, a, (vptr b o ∷ [], (vptr b' o' ∷ [], tt))), gh) in
    let Post : Val → SProp 𝓤 = (walk_of 𝓛 En hs c).post y in
    qed 𝓛 (((‵ (flft κ qs.0) ⊛ ‵ others) ⊛ ‵ (owns (types_at En.signature.params κs) a y.0.4)) ∷ raw (fact 𝓤 _) ∷ raw (fact 𝓤 (e.home ≡ d.home)) ∷
    raw (fact 𝓤 (e.number ≡ d.number)) ∷ []) ∵
    keep ! (2 ∷ 3 ∷ 0 ∷ []) $ heard ! (e.home ≡ d.home) (λ homes. heard ! (e.number ≡ d.number) (λ numbers.
    let place : (e.home.name, e.number) ≡ (i, n) = λ l. ((homes l).name, numbers l) in
    split ! $ split ! $ move ! (2 ∷ []) $ fsplit3 ! $ fsplit3 ! $ move ! (3 ∷ []) $ fsplit3 ! $
    move ! (8 ∷ []) $ fsplit ! $ keep ! (6 ∷ 7 ∷ 9 ∷ 3 ∷ 4 ∷ 0 ∷ 1 ∷ []) $
    enter ! 𝓣.C 𝓣.Λ fn (vptr b o ∷ vptr b' o' ∷ []) Post $ alloc_all ! (λ l. pass_all ! refl ((tt, tt), ((tt, tt), tt)) $
    opens ! tt Row b o (λ vs. move ! (1 ∷ []) $ fsplit ! $ move ! (1 ∷ []) $ fsplit ! $ move ! (7 ∷ 8 ∷ 9 ∷ []) $
    opens ! tt Row b' o' (λ vs'. move ! (1 ∷ []) $ fsplit ! $ move ! (1 ∷ []) $ fsplit ! $
    -- [the other's units, tokens, fields, cell; its open borrow, in three entries; the same of self; the other lifetimes]
    rewrite ! 0 (λ (m : ℕ × ℕ). ‵ (units m.0 m.1 h j)) place refl $ move ! (7 ∷ 0 ∷ []) $
    use2 𝓛 (given (Meets g h k j) (‵ (units i n g k) ⊛ ‵ (units i n h j))) (apart_at 𝓛 i n g h k j) $ learn ! (λ meets. split ! $ move ! (1 ∷ []) $
    rewrite ! 0 (λ (m : ℕ × ℕ). ‵ (units m.0 m.1 h j)) (sym place) refl $
    move ! (0 ∷ 2 ∷ []) $ fjoin ! $ move ! (2 ∷ 0 ∷ []) $ fjoin ! $ move ! (2 ∷ 0 ∷ 3 ∷ 4 ∷ 5 ∷ []) $ closes ! tt Row e vs' b' o' $
    move ! (3 ∷ 4 ∷ 5 ∷ 6 ∷ 7 ∷ 8 ∷ 9 ∷ []) $ fjoin ! $ move ! (1 ∷ 0 ∷ []) $ fjoin ! $ move ! (1 ∷ 0 ∷ []) $ closes ! tt Row d vs b o $
    feq_i ! (List Val) (vptr b o ∷ []) (vptr b o ∷ []) refl $ fjoin3 ! $ move ! (2 ∷ 3 ∷ []) $
    feq_i ! (List Val) (vptr b' o' ∷ []) (vptr b' o' ∷ []) refl $ fjoin3 ! $
    nothing ! $ move ! (1 ∷ 0 ∷ []) $ fjoin ! $ move ! (1 ∷ 0 ∷ []) $ fjoin ! $ move ! (2 ∷ 3 ∷ []) $ fjoin ! $ move ! (2 ∷ 0 ∷ 1 ∷ []) $ join ! $
    sets ! (of_opd ! (unit_lit !)) refl (tt, tt) $ use0 𝓛 (raw (fact 𝓤 (k + j ≤ 2 ^ 63))) (says (k + j ≤ 2 ^ 63) meets.fits) $
    use0 𝓛 (raw (fact 𝓤 ((0 < k) × (0 < j)))) (says ((0 < k) × (0 < j)) (meets.some, meets.others)) $ join ! $
    use0 𝓛 (raw (fact 𝓤 ((d ≡ d) × (e ≡ e)))) (says ((d ≡ d) × (e ≡ e)) (refl, refl)) $ join ! $ feq_i ! (List Val) (vunit ∷ []) (vunit ∷ []) refl $
    returns ! (look_at ! 0 refl) $ free_all ! refl $ keep ! (2 ∷ 3 ∷ 0 ∷ 1 ∷ []) $ by ! (leaves 𝓛 En hs c y vunit tt (d, (e, tt)) (tt, (tt, tt))))))))))
