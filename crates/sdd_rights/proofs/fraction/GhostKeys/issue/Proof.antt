-- `issue` takes the next number.
use Rattle.sdd_rights.proofs.Names.{◌≡◌, [], ◌∷◌, refl, List, ℕ, suc, ◌+◌, ◌^◌, arith, a_type, named, Val, vptr, inst_fn, SProp, emp, ‵, raw, ◌⊛◌, later, await, ◌$◌, ◌∵◌, !, qed, by, keep, split, fjoin, use0, use1, move, fsplit, fsplit3, fjoin3, join, feq_i, rewrite, no_more, and_then, returns, enter, alloc_all, pass_all, free_all, look_at, get, sets, agg, tables, RattleType, RefOf, owns, types_at, plain, nothing, opens, closes, param, layouts, Stays, stay_dropped, stay_ref, walk_of, Goes-dropped, Goes-ref, fact, fact_i, ftrue, Fml, fsep, flft, Lft, yes, mut_vals, mut_Tells, shr_vals, shr_Tells, proved, leaves, token_val, Gv, gnil}
use Rattle.sdd_rights.specs.Units.{units, told, keys_own, tokens}
use base.Fraction.{full_share}
use base.FractionLaws.{Counts-all}
use types.Tokens.{lft_new}
use Rattle.sdd_rights.proofs.Steps.{issues, tokens_in}
use Rattle.sdd_rights.proofs.Fields.{Pin, pin_made}
use Rattle.sdd_rights.specs.contracts.fraction.Fraction as fraction
use Rattle.sdd_rights.specs.contracts.fraction.GhostKeys as gamma
use Rattle.sdd_rights.specs.contracts.fraction.GhostKeys.issue.{ended, clauses}
use Rattle.sdd_rights.specs.contracts.fraction.GhostKeys.issue.Key.{name as #self}
use Rattle.sdd_rights.proofs.fraction.GhostKeys.issue.Statement.{statement}
use Rattle.sdd_rights.proofs.fraction.GhostKeys.issue.Code as code

pub issue_spec : {M : Type 1} → statement M
issue_spec 𝓤 𝓛 𝓜 𝓡 wired X L =
    let H = 𝓛.H in let 𝓣 = tables 𝓤 H 𝓜 𝓡 𝓡.env in let R : RattleType = param 0 X in let En = ended X in let inst = layouts (a_type ∷ []) (X, tt) in
    let fn = inst_fn inst code.function in let Row : RattleType = gamma.the_row R in let c = clauses X 𝓛 𝓜.mem 𝓡.returns in
    let self = plain (λ _. Row) in let arg = RefOf (1 ∷ []) tt (plain (λ _. R)) (λ _. tt) in
    let hs : Stays En.signature.params En.kept = (stay_ref (0 ∷ []) tt self, (stay_dropped arg yes, tt)) in
    proved 𝓛 En hs c 𝓜 𝓡 (Goes-ref 𝓛 3 0 tt self, (Goes-dropped 𝓛 3 arg yes (λ κs x f. refl), tt)) (#self inst) fn (code.unfolded 𝓤 H 𝓜 𝓡 wired (X, tt))
    (λ κs. (mut_vals, (shr_vals, tt))) (λ κs. (mut_Tells (named 0) κs.0 Row, (shr_Tells (named 1) κs.1.0 R, tt))) (λ κs qs bounds a gh are.
    let b : ℕ = a.0.ref_ptr.0 in let o : ℕ = a.0.ref_ptr.1 in let b' : ℕ = a.1.0.ref_ptr.0 in let o' : ℕ = a.1.0.ref_ptr.1 in let κ : Lft = κs.0 in
    let d : Row.Denot = a.0.now in let x : X.Denot = a.1.0.now in let others : Fml = fsep (flft κs.1.0 qs.1.0) (fsep (flft κs.1.1.0 qs.1.1.0) ftrue) in
    let d' : Row.Denot = record d { next = d.next + 1 } in
    let next : suc d.next ≡ d.next + 1 = omega arith in
    let says = λ (A : Type 0) (a : A). fact_i 𝓤 A (emp 𝓤) a in
    let y : (walk_of 𝓛 En hs c).Ghost = ((κs, qs, bounds, a, (vptr b o ∷ [], (vptr b' o' ∷ [], tt))), gh) in
    let Post : Val → SProp 𝓤 = (walk_of 𝓛 En hs c).post y in
    qed 𝓛 (((‵ (flft κ qs.0) ⊛ ‵ others) ⊛ ‵ (owns (types_at En.signature.params κs) a y.0.4)) ∷ raw ((c κs a).requires gh) ∷ []) ∵
    keep ! (0 ∷ []) $ split ! $ split ! $ move ! (2 ∷ []) $ fsplit ! $ fsplit3 ! $ keep ! (1 ∷ 2 ∷ 4 ∷ 5 ∷ []) $
    enter ! 𝓣.C 𝓣.Λ fn (vptr b o ∷ vptr b' o' ∷ []) Post $ alloc_all ! (λ l. pass_all ! refl ((tt, tt), ((tt, tt), tt)) $
    opens ! tt Row b o (λ vs. move ! (1 ∷ []) $ fsplit ! $ move ! (1 ∷ []) $
    lft_new ! tt (λ r. let g : Gv = told R.coded r x gnil in
    let new : (fraction.the_row R).Denot = record { of = record {}; home = d.home; number = d.next; units = 2 ^ 63; lifetime = r; kind = x; shown = gnil } in
    use1 𝓛 (‵ (tokens r (2 ^ 63))) (tokens_in 𝓛 r (2 ^ 63) full_share (Counts-all 63)) $ move ! (1 ∷ []) $
    use1 𝓛 (later (‵ (keys_own d.home.name (suc d.next)) ⊛ ‵ (units d.home.name d.next g (2 ^ 63)))) (issues 𝓛 d.home.name d.next g) $ await ! tt $
    split ! $ rewrite ! 0 (λ (m : ℕ). ‵ (keys_own d.home.name m)) next refl $ move ! (1 ∷ 2 ∷ []) $ fjoin ! $ move ! (1 ∷ 0 ∷ []) $
    sets ! (agg ! (no_more !)) refl (tt, tt) $ sets ! (agg ! (and_then ! (get ! refl) (no_more !))) refl (tt, (tt, tt)) $
    move ! (2 ∷ 0 ∷ []) $ fjoin ! $ move ! (2 ∷ 0 ∷ 3 ∷ 4 ∷ 5 ∷ []) $ closes ! tt Row d' vs b o $
    feq_i ! (List Val) (vptr b o ∷ []) (vptr b o ∷ []) refl $ fjoin3 ! $ nothing ! $ nothing ! $ fjoin ! $ move ! (1 ∷ 0 ∷ []) $ fjoin ! $
    move ! (1 ∷ 3 ∷ []) $ join ! $ move ! (2 ∷ []) $ use0 𝓛 (‵ ((Pin R).own_val (tt, tt) (token_val ∷ []))) (pin_made R 𝓛) $ fjoin ! $
    use0 𝓛 (raw (fact 𝓤 (x ≡ x))) (says (x ≡ x) refl) $ use0 𝓛 (raw (fact 𝓤 (2 ^ 63 ≡ 2 ^ 63))) (says (2 ^ 63 ≡ 2 ^ 63) refl) $ join ! $
    use0 𝓛 (raw (fact 𝓤 (d.next ≡ d.next))) (says (d.next ≡ d.next) refl) $ join ! $
    use0 𝓛 (raw (fact 𝓤 (d.home ≡ d.home))) (says (d.home ≡ d.home) refl) $ join ! $ use0 𝓛 (raw (fact 𝓤 (d' ≡ d'))) (says (d' ≡ d') refl) $ join ! $
    returns ! (look_at ! 0 refl) $ free_all ! refl $ keep ! (2 ∷ 3 ∷ 1 ∷ 0 ∷ []) $ by ! (leaves 𝓛 En hs c y token_val new (d', (tt, tt)) (tt, (tt, tt)))))))
