-- `agree` opens both borrows.
use Rattle.sdd_rights.proofs.Names.{◌≡◌, [], ◌∷◌, refl, List, ℕ, sym, a_type, named, Val, vptr, vunit, inst_fn, SProp, emp, ‵, raw, ◌⊛◌, given, learn, ◌$◌, ◌∵◌, !, qed, by, keep, drop, split, fjoin, use0, use1, use2, move, fsplit, fsplit3, join, feq_i, rewrite, of_opd, unit_lit, returns, enter, alloc_all, pass_all, free_all, look_at, sets, tables, RattleType, RefOf, owns, types_at, plain, nothing, heard, param, layouts, Stays, stay_dropped, walk_of, Goes-dropped, fact, fact_i, ftrue, Fml, fsep, flft, Lft, yes, shr_vals, shr_Tells, unhide, lent_out, hidden_shr, proved, leaves, Gv}
use Rattle.core.specs.contracts.marker.PhantomData as P
use base.Fml.{fhide, fshr_bor}
use types.Tokens.{shr_bor-open, obor_close}
use Rattle.sdd_rights.specs.Units.{share_of, told, told_coded, fraction_shares}
use Rattle.sdd_rights.proofs.Steps.{agreed, halves_at}
use Rattle.sdd_rights.proofs.Fields.{Pin}
use Rattle.sdd_rights.specs.contracts.fraction.Fraction as fraction
use Rattle.sdd_rights.specs.contracts.fraction.Fraction.agree.{ended, clauses}
use Rattle.sdd_rights.specs.contracts.fraction.Fraction.agree.Key.{name as #self}
use Rattle.sdd_rights.proofs.fraction.Fraction.agree.Statement.{statement}
use Rattle.sdd_rights.proofs.fraction.Fraction.agree.Code as code

pub agree_spec : {M : Type 1} → statement M
agree_spec 𝓤 𝓛 𝓜 𝓡 wired X L =
    let H = 𝓛.H in let 𝓣 = tables 𝓤 H 𝓜 𝓡 𝓡.env in let R : RattleType = param 0 X in let En = ended X in let inst = layouts (a_type ∷ []) (X, tt) in
    let fn = inst_fn inst code.function in let Row : RattleType = fraction.the_row R in let D : RattleType = Pin R in let c = clauses X 𝓛 𝓜.mem 𝓡.returns in
    let self = RefOf (0 ∷ []) tt (plain (λ _. Row)) (λ _. tt) in let arg = RefOf (1 ∷ []) tt (plain (λ _. Row)) (λ _. tt) in
    let hs : Stays En.signature.params En.kept = (stay_dropped self yes, (stay_dropped arg yes, tt)) in
    proved 𝓛 En hs c 𝓜 𝓡 (Goes-dropped 𝓛 3 self yes (λ κs x f. refl), (Goes-dropped 𝓛 3 arg yes (λ κs x f. refl), tt)) (#self inst) fn
    (code.unfolded 𝓤 H 𝓜 𝓡 wired (X, tt))
    (λ κs. (shr_vals, (shr_vals, tt))) (λ κs. (shr_Tells (named 0) κs.0 Row, (shr_Tells (named 1) κs.1.0 Row, tt))) (λ κs qs bounds a gh are.
    let b : ℕ = a.0.ref_ptr.0 in let o : ℕ = a.0.ref_ptr.1 in let b' : ℕ = a.1.0.ref_ptr.0 in let o' : ℕ = a.1.0.ref_ptr.1 in let κ : Lft = κs.0 in
    let κ' : Lft = κs.1.0 in let d : Row.Denot = a.0.now in let e : Row.Denot = a.1.0.now in
    let rest : Fml = fsep (flft κs.1.1.0 qs.1.1.0) ftrue in let others : Fml = fsep (flft κs.1.0 qs.1.0) rest in
    let g : Gv = told R.coded d.lifetime d.kind d.shown in let h : Gv = told R.coded e.lifetime e.kind e.shown in let i : ℕ = d.home.name in
    let n : ℕ = d.number in
    let says = λ (A : Type 0) (x : A). fact_i 𝓤 A (emp 𝓤) x in
    let y : (walk_of 𝓛 En hs c).Ghost = ((κs, qs, bounds, a, (vptr b o ∷ [], (vptr b' o' ∷ [], tt))), gh) in
    let Post : Val → SProp 𝓤 = (walk_of 𝓛 En hs c).post y in
    qed 𝓛 (((‵ (flft κ qs.0) ⊛ ‵ others) ⊛ ‵ (owns (types_at En.signature.params κs) a y.0.4)) ∷ raw (fact 𝓤 _) ∷ raw (fact 𝓤 (e.home ≡ d.home)) ∷
    raw (fact 𝓤 (e.number ≡ d.number)) ∷ []) ∵
    keep ! (2 ∷ 3 ∷ 0 ∷ []) $ heard ! (e.home ≡ d.home) (λ homes. heard ! (e.number ≡ d.number) (λ numbers. split ! $ split ! $ move ! (2 ∷ []) $
    fsplit3 ! $ fsplit ! $ drop ! $ move ! (1 ∷ []) $ fsplit ! $ drop ! $
    use1 𝓛 (‵ (hidden_shr D κ' (tt, tt) b' o') ⊛ ‵ (fhide (fraction_shares R.coded e.home.name e.number e.lifetime e.kind e.shown κ')))
    (lent_out 𝓛 (fraction.struct R) (fraction.the_codes X.Denot R.coded (P.the_row R).coded) (fraction.the_heap R)
    (fraction.the_lent R) κ' e b' o') $ split ! $ drop ! $
    keep ! (1 ∷ 0 ∷ 3 ∷ 4 ∷ []) $
    use1 𝓛 (‵ (hidden_shr D κ (tt, tt) b o) ⊛ ‵ (fhide (fraction_shares R.coded i n d.lifetime d.kind d.shown κ)))
    (lent_out 𝓛 (fraction.struct R) (fraction.the_codes X.Denot R.coded (P.the_row R).coded) (fraction.the_heap R)
    (fraction.the_lent R) κ d b o) $ split ! $ drop ! $
    enter ! 𝓣.C 𝓣.Λ fn (vptr b o ∷ vptr b' o' ∷ []) Post $ alloc_all ! (λ l. pass_all ! refl ((tt, tt), ((tt, tt), tt)) $
    unhide ! $ fsplit ! $ move ! (1 ∷ []) $ drop ! $ move ! (1 ∷ []) $ unhide ! $ fsplit ! $ move ! (1 ∷ []) $ drop ! $
    rewrite ! 0 (λ (m : ℕ × ℕ). ‵ (fshr_bor κ' (share_of m.0 m.1 h))) (λ j. ((homes j).name, numbers j)) refl $ move ! (1 ∷ 2 ∷ []) $
    shr_bor-open ! tt (halves_at 𝓛 i n g) (λ q. move ! (3 ∷ []) $ fsplit ! $ move ! (4 ∷ 0 ∷ []) $
    shr_bor-open ! tt (halves_at 𝓛 i n h) (λ r. move ! (4 ∷ 1 ∷ []) $
    use2 𝓛 (given (g ≡ h) (‵ (share_of i n g q) ⊛ ‵ (share_of i n h r))) (agreed 𝓛 i n g h q r) $
    learn ! (λ same. let both = (told_coded R.coded).inj (d.lifetime, (d.kind, d.shown)) (e.lifetime, (e.kind, e.shown)) same in split ! $ move ! (4 ∷ 0 ∷ []) $
    obor_close ! tt $ drop ! $ move ! (2 ∷ 1 ∷ []) $ obor_close ! tt $ drop ! $ move ! (0 ∷ 2 ∷ []) $ fjoin ! $ move ! (1 ∷ 0 ∷ []) $ join ! $
    sets ! (of_opd ! (unit_lit !)) refl (tt, tt) $ use0 𝓛 (raw (fact 𝓤 (e.shown ≡ d.shown))) (says (e.shown ≡ d.shown) (sym (λ j. (both j).1.1))) $
    use0 𝓛 (raw (fact 𝓤 (e.kind ≡ d.kind))) (says (e.kind ≡ d.kind) (sym (λ j. (both j).1.0))) $ join ! $
    use0 𝓛 (raw (fact 𝓤 (e.lifetime ≡ d.lifetime))) (says (e.lifetime ≡ d.lifetime) (sym (λ j. (both j).0))) $ join ! $ feq_i ! (List Val) (vunit ∷ [])
    (vunit ∷ []) refl $
    nothing ! $ nothing ! $ fjoin ! $ nothing ! $ fjoin ! $
    returns ! (look_at ! 0 refl) $ free_all ! refl $ keep ! (3 ∷ 0 ∷ 1 ∷ 2 ∷ []) $ by ! (leaves 𝓛 En hs c y vunit tt (tt, (tt, tt)) (tt, (tt, tt))))))))))
