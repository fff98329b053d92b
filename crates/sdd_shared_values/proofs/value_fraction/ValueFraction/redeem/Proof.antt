-- `redeem` puts a fraction before the others.
use Rattle.sdd_rights.proofs.Names.{◌≡◌, [], ◌∷◌, refl, List, ℕ, named, Val, vptr, vunit, SProp, emp, ‵, raw, ◌⊛◌, ◌$◌, ◌∵◌, !, qed, by, keep, drop, split, fjoin, use0, move, fsplit, fsplit3, fjoin3, join, feq_i, of_opd, unit_lit, sets, returns, enter, alloc_all, pass_all, free_all, look_at, tables, RattleType, owns, types_at, plain, nothing, opens, closes, Stays, stay_dropped, stay_ref, walk_of, Goes-dropped, Goes-ref, fact, fact_i, ftrue, Fml, flft, Lft, yes, mut_vals, mut_Tells, proved, leaves, token_val}
use Rattle.sdd_shared_values.specs.ValueFractions.{FractionContent}
use Rattle.sdd_shared_values.proofs.Fields.{peg_told}
use Rattle.sdd_shared_values.specs.contracts.value_fraction.ValueFraction as fraction
use Rattle.sdd_shared_values.specs.contracts.fraction_list.FractionList as fraction_list
use Rattle.sdd_shared_values.specs.contracts.value_fraction.ValueFraction.redeem.{ended, clauses}
use Rattle.sdd_shared_values.specs.contracts.value_fraction.ValueFraction.redeem.Key.{name as #self}
use Rattle.sdd_shared_values.proofs.value_fraction.ValueFraction.redeem.Statement.{statement}
use Rattle.sdd_shared_values.proofs.value_fraction.ValueFraction.redeem.Code as code

pub redeem_spec : {M : Type 1} → statement M
redeem_spec 𝓤 𝓛 𝓜 𝓡 wired =
    let H = 𝓛.H in let 𝓣 = tables 𝓤 H 𝓜 𝓡 𝓡.env in let En = ended in let fn = code.function in
    let Row : RattleType = fraction_list.the_row in let S : RattleType = fraction.the_row in let c = clauses 𝓛 𝓜.mem 𝓡.returns in
    let self = plain (λ _. Row) in let arg = plain (λ _. S) in
    let hs : Stays En.signature.params En.kept = (stay_dropped arg yes, (stay_ref (0 ∷ []) tt self, tt)) in
    proved 𝓛 En hs c 𝓜 𝓡 (Goes-dropped 𝓛 1 arg yes (λ κs x f. refl), (Goes-ref 𝓛 1 0 tt self, tt)) #self fn (code.unfolded 𝓤 H 𝓜 𝓡 wired)
    (λ κs. ((λ _. token_val ∷ []), (mut_vals, tt))) (λ κs. ((λ e vs so. peg_told vs so.0), (mut_Tells (named 0) κs.0 Row, tt))) (λ κs qs bounds a gh are.
    let b : ℕ = a.1.0.ref_ptr.0 in let o : ℕ = a.1.0.ref_ptr.1 in let κ : Lft = κs.0 in let d : Row.Denot = a.1.0.now in
    let h : FractionContent = a.0.content in
    let others : Fml = ftrue in
    let d' : Row.Denot = record d { contents = h ∷ d.contents } in
    let y : (walk_of 𝓛 En hs c).Ghost = ((κs, qs, bounds, a, (token_val ∷ [], (vptr b o ∷ [], tt))), gh) in
    let Post : Val → SProp 𝓤 = (walk_of 𝓛 En hs c).post y in
    qed 𝓛 (((‵ (flft κ qs.0) ⊛ ‵ others) ⊛ ‵ (owns (types_at En.signature.params κs) a y.0.4)) ∷ raw ((c κs a).requires gh) ∷ []) ∵
    keep ! (0 ∷ []) $ split ! $ split ! $ move ! (2 ∷ []) $ fsplit ! $ fsplit ! $ drop ! $ move ! (1 ∷ []) $ fsplit ! $ fsplit3 ! $
    keep ! (1 ∷ 2 ∷ 5 ∷ 6 ∷ 4 ∷ []) $
    enter ! 𝓣.C 𝓣.Λ fn (token_val ∷ vptr b o ∷ []) Post $ alloc_all ! (λ l. pass_all ! refl ((tt, (tt, tt)), ((tt, tt), tt)) $
    opens ! tt Row b o (λ vs. move ! (1 ∷ []) $ fsplit ! $
    -- [the field; the fractions; the cell; the borrow; the names; the others; the fraction]
    move ! (7 ∷ 1 ∷ []) $ fjoin ! $ move ! (1 ∷ 0 ∷ []) $ fjoin ! $ move ! (1 ∷ 0 ∷ []) $ closes ! tt Row d' vs b o $
    feq_i ! (List Val) (vptr b o ∷ []) (vptr b o ∷ []) refl $ fjoin3 ! $
    nothing ! $ move ! (1 ∷ 0 ∷ []) $ fjoin ! $ nothing ! $ fjoin ! $ move ! (1 ∷ 2 ∷ []) $ join ! $
    sets ! (of_opd ! (unit_lit !)) refl (tt, tt) $ use0 𝓛 (raw (fact 𝓤 (d'.contents ≡ d'.contents))) (fact_i 𝓤 (d'.contents ≡ d'.contents) (emp 𝓤) refl) $
    feq_i ! (List Val) (vunit ∷ []) (vunit ∷ []) refl $
    returns ! (look_at ! 0 refl) $ free_all ! refl $ keep ! (2 ∷ 3 ∷ 0 ∷ 1 ∷ []) $ by ! (leaves 𝓛 En hs c y vunit tt (tt, (d', tt)) (tt, (tt, tt))))))
