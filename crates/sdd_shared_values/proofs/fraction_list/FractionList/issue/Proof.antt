-- `issue` takes the first fraction out.
use Rattle.sdd_rights.proofs.Names.{◌≡◌, [], ◌∷◌, refl, List, ℕ, named, Val, vptr, SProp, emp, ‵, raw, ◌⊛◌, ◌$◌, ◌∵◌, !, qed, by, keep, split, fjoin, use0, move, fsplit, fsplit3, fjoin3, join, feq_i, rewrite, no_more, and_then, get, agg, sets, returns, enter, alloc_all, pass_all, free_all, look_at, tables, RattleType, owns, types_at, plain, nothing, opens, closes, heard, Stays, stay_ref, walk_of, Goes-ref, fact, fact_i, ftrue, Fml, flft, Lft, mut_vals, mut_Tells, proved, leaves, token_val}
use Rattle.sdd_shared_values.specs.ValueFractions.{FractionContent, holdings}
use Rattle.sdd_shared_values.proofs.Fields.{Peg, peg_made}
use Rattle.sdd_shared_values.specs.contracts.value_fraction.ValueFraction as fraction
use Rattle.sdd_shared_values.specs.contracts.fraction_list.FractionList as fraction_list
use Rattle.sdd_shared_values.specs.contracts.fraction_list.FractionList.issue.{ended, clauses}
use Rattle.sdd_shared_values.specs.contracts.fraction_list.FractionList.issue.Key.{name as #self}
use Rattle.sdd_shared_values.proofs.fraction_list.FractionList.issue.Statement.{statement}
use Rattle.sdd_shared_values.proofs.fraction_list.FractionList.issue.Code as code

pub issue_spec : {M : Type 1} → statement M
issue_spec 𝓤 𝓛 𝓜 𝓡 wired =
    let H = 𝓛.H in let 𝓣 = tables 𝓤 H 𝓜 𝓡 𝓡.env in let En = ended in let fn = code.function in
    let Row : RattleType = fraction_list.the_row in let c = clauses 𝓛 𝓜.mem 𝓡.returns in
    let self = plain (λ _. Row) in let hs : Stays En.signature.params En.kept = (stay_ref (0 ∷ []) tt self, tt) in
    proved 𝓛 En hs c 𝓜 𝓡 (Goes-ref 𝓛 1 0 tt self, tt) #self fn (code.unfolded 𝓤 H 𝓜 𝓡 wired)
    (λ κs. (mut_vals, tt)) (λ κs. (mut_Tells (named 0) κs.0 Row, tt)) (λ κs qs bounds a gh are.
    let b : ℕ = a.0.ref_ptr.0 in let o : ℕ = a.0.ref_ptr.1 in let κ : Lft = κs.0 in let d : Row.Denot = a.0.now in let others : Fml = ftrue in
    let Asked : Type 0 = (first : FractionContent) × (rest : List FractionContent) × (d.contents ≡ first ∷ rest) in
    let y : (walk_of 𝓛 En hs c).Ghost = ((κs, qs, bounds, a, (vptr b o ∷ [], tt)), gh) in let Post : Val → SProp 𝓤 = (walk_of 𝓛 En hs c).post y in
    qed 𝓛 (((‵ (flft κ qs.0) ⊛ ‵ others) ⊛ ‵ (owns (types_at En.signature.params κs) a y.0.4)) ∷ raw (fact 𝓤 Asked) ∷ []) ∵
    keep ! (1 ∷ 0 ∷ []) $ heard ! Asked (λ asked. let h : FractionContent = asked.0 in let hs' : List FractionContent = asked.1 in
    let d' : Row.Denot = record d { contents = hs' } in let new : fraction.the_row.Denot = record { of = record {}; content = h } in
    split ! $ split ! $ move ! (2 ∷ []) $ fsplit ! $ fsplit3 ! $ keep ! (1 ∷ 2 ∷ 4 ∷ 5 ∷ []) $
    enter ! 𝓣.C 𝓣.Λ fn (vptr b o ∷ []) Post $ alloc_all ! (λ l. pass_all ! refl ((tt, tt), tt) $
    opens ! tt Row b o (λ vs. move ! (1 ∷ []) $ fsplit ! $ move ! (1 ∷ []) $ rewrite ! 0 (λ (ls : List FractionContent). ‵
    (holdings ls)) asked.2 refl $ fsplit ! $
    -- [the fraction; the others; the field; the cell; ..]
    sets ! (agg ! (no_more !)) refl (tt, tt) $ sets ! (agg ! (and_then ! (get ! refl) (no_more !))) refl (tt, (tt, tt)) $
    move ! (2 ∷ 1 ∷ []) $ fjoin ! $ move ! (2 ∷ 0 ∷ 3 ∷ 4 ∷ 5 ∷ []) $ closes ! tt Row d' vs b o $
    feq_i ! (List Val) (vptr b o ∷ []) (vptr b o ∷ []) refl $ fjoin3 ! $ nothing ! $ move ! (1 ∷ 0 ∷ []) $ fjoin ! $
    -- [the list of fractions; its token; the fraction; the others]
    move ! (1 ∷ 3 ∷ []) $ join ! $ move ! (2 ∷ []) $ use0 𝓛 (‵ (Peg.own_val (tt, tt) (token_val ∷ []))) (peg_made 𝓛) $ fjoin ! $
    use0 𝓛 (raw (fact 𝓤 (d.contents ≡ h ∷ hs'))) (fact_i 𝓤 (d.contents ≡ h ∷ hs') (emp 𝓤) asked.2) $
    returns ! (look_at ! 0 refl) $ free_all ! refl $ keep ! (2 ∷ 3 ∷ 1 ∷ 0 ∷ []) $ by ! (leaves 𝓛 En hs c y token_val new (d', tt) (tt, tt))))))
