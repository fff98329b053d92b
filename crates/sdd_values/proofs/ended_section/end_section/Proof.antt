-- A lifetime ends by all its tokens, and another begins.
use Rattle.sdd_rights.proofs.Names.{◌≡◌, [], ◌∷◌, refl, List, ℕ, ◌^◌, sym, a_type, named, Val, vptr, inst_fn, SProp, emp, ‵, raw, ◌⊛◌, later, await, ◌$◌, ◌∵◌, !, qed, by, keep, split, fjoin, use0, use1, use2, move, fsplit, fsplit3, fjoin3, join, feq_i, rewrite, no_more, and_then, returns, enter, alloc_all, pass_all, free_all, look_at, get, sets, agg, tables, RattleType, owns, types_at, plain, nothing, opens, closes, heard, param, layouts, Stays, stay_ref, walk_of, Goes-ref, fact, fact_i, ftrue, Fml, fsep, flft, Lft, mut_vals, mut_Tells, proved, leaves, token_val, Gv, full_share}
use base.FractionLaws.{Counts-all}
use base.Fml.{fdead}
use types.Kit.{given, learn}
use types.Tokens.{lft_new, lft_end}
use Rattle.sdd_rights.specs.Units.{units, told, tokens}
use Rattle.sdd_rights.proofs.Steps.{sets_all, tokens_in}
use Rattle.sdd_rights.specs.contracts.fraction.Fraction as section
use Rattle.sdd_values.specs.contracts.ended_section.EndedSection as over
use Rattle.sdd_values.proofs.Fields.{Sign, sign_made}
use Rattle.sdd_values.proofs.Lifetimes.{tokens_whole, other_lifetime}
use Rattle.sdd_values.specs.contracts.ended_section.end_section.{ended, clauses}
use Rattle.sdd_values.specs.contracts.ended_section.end_section.Key.{name as #self}
use Rattle.sdd_values.proofs.ended_section.end_section.Statement.{statement}
use Rattle.sdd_values.proofs.ended_section.end_section.Code as code

pub end_section_spec : {M : Type 1} → statement M
end_section_spec 𝓤 𝓛 𝓜 𝓡 wired X L =
    let H = 𝓛.H in let 𝓣 = tables 𝓤 H 𝓜 𝓡 𝓡.env in let R : RattleType = param 0 X in let En = ended X in let inst = layouts (a_type ∷ []) (X, tt) in
    let fn = inst_fn inst code.function in let Row : RattleType = section.the_row R in let Er : RattleType = over.the_row in
    let c = clauses X 𝓛 𝓜.mem 𝓡.returns in
    let self = plain (λ _. Row) in let hs : Stays En.signature.params En.kept = (stay_ref (0 ∷ []) tt self, tt) in
    proved 𝓛 En hs c 𝓜 𝓡 (Goes-ref 𝓛 2 0 tt self, tt) (#self inst) fn (code.unfolded 𝓤 H 𝓜 𝓡 wired (X, tt))
    (λ κs. (mut_vals, tt)) (λ κs. (mut_Tells (named 0) κs.0 Row, tt)) (λ κs qs bounds a gh are.
    let b : ℕ = a.0.ref_ptr.0 in let o : ℕ = a.0.ref_ptr.1 in let κ : Lft = κs.0 in let d : Row.Denot = a.0.now in
    let others : Fml = fsep (flft κs.1.0 qs.1.0) ftrue in let γ : ℕ = d.home.name in let i : ℕ = d.number in
    let g : Gv = told R.coded d.lifetime d.kind d.shown in let Asked : Type 0 = d.units ≡ 2 ^ 63 in
    let y : (walk_of 𝓛 En hs c).Ghost = ((κs, qs, bounds, a, (vptr b o ∷ [], tt)), gh) in let Post : Val → SProp 𝓤 = (walk_of 𝓛 En hs c).post y in
    qed 𝓛 (((‵ (flft κ qs.0) ⊛ ‵ others) ⊛ ‵ (owns (types_at En.signature.params κs) a y.0.4)) ∷ raw (fact 𝓤 _) ∷ raw (fact 𝓤 Asked) ∷ []) ∵
    keep ! (2 ∷ 0 ∷ []) $ heard ! Asked (λ asked. split ! $ split ! $ move ! (2 ∷ []) $ fsplit ! $ fsplit3 ! $ keep ! (1 ∷ 2 ∷ 4 ∷ 5 ∷ []) $
    enter ! 𝓣.C 𝓣.Λ fn (vptr b o ∷ []) Post $ alloc_all ! (λ l. pass_all ! refl ((tt, tt), tt) $
    opens ! tt Row b o (λ vs. move ! (1 ∷ []) $ fsplit ! $ move ! (1 ∷ []) $ fsplit ! $
    rewrite ! 0 (λ (m : ℕ). ‵ (units γ i g m)) asked refl $ move ! (1 ∷ []) $ rewrite ! 0 (λ (m : ℕ). ‵ (tokens d.lifetime m)) asked refl $
    use1 𝓛 (‵ (flft (d.lifetime ∷ []) full_share)) (tokens_whole 𝓛 d.lifetime) $ lft_end ! tt $ lft_new ! tt (λ n.
    use2 𝓛 (given (n ≡ d.lifetime → ⊥) (‵ (flft (n ∷ []) full_share) ⊛ ‵ (fdead (d.lifetime ∷ [])))) (other_lifetime 𝓛 d.lifetime n) $ learn !
    (λ another. split ! $
    let h : Gv = told R.coded n d.kind d.shown in let d' : Row.Denot = record d { lifetime = n } in
    let r : Er.Denot = record { of = record {}; name = d.lifetime } in
    use1 𝓛 (‵ (tokens n (2 ^ 63))) (tokens_in 𝓛 n (2 ^ 63) full_share (Counts-all 63)) $ rewrite ! 0 (λ (m : ℕ). ‵ (tokens n m)) (sym asked) refl $
    -- [the new tokens; the end; the units; the field; the cell; ..]
    move ! (2 ∷ []) $ use1 𝓛 (later (‵ (units γ i h (2 ^ 63)))) (sets_all 𝓛 γ i g h) $ await ! tt $
    rewrite ! 0 (λ (m : ℕ). ‵ (units γ i h m)) (sym asked) refl $ fjoin ! $ move ! (2 ∷ 0 ∷ []) $ fjoin ! $
    move ! (2 ∷ 0 ∷ 3 ∷ 4 ∷ 5 ∷ []) $ closes ! tt Row d' vs b o $
    sets ! (agg ! (no_more !)) refl (tt, tt) $ sets ! (agg ! (and_then ! (get ! refl) (no_more !))) refl (tt, (tt, tt)) $
    feq_i ! (List Val) (vptr b o ∷ []) (vptr b o ∷ []) refl $ fjoin3 ! $ nothing ! $ move ! (1 ∷ 0 ∷ []) $ fjoin ! $
    -- [the part; its token; the end; the others]
    move ! (1 ∷ 3 ∷ []) $ join ! $ move ! (2 ∷ []) $ use0 𝓛 (‵ (Sign.own_val (tt, tt) (token_val ∷ []))) (sign_made 𝓛) $ fjoin ! $
    use0 𝓛 (raw (fact 𝓤 (n ≡ d.lifetime → ⊥))) (fact_i 𝓤 (n ≡ d.lifetime → ⊥) (emp 𝓤) another) $
    use0 𝓛 (raw (fact 𝓤 (d' ≡ d'))) (fact_i 𝓤 (d' ≡ d') (emp 𝓤) refl) $ join ! $
    use0 𝓛 (raw (fact 𝓤 (r.name ≡ d.lifetime))) (fact_i 𝓤 (r.name ≡ d.lifetime) (emp 𝓤) refl) $ join ! $
    returns ! (look_at ! 0 refl) $ free_all ! refl $ keep ! (2 ∷ 3 ∷ 1 ∷ 0 ∷ []) $ by ! (leaves 𝓛 En hs c y token_val r (d', tt) (tt, tt))))))))
