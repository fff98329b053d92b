-- `split` cuts the units.
use Rattle.sdd_rights.proofs.Names.{◌≡◌, [], ◌∷◌, refl, List, ℕ, ◌-◌, ◌<◌, ◌≤◌, ◌^◌, sym, arith, named, Val, vptr, vint, SProp, emp, ‵, raw, ◌⊛◌, given, learn, ◌$◌, ◌∵◌, !, qed, by, keep, split, fjoin, use0, use1, move, fsplit, fsplit3, fjoin3, join, feq_i, rewrite, no_more, and_then, returns, enter, alloc_all, pass_all, free_all, look_at, get, sets, agg, tables, RattleType, owns, types_at, plain, nothing, opens, closes, heard, Stays, stay_dropped, stay_ref, walk_of, Goes-dropped, Goes-ref, fact, fact_i, ftrue, Fml, flft, Lft, yes, w64, u64, uint_vals, uint_Tells, mut_vals, mut_Tells, proved, leaves, token_val, Gv}
use Rattle.sdd_rights.specs.Units.{units, tokens}
use Rattle.sdd_rights.proofs.Steps.{splits, tokens_cut}
use Rattle.std.specs.Prelude.{Option, None}
use Rattle.sdd_shared_values.specs.ValueFractions.{FractionContent, agreed_on, tokens_of}
use Rattle.sdd_shared_values.proofs.Fields.{Peg, peg_made}
use Rattle.sdd_shared_values.specs.contracts.value_fraction.ValueFraction as fraction
use Rattle.sdd_shared_values.specs.contracts.value_fraction.ValueFraction.split.{ended, clauses}
use Rattle.sdd_shared_values.specs.contracts.value_fraction.ValueFraction.split.Key.{name as #self}
use Rattle.sdd_shared_values.proofs.value_fraction.ValueFraction.split.Statement.{statement}
use Rattle.sdd_shared_values.proofs.value_fraction.ValueFraction.split.Code as code

pub split_spec : {M : Type 1} → statement M
split_spec 𝓤 𝓛 𝓜 𝓡 wired =
    let H = 𝓛.H in let 𝓣 = tables 𝓤 H 𝓜 𝓡 𝓡.env in let En = ended in let fn = code.function in
    let Row : RattleType = fraction.the_row in let c = clauses 𝓛 𝓜.mem 𝓡.returns in
    let self = plain (λ _. Row) in let num = plain (λ _. u64) in
    let hs : Stays En.signature.params En.kept = (stay_ref (0 ∷ []) tt self, (stay_dropped num yes, tt)) in
    proved 𝓛 En hs c 𝓜 𝓡 (Goes-ref 𝓛 1 0 tt self, (Goes-dropped 𝓛 1 num yes (λ κs x f. refl), tt)) #self fn (code.unfolded 𝓤 H 𝓜 𝓡 wired)
    (λ κs. (mut_vals, (uint_vals w64, tt))) (λ κs. (mut_Tells (named 0) κs.0 Row, (uint_Tells w64, tt))) (λ κs qs bounds a gh are.
    let b : ℕ = a.0.ref_ptr.0 in let o : ℕ = a.0.ref_ptr.1 in let κ : Lft = κs.0 in let d : Row.Denot = a.0.now in let m : ℕ = a.1.0 in
    let others : Fml = ftrue in
    let h : FractionContent = d.content in let k : ℕ = h.units in let g : Gv = agreed_on h.lifetime h.shown in
    let d' : Row.Denot = record d { content = record h { units = k - m } } in let new : Row.Denot = record d { content = record h { units = m } } in
    let y : (walk_of 𝓛 En hs c).Ghost = ((κs, qs, bounds, a, (vptr b o ∷ [], (vint w64 m ∷ [], tt))), gh) in
    let Post : Val → SProp 𝓤 = (walk_of 𝓛 En hs c).post y in
    qed 𝓛 (((‵ (flft κ qs.0) ⊛ ‵ others) ⊛ ‵ (owns (types_at En.signature.params κs) a y.0.4)) ∷ raw (fact 𝓤 (0 < m)) ∷ raw (fact 𝓤 (m < k)) ∷
    raw (fact 𝓤 (h.lent ≡ None)) ∷ []) ∵
    keep ! (1 ∷ 2 ∷ 3 ∷ 0 ∷ []) $ heard ! (0 < m) (λ pos. heard ! (m < k) (λ less. heard ! (h.lent ≡ None) (λ free. split ! $ split ! $ move ! (2 ∷ []) $
    fsplit ! $ fsplit3 ! $ keep ! (1 ∷ 2 ∷ 4 ∷ 5 ∷ []) $
    enter ! 𝓣.C 𝓣.Λ fn (vptr b o ∷ vint w64 m ∷ []) Post $ alloc_all ! (λ l. pass_all ! refl ((tt, tt), ((tt, record { fits = are.1.0.1 }), tt)) $
    opens ! tt Row b o (λ vs. move ! (1 ∷ []) $ fsplit ! $ move ! (1 ∷ []) $ fsplit ! $
    use1 𝓛 (given (k ≤ 2 ^ 63) (‵ (units h.gamma h.number g (k - m)) ⊛ ‵ (units h.gamma h.number g m)))
    (splits 𝓛 h.gamma h.number g k (k - m) m (omega arith) pos (omega arith)) $ learn ! (λ fits. split ! $ move ! (2 ∷ []) $
    rewrite ! 0 (λ (n : Option ℕ). ‵ (tokens_of n h.lifetime k)) free refl $
    use1 𝓛 (‵ (tokens h.lifetime (k - m)) ⊛ ‵ (tokens h.lifetime m)) (tokens_cut 𝓛 h.lifetime k (k - m) m (omega arith) pos (omega arith) fits) $ split ! $
    rewrite ! 0 (λ (n : Option ℕ). ‵ (tokens_of n h.lifetime (k - m))) (sym free) refl $
    rewrite ! 1 (λ (n : Option ℕ). ‵ (tokens_of n h.lifetime m)) (sym free) refl $
    move ! (2 ∷ 0 ∷ []) $ fjoin ! $ move ! (2 ∷ 1 ∷ []) $ fjoin ! $ move ! (1 ∷ 0 ∷ []) $
    sets ! (agg ! (no_more !)) refl (tt, tt) $ sets ! (agg ! (and_then ! (get ! refl) (no_more !))) refl (tt, (tt, tt)) $
    move ! (2 ∷ 0 ∷ []) $ fjoin ! $ move ! (2 ∷ 0 ∷ 3 ∷ 4 ∷ 5 ∷ []) $ closes ! tt Row d' vs b o $
    feq_i ! (List Val) (vptr b o ∷ []) (vptr b o ∷ []) refl $ fjoin3 ! $ nothing ! $ nothing ! $ fjoin ! $ move ! (1 ∷ 0 ∷ []) $ fjoin ! $
    move ! (1 ∷ 3 ∷ []) $ join ! $
    move ! (2 ∷ []) $ use0 𝓛 (‵ (Peg.own_val (tt, tt) (token_val ∷ []))) (peg_made 𝓛) $ fjoin ! $
    use0 𝓛 (raw (fact 𝓤 (new.content ≡ new.content))) (fact_i 𝓤 (new.content ≡ new.content) (emp 𝓤) refl) $
    use0 𝓛 (raw (fact 𝓤 (d'.content ≡ d'.content))) (fact_i 𝓤 (d'.content ≡ d'.content) (emp 𝓤) refl) $ join ! $
    returns ! (look_at ! 0 refl) $ free_all ! refl $ keep ! (2 ∷ 3 ∷ 1 ∷ 0 ∷ []) $ by ! (leaves 𝓛 En hs c y token_val new (d', (tt, tt)) (tt, (tt, tt))))))))))
