-- `split` cuts the units.
use Rattle.sdd_rights.proofs.Names.{◌≡◌, [], ◌∷◌, refl, List, ℕ, ◌-◌, ◌^◌, ◌<◌, ◌≤◌, arith, a_type, named, Val, vptr, vint, inst_fn, SProp, emp, ‵, raw, ◌⊛◌, ◌$◌, ◌∵◌, !, qed, by, keep, split, fjoin, use0, use1, move, fsplit, fsplit3, fjoin3, join, feq_i, given, learn, no_more, and_then, returns, enter, alloc_all, pass_all, free_all, look_at, get, sets, agg, tables, RattleType, owns, types_at, plain, nothing, opens, closes, heard, param, layouts, Stays, stay_dropped, stay_ref, walk_of, Goes-dropped, Goes-ref, fact, fact_i, ftrue, Fml, fsep, flft, Lft, yes, mut_vals, mut_Tells, u64, uint_vals, uint_Tells, w64, proved, leaves, token_val, Gv}
use Rattle.sdd_rights.specs.Units.{units, told, tokens}
use Rattle.sdd_rights.proofs.Steps.{splits, tokens_cut}
use Rattle.sdd_rights.proofs.Fields.{Pin, pin_made}
use Rattle.sdd_rights.specs.contracts.fraction.Fraction as fraction
use Rattle.sdd_rights.specs.contracts.fraction.Fraction.split.{ended, clauses}
use Rattle.sdd_rights.specs.contracts.fraction.Fraction.split.Key.{name as #self}
use Rattle.sdd_rights.proofs.fraction.Fraction.split.Statement.{statement}
use Rattle.sdd_rights.proofs.fraction.Fraction.split.Code as code

pub split_spec : {M : Type 1} → statement M
split_spec 𝓤 𝓛 𝓜 𝓡 wired X L =
    let H = 𝓛.H in let 𝓣 = tables 𝓤 H 𝓜 𝓡 𝓡.env in let R : RattleType = param 0 X in let En = ended X in let inst = layouts (a_type ∷ []) (X, tt) in
    let fn = inst_fn inst code.function in let Row : RattleType = fraction.the_row R in let c = clauses X 𝓛 𝓜.mem 𝓡.returns in
    let self = plain (λ _. Row) in let num = plain (λ _. u64) in
    let hs : Stays En.signature.params En.kept = (stay_ref (0 ∷ []) tt self, (stay_dropped num yes, tt)) in
    proved 𝓛 En hs c 𝓜 𝓡 (Goes-ref 𝓛 2 0 tt self, (Goes-dropped 𝓛 2 num yes (λ κs x f. refl), tt)) (#self inst) fn (code.unfolded 𝓤 H 𝓜 𝓡 wired (X, tt))
    (λ κs. (mut_vals, (uint_vals w64, tt))) (λ κs. (mut_Tells (named 0) κs.0 Row, (uint_Tells w64, tt))) (λ κs qs bounds a gh are.
    let b : ℕ = a.0.ref_ptr.0 in let o : ℕ = a.0.ref_ptr.1 in let κ : Lft = κs.0 in let d : Row.Denot = a.0.now in let m : ℕ = a.1.0 in
    let others : Fml = fsep (flft κs.1.0 qs.1.0) ftrue in let k : ℕ = d.units in let g : Gv = told R.coded d.lifetime d.kind d.shown in
    let d' : Row.Denot = record d { units = k - m } in let new : Row.Denot = record d { units = m } in
    let y : (walk_of 𝓛 En hs c).Ghost = ((κs, qs, bounds, a, (vptr b o ∷ [], (vint w64 m ∷ [], tt))), gh) in
    let Post : Val → SProp 𝓤 = (walk_of 𝓛 En hs c).post y in
    qed 𝓛 (((‵ (flft κ qs.0) ⊛ ‵ others) ⊛ ‵ (owns (types_at En.signature.params κs) a y.0.4)) ∷ raw (fact 𝓤 _) ∷
    raw (fact 𝓤 (0 < m)) ∷ raw (fact 𝓤 (m < k)) ∷ []) ∵
    keep ! (2 ∷ 3 ∷ 0 ∷ []) $ heard ! (0 < m) (λ pos. heard ! (m < k) (λ less. split ! $ split ! $ move ! (2 ∷ []) $ fsplit ! $ fsplit3 ! $
    keep ! (1 ∷ 2 ∷ 4 ∷ 5 ∷ []) $
    enter ! 𝓣.C 𝓣.Λ fn (vptr b o ∷ vint w64 m ∷ []) Post $ alloc_all ! (λ l. pass_all ! refl ((tt, tt), ((tt, record { fits = are.1.0.1 }), tt)) $
    opens ! tt Row b o (λ vs. move ! (1 ∷ []) $ fsplit ! $ move ! (1 ∷ []) $ fsplit ! $
    use1 𝓛 (given (k ≤ 2 ^ 63) (‵ (units d.home.name d.number g (k - m)) ⊛ ‵ (units d.home.name d.number g m)))
    (splits 𝓛 d.home.name d.number g k (k - m) m (omega arith) pos (omega arith)) $ learn ! (λ fits. split ! $ move ! (2 ∷ []) $
    use1 𝓛 (‵ (tokens d.lifetime (k - m)) ⊛ ‵ (tokens d.lifetime m)) (tokens_cut 𝓛 d.lifetime k (k - m) m (omega arith) pos (omega arith) fits) $ split ! $
    move ! (2 ∷ 0 ∷ []) $ fjoin ! $ move ! (2 ∷ 1 ∷ []) $ fjoin ! $ move ! (1 ∷ 0 ∷ []) $
    -- [what stays; what goes; the field; the cell; the open borrow; the names]
    sets ! (agg ! (no_more !)) refl (tt, tt) $ sets ! (agg ! (and_then ! (get ! refl) (no_more !))) refl (tt, (tt, tt)) $
    move ! (2 ∷ 0 ∷ []) $ fjoin ! $ move ! (2 ∷ 0 ∷ 3 ∷ 4 ∷ 5 ∷ []) $ closes ! tt Row d' vs b o $
    feq_i ! (List Val) (vptr b o ∷ []) (vptr b o ∷ []) refl $ fjoin3 ! $ nothing ! $ nothing ! $ fjoin ! $ move ! (1 ∷ 0 ∷ []) $ fjoin ! $
    move ! (1 ∷ 3 ∷ []) $ join ! $ move ! (2 ∷ []) $ use0 𝓛 (‵ ((Pin R).own_val (tt, tt) (token_val ∷ []))) (pin_made R 𝓛) $ fjoin ! $
    use0 𝓛 (raw (fact 𝓤 (new ≡ new))) (fact_i 𝓤 (new ≡ new) (emp 𝓤) refl) $ use0 𝓛 (raw (fact 𝓤 (d' ≡ d'))) (fact_i 𝓤 (d' ≡ d') (emp 𝓤) refl) $ join ! $
    returns ! (look_at ! 0 refl) $ free_all ! refl $ keep ! (2 ∷ 3 ∷ 1 ∷ 0 ∷ []) $ by ! (leaves 𝓛 En hs c y token_val new (d', (tt, tt)) (tt, (tt, tt)))))))))
