-- `join` glues the units.
use Rattle.sdd_rights.proofs.Names.{◌≡◌, [], ◌∷◌, refl, List, ℕ, ◌+◌, ◌^◌, ◌≤◌, sym, arith, a_type, named, Val, vptr, vunit, inst_fn, SProp, emp, ‵, raw, ◌⊛◌, given, learn, ◌$◌, ◌∵◌, !, qed, by, keep, drop, split, fjoin, use0, use2, move, fsplit, fsplit3, fjoin3, join, feq_i, rewrite, of_opd, unit_lit, returns, enter, alloc_all, pass_all, free_all, look_at, sets, tables, RattleType, owns, types_at, plain, nothing, opens, closes, heard, param, layouts, Stays, stay_dropped, stay_ref, walk_of, Goes-dropped, Goes-ref, fact, fact_i, ftrue, Fml, fsep, flft, Lft, no, mut_vals, mut_Tells, proved, leaves, token_val, Gv}
use Rattle.sdd_rights.specs.Units.{units, told, told_coded, tokens}
use Rattle.sdd_rights.proofs.Steps.{Meets, joins, tokens_glue}
use Rattle.sdd_rights.proofs.Fields.{pin_told}
use Rattle.sdd_rights.specs.contracts.fraction.Fraction as fraction
use Rattle.sdd_rights.specs.contracts.fraction.Fraction.join.{ended, clauses}
use Rattle.sdd_rights.specs.contracts.fraction.Fraction.join.Key.{name as #self}
use Rattle.sdd_rights.proofs.fraction.Fraction.join.Statement.{statement}
use Rattle.sdd_rights.proofs.fraction.Fraction.join.Code as code

pub join_spec : {M : Type 1} → statement M
join_spec 𝓤 𝓛 𝓜 𝓡 wired X L =
    let H = 𝓛.H in let 𝓣 = tables 𝓤 H 𝓜 𝓡 𝓡.env in let R : RattleType = param 0 X in let En = ended X in let inst = layouts (a_type ∷ []) (X, tt) in
    let fn = inst_fn inst code.function in let Row : RattleType = fraction.the_row R in let c = clauses X 𝓛 𝓜.mem 𝓡.returns in
    let self = plain (λ _. Row) in let hs : Stays En.signature.params En.kept = (stay_ref (0 ∷ []) tt self, (stay_dropped self no, tt)) in
    proved 𝓛 En hs c 𝓜 𝓡 (Goes-ref 𝓛 2 0 tt self, (Goes-dropped 𝓛 2 self no (λ κs x f. refl), tt)) (#self inst) fn (code.unfolded 𝓤 H 𝓜 𝓡 wired (X, tt))
    (λ κs. (mut_vals, ((λ _. token_val ∷ []), tt))) (λ κs. (mut_Tells (named 0) κs.0 Row, ((λ e vs so. pin_told R vs so.0), tt))) (λ κs qs bounds a gh are.
    let b : ℕ = a.0.ref_ptr.0 in let o : ℕ = a.0.ref_ptr.1 in let κ : Lft = κs.0 in let d : Row.Denot = a.0.now in let e : Row.Denot = a.1.0 in
    let others : Fml = fsep (flft κs.1.0 qs.1.0) ftrue in let k : ℕ = d.units in let j : ℕ = e.units in
    let g : Gv = told R.coded d.lifetime d.kind d.shown in let h : Gv = told R.coded e.lifetime e.kind e.shown in
    let d' : Row.Denot = record d { units = k + j } in
    let says = λ (A : Type 0) (x : A). fact_i 𝓤 A (emp 𝓤) x in
    let y : (walk_of 𝓛 En hs c).Ghost = ((κs, qs, bounds, a, (vptr b o ∷ [], (token_val ∷ [], tt))), gh) in
    let Post : Val → SProp 𝓤 = (walk_of 𝓛 En hs c).post y in
    qed 𝓛 (((‵ (flft κ qs.0) ⊛ ‵ others) ⊛ ‵ (owns (types_at En.signature.params κs) a y.0.4)) ∷ raw (fact 𝓤 _) ∷ raw (fact 𝓤 (e.home ≡ d.home)) ∷
    raw (fact 𝓤 (e.number ≡ d.number)) ∷ []) ∵
    keep ! (2 ∷ 3 ∷ 0 ∷ []) $ heard ! (e.home ≡ d.home) (λ homes. heard ! (e.number ≡ d.number) (λ numbers. split ! $ split ! $ move ! (2 ∷ []) $
    fsplit3 ! $ move ! (1 ∷ []) $ fsplit ! $ drop ! $ rewrite ! 0 (λ (m : ℕ × ℕ). ‵ (fsep (units m.0 m.1 h j) (tokens e.lifetime j)))
    (λ i. ((homes i).name, numbers i)) refl $ move ! (1 ∷ []) $ fsplit3 ! $ keep ! (1 ∷ 2 ∷ 5 ∷ 6 ∷ 3 ∷ []) $
    enter ! 𝓣.C 𝓣.Λ fn (vptr b o ∷ token_val ∷ []) Post $ alloc_all ! (λ l. pass_all ! refl ((tt, tt), ((tt, (tt, tt)), tt)) $
    opens ! tt Row b o (λ vs. move ! (1 ∷ []) $ fsplit ! $ move ! (1 ∷ []) $ fsplit ! $ move ! (8 ∷ []) $ fsplit ! $ move ! (2 ∷ 0 ∷ []) $
    use2 𝓛 (given (Meets g h k j) (‵ (units d.home.name d.number g (k + j)))) (joins 𝓛 d.home.name d.number g h k j) $
    learn ! (λ meets. let some = meets.some in let fits = meets.fits in
    let both = (told_coded R.coded).inj (d.lifetime, (d.kind, d.shown)) (e.lifetime, (e.kind, e.shown)) meets.values in
    let lifetimes : e.lifetime ≡ d.lifetime = sym (λ i. (both i).0) in move ! (1 ∷ []) $ rewrite ! 0 (λ (m : ℕ). ‵ (tokens m j)) lifetimes refl $
    move ! (2 ∷ 0 ∷ []) $ use2 𝓛 (‵ (tokens d.lifetime (k + j))) (tokens_glue 𝓛 d.lifetime k j (omega arith) fits) $ move ! (1 ∷ 0 ∷ []) $ fjoin ! $
    move ! (1 ∷ 0 ∷ []) $ fjoin ! $ move ! (1 ∷ 0 ∷ []) $ closes ! tt Row d' vs b o $ feq_i ! (List Val) (vptr b o ∷ []) (vptr b o ∷ []) refl $ fjoin3 ! $
    nothing ! $ nothing ! $ fjoin ! $ move ! (1 ∷ 0 ∷ []) $ fjoin ! $ move ! (1 ∷ 2 ∷ []) $ join ! $
    sets ! (of_opd ! (unit_lit !)) refl (tt, tt) $ use0 𝓛 (raw (fact 𝓤 (e.shown ≡ d.shown))) (says (e.shown ≡ d.shown) (sym (λ i. (both i).1.1))) $
    use0 𝓛 (raw (fact 𝓤 (e.kind ≡ d.kind))) (says (e.kind ≡ d.kind) (sym (λ i. (both i).1.0))) $ join ! $
    use0 𝓛 (raw (fact 𝓤 (e.lifetime ≡ d.lifetime))) (says (e.lifetime ≡ d.lifetime) lifetimes) $ join ! $
    use0 𝓛 (raw (fact 𝓤 (k + j ≤ 2 ^ 63))) (says (k + j ≤ 2 ^ 63) fits) $ join ! $ use0 𝓛 (raw (fact 𝓤 (d' ≡ d'))) (says (d' ≡ d') refl) $ join ! $
    feq_i ! (List Val) (vunit ∷ []) (vunit ∷ []) refl $
    returns ! (look_at ! 0 refl) $ free_all ! refl $ keep ! (2 ∷ 3 ∷ 0 ∷ 1 ∷ []) $ by ! (leaves 𝓛 En hs c y vunit tt (d', (tt, tt)) (tt, (tt, tt)))))))))
