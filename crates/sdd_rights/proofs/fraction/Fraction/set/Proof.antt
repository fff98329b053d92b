-- Who has the whole sets it.
use Rattle.sdd_rights.proofs.Names.{◌≡◌, [], ◌∷◌, refl, List, ℕ, ◌^◌, sym, a_type, named, Val, vptr, vunit, inst_fn, SProp, emp, ‵, raw, ◌⊛◌, later, await, ◌$◌, ◌∵◌, !, qed, by, keep, split, fjoin, use0, use1, move, fsplit, fsplit3, fjoin3, join, feq_i, rewrite, of_opd, unit_lit, returns, enter, alloc_all, pass_all, free_all, look_at, sets, tables, RattleType, RefOf, owns, types_at, plain, nothing, opens, closes, heard, param, layouts, Stays, stay_dropped, stay_ref, walk_of, Goes-dropped, Goes-ref, fact, fact_i, ftrue, Fml, fsep, flft, Lft, yes, mut_vals, mut_Tells, shr_vals, shr_Tells, proved, leaves, Gv}
use Rattle.sdd_rights.specs.Units.{units, told}
use Rattle.sdd_rights.proofs.Steps.{sets_all}
use Rattle.sdd_rights.specs.contracts.fraction.Fraction as fraction
use Rattle.sdd_rights.specs.contracts.fraction.Fraction.set.{ended, clauses}
use Rattle.sdd_rights.specs.contracts.fraction.Fraction.set.Key.{name as #self}
use Rattle.sdd_rights.proofs.fraction.Fraction.set.Statement.{statement}
use Rattle.sdd_rights.proofs.fraction.Fraction.set.Code as code

pub set_spec : {M : Type 1} → statement M
set_spec 𝓤 𝓛 𝓜 𝓡 wired X Y L _ =
    let H = 𝓛.H in let 𝓣 = tables 𝓤 H 𝓜 𝓡 𝓡.env in let R : RattleType = param 0 X in let S : RattleType = param 1 Y in let En = ended X Y in
    let inst = layouts (a_type ∷ a_type ∷ []) (X, (Y, tt)) in let fn = inst_fn inst code.function in
    let Row : RattleType = fraction.the_row R in let c = clauses X Y 𝓛 𝓜.mem 𝓡.returns in
    let self = plain (λ _. Row) in let one = RefOf (1 ∷ []) tt (plain (λ _. R)) (λ _. tt) in let two = RefOf (2 ∷ []) tt (plain (λ _. S)) (λ _. tt) in
    let hs : Stays En.signature.params En.kept = (stay_ref (0 ∷ []) tt self, (stay_dropped one yes, (stay_dropped two yes, tt))) in
    proved 𝓛 En hs c 𝓜 𝓡 (Goes-ref 𝓛 5 0 tt self, (Goes-dropped 𝓛 5 one yes (λ κs x f. refl), (Goes-dropped 𝓛 5 two yes (λ κs x f. refl), tt)))
    (#self inst) fn (code.unfolded 𝓤 H 𝓜 𝓡 wired (X, (Y, tt)))
    (λ κs. (mut_vals, (shr_vals, (shr_vals, tt)))) (λ κs. (
      mut_Tells (named 0) κs.0 Row,
      (shr_Tells (named 1) κs.1.0 R, (shr_Tells (named 2) κs.1.1.0 S, tt)),
    )) (λ κs qs bounds a gh are.
    let b : ℕ = a.0.ref_ptr.0 in let o : ℕ = a.0.ref_ptr.1 in let b' : ℕ = a.1.0.ref_ptr.0 in let o' : ℕ = a.1.0.ref_ptr.1 in
    let c' : ℕ = a.1.1.0.ref_ptr.0 in let p' : ℕ = a.1.1.0.ref_ptr.1 in let κ : Lft = κs.0 in let d : Row.Denot = a.0.now in
    let x : X.Denot = a.1.0.now in let v : Gv = Y.coded.code a.1.1.0.now in
    let others : Fml = fsep (flft κs.1.0 qs.1.0) (fsep (flft κs.1.1.0 qs.1.1.0)
    (fsep (flft κs.1.1.1.0 qs.1.1.1.0) (fsep (flft κs.1.1.1.1.0 qs.1.1.1.1.0) ftrue))) in
    let g : Gv = told R.coded d.lifetime d.kind d.shown in let h : Gv = told R.coded d.lifetime x v in let d' : Row.Denot = record d { kind = x; shown = v } in
    let Asked : Type 0 = d.units ≡ 2 ^ 63 in
    let y : (walk_of 𝓛 En hs c).Ghost = ((κs, qs, bounds, a, (vptr b o ∷ [], (vptr b' o' ∷ [], (vptr c' p' ∷ [], tt)))), gh) in
    let Post : Val → SProp 𝓤 = (walk_of 𝓛 En hs c).post y in
    qed 𝓛 (((‵ (flft κ qs.0) ⊛ ‵ others) ⊛ ‵ (owns (types_at En.signature.params κs) a y.0.4)) ∷ raw (fact 𝓤 _) ∷ raw (fact 𝓤 _) ∷ raw (fact 𝓤 Asked) ∷ []) ∵
    keep ! (3 ∷ 0 ∷ []) $ heard ! Asked (λ asked. split ! $ split ! $ move ! (2 ∷ []) $ fsplit ! $ fsplit3 ! $ keep ! (1 ∷ 2 ∷ 4 ∷ 5 ∷ []) $
    enter ! 𝓣.C 𝓣.Λ fn (vptr b o ∷ vptr b' o' ∷ vptr c' p' ∷ []) Post $ alloc_all ! (λ l. pass_all ! refl ((tt, tt), ((tt, tt), ((tt, tt), tt))) $
    opens ! tt Row b o (λ vs. move ! (1 ∷ []) $ fsplit ! $ move ! (1 ∷ []) $ fsplit ! $ rewrite ! 0 (λ (m : ℕ). ‵ (units d.home.name d.number g m)) asked refl $
    use1 𝓛 (later (‵ (units d.home.name d.number h (2 ^ 63)))) (sets_all 𝓛 d.home.name d.number g h) $ await ! tt $
    rewrite ! 0 (λ (m : ℕ). ‵ (units d.home.name d.number h m)) (sym asked) refl $ fjoin ! $
    move ! (1 ∷ 0 ∷ []) $ fjoin ! $ move ! (1 ∷ 0 ∷ []) $ closes ! tt Row d' vs b o $ feq_i ! (List Val) (vptr b o ∷ []) (vptr b o ∷ []) refl $ fjoin3 ! $
    nothing ! $ nothing ! $ fjoin ! $ nothing ! $ fjoin ! $ move ! (1 ∷ 0 ∷ []) $ fjoin ! $ move ! (1 ∷ 2 ∷ []) $ join ! $
    sets ! (of_opd ! (unit_lit !)) refl (tt, tt) $ use0 𝓛 (raw (fact 𝓤 (d' ≡ d'))) (fact_i 𝓤 (d' ≡ d') (emp 𝓤) refl) $
    feq_i ! (List Val) (vunit ∷ []) (vunit ∷ []) refl $ returns ! (look_at ! 0 refl) $ free_all ! refl $ keep ! (2 ∷ 3 ∷ 0 ∷ 1 ∷ []) $
    by ! (leaves 𝓛 En hs c y vunit tt (d', (tt, (tt, tt))) (tt, (tt, (tt, tt))))))))
