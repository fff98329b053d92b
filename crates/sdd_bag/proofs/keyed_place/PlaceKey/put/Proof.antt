-- `put` joins the rights.
use Rattle.atomic_table.proofs.Names.{◌≡◌, ℕ, List, [], ◌∷◌, refl, a_type, named, Val, vunit, vptr, inst_fn, SProp, emp, ‵, raw, ◌⊛◌, ◌$◌, ◌∵◌, !, qed, by, keep, drop, split, fjoin, use0, use2, move, fsplit, fsplit3, fjoin3, join, feq_i, of_opd, unit_lit, returns, enter, alloc_all, pass_all, free_all, look_at, sets, tables, RattleType, owns, types_at, plain, nothing, opens, closes, param, layouts, Stays, stay_dropped, stay_ref, walk_of, Goes-dropped, Goes-ref, fact, fact_i, ftrue, Fml, fsep, flft, Lft, no, yes, mut_vals, mut_Tells, uint_vals, uint_Tells}
use denote.Builtin.{u128}
use mir.Syntax.{w128}
use mir.Val.{vint}
use Rattle.atomic_table.proofs.Walks.{proved, leaves}
use Rattle.atomic_table.proofs.Fields.{token_val}
use Rattle.sdd_bag.specs.KeptValues.{KeptValue, kept_as, keys_own, inserted}
use Rattle.sdd_bag.proofs.Fields.{bit_told}
use Rattle.sdd_bag.proofs.Keys.{goes_in}
use Rattle.sdd_bag.specs.contracts.keyed_place.PlaceKey as key
use Rattle.sdd_bag.specs.contracts.keyed_place.PlaceKeys as keys
use Rattle.sdd_bag.specs.contracts.keyed_place.PlaceKey.put.{ended, clauses}
use Rattle.sdd_bag.specs.contracts.keyed_place.PlaceKey.put.Key.{name as #self}
use Rattle.sdd_bag.proofs.keyed_place.PlaceKey.put.Statement.{statement}
use Rattle.sdd_bag.proofs.keyed_place.PlaceKey.put.Code as code

pub put_spec : {M : Type 1} → statement M
put_spec 𝓤 𝓛 𝓜 𝓡 wired X L =
    let H = 𝓛.H in let 𝓣 = tables 𝓤 H 𝓜 𝓡 𝓡.env in let R : RattleType = param 0 X in let En = ended X in let inst = layouts (a_type ∷ []) (X, tt) in
    let fn = inst_fn inst code.function in let Row : RattleType = keys.the_row R in let Kr : RattleType = key.the_row R in
    let c = clauses X 𝓛 𝓜.mem 𝓡.returns in let held = plain (λ _. Kr) in let ring = plain (λ _. Row) in let num = plain (λ _. u128) in
    let hs : Stays En.signature.params En.kept = (stay_dropped held no, (stay_ref (0 ∷ []) tt ring, (stay_dropped num yes, tt))) in
    proved 𝓛 En hs c 𝓜 𝓡 (Goes-dropped 𝓛 2 held no (λ κs x f. refl), (Goes-ref 𝓛 2 0 tt ring, (Goes-dropped 𝓛 2 num yes (λ κs x f. refl), tt))) (#self inst)
    fn (code.unfolded 𝓤 H 𝓜 𝓡 wired (X, tt))
    (λ κs. ((λ _. token_val ∷ []), (mut_vals, (uint_vals w128, tt))))
    (λ κs. ((λ e vs so. bit_told R vs so.0), (mut_Tells (named 0) κs.0 Row, (uint_Tells w128, tt)))) (λ κs qs bounds a gh are.
    let b : ℕ = a.1.0.ref_ptr.0 in let o : ℕ = a.1.0.ref_ptr.1 in let κ : Lft = κs.0 in let e : Kr.Denot = a.0 in let d : Row.Denot = a.1.0.now in
    let m : ℕ = a.1.1.0 in let others : Fml = fsep (flft κs.1.0 qs.1.0) ftrue in let ks : List (KeptValue X.Denot) = d.kept in
    let k : KeptValue X.Denot = kept_as e.name e.value in let d' : Row.Denot = record d { kept = inserted ks m k } in
    let y : (walk_of 𝓛 En hs c).Ghost = ((κs, qs, bounds, a, (token_val ∷ [], (vptr b o ∷ [], (vint w128 m ∷ [], tt)))), gh) in
    let Post : Val → SProp 𝓤 = (walk_of 𝓛 En hs c).post y in
    qed 𝓛 (((‵ (flft κ qs.0) ⊛ ‵ others) ⊛ ‵ (owns (types_at En.signature.params κs) a y.0.4)) ∷ raw ((c κs a).requires gh) ∷ []) ∵
    keep ! (0 ∷ []) $ split ! $ split ! $ move ! (2 ∷ []) $ fsplit ! $ fsplit ! $ drop ! $
    -- [the key's right; the others' parts; the lifetimes]
    move ! (1 ∷ []) $ fsplit ! $ fsplit3 ! $ drop ! $ keep ! (0 ∷ 1 ∷ 4 ∷ 5 ∷ 3 ∷ []) $
    enter ! 𝓣.C 𝓣.Λ fn (token_val ∷ vptr b o ∷ vint w128 m ∷ []) Post $
    alloc_all ! (λ l. pass_all ! refl ((tt, (tt, tt)), ((tt, tt), ((tt, record { fits = are.1.1.0.1 }), tt))) $
    opens ! tt Row b o (λ vs. move ! (1 ∷ []) $ fsplit ! $ move ! (1 ∷ []) $ move ! (0 ∷ 7 ∷ []) $
    use2 𝓛 (‵ (keys_own R (inserted ks m k))) (goes_in 𝓛 R ks m k) $
    move ! (1 ∷ 0 ∷ []) $ fjoin ! $ move ! (1 ∷ 0 ∷ []) $ closes ! tt Row d' vs b o $ feq_i ! (List Val) (vptr b o ∷ []) (vptr b o ∷ []) refl $ fjoin3 ! $
    nothing ! $ nothing ! $ fjoin ! $ move ! (1 ∷ 0 ∷ []) $ fjoin ! $ nothing ! $ fjoin ! $ move ! (1 ∷ 2 ∷ []) $ join ! $
    sets ! (of_opd ! (unit_lit !)) refl (tt, tt) $ use0 𝓛 (raw (fact 𝓤 (d' ≡ d'))) (fact_i 𝓤 (d' ≡ d') (emp 𝓤) refl) $
    feq_i ! (List Val) (vunit ∷ []) (vunit ∷ []) refl $
    returns ! (look_at ! 0 refl) $ free_all ! refl $ keep ! (2 ∷ 3 ∷ 0 ∷ 1 ∷ []) $
    by ! (leaves 𝓛 En hs c y vunit tt (tt, (d', (tt, tt))) (tt, (tt, (tt, tt)))))))
