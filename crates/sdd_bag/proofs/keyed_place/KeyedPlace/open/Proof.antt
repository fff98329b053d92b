-- `open` takes the value, which is the one that its name says to whoever has the key.
use Rattle.atomic_table.proofs.Names.{◌≡◌, ℕ, [], ◌∷◌, ◌++◌, List, sym, refl, ap, ◌∙◌, a_type, Val, vptr, vstruct, inst_fn, SProp, emp, ent, id⊢, Lft, Fml, ftrue, fsep, flft, ‵, raw, ◌⊛◌, ◌$◌, ◌∵◌, !, qed, by, move, keep, drop, split, join, fsplit, fsplit3, fjoin, fjoin3, fpick, use0, rewrite, feq_i, feq_l, suffices, stop, fld, of_opd, returns, enter, alloc_all, pass_all, free_all, look_at, get, get_in, sets, sub, whole, tables, no, RattleType, owns, types_at, plain, nothing, heard, opens, closes, param, layouts, Stays, stay_dropped, stay_ref, walk_of, Goes-dropped, Goes-ref, fact, fact_i, Is, shows, peeks, WpFn, subst}
use base.Fml.{fobs}
use mir.Val.{of_list, has_ty}
use denote.Param.{layout}
use types.Tokens.{name_agree}
use Rattle.core.proofs.mem.Param.{El, lawful, Good, one}
use Rattle.atomic_table.proofs.Walks.{proved_at, leaves}
use Rattle.sdd_bag.specs.KeyedPlaces.{PlaceName}
use Rattle.sdd_bag.specs.contracts.keyed_place.KeyedPlace as place
use Rattle.sdd_bag.specs.contracts.keyed_place.PlaceKey as key
use Rattle.sdd_bag.proofs.Fields.{and_true, place_val}
use Rattle.sdd_bag.specs.contracts.keyed_place.KeyedPlace.open.{ended, clauses}
use Rattle.sdd_bag.specs.contracts.keyed_place.KeyedPlace.open.Key.{name as #self}
use Rattle.sdd_bag.proofs.keyed_place.KeyedPlace.open.Statement.{statement}
use Rattle.sdd_bag.proofs.keyed_place.KeyedPlace.open.Code as code

pub open_spec : {M : Type 1} → statement M
open_spec 𝓤 𝓛 𝓜 𝓡 wired T L =
    let H = 𝓛.H in let 𝓣 = tables 𝓤 H 𝓜 𝓡 𝓡.env in let E : El = record { row = T; laws = L } in let R : RattleType = param 0 T in let En = ended T in
    let inst = layouts (a_type ∷ []) (T, tt) in let fn = inst_fn inst code.function in let Row : RattleType = place.the_row R in
    let Kr : RattleType = key.the_row R in
    let c = clauses T 𝓛 𝓜.mem 𝓡.returns in let self = plain (λ _. Row) in let held = plain (λ _. Kr) in
    let hs : Stays En.signature.params En.kept = (stay_dropped self no, (stay_ref (0 ∷ []) tt held, tt)) in
    proved_at 𝓛 En hs c 𝓜 𝓡 (Goes-dropped 𝓛 2 self no (λ κs x f. refl), (Goes-ref 𝓛 2 0 tt held, tt)) (#self inst) fn (code.unfolded 𝓤 H 𝓜 𝓡 wired (T, tt))
    (λ z are. let κs = z.0.0 in let qs = z.0.1 in let a = z.0.3 in let b' : ℕ = a.1.0.ref_ptr.0 in let o' : ℕ = a.1.0.ref_ptr.1 in let κ' : Lft = κs.0 in
    let n : PlaceName = a.0 in let k : Kr.Denot = a.1.0.now in let rest : Fml = fsep (flft κs.1.0 qs.1.0) ftrue in let Same : Type 0 = k.name ≡ n in
    let Post : Val → SProp 𝓤 = (walk_of 𝓛 En hs c).post z in let Run : List Val → SProp 𝓤 = λ ws. WpFn 𝓤 H 𝓣.C 𝓣.Λ fn ws Post in
    qed 𝓛 (((‵ (flft κ' qs.0) ⊛ ‵ rest) ⊛ ‵ (owns (types_at En.signature.params κs) a z.0.4)) ∷ raw (fact 𝓤 _) ∷ raw (fact 𝓤 Same) ∷ []) ∵
    keep ! (2 ∷ 0 ∷ []) $ heard ! Same (λ same. split ! $ split ! $ move ! (2 ∷ []) $ fsplit ! $ fsplit ! $ drop ! $ move ! (1 ∷ []) $ fsplit ! $ fsplit3 ! $
    -- [the values; the key's name and borrow; no more; the place; the tokens]
    drop ! $ move ! (3 ∷ []) $ fpick ! (λ x. fsplit ! $ fpick ! (λ vss. fsplit ! $ feq_l ! (λ ev. fsplit ! $
    -- [the value; no more; its name; the key's name and borrow; no more; the tokens]
    peeks ! R (Is R) (shows 𝓛 R) x vss.0 (λ is_so. let got = one E vss.0 ((lawful E 𝓛).typed x vss.0 is_so) in let vy : Val = got.0 in
    let fy : Good E vy = got.2 in let v : Val = place_val vy in
    let whole_is : z.0.4.0 ≡ v ∷ [] = ev ∙ ap (λ (ws : List Val). vstruct (of_list (ws ++ [])) ∷ []) got.1 in let Start : SProp 𝓤 = Run (v ∷ vptr b' o' ∷ []) in
    rewrite ! 0 (λ (ws : List Val). ‵ (R.own_val x ws)) got.1 refl $
    suffices ! Start (subst (λ (ws : List Val). ent 𝓤 Start (Run ws)) (sym (λ i. whole_is i ++ (are.1.0.0 i ++ []))) (id⊢ 𝓤 Start)) $
    enter ! 𝓣.C 𝓣.Λ fn (v ∷ vptr b' o' ∷ []) Post $ alloc_all ! (λ l. pass_all ! refl ((and_true (has_ty (layout T) vy) fy.0, (fy.1, tt)), ((tt, tt), tt)) $
    move ! (3 ∷ 4 ∷ 6 ∷ []) $ opens ! tt Kr b' o' (λ vs. move ! (1 ∷ []) $ fsplit ! $ move ! (1 ∷ []) $ fsplit ! $
    rewrite ! 0 (λ (m : PlaceName). ‵ (fobs m.value (R.coded.code k.value))) same refl $ move ! (0 ∷ 9 ∷ []) $
    name_agree ! R.coded (λ is_it. rewrite ! 0 (λ (m : PlaceName). ‵ (fobs m.value (R.coded.code k.value))) (sym same) refl $
    -- [what the name says, in two; the key; its field, cell and open borrow; the value; no more, twice; the tokens]
    move ! (1 ∷ []) $ drop ! $ fjoin ! $ move ! (1 ∷ 0 ∷ []) $ fjoin ! $ move ! (1 ∷ 0 ∷ []) $ closes ! tt Kr k vs b' o' $
    feq_i ! (List Val) z.0.4.1.0 (vptr b' o' ∷ []) are.1.0.0 $ fjoin3 ! $ move ! (1 ∷ 5 ∷ []) $ join ! $ move ! (1 ∷ []) $
    nothing ! $ move ! (1 ∷ 0 ∷ []) $ fjoin ! $ nothing ! $ fjoin ! $ move ! (2 ∷ []) $
    -- [the value; what stays; the tokens; no more, twice]
    sets ! (of_opd ! (get_in ! (fld ! refl (stop !)) (sub ! 0 refl (whole !)))) refl fy $ sets ! (of_opd ! (get ! refl)) refl fy $
    use0 𝓛 (raw (fact 𝓤 (k ≡ k))) (fact_i 𝓤 (k ≡ k) (emp 𝓤) refl) $
    use0 𝓛 (raw (fact 𝓤 (x ≡ k.value))) (fact_i 𝓤 (x ≡ k.value) (emp 𝓤) (sym is_it)) $ join ! $
    returns ! (look_at ! 0 refl) $ free_all ! refl $ keep ! (3 ∷ 2 ∷ 1 ∷ 0 ∷ []) $
    by ! (leaves 𝓛 En hs c z vy x (tt, (k, tt)) (tt, (tt, tt))))))))))))
