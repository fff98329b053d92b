-- `into_inner` takes the value, whatever its name says.
use Rattle.atomic_table.proofs.Names.{◌≡◌, [], ◌∷◌, ◌++◌, List, sym, refl, ap, ◌∙◌, a_type, Val, vstruct, inst_fn, SProp, emp, ent, id⊢, ftrue, fsep, ‵, raw, ◌⊛◌, ◌$◌, ◌∵◌, !, qed, by, move, keep, drop, split, fsplit, fjoin, fpick, use0, rewrite, feq_l, suffices, stop, fld, of_opd, returns, enter, alloc_all, pass_all, free_all, look_at, get, get_in, sets, sub, whole, tables, no, RattleType, plain, nothing, param, layouts, Stays, stay_dropped, walk_of, Goes-dropped, Is, shows, peeks, WpFn, subst}
use mir.Val.{of_list, has_ty}
use denote.Param.{layout}
use denote.Triple.Entry.{alive}
use Rattle.core.proofs.mem.Param.{El, lawful, Good, one}
use Rattle.atomic_table.proofs.Walks.{proved_at, leaves}
use Rattle.sdd_bag.specs.contracts.keyed_place.KeyedPlace as place
use Rattle.sdd_bag.proofs.Fields.{and_true, place_val}
use Rattle.sdd_bag.specs.contracts.keyed_place.KeyedPlace.into_inner.{ended, clauses}
use Rattle.sdd_bag.specs.contracts.keyed_place.KeyedPlace.into_inner.Key.{name as #self}
use Rattle.sdd_bag.proofs.keyed_place.KeyedPlace.into_inner.Statement.{statement}
use Rattle.sdd_bag.proofs.keyed_place.KeyedPlace.into_inner.Code as code

pub into_inner_spec : {M : Type 1} → statement M
into_inner_spec 𝓤 𝓛 𝓜 𝓡 wired T L =
    let H = 𝓛.H in let 𝓣 = tables 𝓤 H 𝓜 𝓡 𝓡.env in let E : El = record { row = T; laws = L } in let R : RattleType = param 0 T in let En = ended T in
    let inst = layouts (a_type ∷ []) (T, tt) in let fn = inst_fn inst code.function in let Row : RattleType = place.the_row R in
    let c = clauses T 𝓛 𝓜.mem 𝓡.returns in let self = plain (λ _. Row) in let hs : Stays En.signature.params En.kept = (stay_dropped self no, tt) in
    proved_at 𝓛 En hs c 𝓜 𝓡 (Goes-dropped 𝓛 1 self no (λ κs x f. refl), tt) (#self inst) fn (code.unfolded 𝓤 H 𝓜 𝓡 wired (T, tt)) (λ z are.
    let Post : Val → SProp 𝓤 = (walk_of 𝓛 En hs c).post z in let Run : List Val → SProp 𝓤 = λ ws. WpFn 𝓤 H 𝓣.C 𝓣.Λ fn ws Post in
    qed 𝓛 ((raw (alive 𝓛 En.signature z.0.0 z.0.1) ⊛ ‵ (fsep (Row.own_val z.0.3.0 z.0.4.0) ftrue)) ∷ raw ((c z.0.0 z.0.3).requires z.1) ∷ []) ∵
    keep ! (0 ∷ []) $ split ! $ move ! (1 ∷ []) $ fsplit ! $ fsplit ! $ drop ! $ fpick ! (λ x. fsplit ! $ fpick ! (λ vss. fsplit ! $ feq_l ! (λ ev. fsplit ! $
    peeks ! R (Is R) (shows 𝓛 R) x vss.0 (λ is_so. let got = one E vss.0 ((lawful E 𝓛).typed x vss.0 is_so) in let vy : Val = got.0 in
    let fy : Good E vy = got.2 in let v : Val = place_val vy in
    let whole_is : z.0.4.0 ≡ v ∷ [] = ev ∙ ap (λ (ws : List Val). vstruct (of_list (ws ++ [])) ∷ []) got.1 in
    rewrite ! 0 (λ (ws : List Val). ‵ (R.own_val x ws)) got.1 refl $ keep ! (0 ∷ 4 ∷ []) $
    suffices ! (Run (v ∷ [])) (subst (λ (ws : List Val). ent 𝓤 (Run (v ∷ [])) (Run ws)) (sym (λ i. whole_is i ++ [])) (id⊢ 𝓤 (Run (v ∷ [])))) $
    enter ! 𝓣.C 𝓣.Λ fn (v ∷ []) Post $ alloc_all ! (λ l. pass_all ! refl ((and_true (has_ty (layout T) vy) fy.0, (fy.1, tt)), tt) $
    sets ! (of_opd ! (get_in ! (fld ! refl (stop !)) (sub ! 0 refl (whole !)))) refl fy $ sets ! (of_opd ! (get ! refl)) refl fy $
    nothing ! $ nothing ! $ fjoin ! $
    returns ! (look_at ! 0 refl) $ free_all ! refl $ use0 𝓛 (raw (emp 𝓤)) (id⊢ 𝓤 (emp 𝓤)) $ keep ! (3 ∷ 1 ∷ 2 ∷ 0 ∷ []) $
    by ! (leaves 𝓛 En hs c z vy x (tt, tt) (tt, tt))))))))
