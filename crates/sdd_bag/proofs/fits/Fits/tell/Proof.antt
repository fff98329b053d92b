-- What is kept is told.
use Rattle.atomic_table.proofs.Names.{ℕ, List, [], ◌∷◌, refl, a_type, named, Val, vunit, vptr, inst_fn, SProp, emp, ‵, raw, ◌⊛◌, ◌$◌, ◌∵◌, !, qed, by, keep, split, fjoin, fpick, fpack, use0, move, fsplit, fsplit3, fjoin3, join, feq_i, of_opd, unit_lit, returns, enter, alloc_all, pass_all, free_all, look_at, sets, tables, RattleType, owns, types_at, plain, nothing, opens, closes, param, layouts, Stays, stay_ref, walk_of, Goes-ref, fact, fact_i, ftrue, Fml, fsep, flft, Lft, mut_vals, mut_Tells}
use mir.Syntax.{a_number}
use denote.Param.{number}
use Rattle.atomic_table.proofs.Walks.{proved, leaves}
use Rattle.sdd_bag.specs.Sizes.{IsSmall}
use Rattle.sdd_bag.specs.contracts.fits.Fits as fits
use Rattle.sdd_bag.specs.contracts.fits.Fits.tell.{ended, clauses}
use Rattle.sdd_bag.specs.contracts.fits.Fits.tell.Key.{name as #self}
use Rattle.sdd_bag.proofs.fits.Fits.tell.Statement.{statement}
use Rattle.sdd_bag.proofs.fits.Fits.tell.Code as code

pub tell_spec : {M : Type 1} → statement M
tell_spec 𝓤 𝓛 𝓜 𝓡 wired T len B L F L' =
    let H = 𝓛.H in let 𝓣 = tables 𝓤 H 𝓜 𝓡 𝓡.env in let N : RattleType = number len in let R : RattleType = param 0 T in let P : RattleType = param 1 N in
    let S : RattleType = param 2 B in let En = ended T N B in let c = clauses T N B 𝓛 𝓜.mem 𝓡.returns in
    let inst = layouts (a_type ∷ a_number ∷ a_type ∷ []) (T, (N, (B, tt))) in let fn = inst_fn inst code.function in
    let Row : RattleType = fits.the_row R P S in let self = plain (λ _. Row) in
    let hs : Stays En.signature.params En.kept = (stay_ref (0 ∷ []) tt self, tt) in
    proved 𝓛 En hs c 𝓜 𝓡 (Goes-ref 𝓛 4 0 tt self, tt) (#self inst) fn (code.unfolded 𝓤 H 𝓜 𝓡 wired (T, (N, (B, tt))))
    (λ κs. (mut_vals, tt)) (λ κs. (mut_Tells (named 0) κs.0 Row, tt)) (λ κs qs bounds a gh are.
    let b : ℕ = a.0.ref_ptr.0 in let o : ℕ = a.0.ref_ptr.1 in let κ : Lft = κs.0 in let d : Row.Denot = a.0.now in let Small : Type 0 = IsSmall R P S in
    let others : Fml = fsep (flft κs.1.0 qs.1.0) (fsep (flft κs.1.1.0 qs.1.1.0) (fsep (flft κs.1.1.1.0 qs.1.1.1.0) ftrue)) in
    let y : (walk_of 𝓛 En hs c).Ghost = ((κs, qs, bounds, a, (vptr b o ∷ [], tt)), gh) in
    let Post : Val → SProp 𝓤 = (walk_of 𝓛 En hs c).post y in
    qed 𝓛 (((‵ (flft κ qs.0) ⊛ ‵ others) ⊛ ‵ (owns (types_at En.signature.params κs) a y.0.4)) ∷ raw ((c κs a).requires gh) ∷ []) ∵
    keep ! (0 ∷ []) $ split ! $ split ! $ move ! (2 ∷ []) $ fsplit ! $ fsplit3 ! $ keep ! (1 ∷ 2 ∷ 4 ∷ 5 ∷ []) $
    enter ! 𝓣.C 𝓣.Λ fn (vptr b o ∷ []) Post $ alloc_all ! (λ l. pass_all ! refl ((tt, tt), tt) $
    opens ! tt Row b o (λ vs. move ! (1 ∷ []) $ fsplit ! $ move ! (1 ∷ []) $ fpick ! (λ small.
    fpack ! Small (λ _. ftrue) small $ move ! (1 ∷ 0 ∷ []) $ fjoin ! $ move ! (1 ∷ 0 ∷ 2 ∷ 3 ∷ 4 ∷ []) $ closes ! tt Row d vs b o $
    feq_i ! (List Val) (vptr b o ∷ []) (vptr b o ∷ []) refl $ fjoin3 ! $ nothing ! $ move ! (1 ∷ 0 ∷ []) $ fjoin ! $
    move ! (1 ∷ 2 ∷ []) $ join ! $
    sets ! (of_opd ! (unit_lit !)) refl (tt, tt) $ use0 𝓛 (raw (fact 𝓤 Small)) (fact_i 𝓤 Small (emp 𝓤) small) $
    feq_i ! (List Val) (vunit ∷ []) (vunit ∷ []) refl $
    returns ! (look_at ! 0 refl) $ free_all ! refl $ keep ! (2 ∷ 3 ∷ 0 ∷ 1 ∷ []) $
    by ! (leaves 𝓛 En hs c y vunit tt (d, tt) (tt, tt))))))
