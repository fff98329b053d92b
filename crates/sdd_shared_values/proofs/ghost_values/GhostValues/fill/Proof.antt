-- `fill` changes what the ledger says of one place. It is known of the value itself by which code units show it.
use Rattle.atomic_table.proofs.Names.{◌≡◌, ℕ, List, [], ◌∷◌, refl, a_type, named, Val, vptr, vint, vunit, w64, inst_fn, SProp, emp, Fml, Lft, ftrue, fsep, flft, ‵, raw, ◌⊛◌, ◌$◌, ◌∵◌, !, qed, by, move, keep, drop, split, join, fsplit, fsplit3, fjoin, fjoin3, fpick, fpack, use0, feq_i, of_opd, unit_lit, returns, enter, alloc_all, pass_all, free_all, look_at, sets, tables, yes, RattleType, RefOf, usize, uint_vals, uint_Tells, mut_vals, mut_Tells, shr_vals, shr_Tells, owns, types_at, plain, nothing, opens, closes, param, layouts, Stays, stay_dropped, stay_ref, walk_of, Goes-dropped, Goes-ref, fact, fact_i}
use Rattle.std.specs.Prelude.{Option, Some, slice_set}
use base.Stored.{Gv}
use Rattle.atomic_table.proofs.Walks.{proved, leaves}
use Rattle.sdd_shared_values.specs.SharedValues.{showing}
use Rattle.sdd_shared_values.specs.GhostValues.{AreCoded}
use Rattle.sdd_shared_values.specs.contracts.ghost_values.GhostValues as ledger
use Rattle.sdd_shared_values.proofs.GhostCodes.{filled_coded}
use Rattle.sdd_shared_values.specs.contracts.ghost_values.GhostValues.fill.{ended, clauses}
use Rattle.sdd_shared_values.specs.contracts.ghost_values.GhostValues.fill.Key.{name as #self}
use Rattle.sdd_shared_values.proofs.ghost_values.GhostValues.fill.Statement.{statement}
use Rattle.sdd_shared_values.proofs.ghost_values.GhostValues.fill.Code as code

pub fill_spec : {M : Type 1} → statement M
fill_spec 𝓤 𝓛 𝓜 𝓡 wired T _ =
    let H = 𝓛.H in let 𝓣 = tables 𝓤 H 𝓜 𝓡 𝓡.env in let R : RattleType = param 0 T in let En = ended T in let c = clauses T 𝓛 𝓜.mem 𝓡.returns in
    let inst = layouts (a_type ∷ []) (T, tt) in let fn = inst_fn inst code.function in let Row : RattleType = ledger.the_row R in
    let self = plain (λ _. Row) in let num = plain (λ _. usize) in let shown = RefOf (1 ∷ []) tt (plain (λ _. R)) (λ _. tt) in
    let hs : Stays En.signature.params En.kept = (stay_ref (0 ∷ []) tt self, (stay_dropped num yes, (stay_dropped shown yes, tt))) in
    proved 𝓛 En hs c 𝓜 𝓡 (Goes-ref 𝓛 3 0 tt self, (Goes-dropped 𝓛 3 num yes (λ κs x f. refl), (Goes-dropped 𝓛 3 shown yes (λ κs x f. refl), tt)))
    (#self inst) fn (code.unfolded 𝓤 H 𝓜 𝓡 wired (T, tt))
    (λ κs. (mut_vals, (uint_vals w64, (shr_vals, tt))))
    (λ κs. (mut_Tells (named 0) κs.0 Row, (uint_Tells w64, (shr_Tells (named 1) κs.1.0 R, tt)))) (λ κs qs bounds a gh are.
    let b : ℕ = a.0.ref_ptr.0 in let o : ℕ = a.0.ref_ptr.1 in let κ : Lft = κs.0 in let d : Row.Denot = a.0.now in let n : ℕ = a.1.0 in
    let at : Val = vptr a.1.1.0.ref_ptr.0 a.1.1.0.ref_ptr.1 in let x : R.Denot = a.1.1.0.now in
    let es : List (Option (R.Denot × Gv)) = slice_set d.entries n (Some (x, showing R x)) in let d' : Row.Denot = record d { entries = es } in
    let others : Fml = fsep (flft κs.1.0 qs.1.0) (fsep (flft κs.1.1.0 qs.1.1.0) ftrue) in let Told : Type 0 = es ≡ es in
    let y : (walk_of 𝓛 En hs c).Ghost = ((κs, qs, bounds, a, (vptr b o ∷ [], (vint w64 n ∷ [], (at ∷ [], tt)))), gh) in
    let Post : Val → SProp 𝓤 = (walk_of 𝓛 En hs c).post y in
    qed 𝓛 (((‵ (flft κ qs.0) ⊛ ‵ others) ⊛ ‵ (owns (types_at En.signature.params κs) a y.0.4)) ∷ raw ((c κs a).requires gh) ∷ []) ∵
    split ! $ split ! $ move ! (2 ∷ []) $ fsplit ! $ fsplit3 ! $ keep ! (1 ∷ 2 ∷ 4 ∷ 5 ∷ []) $
    enter ! 𝓣.C 𝓣.Λ fn (vptr b o ∷ vint w64 n ∷ at ∷ []) Post $
    alloc_all ! (λ l. pass_all ! refl ((tt, tt), ((tt, record { fits = are.1.0.1 }), ((tt, tt), tt))) $
    opens ! tt Row b o (λ vs. move ! (1 ∷ []) $ fsplit ! $ move ! (1 ∷ []) $ fpick ! (λ so. drop ! $
    -- [the field; the cell; ..]
    nothing ! $ fpack ! (AreCoded R es) (λ _. ftrue) (filled_coded R d.entries n x so) $ move ! (1 ∷ 0 ∷ []) $ fjoin ! $ move ! (1 ∷ []) $
    closes ! tt Row d' vs b o $ feq_i ! (List Val) (vptr b o ∷ []) (vptr b o ∷ []) refl $ fjoin3 ! $
    -- [the ledger; its token; the others]
    nothing ! $ nothing ! $ fjoin ! $ nothing ! $ fjoin ! $ move ! (1 ∷ 0 ∷ []) $ fjoin ! $ move ! (1 ∷ 2 ∷ []) $ join ! $
    sets ! (of_opd ! (unit_lit !)) refl (tt, tt) $ use0 𝓛 (raw (fact 𝓤 Told)) (fact_i 𝓤 Told (emp 𝓤) refl) $
    feq_i ! (List Val) (vunit ∷ []) (vunit ∷ []) refl $
    returns ! (look_at ! 0 refl) $ free_all ! refl $ keep ! (2 ∷ 3 ∷ 0 ∷ 1 ∷ []) $
    by ! (leaves 𝓛 En hs c y vunit tt (d', (tt, (tt, tt))) (tt, (tt, (tt, tt))))))))
