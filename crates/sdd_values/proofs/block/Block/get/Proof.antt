-- `get` hands on the `&` to the value that a `&` to the block has.
use Rattle.atomic_table.proofs.Names.{◌≡◌, ℕ, ◌+◌, ◌*◌, ◌^◌, ◌<◌, length, [], ◌∷◌, List, sym, refl, ap, ◌∙◌, arith, a_type, named, Val, vptr, vint, inst_fn, SProp, emp, Lft, Fml, ftrue, fsep, flft, ‵, raw, ◌⊛◌, at_ret, ◌$◌, ◌∵◌, !, qed, by, move, keep, drop, split, join, fsplit, fjoin, fpick, use0, use1, rewrite, feq_i, stop, fld, addr, of_opd, load, bin, first, blocks, exec, returns, enter, alloc_all, pass_all, free_all, look_at, get, through, sets, sets_last, env, sub, whole, look_in, tables, yes, RattleType, owns, types_at, plain, Ptr, block_ptr, nothing, heard, param, layouts, Stays, stay_dropped, walk_of, Goes-dropped, fact, fact_i, Is, shows, cell_at, peeks, block_of, count_of, at_block, RefOf, shr_vals, shr_Tells, unhide, hidden_shr, looks, shuts, lent_out, w64, usize, uint_vals, uint_Tells, mem}
use base.Fml.{fhide}
use types.Run.{size_lit}
use denote.Param.Laws.{param_laws}
use denote.Opens.{hide}
use denote.Struct.Lending.{lent_at, lent_at_shr_laws}
use Rattle.core.proofs.slice.Lists.{hd, any-default}
use Rattle.core.proofs.ptr.Rows.{times_below, one_below}
use Rattle.core.proofs.slots.Bodies.{after}
use Rattle.atomic_table.proofs.Walks.{proved, leaves}
use Rattle.std.specs.Prelude.{slice_index_or}
use Rattle.sdd_values.specs.Block.{block_shares}
use Rattle.sdd_values.proofs.Fields.{strip_of, BlockData, block_told, block_opens}
use Rattle.sdd_values.proofs.BlockValues.{shows_at}
use Rattle.sdd_values.specs.contracts.block.Block as block
use Rattle.sdd_values.specs.contracts.block.Block.get.{ended, clauses}
use Rattle.sdd_values.specs.contracts.block.Block.get.Key.{name as #self}
use Rattle.sdd_values.proofs.block.Block.get.Statement.{statement}
use Rattle.sdd_values.proofs.block.Block.get.Code as code

pub get_spec : {M : Type 1} → statement M
get_spec 𝓤 𝓛 𝓜 𝓡 wired T L =
    let H = 𝓛.H in let 𝓣 = tables 𝓤 H 𝓜 𝓡 𝓡.env in let R : RattleType = param 0 T in let En = ended T in let inst = layouts (a_type ∷ []) (T, tt) in
    let fn = inst_fn inst code.function in let laws = (param_laws 0 T L).shr_laws in let Row : RattleType = block.the_row R in
    let D : RattleType = BlockData R in
    let c = clauses T 𝓛 𝓜.mem 𝓡.returns in let self = RefOf (0 ∷ []) tt (plain (λ _. Row)) (λ _. tt) in let num = plain (λ _. usize) in
    let hs : Stays En.signature.params En.kept = (stay_dropped self yes, (stay_dropped num yes, tt)) in
    proved 𝓛 En hs c 𝓜 𝓡 (Goes-dropped 𝓛 2 self yes (λ κs x f. refl), (Goes-dropped 𝓛 2 num yes (λ κs x f. refl), tt))
    (#self inst) fn (code.unfolded 𝓤 H 𝓜 𝓡 wired (T, tt))
    (λ κs. (shr_vals, (uint_vals w64, tt))) (λ κs. (shr_Tells (named 0) κs.0 Row, (uint_Tells w64, tt))) (λ κs qs bounds a gh are.
    let b : ℕ = a.0.ref_ptr.0 in let o : ℕ = a.0.ref_ptr.1 in let κ : Lft = κs.0 in let f : Row.Denot = a.0.now in let i : ℕ = a.1.0 in
    let p : Ptr = f.ptr in let bp : ℕ = block_of p in let op : ℕ = count_of p in let xs = f.values in let ss = f.fractions in let s : ℕ = (mem R).size in
    let others : Fml = fsep (flft κs.1.0 qs.1.0) ftrue in let Asked : Type 0 = i < length xs in
    let y : (walk_of 𝓛 En hs c).Ghost = ((κs, qs, bounds, a, (vptr b o ∷ [], (vint w64 i ∷ [], tt))), gh) in
    let Post : Val → SProp 𝓤 = (walk_of 𝓛 En hs c).post y in
    let there : Val = vptr bp (i * s + op) in
    qed 𝓛 (((‵ (flft κ qs.0) ⊛ ‵ others) ⊛ ‵ (owns (types_at En.signature.params κs) a y.0.4)) ∷ raw (fact 𝓤 _) ∷ raw (fact 𝓤 Asked) ∷ []) ∵
    keep ! (2 ∷ 0 ∷ []) $ heard ! Asked (λ near. let d : T.Denot = hd xs (omega arith) in let x : T.Denot = slice_index_or xs i d in
    split ! $ split ! $ move ! (2 ∷ []) $ fsplit ! $ fsplit ! $ drop ! $
    use1 𝓛 (‵ (hidden_shr D κ (p, tt) b o) ⊛ ‵ (fhide (block_shares R p xs ss κ))) (lent_out 𝓛 (block.struct R) (block.the_codes T.Denot R.coded)
    (block.the_heap R) (block.the_lent R) κ f b o) $ split ! $
    -- [the field; what is shared; _; the token; the others]
    keep ! (1 ∷ 0 ∷ 3 ∷ 4 ∷ []) $
    enter ! 𝓣.C 𝓣.Λ fn (vptr b o ∷ vint w64 i ∷ []) Post $ alloc_all ! (λ l. pass_all ! refl ((tt, tt), ((tt, record { fits = are.1.0.1 }), tt)) $
    let Ev = env fn.locals l in
    unhide ! $ fsplit ! $ fpick ! (λ fit. drop ! $ let long = fit.2 in
    let fi : i < 2 ^ 64 = are.1.0.1 in let small : s < 2 ^ 63 = one_below (length xs) s (2 ^ 63) (omega arith) fit.1 in let tiny : s < 2 ^ 64 = omega arith in
    let part : i * s < 2 ^ 63 = times_below i (length xs) s (2 ^ 63) (omega arith) fit.1 in let fm : i * s < 2 ^ 64 = omega arith in
    use1 𝓛 (‵ (lent_at R (block_ptr bp (i * s + op)) x κ)) (shows_at 𝓛 R bp (λ r z. lent_at_shr_laws R laws r z) κ op xs ss i d near (omega arith)) $
    fsplit ! $ drop ! $ hide ! $
    -- [the value; the field; the token; the others]
    move ! (1 ∷ 2 ∷ []) $
    looks ! tt D (block_opens R 𝓛) (p, tt) b o (λ q vs. move ! (1 ∷ []) $ peeks ! D (Is D) (shows 𝓛 D) (p, tt) vs (λ is-so.
    let ev : vs ≡ strip_of (block_ptr bp op) ∷ [] = block_told R p vs is-so ∙ ap (λ (r : Ptr). strip_of r ∷ []) (at_block p fit.0) in
    rewrite ! 1 (λ (ws : List Val). ‵ (cell_at q D.mir ws b o)) ev refl $ first ! $ blocks ! $
    sets ! (of_opd ! (load ! (through ! refl (fld ! refl (stop !))) (look_in ! 1 (sub ! 0 refl (whole !))))) refl (tt, tt) $
    rewrite ! 1 (λ (ws : List Val). ‵ (cell_at q D.mir ws b o)) (sym ev) refl $ move ! (1 ∷ 0 ∷ 2 ∷ []) $ shuts ! tt D q (p, tt) vs b o $ move ! (1 ∷ []) $
    drop ! $
    sets ! (bin ! (get ! refl) (size_lit ! (record { fits = tiny })) (record { fits = fm })) refl (tt, record { fits = fm }) $
    sets ! (bin ! (get ! refl) (get ! refl) tt) refl (tt, tt) $ sets_last ! (addr ! (through ! refl (stop !))) refl (tt, tt) $
    exec ! 𝓣.C 𝓣.Λ Ev (after 1 fn.body) (at_ret Ev Post) $ sets ! (of_opd ! (get ! refl)) refl (tt, tt) $
    -- [the token; the value; the others]
    move ! (0 ∷ 2 ∷ []) $ join ! $ move ! (1 ∷ []) $ feq_i ! (List Val) (there ∷ []) (there ∷ []) refl $ fjoin ! $ nothing ! $ nothing ! $ fjoin ! $
    nothing ! $ fjoin ! $
    let Told : Type 0 = (e : T.Denot) → x ≡ slice_index_or xs i e in
    use0 𝓛 (raw (fact 𝓤 Told)) (fact_i 𝓤 Told (emp 𝓤) (λ e. any-default xs i d e near)) $
    returns ! (look_at ! 0 refl) $ free_all ! refl $ keep ! (3 ∷ 1 ∷ 2 ∷ 0 ∷ []) $
    by ! (leaves 𝓛 En hs c y there (record { ref_ptr = (bp, i * s + op); now = x }) (tt, (tt, tt)) (tt, (tt, tt)))))))))
