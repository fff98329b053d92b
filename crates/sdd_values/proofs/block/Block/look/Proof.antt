-- `look` lends the reader's fraction to the section, for a lifetime that begins where there is none, and shows the value for as long as the section is
-- borrowed.
use Rattle.atomic_table.proofs.Names.{◌≡◌, ℕ, ◌+◌, ◌*◌, ◌^◌, ◌<◌, length, [], ◌∷◌, List, sym, refl, ap, ◌∙◌, arith, a_type, named, Val, vptr, vint, inst_fn, SProp, emp, Lft, Share, Fml, ftrue, fsep, flft, ‵, raw, ◌⊛◌, later, await, at_ret, ◌$◌, ◌∵◌, !, qed, by, move, keep, drop, split, split3, join, fsplit, fsplit3, fjoin, fjoin3, fpick, fpack, use0, use1, use2, use3, rewrite, feq_i, stop, fld, addr, of_opd, load, bin, first, blocks, exec, returns, enter, alloc_all, pass_all, free_all, look_at, get, through, sets, sets_last, env, sub, whole, look_in, tables, yes, RattleType, owns, types_at, plain, Ptr, block_ptr, nothing, heard, param, layouts, Stays, stay_dropped, stay_ref, walk_of, Goes-dropped, Goes-ref, fact, fact_i, Is, shows, cell_at, peeks, block_of, count_of, at_block, RefOf, mut_vals, mut_Tells, shr_vals, shr_Tells, opens, closes, unhide, hidden_shr, lent_out, w64, usize, uint_vals, uint_Tells, mem, full_share, ◌⊑◌}
use base.Fml.{fhide}
use types.Run.{size_lit}
use lib.ListN.{length-set}
use lib.Seq.{set-get_or}
use denote.Param.Laws.{param_laws}
use denote.Opens.{hide}
use denote.Struct.Lending.{lent_at, lent_at_shr_laws, Lends-lies}
use Rattle.core.specs.contracts.marker.PhantomData as marker
use Rattle.core.proofs.slice.Lists.{hd, any-default}
use Rattle.core.proofs.ptr.Rows.{times_below, one_below}
use Rattle.core.proofs.slots.Bodies.{after}
use Rattle.atomic_table.proofs.Walks.{proved, leaves}
use Rattle.std.specs.Prelude.{Option, Some, slice_index_or, slice_set}
use Rattle.sdd_rights.specs.Units.{fraction_shares}
use Rattle.sdd_rights.specs.contracts.fraction.Fraction as part
use Rattle.sdd_rights.proofs.Fields.{Pin}
use Rattle.sdd_values.specs.Block.{IsBlockAt, IsFreeFor, fraction_at, lent, spot, spots}
use Rattle.sdd_values.proofs.Fields.{strip_of, BlockData, block_told}
use Rattle.sdd_values.proofs.Lifetimes.{looks_at}
use Rattle.sdd_values.proofs.BlockValues.{besides, spot_out, spot_in}
use Rattle.sdd_values.specs.contracts.block.Block as block
use Rattle.sdd_values.specs.contracts.block.Block.look.{ended, clauses}
use Rattle.sdd_values.specs.contracts.block.Block.look.Key.{name as #self}
use Rattle.sdd_values.proofs.block.Block.look.Statement.{statement}
use Rattle.sdd_values.proofs.block.Block.look.Code as code

pub look_spec : {M : Type 1} → statement M
look_spec 𝓤 𝓛 𝓜 𝓡 wired T K L _ =
    let H = 𝓛.H in let 𝓣 = tables 𝓤 H 𝓜 𝓡 𝓡.env in let R : RattleType = param 0 T in let S : RattleType = param 1 K in let En = ended T K in
    let inst = layouts (a_type ∷ a_type ∷ []) (T, (K, tt)) in let fn = inst_fn inst code.function in let LR = param_laws 0 T L in let laws = LR.shr_laws in
    let Row : RattleType = block.the_row R in let Pr : RattleType = part.the_row S in let D : RattleType = BlockData R in
    let c = clauses T K 𝓛 𝓜.mem 𝓡.returns in
    let self = plain (λ _. Row) in let num = plain (λ _. usize) in let arg = RefOf (1 ∷ []) tt (plain (λ _. Pr)) (λ _. tt) in
    let hs : Stays En.signature.params En.kept = (stay_ref (0 ∷ []) tt self, (stay_dropped num yes, (stay_dropped num yes, (stay_dropped arg yes, tt)))) in
    proved 𝓛 En hs c 𝓜 𝓡 (
      Goes-ref 𝓛 4 0 tt self,
      (
        Goes-dropped 𝓛 4 num yes (λ κs x f. refl),
        (
          Goes-dropped 𝓛 4 num yes (λ κs x f. refl),
          (Goes-dropped 𝓛 4 arg yes (λ κs x f. refl), tt),
        ),
      ),
    ) (#self inst) fn (code.unfolded 𝓤 H 𝓜 𝓡 wired (T, (K, tt)))
    (λ κs. (mut_vals, (uint_vals w64, (uint_vals w64, (shr_vals, tt))))) (λ κs. (
      mut_Tells (named 0) κs.0 Row,
      (uint_Tells w64, (uint_Tells w64, (shr_Tells (named 1) κs.1.0 Pr, tt))),
    )) (λ κs qs bounds a gh are.
    let b : ℕ = a.0.ref_ptr.0 in let o : ℕ = a.0.ref_ptr.1 in let c' : ℕ = a.1.1.1.0.ref_ptr.0 in let e' : ℕ = a.1.1.1.0.ref_ptr.1 in
    let κ : Lft = κs.0 in let κ' : Lft = κs.1.0 in let μ : Lft = κs.1.1.0 in let qμ : Share = qs.1.1.0 in
    let f : Row.Denot = a.0.now in let i : ℕ = a.1.0 in let r : ℕ = a.1.1.0 in let n : Pr.Denot = a.1.1.1.0.now in let τ : ℕ = n.lifetime in
    let p : Ptr = f.ptr in let bp : ℕ = block_of p in let op : ℕ = count_of p in let xs = f.values in let ss = f.fractions in let s : ℕ = (mem R).size in
    let fractions : List (Option ℕ) = slice_index_or ss i [] in let fractions' : List (Option ℕ) = slice_set fractions r (Some τ) in let ss' = lent i r τ ss in
    let rest : Fml = fsep (flft κs.1.1.1.0 qs.1.1.1.0) ftrue in let others : Fml = fsep (flft κ' qs.1.0) (fsep (flft μ qμ) rest) in
    let Inside : Type 0 = i < length xs in let Near : Type 0 = r < length fractions in let Free : Type 0 = IsFreeFor τ (fraction_at ss i r) in
    let InT : Type 0 = μ ⊑ T.lives in
    let y : (walk_of 𝓛 En hs c).Ghost = ((κs, qs, bounds, a, (vptr b o ∷ [], (vint w64 i ∷ [], (vint w64 r ∷ [], (vptr c' e' ∷ [], tt))))), gh) in
    let Post : Val → SProp 𝓤 = (walk_of 𝓛 En hs c).post y in let there : Val = vptr bp (i * s + op) in let here : Ptr = block_ptr bp (i * s + op) in
    qed 𝓛 (((‵ (flft κ qs.0) ⊛ ‵ others) ⊛ ‵ (owns (types_at En.signature.params κs) a y.0.4)) ∷ raw (fact 𝓤 InT) ∷ raw (fact 𝓤 _) ∷
    raw (fact 𝓤 Inside) ∷ raw (fact 𝓤 Near) ∷ raw (fact 𝓤 Free) ∷ []) ∵
    keep ! (3 ∷ 4 ∷ 5 ∷ 1 ∷ 0 ∷ []) $ heard ! Inside (λ near. heard ! Near (λ reader. heard ! Free (λ free. heard ! InT (λ le.
    let d : T.Denot = hd xs (omega arith) in let x : T.Denot = slice_index_or xs i d in
    split ! $ split ! $ move ! (2 ∷ []) $ fsplit ! $ move ! (1 ∷ []) $ fsplit ! $ drop ! $ fsplit ! $ drop ! $ fsplit ! $ fsplit ! $ drop ! $
    use1 𝓛 (‵ (hidden_shr (Pin S) κ' (tt, tt) c' e') ⊛ ‵ (fhide (fraction_shares S.coded n.home.name n.number n.lifetime n.kind n.shown κ')))
    (lent_out 𝓛 (part.struct S) (part.the_codes K.Denot S.coded (marker.the_row S).coded) (part.the_heap S) (part.the_lent S) κ' n c' e') $ split ! $ drop ! $
    -- [the section; _; the block; its token; the others]
    move ! (2 ∷ []) $ fsplit3 ! $ keep ! (1 ∷ 2 ∷ 5 ∷ 3 ∷ 6 ∷ []) $
    enter ! 𝓣.C 𝓣.Λ fn (vptr b o ∷ vint w64 i ∷ vint w64 r ∷ vptr c' e' ∷ []) Post $
    alloc_all ! (λ l. pass_all ! refl ((tt, tt), ((tt, record { fits = are.1.0.1 }), ((tt, record { fits = are.1.1.0.1 }), ((tt, tt), tt)))) $
    let Ev = env fn.locals l in
    move ! (3 ∷ []) $ unhide ! $ fsplit ! $ drop ! $ move ! (1 ∷ 2 ∷ 3 ∷ []) $
    opens ! tt Row b o (λ vs. move ! (1 ∷ []) $ fsplit ! $ move ! (1 ∷ []) $ fsplit ! $ fpick ! (λ fit. drop ! $ let long = fit.2 in
    let fi : i < 2 ^ 64 = are.1.0.1 in let small : s < 2 ^ 63 = one_below (length xs) s (2 ^ 63) (omega arith) fit.1 in let tiny : s < 2 ^ 64 = omega arith in
    let part : i * s < 2 ^ 63 = times_below i (length xs) s (2 ^ 63) (omega arith) fit.1 in let fm : i * s < 2 ^ 64 = omega arith in
    use1 𝓛 (‵ (spot R here x fractions) ⊛ ‵ (besides 𝓛 R bp op xs ss i)) (spot_out 𝓛 R bp op xs ss i d near (omega arith)) $ split ! $
    -- [the value's spot; the others; the field; the cell; the open borrow; the names; the section; the tokens]
    move ! (8 ∷ []) $ fsplit3 ! $ move ! (3 ∷ 10 ∷ 1 ∷ []) $
    use3 𝓛 (later (‵ (spot R here x fractions') ⊛ ‵ (lent_at R here x κ') ⊛ ‵ (flft μ qμ)))
    (looks_at 𝓛 R here x (lent_at_shr_laws R laws here x) R.lives μ qμ (Lends-lies 𝓛 R R.lives here x (LR.shares 𝓛 x)) le τ r κ' fractions reader free) $
    await ! tt $ split3 ! $
    -- [the spot; the value; T's token; the section's token; the rest; the other spots; the field; the cell; the open borrow; the names]
    move ! (0 ∷ 5 ∷ []) $ use2 𝓛 (‵ (spots R bp op (slice_set xs i x) ss')) (spot_in 𝓛 R bp op xs ss i x fractions' near (omega arith)) $
    rewrite ! 0 (λ (zs : List T.Denot). ‵ (spots R bp op zs ss')) (set-get_or xs i d) refl $
    nothing ! $ fpack ! (IsBlockAt R p xs ss') (λ _. ftrue) (fit.0, fit.1, length-set ss i fractions' ∙ long) $ fjoin ! $
    let f' : Row.Denot = record f { fractions = ss' } in
    -- [what the block owns; the value; the tokens of T and the section; the rest; the field; the cell; the open borrow; the names]
    move ! (5 ∷ []) $ peeks ! D (Is D) (shows 𝓛 D) (p, tt) vs (λ is-so.
    let ev : vs ≡ strip_of (block_ptr bp op) ∷ [] = block_told R p vs is-so ∙ ap (λ (z : Ptr). strip_of z ∷ []) (at_block p fit.0) in
    rewrite ! 6 (λ (ws : List Val). ‵ (cell_at full_share D.mir ws b o)) ev refl $ first ! $ blocks ! $
    sets ! (of_opd ! (load ! (through ! refl (fld ! refl (stop !))) (look_in ! 6 (sub ! 0 refl (whole !))))) refl (tt, tt) $
    rewrite ! 6 (λ (ws : List Val). ‵ (cell_at full_share D.mir ws b o)) (sym ev) refl $
    sets ! (bin ! (get ! refl) (size_lit ! (record { fits = tiny })) (record { fits = fm })) refl (tt, record { fits = fm }) $
    sets ! (bin ! (get ! refl) (get ! refl) tt) refl (tt, tt) $ sets_last ! (addr ! (through ! refl (stop !))) refl (tt, tt) $
    exec ! 𝓣.C 𝓣.Λ Ev (after 1 fn.body) (at_ret Ev Post) $ sets ! (of_opd ! (get ! refl)) refl (tt, tt) $
    fjoin ! $ move ! (5 ∷ 0 ∷ 6 ∷ 7 ∷ 8 ∷ []) $ closes ! tt Row f' vs b o $ feq_i ! (List Val) (vptr b o ∷ []) (vptr b o ∷ []) refl $ fjoin3 ! $
    -- [the block; its token; the value; the tokens of T and the section; the rest]
    move ! (3 ∷ 5 ∷ []) $ join ! $ move ! (4 ∷ 0 ∷ []) $ join ! $ move ! (2 ∷ 0 ∷ []) $ join ! $ move ! (2 ∷ []) $ fsplit ! $ drop ! $ hide ! $
    feq_i ! (List Val) (there ∷ []) (there ∷ []) refl $ fjoin ! $ move ! (2 ∷ []) $
    nothing ! $ nothing ! $ fjoin ! $ nothing ! $ fjoin ! $ nothing ! $ fjoin ! $ move ! (1 ∷ 0 ∷ []) $ fjoin ! $
    let Value : Type 0 = (e : T.Denot) → x ≡ slice_index_or xs i e in
    use0 𝓛 (raw (fact 𝓤 (p ≡ p))) (fact_i 𝓤 (p ≡ p) (emp 𝓤) refl) $
    use0 𝓛 (raw (fact 𝓤 (ss' ≡ ss'))) (fact_i 𝓤 (ss' ≡ ss') (emp 𝓤) refl) $ join ! $ use0 𝓛 (raw (fact 𝓤 (xs ≡ xs))) (fact_i 𝓤 (xs ≡ xs) (emp 𝓤) refl) $
    join ! $
    use0 𝓛 (raw (fact 𝓤 Value)) (fact_i 𝓤 Value (emp 𝓤) (λ e. any-default xs i d e near)) $ join ! $
    returns ! (look_at ! 0 refl) $ free_all ! refl $ keep ! (3 ∷ 1 ∷ 2 ∷ 0 ∷ []) $
    by ! (leaves 𝓛 En hs c y there (record { ref_ptr = (bp, i * s + op); now = x }) (f', (tt, (tt, (tt, tt)))) (tt, (tt, (tt, (tt, tt))))))))))))))
