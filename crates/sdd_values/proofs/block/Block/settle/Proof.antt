-- What was lent to a section comes back once it has ended, for all values at once.
use Rattle.atomic_table.proofs.Names.{◌≡◌, ℕ, [], ◌∷◌, List, refl, ◌∙◌, a_type, named, Val, vptr, vint, vunit, inst_fn, SProp, emp, Lft, Fml, ftrue, fsep, flft, ‵, raw, ◌⊛◌, later, await, ◌$◌, ◌∵◌, !, qed, by, move, keep, drop, split, join, fsplit, fsplit3, fjoin, fjoin3, fpick, fpack, use0, use1, use2, feq_i, of_opd, unit_lit, returns, enter, alloc_all, pass_all, free_all, look_at, sets, tables, yes, RattleType, owns, types_at, plain, Ptr, nothing, heard, param, layouts, Stays, stay_dropped, stay_ref, walk_of, Goes-dropped, Goes-ref, fact, fact_i, block_of, count_of, RefOf, mut_vals, mut_Tells, shr_vals, shr_Tells, opens, closes, unhide, hidden_shr, lent_out, w64, usize, uint_vals, uint_Tells, u64}
use base.Fml.{fhide}
use lib.ListN.{length-map}
use Rattle.core.specs.contracts.marker.PhantomData as marker
use Rattle.atomic_table.proofs.Walks.{proved, leaves}
use Rattle.std.specs.Prelude.{None, slice_index_or, slice_set}
use Rattle.sdd_values.specs.ReadSection.{ended_shares}
use Rattle.sdd_values.specs.Block.{IsBlockAt, IsFreeFor, fraction_at, settled, spots}
use Rattle.sdd_values.proofs.Fields.{Sign}
use Rattle.sdd_values.proofs.BlockValues.{of_rows, settles_all}
use Rattle.sdd_values.specs.contracts.block.Block as block
use Rattle.sdd_values.specs.contracts.ended_section.EndedSection as over
use Rattle.sdd_values.specs.contracts.block.Block.settle.{ended, clauses}
use Rattle.sdd_values.specs.contracts.block.Block.settle.Key.{name as #self}
use Rattle.sdd_values.proofs.block.Block.settle.Statement.{statement}
use Rattle.sdd_values.proofs.block.Block.settle.Code as code

pub settle_spec : {M : Type 1} → statement M
settle_spec 𝓤 𝓛 𝓜 𝓡 wired T L =
    let H = 𝓛.H in let 𝓣 = tables 𝓤 H 𝓜 𝓡 𝓡.env in let R : RattleType = param 0 T in let En = ended T in let inst = layouts (a_type ∷ []) (T, tt) in
    let fn = inst_fn inst code.function in let Row : RattleType = block.the_row R in let Er : RattleType = over.the_row in
    let c = clauses T 𝓛 𝓜.mem 𝓡.returns in
    let self = plain (λ _. Row) in let num = plain (λ _. usize) in let arg = RefOf (1 ∷ []) tt (plain (λ _. Er)) (λ _. tt) in
    let hs : Stays En.signature.params En.kept = (stay_ref (0 ∷ []) tt self, (stay_dropped num yes, (stay_dropped arg yes, tt))) in
    proved 𝓛 En hs c 𝓜 𝓡 (Goes-ref 𝓛 3 0 tt self, (Goes-dropped 𝓛 3 num yes (λ κs x f. refl), (Goes-dropped 𝓛 3 arg yes (λ κs x f. refl), tt)))
    (#self inst) fn (code.unfolded 𝓤 H 𝓜 𝓡 wired (T, tt))
    (λ κs. (mut_vals, (uint_vals w64, (shr_vals, tt)))) (λ κs. (mut_Tells (named 0) κs.0 Row, (uint_Tells w64, (shr_Tells (named 1) κs.1.0 Er, tt))))
    (λ κs qs bounds a gh are.
    let b : ℕ = a.0.ref_ptr.0 in let o : ℕ = a.0.ref_ptr.1 in let b' : ℕ = a.1.1.0.ref_ptr.0 in let o' : ℕ = a.1.1.0.ref_ptr.1 in
    let κ : Lft = κs.0 in let κ' : Lft = κs.1.0 in let f : Row.Denot = a.0.now in let r : ℕ = a.1.0 in let e : Er.Denot = a.1.1.0.now in let t : ℕ = e.name in
    let p : Ptr = f.ptr in let bp : ℕ = block_of p in let op : ℕ = count_of p in let xs = f.values in let ss = f.fractions in
    let ss' = settled r ss in let f' : Row.Denot = record f { fractions = ss' } in
    let others : Fml = fsep (flft κ' qs.1.0) (fsep (flft κs.1.1.0 qs.1.1.0) ftrue) in
    let Asked : Type 0 = (at : ℕ) → IsFreeFor t (fraction_at ss at r) in
    let y : (walk_of 𝓛 En hs c).Ghost = ((κs, qs, bounds, a, (vptr b o ∷ [], (vint w64 r ∷ [], (vptr b' o' ∷ [], tt)))), gh) in
    let Post : Val → SProp 𝓤 = (walk_of 𝓛 En hs c).post y in
    qed 𝓛 (((‵ (flft κ qs.0) ⊛ ‵ others) ⊛ ‵ (owns (types_at En.signature.params κs) a y.0.4)) ∷ raw (fact 𝓤 _) ∷ raw (fact 𝓤 Asked) ∷ []) ∵
    keep ! (2 ∷ 0 ∷ []) $ heard ! Asked (λ asked. split ! $ split ! $ move ! (2 ∷ []) $ fsplit ! $ move ! (1 ∷ []) $ fsplit ! $ drop ! $ fsplit ! $ fsplit ! $
    drop ! $
    use1 𝓛 (‵ (hidden_shr Sign κ' (tt, tt) b' o') ⊛ ‵ (fhide (ended_shares t κ')))
    (lent_out 𝓛 over.struct (over.the_codes (marker.the_row u64).coded) over.the_heap over.the_lent κ' e b' o') $ split ! $ drop ! $
    -- [the end; _; the block; its token; the others]
    move ! (2 ∷ []) $ fsplit3 ! $ keep ! (1 ∷ 2 ∷ 5 ∷ 3 ∷ 6 ∷ []) $
    enter ! 𝓣.C 𝓣.Λ fn (vptr b o ∷ vint w64 r ∷ vptr b' o' ∷ []) Post $
    alloc_all ! (λ l. pass_all ! refl ((tt, tt), ((tt, record { fits = are.1.0.1 }), ((tt, tt), tt))) $
    move ! (3 ∷ []) $ unhide ! $ move ! (1 ∷ 2 ∷ 3 ∷ []) $
    opens ! tt Row b o (λ vs. move ! (1 ∷ []) $ fsplit ! $ move ! (1 ∷ []) $ fsplit ! $ fpick ! (λ fit. drop ! $
    -- [the spots; the field; the cell; the open borrow; the names; the end; the others]
    move ! (0 ∷ 6 ∷ []) $ use2 𝓛 (later (‵ (spots R bp op xs ss'))) (settles_all 𝓛 R bp t r op xs ss (of_rows
    (λ row. IsFreeFor t (slice_index_or row r None)) ss asked)) $ await ! tt $
    nothing ! $ fpack ! (IsBlockAt R p xs ss') (λ _. ftrue) (fit.0, fit.1, length-map ss (λ fractions. slice_set fractions r None) ∙ fit.2) $ fjoin ! $
    move ! (1 ∷ 0 ∷ []) $ fjoin ! $ move ! (1 ∷ 0 ∷ []) $ closes ! tt Row f' vs b o $ feq_i ! (List Val) (vptr b o ∷ []) (vptr b o ∷ []) refl $ fjoin3 ! $
    nothing ! $ nothing ! $ fjoin ! $ nothing ! $ fjoin ! $ move ! (1 ∷ 0 ∷ []) $ fjoin ! $ move ! (1 ∷ 2 ∷ []) $ join ! $
    sets ! (of_opd ! (unit_lit !)) refl (tt, tt) $ use0 𝓛 (raw (fact 𝓤 (p ≡ p))) (fact_i 𝓤 (p ≡ p) (emp 𝓤) refl) $
    use0 𝓛 (raw (fact 𝓤 (ss' ≡ ss'))) (fact_i 𝓤 (ss' ≡ ss') (emp 𝓤) refl) $ join ! $
    use0 𝓛 (raw (fact 𝓤 (xs ≡ xs))) (fact_i 𝓤 (xs ≡ xs) (emp 𝓤) refl) $ join ! $ feq_i ! (List Val) (vunit ∷ []) (vunit ∷ []) refl $
    returns ! (look_at ! 0 refl) $ free_all ! refl $ keep ! (2 ∷ 3 ∷ 0 ∷ 1 ∷ []) $
    by ! (leaves 𝓛 En hs c y vunit tt (f', (tt, (tt, tt))) (tt, (tt, (tt, tt)))))))))
