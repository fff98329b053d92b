-- All lifetimes end by all their tokens, and the values come out.
use Rattle.atomic_table.proofs.Names.{◌≡◌, ℕ, ◌*◌, ◌^◌, ◌<◌, [], ◌∷◌, length, refl, a_type, Val, inst_fn, SProp, emp, Lft, Share, ftrue, flft, ‵, raw, ◌⊛◌, later, await, ◌$◌, ◌∵◌, !, qed, by, move, keep, drop, split, join, fsplit, fjoin, fpick, fpack, use0, use1, stop, fld, of_opd, no_more, and_then, returns, enter, alloc_all, pass_all, free_all, look_at, get, get_in, sets, agg, sub, whole, tables, no, RattleType, owns, types_at, plain, Ptr, nothing, param, layouts, Stays, stay_dropped, walk_of, Goes-dropped, fact, fact_i, heard, block_of, count_of, InBlock, mem}
use types.SemTy.{cells}
use Rattle.std.specs.Prelude.{slice_index_or}
use Rattle.atomic_table.proofs.Walks.{proved, leaves}
use Rattle.sdd_values.specs.Block.{AreUnlent, IsUnlent}
use Rattle.sdd_values.proofs.Fields.{strip_of, strip_good, Ptr-Good, StripData, strip_made, block_told}
use Rattle.sdd_values.proofs.Lifetimes.{all_home}
use Rattle.sdd_values.proofs.BlockValues.{of_rows, comes_out}
use Rattle.sdd_values.specs.contracts.raw_slice.RawSlice as strips
use Rattle.sdd_values.specs.contracts.block.Block as block
use Rattle.sdd_values.specs.contracts.block.Block.into_strip.{ended, clauses}
use Rattle.sdd_values.specs.contracts.block.Block.into_strip.Key.{name as #self}
use Rattle.sdd_values.proofs.block.Block.into_strip.Statement.{statement}
use Rattle.sdd_values.proofs.block.Block.into_strip.Code as code

pub into_strip_spec : {M : Type 1} → statement M
into_strip_spec 𝓤 𝓛 𝓜 𝓡 wired T L =
    let H = 𝓛.H in let 𝓣 = tables 𝓤 H 𝓜 𝓡 𝓡.env in let R : RattleType = param 0 T in let En = ended T in let inst = layouts (a_type ∷ []) (T, tt) in
    let fn = inst_fn inst code.function in let c = clauses T 𝓛 𝓜.mem 𝓡.returns in let Ss : RattleType = strips.the_row R in
    let Row : RattleType = block.the_row R in
    let self = plain (λ _. Row) in let hs : Stays En.signature.params En.kept = (stay_dropped self no, tt) in
    proved 𝓛 En hs c 𝓜 𝓡 (Goes-dropped 𝓛 1 self no (λ κs x f. refl), tt) (#self inst) fn (code.unfolded 𝓤 H 𝓜 𝓡 wired (T, tt))
    (λ κs. ((λ x. strip_of x.ptr ∷ []), tt)) (λ κs. ((λ x vs so. block_told R x.ptr vs so.0), tt)) (λ κs qs bounds a gh are.
    let κ : Lft = κs.0 in let q : Share = qs.0 in let p : Ptr = a.0.ptr in let xs = a.0.values in let ss = a.0.fractions in let bp : ℕ = block_of p in
    let op : ℕ = count_of p in
    let Asked : Type 0 = (at : ℕ) → IsUnlent ss at in
    let y : (walk_of 𝓛 En hs c).Ghost = ((κs, qs, bounds, a, (strip_of p ∷ [], tt)), gh) in let Post : Val → SProp 𝓤 = (walk_of 𝓛 En hs c).post y in
    let new : Ss.Denot = record { ptr = p; items = xs } in
    qed 𝓛 (((‵ (flft κ q) ⊛ ‵ ftrue) ⊛ ‵ (owns (types_at En.signature.params κs) a y.0.4)) ∷ raw (fact 𝓤 _) ∷ raw (fact 𝓤 Asked) ∷ []) ∵
    keep ! (2 ∷ 0 ∷ []) $ heard ! Asked (λ asked. split ! $ split ! $ move ! (2 ∷ []) $ fsplit ! $ fsplit ! $ keep ! (1 ∷ 3 ∷ []) $
    fsplit ! $ fpick ! (λ fit. drop ! $
    enter ! 𝓣.C 𝓣.Λ fn (strip_of p ∷ []) Post $ alloc_all ! (λ l. pass_all ! refl (strip_good p fit.0, tt) $
    use1 𝓛 (later (‵ (cells (mem R) xs bp op))) (comes_out 𝓛 R bp op xs ss fit.2 (of_rows AreUnlent ss (λ i. all_home (slice_index_or ss i []) (asked i)))) $
    await ! tt $
    nothing ! $ fpack ! (InBlock p × (length xs * (mem R).size < 2 ^ 63)) (λ _. ftrue) (fit.0, fit.1) $ fjoin ! $
    use0 𝓛 (‵ ((StripData R).own_val (p, tt) (strip_of p ∷ []))) (strip_made R 𝓛 p) $ fjoin ! $
    sets ! (of_opd ! (get_in ! (fld ! refl (stop !)) (sub ! 0 refl (whole !)))) refl (Ptr-Good p fit.0) $
    sets ! (agg ! (and_then ! (get ! refl) (no_more !))) refl (strip_good p fit.0) $
    nothing ! $ move ! (2 ∷ 0 ∷ []) $ join ! $ nothing ! $ nothing ! $ fjoin ! $
    use0 𝓛 (raw (fact 𝓤 (xs ≡ xs))) (fact_i 𝓤 (xs ≡ xs) (emp 𝓤) refl) $ use0 𝓛 (raw (fact 𝓤 (p ≡ p))) (fact_i 𝓤 (p ≡ p) (emp 𝓤) refl) $ join ! $
    returns ! (look_at ! 0 refl) $ free_all ! refl $ keep ! (2 ∷ 1 ∷ 3 ∷ 0 ∷ []) $ by ! (leaves 𝓛 En hs c y (strip_of p) new (tt, tt) (tt, tt))))))
