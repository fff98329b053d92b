-- The values of a strip lie plain, and all fractions are home.
use Rattle.atomic_table.proofs.Names.{◌≡◌, ℕ, ◌*◌, ◌^◌, ◌<◌, List, [], ◌∷◌, length, refl, arith, a_type, Val, vint, inst_fn, SProp, emp, Lft, Share, ftrue, flft, ‵, raw, ◌⊛◌, given, ◌$◌, ◌∵◌, !, qed, by, move, keep, drop, split, join, fsplit, fjoin, fpack, learn, use0, use1, stop, fld, of_opd, no_more, and_then, returns, enter, alloc_all, pass_all, free_all, look_at, get, get_in, sets, agg, sub, whole, tables, yes, no, RattleType, owns, types_at, plain, Ptr, nothing, param, layouts, Stays, stay_dropped, walk_of, Goes-dropped, fact, fact_i, block_of, count_of, uint_vals, uint_Tells, InBlock, mem, replicate, length-replicate}
use mir.Syntax.{w32}
use denote.Builtin.{u32}
use Rattle.std.specs.Prelude.{None}
use Rattle.atomic_table.proofs.Walks.{proved, leaves}
use Rattle.atomic_table.specs.Seated.{strip}
use Rattle.atomic_table.proofs.Dealing.{strip_lies}
use Rattle.sdd_values.specs.Block.{IsBlockAt, spots}
use Rattle.sdd_values.proofs.Fields.{strip_of, strip_good, Ptr-Good, strip_told, BlockData, block_made}
use Rattle.sdd_values.proofs.BlockValues.{lays_out}
use Rattle.sdd_values.specs.contracts.raw_slice.RawSlice as strips
use Rattle.sdd_values.specs.contracts.block.Block as block
use Rattle.sdd_values.specs.contracts.block.Block.of.{ended, clauses}
use Rattle.sdd_values.specs.contracts.block.Block.of.Key.{name as #self}
use Rattle.sdd_values.proofs.block.Block.of.Statement.{statement}
use Rattle.sdd_values.proofs.block.Block.of.Code as code

pub of_spec : {M : Type 1} → statement M
of_spec 𝓤 𝓛 𝓜 𝓡 wired T L =
    let H = 𝓛.H in let 𝓣 = tables 𝓤 H 𝓜 𝓡 𝓡.env in let R : RattleType = param 0 T in let En = ended T in let inst = layouts (a_type ∷ []) (T, tt) in
    let fn = inst_fn inst code.function in let c = clauses T 𝓛 𝓜.mem 𝓡.returns in let Ss : RattleType = strips.the_row R in
    let Row : RattleType = block.the_row R in
    let strip_in = plain (λ _. Ss) in let num = plain (λ _. u32) in
    let hs : Stays En.signature.params En.kept = (stay_dropped strip_in no, (stay_dropped num yes, tt)) in
    proved 𝓛 En hs c 𝓜 𝓡 (Goes-dropped 𝓛 1 strip_in no (λ κs x f. refl), (Goes-dropped 𝓛 1 num yes (λ κs x f. refl), tt)) (#self inst) fn
    (code.unfolded 𝓤 H 𝓜 𝓡 wired (T, tt))
    (λ κs. ((λ x. strip_of x.ptr ∷ []), (uint_vals w32, tt))) (λ κs. ((λ x vs so. strip_told R x.ptr vs so.0), (uint_Tells w32, tt))) (λ κs qs bounds a gh are.
    let κ : Lft = κs.0 in let q : Share = qs.0 in let p : Ptr = a.0.ptr in let xs : List T.Denot = a.0.items in let k : ℕ = a.1.0 in
    let bp : ℕ = block_of p in let op : ℕ = count_of p in let ss = replicate (length xs) (replicate k None) in
    let y : (walk_of 𝓛 En hs c).Ghost = ((κs, qs, bounds, a, (strip_of p ∷ [], (vint w32 k ∷ [], tt))), gh) in
    let Post : Val → SProp 𝓤 = (walk_of 𝓛 En hs c).post y in
    let new : Row.Denot = record { ptr = p; values = xs; fractions = ss } in
    qed 𝓛 (((‵ (flft κ q) ⊛ ‵ ftrue) ⊛ ‵ (owns (types_at En.signature.params κs) a y.0.4)) ∷ raw ((c κs a).requires gh) ∷ []) ∵
    keep ! (0 ∷ []) $ split ! $ split ! $ move ! (2 ∷ []) $ fsplit ! $ fsplit ! $ keep ! (1 ∷ 3 ∷ []) $
    use1 𝓛 (given (InBlock p × (length xs * (mem R).size < 2 ^ 63)) (‵ (strip R p xs))) (strip_lies 𝓛 R p xs) $ learn ! (λ fp. fsplit ! $ drop ! $
    let fk : k < 2 ^ 32 = are.1.0.1 in use1 𝓛 (‵ (spots R bp op xs ss)) (lays_out 𝓛 R bp k op xs (omega arith)) $
    nothing ! $ fpack ! (IsBlockAt R p xs ss) (λ _. ftrue) (fp.0, fp.1, length-replicate (length xs) (replicate k None)) $ fjoin ! $
    use0 𝓛 (‵ ((BlockData R).own_val (p, tt) (strip_of p ∷ []))) (block_made R 𝓛 p) $ fjoin ! $
    enter ! 𝓣.C 𝓣.Λ fn (strip_of p ∷ vint w32 k ∷ []) Post $ alloc_all ! (λ l. pass_all ! refl (strip_good p fp.0, ((tt, record { fits = fk }), tt)) $
    sets ! (of_opd ! (get_in ! (fld ! refl (stop !)) (sub ! 0 refl (whole !)))) refl (Ptr-Good p fp.0) $
    sets ! (agg ! (and_then ! (get ! refl) (no_more !))) refl (strip_good p fp.0) $
    -- [the block; the token]
    nothing ! $ move ! (2 ∷ 0 ∷ []) $ join ! $ nothing ! $ nothing ! $ fjoin ! $ nothing ! $ fjoin ! $
    use0 𝓛 (raw (fact 𝓤 (ss ≡ ss))) (fact_i 𝓤 (ss ≡ ss) (emp 𝓤) refl) $ use0 𝓛 (raw (fact 𝓤 (xs ≡ xs))) (fact_i 𝓤 (xs ≡ xs) (emp 𝓤) refl) $ join ! $
    use0 𝓛 (raw (fact 𝓤 (p ≡ p))) (fact_i 𝓤 (p ≡ p) (emp 𝓤) refl) $ join ! $
    returns ! (look_at ! 0 refl) $ free_all ! refl $ keep ! (2 ∷ 1 ∷ 3 ∷ 0 ∷ []) $ by ! (leaves 𝓛 En hs c y (strip_of p) new (tt, (tt, tt)) (tt, (tt, tt))))))
