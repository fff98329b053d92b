-- `clear` makes one room of the places.
use Rattle.atomic_table.proofs.Names.{◌≡◌, ℕ, [], ◌∷◌, refl, sym, ap, a_type, Val, inst_fn, SProp, emp, ftrue, ‵, raw, ◌⊛◌, ◌$◌, ◌∵◌, !, qed, by, move, keep, drop, split, join, fsplit, fjoin, fpick, fpack, use0, use1, stop, fld, of_opd, no_more, and_then, returns, enter, alloc_all, pass_all, free_all, look_at, get, get_in, sets, is, agg, sub, whole, tables, no, RattleType, owns, types_at, plain, Ptr, block_ptr, ptr_val, block_of, count_of, at_block, nothing, param, layouts, alive, Stays, stay_dropped, walk_of, Goes-dropped, fact, fact_i}
use base.Fml.{froom}
use mir.Syntax.{ty_array}
use Rattle.core.proofs.mem.Param.{El, elτ}
use Rattle.core.proofs.slots.Leases.{block_ty}
use Rattle.atomic_table.proofs.Walks.{proved, leaves}
use Rattle.sdd_shared_values.specs.SharedValues.{Spans}
use Rattle.sdd_shared_values.proofs.Fields.{strip_of, strip_good, plot_told, ClearingData, clearing_made}
use Rattle.sdd_shared_values.proofs.VacantPlaces.{uproots}
use Rattle.sdd_shared_values.specs.contracts.unused_memory.UnusedMemory as clearing
use Rattle.sdd_shared_values.specs.contracts.vacant_values.VacantValues as plot
use Rattle.sdd_shared_values.specs.contracts.vacant_values.VacantValues.clear.{ended, clauses}
use Rattle.sdd_shared_values.specs.contracts.vacant_values.VacantValues.clear.Key.{name as #self}
use Rattle.sdd_shared_values.proofs.vacant_values.VacantValues.clear.Statement.{statement}
use Rattle.sdd_shared_values.proofs.vacant_values.VacantValues.clear.Code as code

pub clear_spec : {M : Type 1} → statement M
clear_spec 𝓤 𝓛 𝓜 𝓡 wired T L =
    let H = 𝓛.H in let 𝓣 = tables 𝓤 H 𝓜 𝓡 𝓡.env in let E : El = record { row = T; laws = L } in let R : RattleType = param 0 T in let En = ended T in
    let c = clauses T 𝓛 𝓜.mem 𝓡.returns in let inst = layouts (a_type ∷ []) (T, tt) in let fn = inst_fn inst code.function in
    let Row : RattleType = plot.the_row R in let Cr : RattleType = clearing.the_row R in
    let self = plain (λ _. Row) in let hs : Stays En.signature.params En.kept = (stay_dropped self no, tt) in
    proved 𝓛 En hs c 𝓜 𝓡 (Goes-dropped 𝓛 1 self no (λ κs x f. refl), tt) (#self inst) fn (code.unfolded 𝓤 H 𝓜 𝓡 wired (T, tt))
    (λ κs. ((λ x. strip_of x.ptr ∷ []), tt)) (λ κs. ((λ x vs so. plot_told R x.ptr vs so.0), tt)) (λ κs qs bounds a gh are.
    let h : Row.Denot = a.0 in let p : Ptr = h.ptr in let n : ℕ = h.size in let b : ℕ = block_of p in let o : ℕ = count_of p in
    let q : Ptr = block_ptr b o in let new : Cr.Denot = record { ptr = q; size = n } in
    let y : (walk_of 𝓛 En hs c).Ghost = ((κs, qs, bounds, a, (strip_of p ∷ [], tt)), gh) in let Post : Val → SProp 𝓤 = (walk_of 𝓛 En hs c).post y in
    qed 𝓛 ((raw (alive 𝓛 En.signature κs qs) ⊛ ‵ (owns (types_at En.signature.params κs) a y.0.4)) ∷ raw ((c κs a).requires gh) ∷ []) ∵
    keep ! (0 ∷ []) $ split ! $ move ! (1 ∷ []) $ fsplit ! $ fsplit ! $ drop ! $ fsplit ! $ fpick ! (λ fit. drop ! $ let at : p ≡ q = at_block p fit.0 in
    -- [the places; _; the tokens]
    use1 𝓛 (‵ (froom (ty_array (elτ E) n) b o)) (uproots E 𝓛 h.gamma b n 0 o) $
    use1 𝓛 (‵ (froom (block_ty E n) b o)) (𝓛.laws.room-raw (ty_array (elτ E) n) b o) $
    nothing ! $ fpack ! (Spans R q n) (λ _. ftrue) (tt, fit.1) $ fjoin ! $
    use0 𝓛 (‵ ((ClearingData R).own_val (q, tt) (strip_of q ∷ []))) (clearing_made R 𝓛 q) $ fjoin ! $
    enter ! 𝓣.C 𝓣.Λ fn (strip_of p ∷ []) Post $ alloc_all ! (λ l. pass_all ! refl (strip_good p fit.0, tt) $
    sets ! (is ! (of_opd ! (get_in ! (fld ! refl (stop !)) (sub ! 0 refl (whole !)))) (ap ptr_val at)) refl (tt, tt) $
    sets ! (agg ! (and_then ! (get ! refl) (no_more !))) refl (tt, (tt, tt)) $
    let Place : Type 0 = q ≡ p in let Size : Type 0 = n ≡ n in
    use0 𝓛 (raw (fact 𝓤 Size)) (fact_i 𝓤 Size (emp 𝓤) refl) $ use0 𝓛 (raw (fact 𝓤 Place)) (fact_i 𝓤 Place (emp 𝓤) (sym at)) $ join ! $
    nothing ! $ nothing ! $ fjoin ! $ returns ! (look_at ! 0 refl) $ free_all ! refl $ keep ! (4 ∷ 0 ∷ 2 ∷ 1 ∷ []) $
    by ! (leaves 𝓛 En hs c y (strip_of q) new (tt, tt) (tt, tt)))))
