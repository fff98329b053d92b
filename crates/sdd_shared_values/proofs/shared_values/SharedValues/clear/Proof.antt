-- `clear` makes one room of the vacant places.
use Rattle.atomic_table.proofs.Names.{◌≡◌, ℕ, [], ◌∷◌, refl, sym, ap, a_type, Val, inst_fn, SProp, emp, ftrue, ‵, raw, ◌⊛◌, later, ◌$◌, ◌∵◌, !, qed, by, move, keep, drop, split, join, fsplit, fjoin, fpick, fpack, use0, use1, use2, await, stop, fld, of_opd, no_more, and_then, returns, enter, alloc_all, pass_all, free_all, look_at, get, get_in, sets, is, agg, sub, whole, tables, yes, no, RattleType, owns, types_at, plain, Ptr, block_ptr, ptr_val, block_of, count_of, at_block, nothing, heard, param, bounded, dcons, dnil, alive, Stays, stay_dropped, walk_of, Goes-dropped, fact, fact_i}
use base.Fml.{froom}
use mir.Syntax.{ty_array}
use Rattle.core.proofs.mem.Param.{El, elτ}
use Rattle.core.proofs.slots.Leases.{block_ty}
use Rattle.atomic_table.proofs.Walks.{proved, leaves}
use Rattle.sdd_shared_values.specs.SharedValues.{Spans, AreVacant}
use Rattle.sdd_shared_values.proofs.Fields.{strip_of, token_val, values_of, values_good, values_told, fraction_list_told, ClearingData, clearing_made}
use Rattle.sdd_shared_values.proofs.VacantPlaces.{clears}
use Rattle.sdd_shared_values.specs.contracts.unused_memory.UnusedMemory as clearing
use Rattle.sdd_shared_values.specs.contracts.fraction_list.FractionList as fraction_list
use Rattle.sdd_shared_values.specs.contracts.shared_values.SharedValues as values
use Rattle.sdd_shared_values.specs.contracts.shared_values.SharedValues.clear.{ended, clauses}
use Rattle.sdd_shared_values.specs.contracts.shared_values.SharedValues.clear.Key.{name as #self}
use Rattle.sdd_shared_values.proofs.shared_values.SharedValues.clear.Statement.{statement}
use Rattle.sdd_shared_values.proofs.shared_values.SharedValues.clear.Code as code

pub clear_spec : {M : Type 1} → statement M
clear_spec 𝓤 𝓛 𝓜 𝓡 wired T F L _ gF dF _ =
    let H = 𝓛.H in let 𝓣 = tables 𝓤 H 𝓜 𝓡 𝓡.env in let E : El = record { row = T; laws = L } in let R : RattleType = param 0 T in
    let B : RattleType = param 1 F in let En = ended T F gF dF in let c = clauses T F gF dF 𝓛 𝓜.mem 𝓡.returns in
    let inst = bounded (a_type ∷ a_type ∷ []) (T, (F, tt)) (dcons dF dnil) in let fn = inst_fn inst code.function in
    let Row : RattleType = values.the_row R B gF in let Sr : RattleType = fraction_list.the_row in let Cr : RattleType = clearing.the_row R in
    let self = plain (λ _. Row) in let arg = plain (λ _. Sr) in
    let hs : Stays En.signature.params En.kept = (stay_dropped self no, (stay_dropped arg yes, tt)) in
    proved 𝓛 En hs c 𝓜 𝓡 (Goes-dropped 𝓛 2 self no (λ κs x f. refl), (Goes-dropped 𝓛 2 arg yes (λ κs x f. refl), tt)) (#self inst) fn
    (code.unfolded 𝓤 H 𝓜 𝓡 wired (T, (F, tt)) dF)
    (λ κs. ((λ x. values_of x.ptr ∷ []), ((λ _. token_val ∷ []), tt)))
    (λ κs. ((λ x vs so. values_told R B gF x.ptr vs so.0), ((λ x vs so. fraction_list_told vs so.0), tt))) (λ κs qs bounds a gh are.
    let h : Row.Denot = a.0 in let w : Sr.Denot = a.1.0 in let p : Ptr = h.ptr in let n : ℕ = h.size in let b : ℕ = block_of p in
    let o : ℕ = count_of p in let q : Ptr = block_ptr b o in let new : Cr.Denot = record { ptr = q; size = n } in
    let Vacant : Type 0 = AreVacant h.gamma 0 n w.contents in
    let y : (walk_of 𝓛 En hs c).Ghost = ((κs, qs, bounds, a, (values_of p ∷ [], (token_val ∷ [], tt))), gh) in
    let Post : Val → SProp 𝓤 = (walk_of 𝓛 En hs c).post y in
    qed 𝓛 ((raw (alive 𝓛 En.signature κs qs) ⊛ ‵ (owns (types_at En.signature.params κs) a y.0.4)) ∷ raw (fact 𝓤 _) ∷ raw (fact 𝓤 _) ∷
    raw (fact 𝓤 Vacant) ∷ []) ∵
    keep ! (3 ∷ 0 ∷ []) $ heard ! Vacant (λ vacant. split ! $ move ! (1 ∷ []) $ fsplit ! $ fsplit ! $ drop ! $ fsplit ! $ fpick ! (λ fit. drop ! $
    let at : p ≡ q = at_block p fit.0 in
    -- [the rules; the list of fractions and the rest; the tokens]
    move ! (1 ∷ []) $ fsplit ! $ fsplit ! $ drop ! $ keep ! (2 ∷ 0 ∷ 3 ∷ []) $
    enter ! 𝓣.C 𝓣.Λ fn (values_of p ∷ token_val ∷ []) Post $ alloc_all ! (λ l. pass_all ! refl (values_good p fit.0, ((tt, (tt, tt)), tt)) $
    use2 𝓛 (later (‵ (froom (ty_array (elτ E) n) b o))) (clears E 𝓛 h.gamma b (gF.fits h.table h.gamma n) n 0 o w.contents vacant) $ await ! tt $
    use1 𝓛 (‵ (froom (block_ty E n) b o)) (𝓛.laws.room-raw (ty_array (elτ E) n) b o) $
    nothing ! $ fpack ! (Spans R q n) (λ _. ftrue) (tt, fit.1) $ fjoin ! $
    use0 𝓛 (‵ ((ClearingData R).own_val (q, tt) (strip_of q ∷ []))) (clearing_made R 𝓛 q) $ fjoin ! $
    sets ! (is ! (of_opd ! (get_in ! (fld ! refl (stop !)) (sub ! 0 refl (whole !)))) (ap ptr_val at)) refl (tt, tt) $
    sets ! (agg ! (and_then ! (get ! refl) (no_more !))) refl (tt, (tt, tt)) $
    let Place : Type 0 = q ≡ p in let Size : Type 0 = n ≡ n in
    use0 𝓛 (raw (fact 𝓤 Size)) (fact_i 𝓤 Size (emp 𝓤) refl) $ use0 𝓛 (raw (fact 𝓤 Place)) (fact_i 𝓤 Place (emp 𝓤) (sym at)) $ join ! $
    nothing ! $ nothing ! $ fjoin ! $ nothing ! $ fjoin ! $ returns ! (look_at ! 0 refl) $ free_all ! refl $ keep ! (3 ∷ 0 ∷ 2 ∷ 1 ∷ []) $
    by ! (leaves 𝓛 En hs c y (strip_of q) new (tt, (tt, tt)) (tt, (tt, tt)))))))
