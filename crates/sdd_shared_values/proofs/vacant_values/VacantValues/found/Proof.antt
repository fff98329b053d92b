-- `found` puts each place under its rule.
use Rattle.atomic_table.proofs.Names.{◌≡◌, ℕ, [], ◌∷◌, refl, sym, ap, a_type, named, Val, vptr, inst_fn, SProp, emp, ftrue, ‵, raw, ◌⊛◌, later, ◌$◌, ◌∵◌, !, qed, by, move, keep, drop, split, join, fsplit, fjoin, fpick, fpack, use0, use1, await, stop, fld, of_opd, no_more, and_then, returns, enter, alloc_all, pass_all, free_all, look_at, get, get_in, sets, is, agg, sub, whole, tables, yes, no, RattleType, owns, types_at, plain, Ptr, block_ptr, ptr_val, block_of, count_of, at_block, nothing, param, bounded, dcons, dnil, alive, RefOf, shr_vals, shr_Tells, Stays, stay_dropped, walk_of, Goes-dropped, fact, fact_i}
use Rattle.core.proofs.mem.Param.{El}
use Rattle.atomic_table.proofs.Walks.{proved, leaves}
use Rattle.atomic_table.specs.contracts.shared.Shared as table
use Rattle.sdd_shared_values.specs.Memory.{IsOn}
use Rattle.sdd_shared_values.specs.SharedValues.{Spans, rules}
use Rattle.sdd_shared_values.proofs.Fields.{strip_of, strip_good, plot_told, values_of, ValuesData, values_made}
use Rattle.sdd_shared_values.proofs.VacantPlaces.{founds}
use Rattle.sdd_shared_values.specs.contracts.value_fraction.ValueFraction as fraction
use Rattle.sdd_shared_values.specs.contracts.vacant_values.VacantValues as plot
use Rattle.sdd_shared_values.specs.contracts.shared_values.SharedValues as values
use Rattle.sdd_shared_values.specs.contracts.vacant_values.VacantValues.found.{ended, clauses}
use Rattle.sdd_shared_values.specs.contracts.vacant_values.VacantValues.found.Key.{name as #self}
use Rattle.sdd_shared_values.proofs.vacant_values.VacantValues.found.Statement.{statement}
use Rattle.sdd_shared_values.proofs.vacant_values.VacantValues.found.Code as code

pub found_spec : {M : Type 1} → statement M
found_spec 𝓤 𝓛 𝓜 𝓡 wired T F V K P L _ _ _ _ gF dF g d _ _ =
    let H = 𝓛.H in let 𝓣 = tables 𝓤 H 𝓜 𝓡 𝓡.env in let E : El = record { row = T; laws = L } in let R : RattleType = param 0 T in
    let B : RattleType = param 1 F in let W : RattleType = param 2 V in let X : RattleType = param 3 K in let Y : RattleType = param 4 P in
    let S : RattleType = fraction.the_row in let En = ended T F V K P gF dF g d in let c = clauses T F V K P gF dF g d 𝓛 𝓜.mem 𝓡.returns in
    let inst = bounded (a_type ∷ a_type ∷ a_type ∷ a_type ∷ a_type ∷ []) (T, (F, (V, (K, (P, tt))))) (dcons dF (dcons d dnil)) in
    let fn = inst_fn inst code.function in
    let Row : RattleType = plot.the_row R in let Tr : RattleType = table.the_row S W X Y g in let Fr : RattleType = values.the_row R B gF in
    let self = plain (λ _. Row) in let about = RefOf (0 ∷ []) tt (plain (λ _. Tr)) (λ _. tt) in
    let hs : Stays En.signature.params En.kept = (stay_dropped self no, (stay_dropped about yes, tt)) in
    proved 𝓛 En hs c 𝓜 𝓡 (Goes-dropped 𝓛 6 self no (λ κs x f. refl), (Goes-dropped 𝓛 6 about yes (λ κs x f. refl), tt)) (#self inst) fn
    (code.unfolded 𝓤 H 𝓜 𝓡 wired (T, (F, (V, (K, (P, tt))))) dF d)
    (λ κs. ((λ x. strip_of x.ptr ∷ []), (shr_vals, tt)))
    (λ κs. ((λ x vs so. plot_told R x.ptr vs so.0), (shr_Tells (named 0) κs.0 Tr, tt))) (λ κs qs bounds a gh are.
    let h : Row.Denot = a.0 in let t : Tr.Denot = a.1.0.now in let p : Ptr = h.ptr in let γ : ℕ = h.gamma in let n : ℕ = h.size in
    let b : ℕ = block_of p in let o : ℕ = count_of p in let q : Ptr = block_ptr b o in let at₀ : Val = vptr a.1.0.ref_ptr.0 a.1.0.ref_ptr.1 in
    let Fit : T.Denot → Type 0 = gF.fits t.table_id γ n in
    let new : Fr.Denot = record { ptr = q; of = record {}; gamma = γ; size = n; table = t.table_id } in
    let y : (walk_of 𝓛 En hs c).Ghost = ((κs, qs, bounds, a, (strip_of p ∷ [], (at₀ ∷ [], tt))), gh) in
    let Post : Val → SProp 𝓤 = (walk_of 𝓛 En hs c).post y in
    qed 𝓛 ((raw (alive 𝓛 En.signature κs qs) ⊛ ‵ (owns (types_at En.signature.params κs) a y.0.4)) ∷ raw ((c κs a).requires gh) ∷ []) ∵
    keep ! (0 ∷ []) $ split ! $ move ! (1 ∷ []) $ fsplit ! $ fsplit ! $ drop ! $ fsplit ! $ fpick ! (λ fit. drop ! $ let at : p ≡ q = at_block p fit.0 in
    -- [the places; the table; the tokens]
    keep ! (0 ∷ 2 ∷ []) $
    enter ! 𝓣.C 𝓣.Λ fn (strip_of p ∷ at₀ ∷ []) Post $ alloc_all ! (λ l. pass_all ! refl (strip_good p fit.0, ((tt, tt), tt)) $
    use1 𝓛 (later (‵ (rules R b γ Fit n 0 o))) (founds E 𝓛 γ b Fit n 0 o) $ await ! tt $
    nothing ! $ fpack ! (Spans R q n) (λ _. ftrue) (tt, fit.1) $ fjoin ! $
    use0 𝓛 (‵ ((ValuesData R B gF).own_val (q, (tt, tt)) (values_of q ∷ []))) (values_made R B gF 𝓛 q) $ fjoin ! $
    sets ! (is ! (of_opd ! (get_in ! (fld ! refl (stop !)) (sub ! 0 refl (whole !)))) (ap ptr_val at)) refl (tt, tt) $
    sets ! (agg ! (no_more !)) refl (tt, tt) $
    sets ! (agg ! (and_then ! (get ! refl) (and_then ! (get ! refl) (no_more !)))) refl (tt, (tt, (tt, tt))) $
    let Places : Type 0 = IsOn h new in let Table : Type 0 = t.table_id ≡ t.table_id in
    use0 𝓛 (raw (fact 𝓤 Table)) (fact_i 𝓤 Table (emp 𝓤) refl) $
    use0 𝓛 (raw (fact 𝓤 Places)) (fact_i 𝓤 Places (emp 𝓤) (record { place = sym at; gamma = refl; size = refl })) $ join ! $
    nothing ! $ nothing ! $ fjoin ! $ nothing ! $ fjoin ! $ returns ! (look_at ! 0 refl) $ free_all ! refl $ keep ! (3 ∷ 0 ∷ 2 ∷ 1 ∷ []) $
    by ! (leaves 𝓛 En hs c y (values_of q) new (tt, (tt, tt)) (tt, (tt, tt))))))
