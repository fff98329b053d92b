-- `of` makes vacant places of the room, each with a number, and a fraction in each.
use Rattle.atomic_table.proofs.Names.{◌≡◌, ℕ, ◌^◌, ◌<◌, List, [], ◌∷◌, refl, ap, Val, vstruct, vcons, vnil, inst_fn, SProp, emp, id⊢, ftrue, ‵, raw, ◌⊛◌, some, given, later, ◌$◌, ◌∵◌, !, qed, by, move, keep, split, join, fsplit, fjoin, fpack, pick, learn, use0, use1, use2, await, rewrite, feq_i, stop, fld, of_opd, no_more, and_then, returns, enter, alloc_all, pass_all, free_all, look_at, get, get_in, sets, is, agg, sub, whole, tables, no, RattleType, Valss, owns, types_at, plain, Ptr, block_ptr, ptr_val, nothing, param, Stays, stay_dropped, walk_of, Goes-dropped, fact, fact_i, heard, WT, alive}
use base.Fml.{froom}
use base.Logic.{never}
use mir.Syntax.{ty_array}
use denote.RawPtr.{room_for, in_a_block}
use denote.Struct.Struct.{within}
use denote.Struct.Declared as Declared
use denote.Struct.Tuple.{tuple_type}
use Rattle.core.proofs.mem.Param.{El, elτ}
use Rattle.core.proofs.alloc.Calls.{Al, token}
use Rattle.core.proofs.slots.Leases.{lease_val, block_ty, args}
use Rattle.std_alloc.specs.Vec.Ownership.{FitsInBlock}
use Rattle.atomic_table.proofs.Walks.{proved, leaves}
use Rattle.atomic_table.proofs.Rights.{lease_good}
use Rattle.sdd_rights.specs.Units.{keys_own}
use Rattle.sdd_rights.proofs.Steps.{keys_new}
use Rattle.sdd_values.proofs.UninitMemory.{Rm, Hd, held, room_had, hold_made, room_told}
use Rattle.sdd_shared_values.specs.ValueFractions.{FractionContent, holdings}
use Rattle.sdd_shared_values.specs.Memory.{IsHoldOf}
use Rattle.sdd_shared_values.specs.SharedValues.{Spans, plots, AreVacant}
use Rattle.sdd_shared_values.proofs.Fields.{strip_of, token_val, PlotData, plot_made, FractionListData, fraction_list_made}
use Rattle.sdd_shared_values.proofs.VacantPlaces.{lays}
use Rattle.sdd_shared_values.specs.contracts.fraction_list.FractionList as fraction_list
use Rattle.sdd_shared_values.specs.contracts.vacant_values.VacantValues as plot
use Rattle.sdd_shared_values.specs.contracts.vacant_values.VacantValues.of.{ended, clauses}
use Rattle.sdd_shared_values.specs.contracts.vacant_values.VacantValues.of.Key.{name as #self}
use Rattle.sdd_shared_values.proofs.vacant_values.VacantValues.of.Statement.{statement}
use Rattle.sdd_shared_values.proofs.vacant_values.VacantValues.of.Code as code

pub of_spec : {M : Type 1} → statement M
of_spec 𝓤 𝓛 𝓜 𝓡 wired T A L LA g d dd _ _ =
    let H = 𝓛.H in let 𝓣 = tables 𝓤 H 𝓜 𝓡 𝓡.env in let E : El = record { row = T; laws = L } in
    let Z : Al = record { row = A; laws = LA; g = g; d = d; drops = dd } in
    let R : RattleType = param 0 T in let Rr : RattleType = Rm E Z in let En = ended T A g d dd in let c = clauses T A g d dd 𝓛 𝓜.mem 𝓡.returns in
    let Row : RattleType = plot.the_row R in let Sr : RattleType = fraction_list.the_row in
    let inst = args E Z in let fn = inst_fn inst code.function in
    let self = plain (λ _. Rr) in let hs : Stays En.signature.params En.kept = (stay_dropped self no, tt) in
    proved 𝓛 En hs c 𝓜 𝓡 (Goes-dropped 𝓛 2 self no (λ κs x f. refl), tt) (#self inst) fn (code.unfolded 𝓤 H 𝓜 𝓡 wired (T, (A, tt)) d dd)
    (λ κs. ((λ x. lease_val x.ptr x.len ∷ []), tt)) (λ κs. ((λ x vs so. (room_told E Z x vs so).0), tt))
    (λ κs qs bounds a gh are.
    let h : Rr.Denot = a.0 in let n : ℕ = h.len in let p : Ptr = h.ptr in let τ = block_ty E n in
    let fk : n < 2 ^ 64 = (room_told E Z h (lease_val p n ∷ []) are.0).1 in let Big : Type 0 = FitsInBlock R n in
    let z : (walk_of 𝓛 En hs c).Ghost = ((κs, qs, bounds, a, (lease_val p n ∷ [], tt)), gh) in
    let Post : Val → SProp 𝓤 = (walk_of 𝓛 En hs c).post z in
    qed 𝓛 ((raw (alive 𝓛 En.signature κs qs) ⊛ ‵ (owns (types_at En.signature.params κs) a z.0.4)) ∷ raw (fact 𝓤 _) ∷ raw (fact 𝓤 _) ∷ raw (fact 𝓤 Big) ∷ []) ∵
    keep ! (3 ∷ 0 ∷ []) $ heard ! Big (λ fits. split ! $ move ! (1 ∷ []) $ fsplit ! $
    room_had E Z ! h (lease_val p n ∷ []) (λ told. in_a_block ! p (λ (r : Ptr). room_for τ r) (id⊢ 𝓤 (never 𝓤)) (λ b o at. let q : Ptr = block_ptr b o in
    -- [the room; the right; _; the tokens]
    rewrite ! 1 (λ (r : Ptr). ‵ (token Z h.alloc τ r)) at refl $ use1 𝓛 (‵ (froom (ty_array (elτ E) n) b o)) (𝓛.laws.raw-room (ty_array (elτ E) n) b o) $
    enter ! 𝓣.C 𝓣.Λ fn (lease_val p n ∷ []) Post $ alloc_all ! (λ l. pass_all ! refl (lease_good p n fk, tt) $
    let lease : WT (lease_val q n) = (tt, (record { fits = fk }, (tt, tt))) in
    let all : Val = vstruct (vcons (strip_of q) (vcons token_val (vcons (lease_val q n) vnil))) in
    use0 𝓛 (later (some (λ (γ : ℕ). ‵ (keys_own γ 0)))) (keys_new 𝓛) $ await ! tt $ pick ! (λ γ.
    use2 𝓛 (later (some (λ (ls : List FractionContent). given (AreVacant γ 0 n ls) (‵ (plots R b γ n 0 o) ⊛ ‵ (holdings ls)))))
    (lays E 𝓛 γ b n 0 o) $ await ! tt $
    pick ! (λ ls. learn ! (λ vacant. split ! $
    -- [the places; the fractions; the right; _; the tokens]
    nothing ! $ fpack ! (Spans R q n) (λ _. ftrue) (tt, fits.0) $ fjoin ! $
    use0 𝓛 (‵ ((PlotData R).own_val (q, tt) (strip_of q ∷ []))) (plot_made R 𝓛 q) $ fjoin ! $ move ! (1 ∷ []) $
    use0 𝓛 (‵ (FractionListData.own_val (tt, tt) (token_val ∷ []))) (fraction_list_made 𝓛) $ fjoin ! $ move ! (2 ∷ []) $ hold_made E Z ! h.alloc b o n fk $
    -- [the right; the list of fractions; the plot; _; the tokens]
    let new : Row.Denot = record { ptr = q; gamma = γ; size = n } in let rest : Sr.Denot = record { of = record {}; contents = ls } in
    nothing ! $ move ! (1 ∷ 0 ∷ []) $ fjoin ! $ move ! (1 ∷ 0 ∷ []) $ fjoin ! $ move ! (1 ∷ 0 ∷ []) $ fjoin ! $
    feq_i ! (List Val) (all ∷ []) (all ∷ []) refl $ fjoin ! $
    fpack ! (Valss (Row ∷ Sr ∷ Hd E Z ∷ [])) (within (Declared.shape (tuple_type (Row ∷ Sr ∷ Hd E Z ∷ []))) (new, (rest, (held E Z h.alloc b o n, tt)))
    (all ∷ []))
    (strip_of q ∷ [], (token_val ∷ [], (lease_val q n ∷ [], tt))) $
    sets ! (is ! (of_opd ! (get_in ! (fld ! refl (stop !)) (sub ! 0 refl (whole !)))) (ap ptr_val at)) refl (tt, tt) $
    sets ! (of_opd ! (get_in ! (fld ! refl (stop !)) (sub ! 1 refl (whole !)))) refl (tt, record { fits = fk }) $
    sets ! (of_opd ! (get_in ! (fld ! refl (stop !)) (sub ! 2 refl (whole !)))) refl (tt, tt) $
    sets ! (agg ! (and_then ! (get ! refl) (no_more !))) refl (tt, (tt, tt)) $
    sets ! (agg ! (no_more !)) refl (tt, tt) $ sets ! (agg ! (and_then ! (get ! refl) (no_more !))) refl (tt, (tt, tt)) $
    sets ! (agg ! (and_then ! (get ! refl) (and_then ! (get ! refl) (and_then ! (get ! refl) (no_more !))))) refl (tt, lease) $
    sets ! (agg ! (and_then ! (get ! refl) (and_then ! (get ! refl) (and_then ! (get ! refl) (no_more !))))) refl (tt, ((tt, tt), ((tt, tt), (lease, tt)))) $
    let Told : Type 0 = IsHoldOf new h.alloc (held E Z h.alloc b o n) in let Vacant : Type 0 = AreVacant γ 0 n ls in
    use0 𝓛 (raw (fact 𝓤 Told)) (fact_i 𝓤 Told (emp 𝓤) (record { place = refl; size = refl; from = refl })) $
    use0 𝓛 (raw (fact 𝓤 Vacant)) (fact_i 𝓤 Vacant (emp 𝓤) vacant) $ join ! $
    use0 𝓛 (raw (fact 𝓤 (n ≡ n))) (fact_i 𝓤 (n ≡ n) (emp 𝓤) refl) $ join ! $ nothing ! $ nothing ! $ fjoin ! $
    returns ! (look_at ! 0 refl) $ free_all ! refl $ keep ! (4 ∷ 0 ∷ 2 ∷ 1 ∷ []) $
    by ! (leaves 𝓛 En hs c z all (new, rest, held E Z h.alloc b o n) (tt, tt) (tt, tt))))))))))
