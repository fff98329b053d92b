-- `enter` opens the seat, and the table's invariant by a token of the table's lifetime.
use Rattle.atomic_table.proofs.Names.{◌≡◌, [], ◌∷◌, refl, sym, List, ℕ, a_type, named, Val, vptr, vunit, inst_fn, SProp, emp, later, await, ‵, raw, ◌⊛◌, ◌$◌, ◌∵◌, !, qed, by, keep, drop, split, split3, fjoin, use0, use1, use3, move, fsplit, fsplit3, fjoin3, join, feq_i, of_opd, unit_lit, returns, enter, alloc_all, pass_all, free_all, look_at, sets, tables, RattleType, RefOf, owns, types_at, plain, nothing, opens, closes, heard, param, bounded, dcons, dnil, Stays, stay_dropped, stay_ref, walk_of, Goes-dropped, Goes-ref, fact, fact_i, ftrue, Fml, fsep, flft, Lft, yes, mut_vals, mut_Tells, shr_vals, shr_Tells, unhide, lent_out, hidden_shr, Ptr, block_ptr, Coded, Tuple, rewrite, shr_bor-open, obor_close, tokens_halve}
use base.Fml.{fhide}
use base.Stored.{Gv}
use Rattle.core.specs.contracts.marker.PhantomData as marker
use Rattle.atomic_table.proofs.Walks.{proved, leaves}
use Rattle.atomic_table.specs.Table.{Me, Joins}
use Rattle.atomic_table.specs.Seated.{TableId, age, mine}
use Rattle.atomic_table.proofs.Fields.{HandData}
use Rattle.sdd_witness.specs.Witness.{witness_owns}
use Rattle.sdd_witness.proofs.Fields.{token_val, pin_told}
use Rattle.sdd_witness.proofs.TableInvariant.{absorbs}
use Rattle.atomic_table.specs.contracts.shared.Shared as table
use Rattle.atomic_table.specs.contracts.shared.Seat as seat
use Rattle.sdd_witness.specs.contracts.witness.Witness as wit
use Rattle.sdd_witness.specs.contracts.witness.Witness.enter.{ended, clauses}
use Rattle.sdd_witness.specs.contracts.witness.Witness.enter.Key.{name as #self}
use Rattle.sdd_witness.proofs.witness.Witness.enter.Statement.{statement}
use Rattle.sdd_witness.proofs.witness.Witness.enter.Code as code

pub enter_spec : {M : Type 1} → statement M
unfolding Rattle.atomic_table.specs.Seated.seal
enter_spec 𝓤 𝓛 𝓜 𝓡 wired T U Q P Mv _ _ _ _ _ g d g' d' _ _ =
    let H = 𝓛.H in let 𝓣 = tables 𝓤 H 𝓜 𝓡 𝓡.env in let R : RattleType = param 0 T in let W : RattleType = param 1 U in
    let X : RattleType = param 2 Q in let Y : RattleType = param 3 P in let En = ended T U Q P Mv g d g' d' in
    let inst = bounded (a_type ∷ a_type ∷ a_type ∷ a_type ∷ a_type ∷ []) (T, (U, (Q, (P, (Mv, tt))))) (dcons d (dcons d' dnil)) in
    let fn = inst_fn inst code.function in
    let Row : RattleType = table.the_row R W X Y g in let Sr : RattleType = seat.the_row R W in let Wr : RattleType = wit.the_row in
    let D : RattleType = HandData R W X Y g in let self = plain (λ _. Wr) in
    let about = RefOf (0 ∷ []) tt (plain (λ _. Row)) (λ _. tt) in let sitter = plain (λ _. Sr) in
    let hs : Stays En.signature.params En.kept = (stay_dropped self yes, (stay_dropped about yes, (stay_ref (1 ∷ []) tt sitter, tt))) in
    let c = clauses T U Q P Mv g d g' d' 𝓛 𝓜.mem 𝓡.returns in
    proved 𝓛 En hs c 𝓜 𝓡 (Goes-dropped 𝓛 7 self yes (λ κs x f. refl), (Goes-dropped 𝓛 7 about yes (λ κs x f. refl), (Goes-ref 𝓛 7 1 tt sitter, tt)))
    (#self inst) fn (code.unfolded 𝓤 H 𝓜 𝓡 wired (T, (U, (Q, (P, (Mv, tt))))) d d')
    (λ κs. ((λ _. token_val ∷ []), (shr_vals, (mut_vals, tt))))
    (λ κs. ((λ e vs so. pin_told vs so.0), (shr_Tells (named 0) κs.0 Row, (mut_Tells (named 1) κs.1.0 Sr, tt)))) (λ κs qs bounds a gh are.
    let b : ℕ = a.1.0.ref_ptr.0 in let o : ℕ = a.1.0.ref_ptr.1 in let b' : ℕ = a.1.1.0.ref_ptr.0 in let o' : ℕ = a.1.1.0.ref_ptr.1 in
    let κ : Lft = κs.0 in let κ' : Lft = κs.1.0 in let e : Wr.Denot = a.0 in let t : Row.Denot = a.1.0.now in let h : Sr.Denot = a.1.1.0.now in
    let w : Ptr = t.words in let p : Ptr = t.slots in let z : TableId = t.table_id in let α : Lft = age z in let cv : Coded U.Denot = W.coded in
    let id : ℕ = h.id in let v : Me T.Denot U.Denot = h.me in let jd : ℕ = e.id in
    let others : Fml = fsep (flft κs.1.1.0 qs.1.1.0) (fsep (flft κs.1.1.1.0 qs.1.1.1.0) (fsep (flft κs.1.1.1.1.0 qs.1.1.1.1.0)
    (fsep (flft κs.1.1.1.1.1.0 qs.1.1.1.1.1.0) (fsep (flft κs.1.1.1.1.1.1.0 qs.1.1.1.1.1.1.0) ftrue)))) in
    let Asked : Type 0 = (h.table_id ≡ z) × (e.table_id ≡ z)
    × ((x : U.Denot) × (e.views ≡ cv.code x ∷ []) × Joins (g.holds t.key) id v.0 jd x (g'.both v.0 x) g'.spent) in
    let y : (walk_of 𝓛 En hs c).Ghost = ((κs, qs, bounds, a, (token_val ∷ [], (vptr b o ∷ [], (vptr b' o' ∷ [], tt)))), gh) in
    let Post : Val → SProp 𝓤 = (walk_of 𝓛 En hs c).post y in
    qed 𝓛 (((‵ (flft κ qs.0) ⊛ ‵ (flft κ' qs.1.0) ⊛ ‵ others) ⊛ ‵ (owns (types_at En.signature.params κs) a y.0.4)) ∷ raw (fact 𝓤 _) ∷ raw (fact 𝓤 _) ∷
    raw (fact 𝓤 _) ∷ raw (fact 𝓤 _) ∷ raw (fact 𝓤 _) ∷ raw (fact 𝓤 Asked) ∷ []) ∵
    keep ! (6 ∷ 0 ∷ []) $ heard ! Asked (λ asked. let x : U.Denot = asked.2.0 in let all : U.Denot = g'.both v.0 x in
    split ! $ split3 ! $ move ! (3 ∷ []) $ fsplit3 ! $
    -- [the witness; the table; the seat and the rest; the tokens of the table, of the seat and of the others]
    fsplit ! $ drop ! $ move ! (1 ∷ []) $ fsplit ! $ drop ! $
    use1 𝓛 (‵ (hidden_shr D κ (w, (p, (tt, tt))) b o) ⊛ ‵ (fhide (table.the_lent R W X Y g t (block_ptr b o) κ))) (lent_out 𝓛 (table.struct R W X Y g)
    (table.the_codes T.Denot U.Denot Q.Denot P.Denot R.coded W.coded X.coded Y.coded (marker.the_row (Tuple (Y ∷ W ∷ X ∷ []))).coded)
    (table.the_heap R W X Y g) (table.the_lent R W X Y g) κ t b o) $
    split ! $ drop ! $ move ! (2 ∷ []) $ fsplit ! $ fsplit3 ! $ keep ! (4 ∷ 5 ∷ 1 ∷ 2 ∷ 6 ∷ 7 ∷ 8 ∷ []) $
    enter ! 𝓣.C 𝓣.Λ fn (token_val ∷ vptr b o ∷ vptr b' o' ∷ []) Post $ alloc_all ! (λ l. pass_all ! refl ((tt, (tt, tt)), ((tt, tt), ((tt, tt), tt))) $
    -- [the table; the witness's share; the seat's value; its borrow; the tokens]
    unhide ! $ fsplit ! $ move ! (0 ∷ 5 ∷ []) $
    shr_bor-open ! tt (tokens_halve 𝓛 α) (λ s. move ! (4 ∷ 5 ∷ 6 ∷ []) $
    opens ! tt Sr b' o' (λ vs. move ! (1 ∷ []) $ fsplit ! $ rewrite ! 1 (λ (u : TableId). ‵ (mine R cv.code u id v)) asked.0 refl $
    -- [the field; the seat's content; the cell; its open borrow, in three entries; the open token; the token; what all know of the table; the witness's
    -- share; the others]
    rewrite ! 9 (λ (m : TableId × List Gv). ‵ (witness_owns m.0 jd m.1)) (λ j. (asked.1 j, asked.2.1 j)) refl $
    move ! (1 ∷ 9 ∷ []) $ join ! $ move ! (8 ∷ 7 ∷ 0 ∷ []) $
    use3 𝓛 (later (‵ (mine R cv.code z id (all, v.1)) ⊛ ‵ (flft α s)))
    (absorbs 𝓛 R cv (g.holds t.key) w p z s id v jd x all g'.spent asked.2.2) $ await ! tt $ split ! $
    let h' : Sr.Denot = record h { me = (all, v.1) } in
    let Told : Type 0 = (h.table_id ≡ h.table_id) × (id ≡ id) × ((x : U.Denot) × (e.views ≡ cv.code x ∷ []) × (h'.me ≡ (g'.both v.0 x, v.1))) in
    rewrite ! 0 (λ (x : TableId). ‵ (mine R cv.code x id (all, v.1))) (sym asked.0) refl $ move ! (2 ∷ 0 ∷ []) $ fjoin ! $
    move ! (2 ∷ 0 ∷ 3 ∷ 4 ∷ 5 ∷ []) $
    closes ! tt Sr h' vs b' o' $ feq_i ! (List Val) (vptr b' o' ∷ []) (vptr b' o' ∷ []) refl $ fjoin3 ! $
    -- [the seat; its token; the table's token; the open token; the others]
    move ! (3 ∷ 2 ∷ []) $ obor_close ! tt $ drop ! $ move ! (1 ∷ []) $ nothing ! $ move ! (1 ∷ 0 ∷ []) $ fjoin ! $ nothing ! $ fjoin ! $ nothing ! $ fjoin ! $
    -- [the parameters; the table's token; the seat's; the others]
    move ! (2 ∷ 3 ∷ []) $ join ! $ move ! (2 ∷ 0 ∷ []) $ join ! $
    sets ! (of_opd ! (unit_lit !)) refl (tt, tt) $
    use0 𝓛 (raw (fact 𝓤 Told)) (fact_i 𝓤 Told (emp 𝓤) (refl, refl, (x, asked.2.1, refl))) $ feq_i ! (List Val) (vunit ∷ []) (vunit ∷ []) refl $
    returns ! (look_at ! 0 refl) $ free_all ! refl $ keep ! (2 ∷ 3 ∷ 0 ∷ 1 ∷ []) $
    by ! (leaves 𝓛 En hs c y vunit tt (tt, (tt, (h', tt))) (tt, (tt, (tt, tt)))))))))
