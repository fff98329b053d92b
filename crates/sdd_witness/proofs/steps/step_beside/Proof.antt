-- `step_beside` opens the seat and the witness, and the table's invariant by a token of the table's lifetime.
use Rattle.atomic_table.proofs.Names.{◌≡◌, [], ◌∷◌, refl, sym, List, ℕ, a_type, named, Val, vptr, vunit, inst_fn, SProp, emp, later, await, ‵, raw, ◌⊛◌, ◌$◌, ◌∵◌, !, qed, by, keep, drop, split, split3, fjoin, use0, use1, use3, move, fsplit, fsplit3, fjoin3, join, feq_i, fpick, of_opd, unit_lit, returns, enter, alloc_all, pass_all, free_all, look_at, sets, tables, RattleType, RefOf, owns, types_at, plain, nothing, opens, closes, heard, param, bounded, dcons, dnil, Stays, stay_dropped, stay_ref, walk_of, Goes-dropped, Goes-ref, fact, fact_i, ftrue, Fml, fsep, flft, Lft, yes, mut_vals, mut_Tells, shr_vals, shr_Tells, unhide, lent_out, hidden_shr, Ptr, block_ptr, Coded, Tuple, rewrite, shr_bor-open, obor_close, tokens_halve}
use base.Fml.{fhide}
use base.Stored.{Gv}
use denote.Builtin.{u64}
use Rattle.core.specs.contracts.marker.PhantomData as marker
use Rattle.atomic_table.proofs.Walks.{proved, leaves}
use Rattle.atomic_table.specs.Table.{Me}
use Rattle.atomic_table.specs.Seated.{TableId, age, common, mine}
use Rattle.atomic_table.proofs.Fields.{HandData}
use Rattle.sdd_witness.specs.Steps.{AllowsBeside}
use Rattle.sdd_witness.specs.Witness.{view_of, witness_shares}
use Rattle.sdd_witness.proofs.Fields.{Pin}
use Rattle.sdd_witness.proofs.WitnessShares.{halves_at}
use Rattle.sdd_witness.proofs.TableInvariant.{beside, after}
use Rattle.atomic_table.specs.contracts.shared.Shared as table
use Rattle.atomic_table.specs.contracts.shared.Seat as seat
use Rattle.sdd_witness.specs.contracts.witness.Witness as wit
use Rattle.sdd_witness.specs.contracts.steps.step_beside.{ended, clauses}
use Rattle.sdd_witness.specs.contracts.steps.step_beside.Key.{name as #self}
use Rattle.sdd_witness.proofs.steps.step_beside.Statement.{statement}
use Rattle.sdd_witness.proofs.steps.step_beside.Code as code

pub step_beside_spec : {M : Type 1} → statement M
unfolding Rattle.atomic_table.specs.Seated.seal
step_beside_spec 𝓤 𝓛 𝓜 𝓡 wired T U Q P Mv _ _ _ _ _ g d g' d' _ _ =
    let H = 𝓛.H in let 𝓣 = tables 𝓤 H 𝓜 𝓡 𝓡.env in let R : RattleType = param 0 T in let W : RattleType = param 1 U in
    let X : RattleType = param 2 Q in let Y : RattleType = param 3 P in let En = ended T U Q P Mv g d g' d' in
    let inst = bounded (a_type ∷ a_type ∷ a_type ∷ a_type ∷ a_type ∷ []) (T, (U, (Q, (P, (Mv, tt))))) (dcons d (dcons d' dnil)) in
    let fn = inst_fn inst code.function in
    let Row : RattleType = table.the_row R W X Y g in let Sr : RattleType = seat.the_row R W in let Wr : RattleType = wit.the_row in
    let D : RattleType = HandData R W X Y g in
    let about = RefOf (0 ∷ []) tt (plain (λ _. Row)) (λ _. tt) in let sitter = plain (λ _. Sr) in
    let arg = RefOf (2 ∷ []) tt (plain (λ _. Wr)) (λ _. tt) in
    let hs : Stays En.signature.params En.kept = (stay_dropped about yes, (stay_ref (1 ∷ []) tt sitter, (stay_dropped arg yes, tt))) in
    let c = clauses T U Q P Mv g d g' d' 𝓛 𝓜.mem 𝓡.returns in
    proved 𝓛 En hs c 𝓜 𝓡 (Goes-dropped 𝓛 8 about yes (λ κs x f. refl), (Goes-ref 𝓛 8 1 tt sitter, (Goes-dropped 𝓛 8 arg yes (λ κs x f. refl), tt)))
    (#self inst) fn (code.unfolded 𝓤 H 𝓜 𝓡 wired (T, (U, (Q, (P, (Mv, tt))))) d d')
    (λ κs. (shr_vals, (mut_vals, (shr_vals, tt))))
    (λ κs. (shr_Tells (named 0) κs.0 Row, (mut_Tells (named 1) κs.1.0 Sr, (shr_Tells (named 2) κs.1.1.0 Wr, tt)))) (λ κs qs bounds a gh are.
    let b : ℕ = a.0.ref_ptr.0 in let o : ℕ = a.0.ref_ptr.1 in let b' : ℕ = a.1.0.ref_ptr.0 in let o' : ℕ = a.1.0.ref_ptr.1 in
    let b″ : ℕ = a.1.1.0.ref_ptr.0 in let o″ : ℕ = a.1.1.0.ref_ptr.1 in
    let κ : Lft = κs.0 in let κ' : Lft = κs.1.0 in let κ″ : Lft = κs.1.1.0 in let t : Row.Denot = a.0.now in let h : Sr.Denot = a.1.0.now in
    let e : Wr.Denot = a.1.1.0.now in
    let w : Ptr = t.words in let p : Ptr = t.slots in let z : TableId = t.table_id in let α : Lft = age z in let cv : Coded U.Denot = W.coded in
    let id : ℕ = h.id in let v : Me T.Denot U.Denot = h.me in let jd : ℕ = e.id in
    let others : Fml = fsep (flft κs.1.1.1.0 qs.1.1.1.0) (fsep (flft κs.1.1.1.1.0 qs.1.1.1.1.0) (fsep (flft κs.1.1.1.1.1.0 qs.1.1.1.1.1.0)
    (fsep (flft κs.1.1.1.1.1.1.0 qs.1.1.1.1.1.1.0) (fsep (flft κs.1.1.1.1.1.1.1.0 qs.1.1.1.1.1.1.1.0) ftrue)))) in
    let Asked : Type 0 = (h.table_id ≡ z) × (e.table_id ≡ z)
    × ((x : U.Denot) × (e.views ≡ cv.code x ∷ []) × AllowsBeside (g.holds t.key) z.slots id v jd x (g'.then x v)) in
    let y : (walk_of 𝓛 En hs c).Ghost = ((κs, qs, bounds, a, (vptr b o ∷ [], (vptr b' o' ∷ [], (vptr b″ o″ ∷ [], tt)))), gh) in
    let Post : Val → SProp 𝓤 = (walk_of 𝓛 En hs c).post y in
    qed 𝓛 (((‵ (flft κ qs.0) ⊛ ‵ (flft κ' qs.1.0) ⊛ ‵ (flft κ″ qs.1.1.0) ⊛ ‵ others) ⊛ ‵ (owns (types_at En.signature.params κs) a y.0.4)) ∷
    raw (fact 𝓤 _) ∷ raw (fact 𝓤 _) ∷ raw (fact 𝓤 _) ∷ raw (fact 𝓤 _) ∷ raw (fact 𝓤 _) ∷ raw (fact 𝓤 Asked) ∷ []) ∵
    keep ! (6 ∷ 0 ∷ []) $ heard ! Asked (λ asked. let x : U.Denot = asked.2.0 in let gv : Gv = cv.code x in
    let then : Me T.Denot U.Denot → Type 0 = g'.then x v in
    split ! $ split3 ! $ move ! (2 ∷ []) $ split ! $ move ! (4 ∷ []) $ fsplit3 ! $
    -- [the table; the seat; the witness and the rest; the tokens of the witness, of the others, of the table and of the seat]
    fsplit ! $ drop ! $
    use1 𝓛 (‵ (hidden_shr D κ (w, (p, (tt, tt))) b o) ⊛ ‵ (fhide (table.the_lent R W X Y g t (block_ptr b o) κ))) (lent_out 𝓛 (table.struct R W X Y g)
    (table.the_codes T.Denot U.Denot Q.Denot P.Denot R.coded W.coded X.coded Y.coded (marker.the_row (Tuple (Y ∷ W ∷ X ∷ []))).coded)
    (table.the_heap R W X Y g) (table.the_lent R W X Y g) κ t b o) $
    split ! $ drop ! $ move ! (2 ∷ []) $ fsplit ! $ fsplit ! $ drop ! $
    use1 𝓛 (‵ (hidden_shr Pin κ″ (tt, tt) b″ o″) ⊛ ‵ (fhide (witness_shares e.table_id jd e.views κ″)))
    (lent_out 𝓛 wit.struct (wit.the_codes (marker.the_row u64).coded) wit.the_heap wit.the_lent κ″ e b″ o″) $ split ! $ drop ! $
    -- [the witness; _; the table; the seat; the tokens]
    move ! (3 ∷ []) $ fsplit3 ! $ keep ! (5 ∷ 3 ∷ 1 ∷ 2 ∷ 6 ∷ 7 ∷ 8 ∷ 9 ∷ []) $
    enter ! 𝓣.C 𝓣.Λ fn (vptr b o ∷ vptr b' o' ∷ vptr b″ o″ ∷ []) Post $ alloc_all ! (λ l. pass_all ! refl ((tt, tt), ((tt, tt), ((tt, tt), tt))) $
    -- [the table; the witness; the seat's value; its borrow; the tokens]
    unhide ! $ fsplit ! $ move ! (0 ∷ 7 ∷ []) $
    shr_bor-open ! tt (tokens_halve 𝓛 α) (λ s. move ! (3 ∷ []) $ unhide ! $
    rewrite ! 0 (λ (m : TableId × List Gv). ‵ (witness_shares m.0 jd m.1 κ″)) (λ j. (asked.1 j, asked.2.1 j)) refl $ move ! (0 ∷ 6 ∷ []) $
    shr_bor-open ! tt (halves_at 𝓛 z.views_name jd gv) (λ r.
    -- [the witness's open share; the share; the table's open token; the token; what all know of the table; the seat's value; its borrow; the others;
    -- the seat's token]
    move ! (5 ∷ 6 ∷ 8 ∷ []) $
    opens ! tt Sr b' o' (λ vs. move ! (1 ∷ []) $ fsplit ! $ rewrite ! 1 (λ (u : TableId). ‵ (mine R cv.code u id v)) asked.0 refl $
    -- [the field; the seat's content; the cell; its open borrow, in three entries; then as above]
    move ! (7 ∷ 1 ∷ []) $ join ! $ move ! (9 ∷ 8 ∷ 0 ∷ []) $
    use3 𝓛 (later ((‵ (view_of z.views_name jd gv r) ⊛ ‵ (after 𝓛 R cv (g.holds t.key) w p z s id v then)) ⊛ ‵ (flft α s)))
    (beside 𝓛 R cv (g.holds t.key) w p z s id v then jd x r asked.2.2) $ await ! tt $ split ! $ split ! $ move ! (1 ∷ []) $
    fpick ! (λ u. fsplit ! $ fpick ! (λ told. drop ! $
    let h' : Sr.Denot = record h { me = u } in
    let Told : Type 0 = (h.table_id ≡ h.table_id) × (id ≡ id) × ((x : U.Denot) × (e.views ≡ cv.code x ∷ []) × g'.then x v u) in
    rewrite ! 0 (λ (x : TableId). ‵ (mine R cv.code x id u)) (sym asked.0) refl $ move ! (3 ∷ 0 ∷ []) $ fjoin ! $ move ! (3 ∷ 0 ∷ 4 ∷ 5 ∷ 6 ∷ []) $
    closes ! tt Sr h' vs b' o' $ feq_i ! (List Val) (vptr b' o' ∷ []) (vptr b' o' ∷ []) refl $ fjoin3 ! $
    -- [the seat; its token; the witness's share; the table's token; the open ones of the witness and of the table; the others]
    move ! (4 ∷ 2 ∷ []) $ obor_close ! tt $ drop ! $ move ! (4 ∷ 3 ∷ []) $ obor_close ! tt $ drop ! $ move ! (2 ∷ []) $
    nothing ! $ nothing ! $ fjoin ! $ move ! (1 ∷ 0 ∷ []) $ fjoin ! $ nothing ! $ fjoin ! $
    -- [the parameters; the tokens of the table, of the witness, of the seat and of the others]
    move ! (2 ∷ 4 ∷ []) $ join ! $ move ! (3 ∷ 0 ∷ []) $ join ! $ move ! (2 ∷ 0 ∷ []) $ join ! $
    sets ! (of_opd ! (unit_lit !)) refl (tt, tt) $
    use0 𝓛 (raw (fact 𝓤 Told)) (fact_i 𝓤 Told (emp 𝓤) (refl, refl, (x, asked.2.1, told))) $ feq_i ! (List Val) (vunit ∷ []) (vunit ∷ []) refl $
    returns ! (look_at ! 0 refl) $ free_all ! refl $ keep ! (2 ∷ 3 ∷ 0 ∷ 1 ∷ []) $
    by ! (leaves 𝓛 En hs c y vunit tt (tt, (h', (tt, tt))) (tt, (tt, (tt, tt))))))))))))
