-- `draw` opens the bank beside the table.
use Rattle.atomic_table.proofs.Names.{◌≡◌, [], ◌∷◌, refl, sym, List, ℕ, a_type, named, Val, vptr, inst_fn, SProp, emp, later, await, ‵, raw, ◌⊛◌, ◌$◌, ◌∵◌, !, qed, by, keep, drop, split, split3, fjoin, use0, use1, use3, move, fsplit, fsplit3, fjoin3, join, feq_i, fpick, returns, enter, alloc_all, pass_all, free_all, look_at, sets, tables, RattleType, RefOf, no_more, and_then, get, agg, owns, types_at, plain, nothing, opens, closes, heard, param, bounded, dcons, dnil, Stays, stay_dropped, stay_ref, walk_of, Goes-dropped, Goes-ref, fact, fact_i, ftrue, Fml, fsep, flft, Lft, yes, mut_vals, mut_Tells, shr_vals, shr_Tells, unhide, lent_out, hidden_shr, Ptr, block_ptr, Coded, Tuple, rewrite, shr_bor-open, obor_close, tokens_halve}
use Rattle.sdd_rights.proofs.Names.{vint, w64, u64, uint_vals, uint_Tells}
use base.Fml.{fhide}
use Rattle.core.specs.contracts.marker.PhantomData as marker
use Rattle.atomic_table.proofs.Walks.{proved, leaves}
use Rattle.atomic_table.specs.Table.{Me}
use Rattle.atomic_table.specs.Seated.{TableId, age, inner, common, mine}
use Rattle.atomic_table.proofs.Fields.{HandData}
use Rattle.sdd_shared_values.specs.Bank.{bank_owns, AllowsDeal, Leaves}
use Rattle.sdd_shared_values.specs.ValueFractions.{FractionContent}
use Rattle.sdd_shared_values.proofs.BankDeals.{draws, drawn, BankData}
use Rattle.sdd_shared_values.proofs.Fields.{token_val, Peg, peg_made}
use base.Fml.{fex, fbor}
use Rattle.atomic_table.specs.contracts.shared.Shared as table
use Rattle.atomic_table.specs.contracts.shared.Seat as seat
use Rattle.sdd_shared_values.specs.contracts.value_fraction.ValueFraction as fraction
use Rattle.sdd_shared_values.specs.contracts.bank.Bank as bank
use Rattle.sdd_shared_values.specs.contracts.bank.Bank.draw.{ended, clauses}
use Rattle.sdd_shared_values.specs.contracts.bank.Bank.draw.Key.{name as #self}
use Rattle.sdd_shared_values.proofs.bank.Bank.draw.Statement.{statement}
use Rattle.sdd_shared_values.proofs.bank.Bank.draw.Code as code

pub draw_spec : {M : Type 1} → statement M
unfolding Rattle.atomic_table.specs.Seated.seal
draw_spec 𝓤 𝓛 𝓜 𝓡 wired V K P B Mv _ _ _ _ _ g d gB dB g' d' _ _ _ =
    let H = 𝓛.H in let 𝓣 = tables 𝓤 H 𝓜 𝓡 𝓡.env in let R : RattleType = fraction.the_row in let W : RattleType = param 0 V in
    let X : RattleType = param 1 K in let Y : RattleType = param 2 P in let Z : RattleType = param 3 B in let En = ended V K P B Mv g d gB dB g' d' in
    let inst = bounded (a_type ∷ a_type ∷ a_type ∷ a_type ∷ a_type ∷ []) (V, (K, (P, (B, (Mv, tt))))) (dcons d (dcons dB (dcons d' dnil))) in
    let fn = inst_fn inst code.function in
    let Row : RattleType = table.the_row R W X Y g in let Sr : RattleType = seat.the_row R W in let Br : RattleType = bank.the_row W X Y Z g gB in
    let D : RattleType = HandData R W X Y g in let DB : RattleType = BankData W X Y Z g gB in
    let one = RefOf (0 ∷ []) tt (plain (λ _. Br)) (λ _. tt) in let about = RefOf (1 ∷ []) tt (plain (λ _. Row)) (λ _. tt) in let sitter = plain (λ _. Sr) in
    let num = plain (λ _. u64) in
    let hs : Stays En.signature.params En.kept =
    (stay_dropped one yes, (stay_dropped about yes, (stay_ref (2 ∷ []) tt sitter, (stay_dropped num yes, tt)))) in
    let c = clauses V K P B Mv g d gB dB g' d' 𝓛 𝓜.mem 𝓡.returns in
    proved 𝓛 En hs c 𝓜 𝓡 (
      Goes-dropped 𝓛 8 one yes (λ κs x f. refl),
      (
        Goes-dropped 𝓛 8 about yes (λ κs x f. refl),
        (
          Goes-ref 𝓛 8 2 tt sitter,
          (Goes-dropped 𝓛 8 num yes (λ κs x f. refl), tt),
        ),
      ),
    )
    (#self inst) fn (code.unfolded 𝓤 H 𝓜 𝓡 wired (V, (K, (P, (B, (Mv, tt))))) d dB d')
    (λ κs. (shr_vals, (shr_vals, (mut_vals, (uint_vals w64, tt)))))
    (λ κs. (shr_Tells (named 0) κs.0 Br, (shr_Tells (named 1) κs.1.0 Row, (mut_Tells (named 2) κs.1.1.0 Sr, (uint_Tells w64, tt))))) (λ κs qs bounds a gh are.
    let m : ℕ = a.1.1.1.0 in let b : ℕ = a.0.ref_ptr.0 in let o : ℕ = a.0.ref_ptr.1 in let b' : ℕ = a.1.0.ref_ptr.0 in let o' : ℕ = a.1.0.ref_ptr.1 in
    let b″ : ℕ = a.1.1.0.ref_ptr.0 in let o″ : ℕ = a.1.1.0.ref_ptr.1 in let e : Br.Denot = a.0.now in
    let κ : Lft = κs.0 in let κ' : Lft = κs.1.0 in let κ″ : Lft = κs.1.1.0 in let t : Row.Denot = a.1.0.now in let h : Sr.Denot = a.1.1.0.now in
    let z : TableId = t.table_id in let α : Lft = age z in let cv : Coded V.Denot = W.coded in
    let id : ℕ = h.id in let v : Me R.Denot V.Denot = h.me in let offered : FractionContent → Type 0 = (λ (_ : FractionContent). Unit {0}) in
    let then : FractionContent → Me R.Denot V.Denot
    → Type 0 = g'.then m v in
    let others : Fml = fsep (flft κs.1.1.1.0 qs.1.1.1.0) (fsep (flft κs.1.1.1.1.0 qs.1.1.1.1.0) (fsep (flft κs.1.1.1.1.1.0 qs.1.1.1.1.1.0)
    (fsep (flft κs.1.1.1.1.1.1.0 qs.1.1.1.1.1.1.0) (fsep (flft κs.1.1.1.1.1.1.1.0 qs.1.1.1.1.1.1.1.0) ftrue)))) in
    let AtTable : Type 0 = (h.table_id ≡ z) × (e.table_id ≡ z) in
    let Allowed : Type 0 = AllowsDeal (g.holds e.key) Leaves gB.ours gB.banked z.slots id v e.id offered then in
    let y : (walk_of 𝓛 En hs c).Ghost = ((κs, qs, bounds, a, (vptr b o ∷ [], (vptr b' o' ∷ [], (vptr b″ o″ ∷ [], (vint w64 m ∷ [], tt))))), gh) in
    let Post : Val → SProp 𝓤 = (walk_of 𝓛 En hs c).post y in
    qed 𝓛 (((‵ (flft κ qs.0) ⊛ ‵ (flft κ' qs.1.0) ⊛ ‵ (flft κ″ qs.1.1.0) ⊛ ‵ others) ⊛ ‵ (owns (types_at En.signature.params κs) a y.0.4)) ∷
    raw (fact 𝓤 _) ∷ raw (fact 𝓤 _) ∷ raw (fact 𝓤 _) ∷ raw (fact 𝓤 _) ∷ raw (fact 𝓤 _) ∷ raw (fact 𝓤 AtTable) ∷ raw (fact 𝓤 Allowed) ∷ []) ∵
    keep ! (6 ∷ 7 ∷ 0 ∷ []) $ heard ! AtTable (λ at_table. heard ! Allowed (λ allowed.
    split ! $ split3 ! $ move ! (2 ∷ []) $ split ! $ move ! (4 ∷ []) $ fsplit3 ! $
    -- [the bank; the table; the seat and the rest; the tokens of the seat, of the others, of the bank and of the table]
    fsplit ! $ drop ! $ use1 𝓛 (‵ (hidden_shr DB κ (tt, tt) b o) ⊛ ‵ (fhide (bank.the_lent W X Y Z g gB e (block_ptr b o) κ))) (lent_out 𝓛
    (bank.struct W X Y Z g gB)
    (bank.the_codes V.Denot K.Denot P.Denot B.Denot W.coded X.coded Y.coded Z.coded (marker.the_row (Tuple (Y ∷ W ∷ X ∷ Z ∷ []))).coded)
    (bank.the_heap W X Y Z g gB) (bank.the_lent W X Y Z g gB) κ e b o) $ split ! $ drop ! $
    move ! (1 ∷ []) $ fsplit ! $ drop ! $
    use1 𝓛 (‵ (hidden_shr D κ' (t.words, (t.slots, (tt, tt))) b' o') ⊛ ‵ (fhide (table.the_lent R W X Y g t (block_ptr b' o') κ'))) (lent_out 𝓛
    (table.struct R W X Y g)
    (table.the_codes R.Denot V.Denot K.Denot P.Denot R.coded W.coded X.coded Y.coded (marker.the_row (Tuple (Y ∷ W ∷ X ∷ []))).coded)
    (table.the_heap R W X Y g) (table.the_lent R W X Y g) κ' t b' o') $ split ! $ drop ! $
    move ! (2 ∷ []) $ fsplit ! $ fsplit3 ! $ keep ! (4 ∷ 5 ∷ 1 ∷ 2 ∷ 6 ∷ 9 ∷ 8 ∷ 7 ∷ []) $
    -- [the table; the bank; the seat's value; its borrow; the tokens of the seat, of the table, of the bank and of the others]
    enter ! 𝓣.C 𝓣.Λ fn (vptr b o ∷ vptr b' o' ∷ vptr b″ o″ ∷ vint w64 m ∷ []) Post $
    alloc_all ! (λ l. pass_all ! refl ((tt, tt), ((tt, tt), ((tt, tt), ((tt, record { fits = are.1.1.1.0.1 }), tt)))) $
    unhide ! $ fsplit ! $ move ! (0 ∷ 6 ∷ []) $
    shr_bor-open ! tt (tokens_halve 𝓛 α) (λ s. move ! (4 ∷ 5 ∷ 6 ∷ []) $
    opens ! tt Sr b″ o″ (λ vs. move ! (1 ∷ []) $ fsplit ! $ rewrite ! 1 (λ (u : TableId). ‵ (mine R cv.code u id v)) at_table.0 refl $
    -- [the field; the seat's content; the cell; its open borrow, in three entries; the open token; the token; what all know; the bank; its token; the others]
    move ! (9 ∷ []) $ unhide ! $ rewrite ! 0 (λ (u : TableId). ‵ (bank_owns R cv.code (g.holds e.key) gB.ours gB.banked u e.id)) at_table.1 refl $
    fpick ! (λ n. let w : Ptr = n.0.0 in let p : Ptr = n.0.1 in let I : Fml = fbor α (inner R cv.code (g.holds e.key) w p z) in
    fsplit3 ! $ fpick ! (λ ne. drop ! $
    move ! (9 ∷ 3 ∷ []) $ join ! $ move ! (1 ∷ 2 ∷ 0 ∷ []) $
    use3 𝓛 (later (‵ (fex (FractionContent × Me R.Denot V.Denot) (drawn 𝓛 cv (g.holds e.key) w p z s id v e.id gB.ours gB.banked offered then)) ⊛ ‵ (flft α s)))
    (draws 𝓛 cv (g.holds e.key) w p z s id v e.id gB.ours gB.banked offered then n.1.0 n.1.1 ne allowed) $ await ! tt $ split ! $ fpick ! (λ got. fsplit3 ! $
    fpick ! (λ told. drop ! $
    -- [what is drawn; the seat's content; the token; the field; the cell; the open borrow; the open token; what all know; the bank's token; the others]
    let u : Me R.Denot V.Denot = got.1 in let h' : Sr.Denot = record h { me = u } in let new : R.Denot = record { of = record {}; content = got.0 } in
    let Ids : Type 0 = (h.table_id ≡ h.table_id) × (id ≡ id) in let Then : Type 0 = then got.0 u in
    sets ! (agg ! (no_more !)) refl (tt, tt) $ sets ! (agg ! (and_then ! (get ! refl) (no_more !))) refl (tt, (tt, tt)) $
    rewrite ! 1 (λ (x : TableId). ‵ (mine R cv.code x id u)) (sym at_table.0) refl $ move ! (3 ∷ 1 ∷ []) $ fjoin ! $
    move ! (3 ∷ 0 ∷ 4 ∷ 5 ∷ 6 ∷ []) $ closes ! tt Sr h' vs b″ o″ $ feq_i ! (List Val) (vptr b″ o″ ∷ []) (vptr b″ o″ ∷ []) refl $ fjoin3 ! $
    -- [the seat; its token; what is drawn; the table's token; the open token; what all know; the bank's token; the others]
    move ! (4 ∷ 3 ∷ []) $ obor_close ! tt $ drop ! $ move ! (1 ∷ []) $ nothing ! $ nothing ! $ fjoin ! $ move ! (1 ∷ 0 ∷ []) $ fjoin ! $
    nothing ! $ fjoin ! $ nothing ! $ fjoin ! $
    -- [the parameters; the tokens of the table and of the seat; what is drawn; what all know; the bank's token; the others]
    move ! (2 ∷ 6 ∷ []) $ join ! $ move ! (2 ∷ 0 ∷ []) $ join ! $ move ! (4 ∷ 0 ∷ []) $ join ! $ move ! (2 ∷ []) $
    use0 𝓛 (‵ (Peg.own_val (tt, tt) (token_val ∷ []))) (peg_made 𝓛) $ fjoin ! $
    use0 𝓛 (raw (fact 𝓤 Then)) (fact_i 𝓤 Then (emp 𝓤) told) $
    use0 𝓛 (raw (fact 𝓤 Ids)) (fact_i 𝓤 Ids (emp 𝓤) (refl, refl)) $ join ! $
    returns ! (look_at ! 0 refl) $ free_all ! refl $ keep ! (2 ∷ 3 ∷ 1 ∷ 0 ∷ []) $
    by ! (leaves 𝓛 En hs c y token_val new (tt, (tt, (h', (tt, tt)))) (tt, (tt, (tt, (tt, tt)))))))))))))))
