-- `found` cuts the seat's view in two, and puts the second part into an invariant.
use Rattle.atomic_table.proofs.Names.{◌≡◌, [], ◌∷◌, refl, sym, List, ℕ, a_type, named, Val, vptr, inst_fn, SProp, emp, later, await, ‵, raw, ◌⊛◌, ◌$◌, ◌∵◌, !, qed, by, keep, drop, split, split3, fjoin, use0, use1, use2, use3, move, fsplit, fsplit3, fjoin3, join, feq_i, fpick, returns, enter, alloc_all, pass_all, free_all, look_at, sets, tables, RattleType, RefOf, no_more, and_then, get, agg, owns, types_at, plain, nothing, opens, closes, heard, param, bounded, dcons, dnil, Stays, stay_dropped, stay_ref, walk_of, Goes-dropped, Goes-ref, fact, fact_i, ftrue, Fml, fsep, flft, Lft, yes, mut_vals, mut_Tells, shr_vals, shr_Tells, unhide, lent_out, hidden_shr, Ptr, block_ptr, Coded, Tuple, rewrite, shr_bor-open, obor_close, tokens_halve}
use base.Fml.{fhide}
use Rattle.core.specs.contracts.marker.PhantomData as marker
use Rattle.atomic_table.proofs.Walks.{proved, leaves}
use Rattle.atomic_table.specs.Table.{Me, Splits}
use Rattle.atomic_table.specs.Seated.{TableId, age, common, mine}
use Rattle.atomic_table.proofs.Fields.{HandData}
use Rattle.atomic_table.proofs.Moves.{common_twice}
use Rattle.sdd_witness.proofs.TableInvariant.{parts, two}
use Rattle.sdd_shared_values.specs.Bank.{bank_owns}
use Rattle.sdd_shared_values.proofs.BankDeals.{makes, BankData, bank_made}
use Rattle.sdd_shared_values.proofs.Fields.{token_val}
use base.Fml.{fex}
use Rattle.atomic_table.specs.contracts.shared.Shared as table
use Rattle.atomic_table.specs.contracts.shared.Seat as seat
use Rattle.sdd_shared_values.specs.contracts.value_fraction.ValueFraction as fraction
use Rattle.sdd_shared_values.specs.contracts.bank.Bank as bank
use Rattle.sdd_shared_values.specs.contracts.bank.Bank.found.{ended, clauses}
use Rattle.sdd_shared_values.specs.contracts.bank.Bank.found.Key.{name as #self}
use Rattle.sdd_shared_values.proofs.bank.Bank.found.Statement.{statement}
use Rattle.sdd_shared_values.proofs.bank.Bank.found.Code as code

pub found_spec : {M : Type 1} → statement M
unfolding Rattle.atomic_table.specs.Seated.seal
found_spec 𝓤 𝓛 𝓜 𝓡 wired V K P B Mv _ _ _ _ _ g d gB dB g' d' _ _ _ =
    let H = 𝓛.H in let 𝓣 = tables 𝓤 H 𝓜 𝓡 𝓡.env in let R : RattleType = fraction.the_row in let W : RattleType = param 0 V in
    let X : RattleType = param 1 K in let Y : RattleType = param 2 P in let Z : RattleType = param 3 B in let En = ended V K P B Mv g d gB dB g' d' in
    let inst = bounded (a_type ∷ a_type ∷ a_type ∷ a_type ∷ a_type ∷ []) (V, (K, (P, (B, (Mv, tt))))) (dcons d (dcons dB (dcons d' dnil))) in
    let fn = inst_fn inst code.function in
    let Row : RattleType = table.the_row R W X Y g in let Sr : RattleType = seat.the_row R W in let Br : RattleType = bank.the_row W X Y Z g gB in
    let D : RattleType = HandData R W X Y g in
    let about = RefOf (0 ∷ []) tt (plain (λ _. Row)) (λ _. tt) in let sitter = plain (λ _. Sr) in
    let hs : Stays En.signature.params En.kept = (stay_dropped about yes, (stay_ref (1 ∷ []) tt sitter, tt)) in
    let c = clauses V K P B Mv g d gB dB g' d' 𝓛 𝓜.mem 𝓡.returns in
    proved 𝓛 En hs c 𝓜 𝓡 (Goes-dropped 𝓛 7 about yes (λ κs x f. refl), (Goes-ref 𝓛 7 1 tt sitter, tt))
    (#self inst) fn (code.unfolded 𝓤 H 𝓜 𝓡 wired (V, (K, (P, (B, (Mv, tt))))) d dB d')
    (λ κs. (shr_vals, (mut_vals, tt)))
    (λ κs. (shr_Tells (named 0) κs.0 Row, (mut_Tells (named 1) κs.1.0 Sr, tt))) (λ κs qs bounds a gh are.
    let b : ℕ = a.0.ref_ptr.0 in let o : ℕ = a.0.ref_ptr.1 in let b' : ℕ = a.1.0.ref_ptr.0 in let o' : ℕ = a.1.0.ref_ptr.1 in
    let κ : Lft = κs.0 in let κ' : Lft = κs.1.0 in let t : Row.Denot = a.0.now in let h : Sr.Denot = a.1.0.now in
    let w : Ptr = t.words in let p : Ptr = t.slots in let z : TableId = t.table_id in let α : Lft = age z in let cv : Coded V.Denot = W.coded in
    let id : ℕ = h.id in let v : Me R.Denot V.Denot = h.me in let lv : V.Denot = g'.left v.0 in let rv : V.Denot = g'.right v.0 in
    let C : Fml = common R cv.code (g.holds t.key) w p z in
    let others : Fml = fsep (flft κs.1.1.0 qs.1.1.0) (fsep (flft κs.1.1.1.0 qs.1.1.1.0) (fsep (flft κs.1.1.1.1.0 qs.1.1.1.1.0)
    (fsep (flft κs.1.1.1.1.1.0 qs.1.1.1.1.1.0) (fsep (flft κs.1.1.1.1.1.1.0 qs.1.1.1.1.1.1.0) ftrue)))) in
    let AtTable : Type 0 = h.table_id ≡ z in let Cut : Type 0 = Splits (g.holds t.key) id v.0 lv rv in let Empty : Type 0 = gB.ours rv × (gB.banked rv ≡ []) in
    let y : (walk_of 𝓛 En hs c).Ghost = ((κs, qs, bounds, a, (vptr b o ∷ [], (vptr b' o' ∷ [], tt))), gh) in
    let Post : Val → SProp 𝓤 = (walk_of 𝓛 En hs c).post y in
    qed 𝓛 (((‵ (flft κ qs.0) ⊛ ‵ (flft κ' qs.1.0) ⊛ ‵ others) ⊛ ‵ (owns (types_at En.signature.params κs) a y.0.4)) ∷ raw (fact 𝓤 _) ∷ raw (fact 𝓤 _) ∷
    raw (fact 𝓤 _) ∷ raw (fact 𝓤 _) ∷ raw (fact 𝓤 _) ∷ raw (fact 𝓤 AtTable) ∷ raw (fact 𝓤 Cut) ∷ raw (fact 𝓤 Empty) ∷ []) ∵
    keep ! (6 ∷ 7 ∷ 8 ∷ 0 ∷ []) $ heard ! AtTable (λ at_table. heard ! Cut (λ cut. heard ! Empty (λ empty. split ! $ split3 ! $ move ! (3 ∷ []) $ fsplit3 ! $
    -- [the table; the seat; the rest; the tokens of the table, of the seat and of the others]
    fsplit ! $ drop ! $
    use1 𝓛 (‵ (hidden_shr D κ (w, (p, (tt, tt))) b o) ⊛ ‵ (fhide (table.the_lent R W X Y g t (block_ptr b o) κ))) (lent_out 𝓛 (table.struct R W X Y g)
    (table.the_codes R.Denot V.Denot K.Denot P.Denot R.coded W.coded X.coded Y.coded (marker.the_row (Tuple (Y ∷ W ∷ X ∷ []))).coded)
    (table.the_heap R W X Y g) (table.the_lent R W X Y g) κ t b o) $
    split ! $ drop ! $ move ! (1 ∷ []) $ fsplit3 ! $ keep ! (3 ∷ 1 ∷ 2 ∷ 5 ∷ 6 ∷ 7 ∷ []) $
    enter ! 𝓣.C 𝓣.Λ fn (vptr b o ∷ vptr b' o' ∷ []) Post $ alloc_all ! (λ l. pass_all ! refl ((tt, tt), ((tt, tt), tt)) $
    -- [the table; the seat's value; its borrow; the tokens]
    unhide ! $ fsplit ! $ move ! (0 ∷ 4 ∷ []) $
    shr_bor-open ! tt (tokens_halve 𝓛 α) (λ s. move ! (3 ∷ 4 ∷ 5 ∷ []) $
    opens ! tt Sr b' o' (λ vs. move ! (1 ∷ []) $ fsplit ! $ rewrite ! 1 (λ (u : TableId). ‵ (mine R cv.code u id v)) at_table refl $
    -- [the field; the seat's content; the cell; its open borrow, in three entries; the open token; the token; what all know of the table; the others]
    move ! (8 ∷ []) $ use1 𝓛 (‵ C ⊛ ‵ C) (common_twice 𝓛 R cv (g.holds t.key) w p z) $ split ! $
    move ! (0 ∷ 9 ∷ 3 ∷ []) $ use3 𝓛 (later (‵ (fex ℕ (two 𝓛 R cv (g.holds t.key) w p z s id v lv rv)) ⊛ ‵ (flft α s)))
    (parts 𝓛 R cv (g.holds t.key) w p z s id v lv rv cut) $ await ! tt $ split ! $ fpick ! (λ j. fsplit ! $
    -- [the seat's content; the bank's view; the token; what all know; the field; the cell; the open borrow; the open token; the others]
    move ! (3 ∷ 1 ∷ []) $
    use2 𝓛 (later (‵ (bank_owns R cv.code (g.holds t.key) gB.ours gB.banked z j))) (makes 𝓛 cv (g.holds t.key) w p z j gB.ours gB.banked rv empty) $
    await ! tt $
    let h' : Sr.Denot = record h { me = (lv, v.1) } in
    let new : Br.Denot = record { marker = record {}; table_id = z; id = j; key = t.key } in
    let Told : Type 0 = (h.table_id ≡ h.table_id) × (id ≡ id) × (h'.me ≡ h'.me) in
    let Made : Type 0 = (z ≡ z) × (t.key ≡ t.key) in
    sets ! (agg ! (no_more !)) refl (tt, tt) $ sets ! (agg ! (and_then ! (get ! refl) (no_more !))) refl (tt, (tt, tt)) $
    rewrite ! 1 (λ (x : TableId). ‵ (mine R cv.code x id (lv, v.1))) (sym at_table) refl $ move ! (3 ∷ 1 ∷ []) $ fjoin ! $
    move ! (3 ∷ 0 ∷ 4 ∷ 5 ∷ 6 ∷ []) $
    closes ! tt Sr h' vs b' o' $ feq_i ! (List Val) (vptr b' o' ∷ []) (vptr b' o' ∷ []) refl $ fjoin3 ! $
    -- [the seat; its token; the bank; the table's token; the open token; the others]
    move ! (4 ∷ 3 ∷ []) $ obor_close ! tt $ drop ! $ move ! (1 ∷ []) $ nothing ! $ move ! (1 ∷ 0 ∷ []) $ fjoin ! $ nothing ! $ fjoin ! $
    -- [the parameters; the table's token; the seat's; the bank; the others]
    move ! (2 ∷ 4 ∷ []) $ join ! $ move ! (2 ∷ 0 ∷ []) $ join ! $ move ! (2 ∷ []) $
    use0 𝓛 (‵ ((BankData W X Y Z g gB).own_val (tt, tt) (token_val ∷ []))) (bank_made W X Y Z g gB 𝓛) $ fjoin ! $
    use0 𝓛 (raw (fact 𝓤 Made)) (fact_i 𝓤 Made (emp 𝓤) (refl, refl)) $
    use0 𝓛 (raw (fact 𝓤 Told)) (fact_i 𝓤 Told (emp 𝓤) (refl, refl, refl)) $ join ! $
    returns ! (look_at ! 0 refl) $ free_all ! refl $ keep ! (2 ∷ 3 ∷ 1 ∷ 0 ∷ []) $
    by ! (leaves 𝓛 En hs c y token_val new (tt, (h', tt)) (tt, (tt, tt)))))))))))
