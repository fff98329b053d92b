-- `settle` opens all that the seat carries, and takes back what was lent, by the end of the section.
use Rattle.atomic_table.proofs.Names.{◌≡◌, [], ◌∷◌, refl, sym, List, ℕ, a_type, named, Val, vptr, vunit, inst_fn, SProp, emp, later, await, ‵, raw, ◌⊛◌, ◌$◌, ◌∵◌, !, qed, by, keep, drop, split, split3, fjoin, use0, use1, use3, move, fsplit, fsplit3, fjoin3, join, feq_i, of_opd, unit_lit, returns, enter, alloc_all, pass_all, free_all, look_at, sets, tables, RattleType, RefOf, owns, types_at, plain, nothing, opens, closes, heard, param, bounded, dcons, dnil, Stays, stay_dropped, stay_ref, walk_of, Goes-dropped, Goes-ref, fact, fact_i, ftrue, Fml, fsep, flft, Lft, yes, mut_vals, mut_Tells, shr_vals, shr_Tells, unhide, lent_out, hidden_shr, Ptr, block_ptr, Coded, Tuple, rewrite, shr_bor-open, obor_close, tokens_halve, sem}
use base.Fml.{fhide, fdead}
use denote.Builtin.{u64}
use denote.Struct.Struct.{Struct}
use denote.Struct.Owning.{shape}
use Rattle.core.specs.contracts.marker.PhantomData as marker
use Rattle.atomic_table.proofs.Walks.{proved, leaves}
use Rattle.atomic_table.specs.Seated.{TableId, seen, carried, age, place, names, lasts, common, mine}
use Rattle.atomic_table.proofs.Fields.{HandData}
use base.Share.{three_quarters}
use Rattle.sdd_values.specs.ReadSection.{ended_shares}
use Rattle.sdd_shared_values.specs.ValueFractions.{FractionContent, AllFreeFor, settled}
use Rattle.sdd_shared_values.specs.CarriedFractions.{contents, with_contents}
use Rattle.sdd_shared_values.proofs.LentUnits.{with_end}
use Rattle.sdd_shared_values.proofs.CarriedFractions.{with_all, same_length}
use Rattle.atomic_table.specs.contracts.shared.Shared as table
use Rattle.atomic_table.specs.contracts.shared.Seat as seat
use Rattle.sdd_shared_values.specs.contracts.value_fraction.ValueFraction as fraction
use Rattle.sdd_values.specs.contracts.ended_section.EndedSection as over
use Rattle.sdd_shared_values.specs.contracts.seats.settle.{ended, clauses}
use Rattle.sdd_shared_values.specs.contracts.seats.settle.Key.{name as #self}
use Rattle.sdd_shared_values.proofs.seats.settle.Statement.{statement}
use Rattle.sdd_shared_values.proofs.seats.settle.Code as code

pub settle_spec : {M : Type 1} → statement M
unfolding Rattle.atomic_table.specs.Seated.seal
settle_spec 𝓤 𝓛 𝓜 𝓡 wired V K P _ _ _ g d _ =
    let H = 𝓛.H in let A = 𝓛.A in let 𝓣 = tables 𝓤 H 𝓜 𝓡 𝓡.env in let R : RattleType = fraction.the_row in let W : RattleType = param 0 V in
    let X : RattleType = param 1 K in let Y : RattleType = param 2 P in let En = ended V K P g d in
    let inst = bounded (a_type ∷ a_type ∷ a_type ∷ []) (V, (K, (P, tt))) (dcons d dnil) in let fn = inst_fn inst code.function in
    let Row : RattleType = table.the_row R W X Y g in let Sr : RattleType = seat.the_row R W in let Er : RattleType = over.the_row in
    let D : RattleType = HandData R W X Y g in let DT : RattleType = Struct (shape over.the_type) in
    let sitter = plain (λ _. Sr) in let about = RefOf (1 ∷ []) tt (plain (λ _. Row)) (λ _. tt) in let arg = RefOf (2 ∷ []) tt (plain (λ _. Er)) (λ _. tt) in
    let hs : Stays En.signature.params En.kept = (stay_ref (0 ∷ []) tt sitter, (stay_dropped about yes, (stay_dropped arg yes, tt))) in
    let c = clauses V K P g d 𝓛 𝓜.mem 𝓡.returns in
    proved 𝓛 En hs c 𝓜 𝓡 (Goes-ref 𝓛 6 0 tt sitter, (Goes-dropped 𝓛 6 about yes (λ κs x f. refl), (Goes-dropped 𝓛 6 arg yes (λ κs x f. refl), tt)))
    (#self inst) fn (code.unfolded 𝓤 H 𝓜 𝓡 wired (V, (K, (P, tt))) d)
    (λ κs. (mut_vals, (shr_vals, (shr_vals, tt))))
    (λ κs. (mut_Tells (named 0) κs.0 Sr, (shr_Tells (named 1) κs.1.0 Row, (shr_Tells (named 2) κs.1.1.0 Er, tt)))) (λ κs qs bounds a gh are.
    let b : ℕ = a.0.ref_ptr.0 in let o : ℕ = a.0.ref_ptr.1 in let b' : ℕ = a.1.0.ref_ptr.0 in let o' : ℕ = a.1.0.ref_ptr.1 in
    let b″ : ℕ = a.1.1.0.ref_ptr.0 in let o″ : ℕ = a.1.1.0.ref_ptr.1 in
    let κ : Lft = κs.0 in let κ' : Lft = κs.1.0 in let κ″ : Lft = κs.1.1.0 in let h : Sr.Denot = a.0.now in let t : Row.Denot = a.1.0.now in
    let e : Er.Denot = a.1.1.0.now in
    let w : Ptr = t.words in let p : Ptr = t.slots in let z : TableId = t.table_id in let α : Lft = age z in let cv : Coded V.Denot = W.coded in
    let xs = h.me.1 in let ls : List FractionContent = settled (contents xs) in let ys = with_contents xs ls in
    let half : Fml = seen cv.code h.table_id.views_name h.id three_quarters h.me.0 in
    let others : Fml = fsep (flft κ″ qs.1.1.0) (fsep (flft κs.1.1.1.0 qs.1.1.1.0) (fsep (flft κs.1.1.1.1.0 qs.1.1.1.1.0)
    (fsep (flft κs.1.1.1.1.1.0 qs.1.1.1.1.1.0) ftrue))) in
    let h' : Sr.Denot = record h { me = (h.me.0, ys) } in let AtTable : Type 0 = h.table_id ≡ z in let Lent : Type 0 = AllFreeFor e.name (contents xs) in
    let Told : Type 0 = h' ≡ h' in let Dead : Fml = fdead (e.name ∷ []) in
    let bag : TableId → List (ℕ × R.Denot) → Fml = λ u us. carried (age u) R (place u) (names u) u.slots us in
    let y : (walk_of 𝓛 En hs c).Ghost = ((κs, qs, bounds, a, (vptr b o ∷ [], (vptr b' o' ∷ [], (vptr b″ o″ ∷ [], tt)))), gh) in
    let Post : Val → SProp 𝓤 = (walk_of 𝓛 En hs c).post y in
    qed 𝓛 (((‵ (flft κ qs.0) ⊛ ‵ (flft κ' qs.1.0) ⊛ ‵ others) ⊛ ‵ (owns (types_at En.signature.params κs) a y.0.4)) ∷ raw (fact 𝓤 _) ∷ raw (fact 𝓤 _) ∷
    raw (fact 𝓤 _) ∷ raw (fact 𝓤 AtTable) ∷ raw (fact 𝓤 Lent) ∷ []) ∵
    keep ! (4 ∷ 5 ∷ 0 ∷ []) $ heard ! AtTable (λ at_table. heard ! Lent (λ lent. split ! $ split3 ! $ move ! (3 ∷ []) $ fsplit3 ! $
    -- [the seat; the table; what shows the end, and the rest; the tokens]
    move ! (2 ∷ []) $ fsplit ! $ fsplit ! $ drop ! $
    use1 𝓛 (‵ (hidden_shr DT κ″ (tt, tt) b″ o″) ⊛ ‵ (fhide (ended_shares e.name κ″)))
    (lent_out 𝓛 over.struct (over.the_codes (marker.the_row u64).coded) over.the_heap over.the_lent κ″ e b″ o″) $ split ! $ drop ! $
    -- [the end; the rest; the seat; the table; the tokens]
    move ! (3 ∷ []) $ fsplit ! $ drop ! $
    use1 𝓛 (‵ (hidden_shr D κ' (w, (p, (tt, tt))) b' o') ⊛ ‵ (fhide (table.the_lent R W X Y g t (block_ptr b' o') κ'))) (lent_out 𝓛 (table.struct R W X Y g)
    (table.the_codes R.Denot V.Denot K.Denot P.Denot R.coded W.coded X.coded Y.coded (marker.the_row (Tuple (Y ∷ W ∷ X ∷ []))).coded)
    (table.the_heap R W X Y g) (table.the_lent R W X Y g) κ' t b' o') $
    split ! $ drop ! $ move ! (3 ∷ []) $ fsplit3 ! $
    -- [_; the seat's value; its borrow; the table; the end; the rest; the tokens]
    keep ! (4 ∷ 3 ∷ 1 ∷ 2 ∷ 6 ∷ 7 ∷ 8 ∷ []) $
    enter ! 𝓣.C 𝓣.Λ fn (vptr b o ∷ vptr b' o' ∷ vptr b″ o″ ∷ []) Post $ alloc_all ! (λ l. pass_all ! refl ((tt, tt), ((tt, tt), ((tt, tt), tt))) $
    unhide ! $ move ! (1 ∷ []) $ unhide ! $ fsplit ! $ move ! (1 ∷ []) $ drop ! $ move ! (0 ∷ 5 ∷ []) $
    -- [the table's lifetime; its token; the end; the seat; ..]
    shr_bor-open ! tt (tokens_halve 𝓛 α) (λ s. move ! (3 ∷ 4 ∷ 5 ∷ []) $
    opens ! tt Sr b o (λ vs. move ! (1 ∷ []) $ fsplit ! $ move ! (1 ∷ []) $ fsplit ! $ move ! (1 ∷ []) $
    rewrite ! 0 (λ (u : TableId). ‵ (bag u xs)) at_table refl $
    -- [what is carried; the view; the field; the cell; the open borrow; the names; the open token; the token; the end; the others]
    move ! (0 ∷ 8 ∷ 9 ∷ []) $ use3 𝓛 (later (‵ (bag z ys) ⊛ ‵ (flft α s) ⊛ ‵ ftrue)) (with_all 𝓛 α (place z) (names z) z.slots xs ls s (sem 𝓛 Dead)
    (sem 𝓛 ftrue) (same_length xs) (with_end 𝓛 e.name (contents xs) lent)) $ await ! tt $ split3 ! $
    rewrite ! 0 (λ (u : TableId). ‵ (bag u ys)) (sym at_table) refl $ move ! (3 ∷ 0 ∷ []) $ fjoin ! $ move ! (3 ∷ 0 ∷ []) $ fjoin ! $
    move ! (3 ∷ 0 ∷ 4 ∷ 5 ∷ 6 ∷ []) $
    closes ! tt Sr h' vs b o $ feq_i ! (List Val) (vptr b o ∷ []) (vptr b o ∷ []) refl $ fjoin3 ! $
    -- [the seat; its token; the table's token; _; the open token; the others]
    move ! (4 ∷ 2 ∷ []) $ obor_close ! tt $ drop ! $ move ! (1 ∷ []) $ nothing ! $ nothing ! $ fjoin ! $ nothing ! $ fjoin ! $ move ! (1 ∷ 0 ∷ []) $ fjoin ! $
    -- [the parameters; the table's token; the seat's; _; the others]
    move ! (1 ∷ 4 ∷ []) $ join ! $ move ! (2 ∷ 0 ∷ []) $ join ! $
    sets ! (of_opd ! (unit_lit !)) refl (tt, tt) $ use0 𝓛 (raw (fact 𝓤 Told)) (fact_i 𝓤 Told (emp 𝓤) refl) $ feq_i ! (List Val) (vunit ∷ []) (vunit ∷ []) refl $
    returns ! (look_at ! 0 refl) $ free_all ! refl $ keep ! (2 ∷ 3 ∷ 0 ∷ 1 ∷ []) $
    by ! (leaves 𝓛 En hs c y vunit tt (h', (tt, (tt, tt))) (tt, (tt, (tt, tt))))))))))
