-- `look` opens what the seat carries and the place's rule, lends the tokens of the units to the section, and shows the value for as long as the section is
-- borrowed.
use Rattle.atomic_table.proofs.Names.{◌≡◌, ℕ, [], ◌∷◌, List, sym, refl, ap, ◌∙◌, a_type, named, Val, vptr, inst_fn, SProp, emp, Lft, Fml, ftrue, fsep, flft, ‵, raw, ◌⊛◌, some, given, later, at_ret, ◌$◌, ◌∵◌, !, qed, by, move, keep, drop, split, split3, join, fsplit, fsplit3, fjoin, fjoin3, pick, learn, use0, use1, use3, await, rewrite, feq_i, stop, fld, addr, of_opd, first, blocks, exec, returns, enter, alloc_all, pass_all, free_all, look_at, get, through, sets, sets_last, env, sub, whole, look_in, tables, yes, RattleType, owns, types_at, plain, Ptr, block_ptr, nothing, heard, param, bounded, dcons, dnil, Stays, stay_dropped, stay_ref, walk_of, Goes-dropped, Goes-ref, fact, fact_i, Is, shows, cell_at, peeks, block_of, count_of, at_block, RefOf, mut_vals, mut_Tells, shr_vals, shr_Tells, opens, closes, unhide, hidden_shr, looks, shuts, lent_out, Tuple, shr_bor-open, obor_close, tokens_halve, sem, sep, load, bin, vint, w64, usize, uint_vals, uint_Tells, fpick, ◌*◌, ◌+◌, ◌^◌, ◌<◌, arith}
use base.Fml.{fhide, finv}
use base.Logic.{ex}
use denote.Param.Laws.{param_laws}
use denote.Opens.{hide}
use denote.Struct.Lending.{lent_at, lent_at_shr_laws}
use lib.ListN.{set}
use Rattle.core.specs.contracts.marker.PhantomData as marker
use Rattle.atomic_table.proofs.Walks.{proved, leaves}
use Rattle.atomic_table.specs.Seated.{TableId, seen, carried, age, place as where_, names}
use Rattle.atomic_table.proofs.Fields.{HandData}
use Rattle.sdd_shared_values.specs.ValueFractions.{FractionContent, section_shares}
use Rattle.sdd_shared_values.specs.CarriedFractions.{contents, with_contents, OnlyLends}
use Rattle.sdd_shared_values.specs.SharedValues.{full_shown, rule, values_shares, CanShow, HasFractionShowing as ShowsAt}
use Rattle.sdd_shared_values.proofs.Rules.{rule_at}
use denote.Memory.{mem}
use types.Run.{size_lit}
use Rattle.core.proofs.ptr.Rows.{times_below, one_below}
use Rattle.core.proofs.slots.Bodies.{after}
use Rattle.atomic_table.specs.contracts.shared.Shared as table
use Rattle.atomic_table.specs.contracts.shared.Seat as seat
use Rattle.sdd_shared_values.specs.contracts.value_fraction.ValueFraction as fraction
use Rattle.sdd_rights.specs.Units.{fraction_shares}
use Rattle.sdd_rights.specs.contracts.fraction.Fraction as part
use Rattle.sdd_rights.proofs.Fields.{Pin}
use Rattle.sdd_values.specs.contracts.read_sections.SectionState as interpreter
use Rattle.sdd_shared_values.specs.contracts.shared_values.SharedValues as values
use Rattle.sdd_shared_values.proofs.Fields.{values_of, ValuesData, values_told, values_opens}
use Rattle.sdd_shared_values.proofs.ReadFractions.{lent_to, Shows, shows_beside}
use Rattle.sdd_shared_values.proofs.CarriedFractions.{with_all, set_long, lent_on}
use Rattle.sdd_shared_values.specs.contracts.shared_values.SharedValues.look.{ended, clauses}
use Rattle.sdd_shared_values.specs.contracts.shared_values.SharedValues.look.Key.{name as #self}
use Rattle.sdd_shared_values.proofs.shared_values.SharedValues.look.Statement.{statement}
use Rattle.sdd_shared_values.proofs.shared_values.SharedValues.look.Code as code

pub look_spec : {M : Type 1} → statement M
unfolding Rattle.atomic_table.specs.Seated.seal
look_spec 𝓤 𝓛 𝓜 𝓡 wired T F V K P L _ _ _ _ gF dF g d _ _ =
    let H = 𝓛.H in let A = 𝓛.A in let 𝓣 = tables 𝓤 H 𝓜 𝓡 𝓡.env in let R : RattleType = param 0 T in let B : RattleType = param 1 F in
    let W : RattleType = param 2 V in
    let X : RattleType = param 3 K in let Y : RattleType = param 4 P in let S : RattleType = fraction.the_row in let En = ended T F V K P gF dF g d in
    let inst = bounded (a_type ∷ a_type ∷ a_type ∷ a_type ∷ a_type ∷ []) (T, (F, (V, (K, (P, tt))))) (dcons dF (dcons d dnil)) in
    let fn = inst_fn inst code.function in
    let laws = (param_laws 0 T L).shr_laws in
    let Row : RattleType = values.the_row R B gF in let Sr : RattleType = seat.the_row S W in let Tr : RattleType = table.the_row S W X Y g in
    let Sg : RattleType = interpreter.the_row in let Ten : RattleType = part.the_row Sg in
    let D : RattleType = ValuesData R B gF in let DH : RattleType = HandData S W X Y g in let c = clauses T F V K P gF dF g d 𝓛 𝓜.mem 𝓡.returns in
    let self = RefOf (0 ∷ []) tt (plain (λ _. Row)) (λ _. tt) in let sitter = plain (λ _. Sr) in
    let about = RefOf (2 ∷ []) tt (plain (λ _. Tr)) (λ _. tt) in let arg = RefOf (3 ∷ []) tt (plain (λ _. Ten)) (λ _. tt) in let num = plain (λ _. usize) in
    let hs : Stays En.signature.params En.kept = (
      stay_dropped self yes,
      (
        stay_dropped num yes,
        (
          stay_ref (1 ∷ []) tt sitter,
          (
            stay_dropped about yes,
            (stay_dropped arg yes, tt),
          ),
        ),
      ),
    ) in
    proved 𝓛 En hs c 𝓜 𝓡 (
      Goes-dropped 𝓛 9 self yes (λ κs x f. refl),
      (
        Goes-dropped 𝓛 9 num yes (λ κs x f. refl),
        (
          Goes-ref 𝓛 9 1 tt sitter,
          (Goes-dropped 𝓛 9 about yes (λ κs x f. refl), (Goes-dropped 𝓛 9 arg yes (λ κs x f. refl), tt)),
        ),
      ),
    )
    (#self inst) fn (code.unfolded 𝓤 H 𝓜 𝓡 wired (T, (F, (V, (K, (P, tt))))) dF d)
    (λ κs. (shr_vals, (uint_vals w64, (mut_vals, (shr_vals, (shr_vals, tt))))))
    (λ κs. (
      shr_Tells (named 0) κs.0 Row,
      (
        uint_Tells w64,
        (
          mut_Tells (named 1) κs.1.0 Sr,
          (
            shr_Tells (named 2) κs.1.1.0 Tr,
            (shr_Tells (named 3) κs.1.1.1.0 Ten, tt),
          ),
        ),
      ),
    )) (λ κs qs bounds a gh are.
    let b : ℕ = a.0.ref_ptr.0 in let o : ℕ = a.0.ref_ptr.1 in let b' : ℕ = a.1.1.0.ref_ptr.0 in let o' : ℕ = a.1.1.0.ref_ptr.1 in
    let b″ : ℕ = a.1.1.1.0.ref_ptr.0 in let o″ : ℕ = a.1.1.1.0.ref_ptr.1 in let i : ℕ = a.1.0 in let c' : ℕ = a.1.1.1.1.0.ref_ptr.0 in
    let e' : ℕ = a.1.1.1.1.0.ref_ptr.1 in
    let κ : Lft = κs.0 in let κ‴ : Lft = κs.1.1.1.0 in let κ″ : Lft = κs.1.1.0 in let f : Row.Denot = a.0.now in let s : Sr.Denot = a.1.1.0.now in
    let t : Tr.Denot = a.1.1.1.0.now in let e : Ten.Denot = a.1.1.1.1.0.now in let τ : ℕ = e.lifetime in
    let p : Ptr = f.ptr in let γ : ℕ = f.gamma in let m : ℕ = f.size in let bp : ℕ = block_of p in let size : ℕ = (mem R).size in
    let op : ℕ = i * size + count_of p in let here : Ptr = block_ptr bp op in let z : TableId = t.table_id in let α : Lft = age z in let xs = s.me.1 in
    let hold : List FractionContent = contents xs in let ls = λ (x : T.Denot). lent_at_shr_laws R laws here x in
    let bag : TableId → List (ℕ × S.Denot) → Fml = λ u us. carried (age u) S (where_ u) (names u) u.slots us in
    let others : Fml = fsep (flft κs.1.1.1.0 qs.1.1.1.0) (fsep (flft κs.1.1.1.1.0 qs.1.1.1.1.0) (fsep (flft κs.1.1.1.1.1.0 qs.1.1.1.1.1.0)
    (fsep (flft κs.1.1.1.1.1.1.0 qs.1.1.1.1.1.1.0) (fsep (flft κs.1.1.1.1.1.1.1.0 qs.1.1.1.1.1.1.1.0)
    (fsep (flft κs.1.1.1.1.1.1.1.1.0 qs.1.1.1.1.1.1.1.1.0) ftrue))))) in let Fit : T.Denot → Type 0 = gF.fits f.table γ m in
    let AtTable : Type 0 = s.table_id ≡ z in let Inside : Type 0 = i < m in let Can : Type 0 = CanShow γ i τ hold in
    let y : (walk_of 𝓛 En hs c).Ghost = (
      (
        κs,
        qs,
        bounds,
        a,
        (
          vptr b o ∷ [],
          (
            vint w64 i ∷ [],
            (
              vptr b' o' ∷ [],
              (
                vptr b″ o″ ∷ [],
                (vptr c' e' ∷ [], tt),
              ),
            ),
          ),
        ),
      ),
      gh,
    ) in let Post : Val → SProp 𝓤 = (walk_of 𝓛 En hs c).post y in let there : Val = vptr bp op in
    qed 𝓛 (((‵ (flft κ qs.0) ⊛ ‵ (flft κs.1.0 qs.1.0) ⊛ ‵ (flft κ″ qs.1.1.0) ⊛ ‵ others) ⊛ ‵ (owns (types_at En.signature.params κs) a y.0.4)) ∷
    raw (fact 𝓤 _) ∷ raw (fact 𝓤 _) ∷ raw (fact 𝓤 _) ∷ raw (fact 𝓤 _) ∷ raw (fact 𝓤 _) ∷ raw (fact 𝓤 AtTable) ∷ raw (fact 𝓤 Inside) ∷ raw (fact 𝓤 Can) ∷ []) ∵
    keep ! (6 ∷ 7 ∷ 8 ∷ 0 ∷ []) $ heard ! AtTable (λ at_table. heard ! Inside (λ near. heard ! Can (λ sees. let n : ℕ = sees.place in
    let h : FractionContent = sees.one in let at = sees.there in let hold' : List FractionContent = set hold n (lent_to τ h) in
    let ys = with_contents xs hold' in
    let s' : Sr.Denot = record s { me = (s.me.0, ys) } in
    split ! $ split3 ! $ move ! (2 ∷ []) $ split ! $ move ! (4 ∷ []) $ fsplit ! $ move ! (1 ∷ []) $ fsplit ! $ drop ! $ fsplit ! $ move ! (2 ∷ 0 ∷ 1 ∷ []) $
    -- [self; the seat; the table and the section; the table's token; the others; the tokens of self and of the seat]
    move ! (2 ∷ []) $ fsplit3 ! $ move ! (1 ∷ []) $ fsplit ! $ drop ! $
    use1 𝓛 (‵ (hidden_shr (Pin Sg) κ‴ (tt, tt) c' e') ⊛ ‵ (fhide (fraction_shares Sg.coded e.home.name e.number e.lifetime e.kind e.shown κ‴)))
    (lent_out 𝓛 (part.struct Sg) (part.the_codes Sg.Denot Sg.coded (marker.the_row Sg).coded) (part.the_heap Sg) (part.the_lent Sg) κ‴ e c' e') $ split ! $
    drop ! $
    -- [the section; the table; _; self; the seat; ..]
    move ! (1 ∷ []) $ fsplit ! $ drop ! $
    use1 𝓛 (‵ (hidden_shr DH κ″ (t.words, (t.slots, (tt, tt))) b″ o″) ⊛ ‵ (fhide (table.the_lent S W X Y g t (block_ptr b″ o″) κ″)))
    (lent_out 𝓛 (table.struct S W X Y g) (table.the_codes S.Denot V.Denot K.Denot P.Denot S.coded W.coded X.coded Y.coded (marker.the_row (Tuple (Y ∷ W ∷ X ∷
    []))).coded) (table.the_heap S W X Y g) (table.the_lent S W X Y g) κ″ t b″ o″) $
    split ! $ drop ! $ move ! (3 ∷ []) $ fsplit ! $ drop ! $
    use1 𝓛 (‵ (hidden_shr D κ (p, (tt, tt)) b o) ⊛ ‵ (fhide (values_shares R Fit p γ m κ)))
    (lent_out 𝓛 (values.struct R B gF) (values.the_codes T.Denot F.Denot R.coded B.coded (marker.the_row B).coded)
    (values.the_heap R B gF) (values.the_lent R B gF) κ f b o) $ split ! $
    move ! (5 ∷ []) $ fsplit3 ! $ keep ! (3 ∷ 4 ∷ 5 ∷ 6 ∷ 1 ∷ 2 ∷ 8 ∷ 9 ∷ 10 ∷ 11 ∷ []) $
    -- [the field; the rule; the table; the section; the seat's value; its borrow; the table's token; the others; the tokens of self and of the seat]
    enter ! 𝓣.C 𝓣.Λ fn (vptr b o ∷ vint w64 i ∷ vptr b' o' ∷ vptr b″ o″ ∷ vptr c' e' ∷ []) Post $
    alloc_all ! (λ l. pass_all ! refl ((tt, tt), ((tt, record { fits = are.1.0.1 }), ((tt, tt), ((tt, tt), ((tt, tt), tt))))) $ let Ev = env fn.locals l in
    move ! (1 ∷ []) $ unhide ! $ fsplit ! $ fpick ! (λ fit. drop ! $
    let small : size < 2 ^ 63 = one_below m size (2 ^ 63) (omega arith) fit.1 in let tiny : size < 2 ^ 64 = omega arith in
    let near_enough : i * size < 2 ^ 63 = times_below i m size (2 ^ 63) (omega arith) fit.1 in let fm : i * size < 2 ^ 64 = omega arith in
    use1 𝓛 (‵ (finv (rule R here γ i Fit))) (rule_at 𝓛 R Fit bp γ m (count_of p) i near) $
    move ! (3 ∷ []) $ unhide ! $ fsplit ! $ drop ! $ move ! (3 ∷ []) $ unhide ! $ fsplit ! $ move ! (1 ∷ []) $ drop ! $ move ! (0 ∷ 6 ∷ []) $
    shr_bor-open ! tt (tokens_halve 𝓛 α) (λ r. move ! (5 ∷ 6 ∷ 9 ∷ []) $
    opens ! tt Sr b' o' (λ ts. move ! (1 ∷ []) $ fsplit ! $ move ! (1 ∷ []) $ fsplit ! $ move ! (1 ∷ []) $
    rewrite ! 0 (λ (u : TableId). ‵ (bag u xs)) at_table refl $
    move ! (10 ∷ 9 ∷ []) $ join ! $ move ! (1 ∷ 9 ∷ 0 ∷ []) $
    use3 𝓛 (later (‵ (bag z ys) ⊛ ‵ (flft α r) ⊛ some (λ (x : T.Denot). given ((h.shown ≡ full_shown (R.coded.code x)) × Fit x) (‵ (lent_at R here x κ‴)))))
    (with_all 𝓛 α (where_ z) (names z) z.slots xs hold' r (sep 𝓤 (A.inv (rule R here γ i Fit)) (sem 𝓛 (section_shares τ κ‴)))
    (ex 𝓤 (Shows 𝓛 R Fit here γ i ls h κ‴)) (set_long xs n (lent_to τ h))
    (shows_beside 𝓛 R Fit here γ i ls hold n τ h κ‴ at sees.of_gamma sees.of_number sees.full sees.free)) $ await ! tt $ split3 ! $
    move ! (2 ∷ []) $ pick ! (λ x. learn ! (λ so. move ! (1 ∷ []) $ rewrite ! 0 (λ (u : TableId). ‵ (bag u ys)) (sym at_table) refl $ move ! (3 ∷ 0 ∷ []) $
    fjoin ! $ move ! (3 ∷ 0 ∷ []) $ fjoin ! $
    move ! (3 ∷ 0 ∷ 4 ∷ 5 ∷ 6 ∷ []) $ closes ! tt Sr s' ts b' o' $ feq_i ! (List Val) (vptr b' o' ∷ []) (vptr b' o' ∷ []) refl $ fjoin3 ! $
    move ! (4 ∷ 3 ∷ []) $ obor_close ! tt $ drop ! $ move ! (1 ∷ 2 ∷ 3 ∷ 4 ∷ 6 ∷ []) $
    -- [the seat; its token; the value; the field; the token; the table's token; the others]
    move ! (2 ∷ 3 ∷ 4 ∷ []) $ fsplit ! $ drop ! $ hide ! $ move ! (1 ∷ 2 ∷ []) $
    looks ! tt D (values_opens R B gF 𝓛) (p, (tt, tt)) b o (λ q vs. move ! (1 ∷ []) $ peeks ! D (Is D) (shows 𝓛 D) (p, (tt, tt)) vs (λ is-so.
    let ev : vs ≡ values_of (block_ptr bp (count_of p)) ∷ [] = values_told R B gF p vs is-so ∙ ap (λ (r : Ptr). values_of r ∷ []) (at_block p fit.0) in
    rewrite ! 1 (λ (ws : List Val). ‵ (cell_at q D.mir ws b o)) ev refl $ first ! $ blocks ! $
    sets ! (of_opd ! (load ! (through ! refl (fld ! refl (stop !))) (look_in ! 1 (sub ! 0 refl (whole !))))) refl (tt, tt) $
    rewrite ! 1 (λ (ws : List Val). ‵ (cell_at q D.mir ws b o)) (sym ev) refl $ move ! (1 ∷ 0 ∷ 2 ∷ []) $ shuts ! tt D q (p, (tt, tt)) vs b o $
    sets ! (bin ! (get ! refl) (size_lit ! (record { fits = tiny })) (record { fits = fm })) refl (tt, record { fits = fm }) $
    sets ! (bin ! (get ! refl) (get ! refl) tt) refl (tt, tt) $ sets_last ! (addr ! (through ! refl (stop !))) refl (tt, tt) $
    exec ! 𝓣.C 𝓣.Λ Ev (after 1 fn.body) (at_ret Ev Post) $ sets ! (of_opd ! (get ! refl)) refl (tt, tt) $
    move ! (5 ∷ 6 ∷ []) $ join ! $ move ! (5 ∷ 0 ∷ []) $ join ! $ move ! (1 ∷ 0 ∷ []) $ join ! $ move ! (2 ∷ []) $
    feq_i ! (List Val) (there ∷ []) (there ∷ []) refl $ fjoin ! $
    move ! (3 ∷ []) $ nothing ! $ nothing ! $ fjoin ! $ nothing ! $ fjoin ! $ move ! (1 ∷ 0 ∷ []) $ fjoin ! $ nothing ! $ fjoin ! $ nothing ! $ fjoin ! $
    let Value : Type 0 = ShowsAt γ i (full_shown (R.coded.code x)) hold in let Lends : Type 0 = OnlyLends τ xs s'.me.1 in
    use0 𝓛 (raw (fact 𝓤 (Fit x))) (fact_i 𝓤 (Fit x) (emp 𝓤) so.1) $ use0 𝓛 (raw (fact 𝓤 Value)) (fact_i 𝓤 Value (emp 𝓤)
    (record { place = n; one = h; there = at; of_gamma = sees.of_gamma; of_number = sees.of_number; shows = so.0 })) $ join ! $
    use0 𝓛 (raw (fact 𝓤 Lends)) (fact_i 𝓤 Lends (emp 𝓤) (lent_on τ xs n h at)) $ join ! $
    use0 𝓛 (raw (fact 𝓤 (s' ≡ s'))) (fact_i 𝓤 (s' ≡ s') (emp 𝓤) refl) $ join ! $
    returns ! (look_at ! 0 refl) $ free_all ! refl $ keep ! (3 ∷ 1 ∷ 2 ∷ 0 ∷ []) $
    by ! (leaves 𝓛 En hs c y there (record { ref_ptr = (bp, op); now = x }) (tt, (tt, (s', (tt, (tt, tt))))) (tt, (tt, (tt, (tt, (tt, tt))))))))))))))))))
