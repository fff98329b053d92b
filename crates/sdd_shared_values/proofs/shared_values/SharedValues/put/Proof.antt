-- `put` opens what the seat carries, moves a value in, and lends it for the lifetime of the number.
use Rattle.atomic_table.proofs.Names.{◌≡◌, ℕ, [], ◌∷◌, List, sym, refl, ap, ◌∙◌, a_type, Val, vptr, inst_fn, SProp, emp, Lft, Fml, ftrue, fsep, flft, ‵, raw, ◌⊛◌, given, later, at_ret, ◌$◌, ◌∵◌, !, qed, by, move, keep, drop, split, split3, join, fsplit, fsplit3, fjoin, fjoin3, learn, use0, use1, use3, await, rewrite, feq_i, stop, fld, of_opd, first, blocks, exec, returns, enter, alloc_all, pass_all, free_all, look_at, get, through, sets, env, sub, whole, look_in, tables, yes, RattleType, owns, types_at, plain, Ptr, block_ptr, nothing, heard, param, bounded, dcons, dnil, Stays, stay_dropped, stay_ref, walk_of, Goes-dropped, Goes-ref, fact, fact_i, Is, shows, cell_at, peeks, RefOf, opens, closes, unhide, hidden_shr, looks, shuts, lent_out, Tuple, shr_bor-open, obor_close, tokens_halve, sem, all_e, apply∗, use2, load, no, vint, w64, usize, ent, subst, fpick, fpack, WpFn, vunit, unit_lit, full_share, Share, bin, ◌*◌, ◌+◌, ◌^◌, ◌<◌, arith, block_of, count_of, at_block}
use base.Fml.{fhide, finv, flent, froom, fex}
use base.Logic.{sep, all}
use base.FractionLaws.{Counts}
use base.Stored.{Gv, gnil, gnum}
use types.Run.{init, assigns_last}
use denote.Param.{layout}
use denote.Param.Laws.{param_laws}
use denote.Memory.{part_at}
use denote.RawPtr.{lies_at}
use denote.Struct.Lending.{lent_at, Lends-lies}
use borrow.Table.OneValue.{part_in}
use contract.BorrowLft.{◌⊑◌}
use Rattle.core.proofs.mem.Param.{El, lawful, Good, one}
use Rattle.core.specs.contracts.marker.PhantomData as marker
use Rattle.atomic_table.proofs.Walks.{proved_at, leaves}
use Rattle.atomic_table.specs.Seated.{TableId, carried, age, place as where_, names}
use Rattle.atomic_table.proofs.Fields.{HandData}
use Rattle.sdd_rights.specs.Units.{units}
use Rattle.sdd_shared_values.specs.ValueFractions.{FractionContent, agreed_on, part, holdings}
use Rattle.sdd_shared_values.specs.CarriedFractions.{contents, with_contents}
use Rattle.sdd_shared_values.proofs.Rules.{rule_at}
use denote.Memory.{mem}
use types.Run.{size_lit}
use Rattle.core.proofs.ptr.Rows.{times_below, one_below}
use Rattle.core.proofs.slots.Bodies.{after}
use Rattle.sdd_shared_values.specs.SharedValues.{IsNoValueCode, full_shown, rule, values_shares, vacancy, most, AreWhole, HasWhole, top_turned}
use Rattle.atomic_table.specs.contracts.shared.Shared as table
use Rattle.atomic_table.specs.contracts.shared.Seat as seat
use Rattle.sdd_shared_values.specs.contracts.value_fraction.ValueFraction as fraction
use Rattle.sdd_shared_values.specs.contracts.shared_values.SharedValues as values
use Rattle.sdd_shared_values.proofs.Fields.{values_of, ValuesData, values_told, values_opens}
use Rattle.sdd_shared_values.proofs.CarriedFractions.{Shuts, opens_all, contents_long}
use Rattle.sdd_shared_values.proofs.WholeFractions.{whole_out, whole_in, top_long, agree_top}
use Rattle.sdd_shared_values.proofs.ValueMoves.{opens_room, freezes, fills}
use Rattle.sdd_shared_values.specs.contracts.shared_values.SharedValues.put.{ended, clauses}
use Rattle.sdd_shared_values.specs.contracts.shared_values.SharedValues.put.Key.{name as #self}
use Rattle.sdd_shared_values.proofs.shared_values.SharedValues.put.Statement.{statement}
use Rattle.sdd_shared_values.proofs.shared_values.SharedValues.put.Code as code

abbrev Six : Type 0
Six = List Val × (List Val × (List Val × (List Val × (List Val × (List Val × Unit {0})))))

pub put_spec : {M : Type 1} → statement M
unfolding Rattle.atomic_table.specs.Seated.seal
put_spec 𝓤 𝓛 𝓜 𝓡 wired T F V K P L _ _ _ _ gF dF g d _ _ =
    let H = 𝓛.H in let A = 𝓛.A in let 𝓣 = tables 𝓤 H 𝓜 𝓡 𝓡.env in let E : El = record { row = T; laws = L } in let R : RattleType = param 0 T in
    let B : RattleType = param 1 F in let W : RattleType = param 2 V in let X : RattleType = param 3 K in let Y : RattleType = param 4 P in
    let S : RattleType = fraction.the_row in
    let En = ended T F V K P gF dF g d in
    let inst = bounded (a_type ∷ a_type ∷ a_type ∷ a_type ∷ a_type ∷ []) (T, (F, (V, (K, (P, tt))))) (dcons dF (dcons d dnil)) in
    let fn = inst_fn inst code.function in
    let ty = layout T in let LR = param_laws 0 T L in
    let Row : RattleType = values.the_row R B gF in let Sr : RattleType = seat.the_row S W in let Tr : RattleType = table.the_row S W X Y g in
    let D : RattleType = ValuesData R B gF in let DH : RattleType = HandData S W X Y g in let c = clauses T F V K P gF dF g d 𝓛 𝓜.mem 𝓡.returns in
    let self = RefOf (0 ∷ []) tt (plain (λ _. Row)) (λ _. tt) in let sitter = plain (λ _. Sr) in
    let about = RefOf (2 ∷ []) tt (plain (λ _. Tr)) (λ _. tt) in let num = plain (λ _. usize) in let arg = plain (λ _. R) in
    let hs : Stays En.signature.params En.kept = (
      stay_dropped self yes,
      (
        stay_dropped num yes,
        (
          stay_ref (1 ∷ []) tt sitter,
          (
            stay_dropped about yes,
            (stay_dropped num yes, (stay_dropped arg no, tt)),
          ),
        ),
      ),
    ) in
    proved_at 𝓛 En hs c 𝓜 𝓡 (
      Goes-dropped 𝓛 8 self yes (λ κs x f. refl),
      (
        Goes-dropped 𝓛 8 num yes (λ κs x f. refl),
        (
          Goes-ref 𝓛 8 1 tt sitter,
          (Goes-dropped 𝓛 8 about yes (λ κs x f. refl), (Goes-dropped 𝓛 8 num yes (λ κs x f. refl), (Goes-dropped 𝓛 8 arg no (λ κs x f. refl), tt))),
        ),
      ),
    )
    (#self inst) fn (code.unfolded 𝓤 H 𝓜 𝓡 wired (T, (F, (V, (K, (P, tt))))) dF d)
    (λ y₀ are. let κs = y₀.0.0 in let qs = y₀.0.1 in let a = y₀.0.3 in
    let b : ℕ = a.0.ref_ptr.0 in let o : ℕ = a.0.ref_ptr.1 in let b' : ℕ = a.1.1.0.ref_ptr.0 in let o' : ℕ = a.1.1.0.ref_ptr.1 in
    let b″ : ℕ = a.1.1.1.0.ref_ptr.0 in let o″ : ℕ = a.1.1.1.0.ref_ptr.1 in let i : ℕ = a.1.0 in let k : ℕ = a.1.1.1.1.0 in
    let κ : Lft = κs.0 in let κ″ : Lft = κs.1.1.0 in let f : Row.Denot = a.0.now in let s : Sr.Denot = a.1.1.0.now in let t : Tr.Denot = a.1.1.1.0.now in
    let p : Ptr = f.ptr in let γ : ℕ = f.gamma in let N : ℕ = f.size in let bp : ℕ = block_of p in let size : ℕ = (mem R).size in
    let op : ℕ = i * size + count_of p in let here : Ptr = block_ptr bp op in let z : TableId = t.table_id in let α : Lft = age z in let xs = s.me.1 in
    let hold : List FractionContent = contents xs in let more : List FractionContent = lib.ListN.drop k hold in
    let bag : TableId → List (ℕ × S.Denot) → Fml = λ u us. carried (age u) S (where_ u) (names u) u.slots us in
    let x : T.Denot = a.1.1.1.1.1.0 in let μ : Lft = κs.1.1.1.0 in let qμ : Share = qs.1.1.1.0 in
    let others : Fml = fsep (flft μ qμ) (fsep (flft κs.1.1.1.1.0 qs.1.1.1.1.0) (fsep (flft κs.1.1.1.1.1.0 qs.1.1.1.1.1.0)
    (fsep (flft κs.1.1.1.1.1.1.0 qs.1.1.1.1.1.1.0) (fsep (flft κs.1.1.1.1.1.1.1.0 qs.1.1.1.1.1.1.1.0) ftrue)))) in
    let Fit : T.Denot → Type 0 = gF.fits f.table γ N in
    let AtTable : Type 0 = s.table_id ≡ z in let Inside : Type 0 = i < N in let All : Type 0 = HasWhole γ i k IsNoValueCode hold in
    let InX : Type 0 = μ ⊑ T.lives in
    let got = one E y₀.0.4.1.1.1.1.1.0 ((lawful E 𝓛).typed x y₀.0.4.1.1.1.1.1.0 are.1.1.1.1.1.0) in let vy : Val = got.0 in let fy : Good E vy = got.2 in
    let At : Six → (walk_of 𝓛 En hs c).Ghost = λ vss. ((κs, qs, y₀.0.2, a, vss), y₀.1) in
    let y : (walk_of 𝓛 En hs c).Ghost = At (vptr b o ∷ [], (vint w64 i ∷ [], (vptr b' o' ∷ [], (vptr b″ o″ ∷ [], (vint w64 k ∷ [], (vy ∷ [], tt)))))) in
    let Post : Val → SProp 𝓤 = (walk_of 𝓛 En hs c).post y in
    subst (λ (vss : Six). ent 𝓤 ((walk_of 𝓛 En hs c).pre (At vss)) (WpFn 𝓤 H 𝓣.C 𝓣.Λ fn ((walk_of 𝓛 En hs c).args (At vss))
    ((walk_of 𝓛 En hs c).post (At vss))))
    (λ j. (sym are.0.0 j, (sym are.1.0.0 j, (sym are.1.1.0.0 j, (sym are.1.1.1.0.0 j, (sym are.1.1.1.1.0.0 j, (sym got.1 j, tt))))))) (
    qed 𝓛 (((‵ (flft κ qs.0) ⊛ ‵ (flft κs.1.0 qs.1.0) ⊛ ‵ (flft κ″ qs.1.1.0) ⊛ ‵ others) ⊛ ‵ (owns (types_at En.signature.params κs) a y.0.4)) ∷
    raw (fact 𝓤 InX) ∷ raw (fact 𝓤 _) ∷ raw (fact 𝓤 _) ∷ raw (fact 𝓤 _) ∷ raw (fact 𝓤 _) ∷ raw (fact 𝓤 AtTable) ∷ raw (fact 𝓤 Inside) ∷
    raw (fact 𝓤 All) ∷ raw (fact 𝓤 (Fit x)) ∷ []) ∵ keep ! (6 ∷ 7 ∷ 8 ∷ 9 ∷ 1 ∷ 0 ∷ []) $
    heard ! AtTable (λ at_table. heard ! Inside (λ near. heard ! All (λ top. heard ! (Fit x) (λ fits. heard ! InX (λ le. let n : ℕ =
    top.newest.lifetime in let w : Gv = full_shown (R.coded.code x) in
    split ! $ split3 ! $ move ! (2 ∷ []) $ split ! $ move ! (4 ∷ []) $ fsplit ! $ move ! (1 ∷ []) $ fsplit ! $ drop ! $ fsplit ! $ move ! (2 ∷ 0 ∷ 1 ∷ []) $
    move ! (2 ∷ []) $ fsplit3 ! $ fsplit ! $ drop ! $
    use1 𝓛 (‵ (hidden_shr DH κ″ (t.words, (t.slots, (tt, tt))) b″ o″) ⊛ ‵ (fhide (table.the_lent S W X Y g t (block_ptr b″ o″) κ″)))
    (lent_out 𝓛 (table.struct S W X Y g) (table.the_codes S.Denot V.Denot K.Denot P.Denot S.coded W.coded X.coded Y.coded (marker.the_row (Tuple (Y ∷ W ∷ X ∷
    []))).coded) (table.the_heap S W X Y g) (table.the_lent S W X Y g) κ″ t b″ o″) $
    split ! $ drop ! $ move ! (3 ∷ []) $ fsplit ! $ drop ! $
    use1 𝓛 (‵ (hidden_shr D κ (p, (tt, tt)) b o) ⊛ ‵ (fhide (values_shares R Fit p γ N κ)))
    (lent_out 𝓛 (values.struct R B gF) (values.the_codes T.Denot F.Denot R.coded B.coded (marker.the_row B).coded)
    (values.the_heap R B gF) (values.the_lent R B gF) κ f b o) $ split ! $
    move ! (4 ∷ []) $ fsplit ! $ move ! (6 ∷ []) $ fsplit3 ! $ keep ! (5 ∷ 6 ∷ 7 ∷ 1 ∷ 2 ∷ 3 ∷ 9 ∷ 10 ∷ 11 ∷ 12 ∷ []) $
    enter ! 𝓣.C 𝓣.Λ fn (vptr b o ∷ vint w64 i ∷ vptr b' o' ∷ vptr b″ o″ ∷ vint w64 k ∷ vy ∷ []) Post $
    alloc_all ! (λ l. pass_all ! refl (
      (tt, tt),
      (
        (tt, record { fits = are.1.0.1 }),
        (
          (tt, tt),
          (
            (tt, tt),
            (
              (tt, record { fits = are.1.1.1.1.0.1 }),
              (fy, tt),
            ),
          ),
        ),
      ),
    ) $ let Ev = env fn.locals l in
    move ! (1 ∷ []) $ unhide ! $ fsplit ! $ fpick ! (λ fit. drop ! $
    let small : size < 2 ^ 63 = one_below N size (2 ^ 63) (omega arith) fit.1 in let tiny : size < 2 ^ 64 = omega arith in
    let near_enough : i * size < 2 ^ 63 = times_below i N size (2 ^ 63) (omega arith) fit.1 in let fm : i * size < 2 ^ 64 = omega arith in
    use1 𝓛 (‵ (finv (rule R here γ i Fit))) (rule_at 𝓛 R Fit bp γ N (count_of p) i near) $
    move ! (2 ∷ []) $ unhide ! $ fsplit ! $ move ! (1 ∷ []) $ drop ! $ move ! (0 ∷ 6 ∷ []) $
    shr_bor-open ! tt (tokens_halve 𝓛 α) (λ r. move ! (4 ∷ 5 ∷ 9 ∷ []) $
    opens ! tt Sr b' o' (λ ts. move ! (1 ∷ []) $ fsplit ! $ move ! (1 ∷ []) $ fsplit ! $ move ! (1 ∷ []) $
    rewrite ! 0 (λ (v : TableId). ‵ (bag v xs)) at_table refl $ let Back = Shuts 𝓛 α (where_ z) (names z) z.slots xs r in
    move ! (0 ∷ 8 ∷ []) $ use2 𝓛 (later (‵ (holdings hold) ⊛ raw (all 𝓤 Back))) (opens_all 𝓛 α (where_ z) (names z) z.slots xs r) $ await ! tt $ split ! $
    use1 𝓛 (given (AreWhole γ i n top.newest.shown k hold) (‵ (holdings hold))) (agree_top 𝓛 γ i k hold top.newest top.others top.there top.parts top.whole) $
    learn ! (λ all₀. let all_ : AreWhole γ i n gnil k hold = subst (λ (v : Gv). AreWhole γ i n v k hold) top.so all₀ in
    use1 𝓛 (‵ (part γ i n gnil most) ⊛ ‵ (holdings more)) (whole_out 𝓛 γ i n gnil k hold all_) $ split ! $ fsplit ! $
    move ! (11 ∷ []) $ use1 𝓛 (‵ (finv (rule R here γ i Fit)) ⊛ ‵ (finv (rule R here γ i Fit))) (𝓛.invs.inv_dup (rule R here γ i Fit)) $ split ! $
    move ! (0 ∷ 2 ∷ []) $
    use2 𝓛 (later (‵ (units γ i (agreed_on n (gnum 0)) most) ⊛ ‵ (vacancy R here))) (opens_room 𝓛 γ i R Fit here n) $ await ! tt $ split ! $ move ! (1 ∷ []) $
    use1 𝓛 (‵ (froom ty bp op)) (𝓛.laws.raw-room ty bp op) $ move ! (13 ∷ 16 ∷ []) $
    looks ! tt D (values_opens R B gF 𝓛) (p, (tt, tt)) b o (λ q vs. move ! (1 ∷ []) $ peeks ! D (Is D) (shows 𝓛 D) (p, (tt, tt)) vs (λ is-so.
    let ev : vs ≡ values_of (block_ptr bp (count_of p)) ∷ [] = values_told R B gF p vs is-so ∙ ap (λ (q : Ptr). values_of q ∷ []) (at_block p fit.0) in
    rewrite ! 1 (λ (ws : List Val). ‵ (cell_at q D.mir ws b o)) ev refl $
    sets ! (of_opd ! (load ! (through ! refl (fld ! refl (stop !))) (look_in ! 1 (sub ! 0 refl (whole !))))) refl (tt, tt) $
    rewrite ! 1 (λ (ws : List Val). ‵ (cell_at q D.mir ws b o)) (sym ev) refl $ move ! (1 ∷ 0 ∷ 2 ∷ []) $ shuts ! tt D q (p, (tt, tt)) vs b o $
    first ! $ blocks ! $ sets ! (bin ! (get ! refl) (size_lit ! (record { fits = tiny })) (record { fits = fm })) refl (tt, record { fits = fm }) $
    sets ! (bin ! (get ! refl) (get ! refl) tt) refl (tt, tt) $ sets ! (of_opd ! (get ! refl)) refl fy $
    assigns_last ! (of_opd ! (get ! refl)) (through ! refl (stop !)) (init ! 2 refl fy) $ exec ! 𝓣.C 𝓣.Λ Ev (after 2 fn.body) (at_ret Ev Post) $
    sets ! (of_opd ! (unit_lit !)) refl (tt, tt) $
    -- [the token; the place; the memory; the units; the rule; their tokens; the other fractions; the way back; the view; the field; the cell; the open borrow;
    -- the names; the table's open token; the value; the others]
    move ! (2 ∷ 15 ∷ []) $ use2 𝓛 (‵ (part_at R full_share x bp op)) (part_in 𝓛 R refl full_share x bp op vy) $
    move ! (15 ∷ []) $ fsplit ! $ move ! (7 ∷ []) $ fpick ! (λ v. fpick ! (λ ct. move ! (3 ∷ 0 ∷ 1 ∷ []) $
    use3 𝓛 (later (‵ (fsep (lent_at R here x (n ∷ [])) (flent (n ∷ []) (lies_at R full_share here x))) ⊛ ‵ (flft (n ∷ []) v) ⊛ ‵ (flft μ qμ)))
    (freezes 𝓛 γ i R Fit here x R.lives μ qμ (Lends-lies 𝓛 R R.lives here x (LR.shares 𝓛 x)) le n v) $ await ! tt $ split3 ! $
    move ! (1 ∷ []) $ fpack ! (Counts 63 v most) (λ _. flft (n ∷ []) v) ct $ fpack ! Share (λ q. fex (Counts 63 q most) (λ _. flft (n ∷ []) q)) v $
    move ! (2 ∷ 3 ∷ []) $ fjoin ! $
    move ! (5 ∷ 2 ∷ []) $ join ! $ move ! (5 ∷ 0 ∷ []) $ use2 𝓛 (later (‵ (units γ i (agreed_on n w) most))) (fills 𝓛 γ i R Fit here n x fits) $ await ! tt $
    let hold' : List FractionContent = top_turned n w k hold in let long = top_long n w k hold ∙ contents_long xs in let ys = with_contents xs hold' in
    let s' : Sr.Denot = record s { me = (s.me.0, ys) } in
    move ! (0 ∷ 2 ∷ []) $ fjoin ! $ move ! (0 ∷ 4 ∷ []) $ use2 𝓛 (‵ (holdings hold')) (whole_in 𝓛 γ i n gnil k hold n w all_) $
    move ! (4 ∷ []) $ use1 𝓛 (raw (Back (hold', long))) (all_e 𝓤 Back (hold', long)) $ move ! (1 ∷ 0 ∷ []) $
    use2 𝓛 (later (‵ (bag z ys) ⊛ ‵ (flft α r))) (apply∗ 𝓤 (sem 𝓛 (holdings hold')) (H.⇛ (sep 𝓤 (sem 𝓛 (bag z ys)) (A.lft α r)))) $ await ! tt $ split ! $
    rewrite ! 0 (λ (v : TableId). ‵ (bag v ys)) (sym at_table) refl $ move ! (5 ∷ 0 ∷ []) $ fjoin ! $ move ! (5 ∷ 0 ∷ []) $ fjoin ! $
    move ! (5 ∷ 0 ∷ 6 ∷ 7 ∷ 8 ∷ []) $ closes ! tt Sr s' ts b' o' $
    feq_i ! (List Val) (vptr b' o' ∷ []) (vptr b' o' ∷ []) refl $ fjoin3 ! $ move ! (6 ∷ 2 ∷ []) $ obor_close ! tt $ drop ! $
    move ! (0 ∷ 3 ∷ []) $ join ! $ move ! (2 ∷ 0 ∷ []) $ join ! $ move ! (2 ∷ 0 ∷ []) $ join ! $ move ! (1 ∷ []) $ nothing ! $ nothing ! $ fjoin ! $
    nothing ! $ fjoin ! $ nothing ! $ fjoin ! $ move ! (1 ∷ 0 ∷ []) $ fjoin ! $ nothing ! $ fjoin ! $ nothing ! $ fjoin ! $
    let Seats : Type 0 = (m' : ℕ) × (s' ≡ record s { me = (s.me.0, with_contents xs (top_turned m' w k hold)) }) in
    use0 𝓛 (raw (fact 𝓤 Seats)) (fact_i 𝓤 Seats (emp 𝓤) (n, refl)) $ feq_i ! (List Val) (vunit ∷ []) (vunit ∷ []) refl $
    returns ! (look_at ! 0 refl) $ free_all ! refl $ keep ! (3 ∷ 2 ∷ 0 ∷ 1 ∷ []) $
    by ! (leaves 𝓛 En hs c y vunit tt (tt, (tt, (s', (tt, (tt, (tt, tt)))))) (tt, (tt, (tt, (tt, (tt, (tt, tt)))))))))))))))))))))))
