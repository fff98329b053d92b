-- `view` opens the place's rule beside a share of the read fraction's unit, and shows the value for as long as the read fraction is borrowed, which holds a
-- token of the lifetime.
use Rattle.atomic_table.proofs.Names.{◌≡◌, ℕ, [], ◌∷◌, List, sym, refl, ap, ◌∙◌, a_type, named, Val, vptr, inst_fn, SProp, emp, Lft, Fml, ftrue, fsep, flft, ‵, raw, ◌⊛◌, some, given, later, at_ret, ◌$◌, ◌∵◌, !, qed, by, move, keep, drop, split, join, fsplit, fsplit3, fjoin, pick, learn, use0, use1, use2, await, rewrite, feq_i, stop, fld, addr, of_opd, first, blocks, exec, returns, enter, alloc_all, pass_all, free_all, look_at, get, through, sets, sets_last, env, sub, whole, look_in, tables, yes, RattleType, owns, types_at, plain, Ptr, block_ptr, nothing, heard, param, bounded, dcons, dnil, Stays, stay_dropped, walk_of, Goes-dropped, fact, fact_i, Is, shows, cell_at, peeks, block_of, count_of, at_block, RefOf, shr_vals, shr_Tells, unhide, hidden_shr, looks, shuts, lent_out, shr_bor-open, obor_close, load, bin, vint, w64, usize, uint_vals, uint_Tells, fpick, ◌*◌, ◌+◌, ◌^◌, ◌<◌, arith}
use base.Stored.{Gv}
use base.Fml.{fhide, finv, fshr_bor}
use contract.BorrowLft.{meet_⊑_left}
use denote.Builtin.{u64}
use denote.Param.Laws.{param_laws}
use denote.Opens.{hide}
use denote.Moves.{moves_from}
use denote.Struct.Lending.{lent_at, lent_at_shr_laws}
use denote.Memory.{mem}
use types.Run.{size_lit}
use Rattle.core.proofs.ptr.Rows.{times_below, one_below}
use Rattle.core.proofs.slots.Bodies.{after}
use Rattle.core.specs.contracts.marker.PhantomData as marker
use Rattle.atomic_table.proofs.Walks.{proved, leaves}
use Rattle.sdd_rights.specs.Units.{share_of}
use Rattle.sdd_rights.specs.ReadFraction.{agreed_on, read_fraction_shares}
use Rattle.sdd_rights.proofs.Steps.{halves_at}
use Rattle.sdd_rights.proofs.Fields.{Hilt}
use Rattle.sdd_shared_values.specs.SharedValues.{full_shown, rule, values_shares}
use Rattle.sdd_shared_values.proofs.Rules.{rule_at}
use Rattle.sdd_shared_values.proofs.Fields.{values_of, ValuesData, values_told, values_opens}
use Rattle.sdd_shared_values.proofs.ReadFractions.{looks_at_share}
use Rattle.sdd_rights.specs.contracts.read_fraction.ReadFraction as read_fraction
use Rattle.sdd_shared_values.specs.contracts.shared_values.SharedValues as values
use Rattle.sdd_shared_values.specs.contracts.shared_values.SharedValues.view.{ended, clauses}
use Rattle.sdd_shared_values.specs.contracts.shared_values.SharedValues.view.Key.{name as #self}
use Rattle.sdd_shared_values.proofs.shared_values.SharedValues.view.Statement.{statement}
use Rattle.sdd_shared_values.proofs.shared_values.SharedValues.view.Code as code

pub view_spec : {M : Type 1} → statement M
view_spec 𝓤 𝓛 𝓜 𝓡 wired T F L _ gF dF _ =
    let H = 𝓛.H in let 𝓣 = tables 𝓤 H 𝓜 𝓡 𝓡.env in let R : RattleType = param 0 T in let B : RattleType = param 1 F in let En = ended T F gF dF in
    let c = clauses T F gF dF 𝓛 𝓜.mem 𝓡.returns in
    let inst = bounded (a_type ∷ a_type ∷ []) (T, (F, tt)) (dcons dF dnil) in let fn = inst_fn inst code.function in let laws = (param_laws 0 T L).shr_laws in
    let Row : RattleType = values.the_row R B gF in let Gr : RattleType = read_fraction.the_row in let D : RattleType = ValuesData R B gF in
    let self = RefOf (0 ∷ []) tt (plain (λ _. Row)) (λ _. tt) in let num = plain (λ _. usize) in let arg = RefOf (0 ∷ []) tt (plain (λ _. Gr)) (λ _. tt) in
    let hs : Stays En.signature.params En.kept = (stay_dropped self yes, (stay_dropped num yes, (stay_dropped arg yes, tt))) in
    proved 𝓛 En hs c 𝓜 𝓡 (
      Goes-dropped 𝓛 3 self yes (λ κs x f. refl),
      (Goes-dropped 𝓛 3 num yes (λ κs x f. refl), (Goes-dropped 𝓛 3 arg yes (λ κs x f. refl), tt)),
    ) (#self inst) fn (code.unfolded 𝓤 H 𝓜 𝓡 wired (T, (F, tt)) dF)
    (λ κs. (shr_vals, (uint_vals w64, (shr_vals, tt))))
    (λ κs. (shr_Tells (named 0) κs.0 Row, (uint_Tells w64, (shr_Tells (named 0) κs.0 Gr, tt)))) (λ κs qs bounds a gh are.
    let b : ℕ = a.0.ref_ptr.0 in let o : ℕ = a.0.ref_ptr.1 in let i : ℕ = a.1.0 in let b' : ℕ = a.1.1.0.ref_ptr.0 in let o' : ℕ = a.1.1.0.ref_ptr.1 in
    let κ : Lft = κs.0 in let f : Row.Denot = a.0.now in let d : Gr.Denot = a.1.1.0.now in
    let p : Ptr = f.ptr in let γ : ℕ = f.gamma in let m : ℕ = f.size in let r : ℕ = d.lifetime in let g : Gv = agreed_on r d.shown in
    let bp : ℕ = block_of p in let size : ℕ = (mem R).size in let op : ℕ = i * size + count_of p in let here : Ptr = block_ptr bp op in
    let there : Val = vptr bp op in let ls = λ (x : T.Denot). lent_at_shr_laws R laws here x in
    let others : Fml = fsep (flft κs.1.0 qs.1.0) (fsep (flft κs.1.1.0 qs.1.1.0) ftrue) in
    let Fit : T.Denot → Type 0 = gF.fits f.table γ m in
    let Inside : Type 0 = i < m in let Gamma : Type 0 = d.gamma ≡ γ in let Number : Type 0 = d.number ≡ i in
    let y : (walk_of 𝓛 En hs c).Ghost = ((κs, qs, bounds, a, (vptr b o ∷ [], (vint w64 i ∷ [], (vptr b' o' ∷ [], tt)))), gh) in
    let Post : Val → SProp 𝓤 = (walk_of 𝓛 En hs c).post y in
    qed 𝓛 (((‵ (flft κ qs.0) ⊛ ‵ others) ⊛ ‵ (owns (types_at En.signature.params κs) a y.0.4)) ∷ raw (fact 𝓤 _) ∷ raw (fact 𝓤 _) ∷ raw (fact 𝓤 Inside) ∷
    raw (fact 𝓤 Gamma) ∷ raw (fact 𝓤 Number) ∷ []) ∵
    keep ! (3 ∷ 4 ∷ 5 ∷ 0 ∷ []) $ heard ! Inside (λ near. heard ! Gamma (λ books. heard ! Number (λ numbers. split ! $ split ! $ move ! (2 ∷ []) $
    -- [self; the number; the read fraction and the rest; the token; the others]
    fsplit3 ! $ fsplit ! $ drop ! $ move ! (2 ∷ []) $ fsplit ! $ fsplit ! $ drop ! $
    use1 𝓛 (‵ (hidden_shr Hilt κ (tt, tt) b' o') ⊛ ‵ (fhide (read_fraction_shares d.gamma d.number r d.shown κ)))
    (lent_out 𝓛 read_fraction.struct (read_fraction.the_codes
    (marker.the_row u64).coded) read_fraction.the_heap read_fraction.the_lent κ d b' o') $ split ! $ drop ! $
    -- [the read fraction; _; self; ..]
    move ! (2 ∷ []) $
    use1 𝓛 (‵ (hidden_shr D κ (p, (tt, tt)) b o) ⊛ ‵ (fhide (values_shares R Fit p γ m κ)))
    (lent_out 𝓛 (values.struct R B gF) (values.the_codes T.Denot F.Denot R.coded B.coded (marker.the_row B).coded)
    (values.the_heap R B gF) (values.the_lent R B gF) κ f b o) $ split ! $ keep ! (0 ∷ 1 ∷ 2 ∷ 5 ∷ 6 ∷ []) $
    -- [the field; the rule; the read fraction; the token; the others]
    enter ! 𝓣.C 𝓣.Λ fn (vptr b o ∷ vint w64 i ∷ vptr b' o' ∷ []) Post $
    alloc_all ! (λ l. pass_all ! refl ((tt, tt), ((tt, record { fits = are.1.0.1 }), ((tt, tt), tt))) $ let Ev = env fn.locals l in
    move ! (1 ∷ []) $ unhide ! $ fsplit ! $ fpick ! (λ fit. drop ! $
    let small : size < 2 ^ 63 = one_below m size (2 ^ 63) (omega arith) fit.1 in let tiny : size < 2 ^ 64 = omega arith in
    let near_enough : i * size < 2 ^ 63 = times_below i m size (2 ^ 63) (omega arith) fit.1 in let fm : i * size < 2 ^ 64 = omega arith in
    use1 𝓛 (‵ (finv (rule R here γ i Fit))) (rule_at 𝓛 R Fit bp γ m (count_of p) i near) $
    move ! (2 ∷ []) $ unhide ! $ fsplit ! $ rewrite ! 0 (λ (n : ℕ × ℕ). ‵ (fshr_bor κ (share_of n.0 n.1 g))) (λ j. (books j, numbers j)) refl $
    -- [the unit; the lifetime's token; the rule; the field; the token; the others]
    move ! (0 ∷ 4 ∷ []) $ shr_bor-open ! tt (halves_at 𝓛 γ i g) (λ s. move ! (3 ∷ 1 ∷ []) $
    use2 𝓛 (later (some (λ (x : T.Denot). given ((d.shown ≡ full_shown (R.coded.code x)) × Fit x) (‵ (lent_at R here x (r ∷ [])) ⊛ ‵ (share_of γ i g s)))))
    (looks_at_share 𝓛 R Fit here γ i ls r d.shown s d.full) $ await ! tt $ pick ! (λ x. learn ! (λ so. split ! $
    move ! (2 ∷ 1 ∷ []) $ obor_close ! tt $ drop ! $ move ! (2 ∷ 1 ∷ []) $
    use2 𝓛 (‵ (lent_at R here x κ)) (moves_from 𝓛 (lent_at R here x) (ls x) κ (r ∷ []) (r ∷ []) (meet_⊑_left (r ∷ []) κ)) $
    -- [the value; the token; the field; the others]
    fsplit ! $ drop ! $ hide ! $ move ! (2 ∷ 1 ∷ []) $
    looks ! tt D (values_opens R B gF 𝓛) (p, (tt, tt)) b o (λ q vs. move ! (1 ∷ []) $ peeks ! D (Is D) (shows 𝓛 D) (p, (tt, tt)) vs (λ is-so.
    let ev : vs ≡ values_of (block_ptr bp (count_of p)) ∷ [] = values_told R B gF p vs is-so ∙ ap (λ (t : Ptr). values_of t ∷ []) (at_block p fit.0) in
    rewrite ! 1 (λ (ws : List Val). ‵ (cell_at q D.mir ws b o)) ev refl $ first ! $ blocks ! $
    sets ! (of_opd ! (load ! (through ! refl (fld ! refl (stop !))) (look_in ! 1 (sub ! 0 refl (whole !))))) refl (tt, tt) $
    rewrite ! 1 (λ (ws : List Val). ‵ (cell_at q D.mir ws b o)) (sym ev) refl $ move ! (1 ∷ 0 ∷ 2 ∷ []) $ shuts ! tt D q (p, (tt, tt)) vs b o $
    sets ! (bin ! (get ! refl) (size_lit ! (record { fits = tiny })) (record { fits = fm })) refl (tt, record { fits = fm }) $
    sets ! (bin ! (get ! refl) (get ! refl) tt) refl (tt, tt) $ sets_last ! (addr ! (through ! refl (stop !))) refl (tt, tt) $
    exec ! 𝓣.C 𝓣.Λ Ev (after 1 fn.body) (at_ret Ev Post) $ sets ! (of_opd ! (get ! refl)) refl (tt, tt) $
    -- [the token; the field; the value; the others]
    move ! (0 ∷ 3 ∷ []) $ join ! $ move ! (2 ∷ []) $
    feq_i ! (List Val) (there ∷ []) (there ∷ []) refl $ fjoin ! $
    nothing ! $ nothing ! $ fjoin ! $ nothing ! $ fjoin ! $ nothing ! $ fjoin ! $
    let Value : Type 0 = d.shown ≡ full_shown (R.coded.code x) in use0 𝓛 (raw (fact 𝓤 (Fit x))) (fact_i 𝓤 (Fit x) (emp 𝓤) so.1) $
    use0 𝓛 (raw (fact 𝓤 Value)) (fact_i 𝓤 Value (emp 𝓤) so.0) $ join ! $
    returns ! (look_at ! 0 refl) $ free_all ! refl $ keep ! (3 ∷ 1 ∷ 2 ∷ 0 ∷ []) $
    by ! (leaves 𝓛 En hs c y there (record { ref_ptr = (bp, op); now = x }) (tt, (tt, (tt, tt))) (tt, (tt, (tt, tt)))))))))))))))
