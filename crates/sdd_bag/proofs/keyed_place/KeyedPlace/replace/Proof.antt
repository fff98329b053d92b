-- `replace` has the loan for the key, moves the value out and the other in through the borrow, and gives the loan back.
use Rattle.atomic_table.proofs.Names.{◌≡◌, ℕ, ◌+◌, [], ◌∷◌, List, sym, refl, a_type, Val, vptr, inst_fn, SProp, emp, ent, Lft, Share, Fml, ftrue, fsep, flft, ‵, raw, ◌⊛◌, some, later, at_ret, ◌$◌, ◌∵◌, !, qed, by, move, keep, drop, split, split3, join, fsplit, fsplit3, fjoin, fjoin3, fpick, fpack, pick, use0, use1, use2, await, rewrite, feq_i, stop, fld, of_opd, first, blocks, exec, returns, enter, alloc_all, pass_all, free_all, look_at, get, through, sets, sets_last, env, tables, yes, no, RattleType, owns, types_at, plain, nothing, heard, param, layouts, Stays, stay_dropped, stay_ref, walk_of, Goes-dropped, Goes-ref, fact, fact_i, Is, shows, cell_at, peeks, RefOf, opens, closes, unhide, apply∗, load, full_share, WpFn, subst}
use base.Fml.{fauth, fobs, finv}
use base.Logic.{wand}
use types.Run.{addr, assigns, look_raw, store_raw}
use types.Tokens.{bor_open, obor_close, name_agree, name_set}
use types.Na.{out}
use contract.Shared.{Lends-one}
use denote.Memory.{part_of, part_at}
use Rattle.core.proofs.atomic.Steps.{tail}
use Rattle.core.proofs.mem.Param.{El, lawful, Good, one}
use Rattle.atomic_table.proofs.Walks.{proved_at, leaves}
use Rattle.sdd_bag.specs.KeyedPlaces.{PlaceName, start, content, rule, key_owns}
use Rattle.sdd_bag.specs.contracts.keyed_place.KeyedPlace as place
use Rattle.sdd_bag.specs.contracts.keyed_place.PlaceKey as key
use Rattle.sdd_bag.proofs.Loans.{Home, lends, comes_back}
use Rattle.sdd_bag.specs.contracts.keyed_place.KeyedPlace.replace.{ended, clauses}
use Rattle.sdd_bag.specs.contracts.keyed_place.KeyedPlace.replace.Key.{name as #self}
use Rattle.sdd_bag.proofs.keyed_place.KeyedPlace.replace.Statement.{statement}
use Rattle.sdd_bag.proofs.keyed_place.KeyedPlace.replace.Code as code

abbrev Three : Type 0
Three = List Val × (List Val × (List Val × Unit {0}))

pub replace_spec : {M : Type 1} → statement M
unfolding part_of
replace_spec 𝓤 𝓛 𝓜 𝓡 wired T L =
    let H = 𝓛.H in let A = 𝓛.A in let 𝓣 = tables 𝓤 H 𝓜 𝓡 𝓡.env in let E : El = record { row = T; laws = L } in let R : RattleType = param 0 T in
    let En = ended T in let inst = layouts (a_type ∷ []) (T, tt) in let fn = inst_fn inst code.function in
    let Row : RattleType = place.the_row R in let Kr : RattleType = key.the_row R in let c = clauses T 𝓛 𝓜.mem 𝓡.returns in
    let self = RefOf (0 ∷ []) tt (plain (λ _. Row)) (λ _. tt) in let held = plain (λ _. Kr) in let arg = plain (λ _. R) in
    let hs : Stays En.signature.params En.kept = (stay_dropped self yes, (stay_ref (1 ∷ []) tt held, (stay_dropped arg no, tt))) in
    proved_at 𝓛 En hs c 𝓜 𝓡 (Goes-dropped 𝓛 3 self yes (λ κs x f. refl), (Goes-ref 𝓛 3 1 tt held, (Goes-dropped 𝓛 3 arg no (λ κs x f. refl), tt)))
    (#self inst) fn (code.unfolded 𝓤 H 𝓜 𝓡 wired (T, tt))
    (λ z are. let κs = z.0.0 in let qs = z.0.1 in let a = z.0.3 in
    let b : ℕ = a.0.ref_ptr.0 in let o : ℕ = a.0.ref_ptr.1 in let b' : ℕ = a.1.0.ref_ptr.0 in let o' : ℕ = a.1.0.ref_ptr.1 in
    let κ : Lft = κs.0 in let q : Share = qs.0 in let κ' : Lft = κs.1.0 in let n : PlaceName = a.0.now in let k : Kr.Denot = a.1.0.now in
    let x : T.Denot = a.1.1.0 in let rest : Fml = fsep (flft κs.1.1.0 qs.1.1.0) ftrue in let Same : Type 0 = k.name ≡ n in let e : ℕ = o + start R in
    let k' : Kr.Denot = record k { value = x } in
    let got = one E z.0.4.1.1.0 ((lawful E 𝓛).typed x z.0.4.1.1.0 are.1.1.0) in let vy : Val = got.0 in let fy : Good E vy = got.2 in
    let At : Three → (walk_of 𝓛 En hs c).Ghost = λ vss. ((κs, qs, z.0.2, a, vss), z.1) in
    let y : (walk_of 𝓛 En hs c).Ghost = At (vptr b o ∷ [], (vptr b' o' ∷ [], (vy ∷ [], tt))) in let Post : Val → SProp 𝓤 = (walk_of 𝓛 En hs c).post y in
    subst (λ (vss : Three). ent 𝓤 ((walk_of 𝓛 En hs c).pre (At vss)) (WpFn 𝓤 H 𝓣.C 𝓣.Λ fn ((walk_of 𝓛 En hs c).args (At vss))
    ((walk_of 𝓛 En hs c).post (At vss)))) (λ j. (sym are.0.0 j, (sym are.1.0.0 j, (sym got.1 j, tt)))) (
    qed 𝓛 (((‵ (flft κ q) ⊛ ‵ (flft κ' qs.1.0) ⊛ ‵ rest) ⊛ ‵ (owns (types_at En.signature.params κs) a y.0.4)) ∷ raw (fact 𝓤 _) ∷ raw (fact 𝓤 Same) ∷ []) ∵
    keep ! (2 ∷ 0 ∷ []) $ heard ! Same (λ same. split ! $ split3 ! $ move ! (3 ∷ []) $ fsplit3 ! $ fsplit ! $ drop ! $
    move ! (1 ∷ []) $ fsplit3 ! $ drop ! $ move ! (3 ∷ []) $ fsplit ! $ move ! (1 ∷ []) $ drop ! $
    -- [the value; the key's name and borrow; the place; the tokens]
    enter ! 𝓣.C 𝓣.Λ fn (vptr b o ∷ vptr b' o' ∷ vy ∷ []) Post $ alloc_all ! (λ l. pass_all ! refl ((tt, tt), ((tt, tt), (fy, tt))) $
    let Ev = env fn.locals l in
    move ! (3 ∷ []) $ unhide ! $ fpick ! (λ t. fsplit ! $ move ! (3 ∷ 4 ∷ 6 ∷ []) $ opens ! tt Kr b' o' (λ vs.
    move ! (1 ∷ []) $ fsplit ! $ move ! (1 ∷ []) $ fsplit ! $
    rewrite ! 0 (λ (m : PlaceName). ‵ (fobs m.value (R.coded.code k.value))) same refl $ rewrite ! 1 (λ (m : PlaceName). ‵ (out m.key)) same refl $
    -- [what the name says; the key; the field; the cell; the open borrow of the key, in three; before; the rule; the value; the tokens]
    let I : Fml = rule R n b o t in let In : Fml = content R n b o in
    move ! (8 ∷ []) $ use1 𝓛 (‵ (finv I) ⊛ ‵ (finv I)) (𝓛.invs.inv_dup I) $ split ! $ move ! (0 ∷ 3 ∷ []) $
    use2 𝓛 (later (‵ (Home 𝓛 R n b o t))) (lends 𝓛 R n b o t) $ await ! tt $ fsplit ! $ move ! (9 ∷ 11 ∷ []) $
    use2 𝓛 (later (some (λ (s : Share). ‵ (flft t.0 s) ⊛ raw (wand 𝓤 (A.lft t.0 s) (H.⇛ (A.lft κ q)))))) (Lends-one 𝓛 𝓜 𝓡 κ t.0 q) $ await ! tt $
    pick ! (λ s. split ! $ move ! (3 ∷ 0 ∷ []) $ bor_open ! tt $ move ! (1 ∷ []) $ fpick ! (λ old. fsplit ! $ move ! (6 ∷ 1 ∷ []) $
    name_agree ! R.coded (λ is_it. name_set ! tt (R.coded.code x) $ move ! (2 ∷ []) $ fpick ! (λ ws. fsplit ! $ move ! (1 ∷ []) $
    peeks ! R (Is R) (shows 𝓛 R) old ws (λ is_so.
    let was = one E ws ((lawful E 𝓛).typed old ws is_so) in let vo : Val = was.0 in let fo : Good E vo = was.2 in
    rewrite ! 0 (λ (us : List Val). ‵ (R.own_val old us)) was.1 refl $ rewrite ! 1 (λ (us : List Val). ‵ (cell_at full_share R.mir us b e)) was.1 refl $
    move ! (1 ∷ []) $
    -- [the cell; the old value; the name, in two; the open loan; the way back; the loan's name; the rule; the key's; the value; the token]
    sets ! (addr ! (through ! refl (fld ! refl (stop !)))) refl (tt, tt) $ first ! $ blocks ! $
    sets ! (of_opd ! (load ! (through ! refl (stop !)) (look_raw ! 0 refl))) refl fo $ sets ! (of_opd ! (get ! refl)) refl fy $
    assigns ! (of_opd ! (get ! refl)) (through ! refl (stop !)) (store_raw ! 0 refl fy) $ sets_last ! (of_opd ! (get ! refl)) refl fo $
    exec ! 𝓣.C 𝓣.Λ Ev (tail (tail fn.body)) (at_ret Ev Post) $ sets ! (of_opd ! (get ! refl)) refl fo $
    move ! (0 ∷ 13 ∷ []) $ fjoin ! $ fpack ! (List Val) (λ us. fsep (cell_at full_share R.mir us b e) (R.own_val x us)) (vy ∷ []) $
    move ! (0 ∷ 3 ∷ []) $ fjoin ! $ fpack ! T.Denot (λ w. fsep (part_at R full_share w b e) (fauth n.value (R.coded.code w))) x $
    move ! (3 ∷ 0 ∷ []) $ obor_close ! tt $ move ! (5 ∷ 0 ∷ []) $ fjoin ! $ move ! (5 ∷ 0 ∷ []) $
    use2 𝓛 (later (‵ (out n.key))) (comes_back 𝓛 R n b o t) $ await ! tt $
    -- [the key; the loan's token; the old value; the name; the way back; the key's field, cell and open borrow; the token]
    move ! (3 ∷ 0 ∷ []) $ fjoin ! $ rewrite ! 0 (λ (m : PlaceName). ‵ (key_owns R m x)) (sym same) refl $ move ! (4 ∷ 0 ∷ []) $ fjoin ! $
    move ! (4 ∷ 0 ∷ 5 ∷ 6 ∷ 7 ∷ []) $ closes ! tt Kr k' vs b' o' $ feq_i ! (List Val) (vptr b' o' ∷ []) (vptr b' o' ∷ []) refl $ fjoin3 ! $
    move ! (2 ∷ 4 ∷ []) $ use2 𝓛 (later (‵ (flft κ q))) (apply∗ 𝓤 (A.lft t.0 s) (H.⇛ (A.lft κ q))) $ await ! tt $
    move ! (2 ∷ 4 ∷ []) $ join ! $ move ! (1 ∷ 0 ∷ []) $ join ! $ move ! (1 ∷ []) $
    nothing ! $ nothing ! $ fjoin ! $ move ! (1 ∷ 0 ∷ []) $ fjoin ! $ nothing ! $ fjoin ! $
    use0 𝓛 (raw (fact 𝓤 (k' ≡ k'))) (fact_i 𝓤 (k' ≡ k') (emp 𝓤) refl) $
    use0 𝓛 (raw (fact 𝓤 (old ≡ k.value))) (fact_i 𝓤 (old ≡ k.value) (emp 𝓤) (sym is_it)) $ join ! $
    returns ! (look_at ! 0 refl) $ free_all ! refl $ keep ! (2 ∷ 1 ∷ 3 ∷ 0 ∷ []) $
    by ! (leaves 𝓛 En hs c y vo old (tt, (k', (tt, tt))) (tt, (tt, (tt, tt)))))))))))))))
