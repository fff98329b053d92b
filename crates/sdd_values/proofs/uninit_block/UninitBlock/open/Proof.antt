-- Room is empty places, for any value that they would have.
use Rattle.atomic_table.proofs.Names.{◌≡◌, ℕ, ◌^◌, ◌<◌, List, [], ◌∷◌, length, sym, refl, ap, ◌∙◌, named, Val, vptr, vstruct, vcons, vnil, inst_fn, SProp, emp, id⊢, Lft, Share, Fml, ftrue, fsep, flft, ‵, raw, ◌⊛◌, some, given, later, at_ret, ◌$◌, ◌∵◌, !, qed, by, move, keep, split, split3, join, fsplit, fjoin, fjoin3, fpack, pick, learn, use0, use1, use2, await, rewrite, feq_i, stop, fld, of_opd, no_more, and_then, first, blocks, exec, returns, enter, alloc_all, pass_all, free_all, look_at, get, get_in, sets, lands_last, is, env, agg, sub, whole, tables, yes, no, RattleType, Valss, owns, types_at, plain, Ptr, block_ptr, ptr_val, nothing, param, Stays, stay_dropped, walk_of, Goes-dropped, fact, fact_i, heard, RefOf, shr_vals, shr_Tells, Bool, replicate, length-replicate, WT, ◌⊑◌, calls_at_last}
use mathlib.Core.Bool.{false}
use base.Fml.{froom}
use base.Logic.{never}
use mir.Syntax.{ty_array}
use denote.RawPtr.{room_for, in_a_block}
use denote.Struct.Struct.{within}
use denote.Struct.Declared as Declared
use denote.Struct.Tuple.{tuple_type}
use Rattle.core.proofs.slots.Bodies.{after}
use Rattle.core.proofs.mem.Param.{El, elτ}
use Rattle.core.proofs.alloc.Calls.{Al, token}
use Rattle.core.proofs.slots.Places.{of_room}
use Rattle.core.proofs.slots.Opens.{row_val}
use Rattle.core.proofs.slots.Leases.{lease_val, block_ty, args}
use Rattle.core.proofs.slots.Slots.from_raw_parts.Met as callee
use Rattle.core.specs.Mem.Slots.{slots_ptr, slots_len}
use Rattle.std_alloc.specs.Vec.Ownership.{FitsInBlock}
use Rattle.atomic_table.proofs.Walks.{proved, leaves}
use Rattle.atomic_table.proofs.Calls.{fm}
use Rattle.atomic_table.proofs.Rights.{lease_good}
use Rattle.atomic_table.proofs.Raw.{Row, all as places, row_Typed, From, at_from, Made, from_goes, from_gives}
use Rattle.sdd_values.proofs.UninitMemory.{Rm, Hd, held, room_had, hold_made, room_told}
use Rattle.sdd_values.specs.contracts.uninit_block.UninitBlock.open.{ended, clauses}
use Rattle.sdd_values.specs.contracts.uninit_block.UninitBlock.open.Key.{name as #self}
use Rattle.sdd_values.proofs.uninit_block.UninitBlock.open.Statement.{statement}
use Rattle.sdd_values.proofs.uninit_block.UninitBlock.open.Code as code

pub open_spec : {M : Type 1} → statement M
open_spec 𝓤 𝓛 𝓜 𝓡 wired T A L LA g d dd _ _ =
    let H = 𝓛.H in let 𝓣 = tables 𝓤 H 𝓜 𝓡 𝓡.env in let E : El = record { row = T; laws = L } in
    let Z : Al = record { row = A; laws = LA; g = g; d = d; drops = dd } in
    let R : RattleType = param 0 T in let Rr : RattleType = Rm E Z in let En = ended T A g d dd in let c = clauses T A g d dd 𝓛 𝓜.mem 𝓡.returns in
    let inst = args E Z in let fn = inst_fn inst code.function in
    let met = callee.met 𝓤 𝓛 𝓜 𝓡 (code.calls-core::slots::Slots::from_raw_parts 𝓡.env wired) T L in
    let self = plain (λ _. Rr) in let like = RefOf (0 ∷ []) tt (plain (λ _. R)) (λ _. tt) in
    let hs : Stays En.signature.params En.kept = (stay_dropped self no, (stay_dropped like yes, tt)) in
    proved 𝓛 En hs c 𝓜 𝓡 (Goes-dropped 𝓛 3 self no (λ κs x f. refl), (Goes-dropped 𝓛 3 like yes (λ κs x f. refl), tt)) (#self inst) fn
    (code.unfolded 𝓤 H 𝓜 𝓡 wired (T, (A, tt)) d dd)
    (λ κs. ((λ x. lease_val x.ptr x.len ∷ []), (shr_vals, tt))) (λ κs. ((λ x vs so. (room_told E Z x vs so).0), (shr_Tells (named 0) κs.0 R, tt)))
    (λ κs qs bounds a gh are.
    let κ : Lft = κs.1.0 in let q : Share = qs.1.0 in let h : Rr.Denot = a.0 in let n : ℕ = h.len in let p : Ptr = h.ptr in let rb : ℕ = a.1.0.ref_ptr.0 in
    let ro : ℕ = a.1.0.ref_ptr.1 in
    let xs : List T.Denot = replicate n a.1.0.now in let fs : List Bool = replicate (length xs) false in let τ = block_ty E n in
    let fk : n < 2 ^ 64 = (room_told E Z h (lease_val p n ∷ []) are.0).1 in let lx : n ≡ length xs = sym (length-replicate n a.1.0.now) in
    let lf : n ≡ length fs = lx ∙ sym (length-replicate (length xs) false) in
    let others : Fml = fsep (flft κs.1.1.0 qs.1.1.0) ftrue in let Fits : Type 0 = FitsInBlock R n in
    let z : (walk_of 𝓛 En hs c).Ghost = ((κs, qs, bounds, a, (lease_val p n ∷ [], (vptr rb ro ∷ [], tt))), gh) in
    let Post : Val → SProp 𝓤 = (walk_of 𝓛 En hs c).post z in
    qed 𝓛 (((‵ (flft κs.0 qs.0) ⊛ ‵ (flft κ q) ⊛ ‵ others) ⊛ ‵ (owns (types_at En.signature.params κs) a z.0.4)) ∷ raw (fact 𝓤 (κ ⊑ T.lives)) ∷
    raw (fact 𝓤 _) ∷ raw (fact 𝓤 Fits) ∷ []) ∵
    keep ! (3 ∷ 1 ∷ 0 ∷ []) $ heard ! Fits (λ fits. heard ! (κ ⊑ T.lives) (λ le. split ! $ split3 ! $ move ! (3 ∷ []) $ fsplit ! $
    room_had E Z ! h (lease_val p n ∷ []) (λ told. in_a_block ! p (λ (r : Ptr). room_for τ r) (id⊢ 𝓤 (never 𝓤)) (λ b o at.
    -- [the room; the right; _; the tokens of like, of T and of the others]
    rewrite ! 1 (λ (r : Ptr). ‵ (token Z h.alloc τ r)) at refl $ use1 𝓛 (‵ (froom (ty_array (elτ E) n) b o)) (𝓛.laws.raw-room (ty_array (elτ E) n) b o) $
    rewrite ! 0 (λ (k : ℕ). ‵ (froom (ty_array (elτ E) k) b o)) lx refl $ use1 𝓛 (‵ (places E b o xs fs)) (of_room E 𝓛 b xs o) $
    enter ! 𝓣.C 𝓣.Λ fn (lease_val p n ∷ vptr rb ro ∷ []) Post $ alloc_all ! (λ l. pass_all ! refl (lease_good p n fk, ((tt, tt), tt)) $
    let Ev = env fn.locals l in
    let y = at_from E 𝓛 𝓜.mem 𝓡.returns κ q b o n xs fs in let words : WT (row_val b o n) = (tt, (record { fits = fk }, tt)) in
    let lease : WT (lease_val (block_ptr b o) n) = (tt, (record { fits = fk }, (tt, tt))) in
    let pair : Val = vstruct (vcons (row_val b o n) (vcons (lease_val (block_ptr b o) n) vnil)) in
    sets ! (is ! (of_opd ! (get_in ! (fld ! refl (stop !)) (sub ! 0 refl (whole !)))) (ap ptr_val at)) refl (tt, tt) $
    sets ! (of_opd ! (get_in ! (fld ! refl (stop !)) (sub ! 1 refl (whole !)))) refl (tt, record { fits = fk }) $
    sets ! (of_opd ! (get_in ! (fld ! refl (stop !)) (sub ! 2 refl (whole !)))) refl (tt, tt) $ first ! $ blocks ! $
    -- [the places; the right; _; the tokens]
    move ! (0 ∷ 4 ∷ []) $ use2 𝓛 (raw ((From E 𝓛 𝓜.mem 𝓡.returns).pre y)) (from_goes E 𝓛 𝓜.mem 𝓡.returns κ q b o n xs fs le lx lf fk fits.0) $
    calls_at_last ! (fm 𝓛 𝓜 𝓡) (From E 𝓛 𝓜.mem 𝓡.returns) met y (and_then ! (get ! refl) (and_then ! (get ! refl) (no_more !))) (λ v.
    use1 𝓛 (later (some (λ (r : (Row E).Denot). given ((v ≡ row_val b o n) × Made E 𝓛 𝓜.mem 𝓡.returns κ q b o n xs fs r)
    (‵ ((Row E).own_val r (row_val b o n ∷ [])) ⊛ ‵ (flft κ q)))))
    (from_gives E 𝓛 𝓜.mem 𝓡.returns κ q b o n xs fs v) $ await ! tt $ pick ! (λ r. learn ! (λ got. split ! $ let made = got.1 in
    let Told : Type 0 = (slots_len r ≡ n) × (block_ptr b o ≡ slots_ptr r) × (n ≡ n) × (h.alloc ≡ h.alloc) in
    lands_last ! refl (row_Typed E v b o n got.0 fk) $ exec ! 𝓣.C 𝓣.Λ Ev (after 4 fn.body) (at_ret Ev Post) $
    sets ! (is ! (of_opd ! (get ! refl)) got.0) refl (tt, words) $ sets ! (of_opd ! (get ! refl)) refl (tt, words) $
    sets ! (agg ! (and_then ! (get ! refl) (and_then ! (get ! refl) (and_then ! (get ! refl) (no_more !))))) refl (tt, lease) $
    sets ! (agg ! (and_then ! (get ! refl) (and_then ! (get ! refl) (no_more !)))) refl (tt, (words, (lease, tt))) $
    -- [the slots; the token of T; the right; _; the other tokens]
    move ! (2 ∷ []) $ hold_made E Z ! h.alloc b o n fk $ nothing ! $ move ! (2 ∷ 1 ∷ 0 ∷ []) $ fjoin3 ! $ feq_i ! (List Val) (pair ∷ []) (pair ∷ []) refl $
    fjoin ! $
    fpack ! (Valss (Row E ∷ Hd E Z ∷ [])) (within (Declared.shape (tuple_type (Row E ∷ Hd E Z ∷ []))) (r, (held E Z h.alloc b o n, tt)) (pair ∷ []))
    (row_val b o n ∷ [], (lease_val (block_ptr b o) n ∷ [], tt)) $
    -- [the pair; the token of T; _; the token of like; the others]
    move ! (1 ∷ 4 ∷ []) $ join ! $ move ! (3 ∷ 0 ∷ []) $ join ! $ nothing ! $ nothing ! $ fjoin ! $ nothing ! $ fjoin ! $
    use0 𝓛 (raw (fact 𝓤 Told)) (fact_i 𝓤 Told (emp 𝓤) (made.1, sym made.0, refl, refl)) $
    returns ! (look_at ! 0 refl) $ free_all ! refl $ keep ! (2 ∷ 1 ∷ 3 ∷ 0 ∷ []) $
    by ! (leaves 𝓛 En hs c z pair (r, held E Z h.alloc b o n) (tt, (tt, tt)) (tt, (tt, tt))))))))))))
