-- `edit` ends the value's lifetime by all its tokens, and lends the value, which the block follows.
use Rattle.atomic_table.proofs.Names.{◌≡◌, ℕ, ◌+◌, ◌*◌, ◌^◌, ◌<◌, length, [], ◌∷◌, List, sym, refl, ap, ◌∙◌, subst, arith, a_type, named, Val, vptr, vint, inst_fn, SProp, emp, ent, Lft, Share, Fml, ftrue, fsep, flft, ‵, raw, ◌⊛◌, some, later, await, at_ret, group, pick, ◌$◌, ◌∵◌, !, qed, by, move, keep, drop, split, split3, join, fsplit, fsplit3, fjoin, fpick, fpack, use0, use1, use2, rewrite, stop, fld, addr, of_opd, load, bin, first, blocks, exec, returns, enter, alloc_all, pass_all, free_all, look_at, get, through, sets, sets_last, env, sub, whole, look_in, tables, yes, no, RattleType, owns, types_at, plain, Ptr, block_ptr, nothing, heard, param, layouts, Stays, stay_dropped, walk_of, Goes-dropped, Goes-spent_ref, fact, fact_i, Is, shows, cell_at, peeks, block_of, count_of, at_block, RefMutOf, mut_vals, mut_Tells, opens, w64, usize, uint_vals, uint_Tells, mem, full_share, sem, Logic, Ura, done, follows}
use base.Fml.{GName}
use base.Logic.{sep}
use types.Run.{size_lit}
use lib.ListN.{length-set}
use lib.Seq.{set-get_or}
use denote.Memory.{part_of}
use denote.RawPtr.{lies_at}
use denote.Ref.{MutRef}
use denote.Follow.{lends_Part}
use Rattle.core.proofs.slice.Lists.{hd, any-default}
use Rattle.core.proofs.ptr.Rows.{times_below, one_below}
use Rattle.core.proofs.slots.Bodies.{after}
use Rattle.atomic_table.specs.Seated.{fact as fits_fact}
use Rattle.atomic_table.proofs.Walks.{proved, leaves}
use Rattle.std.specs.Prelude.{Option, slice_index_or, slice_set}
use Rattle.sdd_values.specs.Block.{AreUnlent, IsUnlent, IsBlockAt, spot, spots}
use Rattle.sdd_values.specs.Lending.{with_value}
use Rattle.sdd_values.proofs.Fields.{strip_of, BlockData, block_told, block_made}
use Rattle.sdd_values.proofs.Lifetimes.{all_home, to_plain, from_plain}
use Rattle.sdd_values.proofs.BlockValues.{besides, spot_out, spot_in}
use Rattle.sdd_values.specs.declared.block.Block.{Block}
use Rattle.sdd_values.specs.contracts.block.Block as block
use Rattle.sdd_values.specs.contracts.block.Block.edit.{ended, clauses}
use Rattle.sdd_values.specs.contracts.block.Block.edit.Key.{name as #self}
use Rattle.sdd_values.proofs.block.Block.edit.Statement.{statement}
use Rattle.sdd_values.proofs.block.Block.edit.Code as code

module _ {M : Type 1} {𝓤 : Ura M} (𝓛 : Logic 𝓤) (R : RattleType) (rb ro : ℕ) (f : Block R.Denot) (i : ℕ) where
  abbrev Row : RattleType
  Row = block.the_row R

  abbrev fractions : List (Option ℕ)
  fractions = slice_index_or f.fractions i []

  abbrev bp : ℕ
  bp = block_of f.ptr

  abbrev op : ℕ
  op = count_of f.ptr

  abbrev at : ℕ
  at = i * (mem R).size + op

  -- all of the block but the value
  abbrev Rest : Fml
  Rest = fsep (fits_fact (length fractions < 2 ^ 63)) (fsep (besides 𝓛 R bp op f.values f.fractions i) (cell_at full_share Row.mir (strip_of f.ptr ∷ []) rb ro))

  back : IsBlockAt R f.ptr f.values f.fractions → i < length f.values → i < length f.fractions → AreUnlent fractions → (w : R.Denot)
      → ent 𝓤 (sep 𝓤 (sem 𝓛 ((mem R).own_at w bp at)) (sem 𝓛 Rest)) (sem 𝓛 ((mem Row).own_at (with_value f i w) rb ro))
  unfolding part_of
  back fit near in_fractions home w = let p : Ptr = f.ptr in let xs' = slice_set f.values i w in let vs : List Val = strip_of p ∷ [] in
      let here : Ptr = block_ptr bp at in
      qed 𝓛 (‵ (lies_at R full_share here w) ∷ ‵ Rest ∷ []) ∵ move ! (1 ∷ []) $ fsplit3 ! $ move ! (3 ∷ 0 ∷ []) $
      use2 𝓛 (‵ (spot R here w fractions)) (from_plain 𝓛 R here w fractions home) $
      use2 𝓛 (‵ (spots R bp op xs' (slice_set f.fractions i fractions))) (spot_in 𝓛 R bp op f.values f.fractions i w fractions near in_fractions) $
      rewrite ! 0 (λ (ss : List (List (Option ℕ))). ‵ (spots R bp op xs' ss)) (set-get_or f.fractions i []) refl $
      nothing ! $ fpack ! (IsBlockAt R p xs' f.fractions) (λ _. ftrue)
      (fit.0, subst (λ (n : ℕ). n * (mem R).size < 2 ^ 63) (sym (length-set f.values i w)) fit.1, fit.2 ∙ sym (length-set f.values i w)) $ fjoin ! $
      use0 𝓛 (‵ ((BlockData R).own_val (p, tt) vs)) (block_made R 𝓛 p) $ fjoin ! $ move ! (1 ∷ 0 ∷ []) $ fjoin ! $
      fpack ! (List Val) (λ us. fsep (cell_at full_share Row.mir us rb ro) (Row.own_val (with_value f i w) us)) vs $ done !

pub edit_spec : {M : Type 1} → statement M
edit_spec 𝓤 𝓛 𝓜 𝓡 wired T L =
    let H = 𝓛.H in let 𝓣 = tables 𝓤 H 𝓜 𝓡 𝓡.env in let R : RattleType = param 0 T in let En = ended T in let inst = layouts (a_type ∷ []) (T, tt) in
    let fn = inst_fn inst code.function in let Br : RattleType = block.the_row R in let D : RattleType = BlockData R in let c = clauses T 𝓛 𝓜.mem 𝓡.returns in
    let self = plain (λ _. Br) in let num = plain (λ _. usize) in
    let hs : Stays En.signature.params En.kept = (stay_dropped (RefMutOf (0 ∷ []) tt self (λ _. tt)) no, (stay_dropped num yes, tt)) in
    proved 𝓛 En hs c 𝓜 𝓡 (Goes-spent_ref 𝓛 2 (0 ∷ []) tt self, (Goes-dropped 𝓛 2 num yes (λ κs x f. refl), tt))
    (#self inst) fn (code.unfolded 𝓤 H 𝓜 𝓡 wired (T, tt))
    (λ κs. (mut_vals, (uint_vals w64, tt))) (λ κs. (mut_Tells (named 0) κs.0 Br, (uint_Tells w64, tt))) (λ κs qs bounds a gh are.
    let b : ℕ = a.0.ref_ptr.0 in let o : ℕ = a.0.ref_ptr.1 in let γ : GName = a.0.ghost_name in let κ : Lft = κs.0 in let q : Share = qs.0 in
    let f : Br.Denot = a.0.now in let i : ℕ = a.1.0 in let p : Ptr = f.ptr in let xs = f.values in let ss = f.fractions in let s : ℕ = (mem R).size in
    let base : ℕ = block_of p in let start : ℕ = count_of p in let place : ℕ = i * s + start in let here : Ptr = block_ptr base place in
    let now : List (Option ℕ) = slice_index_or ss i [] in let others : Fml = fsep (flft κs.1.0 qs.1.0) ftrue in
    let Inside : Type 0 = i < length xs in let Home : Type 0 = IsUnlent ss i in
    let y : (walk_of 𝓛 En hs c).Ghost = ((κs, qs, bounds, a, (vptr b o ∷ [], (vint w64 i ∷ [], tt))), gh) in
    let Post : Val → SProp 𝓤 = (walk_of 𝓛 En hs c).post y in let there : Val = vptr base place in
    qed 𝓛 (((‵ (flft κ q) ⊛ ‵ others) ⊛ ‵ (owns (types_at En.signature.params κs) a y.0.4)) ∷ raw (fact 𝓤 _) ∷ raw (fact 𝓤 Inside) ∷ raw (fact 𝓤 Home) ∷ []) ∵
    keep ! (2 ∷ 3 ∷ 0 ∷ []) $ heard ! Inside (λ near. heard ! Home (λ unlent. let home : AreUnlent now = all_home now unlent in
    let d : T.Denot = hd xs (omega arith) in let x : T.Denot = slice_index_or xs i d in
    split ! $ split ! $ move ! (2 ∷ []) $ fsplit ! $ fsplit3 ! $ keep ! (1 ∷ 2 ∷ 4 ∷ 5 ∷ []) $
    enter ! 𝓣.C 𝓣.Λ fn (vptr b o ∷ vint w64 i ∷ []) Post $ alloc_all ! (λ l. pass_all ! refl ((tt, tt), ((tt, record { fits = are.1.0.1 }), tt)) $
    let Ev = env fn.locals l in
    opens ! tt Br b o (λ vs. move ! (1 ∷ []) $ fsplit ! $ move ! (1 ∷ []) $ fsplit ! $ fpick ! (λ fit. drop ! $ let long = fit.2 in
    let fi : i < 2 ^ 64 = are.1.0.1 in let small : s < 2 ^ 63 = one_below (length xs) s (2 ^ 63) (omega arith) fit.1 in let tiny : s < 2 ^ 64 = omega arith in
    let part : i * s < 2 ^ 63 = times_below i (length xs) s (2 ^ 63) (omega arith) fit.1 in let fm : i * s < 2 ^ 64 = omega arith in
    use1 𝓛 (‵ (spot R here x now) ⊛ ‵ (besides 𝓛 R base start xs ss i)) (spot_out 𝓛 R base start xs ss i d near (omega arith)) $ split ! $
    use1 𝓛 (later (‵ (lies_at R full_share here x) ⊛ ‵ (fits_fact (length now < 2 ^ 63)))) (to_plain 𝓛 R here x now home) $ await ! tt $ split ! $
    -- [the value; the bound; the other spots; the field; the cell; the open borrow; the names; the others]
    move ! (3 ∷ []) $ peeks ! D (Is D) (shows 𝓛 D) (p, tt) vs (λ is-so. drop ! $
    let ew : vs ≡ strip_of p ∷ [] = block_told R p vs is-so in
    let ep : strip_of p ∷ [] ≡ strip_of (block_ptr base start) ∷ [] = ap (λ (z : Ptr). strip_of z ∷ []) (at_block p fit.0) in
    rewrite ! 3 (λ (ws : List Val). ‵ (cell_at full_share D.mir ws b o)) (ew ∙ ep) refl $ first ! $ blocks ! $
    sets ! (of_opd ! (load ! (through ! refl (fld ! refl (stop !))) (look_in ! 3 (sub ! 0 refl (whole !))))) refl (tt, tt) $
    rewrite ! 3 (λ (ws : List Val). ‵ (cell_at full_share D.mir ws b o)) (sym ep) refl $
    sets ! (bin ! (get ! refl) (size_lit ! (record { fits = tiny })) (record { fits = fm })) refl (tt, record { fits = fm }) $
    sets ! (bin ! (get ! refl) (get ! refl) tt) refl (tt, tt) $ sets_last ! (addr ! (through ! refl (stop !))) refl (tt, tt) $
    exec ! 𝓣.C 𝓣.Λ Ev (after 1 fn.body) (at_ret Ev Post) $ sets ! (of_opd ! (get ! refl)) refl (tt, tt) $
    -- [the value; the bound; the other spots; the cell; the open borrow; the names; the others]
    move ! (2 ∷ 3 ∷ []) $ fjoin ! $ move ! (2 ∷ 0 ∷ []) $ fjoin ! $ move ! (2 ∷ 3 ∷ 4 ∷ 1 ∷ 0 ∷ []) $ group ! 5 $
    use1 𝓛 (later (some (λ (γ' : GName). ‵ ((MutRef (named 0) κ R).own_val (record { ref_ptr = (base, place); ghost_name = γ'; now = x })
    (there ∷ [])) ⊛ ‵ (flft κ q) ⊛ ‵ (follows Br R γ γ' (with_value f i)))))
    (lends_Part 𝓛 Br R (with_value f i) (named 0) κ q b o base place γ (sem 𝓛 (Rest 𝓛 R b o f i)) (back 𝓛 R b o f i fit near (omega arith) home)
    (Br.coded.code f) (Br.coded.code f) x) $
    await ! tt $ pick ! (λ γ'. split3 ! $
    -- [the value's `&mut`; its token; what follows; the others]
    move ! (1 ∷ 3 ∷ []) $ join ! $ nothing ! $ nothing ! $ fjoin ! $ nothing ! $ fjoin ! $ let Value : Type 0 = (e : T.Denot) → x ≡ slice_index_or xs i e in
    use0 𝓛 (raw (fact 𝓤 Value)) (fact_i 𝓤 Value (emp 𝓤) (λ e. any-default xs i d e near)) $ move ! (4 ∷ 0 ∷ []) $ join ! $
    returns ! (look_at ! 0 refl) $ free_all ! refl $ keep ! (2 ∷ 1 ∷ 3 ∷ 0 ∷ []) $
    by ! (leaves 𝓛 En hs c y there (record { ref_ptr = (base, place); ghost_name = γ'; now = x }) (tt, (tt, tt)) (tt, (tt, tt)))))))))))
