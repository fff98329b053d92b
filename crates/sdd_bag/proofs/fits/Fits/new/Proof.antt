-- Whoever knows that a bag is small keeps that.
use Rattle.atomic_table.proofs.Names.{[], ◌∷◌, refl, a_type, Val, inst_fn, SProp, emp, id⊢, ftrue, ‵, raw, ◌⊛◌, ◌$◌, ◌∵◌, !, qed, by, keep, split, fjoin, fpack, use0, no_more, and_then, returns, enter, alloc_all, pass_all, free_all, look_at, get, sets, agg, tables, RattleType, owns, types_at, nothing, heard, param, layouts, alive, Stays, walk_of, fact}
use mir.Syntax.{a_number}
use mir.Val.{vstruct, vnil}
use seplogic.Ra.Ura.{Ura}
use base.Logic.{ent}
use types.Logic.{Logic, sem}
use denote.Param.{number}
use denote.Shadow.{makes_shadow}
use denote.Struct.Struct.{Struct}
use denote.Struct.Owning.{shape}
use Rattle.atomic_table.proofs.Walks.{proved, leaves}
use Rattle.atomic_table.proofs.Fields.{token_val}
use Rattle.sdd_bag.specs.Sizes.{IsSmall}
use Rattle.sdd_bag.specs.contracts.fits.Fits as fits
use Rattle.sdd_bag.specs.contracts.fits.Fits.new.{ended, clauses}
use Rattle.sdd_bag.specs.contracts.fits.Fits.new.Key.{name as #self}
use Rattle.sdd_bag.proofs.fits.Fits.new.Statement.{statement}
use Rattle.sdd_bag.proofs.fits.Fits.new.Code as code

module _ (R N S : RattleType) where
  abbrev Ring : RattleType
  Ring = Struct (shape (fits.the_type R N S))

  ring_made : {M : Type 1} {𝓤 : Ura M} (𝓛 : Logic 𝓤) → ent 𝓤 (emp 𝓤) (sem 𝓛 (Ring.own_val (tt, tt) (token_val ∷ [])))
  ring_made 𝓛 = makes_shadow 𝓛 (Ring.own_val (tt, tt) (token_val ∷ [])) (λ vss. (tt, ((λ uss. (tt, tt)), tt)))
      ((vstruct vnil ∷ [], tt), (refl, ((tt, (refl, tt)), tt)))

pub new_spec : {M : Type 1} → statement M
new_spec 𝓤 𝓛 𝓜 𝓡 wired T len B L F L' =
    let H = 𝓛.H in let 𝓣 = tables 𝓤 H 𝓜 𝓡 𝓡.env in let N : RattleType = number len in let R : RattleType = param 0 T in let P : RattleType = param 1 N in
    let S : RattleType = param 2 B in let En = ended T N B in let c = clauses T N B 𝓛 𝓜.mem 𝓡.returns in
    let inst = layouts (a_type ∷ a_number ∷ a_type ∷ []) (T, (N, (B, tt))) in let fn = inst_fn inst code.function in
    let closed = code.unfolded 𝓤 H 𝓜 𝓡 wired (T, (N, (B, tt))) in
    let hs : Stays En.signature.params En.kept = tt in
    proved 𝓛 En hs c 𝓜 𝓡 tt (#self inst) fn closed (λ κs. tt) (λ κs. tt) (λ κs qs bounds a gh are.
    let Small : Type 0 = IsSmall R P S in
    let new : (fits.the_row R P S).Denot = record { of = record {} } in
    let y : (walk_of 𝓛 En hs c).Ghost = ((κs, qs, bounds, a, tt), gh) in let Post : Val → SProp 𝓤 = (walk_of 𝓛 En hs c).post y in
    qed 𝓛 ((raw (alive 𝓛 En.signature κs qs) ⊛ ‵ (owns (types_at En.signature.params κs) a y.0.4)) ∷ raw (fact 𝓤 _) ∷ raw (fact 𝓤 _) ∷ raw (fact 𝓤 _)
    ∷ raw (fact 𝓤 _)
    ∷ raw (fact 𝓤 Small) ∷ []) ∵
    keep ! (5 ∷ 0 ∷ []) $ heard ! Small (λ small. split ! $ keep ! (0 ∷ []) $
    enter ! 𝓣.C 𝓣.Λ fn [] Post $ alloc_all ! (λ l. pass_all ! refl tt $
    nothing ! $ fpack ! Small (λ _. ftrue) small $ use0 𝓛 (‵ ((Ring R P S).own_val (tt, tt) (token_val ∷ []))) (ring_made R P S 𝓛) $ fjoin ! $
    sets ! (agg ! (no_more !)) refl (tt, tt) $ sets ! (agg ! (and_then ! (get ! refl) (no_more !))) refl (tt, (tt, tt)) $
    nothing ! $
    returns ! (look_at ! 0 refl) $ free_all ! refl $ use0 𝓛 (raw (emp 𝓤)) (id⊢ 𝓤 (emp 𝓤)) $ keep ! (3 ∷ 1 ∷ 2 ∷ 0 ∷ []) $
    by ! (leaves 𝓛 En hs c y token_val new tt tt))))
