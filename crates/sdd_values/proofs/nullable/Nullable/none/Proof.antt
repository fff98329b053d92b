-- A `&` to a nullable that shows nothing has nothing, wherever it points.
use Rattle.atomic_table.proofs.Names.{◌≡◌, [], ◌∷◌, List, refl, a_type, Val, vptr, inst_fn, SProp, emp, Lft, Fml, ftrue, fsep, flft, ‵, raw, ◌⊛◌, at_ret, ◌$◌, ◌∵◌, !, qed, by, keep, drop, split, fjoin, use0, feq_i, stop, addr, of_opd, first, blocks, exec, returns, enter, alloc_all, pass_all, free_all, look_at, get, through, sets, sets_last, lands_as, env, tables, RattleType, owns, types_at, nothing, param, layouts, Stays, walk_of, fact, fact_i}
use base.Logic.{id⊢}
use base.Fml.{fhide}
use types.Run.{statics}
use Rattle.core.proofs.slots.Bodies.{after}
use Rattle.atomic_table.proofs.Walks.{proved, leaves}
use Rattle.std.specs.Prelude.{Option, None}
use Rattle.sdd_values.specs.contracts.nullable.Nullable.none.{ended, clauses}
use Rattle.sdd_values.specs.contracts.nullable.Nullable.none.Key.{name as #self}
use Rattle.sdd_values.proofs.nullable.Nullable.none.Statement.{statement}
use Rattle.sdd_values.proofs.nullable.Nullable.none.Code as code

pub none_spec : {M : Type 1} → statement M
none_spec 𝓤 𝓛 𝓜 𝓡 wired T L =
    let H = 𝓛.H in let 𝓣 = tables 𝓤 H 𝓜 𝓡 𝓡.env in let R : RattleType = param 0 T in let En = ended T in
    let inst = layouts (a_type ∷ []) (T, tt) in let fn = inst_fn inst code.function in
    let c = clauses T 𝓛 𝓜.mem 𝓡.returns in let hs : Stays En.signature.params En.kept = tt in
    proved 𝓛 En hs c 𝓜 𝓡 tt (#self inst) fn (code.unfolded 𝓤 H 𝓜 𝓡 wired (T, tt)) (λ κs. tt) (λ κs. tt) (λ κs qs bounds a gh are.
    let κ : Lft = κs.0 in let others : Fml = fsep (flft κs.1.0 qs.1.0) ftrue in let shown : Option R.Denot = None in let Empty : Type 0 = shown ≡ None in
    let y : (walk_of 𝓛 En hs c).Ghost = ((κs, qs, bounds, a, tt), gh) in let Post : Val → SProp 𝓤 = (walk_of 𝓛 En hs c).post y in
    qed 𝓛 (((‵ (flft κ qs.0) ⊛ ‵ others) ⊛ ‵ (owns (types_at En.signature.params κs) a y.0.4)) ∷ raw (fact 𝓤 _) ∷ ‵ ftrue ∷ []) ∵
    keep ! (0 ∷ []) $ split ! $ keep ! (0 ∷ []) $
    -- [the tokens]
    enter ! 𝓣.C 𝓣.Λ fn [] Post $ alloc_all ! (λ l. pass_all ! refl tt $
    let Ev = env fn.locals l in
    first ! $ blocks ! $ statics ! (λ b. (tt, tt)) (λ b s. drop ! $ lands_as ! refl refl (tt, tt) $
    sets ! (addr ! (through ! refl (stop !))) refl (tt, tt) $ sets ! (of_opd ! (get ! refl)) refl (tt, tt) $
    sets_last ! (addr ! (through ! refl (stop !))) refl (tt, tt) $
    exec ! 𝓣.C 𝓣.Λ Ev (after 1 fn.body) (at_ret Ev Post) $ sets ! (of_opd ! (get ! refl)) refl (tt, tt) $
    use0 𝓛 (‵ (fhide ftrue)) (id⊢ 𝓤 (emp 𝓤)) $ feq_i ! (List Val) (vptr b 0 ∷ []) (vptr b 0 ∷ []) refl $ fjoin ! $ nothing ! $
    use0 𝓛 (raw (fact 𝓤 Empty)) (fact_i 𝓤 Empty (emp 𝓤) refl) $
    -- [the fact; no parameters; the nullable; the tokens]
    returns ! (look_at ! 0 refl) $ free_all ! refl $ keep ! (3 ∷ 1 ∷ 2 ∷ 0 ∷ []) $
    by ! (leaves 𝓛 En hs c y (vptr b 0) (record { ref_ptr = (b, 0); now = None }) tt tt))))
