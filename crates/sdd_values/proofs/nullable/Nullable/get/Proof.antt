-- What a `&` to a nullable of a value has, a `&` to the value has.
use Rattle.atomic_table.proofs.Names.{◌≡◌, ℕ, [], ◌∷◌, List, refl, a_type, named, Val, vptr, inst_fn, SProp, emp, Lft, Fml, ftrue, fsep, flft, ‵, raw, ◌⊛◌, at_ret, ◌$◌, ◌∵◌, !, qed, by, move, keep, drop, split, fsplit, fjoin, use0, rewrite, feq_i, stop, addr, of_opd, first, blocks, exec, returns, enter, alloc_all, pass_all, free_all, look_at, get, through, sets, sets_last, env, tables, yes, RattleType, owns, types_at, plain, nothing, heard, param, layouts, Stays, stay_dropped, walk_of, Goes-dropped, fact, fact_i, RefOf, shr_vals, shr_Tells, hidden_shr}
use Rattle.std.proofs.Common.{true≢false, sym}
use Rattle.core.proofs.slots.Bodies.{after}
use Rattle.atomic_table.proofs.Walks.{proved, leaves}
use Rattle.std.specs.Prelude.{Option, Some, None, IsSome}
use Rattle.sdd_values.specs.contracts.nullable.Nullable as nullable
use Rattle.sdd_values.specs.contracts.nullable.Nullable.get.{ended, clauses}
use Rattle.sdd_values.specs.contracts.nullable.Nullable.get.Key.{name as #self}
use Rattle.sdd_values.proofs.nullable.Nullable.get.Statement.{statement}
use Rattle.sdd_values.proofs.nullable.Nullable.get.Code as code

in_nullable : {X : Type 0} (shown : Option X) → IsSome shown → (x : X) × (shown ≡ Some x)
in_nullable None is = absurd (true≢false (sym is))
in_nullable (Some x) is = (x, refl)

pub get_spec : {M : Type 1} → statement M
get_spec 𝓤 𝓛 𝓜 𝓡 wired T L =
    let H = 𝓛.H in let 𝓣 = tables 𝓤 H 𝓜 𝓡 𝓡.env in let R : RattleType = param 0 T in let En = ended T in
    let inst = layouts (a_type ∷ []) (T, tt) in let fn = inst_fn inst code.function in
    let c = clauses T 𝓛 𝓜.mem 𝓡.returns in let Row : RattleType = nullable.the_row R in
    let self = RefOf (0 ∷ []) tt (plain (λ _. Row)) (λ _. tt) in let hs : Stays En.signature.params En.kept = (stay_dropped self yes, tt) in
    proved 𝓛 En hs c 𝓜 𝓡 (Goes-dropped 𝓛 2 self yes (λ κs x f. refl), tt) (#self inst) fn (code.unfolded 𝓤 H 𝓜 𝓡 wired (T, tt))
    (λ κs. (shr_vals, tt)) (λ κs. (shr_Tells (named 0) κs.0 Row, tt)) (λ κs qs bounds a gh are.
    let b : ℕ = a.0.ref_ptr.0 in let o : ℕ = a.0.ref_ptr.1 in let κ : Lft = κs.0 in let shown : Option R.Denot = a.0.now in
    let others : Fml = fsep (flft κs.1.0 qs.1.0) ftrue in let Asked : Type 0 = IsSome shown in
    let y : (walk_of 𝓛 En hs c).Ghost = ((κs, qs, bounds, a, (vptr b o ∷ [], tt)), gh) in
    let Post : Val → SProp 𝓤 = (walk_of 𝓛 En hs c).post y in
    qed 𝓛 (((‵ (flft κ qs.0) ⊛ ‵ others) ⊛ ‵ (owns (types_at En.signature.params κs) a y.0.4)) ∷ raw (fact 𝓤 _) ∷ raw (fact 𝓤 Asked) ∷ []) ∵
    keep ! (2 ∷ 0 ∷ []) $ heard ! Asked (λ is. let x : R.Denot = (in_nullable shown is).0 in let told : shown ≡ Some x = (in_nullable shown is).1 in
    split ! $ move ! (1 ∷ []) $ fsplit ! $ fsplit ! $ drop ! $
    rewrite ! 0 (λ (z : Option R.Denot). ‵ (hidden_shr Row κ z b o)) told refl $ keep ! (2 ∷ 0 ∷ []) $
    -- [the tokens; the value]
    enter ! 𝓣.C 𝓣.Λ fn (vptr b o ∷ []) Post $ alloc_all ! (λ l. pass_all ! refl ((tt, tt), tt) $
    let Ev = env fn.locals l in
    first ! $ blocks ! $ sets ! (addr ! (through ! refl (stop !))) refl (tt, tt) $ sets ! (of_opd ! (get ! refl)) refl (tt, tt) $
    sets_last ! (addr ! (through ! refl (stop !))) refl (tt, tt) $
    exec ! 𝓣.C 𝓣.Λ Ev (after 1 fn.body) (at_ret Ev Post) $ sets ! (of_opd ! (get ! refl)) refl (tt, tt) $
    move ! (1 ∷ []) $ feq_i ! (List Val) (vptr b o ∷ []) (vptr b o ∷ []) refl $ fjoin ! $ nothing ! $ nothing ! $ fjoin ! $
    use0 𝓛 (raw (fact 𝓤 (shown ≡ Some x))) (fact_i 𝓤 (shown ≡ Some x) (emp 𝓤) told) $
    -- [the fact; the parameter; the value; the tokens]
    returns ! (look_at ! 0 refl) $ free_all ! refl $ keep ! (3 ∷ 1 ∷ 2 ∷ 0 ∷ []) $
    by ! (leaves 𝓛 En hs c y (vptr b o) (record { ref_ptr = (b, o); now = x }) (tt, tt) (tt, tt)))))
