-- `take` parts the rights.
use Rattle.atomic_table.proofs.Names.{◌≡◌, ℕ, ◌<◌, List, [], ◌∷◌, length, refl, a_type, named, Val, vptr, inst_fn, SProp, emp, ‵, raw, ◌⊛◌, ◌$◌, ◌∵◌, !, qed, by, keep, split, fjoin, use0, use1, move, fsplit, fsplit3, fjoin3, join, feq_i, no_more, and_then, returns, enter, alloc_all, pass_all, free_all, look_at, get, sets, agg, tables, RattleType, owns, types_at, plain, nothing, opens, closes, heard, param, layouts, Stays, stay_dropped, stay_ref, walk_of, Goes-dropped, Goes-ref, fact, fact_i, ftrue, Fml, fsep, flft, Lft, yes, mut_vals, mut_Tells, uint_vals, uint_Tells}
use denote.Builtin.{u128}
use mir.Syntax.{w128}
use mir.Val.{vint}
use Rattle.std.proofs.Common.{Some, slice_get}
use Rattle.atomic_table.proofs.Walks.{proved, leaves}
use Rattle.atomic_table.proofs.Fields.{token_val}
use Rattle.sdd_bag.specs.KeyedPlaces.{key_owns}
use Rattle.sdd_bag.specs.KeptValues.{KeptValue, keys_own, without_at}
use Rattle.sdd_bag.proofs.Fields.{Bit, bit_made}
use Rattle.sdd_bag.proofs.Keys.{kept_at, kept_is, comes_out}
use Rattle.sdd_bag.specs.contracts.keyed_place.PlaceKey as key
use Rattle.sdd_bag.specs.contracts.keyed_place.PlaceKeys as keys
use Rattle.sdd_bag.specs.contracts.keyed_place.PlaceKeys.take.{ended, clauses}
use Rattle.sdd_bag.specs.contracts.keyed_place.PlaceKeys.take.Key.{name as #self}
use Rattle.sdd_bag.proofs.keyed_place.PlaceKeys.take.Statement.{statement}
use Rattle.sdd_bag.proofs.keyed_place.PlaceKeys.take.Code as code

pub take_spec : {M : Type 1} → statement M
take_spec 𝓤 𝓛 𝓜 𝓡 wired X L =
    let H = 𝓛.H in let 𝓣 = tables 𝓤 H 𝓜 𝓡 𝓡.env in let R : RattleType = param 0 X in let En = ended X in let inst = layouts (a_type ∷ []) (X, tt) in
    let fn = inst_fn inst code.function in let Row : RattleType = keys.the_row R in let Kr : RattleType = key.the_row R in
    let c = clauses X 𝓛 𝓜.mem 𝓡.returns in let self = plain (λ _. Row) in let num = plain (λ _. u128) in
    let hs : Stays En.signature.params En.kept = (stay_ref (0 ∷ []) tt self, (stay_dropped num yes, tt)) in
    proved 𝓛 En hs c 𝓜 𝓡 (Goes-ref 𝓛 2 0 tt self, (Goes-dropped 𝓛 2 num yes (λ κs x f. refl), tt)) (#self inst) fn (code.unfolded 𝓤 H 𝓜 𝓡 wired (X, tt))
    (λ κs. (mut_vals, (uint_vals w128, tt))) (λ κs. (mut_Tells (named 0) κs.0 Row, (uint_Tells w128, tt))) (λ κs qs bounds a gh are.
    let b : ℕ = a.0.ref_ptr.0 in let o : ℕ = a.0.ref_ptr.1 in let κ : Lft = κs.0 in let d : Row.Denot = a.0.now in let m : ℕ = a.1.0 in
    let others : Fml = fsep (flft κs.1.0 qs.1.0) ftrue in let ks : List (KeptValue X.Denot) = d.kept in let Inside : Type 0 = m < length ks in
    let d' : Row.Denot = record d { kept = without_at ks m } in
    let y : (walk_of 𝓛 En hs c).Ghost = ((κs, qs, bounds, a, (vptr b o ∷ [], (vint w128 m ∷ [], tt))), gh) in
    let Post : Val → SProp 𝓤 = (walk_of 𝓛 En hs c).post y in
    qed 𝓛 (((‵ (flft κ qs.0) ⊛ ‵ others) ⊛ ‵ (owns (types_at En.signature.params κs) a y.0.4)) ∷ raw (fact 𝓤 _) ∷ raw (fact 𝓤 Inside) ∷ []) ∵
    keep ! (2 ∷ 0 ∷ []) $ heard ! Inside (λ inside. split ! $ split ! $ move ! (2 ∷ []) $ fsplit ! $ fsplit3 ! $ keep ! (1 ∷ 2 ∷ 4 ∷ 5 ∷ []) $
    let k : KeptValue X.Denot = kept_at ks m inside in let new : Kr.Denot = record { of = record {}; name = k.name; value = k.value } in
    let Told : Type 0 = slice_get ks m ≡ Some k in
    enter ! 𝓣.C 𝓣.Λ fn (vptr b o ∷ vint w128 m ∷ []) Post $ alloc_all ! (λ l. pass_all ! refl ((tt, tt), ((tt, record { fits = are.1.0.1 }), tt)) $
    opens ! tt Row b o (λ vs. move ! (1 ∷ []) $ fsplit ! $ move ! (1 ∷ []) $
    use1 𝓛 (‵ (keys_own R (without_at ks m)) ⊛ ‵ (key_owns R k.name k.value)) (comes_out 𝓛 R ks m inside) $ split ! $
    -- [what stays; what goes; the field; the cell; the open borrow; the names]
    sets ! (agg ! (no_more !)) refl (tt, tt) $ sets ! (agg ! (and_then ! (get ! refl) (no_more !))) refl (tt, (tt, tt)) $
    move ! (2 ∷ 0 ∷ []) $ fjoin ! $ move ! (2 ∷ 0 ∷ 3 ∷ 4 ∷ 5 ∷ []) $ closes ! tt Row d' vs b o $
    feq_i ! (List Val) (vptr b o ∷ []) (vptr b o ∷ []) refl $ fjoin3 ! $ nothing ! $ nothing ! $ fjoin ! $ move ! (1 ∷ 0 ∷ []) $ fjoin ! $
    move ! (1 ∷ 3 ∷ []) $ join ! $ move ! (2 ∷ []) $ use0 𝓛 (‵ ((Bit R).own_val (tt, tt) (token_val ∷ []))) (bit_made R 𝓛) $ fjoin ! $
    use0 𝓛 (raw (fact 𝓤 Told)) (fact_i 𝓤 Told (emp 𝓤) (kept_is ks m inside)) $ use0 𝓛 (raw (fact 𝓤 (d' ≡ d'))) (fact_i 𝓤 (d' ≡ d') (emp 𝓤) refl) $ join ! $
    returns ! (look_at ! 0 refl) $ free_all ! refl $ keep ! (2 ∷ 3 ∷ 1 ∷ 0 ∷ []) $ by ! (leaves 𝓛 En hs c y token_val new (d', (tt, tt)) (tt, (tt, tt)))))))
