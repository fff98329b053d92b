-- `new` names the value, and gives the right to the name to the key.
use Rattle.atomic_table.proofs.Names.{◌≡◌, [], ◌∷◌, ◌++◌, List, sym, refl, a_type, Val, vstruct, vcons, vnil, inst_fn, SProp, emp, ent, id⊢, ftrue, fsep, ‵, raw, ◌⊛◌, ◌$◌, ◌∵◌, !, qed, by, move, keep, drop, split, join, fsplit, fjoin, fjoin3, fpack, use0, rewrite, feq_i, suffices, of_opd, no_more, and_then, returns, enter, alloc_all, pass_all, free_all, look_at, get, sets, agg, tables, no, RattleType, Valss, owns, types_at, plain, nothing, param, layouts, Stays, stay_dropped, walk_of, Goes-dropped, fact, fact_i, WpFn, subst}
use base.Stored.{gnum}
use base.Fml.{fauth}
use mir.Val.{has_ty, WT}
use lib.Dec.{T as Tr}
use mathlib.Core.Bool.{true, ◌&&◌}
use denote.Laws.{Typed}
use denote.Param.{layout}
use denote.Triple.Entry.{alive}
use denote.Struct.Struct.{within}
use denote.Struct.Declared as Declared
use denote.Struct.Tuple.{tuple_type}
use types.Tokens.{name_new}
use Rattle.core.proofs.mem.Param.{El, lawful, Good, one}
use Rattle.atomic_table.proofs.Fields.{token_val}
use Rattle.atomic_table.proofs.Walks.{proved_at, leaves}
use Rattle.sdd_bag.specs.KeyedPlaces.{PlaceName}
use Rattle.sdd_bag.specs.contracts.keyed_place.KeyedPlace as place
use Rattle.sdd_bag.specs.contracts.keyed_place.KeyedPlace.TheInside as inside
use Rattle.sdd_bag.specs.contracts.keyed_place.PlaceKey as key
use Rattle.sdd_bag.proofs.Fields.{and_true, place_val, Bit, bit_made}
use Rattle.sdd_bag.specs.contracts.keyed_place.KeyedPlace.new.{ended, clauses}
use Rattle.sdd_bag.specs.contracts.keyed_place.KeyedPlace.new.Key.{name as #self}
use Rattle.sdd_bag.proofs.keyed_place.KeyedPlace.new.Statement.{statement}
use Rattle.sdd_bag.proofs.keyed_place.KeyedPlace.new.Code as code

pub new_spec : {M : Type 1} → statement M
new_spec 𝓤 𝓛 𝓜 𝓡 wired T L =
    let H = 𝓛.H in let 𝓣 = tables 𝓤 H 𝓜 𝓡 𝓡.env in let E : El = record { row = T; laws = L } in let R : RattleType = param 0 T in let En = ended T in
    let inst = layouts (a_type ∷ []) (T, tt) in let fn = inst_fn inst code.function in let Row : RattleType = place.the_row R in
    let Kr : RattleType = key.the_row R in
    let c = clauses T 𝓛 𝓜.mem 𝓡.returns in let item = plain (λ _. R) in let hs : Stays En.signature.params En.kept = (stay_dropped item no, tt) in
    let F : RattleType = inside.the_row R in let D = Declared.shape (inside.the_type R) in
    proved_at 𝓛 En hs c 𝓜 𝓡 (Goes-dropped 𝓛 1 item no (λ κs x f. refl), tt) (#self inst) fn (code.unfolded 𝓤 H 𝓜 𝓡 wired (T, tt)) (λ z are.
    let x : T.Denot = z.0.3.0 in let got = one E z.0.4.0 ((lawful E 𝓛).typed x z.0.4.0 are.0) in let vy : Val = got.0 in let fy : Good E vy = got.2 in
    let v : Val = place_val vy in let pair : Val = vstruct (vcons v (vcons token_val vnil)) in
    let Post : Val → SProp 𝓤 = (walk_of 𝓛 En hs c).post z in let Run : List Val → SProp 𝓤 = λ ws. WpFn 𝓤 H 𝓣.C 𝓣.Λ fn ws Post in
    let typed : Tr (has_ty (layout T) vy && true) × WT v = (and_true (has_ty (layout T) vy) fy.0, (fy.1, tt)) in
    qed 𝓛 ((raw (alive 𝓛 En.signature z.0.0 z.0.1) ⊛ ‵ (owns (types_at En.signature.params z.0.0) z.0.3 z.0.4)) ∷ raw ((c z.0.0 z.0.3).requires z.1) ∷ []) ∵
    keep ! (0 ∷ []) $ split ! $ move ! (1 ∷ []) $ fsplit ! $ move ! (1 ∷ []) $ drop ! $
    rewrite ! 0 (λ (ws : List Val). ‵ (R.own_val x ws)) got.1 refl $
    suffices ! (Run (vy ∷ [])) (subst (λ (ws : List Val). ent 𝓤 (Run (vy ∷ [])) (Run ws)) (sym (λ i. got.1 i ++ [])) (id⊢ 𝓤 (Run (vy ∷ [])))) $
    enter ! 𝓣.C 𝓣.Λ fn (vy ∷ []) Post $ alloc_all ! (λ l. pass_all ! refl (fy, tt) $
    name_new ! tt (R.coded.code x) (λ γ. name_new ! tt (gnum 0) (λ δ. let n : PlaceName = record { value = γ; key = δ } in
    let k : Kr.Denot = record { of = record {}; name = n; value = x } in
    -- [the key's right, in two; the value's name, in two; the value; the tokens]
    fjoin ! $ move ! (1 ∷ 0 ∷ []) $ fjoin ! $ use0 𝓛 (‵ ((Bit R).own_val (tt, tt) (token_val ∷ []))) (bit_made R 𝓛) $ fjoin ! $
    -- [the key; the name; the value; the tokens]
    move ! (2 ∷ []) $ nothing ! $ move ! (1 ∷ 0 ∷ []) $ fjoin ! $ feq_i ! (List Val) (v ∷ []) (v ∷ []) refl $ fjoin ! $
    fpack ! (Valss (R ∷ [])) (within D (x, tt) (v ∷ [])) (vy ∷ [], tt) $ move ! (0 ∷ 2 ∷ []) $ fjoin ! $
    fpack ! T.Denot (λ w. fsep (F.own_val (record { value = w }) (v ∷ [])) (fauth γ (R.coded.code w))) x $
    nothing ! $ fpack ! (Typed F.mir (v ∷ [])) (λ _. ftrue) (typed, tt) $ fjoin ! $
    -- [the place; the key; the tokens]
    sets ! (of_opd ! (get ! refl)) refl fy $ sets ! (agg ! (and_then ! (get ! refl) (no_more !))) refl typed $
    sets ! (agg ! (no_more !)) refl (tt, tt) $ sets ! (agg ! (and_then ! (get ! refl) (no_more !))) refl (tt, (tt, tt)) $
    sets ! (agg ! (and_then ! (get ! refl) (and_then ! (get ! refl) (no_more !)))) refl
    (and_true (has_ty (layout T) vy && true) typed.0, (typed.1, ((tt, tt), tt))) $
    nothing ! $ move ! (1 ∷ 2 ∷ 0 ∷ []) $ fjoin3 ! $ feq_i ! (List Val) (pair ∷ []) (pair ∷ []) refl $ fjoin ! $
    fpack ! (Valss (Row ∷ Kr ∷ [])) (within (Declared.shape (tuple_type (Row ∷ Kr ∷ []))) (n, (k, tt)) (pair ∷ [])) (v ∷ [], (token_val ∷ [], tt)) $
    use0 𝓛 (raw (fact 𝓤 (x ≡ x))) (fact_i 𝓤 (x ≡ x) (emp 𝓤) refl) $ use0 𝓛 (raw (fact 𝓤 (n ≡ n))) (fact_i 𝓤 (n ≡ n) (emp 𝓤) refl) $ join ! $
    nothing ! $ nothing ! $ fjoin ! $
    returns ! (look_at ! 0 refl) $ free_all ! refl $ keep ! (3 ∷ 0 ∷ 2 ∷ 1 ∷ []) $ by ! (leaves 𝓛 En hs c z pair (n, k) (tt, tt) (tt, tt))))))
