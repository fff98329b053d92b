-- No entry stands in a new ledger.
use Rattle.atomic_table.proofs.Names.{◌≡◌, ℕ, List, [], ◌∷◌, refl, a_type, Val, vint, w64, inst_fn, SProp, emp, ftrue, ‵, raw, ◌⊛◌, ◌$◌, ◌∵◌, !, qed, by, keep, split, fjoin, fpack, use0, no_more, and_then, returns, enter, alloc_all, pass_all, free_all, look_at, get, sets, agg, tables, yes, RattleType, usize, uint_vals, uint_Tells, owns, types_at, plain, nothing, param, layouts, alive, Stays, stay_dropped, walk_of, Goes-dropped, fact, fact_i}
use Rattle.std.specs.Prelude.{Option, None, replicate}
use base.Stored.{Gv}
use Rattle.atomic_table.proofs.Walks.{proved, leaves}
use Rattle.sdd_shared_values.specs.GhostValues.{AreCoded}
use Rattle.sdd_shared_values.specs.contracts.ghost_values.GhostValues as ledger
use Rattle.sdd_shared_values.proofs.Fields.{token_val}
use Rattle.sdd_shared_values.proofs.GhostCodes.{LedgerData, ledger_made, empty_coded}
use Rattle.sdd_shared_values.specs.contracts.ghost_values.GhostValues.new.{ended, clauses}
use Rattle.sdd_shared_values.specs.contracts.ghost_values.GhostValues.new.Key.{name as #self}
use Rattle.sdd_shared_values.proofs.ghost_values.GhostValues.new.Statement.{statement}
use Rattle.sdd_shared_values.proofs.ghost_values.GhostValues.new.Code as code

pub new_spec : {M : Type 1} → statement M
new_spec 𝓤 𝓛 𝓜 𝓡 wired T _ =
    let H = 𝓛.H in let 𝓣 = tables 𝓤 H 𝓜 𝓡 𝓡.env in let R : RattleType = param 0 T in let En = ended T in let c = clauses T 𝓛 𝓜.mem 𝓡.returns in
    let inst = layouts (a_type ∷ []) (T, tt) in let fn = inst_fn inst code.function in let Row : RattleType = ledger.the_row R in
    let num = plain (λ _. usize) in let hs : Stays En.signature.params En.kept = (stay_dropped num yes, tt) in
    proved 𝓛 En hs c 𝓜 𝓡 (Goes-dropped 𝓛 1 num yes (λ κs x f. refl), tt) (#self inst) fn (code.unfolded 𝓤 H 𝓜 𝓡 wired (T, tt))
    (λ κs. (uint_vals w64, tt)) (λ κs. (uint_Tells w64, tt)) (λ κs qs bounds a gh are.
    let n : ℕ = a.0 in let none : List (Option (R.Denot × Gv)) = replicate n None in let r : Row.Denot = record { of = record {}; entries = none } in
    let y : (walk_of 𝓛 En hs c).Ghost = ((κs, qs, bounds, a, (vint w64 n ∷ [], tt)), gh) in let Post : Val → SProp 𝓤 = (walk_of 𝓛 En hs c).post y in
    let Told : Type 0 = none ≡ none in
    qed 𝓛 ((raw (alive 𝓛 En.signature κs qs) ⊛ ‵ (owns (types_at En.signature.params κs) a y.0.4)) ∷ raw ((c κs a).requires gh) ∷ []) ∵
    split ! $ keep ! (0 ∷ []) $ nothing ! $ fpack ! (AreCoded R none) (λ _. ftrue) (empty_coded R n) $
    use0 𝓛 (‵ ((LedgerData R).own_val (tt, tt) (token_val ∷ []))) (ledger_made R 𝓛) $ fjoin ! $
    -- [the ledger; the tokens]
    enter ! 𝓣.C 𝓣.Λ fn (vint w64 n ∷ []) Post $ alloc_all ! (λ l. pass_all ! refl ((tt, record { fits = are.0.1 }), tt) $
    sets ! (agg ! (no_more !)) refl (tt, tt) $ sets ! (agg ! (and_then ! (get ! refl) (no_more !))) refl (tt, (tt, tt)) $
    use0 𝓛 (raw (fact 𝓤 Told)) (fact_i 𝓤 Told (emp 𝓤) refl) $ nothing ! $ nothing ! $ fjoin ! $
    returns ! (look_at ! 0 refl) $ free_all ! refl $ keep ! (3 ∷ 0 ∷ 2 ∷ 1 ∷ []) $ by ! (leaves 𝓛 En hs c y token_val r (tt, tt) (tt, tt))))
