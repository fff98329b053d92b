-- A ghost map is a new name, with every number under it.
use Rattle.sdd_rights.proofs.Names.{List, [], ◌∷◌, refl, ℕ, a_type, Val, inst_fn, SProp, emp, ‵, raw, ◌⊛◌, ◌$◌, ◌∵◌, !, qed, by, keep, split, join, fjoin, use0, some, later, pick, await, no_more, and_then, returns, enter, alloc_all, pass_all, free_all, look_at, get, sets, agg, tables, RattleType, owns, types_at, nothing, param, layouts, alive, Stays, walk_of, fact, fact_i, ◌≡◌, proved, leaves, token_val, plain, usize, stay_dropped, Goes-dropped, yes, uint_vals, uint_Tells, w64, vint}
use Rattle.std.specs.Prelude.{false}
use Rattle.atomic_table.specs.Seated.{TableId}
use Rattle.sdd_rights.specs.Units.{keys_own}
use Rattle.sdd_rights.proofs.Steps.{keys_new}
use Rattle.sdd_rights.proofs.Fields.{Cover, cover_made}
use Rattle.sdd_rights.specs.contracts.fraction.GhostKeys.new.{ended, clauses}
use Rattle.sdd_rights.specs.contracts.fraction.GhostKeys.new.Key.{name as #self}
use Rattle.sdd_rights.proofs.fraction.GhostKeys.new.Statement.{statement}
use Rattle.sdd_rights.proofs.fraction.GhostKeys.new.Code as code

pub new_spec : {M : Type 1} → statement M
new_spec 𝓤 𝓛 𝓜 𝓡 wired U _ =
    let H = 𝓛.H in let 𝓣 = tables 𝓤 H 𝓜 𝓡 𝓡.env in let W : RattleType = param 0 U in let En = ended U in let c = clauses U 𝓛 𝓜.mem 𝓡.returns in
    let inst = layouts (a_type ∷ []) (U, tt) in let fn = inst_fn inst code.function in let closed = code.unfolded 𝓤 H 𝓜 𝓡 wired (U, tt) in
    let num = plain (λ _. usize) in let hs : Stays En.signature.params En.kept = (stay_dropped num yes, tt) in
    proved 𝓛 En hs c 𝓜 𝓡 (Goes-dropped 𝓛 1 num yes (λ κs x f. refl), tt) (#self inst) fn closed (λ κs. (uint_vals w64, tt)) (λ κs. (uint_Tells w64, tt))
    (λ κs qs bounds a gh are. let m : ℕ = a.0 in let none : List TableId = [] in
    let y : (walk_of 𝓛 En hs c).Ghost = ((κs, qs, bounds, a, (vint w64 m ∷ [], tt)), gh) in let Post : Val → SProp 𝓤 = (walk_of 𝓛 En hs c).post y in
    qed 𝓛 ((raw (alive 𝓛 En.signature κs qs) ⊛ ‵ (owns (types_at En.signature.params κs) a y.0.4)) ∷ raw ((c κs a).requires gh) ∷ []) ∵
    split ! $ keep ! (0 ∷ []) $
    enter ! 𝓣.C 𝓣.Λ fn (vint w64 m ∷ []) Post $ alloc_all ! (λ l. pass_all ! refl ((tt, record { fits = are.0.1 }), tt) $
    use0 𝓛 (later (some (λ (γ : ℕ). ‵ (keys_own γ 0)))) (keys_new 𝓛) $ await ! tt $ pick ! (λ γ.
    use0 𝓛 (‵ ((Cover W).own_val (tt, tt) (token_val ∷ []))) (cover_made W 𝓛) $ fjoin ! $
    sets ! (agg ! (no_more !)) refl (tt, tt) $ sets ! (agg ! (and_then ! (get ! refl) (no_more !))) refl (tt, (tt, tt)) $
    use0 𝓛 (raw (fact 𝓤 (none ≡ none))) (fact_i 𝓤 (none ≡ none) (emp 𝓤) refl) $ use0 𝓛 (raw (fact 𝓤 (0 ≡ 0))) (fact_i 𝓤 (0 ≡ 0) (emp 𝓤) refl) $ join ! $
    use0 𝓛 (raw (fact 𝓤 (m ≡ m))) (fact_i 𝓤 (m ≡ m) (emp 𝓤) refl) $ join ! $ nothing ! $
    nothing ! $ fjoin ! $ returns ! (look_at ! 0 refl) $ free_all ! refl $ keep ! (3 ∷ 0 ∷ 2 ∷ 1 ∷ []) $
    by ! (leaves 𝓛 En hs c y token_val (record { of = record {}; home = record { name = γ; size = m; tables = none; cells = false }; next = 0 }) (tt, tt)
    (tt, tt)))))
