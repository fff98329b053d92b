-- Where it holds, nothing is done; the other way is not gone.
use mathlib.Core.Bool.{Bool, true, false, not}
use Rattle.std.proofs.Common.{◌≡◌, List, [], ◌∷◌, refl, sym, true≢false}
use Rattle.std.proofs.raw_atomic.Walks.{proved}
use Rattle.std.specs.Prelude.{IsTrue, T}
use mir.Val.{Val, vunit}
use contract.Monad.{fact}
use contract.Running.{tables}
use types.Kit.{raw, ◌$◌, ◌∵◌, !, qed, done, drop, join, feq_i, suffices, group}
use types.Run.{enter, of_opd, unit_lit, first, branches, returns_within}
use types.ByLocal.{alloc_all, pass_all, free_all, look_at, get, sets}
use denote.Builtin.{bool}
use denote.Exit.{yes}
use denote.Plain.{bool_vals, bool_Tells}
use denote.Signature.{plain}
use denote.Steps.{nothing, heard}
use denote.Triple.Entry.{on_entry}
use denote.Triple.Walked.{Stays, walk_of, stay_dropped, Goes-dropped, ends_at}
use Rattle.sdd_core.specs.contracts.hint.assert_unchecked as f
use Rattle.sdd_core.proofs.hint.assert_unchecked.Statement.{statement}
use Rattle.sdd_core.proofs.hint.assert_unchecked.Code as code

contradiction : (b : Bool) → IsTrue b → T (not b) → ⊥
contradiction true is gone = gone
contradiction false is gone = true≢false (sym is)

abbrev stayed : Stays f.ended.signature.params f.ended.kept
stayed = (stay_dropped _ yes, tt)

pub assert_unchecked_spec : {M : Type 1} → statement M
assert_unchecked_spec 𝓤 𝓛 𝓜 𝓡 wired =
    let c = f.clauses 𝓛 𝓜.mem 𝓡.returns in let W = walk_of 𝓛 f.ended stayed c in
    proved 𝓛 f.ended stayed c 𝓜 𝓡 (Goes-dropped 𝓛 0 (plain (λ _. bool)) yes (λ κs x w. refl), tt)
    f.Key.name code.function (code.unfolded 𝓤 𝓛.H 𝓜 𝓡 wired)
    (λ κs. (bool_vals, tt)) (λ κs. (bool_Tells, tt)) (λ κs qs bounds a _ are.
    let holds = a.0 in
    let y : W.Ghost = ((κs, qs, bounds, a, (bool_vals holds, tt)), tt) in
    qed 𝓛 (raw (on_entry 𝓛 f.signature κs qs a y.0.4) ∷ raw (fact 𝓤 (IsTrue holds)) ∷ []) ∵ drop ! $ heard ! _ (λ is.
    enter ! _ _ _ _ _ $
    alloc_all ! (λ l. pass_all ! refl ((tt, tt), tt) $
    sets ! (of_opd ! (get ! refl)) refl (tt, tt) $
    first ! $ branches ! (get ! refl)
    (λ so. sets ! (of_opd ! (unit_lit !)) refl (tt, tt) $
    returns_within ! (W.post y) refl (look_at ! 0 refl) $ free_all ! refl $
    suffices ! _ (ends_at 𝓛 f.ended stayed c y vunit tt (tt, tt) (tt, tt)) $
    nothing ! $ feq_i ! _ (vunit ∷ []) _ refl $ nothing ! $ nothing ! $ join ! $ nothing ! $ group ! 3 $ done !)
    (λ not_so. absurd (contradiction holds is not_so)))))
