-- A read fraction is one unit.
use Rattle.sdd_rights.proofs.Names.{◌≡◌, [], ◌∷◌, refl, Val, SProp, emp, ‵, raw, ◌⊛◌, ◌$◌, ◌∵◌, !, qed, by, keep, drop, split, fjoin, use0, move, fsplit, no_more, and_then, returns, enter, alloc_all, pass_all, free_all, look_at, get, sets, agg, tables, RattleType, owns, types_at, plain, nothing, alive, Stays, stay_dropped, walk_of, Goes-dropped, fact, fact_i, yes, proved, leaves, token_val}
use Rattle.sdd_rights.proofs.Fields.{hilt_told}
use Rattle.sdd_shared_values.specs.ValueFractions.{FractionContent}
use Rattle.sdd_shared_values.specs.ReadFractions.{content_of}
use Rattle.sdd_shared_values.proofs.Fields.{Peg, peg_made}
use Rattle.sdd_rights.specs.contracts.read_fraction.ReadFraction as read_fraction
use Rattle.sdd_shared_values.specs.contracts.value_fraction.ValueFraction as fraction
use Rattle.sdd_shared_values.specs.contracts.value_fraction.ValueFraction.of_read_fraction.{ended, clauses}
use Rattle.sdd_shared_values.specs.contracts.value_fraction.ValueFraction.of_read_fraction.Key.{name as #self}
use Rattle.sdd_shared_values.proofs.value_fraction.ValueFraction.of_read_fraction.Statement.{statement}
use Rattle.sdd_shared_values.proofs.value_fraction.ValueFraction.of_read_fraction.Code as code

pub of_read_fraction_spec : {M : Type 1} → statement M
of_read_fraction_spec 𝓤 𝓛 𝓜 𝓡 wired =
    let H = 𝓛.H in let 𝓣 = tables 𝓤 H 𝓜 𝓡 𝓡.env in let En = ended in let fn = code.function in
    let Row : RattleType = read_fraction.the_row in let c = clauses 𝓛 𝓜.mem 𝓡.returns in let arg = plain (λ _. Row) in
    let hs : Stays En.signature.params En.kept = (stay_dropped arg yes, tt) in
    proved 𝓛 En hs c 𝓜 𝓡 (Goes-dropped 𝓛 0 arg yes (λ κs x f. refl), tt) #self fn (code.unfolded 𝓤 H 𝓜 𝓡 wired)
    (λ κs. ((λ _. token_val ∷ []), tt)) (λ κs. ((λ e vs so. hilt_told vs so.0), tt)) (λ κs qs bounds a gh are.
    let h : FractionContent = content_of a.0 in let new : fraction.the_row.Denot = record { of = record {}; content = h } in let Told : Type 0 = h ≡ h in
    let y : (walk_of 𝓛 En hs c).Ghost = ((κs, qs, bounds, a, (token_val ∷ [], tt)), gh) in let Post : Val → SProp 𝓤 = (walk_of 𝓛 En hs c).post y in
    qed 𝓛 ((raw (alive 𝓛 En.signature κs qs) ⊛ ‵ (owns (types_at En.signature.params κs) a y.0.4)) ∷ raw ((c κs a).requires gh) ∷ []) ∵
    keep ! (0 ∷ []) $ split ! $ move ! (1 ∷ []) $ fsplit ! $ fsplit ! $ drop ! $ keep ! (0 ∷ 2 ∷ []) $
    use0 𝓛 (‵ (Peg.own_val (tt, tt) (token_val ∷ []))) (peg_made 𝓛) $ fjoin ! $
    -- [the fraction; the tokens]
    enter ! 𝓣.C 𝓣.Λ fn (token_val ∷ []) Post $ alloc_all ! (λ l. pass_all ! refl ((tt, (tt, tt)), tt) $
    sets ! (agg ! (no_more !)) refl (tt, tt) $ sets ! (agg ! (and_then ! (get ! refl) (no_more !))) refl (tt, (tt, tt)) $
    use0 𝓛 (raw (fact 𝓤 Told)) (fact_i 𝓤 Told (emp 𝓤) refl) $ nothing ! $ nothing ! $ fjoin ! $
    returns ! (look_at ! 0 refl) $ free_all ! refl $ keep ! (3 ∷ 0 ∷ 2 ∷ 1 ∷ []) $ by ! (leaves 𝓛 En hs c y token_val new (tt, tt) (tt, tt))))
