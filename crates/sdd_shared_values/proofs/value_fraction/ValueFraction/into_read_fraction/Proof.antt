-- One unit that isn't lent is a read fraction.
use Rattle.sdd_rights.proofs.Names.{◌≡◌, [], ◌∷◌, refl, sym, Val, SProp, emp, ‵, raw, ◌⊛◌, ◌$◌, ◌∵◌, !, qed, by, keep, drop, split, fjoin, use0, move, fsplit, rewrite, no_more, and_then, returns, enter, alloc_all, pass_all, free_all, look_at, get, sets, agg, tables, RattleType, owns, types_at, plain, nothing, alive, heard, Stays, stay_dropped, walk_of, Goes-dropped, fact, fact_i, yes, proved, leaves, token_val}
use Rattle.std.specs.Prelude.{None}
use Rattle.sdd_rights.specs.ReadFraction.{IsValueCode}
use Rattle.sdd_rights.proofs.Fields.{Hilt, hilt_made}
use Rattle.sdd_shared_values.specs.ValueFractions.{FractionContent, holding}
use Rattle.sdd_shared_values.specs.ReadFractions.{content_of}
use Rattle.sdd_shared_values.proofs.Fields.{peg_told}
use Rattle.sdd_rights.specs.contracts.read_fraction.ReadFraction as read_fraction
use Rattle.sdd_shared_values.specs.contracts.value_fraction.ValueFraction as fraction
use Rattle.sdd_shared_values.specs.contracts.value_fraction.ValueFraction.into_read_fraction.{ended, clauses}
use Rattle.sdd_shared_values.specs.contracts.value_fraction.ValueFraction.into_read_fraction.Key.{name as #self}
use Rattle.sdd_shared_values.proofs.value_fraction.ValueFraction.into_read_fraction.Statement.{statement}
use Rattle.sdd_shared_values.proofs.value_fraction.ValueFraction.into_read_fraction.Code as code

pub into_read_fraction_spec : {M : Type 1} → statement M
into_read_fraction_spec 𝓤 𝓛 𝓜 𝓡 wired =
    let H = 𝓛.H in let 𝓣 = tables 𝓤 H 𝓜 𝓡 𝓡.env in let En = ended in let fn = code.function in
    let S : RattleType = fraction.the_row in let c = clauses 𝓛 𝓜.mem 𝓡.returns in let arg = plain (λ _. S) in
    let hs : Stays En.signature.params En.kept = (stay_dropped arg yes, tt) in
    proved 𝓛 En hs c 𝓜 𝓡 (Goes-dropped 𝓛 0 arg yes (λ κs x f. refl), tt) #self fn (code.unfolded 𝓤 H 𝓜 𝓡 wired)
    (λ κs. ((λ _. token_val ∷ []), tt)) (λ κs. ((λ e vs so. peg_told vs so.0), tt)) (λ κs qs bounds a gh are.
    let h : FractionContent = a.0.content in let Full : Type 0 = IsValueCode h.shown in let One : Type 0 = h.units ≡ 1 in let Free : Type 0 = h.lent ≡ None in
    let y : (walk_of 𝓛 En hs c).Ghost = ((κs, qs, bounds, a, (token_val ∷ [], tt)), gh) in let Post : Val → SProp 𝓤 = (walk_of 𝓛 En hs c).post y in
    qed 𝓛 ((raw (alive 𝓛 En.signature κs qs) ⊛ ‵ (owns (types_at En.signature.params κs) a y.0.4)) ∷ raw (fact 𝓤 Full) ∷ raw (fact 𝓤 One) ∷
    raw (fact 𝓤 Free) ∷ []) ∵
    keep ! (1 ∷ 2 ∷ 3 ∷ 0 ∷ []) $ heard ! Full (λ full. heard ! One (λ one. heard ! Free (λ free.
    let new : read_fraction.the_row.Denot = record { of = record {}; gamma = h.gamma; number = h.number; lifetime = h.lifetime; shown = h.shown; full = full } in
    let is : content_of new ≡ h = λ j. record h { units = sym one j; lent = sym free j } in let Told : Type 0 = content_of new ≡ h in
    split ! $ move ! (1 ∷ []) $ fsplit ! $ fsplit ! $ drop ! $ rewrite ! 0 (λ (l : FractionContent). ‵ (holding l)) (sym is) refl $ keep ! (0 ∷ 2 ∷ []) $
    use0 𝓛 (‵ (Hilt.own_val (tt, tt) (token_val ∷ []))) (hilt_made 𝓛) $ fjoin ! $
    -- [the read fraction; the tokens]
    enter ! 𝓣.C 𝓣.Λ fn (token_val ∷ []) Post $ alloc_all ! (λ l. pass_all ! refl ((tt, (tt, tt)), tt) $
    sets ! (agg ! (no_more !)) refl (tt, tt) $ sets ! (agg ! (and_then ! (get ! refl) (no_more !))) refl (tt, (tt, tt)) $
    use0 𝓛 (raw (fact 𝓤 Told)) (fact_i 𝓤 Told (emp 𝓤) is) $ nothing ! $ nothing ! $ fjoin ! $
    returns ! (look_at ! 0 refl) $ free_all ! refl $ keep ! (3 ∷ 0 ∷ 2 ∷ 1 ∷ []) $ by ! (leaves 𝓛 En hs c y token_val new (tt, tt) (tt, tt)))))))
