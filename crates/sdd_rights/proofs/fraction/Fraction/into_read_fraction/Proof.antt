-- A fraction of one unit is a read fraction.
use Rattle.sdd_rights.proofs.Names.{◌≡◌, [], ◌∷◌, refl, ℕ, a_type, inst_fn, param, layouts, Val, SProp, emp, ‵, raw, ◌⊛◌, ◌$◌, ◌∵◌, !, qed, by, keep, drop, split, fjoin, use0, move, fsplit, rewrite, no_more, and_then, returns, enter, alloc_all, pass_all, free_all, look_at, get, sets, agg, tables, RattleType, owns, types_at, plain, nothing, alive, heard, Stays, stay_dropped, walk_of, Goes-dropped, fact, fact_i, no, fsep, proved, leaves, token_val}
use base.Stored.{Gv, gcons}
use Rattle.sdd_rights.specs.Units.{units, tokens}
use Rattle.sdd_rights.specs.ReadFraction.{agreed_on}
use Rattle.sdd_rights.proofs.Fields.{pin_told, Hilt, hilt_made}
use Rattle.sdd_rights.specs.contracts.fraction.Fraction as fraction
use Rattle.sdd_rights.specs.contracts.read_fraction.ReadFraction as read_fraction
use Rattle.sdd_rights.specs.contracts.fraction.Fraction.into_read_fraction.{ended, clauses}
use Rattle.sdd_rights.specs.contracts.fraction.Fraction.into_read_fraction.Key.{name as #self}
use Rattle.sdd_rights.proofs.fraction.Fraction.into_read_fraction.Statement.{statement}
use Rattle.sdd_rights.proofs.fraction.Fraction.into_read_fraction.Code as code

pub into_read_fraction_spec : {M : Type 1} → statement M
into_read_fraction_spec 𝓤 𝓛 𝓜 𝓡 wired X L =
    let H = 𝓛.H in let 𝓣 = tables 𝓤 H 𝓜 𝓡 𝓡.env in let R : RattleType = param 0 X in let En = ended X in let inst = layouts (a_type ∷ []) (X, tt) in
    let fn = inst_fn inst code.function in let Row : RattleType = fraction.the_row R in let c = clauses X 𝓛 𝓜.mem 𝓡.returns in let arg = plain (λ _. Row) in
    let hs : Stays En.signature.params En.kept = (stay_dropped arg no, tt) in
    proved 𝓛 En hs c 𝓜 𝓡 (Goes-dropped 𝓛 1 arg no (λ κs x f. refl), tt) (#self inst) fn (code.unfolded 𝓤 H 𝓜 𝓡 wired (X, tt))
    (λ κs. ((λ _. token_val ∷ []), tt)) (λ κs. ((λ e vs so. pin_told R vs so.0), tt)) (λ κs qs bounds a gh are.
    let d : Row.Denot = a.0 in let γ : ℕ = d.home.name in let i : ℕ = d.number in let r : ℕ = d.lifetime in
    let w : Gv = gcons (R.coded.code d.kind) d.shown in
    let One : Type 0 = d.units ≡ 1 in let Told : Type 0 = (γ ≡ γ) × (i ≡ i) in
    let new : read_fraction.the_row.Denot = record { of = record {}; gamma = γ; number = i; lifetime = r; shown = w; full = tt } in
    let y : (walk_of 𝓛 En hs c).Ghost = ((κs, qs, bounds, a, (token_val ∷ [], tt)), gh) in let Post : Val → SProp 𝓤 = (walk_of 𝓛 En hs c).post y in
    qed 𝓛 ((raw (alive 𝓛 En.signature κs qs) ⊛ ‵ (owns (types_at En.signature.params κs) a y.0.4)) ∷ raw (fact 𝓤 _) ∷ raw (fact 𝓤 One) ∷ []) ∵
    keep ! (2 ∷ 0 ∷ []) $ heard ! One (λ one. split ! $ move ! (1 ∷ []) $ fsplit ! $ fsplit ! $ drop ! $
    -- [the units; the rest; the tokens]
    rewrite ! 0 (λ (k : ℕ). ‵ (fsep (units γ i (agreed_on r w) k) (tokens r k))) one refl $ keep ! (0 ∷ 2 ∷ []) $
    use0 𝓛 (‵ (Hilt.own_val (tt, tt) (token_val ∷ []))) (hilt_made 𝓛) $ fjoin ! $
    enter ! 𝓣.C 𝓣.Λ fn (token_val ∷ []) Post $ alloc_all ! (λ l. pass_all ! refl ((tt, (tt, tt)), tt) $
    sets ! (agg ! (no_more !)) refl (tt, tt) $ sets ! (agg ! (and_then ! (get ! refl) (no_more !))) refl (tt, (tt, tt)) $
    use0 𝓛 (raw (fact 𝓤 Told)) (fact_i 𝓤 Told (emp 𝓤) (refl, refl)) $ nothing ! $ nothing ! $ fjoin ! $
    returns ! (look_at ! 0 refl) $ free_all ! refl $ keep ! (3 ∷ 0 ∷ 2 ∷ 1 ∷ []) $ by ! (leaves 𝓛 En hs c y token_val new (tt, tt) (tt, tt)))))
