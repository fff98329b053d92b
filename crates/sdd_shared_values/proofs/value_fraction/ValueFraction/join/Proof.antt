-- `join` glues the units and their tokens.
use Rattle.sdd_rights.proofs.Names.{◌≡◌, [], ◌∷◌, refl, List, ℕ, ◌+◌, ◌^◌, ◌≤◌, sym, arith, named, Val, vptr, vunit, SProp, emp, ‵, raw, ◌⊛◌, given, learn, ◌$◌, ◌∵◌, !, qed, by, keep, drop, split, fjoin, use0, use2, move, fsplit, fsplit3, fjoin3, join, feq_i, rewrite, of_opd, unit_lit, sets, returns, enter, alloc_all, pass_all, free_all, look_at, tables, RattleType, owns, types_at, plain, nothing, opens, closes, heard, Stays, stay_dropped, stay_ref, walk_of, Goes-dropped, Goes-ref, fact, fact_i, ftrue, Fml, fsep, flft, Lft, yes, mut_vals, mut_Tells, proved, leaves, token_val}
use Rattle.std.specs.Prelude.{Option, None}
use base.Stored.{Gv, coded×, coded_ℕ}
use Rattle.atomic_table.specs.Seated.{itself}
use Rattle.sdd_rights.specs.Units.{units, tokens}
use Rattle.sdd_rights.proofs.Steps.{Meets, joins, tokens_glue}
use Rattle.sdd_shared_values.specs.ValueFractions.{FractionContent, agreed_on, tokens_of}
use Rattle.sdd_shared_values.proofs.Fields.{peg_told}
use Rattle.sdd_shared_values.specs.contracts.value_fraction.ValueFraction as fraction
use Rattle.sdd_shared_values.specs.contracts.value_fraction.ValueFraction.join.{ended, clauses}
use Rattle.sdd_shared_values.specs.contracts.value_fraction.ValueFraction.join.Key.{name as #self}
use Rattle.sdd_shared_values.proofs.value_fraction.ValueFraction.join.Statement.{statement}
use Rattle.sdd_shared_values.proofs.value_fraction.ValueFraction.join.Code as code

pub join_spec : {M : Type 1} → statement M
join_spec 𝓤 𝓛 𝓜 𝓡 wired =
    let H = 𝓛.H in let 𝓣 = tables 𝓤 H 𝓜 𝓡 𝓡.env in let En = ended in let fn = code.function in
    let Row : RattleType = fraction.the_row in let c = clauses 𝓛 𝓜.mem 𝓡.returns in
    let self = plain (λ _. Row) in let hs : Stays En.signature.params En.kept = (stay_ref (0 ∷ []) tt self, (stay_dropped self yes, tt)) in
    proved 𝓛 En hs c 𝓜 𝓡 (Goes-ref 𝓛 1 0 tt self, (Goes-dropped 𝓛 1 self yes (λ κs x f. refl), tt)) #self fn (code.unfolded 𝓤 H 𝓜 𝓡 wired)
    (λ κs. (mut_vals, ((λ _. token_val ∷ []), tt))) (λ κs. (mut_Tells (named 0) κs.0 Row, ((λ e vs so. peg_told vs so.0), tt))) (λ κs qs bounds a gh are.
    let b : ℕ = a.0.ref_ptr.0 in let o : ℕ = a.0.ref_ptr.1 in let κ : Lft = κs.0 in let s : Row.Denot = a.0.now in let d : FractionContent = s.content in
    let e : FractionContent = a.1.0.content in
    let others : Fml = ftrue in let k : ℕ = d.units in let j : ℕ = e.units in
    let g : Gv = agreed_on d.lifetime d.shown in let h : Gv = agreed_on e.lifetime e.shown in
    let s' : Row.Denot = record s { content = record d { units = k + j } } in
    let says = λ (A : Type 0) (x : A). fact_i 𝓤 A (emp 𝓤) x in let Free : Type 0 = (d.lent ≡ None) × (e.lent ≡ None) in
    let y : (walk_of 𝓛 En hs c).Ghost = ((κs, qs, bounds, a, (vptr b o ∷ [], (token_val ∷ [], tt))), gh) in
    let Post : Val → SProp 𝓤 = (walk_of 𝓛 En hs c).post y in
    qed 𝓛 (((‵ (flft κ qs.0) ⊛ ‵ others) ⊛ ‵ (owns (types_at En.signature.params κs) a y.0.4)) ∷ raw (fact 𝓤 (e.gamma ≡ d.gamma)) ∷
    raw (fact 𝓤 (e.number ≡ d.number)) ∷ raw (fact 𝓤 Free) ∷ []) ∵
    keep ! (1 ∷ 2 ∷ 3 ∷ 0 ∷ []) $ heard ! (e.gamma ≡ d.gamma) (λ books. heard ! (e.number ≡ d.number) (λ numbers. heard ! Free (λ free. split ! $ split ! $
    move ! (2 ∷ []) $
    fsplit3 ! $ move ! (1 ∷ []) $ fsplit ! $ drop ! $ rewrite ! 0 (λ (m : ℕ × ℕ). ‵ (fsep (units m.0 m.1 h j) (tokens_of e.lent e.lifetime j)))
    (λ i. (books i, numbers i)) refl $ move ! (1 ∷ []) $ fsplit3 ! $ keep ! (1 ∷ 2 ∷ 5 ∷ 6 ∷ 3 ∷ []) $
    enter ! 𝓣.C 𝓣.Λ fn (vptr b o ∷ token_val ∷ []) Post $ alloc_all ! (λ l. pass_all ! refl ((tt, tt), ((tt, (tt, tt)), tt)) $
    opens ! tt Row b o (λ vs. move ! (1 ∷ []) $ fsplit ! $ move ! (1 ∷ []) $ fsplit ! $ move ! (1 ∷ []) $
    rewrite ! 0 (λ (n : Option ℕ). ‵ (tokens_of n d.lifetime k)) free.0 refl $
    move ! (1 ∷ 0 ∷ []) $ move ! (8 ∷ []) $ fsplit ! $ move ! (1 ∷ []) $ rewrite ! 0 (λ (n : Option ℕ). ‵ (tokens_of n e.lifetime j)) free.1 refl $
    move ! (1 ∷ 0 ∷ []) $ move ! (2 ∷ 0 ∷ []) $
    use2 𝓛 (given (Meets g h k j) (‵ (units d.gamma d.number g (k + j)))) (joins 𝓛 d.gamma d.number g h k j) $
    learn ! (λ meets. let some = meets.some in let fits = meets.fits in
    let both = (coded× coded_ℕ itself).inj (d.lifetime, d.shown) (e.lifetime, e.shown) meets.values in
    let lifetimes : e.lifetime ≡ d.lifetime = sym (λ i. (both i).0) in move ! (1 ∷ []) $ rewrite ! 0 (λ (m : ℕ). ‵ (tokens m j)) lifetimes refl $
    move ! (2 ∷ 0 ∷ []) $ use2 𝓛 (‵ (tokens d.lifetime (k + j))) (tokens_glue 𝓛 d.lifetime k j (omega arith) fits) $
    rewrite ! 0 (λ (n : Option ℕ). ‵ (tokens_of n d.lifetime (k + j))) (sym free.0) refl $ move ! (1 ∷ 0 ∷ []) $ fjoin ! $
    move ! (1 ∷ 0 ∷ []) $ fjoin ! $ move ! (1 ∷ 0 ∷ []) $ closes ! tt Row s' vs b o $ feq_i ! (List Val) (vptr b o ∷ []) (vptr b o ∷ []) refl $ fjoin3 ! $
    nothing ! $ nothing ! $ fjoin ! $ move ! (1 ∷ 0 ∷ []) $ fjoin ! $ move ! (1 ∷ 2 ∷ []) $ join ! $
    sets ! (of_opd ! (unit_lit !)) refl (tt, tt) $ use0 𝓛 (raw (fact 𝓤 (e.shown ≡ d.shown))) (says (e.shown ≡ d.shown) (sym (λ i. (both i).1))) $
    use0 𝓛 (raw (fact 𝓤 (e.lifetime ≡ d.lifetime))) (says (e.lifetime ≡ d.lifetime) lifetimes) $ join ! $
    use0 𝓛 (raw (fact 𝓤 (k + j ≤ 2 ^ 63))) (says (k + j ≤ 2 ^ 63) fits) $ join ! $ use0 𝓛 (raw (fact 𝓤 (s'.content ≡ s'.content))) (says
    (s'.content ≡ s'.content) refl) $
    join ! $
    feq_i ! (List Val) (vunit ∷ []) (vunit ∷ []) refl $
    returns ! (look_at ! 0 refl) $ free_all ! refl $ keep ! (2 ∷ 3 ∷ 0 ∷ 1 ∷ []) $ by ! (leaves 𝓛 En hs c y vunit tt (s', (tt, tt)) (tt, (tt, tt))))))))))
