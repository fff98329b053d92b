-- The data fields of a `GhostValues`, and what it knows. Assumes `Logic`.
use Rattle.std.proofs.Common.{◌≡◌, ℕ, zero, suc, List, [], ◌∷◌, Option, None, Some, replicate, slice_set, unwrap_or, refl, sym, ap, ◌∙◌}
use Rattle.std.proofs.lemmas.Option.{none-some}
use seplogic.Ra.Ura.{Ura}
use mir.Val.{vstruct, vnil}
use base.Logic.{ent, emp, sep}
use base.Stored.{Gv}
use base.Fml.{ftrue}
use types.Logic.{Logic, sem}
use types.Kit.{‵, ◌$◌, ◌∵◌, !, qed, fpick, fpack, done}
use denote.RattleType.{RattleType}
use denote.Steps.{nothing}
use denote.Shadow.{makes_shadow}
use denote.Struct.Struct.{Struct}
use denote.Struct.Owning.{shape}
use Rattle.atomic_table.specs.Seated.{fact}
use Rattle.sdd_shared_values.proofs.Fields.{token_val}
use Rattle.sdd_shared_values.specs.SharedValues.{showing}
use Rattle.sdd_shared_values.specs.GhostValues.{AreCoded}
use Rattle.sdd_shared_values.specs.contracts.ghost_values.GhostValues as ledger

pub known_twice : {M : Type 1} {𝓤 : Ura M} (𝓛 : Logic 𝓤) (φ : Type 0) → ent 𝓤 (sem 𝓛 (fact φ)) (sep 𝓤 (sem 𝓛 (fact φ)) (sem 𝓛 (fact φ)))
known_twice 𝓛 φ = qed 𝓛 (‵ (fact φ) ∷ []) ∵ fpick ! (λ so. fpack ! φ (λ _. ftrue) so $ nothing ! $ fpack ! φ (λ _. ftrue) so $ done !)

module _ (R : RattleType) where
  abbrev pub LedgerData : RattleType
  LedgerData = Struct (shape (ledger.the_type R))

  pub ledger_made : {M : Type 1} {𝓤 : Ura M} (𝓛 : Logic 𝓤) → ent 𝓤 (emp 𝓤) (sem 𝓛 (LedgerData.own_val (tt, tt) (token_val ∷ [])))
  ledger_made 𝓛 = makes_shadow 𝓛 (LedgerData.own_val (tt, tt) (token_val ∷ [])) (λ vss. (tt, ((λ uss. (tt, tt)), tt)))
      ((vstruct vnil ∷ [], tt), (refl, ((tt, (refl, tt)), tt)))

  pub empty_coded : (n : ℕ) → AreCoded R (replicate n None)
  empty_coded zero p v g so = absurd (none-some _ so)
  empty_coded (suc n) zero v g so = absurd (none-some _ so)
  empty_coded (suc n) (suc p) v g so = empty_coded n p v g so

  one_coded : (x : R.Denot) (e : R.Denot × Gv) → e ≡ (x, showing R x) → e.1 ≡ showing R e.0
  one_coded x e same = ap (λ (d : R.Denot × Gv). d.1) same ∙ ap (λ (d : R.Denot × Gv). showing R d.0) (sym same)

  pub filled_coded : (es : List (Option (R.Denot × Gv))) (i : ℕ) (x : R.Denot) → AreCoded R es → AreCoded R (slice_set es i (Some (x, showing R x)))
  filled_coded [] i x coded p v g so = absurd (none-some _ so)
  filled_coded (e ∷ es) zero x coded zero v g so = one_coded x (v, g) (sym (ap (λ (o : Option (R.Denot × Gv)). unwrap_or o (v, g)) so))
  filled_coded (e ∷ es) zero x coded (suc p) v g so = coded (suc p) v g so
  filled_coded (e ∷ es) (suc i) x coded zero v g so = coded zero v g so
  filled_coded (e ∷ es) (suc i) x coded (suc p) v g so = filled_coded es i x (λ (q : ℕ). coded (suc q)) p v g so
