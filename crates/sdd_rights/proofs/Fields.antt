-- The data fields of a `GhostKeys`, a `Fraction` and a `ReadFraction`. Assumes `Logic`.
use Rattle.std.proofs.Common.{◌≡◌, List, [], ◌∷◌, ◌++◌, refl, ap, ◌∙◌}
use seplogic.Ra.Ura.{Ura}
use mir.Val.{Val, vstruct, vnil, of_list}
use base.Logic.{ent, emp}
use types.Logic.{Logic, sem}
use denote.RattleType.{RattleType}
use denote.Laws.{Is}
use denote.Shadow.{makes_shadow}
use denote.Struct.Struct.{Struct}
use denote.Struct.Owning.{shape}
use Rattle.atomic_table.proofs.Fields.{token_val}
use Rattle.sdd_rights.specs.contracts.fraction.Fraction as fraction
use Rattle.sdd_rights.specs.contracts.fraction.GhostKeys as gamma
use Rattle.sdd_rights.specs.contracts.read_fraction.ReadFraction as read_fraction

module _ (U : RattleType) where
  abbrev pub Pin : RattleType
  Pin = Struct (shape (fraction.the_type U))

  pub pin_told : (vs : List Val) → Is Pin (tt, tt) vs → vs ≡ token_val ∷ []
  pin_told vs is = is.1.0 ∙ ap (λ (ws : List Val). vstruct (of_list (ws ++ [])) ∷ []) is.1.1.0.1.0

  pub pin_made : {M : Type 1} {𝓤 : Ura M} (𝓛 : Logic 𝓤) → ent 𝓤 (emp 𝓤) (sem 𝓛 (Pin.own_val (tt, tt) (token_val ∷ [])))
  pin_made 𝓛 = makes_shadow 𝓛 (Pin.own_val (tt, tt) (token_val ∷ [])) (λ vss. (tt, ((λ uss. (tt, tt)), tt)))
      ((vstruct vnil ∷ [], tt), (refl, ((tt, (refl, tt)), tt)))

  abbrev pub Cover : RattleType
  Cover = Struct (shape (gamma.the_type U))

  pub cover_made : {M : Type 1} {𝓤 : Ura M} (𝓛 : Logic 𝓤) → ent 𝓤 (emp 𝓤) (sem 𝓛 (Cover.own_val (tt, tt) (token_val ∷ [])))
  cover_made 𝓛 = makes_shadow 𝓛 (Cover.own_val (tt, tt) (token_val ∷ [])) (λ vss. (tt, ((λ uss. (tt, tt)), tt)))
      ((vstruct vnil ∷ [], tt), (refl, ((tt, (refl, tt)), tt)))

abbrev pub Hilt : RattleType
Hilt = Struct (shape read_fraction.the_type)

pub hilt_made : {M : Type 1} {𝓤 : Ura M} (𝓛 : Logic 𝓤) → ent 𝓤 (emp 𝓤) (sem 𝓛 (Hilt.own_val (tt, tt) (token_val ∷ [])))
hilt_made 𝓛 = makes_shadow 𝓛 (Hilt.own_val (tt, tt) (token_val ∷ [])) (λ vss. (tt, ((λ uss. (tt, tt)), tt)))
    ((vstruct vnil ∷ [], tt), (refl, ((tt, (refl, tt)), tt)))

pub hilt_told : (vs : List Val) → Is Hilt (tt, tt) vs → vs ≡ token_val ∷ []
hilt_told vs is = is.1.0 ∙ ap (λ (ws : List Val). vstruct (of_list (ws ++ [])) ∷ []) is.1.1.0.1.0
