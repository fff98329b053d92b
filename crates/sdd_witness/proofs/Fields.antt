-- The data fields of a `Witness`. Assumes `Logic`.
use Rattle.std.proofs.Common.{◌≡◌, List, [], ◌∷◌, ◌++◌, refl, ap, ◌∙◌}
use seplogic.Ra.Ura.{Ura}
use mir.Val.{Val, vstruct, vnil, of_list}
use base.Logic.{ent, emp}
use types.Logic.{Logic, sem}
use denote.RattleType.{RattleType}
use denote.Laws.{Is}
use denote.Shadow.{makes_shadow}
use denote.Struct.Struct.{Struct}
use denote.Struct.Owning.{shape}
pub use Rattle.atomic_table.proofs.Fields.{token_val}
use Rattle.sdd_witness.specs.contracts.witness.Witness as witness

abbrev pub Pin : RattleType
Pin = Struct (shape witness.the_type)

pub pin_told : (vs : List Val) → Is Pin (tt, tt) vs → vs ≡ token_val ∷ []
pin_told vs is = is.1.0 ∙ ap (λ (ws : List Val). vstruct (of_list (ws ++ [])) ∷ []) is.1.1.0.1.0

pub pin_made : {M : Type 1} {𝓤 : Ura M} (𝓛 : Logic 𝓤) → ent 𝓤 (emp 𝓤) (sem 𝓛 (Pin.own_val (tt, tt) (token_val ∷ [])))
pin_made 𝓛 = makes_shadow 𝓛 (Pin.own_val (tt, tt) (token_val ∷ [])) (λ vss. (tt, ((λ uss. (tt, tt)), tt)))
    ((vstruct vnil ∷ [], tt), (refl, ((tt, (refl, tt)), tt)))
