-- The data fields of a place and of a key. Assumes `Logic`.
use Rattle.std.proofs.Common.{◌≡◌, List, [], ◌∷◌, ◌++◌, refl, ap, ◌∙◌}
use mathlib.Core.Bool.{Bool, true, false, ◌&&◌}
use lib.Dec.{T}
use seplogic.Ra.Ura.{Ura}
use mir.Val.{Val, vstruct, vcons, vnil, of_list}
use base.Logic.{ent, emp}
use types.Logic.{Logic, sem}
use denote.RattleType.{RattleType}
use denote.Laws.{Is}
use denote.Shadow.{makes_shadow}
use denote.Struct.Struct.{Struct}
use denote.Struct.Owning.{shape}
use Rattle.atomic_table.proofs.Fields.{token_val}
use Rattle.sdd_bag.specs.contracts.keyed_place.PlaceKey as key
use Rattle.sdd_bag.specs.contracts.keyed_place.PlaceKeys as keys

-- a place with this in it, as a machine value
abbrev pub place_val : Val → Val
place_val v = vstruct (vcons v vnil)

pub and_true : (x : Bool) → T x → T (x && true)
and_true true t = tt
and_true false t = absurd t

module _ (R : RattleType) where
  abbrev pub Bit : RattleType
  Bit = Struct (shape (key.the_type R))

  pub bit_made : {M : Type 1} {𝓤 : Ura M} (𝓛 : Logic 𝓤) → ent 𝓤 (emp 𝓤) (sem 𝓛 (Bit.own_val (tt, tt) (token_val ∷ [])))
  bit_made 𝓛 = makes_shadow 𝓛 (Bit.own_val (tt, tt) (token_val ∷ [])) (λ vss. (tt, ((λ uss. (tt, tt)), tt)))
      ((vstruct vnil ∷ [], tt), (refl, ((tt, (refl, tt)), tt)))

  pub bit_told : (vs : List Val) → Is Bit (tt, tt) vs → vs ≡ token_val ∷ []
  bit_told vs is = is.1.0 ∙ ap (λ (ws : List Val). vstruct (of_list (ws ++ [])) ∷ []) is.1.1.0.1.0

  abbrev pub Ring : RattleType
  Ring = Struct (shape (keys.the_type R))

  pub ring_made : {M : Type 1} {𝓤 : Ura M} (𝓛 : Logic 𝓤) → ent 𝓤 (emp 𝓤) (sem 𝓛 (Ring.own_val (tt, tt) (token_val ∷ [])))
  ring_made 𝓛 = makes_shadow 𝓛 (Ring.own_val (tt, tt) (token_val ∷ [])) (λ vss. (tt, ((λ uss. (tt, tt)), tt)))
      ((vstruct vnil ∷ [], tt), (refl, ((tt, (refl, tt)), tt)))
