-- The data fields of an `EndedSection`, a `RawSlice` and a `Block`. Assumes `Logic`.
use Rattle.std.proofs.Common.{◌≡◌, List, [], ◌∷◌, ◌++◌, refl, ap, ◌∙◌}
use seplogic.Ra.Ura.{Ura}
use mir.Val.{Val, vstruct, vnil, of_list}
use base.Logic.{ent, emp}
use types.Logic.{Logic, sem}
use denote.RattleType.{RattleType}
use denote.Laws.{Is}
use denote.Shadow.{makes_shadow}
use denote.Struct.Struct.{Struct}
use denote.Struct.Owning.{shape}
use denote.Opens.{Opens}
use denote.Copied.{Struct-Copied}
use denote.RawPtr.{Ptr, ptr_val}
use denote.Struct.Laws.{RawPtr-copy}
pub use Rattle.atomic_table.proofs.Fields.{token_val, strip_of, strip_good, Ptr-Good}
use Rattle.sdd_values.specs.contracts.ended_section.EndedSection as over
use Rattle.sdd_values.specs.contracts.raw_slice.RawSlice as strip
use Rattle.sdd_values.specs.contracts.block.Block as block

abbrev pub Sign : RattleType
Sign = Struct (shape over.the_type)

pub sign_made : {M : Type 1} {𝓤 : Ura M} (𝓛 : Logic 𝓤) → ent 𝓤 (emp 𝓤) (sem 𝓛 (Sign.own_val (tt, tt) (token_val ∷ [])))
sign_made 𝓛 = makes_shadow 𝓛 (Sign.own_val (tt, tt) (token_val ∷ [])) (λ vss. (tt, ((λ uss. (tt, tt)), tt)))
    ((vstruct vnil ∷ [], tt), (refl, ((tt, (refl, tt)), tt)))

module _ (R : RattleType) where
  abbrev pub StripData : RattleType
  StripData = Struct (shape (strip.the_type R))

  pub strip_told : (p : Ptr) (vs : List Val) → Is StripData (p, tt) vs → vs ≡ strip_of p ∷ []
  strip_told p vs is = is.1.0 ∙ ap (λ (ws : List Val). vstruct (of_list (ws ++ [])) ∷ []) is.1.1.0

  pub strip_made : {M : Type 1} {𝓤 : Ura M} (𝓛 : Logic 𝓤) (p : Ptr) → ent 𝓤 (emp 𝓤) (sem 𝓛 (StripData.own_val (p, tt) (strip_of p ∷ [])))
  strip_made 𝓛 p = makes_shadow 𝓛 (StripData.own_val (p, tt) (strip_of p ∷ [])) (λ vss. (tt, (tt, tt))) ((ptr_val p ∷ [], tt), (refl, (refl, tt)))

  abbrev pub BlockData : RattleType
  BlockData = Struct (shape (block.the_type R))

  pub block_told : (p : Ptr) (vs : List Val) → Is BlockData (p, tt) vs → vs ≡ strip_of p ∷ []
  block_told p vs is = is.1.0 ∙ ap (λ (ws : List Val). vstruct (of_list (ws ++ [])) ∷ []) is.1.1.0

  pub block_made : {M : Type 1} {𝓤 : Ura M} (𝓛 : Logic 𝓤) (p : Ptr) → ent 𝓤 (emp 𝓤) (sem 𝓛 (BlockData.own_val (p, tt) (strip_of p ∷ [])))
  block_made 𝓛 p = makes_shadow 𝓛 (BlockData.own_val (p, tt) (strip_of p ∷ [])) (λ vss. (tt, (tt, tt))) ((ptr_val p ∷ [], tt), (refl, (refl, tt)))

  pub block_opens : {M : Type 1} {𝓤 : Ura M} (𝓛 : Logic 𝓤) → Opens 𝓛 BlockData
  block_opens {M} {𝓤 = 𝓤} 𝓛 = (Struct-Copied 𝓛 (shape (block.the_type R)) (refl, tt) (RawPtr-copy.copied M 𝓤 𝓛, tt)).opens
