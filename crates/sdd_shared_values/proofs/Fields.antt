-- The data fields of a `ValueFraction`, a `VacantValues` and a `SharedValues`. Assumes `Logic`.
use Rattle.std.proofs.Common.{◌≡◌, T, List, [], ◌∷◌, ◌++◌, refl, ap, ◌∙◌}
use seplogic.Ra.Ura.{Ura}
use mir.Syntax.{ty_ptr, ty_struct, tcons, tnil}
use mir.Val.{Val, vstruct, vcons, vnil, of_list, has_ty, WT}
use base.Logic.{ent, emp}
use types.Logic.{Logic, sem}
use denote.RattleType.{RattleType}
use denote.Laws.{Is}
use denote.Shadow.{makes_shadow}
use denote.Struct.Struct.{Struct}
use denote.Struct.Owning.{shape}
pub use Rattle.atomic_table.proofs.Fields.{token_val, strip_of, strip_good}
use denote.Opens.{Opens}
use denote.Copied.{Struct-Copied}
use denote.RawPtr.{Ptr, block_ptr, null_ptr, ptr_val, InBlock}
use denote.Struct.Laws.{RawPtr-copy, field_copy}
use Rattle.core.specs.contracts.marker.PhantomData as marker
use Rattle.sdd_shared_values.specs.declared.shared_values.ValueInvariant.{Ghosts}
use Rattle.sdd_shared_values.specs.contracts.unused_memory.UnusedMemory as clearing
use Rattle.sdd_shared_values.specs.contracts.vacant_values.VacantValues as plot
use Rattle.sdd_shared_values.specs.contracts.shared_values.SharedValues as values
use Rattle.sdd_shared_values.specs.contracts.value_fraction.ValueFraction as fraction
use Rattle.sdd_shared_values.specs.contracts.fraction_list.FractionList as fraction_list
use Rattle.sdd_shared_values.specs.contracts.values_name.ValuesName as values_name

abbrev pub Peg : RattleType
Peg = Struct (shape fraction.the_type)

pub peg_told : (vs : List Val) → Is Peg (tt, tt) vs → vs ≡ token_val ∷ []
peg_told vs is = is.1.0 ∙ ap (λ (ws : List Val). vstruct (of_list (ws ++ [])) ∷ []) is.1.1.0.1.0

pub peg_made : {M : Type 1} {𝓤 : Ura M} (𝓛 : Logic 𝓤) → ent 𝓤 (emp 𝓤) (sem 𝓛 (Peg.own_val (tt, tt) (token_val ∷ [])))
peg_made 𝓛 = makes_shadow 𝓛 (Peg.own_val (tt, tt) (token_val ∷ [])) (λ vss. (tt, ((λ uss. (tt, tt)), tt)))
    ((vstruct vnil ∷ [], tt), (refl, ((tt, (refl, tt)), tt)))

module _ (R : RattleType) where
  abbrev pub PlotData : RattleType
  PlotData = Struct (shape (plot.the_type R))

  pub plot_told : (p : Ptr) (vs : List Val) → Is PlotData (p, tt) vs → vs ≡ strip_of p ∷ []
  plot_told p vs is = is.1.0 ∙ ap (λ (ws : List Val). vstruct (of_list (ws ++ [])) ∷ []) is.1.1.0

  pub plot_made : {M : Type 1} {𝓤 : Ura M} (𝓛 : Logic 𝓤) (p : Ptr) → ent 𝓤 (emp 𝓤) (sem 𝓛 (PlotData.own_val (p, tt) (strip_of p ∷ [])))
  plot_made 𝓛 p = makes_shadow 𝓛 (PlotData.own_val (p, tt) (strip_of p ∷ [])) (λ vss. (tt, (tt, tt))) ((ptr_val p ∷ [], tt), (refl, (refl, tt)))

  abbrev pub ClearingData : RattleType
  ClearingData = Struct (shape (clearing.the_type R))

  pub clearing_told : (p : Ptr) (vs : List Val) → Is ClearingData (p, tt) vs → vs ≡ strip_of p ∷ []
  clearing_told p vs is = is.1.0 ∙ ap (λ (ws : List Val). vstruct (of_list (ws ++ [])) ∷ []) is.1.1.0

  pub clearing_made : {M : Type 1} {𝓤 : Ura M} (𝓛 : Logic 𝓤) (p : Ptr) → ent 𝓤 (emp 𝓤) (sem 𝓛 (ClearingData.own_val (p, tt) (strip_of p ∷ [])))
  clearing_made 𝓛 p = makes_shadow 𝓛 (ClearingData.own_val (p, tt) (strip_of p ∷ [])) (λ vss. (tt, (tt, tt))) ((ptr_val p ∷ [], tt), (refl, (refl, tt)))

abbrev pub values_of : Ptr → Val
values_of p = vstruct (vcons (ptr_val p) (vcons (vstruct vnil) vnil))

pub values_good : (p : Ptr) → InBlock p → T (has_ty (ty_struct [] (tcons ty_ptr (tcons (ty_struct [] tnil) tnil))) (values_of p)) × WT (values_of p)
values_good (block_ptr b o) i = (tt, (tt, (tt, tt)))
values_good null_ptr i = absurd i

module _ (R Y : RattleType) (g : Ghosts Y.Denot R.Denot) where
  abbrev pub ValuesData : RattleType
  ValuesData = Struct (shape (values.the_type R Y g))

  pub values_told : (p : Ptr) (vs : List Val) → Is ValuesData (p, (tt, tt)) vs → vs ≡ values_of p ∷ []
  values_told p vs is = is.1.0 ∙ ap (λ (ws : List Val). vstruct (of_list (ws ++ (is.0.1.0 ++ []))) ∷ []) is.1.1.0
      ∙ ap (λ (ws : List Val). vstruct (of_list (ptr_val p ∷ (ws ++ []))) ∷ []) is.1.1.1.0.1.0

  pub values_made : {M : Type 1} {𝓤 : Ura M} (𝓛 : Logic 𝓤) (p : Ptr) → ent 𝓤 (emp 𝓤) (sem 𝓛 (ValuesData.own_val (p, (tt, tt)) (values_of p ∷ [])))
  values_made 𝓛 p = makes_shadow 𝓛 (ValuesData.own_val (p, (tt, tt)) (values_of p ∷ [])) (λ vss. (tt, (tt, ((λ uss. (tt, tt)), tt))))
      ((ptr_val p ∷ [], (vstruct vnil ∷ [], tt)), (refl, (refl, ((tt, (refl, tt)), tt))))

  pub values_opens : {M : Type 1} {𝓤 : Ura M} (𝓛 : Logic 𝓤) → Opens 𝓛 ValuesData
  values_opens {M} {𝓤 = 𝓤} 𝓛 = (Struct-Copied 𝓛 (shape (values.the_type R Y g)) (refl, (refl, tt))
      (RawPtr-copy.copied M 𝓤 𝓛, ((field_copy (marker.the_type Y) tt).copied M 𝓤 𝓛, tt))).opens

abbrev pub FractionListData : RattleType
FractionListData = Struct (shape fraction_list.the_type)

pub fraction_list_told : (vs : List Val) → Is FractionListData (tt, tt) vs → vs ≡ token_val ∷ []
fraction_list_told vs is = is.1.0 ∙ ap (λ (ws : List Val). vstruct (of_list (ws ++ [])) ∷ []) is.1.1.0.1.0

pub fraction_list_made : {M : Type 1} {𝓤 : Ura M} (𝓛 : Logic 𝓤) → ent 𝓤 (emp 𝓤) (sem 𝓛 (FractionListData.own_val (tt, tt) (token_val ∷ [])))
fraction_list_made 𝓛 = makes_shadow 𝓛 (FractionListData.own_val (tt, tt) (token_val ∷ [])) (λ vss. (tt, ((λ uss. (tt, tt)), tt)))
    ((vstruct vnil ∷ [], tt), (refl, ((tt, (refl, tt)), tt)))

abbrev pub ValuesNameData : RattleType
ValuesNameData = Struct (shape values_name.the_type)

pub values_name_made : {M : Type 1} {𝓤 : Ura M} (𝓛 : Logic 𝓤) → ent 𝓤 (emp 𝓤) (sem 𝓛 (ValuesNameData.own_val (tt, tt) (token_val ∷ [])))
values_name_made 𝓛 = makes_shadow 𝓛 (ValuesNameData.own_val (tt, tt) (token_val ∷ [])) (λ vss. (tt, ((λ uss. (tt, tt)), tt)))
    ((vstruct vnil ∷ [], tt), (refl, ((tt, (refl, tt)), tt)))
