-- What goes into a cell: what a name stood for
use Rattle.sdd_interpreter.proofs.Words.{◌≡◌, List, Option, Some, None, IsSome, map, slice_index_or, slice_set, refl, sym, ap, ◌∙◌, subst, option_map, get_or-map, map-set, OwnerOrCell, AnyOwner, Sole, Share, holding_at, owner_holding, Fills, FitsIn, OwnerKind, OwnerName, filling_holding, filling_kind, named_owner, owners_put, shared_slot, sole_slot}
use Rattle.sdd_script_model.specs.declared.owner_kind.OwnerKind.TheVariants as ownership
use Rattle.sdd_interpreter.specs.declared.holding.CellOwner.{CellOwner}
use Rattle.sdd_interpreter.specs.declared.holding.CellOwner.TheVariants as filling

-- an owner, as what a cell is filled with
abbrev pub filled_with : AnyOwner → CellOwner
filled_with (Sole o) = filling.Sole (Some o)
filled_with (Share o) = filling.Share (Some o)

its-holding : (x : AnyOwner) → filling_holding (filled_with x) ≡ Some (owner_holding x)
its-holding (Sole o) = refl
its-holding (Share o) = refl

its-kind : (kind : OwnerKind) (x : AnyOwner) (hs : List (Option OwnerOrCell)) (o : OwnerName) → holding_at hs o.0 ≡ Some (owner_holding x) →
    FitsIn hs kind (Some o) → filling_kind (filled_with x) ≡ kind
its-kind ownership.Sole (Sole x) hs o entry fits = refl
its-kind ownership.Sole (Share x) hs o entry fits = absurd (let never = subst (λ h. IsSome (sole_slot h)) entry fits in cc)
its-kind ownership.Shared (Sole x) hs o entry fits = absurd (let never = subst (λ h. IsSome (shared_slot h)) entry fits in cc)
its-kind ownership.Shared (Share x) hs o entry fits = refl

-- what a name stood for fills a cell that it fits
pub fills-named : (owners new : List (Option AnyOwner)) (kind : OwnerKind) (x : Option OwnerName) (o : OwnerName) (owner : AnyOwner) → x ≡ Some o →
    Some owner ≡ slice_index_or owners o.0 None → new ≡ slice_set owners o.0 None → FitsIn (map (option_map owner_holding) owners) kind x →
    Fills (map (option_map owner_holding) owners) kind x (map (option_map owner_holding) new) (filled_with owner)
fills-named owners new kind x o owner is there taken fits =
    let hs : List (Option OwnerOrCell) = map (option_map owner_holding) owners in
    let entry : holding_at hs o.0 ≡ Some (owner_holding owner) =
    get_or-map (option_map owner_holding) owners o.0 None ∙ ap (option_map owner_holding) (sym there) in
    record {
      of_kind = its-kind kind owner hs o entry (subst (FitsIn hs kind) is fits);
      holding = its-holding owner ∙ sym (ap (named_owner hs) is ∙ entry);
      left = ap (map (option_map owner_holding)) taken ∙ map-set (option_map owner_holding) owners o.0 None ∙ sym (ap (owners_put hs) is);
    }
