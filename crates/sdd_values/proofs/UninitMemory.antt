-- What a `UninitBlock` and a `Freeable` own is taken apart and made. Assumes `Logic`.
use mathlib.Core.Path.{◌≡◌, refl, ap, ◌∙◌}
use Prim.Native.Nat.{ℕ, ◌<◌, ◌^◌}
use mathlib.Core.List.{List, [], ◌∷◌, ◌++◌}
use seplogic.Ra.Ura.{Ura}
use mir.Syntax.{w64}
use mir.Val.{Val, vint, vptr, vstruct, vnil, of_list}
use base.Fml.{froom}
use types.Logic.{Logic}
use types.Kit.{Goal, Step, step, Seq, Item, ‵, ◌$◌, drop, fsplit, fjoin, fpick, feq_l}
use denote.RattleType.{RattleType}
use denote.Laws.{Is}
use denote.RawPtr.{Ptr, block_ptr, ptr_val, room_for}
use denote.Shadow.{pure_i}
use denote.Struct.Struct.{Struct}
use denote.Struct.Owning.{shape}
use Rattle.core.proofs.mem.Param.{El, R}
use Rattle.core.proofs.alloc.Calls.{Al, token}
use Rattle.core.proofs.slots.Leases.{lease_val, block_ty, P}
use Rattle.sdd_values.specs.contracts.uninit_block.UninitBlock as room
use Rattle.sdd_values.specs.contracts.uninit_block.Freeable as hold

module _ (E : El) (Z : Al) where
  abbrev pub Rm : RattleType
  Rm = room.the_row (R E) (P E Z) Z.g

  abbrev pub made : Z.row.Denot → ℕ → ℕ → ℕ → Rm.Denot
  made a b o n = record { ptr = block_ptr b o; len = n; by = record {}; alloc = a }

  abbrev pub Hd : RattleType
  Hd = hold.the_row (R E) (P E Z) Z.g

  abbrev pub held : Z.row.Denot → ℕ → ℕ → ℕ → Hd.Denot
  held a b o n = record { ptr = block_ptr b o; len = n; by = record {}; alloc = a }

module _ (E : El) (Z : Al) {M : Type 1} {𝓤 : Ura M} {𝓛 : Logic 𝓤} {K : Type 0} {Γ : List (Item 𝓤)} {G : Goal 𝓤 𝓛.H} where
  pub room_had : K → (d : (Rm E Z).Denot) (vs : List Val)
      → (vs ≡ lease_val d.ptr d.len ∷ [] → Seq K 𝓛 (‵ (room_for (block_ty E d.len) d.ptr) ∷ ‵ (token Z d.alloc (block_ty E d.len) d.ptr) ∷ Γ) G)
      → Seq K 𝓛 (‵ ((Rm E Z).own_val d vs) ∷ Γ) G
  room_had t d vs k =
      fsplit t $ fpick t (λ vss. fsplit t $ feq_l t (λ all. fsplit t $ feq_l t (λ e₀. fsplit t $ fsplit t $ feq_l t (λ e₁. drop t $ fsplit t $
      fpick t (λ none. fsplit t $ feq_l t (λ e₂. drop t $ drop t $ fsplit t $
      k (all ∙ (λ i. vstruct (of_list (e₀ i ++ (e₁ i ++ (e₂ i ++ [])))) ∷ []))))))))

  pub room_made : K → (a : Z.row.Denot) (b o n : ℕ) → n < 2 ^ 64
      → Step K 𝓛 (‵ ((Rm E Z).own_val (made E Z a b o n) (lease_val (block_ptr b o) n ∷ [])) ∷ Γ) G (‵ (froom (block_ty E n) b o) ∷
      ‵ (token Z a (block_ty E n) (block_ptr b o)) ∷ Γ) G
  room_made t a b o n fn = step (λ s. fjoin t $
      pure_i t ((Struct (shape (room.the_type (R E) (P E Z) Z.g))).own_val (block_ptr b o, (n, (tt, tt))) (lease_val (block_ptr b o) n ∷ []))
      (λ vss. (tt, (tt, ((tt, tt), ((λ uss. (tt, tt)), tt)))))
      ((vptr b o ∷ [], (vint w64 n ∷ [], (vstruct vnil ∷ [], tt))), (refl, (refl, ((refl, fn), ((tt, (refl, tt)), tt))))) $ fjoin t $ s)

  pub hold_had : K → (d : (Hd E Z).Denot) (vs : List Val)
      → (vs ≡ lease_val d.ptr d.len ∷ [] → Seq K 𝓛 (‵ (token Z d.alloc (block_ty E d.len) d.ptr) ∷ Γ) G) → Seq K 𝓛 (‵ ((Hd E Z).own_val d vs) ∷ Γ) G
  hold_had t d vs k =
      fsplit t $ fpick t (λ vss. fsplit t $ feq_l t (λ all. fsplit t $ feq_l t (λ e₀. fsplit t $ fsplit t $ feq_l t (λ e₁. drop t $ fsplit t $
      fpick t (λ none. fsplit t $ feq_l t (λ e₂. drop t $ drop t $
      k (all ∙ (λ i. vstruct (of_list (e₀ i ++ (e₁ i ++ (e₂ i ++ [])))) ∷ []))))))))

  pub hold_made : K → (a : Z.row.Denot) (b o n : ℕ) → n < 2 ^ 64
      → Step K 𝓛 (‵ ((Hd E Z).own_val (held E Z a b o n) (lease_val (block_ptr b o) n ∷ [])) ∷ Γ) G (‵ (token Z a (block_ty E n) (block_ptr b o)) ∷ Γ) G
  hold_made t a b o n fn = step (λ s.
      pure_i t ((Struct (shape (hold.the_type (R E) (P E Z) Z.g))).own_val (block_ptr b o, (n, (tt, tt))) (lease_val (block_ptr b o) n ∷ []))
      (λ vss. (tt, (tt, ((tt, tt), ((λ uss. (tt, tt)), tt)))))
      ((vptr b o ∷ [], (vint w64 n ∷ [], (vstruct vnil ∷ [], tt))), (refl, (refl, ((refl, fn), ((tt, (refl, tt)), tt))))) $ fjoin t $ s)

module _ (E : El) (Z : Al) where
  pub room_told : (d : (Rm E Z).Denot) (vs : List Val) → Is (Rm E Z) d vs → (vs ≡ lease_val d.ptr d.len ∷ []) × (d.len < 2 ^ 64)
  room_told d vs so = let is = so.0 in let p : Ptr = d.ptr in let n : ℕ = d.len in (
    is.1.0 ∙ ap (λ (ws : List Val). vstruct (of_list (ws ++ (is.0.1.0 ++ (is.0.1.1.0 ++ [])))) ∷ []) is.1.1.0
        ∙ ap (λ (ws : List Val). vstruct (of_list (ptr_val p ∷ (ws ++ (is.0.1.1.0 ++ [])))) ∷ []) is.1.1.1.0.0
        ∙ ap (λ (ws : List Val). vstruct (of_list (ptr_val p ∷ vint w64 n ∷ (ws ++ []))) ∷ []) is.1.1.1.1.0.1.0,
    is.1.1.1.0.1,
  )

  pub hold_told : (d : (Hd E Z).Denot) (vs : List Val) → Is (Hd E Z) d vs → (vs ≡ lease_val d.ptr d.len ∷ []) × (d.len < 2 ^ 64)
  hold_told d vs so = let is = so.0 in let p : Ptr = d.ptr in let n : ℕ = d.len in (
    is.1.0 ∙ ap (λ (ws : List Val). vstruct (of_list (ws ++ (is.0.1.0 ++ (is.0.1.1.0 ++ [])))) ∷ []) is.1.1.0
        ∙ ap (λ (ws : List Val). vstruct (of_list (ptr_val p ∷ (ws ++ (is.0.1.1.0 ++ [])))) ∷ []) is.1.1.1.0.0
        ∙ ap (λ (ws : List Val). vstruct (of_list (ptr_val p ∷ vint w64 n ∷ (ws ++ []))) ∷ []) is.1.1.1.1.0.1.0,
    is.1.1.1.0.1,
  )
