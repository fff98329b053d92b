-- In the middle of a line, a queue's and a stack's cells and items are apart from a bag's
use Rattle.sdd_script_model.proofs.Words.{◌≡◌, ℕ, List, [], ◌∷◌, inl, sym, ap, subst, arith, Tag, Claim, World, held_in, Val, link_of, IsAmong, Entry, IsList, left as left_of, IsStored, ScriptState, IsListCell, IsSecondCell}
use Rattle.sdd_script_model.proofs.CallChains.{IsMidway}
use Rattle.sdd_script_model.proofs.StackedCells.{list-part, stacked-right}
use Rattle.sdd_script_model.proofs.BagStorages.{IsReserved, off-among, off-other}

-- what is left of a list is of it
pub left-among : (s : ℕ) (es : List (Entry Val)) → IsAmong s (left_of es) → IsAmong s es
left-among s [] among = among
left-among s (e ∷ es) among = let rest = left-among s es in grind arith

module _ {d : ScriptState} {w : World Val} {outside : Claim → ℕ} (m : IsMidway d w outside) where
  -- from a queue's and a stack's
  pub list-apart-from : (c : ℕ) → IsListCell d c → IsReserved d w c → ⊥
  list-apart-from c x = off-other d w outside m.ledger m.bags c (omega (arith, list-part d c x))

  pub second-apart-from : (c b : ℕ) → IsSecondCell d c b → IsReserved d w b → ⊥
  second-apart-from c b (n, oldest, newest) = off-other d w outside m.ledger m.bags b (omega (arith, stacked-right d.newest n b newest))

  -- from the items of a list, and the links of other items
  pub among-apart : (c s : ℕ) (t : Tag) (es : List (Entry Val)) → (IsReserved d w c → ⊥) → IsList link_of w c t es → IsAmong s es →
      IsStored d.bags d.world s → ⊥
  among-apart c s t es off list among = off-among d w outside m.ledger m.bags c s es off (ap held_in list.begins) list.linked among

  -- from what is left of it
  pub left-apart : (c s : ℕ) (t : Tag) (es : List (Entry Val)) → (IsReserved d w c → ⊥) → IsList link_of w c t es → (e : Entry Val) (rest : List (Entry Val)) →
      left_of es ≡ e ∷ rest → e.slot ≡ s → IsStored d.bags d.world s → ⊥
  left-apart c s t es off list e rest first here =
      among-apart c s t es off list (left-among s es (subst (λ (fs : List (Entry Val)). IsAmong s fs) (sym first) (inl here)))
