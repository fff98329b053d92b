-- The cells that queues and stacks have names for: how their rights are counted, and that they are the script's own
use Rattle.sdd_script_model.proofs.Words.{◌≡◌, ◌≢◌, ℕ, ◌+◌, ◌≤◌, List, [], ◌∷◌, ◌++◌, Option, Some, None, slice_set, inl, inr, refl, sym, ap, ◌∙◌, arith, Claim, owner_of, right_to, one, IsLedger, OwnerOrCell, World, ledger-laws, one_where, Val, holdings_of, ScriptState, IsListCell, IsSecondCell, holding_at, shared_cell, named, contained, stacked, common_steps, ◌==◌, is_right_to, once-where, has_right}
use Rattle.sdd_script_model.proofs.NameCounts.{entry-less, rights-more, some-holding}
use Rattle.sdd_script_model.proofs.Entry.{at-other}
use Rattle.sdd_script_model.proofs.Links.{same-once}
use Rattle.sdd_script_model.proofs.Listed.{AreOwn}

-- the right to a cell counts there, and nowhere else
stack-where : (h : OwnerOrCell) (c : ℕ) → shared_cell (Some h) ≡ Some c → (j : ℕ) → one_where (is_right_to j h) ≡ one_where (c == j)
stack-where h c e j = grind arith

-- as names are given and spent
module _ (stacks : List (Option OwnerOrCell)) where
  pub stack-spent : (n c : ℕ) (h : OwnerOrCell) → holding_at stacks n ≡ Some h → shared_cell (Some h) ≡ Some c → (u : Claim) →
      stacked stacks u ≡ stacked (slice_set stacks n None) u + one (right_to c) u
  stack-spent n c h there is u =
      let less = λ (j : ℕ). entry-less (has_right j) refl stacks n h there in let at = stack-where h c is in grind (arith, once-where)

  pub stack-given : (h : OwnerOrCell) (c : ℕ) → shared_cell (Some h) ≡ Some c → (u : Claim) →
      stacked (stacks ++ Some h ∷ []) u ≡ stacked stacks u + one (right_to c) u
  stack-given h c is (owner_of j) = omega arith
  stack-given h c is (right_to j) = omega (arith, rights-more stacks h j, stack-where h c is j, once-where (c == j))

-- each name of these is one right to its cell
pub stacked-right : (hs : List (Option OwnerOrCell)) (n c : ℕ) → shared_cell (holding_at hs n) ≡ Some c → 1 ≤ stacked hs (right_to c)
stacked-right hs n c named = grind (arith, common_steps)

-- two names of the same cell are two rights to it
pub stacked-twice : (hs : List (Option OwnerOrCell)) (n m c : ℕ) → n ≢ m → shared_cell (holding_at hs n) ≡ Some c → shared_cell (holding_at hs m) ≡ Some c →
    2 ≤ stacked hs (right_to c)
stacked-twice hs n m c apart one two =
    let h = some-holding shared_cell refl (holding_at hs n) c one in
    let more = stacked-right (slice_set hs n None) m c (ap shared_cell (at-other hs n m None None (λ same. apart (sym same))) ∙ two) in
    omega (arith, stack-spent hs n c h.0 h.1 h.2 (right_to c), same-once c, more)

-- a list is a queue's right to its cell or a stack's
pub list-part : (d : ScriptState) (c : ℕ) → IsListCell d c → 1 ≤ stacked d.queues (right_to c) + stacked d.stacks (right_to c)
list-part d c (inl (n, named)) = omega (arith, stacked-right d.queues n c named)
list-part d c (inr (n, named)) = omega (arith, stacked-right d.stacks n c named)

pub list-right : (d : ScriptState) (c : ℕ) → IsListCell d c → 1 ≤ contained d (right_to c)
list-right d c x = omega (arith, list-part d c x)

pub second-right : (d : ScriptState) (c b : ℕ) → IsSecondCell d c b → 1 ≤ contained d (right_to b)
second-right d c b (n, oldest, newest) = omega (arith, stacked-right d.newest n b newest)

-- so whatever else is outside, the cells are the script's own
pub are-own : (d : ScriptState) (w : World Val) (all total : Claim → ℕ) → IsLedger holdings_of total w → ((u : Claim) → contained d u ≤ all u) →
    ((u : Claim) → all u ≤ total u) → AreOwn (IsListCell d) (IsSecondCell d) all
are-own d w all total ledger more whole = record {
  first = λ c x. omega (arith, list-right d c x, more (right_to c));
  second = λ c b y. omega (arith, second-right d c b y, more (right_to b));
  two = λ a c b x (n, oldest, newest) same.
      (let part = list-part d a x in
      let other : 1 ≤ stacked d.newest (right_to a) = stacked-right d.newest n a (newest ∙ ap (λ (i : ℕ). Some i) (sym same)) in
      let both : 2 ≤ total (right_to a) = omega (arith, part, other, more (right_to a), whole (right_to a)) in
      let one = ((ledger-laws holdings_of w).tells total ledger).alone a (omega (arith, both)) in
      omega (arith, one.1, both));
}
