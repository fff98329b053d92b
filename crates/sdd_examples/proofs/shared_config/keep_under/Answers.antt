use Rattle.std.proofs.Common.{◌≡◌, subst, sym, IfSome, Option, Some}
use Rattle.sdd_space.specs.Ptr.{slot_named}
use Rattle.sdd_space.specs.Shared.{right_of, slot_of}
use Rattle.sdd_examples.specs.declared.shared_config.Bounds.{Bounds}
use Rattle.sdd_examples.proofs.shared_config.keep_under.Goals as goal

-- the owner is of the slot that the pointer names, which shows what was seen
pub returns-in-Some-2-clause-owned : goal.returns-in-Some-2-clause-owned
returns-in-Some-2-clause-owned g c =
    let owner = c.in-Some-2.owner in
    let Owns : Option Bounds → Type 0 = λ o. IfSome o (λ v. g.S.Shows.owns_value c.get_shared.new.s (right_of owner) v) in
    let named : slot_named c.load-ptr.result ≡ Some (slot_of owner) = rw c.in-Some-2.is at c.in_ok-owner.ensures.slot in
    let shown = c.load-ptr.ensures.shown.full (slot_of owner) named in
    let value : (v : Bounds) → g.S.Shows.shows c.load-ptr.new.s (slot_of owner) v → g.S.Shows.owns_value c.get_shared.new.s (right_of owner) v =
    rw c.in-Some-2.is at c.in_ok-owner.ensures.value in
    subst Owns (sym c.in-Some.ensures.shown) (subst Owns (sym shown.1) (value shown.0 shown.2))
