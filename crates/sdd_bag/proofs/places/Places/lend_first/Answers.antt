use Rattle.std.proofs.Common.{◌≡◌, ◌+◌, ℕ, suc, List, Some, is_some, map, sym, ap, ◌∙◌, subst, arith}
use Rattle.sdd_bag.specs.Changing.{ChangesFirst}
use Rattle.sdd_bag.specs.Storage.{KeptPlace, kept_place, names_of, value_at, with_value_at}
use Rattle.sdd_bag.proofs.Changing.{one-changed, some-kept}
use Rattle.sdd_bag.proofs.Values.{names-same}
use Rattle.sdd_bag.proofs.places.Places.lend_first.Goals as goal

pub loop-at-preserved : goal.loop-at-preserved
loop-at-preserved g c =
    let Places : Type 0 = List (KeptPlace g.row.T.Denot) in let inv = c.loop-at.invariant in let did = c.lend-change.ensures.changed in
    let ps : Places = map kept_place c.loop-at.keys.kept in let at = c.args.start + c.loop-at.at in let h = c.lend-change.result in
    let next : suc at ≡ c.args.start + (c.loop-at.at + 1) = omega arith in
    record {
      callable = c.lend-change.ensures.callable;
      names = ap (λ (rs : Places). names_of rs) did.4 ∙ names-same ps at (Some did.1) ∙ inv.names;
      same = λ k. ap (λ (rs : Places). is_some (value_at rs k)) did.4 ∙ some-kept ps at did.0 did.1 did.2 k ∙ inv.same k;
      changed = λ first before so.
          subst (λ (rs : Places). ChangesFirst g.F.FnMut (c.args.start + (c.loop-at.at + 1)) first before rs h) (sym did.4)
          (subst (λ (n : ℕ). ChangesFirst g.F.FnMut n first before (with_value_at ps at (Some did.1)) h) next
          (one-changed g.F.FnMut at first before ps c.loop-at.change did.0 did.1 h (inv.changed first before so) did.2 did.3));
    }
