use Rattle.std.proofs.Common.{◌≡◌, ℕ, ◌*◌, List, length, refl, sym, ap, subst, ◌∙◌, replicate}
use Rattle.std.specs.FinSet as set
use Rattle.sdd_machine.specs.Table.{Items}
use Rattle.sdd_machine.specs.Bags.{ThreeBags, no_items, trios_of, AreTrios}
use Rattle.sdd_machine.specs.Chains.{ChainedBags}
use Rattle.sdd_machine.proofs.ThreeBags.{new_trios}
use Rattle.std.proofs.lemmas.List.{length-replicate}
use Rattle.sdd_machine.proofs.machine.bags.Bags.new.Goals as goal

pub invariant_of-result : goal.invariant_of-result
invariant_of-result c =
    let n = c.args.places in
    let a = length-replicate {A = Items} (3 * n) set.empty in
    let z : length (trios_of (replicate (3 * n) set.empty)) ≡ n = ap (λ (ts : List ThreeBags). length ts) (new_trios n (3 * n) refl)
    ∙ length-replicate n no_items in
    subst AreTrios (sym (ap (λ (s : ChainedBags). s.bags) c.in_ok-new.ensures)) (a ∙ ap (λ (k : ℕ). 3 * k) (sym z))

pub returns : goal.returns
returns c =
    ap (λ (s : ChainedBags). record { items = s.items; trios = trios_of s.bags }) c.in_ok-new.ensures
    ∙ ap (λ (ts : List ThreeBags). record { items = c.args.items; trios = ts }) (new_trios c.args.places (3 * c.args.places) refl)
