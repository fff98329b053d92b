use Rattle.std.proofs.Common.{◌≡◌, false, List, [], ◌∷◌, ◌++◌, All, sym, ap, ◌∙◌, subst, append_assoc}
use Rattle.sdd_rights.specs.declared.views.View.{View}
use Rattle.sdd_domain_steps.specs.Receipt.{Receipt, HasTaken}
use Rattle.sdd_domain_core.proofs.Tallies.{front_all, one_taken}
use Rattle.sdd_domain_core.proofs.closing.take_all_counts.Goals as goal

pub loop-receipt-preserved : goal.loop-receipt-preserved
loop-receipt-preserved g c = let inv = c.loop-receipt.invariant in let left = c.into_counts-counts.ensures.counts in
    let took = c.take_counts.ensures left.0 left.1 in
    let r : Receipt = c.in-Some.receipt in let done : List Receipt = inv.taken.0 in let rest : List Receipt = c.pop.new.self.items in
    let of_domain : Receipt → Type 0 = λ r. r.home.tables ≡ c.args.seat.now.table_id ∷ [] in let is_over : Receipt → Type 0 = λ r. r.waits ≡ false in
    let items : c.loop-receipt.receipts.items ≡ rest ++ r ∷ [] = c.in-Some.ensures.items in record {
      home = took.0 ∙ inv.home;
      homes = front_all of_domain rest (r ∷ []) (subst (All of_domain) items inv.homes);
      over = front_all is_over rest (r ∷ []) (subst (All is_over) items inv.over);
      places = ap (λ (v : View). v.places) took.3 ∙ inv.places;
      taken = (
        r ∷ done,
        inv.taken.1 ∙ (ap (λ (l : List Receipt). l ++ done) items ∙ append_assoc rest (r ∷ []) done),
        subst (HasTaken (r ∷ done)) (sym (ap (λ (v : View). v.fractions.counts) took.3))
            (one_taken r done c.loop-receipt.seat.me.0.fractions.counts left.0 inv.taken.2 left.2),
      );
    }
