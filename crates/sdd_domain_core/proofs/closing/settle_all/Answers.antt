use Rattle.std.proofs.Common.{ℕ, ◌≡◌, ◌+◌, ◌-◌, ◌++◌, ◌∷◌, [], All, List, length, vec_len, refl, sym, ◌∙◌, subst, arith, get_or-set_same}
use Rattle.std.proofs.lemmas.List.{set-set}
use Rattle.sdd_domain_core.specs.Domain.{slots_in}
use Rattle.sdd_domain_steps.specs.Receipt.{Receipt, IsSettled, AreSettled}
use Rattle.sdd_domain_core.proofs.SettledReceipts.{Going, begins, still_long, still_home, goes_on, ends, front_of, one_settled}
use Rattle.sdd_domain_core.proofs.closing.settle_all.Goals as goal

pub loop-index-init : goal.loop-index-init
loop-index-init g c = record { few = omega arith; held = refl; going = begins _ 0 c.pop.new.self.items (omega arith) refl }

pub settle-requires : goal.settle-requires
settle-requires g c =
    let long : vec_len c.pop.new.self ≡ length c.pop.new.self.items = c.pop.new.self.ok.0 in let end = c.len-index-end.ensures in
    let test = c.loop-index-test.true in let is_home : Receipt → Type 0 = λ r. r.home ≡ slots_in c.args.domain.now in
    still_home _ _ c.pop.new.self.items c.loop-index.receipts.items c.loop-index.invariant.going (omega arith)
    is_home c.replace-receipt.result c.index_mut.result.now (c.replace-receipt.ensures.value ∙ c.index_mut.ensures.value)
    (front_of is_home c.pop.new.self.items (c.in-Some.held ∷ []) (subst (All is_home) c.in-Some.ensures.items c.requires.homes))

pub loop-index-preserved : goal.loop-index-preserved
loop-index-preserved g c =
    let was = c.loop-index.invariant in let few = was.few in let own = c.settle.ensures.few in
    let long : vec_len c.pop.new.self ≡ length c.pop.new.self.items = c.pop.new.self.ok.0 in let end = c.len-index-end.ensures in
    let test = c.loop-index-test.true in let still = still_long _ _ c.pop.new.self.items c.loop-index.receipts.items was.going in record {
      few = omega arith;
      held = c.replace-held.ensures.value ∙ (c.index_mut-in-loop-index.ensures.value
          ∙ (get_or-set_same c.loop-index.receipts.items c.loop-index.index c.replace-receipt.new.dest c.index_mut-in-loop-index.result.now (omega arith)
          ∙ (c.replace-receipt.ensures.after ∙ was.held)));
      going = subst (Going (c.args.left.now - c.settle.new.left) (c.loop-index.index + 1) c.pop.new.self.items)
          (sym (set-set c.loop-index.receipts.items c.loop-index.index c.replace-receipt.new.dest c.replace-held.new.dest))
          (goes_on _ _ c.pop.new.self.items c.loop-index.receipts.items was.going (omega arith) (c.loop-index.left - c.settle.new.left) _ _
          c.replace-receipt.result c.index_mut.result.now c.replace-held.new.dest (c.replace-receipt.ensures.value ∙ c.index_mut.ensures.value)
          (subst (IsSettled (c.loop-index.left - c.settle.new.left) c.replace-receipt.result) (sym c.replace-held.ensures.after) c.settle.ensures.settled)
          (omega arith) refl);
    }

pub returns-clause-settled : goal.returns-clause-settled
returns-clause-settled g c =
    let was = c.loop-index.invariant in let few = was.few in let own = c.settle-2.ensures.few in
    let long : vec_len c.pop.new.self ≡ length c.pop.new.self.items = c.pop.new.self.ok.0 in let end = c.len-index-end.ensures in
    let test = c.loop-index-test.false in let all = ends _ _ c.pop.new.self.items c.loop-index.receipts.items was.going (omega arith) in
    let one = subst (λ (r : Receipt). IsSettled (c.loop-index.left - c.settle-2.new.left) r c.settle-2.result) was.held c.settle-2.ensures.settled in
    let both = one_settled _ (c.loop-index.left - c.settle-2.new.left) c.pop.new.self.items c.loop-index.receipts.items c.in-Some.held c.settle-2.result all
    one in
    let left : ℕ = c.args.left.now - c.settle-2.new.left in
    let sum : c.args.left.now - c.loop-index.left + (c.loop-index.left - c.settle-2.new.left) ≡ left = omega arith in
    let settled = subst (λ (n : ℕ). AreSettled n (c.pop.new.self.items ++ c.in-Some.held ∷ []) (c.loop-index.receipts.items ++ c.settle-2.result ∷ [])) sum
    both in subst (λ (xs : List Receipt). AreSettled left xs c.push_reserved.new.self.items) (sym c.in-Some.ensures.items)
    (subst (λ (ys : List Receipt). AreSettled left (c.pop.new.self.items ++ c.in-Some.held ∷ []) ys) (sym c.push_reserved.ensures.items) settled)
