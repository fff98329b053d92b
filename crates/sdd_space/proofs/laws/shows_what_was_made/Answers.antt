use Rattle.std.proofs.Common.{ap, sym, ◌∙◌}
use Rattle.sdd_space.specs.Owned.{right_of}
use Rattle.sdd_space.specs.CallerId.{CallerId}
use Rattle.sdd_space.proofs.laws.shows_what_was_made.Goals as goal

-- the owner's item kept the value that it was made with, and has no other
pub returns-clause-seen : goal.returns-clause-seen
returns-clause-seen g c =
    let items = g.met.S.Shows in
    let seen = c.get_guarded_ref-seen in
    let made = c.in_ok-owner in
    let caller = g.met.S.Caller in
    let home = caller.home_is_caller c.new.new.s ∙ (ap (λ (x : CallerId). x.home) (sym seen.ensures.undisturbed.caller)
    ∙ sym (caller.home_is_caller seen.new.s)) in
    let kept = items.keeps_owned c.new.new.s seen.new.s home seen.ensures.undisturbed.shown (right_of made.owner) c.args.value made.ensures.shown in
    items.one_owned seen.new.s (right_of made.owner) seen.result.now c.args.value seen.ensures.value kept
