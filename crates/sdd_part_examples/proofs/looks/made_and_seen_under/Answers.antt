use Rattle.std.proofs.Common.{IsTrue, ap, sym, ◌∙◌}
use Rattle.sdd_participants.specs.EpochState.{is_open}
use Rattle.sdd_space.specs.CallerId.{CallerId}
use Rattle.sdd_space.specs.Owned.{right_of}
use Rattle.sdd_part_examples.proofs.looks.made_and_seen_under.Goals as goal

-- the owner's item kept the value that it was made with, and has no other
pub returns-clause-first : goal.returns-clause-first
returns-clause-first g c =
    let items = g.met.S.Shows in
    let caller = g.met.S.Caller in
    let right = right_of c.in-Ok.owner in
    let first = c.get_guarded_ref-first in
    let kept = items.keeps_owned c.new.new.s first.new.s
    (caller.home_is_caller c.new.new.s ∙ (ap (λ (x : CallerId). x.home) (sym first.ensures.undisturbed.caller) ∙ sym (caller.home_is_caller first.new.s)))
    first.ensures.undisturbed.shown right c.args.value c.in-Ok.ensures.shown in
    items.one_owned first.new.s right first.result.now c.args.value first.ensures.value kept

pub returns-clause-second : goal.returns-clause-second
returns-clause-second g c =
    let items = g.met.S.Shows in
    let caller = g.met.S.Caller in
    let right = right_of c.in-Ok.owner in
    let first = c.get_guarded_ref-first in
    let inner = c.new-2 in
    let second = c.get_guarded_ref-second in
    let opened : IsTrue (is_open (g.S.Caller.own first.new.s)) =
    ap is_open (first.ensures.undisturbed.own ∙ c.in-Ok.ensures.undisturbed.own) ∙ c.requires.open in
    let at_first = items.keeps_owned c.new.new.s first.new.s
    (caller.home_is_caller c.new.new.s ∙ (ap (λ (x : CallerId). x.home) (sym first.ensures.undisturbed.caller) ∙ sym (caller.home_is_caller first.new.s)))
    first.ensures.undisturbed.shown right c.args.value c.in-Ok.ensures.shown in
    let at_inner = items.keeps_owned first.new.s inner.new.s
    (caller.home_is_caller first.new.s ∙ (ap (λ (x : CallerId). x.home) (sym c.in-Ok-new.ensures.caller) ∙ sym (caller.home_is_caller inner.new.s)))
    (c.in-Ok-new.ensures.keeps opened) right c.args.value at_first in
    let kept = items.keeps_owned inner.new.s second.new.s
    (caller.home_is_caller inner.new.s ∙ (ap (λ (x : CallerId). x.home) (sym second.ensures.undisturbed.caller) ∙ sym (caller.home_is_caller second.new.s)))
    second.ensures.undisturbed.shown right c.args.value at_inner in
    items.one_owned second.new.s right second.result.now c.args.value second.ensures.value kept
