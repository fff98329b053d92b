use Rattle.std.proofs.Common.{rules, ap, ◌∙◌}
use denote.Builtin.{u64}
use Rattle.sdd_space.specs.Owned.{right_of}
use Rattle.sdd_space.specs.CallerId.{IsExact}
use Rattle.sdd_domain.specs.Local.{IsLone, one_value}
use Rattle.sdd_domain.specs.Space.{caller_of}
use Rattle.sdd_participants.specs.declared.participant.Participant.{Participant}
use Rattle.sdd_part_examples.proofs.GuardOpened.{guards-shut}
use Rattle.sdd_examples.proofs.EmptyTable.{full_is_not_blank}
use Rattle.sdd_examples.proofs.lone.first_item.Goals as goal

pub unreachable-requires : goal.unreachable-requires
unreachable-requires c = let lone : IsLone c.in_ok-local.local.member = search rules in
    let exact : IsExact (caller_of c.in_ok-local.local) = search rules in
    full_is_not_blank _ _ _ (c.in_ok-local.ensures.blank lone).standings c.requires.slots (c.in_default.ensures.exact exact).0

-- the owner's item has one value
pub returns : goal.returns
returns c = one_value u64 (right_of c.in-Ok.owner) c.get_guarded_ref-seen.result.now 7 c.get_guarded_ref-seen.ensures.value c.in-Ok.ensures.shown

-- none of its guards is open
pub unreachable-requires-in-Err : goal.unreachable-requires-in-Err
unreachable-requires-in-Err c = let made = c.in-Ok.ensures.undisturbed.own in let seen = c.get_guarded_ref-seen.ensures.undisturbed.own in
    let none = ap (λ (x : Participant). x.guards) made ∙ ap (λ (x : Participant). x.guards) c.in_ok-local.ensures.registered.own in
    guards-shut _ _ _ _ none c.in-Ok-new.ensures.own.1
    (ap (λ (x : Participant). x.guards) c.retire.ensures.own ∙ ap (λ (x : Participant). x.guards) seen) c.close.ensures.own c.in-Err.ensures.0
