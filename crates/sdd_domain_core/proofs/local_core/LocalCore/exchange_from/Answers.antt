use Rattle.sdd_domain_core.proofs.AtTable.{loose_from, loose_to}
use Rattle.std.proofs.Common.{rules, Bool, sym, ◌∙◌}
use Rattle.sdd_atomics.specs.TableFacts.{facts_of}
use Rattle.sdd_rights.specs.StandingKind.{is_shared}
use Rattle.sdd_domain_invariant.specs.Codes.{held_slots}
use Rattle.sdd_world_model.specs.Cells.{slot_held}
use Rattle.sdd_domain_steps.proofs.HeldOwners.{cell_views, same_bound, word_bound, listed_first}
use Rattle.sdd_domain_core.proofs.local_core.LocalCore.exchange_from.Goals as goal

pub returns-in-Err-clause-back : goal.returns-in-Err-clause-back
returns-in-Err-clause-back g c = let new = c.loosen-new in let b = (facts_of c.self.inside.domain.now.table) in let shared : Bool = is_shared c.args.kind in
    let views = cell_views c.args.self.now.home c.args.cell.now c.args.kind c.witness.result.now c.number.result c.requires.home c.requires.kind
    c.witness.ensures.cell c.number.ensures in
    let tells = c.in-Err.ensures.held shared views (loose_to c.self.invariant.0 shared new.result new.ensures.loose) in
    same_bound b c.args.kind shared c.args.held c.bind.result new.result c.in-Err.back new.ensures.bound c.bind.ensures new.ensures.loose
    (loose_from c.self.invariant.0 shared c.in-Err.back tells.0)
    c.in-Err.ensures.exchanged.1 tells.1

pub returns-clause-exchanged : goal.returns-clause-exchanged
returns-clause-exchanged g c = let new = c.loosen-new in let b = (facts_of c.self.inside.domain.now.table) in
    let out = c.bind-2 in (
      search rules,
      sym (listed_first (slot_held out.result) (held_slots c.args.old) (out.ensures.slots ∙ c.in-Ok.ensures.exchanged.1)),
      (
        c.word_for-word.result,
        c.word_for-word.ensures.taken,
        word_bound b c.args.kind c.args.held new.result c.args.tag c.word_for-word.result new.ensures.bound c.word_for-word.ensures.contents,
        record { writes = record { member = search rules; inside = search rules; lone = search rules }; full = search rules },
      ),
    )
