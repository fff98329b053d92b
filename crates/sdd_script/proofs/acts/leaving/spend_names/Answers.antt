use Rattle.sdd_script.proofs.Words.{index_of}
use Rattle.sdd_script.proofs.ScriptEnd.{begins, ends, goes-then, live-in, nests-so, nothing-made, reader-opened, reader-still, some-placed}
use Rattle.sdd_script.proofs.acts.leaving.spend_names.Goals as goal

pub returns-then-not-has_made-clause-spent : goal.returns-then-not-has_made-clause-spent
returns-then-not-has_made-clause-spent c =
    nothing-made c.args.environment.now c.requires.sound (λ made. let yes = c.has_made.ensures.1 made in absurd (cc)) c.requires.shut c.is_whole.ensures
    c.requires.collectors

pub some_place-place-requires : goal.some_place-place-requires
some_place-place-requires c = record {
  some = some-placed c.args.environment.now c.requires.sound c.requires.shut (c.has_made.ensures.0 c.if-not-has_made.false);
}

pub unreachable-requires : goal.unreachable-requires
unreachable-requires c =
    let at = c.some_place-place in
    c.in_default.ensures.done.1.1
    (nests-so c.args.environment.now c.requires.sound c.requires.shut (index_of at.result) at.new.world at.ensures.revived at.ensures.nests)

pub spend_queues-requires-clause-ending : goal.spend_queues-requires-clause-ending
spend_queues-requires-clause-ending c =
    let at = c.some_place-place in
    (begins c.args.environment.now c.requires.sound c.requires.shut (index_of at.result) at.new.world c.at.new.world at.ensures.revived at.ensures.place
    c.is_whole-2.ensures c.in-Ok.ensures.done.1.1).ending

pub spend_queues-requires-clause-reader : goal.spend_queues-requires-clause-reader
spend_queues-requires-clause-reader c = reader-opened c.some_place-place.new.world _ _ _ c.in-Ok.ensures.done.1.1 c.in-Ok.ensures.done.0

pub spend_stacks-requires-clause-reader : goal.spend_stacks-requires-clause-reader
spend_stacks-requires-clause-reader c =
    reader-still c.spend_queues.ensures.goes _ (reader-opened c.some_place-place.new.world _ _ _ c.in-Ok.ensures.done.1.1 c.in-Ok.ensures.done.0)

pub spend_bags-requires-clause-reader : goal.spend_bags-requires-clause-reader
spend_bags-requires-clause-reader c =
    reader-still (goes-then c.spend_queues.ensures.goes c.spend_stacks.ensures.goes) _
    (reader-opened c.some_place-place.new.world _ _ _ c.in-Ok.ensures.done.1.1 c.in-Ok.ensures.done.0)

pub at-requires-2-clause-place : goal.at-requires-2-clause-place
at-requires-2-clause-place c = live-in c.give_up_raw_items.new.environment _ c.give_up_raw_items.ensures.goes.ending

pub at-requires-2-clause-asked : goal.at-requires-2-clause-asked
at-requires-2-clause-asked c =
    reader-still
    (goes-then c.spend_queues.ensures.goes
    (goes-then c.spend_stacks.ensures.goes
    (goes-then c.spend_bags.ensures.goes
    (goes-then c.spend_owners.ensures.goes (goes-then c.spend_cells.ensures.goes c.give_up_raw_items.ensures.goes))))) _
    (reader-opened c.some_place-place.new.world _ _ _ c.in-Ok.ensures.done.1.1 c.in-Ok.ensures.done.0)

pub returns : goal.returns
returns c =
    let at = c.some_place-place in
    let begun =
    begins c.args.environment.now c.requires.sound c.requires.shut (index_of at.result) at.new.world c.at.new.world at.ensures.revived at.ensures.place
    c.is_whole-2.ensures c.in-Ok.ensures.done.1.1 in
    let all =
    goes-then begun
    (goes-then c.spend_queues.ensures.goes
    (goes-then c.spend_stacks.ensures.goes
    (goes-then c.spend_bags.ensures.goes
    (goes-then c.spend_owners.ensures.goes (goes-then c.spend_cells.ensures.goes c.give_up_raw_items.ensures.goes))))) in
    let e6 = c.give_up_raw_items.ensures.rest in
    let e5 = c.spend_cells.ensures.rest in
    let e4 = c.spend_owners.ensures.rest in
    let e3 = c.spend_bags.ensures.rest in
    let e2 = c.spend_stacks.ensures.rest in
    let e1 = c.spend_queues.ensures.rest in
    record {
      spent = ends c.give_up_raw_items.new.environment _ c.give_up_raw_items.ensures.goes.ending c.is_whole-3.ensures (
        rw (e6, e5) c.spend_owners.ensures.spent,
        rw e6 c.spend_cells.ensures.spent,
        rw (e6, e5, e4, e3, e2, e1) c.requires.collectors,
        rw (e6, e5, e4, e3, e2) c.spend_queues.ensures.spent,
        rw (e6, e5, e4, e3) c.spend_stacks.ensures.spent,
        rw (e6, e5, e4) c.spend_bags.ensures.spent,
      ) c.give_up_raw_items.ensures.gone c.at-2.new.world c.at-2.ensures.done c.is_whole-4.ensures;
      shut = rw (e6, e5, e4, e3, e2, e1) c.requires.shut;
      told = rw c.at-2.ensures.done all.told;
    }
