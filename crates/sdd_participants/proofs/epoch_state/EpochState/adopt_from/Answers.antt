use Rattle.std.proofs.Common.{◌<◌, length, ap, List}
use Rattle.sdd_participants.specs.Slab.{without_entry}
use Rattle.sdd_participants.specs.EpochState.{EpochState}
use Rattle.sdd_participants.specs.declared.participant.Participant.{Participant}
use Rattle.sdd_participants.proofs.Adoptions.{adopted-places}
use Rattle.sdd_participants.proofs.epoch_state.EpochState.adopt_from.Goals as goal

pub returns : goal.returns
returns c =
    let i = c.self.inside in
    let p = c.args.place in
    let q = c.args.from in
    let t : EpochState = record {
      count = i.count;
      marked = i.marked;
      places = i.places.items;
      phases = i.phases.entries;
      participants = i.phases.room;
      nesting = i.nesting;
      room = i.room;
    } in
    let inside : p < length t.places = rw (← c.self.view_is) at c.requires.places.0 in
    let from_inside : q < length t.places = rw (← c.self.view_is) at c.requires.places.1 in
    rw (← c.self.view_is, c.free.ensures)
    (ap (λ (ps : List Participant). record t { places = ps; phases = without_entry t.phases q })
    (adopted-places t p q inside from_inside c.requires.places.2 c.index_mut.result.now c.index_mut-2.result.now c.index_mut-3.result.now
    c.replace-left.new.dest c.replace-left.result c.adopt.new.self c.adopt.new.left c.index_mut.ensures.value c.replace-left.ensures.value
    c.index_mut-2.ensures.value c.adopt.ensures.adopted c.index_mut-3.ensures.value c.adopt.ensures.left))
