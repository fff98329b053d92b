use Rattle.sdd_interpreter.proofs.log.Log.items_among.Goals as goal

pub items_in-requires : goal.items_in-requires
items_in-requires c = record {
  named = rw (c.as_slice.ensures.value, c.as_slice-2.ensures.value, c.in_ok-slots.ensures) c.requires.named;
}
