use Rattle.sdd_script.proofs.Words.{reads_all}
use Rattle.sdd_script.proofs.player.play.Goals as goal

pub returns-clause-plays : goal.returns-clause-plays
returns-clause-plays g c = record {
  text = c.in-Ok.text.items;
  printed = c.in-Ok-print_of.printed.items;
  whole = c.in-Ok-print_of.ended;
  reads = reads_all _ _ _ c.in-Ok.ensures.bytes c.in-Ok.ensures.consumed c.in-Ok.ensures.end;
  prints = rw c.as_slice.ensures.value at c.in-Ok-print_of.ensures.prints;
  writes = rw c.as_slice-2.ensures.value at c.in-Err.ensures.fault;
}
