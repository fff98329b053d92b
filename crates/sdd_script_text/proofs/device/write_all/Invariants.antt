use Rattle.sdd_script_text.proofs.Words.{◌≡◌, ◌-◌, ◌≤◌, length, take, Appends}
use Rattle.sdd_script_text.proofs.device.write_all.Given as goal

abbrev pub invariant-loop-written : goal.invariant-loop-written
invariant-loop-written g l = record {
  bytes : Appends (g.S.Sink.contents l.fn.sink) (g.S.Sink.contents l.sink) (take l.written l.bytes);
  failures : g.S.Sink.failures l.sink ≡ g.S.Sink.failures l.fn.sink;
  within : l.written ≤ length l.bytes;
}

abbrev pub decreases-loop-written : goal.decreases-loop-written
decreases-loop-written g l = length l.bytes - l.written
