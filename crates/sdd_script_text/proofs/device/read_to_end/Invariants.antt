use Rattle.sdd_script_text.proofs.Words.{◌≡◌, ◌-◌, ◌^◌, vec_len, Consumes}
use Rattle.sdd_script_text.proofs.device.read_to_end.Given as goal

-- the bytes so far are what was read
abbrev pub invariant-loop-bytes : goal.invariant-loop-bytes
invariant-loop-bytes g l = record {
  read : Consumes (g.S.Source.remaining l.fn.source) (g.S.Source.remaining l.source) l.bytes.items;
  failures : g.S.Source.failures l.source ≡ g.S.Source.failures l.fn.source;
}

-- each round reads a byte, and fewer than 2 ^ 63 bytes are in memory
abbrev pub decreases-loop-bytes : goal.decreases-loop-bytes
decreases-loop-bytes g l = 2 ^ 63 - vec_len l.bytes
