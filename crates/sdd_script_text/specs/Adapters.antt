-- What an adapter holds: one of std's readers or writers, and the count of its failures
use Rattle.std.specs.Prelude.{ℕ}
use Rattle.sdd_script_text.specs.declared.device.std_adapters.Reader.{Reader}
use Rattle.sdd_script_text.specs.declared.device.std_adapters.Writer.{Writer}

abbrev pub reader_inner : {R : Type 0} → Reader R → R
reader_inner reader = reader.inner

abbrev pub reader_failures : {R : Type 0} → Reader R → ℕ
reader_failures reader = reader.failures

abbrev pub writer_inner : {W : Type 0} → Writer W → W
writer_inner writer = writer.inner

abbrev pub writer_failures : {W : Type 0} → Writer W → ℕ
writer_failures writer = writer.failures
