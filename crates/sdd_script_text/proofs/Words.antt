-- The words of specifications and of std that several proofs use
pub use Rattle.std.proofs.Common.{All, Bool, Err, IfSome, IsAscii, IsTrue, IsUtf8, List, MatchOption, None, Ok, OnSome, Option, Result, Some, [], add-one, ap, append-nil, ap₂, arith, bytes_eq, codes, decimal, drop, eq-eqb, eqb, false, flat_map, get_or, if◌then◌else◌, leb, leb-true, length, length-append, lit<, map, nat_lt, ne_eqb, refl, rules, string_bytes, subst, suc, sym, take, take-add, take-append-drop, take_all, true, vec_len, zero, ℕ, ◌&&◌, ◌++◌, ◌+◌, ◌-◌, ◌<◌, ◌==◌, ◌^◌, ◌↔◌, ◌∙◌, ◌∷◌, ◌≡◌, ◌≢◌, ◌≤◌}
pub use Rattle.std.proofs.lemmas.Bool.{cond-false, cond_both, false_from_ne_true}
pub use Rattle.std.proofs.lemmas.Bool.Decides.{Decides-eqb, nat_tests}
pub use Rattle.std.proofs.lemmas.Grind.{common_steps}
pub use Rattle.std.proofs.lemmas.List.{drop_more, get_or-take, length-map, length-take-le, take_rest}
pub use Rattle.std.proofs.lemmas.Slice.Eq.{bytes_eq-Decides}
pub use Rattle.std.specs.Fmt.{HasWritten, IsPlainFormatter}
pub use Rattle.std.specs.Io.KnownBytes.{Appends, Consumes, IsAtEnd}
pub use Rattle.std.specs.List.{AllByRecursion, onto_first}
pub use Rattle.sdd_script_text.specs.Answer.{text_of_all}
pub use Rattle.sdd_script_text.specs.Call.{HasNumber, HasNumbers, IsCallText, IsNumber, IsTextOf, IsWordOf, joined, line_of, spoken, word_of, words, words_of}
pub use Rattle.sdd_script_text.specs.Device.{ConsumesSome}
pub use Rattle.sdd_script_text.specs.Script.{AreCalls, AreLines, IsFirstOther, IsTextOfSome, lines, most_calls}
pub use Rattle.sdd_script_text.specs.declared.call.Call.{Call}
