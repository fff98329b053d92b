-- A participant of a domain as the generic calls see it
pub use Rattle.sdd_domain_core.specs.Space.{RecordsShow, SeesValue, is_lone, caller_in, ShowsBy, Shows, caller_of, known_of, slots_home}
