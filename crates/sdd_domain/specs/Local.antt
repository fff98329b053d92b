-- What a participant of a domain is to its caller: what it keeps and knows, the world that a lone one sees, and whether it is one.
pub use Rattle.sdd_domain_steps.specs.Local.{LocalModel, world_of}
pub use Rattle.sdd_domain_steps.specs.LocalState.{IsLone}
pub use Rattle.sdd_domain_steps.specs.Values.{one_value}
