-- A domain as its callers see it
pub use Rattle.sdd_domain_core.specs.Domain.{home_of, limits_of, gamma_of, slots_in, cells_in}
