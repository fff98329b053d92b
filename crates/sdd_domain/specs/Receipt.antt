-- What an ended participant leaves behind, as its caller has it, and when receipts add up.
pub use Rattle.sdd_domain_steps.specs.Receipt.{Receipt, AddsUp}
