-- Items that are out as raw: what each step on one makes
pub mod RawSteps
