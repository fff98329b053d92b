-- Places of jobs, after each step on one
pub mod DeferredJobs
pub mod JobSteps
