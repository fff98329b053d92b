pub mod Environment
pub mod Interpreter
pub mod Owners
pub mod Containers
pub mod Copies
pub mod Guards
