pub mod Config
pub mod Node
