pub mod Leaving
mod Filling
mod Waiting
