pub mod Changes
pub mod BenchCalls
pub mod Plans
