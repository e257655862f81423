pub mod Files
pub mod Entailment
