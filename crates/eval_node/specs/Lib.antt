pub mod Evaluations
pub mod Evals
pub mod EvalLaws
pub mod Rows
