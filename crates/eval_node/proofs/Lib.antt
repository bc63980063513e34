pub mod EvaluationLaws
pub mod CountLaws
pub mod FieldLaws
