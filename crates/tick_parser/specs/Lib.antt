pub mod Trees
pub mod Grammar
pub mod Script
pub mod Refusal
pub mod Lambdas
pub mod Machine
pub mod Stack
pub mod States
