pub mod FaultLaws
pub mod AskLaws
pub mod NextLaws
pub mod CountLaws
