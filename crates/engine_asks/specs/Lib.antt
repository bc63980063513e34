-- the reply that is due to an ask
pub mod Replies
-- what stands behind an ask
pub mod Nexts
