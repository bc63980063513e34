-- the JSON texts of replies
pub mod Texts
-- the replies that have them
pub mod Bodies
-- the values that the texts are read back as
pub mod Values
-- which asks are changes, and what a status says of them
pub mod Asks
