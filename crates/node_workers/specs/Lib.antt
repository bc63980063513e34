-- what workers leave of cells
pub mod Workers
