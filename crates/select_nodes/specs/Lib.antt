-- what stands at a field of points
pub mod Picks
-- lists in the order of their values
pub mod Ranks
-- what each select gives of a batch's points
pub mod Choices
-- the points that these are given in
pub mod Results
-- what the code keeps of the points that it passed
pub mod Steps
-- examples
pub mod Rows
