pub mod Behind
pub mod Laid
pub mod OneTree
pub mod ReadTrees
pub mod Shapes
pub mod Single
pub mod WriteTrees
