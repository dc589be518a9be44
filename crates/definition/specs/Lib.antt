pub mod Grammar
pub mod Lawful
pub mod Converters
pub mod PatternTrees
pub mod ExprTrees
pub mod RuleTrees
pub mod Syntax
pub mod Pieces
