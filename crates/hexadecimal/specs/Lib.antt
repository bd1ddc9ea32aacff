pub mod Hex
pub mod Nodes
pub mod Promises
pub mod HexLaws
pub mod NodesLaws
