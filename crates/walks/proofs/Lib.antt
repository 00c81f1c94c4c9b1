pub mod Ways
pub mod Follow
pub mod Lists
pub mod AllPaths
pub mod Buffers
pub mod Walks
pub mod Trails
pub mod OnlyList
