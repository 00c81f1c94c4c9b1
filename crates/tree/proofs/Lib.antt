pub mod TreeLaws
pub mod SizeLaws
