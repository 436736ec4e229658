pub mod ReadBack
pub mod ObjectReadBack
