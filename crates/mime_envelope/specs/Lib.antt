pub mod Engine
pub mod Views
pub mod Parts
