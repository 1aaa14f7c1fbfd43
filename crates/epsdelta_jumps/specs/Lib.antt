pub mod State
pub mod Store
pub mod Union
