pub mod Packing
pub mod Refusals
pub mod Grows
pub mod Running
pub mod Accepted
pub mod Filling
pub mod Laid
pub mod FlowRows
