pub mod Beginning
pub mod Finding
pub mod Lasting
pub mod Pushing
