pub mod ClientPointerValue
pub mod Fields
pub mod ServerPointerValue
