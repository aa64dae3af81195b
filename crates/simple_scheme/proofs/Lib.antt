pub mod Lists
pub mod MaskColumns
pub mod Recovering
pub mod Rows
