-- `Rows`: what a row gives to the kept rows and to the fixes.
pub mod Rows
