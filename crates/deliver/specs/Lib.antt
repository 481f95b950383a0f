-- `Printed`: what is printed, and where; the rows of a row list in print.
pub mod Printed
