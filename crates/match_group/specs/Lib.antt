-- `Listing`: the bytes of a listing, spec by spec and item by item.
pub mod Listing
