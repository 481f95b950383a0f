-- `Places`: where a record stands in its list, and the part that a view hands back.
pub mod Places
