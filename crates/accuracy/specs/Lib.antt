-- The root of accuracy's claims.
pub mod Claims
