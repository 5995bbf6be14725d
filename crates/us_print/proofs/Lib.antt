pub mod Known
pub mod Plain
pub mod CanonTokens
pub mod Kept
pub mod RoundTrip
pub mod Printed
pub mod ViewTells
pub mod ParseBack
