-- What no promise rests on, which a reader of the promises can pass over.
pub mod Finding
pub mod Endings
pub mod Held
pub mod Looking
pub mod Receiving
pub mod Settling
pub mod Going
