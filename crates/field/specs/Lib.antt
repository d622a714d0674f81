pub mod Gf16
pub mod Inverse
pub mod Gf16Laws
pub mod Table
pub mod Byte
pub mod ByteLaws
pub mod Primitive
