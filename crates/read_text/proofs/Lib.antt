-- Numbers with a sign, as the code has them.
pub mod Signed
