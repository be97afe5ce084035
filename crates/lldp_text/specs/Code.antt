-- Definitions close to the code: hexadecimal digits, sixteen octets at a time; texts of kept TLVs.
pub mod Digits
pub mod Kept
